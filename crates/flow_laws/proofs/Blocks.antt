-- The blocks of an accepted body and the nodes of its graph: each block goes on as its exit says.
use Rattle.std.proofs.Common.{◌≡◌, ℕ, zero, suc, ◌+◌, ◌-◌, ◌<◌, ◌≤◌, ◌==◌, Bool, true, false, ◌&&◌, ◌||◌, List, [], ◌∷◌, length, take, drop, Option, Some, ◌⊎◌, inl, inr, ⊎_elim, refl, sym, ap, subst, ◌∙◌, arith}
use Rattle.std.specs.Prelude.{flat_map}
use Rattle.std.proofs.Math.Nat.{eq-or-lt_of_le}
use Rattle.std.proofs.lemmas.Bool.Decides.{nat_tests}
use Rattle.std.proofs.lemmas.List.Elements.{All-head}
use Rattle.flow_graph.specs.Graphs.{BeginAt, BeginsAt, IsExitTo}
use Rattle.flow_graph.specs.declared.graph.Exit.{Exit}
use Rattle.flow_graph.specs.declared.graph.Exit.TheVariants as way
use Rattle.flow_graph.specs.declared.graph.Node.{Node}
use Rattle.flow_laws.proofs.Shapes.{HasItsOperand, IsRest, aimed_none, aimed_target, closed_list, list_ends, list_goes_on, listed_to, long_list, open_after, rest_behind, rest_behind_list, taken_long}
use Rattle.flow_laws.specs.Ways.{AreListedTo, Branches, Ends, EndsIf, Goes, GoesBy, IsClosed, IsInside, Jumps, Selects}
use Rattle.stl_tree.specs.Accepted.{AreJumps, AreListed, HasList, HasOperand, IsEnded, Widths, open_at, targets_of}
use Rattle.stl_tree.specs.Blocks.{Way, always, begins_at, goes_elsewhere, if_made, is_aimed_at, is_last_at, on, one_of, still_listed, stops, unless_ended, way_after, way_by, way_of}
use Rattle.stl_tree.specs.Brackets.{AreNested, WithNumber, none_open, open_behind}
use Rattle.stl_tree.specs.declared.program.Instr.{Instr}
use Rattle.stl_tree.specs.declared.program.JumpTest.TheVariants as jump
use Rattle.stl_tree.specs.declared.program.Op.{Op}
use Rattle.stl_tree.specs.declared.program.Op.TheVariants as op

-- Exits

jumps_to : (blocks : List Node) (to : ℕ) (rest : List Instr) (e : Exit) → rest ≡ [] → IsExitTo blocks (always to) e → Jumps blocks to rest e
jumps_to blocks to rest (way.Jump j) last h = record { last = last; node = j; exit = refl; there = h }
jumps_to blocks to rest e last h = elim h [ ]

branches_to : (blocks : List Node) (i at to : ℕ) (rest : List Instr) (e : Exit) → rest ≡ [] → BeginsAt blocks (suc i) (at + 1) → IsExitTo blocks (if_made to) e
    → Branches blocks i at to rest e
branches_to blocks i at to rest (way.Branch j) last behind h = record { last = last; node = j; exit = refl; there = h; behind = behind }
branches_to blocks i at to rest e last behind h = elim h [ ]

ends_by : (blocks : List Node) (rest : List Instr) (e : Exit) → rest ≡ [] → IsExitTo blocks stops e → Ends rest e
ends_by blocks rest way.End last h = record { last = last; exit = refl }
ends_by blocks rest e last h = elim h [ ]

ends_if_by : (blocks : List Node) (i at : ℕ) (rest : List Instr) (e : Exit) → rest ≡ [] → BeginsAt blocks (suc i) (at + 1) → IsExitTo blocks unless_ended e
    → EndsIf blocks i at rest e
ends_if_by blocks i at rest way.EndIf last behind h = record { last = last; exit = refl; behind = behind }
ends_if_by blocks i at rest e last behind h = elim h [ ]

falls_by : (blocks : List Node) (e : Exit) → IsExitTo blocks on e → e ≡ way.Fall
falls_by blocks way.Fall h = refl
falls_by blocks e h = elim h [ ]

selects_by : (blocks : List Node) (i n label : ℕ) (ys : List Instr) (e : Exit) → AreListed n ys
    → ((j : ℕ) → BeginsAt blocks j label → j ≡ suc i)
    → IsExitTo blocks (one_of (flat_map (λ (i : Instr). targets_of i.op) (take n ys)) label) e → Selects blocks i n label (take n ys) e
selects_by blocks i n label ys (way.Table js j) h once to =
    record {
      nodes = js;
      node = j;
      exit = refl;
      next = once j to.1;
      count = taken_long n ys (long_list n ys h);
      listed = listed_to blocks n ys js h to.0;
      there = to.1;
    }
selects_by blocks i n label ys e h once to = elim to [ ]

-- Blocks

-- an instruction is no jump list
abbrev IsNoList : Op → Type 0
IsNoList (op.JumpList count label) = ⊥
IsNoList other = Unit {0}

-- an instruction that stands inside a block, or at its end
data Turn (o : Op) : Type 0 where
  stands_inside : IsInside o → goes_elsewhere o ≡ false → ((n : ℕ) → still_listed o n ≡ n - 1) → way_after o ≡ on → Turn o
  begins_list : (count label : ℕ) → o ≡ op.JumpList count label → Turn o
  ends_block : IsNoList o → goes_elsewhere o ≡ true → still_listed o 0 ≡ 0 → ((n : ℕ) → open_behind o n ≡ none_open n) → Turn o

turn_of : (o : Op) → Turn o
turn_of (op.Jump t to) = ends_block tt refl refl (λ n. refl)
turn_of (op.Loop to) = ends_block tt refl refl (λ n. refl)
turn_of (op.JumpList count label) = begins_list count label refl
turn_of op.BlockEnd = ends_block tt refl refl (λ n. refl)
turn_of op.BlockEndIf = ends_block tt refl refl (λ n. refl)
turn_of o = stands_inside tt refl (λ n. refl) refl

goes_inside : (blocks : List Node) (i at : ℕ) (o : Op) (rest : List Instr) (e : Exit) (later : Type 0) → IsInside o → later → GoesBy blocks i at o rest e later
goes_inside blocks i at (op.Jump t to) rest e later h k = elim h [ ]
goes_inside blocks i at (op.Loop to) rest e later h k = elim h [ ]
goes_inside blocks i at (op.JumpList count label) rest e later h k = elim h [ ]
goes_inside blocks i at op.BlockEnd rest e later h k = elim h [ ]
goes_inside blocks i at op.BlockEndIf rest e later h k = elim h [ ]
goes_inside blocks i at o rest e later h k = k

way_inside : (o : Op) (rest : List Instr) (w : Way) → IsInside o → way_by o rest w ≡ w
way_inside (op.JumpList count label) rest w h = elim h [ ]
way_inside o rest w h = refl

-- an instruction at the end of its block, that is no jump list: what its exit leads to; one that may go on begins a block
closing_goes : (o : Op) → IsNoList o → goes_elsewhere o ≡ true → still_listed o 0 ≡ 0 → (blocks : List Node) (i at : ℕ) (e : Exit) (later : Type 0)
    → ((o ≡ op.BlockEnd → ⊥) → BeginsAt blocks (suc i) (at + 1)) → IsExitTo blocks (way_after o) e → GoesBy blocks i at o [] e later
closing_goes (op.Jump jump.Always to) free elsewhere none blocks i at e later behind h = jumps_to blocks to [] e refl h
closing_goes (op.Jump t to) free elsewhere none blocks i at e later behind h = branches_to blocks i at to [] e refl (behind (λ f. cc)) h
closing_goes (op.Loop to) free elsewhere none blocks i at e later behind h = branches_to blocks i at to [] e refl (behind (λ f. cc)) h
closing_goes (op.JumpList count label) free elsewhere none blocks i at e later behind h = elim free [ ]
closing_goes op.BlockEnd free elsewhere none blocks i at e later behind h = ends_by blocks [] e refl h
closing_goes op.BlockEndIf free elsewhere none blocks i at e later behind h = ends_if_by blocks i at [] e refl (behind (λ f. cc)) h
closing_goes o free elsewhere none blocks i at e later behind h = absurd (never elsewhere)
  where
    never : false ≡ true → ⊥
    never f = cc

none_open_there : (P : ℕ → Type 0) (m : ℕ) → WithNumber (none_open m) P → (m ≡ 0) × P 0
none_open_there P zero h = (refl, h)
none_open_there P (suc m) h = elim h [ ]

low_or_high : (n c : ℕ) → (n ≤ c) ⊎ (c < n)
low_or_high zero c = inl (omega arith)
low_or_high (suc n) zero = inr (omega arith)
low_or_high (suc n) (suc c) =
    ⊎_elim (λ (low : n ≤ c). inl (omega (arith, low))) (λ (high : c < n). inr (omega (arith, high))) (low_or_high n c)

module _ (formals : Widths) (body : List Instr) (jumps : AreJumps body) (blocks : List Node) (i : ℕ) (x : Node)
    (within : x.past ≤ length body) (inner : (k : ℕ) → x.first < k → k < x.past → begins_at body k ≡ false)
    (next : x.past < length body → begins_at body x.past ≡ true) (behind : x.past < length body → BeginsAt blocks (suc i) x.past)
    (once : (j : ℕ) → BeginsAt blocks j x.past → j ≡ suc i) where
  -- what is found of a block from a position on
  pub record IsFound (at m n : ℕ) (ys : List Instr) : Type 0 where
    pub goes : Goes blocks i at (take n ys) x.exit
    pub closed : IsClosed (take n ys) m
    pub rest : IsRest formals body x.past 0 0 (drop n ys)

  -- a block does not begin inside, nor end where none begins
  begins_behind : (at : ℕ) → is_last_at 0 body at ≡ true → begins_at body (at + 1) ≡ true
  begins_behind at e =
      let more : at + 1 ≡ suc at = omega arith in
      ap (begins_at body) more ∙ ap (λ b. is_aimed_at body (suc at) || b) e ∙ or_true (is_aimed_at body (suc at))
    where
      or_true : (b : Bool) → (b || true) ≡ true
      or_true true = refl
      or_true false = refl

  ends_there : (at : ℕ) → x.first ≤ at → at < x.past → is_last_at 0 body at ≡ true → at + 1 ≡ x.past
  ends_there at above below e =
      ⊎_elim (λ (same : at + 1 ≡ x.past). same)
      (λ (less : at + 1 < x.past). absurd (differ (begins_at body (at + 1)) (begins_behind at e) (inner (at + 1) (omega arith) less)))
      (eq-or-lt_of_le (omega arith))
    where
      differ : (b : Bool) → b ≡ true → b ≡ false → ⊥
      differ b t f = cc

  -- the end word is the last instruction of its body
  not_last : (y : Instr) (ys : List Instr) → IsEnded (y ∷ ys) → (y.op ≡ op.BlockEnd → ⊥) → 1 ≤ length ys
  not_last y [] h other = absurd (other h)
  not_last y (z ∷ ys) h other = omega arith

  end_word : (o : Op) → o ≡ op.BlockEnd → goes_elsewhere o ≡ true
  end_word o e = ap goes_elsewhere e

  module _ (at m n : ℕ) (y : Instr) (ys : List Instr) (here : IsRest formals body at 0 m (y ∷ ys)) (above : x.first ≤ at) (reach : at + suc n ≡ x.past)
      (exit : IsExitTo blocks (way_of (y ∷ take n ys)) x.exit) where
    last_here : is_last_at 0 body at ≡ (goes_elsewhere y.op && (still_listed y.op 0 == 0))
    last_here = let e : at ≡ at + 0 = omega arith in ap (is_last_at 0 body) e ∙ here.lasts 0

    -- a block that ends with the instruction
    by_last : IsNoList y.op → goes_elsewhere y.op ≡ true → still_listed y.op 0 ≡ 0
        → ((k : ℕ) → open_behind y.op k ≡ none_open k) → IsFound at m (suc n) (y ∷ ys)
    by_last free elsewhere none opens =
        let is_last : is_last_at 0 body at ≡ true = last_here ∙ (rw (elsewhere, none) refl) in
        let ends : at + 1 ≡ x.past = ends_there at above (omega arith) is_last in
        let short : n ≡ 0 = omega arith in
        let nested : WithNumber (none_open m) (AreNested ys) = subst (λ (o : Option ℕ). WithNumber o (AreNested ys)) (opens m) here.nested in
        let closed = none_open_there (AreNested ys) m nested in
        subst (λ (k : ℕ). IsFound at m (suc k) (y ∷ ys)) (sym short)
        (subst (λ (k : ℕ). IsFound at k 1 (y ∷ ys)) (sym closed.0)
        (record {
          goes = goes (subst (λ (k : ℕ). IsExitTo blocks (way_of (y ∷ take k ys)) x.exit) short exit);
          closed = subst (λ (o : Option ℕ). WithNumber o (IsClosed [])) (sym (opens 0)) refl;
          rest = subst (λ (k : ℕ). IsRest formals body k 0 0 ys) ends
              (subst (λ (k : ℕ). IsRest formals body (at + 1) k 0 ys) none
              (rest_behind formals body at 0 0 0 y ys (subst (λ (k : ℕ). IsRest formals body at 0 k (y ∷ ys)) closed.0 here) (opens 0) closed.1));
        }))
      where
        ending : at + 1 ≡ x.past
        ending = ends_there at above (omega arith) (last_here ∙ (rw (elsewhere, none) refl))

        then_behind : (y.op ≡ op.BlockEnd → ⊥) → BeginsAt blocks (suc i) (at + 1)
        then_behind other =
            let some : 1 ≤ length ys = not_last y ys (here.ended y ys refl) other in
            subst (BeginsAt blocks (suc i)) (sym ending) (behind (omega (arith, here.size, ending, some)))

        goes : IsExitTo blocks (way_after y.op) x.exit → GoesBy blocks i at y.op [] x.exit (Goes blocks i (at + 1) [] x.exit)
        goes to = closing_goes y.op free elsewhere none blocks i at x.exit (Goes blocks i (at + 1) [] x.exit) then_behind to

    -- an instruction inside it, and the others
    by_inside : IsInside y.op → goes_elsewhere y.op ≡ false → still_listed y.op 0 ≡ 0 → (k : ℕ) → open_behind y.op m ≡ Some k
        → IsFound (at + 1) k n ys → IsFound at m (suc n) (y ∷ ys)
    by_inside is_inside elsewhere none k opens others =
        record {
          goes = goes_inside blocks i at y.op (take n ys) x.exit (Goes blocks i (at + 1) (take n ys) x.exit) is_inside others.goes;
          closed = subst (λ (o : Option ℕ). WithNumber o (IsClosed (take n ys))) (sym opens) others.closed;
          rest = others.rest;
        }

    -- a jump list, with its JU
    by_list : (count label : ℕ) → y.op ≡ op.JumpList count label → 1 ≤ count → IsFound at m (suc n) (y ∷ ys)
    by_list count label is some = by_count count is some (subst (λ (o : Op). HasList body at o ys) is here.lists.0)
      where
        by_count : (count : ℕ) → y.op ≡ op.JumpList count label → 1 ≤ count → HasList body at (op.JumpList count label) ys → IsFound at m (suc n) (y ∷ ys)
        by_count zero is some list = absurd (omega arith)
        by_count (suc c) is some list =
            subst (λ (k : ℕ). IsFound at m (suc k) (y ∷ ys)) (sym as_long)
            (subst (λ (k : ℕ). IsFound at k (suc (suc c)) (y ∷ ys)) (sym closed.0)
            (record {
              goes = subst (λ (o : Op). GoesBy blocks i at o (take (suc c) ys) x.exit (Goes blocks i (at + 1) (take (suc c) ys) x.exit)) (sym is)
                  (selects_by blocks i (suc c) label ys x.exit list.0
                  (λ j begins. once j (subst (BeginsAt blocks j) (list.2 ∙ past) begins)) way);
              closed = subst (λ (o : Op). WithNumber (open_behind o 0) (IsClosed (take (suc c) ys))) (sym is) (closed_list (suc c) ys list.0);
              rest = subst (λ (k : ℕ). IsRest formals body k 0 0 (drop (suc c) ys)) past
                  (rest_behind_list formals (suc c) body (at + 1) ys list.0
                  (subst (λ (k : ℕ). IsRest formals body (at + 1) k 0 ys) (ap (λ (o : Op). still_listed o 0) is)
                  (rest_behind formals body at 0 0 0 y ys (subst (λ (k : ℕ). IsRest formals body at 0 k (y ∷ ys)) closed.0 here)
                  (ap (λ (o : Op). open_behind o 0) is) closed.1)));
            }))
          where
            long : suc c ≤ length ys
            long = long_list (suc c) ys list.0

            -- which instruction of the list is the last of a block
            last_after : (k : ℕ) → is_last_at 0 body (at + suc k) ≡ is_last_at (suc c) ys k
            last_after k = here.lasts (suc k) ∙ ap (λ (o : Op). is_last_at (still_listed o 0) ys k) is

            list_last : is_last_at 0 body (at + suc c) ≡ true
            list_last = last_after c ∙ list_ends c ys list.0

            differ : (b : Bool) → b ≡ true → b ≡ false → ⊥
            differ b t f = cc

            -- no block begins at one of its JU
            none_begins : (k : ℕ) → k ≤ c → begins_at body (suc (at + k)) ≡ false
            none_begins k small =
                rw (aimed_none body body at (suc c) (suc (at + k)) list.1 (omega arith) (omega arith)) (by k small)
              where
                by : (k : ℕ) → k ≤ c → is_last_at 0 body (at + k) ≡ false
                by zero small =
                    let e : at + 0 ≡ at = omega arith in
                    ap (is_last_at 0 body) e ∙ last_here ∙ ap (λ (o : Op). goes_elsewhere o && (still_listed o 0 == 0)) is ∙ grind (arith, nat_tests)
                by (suc k) small = last_after k ∙ list_goes_on c k ys list.0 (omega arith)

            -- so it ends with the last of them
            not_before : n ≤ c → ⊥
            not_before small =
                let e : x.past ≡ suc (at + n) = omega arith in
                differ (begins_at body x.past) (next (omega (arith, here.size, long))) (ap (begins_at body) e ∙ none_begins n small)

            not_after : suc c < n → ⊥
            not_after large =
                let ends : at + suc c + 1 ≡ x.past = ends_there (at + suc c) (omega arith) (omega arith) list_last in omega arith

            as_long : n ≡ suc c
            as_long =
                ⊎_elim (λ (less : n ≤ c). absurd (not_before less))
                (λ (more : c < n). ⊎_elim (λ (same : suc c ≡ n). sym same) (λ (over : suc c < n). absurd (not_after over)) (eq-or-lt_of_le more))
                (low_or_high n c)

            past : at + 1 + suc c ≡ x.past
            past = omega (arith, as_long)

            nested : WithNumber (none_open m) (AreNested ys)
            nested = subst (λ (o : Op). WithNumber (open_behind o m) (AreNested ys)) is here.nested

            closed : (m ≡ 0) × AreNested ys 0
            closed = none_open_there (AreNested ys) m nested

            way : IsExitTo blocks (one_of (flat_map (λ (i : Instr). targets_of i.op) (take (suc c) ys)) label) x.exit
            way = listed_way ys list.0 (subst (λ (k : ℕ). IsExitTo blocks (way_of (y ∷ take k ys)) x.exit) as_long exit)
              where
                listed_way : (ys : List Instr) → AreListed (suc c) ys → IsExitTo blocks (way_of (y ∷ take (suc c) ys)) x.exit
                    → IsExitTo blocks (one_of (flat_map (λ (i : Instr). targets_of i.op) (take (suc c) ys)) label) x.exit
                listed_way [] h e = elim h [ ]
                listed_way (z ∷ zs) h e =
                    subst (λ (o : Op). IsExitTo blocks (way_by o (z ∷ take c zs) (way_of (z ∷ take c zs))) x.exit) is e

  -- no bracket is open where a block begins because a jump leads there
  aimed_open : (at k : ℕ) (ys : List Instr) → 1 ≤ length ys → IsRest formals body (at + 1) 0 k ys
      → begins_at body (at + 1) ≡ true → is_last_at 0 body at ≡ false
      → k ≡ 0
  aimed_open at k [] some rest begins no_last = absurd (omega arith)
  aimed_open at k (z ∷ zs) some rest begins no_last =
      let more : at + 1 ≡ suc at = omega arith in
      let same : at + 1 + 0 ≡ suc at = omega arith in
      let aimed : is_aimed_at body (suc at) ≡ true = first_true (is_aimed_at body (suc at)) (ap (λ b. is_aimed_at body (suc at) || b) (sym no_last)
      ∙ ap (begins_at body) (sym more) ∙ begins) in
      let there : open_at 0 body (suc at) ≡ Some 0 = aimed_target body body (suc at) jumps.targets aimed in
      let here : open_at 0 body (suc at) ≡ Some k = ap (open_at 0 body) (sym same) ∙ rest.opens 0 in
      let both : Some k ≡ Some 0 = sym here ∙ there in
      cc
    where
      first_true : (b : Bool) → (b || false) ≡ true → b ≡ true
      first_true true e = refl
      first_true false e = cc

  differ : (b : Bool) → b ≡ true → b ≡ false → ⊥
  differ b t f = cc

  some_listed : (o : Op) (count label : ℕ) → o ≡ op.JumpList count label → HasOperand formals o → 1 ≤ count
  some_listed o count label is h = let operand : HasOperand formals (op.JumpList count label) = subst (HasOperand formals) is h in operand.0

  -- what follows an instruction inside the block
  module _ (at m n : ℕ) (y : Instr) (ys : List Instr) (here : IsRest formals body at 0 m (y ∷ ys)) (above : x.first ≤ at) (reach : at + suc n ≡ x.past)
      (exit : IsExitTo blocks (way_of (y ∷ take n ys)) x.exit) where
    abbrev FoundBehind : Type 0
    FoundBehind =
        IsInside y.op → goes_elsewhere y.op ≡ false → way_after y.op ≡ on → (k : ℕ) → IsRest formals body (at + 1) 0 k ys → IsFound (at + 1) k n ys

    by_turn : FoundBehind → Turn y.op → IsFound at m (suc n) (y ∷ ys)
    by_turn others (ends_block free elsewhere none opens) = by_last at m n y ys here above reach exit free elsewhere none opens
    by_turn others (begins_list count label is) =
        by_list at m n y ys here above reach exit count label is (some_listed y.op count label is (All-head (HasItsOperand formals) y ys here.operands))
    by_turn others (stands_inside is_inside elsewhere one_less on_way) =
        let none : still_listed y.op 0 ≡ 0 = one_less 0 ∙ omega arith in
        let opens = open_after (AreNested ys) (open_behind y.op m) here.nested in
        let rest : IsRest formals body (at + 1) 0 opens.0 ys =
        subst (λ (k : ℕ). IsRest formals body (at + 1) k opens.0 ys) none (rest_behind formals body at 0 m opens.0 y ys here opens.1 opens.2) in
        by_inside at m n y ys here above reach exit is_inside elsewhere none opens.0 opens.1 (others is_inside elsewhere on_way opens.0 rest)

  -- behind the last one, from which the next block follows
  falls_behind : (at m : ℕ) (y : Instr) (ys : List Instr) → IsRest formals body at 0 m (y ∷ ys) → x.first ≤ at → at + 1 ≡ x.past
      → IsExitTo blocks (way_of (y ∷ [])) x.exit → goes_elsewhere y.op ≡ false → way_after y.op ≡ on → (k : ℕ) → IsRest formals body (at + 1) 0 k ys
      → IsFound (at + 1) k 0 ys
  falls_behind at m y ys here above ends exit elsewhere on_way k rest =
      let some : 1 ≤ length ys = not_last y ys (here.ended y ys refl) (λ e. differ (goes_elsewhere y.op) (ap goes_elsewhere e) elsewhere) in
      let more : x.past < length body = omega (arith, here.size) in
      let no_last : is_last_at 0 body at ≡ false =
      last_here at m 0 y ys here above ends exit ∙ ap (λ b. b && (still_listed y.op 0 == 0)) elsewhere in
      let none_open_here : k ≡ 0 = aimed_open at k ys some rest (ap (begins_at body) ends ∙ next more) no_last in
      record {
        goes = (falls_by blocks x.exit (subst (λ (w : Way). IsExitTo blocks w x.exit) on_way exit), subst (BeginsAt blocks (suc i)) (sym ends) (behind more));
        closed = none_open_here;
        rest = subst (λ (m : ℕ). IsRest formals body m 0 0 ys) ends (subst (λ (m : ℕ). IsRest formals body (at + 1) 0 m ys) none_open_here rest);
      }

  later_way : (n : ℕ) (y : Instr) (ys : List Instr) → IsInside y.op → way_after y.op ≡ on → IsExitTo blocks (way_of (y ∷ take n ys)) x.exit
      → IsExitTo blocks (way_of (take n ys)) x.exit
  later_way zero y ys is_inside on_way e = subst (λ (w : Way). IsExitTo blocks w x.exit) on_way e
  later_way (suc n) y [] is_inside on_way e = subst (λ (w : Way). IsExitTo blocks w x.exit) on_way e
  later_way (suc n) y (z ∷ zs) is_inside on_way e =
      subst (λ (w : Way). IsExitTo blocks w x.exit) (way_inside y.op (z ∷ take n zs) (way_of (z ∷ take n zs)) is_inside) e

  -- from a position in the block on
  pub walk : (n at m : ℕ) (ys : List Instr) → IsRest formals body at 0 m ys → x.first ≤ at → at + suc n ≡ x.past
      → IsExitTo blocks (way_of (take (suc n) ys)) x.exit → IsFound at m (suc n) ys
  walk n at m [] here above reach exit = absurd (omega (arith, here.size))
  walk zero at m (y ∷ ys) here above reach exit =
      by_turn at m 0 y ys here above reach exit
      (λ is_inside elsewhere on_way k rest. falls_behind at m y ys here above reach exit elsewhere on_way k rest) (turn_of y.op)
  walk (suc n) at m (y ∷ ys) here above reach exit =
      by_turn at m (suc n) y ys here above reach exit
      (λ is_inside elsewhere on_way k rest.
      walk n (at + 1) k ys rest (omega arith) (omega arith) (later_way (suc n) y ys is_inside on_way exit)) (turn_of y.op)
