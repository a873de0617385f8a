-- The shape of a body that is accepted: its blocks begin where no bracket is open, have no jump but at their end, and go on
-- where the nodes of its graph begin.
use Rattle.std.proofs.Common.{◌≡◌, ℕ, zero, suc, ◌+◌, ◌-◌, ◌<◌, ◌≤◌, ◌==◌, Bool, true, false, ◌||◌, List, [], ◌∷◌, ◌++◌, length, take, drop, Option, Some, None, inl, inr, refl, sym, ap, subst, ◌∙◌, arith}
use Rattle.std.specs.Prelude.{All, flat_map, option_and_then, slice_get}
use Rattle.std.specs.List.{list_any}
use Rattle.std.proofs.lemmas.Bool.Decides.{nat_tests}
use Rattle.std.proofs.lemmas.List.Elements.{All-head, All-tail}
use Rattle.flow_graph.specs.Graphs.{BeginAt}
use Rattle.flow_graph.specs.declared.graph.Node.{Node}
use Rattle.flow_laws.specs.Ways.{AreListedTo, HasFrom, IsClosed}
use Rattle.stl_tree.specs.Accepted.{AreListed, HasOperand, HaveLists, HaveOperands, IsAlways, IsEnded, IsOutside, IsTarget, Widths, open_at, targets_of}
use Rattle.stl_tree.specs.Blocks.{goes_elsewhere, is_last_at, still_listed}
use Rattle.stl_tree.specs.Brackets.{AreNested, WithNumber, none_open, open_behind}
use Rattle.stl_tree.specs.declared.program.Instr.{Instr}
use Rattle.stl_tree.specs.declared.program.JumpTest.TheVariants as jump
use Rattle.stl_tree.specs.declared.program.Op.{Op}
use Rattle.stl_tree.specs.declared.program.Op.TheVariants as op

-- A body from a position on

pub drop_next : (body : List Instr) (at : ℕ) (y : Instr) (ys : List Instr) → drop at body ≡ y ∷ ys → drop (at + 1) body ≡ ys
drop_next body at y ys e = let more : at + 1 ≡ suc at = omega arith in ap (λ (n : ℕ). drop n body) more ∙ by body at e
  where
    by : (body : List Instr) (at : ℕ) → drop at body ≡ y ∷ ys → drop (suc at) body ≡ ys
    by [] zero e = cc
    by [] (suc at) e = cc
    by (x ∷ body) zero e = cc
    by (x ∷ body) (suc at) e = by body at e

pub get_after : (body : List Instr) (at j : ℕ) → slice_get body (at + j) ≡ slice_get (drop at body) j
get_after body zero j = let e : 0 + j ≡ j = omega arith in ap (slice_get body) e
get_after [] (suc at) j = let e : suc at + j ≡ suc (at + j) = omega arith in ap (slice_get []) e
get_after (x ∷ body) (suc at) j = let e : suc at + j ≡ suc (at + j) = omega arith in ap (slice_get (x ∷ body)) e ∙ get_after body at j

pub get_taken : (ys : List Instr) (n j : ℕ) (i : Instr) → slice_get (take n ys) j ≡ Some i → slice_get ys j ≡ Some i
get_taken [] n j i e = by n e
  where
    by : (n : ℕ) → slice_get (take n []) j ≡ Some i → slice_get [] j ≡ Some i
    by zero e = e
    by (suc n) e = e
get_taken (y ∷ ys) zero j i e = cc
get_taken (y ∷ ys) (suc n) zero i e = e
get_taken (y ∷ ys) (suc n) (suc j) i e = get_taken ys n j i e

-- what is said of the rest of a body that names formals of these widths, where so many JU of a jump list are to come and so many brackets are open
pub record IsRest (formals : Widths) (body : List Instr) (at listed open_now : ℕ) (ys : List Instr) : Type 0 where
  pub from : drop at body ≡ ys
  pub size : at + length ys ≡ length body
  pub lasts : (k : ℕ) → is_last_at 0 body (at + k) ≡ is_last_at listed ys k
  pub opens : (k : ℕ) → open_at 0 body (at + k) ≡ open_at open_now ys k
  pub nested : AreNested ys open_now
  pub operands : HaveOperands formals ys
  pub lists : HaveLists body at ys
  pub ended : (y : Instr) (more : List Instr) → ys ≡ y ∷ more → IsEnded ys

abbrev pub HasItsOperand : Widths → Instr → Type 0
HasItsOperand formals i = HasOperand formals i.op

-- how many brackets are open behind an instruction
pub open_after : (P : ℕ → Type 0) (o : Option ℕ) → WithNumber o P → (m : ℕ) × (o ≡ Some m) × P m
open_after P None h = elim h [ ]
open_after P (Some m) h = (m, refl, h)

ended_rest : (y : Instr) (ys : List Instr) → IsEnded (y ∷ ys) → (z : Instr) (more : List Instr) → ys ≡ z ∷ more → IsEnded ys
ended_rest y [] h z more e = cc
ended_rest y (x ∷ ys) h z more e = h

-- the rest behind an instruction
pub rest_behind : (formals : Widths) (body : List Instr) (at listed m n : ℕ) (y : Instr) (ys : List Instr)
    → IsRest formals body at listed m (y ∷ ys) → open_behind y.op m ≡ Some n
    → AreNested ys n → IsRest formals body (at + 1) (still_listed y.op listed) n ys
rest_behind formals body at listed m n y ys h open_n nested =
    record {
      from = drop_next body at y ys h.from;
      size = omega (arith, h.size);
      lasts = λ k. let e : at + 1 + k ≡ at + suc k = omega arith in ap (is_last_at 0 body) e ∙ h.lasts (suc k);
      opens = λ k.
          let e : at + 1 + k ≡ at + suc k = omega arith in
          ap (open_at 0 body) e ∙ h.opens (suc k) ∙ ap (option_and_then (λ m. open_at m ys k)) open_n;
      nested = nested;
      operands = All-tail (HasItsOperand formals) y ys h.operands;
      lists = h.lists.1;
      ended = ended_rest y ys (h.ended y ys refl);
    }

pub has_from : (formals : Widths) (body : List Instr) (at listed m : ℕ) (ys : List Instr)
    → IsRest formals body at listed m ys → (n : ℕ) → HasFrom body at (take n ys)
has_from formals body at listed m ys h n j i e =
    get_after body at j ∙ ap (λ (zs : List Instr). slice_get zs j) h.from ∙ get_taken ys n j i e

-- Jump lists

always_to : (o : Op) → IsAlways o → (to : ℕ) × (o ≡ op.Jump jump.Always to)
always_to (op.Jump jump.Always to) h = (to, refl)
always_to o h = elim h [ ]

always_goes : (o : Op) → IsAlways o → goes_elsewhere o ≡ true
always_goes (op.Jump jump.Always to) h = refl
always_goes o h = elim h [ ]

always_one_less : (o : Op) (n : ℕ) → IsAlways o → still_listed o n ≡ n - 1
always_one_less (op.Jump jump.Always to) n h = refl
always_one_less o n h = elim h [ ]

always_open : (o : Op) (n : ℕ) → IsAlways o → open_behind o n ≡ none_open n
always_open (op.Jump jump.Always to) n h = refl
always_open o n h = elim h [ ]

-- the last of so many JU ends a list, and none before it
pub list_ends : (n : ℕ) (ys : List Instr) → AreListed (suc n) ys → is_last_at (suc n) ys n ≡ true
list_ends n [] h = elim h [ ]
list_ends zero (y ∷ ys) h = rw (always_goes y.op h.0, always_one_less y.op 1 h.0) refl
list_ends (suc n) (y ∷ ys) h =
    let less : still_listed y.op (suc (suc n)) ≡ suc n = always_one_less y.op (suc (suc n)) h.0 ∙ omega arith in
    ap (λ (m : ℕ). is_last_at m ys n) less ∙ list_ends n ys h.1

pub list_goes_on : (n k : ℕ) (ys : List Instr) → AreListed (suc n) ys → k < n → is_last_at (suc n) ys k ≡ false
list_goes_on n k [] h less = elim h [ ]
list_goes_on zero k (y ∷ ys) h less = absurd (omega arith)
list_goes_on (suc n) zero (y ∷ ys) h less =
    let more : still_listed y.op (suc (suc n)) ≡ suc n = always_one_less y.op (suc (suc n)) h.0 ∙ omega arith in
    rw (always_goes y.op h.0, more) (grind (arith, nat_tests))
list_goes_on (suc n) (suc k) (y ∷ ys) h less =
    let more : still_listed y.op (suc (suc n)) ≡ suc n = always_one_less y.op (suc (suc n)) h.0 ∙ omega arith in
    ap (λ (m : ℕ). is_last_at m ys k) more ∙ list_goes_on n k ys h.1 (omega arith)

-- the rest behind a list
pub rest_behind_list : (formals : Widths) (n : ℕ) (body : List Instr) (at : ℕ) (ys : List Instr)
    → AreListed n ys → IsRest formals body at n 0 ys → IsRest formals body (at + n) 0 0 (drop n ys)
rest_behind_list formals zero body at ys h rest =
    let e : at + 0 ≡ at = omega arith in subst (λ (m : ℕ). IsRest formals body m 0 0 ys) (sym e) rest
rest_behind_list formals (suc n) body at [] h rest = elim h [ ]
rest_behind_list formals (suc n) body at (y ∷ ys) h rest =
    let less : still_listed y.op (suc n) ≡ n = always_one_less y.op (suc n) h.0 ∙ omega arith in
    let more : at + 1 + n ≡ at + suc n = omega arith in
    let none : open_behind y.op 0 ≡ Some 0 = always_open y.op 0 h.0 in
    let nested : AreNested ys 0 = subst (λ (o : Option ℕ). WithNumber o (AreNested ys)) none rest.nested in
    subst (λ (m : ℕ). IsRest formals body m 0 0 (drop n ys)) more
    (rest_behind_list formals n body (at + 1) ys h.1
    (subst (λ (m : ℕ). IsRest formals body (at + 1) m 0 ys) less (rest_behind formals body at (suc n) 0 0 y ys rest none nested)))

pub closed_list : (n : ℕ) (ys : List Instr) → AreListed n ys → IsClosed (take n ys) 0
closed_list zero ys h = refl
closed_list (suc n) [] h = elim h [ ]
closed_list (suc n) (y ∷ ys) h =
    subst (λ (o : Option ℕ). WithNumber o (IsClosed (take n ys))) (sym (always_open y.op 0 h.0)) (closed_list n ys h.1)

pub long_list : (n : ℕ) (ys : List Instr) → AreListed n ys → n ≤ length ys
long_list zero ys h = omega arith
long_list (suc n) [] h = elim h [ ]
long_list (suc n) (y ∷ ys) h = let others : n ≤ length ys = long_list n ys h.1 in omega arith

pub taken_long : (n : ℕ) (ys : List Instr) → n ≤ length ys → length (take n ys) ≡ n
taken_long zero ys h = refl
taken_long (suc n) [] h = absurd (omega arith)
taken_long (suc n) (y ∷ ys) h = ap suc (taken_long n ys (omega arith))

pub listed_to : (blocks : List Node) (n : ℕ) (ys : List Instr) (js : List ℕ) → AreListed n ys
    → BeginAt blocks js (flat_map (λ (i : Instr). targets_of i.op) (take n ys)) → AreListedTo blocks (take n ys) js
listed_to blocks zero ys [] h b = tt
listed_to blocks zero ys (j ∷ js) h b = elim b [ ]
listed_to blocks (suc n) [] js h b = elim h [ ]
listed_to blocks (suc n) (y ∷ ys) js h b = by js (subst (BeginAt blocks js) here b) (λ ks c. listed_to blocks n ys ks h.1 c)
  where
    at : (to : ℕ) × (y.op ≡ op.Jump jump.Always to)
    at = always_to y.op h.0

    others : List ℕ
    others = flat_map (λ (i : Instr). targets_of i.op) (take n ys)

    here : flat_map (λ (i : Instr). targets_of i.op) (take (suc n) (y ∷ ys)) ≡ at.0 ∷ others
    here = ap (λ (o : Op). targets_of o ++ others) at.1

    by : (js : List ℕ) → BeginAt blocks js (at.0 ∷ others) → ((ks : List ℕ) → BeginAt blocks ks others → AreListedTo blocks (take n ys) ks)
        → AreListedTo blocks (take (suc n) (y ∷ ys)) js
    by [] b rest = elim b [ ]
    by (j ∷ js) b rest = ((at.0, at.1, b.0), rest js b.1)

-- Where jumps lead

pub aimed_none : (body xs : List Instr) (at count k : ℕ) → All (λ (i : Instr). All (IsOutside at count) (targets_of i.op)) xs → at < k → k ≤ at + count
    → list_any (λ (i : Instr). list_any (λ to. to == k) (targets_of i.op)) xs ≡ false
aimed_none body [] at count k h above below = refl
aimed_none body (x ∷ xs) at count k h above below =
    rw (by (targets_of x.op) (All-head (λ (i : Instr). All (IsOutside at count) (targets_of i.op)) x xs h))
    (aimed_none body xs at count k (All-tail (λ (i : Instr). All (IsOutside at count) (targets_of i.op)) x xs h) above below)
  where
    other : (to : ℕ) → IsOutside at count to → (to == k) ≡ false
    other to (inl low) = grind (arith, nat_tests)
    other to (inr high) = grind (arith, nat_tests)

    by : (ts : List ℕ) → All (IsOutside at count) ts → list_any (λ to. to == k) ts ≡ false
    by [] h = refl
    by (to ∷ ts) h = rw (other to (All-head (IsOutside at count) to ts h)) (by ts (All-tail (IsOutside at count) to ts h))

aimed_by_one : (body : List Instr) (k : ℕ) (ts : List ℕ) → All (IsTarget body) ts → list_any (λ to. to == k) ts ≡ true → IsTarget body k
aimed_by_one body k [] all e = cc
aimed_by_one body k (to ∷ ts) all e =
    by_test (to == k) refl (aimed_by_one body k ts (All-tail (IsTarget body) to ts all)) e
  where
    by_test : (b : Bool) → (to == k) ≡ b → (list_any (λ to. to == k) ts ≡ true → IsTarget body k) → b || list_any (λ to. to == k) ts ≡ true → IsTarget body k
    by_test true same others e =
        let is : to ≡ k = grind (arith, nat_tests) in subst (IsTarget body) is (All-head (IsTarget body) to ts all)
    by_test false other others e = others e

pub aimed_target : (body xs : List Instr) (k : ℕ) → All (λ (i : Instr). All (IsTarget body) (targets_of i.op)) xs
    → list_any (λ (i : Instr). list_any (λ to. to == k) (targets_of i.op)) xs ≡ true → IsTarget body k
aimed_target body [] k h e = cc
aimed_target body (x ∷ xs) k h e =
    by_first (list_any (λ to. to == k) (targets_of x.op)) refl
    (aimed_target body xs k (All-tail (λ (i : Instr). All (IsTarget body) (targets_of i.op)) x xs h)) e
  where
    by_first : (b : Bool) → list_any (λ to. to == k) (targets_of x.op) ≡ b
        → (list_any (λ (i : Instr). list_any (λ to. to == k) (targets_of i.op)) xs ≡ true → IsTarget body k)
        → b || list_any (λ (i : Instr). list_any (λ to. to == k) (targets_of i.op)) xs ≡ true → IsTarget body k
    by_first true here others e =
        aimed_by_one body k (targets_of x.op) (All-head (λ (i : Instr). All (IsTarget body) (targets_of i.op)) x xs h) here
    by_first false none others e = others e
