-- Rows that read an operand, or write one. What stands before the row leads to the operand, and what may fault is read
-- into a local.
--
-- A row that reads its operand and does no more than DoesRow says cites `fetch_effect`, with `bit_shown` or
-- `number_shown w` for its reading: it is left to show what the statements behind do from a state t in which the
-- operand is worth what is read at its place. Where it writes the operand too, `writes` of `IsFetched` says what that
-- does in related states as long as the way is kept (`Puts`). One that writes alone cites `reach_effect`, with the value that it writes and the row's own
-- write; what stands behind comes to its end. Any other cites `reaches` of `Reaching`, for both ways out.
use Rattle.std.proofs.Common.{◌≡◌, ℕ, ◌+◌, ◌<◌, ◌≤◌, pos, Bool, true, false, if◌then◌else◌, List, [], ◌∷◌, ◌++◌, length, Result, Ok, Err, ◌⊎◌, inl, inr, refl, sym, ap, subst, ◌∙◌, arith}
use Rattle.std.specs.Prelude.{slice_get, Some}
use Rattle.std.specs.Int.{from_bool}
use Rattle.std.proofs.lemmas.List.{append_assoc, length-append}
use Rattle.memory_areas.specs.Access.{and_then, read_bit}
use Rattle.memory_areas.specs.Areas.{Contents}
use Rattle.memory_areas.specs.declared.place.Place.{Place}
use Rattle.s7_base.specs.declared.outcome.Fault.{Fault}
use Rattle.s7_base.specs.declared.register.Reg.TheVariants as reg
use Rattle.s7_base.specs.declared.word.Width.{Width}
use Rattle.s7_base.specs.declared.word.Width.TheVariants as width
use Rattle.stl_tree.specs.Accepted.{IsOperand}
use Rattle.stl_tree.specs.Accumulators.{read_number}
use Rattle.stl_tree.specs.Now.{Effect, Now, enter, fault, go, leave, next, with_memory, with_value}
use Rattle.stl_tree.specs.Operands.{OperandPlace, place_of_operand, with_place}
use Rattle.stl_tree.specs.declared.program.Operand.{Operand}
use Rattle.st_tree.specs.Fitting.{IsOf}
use Rattle.st_tree.specs.Meaning.{Calls, Out, body_meaning}
use Rattle.st_tree.specs.State.{Activation as StActivation, State, own_of, read_place, write_place}
use Rattle.st_tree.specs.Value.{value}
use Rattle.st_tree.specs.Values.{flag, type_of_width, typed}
use Rattle.st_tree.specs.declared.expr.Expr.{Expr}
use Rattle.st_tree.specs.declared.expr.StType.{StType}
use Rattle.st_tree.specs.declared.expr.Var.TheVariants as var
use Rattle.st_tree.specs.declared.program.Located.{Located}
use Rattle.st_tree.specs.declared.program.Stmt.{Stmt}
use Rattle.st_tree.specs.declared.state.Value.{Value}
use Rattle.st_tree.proofs.Equations.{assign_goes_on, assign_stops_at_value}
use Rattle.template_parts.specs.Builders.{local_of, set_local_of}
use Rattle.template_parts.specs.Fetching.{fetch_of, fetched_value_of, may_fault, reach_of, reading_of, types_fetched, types_reached, writing_of}
use Rattle.template_parts.specs.Related.{Frames, Related}
use Rattle.template_parts.proofs.Alike.{keep_local, same_areas}
use Rattle.template_parts.specs.DoesInstruction.{DoesInstruction, Leads, Stops}
use Rattle.st_tree.proofs.Locals.{local_read, local_wrote, own_length, own_other, own_same, with_own}
use Rattle.template_parts.proofs.MemoryEffects.{KeepsWay, fewer, keeps_itself, kept_on, local_kept}
use Rattle.template_parts.proofs.Putting.{Puts, PutsAt}
use Rattle.template_parts.proofs.Reaching.{LeadsTo, Misses, Reaches, StopsBefore, found_with, reaches}

-- By what an operand names

-- the effect by the place of an operand, by what holds where it was found and where a fault was met on the way
pub by_place : (o : Operand) (now : Now) (effect : Place → Now → Effect) (goal : Effect → Type 0)
    → ((f : OperandPlace) → place_of_operand o now ≡ Ok f → goal (effect f.place f.after))
    → ((x : Fault) → place_of_operand o now ≡ Err x → goal (fault x)) → goal (with_place o now effect)
by_place o now effect goal goes stops = by (place_of_operand o now) refl
  where
    by : (r : Result OperandPlace Fault) → place_of_operand o now ≡ r → goal (with_value r (λ f. effect f.place f.after))
    by (Ok f) e = goes f e
    by (Err x) e = stops x e

-- the same where the operand's place is known, or its fault
placed : (o : Operand) (now : Now) (effect : Place → Now → Effect) (goal : Effect → Type 0) (r : Result OperandPlace Fault) → place_of_operand o now ≡ r
    → goal (with_value r (λ f. effect f.place f.after)) → goal (with_place o now effect)
placed o now effect goal r e h = subst (λ (q : Result OperandPlace Fault). goal (with_value q (λ f. effect f.place f.after))) (sym e) h

-- Fetching

-- in a state t before a row an operand was found, and is worth what is read at its place, also where the row has
-- changed other registers; locals below the first one are as they were. It is read as the expression e, and written at
-- its place as long as the way is kept
pub record IsFetched (g : List Located) (frames : Frames) (s : State) (o : Operand)
    (w : Width) (f : OperandPlace) (first : ℕ) (e : Expr) (t : State) : Type 0 where
  pub related : Related frames f.after t
  pub as_many : length (own_of t.activations) ≡ length (own_of s.activations)
  pub below : (i : ℕ) → i < first → slice_get (own_of t.activations) i ≡ slice_get (own_of s.activations) i
  pub worth : (u : State) → u.memory ≡ t.memory → u.activations ≡ t.activations
      → u.registers reg.DbNo ≡ t.registers reg.DbNo → u.registers reg.DiNo ≡ t.registers reg.DiNo
      → value g e u ≡ read_place (type_of_width w) f.place f.after.memory
  pub here : value g e t ≡ read_place (type_of_width w) f.place f.after.memory
  pub writes : (then_now : Now) (u : State) → Related frames then_now u → KeepsWay (first + length (types_fetched o w)) t u
      → PutsAt g frames w (Ok f.place) then_now u (writing_of first o w)

module _ (g : List Located) (calls : Calls) (units : ℕ) (frames : Frames) (now : Now) (s : State)
    (first : ℕ) (o : Operand) (w : Width) (way : Reaches g calls units frames now s first w o) where
  -- the local that takes what may fault
  abbrev later : ℕ
  later = first + length (types_reached o)

  -- the statements, the expression and the locals of an operand that is fetched, or is not
  abbrev fetching : Bool → List Stmt
  fetching b = reach_of first o ++ (if b then set_local_of later (reading_of first o w) ∷ [] else [])

  abbrev fetched : Bool → Expr
  fetched b = if b then local_of later else reading_of first o w

  abbrev locals : Bool → List StType
  locals b = types_reached o ++ (if b then type_of_width w ∷ [] else [])

  -- they begin with those of the way
  begins : (b : Bool) (rest : List Stmt)
      → body_meaning g calls (fetching b ++ rest) units s
      ≡ body_meaning g calls ((if b then set_local_of later (reading_of first o w) ∷ [] else []) ++ rest) units way.to
  begins b rest =
      let own : List Stmt = if b then set_local_of later (reading_of first o w) ∷ [] else [] in
      ap (λ (body : List Stmt). body_meaning g calls body units s) (append_assoc (reach_of first o) own rest) ∙ way.goes (own ++ rest)

  -- the areas are as they were
  same_before : way.to.memory.areas ≡ now.memory.areas
  same_before = same_areas frames way.after way.to way.reached.related ∙ ap (λ (m : Contents). m.areas) way.memory

  -- a target without a place: what is read meets its fault
  module _ (x : Fault) (none : way.target ≡ Err x) where
    missed : place_of_operand o now ≡ Err x
    missed = way.is ∙ ap (λ (r : Result Place Fault). found_with r way.after) none

    reading_missed : value g (reading_of first o w) way.to ≡ Err x
    reading_missed =
        way.reached.reads way.to refl refl refl refl
        ∙ ap (λ (r : Result Place Fault). and_then r (λ p. read_place (type_of_width w) p way.after.memory)) none

    stops_missed : StopsBefore g calls units s (fetching true) now.memory x
    stops_missed rest =
        record {
          at = way.to;
          stops = begins true rest ∙ assign_stops_at_value g calls (var.Local later) (reading_of first o w) rest units way.to x reading_missed;
          areas = same_before;
        }

    fetch_stops_missed : StopsBefore g calls units s (fetch_of first o w) now.memory x
    fetch_stops_missed = subst (λ (b : Bool). StopsBefore g calls units s (fetching b) now.memory x) (sym (way.sure x none)) stops_missed

  -- one with a place
  module _ (p : Place) (some : way.target ≡ Ok p) where
    abbrev place_found : OperandPlace
    place_found = record { place = p; after = way.after }

    is_found : place_of_operand o now ≡ Ok place_found
    is_found = way.is ∙ ap (λ (r : Result Place Fault). found_with r way.after) some

    -- what is read there
    abbrev is_there : Result Value Fault
    is_there = read_place (type_of_width w) p way.after.memory

    reads : (u : State) → u.memory ≡ way.to.memory → u.activations ≡ way.to.activations
        → u.registers reg.DbNo ≡ way.to.registers reg.DbNo → u.registers reg.DiNo ≡ way.to.registers reg.DiNo
        → value g (reading_of first o w) u ≡ is_there
    reads u memory activations db di =
        way.reached.reads u memory activations db di
        ∙ ap (λ (r : Result Place Fault). and_then r (λ q. read_place (type_of_width w) q way.after.memory)) some

    reads_here : value g (reading_of first o w) way.to ≡ is_there
    reads_here = reads way.to refl refl refl refl

    writes : (then_now : Now) (u : State) → Related frames then_now u → KeepsWay later way.to u → PutsAt g frames w (Ok p) then_now u (writing_of first o w)
    writes then_now u alike keeps =
        subst (λ (r : Result Place Fault). PutsAt g frames w r then_now u (writing_of first o w)) some (way.reached.writes then_now u alike keeps)

    abbrev Fetched : Bool → State → Type 0
    Fetched b t = IsFetched g frames s o w place_found first (fetched b) t

    -- where no fault may be met
    reached_alone : length (types_reached o) ≤ length (types_fetched o w) → Fetched false way.to
    reached_alone more =
        record {
          related = way.reached.related;
          as_many = way.reached.as_many;
          below = way.reached.below;
          worth = λ u memory activations db di. reads u memory activations db di;
          here = reads_here;
          writes = λ then_now u alike keeps. writes then_now u alike (fewer (first + length (types_fetched o w)) later way.to u (omega arith) keeps);
        }

    -- and where one may be, and the local takes a value
    abbrev holding : Value → State
    holding v = with_own later v way.to

    held : (v : Value) → later < length (own_of s.activations)
        → length (types_reached o) ≤ length (types_fetched o w) → is_there ≡ Ok v → Fetched true (holding v)
    held v room more e =
        let many : length (own_of way.to.activations) ≡ length (own_of s.activations) = way.reached.as_many in
        let there : slice_get (own_of (holding v).activations) later ≡ Some v = own_same later v way.to (omega arith) in
        record {
          related = keep_local frames way.after way.to way.reached.related later v;
          as_many = own_length later v way.to ∙ many;
          below = λ i h. own_other later v way.to i (λ same. absurd (omega arith)) ∙ way.reached.below i h;
          worth = λ u memory activations db di.
              local_read g later v u (ap (λ (running : List StActivation). slice_get (own_of running) later) activations ∙ there) ∙ sym e;
          here = local_read g later v (holding v) there ∙ sym e;
          writes = λ then_now u alike keeps.
              writes then_now u alike
              (kept_on later way.to (holding v) u (local_kept later later v way.to (omega arith))
              (fewer (first + length (types_fetched o w)) later (holding v) u (omega arith) keeps));
        }

    held_goes : (v : Value) → later < length (own_of s.activations) → is_there ≡ Ok v → LeadsTo g calls units s (fetching true) (holding v)
    held_goes v room e rest =
        let many : length (own_of way.to.activations) ≡ length (own_of s.activations) = way.reached.as_many in
        begins true rest
        ∙ assign_goes_on g calls (var.Local later) (reading_of first o w) rest units way.to (holding v) v
        (reads_here ∙ e) (local_wrote g later v way.to (omega arith))

    held_stops : (x : Fault) → is_there ≡ Err x → StopsBefore g calls units s (fetching true) now.memory x
    held_stops x e rest =
        record {
          at = way.to;
          stops = begins true rest
              ∙ assign_stops_at_value g calls (var.Local later) (reading_of first o w) rest units way.to x (reads_here ∙ e);
          areas = same_before;
        }

    -- both ways out: what holds where the statements lead to a state in which the operand is fetched, and where they
    -- meet the fault that is read at its place, holds
    either : (goal : Type 0) (b : Bool) → length (types_reached o) ≤ length (types_fetched o w) → first + length (locals b) ≤ length (own_of s.activations)
        → ((t : State) → Fetched b t → LeadsTo g calls units s (fetching b) t → goal)
        → ((x : Fault) → is_there ≡ Err x → StopsBefore g calls units s (fetching b) now.memory x → goal) → goal
    either goal false more room goes stops = goes way.to (reached_alone more) (λ rest. begins false rest)
    either goal true more room goes stops = by is_there refl
      where
        one_more : length (types_reached o ++ type_of_width w ∷ []) ≡ length (types_reached o) + 1
        one_more = length-append (types_reached o) (type_of_width w ∷ [])

        by : (r : Result Value Fault) → is_there ≡ r → goal
        by (Ok v) e =
            let fits : later < length (own_of s.activations) = omega (arith, one_more) in
            goes (holding v) (held v fits more e) (held_goes v fits e)
        by (Err x) e = stops x e (held_stops x e)

    more_fetched : length (types_reached o) ≤ length (types_fetched o w)
    more_fetched = omega (arith, length-append (types_reached o) (if may_fault o then type_of_width w ∷ [] else []))

    by_fetched : (goal : Type 0) → first + length (types_fetched o w) ≤ length (own_of s.activations)
        → ((t : State) → IsFetched g frames s o w place_found first (fetched_value_of first o w) t → LeadsTo g calls units s (fetch_of first o w) t → goal)
        → ((x : Fault) → is_there ≡ Err x → StopsBefore g calls units s (fetch_of first o w) now.memory x → goal) → goal
    by_fetched goal room goes stops = either goal (may_fault o) more_fetched room goes stops

-- A row behind its operand

-- what a row does from one state, with its locals from a later number on, it does from another in which the locals
-- before are the same
pub carried : (ended : Out) (units first used : ℕ) (frames : Frames) (s t : State) (before memory : Contents) (effect : Effect)
    → length (own_of t.activations) ≡ length (own_of s.activations)
    → ((i : ℕ) → i < first → slice_get (own_of t.activations) i ≡ slice_get (own_of s.activations) i)
    → first ≤ used → memory ≡ before
    → DoesInstruction ended units used frames t memory effect → DoesInstruction ended units first frames s before effect
carried ended units first used frames s t before memory (next after) as_many below more same row =
    record {
      to = row.to;
      goes = row.goes;
      related = row.related;
      as_many = row.as_many ∙ as_many;
      below = λ i h. row.below i (omega arith) ∙ below i h;
    }
carried ended units first used frames s t before memory (fault f) as_many below more same row =
    record { at = row.at; stops = row.stops; areas = row.areas ∙ ap (λ (m : Contents). m.areas) same }
carried ended units first used frames s t before memory (go to after) as_many below more same row = elim row [ ]
carried ended units first used frames s t before memory (enter call after) as_many below more same row = elim row [ ]
carried ended units first used frames s t before memory (leave after) as_many below more same row = elim row [ ]

-- an operand as the table of instructions reads it, with a value for each answer: a truth value, or a number
abbrev pub IsReadAs : {A : Type 0} → Width → (Place → Contents → Result A Fault) → (A → Value) → Type 0
IsReadAs w read shown = (p : Place) (m : Contents) → read_place (type_of_width w) p m ≡ and_then (read p m) (λ x. Ok (shown x))

pub bit_shown : IsReadAs width.Bit read_bit flag
bit_shown p m = refl

abbrev pub number_value : Width → ℕ → Value
number_value w n = typed (type_of_width w) (pos n)

pub number_shown : (w : Width) → IsReadAs w (read_number w) (number_value w)
number_shown width.Bit p m = by (read_bit p m)
  where
    by : (r : Result Bool Fault) → and_then r (λ b. Ok (flag b)) ≡ and_then (and_then r (λ b. Ok (from_bool b))) (λ n. Ok (number_value width.Bit n))
    by (Ok true) = refl
    by (Ok false) = refl
    by (Err f) = refl
number_shown width.Byte p m = refl
number_shown width.Word p m = refl
number_shown width.Dword p m = refl

-- the fault that is read is the one that the table meets
pub same_fault : {A : Type 0} (shown : A → Value) (r : Result A Fault) (x : Fault) → and_then r (λ v. Ok (shown v)) ≡ Err x → r ≡ Err x
same_fault shown (Ok v) x e = absurd cc
same_fault shown (Err y) x e = cc

module _ (g : List Located) (calls : Calls) (units : ℕ) (frames : Frames) (now : Now) (s : State)
    (related : Related frames now s) (first : ℕ) (o : Operand) (w : Width) (lies : IsOperand frames.formals w o) where
  -- a row that reads its operand: its effect is one by what is read at the place
  module _ {A : Type 0} (read : Place → Contents → Result A Fault) (shown : A → Value) (as_read : IsReadAs w read shown)
      (effect : Place → Now → A → Effect) (rest : List Stmt) (room : first + length (types_fetched o w) ≤ length (own_of s.activations))
      (does : (f : OperandPlace) → place_of_operand o now ≡ Ok f → (t : State) → IsFetched g frames s o w f first (fetched_value_of first o w) t
      → DoesInstruction (body_meaning g calls rest units t) units (first + length (types_fetched o w)) frames t f.after.memory
      (with_value (read f.place f.after.memory) (effect f.place f.after))) where
    abbrev read_effect : Place → Now → Effect
    read_effect p after = with_value (read p after.memory) (effect p after)

    abbrev ReadGoal : Effect → Type 0
    ReadGoal = DoesInstruction (body_meaning g calls (fetch_of first o w ++ rest) units s) units first frames s now.memory

    read_target : (way : Reaches g calls units frames now s first w o) (target : Result Place Fault)
        → way.target ≡ target → ReadGoal (with_place o now read_effect)
    read_target way (Err x) none =
        placed o now read_effect ReadGoal (Err x) (missed g calls units frames now s first o w way x none)
        (fetch_stops_missed g calls units frames now s first o w way x none rest)
    read_target way (Ok p) some =
        let f : OperandPlace = record { place = p; after = way.after } in
        let is : place_of_operand o now ≡ Ok f = is_found g calls units frames now s first o w way p some in
        placed o now read_effect ReadGoal (Ok f) is
        (by_fetched g calls units frames now s first o w way p some (ReadGoal (read_effect p way.after)) room
        (λ t done goes.
        carried (body_meaning g calls (fetch_of first o w ++ rest) units s) units first
        (first + length (types_fetched o w)) frames s t now.memory way.after.memory (read_effect p way.after)
        done.as_many done.below (omega arith) way.memory
        (subst (λ (ended : Out). DoesInstruction ended units (first + length (types_fetched o w)) frames t way.after.memory (read_effect p way.after))
        (sym (goes rest)) (does f is t done)))
        (λ x e stops.
        subst (λ (r : Result A Fault). ReadGoal (with_value r (effect p way.after)))
        (sym (same_fault shown (read p way.after.memory) x (sym (as_read p way.after.memory) ∙ e))) (stops rest)))

    read_way : Reaches g calls units frames now s first w o ⊎ Misses g calls units now s first o → ReadGoal (with_place o now read_effect)
    read_way (inl way) = read_target way way.target refl
    read_way (inr met) =
        let own : List Stmt = if may_fault o then set_local_of (first + length (types_reached o)) (reading_of first o w) ∷ [] else [] in
        placed o now read_effect ReadGoal (Err met.met) met.is
        (subst (λ (body : List Stmt). Stops (body_meaning g calls body units s) now.memory met.met)
        (sym (append_assoc (reach_of first o) own rest)) (met.stops (own ++ rest)))

    -- what its statements do behind the fetched operand, they do with the fetching before them
    pub fetch_effect : DoesInstruction (body_meaning g calls (fetch_of first o w ++ rest) units s) units first frames s now.memory
        (with_place o now (λ p after. with_value (read p after.memory) (effect p after)))
    fetch_effect =
        read_way
        (reaches g calls units frames now s related first w o lies
        (omega (arith, length-append (types_reached o) (if may_fault o then type_of_width w ∷ [] else []))))

  -- a row that writes its operand and does not read it: an expression with a value in each related state is written
  -- as the row writes, and what stands behind comes to its end
  module _ (e : Expr) (v : Now → Value) (worth : (after : Now) (t : State) → Related frames after t → value g e t ≡ Ok (v after))
      (fits : (after : Now) (t : State) → Related frames after t → IsOf (type_of_width w) (v after))
      (put : Place → Now → Result Contents Fault) (puts : (p : Place) (after : Now) → write_place (type_of_width w) p (v after) after.memory ≡ put p after)
      (row : Now → Now) (rest : List Stmt) (room : first + length (types_reached o) ≤ length (own_of s.activations))
      (does : (after : Now) (t : State) → Related frames after t
      → Leads (body_meaning g calls rest units t) units (first + length (types_reached o)) frames t (row after)) where
    abbrev write_effect : Place → Now → Effect
    write_effect p after = with_memory (put p after) after (λ done. next (row done))

    abbrev WriteGoal : Effect → Type 0
    WriteGoal = DoesInstruction (body_meaning g calls (reach_of first o ++ writing_of first o w e ∷ rest) units s) units first frames s now.memory

    module _ (way : Reaches g calls units frames now s first w o) where
      -- where the way leads, the expression has its value, and the write does what it does in the program
      abbrev Written : Result Contents Fault → Type 0
      Written =
          Puts (body_meaning g calls (writing_of first o w e ∷ rest) units way.to) (body_meaning g calls rest) units frames way.after way.to

      written : (target : Result Place Fault) → way.target ≡ target
          → Written (and_then target (λ p. write_place (type_of_width w) p (v way.after) way.after.memory))
      written target is =
          subst (λ (r : Result Place Fault). Written (and_then r (λ p. write_place (type_of_width w) p (v way.after) way.after.memory))) is
          ((way.reached.writes way.after way.to way.reached.related (keeps_itself (first + length (types_reached o)) way.to)).puts
          calls units e (v way.after) rest (fits way.after way.to way.reached.related) (worth way.after way.to way.reached.related))

      by_written : (p : Place) → (memory : Result Contents Fault) → Written memory → WriteGoal (with_memory memory way.after (λ done. next (row done)))
      by_written p (Ok m) done =
          let many : length (own_of way.to.activations) ≡ length (own_of s.activations) = way.reached.as_many in
          let ended : Leads (body_meaning g calls rest units done.to) units (first + length (types_reached o)) frames done.to
          (row (record way.after { memory = m })) = does (record way.after { memory = m }) done.to done.related in
          record {
            to = ended.to;
            goes = way.goes (writing_of first o w e ∷ rest) ∙ done.goes ∙ ended.goes;
            related = ended.related;
            as_many = ended.as_many ∙ ap length done.own ∙ many;
            below = λ i h. ended.below i (omega arith) ∙ ap (λ (xs : List Value). slice_get xs i) done.own ∙ way.reached.below i h;
          }
      by_written p (Err x) done =
          record {
            at = way.to;
            stops = way.goes (writing_of first o w e ∷ rest) ∙ done;
            areas = same_before g calls units frames now s first o w way;
          }

      write_target : (target : Result Place Fault) → way.target ≡ target → WriteGoal (with_place o now write_effect)
      write_target (Ok p) some =
          placed o now write_effect WriteGoal (Ok (record { place = p; after = way.after }))
          (is_found g calls units frames now s first o w way p some)
          (by_written p (put p way.after) (subst Written (puts p way.after) (written (Ok p) some)))
      write_target (Err x) none =
          placed o now write_effect WriteGoal (Err x) (missed g calls units frames now s first o w way x none)
          (record {
            at = way.to;
            stops = way.goes (writing_of first o w e ∷ rest) ∙ written (Err x) none;
            areas = same_before g calls units frames now s first o w way;
          })

    write_way : Reaches g calls units frames now s first w o ⊎ Misses g calls units now s first o → WriteGoal (with_place o now write_effect)
    write_way (inl way) = write_target way way.target refl
    write_way (inr met) = placed o now write_effect WriteGoal (Err met.met) met.is (met.stops (writing_of first o w e ∷ rest))

    pub reach_effect : DoesInstruction (body_meaning g calls (reach_of first o ++ writing_of first o w e ∷ rest) units s) units first frames s now.memory
        (with_place o now (λ p after. with_memory (put p after) after (λ done. next (row done))))
    reach_effect = write_way (reaches g calls units frames now s related first w o lies room)
