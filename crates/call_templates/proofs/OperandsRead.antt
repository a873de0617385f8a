-- The operands that a function block is given are read into locals, so all of them are found before anything is copied.
use Rattle.std.proofs.Common.{◌≡◌, ℕ, ◌+◌, ◌^◌, ◌<◌, ◌≤◌, Bool, true, List, [], ◌∷◌, length, Option, Some, None, Result, Ok, Err, refl, sym, ap, subst, ◌∙◌, arith}
use Rattle.call_templates.proofs.ConstantActuals.{number_as, number_fits}
use Rattle.call_templates.proofs.Given.{operand_reads, place_named}
use Rattle.call_templates.proofs.InstancePlaces.{operand_named}
use Rattle.call_templates.proofs.Surroundings.{OnlyLocals, changed_on, local_changed, nothing_changed, takes}
use Rattle.call_templates.specs.Calls.{operands_read, types_of_operands, variable_of}
use Rattle.instruction_laws.proofs.RangeEffects.{number_read}
use Rattle.memory_areas.specs.Access.{HoldsBytes, aim_of_place, and_then, bits_wide, fault_of, unless}
use Rattle.memory_areas.specs.Areas.{Contents}
use Rattle.memory_areas.specs.declared.place.Place.{Place}
use Rattle.s7_base.specs.declared.outcome.Fault.{Fault}
use Rattle.s7_base.specs.declared.word.Width.{Width}
use Rattle.s7_base.specs.declared.word.Width.TheVariants as width
use Rattle.stl_tree.proofs.KeptFaults.{number_is_read}
use Rattle.stl_tree.specs.Accepted.{AreActuals, IsOperand, is_written}
use Rattle.stl_tree.specs.Accumulators.{read_number}
use Rattle.stl_tree.specs.Calls.{actual_places, given_place}
use Rattle.stl_tree.specs.Now.{Now}
use Rattle.stl_tree.specs.declared.program.Actual.{Actual}
use Rattle.stl_tree.specs.declared.program.Actual.TheVariants as actual
use Rattle.stl_tree.specs.declared.program.Formal.{Formal}
use Rattle.stl_tree.specs.declared.program.Operand.{Operand}
use Rattle.st_tree.proofs.Equations.{assign_stops_at_value}
use Rattle.st_tree.proofs.Locals.{with_own}
use Rattle.st_tree.specs.Meaning.{Calls, Faults, Normal, body_meaning}
use Rattle.st_tree.specs.State.{State, own_of, read_place}
use Rattle.st_tree.specs.Value.{value}
use Rattle.st_tree.specs.Values.{type_of_width}
use Rattle.st_tree.specs.declared.expr.Expr.TheVariants as expr
use Rattle.st_tree.specs.declared.expr.Var.TheVariants as var
use Rattle.st_tree.specs.declared.program.Located.{Located}
use Rattle.st_tree.specs.declared.state.Value.{Value}
use Rattle.template_parts.proofs.Fetching.{number_shown, number_value}
use Rattle.template_parts.specs.Related.{Frames, Related}

-- Reading

-- a number of a width is as it is
number_same : (w : Width) (n : ℕ) → n < 2 ^ bits_wide w → number_value w n ≡ number_as w n
number_same w n small = ap (λ z. record { ty = type_of_width w; n = z }) (number_fits w n small).number

-- an access without a fault reads a number
pub record IsReadAs (w : Width) (p : Place) (m : Contents) : Type 0 where
  pub number : ℕ
  pub small : number < 2 ^ bits_wide w
  pub is_number : read_number w p m ≡ Ok number
  pub is_value : read_place (type_of_width w) p m ≡ Ok (number_as w number)

pub read_as : (w : Width) (p : Place) (m : Contents) → HoldsBytes m → fault_of (aim_of_place p) w m ≡ None → IsReadAs w p m
read_as w p m holds none =
    let found = number_is_read w p m none in
    let small : found.0 < 2 ^ bits_wide w = number_read w p m holds found.0 found.1 in
    record {
      number = found.0;
      small = small;
      is_number = found.1;
      is_value = number_shown w p m ∙ ap (λ (r : Result ℕ Fault). and_then r (λ x. Ok (number_value w x))) found.1
          ∙ ap (λ (v : Value). Ok v) (number_same w found.0 small);
    }

-- one with a fault meets it
faulted : {A B C : Type 0} (o : Option Fault) (x : A) (f : A → B) (h : B → C) (y : Fault) → o ≡ Some y
    → ◌≡◌ {A = Result C Fault} (and_then (and_then (unless o x) (λ b. Ok (f b))) (λ c. Ok (h c))) (Err y)
faulted None x f h y e = cc
faulted (Some z) x f h y e = let same : z ≡ y = cc in ap (λ (w : Fault). Err w) same

read_faults : (w : Width) (p : Place) (m : Contents) (f : Fault) → fault_of (aim_of_place p) w m ≡ Some f → read_place (type_of_width w) p m ≡ Err f
read_faults width.Bit p m f e = faulted (fault_of (aim_of_place p) width.Bit m) _ _ _ f e
read_faults width.Byte p m f e = faulted (fault_of (aim_of_place p) width.Byte m) _ _ _ f e
read_faults width.Word p m f e = faulted (fault_of (aim_of_place p) width.Word m) _ _ _ f e
read_faults width.Dword p m f e = faulted (fault_of (aim_of_place p) width.Dword m) _ _ _ f e

-- The operands of a call

module _ (g : List Located) (calls : Calls) (units : ℕ) (frames : Frames) (now : Now) where
  -- the statements lead to a state in which only locals have changed, or to the fault that the call meets
  abbrev pub ReadsAll : ℕ → List Formal → List Actual → State → Result (List (Option Place)) Fault → Type 0
  ReadsAll next formals actuals s (Ok places) =
      (t : State) × (body_meaning g calls (operands_read next formals actuals) units s ≡ Normal units t) × OnlyLocals frames now next s t
  ReadsAll next formals actuals s (Err f) =
      (t : State) × (body_meaning g calls (operands_read next formals actuals) units s ≡ Faults f t) × (t.memory ≡ s.memory)

  -- the rest of them, behind one that was found
  behind_one : (next : ℕ) (formals : List Formal) (actuals : List Actual) (s : State) (p : Option Place) (r : Result (List (Option Place)) Fault)
      → ReadsAll next formals actuals s r → ReadsAll next formals actuals s (and_then r (λ ps. Ok (p ∷ ps)))
  behind_one next formals actuals s p (Ok ps) h = h
  behind_one next formals actuals s p (Err f) h = h

  -- one that is read, and the rest
  module _ (f : Formal) (o : Operand) (formals : List Formal) (actuals : List Actual) (next : ℕ) (s : State) (related : Related frames now s)
      (written : is_written o ≡ true) (is : IsOperand frames.formals f.width o) (room : next < length (own_of s.activations))
      (places : Result (List (Option Place)) Fault)
      (later : (t : State) → Related frames now t → length (own_of t.activations) ≡ length (own_of s.activations)
      → ReadsAll (next + 1) formals actuals t places) where
    abbrev here : Place
    here = place_named o now

    abbrev Goal : Result (Option Place) Fault → Type 0
    Goal r = ReadsAll next (f ∷ formals) (actual.At o ∷ actuals) s (and_then r (λ p. and_then places (λ ps. Ok (p ∷ ps))))

    worth : value g (expr.Read (variable_of o f.width)) s ≡ read_place (type_of_width f.width) here now.memory
    worth = operand_reads g frames now s related o f.width written is

    took : (v : Value) → value g (expr.Read (variable_of o f.width)) s ≡ Ok v → (r : Result (List (Option Place)) Fault)
        → ReadsAll (next + 1) formals actuals (with_own next v s) r
        → ReadsAll next (f ∷ formals) (actual.At o ∷ actuals) s (and_then r (λ ps. Ok (Some here ∷ ps)))
    took v e (Ok ps) h = (
      h.0,
      takes g calls units next (expr.Read (variable_of o f.width)) v (operands_read (next + 1) formals actuals) s room e ∙ h.1,
      changed_on frames now next (next + 1) s (with_own next v s) h.0 (omega arith) (local_changed frames now s related next v) h.2,
    )
    took v e (Err x) h =
        (h.0, takes g calls units next (expr.Read (variable_of o f.width)) v (operands_read (next + 1) formals actuals) s room e ∙ h.1, h.2)

    by_fault : (x : Option Fault) → fault_of (aim_of_place here) f.width now.memory ≡ x → Goal (unless x (Some here))
    by_fault None e =
        let found = read_as f.width here now.memory related.bytes e in
        let v : Value = number_as f.width found.number in
        let one = local_changed frames now s related next v in
        took v (worth ∙ found.is_value) places (later (with_own next v s) one.related one.as_many)
    by_fault (Some x) e = (
      s,
      assign_stops_at_value g calls (var.Local next) (expr.Read (variable_of o f.width)) (operands_read (next + 1) formals actuals) units s x
          (worth ∙ read_faults f.width here now.memory x e),
      refl,
    )

    one_read : Goal (given_place f.width o now)
    one_read =
        let named = operand_named g frames now s related o f.width written is in
        subst Goal (sym named.given) (by_fault (fault_of (aim_of_place here) f.width now.memory) refl)

  pub operands_are_read : (optional : Bool) (formals : List Formal) (actuals : List Actual) (next k : ℕ) (s : State) → Related frames now s
      → AreActuals frames.formals optional formals actuals → next + length (types_of_operands formals actuals) ≤ length (own_of s.activations)
      → ReadsAll next formals actuals s (actual_places (length now.activations) k formals actuals now)
  operands_are_read optional [] [] next k s related are room = (s, refl, nothing_changed frames now next s related)
  operands_are_read optional [] (a ∷ actuals) next k s related are room = absurd are
  operands_are_read optional (f ∷ formals) [] next k s related are room = absurd are
  operands_are_read optional (f ∷ formals) (actual.Missing ∷ actuals) next k s related are room =
      behind_one next formals actuals s None (actual_places (length now.activations) (k + 1) formals actuals now)
      (operands_are_read optional formals actuals next (k + 1) s related are.1 room)
  operands_are_read optional (f ∷ formals) (actual.Constant c ∷ actuals) next k s related are room =
      behind_one next formals actuals s _ (actual_places (length now.activations) (k + 1) formals actuals now)
      (operands_are_read optional formals actuals next (k + 1) s related are.1 room)
  operands_are_read optional (f ∷ formals) (actual.At o ∷ actuals) next k s related are room =
      one_read f o formals actuals next s related are.0.0 are.0.1 (omega arith) (actual_places (length now.activations) (k + 1) formals actuals now)
      (λ t alike many. operands_are_read optional formals actuals (next + 1) (k + 1) t alike are.1 (omega (arith, many)))
