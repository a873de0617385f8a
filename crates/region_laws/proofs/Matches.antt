-- Ends of statements that match: what the first does, the second does too.
use Rattle.std.proofs.Common.{◌≡◌, ℕ, Bool, true, false, if◌then◌else◌, List, [], ◌∷◌, Option, Some, None, Result, Ok, Err, refl, sym, ap, ◌∙◌, subst}
use Rattle.std.specs.Prelude.{suc, ◌*◌, ◌≤◌, All, length, slice_get}
use Rattle.std.proofs.lemmas.List.Elements.{All-head, All-tail}
use Rattle.memory_areas.specs.Areas.{Areas, Contents}
use Rattle.memory_areas.specs.End.{Ended}
use Rattle.s7_base.specs.declared.outcome.Fault.{Fault}
use Rattle.s7_base.specs.declared.word.Width.{Width}
use Rattle.st_tree.specs.Calls.{after_unit, left}
use Rattle.st_tree.specs.Meaning.{Calls, Faults, Guarded, NoUnits, Normal, Out, Sem, after_body, body_meaning, first_true, in_order, meaning, state_or_fault, then_do, with_value}
use Rattle.st_tree.specs.StRun.{end_seen}
use Rattle.st_tree.specs.State.{State}
use Rattle.st_tree.specs.Value.{value}
use Rattle.st_tree.specs.Values.{is_set, type_of_width}
use Rattle.st_tree.specs.WellTyped.{UnitScope, are_well_typed, expression_type, has_type, is_call, is_well_typed, variable_type}
use Rattle.st_tree.specs.declared.expr.Expr.{Expr}
use Rattle.st_tree.specs.declared.expr.StType.TheVariants as type
use Rattle.st_tree.specs.declared.expr.Var.{Var}
use Rattle.st_tree.specs.declared.program.Arm.{Arm}
use Rattle.st_tree.specs.declared.program.Located.{Located}
use Rattle.st_tree.specs.declared.program.Stmt.{Stmt}
use Rattle.st_tree.specs.declared.program.Stmt.TheVariants as stmt
use Rattle.st_tree.specs.declared.state.Value.{Value}
use Rattle.st_tree.proofs.Common.{and_parts}
use Rattle.st_tree.proofs.Equations.{meaning_area_write, meaning_arm, meaning_assign, meaning_if, meaning_invoke}
use Rattle.st_tree.proofs.TypedParts.{both_sides, parts_of_arm, parts_of_arms, parts_of_body, parts_of_if}
use Rattle.st_tree.proofs.TypingEquations.{good_area_write, good_assign, good_invoke, type_had}
use Rattle.graph_rules.specs.Plain.{AreSteps, IsGuarded}
use Rattle.region_laws.proofs.Entering.{inner_shape, near_left}
use Rattle.region_laws.proofs.Near.{Near, Shape, Written, near_area, near_assigned, same_value}
use Rattle.region_laws.proofs.Steps.{each_guarded, each_step}

-- the second comes to its end, in a state that is near, with units left of which R holds; or it has the same fault.
-- Where the first has too few units, the second may do anything. The first is not left by EXIT, CONTINUE or RETURN
abbrev pub Matches : Shape → (ℕ → ℕ → Type 0) → Out → Out → Type 0
Matches shape R (Normal a s) p = (b : ℕ) × (t : State) × (p ≡ Normal b t) × R a b × Near shape s t
Matches shape R (Faults f s) p = (t : State) × (p ≡ Faults f t) × (s.memory ≡ t.memory)
Matches shape R (NoUnits s) p = Unit {0}
Matches shape R o p = ⊥

-- of the units of a graph and of its text: two units a node are enough, one for the test of the loop, and one for a call
-- that begins the node
abbrev pub Twice : ℕ → ℕ → ℕ → Type 0
Twice top a b = (a ≤ top) × (suc (2 * a) ≤ b)

module _ (shape : Shape) where
  pub wider : (R Q : ℕ → ℕ → Type 0) → ((a b : ℕ) → R a b → Q a b) → (o p : Out) → Matches shape R o p → Matches shape Q o p
  wider R Q h (Normal a s) p m = (m.0, m.1, m.2, h a m.0 m.3, m.4)
  wider R Q h (Faults f s) p m = m
  wider R Q h (NoUnits s) p m = tt
  wider R Q h o p m = elim m [ ]

  -- statements one after another
  pub then_matches : (R Q : ℕ → ℕ → Type 0) (o p : Out) → Matches shape R o p → (f h : Sem)
      → ((a b : ℕ) → R a b → (s t : State) → Near shape s t → Matches shape Q (f a s) (h b t)) → Matches shape Q (then_do o f) (then_do p h)
  then_matches R Q (Normal a s) p m f h more =
      subst (λ (p : Out). Matches shape Q (f a s) (then_do p h)) (sym m.2) (more a m.0 m.3 s m.1 m.4)
  then_matches R Q (Faults x s) p m f h more = (m.0, ap (λ (p : Out). then_do p h) m.1, m.2)
  then_matches R Q (NoUnits s) p m f h more = tt
  then_matches R Q o p m f h more = elim m [ ]

  -- a node against a turn of a loop, whose body are statements and then others
  pub node_matches_turn : (R Q : ℕ → ℕ → Type 0) (o p : Out) → Matches shape R o p → (f h again : Sem)
      → ((a b : ℕ) → R a b → (s t : State) → Near shape s t → Matches shape Q (f a s) (after_body (h b t) again))
      → Matches shape Q (then_do o f) (after_body (then_do p h) again)
  node_matches_turn R Q (Normal a s) p m f h again more =
      subst (λ (p : Out). Matches shape Q (f a s) (after_body (then_do p h) again)) (sym m.2) (more a m.0 m.3 s m.1 m.4)
  node_matches_turn R Q (Faults x s) p m f h again more = (m.0, ap (λ (p : Out). after_body (then_do p h) again) m.1, m.2)
  node_matches_turn R Q (NoUnits s) p m f h again more = tt
  node_matches_turn R Q o p m f h again more = elim m [ ]

  -- and a turn against a node
  pub turn_matches_node : (R Q : ℕ → ℕ → Type 0) (o p : Out) → Matches shape R o p → (f h again : Sem)
      → ((a b : ℕ) → R a b → (s t : State) → Near shape s t → Matches shape Q (after_body (h a s) again) (f b t))
      → Matches shape Q (after_body (then_do o h) again) (then_do p f)
  turn_matches_node R Q (Normal a s) p m f h again more =
      subst (λ (p : Out). Matches shape Q (after_body (h a s) again) (then_do p f)) (sym m.2) (more a m.0 m.3 s m.1 m.4)
  turn_matches_node R Q (Faults x s) p m f h again more = (m.0, ap (λ (p : Out). then_do p f) m.1, m.2)
  turn_matches_node R Q (NoUnits s) p m f h again more = tt
  turn_matches_node R Q o p m f h again more = elim m [ ]

  -- Statements that are well typed with the shared locals match, where calls do

  -- a call of a unit, which is given variables of the types of its formals
  abbrev pub CallsMatch : UnitScope → (ℕ → ℕ → Type 0) → Calls → Calls → Type 0
  CallsMatch sight R first second =
      (n : ℕ) (vars : List Var) → is_call sight (slice_get sight.heads n) vars ≡ true
      → (a b : ℕ) → R a b → (s t : State) → Near shape s t → Matches shape R (first n vars a s) (second n vars b t)

  module _ (R : ℕ → ℕ → Type 0) (g : List Located) (sight : UnitScope) (known : length sight.locals ≤ shape.shared shape.waiting) (first second : Calls)
      (called : CallsMatch sight R first second) (inside : Bool)
    where
      changed_matches : (v w : Result State Fault) → Written shape v w → (a b : ℕ) → R a b → (s t : State) → s.memory ≡ t.memory
          → Matches shape R (state_or_fault v a s) (state_or_fault w b t)
      changed_matches (Ok x) (Ok y) e a b h s t same = (b, y, refl, h, e)
      changed_matches (Err f) (Err k) e a b h s t same = (t, ap (λ (f : Fault). Faults f t) (sym e), same)
      changed_matches (Ok x) (Err k) e a b h s t same = elim e [ ]
      changed_matches (Err f) (Ok y) e a b h s t same = elim e [ ]

      abbrev Alike : Stmt → Type 0
      Alike x =
          is_well_typed sight x inside ≡ true → (a b : ℕ) → R a b → (s t : State) → Near shape s t
          → Matches shape R (meaning g first x a s) (meaning g second x b t)

      assign_matches : (v : Var) (e : Expr) → Alike (stmt.Assign v e)
      assign_matches v e =
          λ h a b r s t near.
          let sides = both_sides (variable_type sight v) (expression_type sight e) (sym (good_assign sight inside v e) ∙ h) in
          rw (meaning_assign g first a s v e, meaning_assign g second b t v e)
          (changed_matches _ _ (near_assigned shape s t near g sight known v e sides.type sides.left sides.right) a b r s t near.memory)

      write_matches : (x : Width) (p e : Expr) → Alike (stmt.AreaWrite x p e)
      write_matches x p e =
          λ h a b r s t near.
          let both = and_parts (has_type type.Dword (expression_type sight p)) (has_type (type_of_width x) (expression_type sight e))
          (sym (good_area_write sight inside x p e) ∙ h) in
          rw (meaning_area_write g first a s x p e, meaning_area_write g second b t x p e)
          (changed_matches _ _
          (near_area shape s t near g sight known x p e type.Dword (type_of_width x) (type_had type.Dword (expression_type sight p) both.0)
          (type_had (type_of_width x) (expression_type sight e) both.1)) a b r s t near.memory)

      call_matches : (n : ℕ) (vars : List Var) → Alike (stmt.Invoke n vars)
      call_matches n vars =
          λ h a b r s t near.
          rw (meaning_invoke g first a s n vars, meaning_invoke g second b t n vars)
          (called n vars (sym (good_invoke sight inside n vars) ∙ h) a b r s t near)

      body_matches : (xs : List Stmt) → All Alike xs → are_well_typed sight inside xs ≡ true → (a b : ℕ) → R a b → (s t : State) → Near shape s t
          → Matches shape R (body_meaning g first xs a s) (body_meaning g second xs b t)
      body_matches [] all h a b r s t near = (b, t, refl, r, near)
      body_matches (x ∷ xs) all h a b r s t near =
          let parts = parts_of_body sight inside x xs h in
          then_matches R R (meaning g first x a s) (meaning g second x b t) (All-head Alike x xs all parts.0 a b r s t near)
          (body_meaning g first xs) (body_meaning g second xs) (λ c d q y z k. body_matches xs (All-tail Alike x xs all) parts.1 c d q y z k)

      -- what is done under a test
      abbrev under : Calls → List Stmt → Result Value Fault → Sem
      under c body o units s = with_value o units s (λ v. if is_set v then body_meaning g c body units s else Normal units s)

      guard_does : (c : Calls) (arm : Arm) (units : ℕ) (s : State) → meaning g c (stmt.If (arm ∷ []) []) units s ≡ under c arm.body (value g arm.test s) units s
      guard_does c arm units s =
          meaning_if g c units s (arm ∷ []) []
          ∙ ap (λ (x : Guarded). first_true (x ∷ []) (in_order []) units s) (meaning_arm g c arm)

      guard_matches : (arm : Arm) → IsGuarded arm.body → Alike (stmt.If (arm ∷ []) [])
      guard_matches arm guarded =
          λ h a b r s t near.
          let whole = parts_of_if sight inside (arm ∷ []) [] h in
          let parts = parts_of_arm sight inside arm (parts_of_arms sight inside arm [] whole.0).0 in
          let same = same_value shape s t near g sight known arm.test type.Bool (type_had type.Bool (expression_type sight arm.test) parts.0) in
          rw (guard_does first arm a s, guard_does second arm b t)
          (subst (λ (o : Result Value Fault). Matches shape R (under first arm.body (value g arm.test s) a s) (under second arm.body o b t)) same
          (by_value parts.1 a b r s t near (value g arm.test s)))
        where
          by_test : are_well_typed sight inside arm.body ≡ true → (a b : ℕ) → R a b → (s t : State) → Near shape s t → (c : Bool)
              → Matches shape R (if c then body_meaning g first arm.body a s else Normal a s) (if c then body_meaning g second arm.body b t else Normal b t)
          by_test h a b r s t near true =
              body_matches arm.body (each_guarded Alike assign_matches call_matches arm.body guarded) h a b r s t near
          by_test h a b r s t near false = (b, t, refl, r, near)

          by_value : are_well_typed sight inside arm.body ≡ true → (a b : ℕ) → R a b → (s t : State) → Near shape s t → (o : Result Value Fault)
              → Matches shape R (under first arm.body o a s) (under second arm.body o b t)
          by_value h a b r s t near (Ok v) = by_test h a b r s t near (is_set v)
          by_value h a b r s t near (Err f) = (t, refl, near.memory)

      pub all_match : (steps : List Stmt) → AreSteps steps → are_well_typed sight inside steps ≡ true
          → (a b : ℕ) → R a b → (s t : State) → Near shape s t
          → Matches shape R (body_meaning g first steps a s) (body_meaning g second steps b t)
      all_match steps plain h a b r s t near =
          body_matches steps (each_step Alike assign_matches call_matches write_matches guard_matches steps plain) h a b r s t near

  -- behind a called unit
  pub left_matches : (s t : State) → Near shape s t → (n k l : ℕ) (R : ℕ → ℕ → Type 0) (o p : Out) → Matches (inner_shape shape n k l) R o p
      → Matches shape R (after_unit o) (after_unit p)
  left_matches s t near n k l R (Normal a x) p m = (m.0, left m.1, ap after_unit m.2, m.3, near_left shape s t near n k l x m.1 m.4)
  left_matches s t near n k l R (Faults f x) p m = (m.0, ap after_unit m.1, m.2)
  left_matches s t near n k l R (NoUnits x) p m = tt
  left_matches s t near n k l R o p m = elim m [ ]

  -- what is seen of the first is seen of the second
  pub ended_matches : (R : ℕ → ℕ → Type 0) (o p : Out) → Matches shape R o p → (after : Areas) (f : Option Fault)
      → end_seen o ≡ Ended after f → end_seen p ≡ Ended after f
  ended_matches R (Normal a s) p m after f e =
      ap end_seen m.2 ∙ ap (λ (x : Contents). Ended x.areas None) (sym m.4.memory) ∙ e
  ended_matches R (Faults x s) p m after f e = ap end_seen m.1 ∙ ap (λ (c : Contents). Ended c.areas (Some x)) (sym m.2) ∙ e
  ended_matches R (NoUnits s) p m after f e = cc
  ended_matches R o p m after f e = elim m [ ]
