-- A call in states that are near: its actuals are located alike, and the states in which the called unit begins are near,
-- and so are those behind it.
use Rattle.std.proofs.Common.{◌≡◌, ℕ, zero, suc, ◌-◌, ◌<◌, ◌≤◌, true, List, [], ◌∷◌, ◌++◌, length, map, take, Option, Some, None, Result, Ok, Err, inl, inr, refl, sym, ap, ◌∙◌, subst, arith}
use Rattle.std.specs.Prelude.{All, slice_get, ◌⊎◌}
use Rattle.std.proofs.lemmas.List.{length-map, length-take-le}
use Rattle.std.proofs.lemmas.List.Elements.{All-cons, All-nil}
use Rattle.memory_areas.specs.Access.{aim_of_place, and_then, fault_of, unless}
use Rattle.memory_areas.specs.Areas.{Contents}
use Rattle.memory_areas.specs.declared.place.Place.{Place}
use Rattle.s7_base.specs.declared.outcome.Fault.{Fault}
use Rattle.st_tree.specs.Calls.{activation_of, check_access, left, located_actual, located_actuals, state_on_entry, zero_of}
use Rattle.st_tree.specs.State.{Activation, State, depth, formals_of, locals_of, own_of, reference_of}
use Rattle.st_tree.specs.Values.{width_at}
use Rattle.st_tree.specs.WellTyped.{Head, UnitScope, are_given, has_type, is_call, variable_type}
use Rattle.st_tree.specs.declared.expr.StType.{StType}
use Rattle.st_tree.specs.declared.expr.Var.{Var}
use Rattle.st_tree.specs.declared.expr.Var.TheVariants as var
use Rattle.st_tree.specs.declared.program.Local.{Local}
use Rattle.st_tree.specs.declared.program.Located.{Located}
use Rattle.st_tree.specs.declared.program.Pou.{Pou}
use Rattle.st_tree.specs.declared.state.Reference.{Reference}
use Rattle.st_tree.specs.declared.state.Reference.TheVariants as reference
use Rattle.st_tree.specs.declared.state.Value.{Value}
use Rattle.st_tree.proofs.Common.{and_parts}
use Rattle.st_tree.proofs.FittingCalls.{at_position}
use Rattle.st_tree.proofs.TypingEquations.{type_had}
use Rattle.region_laws.proofs.Near.{IsInside, Near, Refers, Shape, deep_first, is_inside, same_reference}

-- Counts by depth

-- so many at a depth, and elsewhere as before
abbrev pub with_count : ℕ → ℕ → (ℕ → ℕ) → ℕ → ℕ
with_count zero n f zero = n
with_count zero n f (suc d) = f (suc d)
with_count (suc at) n f zero = f zero
with_count (suc at) n f (suc d) = with_count at n (λ e. f (suc e)) d

pub count_at : (at n : ℕ) (f : ℕ → ℕ) → with_count at n f at ≡ n
count_at zero n f = refl
count_at (suc at) n f = count_at at n (λ e. f (suc e))

count_before : (at n : ℕ) (f : ℕ → ℕ) (d : ℕ) → d < at → with_count at n f d ≡ f d
count_before zero n f d h = absurd (omega arith)
count_before (suc at) n f zero h = refl
count_before (suc at) n f (suc d) h = count_before at n (λ e. f (suc e)) d (omega arith)

-- the shape inside a called unit, by how many of its locals both states share and how many each has
abbrev pub inner_shape : Shape → ℕ → ℕ → ℕ → Shape
inner_shape shape n a b =
    record {
      waiting = suc shape.waiting;
      shared = with_count (suc shape.waiting) n shape.shared;
      first = with_count (suc shape.waiting) a shape.first;
      second = with_count (suc shape.waiting) b shape.second;
    }

-- One activation more

-- by their activations
abbrev locals_of_depth : List Activation → ℕ → List Value
locals_of_depth acts d = locals_of (slice_get acts d)

abbrev formals_of_depth : List Activation → ℕ → List Reference
formals_of_depth acts d = formals_of (slice_get acts d)

counts_pushed : (acts : List Activation) (a : Activation) (at n : ℕ) (f : ℕ → ℕ) → length acts ≡ at → length a.locals ≡ n
    → ((d : ℕ) → length (locals_of_depth acts d) ≡ f d) → (d : ℕ) → length (locals_of_depth (acts ++ a ∷ []) d) ≡ with_count at n f d
counts_pushed [] a zero n f e k h zero = k
counts_pushed [] a zero n f e k h (suc d) = h (suc d)
counts_pushed [] a (suc at) n f e k h d = cc
counts_pushed (x ∷ acts) a zero n f e k h d = cc
counts_pushed (x ∷ acts) a (suc at) n f e k h zero = h zero
counts_pushed (x ∷ acts) a (suc at) n f e k h (suc d) = counts_pushed acts a at n (λ e. f (suc e)) (omega arith) k (λ d. h (suc d)) d

same_pushed : (acts bs : List Activation) (a b : Activation) (at n : ℕ) (f : ℕ → ℕ) → length acts ≡ at → length bs ≡ at
    → ((i : ℕ) → i < n → slice_get a.locals i ≡ slice_get b.locals i)
    → ((d i : ℕ) → i < f d → slice_get (locals_of_depth acts d) i ≡ slice_get (locals_of_depth bs d) i)
    → (d i : ℕ) → i < with_count at n f d → slice_get (locals_of_depth (acts ++ a ∷ []) d) i ≡ slice_get (locals_of_depth (bs ++ b ∷ []) d) i
same_pushed [] [] a b zero n f e q k h zero i l = k i l
same_pushed [] [] a b zero n f e q k h (suc d) i l = refl
same_pushed [] (y ∷ bs) a b zero n f e q k h d i l = cc
same_pushed (x ∷ acts) bs a b zero n f e q k h d i l = cc
same_pushed [] bs a b (suc at) n f e q k h d i l = cc
same_pushed (x ∷ acts) [] a b (suc at) n f e q k h d i l = cc
same_pushed (x ∷ acts) (y ∷ bs) a b (suc at) n f e q k h zero i l = h zero i l
same_pushed (x ∷ acts) (y ∷ bs) a b (suc at) n f e q k h (suc d) i l =
    same_pushed acts bs a b at n (λ e. f (suc e)) (omega arith) (omega arith) k (λ d. h (suc d)) d i l

formals_pushed : (acts bs : List Activation) (a b : Activation) → length acts ≡ length bs → a.formals ≡ b.formals
    → ((d : ℕ) → formals_of_depth acts d ≡ formals_of_depth bs d) → (d : ℕ) → formals_of_depth (acts ++ a ∷ []) d ≡ formals_of_depth (bs ++ b ∷ []) d
formals_pushed [] [] a b e k h zero = k
formals_pushed [] [] a b e k h (suc d) = refl
formals_pushed [] (y ∷ bs) a b e k h d = cc
formals_pushed (x ∷ acts) [] a b e k h d = cc
formals_pushed (x ∷ acts) (y ∷ bs) a b e k h zero = h zero
formals_pushed (x ∷ acts) (y ∷ bs) a b e k h (suc d) = formals_pushed acts bs a b (omega arith) k (λ d. h (suc d)) d

-- a formal is one of the new activation, or one of those before
abbrev IsFormalOf : List Activation → Activation → ℕ → ℕ → Reference → Type 0
IsFormalOf acts a d k r =
    ((d < length acts) × (slice_get (formals_of_depth acts d) k ≡ Some r)) ⊎ ((d ≡ length acts) × (slice_get a.formals k ≡ Some r))

one_deeper : (x : Activation) (acts : List Activation) (a : Activation) (d k : ℕ) (r : Reference)
    → IsFormalOf acts a d k r → IsFormalOf (x ∷ acts) a (suc d) k r
one_deeper x acts a d k r (inl h) = inl (omega (arith, h.0), h.1)
one_deeper x acts a d k r (inr h) = inr (ap suc h.0, h.1)

pushed_formal : (acts : List Activation) (a : Activation) (d k : ℕ) (r : Reference)
    → slice_get (formals_of_depth (acts ++ a ∷ []) d) k ≡ Some r → IsFormalOf acts a d k r
pushed_formal [] a zero k r e = inr (refl, e)
pushed_formal [] a (suc d) k r e = cc
pushed_formal (x ∷ acts) a zero k r e = inl (omega arith, e)
pushed_formal (x ∷ acts) a (suc d) k r e = one_deeper x acts a d k r (pushed_formal acts a d k r e)

-- the locals of the running unit are those of the last activation
own_pushed : (acts : List Activation) (a : Activation) → locals_of (slice_get (acts ++ a ∷ []) (length acts)) ≡ a.locals
own_pushed [] a = refl
own_pushed (x ∷ acts) a = own_pushed acts a

one_more : (acts : List Activation) (a : Activation) → length (acts ++ a ∷ []) ≡ suc (length acts)
one_more [] a = refl
one_more (x ∷ acts) a = ap suc (one_more acts a)

pub own_of_pushed : (acts : List Activation) (a : Activation) → own_of (acts ++ a ∷ []) ≡ a.locals
own_of_pushed acts a =
    let last : length (acts ++ a ∷ []) - 1 ≡ length acts = omega (arith, one_more acts a) in
    ap (λ (n : ℕ). locals_of (slice_get (acts ++ a ∷ []) n)) last ∙ own_pushed acts a

-- Without the last activation

counts_taken : (acts : List Activation) (at n : ℕ) (f : ℕ → ℕ) → length acts ≡ suc at
    → ((d : ℕ) → length (locals_of_depth acts d) ≡ with_count at n f d) → ((d : ℕ) → at ≤ d → f d ≡ 0)
    → (d : ℕ) → length (locals_of_depth (take at acts) d) ≡ f d
counts_taken [] at n f e h z d = cc
counts_taken (x ∷ acts) zero n f e h z d = sym (z d (omega arith))
counts_taken (x ∷ acts) (suc at) n f e h z zero = h zero
counts_taken (x ∷ acts) (suc at) n f e h z (suc d) =
    counts_taken acts at n (λ e. f (suc e)) (omega arith) (λ d. h (suc d)) (λ d l. z (suc d) (omega arith)) d

same_taken : (acts bs : List Activation) (at n : ℕ) (f : ℕ → ℕ) → length acts ≡ suc at → length bs ≡ suc at
    → ((d i : ℕ) → i < with_count at n f d → slice_get (locals_of_depth acts d) i ≡ slice_get (locals_of_depth bs d) i)
    → (d i : ℕ) → i < f d → slice_get (locals_of_depth (take at acts) d) i ≡ slice_get (locals_of_depth (take at bs) d) i
same_taken [] bs at n f e q h d i l = cc
same_taken (x ∷ acts) [] at n f e q h d i l = cc
same_taken (x ∷ acts) (y ∷ bs) zero n f e q h d i l = refl
same_taken (x ∷ acts) (y ∷ bs) (suc at) n f e q h zero i l = h zero i l
same_taken (x ∷ acts) (y ∷ bs) (suc at) n f e q h (suc d) i l =
    same_taken acts bs at n (λ e. f (suc e)) (omega arith) (omega arith) (λ d. h (suc d)) d i l

formals_taken : (acts bs : List Activation) (at : ℕ) → length acts ≡ suc at → length bs ≡ suc at
    → ((d : ℕ) → formals_of_depth acts d ≡ formals_of_depth bs d) → (d : ℕ) → formals_of_depth (take at acts) d ≡ formals_of_depth (take at bs) d
formals_taken [] bs at e q h d = cc
formals_taken (x ∷ acts) [] at e q h d = cc
formals_taken (x ∷ acts) (y ∷ bs) zero e q h d = refl
formals_taken (x ∷ acts) (y ∷ bs) (suc at) e q h zero = h zero
formals_taken (x ∷ acts) (y ∷ bs) (suc at) e q h (suc d) = formals_taken acts bs at (omega arith) (omega arith) (λ d. h (suc d)) d

taken_formal : (acts : List Activation) (at d k : ℕ) (r : Reference) → length acts ≡ suc at
    → slice_get (formals_of_depth (take at acts) d) k ≡ Some r → (d < at) × (slice_get (formals_of_depth acts d) k ≡ Some r)
taken_formal [] at d k r e h = cc
taken_formal (x ∷ acts) zero d k r e h = cc
taken_formal (x ∷ acts) (suc at) zero k r e h = (omega arith, h)
taken_formal (x ∷ acts) (suc at) (suc d) k r e h = let p = taken_formal acts at d k r (omega arith) h in (omega (arith, p.0), p.1)

-- References, where one unit more runs

moved_in : (shape : Shape) (n a b d : ℕ) (r : Reference) → d ≤ suc shape.waiting → IsInside shape d r → IsInside (inner_shape shape n a b) d r
moved_in shape n a b d (reference.Register r) l h = tt
moved_in shape n a b d (reference.Local e i) l h =
    let same : with_count (suc shape.waiting) n shape.shared e ≡ shape.shared e =
    count_before (suc shape.waiting) n shape.shared e (omega (arith, h.0)) in
    (h.0, omega (arith, h.1, same))
moved_in shape n a b d (reference.Place p ty) l h = tt

moved_out : (shape : Shape) (n a b d : ℕ) (r : Reference) → d ≤ suc shape.waiting → IsInside (inner_shape shape n a b) d r → IsInside shape d r
moved_out shape n a b d (reference.Register r) l h = tt
moved_out shape n a b d (reference.Local e i) l h =
    let same : with_count (suc shape.waiting) n shape.shared e ≡ shape.shared e =
    count_before (suc shape.waiting) n shape.shared e (omega (arith, h.0)) in
    (h.0, omega (arith, h.1, same))
moved_out shape n a b d (reference.Place p ty) l h = tt

-- the references of actuals, if they are located, are to shared locals of units that run
abbrev pub AreInside : Shape → Result (List Reference) Fault → Type 0
AreInside shape (Ok rs) = All (IsInside shape (suc shape.waiting)) rs
AreInside shape (Err f) = Unit {0}

module _ (shape : Shape) (s t : State) (near : Near shape s t) where
  -- The start and the end of a called unit

  module _ (u v : Pou) (rs : List Reference) (inside : All (IsInside shape (suc shape.waiting)) rs) (n : ℕ)
      (same_zeros : (i : ℕ) → i < n → slice_get (map zero_of u.locals) i ≡ slice_get (map zero_of v.locals) i)
    where
      abbrev inner : Shape
      inner = inner_shape shape n (length u.locals) (length v.locals)

      formal_moved : (d k : ℕ) (r : Reference) → IsFormalOf s.activations (activation_of u rs) d k r → IsInside inner d r
      formal_moved d k r (inl h) =
          moved_in shape n (length u.locals) (length v.locals) d r (omega (arith, h.0, near.deep)) (near.inside d k r h.1)
      formal_moved d k r (inr h) =
          let here : suc shape.waiting ≡ d = omega (arith, h.0, near.deep) in
          moved_in shape n (length u.locals) (length v.locals) d r (omega arith)
          (subst (λ (e : ℕ). IsInside shape e r) here (at_position (IsInside shape (suc shape.waiting)) rs k r inside h.1))

      pub near_entered : Near inner (state_on_entry u rs s) (state_on_entry v rs t)
      near_entered =
          record {
            memory = rw (near.deep, near.others, near.memory) refl;
            registers = near.registers;
            deep = one_more s.activations (activation_of u rs) ∙ ap suc near.deep;
            others = one_more t.activations (activation_of v rs) ∙ ap suc near.others;
            first =
                counts_pushed s.activations (activation_of u rs) (suc shape.waiting) (length u.locals) shape.first near.deep
                (length-map u.locals zero_of) near.first;
            second =
                counts_pushed t.activations (activation_of v rs) (suc shape.waiting) (length v.locals) shape.second near.others
                (length-map v.locals zero_of) near.second;
            same =
                same_pushed s.activations t.activations (activation_of u rs) (activation_of v rs) (suc shape.waiting) n shape.shared near.deep near.others
                same_zeros near.same;
            formals =
                formals_pushed s.activations t.activations (activation_of u rs) (activation_of v rs) (near.deep ∙ sym near.others) refl near.formals;
            inside = λ d k r e. formal_moved d k r (pushed_formal s.activations (activation_of u rs) d k r e);
          }

  none_beyond : (acts : List Activation) (f : ℕ → ℕ) (at : ℕ) → length acts ≡ at → ((d : ℕ) → length (locals_of_depth acts d) ≡ f d)
      → (d : ℕ) → at ≤ d → f d ≡ 0
  none_beyond [] f at e h d l = sym (h d)
  none_beyond (x ∷ acts) f zero e h d l = cc
  none_beyond (x ∷ acts) f (suc at) e h zero l = absurd (omega arith)
  none_beyond (x ∷ acts) f (suc at) e h (suc d) l = none_beyond acts (λ e. f (suc e)) at (omega arith) (λ d. h (suc d)) d (omega arith)

  -- the states after a call, by those in which the called unit ends
  module _ (n a b : ℕ) (x y : State) (within : Near (inner_shape shape n a b) x y) where
    abbrev at : ℕ
    at = suc shape.waiting

    taken_near : Near shape (record x { activations = take at x.activations }) (record y { activations = take at y.activations })
    taken_near =
        record {
          memory = within.memory;
          registers = within.registers;
          deep = length-take-le at x.activations (omega (arith, within.deep));
          others = length-take-le at y.activations (omega (arith, within.others));
          first =
              counts_taken x.activations at a shape.first within.deep within.first (none_beyond s.activations shape.first at near.deep near.first);
          second =
              counts_taken y.activations at b shape.second within.others within.second (none_beyond t.activations shape.second at near.others near.second);
          same = same_taken x.activations y.activations at n shape.shared within.deep within.others within.same;
          formals = formals_taken x.activations y.activations at within.deep within.others within.formals;
          inside = λ d k r e. from_within d k r (taken_formal x.activations at d k r within.deep e);
        }
      where
        from_within : (d k : ℕ) (r : Reference) → (d < at) × (slice_get (formals_of_depth x.activations d) k ≡ Some r) → IsInside shape d r
        from_within d k r h = moved_out shape n a b d r (omega (arith, h.0)) (within.inside d k r h.1)

    pub near_left : Near shape (left x) (left y)
    near_left =
        let one : at ≡ depth x = sym (deep_first (inner_shape shape n a b) x y within) in
        let other : at ≡ depth y = omega (arith, within.others) in
        subst (λ (m : ℕ). Near shape (left x) (record y { activations = take m y.activations })) other
        (subst (λ (m : ℕ). Near shape (record x { activations = take m x.activations }) (record y { activations = take at y.activations })) one taken_near)

  -- Actuals

  module _ (g : List Located) where
    same_check : (r : Reference) → check_access r s ≡ check_access r t
    same_check (reference.Register r) = refl
    same_check (reference.Local d i) = refl
    same_check (reference.Place p ty) =
        ap (λ (m : Contents). unless (fault_of (aim_of_place p) (width_at ty) m) (reference.Place p ty)) near.memory

    same_checked : (o : Result Reference Fault) → and_then o (λ r. check_access r s) ≡ and_then o (λ r. check_access r t)
    same_checked (Ok r) = same_check r
    same_checked (Err f) = refl

    refers_same : (v : Var) → and_then (reference_of g v s) (λ r. check_access r s) ≡ and_then (reference_of g v t) (λ r. check_access r t)
    refers_same v =
        same_checked (reference_of g v s) ∙ ap (λ (o : Result Reference Fault). and_then o (λ r. check_access r t)) (same_reference shape s t near g v)

    same_actual : (v : Var) → located_actual g v s ≡ located_actual g v t
    same_actual (var.Register r) = refers_same (var.Register r)
    same_actual (var.Local i) = refers_same (var.Local i)
    same_actual (var.Formal i) = same_reference shape s t near g (var.Formal i)
    same_actual (var.Global i) = refers_same (var.Global i)
    same_actual (var.Direct a byte x w) = refers_same (var.Direct a byte x w)
    same_actual (var.InBlock n byte x w) = refers_same (var.InBlock n byte x w)

    pub same_actuals : (vars : List Var) → located_actuals g vars s ≡ located_actuals g vars t
    same_actuals [] = refl
    same_actuals (v ∷ vars) = rw (same_actual v, same_actuals vars) refl

    module _ (sight : UnitScope) (known : length sight.locals ≤ shape.shared shape.waiting) where
      abbrev PointsInside : Result Reference Fault → Type 0
      PointsInside o = Refers shape s t near g o

      place_checked : (o : Option Fault) (p : Place) (ty : StType) → PointsInside (unless o (reference.Place p ty))
      place_checked None p ty = tt
      place_checked (Some f) p ty = tt

      one_checked : (r : Reference) → IsInside shape (suc shape.waiting) r → PointsInside (check_access r s)
      one_checked (reference.Register r) h = tt
      one_checked (reference.Local d i) h = h
      one_checked (reference.Place p ty) h = place_checked (fault_of (aim_of_place p) (width_at ty) s.memory) p ty

      check_inside : (o : Result Reference Fault) → PointsInside o → PointsInside (and_then o (λ r. check_access r s))
      check_inside (Ok r) h = one_checked r h
      check_inside (Err f) h = tt

      actual_inside : (v : Var) (ty : StType) → variable_type sight v ≡ Some ty → PointsInside (located_actual g v s)
      actual_inside (var.Register r) ty h = tt
      actual_inside (var.Local i) ty h =
          check_inside (reference_of g (var.Local i) s) (is_inside shape s t near g sight known (var.Local i) ty h)
      actual_inside (var.Formal i) ty h = is_inside shape s t near g sight known (var.Formal i) ty h
      actual_inside (var.Global i) ty h =
          check_inside (reference_of g (var.Global i) s) (is_inside shape s t near g sight known (var.Global i) ty h)
      actual_inside (var.Direct a byte x w) ty h =
          check_inside (reference_of g (var.Direct a byte x w) s) (is_inside shape s t near g sight known (var.Direct a byte x w) ty h)
      actual_inside (var.InBlock n byte x w) ty h =
          check_inside (reference_of g (var.InBlock n byte x w) s) (is_inside shape s t near g sight known (var.InBlock n byte x w) ty h)

      both_inside : (o : Result Reference Fault) (more : Result (List Reference) Fault) → PointsInside o → AreInside shape more
          → AreInside shape (and_then o (λ r. and_then more (λ rs. Ok (r ∷ rs))))
      both_inside (Ok r) (Ok rs) h k = All-cons (IsInside shape (suc shape.waiting)) r rs h k
      both_inside (Ok r) (Err f) h k = tt
      both_inside (Err f) more h k = tt

      given_inside : (formals : List Local) (vars : List Var) → are_given sight formals vars ≡ true → AreInside shape (located_actuals g vars s)
      given_inside [] [] h = All-nil (IsInside shape (suc shape.waiting))
      given_inside [] (v ∷ vars) h = cc
      given_inside (f ∷ formals) [] h = cc
      given_inside (f ∷ formals) (v ∷ vars) h =
          let parts = and_parts (has_type f.ty (variable_type sight v)) (are_given sight formals vars) h in
          both_inside (located_actual g v s) (located_actuals g vars s)
          (actual_inside v f.ty (type_had f.ty (variable_type sight v) parts.0)) (given_inside formals vars parts.1)

      pub actuals_inside : (n : ℕ) (vars : List Var) → is_call sight (slice_get sight.heads n) vars ≡ true → AreInside shape (located_actuals g vars s)
      actuals_inside n vars h = by (slice_get sight.heads n) h
        where
          by : (o : Option Head) → is_call sight o vars ≡ true → AreInside shape (located_actuals g vars s)
          by None q = cc
          by (Some head) q = given_inside head.formals vars (and_parts _ _ q).1
