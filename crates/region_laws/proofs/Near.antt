-- States of a graph and of its text. They agree in all but the locals that only one of them has, and no statement that
-- is well typed where only the shared locals are declared tells them apart.
use Rattle.std.proofs.Common.{◌≡◌, ◌≢◌, ℕ, zero, suc, ◌<◌, ◌≤◌, ℤ, List, [], ◌∷◌, length, Option, Some, None, Result, Ok, Err, refl, sym, ap, ◌∙◌, subst, arith}
use Rattle.std.specs.Prelude.{slice_get, slice_set}
use Rattle.memory_areas.specs.Access.{and_then}
use Rattle.memory_areas.specs.Areas.{Contents}
use Rattle.memory_areas.specs.declared.place.AreaName.{AreaName}
use Rattle.memory_areas.specs.declared.place.Place.{Place}
use Rattle.s7_base.specs.declared.outcome.Fault.{Fault}
use Rattle.s7_base.specs.declared.register.Reg.{Reg}
use Rattle.s7_base.specs.declared.word.Width.{Width}
use Rattle.st_tree.specs.Meaning.{area_assignment, assignment}
use Rattle.st_tree.specs.Operators.{binary_value, converted_value, selected_value, shift_value, unary_value}
use Rattle.st_tree.specs.State.{Activation, State, area_read, area_write, depth, formals_of, locals_of, place_of, pointed_at, read_at, read_place, reference_of, there, type_of_register, with_local, with_register, write, write_at, write_place}
use Rattle.st_tree.specs.TypeRules.{type_of_binary, type_of_choice, type_of_conversion, type_of_read, type_of_shift, type_of_unary, where_true}
use Rattle.st_tree.specs.Naming.{is_conversion}
use Rattle.st_tree.specs.Value.{Worth, value, value_step}
use Rattle.st_tree.specs.Values.{type_of_width}
use Rattle.st_tree.specs.declared.state.Value.{Value}
use Rattle.st_tree.specs.WellTyped.{UnitScope, expression_step, expression_type, on_type, type_inside, variable_type}
use Rattle.st_tree.specs.declared.expr.Expr.{Expr}
use Rattle.st_tree.specs.declared.expr.Expr.TheOpen as E
use Rattle.st_tree.specs.declared.expr.StType.{StType}
use Rattle.st_tree.specs.declared.expr.Var.{Var}
use Rattle.st_tree.specs.declared.expr.Var.TheVariants as var
use Rattle.st_tree.specs.declared.program.Local.{Local}
use Rattle.st_tree.specs.declared.program.Located.{Located}
use Rattle.st_tree.specs.declared.state.Reference.{Reference}
use Rattle.st_tree.specs.declared.state.Reference.TheVariants as reference
use Rattle.st_tree.proofs.Induction.{Layers, folds_related}
use Rattle.st_tree.proofs.Locals.{as_deep, set_length, set_other, with_own}

-- the locals of the activation at a depth
abbrev pub locals_at : ℕ → State → List Value
locals_at d s = locals_of (slice_get s.activations d)

-- how many units wait; and of the activation at each depth how many locals both states share, and how many each has
pub record Shape : Type 0 where
  pub waiting : ℕ
  pub shared : ℕ → ℕ
  pub first : ℕ → ℕ
  pub second : ℕ → ℕ

-- a reference is to no local of the activation at a depth or at a greater one, and to none that is not shared
abbrev pub IsInside : Shape → ℕ → Reference → Type 0
IsInside shape depth (reference.Register r) = Unit {0}
IsInside shape depth (reference.Local d i) = (d < depth) × (i < shape.shared d)
IsInside shape depth (reference.Place p ty) = Unit {0}

-- two states agree in all but the locals that are not shared
pub record Near (shape : Shape) (s t : State) : Type 0 where
  pub memory : s.memory ≡ t.memory
  pub registers : s.registers ≡ t.registers
  pub deep : length s.activations ≡ suc shape.waiting
  pub others : length t.activations ≡ suc shape.waiting
  pub first : (d : ℕ) → length (locals_at d s) ≡ shape.first d
  pub second : (d : ℕ) → length (locals_at d t) ≡ shape.second d
  pub same : (d i : ℕ) → i < shape.shared d → slice_get (locals_at d s) i ≡ slice_get (locals_at d t) i
  pub formals : (d : ℕ) → formals_of (slice_get s.activations d) ≡ formals_of (slice_get t.activations d)
  pub inside : (d k : ℕ) (r : Reference) → slice_get (formals_of (slice_get s.activations d)) k ≡ Some r → IsInside shape d r

-- A local that takes a value

length_set : (acts : List Activation) (d i : ℕ) (v : Value) (e : ℕ)
    → length (locals_of (slice_get (with_local d i v acts) e)) ≡ length (locals_of (slice_get acts e))
length_set [] d i v e = refl
length_set (a ∷ rest) zero i v zero = set_length a.locals i v
length_set (a ∷ rest) zero i v (suc e) = refl
length_set (a ∷ rest) (suc d) i v zero = refl
length_set (a ∷ rest) (suc d) i v (suc e) = length_set rest d i v e

formals_set : (acts : List Activation) (d i : ℕ) (v : Value) (e : ℕ)
    → formals_of (slice_get (with_local d i v acts) e) ≡ formals_of (slice_get acts e)
formals_set [] d i v e = refl
formals_set (a ∷ rest) zero i v zero = refl
formals_set (a ∷ rest) zero i v (suc e) = refl
formals_set (a ∷ rest) (suc d) i v zero = refl
formals_set (a ∷ rest) (suc d) i v (suc e) = formals_set rest d i v e

-- any other one is as it was
other_set : (acts : List Activation) (d i : ℕ) (v : Value) (e j : ℕ) → (d ≡ e → j ≢ i)
    → slice_get (locals_of (slice_get (with_local d i v acts) e)) j ≡ slice_get (locals_of (slice_get acts e)) j
other_set [] d i v e j h = refl
other_set (a ∷ rest) zero i v zero j h = set_other a.locals i j v (h refl)
other_set (a ∷ rest) zero i v (suc e) j h = refl
other_set (a ∷ rest) (suc d) i v zero j h = refl
other_set (a ∷ rest) (suc d) i v (suc e) j h = other_set rest d i v e j (λ q. h (ap suc q))

-- in two lists that agree at two positions one takes a value: they still agree
both_set : (xs ys : List Value) (i j : ℕ) (v : Value) → slice_get xs i ≡ slice_get ys i → slice_get xs j ≡ slice_get ys j
    → slice_get (slice_set xs i v) j ≡ slice_get (slice_set ys i v) j
both_set [] [] i j v h k = refl
both_set [] (y ∷ ys) zero j v h k = cc
both_set [] (y ∷ ys) (suc i) zero v h k = k
both_set [] (y ∷ ys) (suc i) (suc j) v h k = both_set [] ys i j v h k
both_set (x ∷ xs) [] zero j v h k = cc
both_set (x ∷ xs) [] (suc i) zero v h k = k
both_set (x ∷ xs) [] (suc i) (suc j) v h k = both_set xs [] i j v h k
both_set (x ∷ xs) (y ∷ ys) zero zero v h k = refl
both_set (x ∷ xs) (y ∷ ys) zero (suc j) v h k = k
both_set (x ∷ xs) (y ∷ ys) (suc i) zero v h k = k
both_set (x ∷ xs) (y ∷ ys) (suc i) (suc j) v h k = both_set xs ys i j v h k

two_set : (acts bs : List Activation) (d i : ℕ) (v : Value) (e j : ℕ) → length acts ≡ length bs
    → slice_get (locals_of (slice_get acts d)) i ≡ slice_get (locals_of (slice_get bs d)) i
    → slice_get (locals_of (slice_get acts e)) j ≡ slice_get (locals_of (slice_get bs e)) j
    → slice_get (locals_of (slice_get (with_local d i v acts) e)) j ≡ slice_get (locals_of (slice_get (with_local d i v bs) e)) j
two_set [] [] d i v e j l h k = refl
two_set [] (b ∷ bs) d i v e j l h k = absurd (omega arith)
two_set (a ∷ acts) [] d i v e j l h k = absurd (omega arith)
two_set (a ∷ acts) (b ∷ bs) zero i v zero j l h k = both_set a.locals b.locals i j v h k
two_set (a ∷ acts) (b ∷ bs) zero i v (suc e) j l h k = k
two_set (a ∷ acts) (b ∷ bs) (suc d) i v zero j l h k = k
two_set (a ∷ acts) (b ∷ bs) (suc d) i v (suc e) j l h k = two_set acts bs d i v e j (omega arith) h k

-- an operand that has a type, where its operator gives one
record HasType (o : Option StType) (rule : StType → Option StType) (ty : StType) : Type 0 where
  type : StType
  is : o ≡ Some type
  gives : rule type ≡ Some ty

has_operand : (o : Option StType) (rule : StType → Option StType) (ty : StType) → on_type o rule ≡ Some ty → HasType o rule ty
has_operand None rule ty h = cc
has_operand (Some x) rule ty h = record { type = x; is = refl; gives = h }

-- the states after a write, or the same fault
abbrev pub Written : Shape → Result State Fault → Result State Fault → Type 0
Written shape (Ok s) (Ok t) = Near shape s t
Written shape (Err f) (Err g) = f ≡ g
Written shape v w = ⊥

module _ (shape : Shape) (s t : State) (near : Near shape s t) where
  pub deep_first : depth s ≡ shape.waiting
  deep_first = omega (arith, near.deep)

  deep_second : depth t ≡ shape.waiting
  deep_second = omega (arith, near.others)

  -- a shared local takes a value in both
  near_local : (d i : ℕ) (v : Value) → i < shape.shared d
      → Near shape (record s { activations = with_local d i v s.activations }) (record t { activations = with_local d i v t.activations })
  near_local d i v h =
      record {
        memory = near.memory;
        registers = near.registers;
        deep = as_deep s.activations d i v ∙ near.deep;
        others = as_deep t.activations d i v ∙ near.others;
        first = λ e. length_set s.activations d i v e ∙ near.first e;
        second = λ e. length_set t.activations d i v e ∙ near.second e;
        same = λ e j less. two_set s.activations t.activations d i v e j (near.deep ∙ sym near.others) (near.same d i h) (near.same e j less);
        formals = λ e. formals_set s.activations d i v e ∙ near.formals e ∙ sym (formals_set t.activations d i v e);
        inside = λ e k r q. near.inside e k r (ap (λ (rs : List Reference). slice_get rs k) (sym (formals_set s.activations d i v e)) ∙ q);
      }

  -- a local that is not shared takes a value in one of them
  pub near_next : (i : ℕ) (v : Value) → shape.shared shape.waiting ≤ i → Near shape s (with_own i v t)
  near_next i v h =
      record {
        memory = near.memory;
        registers = near.registers;
        deep = near.deep;
        others = as_deep t.activations (depth t) i v ∙ near.others;
        first = near.first;
        second = λ e. length_set t.activations (depth t) i v e ∙ near.second e;
        same = λ e j less. near.same e j less ∙ sym (other_set t.activations (depth t) i v e j (apart e j less));
        formals = λ e. near.formals e ∙ sym (formals_set t.activations (depth t) i v e);
        inside = near.inside;
      }
    where
      apart : (e j : ℕ) → j < shape.shared e → depth t ≡ e → j ≢ i
      apart e j less q p =
          let low : j < shape.shared shape.waiting = subst (λ (d : ℕ). j < shape.shared d) (sym q ∙ deep_second) less in absurd (omega arith)

  pub next_near : (i : ℕ) (v : Value) → shape.shared shape.waiting ≤ i → Near shape (with_own i v s) t
  next_near i v h =
      record {
        memory = near.memory;
        registers = near.registers;
        deep = as_deep s.activations (depth s) i v ∙ near.deep;
        others = near.others;
        first = λ e. length_set s.activations (depth s) i v e ∙ near.first e;
        second = near.second;
        same = λ e j less. other_set s.activations (depth s) i v e j (apart e j less) ∙ near.same e j less;
        formals = λ e. formals_set s.activations (depth s) i v e ∙ near.formals e;
        inside = λ e k r q. near.inside e k r (ap (λ (rs : List Reference). slice_get rs k) (sym (formals_set s.activations (depth s) i v e)) ∙ q);
      }
    where
      apart : (e j : ℕ) → j < shape.shared e → depth s ≡ e → j ≢ i
      apart e j less q p =
          let low : j < shape.shared shape.waiting = subst (λ (d : ℕ). j < shape.shared d) (sym q ∙ deep_first) less in absurd (omega arith)

  -- What variables stand for, where the shared locals are declared

  module _ (g : List Located) where
    same_depth : depth s ≡ depth t
    same_depth = deep_first ∙ sym deep_second

    same_place : (a : AreaName) (byte x : ℕ) → place_of a byte x s ≡ place_of a byte x t
    same_place a byte x = rw (near.registers, same_depth) refl

    same_pointed : (p : Value) → pointed_at p s ≡ pointed_at p t
    same_pointed p = rw (near.registers, same_depth) refl

    pub same_reference : (v : Var) → reference_of g v s ≡ reference_of g v t
    same_reference (var.Register r) = refl
    same_reference (var.Local i) = ap (λ (d : ℕ). Ok (reference.Local d i)) same_depth
    same_reference (var.Formal i) =
        ap (λ (d : ℕ). there (slice_get (formals_of (slice_get s.activations d)) i)) same_depth
        ∙ ap (λ (rs : List Reference). there (slice_get rs i)) (near.formals (depth t))
    same_reference (var.Global i) = refl
    same_reference (var.Direct a byte x w) = ap (λ (p : Place). Ok (reference.Place p (type_of_width w))) (same_place a byte x)
    same_reference (var.InBlock n byte x w) = refl

    abbrev pub Refers : Result Reference Fault → Type 0
    Refers (Ok r) = IsInside shape (suc shape.waiting) r
    Refers (Err f) = Unit {0}

    deeper : (r : Reference) → IsInside shape (depth s) r → IsInside shape (suc shape.waiting) r
    deeper (reference.Register r) h = tt
    deeper (reference.Local d i) h = (omega (arith, h.0, deep_first), h.1)
    deeper (reference.Place p ty) h = tt

    formal_inside : (o : Option Reference) → ((r : Reference) → o ≡ Some r → IsInside shape (depth s) r) → Refers (there o)
    formal_inside None h = tt
    formal_inside (Some r) h = deeper r (h r refl)

    global_inside : (o : Option Located) → Refers (and_then (there o) (λ (x : Located). Ok (reference.Place x.place x.ty)))
    global_inside None = tt
    global_inside (Some x) = tt

    declared_within : (locals : List Local) (i : ℕ) (ty : StType) → type_inside (slice_get locals i) ≡ Some ty → i < length locals
    declared_within [] i ty h = cc
    declared_within (x ∷ locals) zero ty h = omega arith
    declared_within (x ∷ locals) (suc i) ty h = let less : i < length locals = declared_within locals i ty h in omega arith

    same_read : (r : Reference) → IsInside shape (suc shape.waiting) r → read_at r s ≡ read_at r t
    same_read (reference.Register r) h = ap (λ (f : Reg → ℤ). Ok (record { ty = type_of_register r; n = f r })) near.registers
    same_read (reference.Local d i) h = ap there (near.same d i h.1)
    same_read (reference.Place p ty) h = ap (read_place ty p) near.memory

    same_reads : (o : Result Reference Fault) → Refers o → and_then o (λ r. read_at r s) ≡ and_then o (λ r. read_at r t)
    same_reads (Ok r) h = same_read r h
    same_reads (Err f) h = refl

    same_area : (w : Width) (p : Value) → area_read w p s ≡ area_read w p t
    same_area w p =
        ap (λ (m : Contents). and_then (pointed_at p s) (λ place. read_place (type_of_width w) place m)) near.memory
        ∙ ap (λ (o : Result Place Fault). and_then o (λ place. read_place (type_of_width w) place t.memory)) (same_pointed p)

    -- What is written

    local_written : (o : Option Value) (a b : State) → Near shape a b
        → Written shape (and_then (there o) (λ (old : Value). Ok a)) (and_then (there o) (λ (old : Value). Ok b))
    local_written (Some old) a b h = h
    local_written None a b h = refl

    place_written : (o : Result Contents Fault)
        → Written shape (and_then o (λ memory. Ok (record s { memory = memory }))) (and_then o (λ memory. Ok (record t { memory = memory })))
    place_written (Ok m) =
        record {
          memory = refl;
          registers = near.registers;
          deep = near.deep;
          others = near.others;
          first = near.first;
          second = near.second;
          same = near.same;
          formals = near.formals;
          inside = near.inside;
        }
    place_written (Err f) = refl

    reference_written : (r : Reference) (w : Value) → IsInside shape (suc shape.waiting) r → Written shape (write_at r w s) (write_at r w t)
    reference_written (reference.Register r) w h =
        record {
          memory = near.memory;
          registers = ap (with_register r w.n) near.registers;
          deep = near.deep;
          others = near.others;
          first = near.first;
          second = near.second;
          same = near.same;
          formals = near.formals;
          inside = near.inside;
        }
    reference_written (reference.Local d i) w h =
        subst (λ (o : Option Value). Written shape (write_at (reference.Local d i) w s)
        (and_then (there o) (λ (old : Value). Ok (record t { activations = with_local d i w t.activations })))) (near.same d i h.1)
        (local_written (slice_get (locals_at d s) i) (record s { activations = with_local d i w s.activations })
        (record t { activations = with_local d i w t.activations }) (near_local d i w h.1))
    reference_written (reference.Place p ty) w h =
        subst (λ (m : Contents). Written shape (write_at (reference.Place p ty) w s)
        (and_then (write_place ty p w m) (λ memory. Ok (record t { memory = memory })))) near.memory
        (place_written (write_place ty p w s.memory))

    references_written : (o : Result Reference Fault) (w : Value) → Refers o
        → Written shape (and_then o (λ r. write_at r w s)) (and_then o (λ r. write_at r w t))
    references_written (Ok r) w h = reference_written r w h
    references_written (Err f) w h = refl

    pointed_written : (o : Result Place Fault) (width : Width) (w : Value)
        → Written shape (and_then o (λ place. write_at (reference.Place place (type_of_width width)) w s))
        (and_then o (λ place. write_at (reference.Place place (type_of_width width)) w t))
    pointed_written (Ok p) width w = reference_written (reference.Place p (type_of_width width)) w tt
    pointed_written (Err f) width w = refl

    area_written : (width : Width) (p w : Value) → Written shape (area_write width p w s) (area_write width p w t)
    area_written width p w =
        subst (λ (o : Result Place Fault). Written shape (area_write width p w s)
        (and_then o (λ place. write_at (reference.Place place (type_of_width width)) w t))) (same_pointed p)
        (pointed_written (pointed_at p s) width w)

    module _ (sight : UnitScope) (known : length sight.locals ≤ shape.shared shape.waiting) where
      pub is_inside : (v : Var) (ty : StType) → variable_type sight v ≡ Some ty → Refers (reference_of g v s)
      is_inside (var.Register r) ty h = tt
      is_inside (var.Local i) ty h =
          let less : i < length sight.locals = declared_within sight.locals i ty h in
          let low : i < shape.shared shape.waiting = omega arith in
          (omega (arith, deep_first), subst (λ (d : ℕ). i < shape.shared d) (sym deep_first) low)
      is_inside (var.Formal i) ty h =
          formal_inside (slice_get (formals_of (slice_get s.activations (depth s))) i) (λ r q. near.inside (depth s) i r q)
      is_inside (var.Global i) ty h = global_inside (slice_get g i)
      is_inside (var.Direct a byte x w) ty h = tt
      is_inside (var.InBlock n byte x w) ty h = tt

      -- Expressions

      -- where the rules give a type, the value is the same
      abbrev Agrees : Option StType → Worth → Type 0
      Agrees o w = (ty : StType) → o ≡ Some ty → w s ≡ w t

      both : (o : Option StType) (rule : StType → Option StType) (w : Worth) (f h : Value → Result Value Fault) (ty : StType) → on_type o rule ≡ Some ty
          → Agrees o w → ((x : StType) → rule x ≡ Some ty → (v : Value) → f v ≡ h v) → and_then (w s) f ≡ and_then (w t) h
      both o rule w f h ty q same more =
          let x = has_operand o rule ty q in
          ap (λ (r : Result Value Fault). and_then r f) (same x.type x.is)
          ∙ ap (λ (k : Value → Result Value Fault). and_then (w t) k) (λ i v. more x.type x.gives v i)

      layers : Layers Agrees (expression_step sight) (value_step g)
      layers (E.Literal ty n) = λ u e. refl
      layers (E.Read v) = λ ty e. same_reads (reference_of g v s) (is_inside v ty e) ∙ ap (λ o. and_then o (λ r. read_at r t)) (same_reference v)
      layers (E.Unary op a) = λ ty e. both a.0 (type_of_unary op) a.1 (unary_value op) (unary_value op) ty e a.2 (λ x q v. refl)
      layers (E.Binary op a b) =
          λ ty e.
          both a.0 (λ x. on_type b.0 (type_of_binary op x)) a.1 (λ v. and_then (b.1 s) (binary_value op v)) (λ v. and_then (b.1 t) (binary_value op v))
          ty e a.2 (λ x q v. both b.0 (type_of_binary op x) b.1 (binary_value op v) (binary_value op v) ty q b.2 (λ y p u. refl))
      layers (E.Convert from to a) =
          λ ty e.
          both a.0 (λ x. on_type (type_of_conversion from to x) (where_true (is_conversion from to))) a.1 (λ v. Ok (converted_value to v))
          (λ v. Ok (converted_value to v)) ty e a.2 (λ x q v. refl)
      layers (E.Select gate a b) =
          λ ty e.
          both gate.0 (λ k. on_type a.0 (λ x. on_type b.0 (type_of_choice k x))) gate.1
          (λ k. and_then (a.1 s) (λ v. and_then (b.1 s) (λ w. Ok (selected_value k v w))))
          (λ k. and_then (a.1 t) (λ v. and_then (b.1 t) (λ w. Ok (selected_value k v w)))) ty e gate.2
          (λ l q k.
          both a.0 (λ x. on_type b.0 (type_of_choice l x)) a.1 (λ v. and_then (b.1 s) (λ w. Ok (selected_value k v w)))
          (λ v. and_then (b.1 t) (λ w. Ok (selected_value k v w))) ty q a.2
          (λ x p v. both b.0 (type_of_choice l x) b.1 (λ w. Ok (selected_value k v w)) (λ w. Ok (selected_value k v w)) ty p b.2 (λ y z u. refl)))
      layers (E.Shift op a b) =
          λ ty e.
          both a.0 (λ x. on_type b.0 (type_of_shift x)) a.1 (λ v. and_then (b.1 s) (λ n. Ok (shift_value op v n)))
          (λ v. and_then (b.1 t) (λ n. Ok (shift_value op v n))) ty e a.2
          (λ x q v. both b.0 (type_of_shift x) b.1 (λ n. Ok (shift_value op v n)) (λ n. Ok (shift_value op v n)) ty q b.2 (λ y p u. refl))
      layers (E.AreaRead w a) =
          λ ty e. both a.0 (type_of_read w) a.1 (λ p. area_read w p s) (λ p. area_read w p t) ty e a.2 (λ x q p. same_area w p)

      pub same_value : (e : Expr) (ty : StType) → expression_type sight e ≡ Some ty → value g e s ≡ value g e t
      same_value e ty h = folds_related Agrees (expression_step sight) (value_step g) layers e ty h

      -- Assignments

      variable_written : (v : Var) (ty : StType) (w : Value) → variable_type sight v ≡ Some ty → Written shape (write g v w s) (write g v w t)
      variable_written v ty w h =
          subst (λ (o : Result Reference Fault). Written shape (write g v w s) (and_then o (λ r. write_at r w t))) (same_reference v)
          (references_written (reference_of g v s) w (is_inside v ty h))

      by_value : (o : Result Value Fault) (f h : Value → Result State Fault)
          → ((w : Value) → Written shape (f w) (h w)) → Written shape (and_then o f) (and_then o h)
      by_value (Ok w) f h more = more w
      by_value (Err x) f h more = refl

      pub near_assigned : (v : Var) (e : Expr) (ty : StType) → variable_type sight v ≡ Some ty → expression_type sight e ≡ Some ty
          → Written shape (assignment g v e s) (assignment g v e t)
      near_assigned v e ty q h =
          subst (λ (o : Result Value Fault). Written shape (assignment g v e s) (and_then o (λ w. write g v w t))) (same_value e ty h)
          (by_value (value g e s) (λ w. write g v w s) (λ w. write g v w t) (λ w. variable_written v ty w q))

      pub near_area : (width : Width) (p e : Expr) (ty ny : StType) → expression_type sight p ≡ Some ty → expression_type sight e ≡ Some ny
          → Written shape (area_assignment g width p e s) (area_assignment g width p e t)
      near_area width p e ty ny h k =
          subst (λ (o : Result Value Fault). Written shape (area_assignment g width p e s)
          (and_then o (λ at. and_then (value g e t) (λ v. area_write width at v t)))) (same_value p ty h)
          (by_value (value g p s) (λ at. and_then (value g e s) (λ v. area_write width at v s)) (λ at. and_then (value g e t) (λ v. area_write width at v t))
          (λ at.
          subst (λ (o : Result Value Fault). Written shape (and_then (value g e s) (λ v. area_write width at v s))
          (and_then o (λ v. area_write width at v t))) (same_value e ny k)
          (by_value (value g e s) (λ v. area_write width at v s) (λ v. area_write width at v t) (λ v. area_written width at v))))
