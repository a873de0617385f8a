-- Well typed expressions, statements and calls in a state that fits: what variables stand for and what is read is
-- of its type, and what is written, what statements leave and what the calls of a proper tree leave is a state that
-- fits.
use Rattle.st_tree.proofs.Common.{list_any, int_eq, ◌≡◌, ℕ, zero, suc, ℤ, Bool, true, false, ◌&&◌, List, [], ◌∷◌, ◌++◌, length, slice_get, Option, Some, None, Result, Ok, Err, if◌then◌else◌, slice_set, map, get_or, pos, take, All, Contains, option_map, refl, sym, ap, ◌∙◌, subst, arith, append-nil, append_assoc, eqb-true, Decides-int_eq, and_then, aim_of_place, fault_of, unless, Contents, Place, Fault, Reg, Width, ActivationFits, Fits, IsOf, Paired, StandsFor, RegistersFit, EndsFit, Out, Normal, Continues, Sem, Calls, after_body, area_assignment, arm_meaning, assignment, body_meaning, case_meaning, state_or_fault, first_true, first_with, meaning, then_do, turns, with_value, Exits, Returns, Faults, NoUnits, is_conversion, binary_value, selected_value, converted_value, shift_value, unary_value, is_block_number, is_place, Activation, State, depth, there, type_of_register, pointed_at, with_local, write, write_place, where_true, type_of_binary, type_of_choice, type_of_conversion, type_of_read, type_of_shift, type_of_unary, value, Worth, value_step, Value, fit, type_of_width, is_set, width_at, UnitScope, expression_type, is_seen, is_value, unit_scope_in, type_inside, type_outside, variable_type, are_well_typed, each, each_case, is_arm, is_assigned, is_case_arm, is_well_typed, expression_step, on_type, are_given, has_type, head_of, is_call, Expr, StType, Var, Arm, CaseArm, Local, Located, Pou, StProgram, Stmt, Reference, and_parts, get_or_from_slice_get, slice_get-map, slice_get_within, activation_of, after_unit, enter_with, calls_to, state_on_entry, unit_call, left, located_actual, located_actuals, unit_step, zero_of, IsProperUnit, Proper}
use Rattle.memory_areas.specs.declared.place.AreaName.TheVariants as area
use Rattle.s7_base.specs.RegSet.{place}
use Rattle.st_tree.specs.Fitting.{ActivationsFit, local_type, locals_declared, CallsFit}
use Rattle.st_tree.specs.State.{locals_of, read_at, reference_of, area_write, is_same_register, with_register, write_at, area_read}
use Rattle.st_tree.specs.declared.expr.Expr.TheOpen as E
use Rattle.st_tree.specs.declared.expr.StType.TheVariants as type
use Rattle.st_tree.specs.declared.expr.Var.TheVariants as var
use Rattle.st_tree.specs.declared.state.Reference.TheVariants as reference
use Rattle.st_tree.proofs.Equations.{meaning_area_write, meaning_arm, meaning_assign, meaning_case, meaning_case_arm, meaning_continue, meaning_exit, meaning_if, meaning_invoke, meaning_return, meaning_while}
use Rattle.st_tree.proofs.FittingMemory.{AfterHolds, place_holds, cleared_holds}
use Rattle.st_tree.proofs.FittingValues.{Typed, area_typed, choice_typed, converted_typed, either_fits, on_both, on_then, one_typed, place_typed, shifted_typed, two_typed, where_typed}
use Rattle.st_tree.proofs.Induction.{Each, InArm, InCase, StmtSteps, every_body, Layers, folds_related}
use Rattle.st_tree.proofs.TypedParts.{body_of_case, both_sides, parts_of_arm, parts_of_arms, parts_of_body, parts_of_case, parts_of_cases, parts_of_if, parts_of_while}
use Rattle.st_tree.proofs.TypingEquations.{good_assign, good_invoke, type_had}
use Rattle.std.proofs.lemmas.List.Elements.{All-pop, All-push}
use Rattle.st_tree.specs.Calls.{check_access}

-- Activations

-- the last activation is one of a unit for which some wait, and there are as many others
record IsLast (waiting : List Pou) (unit : Pou) (at : ℕ) (acts : List Activation) : Type 0 where
  activation : Activation
  there : slice_get acts at ≡ Some activation
  fits : ActivationFits waiting unit activation
  many : length acts ≡ suc at

last_fits : (before waiting : List Pou) (unit : Pou) (acts : List Activation)
    → ActivationsFit before (waiting ++ unit ∷ []) acts → IsLast (before ++ waiting) unit (length waiting) acts
last_fits before [] unit (a ∷ b ∷ rest) h = absurd h.1
last_fits before [] unit (a ∷ []) h =
    record {
      activation = a;
      there = refl;
      fits = rw append-nil h.0;
      many = refl;
    }
last_fits before (w ∷ more) unit (a ∷ rest) h =
    let r = last_fits (before ++ w ∷ []) more unit rest h.1 in
    record {
      activation = r.activation;
      there = r.there;
      fits = rw append_assoc at r.fits;
      many = ap suc r.many;
    }
last_fits before waiting unit acts h = absurd h

pub depth_is : (before waiting : List Pou) (unit : Pou) (s : State)
    → ActivationsFit before (waiting ++ unit ∷ []) s.activations → depth s ≡ length waiting
depth_is before waiting unit s h = let r = last_fits before waiting unit s.activations h in omega (arith, r.many)

-- Locals

get_last : {A : Type 0} (xs : List A) (x : A) → slice_get (xs ++ x ∷ []) (length xs) ≡ Some x
get_last [] x = refl
get_last (y ∷ xs) x = get_last xs x

local_typed : (ls : List Local) (vs : List Value) (i : ℕ) → Paired (λ (l : Local) v. IsOf l.ty v) ls vs
    → Typed (type_inside (slice_get ls i)) (there (slice_get vs i))
local_typed [] [] i h = tt
local_typed (l ∷ ls) (v ∷ vs) zero h = h.0
local_typed (l ∷ ls) (v ∷ vs) (suc i) h = local_typed ls vs i h.1
local_typed ls vs i h = absurd h

local_fits : (before units : List Pou) (acts : List Activation) (d i : ℕ) → ActivationsFit before units acts
    → Typed (local_type units d i) (there (slice_get (locals_of (slice_get acts d)) i))
local_fits before [] [] d i h = tt
local_fits before (u ∷ units) (a ∷ rest) zero i h = local_typed u.locals a.locals i h.0.locals
local_fits before (u ∷ units) (a ∷ rest) (suc d) i h = local_fits (before ++ u ∷ []) units rest d i h.1
local_fits before units acts d i h = absurd h

-- a local of one of some units is one of more units too
still_local : (units more : List Pou) (d i : ℕ) (ty : StType) → local_type units d i ≡ Some ty
    → local_type (units ++ more) d i ≡ Some ty
still_local [] more d i ty h = cc
still_local (u ∷ units) more zero i ty h = h
still_local (u ∷ units) more (suc d) i ty h = still_local units more d i ty h

still_stands : (units more : List Pou) (ty : StType) (r : Reference) → StandsFor units ty r
    → StandsFor (units ++ more) ty r
still_stands units more ty (reference.Register r) h = h
still_stands units more ty (reference.Local d i) h = still_local units more d i ty h
still_stands units more ty (reference.Place p t) h = h

-- a local of an activation takes a value of its type
value_set : (ls : List Local) (vs : List Value) (i : ℕ) (ty : StType) (v : Value)
    → Paired (λ (l : Local) v. IsOf l.ty v) ls vs → type_inside (slice_get ls i) ≡ Some ty → IsOf ty v
    → Paired (λ (l : Local) v. IsOf l.ty v) ls (slice_set vs i v)
value_set [] [] i ty v h e k = tt
value_set (l ∷ ls) (w ∷ vs) zero ty v h e k =
    let same : ty ≡ l.ty = cc in (subst (λ (t : StType). IsOf t v) same k, h.1)
value_set (l ∷ ls) (w ∷ vs) (suc i) ty v h e k = (h.0, value_set ls vs i ty v h.1 e k)
value_set ls vs i ty v h e k = absurd h

local_set : (before units : List Pou) (acts : List Activation) (d i : ℕ) (ty : StType) (v : Value)
    → ActivationsFit before units acts → local_type units d i ≡ Some ty → IsOf ty v
    → ActivationsFit before units (with_local d i v acts)
local_set before [] [] d i ty v h e k = tt
local_set before (u ∷ units) (a ∷ rest) zero i ty v h e k =
    (record { locals = value_set u.locals a.locals i ty v h.0.locals e k; formals = h.0.formals }, h.1)
local_set before (u ∷ units) (a ∷ rest) (suc d) i ty v h e k =
    (h.0, local_set (before ++ u ∷ []) units rest d i ty v h.1 e k)
local_set before units acts d i ty v h e k = absurd h

-- Registers

-- the types of the register variables that are no BOOLs, in the order of their numbers
is_numbered : (r : Reg) → type_of_register r
    ≡ get_or (type.Dword ∷ type.Dword ∷ type.Dword ∷ type.Dword ∷ type.Word ∷ type.Word ∷ []) (place r) type.Bool
is_numbered r = grind arith

pub register_fits : (r : Reg) (n : ℤ) (registers : Reg → ℤ) → fit (type_of_register r) n ≡ n → RegistersFit registers
    → RegistersFit (with_register r n registers)
register_fits r n registers h all q =
    either_fits (is_same_register q r) (type_of_register q) n (registers q)
    (λ same. subst (λ (ty : StType). fit ty n ≡ n) (by (eqb-true (place q) (place r) same)) h) (all q)
  where
    by : place q ≡ place r → type_of_register r ≡ type_of_register q
    by e = cc (is_numbered q, is_numbered r)

-- What variables stand for

-- a reference, where there are a type and one, is of the type
abbrev pub Refers : List Pou → Option StType → Result Reference Fault → Type 0
Refers running None r = Unit {0}
Refers running (Some ty) (Ok r) = StandsFor running ty r
Refers running (Some ty) (Err f) = Unit {0}

where_refers : (running : List Pou) (b : Bool) (ty : StType) (r : Reference) → StandsFor running ty r
    → Refers running (where_true b ty) (Ok r)
where_refers running true ty r h = h
where_refers running false ty r h = tt

formal_refers : (waiting more : List Pou) (fs : List Local) (rs : List Reference) (i : ℕ)
    → Paired (λ (f : Local) r. StandsFor waiting f.ty r) fs rs
    → Refers (waiting ++ more) (type_inside (slice_get fs i)) (there (slice_get rs i))
formal_refers waiting more [] [] i h = tt
formal_refers waiting more (f ∷ fs) (r ∷ rs) zero h = still_stands waiting more f.ty r h.0
formal_refers waiting more (f ∷ fs) (r ∷ rs) (suc i) h = formal_refers waiting more fs rs i h.1
formal_refers waiting more fs rs i h = absurd h

global_refers : (running : List Pou) (sight : UnitScope) (o : Option Located)
    → Refers running (type_outside sight o)
    (and_then (there o) (λ (g : Located). Ok (reference.Place g.place g.ty)))
global_refers running sight None = tt
global_refers running sight (Some g) =
    where_refers running (is_seen sight g.name) g.ty (reference.Place g.place g.ty) refl

-- States

module _ (tree : StProgram) (waiting : List Pou) (unit : Pou) where
  abbrev running : List Pou
  running = waiting ++ unit ∷ []

  abbrev sight : UnitScope
  sight = unit_scope_in tree unit

  -- the state after a write, if there is one, fits
  abbrev AfterFits : Result State Fault → Type 0
  AfterFits (Ok t) = Fits tree waiting unit t
  AfterFits (Err f) = Unit {0}

  module _ (s : State) (h : Fits tree waiting unit s) where
    at_depth : depth s ≡ length waiting
    at_depth = depth_is [] waiting unit s h.activations

    last : IsLast waiting unit (length waiting) s.activations
    last = last_fits [] waiting unit s.activations h.activations

    own_local : (i : ℕ) (o : Option StType) → type_inside (slice_get unit.locals i) ≡ o
        → Refers running o (Ok (reference.Local (depth s) i))
    own_local i None e = tt
    own_local i (Some ty) e =
        rw at_depth
        (ap (λ (u : Option Pou). type_inside (slice_get (locals_declared u) i)) (get_last waiting unit) ∙ e)

    pub variable_refers : (v : Var) → Refers running (variable_type sight v) (reference_of tree.globals v s)
    variable_refers (var.Register r) = refl
    variable_refers (var.Local i) = own_local i (type_inside (slice_get unit.locals i)) refl
    variable_refers (var.Formal i) =
        rw (at_depth, last.there)
        (formal_refers waiting (unit ∷ []) unit.formals last.activation.formals i last.fits.formals)
    variable_refers (var.Global i) = global_refers running sight (slice_get tree.globals i)
    variable_refers (var.Direct a byte bit w) =
        where_refers running (is_place a w byte bit) (type_of_width w) (reference.Place _ (type_of_width w)) refl
    variable_refers (var.InBlock n byte bit w) =
        where_refers running (is_block_number n && is_place area.Db w byte bit) (type_of_width w)
        (reference.Place _ (type_of_width w)) refl

    -- What is read

    reference_typed : (ty : StType) (r : Reference) → StandsFor running ty r → Typed (Some ty) (read_at r s)
    reference_typed ty (reference.Register r) e = record { type = e; number = rw e at (h.registers r) }
    reference_typed ty (reference.Local d i) e =
        rw (e, Typed) at (local_fits [] running s.activations d i h.activations)
    reference_typed ty (reference.Place p t) e =
        subst (λ (u : StType). Typed (Some u) (read_at (reference.Place p t) s)) e (place_typed t p s.memory)

    refers_typed : (o : Option StType) (r : Result Reference Fault) → Refers running o r
        → Typed o (and_then r (λ r. read_at r s))
    refers_typed None r e = tt
    refers_typed (Some ty) (Ok r) e = reference_typed ty r e
    refers_typed (Some ty) (Err f) e = tt

    -- Expressions

    -- a value of an expression, where the rules give a type, is of that type
    abbrev IsTyped : Option StType → Worth → Type 0
    IsTyped o worth = Typed o (worth s)

    layers : Layers IsTyped (expression_step sight) (value_step tree.globals)
    layers (E.Literal ty n) =
        where_typed (is_value ty n) ty _ (λ e. record { type = refl; number = (Decides-int_eq (fit ty n) n).0 e })
    layers (E.Read v) =
        refers_typed (variable_type sight v) (reference_of tree.globals v s) (variable_refers v)
    layers (E.Unary op a) = on_then (type_of_unary op) (unary_value op) (one_typed op) a.0 (a.1 s) a.2
    layers (E.Binary op a b) =
        on_both (type_of_binary op) (binary_value op) (two_typed op) a.0 b.0 (a.1 s) (b.1 s) a.2 b.2
    layers (E.Convert from to a) =
        on_then (λ ty. on_type (type_of_conversion from to ty) (where_true (is_conversion from to)))
        (λ v. Ok (converted_value to v)) (λ ty v i. converted_typed from to ty v) a.0 (a.1 s) a.2
    layers (E.Select gate a b) =
        on_then (λ g. on_type a.0 (λ ty. on_type b.0 (type_of_choice g ty)))
        (λ on. and_then (a.1 s) (λ v. and_then (b.1 s) (λ w. Ok (selected_value on v w))))
        (λ g on i.
        on_both (type_of_choice g) (λ v w. Ok (selected_value on v w)) (choice_typed on g) a.0 b.0 (a.1 s) (b.1 s) a.2 b.2)
        gate.0 (gate.1 s) gate.2
    layers (E.Shift op a b) =
        on_both type_of_shift (λ v count. Ok (shift_value op v count)) (shifted_typed op) a.0 b.0 (a.1 s) (b.1 s)
        a.2 b.2
    layers (E.AreaRead w a) =
        on_then (type_of_read w) (λ p. area_read w p s) (λ ty p i. area_typed w ty p s) a.0 (a.1 s) a.2

    pub value_of : (e : Expr) (ty : StType) (v : Value) → expression_type sight e ≡ Some ty
        → value tree.globals e s ≡ Ok v → IsOf ty v
    value_of e ty v a b =
        rw (a, b, Typed) at (folds_related IsTyped (expression_step sight) (value_step tree.globals) layers e)

    -- What is written

    local_written : (o : Result Value Fault) (d i : ℕ) (ty : StType) (v : Value) → local_type running d i ≡ Some ty
        → IsOf ty v
        → AfterFits
        (and_then o (λ (old : Value). Ok (record s { activations = with_local d i v s.activations })))
    local_written (Ok old) d i ty v e k =
        record {
          units = h.units;
          registers = h.registers;
          memory = h.memory;
          activations = local_set [] running s.activations d i ty v h.activations e k;
        }
    local_written (Err f) d i ty v e k = tt

    place_written : (o : Result Contents Fault) → AfterHolds o
        → AfterFits (and_then o (λ memory. Ok (record s { memory = memory })))
    place_written (Ok m) k =
        record { units = h.units; registers = h.registers; memory = k; activations = h.activations }
    place_written (Err f) k = tt

    reference_written : (ty : StType) (r : Reference) (v : Value) → StandsFor running ty r → IsOf ty v
        → AfterFits (write_at r v s)
    reference_written ty (reference.Register r) v e k =
        record {
          units = h.units;
          registers =
              register_fits r v.n s.registers (subst (λ (t : StType). fit t v.n ≡ v.n) (sym e) k.number) h.registers;
          memory = h.memory;
          activations = h.activations;
        }
    reference_written ty (reference.Local d i) v e k =
        local_written (there (slice_get (locals_of (slice_get s.activations d)) i)) d i ty v e k
    reference_written ty (reference.Place p t) v e k =
        place_written (write_place t p v s.memory) (place_holds t p v s.memory h.memory)

    referred_written : (ty : StType) (o : Result Reference Fault) (v : Value) → Refers running (Some ty) o → IsOf ty v
        → AfterFits (and_then o (λ r. write_at r v s))
    referred_written ty (Ok r) v e k = reference_written ty r v e k
    referred_written ty (Err f) v e k = tt

    variable_written : (ty : StType) (v : Var) (w : Value) → variable_type sight v ≡ Some ty
        → IsOf ty w → AfterFits (write tree.globals v w s)
    variable_written ty v w e k =
        referred_written ty (reference_of tree.globals v s) w
        (rw (e, Refers) at (variable_refers v)) k

    pointed_written : (w : Width) (o : Result Place Fault) (v : Value)
        → AfterFits (and_then o (λ place. write_at (reference.Place place (type_of_width w)) v s))
    pointed_written w (Ok p) v =
        place_written (write_place (type_of_width w) p v s.memory)
        (place_holds (type_of_width w) p v s.memory h.memory)
    pointed_written w (Err f) v = tt

    area_written : (w : Width) (p v : Value) → AfterFits (area_write w p v s)
    area_written w p v = pointed_written w (pointed_at p s) v

  -- Statements

  abbrev Ends : Out → Type 0
  Ends o = EndsFit tree waiting unit o

  -- statements leave states that fit
  abbrev pub Keeps : Sem → Type 0
  Keeps f = (u : ℕ) (s : State) → Fits tree waiting unit s → Ends (f u s)

  -- Statements in their order

  then_ends : (o : Out) (f : Sem) → Keeps f → Ends o → Ends (then_do o f)
  then_ends (Normal u s) f more h = more u s h
  then_ends o f more h = h

  body_ends : (o : Out) (f : Sem) → Keeps f → Ends o → Ends (after_body o f)
  body_ends (Normal u s) f more h = more u s h
  body_ends (Continues u s) f more h = more u s h
  body_ends o f more h = h

  picked_ends : (b : Bool) (o p : Out) → Ends o → Ends p → Ends (if b then o else p)
  picked_ends true o p h k = h
  picked_ends false o p h k = k

  valued_ends : (r : Result Value Fault) (u : ℕ) (s : State) (next : Value → Out) → Fits tree waiting unit s
      → ((v : Value) → Ends (next v)) → Ends (with_value r u s next)
  valued_ends (Ok v) u s next h k = k v
  valued_ends (Err f) u s next h k = (waiting, unit, h)

  turns_keep : (most : ℕ) (test : Worth) (f : Sem) → Keeps f → Keeps (turns most test f)
  turns_keep zero test f more u s h = (waiting, unit, h)
  turns_keep (suc most) test f more zero s h = (waiting, unit, h)
  turns_keep (suc most) test f more (suc u) s h =
      valued_ends (test s) u s _ h (λ v.
      picked_ends (is_set v) (after_body (f u s) (turns most test f)) (Normal u s)
      (body_ends (f u s) (turns most test f) (turns_keep most test f more) (more u s h)) h)

  -- Assignments

  changed_ends : (r : Result State Fault) (u : ℕ) (s : State) → Fits tree waiting unit s
      → AfterFits r → Ends (state_or_fault r u s)
  changed_ends (Ok new) u s h k = k
  changed_ends (Err f) u s h k = (waiting, unit, h)

  assigned_fits : (v : Var) (r : Result Value Fault) (s : State)
      → ((w : Value) → r ≡ Ok w → AfterFits (write tree.globals v w s))
      → AfterFits (and_then r (λ w. write tree.globals v w s))
  assigned_fits v (Ok w) s k = k w refl
  assigned_fits v (Err f) s k = tt

  assign_keeps : (v : Var) (e : Expr) → is_assigned (variable_type sight v) (expression_type sight e) ≡ true
      → (s : State) → Fits tree waiting unit s → AfterFits (assignment tree.globals v e s)
  assign_keeps v e good s h =
      let b = both_sides (variable_type sight v) (expression_type sight e) good in
      assigned_fits v (value tree.globals e s) s (λ w worth.
      let is = value_of s h e b.type w b.right worth in
      variable_written s h b.type v w b.left is)

  area_fits : (w : Width) (r q : Result Value Fault) (s : State) → Fits tree waiting unit s
      → AfterFits (and_then r (λ at. and_then q (λ v. area_write w at v s)))
  area_fits w (Ok p) (Ok v) s h = area_written s h w p v
  area_fits w (Ok p) (Err f) s h = tt
  area_fits w (Err f) q s h = tt

  -- Each statement

  module _ (calls : Calls) (fit : CallsFit tree calls) where
    abbrev mean : Stmt → Sem
    mean x = meaning tree.globals calls x

    abbrev bodies : List Stmt → Sem
    bodies xs = body_meaning tree.globals calls xs

    abbrev P : Stmt → Type 0
    P x = (inside : Bool) → is_well_typed sight x inside ≡ true → Keeps (mean x)

    list_keeps : (xs : List Stmt) → Each P xs → (inside : Bool) → are_well_typed sight inside xs ≡ true
        → Keeps (bodies xs)
    list_keeps [] all inside good u s h = h
    list_keeps (x ∷ xs) all inside good u s h =
        let parts = parts_of_body sight inside x xs good in
        then_ends (mean x u s) (bodies xs) (list_keeps xs all.1 inside parts.1) (all.0 inside parts.0 u s h)

    arms_keep : (arms : List Arm) → Each (InArm P) arms → (inside : Bool)
        → each inside (map (is_arm sight) arms) ≡ true → (f : Sem) → Keeps f
        → Keeps (first_true (map (arm_meaning tree.globals calls) arms) f)
    arms_keep [] all inside good f more u s h = more u s h
    arms_keep (x ∷ xs) all inside good f more u s h =
        let parts = parts_of_arms sight inside x xs good in
        let body = (parts_of_arm sight inside x parts.0).1 in
        rw (meaning_arm tree.globals calls x)
        (valued_ends (value tree.globals x.test s) u s _ h (λ v.
        picked_ends (is_set v) (bodies x.body u s) (first_true (map (arm_meaning tree.globals calls) xs) f u s)
        (list_keeps x.body all.0 inside body u s h) (arms_keep xs all.1 inside parts.1 f more u s h)))

    cases_keep : (n : ℤ) (ty : StType) (arms : List CaseArm) → Each (InCase P) arms → (inside : Bool)
        → each_case ty inside (map (is_case_arm sight) arms) ≡ true → (f : Sem) → Keeps f
        → Keeps (first_with n (map (case_meaning tree.globals calls) arms) f)
    cases_keep n ty [] all inside good f more u s h = more u s h
    cases_keep n ty (x ∷ xs) all inside good f more u s h =
        let parts = parts_of_cases sight inside ty x xs good in
        let body = body_of_case sight inside x ty parts.0 in
        rw (meaning_case_arm tree.globals calls x)
        (picked_ends (list_any (λ label. int_eq label n) x.labels) (bodies x.body u s)
        (first_with n (map (case_meaning tree.globals calls) xs) f u s)
        (list_keeps x.body all.0 inside body u s h) (cases_keep n ty xs all.1 inside parts.1 f more u s h))

    steps : StmtSteps P
    steps =
        record {
          assign = λ v e inside good u s h.
              rw (meaning_assign tree.globals calls u s v e)
              (changed_ends (assignment tree.globals v e s) u s h
              (assign_keeps v e (sym (good_assign sight inside v e) ∙ good) s h));
          area_write = λ w p e inside good u s h.
              rw (meaning_area_write tree.globals calls u s w p e)
              (changed_ends (area_assignment tree.globals w p e s) u s h
              (area_fits w (value tree.globals p s) (value tree.globals e s) s h));
          invoke = λ n actuals inside good u s h.
              rw (meaning_invoke tree.globals calls u s n actuals)
              (fit n actuals waiting unit u s (sym (good_invoke sight inside n actuals) ∙ good) h);
          choice = λ arms other all rest inside good u s h.
              let parts = parts_of_if sight inside arms other good in
              let keeps = list_keeps other rest inside parts.1 in
              rw (meaning_if tree.globals calls u s arms other)
              (arms_keep arms all inside parts.0 (bodies other) keeps u s h);
          selection = λ e arms other all rest inside good u s h.
              let parts = parts_of_case sight inside e arms other good in
              let keeps = list_keeps other rest inside parts.1 in
              rw (meaning_case tree.globals calls u s e arms other)
              (valued_ends (value tree.globals e s) u s _ h (λ v.
              cases_keep v.n parts.0.type arms all inside parts.0.arms (bodies other) keeps u s h));
          loop = λ test body all inside good u s h.
              let parts = parts_of_while sight inside test body good in
              rw (meaning_while tree.globals calls u s test body)
              (turns_keep u (value tree.globals test) (bodies body) (list_keeps body all true parts.1) u s h);
          exit = λ inside good u s h. rw (meaning_exit tree.globals calls u s) h;
          continue = λ inside good u s h. rw (meaning_continue tree.globals calls u s) h;
          return = λ inside good u s h. rw (meaning_return tree.globals calls u s) h;
        }

    pub statements_keep : (inside : Bool) (body : List Stmt) → are_well_typed sight inside body ≡ true
        → Keeps (bodies body)
    statements_keep inside body good = list_keeps body (every_body P steps body) inside good

-- Calls of a proper tree

-- Elements by their positions

pub at_position : {A : Type 0} (P : A → Type 0) (xs : List A) (n : ℕ) (x : A) → All P xs → slice_get xs n ≡ Some x → P x
at_position P xs n x all e = subst P (get_or_from_slice_get xs n x x e) (all n x (slice_get_within xs n x e))

pub is_in : {A : Type 0} (xs : List A) (n : ℕ) (x : A) → slice_get xs n ≡ Some x → Contains xs x
is_in xs n x e = (n, slice_get_within xs n x e, get_or_from_slice_get xs n x x e)

-- Activations

-- zero is a number of each type
pub zero_fits : (ty : StType) → fit ty (pos 0) ≡ pos 0
zero_fits type.Bool = refl
zero_fits ty = refl

pub zeros_fit : (ls : List Local) → Paired (λ (l : Local) v. IsOf l.ty v) ls (map zero_of ls)
zeros_fit [] = tt
zeros_fit (l ∷ ls) = (record { type = refl; number = zero_fits l.ty }, zeros_fit ls)

pushed_fits : (before units : List Pou) (acts : List Activation) (unit : Pou) (a : Activation)
    → ActivationsFit before units acts → ActivationFits (before ++ units) unit a
    → ActivationsFit before (units ++ unit ∷ []) (acts ++ a ∷ [])
pushed_fits before [] [] unit a h k = (rw append-nil at k, tt)
pushed_fits before (u ∷ units) (b ∷ rest) unit a h k =
    (h.0, pushed_fits (before ++ u ∷ []) units rest unit a h.1 (rw append_assoc k))
pushed_fits before units acts unit a h k = absurd h

popped_fits : (before units : List Pou) (acts : List Activation) (unit : Pou)
    → ActivationsFit before (units ++ unit ∷ []) acts → ActivationsFit before units (take (length units) acts)
popped_fits before [] acts unit h = tt
popped_fits before (u ∷ units) [] unit h = absurd h
popped_fits before (u ∷ units) (a ∷ rest) unit h = (h.0, popped_fits (before ++ u ∷ []) units rest unit h.1)

module _ (tree : StProgram) (waiting : List Pou) (unit : Pou) where
  abbrev all_running : List Pou
  all_running = waiting ++ unit ∷ []

  abbrev own_unit_scope : UnitScope
  own_unit_scope = unit_scope_in tree unit

  pub entered_fits : (n : ℕ) (callee : Pou) (formals : List Reference) (s : State) → slice_get tree.pous n ≡ Some callee
      → Fits tree waiting unit s → Paired (λ (f : Local) r. StandsFor all_running f.ty r) callee.formals formals
      → Fits tree all_running callee (state_on_entry callee formals s)
  entered_fits n callee formals s e h k =
      record {
        units = All-push (Contains tree.pous) all_running callee h.units (is_in tree.pous n callee e);
        registers = h.registers;
        memory = cleared_holds (length s.activations) s.memory h.memory;
        activations =
            pushed_fits [] all_running s.activations callee (activation_of callee formals) h.activations
            (record { locals = zeros_fit callee.locals; formals = k });
      }

  left_fits : (callee : Pou) (s : State) → Fits tree all_running callee s → Fits tree waiting unit (left s)
  left_fits callee s h =
      record {
        units = (All-pop (Contains tree.pous) (all_running ++ callee ∷ []) all_running (Some callee) refl h.units).0;
        registers = h.registers;
        memory = h.memory;
        activations =
            rw (depth_is [] all_running callee s h.activations)
            (popped_fits [] all_running s.activations callee h.activations);
      }

  after_ends : (callee : Pou) (o : Out) → EndsFit tree all_running callee o → EndsFit tree waiting unit (after_unit o)
  after_ends callee (Normal u s) h = left_fits callee s h
  after_ends callee (Exits u s) h = left_fits callee s h
  after_ends callee (Continues u s) h = left_fits callee s h
  after_ends callee (Returns u s) h = left_fits callee s h
  after_ends callee (Faults f s) h = h
  after_ends callee (NoUnits s) h = h

  -- Actuals

  unless_refers : (o : Option StType) (f : Option Fault) (r : Reference) → Refers all_running o (Ok r)
      → Refers all_running o (unless f r)
  unless_refers None f r h = tt
  unless_refers (Some ty) None r h = h
  unless_refers (Some ty) (Some f) r h = tt

  tested_refers : (o : Option StType) (r : Reference) (s : State) → Refers all_running o (Ok r)
      → Refers all_running o (check_access r s)
  tested_refers o (reference.Place p ty) s h =
      unless_refers o (fault_of (aim_of_place p) (width_at ty) s.memory) (reference.Place p ty) h
  tested_refers o r s h = h

  after_test : (o : Option StType) (r : Result Reference Fault) (s : State) → Refers all_running o r
      → Refers all_running o (and_then r (λ r. check_access r s))
  after_test o (Ok r) s h = tested_refers o r s h
  after_test None (Err f) s h = tt
  after_test (Some ty) (Err f) s h = tt

  actual_refers : (v : Var) (s : State) → Fits tree waiting unit s
      → Refers all_running (variable_type own_unit_scope v) (located_actual tree.globals v s)
  actual_refers (var.Formal i) s h = variable_refers tree waiting unit s h (var.Formal i)
  actual_refers v s h =
      after_test (variable_type own_unit_scope v) (reference_of tree.globals v s) s (variable_refers tree waiting unit s h v)

  -- references, where there are some, are of the types of formals
  abbrev pub AreOf : List Local → Result (List Reference) Fault → Type 0
  AreOf fs (Ok rs) = Paired (λ (f : Local) r. StandsFor all_running f.ty r) fs rs
  AreOf fs (Err f) = Unit {0}

  one_more : (f : Local) (fs : List Local) (r : Result Reference Fault) (q : Result (List Reference) Fault)
      → Refers all_running (Some f.ty) r → AreOf fs q
      → AreOf (f ∷ fs) (and_then r (λ r. and_then q (λ more. Ok (r ∷ more))))
  one_more f fs (Ok r) (Ok rs) h k = (h, k)
  one_more f fs (Ok r) (Err e) h k = tt
  one_more f fs (Err e) q h k = tt

  pub actuals_are : (fs : List Local) (vars : List Var) (s : State) → Fits tree waiting unit s
      → are_given own_unit_scope fs vars ≡ true → AreOf fs (located_actuals tree.globals vars s)
  actuals_are [] [] s h good = tt
  actuals_are [] (v ∷ vars) s h good = cc
  actuals_are (f ∷ fs) [] s h good = cc
  actuals_are (f ∷ fs) (v ∷ vars) s h good =
      let parts = and_parts (has_type f.ty (variable_type own_unit_scope v)) (are_given own_unit_scope fs vars) good in
      one_more f fs (located_actual tree.globals v s) (located_actuals tree.globals vars s)
      (rw (type_had f.ty (variable_type own_unit_scope v) parts.0, Refers) at (actual_refers v s h))
      (actuals_are fs vars s h parts.1)

  -- Calls

  module _ (proper : Proper tree) (calls : Calls) (fit : CallsFit tree calls) where
    called_ends : (n : ℕ) (callee : Pou) (r : Result (List Reference) Fault) (u : ℕ) (s : State)
        → slice_get tree.pous n ≡ Some callee → Fits tree waiting unit s → AreOf callee.formals r
        → EndsFit tree waiting unit (enter_with (unit_step tree calls (Some callee)) r u s)
    called_ends n callee (Ok formals) u s e h k =
        after_ends callee (body_meaning tree.globals calls callee.body u (state_on_entry callee formals s))
        (statements_keep tree all_running callee calls fit false callee.body
        (at_position (IsProperUnit tree.globals (map head_of tree.pous)) tree.pous n callee proper.units e).typed u
        (state_on_entry callee formals s) (entered_fits n callee formals s e h k))
    called_ends n callee (Err f) u s e h k = (waiting, unit, h)

    found_ends : (n : ℕ) (o : Option Pou) (actuals : List Var) (u : ℕ) (s : State) → slice_get tree.pous n ≡ o
        → is_call own_unit_scope (option_map head_of o) actuals ≡ true → Fits tree waiting unit s
        → EndsFit tree waiting unit (enter_with (unit_step tree calls o) (located_actuals tree.globals actuals s) u s)
    found_ends n None actuals u s e good h = cc
    found_ends n (Some callee) actuals u s e good h =
        let given = (and_parts _ _ good).1 in
        called_ends n callee (located_actuals tree.globals actuals s) u s e h
        (actuals_are callee.formals actuals s h given)

    invoked_ends : (n : ℕ) (actuals : List Var) (units : ℕ) (s : State)
        → is_call own_unit_scope (slice_get (map head_of tree.pous) n) actuals ≡ true → Fits tree waiting unit s
        → EndsFit tree waiting unit (unit_call tree calls n actuals units s)
    invoked_ends n actuals zero s good h = (waiting, unit, h)
    invoked_ends n actuals (suc u) s good h =
        found_ends n (slice_get tree.pous n) actuals u s refl
        (rw (slice_get-map head_of tree.pous n) at good) h

-- calls that nest at most so deep
pub calls_fit : (tree : StProgram) (deep : ℕ) → Proper tree → CallsFit tree (calls_to deep tree)
calls_fit tree zero proper n actuals waiting unit units s good h = (waiting, unit, h)
calls_fit tree (suc deep) proper n actuals waiting unit units s good h =
    invoked_ends tree waiting unit proper (calls_to deep tree) (calls_fit tree deep proper) n actuals units s good h
