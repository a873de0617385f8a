-- Statements of templates are well typed and nest little, their expressions are low and divide by nothing that may be
-- 0, and they call nothing.
use Rattle.std.proofs.Common.{◌≡◌, ℕ, zero, suc, ◌+◌, ◌-◌, ◌≤◌, ◌==◌, max, Bool, true, false, List, [], ◌∷◌, ◌++◌, length, Some, refl, sym, ap, subst, ◌∙◌, arith}
use Rattle.std.specs.Prelude.{ℤ, All, nat_lt, slice_get}
use Rattle.std.specs.List.{flat_map}
use Rattle.std.proofs.lemmas.List.Elements.{All-append, All-cons, All-nil}
use Rattle.memory_areas.specs.Access.{is_byte_in, is_unaligned}
use Rattle.memory_areas.specs.declared.place.AreaName.{AreaName}
use Rattle.s7_base.specs.declared.register.Reg.{Reg}
use Rattle.s7_base.specs.declared.register.Reg.TheVariants as reg
use Rattle.s7_base.specs.declared.word.Width.{Width}
use Rattle.s7_base.specs.declared.word.Width.TheVariants as width
use Rattle.st_tree.specs.Values.{type_of_width}
use Rattle.std.proofs.lemmas.Bool.Decides.{nat_tests}
use Rattle.std.proofs.lemmas.Bool.{le-leb, ltb-false}
use Rattle.st_tree.proofs.PartEquations.{calls_in_area_write, calls_in_assign, expressions_in_area_write, expressions_in_assign, height_area_read, height_binary, height_convert, height_literal, height_read, height_select, height_shift, height_unary}
use Rattle.st_tree.proofs.TypingEquations.{good_area_write, good_assign, nesting_area_write, nesting_assign, typed_area_read, typed_binary, typed_convert, typed_literal, typed_read, typed_select, typed_shift, typed_unary}
use Rattle.st_tree.specs.Naming.{is_conversion}
use Rattle.st_tree.specs.BodyParts.{expressions_in, height}
use Rattle.st_tree.specs.State.{type_of_register}
use Rattle.st_tree.specs.TypeRules.{is_type, type_on_equals, type_of_unary, has_bits}
use Rattle.st_tree.specs.WellTyped.{UnitScope, expression_type, is_value, variable_type}
use Rattle.st_tree.specs.declared.expr.BinaryOp.{BinaryOp}
use Rattle.st_tree.specs.declared.expr.BinaryOp.TheVariants as binary
use Rattle.st_tree.specs.declared.expr.Expr.{Expr}
use Rattle.st_tree.specs.declared.expr.Expr.TheVariants as expr
use Rattle.st_tree.specs.declared.expr.ShiftOp.{ShiftOp}
use Rattle.st_tree.specs.declared.expr.StType.{StType}
use Rattle.st_tree.specs.declared.expr.StType.TheVariants as type
use Rattle.st_tree.specs.declared.expr.UnaryOp.{UnaryOp}
use Rattle.st_tree.specs.declared.expr.UnaryOp.TheVariants as unary
use Rattle.st_tree.specs.declared.expr.Var.{Var}
use Rattle.st_tree.specs.declared.expr.Var.TheVariants as var
use Rattle.st_tree.specs.declared.program.Stmt.{Stmt}
use Rattle.st_tree.specs.declared.program.Stmt.TheVariants as stmt
use Rattle.graph_rules.proofs.Divisors as division
use Rattle.graph_rules.proofs.Divisors.{IsNoDivision}
use Rattle.graph_rules.proofs.Nesting.{nests_at_most_twice}
use Rattle.graph_rules.specs.Divisors.{IsSureDivisor, divisors_in, divisors_of}
use Rattle.template_parts.specs.Templates.{AreTyped, IsLow, IsPlainBody}
use Rattle.template_parts.specs.Builders.{and_of, clear_or, literal_of, local_of, not_of, or_of, read_of, set_local_of, set_of, xor_of}

same_type : (ty : StType) → is_type ty ty ≡ true
same_type type.Bool = refl
same_type ty = refl

no_bit : (x : ℕ) → nat_lt 0 x ≡ false → (x == 0) ≡ true
no_bit x h = grind (arith, nat_tests)

in_left : (xs ys : List StType) (k : ℕ) (ty : StType) → slice_get xs k ≡ Some ty → slice_get (xs ++ ys) k ≡ Some ty
in_left [] ys k ty e = cc
in_left (x ∷ xs) ys zero ty e = e
in_left (x ∷ xs) ys (suc k) ty e = in_left xs ys k ty e

in_right : (xs ys : List StType) (k : ℕ) → slice_get (xs ++ ys) (length xs + k) ≡ slice_get ys k
in_right [] ys k = let e : 0 + k ≡ k = omega arith in ap (slice_get ys) e
in_right (x ∷ xs) ys k = let e : suc (length xs) + k ≡ suc (length xs + k) = omega arith in ap (slice_get (x ∷ xs ++ ys)) e ∙ in_right xs ys k

module _ (sight : UnitScope) where
  -- an expression is of a type, at most so high, and no division of it has a fault
  pub record IsOf (ty : StType) (n : ℕ) (e : Expr) : Type 0 where
    pub typed : expression_type sight e ≡ Some ty
    pub high : height e ≤ n
    pub sure : All IsSureDivisor (divisors_of e)

  -- a BOOL
  abbrev pub IsBool : ℕ → Expr → Type 0
  IsBool n e = IsOf type.Bool n e

  pub more : {ty : StType} {m n : ℕ} {e : Expr} → m ≤ n → IsOf ty m e → IsOf ty n e
  more {ty} {m} {n} {e} le h =
      let high : height e ≤ m = h.high in
      record { typed = h.typed; high = omega arith; sure = h.sure }

  -- no divisor, and those of two and three expressions
  none_sure : {all : List Expr} → all ≡ [] → All IsSureDivisor all
  none_sure e = subst (All IsSureDivisor) (sym e) (All-nil IsSureDivisor)

  both_sure : {all : List Expr} (ds es : List Expr) → all ≡ ds ++ es → All IsSureDivisor ds → All IsSureDivisor es → All IsSureDivisor all
  both_sure ds es e h k = subst (All IsSureDivisor) (sym e) (All-append IsSureDivisor ds es h k)

  -- Variables and literals

  pub read_is : {ty : StType} (v : Var) → variable_type sight v ≡ Some ty → IsOf ty 1 (expr.Read v)
  read_is {ty} v h = record { typed = typed_read sight v ∙ h; high = omega (arith, height_read v); sure = none_sure (division.of_read v) }

  pub register_is : (r : Reg) → IsOf (type_of_register r) 1 (read_of r)
  register_is r = read_is (var.Register r) refl

  pub local_is : {ty : StType} {i : ℕ} → variable_type sight (var.Local i) ≡ Some ty → IsOf ty 1 (local_of i)
  local_is {ty} {i} h = read_is (var.Local i) h

  -- the number is one of the type
  pub constant_is : {ty : StType} {n : ℤ} → is_value ty n ≡ true → IsOf ty 1 (expr.Literal ty n)
  constant_is {ty} {n} h =
      record {
        typed = typed_literal sight ty n ∙ (rw h refl);
        high = omega (arith, height_literal ty n);
        sure = none_sure (division.of_literal ty n);
      }

  pub literal_is : (b : Bool) → IsBool 1 (literal_of b)
  literal_is true = constant_is refl
  literal_is false = constant_is refl

  -- a place that a text may name
  pub direct_typed : (a : AreaName) (byte x : ℕ) (w : Width) → is_byte_in a w byte ≡ true → is_unaligned w x ≡ false
      → variable_type sight (var.Direct a byte x w) ≡ Some (type_of_width w)
  direct_typed a byte x width.Bit h k = rw (h, le-leb x 7 (ltb-false 7 x k)) refl
  direct_typed a byte x width.Byte h k = rw (h, no_bit x k) refl
  direct_typed a byte x width.Word h k = rw (h, no_bit x k) refl
  direct_typed a byte x width.Dword h k = rw (h, no_bit x k) refl

  -- Operators and functions

  pub unary_is : {ty to : StType} {n : ℕ} {e : Expr} (op : UnaryOp) → type_of_unary op ty ≡ Some to → IsOf ty n e → IsOf to (1 + n) (expr.Unary op e)
  unary_is {ty} {to} {n} {e} op t h =
      let e_high : height e ≤ n = h.high in
      record {
        typed = typed_unary sight op e ∙ (rw h.typed t);
        high = omega (arith, height_unary op e);
        sure = subst (All IsSureDivisor) (sym (division.of_unary op e)) h.sure;
      }

  pub not_is : {n : ℕ} {e : Expr} → IsBool n e → IsBool (1 + n) (not_of e)
  not_is h = unary_is unary.Not refl h

  -- an operator between operands, by its divisors
  operator_is : {ty to : StType} {m n : ℕ} {e f : Expr} (op : BinaryOp) → All IsSureDivisor (divisors_of (expr.Binary op e f)) → type_on_equals op ty ≡ Some to
      → IsOf ty m e → IsOf ty n f → IsOf to (1 + max m n) (expr.Binary op e f)
  operator_is {ty} {to} {m} {n} {e} {f} op sure t h k =
      let e_high : height e ≤ m = h.high in
      let f_high : height f ≤ n = k.high in
      record {
        typed = typed_binary sight op e f ∙ (rw (h.typed, k.typed, same_type ty) t);
        high = omega (arith, height_binary op e f);
        sure = sure;
      }

  -- any but `/` and MOD
  pub binary_is : {ty to : StType} {m n : ℕ} {e f : Expr} (op : BinaryOp) → IsNoDivision op → type_on_equals op ty ≡ Some to → IsOf ty m e → IsOf ty n f
      → IsOf to (1 + max m n) (expr.Binary op e f)
  binary_is {ty} {to} {m} {n} {e} {f} op other t h k =
      operator_is op (both_sure (divisors_of e) (divisors_of f) (division.of_binary op other e f) h.sure k.sure) t h k

  -- and these, by what never is 0
  pub quotient_is : {ty : StType} {m n : ℕ} {e f : Expr} → IsSureDivisor f → type_on_equals binary.Div ty ≡ Some ty → IsOf ty m e → IsOf ty n f
      → IsOf ty (1 + max m n) (expr.Binary binary.Div e f)
  quotient_is {ty} {m} {n} {e} {f} sure t h k =
      operator_is binary.Div
      (subst (All IsSureDivisor) (sym (division.of_quotient e f))
      (All-cons IsSureDivisor f (divisors_of e ++ divisors_of f) sure (All-append IsSureDivisor (divisors_of e) (divisors_of f) h.sure k.sure))) t h k

  pub remainder_is : {ty : StType} {m n : ℕ} {e f : Expr} → IsSureDivisor f → type_on_equals binary.Mod ty ≡ Some ty → IsOf ty m e → IsOf ty n f
      → IsOf ty (1 + max m n) (expr.Binary binary.Mod e f)
  remainder_is {ty} {m} {n} {e} {f} sure t h k =
      operator_is binary.Mod
      (subst (All IsSureDivisor) (sym (division.of_remainder e f))
      (All-cons IsSureDivisor f (divisors_of e ++ divisors_of f) sure (All-append IsSureDivisor (divisors_of e) (divisors_of f) h.sure k.sure))) t h k

  pub and_is : {m n : ℕ} {e f : Expr} → IsBool m e → IsBool n f → IsBool (1 + max m n) (and_of e f)
  and_is h k = binary_is binary.And tt refl h k

  pub or_is : {m n : ℕ} {e f : Expr} → IsBool m e → IsBool n f → IsBool (1 + max m n) (or_of e f)
  or_is h k = binary_is binary.Or tt refl h k

  pub xor_is : {m n : ℕ} {e f : Expr} → IsBool m e → IsBool n f → IsBool (1 + max m n) (xor_of e f)
  xor_is h k = binary_is binary.Xor tt refl h k

  pub convert_is : {from to : StType} {n : ℕ} {e : Expr} → is_conversion from to ≡ true → IsOf from n e → IsOf to (1 + n) (expr.Convert from to e)
  convert_is {from} {to} {n} {e} t h =
      let e_high : height e ≤ n = h.high in
      record {
        typed = typed_convert sight from to e ∙ (rw (h.typed, same_type from, t) refl);
        high = omega (arith, height_convert from to e);
        sure = subst (All IsSureDivisor) (sym (division.of_convert from to e)) h.sure;
      }

  pub select_is : {ty : StType} {l m n : ℕ} {gate e f : Expr} → IsBool l gate → IsOf ty m e → IsOf ty n f → IsOf ty (1 + max l (max m n)) (expr.Select gate e f)
  select_is {ty} {l} {m} {n} {gate} {e} {f} g h k =
      let g_high : height gate ≤ l = g.high in
      let e_high : height e ≤ m = h.high in
      let f_high : height f ≤ n = k.high in
      record {
        typed = typed_select sight gate e f ∙ (rw (g.typed, h.typed, k.typed, same_type ty) refl);
        high = omega (arith, height_select gate e f);
        sure = both_sure (divisors_of gate ++ divisors_of e) (divisors_of f) (division.of_select gate e f)
            (All-append IsSureDivisor (divisors_of gate) (divisors_of e) g.sure h.sure) k.sure;
      }

  pub shift_is : {ty : StType} {m n : ℕ} {e count : Expr} (op : ShiftOp) → has_bits ty ≡ true → IsOf ty m e → IsOf type.Int n count
      → IsOf ty (1 + max m n) (expr.Shift op e count)
  shift_is {ty} {m} {n} {e} {count} op t h k =
      let e_high : height e ≤ m = h.high in
      let f_high : height count ≤ n = k.high in
      record {
        typed = typed_shift sight op e count ∙ (rw (h.typed, k.typed, t) refl);
        high = omega (arith, height_shift op e count);
        sure = both_sure (divisors_of e) (divisors_of count) (division.of_shift op e count) h.sure k.sure;
      }

  pub area_read_is : {n : ℕ} {e : Expr} (w : Width) → IsOf type.Dword n e → IsOf (type_of_width w) (1 + n) (expr.AreaRead w e)
  area_read_is {n} {e} w h =
      let e_high : height e ≤ n = h.high in
      record {
        typed = typed_area_read sight w e ∙ (rw h.typed refl);
        high = omega (arith, height_area_read w e);
        sure = subst (All IsSureDivisor) (sym (division.of_area_read w e)) h.sure;
      }

  -- Statements

  abbrev pub IsPlain : List Stmt → Type 0
  IsPlain body = IsPlainBody sight body

  pub no_statement : IsPlain []
  no_statement = record { typed = refl; low = omega arith; high = All-nil IsLow; divisors = All-nil IsSureDivisor; calls = refl }

  pub assigned : {ty : StType} {n : ℕ} (v : Var) (e : Expr) (rest : List Stmt) → n ≤ 32 → variable_type sight v ≡ Some ty → IsOf ty n e
      → IsPlain rest → IsPlain (stmt.Assign v e ∷ rest)
  assigned {ty} {n} v e rest small h k plain =
      let high : height e ≤ n = k.high in
      let is_low : IsLow e = omega arith in
      record {
        typed = rw (good_assign sight false v e, h, k.typed, same_type ty) plain.typed;
        low = omega (arith, nesting_assign v e, nests_at_most_twice e, is_low, plain.low);
        high = subst (All IsLow) (sym (expressions_in_assign v e rest)) (All-cons IsLow e (expressions_in rest) is_low plain.high);
        divisors = both_sure (divisors_of e) (divisors_in rest) (ap (flat_map divisors_of) (expressions_in_assign v e rest)) k.sure plain.divisors;
        calls = calls_in_assign v e rest ∙ plain.calls;
      }

  pub area_written : {m n : ℕ} (w : Width) (p e : Expr) (rest : List Stmt) → m ≤ 32 → n ≤ 32 → IsOf type.Dword m p → IsOf (type_of_width w) n e
      → IsPlain rest → IsPlain (stmt.AreaWrite w p e ∷ rest)
  area_written {m} {n} w p e rest few small l k plain =
      let p_high : height p ≤ m = l.high in
      let e_high : height e ≤ n = k.high in
      let p_is_low : IsLow p = omega arith in
      let e_is_low : IsLow e = omega arith in
      record {
        typed = rw (good_area_write sight false w p e, l.typed, k.typed, same_type (type_of_width w)) plain.typed;
        low = omega (arith, nesting_area_write w p e, nests_at_most_twice p, nests_at_most_twice e, p_is_low, e_is_low, plain.low);
        high = subst (All IsLow) (sym (expressions_in_area_write w p e rest))
            (All-cons IsLow p (e ∷ expressions_in rest) p_is_low (All-cons IsLow e (expressions_in rest) e_is_low plain.high));
        divisors = both_sure (divisors_of p) (divisors_of e ++ divisors_in rest) (ap (flat_map divisors_of) (expressions_in_area_write w p e rest)) l.sure
            (All-append IsSureDivisor (divisors_of e) (divisors_in rest) k.sure plain.divisors);
        calls = calls_in_area_write w p e rest ∙ plain.calls;
      }

  pub set_plain : {n : ℕ} (r : Reg) (e : Expr) (rest : List Stmt) → n ≤ 32 → IsOf (type_of_register r) n e → IsPlain rest
      → IsPlain (set_of r e ∷ rest)
  set_plain r e rest small k plain = assigned (var.Register r) e rest small refl k plain

  pub local_plain : {ty : StType} {n : ℕ} (i : ℕ) (e : Expr) (rest : List Stmt) → n ≤ 32
      → variable_type sight (var.Local i) ≡ Some ty → IsOf ty n e → IsPlain rest
      → IsPlain (set_local_of i e ∷ rest)
  local_plain i e rest small h k plain = assigned (var.Local i) e rest small h k plain

  pub nfc_plain : (b : Bool) (rest : List Stmt) → IsPlain rest → IsPlain (set_of reg.Nfc (literal_of b) ∷ rest)
  nfc_plain b rest plain = set_plain reg.Nfc (literal_of b) rest (omega arith) (literal_is b) plain

  pub cleared_plain : (b : Bool) (rest : List Stmt) → IsPlain rest → IsPlain (clear_or b ++ rest)
  cleared_plain b rest plain =
      set_plain reg.Orb (literal_of false) (set_of reg.Nfc (literal_of b) ∷ rest) (omega arith) (literal_is false) (nfc_plain b rest plain)

  -- Locals

  pub first_typed : (n : ℕ) (ty : StType) (types : List StType) → AreTyped sight n (ty ∷ types) → variable_type sight (var.Local n) ≡ Some ty
  first_typed n ty types h =
      let e : n ≡ n + 0 = omega arith in ap (λ (i : ℕ). variable_type sight (var.Local i)) e ∙ h 0 ty refl

  pub left_typed : (n : ℕ) (xs ys : List StType) → AreTyped sight n (xs ++ ys) → AreTyped sight n xs
  left_typed n xs ys h k ty e = h k ty (in_left xs ys k ty e)

  pub right_typed : (n m : ℕ) (xs ys : List StType) → m ≡ n + length xs → AreTyped sight n (xs ++ ys) → AreTyped sight m ys
  right_typed n m xs ys e h k ty f =
      let at : m + k ≡ n + (length xs + k) = omega arith in
      ap (λ (i : ℕ). variable_type sight (var.Local i)) at ∙ h (length xs + k) ty (in_right xs ys k ∙ f)
