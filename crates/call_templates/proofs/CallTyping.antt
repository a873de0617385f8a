-- The statements of calls are well typed, nest little, and pass no register variable.
use Rattle.std.proofs.Common.{◌≡◌, ℕ, ◌+◌, ◌^◌, ◌==◌, ◌<◌, ◌≤◌, pos, Bool, true, false, not, if◌then◌else◌, ◌&&◌, List, [], ◌∷◌, ◌++◌, length, map, Option, Some, None, refl, sym, ap, subst, ◌∙◌, arith}
use Rattle.std.specs.Prelude.{All, is_none, nat_le, nat_lt}
use Rattle.std.specs.List.{flat_map}
use Rattle.std.proofs.lemmas.Bool.{le-leb, ltb-false}
use Rattle.std.proofs.lemmas.Bool.Decides.{nat_tests}
use Rattle.std.proofs.lemmas.Int.{ints}
use Rattle.std.proofs.lemmas.List.Elements.{All-append, All-cons, All-head, All-nil, All-tail}
use Rattle.call_templates.specs.CallLaw.{IsCallOf, IsPlainCall, IsUnitCalled, widths_inside}
use Rattle.call_templates.specs.Calls.{call_of, constants_set, copies, copy_back, copy_in, end_word_of, function_block_call_of, function_call_of, in_instance, number_of_width, opened_call_of, operands_read, put_back_of, saved_of, types_of_call, types_of_constants, types_of_operands, variable_of, variables_given}
use Rattle.graph_rules.proofs.Divisors as division
use Rattle.graph_rules.specs.Divisors.{IsSureDivisor, divisors_in, divisors_of}
use Rattle.graph_rules.specs.Plain.{IsGivenOn}
use Rattle.memory_areas.specs.Access.{bits_wide, bytes_wide, first_fault, is_byte_in, is_unaligned, or_none}
use Rattle.memory_areas.specs.Areas.{AreBlocks, IsSized, block_of, bytes_in}
use Rattle.memory_areas.specs.declared.data_block.DataBlock.{DataBlock}
use Rattle.memory_areas.specs.declared.place.AreaName.TheVariants as area
use Rattle.memory_areas.specs.declared.sizes.TheConstants.{MOST_BLOCK_BYTES}
use Rattle.s7_base.specs.declared.outcome.Fault.TheVariants.{Alignment, AreaCode, AreaLength, DbMissing, DbNotOpen}
use Rattle.s7_base.specs.declared.register.Reg.TheVariants as reg
use Rattle.s7_base.specs.declared.word.Width.{Width}
use Rattle.s7_base.specs.declared.word.Width.TheVariants as width
use Rattle.stl_tree.specs.Accepted.{AreActuals, IsActual, IsBlockOpened, IsOperand, LiesInInstance, Widths, is_written}
use Rattle.stl_tree.specs.Calls.{is_given_back, is_taken}
use Rattle.stl_tree.specs.declared.program.Actual.{Actual}
use Rattle.stl_tree.specs.declared.program.Actual.TheVariants as actual
use Rattle.stl_tree.specs.declared.program.BlockCall.{BlockCall}
use Rattle.stl_tree.specs.declared.program.Formal.{Formal}
use Rattle.stl_tree.specs.declared.program.Operand.{Operand}
use Rattle.stl_tree.specs.declared.program.Operand.TheVariants as operand
use Rattle.st_tree.proofs.PartEquations.{expressions_in_append, gathered_first}
use Rattle.st_tree.proofs.TypingEquations.{good_invoke, nesting_invoke}
use Rattle.st_tree.specs.BodyParts.{call_step, calls_in, expressions_in, expressions_step}
use Rattle.st_tree.specs.TypeRules.{is_type}
use Rattle.st_tree.specs.Values.{type_of_width}
use Rattle.st_tree.specs.WellTyped.{UnitScope, are_given, has_type, is_value, variable_type}
use Rattle.st_tree.specs.declared.expr.Expr.{Expr}
use Rattle.st_tree.specs.declared.expr.Expr.TheVariants as expr
use Rattle.st_tree.specs.declared.expr.StType.{StType}
use Rattle.st_tree.specs.declared.expr.StType.TheVariants as type
use Rattle.st_tree.specs.declared.expr.Var.{Var}
use Rattle.st_tree.specs.declared.expr.Var.TheVariants as var
use Rattle.st_tree.specs.declared.program.Local.{Local}
use Rattle.st_tree.specs.declared.program.Stmt.{Stmt}
use Rattle.st_tree.specs.declared.program.Stmt.TheOpen as S
use Rattle.st_tree.specs.declared.program.Stmt.TheVariants as stmt
use Rattle.template_parts.proofs.Obligations.{calls_in_parts, nesting_in_parts, plain_in_parts, well_typed_in_parts}
use Rattle.template_parts.proofs.Typing.{IsOf, assigned, cleared_plain, constant_is, direct_typed, first_typed, literal_is, local_is, local_plain, no_statement, read_is, register_is, right_typed, set_plain}
use Rattle.template_parts.specs.Builders.{constant_of, literal_of, local_of, read_of, set_local_of, set_of}
use Rattle.template_parts.specs.Templates.{AreTyped, HasFormals, IsLow, IsPlainBody}

-- Statements before and behind a call

module _ (sight : UnitScope) (unit : ℕ) where
  pub plain_before : (xs ys : List Stmt) → IsPlainBody sight xs → IsPlainCall sight unit ys → IsPlainCall sight unit (xs ++ ys)
  plain_before xs ys h k =
      record {
        typed = well_typed_in_parts sight xs ys h.typed k.typed;
        low = omega (arith, nesting_in_parts xs ys, h.low, k.low);
        high = subst (All IsLow) (sym (expressions_in_append xs ys)) (All-append IsLow (expressions_in xs) (expressions_in ys) h.high k.high);
        divisors = subst (All IsSureDivisor) (sym (division.in_parts xs ys)) (All-append IsSureDivisor (divisors_in xs) (divisors_in ys) h.divisors k.divisors);
        variables = k.variables;
        calls = calls_in_parts xs ys ∙ ap (λ (calls : List (ℕ × List Var)). calls ++ calls_in ys) h.calls ∙ k.calls;
        given = k.given;
      }

  plain_behind : (xs ys : List Stmt) → IsPlainCall sight unit xs → IsPlainBody sight ys → IsPlainCall sight unit (xs ++ ys)
  plain_behind xs ys h k =
      record {
        typed = well_typed_in_parts sight xs ys h.typed k.typed;
        low = omega (arith, nesting_in_parts xs ys, h.low, k.low);
        high = subst (All IsLow) (sym (expressions_in_append xs ys)) (All-append IsLow (expressions_in xs) (expressions_in ys) h.high k.high);
        divisors = subst (All IsSureDivisor) (sym (division.in_parts xs ys)) (All-append IsSureDivisor (divisors_in xs) (divisors_in ys) h.divisors k.divisors);
        variables = h.variables;
        calls =
            calls_in_parts xs ys ∙ ap (λ (calls : List (ℕ × List Var)). calls ++ calls_in ys) h.calls
            ∙ ap (λ (calls : List (ℕ × List Var)). (unit, h.variables) ∷ calls) k.calls;
        given = h.given;
      }

  -- the call itself
  plain_invoke : (widths : Widths) (vars : List Var) (h : IsUnitCalled sight unit widths) → are_given sight h.head.formals vars ≡ true
      → All IsGivenOn vars → IsPlainCall sight unit (stmt.Invoke unit vars ∷ [])
  plain_invoke widths vars h given on =
      let none : expressions_in (stmt.Invoke unit vars ∷ []) ≡ [] =
      gathered_first expressions_step (S.Invoke unit vars) (stmt.rolls-Invoke unit vars) [] in
      record {
        typed = rw (good_invoke sight false unit vars, h.there, h.function, h.seen, given) refl;
        low = omega (arith, nesting_invoke unit vars);
        high = subst (All IsLow) (sym none) (All-nil IsLow);
        divisors = subst (All IsSureDivisor) (sym (ap (flat_map divisors_of) none)) (All-nil IsSureDivisor);
        variables = vars;
        calls = gathered_first call_step (S.Invoke unit vars) (stmt.rolls-Invoke unit vars) [];
        given = on;
      }

-- Variables

-- a formal in an instance has the type of its width
abbrev pub InInstance : UnitScope → ℕ → Formal → Type 0
InInstance sight instance f = variable_type sight (in_instance instance f) ≡ Some (type_of_width f.width)

same_type : (ty : StType) → is_type ty ty ≡ true
same_type type.Bool = refl
same_type ty = refl

no_bit : (x : ℕ) → nat_lt 0 x ≡ false → (x == 0) ≡ true
no_bit x h = grind (arith, nat_tests)

bit_number : (x : ℕ) → nat_lt 7 x ≡ false → nat_le x 7 ≡ true
bit_number x h = grind (arith, nat_tests)

-- a number of a width is one of its type
number_is : (w : Width) (c : ℕ) → c < 2 ^ bits_wide w → is_value (type_of_width w) (pos c) ≡ true
number_is width.Bit c h = grind (arith, ints)
number_is width.Byte c h = grind (arith, ints)
number_is width.Word c h = grind (arith, ints)
number_is width.Dword c h = grind (arith, ints)

module _ (sight : UnitScope) where
  -- a place in a data block
  block_typed : (n byte x : ℕ) (w : Width) → IsBlockOpened n → is_byte_in area.Db w byte ≡ true → is_unaligned w x ≡ false
      → variable_type sight (var.InBlock n byte x w) ≡ Some (type_of_width w)
  block_typed n byte x w h inside bit = by w inside bit
    where
      least : nat_le 1 n ≡ true
      least = le-leb 1 n h.0

      most : nat_le n 65535 ≡ true
      most = le-leb n 65535 h.1

      by : (w : Width) → is_byte_in area.Db w byte ≡ true → is_unaligned w x ≡ false → variable_type sight (var.InBlock n byte x w) ≡ Some (type_of_width w)
      by width.Bit inside bit = rw (least, most, inside, bit_number x bit) refl
      by width.Byte inside bit = rw (least, most, inside, no_bit x bit) refl
      by width.Word inside bit = rw (least, most, inside, no_bit x bit) refl
      by width.Dword inside bit = rw (least, most, inside, no_bit x bit) refl

  operand_typed : (widths : Widths) (o : Operand) (w : Width) → HasFormals sight widths → is_written o ≡ true → IsOperand widths w o
      → variable_type sight (variable_of o w) ≡ Some (type_of_width w)
  operand_typed widths (operand.Direct a byte x) w named written is = direct_typed sight a byte x w is.0 is.1
  operand_typed widths (operand.Opened n byte x) w named written is = block_typed n byte x w is.0 is.1 is.2
  operand_typed widths (operand.Formal k) w named written is = named k w is
  operand_typed widths o w named written is = cc

  -- Around a call

  end_plain : IsPlainBody sight end_word_of
  end_plain =
      cleared_plain sight false (set_of reg.Os (literal_of false) ∷ [])
      (set_plain sight reg.Os (literal_of false) [] (omega arith) (literal_is sight false) (no_statement sight))

  module _ (first : ℕ) (types : List StType) (own : AreTyped sight first (type.Word ∷ type.Word ∷ types)) where
    db_typed : variable_type sight (var.Local first) ≡ Some type.Word
    db_typed = first_typed sight first type.Word (type.Word ∷ types) own

    di_typed : variable_type sight (var.Local (first + 1)) ≡ Some type.Word
    di_typed = first_typed sight (first + 1) type.Word types (right_typed sight first (first + 1) (type.Word ∷ []) (type.Word ∷ types) refl own)

    saved_plain : IsPlainBody sight (saved_of first)
    saved_plain =
        local_plain sight first (read_of reg.DbNo) (stmt.Assign (var.Local (first + 1)) (read_of reg.DiNo) ∷ []) (omega arith) db_typed
        (register_is sight reg.DbNo)
        (local_plain sight (first + 1) (read_of reg.DiNo) [] (omega arith) di_typed (register_is sight reg.DiNo) (no_statement sight))

    put_back_plain : IsPlainBody sight (put_back_of first)
    put_back_plain =
        set_plain sight reg.DbNo (local_of first) (set_of reg.DiNo (local_of (first + 1)) ∷ []) (omega arith) (local_is sight db_typed)
        (set_plain sight reg.DiNo (local_of (first + 1)) [] (omega arith) (local_is sight di_typed) (no_statement sight))

    behind_typed : AreTyped sight (first + 2) types
    behind_typed = right_typed sight first (first + 2) (type.Word ∷ type.Word ∷ []) types refl own

  -- Actuals

  module _ (widths : Widths) (named : HasFormals sight widths) (optional : Bool) where
    abbrev Right : List Formal → List Actual → Type 0
    Right = AreActuals widths optional

    constants_plain : (formals : List Formal) (actuals : List Actual) (next : ℕ) → Right formals actuals
        → AreTyped sight next (types_of_constants formals actuals) → IsPlainBody sight (constants_set next formals actuals)
    constants_plain [] actuals next are own = no_statement sight
    constants_plain (f ∷ formals) [] next are own = no_statement sight
    constants_plain (f ∷ formals) (actual.Constant c ∷ actuals) next are own =
        local_plain sight next (number_of_width f.width c) (constants_set (next + 1) formals actuals) (omega arith)
        (first_typed sight next (type_of_width f.width) (types_of_constants formals actuals) own) (constant_is sight (number_is f.width c are.0.1))
        (constants_plain formals actuals (next + 1) are.1
        (right_typed sight next (next + 1) (type_of_width f.width ∷ []) (types_of_constants formals actuals) refl own))
    constants_plain (f ∷ formals) (actual.At o ∷ actuals) next are own = constants_plain formals actuals next are.1 own
    constants_plain (f ∷ formals) (actual.Missing ∷ actuals) next are own = constants_plain formals actuals next are.1 own

    operands_plain : (formals : List Formal) (actuals : List Actual) (next : ℕ) → Right formals actuals
        → AreTyped sight next (types_of_operands formals actuals) → IsPlainBody sight (operands_read next formals actuals)
    operands_plain [] actuals next are own = no_statement sight
    operands_plain (f ∷ formals) [] next are own = no_statement sight
    operands_plain (f ∷ formals) (actual.At o ∷ actuals) next are own =
        local_plain sight next (expr.Read (variable_of o f.width)) (operands_read (next + 1) formals actuals) (omega arith)
        (first_typed sight next (type_of_width f.width) (types_of_operands formals actuals) own)
        (read_is sight (variable_of o f.width) (operand_typed widths o f.width named are.0.0 are.0.1))
        (operands_plain formals actuals (next + 1) are.1
        (right_typed sight next (next + 1) (type_of_width f.width ∷ []) (types_of_operands formals actuals) refl own))
    operands_plain (f ∷ formals) (actual.Constant c ∷ actuals) next are own = operands_plain formals actuals next are.1 own
    operands_plain (f ∷ formals) (actual.Missing ∷ actuals) next are own = operands_plain formals actuals next are.1 own

    -- copies, where each formal lies in its instance
    module _ (instance : ℕ) where
      abbrev Inside : Formal → Type 0
      Inside = InInstance sight instance

      one_copy : (b : Bool) (v : Var) (e : Expr) (w : Width) → variable_type sight v ≡ Some (type_of_width w) → IsOf sight (type_of_width w) 1 e
          → IsPlainBody sight (if b then stmt.Assign v e ∷ [] else [])
      one_copy true v e w typed is = assigned sight v e [] (omega arith) typed is (no_statement sight)
      one_copy false v e w typed is = no_statement sight

      taking_plain : (f : Formal) (a : Actual) → Inside f → IsActual widths optional f a → IsPlainBody sight (copy_in instance f a)
      taking_plain f actual.Missing inside is = no_statement sight
      taking_plain f (actual.Constant c) inside is =
          one_copy (is_taken f.mode) (in_instance instance f) (number_of_width f.width c) f.width inside (constant_is sight (number_is f.width c is.1))
      taking_plain f (actual.At o) inside is =
          one_copy (is_taken f.mode) (in_instance instance f) (expr.Read (variable_of o f.width)) f.width inside
          (read_is sight (variable_of o f.width) (operand_typed widths o f.width named is.0 is.1))

      giving_plain : (f : Formal) (a : Actual) → Inside f → IsActual widths optional f a → IsPlainBody sight (copy_back instance f a)
      giving_plain f actual.Missing inside is = no_statement sight
      giving_plain f (actual.Constant c) inside is = no_statement sight
      giving_plain f (actual.At o) inside is =
          one_copy (is_given_back f.mode) (variable_of o f.width) (expr.Read (in_instance instance f)) f.width
          (operand_typed widths o f.width named is.0 is.1) (read_is sight (in_instance instance f) inside)

      copies_plain : (copy : Formal → Actual → List Stmt)
          → ((f : Formal) (a : Actual) → Inside f → IsActual widths optional f a → IsPlainBody sight (copy f a))
          → (formals : List Formal) (actuals : List Actual) → Right formals actuals → All Inside formals → IsPlainBody sight (copies copy formals actuals)
      copies_plain copy each [] actuals are inside = no_statement sight
      copies_plain copy each (f ∷ formals) [] are inside = no_statement sight
      copies_plain copy each (f ∷ formals) (a ∷ actuals) are inside =
          plain_in_parts sight (copy f a) (copies copy formals actuals) (each f a (All-head Inside f formals inside) are.0)
          (copies_plain copy each formals actuals are.1 (All-tail Inside f formals inside))

  -- what a function is given

  is_given : (ty other : StType) (o : Option StType) → o ≡ Some other → ty ≡ other → has_type ty o ≡ true
  is_given ty other None e f = cc
  is_given ty other (Some found) e f = let same : found ≡ ty = cc in subst (λ (t : StType). is_type t ty ≡ true) (sym same) (same_type ty)

  both_true : (a b : Bool) → a ≡ true → b ≡ true → a && b ≡ true
  both_true true b h k = k
  both_true false b h k = cc

  all_given : (widths : Widths) → HasFormals sight widths → (locals : List Local) (formals : List Formal) (actuals : List Actual) (next : ℕ)
      → map (λ (l : Local). l.ty) locals ≡ map type_of_width (map (λ (f : Formal). f.width) formals) → AreActuals widths false formals actuals
      → AreTyped sight next (types_of_constants formals actuals) → are_given sight locals (variables_given next formals actuals) ≡ true
  all_given widths named [] [] [] next types are own = refl
  all_given widths named (l ∷ locals) [] [] next types are own = cc
  all_given widths named locals [] (a ∷ actuals) next types are own = absurd are
  all_given widths named locals (f ∷ formals) [] next types are own = absurd are
  all_given widths named [] (f ∷ formals) (a ∷ actuals) next types are own = cc
  all_given widths named (l ∷ locals) (f ∷ formals) (actual.Missing ∷ actuals) next types are own = absurd cc
  all_given widths named (l ∷ locals) (f ∷ formals) (actual.Constant c ∷ actuals) next types are own =
      let same : l.ty ≡ type_of_width f.width = cc in
      let others : map (λ (l : Local). l.ty) locals ≡ map type_of_width (map (λ (f : Formal). f.width) formals) = cc in
      both_true (has_type l.ty (variable_type sight (var.Local next))) (are_given sight locals (variables_given (next + 1) formals actuals))
      (is_given l.ty (type_of_width f.width) (variable_type sight (var.Local next))
      (first_typed sight next (type_of_width f.width) (types_of_constants formals actuals) own) same)
      (all_given widths named locals formals actuals (next + 1) others are.1
      (right_typed sight next (next + 1) (type_of_width f.width ∷ []) (types_of_constants formals actuals) refl own))
  all_given widths named (l ∷ locals) (f ∷ formals) (actual.At o ∷ actuals) next types are own =
      let same : l.ty ≡ type_of_width f.width = cc in
      let others : map (λ (l : Local). l.ty) locals ≡ map type_of_width (map (λ (f : Formal). f.width) formals) = cc in
      both_true (has_type l.ty (variable_type sight (variable_of o f.width))) (are_given sight locals (variables_given next formals actuals))
      (is_given l.ty (type_of_width f.width) (variable_type sight (variable_of o f.width)) (operand_typed widths o f.width named are.0.0 are.0.1) same)
      (all_given widths named locals formals actuals next others are.1 own)

-- no register variable is given
given_on : (formals : List Formal) (actuals : List Actual) (next : ℕ) → All IsGivenOn (variables_given next formals actuals)
given_on [] actuals next = All-nil IsGivenOn
given_on (f ∷ formals) [] next = All-nil IsGivenOn
given_on (f ∷ formals) (actual.Constant c ∷ actuals) next =
    All-cons IsGivenOn (var.Local next) (variables_given (next + 1) formals actuals) tt (given_on formals actuals (next + 1))
given_on (f ∷ formals) (actual.At o ∷ actuals) next =
    All-cons IsGivenOn (variable_of o f.width) (variables_given next formals actuals) (no_register o f.width) (given_on formals actuals next)
  where
    no_register : (o : Operand) (w : Width) → IsGivenOn (variable_of o w)
    no_register (operand.Direct a byte x) w = tt
    no_register (operand.Opened n byte x) w = tt
    no_register (operand.Formal k) w = tt
    no_register o w = tt
given_on (f ∷ formals) (actual.Missing ∷ actuals) next = given_on formals actuals next

-- Instances

-- a data block has no more bytes than one may have
not_long : (blocks : List DataBlock) (n : ℕ) → All IsSized blocks → length (or_none (bytes_in (block_of n blocks))) ≤ MOST_BLOCK_BYTES
not_long [] n sized = omega arith
not_long (b ∷ blocks) n sized =
    by (b.number == n) (All-head IsSized b blocks sized).1 (not_long blocks n (All-tail IsSized b blocks sized))
  where
    by : (t : Bool) → length b.bytes ≤ MOST_BLOCK_BYTES → length (or_none (bytes_in (block_of n blocks))) ≤ MOST_BLOCK_BYTES
        → length (or_none (bytes_in (if t then Some b else block_of n blocks))) ≤ MOST_BLOCK_BYTES
    by true h others = h
    by false h others = others

-- an access without a fault has a bit number that its width has, and its bytes
passes : (a b c d : Bool)
    → first_fault ((a, DbNotOpen) ∷ (b, DbMissing) ∷ (false, AreaCode) ∷ (c, Alignment) ∷ (d, AreaLength) ∷ []) ≡ None → (c ≡ false) × (d ≡ false)
passes false false false false e = (refl, refl)
passes a b c d e = cc

module _ (sight : UnitScope) (dbs : List DataBlock) (blocks : AreBlocks dbs) (instance : ℕ) (number : IsBlockOpened instance) where
  instance_typed : (f : Formal) → LiesInInstance dbs instance f → InInstance sight instance f
  instance_typed f lies =
      let size : ℕ = length (or_none (bytes_in (block_of instance dbs))) in
      let tests = passes (instance == 0) (is_none (block_of instance dbs)) (is_unaligned f.width f.bit) (nat_lt size (f.byte + bytes_wide f.width)) lies in
      let inside : f.byte + bytes_wide f.width ≤ size = ltb-false size (f.byte + bytes_wide f.width) tests.1 in
      let most : size ≤ MOST_BLOCK_BYTES = not_long dbs instance blocks.sized in
      block_typed sight instance f.byte f.bit f.width number (le-leb f.byte 65535 (omega arith)) tests.0

  all_inside : (formals : List Formal) → All (LiesInInstance dbs instance) formals → All (InInstance sight instance) formals
  all_inside [] lie = All-nil (InInstance sight instance)
  all_inside (f ∷ formals) lie =
      All-cons (InInstance sight instance) f formals (instance_typed f (All-head (LiesInInstance dbs instance) f formals lie))
      (all_inside formals (All-tail (LiesInInstance dbs instance) f formals lie))

-- Whole calls

module _ (sight : UnitScope) (widths : Widths) (named : HasFormals sight widths) (first unit : ℕ) (formals : List Formal) (actuals : List Actual) where
  function_plain : AreActuals widths false formals actuals → IsUnitCalled sight unit (map (λ (f : Formal). f.width) formals)
      → AreTyped sight first (type.Word ∷ type.Word ∷ types_of_constants formals actuals)
      → IsPlainCall sight unit (function_call_of first unit formals actuals)
  function_plain are called own =
      let types : List StType = types_of_constants formals actuals in
      let behind : AreTyped sight (first + 2) types = behind_typed sight first types own in
      let vars : List Var = variables_given (first + 2) formals actuals in
      plain_before sight unit ((saved_of first ++ constants_set (first + 2) formals actuals) ++ end_word_of) (stmt.Invoke unit vars ∷ put_back_of first)
      (plain_in_parts sight (saved_of first ++ constants_set (first + 2) formals actuals) end_word_of
      (plain_in_parts sight (saved_of first) (constants_set (first + 2) formals actuals) (saved_plain sight first types own)
      (constants_plain sight widths named false formals actuals (first + 2) are behind)) (end_plain sight))
      (plain_behind sight unit (stmt.Invoke unit vars ∷ []) (put_back_of first)
      (plain_invoke sight unit (map (λ (f : Formal). f.width) formals) vars called
      (all_given sight widths named called.head.formals formals actuals (first + 2) called.formals are behind) (given_on formals actuals (first + 2)))
      (put_back_plain sight first types own))

  none_given : (locals : List Local) → map (λ (l : Local). l.ty) locals ≡ [] → are_given sight locals [] ≡ true
  none_given [] e = refl
  none_given (l ∷ locals) e = cc

  block_plain : (instance : ℕ) → IsBlockOpened instance → AreActuals widths true formals actuals → All (InInstance sight instance) formals
      → IsUnitCalled sight unit [] → AreTyped sight first (type.Word ∷ type.Word ∷ types_of_operands formals actuals)
      → IsPlainCall sight unit (function_block_call_of first unit instance formals actuals)
  block_plain instance number are inside called own =
      let types : List StType = types_of_operands formals actuals in
      let behind : AreTyped sight (first + 2) types = behind_typed sight first types own in
      let fetches : List Stmt = saved_of first ++ operands_read (first + 2) formals actuals in
      let takings : List Stmt = copies (copy_in instance) formals actuals in
      let most : instance ≤ 65535 = number.1 in
      plain_behind sight unit (((fetches ++ takings) ++ end_word_of) ++ opened_call_of first unit instance) (copies (copy_back instance) formals actuals)
      (plain_before sight unit ((fetches ++ takings) ++ end_word_of) (opened_call_of first unit instance)
      (plain_in_parts sight (fetches ++ takings) end_word_of
      (plain_in_parts sight fetches takings
      (plain_in_parts sight (saved_of first) (operands_read (first + 2) formals actuals) (saved_plain sight first types own)
      (operands_plain sight widths named true formals actuals (first + 2) are behind))
      (copies_plain sight widths named true instance (copy_in instance) (taking_plain sight widths named true instance) formals actuals are inside))
      (end_plain sight))
      (plain_before sight unit (set_of reg.DiNo (constant_of type.Word (pos instance)) ∷ []) (stmt.Invoke unit [] ∷ put_back_of first)
      (set_plain sight reg.DiNo (constant_of type.Word (pos instance)) [] (omega arith)
      (constant_is sight (number_is width.Word instance (omega arith))) (no_statement sight))
      (plain_behind sight unit (stmt.Invoke unit [] ∷ []) (put_back_of first)
      (plain_invoke sight unit [] [] called (none_given called.head.formals called.formals) (All-nil IsGivenOn)) (put_back_plain sight first types own))))
      (copies_plain sight widths named true instance (copy_back instance) (giving_plain sight widths named true instance) formals actuals are inside)

pub call_plain : (first unit : ℕ) (formals : List Formal) (c : BlockCall) (sight : UnitScope) (dbs : List DataBlock) (widths : Widths) → AreBlocks dbs
    → IsCallOf dbs widths formals c → HasFormals sight widths → IsUnitCalled sight unit (widths_inside c formals)
    → AreTyped sight first (types_of_call formals c) → IsPlainCall sight unit (call_of first unit formals c)
call_plain first unit formals c sight dbs widths blocks right named called own = by (c.instance == 0) refl right.actuals called own
  where
    by : (b : Bool) → (c.instance == 0) ≡ b → AreActuals widths (not b) formals c.actuals
        → IsUnitCalled sight unit (if b then map (λ (f : Formal). f.width) formals else [])
        → AreTyped sight first
        (type.Word ∷ type.Word ∷ (if b then types_of_constants formals c.actuals else types_of_operands formals c.actuals))
        → IsPlainCall sight unit
        (if b then function_call_of first unit formals c.actuals else function_block_call_of first unit c.instance formals c.actuals)
    by true e are called own = function_plain sight widths named first unit formals c.actuals are called own
    by false e are called own =
        block_plain sight widths named first unit formals c.actuals c.instance (right.number e) are
        (all_inside sight dbs blocks c.instance (right.number e) formals (right.lies e)) called own

-- Those of CC: in its IF, and before it

module _ (sight : UnitScope) (unit : ℕ) (called : IsUnitCalled sight unit []) (first : ℕ) (types : List StType)
    (own : AreTyped sight first (type.Bool ∷ type.Word ∷ type.Word ∷ types)) where
  abbrev numbers_typed : AreTyped sight (first + 1) (type.Word ∷ type.Word ∷ types)
  numbers_typed = right_typed sight first (first + 1) (type.Bool ∷ []) (type.Word ∷ type.Word ∷ types) refl own

  pub question_typed : variable_type sight (var.Local first) ≡ Some type.Bool
  question_typed = first_typed sight first type.Bool (type.Word ∷ type.Word ∷ types) own

  pub asking_plain : IsPlainBody sight (set_local_of first (read_of reg.Rlo) ∷ set_of reg.Rlo (literal_of true) ∷ end_word_of)
  asking_plain =
      local_plain sight first (read_of reg.Rlo) (set_of reg.Rlo (literal_of true) ∷ end_word_of) (omega arith) question_typed (register_is sight reg.Rlo)
      (set_plain sight reg.Rlo (literal_of true) end_word_of (omega arith) (literal_is sight true) (end_plain sight))

  pub guarded_plain : IsPlainCall sight unit (saved_of (first + 1) ++ stmt.Invoke unit [] ∷ put_back_of (first + 1))
  guarded_plain =
      plain_before sight unit (saved_of (first + 1)) (stmt.Invoke unit [] ∷ put_back_of (first + 1)) (saved_plain sight (first + 1) types numbers_typed)
      (plain_behind sight unit (stmt.Invoke unit [] ∷ []) (put_back_of (first + 1))
      (plain_invoke sight unit [] [] called (none_given sight [] (λ k w e. cc) first unit [] [] called.head.formals called.formals) (All-nil IsGivenOn))
      (put_back_plain sight (first + 1) types numbers_typed))
