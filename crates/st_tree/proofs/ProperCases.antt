-- The rules of types and of proper trees, held against worked rows; and a whole tree that keeps them all.
use Rattle.st_tree.proofs.Common.{◌≡◌, ℕ, zero, suc, ◌≤◌, ◌<◌, true, false, pos, negsuc, List, [], ◌∷◌, codes, map, slice_get, replicate, All, Some, None, refl, sym, subst, arith, All-cons, All-nil, All-replicate, length-replicate, digits, IsMemoryOf, IsSized, fresh, DataBlock, ACTIVATIONS, INPUT_BYTES, MARKER_BYTES, OUTPUT_BYTES, Call, chain_of, are_apart, is_free, is_name, key_of, may_name_local, may_name_unit, calls_in, body_nesting, expression_nesting, IsDataBlock, IsFormal, IsGlobal, IsLocal, IsProperUnit, Proper, outer_keys, Fits, FitsSt, state_at_start, unit_called, UnitScope, are_well_typed, expression_type, head_of, is_well_typed, Expr, StType, Local, Located, Pou, StProgram, Stmt}
use Rattle.memory_areas.specs.Areas.{IsArea}
use Rattle.memory_areas.specs.declared.place.Area.TheVariants as place
use Rattle.memory_areas.specs.declared.place.AreaName.TheVariants as area
use Rattle.s7_base.specs.declared.register.Reg.TheVariants as reg
use Rattle.s7_base.specs.declared.word.Width.TheVariants as width
use Rattle.memory_areas.specs.declared.call.BlockName.TheVariants.{Ob}
use Rattle.st_tree.specs.Depth.{deepest}
use Rattle.st_tree.specs.WellTyped.{unit_scope_of}
use Rattle.st_tree.specs.declared.expr.BinaryOp.TheVariants as binary
use Rattle.st_tree.specs.declared.expr.Expr.TheVariants as expr
use Rattle.st_tree.specs.declared.expr.StType.TheVariants as type
use Rattle.st_tree.specs.declared.expr.UnaryOp.TheVariants as unary
use Rattle.st_tree.specs.declared.expr.Var.TheVariants as var
use Rattle.st_tree.specs.declared.program.Stmt.TheVariants as stmt
use Rattle.st_tree.proofs.FittingStart.{start_fits}
use Rattle.st_tree.proofs.PartEquations.{part_equations}
use Rattle.st_tree.proofs.TypingEquations.{good_equations, nesting_equations, typed_equations}

-- Names

next_names_a_local : may_name_local (codes "Next") ≡ true
next_names_a_local = refl

next_is_not_free : is_free (codes "Next") ≡ false
next_is_not_free = refl

a_block_names_no_unit : may_name_unit (codes "db05") ≡ false
a_block_names_no_unit = refl

a_number_names_a_unit : may_name_unit (codes "fc05") ≡ true
a_number_names_a_unit = refl

conversions_are_reserved : is_name (codes "int_to_dint") ≡ false
conversions_are_reserved = refl

no_conversion_to_itself : is_name (codes "int_to_int") ≡ true
no_conversion_to_itself = refl

zeros_of_blocks_say_nothing : are_apart (key_of (codes "DB5") ∷ key_of (codes "db05") ∷ []) ≡ false
unfolding key_of
zeros_of_blocks_say_nothing = refl

zeros_of_units_count : are_apart (key_of (codes "FC5") ∷ key_of (codes "FC05") ∷ []) ≡ true
unfolding key_of
zeros_of_units_count = refl

-- The tree: DB 7, a global, a function that the program calls

abbrev local : List ℕ → StType → Local
local name ty = record { name = name; ty = ty }

abbrev global : Located
global = record { name = codes "Level"; place = record { area = place.M; byte = 10; bit = 0 }; ty = type.Int }

abbrev block : DataBlock
block = record { number = 7; bytes = 1 ∷ 255 ∷ [] }

abbrev formal_read : Expr
formal_read = expr.Read (var.Formal 0)

-- the formal, and one more
abbrev one_more : Expr
one_more = expr.Binary binary.Add formal_read (expr.Literal type.Int (pos 1))

abbrev wait : Stmt
wait = stmt.While (expr.Read (var.Register reg.Rlo)) (stmt.Assign (var.Formal 0) one_more ∷ stmt.Exit ∷ [])

abbrev counter : Pou
counter =
    record {
      program = false;
      name = codes "Count";
      formals = local (codes "n") type.Int ∷ [];
      locals = [];
      body = wait ∷ [];
    }

abbrev main : Pou
main =
    record {
      program = true;
      name = codes "OB1";
      formals = [];
      locals = local (codes "NEXT") type.Int ∷ [];
      body = stmt.Invoke 0 (var.Global 0 ∷ []) ∷ stmt.Assign (var.Local 0) (expr.Read (var.Global 0)) ∷ [];
    }

abbrev tree : StProgram
tree = record { dbs = block ∷ []; globals = global ∷ []; pous = counter ∷ main ∷ [] }

abbrev seen_by : Pou → UnitScope
seen_by unit = unit_scope_of tree.globals (map head_of tree.pous) unit

-- Types

a_sum_of_ints : expression_type (seen_by counter) one_more ≡ Some type.Int
a_sum_of_ints = simp typed_equations

-- a DINT literal is no INT
no_mixed_sum : expression_type (seen_by counter) (expr.Binary binary.Add formal_read (expr.Literal type.Dint (pos 1)))
    ≡ None
no_mixed_sum = simp typed_equations

-- 32,768 is no INT
no_great_int : expression_type (seen_by counter) (expr.Literal type.Int (pos 32768)) ≡ None
no_great_int = simp typed_equations

the_least_int : expression_type (seen_by counter) (expr.Literal type.Int (negsuc 32767)) ≡ Some type.Int
the_least_int = simp typed_equations

-- a bit has no number above 7, a word none above 0
no_ninth_bit : expression_type (seen_by counter) (expr.Read (var.Direct area.M 0 8 width.Bit)) ≡ None
no_ninth_bit = simp typed_equations

no_bit_of_a_word : expression_type (seen_by counter) (expr.Read (var.Direct area.M 0 1 width.Word)) ≡ None
no_bit_of_a_word = simp typed_equations

-- `%LW255` does not lie in the 256 bytes, `%DBD65535` may
no_word_at_the_end : expression_type (seen_by counter) (expr.Read (var.Direct area.L 255 0 width.Word)) ≡ None
no_word_at_the_end = simp typed_equations

a_far_dword : expression_type (seen_by counter) (expr.Read (var.Direct area.Db 65535 0 width.Dword)) ≡ Some type.Dword
a_far_dword = simp typed_equations

-- a local hides the global of its name, in any case
hidden : expression_type (record (seen_by counter) { locals = local (codes "LEVEL") type.Int ∷ [] })
    (expr.Read (var.Global 0)) ≡ None
unfolding key_of
hidden = simp typed_equations

not_hidden : expression_type (seen_by counter) (expr.Read (var.Global 0)) ≡ Some type.Int
unfolding key_of
not_hidden = simp typed_equations

-- there is no conversion of a type to itself
no_same_conversion : expression_type (seen_by counter) (expr.Convert type.Int type.Int formal_read) ≡ None
no_same_conversion = simp typed_equations

-- EXIT stands inside a WHILE, and an IF and a CASE have arms
no_exit_outside : is_well_typed (seen_by counter) stmt.Exit false ≡ false
no_exit_outside = simp good_equations

no_if_without_arms : is_well_typed (seen_by counter) (stmt.If [] []) false ≡ false
no_if_without_arms = simp good_equations

no_case_without_arms : is_well_typed (seen_by counter) (stmt.Case formal_read [] []) false ≡ false
no_case_without_arms = simp good_equations

-- a program is not called, and each formal is given something
no_call_of_a_program : is_well_typed (seen_by counter) (stmt.Invoke 1 []) false ≡ false
unfolding key_of
no_call_of_a_program = simp good_equations

no_call_without_actuals : is_well_typed (seen_by main) (stmt.Invoke 0 []) false ≡ false
unfolding key_of
no_call_without_actuals = simp good_equations

-- Nesting

-- `-(a + 1) + a`: the bracket stands in the minus, and the tree to the left of the last `+` is three high
three_deep : expression_nesting (expr.Binary binary.Add (expr.Unary unary.Minus one_more) formal_read) ≡ 3
three_deep = simp nesting_equations

-- The tree is proper

global_is : IsGlobal global
global_is = record { name = refl; free = refl; type = λ e. cc; place = refl }

formal_is : IsFormal (local (codes "n") type.Int)
formal_is = record { name = refl; free = refl; type = λ e. cc }

local_is : IsLocal (local (codes "NEXT") type.Int)
local_is = record { name = refl; free = refl }

counter_typed : are_well_typed (seen_by counter) false counter.body ≡ true
counter_typed = simp good_equations

main_typed : are_well_typed (seen_by main) false main.body ≡ true
unfolding key_of
main_typed = simp good_equations

counter_nests : body_nesting counter.body ≡ 2
counter_nests = simp nesting_equations

main_nests : body_nesting main.body ≡ 1
main_nests = simp nesting_equations

counter_apart : are_apart (key_of (codes "n") ∷ []) ≡ true
unfolding key_of
counter_apart = refl

main_apart : are_apart (key_of (codes "NEXT") ∷ []) ≡ true
unfolding key_of
main_apart = refl

all_apart : are_apart (outer_keys tree) ≡ true
unfolding key_of
all_apart = refl

counter_is : IsProperUnit tree.globals (map head_of tree.pous) counter
counter_is =
    record {
      name = refl;
      free = refl;
      program = λ e. cc;
      formals = All-cons IsFormal (local (codes "n") type.Int) [] formal_is (All-nil IsFormal);
      locals = All-nil IsLocal;
      apart = counter_apart;
      typed = counter_typed;
      nesting = subst (λ (n : ℕ). n ≤ deepest) (sym counter_nests) (omega arith);
    }

main_is : IsProperUnit tree.globals (map head_of tree.pous) main
main_is =
    record {
      name = refl;
      free = refl;
      program = λ e. refl;
      formals = All-nil IsFormal;
      locals = All-cons IsLocal (local (codes "NEXT") type.Int) [] local_is (All-nil IsLocal);
      apart = main_apart;
      typed = main_typed;
      nesting = subst (λ (n : ℕ). n ≤ deepest) (sym main_nests) (omega arith);
    }

one_long : chain_of tree 0 ≡ 1
one_long = simp part_equations

calls_of_counter : calls_in counter.body ≡ []
calls_of_counter = simp part_equations

calls_of_main : calls_in main.body ≡ (0, var.Global 0 ∷ []) ∷ []
calls_of_main = simp part_equations

two_long : chain_of tree 1 ≡ 2
two_long = simp (calls_of_main, calls_of_counter)

chains : (n : ℕ) (unit : Pou) → slice_get tree.pous n ≡ Some unit → chain_of tree n ≤ ACTIVATIONS
chains zero unit e = subst (λ (n : ℕ). n ≤ ACTIVATIONS) (sym one_long) (omega arith)
chains (suc zero) unit e = subst (λ (n : ℕ). n ≤ ACTIVATIONS) (sym two_long) (omega arith)
chains (suc (suc n)) unit e = cc

abbrev IsUnit : Pou → Type 0
IsUnit unit = IsProperUnit tree.globals (map head_of tree.pous) unit

two_bytes : All (λ b. b < 256) (1 ∷ 255 ∷ [])
two_bytes =
    All-cons (λ b. b < 256) 1 (255 ∷ []) (omega arith)
    (All-cons (λ b. b < 256) 255 [] (omega arith) (All-nil (λ b. b < 256)))

is_proper : Proper tree
is_proper =
    record {
      blocks =
          record {
            ascend = (omega arith, tt);
            few = omega arith;
            sized = All-cons IsSized block [] (omega arith, omega arith) (All-nil IsSized);
          };
      bytes =
          All-cons IsDataBlock block []
          (record {
            number = omega arith;
            bytes = two_bytes;
          })
          (All-nil IsDataBlock);
      globals = All-cons IsGlobal global [] global_is (All-nil IsGlobal);
      apart = all_apart;
      some = λ e. cc;
      units = All-cons IsUnit counter (main ∷ []) counter_is (All-cons IsUnit main [] main_is (All-nil IsUnit));
      chains = chains;
    }

-- A call of it begins in a state that fits

abbrev call : Call
call = record { block = Ob 1; instance = 0; actuals = [] }

zeros : (size : ℕ) → IsArea size (replicate size 0)
zeros size =
    record { sized = length-replicate size 0; bytes = All-replicate (λ b. b < 256) size 0 (omega arith) }

its_memory : IsMemoryOf tree.dbs (fresh tree.dbs).areas
its_memory =
    record {
      inputs = zeros INPUT_BYTES;
      outputs = zeros OUTPUT_BYTES;
      markers = zeros MARKER_BYTES;
      matching = (refl, record { sized = refl; bytes = two_bytes }, tt);
    }

main_is_called : unit_called call.block tree.pous ≡ Some main
unfolding digits
main_is_called = refl

call_fits : FitsSt tree call
unfolding digits
call_fits = tt

start_of_main : Fits tree [] main (state_at_start main call (fresh tree.dbs).areas)
start_of_main = start_fits tree call main (fresh tree.dbs).areas is_proper main_is_called call_fits its_memory
