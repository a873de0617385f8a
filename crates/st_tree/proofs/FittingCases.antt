-- What fits a type and what does not, held against worked rows.
use Rattle.st_tree.proofs.Common.{ℕ, false, ℤ, pos, negsuc, List, [], ◌∷◌, codes, refl, Reg, activation_of, ActivationFits, IsOf, RegistersFit, StandsFor, all_zero, Value, StType, Local, Pou}
use Rattle.memory_areas.specs.declared.place.Area.TheVariants as place
use Rattle.s7_base.specs.declared.register.Reg.TheVariants as reg
use Rattle.st_tree.specs.declared.expr.StType.TheVariants as type
use Rattle.st_tree.specs.declared.state.Reference.TheVariants as reference

abbrev of : StType → ℤ → Value
of ty n = record { ty = ty; n = n }

-- Values

a_byte : IsOf type.Byte (of type.Byte (pos 255))
a_byte = record { type = refl; number = refl }

no_byte : IsOf type.Byte (of type.Byte (pos 256)) → ⊥
no_byte h = let e = h.number in cc

-- a bit type has no number below 0, and a number type has
no_word_below_zero : IsOf type.Word (of type.Word (negsuc 0)) → ⊥
no_word_below_zero h = let e = h.number in cc

the_least_lint : IsOf type.Lint (of type.Lint (negsuc 9223372036854775807))
the_least_lint = record { type = refl; number = refl }

-- a value says its type
no_int : IsOf type.Int (of type.Word (pos 1)) → ⊥
no_int h = let e = h.type in cc

-- Registers

zeros_fit : RegistersFit all_zero
zeros_fit reg.Accu1 = refl
zeros_fit r = refl

abbrev twos : Reg → ℤ
twos r = pos 2

-- RLO is a BOOL
no_twos : RegistersFit twos → ⊥
no_twos h = let e = h reg.Rlo in cc

-- Activations: a function with a formal and a local, both INT, called by one with a local of each of two types

abbrev local : List ℕ → StType → Local
local name ty = record { name = name; ty = ty }

abbrev unit_of : List Local → List Local → Pou
unit_of formals locals =
    record { program = false; name = codes "F"; formals = formals; locals = locals; body = [] }

abbrev caller : Pou
caller = unit_of [] (local (codes "a") type.Dint ∷ local (codes "b") type.Int ∷ [])

abbrev callee : Pou
callee = unit_of (local (codes "x") type.Int ∷ []) (local (codes "y") type.Int ∷ [])

abbrev waiting : List Pou
waiting = caller ∷ []

a_local_of_the_caller : ActivationFits waiting callee (activation_of callee (reference.Local 0 1 ∷ []))
a_local_of_the_caller =
    record { locals = (record { type = refl; number = refl }, tt); formals = (refl, tt) }

a_place_in_its_type : StandsFor waiting type.Int (reference.Place (record { area = place.M; byte = 0; bit = 0 }) type.Int)
a_place_in_its_type = refl

-- a formal stands for nothing of another type, nor for a local of its own unit
no_local_of_another_type : StandsFor waiting type.Int (reference.Local 0 0) → ⊥
no_local_of_another_type h = cc

no_own_local : StandsFor waiting type.Int (reference.Local 1 0) → ⊥
no_own_local h = cc

no_register_of_another_type : StandsFor waiting type.Int (reference.Register reg.Accu1) → ⊥
no_register_of_another_type h = cc

-- each formal stands for something
no_missing_actual : ActivationFits waiting callee (activation_of callee []) → ⊥
no_missing_actual h = h.formals
