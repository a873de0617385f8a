-- The tables by which globals are found: places as keys, those that a text names, and the number of each global.
use Rattle.std.specs.Prelude.{◌≡◌, ℕ, suc, Bool, ◌&&◌, nat_eq, List, [], ◌∷◌, ◌++◌, fold}
use Rattle.std.specs.Map.{lookup}
use Rattle.indexmap.specs.IndexSet.{insert_key}
use Rattle.memory_areas.specs.Access.{code_of}
use Rattle.memory_areas.specs.declared.place.Area.{Area}
use Rattle.memory_areas.specs.declared.place.Area.TheVariants as place
use Rattle.memory_areas.specs.declared.place.AreaName.{AreaName}
use Rattle.s7_base.specs.declared.word.Width.{Width}
use Rattle.s7_base.specs.declared.word.Width.TheVariants as width
use Rattle.st_tree.specs.BodyParts.{reads_of}
use Rattle.st_tree.specs.Naming.{is_new}
use Rattle.st_tree.specs.declared.expr.Expr.{Expr}
use Rattle.st_tree.specs.declared.expr.StType.{StType}
use Rattle.st_tree.specs.declared.expr.StType.TheVariants as type
use Rattle.st_tree.specs.declared.expr.Var.{Var}
use Rattle.st_tree.specs.declared.expr.Var.TheVariants as var
use Rattle.st_tree.specs.declared.program.Arm.{Arm}
use Rattle.st_tree.specs.declared.program.CaseArm.{CaseArm}
use Rattle.st_tree.specs.declared.program.Located.{Located}
use Rattle.st_tree.specs.declared.program.Pou.{Pou}
use Rattle.st_tree.specs.declared.program.Stmt.{Stmt}
use Rattle.st_globals.specs.Globals.{global_names, global_or}
use Rattle.st_globals.specs.Variables.{arm_variables, case_variables, variables_in, variables_of}

-- Keys

-- a place as a key: the code of its area, its byte, its bit, and the code of its width
abbrev pub PlaceKey : Type 0
PlaceKey = ℕ × ℕ × ℕ × ℕ

-- two keys are equal
abbrev pub is_same_key : PlaceKey → PlaceKey → Bool
is_same_key a b = nat_eq a.0 b.0 && nat_eq a.1 b.1 && nat_eq a.2 b.2 && nat_eq a.3 b.3

-- the code of a width
abbrev pub width_code : Width → ℕ
width_code width.Bit = 0
width_code width.Byte = 1
width_code width.Word = 2
width_code width.Dword = 3

-- the code of a type: that of its width, where it is the type of one
abbrev pub type_code : StType → ℕ
type_code type.Bool = 0
type_code type.Byte = 1
type_code type.Word = 2
type_code type.Dword = 3
type_code other = 4

-- the code of an area, 0 of one that no global is in
abbrev pub area_code : Area → ℕ
area_code place.I = 129
area_code place.Q = 130
area_code place.M = 131
area_code other = 0

-- the key of a place that is named directly
abbrev pub key_at : AreaName → ℕ → ℕ → Width → PlaceKey
key_at a byte bit w = (code_of a, byte, bit, width_code w)

-- the key of a global's place
abbrev pub place_key : Located → PlaceKey
place_key g = (area_code g.place.area, g.place.byte, g.place.bit, type_code g.ty)

-- Places that are named

-- the keys with that of a variable, if it names a place directly
abbrev pub with_key : List PlaceKey → Var → List PlaceKey
with_key keys (var.Direct a byte bit w) = insert_key is_same_key keys (key_at a byte bit w)
with_key keys v = keys

-- the keys with those of some variables
abbrev pub with_keys : List PlaceKey → List Var → List PlaceKey
with_keys keys vars = fold with_key keys vars

-- the keys with those of an expression, of a statement, of an arm, and of a unit
abbrev pub with_expr_keys : List PlaceKey → Expr → List PlaceKey
with_expr_keys keys e = with_keys keys (reads_of e)

abbrev pub with_stmt_keys : List PlaceKey → Stmt → List PlaceKey
with_stmt_keys keys x = with_keys keys (variables_of x)

abbrev pub with_arm_keys : List PlaceKey → Arm → List PlaceKey
with_arm_keys keys arm = with_keys keys (arm_variables arm)

abbrev pub with_case_keys : List PlaceKey → CaseArm → List PlaceKey
with_case_keys keys arm = with_keys keys (case_variables arm)

abbrev pub with_unit_keys : List PlaceKey → Pou → List PlaceKey
with_unit_keys keys unit = with_keys keys (variables_in unit.body)

-- Globals by their places

-- globals under the keys of their places, with numbers from a first one on
abbrev pub keys_with_numbers : ℕ → List Located → List (PlaceKey × ℕ)
keys_with_numbers n [] = []
keys_with_numbers n (g ∷ rest) = (place_key g, n) ∷ keys_with_numbers (suc n) rest

-- what stands for a variable by such a table
abbrev pub var_by : List (PlaceKey × ℕ) → Var → Var
var_by entries (var.Direct a byte bit w) =
    global_or (lookup (is_same_key (key_at a byte bit w)) entries) (var.Direct a byte bit w)
var_by entries v = v

-- these keys and this table are those of some globals beside some names: a name is among the keys where it is one of
-- the names or that of a global, and the table has the numbers of the globals
pub record Tracks (names : List (List ℕ)) (globals : List Located) (keys : List (List ℕ))
    (places : List (PlaceKey × ℕ))
    : Type 0
  where
    pub same : (key : List ℕ) → is_new key keys ≡ is_new key (names ++ global_names globals)
    pub numbers : places ≡ keys_with_numbers 0 globals
