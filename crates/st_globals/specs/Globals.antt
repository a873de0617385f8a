-- Which symbols become globals of a text, and what stands for a variable then.
-- Held against: IEC 61131-3, 'Directly represented variables', and this project's own names.
use Rattle.std.specs.Prelude.{ℕ, suc, Bool, true, false, not, ◌&&◌, ◌==◌, if◌then◌else◌, List, [], ◌∷◌, ◌++◌, map, Option, Some, None, fold}
use Rattle.std.specs.List.{flat_map, list_any}
use Rattle.memory_areas.specs.declared.place.Area.{Area}
use Rattle.memory_areas.specs.declared.place.Area.TheVariants as place
use Rattle.memory_areas.specs.declared.place.AreaName.{AreaName}
use Rattle.memory_areas.specs.declared.place.AreaName.TheVariants as area
use Rattle.st_tree.specs.Naming.{is_free, is_name, is_new, key_of}
use Rattle.st_tree.specs.TypeRules.{is_type}
use Rattle.st_tree.specs.Values.{type_of_width}
use Rattle.st_tree.specs.WellTyped.{keys_of}
use Rattle.st_tree.specs.declared.expr.Var.{Var}
use Rattle.st_tree.specs.declared.expr.Var.TheVariants as var
use Rattle.st_tree.specs.declared.program.Located.{Located}
use Rattle.st_tree.specs.declared.program.Pou.{Pou}
use Rattle.stl_tree.specs.declared.program.Symbol.{Symbol}
use Rattle.st_globals.specs.Variables.{unit_variables}

-- Places

-- an area is I, Q or M, and this is its name
abbrev pub is_named : Area → AreaName → Bool
is_named place.I area.I = true
is_named place.Q area.Q = true
is_named place.M area.M = true
is_named a name = false

-- a global stands for a variable: a place that is named directly, which has its area, its byte, its bit and its width
abbrev pub stands_for : Located → Var → Bool
stands_for g (var.Direct a byte bit w) =
    is_named g.place.area a && byte == g.place.byte && bit == g.place.bit && is_type (type_of_width w) g.ty
stands_for g v = false

-- the number of the first global that stands for a variable, where the first of all has this number
abbrev pub number_from : ℕ → List Located → Var → Option ℕ
number_from n [] v = None
number_from n (g ∷ rest) v = if stands_for g v then Some n else number_from (suc n) rest v

-- a global, if there is one, and else the variable itself
abbrev pub global_or : Option ℕ → Var → Var
global_or None v = v
global_or (Some n) v = var.Global n

-- what stands for a variable: for a place that is named directly the first global that has it, if there is one
abbrev pub named_var : List Located → Var → Var
named_var globals (var.Direct a byte bit w) =
    global_or (number_from 0 globals (var.Direct a byte bit w)) (var.Direct a byte bit w)
named_var globals v = v

-- Names

-- the keys of the names of a unit, of its formals and of its locals
abbrev pub unit_names : Pou → List (List ℕ)
unit_names unit = key_of unit.name ∷ (keys_of unit.formals ++ keys_of unit.locals)

-- the keys of the names of some units, their formals and their locals
abbrev pub names_in : List Pou → List (List ℕ)
names_in units = flat_map unit_names units

-- the keys of the names of some globals
abbrev pub global_names : List Located → List (List ℕ)
global_names globals = map (λ (g : Located). key_of g.name) globals

-- Globals

-- a symbol as a global
abbrev pub located : Symbol → Located
located s = record { name = s.name; place = s.place; ty = type_of_width s.width }

-- one of these variables names the place of a global, and none of the globals before it stands for that variable
abbrev pub is_needed : List Var → List Located → Located → Bool
is_needed vars before g = list_any (λ v. stands_for g v && not (list_any (λ other. stands_for other v) before)) vars

-- a global may have its name: it is a name, no register, data block or numbered unit has it nor is it `NEXT`, and
-- neither one of these keys nor a global before it is its own
abbrev pub may_have_name : List (List ℕ) → List Located → Located → Bool
may_have_name names before g = is_name g.name && is_free g.name && is_new (key_of g.name) (names ++ global_names before)

-- the globals after the next symbol of the table: it becomes the last one where a text with these names and variables
-- needs it, and it may have its name
abbrev pub with_symbol : List (List ℕ) → List Var → List Located → Symbol → List Located
with_symbol names vars before s =
    if is_needed vars before (located s) && may_have_name names before (located s) then before ++ located s ∷ []
    else before

-- the globals of a text, from the symbols in the order of their table
abbrev pub globals_of : List Pou → List Symbol → List Located
globals_of units symbols = fold (with_symbol (names_in units) (unit_variables units)) [] symbols
