-- Calls from outside: which fit, and what they run, held against worked rows.
use Rattle.st_tree.proofs.Common.{◌≡◌, refl, ℕ, false, true, List, [], ◌∷◌, pos, None, codes, digits, Areas, Ended, Area, Place, Width, BlockName, Call, FitsSt, st_run, Local, Pou, StProgram, Stmt}
use Rattle.memory_areas.specs.declared.place.Area.TheVariants as place
use Rattle.memory_areas.specs.declared.place.AreaName.TheVariants as area
use Rattle.s7_base.specs.declared.word.Width.TheVariants as width
use Rattle.memory_areas.specs.declared.call.BlockName.TheVariants.{Ob, Fc, Fb}
use Rattle.st_tree.specs.declared.expr.StType.TheVariants as type
use Rattle.st_tree.specs.declared.expr.Var.TheVariants as var
use Rattle.st_tree.specs.declared.expr.Expr.TheVariants as expr
use Rattle.st_tree.specs.declared.program.Stmt.TheVariants as stmt
use Rattle.st_tree.proofs.Equations.{meaning_equations}

abbrev function : List ℕ → List Local → List Stmt → Pou
function name formals body = record { program = false; name = name; formals = formals; locals = []; body = body }

-- `fc1` with a formal of INT, `FB2` without formals that reads the open instance, a program `FC3`, and DB 7
abbrev tree : StProgram
tree =
    record {
      dbs = record { number = 7; bytes = 1 ∷ 2 ∷ [] } ∷ [];
      globals = [];
      pous =
          function (codes "fc1") (record { name = codes "x"; ty = type.Int } ∷ []) (stmt.Assign (var.Formal 0) (expr.Literal type.Int (pos 258)) ∷ [])
          ∷ function (codes "FB2") [] (stmt.Assign (var.Direct area.Q 0 0 width.Byte) (expr.Read (var.Direct area.Di 1 0 width.Byte)) ∷ [])
          ∷ record { program = true; name = codes "FC3"; formals = []; locals = []; body = [] } ∷ [];
    }

abbrev call_of : BlockName → ℕ → List (Place × Width) → Call
call_of name instance actuals = record { block = name; instance = instance; actuals = actuals }

abbrev at : Area → ℕ → ℕ → Width → Place × Width
at a byte bit w = (record { area = a; byte = byte; bit = bit }, w)

abbrev memory_of : List ℕ → Areas
memory_of outputs = record { inputs = []; outputs = outputs; markers = []; blocks = record { number = 7; bytes = 1 ∷ 2 ∷ [] } ∷ [] }

-- a formal is a reference to the actual
writes_actual : st_run tree (call_of (Fc 1) 0 (at place.Q 0 0 width.Word ∷ [])) (memory_of (0 ∷ 0 ∷ [])) 0 ≡ Ended (memory_of (1 ∷ 2 ∷ [])) None
unfolding digits
writes_actual = simp meaning_equations

-- DINO begins as the instance of a function block
reads_instance : st_run tree (call_of (Fb 2) 7 []) (memory_of (0 ∷ 0 ∷ [])) 0 ≡ Ended (memory_of (2 ∷ 0 ∷ [])) None
unfolding digits
reads_instance = simp meaning_equations

-- an actual of the width of its formal that lies in its area fits
fits_output : FitsSt tree (call_of (Fc 1) 0 (at place.Q 2046 0 width.Word ∷ []))
unfolding digits
fits_output = (record { width = refl; outside = tt; lies = refl }, tt)

fits_block : FitsSt tree (call_of (Fc 1) 0 (at (place.Db 7) 0 0 width.Word ∷ []))
unfolding digits
fits_block = (record { width = refl; outside = tt; lies = refl }, tt)

fits_instance : FitsSt tree (call_of (Fb 2) 7 [])
unfolding digits
fits_instance = record { formals = refl; block = refl }

-- past the end, of another width, of local data, too few, and of a block that is not there
past_end : FitsSt tree (call_of (Fc 1) 0 (at (place.Db 7) 1 0 width.Word ∷ [])) → ⊥
unfolding digits
past_end h = let e = h.0.lies in cc

other_width : FitsSt tree (call_of (Fc 1) 0 (at place.Q 0 0 width.Byte ∷ [])) → ⊥
unfolding digits
other_width h = let e = h.0.width in cc

local_data : FitsSt tree (call_of (Fc 1) 0 (at (place.Local 0) 0 0 width.Word ∷ [])) → ⊥
unfolding digits
local_data h = h.0.outside

too_few : FitsSt tree (call_of (Fc 1) 0 []) → ⊥
unfolding digits
too_few h = h

no_instance : FitsSt tree (call_of (Fb 2) 8 []) → ⊥
unfolding digits
no_instance h = let e = h.block in cc

-- a program is no function, and a function no program
no_function : FitsSt tree (call_of (Fc 3) 0 []) → ⊥
unfolding digits
no_function h = h

no_program : FitsSt tree (call_of (Ob 1) 0 []) → ⊥
unfolding digits
no_program h = h
