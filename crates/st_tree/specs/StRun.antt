-- The run of a called unit. What a text does when one of its units is called from outside, within a number of units
-- of work, and which calls fit.
-- Held against: IEC 61131-3, 'Program organization units', and this project's own runs.
use Rattle.std.specs.Prelude.{◌≡◌, ℕ, pos, Bool, true, false, not, ◌&&◌, ℤ, List, [], ◌∷◌, ◌++◌, codes, decimal, find, map, IsSome, Option, Some, None}
use Rattle.std.specs.Str.{str_eq_ignore_ascii_case}
use Rattle.memory_areas.specs.Areas.{Areas, block_of, with_areas}
use Rattle.memory_areas.specs.End.{End, Ended, Going}
use Rattle.memory_areas.specs.OutsideActuals.{FitWidths}
use Rattle.memory_areas.specs.declared.data_block.DataBlock.{DataBlock}
use Rattle.memory_areas.specs.declared.place.Place.{Place}
use Rattle.s7_base.specs.declared.register.Reg.{Reg}
use Rattle.s7_base.specs.declared.register.Reg.TheVariants.{DiNo}
use Rattle.s7_base.specs.declared.word.Width.{Width}
use Rattle.memory_areas.specs.declared.call.BlockName.{BlockName}
use Rattle.memory_areas.specs.declared.call.BlockName.TheVariants as name
use Rattle.memory_areas.specs.declared.call.Call.{Call}
use Rattle.st_tree.specs.Calls.{activation_of, calls_to}
use Rattle.st_tree.specs.Meaning.{Out, Normal, Exits, Continues, Returns, Faults, NoUnits, body_meaning}
use Rattle.st_tree.specs.State.{State, with_register}
use Rattle.st_tree.specs.Values.{width_at}
use Rattle.st_tree.specs.declared.program.Local.{Local}
use Rattle.st_tree.specs.declared.program.Pou.{Pou}
use Rattle.st_tree.specs.declared.program.StProgram.{StProgram}
use Rattle.st_tree.specs.declared.state.Reference.{Reference}
use Rattle.st_tree.specs.declared.state.Reference.TheVariants as reference

-- Calls from outside

-- the name of the unit that a call means, as `OB1`
abbrev pub called_name : BlockName → List ℕ
called_name (name.Ob n) = codes "OB" ++ decimal n
called_name (name.Fc n) = codes "FC" ++ decimal n
called_name (name.Fb n) = codes "FB" ++ decimal n

-- an organization block is called as a program, and the others as functions
abbrev pub is_program : BlockName → Bool
is_program (name.Ob n) = true
is_program (name.Fc n) = false
is_program (name.Fb n) = false

-- two units are both programs, or both functions
abbrev pub is_same_kind : Bool → Bool → Bool
is_same_kind false b = not b
is_same_kind true b = b

-- a unit is the one that a call means: it has its name, in any case, and its kind
abbrev pub is_meant : BlockName → Pou → Bool
is_meant called unit =
    str_eq_ignore_ascii_case unit.name (called_name called) && is_same_kind (is_program called) unit.program

-- the unit that a call means
abbrev pub unit_called : BlockName → List Pou → Option Pou
unit_called called units = find (is_meant called) units

-- there are as many actuals as formals, and each fits
abbrev pub FitFormals : List DataBlock → List Local → List (Place × Width) → Type 0
FitFormals blocks formals actuals = FitWidths blocks (map (λ (f : Local). width_at f.ty) formals) actuals

-- the unit of a function block has no formals, and the instance exists
pub record FitsInstance (blocks : List DataBlock) (unit : Pou) (instance : ℕ) : Type 0 where
  pub formals : unit.formals ≡ []
  pub block : IsSome (block_of instance blocks)

-- a call fits the unit that it means; a program has no formals, so the actuals of its call are not tested
abbrev pub FitsUnit : List DataBlock → Pou → BlockName → ℕ → List (Place × Width) → Type 0
FitsUnit blocks unit (name.Ob n) instance actuals = Unit {0}
FitsUnit blocks unit (name.Fc n) instance actuals = FitFormals blocks unit.formals actuals
FitsUnit blocks unit (name.Fb n) instance actuals = FitsInstance blocks unit instance

-- a call fits the unit that it means, if the unit exists
abbrev pub FitsIfThere : StProgram → Call → Option Pou → Type 0
FitsIfThere tree call None = ⊥
FitsIfThere tree call (Some unit) = FitsUnit tree.dbs unit call.block call.instance call.actuals

-- a call fits a text
abbrev pub FitsSt : StProgram → Call → Type 0
FitsSt tree call = FitsIfThere tree call (unit_called call.block tree.pous)

-- Runs

-- the references of the formals of a unit that is called from outside: the places of the actuals, each in the type of
-- its formal; a call that fits has one for each
abbrev pub references : List Local → List (Place × Width) → List Reference
references [] actuals = []
references (formal ∷ formals) [] = []
references (formal ∷ formals) (actual ∷ actuals) = reference.Place actual.0 formal.ty ∷ references formals actuals

-- the references of the formals in a call from outside; only functions have formals
abbrev pub formals_given : BlockName → List Local → List (Place × Width) → List Reference
formals_given (name.Ob n) formals actuals = []
formals_given (name.Fc n) formals actuals = references formals actuals
formals_given (name.Fb n) formals actuals = []

-- the register variables at the start: all zero
abbrev pub all_zero : Reg → ℤ
all_zero r = pos 0

-- the register variables at the start of a call from outside: all zero, but that DINO is the instance
-- of a function block
abbrev pub registers_at_start : BlockName → ℕ → Reg → ℤ
registers_at_start (name.Ob n) instance = all_zero
registers_at_start (name.Fc n) instance = all_zero
registers_at_start (name.Fb n) instance = with_register DiNo (pos instance) all_zero

-- the state in which the unit of a call begins; its local data is zero
abbrev pub state_at_start : Pou → Call → Areas → State
state_at_start unit call areas =
    record {
      memory = with_areas areas;
      registers = registers_at_start call.block call.instance;
      activations = activation_of unit (formals_given call.block unit.formals call.actuals) ∷ [];
    }

-- the end of a run, by that of the statements of its first unit
abbrev pub end_seen : Out → End
end_seen (Normal units s) = Ended s.memory.areas None
end_seen (Exits units s) = Ended s.memory.areas None
end_seen (Continues units s) = Ended s.memory.areas None
end_seen (Returns units s) = Ended s.memory.areas None
end_seen (Faults f s) = Ended s.memory.areas (Some f)
end_seen (NoUnits s) = Going

-- the run of a unit, which takes no unit of work for its own call; one that does not exist never ends
abbrev pub run_of_unit : StProgram → Option Pou → Call → Areas → ℕ → End
run_of_unit tree None call memory units = Going
run_of_unit tree (Some unit) call memory units =
    end_seen (body_meaning tree.globals (calls_to units tree) unit.body units (state_at_start unit call memory))

-- the run of a call within some units
abbrev pub st_run : StProgram → Call → Areas → ℕ → End
st_run tree call memory units = run_of_unit tree (unit_called call.block tree.pous) call memory units
