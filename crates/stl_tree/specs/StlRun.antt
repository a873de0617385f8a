-- The run of a called block. The instructions of a program are taken one after another, within a bound on their
-- number; which calls fit, and what can be seen of a run.
-- Held against: the manual's chapter 'Program Control'.
use Rattle.std.specs.Prelude.{ℕ, zero, suc, ◌^◌, ◌<◌, Bool, false, ◌==◌, List, [], ◌∷◌, length, map, slice_get, Contains, Option, Some, None, option_and_then, Result, Ok, Err}
use Rattle.std.specs.List.{position}
use Rattle.s7_base.specs.Numbers.{greatest}
use Rattle.s7_base.specs.declared.outcome.Fault.{Fault}
use Rattle.memory_areas.specs.Areas.{Areas, Contents, with_areas}
use Rattle.memory_areas.specs.End.{End, Ended, Going}
use Rattle.memory_areas.specs.OutsideActuals.{FitWidths}
use Rattle.memory_areas.specs.declared.place.Place.{Place}
use Rattle.s7_base.specs.declared.word.Width.{Width}
use Rattle.stl_tree.specs.Calls.{after_call, after_end_of, formals_of, going_on, going_on_at}
use Rattle.stl_tree.specs.Instructions.{effect_of}
use Rattle.stl_tree.specs.Now.{Activation, Now, Effect, next, go, enter, leave, fault}
use Rattle.stl_tree.specs.Registers.{start}
use Rattle.stl_tree.specs.declared.program.Block.{Block}
use Rattle.stl_tree.specs.declared.program.BlockCall.{BlockCall}
use Rattle.memory_areas.specs.declared.call.BlockName.{BlockName}
use Rattle.memory_areas.specs.declared.call.BlockName.TheVariants as name
use Rattle.memory_areas.specs.declared.call.Call.{Call}
use Rattle.stl_tree.specs.declared.program.Formal.{Formal}
use Rattle.stl_tree.specs.declared.program.Instance.{Instance}
use Rattle.stl_tree.specs.declared.program.Instr.{Instr}
use Rattle.stl_tree.specs.declared.program.Program.{Program}

-- Blocks and calls

-- two names are equal: kind and number
abbrev pub is_same_name : BlockName → BlockName → Bool
is_same_name (name.Ob m) (name.Ob n) = m == n
is_same_name (name.Fc m) (name.Fc n) = m == n
is_same_name (name.Fb m) (name.Fb n) = m == n
is_same_name (name.Ob m) (name.Fc n) = false
is_same_name (name.Ob m) (name.Fb n) = false
is_same_name (name.Fc m) (name.Ob n) = false
is_same_name (name.Fc m) (name.Fb n) = false
is_same_name (name.Fb m) (name.Ob n) = false
is_same_name (name.Fb m) (name.Fc n) = false

-- the position of the block of a name, the first where there are several
abbrev pub block_named : BlockName → List Block → Option ℕ
block_named called blocks = position (λ (b : Block). is_same_name b.name called) blocks

-- the widths of the formals of a block
abbrev pub widths_of : Block → List Width
widths_of b = map (λ (f : Formal). f.width) b.formals

-- a data block is an instance of the function block of a number
abbrev pub IsInstance : List Instance → ℕ → ℕ → Type 0
IsInstance instances db fb = Contains instances (record { db = db; fb = fb })

-- a call fits the block that it means: the actuals of a function are ones for its formals, and the data block is an
-- instance of the function block; an organization block has no formals, and a function block none that is given from
-- outside, so their actuals are not tested
abbrev pub FitsBlock : Program → Block → BlockName → ℕ → List (Place × Width) → Type 0
FitsBlock program b (name.Ob n) instance actuals = Unit {0}
FitsBlock program b (name.Fc n) instance actuals = FitWidths program.dbs (widths_of b) actuals
FitsBlock program b (name.Fb n) instance actuals = IsInstance program.instances instance n

abbrev pub FitsIfThere : Program → Call → Option Block → Type 0
FitsIfThere program call None = ⊥
FitsIfThere program call (Some b) = FitsBlock program b call.block call.instance call.actuals

-- the block at a position, if there is one
abbrev pub block_at : List Block → Option ℕ → Option Block
block_at blocks place = option_and_then (slice_get blocks) place

-- a call fits a program
abbrev pub Fits : Program → Call → Type 0
Fits program call = FitsIfThere program call (block_at program.blocks (block_named call.block program.blocks))

-- an organization block or a function is called from outside, by a number of 16 bits; of a function
-- block a Structured Text can't say which data blocks are its instances
abbrev pub HasNoInstance : BlockName → Type 0
HasNoInstance (name.Ob n) = n < 2 ^ 16
HasNoInstance (name.Fc n) = n < 2 ^ 16
HasNoInstance (name.Fb n) = ⊥

-- the largest number of instructions of a block, its end word counted
abbrev pub size_of : Program → ℕ
size_of program = greatest (map (λ (b : Block). length b.body) program.blocks)

-- Runs

-- a run between two steps: the program goes on with this state, or the run has ended
pub data Standing : Type 0 where
  running : Program → Now → Standing
  over : Contents → Option Fault → Standing

-- the run that goes on with a state, or is over by a fault with the memory as it was
abbrev pub unless_fault : Program → Now → Result Now Fault → Standing
unless_fault program before (Ok now) = running program now
unless_fault program before (Err f) = over before.memory (Some f)

-- the formals of a block of a program
abbrev pub formals_at : Program → ℕ → List Formal
formals_at program block = formals_of (slice_get program.blocks block)

-- the run after a block is called: it begins, or the fault of an actual ends the run
abbrev pub at_block_entry : Program → BlockCall → Now → Standing
at_block_entry program call now = unless_fault program now (after_call (formals_at program call.block) call now)

-- the run after the first of these activations has ended: the one that waited for it continues, or the run is over
abbrev pub after_return : Program → List Activation → Now → Standing
after_return program [] now = over now.memory None
after_return program (done ∷ []) now = over now.memory None
after_return program (done ∷ caller ∷ waiting) now =
    unless_fault program now (after_end_of (formals_at program done.block) done (caller ∷ waiting) now)

-- the run after an effect; by a fault the memory stays as it was
abbrev pub after_effect : Program → Now → Effect → Standing
after_effect program now (next n) = running program (record n { activations = going_on n.activations })
after_effect program now (go to n) = running program (record n { activations = going_on_at to n.activations })
after_effect program now (enter call n) = at_block_entry program call n
after_effect program now (leave n) = after_return program n.activations n
after_effect program now (fault f) = over now.memory (Some f)

-- the next instruction
abbrev pub instruction : Program → List Activation → Option Instr
instruction program [] = None
instruction program (a ∷ waiting) =
    option_and_then (λ (b : Block). slice_get b.body a.at) (slice_get program.blocks a.block)

-- the run after the step of an instruction; where there is none, as in a block that does not exist, the run stays as
-- it is for ever
abbrev pub step_by : Option Instr → Program → Now → Standing
step_by None program now = running program now
step_by (Some i) program now = after_effect program now (effect_of i.op now)

-- one step, which is one instruction; the end word is one, and so is the instruction that faults
abbrev pub step : Standing → Standing
step (running program now) = step_by (instruction program now.activations) program now
step (over memory f) = over memory f

-- the run after n more steps
abbrev pub steps_on : ℕ → Standing → Standing
steps_on zero s = s
steps_on (suc n) s = steps_on n (step s)

-- what can be seen of a run between two steps
abbrev pub end_of : Standing → End
end_of (running program now) = Going
end_of (over memory f) = Ended memory.areas f

-- the instance with which the block of a call from outside begins: only a function block has one
abbrev pub instance_called : BlockName → ℕ → ℕ
instance_called (name.Ob n) instance = 0
instance_called (name.Fc n) instance = 0
instance_called (name.Fb n) instance = instance

-- the places of the formals of the block of a call from outside: only a function has any
abbrev pub places_given : BlockName → List (Place × Width) → List (Option Place)
places_given (name.Ob n) actuals = []
places_given (name.Fc n) actuals = map (λ (actual : Place × Width). Some actual.0) actuals
places_given (name.Fb n) actuals = []

-- the activation with which a run begins, that of the block at a position; none where no block is called
abbrev pub first_activation : Option ℕ → Call → List Activation
first_activation None call = []
first_activation (Some block) call =
    record {
      block = block;
      at = 0;
      instance = instance_called call.block call.instance;
      db = 0;
      di = 0;
      formals = places_given call.block call.actuals;
    }
    ∷ []

-- the run of a call before its first step; registers, local data and constant actuals are zero, but that the DI
-- register is the instance of a function block; no bracket is open
abbrev pub at_run_start : Program → Call → Areas → Standing
at_run_start program call memory =
    running program (record {
      registers = record start { di = instance_called call.block call.instance };
      brackets = [];
      memory = with_areas memory;
      activations = first_activation (block_named call.block program.blocks) call;
    })

-- the run of a call within n steps
abbrev pub stl_run : Program → Call → Areas → ℕ → End
stl_run program call memory n = end_of (steps_on n (at_run_start program call memory))
