-- What calls work on, and how they answer.
use Rattle.std.specs.Prelude.{◌≡◌, ℕ, Bool, true, false, List, [], ◌∷◌, Option, Some, None, Result, Ok, Err}
use Rattle.memory_areas.specs.Areas.{Contents}
use Rattle.memory_areas.specs.declared.call.Call.{Call}
use Rattle.s7_base.specs.declared.check.Entry.{Entry}
use Rattle.s7_base.specs.declared.outcome.Fault.{Fault}
use Rattle.stl_tree.specs.Calls.{after_call, going_on_at}
use Rattle.stl_tree.specs.Now.{Activation, Now}
use Rattle.stl_tree.specs.Registers.{RegisterValues}
use Rattle.stl_tree.specs.StlRun.{Fits, after_return, at_run_start, formals_at, over, running}
use Rattle.stl_tree.specs.declared.program.BlockCall.{BlockCall}
use Rattle.stl_tree.specs.declared.program.Program.{Program}

-- what calls work on: the registers, the memory and the activations. Where the running block goes on is kept
-- elsewhere, and so are its open brackets
pub record Scene : Type 0 where
  pub registers : RegisterValues
  pub memory : Contents
  pub activations : List Activation

-- the whole state, with the open brackets and the position where the running block goes on
abbrev pub now_at : List Entry → ℕ → Scene → Now
now_at brackets at s =
    record {
      registers = s.registers;
      brackets = brackets;
      memory = s.memory;
      activations = going_on_at at s.activations;
    }

-- a call from outside was answered: its block begins where it fits, and nothing changes exactly where it does not
abbrev pub HasStarted : Program → Call → Bool → Scene → Scene → Type 0
HasStarted program call true before after =
    Fits program call × (at_run_start program call before.memory.areas ≡ running program (now_at [] 0 after))
HasStarted program call false before after = (Fits program call → ⊥) × (after ≡ before)

-- the activations, of which the one that called the running one continues at a position
abbrev pub caller_at : ℕ → List Activation → List Activation
caller_at to [] = []
caller_at to (called ∷ waiting) = called ∷ going_on_at to waiting

-- what a call leads to, but that its caller continues at a position
abbrev pub returning_to : ℕ → Result Now Fault → Result Now Fault
returning_to to (Ok now) = Ok (record now { activations = caller_at to now.activations })
returning_to to (Err f) = Err f

-- a call was answered as its definition says, wherever it stands: the block begins, and its caller continues at the
-- position that is given; or there is the first fault of an actual, and nothing has changed
abbrev pub HasEntered : Program → BlockCall → ℕ → Result Unit Fault → Scene → Scene → Type 0
HasEntered program call to (Ok done) before after =
    (brackets : List Entry) (at : ℕ)
    → returning_to to (after_call (formals_at program call.block) call (now_at brackets at before))
    ≡ Ok (now_at brackets 0 after)
HasEntered program call to (Err f) before after =
    ((brackets : List Entry) (at : ℕ)
    → after_call (formals_at program call.block) call (now_at brackets at before) ≡ Err f)
    × (after ≡ before)

-- the running block has ended as its definition says: its caller continues at a position, or it was the first one
abbrev pub HasLeft : Program → Option ℕ → Scene → Scene → Type 0
HasLeft program (Some to) before after =
    (brackets : List Entry) (at : ℕ)
    → after_return program (going_on_at at before.activations) (now_at brackets at before)
    ≡ running program (now_at brackets to after)
HasLeft program None before after =
    ((brackets : List Entry) (at : ℕ)
    → after_return program (going_on_at at before.activations) (now_at brackets at before) ≡ over before.memory None)
    × (after ≡ record before { activations = [] })

-- the running block stands at a position of the program
abbrev pub IsRunningBlock : List Activation → ℕ → Type 0
IsRunningBlock [] block = ⊥
IsRunningBlock (a ∷ waiting) block = a.block ≡ block
