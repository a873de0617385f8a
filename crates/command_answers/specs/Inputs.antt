-- How far inputs are read. It depends on the command, the exit status and the limits; the image is read only where it
-- is wanted.
-- Held against: this project's own commands.
use Rattle.std.specs.Prelude.{◌≡◌, ◌≢◌, ℕ, ◌+◌, ◌⊎◌, List, Option, Some, None}
use Rattle.s7_io.specs.Source.{GaveAll, GaveExactly, GaveAtMost}
use Rattle.command_answers.specs.Answer.{Row, row, stl, st, own, WantsRow}
use Rattle.command_answers.specs.Devices.{Devices, Input, ReadFailed}
use Rattle.command_words.specs.declared.command.Command.{Command}
use Rattle.command_answers.specs.declared.limits.TheConstants.{INPUT_LIMIT, IMAGE_LIMIT}
use Rattle.command_answers.specs.declared.status.Status.{Status}
use Rattle.command_answers.specs.declared.status.Status.TheVariants.{ReadFault, WriteFault, TooLong, NoMemory}

-- One input

-- an input was not read
pub record IsUntouched (input : Input) : Type 0 where
  pub left : input.left_after ≡ input.left
  pub faults : input.faults_after ≡ input.faults

-- an input was read to its end, and these are its bytes
abbrev pub IsReadWhole : Input → List ℕ → Type 0
IsReadWhole input bytes = GaveAll input.left input.left_after bytes

-- an input was read to the byte past its limit
abbrev pub IsReadPast : Input → ℕ → Type 0
IsReadPast input limit = GaveExactly input.left input.left_after (limit + 1)

-- an input was read at most to its limit
abbrev pub IsReadWithin : Input → ℕ → Type 0
IsReadWithin input limit = GaveAtMost input.left input.left_after limit

-- What a status tells

-- work stopped while or after an input was read: a read of it failed, or memory ran out
abbrev pub Stopped : Input → Status → Type 0
Stopped input ReadFault = ReadFailed input
Stopped input NoMemory = Unit {0}
Stopped input status = ⊥

-- the status where an input is too long; or writing failed, which may have been of that answer
abbrev pub SaysTooLong : Status → Type 0
SaysTooLong status = (status ≡ TooLong) ⊎ (status ≡ WriteFault)

-- no input failed or was too long, and memory was found
abbrev pub SaysRead : Status → Type 0
SaysRead ReadFault = ⊥
SaysRead TooLong = ⊥
SaysRead NoMemory = ⊥
SaysRead status = Unit {0}

-- Both inputs

-- how far the inputs were read, where `Wanted` says of which sources the image is read: the source first, and the
-- image only where it is read
pub data ReadsFor (Wanted : List ℕ → Type 0) (program image : Input) (status : Status) : Type 0 where
  source_failed : Stopped program status → IsReadWithin program INPUT_LIMIT → IsUntouched image
      → ReadsFor Wanted program image status
  source_long : SaysTooLong status → IsReadPast program INPUT_LIMIT → IsUntouched image
      → ReadsFor Wanted program image status
  source_alone : (source : List ℕ) → SaysRead status → IsReadWhole program source
      → ¬ Wanted source → IsUntouched image → ReadsFor Wanted program image status
  image_failed : (source : List ℕ) → Stopped image status → IsReadWhole program source
      → Wanted source → IsReadWithin image IMAGE_LIMIT → ReadsFor Wanted program image status
  image_long : (source : List ℕ) → SaysTooLong status → IsReadWhole program source
      → Wanted source → IsReadPast image IMAGE_LIMIT → ReadsFor Wanted program image status
  both : (source text : List ℕ) → SaysRead status → IsReadWhole program source
      → Wanted source → IsReadWhole image text → ReadsFor Wanted program image status

-- neither input was read, so no read failed
abbrev pub ReadsNeither : Input → Input → Status → Type 0
ReadsNeither program image status = IsUntouched program × IsUntouched image × (status ≢ ReadFault)

-- how far the inputs were read by a line of the table of commands
abbrev pub ReadsByRow : Row → Input → Input → Status → Type 0
ReadsByRow (stl work) program image status = ReadsFor (WantsRow (stl work)) program image status
ReadsByRow (st work) program image status = ReadsFor (WantsRow (st work)) program image status
ReadsByRow (own text To) program image status = ReadsNeither program image status

-- how far the inputs were read; without a command neither is
abbrev pub ReadsInputs : Option Command → Input → Input → Status → Type 0
ReadsInputs None program image status = ReadsNeither program image status
ReadsInputs (Some command) program image status = ReadsByRow (row command) program image status

-- how far the inputs of a call were read
abbrev pub Reads : Option Command → Status → Devices → Type 0
Reads command status devices = ReadsInputs command devices.program devices.image status
