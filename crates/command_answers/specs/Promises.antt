-- What each exit status promises. What the sink took, that a translation means what the source means, and that a
-- fault is named only where one happened.
-- Held against: this project's own claim.
use Rattle.std.specs.Prelude.{◌≡◌, ℕ, ◌⊎◌, List, Option, Some}
use Rattle.s7_io.specs.Sink.{Took, TookFewer}
use Rattle.stl_tree.specs.declared.program.Program.{Program}
use Rattle.command_answers.specs.Answer.{Reply, Answers, IsAcceptedAs, Translates, Wants, WantsSource}
use Rattle.command_answers.specs.Devices.{AreOf, Devices, Input, Output, ReadFailed, WriteFailed}
use Rattle.command_words.specs.declared.command.Command.{Command}
use Rattle.command_words.specs.declared.command.Command.TheVariants.{Translate}
use Rattle.command_answers.specs.declared.status.Status.{Status}
use Rattle.command_answers.specs.declared.status.Status.TheVariants.{Done, ReadFault, WriteFault, NoMemory}

-- What is written

-- the bytes that the sink took, by the status: the text of an answer; a proper prefix of it where writing failed;
-- nothing where reading failed or memory ran out
abbrev pub Sends : Option Command → List ℕ → List ℕ → Output → Status → Type 0
Sends command source image out ReadFault = out.taken_after ≡ out.taken
Sends command source image out NoMemory = out.taken_after ≡ out.taken
Sends command source image out WriteFault =
    (reply : Reply) × Answers command source image reply × TookFewer out.taken out.taken_after reply.1
Sends command source image out status =
    (reply : Reply) × Answers command source image reply × (reply.0 ≡ status)
    × Took out.taken out.taken_after reply.1

-- the bytes that the sink took are an answer to the command, the bytes of the source and those of the image
pub record Writes (command : Option Command) (status : Status) (devices : Devices) : Type 0 where
  pub source : List ℕ
  pub of_source : AreOf devices.program.left source
  pub image : List ℕ
  pub of_image : AreOf devices.image.left image
  pub sends : Sends command source image devices.out status

-- What follows from this

-- the sink took a text that means what the source means
pub record IsTranslated (devices : Devices) : Type 0 where
  pub source : List ℕ
  pub of_source : AreOf devices.program.left source
  pub program : Program
  pub accepted : IsAcceptedAs source program
  pub text : List ℕ
  pub translates : Translates program text
  pub taken : Took devices.out.taken devices.out.taken_after text

-- where `translate` is done, the text that was written means what the source means
abbrev pub Translated : Option Command → Status → Devices → Type 0
Translated command status devices = command ≡ Some Translate → status ≡ Done → IsTranslated devices

-- a status is that of an answer
abbrev pub IsAnswered : Option Command → List ℕ → List ℕ → Status → Type 0
IsAnswered command source image status =
    (reply : Reply) × Answers command source image reply × (status ≡ reply.0)

-- a call whose devices tell their bytes gives an answer, where no read and no write fails and memory is found; a
-- source or an image that is not read may be anything
abbrev pub Completes : Option Command → Status → Devices → Type 0
Completes command status devices =
    (source image : List ℕ) → (WantsSource command → devices.program.left ≡ Some source)
    → (Wants command source → devices.image.left ≡ Some image)
    → (WantsSource command → ¬ ReadFailed devices.program) → (Wants command source → ¬ ReadFailed devices.image)
    → ¬ WriteFailed devices.out
    → IsAnswered command source image status ⊎ (status ≡ NoMemory)

-- Causes

-- a read failed: of a source or of an image that the command reads
abbrev pub FailedToRead : Option Command → Input → Input → Type 0
FailedToRead command program image =
    (WantsSource command × ReadFailed program)
    ⊎ ((source : List ℕ) × AreOf program.left source × Wants command source × ReadFailed image)

-- the status says that reading failed only where a read failed, and that writing failed only where a write
-- failed
pub record HasCause (command : Option Command) (status : Status) (devices : Devices) : Type 0 where
  pub read_fault : status ≡ ReadFault → FailedToRead command devices.program devices.image
  pub write_fault : status ≡ WriteFault → WriteFailed devices.out
