-- The parts of the program that make a reply, and what each answers.
use Rattle.std.proofs.Common.{refl}
use Rattle.std.specs.Prelude.{◌≡◌, ℕ, ◌⊎◌, List, Option, Result, Ok, Err}
use Rattle.s7_io.specs.Sink.{Took, TookFewer}
use Rattle.memory_areas.specs.Areas.{Areas, fresh}
use Rattle.s7_demo.specs.Demo.{demo_source}
use Rattle.memory_areas.specs.End.{End, Ended}
use Rattle.memory_areas.specs.declared.call.Call.{Call}
use Rattle.s7_base.specs.declared.outcome.Fault.{Fault}
use Rattle.st_tree.specs.declared.program.StProgram.{StProgram}
use Rattle.stl_tree.specs.StlRun.{Fits, stl_run}
use Rattle.stl_tree.specs.declared.program.Program.{Program}
use Rattle.command_answers.specs.Answer.{Reply, Row, row, stl, st, own, Work, alone, on_image, AnswersTranslate, AnswersCheck, AnswersDemo, AnswersRunSt, AnswersRunStl, AnswersWork, bad_call_line, run_reply}
use Rattle.command_answers.specs.Devices.{AreOf, Input}
use Rattle.command_answers.specs.Inputs.{IsReadPast, IsReadWhole, IsReadWithin, IsUntouched, SaysRead, SaysTooLong, Stopped}
use Rattle.command_words.specs.declared.command.Command.{Command}
use Rattle.command_words.specs.declared.command.Command.TheVariants as command
use Rattle.command_answers.specs.declared.limits.TheConstants.{IMAGE_LIMIT}
use Rattle.command_answers.specs.declared.reply.Job.{Job}
use Rattle.command_answers.specs.declared.reply.Job.TheVariants as job
use Rattle.command_answers.specs.declared.reply.Reply.{Reply as Made}
use Rattle.command_answers.specs.declared.reply.Stop.{Stop}
use Rattle.command_answers.specs.declared.reply.Stop.TheVariants as stop
use Rattle.command_answers.specs.declared.reply.Task.{Task}
use Rattle.command_answers.specs.declared.reply.Task.TheVariants as task
use Rattle.command_answers.specs.declared.reply.Text.{Text}
use Rattle.command_answers.specs.declared.reply.Text.TheVariants as text
use Rattle.command_answers.specs.declared.reply.TextJob.{TextJob}
use Rattle.command_answers.specs.declared.reply.TextJob.TheVariants as text_job
use Rattle.command_answers.specs.declared.status.Status.{Status}
use Rattle.command_answers.specs.declared.status.Status.TheVariants.{BadCall, ReadFault, WriteFault, NoMemory}

-- Replies

-- the bytes of a text
abbrev pub bytes_of_text : Text → List ℕ
bytes_of_text (text.Fixed line) = line.now
bytes_of_text (text.Made bytes) = bytes.items

-- a made status and text as an answer
abbrev pub reply_of : Made → Reply
reply_of made = (made.status, bytes_of_text made.text)

-- a status whose text is written whole
abbrev pub IsWritten : Status → Type 0
IsWritten ReadFault = ⊥
IsWritten WriteFault = ⊥
IsWritten NoMemory = ⊥
IsWritten status = Unit {0}

-- the status of what stopped a reply
abbrev pub stop_status : Stop → Status
stop_status stop.ReadFault = ReadFault
stop_status stop.NoMemory = NoMemory

-- the status that a reply ends with, or that of what stopped it
abbrev pub ending : Result Made Stop → Status
ending (Ok made) = made.status
ending (Err why) = stop_status why

-- What is answered

-- the reply is an answer to the bytes of the image
pub record AnsweredTo (To : List ℕ → Reply → Type 0) (image : Input) (made : Made) : Type 0 where
  pub bytes : List ℕ
  pub of_image : AreOf image.left bytes
  pub answers : To bytes (reply_of made)
  pub written : IsWritten made.status

-- the reply is an answer to the bytes of the source and those of the image
pub record Answered (To : List ℕ → List ℕ → Reply → Type 0) (program image : Input) (made : Made) : Type 0 where
  pub source : List ℕ
  pub of_source : AreOf program.left source
  pub bytes : List ℕ
  pub of_image : AreOf image.left bytes
  pub answers : To source bytes (reply_of made)
  pub written : IsWritten made.status

-- the answer to a call, which fits or does not, and to its run from a memory
abbrev pub AnsweredCall : Type 0 → (Areas → End) → Areas → Made → Type 0
AnsweredCall Fits run memory made =
    (Fits × (reply_of made ≡ run_reply memory (run memory)))
    ⊎ (¬ Fits × (reply_of made ≡ (BadCall, bad_call_line)))

-- the reply is that of a run of a call of the program: where this ends within the bound of a demo, the reply is as it
-- ends
abbrev pub AnswersAsTranslated : Program → Call → Reply → Type 0
AnswersAsTranslated program call reply =
    let start : Areas = (fresh program.dbs).areas in
    (after : Areas) (fault : Option Fault) → Fits program call → stl_run program call start 1000000 ≡ Ended after fault
    → reply ≡ run_reply start (Ended after fault)

-- Jobs

-- the work of a job with a program
abbrev pub work_of : Job → Work Program
work_of job.Translate = alone AnswersTranslate
work_of job.Check = alone AnswersCheck
work_of (job.Run steps call) = on_image (AnswersRunStl steps call)

-- the work of a job with a tree
abbrev pub text_work_of : TextJob → Work StProgram
text_work_of (text_job.Run units call) = on_image (AnswersRunSt units call)

-- the line of a task in the table of commands
abbrev pub row_of : Task → Row
row_of (task.Stl j) = stl (work_of j)
row_of (task.St j) = st (text_work_of j)
row_of (task.Demo networks) = own (demo_source networks) (AnswersDemo networks)

-- the task of a command
abbrev pub task_of : Command → Task
task_of command.Translate = task.Stl job.Translate
task_of command.Check = task.Stl job.Check
task_of (command.RunStl steps call) = task.Stl (job.Run steps call)
task_of (command.RunSt units call) = task.St (text_job.Run units call)
task_of (command.Demo networks) = task.Demo networks

-- a task does what the line of its command says
pub row_of_task : (asked : Command) → row_of (task_of asked) ≡ row asked
row_of_task command.Translate = refl
row_of_task command.Check = refl
row_of_task (command.RunStl steps call) = refl
row_of_task (command.RunSt units call) = refl
row_of_task (command.Demo networks) = refl

-- the answer of a job to a program and the bytes of an image
abbrev pub AnswersJob : Job → Program → List ℕ → Reply → Type 0
AnswersJob j program bytes reply = AnswersWork (work_of j) bytes program reply

-- the answer of a job to a tree and the bytes of an image
abbrev pub AnswersTextJob : TextJob → StProgram → List ℕ → Reply → Type 0
AnswersTextJob j tree bytes reply = AnswersWork (text_work_of j) bytes tree reply

-- How far an input was read

-- how far the image of a run was read
pub data ReadsImage (image : Input) (status : Status) : Type 0 where
  stopped : Stopped image status → IsReadWithin image IMAGE_LIMIT → ReadsImage image status
  long : SaysTooLong status → IsReadPast image IMAGE_LIMIT → ReadsImage image status
  whole : (bytes : List ℕ) → SaysRead status → IsReadWhole image bytes → ReadsImage image status

-- the image was not read, and no input was too long
abbrev pub ReadsNoImage : Input → Status → Type 0
ReadsNoImage image status = IsUntouched image × (SaysRead status ⊎ (status ≡ NoMemory))

-- how far the work of a command reads the image
abbrev pub ReadsWork : {X : Type 0} → Work X → Input → Status → Type 0
ReadsWork (alone To) image status = ReadsNoImage image status
ReadsWork (on_image To) image status = ReadsImage image status

-- What is written

-- a text was written, or a proper prefix of it
abbrev pub Ends : Option (List ℕ) → Option (List ℕ) → Status → List ℕ → Status → Type 0
Ends before after status bytes result =
    ((result ≡ status) × Took before after bytes) ⊎ ((result ≡ WriteFault) × TookFewer before after bytes)
