-- What the program answers. It is an exit status and the text that is written, by the command, the source and the
-- image.
-- Held against: this project's own commands.
use Rattle.std.specs.Prelude.{◌≡◌, ℕ, ◌<◌, ◌≤◌, ◌⊎◌, List, [], ◌++◌, length, Option, Some, None, Ok, Err, codes, decimal}
use Rattle.std.specs.List.{sum_by}
use Rattle.image_text.specs.Image.{image_of}
use Rattle.image_text.specs.Report.{report}
use Rattle.image_text.specs.declared.refusal.ImageRefusal.{ImageRefusal}
use Rattle.image_text.specs.declared.refusal.ImageRefusal.TheVariants as image
use Rattle.memory_areas.specs.Areas.{Areas, Contents, fresh}
use Rattle.memory_areas.specs.End.{End, Ended, Going as Unended}
use Rattle.memory_areas.specs.declared.data_block.DataBlock.{DataBlock}
use Rattle.s7_base.specs.Reason.{reason_text}
use Rattle.s7_base.specs.declared.outcome.Outcome.{Outcome}
use Rattle.s7_base.specs.declared.outcome.Outcome.TheVariants as outcome
use Rattle.s7_base.specs.declared.reason.Line.{Line}
use Rattle.s7_base.specs.declared.reason.Reason.{Reason}
use Rattle.s7_base.specs.declared.reason.Rejection.TheVariants as rejection
use Rattle.stl_tree.specs.StlRun.{Fits, stl_run}
use Rattle.stl_rules.specs.Verdict.{verdict}
use Rattle.memory_areas.specs.declared.call.BlockName.TheVariants.{Ob}
use Rattle.memory_areas.specs.declared.call.Call.{Call}
use Rattle.s7_demo.specs.Demo.{demo_source}
use Rattle.stl_tree.specs.declared.program.Block.{Block}
use Rattle.stl_tree.specs.declared.program.Program.{Program}
use Rattle.st_parser.specs.Texts.{IsTextOf, IsRefusedText}
use Rattle.st_tree.specs.Proper.{Proper}
use Rattle.st_tree.specs.Spelling.{spelling}
use Rattle.st_tree.specs.StRun.{FitsSt, st_run}
use Rattle.st_tree.specs.declared.program.StProgram.{StProgram}
use Rattle.stl_translate.specs.Named.{Named}
use Rattle.stl_translate.specs.Same.{Same}
use Rattle.stl_translate.specs.Shape.{Shape}
use Rattle.command_words.specs.declared.command.Command.{Command}
use Rattle.command_words.specs.declared.command.Command.TheVariants.{Translate, Check, RunStl, RunSt, Demo}
use Rattle.command_answers.specs.declared.limits.TheConstants.{INPUT_LIMIT, IMAGE_LIMIT}
use Rattle.command_answers.specs.declared.status.Status.{Status}
use Rattle.command_answers.specs.declared.status.Status.TheVariants.{Done, Refused, Usage, BadImage, BadCall, Faulted, Going, TooLong, NoMemory}

-- Lines

-- the answer to arguments that are no command
abbrev pub usage_line : List ℕ
usage_line = codes "usage: stl2st translate | check | run-stl STEPS CALL IMAGE | run-st UNITS CALL IMAGE | demo N\n"

-- the answer where an input is above its limit
abbrev pub too_long_line : List ℕ
too_long_line = codes "too long\n"

-- the answer of `check` where no rule is broken
abbrev pub accepted_line : List ℕ
accepted_line = codes "accepted\n"

-- the answer to a call that does not fit
abbrev pub bad_call_line : List ℕ
bad_call_line = codes "bad call\n"

-- the answer that names a broken rule
abbrev pub refusal_line : Line → Reason → List ℕ
refusal_line line reason = codes "line " ++ decimal line.0 ++ codes ": " ++ reason_text reason ++ codes "\n"

-- the answer that names a faulty line of an image
abbrev pub image_line : Line → List ℕ → List ℕ
image_line line name = codes "image line " ++ decimal line.0 ++ codes ": " ++ name ++ codes "\n"

-- Replies

-- the answer of a command: a status and a text
abbrev pub Reply : Type 0
Reply = Status × List ℕ

-- the answer to an image that is refused
abbrev pub image_reply : ImageRefusal → Reply
image_reply (image.BadLine line) = (BadImage, image_line line (codes "BadLine"))
image_reply (image.BadByte line) = (BadImage, image_line line (codes "BadByte"))
image_reply (image.OutsideArea line) = (BadImage, image_line line (codes "OutsideArea"))
image_reply image.NoMemory = (NoMemory, [])

-- the status of a run by its outcome
abbrev pub run_status : Outcome → Status
run_status (outcome.Ended None) = Done
run_status (outcome.Ended (Some f)) = Faulted
run_status outcome.Going = Going

-- the answer of a run within its bound: its report. The report of a run that goes on shows no memory, so it is made
-- with the memory at the start
abbrev pub run_reply : Areas → End → Reply
run_reply start (Ended areas f) = (run_status (outcome.Ended f), report (outcome.Ended f) areas)
run_reply start Unended = (run_status outcome.Going, report outcome.Going start)

-- Sources

-- an STL source is accepted as a program
abbrev pub IsAcceptedAs : List ℕ → Program → Type 0
IsAcceptedAs source program = verdict source ≡ Ok program

-- an STL source is refused on a line for a reason
abbrev pub IsRefusedSource : List ℕ → Line → Reason → Type 0
IsRefusedSource source line reason = verdict source ≡ Err (rejection.Refused line reason)

-- the answer to a source of a language. `Is` says what the source is read as, `Breaks` what its first broken rule is,
-- and `To` what is answered to what was read
pub data AnswersSource {X : Type 0} (Is : List ℕ → X → Type 0) (Breaks : List ℕ → Line → Reason → Type 0)
    (To : X → Reply → Type 0) (source : List ℕ) : Reply → Type 0 where
  source_too_long : INPUT_LIMIT < length source → AnswersSource Is Breaks To source (TooLong, too_long_line)
  refused : {line : Line} {reason : Reason} → length source ≤ INPUT_LIMIT → Breaks source line reason
      → AnswersSource Is Breaks To source (Refused, refusal_line line reason)
  read : {x : X} {reply : Reply} → length source ≤ INPUT_LIMIT → Is source x → To x reply
      → AnswersSource Is Breaks To source reply

-- the answer to an STL source, where `To` says the answer to its program
abbrev pub AnswersStl : (Program → Reply → Type 0) → List ℕ → Reply → Type 0
AnswersStl To source reply = AnswersSource IsAcceptedAs IsRefusedSource To source reply

-- the answer to a Structured Text, where `To` says the answer to its tree
abbrev pub AnswersSt : (StProgram → Reply → Type 0) → List ℕ → Reply → Type 0
AnswersSt To source reply = AnswersSource IsTextOf IsRefusedText To source reply

-- Programs and trees

-- the text means what the program means: it is the canonical spelling of a proper tree, it reads as this tree, and
-- the tree means the same as the program, has its names, and each unit has the shape that the body of its block allows
pub record Translates (program : Program) (text : List ℕ) : Type 0 where
  pub tree : StProgram
  pub proper : Proper tree
  pub spelled : text ≡ spelling tree
  pub reads_back : IsTextOf text tree
  pub same : Same program tree
  pub named : Named program tree
  pub shape : Shape program tree

-- the answer of `translate` to a program: a text that means what the program means
abbrev pub AnswersTranslate : Program → Reply → Type 0
AnswersTranslate program reply = (reply.0 ≡ Done) × Translates program reply.1

-- the answer of `check` to a program
abbrev pub AnswersCheck : Program → Reply → Type 0
AnswersCheck program reply = reply ≡ (Done, accepted_line)

-- the answer of a run to the text of an image, which begins with these data blocks: the image is too long or refused,
-- the call does not fit, or the run from the memory of the image has its report
pub data AnswersRun (blocks : List DataBlock) (Fits : Type 0) (run : Areas → End) (image : List ℕ)
    : Reply → Type 0 where
  image_too_long : IMAGE_LIMIT < length image → AnswersRun blocks Fits run image (TooLong, too_long_line)
  bad_image : {refused : ImageRefusal} → length image ≤ IMAGE_LIMIT → image_of image blocks ≡ Err refused
      → AnswersRun blocks Fits run image (image_reply refused)
  bad_call : {memory : Contents} → length image ≤ IMAGE_LIMIT → image_of image blocks ≡ Ok memory → ¬ Fits
      → AnswersRun blocks Fits run image (BadCall, bad_call_line)
  ran : {memory : Contents} → length image ≤ IMAGE_LIMIT → image_of image blocks ≡ Ok memory → Fits
      → AnswersRun blocks Fits run image (run_reply memory.areas (run memory.areas))

-- the answer of `run-stl` to a program
abbrev pub AnswersRunStl : ℕ → Call → List ℕ → Program → Reply → Type 0
AnswersRunStl steps call image program reply =
    AnswersRun program.dbs (Fits program call) (λ memory. stl_run program call memory steps) image reply

-- the answer of `run-st` to a tree
abbrev pub AnswersRunSt : ℕ → Call → List ℕ → StProgram → Reply → Type 0
AnswersRunSt units call image tree reply =
    AnswersRun tree.dbs (FitsSt tree call) (λ memory. st_run tree call memory units) image reply

-- The demo

-- how many instructions a program has, the end words of its blocks among them
abbrev pub instructions_in : Program → ℕ
instructions_in program = sum_by (λ (b : Block). length b.body) program.blocks

-- the summary of a demo of so many networks
abbrev pub summary : ℕ → Program → List ℕ
summary networks program =
    codes "networks " ++ decimal networks ++ codes "\ninstructions " ++ decimal (instructions_in program)
    ++ codes "\nruns equal\n"

-- the call that a demo runs
abbrev pub demo_call : Call
demo_call = record { block = Ob 1; instance = 0; actuals = [] }

-- the answer of a demo by the end of its run: the summary where that ends without a fault, else the answer of a run
abbrev pub demo_reply : ℕ → Program → Areas → End → Reply
demo_reply networks program start (Ended areas None) = (Done, summary networks program)
demo_reply networks program start (Ended areas (Some f)) = run_reply start (Ended areas (Some f))
demo_reply networks program start Unended = run_reply start Unended

-- the answer of a demo of so many networks to its program: OB 1 is run from the memory at the start, for at most
-- 1,000,000 steps. The run of a translation ends as this one, which `Same` promises
abbrev pub AnswersDemo : ℕ → Program → Reply → Type 0
AnswersDemo networks program reply =
    let start : Areas = (fresh program.dbs).areas in
    (Fits program demo_call × (reply ≡ demo_reply networks program start (stl_run program demo_call start 1000000)))
    ⊎ (¬ Fits program demo_call × (reply ≡ (BadCall, bad_call_line)))

-- Commands

-- how a command works on a program or a tree: on it alone, or on it and the bytes of an image
pub data Work (X : Type 0) : Type 1 where
  alone : (X → Reply → Type 0) → Work X
  on_image : (List ℕ → X → Reply → Type 0) → Work X

-- a line of the table of commands: the language of the source that is read, and the work on what it is read as; or an
-- STL source of the command's own, and what is answered to its program
pub data Row : Type 1 where
  stl : Work Program → Row
  st : Work StProgram → Row
  own : List ℕ → (Program → Reply → Type 0) → Row

-- THE TABLE OF COMMANDS: what each reads, and what it answers to that
abbrev pub row : Command → Row
row Translate = stl (alone AnswersTranslate)
row Check = stl (alone AnswersCheck)
row (RunStl steps call) = stl (on_image (AnswersRunStl steps call))
row (RunSt units call) = st (on_image (AnswersRunSt units call))
row (Demo networks) = own (demo_source networks) (AnswersDemo networks)

-- the answer of a command's work to the bytes of an image and to what was read
abbrev pub AnswersWork : {X : Type 0} → Work X → List ℕ → X → Reply → Type 0
AnswersWork (alone To) image x reply = To x reply
AnswersWork (on_image To) image x reply = To image x reply

-- the answer by a line of the table of commands to the bytes of a source and of an image
abbrev pub AnswersRow : Row → List ℕ → List ℕ → Reply → Type 0
AnswersRow (stl work) source image reply = AnswersStl (AnswersWork work image) source reply
AnswersRow (st work) source image reply = AnswersSt (AnswersWork work image) source reply
AnswersRow (own text To) source image reply = AnswersStl To text reply

-- the status and the text are an answer to a command, the bytes of the source and those of the image
abbrev pub Answers : Option Command → List ℕ → List ℕ → Reply → Type 0
Answers None source image reply = reply ≡ (Usage, usage_line)
Answers (Some command) source image reply = AnswersRow (row command) source image reply

-- a source is read by a line of the table of commands
abbrev pub ReadsSource : Row → Type 0
ReadsSource (stl work) = Unit {0}
ReadsSource (st work) = Unit {0}
ReadsSource (own text To) = ⊥

-- a source is read: there is a command, and it has no source of its own
abbrev pub WantsSource : Option Command → Type 0
WantsSource None = ⊥
WantsSource (Some command) = ReadsSource (row command)

-- a source of a language is within the limit and can be read
pub record IsRead {X : Type 0} (Is : List ℕ → X → Type 0) (source : List ℕ) : Type 0 where
  pub within : length source ≤ INPUT_LIMIT
  pub it : X
  pub is : Is source it

-- the work of a command needs an image
abbrev pub IsOnImage : {X : Type 0} → Work X → Type 0
IsOnImage (alone To) = ⊥
IsOnImage (on_image To) = Unit {0}

-- the image is read by a line of the table of commands: its work needs one, and the source is within the limit and
-- accepted or read
abbrev pub WantsRow : Row → List ℕ → Type 0
WantsRow (stl work) source = IsOnImage work × IsRead IsAcceptedAs source
WantsRow (st work) source = IsOnImage work × IsRead IsTextOf source
WantsRow (own text To) source = ⊥

-- the image is read: the command needs one, and its source is within the limit and accepted or read
abbrev pub Wants : Option Command → List ℕ → Type 0
Wants None source = ⊥
Wants (Some command) source = WantsRow (row command) source
