-- How the parts of a reply give its answer.
use Rattle.std.proofs.Common.{◌≡◌, ℕ, ◌+◌, ◌<◌, ◌≤◌, inl, inr, List, [], length, Option, Some, None, refl, sym, ap, subst, ◌∙◌, Result, Ok, Err, arith, length-append}
use Rattle.std.specs.Prelude.{IfOk}
use Rattle.s7_base.specs.declared.outcome.Outcome.{Outcome}
use Rattle.s7_base.specs.declared.outcome.Outcome.TheVariants as outcome
use Rattle.s7_base.specs.declared.reason.Line.{Line}
use Rattle.s7_base.specs.declared.reason.Reason.{Reason}
use Rattle.s7_demo.specs.Demo.{demo_source}
use Rattle.s7_io.specs.Source.{GaveAll, GaveExactly}
use Rattle.image_text.specs.Image.{image_of}
use Rattle.image_text.specs.Reading.{Reads as ReadsAs}
use Rattle.image_text.specs.Report.{report}
use Rattle.image_text.specs.declared.refusal.ImageRefusal.{ImageRefusal}
use Rattle.image_text.specs.declared.refusal.ImageRefusal.TheVariants as why
use Rattle.memory_areas.specs.Areas.{Areas, Contents}
use Rattle.memory_areas.specs.End.{End}
use Rattle.memory_areas.specs.declared.data_block.DataBlock.{DataBlock}
use Rattle.st_parser.proofs.TextReads.{proper_reads}
use Rattle.st_parser.specs.Texts.{IsTextOf}
use Rattle.st_runner.specs.Standing.{Shows}
use Rattle.st_tree.specs.Proper.{Proper}
use Rattle.st_tree.specs.Spelling.{spelling}
use Rattle.st_tree.specs.declared.program.StProgram.{StProgram}
use Rattle.stl_machine.specs.Machine.{memory_of, outcome_of}
use Rattle.stl_translate.specs.Named.{Named}
use Rattle.stl_translate.specs.Same.{Same}
use Rattle.stl_translate.specs.Shape.{Shape}
use Rattle.stl_tree.specs.StlRun.{Standing, running, over, end_of}
use Rattle.stl_tree.specs.declared.program.Program.{Program}
use Rattle.command_answers.specs.Answer.{Reply, Row, row, Work, alone, Answers, AnswersDemo, AnswersRow, AnswersRun, AnswersSource, AnswersStl, AnswersWork, Translates, image_reply, refusal_line, run_reply, run_status, too_long_line, usage_line, source_too_long, refused, read, image_too_long, bad_image, bad_call, ran}
use Rattle.command_answers.specs.Devices.{AreOf, Input}
use Rattle.command_answers.specs.Inputs.{IsReadPast, IsReadWhole}
use Rattle.command_words.specs.declared.command.Command.{Command}
use Rattle.command_answers.specs.declared.limits.TheConstants.{INPUT_LIMIT, IMAGE_LIMIT}
use Rattle.command_answers.specs.declared.reply.Reply.{Reply as Made}
use Rattle.command_answers.specs.declared.reply.Stop.{Stop}
use Rattle.command_answers.specs.declared.reply.Task.TheVariants as task
use Rattle.command_answers.specs.declared.status.Status.{Status}
use Rattle.command_answers.specs.declared.status.Status.TheVariants.{Done, Refused, Usage, TooLong}
use Rattle.command_answers.specs.inner.Replies.{Answered, AnsweredCall, AnsweredTo, IsWritten, reply_of, row_of, row_of_task, task_of}

-- Bytes of an input

-- bytes that are all of an input are its bytes
pub are_of : (before after : Option (List ℕ)) (bytes : List ℕ) → GaveAll before after bytes → AreOf before bytes
are_of None None bytes h = tt
are_of None (Some after) bytes h = absurd h
are_of (Some before) None bytes h = absurd h
are_of (Some before) (Some after) bytes h = h.0

-- an input that gave more bytes than its limit has more
record IsLong (left : Option (List ℕ)) (limit : ℕ) : Type 0 where
  pub bytes : List ℕ
  pub of_input : AreOf left bytes
  pub long : limit < length bytes

is_long : (before after : Option (List ℕ)) (limit : ℕ) → GaveExactly before after (limit + 1) → IsLong before limit
is_long None None limit (bytes, same, gave) = record { bytes = bytes; of_input = tt; long = omega arith }
is_long None (Some after) limit (bytes, same, gave) = absurd gave
is_long (Some before) None limit (bytes, same, gave) = absurd gave
is_long (Some before) (Some after) limit (bytes, same, gave) =
    record { bytes = before; of_input = refl; long = omega (arith, ap length gave, length-append bytes after) }

-- some bytes of an input
pub record HasBytes (left : Option (List ℕ)) : Type 0 where
  pub bytes : List ℕ
  pub of_input : AreOf left bytes

pub some_bytes : (left : Option (List ℕ)) → HasBytes left
some_bytes None = record { bytes = []; of_input = tt }
some_bytes (Some told) = record { bytes = told; of_input = refl }

-- a reply with a status that is written has one
status_written : (made : Made) (status : Status) (line : List ℕ) → reply_of made ≡ (status, line) → IsWritten status → IsWritten made.status
status_written made status line e w = subst (λ (s : Status). IsWritten s) (sym (ap (λ (r : Reply). r.0) e)) w

-- The image of a run

module _ (blocks : List DataBlock) (Fits : Type 0) (run : Areas → End) (i : Input) (made : Made) where
  -- the reply to an image that is too long
  pub run_too_long : IsReadPast i IMAGE_LIMIT → reply_of made ≡ (TooLong, too_long_line)
      → AnsweredTo (λ bytes reply. AnswersRun blocks Fits run bytes reply) i made
  run_too_long past e =
      let long : IsLong i.left IMAGE_LIMIT = is_long i.left i.left_after IMAGE_LIMIT past in
      record {
        bytes = long.bytes;
        of_image = long.of_input;
        answers = subst (λ (r : Reply). AnswersRun blocks Fits run long.bytes r) (sym e) (image_too_long long.long);
        written = status_written made TooLong too_long_line e tt;
      }

  -- the reply to an image that is refused
  pub run_refused : (bytes : List ℕ) (refusal : ImageRefusal) → IsReadWhole i bytes → length bytes ≤ IMAGE_LIMIT
      → ReadsAs (Err refusal) (image_of bytes blocks) → reply_of made ≡ image_reply refusal
      → IsWritten made.status → AnsweredTo (λ bytes reply. AnswersRun blocks Fits run bytes reply) i made
  run_refused bytes (why.BadLine line) all within judged e w =
      record {
        bytes = bytes;
        of_image = are_of i.left i.left_after bytes all;
        answers = subst (λ (r : Reply). AnswersRun blocks Fits run bytes r) (sym e) (bad_image within judged);
        written = w;
      }
  run_refused bytes (why.BadByte line) all within judged e w =
      record {
        bytes = bytes;
        of_image = are_of i.left i.left_after bytes all;
        answers = subst (λ (r : Reply). AnswersRun blocks Fits run bytes r) (sym e) (bad_image within judged);
        written = w;
      }
  run_refused bytes (why.OutsideArea line) all within judged e w =
      record {
        bytes = bytes;
        of_image = are_of i.left i.left_after bytes all;
        answers = subst (λ (r : Reply). AnswersRun blocks Fits run bytes r) (sym e) (bad_image within judged);
        written = w;
      }
  run_refused bytes why.NoMemory all within judged e w = absurd (subst (λ (s : Status). IsWritten s) (ap (λ (r : Reply). r.0) e) w)

  -- the reply of a run from the memory of an image
  pub run_from : (bytes : List ℕ) (memory : Contents) → IsReadWhole i bytes → length bytes ≤ IMAGE_LIMIT
      → image_of bytes blocks ≡ Ok memory → AnsweredCall Fits run memory.areas made
      → IsWritten made.status → AnsweredTo (λ bytes reply. AnswersRun blocks Fits run bytes reply) i made
  run_from bytes memory all within judged (inl (fits, e)) w =
      record {
        bytes = bytes;
        of_image = are_of i.left i.left_after bytes all;
        answers = subst (λ (r : Reply). AnswersRun blocks Fits run bytes r) (sym e) (ran within judged fits);
        written = w;
      }
  run_from bytes memory all within judged (inr (misfit, e)) w =
      record {
        bytes = bytes;
        of_image = are_of i.left i.left_after bytes all;
        answers = subst (λ (r : Reply). AnswersRun blocks Fits run bytes r) (sym e) (bad_call within judged misfit);
        written = w;
      }

-- the report of a run is that of its end, which an outcome and a memory show
pub run_shown : (o : Outcome) (shown : End) (start areas : Areas) (made : Made) → Shows o shown areas
    → reply_of made ≡ (run_status o, report o areas) → reply_of made ≡ run_reply start shown
run_shown (outcome.Ended f) shown start areas made s e = e ∙ sym (ap (run_reply start) s)
run_shown outcome.Going shown start areas made s e = e ∙ sym (ap (run_reply start) s)

-- and that of a run of STL, which its standing shows
pub run_stood : (s : Standing) (start : Areas) (made : Made)
    → reply_of made ≡ (run_status (outcome_of s), report (outcome_of s) (memory_of s).areas) → reply_of made ≡ run_reply start (end_of s)
run_stood (running program now) start made e = e
run_stood (over memory f) start made e = e

-- Work

-- the reply of work that needs no image
pub done_alone : {X : Type 0} (work : Work X) (To : X → Reply → Type 0) (x : X) (i : Input) (made : Made) (text : List ℕ)
    → work ≡ alone To → reply_of made ≡ (Done, text) → To x (Done, text)
    → AnsweredTo (λ bytes reply. AnswersWork work bytes x reply) i made
done_alone {X = X} work To x i made text e reply answers =
    let any : HasBytes i.left = some_bytes i.left in
    subst (λ (w : Work X). AnsweredTo (λ bytes r. AnswersWork w bytes x r) i made) (sym e)
    (record {
      bytes = any.bytes;
      of_image = any.of_input;
      answers = subst (λ (r : Reply). To x r) (sym reply) answers;
      written = status_written made Done text reply tt;
    })

-- the spelling of a proper tree that means the same as a program, and has its names and shape, is a text that means what the
-- program means
pub translates : (program : Program) (tree : StProgram) (text : List ℕ) → Proper tree → Same program tree → Named program tree
    → Shape program tree → text ≡ spelling tree → Translates program text
translates program tree text proper same named shape spelled =
    record {
      tree = tree;
      proper = proper;
      spelled = spelled;
      reads_back = subst (λ (written : List ℕ). IsTextOf written tree) (sym spelled) (proper_reads tree proper);
      same = same;
      named = named;
      shape = shape;
    }

-- Sources

-- what is answered to a source and the bytes of an image
abbrev pub OfSource : {X : Type 0} → (List ℕ → X → Type 0) → (List ℕ → Line → Reason → Type 0)
    → (List ℕ → X → Reply → Type 0) → List ℕ → List ℕ → Reply → Type 0
OfSource Is Breaks To source bytes reply = AnswersSource Is Breaks (To bytes) source reply

module _ {X : Type 0} (Is : List ℕ → X → Type 0) (Breaks : List ℕ → Line → Reason → Type 0) (To : List ℕ → X → Reply → Type 0) (program image : Input) where
  -- the reply to a source that is too long
  pub source_long : (made : Made) → IsReadPast program INPUT_LIMIT
      → reply_of made ≡ (TooLong, too_long_line) → Answered (OfSource Is Breaks To) program image made
  source_long made past e =
      let long : IsLong program.left INPUT_LIMIT = is_long program.left program.left_after INPUT_LIMIT past in
      let any : HasBytes image.left = some_bytes image.left in
      record {
        source = long.bytes;
        of_source = long.of_input;
        bytes = any.bytes;
        of_image = any.of_input;
        answers = subst (λ (r : Reply). AnswersSource Is Breaks (To any.bytes) long.bytes r) (sym e) (source_too_long long.long);
        written = status_written made TooLong too_long_line e tt;
      }

  -- the reply to a source that is refused
  pub source_refused : (bytes : List ℕ) (line : Line) (reason : Reason) (made : Made)
      → IsReadWhole program bytes → length bytes ≤ INPUT_LIMIT → Breaks bytes line reason
      → reply_of made ≡ (Refused, refusal_line line reason) → Answered (OfSource Is Breaks To) program image made
  source_refused bytes line reason made all within judged e =
      let any : HasBytes image.left = some_bytes image.left in
      record {
        source = bytes;
        of_source = are_of program.left program.left_after bytes all;
        bytes = any.bytes;
        of_image = any.of_input;
        answers = subst (λ (r : Reply). AnswersSource Is Breaks (To any.bytes) bytes r) (sym e) (refused within judged);
        written = status_written made Refused (refusal_line line reason) e tt;
      }

  -- the reply to a source that is read
  pub source_read : (bytes : List ℕ) (x : X) (r : Result Made Stop) → IsReadWhole program bytes → length bytes ≤ INPUT_LIMIT → Is bytes x
      → IfOk r (AnsweredTo (λ image reply. To image x reply) image) → IfOk r (Answered (OfSource Is Breaks To) program image)
  source_read bytes x (Ok made) all within judged a =
      record {
        source = bytes;
        of_source = are_of program.left program.left_after bytes all;
        bytes = a.bytes;
        of_image = a.of_image;
        answers = read within judged a.answers;
        written = a.written;
      }
  source_read bytes x (Err stop) all within judged a = tt

-- the reply to arguments that are no command
usage_reply : (program image : Input) (made : Made) → reply_of made ≡ (Usage, usage_line) → Answered (Answers None) program image made
usage_reply program image made e =
    let any : HasBytes program.left = some_bytes program.left in
    let text : HasBytes image.left = some_bytes image.left in
    record {
      source = any.bytes;
      of_source = any.of_input;
      bytes = text.bytes;
      of_image = text.of_input;
      answers = e;
      written = status_written made Usage usage_line e tt;
    }

pub usage_asked : (m : Option Command) (program image : Input) (made : Made) → m ≡ None
    → reply_of made ≡ (Usage, usage_line) → Answered (Answers m) program image made
usage_asked m program image made none e = subst (λ (k : Option Command). Answered (Answers k) program image made) (sym none) (usage_reply program image made e)

-- the reply to a demo
pub demo_answered : (m : Option Command) (command : Command) (networks : ℕ) (program image : Input) (made : Made)
    → m ≡ Some command → task.Demo networks ≡ task_of command
    → AnswersStl (AnswersDemo networks) (demo_source networks) (reply_of made) → IsWritten made.status
    → Answered (Answers m) program image made
demo_answered m command networks program image made e same answers w =
    let any : HasBytes program.left = some_bytes program.left in
    let text : HasBytes image.left = some_bytes image.left in
    let row_is : row_of (task.Demo networks) ≡ row command = ap row_of same ∙ row_of_task command in
    record {
      source = any.bytes;
      of_source = any.of_input;
      bytes = text.bytes;
      of_image = text.of_input;
      answers = subst (λ (k : Option Command). Answers k any.bytes text.bytes (reply_of made)) (sym e)
          (subst (λ (r : Row). AnswersRow r any.bytes text.bytes (reply_of made)) row_is answers);
      written = w;
    }
