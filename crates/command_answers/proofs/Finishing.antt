-- What stands when a reply is written, or could not be: the theorem, and what follows from it.
use Rattle.std.proofs.Common.{◌≡◌, ℕ, ◌⊎◌, inl, inr, List, Option, Some, None, refl, sym, subst, ◌∙◌}
use Rattle.s7_base.specs.declared.reason.Line.{Line}
use Rattle.s7_base.specs.declared.reason.Reason.{Reason}
use Rattle.s7_io.specs.Sink.{Took}
use Rattle.stl_tree.specs.declared.program.Program.{Program}
use Rattle.command_answers.proofs.Answering.{HasBytes, some_bytes}
use Rattle.st_parser.specs.Texts.{IsTextOf, IsRefusedText}
use Rattle.command_answers.specs.Answer.{Reply, Row, row, stl, st, own, Work, alone, on_image, Answers, AnswersRow, AnswersSource, AnswersStl, AnswersTranslate, AnswersWork, IsAcceptedAs, IsOnImage, IsRead, IsRefusedSource, ReadsSource, Translates, Wants, WantsRow, WantsSource, source_too_long, refused, read}
use Rattle.command_answers.specs.Devices.{AreOf, Devices, Input, Output, ReadFailed}
use Rattle.command_answers.specs.Promises.{Completes, FailedToRead, HasCause, IsAnswered, IsTranslated, Sends, Translated, Writes}
use Rattle.command_words.specs.declared.command.Command.{Command}
use Rattle.command_words.specs.declared.command.Command.TheVariants.{Translate}
use Rattle.command_answers.specs.declared.reply.Reply.{Reply as Made}
use Rattle.command_answers.specs.declared.status.Status.{Status}
use Rattle.command_answers.specs.declared.status.Status.TheVariants.{Done, Refused, Usage, BadImage, BadCall, Faulted, Going, ReadFault, WriteFault, TooLong, NoMemory}
use Rattle.command_answers.specs.inner.Replies.{Answered, Ends, IsWritten, bytes_of_text, reply_of}

-- A text is written

module _ (command : Option Command) (source image : List ℕ) (out : Output) (reply : Reply) (answers : Answers command source image reply) where
  sends_whole : (status : Status) → IsWritten status → reply.0 ≡ status → Took out.taken out.taken_after reply.1 → Sends command source image out status
  sends_whole Done w e t = (reply, answers, e, t)
  sends_whole Refused w e t = (reply, answers, e, t)
  sends_whole Usage w e t = (reply, answers, e, t)
  sends_whole BadImage w e t = (reply, answers, e, t)
  sends_whole BadCall w e t = (reply, answers, e, t)
  sends_whole Faulted w e t = (reply, answers, e, t)
  sends_whole Going w e t = (reply, answers, e, t)
  sends_whole ReadFault w e t = absurd w
  sends_whole WriteFault w e t = absurd w
  sends_whole TooLong w e t = (reply, answers, e, t)
  sends_whole NoMemory w e t = absurd w

  sends : (result : Status) → IsWritten reply.0 → Ends out.taken out.taken_after reply.0 reply.1 result → Sends command source image out result
  sends result w (inl h) = subst (λ (s : Status). Sends command source image out s) (sym h.0) (sends_whole reply.0 w refl h.1)
  sends result w (inr h) = subst (λ (s : Status). Sends command source image out s) (sym h.0) (reply, answers, h.1)

-- what was written is the answer
pub written : (command : Option Command) (devices : Devices) (made : Made) (result : Status) (bytes : List ℕ)
    → Answered (Answers command) devices.program devices.image made
    → bytes ≡ bytes_of_text made.text → Ends devices.out.taken devices.out.taken_after made.status bytes result → Writes command result devices
written command devices made result bytes a same ends =
    let text : Ends devices.out.taken devices.out.taken_after made.status (bytes_of_text made.text) result =
    subst (λ (t : List ℕ). Ends devices.out.taken devices.out.taken_after made.status t result) same ends in
    record {
      source = a.source;
      of_source = a.of_source;
      image = a.bytes;
      of_image = a.of_image;
      sends = sends command a.source a.bytes devices.out (reply_of made) a.answers result a.written text;
    }

-- a write that failed raised the count of faults
pub write_cause : (R : Type 0) (status result : Status) → IsWritten status → (result ≡ status) ⊎ R → result ≡ WriteFault → R
write_cause R status result w (inl h) e = absurd (subst (λ (s : Status). IsWritten s) (sym h ∙ e) w)
write_cause R status result w (inr rose) e = rose

-- Nothing is written

pub nothing_read : (command : Option Command) (devices : Devices) → devices.out.taken_after ≡ devices.out.taken → Writes command ReadFault devices
nothing_read command devices same =
    let source : HasBytes devices.program.left = some_bytes devices.program.left in
    let image : HasBytes devices.image.left = some_bytes devices.image.left in
    record { source = source.bytes; of_source = source.of_input; image = image.bytes; of_image = image.of_input; sends = same }

pub no_memory : (command : Option Command) (devices : Devices) → devices.out.taken_after ≡ devices.out.taken → Writes command NoMemory devices
no_memory command devices same =
    let source : HasBytes devices.program.left = some_bytes devices.program.left in
    let image : HasBytes devices.image.left = some_bytes devices.image.left in
    record { source = source.bytes; of_source = source.of_input; image = image.bytes; of_image = image.of_input; sends = same }

-- Told inputs get their answer

told : (left : Option (List ℕ)) (bytes source : List ℕ) → AreOf left bytes → left ≡ Some source → bytes ≡ source
told None bytes source are e = cc
told (Some x) bytes source are e = cc

-- an answer to a source and to an image that is read only where it is wanted is one to what it would be
retold_source : {X : Type 0} (Is : List ℕ → X → Type 0) (Breaks : List ℕ → Line → Reason → Type 0)
    (To : List ℕ → X → Reply → Type 0) (source a image : List ℕ) (reply : Reply)
    → (IsRead Is source → a ≡ image) → AnswersSource Is Breaks (To a) source reply → AnswersSource Is Breaks (To image) source reply
retold_source Is Breaks To source a image reply same (source_too_long long) = source_too_long long
retold_source Is Breaks To source a image reply same (refused within breaks) = refused within breaks
retold_source Is Breaks To source a image reply same (read {x = x} {reply = r} within is answers) =
    read within is (subst (λ (t : List ℕ). To t x r) (same (record { within = within; it = x; is = is })) answers)

retold_work : {X : Type 0} (Is : List ℕ → X → Type 0) (Breaks : List ℕ → Line → Reason → Type 0) (work : Work X) (source a image : List ℕ) (reply : Reply)
    → (IsOnImage work × IsRead Is source → a ≡ image) → AnswersSource Is Breaks (AnswersWork work a) source reply
    → AnswersSource Is Breaks (AnswersWork work image) source reply
retold_work Is Breaks (alone To) source a image reply same answers = answers
retold_work Is Breaks (on_image To) source a image reply same answers = retold_source Is Breaks To source a image reply (λ is. same (tt, is)) answers

-- and one to a source that is read only where a command has none of its own
retold_row : (r : Row) (s source a image : List ℕ) (reply : Reply) → (ReadsSource r → s ≡ source) → (WantsRow r source → a ≡ image)
    → AnswersRow r s a reply → AnswersRow r source image reply
retold_row (stl work) s source a image reply has same answers =
    retold_work IsAcceptedAs IsRefusedSource work source a image reply same
    (subst (λ (text : List ℕ). AnswersSource IsAcceptedAs IsRefusedSource (AnswersWork work a) text reply) (has tt) answers)
retold_row (st work) s source a image reply has same answers =
    retold_work IsTextOf IsRefusedText work source a image reply same
    (subst (λ (text : List ℕ). AnswersSource IsTextOf IsRefusedText (AnswersWork work a) text reply) (has tt) answers)
retold_row (own text To) s source a image reply has same answers = answers

module _ (program image : Input) (s source a bytes : List ℕ) (of_source : AreOf program.left s) (of_image : AreOf image.left a) where
  retold : (command : Option Command) (reply : Reply) → (WantsSource command → program.left ≡ Some source)
      → (Wants command source → image.left ≡ Some bytes) → Answers command s a reply → Answers command source bytes reply
  retold None reply has is answers = answers
  retold (Some command) reply has is answers =
      retold_row (row command) s source a bytes reply (λ wanted. told program.left s source of_source (has wanted))
      (λ wanted. told image.left a bytes of_image (is wanted)) answers

  of_told : (command : Option Command) (result : Status) → (WantsSource command → program.left ≡ Some source)
      → (Wants command source → image.left ≡ Some bytes)
      → IsAnswered command s a result ⊎ (result ≡ NoMemory) → IsAnswered command source bytes result ⊎ (result ≡ NoMemory)
  of_told command result has is (inl (reply, answers, e)) = inl (reply, retold command reply has is answers, e)
  of_told command result has is (inr none) = inr none

-- the answer that was sent
sent : (command : Option Command) (source image : List ℕ) (out : Output) (result : Status) → Sends command source image out result
    → (result ≡ ReadFault → ⊥) → (result ≡ WriteFault → ⊥) → IsAnswered command source image result ⊎ (result ≡ NoMemory)
sent command source image out Done s r f = inl (s.0, s.1, sym s.2)
sent command source image out Refused s r f = inl (s.0, s.1, sym s.2)
sent command source image out Usage s r f = inl (s.0, s.1, sym s.2)
sent command source image out BadImage s r f = inl (s.0, s.1, sym s.2)
sent command source image out BadCall s r f = inl (s.0, s.1, sym s.2)
sent command source image out Faulted s r f = inl (s.0, s.1, sym s.2)
sent command source image out Going s r f = inl (s.0, s.1, sym s.2)
sent command source image out ReadFault s r f = absurd (r refl)
sent command source image out WriteFault s r f = absurd (f refl)
sent command source image out TooLong s r f = inl (s.0, s.1, sym s.2)
sent command source image out NoMemory s r f = inr refl

-- where the image is wanted the source is
source_wanted : (command : Option Command) (source : List ℕ) → Wants command source → WantsSource command
source_wanted None source wanted = wanted
source_wanted (Some command) source wanted = by_row (row command) wanted
  where
    by_row : (r : Row) → WantsRow r source → ReadsSource r
    by_row (stl work) wants = tt
    by_row (st work) wants = tt
    by_row (own text To) wants = wants

-- no read failed that the command is told of
not_failed : (command : Option Command) (program image : Input) (source : List ℕ)
    → (WantsSource command → program.left ≡ Some source) → (WantsSource command → ¬ ReadFailed program)
    → (Wants command source → ¬ ReadFailed image) → FailedToRead command program image → ⊥
not_failed command program image source e p i (inl (wanted, rose)) = p wanted rose
not_failed command program image source e p i (inr (bytes, are, wants, rose)) =
    let same : bytes ≡ source = told program.left bytes source are (e (source_wanted command bytes wants)) in
    i (subst (λ (s : List ℕ). Wants command s) same wants) rose

-- completeness follows from what is written and from the causes of faults
pub complete : (command : Option Command) (result : Status) (devices : Devices)
    → Writes command result devices → HasCause command result devices → Completes command result devices
complete command result devices w cause source image e is p i k =
    of_told devices.program devices.image w.source source w.image image w.of_source w.of_image command result e is
    (sent command w.source w.image devices.out result w.sends
    (λ fault. not_failed command devices.program devices.image source e p i (cause.read_fault fault))
    (λ fault. k (cause.write_fault fault)))

-- What a translation promises

-- an answer with status Done is a text of an accepted program
record HasText (source : List ℕ) (reply : Reply) : Type 0 where
  pub program : Program
  pub accepted : IsAcceptedAs source program
  pub translates : Translates program reply.1

has_text : (source : List ℕ) (reply : Reply) → AnswersStl AnswersTranslate source reply → reply.0 ≡ Done → HasText source reply
has_text source reply (source_too_long long) e = absurd cc
has_text source reply (refused within breaks) e = absurd cc
has_text source reply (read {x = program} within accepted answers) e = record { program = program; accepted = accepted; translates = answers.1 }

of_writes : (devices : Devices) → Writes (Some Translate) Done devices → IsTranslated devices
of_writes devices w =
    let reply : Reply = w.sends.0 in
    let text : HasText w.source reply = has_text w.source reply w.sends.1 w.sends.2 in
    record {
      source = w.source;
      of_source = w.of_source;
      program = text.program;
      accepted = text.accepted;
      text = reply.1;
      translates = text.translates;
      taken = w.sends.3;
    }

-- where `translate` is done, the written text means what the source means
pub translated : (command : Option Command) (result : Status) (devices : Devices) → Writes command result devices → Translated command result devices
translated command result devices w asked done =
    of_writes devices
    (subst (λ (m : Option Command). Writes m Done devices) asked (subst (λ (s : Status). Writes command s devices) done w))
