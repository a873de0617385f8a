-- How far the inputs were read, at each way out.
use Rattle.std.proofs.Common.{◌≡◌, ℕ, ◌≤◌, ◌⊎◌, inl, inr, List, length, Option, Some, None, refl, sym, ap, subst, ◌∙◌}
use Rattle.s7_base.specs.declared.reason.Line.{Line}
use Rattle.s7_base.specs.declared.reason.Reason.{Reason}
use Rattle.s7_base.specs.declared.reason.Rejection.TheVariants as rejection
use Rattle.std.specs.Prelude.{Result, Ok, Err}
use Rattle.st_parser.proofs.OneReading.{not_both}
use Rattle.st_parser.specs.Texts.{IsRefusedText}
use Rattle.st_tree.specs.declared.program.StProgram.{StProgram}
use Rattle.stl_tree.specs.declared.program.Program.{Program}
use Rattle.command_answers.proofs.Answering.{are_of}
use Rattle.command_answers.specs.declared.reply.Reply.{Reply as Made}
use Rattle.command_answers.specs.Answer.{Reply, Row, row, stl, st, own, Work, alone, on_image, IsOnImage, IsRead, IsRefusedSource, ReadsSource, WantsRow}
use Rattle.command_answers.specs.Devices.{AreOf, Input, ReadFailed}
use Rattle.command_answers.specs.Inputs.{IsReadWhole, IsReadWithin, IsUntouched, ReadsByRow, ReadsFor, ReadsInputs, ReadsNeither, SaysRead, SaysTooLong, Stopped, source_failed, source_long, source_alone, image_failed, image_long, both}
use Rattle.command_answers.specs.Promises.{FailedToRead}
use Rattle.command_words.specs.Command.{HasFewNetworks}
use Rattle.command_words.specs.declared.command.Command.{Command}
use Rattle.command_words.specs.declared.command.Command.TheVariants as asked
use Rattle.command_answers.specs.declared.limits.TheConstants.{INPUT_LIMIT}
use Rattle.command_answers.specs.declared.reply.Task.{Task}
use Rattle.command_answers.specs.declared.reply.Task.TheVariants as task
use Rattle.command_answers.specs.declared.status.Status.{Status}
use Rattle.command_answers.specs.declared.status.Status.TheVariants.{Done, Refused, Usage, BadImage, BadCall, Faulted, Going, ReadFault, WriteFault, TooLong, NoMemory}
use Rattle.command_answers.specs.inner.Replies.{Ends, IsWritten, ReadsImage, ReadsNoImage, ReadsWork, reply_of, row_of, row_of_task, task_of, stopped, long, whole}

-- Sources that want no image

-- a source that is refused wants none
pub refused_wants_none : (work : Work Program) (source : List ℕ) (line : Line) (reason : Reason)
    → IsRefusedSource source line reason → ¬ WantsRow (stl work) source
refused_wants_none work source line reason refused wanted =
    let clash : Ok wanted.1.it ≡ Err (rejection.Refused line reason) = sym wanted.1.is ∙ refused in
    absurd cc

pub refused_text_wants_none : (work : Work StProgram) (source : List ℕ) (line : Line) (reason : Reason)
    → IsRefusedText source line reason → ¬ WantsRow (st work) source
refused_text_wants_none work source line reason refused wanted = not_both source wanted.1.it line reason wanted.1.is refused

-- Sources that are accepted or read

module _ (Wanted : List ℕ → Type 0) (program image : Input) (source : List ℕ) (all : IsReadWhole program source) (status : Status) where
  -- the image of a run was read as far as it is said
  pub wanted : Wanted source → ReadsImage image status → ReadsFor Wanted program image status
  wanted wants (stopped s within) = image_failed source s all wants within
  wanted wants (long s past) = image_long source s all wants past
  wanted wants (whole bytes s all_of) = both source bytes s all wants all_of

  -- no image was read
  pub unwanted : ¬ Wanted source → IsReadWithin program INPUT_LIMIT → ReadsNoImage image status → ReadsFor Wanted program image status
  unwanted none within (untouched, inl s) = source_alone source s all none untouched
  unwanted none within (untouched, inr e) = source_failed (subst (λ (s : Status). Stopped program s) (sym e) tt) within untouched

-- what is read for work, where its source is read
pub work_reads : {X : Type 0} (Is : List ℕ → X → Type 0) (work : Work X) (program image : Input) (source : List ℕ) (x : X) (status : Status)
    → IsReadWhole program source
    → length source ≤ INPUT_LIMIT → IsReadWithin program INPUT_LIMIT → Is source x → ReadsWork work image status
    → ReadsFor (λ (text : List ℕ). IsOnImage work × IsRead Is text) program image status
work_reads Is (alone To) program image source x status all within most is r = unwanted _ program image source all status (λ wants. wants.0) most r
work_reads Is (on_image To) program image source x status all within most is r =
    wanted _ program image source all status (tt, record { within = within; it = x; is = is }) r

-- and for work on an image
pub image_reads : {X : Type 0} (work : Work X) (To : List ℕ → X → Reply → Type 0) (image : Input) (status : Status)
    → work ≡ on_image To → ReadsImage image status → ReadsWork work image status
image_reads {X = X} work To image status e r = subst (λ (w : Work X). ReadsWork w image status) (sym e) r

-- the command that is asked for
pub reads_asked : (m : Option Command) (command : Command) (t : Task) (program image : Input) (status : Status) → m ≡ Some command → t ≡ task_of command
    → ReadsByRow (row_of t) program image status → ReadsInputs m program image status
reads_asked m command t program image status e same reads =
    let row_is : row_of t ≡ row command = ap row_of same ∙ row_of_task command in
    subst (λ (k : Option Command). ReadsInputs k program image status) (sym e) (subst (λ (r : Row). ReadsByRow r program image status) row_is reads)

-- a demo has at most as many networks as its command
networks_of : Task → ℕ
networks_of (task.Demo networks) = networks
networks_of other = 0

pub few_networks : (command : Command) (networks : ℕ) → HasFewNetworks command → task.Demo networks ≡ task_of command → networks ≤ 50000
unfolding networks_of
few_networks asked.Translate networks few same = absurd cc
few_networks asked.Check networks few same = absurd cc
few_networks (asked.RunStl steps call) networks few same = absurd cc
few_networks (asked.RunSt units call) networks few same = absurd cc
few_networks (asked.Demo most) networks few same =
    subst (λ (n : ℕ). n ≤ 50000) (sym (ap networks_of same)) few

-- a source that is refused is read alone
pub refused_alone : (Wanted : List ℕ → Type 0) (program image : Input) (source : List ℕ) (made : Made) (text : List ℕ)
    → reply_of made ≡ (Refused, text) → IsReadWhole program source
    → ¬ Wanted source → IsUntouched image → ReadsFor Wanted program image made.status
refused_alone Wanted program image source made text e all none untouched =
    source_alone source (subst (λ (s : Status). SaysRead s) (sym (ap (λ (r : Reply). r.0) e)) tt) all none untouched

-- an input that was read whole is not too long
pub not_none : {A E : Type 0} (o : Option A) (x : A) → o ≡ Some x → (read : Result (Option A) E) → read ≡ Ok o → read ≡ Ok None → ⊥
not_none o x e read is none = cc

-- The status of what is written

not_stopped : (i : Input) (status : Status) → IsWritten status → Stopped i status → ⊥
not_stopped i Done w s = s
not_stopped i Refused w s = s
not_stopped i Usage w s = s
not_stopped i BadImage w s = s
not_stopped i BadCall w s = s
not_stopped i Faulted w s = s
not_stopped i Going w s = s
not_stopped i ReadFault w s = w
not_stopped i WriteFault w s = w
not_stopped i TooLong w s = s
not_stopped i NoMemory w s = w

written_read : (program image : Input) (Wanted : List ℕ → Type 0) (status : Status) → IsWritten status
    → ReadsFor Wanted program image status → ReadsFor Wanted program image WriteFault
written_read program image Wanted status w (source_failed s within untouched) = absurd (not_stopped program status w s)
written_read program image Wanted status w (source_long s past untouched) = source_long (inr refl) past untouched
written_read program image Wanted status w (source_alone source s all none untouched) = source_alone source tt all none untouched
written_read program image Wanted status w (image_failed source s all wants within) = absurd (not_stopped image status w s)
written_read program image Wanted status w (image_long source s all wants past) = image_long source (inr refl) all wants past
written_read program image Wanted status w (both source text s all wants all_of) = both source text tt all wants all_of

neither_at_write_fault : (program image : Input) (status : Status) → ReadsNeither program image status → ReadsNeither program image WriteFault
neither_at_write_fault program image status r = (r.0, r.1, λ e. cc)

row_at_write_fault : (r : Row) (program image : Input) (status : Status) → IsWritten status
    → ReadsByRow r program image status → ReadsByRow r program image WriteFault
row_at_write_fault (stl work) program image status w r = written_read program image (WantsRow (stl work)) status w r
row_at_write_fault (st work) program image status w r = written_read program image (WantsRow (st work)) status w r
row_at_write_fault (own text To) program image status w r = neither_at_write_fault program image status r

at_write_fault : (command : Option Command) (program image : Input) (status : Status) → IsWritten status
    → ReadsInputs command program image status → ReadsInputs command program image WriteFault
at_write_fault None program image status w r = neither_at_write_fault program image status r
at_write_fault (Some command) program image status w r = row_at_write_fault (row command) program image status w r

-- the inputs were read as far as the status says, whether the text was written whole or not
pub inputs_read : (command : Option Command) (program image : Input) (before after : Option (List ℕ)) (status result : Status) (text : List ℕ) →
    IsWritten status → Ends before after status text result → ReadsInputs command program image status → ReadsInputs command program image result
inputs_read command program image before after status result text w (inl h) r = subst (λ (s : Status). ReadsInputs command program image s) (sym h.0) r
inputs_read command program image before after status result text w (inr h) r =
    subst (λ (s : Status). ReadsInputs command program image s) (sym h.0) (at_write_fault command program image status w r)

-- Causes

not_long : SaysTooLong ReadFault → ⊥
not_long (inl e) = cc
not_long (inr e) = cc

-- a read failed that a line of the table of commands asks for
abbrev FailedByRow : Row → Input → Input → Type 0
FailedByRow r program image =
    (ReadsSource r × ReadFailed program)
    ⊎ ((source : List ℕ) × AreOf program.left source × WantsRow r source × ReadFailed image)

failed_for : (r : Row) (program image : Input) → ReadsSource r → ReadsFor (WantsRow r) program image ReadFault → FailedByRow r program image
failed_for r program image reads (source_failed s within untouched) = inl (reads, s)
failed_for r program image reads (source_long s past untouched) = absurd (not_long s)
failed_for r program image reads (source_alone source s all none untouched) = absurd s
failed_for r program image reads (image_failed source s all wants within) = inr (source, are_of program.left program.left_after source all, wants, s)
failed_for r program image reads (image_long source s all wants past) = absurd (not_long s)
failed_for r program image reads (both source text s all wants all_of) = absurd s

failed_by : (r : Row) (program image : Input) → ReadsByRow r program image ReadFault → FailedByRow r program image
failed_by (stl work) program image reads = failed_for (stl work) program image tt reads
failed_by (st work) program image reads = failed_for (st work) program image tt reads
failed_by (own text To) program image reads = absurd (reads.2 refl)

-- where the status is ReadFault a read failed
pub read_cause : (command : Option Command) (program image : Input) (status : Status)
    → ReadsInputs command program image status → status ≡ ReadFault → FailedToRead command program image
read_cause None program image status r e = absurd (r.2 e)
read_cause (Some command) program image status r e =
    failed_by (row command) program image (subst (λ (s : Status). ReadsByRow (row command) program image s) e r)
