-- The runs of a demo: that of its program, and that of the text of its translation.
use Rattle.std.proofs.Common.{◌≡◌, ◌≢◌, ℕ, ◌*◌, ◌+◌, ◌≤◌, inl, inr, List, length, Some, None, Result, Ok, Err, refl, sym, ap, subst, ◌∙◌, arith}
use Rattle.std.specs.Prelude.{IfOk}
use Rattle.s7_base.specs.declared.reason.Line.{Line}
use Rattle.s7_base.specs.declared.reason.Reason.{Reason}
use Rattle.s7_base.specs.declared.reason.Rejection.TheVariants as rejection
use Rattle.s7_demo.specs.Demo.{demo_source}
use Rattle.memory_areas.specs.Areas.{Areas, Contents, IsMemoryOf, fresh}
use Rattle.memory_areas.specs.End.{End, Ended, Going as Unended}
use Rattle.memory_areas.specs.declared.call.Call.{Call}
use Rattle.memory_areas.specs.declared.data_block.DataBlock.{DataBlock}
use Rattle.st_parser.proofs.OneReading.{not_both, one_tree}
use Rattle.st_parser.proofs.TextReads.{proper_reads}
use Rattle.st_parser.specs.Texts.{IsTextOf, IsRefusedText}
use Rattle.st_tree.specs.Proper.{Proper}
use Rattle.st_tree.specs.Spelling.{spelling}
use Rattle.st_tree.specs.StRun.{FitsSt, st_run}
use Rattle.st_tree.specs.declared.program.StProgram.{StProgram}
use Rattle.stl_translate.specs.Same.{Same}
use Rattle.stl_rules.specs.Verdict.{verdict}
use Rattle.stl_tree.specs.StlRun.{Fits, stl_run}
use Rattle.stl_tree.specs.declared.program.Program.{Program}
use Rattle.command_answers.specs.Answer.{AnswersDemo, AnswersStl, Reply, bad_call_line, demo_call, demo_reply, read, refusal_line, refused, run_reply, summary}
use Rattle.command_answers.specs.declared.limits.TheConstants.{INPUT_LIMIT}
use Rattle.command_answers.specs.declared.reply.Reply.{Reply as Made}
use Rattle.command_answers.specs.declared.status.Status.TheVariants.{BadCall, Done, Faulted, Going, Refused}
use Rattle.command_answers.specs.inner.Replies.{AnsweredCall, AnswersAsTranslated, bytes_of_text, reply_of}

-- Reading back

-- what is printed is the text of its tree
text_of : (tree : StProgram) (bytes : List ℕ) → Proper tree → bytes ≡ spelling tree → IsTextOf bytes tree
text_of tree bytes proper e = subst (λ (text : List ℕ). IsTextOf text tree) (sym e) (proper_reads tree proper)

-- so it is not refused
pub never_refused : (tree : StProgram) (bytes : List ℕ) (line : Line) (reason : Reason) → Proper tree → bytes ≡ spelling tree
    → IsRefusedText bytes line reason → ⊥
never_refused tree bytes line reason proper e breaks = not_both bytes tree line reason (text_of tree bytes proper e) breaks

-- and reads as a tree that means the same
pub same_read : (program : Program) (tree found : StProgram) (bytes : List ℕ) → Proper tree → Same program tree → bytes ≡ spelling tree
    → IsTextOf bytes found → Same program found
same_read program tree found bytes proper same e reads =
    subst (λ (t : StProgram). Same program t) (one_tree bytes tree found (text_of tree bytes proper e) reads) same

-- The run of a translation

-- it ends as that of its program
pub as_translated : (program : Program) (call : Call) (tree : StProgram) (made : Made) (memory : Contents) → Same program tree
    → memory ≡ fresh tree.dbs → IsMemoryOf tree.dbs memory.areas
    → AnsweredCall (FitsSt tree call) (λ (start : Areas). st_run tree call start 2000000) memory.areas made
    → AnswersAsTranslated program call (reply_of made)
as_translated program call tree made memory same new sized (inr (misfit, e)) after fault fits ends = absurd (misfit (same.fits call fits))
as_translated program call tree made memory same new sized (inl (fits_text, e)) after fault fits ends =
    let start : Areas = (fresh program.dbs).areas in
    let at : memory.areas ≡ start = ap (λ (m : Contents). m.areas) (new ∙ ap fresh same.blocks) in
    let its : IsMemoryOf program.dbs start =
    subst (λ (dbs : List DataBlock). IsMemoryOf dbs start) same.blocks (subst (λ (areas : Areas). IsMemoryOf tree.dbs areas) at sized) in
    let answer : reply_of made ≡ run_reply start (st_run tree call start 2000000) =
    subst (λ (areas : Areas). reply_of made ≡ run_reply areas (st_run tree call areas 2000000)) at e in
    let both : st_run tree call start 2000000 ≡ Ended after fault = (same.runs call fits).forth start its 1000000 after fault ends in
    answer ∙ ap (run_reply start) both

-- the same of an answer that memory may be missing for
pub translated_reply : {E : Type 0} (program : Program) (call : Call) (tree : StProgram) (blocks : List DataBlock) (memory : Contents) (r : Result Made E)
    → Same program tree → blocks ≡ tree.dbs → memory ≡ fresh blocks → IsMemoryOf blocks memory.areas
    → IfOk r (AnsweredCall (FitsSt tree call) (λ (start : Areas). st_run tree call start 2000000) memory.areas)
    → IfOk r (λ (made : Made). AnswersAsTranslated program call (reply_of made))
translated_reply program call tree blocks memory (Ok made) same are new sized answer =
    as_translated program call tree made memory same (new ∙ ap fresh are)
    (subst (λ (dbs : List DataBlock). IsMemoryOf dbs memory.areas) are sized) answer
translated_reply program call tree blocks memory (Err stop) same are new sized answer = tt

-- The run of the program

-- a run with the reply Done has ended without a fault
record HasEnded (Fit : Type 0) (run : Areas → End) (start : Areas) (made : Made) : Type 0 where
  pub fits : Fit
  pub after : Areas
  pub ends : run start ≡ Ended after None
  pub shows : reply_of made ≡ run_reply start (Ended after None)

status_of : (made : Made) (reply : Reply) → reply_of made ≡ reply → made.status ≡ reply.0
status_of made reply e = ap (λ (r : Reply). r.0) e

ended_so : (Fit : Type 0) (run : Areas → End) (start : Areas) (made : Made) (end : End) → Fit → run start ≡ end
    → reply_of made ≡ run_reply start end → made.status ≡ Done → HasEnded Fit run start made
ended_so Fit run start made (Ended after None) fits e shows done = record { fits = fits; after = after; ends = e; shows = shows }
ended_so Fit run start made (Ended after (Some f)) fits e shows done =
    let s : made.status ≡ Faulted = status_of made (run_reply start (Ended after (Some f))) shows in
    absurd cc
ended_so Fit run start made Unended fits e shows done =
    let s : made.status ≡ Going = status_of made (run_reply start Unended) shows in
    absurd cc

has_ended : (Fit : Type 0) (run : Areas → End) (start : Areas) (made : Made) → AnsweredCall Fit run start made → made.status ≡ Done
    → HasEnded Fit run start made
has_ended Fit run start made (inl (fits, e)) done = ended_so Fit run start made (run start) fits refl e done
has_ended Fit run start made (inr (misfit, e)) done =
    let s : made.status ≡ BadCall = status_of made (BadCall, bad_call_line) e in
    absurd cc

-- the answer of a demo to an end that is not Done is that of a run
not_done : (networks : ℕ) (program : Program) (start : Areas) (made : Made) (end : End) → made.status ≢ Done
    → reply_of made ≡ run_reply start end → reply_of made ≡ demo_reply networks program start end
not_done networks program start made (Ended after None) other e = absurd (other (status_of made _ e))
not_done networks program start made (Ended after (Some f)) other e = e
not_done networks program start made Unended other e = e

module _ (networks : ℕ) (program : Program) (call : Call) (memory : Contents) (called : call ≡ demo_call) (new : memory ≡ fresh program.dbs) where
  -- what is answered to the call of a demo
  of_demo : (made : Made) → AnsweredCall (Fits program call) (λ (areas : Areas). stl_run program call areas 1000000) memory.areas made
      → AnsweredCall (Fits program demo_call) (λ (areas : Areas). stl_run program demo_call areas 1000000) (fresh program.dbs).areas made
  of_demo made answer =
      subst (λ (areas : Areas). AnsweredCall (Fits program demo_call) (λ (a : Areas). stl_run program demo_call a 1000000) areas made)
      (ap (λ (m : Contents). m.areas) new)
      (subst (λ (c : Call). AnsweredCall (Fits program c) (λ (a : Areas). stl_run program c a 1000000) memory.areas made) called answer)

  unfinished : (made : Made) → made.status ≢ Done
      → AnsweredCall (Fits program demo_call) (λ (areas : Areas). stl_run program demo_call areas 1000000) (fresh program.dbs).areas made
      → AnswersDemo networks program (reply_of made)
  unfinished made other (inl (fits, e)) = inl (fits, not_done networks program (fresh program.dbs).areas made _ other e)
  unfinished made other (inr (misfit, e)) = inr (misfit, e)

  -- a reply that is not Done is the answer
  pub answers_run : (made : Made) → made.status ≢ Done
      → AnsweredCall (Fits program call) (λ (areas : Areas). stl_run program call areas 1000000) memory.areas made
      → AnswersDemo networks program (reply_of made)
  answers_run made other answer = unfinished made other (of_demo made answer)

  -- else the summary is
  pub answers_summary : (made : Made) (reply : Reply) → made.status ≡ Done
      → AnsweredCall (Fits program call) (λ (areas : Areas). stl_run program call areas 1000000) memory.areas made
      → reply ≡ (Done, summary networks program) → AnswersDemo networks program reply
  answers_summary made reply done answer e =
      let end : HasEnded (Fits program demo_call) (λ (areas : Areas). stl_run program demo_call areas 1000000) (fresh program.dbs).areas made =
      has_ended _ _ _ made (of_demo made answer) done in
      inl (end.fits, e ∙ sym (ap (demo_reply networks program (fresh program.dbs).areas) end.ends))

  -- and the run of the translation has the same report
  pub same_reports : (made of_text : Made) → made.status ≡ Done
      → AnsweredCall (Fits program call) (λ (areas : Areas). stl_run program call areas 1000000) memory.areas made
      → AnswersAsTranslated program call (reply_of of_text) → bytes_of_text of_text.text ≡ bytes_of_text made.text
  same_reports made of_text done answer translated =
      let end : HasEnded (Fits program demo_call) (λ (areas : Areas). stl_run program demo_call areas 1000000) (fresh program.dbs).areas made =
      has_ended _ _ _ made (of_demo made answer) done in
      let alike : AnswersAsTranslated program demo_call (reply_of of_text) =
      subst (λ (c : Call). AnswersAsTranslated program c (reply_of of_text)) called translated in
      ap (λ (r : Reply). r.1) (alike end.after None end.fits end.ends ∙ sym end.shows)

-- The source of a demo

module _ (networks : ℕ) (bytes : List ℕ) (most : networks ≤ 50000) (written : bytes ≡ demo_source networks)
    (sized : length bytes ≤ 66 * networks + 108) where
  is_short : length (demo_source networks) ≤ INPUT_LIMIT
  is_short =
      let short : length bytes ≤ 4194304 = omega (arith, most, sized) in
      subst (λ (text : List ℕ). length text ≤ INPUT_LIMIT) written short

  -- the answer to the program of a demo is one to its source
  pub answers_read : {E : Type 0} (program : Program) (r : Result Made E) → verdict bytes ≡ Ok program
      → IfOk r (λ (made : Made). AnswersDemo networks program (reply_of made))
      → IfOk r (λ (made : Made). AnswersStl (AnswersDemo networks) (demo_source networks) (reply_of made))
  answers_read program (Ok made) judged answer = read is_short (ap verdict (sym written) ∙ judged) answer
  answers_read program (Err stop) judged answer = tt

  -- and so is its refusal
  pub answers_refused : (line : Line) (reason : Reason) (made : Made) → verdict bytes ≡ Err (rejection.Refused line reason)
      → reply_of made ≡ (Refused, refusal_line line reason)
      → AnswersStl (AnswersDemo networks) (demo_source networks) (reply_of made)
  answers_refused line reason made judged e =
      subst (λ (r : Reply). AnswersStl (AnswersDemo networks) (demo_source networks) r) (sym e)
      (refused is_short (ap verdict (sym written) ∙ judged))
