-- What is accepted keeps the rules.
use Rattle.std.proofs.Common.{◌≡◌, ℕ, List, Result, Ok, Err, sym, ap, subst}
use Rattle.std.specs.Prelude.{IfOk}
use Rattle.s7_base.specs.Answers.{Answers}
use Rattle.s7_base.specs.declared.reason.Rejection.{Rejection}
use Rattle.s7_base.specs.declared.reason.Rejection.TheVariants.{Refused, NoMemory}
use Rattle.verdict_laws.proofs.AcceptedLaws.{verdict_accepted}
use Rattle.stl_tree.specs.Accepted.{IsAccepted}
use Rattle.stl_grammar.specs.RawPrograms.{raw_text}
use Rattle.stl_rules.specs.Verdict.{checked_program, judged_by, verdict}
use Rattle.stl_tree.specs.declared.program.Program.{Program}
use Rattle.stl_tree.specs.declared.raw.RawProgram.{RawProgram}

pub answers_verdict : (bytes : List ℕ) (raw : RawProgram) (answer : Result Program Rejection)
    → raw_text bytes ≡ Ok raw → Answers answer (checked_program raw) → Answers answer (verdict bytes)
unfolding verdict
answers_verdict bytes raw answer e h = let P : Result RawProgram Rejection → Type 0 = λ r. Answers answer (judged_by r) in subst P (sym e) h

-- the answer to a text that is not read
pub answers_unread : (bytes : List ℕ) (refused : Rejection) → Answers {X = RawProgram} (Err refused) (raw_text bytes)
    → Answers {X = Program} (Err refused) (verdict bytes)
unfolding verdict
answers_unread bytes (Refused line reason) e = ap judged_by e
answers_unread bytes NoMemory e = tt

answer_accepted : (bytes : List ℕ) (answer : Result Program Rejection) → Answers answer (verdict bytes) → IfOk answer IsAccepted
answer_accepted bytes (Ok program) e = verdict_accepted bytes program e
answer_accepted bytes (Err (Refused line reason)) e = tt
answer_accepted bytes (Err NoMemory) e = tt

-- the program of a text that is read
pub accepts : (bytes : List ℕ) (raw : RawProgram) (answer : Result Program Rejection)
    → raw_text bytes ≡ Ok raw → Answers answer (checked_program raw) → IfOk answer IsAccepted
accepts bytes raw answer e h = answer_accepted bytes answer (answers_verdict bytes raw answer e h)
