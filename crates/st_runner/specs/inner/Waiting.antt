-- What waits and what comes next in the runner, and how a run ends from there.
use Rattle.std.specs.Prelude.{ℕ, List, [], ◌∷◌, ◌++◌}
use Rattle.std.specs.Borrow.{Bor}
use Rattle.memory_areas.specs.End.{End, Ended}
use Rattle.s7_base.specs.declared.outcome.Outcome.{Outcome}
use Rattle.s7_base.specs.declared.outcome.Outcome.TheVariants as outcome
use Rattle.st_runner.specs.declared.frame.At.{At}
use Rattle.st_runner.specs.declared.frame.At.TheVariants as at
use Rattle.st_runner.specs.declared.frame.Frame.{Frame}
use Rattle.st_runner.specs.declared.frame.Frame.TheVariants as frame
use Rattle.st_tree.specs.Calls.{after_unit}
use Rattle.st_tree.specs.Meaning.{Out, Normal, Calls, after_body, body_meaning, loop, then_do}
use Rattle.st_tree.specs.StRun.{end_seen}
use Rattle.st_tree.specs.State.{State}
use Rattle.st_tree.specs.Value.{value}
use Rattle.st_tree.specs.declared.program.Located.{Located}
use Rattle.st_tree.specs.declared.program.Stmt.{Stmt}

-- the end of a frame, after the statements above it ended
abbrev pub resume_frame : List Located → Calls → Frame → Out → Out
resume_frame globals calls (frame.Rest body place) o = then_do o (body_meaning globals calls body.now)
resume_frame globals calls (frame.Again test body place) o =
    after_body o (loop (value globals test.now) (body_meaning globals calls body.now))
resume_frame globals calls frame.Unit o = after_unit o

-- the end of all frames, of which the last is done first
abbrev pub unwound : List Located → Calls → List Frame → Out → Out
unwound globals calls [] o = o
unwound globals calls (f ∷ rest) o = resume_frame globals calls f (unwound globals calls rest o)

-- the end of a run where statements ended in this way, and these frames wait
abbrev pub ending : List Located → Calls → List Frame → Out → End
ending globals calls work o = end_seen (unwound globals calls work o)

-- the end of a run with some units where frames wait, this comes next, in this state
abbrev pub end_at : List Located → Calls → List Frame → At → ℕ → State → End
end_at globals calls work at.Work units s = ending globals calls work (Normal units s)
end_at globals calls work (at.Test test body place) units s =
    ending globals calls work (loop (value globals test.now) (body_meaning globals calls body.now) units s)
end_at globals calls work (at.Call n actuals) units s =
    ending globals calls work (calls n actuals.now units s)
end_at globals calls work (at.Over f) units s = Ended s.memory.areas f

-- the rest of a list waits above some frames, where there is one
abbrev pub or_none : List Stmt → List Frame → List Frame → List Frame
or_none [] below above = below
or_none (first ∷ behind) below above = above

abbrev pub with_rest : List Frame → Bor (List Stmt) → ℕ → List Frame
with_rest below rest place = or_none rest.now below (below ++ frame.Rest rest place ∷ [])

-- the outcome of a run that does this next
abbrev pub outcome_of : At → Outcome
outcome_of at.Work = outcome.Going
outcome_of (at.Test test body place) = outcome.Going
outcome_of (at.Call n actuals) = outcome.Going
outcome_of (at.Over f) = outcome.Ended f
