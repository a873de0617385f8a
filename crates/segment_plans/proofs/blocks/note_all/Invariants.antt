use Rattle.std.proofs.Common.{◌≡◌, fold, take}
use Rattle.segment_plans.specs.inner.Finding.{note}
use Rattle.segment_plans.proofs.blocks.note_all.Given as goal

abbrev pub invariant-loop-to : goal.invariant-loop-to
invariant-loop-to l = l.lasts ≡ fold (note l.from) l.fn.lasts (take l.to-index l.targets)
