use Rattle.std.proofs.Common.{◌≡◌, ◌-◌}
use Rattle.segment_plans.specs.Arms.{arms_end, first_over, last_target}
use Rattle.segment_plans.proofs.arms.arms_end.Given as goal

abbrev pub invariant-loop-source : goal.invariant-loop-source
invariant-loop-source l = record {
  last : l.last ≡ last_target l.fn.blocks l.list;
  rest : first_over l.fn.blocks l.around l.last l.source (l.last - l.source) ≡ arms_end l.fn.blocks l.around l.list;
}
