use Rattle.std.proofs.Common.{◌++◌, ap, arith, drop}
use Rattle.std.proofs.Math.ListN.{drop_of_length-le}
use Rattle.stl_rules.specs.DeclarationRules.{section_breaks}
use Rattle.symbol_layout.proofs.Judging.{noted_all}
use Rattle.symbol_layout.proofs.Sections.{flat, judge_turn}
use Rattle.symbol_layout.specs.Kept.{sections_now}
use Rattle.symbol_layout.proofs.rules.judge_sections.Goals as goal

pub loop-section-preserved : goal.loop-section-preserved
loop-section-preserved c =
    judge_turn c.args.sections.now c.loop-section.section-index c.section-item.result c.loop-section-test.true c.section-item.is
    (c.args.breaks.now ++ section_breaks (sections_now c.args.sections.now)) c.loop-section.breaks c.judge_scope.new.breaks
    c.loop-section.names c.judge_scope.new.names c.in_ok-judge_scope.ensures.names c.in_ok-judge_scope.ensures.breaks c.loop-section.invariant

pub returns : goal.returns
returns c =
    noted_all (c.args.breaks.now ++ section_breaks (sections_now c.args.sections.now)) c.loop-section.breaks c.loop-section.names
    (flat (sections_now (drop c.loop-section.section-index c.args.sections.now)))
    (ap (λ sections. flat (sections_now sections)) (drop_of_length-le c.args.sections.now (omega (arith, c.loop-section-test.false))))
    c.loop-section.invariant
