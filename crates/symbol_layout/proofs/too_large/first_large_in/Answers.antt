use Rattle.std.proofs.Common.{sym, ◌∙◌, arith}
use Rattle.stl_rules.specs.TooLarge.{first_large_in}
use Rattle.symbol_layout.proofs.Sections.{large_turn}
use Rattle.symbol_layout.specs.Kept.{sections_now}
use Rattle.symbol_layout.proofs.too_large.first_large_in.Goals as goal

pub loop-section-preserved : goal.loop-section-preserved
loop-section-preserved c = (
  omega (arith, c.end_of_all-end.ensures),
  large_turn c.args.sections.now c.loop-section.section-index c.section-item.result c.loop-section-test.true c.section-item.is
      c.args.limit (omega arith) c.loop-section.end c.section_behind-start.result c.section_behind-start.ensures.same
      (first_large_in c.args.limit 0 (sections_now c.args.sections.now)) c.loop-section.invariant.1
      c.end_of_all-end.result c.section_behind-start.ensures.few (sym c.first_large.ensures ∙ c.in_default.is) c.end_of_all-end.ensures,
)
