use Rattle.std.proofs.Common.{ap, ◌∙◌, arith}
use Rattle.stl_rules.specs.Extents.{end_of_all, end_of_sections}
use Rattle.symbol_layout.proofs.Sections.{end_turn}
use Rattle.symbol_layout.specs.Kept.{sections_now, capped_bits}
use Rattle.symbol_layout.proofs.extent.end_of_sections.Goals as goal

pub loop-section-preserved : goal.loop-section-preserved
loop-section-preserved c = (
  omega (arith, c.end_of_all-end.ensures),
  end_turn c.args.sections.now c.loop-section.section-index c.section-item.result c.loop-section-test.true c.section-item.is
      c.loop-section.end c.end_of_all-end.result (capped_bits (end_of_sections 0 (sections_now c.args.sections.now)))
      (c.end_of_all-end.ensures ∙ ap (λ start. capped_bits (end_of_all start c.section-item.result.now)) c.section_behind.ensures.same)
      c.loop-section.invariant.1,
)
