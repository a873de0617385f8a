use Rattle.std.proofs.Common.{List, ap, sym, ◌∙◌, arith}
use Rattle.std.specs.Option.{option_map}
use Rattle.stl_tree.specs.declared.raw.Declaration.{Declaration}
use Rattle.stl_rules.specs.Extents.{end_of_all}
use Rattle.stl_rules.specs.Paths.{named_behind, named_in}
use Rattle.symbol_layout.proofs.Sections.{named_turn}
use Rattle.symbol_layout.specs.Kept.{capped_bits, capped_placed, placed_of_code}
use Rattle.symbol_layout.proofs.path.named_in.Goals as goal

pub loop-section-preserved : goal.loop-section-preserved
loop-section-preserved c =
    let start = c.section_behind-start.result in
    let name = c.args.name.now in (
      omega (arith, c.end_of_all-end.ensures),
      named_turn c.args.sections.now c.loop-section.section-index c.section-item.result c.loop-section-test.true c.section-item.is
          name c.loop-section.end start c.section_behind-start.ensures.same (capped_placed (named_in 0 c.args.sections.now name)) c.loop-section.invariant.1
          c.end_of_all-end.result
          (ap (option_map placed_of_code) (sym c.in_default.is) ∙ c.named_behind.ensures
          ∙ ap (λ (decls : List Declaration). capped_placed (named_behind start decls name)) c.as_slice.ensures)
          (c.end_of_all-end.ensures ∙ ap (λ (decls : List Declaration). capped_bits (end_of_all start decls)) c.as_slice-in-loop-section.ensures),
    )
