use Rattle.component_index.specs.inner.Scopes.{declarations_in, table_of}
use Rattle.component_index.proofs.Tables.{section_turn, table_turn}
use Rattle.component_index.proofs.building.put_sections.Goals as goal

pub loop-section-preserved : goal.loop-section-preserved
loop-section-preserved c =
    let sections = c.args.sections.now in
    let i = c.loop-section.section-index in
    let s = c.section-item.result in
    let start = c.section_behind.result in (
      c.in_ok-end.ensures.scopes,
      section_turn sections i s c.loop-section-test.true c.section-item.is c.loop-section.end start c.loop-section.invariant.1
          c.section_behind.ensures.same c.in_ok-end.end c.in_ok-end.ensures.end,
      table_turn sections i s c.loop-section-test.true c.section-item.is c.loop-section.end start c.loop-section.invariant.1
          c.section_behind.ensures.same (declarations_in c.loop-section.scopes.items) (declarations_in c.put_section.new.scopes.items) c.in_ok-end.ensures.grown
          (table_of c.loop-section.names) (table_of c.put_section.new.names) c.loop-section.invariant.2 c.in_ok-end.ensures.names,
    )
