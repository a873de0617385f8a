use Rattle.std.proofs.Common.{sym, ◌∙◌, refl}
use Rattle.std.proofs.lemmas.Bool.{false≢true}
use Rattle.nesting_laws.specs.Splitting.{MaySplit}
use Rattle.unit_regions.specs.UnitCharts.{blocks_between}
use Rattle.restructure.proofs.Segments.{by_plan, by_turns}
use Rattle.restructure.proofs.Units.{past_within}
use Rattle.unit_regions.proofs.Flowing.{is_flow}
use Rattle.restructure.proofs.structured.push_segment.Goals as goal

pub returns-then-branch : goal.returns-then-branch
returns-then-branch c = λ all unit segment there.
    let flow = is_flow all unit.plain.plain in
    by_plan all c.args.unit.blocks.now c.args.unit.ending.now c.args.unit.selector c.args.first c.args.past c.args.made.now _ _ c.push_planned.result refl unit
    segment ((c.in_ok-may_split.ensures (blocks_between all c.args.first c.args.past) refl refl segment flow unit.known).0 c.if-branch.true)
    (λ plan few known last within segment' is low next. c.push_planned.ensures all plan few known last within there segment' is low next)

pub returns : goal.returns
returns c = λ all unit segment there.
    let other : MaySplit (blocks_between all c.args.first c.args.past) → ⊥ = λ split. false≢true (sym c.if-branch.false
    ∙ (c.in_ok-may_split.ensures (blocks_between all c.args.first c.args.past) refl refl segment (is_flow all unit.plain.plain) unit.known).1 split) in
    let done = c.in_ok-push_turns.ensures all unit.known unit.plain.few (past_within all c.args.first c.args.past segment) there in (
      done.left_behind,
      by_turns all c.args.unit.blocks.now c.args.unit.selector c.args.first c.args.past c.args.made.now _ other done.written refl,
    )
