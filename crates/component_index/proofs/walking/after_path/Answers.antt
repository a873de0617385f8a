use Rattle.std.proofs.Common.{Some, subst}
use Rattle.stl_rules.specs.Paths.{after_step, after_path}
use Rattle.symbol_layout.proofs.Turns.{one_step}
use Rattle.symbol_layout.specs.Kept.{capped_placed}
use Rattle.component_index.specs.inner.Scopes.{LeadsTo, declarations_in, placed_of_entry}
use Rattle.component_index.proofs.walking.after_path.Goals as goal

pub loop-step-preserved : goal.loop-step-preserved
loop-step-preserved c =
    let all = declarations_in c.args.scopes.now in
    let at = c.loop-step.at in
    let next = c.in-Some.next in
    let h : LeadsTo all (after_step at.place at.ty.now c.step-item.result) (Some next)
    = subst (LeadsTo all (after_step at.place at.ty.now c.step-item.result)) c.in-Some.is c.in_ok-next.ensures in (
      h.1,
      one_step c.args.path.now c.loop-step.step-index c.step-item.result (placed_of_entry at) c.loop-step-test.true c.step-item.is
          (capped_placed (after_path c.args.path.now (placed_of_entry c.args.start))) c.loop-step.invariant.1 (placed_of_entry next) h.0,
    )
