use Rattle.st_tree.proofs.Common.{◌≡◌, Bool, List, [], Some, sym, ap, subst, ◌∙◌, arith, FitsUnit, unit_called}
use Rattle.st_runner.proofs.Common.{Decides, IsReady, most_formals, most_locals, IsSound, state_of, Pou}
use Rattle.st_runner.specs.declared.frame.At.TheVariants as at
use Rattle.st_runner.proofs.ProperRuns.{proper_runs}
use Rattle.st_runner.proofs.Opening.{called_formals, called_locals, ends_as_run, fits_there, found_there, given_reached, ready_at_start}
use Rattle.st_runner.proofs.Plans.{at_stands, goes_on, pushed, same_stands, start_at}
use Rattle.st_runner.specs.inner.Plan.{AreStarts, body_parts}
use Rattle.st_runner.proofs.runner.Runner.new.Goals as goal

pub index-requires : goal.index-requires
index-requires c =
    let start =
    start_at c.in_ok-plan.plan.parts.items c.in_ok-plan.plan.starts.items c.as_slice-units.result.now c.in-Some.n 0 c.index-units-n.result
    c.in_ok-plan.ensures (found_there c.as_slice-units.result.now c.in-Some.n c.index-units-n.result c.in-Some.ensures.0 c.index-units-n.is) in
    omega (arith, start.0, c.in_ok-plan.plan.starts.ok.0)

pub start-requires-clause-locals : goal.start-requires-clause-locals
start-requires-clause-locals c = called_locals c.args.call.now.block c.as_slice-units.result.now c.index-units-n.result
    (c.in-Some.ensures.1 ∙ found_there c.as_slice-units.result.now c.in-Some.n c.index-units-n.result c.in-Some.ensures.0 c.index-units-n.is)

pub start-requires-clause-formals : goal.start-requires-clause-formals
start-requires-clause-formals c = called_formals c.args.call.now.block c.as_slice-units.result.now c.index-units-n.result
    (c.in-Some.ensures.1 ∙ found_there c.as_slice-units.result.now c.in-Some.n c.index-units-n.result c.in-Some.ensures.0 c.index-units-n.is)

pub start-requires-clause-reachable : goal.start-requires-clause-reachable
start-requires-clause-reachable c =
    let call = c.args.call.now in
    let unit = c.index-units-n.result in
    given_reached c.args.tree.now.dbs unit call.block call.instance call.actuals
    (subst (λ (b : Bool). Decides b (FitsUnit c.args.tree.now.dbs unit call.block call.instance call.actuals)) c.if-not-fits_unit.false
    (c.fits_unit.ensures c.args.tree.now.dbs c.requires.memory))

pub invariant_of-result : goal.invariant_of-result
invariant_of-result c =
    let tree = c.args.tree.now in
    let call = c.args.call.now in
    let unit = c.index-units-n.result in
    let work = c.in_ok-work.work in
    let runnable = proper_runs tree c.requires.proper in
    let plan = c.in_ok-plan.plan.parts.items in
    let starts = c.in_ok-plan.plan.starts.items in
    let called = subst (λ (xs : List Pou). unit_called call.block xs ≡ Some unit) c.as_slice-units.ensures
    (c.in-Some.ensures.1 ∙ found_there c.as_slice-units.result.now c.in-Some.n c.index-units-n.result c.in-Some.ensures.0 c.index-units-n.is) in
    let sound =
    subst (λ (xs : List Pou). IsSound (most_locals xs) (most_formals xs) c.in_ok-state.state) c.as_slice-units.ensures c.in_ok-state.ensures.sound in (
      runnable,
      subst (λ n. IsReady tree n work.items at.Work c.in_ok-state.state) (sym c.in_ok-work.ensures.room)
          (ready_at_start c.index.result.now tree runnable call unit c.as_slice-2.result c.in_ok-state.state work.items
          called c.as_slice-2.ensures c.in_ok-work.ensures.items sound c.in_ok-state.ensures.one),
      goes_on plan work.items
          (pushed plan [] work.items _ c.in_ok-work.ensures.items tt
          (at_stands plan _ c.index.result.now (body_parts c.as_slice-2.result.now) (sym c.index.ensures)
          (same_stands plan _ (body_parts unit.body) (body_parts c.as_slice-2.result.now) (ap body_parts (sym c.as_slice-2.ensures))
          (start_at plan starts c.as_slice-units.result.now c.in-Some.n c.index.result.now unit c.in_ok-plan.ensures
          (found_there c.as_slice-units.result.now c.in-Some.n c.index-units-n.result c.in-Some.ensures.0 c.index-units-n.is)).1))),
      subst (λ (xs : List Pou). AreStarts plan starts xs) c.as_slice-units.ensures c.in_ok-plan.ensures,
    )

pub returns : goal.returns
returns c =
    let tree = c.args.tree.now in
    let call = c.args.call.now in
    let unit = c.index-units-n.result in
    let work = c.in_ok-work.work in
    let called = subst (λ (xs : List Pou). unit_called call.block xs ≡ Some unit) c.as_slice-units.ensures
    (c.in-Some.ensures.1 ∙ found_there c.as_slice-units.result.now c.in-Some.n c.index-units-n.result c.in-Some.ensures.0 c.index-units-n.is) in (
      fits_there tree call unit called
          (subst (λ (b : Bool). Decides b (FitsUnit tree.dbs unit call.block call.instance call.actuals)) c.if-not-fits_unit.false
          (c.fits_unit.ensures tree.dbs c.requires.memory)),
      ends_as_run c.index.result.now tree call c.args.memory.areas unit c.as_slice-2.result
          (state_of c.in_ok-state.state) work.items called c.as_slice-2.ensures c.in_ok-work.ensures.items c.in_ok-state.ensures.begins,
    )
