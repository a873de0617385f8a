use Rattle.st_tree.proofs.Common.{◌≡◌, List, Ok, Err, sym, ap, subst, arith, and_then, state_on_entry, located_actuals}
use Rattle.st_runner.specs.inner.View.{Changes, IsDeeper, state_of}
use Rattle.st_runner.proofs.Spending.{call_done, call_fault, call_may, call_room, call_unit}
use Rattle.st_tree.specs.declared.program.Located.{Located}
use Rattle.st_runner.proofs.Plans.{at_stands, goes_on, pushed, same_stands, start_at}
use Rattle.st_runner.specs.inner.Plan.{body_parts}
use Rattle.st_runner.proofs.steps.spend_call.Goals as goal

pub enter-requires-clause-may : goal.enter-requires-clause-may
enter-requires-clause-may c =
    let tree = c.args.tree.now in
    let unit = c.index-as_slice-n.result in
    let there =
    call_unit tree c.requires.runnable _ c.args.work.now.items c.args.state.now c.args.n
    c.args.actuals c.requires.ready _ unit c.as_slice.ensures c.index-as_slice-n.is in
    call_may tree c.requires.runnable _ c.args.work.now.items c.args.state.now c.args.n c.args.actuals c.requires.ready unit there

pub push_reserved-requires : goal.push_reserved-requires
push_reserved-requires c =
    let room = call_room c.args.tree.now c.requires.runnable _ c.args.work.now.items c.args.state.now c.args.n c.args.actuals c.requires.ready in
    omega (arith, room, c.args.work.now.ok.0)

pub push_reserved-requires-in-Ok : goal.push_reserved-requires-in-Ok
push_reserved-requires-in-Ok c =
    let room = call_room c.args.tree.now c.requires.runnable _ c.args.work.now.items c.args.state.now c.args.n c.args.actuals c.requires.ready in
    omega (arith, room, c.args.work.now.ok.0, c.push_reserved.ensures.len, c.push_reserved.ensures.capacity)

pub returns-in-Ok-clause-spend_unit : goal.returns-in-Ok-clause-spend_unit
returns-in-Ok-clause-spend_unit c =
    let tree = c.args.tree.now in
    let unit = c.index-as_slice-n.result in
    let s = state_of c.args.state.now in
    let t = state_of c.enter.new.self in
    let xs = c.args.actuals.now in
    let there =
    call_unit tree c.requires.runnable _ c.args.work.now.items c.args.state.now c.args.n
    c.args.actuals c.requires.ready _ unit c.as_slice.ensures c.index-as_slice-n.is in
    let change =
    subst (λ r. Changes (and_then (located_actuals c.as_slice-2.result.now xs s) (λ formals. Ok (state_on_entry unit formals s))) r s t)
    c.in-Ok.is c.enter.ensures.change in
    let deeper = subst (λ r. IsDeeper r c.args.state.now c.enter.new.self) c.in-Ok.is c.enter.ensures.deeper in
    call_done tree c.requires.runnable _ c.args.work.now.items c.args.state.now c.args.n c.args.actuals c.requires.ready
    _ unit c.enter.new.self c.as_slice-in-Ok.result c.push_reserved.new.self.items c.push_reserved-in-Ok.new.self.items
    there c.as_slice-in-Ok.ensures c.push_reserved.ensures.items c.push_reserved-in-Ok.ensures.items
    (subst (λ (g : List Located). and_then (located_actuals g xs s) (λ formals. Ok (state_on_entry unit formals s)) ≡ Ok t)
    c.as_slice-2.ensures change) c.enter.ensures.sound deeper

pub returns-in-Err-clause-spend_unit : goal.returns-in-Err-clause-spend_unit
returns-in-Err-clause-spend_unit c =
    let tree = c.args.tree.now in
    let unit = c.index-as_slice-n.result in
    let s = state_of c.args.state.now in
    let t = state_of c.enter.new.self in
    let xs = c.args.actuals.now in
    let there =
    call_unit tree c.requires.runnable _ c.args.work.now.items c.args.state.now c.args.n
    c.args.actuals c.requires.ready _ unit c.as_slice.ensures c.index-as_slice-n.is in
    let change =
    subst (λ r. Changes (and_then (located_actuals c.as_slice-2.result.now xs s) (λ formals. Ok (state_on_entry unit formals s))) r s t)
    c.in-Err.is c.enter.ensures.change in
    let deeper = subst (λ r. IsDeeper r c.args.state.now c.enter.new.self) c.in-Err.is c.enter.ensures.deeper in
    call_fault tree c.requires.runnable _ c.args.work.now.items c.args.state.now c.args.n c.args.actuals c.requires.ready unit c.enter.new.self c.in-Err.fault
    there
    (subst (λ (g : List Located). Changes (and_then (located_actuals g xs s) (λ formals. Ok (state_on_entry unit formals s))) (Err c.in-Err.fault) s t)
    c.as_slice-2.ensures change) c.enter.ensures.sound deeper

pub index-requires : goal.index-requires
index-requires c =
    let tree = c.args.tree.now in
    let unit = c.index-as_slice-n.result in
    let there =
    call_unit tree c.requires.runnable _ c.args.work.now.items c.args.state.now c.args.n
    c.args.actuals c.requires.ready _ unit c.as_slice.ensures c.index-as_slice-n.is in
    let start = start_at c.args.plan.now.parts.items c.args.plan.now.starts.items tree.pous c.args.n 0 unit c.requires.starts there in
    omega (arith, start.0, c.args.plan.now.starts.ok.0)

pub returns-in-Ok-clause-planned : goal.returns-in-Ok-clause-planned
returns-in-Ok-clause-planned c =
    let tree = c.args.tree.now in
    let plan = c.args.plan.now.parts.items in
    let unit = c.index-as_slice-n.result in
    let there =
    call_unit tree c.requires.runnable _ c.args.work.now.items c.args.state.now c.args.n
    c.args.actuals c.requires.ready _ unit c.as_slice.ensures c.index-as_slice-n.is in
    let start = start_at plan c.args.plan.now.starts.items tree.pous c.args.n c.index.result.now unit c.requires.starts there in
    goes_on plan c.push_reserved-in-Ok.new.self.items
    (pushed plan c.push_reserved.new.self.items c.push_reserved-in-Ok.new.self.items _ c.push_reserved-in-Ok.ensures.items
    (pushed plan c.args.work.now.items c.push_reserved.new.self.items _ c.push_reserved.ensures.items c.requires.planned tt)
    (at_stands plan _ c.index.result.now (body_parts c.as_slice-in-Ok.result.now) (sym c.index.ensures)
    (same_stands plan _ (body_parts unit.body) (body_parts c.as_slice-in-Ok.result.now) (ap body_parts (sym c.as_slice-in-Ok.ensures)) start.1)))
