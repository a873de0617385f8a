use Rattle.std.proofs.Common.{◌+◌, ◌≤◌, length, refl, sym, subst}
use Rattle.st_runner.proofs.Common.{most, stack_costs}
use Rattle.st_runner.proofs.Stepping.{body_ended, no_items, first_statement, ready_running, first_room, rest_room}
use Rattle.st_runner.proofs.Plans.{first_planned, goes_on, planned_rest, rest_planned}
use Rattle.st_runner.proofs.steps.first_statement.Goals as goal

pub returns-in_default-clause-stepped : goal.returns-in_default-clause-stepped
returns-in_default-clause-stepped c =
    body_ended c.args.tree.now _ c.args.state.now c.args.at c.args.work.now.items c.args.body refl (no_items c.args.body.now c.in_default.ensures.cases)

pub returns-in_default-clause-planned : goal.returns-in_default-clause-planned
returns-in_default-clause-planned c = goes_on c.args.plan.now c.args.work.now.items c.requires.frames

pub behind-requires : goal.behind-requires
behind-requires c =
    first_planned c.args.plan.now c.args.at c.args.body.now c.in-Some.stmt.now c.in-Some.rest.now c.in-Some.ensures.cases.0 c.requires.planned

pub statement-requires-clause-running : goal.statement-requires-clause-running
statement-requires-clause-running c = ready_running c.args.tree.now _ _ _ c.args.state.now c.requires.ready

pub statement-requires-clause-room : goal.statement-requires-clause-room
statement-requires-clause-room c =
    let gs = c.push_rest.new.work.items in
    subst (λ n. length gs + most (stack_costs c.args.tree.now) c.in-Some.stmt.now ≤ n) (sym c.push_rest.ensures.capacity)
    (first_room c.args.at c.behind.result c.args.tree.now _ _ c.args.work.now.items gs c.args.body c.in-Some.rest c.in-Some.stmt.now c.args.state.now
    c.requires.ready refl c.in-Some.ensures.cases.0 c.push_rest.ensures.items)

pub statement-requires-clause-frames : goal.statement-requires-clause-frames
statement-requires-clause-frames c =
    let plan = c.args.plan.now in
    planned_rest plan c.args.work.now.items c.push_rest.new.work.items c.in-Some.rest c.behind.result c.push_rest.ensures.items c.requires.frames
    (rest_planned plan c.args.at c.behind.result c.args.body.now c.in-Some.stmt.now c.in-Some.rest.now c.in-Some.ensures.cases.0
    c.behind.ensures c.requires.planned)

pub statement-requires-clause-planned : goal.statement-requires-clause-planned
statement-requires-clause-planned c =
    first_planned c.args.plan.now c.args.at c.args.body.now c.in-Some.stmt.now c.in-Some.rest.now c.in-Some.ensures.cases.0 c.requires.planned

pub returns-clause-stepped : goal.returns-clause-stepped
returns-clause-stepped c =
    first_statement c.args.tree.now _ c.args.state.now c.args.at c.behind.result c.args.work.now.items c.push_rest.new.work.items
    c.statement.new.work.items c.args.body c.in-Some.rest c.in-Some.stmt.now c.statement.result c.statement.new.state
    refl c.in-Some.ensures.cases.0 c.push_rest.ensures.items c.statement.ensures.done c.statement.ensures.sound c.statement.ensures.same

pub push_rest-requires : goal.push_rest-requires
push_rest-requires c = rest_room c.args.at c.args.tree.now _ _ c.args.work.now.items c.args.body c.args.state.now c.requires.ready refl
