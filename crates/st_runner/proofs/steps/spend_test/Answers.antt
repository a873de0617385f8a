use Rattle.st_tree.proofs.Common.{◌≡◌, true, false, List, Ok, Err, sym, ap, subst, ◌∙◌, arith, and_then, value, is_set}
use Rattle.st_runner.proofs.Common.{state_of, Located}
use Rattle.st_runner.proofs.Spending.{fault_is, test_false, test_fault, test_room, test_true}
use Rattle.st_runner.proofs.Stepping.{ready_running}
use Rattle.st_runner.proofs.Plans.{goes_on, pushed}
use Rattle.st_runner.proofs.steps.spend_test.Goals as goal

pub is_true-requires-clause-running : goal.is_true-requires-clause-running
is_true-requires-clause-running c = ready_running c.args.tree.now _ _ _ c.args.state.now c.requires.ready

pub push_reserved-requires : goal.push_reserved-requires
push_reserved-requires c =
    let room = test_room c.args.tree.now _ c.args.work.now.items c.args.state.now c.args.test c.args.body c.args.at c.requires.ready in
    omega (arith, room, c.args.work.now.ok.0)

pub push_reserved-requires-in-Ok-true : goal.push_reserved-requires-in-Ok-true
push_reserved-requires-in-Ok-true c =
    let room = test_room c.args.tree.now _ c.args.work.now.items c.args.state.now c.args.test c.args.body c.args.at c.requires.ready in
    omega (arith, room, c.args.work.now.ok.0, c.push_reserved.ensures.len, c.push_reserved.ensures.capacity)

pub returns-in-Ok-true-clause-spend_unit : goal.returns-in-Ok-true-clause-spend_unit
returns-in-Ok-true-clause-spend_unit c =
    let s = state_of c.args.state.now in
    test_true c.args.tree.now _ c.args.work.now.items c.args.state.now c.args.test c.args.body c.args.at c.requires.ready c.push_reserved.new.self.items
    c.push_reserved-in-Ok-true.new.self.items c.push_reserved.ensures.items c.push_reserved-in-Ok-true.ensures.items
    (subst (λ (g : List Located). and_then (value g c.args.test.now s) (λ v. Ok (is_set v)) ≡ Ok true) c.as_slice.ensures
    (sym c.is_true.ensures ∙ c.in-Ok-true.is ∙ ap (λ b. Ok b) c.in-Ok-true.field-0-test))

pub returns-in-Ok-false-clause-spend_unit : goal.returns-in-Ok-false-clause-spend_unit
returns-in-Ok-false-clause-spend_unit c =
    let s = state_of c.args.state.now in
    test_false c.args.tree.now _ c.args.work.now.items c.args.state.now c.args.test c.args.body c.args.at c.requires.ready
    (subst (λ (g : List Located). and_then (value g c.args.test.now s) (λ v. Ok (is_set v)) ≡ Ok false) c.as_slice.ensures
    (sym c.is_true.ensures ∙ c.in-Ok-false.is ∙ ap (λ b. Ok b) c.in-Ok-false.field-0-test))

pub returns-in-Err-clause-spend_unit : goal.returns-in-Err-clause-spend_unit
returns-in-Err-clause-spend_unit c =
    let s = state_of c.args.state.now in
    test_fault c.args.tree.now _ c.args.work.now.items c.args.state.now c.args.test c.args.body c.args.at c.requires.ready c.in-Err.fault
    (subst (λ (g : List Located). value g c.args.test.now s ≡ Err c.in-Err.fault) c.as_slice.ensures
    (fault_is (value c.as_slice.result.now c.args.test.now s) is_set c.in-Err.fault (sym c.is_true.ensures ∙ c.in-Err.is)))

pub returns-in-Ok-true-clause-planned : goal.returns-in-Ok-true-clause-planned
returns-in-Ok-true-clause-planned c =
    let plan = c.args.plan.now.parts.items in
    let h = c.requires.planned in
    goes_on plan c.push_reserved-in-Ok-true.new.self.items
    (pushed plan c.push_reserved.new.self.items c.push_reserved-in-Ok-true.new.self.items _ c.push_reserved-in-Ok-true.ensures.items
    (pushed plan c.args.work.now.items c.push_reserved.new.self.items _ c.push_reserved.ensures.items h.frames h.coming) h.coming)
