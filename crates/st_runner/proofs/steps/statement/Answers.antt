use Rattle.st_tree.proofs.Common.{List, length, sym, ap, ◌∙◌, subst, area_assignment, assignment}
use Rattle.st_runner.proofs.Common.{Done, Changes, state_of, Expr, Arm, CaseArm, Located, Stmt}
use Rattle.st_runner.proofs.Dones.{area_done, assign_done, continue_done, exit_done, return_done}
use Rattle.st_tree.specs.declared.program.Stmt.TheVariants as stmt
use Rattle.st_runner.proofs.Plans.{at_stands, case_planned, goes_on, one_further, same_stands, while_is, while_planned}
use Rattle.st_runner.specs.inner.Plan.{body_parts, with_head, parts_of}
use Rattle.st_runner.specs.declared.plan.Part.TheVariants as part
use Rattle.st_runner.proofs.steps.statement.Goals as goal

pub returns-in-Assign-clause-done : goal.returns-in-Assign-clause-done
returns-in-Assign-clause-done c =
    let ws = c.args.work.now.items in
    let s = state_of c.args.state.now in
    let t = state_of c.assign.new.self in
    subst (λ (x : Stmt). Done c.args.tree.now x ws ws c.next.result s t) (sym c.in-Assign.is)
    (assign_done c.args.tree.now ws c.in-Assign.var c.in-Assign.e s t c.assign.result c.next.result
    (subst (λ (g : List Located). Changes (assignment g c.in-Assign.var c.in-Assign.e s) c.assign.result s t)
    c.as_slice-globals.ensures c.assign.ensures.change) c.next.ensures)

pub returns-in-AreaWrite-clause-done : goal.returns-in-AreaWrite-clause-done
returns-in-AreaWrite-clause-done c =
    let ws = c.args.work.now.items in
    let s = state_of c.args.state.now in
    let t = state_of c.area_assign.new.self in
    let w = c.in-AreaWrite.width in
    subst (λ (x : Stmt). Done c.args.tree.now x ws ws c.next-in-AreaWrite.result s t) (sym c.in-AreaWrite.is)
    (area_done c.args.tree.now ws w c.in-AreaWrite.pointer c.in-AreaWrite.e s t c.area_assign.result c.next-in-AreaWrite.result
    (subst (λ (g : List Located). Changes (area_assignment g w c.in-AreaWrite.pointer c.in-AreaWrite.e s) c.area_assign.result s t) c.as_slice-globals.ensures
    (subst (λ (p : Expr). Changes (area_assignment c.as_slice-globals.result.now w p c.in-AreaWrite.e s) c.area_assign.result s t) c.get.ensures
    (subst (λ (e : Expr). Changes (area_assignment c.as_slice-globals.result.now w c.get.result.now e s) c.area_assign.result s t)
    c.get-in-AreaWrite.ensures c.area_assign.ensures.change))) c.next-in-AreaWrite.ensures)

pub returns-in-If-clause-done : goal.returns-in-If-clause-done
returns-in-If-clause-done c =
    let ws = c.args.work.now.items in
    let vs = c.choose.new.work.items in
    let s = state_of c.args.state.now in
    subst (λ (x : Stmt). Done c.args.tree.now x ws vs c.choose.result s s) (sym c.in-If.is)
    (subst (λ (xs : List Arm). Done c.args.tree.now (stmt.If xs c.in-If.other) ws vs c.choose.result s s) c.as_slice-in-If.ensures
    (subst (λ (xs : List Stmt). Done c.args.tree.now (stmt.If c.as_slice-in-If.result.now xs) ws vs c.choose.result s s)
    c.as_slice-in-If-2.ensures c.choose.ensures.done))

pub returns-in-Case-clause-done : goal.returns-in-Case-clause-done
returns-in-Case-clause-done c =
    let ws = c.args.work.now.items in
    let vs = c.choose_labelled.new.work.items in
    let e = c.in-Case.e in
    let s = state_of c.args.state.now in
    subst (λ (x : Stmt). Done c.args.tree.now x ws vs c.choose_labelled.result s s) (sym c.in-Case.is)
    (subst (λ (xs : List CaseArm). Done c.args.tree.now (stmt.Case e xs c.in-Case.other) ws vs c.choose_labelled.result s s) c.as_slice-in-Case.ensures
    (subst (λ (xs : List Stmt). Done c.args.tree.now (stmt.Case e c.as_slice-in-Case.result.now xs) ws vs c.choose_labelled.result s s)
    c.as_slice-in-Case-2.ensures c.choose_labelled.ensures.done))

pub returns-in-Exit-clause-done : goal.returns-in-Exit-clause-done
returns-in-Exit-clause-done c = exit_done c.args.tree.now _ _ _ c.in-Exit.is c.exit_loop.ensures.leaves

pub returns-in-Continue-clause-done : goal.returns-in-Continue-clause-done
returns-in-Continue-clause-done c = continue_done c.args.tree.now _ _ _ c.in-Continue.is c.continue_loop.ensures.leaves

pub returns-in-Return-clause-done : goal.returns-in-Return-clause-done
returns-in-Return-clause-done c = return_done c.args.tree.now _ _ _ c.in-Return.is c.return_unit.ensures.leaves

pub choose_labelled-requires-clause-planned : goal.choose_labelled-requires-clause-planned
choose_labelled-requires-clause-planned c =
    case_planned c.args.plan.now c.args.at c.args.stmt.now c.in-Case.e c.as_slice-in-Case.result.now c.as_slice-in-Case-2.result.now
    c.in-Case.arms c.in-Case.other c.in-Case.is c.as_slice-in-Case.ensures c.as_slice-in-Case-2.ensures c.requires.planned

pub further-requires : goal.further-requires
further-requires c =
    let inside = body_parts c.in-While.body in
    one_further c.args.plan.now c.args.at (part.Inside (length inside)) inside
    (same_stands c.args.plan.now c.args.at (parts_of c.args.stmt.now) (with_head inside)
    (ap parts_of c.in-While.is ∙ while_is c.in-While.test c.in-While.body) c.requires.planned)

pub returns-in-While-clause-planned : goal.returns-in-While-clause-planned
returns-in-While-clause-planned c =
    record {
      frames = c.requires.frames;
      coming =
          at_stands c.args.plan.now _ c.further.result (body_parts c.as_slice-in-While.result.now) (sym c.further.ensures)
          (while_planned c.args.plan.now c.args.at c.args.stmt.now c.in-While.test c.as_slice-in-While.result.now c.in-While.body
          c.in-While.is c.as_slice-in-While.ensures c.requires.planned);
    }

pub returns-in-Exit-clause-planned : goal.returns-in-Exit-clause-planned
returns-in-Exit-clause-planned c = goes_on c.args.plan.now _ (c.exit_loop.ensures.leaves.planned c.args.plan.now c.requires.frames)

pub returns-in-Continue-clause-planned : goal.returns-in-Continue-clause-planned
returns-in-Continue-clause-planned c = goes_on c.args.plan.now _ (c.continue_loop.ensures.leaves.planned c.args.plan.now c.requires.frames)

pub returns-in-Return-clause-planned : goal.returns-in-Return-clause-planned
returns-in-Return-clause-planned c = goes_on c.args.plan.now _ (c.return_unit.ensures.leaves.planned c.args.plan.now c.requires.frames)
