use Rattle.std.proofs.lemmas.Result.{IfOk-weaker}
use Rattle.st_tree.specs.declared.graph.StExit.TheVariants as exit
use Rattle.plan_texts.specs.declared.leads.Lead.TheVariants as lead
use Rattle.plan_texts.proofs.Exiting.{exit_at, fall_exit, jump_exit, table_exit}
use Rattle.plan_texts.proofs.exits.push_exit.Goals as goal

pub returns-in-Fall : goal.returns-in-Fall
returns-in-Fall c =
    IfOk-weaker c.push_tail.result _ _
    (λ to x. exit_at c.args.context.blocks.now c.args.context.ending.now c.args.out.now c.push_tail.new.out c.args.context.tail c.args.part c.args.at
    c.args.exit exit.Fall to c.in-Fall.is
    (fall_exit c.args.context.blocks.now c.args.context.ending.now c.args.out.now c.push_tail.new.out c.args.context.tail c.args.part c.args.at to x))
    c.push_tail.ensures

pub returns-in-Jump : goal.returns-in-Jump
returns-in-Jump c =
    IfOk-weaker c.push_tail-in-Jump.result _ _
    (λ to x. exit_at c.args.context.blocks.now c.args.context.ending.now c.args.out.now c.push_tail-in-Jump.new.out c.args.context.tail c.args.part c.args.at
    c.args.exit (exit.Jump c.in-Jump.to) to c.in-Jump.is
    (jump_exit c.args.context.blocks.now c.args.context.ending.now c.args.out.now c.push_tail-in-Jump.new.out c.args.context.tail c.args.part c.args.at
    c.in-Jump.to to x))
    c.push_tail-in-Jump.ensures

pub returns-in-Branch : goal.returns-in-Branch
returns-in-Branch c =
    IfOk-weaker c.push_branch.result _ _
    (λ to x. exit_at c.args.context.blocks.now c.args.context.ending.now c.args.out.now c.push_branch.new.out c.args.context.tail c.args.part c.args.at
    c.args.exit (exit.Branch c.in-Branch.test c.in-Branch.to) to c.in-Branch.is x)
    c.push_branch.ensures

pub returns-in-EndIf : goal.returns-in-EndIf
returns-in-EndIf c =
    IfOk-weaker c.push_end_if.result _ _
    (λ to x. exit_at c.args.context.blocks.now c.args.context.ending.now c.args.out.now c.push_end_if.new.out c.args.context.tail c.args.part c.args.at
    c.args.exit (exit.EndIf c.in-EndIf.test) to c.in-EndIf.is x)
    c.push_end_if.ensures

pub returns-in-End : goal.returns-in-End
returns-in-End c =
    IfOk-weaker c.push_end.result _ _
    (λ to x. exit_at c.args.context.blocks.now c.args.context.ending.now c.args.out.now c.push_end.new.out c.args.context.tail c.args.part c.args.at
    c.args.exit exit.End to c.in-End.is x)
    c.push_end.ensures

pub returns : goal.returns
returns c =
    exit_at c.args.context.blocks.now c.args.context.ending.now c.args.out.now c.args.out.now c.args.context.tail c.args.part c.args.at c.args.exit
    (exit.Table c.in-Table.field-0 c.in-Table.field-1 c.in-Table.field-2) lead.Off c.in-Table.is
    (table_exit c.args.context.blocks.now c.args.context.ending.now c.args.out.now c.args.context.tail c.args.part c.args.at c.in-Table.field-0
    c.in-Table.field-1
    c.in-Table.field-2)
