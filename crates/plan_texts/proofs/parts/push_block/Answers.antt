use Rattle.std.proofs.lemmas.Result.{IfOk-weaker}
use Rattle.segment_plans.specs.declared.planning.Piece.TheVariants as piece
use Rattle.plan_texts.specs.declared.leads.Lead.TheVariants as lead
use Rattle.plan_texts.proofs.Texts.{block_piece, no_node}
use Rattle.plan_texts.proofs.parts.push_block.Goals as goal

pub returns-in_default : goal.returns-in_default
returns-in_default c =
    no_node c.args.context.blocks.now c.args.context.ending.now c.args.context.tail c.args.context.levels c.args.part c.args.at piece.One
    c.args.nodes.now.items
    c.push_steps.new.nodes.items c.args.out.now c.push_steps.new.out c.in_ok-exit.field-0 lead.Off c.requires.low c.in_ok-exit.ensures c.in_default.is

pub returns : goal.returns
returns c =
    IfOk-weaker c.push_exit.result _ _
    (λ to x. block_piece c.args.context.blocks.now c.args.context.ending.now c.args.context.tail c.args.context.levels c.args.part c.args.at
    c.args.nodes.now.items c.push_steps.new.nodes.items c.args.out.now c.push_steps.new.out c.push_exit.new.out c.in_ok-exit.field-0 c.in-Some.exit to
    c.requires.low c.in_ok-exit.ensures c.in-Some.is x)
    c.push_exit.ensures
