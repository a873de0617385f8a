use Rattle.std.proofs.Common.{ap, not}
use Rattle.std.proofs.lemmas.Result.{IfOk-weaker}
use Rattle.plan_texts.proofs.Texts.{segment_written}
use Rattle.plan_texts.proofs.parts.push_planned.Goals as goal

pub returns : goal.returns
returns c = λ all plan few known ending high nodes segment is low next.
    IfOk-weaker c.push_part.result _ _
    (λ falls x. segment_written c.args.blocks.now c.args.ending.now (not c.is_reached.result) c.args.first c.args.past c.whole.result c.args.nodes.now.items
    c.push_part.new.nodes.items c.args.out.now c.push_part.new.out falls c.requires.ordered c.whole.ensures (ap not c.is_reached.ensures) x all plan known
    ending
    nodes segment is low next)
    c.push_part.ensures
