use Rattle.std.proofs.Common.{◌+◌}
use Rattle.plan_texts.proofs.ListArms.{no_next}
use Rattle.plan_texts.proofs.lists.label_end.Goals as goal

pub returns-else-block-end-clause-is : goal.returns-else-block-end-clause-is
returns-else-block-end-clause-is c = no_next c.args.blocks.now c.args.block (c.args.block + 1) c.args.end c.if-block-end.false
