use Rattle.st_tree.proofs.Common.{nat_lt, ap, ◌∙◌, prefix_len, insert, DataBlock}
use Rattle.st_scopes.proofs.Blocks.{placed}
use Rattle.st_scopes.proofs.global.insert_block.Goals as goal

pub returns : goal.returns
returns c =
    let size = c.lesser_before-position.ensures.size ∙ ap (prefix_len (λ (b : DataBlock). nat_lt b.number c.args.block.number)) c.as_slice.ensures.value in
    c.in_ok-insert.ensures.items ∙ ap (λ k. insert c.args.blocks.now.items k c.args.block) size ∙ placed c.args.block c.args.blocks.now.items
