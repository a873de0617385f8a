use Rattle.st_tree.proofs.Common.{◌≡◌, ◌++◌, take, flat_map, block_text}
use Rattle.st_printer.proofs.global.put_blocks.Given as goal

-- what was passed so far stands after what stood there
abbrev pub invariant-loop-block : goal.invariant-loop-block
invariant-loop-block l = l.out.items ≡ l.fn.out.items ++ flat_map block_text (take l.block-index l.blocks)
