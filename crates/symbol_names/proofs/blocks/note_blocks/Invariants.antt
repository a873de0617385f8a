use Rattle.std.proofs.Common.{◌≡◌, [], take, drop}
use Rattle.stl_rules.specs.Stages.{blocks_behind}
use Rattle.block_variables.specs.Firsts.{with_breaks}
use Rattle.name_tables.specs.Before.{block_numbers, numbers_before}
use Rattle.symbol_names.proofs.blocks.note_blocks.Given as goal

-- what the rest breaks is what all blocks break
abbrev pub invariant-loop-place : goal.invariant-loop-place
invariant-loop-place l =
    with_breaks l.first
    (blocks_behind l.known.names.now (numbers_before (take l.place (block_numbers l.known.names.now.symbols l.raws))) (drop l.place l.raws))
    ≡ with_breaks l.initial.first (blocks_behind l.known.names.now [] l.raws)
