use Rattle.std.proofs.Common.{◌≡◌, [], ◌++◌, map, take, drop}
use Rattle.stl_rules.specs.Stages.{blocks_behind}
use Rattle.block_variables.specs.Firsts.{with_breaks}
use Rattle.symbol_names.specs.inner.Kept.{block_within}
use Rattle.name_tables.specs.Before.{block_numbers, numbers_before}
use Rattle.symbol_names.proofs.blocks.put_each.Given as goal

-- what is found and what the rest breaks are what all blocks break
abbrev pub invariant-loop-place : goal.invariant-loop-place
invariant-loop-place l =
    (l.blocks.made ≡ l.initial.blocks.made ++ map (block_within l.known.names.now) (take l.place l.raws))
    × (with_breaks l.blocks.first
    (blocks_behind l.known.names.now (numbers_before (take l.place (block_numbers l.known.names.now.symbols l.raws))) (drop l.place l.raws))
    ≡ with_breaks l.initial.blocks.first (blocks_behind l.known.names.now [] l.raws))
