use Rattle.std.proofs.Common.{◌≡◌, take}
use Rattle.name_tables.specs.Before.{block_numbers}
use Rattle.name_tables.proofs.names.numbers_of_blocks.Given as goal

abbrev pub invariant-loop-raw : goal.invariant-loop-raw
invariant-loop-raw l = l.numbers.items ≡ block_numbers l.symbols (take l.raw-index l.blocks)
