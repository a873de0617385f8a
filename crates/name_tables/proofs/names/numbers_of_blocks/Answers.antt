use Rattle.std.proofs.Common.{[]}
use Rattle.name_tables.specs.Before.{number_of_block}
use Rattle.name_tables.proofs.Lists.{map_turn}
use Rattle.name_tables.proofs.names.numbers_of_blocks.Goals as goal

pub loop-raw-preserved : goal.loop-raw-preserved
loop-raw-preserved c =
    map_turn (number_of_block c.args.symbols.now) [] c.loop-raw.numbers.items c.put_number.new.numbers.items
    c.args.blocks.now c.loop-raw.raw-index c.raw-item.result c.loop-raw-test.true c.raw-item.is c.loop-raw.invariant c.in_ok-put_number.ensures
