use Rattle.std.proofs.Common.{[]}
use Rattle.name_tables.specs.Before.{number_of_db}
use Rattle.name_tables.proofs.Lists.{map_turn}
use Rattle.name_tables.proofs.names.numbers_of_dbs.Goals as goal

pub loop-d-preserved : goal.loop-d-preserved
loop-d-preserved c =
    map_turn (number_of_db c.args.symbols.now) [] c.loop-d.numbers.items c.put_number.new.numbers.items
    c.args.dbs.now c.loop-d.d-index c.d-item.result c.loop-d-test.true c.d-item.is c.loop-d.invariant c.in_ok-put_number.ensures
