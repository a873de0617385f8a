use Rattle.std.proofs.Common.{◌≡◌, take}
use Rattle.name_tables.specs.Before.{db_numbers}
use Rattle.name_tables.proofs.names.numbers_of_dbs.Given as goal

abbrev pub invariant-loop-d : goal.invariant-loop-d
invariant-loop-d l = l.numbers.items ≡ db_numbers l.symbols (take l.d-index l.dbs)
