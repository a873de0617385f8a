use Rattle.std.proofs.Common.{◌≡◌, [], ◌++◌, map, take, drop}
use Rattle.std.specs.List.{filter_map}
use Rattle.stl_rules.specs.Stages.{dbs_behind}
use Rattle.block_variables.specs.Firsts.{with_breaks}
use Rattle.symbol_names.specs.inner.Kept.{data_kept, instance_kept}
use Rattle.name_tables.specs.Before.{db_numbers, numbers_before}
use Rattle.operand_scopes.specs.Refused.{own_of}
use Rattle.symbol_names.proofs.data.put_each.Given as goal

-- what is found and what the rest breaks are what all data blocks break
abbrev pub invariant-loop-place : goal.invariant-loop-place
invariant-loop-place l =
    (l.found.declarations.items ≡ l.initial.found.declarations.items ++ map own_of (take l.place l.dbs))
    × (l.found.made ≡ l.initial.found.made ++ filter_map (data_kept l.keep l.names) (take l.place l.dbs))
    × (l.found.instances ≡ l.initial.found.instances ++ filter_map (instance_kept l.names) (take l.place l.dbs))
    × (with_breaks l.found.first (dbs_behind l.names (numbers_before (take l.place (db_numbers l.names.symbols l.dbs))) (drop l.place l.dbs))
    ≡ with_breaks l.initial.found.first (dbs_behind l.names [] l.dbs))
