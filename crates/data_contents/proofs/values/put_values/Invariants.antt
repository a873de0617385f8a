use Rattle.std.proofs.Common.{◌≡◌, ◌++◌, take}
use Rattle.std.specs.List.{flat_map, fold}
use Rattle.stl_rules.specs.DataBlocks.{with_value}
use Rattle.stl_rules.specs.Stages.{initial_breaks}
use Rattle.data_contents.proofs.values.put_values.Given as goal

abbrev pub invariant-loop-v : goal.invariant-loop-v
invariant-loop-v l =
    (l.bytes ≡ fold (with_value l.components) l.initial.bytes (take l.v-index l.values))
    × (l.breaks ≡ l.initial.breaks ++ flat_map (initial_breaks l.components) (take l.v-index l.values))
