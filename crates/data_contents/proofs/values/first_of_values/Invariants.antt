use Rattle.std.proofs.Common.{◌≡◌, take}
use Rattle.std.specs.List.{flat_map}
use Rattle.stl_rules.specs.Stages.{initial_breaks}
use Rattle.data_contents.proofs.values.first_of_values.Given as goal

abbrev pub invariant-loop-v : goal.invariant-loop-v
invariant-loop-v l = l.breaks ≡ flat_map (initial_breaks l.components) (take l.v-index l.values)
