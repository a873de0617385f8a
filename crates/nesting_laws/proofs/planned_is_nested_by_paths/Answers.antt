use Rattle.nesting_laws.proofs.Planned.{planned_is_nested_by_paths}
use Rattle.nesting_laws.proofs.planned_is_nested_by_paths.Goals as goal

pub returns : goal.returns
returns c = planned_is_nested_by_paths
