use Rattle.nesting_laws.proofs.Plannings.{nested_by_paths_is_planned}
use Rattle.nesting_laws.proofs.nested_by_paths_is_planned.Goals as goal

pub returns : goal.returns
returns c = nested_by_paths_is_planned
