use Rattle.nesting_laws.proofs.Plannings.{well_nested_is_planned}
use Rattle.nesting_laws.proofs.well_nested_is_planned.Goals as goal

pub returns : goal.returns
returns c = well_nested_is_planned
