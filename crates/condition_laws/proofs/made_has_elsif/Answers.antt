use Rattle.condition_laws.proofs.Elsif.{all_have_elsif}
use Rattle.condition_laws.proofs.made_has_elsif.Goals as goal

pub returns : goal.returns
returns c = all_have_elsif
