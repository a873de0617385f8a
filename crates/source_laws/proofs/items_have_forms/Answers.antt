use Rattle.source_laws.proofs.ItemLaws.{have_forms}
use Rattle.source_laws.proofs.items_have_forms.Goals as goal

pub returns : goal.returns
returns c = have_forms
