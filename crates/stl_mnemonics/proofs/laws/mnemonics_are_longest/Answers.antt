use Rattle.stl_mnemonics.proofs.TableLaws.{are_longest}
use Rattle.stl_mnemonics.proofs.laws.mnemonics_are_longest.Goals as goal

pub returns : goal.returns
returns c = are_longest
