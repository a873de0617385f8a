use Rattle.unit_regions.proofs.Tables.{table_text}
use Rattle.unit_regions.proofs.table_text.Goals as goal

pub returns : goal.returns
returns c = table_text
