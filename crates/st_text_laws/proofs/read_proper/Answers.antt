use Rattle.st_text_laws.proofs.ReadProper.{read_proper}
use Rattle.st_text_laws.proofs.read_proper.Goals as goal

pub returns : goal.returns
returns c = read_proper
