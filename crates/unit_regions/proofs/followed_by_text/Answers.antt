use Rattle.unit_regions.proofs.Following.{followed_by_text}
use Rattle.unit_regions.proofs.followed_by_text.Goals as goal

pub returns : goal.returns
returns c = followed_by_text
