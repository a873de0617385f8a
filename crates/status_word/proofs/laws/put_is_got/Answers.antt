use Rattle.status_word.proofs.WordLaws.{put_got}
use Rattle.status_word.proofs.laws.put_is_got.Goals as goal

pub returns : goal.returns
returns c = put_got
