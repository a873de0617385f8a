use Rattle.std.proofs.Common.{◌==◌}
use Rattle.image_text.proofs.Cuts.{cut}
use Rattle.image_text.proofs.pieces.cut_line.Goals as goal

pub returns-clause-cut : goal.returns-clause-cut
returns-clause-cut c = rw (c.split_at.ensures.front, c.split_at.ensures.back, c.line_size.ensures.size) (cut (λ b. b == 10) c.args.text.now)
