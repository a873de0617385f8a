use Rattle.image_text.specs.Image.{is_blank}
use Rattle.image_text.proofs.Cuts.{cut}
use Rattle.image_text.proofs.pieces.cut_piece.Goals as goal

pub returns-clause-cut : goal.returns-clause-cut
returns-clause-cut c = rw (c.split_at.ensures.front, c.split_at.ensures.back, c.piece_size.ensures.size) (cut is_blank c.args.text.now)
