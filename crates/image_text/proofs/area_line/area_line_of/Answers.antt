use Rattle.std.proofs.Common.{◌<◌, length, arith}
use Rattle.std.proofs.lemmas.Grind.{common_steps}
use Rattle.image_text.proofs.Kept.{area_line_whole}
use Rattle.image_text.proofs.area_line.area_line_of.Goals as goal

pub returns-clause-area_line : goal.returns-clause-area_line
returns-clause-area_line c =
    let some : 0 < length c.next_piece.result.1.now = grind (arith, common_steps) in
    rw (c.line_of_parts.ensures.area_line, c.area_of.ensures.value, c.byte_number.ensures)
    (area_line_whole c.cut_piece.result.0.now c.next_piece.result.0.now c.next_piece.result.1.now
    c.cut_piece.result.1.now c.args.line.now c.cut_piece.ensures.cut c.next_piece.ensures.cut some)
