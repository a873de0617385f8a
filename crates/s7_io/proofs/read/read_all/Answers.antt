use Rattle.std.proofs.Common.{arith}
use Rattle.std.proofs.lemmas.List.{length-take}
use Rattle.s7_io.proofs.SourceLaws.{GaveExactly-piece, GaveAtMost-piece}
use Rattle.s7_io.proofs.read.read_all.Goals as goal

-- the piece has more bytes than the limit leaves, and not more than one over
pub returns-then-count-left-clause-too_long : goal.returns-then-count-left-clause-too_long
returns-then-count-left-clause-too_long g c = λ _.
    GaveExactly-piece _ _ _ _ _ _ _ c.pieces.invariant.gave c.in-Ok.ensures.bytes c.in-Ok.ensures.within
    (omega (
      arith,
      c.in-Ok.ensures.within,
      length-take c.min-room.result c.pieces.piece,
      c.pieces.bytes.ok.0,
    ))

-- the piece is gone, though there was no memory to keep it
pub returns-in_err-extend_from_slice-in-Ok-clause-otherwise :
    goal.returns-in_err-extend_from_slice-in-Ok-clause-otherwise
returns-in_err-extend_from_slice-in-Ok-clause-otherwise g c = λ _.
    GaveAtMost-piece _ _ _ _ _ _ _ c.pieces.invariant.gave c.in-Ok.ensures.bytes c.in-Ok.ensures.within
    (omega (arith, c.pieces.bytes.ok.0))
