-- The lexer's pieces as those of the definition.
use Rattle.std.specs.Prelude.{ℕ, ◌<◌, ◌≤◌}
use Rattle.s7_base.specs.Tokens.{Piece, line_end, gap, token, piece_size}
use Rattle.stl_lexer.specs.declared.piece.Piece.{Piece as Found}
use Rattle.stl_lexer.specs.declared.piece.Piece.TheVariants as found

-- a piece that the lexer found, as the definition has it: what it is, and how many bytes it takes
abbrev pub view : Found → Piece
view found.LineEnd = line_end
view (found.Gap size) = gap size
view (found.Token kind size) = token kind size

-- the piece has a byte, and no more than there are
abbrev pub IsWithin : Found → ℕ → Type 0
IsWithin found size = (0 < piece_size (view found)) × (piece_size (view found) ≤ size)
