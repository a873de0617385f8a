-- The code's pieces, tokens and cuts as those of the definition, and how much of a text they take.
use Rattle.std.specs.Prelude.{ℕ, ◌<◌, ◌≤◌, map}
use Rattle.st_lexer.specs.StTokens.{Piece, gap, token, Cut}
use Rattle.st_lexer.specs.declared.lexer.Cut.{Cut as FoundCut}
use Rattle.st_lexer.specs.declared.lexer.Lexeme.{Lexeme}
use Rattle.st_lexer.specs.declared.lexer.Piece.{Piece as CutPiece}
use Rattle.st_lexer.specs.declared.lexer.Piece.TheVariants as found
use Rattle.st_tree.specs.declared.token.StToken.{StToken}

-- a piece that the code found, as the definition has it: the sort of a token, and how many bytes the
-- piece takes
abbrev pub view : CutPiece → Piece
view (found.Gap size) = gap size
view (found.Token kind size) = token kind size

-- the token at a place in a text
abbrev pub token_seen : Lexeme → StToken
token_seen lexeme = record { kind = lexeme.kind; text = lexeme.text.now; line = lexeme.line }

-- the tokens that the code has cut and the line where it stopped, as the definition has them
abbrev pub cut_view : FoundCut → Cut
cut_view cut = record { tokens = map token_seen cut.tokens.items; bad = cut.bad }

-- a size is of a byte or more, and of no more than there are
pub record IsWithin (size most : ℕ) : Type 0 where
  pub some : 0 < size
  pub enough : size ≤ most
