-- The tokens of an ST text as a relation: a text is a piece and what stands after it, to its end.
use Rattle.std.specs.Prelude.{◌≡◌, ℕ, ◌<◌, false, List, [], ◌∷◌, ◌++◌, length, Some, None, Ok, Err}
use Rattle.s7_base.specs.Tokens.{line_at_end}
use Rattle.s7_base.specs.declared.reason.Line.{Line}
use Rattle.s7_base.specs.declared.reason.Reason.TheVariants.{BadToken}
use Rattle.s7_base.specs.declared.reason.Rejection.TheVariants.{Refused}
use Rattle.st_lexer.specs.StTokens.{Piece, piece_at, piece_size, line_behind, token_of, great_from, tokens_of}
use Rattle.st_tree.specs.declared.token.StToken.{StToken}

-- the line after some bytes
abbrev pub line_past : ℕ → List ℕ → ℕ
line_past line [] = line
line_past line (b ∷ bytes) = line_past (line_behind b line) bytes

-- a text begins with this piece, and these are its bytes
pub record Stands (piece : Piece) (front rest : List ℕ) : Type 0 where
  pub found : piece_at (front ++ rest) ≡ Some piece
  pub size : piece_size piece ≡ length front

-- a text on a line is cut up to a rest on a line, and these are its tokens so far
pub data Cuts : ℕ → List ℕ → List StToken → ℕ → List ℕ → Type 0 where
  here : {line : ℕ} {rest : List ℕ} → Cuts line rest [] line rest
  next : (piece : Piece) (front : List ℕ) {line end : ℕ} {more rest : List ℕ} {tokens : List StToken} →
      Stands piece front more → Cuts (line_past line front) more tokens end rest
      → Cuts line (front ++ more) (token_of piece (front ++ more) line ++ tokens) end rest

-- a text that has not ended begins with no piece
pub record NoPiece (rest : List ℕ) : Type 0 where
  pub some : 0 < length rest
  pub none : piece_at rest ≡ None

-- a text has these tokens exactly where it is cut to its end and no decimal is too great at its place; the first that
-- is too great is a bad token, and else the first place where no piece begins; a text that is cut to its end ends on
-- its last line
pub record TokensAreCut : Type 0 where
  pub sound : (bytes : List ℕ) (tokens : List StToken) → tokens_of bytes ≡ Ok tokens
      → ((line : ℕ) × Cuts 1 bytes tokens line []) × (great_from false tokens ≡ None)
  pub complete : (bytes : List ℕ) (tokens : List StToken) (line : ℕ) →
      Cuts 1 bytes tokens line [] → great_from false tokens ≡ None → tokens_of bytes ≡ Ok tokens
  pub great : (bytes : List ℕ) (tokens : List StToken) (end : ℕ) (line : Line) →
      Cuts 1 bytes tokens end [] → great_from false tokens ≡ Some line → tokens_of bytes ≡ Err (Refused line BadToken)
  pub great_before : (bytes : List ℕ) (tokens : List StToken) (end : ℕ) (line : Line) (rest : List ℕ) →
      Cuts 1 bytes tokens end rest → NoPiece rest → great_from false tokens ≡ Some line
      → tokens_of bytes ≡ Err (Refused line BadToken)
  pub bad : (bytes : List ℕ) (tokens : List StToken) (line : ℕ) (rest : List ℕ) →
      Cuts 1 bytes tokens line rest → NoPiece rest → great_from false tokens ≡ None
      → tokens_of bytes ≡ Err (Refused (record { 0 = line }) BadToken)
  pub ends : (bytes : List ℕ) (tokens : List StToken) (line : ℕ) → Cuts 1 bytes tokens line []
      → line_at_end bytes ≡ record { 0 = line }
