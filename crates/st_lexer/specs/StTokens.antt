-- The tokens of a Structured Text. A text is cut into pieces, each at the front of what the pieces before it leave:
-- gaps (a blank, a comment) and tokens. Where there is no piece is a bad token, and so is a decimal that is too great
-- for a DINT, but directly after `..` and before `(`.
-- Held against: IEC 61131-3, 'Identifiers', 'Keywords' and 'Comments'.
use Rattle.std.specs.Prelude.{ℕ, suc, zero, ◌+◌, ◌-◌, Bool, false, not, ◌==◌, ◌&&◌, ◌||◌, if◌then◌else◌, List, [], ◌∷◌, ◌++◌, take, drop, codes, Option, Some, None, option_map, Result, Ok, Err, nat_eq}
use Rattle.std.specs.Cmp.Lexicographic.{pointwise}
use Rattle.std.specs.List.{list_any}
use Rattle.s7_base.specs.Tokens.{begins_with, line_size, line_after}
use Rattle.s7_base.specs.declared.reason.Line.{Line}
use Rattle.s7_base.specs.declared.reason.Reason.TheVariants.{BadToken}
use Rattle.s7_base.specs.declared.reason.Rejection.{Rejection}
use Rattle.s7_base.specs.declared.reason.Rejection.TheVariants.{Refused}
use Rattle.st_lexer.specs.Direct.{direct_at}
use Rattle.st_lexer.specs.Literals.{word_size, type_at, literal_at, is_in_range, is_digit_to, base_at}
use Rattle.st_lexer.specs.declared.direct.Direct.{Direct}
use Rattle.st_lexer.specs.declared.literal.Literal.{Literal}
use Rattle.st_tree.specs.Naming.{is_letter}
use Rattle.st_tree.specs.declared.expr.StType.{StType}
use Rattle.st_lexer.specs.declared.number.Base.{Base}
use Rattle.st_lexer.specs.declared.number.Base.TheVariants.{Ten}
use Rattle.st_tree.specs.declared.token.StKind.{StKind}
use Rattle.st_tree.specs.declared.token.StKind.TheVariants as sort
use Rattle.st_tree.specs.declared.token.StToken.{StToken}

-- Bytes

-- a byte is a space, TAB, CR or LF
abbrev pub is_blank : ℕ → Bool
is_blank b = b == 32 || b == 9 || b == 13 || b == 10

-- a byte is a sign of one character
abbrev pub is_sign : ℕ → Bool
is_sign b = list_any (λ sign. sign == b) (codes ":;,()[]+-*/=<>&")

-- a sign of two characters: := .. <> >= <=
abbrev pub is_double_sign : ℕ → ℕ → Bool
is_double_sign a b =
    (a == 58 && b == 61) || (a == 46 && b == 46) || (a == 60 && b == 62) || (a == 62 && b == 61) || (a == 60 && b == 61)

-- Pieces

-- what a text is made of, each piece with its size in bytes
pub data Piece : Type 0 where
  gap : ℕ → Piece
  token : StKind → ℕ → Piece

-- how many bytes a piece has
abbrev pub piece_size : Piece → ℕ
piece_size (gap size) = size
piece_size (token kind size) = size

-- how many bytes come up to the first `*)`, with it
abbrev pub comment_size : List ℕ → Option ℕ
comment_size [] = None
comment_size (first ∷ rest) = if first == 42 && begins_with 41 rest then Some 2 else option_map suc (comment_size rest)

-- a longest sign of one or two characters
abbrev pub sign_piece : ℕ → List ℕ → Option Piece
sign_piece first [] = if is_sign first then Some (token sort.Sign 1) else None
sign_piece first (second ∷ rest) =
    if is_double_sign first second then Some (token sort.Sign 2)
    else if is_sign first then Some (token sort.Sign 1)
    else None

-- a comment, up to its `*)` or to the end of its line, or a sign
abbrev pub mark_piece : ℕ → List ℕ → Option Piece
mark_piece first rest =
    if first == 40 && begins_with 42 rest then option_map (λ size. gap (size + 2)) (comment_size (drop 1 rest))
    else if first == 47 && begins_with 47 rest then Some (gap (line_size rest + 1))
    else sign_piece first rest

-- a literal is a piece if its type has its number
abbrev pub ranged_piece : Option Literal → Option Piece
ranged_piece None = None
ranged_piece (Some literal) = if is_in_range literal then Some (token sort.Literal literal.size) else None

-- a decimal is a piece in any case; the tokens next to it tell whether it is too great
abbrev pub number_piece : Base → Option Literal → Option Piece
number_piece Ten (Some literal) = Some (token sort.Literal literal.size)
number_piece base literal = ranged_piece literal

-- the piece of a word: a type and `#` begin a literal; another word is one alone
abbrev pub word_piece : Option StType → List ℕ → Option Piece
word_piece None bytes = Some (token sort.Word (word_size bytes))
word_piece (Some type) bytes = ranged_piece (literal_at bytes)

-- a direct variable, as a piece
abbrev pub direct_piece : Option Direct → Option Piece
direct_piece None = None
direct_piece (Some direct) = Some (token sort.Direct direct.size)

-- a piece that begins with a mark: a direct variable, a comment or a sign
abbrev pub other_piece : List ℕ → Option Piece
other_piece [] = None
other_piece (first ∷ rest) = if first == 37 then direct_piece (direct_at (first ∷ rest)) else mark_piece first rest

-- the piece at the front of a text, by its first byte
abbrev pub piece_at : List ℕ → Option Piece
piece_at [] = None
piece_at (first ∷ rest) =
    if is_blank first then Some (gap 1)
    else if is_letter first then word_piece (type_at (first ∷ rest)) (first ∷ rest)
    else if is_digit_to Ten first then number_piece (base_at (first ∷ rest)) (literal_at (first ∷ rest))
    else other_piece (first ∷ rest)

-- Tokens

-- the line after a byte on a line
abbrev pub line_behind : ℕ → ℕ → ℕ
line_behind b line = if b == 10 then line_after line else line

-- the token that a piece is, at the front of a text
abbrev pub token_of : Piece → List ℕ → ℕ → List StToken
token_of (gap size) bytes line = []
token_of (token kind size) bytes line = record { kind = kind; text = take size bytes; line = record { 0 = line } } ∷ []

-- the tokens up to the end of a text or to where no piece begins, and the line of that place
pub record Cut : Type 0 where
  pub tokens : List StToken
  pub bad : Option Line

-- tokens before those of a cut
abbrev pub prepend_tokens : List StToken → Cut → Cut
prepend_tokens tokens more = record { tokens = tokens ++ more.tokens; bad = more.bad }

-- the cut by a piece, or the end of the tokens where there is no piece
abbrev pub with_piece : Option Piece → ℕ → (Piece → Cut) → Cut
with_piece None line next = record { tokens = []; bad = Some (record { 0 = line }) }
with_piece (Some piece) line next = next piece

-- the cut from a place on a line; `skip` bytes still belong to the piece before
abbrev pub cut_from : ℕ → ℕ → List ℕ → Cut
cut_from skip line [] = record { tokens = []; bad = None }
cut_from (suc skip) line (b ∷ rest) = cut_from skip (line_behind b line) rest
cut_from zero line (b ∷ rest) =
    with_piece (piece_at (b ∷ rest)) line (λ piece.
    prepend_tokens (token_of piece (b ∷ rest) line) (cut_from (piece_size piece - 1) (line_behind b line) rest))

-- Decimals

-- a literal outside its type's range; of those that are cut, only a decimal can be one
abbrev pub is_great : StKind → Option Literal → Bool
is_great sort.Literal (Some literal) = not (is_in_range literal)
is_great kind literal = false

-- the token has this text
abbrev pub has_text : List ℕ → StToken → Bool
has_text text item = pointwise nat_eq item.text text

-- the tokens begin with `(`
abbrev pub begins_with_bracket : List StToken → Bool
begins_with_bracket [] = false
begins_with_bracket (first ∷ rest) = has_text (codes "(") first

-- the line of the first decimal that is too great at its place; the first token may come after `..`
abbrev pub great_from : Bool → List StToken → Option Line
great_from behind_dots [] = None
great_from behind_dots (first ∷ rest) =
    if is_great first.kind (literal_at first.text) && not behind_dots && not (begins_with_bracket rest)
    then Some first.line
    else great_from (has_text (codes "..") first) rest

-- the line of a decimal that is too great, or else that of the place where no piece begins, after all tokens
abbrev pub first_bad : Option Line → Option Line → Option Line
first_bad (Some line) place = Some line
first_bad None place = place

-- the tokens, unless a token is bad
abbrev pub answer : Option Line → List StToken → Result (List StToken) Rejection
answer (Some line) tokens = Err (Refused line BadToken)
answer None tokens = Ok tokens

-- the answer to a cut text
abbrev pub answer_to : Cut → Result (List StToken) Rejection
answer_to cut = answer (first_bad (great_from false cut.tokens) cut.bad) cut.tokens

-- the tokens of a text, or the line of its first bad token
unfoldable pub tokens_of : List ℕ → Result (List StToken) Rejection
tokens_of bytes = answer_to (cut_from 0 1 bytes)
