-- The tokens of an STL source. Lines end with LF; blanks are space, TAB and CR. A text is cut into pieces, each at
-- the front of what the pieces before it leave: ends of lines, gaps (a blank, a comment, an attribute, a title) and
-- tokens. Where there is no piece is a bad token.
-- Held against: this project's own source form.
use Rattle.std.specs.Prelude.{ℕ, suc, zero, ◌+◌, ◌-◌, ◌^◌, min, Bool, false, not, ◌==◌, ◌&&◌, ◌||◌, nat_le, if◌then◌else◌, List, [], ◌∷◌, ◌++◌, length, take, drop, count_by, codes, Option, Some, None, option_map, Result, Ok, Err}
use Rattle.std.specs.List.{prefix_len, list_any}
use Rattle.std.specs.Str.{str_eq_ignore_ascii_case}
use Rattle.s7_base.specs.declared.reason.Line.{Line}
use Rattle.s7_base.specs.declared.reason.Reason.TheVariants.{BadToken}
use Rattle.s7_base.specs.declared.reason.Rejection.{Rejection}
use Rattle.s7_base.specs.declared.reason.Rejection.TheVariants.{Refused}
use Rattle.s7_base.specs.declared.token.Token.{Token}
use Rattle.s7_base.specs.declared.token.TokenKind.{TokenKind}
use Rattle.s7_base.specs.declared.token.TokenKind.TheVariants.{Word, Quoted, Text, Sign}

-- a byte from one number to another
abbrev pub is_between : ℕ → ℕ → ℕ → Bool
is_between low high b = nat_le low b && nat_le b high

-- a byte is a space, TAB or CR
abbrev pub is_blank : ℕ → Bool
is_blank b = b == 32 || b == 9 || b == 13

-- a byte is a letter, a digit or `_`
abbrev pub is_word_byte : ℕ → Bool
is_word_byte b = is_between 48 57 b || is_between 65 90 b || is_between 97 122 b || b == 95

-- two words are the same, in any case
abbrev pub is_same_word : List ℕ → List ℕ → Bool
is_same_word word entry = str_eq_ignore_ascii_case word entry

-- a word is one of a table, in any case
abbrev pub is_among : List (List ℕ) → List ℕ → Bool
is_among table word = list_any (λ entry. is_same_word word entry) table

-- a byte is a sign of one character
abbrev pub is_sign : ℕ → Bool
is_sign b = list_any (λ sign. sign == b) (codes ":;,.()[]=+-*/<>#")

-- a sign of two characters: := .. == <> >= <=
abbrev pub is_double_sign : ℕ → ℕ → Bool
is_double_sign a b =
    (a == 58 && b == 61) || (a == 46 && b == 46) || (a == 61 && b == 61) || (a == 60 && b == 62)
    || (a == 62 && b == 61) || (a == 60 && b == 61)

-- the text begins with this byte
abbrev pub begins_with : ℕ → List ℕ → Bool
begins_with b [] = false
begins_with b (first ∷ rest) = first == b

-- what is left after the blanks at the front
abbrev pub after_blanks : List ℕ → List ℕ
after_blanks bytes = drop (prefix_len is_blank bytes) bytes

-- how many bytes come before the end of the line
abbrev pub line_size : List ℕ → ℕ
line_size bytes = prefix_len (λ b. not (b == 10)) bytes

-- what a text is made of, each piece with its size in bytes
pub data Piece : Type 0 where
  line_end : Piece
  gap : ℕ → Piece
  token : TokenKind → ℕ → Piece

-- how many bytes a piece has
abbrev pub piece_size : Piece → ℕ
piece_size line_end = 1
piece_size (gap size) = size
piece_size (token kind size) = size

-- the size of a piece from its opening byte to the closing byte on the same line, with both
abbrev pub closed_size : ℕ → List ℕ → Option ℕ
closed_size close rest =
    let inside = prefix_len (λ b. not (b == close || b == 10)) rest in
    if begins_with close (drop inside rest) then Some (inside + 2) else None

-- a longest run of letters, digits and `_`; TITLE before an equals sign takes the rest of its line
abbrev pub word_piece : List ℕ → Piece
word_piece bytes =
    let size = prefix_len is_word_byte bytes in
    if str_eq_ignore_ascii_case (take size bytes) (codes "TITLE") && begins_with 61 (after_blanks (drop size bytes))
    then gap (size + line_size (drop size bytes))
    else token Word size

-- a longest sign of one or two characters
abbrev pub sign_piece : ℕ → List ℕ → Option Piece
sign_piece first [] = if is_sign first then Some (token Sign 1) else None
sign_piece first (second ∷ rest) =
    if is_double_sign first second then Some (token Sign 2) else if is_sign first then Some (token Sign 1) else None

-- a comment, which takes the rest of its line, or a sign
abbrev pub comment_or_sign : ℕ → List ℕ → Option Piece
comment_or_sign first rest =
    if first == 47 && begins_with 47 rest then Some (gap (line_size rest + 1)) else sign_piece first rest

-- a piece that begins with a mark: a quoted name, a text, an attribute, a comment or a sign
abbrev pub mark_piece : ℕ → List ℕ → Option Piece
mark_piece first rest =
    if first == 34 then option_map (token Quoted) (closed_size 34 rest)
    else if first == 39 then option_map (token Text) (closed_size 39 rest)
    else if first == 123 then option_map gap (closed_size 125 rest)
    else comment_or_sign first rest

-- the piece at the front of a text, by its first byte
abbrev pub piece_at : List ℕ → Option Piece
piece_at [] = None
piece_at (first ∷ rest) =
    if first == 10 then Some line_end
    else if is_blank first then Some (gap 1)
    else if is_word_byte first then Some (word_piece (first ∷ rest))
    else mark_piece first rest

-- the characters of a token, without the quotes
abbrev pub token_text : TokenKind → List ℕ → List ℕ
token_text Word bytes = bytes
token_text Sign bytes = bytes
token_text Quoted bytes = take (length bytes - 2) (drop 1 bytes)
token_text Text bytes = take (length bytes - 2) (drop 1 bytes)

-- the line after a line; after line 4,294,967,295 it is that line
abbrev pub line_after : ℕ → ℕ
line_after line = min (line + 1) (2 ^ 32 - 1)

-- the line at the end of a text: one more than its ends of lines
abbrev pub line_at_end : List ℕ → Line
line_at_end bytes = record { 0 = min (count_by (λ b. b == 10) bytes + 1) (2 ^ 32 - 1) }

-- the line after a piece on a line
abbrev pub line_behind : Piece → ℕ → ℕ
line_behind line_end line = line_after line
line_behind (gap size) line = line
line_behind (token kind size) line = line

-- the token that a piece is, at the front of a text and after a byte: it is glued where that is no
-- blank
abbrev pub token_of : Piece → List ℕ → ℕ → ℕ → List Token
token_of line_end bytes line before = []
token_of (gap size) bytes line before = []
token_of (token kind size) bytes line before =
    record {
      kind = kind;
      text = token_text kind (take size bytes);
      line = record { 0 = line };
      glued = not (is_blank before);
    } ∷ []

-- tokens before those of an answer, or its refusal
abbrev pub prepend_tokens : List Token → Result (List Token) Rejection → Result (List Token) Rejection
prepend_tokens tokens (Ok more) = Ok (tokens ++ more)
prepend_tokens tokens (Err refused) = Err refused

-- the tokens by a piece, or the line of the bad token where there is no piece
abbrev pub with_piece : Option Piece → ℕ → (Piece → Result (List Token) Rejection) → Result (List Token) Rejection
with_piece None line next = Err (Refused (record { 0 = line }) BadToken)
with_piece (Some piece) line next = next piece

-- the tokens from a place on, on a line and after a byte; `skip` bytes still belong to the piece before
abbrev pub tokens_from : ℕ → ℕ → ℕ → List ℕ → Result (List Token) Rejection
tokens_from skip line before [] = Ok []
tokens_from (suc skip) line before (b ∷ rest) = tokens_from skip line b rest
tokens_from zero line before (b ∷ rest) =
    with_piece (piece_at (b ∷ rest)) line (λ piece.
    prepend_tokens (token_of piece (b ∷ rest) line before)
    (tokens_from (piece_size piece - 1) (line_behind piece line) b rest))

-- the tokens of a text, which begins as a line does, or the line of its first bad token
unfoldable pub tokens_of : List ℕ → Result (List Token) Rejection
tokens_of bytes = tokens_from 0 1 10 bytes
