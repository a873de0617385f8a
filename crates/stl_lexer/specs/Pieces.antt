-- The pieces of a source text, form by form: which bytes a piece has, and what must not follow it. They
-- are the tokens of a text a second time, as they stand on the page.
use Rattle.std.specs.Prelude.{◌≡◌, ℕ, ◌<◌, Bool, true, false, not, ◌==◌, ◌&&◌, ◌||◌, List, [], ◌∷◌, ◌++◌, length, codes, Ok, Err}
use Rattle.s7_base.specs.Tokens.{is_blank, is_word_byte, is_same_word, is_sign, is_double_sign, line_after, tokens_of}
use Rattle.s7_base.specs.declared.reason.Reason.TheVariants.{BadToken}
use Rattle.s7_base.specs.declared.reason.Rejection.{Rejection}
use Rattle.s7_base.specs.declared.reason.Rejection.TheVariants.{Refused}
use Rattle.s7_base.specs.declared.token.Token.{Token}
use Rattle.s7_base.specs.declared.token.TokenKind.{TokenKind}
use Rattle.s7_base.specs.declared.token.TokenKind.TheVariants.{Word, Quoted, Text, Sign}

-- each of these bytes passes the test
abbrev pub Each : (ℕ → Bool) → List ℕ → Type 0
Each test [] = Unit {0}
Each test (b ∷ bytes) = (test b ≡ true) × Each test bytes

-- the text does not begin with a byte that passes the test
abbrev pub Stops : (ℕ → Bool) → List ℕ → Type 0
Stops test [] = Unit {0}
Stops test (b ∷ bytes) = test b ≡ false

-- the byte is no LF
abbrev pub is_in_line : ℕ → Bool
is_in_line b = not (b == 10)

-- the byte is neither LF nor the one that closes
abbrev pub is_inside : ℕ → ℕ → Bool
is_inside close b = not (b == close || b == 10)

-- a longest run of letters, digits and `_`
pub record IsRun (word rest : List ℕ) : Type 0 where
  pub some : 0 < length word
  pub each : Each is_word_byte word
  pub longest : Stops is_word_byte rest

-- the rest of a line, up to its LF or the end of the text
pub record IsLineRest (bytes rest : List ℕ) : Type 0 where
  pub each : Each is_in_line bytes
  pub whole : Stops is_in_line rest

-- a word before this rest makes a title: it is TITLE, and an equals sign follows, with or without blanks before it
pub record MakesTitle (word rest : List ℕ) : Type 0 where
  pub blanks : List ℕ
  pub more : List ℕ
  pub title : is_same_word word (codes "TITLE") ≡ true
  pub blank : Each is_blank blanks
  pub equals : rest ≡ blanks ++ (61 ∷ more)

-- these bytes begin a sign of two characters, or a comment
abbrev pub goes_on : ℕ → List ℕ → Bool
goes_on a [] = false
goes_on a (b ∷ rest) = is_double_sign a b || (a == 47 && b == 47)

-- what a piece is: the end of a line, something that is skipped, or a token with its characters
pub data Piece : Type 0 where
  line_end : Piece
  passed : Piece
  token : TokenKind → List ℕ → Piece

-- these bytes are a piece of a text, with this rest after them
pub data IsPiece : Piece → List ℕ → List ℕ → Type 0 where
  end_of_line : {rest : List ℕ} → IsPiece line_end (10 ∷ []) rest
  blank : (b : ℕ) {rest : List ℕ} → is_blank b ≡ true → IsPiece passed (b ∷ []) rest
  comment : (inside : List ℕ) {rest : List ℕ} → IsLineRest inside rest → IsPiece passed (47 ∷ 47 ∷ inside) rest
  attribute : (inside : List ℕ) {rest : List ℕ} → Each (is_inside 125) inside
      → IsPiece passed (123 ∷ (inside ++ (125 ∷ []))) rest
  title : (word inside : List ℕ) {rest : List ℕ} → IsRun word (inside ++ rest) → MakesTitle word (inside ++ rest)
      → IsLineRest inside rest → IsPiece passed (word ++ inside) rest
  plain_word : (word : List ℕ) {rest : List ℕ} → IsRun word rest → (MakesTitle word rest → ⊥)
      → IsPiece (token Word word) word rest
  quoted_name : (inside : List ℕ) {rest : List ℕ} → Each (is_inside 34) inside
      → IsPiece (token Quoted inside) (34 ∷ (inside ++ (34 ∷ []))) rest
  quoted_text : (inside : List ℕ) {rest : List ℕ} → Each (is_inside 39) inside
      → IsPiece (token Text inside) (39 ∷ (inside ++ (39 ∷ []))) rest
  double_sign : (a b : ℕ) {rest : List ℕ} → is_double_sign a b ≡ true
      → IsPiece (token Sign (a ∷ b ∷ [])) (a ∷ b ∷ []) rest
  single_sign : (a : ℕ) {rest : List ℕ} → is_sign a ≡ true → goes_on a rest ≡ false
      → IsPiece (token Sign (a ∷ [])) (a ∷ []) rest

-- a text that has not ended begins with no piece
pub record NoPiece (bytes : List ℕ) : Type 0 where
  pub some : 0 < length bytes
  pub none : (piece : Piece) (front rest : List ℕ) → bytes ≡ front ++ rest → IsPiece piece front rest → ⊥

-- the line after a piece on a line
abbrev pub line_past : Piece → ℕ → ℕ
line_past line_end line = line_after line
line_past passed line = line
line_past (token kind characters) line = line

-- the last byte of a piece, or the byte before it
abbrev pub last_of : ℕ → List ℕ → ℕ
last_of before [] = before
last_of before (b ∷ bytes) = last_of b bytes

-- the token that a piece is, on a line and after a byte; it is glued where that is no blank
abbrev pub tokens_in : Piece → ℕ → ℕ → List Token
tokens_in line_end line before = []
tokens_in passed line before = []
tokens_in (token kind characters) line before =
    record { kind = kind; text = characters; line = record { 0 = line }; glued = not (is_blank before) } ∷ []

-- a text on a line and after a byte is cut up to a rest on a line, and these are its tokens so far
pub data Cuts : ℕ → ℕ → List ℕ → List Token → ℕ → List ℕ → Type 0 where
  here : {line before : ℕ} {rest : List ℕ} → Cuts line before rest [] line rest
  next : (piece : Piece) (front : List ℕ) {line before end : ℕ} {more rest : List ℕ} {tokens : List Token} →
      IsPiece piece front more → Cuts (line_past piece line) (last_of before front) more tokens end rest
      → Cuts line before (front ++ more) (tokens_in piece line before ++ tokens) end rest

-- a text is cut up to a rest on a line where no piece begins
pub record BadAt (bytes : List ℕ) (line : ℕ) : Type 0 where
  pub tokens : List Token
  pub rest : List ℕ
  pub cut : Cuts 1 10 bytes tokens line rest
  pub none : NoPiece rest

-- a text has these tokens exactly where it is cut to its end, and a bad token on a line exactly where it is cut up to
-- that line and no piece begins there
pub record TokensAreCut : Type 0 where
  pub sound : (bytes : List ℕ) (tokens : List Token) → tokens_of bytes ≡ Ok tokens
      → (line : ℕ) × Cuts 1 10 bytes tokens line []
  pub complete : (bytes : List ℕ) (tokens : List Token) (line : ℕ) → Cuts 1 10 bytes tokens line []
      → tokens_of bytes ≡ Ok tokens
  pub refused : (bytes : List ℕ) (answer : Rejection) → tokens_of bytes ≡ Err answer
      → (line : ℕ) × (answer ≡ Refused (record { 0 = line }) BadToken) × BadAt bytes line
  pub bad : (bytes : List ℕ) (line : ℕ) → BadAt bytes line
      → tokens_of bytes ≡ Err (Refused (record { 0 = line }) BadToken)
