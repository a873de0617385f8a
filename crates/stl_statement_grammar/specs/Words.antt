-- Words and signs among tokens. What a token spells.
-- Held against: this project's own source form.
use Rattle.std.specs.Prelude.{ℕ, Bool, true, false, ◌&&◌, ◌||◌, List}
use Rattle.s7_base.specs.Tokens.{is_among, is_same_word}
use Rattle.s7_base.specs.declared.token.Token.{Token}
use Rattle.s7_base.specs.declared.token.TokenKind.{TokenKind}
use Rattle.s7_base.specs.declared.token.TokenKind.TheVariants.{Word, Quoted, Text, Sign}

-- the token is a word, neither in quotes nor a sign
abbrev pub is_word_kind : TokenKind → Bool
is_word_kind Word = true
is_word_kind Quoted = false
is_word_kind Text = false
is_word_kind Sign = false

-- the token is a name in quotes
abbrev pub is_quoted_kind : TokenKind → Bool
is_quoted_kind Word = false
is_quoted_kind Quoted = true
is_quoted_kind Text = false
is_quoted_kind Sign = false

-- the token is a text in single quotes
abbrev pub is_text_kind : TokenKind → Bool
is_text_kind Word = false
is_text_kind Quoted = false
is_text_kind Text = true
is_text_kind Sign = false

-- the token is a sign
abbrev pub is_sign_kind : TokenKind → Bool
is_sign_kind Word = false
is_sign_kind Quoted = false
is_sign_kind Text = false
is_sign_kind Sign = true

-- the token is a word of the table, in any case
abbrev pub is_word_among : List (List ℕ) → Token → Bool
is_word_among table token = is_word_kind token.kind && is_among table token.text

-- the token is a sign of the table
abbrev pub is_sign_among : List (List ℕ) → Token → Bool
is_sign_among table token = is_sign_kind token.kind && is_among table token.text

-- the token is this word, in any case
abbrev pub is_word : List ℕ → Token → Bool
is_word word token = is_word_kind token.kind && is_same_word token.text word

-- the token is this sign
abbrev pub is_sign : List ℕ → Token → Bool
is_sign sign token = is_sign_kind token.kind && is_same_word token.text sign

-- the token is this sign, with no blank before it
abbrev pub is_joined : List ℕ → Token → Bool
is_joined sign token = is_sign sign token && token.glued

-- the token is a word, with no blank before it
abbrev pub is_joined_word : Token → Bool
is_joined_word token = is_word_kind token.kind && token.glued

-- the token is a word or a sign with this spelling, in any case
abbrev pub is_spelled : List ℕ → Token → Bool
is_spelled text token = (is_word_kind token.kind || is_sign_kind token.kind) && is_same_word token.text text
