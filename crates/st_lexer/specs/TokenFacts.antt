-- What the tokens of a text are, by their sorts: words of letters, digits and `_`, places with numbers
-- of 32 bits, and values that their types have.
use Rattle.std.specs.Prelude.{◌≡◌, ℕ, Bool, true, false, ◌&&◌, List, [], ◌∷◌, All, IfSome, Ok}
use Rattle.std.specs.List.{list_all}
use Rattle.s7_base.specs.Tokens.{is_word_byte}
use Rattle.st_lexer.specs.Direct.{direct_of}
use Rattle.st_lexer.specs.Literals.{literal_at, is_in_range, signed_value}
use Rattle.st_lexer.specs.Spelled.{has_value, is_place}
use Rattle.st_tree.specs.Naming.{is_letter}
use Rattle.st_lexer.specs.StTokens.{tokens_of}
use Rattle.st_lexer.specs.declared.direct.Direct.{Direct}
use Rattle.st_lexer.specs.declared.literal.Literal.{Literal}
use Rattle.st_tree.specs.declared.token.StKind.{StKind}
use Rattle.st_tree.specs.declared.token.StKind.TheVariants as sort
use Rattle.st_tree.specs.declared.token.StToken.{StToken}

-- a letter or `_`, then letters, digits and `_`
abbrev pub is_word : List ℕ → Bool
is_word [] = false
is_word (b ∷ w) = is_letter b && list_all is_word_byte w

-- a direct variable names a place with numbers of 32 bits
abbrev pub HasPlace : Direct → Type 0
HasPlace d = is_place d.area d.block d.width d.byte d.bit ≡ true

-- a type that has the number of a literal has its value; so there is a `-` only before numbers of types with a sign
abbrev pub HasValue : Literal → Type 0
HasValue found = is_in_range found ≡ true → has_value found.kind (signed_value found) ≡ true

-- the property of a text of a sort
abbrev pub IsOfSort : StKind → List ℕ → Type 0
IsOfSort sort.Word text = is_word text ≡ true
IsOfSort sort.Direct text = IfSome (direct_of text) HasPlace
IsOfSort sort.Literal text = IfSome (literal_at text) HasValue
IsOfSort sort.Sign text = Unit {0}

-- the text of a token is what its sort says
abbrev pub IsOfItsSort : StToken → Type 0
IsOfItsSort token = IsOfSort token.kind token.text

-- each token of a text is of its sort
abbrev pub TokensAreOfTheirSorts : Type 0
TokensAreOfTheirSorts = (bytes : List ℕ) (tokens : List StToken) → tokens_of bytes ≡ Ok tokens → All IsOfItsSort tokens
