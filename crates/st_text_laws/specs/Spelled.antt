-- Texts whose names, literals, places and conversions are ones that tokens can have.
use Rattle.std.specs.Prelude.{◌≡◌, ℕ, Bool, true, false, not, ◌&&◌, List, [], ◌∷◌, is_none}
use Rattle.std.specs.List.{AllByRecursion, list_all}
use Rattle.s7_base.specs.Tokens.{is_word_byte}
use Rattle.st_lexer.specs.Spelled.{has_value, is_byte, is_decimal, is_place}
use Rattle.st_tree.specs.Naming.{is_letter}
use Rattle.st_grammar.specs.Forms.{Source}
use Rattle.st_grammar.specs.Grammar.{spell_source}
use Rattle.st_grammar.specs.Kinds.{word_named, conversion_named, conversion_between}
use Rattle.st_grammar.specs.declared.kind.Fixed.TheVariants as fixed
use Rattle.st_grammar.specs.declared.kind.Function.TheVariants as function
use Rattle.st_grammar.specs.declared.kind.GrammarKind.{GrammarKind}
use Rattle.st_grammar.specs.declared.kind.GrammarKind.TheVariants as kind
use Rattle.st_grammar.specs.declared.kind.Literal.{Literal}
use Rattle.st_grammar.specs.declared.kind.Literal.TheVariants as lit
use Rattle.st_grammar.specs.declared.kind.OneOperand.{OneOperand}
use Rattle.st_grammar.specs.declared.kind.OneOperand.TheVariants as one
use Rattle.st_tree.specs.declared.raw.RawVar.{RawVar}
use Rattle.st_tree.specs.declared.raw.RawVar.TheVariants as var

-- a text is no keyword, type or function
abbrev pub is_unreserved : List ℕ → Bool
is_unreserved text = is_none (word_named text) && is_none (conversion_named text)

-- a text is a letter or `_`, then letters, digits and `_`
abbrev pub is_name : List ℕ → Bool
is_name [] = false
is_name (b ∷ w) = is_letter b && list_all is_word_byte w && is_unreserved (b ∷ w)

-- a variable is a name, or a place
abbrev pub is_variable : RawVar → Bool
is_variable (var.Name name) = is_name name
is_variable (var.Direct a block w byte bit) = is_place a block w byte bit

-- a literal has a value of its type: a plain decimal is a DINT from 0 on, a byte is at most 255
abbrev pub is_literal : Literal → Bool
is_literal (lit.Decimal n) = is_decimal n
is_literal (lit.Byte b) = is_byte b
is_literal (lit.Typed ty n) = has_value ty n

-- a function is a conversion that exists, or another function
abbrev pub is_function : OneOperand → Bool
is_function (one.Convert from to) = not (is_none (conversion_between from to))
is_function other = true

-- a token can have this kind: its name, place, literal or conversion exists
abbrev pub is_spelled : GrammarKind → Bool
is_spelled (kind.Variable v line) = is_variable v
is_spelled (kind.Literal c) = is_literal c
is_spelled (kind.Fixed (fixed.Function (function.One op))) = is_function op
is_spelled other = true

-- tokens can have each of these kinds
abbrev pub AreSpelled : List GrammarKind → Type 0
AreSpelled = AllByRecursion (λ k. is_spelled k ≡ true)

-- tokens can have all that a text spells
abbrev pub SourceSpelled : Source → Type 0
SourceSpelled source = AreSpelled (spell_source source)
