-- The addresses of the symbol table, form by form.
use Rattle.std.specs.Prelude.{◌≡◌, ℕ, true, List, ◌∷◌, ◌++◌, Some}
use Rattle.std.specs.Char.{to_ascii_uppercase}
use Rattle.std.specs.List.{list_all}
use Rattle.digit_texts.specs.Digits.{kept_number}
use Rattle.memory_areas.specs.declared.place.AreaName.{AreaName}
use Rattle.s7_base.specs.Tokens.{is_blank, is_same_word}
use Rattle.s7_base.specs.declared.word.Width.{Width}
use Rattle.s7_base.specs.declared.word.Width.TheVariants as width
use Rattle.stl_statement_grammar.specs.BlockNames.{kind_word}
use Rattle.stl_grammar.specs.Symbols.{area_by, place_of, width_by}
use Rattle.stl_tree.specs.declared.raw.BlockKind.{BlockKind}
use Rattle.stl_tree.specs.declared.raw.SymbolAddress.{SymbolAddress}
use Rattle.stl_tree.specs.declared.raw.SymbolAddress.TheVariants as address

-- an address as it is written in a field: `DB 7`, `MW5` or `I 0.0`; there may be blanks between letters and digits
pub data IsWrittenAddress : List ℕ → SymbolAddress → Type 0 where
  block : (letters blanks digits : List ℕ) (kind : BlockKind) (n : ℕ) →
      is_same_word letters (kind_word kind) ≡ true → list_all is_blank blanks ≡ true → kept_number digits ≡ Some n
      → IsWrittenAddress (letters ++ (blanks ++ digits)) (address.Block kind n)
  wide : (letter next : ℕ) (more blanks digits : List ℕ) (name : AreaName) (w : Width) (byte : ℕ)
      → area_by (to_ascii_uppercase letter) ≡ Some name
      → width_by (next ∷ more) ≡ Some w → list_all is_blank blanks ≡ true
      → kept_number digits ≡ Some byte
      → IsWrittenAddress (letter ∷ (next ∷ (more ++ (blanks ++ digits)))) (place_of name w byte 0)
  bit : (letter : ℕ) (blanks front back : List ℕ) (name : AreaName) (byte x : ℕ) →
      area_by (to_ascii_uppercase letter) ≡ Some name → list_all is_blank blanks ≡ true
      → kept_number front ≡ Some byte → kept_number back ≡ Some x
      → IsWrittenAddress (letter ∷ (blanks ++ (front ++ (46 ∷ back)))) (place_of name width.Bit byte x)

-- the address of a field; a field with another text has none of these
pub data IsAddress : List ℕ → SymbolAddress → Type 0 where
  as_form : (field : List ℕ) (its : SymbolAddress) → IsWrittenAddress field its → IsAddress field its
  other : (field : List ℕ) → ((its : SymbolAddress) → IsWrittenAddress field its → ⊥) → IsAddress field address.Other
