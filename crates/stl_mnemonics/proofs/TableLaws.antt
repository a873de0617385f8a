-- The mnemonic at the front of tokens is the longest of the table that stands there.
use Rattle.std.proofs.Common.{◌≡◌, ◌≤◌, ◌⊎◌, inl, inr, Bool, true, false, not, cond, ◌&&◌, List, [], ◌∷◌, Some, None, refl, sym, ap, subst, ◌∙◌, arith}
use Rattle.std.proofs.lemmas.Bool.{and_parts, not-true, ltb-false}
use Rattle.std.specs.List.{find, list_any}
use Rattle.std.specs.Prelude.{nat_lt}
use Rattle.s7_base.specs.Tokens.{is_same_word}
use Rattle.s7_base.specs.declared.token.Token.{Token}
use Rattle.stl_statement_grammar.specs.ConstantForms.{IsAmong}
use Rattle.stl_statement_grammar.specs.InstructionForms.{MnemonicsAreLongest}
use Rattle.stl_statement_grammar.specs.Mnemonics.{Row, rows, goes_on, stands_at, mnemonic_at}
use Rattle.stl_statement_grammar.specs.Statements.{size_with}
use Rattle.stl_statement_grammar.specs.Words.{is_spelled}
use Rattle.stl_constants.proofs.Reading.{alike}
use Rattle.stl_constants.proofs.Tables.{any_at, found_among, found_passes, none_passes, some_is}

-- a row stands before a longer one that begins in the same way
abbrev hides : Row → Row → Bool
hides row other = nat_lt (size_with row.second) (size_with other.second) && is_same_word other.first row.first

abbrev are_ordered : List Row → Bool
are_ordered [] = true
are_ordered (row ∷ rest) = not (list_any (hides row) rest) && are_ordered rest

rows_ordered : are_ordered rows ≡ true
rows_ordered = refl

-- rows that stand at the front of the same tokens begin with the same word
fronts : (tokens : List Token) (row other : Row) → stands_at tokens row ≡ true → stands_at tokens other ≡ true → is_same_word other.first row.first ≡ true
fronts [] row other p q = absurd cc
fronts (first ∷ rest) row other p q =
    let a = and_parts (is_spelled row.first first) (goes_on row.second rest) p in
    let b = and_parts (is_spelled other.first first) (goes_on other.second rest) q in
    let c = and_parts _ (is_same_word first.text row.first) a.0 in
    let d = and_parts _ (is_same_word first.text other.first) b.0 in
    alike first.text row.first other.first c.1 d.1

no_longer : (row other : Row) (rest : List Row) → list_any (hides row) rest ≡ false → IsAmong other rest → is_same_word other.first row.first ≡ true →
    size_with other.second ≤ size_with row.second
no_longer row other rest none among same = by (nat_lt (size_with row.second) (size_with other.second)) refl
  where
    by : (b : Bool) → nat_lt (size_with row.second) (size_with other.second) ≡ b → size_with other.second ≤ size_with row.second
    by true t =
        let hidden : hides row other ≡ true = both _ _ t same in
        let clash : true ≡ false = sym (any_at (hides row) rest other among hidden) ∙ none in
        absurd cc
      where
        both : (a b : Bool) → a ≡ true → b ≡ true → (a && b) ≡ true
        both true true p q = refl
        both true false p q = absurd cc
        both false b p q = absurd cc
    by false t = ltb-false (size_with row.second) (size_with other.second) t

longest_of : (tokens : List Token) (xs : List Row) (row other : Row) → are_ordered xs ≡ true
    → find (stands_at tokens) xs ≡ Some row → IsAmong other xs → stands_at tokens other ≡ true
    → size_with other.second ≤ size_with row.second
longest_of tokens [] row other o e h s = absurd cc
longest_of tokens (x ∷ xs) row other o e h s =
    let p = and_parts (not (list_any (hides x) xs)) (are_ordered xs) o in
    by (stands_at tokens x) refl e h (not-true (list_any (hides x) xs) p.0) (λ k more. longest_of tokens xs row other p.1 k more s)
  where
    by : (b : Bool) → stands_at tokens x ≡ b → cond b (Some x) (find (stands_at tokens) xs) ≡ Some row
        → (other ≡ x) ⊎ IsAmong other xs → list_any (hides x) xs ≡ false
        → (find (stands_at tokens) xs ≡ Some row → IsAmong other xs → size_with other.second ≤ size_with row.second)
        → size_with other.second ≤ size_with row.second
    by true t e (inl same) none next =
        let is : other ≡ row = same ∙ some_is x row e in
        let P : Row → Type 0 = λ r. size_with other.second ≤ size_with r.second in
        let refl_le : size_with other.second ≤ size_with other.second = omega arith in
        subst P is refl_le
    by true t e (inr more) none next =
        let P : Row → Type 0 = λ r. size_with other.second ≤ size_with r.second in
        subst P (some_is x row e) (no_longer x other xs none more (fronts tokens x other t s))
    by false t e (inl same) none next = let clash : true ≡ false = sym s ∙ ap (stands_at tokens) same ∙ t in absurd cc
    by false t e (inr more) none next = next e more

listed : (tokens : List Token) (row : Row) → mnemonic_at tokens ≡ Some row → IsAmong row rows
unfolding mnemonic_at
listed tokens row e = found_among (stands_at tokens) rows row e

stands : (tokens : List Token) (row : Row) → mnemonic_at tokens ≡ Some row → stands_at tokens row ≡ true
unfolding mnemonic_at
stands tokens row e = found_passes (stands_at tokens) rows row e

longest : (tokens : List Token) (row other : Row) → mnemonic_at tokens ≡ Some row → IsAmong other rows
    → stands_at tokens other ≡ true → size_with other.second ≤ size_with row.second
unfolding mnemonic_at
longest tokens row other e h s = longest_of tokens rows row other rows_ordered e h s

none : (tokens : List Token) (other : Row) → mnemonic_at tokens ≡ None → IsAmong other rows → stands_at tokens other ≡ false
unfolding mnemonic_at
none tokens other e h = none_passes (stands_at tokens) rows other e h

pub are_longest : MnemonicsAreLongest
are_longest = record { listed = listed; stands = stands; longest = longest; none = none }
