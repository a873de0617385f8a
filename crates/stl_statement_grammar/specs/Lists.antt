-- Lists with commas between elements. Also words and signs at the front of tokens.
-- Held against: this project's own source form.
use Rattle.std.specs.Prelude.{ℕ, zero, suc, ◌+◌, Bool, false, if◌then◌else◌, List, [], ◌∷◌, drop, codes}
use Rattle.s7_base.specs.declared.token.Token.{Token}
use Rattle.stl_statement_grammar.specs.Readers.{further, read_as}
use Rattle.stl_statement_grammar.specs.Words.{is_word, is_sign}
use Rattle.stl_statement_grammar.specs.declared.mnemonic.Read.{Read}
use Rattle.stl_statement_grammar.specs.declared.mnemonic.Read.TheVariants.{Fits, LeftOut, No}

-- the tokens begin with a word
abbrev pub begins_with_word : List ℕ → List Token → Bool
begins_with_word word [] = false
begins_with_word word (first ∷ rest) = is_word word first

-- the tokens begin with a sign
abbrev pub begins_with_sign : List ℕ → List Token → Bool
begins_with_sign sign [] = false
begins_with_sign sign (first ∷ rest) = is_sign sign first

-- an element before others
abbrev pub with_element : {A : Type 0} → A → List A → List A
with_element a more = a ∷ more

-- an element of this many tokens and what follows it: the end of the list, or more elements
abbrev pub elements_behind : {A : Type 0} → List ℕ → A → ℕ → List Token → (ℕ → Read (List A)) → Read (List A)
elements_behind close a size [] more = No
elements_behind close a size (sign ∷ rest) more =
    if is_sign close sign then Fits (a ∷ []) (size + 1)
    else if is_sign (codes ",") sign then further (size + 1) (read_as (with_element a) (more size))
    else No

-- an element by what was read, and what follows it: the end of the list, or more elements
abbrev pub elements_with : {A : Type 0} → List ℕ → List Token → Read A → (ℕ → Read (List A)) → Read (List A)
elements_with close tokens No more = No
elements_with close tokens (LeftOut kind) more = LeftOut kind
elements_with close tokens (Fits a size) more = elements_behind close a size (drop size tokens) more

-- elements with commas between them and the sign after the last; `skip` tokens still belong to what is before
abbrev pub elements_from : {A : Type 0} → (List Token → Read A) → List ℕ → ℕ → List Token → Read (List A)
elements_from element close skip [] = No
elements_from element close (suc skip) (first ∷ rest) = elements_from element close skip rest
elements_from element close zero (first ∷ rest) =
    elements_with close (first ∷ rest) (element (first ∷ rest)) (λ size. elements_from element close size rest)
