-- How readings of tokens are combined. What is read at the front of tokens is put together of what is read of its
-- parts.
-- Held against: this project's own source form.
use Rattle.std.specs.Prelude.{ℕ, zero, suc, ◌+◌, ◌-◌, ◌≤◌, if◌then◌else◌, List, [], ◌∷◌, drop, Option, Some, None}
use Rattle.s7_base.specs.declared.token.Token.{Token}
use Rattle.digit_texts.specs.Digits.{number_up_to}
use Rattle.stl_statement_grammar.specs.Words.{is_word_kind}
use Rattle.stl_statement_grammar.specs.declared.mnemonic.Read.{Read}
use Rattle.stl_statement_grammar.specs.declared.mnemonic.Read.TheVariants.{Fits, LeftOut, No}

-- what was read, with the number of its tokens, or nothing
abbrev pub fitting : {A : Type 0} → ℕ → Option A → Read A
fitting size None = No
fitting size (Some a) = Fits a size

-- what was read, or else what another reader read
abbrev pub or_else : {A : Type 0} → Read A → Read A → Read A
or_else No other = other
or_else (LeftOut kind) other = LeftOut kind
or_else (Fits a size) other = Fits a size

-- what was read, made into something else
abbrev pub read_as : {A B : Type 0} → (A → B) → Read A → Read B
read_as make No = No
read_as make (LeftOut kind) = LeftOut kind
read_as make (Fits a size) = Fits (make a) size

-- what was read after this many tokens, with these included
abbrev pub further : {A : Type 0} → ℕ → Read A → Read A
further before No = No
further before (LeftOut kind) = LeftOut kind
further before (Fits a size) = Fits a (before + size)

-- what was read, and after it something that depends on it
abbrev pub and_then : {A B : Type 0} → List Token → Read A → (A → List Token → Read B) → Read B
and_then tokens No next = No
and_then tokens (LeftOut kind) next = LeftOut kind
and_then tokens (Fits a size) next = further size (next a (drop size tokens))

-- an item before what is read after it, where this many tokens still belong to the item
abbrev pub with_item : {A : Type 0} → Read A → (ℕ → Read (List A)) → Read (List A)
with_item (Fits a size) more = further 1 (read_as (λ items. a ∷ items) (more (size - 1)))
with_item other more = Fits [] 0

-- all items one after the other, where this many tokens still belong to the one before
abbrev pub all_items : {A : Type 0} → (List Token → Read A) → ℕ → List Token → Read (List A)
all_items read left [] = Fits [] 0
all_items read (suc left) (token ∷ rest) = further 1 (all_items read left rest)
all_items read zero (token ∷ rest) = with_item (read (token ∷ rest)) (λ left. all_items read left rest)

-- what was read takes this many tokens at most
abbrev pub IsWithin : {A : Type 0} → ℕ → Read A → Type 0
IsWithin most No = Unit {0}
IsWithin most (LeftOut kind) = Unit {0}
IsWithin most (Fits a size) = size ≤ most

-- a word that is a number of at most a greatest one
abbrev pub number_in : ℕ → Token → Option ℕ
number_in most token = if is_word_kind token.kind then number_up_to most token.text else None

-- what was read takes a token at least and this many at most
abbrev pub TakesSome : {A : Type 0} → ℕ → Read A → Type 0
TakesSome most No = Unit {0}
TakesSome most (LeftOut kind) = Unit {0}
TakesSome most (Fits a size) = (1 ≤ size) × (size ≤ most)
