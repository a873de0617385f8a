-- A search among the lines of one first byte finds what a search of the whole table finds.
use Rattle.std.proofs.Common.{◌≡◌, ℕ, ◌+◌, ◌%◌, Bool, true, false, cond, ◌==◌, ◌&&◌, List, [], ◌∷◌, Some, refl, sym, ap, ◌∙◌}
use Rattle.std.proofs.Math.Nat.{add-mod_right}
use Rattle.std.proofs.lemmas.Bool.{and_parts, eq-eqb, eqb-true, or_parts}
use Rattle.std.specs.Char.{to_ascii_lowercase}
use Rattle.std.specs.List.{filter, find, list_any}
use Rattle.std.specs.Prelude.{drop, length, nat_lt, take}
use Rattle.std.specs.Str.{str_to_ascii_lowercase}
use Rattle.s7_base.specs.Tokens.{is_same_word}
use Rattle.s7_base.specs.declared.token.Token.{Token}
use Rattle.stl_constants.proofs.Reading.{same_letters}
use Rattle.stl_constants.proofs.Tables.{none_found}
use Rattle.stl_mnemonics.specs.inner.LowBits.{first_bits, low_bits, rows_by, table}
use Rattle.stl_statement_grammar.specs.Mnemonics.{Row, goes_on, has_name, rows, stands_at}
use Rattle.stl_statement_grammar.specs.Words.{is_spelled}

-- where all that pass are kept, but for some that are not there, the first that passes is the first kept one
find_filtered : {X : Type 0} (test keeps absent : X → Bool) → ((x : X) → absent x ≡ false → test x ≡ true → keeps x ≡ true)
    → (xs : List X) → list_any absent xs ≡ false → find test (filter keeps xs) ≡ find test xs
find_filtered test keeps absent kept [] none = refl
find_filtered test keeps absent kept (x ∷ xs) none =
    let p = or_parts (absent x) (list_any absent xs) none in
    by (keeps x) refl (kept x p.0) (find_filtered test keeps absent kept xs p.1)
  where
    passed : (t : Bool) → (t ≡ true → false ≡ true) → find test (filter keeps xs) ≡ find test xs → find test (filter keeps xs) ≡ cond t (Some x) (find test xs)
    passed true clash same = let no : false ≡ true = clash refl in absurd cc
    passed false clash same = same

    by : (k : Bool) → keeps x ≡ k → (test x ≡ true → keeps x ≡ true) → find test (filter keeps xs) ≡ find test xs
        → find test (cond k (x ∷ filter keeps xs) (filter keeps xs)) ≡ cond (test x) (Some x) (find test xs)
    by true e is same = ap (cond (test x) (Some x)) same
    by false e is same = passed (test x) (λ t. sym e ∙ is t) same

-- a letter has the same low bits in both cases
lower_bits : (b : ℕ) → to_ascii_lowercase b % 32 ≡ b % 32
lower_bits b = by (nat_lt b 65) (nat_lt b 91)
  where
    by : (low upper : Bool) → cond low b (cond upper (b + 32) b) % 32 ≡ b % 32
    by true upper = refl
    by false true = add-mod_right b 32
    by false false = refl

first_lower : (a b : ℕ) (xs ys : List ℕ) → (to_ascii_lowercase a ∷ str_to_ascii_lowercase xs) ≡ (to_ascii_lowercase b ∷ str_to_ascii_lowercase ys)
    → to_ascii_lowercase a ≡ to_ascii_lowercase b
first_lower a b xs ys e = cc

same_bits : (word entry : List ℕ) → is_same_word word entry ≡ true → low_bits word ≡ low_bits entry
same_bits [] [] h = refl
same_bits [] (b ∷ ys) h = absurd cc
same_bits (a ∷ xs) [] h = absurd cc
same_bits (a ∷ xs) (b ∷ ys) h =
    let same : to_ascii_lowercase a ≡ to_ascii_lowercase b = first_lower a b xs ys (same_letters (a ∷ xs) (b ∷ ys) h) in
    sym (lower_bits a) ∙ ap (λ (n : ℕ). n % 32) same ∙ lower_bits b

itself : (a b : ℕ) → b ≡ a → (a == b) ≡ true
itself a b e = eq-eqb a b (sym e)

-- a line without a first part, of which the table has none
abbrev is_blank : Row → Bool
is_blank row = cond (list_any (λ (b : ℕ). true) row.first) false true

no_blank : list_any is_blank table ≡ false
unfolding table
no_blank = refl

table_is : table ≡ rows
unfolding table
table_is = refl

pub found_by_token : (tokens : List Token) → find (stands_at tokens) (rows_by (first_bits tokens)) ≡ find (stands_at tokens) rows
unfolding rows_by
found_by_token [] = none_found (stands_at []) (rows_by 0) (λ row. refl) ∙ sym (none_found (stands_at []) rows (λ row. refl))
found_by_token (first ∷ rest) =
    find_filtered (stands_at (first ∷ rest)) (λ row. low_bits row.first == low_bits first.text) is_blank kept table no_blank
    ∙ ap (find (stands_at (first ∷ rest))) table_is
  where
    kept : (row : Row) → is_blank row ≡ false → stands_at (first ∷ rest) row ≡ true → (low_bits row.first == low_bits first.text) ≡ true
    kept row full h =
        let spelled = (and_parts (is_spelled row.first first) (goes_on row.second rest) h).0 in
        let word = (and_parts _ (is_same_word first.text row.first) spelled).1 in
        itself (low_bits row.first) (low_bits first.text) (same_bits first.text row.first word)

-- a name and its front begin with the same byte
front_bits : (word name : List ℕ) → cond (list_any (λ (b : ℕ). true) word) false true ≡ false → low_bits (take (length word) name) ≡ low_bits name
front_bits [] name full = absurd cc
front_bits (b ∷ word) [] full = refl
front_bits (b ∷ word) (a ∷ name) full = refl

pub found_by_name : (name : List ℕ) → find (has_name name) (rows_by (low_bits name)) ≡ find (has_name name) rows
unfolding rows_by
found_by_name name =
    find_filtered (has_name name) (λ row. low_bits row.first == low_bits name) is_blank kept table no_blank
    ∙ ap (find (has_name name)) table_is
  where
    kept : (row : Row) → is_blank row ≡ false → has_name name row ≡ true → (low_bits row.first == low_bits name) ≡ true
    kept row full h =
        let word = (and_parts (is_same_word (take (length row.first) name) row.first) (is_same_word (drop (length row.first) name) row.second) h).0 in
        itself (low_bits row.first) (low_bits name) (sym (front_bits row.first name full) ∙ same_bits (take (length row.first) name) row.first word)

-- low bits with which no line of the table begins have no lines
abbrev are_listed : List ℕ → List Row → Bool
are_listed heads [] = true
are_listed heads (row ∷ rest) = list_any (λ head. head == low_bits row.first) heads && are_listed heads rest

filter_unlisted : (heads : List ℕ) (bits : ℕ) (table : List Row) → list_any (λ head. head == bits) heads ≡ false → are_listed heads table ≡ true
    → filter (λ row. low_bits row.first == bits) table ≡ []
filter_unlisted heads bits [] none listed = refl
filter_unlisted heads bits (row ∷ rest) none listed =
    let p = and_parts (list_any (λ head. head == low_bits row.first) heads) (are_listed heads rest) listed in
    by (low_bits row.first == bits) refl p.0 ∙ filter_unlisted heads bits rest none p.1
  where
    by : (b : Bool) → (low_bits row.first == bits) ≡ b → list_any (λ head. head == low_bits row.first) heads ≡ true
        → cond b (row ∷ filter (λ row. low_bits row.first == bits) rest) (filter (λ row. low_bits row.first == bits) rest)
        ≡ filter (λ row. low_bits row.first == bits) rest
    by true e has =
        let same : low_bits row.first ≡ bits = eqb-true (low_bits row.first) bits e in
        let clash : true ≡ false = sym has ∙ ap (λ (n : ℕ). list_any (λ head. head == n) heads) same ∙ none in
        absurd cc
    by false e has = refl

abbrev heads : List ℕ
heads =
    1 ∷ 2 ∷ 3 ∷ 4 ∷ 5 ∷ 6 ∷ 9 ∷ 10 ∷ 11 ∷ 12 ∷ 13 ∷ 14 ∷ 15 ∷ 16 ∷ 18 ∷ 19 ∷ 20 ∷ 21 ∷ 24 ∷ 28 ∷ 29 ∷ 30 ∷ []

heads_listed : are_listed heads table ≡ true
unfolding table
heads_listed = refl

pub no_rows : (bits : ℕ) → list_any (λ head. head == bits) heads ≡ false → [] ≡ rows_by bits
unfolding rows_by
no_rows bits none = sym (filter_unlisted heads bits table none heads_listed)
