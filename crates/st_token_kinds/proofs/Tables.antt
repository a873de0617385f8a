-- Looking up in rows of texts is looking up in the table that they spell.
use Rattle.st_tree.proofs.Common.{◌≡◌, ℕ, Bool, true, false, cond, List, [], ◌∷◌, map, Option, Some, None, refl, sym, ap, ◌∙◌, find, option_map, is_same_word}
use Rattle.st_token_kinds.specs.inner.Rows.{with_text}

at : {X Y : Type 0} (view : X → Y) (test : Y → Bool) (x : X) (xs : List X) (b : Bool) → option_map view (find (λ y. test (view y)) xs) ≡ find test (map view xs)
    → option_map view (cond b (Some x) (find (λ y. test (view y)) xs)) ≡ cond b (Some (view x)) (find test (map view xs))
at view test x xs true h = refl
at view test x xs false h = h

-- the first that passes, seen, is the first of the seen ones that passes
find_map : {X Y : Type 0} (view : X → Y) (test : Y → Bool) (xs : List X) → option_map view (find (λ x. test (view x)) xs) ≡ find test (map view xs)
find_map view test [] = refl
find_map view test (x ∷ xs) = at view test x xs (test (view x)) (find_map view test xs)

second : {X Y : Type 0} (shown : X → List ℕ × Y) (o : Option X) → option_map (λ x. (shown x).1) o ≡ option_map (λ (p : List ℕ × Y). p.1) (option_map shown o)
second shown None = refl
second shown (Some x) = refl

back : {Y : Type 0} (text : Y → List ℕ) (o : Option Y) → option_map (λ (p : List ℕ × Y). p.1) (option_map (with_text text) o) ≡ o
back text None = refl
back text (Some y) = refl

-- what the row stands for that has a text is the entry of the table that has it
pub found_by : {X Y : Type 0} (word : List ℕ) (shown : X → List ℕ × Y) (text : Y → List ℕ) (rows : List X) (table : List Y)
    → map shown rows ≡ map (with_text text) table
    → option_map (λ x. (shown x).1) (find (λ x. is_same_word word (shown x).0) rows) ≡ find (λ y. is_same_word word (text y)) table
found_by {X = X} {Y = Y} word shown text rows table e =
    let test : List ℕ × Y → Bool = λ p. is_same_word word p.0 in
    second shown (find (λ x. test (shown x)) rows)
    ∙ ap (option_map (λ (p : List ℕ × Y). p.1))
    (find_map shown test rows ∙ ap (λ (ps : List (List ℕ × Y)). find test ps) e ∙ sym (find_map (with_text text) test table))
    ∙ back text (find (λ y. is_same_word word (text y)) table)
