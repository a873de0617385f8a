-- The name of a conversion, a piece at a time.
use Rattle.st_tree.proofs.Common.{◌≡◌, ℕ, ◌==◌, Bool, true, false, ◌&&◌, List, [], ◌∷◌, ◌++◌, take, drop, length, refl, ap, ◌∙◌, codes, to_ascii_lowercase, is_same_word, conversion_word, type_word, StType}
use Rattle.std.proofs.lemmas.List.{append_assoc}

grouped : (a b c : Bool) → (a && (b && c)) ≡ ((a && b) && c)
grouped true b c = refl
grouped false b c = refl

-- a word is one piece and another where its front is the first and what is left is the second
same_behind : (w a b : List ℕ) → is_same_word w (a ++ b) ≡ (is_same_word (take (length a) w) a && is_same_word (drop (length a) w) b)
same_behind w [] b = refl
same_behind [] (x ∷ a) b = refl
same_behind (y ∷ w) (x ∷ a) b =
    let t = to_ascii_lowercase y == to_ascii_lowercase x in
    ap (λ s. t && s) (same_behind w a b)
    ∙ grouped t (is_same_word (take (length a) w) a) (is_same_word (drop (length a) w) b)

-- the name of a conversion is that of a type, `_TO_` and that of another
pub conversion_is : (w : List ℕ) (from to : StType)
    → is_same_word w (conversion_word from to)
    ≡ (is_same_word (take (length (type_word from)) w) (type_word from)
    && (is_same_word (take 4 (drop (length (type_word from)) w)) (codes "_TO_")
    && is_same_word (drop 4 (drop (length (type_word from)) w)) (type_word to)))
conversion_is w from to =
    let rest = drop (length (type_word from)) w in
    ap (is_same_word w) (append_assoc (type_word from) (codes "_TO_") (type_word to))
    ∙ same_behind w (type_word from) (codes "_TO_" ++ type_word to)
    ∙ ap (λ s. is_same_word (take (length (type_word from)) w) (type_word from) && s)
    (same_behind rest (codes "_TO_") (type_word to))
