-- What is made of the first items of a list, and of one more.
use Rattle.std.proofs.Common.{◌≡◌, ◌<◌, ℕ, ◌+◌, List, [], ◌∷◌, ◌++◌, length, map, take, get_or, sym, ap, ◌∙◌, append_assoc}
use Rattle.std.proofs.lemmas.List.{map-append, take_more}

-- the first items with one more
pub one_more : {X : Type 0} (xs : List X) (i : ℕ) (x : X) → i < length xs → x ≡ get_or xs i x → take (i + 1) xs ≡ take i xs ++ x ∷ []
one_more xs i x before is = take_more xs i x before ∙ ap (λ y. take i xs ++ y ∷ []) (sym is)

-- one turn of a loop that puts one thing for each item to a list
pub map_turn : {X Y : Type 0} (f : X → Y) (start made later : List Y) (xs : List X) (i : ℕ) (x : X) → i < length xs → x ≡ get_or xs i x
    → made ≡ start ++ map f (take i xs) → later ≡ made ++ f x ∷ [] → later ≡ start ++ map f (take (i + 1) xs)
map_turn f start made later xs i x before is so_far e =
    e ∙ ap (λ l. l ++ f x ∷ []) so_far ∙ append_assoc start (map f (take i xs)) (f x ∷ [])
    ∙ ap (λ l. start ++ l) (sym (ap (map f) (one_more xs i x before is) ∙ map-append f (take i xs) (x ∷ [])))
