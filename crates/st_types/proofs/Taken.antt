-- One item more of a list that a loop goes through.
use Rattle.st_tree.proofs.Common.{◌≡◌, ◌<◌, ◌+◌, ℕ, List, [], ◌∷◌, ◌++◌, map, take, get_or, length, sym, ap, ◌∙◌, append-nil, flat_map-append, flat_map-cons}
use Rattle.std.specs.List.{flat_map}
use Rattle.std.proofs.lemmas.List.{append_assoc, map_more, take_more}

pub mapped : {X Y : Type 0} (f : X → Y) (xs : List X) (i : ℕ) (x : X) (start old new : List Y) → i < length xs → x ≡ get_or xs i x
    → old ≡ start ++ map f (take i xs) → new ≡ old ++ f x ∷ [] → new ≡ start ++ map f (take (i + 1) xs)
mapped f xs i x start old new h at so next =
    next ∙ ap (λ l. l ++ f x ∷ []) so ∙ append_assoc start (map f (take i xs)) (f x ∷ [])
    ∙ ap (λ l. start ++ l) (ap (λ y. map f (take i xs) ++ f y ∷ []) at ∙ sym (map_more f xs i x h))

pub flattened : {X Y : Type 0} (f : X → List Y) (xs : List X) (i : ℕ) (x : X) (start old new : List Y) → i < length xs → x ≡ get_or xs i x
    → old ≡ start ++ flat_map f (take i xs) → new ≡ old ++ f x → new ≡ start ++ flat_map f (take (i + 1) xs)
flattened f xs i x start old new h at so next =
    let one : flat_map f (get_or xs i x ∷ []) ≡ f (get_or xs i x) = flat_map-cons f (get_or xs i x) [] ∙ append-nil _ in
    next ∙ ap (λ l. l ++ f x) so ∙ append_assoc start (flat_map f (take i xs)) (f x)
    ∙ ap (λ l. start ++ l) (ap (λ y. flat_map f (take i xs) ++ f y) at ∙ ap (λ l. flat_map f (take i xs) ++ l) (sym one)
    ∙ sym (flat_map-append f (take i xs) (get_or xs i x ∷ [])) ∙ ap (flat_map f) (sym (take_more xs i x h)))
