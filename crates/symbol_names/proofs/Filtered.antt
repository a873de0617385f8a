-- What is made of the first items of a list, and of one more.
use Rattle.std.proofs.Common.{◌≡◌, ◌<◌, ℕ, ◌+◌, List, [], ◌∷◌, ◌++◌, length, take, get_or, Option, Some, None, refl, sym, ap, ◌∙◌, append_assoc}
use Rattle.std.specs.List.{cons_option, filter_map, flat_map}
use Rattle.std.specs.Option.{option_to_list}
use Rattle.std.proofs.lemmas.Grind.{flat_map-append}
use Rattle.std.proofs.lemmas.List.{append-nil}
use Rattle.name_tables.proofs.Lists.{one_more}
use Rattle.std.proofs.lemmas.List.Concat.{flat_map-cons}
use Rattle.std.proofs.lemmas.List.Elements.{filter_map-append}

pub flat_more : {X Y : Type 0} (f : X → List Y) (xs : List X) (i : ℕ) (x : X) → i < length xs → x ≡ get_or xs i x
    → flat_map f (take (i + 1) xs) ≡ flat_map f (take i xs) ++ f x
flat_more f xs i x before is =
    ap (flat_map f) (one_more xs i x before is) ∙ flat_map-append f (take i xs) (x ∷ [])
    ∙ ap (λ ys. flat_map f (take i xs) ++ ys) (flat_map-cons f x [] ∙ append-nil (f x))

alone : {Y : Type 0} (o : Option Y) → cons_option o [] ≡ option_to_list o
alone None = refl
alone (Some y) = refl

pub kept_one : {X Y : Type 0} (h : X → Option Y) (xs : List X) (x : X) → filter_map h (xs ++ x ∷ []) ≡ filter_map h xs ++ option_to_list (h x)
kept_one h xs x = filter_map-append h xs (x ∷ []) ∙ ap (λ ys. filter_map h xs ++ ys) (alone (h x))

pub kept_more : {X Y : Type 0} (h : X → Option Y) (xs : List X) (i : ℕ) (x : X) → i < length xs → x ≡ get_or xs i x
    → filter_map h (take (i + 1) xs) ≡ filter_map h (take i xs) ++ option_to_list (h x)
kept_more h xs i x before is =
    ap (filter_map h) (one_more xs i x before is) ∙ kept_one h (take i xs) x

-- one turn of a loop that puts what is made of an item to a list
pub put_turn : {X Y : Type 0} (h : X → Option Y) (start made later : List Y) (xs : List X) (i : ℕ) (x : X) → i < length xs → x ≡ get_or xs i x
    → made ≡ start ++ filter_map h (take i xs) → later ≡ made ++ option_to_list (h x) → later ≡ start ++ filter_map h (take (i + 1) xs)
put_turn h start made later xs i x before is so_far e =
    e ∙ ap (λ l. l ++ option_to_list (h x)) so_far ∙ append_assoc start (filter_map h (take i xs)) (option_to_list (h x))
    ∙ ap (λ l. start ++ l) (sym (kept_more h xs i x before is))
