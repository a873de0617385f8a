-- Lists of broken rules, and what holds of all that is made of a list.
use Rattle.std.proofs.Common.{◌≡◌, ◌≤◌, List, [], ◌∷◌, ◌++◌, length, Option, Some, None, refl, sym, ◌∙◌, arith}
use Rattle.std.specs.Prelude.{All, IfSome}
use Rattle.std.specs.List.{cons_option, filter_map, flat_map}
use Rattle.std.proofs.lemmas.List.Concat.{flat_map-cons}
use Rattle.std.proofs.lemmas.List.Elements.{All-cons, All-head, All-nil, All-tail}

pub no_parts : {X : Type 0} (xs ys : List X) → xs ++ ys ≡ [] → (xs ≡ []) × (ys ≡ [])
no_parts [] ys e = (refl, e)
no_parts (x ∷ xs) ys e = absurd cc

pub none_of_all : {X Y : Type 0} (f : X → List Y) (xs : List X) → flat_map f xs ≡ [] → All (λ x. f x ≡ []) xs
none_of_all f [] e = All-nil (λ x. f x ≡ [])
none_of_all f (x ∷ xs) e =
    let parts = no_parts (f x) (flat_map f xs) (sym (flat_map-cons f x xs) ∙ e) in
    All-cons (λ y. f y ≡ []) x xs parts.0 (none_of_all f xs parts.1)

pub put : {Y : Type 0} (P : Y → Type 0) (o : Option Y) (rest : List Y) → IfSome o P → All P rest → All P (cons_option o rest)
put P None rest h more = more
put P (Some y) rest h more = All-cons P y rest h more

-- what holds of all that is made of the items of a list
pub all_made : {X Y : Type 0} (Q : X → Type 0) (P : Y → Type 0) (make : X → Option Y)
    → ((x : X) → Q x → IfSome (make x) P) → (xs : List X) → All Q xs → All P (filter_map make xs)
all_made Q P make made [] h = All-nil P
all_made Q P make made (x ∷ xs) h = put P (make x) (filter_map make xs) (made x (All-head Q x xs h)) (all_made Q P make made xs (All-tail Q x xs h))

pub few_made : {X Y : Type 0} (make : X → Option Y) (xs : List X) → length (filter_map make xs) ≤ length xs
few_made make [] = omega arith
few_made make (x ∷ xs) = with_one (make x) (filter_map make xs) (few_made make xs)
  where
    with_one : {Y : Type 0} (o : Option Y) (rest : List Y) → length rest ≤ length xs → length (cons_option o rest) ≤ length (x ∷ xs)
    with_one None rest h = omega arith
    with_one (Some y) rest h = omega arith
