-- The set of the names of a text: a key is new to it exactly where it is new to the list of them.
use Rattle.std.proofs.Common.{◌≡◌, ℕ, Bool, true, false, not, ◌&&◌, ◌||◌, if◌then◌else◌, List, [], ◌∷◌, ◌++◌, refl, sym, ap, ◌∙◌, eqb-true}
use Rattle.std.specs.Prelude.{fold, nat_eq}
use Rattle.std.specs.List.{list_any}
use Rattle.std.proofs.lemmas.Bool.{and_parts}
use Rattle.st_tree.specs.Naming.{is_new, is_same, key_of}
use Rattle.st_tree.specs.WellTyped.{keys_of}
use Rattle.st_tree.specs.declared.program.Local.{Local}
use Rattle.st_tree.specs.declared.program.Pou.{Pou}
use Rattle.st_globals.specs.Globals.{names_in, unit_names}
use Rattle.st_globals.specs.inner.Names.{with_local, with_name, with_unit}
use Rattle.st_globals.proofs.Chosen.{new_append}

number_is : (m n : ℕ) → nat_eq m n ≡ true → m ≡ n
number_is m n h = eqb-true m n h

key_is : (a b : List ℕ) → is_same a b ≡ true → a ≡ b
key_is [] [] h = refl
key_is [] (y ∷ ys) h = cc
key_is (x ∷ xs) [] h = cc
key_is (x ∷ xs) (y ∷ ys) h =
    let p = and_parts (nat_eq x y) (is_same xs ys) h in
    ap (λ (n : ℕ). n ∷ xs) (number_is x y p.0) ∙ ap (λ (rest : List ℕ). y ∷ rest) (key_is xs ys p.1)

and_true : (b : Bool) → b ≡ (b && true)
and_true true = refl
and_true false = refl

and_false : (b : Bool) → false ≡ (b && false)
and_false true = refl
and_false false = refl

and_assoc : (a b c : Bool) → ((a && b) && c) ≡ (a && (b && c))
and_assoc true b c = refl
and_assoc false b c = refl

-- a name that is there already
named_already : (key k : List ℕ) (keys : List (List ℕ)) (b : Bool) → b ≡ is_same key k → true ≡ list_any (is_same k) keys
    → is_new key keys ≡ (is_new key keys && not (b || false))
named_already key k keys true e h =
    ap (λ (x : List ℕ). is_new x keys) (key_is key k (sym e)) ∙ ap not (sym h) ∙ and_false (is_new key keys)
named_already key k keys false e h = and_true (is_new key keys)

name_by : (key k : List ℕ) (keys : List (List ℕ)) (t : Bool) → t ≡ list_any (is_same k) keys
    → is_new key (if t then keys else keys ++ k ∷ []) ≡ (is_new key keys && is_new key (k ∷ []))
name_by key k keys true h = named_already key k keys (is_same key k) refl h
name_by key k keys false h = new_append key keys (k ∷ [])

name_new : (key k : List ℕ) (keys : List (List ℕ)) → is_new key (with_name keys k) ≡ (is_new key keys && is_new key (k ∷ []))
name_new key k keys = name_by key k keys (list_any (is_same k) keys) refl

locals_new : (key : List ℕ) (locals : List Local) (keys : List (List ℕ))
    → is_new key (fold with_local keys locals) ≡ (is_new key keys && is_new key (keys_of locals))
locals_new key [] keys = and_true (is_new key keys)
locals_new key (l ∷ locals) keys =
    locals_new key locals (with_local keys l) ∙ ap (λ b. b && is_new key (keys_of locals)) (name_new key (key_of l.name) keys)
    ∙ and_assoc (is_new key keys) (is_new key (key_of l.name ∷ [])) (is_new key (keys_of locals))
    ∙ ap (λ b. is_new key keys && b) (sym (new_append key (key_of l.name ∷ []) (keys_of locals)))

unit_new : (key : List ℕ) (u : Pou) (keys : List (List ℕ)) → is_new key (with_unit keys u) ≡ (is_new key keys && is_new key (unit_names u))
unit_new key u keys =
    locals_new key u.locals (fold with_local (with_name keys (key_of u.name)) u.formals)
    ∙ ap (λ b. b && is_new key (keys_of u.locals)) (locals_new key u.formals (with_name keys (key_of u.name)))
    ∙ ap (λ b. (b && is_new key (keys_of u.formals)) && is_new key (keys_of u.locals)) (name_new key (key_of u.name) keys)
    ∙ and_assoc (is_new key keys && is_new key (key_of u.name ∷ [])) (is_new key (keys_of u.formals)) (is_new key (keys_of u.locals))
    ∙ and_assoc (is_new key keys) (is_new key (key_of u.name ∷ [])) (is_new key (keys_of u.formals) && is_new key (keys_of u.locals))
    ∙ ap (λ b. is_new key keys && (is_new key (key_of u.name ∷ []) && b)) (sym (new_append key (keys_of u.formals) (keys_of u.locals)))
    ∙ ap (λ b. is_new key keys && b) (sym (new_append key (key_of u.name ∷ []) (keys_of u.formals ++ keys_of u.locals)))

units_new : (key : List ℕ) (units : List Pou) (keys : List (List ℕ))
    → is_new key (fold with_unit keys units) ≡ (is_new key keys && is_new key (names_in units))
units_new key [] keys = and_true (is_new key keys)
units_new key (u ∷ units) keys =
    units_new key units (with_unit keys u) ∙ ap (λ b. b && is_new key (names_in units)) (unit_new key u keys)
    ∙ and_assoc (is_new key keys) (is_new key (unit_names u)) (is_new key (names_in units))
    ∙ ap (λ b. is_new key keys && b) (sym (new_append key (unit_names u) (names_in units)))

pub names_new : (units : List Pou) (key : List ℕ) → is_new key (fold with_unit [] units) ≡ is_new key (names_in units)
names_new units key = units_new key units []
