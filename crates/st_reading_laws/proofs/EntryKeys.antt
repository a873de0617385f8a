-- The keys of the names that a tree declares.
use Rattle.st_tree.proofs.Common.{◌≡◌, ℕ, ◌+◌, List, [], ◌∷◌, ◌++◌, map, refl, ap, ◌∙◌, map-append, key_of, outer_keys, keys_of}
use Rattle.st_rules.proofs.Common.{Table, Local, Located, Pou, StProgram}
use Rattle.st_names.specs.declared.scope.Meaning.{Meaning}
use Rattle.st_reading_laws.proofs.DeclaredNames.{entries, formal_entries, inner_entries, local_entries, located_entries, unit_entries}

-- the keys of a table
abbrev pub keys_in : Table Meaning → List (List ℕ)
keys_in es = map (λ (e : List ℕ × Meaning). e.0) es

entry_keys : {X : Type 0} (name : X → List ℕ) (mean : ℕ → X → Meaning) (i : ℕ) (xs : List X)
    → keys_in (entries (λ x. key_of (name x)) mean i xs) ≡ map (λ x. key_of (name x)) xs
entry_keys name mean i [] = refl
entry_keys name mean i (x ∷ xs) =
    ap (λ ks. key_of (name x) ∷ ks) (entry_keys name mean (i + 1) xs)

joined_keys : (xs ys : Table Meaning) (first second : List (List ℕ)) → keys_in xs ≡ first → keys_in ys ≡ second
    → keys_in (xs ++ ys) ≡ first ++ second
joined_keys xs ys first second h g =
    map-append (λ (e : List ℕ × Meaning). e.0) xs ys ∙ ap (λ ks. ks ++ keys_in ys) h ∙ ap (λ ks. first ++ ks) g

-- those of formals and locals
pub inner_keys : (p : Pou) → keys_in (inner_entries p) ≡ keys_of p.formals ++ keys_of p.locals
inner_keys p =
    joined_keys (formal_entries 0 p.formals) (local_entries 0 p.locals) (keys_of p.formals) (keys_of p.locals)
    (entry_keys (λ (l : Local). l.name) _ 0 p.formals) (entry_keys (λ (l : Local). l.name) _ 0 p.locals)

-- those of globals and units
pub named_keys : (t : StProgram) → keys_in (located_entries 0 t.globals ++ unit_entries 0 t.pous) ≡ outer_keys t
named_keys t =
    joined_keys (located_entries 0 t.globals) (unit_entries 0 t.pous) (map (λ (g : Located). key_of g.name) t.globals)
    (map (λ (u : Pou). key_of u.name) t.pous)
    (entry_keys (λ (g : Located). g.name) _ 0 t.globals) (entry_keys (λ (u : Pou). u.name) _ 0 t.pous)
