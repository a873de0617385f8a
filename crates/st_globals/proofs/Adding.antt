-- What a symbol adds to the globals, by the tables.
use Rattle.std.proofs.Common.{◌≡◌, ℕ, ◌+◌, ◌<◌, get_or, take, Bool, true, false, not, ◌&&◌, if◌then◌else◌, List, [], ◌∷◌, ◌++◌, length, Result, Ok, Err, refl, sym, subst, ap, ◌∙◌, is_some}
use Rattle.std.specs.Prelude.{OnOk, fold}
use Rattle.std.specs.List.{list_any}
use Rattle.std.specs.Map.{lookup}
use Rattle.std.proofs.lemmas.List.Sums.{fold_more}
use Rattle.indexmap.specs.IndexMap.{insert_entry}
use Rattle.st_tree.specs.Naming.{is_free, is_name, is_new, key_of}
use Rattle.st_tree.specs.declared.expr.Var.{Var}
use Rattle.st_tree.specs.declared.program.Located.{Located}
use Rattle.st_tree.specs.declared.program.Pou.{Pou}
use Rattle.stl_tree.specs.declared.program.Symbol.{Symbol}
use Rattle.st_globals.specs.Globals.{located, may_have_name, names_in, with_symbol}
use Rattle.st_globals.specs.Variables.{unit_variables, variables_in}
use Rattle.st_globals.specs.inner.Names.{with_unit}
use Rattle.st_globals.specs.inner.Tables.{PlaceKey, Tracks, is_same_key, place_key, with_keys, with_unit_keys}
use Rattle.st_globals.proofs.Marking.{keys_of_all}
use Rattle.st_globals.proofs.NameSets.{names_new}
use Rattle.st_globals.proofs.Numbers.{needed_is, tracks_more}

-- whether a place is named, by the keys of those that are
abbrev pub among : Symbol → List PlaceKey → Bool
among s keys = list_any (is_same_key (place_key (located s))) keys

-- whether a global has it, by the table
abbrev pub among_globals : Symbol → List (PlaceKey × ℕ) → Bool
among_globals s entries = is_some (lookup (is_same_key (place_key (located s))) entries)

-- whether the symbol may have its name, by the names so far
abbrev pub may_be : Symbol → List (List ℕ) → Bool
may_be s ks = is_name s.name && is_free s.name && is_new (key_of s.name) ks

-- whether it is needed, by the tables
abbrev pub needed_by : Symbol → List PlaceKey → List (PlaceKey × ℕ) → Bool
needed_by s keys entries = among s keys && not (among_globals s entries)

free_by : (a b : Bool) → (a && not b) ≡ true → b ≡ false
free_by true true h = cc
free_by true false h = refl
free_by false true h = cc
free_by false false h = refl

-- what follows from what holds of a call that took its memory
pub on_ok : {X E P Q : Type 0} (r : Result X E) → OnOk r P → (P → Q) → OnOk r Q
on_ok (Ok x) h follows = follows h
on_ok (Err e) h follows = tt

no_one : (a : Bool) → (a && false) ≡ false
no_one true = refl
no_one false = refl

module _ (s : Symbol) (names : List (List ℕ)) (vars : List Var) (before : List Located) (ks : List (List ℕ)) (keys : List PlaceKey)
    (entries : List (PlaceKey × ℕ)) (used : keys ≡ with_keys [] vars) (tracks : Tracks names before ks entries)
  where
    abbrev with_it : Bool → List Located
    with_it b = if b then before ++ located s ∷ [] else before

    by_tables : with_symbol names vars before s ≡ with_it (needed_by s keys entries && may_be s ks)
    by_tables =
        ap (λ (b : Bool). with_it (b && may_have_name names before (located s)))
        (needed_is (located s) before vars keys entries used tracks.numbers)
        ∙ ap (λ (b : Bool). with_it (needed_by s keys entries && (is_name s.name && is_free s.name && b)))
        (sym (tracks.same (key_of s.name)))

    pub not_needed : needed_by s keys entries ≡ false → before ≡ with_symbol names vars before s
    not_needed h = sym (by_tables ∙ ap (λ (b : Bool). with_it (b && may_be s ks)) h)

    -- the name may not be its own
    pub refused : (name : List ℕ) → name ≡ s.name → (b : Bool) → b ≡ (is_name name && is_free name && is_new (key_of name) ks)
        → b ≡ false → (new : List (List ℕ)) → new ≡ (if b then ks ++ key_of name ∷ [] else ks)
        → Tracks names before new entries × (before ≡ with_symbol names vars before s)
    refused name n b may lacks new e = (
      subst (λ (xs : List (List ℕ)). Tracks names before xs entries)
          (sym (e ∙ ap (λ (t : Bool). if t then ks ++ key_of name ∷ [] else ks) lacks)) tracks,
      sym
          (by_tables
          ∙ ap (λ (t : Bool). with_it (needed_by s keys entries && t))
          (ap (λ (x : List ℕ). is_name x && is_free x && is_new (key_of x) ks) (sym n) ∙ sym may ∙ lacks)
          ∙ ap with_it (no_one (needed_by s keys entries))),
    )

    -- it becomes a global
    pub accepted : needed_by s keys entries ≡ true → (name : List ℕ) → name ≡ s.name → (b : Bool)
        → b ≡ (is_name name && is_free name && is_new (key_of name) ks) → b ≡ true → (new : List (List ℕ))
        → new ≡ (if b then ks ++ key_of name ∷ [] else ks) → (key : PlaceKey) → key ≡ place_key (located s) → (n : ℕ) → n ≡ length before
        → (more : List (PlaceKey × ℕ)) → more ≡ insert_entry is_same_key entries key n → (g : Located) → g ≡ located s
        → (list : List Located) → list ≡ before ++ g ∷ []
        → Tracks names list new more × (list ≡ with_symbol names vars before s)
    accepted needed name n b may has new e key k number len more m g h list l =
        let whole : list ≡ before ++ located s ∷ [] = l ∙ ap (λ (x : Located). before ++ x ∷ []) h in
        let named : new ≡ ks ++ key_of s.name ∷ [] =
        e ∙ ap (λ (t : Bool). if t then ks ++ key_of name ∷ [] else ks) has ∙ ap (λ (x : List ℕ). ks ++ key_of x ∷ []) n in
        let put : more ≡ insert_entry is_same_key entries (place_key (located s)) number =
        m ∙ ap (λ (x : PlaceKey). insert_entry is_same_key entries x number) k in
        let free : among_globals s entries ≡ false = free_by (among s keys) (among_globals s entries) needed in
        let made : Tracks names (before ++ located s ∷ []) (ks ++ key_of s.name ∷ []) more =
        tracks_more names ks before entries more (located s) number tracks len free put in (
          subst (λ (x : List Located). Tracks names x new more) (sym whole)
              (subst (λ (x : List (List ℕ)). Tracks names (before ++ located s ∷ []) x more) (sym named) made),
          whole
              ∙ sym
              (by_tables ∙ ap (λ (t : Bool). with_it (t && may_be s ks)) needed
              ∙ ap (λ (t : Bool). with_it (true && t))
              (ap (λ (x : List ℕ). is_name x && is_free x && is_new (key_of x) ks) (sym n) ∙ sym may ∙ has)),
        )

-- The tables at the start

pub places_start : (units : List Pou) → fold with_unit_keys [] units ≡ with_keys [] (unit_variables units)
places_start units = sym (keys_of_all (λ (u : Pou). variables_in u.body) units [])

append_nil : {X : Type 0} (xs : List X) → xs ≡ xs ++ []
append_nil [] = refl
append_nil (x ∷ xs) = ap (λ rest. x ∷ rest) (append_nil xs)

pub tracks_start : (units : List Pou) → Tracks (names_in units) [] (fold with_unit [] units) []
tracks_start units =
    record {
      same = λ key. names_new units key ∙ ap (is_new key) (append_nil (names_in units));
      numbers = refl;
    }

pub start_tracks : (units : List Pou) (list : List Located) (keys : List (List ℕ)) (entries : List (PlaceKey × ℕ)) → list ≡ []
    → keys ≡ fold with_unit [] units → entries ≡ [] → Tracks (names_in units) list keys entries × (list ≡ [])
start_tracks units list keys entries h k l = (
  subst (λ (es : List (PlaceKey × ℕ)). Tracks (names_in units) list keys es) (sym l)
      (subst (λ (ks : List (List ℕ)). Tracks (names_in units) list ks []) (sym k)
      (subst (λ (gs : List Located). Tracks (names_in units) gs (fold with_unit [] units) []) (sym h) (tracks_start units))),
  h,
)

-- The globals of one symbol more

pub symbol_more : (names : List (List ℕ)) (vars : List Var) (symbols : List Symbol) (i : ℕ) (s : Symbol) → i < length symbols
    → s ≡ get_or symbols i s → (old new : List Located) → old ≡ fold (with_symbol names vars) [] (take i symbols)
    → new ≡ with_symbol names vars old s → new ≡ fold (with_symbol names vars) [] (take (i + 1) symbols)
symbol_more names vars symbols i s lt is old new e h =
    h ∙ ap (λ (before : List Located). with_symbol names vars before s) e
    ∙ ap (with_symbol names vars (fold (with_symbol names vars) [] (take i symbols))) is
    ∙ sym (fold_more (with_symbol names vars) [] symbols i s lt)
