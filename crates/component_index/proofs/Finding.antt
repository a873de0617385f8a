-- What a path finds that begins with a name.
use Rattle.std.proofs.Common.{◌≡◌, ℕ, Bool, true, false, ◌||◌, if◌then◌else◌, List, [], ◌∷◌, Option, Some, None, is_some, refl, sym, ap, ◌∙◌, arith}
use Rattle.std.specs.Prelude.{option_and_then, option_map}
use Rattle.std.specs.List.{list_any}
use Rattle.std.specs.Option.{option_or}
use Rattle.s7_base.specs.Tokens.{is_same_word}
use Rattle.stl_tree.specs.declared.raw.Declaration.{Declaration}
use Rattle.stl_tree.specs.declared.raw.PathStep.{PathStep}
use Rattle.stl_tree.specs.declared.raw.PathStep.TheVariants as step
use Rattle.stl_rules.specs.Extents.{end_of, end_of_all, extent_of, place_behind, section_behind}
use Rattle.stl_rules.specs.Interfaces.{is_declared}
use Rattle.stl_rules.specs.Paths.{Placed, component_at, named_behind, named_in, after_path}
use Rattle.symbol_layout.proofs.Turns.{component_found}
use Rattle.symbol_layout.specs.Kept.{capped_placed}
use Rattle.component_index.specs.declared.scope.Entry.{Entry}
use Rattle.component_index.specs.inner.Scopes.{component_behind, placed_of_entry}

pub nothing_behind : (sections : List (List Declaration)) (name : List ℕ) (path : List PathStep) → None ≡ capped_placed (named_in 0 sections name)
    → None ≡ component_behind sections name path
nothing_behind sections name path e = by (named_in 0 sections name) e
  where
    by : (o : Option Placed) → None ≡ capped_placed o → None ≡ option_map component_at (option_and_then (after_path path) o)
    by None e = refl
    by (Some x) e = absurd cc

pub found_behind : (sections : List (List Declaration)) (name : List ℕ) (path : List PathStep) (start : Placed)
    → Some start ≡ capped_placed (named_in 0 sections name)
    → (at : Option Placed) → at ≡ capped_placed (after_path path start) → option_map component_at at ≡ component_behind sections name path
found_behind sections name path start named at walks =
    component_found sections (step.Name name ∷ path) (step.Name name) name (omega arith) refl refl start named at walks

-- Whether something is found

some_behind : (end : ℕ) (decls : List Declaration) (name : List ℕ)
    → is_some (named_behind end decls name) ≡ list_any (λ (d : Declaration). is_same_word d.name name) decls
some_behind end [] name = refl
some_behind end (d ∷ decls) name = by (is_same_word d.name name) (some_behind (end_of end d) decls name)
  where
    by : (b : Bool) → is_some (named_behind (end_of end d) decls name) ≡ list_any (λ (x : Declaration). is_same_word x.name name) decls
        → is_some (if b then Some (place_behind end (extent_of d.ty), d.ty) else named_behind (end_of end d) decls name)
        ≡ (b || list_any (λ (x : Declaration). is_same_word x.name name) decls)
    by true e = refl
    by false e = e

some_or : (a b : Option Placed) → is_some (option_or a b) ≡ (is_some a || is_some b)
some_or None b = refl
some_or (Some x) b = refl

some_in : (end : ℕ) (sections : List (List Declaration)) (name : List ℕ) → is_some (named_in end sections name) ≡ is_declared name sections
some_in end [] name = refl
some_in end (section ∷ sections) name =
    some_or (named_behind (section_behind end) section name) (named_in (end_of_all (section_behind end) section) sections name)
    ∙ ap (λ b. b || is_some (named_in (end_of_all (section_behind end) section) sections name)) (some_behind (section_behind end) section name)
    ∙ ap (λ b. list_any (λ (d : Declaration). is_same_word d.name name) section || b) (some_in (end_of_all (section_behind end) section) sections name)

some_kept : (real : Option Placed) (found : Option Entry) → option_map placed_of_entry found ≡ capped_placed real → is_some found ≡ is_some real
some_kept None None e = refl
some_kept (Some x) (Some y) e = refl
some_kept None (Some y) e = absurd cc
some_kept (Some x) None e = absurd cc

-- the first declaration of a name is found where there is one
pub is_found : (sections : List (List Declaration)) (name : List ℕ) (found : Option Entry)
    → option_map placed_of_entry found ≡ capped_placed (named_in 0 sections name) → is_some found ≡ is_declared name sections
is_found sections name found e = some_kept (named_in 0 sections name) found e ∙ some_in 0 sections name
