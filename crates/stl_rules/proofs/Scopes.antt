-- Declarations of one scope, in parts: where all break nothing, each part breaks nothing.
use Rattle.std.proofs.Common.{◌≡◌, ℕ, Bool, true, false, ◌||◌, nat_eq, if◌then◌else◌, List, [], ◌∷◌, ◌++◌, refl, sym, ap, ◌∙◌}
use Rattle.std.specs.List.{flat_map, list_any}
use Rattle.std.specs.Cmp.Lexicographic.{pointwise}
use Rattle.std.proofs.lemmas.Grind.{flat_map-append}
use Rattle.std.proofs.lemmas.List.Folds.{list_any-append}
use Rattle.s7_base.specs.declared.reason.Line.{Line}
use Rattle.stl_tree.specs.declared.raw.Declaration.{Declaration}
use Rattle.stl_tree.specs.declared.raw.RawBlock.{RawBlock}
use Rattle.stl_rules.specs.DeclarationRules.{break_if_repeated, declaration_breaks, is_named, key_of, scope_breaks, section_breaks, with_name}
use Rattle.stl_rules.specs.Interfaces.{interface_breaks, interface_large, interface_of, most_local, temporaries_of, variable_breaks}
use Rattle.stl_rules.specs.Layouts.{breaks_in, too_large}
use Rattle.stl_rules.specs.TooLarge.{first_large_in}
use Rattle.stl_rules.proofs.Equations.{scope_cons, scope_nil}
use Rattle.stl_rules.proofs.Lists.{no_parts}

-- the names of a scope behind some declarations
abbrev pub names_behind : List (List ℕ) → List Declaration → List (List ℕ)
names_behind names [] = names
names_behind names (d ∷ decls) = names_behind (with_name (key_of d.name) names) decls

pub scope_parts : (names : List (List ℕ)) (a b : List Declaration) → scope_breaks names (a ++ b) ≡ []
    → (scope_breaks names a ≡ []) × (scope_breaks (names_behind names a) b ≡ [])
scope_parts names [] b e = (scope_nil names, e)
scope_parts names (d ∷ a) b e =
    let next = with_name (key_of d.name) names in
    let here = break_if_repeated d.line (is_named (key_of d.name) names) ++ declaration_breaks d in
    let parts = no_parts here (scope_breaks next (a ++ b)) (sym (scope_cons names d (a ++ b)) ∙ e) in
    let more = scope_parts next a b parts.1 in
    (scope_cons names d a ∙ ap (λ bs. bs ++ scope_breaks next a) parts.0 ∙ more.0, more.1)

-- Fewer names

-- a name that is not one of more names is none of fewer
abbrev Fewer : List (List ℕ) → List (List ℕ) → Type 0
Fewer names more = (key : List ℕ) → is_named key more ≡ false → is_named key names ≡ false

neither : (a b : Bool) → (a || b) ≡ false → (a ≡ false) × (b ≡ false)
neither true b e = absurd cc
neither false b e = (refl, e)

fewer_with : (names more : List (List ℕ)) (key : List ℕ) → is_named key more ≡ false → Fewer names more
    → Fewer (with_name key names) (with_name key more)
fewer_with names more key new f q h =
    let last : is_named q (more ++ key ∷ []) ≡ false = sym (ap (λ b. is_named q (if b then more else more ++ key ∷ [])) new) ∙ h in
    let both = neither (is_named q more) (pointwise nat_eq q key || false) (sym (list_any-append (pointwise nat_eq q) more (key ∷ [])) ∙ last) in
    by (is_named key names) (f q both.0) both.1
  where
    by : (b : Bool) → is_named q names ≡ false → (pointwise nat_eq q key || false) ≡ false → is_named q (if b then names else names ++ key ∷ []) ≡ false
    by true e g = e
    by false e g =
        list_any-append (pointwise nat_eq q) names (key ∷ []) ∙ ap (λ b. b || (pointwise nat_eq q key || false)) e ∙ g

not_repeated : (b : Bool) (line : Line) → break_if_repeated line b ≡ [] → b ≡ false
not_repeated true line e = absurd cc
not_repeated false line e = refl

fewer : (names more : List (List ℕ)) (decls : List Declaration) → Fewer names more → scope_breaks more decls ≡ [] → scope_breaks names decls ≡ []
fewer names more [] f e = scope_nil names
fewer names more (d ∷ decls) f e =
    let key = key_of d.name in
    let parts = no_parts (break_if_repeated d.line (is_named key more) ++ declaration_breaks d) (scope_breaks (with_name key more) decls)
    (sym (scope_cons more d decls) ∙ e) in
    let own = no_parts (break_if_repeated d.line (is_named key more)) (declaration_breaks d) parts.0 in
    let new = not_repeated (is_named key more) d.line own.0 in
    scope_cons names d decls
    ∙ ap (λ b. (break_if_repeated d.line b ++ declaration_breaks d) ++ scope_breaks (with_name key names) decls) (f key new)
    ∙ ap (λ bs. bs ++ scope_breaks (with_name key names) decls) own.1
    ∙ fewer (with_name key names) (with_name key more) decls (fewer_with names more key new f) parts.1

-- The variables of a block

abbrev flat : List (List Declaration) → List Declaration
flat sections = flat_map (λ section. section) sections

-- where all variables of a block break nothing, its interface breaks nothing by itself, and its temporaries neither
pub variables_kept : (raw : RawBlock) → variable_breaks raw ≡ [] → (interface_breaks raw ≡ []) × (breaks_in most_local (temporaries_of raw) ≡ [])
variables_kept raw e =
    let interface = interface_of raw in
    let temps = temporaries_of raw in
    let large = interface_large raw.kind interface in
    let long = too_large (first_large_in most_local 0 temps) in
    let all = no_parts (section_breaks (interface ++ temps) ++ large) long e in
    let own = no_parts (section_breaks (interface ++ temps)) large all.0 in
    let scope : scope_breaks [] (flat interface ++ flat temps) ≡ []
    = sym (ap (scope_breaks []) (flat_map-append (λ section. section) interface temps)) ∙ own.0 in
    let parts = scope_parts [] (flat interface) (flat temps) scope in (
      ap (λ bs. bs ++ large) parts.0 ∙ own.1,
      ap (λ bs. bs ++ long) (fewer [] (names_behind [] (flat interface)) (flat temps) (λ key h. refl) parts.1) ∙ all.1,
    )
