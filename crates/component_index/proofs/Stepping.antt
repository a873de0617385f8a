-- What a name finds in a scope, and what a step leads to.
use Rattle.std.proofs.Common.{◌≡◌, ℕ, ℤ, ◌+◌, ◌*◌, ◌%◌, ◌^◌, ◌≤◌, List, slice_get, Option, Some, None, refl, sym, ap, ◌∙◌, subst, arith}
use Rattle.std.specs.Prelude.{IfSome, option_and_then, option_map}
use Rattle.stl_tree.specs.declared.raw.Declaration.{Declaration}
use Rattle.stl_tree.specs.declared.raw.DeclType.{DeclType}
use Rattle.stl_tree.specs.declared.raw.DeclType.TheOpen as T
use Rattle.stl_tree.specs.declared.raw.DeclType.TheVariants as type
use Rattle.stl_tree.specs.declared.raw.PathStep.{PathStep}
use Rattle.stl_tree.specs.declared.raw.PathStep.TheVariants as step
use Rattle.stl_rules.specs.DeclarationRules.{key_of}
use Rattle.stl_rules.specs.Extents.{elements_in, end_of_all, extent_of, even_extent}
use Rattle.stl_rules.specs.declared.layout.Extent.{Extent}
use Rattle.stl_rules.specs.Paths.{Placed, element_at, named_behind, after_step, stepped_in}
use Rattle.stl_rules.proofs.Ends.{whole}
use Rattle.stl_rules.proofs.Equations.{extent_array, extent_struct, step_array, step_struct}
use Rattle.symbol_layout.specs.Kept.{capped_bits, capped_placed}
use Rattle.component_index.specs.declared.scope.Entry.{Entry}
use Rattle.component_index.specs.declared.scope.StructScope.{StructScope}
use Rattle.symbol_layout.specs.Structs.{struct_in}
use Rattle.symbol_layout.proofs.Structs.{inner_array, inner_struct}
use Rattle.component_index.specs.inner.Scopes.{AreScopes, Held, IsAt, IsInner, IsScope, IsStruct, LeadsTo, entry_at, entry_in, declarations_in, entry_from, placed_of_entry}
use Rattle.component_index.proofs.Aligned.{IsWhole, both_multiples, element_whole, kept_whole, named_moved}
use Rattle.component_index.proofs.Growing.{same_inner}

-- From place 0 to where a scope begins

kept_sum : (start a b : ℕ) → b ≡ capped_bits a → capped_bits (start + b) ≡ capped_bits (start + a)
kept_sum start a b e = omega (arith, e)

pub is_at : (all : Held) (e : Entry) (place : ℕ) (ty : DeclType) → e.place ≡ capped_bits place
    → e.ty.now ≡ ty → IsWhole place ty → IsInner all e.inner ty → IsAt all e
is_at all e place ty at same is inner =
    let low : capped_bits place ≤ 2 ^ 60 = omega arith in (
      omega (arith, at, low),
      subst (λ t. IsWhole e.place t) (sym same) (subst (λ n. IsWhole n ty) (sym at) (kept_whole place ty is)),
      subst (λ t. IsInner all e.inner t) (sym same) inner,
    )

leads : (all : Held) (start : ℕ) → start % 16 ≡ 0 → (real : Option Placed) (found : Option Entry) → LeadsTo all real found
    → LeadsTo all (option_map (λ (x : Placed). (start + x.0, x.1)) real) (option_map (entry_from start) found)
leads all start h None None l = (refl, tt)
leads all start h None (Some e) l = let none = l.0 in absurd cc
leads all start h (Some x) None l = let none = l.0 in absurd cc
leads all start h (Some x) (Some e) l =
    let low : capped_bits (start + e.place) ≤ 2 ^ 60 = omega arith in
    let found = l.0 in
    let both : (e.place, e.ty.now) ≡ (capped_bits x.0, x.1) = cc in
    let place : capped_bits (start + e.place) ≡ capped_bits (start + x.0) = kept_sum start x.0 e.place (ap (λ (p : Placed). p.0) both) in
    let whole_sum : IsWhole (start + e.place) e.ty.now
    = both_multiples start e.place (extent_of e.ty.now).alignment (extent_of e.ty.now).bits (whole e.ty.now) h l.1.1 in (
      ap (λ p. Some (p, e.ty.now)) place ∙ ap (λ (p : Placed). Some (capped_bits (start + x.0), p.1)) both,
      (low, kept_whole (start + e.place) e.ty.now whole_sum, l.1.2),
    )

in_scope : (all : Held) (s : StructScope) (start : ℕ) (name : List ℕ) → start % 16 ≡ 0 → IsScope all s
    → LeadsTo all (named_behind start s.decls.now name) (option_map (entry_from start) (entry_in (key_of name) s))
in_scope all s start name h is =
    let none : start + 0 ≡ start = omega arith in
    let real : option_map (λ (x : Placed). (start + x.0, x.1)) (named_behind 0 s.decls.now name) ≡ named_behind start s.decls.now name
    = sym (named_moved start h s.decls.now 0 name) ∙ ap (λ n. named_behind n s.decls.now name) none in
    subst (λ (r : Option Placed). LeadsTo all r (option_map (entry_from start) (entry_in (key_of name) s))) real
    (leads all start h (named_behind 0 s.decls.now name) (entry_in (key_of name) s) (is name))

-- the first declaration of a name in the scope of a number
pub named_in_scope : (scopes : List StructScope) (n : ℕ) (parts : List Declaration) (start : ℕ) (name : List ℕ)
    → AreScopes scopes → declarations_in scopes n ≡ Some parts
    → start % 16 ≡ 0 → LeadsTo (declarations_in scopes) (named_behind start parts name) (option_map (entry_from start) (entry_at scopes n (key_of name)))
named_in_scope scopes n parts start name are there h = by_scope (slice_get scopes n) refl there
  where
    by_scope : (o : Option StructScope) → slice_get scopes n ≡ o → option_map (λ (s : StructScope). s.decls.now) o ≡ Some parts
        → LeadsTo (declarations_in scopes) (named_behind start parts name) (option_map (entry_from start) (entry_at scopes n (key_of name)))
    by_scope None e f = absurd cc
    by_scope (Some s) e f =
        let same : s.decls.now ≡ parts = cc in
        subst (λ (r : Option Placed). LeadsTo (declarations_in scopes) r (option_map (entry_from start) (entry_at scopes n (key_of name))))
        (ap (λ ds. named_behind start ds name) same)
        (subst (λ (o : Option StructScope). LeadsTo (declarations_in scopes) (named_behind start s.decls.now name)
        (option_map (entry_from start) (option_and_then (entry_in (key_of name)) o)))
        (sym e) (in_scope (declarations_in scopes) s start name h (are n s e)))

-- Steps

whole_in : (place : ℕ) (ty : DeclType) (x : Extent) → IsWhole place ty → extent_of ty ≡ x → place % x.alignment ≡ 0
whole_in place ty x h e = subst (λ (y : Extent). place % y.alignment ≡ 0) e h

-- one element of an array
module _ (all : Held) (at : Entry) (bounds : List (ℤ × ℤ)) (e : DeclType) (is : at.ty.now ≡ type.Array bounds e) (h : IsAt all at) where
  found_at : (real : Option Placed) (found : Option Entry) → IfSome real (λ x. IsWhole x.0 x.1) → option_map placed_of_entry found ≡ capped_placed real
      → IfSome found (λ x. x.inner ≡ at.inner) → IfSome found (λ x. x.ty.now ≡ e) → IfSome found (IsAt all)
  found_at real None w same inner ty = tt
  found_at None (Some x) w same inner ty = absurd cc
  found_at (Some y) (Some x) w same inner ty =
      let both : (x.place, x.ty.now) ≡ (capped_bits y.0, y.1) = cc in
      let its : e ≡ y.1 = sym ty ∙ ap (λ (p : Placed). p.1) both in
      let own : IsInner all at.inner e = same_inner all at.inner at.ty.now e (sym (ap struct_in is ∙ inner_array bounds e)) h.2 in
      is_at all x y.0 y.1 (ap (λ (p : Placed). p.0) both) (ap (λ (p : Placed). p.1) both) w
      (subst (λ t. IsInner all x.inner t) its (subst (λ i. IsInner all i e) (sym inner) own))

  pub element_leads : (indices : List ℤ) (s : PathStep) → s ≡ step.Index indices → (found : Option Entry)
      → option_map placed_of_entry found ≡ capped_placed (element_at at.place bounds e indices)
      → IfSome found (λ x. x.inner ≡ at.inner) → IfSome found (λ x. x.ty.now ≡ e) → LeadsTo all (after_step at.place at.ty.now s) found
  element_leads indices s which found same inner ty =
      let real : after_step at.place at.ty.now s ≡ element_at at.place bounds e indices
      = ap (λ t. after_step at.place t s) is ∙ step_array at.place bounds e s ∙ ap (stepped_in at.place (T.Array bounds e)) which in
      let even : at.place % 16 ≡ 0 =
      whole_in at.place at.ty.now (even_extent (elements_in bounds * (extent_of e).bits)) h.1 (ap extent_of is ∙ extent_array bounds e) in
      subst (λ (r : Option Placed). LeadsTo all r found) (sym real)
      (same, found_at (element_at at.place bounds e indices) found (element_whole at.place bounds e indices even) same inner ty)

-- a component of a STRUCT
pub struct_leads : (scopes : List StructScope) (at : Entry) (parts : List Declaration) (name : List ℕ) (s : PathStep)
    → at.ty.now ≡ type.Struct parts → s ≡ step.Name name
    → AreScopes scopes → IsAt (declarations_in scopes) at
    → LeadsTo (declarations_in scopes) (after_step at.place at.ty.now s) (option_map (entry_from at.place) (entry_at scopes at.inner.scope (key_of name)))
struct_leads scopes at parts name s is which are h =
    let real : after_step at.place at.ty.now s ≡ named_behind at.place parts name
    = ap (λ t. after_step at.place t s) is ∙ step_struct at.place parts s ∙ ap (stepped_in at.place (T.Struct parts)) which in
    let even : at.place % 16 ≡ 0 = whole_in at.place at.ty.now (even_extent (end_of_all 0 parts)) h.1 (ap extent_of is ∙ extent_struct parts) in
    let there : declarations_in scopes at.inner.scope ≡ Some parts =
    subst (IsStruct (declarations_in scopes) at.inner.scope) (ap struct_in is ∙ inner_struct parts) h.2.0 in
    subst (λ (r : Option Placed). LeadsTo (declarations_in scopes) r (option_map (entry_from at.place) (entry_at scopes at.inner.scope (key_of name))))
    (sym real)
    (named_in_scope scopes at.inner.scope parts at.place name are there even)
