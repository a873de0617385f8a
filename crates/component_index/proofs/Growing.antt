-- Scopes that stand in a list stay what they are when more are put behind them.
use Rattle.std.proofs.Common.{◌≡◌, ℕ, zero, suc, List, [], ◌∷◌, ◌++◌, length, slice_get, Option, Some, None, option_map, Result, Ok, Err, refl, sym, ap, subst, ◌∙◌}
use Rattle.std.proofs.Math.Logic.{◌⊎◌, inl, inr}
use Rattle.std.specs.Prelude.{IfOk, OnOk}
use Rattle.stl_rules.specs.DeclarationRules.{key_of}
use Rattle.stl_rules.specs.Paths.{Placed, named_behind}
use Rattle.stl_tree.specs.declared.raw.Declaration.{Declaration}
use Rattle.stl_tree.specs.declared.raw.DeclType.{DeclType}
use Rattle.symbol_layout.specs.Structs.{AreBits, struct_in}
use Rattle.component_index.specs.declared.scope.Entry.{Entry}
use Rattle.component_index.specs.declared.scope.Inner.{Inner}
use Rattle.component_index.specs.declared.scope.StructScope.{StructScope}
use Rattle.component_index.specs.inner.Scopes.{AreScopes, Entries, Grows, Held, IsInner, IsOf, IsScope, IsStruct, IsTable, LeadsTo, entry_of, declarations_in, table_of}

-- Lists

was_there : {X : Type 0} (xs : List X) (y x : X) (n : ℕ) → slice_get xs n ≡ Some x → slice_get (xs ++ y ∷ []) n ≡ Some x
was_there [] y x n h = absurd cc
was_there (z ∷ xs) y x zero h = h
was_there (z ∷ xs) y x (suc n) h = was_there xs y x n h

is_last : {X : Type 0} (xs : List X) (y : X) → slice_get (xs ++ y ∷ []) (length xs) ≡ Some y
is_last [] y = refl
is_last (z ∷ xs) y = is_last xs y

either_there : {X : Type 0} (xs : List X) (y x : X) (n : ℕ) → slice_get (xs ++ y ∷ []) n ≡ Some x → (slice_get xs n ≡ Some x) ⊎ (y ≡ x)
either_there [] y x zero h = inr cc
either_there [] y x (suc n) h = absurd cc
either_there (z ∷ xs) y x zero h = inl h
either_there (z ∷ xs) y x (suc n) h = either_there xs y x n h

-- What stands at a number stays

-- all that stands at numbers of the first stands there in the second
abbrev pub Stays : Held → Held → Type 0
Stays a b = (n : ℕ) (decls : List Declaration) → a n ≡ Some decls → b n ≡ Some decls

struct_stays : (a b : Held) → Stays a b → (n : ℕ) (o : Option (List Declaration)) → IsStruct a n o → IsStruct b n o
struct_stays a b s n None h = tt
struct_stays a b s n (Some parts) h = s n parts h

pub inner_stays : (a b : Held) → Stays a b → (inner : Inner) (ty : DeclType) → IsInner a inner ty → IsInner b inner ty
inner_stays a b s inner ty h = (struct_stays a b s inner.scope (struct_in ty) h.0, h.1)

pub leads_stay : (a b : Held) → Stays a b → (real : Option Placed) (found : Option Entry) → LeadsTo a real found → LeadsTo b real found
leads_stay a b s real None h = (h.0, tt)
leads_stay a b s real (Some e) h = (h.0, (h.1.0, h.1.1, inner_stays a b s e.inner e.ty.now h.1.2))

pub table_stays : (a b : Held) → Stays a b → (real : List ℕ → Option Placed) (entries : Entries) → IsTable a real entries → IsTable b real entries
table_stays a b s real entries h name = leads_stay a b s (real name) (entry_of (key_of name) entries) (h name)

-- One scope more

pub pushed_grows : (scopes : List StructScope) (s : StructScope) → Grows scopes (scopes ++ s ∷ [])
pushed_grows scopes s n decls h = by_scope (slice_get scopes n) refl h
  where
    by_scope : (o : Option StructScope) → slice_get scopes n ≡ o → option_map (λ (x : StructScope). x.decls.now) o ≡ Some decls
        → option_map (λ (x : StructScope). x.decls.now) (slice_get (scopes ++ s ∷ []) n) ≡ Some decls
    by_scope None e f = absurd cc
    by_scope (Some x) e f = ap (option_map (λ (x : StructScope). x.decls.now)) (was_there scopes s x n e) ∙ f

pub pushed_held : (scopes : List StructScope) (s : StructScope) → declarations_in (scopes ++ s ∷ []) (length scopes) ≡ Some s.decls.now
pushed_held scopes s = ap (option_map (λ (x : StructScope). x.decls.now)) (is_last scopes s)

scope_stays : (a b : Held) → Stays a b → (s : StructScope) → IsScope a s → IsScope b s
scope_stays a b t s h = table_stays a b t (named_behind 0 s.decls.now) (table_of s.names) h

pub pushed_scopes : (scopes : List StructScope) (s : StructScope) → AreScopes scopes → IsScope (declarations_in scopes) s → AreScopes (scopes ++ s ∷ [])
pushed_scopes scopes s all one n x h = by_place (either_there scopes s x n h)
  where
    more : (y : StructScope) → IsScope (declarations_in scopes) y → IsScope (declarations_in (scopes ++ s ∷ [])) y
    more y is = scope_stays (declarations_in scopes) (declarations_in (scopes ++ s ∷ [])) (pushed_grows scopes s) y is

    by_place : (slice_get scopes n ≡ Some x) ⊎ (s ≡ x) → IsScope (declarations_in (scopes ++ s ∷ [])) x
    by_place (inl e) = more x (all n x e)
    by_place (inr e) = subst (IsScope (declarations_in (scopes ++ s ∷ []))) e (more s one)

-- What stands inside a type

pub no_inner : (a : Held) (inner : Inner) (ty : DeclType) → struct_in ty ≡ None → IsInner a inner ty
no_inner a inner ty e = (subst (IsStruct a inner.scope) (sym e) tt, subst (AreBits inner.bits) (sym e) tt)

pub same_inner : (a : Held) (inner : Inner) (e ty : DeclType) → struct_in ty ≡ struct_in e → IsInner a inner e → IsInner a inner ty
same_inner a inner e ty same h = (subst (IsStruct a inner.scope) (sym same) h.0, subst (AreBits inner.bits) (sym same) h.1)

pub own_inner : (a : Held) (inner : Inner) (parts : List Declaration) (ty : DeclType) → struct_in ty ≡ Some parts → IsOf a inner parts → IsInner a inner ty
own_inner a inner parts ty same h = (subst (IsStruct a inner.scope) (sym same) h.0, subst (AreBits inner.bits) (sym same) h.1)

-- Results

pub if_ok : {X E : Type 0} (P Q : X → Type 0) (r : Result X E) → ((x : X) → P x → Q x) → IfOk r P → IfOk r Q
if_ok P Q (Ok x) f h = f x h
if_ok P Q (Err e) f h = tt

pub on_ok : {X E : Type 0} (P Q : Type 0) (r : Result X E) → (P → Q) → OnOk r P → OnOk r Q
on_ok P Q (Ok x) f h = f h
on_ok P Q (Err e) f h = tt
