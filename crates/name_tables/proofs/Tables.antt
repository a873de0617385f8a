-- Kinds and numbers of blocks as the keys of maps.
use Rattle.std.proofs.Common.{◌≡◌, ℕ, Bool, true, false, cond, List, [], ◌∷◌, ◌++◌, Some, is_some, nat_eq, ◌&&◌, refl, sym, ap, ◌∙◌}
use Rattle.std.specs.Map.{lookup}
use Rattle.indexmap.specs.IndexMap.{insert_entry}
use Rattle.name_tables.specs.Places.{with_place}
use Rattle.name_tables.proofs.PlaceTables.{appended, none}
use Rattle.name_tables.specs.inner.Places.{is_same_block}
use Rattle.stl_rules.specs.Names.{is_same_kind}
use Rattle.stl_tree.specs.contracts.raw.BlockKindPartialEq.TheImpl as kinds
use Rattle.stl_tree.specs.declared.raw.BlockKind.{BlockKind}
use Rattle.stl_tree.specs.declared.raw.BlockKind.TheVariants as block

-- a test of keys that says the same as another finds the same
same_found : {K T : Type 0} (f g : K → Bool) → ((k : K) → f k ≡ g k) → (es : List (K × T)) → lookup f es ≡ lookup g es
same_found f g h [] = refl
same_found f g h (e ∷ es) =
    ap (λ b. cond b (Some e.1) (lookup f es)) (h e.0) ∙ ap (cond (g e.0) (Some e.1)) (same_found f g h es)

-- a map compares kinds as the rules of a text do
same_kinds : (a b : BlockKind) → kinds.ghosts.eq a b ≡ is_same_kind a b
same_kinds block.Ob block.Ob = refl
same_kinds block.Ob block.Fc = refl
same_kinds block.Ob block.Fb = refl
same_kinds block.Ob block.Db = refl
same_kinds block.Fc block.Ob = refl
same_kinds block.Fc block.Fc = refl
same_kinds block.Fc block.Fb = refl
same_kinds block.Fc block.Db = refl
same_kinds block.Fb block.Ob = refl
same_kinds block.Fb block.Fc = refl
same_kinds block.Fb block.Fb = refl
same_kinds block.Fb block.Db = refl
same_kinds block.Db block.Ob = refl
same_kinds block.Db block.Fc = refl
same_kinds block.Db block.Fb = refl
same_kinds block.Db block.Db = refl

abbrev is_same_key : BlockKind × ℕ → BlockKind × ℕ → Bool
is_same_key a b = kinds.ghosts.eq a.0 b.0 && nat_eq a.1 b.1

same_keys : (a b : BlockKind × ℕ) → is_same_key a b ≡ is_same_block a b
same_keys a b = ap (λ t. t && nat_eq a.1 b.1) (same_kinds a.0 b.0)

pub looks_up : (kind : BlockKind) (n : ℕ) (es : List ((BlockKind × ℕ) × ℕ)) → lookup (is_same_key (kind, n)) es ≡ lookup (is_same_block (kind, n)) es
looks_up kind n es = same_found (is_same_key (kind, n)) (is_same_block (kind, n)) (same_keys (kind, n)) es

pub kept_number : (kind : BlockKind) (n place : ℕ) (es : List ((BlockKind × ℕ) × ℕ)) → is_some (lookup (is_same_block (kind, n)) es) ≡ true
    → es ≡ with_place is_same_block (kind, n) place es
kept_number kind n place es h = sym (ap (λ b. cond b es (es ++ ((kind, n), place) ∷ [])) h)

pub put_number : (kind : BlockKind) (n place : ℕ) (es new : List ((BlockKind × ℕ) × ℕ)) → is_some (lookup (is_same_block (kind, n)) es) ≡ false
    → new ≡ insert_entry is_same_key es (kind, n) place → new ≡ with_place is_same_block (kind, n) place es
put_number kind n place es new h e =
    e ∙ appended is_same_key (kind, n) place es (looks_up kind n es ∙ none (lookup (is_same_block (kind, n)) es) h)
    ∙ sym (ap (λ b. cond b es (es ++ ((kind, n), place) ∷ [])) h)
