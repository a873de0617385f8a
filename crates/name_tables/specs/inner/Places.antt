-- Tables of names and numbers: each with its first place.
use Rattle.std.specs.Prelude.{ℕ, Bool, false, ◌&&◌, nat_eq, nat_lt, List, Option, Some, None, Result, Ok, Err}
use Rattle.std.specs.Cmp.Lexicographic.{pointwise}
use Rattle.name_tables.specs.Places.{AreFirstPlaces, with_place}
use Rattle.s7_base.specs.declared.reason.Reason.{Reason}
use Rattle.stl_rules.specs.DeclarationRules.{key_of}
use Rattle.stl_rules.specs.Names.{is_same_kind}
use Rattle.name_tables.specs.Before.{is_block}
use Rattle.stl_tree.specs.declared.raw.BlockKind.{BlockKind}
use Rattle.stl_tree.specs.declared.raw.SymbolLine.{SymbolLine}

-- a first place is one before this one
abbrev pub is_before : ℕ → Option ℕ → Bool
is_before place None = false
is_before place (Some first) = nat_lt first place

-- two blocks have the same kind and number
abbrev pub is_same_block : BlockKind × ℕ → BlockKind × ℕ → Bool
is_same_block a b = is_same_kind a.0 b.0 && nat_eq a.1 b.1

-- each kind and number is kept with its first place
abbrev pub AreNumberPlaces : List (BlockKind × Result ℕ Reason) → List ((BlockKind × ℕ) × ℕ) → Type 0
AreNumberPlaces blocks table = AreFirstPlaces is_same_block (λ key b. is_block key.0 key.1 b) blocks table

abbrev pub with_number_place : BlockKind → Result ℕ Reason → ℕ → List ((BlockKind × ℕ) × ℕ) → List ((BlockKind × ℕ) × ℕ)
with_number_place kind (Ok n) place table = with_place is_same_block (kind, n) place table
with_number_place kind (Err reason) place table = table

-- a line of the symbol table has the name of a key
abbrev pub has_key : List ℕ → SymbolLine → Bool
has_key key line = pointwise nat_eq key (key_of line.name)

-- each key is kept with the place of its first line
abbrev pub AreNamePlaces : List SymbolLine → List (List ℕ × ℕ) → Type 0
AreNamePlaces lines table = AreFirstPlaces (pointwise nat_eq) has_key lines table
