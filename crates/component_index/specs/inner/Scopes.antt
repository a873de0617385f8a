-- Scopes that stand in a list, each with the entries of its declarations by their names.
use Rattle.std.specs.Prelude.{◌≡◌, ℕ, ◌+◌, ◌%◌, ◌^◌, ◌≤◌, if◌then◌else◌, IfSome, nat_eq, List, [], ◌∷◌, ◌++◌, map, slice_get, Option, Some, None, is_some, option_and_then, option_map}
use Rattle.std.specs.Cmp.Lexicographic.{pointwise}
use Rattle.std.specs.Map.{lookup}
use Rattle.stl_rules.specs.DeclarationRules.{key_of}
use Rattle.stl_rules.specs.Extents.{extent_of}
use Rattle.stl_rules.specs.Paths.{Placed, component_in, named_behind}
use Rattle.stl_rules.specs.declared.layout.Component.{Component}
use Rattle.stl_tree.specs.declared.raw.Declaration.{Declaration}
use Rattle.stl_tree.specs.declared.raw.DeclType.{DeclType}
use Rattle.stl_tree.specs.declared.raw.PathStep.{PathStep}
use Rattle.stl_tree.specs.declared.raw.PathStep.TheVariants as step
use Rattle.symbol_layout.specs.Kept.{capped_bits, capped_placed}
use Rattle.symbol_layout.specs.Structs.{AreBits, struct_bits, struct_in}
use Rattle.component_index.specs.declared.scope.Entry.{Entry}
use Rattle.component_index.specs.declared.scope.Inner.{Inner}
use Rattle.component_index.specs.declared.scope.StructScope.{StructScope}
use Rattle.component_index.specs.declared.table.Table.{Table}

-- Tables

-- names in capitals with their entries
abbrev pub Entries : Type 0
Entries = List (List ℕ × Entry)

abbrev pub table_of : Table → Entries
table_of t = map (λ e. (e.0.items, e.1)) t.names.entries

abbrev pub entry_of : List ℕ → Entries → Option Entry
entry_of key entries = lookup (pointwise nat_eq key) entries

-- the entry of a key that has none
abbrev pub with_entry : List ℕ → Entry → Entries → Entries
with_entry key e entries = if is_some (entry_of key entries) then entries else entries ++ (key, e) ∷ []

-- Scopes by their numbers

-- the declarations that have a number
abbrev pub Held : Type 0
Held = ℕ → Option (List Declaration)

abbrev pub declarations_in : List StructScope → Held
declarations_in scopes n = option_map (λ (s : StructScope). s.decls.now) (slice_get scopes n)

-- a scope is that of the STRUCT inside a type
abbrev pub IsStruct : Held → ℕ → Option (List Declaration) → Type 0
IsStruct all n None = Unit {0}
IsStruct all n (Some parts) = all n ≡ Some parts

abbrev pub IsInner : Held → Inner → DeclType → Type 0
IsInner all inner ty = IsStruct all inner.scope (struct_in ty) × AreBits inner.bits (struct_in ty)

-- a scope is that of declarations
abbrev pub IsOf : Held → Inner → List Declaration → Type 0
IsOf all inner decls = (all inner.scope ≡ Some decls) × (inner.bits ≡ struct_bits decls)

-- Finding

-- an entry as a type at its place
abbrev pub placed_of_entry : Entry → Placed
placed_of_entry e = (e.place, e.ty.now)

-- an entry is at a place where a path may continue
abbrev pub IsAt : Held → Entry → Type 0
IsAt all e = (e.place ≤ 2 ^ 60) × (e.place % (extent_of e.ty.now).alignment ≡ 0) × IsInner all e.inner e.ty.now

-- the entry that is found has the same type and place, as these are kept, and a path may continue there
abbrev pub LeadsTo : Held → Option Placed → Option Entry → Type 0
LeadsTo all real found = (option_map placed_of_entry found ≡ capped_placed real) × IfSome found (IsAt all)

-- a table has what each name means
abbrev pub IsTable : Held → (List ℕ → Option Placed) → Entries → Type 0
IsTable all real entries = (name : List ℕ) → LeadsTo all (real name) (entry_of (key_of name) entries)

-- an entry that was in the table stays; else the entry of what a name means is found
abbrev pub Added : Held → Option Placed → Option Entry → Option Entry → Type 0
Added all real None found = LeadsTo all real found
Added all real (Some e) found = found ≡ Some e

abbrev pub Adds : Held → (List ℕ → Option Placed) → Entries → Entries → Type 0
Adds all real old new =
    (name : List ℕ) → Added all (real name) (entry_of (key_of name) old) (entry_of (key_of name) new)

abbrev pub IsScope : Held → StructScope → Type 0
IsScope all s = IsTable all (named_behind 0 s.decls.now) (table_of s.names)

abbrev pub AreScopes : List StructScope → Type 0
AreScopes scopes = (n : ℕ) (s : StructScope) → slice_get scopes n ≡ Some s → IsScope (declarations_in scopes) s

-- the scope of each number stays
abbrev pub Grows : List StructScope → List StructScope → Type 0
Grows old new =
    (n : ℕ) (decls : List Declaration) → declarations_in old n ≡ Some decls → declarations_in new n ≡ Some decls

-- Looking up

-- the entry of the first declaration of a key
abbrev pub entry_in : List ℕ → StructScope → Option Entry
entry_in key s = entry_of key (table_of s.names)

abbrev pub entry_at : List StructScope → ℕ → List ℕ → Option Entry
entry_at scopes n key = option_and_then (entry_in key) (slice_get scopes n)

-- an entry, moved to a scope that begins at a place
abbrev pub entry_from : ℕ → Entry → Entry
entry_from start e = record { place = capped_bits (start + e.place); ty = e.ty; inner = e.inner }

-- the component that a name and the path after it name
abbrev pub component_behind : List (List Declaration) → List ℕ → List PathStep → Option Component
component_behind sections name path = component_in sections (step.Name name ∷ path)
