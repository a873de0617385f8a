-- What a unit's scope says of the names that its tree has at their positions.
use Rattle.st_tree.proofs.Common.{◌≡◌, ℕ, List, [], map, Option, Some, None, slice_get, fold, Names, key_of}
use Rattle.st_rules.proofs.Common.{StType, Local, Located, Pou, Table, with_entry, meaning_in}
use Rattle.st_names.specs.declared.scope.Formals.{Formals}
use Rattle.st_names.specs.declared.scope.Meaning.TheVariants as meaning
use Rattle.st_names.specs.declared.scope.NameScope.{NameScope}

-- a formal or a local of this key and type
abbrev pub IsLocalAt : List ℕ → StType → Option Local → Type 0
IsLocalAt key ty None = ⊥
IsLocalAt key ty (Some l) = (key_of l.name ≡ key) × (l.ty ≡ ty)

-- a global of this key and type
abbrev pub IsGlobalAt : List ℕ → StType → Option Located → Type 0
IsGlobalAt key ty None = ⊥
IsGlobalAt key ty (Some g) = (key_of g.name ≡ key) × (g.ty ≡ ty)

-- the keys and the types of some formals
abbrev pub keys_of_locals : List Local → List (List ℕ)
keys_of_locals locals = map (λ (l : Local). key_of l.name) locals

abbrev pub types_of_locals : List Local → Table StType
types_of_locals locals = fold (λ types (l : Local). with_entry (key_of l.name) l.ty types) [] locals

-- a function of this key, with its formals as calls see them
pub record IsFunctionOf (key : List ℕ) (u : Pou) (f : Formals) : Type 0 where
  pub named : key_of u.name ≡ key
  pub keys : f.keys ≡ keys_of_locals u.formals
  pub types : f.types ≡ types_of_locals u.formals

abbrev pub IsFunctionAt : List ℕ → Option Pou → Option Formals → Type 0
IsFunctionAt key (Some u) (Some f) = IsFunctionOf key u f
IsFunctionAt key other formals = ⊥

-- what names mean in a scope stands in the tree at the position that the meaning has
pub record Declares (scope : NameScope) (names : Names) : Type 0 where
  pub formal : (key : List ℕ) (i : ℕ) (ty : StType) → meaning_in scope key ≡ Some (meaning.Formal i ty) → IsLocalAt key ty (slice_get names.formals i)
  pub local : (key : List ℕ) (i : ℕ) (ty : StType) → meaning_in scope key ≡ Some (meaning.Local i ty) → IsLocalAt key ty (slice_get names.locals i)
  pub global : (key : List ℕ) (i : ℕ) (ty : StType) → meaning_in scope key ≡ Some (meaning.Global i ty) → IsGlobalAt key ty (slice_get names.globals i)
  pub function : (key : List ℕ) (i : ℕ) → meaning_in scope key ≡ Some (meaning.Function i)
      → IsFunctionAt key (slice_get names.units i) (slice_get scope.formals i)
