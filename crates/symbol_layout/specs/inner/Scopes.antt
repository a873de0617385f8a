-- The names of a scope behind some declarations of it.
use Rattle.std.specs.Prelude.{ℕ, List}
use Rattle.std.specs.List.{fold}
use Rattle.stl_rules.specs.DeclarationRules.{key_of, with_name}
use Rattle.stl_tree.specs.declared.raw.Declaration.{Declaration}

-- names with those of some declarations
abbrev pub names_behind : List (List ℕ) → List Declaration → List (List ℕ)
names_behind names decls = fold (λ before (d : Declaration). with_name (key_of d.name) before) names decls
