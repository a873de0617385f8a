-- The declarations of data blocks, and those that break a rule.
use Rattle.std.specs.Prelude.{ℕ, Bool, false, List, [], ◌∷◌}
use Rattle.stl_rules.specs.Interfaces.{are_refused, most_in_block}
use Rattle.stl_tree.specs.declared.raw.Declaration.{Declaration}
use Rattle.stl_tree.specs.declared.raw.RawData.{RawData}
use Rattle.stl_tree.specs.declared.raw.RawDataKind.{RawDataKind}
use Rattle.stl_tree.specs.declared.raw.RawDataKind.TheVariants as data_kind

-- the declarations of a data block break a rule
abbrev pub is_refused : RawDataKind → Bool
is_refused (data_kind.Own decls) = are_refused most_in_block (decls ∷ [])
is_refused (data_kind.Instance name) = false

-- the declarations of a data block; an instance has none of its own
abbrev pub decls_of : RawDataKind → List Declaration
decls_of (data_kind.Own decls) = decls
decls_of (data_kind.Instance name) = []

-- the declarations of a data block as one section, after the most bytes that they may take
abbrev pub own_of : RawData → ℕ × List (List Declaration)
own_of d = (most_in_block, decls_of d.kind ∷ [])
