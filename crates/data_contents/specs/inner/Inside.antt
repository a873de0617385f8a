-- Components that lie inside the bytes of a data block.
use Rattle.std.specs.Prelude.{◌≡◌, ℕ, ◌+◌, ◌*◌, ◌<◌, ◌≤◌, List, [], Option, Some, None, IfSome}
use Rattle.s7_base.specs.declared.word.Width.{Width}
use Rattle.stl_rules.specs.Extents.{extent_of_width, width_of}
use Rattle.stl_rules.specs.Layouts.{breaks_in}
use Rattle.stl_rules.specs.Paths.{component_in}
use Rattle.stl_rules.specs.Interfaces.{most_in_block}
use Rattle.stl_rules.specs.declared.layout.Component.{Component}
use Rattle.stl_tree.specs.declared.raw.Declaration.{Declaration}
use Rattle.stl_tree.specs.declared.raw.ElemType.{ElemType}
use Rattle.stl_tree.specs.declared.raw.PathStep.{PathStep}

-- the sections of a data block break no rule
abbrev pub AreKept : List (List Declaration) → Type 0
AreKept sections = breaks_in most_in_block sections ≡ []

-- a number of a width lies inside this many bytes
pub record Lies (count : ℕ) (at : Component) (w : Width) : Type 0 where
  pub bit : at.bit < 8
  pub room : at.byte * 8 + (extent_of_width w).bits ≤ count * 8

abbrev pub KindLies : ℕ → Component → Option ElemType → Type 0
KindLies count at None = Unit {0}
KindLies count at (Some e) = Lies count at (width_of e)

-- a component lies inside this many bytes, where it has an elementary type
abbrev pub IsInside : ℕ → Component → Type 0
IsInside count at = KindLies count at at.kind

-- all components that paths name in sections lie inside this many bytes
abbrev pub AreInside : ℕ → List (List Declaration) → Type 0
AreInside count sections = (path : List PathStep) → IfSome (component_in sections path) (IsInside count)
