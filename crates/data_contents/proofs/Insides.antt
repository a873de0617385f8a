-- Components of declarations that break no rule lie inside their bytes.
use Rattle.std.proofs.Common.{◌≡◌, ◌^◌, ◌<◌, List, length, Option, Some, None, refl, ap, arith}
use Rattle.std.specs.Prelude.{IfSome, option_map}
use Rattle.stl_tree.specs.declared.raw.Declaration.{Declaration}
use Rattle.stl_tree.specs.declared.raw.ElemType.{ElemType}
use Rattle.stl_rules.specs.DeclarationRules.{elementary}
use Rattle.stl_rules.specs.Extents.{end_of_sections, extent_of, extent_of_width, width_of}
use Rattle.stl_rules.specs.Layouts.{initial_of}
use Rattle.stl_rules.specs.Paths.{Placed, component_at, named_by_path}
use Rattle.stl_rules.specs.Interfaces.{most_in_block}
use Rattle.stl_rules.proofs.Components.{LiesIn, found_in_sections}
use Rattle.stl_rules.proofs.Ends.{of_elementary}
use Rattle.stl_rules.proofs.Lengths.{AreSized, are_sized}
use Rattle.data_contents.specs.inner.Inside.{AreInside, AreKept, IsInside, KindLies}

small : most_in_block < 2 ^ 32
small = omega arith

pub all_inside : (sections : List (List Declaration)) → AreKept sections → AreInside (length (initial_of sections)) sections
all_inside sections kept path = by (named_by_path sections path) (found_in_sections sections path)
  where
    s : AreSized most_in_block small sections
    s = are_sized most_in_block small sections kept

    of_kind : (at : Placed) (o : Option ElemType) → elementary at.1 ≡ o → LiesIn (end_of_sections 0 sections) at
        → KindLies (length (initial_of sections)) (component_at at) o
    of_kind at None k l = tt
    of_kind at (Some e) k l =
        let wide : (extent_of at.1).bits ≡ (extent_of_width (width_of e)).bits = ap (λ x. x.bits) (of_elementary at.1 e k) in
        let low = s.within in
        let is = s.is in
        let inside = l.within in
        record { bit = omega arith; room = omega (arith, low, is, inside, wide) }

    by : (o : Option Placed) → IfSome o (LiesIn (end_of_sections 0 sections)) → IfSome (option_map component_at o) (IsInside (length (initial_of sections)))
    by None l = tt
    by (Some at) l = of_kind at (elementary at.1) refl l
