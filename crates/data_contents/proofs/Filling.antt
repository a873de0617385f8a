-- Sections with a layout break no rule.
use Rattle.std.proofs.Common.{◌≡◌, List, Option, Some, None, Ok, refl}
use Rattle.s7_base.proofs.FirstBreak.{first_of_all_is_first}
use Rattle.s7_base.specs.Broken.{first_of_all}
use Rattle.s7_base.specs.declared.rule_break.Break.{Break}
use Rattle.stl_tree.specs.declared.raw.Declaration.{Declaration}
use Rattle.stl_rules.specs.Layouts.{layout_unless, breaks_in, layout_of, length_of, initial_of}
use Rattle.stl_rules.specs.Interfaces.{most_in_block}
use Rattle.stl_rules.specs.declared.layout.Layout.{Layout}
use Rattle.data_contents.specs.inner.Inside.{AreKept}

layout : (o : Option Break) (l m : Layout) → layout_unless o l ≡ Ok m → o ≡ None
layout None l m e = refl
layout (Some b) l m e = absurd cc

pub laid_kept : (sections : List (List Declaration)) (m : Layout) → layout_of most_in_block sections ≡ Ok m → AreKept sections
laid_kept sections m e =
    let own : Layout = record { length = length_of sections; initial = initial_of sections } in
    let breaks = breaks_in most_in_block sections in
    first_of_all_is_first.none breaks (layout (first_of_all breaks) own m e)
