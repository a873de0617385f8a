-- What a data block of a source holds, by the sections of its declarations.
use Rattle.std.specs.Prelude.{◌≡◌, Bool, true, false, List, Option, Some, None}
use Rattle.data_contents.specs.declared.content.Content.{Content}
use Rattle.data_contents.specs.declared.content.Content.TheVariants as holds
use Rattle.s7_base.specs.Broken.{first_of_all}
use Rattle.s7_base.specs.declared.rule_break.Break.{Break}
use Rattle.stl_rules.specs.DataBlocks.{bytes_with}
use Rattle.stl_rules.specs.Interfaces.{are_refused, most_in_block}
use Rattle.stl_rules.specs.Stages.{valued_breaks}
use Rattle.stl_tree.specs.declared.raw.Declaration.{Declaration}
use Rattle.stl_tree.specs.declared.raw.RawInitial.{RawInitial}

-- the first broken rule
abbrev pub first_in : List (List Declaration) → List RawInitial → Option Break
first_in sections values = first_of_all (valued_breaks sections values)

-- the first broken rule of a data block is this one, and its declarations break one or do not
pub record Breaks (sections : List (List Declaration)) (values : List RawInitial)
    (refused : Bool) (first : Option Break) : Type 0 where
  pub refused_is : are_refused most_in_block sections ≡ refused
  pub first_is : first_in sections values ≡ first

-- bytes where no rule is broken, or else the first broken rule
abbrev pub Holds : List (List Declaration) → List RawInitial → Content → Type 0
Holds sections values (holds.Bytes bytes) = Breaks sections values false None × (bytes ≡ bytes_with sections values)
Holds sections values (holds.BadDeclarations first) = Breaks sections values true (Some first)
Holds sections values (holds.BadValues first) = Breaks sections values false (Some first)
