-- The layout of declarations. It is their length and their initial bytes, or the first rule that they break.
-- Held against: this project's own layout.
use Rattle.std.specs.Prelude.{ℕ, List, [], ◌++◌, Option, Some, None, Result, Ok, Err}
use Rattle.s7_base.specs.Broken.{rule_break, first_of_all}
use Rattle.s7_base.specs.declared.rule_break.Break.{Break}
use Rattle.s7_base.specs.declared.reason.Line.{Line}
use Rattle.s7_base.specs.declared.reason.Reason.TheVariants.{TooLarge}
use Rattle.s7_base.specs.declared.reason.Rejection.{Rejection}
use Rattle.s7_base.specs.declared.reason.Rejection.TheVariants.{Refused}
use Rattle.stl_tree.specs.declared.raw.Declaration.{Declaration}
use Rattle.stl_rules.specs.Contents.{bits_of_sections, bytes_of}
use Rattle.stl_rules.specs.Extents.{end_of_sections}
use Rattle.stl_rules.specs.DeclarationRules.{section_breaks}
use Rattle.stl_rules.specs.TooLarge.{first_large_in, length_to}
use Rattle.stl_rules.specs.declared.layout.Layout.{Layout}

-- the length of sections in bytes, filled up to an even one
abbrev pub length_of : List (List Declaration) → ℕ
length_of sections = length_to (end_of_sections 0 sections)

-- the initial bytes of sections
abbrev pub initial_of : List (List Declaration) → List ℕ
initial_of sections = bytes_of (bits_of_sections [] sections)

abbrev pub too_large : Option Line → List Break
too_large None = []
too_large (Some line) = rule_break line TooLarge

-- the rules that sections break
abbrev pub breaks_in : ℕ → List (List Declaration) → List Break
breaks_in limit sections = section_breaks sections ++ too_large (first_large_in limit 0 sections)

-- a layout where no rule is broken, else the first broken rule
abbrev pub layout_unless : Option Break → Layout → Result Layout Rejection
layout_unless None layout = Ok layout
layout_unless (Some b) layout = Err (Refused b.line b.rule)

-- the layout of sections within a limit, in bytes
abbrev pub layout_of : ℕ → List (List Declaration) → Result Layout Rejection
layout_of limit sections =
    layout_unless (first_of_all (breaks_in limit sections))
    (record { length = length_of sections; initial = initial_of sections })
