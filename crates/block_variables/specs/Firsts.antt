-- The first of the broken rules so far.
use Rattle.std.specs.Prelude.{List, Option, Some, None}
use Rattle.std.specs.List.{fold}
use Rattle.s7_base.specs.Broken.{sooner}
use Rattle.s7_base.specs.declared.rule_break.Break.{Break}

-- the first of the broken rules so far and of some more
unfoldable pub with_breaks : Option Break → List Break → Option Break
with_breaks first breaks = fold sooner first breaks

-- the first of two broken rules, each the first of some
abbrev pub first_of_two : Option Break → Option Break → Option Break
first_of_two first None = first
first_of_two first (Some other) = sooner first other
