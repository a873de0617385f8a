-- Where chains of calls are too long. They begin at the headings of units from which more units are called in one
-- another than may run at a time.
-- Held against: this project's own bounds.
use Rattle.std.specs.Prelude.{ℕ, ◌+◌, Bool, false, if◌then◌else◌, List, [], ◌∷◌, ◌++◌, get_or, Option}
use Rattle.call_chains.specs.Chain.{Graph, chains}
use Rattle.memory_areas.specs.declared.sizes.TheConstants.{ACTIVATIONS}
use Rattle.s7_base.specs.declared.reason.Line.{Line}
use Rattle.s7_base.specs.declared.reason.Reason.TheVariants.{CallTooDeep}
use Rattle.st_tree.specs.declared.raw.RawPou.{RawPou}
use Rattle.s7_base.specs.Broken.{rule_break, first_of_all}
use Rattle.s7_base.specs.declared.rule_break.Break.{Break}

-- the rule that is broken at a heading where a chain is too long
abbrev pub chain_break : Bool → Line → List Break
chain_break long line = if long then rule_break line CallTooDeep else []

-- the rules that are broken at the headings of units from unit i on
abbrev pub long_chains : List Bool → ℕ → List RawPou → List Break
long_chains begins i [] = []
long_chains begins i (u ∷ units) = chain_break (get_or begins i false) u.line ++ long_chains begins (i + 1) units

-- the first heading at which a chain of more units begins than may run at a time
abbrev pub first_long_chain : Graph → List RawPou → Option Break
first_long_chain graph units = first_of_all (long_chains (chains graph ACTIVATIONS) 0 units)
