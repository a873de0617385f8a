-- What the text of a region that fits keeps of the rules of a text: its statements are well typed, nest little deeper
-- than those of the nodes, and call what the nodes call.
-- Held against: this project's own bounds.
use Rattle.std.specs.Prelude.{◌≡◌, ℕ, suc, ◌+◌, ◌≤◌, Bool, true, false, List, length, All, Contains, Option, None, Some, slice_get}
use Rattle.graph_rules.specs.Plain.{LeadsInside, node_statements}
use Rattle.region_laws.specs.Regions.{Around, Fits, Marked, Place, Region, inside, no_loop, text_of}
use Rattle.region_laws.specs.RegionDepth.{depth}
use Rattle.region_types.specs.UsesNext.{UsesNext}
use Rattle.st_tree.specs.BodyParts.{calls_in}
use Rattle.st_tree.specs.Chains.{chain_of}
use Rattle.st_tree.specs.Nesting.{body_nesting}
use Rattle.st_tree.specs.WellTyped.{UnitScope, are_well_typed, is_call, variable_type}
use Rattle.st_tree.specs.declared.expr.StType.{StType}
use Rattle.st_tree.specs.declared.expr.StType.TheVariants as type
use Rattle.st_tree.specs.declared.expr.Var.{Var}
use Rattle.st_tree.specs.declared.expr.Var.TheVariants as var
use Rattle.st_tree.specs.declared.graph.StNode.{StNode}
use Rattle.st_tree.specs.declared.program.Pou.{Pou}
use Rattle.st_tree.specs.declared.program.StProgram.{StProgram}

-- Types

-- what may be named in a scope may be named in another one: variables of the same types, and calls
pub record IsWider (small large : UnitScope) : Type 0 where
  pub declared : (v : Var) (ty : StType) → variable_type small v ≡ Some ty → variable_type large v ≡ Some ty
  pub calls : (n : ℕ) (vars : List Var) → is_call small (slice_get small.heads n) vars ≡ true
      → is_call large (slice_get large.heads n) vars ≡ true

-- there is a loop around statements
abbrev pub is_inside : Around → Bool
is_inside no_loop = false
is_inside (inside head behind) = true

-- each exit leads to nodes of the unit
abbrev pub LeadInside : List StNode → Type 0
LeadInside nodes = (i : ℕ) (node : StNode) → slice_get nodes i ≡ Some node → LeadsInside (length nodes) i node.exit

-- where the nodes of a unit are well typed, so is the text of a region that fits, in a scope that names no less; if the
-- region uses `NEXT`, it is a DINT there
abbrev pub TextIsTyped : Type 0
TextIsTyped =
    (small large : UnitScope) (has_next : Bool) (next : ℕ) (unit : Marked) (turn : Bool) (region : Region)
    (place follow : Place) (around : Around) → IsWider small large
    → (has_next ≡ true → variable_type large (var.Local next) ≡ Some type.Dint)
    → are_well_typed small false (node_statements unit.nodes) ≡ true → LeadInside unit.nodes → length unit.nodes ≤ 32769
    → UsesNext has_next (length unit.nodes) region → Fits unit turn region place follow around
    → are_well_typed large (is_inside around) (text_of next region) ≡ true

-- Nesting

-- the text of a region that fits nests at most one level more deeply than its lists stand in one another, beside what
-- the nodes of the unit nest
abbrev pub TextIsLow : Type 0
TextIsLow =
    (next : ℕ) (unit : Marked) (turn : Bool) (region : Region) (place follow : Place) (around : Around)
    → Fits unit turn region place follow around
    → body_nesting (text_of next region) ≤ suc (depth region + body_nesting (node_statements unit.nodes))

-- Calls

-- the text of a region that fits calls what nodes of the unit call
abbrev pub TextCalls : Type 0
TextCalls =
    (next : ℕ) (unit : Marked) (turn : Bool) (region : Region) (place follow : Place) (around : Around)
    → Fits unit turn region place follow around
    → All (Contains (calls_in (node_statements unit.nodes))) (calls_in (text_of next region))

-- there is a unit where there is another one, and it calls nothing else
abbrev pub UnitCallsNoMore : Option Pou → Option Pou → Type 0
UnitCallsNoMore None None = Unit {0}
UnitCallsNoMore None (Some other) = ⊥
UnitCallsNoMore (Some unit) None = ⊥
UnitCallsNoMore (Some unit) (Some other) = All (Contains (calls_in other.body)) (calls_in unit.body)

-- so it is at each position of two trees
abbrev pub CallsNoMore : StProgram → StProgram → Type 0
CallsNoMore tree other = (n : ℕ) → UnitCallsNoMore (slice_get tree.pous n) (slice_get other.pous n)

-- then the chains of calls are no longer
abbrev pub FewerCallsAreShorter : Type 0
FewerCallsAreShorter = (tree other : StProgram) → CallsNoMore tree other → (n : ℕ) → chain_of tree n ≤ chain_of other n
