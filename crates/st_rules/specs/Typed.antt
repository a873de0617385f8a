-- The tree of a judged text. A text that breaks no rule of names, types, places and calls has one; of another text
-- the first broken rule is named.
-- Held against: this project's own rules.
use Rattle.std.specs.Prelude.{◌≡◌, ◌≢◌, List, [], ◌++◌, map, Option, Some, None}
use Rattle.s7_base.specs.declared.reason.Line.{Line}
use Rattle.s7_base.specs.declared.reason.Reason.{Reason}
use Rattle.s7_base.specs.declared.reason.Reason.TheVariants.{CallCycle, NoBlocks}
use Rattle.s7_base.specs.declared.reason.Rejection.{Rejection}
use Rattle.s7_base.specs.declared.reason.Rejection.TheVariants as rejection
use Rattle.st_tree.specs.declared.program.StProgram.{StProgram}
use Rattle.st_tree.specs.declared.raw.RawPou.{RawPou}
use Rattle.st_tree.specs.declared.raw.RawSt.{RawSt}
use Rattle.s7_base.specs.Broken.{first_of_all}
use Rattle.call_chains.specs.Chain.{Graph, NoCycle, FirstCycle}
use Rattle.st_rules.specs.LongChains.{first_long_chain}
use Rattle.st_rules.specs.Declarations.{all_outside, formals_of}
use Rattle.st_rules.specs.Globals.{all_blocks, all_global_breaks, all_located}
use Rattle.st_names.specs.Names.{Table}
use Rattle.st_rules.specs.Units.{all_unit_breaks, all_units, calls_of_units}
use Rattle.s7_base.specs.declared.rule_break.Break.{Break}
use Rattle.st_names.specs.declared.scope.Meaning.{Meaning}

-- what names mean outside the units of a text
abbrev pub names_of : RawSt → Table Meaning
names_of raw = (all_outside raw.globals raw.pous).names

-- all rules of names, types and places that are broken in a text
abbrev pub breaks_of : RawSt → List Break
breaks_of raw =
    (all_outside raw.globals raw.pous).breaks
    ++ (all_global_breaks raw.globals ++ all_unit_breaks (names_of raw) (map formals_of raw.pous) raw.pous)

-- the first broken rule of a text by line, then by number
abbrev pub first_break : RawSt → Option Break
first_break raw = first_of_all (breaks_of raw)

-- the tree of a text in which no rule of names, types and places is broken
abbrev pub tree_of : RawSt → StProgram
tree_of raw = record {
  dbs = all_blocks raw.globals;
  globals = all_located raw.globals;
  pous = all_units (names_of raw) (map formals_of raw.pous) raw.pous;
}

-- the calls of each unit
abbrev pub calls_in : RawSt → Graph
calls_in raw = calls_of_units (names_of raw) (map formals_of raw.pous) raw.pous

-- the chain of calls breaks no rule: no call lies on a cycle, no chain is too long, and there is a unit
pub record IsChain (graph : Graph) (units : List RawPou) : Type 0 where
  pub no_cycle : NoCycle graph
  pub short : first_long_chain graph units ≡ None
  pub some : units ≢ []

-- the first rule that the chain of calls breaks: first cycles, then long chains, then that there is a unit
pub data BreaksChain (graph : Graph) (units : List RawPou) : Line → Reason → Type 0 where
  cycle : {line : Line} → FirstCycle graph line → BreaksChain graph units line CallCycle
  long : {line : Line} {rule : Reason} → NoCycle graph
      → first_long_chain graph units ≡ Some (record { line = line; rule = rule })
      → BreaksChain graph units line rule
  no_unit : {line : Line} → units ≡ [] → line.0 ≡ 1 → BreaksChain graph units line NoBlocks

-- a text has a tree
pub record HasTree (raw : RawSt) (tree : StProgram) : Type 0 where
  pub sound : first_break raw ≡ None
  pub chain : IsChain (calls_in raw) raw.pous
  pub same : tree ≡ tree_of raw

-- the first rule that a text breaks: first those of names, types and places, then those of the chain of
-- calls
pub data Breaks (raw : RawSt) : Line → Reason → Type 0 where
  named : {line : Line} {rule : Reason} → first_break raw ≡ Some (record { line = line; rule = rule })
      → Breaks raw line rule
  chained : {line : Line} {rule : Reason} → first_break raw ≡ None → BreaksChain (calls_in raw) raw.pous line rule
      → Breaks raw line rule

-- a refusal names the first rule that is broken; or memory ran out
abbrev pub IsRefused : RawSt → Rejection → Type 0
IsRefused raw (rejection.Refused line rule) = Breaks raw line rule
IsRefused raw rejection.NoMemory = Unit {0}

-- a refusal names the first rule that the chain of calls breaks; or memory ran out
abbrev pub IsChainRefused : Graph → List RawPou → Rejection → Type 0
IsChainRefused graph units (rejection.Refused line rule) = BreaksChain graph units line rule
IsChainRefused graph units rejection.NoMemory = Unit {0}
