-- How deep the statements of a unit nest.
use Rattle.std.proofs.Common.{ℕ, suc, ◌+◌, ◌≤◌, false, List, sym, subst, arith}
use Rattle.graph_rules.specs.Plain.{node_statements}
use Rattle.region_laws.specs.RegionDepth.{depth}
use Rattle.region_laws.specs.Regions.{at, no_loop, out, text_of}
use Rattle.region_types.proofs.Nests.{text_is_low}
use Rattle.st_tree.specs.Nesting.{body_nesting}
use Rattle.st_tree.specs.declared.graph.StNode.{StNode}
use Rattle.st_tree.specs.declared.program.Stmt.{Stmt}
use Rattle.unit_regions.specs.RegionOf.{marked_unit}
use Rattle.restructure.specs.Levels.{IsLow}
use Rattle.restructure.specs.Structures.{IsStructured}
use Rattle.restructure.specs.declared.structured.Structured.{Structured}

pub is_low : (nodes : List StNode) (selector : ℕ) (made : Structured) → IsStructured nodes selector made → IsLow nodes made
is_low nodes selector made is steps =
    let deep : body_nesting (text_of selector is.region) ≤ suc (depth is.region + body_nesting (node_statements nodes))
    = text_is_low selector (marked_unit nodes is.reached is.marks) false is.region (at 0) out no_loop is.fits in
    let low : depth is.region ≤ 65 = is.low in
    subst (λ (body : List Stmt). body_nesting body ≤ 130) (sym is.body) (omega (arith, deep, low, steps))
