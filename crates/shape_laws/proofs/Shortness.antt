-- The text that is made of the nodes of a unit has few statements besides those of its blocks.
use Rattle.std.proofs.Common.{◌≡◌, ℕ, ◌+◌, ◌≤◌, Bool, List, length, Option, refl, sym, ap, ◌∙◌, subst, arith}
use Rattle.std.specs.List.{sum_by}
use Rattle.st_tree.specs.BodyParts.{statements_in}
use Rattle.st_tree.specs.declared.graph.StNode.{StNode}
use Rattle.st_tree.specs.declared.program.Stmt.{Stmt}
use Rattle.region_laws.specs.Regions.{text_of}
use Rattle.region_plans.specs.PlanRegion.{Chart}
use Rattle.region_plans.specs.RegionCounts.{before}
use Rattle.region_plans.specs.TextCounts.{steps_of}
use Rattle.unit_regions.specs.MadeCharts.{ArePlain, ArePlanned, IsFound, chart_of}
use Rattle.unit_regions.specs.UnitCounts.{entries_in, entries_of, loops_of, unit_statements}
use Rattle.unit_regions.specs.UnitRegion.{Section, unit_region}
use Rattle.unit_regions.proofs.Made.{chart_is_right}
use Rattle.unit_regions.proofs.Markless.{marks_are_left_out}
use Rattle.unit_regions.proofs.Shorts.{unit_is_short}
use Rattle.shape_laws.specs.Lengths.{MadeIsShort, most_statements}
use Rattle.shape_laws.proofs.Shapes.{end_facts, steps_of_plain}
use Rattle.shape_laws.proofs.Totals.{before_all}

statements_total : (c : Chart)
    → before (unit_statements c) (length c.unit.nodes)
    ≡ sum_by (λ (n : StNode). length (statements_in n.steps) + 24 + entries_in n.exit) c.unit.nodes
statements_total c =
    before_all (λ o. length (statements_in (steps_of o)) + 24 + entries_of o)
    (λ n. length (statements_in n.steps) + 24 + entries_in n.exit) (λ n. refl) c.unit.nodes

few_statements : (nodes : List StNode) (next : ℕ) (reached : ℕ → Bool) (lasts : ℕ → Option ℕ) (cuts : List ℕ) (sections : List Section)
    → ArePlain nodes → IsFound nodes reached lasts cuts → ArePlanned nodes reached lasts cuts sections
    → length (statements_in (text_of next (unit_region (chart_of nodes reached lasts sections) sections)))
    ≤ most_statements nodes (loops_of sections)
few_statements nodes next reached lasts cuts sections plain found row =
    let c = chart_of nodes reached lasts sections in
    let ends = end_facts nodes plain in
    let short = unit_is_short c cuts sections next (steps_of_plain nodes plain) found.whole
    (chart_is_right nodes reached lasts cuts sections plain found row).each ends.0 ends.1 in
    let l = short.statements in let e = statements_total c in omega arith

pub made_is_short : MadeIsShort
made_is_short nodes next body count plain made =
    let e : text_of next (unit_region (chart_of nodes made.reached made.lasts made.sections) made.sections) ≡ body
    = ap (text_of next) (marks_are_left_out nodes made.reached made.lasts made.sections made.sections) ∙ sym made.body in
    let few = few_statements nodes next made.reached made.lasts made.cuts made.sections plain made.found made.planned in
    subst (λ loops. length (statements_in body) ≤ most_statements nodes loops) (sym made.loops)
    (subst (λ (text : List Stmt). length (statements_in text) ≤ most_statements nodes (loops_of made.sections)) e few)
