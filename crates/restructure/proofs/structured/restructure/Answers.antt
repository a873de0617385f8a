use Rattle.std.proofs.Common.{◌≡◌, List, ℕ, Bool, drop, ap, sym, ◌∙◌, subst}
use Rattle.std.proofs.lemmas.Result.{IfOk-weaker}
use Rattle.st_tree.specs.declared.graph.StNode.{StNode}
use Rattle.stl_tree.specs.Segments.{AreCuts}
use Rattle.flow_graph.specs.Graphs.{ways_after}
use Rattle.flow_graph.specs.Reached.{AreReached}
use Rattle.flow_graph.specs.declared.graph.Exit.{Exit}
use Rattle.graph_rules.specs.Flow.{flow_of}
use Rattle.segment_plans.specs.Known.{AreKnown}
use Rattle.shape_laws.specs.EachOnce.{HasEachOnce}
use Rattle.shape_laws.proofs.Once.{made_has_each_once}
use Rattle.shape_laws.proofs.Shapes.{made_has_shape}
use Rattle.shape_laws.proofs.Shortness.{made_is_short}
use Rattle.text_shapes.specs.NodeCounts.{KeepsOff}
use Rattle.unit_regions.proofs.WholeUnit.{made_is_region}
use Rattle.restructure.specs.Lengths.{IsShort}
use Rattle.restructure.specs.Levels.{IsLow}
use Rattle.restructure.specs.Structures.{IsStructured}
use Rattle.restructure.specs.TextShape.{HasSelectors, HasShape}
use Rattle.restructure.specs.inner.Writing.{AreSegments, IsUnitText}
use Rattle.restructure.specs.declared.structured.Structured.{Structured}
use Rattle.restructure.proofs.Found.{are_segments, is_made, reached_known}
use Rattle.restructure.proofs.Nests.{is_low}
use Rattle.restructure.proofs.structured.restructure.Goals as goal
use Rattle.restructure.proofs.structured.restructure.Goals.{After-rest_after, In_ok-blocks, In_ok-cuts}

are_known : (c : In_ok-blocks) → AreKnown (flow_of c.args.graph.nodes) c.in_ok-blocks.blocks
are_known c = subst (λ (nodes : List StNode). AreKnown (flow_of nodes) c.in_ok-blocks.blocks) c.as_slice.ensures c.in_ok-blocks.ensures

are_cuts : (c : In_ok-cuts) → AreCuts (ways_after c.in_ok-blocks.blocks.exits.items) c.in_ok-cuts.cuts
are_cuts c = subst (λ (exits : List Exit). AreCuts (ways_after exits) c.in_ok-cuts.cuts) c.as_slice-2.ensures.value c.in_ok-cuts.ensures

are_after : (c : After-rest_after) → c.rest_after.result.now ≡ drop 1 c.in_ok-cuts.cuts
are_after c = c.rest_after.ensures ∙ ap (λ (cuts : List ℕ). drop 1 cuts) c.as_slice-6.ensures

pub cuts-requires-clause-reached : goal.cuts-requires-clause-reached
cuts-requires-clause-reached c =
    subst (λ (exits : List Exit). AreReached (ways_after exits) c.as_slice-3.result.now) (sym c.as_slice-2.ensures.value)
    (subst (λ (reached : List Bool). AreReached (ways_after c.in_ok-blocks.blocks.exits.items) reached) (sym c.as_slice-3.ensures.value)
    (reached_known c.args.graph.nodes c.in_ok-blocks.blocks (are_known (goal.at.cuts-requires-clause-reached c).In_ok-blocks)))

pub structure_of-requires-clause-cuts : goal.structure_of-requires-clause-cuts
structure_of-requires-clause-cuts c =
    let at = goal.at.structure_of-requires-clause-cuts c in
    subst (λ (cuts : List ℕ). AreSegments c.args.graph.nodes 0 cuts) (sym (are_after at.After-rest_after))
    (are_segments c.args.graph.nodes c.in_ok-blocks.blocks c.requires (are_known at.In_ok-blocks) c.in_ok-cuts.cuts (are_cuts at.In_ok-cuts))

pub returns-clause-right : goal.returns-clause-right
returns-clause-right c =
    let at = goal.at.returns-clause-right c in
    IfOk-weaker c.structure_of.result (IsUnitText c.args.graph.nodes c.in_ok-blocks.blocks c.args.selector c.rest_after.result.now)
    (λ (made : Structured). IsStructured c.args.graph.nodes c.args.selector made)
    (λ made is. made_is_region _ _ _ _ c.requires.some c.requires.few c.requires.plain
    (is_made _ _ c.requires (are_known at.In_ok-blocks) _ (are_cuts at.In_ok-cuts) _ _ made (are_after at.After-rest_after) is)) c.structure_of.ensures

pub returns-clause-shape : goal.returns-clause-shape
returns-clause-shape c =
    let at = goal.at.returns-clause-shape c in
    IfOk-weaker c.structure_of.result (IsUnitText c.args.graph.nodes c.in_ok-blocks.blocks c.args.selector c.rest_after.result.now)
    (λ (made : Structured). KeepsOff c.args.selector c.args.graph.nodes → HasShape c.args.graph.nodes c.args.selector made)
    (λ made is off. (made_has_shape _ _ _ _ c.requires.some c.requires.plain off
    (is_made _ _ c.requires (are_known at.In_ok-blocks) _ (are_cuts at.In_ok-cuts) _ _ made (are_after at.After-rest_after) is)).0) c.structure_of.ensures

pub returns-clause-counted : goal.returns-clause-counted
returns-clause-counted c =
    let at = goal.at.returns-clause-counted c in
    IfOk-weaker c.structure_of.result (IsUnitText c.args.graph.nodes c.in_ok-blocks.blocks c.args.selector c.rest_after.result.now)
    (λ (made : Structured). KeepsOff c.args.selector c.args.graph.nodes → HasSelectors c.args.selector made)
    (λ made is off. (made_has_shape _ _ _ _ c.requires.some c.requires.plain off
    (is_made _ _ c.requires (are_known at.In_ok-blocks) _ (are_cuts at.In_ok-cuts) _ _ made (are_after at.After-rest_after) is)).1) c.structure_of.ensures

pub returns-clause-short : goal.returns-clause-short
returns-clause-short c =
    let at = goal.at.returns-clause-short c in
    IfOk-weaker c.structure_of.result (IsUnitText c.args.graph.nodes c.in_ok-blocks.blocks c.args.selector c.rest_after.result.now)
    (λ (made : Structured). IsShort c.args.graph.nodes made)
    (λ made is. made_is_short _ _ _ _ c.requires.plain
    (is_made _ _ c.requires (are_known at.In_ok-blocks) _ (are_cuts at.In_ok-cuts) _ _ made (are_after at.After-rest_after) is)) c.structure_of.ensures

pub returns-clause-once : goal.returns-clause-once
returns-clause-once c =
    let at = goal.at.returns-clause-once c in
    IfOk-weaker c.structure_of.result (IsUnitText c.args.graph.nodes c.in_ok-blocks.blocks c.args.selector c.rest_after.result.now)
    (λ (made : Structured). HasEachOnce c.args.graph.nodes made.body)
    (λ made is. made_has_each_once _ _ _ _ c.requires.plain
    (is_made _ _ c.requires (are_known at.In_ok-blocks) _ (are_cuts at.In_ok-cuts) _ _ made (are_after at.After-rest_after) is)) c.structure_of.ensures

pub returns-clause-low : goal.returns-clause-low
returns-clause-low c =
    let at = goal.at.returns-clause-low c in
    IfOk-weaker c.structure_of.result (IsUnitText c.args.graph.nodes c.in_ok-blocks.blocks c.args.selector c.rest_after.result.now)
    (λ (made : Structured). IsLow c.args.graph.nodes made)
    (λ made is. is_low _ _ made (made_is_region _ _ _ _ c.requires.some c.requires.few c.requires.plain
    (is_made _ _ c.requires (are_known at.In_ok-blocks) _ (are_cuts at.In_ok-cuts) _ _ made (are_after at.After-rest_after) is))) c.structure_of.ensures
