use Rattle.std.proofs.Common.{◌≡◌, [], ◌∙◌}
use Rattle.std.proofs.lemmas.Result.{IfOk-weaker}
use Rattle.graph_texts.specs.Heads.{KeepHeads}
use Rattle.region_laws.specs.SameRuns.{SameAsGraph}
use Rattle.region_types.specs.ProperLaw.{HasProperTexts}
use Rattle.region_types.proofs.ProperTexts.{text_is_proper, text_is_right}
use Rattle.st_tree.specs.Proper.{Proper}
use Rattle.st_tree.specs.declared.program.StProgram.{StProgram}
use Rattle.graph_texts.proofs.Heads.{keep_heads}
use Rattle.graph_texts.proofs.Shapes.{units_leave}
use Rattle.graph_texts.proofs.text.text_of_graph.Goals as goal

pub tree_of-requires-clause-next : goal.tree_of-requires-clause-next
tree_of-requires-clause-next c = units_leave c.args.graph c.requires

pub returns-clause-proper : goal.returns-clause-proper
returns-clause-proper c =
    let graph = c.args.graph in
    IfOk-weaker c.tree_of.result (HasProperTexts graph) Proper (λ tree t. text_is_proper graph tree c.requires t) c.tree_of.ensures.texts

pub returns-clause-same : goal.returns-clause-same
returns-clause-same c =
    let graph = c.args.graph in
    IfOk-weaker c.tree_of.result (HasProperTexts graph) (λ (tree : StProgram). SameAsGraph graph tree)
    (λ tree t. text_is_right graph tree c.requires t) c.tree_of.ensures.texts

pub returns-clause-heads : goal.returns-clause-heads
returns-clause-heads c =
    let graph = c.args.graph in
    IfOk-weaker c.tree_of.result (HasProperTexts graph) (λ (tree : StProgram). KeepHeads graph.pous tree.pous)
    (λ tree t. keep_heads graph.pous tree.pous c.requires.units t.units) c.tree_of.ensures.texts

pub returns-clause-globals : goal.returns-clause-globals
returns-clause-globals c =
    IfOk-weaker c.tree_of.result (HasProperTexts c.args.graph) (λ (tree : StProgram). tree.globals ≡ [])
    (λ tree t. t.globals ∙ c.requires.globals) c.tree_of.ensures.texts
