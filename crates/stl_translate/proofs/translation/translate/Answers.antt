use Rattle.std.proofs.Common.{List, subst, sym}
use Rattle.std.specs.Prelude.{All}
use Rattle.std.proofs.lemmas.Result.{IfOk-weaker}
use Rattle.condition_laws.specs.NoLarger.{HasNoLarger}
use Rattle.st_polish.specs.Names.{KeepsNames}
use Rattle.st_polish.specs.SameRuns.{RunsAsBefore}
use Rattle.st_tree.specs.declared.program.StProgram.{StProgram}
use Rattle.stl_tree.specs.Accepted.{IsSymbol}
use Rattle.stl_tree.specs.declared.program.Symbol.{Symbol}
use Rattle.stl_translate.specs.Named.{Named}
use Rattle.stl_translate.specs.Same.{Same}
use Rattle.stl_translate.specs.Shape.{Shape}
use Rattle.stl_translate.proofs.Names.{named_whole}
use Rattle.stl_translate.proofs.Polished.{if_both, named_polished, same_polished, shape_polished}
use Rattle.stl_translate.proofs.Shapes.{shape_whole}
use Rattle.stl_translate.proofs.Text.{same_whole}
use Rattle.stl_translate.proofs.translation.translate.Goals as goal

pub polish-requires-clause-symbols : goal.polish-requires-clause-symbols
polish-requires-clause-symbols c = subst (All IsSymbol) (sym c.as_slice.ensures) c.requires.symbols

pub returns-clause-same : goal.returns-clause-same
returns-clause-same c =
    let program = c.args.program.now in
    let graph = c.in_ok-graph.graph in
    let text = c.in_ok-text.text in
    IfOk-weaker c.polish.result (λ (tree : StProgram). RunsAsBefore text tree) (λ (tree : StProgram). Same program tree)
    (λ tree before.
    same_polished program text tree (same_whole program graph text c.in_ok-graph.ensures.same c.in_ok-text.ensures.same) before)
    c.polish.ensures.same

pub returns-clause-named : goal.returns-clause-named
returns-clause-named c =
    let program = c.args.program.now in
    let graph = c.in_ok-graph.graph in
    let text = c.in_ok-text.text in
    IfOk-weaker c.polish.result (λ (tree : StProgram). KeepsNames c.as_slice.result.now text tree) (λ (tree : StProgram). Named program tree)
    (λ tree names.
    named_polished program text tree (named_whole program graph text c.in_ok-graph.ensures.same c.in_ok-text.ensures.heads)
    (subst (λ (symbols : List Symbol). KeepsNames symbols text tree) c.as_slice.ensures names))
    c.polish.ensures.names

pub returns-clause-shape : goal.returns-clause-shape
returns-clause-shape c =
    let program = c.args.program.now in
    let graph = c.in_ok-graph.graph in
    let text = c.in_ok-text.text in
    if_both c.polish.result (λ (tree : StProgram). KeepsNames c.as_slice.result.now text tree) (λ (tree : StProgram). HasNoLarger text tree)
    (λ (tree : StProgram). Shape program tree)
    (λ tree names less.
    shape_polished program text tree (shape_whole program graph text c.in_ok-graph.ensures.same c.in_ok-text.ensures.shape) names.units
    less)
    c.polish.ensures.names c.polish.ensures.shape
