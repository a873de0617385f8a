use Rattle.std.proofs.Common.{◌≡◌, sym, subst}
use Rattle.std.proofs.lemmas.Result.{IfOk-weaker}
use Rattle.condition_laws.proofs.Elsif.{all_have_elsif}
use Rattle.condition_laws.proofs.Shapes.{no_larger}
use Rattle.condition_laws.proofs.Whole.{keeps_heads, runs_alike, stays_proper}
use Rattle.condition_laws.specs.Elsif.{AllHaveElsif}
use Rattle.condition_laws.specs.Kept.{KeepsHeads}
use Rattle.condition_laws.specs.NoLarger.{HasNoLarger}
use Rattle.condition_laws.specs.SameRuns.{RunsAlike}
use Rattle.condition_laws.specs.inner.Rewriting.{rewrite_program}
use Rattle.st_tree.specs.Proper.{Proper}
use Rattle.st_tree.specs.declared.program.StProgram.{StProgram}
use Rattle.st_conditions.proofs.program.with_conditions.Goals as goal

pub returns-clause-proper : goal.returns-clause-proper
returns-clause-proper c =
    IfOk-weaker c.rewrite_program.result (λ (new : StProgram). new ≡ rewrite_program c.args.tree) Proper
    (λ new e. subst Proper (sym e) (stays_proper c.args.tree c.requires)) c.rewrite_program.ensures

pub returns-clause-same : goal.returns-clause-same
returns-clause-same c =
    let tree = c.args.tree in
    IfOk-weaker c.rewrite_program.result (λ (new : StProgram). new ≡ rewrite_program tree) (λ (new : StProgram). RunsAlike tree new)
    (λ new e. subst (λ (new : StProgram). RunsAlike tree new) (sym e) (runs_alike tree c.requires)) c.rewrite_program.ensures

pub returns-clause-kept : goal.returns-clause-kept
returns-clause-kept c =
    let tree = c.args.tree in
    IfOk-weaker c.rewrite_program.result (λ (new : StProgram). new ≡ rewrite_program tree) (λ (new : StProgram). KeepsHeads tree new)
    (λ new e. subst (λ (new : StProgram). KeepsHeads tree new) (sym e) (keeps_heads tree)) c.rewrite_program.ensures

pub returns-clause-shape : goal.returns-clause-shape
returns-clause-shape c =
    let tree = c.args.tree in
    IfOk-weaker c.rewrite_program.result (λ (new : StProgram). new ≡ rewrite_program tree) (λ (new : StProgram). HasNoLarger tree new)
    (λ new e. subst (λ (new : StProgram). HasNoLarger tree new) (sym e) (no_larger tree)) c.rewrite_program.ensures

pub returns-clause-elsif : goal.returns-clause-elsif
returns-clause-elsif c =
    IfOk-weaker c.rewrite_program.result (λ (new : StProgram). new ≡ rewrite_program c.args.tree) AllHaveElsif
    (λ new e. subst AllHaveElsif (sym e) (all_have_elsif c.args.tree)) c.rewrite_program.ensures
