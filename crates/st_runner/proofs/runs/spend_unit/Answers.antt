use Rattle.st_tree.proofs.Common.{suc, sym, ap, ◌∙◌, calls_to}
use Rattle.st_runner.proofs.Common.{end_at, state_of, At}
use Rattle.st_runner.proofs.runs.spend_unit.Goals as goal

pub returns-in-Test-clause-meaning : goal.returns-in-Test-clause-meaning
returns-in-Test-clause-meaning c = λ u.
    let tree = c.args.tree.now in
    c.spend_test.ensures.spend_unit.meaning u
    ∙ ap (λ (a : At). end_at tree.globals (calls_to (suc u) tree) c.args.work.now.items a (suc u) (state_of c.args.state.now)) (sym c.in-Test.is)
