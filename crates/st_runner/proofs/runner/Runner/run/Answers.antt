use Rattle.st_tree.proofs.Common.{◌≡◌, ◌+◌, sym, ap, subst, ◌∙◌, arith, End, calls_to}
use Rattle.s7_base.specs.declared.outcome.Outcome.{Outcome}
use Rattle.st_runner.proofs.Common.{Shows, state_of, end_at, outcome_of}
use Rattle.st_runner.specs.Standing.{Standing, end_within}
use Rattle.st_runner.proofs.Opening.{end_same, settled_shows}
use Rattle.st_runner.proofs.runner.Runner.run.Goals as goal

pub returns-clause-later : goal.returns-clause-later
returns-clause-later c = λ j.
    let tree = c.self.inside.tree.now in
    let n = c.args.k + j in
    sym (end_same tree.globals (calls_to j tree) c.go.new.work.items c.go.new.at j (state_of c.go.new.state))
    ∙ c.go.ensures.later j
    ∙ end_same tree.globals (calls_to n tree) c.self.inside.work.items c.self.inside.at n (state_of c.self.inside.state)
    ∙ ap (λ (s : Standing). end_within s n) c.self.view_is

pub returns-clause-outcome : goal.returns-clause-outcome
returns-clause-outcome c =
    let tree = c.self.inside.tree.now in
    let n = c.args.k + 0 in
    let areas = c.go.new.state.memory.areas in
    let none : c.args.k + 0 ≡ c.args.k = omega arith in
    let e : end_at tree.globals (calls_to 0 tree) c.go.new.work.items c.go.new.at 0 (state_of c.go.new.state) ≡ end_within c.args.self.now c.args.k =
    c.go.ensures.later 0
    ∙ end_same tree.globals (calls_to n tree) c.self.inside.work.items c.self.inside.at n (state_of c.self.inside.state)
    ∙ ap (λ (s : Standing). end_within s n) c.self.view_is
    ∙ ap (end_within c.args.self.now) none in
    subst (λ (o : Outcome). Shows o (end_within c.args.self.now c.args.k) areas) (sym c.outcome_of.ensures)
    (subst (λ (x : End). Shows (outcome_of c.go.new.at) x areas) e
    (settled_shows tree c.go.new.work.items c.go.new.at (state_of c.go.new.state) c.go.ensures.settle))
