use Rattle.st_tree.proofs.Common.{◌≡◌, ℕ, Bor, List, Result, Err, refl, sym, ap, subst, ◌∙◌, rules, Fault, Calls, Faults, body_meaning, State}
use Rattle.std.specs.Prelude.{MatchResult}
use Rattle.st_runner.proofs.Common.{state_of, Stmt}
use Rattle.st_runner.specs.inner.Begun.{HasBegun}
use Rattle.st_runner.proofs.Begun.{none_begun, one_faults, one_more}
use Rattle.st_runner.proofs.Frames.{sound_running}
use Rattle.st_runner.proofs.state.State.assign_first.Goals as goal

pub loop-stmt-init : goal.loop-stmt-init
loop-stmt-init c = (none_begun c.args.globals.now c.args.body.now (state_of c.args.self.now), λ l f h. h, refl)

pub assign-requires-clause-running : goal.assign-requires-clause-running
assign-requires-clause-running c =
    let some = c.requires.sound in
    sound_running some.0 some.1 c.loop-stmt.self (c.loop-stmt.invariant.1 some.0 some.1 some.2)

pub loop-stmt-preserved : goal.loop-stmt-preserved
loop-stmt-preserved c =
    let t = state_of c.loop-stmt.self in
    let w = state_of c.assign.new.self in (
      one_more c.args.globals.now c.args.body.now c.loop-stmt.rest.now c.in-Some.behind.now c.in-Some.stmt.now c.in-Assign.var c.in-Assign.e
          (state_of c.args.self.now) t w c.loop-stmt.invariant.0 c.in-Some.ensures.cases.0 c.in-Assign.is c.in_ok-assign.ensures.change,
      λ l f h. c.assign.ensures.sound l f (c.loop-stmt.invariant.1 l f h),
      c.assign.ensures.same ∙ c.loop-stmt.invariant.2,
    )

pub returns-in_err-assign-clause-begun : goal.returns-in_err-assign-clause-begun
returns-in_err-assign-clause-begun c =
    let g = c.args.globals.now in
    let body = c.args.body.now in
    let s = state_of c.args.self.now in
    let t = state_of c.loop-stmt.self in
    let w = state_of c.assign.new.self in
    let f = c.in_err-assign.field-0.0 in
    let failed : c.from_residual.result ≡ Err f = search rules in
    let change = c.in_err-assign.ensures.change in
    subst (λ (r : Result (Bor (List Stmt)) Fault). MatchResult r (λ rest. HasBegun g body rest.now s w)
    (λ fault. (calls : Calls) (u : ℕ) → body_meaning g calls body u s ≡ Faults fault w)) (sym failed)
    (λ calls u. one_faults g body c.loop-stmt.rest.now c.in-Some.behind.now c.in-Some.stmt.now c.in-Assign.var c.in-Assign.e s t f
    c.loop-stmt.invariant.0 c.in-Some.ensures.cases.0 c.in-Assign.is change.0 calls u ∙ ap (λ (x : State). Faults f x) (sym change.1))

pub returns-in_err-assign-clause-sound : goal.returns-in_err-assign-clause-sound
returns-in_err-assign-clause-sound c = λ l f h. c.assign.ensures.sound l f (c.loop-stmt.invariant.1 l f h)
