use Rattle.std.proofs.Common.{◌≡◌, ◌∙◌, ◌+◌, ◌≤◌, ◌∷◌, ◌++◌, [], List, ℕ, length, sym, ap, subst, arith}
use Rattle.std.proofs.lemmas.List.{length-drop}
use Rattle.s7_base.specs.declared.token.Token.{Token}
use Rattle.stl_statement_grammar.specs.Paths.{step_at}
use Rattle.stl_statement_grammar.specs.Readers.{TakesSome, all_items}
use Rattle.stl_statement_grammar.specs.declared.mnemonic.Read.{Read}
use Rattle.stl_statement_grammar.specs.declared.mnemonic.Read.TheVariants.{Fits}
use Rattle.stl_tree.specs.declared.raw.PathStep.{PathStep}
use Rattle.stl_places.proofs.Repeated.{before, item_done}
use Rattle.stl_places.proofs.path.steps_behind.Goals as goal

pub loop-steps-preserved : goal.loop-steps-preserved
loop-steps-preserved c =
    let done : List PathStep = c.loop-steps.steps in
    let rest : List Token = c.loop-steps.rest.now in
    let taken : ℕ = c.loop-steps.taken in
    let step : PathStep = c.in-Fits.step in
    let size : ℕ = c.in-Fits.size in
    let read : step_at rest ≡ Fits step size = sym c.in_ok-step.ensures.value ∙ c.in-Fits.is in
    let within : (1 ≤ size) × (size ≤ length rest) = subst (λ (r : Read PathStep). TakesSome (length rest) r) c.in-Fits.is c.in_ok-step.ensures.within in
    record {
      within =
          omega
          (arith, length-drop size rest, ap (λ (ts : List Token). length ts) c.rest_after-rest.ensures, c.loop-steps.invariant.within, within.0, within.1);
      same =
          ap (λ (all : List PathStep). before all (taken + size) (all_items step_at 0 c.rest_after-rest.result.now)) c.in_ok-push-2.ensures.ok
          ∙ ap (λ (ts : List Token). before (done ++ step ∷ []) (taken + size) (all_items step_at 0 ts)) c.rest_after-rest.ensures
          ∙ item_done step_at done taken rest step size read within.0 within.1
          ∙ c.loop-steps.invariant.same;
    }
