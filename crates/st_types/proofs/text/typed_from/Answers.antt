use Rattle.st_tree.proofs.Common.{◌≡◌, sym, ap, ◌∙◌, subst, None, first_of_all}
use Rattle.call_chains.specs.Chain.{Graph}
use Rattle.st_rules.specs.Typed.{first_break, named, IsChainRefused}
use Rattle.st_types.proofs.Refusals.{refused_by_chain}
use Rattle.st_types.proofs.text.typed_from.Goals as goal

pub returns-in-Some-clause-refused : goal.returns-in-Some-clause-refused
returns-in-Some-clause-refused c =
    named {line = c.in-Some.first.line} {rule = c.in-Some.first.rule}
    (ap first_of_all (sym (c.as_slice.ensures ∙ c.in_ok-judged.ensures.breaks)) ∙ sym c.first_of_all.ensures ∙ c.in-Some.is)

pub returns-in-Err-clause-refused : goal.returns-in-Err-clause-refused
returns-in-Err-clause-refused c =
    let sound : first_break c.args.raw.now ≡ None =
    ap first_of_all (sym (c.as_slice.ensures ∙ c.in_ok-judged.ensures.breaks)) ∙ sym c.first_of_all.ensures ∙ c.in_default.is in
    let calls = c.as_slice-2.ensures ∙ c.in_ok-judged.ensures.calls in
    let units = c.as_slice-3.ensures in
    refused_by_chain c.args.raw.now c.in-Err.refusal sound
    (subst (λ (g : Graph). IsChainRefused g c.args.raw.now.pous c.in-Err.refusal) calls
    (subst (λ us. IsChainRefused c.as_slice-2.result.now us c.in-Err.refusal) units c.in-Err.ensures.err))
