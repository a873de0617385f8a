use Rattle.std.proofs.Common.{◌∙◌, ◌++◌, ℕ, List, ap, codes, flat_map}
use Rattle.s7_demo.specs.Demo.{call_line, function_text, functions_of}
use Rattle.s7_demo.proofs.Sizes.{is_short}
use Rattle.s7_demo.proofs.source.demo_source.Goals as goal

pub returns-clause-within : goal.returns-clause-within
returns-clause-within c =
    is_short c.args.networks c.put_text-2.new.out.items c.requires (
    c.in_ok-put_text-2.ensures
    ∙ ap (λ (t : List ℕ). t ++ codes "END_ORGANIZATION_BLOCK\n") (
    c.in_ok-put_calls.ensures
    ∙ ap (λ (t : List ℕ). t ++ flat_map call_line (functions_of c.args.networks)) (
    c.in_ok-put_text.ensures
    ∙ ap (λ (t : List ℕ). t ++ codes "ORGANIZATION_BLOCK OB 1\nBEGIN\n") (
    c.in_ok-put_functions.ensures
    ∙ ap (λ (t : List ℕ). t ++ flat_map (function_text c.args.networks) (functions_of c.args.networks)) c.in_ok-text.ensures.items
    )
    )
    )
    )
