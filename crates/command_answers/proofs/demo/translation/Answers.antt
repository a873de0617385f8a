use Rattle.std.proofs.Common.{List, ℕ, subst}
use Rattle.st_parser.specs.Texts.{IsTextOf, IsRefusedText}
use Rattle.command_answers.proofs.DemoRuns.{never_refused, same_read}
use Rattle.command_answers.proofs.demo.translation.Goals as goal

pub returns-in-Ok-clause-same : goal.returns-in-Ok-clause-same
returns-in-Ok-clause-same c =
    same_read c.args.program.now c.in_ok-tree.tree c.in-Ok.tree c.in_ok-text.text.items
    c.in_ok-tree.ensures.proper c.in_ok-tree.ensures.same c.in_ok-text.ensures
    (subst (λ (bytes : List ℕ). IsTextOf bytes c.in-Ok.tree) c.as_slice.ensures.value c.in-Ok.ensures.tree)

pub unreachable-requires : goal.unreachable-requires
unreachable-requires c =
    let refused : IsRefusedText c.as_slice.result.now c.in-Err-Refused.field-0-0 c.in-Err-Refused.field-0-1 =
    rw c.in-Err-Refused.field-0-is at c.in-Err-Refused.ensures.refused in
    never_refused c.in_ok-tree.tree c.in_ok-text.text.items c.in-Err-Refused.field-0-0 c.in-Err-Refused.field-0-1
    c.in_ok-tree.ensures.proper c.in_ok-text.ensures
    (subst (λ (bytes : List ℕ). IsRefusedText bytes c.in-Err-Refused.field-0-0 c.in-Err-Refused.field-0-1) c.as_slice.ensures.value refused)
