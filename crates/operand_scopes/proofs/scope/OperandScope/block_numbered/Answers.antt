use Rattle.std.proofs.Common.{slice_get, ap, ◌∙◌}
use Rattle.operand_scopes.proofs.Blocks.{lent_at}
use Rattle.stl_rules.specs.Raw.{OperandScope}
use Rattle.operand_scopes.proofs.scope.OperandScope.block_numbered.Goals as goal

pub returns-in-Some : goal.returns-in-Some
returns-in-Some c =
    let place = c.in-Some.place in
    let blocks = c.self.inside.blocks.now in
    let are = c.self.invariant.1 ∙ ap (λ (s : OperandScope). s.text.blocks) c.self.view_is in
    lent_at blocks place c.get.result c.get.ensures.lookup ∙ ap (λ l. slice_get l place) are ∙ c.in-Some.ensures.lookup
