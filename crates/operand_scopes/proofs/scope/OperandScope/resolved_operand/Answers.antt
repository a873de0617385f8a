use Rattle.std.proofs.Common.{◌≡◌, IfOk, subst, sym, ap, ◌∙◌}
use Rattle.stl_tree.specs.declared.raw.RawOperand.TheVariants as operand
use Rattle.operand_scopes.proofs.Operands.{in_block}
use Rattle.operand_scopes.proofs.scope.OperandScope.resolved_operand.Goals as goal

pub returns-in-InBlock : goal.returns-in-InBlock
returns-in-InBlock c =
    let name = c.as_slice-in-InBlock.result.now in
    let path = c.as_slice-in-InBlock-2.result.now in
    let is : c.args.operand.now ≡ operand.InBlock name path
    = c.in-InBlock.is
    ∙ ap (λ n. operand.InBlock n c.in-InBlock.path) (sym c.as_slice-in-InBlock.ensures)
    ∙ ap (operand.InBlock name) (sym c.as_slice-in-InBlock-2.ensures) in
    subst (λ v. IfOk c.given_in_block.result (λ g. g ≡ v)) (in_block c.args.self.now c.args.operand.now name path is) c.given_in_block.ensures
