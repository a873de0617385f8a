use Rattle.std.proofs.Common.{◌≡◌, subst, sym}
use Rattle.std.specs.Prelude.{IfSome}
use Rattle.name_tables.proofs.Places.{kind_found}
use Rattle.stl_tree.specs.declared.raw.BlockKind.TheVariants as block
use Rattle.stl_tree.specs.declared.raw.RawBlock.{RawBlock}
use Rattle.operand_scopes.proofs.scope.OperandScope.given_in_instance.Goals as goal

pub given_in_instance-requires : goal.given_in_instance-requires
given_in_instance-requires c =
    subst (λ o. IfSome o (λ (raw : RawBlock). raw.kind ≡ block.Fb)) (sym c.in-Some.ensures)
    (kind_found c.args.self.now.text block.Fb c.in_ok-fb.fb)
