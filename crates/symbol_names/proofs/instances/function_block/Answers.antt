use Rattle.std.proofs.Common.{sym, ap, ◌∙◌}
use Rattle.stl_rules.specs.Names.{block_found}
use Rattle.stl_tree.specs.declared.raw.BlockKind.TheVariants as block
use Rattle.symbol_names.proofs.FunctionBlocks.{at_place}
use Rattle.symbol_names.proofs.instances.function_block.Goals as goal

pub returns-in-Ok : goal.returns-in-Ok
returns-in-Ok c =
    at_place c.args.names.now c.in-Ok.number c.blocks-in-Ok.result.now c.place_of.result c.args.blocks.now c.block_at.result c.blocks-in-Ok.ensures
    c.place_of.ensures c.requires c.block_at.ensures
    ∙ sym (ap (block_found c.args.names.now block.Fb) c.in-Ok.is)
