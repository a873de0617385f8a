use Rattle.std.proofs.Common.{sym, ap, ◌∙◌}
use Rattle.stl_rules.specs.Names.{block_number}
use Rattle.stl_tree.specs.declared.raw.BlockKind.TheVariants as block
use Rattle.symbol_names.proofs.FunctionBlocks.{found_kind, instance_bytes, instance_first}
use Rattle.symbol_names.proofs.instances.fill_instance.Goals as goal

pub fill_found-requires : goal.fill_found-requires
fill_found-requires c = found_kind c.args.names.now c.in_ok-number.number c.function_block-found.result c.function_block-found.ensures

pub returns-clause-first : goal.returns-clause-first
returns-clause-first c =
    instance_first c.args.names.now c.in_ok-number.number c.function_block-found.result c.function_block-found.ensures c.args.name.now c.args.d.now.line
    c.args.d.now.initial c.as_slice.result.now c.is_some.result c.note_function_block.new.first c.in_ok-filled.filled.first c.join.new.first
    (c.in_ok-number.ensures ∙ ap (λ s. block_number s block.Fb c.args.name.now) c.symbols.ensures) c.as_slice.ensures c.is_some.ensures
    c.note_function_block.ensures c.in_ok-filled.ensures.first c.join.ensures

pub returns-clause-bytes : goal.returns-clause-bytes
returns-clause-bytes c keep =
    instance_bytes c.args.names.now c.in_ok-number.number c.function_block-found.result c.function_block-found.ensures c.args.name.now
    c.args.d.now.initial c.as_slice.result.now c.in_ok-filled.filled.bytes
    (c.in_ok-number.ensures ∙ ap (λ s. block_number s block.Fb c.args.name.now) c.symbols.ensures) c.as_slice.ensures (c.in_ok-filled.ensures.bytes keep)
