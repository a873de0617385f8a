use Rattle.std.proofs.Common.{◌&&◌, ◌==◌, length, sym, ap, ◌∙◌}
use Rattle.call_operands.proofs.Calls.{is_bare as by_parts, none_from}
use Rattle.stl_rules.specs.Calls.{formals_called}
use Rattle.stl_rules.specs.Names.{block_numbered}
use Rattle.stl_tree.specs.declared.raw.RawCall.{out-RawCall}
use Rattle.call_operands.proofs.call.is_bare.Goals as goal

pub returns-else-is_none : goal.returns-else-is_none
returns-else-is_none c =
    let scope = c.args.scope.now in
    let call = out-RawCall c.args.call.now in
    c.if-is_none.false
    ∙ ap (λ b. b && (length (formals_called (block_numbered scope.text call.kind c.args.number)) == 0))
    (sym c.if-is_none.false ∙ none_from call.db c.is_none.result c.is_none.ensures)
    ∙ by_parts scope call c.args.number c.requires.number c.requires.rules
