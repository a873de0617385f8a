use Rattle.std.proofs.Common.{List, sym, ap, ◌∙◌}
use Rattle.call_operands.proofs.Calls.{is_known, rule_made}
use Rattle.stl_rules.specs.Names.{block_number}
use Rattle.stl_tree.specs.declared.raw.RawCall.{out-RawCall}
use Rattle.stl_tree.specs.declared.raw.RawProgram.{RawProgram}
use Rattle.stl_tree.specs.declared.raw.SymbolLine.{SymbolLine}
use Rattle.call_operands.proofs.call.rule_of_call.Goals as goal

pub returns-in-None-Ok : goal.returns-in-None-Ok
returns-in-None-Ok c =
    c.rule_of_mnemonic.ensures
    ∙ rule_made c.args.scope.now c.args.call.now c.args.what c.is_bare.result (sym c.in-None-Ok.is-0 ∙ c.in_ok-least.ensures) c.is_bare.ensures

pub returns : goal.returns
returns c =
    let call = out-RawCall c.args.call.now in
    let symbols = c.symbols.ensures ∙ ap (λ (t : RawProgram). t.symbols) c.names.ensures in
    absurd
    (is_known c.args.scope.now call c.in-None-Err.rule
    (sym c.in-None-Err.is-1 ∙ c.in_ok-number.ensures ∙ ap (λ (all : List SymbolLine). block_number all call.kind call.block) symbols)
    (sym c.in-None-Err.is-0 ∙ c.in_ok-least.ensures))
