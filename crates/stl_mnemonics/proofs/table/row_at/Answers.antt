use Rattle.std.proofs.Common.{◌∙◌, ◌||◌, sym}
use Rattle.s7_base.specs.Tokens.{is_same_word}
use Rattle.stl_statement_grammar.specs.Mnemonics.{goes_on}
use Rattle.stl_statement_grammar.specs.Words.{is_sign_kind, is_word_kind}
use Rattle.stl_mnemonics.specs.declared.table.Row.{Row}
use Rattle.stl_constants.proofs.Tables.{find_refused}
use Rattle.stl_mnemonics.proofs.table.row_at.Goals as goal

pub returns-else-is_word_or_sign : goal.returns-else-is_word_or_sign
returns-else-is_word_or_sign c =
    let kind = c.args.first.now.kind in
    find_refused (is_word_kind kind || is_sign_kind kind)
    (λ (row : Row). is_same_word c.args.first.now.text row.0.now) (λ (row : Row). goes_on row.1.now c.args.rest.now)
    c.args.table.now (sym c.is_word_or_sign.ensures ∙ c.if-is_word_or_sign.false)
