use Rattle.std.proofs.Common.{◌∙◌, ap}
use Rattle.std.specs.List.{find}
use Rattle.stl_statement_grammar.specs.Mnemonics.{mnemonic_at, stands_at}
use Rattle.stl_mnemonics.specs.inner.LowBits.{rows_by}
use Rattle.stl_mnemonics.proofs.LowBitsLaws.{found_by_token}
use Rattle.stl_mnemonics.proofs.table.mnemonic_at.Goals as goal

pub returns : goal.returns
unfolding mnemonic_at
returns c =
    c.first_row.ensures ∙ ap (find (stands_at c.args.tokens.now)) (c.rows_by.ensures ∙ ap rows_by c.first_bits.ensures) ∙ found_by_token c.args.tokens.now
