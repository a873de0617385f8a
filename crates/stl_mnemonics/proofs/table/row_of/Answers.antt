use Rattle.std.proofs.Common.{◌∙◌, ap}
use Rattle.std.specs.List.{find}
use Rattle.stl_statement_grammar.specs.Mnemonics.{has_name}
use Rattle.stl_mnemonics.specs.inner.LowBits.{rows_by}
use Rattle.stl_mnemonics.proofs.LowBitsLaws.{found_by_name}
use Rattle.stl_mnemonics.proofs.table.row_of.Goals as goal

pub returns : goal.returns
returns c =
    c.row_named.ensures ∙ ap (find (has_name c.args.name.now)) (c.rows_by.ensures ∙ ap rows_by c.low_bits.ensures) ∙ found_by_name c.args.name.now
