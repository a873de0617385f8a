use Rattle.std.proofs.Common.{◌∙◌, ap, Option}
use Rattle.std.specs.Prelude.{option_map}
use Rattle.stl_statement_grammar.specs.Mnemonics.{stands_at}
use Rattle.stl_mnemonics.specs.declared.table.Row.{Row}
use Rattle.stl_mnemonics.specs.Rows.{view}
use Rattle.stl_constants.proofs.Tables.{find_map}
use Rattle.stl_mnemonics.proofs.table.first_row.Goals as goal

pub returns : goal.returns
returns c = ap (λ (o : Option Row). option_map view o) c.row_found.ensures ∙ find_map view (stands_at c.args.tokens.now) c.args.table.now
