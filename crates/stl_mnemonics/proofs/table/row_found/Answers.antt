use Rattle.std.proofs.Common.{◌≡◌, ◌<◌, List, [], ◌∷◌, length, None, sym, arith}
use Rattle.std.specs.List.{find}
use Rattle.s7_base.specs.declared.token.Token.{Token}
use Rattle.stl_statement_grammar.specs.Mnemonics.{stands_at}
use Rattle.stl_mnemonics.specs.declared.table.Row.{Row}
use Rattle.stl_mnemonics.specs.Rows.{view}
use Rattle.stl_constants.proofs.Tables.{find_none}
use Rattle.stl_mnemonics.proofs.table.row_found.Goals as goal

none_stands : (tokens : List Token) (table : List Row) → length tokens < 1 → None ≡ find (λ row. stands_at tokens (view row)) table
none_stands [] table h = sym (find_none table)
none_stands (first ∷ rest) table h = absurd (omega arith)

pub returns-in-empty : goal.returns-in-empty
returns-in-empty c = none_stands c.args.tokens.now c.args.table.now c.in-empty.len_below
