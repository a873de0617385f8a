use Rattle.std.proofs.Common.{◌≡◌, ◌<◌, List, [], ◌∷◌, length, None, sym, arith}
use Rattle.std.specs.List.{find}
use Rattle.s7_base.specs.declared.token.Token.{Token}
use Rattle.status_word.specs.declared.test.Test.{Test}
use Rattle.stl_statement_grammar.specs.Statements.{is_asked}
use Rattle.stl_constants.proofs.Tables.{find_none}
use Rattle.stl_instructions.proofs.operand.first_asked.Goals as goal

none_asked : (tokens : List Token) (table : List Test) → length tokens < 1 → None ≡ find (λ test. is_asked tokens test) table
none_asked [] table h = sym (find_none table)
none_asked (first ∷ rest) table h = absurd (omega arith)

pub returns-in-empty : goal.returns-in-empty
returns-in-empty c = none_asked c.args.tokens.now c.args.table.now c.in-empty.len_below
