-- The lines of the table of mnemonics by the first byte of a name.
use Rattle.std.specs.Prelude.{ℕ, ◌==◌, ◌%◌, List, [], ◌∷◌}
use Rattle.std.specs.List.{filter}
use Rattle.s7_base.specs.declared.token.Token.{Token}
use Rattle.stl_statement_grammar.specs.Mnemonics.{Row, rows}

-- the low five bits of the first byte, which are those of the letter in the other case too
abbrev pub low_bits : List ℕ → ℕ
low_bits [] = 0
low_bits (b ∷ rest) = b % 32

-- those of the first token, by which the lines are chosen with which tokens may begin
abbrev pub first_bits : List Token → ℕ
first_bits [] = 0
first_bits (first ∷ rest) = low_bits first.text

-- the table, which no proof computes but where it says so
unfoldable pub table : List Row
table = rows

-- the lines of the table whose first part begins with a byte of these low bits
unfoldable pub rows_by : ℕ → List Row
rows_by bits = filter (λ row. low_bits row.first == bits) table
