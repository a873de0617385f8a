-- The source of the demo. It has as many networks as asked for, a hundred to a function, and a block that calls each
-- function once. A network adds 1 to a word of memory, or jumps over that by a bit of memory.
-- Held against: this project's own commands.
use Rattle.std.specs.Prelude.{ℕ, ◌+◌, ◌-◌, ◌*◌, ◌/◌, ◌%◌, ◌==◌, if◌then◌else◌, List, [], ◌∷◌, ◌++◌, codes, decimal, flat_map, min}
use Rattle.std.specs.List.{range_with_len}

-- Operands

-- the bit that a network tests, in one of 4,000 bytes
abbrev pub bit_text : ℕ → List ℕ
bit_text network = codes "M " ++ decimal (network % 4000) ++ codes ".0"

-- the word that a network adds to, one of 2,000
abbrev pub word_text : ℕ → List ℕ
word_text network = codes "MW " ++ decimal (4000 + 2 * (network % 2000))

-- the label of a network, with two digits: there are a hundred networks in a function
abbrev pub label_text : ℕ → List ℕ
label_text network = 76 ∷ (48 + network % 100 / 10) ∷ (48 + network % 10) ∷ []

-- Networks

-- the operation of the test: an odd network asks for 0
abbrev pub test_word : ℕ → List ℕ
test_word network = if network % 2 == 0 then codes "A " else codes "AN "

-- `A M 0.0;` or `AN M 1.0;`
abbrev pub test_line : ℕ → List ℕ
test_line network = test_word network ++ bit_text network ++ codes ";\n"

-- `JCN L00;`
abbrev pub jump_line : ℕ → List ℕ
jump_line network = codes "JCN " ++ label_text network ++ codes ";\n"

-- `L MW 4000;`, `L 1;`, `+I;` and `T MW 4000;`
abbrev pub sum_lines : ℕ → List ℕ
sum_lines network =
    codes "L " ++ word_text network ++ codes ";\nL 1;\n+I;\nT " ++ word_text network ++ codes ";\n"

-- `L00: NOP 0;`
abbrev pub target_line : ℕ → List ℕ
target_line network = label_text network ++ codes ": NOP 0;\n"

-- the lines of a network, by its number
abbrev pub network_text : ℕ → List ℕ
network_text network = test_line network ++ jump_line network ++ sum_lines network ++ target_line network

-- Blocks

-- the networks of a function, by its number and how many networks there are: a hundred, or those that are left
abbrev pub networks_of : ℕ → ℕ → List ℕ
networks_of networks function =
    let first = 100 * (function - 1) in range_with_len first (min 100 (networks - first))

-- the lines of a function
abbrev pub function_text : ℕ → ℕ → List ℕ
function_text networks function =
    codes "FUNCTION FC " ++ decimal function ++ codes " : VOID\nBEGIN\n"
    ++ flat_map network_text (networks_of networks function) ++ codes "END_FUNCTION\n"

-- the line that calls a function
abbrev pub call_line : ℕ → List ℕ
call_line function = codes "CALL FC " ++ decimal function ++ codes ";\n"

-- the numbers of the functions, from 1 on
abbrev pub functions_of : ℕ → List ℕ
functions_of networks = range_with_len 1 ((networks + 99) / 100)

-- the source of so many networks
abbrev pub demo_source : ℕ → List ℕ
demo_source networks =
    flat_map (function_text networks) (functions_of networks)
    ++ codes "ORGANIZATION_BLOCK OB 1\nBEGIN\n"
    ++ flat_map call_line (functions_of networks) ++ codes "END_ORGANIZATION_BLOCK\n"
