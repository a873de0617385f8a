-- Initial values as they are written. They are constants or lists of them; also what ends a declaration, and the
-- values in the body of a data block.
-- Held against: this project's own source form.
use Rattle.std.specs.Prelude.{ℕ, Bool, ◌&&◌, nat_lt, if◌then◌else◌, List, [], ◌∷◌, drop, codes, Option, Some, None, option_and_then}
use Rattle.s7_base.specs.declared.reason.Line.{Line}
use Rattle.s7_base.specs.declared.token.Token.{Token}
use Rattle.s7_base.specs.declared.word.Width.TheVariants as width
use Rattle.stl_statement_grammar.specs.Lists.{begins_with_sign, elements_from}
use Rattle.stl_grammar.specs.Sections.{takes_values}
use Rattle.stl_grammar.specs.declared.declaration.Section.{Section}
use Rattle.stl_statement_grammar.specs.Constants.{constant, constant_at, truth_at}
use Rattle.stl_statement_grammar.specs.Paths.{path_at}
use Rattle.stl_statement_grammar.specs.Pointers.{is_in_reach, pointer_at, value_of}
use Rattle.stl_statement_grammar.specs.Readers.{and_then, fitting, further, number_in, or_else, read_as}
use Rattle.stl_statement_grammar.specs.Words.{is_sign}
use Rattle.stl_statement_grammar.specs.declared.mnemonic.Read.{Read}
use Rattle.stl_statement_grammar.specs.declared.mnemonic.Read.TheVariants.{Fits, No}
use Rattle.stl_tree.specs.declared.raw.BlockKind.{BlockKind}
use Rattle.stl_tree.specs.declared.raw.Constant.{Constant}
use Rattle.stl_tree.specs.declared.raw.InitialItem.{InitialItem}
use Rattle.stl_tree.specs.declared.raw.PathStep.{PathStep}
use Rattle.stl_tree.specs.declared.raw.RawInitial.{RawInitial}
use Rattle.stl_tree.specs.declared.raw.RawPointer.{RawPointer}

-- Constants

-- a pointer, which has a byte and a bit that pointers have
abbrev pub pointer_value : RawPointer → Option Constant
pointer_value p = if is_in_reach p then Some (constant width.Dword (value_of p)) else None

abbrev pub pointer_of : Read RawPointer → Read Constant
pointer_of (Fits p size) = fitting size (pointer_value p)
pointer_of other = No

-- the initial value at a place
abbrev pub value_at : List Token → Read Constant
value_at tokens = or_else (truth_at tokens) (or_else (constant_at tokens) (pointer_of (pointer_at tokens)))

-- Lists

-- values and their count
abbrev pub times : ℕ → List Constant → InitialItem
times count values = record { count = count; values = values }

-- a value without a count
abbrev pub once : Constant → InitialItem
once value = times 1 (value ∷ [])

-- the count of values in brackets: from 1 to 65,535
abbrev pub count_of : Token → Option ℕ
count_of word = option_and_then (λ n. if nat_lt 0 n then Some n else None) (number_in 65535 word)

-- values and the bracket after them
abbrev pub values_at : List Token → Read (List Constant)
values_at tokens = elements_from value_at (codes ")") 0 tokens

-- values after their count and their bracket
abbrev pub group_behind : Option ℕ → List Token → Read InitialItem
group_behind None tokens = No
group_behind (Some count) tokens = read_as (times count) (values_at tokens)

-- a value, or values in brackets: `2 (7, 8)`
abbrev pub item_of_list : List Token → Read InitialItem
item_of_list [] = No
item_of_list (first ∷ rest) =
    if begins_with_sign (codes "(") rest
    then further 2 (group_behind (count_of first) (drop 1 rest))
    else read_as once (value_at (first ∷ rest))

-- a list and `;`
abbrev pub list_at : List Token → Read (List InitialItem)
list_at tokens = elements_from item_of_list (codes ";") 0 tokens

-- Ends of declarations

-- a value, if `;` follows it
abbrev pub closed_value : Constant → List Token → Read Constant
closed_value value tokens = if begins_with_sign (codes ";") tokens then Fits value 1 else No

-- a value and `;`
abbrev pub last_value : List Token → Read Constant
last_value tokens = and_then tokens (value_at tokens) closed_value

-- a list of one value
abbrev pub alone : Constant → List InitialItem
alone value = once value ∷ []

-- the initial value of a declaration and `;`: a list where it has an array around it
abbrev pub initial_at : Bool → List Token → Read (List InitialItem)
initial_at in_array tokens =
    if in_array then list_at tokens else read_as alone (last_value tokens)

-- what ends a declaration of a section in a block of a kind: `;`, and where it may have an initial value, `:=` and the
-- value before it
abbrev pub ending_at : BlockKind → Section → Bool → List Token → Read (List InitialItem)
ending_at kind section in_array [] = No
ending_at kind section in_array (sign ∷ rest) =
    if is_sign (codes ";") sign then Fits [] 1
    else if takes_values kind section && is_sign (codes ":=") sign then further 1 (initial_at in_array rest)
    else No

-- Initial values of a data block

-- the initial value at a path
abbrev pub initial : Line → List PathStep → Constant → RawInitial
initial line path value = record { path = path; line = line; value = value }

-- what follows a path in the body of a data block: `:=` and an initial value
abbrev pub initial_behind : Line → List PathStep → List Token → Read RawInitial
initial_behind line path [] = No
initial_behind line path (sign ∷ rest) =
    if is_sign (codes ":=") sign then further 1 (read_as (initial line path) (last_value rest)) else No

-- an initial value of a data block by its path: `path := value ;`
abbrev pub path_value_at : Line → List Token → Read RawInitial
path_value_at line tokens = and_then tokens (path_at tokens) (initial_behind line)
