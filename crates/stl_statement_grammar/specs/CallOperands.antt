-- The operands of calls. A call names its block, the data block of an instance where it has one, and what it gives to
-- the formals.
-- Held against: the manual's chapter 'Program Control'.
use Rattle.std.specs.Prelude.{Bool, true, false, not, ◌&&◌, ◌||◌, if◌then◌else◌, List, [], ◌∷◌, codes, Option, Some, None}
use Rattle.s7_base.specs.declared.reason.Kind.{Kind}
use Rattle.s7_base.specs.declared.reason.Kind.TheVariants as kind
use Rattle.s7_base.specs.declared.token.Token.{Token}
use Rattle.stl_statement_grammar.specs.BlockNames.{has_number, name_at}
use Rattle.stl_statement_grammar.specs.Constants.{truth_at}
use Rattle.stl_statement_grammar.specs.Lists.{begins_with_sign, elements_from}
use Rattle.stl_statement_grammar.specs.LocatedOperands.{any_constant_at, located_at, place_operand}
use Rattle.stl_statement_grammar.specs.Paths.{named_at}
use Rattle.stl_statement_grammar.specs.Readers.{and_then, further, or_else, read_as}
use Rattle.stl_statement_grammar.specs.Words.{is_quoted_kind, is_sign, is_word, is_word_kind}
use Rattle.stl_statement_grammar.specs.declared.mnemonic.Read.{Read}
use Rattle.stl_statement_grammar.specs.declared.mnemonic.Read.TheVariants.{Fits, LeftOut, No}
use Rattle.stl_tree.specs.declared.raw.BlockKind.{BlockKind}
use Rattle.stl_tree.specs.declared.raw.BlockKind.TheVariants as block
use Rattle.stl_tree.specs.declared.raw.RawActual.{RawActual, roll-RawActual}
use Rattle.stl_tree.specs.declared.raw.RawCall.{RawCall, roll-RawCall}
use Rattle.stl_tree.specs.declared.raw.RawName.{RawName}
use Rattle.stl_tree.specs.declared.raw.RawOperand.{RawOperand}
use Rattle.stl_tree.specs.declared.raw.RawOperand.TheVariants.{At, Call, Constant, Local, Named}

-- Actuals

-- what is given to a formal: a constant, a place, or a name
abbrev pub actual_value_at : List Token → Read RawOperand
actual_value_at tokens =
    or_else (read_as Constant (truth_at tokens))
    (or_else (any_constant_at tokens) (or_else (read_as At (place_operand tokens)) (named_at tokens)))

-- an actual, by the token that names its formal
abbrev pub actual : Token → RawOperand → RawActual
actual name value = roll-RawActual (record { formal = name.text; line = name.line; value = value })

-- an actual: the name of its formal, `:=`, and what is given to it
abbrev pub actual_at : List Token → Read RawActual
actual_at [] = No
actual_at (name ∷ []) = No
actual_at (name ∷ assign ∷ rest) =
    if is_word_kind name.kind && is_sign (codes ":=") assign
    then further 2 (read_as (actual name) (actual_value_at rest))
    else No

-- actuals and the bracket after them
abbrev pub actuals_behind : List Token → Read (List RawActual)
actuals_behind tokens = elements_from actual_at (codes ")") 0 tokens

-- the actuals of a call: none, or some in brackets
abbrev pub actuals_at : List Token → Read (List RawActual)
actuals_at [] = Fits [] 0
actuals_at (before ∷ rest) = if is_sign (codes "(") before then further 1 (actuals_behind rest) else No

-- Calls

-- a block that is called, the data block of its instance where it has one, and its actuals
abbrev pub called : BlockKind → RawName → Option RawName → List RawActual → RawCall
called kind name db actuals = roll-RawCall (record { kind = kind; block = name; db = db; actuals = actuals })

-- a call of a function
abbrev pub function_call : RawName → List RawActual → RawOperand
function_call name actuals = Call (called block.Fc name None actuals)

-- a call of a function block with its instance
abbrev pub instance_call : RawName → RawName → List RawActual → RawOperand
instance_call name db actuals = Call (called block.Fb name (Some db) actuals)

-- the actuals after the name of a function
abbrev pub function_behind : RawName → List Token → Read RawOperand
function_behind name tokens = read_as (function_call name) (actuals_at tokens)

-- `FC 1`, or a name in quotes, and its actuals
abbrev pub function_at : List Token → Read RawOperand
function_at tokens = and_then tokens (name_at (codes "FC") tokens) function_behind

-- the data block after the comma
abbrev pub instance_at : List Token → Read RawName
instance_at [] = No
instance_at (comma ∷ rest) = if is_sign (codes ",") comma then further 1 (name_at (codes "DB") rest) else No

-- the data block and the actuals after the name of a function block
abbrev pub instance_behind : RawName → List Token → Read RawOperand
instance_behind name tokens =
    and_then tokens (instance_at tokens) (λ db rest. read_as (instance_call name db) (actuals_at rest))

-- `FB 1, DB 2`, where names in quotes may stand, and its actuals
abbrev pub instance_call_at : List Token → Read RawOperand
instance_call_at tokens = and_then tokens (name_at (codes "FB") tokens) instance_behind

-- Calls that are not supported

-- the tokens begin with a block of the system: `SFC 20` or `SFB 4`
abbrev pub is_of_system : List Token → Bool
is_of_system [] = false
is_of_system (first ∷ rest) = has_number (codes "SFC") first rest || has_number (codes "SFB") first rest

-- what is left out because of its kind, or nothing
abbrev pub left_out_if : Bool → Kind → Read RawOperand
left_out_if true kind = LeftOut kind
left_out_if false kind = No

-- a block of the system
abbrev pub system_at : List Token → Read RawOperand
system_at tokens = left_out_if (is_of_system tokens) kind.SystemCall

-- an instance that is a variable of its block: `#motor`
abbrev pub is_variable : Read RawOperand → Bool
is_variable (Fits (Local path) size) = true
is_variable other = false

abbrev pub variable_at : List Token → Read RawOperand
variable_at tokens = left_out_if (is_variable (named_at tokens)) kind.MultiInstance

-- the tokens begin with a name in quotes
abbrev pub begins_quoted : List Token → Bool
begins_quoted [] = false
begins_quoted (first ∷ rest) = is_quoted_kind first.kind

-- the tokens begin with a function block, by its number, its name or a number in memory
abbrev pub is_function_block : Token → List Token → Bool
is_function_block first rest =
    has_number (codes "FB") first rest
    || (is_word (codes "FB") first && (begins_quoted rest || begins_with_sign (codes "[") rest))

-- the tokens begin with a function block, or with a number in memory, alone or as that of a function
abbrev pub is_indirect_block : List Token → Bool
is_indirect_block [] = false
is_indirect_block (first ∷ rest) =
    is_function_block first rest || (is_word (codes "FC") first && begins_with_sign (codes "[") rest)
    || is_sign (codes "[") first

-- the operand is a name of the symbol table
abbrev pub is_symbol : RawOperand → Bool
is_symbol (Named name) = true
is_symbol other = false

-- what was read as a place or a name, where a block must be named by its number or its symbol
abbrev pub left_out_place : Read RawOperand → Read RawOperand
left_out_place No = No
left_out_place (LeftOut kind) = LeftOut kind
left_out_place (Fits operand size) = left_out_if (not (is_symbol operand)) kind.IndirectBlock

-- a block whose number is found at run time, which UC and CC may name
abbrev pub indirect_block_at : List Token → Read RawOperand
indirect_block_at tokens =
    or_else (left_out_if (is_indirect_block tokens) kind.IndirectBlock) (left_out_place (located_at tokens))

-- Operands

-- the operand of CALL
abbrev pub called_at : List Token → Read RawOperand
called_at tokens =
    or_else (system_at tokens)
    (or_else (variable_at tokens) (or_else (function_at tokens) (instance_call_at tokens)))

-- a function without actuals
abbrev pub function_alone : RawName → RawOperand
function_alone name = function_call name []

-- the operand of UC and CC: a function without actuals
abbrev pub called_alone_at : List Token → Read RawOperand
called_alone_at tokens =
    or_else (system_at tokens)
    (or_else (indirect_block_at tokens) (read_as function_alone (name_at (codes "FC") tokens)))
