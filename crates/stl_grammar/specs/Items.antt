-- The items of a source. What may be at a place of a text, and why it is refused where it fits no form.
-- Held against: this project's own source form.
use Rattle.std.specs.Prelude.{ℕ, zero, suc, Bool, true, false, not, ◌-◌, ◌&&◌, ◌||◌, nat_lt, if◌then◌else◌, List, [], ◌∷◌, length, take, codes, Option, Some, None, Result, Ok, Err}
use Rattle.std.specs.List.{prefix_len}
use Rattle.s7_base.specs.declared.reason.Kind.{Kind}
use Rattle.s7_base.specs.declared.reason.Kind.TheVariants.{SystemCall, UserType}
use Rattle.s7_base.specs.declared.reason.Line.{Line}
use Rattle.s7_base.specs.declared.reason.Reason.{Reason}
use Rattle.s7_base.specs.declared.reason.Reason.TheVariants.{BadStatement, Unsupported}
use Rattle.s7_base.specs.declared.reason.Rejection.{Rejection}
use Rattle.s7_base.specs.declared.reason.Rejection.TheVariants.{Refused, NoMemory}
use Rattle.s7_base.specs.declared.token.Token.{Token}
use Rattle.stl_statement_grammar.specs.BlockNames.{has_number, name_at}
use Rattle.stl_statement_grammar.specs.Statements.{instruction_of}
use Rattle.stl_statement_grammar.specs.Words.{is_word, is_sign}
use Rattle.stl_statement_grammar.specs.declared.mnemonic.Read.{Read}
use Rattle.stl_statement_grammar.specs.declared.mnemonic.Read.TheVariants as read
use Rattle.stl_grammar.specs.Declarations.{declaration_at, ends_level, is_user_type, left_of, levels_behind}
use Rattle.stl_statement_grammar.specs.Lists.{begins_with_sign, begins_with_word}
use Rattle.stl_grammar.specs.Initials.{ending_at, path_value_at}
use Rattle.stl_grammar.specs.declared.declaration.Level.{Level}
use Rattle.stl_grammar.specs.declared.declaration.Section.{Section}
use Rattle.stl_grammar.specs.declared.declaration.Section.TheVariants as part
use Rattle.stl_grammar.specs.declared.declaration.Written.{Written}
use Rattle.stl_grammar.specs.Headings.{heading_kind, is_skipped, opened_by, size_on}
use Rattle.stl_grammar.specs.Sections.{section_at}
use Rattle.stl_grammar.specs.Symbols.{ends_table, symbol_behind}
use Rattle.stl_grammar.specs.declared.item.NextItem.{NextItem}
use Rattle.stl_grammar.specs.declared.item.NextItem.TheVariants.{Fits, Misfit, Ended}
use Rattle.stl_grammar.specs.declared.item.Item.{Item}
use Rattle.stl_grammar.specs.declared.item.Item.TheVariants.{Mark, Starts, Symbol, Declares, InstanceOf, Closes, Instr, Initial, Ends}
use Rattle.stl_grammar.specs.declared.item.Where.{Where}
use Rattle.stl_grammar.specs.declared.item.Where.TheVariants.{Start, Table, Between, Heading, Inside, Behind, Body, Values}
use Rattle.stl_tree.specs.declared.raw.BlockKind.{BlockKind}
use Rattle.stl_tree.specs.declared.raw.BlockKind.TheVariants as block
use Rattle.stl_tree.specs.declared.raw.InitialItem.{InitialItem}
use Rattle.stl_tree.specs.declared.raw.RawInitial.{RawInitial}
use Rattle.stl_tree.specs.declared.raw.RawInstr.{RawInstr}
use Rattle.stl_tree.specs.declared.raw.RawName.{RawName}
use Rattle.stl_tree.specs.declared.raw.SymbolLine.{SymbolLine}

-- the token is `;`
abbrev pub is_semicolon : Token → Bool
is_semicolon token = is_sign (codes ";") token

-- the end word of a kind of block
abbrev pub end_word : BlockKind → List ℕ
end_word block.Ob = codes "END_ORGANIZATION_BLOCK"
end_word block.Fc = codes "END_FUNCTION"
end_word block.Fb = codes "END_FUNCTION_BLOCK"
end_word block.Db = codes "END_DATA_BLOCK"

-- a block of this kind is a data block
abbrev pub is_data : BlockKind → Bool
is_data block.Db = true
is_data other = false

-- the token is the end word of a block of this kind
abbrev pub is_end : BlockKind → Token → Bool
is_end kind token = is_word (end_word kind) token

-- What is refused

-- how many tokens come before the next `;`, or before the end of the text
abbrev pub statement_size : List Token → ℕ
statement_size tokens = prefix_len (λ token. not (is_semicolon token)) tokens

-- the statement at the front reaches its `;`
abbrev pub is_complete : List Token → Bool
is_complete tokens = nat_lt (statement_size tokens) (length tokens)

-- the tokens of the statement at the front, without its `;`
abbrev pub statement_at : List Token → List Token
statement_at tokens = take (statement_size tokens) tokens

-- why an item that fits no form is refused where a heading may come: a user-defined type is not supported
abbrev pub heading_reason : List Token → Reason
heading_reason tokens = if begins_with_word (codes "TYPE") tokens then Unsupported UserType else BadStatement

-- why what comes after the heading of a data block is refused, where its STRUCT or its function block may stand
abbrev pub data_reason : List Token → Reason
data_reason [] = BadStatement
data_reason (first ∷ rest) =
    if is_user_type first rest then Unsupported UserType
    else if has_number (codes "SFB") first rest then Unsupported SystemCall
    else BadStatement

-- why a statement is refused that has a form of a kind that is not supported: its kind where it is complete
abbrev pub left_out_reason : List Token → Kind → Reason
left_out_reason tokens kind = if is_complete tokens then Unsupported kind else BadStatement

-- why what comes after the heading of a block of a kind is refused
abbrev pub behind_reason : BlockKind → List Token → Reason
behind_reason block.Db tokens = data_reason tokens
behind_reason kind tokens = BadStatement

-- why an item is refused by what was read of it: a kind that is not supported, else `BadStatement`
abbrev pub read_reason : {A : Type 0} → List Token → Read A → Reason
read_reason tokens (read.LeftOut kind) = left_out_reason tokens kind
read_reason tokens other = BadStatement

-- the line of a STRUCT whose end does not fit, or that of the token
abbrev pub level_line : List Level → Token → Line
level_line [] first = first.line
level_line (level ∷ levels) first = if is_word (codes "END_STRUCT") first then level.line else first.line

-- the line of an item that fits no form
abbrev pub misfit_line : Where → Token → Line
misfit_line (Inside kind section levels) first = level_line levels first
misfit_line elsewhere first = first.line

-- Forms

-- the heading at a place where another item may come too, given the first token there and the rest
abbrev pub heading_at : NextItem → Token → List Token → NextItem
heading_at other first rest = opened_by (heading_kind first) other first rest

-- the symbol table, where one may open before the first block
abbrev pub table_at : List Token → Token → NextItem
table_at tokens first =
    if is_word (codes "SYMBOL_TABLE") first then Fits Mark 0 (Table first.line)
    else Misfit first.line (heading_reason tokens)

-- a line of the symbol table, if there is one
abbrev pub symbol_found : Token → Option SymbolLine → NextItem
symbol_found first None = Misfit first.line BadStatement
symbol_found first (Some its) = Fits (Symbol its) 6 (Table first.line)

-- the item in the symbol table after a line
abbrev pub in_table : Line → Token → List Token → NextItem
in_table line first rest =
    if ends_table line first rest then Fits Mark 0 Between else symbol_found first (symbol_behind line first rest)

-- the token is the BEGIN of a block's body after its heading; in a data block only declarations may come there
abbrev pub begins_body : BlockKind → Token → Bool
begins_body kind first = not (is_data kind) && is_word (codes "BEGIN") first

-- a section that opens, if one does
abbrev pub section_found : BlockKind → Reason → Token → Option Section → NextItem
section_found kind reason first None = Misfit first.line reason
section_found kind reason first (Some section) = Fits (Starts section) 0 (Inside kind section [])

-- the function block of a data block, by what was read of its name, or a section
abbrev pub instance_or : Read RawName → NextItem → NextItem
instance_or (read.Fits name size) other = Fits (InstanceOf name) (size - 1) (Behind block.Db part.Own)
instance_or none other = other

-- a data block's function block: `FB 1` or a name in quotes
abbrev pub instance_found : BlockKind → List Token → NextItem → NextItem
instance_found block.Db tokens other = instance_or (name_at (codes "FB") tokens) other
instance_found kind tokens other = other

-- the item after a heading whose last line this is
abbrev pub behind_heading : BlockKind → Line → List Token → Token → List Token → NextItem
behind_heading kind line tokens first rest =
    if is_skipped line first rest then Fits Mark (size_on first.line rest) (Heading kind first.line)
    else if begins_body kind first then Fits Mark 0 (Body kind)
    else instance_found kind tokens
    (section_found kind (behind_reason kind tokens) first (section_at kind None first))

-- the end of the innermost STRUCT, which is on a line, by what was read after its word
abbrev pub struct_found : BlockKind → Section → Line → List Level → List Token → Read (List InitialItem) → NextItem
struct_found kind section line levels tokens (read.Fits items size) =
    Fits (Closes items) size (Inside kind section levels)
struct_found kind section line levels tokens other = Misfit line (read_reason tokens other)

-- the end of a section, given its word and what follows it: after the STRUCT of a data block comes `;`
abbrev pub section_end_found : BlockKind → Section → Token → List Token → NextItem
section_end_found kind part.Own first rest =
    if begins_with_sign (codes ";") rest then Fits Mark 1 (Behind kind part.Own) else Misfit first.line BadStatement
section_end_found kind section first rest = Fits Mark 0 (Behind kind section)

-- the item at a place where the innermost STRUCT or the section ends with its word
abbrev pub closing_at : BlockKind → Section → List Level → List Token → Token → List Token → NextItem
closing_at kind section [] tokens first rest = section_end_found kind section first rest
closing_at kind section (level ∷ levels) tokens first rest =
    struct_found kind section level.line levels tokens (ending_at kind section level.in_array rest)

-- a declaration of this many tokens after its name
abbrev pub declaration_item : BlockKind → Section → List Level → Token → Written → ℕ → NextItem
declaration_item kind section levels first type size =
    Fits (Declares first.text first.line type) size
    (Inside kind section (levels_behind levels first.line type.innermost (length type.arrays)))

-- a declaration by what was read of it
abbrev pub declaration_found : BlockKind → Section → List Level → List Token → Token → Read Written → NextItem
declaration_found kind section levels tokens first (read.Fits type size) =
    declaration_item kind section levels first type size
declaration_found kind section levels tokens first other = Misfit first.line (read_reason tokens other)

-- the item at a place among declarations
abbrev pub inside_at : BlockKind → Section → List Level → List Token → Token → List Token → NextItem
inside_at kind section levels tokens first rest =
    if ends_level section levels first
    then closing_at kind section levels tokens first rest
    else declaration_found kind section levels tokens first (declaration_at kind section (left_of levels) first rest)

-- the place of the body of a block
abbrev pub body_of : BlockKind → Where
body_of block.Db = Values
body_of kind = Body kind

-- the item after a section
abbrev pub behind_at : BlockKind → Section → Token → NextItem
behind_at kind section first =
    if is_word (codes "BEGIN") first
    then Fits Mark 0 (body_of kind)
    else section_found kind BadStatement first (section_at kind (Some section) first)

-- an initial value of a data block, by what was read
abbrev pub value_found : List Token → Token → Read RawInitial → NextItem
value_found tokens first (read.Fits value size) = Fits (Initial value) (size - 1) Values
value_found tokens first other = Misfit first.line (read_reason tokens other)

-- the item among the initial values of a data block
abbrev pub values_at : List Token → Token → NextItem
values_at tokens first =
    if is_end block.Db first
    then Fits (Ends first.line) 0 Between
    else value_found tokens first (path_value_at first.line tokens)

-- a complete statement on a line, by what it is read as, with its `;` after this many tokens
abbrev pub statement_found : Where → List Token → Line → Result RawInstr Rejection → NextItem
statement_found place tokens line (Ok instr) = Fits (Instr instr) (statement_size tokens) place
statement_found place tokens line (Err (Refused its_line reason)) = Misfit line reason
statement_found place tokens line (Err NoMemory) = Misfit line BadStatement

-- the statement at a place
abbrev pub statement_from : Where → Line → List Token → NextItem
statement_from place line tokens =
    if is_complete tokens
    then statement_found place tokens line (instruction_of (statement_at tokens))
    else Misfit line BadStatement

-- a token is skipped in a body: an empty statement or `NETWORK`
abbrev pub is_skipped_alone : Token → Bool
is_skipped_alone token = is_semicolon token || is_word (codes "NETWORK") token

-- the item at a place in a body
abbrev pub body_at : BlockKind → List Token → Token → NextItem
body_at kind tokens first =
    if is_skipped_alone first then Fits Mark 0 (Body kind)
    else if is_end kind first then Fits (Ends first.line) 0 Between
    else statement_from (Body kind) first.line tokens

-- The items of a text

-- the line where a text ends among declarations: that of the innermost STRUCT, which is cut off
abbrev pub cut_line : Line → List Level → Line
cut_line end [] = end
cut_line end (level ∷ levels) = level.line

-- what is found at a place where the tokens of the text have ended, on a line: a block must be complete, and so must
-- a STRUCT
abbrev pub at_end : Line → Where → NextItem
at_end end Start = Ended
at_end end (Table line) = Misfit end BadStatement
at_end end Between = Ended
at_end end (Heading kind line) = Misfit end BadStatement
at_end end (Inside kind section levels) = Misfit (cut_line end levels) BadStatement
at_end end (Behind kind section) = Misfit end BadStatement
at_end end (Body kind) = Misfit end BadStatement
at_end end Values = Misfit end BadStatement

-- the item at a place, given the tokens from there, the first of them and the rest
abbrev pub at_token : Where → List Token → Token → List Token → NextItem
at_token Start tokens first rest = heading_at (table_at tokens first) first rest
at_token (Table line) tokens first rest = in_table line first rest
at_token Between tokens first rest = heading_at (Misfit first.line (heading_reason tokens)) first rest
at_token (Heading kind line) tokens first rest = behind_heading kind line tokens first rest
at_token (Inside kind section levels) tokens first rest = inside_at kind section levels tokens first rest
at_token (Behind kind section) tokens first rest = behind_at kind section first
at_token (Body kind) tokens first rest = body_at kind tokens first
at_token Values tokens first rest = values_at tokens first

-- what is found at a place of a text that ends on a line, given the tokens from there
unfoldable pub item_at : Line → Where → List Token → NextItem
item_at end place [] = at_end end place
item_at end place (first ∷ rest) = at_token place (first ∷ rest) first rest

-- an item before others
abbrev pub prepend_item : Item → Result (List Item) Rejection → Result (List Item) Rejection
prepend_item item (Ok items) = Ok (item ∷ items)
prepend_item item (Err refused) = Err refused

-- the items from a place on, given what is found there and the items after the tokens that it takes; the first misfit
-- is named
abbrev pub with_found : NextItem → (ℕ → Where → Result (List Item) Rejection) → Result (List Item) Rejection
with_found (Fits item size next) behind = prepend_item item (behind size next)
with_found (Misfit line reason) behind = Err (Refused line reason)
with_found Ended behind = Ok []

-- the items from a place on, of a text that ends on a line; `skip` tokens still belong to the item before
abbrev pub items_from : Line → ℕ → Where → List Token → Result (List Item) Rejection
items_from end skip place [] = with_found (item_at end place []) (λ size next. Ok [])
items_from end (suc skip) place (first ∷ rest) = items_from end skip place rest
items_from end zero place (first ∷ rest) =
    with_found (item_at end place (first ∷ rest)) (λ size next. items_from end size next rest)

-- the items of a text
abbrev pub items_of : Line → List Token → Result (List Item) Rejection
items_of end tokens = items_from end 0 Start tokens
