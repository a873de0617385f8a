-- The headings of blocks. The name of a block, the type of a function's result, and the lines after them that are
-- skipped.
-- Held against: this project's own source form.
use Rattle.std.specs.Prelude.{ℕ, ◌-◌, Bool, false, ◌==◌, ◌&&◌, ◌||◌, nat_lt, if◌then◌else◌, List, [], ◌∷◌, drop, codes, Option, Some, None}
use Rattle.std.specs.List.{prefix_len}
use Rattle.s7_base.specs.declared.reason.Kind.{Kind}
use Rattle.s7_base.specs.declared.reason.Kind.TheVariants as kind
use Rattle.s7_base.specs.declared.reason.Line.{Line}
use Rattle.s7_base.specs.declared.reason.Reason.TheVariants.{BadStatement, Unsupported}
use Rattle.s7_base.specs.declared.token.Token.{Token}
use Rattle.stl_grammar.specs.Declarations.{elementary_type, type_kind}
use Rattle.stl_grammar.specs.declared.item.NextItem.{NextItem}
use Rattle.stl_grammar.specs.declared.item.NextItem.TheVariants.{Fits, Misfit}
use Rattle.stl_grammar.specs.declared.item.Item.TheVariants.{Opens}
use Rattle.stl_grammar.specs.declared.item.Where.TheVariants.{Heading}
use Rattle.stl_statement_grammar.specs.BlockNames.{kind_word, name_at}
use Rattle.stl_statement_grammar.specs.Readers.{and_then, further, read_as}
use Rattle.stl_statement_grammar.specs.Words.{is_sign, is_word, is_word_among}
use Rattle.stl_statement_grammar.specs.declared.mnemonic.Read.{Read}
use Rattle.stl_statement_grammar.specs.declared.mnemonic.Read.TheVariants as read
use Rattle.stl_tree.specs.declared.raw.BlockKind.{BlockKind}
use Rattle.stl_tree.specs.declared.raw.BlockKind.TheVariants as block
use Rattle.stl_tree.specs.declared.raw.ElemType.{ElemType}
use Rattle.stl_tree.specs.declared.raw.RawName.{RawName}

-- Headings

-- the line of the token at the front, or else this one
abbrev pub line_of : Line → List Token → Line
line_of line [] = line
line_of line (first ∷ rest) = first.line

-- the kind of a block without a type, by the first word of its heading
abbrev pub heading_kind : Token → Option BlockKind
heading_kind first =
    if is_word (codes "ORGANIZATION_BLOCK") first then Some block.Ob
    else if is_word (codes "FUNCTION_BLOCK") first then Some block.Fb
    else if is_word (codes "DATA_BLOCK") first then Some block.Db
    else None

-- the heading of a block by its name
abbrev pub block_heading : BlockKind → Token → List Token → Read RawName → NextItem
block_heading kind first rest (read.Fits name size) =
    Fits (Opens first.line kind name None) size (Heading kind (line_of first.line (drop (size - 1) rest)))
block_heading kind first rest other = Misfit first.line BadStatement

-- Functions

-- the type of a function that gives no result, or an elementary type
abbrev pub result_or : Option ElemType → Token → Option (Option ElemType)
result_or (Some type) word = Some (Some type)
result_or None word = if is_word (codes "VOID") word then Some None else None

-- the kind of a function's type that is not supported
abbrev pub result_kind : Token → List Token → Option Kind
result_kind word rest = if is_word (codes "DATE_AND_TIME") word then Some kind.DateTime else type_kind word rest

abbrev pub result_read : Option (Option ElemType) → Option Kind → Read (Option ElemType)
result_read (Some result) left_out = read.Fits result 1
result_read None (Some kind) = read.LeftOut kind
result_read None None = read.No

-- the type of a function's result
abbrev pub result_at : List Token → Read (Option ElemType)
result_at [] = read.No
result_at (word ∷ rest) =
    result_read (result_or (elementary_type word) word) (result_kind word rest)

-- a colon and the type of a function's result
abbrev pub result_behind : List Token → Read (Option ElemType)
result_behind [] = read.No
result_behind (colon ∷ rest) = if is_sign (codes ":") colon then further 1 (result_at rest) else read.No

-- the name of a function and the type of its result
abbrev pub function_at : List Token → Read (RawName × Option ElemType)
function_at tokens =
    and_then tokens (name_at (codes "FC") tokens) (λ name rest. read_as (λ result. (name, result)) (result_behind rest))

-- the heading of a function
abbrev pub function_heading : Token → List Token → Read (RawName × Option ElemType) → NextItem
function_heading first rest (read.Fits of size) =
    Fits (Opens first.line block.Fc of.0 of.1) size (Heading block.Fc (line_of first.line (drop (size - 1) rest)))
function_heading first rest (read.LeftOut kind) = Misfit first.line (Unsupported kind)
function_heading first rest read.No = Misfit first.line BadStatement

-- the heading of a block by its first word, or something else where that is none
abbrev pub opened_by : Option BlockKind → NextItem → Token → List Token → NextItem
opened_by (Some kind) other first rest = block_heading kind first rest (name_at (kind_word kind) rest)
opened_by None other first rest =
    if is_word (codes "FUNCTION") first then function_heading first rest (function_at rest) else other

-- Lines that are skipped

-- the token is on a line after this one
abbrev pub is_behind : Line → Token → Bool
is_behind line token = nat_lt line.0 token.line.0

-- the token is on the line
abbrev pub is_on : Line → Token → Bool
is_on line token = token.line.0 == line.0

-- how many tokens at the front are on the line
abbrev pub size_on : Line → List Token → ℕ
size_on line tokens = prefix_len (is_on line) tokens

-- the tokens begin with a colon on the line
abbrev pub has_colon : Line → List Token → Bool
has_colon line [] = false
has_colon line (colon ∷ rest) = is_sign (codes ":") colon && is_on line colon

-- the words of a line that is skipped, where a colon follows them
abbrev pub titles : List (List ℕ)
titles = codes "AUTHOR" ∷ codes "FAMILY" ∷ codes "NAME" ∷ codes "VERSION" ∷ []

-- the words of a line that is skipped, where they are alone
abbrev pub attributes : List (List ℕ)
attributes = codes "KNOW_HOW_PROTECT" ∷ codes "CODE_VERSION1" ∷ codes "NON_RETAIN" ∷ []

-- a line that is skipped begins here, after another line
abbrev pub is_skipped : Line → Token → List Token → Bool
is_skipped line first rest =
    is_behind line first
    && ((is_word_among titles first && has_colon first.line rest) || is_word_among attributes first)
