-- Declarations as they are written. A declaration is a name, a type with its arrays and STRUCTs, initial values, and
-- what ends them.
-- Held against: this project's own source form.
use Rattle.std.specs.Prelude.{ℕ, zero, suc, ◌+◌, ◌-◌, ℤ, Bool, true, false, ◌&&◌, ◌||◌, nat_lt, if◌then◌else◌, List, [], ◌∷◌, length, drop, codes, Option, Some, None}
use Rattle.std.specs.Option.{option_or}
use Rattle.s7_base.specs.declared.reason.Kind.{Kind}
use Rattle.s7_base.specs.declared.reason.Kind.TheVariants as kind
use Rattle.s7_base.specs.declared.reason.Line.{Line}
use Rattle.s7_base.specs.declared.token.Token.{Token}
use Rattle.stl_statement_grammar.specs.Lists.{begins_with_word, elements_from}
use Rattle.stl_grammar.specs.Initials.{ending_at}
use Rattle.stl_grammar.specs.declared.declaration.Innermost.{Innermost}
use Rattle.stl_grammar.specs.declared.declaration.Innermost.TheVariants as inner
use Rattle.stl_grammar.specs.declared.declaration.Level.{Level}
use Rattle.stl_grammar.specs.Sections.{end_of_section, is_formal, takes_dates}
use Rattle.stl_grammar.specs.declared.declaration.Section.{Section}
use Rattle.stl_grammar.specs.declared.declaration.Written.{Written}
use Rattle.stl_statement_grammar.specs.Paths.{whole_at}
use Rattle.stl_statement_grammar.specs.Readers.{further, read_as}
use Rattle.stl_statement_grammar.specs.BlockNames.{has_number}
use Rattle.stl_statement_grammar.specs.Words.{is_word, is_sign, is_word_kind, is_word_among}
use Rattle.stl_statement_grammar.specs.declared.mnemonic.Read.{Read}
use Rattle.stl_statement_grammar.specs.declared.mnemonic.Read.TheVariants.{Fits, LeftOut, No}
use Rattle.stl_tree.specs.declared.raw.BlockKind.{BlockKind}
use Rattle.stl_tree.specs.declared.raw.ElemType.{ElemType}
use Rattle.stl_tree.specs.declared.raw.ElemType.TheVariants as elem
use Rattle.stl_tree.specs.declared.raw.InitialItem.{InitialItem}

-- Bounds

-- the bounds of a dimension, given the lower one and the number of its tokens
abbrev pub upper_at : ℤ → ℕ → List Token → Read (ℤ × ℤ)
upper_at low size [] = No
upper_at low size (dots ∷ rest) =
    if is_sign (codes "..") dots then further (size + 1) (read_as (λ high. (low, high)) (whole_at rest)) else No

-- the bounds of a dimension, by what was read as the lower one
abbrev pub upper_behind : List Token → Read ℤ → Read (ℤ × ℤ)
upper_behind tokens (Fits low size) = upper_at low size (drop size tokens)
upper_behind tokens other = No

-- the bounds of a dimension: `1 .. 5`
abbrev pub bounds_at : List Token → Read (ℤ × ℤ)
bounds_at tokens = upper_behind tokens (whole_at tokens)

-- the dimensions of an array, and their bracket
abbrev pub dims_at : List Token → Read (List (ℤ × ℤ))
dims_at tokens = elements_from bounds_at (codes "]") 0 tokens

-- the dimensions of an array, if `OF` follows them
abbrev pub before_of : List Token → Read (List (ℤ × ℤ)) → Read (List (ℤ × ℤ))
before_of tokens (Fits dims size) =
    if begins_with_word (codes "OF") (drop size tokens) then Fits dims (size + 1) else No
before_of tokens other = No

-- the dimensions of an array and `OF`
abbrev pub array_at : List Token → Read (List (ℤ × ℤ))
array_at [] = No
array_at (first ∷ rest) =
    if is_sign (codes "[") first then further 1 (before_of rest (dims_at rest)) else No

-- Types

-- an elementary type of one byte at most
abbrev pub small_type : Token → Option ElemType
small_type word =
    if is_word (codes "BOOL") word then Some elem.Bool
    else if is_word (codes "BYTE") word then Some elem.Byte
    else if is_word (codes "CHAR") word then Some elem.Char
    else None

-- an elementary type of a word or a double word
abbrev pub wide_type : Token → Option ElemType
wide_type word =
    if is_word (codes "WORD") word then Some elem.Word
    else if is_word (codes "INT") word then Some elem.Int
    else if is_word (codes "DWORD") word then Some elem.Dword
    else if is_word (codes "DINT") word then Some elem.Dint
    else None

-- an elementary type
abbrev pub elementary_type : Token → Option ElemType
elementary_type word = option_or (small_type word) (wide_type word)

-- the types of pointers, which are not supported
abbrev pub pointer_types : List (List ℕ)
pointer_types =
    codes "ANY" ∷ codes "POINTER" ∷ codes "BLOCK_FB" ∷ codes "BLOCK_FC" ∷ codes "BLOCK_DB" ∷ codes "BLOCK_SDB"
    ∷ codes "TIMER" ∷ codes "COUNTER" ∷ []

-- the types of times and dates, which are not supported
abbrev pub time_types : List (List ℕ)
time_types = codes "TIME" ∷ codes "S5TIME" ∷ codes "DATE" ∷ codes "TIME_OF_DAY" ∷ []

-- the tokens are a user-defined type, by its number
abbrev pub is_user_type : Token → List Token → Bool
is_user_type first rest = has_number (codes "UDT") first rest

-- the kind of a type that is not supported
abbrev pub type_kind : Token → List Token → Option Kind
type_kind first rest =
    if is_word (codes "REAL") first then Some kind.Real
    else if is_word_among pointer_types first then Some kind.PointerType
    else if is_word (codes "STRING") first then Some kind.StringType
    else if is_word_among time_types first then Some kind.DateTime
    else if is_user_type first rest then Some kind.UserType
    else None

-- the kind of an instance that is a variable: of a function block, or of a block of the system
abbrev pub instance_kind : Token → List Token → Option Kind
instance_kind first rest =
    if has_number (codes "FB") first rest then Some kind.MultiInstance
    else if has_number (codes "SFB") first rest then Some kind.SystemCall
    else None

-- the kind of a variable's type that is not supported
abbrev pub variable_kind : Token → List Token → Option Kind
variable_kind first rest = option_or (type_kind first rest) (instance_kind first rest)

-- a type without arrays
abbrev pub alone : Innermost → Written
alone what = record { arrays = []; innermost = what; initial = [] }

abbrev pub left_out_type : Option Kind → Read Written
left_out_type None = No
left_out_type (Some kind) = LeftOut kind

abbrev pub elementary_or : Option ElemType → Option Kind → Read Written
elementary_or (Some type) kind = Fits (alone (inner.Elementary type)) 1
elementary_or None kind = left_out_type kind

-- the type of one word at a place, by its first token
abbrev pub one_word : Token → List Token → Read Written
one_word first rest =
    if is_word (codes "DATE_AND_TIME") first then Fits (alone inner.DateAndTime) 1
    else elementary_or (elementary_type first) (variable_kind first rest)

abbrev pub one_word_at : List Token → Read Written
one_word_at [] = No
one_word_at (first ∷ rest) = one_word first rest

-- an array of these dimensions, whose elements are of this type
abbrev pub with_array : List (ℤ × ℤ) → Written → Written
with_array dims type = record type { arrays = dims ∷ type.arrays }

-- an array by its dimensions and the type after them
abbrev pub array_with : List Token → Read (List (ℤ × ℤ)) → (List Token → Read Written) → Read Written
array_with tokens (Fits dims size) more = further (size + 1) (read_as (with_array dims) (more (drop size tokens)))
array_with tokens other more = No

-- the type at a place where a level may be opened, given how the type inside it is read
abbrev pub opening_type : (List Token → Read Written) → List Token → Read Written
opening_type more tokens =
    if begins_with_word (codes "STRUCT") tokens then Fits (alone inner.Struct) 1
    else if begins_with_word (codes "ARRAY") tokens then array_with (drop 1 tokens) (array_at (drop 1 tokens)) more
    else one_word_at tokens

-- the type at a place where at most this many levels may be opened
abbrev pub type_at : ℕ → List Token → Read Written
type_at zero tokens = one_word_at tokens
type_at (suc left) tokens = opening_type (λ behind. type_at left behind) tokens

-- Declarations

-- a declaration with its initial values
abbrev pub with_initial : Written → List InitialItem → Written
with_initial type items = record type { initial = items }

-- a type is a STRUCT inside its arrays
abbrev pub is_struct : Innermost → Bool
is_struct inner.Struct = true
is_struct other = false

-- the number of arrays is not 0
abbrev pub in_array : ℕ → Bool
in_array arrays = nat_lt 0 arrays

-- a declaration of a section by its type; one of a STRUCT has its members and its end after this, and DATE_AND_TIME
-- is not supported where the section does not take it
abbrev pub closed_by : BlockKind → Section → Innermost → Written → ℕ → List Token → Read Written
closed_by of section inner.Struct type size behind = Fits type size
closed_by of section inner.DateAndTime type size behind =
    if takes_dates section
    then further size (read_as (with_initial type) (ending_at of section (in_array (length type.arrays)) behind))
    else LeftOut kind.DateTime
closed_by of section (inner.Elementary its) type size behind =
    further size (read_as (with_initial type) (ending_at of section (in_array (length type.arrays)) behind))

abbrev pub closed_behind : BlockKind → Section → List Token → Read Written → Read Written
closed_behind of section tokens No = No
closed_behind of section tokens (LeftOut kind) = LeftOut kind
closed_behind of section tokens (Fits type size) = closed_by of section type.innermost type size (drop size tokens)

-- the tokens begin with an ARRAY or a STRUCT
abbrev pub begins_complex : List Token → Bool
begins_complex tokens = begins_with_word (codes "ARRAY") tokens || begins_with_word (codes "STRUCT") tokens

-- the type of a declaration of a section, where at most this many levels may be opened: formals are elementary, and an
-- ARRAY or a STRUCT is not supported there
abbrev pub type_in : Section → ℕ → List Token → Read Written
type_in section left tokens =
    if is_formal section && begins_complex tokens then LeftOut kind.ComplexParameter else type_at left tokens

-- the declaration of a section in a block of a kind, after its name, at a place where at most this many levels may be
-- opened
abbrev pub declaration_at : BlockKind → Section → ℕ → Token → List Token → Read Written
declaration_at of section left name [] = No
declaration_at of section left name (colon ∷ rest) =
    if is_word_kind name.kind && is_sign (codes ":") colon
    then further 1 (closed_behind of section rest (type_in section left rest))
    else No

-- Levels

-- how many levels are open
abbrev pub depth_of : List Level → ℕ
depth_of [] = 0
depth_of (level ∷ levels) = level.depth

-- how many more levels may be opened, of eight
abbrev pub left_of : List Level → ℕ
left_of levels = 8 - depth_of levels

-- the levels that are open after a declaration on a line with this many arrays
abbrev pub levels_behind : List Level → Line → Innermost → ℕ → List Level
levels_behind levels line inner.Struct arrays =
    record { line = line; depth = depth_of levels + arrays + 1; in_array = in_array arrays } ∷ levels
levels_behind levels line other arrays = levels

-- a token is the word that ends the innermost STRUCT, or the section
abbrev pub ends_level : Section → List Level → Token → Bool
ends_level section [] first = is_word (end_of_section section) first
ends_level section (level ∷ levels) first = is_word (codes "END_STRUCT") first
