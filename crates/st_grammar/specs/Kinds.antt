-- What tokens are in the grammar. They are words, signs, literals, direct variables and names, by tables of words and
-- signs.
-- Held against: IEC 61131-3, 'Keywords' and 'Literals'.
use Rattle.std.specs.Prelude.{ℕ, ◌-◌, ◌^◌, min, pos, Bool, true, false, not, ◌==◌, ◌&&◌, ◌||◌, nat_lt, if◌then◌else◌, List, [], ◌∷◌, length, take, drop, codes, Option, Some, None}
use Rattle.std.specs.List.{prefix_len, list_all, find}
use Rattle.s7_base.specs.Tokens.{is_between, is_same_word, is_among}
use Rattle.s7_base.specs.declared.reason.Line.{Line}
use Rattle.s7_base.specs.declared.word.Width.TheVariants as width
use Rattle.st_lexer.specs.Direct.{direct_of}
use Rattle.st_lexer.specs.Literals.{type_named, base_at, begins_with_digit, literal_at, signed_value, is_in_range}
use Rattle.st_lexer.specs.declared.direct.Direct.{Direct}
use Rattle.st_lexer.specs.declared.literal.Literal.{Literal as LexedLiteral}
use Rattle.st_lexer.specs.declared.number.Base.{Base}
use Rattle.st_lexer.specs.declared.number.Base.TheVariants as base
use Rattle.st_tree.specs.declared.token.StKind.{StKind}
use Rattle.st_tree.specs.declared.token.StKind.TheVariants as sort
use Rattle.st_tree.specs.declared.token.StToken.{StToken}
use Rattle.st_grammar.specs.declared.kind.Fixed.{Fixed}
use Rattle.st_grammar.specs.declared.kind.Fixed.TheVariants as fixed
use Rattle.st_grammar.specs.declared.kind.Function.TheVariants as function
use Rattle.st_grammar.specs.declared.kind.Jump.TheVariants as jump
use Rattle.st_grammar.specs.declared.kind.GrammarKind.{GrammarKind}
use Rattle.st_grammar.specs.declared.kind.GrammarKind.TheVariants as kind
use Rattle.st_grammar.specs.declared.kind.Lead.{Lead}
use Rattle.st_grammar.specs.declared.kind.Lead.TheVariants as lead
use Rattle.st_grammar.specs.declared.kind.Literal.TheVariants as literal
use Rattle.st_grammar.specs.declared.kind.OneOperand.{OneOperand}
use Rattle.st_grammar.specs.declared.kind.OneOperand.TheVariants as one
use Rattle.st_grammar.specs.declared.kind.Word.{Word}
use Rattle.st_grammar.specs.declared.kind.Word.TheVariants as word
use Rattle.st_grammar.specs.declared.words.TheConstants.{WORDS, SIGNS}
use Rattle.st_tree.specs.Words.{operator_word, shift_word, type_word}
use Rattle.st_tree.specs.declared.expr.BinaryOp.TheVariants as binary
use Rattle.st_tree.specs.declared.expr.StType.{StType}
use Rattle.st_tree.specs.declared.expr.StType.TheVariants as type
use Rattle.st_tree.specs.declared.raw.RawVar.TheVariants as var

-- Spellings

-- a function of one operand as it is written; conversions are not in the table, since they are told by their types
abbrev pub one_text : OneOperand → List ℕ
one_text (one.Convert from to) = []
one_text one.BcdToInt = codes "BCD_TO_INT"
one_text one.BcdToDint = codes "BCD_TO_DINT"
one_text (one.AreaRead width.Bit) = codes "AREA_READ_X"
one_text (one.AreaRead width.Byte) = codes "AREA_READ_B"
one_text (one.AreaRead width.Word) = codes "AREA_READ_W"
one_text (one.AreaRead width.Dword) = codes "AREA_READ_D"

-- a word or a sign that begins no statement, as it is written; the end of a text has no characters
abbrev pub fixed_text : Fixed → List ℕ
fixed_text fixed.VarGlobal = codes "VAR_GLOBAL"
fixed_text fixed.VarInOut = codes "VAR_IN_OUT"
fixed_text fixed.VarTemp = codes "VAR_TEMP"
fixed_text fixed.EndVar = codes "END_VAR"
fixed_text fixed.At = codes "AT"
fixed_text fixed.Array = codes "ARRAY"
fixed_text fixed.Of = codes "OF"
fixed_text fixed.EndProgram = codes "END_PROGRAM"
fixed_text fixed.EndFunction = codes "END_FUNCTION"
fixed_text fixed.Then = codes "THEN"
fixed_text fixed.Elsif = codes "ELSIF"
fixed_text fixed.Else = codes "ELSE"
fixed_text fixed.EndIf = codes "END_IF"
fixed_text fixed.EndCase = codes "END_CASE"
fixed_text fixed.Do = codes "DO"
fixed_text fixed.EndWhile = codes "END_WHILE"
fixed_text fixed.Not = codes "NOT"
fixed_text (fixed.Between op) = operator_word op
fixed_text (fixed.Type ty) = type_word ty
fixed_text (fixed.Function (function.One op)) = one_text op
fixed_text (fixed.Function (function.Shift op)) = shift_word op
fixed_text (fixed.Function function.Select) = codes "SEL"
fixed_text fixed.Becomes = codes ":="
fixed_text fixed.Colon = codes ":"
fixed_text fixed.Semicolon = codes ";"
fixed_text fixed.Comma = codes ","
fixed_text fixed.Open = codes "("
fixed_text fixed.Close = codes ")"
fixed_text fixed.OpenSquare = codes "["
fixed_text fixed.CloseSquare = codes "]"
fixed_text fixed.Dots = codes ".."
fixed_text fixed.End = []

-- a word that a statement or a unit begins with, as it is written
abbrev pub lead_text : Lead → List ℕ
lead_text lead.If = codes "IF"
lead_text lead.Case = codes "CASE"
lead_text lead.While = codes "WHILE"
lead_text (lead.Jump jump.Exit) = codes "EXIT"
lead_text (lead.Jump jump.Continue) = codes "CONTINUE"
lead_text (lead.Jump jump.Return) = codes "RETURN"
lead_text (lead.AreaWrite width.Bit) = codes "AREA_WRITE_X"
lead_text (lead.AreaWrite width.Byte) = codes "AREA_WRITE_B"
lead_text (lead.AreaWrite width.Word) = codes "AREA_WRITE_W"
lead_text (lead.AreaWrite width.Dword) = codes "AREA_WRITE_D"
lead_text lead.Program = codes "PROGRAM"
lead_text lead.Function = codes "FUNCTION"

-- a word of the language, as it is written
unfoldable pub word_text : Word → List ℕ
word_text (word.Fixed f) = fixed_text f
word_text (word.Lead l) = lead_text l
word_text (word.Truth true) = codes "TRUE"
word_text (word.Truth false) = codes "FALSE"

-- the word of the table with this spelling, in any case
unfoldable pub word_named : List ℕ → Option Word
word_named text = find (λ entry. is_same_word text (word_text entry)) WORDS

-- the sign of the table with this spelling
unfoldable pub sign_named : List ℕ → Option Fixed
sign_named text = find (λ entry. is_same_word text (fixed_text entry)) SIGNS

-- Words

-- the conversion between two types: they differ, and the second is not BOOL
abbrev pub conversion_between : StType → StType → Option OneOperand
conversion_between from type.Bool = None
conversion_between type.Byte type.Byte = None
conversion_between type.Word type.Word = None
conversion_between type.Dword type.Dword = None
conversion_between type.Int type.Int = None
conversion_between type.Dint type.Dint = None
conversion_between type.Lint type.Lint = None
conversion_between from to = Some (one.Convert from to)

-- the conversion between the types on either side of `_TO_`, where both are types
abbrev pub conversion_of_types : Option StType → Option StType → Option OneOperand
conversion_of_types (Some from) (Some to) = conversion_between from to
conversion_of_types from to = None

-- how many bytes come before the first `_`
abbrev pub size_before_line : List ℕ → ℕ
size_before_line text = prefix_len (λ b. not (b == 95)) text

-- the conversion of a word: a type, `_TO_` and another type
abbrev pub conversion_named : List ℕ → Option OneOperand
conversion_named text =
    let size = size_before_line text in
    if is_same_word (take 4 (drop size text)) (codes "_TO_")
    then conversion_of_types (type_named (take size text)) (type_named (drop 4 (drop size text)))
    else None

-- the truth values as literals
abbrev pub truth : Bool → GrammarKind
truth true = kind.Literal (literal.Typed type.Bool (pos 1))
truth false = kind.Literal (literal.Typed type.Bool (pos 0))

-- the kind of a word of the language; one that a statement or a unit begins with keeps its line
abbrev pub kind_of_word : Word → Line → GrammarKind
kind_of_word (word.Fixed f) line = kind.Fixed f
kind_of_word (word.Lead l) line = kind.Lead l line
kind_of_word (word.Truth b) line = truth b

-- the kind of a name: a conversion, or else a name
abbrev pub name_kind : Option OneOperand → List ℕ → Line → GrammarKind
name_kind (Some op) text line = kind.Fixed (fixed.Function (function.One op))
name_kind None text line = kind.Variable (var.Name text) line

-- the kind of a word: a word of the table, or else a conversion or a name
abbrev pub word_kind : Option Word → List ℕ → Line → GrammarKind
word_kind (Some entry) text line = kind_of_word entry line
word_kind None text line = name_kind (conversion_named text) text line

-- Other tokens

-- the kind of a sign; `&` is another spelling of AND
abbrev pub sign_kind : Option Fixed → List ℕ → GrammarKind
sign_kind (Some f) text = kind.Fixed f
sign_kind None text = if is_same_word text (codes "&") then kind.Fixed (fixed.Between binary.And) else kind.Misfit

-- a direct variable as a variable at its place, on its line
abbrev pub direct_kind : Option Direct → Line → GrammarKind
direct_kind None line = kind.Misfit
direct_kind (Some d) line = kind.Variable (var.Direct d.area d.block d.width d.byte d.bit) line

-- a text is two digits, with or without `_` between them
abbrev pub are_two_digits : List ℕ → Bool
are_two_digits (a ∷ b ∷ []) = true
are_two_digits (a ∷ b ∷ c ∷ []) = b == 95
are_two_digits text = false

-- the kind of a literal with its type, if the type has its value
abbrev pub typed_kind : LexedLiteral → GrammarKind
typed_kind found =
    if is_in_range found then kind.Literal (literal.Typed found.kind (signed_value found)) else kind.Misfit

-- the kind of a decimal without a type; a number above 4,294,967,295 is kept as that number
abbrev pub decimal_kind : ℕ → GrammarKind
decimal_kind n = kind.Literal (literal.Decimal (min n (2 ^ 32 - 1)))

-- the kind of a literal by the base of the number at its front: `5` is a decimal, `16#0A` with two digits may be a
-- byte of a data block, and any other has its type
abbrev pub literal_kind : Base → List ℕ → LexedLiteral → GrammarKind
literal_kind base.Ten text found =
    if begins_with_digit base.Ten text then decimal_kind found.number else typed_kind found
literal_kind base.Sixteen text found =
    if are_two_digits (drop 3 text) then kind.Literal (literal.Byte (min found.number 255)) else typed_kind found
literal_kind to text found = typed_kind found

-- the kind of the text of a literal
abbrev pub number_kind : Option LexedLiteral → List ℕ → GrammarKind
number_kind None text = kind.Misfit
number_kind (Some found) text = literal_kind (base_at text) text found

-- the kind of characters of a sort, on a line
abbrev pub text_kind : StKind → List ℕ → Line → GrammarKind
text_kind sort.Word text line = word_kind (word_named text) text line
text_kind sort.Direct text line = direct_kind (direct_of text) line
text_kind sort.Literal text line = number_kind (literal_at text) text
text_kind sort.Sign text line = sign_kind (sign_named text) text

-- the kind of a token in the grammar
abbrev pub kind_of : StToken → GrammarKind
kind_of token = text_kind token.kind token.text token.line
