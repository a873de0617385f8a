-- The grammar of a source text: the forms of items, as a relation with a case each, and the texts that are
-- items up to their end.
use Rattle.std.specs.Prelude.{◌≡◌, ℕ, ◌+◌, Bool, true, false, List, [], ◌∷◌, ◌++◌, length, drop, codes, Option, Some, None, Ok, Err}
use Rattle.s7_base.specs.declared.reason.Kind.{Kind}
use Rattle.s7_base.specs.declared.reason.Kind.TheVariants.{DateTime, SystemCall, UserType}
use Rattle.s7_base.specs.declared.reason.Line.{Line}
use Rattle.s7_base.specs.declared.reason.Reason.{Reason}
use Rattle.s7_base.specs.declared.reason.Reason.TheVariants.{BadStatement, Unsupported}
use Rattle.s7_base.specs.declared.reason.Rejection.TheVariants.{Refused}
use Rattle.s7_base.specs.declared.token.Token.{Token}
use Rattle.stl_grammar.specs.Items.{begins_body, body_of, is_complete, is_data, is_end, is_semicolon, is_skipped_alone, item_at, misfit_line, statement_at, statement_size}
use Rattle.stl_grammar.specs.AddressForms.{IsAddress}
use Rattle.stl_grammar.specs.DeclarationForms.{IsDeclaration, IsLeftOut, LeavesOutDeclaration, elem_word}
use Rattle.stl_grammar.specs.Declarations.{ends_level, is_user_type, left_of, levels_behind}
use Rattle.stl_grammar.specs.InitialForms.{IsEnding, IsInitial, LeavesOutEnding, LeavesOutInitial}
use Rattle.stl_grammar.specs.declared.declaration.Level.{Level}
use Rattle.stl_grammar.specs.Sections.{is_own, may_open, section_word}
use Rattle.stl_grammar.specs.declared.declaration.Section.{Section}
use Rattle.stl_grammar.specs.declared.declaration.Section.TheVariants as part
use Rattle.stl_grammar.specs.declared.declaration.Written.{Written}
use Rattle.stl_grammar.specs.Headings.{heading_kind, is_behind, is_skipped, size_on}
use Rattle.stl_grammar.specs.Symbols.{ends_table, is_next, symbol_with, trimmed_field}
use Rattle.stl_statement_grammar.specs.BlockNames.{has_number, kind_word}
use Rattle.stl_statement_grammar.specs.CallForms.{IsName}
use Rattle.stl_statement_grammar.specs.Statements.{instruction_of}
use Rattle.stl_statement_grammar.specs.Words.{is_quoted_kind, is_sign, is_word}
use Rattle.stl_grammar.specs.declared.item.NextItem.{NextItem}
use Rattle.stl_grammar.specs.declared.item.NextItem.TheVariants.{Fits, Misfit, Ended}
use Rattle.stl_grammar.specs.declared.item.Item.{Item}
use Rattle.stl_grammar.specs.declared.item.Item.TheVariants.{Opens, Mark, Starts, Symbol, Declares, InstanceOf, Closes, Instr, Initial, Ends}
use Rattle.stl_grammar.specs.declared.item.Where.{Where}
use Rattle.stl_grammar.specs.declared.item.Where.TheVariants.{Start, Table, Between, Heading, Inside, Behind, Body, Values}
use Rattle.stl_tree.specs.declared.raw.BlockKind.{BlockKind}
use Rattle.stl_tree.specs.declared.raw.BlockKind.TheVariants as block
use Rattle.stl_tree.specs.declared.raw.ElemType.{ElemType}
use Rattle.stl_tree.specs.declared.raw.InitialItem.{InitialItem}
use Rattle.stl_tree.specs.declared.raw.RawInitial.{RawInitial}
use Rattle.stl_tree.specs.declared.raw.RawInstr.{RawInstr}
use Rattle.stl_tree.specs.declared.raw.RawName.{RawName}
use Rattle.stl_tree.specs.declared.raw.SymbolAddress.{SymbolAddress}

-- Items

-- a block may open here
abbrev pub MayOpen : Where → Type 0
MayOpen Start = Unit {0}
MayOpen Between = Unit {0}
MayOpen elsewhere = ⊥

-- the line of the last token, or else this one
abbrev pub last_line : Line → List Token → Line
last_line line [] = line
last_line line (first ∷ rest) = last_line first.line rest

-- the type of a function: VOID, or an elementary type
pub data IsResult : Token → Option ElemType → Type 0 where
  no_result : (word : Token) → is_word (codes "VOID") word ≡ true → IsResult word None
  elementary_result : (word : Token) (type : ElemType)
      → is_word (elem_word type) word ≡ true → IsResult word (Some type)

-- tokens begin with the type of a function that is of a kind that is not supported
pub data LeavesOutResult : Token → List Token → Kind → Type 0 where
  date_result : (word : Token) (rest : List Token) →
      is_word (codes "DATE_AND_TIME") word ≡ true → LeavesOutResult word rest DateTime
  other_result : (word : Token) (rest : List Token) (k : Kind) → IsLeftOut word rest k → LeavesOutResult word rest k

-- the tokens from a place on begin with an item, which takes this many tokens after its first; and the place of the
-- next item
pub data IsForm : Where → List Token → Item → ℕ → Where → Type 0 where
  heading : (place : Where) (kind : BlockKind) (first : Token) {names : List Token} (rest : List Token) {name : RawName}
      → MayOpen place → heading_kind first ≡ Some kind → IsName (kind_word kind) names name
      → IsForm place (first ∷ (names ++ rest)) (Opens first.line kind name None) (length names)
      (Heading kind (last_line first.line names))
  function : (place : Where) (first : Token) {names : List Token} (colon type : Token) (rest : List Token)
      {name : RawName} {result : Option ElemType}
      → MayOpen place → is_word (codes "FUNCTION") first ≡ true → IsName (codes "FC") names name
      → is_sign (codes ":") colon ≡ true → IsResult type result
      → IsForm place (first ∷ (names ++ (colon ∷ type ∷ rest))) (Opens first.line block.Fc name result)
      (length names + 2) (Heading block.Fc type.line)
  table : (first : Token) (rest : List Token)
      → is_word (codes "SYMBOL_TABLE") first ≡ true
      → IsForm Start (first ∷ rest) Mark 0 (Table first.line)
  symbol : (line : Line) (name a its b type c comment : Token) (rest : List Token) (address : SymbolAddress) →
      ends_table line name (a ∷ its ∷ b ∷ type ∷ c ∷ comment ∷ rest) ≡ false → is_behind line name ≡ true
      → is_quoted_kind name.kind ≡ true → is_next name.line a its ≡ true → is_next name.line b type ≡ true
      → is_next name.line c comment ≡ true → IsAddress (trimmed_field its.text) address
      → IsForm (Table line) (name ∷ a ∷ its ∷ b ∷ type ∷ c ∷ comment ∷ rest)
      (Symbol (symbol_with name address)) 6 (Table name.line)
  table_end : (line : Line) (first : Token) (rest : List Token) →
      ends_table line first rest ≡ true → IsForm (Table line) (first ∷ rest) Mark 0 Between
  skipped_line : (kind : BlockKind) (line : Line) (first : Token) (rest : List Token) →
      is_skipped line first rest ≡ true
      → IsForm (Heading kind line) (first ∷ rest) Mark (size_on first.line rest) (Heading kind first.line)
  begin : (kind : BlockKind) (line : Line) (first : Token) (rest : List Token) →
      is_skipped line first rest ≡ false → is_data kind ≡ false → is_word (codes "BEGIN") first ≡ true
      → IsForm (Heading kind line) (first ∷ rest) Mark 0 (Body kind)
  first_section : (kind : BlockKind) (line : Line) (its : Section) (first : Token) (rest : List Token) →
      is_skipped line first rest ≡ false → begins_body kind first ≡ false → is_word (section_word its) first ≡ true
      → may_open kind None its ≡ true
      → IsForm (Heading kind line) (first ∷ rest) (Starts its) 0 (Inside kind its [])
  instance : (line : Line) (first : Token) (names rest : List Token) (name : RawName) →
      is_skipped line first (names ++ rest) ≡ false → IsName (codes "FB") (first ∷ names) name
      → IsForm (Heading block.Db line) (first ∷ (names ++ rest)) (InstanceOf name) (length names)
      (Behind block.Db part.Own)
  section_end : (kind : BlockKind) (its : Section) (first : Token) (rest : List Token) →
      is_own its ≡ false → is_word (codes "END_VAR") first ≡ true
      → IsForm (Inside kind its []) (first ∷ rest) Mark 0 (Behind kind its)
  data_end : (kind : BlockKind) (first sign : Token) (rest : List Token) →
      is_word (codes "END_STRUCT") first ≡ true → is_semicolon sign ≡ true
      → IsForm (Inside kind part.Own []) (first ∷ sign ∷ rest) Mark 1 (Behind kind part.Own)
  struct_end : (kind : BlockKind) (its : Section) (level : Level)
      (levels : List Level) (first : Token) (front rest : List Token)
      (items : List InitialItem) →
      is_word (codes "END_STRUCT") first ≡ true → IsEnding kind its level.in_array front items
      → IsForm (Inside kind its (level ∷ levels)) (first ∷ (front ++ rest))
      (Closes items) (length front) (Inside kind its levels)
  declaration : (kind : BlockKind) (its : Section) (levels : List Level)
      (name : Token) (front rest : List Token) (type : Written)
      → ends_level its levels name ≡ false → IsDeclaration kind its (left_of levels) name front type
      → IsForm (Inside kind its levels) (name ∷ (front ++ rest)) (Declares name.text name.line type) (length front)
      (Inside kind its (levels_behind levels name.line type.innermost (length type.arrays)))
  begin_behind : (kind : BlockKind) (before : Section) (first : Token) (rest : List Token) →
      is_word (codes "BEGIN") first ≡ true → IsForm (Behind kind before) (first ∷ rest) Mark 0 (body_of kind)
  later_section : (kind : BlockKind) (before its : Section) (first : Token) (rest : List Token) →
      is_word (section_word its) first ≡ true → may_open kind (Some before) its ≡ true
      → IsForm (Behind kind before) (first ∷ rest) (Starts its) 0 (Inside kind its [])
  value : (first : Token) (front rest : List Token) (its : RawInitial) →
      is_end block.Db first ≡ false → IsInitial first.line (first ∷ front) its
      → IsForm Values (first ∷ (front ++ rest)) (Initial its) (length front) Values
  values_end : (first : Token) (rest : List Token) →
      is_end block.Db first ≡ true → IsForm Values (first ∷ rest) (Ends first.line) 0 Between
  skipped_word : (kind : BlockKind) (first : Token) (rest : List Token) →
      is_skipped_alone first ≡ true → IsForm (Body kind) (first ∷ rest) Mark 0 (Body kind)
  end_word : (kind : BlockKind) (first : Token) (rest : List Token)
      → is_skipped_alone first ≡ false → is_end kind first ≡ true
      → IsForm (Body kind) (first ∷ rest) (Ends first.line) 0 Between
  statement : (kind : BlockKind) (first : Token) (more : List Token)
      (sign : Token) (rest : List Token) (instr : RawInstr)
      → is_skipped_alone first ≡ false → is_end kind first ≡ false
      → statement_size (first ∷ more) ≡ length (first ∷ more)
      → instruction_of (first ∷ more) ≡ Ok instr → is_semicolon sign ≡ true
      → IsForm (Body kind) (first ∷ (more ++ (sign ∷ rest))) (Instr instr) (length (first ∷ more)) (Body kind)

-- What is refused

-- an item has a form of a kind that is not supported: a user-defined type where a block may open, a function by its
-- type, a data block by such a type or by a block of the system, or a complete declaration, end of a STRUCT or initial
-- value with something unsupported in it
pub data LeavesOutForm : Where → List Token → Kind → Type 0 where
  user_type : (place : Where) (first : Token) (rest : List Token) →
      MayOpen place → is_word (codes "TYPE") first ≡ true → LeavesOutForm place (first ∷ rest) UserType
  function_of_a_type : (place : Where) (first : Token) (names : List Token) (colon type : Token) (rest : List Token)
      (name : RawName) (k : Kind)
      → MayOpen place → is_word (codes "FUNCTION") first ≡ true → IsName (codes "FC") names name
      → is_sign (codes ":") colon ≡ true → LeavesOutResult type rest k
      → LeavesOutForm place (first ∷ (names ++ (colon ∷ type ∷ rest))) k
  data_of_a_type : (line : Line) (first : Token) (rest : List Token) →
      is_user_type first rest ≡ true → LeavesOutForm (Heading block.Db line) (first ∷ rest) UserType
  data_of_the_system : (line : Line) (first : Token) (rest : List Token) →
      has_number (codes "SFB") first rest ≡ true → LeavesOutForm (Heading block.Db line) (first ∷ rest) SystemCall
  in_a_declaration : (kind : BlockKind) (its : Section)
      (levels : List Level) (name : Token) (rest : List Token) (k : Kind)
      → ends_level its levels name ≡ false → LeavesOutDeclaration kind its (left_of levels) name rest k
      → is_complete (name ∷ rest) ≡ true → LeavesOutForm (Inside kind its levels) (name ∷ rest) k
  at_a_struct_end : (kind : BlockKind) (its : Section) (level : Level)
      (levels : List Level) (first : Token) (rest : List Token) (k : Kind)
      → is_word (codes "END_STRUCT") first ≡ true → LeavesOutEnding kind its level.in_array rest k
      → is_complete (first ∷ rest) ≡ true → LeavesOutForm (Inside kind its (level ∷ levels)) (first ∷ rest) k
  in_a_value : (first : Token) (rest : List Token) (k : Kind) →
      LeavesOutInitial (first ∷ rest) k → is_complete (first ∷ rest) ≡ true → LeavesOutForm Values (first ∷ rest) k

-- a complete statement is at a place in a body
abbrev pub has_statement : Where → List Token → Bool
has_statement (Body kind) tokens = is_complete tokens
has_statement elsewhere tokens = false

-- What is found at a place

-- the tokens begin with no item
abbrev pub HasNoForm : Where → List Token → Type 0
HasNoForm place tokens = (item : Item) (size : ℕ) (next : Where) → IsForm place tokens item size next → ⊥

-- what is found at a place of a text that ends on a line: an item that has a form; one that has a form of a kind that
-- is not supported; a complete statement that is no instruction; nothing, where there is none of these; or the end of
-- the text, where each block must be complete
pub data IsItem : Line → Where → List Token → NextItem → Type 0 where
  form : {end : Line} {place next : Where} {tokens : List Token} {item : Item} {size : ℕ} →
      IsForm place tokens item size next → IsItem end place tokens (Fits item size next)
  left_out : {end : Line} {place : Where} (first : Token) (rest : List Token) (kind : Kind) →
      HasNoForm place (first ∷ rest) → LeavesOutForm place (first ∷ rest) kind
      → IsItem end place (first ∷ rest) (Misfit (misfit_line place first) (Unsupported kind))
  no_instruction : {end its_line : Line} (kind : BlockKind) (first : Token) (rest : List Token) {reason : Reason} →
      is_skipped_alone first ≡ false → is_end kind first ≡ false → is_complete (first ∷ rest) ≡ true
      → instruction_of (statement_at (first ∷ rest)) ≡ Err (Refused its_line reason)
      → IsItem end (Body kind) (first ∷ rest) (Misfit first.line reason)
  none : {end : Line} {place : Where} (first : Token) (rest : List Token) →
      HasNoForm place (first ∷ rest) → ((kind : Kind) → LeavesOutForm place (first ∷ rest) kind → ⊥)
      → has_statement place (first ∷ rest) ≡ false
      → IsItem end place (first ∷ rest) (Misfit (misfit_line place first) BadStatement)
  at_start : {end : Line} → IsItem end Start [] Ended
  in_a_table : {end : Line} (line : Line) → IsItem end (Table line) [] (Misfit end BadStatement)
  behind_a_block : {end : Line} → IsItem end Between [] Ended
  behind_a_heading : {end : Line} (kind : BlockKind) (line : Line)
      → IsItem end (Heading kind line) [] (Misfit end BadStatement)
  in_a_section : {end : Line} (kind : BlockKind) (its : Section)
      → IsItem end (Inside kind its []) [] (Misfit end BadStatement)
  in_a_struct : {end : Line} (kind : BlockKind) (its : Section) (level : Level) (levels : List Level) →
      IsItem end (Inside kind its (level ∷ levels)) [] (Misfit level.line BadStatement)
  behind_a_section : {end : Line} (kind : BlockKind) (its : Section)
      → IsItem end (Behind kind its) [] (Misfit end BadStatement)
  in_a_body : {end : Line} (kind : BlockKind) → IsItem end (Body kind) [] (Misfit end BadStatement)
  among_values : {end : Line} → IsItem end Values [] (Misfit end BadStatement)

-- what is found at a place is what the relation says
pub record ItemsHaveForms : Type 0 where
  pub sound : (end : Line) (place : Where) (tokens : List Token) → IsItem end place tokens (item_at end place tokens)
  pub complete : (end : Line) (place : Where) (tokens : List Token) (found : NextItem) → IsItem end place tokens found
      → item_at end place tokens ≡ found

-- Texts

-- the tokens from a place on are these items, up to the end of the text
pub data AreItems : Line → Where → List Token → List Item → Type 0 where
  none_more : {end : Line} {place : Where} → IsItem end place [] Ended → AreItems end place [] []
  one_more : {end : Line} {place next : Where} (first : Token)
      (rest : List Token) {item : Item} {size : ℕ} {items : List Item}
      → IsItem end place (first ∷ rest) (Fits item size next) → AreItems end next (drop size rest) items
      → AreItems end place (first ∷ rest) (item ∷ items)
