-- Initial values, form by form: what each is, and which begin with something that is left out.
use Rattle.std.specs.Prelude.{◌≡◌, ℕ, Bool, true, false, List, [], ◌∷◌, ◌++◌, codes, Some}
use Rattle.s7_base.specs.declared.reason.Kind.{Kind}
use Rattle.s7_base.specs.declared.reason.Kind.TheVariants as kind
use Rattle.s7_base.specs.declared.reason.Line.{Line}
use Rattle.s7_base.specs.declared.token.Token.{Token}
use Rattle.s7_base.specs.declared.word.Width.TheVariants as width
use Rattle.stl_grammar.specs.Initials.{count_of, initial, once, times}
use Rattle.stl_statement_grammar.specs.ListForms.{AreElements, LeavesOutElement}
use Rattle.stl_grammar.specs.Sections.{takes_values}
use Rattle.stl_grammar.specs.declared.declaration.Section.{Section}
use Rattle.stl_statement_grammar.specs.ConstantForms.{IsAmong, IsConstant}
use Rattle.stl_statement_grammar.specs.Constants.{Prefixed, begins_real, constant, prefixes}
use Rattle.stl_statement_grammar.specs.PathForms.{IsPath}
use Rattle.stl_statement_grammar.specs.PointerForms.{IsPointerConstant}
use Rattle.stl_statement_grammar.specs.Pointers.{is_in_reach, value_of}
use Rattle.stl_statement_grammar.specs.Words.{is_joined, is_sign, is_word}
use Rattle.stl_statement_grammar.specs.declared.mnemonic.Prefix.{Prefix}
use Rattle.stl_statement_grammar.specs.declared.mnemonic.Prefix.TheVariants as prefix
use Rattle.stl_tree.specs.declared.raw.BlockKind.{BlockKind}
use Rattle.stl_tree.specs.declared.raw.Constant.{Constant}
use Rattle.stl_tree.specs.declared.raw.InitialItem.{InitialItem}
use Rattle.stl_tree.specs.declared.raw.PathStep.{PathStep}
use Rattle.stl_tree.specs.declared.raw.RawInitial.{RawInitial}
use Rattle.stl_tree.specs.declared.raw.RawPointer.{RawPointer}

-- a value: `TRUE`, `FALSE`, a constant, or a pointer with a byte and a bit that pointers have
pub data IsValue : List Token → Constant → Type 0 where
  truth : (word : Token) → is_word (codes "TRUE") word ≡ true → IsValue (word ∷ []) (constant width.Bit 1)
  falsity : (word : Token) → is_word (codes "FALSE") word ≡ true → IsValue (word ∷ []) (constant width.Bit 0)
  number : (tokens : List Token) (c : Constant) → IsConstant tokens c → IsValue tokens c
  pointer : (tokens : List Token) (p : RawPointer) →
      IsPointerConstant tokens p → is_in_reach p ≡ true → IsValue tokens (constant width.Dword (value_of p))

-- an item of a list: a value, or the values in brackets and their count, `2 (7, 8)`
pub data IsListItem : List Token → InitialItem → Type 0 where
  value : (tokens : List Token) (c : Constant) → IsValue tokens c → IsListItem tokens (once c)
  group : (number before : Token) (rest : List Token) (n : ℕ) (values : List Constant) →
      count_of number ≡ Some n → is_sign (codes "(") before ≡ true → AreElements IsValue (codes ")") rest values
      → IsListItem (number ∷ before ∷ rest) (times n values)

-- a value and `;`
pub data IsLast : List Token → Constant → Type 0 where
  last : (front : List Token) (sign : Token) (c : Constant) →
      IsValue front c → is_sign (codes ";") sign ≡ true → IsLast (front ++ (sign ∷ [])) c

-- what ends a declaration of a section in a block of a kind, given whether it has an array around it: `;`, or `:=` with
-- a value or a list before it, where the section takes initial values
pub data IsEnding (of : BlockKind) (section : Section) : Bool → List Token → List InitialItem → Type 0 where
  nothing : (in_array : Bool) (sign : Token) → is_sign (codes ";") sign ≡ true
      → IsEnding of section in_array (sign ∷ []) []
  with_value : (assign : Token) (rest : List Token) (c : Constant) →
      takes_values of section ≡ true → is_sign (codes ":=") assign ≡ true → IsLast rest c
      → IsEnding of section false (assign ∷ rest) (once c ∷ [])
  with_list : (assign : Token) (rest : List Token) (items : List InitialItem)
      → takes_values of section ≡ true → is_sign (codes ":=") assign ≡ true
      → AreElements IsListItem (codes ";") rest items
      → IsEnding of section true (assign ∷ rest) items

-- an initial value of a data block, on a line: `path := value;`
pub data IsInitial (line : Line) : List Token → RawInitial → Type 0 where
  at_path : (front : List Token) (assign : Token) (rest : List Token) (path : List PathStep) (c : Constant) →
      IsPath front path → is_sign (codes ":=") assign ≡ true → IsLast rest c
      → IsInitial line (front ++ (assign ∷ rest)) (initial line path c)

-- What is not supported

-- the tokens after a prefix begin a constant of a kind that is not supported: any do, or after `P#` another `#`
pub data LeavesOutBehind : Prefix → List Token → Kind → Type 0 where
  always : (k : Kind) (rest : List Token) → LeavesOutBehind (prefix.LeftOut k) rest k
  name : (hash : Token) (rest : List Token) → is_joined (codes "#") hash ≡ true
      → LeavesOutBehind prefix.Pointer (hash ∷ rest) kind.NamePointer

-- tokens begin with a value of a kind that is not supported: one with a prefix, or a real one
pub data LeavesOutValue : List Token → Kind → Type 0 where
  with_prefix : (row : Prefixed) (first hash : Token) (rest : List Token) (k : Kind)
      → IsAmong row prefixes → is_word row.word first ≡ true
      → is_joined (codes "#") hash ≡ true → LeavesOutBehind row.what rest k
      → LeavesOutValue (first ∷ hash ∷ rest) k
  real : (tokens : List Token) → begins_real tokens ≡ true → LeavesOutValue tokens kind.Real

-- tokens begin with an item of a list with a value of a kind that is not supported
pub data LeavesOutItem : List Token → Kind → Type 0 where
  alone : (tokens : List Token) (k : Kind) → LeavesOutValue tokens k → LeavesOutItem tokens k
  in_group : (number before : Token) (rest : List Token) (n : ℕ) (k : Kind) →
      count_of number ≡ Some n → is_sign (codes "(") before ≡ true → LeavesOutElement IsValue LeavesOutValue rest k
      → LeavesOutItem (number ∷ before ∷ rest) k

-- a declaration ends with an initial value of a kind that is not supported
pub data LeavesOutEnding (of : BlockKind) (section : Section) : Bool → List Token → Kind → Type 0 where
  in_value : (assign : Token) (rest : List Token) (k : Kind) →
      takes_values of section ≡ true → is_sign (codes ":=") assign ≡ true → LeavesOutValue rest k
      → LeavesOutEnding of section false (assign ∷ rest) k
  in_list : (assign : Token) (rest : List Token) (k : Kind)
      → takes_values of section ≡ true → is_sign (codes ":=") assign ≡ true
      → LeavesOutElement IsListItem LeavesOutItem rest k
      → LeavesOutEnding of section true (assign ∷ rest) k

-- a value of a kind that is not supported follows a path
pub data LeavesOutInitial : List Token → Kind → Type 0 where
  behind_path : (front : List Token) (assign : Token) (rest : List Token) (path : List PathStep) (k : Kind)
      → IsPath front path → is_sign (codes ":=") assign ≡ true
      → LeavesOutValue rest k → LeavesOutInitial (front ++ (assign ∷ rest)) k
