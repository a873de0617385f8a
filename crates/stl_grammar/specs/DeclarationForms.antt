-- Declarations, form by form: what each is, and which begin with something that is left out.
use Rattle.std.specs.Prelude.{◌≡◌, ℕ, suc, ℤ, Bool, true, false, ◌&&◌, ◌||◌, List, [], ◌∷◌, ◌++◌, length, codes}
use Rattle.s7_base.specs.declared.reason.Kind.{Kind}
use Rattle.s7_base.specs.declared.reason.Kind.TheVariants as kind
use Rattle.s7_base.specs.declared.token.Token.{Token}
use Rattle.stl_grammar.specs.Declarations.{alone, begins_complex, in_array, is_struct, is_user_type, pointer_types, time_types, with_array, with_initial}
use Rattle.stl_grammar.specs.InitialForms.{IsEnding, LeavesOutEnding}
use Rattle.stl_statement_grammar.specs.ListForms.{AreElements}
use Rattle.stl_grammar.specs.declared.declaration.Innermost.{Innermost}
use Rattle.stl_grammar.specs.declared.declaration.Innermost.TheVariants as inner
use Rattle.stl_grammar.specs.Sections.{is_formal, takes_dates}
use Rattle.stl_grammar.specs.declared.declaration.Section.{Section}
use Rattle.stl_grammar.specs.declared.declaration.Written.{Written}
use Rattle.stl_statement_grammar.specs.PathForms.{IsWhole}
use Rattle.stl_statement_grammar.specs.Words.{is_sign, is_word, is_word_among, is_word_kind}
use Rattle.stl_statement_grammar.specs.BlockNames.{has_number}
use Rattle.stl_tree.specs.declared.raw.BlockKind.{BlockKind}
use Rattle.stl_tree.specs.declared.raw.ElemType.{ElemType}
use Rattle.stl_tree.specs.declared.raw.ElemType.TheVariants as elem
use Rattle.stl_tree.specs.declared.raw.InitialItem.{InitialItem}

-- Types

-- the bounds of a dimension: `1 .. 5`
pub data IsBounds : List Token → ℤ × ℤ → Type 0 where
  bounds : (front : List Token) (dots : Token) (rest : List Token) (low high : ℤ)
      → IsWhole front low → is_sign (codes "..") dots ≡ true
      → IsWhole rest high → IsBounds (front ++ (dots ∷ rest)) (low, high)

-- the dimensions of an array: `[1 .. 5, 0 .. 3] OF`
pub data AreDims : List Token → List (ℤ × ℤ) → Type 0 where
  dims : (before : Token) (front : List Token) (of : Token) (dims : List (ℤ × ℤ)) →
      is_sign (codes "[") before ≡ true → AreElements IsBounds (codes "]") front dims → is_word (codes "OF") of ≡ true
      → AreDims (before ∷ (front ++ (of ∷ []))) dims

-- the word of an elementary type
abbrev pub elem_word : ElemType → List ℕ
elem_word elem.Bool = codes "BOOL"
elem_word elem.Byte = codes "BYTE"
elem_word elem.Char = codes "CHAR"
elem_word elem.Word = codes "WORD"
elem_word elem.Int = codes "INT"
elem_word elem.Dword = codes "DWORD"
elem_word elem.Dint = codes "DINT"

-- the tokens are a type that opens this many levels at most; each ARRAY and each STRUCT is one
pub data IsType : ℕ → List Token → Written → Type 0 where
  elementary : (left : ℕ) (word : Token) (type : ElemType) →
      is_word (elem_word type) word ≡ true → IsType left (word ∷ []) (alone (inner.Elementary type))
  date_and_time : (left : ℕ) (word : Token) →
      is_word (codes "DATE_AND_TIME") word ≡ true → IsType left (word ∷ []) (alone inner.DateAndTime)
  struct : (left : ℕ) (word : Token) → is_word (codes "STRUCT") word ≡ true
      → IsType (suc left) (word ∷ []) (alone inner.Struct)
  array : (left : ℕ) (word : Token) (front rest : List Token) (dims : List (ℤ × ℤ)) (type : Written) →
      is_word (codes "ARRAY") word ≡ true → AreDims front dims → IsType left rest type
      → IsType (suc left) (word ∷ (front ++ rest)) (with_array dims type)

-- a word, before other tokens, is a type of a kind that is not supported
pub data IsLeftOut : Token → List Token → Kind → Type 0 where
  real : (word : Token) (rest : List Token) → is_word (codes "REAL") word ≡ true → IsLeftOut word rest kind.Real
  pointer : (word : Token) (rest : List Token) →
      is_word_among pointer_types word ≡ true → IsLeftOut word rest kind.PointerType
  string : (word : Token) (rest : List Token) → is_word (codes "STRING") word ≡ true
      → IsLeftOut word rest kind.StringType
  time : (word : Token) (rest : List Token) → is_word_among time_types word ≡ true → IsLeftOut word rest kind.DateTime
  user : (word : Token) (rest : List Token) → is_user_type word rest ≡ true → IsLeftOut word rest kind.UserType

-- tokens begin with a type of a variable of a kind that is not supported, or with an array of one
pub data LeavesOutType : ℕ → List Token → Kind → Type 0 where
  left_out : (left : ℕ) (word : Token) (rest : List Token) (k : Kind) → IsLeftOut word rest k
      → LeavesOutType left (word ∷ rest) k
  instance : (left : ℕ) (word : Token) (rest : List Token) → has_number (codes "FB") word rest ≡ true
      → LeavesOutType left (word ∷ rest) kind.MultiInstance
  of_system : (left : ℕ) (word : Token) (rest : List Token) → has_number (codes "SFB") word rest ≡ true
      → LeavesOutType left (word ∷ rest) kind.SystemCall
  array_of : (left : ℕ) (word : Token) (front rest : List Token) (dims : List (ℤ × ℤ)) (k : Kind) →
      is_word (codes "ARRAY") word ≡ true → AreDims front dims → LeavesOutType left rest k
      → LeavesOutType (suc left) (word ∷ (front ++ rest)) k

-- Declarations

-- a declaration of a type with an end of its own: no STRUCT, whose members follow, and DATE_AND_TIME only where the
-- section takes it
abbrev pub HasEnd : Section → Innermost → Type 0
HasEnd section (inner.Elementary type) = Unit {0}
HasEnd section inner.DateAndTime = takes_dates section ≡ true
HasEnd section inner.Struct = ⊥

-- a type may be one of a section: a formal has no ARRAY and no STRUCT
abbrev pub is_complex : Written → Bool
is_complex type = in_array (length type.arrays) || is_struct type.innermost

abbrev pub MayBeOf : Section → Written → Type 0
MayBeOf section type = (is_formal section && is_complex type) ≡ false

-- a declaration begins with a name and a colon
pub record BeginsDeclaration (name colon : Token) : Type 0 where
  pub name_is : is_word_kind name.kind ≡ true
  pub colon_is : is_sign (codes ":") colon ≡ true

-- the tokens after a name are a declaration of a section, in a block of a kind, that opens this many levels at most: a
-- type and what ends it, or the type alone where the members of a STRUCT follow
pub data IsDeclaration (of : BlockKind) (section : Section) (left : ℕ) (name : Token)
    : List Token → Written → Type 0 where
  variable : (colon : Token) (front rest : List Token) (type : Written) (items : List InitialItem) →
      BeginsDeclaration name colon → IsType left front type → MayBeOf section type → HasEnd section type.innermost
      → IsEnding of section (in_array (length type.arrays)) rest items
      → IsDeclaration of section left name (colon ∷ (front ++ rest)) (with_initial type items)
  struct_head : (colon : Token) (front : List Token) (type : Written) →
      BeginsDeclaration name colon → IsType left front type → MayBeOf section type → type.innermost ≡ inner.Struct
      → IsDeclaration of section left name (colon ∷ front) type

-- the tokens after a name begin a declaration with a type or a value of a kind that is not supported: an ARRAY or a
-- STRUCT of formals, and DATE_AND_TIME where the section does not take it
pub data LeavesOutDeclaration (of : BlockKind) (section : Section) (left : ℕ) (name : Token)
    : List Token → Kind → Type 0 where
  complex_formal : (colon : Token) (rest : List Token) →
      BeginsDeclaration name colon → is_formal section ≡ true → begins_complex rest ≡ true
      → LeavesOutDeclaration of section left name (colon ∷ rest) kind.ComplexParameter
  in_type : (colon : Token) (rest : List Token) (k : Kind)
      → BeginsDeclaration name colon → (is_formal section && begins_complex rest) ≡ false
      → LeavesOutType left rest k → LeavesOutDeclaration of section left name (colon ∷ rest) k
  with_date : (colon : Token) (front rest : List Token) (type : Written)
      → BeginsDeclaration name colon → IsType left front type → MayBeOf section type
      → type.innermost ≡ inner.DateAndTime → takes_dates section ≡ false
      → LeavesOutDeclaration of section left name (colon ∷ (front ++ rest)) kind.DateTime
  in_ending : (colon : Token) (front rest : List Token) (type : Written) (k : Kind) →
      BeginsDeclaration name colon → IsType left front type → MayBeOf section type → HasEnd section type.innermost
      → LeavesOutEnding of section (in_array (length type.arrays)) rest k
      → LeavesOutDeclaration of section left name (colon ∷ (front ++ rest)) k
