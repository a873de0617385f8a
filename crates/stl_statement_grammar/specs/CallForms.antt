-- The operands of calls, form by form.
use Rattle.std.specs.Prelude.{◌≡◌, ℕ, true, false, List, [], ◌∷◌, ◌++◌, length, drop, codes, Some}
use Rattle.digit_texts.specs.Digits.{kept_number}
use Rattle.s7_base.specs.declared.token.Token.{Token}
use Rattle.s7_base.specs.declared.word.Width.TheVariants as width
use Rattle.stl_statement_grammar.specs.BlockNames.{is_numbered}
use Rattle.stl_statement_grammar.specs.CallOperands.{actual, function_alone, function_call, instance_call}
use Rattle.stl_statement_grammar.specs.ConstantForms.{IsConstant}
use Rattle.stl_statement_grammar.specs.Constants.{constant}
use Rattle.stl_statement_grammar.specs.ListForms.{AreElements}
use Rattle.stl_statement_grammar.specs.PathForms.{IsNamed}
use Rattle.stl_statement_grammar.specs.Paths.{number_word}
use Rattle.stl_statement_grammar.specs.PlaceForms.{IsPlace}
use Rattle.stl_statement_grammar.specs.PointerForms.{IsPointerConstant}
use Rattle.stl_statement_grammar.specs.Words.{is_quoted_kind, is_sign, is_word, is_word_kind}
use Rattle.stl_tree.specs.declared.raw.Constant.{Constant as Literal}
use Rattle.stl_tree.specs.declared.raw.RawActual.{RawActual}
use Rattle.stl_tree.specs.declared.raw.RawName.{RawName}
use Rattle.stl_tree.specs.declared.raw.RawName.TheVariants.{Name, Number}
use Rattle.stl_tree.specs.declared.raw.RawOperand.{RawOperand}
use Rattle.stl_tree.specs.declared.raw.RawOperand.TheVariants.{At, Constant, Pointer}
use Rattle.stl_tree.specs.declared.raw.RawPlace.{RawPlace}
use Rattle.stl_tree.specs.declared.raw.RawPointer.{RawPointer}

-- the name of a block of this kind: a name in quotes, `OB 1` or `OB1`
pub data IsName : List ℕ → List Token → RawName → Type 0 where
  quoted : (kind : List ℕ) (word : Token) → is_quoted_kind word.kind ≡ true → IsName kind (word ∷ []) (Name word.text)
  apart : (kind : List ℕ) (word number : Token) (n : ℕ) →
      is_quoted_kind word.kind ≡ false → is_word kind word ≡ true → number_word number ≡ Some n
      → IsName kind (word ∷ number ∷ []) (Number n)
  together : (kind : List ℕ) (word : Token) (n : ℕ) →
      is_quoted_kind word.kind ≡ false → is_word kind word ≡ false → is_numbered kind word ≡ true
      → kept_number (drop (length kind) word.text) ≡ Some n → IsName kind (word ∷ []) (Number n)

-- what is given to a formal: `TRUE`, `FALSE`, another constant, a pointer, a written place, or a name
pub data IsActualValue : List Token → RawOperand → Type 0 where
  truth : (word : Token) → is_word (codes "TRUE") word ≡ true
      → IsActualValue (word ∷ []) (Constant (constant width.Bit 1))
  falsity : (word : Token) → is_word (codes "FALSE") word ≡ true
      → IsActualValue (word ∷ []) (Constant (constant width.Bit 0))
  constant_given : (tokens : List Token) (c : Literal) → IsConstant tokens c → IsActualValue tokens (Constant c)
  pointer_given : (tokens : List Token) (p : RawPointer) → IsPointerConstant tokens p
      → IsActualValue tokens (Pointer p)
  place_given : (tokens : List Token) (place : RawPlace) → IsPlace tokens place → IsActualValue tokens (At place)
  name_given : (tokens : List Token) (operand : RawOperand) → IsNamed tokens operand → IsActualValue tokens operand

-- an actual: `formal := value`
pub data IsActual : List Token → RawActual → Type 0 where
  assigned : (name assign : Token) (rest : List Token) (value : RawOperand) →
      is_word_kind name.kind ≡ true → is_sign (codes ":=") assign ≡ true → IsActualValue rest value
      → IsActual (name ∷ assign ∷ rest) (actual name value)

-- the actuals of a call: none, or some in brackets with commas between them
pub data AreActuals : List Token → List RawActual → Type 0 where
  none_given : AreActuals [] []
  some_given : (before : Token) (rest : List Token) (actuals : List RawActual) →
      is_sign (codes "(") before ≡ true → AreElements IsActual (codes ")") rest actuals
      → AreActuals (before ∷ rest) actuals

-- the operand of CALL: a function and its actuals, or a function block, the data block of an instance, and its actuals
pub data IsCalled : List Token → RawOperand → Type 0 where
  function : (front rest : List Token) (name : RawName) (actuals : List RawActual) →
      IsName (codes "FC") front name → AreActuals rest actuals → IsCalled (front ++ rest) (function_call name actuals)
  function_block : (front : List Token) (comma : Token) (middle rest : List Token) (name db : RawName)
      (actuals : List RawActual)
      → IsName (codes "FB") front name → is_sign (codes ",") comma ≡ true → IsName (codes "DB") middle db
      → AreActuals rest actuals → IsCalled (front ++ (comma ∷ (middle ++ rest))) (instance_call name db actuals)

-- the operand of UC and CC: a function
pub data IsCalledAlone : List Token → RawOperand → Type 0 where
  alone : (tokens : List Token) (name : RawName) →
      IsName (codes "FC") tokens name → IsCalledAlone tokens (function_alone name)
