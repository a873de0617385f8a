-- Names where a written place may stand, form by form.
use Rattle.std.specs.Prelude.{◌≡◌, ℕ, ℤ, pos, neg_ℤ, true, List, [], ◌∷◌, ◌++◌, codes, Some}
use Rattle.s7_base.specs.declared.token.Token.{Token}
use Rattle.stl_statement_grammar.specs.Constants.{begins_glued}
use Rattle.stl_statement_grammar.specs.Paths.{number_word}
use Rattle.stl_statement_grammar.specs.Words.{is_joined, is_joined_word, is_quoted_kind, is_sign, is_word_kind}
use Rattle.stl_tree.specs.declared.raw.PathStep.{PathStep}
use Rattle.stl_tree.specs.declared.raw.PathStep.TheVariants.{Index, Name}
use Rattle.stl_tree.specs.declared.raw.RawOperand.{RawOperand}
use Rattle.stl_tree.specs.declared.raw.RawOperand.TheVariants.{InBlock, Local, Named}

-- items one after the other
pub data AreMany {A : Type 0} (IsItem : List Token → A → Type 0) : List Token → List A → Type 0 where
  none : AreMany IsItem [] []
  more : (front rest : List Token) (item : A) (items : List A) →
      IsItem front item → AreMany IsItem rest items → AreMany IsItem (front ++ rest) (item ∷ items)

-- a whole number: `5`, or `-5` without a blank
pub data IsWhole : List Token → ℤ → Type 0 where
  plain : (word : Token) (n : ℕ) → number_word word ≡ Some n → IsWhole (word ∷ []) (pos n)
  minus : (sign word : Token) (n : ℕ) →
      is_sign (codes "-") sign ≡ true → word.glued ≡ true → number_word word ≡ Some n
      → IsWhole (sign ∷ word ∷ []) (neg_ℤ (pos n))

-- a comma and a whole number
pub data IsNextIndex : List Token → ℤ → Type 0 where
  next : (comma : Token) (rest : List Token) (index : ℤ) →
      is_sign (codes ",") comma ≡ true → IsWhole rest index → IsNextIndex (comma ∷ rest) index

-- indices after their bracket: `1, -2]`
pub data IsIndices : List Token → List ℤ → Type 0 where
  indices : (front rest : List Token) (close : Token) (index : ℤ) (others : List ℤ) →
      IsWhole front index → AreMany IsNextIndex rest others → is_sign (codes "]") close ≡ true
      → IsIndices (front ++ (rest ++ (close ∷ []))) (index ∷ others)

-- a step: `.a`, with no blank before the point and the name, or `[1, -2]`
pub data IsStep : List Token → PathStep → Type 0 where
  component : (point word : Token) →
      is_joined (codes ".") point ≡ true → is_joined_word word ≡ true → IsStep (point ∷ word ∷ []) (Name word.text)
  element : (before : Token) (rest : List Token) (indices : List ℤ) →
      is_sign (codes "[") before ≡ true → IsIndices rest indices → IsStep (before ∷ rest) (Index indices)

-- a path: a name and steps
pub data IsPath : List Token → List PathStep → Type 0 where
  path : (word : Token) (rest : List Token) (steps : List PathStep) →
      is_word_kind word.kind ≡ true → AreMany IsStep rest steps → IsPath (word ∷ rest) (Name word.text ∷ steps)

-- a name: `"name"`, `"db".path` or `#path`
pub data IsNamed : List Token → RawOperand → Type 0 where
  name : (quoted : Token) → is_quoted_kind quoted.kind ≡ true → IsNamed (quoted ∷ []) (Named quoted.text)
  in_block : (quoted point : Token) (rest : List Token) (steps : List PathStep) →
      is_quoted_kind quoted.kind ≡ true → is_joined (codes ".") point ≡ true → begins_glued rest ≡ true
      → IsPath rest steps → IsNamed (quoted ∷ point ∷ rest) (InBlock quoted.text steps)
  local : (hash : Token) (rest : List Token) (steps : List PathStep) →
      is_sign (codes "#") hash ≡ true → begins_glued rest ≡ true → IsPath rest steps
      → IsNamed (hash ∷ rest) (Local steps)
