-- Lists with commas between their elements, form by form.
use Rattle.std.specs.Prelude.{◌≡◌, ℕ, true, List, [], ◌∷◌, ◌++◌, codes}
use Rattle.s7_base.specs.declared.reason.Kind.{Kind}
use Rattle.s7_base.specs.declared.token.Token.{Token}
use Rattle.stl_statement_grammar.specs.Words.{is_sign}

-- one element or several with commas between them, and the sign after the last
pub data AreElements {A : Type 0} (IsElement : List Token → A → Type 0)
    (close : List ℕ) : List Token → List A → Type 0 where
  last : (front : List Token) (sign : Token) (a : A) →
      IsElement front a → is_sign close sign ≡ true → AreElements IsElement close (front ++ (sign ∷ [])) (a ∷ [])
  more : (front : List Token) (comma : Token) (rest : List Token) (a : A) (others : List A) →
      IsElement front a → is_sign (codes ",") comma ≡ true → AreElements IsElement close rest others
      → AreElements IsElement close (front ++ (comma ∷ rest)) (a ∷ others)

-- tokens begin with an element of a kind that is not supported, with elements and their commas before it
pub data LeavesOutElement {A : Type 0} (IsElement : List Token → A → Type 0)
    (LeavesOut : List Token → Kind → Type 0) : List Token → Kind → Type 0 where
  here : (tokens : List Token) (kind : Kind) → LeavesOut tokens kind → LeavesOutElement IsElement LeavesOut tokens kind
  behind : (front : List Token) (comma : Token) (rest : List Token) (a : A) (kind : Kind) →
      IsElement front a → is_sign (codes ",") comma ≡ true → LeavesOutElement IsElement LeavesOut rest kind
      → LeavesOutElement IsElement LeavesOut (front ++ (comma ∷ rest)) kind
