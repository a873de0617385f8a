-- What is read at the front of tokens, with others behind it.
use Rattle.std.proofs.Common.{◌≡◌, ℕ, ◌+◌, List, [], ◌∷◌, ◌++◌, length, drop, Option, Some, None, refl, sym, ap, subst, ◌∙◌, arith}
use Rattle.std.proofs.Math.Seq.{drop-append_seam}
use Rattle.std.proofs.lemmas.List.{append-nil, append_assoc, length-append}
use Rattle.s7_base.specs.declared.token.Token.{Token}
use Rattle.stl_statement_grammar.specs.Readers.{and_then, fitting, further, or_else, read_as}
use Rattle.stl_statement_grammar.specs.declared.mnemonic.Read.{Read}
use Rattle.stl_statement_grammar.specs.declared.mnemonic.Read.TheVariants.{Fits, LeftOut, No}
use Rattle.stl_constants.proofs.Reading.{AllOf}

-- tokens of which the first so many are so
pub record Front (tokens : List Token) (size : ℕ) (P : List Token → Type 0) : Type 0 where
  pub front : List Token
  pub rest : List Token
  pub is : front ++ rest ≡ tokens
  pub size_is : length front ≡ size
  pub holds : P front

-- what was read of the first tokens is so
abbrev pub FrontOf : {A : Type 0} → List Token → (List Token → A → Type 0) → Read A → Type 0
FrontOf tokens P No = Unit {0}
FrontOf tokens P (LeftOut kind) = Unit {0}
FrontOf tokens P (Fits a size) = Front tokens size (λ front. P front a)

-- From what is read to its form

pub fitting_front : {A : Type 0} (tokens : List Token) (size : ℕ) (P : List Token → A → Type 0) (o : Option A) →
    ((a : A) → o ≡ Some a → Front tokens size (λ front. P front a)) → FrontOf tokens P (fitting size o)
fitting_front tokens size P None make = tt
fitting_front tokens size P (Some a) make = make a refl

pub or_front : {A : Type 0} (tokens : List Token) (P : List Token → A → Type 0) (a b : Read A)
    → FrontOf tokens P a → FrontOf tokens P b → FrontOf tokens P (or_else a b)
or_front tokens P No b p q = q
or_front tokens P (LeftOut kind) b p q = p
or_front tokens P (Fits a size) b p q = p

-- what is known of the tokens in front may be used
pub as_front : {A B : Type 0} (tokens : List Token) (make : A → B) (P : List Token → A → Type 0) (Q : List Token → B → Type 0)
    → ((front rest : List Token) (a : A) → front ++ rest ≡ tokens → P front a → Q front (make a))
    → (r : Read A) → FrontOf tokens P r → FrontOf tokens Q (read_as make r)
as_front tokens make P Q h No p = tt
as_front tokens make P Q h (LeftOut kind) p = tt
as_front tokens make P Q h (Fits a size) p = record { front = p.front; rest = p.rest; is = p.is; size_is = p.size_is; holds = h p.front p.rest a p.is p.holds }

pub refined : {A : Type 0} (tokens : List Token) (P Q : List Token → A → Type 0) →
    ((front rest : List Token) (a : A) → front ++ rest ≡ tokens → P front a → Q front a) → (r : Read A) → FrontOf tokens P r → FrontOf tokens Q r
refined tokens P Q h No p = tt
refined tokens P Q h (LeftOut kind) p = tt
refined tokens P Q h (Fits a size) p = record { front = p.front; rest = p.rest; is = p.is; size_is = p.size_is; holds = h p.front p.rest a p.is p.holds }

-- behind other tokens
pub further_front : {A : Type 0} (before tokens : List Token) (P : List Token → A → Type 0) (r : Read A) → FrontOf tokens (λ more a. P (before ++ more) a) r →
    FrontOf (before ++ tokens) P (further (length before) r)
further_front before tokens P No f = tt
further_front before tokens P (LeftOut kind) f = tt
further_front before tokens P (Fits a size) f =
    record {
      front = before ++ f.front;
      rest = f.rest;
      is = append_assoc before f.front f.rest ∙ ap (λ ts. before ++ ts) f.is;
      size_is = length-append before f.front ∙ ap (λ n. length before + n) f.size_is;
      holds = f.holds;
    }

-- behind what was read something else
pub and_then_at : {A B : Type 0} (tokens : List Token) (P : List Token → A → Type 0) (Q : List Token → B → Type 0) (r : Read A) (next : A → List Token → Read B)
    → FrontOf tokens P r
    → ((front rest : List Token) (a : A) → front ++ rest ≡ tokens → P front a → FrontOf rest (λ more b. Q (front ++ more) b) (next a rest))
    → FrontOf tokens Q (and_then tokens r next)
and_then_at tokens P Q No next f h = tt
and_then_at tokens P Q (LeftOut kind) next f h = tt
and_then_at tokens P Q (Fits a size) next f h =
    let behind : FrontOf (f.front ++ f.rest) Q (further (length f.front) (next a f.rest)) =
    further_front f.front f.rest Q (next a f.rest) (h f.front f.rest a f.is f.holds) in
    let dropped : FrontOf (f.front ++ f.rest) Q (further (length f.front) (next a (drop (length f.front) (f.front ++ f.rest)))) =
    subst (λ (ts : List Token). FrontOf (f.front ++ f.rest) Q (further (length f.front) (next a ts))) (sym (drop-append_seam f.front f.rest)) behind in
    let sized : FrontOf (f.front ++ f.rest) Q (further size (next a (drop size (f.front ++ f.rest)))) =
    subst (λ (n : ℕ). FrontOf (f.front ++ f.rest) Q (further n (next a (drop n (f.front ++ f.rest))))) f.size_is dropped in
    subst (λ (ts : List Token). FrontOf ts Q (further size (next a (drop size ts)))) f.is sized

pub and_then_front : {A B : Type 0} (tokens : List Token) (P : List Token → A → Type 0)
    (Q : List Token → B → Type 0) (r : Read A) (next : A → List Token → Read B) → FrontOf tokens P r
    → ((front rest : List Token) (a : A) → P front a → FrontOf rest (λ more b. Q (front ++ more) b) (next a rest)) → FrontOf tokens Q (and_then tokens r next)
and_then_front tokens P Q r next f h = and_then_at tokens P Q r next f (λ front rest a is holds. h front rest a holds)

-- what was read of all tokens
pub front_all : {A : Type 0} (tokens : List Token) (P : List Token → A → Type 0) (r : Read A) → FrontOf tokens P r → AllOf (length tokens) (P tokens) r
front_all tokens P No f = tt
front_all tokens P (LeftOut kind) f = tt
front_all tokens P (Fits a size) f = λ all. whole f.front f.rest f.is (f.size_is ∙ all) f.holds
  where
    whole : (front rest : List Token) → front ++ rest ≡ tokens → length front ≡ length tokens → P front a → P tokens a
    whole front [] is same holds = subst (λ (ts : List Token). P ts a) (sym (append-nil front) ∙ is) holds
    whole front (x ∷ rest) is same holds =
        let sum : length front + length (x ∷ rest) ≡ length tokens = sym (length-append front (x ∷ rest)) ∙ ap (λ (ts : List Token). length ts) is in
        absurd (omega (arith, sum, same))

-- From a form to what is read of it

pub and_then_read : {A B : Type 0} (front rest : List Token) (r : Read A) (a : A) (next : A → List Token → Read B) → r ≡ Fits a (length front) →
    and_then (front ++ rest) r next ≡ further (length front) (next a rest)
and_then_read front rest r a next e =
    ap (λ (x : Read _). and_then (front ++ rest) x next) e ∙ ap (λ (ts : List Token). further (length front) (next a ts)) (drop-append_seam front rest)

-- behind so many tokens as were read all others were
pub further_read : {A : Type 0} (front rest : List Token) (r : Read A) (a : A)
    → r ≡ Fits a (length rest) → further (length front) r ≡ Fits a (length (front ++ rest))
further_read front rest r a e = ap (further (length front)) e ∙ ap (Fits a) (sym (length-append front rest))

-- where nothing was read nothing is behind it
pub and_then_none : {A B : Type 0} (tokens : List Token) (r : Read A) (next : A → List Token → Read B) → r ≡ No → and_then tokens r next ≡ No
and_then_none tokens r next e = ap (λ (x : Read _). and_then tokens x next) e
