-- What is read at the front of tokens as left out.
use Rattle.std.proofs.Common.{◌≡◌, ℕ, List, ◌++◌, length, drop, Option, Some, None, sym, ap, subst, ◌∙◌}
use Rattle.std.proofs.Math.Seq.{drop-append_seam}
use Rattle.s7_base.specs.declared.reason.Kind.{Kind}
use Rattle.s7_base.specs.declared.token.Token.{Token}
use Rattle.stl_places.proofs.Fronts.{Front, FrontOf}
use Rattle.stl_statement_grammar.specs.Readers.{and_then, fitting, further, or_else, read_as}
use Rattle.stl_statement_grammar.specs.declared.mnemonic.Read.{Read}
use Rattle.stl_statement_grammar.specs.declared.mnemonic.Read.TheVariants.{Fits, LeftOut, No}

-- the kind of what was left out is so
abbrev pub OutOf : {A : Type 0} → (Kind → Type 0) → Read A → Type 0
OutOf Q No = Unit {0}
OutOf Q (LeftOut kind) = Q kind
OutOf Q (Fits a size) = Unit {0}

pub fitting_out : {A : Type 0} (Q : Kind → Type 0) (size : ℕ) (o : Option A) → OutOf Q (fitting size o)
fitting_out Q size None = tt
fitting_out Q size (Some a) = tt

pub or_out : {A : Type 0} (Q : Kind → Type 0) (a b : Read A) → OutOf Q a → OutOf Q b → OutOf Q (or_else a b)
or_out Q No b p q = q
or_out Q (LeftOut kind) b p q = p
or_out Q (Fits a size) b p q = p

pub as_out : {A B : Type 0} (Q : Kind → Type 0) (make : A → B) (r : Read A) → OutOf Q r → OutOf Q (read_as make r)
as_out Q make No p = tt
as_out Q make (LeftOut kind) p = p
as_out Q make (Fits a size) p = tt

pub further_out : {A : Type 0} (Q : Kind → Type 0) (n : ℕ) (r : Read A) → OutOf Q r → OutOf Q (further n r)
further_out Q n No p = tt
further_out Q n (LeftOut kind) p = p
further_out Q n (Fits a size) p = tt

pub weaker_out : {A : Type 0} (P Q : Kind → Type 0) → ((k : Kind) → P k → Q k) → (r : Read A) → OutOf P r → OutOf Q r
weaker_out P Q h No p = tt
weaker_out P Q h (LeftOut kind) p = h kind p
weaker_out P Q h (Fits a size) p = tt

-- what stands behind the tokens in front
pub dropped : (tokens : List Token) (size : ℕ) (P : List Token → Type 0) (f : Front tokens size P) → drop size tokens ≡ f.rest
dropped tokens size P f =
    ap (λ (n : ℕ). drop n tokens) (sym f.size_is) ∙ ap (λ (ts : List Token). drop (length f.front) ts) (sym f.is) ∙ drop-append_seam f.front f.rest

pub and_then_out : {A B : Type 0} (tokens : List Token) (P : List Token → A → Type 0) (Q : Kind → Type 0) (r : Read A) (next : A → List Token → Read B)
    → FrontOf tokens P r → OutOf Q r
    → ((front rest : List Token) (a : A) → front ++ rest ≡ tokens → P front a → OutOf Q (next a rest)) → OutOf Q (and_then tokens r next)
and_then_out tokens P Q No next f p h = tt
and_then_out tokens P Q (LeftOut kind) next f p h = p
and_then_out {B = B} tokens P Q (Fits a size) next f p h =
    further_out Q size (next a (drop size tokens))
    (subst (λ (ts : List Token). OutOf Q (next a ts)) (sym (dropped tokens size (λ front. P front a) f)) (h f.front f.rest a f.is f.holds))

pub or_left : {A : Type 0} (a b : Read A) (kind : Kind) → a ≡ LeftOut kind → or_else a b ≡ LeftOut kind
or_left a b kind e = ap (λ (r : Read _). or_else r b) e

pub and_then_left : {A B : Type 0} (tokens : List Token) (r : Read A) (next : A → List Token → Read B) (kind : Kind)
    → r ≡ LeftOut kind → and_then tokens r next ≡ LeftOut kind
and_then_left tokens r next kind e = ap (λ (x : Read _). and_then tokens x next) e
