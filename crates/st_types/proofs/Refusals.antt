-- Refusals of a text from those of its parts.
use Rattle.st_tree.proofs.Common.{◌≡◌, true, ◌==◌, List, [], ◌∷◌, length, None, refl, sym, arith, eqb-true, Rejection}
use Rattle.s7_base.specs.declared.reason.Rejection.TheVariants as rejection
use Rattle.st_rules.proofs.Common.{RawSt, calls_in, chained, first_break, IsChainRefused, IsRefused}

-- a refusal of the chain of calls is one of the text
pub refused_by_chain : (raw : RawSt) (r : Rejection) → first_break raw ≡ None → IsChainRefused (calls_in raw) raw.pous r → IsRefused raw r
refused_by_chain raw (rejection.Refused line rule) e h = chained e h
refused_by_chain raw rejection.NoMemory e h = h

pub is_nil : {X : Type 0} (xs : List X) → true ≡ (length xs == 0) → xs ≡ []
is_nil [] e = refl
is_nil (x ∷ xs) e = let n : length (x ∷ xs) ≡ 0 = eqb-true (length (x ∷ xs)) 0 (sym e) in absurd (omega (arith, n))
