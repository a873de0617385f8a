-- Statements in two parts: what the first do, and where they lead.
use Rattle.std.proofs.Common.{◌≡◌, ℕ, List, [], ◌∷◌, ◌++◌, refl, sym, ap, ◌∙◌}
use Rattle.s7_base.specs.declared.outcome.Fault.{Fault}
use Rattle.st_tree.specs.Meaning.{Calls, Continues, Exits, Faults, NoUnits, Normal, Out, Returns, Sem, body_meaning, meaning, then_do}
use Rattle.st_tree.specs.State.{State}
use Rattle.st_tree.specs.declared.program.Located.{Located}
use Rattle.st_tree.specs.declared.program.Stmt.{Stmt}

pub then_in_parts : (o : Out) (f h : Sem) → then_do (then_do o f) h ≡ then_do o (λ units s. then_do (f units s) h)
then_in_parts (Normal units s) f h = refl
then_in_parts (Exits units s) f h = refl
then_in_parts (Continues units s) f h = refl
then_in_parts (Returns units s) f h = refl
then_in_parts (Faults x s) f h = refl
then_in_parts (NoUnits s) f h = refl

module _ (g : List Located) (calls : Calls) where
  pub in_parts : (xs ys : List Stmt) (units : ℕ) (s : State)
      → body_meaning g calls (xs ++ ys) units s ≡ then_do (body_meaning g calls xs units s) (body_meaning g calls ys)
  in_parts [] ys units s = refl
  in_parts (x ∷ xs) ys units s =
      ap (λ (rest : Sem). then_do (meaning g calls x units s) rest) (λ i u t. in_parts xs ys u t i)
      ∙ sym (then_in_parts (meaning g calls x units s) (body_meaning g calls xs) (body_meaning g calls ys))

  module _ (xs : List Stmt) (units : ℕ) (s : State) where
    -- the first come to their end: the others begin where they ended
    pub goes_on_behind : (ys : List Stmt) (left : ℕ) (t : State) → body_meaning g calls xs units s ≡ Normal left t
        → body_meaning g calls (xs ++ ys) units s ≡ body_meaning g calls ys left t
    goes_on_behind ys left t h = in_parts xs ys units s ∙ ap (λ (o : Out). then_do o (body_meaning g calls ys)) h

    -- they fault: so do all
    pub stops_before : (ys : List Stmt) (f : Fault) (t : State) → body_meaning g calls xs units s ≡ Faults f t
        → body_meaning g calls (xs ++ ys) units s ≡ Faults f t
    stops_before ys f t h = in_parts xs ys units s ∙ ap (λ (o : Out). then_do o (body_meaning g calls ys)) h
