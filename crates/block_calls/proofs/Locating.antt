-- The actuals of a call are found one after another.
use Rattle.std.proofs.Common.{◌≡◌, ℕ, ◌+◌, List, [], ◌∷◌, ◌++◌, Option, Result, Ok, Err, refl, sym, ap, ◌∙◌}
use Rattle.std.proofs.lemmas.List.{append_assoc}
use Rattle.memory_areas.specs.Access.{and_then}
use Rattle.memory_areas.specs.declared.place.Place.{Place}
use Rattle.s7_base.specs.declared.outcome.Fault.{Fault}
use Rattle.stl_tree.specs.Calls.{actual_place, actual_places}
use Rattle.stl_tree.specs.Now.{Now}
use Rattle.stl_tree.specs.declared.program.Actual.{Actual}
use Rattle.stl_tree.specs.declared.program.Formal.{Formal}

-- the places that are found, and those of the formals that are left
abbrev pub with_rest : List (Option Place) → Result (List (Option Place)) Fault → Result (List (Option Place)) Fault
with_rest places rest = and_then rest (λ more. Ok (places ++ more))

-- what is found in all, where some places are found and some formals are left
abbrev pub in_all : ℕ → ℕ → List Formal → List Actual → Now → List (Option Place) → Result (List (Option Place)) Fault
in_all d k formals actuals now places = with_rest places (actual_places d k formals actuals now)

pub one_found : (d k : ℕ) (f : Formal) (formals : List Formal) (a : Actual)
    (actuals : List Actual) (now : Now) (places : List (Option Place)) (p : Option Place)
    → actual_place d k f.width a now ≡ Ok p
    → in_all d k (f ∷ formals) (a ∷ actuals) now places ≡ in_all d (k + 1) formals actuals now (places ++ p ∷ [])
one_found d k f formals a actuals now places p e =
    ap
    (λ (r : Result (Option Place) Fault). with_rest places (and_then r (λ q. and_then (actual_places d (k + 1) formals actuals now) (λ more. Ok (q ∷ more))))) e
    ∙ by (actual_places d (k + 1) formals actuals now)
  where
    by : (r : Result (List (Option Place)) Fault) → with_rest places (and_then r (λ more. Ok (p ∷ more))) ≡ with_rest (places ++ p ∷ []) r
    by (Ok more) = ap (λ (x : List (Option Place)). Ok x) (sym (append_assoc places (p ∷ []) more))
    by (Err f) = refl
