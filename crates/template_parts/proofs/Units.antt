-- The running unit, which is the last one of a state, with other locals.
use Rattle.std.proofs.Common.{◌≡◌, List, [], ◌∷◌, ◌++◌, refl, ap}
use Rattle.st_tree.specs.State.{Activation}
use Rattle.st_tree.specs.declared.state.Value.{Value}

-- the activations where the running unit, the last one, has these locals
abbrev pub with_locals : List Value → List Activation → List Activation
with_locals [] [] = []
with_locals (x ∷ xs) [] = record { locals = x ∷ xs; formals = [] } ∷ []
with_locals xs (a ∷ []) = record a { locals = xs } ∷ []
with_locals xs (a ∷ b ∷ rest) = a ∷ with_locals xs (b ∷ rest)

pub last_with : (xs : List Value) (waiting : List Activation) (running : Activation)
    → with_locals xs (waiting ++ running ∷ []) ≡ waiting ++ record running { locals = xs } ∷ []
last_with [] [] running = refl
last_with (x ∷ xs) [] running = refl
last_with xs (a ∷ []) running = ap (λ (rest : List Activation). a ∷ rest) (last_with xs [] running)
last_with xs (a ∷ b ∷ waiting) running = ap (λ (rest : List Activation). a ∷ rest) (last_with xs (b ∷ waiting) running)
