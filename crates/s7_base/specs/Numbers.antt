-- The greatest of some numbers. Of none it is 0.
-- Held against: this project's own arithmetic.
use Rattle.std.specs.Prelude.{ℕ, max, List, [], ◌∷◌}

-- the greatest of some numbers; of none it is 0
abbrev pub greatest : List ℕ → ℕ
greatest [] = 0
greatest (n ∷ ns) = max n (greatest ns)
