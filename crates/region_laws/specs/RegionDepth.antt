-- How deep the lists of the statements of a region stand in one another.
-- Held against: this project's own bounds.
use Rattle.std.specs.Prelude.{ℕ, suc, max, List, [], ◌∷◌}
use Rattle.region_laws.specs.Regions.{Region, again, choose, cycle, ended, fork, labels_from, leaves, node, off, quit, selector, table, turn_to}

-- the greatest over some numbers
abbrev pub most_of : (ℕ → ℕ) → List ℕ → ℕ
most_of count [] = 0
most_of count (n ∷ rest) = max (count n) (most_of count rest)

-- how deep lists of statements stand in one another, apart from those of steps
abbrev pub depth : Region → ℕ
depth off = 0
depth leaves = 0
depth again = 0
depth ended = 0
depth (node steps rest) = depth rest
depth (fork steps e there behind join rest) = max (suc (max (depth there) (depth behind))) (depth rest)
depth (quit steps e rest) = max 1 (depth rest)
depth (table steps e count arms join rest) =
    max (suc (most_of (λ n. depth (arms n)) (labels_from 0 (suc count)))) (depth rest)
depth (choose steps e targets nodes arms other join rest) =
    max (suc (max (most_of (λ j. depth (arms j)) nodes) (depth other))) (depth rest)
depth (cycle body behind rest) = max (suc (depth body)) (depth rest)
depth (turn_to j rest) = depth rest
depth (selector labels arms behind rest) = max (suc (suc (most_of (λ n. depth (arms n)) labels))) (depth rest)
