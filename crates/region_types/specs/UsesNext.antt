-- How the statements of a region use the local `NEXT`.
-- Held against: this project's own names.
use Rattle.std.specs.Prelude.{◌≡◌, ◌≢◌, ℕ, ◌<◌, ◌≤◌, ◌==◌, Bool, true, []}
use Rattle.std.specs.List.{list_any}
use Rattle.region_laws.specs.Regions.{Region, again, choose, cycle, ended, fork, is_among, leaves, node, off, quit, selector, table, turn_to}

-- where a unit has `NEXT`, or has it not, and so many nodes: `NEXT` is set and read only where the unit has it, to
-- positions of nodes, and each dispatch loop has a node
abbrev pub UsesNext : Bool → ℕ → Region → Type 0
UsesNext has_next many off = Unit {0}
UsesNext has_next many leaves = Unit {0}
UsesNext has_next many again = Unit {0}
UsesNext has_next many ended = Unit {0}
UsesNext has_next many (node steps rest) = UsesNext has_next many rest
UsesNext has_next many (fork steps e there behind join rest) =
    UsesNext has_next many there × UsesNext has_next many behind × UsesNext has_next many rest
UsesNext has_next many (quit steps e rest) = UsesNext has_next many rest
UsesNext has_next many (table steps e count arms join rest) =
    ((n : ℕ) → n ≤ count → UsesNext has_next many (arms n)) × UsesNext has_next many rest
UsesNext has_next many (choose steps e targets nodes arms other join rest) =
    ((j : ℕ) → is_among j nodes ≡ true → UsesNext has_next many (arms j)) × UsesNext has_next many other
    × UsesNext has_next many rest
UsesNext has_next many (cycle body behind rest) = UsesNext has_next many body × UsesNext has_next many rest
UsesNext has_next many (turn_to j rest) = (has_next ≡ true) × (j < many) × UsesNext has_next many rest
UsesNext has_next many (selector labels arms behind rest) =
    (has_next ≡ true) × (labels ≢ [])
    × ((n : ℕ) → list_any (λ label. label == n) labels ≡ true → UsesNext has_next many (arms n))
    × UsesNext has_next many rest
