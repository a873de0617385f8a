-- How deep statements may nest.
-- Held against: this project's own bounds.
use Rattle.std.specs.Prelude.{ℕ}

-- the greatest level of nesting
abbrev pub deepest : ℕ
deepest = 200
