-- Which blocks are reached, as truth values, one for each block.
use Rattle.std.specs.Prelude.{◌≡◌, ℕ, ◌<◌, Bool, true, List, length, get_or}
use Rattle.stl_tree.specs.Segments.{IsReached, Ways}

-- truth values say which blocks a path from the first one reaches
pub record AreReached (blocks : List Ways) (seen : List Bool) : Type 0 where
  pub size : length seen ≡ length blocks
  pub sound : (i : ℕ) → i < length seen → get_or seen i true ≡ true → IsReached blocks i
  pub complete : (i : ℕ) → IsReached blocks i → get_or seen i true ≡ true
