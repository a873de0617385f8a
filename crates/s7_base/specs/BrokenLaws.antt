-- The first of some broken rules is one of them before which no other comes.
use Rattle.std.specs.Prelude.{◌≡◌, ℕ, false, List, [], slice_get, Some, None}
use Rattle.s7_base.specs.Broken.{comes_before, first_of_all}
use Rattle.s7_base.specs.declared.rule_break.Break.{Break}

-- a broken rule is one of some, and none of them comes before it
pub record IsFirst (breaks : List Break) (b : Break) : Type 0 where
  pub number : ℕ
  pub among : slice_get breaks number ≡ Some b
  pub none_before : (k : ℕ) (c : Break) → slice_get breaks k ≡ Some c → comes_before c b ≡ false

-- the first of some broken rules is one of them before which no other comes, and without broken rules there is none
pub record FirstOfAll : Type 0 where
  pub some : (breaks : List Break) (b : Break) → first_of_all breaks ≡ Some b → IsFirst breaks b
  pub none : (breaks : List Break) → first_of_all breaks ≡ None → breaks ≡ []
