-- Where a body of blocks can be cut. Which blocks a path from the first one reaches, and between which blocks no jump
-- passes.
-- Held against: this project's own segments.
use Rattle.std.specs.Prelude.{◌≡◌, ℕ, suc, ◌<◌, ◌≤◌, ◌⊎◌, Bool, true, List, [], ◌∷◌, length, slice_get, Some}

-- the ways after a block, by the numbers of blocks: those to which it jumps, and whether the next one may follow it
pub record Ways : Type 0 where
  pub jumps : List ℕ
  pub falls : Bool

-- a number is one of some
abbrev pub IsOneOf : ℕ → List ℕ → Type 0
IsOneOf n [] = ⊥
IsOneOf n (m ∷ rest) = (n ≡ m) ⊎ IsOneOf n rest

-- a block jumps to a block
abbrev pub JumpsTo : List Ways → ℕ → ℕ → Type 0
JumpsTo blocks s t = (ways : Ways) × (slice_get blocks s ≡ Some ways) × IsOneOf t ways.jumps

-- the next block may follow a block
abbrev pub FallsFrom : List Ways → ℕ → Type 0
FallsFrom blocks s = (ways : Ways) × (slice_get blocks s ≡ Some ways) × (ways.falls ≡ true)

-- a path from the first block reaches a block
pub data IsReached (blocks : List Ways) : ℕ → Type 0 where
  first : IsReached blocks 0
  jump : {s t : ℕ} → IsReached blocks s → JumpsTo blocks s t → IsReached blocks t
  fall : {s : ℕ} → IsReached blocks s → FallsFrom blocks s → IsReached blocks (suc s)

-- a jump from one block to another passes over the point before a block: forward over a block between them, or back
abbrev pub PassesOver : ℕ → ℕ → ℕ → Type 0
PassesOver s t q = ((s < q) × (q < t)) ⊎ ((t < q) × (q ≤ s))

-- no jump of a block that is reached passes over the point before a block
pub record IsCut (blocks : List Ways) (q : ℕ) : Type 0 where
  pub there : q < length blocks
  pub free : (s t : ℕ) → IsReached blocks s → JumpsTo blocks s t → PassesOver s t q → ⊥

-- numbers in ascending order, each greater than one
abbrev pub AreAscendingAfter : ℕ → List ℕ → Type 0
AreAscendingAfter n [] = Unit {0}
AreAscendingAfter n (m ∷ rest) = (n < m) × AreAscendingAfter m rest

abbrev pub AreAscending : List ℕ → Type 0
AreAscending [] = Unit {0}
AreAscending (n ∷ rest) = AreAscendingAfter n rest

-- the cuts of some blocks: all points before a block over which no such jump passes, in ascending order
pub record AreCuts (blocks : List Ways) (cuts : List ℕ) : Type 0 where
  pub ascending : AreAscending cuts
  pub each : (q : ℕ) → IsOneOf q cuts → IsCut blocks q
  pub all : (q : ℕ) → IsCut blocks q → IsOneOf q cuts
