-- How it is found where the blocks of a body begin.
use Rattle.std.specs.Prelude.{◌≡◌, ℕ, suc, ◌<◌, ◌==◌, Bool, true, false, ◌&&◌, ◌||◌, List, [], ◌∷◌, Option, Some, None, length, get_or, slice_set}
use Rattle.stl_tree.specs.Accepted.{targets_of}
use Rattle.stl_tree.specs.Blocks.{begins_at, goes_elsewhere, still_listed}
use Rattle.stl_tree.specs.declared.program.Instr.{Instr}

-- marks of positions after one more is marked
abbrev pub mark : List Bool → Option ℕ → List Bool
mark marks None = marks
mark marks (Some to) = slice_set marks to true

-- marks of positions after each of some is marked
abbrev pub mark_all : List Bool → List ℕ → List Bool
mark_all marks [] = marks
mark_all marks (to ∷ rest) = mark_all (slice_set marks to true) rest

-- marks of positions after those to which an instruction jumps are marked
abbrev pub mark_of : List Bool → Instr → List Bool
mark_of marks i = mark_all marks (targets_of i.op)

-- which of the instructions from a position on begin a block, where the marked ones are jumped to; whether the first
-- one follows the last one of a block, and how many JU of a jump list are to come before it
abbrev pub begins_from : List Bool → Bool → ℕ → ℕ → List Instr → List Bool
begins_from aimed after n at [] = []
begins_from aimed after n at (i ∷ rest) =
    (after || get_or aimed at false)
    ∷ begins_from aimed (goes_elsewhere i.op && (still_listed i.op n == 0)) (still_listed i.op n) (suc at) rest

-- the numbers of the blocks that begin at positions, from a number on
abbrev pub number_next : Bool → ℕ → ℕ
number_next true n = suc n
number_next false n = n

abbrev pub numbers_from : ℕ → List Bool → List ℕ
numbers_from n [] = []
numbers_from n (begins ∷ rest) = n ∷ numbers_from (number_next begins n) rest

-- truth values say at which positions of a body blocks begin
pub record AreBeginnings (body : List Instr) (begins : List Bool) : Type 0 where
  pub size : length begins ≡ length body
  pub each : (k : ℕ) → k < length body → get_or begins k false ≡ begins_at body k
