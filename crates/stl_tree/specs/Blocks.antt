-- The blocks of a body. It is cut where jumps lead and after jumps, so that the instructions of a block follow one
-- another, and only the last of them goes on elsewhere.
-- Held against: the manual's chapters 'Logic Control' and 'Program Control', and this project's own blocks.
use Rattle.std.specs.Prelude.{◌≡◌, ℕ, zero, suc, ◌+◌, ◌-◌, ◌==◌, ◌<◌, ◌≤◌, Bool, true, false, not, ◌&&◌, ◌||◌, List, [], ◌∷◌, length, drop, take, flat_map}
use Rattle.std.specs.List.{list_any}
use Rattle.stl_tree.specs.Accepted.{targets_of}
use Rattle.stl_tree.specs.declared.program.Instr.{Instr}
use Rattle.stl_tree.specs.declared.program.JumpTest.TheVariants as jump
use Rattle.stl_tree.specs.declared.program.Op.{Op}
use Rattle.stl_tree.specs.declared.program.Op.TheVariants as op

-- Where blocks begin

-- some instruction of a body jumps to a position
abbrev pub is_aimed_at : List Instr → ℕ → Bool
is_aimed_at body at = list_any (λ (i : Instr). list_any (λ to. to == at) (targets_of i.op)) body

-- a jump, a jump list, a block end or BEC
abbrev pub goes_elsewhere : Op → Bool
goes_elsewhere (op.Jump t to) = true
goes_elsewhere (op.Loop to) = true
goes_elsewhere (op.JumpList count label) = true
goes_elsewhere op.BlockEnd = true
goes_elsewhere op.BlockEndIf = true
goes_elsewhere other = false

-- how many JU of a jump list are still to come after an instruction, where so many were before it
abbrev pub still_listed : Op → ℕ → ℕ
still_listed (op.JumpList count label) n = count
still_listed other n = n - 1

-- the instruction at a position is the last one of its block, where so many JU of a jump list are to come before the
-- first; a jump list is so with the last of its JU
abbrev pub is_last_at : ℕ → List Instr → ℕ → Bool
is_last_at n [] at = false
is_last_at n (i ∷ rest) zero = goes_elsewhere i.op && (still_listed i.op n == 0)
is_last_at n (i ∷ rest) (suc at) = is_last_at (still_listed i.op n) rest at

-- a block begins at a position: at the beginning of a body, where a jump leads, and after the last instruction of a
-- block
abbrev pub begins_at : List Instr → ℕ → Bool
begins_at body zero = true
begins_at body (suc at) = is_aimed_at body (suc at) || is_last_at 0 body at

-- Blocks

-- the positions of the instructions of a block: from the first to the one before the last
pub record Extent : Type 0 where
  pub first : ℕ
  pub past : ℕ

-- a block begins where the one before it ends, has at least one instruction, and no block begins inside it
pub record IsBlock (body : List Instr) (at : ℕ) (block : Extent) : Type 0 where
  pub first : block.first ≡ at
  pub some : at < block.past
  pub inside : (k : ℕ) → at < k → k < block.past → begins_at body k ≡ false
  pub next : block.past < length body → begins_at body block.past ≡ true
  pub within : block.past ≤ length body

-- the blocks of a body from a position on
abbrev pub AreBlocksFrom : List Instr → ℕ → List Extent → Type 0
AreBlocksFrom body at [] = at ≡ length body
AreBlocksFrom body at (block ∷ rest) = IsBlock body at block × AreBlocksFrom body block.past rest

-- the blocks of a body, in the order of the source
abbrev pub AreBlocksOf : List Instr → List Extent → Type 0
AreBlocksOf body blocks = AreBlocksFrom body 0 blocks

-- the instructions of a block
abbrev pub instructions_of : List Instr → Extent → List Instr
instructions_of body block = take (block.past - block.first) (drop block.first body)

-- Where they lead

-- how a body goes on after a block: with the next block; at a position; at a position or with the next block; it ends,
-- or the next block follows; at one of some positions, or at a last one; it ends
pub data Way : Type 0 where
  on : Way
  always : ℕ → Way
  if_made : ℕ → Way
  unless_ended : Way
  one_of : List ℕ → ℕ → Way
  stops : Way

-- the way after a block whose last instruction this is
abbrev pub way_after : Op → Way
way_after (op.Jump jump.Always to) = always to
way_after (op.Jump t to) = if_made to
way_after (op.Loop to) = if_made to
way_after (op.JumpList count label) = one_of [] label
way_after op.BlockEnd = stops
way_after op.BlockEndIf = unless_ended
way_after other = on

-- the way after a block, by an instruction, what follows it there, and the way by that; after a jump list its JU follow
abbrev pub way_by : Op → List Instr → Way → Way
way_by (op.JumpList count label) rest way = one_of (flat_map (λ (i : Instr). targets_of i.op) rest) label
way_by other rest way = way

-- the way after a block of these instructions
abbrev pub way_of : List Instr → Way
way_of [] = on
way_of (i ∷ []) = way_after i.op
way_of (i ∷ j ∷ rest) = way_by i.op (j ∷ rest) (way_of (j ∷ rest))
