use Rattle.std.proofs.Common.{◌≡◌, map, take, Vec, Global, ℕ}
use Rattle.memory_areas.proofs.memory.copies_of.Given as goal

abbrev pub invariant-loop-block : goal.invariant-loop-block
invariant-loop-block l = map (λ (b : Vec ℕ Global). b.items) l.copies.items ≡ map (λ (b : Vec ℕ Global). b.items) (take l.block-index l.blocks)
