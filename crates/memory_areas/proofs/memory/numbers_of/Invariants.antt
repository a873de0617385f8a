use Rattle.std.proofs.Common.{◌≡◌, ℕ, ◌^◌, ◌<◌, take}
use Rattle.std.specs.Prelude.{All}
use Rattle.memory_areas.specs.Areas.{numbers_of}
use Rattle.memory_areas.proofs.memory.numbers_of.Given as goal

abbrev pub invariant-loop-block : goal.invariant-loop-block
invariant-loop-block l = record {
  numbers : l.numbers.items ≡ numbers_of (take l.block-index l.blocks);
  small : All (λ (n : ℕ). n < 2 ^ 16) l.numbers.items;
}
