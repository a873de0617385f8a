use Rattle.std.proofs.Common.{◌≡◌, ◌++◌, take}
use Rattle.std.specs.List.{flat_map}
use Rattle.memory_areas.specs.Areas.{numbers_of}
use Rattle.image_text.specs.inner.Fields.{numbered_text}
use Rattle.image_text.proofs.report.put_blocks.Given as goal

abbrev pub invariant-loop-number : goal.invariant-loop-number
invariant-loop-number l = l.out.items ≡ l.initial.out.items ++ flat_map (numbered_text l.memory) (take l.number-index (numbers_of l.memory.areas.blocks))
