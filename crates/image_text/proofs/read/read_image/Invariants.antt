use Rattle.std.proofs.Common.{◌≡◌, ◌==◌, length}
use Rattle.std.specs.List.{slice_split}
use Rattle.memory_areas.specs.Areas.{IsMemoryOf}
use Rattle.image_text.specs.Image.{image_of, lines_on}
use Rattle.image_text.specs.inner.Fields.{IsUsable}
use Rattle.image_text.proofs.read.read_image.Given as goal

-- the lines that are left, on the memory so far, give what the image gives
abbrev pub invariant-loop-memory : goal.invariant-loop-memory
invariant-loop-memory l = record {
  usable : IsUsable l.memory;
  same : lines_on l.line (slice_split (λ b. b == 10) l.rest) l.memory ≡ image_of l.bytes l.blocks;
  memory : IsMemoryOf l.blocks l.memory.areas;
}

abbrev pub decreases-loop-memory : goal.decreases-loop-memory
decreases-loop-memory l = length l.rest
