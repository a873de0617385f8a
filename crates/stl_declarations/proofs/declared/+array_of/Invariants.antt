use Rattle.std.proofs.Common.{length}
use Rattle.stl_declarations.proofs.declared.+array_of.Given as goal

abbrev pub decreases-array_of : goal.decreases-array_of
decreases-array_of l = length l.arrays
