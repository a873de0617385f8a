use Rattle.std.proofs.Common.{◌≡◌, length}
use Rattle.block_calls.proofs.stack.new_frames.Given as goal

abbrev pub invariant-loop : goal.invariant-loop
invariant-loop l = length l.frames.items ≡ l.counter
