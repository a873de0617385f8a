use Rattle.std.proofs.Common.{ℕ, ◌≤◌, ◌-◌, List, Option, length, take}
use Rattle.s7_io.specs.Sink.{Took}
use Rattle.s7_io.proofs.write.write_all.Given as goal

-- how far the writing has come
pub record Written (taken_before taken : Option (List ℕ)) (faults_before faults : ℕ)
    (bytes : List ℕ) (done : ℕ) : Type 0 where
  pub within : done ≤ length bytes
  pub took : Took taken_before taken (take done bytes)
  pub later : faults_before ≤ faults

abbrev pub invariant-loop-done : goal.invariant-loop-done
invariant-loop-done g l =
    Written (g.K.Sink.taken l.initial.sink) (g.K.Sink.taken l.sink)
    (g.K.Sink.faults l.initial.sink) (g.K.Sink.faults l.sink) l.bytes l.done

-- each write takes a byte
abbrev pub decreases-loop-done : goal.decreases-loop-done
decreases-loop-done g l = length l.bytes - l.done
