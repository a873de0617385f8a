use Rattle.std.proofs.Common.{◌≡◌, take, ℕ, replicate}
use Rattle.std.specs.List.{flat_map}
use Rattle.st_scopes.proofs.global.runs_of.Given as goal

abbrev pub invariant-loop-run : goal.invariant-loop-run
invariant-loop-run l = l.bytes.items ≡ flat_map (λ (run : ℕ × ℕ). replicate run.0 run.1) (take l.run-index l.runs)
