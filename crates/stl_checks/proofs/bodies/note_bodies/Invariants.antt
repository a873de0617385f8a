use Rattle.std.proofs.Common.{◌≡◌, ◌++◌, take}
use Rattle.std.specs.List.{flat_map}
use Rattle.stl_rules.specs.BodyRules.{body_breaks}
use Rattle.stl_checks.proofs.bodies.note_bodies.Given as goal

abbrev pub invariant-loop-block : goal.invariant-loop-block
invariant-loop-block l = l.breaks ≡ l.initial.breaks ++ flat_map body_breaks (take l.block-index l.blocks)
