use Rattle.std.proofs.Common.{◌≡◌, ◌++◌, take}
use Rattle.st_rules.specs.Units.{all_units, calls_of_units, all_unit_breaks}
use Rattle.st_types.proofs.unit.put_units.Given as goal

abbrev pub invariant-loop-raw : goal.invariant-loop-raw
invariant-loop-raw l = record {
  outer : l.scope.outer ≡ l.initial.scope.outer;
  formals : l.scope.formals ≡ l.initial.scope.formals;
  units : l.all.units ≡ l.initial.all.units ++ all_units l.initial.scope.outer l.initial.scope.formals (take l.raw-index l.raws);
  calls : l.all.calls ≡ l.initial.all.calls ++ calls_of_units l.initial.scope.outer l.initial.scope.formals (take l.raw-index l.raws);
  breaks : l.all.breaks ≡ l.initial.all.breaks ++ all_unit_breaks l.initial.scope.outer l.initial.scope.formals (take l.raw-index l.raws);
}
