use Rattle.std.proofs.Common.{◌≡◌, ◌++◌, ◌∷◌, [], ◌∙◌}
use Rattle.st_rules.specs.Units.{unit_of, calls_of_unit, breaks_of_unit}
use Rattle.st_types.proofs.Taken.{mapped, flattened}
use Rattle.st_types.proofs.unit.put_units.Goals as goal

pub loop-raw-preserved : goal.loop-raw-preserved
loop-raw-preserved c =
    let o = c.loop-raw.invariant.outer in
    let f = c.loop-raw.invariant.formals in
    let units : c.with_unit.new.all.units ≡ c.loop-raw.all.units ++ unit_of c.args.scope.now.outer c.args.scope.now.formals c.raw-item.result ∷ [] =
    rw (← o, ← f) c.in_ok-with_unit.ensures.units in
    let calls : c.with_unit.new.all.calls ≡ c.loop-raw.all.calls ++ calls_of_unit c.args.scope.now.outer c.args.scope.now.formals c.raw-item.result ∷ [] =
    rw (← o, ← f) c.in_ok-with_unit.ensures.calls in
    let breaks : c.with_unit.new.all.breaks ≡ c.loop-raw.all.breaks ++ breaks_of_unit c.args.scope.now.outer c.args.scope.now.formals c.raw-item.result =
    rw (← o, ← f) c.in_ok-with_unit.ensures.breaks in
    record {
      outer = c.in_ok-with_unit.ensures.outer ∙ o;
      formals = c.in_ok-with_unit.ensures.formals ∙ f;
      units =
          mapped (unit_of c.args.scope.now.outer c.args.scope.now.formals) c.args.raws.now c.loop-raw.raw-index
          c.raw-item.result _ _ _ c.loop-raw-test.true c.raw-item.is c.loop-raw.invariant.units units;
      calls =
          mapped (calls_of_unit c.args.scope.now.outer c.args.scope.now.formals) c.args.raws.now c.loop-raw.raw-index
          c.raw-item.result _ _ _ c.loop-raw-test.true c.raw-item.is c.loop-raw.invariant.calls calls;
      breaks =
          flattened (breaks_of_unit c.args.scope.now.outer c.args.scope.now.formals) c.args.raws.now c.loop-raw.raw-index
          c.raw-item.result _ _ _ c.loop-raw-test.true c.raw-item.is c.loop-raw.invariant.breaks breaks;
    }
