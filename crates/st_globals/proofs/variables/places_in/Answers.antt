use Rattle.std.proofs.Common.{[], ap, ◌∙◌, fold}
use Rattle.st_globals.specs.inner.Tables.{with_stmt_keys, with_unit_keys}
use Rattle.st_globals.proofs.Marking.{next_keys, unit_keys}
use Rattle.st_globals.proofs.variables.places_in.Goals as goal

pub loop-unit-preserved : goal.loop-unit-preserved
loop-unit-preserved c =
    next_keys with_unit_keys [] c.args.units.now c.loop-unit.unit-index c.unit-item.result c.loop-unit-test.true c.unit-item.is
    c.loop-unit.keys.keys c.put_body.new.keys.keys c.loop-unit.invariant
    (c.in_ok-put_body.ensures ∙ ap (fold with_stmt_keys c.loop-unit.keys.keys) c.as_slice.ensures
    ∙ unit_keys c.unit-item.result c.loop-unit.keys.keys)
