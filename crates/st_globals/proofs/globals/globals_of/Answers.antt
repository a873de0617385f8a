use Rattle.std.proofs.Common.{rules, ◌∙◌}
use Rattle.st_globals.specs.Globals.{names_in}
use Rattle.st_globals.specs.Variables.{unit_variables}
use Rattle.st_globals.proofs.Adding.{places_start, start_tracks, symbol_more}
use Rattle.st_globals.proofs.globals.globals_of.Goals as goal

pub loop-symbol-preserved : goal.loop-symbol-preserved
loop-symbol-preserved c =
    let made =
    c.in_ok-add.ensures (names_in c.args.units.now) (unit_variables c.args.units.now)
    (c.in_ok-places.ensures ∙ places_start c.args.units.now) c.loop-symbol.invariant.0 in (
      made.0,
      symbol_more (names_in c.args.units.now) (unit_variables c.args.units.now) c.args.symbols.now
          c.loop-symbol.symbol-index c.symbol-item.result c.loop-symbol-test.true c.symbol-item.is c.loop-symbol.globals.list
          c.add.new.self.list c.loop-symbol.invariant.1 made.1,
    )

pub loop-symbol-init : goal.loop-symbol-init
loop-symbol-init c =
    start_tracks c.args.units.now c.new.result c.in_ok-of_units.field-0 c.new-2.result.entries c.new.ensures
    c.in_ok-of_units.ensures (search rules)
