use Rattle.std.proofs.Common.{◌≡◌, ap, sym, ◌∙◌}
use Rattle.std.specs.Option.{option_map}
use Rattle.std.specs.Prelude.{Option, Some}
use Rattle.symbol_layout.proofs.Turns.{kept_low, one_step}
use Rattle.stl_rules.specs.Paths.{Placed, after_step, after_path}
use Rattle.symbol_layout.specs.Kept.{capped_placed, placed_of_code}
use Rattle.symbol_layout.proofs.path.after_path.Goals as goal

pub loop-step-preserved : goal.loop-step-preserved
loop-step-preserved c =
    let at : Placed = placed_of_code c.loop-step.at in
    let next : Placed = placed_of_code c.in_ok-at.at in
    let found : Option Placed = after_step at.0 at.1 c.step-item.result in
    let e : Some next ≡ capped_placed found = ap (option_map placed_of_code) (sym c.in_ok-at.was) ∙ c.after_step.ensures in (
      kept_low found next e,
      one_step c.args.path.now c.loop-step.step-index c.step-item.result at c.loop-step-test.true c.step-item.is
          (capped_placed (after_path c.args.path.now (placed_of_code c.args.start))) c.loop-step.invariant.1 next e,
    )
