use Rattle.std.proofs.Common.{◌+◌, ℤ, pos, List, ap, sym, ◌∙◌, drop}
use Rattle.std.specs.Option.{option_map}
use Rattle.symbol_layout.proofs.Turns.{further}
use Rattle.stl_rules.specs.Paths.{elements_before}
use Rattle.symbol_layout.specs.Kept.{capped_bits}
use Rattle.symbol_layout.proofs.path.elements_before.Goals as goal

pub loop-dimension-preserved : goal.loop-dimension-preserved
loop-dimension-preserved c =
    let next = further c.loop-dimension.rows c.loop-dimension.dimension-index c.args.bounds.now (pos 0, pos 0)
    c.loop-dimension.rest.now c.loop-dimension-test.true (option_map capped_bits (elements_before 0 c.args.bounds.now c.args.indices.now))
    c.loop-dimension.invariant.1 c.in_ok-rows.rows (sym c.in_ok-rows.was ∙ c.next_row.ensures) in (
      next.0,
      ap (λ (is : List ℤ). option_map capped_bits (elements_before c.in_ok-rows.rows (drop (c.loop-dimension.dimension-index + 1) c.args.bounds.now) is))
          c.rest_after-rest.ensures
          ∙ next.1,
    )
