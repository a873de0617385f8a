use Rattle.st_tree.proofs.Common.{List, length, sym, ap, ◌∙◌, arith, unit_called}
use Rattle.st_runner.proofs.Common.{Pou}
use Rattle.st_runner.proofs.Opening.{called_here, called_later, drop_later, get_here}
use Rattle.st_runner.proofs.calling.unit_called.Goals as goal

pub returns-then-is_meant : goal.returns-then-is_meant
returns-then-is_meant c =
    let here = c.in-Some.ensures.cases.0 in (
      omega (arith, c.loop-unit.invariant.2, ap (λ (xs : List Pou). length xs) here),
      sym c.loop-unit.invariant.0
          ∙ ap (unit_called c.args.block) here
          ∙ called_here c.args.block c.in-Some.unit.now c.in-Some.behind.now (sym c.is_meant.ensures ∙ c.if-is_meant.true)
          ∙ sym (get_here c.args.units.now c.loop-unit.at c.in-Some.unit.now c.in-Some.behind.now (c.loop-unit.invariant.1 ∙ here)),
    )

pub loop-unit-preserved : goal.loop-unit-preserved
loop-unit-preserved c =
    let here = c.in-Some.ensures.cases.0 in (
      sym (ap (unit_called c.args.block) here
          ∙ called_later c.args.block c.in-Some.unit.now c.in-Some.behind.now (sym c.is_meant.ensures ∙ c.if-is_meant.false))
          ∙ c.loop-unit.invariant.0,
      drop_later c.args.units.now c.loop-unit.at c.in-Some.unit.now c.in-Some.behind.now (c.loop-unit.invariant.1 ∙ here),
      omega (arith, c.loop-unit.invariant.2, ap (λ (xs : List Pou). length xs) here),
    )
