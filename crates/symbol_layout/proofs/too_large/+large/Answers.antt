use Rattle.std.proofs.Common.{ap, sym, ◌∙◌, arith, rules}
use Rattle.std.proofs.Math.ListN.{drop_of_length-le}
use Rattle.stl_rules.specs.TooLarge.{inside}
use Rattle.symbol_layout.proofs.Limits.{goes_on, large_here, large_inside, none_left}
use Rattle.symbol_layout.proofs.too_large.«+large».Goals as goal

pub first_large-returns-in-Some : goal.first_large-returns-in-Some
first_large-returns-in-Some t c =
    large_inside c.args.limit c.args.start c.loop-d.end c.loop-d.d-index c.args.decls.now c.d-item.result
    c.loop-d-test.true c.d-item.is c.loop-d.invariant.1 c.in-Some.line
    (ap (inside c.args.limit c.d-item.result.ty) (sym c.place_of.ensures.same) ∙ sym c.first_inside.ensures ∙ c.in-Some.is)

pub first_large-returns-in-None : goal.first_large-returns-in-None
first_large-returns-in-None t c =
    large_here c.args.limit c.args.start c.loop-d.end c.loop-d.d-index c.args.decls.now c.d-item.result
    c.loop-d-test.true c.d-item.is c.loop-d.invariant.1
    (ap (inside c.args.limit c.d-item.result.ty) (sym c.place_of.ensures.same) ∙ sym c.first_inside.ensures ∙ c.in_default.is)
    (sym c.end_within.ensures.same ∙ c.in-None.is)

pub first_large-loop-d-preserved : goal.first_large-loop-d-preserved
first_large-loop-d-preserved t c = (
  search rules,
  goes_on c.args.limit c.args.start c.loop-d.end c.loop-d.d-index c.args.decls.now c.d-item.result
      c.loop-d-test.true c.d-item.is c.loop-d.invariant.1 c.in-Some-end_within.next
      (ap (inside c.args.limit c.d-item.result.ty) (sym c.place_of.ensures.same) ∙ sym c.first_inside.ensures ∙ c.in_default.is)
      (sym c.end_within.ensures.same ∙ c.in-Some-end_within.is),
)

pub first_large-returns : goal.first_large-returns
first_large-returns t c =
    none_left c.args.limit c.args.start c.loop-d.end c.loop-d.d-index c.args.decls.now
    (drop_of_length-le c.args.decls.now (omega (arith, c.loop-d-test.false))) c.loop-d.invariant.1
