use Rattle.st_tree.proofs.Common.{ℤ, List, length, sym, ap, ◌∙◌, arith}
use Rattle.std.specs.HashMap.{get}
use Rattle.std.specs.Option.{option_or}
use Rattle.std.specs.Ordering.{int_eq}
use Rattle.st_runner.proofs.Common.{has_label, CaseArm}
use Rattle.st_runner.specs.inner.Choice.{labels_of, place_from}
use Rattle.st_runner.proofs.Tables.{arm_more, arm_none, found}
use Rattle.st_runner.proofs.table.Table.new.Goals as goal

pub loop-arm-preserved : goal.loop-arm-preserved
loop-arm-preserved c = (
  λ n.
      arm_more c.loop-arm.at (get int_eq c.loop-arm.places n) (get int_eq c.put_labels.new.places n) c.in-Some.arm.now.labels
      (labels_of c.in-Some.behind.now) n
      (c.in_ok-put_labels.ensures n
      ∙ ap (λ (xs : List ℤ). option_or (get int_eq c.loop-arm.places n) (found c.loop-arm.at (has_label xs n))) c.as_slice.ensures)
      ∙ ap (λ (xs : List CaseArm). option_or (get int_eq c.loop-arm.places n) (place_from c.loop-arm.at n (labels_of xs))) (sym c.in-Some.ensures.cases.0)
      ∙ c.loop-arm.invariant.0 n,
  omega (arith, ap (λ (xs : List CaseArm). length xs) c.in-Some.ensures.cases.0, c.loop-arm.invariant.1),
)

pub invariant_of-result : goal.invariant_of-result
invariant_of-result c = λ n.
    arm_none c.loop-arm.at (get int_eq c.loop-arm.places n) c.loop-arm.rest.now n c.in_default.ensures.cases ∙ c.loop-arm.invariant.0 n
