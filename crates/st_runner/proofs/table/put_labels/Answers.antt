use Rattle.st_tree.proofs.Common.{ℤ, List, FitsSigned, w64, rules, sym, ap, ◌∙◌}
use Rattle.std.proofs.lemmas.Int.{to_z-of_z}
use Rattle.std.specs.HashMap.{get}
use Rattle.std.specs.Option.{option_or}
use Rattle.std.specs.Ordering.{int_eq}
use Rattle.st_runner.proofs.Common.{has_label}
use Rattle.st_runner.proofs.Tables.{found, label_more, label_none}
use Rattle.st_runner.proofs.table.put_labels.Goals as goal

pub loop-label-preserved : goal.loop-label-preserved
loop-label-preserved c = λ n.
    let fits : FitsSigned w64 c.in-Some.label.now = search rules in
    label_more c.args.at (get int_eq c.loop-label.places n) (get int_eq c.put_label.new.places n) c.in-Some.label.now c.in-Some.behind.now n
    (c.in_ok-put_label.ensures n
    ∙ ap (λ (z : ℤ). option_or (get int_eq c.loop-label.places n) (found c.args.at (int_eq z n))) (to_z-of_z w64 c.in-Some.label.now fits))
    ∙ ap (λ (xs : List ℤ). option_or (get int_eq c.loop-label.places n) (found c.args.at (has_label xs n))) (sym c.in-Some.ensures.cases.0)
    ∙ c.loop-label.invariant n

pub returns : goal.returns
returns c = λ n.
    label_none c.args.at (get int_eq c.loop-label.places n) c.loop-label.rest.now n c.in_default.ensures.cases ∙ c.loop-label.invariant n
