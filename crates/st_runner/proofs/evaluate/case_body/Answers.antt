use Rattle.std.proofs.Common.{rules, ℤ, w64, sym, ap, ◌∙◌}
use Rattle.std.proofs.lemmas.Int.{to_z-of_z}
use Rattle.st_runner.proofs.Plans.{arm_start, at_stands, labels_found, same_stands, starts_found}
use Rattle.st_runner.proofs.Tables.{found_at, not_found}
use Rattle.st_runner.specs.inner.Choice.{place_from}
use Rattle.st_runner.specs.inner.Plan.{body_parts}
use Rattle.st_runner.proofs.evaluate.case_body.Goals as goal

pub offset_bounds-arms-n : goal.offset_bounds-arms-n
offset_bounds-arms-n c =
    let labels =
    labels_found c.args.plan.now c.args.at c.args.arms.now c.args.other.now c.requires c.index-plan-at.result
    c.in-Choice.field-0 c.in-Choice.table c.in-Choice.starts c.index-plan-at.is c.in-Choice.is in
    let within =
    (found_at c.args.v.n c.args.arms.now c.args.other.now c.in-Choice.table c.find.result c.in-Some.n labels
    (c.find.ensures ∙ ap (λ (z : ℤ). place_from 0 z c.in-Choice.table) (to_z-of_z w64 c.args.v.n (search rules))) c.in-Some.is).within in
    search rules

pub bounds-arms-n : goal.bounds-arms-n
bounds-arms-n c =
    let labels =
    labels_found c.args.plan.now c.args.at c.args.arms.now c.args.other.now c.requires c.index-plan-at.result
    c.in-Choice.field-0 c.in-Choice.table c.in-Choice.starts c.index-plan-at.is c.in-Choice.is in
    (found_at c.args.v.n c.args.arms.now c.args.other.now c.in-Choice.table c.find.result c.in-Some.n labels
    (c.find.ensures ∙ ap (λ (z : ℤ). place_from 0 z c.in-Choice.table) (to_z-of_z w64 c.args.v.n (search rules))) c.in-Some.is).within

pub bounds-as_slice-n : goal.bounds-as_slice-n
bounds-as_slice-n c =
    let plan = c.args.plan.now in
    let arms = c.args.arms.now in
    let other = c.args.other.now in
    let labels =
    labels_found plan c.args.at arms other c.requires c.index-plan-at.result
    c.in-Choice.field-0 c.in-Choice.table c.in-Choice.starts c.index-plan-at.is c.in-Choice.is in
    let starts =
    starts_found plan c.args.at arms other c.requires c.index-plan-at.result
    c.in-Choice.field-0 c.in-Choice.table c.in-Choice.starts c.index-plan-at.is c.in-Choice.is in
    let there =
    found_at c.args.v.n arms other c.in-Choice.table c.find.result c.in-Some.n labels
    (c.find.ensures ∙ ap (λ (z : ℤ). place_from 0 z c.in-Choice.table) (to_z-of_z w64 c.args.v.n (search rules))) c.in-Some.is in
    (arm_start plan c.args.at arms other c.requires c.in-Some.n c.as_slice-in-Some.result.now c.further-inside.result
    (c.as_slice-in-Some.ensures ∙ starts) c.further-inside.ensures there.within).within

pub offset_bounds-as_slice-n : goal.offset_bounds-as_slice-n
offset_bounds-as_slice-n c =
    let plan = c.args.plan.now in
    let arms = c.args.arms.now in
    let other = c.args.other.now in
    let labels =
    labels_found plan c.args.at arms other c.requires c.index-plan-at.result
    c.in-Choice.field-0 c.in-Choice.table c.in-Choice.starts c.index-plan-at.is c.in-Choice.is in
    let starts =
    starts_found plan c.args.at arms other c.requires c.index-plan-at.result
    c.in-Choice.field-0 c.in-Choice.table c.in-Choice.starts c.index-plan-at.is c.in-Choice.is in
    let there =
    found_at c.args.v.n arms other c.in-Choice.table c.find.result c.in-Some.n labels
    (c.find.ensures ∙ ap (λ (z : ℤ). place_from 0 z c.in-Choice.table) (to_z-of_z w64 c.args.v.n (search rules))) c.in-Some.is in
    let within =
    (arm_start plan c.args.at arms other c.requires c.in-Some.n c.as_slice-in-Some.result.now c.further-inside.result
    (c.as_slice-in-Some.ensures ∙ starts) c.further-inside.ensures there.within).within in
    search rules

pub further-requires : goal.further-requires
further-requires c =
    let plan = c.args.plan.now in
    let arms = c.args.arms.now in
    let other = c.args.other.now in
    let labels =
    labels_found plan c.args.at arms other c.requires c.index-plan-at.result
    c.in-Choice.field-0 c.in-Choice.table c.in-Choice.starts c.index-plan-at.is c.in-Choice.is in
    let starts =
    starts_found plan c.args.at arms other c.requires c.index-plan-at.result
    c.in-Choice.field-0 c.in-Choice.table c.in-Choice.starts c.index-plan-at.is c.in-Choice.is in
    let there =
    found_at c.args.v.n arms other c.in-Choice.table c.find.result c.in-Some.n labels
    (c.find.ensures ∙ ap (λ (z : ℤ). place_from 0 z c.in-Choice.table) (to_z-of_z w64 c.args.v.n (search rules))) c.in-Some.is in
    (arm_start plan c.args.at arms other c.requires c.in-Some.n c.as_slice-in-Some.result.now c.further-inside.result
    (c.as_slice-in-Some.ensures ∙ starts) c.further-inside.ensures there.within).further

pub returns-in-Some-clause-body : goal.returns-in-Some-clause-body
returns-in-Some-clause-body c =
    let labels =
    labels_found c.args.plan.now c.args.at c.args.arms.now c.args.other.now c.requires c.index-plan-at.result
    c.in-Choice.field-0 c.in-Choice.table c.in-Choice.starts c.index-plan-at.is c.in-Choice.is in
    c.as_slice.ensures
    ∙ sym ((found_at c.args.v.n c.args.arms.now c.args.other.now c.in-Choice.table c.find.result c.in-Some.n labels
    (c.find.ensures ∙ ap (λ (z : ℤ). place_from 0 z c.in-Choice.table) (to_z-of_z w64 c.args.v.n (search rules))) c.in-Some.is).body
    c.index-arms-n.result)

pub returns-in-Some-clause-planned : goal.returns-in-Some-clause-planned
returns-in-Some-clause-planned c =
    let plan = c.args.plan.now in
    let arms = c.args.arms.now in
    let other = c.args.other.now in
    let labels =
    labels_found plan c.args.at arms other c.requires c.index-plan-at.result
    c.in-Choice.field-0 c.in-Choice.table c.in-Choice.starts c.index-plan-at.is c.in-Choice.is in
    let starts =
    starts_found plan c.args.at arms other c.requires c.index-plan-at.result
    c.in-Choice.field-0 c.in-Choice.table c.in-Choice.starts c.index-plan-at.is c.in-Choice.is in
    let there =
    found_at c.args.v.n arms other c.in-Choice.table c.find.result c.in-Some.n labels
    (c.find.ensures ∙ ap (λ (z : ℤ). place_from 0 z c.in-Choice.table) (to_z-of_z w64 c.args.v.n (search rules))) c.in-Some.is in
    let start =
    arm_start plan c.args.at arms other c.requires c.in-Some.n c.as_slice-in-Some.result.now c.further-inside.result
    (c.as_slice-in-Some.ensures ∙ starts) c.further-inside.ensures there.within in
    at_stands plan _ c.further.result (body_parts c.as_slice.result.now) (sym c.further.ensures)
    (same_stands plan _ _ (body_parts c.as_slice.result.now) (ap body_parts (sym c.as_slice.ensures))
    (start.stands c.index-arms-n.result))

pub returns-in-None-clause-body : goal.returns-in-None-clause-body
returns-in-None-clause-body c =
    let labels =
    labels_found c.args.plan.now c.args.at c.args.arms.now c.args.other.now c.requires c.index-plan-at.result
    c.in-Choice.field-0 c.in-Choice.table c.in-Choice.starts c.index-plan-at.is c.in-Choice.is in
    sym
    (not_found c.args.v.n c.args.arms.now c.args.other.now c.in-Choice.table c.find.result labels
    (c.find.ensures ∙ ap (λ (z : ℤ). place_from 0 z c.in-Choice.table) (to_z-of_z w64 c.args.v.n (search rules))) c.in-None.is)
