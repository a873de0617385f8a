use Rattle.std.proofs.Common.{rules, ◌≡◌, ◌∙◌, ◌+◌, List, ◌∷◌, length, ap, subst, sym}
use Rattle.block_calls.proofs.Copying.{constant_next}
use Rattle.block_calls.specs.inner.Views.{AreSmall}
use Rattle.stl_tree.specs.Calls.{with_constants}
use Rattle.stl_tree.specs.StlRun.{formals_at}
use Rattle.stl_tree.specs.declared.program.Actual.{Actual}
use Rattle.stl_tree.specs.declared.program.Formal.{Formal}
use Rattle.block_calls.proofs.actuals.write_constants.Goals as goal

pub loop-formal-preserved : goal.loop-formal-preserved
loop-formal-preserved c =
    let f = c.in-Some.formal.now in
    let x = c.in-Some-split_first.actual.now in
    let fs : c.loop-formal.formals_left.now ≡ c.in-Some.formal.now ∷ c.in-Some.formals_behind.now = search rules in
    let xs : c.loop-formal.actuals_left.now ≡ c.in-Some-split_first.actual.now ∷ c.in-Some-split_first.actuals_behind.now = search rules in
    let i = c.loop-formal.invariant in
    let m = c.loop-formal.memory in
    constant_next c.args.program.now.dbs c.args.depth c.loop-formal.k (length (formals_at c.args.program.now c.args.block)) f c.in-Some.formals_behind.now x
    c.in-Some-split_first.actuals_behind.now c.write_constant.result m c.write_constant.new.memory
    (with_constants c.args.depth 0 (formals_at c.args.program.now c.args.block) c.args.actuals.now c.args.memory.now)
    (i.0
    ∙ ap (λ (ys : List Formal). with_constants c.args.depth c.loop-formal.k ys c.loop-formal.actuals_left.now m) fs
    ∙ ap (λ (ys : List Actual). with_constants c.args.depth c.loop-formal.k (f ∷ c.in-Some.formals_behind.now) ys m) xs)
    (ap (λ (ys : List Formal). c.loop-formal.k + length ys) (sym fs) ∙ i.1) c.requires.few c.requires.depth
    (subst (λ (ys : List Actual). AreSmall (f ∷ c.in-Some.formals_behind.now) ys) xs
    (subst (λ (ys : List Formal). AreSmall ys c.loop-formal.actuals_left.now) fs i.2)) i.3 c.write_constant.ensures
