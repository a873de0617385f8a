use Rattle.std.proofs.Common.{rules, ◌≡◌, ◌∙◌, ◌+◌, ◌++◌, List, [], ◌∷◌, length, Option, Ok, ap, sym, subst, arith, length-append, All}
use Rattle.std.proofs.lemmas.List.Elements.{All-tail}
use Rattle.block_calls.proofs.Locating.{in_all, one_found}
use Rattle.block_calls.specs.inner.Views.{IsGivableActual, now_of}
use Rattle.memory_areas.specs.declared.place.Place.{Place}
use Rattle.stl_registers.specs.Values.{values}
use Rattle.stl_tree.specs.Calls.{actual_place}
use Rattle.stl_tree.specs.declared.program.Actual.{Actual}
use Rattle.stl_tree.specs.declared.program.Formal.{Formal}
use Rattle.block_calls.proofs.actuals.locate.Goals as goal

pub loop-formal-preserved : goal.loop-formal-preserved
loop-formal-preserved c =
    let d = length c.args.stack.now in
    let k = c.loop-formal.k in
    let now = now_of (values c.args.registers) c.args.memory.now c.args.stack.now in
    let f = c.in-Some.formal.now in
    let x = c.in-Some-split_first.actual.now in
    let p = c.in_ok-place.place in
    let fs : c.loop-formal.formals_left.now ≡ c.in-Some.formal.now ∷ c.in-Some.formals_behind.now = search rules in
    let xs : c.loop-formal.actuals_left.now ≡ c.in-Some-split_first.actual.now ∷ c.in-Some-split_first.actuals_behind.now = search rules in
    let found : actual_place (length c.args.stack.now) c.loop-formal.k c.in-Some.formal.now.width c.in-Some-split_first.actual.now
    (now_of (values c.args.registers) c.args.memory.now c.args.stack.now) ≡ Ok c.in_ok-place.place = search rules in
    let new : c.push.new.self ≡ c.loop-formal.places ++ c.in_ok-place.place ∷ [] = search rules in
    let i = c.loop-formal.invariant in
    let long = length-append c.loop-formal.places (c.in_ok-place.place ∷ []) in
    let many = ap (λ (ys : List Formal). length ys) fs in
    let size = ap (λ (ys : List (Option Place)). length ys) new in (
      i.0
          ∙ ap (λ (ys : List Formal). in_all d k ys c.loop-formal.actuals_left.now now c.loop-formal.places) fs
          ∙ ap (λ (ys : List Actual). in_all d k (f ∷ c.in-Some.formals_behind.now) ys now c.loop-formal.places) xs
          ∙ one_found d k f c.in-Some.formals_behind.now x c.in-Some-split_first.actuals_behind.now now c.loop-formal.places p found
          ∙ ap (λ (ys : List (Option Place)). in_all d (k + 1) c.in-Some.formals_behind.now c.in-Some-split_first.actuals_behind.now now ys) (sym new),
      omega (arith, i.1, many),
      omega (arith, i.2, long, size),
      All-tail (λ (a : Actual). IsGivableActual a c.args.stack.now) x c.in-Some-split_first.actuals_behind.now
          (subst (All (λ (a : Actual). IsGivableActual a c.args.stack.now)) xs i.3),
    )
