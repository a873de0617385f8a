use Rattle.st_tree.proofs.Common.{◌+◌, ◌≤◌, [], ◌∷◌, List, ◌++◌, length, length-append, sym, ap, subst, ◌∙◌, arith}
use Rattle.st_runner.proofs.Common.{Pou, Stmt}
use Rattle.st_runner.proofs.Plans.{next_start}
use Rattle.st_runner.specs.inner.Plan.{body_parts}
use Rattle.st_runner.proofs.plan.plan_of.Goals as goal

pub loop-unit-preserved : goal.loop-unit-preserved
loop-unit-preserved c =
    let old = c.loop-unit.parts.items in
    let starts = c.loop-unit.starts.items in
    let put = c.in_ok-put_body.ensures in (
      next_start old c.put_body.new.parts.items starts c.push_reserved.new.self.items c.args.units.now c.loop-unit.unit-index c.len.result _
          c.loop-unit-test.true (omega (arith, c.len.ensures, c.loop-unit.parts.ok.0))
          (put ∙ ap (λ (xs : List Stmt). old ++ body_parts xs) (c.as_slice.ensures ∙ ap (λ (u : Pou). u.body) c.unit-item.is))
          c.push_reserved.ensures.items c.loop-unit.invariant.0,
      ap (λ (ks : List _). length ks) c.push_reserved.ensures.items ∙ length-append starts (c.len.result ∷ []) ∙ ap (λ n. n + 1) c.loop-unit.invariant.1,
      subst (λ n. length c.args.units.now ≤ n) (sym c.push_reserved.ensures.capacity) c.loop-unit.invariant.2,
    )
