use Rattle.std.proofs.Common.{rules, ◌≡◌, List, ◌∷◌, ap, sym, subst}
use Rattle.block_calls.proofs.Instances.{instance_behind, instance_not_first}
use Rattle.stl_tree.specs.StlRun.{IsInstance}
use Rattle.stl_tree.specs.declared.program.Instance.{Instance}
use Rattle.block_calls.proofs.fits.is_instance.Goals.{else-instance-db-via-then-instance-db+else-instance-fb, else-instance-db-via-else-instance-db}
use Rattle.block_calls.proofs.fits.is_instance.Goals as goal

pub loop-instance-preserved : goal.loop-instance-preserved
loop-instance-preserved c =
    let i = c.in-Some.instance.now in
    let rest = c.in-Some.behind.now in
    let whole : c.loop-instance.left.now ≡ c.in-Some.instance.now ∷ c.in-Some.behind.now = search rules in
    let apart : c.in-Some.instance.now ≡ record { db = c.args.db; fb = c.args.fb } → ⊥ = λ e. elim c.else-instance-db.branch [
      | else-instance-db-via-then-instance-db+else-instance-fb w ↦ w.if-instance-fb.false (ap (λ (x : Instance). x.fb) e)
      | else-instance-db-via-else-instance-db w ↦ w.if-instance-db.false (ap (λ (x : Instance). x.db) e)
    ] in (
      λ h. c.loop-instance.invariant.0 (subst (λ (xs : List Instance). IsInstance xs c.args.db c.args.fb) (sym whole)
          (instance_behind i rest c.args.db c.args.fb h)),
      λ h. instance_not_first i rest c.args.db c.args.fb apart
          (subst (λ (xs : List Instance). IsInstance xs c.args.db c.args.fb) whole (c.loop-instance.invariant.1 h)),
    )
