use Rattle.std.proofs.Common.{rules}
use Rattle.st_globals.specs.inner.Tables.{var_by}
use Rattle.st_globals.proofs.InPlace.{change_read}
use Rattle.st_globals.proofs.renaming.named_actuals.Goals as goal

pub loop-var-preserved : goal.loop-var-preserved
loop-var-preserved c =
    change_read (var_by c.args.numbers.now.entries) c.args.actuals c.deref_mut-var-items.result.now c.loop-var.var-items
    c.loop-var.var-index c.named_var.result _ (search rules) c.loop-var.invariant c.loop-var-test.true c.named_var.ensures
