use Rattle.std.proofs.Common.{length}
use Rattle.st_printer.proofs.statement.+put_more_actuals.Given as goal

abbrev pub decreases-put_more_actuals : goal.decreases-put_more_actuals
decreases-put_more_actuals l = length l.formals.now
