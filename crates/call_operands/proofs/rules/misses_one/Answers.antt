use Rattle.std.proofs.Common.{◌∙◌}
use Rattle.call_operands.proofs.Misses.{lacks_is}
use Rattle.stl_rules.specs.Interfaces.{formals_of}
use Rattle.call_operands.proofs.rules.misses_one.Goals as goal

pub returns : goal.returns
returns c =
    c.lacks_one.ensures
    ∙ lacks_is c.args.actuals.now (formals_of c.args.called.now) c.formal_places.result.now.entries (λ key. key.items) c.formal_places.ensures
