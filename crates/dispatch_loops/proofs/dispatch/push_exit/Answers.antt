use Rattle.std.proofs.Common.{◌∙◌}
use Rattle.std.proofs.lemmas.Result.{on_ok_weaker}
use Rattle.dispatch_loops.proofs.TurnTexts.{table_written}
use Rattle.dispatch_loops.proofs.dispatch.push_exit.Goals as goal

pub returns-in_ok-other-in-Table : goal.returns-in_ok-other-in-Table
returns-in_ok-other-in-Table c =
    on_ok_weaker c.push-in-Table.result
    (table_written c.args.turns c.args.goes_on c.args.at c.args.body.now c.push-in-Table.new.self c.in_ok-other-in-Table.other c.args.exit
    c.in-Table.value c.in-Table.targets c.in-Table.last c.in_ok-arms-in-Table.arms c.in-Table.is c.in_ok-arms-in-Table.ensures
    (c.in_ok-other-in-Table.ensures ∙ c.lead-in-Table.ensures))
    c.push-in-Table.ensures.ok
