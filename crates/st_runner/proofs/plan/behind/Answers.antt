use Rattle.std.proofs.Common.{◌∙◌}
use Rattle.st_runner.proofs.Plans.{case_headed_at, if_headed_at, while_headed_at}
use Rattle.st_runner.proofs.plan.behind.Goals as goal

pub behind_part-requires-clause-within : goal.behind_part-requires-clause-within
behind_part-requires-clause-within c = (if_headed_at c.args.plan.now c.args.at c.args.stmt.now c.in-If.field-0 c.in-If.field-1 c.in-If.is c.requires).within

pub behind_part-requires-in-Case-clause-there : goal.behind_part-requires-in-Case-clause-there
behind_part-requires-in-Case-clause-there c =
    (case_headed_at c.args.plan.now c.args.at c.args.stmt.now c.in-Case.field-0 c.in-Case.field-1 c.in-Case.field-2 c.in-Case.is c.requires).there

pub behind_part-requires-in-Case-clause-within : goal.behind_part-requires-in-Case-clause-within
behind_part-requires-in-Case-clause-within c =
    (case_headed_at c.args.plan.now c.args.at c.args.stmt.now c.in-Case.field-0 c.in-Case.field-1 c.in-Case.field-2 c.in-Case.is c.requires).within

pub behind_part-requires-in-While-clause-there : goal.behind_part-requires-in-While-clause-there
behind_part-requires-in-While-clause-there c =
    (while_headed_at c.args.plan.now c.args.at c.args.stmt.now c.in-While.field-0 c.in-While.field-1 c.in-While.is c.requires).there

pub behind_part-requires-in-While-clause-within : goal.behind_part-requires-in-While-clause-within
behind_part-requires-in-While-clause-within c =
    (while_headed_at c.args.plan.now c.args.at c.args.stmt.now c.in-While.field-0 c.in-While.field-1 c.in-While.is c.requires).within

pub returns-in-If : goal.returns-in-If
returns-in-If c =
    c.behind_part.ensures ∙ (if_headed_at c.args.plan.now c.args.at c.args.stmt.now c.in-If.field-0 c.in-If.field-1 c.in-If.is c.requires).over

pub returns-in-Case : goal.returns-in-Case
returns-in-Case c =
    c.behind_part-in-Case.ensures
    ∙ (case_headed_at c.args.plan.now c.args.at c.args.stmt.now c.in-Case.field-0 c.in-Case.field-1 c.in-Case.field-2 c.in-Case.is c.requires).over

pub returns-in-While : goal.returns-in-While
returns-in-While c =
    c.behind_part-in-While.ensures
    ∙ (while_headed_at c.args.plan.now c.args.at c.args.stmt.now c.in-While.field-0 c.in-While.field-1 c.in-While.is c.requires).over
