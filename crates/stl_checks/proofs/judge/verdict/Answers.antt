use Rattle.stl_checks.proofs.Accepting.{accepts, answers_unread, answers_verdict}
use Rattle.stl_checks.proofs.Refusing.{refuses, unread_refuses}
use Rattle.stl_checks.proofs.judge.verdict.Goals as goal

pub returns-in-Ok-clause-verdict : goal.returns-in-Ok-clause-verdict
returns-in-Ok-clause-verdict c = answers_verdict c.args.bytes.now c.in-Ok.raw c.checked_program.result c.in-Ok.ensures c.checked_program.ensures

pub returns-in-Ok-clause-accepted : goal.returns-in-Ok-clause-accepted
returns-in-Ok-clause-accepted c = accepts c.args.bytes.now c.in-Ok.raw c.checked_program.result c.in-Ok.ensures c.checked_program.ensures

pub returns-in-Ok-clause-refused : goal.returns-in-Ok-clause-refused
returns-in-Ok-clause-refused c = refuses c.args.bytes.now c.in-Ok.raw c.checked_program.result c.in-Ok.ensures c.checked_program.ensures

pub returns-in-Err-clause-verdict : goal.returns-in-Err-clause-verdict
returns-in-Err-clause-verdict c = answers_unread c.args.bytes.now c.in-Err.refused c.in-Err.ensures

pub returns-in-Err-clause-refused : goal.returns-in-Err-clause-refused
returns-in-Err-clause-refused c = unread_refuses c.args.bytes.now c.in-Err.refused c.in-Err.ensures
