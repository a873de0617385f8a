use Rattle.st_tree.proofs.Common.{◌≡◌, length, arith}
use Rattle.st_runner.proofs.Plans.{closed}
use Rattle.st_runner.specs.declared.plan.Part.TheVariants as part
use Rattle.st_runner.proofs.plan.close_case.Goals as goal

pub returns : goal.returns
returns c =
    let all : c.len.result ≡ length c.args.parts.now.items = omega (arith, c.len.ensures, c.args.parts.now.ok.0) in
    closed c.args.parts.now.items c.args.at c.len.result (λ n. part.Choice n c.args.table c.args.starts) all
