use Rattle.std.proofs.Common.{◌≤◌, ◌∙◌, length, rules}
use Rattle.stl_checks.proofs.Cycles.{stage_is}
use Rattle.stl_checks.proofs.chain.first_in_chain.Goals as goal

pub returns : goal.returns
returns c =
    let some : 1 ≤ length c.as_slice-blocks.result.now = search rules in
    stage_is c.as_slice-blocks.result.now c.args.program.now.blocks c.as_slice.result.now c.first_of_calls.result c.as_slice-blocks.ensures some
    (c.as_slice.ensures ∙ c.in_ok-graph.ensures) c.first_of_calls.ensures
