use Rattle.std.proofs.Common.{◌≡◌, ◌+◌, ◌*◌, ◌^◌, ◌≤◌, drop, length}
use Rattle.std.specs.List.{sum_by}
use Rattle.stl_tree.specs.declared.program.Block.{Block}
use Rattle.command_answers.specs.Answer.{instructions_in}
use Rattle.command_answers.proofs.demo.instruction_count.Given as goal

abbrev pub invariant-loop-block : goal.invariant-loop-block
invariant-loop-block l = record {
  sum : l.count + sum_by (λ (b : Block). length b.body) (drop l.block-index l.program.blocks) ≡ instructions_in l.program;
  most : l.count ≤ l.block-index * 2 ^ 64;
}
