use Rattle.std.proofs.Common.{◌+◌, ◌*◌, ◌-◌, ◌≤◌}
use Rattle.plan_texts.specs.declared.leads.Lead.TheVariants as lead
use Rattle.plan_texts.proofs.ListArms.{WroteArms}
use Rattle.plan_texts.proofs.Takes.{Wrote}
use Rattle.plan_texts.proofs.parts.+text.Given as goal

-- a part asks for its pieces, a piece for its kind, and that for what is deeper, which has a level less
abbrev pub decreases-inner_text : goal.decreases-inner_text
decreases-inner_text l = 5 * l.context.levels

abbrev pub decreases-push_arm : goal.decreases-push_arm
decreases-push_arm l = 5 * l.context.levels + 2

abbrev pub decreases-push_arms : goal.decreases-push_arms
decreases-push_arms l = 5 * l.context.levels + 2

abbrev pub decreases-push_loop : goal.decreases-push_loop
decreases-push_loop l = 5 * l.context.levels + 2

abbrev pub decreases-list_arms : goal.decreases-list_arms
decreases-list_arms l = 5 * l.context.levels + 1

abbrev pub decreases-push_cases : goal.decreases-push_cases
decreases-push_cases l = 5 * l.context.levels + 2

abbrev pub decreases-push_piece : goal.decreases-push_piece
decreases-push_piece l = 5 * l.context.levels + 3

abbrev pub decreases-push_part : goal.decreases-push_part
decreases-push_part l = 5 * l.context.levels + 4

abbrev pub invariant-push_part-loop-at : goal.invariant-push_part-loop-at
invariant-push_part-loop-at l = record {
  low : l.first ≤ l.at;
  high : l.at ≤ l.part.past;
  wrote : Wrote l.context.blocks.now l.context.ending.now l.context.tail l.context.levels l.part l.first l.paid l.fn.nodes.items l.fn.out l.nodes.items
      l.out lead.Onward l.is_paid l.at;
}

abbrev pub decreases-push_part-loop-at : goal.decreases-push_part-loop-at
decreases-push_part-loop-at l = l.part.past - l.at

abbrev pub invariant-list_arms-loop-at : goal.invariant-list_arms-loop-at
invariant-list_arms-loop-at l = record {
  low : l.first ≤ l.at;
  high : l.at ≤ l.list.end;
  wrote : WroteArms l.context.blocks.now l.context.ending.now l.context.levels l.part l.list.block l.list.end l.list.targets.now l.first l.fn.nodes.items
      l.nodes.items l.arms l.at;
}

abbrev pub decreases-list_arms-loop-at : goal.decreases-list_arms-loop-at
decreases-list_arms-loop-at l = l.list.end - l.at
