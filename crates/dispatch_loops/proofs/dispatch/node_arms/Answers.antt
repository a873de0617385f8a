use Rattle.std.proofs.Common.{rules, ℕ, ◌≡◌, suc, ◌+◌, ◌-◌, ◌≤◌, ◌∙◌, arith}
use Rattle.std.proofs.lemmas.Grind.{common_steps}
use Rattle.segment_plans.specs.Counts.{is_reached}
use Rattle.dispatch_loops.proofs.TurnTexts.{more_arms, one_less, same_arms}
use Rattle.dispatch_loops.proofs.dispatch.node_arms.Goals as goal
use Rattle.dispatch_loops.proofs.dispatch.node_arms.Goals.{then-is_reached+in_ok-push_arm, else-is_reached}

pub loop-at-preserved : goal.loop-at-preserved
loop-at-preserved c =
    let i : ℕ = c.loop-at.at in
    let past : ℕ = c.args.turns.past in
    let next : i + 1 ≡ suc i = omega arith in
    let fewer : past - i ≡ suc (past - (i + 1)) = omega arith in
    let low : c.args.turns.first ≤ i = c.loop-at.auto.at in
    record {
      arms =
          elim c.if-is_reached.branch [
            | then-is_reached+in_ok-push_arm w ↦
                more_arms (is_reached c.args.blocks.now) c.args.turns c.args.goes_on i (i + 1) (past - i) (past - (i + 1)) c.loop-at.nodes.items
                c.if-is_reached.nodes.items c.loop-at.arms c.if-is_reached.arms next fewer
                (first_of (search rules, grind (arith, common_steps))) (first_of (search rules, grind (arith, common_steps)))
                (first_of (search rules, grind (arith, common_steps)))
                ∙ c.loop-at.invariant.arms
            | else-is_reached w ↦
                same_arms (is_reached c.args.blocks.now) c.args.turns c.args.goes_on i (i + 1) (past - i) (past - (i + 1)) c.loop-at.nodes.items
                c.if-is_reached.nodes.items c.loop-at.arms c.if-is_reached.arms next fewer
                (first_of (search rules, grind (arith, common_steps))) (first_of (search rules, grind (arith, common_steps)))
                (first_of (search rules, grind (arith, common_steps)))
                ∙ c.loop-at.invariant.arms
          ];
      left =
          elim c.if-is_reached.branch [
            | then-is_reached+in_ok-push_arm w ↦
                one_less c.args.turns.first i (i + 1) c.args.nodes.now.items c.loop-at.nodes.items c.if-is_reached.nodes.items low next
                c.loop-at.invariant.left (first_of (search rules, grind (arith, common_steps)))
            | else-is_reached w ↦
                one_less c.args.turns.first i (i + 1) c.args.nodes.now.items c.loop-at.nodes.items c.if-is_reached.nodes.items low next
                c.loop-at.invariant.left (first_of (search rules, grind (arith, common_steps)))
          ];
    }
