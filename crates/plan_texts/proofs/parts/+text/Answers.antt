use Rattle.std.proofs.Common.{◌<◌, ◌≤◌, sym, subst, ◌∙◌, arith}
use Rattle.std.proofs.lemmas.Result.{IfOk-weaker}
use Rattle.segment_plans.specs.Planned.{IsWithin, after}
use Rattle.segment_plans.specs.declared.planning.Piece.TheVariants as piece
use Rattle.plan_texts.specs.inner.Steps.{WritesPart}
use Rattle.plan_texts.specs.declared.leads.Lead.TheVariants as lead
use Rattle.plan_texts.proofs.ListArms.{all_arms, no_arms_yet, wrote_arm}
use Rattle.plan_texts.proofs.ListTexts.{cases_piece, no_list}
use Rattle.plan_texts.proofs.Takes.{behind, nothing_fits, part_ends, part_leaves, wrote_more, wrote_nothing, wrote_onward}
use Rattle.plan_texts.proofs.Texts.{arm_piece, arms_piece, inner_written, last_loop_piece, loop_piece, no_level, no_node, no_test, no_tests, piece_is, skip_piece}
use Rattle.plan_texts.proofs.parts.+text.Goals as goal

-- One level deeper

pub inner_text-returns-then-context-eq0 : goal.inner_text-returns-then-context-eq0
inner_text-returns-then-context-eq0 t c =
    no_level c.args.context.blocks.now c.args.context.ending.now c.args.context.levels c.args.part c.args.first c.args.paid c.args.nodes.now.items
    c.new.result c.if-context-eq0.true

pub inner_text-returns : goal.inner_text-returns
inner_text-returns t c =
    inner_written c.args.context.blocks.now c.args.context.ending.now c.args.context.levels c.args.part c.args.first c.args.paid c.args.nodes.now.items
    c.push_part.new.nodes.items c.new-out.result c.push_part.new.out c.in_ok-push_part.field-0 c.new-out.ensures c.in_ok-push_part.ensures

-- Arms

pub push_arm-returns-in_default : goal.push_arm-returns-in_default
push_arm-returns-in_default t c = λ up.
    no_node c.args.context.blocks.now c.args.context.ending.now c.args.context.tail c.args.context.levels c.args.part c.args.at
    (piece.Arm c.args.to c.args.past) c.args.nodes.now.items
    c.push_steps.new.nodes.items c.args.out.now c.push_steps.new.out c.in_ok-exit.field-0 lead.Off (omega (arith, up, c.requires)) c.in_ok-exit.ensures
    c.in_default.is

pub push_arm-returns-in_default-test_in : goal.push_arm-returns-in_default-test_in
push_arm-returns-in_default-test_in t c = λ up.
    no_test c.args.context.blocks.now c.args.context.ending.now c.args.context.tail c.args.context.levels c.args.part c.args.at c.args.to c.args.past
    c.args.nodes.now.items
    c.push_steps.new.nodes.items c.args.out.now c.push_steps.new.out c.in_ok-exit.field-0 c.in-Some.exit c.test_in.result lead.Off
    (omega (arith, up, c.requires))
    c.in_ok-exit.ensures c.in-Some.is c.test_in.ensures c.in_default-test_in.is

pub push_arm-returns : goal.push_arm-returns
push_arm-returns t c = λ up.
    arm_piece c.args.context.blocks.now c.args.context.ending.now c.args.context.tail c.args.context.levels c.args.part c.arm.result c.args.at
    c.args.to c.args.past c.args.nodes.now.items c.push_steps.new.nodes.items c.inner_text.new.nodes.items c.args.out.now c.push_steps.new.out
    c.in_ok-other.other c.new.result
    c.push.new.self
    c.in_ok-exit.field-0 c.in-Some.exit c.test_in.result c.in-Some-test_in.test c.in_ok-choice.field-0 c.requires.low c.new.ensures c.in_ok-exit.ensures
    c.in-Some.is c.test_in.ensures c.in-Some-test_in.is c.arm.ensures c.in_ok-other.ensures c.in_ok-choice.ensures c.in_ok-push.ensures.ok up

pub push_arms-returns-in_default : goal.push_arms-returns-in_default
push_arms-returns-in_default t c = λ up.
    no_node c.args.context.blocks.now c.args.context.ending.now c.args.context.tail c.args.context.levels c.args.part c.args.at
    (piece.Arms c.args.arms.past c.args.arms.over c.args.arms.end) c.args.nodes.now.items
    c.push_steps.new.nodes.items c.args.out.now c.push_steps.new.out c.in_ok-exit.field-0 lead.Off (omega (arith, up, c.requires)) c.in_ok-exit.ensures
    c.in_default.is

pub push_arms-returns-in_default-test_in : goal.push_arms-returns-in_default-test_in
push_arms-returns-in_default-test_in t c = λ up.
    no_tests c.args.context.blocks.now c.args.context.ending.now c.args.context.tail c.args.context.levels c.args.part c.args.at
    c.args.arms.past c.args.arms.over c.args.arms.end c.args.nodes.now.items
    c.push_steps.new.nodes.items c.args.out.now c.push_steps.new.out c.in_ok-exit.field-0 c.in-Some.exit c.test_in.result lead.Off
    (omega (arith, up, c.requires))
    c.in_ok-exit.ensures c.in-Some.is c.test_in.ensures c.in_default-test_in.is

pub push_arms-returns : goal.push_arms-returns
push_arms-returns t c = λ up.
    arms_piece c.args.context.blocks.now c.args.context.ending.now c.args.context.tail c.args.context.levels c.args.part c.first_arm-first.result
    c.arm-second.result c.args.at c.args.arms.past c.args.arms.over c.args.arms.end
    c.args.nodes.now.items c.push_steps.new.nodes.items c.inner_text.new.nodes.items c.inner_text-2.new.nodes.items c.args.out.now c.push_steps.new.out
    c.in_ok-other.other
    c.in_ok-there.there c.push.new.self c.in_ok-exit.field-0 c.in-Some.exit c.test_in.result c.in-Some-test_in.test c.in_ok-choice.field-0
    c.requires.low c.requires.high c.in_ok-exit.ensures c.in-Some.is c.test_in.ensures c.in-Some-test_in.is c.first_arm-first.ensures c.arm-second.ensures
    c.in_ok-other.ensures c.in_ok-there.ensures c.in_ok-choice.ensures c.in_ok-push.ensures.ok up

-- Loops

pub push_loop-returns-then-is_followed : goal.push_loop-returns-then-is_followed
push_loop-returns-then-is_followed t c =
    loop_piece c.args.context.blocks.now c.args.context.ending.now c.args.context.tail c.args.context.levels c.args.part c.body.result c.args.at
    c.args.last c.args.left
    c.args.nodes.now.items c.inner_text.new.nodes.items c.args.out.now c.in_ok-turn.turn c.push.new.self c.endless.result c.requires.low c.requires.high
    c.body.ensures
    c.in_ok-turn.ensures c.endless.ensures c.in_ok-push.ensures.ok (sym c.is_followed.ensures ∙ c.if-is_followed.true)

pub push_loop-returns-else-is_followed : goal.push_loop-returns-else-is_followed
push_loop-returns-else-is_followed t c =
    last_loop_piece c.args.context.blocks.now c.args.context.ending.now c.args.context.tail c.args.context.levels c.args.part c.body.result c.args.at
    c.args.last c.args.left
    c.args.nodes.now.items c.inner_text.new.nodes.items c.args.out.now c.in_ok-turn.turn c.push.new.self c.endless.result c.requires.low c.requires.high
    c.body.ensures
    c.in_ok-turn.ensures c.endless.ensures c.in_ok-push.ensures.ok (sym c.is_followed.ensures ∙ c.if-is_followed.false)

-- Jump lists

pub list_arms-loop-at-init : goal.list_arms-loop-at-init
list_arms-loop-at-init t c = record {
  low = omega arith;
  high = omega (arith, c.requires.low);
  wrote = no_arms_yet c.args.context.blocks.now c.args.context.ending.now c.args.context.levels c.args.part c.args.list.block c.args.list.end
      c.args.list.targets.now c.args.first c.args.nodes.now.items c.new-arms.result c.new-arms.ensures;
}

pub list_arms-loop-at-preserved : goal.list_arms-loop-at-preserved
list_arms-loop-at-preserved t c = record {
  low = omega (arith, c.loop-at.invariant.low, c.next_arm-past.ensures.above);
  high = c.next_arm-past.ensures.within;
  wrote = wrote_arm c.args.context.blocks.now c.args.context.ending.now c.args.context.levels c.args.part c.list_arm.result c.args.list.block
      c.args.list.end c.args.list.targets.now c.args.first c.args.nodes.now.items c.loop-at.nodes.items c.inner_text.new.nodes.items c.loop-at.arms
      c.push.new.self c.loop-at.at c.next_arm-past.result c.in_ok-body.body c.in_ok-node_arm.field-0 c.loop-at.invariant.low c.loop-at-test.true
      c.next_arm-past.ensures.is c.next_arm-past.ensures.above c.next_arm-past.ensures.within c.list_arm.ensures c.in_ok-node_arm.ensures
      c.in_ok-push.ensures.ok c.loop-at.invariant.wrote c.in_ok-body.ensures;
}

pub list_arms-returns : goal.list_arms-returns
list_arms-returns t c =
    all_arms c.args.context.blocks.now c.args.context.ending.now c.args.context.levels c.args.part c.args.list.block c.args.list.end c.args.list.targets.now
    c.args.first c.args.nodes.now.items c.loop-at.nodes.items c.loop-at.arms c.loop-at.at c.loop-at.invariant.high (omega (arith, c.loop-at-test.false))
    c.loop-at.invariant.wrote

pub push_cases-returns-in_default : goal.push_cases-returns-in_default
push_cases-returns-in_default t c = λ up.
    no_node c.args.context.blocks.now c.args.context.ending.now c.args.context.tail c.args.context.levels c.args.part c.args.at (piece.Cases c.args.end)
    c.args.nodes.now.items
    c.push_steps.new.nodes.items c.args.out.now c.push_steps.new.out c.in_ok-exit.field-0 lead.Off (omega (arith, up, c.requires)) c.in_ok-exit.ensures
    c.in_default.is

pub push_cases-returns-in_default-list_in : goal.push_cases-returns-in_default-list_in
push_cases-returns-in_default-list_in t c = λ up.
    no_list c.args.context.blocks.now c.args.context.ending.now c.args.context.tail c.args.context.levels c.args.part c.args.at c.args.end
    c.args.nodes.now.items
    c.push_steps.new.nodes.items c.args.out.now c.push_steps.new.out c.in_ok-exit.field-0 c.in-Some.exit c.list_in.result lead.Off
    (omega (arith, up, c.requires))
    c.in_ok-exit.ensures c.in-Some.is c.list_in.ensures c.in_default-list_in.is

pub push_cases-returns : goal.push_cases-returns
push_cases-returns t c =
    IfOk-weaker c.push_rest.result _ _
    (λ to x. λ up. cases_piece c.args.context.blocks.now c.args.context.ending.now c.args.context.tail c.args.context.levels c.args.part c.list_arm.result
    c.args.at c.args.end c.label_end-past.result c.args.nodes.now.items c.push_steps.new.nodes.items c.inner_text.new.nodes.items
    c.list_arms.new.nodes.items c.args.out.now c.push_steps.new.out c.push.new.self c.push_rest.new.out c.in_ok-other.other c.in_ok-arms.arms
    c.push_last_arm.new.arms c.in_ok-exit.field-0 c.in-Some.exit c.list_in.result c.in-Some-list_in.value c.in-Some-list_in.targets c.as_slice.result.now
    c.as_slice-2.result.now to c.requires.low c.in_ok-exit.ensures c.in-Some.is c.list_in.ensures c.in-Some-list_in.is c.label_end-past.ensures.is
    c.label_end-past.ensures.above c.label_end-past.ensures.within c.list_arm.ensures c.in_ok-other.ensures c.as_slice.ensures c.in_ok-arms.ensures
    c.as_slice-2.ensures c.in_ok-push_last_arm.ensures c.in_ok-push.ensures.ok x up)
    c.push_rest.ensures

-- Parts

pub push_part-loop-at-init : goal.push_part-loop-at-init
push_part-loop-at-init t c = record {
  low = omega arith;
  high = omega (arith, c.requires.low);
  wrote = wrote_nothing c.args.context.blocks.now c.args.context.ending.now c.args.context.tail c.args.context.levels c.args.part c.args.first c.args.paid
      c.args.nodes.now.items c.args.out.now;
}

pub push_part-returns-in_default : goal.push_part-returns-in_default
push_part-returns-in_default t c =
    nothing_fits c.args.context.blocks.now c.args.context.ending.now c.args.context.tail c.args.context.levels c.args.part c.args.first c.args.paid
    c.args.nodes.now.items c.args.out.now
    c.loop-at.nodes.items c.loop-at.out c.loop-at.is_paid c.loop-at.at c.piece_at.result _ c.loop-at.invariant.low (omega (arith, c.loop-at-test.true))
    c.piece_at.ensures.fits c.in_default.is
    c.loop-at.invariant.wrote

pub push_part-returns-then-not-is_onward : goal.push_part-returns-then-not-is_onward
push_part-returns-then-not-is_onward t c =
    let inside = behind c.args.part c.loop-at.at c.in-Some.piece c.in-Some.ensures.within in
    let high : after c.loop-at.at c.in-Some.piece ≤ c.args.part.past = inside.1 in
    subst (λ b. WritesPart c.args.context.blocks.now c.args.context.ending.now c.args.context.tail c.args.context.levels c.args.part c.args.first c.args.paid
    c.args.nodes.now.items
    c.pass_nodes.new.nodes.items c.args.out.now c.push_piece.new.out b)
    (sym c.is_off.ensures)
    (part_leaves c.args.context.blocks.now c.args.context.ending.now c.args.context.tail c.args.context.levels c.args.part c.args.first c.args.paid
    c.args.nodes.now.items c.args.out.now
    c.push_piece.new.nodes.items c.pass_nodes.new.nodes.items c.push_piece.new.out c.in_ok-lead.lead _ c.after-at.result
    (omega (arith, high, c.after-at.ensures)) (sym c.is_onward.ensures ∙ c.if-not-is_onward.true) c.pass_nodes.ensures
    (wrote_more c.args.context.blocks.now c.args.context.ending.now c.args.context.tail c.args.context.levels c.args.part c.args.first c.args.paid
    c.args.nodes.now.items c.args.out.now
    c.loop-at.nodes.items c.loop-at.out c.loop-at.is_paid c.loop-at.at c.after-at.result c.piece_at.result c.in-Some.piece c.push_piece.new.nodes.items
    c.push_piece.new.out c.in_ok-lead.lead c.loop-at.invariant.low
    (omega (arith, c.loop-at-test.true)) c.piece_at.ensures.fits c.in-Some.is c.after-at.ensures c.loop-at.invariant.wrote c.in_ok-lead.ensures))

pub push_part-loop-at-preserved : goal.push_part-loop-at-preserved
push_part-loop-at-preserved t c =
    let inside = behind c.args.part c.loop-at.at c.in-Some.piece c.in-Some.ensures.within in
    let low : c.loop-at.at < after c.loop-at.at c.in-Some.piece = inside.0 in
    let high : after c.loop-at.at c.in-Some.piece ≤ c.args.part.past = inside.1 in
    record {
      low = omega (arith, c.loop-at.invariant.low, low, c.after-at.ensures);
      high = omega (arith, high, c.after-at.ensures);
      wrote = wrote_onward c.args.context.blocks.now c.args.context.ending.now c.args.context.tail c.args.context.levels c.args.part c.args.first c.args.paid
          c.args.nodes.now.items c.args.out.now
          c.push_piece.new.nodes.items c.push_piece.new.out c.in_ok-lead.lead _ c.after-at.result (sym c.is_onward.ensures ∙ c.if-not-is_onward.false)
          (wrote_more c.args.context.blocks.now c.args.context.ending.now c.args.context.tail c.args.context.levels c.args.part c.args.first c.args.paid
          c.args.nodes.now.items c.args.out.now
          c.loop-at.nodes.items c.loop-at.out c.loop-at.is_paid c.loop-at.at c.after-at.result c.piece_at.result c.in-Some.piece c.push_piece.new.nodes.items
          c.push_piece.new.out c.in_ok-lead.lead c.loop-at.invariant.low
          (omega (arith, c.loop-at-test.true)) c.piece_at.ensures.fits c.in-Some.is c.after-at.ensures c.loop-at.invariant.wrote c.in_ok-lead.ensures);
    }

pub push_part-returns : goal.push_part-returns
push_part-returns t c =
    part_ends c.args.context.blocks.now c.args.context.ending.now c.args.context.tail c.args.context.levels c.args.part c.args.first c.args.paid
    c.args.nodes.now.items c.args.out.now
    c.loop-at.nodes.items c.loop-at.out c.loop-at.is_paid c.loop-at.at c.loop-at.invariant.high (omega (arith, c.loop-at-test.false))
    c.loop-at.invariant.wrote

-- Pieces

pub push_piece-returns-in-Skip : goal.push_piece-returns-in-Skip
push_piece-returns-in-Skip t c =
    piece_is c.args.context.blocks.now c.args.context.ending.now c.args.context.tail c.args.context.levels c.args.part c.args.at c.args.piece piece.Skip
    c.args.nodes.now.items
    c.pass_nodes.new.nodes.items c.args.out.now c.args.out.now lead.Onward c.in-Skip.is
    (skip_piece c.args.context.blocks.now c.args.context.ending.now c.args.context.tail c.args.context.levels c.args.part c.args.at c.args.nodes.now.items
    c.pass_nodes.new.nodes.items
    c.args.out.now c.pass_nodes.ensures)

pub push_piece-returns-in-One : goal.push_piece-returns-in-One
push_piece-returns-in-One t c =
    IfOk-weaker c.push_block.result _ _
    (λ to x. piece_is c.args.context.blocks.now c.args.context.ending.now c.args.context.tail c.args.context.levels c.args.part c.args.at c.args.piece
    piece.One c.args.nodes.now.items
    c.push_block.new.nodes.items c.args.out.now c.push_block.new.out to c.in-One.is x)
    c.push_block.ensures

pub push_piece-returns-in-Arm : goal.push_piece-returns-in-Arm
push_piece-returns-in-Arm t c =
    IfOk-weaker c.push_arm.result _ _
    (λ to x. piece_is c.args.context.blocks.now c.args.context.ending.now c.args.context.tail c.args.context.levels c.args.part c.args.at c.args.piece
    (piece.Arm c.in-Arm.to c.in-Arm.past) c.args.nodes.now.items
    c.push_arm.new.nodes.items c.args.out.now c.push_arm.new.out to c.in-Arm.is
    (x (subst (λ p. IsWithin c.args.part c.args.at p) c.in-Arm.is c.requires.within).1))
    c.push_arm.ensures

pub push_piece-returns-in-Arms : goal.push_piece-returns-in-Arms
push_piece-returns-in-Arms t c =
    IfOk-weaker c.push_arms.result _ _
    (λ to x. piece_is c.args.context.blocks.now c.args.context.ending.now c.args.context.tail c.args.context.levels c.args.part c.args.at c.args.piece
    (piece.Arms c.in-Arms.past c.in-Arms.over c.in-Arms.end) c.args.nodes.now.items
    c.push_arms.new.nodes.items c.args.out.now c.push_arms.new.out to c.in-Arms.is
    (x (subst (λ p. IsWithin c.args.part c.args.at p) c.in-Arms.is c.requires.within).2))
    c.push_arms.ensures

pub push_piece-returns-in-Loop : goal.push_piece-returns-in-Loop
push_piece-returns-in-Loop t c =
    IfOk-weaker c.push_loop.result _ _
    (λ to x. piece_is c.args.context.blocks.now c.args.context.ending.now c.args.context.tail c.args.context.levels c.args.part c.args.at c.args.piece
    (piece.Loop c.in-Loop.last c.in-Loop.left) c.args.nodes.now.items
    c.push_loop.new.nodes.items c.args.out.now c.push_loop.new.out to c.in-Loop.is x)
    c.push_loop.ensures

pub push_piece-returns-in-Cases : goal.push_piece-returns-in-Cases
push_piece-returns-in-Cases t c =
    IfOk-weaker c.push_cases.result _ _
    (λ to x. piece_is c.args.context.blocks.now c.args.context.ending.now c.args.context.tail c.args.context.levels c.args.part c.args.at c.args.piece
    (piece.Cases c.in-Cases.end) c.args.nodes.now.items
    c.push_cases.new.nodes.items c.args.out.now c.push_cases.new.out to c.in-Cases.is
    (x (subst (λ p. IsWithin c.args.part c.args.at p) c.in-Cases.is c.requires.within).1))
    c.push_cases.ensures
