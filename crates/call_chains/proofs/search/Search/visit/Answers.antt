use Rattle.std.proofs.Common.{◌≤◌, ◌+◌, length, sym, ◌∙◌, subst, arith}
use Rattle.call_chains.specs.Chain.{Reaches}
use Rattle.call_chains.specs.Search.{count_unmarked}
use Rattle.call_chains.proofs.Reached.{all_followed, followed_at, reach_leaves, visited}
use Rattle.call_chains.proofs.search.Search.visit.Goals as goal

pub loop-call-preserved : goal.loop-call-preserved
loop-call-preserved c =
    let unit = c.in-Some.ensures.lookup in
    let reached = subst (λ n. Reaches c.args.graph.now n c.args.unit) (sym c.loop-call.invariant.from) c.requires.reached in
    let sound =
    visited c.args.graph.now c.loop-call.self.from c.args.unit c.loop-call.call-index c.in-Some.calls.now c.as_slice-call-items.result.now _ _ _ unit.3.0 unit.1
    c.as_slice-call-items.ensures c.loop-call-test.true c.loop-call.invariant.sound reached in
    let followed =
    followed_at c.args.graph.now c.loop-call.self.from c.args.unit c.loop-call.call-index
    c.in-Some.calls.now c.as_slice-call-items.result.now _ _ _ unit.3.0 unit.1
    c.as_slice-call-items.ensures c.loop-call-test.true c.loop-call.invariant.followed in
    let leaves : count_unmarked c.reach.new.self.seen.items + length c.reach.new.self.work.items
    ≤ count_unmarked c.loop-call.self.seen.items + length c.loop-call.self.work.items =
    reach_leaves c.loop-call.self.from _ c.loop-call.self.seen.items c.reach.new.self.seen.items
    c.loop-call.self.work.items c.reach.new.self.work.items c.in_ok-reach.ensures.seen c.in_ok-reach.ensures.work in
    record {
      from = c.in_ok-reach.ensures.from ∙ c.loop-call.invariant.from;
      sound = rw (c.in_ok-reach.ensures.from, c.in_ok-reach.ensures.seen, c.in_ok-reach.ensures.work) sound;
      followed = rw (c.in_ok-reach.ensures.from, c.in_ok-reach.ensures.seen, c.in_ok-reach.ensures.work) followed;
      left = omega (arith, leaves, c.loop-call.invariant.left);
    }

pub returns-clause-followed : goal.returns-clause-followed
returns-clause-followed c =
    let unit = c.in-Some.ensures.lookup in
    let end : length c.in-Some.calls.now ≤ c.loop-call.call-index = rw (← c.as_slice-call-items.ensures) c.loop-call-test.false in
    all_followed c.args.graph.now c.loop-call.self.from c.args.unit c.loop-call.call-index
    c.in-Some.calls.now c.loop-call.self.seen.items c.loop-call.self.work.items
    unit.3.0 unit.1 end c.loop-call.invariant.followed
