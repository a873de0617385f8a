use Rattle.std.proofs.Common.{◌≡◌, ◌+◌, ◌≤◌, [], ◌∷◌, get_or, length, true, ap, subst, sym, ◌∙◌, arith, length-append}
use Rattle.flow_graph.specs.Graphs.{ways_after}
use Rattle.flow_graph.specs.inner.Reaching.{SearchState, IsClosedButFor, IsSound, count_unseen, state_of}
use Rattle.flow_graph.proofs.Reaching.{are_reached, goes_on_closed, goes_on_leaves, goes_on_reached, goes_on_stays, none_left}
use Rattle.flow_graph.proofs.search.search.Goals as goal

pub loop-number-preserved : goal.loop-number-preserved
loop-number-preserved c =
    let sound = goes_on_reached c.args.exits.now c.loop-number.seen c.pop.new.self.items c.in-Some.number
    (subst (λ w. IsSound (ways_after c.args.exits.now) (state_of c.loop-number.seen w)) c.in-Some.ensures.items c.loop-number.invariant.sound) in
    let closed = goes_on_closed c.args.exits.now c.loop-number.seen c.pop.new.self.items c.in-Some.number
    (subst (λ w. IsClosedButFor (ways_after c.args.exits.now) (state_of c.loop-number.seen w)) c.in-Some.ensures.items c.loop-number.invariant.closed) in
    let first = goes_on_stays c.args.exits.now (state_of c.loop-number.seen c.pop.new.self.items) c.in-Some.number 0 c.loop-number.invariant.first in
    record {
      sound = subst (IsSound (ways_after c.args.exits.now)) (sym c.in_ok-go_on.ensures) sound;
      closed = subst (IsClosedButFor (ways_after c.args.exits.now)) (sym c.in_ok-go_on.ensures) closed;
      first = subst (λ (f : SearchState). get_or f.seen 0 true ≡ true) (sym c.in_ok-go_on.ensures) first;
    }

pub loop-number-smaller : goal.loop-number-smaller
loop-number-smaller c =
    let left : count_unseen c.go_on.new.seen + length c.go_on.new.work.items ≤ count_unseen c.loop-number.seen + length c.pop.new.self.items =
    subst (λ (f : SearchState). count_unseen f.seen + length f.work ≤ count_unseen c.loop-number.seen + length c.pop.new.self.items)
    (sym c.in_ok-go_on.ensures) (goes_on_leaves c.args.exits.now (state_of c.loop-number.seen c.pop.new.self.items) c.in-Some.number) in
    let taken_one : length c.loop-number.work.items ≡ length c.pop.new.self.items + 1 =
    ap length c.in-Some.ensures.items ∙ length-append c.pop.new.self.items (c.in-Some.number ∷ []) in
    omega (arith, left, taken_one)

pub returns : goal.returns
returns c =
    are_reached (ways_after c.args.exits.now) c.loop-number.seen c.loop-number.work.items
    (none_left _ c.loop-number.work.items c.pop.new.self.items c.in_default.ensures.cases.0 c.in_default.ensures.items c.in_default.ensures.rest)
    c.loop-number.invariant.sound c.loop-number.invariant.closed c.loop-number.invariant.first
