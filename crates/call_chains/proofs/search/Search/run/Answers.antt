use Rattle.std.proofs.Common.{◌≡◌, ◌≤◌, ◌+◌, ◌∷◌, [], length, ap, ◌∙◌, subst, arith, length-append}
use Rattle.call_chains.specs.Search.{AllReached, IsClosedButFor, count_unmarked}
use Rattle.call_chains.proofs.Reached.{none_waits, taken, taken_follows}
use Rattle.call_chains.proofs.search.Search.run.Goals as goal

pub visit-requires-clause-sound : goal.visit-requires-clause-sound
visit-requires-clause-sound c =
    let waiting = subst (AllReached c.args.graph.now c.loop-unit.self.from) c.in-Some.ensures.items c.loop-unit.invariant.sound.waiting in
    record {
      size = c.loop-unit.invariant.sound.size;
      marked = c.loop-unit.invariant.sound.marked;
      waiting = (taken c.args.graph.now c.loop-unit.self.from c.in-Some.unit c.pop.new.self.items waiting).0;
    }

pub visit-requires-clause-reached : goal.visit-requires-clause-reached
visit-requires-clause-reached c =
    let waiting = subst (AllReached c.args.graph.now c.loop-unit.self.from) c.in-Some.ensures.items c.loop-unit.invariant.sound.waiting in
    (taken c.args.graph.now c.loop-unit.self.from c.in-Some.unit c.pop.new.self.items waiting).1

pub loop-unit-smaller : goal.loop-unit-smaller
loop-unit-smaller c =
    let left : count_unmarked c.visit.new.self.seen.items + length c.visit.new.self.work.items
    ≤ count_unmarked c.loop-unit.self.seen.items + length c.pop.new.self.items =
    c.in_ok-visit.ensures.left in
    let taken_one : length c.loop-unit.self.work.items ≡ length c.pop.new.self.items + 1 =
    ap length c.in-Some.ensures.items ∙ length-append c.pop.new.self.items (c.in-Some.unit ∷ []) in
    omega (arith, left, taken_one)

pub visit-requires-clause-followed : goal.visit-requires-clause-followed
visit-requires-clause-followed c =
    taken_follows c.args.graph.now c.loop-unit.self.from c.in-Some.unit c.loop-unit.self.seen.items c.pop.new.self.items
    (subst (IsClosedButFor c.args.graph.now c.loop-unit.self.from c.loop-unit.self.seen.items) c.in-Some.ensures.items c.loop-unit.invariant.followed)

pub returns-clause-closed : goal.returns-clause-closed
returns-clause-closed c =
    none_waits c.args.graph.now c.loop-unit.self.from _ c.loop-unit.self.seen.items c.loop-unit.self.work.items c.pop.new.self.items
    c.in_default.ensures.cases.0 c.in_default.ensures.items c.in_default.ensures.rest c.loop-unit.invariant.followed
