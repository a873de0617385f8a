use Rattle.flow_graph.proofs.Reaching.{started_closed, started_first, started_reached}
use Rattle.flow_graph.proofs.search.search_from_first.Goals as goal

pub search-requires-clause-sound : goal.search-requires-clause-sound
search-requires-clause-sound c =
    started_reached c.args.exits.now c.meet.new.seen c.args.seen.now c.meet.new.work.items c.new-work.result.items c.requires
    c.new-work.ensures.items c.in_ok-meet.ensures

pub search-requires-clause-closed : goal.search-requires-clause-closed
search-requires-clause-closed c =
    started_closed c.args.exits.now c.meet.new.seen c.args.seen.now c.meet.new.work.items c.new-work.result.items c.requires
    c.new-work.ensures.items c.in_ok-meet.ensures

pub search-requires-clause-first : goal.search-requires-clause-first
search-requires-clause-first c =
    started_first _ c.meet.new.seen c.args.seen.now c.meet.new.work.items c.new-work.result.items c.requires
    c.new-work.ensures.items c.in_ok-meet.ensures
