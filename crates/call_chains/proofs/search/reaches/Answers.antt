use Rattle.std.proofs.Common.{◌≡◌, ◌∙◌}
use Rattle.call_chains.proofs.Reached.{decided}
use Rattle.call_chains.proofs.search.reaches.Goals as goal

pub returns : goal.returns
returns c =
    let from : c.run.new.self.from ≡ c.args.from = c.in_ok-run.ensures.from ∙ c.in_ok-search.ensures.from in
    let d =
    decided c.args.graph.now c.run.new.self.from c.args.to c.run.new.self.seen.items
    c.run.new.self.work.items c.in_ok-run.ensures.sound c.in_ok-run.ensures.closed c.requires in
    rw (← from, c.has.ensures) d
