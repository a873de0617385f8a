use Rattle.std.proofs.Common.{◌∙◌}
use Rattle.s7_demo.specs.Demo.{network_text}
use Rattle.s7_demo.proofs.Ranges.{next_text}
use Rattle.s7_demo.proofs.source.put_networks.Goals as goal

pub loop-network-preserved : goal.loop-network-preserved
loop-network-preserved c =
    next_text network_text c.loop-network.out.items c.put_network.new.out.items c.loop-network.network _ c.loop-network-test.true c.in_ok-put_network.ensures
    ∙ c.loop-network.invariant
