use Rattle.std.proofs.Common.{◌≡◌, ◌-◌, ◌++◌, flat_map}
use Rattle.std.specs.List.{range_with_len}
use Rattle.s7_demo.specs.Demo.{network_text}
use Rattle.s7_demo.proofs.source.put_networks.Given as goal

abbrev pub invariant-loop-network : goal.invariant-loop-network
invariant-loop-network l =
    l.out.items ++ flat_map network_text (range_with_len l.network (l.network-end - l.network))
    ≡ l.fn.out.items ++ flat_map network_text (range_with_len l.first l.count)
