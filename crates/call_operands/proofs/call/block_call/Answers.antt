use Rattle.call_operands.proofs.Calls.{instance_fits}
use Rattle.stl_tree.specs.declared.raw.RawCall.{out-RawCall}
use Rattle.call_operands.proofs.call.block_call.Goals as goal

pub instance_of_call-requires : goal.instance_of_call-requires
instance_of_call-requires c = instance_fits c.args.scope.now (out-RawCall c.args.call.now) c.requires.rules
