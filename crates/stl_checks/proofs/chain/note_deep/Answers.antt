use Rattle.std.proofs.Common.{◌++◌, sym}
use Rattle.stl_rules.specs.Stages.{deep_breaks}
use Rattle.stl_checks.specs.inner.Chains.{headings_of}
use Rattle.stl_checks.proofs.Lists.{deep_end}
use Rattle.stl_checks.proofs.chain.note_deep.Goals as goal

pub returns-in_default-first : goal.returns-in_default-first
returns-in_default-first c =
    deep_end c.loop-flags.breaks c.loop-flags.flags.now c.loop-flags.rest.now
    (c.args.breaks.now ++ deep_breaks c.args.begins.now (headings_of c.args.blocks.now)) (sym c.in_default-first.ensures.value) c.loop-flags.invariant
