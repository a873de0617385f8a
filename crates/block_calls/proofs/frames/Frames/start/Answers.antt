use Rattle.std.proofs.Common.{rules, ◌≡◌, ◌<◌, length, Some, sym, subst, arith}
use Rattle.block_calls.proofs.Starting.{first_fits}
use Rattle.block_calls.specs.Fitting.{AreActivationsOf}
use Rattle.block_calls.proofs.FewBlocks.{few_blocks}
use Rattle.block_calls.proofs.Instances.{few_given}
use Rattle.memory_areas.proofs.SameFaults.{blocks_at_start}
use Rattle.memory_areas.specs.Memory.{HasBlocks}
use Rattle.stl_tree.specs.StlRun.{Fits, block_named, first_activation}
use Rattle.block_calls.proofs.frames.Frames.start.Goals as goal

pub give_places-requires : goal.give_places-requires
give_places-requires c =
    let fits : Fits c.args.program.now c.args.call.now = search rules in few_given c.args.program.now c.requires.accepted c.args.call.now fits

pub overflow_cast-block : goal.overflow_cast-block
overflow_cast-block c =
    let within : c.in-Some.block < length c.args.program.now.blocks = search rules in
    let few = few_blocks c.args.program.now c.requires.accepted in
    omega (arith, within, few)

pub returns-clause-fitting : goal.returns-clause-fitting
returns-clause-fitting c =
    let fits : Fits c.args.program.now c.args.call.now = search rules in
    let named : block_named c.args.call.now.block c.args.program.now.blocks ≡ Some c.in-Some.block = search rules in
    let made : c.push.new.self ≡ first_activation (Some c.in-Some.block) c.args.call.now = search rules in
    λ answered. subst (AreActivationsOf c.args.program.now) (sym made)
    (first_fits c.args.program.now c.requires.accepted c.args.call.now c.in-Some.block fits named)

pub returns-clause-kept : goal.returns-clause-kept
returns-clause-kept c =
    λ answered. subst (HasBlocks c.args.program.now.dbs) (sym c.clear_all.ensures)
    (blocks_at_start c.args.program.now.dbs c.args.memory.now.areas c.requires.memory)
