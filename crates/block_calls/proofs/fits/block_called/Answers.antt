use Rattle.std.proofs.Common.{rules, ◌≡◌, ◌<◌, length, get_or, Some, None, refl, sym, subst}
use Rattle.std.proofs.lemmas.Option.{slice_get_read}
use Rattle.block_calls.proofs.Instances.{fits_there, named_within, not_named, unfit_there}
use Rattle.block_calls.specs.inner.Called.{IsCalled}
use Rattle.stl_tree.specs.StlRun.{block_named, is_same_name}
use Rattle.stl_tree.specs.declared.program.Block.{Block}
use Rattle.block_calls.proofs.fits.block_called.Goals as goal

pub returns-in_err-block : goal.returns-in_err-block
returns-in_err-block c =
    let none : block_named c.args.call.now.block c.args.program.now.blocks ≡ None = search rules in
    let result : c.from_residual.result ≡ None = search rules in
    subst (IsCalled c.args.program.now c.args.call.now) (sym result) (not_named c.args.program.now c.args.call.now none)

pub returns-then-fits_block : goal.returns-then-fits_block
returns-then-fits_block c =
    let some : block_named c.args.call.now.block c.args.program.now.blocks ≡ Some c.in_ok-block.block = search rules in
    let within : c.in_ok-block.block < length c.args.program.now.blocks = named_within (λ (b : Block). is_same_name b.name c.args.call.now.block)
    c.args.program.now.blocks c.in_ok-block.block some in
    let read : c.index-as_slice-block.result ≡ get_or c.args.program.now.blocks c.in_ok-block.block c.index-as_slice-block.result = search rules in
    let at = slice_get_read c.args.program.now.blocks (length c.args.program.now.blocks) c.in_ok-block.block c.index-as_slice-block.result refl within read in
    fits_there c.args.program.now c.args.call.now c.in_ok-block.block c.index-as_slice-block.result some at c.if-fits_block.ensures

pub returns-else-fits_block : goal.returns-else-fits_block
returns-else-fits_block c =
    let some : block_named c.args.call.now.block c.args.program.now.blocks ≡ Some c.in_ok-block.block = search rules in
    let within : c.in_ok-block.block < length c.args.program.now.blocks = named_within (λ (b : Block). is_same_name b.name c.args.call.now.block)
    c.args.program.now.blocks c.in_ok-block.block some in
    let read : c.index-as_slice-block.result ≡ get_or c.args.program.now.blocks c.in_ok-block.block c.index-as_slice-block.result = search rules in
    let at = slice_get_read c.args.program.now.blocks (length c.args.program.now.blocks) c.in_ok-block.block c.index-as_slice-block.result refl within read in
    unfit_there c.args.program.now c.args.call.now c.in_ok-block.block c.index-as_slice-block.result some at c.if-fits_block.ensures
