use Rattle.st_tree.proofs.Common.{sym, subst, ◌∙◌, FitsUnit, BlockName}
use Rattle.memory_areas.specs.Memory.{Decides}
use Rattle.st_runner.proofs.Fits.{instance_decides, none_declared}
use Rattle.st_runner.proofs.calling.fits_unit.Goals as goal

pub returns-then-len-eq0 : goal.returns-then-len-eq0
returns-then-len-eq0 c = λ blocks is.
    subst (λ (name : BlockName). Decides c.has_block.result (FitsUnit blocks c.args.unit.now name c.args.call.now.instance c.args.call.now.actuals))
    (sym c.in-Fb.is)
    (instance_decides blocks c.args.memory.now is c.has_block.result c.args.unit.now c.args.call.now.instance
    (none_declared c.args.unit.now.formals (sym c.len.ensures ∙ c.if-len-eq0.true)) c.has_block.ensures)
