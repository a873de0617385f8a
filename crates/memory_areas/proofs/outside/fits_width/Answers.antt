use Rattle.std.proofs.Common.{◌≡◌, rules}
use Rattle.memory_areas.proofs.SameFaults.{width_decides}
use Rattle.memory_areas.proofs.outside.fits_width.Goals as goal

pub returns : goal.returns
returns c = λ blocks is.
    let e : c.args.width ≡ c.args.wanted = search rules in
    width_decides blocks c.args.memory.now is c.is_there.result c.args.place c.args.width c.args.wanted e c.if-not-is_outside.ensures c.is_there.ensures
