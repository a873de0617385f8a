use Rattle.std.proofs.Common.{is_none, sym, ap}
use Rattle.std.proofs.lemmas.Option.{slice_get_past}
use Rattle.memory_areas.specs.declared.sizes.TheConstants.{MOST_BLOCKS}
use Rattle.symbol_names.proofs.data.are_few.Goals as goal

pub returns-in-None : goal.returns-in-None
returns-in-None c = ap (λ o. is_none o) (sym (slice_get_past c.args.dbs.now MOST_BLOCKS c.in-None.ensures.lookup.3))
