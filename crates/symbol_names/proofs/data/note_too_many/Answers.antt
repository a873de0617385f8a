use Rattle.std.proofs.Common.{sym, ap, ◌∙◌}
use Rattle.std.proofs.lemmas.Option.{slice_get_past}
use Rattle.memory_areas.specs.declared.sizes.TheConstants.{MOST_BLOCKS}
use Rattle.stl_rules.specs.Stages.{one_too_many}
use Rattle.block_variables.specs.Firsts.{with_breaks}
use Rattle.block_variables.proofs.Firsts.{none_more}
use Rattle.symbol_names.proofs.data.note_too_many.Goals as goal

pub returns-in-None : goal.returns-in-None
returns-in-None c =
    sym (none_more c.args.first.now)
    ∙ ap (λ o. with_breaks c.args.first.now (one_too_many o)) (sym (slice_get_past c.args.dbs.now MOST_BLOCKS c.in-None.ensures.lookup.3))
