use Rattle.std.proofs.Common.{◌++◌, sym, ap, ◌∙◌}
use Rattle.std.proofs.lemmas.List.{append-nil}
use Rattle.std.proofs.lemmas.Option.{slice_get_past}
use Rattle.stl_rules.specs.BodyRules.{instruction_too_many, most_instructions}
use Rattle.stl_checks.proofs.bodies.note_too_many.Goals as goal

pub returns-in-None : goal.returns-in-None
returns-in-None c =
    let breaks = c.args.breaks.now in
    sym (append-nil breaks)
    ∙ ap (λ o. breaks ++ instruction_too_many o) (sym (slice_get_past c.args.body.now most_instructions c.in-None.ensures.lookup.3))
