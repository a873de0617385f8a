use Rattle.std.proofs.Common.{slice_get, sym, ap, ◌∙◌}
use Rattle.std.proofs.lemmas.Option.{slice_get_past}
use Rattle.stl_rules.specs.BodyRules.{most_formals}
use Rattle.stl_checks.proofs.Formals.{none_more}
use Rattle.stl_checks.proofs.bodies.note_formal.Goals as goal

pub returns : goal.returns
returns c =
    let lines = c.as_slice.result.now in
    none_more c.args.block.now c.args.breaks.now
    (sym (slice_get_past lines most_formals c.in-None.ensures.lookup.3) ∙ ap (λ ls. slice_get ls most_formals) (c.as_slice.ensures ∙ c.in_ok-lines.ensures))
