use Rattle.std.proofs.Common.{◌≡◌, ◌+◌, get_or, map, subst, sym, ap, take, ◌∙◌}
use Rattle.std.proofs.lemmas.List.{take_all}
use Rattle.name_tables.specs.Places.{first_place}
use Rattle.stl_rules.specs.Labels.{has_label}
use Rattle.body_labels.specs.inner.Positions.{AreLabelPlaces, with_label_place}
use Rattle.body_labels.proofs.Targets.{label_turn}
use Rattle.body_labels.proofs.labels.places_of.Goals as goal

pub loop-place-preserved : goal.loop-place-preserved
loop-place-preserved c =
    let body = c.args.body.now in
    let place = c.loop-place.place in
    let raw = get_or body place c.index-body-place.result in
    let table = map (λ e. (e.0.items, e.1)) c.loop-place.places.entries in
    let put : map (λ e. (e.0.items, e.1)) c.put_label.new.places.entries ≡ with_label_place raw.label place table = c.in_ok-put_label.ensures in
    subst (AreLabelPlaces (take (place + 1) body)) (sym put)
    (label_turn body place c.index-body-place.result table c.loop-place-test.true c.loop-place.invariant)

pub returns : goal.returns
returns c = λ key. c.loop-place.invariant key ∙ ap (first_place (has_label key)) (take_all c.loop-place.place c.args.body.now c.loop-place-test.false)
