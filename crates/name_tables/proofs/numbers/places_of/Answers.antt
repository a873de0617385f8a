use Rattle.std.proofs.Common.{◌≡◌, ◌+◌, Ok, take, get_or, subst, sym, ap, ◌∙◌}
use Rattle.std.proofs.lemmas.List.{take_all}
use Rattle.name_tables.specs.Places.{first_place}
use Rattle.name_tables.specs.Before.{is_block}
use Rattle.name_tables.specs.inner.Places.{AreNumberPlaces, with_number_place}
use Rattle.stl_tree.specs.declared.raw.BlockKind.TheVariants as block
use Rattle.name_tables.proofs.Places.{block_turn}
use Rattle.name_tables.proofs.numbers.places_of.Goals as goal

pub loop-place-preserved : goal.loop-place-preserved
loop-place-preserved c =
    let numbers = c.args.numbers.now in
    let place = c.loop-place.place in
    let b = get_or numbers place (block.Ob, Ok 0) in
    let put : c.put_place.new.places.entries ≡ with_number_place b.0 b.1 place c.loop-place.places.entries
    = c.in_ok-put_place.ensures in
    subst (AreNumberPlaces (take (place + 1) numbers)) (sym put)
    (block_turn numbers place (block.Ob, Ok 0) c.loop-place.places.entries c.loop-place-test.true c.loop-place.invariant)

pub returns : goal.returns
returns c =
    λ key. c.loop-place.invariant key ∙ ap (first_place (is_block key.0 key.1)) (take_all c.loop-place.place c.args.numbers.now c.loop-place-test.false)
