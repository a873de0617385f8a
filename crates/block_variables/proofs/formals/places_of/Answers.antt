use Rattle.std.proofs.Common.{◌≡◌, ◌+◌, map, nat_eq, refl, rules, subst, sym, ap, take, ◌∙◌}
use Rattle.std.proofs.lemmas.List.{take_all}
use Rattle.std.specs.Cmp.Lexicographic.{pointwise}
use Rattle.stl_rules.specs.DeclarationRules.{key_of}
use Rattle.name_tables.specs.Places.{first_place, with_place}
use Rattle.name_tables.proofs.Firsts.{key_turn, name_sound}
use Rattle.block_variables.specs.inner.FormalPlaces.{AreFormalPlaces, has_formal_key}
use Rattle.block_variables.proofs.formals.places_of.Goals as goal

pub loop-place-preserved : goal.loop-place-preserved
loop-place-preserved c =
    let formals = c.args.all.now in
    let formal = c.index-all-place.result in
    let place = c.loop-place.place in
    let table = map (λ e. (e.0.items, e.1)) c.loop-place.places.entries in
    let key : c.in_ok-key.key.items ≡ key_of formal.name = search rules in
    let put : map (λ e. (e.0.items, e.1)) c.put_place.new.places.entries ≡ with_place (pointwise nat_eq) c.in_ok-key.key.items place table
    = c.in_ok-put_place.ensures in
    subst (AreFormalPlaces (take (place + 1) formals)) (sym (put ∙ ap (λ k. with_place (pointwise nat_eq) k place table) key))
    (key_turn (pointwise nat_eq) name_sound has_formal_key formals place formal
    (key_of formal.name) table c.loop-place-test.true c.index-all-place.is (λ k. refl) c.loop-place.invariant)

pub returns : goal.returns
returns c = λ key. c.loop-place.invariant key ∙ ap (first_place (has_formal_key key)) (take_all c.loop-place.place c.args.all.now c.loop-place-test.false)
