use Rattle.std.proofs.Common.{◌≡◌, ◌∙◌, [], length, sym, ap, get_or, Vec, Global, List, ℕ, map}
use Rattle.std.specs.Prelude.{slice_set}
use Rattle.std.proofs.lemmas.List.{get_or-map, map-set, with_items_is}
use Rattle.memory_areas.specs.Areas.{overwrite}
use Rattle.memory_areas.proofs.memory.replace_in_block.Goals as goal

pub returns : goal.returns
returns c =
    let items : Vec ℕ Global → List ℕ = λ b. b.items in
    let block : Vec ℕ Global = get_or c.args.blocks.now c.args.position c.index-blocks-position.result in
    let old : get_or (map items c.args.blocks.now) c.args.position [] ≡ block.items =
    get_or-map items c.args.blocks.now c.args.position c.index-blocks-position.result [] c.requires.within in
    let sized : length c.replace.new.bytes ≡ block.len = c.replace.auto.bytes ∙ ap length c.deref_mut.ensures.value ∙ sym block.ok.0 in
    map-set items c.args.blocks.now c.args.position _
    ∙ ap (slice_set (map items c.args.blocks.now) c.args.position)
    (with_items_is block c.replace.new.bytes sized
    ∙ c.replace.ensures
    ∙ ap (λ bytes. overwrite bytes c.args.at c.args.new.now) (c.deref_mut.ensures.value ∙ sym old))
