use Rattle.std.proofs.Common.{◌∙◌, sym, subst}
use Rattle.stl_grammar.specs.declared.item.NextItem.{NextItem}
use Rattle.stl_reader.specs.inner.Finding.{HasFirst}
use Rattle.stl_reader.proofs.Walk.{item_taken}
use Rattle.stl_reader.proofs.blocks.read_items.Goals as goal

pub loop-item-preserved : goal.loop-item-preserved
loop-item-preserved c =
    let P : NextItem → Type 0 = λ found. HasFirst c.loop-item.rest.now found in
    rw (c.rest_after-rest.ensures, c.rest_after.ensures, c.in_ok-put_item-in-Fits.ensures)
    (item_taken c.args.end c.loop-item.reading c.loop-item.place c.in-Fits.next c.loop-item.rest.now c.in-Fits.item c.in-Fits.size _
    (sym c.in-Fits.is ∙ c.in_ok-item.ensures.found) (subst P c.in-Fits.is c.in_ok-item.ensures.some) c.loop-item.invariant)
