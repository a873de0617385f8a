-- How the reader's loop follows the items of a text.
use Rattle.std.proofs.Common.{◌≡◌, ℕ, List, [], ◌∷◌, drop, Result, Ok, Err, refl, sym, ap, ◌∙◌}
use Rattle.s7_base.specs.declared.reason.Line.{Line}
use Rattle.s7_base.specs.declared.reason.Rejection.{Rejection}
use Rattle.s7_base.specs.declared.token.Token.{Token}
use Rattle.stl_grammar.proofs.Skipping.{skipped}
use Rattle.stl_grammar.specs.Items.{item_at, items_from, prepend_item, with_found}
use Rattle.stl_grammar.specs.RawPrograms.{nothing_read, raw_by, with_item}
use Rattle.stl_grammar.specs.declared.item.NextItem.{NextItem}
use Rattle.stl_grammar.specs.declared.item.NextItem.TheVariants.{Fits}
use Rattle.stl_grammar.specs.declared.item.Item.{Item}
use Rattle.stl_grammar.specs.declared.item.Reading.{Reading}
use Rattle.stl_grammar.specs.declared.item.Where.{Where}
use Rattle.stl_tree.specs.declared.raw.RawProgram.{RawProgram}
use Rattle.stl_reader.specs.inner.Finding.{HasFirst, read_behind}

prepended : (reading : Reading) (item : Item) (behind : Result (List Item) Rejection)
    → read_behind (with_item reading item) behind ≡ read_behind reading (prepend_item item behind)
prepended reading item (Ok items) = refl
prepended reading item (Err refused) = refl

-- an item that fits, and what is left behind it
pub item_taken : (end : Line) (reading : Reading) (place next : Where) (tokens : List Token) (item : Item) (size : ℕ) (whole : Result RawProgram Rejection) →
    Fits item size next ≡ item_at end place tokens → HasFirst tokens (Fits item size next) → read_behind reading (items_from end 0 place tokens) ≡ whole
    → read_behind (with_item reading item) (items_from end 0 next (drop size (drop 1 tokens))) ≡ whole
item_taken end reading place next [] item size whole found some e = absurd some
item_taken end reading place next (first ∷ rest) item size whole found some e =
    ap (λ (r : Result (List Item) Rejection). read_behind (with_item reading item) r) (sym (skipped end size next rest))
    ∙ prepended reading item (items_from end size next rest)
    ∙ ap (λ (f : NextItem). read_behind reading (with_found f (λ taken after. items_from end taken after rest))) found
    ∙ e

-- a text is what is read behind nothing
pub read_from_nothing : (items : Result (List Item) Rejection) → read_behind nothing_read items ≡ raw_by items
read_from_nothing (Ok items) = refl
read_from_nothing (Err refused) = refl
