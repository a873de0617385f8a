use Rattle.std.proofs.Common.{◌≡◌, refl, ap, sym, take, ◌∙◌}
use Rattle.block_variables.specs.Firsts.{with_breaks}
use Rattle.symbol_names.specs.inner.Kept.{block_breaks}
use Rattle.name_tables.specs.Before.{block_numbers, number_of_block, numbers_before}
use Rattle.symbol_names.proofs.Turns.{block_turn, blocks_ended, long_enough, number_is}
use Rattle.symbol_names.proofs.blocks.note_blocks.Goals as goal

-- the blocks of the text are those that are gone over
pub number_at-number-requires : goal.number_at-number-requires
number_at-number-requires c =
    let symbols = c.args.known.now.names.now.symbols in
    long_enough (number_of_block symbols) c.args.raws.now c.loop-place.place c.index-raws-place.result c.loop-place-test.true c.index-raws-place.is
    c.blocks-in-loop-place.result.now (c.blocks-in-loop-place.ensures ∙ ap (block_numbers symbols) (sym c.requires.raws))

pub note_block-requires-clause-number : goal.note_block-requires-clause-number
note_block-requires-clause-number c =
    let symbols = c.args.known.now.names.now.symbols in
    number_is (number_of_block symbols) c.args.raws.now c.loop-place.place c.index-raws-place.result c.loop-place-test.true c.index-raws-place.is
    c.blocks-in-loop-place.result.now c.number_at-number.result
    (c.blocks-in-loop-place.ensures ∙ ap (block_numbers symbols) (sym c.requires.raws)) c.number_at-number.ensures

pub loop-place-preserved : goal.loop-place-preserved
loop-place-preserved c =
    let raw = c.index-raws-place.result in
    let place = c.loop-place.place in
    let text = c.args.known.now.names.now in
    let first = c.loop-place.first in
    let noted : c.note_block.new.first
    ≡ with_breaks first (block_breaks text (numbers_before (take place (block_numbers text.symbols c.args.raws.now))) raw)
    = c.in_ok-note_block.ensures
    ∙ ap (λ all. with_breaks first (block_breaks text (numbers_before (take place (block_numbers text.symbols all))) raw)) (sym c.requires.raws) in
    block_turn text first c.note_block.new.first _ c.args.raws.now place raw
    c.loop-place-test.true c.index-raws-place.is noted c.loop-place.invariant

pub returns : goal.returns
returns c =
    blocks_ended c.args.known.now.names.now c.loop-place.first _ c.args.raws.now c.loop-place.place c.loop-place-test.false c.loop-place.invariant
