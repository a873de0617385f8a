use Rattle.std.proofs.Common.{◌≡◌, ◌++◌, map, refl, ap, sym, take, ◌∙◌}
use Rattle.std.proofs.lemmas.List.{append-nil, take_all}
use Rattle.block_variables.specs.Firsts.{with_breaks}
use Rattle.symbol_names.specs.inner.Kept.{block_breaks, block_within}
use Rattle.name_tables.specs.Before.{block_numbers, number_of_block, numbers_before}
use Rattle.name_tables.proofs.Lists.{map_turn}
use Rattle.symbol_names.proofs.Turns.{block_turn, blocks_ended, long_enough, number_is}
use Rattle.symbol_names.proofs.blocks.put_each.Goals as goal

pub loop-place-init : goal.loop-place-init
loop-place-init c = (sym (append-nil c.args.blocks.now.made), refl)

-- the blocks of the text are those that are gone over
pub number_at-number-requires : goal.number_at-number-requires
number_at-number-requires c =
    let symbols = c.args.known.now.names.now.symbols in
    long_enough (number_of_block symbols) c.args.raws.now c.loop-place.place c.index-raws-place.result c.loop-place-test.true c.index-raws-place.is
    c.blocks-in-loop-place.result.now (c.blocks-in-loop-place.ensures ∙ ap (block_numbers symbols) (sym c.requires.raws))

pub put_block-requires-clause-number : goal.put_block-requires-clause-number
put_block-requires-clause-number c =
    let symbols = c.args.known.now.names.now.symbols in
    number_is (number_of_block symbols) c.args.raws.now c.loop-place.place c.index-raws-place.result c.loop-place-test.true c.index-raws-place.is
    c.blocks-in-loop-place.result.now c.number_at-number.result
    (c.blocks-in-loop-place.ensures ∙ ap (block_numbers symbols) (sym c.requires.raws)) c.number_at-number.ensures

pub loop-place-preserved : goal.loop-place-preserved
loop-place-preserved c =
    let raw = c.index-raws-place.result in
    let place = c.loop-place.place in
    let text = c.args.known.now.names.now in
    let first = c.loop-place.blocks.first in
    let noted : c.put_block.new.blocks.first
    ≡ with_breaks first (block_breaks text (numbers_before (take place (block_numbers text.symbols c.args.raws.now))) raw)
    = c.in_ok-put_block.ensures.first
    ∙ ap (λ all. with_breaks first (block_breaks text (numbers_before (take place (block_numbers text.symbols all))) raw)) (sym c.requires.raws) in (
      map_turn (block_within text) c.args.blocks.now.made c.loop-place.blocks.made c.put_block.new.blocks.made c.args.raws.now place raw c.loop-place-test.true
          c.index-raws-place.is c.loop-place.invariant.0 c.in_ok-put_block.ensures.made,
      block_turn text first c.put_block.new.blocks.first _ c.args.raws.now place raw
          c.loop-place-test.true c.index-raws-place.is noted c.loop-place.invariant.1,
    )

pub returns-clause-made : goal.returns-clause-made
returns-clause-made c =
    c.loop-place.invariant.0
    ∙ ap (λ raws. c.args.blocks.now.made ++ map (block_within c.args.known.now.names.now) raws)
    (take_all c.loop-place.place c.args.raws.now c.loop-place-test.false)

pub returns-clause-first : goal.returns-clause-first
returns-clause-first c =
    blocks_ended c.args.known.now.names.now c.loop-place.blocks.first _ c.args.raws.now c.loop-place.place c.loop-place-test.false c.loop-place.invariant.1
