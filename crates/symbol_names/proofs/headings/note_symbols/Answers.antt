use Rattle.std.proofs.Common.{◌≡◌, ap, take, ◌∙◌}
use Rattle.block_variables.specs.Firsts.{with_breaks}
use Rattle.name_tables.specs.Before.{names_before}
use Rattle.symbol_names.specs.inner.Kept.{line_breaks}
use Rattle.symbol_names.proofs.Turns.{symbol_turn, symbols_ended}
use Rattle.symbol_names.proofs.headings.note_symbols.Goals as goal

pub loop-place-preserved : goal.loop-place-preserved
loop-place-preserved c =
    let line = c.index-lines-place.result in
    let place = c.loop-place.place in
    let first = c.loop-place.first in
    let noted : c.note_line.new.first ≡ with_breaks first (line_breaks (names_before (take place c.args.lines.now)) line)
    = c.in_ok-note_line.ensures ∙ ap (λ s. with_breaks first (line_breaks (names_before (take place s)) line)) c.requires in
    symbol_turn first c.note_line.new.first _ c.args.lines.now place line c.loop-place-test.true c.index-lines-place.is noted c.loop-place.invariant

pub returns : goal.returns
returns c = symbols_ended c.loop-place.first _ c.args.lines.now c.loop-place.place c.loop-place-test.false c.loop-place.invariant
