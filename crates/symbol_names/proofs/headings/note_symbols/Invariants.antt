use Rattle.std.proofs.Common.{◌≡◌, [], take, drop}
use Rattle.stl_rules.specs.Stages.{symbols_behind}
use Rattle.block_variables.specs.Firsts.{with_breaks}
use Rattle.name_tables.specs.Before.{names_before}
use Rattle.symbol_names.proofs.headings.note_symbols.Given as goal

-- what is found and what the rest breaks are what all lines break
abbrev pub invariant-loop-place : goal.invariant-loop-place
invariant-loop-place l =
    with_breaks l.first (symbols_behind (names_before (take l.place l.lines)) (drop l.place l.lines))
    ≡ with_breaks l.initial.first (symbols_behind [] l.lines)
