use Rattle.std.proofs.Common.{List, ap, ◌∙◌}
use Rattle.st_tree.specs.declared.program.Pou.{Pou}
use Rattle.st_globals.specs.Globals.{globals_of}
use Rattle.st_globals.proofs.Made.{made_direct, made_is, made_proper, made_runs}
use Rattle.st_globals.proofs.naming.name_places.Goals as goal

pub returns-clause-text : goal.returns-clause-text
returns-clause-text c =
    made_is c.args.tree c.args.symbols.now c.in_ok-globals.globals.list c.in_ok-pous.pous c.in_ok-globals.globals.numbers.entries
    (c.in_ok-globals.ensures.list ∙ ap (λ (us : List Pou). globals_of us c.args.symbols.now) c.as_slice.ensures)
    c.in_ok-globals.ensures.numbers c.in_ok-pous.ensures

pub returns-clause-proper : goal.returns-clause-proper
returns-clause-proper c =
    made_proper c.args.tree c.args.symbols.now c.in_ok-globals.globals.list c.in_ok-pous.pous c.in_ok-globals.globals.numbers.entries
    (c.in_ok-globals.ensures.list ∙ ap (λ (us : List Pou). globals_of us c.args.symbols.now) c.as_slice.ensures)
    c.in_ok-globals.ensures.numbers c.in_ok-pous.ensures c.requires.proper c.requires.globals c.requires.symbols

pub returns-clause-same : goal.returns-clause-same
returns-clause-same c =
    made_runs c.args.tree c.args.symbols.now c.in_ok-globals.globals.list c.in_ok-pous.pous c.in_ok-globals.globals.numbers.entries
    (c.in_ok-globals.ensures.list ∙ ap (λ (us : List Pou). globals_of us c.args.symbols.now) c.as_slice.ensures)
    c.in_ok-globals.ensures.numbers c.in_ok-pous.ensures c.requires.proper c.requires.globals c.requires.symbols

pub returns-clause-direct : goal.returns-clause-direct
returns-clause-direct c =
    made_direct c.args.tree c.args.symbols.now c.in_ok-globals.globals.list c.in_ok-pous.pous c.in_ok-globals.globals.numbers.entries
    (c.in_ok-globals.ensures.list ∙ ap (λ (us : List Pou). globals_of us c.args.symbols.now) c.as_slice.ensures)
    c.in_ok-globals.ensures.numbers c.in_ok-pous.ensures c.requires.proper c.requires.globals c.requires.symbols
