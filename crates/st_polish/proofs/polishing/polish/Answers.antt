use Rattle.std.proofs.Common.{◌≡◌, sym, subst, ◌∙◌}
use Rattle.std.proofs.lemmas.Result.{IfOk-weaker}
use Rattle.condition_laws.specs.Elsif.{AllHaveElsif}
use Rattle.condition_laws.specs.NoLarger.{HasNoLarger}
use Rattle.st_globals.specs.NamedText.{named_text}
use Rattle.st_polish.proofs.Named.{new_has_elsif, new_is_no_larger, new_names, new_runs}
use Rattle.st_polish.specs.Names.{KeepsNames}
use Rattle.st_polish.specs.SameRuns.{RunsAsBefore}
use Rattle.st_tree.specs.declared.program.StProgram.{StProgram}
use Rattle.st_polish.proofs.polishing.polish.Goals as goal

pub with_symbols-requires-clause-globals : goal.with_symbols-requires-clause-globals
with_symbols-requires-clause-globals c = c.in_ok-with_tests.ensures.kept.globals ∙ c.requires.globals

pub returns-clause-same : goal.returns-clause-same
returns-clause-same c =
    let old = c.args.tree in
    let tree = c.in_ok-with_tests.with_tests in
    let symbols = c.args.symbols.now in
    IfOk-weaker c.with_symbols.result (λ (new : StProgram). new ≡ named_text symbols tree) (λ (new : StProgram). RunsAsBefore old new)
    (λ new e.
    subst (RunsAsBefore old) (sym e)
    (new_runs old tree symbols c.in_ok-with_tests.ensures.kept c.in_ok-with_tests.ensures.proper c.requires.globals c.requires.symbols
    c.in_ok-with_tests.ensures.same))
    c.with_symbols.ensures.text

pub returns-clause-names : goal.returns-clause-names
returns-clause-names c =
    let old = c.args.tree in
    let tree = c.in_ok-with_tests.with_tests in
    let symbols = c.args.symbols.now in
    IfOk-weaker c.with_symbols.result (λ (new : StProgram). new ≡ named_text symbols tree)
    (λ (new : StProgram). KeepsNames symbols old new)
    (λ new e.
    subst (KeepsNames symbols old) (sym e)
    (new_names old tree symbols c.in_ok-with_tests.ensures.kept c.in_ok-with_tests.ensures.proper c.requires.globals c.requires.symbols))
    c.with_symbols.ensures.text

pub returns-clause-shape : goal.returns-clause-shape
returns-clause-shape c =
    let old = c.args.tree in
    let tree = c.in_ok-with_tests.with_tests in
    let symbols = c.args.symbols.now in
    IfOk-weaker c.with_symbols.result (λ (new : StProgram). new ≡ named_text symbols tree) (λ (new : StProgram). HasNoLarger old new)
    (λ new e. subst (HasNoLarger old) (sym e) (new_is_no_larger old tree symbols c.in_ok-with_tests.ensures.shape))
    c.with_symbols.ensures.text

pub returns-clause-elsif : goal.returns-clause-elsif
returns-clause-elsif c =
    let old = c.args.tree in
    let tree = c.in_ok-with_tests.with_tests in
    let symbols = c.args.symbols.now in
    IfOk-weaker c.with_symbols.result (λ (new : StProgram). new ≡ named_text symbols tree) AllHaveElsif
    (λ new e. subst AllHaveElsif (sym e) (new_has_elsif old tree symbols c.in_ok-with_tests.ensures.elsif))
    c.with_symbols.ensures.text
