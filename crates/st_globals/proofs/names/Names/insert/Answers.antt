use Rattle.std.proofs.Common.{ap, ◌∙◌, map, not}
use Rattle.std.specs.List.{list_any}
use Rattle.st_tree.specs.Naming.{is_same}
use Rattle.st_globals.specs.inner.Names.{with_name}
use Rattle.st_globals.proofs.NameTables.{among, inserted}
use Rattle.st_globals.proofs.names.Names.insert.Goals as goal

pub returns-clause-new : goal.returns-clause-new
returns-clause-new c =
    c.in_ok-insert.ensures.added
    ∙ ap not
    (among (λ k. k.items) c.in_ok-key.key.items c.self.inside.keys.keys
    ∙ ap (list_any (is_same c.in_ok-key.key.items)) c.self.view_is)
    ∙ ap (λ key. not (list_any (is_same key) c.args.self.now)) c.in_ok-key.ensures

pub returns-clause-names : goal.returns-clause-names
returns-clause-names c =
    ap (map (λ k. k.items)) c.in_ok-insert.ensures.keys
    ∙ inserted (λ k. k.items) c.in_ok-key.key c.self.inside.keys.keys
    ∙ ap (λ ks. with_name ks c.in_ok-key.key.items) c.self.view_is
    ∙ ap (with_name c.args.self.now) c.in_ok-key.ensures
