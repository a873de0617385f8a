use Rattle.std.proofs.Common.{ap, ◌∙◌, map, not}
use Rattle.stl_rules.specs.DeclarationRules.{is_named, with_name}
use Rattle.symbol_layout.proofs.NameTables.{inserted, named}
use Rattle.symbol_layout.proofs.names.Names.declare.Goals as goal

pub returns-clause-new : goal.returns-clause-new
returns-clause-new c =
    c.in_ok-insert.ensures.added
    ∙ ap not (named (λ k. k.items) c.args.key.items c.self.inside.keys.keys ∙ ap (is_named c.args.key.items) c.self.view_is)

pub returns-clause-names : goal.returns-clause-names
returns-clause-names c =
    ap (map (λ k. k.items)) c.in_ok-insert.ensures.keys
    ∙ inserted (λ k. k.items) c.args.key c.self.inside.keys.keys
    ∙ ap (with_name c.args.key.items) c.self.view_is
