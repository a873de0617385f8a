use Rattle.std.proofs.Common.{◌≡◌, rules, false, is_some, ap, ◌∙◌}
use Rattle.component_index.specs.inner.Scopes.{entry_of, table_of, with_entry}
use Rattle.component_index.proofs.Tables.{add_entry}
use Rattle.component_index.proofs.table.Table.add_entry.Goals as goal

pub returns : goal.returns
returns c =
    let h : is_some (entry_of c.in_ok-key.key.items (table_of c.args.self.now)) ≡ false = search rules in
    add_entry (λ k. k.items) c.in_ok-key.key c.args.entry c.args.self.now.names.entries c.insert.new.self.entries h c.in_ok-insert.ensures.entries
    ∙ ap (λ key. with_entry key c.args.entry (table_of c.args.self.now)) c.in_ok-key.ensures
