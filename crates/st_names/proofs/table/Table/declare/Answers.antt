use Rattle.std.proofs.Common.{◌≡◌, ap, ◌∙◌, rules, is_some, false}
use Rattle.st_names.specs.Names.{look_up, with_entry}
use Rattle.st_names.proofs.Tables.{declared}
use Rattle.st_names.proofs.table.Table.declare.Goals as goal

pub returns-clause-table : goal.returns-clause-table
returns-clause-table g c =
    let h : is_some (look_up c.args.key.items c.args.self.now) ≡ false = search rules in
    declared (λ k. k.items) c.args.key c.args.value c.self.inside.entries.entries c.insert.new.self.entries
    (ap (λ t. is_some (look_up c.args.key.items t)) c.self.view_is ∙ h) c.in_ok-insert.ensures.entries
    ∙ ap (with_entry c.args.key.items c.args.value) c.self.view_is
