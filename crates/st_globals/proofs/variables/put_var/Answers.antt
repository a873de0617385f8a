use Rattle.std.proofs.Common.{sym, ap, ◌∙◌}
use Rattle.indexmap.specs.IndexSet.{insert_key}
use Rattle.st_globals.specs.inner.Tables.{is_same_key, with_key}
use Rattle.st_globals.proofs.variables.put_var.Goals as goal

pub returns-in_ok-insert : goal.returns-in_ok-insert
returns-in_ok-insert c =
    c.in_ok-insert.ensures.keys ∙ ap (insert_key is_same_key c.args.keys.now.keys) c.key_at.ensures
    ∙ ap (with_key c.args.keys.now.keys) (sym c.in-Direct.is)
