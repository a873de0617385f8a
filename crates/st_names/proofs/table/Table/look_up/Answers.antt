use Rattle.std.proofs.Common.{ap, ◌∙◌}
use Rattle.st_names.proofs.Tables.{looks}
use Rattle.st_names.proofs.table.Table.look_up.Goals as goal

pub returns : goal.returns
returns g c = c.copied.ensures ∙ c.get.ensures.value ∙ looks _ c.args.key.now _ ∙ ap (Rattle.st_names.specs.Names.look_up c.args.key.now) c.self.view_is
