use Rattle.std.proofs.Common.{◌∙◌}
use Rattle.component_index.proofs.Tables.{looks}
use Rattle.component_index.proofs.table.Table.find.Goals as goal

pub returns : goal.returns
returns c = c.copied.ensures ∙ c.get.ensures.value ∙ looks (λ k. k.items) c.args.key.now c.args.self.now.names.entries
