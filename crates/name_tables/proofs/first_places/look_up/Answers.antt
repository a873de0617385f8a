use Rattle.std.proofs.Common.{nat_eq, ◌∙◌}
use Rattle.std.specs.Cmp.Lexicographic.{pointwise}
use Rattle.name_tables.proofs.PlaceTables.{looks}
use Rattle.name_tables.proofs.first_places.look_up.Goals as goal

pub returns : goal.returns
returns c = c.copied.ensures ∙ c.get.ensures.value ∙ looks (pointwise nat_eq) (λ k. k.items) c.args.key.now c.args.places.now.entries
