use Rattle.std.proofs.Common.{◌-◌, sym, ◌∙◌}
use Rattle.symbol_layout.proofs.BitLists.{times_empty}
use Rattle.stl_rules.specs.Extents.{elements_in}
use Rattle.symbol_layout.proofs.contents.put_blank.Goals as goal

pub returns-then-is_empty : goal.returns-then-is_empty
returns-then-is_empty c =
    times_empty c.args.bits.now.items c.args.blank.now (elements_in c.args.bounds.now - c.args.done)
    (sym c.is_empty.ensures ∙ c.if-is_empty.true)
