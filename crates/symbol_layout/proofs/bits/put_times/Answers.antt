use Rattle.std.proofs.Common.{sym, ◌∙◌}
use Rattle.symbol_layout.proofs.BitLists.{times_empty}
use Rattle.symbol_layout.proofs.bits.put_times.Goals as goal

pub returns-then-is_empty : goal.returns-then-is_empty
returns-then-is_empty g c =
    times_empty c.args.list.now.items c.args.more.now c.args.count (sym c.is_empty.ensures ∙ c.if-is_empty.true)
