use Rattle.std.proofs.Common.{arith}
use Rattle.dispatch_loops.proofs.SettingLaws.{setting_there}
use Rattle.dispatch_loops.proofs.statements.settings.Goals as goal

pub setting-requires : goal.setting-requires
setting-requires c =
    setting_there c.args.statements.now c.loop-statement.statement-index c.statement-item.result c.requires (omega arith) c.statement-item.is
