-- What OPN opens.
use Rattle.std.specs.Prelude.{ℕ, if◌then◌else◌, Result, Ok, Err}
use Rattle.s7_base.specs.declared.reason.Reason.{Reason}
use Rattle.s7_base.specs.declared.reason.Reason.TheVariants.{UnknownName}
use Rattle.stl_rules.specs.Names.{may_have}
use Rattle.stl_rules.specs.declared.resolved_operand.ResolvedOperand.{ResolvedOperand}
use Rattle.stl_rules.specs.declared.resolved_operand.ResolvedOperand.TheVariants as behind
use Rattle.stl_tree.specs.declared.raw.BlockKind.TheVariants as block

-- the number of its data block, or what its operand is without one
abbrev pub db_opened : Result ℕ Reason → Result ℕ ResolvedOperand
db_opened (Ok n) = if may_have block.Db n then Ok n else Err behind.NoNumber
db_opened (Err UnknownName) = Err behind.Unknown
db_opened (Err reason) = Err behind.Unfit
