-- Which instructions work on the registers alone, and which call no block.
use Rattle.stl_tree.specs.declared.program.Op.{Op}
use Rattle.stl_tree.specs.declared.program.Op.TheVariants as op

abbrev pub IsOnRegisters : Op → Type 0
IsOnRegisters op.LoadStw = Unit {0}
IsOnRegisters op.TransferStw = Unit {0}
IsOnRegisters op.LoadDbNo = Unit {0}
IsOnRegisters op.LoadDiNo = Unit {0}
IsOnRegisters (op.Arith a) = Unit {0}
IsOnRegisters (op.AddWord n) = Unit {0}
IsOnRegisters (op.AddDword n) = Unit {0}
IsOnRegisters (op.Inc n) = Unit {0}
IsOnRegisters (op.Dec n) = Unit {0}
IsOnRegisters (op.Compare t w) = Unit {0}
IsOnRegisters (op.Shift s count) = Unit {0}
IsOnRegisters op.Rlda = Unit {0}
IsOnRegisters op.Rrda = Unit {0}
IsOnRegisters (op.Logic l c) = Unit {0}
IsOnRegisters op.Tak = Unit {0}
IsOnRegisters op.Push = Unit {0}
IsOnRegisters op.Pop = Unit {0}
IsOnRegisters op.ExchangeAr = Unit {0}
IsOnRegisters (op.AddAr a amount) = Unit {0}
IsOnRegisters op.ExchangeDb = Unit {0}
IsOnRegisters elsewhere = ⊥

-- which instructions call no block
abbrev pub IsNoCall : Op → Type 0
IsNoCall (op.Call c) = ⊥
IsNoCall (op.CallIf c) = ⊥
IsNoCall other = Unit {0}
