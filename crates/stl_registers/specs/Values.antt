-- The registers as the instruction table sees them.
use Rattle.status_word.specs.Flags.{bits}
use Rattle.stl_registers.specs.declared.registers.Registers.{Registers}
use Rattle.stl_tree.specs.Registers.{RegisterValues}

-- each register as its number, the status word as its bits
abbrev pub values : Registers → RegisterValues
values r =
    record {
      accu1 = r.accu1;
      accu2 = r.accu2;
      ar1 = r.ar1;
      ar2 = r.ar2;
      db = r.db;
      di = r.di;
      status = bits r.status;
    }
