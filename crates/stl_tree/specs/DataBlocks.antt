-- Opening data blocks. What OPN, CDB, L DBNO and L DINO do; whether a data block is there is not looked at.
-- Held against: the manual's chapter 'Data Block'.
use Rattle.std.specs.Prelude.{ℕ}
use Rattle.stl_tree.specs.Accumulators.{after_load}
use Rattle.stl_tree.specs.Registers.{RegisterValues}

-- OPN DB: the DB register takes a number; whether there is such a data block is not tested
abbrev pub db_opened : ℕ → RegisterValues → RegisterValues
db_opened n r = record r { db = n }

-- OPN DI: the DI register takes a number
abbrev pub di_opened : ℕ → RegisterValues → RegisterValues
di_opened n r = record r { di = n }

-- CDB: the DB and the DI register exchange their numbers
abbrev pub dbs_exchanged : RegisterValues → RegisterValues
dbs_exchanged r = record r { db = r.di; di = r.db }

-- L DBNO and L DINO: ACCU1 takes the number in the DB or the DI register
abbrev pub db_number_loaded : RegisterValues → RegisterValues
db_number_loaded r = after_load r.db r

abbrev pub di_number_loaded : RegisterValues → RegisterValues
di_number_loaded r = after_load r.di r
