-- OPN, CDB, L DBNO and L DINO do their rows.
use Rattle.std.proofs.Common.{◌≡◌, ℕ, ◌%◌, ◌^◌, ◌<◌, pos, List, [], ◌∷◌, Ok, refl, arith}
use Rattle.std.specs.Prelude.{ℤ}
use Rattle.s7_base.specs.declared.register.Reg.{Reg}
use Rattle.s7_base.specs.declared.register.Reg.TheVariants as reg
use Rattle.stl_tree.specs.DataBlocks.{db_number_loaded, db_opened, dbs_exchanged, di_number_loaded, di_opened}
use Rattle.stl_tree.specs.Registers.{RegisterValues}
use Rattle.stl_tree.specs.declared.program.OpenArg.TheVariants as arg
use Rattle.st_tree.specs.State.{State}
use Rattle.st_tree.specs.Value.{value}
use Rattle.st_tree.specs.declared.expr.Expr.{Expr}
use Rattle.st_tree.specs.declared.expr.StType.TheVariants as type
use Rattle.st_tree.specs.declared.program.Located.{Located}
use Rattle.st_tree.specs.declared.state.Value.{Value}
use Rattle.accumulator_templates.specs.DataBlocks.{block_exchange_of, block_open_of, number_load_of}
use Rattle.accumulator_templates.proofs.AccumulatorEffects.{taken}
use Rattle.accumulator_templates.proofs.Worths.{word}
use Rattle.template_parts.specs.Builders.{constant_of, convert_of, read_of, set_of}
use Rattle.template_parts.specs.Related.{AreAlike}
use Rattle.instruction_laws.specs.Ranges.{AreInRange}
use Rattle.template_parts.proofs.RegisterEffects.{HasRegisterEffect, registers_after}
use Rattle.template_parts.proofs.Stages.{known, parts, stage}

same_number : (n : ℕ) → n < 2 ^ 16 → n % 4294967296 ≡ n
same_number n h = omega arith

-- a number of 16 bits is one of 32
wide_number : (n : ℕ) → n < 2 ^ 16 → n < 2 ^ 32
wide_number n h = omega arith

module _ (g : List Located) (s : State) (used : ℕ) (r : RegisterValues) (sta : ℤ) (range : AreInRange r) where
  -- a register takes the number of a data block

  db_alike : (e : Expr) (n : ℕ) → AreAlike (db_opened n r) (registers_after (set_of reg.DbNo e ∷ []) (word n ∷ []) (known r sta))
  db_alike e n reg.Sta asked = elim asked [ ]
  db_alike e n q asked = refl

  pub db_effect : (e : Expr) (n : ℕ) → n < 2 ^ 16 → value g e (stage s used [] (known r sta)) ≡ Ok (word n)
      → HasRegisterEffect g s used (set_of reg.DbNo e ∷ []) r (db_opened n r) sta
  db_effect e n h worth =
      record {
        values = word n ∷ [];
        have = (worth, tt);
        alike = db_alike e n;
        range = record { accu1 = range.accu1; accu2 = range.accu2; ar1 = range.ar1; ar2 = range.ar2; db = h; di = range.di };
      }

  di_alike : (e : Expr) (n : ℕ) → AreAlike (di_opened n r) (registers_after (set_of reg.DiNo e ∷ []) (word n ∷ []) (known r sta))
  di_alike e n reg.Sta asked = elim asked [ ]
  di_alike e n q asked = refl

  pub di_effect : (e : Expr) (n : ℕ) → n < 2 ^ 16 → value g e (stage s used [] (known r sta)) ≡ Ok (word n)
      → HasRegisterEffect g s used (set_of reg.DiNo e ∷ []) r (di_opened n r) sta
  di_effect e n h worth =
      record {
        values = word n ∷ [];
        have = (worth, tt);
        alike = di_alike e n;
        range = record { accu1 = range.accu1; accu2 = range.accu2; ar1 = range.ar1; ar2 = range.ar2; db = range.db; di = h };
      }

  -- OPN of a number

  pub open_db_effect : (n : ℕ) → n < 2 ^ 16 → HasRegisterEffect g s used (block_open_of used reg.DbNo (arg.Number n)) r (db_opened n r) sta
  open_db_effect n h = db_effect (constant_of type.Word (pos n)) n h (simp parts)

  pub open_di_effect : (n : ℕ) → n < 2 ^ 16 → HasRegisterEffect g s used (block_open_of used reg.DiNo (arg.Number n)) r (di_opened n r) sta
  open_di_effect n h = di_effect (constant_of type.Word (pos n)) n h (simp parts)

  -- CDB

  abbrev exchanged_values : List Value
  exchanged_values = word r.db ∷ word r.di ∷ word r.db ∷ []

  exchanged_alike : AreAlike (dbs_exchanged r) (registers_after (block_exchange_of used) exchanged_values (known r sta))
  exchanged_alike reg.Sta asked = elim asked [ ]
  exchanged_alike q asked = refl

  pub block_exchange_effect : HasRegisterEffect g s used (block_exchange_of used) r (dbs_exchanged r) sta
  block_exchange_effect =
      record {
        values = exchanged_values;
        have = (refl, simp parts, (simp parts, (simp parts, tt)));
        alike = exchanged_alike;
        range = record { accu1 = range.accu1; accu2 = range.accu2; ar1 = range.ar1; ar2 = range.ar2; db = range.di; di = range.db };
      }

  -- L DBNO and L DINO

  abbrev number_of_register : Reg → Expr
  number_of_register q = convert_of type.Word type.Dword (read_of q)

  pub db_number_effect : HasRegisterEffect g s used (number_load_of reg.DbNo) r (db_number_loaded r) sta
  db_number_effect =
      let small : r.db < 2 ^ 16 = range.db in
      taken g s used r sta range (number_of_register reg.DbNo) r.db (wide_number r.db small) (simp (parts, same_number))

  pub di_number_effect : HasRegisterEffect g s used (number_load_of reg.DiNo) r (di_number_loaded r) sta
  di_number_effect =
      let small : r.di < 2 ^ 16 = range.di in
      taken g s used r sta range (number_of_register reg.DiNo) r.di (wide_number r.di small) (simp (parts, same_number))
