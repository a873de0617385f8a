-- What is promised of the statements of these instructions.
use Rattle.std.specs.Prelude.{ℕ, ℤ, [], Option}
use Rattle.s7_base.specs.declared.register.Reg.TheVariants as reg
use Rattle.s7_base.specs.declared.word.Width.{Width}
use Rattle.stl_tree.specs.Accepted.{HasOperand}
use Rattle.stl_tree.specs.declared.accumulator.LogicRow.{LogicRow}
use Rattle.stl_tree.specs.declared.accumulator.UnaryRow.TheVariants as unary
use Rattle.stl_tree.specs.declared.program.LoadArg.{LoadArg}
use Rattle.stl_tree.specs.declared.program.Op.TheVariants as op
use Rattle.stl_tree.specs.declared.program.OpenArg.{OpenArg}
use Rattle.stl_tree.specs.declared.program.Operand.{Operand}
use Rattle.template_parts.specs.Fetching.{types_reached}
use Rattle.template_parts.specs.Templates.{Serves}
use Rattle.accumulator_templates.specs.Conversions.{cad_of, caw_of, invd_of, invi_of, itd_of}
use Rattle.accumulator_templates.specs.DataBlocks.{block_exchange_of, block_open_of, number_load_of, types_of_block_exchange, types_of_block_open}
use Rattle.accumulator_templates.specs.Logic.{logic_of, types_of_logic}
use Rattle.accumulator_templates.specs.Moves.{exchange_of, load_of, pop_of, push_of, status_load_of, status_store_of, transfer_of, types_of_exchange, types_of_load}
use Rattle.accumulator_templates.specs.Sums.{add_dword_of, add_word_of, dec_of, inc_of}

-- the statements of each instruction serve it, with their locals from any one on, where it has an operand and
-- constants that an accepted program may give it
pub record AccumulatorServes : Type 0 where
  pub load : (a : LoadArg) (first : ℕ)
      → Serves (op.Load a) first (types_of_load a) (load_of first a)
  pub transfer : (o : Operand) (w : Width) (first : ℕ)
      → Serves (op.Transfer o w) first (types_reached o) (transfer_of first o w)
  pub status_load : (first : ℕ) → Serves op.LoadStw first [] status_load_of
  pub status_store : (first : ℕ) → Serves op.TransferStw first [] status_store_of
  pub exchange : (first : ℕ) → Serves op.Tak first types_of_exchange (exchange_of first)
  pub push : (first : ℕ) → Serves op.Push first [] push_of
  pub pop : (first : ℕ) → Serves op.Pop first [] pop_of
  pub open_db : (d : OpenArg) (first : ℕ)
      → Serves (op.OpenDb d) first (types_of_block_open d) (block_open_of first reg.DbNo d)
  pub open_di : (d : OpenArg) (first : ℕ)
      → Serves (op.OpenDi d) first (types_of_block_open d) (block_open_of first reg.DiNo d)
  pub block_exchange : (first : ℕ) → Serves op.ExchangeDb first types_of_block_exchange (block_exchange_of first)
  pub db_number_load : (first : ℕ) → Serves op.LoadDbNo first [] (number_load_of reg.DbNo)
  pub di_number_load : (first : ℕ) → Serves op.LoadDiNo first [] (number_load_of reg.DiNo)
  pub add_word : (n : ℤ) (first : ℕ) → Serves (op.AddWord n) first [] (add_word_of n)
  pub add_dword : (n : ℤ) (first : ℕ) → Serves (op.AddDword n) first [] (add_dword_of n)
  pub inc : (n first : ℕ) → Serves (op.Inc n) first [] (inc_of n)
  pub dec : (n first : ℕ) → Serves (op.Dec n) first [] (dec_of n)
  pub logic : (l : LogicRow) (c : Option ℕ) (first : ℕ)
      → Serves (op.Logic l c) first (types_of_logic l c) (logic_of first l c)
  pub itd : (first : ℕ) → Serves (op.Unary unary.Itd) first [] itd_of
  pub invi : (first : ℕ) → Serves (op.Unary unary.Invi) first [] invi_of
  pub invd : (first : ℕ) → Serves (op.Unary unary.Invd) first [] invd_of
  pub caw : (first : ℕ) → Serves (op.Unary unary.Caw) first [] caw_of
  pub cad : (first : ℕ) → Serves (op.Unary unary.Cad) first [] cad_of
