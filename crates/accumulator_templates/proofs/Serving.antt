-- The statements of each instruction serve it: they do its row of the instruction table, and are a template.
use Rattle.std.proofs.Common.{◌≡◌, ℕ, ◌+◌, ◌^◌, ◌<◌, ◌≤◌, List, [], ◌++◌, length, refl, sym, subst, arith}
use Rattle.std.specs.Prelude.{ℤ}
use Rattle.s7_base.specs.declared.register.Reg.{Reg}
use Rattle.s7_base.specs.declared.register.Reg.TheVariants as reg
use Rattle.stl_tree.specs.Accepted.{HasOperand, Widths}
use Rattle.stl_tree.specs.DataBlocks.{db_opened, di_opened}
use Rattle.stl_tree.specs.Instructions.{effect_of, on_registers}
use Rattle.stl_tree.specs.Now.{Now}
use Rattle.stl_tree.specs.Reads.{reads_of}
use Rattle.stl_tree.specs.Registers.{RegisterValues}
use Rattle.stl_tree.specs.declared.accumulator.UnaryRow.TheVariants as unary
use Rattle.stl_tree.specs.declared.program.LoadArg.{LoadArg}
use Rattle.stl_tree.specs.declared.program.LoadArg.TheVariants as arg
use Rattle.stl_tree.specs.declared.program.Op.{Op}
use Rattle.stl_tree.specs.declared.program.Op.TheVariants as op
use Rattle.stl_tree.specs.declared.program.OpenArg.{OpenArg}
use Rattle.stl_tree.specs.declared.program.OpenArg.TheVariants as open_arg
use Rattle.st_tree.specs.Meaning.{Calls, body_meaning}
use Rattle.st_tree.specs.State.{State, own_of}
use Rattle.st_tree.specs.WellTyped.{UnitScope}
use Rattle.st_tree.specs.declared.expr.StType.{StType}
use Rattle.st_tree.specs.declared.program.Located.{Located}
use Rattle.st_tree.specs.declared.program.Stmt.{Stmt}
use Rattle.instruction_laws.specs.Ranges.{AreInRange}
use Rattle.graph_rules.proofs.Runs.{locals_set}
use Rattle.template_parts.specs.DoesInstruction.{DoesInstruction}
use Rattle.template_parts.specs.Related.{Frames, Related}
use Rattle.template_parts.specs.Templates.{AreTyped, Do, HasFormals, IsPlainBody, Serves}
use Rattle.template_parts.proofs.Obligations.{HasSizes, by_sizes}
use Rattle.template_parts.proofs.ReadRegisters.{AllRead, Has}
use Rattle.template_parts.proofs.RegisterEffects.{HasRegisterEffect, does_effect}
use Rattle.template_parts.proofs.Typing.{no_statement}
use Rattle.accumulator_templates.specs.AccumulatorLaw.{AccumulatorServes}
use Rattle.accumulator_templates.specs.DataBlocks.{block_open_of, types_of_block_open}
use Rattle.accumulator_templates.specs.Moves.{load_of, types_of_load}
use Rattle.accumulator_templates.proofs.ConversionEffects.{cad_effect, caw_effect, invd_effect, invi_effect, itd_effect}
use Rattle.accumulator_templates.proofs.StatementCounts.{add_dword_few, add_word_few, block_exchange_few, block_open_few, cad_few, caw_few, dec_few, exchange_few, inc_few, invd_few, invi_few, itd_few, load_few, logic_few, number_load_few, pop_few, push_few, status_load_few, status_store_few, transfer_few}
use Rattle.accumulator_templates.proofs.DataBlockEffects.{block_exchange_effect, db_number_effect, db_effect, di_number_effect, di_effect, open_db_effect, open_di_effect}
use Rattle.accumulator_templates.proofs.LoadEffects.{load_does as place_loaded}
use Rattle.accumulator_templates.proofs.LogicEffects.{logic_effect}
use Rattle.accumulator_templates.proofs.MoveEffects.{constant_effect, exchange_effect, pop_effect, push_effect}
use Rattle.accumulator_templates.proofs.OpenEffects.{word_does}
use Rattle.accumulator_templates.proofs.PlainStatements.{add_dword_plain, add_word_plain, block_exchange_plain, cad_plain, caw_plain, db_number_load_plain, dec_plain, di_number_load_plain, exchange_plain, inc_plain, invd_plain, invi_plain, itd_plain, load_plain, logic_plain, open_db_plain, open_di_plain, pop_plain, push_plain, status_load_plain, status_store_plain, transfer_plain}
use Rattle.accumulator_templates.proofs.StatementReads.{add_dword_reads, add_word_reads, block_exchange_reads, block_open_reads, cad_reads, caw_reads, dec_reads, exchange_reads, inc_reads, invd_reads, invi_reads, itd_reads, load_reads, logic_reads, number_load_reads, pop_reads, push_reads, status_load_reads, status_store_reads, transfer_reads}
use Rattle.accumulator_templates.proofs.StatusEffects.{status_load_effect, status_store_effect}
use Rattle.accumulator_templates.proofs.SumEffects.{add_dword_effect, add_word_effect, dec_effect, inc_effect}
use Rattle.accumulator_templates.proofs.TransferEffects.{transfer_does}

-- an instruction whose row works on registers alone
by_effect : (o : Op) (first : ℕ) (types : List StType) (body : List Stmt) (row : RegisterValues → RegisterValues) → locals_set body ≡ length types
    → ((g : List Located) (s : State) (r : RegisterValues) (sta : ℤ) → AreInRange r → HasRegisterEffect g s first body r (row r) sta)
    → ((now : Now) → effect_of o now ≡ on_registers row now) → Do o first types body
by_effect o first types body row sets is_effect effect g calls units frames now s operand related room =
    subst (DoesInstruction (body_meaning g calls body units s) units first frames s now.memory) (sym (effect now))
    (does_effect g s first calls units body frames now (row now.registers) related
    (is_effect g s now.registers (s.registers reg.Sta) related.range) (omega arith))

-- the same where the constant of the instruction has a range
by_given : (o : Op) (first : ℕ) (types : List StType) (body : List Stmt) (row : RegisterValues → RegisterValues) → locals_set body ≡ length types
    → (Given : Type 0)
    → (Given → (g : List Located) (s : State) (r : RegisterValues) (sta : ℤ) → AreInRange r → HasRegisterEffect g s first body r (row r) sta)
    → ((now : Now) → effect_of o now ≡ on_registers row now) → Given
    → (g : List Located) (calls : Calls) (units : ℕ) (frames : Frames) (now : Now) (s : State) → Related frames now s
    → first + length types ≤ length (own_of s.activations)
    → DoesInstruction (body_meaning g calls body units s) units first frames s now.memory (effect_of o now)
by_given o first types body row sets Given is_effect effect given g calls units frames now s related room =
    subst (DoesInstruction (body_meaning g calls body units s) units first frames s now.memory) (sym (effect now))
    (does_effect g s first calls units body frames now (row now.registers) related
    (is_effect given g s now.registers (s.registers reg.Sta) related.range) (omega arith))

load_does : (a : LoadArg) (first : ℕ) → Do (op.Load a) first (types_of_load a) (load_of first a)
load_does (arg.At o w) first = λ g calls units frames now s operand related room. place_loaded g frames now s related calls units first o w operand.1 room
load_does (arg.Constant c) first = λ g calls units frames now s operand related room.
    by_given (op.Load (arg.Constant c)) first [] _ _ refl (c < 2 ^ 32) (λ small g s r sta range. constant_effect g s first r sta range c small) (λ now. refl)
    operand g calls units frames now s related room

open_db_does : (d : OpenArg) (first : ℕ) → Do (op.OpenDb d) first (types_of_block_open d) (block_open_of first reg.DbNo d)
open_db_does (open_arg.Number n) first = λ g calls units frames now s operand related room.
    by_given (op.OpenDb (open_arg.Number n)) first [] _ _ refl (n < 2 ^ 16)
    (λ small g s r sta range. open_db_effect g s first r sta range n small) (λ now. refl) (omega (arith, operand.1)) g calls units frames now s related room
open_db_does (open_arg.At o) first = λ g calls units frames now s operand related room.
    word_does g frames calls units reg.DbNo db_opened db_effect now s related first o operand.1 room

open_di_does : (d : OpenArg) (first : ℕ) → Do (op.OpenDi d) first (types_of_block_open d) (block_open_of first reg.DiNo d)
open_di_does (open_arg.Number n) first = λ g calls units frames now s operand related room.
    by_given (op.OpenDi (open_arg.Number n)) first [] _ _ refl (n < 2 ^ 16)
    (λ small g s r sta range. open_di_effect g s first r sta range n small) (λ now. refl) (omega (arith, operand.1)) g calls units frames now s related room
open_di_does (open_arg.At o) first = λ g calls units frames now s operand related room.
    word_does g frames calls units reg.DiNo di_opened di_effect now s related first o operand.1 room

-- an instruction, by what is shown of its statements one thing at a time
module _ (o : Op) (first : ℕ) (types : List StType) (body : List Stmt) (sizes : HasSizes first types body)
    (reads : (P : Reg → Type 0) → Has P (reads_of o) → AllRead P (body ++ []))
    (plain : (sight : UnitScope) (formals : Widths) → HasFormals sight formals → HasOperand formals o → AreTyped sight first types
    → IsPlainBody sight (body ++ [])) where
  serves : Do o first types body → Serves o first types body
  serves does = by_sizes o first types body sizes does reads plain

  effect_serves : (row : RegisterValues → RegisterValues)
      → ((g : List Located) (s : State) (r : RegisterValues) (sta : ℤ) → AreInRange r → HasRegisterEffect g s first body r (row r) sta)
      → ((now : Now) → effect_of o now ≡ on_registers row now) → Serves o first types body
  effect_serves row is_effect effect = serves (by_effect o first types body row sizes.sets is_effect effect)

pub accumulator_serves : AccumulatorServes
accumulator_serves =
    record {
      load = λ a first.
          serves (op.Load a) first _ _ (load_few first a) (λ P has. load_reads P [] tt first a has)
          (λ sight formals named operand typed. load_plain sight [] (no_statement sight) formals named first a operand typed) (load_does a first);
      transfer = λ o w first.
          serves (op.Transfer o w) first _ _ (transfer_few first o w) (λ P has. transfer_reads P [] tt first o w has)
          (λ sight formals named operand typed. transfer_plain sight [] (no_statement sight) formals named first o w operand typed)
          (λ g calls units frames now s operand related room. transfer_does g frames now s related calls units first o w operand.1 room);
      status_load = λ first.
          effect_serves op.LoadStw first _ _ (status_load_few first) (λ P has. status_load_reads P [] tt has)
          (λ sight formals named operand typed. status_load_plain sight [] (no_statement sight))
          _ (λ g s r sta range. status_load_effect g s first r sta range) (λ now. refl);
      status_store = λ first.
          effect_serves op.TransferStw first _ _ (status_store_few first) (λ P has. status_store_reads P [] tt has)
          (λ sight formals named operand typed. status_store_plain sight [] (no_statement sight))
          _ (λ g s r sta range. status_store_effect g s first r sta range) (λ now. refl);
      exchange = λ first.
          effect_serves op.Tak first _ _ (exchange_few first) (λ P has. exchange_reads P [] tt first has)
          (λ sight formals named operand typed. exchange_plain sight [] (no_statement sight) first typed)
          _ (λ g s r sta range. exchange_effect g s first r sta range) (λ now. refl);
      push = λ first.
          effect_serves op.Push first _ _ (push_few first) (λ P has. push_reads P [] tt has)
          (λ sight formals named operand typed. push_plain sight [] (no_statement sight))
          _ (λ g s r sta range. push_effect g s first r sta range) (λ now. refl);
      pop = λ first.
          effect_serves op.Pop first _ _ (pop_few first) (λ P has. pop_reads P [] tt has)
          (λ sight formals named operand typed. pop_plain sight [] (no_statement sight))
          _ (λ g s r sta range. pop_effect g s first r sta range) (λ now. refl);
      open_db = λ d first.
          serves (op.OpenDb d) first _ _ (block_open_few first reg.DbNo d) (λ P has. block_open_reads P [] tt first reg.DbNo d has)
          (λ sight formals named operand typed. open_db_plain sight [] (no_statement sight) formals named first d operand typed) (open_db_does d first);
      open_di = λ d first.
          serves (op.OpenDi d) first _ _ (block_open_few first reg.DiNo d) (λ P has. block_open_reads P [] tt first reg.DiNo d has)
          (λ sight formals named operand typed. open_di_plain sight [] (no_statement sight) formals named first d operand typed) (open_di_does d first);
      block_exchange = λ first.
          effect_serves op.ExchangeDb first _ _ (block_exchange_few first) (λ P has. block_exchange_reads P [] tt first has)
          (λ sight formals named operand typed. block_exchange_plain sight [] (no_statement sight) first typed)
          _ (λ g s r sta range. block_exchange_effect g s first r sta range) (λ now. refl);
      db_number_load = λ first.
          effect_serves op.LoadDbNo first _ _ (number_load_few first reg.DbNo) (λ P has. number_load_reads P [] tt reg.DbNo has)
          (λ sight formals named operand typed. db_number_load_plain sight [] (no_statement sight))
          _ (λ g s r sta range. db_number_effect g s first r sta range) (λ now. refl);
      di_number_load = λ first.
          effect_serves op.LoadDiNo first _ _ (number_load_few first reg.DiNo) (λ P has. number_load_reads P [] tt reg.DiNo has)
          (λ sight formals named operand typed. di_number_load_plain sight [] (no_statement sight))
          _ (λ g s r sta range. di_number_effect g s first r sta range) (λ now. refl);
      add_word = λ n first.
          effect_serves (op.AddWord n) first _ _ (add_word_few first n) (λ P has. add_word_reads P [] tt n has)
          (λ sight formals named operand typed. add_word_plain sight [] (no_statement sight) n operand)
          _ (λ g s r sta range. add_word_effect g s first r sta range n) (λ now. refl);
      add_dword = λ n first.
          effect_serves (op.AddDword n) first _ _ (add_dword_few first n) (λ P has. add_dword_reads P [] tt n has)
          (λ sight formals named operand typed. add_dword_plain sight [] (no_statement sight) n operand)
          _ (λ g s r sta range. add_dword_effect g s first r sta range n) (λ now. refl);
      inc = λ n first.
          effect_serves (op.Inc n) first _ _ (inc_few first n) (λ P has. inc_reads P [] tt n has)
          (λ sight formals named operand typed. inc_plain sight [] (no_statement sight) n operand)
          _ (λ g s r sta range. inc_effect g s first r sta range n) (λ now. refl);
      dec = λ n first.
          effect_serves (op.Dec n) first _ _ (dec_few first n) (λ P has. dec_reads P [] tt n has)
          (λ sight formals named operand typed. dec_plain sight [] (no_statement sight) n operand)
          _ (λ g s r sta range. dec_effect g s first r sta range n) (λ now. refl);
      logic = λ l c first.
          effect_serves (op.Logic l c) first _ _ (logic_few first l c) (λ P has. logic_reads P [] tt first l c has)
          (λ sight formals named operand typed. logic_plain sight [] (no_statement sight) first l c operand typed)
          _ (λ g s r sta range. logic_effect g s first r sta range l c) (λ now. refl);
      itd = λ first.
          effect_serves (op.Unary unary.Itd) first _ _ (itd_few first) (λ P has. itd_reads P [] tt has)
          (λ sight formals named operand typed. itd_plain sight [] (no_statement sight))
          _ (λ g s r sta range. itd_effect g s first r sta range) (λ now. refl);
      invi = λ first.
          effect_serves (op.Unary unary.Invi) first _ _ (invi_few first) (λ P has. invi_reads P [] tt has)
          (λ sight formals named operand typed. invi_plain sight [] (no_statement sight))
          _ (λ g s r sta range. invi_effect g s first r sta range) (λ now. refl);
      invd = λ first.
          effect_serves (op.Unary unary.Invd) first _ _ (invd_few first) (λ P has. invd_reads P [] tt has)
          (λ sight formals named operand typed. invd_plain sight [] (no_statement sight))
          _ (λ g s r sta range. invd_effect g s first r sta range) (λ now. refl);
      caw = λ first.
          effect_serves (op.Unary unary.Caw) first _ _ (caw_few first) (λ P has. caw_reads P [] tt has)
          (λ sight formals named operand typed. caw_plain sight [] (no_statement sight))
          _ (λ g s r sta range. caw_effect g s first r sta range) (λ now. refl);
      cad = λ first.
          effect_serves (op.Unary unary.Cad) first _ _ (cad_few first) (λ P has. cad_reads P [] tt has)
          (λ sight formals named operand typed. cad_plain sight [] (no_statement sight))
          _ (λ g s r sta range. cad_effect g s first r sta range) (λ now. refl);
    }
