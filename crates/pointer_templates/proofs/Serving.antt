-- The statements of each instruction serve it.
use Rattle.std.proofs.Common.{ℕ, ◌+◌, ◌≤◌, List, [], length, Option, arith}
use Rattle.std.specs.Prelude.{ℤ}
use Rattle.instruction_laws.specs.Ranges.{AreInRange}
use Rattle.pointer_templates.proofs.StatementCounts.{pointer_exchange_sizes, pointer_load_sizes, pointer_move_sizes, pointer_store_sizes}
use Rattle.pointer_templates.proofs.OperandEffects.{operand_loaded, operand_stored}
use Rattle.pointer_templates.proofs.PlainStatements.{pointer_exchange_plain, pointer_load_plain, pointer_move_plain, pointer_store_plain}
use Rattle.pointer_templates.proofs.PointerEffects.{accu1_effect, constant_effect, other_loaded_effect, other_stored_effect, pointer_exchange_effect, pointer_move_effect, taken_effect}
use Rattle.pointer_templates.proofs.StatementReads.{pointer_exchange_reads, pointer_load_reads, pointer_move_reads, pointer_store_reads}
use Rattle.pointer_templates.specs.PointerLaw.{PointersServe}
use Rattle.pointer_templates.specs.Pointers.{pointer_exchange_of, pointer_load_of, pointer_move_of, pointer_store_of, types_of_pointer_exchange, types_of_pointer_load, types_of_pointer_store}
use Rattle.template_parts.specs.DoesInstruction.{DoesInstruction}
use Rattle.template_parts.specs.Related.{Frames, Related}
use Rattle.template_parts.proofs.Obligations.{HasSizes, by_sizes}
use Rattle.template_parts.proofs.RegisterEffects.{HasRegisterEffect, does_effect}
use Rattle.template_parts.proofs.Typing.{no_statement}
use Rattle.s7_base.specs.declared.register.Reg.TheVariants as reg
use Rattle.st_tree.specs.Meaning.{Calls, body_meaning}
use Rattle.st_tree.specs.State.{State, own_of}
use Rattle.st_tree.specs.declared.expr.StType.{StType}
use Rattle.st_tree.specs.declared.program.Located.{Located}
use Rattle.st_tree.specs.declared.program.Stmt.{Stmt}
use Rattle.stl_tree.specs.Accepted.{HasOperand}
use Rattle.stl_tree.specs.Instructions.{effect_of}
use Rattle.stl_tree.specs.Now.{Now, next}
use Rattle.stl_tree.specs.Registers.{RegisterValues}
use Rattle.stl_tree.specs.declared.program.Ar.{Ar}
use Rattle.stl_tree.specs.declared.program.ArLoad.{ArLoad}
use Rattle.stl_tree.specs.declared.program.ArLoad.TheVariants as load
use Rattle.stl_tree.specs.declared.program.ArStore.{ArStore}
use Rattle.stl_tree.specs.declared.program.ArStore.TheVariants as store
use Rattle.stl_tree.specs.declared.program.Op.{Op}
use Rattle.stl_tree.specs.declared.program.Op.TheVariants as op

-- What they do

-- in related states that have room for their locals behind the first ones that are used
module _ (used : ℕ) (g : List Located) (calls : Calls) (units : ℕ) (frames : Frames) (now : Now) (s : State) (related : Related frames now s) where
  -- some statements do the row of an instruction
  abbrev DoesOp : List Stmt → Op → Type 0
  DoesOp body o = DoesInstruction (body_meaning g calls body units s) units used frames s now.memory (effect_of o now)

  -- how many locals there are
  abbrev room : ℕ
  room = length (own_of s.activations)

  abbrev r : RegisterValues
  r = now.registers

  abbrev sta : ℤ
  sta = s.registers reg.Sta

  abbrev range : AreInRange r
  range = related.range

  does : (types : List StType) (body : List Stmt) (after : RegisterValues) → HasSizes used types body
      → HasRegisterEffect g s used body r after sta → used + length types ≤ room
      → DoesInstruction (body_meaning g calls body units s) units used frames s now.memory (next (record now { registers = after }))
  does types body after sizes row few = does_effect g s used calls units body frames now after related row (omega (arith, few, sizes.sets))

  load_does : (a : Ar) (from : ArLoad) → HasOperand frames.formals (op.LoadAr a from) → used + length (types_of_pointer_load from) ≤ room
      → DoesOp (pointer_load_of used a from) (op.LoadAr a from)
  load_does a load.Accu1 h few = does [] (pointer_load_of used a load.Accu1) _ (pointer_load_sizes used a load.Accu1) (accu1_effect g s used r sta range a) few
  load_does a (load.Constant p) h few =
      does [] (pointer_load_of used a (load.Constant p)) _ (pointer_load_sizes used a (load.Constant p)) (constant_effect g s used r sta range a p h) few
  load_does a (load.At o) h few = operand_loaded g frames calls units a now s related used o h.1 few
  load_does a load.OtherAr h few =
      does [] (pointer_load_of used a load.OtherAr) _ (pointer_load_sizes used a load.OtherAr) (other_loaded_effect g s used r sta range a) few

  store_does : (a : Ar) (to : ArStore) → HasOperand frames.formals (op.StoreAr a to) → used + length (types_of_pointer_store to) ≤ room
      → DoesOp (pointer_store_of used a to) (op.StoreAr a to)
  store_does a store.Accu1 h few =
      does [] (pointer_store_of used a store.Accu1) _ (pointer_store_sizes used a store.Accu1) (taken_effect g s used r sta range a) few
  store_does a (store.At o) h few = operand_stored g frames calls units a now s related used o h.1 few
  store_does a store.OtherAr h few =
      does [] (pointer_store_of used a store.OtherAr) _ (pointer_store_sizes used a store.OtherAr) (other_stored_effect g s used r sta range a) few

  exchange_does : used + length types_of_pointer_exchange ≤ room → DoesOp (pointer_exchange_of used) op.ExchangeAr
  exchange_does few =
      does types_of_pointer_exchange (pointer_exchange_of used) _ (pointer_exchange_sizes used) (pointer_exchange_effect g s used r sta range) few

  move_does : (a : Ar) (amount : Option ℕ) → used + 0 ≤ room → DoesOp (pointer_move_of a amount) (op.AddAr a amount)
  move_does a amount few = does [] (pointer_move_of a amount) _ (pointer_move_sizes used a amount) (pointer_move_effect g s used r sta range a amount) few

-- What is promised

pub pointers_serve : PointersServe
pointers_serve =
    record {
      loads = λ a from first.
          by_sizes (op.LoadAr a from) first (types_of_pointer_load from) (pointer_load_of first a from) (pointer_load_sizes first a from)
          (λ g calls units frames now s operand related room. load_does first g calls units frames now s related a from operand room)
          (λ P has. pointer_load_reads P [] tt first a from has)
          (λ sight formals named operand typed. pointer_load_plain sight [] (no_statement sight) formals named first a from operand typed);
      stores = λ a to first.
          by_sizes (op.StoreAr a to) first (types_of_pointer_store to) (pointer_store_of first a to) (pointer_store_sizes first a to)
          (λ g calls units frames now s operand related room. store_does first g calls units frames now s related a to operand room)
          (λ P has. pointer_store_reads P [] tt first a to has)
          (λ sight formals named operand typed. pointer_store_plain sight [] (no_statement sight) formals named first a to operand typed);
      exchanges = λ first.
          by_sizes op.ExchangeAr first types_of_pointer_exchange (pointer_exchange_of first) (pointer_exchange_sizes first)
          (λ g calls units frames now s operand related room. exchange_does first g calls units frames now s related room)
          (λ P has. pointer_exchange_reads P [] tt first has)
          (λ sight formals named operand typed. pointer_exchange_plain sight [] (no_statement sight) first typed);
      moves = λ a amount first.
          by_sizes (op.AddAr a amount) first [] (pointer_move_of a amount) (pointer_move_sizes first a amount)
          (λ g calls units frames now s operand related room. move_does first g calls units frames now s related a amount room)
          (λ P has. pointer_move_reads P [] tt a amount has)
          (λ sight formals named operand typed. pointer_move_plain sight [] (no_statement sight) a amount operand);
    }
