-- What an instruction does depends on no register but those that it reads: each row, and two states that agree.
use Rattle.std.proofs.Common.{◌≡◌, ℕ, ◌^◌, ◌<◌, true, false, List, [], ◌∷◌, refl, sym, subst}
use Rattle.s7_base.specs.declared.register.Reg.{Reg}
use Rattle.s7_base.specs.declared.register.Reg.TheVariants as reg
use Rattle.s7_base.specs.declared.word.Width.TheVariants as width
use Rattle.status_word.specs.StatusBits.{after_clear, after_not, after_or, after_save, after_set}
use Rattle.stl_tree.specs.Accumulators.{accu_popped, accu_pushed, accus_exchanged, counted_down, counted_up, after_addition, after_load, part, status_loaded, status_stored}
use Rattle.stl_tree.specs.AddressRegisters.{accu1_pointed, other_loaded, other_stored, pointer_in, pointer_loaded, pointer_moved, pointers_exchanged, with_pointer}
use Rattle.stl_tree.specs.Arithmetic.{after_arithmetic, after_comparison}
use Rattle.stl_tree.specs.DataBlocks.{db_number_loaded, db_opened, dbs_exchanged, di_number_loaded, di_opened}
use Rattle.stl_tree.specs.Instructions.{block_opened, effect_of, loaded_from, pointed_from, pointer_stored}
use Rattle.stl_tree.specs.Now.{Now}
use Rattle.stl_tree.specs.Reads.{found_by, loaded_by, opened_by, pointed_by, reads_of, register_of, stored_by}
use Rattle.stl_tree.specs.Registers.{RegisterValues}
use Rattle.stl_tree.specs.Shifts.{after_shift, around_left_through_cc1, around_right_through_cc1}
use Rattle.stl_tree.specs.WordLogic.{after_word_logic}
use Rattle.stl_tree.specs.declared.program.Ar.{Ar}
use Rattle.stl_tree.specs.declared.program.ArLoad.{ArLoad}
use Rattle.stl_tree.specs.declared.program.ArLoad.TheVariants as ar_load
use Rattle.stl_tree.specs.declared.program.ArStore.{ArStore}
use Rattle.stl_tree.specs.declared.program.ArStore.TheVariants as ar_store
use Rattle.stl_tree.specs.declared.program.LoadArg.{LoadArg}
use Rattle.stl_tree.specs.declared.program.LoadArg.TheVariants as load
use Rattle.stl_tree.specs.declared.program.Op.{Op}
use Rattle.stl_tree.specs.declared.program.Op.TheVariants as op
use Rattle.stl_tree.specs.declared.program.OpenArg.{OpenArg}
use Rattle.stl_tree.specs.declared.program.OpenArg.TheVariants as open_arg
use Rattle.instruction_laws.specs.Agreement.{AreLike, AreSame}
use Rattle.instruction_laws.specs.InstructionLaws.{EffectsDependOnReads}
use Rattle.instruction_laws.proofs.Beside.{Alike, DoesAlike, beside, first_same, kept_alike, next_to, puts, second_same, takes}
use Rattle.instruction_laws.proofs.BitEffects.{assign_alike, bracket_alike, check_alike, clear_alike, close_alike, edge_alike, end_alike, not_alike, or_alike, save_alike, set_alike, stored_alike, with_bits}
use Rattle.instruction_laws.proofs.JumpEffects.{call_if_alike, end_if_alike, jump_alike, list_alike, loop_alike}
use Rattle.instruction_laws.proofs.NumberEffects.{accu1_point_alike, calculate_alike, car_alike, compare_alike, db_load_alike, db_open_alike, dbs_exchange_alike, di_load_alike, di_open_alike, load_alike, move_alike, other_load_alike, other_store_alike, pointer_alike, pointer_load_alike, pointer_same, pop_alike, push_alike, status_load_alike, status_store_alike, tak_alike}
use Rattle.instruction_laws.proofs.WordEffects.{add_dword_alike, add_word_alike, convert_alike, dec_alike, goes_on, inc_alike, left_around_alike, word_logic_alike, right_around_alike, shift_alike}

module _ (now : Now) (s : RegisterValues) where
  abbrev r : RegisterValues
  r = now.registers

  abbrev t : RegisterValues
  t = beside now.registers s

  abbrev Agreed : List Reg → Type 0
  Agreed asked = AreSame asked now.registers (beside now.registers s)

  load_does : (a : LoadArg) → Agreed (loaded_by a) → Agreed (reg.Accu1 ∷ []) → DoesAlike now s (loaded_from a)
  load_does (load.At o w) found h = takes w after_load o (reg.Accu1 ∷ []) now s found h load_alike
  load_does (load.Constant c) found h = goes_on (after_load c) now s (load_alike c r t h)

  point_does : (a : Ar) (from : ArLoad) → Agreed (pointed_by a from) → DoesAlike now s (pointed_from a from)
  point_does a ar_load.Accu1 h = goes_on (accu1_pointed a) now s (accu1_point_alike a r t h)
  point_does a (ar_load.Constant p) h = goes_on (with_pointer a p) now s (pointer_alike a p r t)
  point_does a (ar_load.At o) h = takes width.Dword (with_pointer a) o [] now s h tt (λ v x y k. pointer_alike a v x y)
  point_does a ar_load.OtherAr h = goes_on (other_loaded a) now s (other_load_alike a r t h)

  store_does : (a : Ar) (to : ArStore) → Agreed (stored_by a to) → DoesAlike now s (pointer_stored a to)
  store_does a ar_store.Accu1 h = goes_on (pointer_loaded a) now s (pointer_load_alike a r t h)
  store_does a (ar_store.At o) h =
      puts width.Dword (pointer_in a) o (register_of a ∷ []) now s h.1 (h.0, tt) (λ x y k. pointer_same a x y k.0)
  store_does a ar_store.OtherAr h = goes_on (other_stored a) now s (other_store_alike a r t h)

  open_does : (row : ℕ → RegisterValues → RegisterValues) → ((n : ℕ) (x y : RegisterValues) → Alike x y (row n x) (row n y))
      → (d : OpenArg) → Agreed (opened_by d) → DoesAlike now s (block_opened row d)
  open_does row alike (open_arg.Number n) h = goes_on (row n) now s (alike n r t)
  open_does row alike (open_arg.At o) h = takes width.Word row o [] now s h tt (λ v x y k. alike v x y)

  -- the row of each instruction
  does_alike : (o : Op) → r.accu1 < 2 ^ 32 → t.accu1 < 2 ^ 32 → Agreed (reads_of o) → DoesAlike now s (effect_of o)
  does_alike (op.Check c b) small_r small_t h = check_alike c b now s h
  does_alike op.OrAlone small_r small_t h = goes_on (with_bits after_or) now s (or_alike r t h)
  does_alike (op.Bracket c) small_r small_t h = bracket_alike c now s h
  does_alike op.Close small_r small_t h = close_alike now.brackets now s h
  does_alike (op.Assign o) small_r small_t h = assign_alike o now s h
  does_alike (op.Set o) small_r small_t h = stored_alike o now s h true
  does_alike (op.Reset o) small_r small_t h = stored_alike o now s h false
  does_alike op.SetRlo small_r small_t h = goes_on (with_bits after_set) now s (set_alike r t)
  does_alike op.ClearRlo small_r small_t h = goes_on (with_bits after_clear) now s (clear_alike r t)
  does_alike op.NotRlo small_r small_t h = goes_on (with_bits after_not) now s (not_alike r t h)
  does_alike op.Save small_r small_t h = goes_on (with_bits after_save) now s (save_alike r t h)
  does_alike (op.EdgeUp o) small_r small_t h = edge_alike o now s h true
  does_alike (op.EdgeDown o) small_r small_t h = edge_alike o now s h false
  does_alike (op.Load a) small_r small_t h = load_does a (first_same (loaded_by a) (reg.Accu1 ∷ []) r t h) (second_same (loaded_by a) (reg.Accu1 ∷ []) r t h)
  does_alike (op.Transfer o w) small_r small_t h =
      puts w (λ x. part w x.accu1) o (reg.Accu1 ∷ []) now s (first_same (found_by o) (reg.Accu1 ∷ []) r t h) (second_same (found_by o) (reg.Accu1 ∷ []) r t h)
      (λ x y k i. part w (k.0 i))
  does_alike op.LoadStw small_r small_t h = goes_on status_loaded now s (status_load_alike r t h)
  does_alike op.TransferStw small_r small_t h = goes_on status_stored now s (status_store_alike r t h)
  does_alike op.LoadDbNo small_r small_t h = goes_on db_number_loaded now s (db_load_alike r t h)
  does_alike op.LoadDiNo small_r small_t h = goes_on di_number_loaded now s (di_load_alike r t h)
  does_alike (op.Arith a) small_r small_t h = goes_on (after_arithmetic a) now s (calculate_alike a r t h)
  does_alike (op.AddWord n) small_r small_t h = goes_on (after_addition width.Word n) now s (add_word_alike n r t h)
  does_alike (op.AddDword n) small_r small_t h = goes_on (after_addition width.Dword n) now s (add_dword_alike n r t h)
  does_alike (op.Inc n) small_r small_t h = goes_on (counted_up n) now s (inc_alike n r t h)
  does_alike (op.Dec n) small_r small_t h = goes_on (counted_down n) now s (dec_alike n r t h)
  does_alike (op.Compare c w) small_r small_t h = goes_on (after_comparison c w) now s (compare_alike c w r t h)
  does_alike (op.Shift k count) small_r small_t h = goes_on (after_shift k count) now s (shift_alike k count r t h)
  does_alike op.Rlda small_r small_t h = goes_on around_left_through_cc1 now s (left_around_alike r t h)
  does_alike op.Rrda small_r small_t h = goes_on around_right_through_cc1 now s (right_around_alike r t h)
  does_alike (op.Logic l c) small_r small_t h = goes_on (after_word_logic l c) now s (word_logic_alike l c r t small_r small_t h)
  does_alike (op.Unary u) small_r small_t h = convert_alike u now s h
  does_alike op.Tak small_r small_t h = goes_on accus_exchanged now s (tak_alike r t h)
  does_alike op.Push small_r small_t h = goes_on accu_pushed now s (push_alike r t h)
  does_alike op.Pop small_r small_t h = goes_on accu_popped now s (pop_alike r t h)
  does_alike (op.LoadAr a from) small_r small_t h = point_does a from h
  does_alike (op.StoreAr a to) small_r small_t h = store_does a to h
  does_alike op.ExchangeAr small_r small_t h = goes_on pointers_exchanged now s (car_alike r t h)
  does_alike (op.AddAr a amount) small_r small_t h = goes_on (pointer_moved a amount) now s (move_alike a amount r t h)
  does_alike (op.OpenDb d) small_r small_t h = open_does db_opened db_open_alike d h
  does_alike (op.OpenDi d) small_r small_t h = open_does di_opened di_open_alike d h
  does_alike op.ExchangeDb small_r small_t h = goes_on dbs_exchanged now s (dbs_exchange_alike r t h)
  does_alike op.Nop small_r small_t h = record { memory = refl; brackets = refl; activations = refl; registers = kept_alike r t }
  does_alike (op.Jump j to) small_r small_t h = jump_alike now s j to h
  does_alike (op.Loop to) small_r small_t h = loop_alike now s to h
  does_alike (op.JumpList count label) small_r small_t h = list_alike now s count label h
  does_alike op.BlockEnd small_r small_t h = record { memory = refl; brackets = refl; activations = refl; registers = end_alike r t }
  does_alike op.BlockEndIf small_r small_t h = end_if_alike now s h
  does_alike (op.Call c) small_r small_t h = (refl, record { memory = refl; brackets = refl; activations = refl; registers = end_alike r t })
  does_alike (op.CallIf c) small_r small_t h = call_if_alike now s c h

-- two states that agree are one and the same with other registers
pub effects_depend : EffectsDependOnReads
effects_depend o one other small_one small_other h =
    let e : next_to one other.registers ≡ other = λ i. record {
      registers = record other.registers { db = h.db i; di = h.di i };
      brackets = h.brackets i;
      memory = h.memory i;
      activations = h.activations i;
    } in
    subst (λ (x : Now). AreLike one.registers x.registers (effect_of o one) (effect_of o x)) e
    (does_alike one other.registers o small_one small_other (subst (λ (x : Now). AreSame (reads_of o) one.registers x.registers) (sym e) h.registers))
