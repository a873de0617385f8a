-- The rows on the bits of the status word: each is alike where the registers are the same that it reads.
use Rattle.std.proofs.Common.{◌≡◌, Bool, not, ◌&&◌, ◌||◌, if◌then◌else◌, List, [], ◌∷◌, ◌++◌, refl, subst}
use Rattle.memory_areas.specs.Access.{read_bit, write_bit}
use Rattle.memory_areas.specs.declared.place.Place.{Place}
use Rattle.s7_base.specs.declared.check.Check.{Check}
use Rattle.s7_base.specs.declared.check.Check.TheVariants as check
use Rattle.s7_base.specs.declared.check.Entry.{Entry}
use Rattle.s7_base.specs.declared.register.Reg.TheVariants as reg
use Rattle.status_word.specs.StatusBits.{StatusBits, after_check, after_clear, after_close, after_edge, after_end, after_not, after_open, after_or, after_save, after_set, after_store, answer_to, orb_after, with_bracket_entry, rlo_after}
use Rattle.status_word.specs.declared.test.Test.{Test}
use Rattle.status_word.specs.declared.test.Test.TheVariants as test
use Rattle.stl_tree.specs.Brackets.{closed_with, in_bracket_of, push_bracket}
use Rattle.stl_tree.specs.Instructions.{at_edge, on_status, store_where_rlo}
use Rattle.stl_tree.specs.Now.{Now, Effect, next, with_memory, with_status, with_value}
use Rattle.stl_tree.specs.Operands.{with_checked, with_place}
use Rattle.stl_tree.specs.Reads.{asked_by, chain_read, found_by, looked_at}
use Rattle.stl_tree.specs.Registers.{RegisterValues}
use Rattle.stl_tree.specs.declared.program.BitArg.{BitArg}
use Rattle.stl_tree.specs.declared.program.BitArg.TheVariants as arg
use Rattle.stl_tree.specs.declared.program.Operand.{Operand}
use Rattle.instruction_laws.specs.Agreement.{AreLike, AreSame, is_kept, is_same}
use Rattle.instruction_laws.proofs.Beside.{Alike, DoesAlike, beside, first_same, kept_alike, by_one_value, next_to, at_place, second_same, by_value}

-- the registers with other bits
abbrev pub with_bits : (StatusBits → StatusBits) → RegisterValues → RegisterValues
with_bits row r = record r { status = row r.status }

abbrev pub BitsAlike : (StatusBits → StatusBits) → RegisterValues → RegisterValues → Type 0
BitsAlike row r s = Alike r s (with_bits row r) (with_bits row s)

-- Checks

rlo_checked : (c : Check) (b : Bool) (r s : RegisterValues) → AreSame (chain_read c) r s → rlo_after c b r.status ≡ rlo_after c b s.status
rlo_checked check.A b r s h = λ i. ((h.0 i || not (h.1.0 i)) && b) || h.1.1.0 i
rlo_checked check.An b r s h = λ i. ((h.0 i || not (h.1.0 i)) && not b) || h.1.1.0 i
rlo_checked check.O b r s h = λ i. if h.1.0 i then h.0 i || b else b
rlo_checked check.On b r s h = λ i. if h.1.0 i then h.0 i || not b else not b
rlo_checked check.X b r s h = λ i. if h.1.0 i then (if h.0 i then not b else b) else b
rlo_checked check.Xn b r s h = λ i. if h.1.0 i then (if h.0 i then b else not b) else not b

orb_checked : (c : Check) (r s : RegisterValues) → AreSame (chain_read c) r s → orb_after c r.status ≡ orb_after c s.status
orb_checked check.A r s h = h.1.1.0
orb_checked check.An r s h = h.1.1.0
orb_checked c r s h = refl

checks : (c : Check) (b : Bool) (r s : RegisterValues) → AreSame (chain_read c) r s → BitsAlike (after_check c b) r s
checks c b r s h reg.Rlo = is_same (rlo_checked c b r s h)
checks c b r s h reg.Orb = is_same (orb_checked c r s h)
checks c b r s h reg.Sta = is_same refl
checks c b r s h reg.Nfc = is_same refl
checks c b r s h q = is_kept refl refl

pub same_answer : (t : Test) (r s : RegisterValues) → AreSame (asked_by t) r s → answer_to t r.status ≡ answer_to t s.status
same_answer test.Eq r s h = λ i. not (h.0 i) && not (h.1.0 i)
same_answer test.Ne r s h = λ i. (not (h.0 i) && h.1.0 i) || (h.0 i && not (h.1.0 i))
same_answer test.Gt r s h = λ i. h.0 i && not (h.1.0 i)
same_answer test.Lt r s h = λ i. not (h.0 i) && h.1.0 i
same_answer test.Ge r s h = λ i. not (h.0 i)
same_answer test.Le r s h = λ i. not (h.0 i)
same_answer test.Uo r s h = λ i. h.0 i && h.1.0 i
same_answer test.Ov r s h = h.0
same_answer test.Os r s h = h.0
same_answer test.Br r s h = h.0

pub check_alike : (c : Check) (b : BitArg) (now : Now) (s : RegisterValues) → AreSame (looked_at b ++ chain_read c) now.registers (beside now.registers s)
    → DoesAlike now s (λ n. with_checked b n (λ v. on_status (after_check c v)))
check_alike c (arg.At o) now s h =
    at_place o (chain_read c) now s (λ p n. with_value (read_bit p n.memory) (λ b. on_status (after_check c b) n))
    (first_same (found_by o) (chain_read c) now.registers (beside now.registers s) h)
    (second_same (found_by o) (chain_read c) now.registers (beside now.registers s) h)
    (λ p n k. by_value n.registers (beside n.registers s) (λ b. on_status (after_check c b) n)
    (λ b. on_status (after_check c b) (next_to n s)) (read_bit p n.memory)
    (λ b. record { memory = refl; brackets = refl; activations = refl; registers = checks c b n.registers (beside n.registers s) k }))
check_alike c (arg.Flag t) now s h =
    let first : Bool = answer_to t now.registers.status in
    subst (λ b. AreLike now.registers (beside now.registers s) (on_status (after_check c first) now) (on_status (after_check c b) (next_to now s)))
    (same_answer t now.registers (beside now.registers s) (first_same (asked_by t) (chain_read c) now.registers (beside now.registers s) h))
    (record {
      memory = refl;
      brackets = refl;
      activations = refl;
      registers = checks c first now.registers (beside now.registers s) (second_same (asked_by t) (chain_read c) now.registers (beside now.registers s) h);
    })

-- Bits alone

pub or_alike : (r s : RegisterValues) → AreSame (reg.Rlo ∷ reg.Nfc ∷ []) r s → BitsAlike after_or r s
or_alike r s h reg.Orb = is_same (λ i. h.0 i && h.1.0 i)
or_alike r s h reg.Sta = is_same refl
or_alike r s h reg.Nfc = is_same refl
or_alike r s h q = is_kept refl refl

pub set_alike : (r s : RegisterValues) → BitsAlike after_set r s
set_alike r s reg.Rlo = is_same refl
set_alike r s reg.Sta = is_same refl
set_alike r s reg.Orb = is_same refl
set_alike r s reg.Nfc = is_same refl
set_alike r s q = is_kept refl refl

pub clear_alike : (r s : RegisterValues) → BitsAlike after_clear r s
clear_alike r s reg.Rlo = is_same refl
clear_alike r s reg.Sta = is_same refl
clear_alike r s reg.Orb = is_same refl
clear_alike r s reg.Nfc = is_same refl
clear_alike r s q = is_kept refl refl

pub not_alike : (r s : RegisterValues) → AreSame (reg.Rlo ∷ []) r s → BitsAlike after_not r s
not_alike r s h reg.Rlo = is_same (λ i. not (h.0 i))
not_alike r s h reg.Sta = is_same refl
not_alike r s h q = is_kept refl refl

pub save_alike : (r s : RegisterValues) → AreSame (reg.Rlo ∷ []) r s → BitsAlike after_save r s
save_alike r s h reg.Br = is_same h.0
save_alike r s h q = is_kept refl refl

pub end_alike : (r s : RegisterValues) → BitsAlike after_end r s
end_alike r s reg.Os = is_same refl
end_alike r s reg.Orb = is_same refl
end_alike r s reg.Sta = is_same refl
end_alike r s reg.Nfc = is_same refl
end_alike r s q = is_kept refl refl

-- Brackets

pub opens : (r s : RegisterValues) → BitsAlike after_open r s
opens r s reg.Orb = is_same refl
opens r s reg.Sta = is_same refl
opens r s reg.Nfc = is_same refl
opens r s q = is_kept refl refl

pub bracket_alike : (c : Check) (now : Now) (s : RegisterValues) → AreSame (reg.Rlo ∷ reg.Nfc ∷ reg.Orb ∷ []) now.registers (beside now.registers s)
    → DoesAlike now s (λ n. next (in_bracket_of c n))
bracket_alike c now s h =
    record {
      memory = refl;
      brackets = λ i. push_bracket (record { check = c; rlo = h.0 i; orb = h.1.1.0 i; nfc = h.1.0 i }) now.brackets;
      activations = refl;
      registers = opens now.registers (beside now.registers s);
    }

-- a closed bracket looks at what it kept, and at the RLO inside
rlo_closed : (c : Check) (e : Entry) (a b : Bool) (r s : StatusBits) → a ≡ b → rlo_after c a (with_bracket_entry e r) ≡ rlo_after c b (with_bracket_entry e s)
rlo_closed check.A e a b r s h = λ i. rlo_after check.A (h i) (with_bracket_entry e r)
rlo_closed c e a b r s h = λ i. rlo_after c (h i) (with_bracket_entry e r)

orb_closed : (c : Check) (e : Entry) (r s : StatusBits) → orb_after c (with_bracket_entry e r) ≡ orb_after c (with_bracket_entry e s)
orb_closed check.A e r s = refl
orb_closed c e r s = refl

closes : (e : Entry) (r s : RegisterValues) → AreSame (reg.Rlo ∷ []) r s → BitsAlike (after_close e) r s
closes e r s h reg.Rlo = is_same (rlo_closed e.check e r.status.rlo s.status.rlo r.status s.status h.0)
closes e r s h reg.Orb = is_same (orb_closed e.check e r.status s.status)
closes e r s h reg.Sta = is_same refl
closes e r s h reg.Nfc = is_same refl
closes e r s h q = is_kept refl refl

pub close_alike : (entries : List Entry) (now : Now) (s : RegisterValues) → AreSame (reg.Rlo ∷ []) now.registers (beside now.registers s)
    → DoesAlike now s (λ n. next (closed_with entries n))
close_alike [] now s h = record { memory = refl; brackets = refl; activations = refl; registers = kept_alike now.registers (beside now.registers s) }
close_alike (e ∷ outer) now s h =
    record { memory = refl; brackets = refl; activations = refl; registers = closes e now.registers (beside now.registers s) h }

-- What is written

stores : (a b : Bool) (r s : RegisterValues) → a ≡ b → Alike r s (with_bits (after_store a) r) (with_bits (after_store b) s)
stores a b r s e reg.Sta = is_same e
stores a b r s e reg.Orb = is_same refl
stores a b r s e reg.Nfc = is_same refl
stores a b r s e q = is_kept refl refl

edges : (rising e : Bool) (r s : RegisterValues) → AreSame (reg.Rlo ∷ []) r s → BitsAlike (after_edge rising e) r s
edges rising e r s h reg.Rlo = is_same (λ i. if rising then h.0 i && not e else not (h.0 i) && e)
edges rising e r s h reg.Sta = is_same (λ i. if rising then h.0 i && not e else not (h.0 i) && e)
edges rising e r s h reg.Orb = is_same refl
edges rising e r s h reg.Nfc = is_same refl
edges rising e r s h q = is_kept refl refl

-- a bit that is written at an operand, by the RLO
module _ (o : Operand) (now : Now) (s : RegisterValues) (h : AreSame (found_by o ++ reg.Rlo ∷ []) now.registers (beside now.registers s)) where
  by_rlo : (effect : Place → Now → Effect)
      → ((p : Place) (n : Now) → AreSame (reg.Rlo ∷ []) n.registers (beside n.registers s) → DoesAlike n s (effect p))
      → DoesAlike now s (λ n. with_place o n effect)
  by_rlo effect does =
      at_place o (reg.Rlo ∷ []) now s effect (first_same (found_by o) (reg.Rlo ∷ []) now.registers (beside now.registers s) h)
      (second_same (found_by o) (reg.Rlo ∷ []) now.registers (beside now.registers s) h) does

  pub assign_alike : DoesAlike now s
      (λ n. with_place o n (λ p after. with_memory (write_bit p after.registers.status.rlo after.memory) after
      (λ done. next (with_status (after_store done.registers.status.rlo) done))))
  assign_alike =
      by_rlo (λ p n. with_memory (write_bit p n.registers.status.rlo n.memory) n (λ done. next (with_status (after_store done.registers.status.rlo) done)))
      (λ p n k. by_one_value n.registers (beside n.registers s) (λ b. write_bit p b n.memory) n.registers.status.rlo s.status.rlo
      (λ m. next (record n { memory = m; registers = with_bits (after_store n.registers.status.rlo) n.registers }))
      (λ m. next (record n { memory = m; registers = with_bits (after_store s.status.rlo) (beside n.registers s) })) k.0
      (λ m. record {
        memory = refl;
        brackets = refl;
        activations = refl;
        registers = stores n.registers.status.rlo s.status.rlo n.registers (beside n.registers s) k.0;
      }))

  pub stored_alike : (value : Bool) → DoesAlike now s (store_where_rlo value o)
  stored_alike value =
      by_rlo (λ p n. with_value (read_bit p n.memory) (λ b. with_memory (write_bit p (if n.registers.status.rlo then value else b) n.memory) n
      (on_status (after_store (if n.registers.status.rlo then value else b)))))
      (λ p n k. by_value n.registers (beside n.registers s)
      (λ b. with_memory (write_bit p (if n.registers.status.rlo then value else b) n.memory) n
      (on_status (after_store (if n.registers.status.rlo then value else b))))
      (λ b. with_memory (write_bit p (if s.status.rlo then value else b) n.memory) (next_to n s) (on_status (after_store (if s.status.rlo then value else b))))
      (read_bit p n.memory)
      (λ b. let written : (if n.registers.status.rlo then value else b) ≡ (if s.status.rlo then value else b) = λ i. if k.0 i then value else b in
      by_one_value n.registers (beside n.registers s) (λ b. write_bit p b n.memory)
      (if n.registers.status.rlo then value else b) (if s.status.rlo then value else b)
      (λ m. next (record n { memory = m; registers = with_bits (after_store (if n.registers.status.rlo then value else b)) n.registers }))
      (λ m. next (record n { memory = m; registers = with_bits (after_store (if s.status.rlo then value else b)) (beside n.registers s) })) written
      (λ m. record {
        memory = refl;
        brackets = refl;
        activations = refl;
        registers = stores (if n.registers.status.rlo then value else b) (if s.status.rlo then value else b) n.registers (beside n.registers s) written;
      })))

  pub edge_alike : (rising : Bool) → DoesAlike now s (at_edge rising o)
  edge_alike rising =
      by_rlo (λ p n. with_value (read_bit p n.memory) (λ e. with_memory (write_bit p n.registers.status.rlo n.memory) n (on_status (after_edge rising e))))
      (λ p n k. by_value n.registers (beside n.registers s)
      (λ e. with_memory (write_bit p n.registers.status.rlo n.memory) n (on_status (after_edge rising e)))
      (λ e. with_memory (write_bit p s.status.rlo n.memory) (next_to n s) (on_status (after_edge rising e))) (read_bit p n.memory)
      (λ e. by_one_value n.registers (beside n.registers s) (λ b. write_bit p b n.memory) n.registers.status.rlo s.status.rlo
      (λ m. next (record n { memory = m; registers = with_bits (after_edge rising e) n.registers }))
      (λ m. next (record n { memory = m; registers = with_bits (after_edge rising e) (beside n.registers s) })) k.0
      (λ m. record { memory = refl; brackets = refl; activations = refl; registers = edges rising e n.registers (beside n.registers s) k })))
