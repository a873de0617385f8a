-- Jumps and BEC: what is alike before is alike after, and the body goes on at one place.
use Rattle.std.proofs.Common.{◌≡◌, ℕ, ◌+◌, ◌==◌, negsuc, nat_lt, Bool, true, false, not, if◌then◌else◌, [], ◌∷◌, refl, subst}
use Rattle.std.specs.Prelude.{◌+ℤ◌}
use Rattle.s7_base.specs.declared.register.Reg.TheVariants as reg
use Rattle.s7_base.specs.declared.word.Width.TheVariants as width
use Rattle.status_word.specs.StatusBits.{after_jump, after_save}
use Rattle.stl_tree.specs.Accumulators.{after_addition, part, signed_part, with_number}
use Rattle.stl_tree.specs.Jumps.{after_asking, after_test, called_if, called_where, effect_of_jump, effect_of_list, effect_of_loop, ended_if, ended_where, going_where, is_as, is_made, position_of}
use Rattle.stl_tree.specs.declared.program.BlockCall.{BlockCall}
use Rattle.stl_tree.specs.Now.{Now, with_registers, with_status}
use Rattle.stl_tree.specs.Reads.{tested_by}
use Rattle.stl_tree.specs.Registers.{RegisterValues}
use Rattle.stl_tree.specs.declared.program.JumpTest.{JumpTest}
use Rattle.stl_tree.specs.declared.program.JumpTest.TheVariants as jump
use Rattle.instruction_laws.specs.Agreement.{AreLike, AreLikeStates, AreSame, is_kept, is_same}
use Rattle.instruction_laws.proofs.Beside.{DoesAlike, beside, kept_alike, next_to}
use Rattle.instruction_laws.proofs.BitEffects.{BitsAlike, end_alike, opens, same_answer}
use Rattle.instruction_laws.proofs.WordEffects.{add_word_alike}

-- The tests of jumps

same_test : (t : JumpTest) (r s : RegisterValues) → AreSame (tested_by t) r s → is_made t r.status ≡ is_made t s.status
same_test jump.Always r s h = refl
same_test (jump.Rlo wanted) r s h = λ i. is_as wanted (h.0 i)
same_test (jump.RloSaved wanted) r s h = λ i. is_as wanted (h.0 i)
same_test (jump.Br wanted) r s h = λ i. is_as wanted (h.0 i)
same_test jump.Overflow r s h = h.0
same_test jump.StoredOverflow r s h = h.0
same_test (jump.Result t) r s h = same_answer t r s h

jumps : (r s : RegisterValues) → BitsAlike after_jump r s
jumps r s reg.Rlo = is_same refl
jumps r s reg.Sta = is_same refl
jumps r s reg.Orb = is_same refl
jumps r s reg.Nfc = is_same refl
jumps r s q = is_kept refl refl

saves : (r s : RegisterValues) → AreSame (reg.Rlo ∷ []) r s → BitsAlike (λ x. after_jump (after_save x)) r s
saves r s h reg.Br = is_same h.0
saves r s h reg.Rlo = is_same refl
saves r s h reg.Sta = is_same refl
saves r s h reg.Orb = is_same refl
saves r s h reg.Nfc = is_same refl
saves r s h q = is_kept refl refl

clears_os : (r s : RegisterValues) → BitsAlike (λ x. record x { os = false }) r s
clears_os r s reg.Os = is_same refl
clears_os r s q = is_kept refl refl

tests : (t : JumpTest) (r s : RegisterValues) → AreSame (tested_by t) r s → BitsAlike (after_test t) r s
tests jump.Always r s h = kept_alike r s
tests (jump.Rlo wanted) r s h = jumps r s
tests (jump.RloSaved wanted) r s h = saves r s h
tests (jump.Br wanted) r s h = opens r s
tests jump.Overflow r s h = kept_alike r s
tests jump.StoredOverflow r s h = clears_os r s
tests (jump.Result t) r s h = kept_alike r s

-- Where a body goes on

goes_where : (made : Bool) (to : ℕ) (r s : RegisterValues) (one other : Now) → AreLikeStates r s one other
    → AreLike r s (going_where made to one) (going_where made to other)
goes_where true to r s one other h = (refl, h)
goes_where false to r s one other h = h

module _ (now : Now) (s : RegisterValues) where
  abbrev r : RegisterValues
  r = now.registers

  abbrev t : RegisterValues
  t = beside now.registers s

  -- by a bit that is the same on both sides
  by_one_bit : (made wanted : Bool) (to : ℕ) (one other : Now) → made ≡ wanted → AreLikeStates r t one other
      → AreLike r t (going_where made to one) (going_where wanted to other)
  by_one_bit made wanted to one other e h =
      subst (λ b. AreLike r t (going_where made to one) (going_where b to other)) e (goes_where made to r t one other h)

  pub jump_alike : (test : JumpTest) (to : ℕ) → AreSame (tested_by test) r t → DoesAlike now s (effect_of_jump test to)
  jump_alike test to h =
      by_one_bit (is_made test r.status) (is_made test t.status) to (with_status (after_test test) now) (with_status (after_test test) (next_to now s))
      (same_test test r t h) (record { memory = refl; brackets = refl; activations = refl; registers = tests test r t h })

  -- ACCU1 after LOOP, and that its low word isn't 0
  abbrev count_after : ℕ → ℕ
  count_after a = with_number width.Word a (signed_part width.Word a +ℤ negsuc 0)

  abbrev counts_on : ℕ → Bool
  counts_on a = not (part width.Word (count_after a) == 0)

  pub loop_alike : (to : ℕ) → AreSame (reg.Accu1 ∷ []) r t → DoesAlike now s (effect_of_loop to)
  loop_alike to h =
      by_one_bit (counts_on r.accu1) (counts_on t.accu1) to (with_registers (after_addition width.Word (negsuc 0)) now)
      (with_registers (after_addition width.Word (negsuc 0)) (next_to now s)) (λ i. counts_on (h.0 i))
      (record { memory = refl; brackets = refl; activations = refl; registers = add_word_alike (negsuc 0) r t h })

  pub list_alike : (count label : ℕ) → AreSame (reg.Accu1 ∷ []) r t → DoesAlike now s (effect_of_list count label)
  list_alike count label h = (
    λ i. let n = part width.Byte (h.0 i) in if nat_lt n count then position_of now.activations + 1 + n else label,
    record { memory = refl; brackets = refl; activations = refl; registers = kept_alike r t },
  )

  -- BEC, by the RLO
  ends_where : (ended : Bool) → DoesAlike now s (ended_where ended)
  ends_where true = record { memory = refl; brackets = refl; activations = refl; registers = end_alike r t }
  ends_where false = record { memory = refl; brackets = refl; activations = refl; registers = jumps r t }

  pub end_if_alike : AreSame (reg.Rlo ∷ reg.Os ∷ []) r t → DoesAlike now s ended_if
  end_if_alike h = subst (λ b. AreLike r t (ended_if now) (ended_where b (next_to now s))) h.0 (ends_where r.status.rlo)

  -- CC, by the RLO
  asking_alike : BitsAlike after_asking r t
  asking_alike reg.Os = is_same refl
  asking_alike reg.Orb = is_same refl
  asking_alike reg.Sta = is_same refl
  asking_alike reg.Nfc = is_same refl
  asking_alike reg.Rlo = is_same refl
  asking_alike q = is_kept refl refl

  calls_where : (call : BlockCall) (made : Bool) → DoesAlike now s (called_where made call)
  calls_where call true = (refl, record { memory = refl; brackets = refl; activations = refl; registers = asking_alike })
  calls_where call false = record { memory = refl; brackets = refl; activations = refl; registers = asking_alike }

  pub call_if_alike : (call : BlockCall) → AreSame (reg.Rlo ∷ reg.DbNo ∷ reg.DiNo ∷ []) r t → DoesAlike now s (called_if call)
  call_if_alike call h = subst (λ b. AreLike r t (called_if call now) (called_where b call (next_to now s))) h.0 (calls_where call r.status.rlo)
