-- T does its row.
use Rattle.std.proofs.Common.{◌≡◌, ℕ, ◌+◌, ◌%◌, ◌^◌, ◌<◌, ◌≤◌, ◌==◌, pos, Bool, true, false, List, [], length, Ok, refl, ap, ◌∙◌, arith}
use Rattle.std.specs.Int.{bit_at}
use Rattle.std.proofs.lemmas.Nat.Bits.{bit_at_lowest}
use Rattle.memory_areas.specs.Access.{write_bit, write_byte, write_word}
use Rattle.memory_areas.specs.Areas.{Contents}
use Rattle.memory_areas.specs.declared.place.Place.{Place}
use Rattle.s7_base.specs.declared.register.Reg.TheVariants as reg
use Rattle.s7_base.specs.declared.word.Width.{Width}
use Rattle.s7_base.specs.declared.word.Width.TheVariants as width
use Rattle.stl_tree.specs.Accepted.{IsOperand}
use Rattle.stl_tree.specs.Accumulators.{part, write_number}
use Rattle.stl_tree.specs.Instructions.{transfer_accu1}
use Rattle.stl_tree.specs.Now.{Now}
use Rattle.stl_tree.specs.declared.program.Operand.{Operand}
use Rattle.st_tree.specs.Fitting.{IsOf}
use Rattle.st_tree.specs.Meaning.{Calls, body_meaning}
use Rattle.st_tree.specs.State.{State, own_of, write_place}
use Rattle.st_tree.specs.Value.{value}
use Rattle.st_tree.specs.Values.{flag, is_set, pattern, type_of_width}
use Rattle.st_tree.specs.declared.state.Value.{Value}
use Rattle.st_tree.specs.declared.program.Located.{Located}
use Rattle.st_tree.proofs.Equations.{value_equations}
use Rattle.accumulator_templates.specs.Moves.{transfer_of}
use Rattle.accumulator_templates.specs.AccumulatorParts.{lowest_bits_of}
use Rattle.accumulator_templates.proofs.Patterns.{tested_bit}
use Rattle.accumulator_templates.proofs.Worths.{byte, dword, word}
use Rattle.template_parts.specs.Builders.{read_of}
use Rattle.template_parts.specs.Fetching.{types_reached}
use Rattle.template_parts.specs.Related.{Frames, Related}
use Rattle.template_parts.specs.DoesInstruction.{DoesInstruction}
use Rattle.template_parts.proofs.Fetching.{reach_effect}
use Rattle.template_parts.proofs.Putting.{flag_fits}

-- the lowest bits of an accumulator as a value of a width
abbrev cut_value : Width → ℕ → Value
cut_value width.Bit a = flag (bit_at a 0 == 1)
cut_value width.Byte a = byte (a % 2 ^ 8)
cut_value width.Word a = word (a % 2 ^ 16)
cut_value width.Dword a = dword a

cut_fits : (w : Width) (a : ℕ) → a < 2 ^ 32 → IsOf (type_of_width w) (cut_value w a)
cut_fits width.Bit a h = flag_fits (bit_at a 0 == 1)
cut_fits width.Byte a h = let same : pattern 8 (pos (a % 2 ^ 8)) ≡ a % 2 ^ 8 = omega arith in record { type = refl; number = ap (λ (n : ℕ). pos n) same }
cut_fits width.Word a h = let same : pattern 16 (pos (a % 2 ^ 16)) ≡ a % 2 ^ 16 = omega arith in record { type = refl; number = ap (λ (n : ℕ). pos n) same }
cut_fits width.Dword a h = let same : pattern 32 (pos a) ≡ a = omega arith in record { type = refl; number = ap (λ (n : ℕ). pos n) same }

set_flag : (b : Bool) → is_set (flag b) ≡ b
set_flag true = refl
set_flag false = refl

twice_8 : (a : ℕ) → a % 2 ^ 8 % 2 ^ 8 ≡ a % 2 ^ 8
twice_8 a = omega arith

twice_16 : (a : ℕ) → a % 2 ^ 16 % 2 ^ 16 ≡ a % 2 ^ 16
twice_16 a = omega arith

-- it is written as the row writes it
written : (w : Width) (p : Place) (a : ℕ) (m : Contents) → write_place (type_of_width w) p (cut_value w a) m ≡ write_number w p (part w a) m
written width.Bit p a m =
    ap (λ (b : Bool). write_bit p b m) (set_flag (bit_at a 0 == 1)) ∙ ap (λ (n : ℕ). write_bit p (n == 1) m) (bit_at_lowest a)
written width.Byte p a m = ap (λ (n : ℕ). write_byte p n m) (twice_8 a)
written width.Word p a m = ap (λ (n : ℕ). write_word p n m) (twice_16 a)
written width.Dword p a m = refl

module _ (g : List Located) (frames : Frames) (now : Now) (s : State) (related : Related frames now s) where
  cut_worth : (w : Width) → value g (lowest_bits_of w (read_of reg.Accu1)) s ≡ Ok (cut_value w now.registers.accu1)
  cut_worth width.Bit =
      let e = related.registers reg.Accu1 tt in
      let h = tested_bit now.registers.accu1 0 related.range.accu1 (omega arith) in
      simp (value_equations, e, h)
  cut_worth width.Byte = let e = related.registers reg.Accu1 tt in simp (value_equations, e)
  cut_worth width.Word = let e = related.registers reg.Accu1 tt in simp (value_equations, e)
  cut_worth width.Dword = let e = related.registers reg.Accu1 tt in simp (value_equations, e)

-- T of an operand, whose lowest bits of ACCU1 are written once it was reached
pub transfer_does : (g : List Located) (frames : Frames) (now : Now) (s : State) → Related frames now s
    → (calls : Calls) (units used : ℕ) (o : Operand) (w : Width) → IsOperand frames.formals w o
    → used + length (types_reached o) ≤ length (own_of s.activations)
    → DoesInstruction (body_meaning g calls (transfer_of used o w) units s) units used frames s now.memory (transfer_accu1 o w now)
transfer_does g frames now s related calls units used o w lies room =
    reach_effect g calls units frames now s related used o w lies (lowest_bits_of w (read_of reg.Accu1)) (λ (after : Now). cut_value w after.registers.accu1)
    (λ after t relates. cut_worth g frames after t relates w)
    (λ after t relates. cut_fits w after.registers.accu1 relates.range.accu1)
    (λ (p : Place) (after : Now). write_number w p (part w after.registers.accu1) after.memory)
    (λ p after. written w p after.registers.accu1 after.memory)
    (λ (done : Now). done) [] room
    (λ after t relates. record { to = t; goes = refl; related = relates; as_many = refl; below = λ i h. refl })
