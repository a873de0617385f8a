-- The rows on ACCU1 that some operands leave as it is: sums with a constant, shifts, word logic; and conversions.
use Rattle.std.proofs.Common.{◌≡◌, ℕ, ◌+◌, ◌-◌, ◌*◌, ◌%◌, ◌^◌, ◌<◌, ◌≤◌, ◌==◌, pos, Bool, true, false, not, ◌||◌, if◌then◌else◌, [], ◌∷◌, Option, Some, None, Result, Ok, Err, refl, sym, ap, subst, ◌∙◌, eqb-true, arith}
use Rattle.std.specs.Prelude.{reverse, ℤ, neg_ℤ, ◌+ℤ◌, ◌-ℤ◌, bit_and, bit_or}
use Rattle.std.specs.Int.{from_bool}
use Rattle.std.specs.Int.Bits.{and_zero_r}
use Rattle.std.specs.Ordering.{int_eq}
use Rattle.std.proofs.lemmas.Int.{ints}
use Rattle.std.proofs.lemmas.Nat.{le_or_r, or_of_32}
use Rattle.bcd_words.specs.Bcd.{bcd_of, bcd_value}
use Rattle.s7_base.specs.SignedNumbers.{pattern}
use Rattle.s7_base.specs.declared.outcome.Fault.{Fault}
use Rattle.s7_base.specs.declared.register.Reg.TheVariants as reg
use Rattle.s7_base.specs.declared.word.Width.{Width}
use Rattle.s7_base.specs.declared.word.Width.TheVariants as width
use Rattle.status_word.specs.Results.{after_converted, after_shifted}
use Rattle.memory_areas.specs.Areas.{bytes_of_dword, bytes_of_word, dword_at, word_at}
use Rattle.stl_tree.proofs.RowForms.{down_in_byte, up_in_byte}
use Rattle.stl_tree.specs.Accumulators.{counted_down, counted_up, after_addition, part, signed_part, with_number, with_part}
use Rattle.stl_tree.specs.Arithmetic.{after_negation, result_in}
use Rattle.stl_tree.specs.Conversions.{from_digits, to_digits, with_digits, with_value_of_digits}
use Rattle.stl_tree.specs.Instructions.{on_accu1}
use Rattle.stl_tree.specs.Now.{Now, next, with_value}
use Rattle.stl_tree.specs.Reads.{combined_with, converted_with, increased_by, shifted_by}
use Rattle.stl_tree.specs.Registers.{RegisterValues}
use Rattle.stl_tree.specs.Shifts.{after_shift, around_left_through_cc1, around_right_through_cc1, bottom, leaving, left, right, after_shift_steps, step, times, top, width_of as shift_width}
use Rattle.stl_tree.specs.WordLogic.{after_word_logic, combination_of, logic_result, other_of, width_of as logic_width}
use Rattle.stl_tree.specs.declared.accumulator.LogicRow.{LogicRow}
use Rattle.stl_tree.specs.declared.accumulator.LogicRow.TheVariants as logic
use Rattle.stl_tree.specs.declared.accumulator.ShiftRow.{ShiftRow}
use Rattle.stl_tree.specs.declared.accumulator.UnaryRow.{UnaryRow}
use Rattle.stl_tree.specs.declared.accumulator.UnaryRow.TheVariants as row
use Rattle.instruction_laws.specs.Agreement.{AreLike, AreSame, IsSame, is_kept, is_same}
use Rattle.instruction_laws.proofs.Beside.{Alike, DoesAlike, beside, kept_alike, next_to}
use Rattle.instruction_laws.proofs.NumberEffects.{RowAlike, in_part}

-- ACCU1 alone is other
abbrev with_accu1 : ℕ → RegisterValues → RegisterValues
with_accu1 a r = record r { accu1 = a }

one_alike : (a b : ℕ) (r s : RegisterValues) → a ≡ b → Alike r s (with_accu1 a r) (with_accu1 b s)
one_alike a b r s e reg.Accu1 = is_same e
one_alike a b r s e q = is_kept refl refl

one_kept : (a b : ℕ) (r s : RegisterValues) → r.accu1 ≡ a → s.accu1 ≡ b → Alike r s (with_accu1 a r) (with_accu1 b s)
one_kept a b r s e f reg.Accu1 = is_kept e f
one_kept a b r s e f q = is_kept refl refl

-- Sums with a constant

is_zero : (n : ℤ) → int_eq n (pos 0) ≡ true → n ≡ pos 0
is_zero n e = grind (arith, ints)

module _ (sum : ℕ → ℤ → ℕ) (nothing : (a : ℕ) → a ≡ sum a (pos 0)) where
  sum_alike : (n : ℤ) (r s : RegisterValues) → AreSame (increased_by n) r s → Alike r s (with_accu1 (sum r.accu1 n) r) (with_accu1 (sum s.accu1 n) s)
  sum_alike n r s h = by (int_eq n (pos 0)) refl h
    where
      by : (b : Bool) → int_eq n (pos 0) ≡ b → AreSame (if b then [] else reg.Accu1 ∷ []) r s
          → Alike r s (with_accu1 (sum r.accu1 n) r) (with_accu1 (sum s.accu1 n) s)
      by true zero none =
          let e : pos 0 ≡ n = sym (is_zero n zero) in
          one_kept (sum r.accu1 n) (sum s.accu1 n) r s (nothing r.accu1 ∙ ap (sum r.accu1) e) (nothing s.accu1 ∙ ap (sum s.accu1) e)
      by false some one = one_alike (sum r.accu1 n) (sum s.accu1 n) r s (λ i. sum (one.0 i) n)

pub add_word_alike : (n : ℤ) (r s : RegisterValues) → AreSame (increased_by n) r s → RowAlike (after_addition width.Word n) r s
add_word_alike n r s h = sum_alike (λ a m. with_number width.Word a (signed_part width.Word a +ℤ m)) (λ a. grind (arith, ints)) n r s h

pub add_dword_alike : (n : ℤ) (r s : RegisterValues) → AreSame (increased_by n) r s → RowAlike (after_addition width.Dword n) r s
add_dword_alike n r s h = sum_alike (λ a m. with_number width.Dword a (signed_part width.Dword a +ℤ m)) (λ a. grind (arith, ints)) n r s h

effect_is : (row other : RegisterValues → RegisterValues) → ((r : RegisterValues) → row r ≡ other r)
    → (r s : RegisterValues) → RowAlike other r s → RowAlike row r s
effect_is row other same r s h = subst (λ a. Alike r s a (row s)) (sym (same r)) (subst (λ b. Alike r s (other r) b) (sym (same s)) h)

pub inc_alike : (n : ℕ) (r s : RegisterValues) → AreSame (increased_by (pos n)) r s → RowAlike (counted_up n) r s
inc_alike n r s h =
    effect_is (counted_up n) _ (up_in_byte n) r s
    (sum_alike (λ a m. with_number width.Byte a (signed_part width.Byte a +ℤ m)) (λ a. grind (arith, ints)) (pos n) r s h)

pub dec_alike : (n : ℕ) (r s : RegisterValues) → AreSame (increased_by (pos n)) r s → RowAlike (counted_down n) r s
dec_alike n r s h =
    effect_is (counted_down n) _ (down_in_byte n) r s
    (sum_alike (λ a m. with_number width.Byte a (signed_part width.Byte a -ℤ m)) (λ a. grind (arith, ints)) (pos n) r s h)

-- Shifts

-- ACCU1, with CC1 as the bit that left last
shows : (a b : ℕ) (out gone : Bool) (r s : RegisterValues) → a ≡ b → out ≡ gone
    → Alike r s (record r { accu1 = a; status = after_shifted out r.status }) (record s { accu1 = b; status = after_shifted gone s.status })
shows a b out gone r s e f reg.Accu1 = is_same e
shows a b out gone r s e f reg.Cc1 = is_same f
shows a b out gone r s e f reg.Cc0 = is_same refl
shows a b out gone r s e f reg.Ov = is_same refl
shows a b out gone r s e f q = is_kept refl refl

-- by a count that is the same on both sides
shifts : (k : ShiftRow) (n : ℕ) (none : Bool) (r s : RegisterValues) → (none ≡ false → IsSame reg.Accu1 r s)
    → RowAlike (λ t. if none then t else record t {
      accu1 = with_part (shift_width k) t.accu1 (times n (step k) (part (shift_width k) t.accu1));
      status = after_shifted (leaving k (times (n - 1) (step k) (part (shift_width k) t.accu1))) t.status;
    }) r s
shifts k n true r s h = kept_alike r s
shifts k n false r s h =
    let e : r.accu1 ≡ s.accu1 = h refl in
    shows (with_part (shift_width k) r.accu1 (times n (step k) (part (shift_width k) r.accu1)))
    (with_part (shift_width k) s.accu1 (times n (step k) (part (shift_width k) s.accu1)))
    (leaving k (times (n - 1) (step k) (part (shift_width k) r.accu1))) (leaving k (times (n - 1) (step k) (part (shift_width k) s.accu1))) r s
    (λ i. with_part (shift_width k) (e i) (times n (step k) (part (shift_width k) (e i))))
    (λ i. leaving k (times (n - 1) (step k) (part (shift_width k) (e i))))

pub shift_alike : (k : ShiftRow) (count : Option ℕ) (r s : RegisterValues) → AreSame (shifted_by count) r s → RowAlike (after_shift k count) r s
shift_alike k None r s h =
    let e : after_shift_steps k (part width.Byte r.accu2) s ≡ after_shift k None s = λ i. after_shift_steps k (part width.Byte (h.1.0 i)) s in
    subst (Alike r s (after_shift k None r)) e (shifts k (part width.Byte r.accu2) (part width.Byte r.accu2 == 0) r s (λ some. h.0))
shift_alike k (Some n) r s h = shifts k n (n == 0) r s (by (n == 0) h)
  where
    by : (none : Bool) → AreSame (if none then [] else reg.Accu1 ∷ []) r s → none ≡ false → IsSame reg.Accu1 r s
    by true h e = absurd cc
    by false h e = h.0

pub left_around_alike : (r s : RegisterValues) → AreSame (reg.Accu1 ∷ reg.Cc1 ∷ []) r s → RowAlike around_left_through_cc1 r s
left_around_alike r s h =
    shows (left 32 r.accu1 + from_bool r.status.cc1) (left 32 s.accu1 + from_bool s.status.cc1) (top 32 r.accu1) (top 32 s.accu1) r s
    (λ i. left 32 (h.0 i) + from_bool (h.1.0 i)) (λ i. top 32 (h.0 i))

pub right_around_alike : (r s : RegisterValues) → AreSame (reg.Accu1 ∷ reg.Cc1 ∷ []) r s → RowAlike around_right_through_cc1 r s
right_around_alike r s h =
    shows (from_bool r.status.cc1 * 2 ^ 31 + right r.accu1) (from_bool s.status.cc1 * 2 ^ 31 + right s.accu1) (bottom r.accu1) (bottom s.accu1) r s
    (λ i. from_bool (h.1.0 i) * 2 ^ 31 + right (h.0 i)) (λ i. bottom (h.0 i))

-- Word logic

logic_alike : (w : Width) (p q : ℕ) (r s : RegisterValues) → p ≡ q → with_part w r.accu1 p ≡ with_part w s.accu1 q
    → Alike r s (logic_result w p r) (logic_result w q s)
logic_alike w p q r s e f reg.Accu1 = is_same f
logic_alike w p q r s e f reg.Cc1 = is_same (λ i. not (e i == 0))
logic_alike w p q r s e f reg.Cc0 = is_same refl
logic_alike w p q r s e f reg.Ov = is_same refl
logic_alike w p q r s e f x = is_kept refl refl

-- of the same patterns
combines : (l : LogicRow) (c : Option ℕ) (r s : RegisterValues) → r.accu1 ≡ s.accu1 → other_of c r ≡ other_of c s → RowAlike (after_word_logic l c) r s
combines l c r s e f =
    let w : Width = logic_width l in
    logic_alike w (combination_of l (part w r.accu1) (part w (other_of c r))) (combination_of l (part w s.accu1) (part w (other_of c s))) r s
    (λ i. combination_of l (part w (e i)) (part w (f i))) (λ i. with_part w (e i) (combination_of l (part w (e i)) (part w (f i))))

-- a row that gives the same whatever ACCU1 holds
gives : (l : LogicRow) (c n : ℕ) (r s : RegisterValues) → logic_width l ≡ width.Dword → r.accu1 < 2 ^ 32 → s.accu1 < 2 ^ 32
    → ((a : ℕ) → combination_of l (part (logic_width l) a) (part (logic_width l) c) ≡ n) → RowAlike (after_word_logic l (Some c)) r s
gives l c n r s wide small_r small_s fixed =
    let one : combination_of l (part (logic_width l) r.accu1) (part (logic_width l) c) ≡ n = fixed r.accu1 in
    let other : combination_of l (part (logic_width l) s.accu1) (part (logic_width l) c) ≡ n = fixed s.accu1 in
    let e : with_part width.Dword r.accu1 n ≡ with_part width.Dword s.accu1 n = omega arith in
    logic_alike (logic_width l) (combination_of l (part (logic_width l) r.accu1) (part (logic_width l) c))
    (combination_of l (part (logic_width l) s.accu1) (part (logic_width l) c)) r s
    (one ∙ sym other) (rw (one, other, wide) e)

no_bits : (a c : ℕ) → c ≡ 0 → bit_and (a % 2 ^ 32) (c % 2 ^ 32) ≡ 0
no_bits a c e = let none : c % 2 ^ 32 ≡ 0 = omega arith in ap (bit_and (a % 2 ^ 32)) none ∙ and_zero_r (a % 2 ^ 32)

all_bits : (a c : ℕ) → c ≡ 2 ^ 32 - 1 → bit_or (a % 2 ^ 32) (c % 2 ^ 32) ≡ 2 ^ 32 - 1
all_bits a c e =
    let least : c % 2 ^ 32 ≤ bit_or (a % 2 ^ 32) (c % 2 ^ 32) = le_or_r (a % 2 ^ 32) (c % 2 ^ 32) in
    let most : bit_or (a % 2 ^ 32) (c % 2 ^ 32) < 2 ^ 32 = or_of_32 (a % 2 ^ 32) (c % 2 ^ 32) (omega arith) (omega arith) in
    omega arith

pub word_logic_alike : (l : LogicRow) (c : Option ℕ) (r s : RegisterValues) → r.accu1 < 2 ^ 32 → s.accu1 < 2 ^ 32 → AreSame (combined_with l c) r s
    → RowAlike (after_word_logic l c) r s
word_logic_alike l None r s small_r small_s h = combines l None r s h.0 h.1.0
word_logic_alike logic.Ad (Some c) r s small_r small_s h = by (c == 0) refl h
  where
    by : (b : Bool) → (c == 0) ≡ b → AreSame (if b then [] else reg.Accu1 ∷ []) r s → RowAlike (after_word_logic logic.Ad (Some c)) r s
    by true zero none = gives logic.Ad c 0 r s refl small_r small_s (λ a. no_bits a c (eqb-true c 0 zero))
    by false some one = combines logic.Ad (Some c) r s one.0 refl
word_logic_alike logic.Od (Some c) r s small_r small_s h = by (c == 2 ^ 32 - 1) refl h
  where
    by : (b : Bool) → (c == 2 ^ 32 - 1) ≡ b → AreSame (if b then [] else reg.Accu1 ∷ []) r s → RowAlike (after_word_logic logic.Od (Some c)) r s
    by true full none = gives logic.Od c (2 ^ 32 - 1) r s refl small_r small_s (λ a. all_bits a c (eqb-true c (2 ^ 32 - 1) full))
    by false some one = combines logic.Od (Some c) r s one.0 refl
word_logic_alike l (Some c) r s small_r small_s h = combines l (Some c) r s h.0 refl

-- Conversions

-- one that has no fault
abbrev RowOf : (RegisterValues → RegisterValues) → Now → RegisterValues → Type 0
RowOf row now s = DoesAlike now s (λ n. next (record n { registers = row n.registers }))

pub goes_on : (f : RegisterValues → RegisterValues) (now : Now) (s : RegisterValues) → RowAlike f now.registers (beside now.registers s) → RowOf f now s
goes_on f now s h = record { memory = refl; brackets = refl; activations = refl; registers = h }

-- a part of ACCU1 takes what is computed from it
accu1_alike : (f : ℕ → ℕ) (now : Now) (s : RegisterValues) → now.registers.accu1 ≡ s.accu1 → RowOf (λ r. with_accu1 (f r.accu1) r) now s
accu1_alike f now s e =
    goes_on (λ r. with_accu1 (f r.accu1) r) now s (one_alike (f now.registers.accu1) (f s.accu1) now.registers (beside now.registers s) (λ i. f (e i)))

-- BTI and BTD
digits_read : (w : Width) (count : ℕ) (now : Now) (s : RegisterValues) → now.registers.accu1 ≡ s.accu1
    → DoesAlike now s (λ n. with_value (from_digits w count n.registers) (λ r. next (record n { registers = r })))
digits_read w count now s e =
    subst
    (λ v. AreLike now.registers (beside now.registers s) (with_value (from_digits w count now.registers) (λ r. next (record now { registers = r })))
    (with_value (with_value_of_digits w (beside now.registers s) v) (λ r. next (record (next_to now s) { registers = r }))))
    (λ i. bcd_value count (part w (e i))) (by (bcd_value count (part w now.registers.accu1)))
  where
    by : (v : Result ℤ Fault) → DoesAlike now s (λ n. with_value (with_value_of_digits w n.registers v) (λ r. next (record n { registers = r })))
    by (Ok z) = accu1_alike (λ a. with_number w a z) now s e
    by (Err f) = refl

-- ITB and DTB
overflows : (m n : ℕ) (over : Bool) (r s : RegisterValues) → m ≡ n → IsSame reg.Os r s
    → Alike r s (record r { accu1 = m; status = after_converted over r.status }) (record s { accu1 = n; status = after_converted over s.status })
overflows m n over r s e h reg.Accu1 = is_same e
overflows m n over r s e h reg.Ov = is_same refl
overflows m n over r s e h reg.Os = is_same (λ i. h i || over)
overflows m n over r s e h q = is_kept refl refl

writes_digits : (w : Width) (digits : Option ℕ) (r s : RegisterValues) → IsSame reg.Accu1 r s → IsSame reg.Os r s → RowAlike (with_digits w digits) r s
writes_digits w (Some p) r s e h = overflows (with_part w r.accu1 p) (with_part w s.accu1 p) false r s (λ i. with_part w (e i) p) h
writes_digits w None r s e h = overflows r.accu1 s.accu1 true r s e h

digits_alike : (w : Width) (count : ℕ) (r s : RegisterValues) → AreSame (reg.Accu1 ∷ reg.Os ∷ []) r s → RowAlike (to_digits w count) r s
digits_alike w count r s h =
    let e : with_digits w (bcd_of count (signed_part w r.accu1)) s ≡ to_digits w count s = λ i. with_digits w (bcd_of count (signed_part w (h.0 i))) s in
    subst (Alike r s (to_digits w count r)) e (writes_digits w (bcd_of count (signed_part w r.accu1)) r s h.0 h.1.0)

-- NEGI and NEGD
negates : (w : Width) (r s : RegisterValues) → AreSame (reg.Accu1 ∷ reg.Os ∷ []) r s → RowAlike (after_negation w) r s
negates w r s h =
    let e : result_in w (neg_ℤ (signed_part w r.accu1)) s ≡ after_negation w s = λ i. result_in w (neg_ℤ (signed_part w (h.0 i))) s in
    subst (Alike r s (after_negation w r)) e (in_part w (neg_ℤ (signed_part w r.accu1)) r s h.0 h.1.0)

pub convert_alike : (u : UnaryRow) (now : Now) (s : RegisterValues) → AreSame (converted_with u) now.registers (beside now.registers s)
    → DoesAlike now s (on_accu1 u)
convert_alike row.Bti now s h = digits_read width.Word 3 now s h.0
convert_alike row.Btd now s h = digits_read width.Dword 7 now s h.0
convert_alike row.Itb now s h = goes_on (to_digits width.Word 3) now s (digits_alike width.Word 3 now.registers (beside now.registers s) h)
convert_alike row.Dtb now s h = goes_on (to_digits width.Dword 7) now s (digits_alike width.Dword 7 now.registers (beside now.registers s) h)
convert_alike row.Itd now s h = accu1_alike (λ a. pattern 32 (signed_part width.Word a)) now s h.0
convert_alike row.Invi now s h = accu1_alike (λ a. with_part width.Word a (2 ^ 16 - 1 - part width.Word a)) now s h.0
convert_alike row.Invd now s h = accu1_alike (λ a. with_part width.Dword a (2 ^ 32 - 1 - part width.Dword a)) now s h.0
convert_alike row.Caw now s h = accu1_alike (λ a. with_part width.Word a (word_at (reverse (bytes_of_word (part width.Word a))) 0)) now s h.0
convert_alike row.Cad now s h =
    accu1_alike (λ a. with_part width.Dword a (dword_at (reverse (bytes_of_dword (part width.Dword a))) 0)) now s h.0
convert_alike row.Negi now s h = goes_on (after_negation width.Word) now s (negates width.Word now.registers (beside now.registers s) h)
convert_alike row.Negd now s h = goes_on (after_negation width.Dword) now s (negates width.Dword now.registers (beside now.registers s) h)
