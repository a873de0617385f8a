-- What the parts of shifts are worth in a state.
use Rattle.std.proofs.Common.{◌≡◌, ℕ, zero, suc, ◌+◌, ◌-◌, ◌*◌, ◌/◌, ◌%◌, ◌^◌, ◌<◌, ◌==◌, pos, Bool, true, false, not, ◌&&◌, if◌then◌else◌, List, Ok, inl, inr, refl, sym, ap, ◌∙◌, arith}
use Rattle.std.specs.Prelude.{◌-ℤ◌, bit_and}
use Rattle.std.specs.Ordering.{int_eq}
use Rattle.std.proofs.Math.Nat.{mod-eq_of_lt}
use Rattle.std.proofs.lemmas.Bool.Decides.{nat_tests}
use Rattle.std.proofs.lemmas.Int.{ints}
use Rattle.std.proofs.lemmas.Nat.{and_mask}
use Rattle.template_parts.proofs.Numbers.{put_low}
use Rattle.template_parts.proofs.Truths.{and_worth, not_worth}
use Rattle.template_parts.specs.Builders.{and_of, binary_of, constant_of, convert_of, not_of, read_of, select_of, shift_of}
use Rattle.s7_base.specs.declared.register.Reg.TheVariants as reg
use Rattle.s7_base.specs.declared.word.Width.{Width}
use Rattle.s7_base.specs.declared.word.Width.TheVariants as width
use Rattle.shift_templates.proofs.Patterns.{Counts, Fits, IsShifted, Moves, bottom_shown, inverted, masked, moved, moves_keep, of_width, right_moves, signed_chosen, top_shown}
use Rattle.shift_templates.specs.ShiftParts.{accu1_with, count_in_accu2, count_of, has_bit, one_less, operand_of, signed_shift, top_bit}
use Rattle.st_tree.proofs.Equations.{value_binary, value_convert, value_literal, value_select, value_shift, value_unary}
use Rattle.st_tree.specs.Operators.{binary_value, selected_value, shift_value, unary_value}
use Rattle.st_tree.specs.State.{State}
use Rattle.st_tree.specs.Value.{value}
use Rattle.st_tree.specs.Values.{flag, number, pattern, type_of_width, typed}
use Rattle.st_tree.specs.declared.expr.BinaryOp.{BinaryOp}
use Rattle.st_tree.specs.declared.expr.BinaryOp.TheVariants as binary
use Rattle.st_tree.specs.declared.expr.Expr.{Expr}
use Rattle.st_tree.specs.declared.expr.ShiftOp.{ShiftOp}
use Rattle.st_tree.specs.declared.expr.ShiftOp.TheVariants as shift
use Rattle.st_tree.specs.declared.expr.StType.TheVariants as type
use Rattle.st_tree.specs.declared.expr.UnaryOp.TheVariants as unary
use Rattle.st_tree.specs.declared.program.Located.{Located}
use Rattle.st_tree.specs.declared.state.Value.{Value}
use Rattle.memory_areas.specs.Access.{bits_wide}
use Rattle.stl_tree.specs.Accumulators.{part, with_part}
use Rattle.stl_tree.specs.Shifts.{bottom, right, right_signed, times, top}

-- Numbers

-- a count in a value of type INT
abbrev pub count : ℕ → Value
count n = record { ty = type.Int; n = pos n }

-- and one less
abbrev pub less_one : ℕ → Value
less_one n = typed type.Int (pos n -ℤ pos 1)

number_less : (n : ℕ) → suc n < 2 ^ 8 → number 16 (pattern 16 (pos (suc n) -ℤ pos 1)) ≡ pos (suc n - 1)
number_less n h = grind (arith, ints)

pub less_counts : (n : ℕ) → n < 2 ^ 8 → Counts (less_one n) (n - 1)
less_counts zero h = inr (refl, refl)
less_counts (suc n) h = inl (number_less n h)

byte_number : (b x : ℕ) → x ≡ b % 2 ^ 32 % 2 ^ 8 → number 16 (pattern 16 (pos (pattern 32 (pos x)))) ≡ pos (b % 2 ^ 8)
byte_number b x e = grind (arith, ints, e)

lowest_byte : (b : ℕ) → number 16 (pattern 16 (pos (pattern 32 (pos (bit_and (pattern 32 (pos b)) (pattern 32 (pos 255))))))) ≡ pos (b % 2 ^ 8)
lowest_byte b = byte_number b (bit_and (b % 2 ^ 32) 255) (and_mask (b % 2 ^ 32) 8)

is_step : (n : ℕ) → not (int_eq (pos n) (pos 0)) ≡ not (n == 0)
is_step n = grind (arith, ints, nat_tests)

pub chosen_flags : (gate a b : Bool) → selected_value (flag gate) (flag a) (flag b) ≡ flag (if gate then b else a)
chosen_flags true a b = refl
chosen_flags false a b = refl

pub one_fits : (w : Width) → IsShifted w → Fits w 1
one_fits width.Bit wide = elim wide [ ]
one_fits width.Byte wide = elim wide [ ]
one_fits width.Word wide = omega arith
one_fits width.Dword wide = omega arith

pub top_fits : (w : Width) → IsShifted w → Fits w (top_bit w)
top_fits width.Bit wide = elim wide [ ]
top_fits width.Byte wide = elim wide [ ]
top_fits width.Word wide = omega arith
top_fits width.Dword wide = omega arith

-- Expressions

module _ (g : List Located) (t : State) where
  -- an expression is worth a value
  abbrev pub Gives : Expr → Value → Type 0
  Gives e v = value g e t ≡ Ok v

  pub joined_gives : (op : BinaryOp) (e f : Expr) (v u : Value) → Gives e v → Gives f u → value g (binary_of op e f) t ≡ binary_value op v u
  joined_gives op e f v u h k = value_binary g op e f t ∙ (rw (h, k) refl)

  shift_gives : (op : ShiftOp) (e f : Expr) (v u : Value) → Gives e v → Gives f u → Gives (shift_of op e f) (shift_value op v u)
  shift_gives op e f v u h k = value_shift g op e f t ∙ (rw (h, k) refl)

  pub select_gives : (e f d : Expr) (v u x : Value) → Gives e v → Gives f u → Gives d x → Gives (select_of e f d) (selected_value v u x)
  select_gives e f d v u x h k m = value_select g e f d t ∙ (rw (h, k, m) refl)

  inverted_gives : (e : Expr) (v : Value) → Gives e v → value g (not_of e) t ≡ unary_value unary.Not v
  inverted_gives e v h = value_unary g unary.Not e t ∙ (rw h refl)

  -- Counts

  pub count_gives : (n : ℕ) → Gives (count_of n) (count n)
  count_gives n = value_literal g type.Int (pos n) t

  pub accu2_gives : (b : ℕ) → Gives (read_of reg.Accu2) (of_width width.Dword b) → Gives count_in_accu2 (count (b % 2 ^ 8))
  accu2_gives b h =
      let mask : Expr = constant_of type.Dword (pos 255) in
      value_convert g type.Dword type.Int (and_of (read_of reg.Accu2) mask) t
      ∙ (rw (joined_gives binary.And (read_of reg.Accu2) mask (of_width width.Dword b) (of_width width.Dword 255) h (value_literal g type.Dword (pos 255) t))
      refl)
      ∙ ap (λ n. Ok (record { ty = type.Int; n = n })) (lowest_byte b)

  pub step_gives : (e : Expr) (n : ℕ) → Gives e (count n) → Gives (binary_of binary.Ne e (count_of 0)) (flag (not (n == 0)))
  step_gives e n h =
      joined_gives binary.Ne e (count_of 0) (count n) (count 0) h (count_gives 0)
      ∙ ap (λ b. Ok (flag b)) (is_step n)

  pub less_gives : (e : Expr) (n : ℕ) → Gives e (count n) → Gives (one_less e) (less_one n)
  less_gives e n h = joined_gives binary.Sub e (count_of 1) (count n) (count 1) h (count_gives 1)

  -- Patterns

  module _ (w : Width) (wide : IsShifted w) where
    pub moved_gives : (op : ShiftOp) (f : ℕ → ℕ) → Moves op (bits_wide w) f → (e d : Expr) (p n : ℕ) (u : Value) → Fits w p → Counts u n
        → Gives e (of_width w p) → Gives d u → Gives (shift_of op e d) (of_width w (times n f p))
    moved_gives op f moves e d p n u fits counts h k =
        shift_gives op e d (of_width w p) u h k ∙ ap Ok (moved op w f moves p n u fits counts)

    pub bit_gives : (b : ℕ) (e : Expr) (p : ℕ) → Fits w b → Fits w p → Gives e (of_width w p)
        → Gives (has_bit w b e) (flag (not (int_eq (pos (bit_and p b)) (pos 0))))
    bit_gives b e p small fits h =
        let mask : Expr = constant_of (type_of_width w) (pos b) in
        let and_gives : Gives (and_of e mask) (of_width w (bit_and p b)) =
        joined_gives binary.And e mask (of_width w p) (of_width w b) h (value_literal g (type_of_width w) (pos b) t) ∙ masked w p b fits small in
        joined_gives binary.Ne (and_of e mask) (constant_of (type_of_width w) (pos 0))
        (of_width w (bit_and p b)) (of_width w 0) and_gives (value_literal g (type_of_width w) (pos 0) t)

    pub top_gives : (e : Expr) (p : ℕ) → Fits w p → Gives e (of_width w p) → Gives (has_bit w (top_bit w) e) (flag (top (bits_wide w) p))
    top_gives e p fits h = bit_gives (top_bit w) e p (top_fits w wide) fits h ∙ ap (λ b. Ok (flag b)) (top_shown w wide p fits)

    pub bottom_gives : (e : Expr) (p : ℕ) → Fits w p → Gives e (of_width w p) → Gives (has_bit w 1 e) (flag (bottom p))
    bottom_gives e p fits h = bit_gives 1 e p (one_fits w wide) fits h ∙ ap (λ b. Ok (flag b)) (bottom_shown p)

    pub signed_gives : (sign e d : Expr) (p n : ℕ) (u : Value) → Fits w p → Counts u n
        → Gives sign (flag (top (bits_wide w) p)) → Gives e (of_width w p) → Gives d u
        → Gives (signed_shift sign e d) (of_width w (times n (right_signed (bits_wide w)) p))
    signed_gives sign e d p n u fits counts s h k =
        let q : ℕ = 2 ^ bits_wide w - 1 - p in
        let other : Fits w q = omega arith in
        let under : Fits w (times n right q) = moves_keep shift.Shr (bits_wide w) right (right_moves (bits_wide w)) n q other in
        let plain : Gives (shift_of shift.Shr e d) (of_width w (times n right p)) =
        moved_gives shift.Shr right (right_moves (bits_wide w)) e d p n u fits counts h k in
        let turned : Gives (not_of e) (of_width w q) = inverted_gives e (of_width w p) h ∙ inverted w p fits in
        let inner : Gives (shift_of shift.Shr (not_of e) d) (of_width w (times n right q)) =
        moved_gives shift.Shr right (right_moves (bits_wide w)) (not_of e) d q n u other counts turned k in
        let back : Gives (not_of (shift_of shift.Shr (not_of e) d)) (of_width w (2 ^ bits_wide w - 1 - times n right q)) =
        inverted_gives (shift_of shift.Shr (not_of e) d) (of_width w (times n right q)) inner ∙ inverted w (times n right q) under in
        select_gives sign (shift_of shift.Shr e d) (not_of (shift_of shift.Shr (not_of e) d)) (flag (top (bits_wide w) p)) (of_width w (times n right p))
        (of_width w (2 ^ bits_wide w - 1 - times n right q)) s plain back
        ∙ ap Ok (signed_chosen w wide p n fits)

  pub operand_gives : (w : Width) → IsShifted w → (a : ℕ) → a < 2 ^ 32
      → Gives (read_of reg.Accu1) (of_width width.Dword a) → Gives (operand_of w) (of_width w (part w a))
  operand_gives width.Bit wide a range h = elim wide [ ]
  operand_gives width.Byte wide a range h = elim wide [ ]
  operand_gives width.Word wide a range h = value_convert g type.Dword type.Word (read_of reg.Accu1) t ∙ (rw h refl)
  operand_gives width.Dword wide a range h = h ∙ ap (λ x. Ok (of_width width.Dword x)) (sym (mod-eq_of_lt range))

  pub accu1_gives : (w : Width) → IsShifted w → (e : Expr) (a x : ℕ) → a < 2 ^ 32 → Fits w x
      → Gives (read_of reg.Accu1) (of_width width.Dword a) → Gives e (of_width w x)
      → Gives (accu1_with w e) (of_width width.Dword (with_part w a x))
  accu1_gives width.Bit wide e a x range fits h k = elim wide [ ]
  accu1_gives width.Byte wide e a x range fits h k = elim wide [ ]
  accu1_gives width.Word wide e a x range fits h k =
      let mask : Expr = constant_of type.Dword (pos 0xFFFF0000) in
      let high : value g (and_of (read_of reg.Accu1) mask) t ≡ binary_value binary.And (of_width width.Dword a) (of_width width.Dword 0xFFFF0000) =
      joined_gives binary.And (read_of reg.Accu1) mask (of_width width.Dword a)
      (of_width width.Dword 0xFFFF0000) h (value_literal g type.Dword (pos 0xFFFF0000) t) in
      let low : Gives (convert_of type.Word type.Dword e) (typed type.Dword (pos x)) = value_convert g type.Word type.Dword e t ∙ (rw k refl) in
      value_binary g binary.Or (and_of (read_of reg.Accu1) mask) (convert_of type.Word type.Dword e) t
      ∙ (rw (high, low) refl)
      ∙ ap (λ n. Ok (of_width width.Dword n)) (put_low a x range fits)
  accu1_gives width.Dword wide e a x range fits h k =
      let same : x ≡ a / 2 ^ 32 * 2 ^ 32 + x = omega arith in
      k ∙ ap (λ n. Ok (of_width width.Dword n)) same

  -- Flags

  -- CC1, where a gate is TRUE what left last
  pub gate_gives : (gate e d : Expr) (x a b : Bool) → Gives gate (flag x) → Gives e (flag a)
      → Gives d (flag b) → Gives (select_of gate e d) (flag (if x then b else a))
  gate_gives gate e d x a b h k m = select_gives gate e d (flag x) (flag a) (flag b) h k m ∙ ap Ok (chosen_flags x a b)

  -- CC0 and OV, cleared where it is
  pub kept_gives : (gate e : Expr) (x a : Bool) → Gives gate (flag x) → Gives e (flag a) → Gives (and_of e (not_of gate)) (flag (a && not x))
  kept_gives gate e x a h k = and_worth g t e (not_of gate) a (not x) k (not_worth g t gate x h)
