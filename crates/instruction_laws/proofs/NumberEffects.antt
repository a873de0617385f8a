-- The rows on numbers in the registers: each is alike where the registers are the same that it reads.
use Rattle.std.proofs.Common.{◌≡◌, ℕ, ◌+◌, ◌*◌, ◌^◌, ◌==◌, pos, Bool, true, false, ◌||◌, if◌then◌else◌, [], ◌∷◌, Option, Some, None, refl, sym, ap, subst, ◌∙◌, eqb-true, arith}
use Rattle.std.specs.Prelude.{ℤ, ◌+ℤ◌, ◌-ℤ◌, ◌*ℤ◌, int_div, int_rem}
use Rattle.std.specs.Ordering.{int_eq}
use Rattle.std.proofs.lemmas.Int.{ints}
use Rattle.memory_areas.specs.Pointers.{pointer_plus}
use Rattle.s7_base.specs.SignedNumbers.{is_over, pattern, wrapped}
use Rattle.s7_base.specs.declared.register.Reg.TheVariants as reg
use Rattle.s7_base.specs.declared.word.Width.{Width}
use Rattle.s7_base.specs.declared.word.Width.TheVariants as width
use Rattle.status_word.specs.Flags.{bits_of, word_of}
use Rattle.status_word.specs.Results.{after_signed, after_zero_divisor}
use Rattle.status_word.specs.declared.test.Test.{Test}
use Rattle.memory_areas.specs.Access.{bits_wide}
use Rattle.stl_tree.specs.Accumulators.{accu_popped, accu_pushed, accus_exchanged, after_load, signed_part, status_loaded, status_stored, with_number}
use Rattle.stl_tree.specs.AddressRegisters.{accu1_pointed, amount_to_add, other_loaded, other_of as other_ar, other_stored, pointer_in, pointer_loaded, pointer_moved, pointers_exchanged, with_pointer}
use Rattle.stl_tree.specs.Arithmetic.{both_in_words, after_arithmetic, after_comparison, compared_numbers, quotient_in_dword, remainder_in_dword, result_in, arithmetic_of_numbers, width_of as width_of_arith}
use Rattle.stl_tree.specs.DataBlocks.{db_number_loaded, db_opened, dbs_exchanged, di_number_loaded, di_opened}
use Rattle.stl_tree.specs.Reads.{moved_by, register_of}
use Rattle.stl_tree.specs.Registers.{RegisterValues}
use Rattle.stl_tree.specs.declared.accumulator.Arith.{Arith}
use Rattle.stl_tree.specs.declared.accumulator.Arith.TheVariants as row
use Rattle.stl_tree.specs.declared.program.Ar.{Ar}
use Rattle.stl_tree.specs.declared.program.Ar.TheVariants as ar
use Rattle.instruction_laws.specs.Agreement.{AreSame, IsSame, is_kept, is_same}
use Rattle.instruction_laws.proofs.Beside.{Alike}

-- one row on two sides
abbrev pub RowAlike : (RegisterValues → RegisterValues) → RegisterValues → RegisterValues → Type 0
RowAlike row r s = Alike r s (row r) (row s)

-- Loading and moving

pub load_alike : (v : ℕ) (r s : RegisterValues) → AreSame (reg.Accu1 ∷ []) r s → RowAlike (after_load v) r s
load_alike v r s h reg.Accu1 = is_same refl
load_alike v r s h reg.Accu2 = is_same h.0
load_alike v r s h q = is_kept refl refl

-- what is loaded is the same on both sides
loads : (v w : ℕ) (r s : RegisterValues) → v ≡ w → AreSame (reg.Accu1 ∷ []) r s → Alike r s (after_load v r) (after_load w s)
loads v w r s e h reg.Accu1 = is_same e
loads v w r s e h reg.Accu2 = is_same h.0
loads v w r s e h q = is_kept refl refl

pub status_load_alike : (r s : RegisterValues) → AreSame (reg.Accu1 ∷ reg.Rlo ∷ reg.Os ∷ reg.Ov ∷ reg.Cc0 ∷ reg.Cc1 ∷ reg.Br ∷ []) r s
    → RowAlike status_loaded r s
status_load_alike r s h =
    loads (word_of r.status) (word_of s.status) r s
    (λ i. word_of (record r.status { rlo = h.1.0 i; os = h.1.1.0 i; ov = h.1.1.1.0 i; cc0 = h.1.1.1.1.0 i; cc1 = h.1.1.1.1.1.0 i; br = h.1.1.1.1.1.1.0 i }))
    (h.0, tt)

pub status_store_alike : (r s : RegisterValues) → AreSame (reg.Accu1 ∷ []) r s → RowAlike status_stored r s
status_store_alike r s h reg.Rlo = is_same (λ i. (bits_of (h.0 i)).rlo)
status_store_alike r s h reg.Os = is_same (λ i. (bits_of (h.0 i)).os)
status_store_alike r s h reg.Ov = is_same (λ i. (bits_of (h.0 i)).ov)
status_store_alike r s h reg.Cc0 = is_same (λ i. (bits_of (h.0 i)).cc0)
status_store_alike r s h reg.Cc1 = is_same (λ i. (bits_of (h.0 i)).cc1)
status_store_alike r s h reg.Br = is_same (λ i. (bits_of (h.0 i)).br)
status_store_alike r s h q = is_kept refl refl

pub db_load_alike : (r s : RegisterValues) → AreSame (reg.Accu1 ∷ reg.DbNo ∷ []) r s → RowAlike db_number_loaded r s
db_load_alike r s h = loads r.db s.db r s h.1.0 (h.0, tt)

pub di_load_alike : (r s : RegisterValues) → AreSame (reg.Accu1 ∷ reg.DiNo ∷ []) r s → RowAlike di_number_loaded r s
di_load_alike r s h = loads r.di s.di r s h.1.0 (h.0, tt)

pub tak_alike : (r s : RegisterValues) → AreSame (reg.Accu1 ∷ reg.Accu2 ∷ []) r s → RowAlike accus_exchanged r s
tak_alike r s h reg.Accu1 = is_same h.1.0
tak_alike r s h reg.Accu2 = is_same h.0
tak_alike r s h q = is_kept refl refl

pub push_alike : (r s : RegisterValues) → AreSame (reg.Accu1 ∷ []) r s → RowAlike accu_pushed r s
push_alike r s h reg.Accu2 = is_same h.0
push_alike r s h q = is_kept refl refl

pub pop_alike : (r s : RegisterValues) → AreSame (reg.Accu2 ∷ []) r s → RowAlike accu_popped r s
pop_alike r s h reg.Accu1 = is_same h.0
pop_alike r s h q = is_kept refl refl

pub db_open_alike : (n : ℕ) (r s : RegisterValues) → RowAlike (db_opened n) r s
db_open_alike n r s reg.DbNo = is_same refl
db_open_alike n r s q = is_kept refl refl

pub di_open_alike : (n : ℕ) (r s : RegisterValues) → RowAlike (di_opened n) r s
di_open_alike n r s reg.DiNo = is_same refl
di_open_alike n r s q = is_kept refl refl

pub dbs_exchange_alike : (r s : RegisterValues) → AreSame (reg.DbNo ∷ reg.DiNo ∷ []) r s → RowAlike dbs_exchanged r s
dbs_exchange_alike r s h reg.DbNo = is_same h.1.0
dbs_exchange_alike r s h reg.DiNo = is_same h.0
dbs_exchange_alike r s h q = is_kept refl refl

-- Pointers

-- an address register takes the same pointer on both sides
points : (a : Ar) (p q : ℕ) (r s : RegisterValues) → p ≡ q → Alike r s (with_pointer a p r) (with_pointer a q s)
points ar.One p q r s e reg.Ar1 = is_same e
points ar.One p q r s e x = is_kept refl refl
points ar.Two p q r s e reg.Ar2 = is_same e
points ar.Two p q r s e x = is_kept refl refl

pub pointer_same : (a : Ar) (r s : RegisterValues) → IsSame (register_of a) r s → pointer_in a r ≡ pointer_in a s
pointer_same ar.One r s h = h
pointer_same ar.Two r s h = h

pub pointer_alike : (a : Ar) (p : ℕ) (r s : RegisterValues) → RowAlike (with_pointer a p) r s
pointer_alike a p r s = points a p p r s refl

pub accu1_point_alike : (a : Ar) (r s : RegisterValues) → AreSame (reg.Accu1 ∷ []) r s → RowAlike (accu1_pointed a) r s
accu1_point_alike a r s h = points a r.accu1 s.accu1 r s h.0

pub other_load_alike : (a : Ar) (r s : RegisterValues) → AreSame (register_of (other_ar a) ∷ []) r s → RowAlike (other_loaded a) r s
other_load_alike a r s h = points a (pointer_in (other_ar a) r) (pointer_in (other_ar a) s) r s (pointer_same (other_ar a) r s h.0)

pub pointer_load_alike : (a : Ar) (r s : RegisterValues) → AreSame (register_of a ∷ reg.Accu1 ∷ []) r s → RowAlike (pointer_loaded a) r s
pointer_load_alike a r s h = loads (pointer_in a r) (pointer_in a s) r s (pointer_same a r s h.0) h.1

pub other_store_alike : (a : Ar) (r s : RegisterValues) → AreSame (register_of a ∷ []) r s → RowAlike (other_stored a) r s
other_store_alike a r s h = points (other_ar a) (pointer_in a r) (pointer_in a s) r s (pointer_same a r s h.0)

pub car_alike : (r s : RegisterValues) → AreSame (reg.Ar1 ∷ reg.Ar2 ∷ []) r s → RowAlike pointers_exchanged r s
car_alike r s h reg.Ar1 = is_same h.1.0
car_alike r s h reg.Ar2 = is_same h.0
car_alike r s h q = is_kept refl refl

not_moved : (p : ℕ) → p ≡ pointer_plus p (pos 0)
not_moved p = grind (arith, ints)

keeps_pointer : (a : Ar) (p q : ℕ) (r s : RegisterValues) → pointer_in a r ≡ p → pointer_in a s ≡ q → Alike r s (with_pointer a p r) (with_pointer a q s)
keeps_pointer ar.One p q r s e f reg.Ar1 = is_kept e f
keeps_pointer ar.One p q r s e f x = is_kept refl refl
keeps_pointer ar.Two p q r s e f reg.Ar2 = is_kept e f
keeps_pointer ar.Two p q r s e f x = is_kept refl refl

pub move_alike : (a : Ar) (amount : Option ℕ) (r s : RegisterValues) → AreSame (moved_by a amount) r s → RowAlike (pointer_moved a amount) r s
move_alike a None r s h =
    points a (pointer_plus (pointer_in a r) (amount_to_add None r)) (pointer_plus (pointer_in a s) (amount_to_add None s)) r s
    (λ i. pointer_plus (pointer_same a r s h.0 i) (signed_part width.Word (h.1.0 i)))
move_alike a (Some offset) r s h = by (offset == 0) refl h
  where
    by : (b : Bool) → (offset == 0) ≡ b → AreSame (if b then [] else register_of a ∷ []) r s → RowAlike (pointer_moved a (Some offset)) r s
    by true zero none =
        let nothing : offset ≡ 0 = eqb-true offset 0 zero in
        keeps_pointer a (pointer_plus (pointer_in a r) (pos offset)) (pointer_plus (pointer_in a s) (pos offset)) r s
        (not_moved (pointer_in a r) ∙ ap (λ n. pointer_plus (pointer_in a r) (pos n)) (sym nothing))
        (not_moved (pointer_in a s) ∙ ap (λ n. pointer_plus (pointer_in a s) (pos n)) (sym nothing))
    by false some one =
        points a (pointer_plus (pointer_in a r) (pos offset)) (pointer_plus (pointer_in a s) (pos offset)) r s
        (λ i. pointer_plus (pointer_same a r s one.0 i) (pos offset))

-- Arithmetic and comparisons

-- a result in ACCU1, with the flags that show it
results : (m n : ℕ) (v : ℤ) (over : Bool) (r s : RegisterValues) → m ≡ n → IsSame reg.Os r s
    → Alike r s (record r { accu1 = m; status = after_signed v over r.status }) (record s { accu1 = n; status = after_signed v over s.status })
results m n v over r s e h reg.Accu1 = is_same e
results m n v over r s e h reg.Cc1 = is_same refl
results m n v over r s e h reg.Cc0 = is_same refl
results m n v over r s e h reg.Ov = is_same refl
results m n v over r s e h reg.Os = is_same (λ i. h i || over)
results m n v over r s e h q = is_kept refl refl

zero_divisor : (r s : RegisterValues) → Alike r s (record r { status = after_zero_divisor r.status }) (record s { status = after_zero_divisor s.status })
zero_divisor r s reg.Cc1 = is_same refl
zero_divisor r s reg.Cc0 = is_same refl
zero_divisor r s reg.Ov = is_same refl
zero_divisor r s reg.Os = is_same refl
zero_divisor r s q = is_kept refl refl

divides : (zero : Bool) (r s after_r after_s : RegisterValues) → Alike r s after_r after_s
    → Alike r s (if zero then record r { status = after_zero_divisor r.status } else after_r)
    (if zero then record s { status = after_zero_divisor s.status } else after_s)
divides true r s after_r after_s h = zero_divisor r s
divides false r s after_r after_s h = h

pub in_part : (w : Width) (z : ℤ) (r s : RegisterValues) → IsSame reg.Accu1 r s → IsSame reg.Os r s → RowAlike (result_in w z) r s
in_part w z r s h os =
    results (with_number w r.accu1 z) (with_number w s.accu1 z) (wrapped (bits_wide w) z) (is_over (bits_wide w) z) r s (λ i. with_number w (h i) z) os

in_whole : (n : ℕ) (v : ℤ) (over : Bool) (r s : RegisterValues) → IsSame reg.Os r s
    → RowAlike (λ t. record t { accu1 = n; status = after_signed v over t.status }) r s
in_whole n v over r s os = results n n v over r s refl os

of_numbers : (a : Arith) (x y : ℤ) (r s : RegisterValues) → IsSame reg.Accu1 r s → IsSame reg.Os r s → RowAlike (arithmetic_of_numbers a x y) r s
of_numbers row.AddI x y r s h os = in_part width.Word (x +ℤ y) r s h os
of_numbers row.SubI x y r s h os = in_part width.Word (x -ℤ y) r s h os
of_numbers row.MulI x y r s h os = in_whole (pattern 32 (x *ℤ y)) (x *ℤ y) (is_over 16 (x *ℤ y)) r s os
of_numbers row.DivI x y r s h os =
    let q : ℤ = int_div x y in
    divides (int_eq y (pos 0)) r s (both_in_words x y r) (both_in_words x y s)
    (in_whole (pattern 16 (int_rem x y) * 2 ^ 16 + pattern 16 q) q (is_over 16 q) r s os)
of_numbers row.AddD x y r s h os = in_part width.Dword (x +ℤ y) r s h os
of_numbers row.SubD x y r s h os = in_part width.Dword (x -ℤ y) r s h os
of_numbers row.MulD x y r s h os = in_whole (pattern 32 (x *ℤ y)) (x *ℤ y) (is_over 32 (x *ℤ y)) r s os
of_numbers row.DivD x y r s h os =
    let q : ℤ = int_div x y in
    divides (int_eq y (pos 0)) r s (quotient_in_dword x y r) (quotient_in_dword x y s) (in_whole (pattern 32 q) q (is_over 32 q) r s os)
of_numbers row.Mod x y r s h os =
    let q : ℤ = int_rem x y in
    divides (int_eq y (pos 0)) r s (remainder_in_dword x y r) (remainder_in_dword x y s) (in_whole (pattern 32 q) q false r s os)

pub calculate_alike : (a : Arith) (r s : RegisterValues) → AreSame (reg.Accu1 ∷ reg.Accu2 ∷ reg.Os ∷ []) r s → RowAlike (after_arithmetic a) r s
calculate_alike a r s h =
    let w : Width = width_of_arith a in
    let x : ℤ = signed_part w r.accu2 in
    let y : ℤ = signed_part w r.accu1 in
    let e : arithmetic_of_numbers a x y s ≡ after_arithmetic a s = λ i. arithmetic_of_numbers a (signed_part w (h.1.0 i)) (signed_part w (h.0 i)) s in
    subst (Alike r s (after_arithmetic a r)) e (of_numbers a x y r s h.0 h.1.1.0)

compares : (t : Test) (x y : ℤ) (r s : RegisterValues) → RowAlike (compared_numbers t x y) r s
compares t x y r s reg.Rlo = is_same refl
compares t x y r s reg.Cc1 = is_same refl
compares t x y r s reg.Cc0 = is_same refl
compares t x y r s reg.Ov = is_same refl
compares t x y r s reg.Orb = is_same refl
compares t x y r s reg.Sta = is_same refl
compares t x y r s reg.Nfc = is_same refl
compares t x y r s q = is_kept refl refl

pub compare_alike : (t : Test) (w : Width) (r s : RegisterValues) → AreSame (reg.Accu1 ∷ reg.Accu2 ∷ []) r s → RowAlike (after_comparison t w) r s
compare_alike t w r s h =
    let x : ℤ = signed_part w r.accu2 in
    let y : ℤ = signed_part w r.accu1 in
    let e : compared_numbers t x y s ≡ after_comparison t w s = λ i. compared_numbers t (signed_part w (h.1.0 i)) (signed_part w (h.0 i)) s in
    subst (Alike r s (after_comparison t w r)) e (compares t x y r s)
