-- What follows of the definitions of the status word.
use Rattle.std.proofs.Common.{◌≡◌, ℕ, ◌+◌, ◌*◌, ◌/◌, ◌%◌, ◌^◌, ◌<◌, ◌==◌, Bool, true, false, refl, ap, ◌∙◌, arith}
use Rattle.std.specs.Int.{from_bool}
use Rattle.status_word.proofs.Packing.{got_same, got_other, same_flags}
use Rattle.status_word.specs.Flags.{bits_of, flag_of, from_word, has_bit, word_of}
use Rattle.status_word.specs.StatusBits.{StatusBits}
use Rattle.status_word.specs.StatusLaws.{PutIsGot, StoredIsLoaded, LoadedIsStored}
use Rattle.status_word.specs.declared.test.Flag.{Flag}
use Rattle.status_word.specs.declared.test.Flag.TheVariants as flag

pub put_got : PutIsGot
put_got = record { same = got_same; other = got_other }

-- six digits at the places of the status word
abbrev sum : ℕ → ℕ → ℕ → ℕ → ℕ → ℕ → ℕ
sum a b c d e f = a * 2 ^ 1 + b * 2 ^ 4 + c * 2 ^ 5 + d * 2 ^ 6 + e * 2 ^ 7 + f * 2 ^ 8

record Digits (a b c d e f : ℕ) : Type 0 where
  one : a < 2
  two : b < 2
  three : c < 2
  four : d < 2
  five : e < 2
  six : f < 2

record Found (a b c d e f : ℕ) : Type 0 where
  one : sum a b c d e f / 2 ^ 1 % 2 ≡ a
  two : sum a b c d e f / 2 ^ 4 % 2 ≡ b
  three : sum a b c d e f / 2 ^ 5 % 2 ≡ c
  four : sum a b c d e f / 2 ^ 6 % 2 ≡ d
  five : sum a b c d e f / 2 ^ 7 % 2 ≡ e
  six : sum a b c d e f / 2 ^ 8 % 2 ≡ f

digits_found : (a b c d e f : ℕ) → Digits a b c d e f → Found a b c d e f
digits_found a b c d e f are =
    let h = are.one in
    let i = are.two in
    let j = are.three in
    let k = are.four in
    let l = are.five in
    let m = are.six in
    record { one = omega arith; two = omega arith; three = omega arith; four = omega arith; five = omega arith; six = omega arith }

small : (b : Bool) → from_bool b < 2
small true = omega arith
small false = omega arith

is_one : (b : Bool) → (from_bool b == 1) ≡ b
is_one true = refl
is_one false = refl

found : (s : StatusBits) → Found (from_bool s.rlo) (from_bool s.os) (from_bool s.ov) (from_bool s.cc0) (from_bool s.cc1) (from_bool s.br)
found s =
    digits_found (from_bool s.rlo) (from_bool s.os) (from_bool s.ov) (from_bool s.cc0) (from_bool s.cc1) (from_bool s.br)
    (record { one = small s.rlo; two = small s.os; three = small s.ov; four = small s.cc0; five = small s.cc1; six = small s.br })

test_one : (n : ℕ) (b : Bool) → n ≡ from_bool b → (n == 1) ≡ b
test_one n b e = ap (λ k. k == 1) e ∙ is_one b

-- the six flags of the word that was loaded are those that were there
six_kept : (s t : StatusBits) → from_word (bits_of (word_of s)) t ≡ from_word s t
unfolding bits_of has_bit
six_kept s t = same_flags (from_word (bits_of (word_of s)) t) (from_word s t) same
  where
    same : (f : Flag) → flag_of f (from_word (bits_of (word_of s)) t) ≡ flag_of f (from_word s t)
    same flag.Nfc = refl
    same flag.Rlo = test_one _ s.rlo (found s).one
    same flag.Sta = refl
    same flag.Orb = refl
    same flag.Os = test_one _ s.os (found s).two
    same flag.Ov = test_one _ s.ov (found s).three
    same flag.Cc0 = test_one _ s.cc0 (found s).four
    same flag.Cc1 = test_one _ s.cc1 (found s).five
    same flag.Br = test_one _ s.br (found s).six

pub stored_loaded : StoredIsLoaded
stored_loaded s t = ap word_of (six_kept s t)

pub loaded_stored : LoadedIsStored
loaded_stored s = six_kept s s
