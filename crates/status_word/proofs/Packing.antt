-- What the bit operations do to the flags of a status word.
use Rattle.std.proofs.Common.{◌≡◌, ◌≢◌, ℕ, ◌-◌, ◌*◌, ◌%◌, ◌^◌, ◌<◌, ◌==◌, ◌/◌, nat_eq, Bool, true, false, [], ◌∷◌, get_or, bit_and, bit_or, refl, sym, ap, subst, ◌∙◌, arith}
use Rattle.std.specs.Int.{w16}
use Rattle.std.proofs.lemmas.Bool.Decides.{nat_tests}
use Rattle.std.proofs.lemmas.Nat.Bits.{bit_at_set_same, bit_at_set_other, bit_at_clear_same, bit_at_clear_other, shr_and_one}
use Rattle.status_word.specs.StatusBits.{StatusBits}
use Rattle.status_word.specs.Flags.{place, has_bit, bits, bits_of, flag_of, with_flag}
use Rattle.status_word.specs.declared.status.Status.{Status}
use Rattle.status_word.specs.declared.test.Flag.{Flag}
use Rattle.status_word.specs.declared.test.Flag.TheVariants as flag

-- the word has room for each flag's bit
pub place_fits : (f : Flag) → place f < 16
place_fits f = grind arith

-- a flag of a status word is its bit
pub flag_is_bit : (f : Flag) (s : Status) → flag_of f (bits s) ≡ has_bit s.0 f
unfolding bits_of
flag_is_bit flag.Nfc s = refl
flag_is_bit flag.Rlo s = refl
flag_is_bit flag.Sta s = refl
flag_is_bit flag.Orb s = refl
flag_is_bit flag.Os s = refl
flag_is_bit flag.Ov s = refl
flag_is_bit flag.Cc0 s = refl
flag_is_bit flag.Cc1 s = refl
flag_is_bit flag.Br s = refl

-- a flag that is put has the value given, and the others stay
pub got_same : (f : Flag) (v : Bool) (s : StatusBits) → flag_of f (with_flag f v s) ≡ v
got_same f v s = grind arith

pub got_other : (f g : Flag) (v : Bool) (s : StatusBits) → g ≢ f → flag_of g (with_flag f v s) ≡ flag_of g s
got_other f g v s apart = grind arith

-- a bit that is set or cleared, and the others
pub set_same : (n : ℕ) (f : Flag) → has_bit (bit_or n (1 * 2 ^ place f % 65536)) f ≡ true
unfolding has_bit
set_same n f = ap (λ b. b == 1) (bit_at_set_same w16 n (place f) (place_fits f))

pub set_other : (n : ℕ) (f g : Flag) → place g ≢ place f → has_bit (bit_or n (1 * 2 ^ place f % 65536)) g ≡ has_bit n g
unfolding has_bit
set_other n f g apart = ap (λ b. b == 1) (bit_at_set_other w16 n (place f) (place_fits f) (place g) apart)

pub clear_same : (n : ℕ) (f : Flag) → has_bit (bit_and n (65535 - 1 * 2 ^ place f % 65536)) f ≡ false
unfolding has_bit
clear_same n f = ap (λ b. b == 1) (bit_at_clear_same w16 n (place f) (place_fits f))

pub clear_other : (n : ℕ) (f g : Flag) → place g ≢ place f → has_bit (bit_and n (65535 - 1 * 2 ^ place f % 65536)) g ≡ has_bit n g
unfolding has_bit
clear_other n f g apart = ap (λ b. b == 1) (bit_at_clear_other w16 n (place f) (place_fits f) (place g) (place_fits g) apart)

-- the flags in the order of their places
abbrev flag_at : ℕ → Flag
flag_at n = get_or (flag.Nfc ∷ flag.Rlo ∷ flag.Sta ∷ flag.Orb ∷ flag.Os ∷ flag.Ov ∷ flag.Cc0 ∷ flag.Cc1 ∷ flag.Br ∷ []) n flag.Nfc

flag_at-place : (f : Flag) → flag_at (place f) ≡ f
flag_at-place f = grind arith

same_place : (f g : Flag) → place g ≡ place f → g ≡ f
same_place f g e = sym (flag_at-place g) ∙ ap flag_at e ∙ flag_at-place f

-- status bits whose flags are the same are the same
pub same_flags : (s t : StatusBits) → ((f : Flag) → flag_of f s ≡ flag_of f t) → s ≡ t
same_flags s t same =
    ap (λ b. record s { nfc = b }) (same flag.Nfc)
    ∙ ap (λ b. record s { nfc = t.nfc; rlo = b }) (same flag.Rlo)
    ∙ ap (λ b. record s { nfc = t.nfc; rlo = t.rlo; sta = b }) (same flag.Sta)
    ∙ ap (λ b. record s { nfc = t.nfc; rlo = t.rlo; sta = t.sta; orb = b }) (same flag.Orb)
    ∙ ap (λ b. record t { os = b; ov = s.ov; cc0 = s.cc0; cc1 = s.cc1; br = s.br }) (same flag.Os)
    ∙ ap (λ b. record t { ov = b; cc0 = s.cc0; cc1 = s.cc1; br = s.br }) (same flag.Ov)
    ∙ ap (λ b. record t { cc0 = b; cc1 = s.cc1; br = s.br }) (same flag.Cc0)
    ∙ ap (λ b. record t { cc1 = b; br = s.br }) (same flag.Cc1)
    ∙ ap (λ b. record t { br = b }) (same flag.Br)

-- what has the bit of one flag as given and those of the others as they were, has the flags so
pub put_bits : (f : Flag) (v : Bool) (s t : Status) → has_bit t.0 f ≡ v
    → ((g : Flag) → place g ≢ place f → has_bit t.0 g ≡ has_bit s.0 g)
    → bits t ≡ with_flag f v (bits s)
put_bits f v s t same other = same_flags (bits t) (with_flag f v (bits s)) (λ g. by_place g (place g == place f) refl)
  where
    by_place : (g : Flag) (b : Bool) → (place g == place f) ≡ b → flag_of g (bits t) ≡ flag_of g (with_flag f v (bits s))
    by_place g true e =
        let is : g ≡ f = same_place f g (grind (arith, nat_tests)) in
        subst (λ (h : Flag). flag_of h (bits t) ≡ flag_of h (with_flag f v (bits s))) (sym is) (flag_is_bit f t ∙ same ∙ sym (got_same f v (bits s)))
    by_place g false e =
        let apart : place g ≢ place f = grind (arith, nat_tests) in
        flag_is_bit g t ∙ other g apart ∙ sym (flag_is_bit g s) ∙ sym (got_other f g v (bits s) (λ same_flag. apart (ap place same_flag)))

abbrev word : ℕ → Status
word n = record { 0 = n }

pub set_bits : (n : ℕ) (f : Flag) → bits_of (bit_or n (1 * 2 ^ place f % 65536)) ≡ with_flag f true (bits_of n)
set_bits n f = put_bits f true (word n) (word (bit_or n (1 * 2 ^ place f % 65536))) (set_same n f) (λ g apart. set_other n f g apart)

pub clear_bits : (n : ℕ) (f : Flag) → bits_of (bit_and n (65535 - 1 * 2 ^ place f % 65536)) ≡ with_flag f false (bits_of n)
clear_bits n f = put_bits f false (word n) (word (bit_and n (65535 - 1 * 2 ^ place f % 65536))) (clear_same n f) (λ g apart. clear_other n f g apart)

-- the test of a flag's bit
pub get_bit : (s : Status) (f : Flag) → nat_eq (bit_and (s.0 / 2 ^ place f) 1) 1 ≡ flag_of f (bits s)
unfolding has_bit
get_bit s f = ap (λ b. b == 1) (shr_and_one s.0 (place f)) ∙ sym (flag_is_bit f s)

pub ruleset flag_laws = (place_fits, set_bits, clear_bits, get_bit)
