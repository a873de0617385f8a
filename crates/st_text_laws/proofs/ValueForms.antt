-- A value that a type has is one that a token can have, as the canonical text writes it; and a place that a tree may
-- name is one that a token can have and that breaks no rule.
use Rattle.st_tree.proofs.Common.{◌≡◌, ℕ, suc, ◌+◌, ◌-◌, ◌^◌, ◌<◌, ◌≤◌, ℤ, pos, negsuc, Bool, true, false, ◌&&◌, cond, None, Some, refl, ap, subst, ◌∙◌, arith, nat_le, nat_lt, leb-true, ltb-false, ltb-true, Decides-int_eq, nat_tests, AreaName, Width, is_block_number, is_place, fit, pattern, is_value}
use Rattle.std.proofs.lemmas.Bool.{le-leb, lt-ltb}
use Rattle.memory_areas.specs.Access.{is_byte_in}
use Rattle.memory_areas.specs.declared.place.AreaName.TheVariants as area
use Rattle.s7_base.specs.declared.word.Width.TheVariants as width
use Rattle.st_text_laws.proofs.Common.{literal_form, is_literal, Literal}
use Rattle.st_grammar.specs.Grammar.{is_value as is_literal_value, label_tree, literal_tree}
use Rattle.st_tree.specs.declared.raw.RawExpr.TheVariants as raw
use Rattle.st_lexer.proofs.Words.{and_both}
use Rattle.st_lexer.proofs.Common.{greatest, is_signed, StType}
use Rattle.st_lexer.specs.Spelled as text
use Rattle.st_names.specs.Variables as rules
use Rattle.st_tree.proofs.FittingValues.{pattern_below}
use Rattle.st_tree.specs.PlaceRules.{is_bit_of}
use Rattle.st_tree.specs.declared.expr.StType.TheVariants as type

-- Values

-- a number from 0 on that is no greater than the greatest of its type
plain : (ty : StType) (n : ℕ) → n ≤ greatest ty false → text.has_value ty (pos n) ≡ true
plain ty n h = let never : nat_lt n 0 ≡ false = grind (arith, nat_tests) in rw never (le-leb n (greatest ty false) h)

-- a number of bits, none of them a sign
bits : (ty : StType) (k : ℕ) (z : ℤ) → 2 ^ k ≤ suc (greatest ty false) → pos (pattern k z) ≡ z
    → text.has_value ty z ≡ true
bits ty k z most h =
    subst (λ (n : ℤ). text.has_value ty n ≡ true) h (plain ty (pattern k z) (omega (arith, pattern_below k z)))

-- a number with a sign, of so many patterns from 0 on and as many below 0
signed : (ty : StType) (half p : ℕ) (z : ℤ) → is_signed ty ≡ true → half ≡ suc (greatest ty false)
    → half ≡ greatest ty true
    → p < half + half → (t : Bool) → nat_lt p half ≡ t → cond t (pos p) (negsuc (half + half - 1 - p)) ≡ z
    → text.has_value ty z ≡ true
signed ty half p z s most least small true e h =
    let below : p < half = ltb-true p half e in
    subst (λ (n : ℤ). text.has_value ty n ≡ true) h (plain ty p (omega (arith, most, below)))
signed ty half p z s most least small false e h =
    let above : half ≤ p = ltb-false p half e in
    subst (λ (n : ℤ). text.has_value ty n ≡ true) h
    (ap (λ b. b && nat_le (suc (half + half - 1 - p)) (greatest ty true)) s
    ∙ le-leb (suc (half + half - 1 - p)) (greatest ty true) (omega (arith, least, above, small)))

fitting : (ty : StType) (z : ℤ) → fit ty z ≡ z → text.has_value ty z ≡ true
fitting type.Bool z h = bits type.Bool 1 z (omega arith) h
fitting type.Byte z h = bits type.Byte 8 z (omega arith) h
fitting type.Word z h = bits type.Word 16 z (omega arith) h
fitting type.Dword z h = bits type.Dword 32 z (omega arith) h
fitting type.Int z h = signed type.Int 32768 (pattern 16 z) z refl refl refl (pattern_below 16 z) _ refl h
fitting type.Dint z h = signed type.Dint 2147483648 (pattern 32 z) z refl refl refl (pattern_below 32 z) _ refl h
fitting type.Lint z h =
    signed type.Lint 9223372036854775808 (pattern 64 z) z refl refl refl (pattern_below 64 z) _ refl h

-- what holds of the canonical literal of a type and a value
pub record Kept (ty : StType) (n : ℤ) (c : Literal) : Type 0 where
  pub tree : literal_tree c ≡ raw.Literal ty n
  pub label : label_tree c ≡ (ty, n)
  pub value : is_literal_value c ≡ true
  pub spelled : is_literal c ≡ true

-- a DINT from 0 on is a plain decimal, other literals have their type
literal_kept : (ty : StType) (n : ℤ) → text.has_value ty n ≡ true → Kept ty n (literal_form ty n)
literal_kept type.Dint (pos n) h =
    let never : nat_lt n 0 ≡ false = grind (arith, nat_tests) in
    let least = rw never at h in
    rw never (record { tree = refl; label = refl; value = least; spelled = least })
literal_kept type.Dint (negsuc n) h = record { tree = refl; label = refl; value = refl; spelled = h }
literal_kept ty n h = record { tree = refl; label = refl; value = refl; spelled = h }

pub kept_literal : (ty : StType) (n : ℤ) → is_value ty n ≡ true → Kept ty n (literal_form ty n)
kept_literal ty n h = literal_kept ty n (fitting ty n ((Decides-int_eq (fit ty n) n).0 h))

-- Places

-- a number that is small enough to be kept
kept : (n : ℕ) → n ≤ 65535 → text.is_kept n ≡ true
kept n h = lt-ltb n (2 ^ 32) (omega (arith, h))

-- what is known of the numbers of a place
pub record IsPlaced (a : AreaName) (w : Width) (byte bit : ℕ) : Type 0 where
  pub rules : rules.is_place a w byte bit ≡ true
  pub kept_byte : text.is_kept byte ≡ true
  pub kept_bit : text.is_bit_of w bit ≡ true

small_bit : (w : Width) (bit : ℕ) → is_bit_of w bit ≡ true → (nat_le bit 7 ≡ true) × (text.is_bit_of w bit ≡ true)
small_bit width.Bit bit h = (h, grind (arith, nat_tests))
small_bit other bit h = (grind (arith, nat_tests), h)

small_byte : (a : AreaName) (w : Width) (byte : ℕ) → is_byte_in a w byte ≡ true → byte ≤ 65535
small_byte area.I w byte h = grind (arith, nat_tests)
small_byte other w byte h = grind (arith, nat_tests)

pub placed : (a : AreaName) (w : Width) (byte bit : ℕ) → is_place a w byte bit ≡ true → IsPlaced a w byte bit
placed a w byte bit h =
    let both = and_both (is_byte_in a w byte) (is_bit_of w bit) h in
    let small = small_bit w bit both.1 in
    let byte_kept = kept byte (small_byte a w byte both.0) in
    record { rules = rw (both.0, small.0) refl; kept_byte = byte_kept; kept_bit = small.1 }

-- a token can have a place without a data block's number
pub plain_place : (a : AreaName) (w : Width) (byte bit : ℕ) → IsPlaced a w byte bit
    → text.is_place a None w byte bit ≡ true
plain_place a w byte bit p = rw (p.kept_byte, p.kept_bit) refl

-- and one with it
pub block_place : (n : ℕ) (w : Width) (byte bit : ℕ) → n ≤ 65535 → IsPlaced area.Db w byte bit
    → text.is_place area.Db (Some n) w byte bit ≡ true
block_place n w byte bit h p = rw (kept n h, p.kept_byte, p.kept_bit) refl

pub small_number : (n : ℕ) → is_block_number n ≡ true → n ≤ 65535
small_number n h = leb-true n 65535 (and_both (nat_le 1 n) (nat_le n 65535) h).1
