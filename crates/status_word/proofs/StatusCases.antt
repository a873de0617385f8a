-- Rows on the status bits, held against worked ones by computing them.
use Rattle.std.specs.Prelude.{◌≡◌, refl, Bool, true, false, pos, negsuc}
use Rattle.s7_base.specs.declared.check.Check.TheVariants as check
use Rattle.status_word.specs.Flags.{bits_of, from_word, has_bit, word_of}
use Rattle.status_word.specs.Results.{after_compared, after_converted, after_shifted, after_signed, after_zero_divisor}
use Rattle.status_word.specs.StatusBits.{StatusBits, all_clear, after_check, after_close, after_edge, after_jump, after_open, after_or, after_store, after_end, entry_of}

-- the bits with /FC, RLO, STA and OR as given, the others as they are where none is changed
abbrev logic : Bool → Bool → Bool → Bool → StatusBits → StatusBits
logic nfc rlo sta orb s = record s { nfc = nfc; rlo = rlo; sta = sta; orb = orb }

-- a first check takes the bit alone, whatever the RLO is
first_and : (s : StatusBits) → after_check check.A true (logic false false false false s) ≡ logic true true true false s
first_and s = refl

first_or : (s : StatusBits) → after_check check.O false (logic false true false false s) ≡ logic true false false false s
first_or s = refl

first_exclusive : (s : StatusBits) → after_check check.Xn false (logic false true false false s) ≡ logic true true false false s
first_exclusive s = refl

-- a further check combines it with the RLO
further_and : (s : StatusBits) → after_check check.An true (logic true true false false s) ≡ logic true false true false s
further_and s = refl

further_or : (s : StatusBits) → after_check check.On true (logic true true false false s) ≡ logic true true true false s
further_or s = refl

further_exclusive : (s : StatusBits) → after_check check.X true (logic true true false false s) ≡ logic true false true false s
further_exclusive s = refl

-- an AND keeps OR and takes it into the RLO; the others clear it
and_takes_or : (s : StatusBits) → after_check check.A false (logic true false false true s) ≡ logic true true false true s
and_takes_or s = refl

or_clears_or : (s : StatusBits) → after_check check.O false (logic true false false true s) ≡ logic true false false false s
or_clears_or s = refl

-- STA is the bit that was written, and the RLO stays
assigned : (s : StatusBits) → after_store true (logic true true false true s) ≡ logic false true true false s
assigned s = refl

-- the end of a block clears OS, and leaves the RLO and the condition codes
ended : after_end (record all_clear { nfc = true; rlo = true; orb = true; os = true; cc1 = true; br = true })
    ≡ record all_clear { rlo = true; sta = true; cc1 = true; br = true }
ended = refl

-- an AND before an OR: what is true stays so through the AND behind it
kept_in_or : (s : StatusBits) → after_or (logic true true false false s) ≡ logic false true true true s
kept_in_or s = refl

nothing_before_or : (s : StatusBits) → after_or (logic false true false false s) ≡ logic false true true false s
nothing_before_or s = refl

taken_behind_or : (s : StatusBits) → after_check check.A false (logic false true true true s) ≡ logic true true false true s
taken_behind_or s = refl

-- a bracket in which the RLO is 1 is checked as a bit that is 1, with RLO, OR and /FC as they were before it
opened : (s : StatusBits) → after_open (logic true true false true s) ≡ logic false true true false s
opened s = refl

closed_and : (s : StatusBits) → after_close (entry_of check.A (logic true false false true s)) (logic true true true false s) ≡ logic true true true true s
closed_and s = refl

closed_first_and : (s : StatusBits) → after_close (entry_of check.A (logic false false false false s)) (logic true true true false s)
    ≡ logic true true true false s
closed_first_and s = refl

closed_exclusive : (s : StatusBits) → after_close (entry_of check.X (logic true true false true s)) (logic true true true true s)
    ≡ logic true false true false s
closed_exclusive s = refl

closed_first_exclusive : (s : StatusBits) → after_close (entry_of check.X (logic false true false false s)) (logic true true true true s)
    ≡ logic true true true false s
closed_first_exclusive s = refl

-- an edge is there once
rising : (s : StatusBits) → after_edge true false (logic false true false true s) ≡ logic true true true false s
rising s = refl

risen : (s : StatusBits) → after_edge true true (logic false true false true s) ≡ logic true false false false s
risen s = refl

falling : (s : StatusBits) → after_edge false true (logic false false false true s) ≡ logic true true true false s
falling s = refl

fallen : (s : StatusBits) → after_edge false false (logic false false false true s) ≡ logic true false false false s
fallen s = refl

jumped : (s : StatusBits) → after_jump (logic true false false true s) ≡ logic false true true false s
jumped s = refl

-- The status word as it is loaded after one instruction, from all zero

-- -7 modulo 3 is -1
remainder : word_of (after_signed (negsuc 0) false all_clear) ≡ 0x40
remainder = refl

-- 1000 in BCD has no room in three digits
too_large : word_of (after_converted true all_clear) ≡ 0x30
too_large = refl

-- 200 times 200 has no room in a word
product : word_of (after_signed (pos 40000) true all_clear) ≡ 0xB0
product = refl

-- a one goes out to the right
one_out : word_of (after_shifted true all_clear) ≡ 0x80
one_out = refl

-- 5 is greater than 3
greater : word_of (after_compared (pos 5) (pos 3) true all_clear) ≡ 0x82
greater = refl

-- -32768 negated is itself
least : word_of (after_signed (negsuc 32767) true all_clear) ≡ 0x70
least = refl

by_zero : word_of (after_zero_divisor all_clear) ≡ 0xF0
by_zero = refl

-- of a word whose bits are all set, six are loaded again
all_set : word_of (from_word (bits_of 0xFFFF) all_clear) ≡ 0x1F2
unfolding bits_of has_bit
all_set = refl
