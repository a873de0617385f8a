-- The status word as a number. Which bit is which, and the six that are loaded and stored.
-- Held against: the manual's chapter 'Load and Transfer'.
use Rattle.std.specs.Prelude.{ℕ, ◌+◌, ◌*◌, ◌^◌, ◌==◌, Bool}
use Rattle.std.specs.Int.{bit_at, from_bool}
use Rattle.status_word.specs.StatusBits.{StatusBits}
use Rattle.status_word.specs.declared.status.Status.{Status}
use Rattle.status_word.specs.declared.test.Flag.{Flag}
use Rattle.status_word.specs.declared.test.Flag.TheVariants as flag

-- the number of each flag's bit, counted from the lowest, from 0
abbrev pub place : Flag → ℕ
place flag.Nfc = 0
place flag.Rlo = 1
place flag.Sta = 2
place flag.Orb = 3
place flag.Os = 4
place flag.Ov = 5
place flag.Cc0 = 6
place flag.Cc1 = 7
place flag.Br = 8

-- whether a number has the bit of a flag
unfoldable pub has_bit : ℕ → Flag → Bool
has_bit n f = bit_at n (place f) == 1

-- the truth values of a number
unfoldable pub bits_of : ℕ → StatusBits
bits_of n =
    record {
      nfc = has_bit n flag.Nfc;
      rlo = has_bit n flag.Rlo;
      sta = has_bit n flag.Sta;
      orb = has_bit n flag.Orb;
      os = has_bit n flag.Os;
      ov = has_bit n flag.Ov;
      cc0 = has_bit n flag.Cc0;
      cc1 = has_bit n flag.Cc1;
      br = has_bit n flag.Br;
    }

-- the truth values of a status word
abbrev pub bits : Status → StatusBits
bits s = bits_of s.0

-- a flag of some status bits
abbrev pub flag_of : Flag → StatusBits → Bool
flag_of flag.Nfc s = s.nfc
flag_of flag.Rlo s = s.rlo
flag_of flag.Sta s = s.sta
flag_of flag.Orb s = s.orb
flag_of flag.Os s = s.os
flag_of flag.Ov s = s.ov
flag_of flag.Cc0 s = s.cc0
flag_of flag.Cc1 s = s.cc1
flag_of flag.Br s = s.br

-- the status bits with another value of a flag
abbrev pub with_flag : Flag → Bool → StatusBits → StatusBits
with_flag flag.Nfc v s = record s { nfc = v }
with_flag flag.Rlo v s = record s { rlo = v }
with_flag flag.Sta v s = record s { sta = v }
with_flag flag.Orb v s = record s { orb = v }
with_flag flag.Os v s = record s { os = v }
with_flag flag.Ov v s = record s { ov = v }
with_flag flag.Cc0 v s = record s { cc0 = v }
with_flag flag.Cc1 v s = record s { cc1 = v }
with_flag flag.Br v s = record s { br = v }

-- the word that L STW loads: the bits 1, 4, 5, 6, 7 and 8, at their places
abbrev pub word_of : StatusBits → ℕ
word_of s =
    from_bool s.rlo * 2 ^ 1 + from_bool s.os * 2 ^ 4 + from_bool s.ov * 2 ^ 5
    + from_bool s.cc0 * 2 ^ 6 + from_bool s.cc1 * 2 ^ 7
    + from_bool s.br * 2 ^ 8

-- the status bits after T STW: six flags are those of a word, the others are kept
abbrev pub from_word : StatusBits → StatusBits → StatusBits
from_word w s = record s { rlo = w.rlo; os = w.os; ov = w.ov; cc0 = w.cc0; cc1 = w.cc1; br = w.br }
