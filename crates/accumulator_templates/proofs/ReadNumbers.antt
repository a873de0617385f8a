-- A number that is read at a place has the width of the place, where each area holds bytes.
use Rattle.std.proofs.Common.{◌≡◌, ℕ, zero, suc, ◌+◌, ◌^◌, ◌<◌, Bool, true, false, List, [], ◌∷◌, Option, Some, None, Result, Ok, Err, arith}
use Rattle.std.specs.Prelude.{All}
use Rattle.std.specs.Int.{from_bool}
use Rattle.std.proofs.lemmas.List.Elements.{All-head, All-tail}
use Rattle.memory_areas.specs.Access.{HoldsBytes, aim_of_place, and_then, bits_wide, bytes_there, fault_of, read_bit, unless}
use Rattle.memory_areas.specs.Areas.{Contents, byte_at, dword_at, word_at}
use Rattle.memory_areas.specs.declared.place.Place.{Place}
use Rattle.s7_base.specs.declared.outcome.Fault.{Fault}
use Rattle.s7_base.specs.declared.word.Width.{Width}
use Rattle.s7_base.specs.declared.word.Width.TheVariants as width
use Rattle.stl_tree.specs.Accumulators.{read_number}

abbrev IsByte : ℕ → Type 0
IsByte b = b < 256

byte_fits : (bytes : List ℕ) (i : ℕ) → All IsByte bytes → byte_at bytes i < 256
byte_fits [] i h = omega arith
byte_fits (b ∷ bs) zero h = All-head IsByte b bs h
byte_fits (b ∷ bs) (suc i) h = byte_fits bs i (All-tail IsByte b bs h)

word_fits : (bytes : List ℕ) (i : ℕ) → All IsByte bytes → word_at bytes i < 2 ^ 16
word_fits bytes i h = omega (arith, byte_fits bytes i h, byte_fits bytes (i + 1) h)

dword_fits : (bytes : List ℕ) (i : ℕ) → All IsByte bytes → dword_at bytes i < 2 ^ 32
dword_fits bytes i h = omega (arith, byte_fits bytes i h, byte_fits bytes (i + 1) h, byte_fits bytes (i + 2) h, byte_fits bytes (i + 3) h)

-- what is computed from bytes that were reached
computed : (fault : Option Fault) (bytes : List ℕ) (number : List ℕ → ℕ) (most v : ℕ) → number bytes < most
    → and_then (unless fault bytes) (λ (reached : List ℕ). Ok (number reached)) ≡ Ok v → v < most
computed None bytes number most v h e = let same : number bytes ≡ v = cc in omega arith
computed (Some f) bytes number most v h e = absurd cc

truth : (bit : Result Bool Fault) (v : ℕ) → and_then bit (λ (b : Bool). Ok (from_bool b)) ≡ Ok v → v < 2
truth (Ok true) v e = let same : 1 ≡ v = cc in omega arith
truth (Ok false) v e = let same : 0 ≡ v = cc in omega arith
truth (Err f) v e = absurd cc

pub number_fits : (w : Width) (p : Place) (m : Contents) (v : ℕ) → HoldsBytes m → read_number w p m ≡ Ok v → v < 2 ^ bits_wide w
number_fits width.Bit p m v h e = truth (read_bit p m) v e
number_fits width.Byte p m v h e =
    computed (fault_of (aim_of_place p) width.Byte m) (bytes_there (Some p.area) m) (λ bytes. byte_at bytes p.byte) (2 ^ 8) v
    (byte_fits (bytes_there (Some p.area) m) p.byte (h p.area)) e
number_fits width.Word p m v h e =
    computed (fault_of (aim_of_place p) width.Word m) (bytes_there (Some p.area) m) (λ bytes. word_at bytes p.byte) (2 ^ 16) v
    (word_fits (bytes_there (Some p.area) m) p.byte (h p.area)) e
number_fits width.Dword p m v h e =
    computed (fault_of (aim_of_place p) width.Dword m) (bytes_there (Some p.area) m) (λ bytes. dword_at bytes p.byte) (2 ^ 32) v
    (dword_fits (bytes_there (Some p.area) m) p.byte (h p.area)) e
