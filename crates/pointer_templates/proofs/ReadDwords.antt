-- A double word that is read has 32 bits, where each area holds bytes.
use Rattle.std.proofs.Common.{◌≡◌, ℕ, zero, suc, ◌+◌, ◌%◌, ◌^◌, ◌<◌, pos, List, [], ◌∷◌, Option, Some, None, Result, Ok, ap, ◌∙◌, arith}
use Rattle.std.specs.Prelude.{All}
use Rattle.std.proofs.lemmas.List.Elements.{All-head, All-tail}
use Rattle.memory_areas.specs.Access.{HoldsBytes, aim_of_place, and_then, bytes_there, fault_of, read_dword, unless}
use Rattle.memory_areas.specs.Areas.{Contents, byte_at, dword_at}
use Rattle.memory_areas.specs.declared.place.Place.{Place}
use Rattle.template_parts.proofs.Pointers.{dword}
use Rattle.s7_base.specs.declared.outcome.Fault.{Fault}
use Rattle.s7_base.specs.declared.word.Width.TheVariants as width
use Rattle.st_tree.specs.Values.{typed}
use Rattle.st_tree.specs.declared.expr.StType.TheVariants as type

abbrev IsByte : ℕ → Type 0
IsByte b = b < 256

byte_fits : (bytes : List ℕ) (i : ℕ) → All IsByte bytes → byte_at bytes i < 256
byte_fits [] i h = omega arith
byte_fits (b ∷ bs) zero h = All-head IsByte b bs h
byte_fits (b ∷ bs) (suc i) h = byte_fits bs i (All-tail IsByte b bs h)

dword_fits : (bytes : List ℕ) (i : ℕ) → All IsByte bytes → dword_at bytes i < 2 ^ 32
dword_fits bytes i h = omega (arith, byte_fits bytes i h, byte_fits bytes (i + 1) h, byte_fits bytes (i + 2) h, byte_fits bytes (i + 3) h)

reached_fits : (fault : Option Fault) (bytes : List ℕ) (i v : ℕ) → All IsByte bytes
    → and_then (unless fault bytes) (λ (reached : List ℕ). Ok (dword_at reached i)) ≡ Ok v → v < 2 ^ 32
reached_fits None bytes i v h e = let same : dword_at bytes i ≡ v = cc in omega (arith, dword_fits bytes i h)
reached_fits (Some f) bytes i v h e = absurd cc

pub pointer_fits : (p : Place) (m : Contents) (v : ℕ) → HoldsBytes m → read_dword p m ≡ Ok v → v < 2 ^ 32
pointer_fits p m v h e = reached_fits (fault_of (aim_of_place p) width.Dword m) (bytes_there (Some p.area) m) p.byte v (h p.area) e

-- and is that as a value
pub pointer_read : (r : Result ℕ Fault) (v : ℕ) → v < 2 ^ 32 → r ≡ Ok v → and_then r (λ n. Ok (typed type.Dword (pos n))) ≡ Ok (dword v)
pointer_read r v h e =
    let same : v % 2 ^ 32 ≡ v = omega arith in
    ap (λ (q : Result ℕ Fault). and_then q (λ n. Ok (typed type.Dword (pos n)))) e ∙ ap (λ (n : ℕ). Ok (dword n)) same
