-- Writes keep that each area holds bytes.
use Rattle.st_tree.proofs.Common.{◌≡◌, ℕ, zero, suc, ◌+◌, ◌<◌, ◌/◌, ◌%◌, ◌^◌, Bool, true, false, cond, ◌==◌, nat_lt, if◌then◌else◌, List, [], ◌∷◌, ◌++◌, length, get_or, take, drop, slice_get, slice_set, All, Option, Some, None, Result, Ok, Err, refl, arith, nat_tests, All-cons, All-head, All-nil, All-replicate, All-tail, aim_of_place, and_then, bytes_there, bytes_wide, fault_of, first_fault, is_closed, is_missing, or_none, unless, Contents, block_of, bytes_in, zero_locals, DataBlock, Area, Place, Fault, Width, HoldsBytes, write_place, Value, is_set, pattern, StType}
use Rattle.std.proofs.lemmas.List.Elements.{All-append, All-drop, All-take}
use Rattle.memory_areas.specs.Access.{write_bytes, bytes_for_access}
use Rattle.memory_areas.specs.Areas.{byte_at, byte_with, bytes_of_dword, bytes_of_word, with_zero_activation, overwrite, with_block, with_bytes}
use Rattle.memory_areas.specs.declared.place.Area.TheVariants as area
use Rattle.memory_areas.specs.declared.sizes.TheConstants.{LOCAL_BYTES}
use Rattle.s7_base.specs.declared.outcome.Fault.TheVariants.{Alignment, AreaCode, AreaLength, DbMissing, DbNotOpen}
use Rattle.s7_base.specs.declared.word.Width.TheVariants as width
use Rattle.st_tree.specs.declared.expr.StType.TheVariants as type
use Rattle.st_tree.proofs.FittingValues.{pattern_below}

abbrev IsByte : ℕ → Type 0
IsByte b = b < 256

-- these are bytes
abbrev pub AreBytes : List ℕ → Type 0
AreBytes bytes = All IsByte bytes

one_more : (b : ℕ) (bs : List ℕ) → b < 256 → AreBytes bs → AreBytes (b ∷ bs)
one_more b bs h rest = All-cons IsByte b bs h rest

byte_small : (bytes : List ℕ) (i : ℕ) → AreBytes bytes → get_or bytes i 0 < 256
byte_small [] i h = omega arith
byte_small (b ∷ bs) zero h = All-head IsByte b bs h
byte_small (b ∷ bs) (suc i) h = byte_small bs i (All-tail IsByte b bs h)

-- Areas

in_list : (xs : List (List ℕ)) (d e : ℕ) (new : List ℕ) → AreBytes new → AreBytes (or_none (slice_get xs e))
    → AreBytes (or_none (slice_get (slice_set xs d new) e))
in_list (x ∷ xs) zero zero new small h = small
in_list (x ∷ xs) (suc d) (suc e) new small h = in_list xs d e new small h
in_list xs d e new small h = h

in_block : (t u : Bool) (n k : ℕ) (new : List ℕ) (b : DataBlock) (bs : List DataBlock) → (b.number == k) ≡ u
    → AreBytes new → AreBytes (or_none (bytes_in (cond u (Some b) (block_of k bs))))
    → (AreBytes (or_none (bytes_in (block_of k bs))) → AreBytes (or_none (bytes_in (block_of k (with_block n new bs)))))
    → AreBytes
    (or_none (bytes_in (block_of k (if t then record b { bytes = new } ∷ bs else b ∷ with_block n new bs))))
in_block true true n k new b bs e small h rest = rw e small
in_block true false n k new b bs e small h rest = rw e h
in_block false true n k new b bs e small h rest = rw e h
in_block false false n k new b bs e small h rest = rw e (rest h)

in_blocks : (n k : ℕ) (new : List ℕ) (bs : List DataBlock) → AreBytes new
    → AreBytes (or_none (bytes_in (block_of k bs))) → AreBytes (or_none (bytes_in (block_of k (with_block n new bs))))
in_blocks n k new [] small h = h
in_blocks n k new (b ∷ bs) small h =
    in_block (b.number == n) (b.number == k) n k new b bs refl small h (in_blocks n k new bs small)

with_bytes_holds : (a : Area) (new : List ℕ) (m : Contents) → HoldsBytes m → AreBytes new
    → HoldsBytes (with_bytes a new m)
with_bytes_holds area.I new m h small area.I = small
with_bytes_holds area.Q new m h small area.Q = small
with_bytes_holds area.M new m h small area.M = small
with_bytes_holds (area.Local d) new m h small (area.Local e) = in_list m.locals d e new small (h (area.Local e))
with_bytes_holds (area.Cell d) new m h small (area.Cell e) = in_list m.cells d e new small (h (area.Cell e))
with_bytes_holds (area.Db n) new m h small (area.Db k) = in_blocks n k new m.areas.blocks small (h (area.Db k))
with_bytes_holds a new m h small b = h b

pub zeros_small : AreBytes zero_locals
zeros_small = All-replicate IsByte LOCAL_BYTES 0 (omega arith)

pub cleared_holds : (d : ℕ) (m : Contents) → HoldsBytes m → HoldsBytes (with_zero_activation d m)
cleared_holds d m h (area.Local e) = in_list m.locals d e zero_locals zeros_small (h (area.Local e))
cleared_holds d m h (area.Cell e) = in_list m.cells d e zero_locals zeros_small (h (area.Cell e))
cleared_holds d m h a = h a

-- Writes

-- the memory after a write, if there is one, holds bytes
abbrev pub AfterHolds : Result Contents Fault → Type 0
AfterHolds (Ok m) = HoldsBytes m
AfterHolds (Err f) = Unit {0}

all_replaced : (bytes : List ℕ) (i : ℕ) (new : List ℕ) → AreBytes bytes → AreBytes new
    → AreBytes (overwrite bytes i new)
all_replaced bytes i new all small =
    All-append IsByte (take i bytes ++ new) (drop (i + length new) bytes)
    (All-append IsByte (take i bytes) new (All-take IsByte i bytes all) small)
    (All-drop IsByte (i + length new) bytes all)

put_holds : (p : Place) (w : Width) (new : List ℕ → List ℕ) (m : Contents) → HoldsBytes m
    → (fault_of (aim_of_place p) w m ≡ None → (bytes : List ℕ) → AreBytes bytes → AreBytes (new bytes))
    → AfterHolds (and_then (bytes_for_access p w m) (λ bytes. Ok (write_bytes p bytes (new bytes) m)))
put_holds p w new m h f = by (fault_of (aim_of_place p) w m) refl
  where
    by : (o : Option Fault) → fault_of (aim_of_place p) w m ≡ o
        → AfterHolds (and_then (unless o (bytes_there (Some p.area) m)) (λ bytes. Ok (write_bytes p bytes (new bytes) m)))
    by None e =
        let bytes = bytes_there (Some p.area) m in
        with_bytes_holds p.area (overwrite bytes p.byte (new bytes)) m h
        (all_replaced bytes p.byte (new bytes) (h p.area) (f e bytes (h p.area)))
    by (Some fault) e = tt

-- a test that is passed
aligned : (a b c d e : Bool) (u v w x y : Fault)
    → first_fault ((a, u) ∷ (b, v) ∷ (c, w) ∷ (d, x) ∷ (e, y) ∷ []) ≡ None → d ≡ false
aligned false false false false e u v w x y h = refl
aligned a b c d e u v w x y h = cc

bit_aligned : (p : Place) (m : Contents) → fault_of (aim_of_place p) width.Bit m ≡ None → nat_lt 7 p.bit ≡ false
bit_aligned p m none =
    aligned (is_closed (Some p.area)) (is_missing (Some p.area) m) false (nat_lt 7 p.bit)
    (nat_lt (length (bytes_there (Some p.area) m)) (p.byte + bytes_wide width.Bit))
    DbNotOpen DbMissing AreaCode Alignment AreaLength none

bit_small : (b x : ℕ) (v : Bool) → b < 256 → nat_lt 7 x ≡ false → byte_with b x v < 256
bit_small b zero v h k = grind arith
bit_small b (suc zero) v h k = grind arith
bit_small b (suc (suc zero)) v h k = grind arith
bit_small b (suc (suc (suc zero))) v h k = grind arith
bit_small b (suc (suc (suc (suc zero)))) v h k = grind arith
bit_small b (suc (suc (suc (suc (suc zero))))) v h k = grind arith
bit_small b (suc (suc (suc (suc (suc (suc zero)))))) v h k = grind arith
bit_small b (suc (suc (suc (suc (suc (suc (suc zero))))))) v h k = grind arith
bit_small b (suc (suc (suc (suc (suc (suc (suc (suc x)))))))) v h k = absurd (grind (arith, nat_tests))

bit_holds : (p : Place) (v : Bool) (m : Contents) → HoldsBytes m
    → AfterHolds
    (and_then (bytes_for_access p width.Bit m) (λ bytes. Ok (write_bytes p bytes (byte_with (byte_at bytes p.byte) p.bit v ∷ []) m)))
bit_holds p v m h =
    put_holds p width.Bit (λ bytes. byte_with (byte_at bytes p.byte) p.bit v ∷ []) m h
    (λ none bytes all.
    one_more (byte_with (byte_at bytes p.byte) p.bit v) []
    (bit_small (byte_at bytes p.byte) p.bit v (byte_small bytes p.byte all) (bit_aligned p m none))
    (All-nil IsByte))

new_holds : (p : Place) (w : Width) (new : List ℕ) (m : Contents) → AreBytes new → HoldsBytes m
    → AfterHolds (and_then (bytes_for_access p w m) (λ bytes. Ok (write_bytes p bytes new m)))
new_holds p w new m small h = put_holds p w (λ bytes. new) m h (λ none bytes all. small)

word_small : (n : ℕ) → n < 2 ^ 16 → AreBytes (bytes_of_word n)
word_small n h = one_more (n / 256) (n % 256 ∷ []) (omega arith) (one_more (n % 256) [] (omega arith) (All-nil IsByte))

dword_small : (n : ℕ) → n < 2 ^ 32 → AreBytes (bytes_of_dword n)
dword_small n h =
    one_more (n / 2 ^ 24) (n / 2 ^ 16 % 256 ∷ n / 2 ^ 8 % 256 ∷ n % 256 ∷ []) (omega arith)
    (one_more (n / 2 ^ 16 % 256) (n / 2 ^ 8 % 256 ∷ n % 256 ∷ []) (omega arith)
    (one_more (n / 2 ^ 8 % 256) (n % 256 ∷ []) (omega arith)
    (one_more (n % 256) [] (omega arith) (All-nil IsByte))))

pub place_holds : (ty : StType) (p : Place) (v : Value) (m : Contents) → HoldsBytes m
    → AfterHolds (write_place ty p v m)
place_holds type.Bool p v m h = bit_holds p (is_set v) m h
place_holds type.Byte p v m h =
    let small = pattern_below 8 v.n in
    new_holds p width.Byte (pattern 8 v.n ∷ []) m
    (one_more (pattern 8 v.n) [] (omega (arith, small)) (All-nil IsByte)) h
place_holds type.Word p v m h =
    new_holds p width.Word (bytes_of_word (pattern 16 v.n)) m (word_small (pattern 16 v.n) (pattern_below 16 v.n)) h
place_holds type.Int p v m h =
    new_holds p width.Word (bytes_of_word (pattern 16 v.n)) m (word_small (pattern 16 v.n) (pattern_below 16 v.n)) h
place_holds ty p v m h =
    new_holds p width.Dword (bytes_of_dword (pattern 32 v.n)) m (dword_small (pattern 32 v.n) (pattern_below 32 v.n)) h
