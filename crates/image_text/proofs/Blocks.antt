-- The data block of a number among others.
use Rattle.std.proofs.Common.{◌≡◌, ℕ, ◌+◌, ◌^◌, ◌<◌, ◌≤◌, Bool, true, false, ◌==◌, if◌then◌else◌, List, [], ◌∷◌, length, Some, None, refl, sym, ap, ◌∙◌, subst, arith}
use Rattle.std.specs.Prelude.{All}
use Rattle.std.proofs.lemmas.Bool.Decides.{nat_tests}
use Rattle.std.proofs.lemmas.List.Elements.{All-nil, All-cons, All-head, All-tail}
use Rattle.memory_areas.specs.Areas.{Ascend, IsSized, block_of, bytes_in, numbers_of, with_block}
use Rattle.memory_areas.specs.declared.data_block.DataBlock.{DataBlock}
use Rattle.memory_areas.specs.declared.sizes.TheConstants.{MOST_BLOCK_BYTES}
use Rattle.image_text.specs.inner.Fields.{IsBlock}

-- the block after a write has the bytes that were written
found_step : (n : ℕ) (x bytes : List ℕ) (b : DataBlock) (rest : List DataBlock) (t : Bool) → (b.number == n) ≡ t
    → (bytes_in (block_of n rest) ≡ Some bytes → bytes_in (block_of n (with_block n x rest)) ≡ Some x)
    → bytes_in (if t then Some b else block_of n rest) ≡ Some bytes
    → bytes_in (block_of n (if t then record b { bytes = x } ∷ rest else b ∷ with_block n x rest)) ≡ Some x
found_step n x bytes b rest true e next f = ap (λ (u : Bool). bytes_in (if u then Some (record b { bytes = x }) else block_of n rest)) e
found_step n x bytes b rest false e next f = ap (λ (u : Bool). bytes_in (if u then Some b else block_of n (with_block n x rest))) e ∙ next f

pub found_written : (n : ℕ) (x bytes : List ℕ) (blocks : List DataBlock)
    → bytes_in (block_of n blocks) ≡ Some bytes → bytes_in (block_of n (with_block n x blocks)) ≡ Some x
found_written n x bytes [] f = cc
found_written n x bytes (b ∷ rest) f = found_step n x bytes b rest (b.number == n) refl (found_written n x bytes rest) f

twice_step : (n : ℕ) (x y : List ℕ) (b : DataBlock) (rest : List DataBlock) (t : Bool)
    → (b.number == n) ≡ t → with_block n y (with_block n x rest) ≡ with_block n y rest
    → with_block n y (if t then record b { bytes = x } ∷ rest else b ∷ with_block n x rest)
    ≡ (if t then record b { bytes = y } ∷ rest else b ∷ with_block n y rest)
twice_step n x y b rest true e next = ap (λ (u : Bool). if u then record b { bytes = y } ∷ rest else record b { bytes = x } ∷ with_block n y rest) e
twice_step n x y b rest false e next =
    ap (λ (u : Bool). if u then record b { bytes = y } ∷ with_block n x rest else b ∷ with_block n y (with_block n x rest)) e ∙ ap (λ bs. b ∷ bs) next

-- the later of two writes of all bytes counts
pub written_twice : (n : ℕ) (x y : List ℕ) (blocks : List DataBlock) → with_block n y (with_block n x blocks) ≡ with_block n y blocks
written_twice n x y [] = refl
written_twice n x y (b ∷ rest) = twice_step n x y b rest (b.number == n) refl (written_twice n x y rest)

same_step : (n : ℕ) (bytes : List ℕ) (b : DataBlock) (rest : List DataBlock) (t : Bool)
    → (bytes_in (block_of n rest) ≡ Some bytes → with_block n bytes rest ≡ rest)
    → bytes_in (if t then Some b else block_of n rest) ≡ Some bytes → (if t then record b { bytes = bytes } ∷ rest else b ∷ with_block n bytes rest) ≡ b ∷ rest
same_step n bytes b rest true next f = let same : b.bytes ≡ bytes = cc in ap (λ x. record b { bytes = x } ∷ rest) (sym same)
same_step n bytes b rest false next f = ap (λ bs. b ∷ bs) (next f)

-- a write of the bytes that are there changes nothing
pub written_same : (n : ℕ) (bytes : List ℕ) (blocks : List DataBlock) → bytes_in (block_of n blocks) ≡ Some bytes → with_block n bytes blocks ≡ blocks
written_same n bytes [] f = refl
written_same n bytes (b ∷ rest) f = same_step n bytes b rest (b.number == n) (written_same n bytes rest) f

-- Numbers and sizes

-- no block has a number that none can have
pub missing : (n : ℕ) (blocks : List DataBlock) → All IsBlock blocks → ((b : DataBlock) → IsBlock b → (b.number == n) ≡ false) → block_of n blocks ≡ None
missing n [] a f = refl
missing n (b ∷ rest) a f =
    ap (λ (t : Bool). if t then Some b else block_of n rest) (f b (All-head IsBlock b rest a)) ∙ missing n rest (All-tail IsBlock b rest a) f

pub missing_zero : (blocks : List DataBlock) → All IsBlock blocks → block_of 0 blocks ≡ None
missing_zero blocks a = missing 0 blocks a (λ (b : DataBlock) (i : IsBlock b). grind (arith, nat_tests, i.least))

pub missing_past : (n : ℕ) (blocks : List DataBlock) → 2 ^ 16 ≤ n → All IsBlock blocks → block_of n blocks ≡ None
missing_past n blocks h a = missing n blocks a (λ (b : DataBlock) (i : IsBlock b). grind (arith, nat_tests, i.most))

size_step : (n : ℕ) (bytes : List ℕ) (b : DataBlock) (rest : List DataBlock) (t : Bool)
    → IsBlock b → (bytes_in (block_of n rest) ≡ Some bytes → length bytes ≤ MOST_BLOCK_BYTES)
    → bytes_in (if t then Some b else block_of n rest) ≡ Some bytes → length bytes ≤ MOST_BLOCK_BYTES
size_step n bytes b rest true i next f = let same : b.bytes ≡ bytes = cc in subst (λ x. length x ≤ MOST_BLOCK_BYTES) same i.small
size_step n bytes b rest false i next f = next f

pub small_block : (n : ℕ) (bytes : List ℕ) (blocks : List DataBlock) → All IsBlock blocks
    → bytes_in (block_of n blocks) ≡ Some bytes → length bytes ≤ MOST_BLOCK_BYTES
small_block n bytes [] a f = cc
small_block n bytes (b ∷ rest) a f =
    size_step n bytes b rest (b.number == n) (All-head IsBlock b rest a) (small_block n bytes rest (All-tail IsBlock b rest a)) f

kept_step : (n : ℕ) (x : List ℕ) (b : DataBlock) (rest : List DataBlock) (t : Bool)
    → length x ≤ MOST_BLOCK_BYTES → IsBlock b → All IsBlock rest → All IsBlock (with_block n x rest)
    → All IsBlock (if t then record b { bytes = x } ∷ rest else b ∷ with_block n x rest)
kept_step n x b rest true h i a next = All-cons IsBlock (record b { bytes = x }) rest (record { least = i.least; most = i.most; small = h }) a
kept_step n x b rest false h i a next = All-cons IsBlock b (with_block n x rest) i next

pub blocks_written : (n : ℕ) (x : List ℕ) (blocks : List DataBlock) → length x ≤ MOST_BLOCK_BYTES → All IsBlock blocks → All IsBlock (with_block n x blocks)
blocks_written n x [] h a = a
blocks_written n x (b ∷ rest) h a =
    let more = All-tail IsBlock b rest a in kept_step n x b rest (b.number == n) h (All-head IsBlock b rest a) more (blocks_written n x rest h more)

-- the data blocks that a memory may have, their numbers kept in 16 bits
pub are_blocks : (least : ℕ) (blocks : List DataBlock) → 1 ≤ least → Ascend least (numbers_of blocks)
    → All IsSized blocks → All (λ (n : ℕ). n < 2 ^ 16) (numbers_of blocks) → All IsBlock blocks
are_blocks least [] h a s n = All-nil IsBlock
are_blocks least (b ∷ rest) h a s n =
    let first = a.0 in
    let most = All-head (λ (k : ℕ). k < 2 ^ 16) b.number (numbers_of rest) n in
    let size = All-head IsSized b rest s in
    All-cons IsBlock b rest (record { least = omega arith; most = omega arith; small = size.1 })
    (are_blocks (b.number + 1) rest (omega arith) a.1 (All-tail IsSized b rest s) (All-tail (λ (k : ℕ). k < 2 ^ 16) b.number (numbers_of rest) n))
