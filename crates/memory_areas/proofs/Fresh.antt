-- A new memory is one of its data blocks.
use Rattle.std.proofs.Common.{◌≡◌, ℕ, ◌+◌, ◌^◌, ◌<◌, List, [], ◌∷◌, ◌++◌, length, get_or, map, take, Vec, Global, refl, sym, ap, ◌∙◌, subst, arith}
use Rattle.std.specs.Prelude.{All, replicate}
use Rattle.std.proofs.lemmas.List.{length-replicate, map-append, take_more}
use Rattle.std.proofs.lemmas.List.Elements.{All-append, All-cons, All-head, All-more, All-nil, All-replicate, All-tail}
use Rattle.memory_areas.specs.Areas.{Contents, IsArea, IsMemoryOf, Match, fresh, numbers_of}
use Rattle.memory_areas.specs.Memory.{HasBytes}
use Rattle.memory_areas.specs.declared.data_block.DataBlock.{DataBlock}
use Rattle.memory_areas.specs.declared.sizes.TheConstants.{INPUT_BYTES, OUTPUT_BYTES, MARKER_BYTES}
use Rattle.memory_areas.proofs.Blocks.{items_of}

-- the bytes of one block more
pub stored_more : (blocks : List DataBlock) (i : ℕ) (block : DataBlock) (stored after : List (Vec ℕ Global)) (new : Vec ℕ Global)
    → i < length blocks → block ≡ get_or blocks i block
    → after ≡ stored ++ new ∷ [] → new.items ≡ block.bytes → items_of stored ≡ map (λ (b : DataBlock). b.bytes) (take i blocks)
    → items_of after ≡ map (λ (b : DataBlock). b.bytes) (take (i + 1) blocks)
stored_more blocks i block stored after new h is e f g =
    let bytes : DataBlock → List ℕ = λ b. b.bytes in
    let one : new.items ≡ bytes (get_or blocks i block) = f ∙ ap bytes is in
    ap items_of e
    ∙ map-append (λ (b : Vec ℕ Global). b.items) stored (new ∷ [])
    ∙ ap (λ xs. xs ++ new.items ∷ []) g
    ∙ ap (λ x. map bytes (take i blocks) ++ x ∷ []) one
    ∙ sym (map-append bytes (take i blocks) (get_or blocks i block ∷ []))
    ∙ ap (map bytes) (sym (take_more blocks i block h))

pub bytes_more : (blocks : List DataBlock) (i : ℕ) (block : DataBlock) → i < length blocks
    → block ≡ get_or blocks i block → HasBytes block → All HasBytes (take i blocks) → All HasBytes (take (i + 1) blocks)
bytes_more blocks i block h is small before = All-more HasBytes blocks i block h before (subst HasBytes is small)

-- numbers of 16 bits, and one more of them
pub one_number_more : (ns : List ℕ) (n : ℕ) → All (λ (k : ℕ). k < 2 ^ 16) ns → n < 2 ^ 16 → All (λ (k : ℕ). k < 2 ^ 16) (ns ++ (n ∷ []))
one_number_more ns n all h = All-append (λ (k : ℕ). k < 2 ^ 16) ns (n ∷ []) all (All-cons (λ (k : ℕ). k < 2 ^ 16) n [] h (All-nil (λ (k : ℕ). k < 2 ^ 16)))

-- the numbers of one block more
pub numbers_more : (blocks : List DataBlock) (i : ℕ) (block : DataBlock) (numbers after : List ℕ) → i < length blocks → block ≡ get_or blocks i block
    → after ≡ numbers ++ block.number ∷ [] → numbers ≡ numbers_of (take i blocks) → after ≡ numbers_of (take (i + 1) blocks)
numbers_more blocks i block numbers after h is e f =
    let number : DataBlock → ℕ = λ b. b.number in
    e ∙ ap (λ ns. ns ++ block.number ∷ []) f ∙ ap (λ (b : DataBlock). map number (take i blocks) ++ b.number ∷ []) is
    ∙ sym (map-append number (take i blocks) (get_or blocks i block ∷ []))
    ∙ ap (map number) (sym (take_more blocks i block h))

-- an area of zeros
zeros : (size : ℕ) → IsArea size (replicate size 0)
zeros size = record { sized = length-replicate size 0; bytes = All-replicate (λ b. b < 256) size 0 (omega arith) }

match_same : (blocks : List DataBlock) → All HasBytes blocks → Match blocks blocks
match_same [] a = tt
match_same (b ∷ bs) a = (refl, record { sized = refl; bytes = All-head HasBytes b bs a }, match_same bs (All-tail HasBytes b bs a))

pub memory_fresh : (blocks : List DataBlock) (m : Contents) → m ≡ fresh blocks → All HasBytes blocks → IsMemoryOf blocks m.areas
memory_fresh blocks m e a =
    subst (λ (x : Contents). IsMemoryOf blocks x.areas) (sym e)
    (record { inputs = zeros INPUT_BYTES; outputs = zeros OUTPUT_BYTES; markers = zeros MARKER_BYTES; matching = match_same blocks a })
