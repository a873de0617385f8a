-- The data blocks of a memory under their numbers.
use Rattle.std.proofs.Common.{◌≡◌, ℕ, ◌+◌, ◌≤◌, Bool, true, false, ◌==◌, if◌then◌else◌, List, [], ◌∷◌, ◌++◌, Some, refl, sym, ap, subst, ◌∙◌, arith}
use Rattle.std.specs.List.{flat_map}
use Rattle.std.proofs.lemmas.Bool.Decides.{nat_tests}
use Rattle.memory_areas.specs.Access.{or_none}
use Rattle.memory_areas.specs.Areas.{Ascend, Contents, block_of, bytes_in, numbers_of}
use Rattle.memory_areas.specs.declared.data_block.DataBlock.{DataBlock}
use Rattle.image_text.specs.inner.Fields.{numbered_text}
use Rattle.image_text.specs.Report.{block_text}

under : (n : ℕ) (m : Contents) (b : DataBlock) → b.number ≡ n → block_of n m.areas.blocks ≡ Some b → numbered_text m n ≡ block_text b
under n m b e f =
    ap (λ i. block_text (record { number = i; bytes = or_none (bytes_in (block_of n m.areas.blocks)) })) (sym e)
    ∙ ap (λ o. block_text (record { number = b.number; bytes = or_none (bytes_in o) })) f

-- each block stands under its number, where the numbers ascend
shown_from : (least : ℕ) (blocks : List DataBlock) (m : Contents) → Ascend least (numbers_of blocks)
    → ((n : ℕ) → least ≤ n → block_of n m.areas.blocks ≡ block_of n blocks)
    → flat_map (numbered_text m) (numbers_of blocks) ≡ flat_map block_text blocks
shown_from least [] m a f = refl
shown_from least (b ∷ rest) m a f =
    let here : (b.number == b.number) ≡ true = grind (arith, nat_tests) in
    let first : block_of b.number m.areas.blocks ≡ Some b = f b.number a.0 ∙ ap (λ (t : Bool). if t then Some b else block_of b.number rest) here in
    let above = a.0 in
    ap (λ xs. xs ++ flat_map (numbered_text m) (numbers_of rest)) (under b.number m b refl first)
    ∙ ap (λ xs. block_text b ++ xs) (shown_from (b.number + 1) rest m a.1 (λ n h.
    let other : (b.number == n) ≡ false = grind (arith, nat_tests) in
    f n (omega arith) ∙ ap (λ (t : Bool). if t then Some b else block_of n rest) other))

pub shown : (m : Contents) (numbers : List ℕ) → numbers ≡ numbers_of m.areas.blocks → Ascend 1 numbers
    → flat_map (numbered_text m) (numbers_of m.areas.blocks) ≡ flat_map block_text m.areas.blocks
shown m numbers e a = shown_from 1 m.areas.blocks m (subst (Ascend 1) e a) (λ n h. refl)
