-- A pass over a range of numbers that appends a text for each.
use Rattle.std.proofs.Common.{◌≡◌, ℕ, suc, ◌+◌, ◌-◌, ◌<◌, ◌++◌, List, flat_map, ap, ◌∙◌, arith, append_assoc}
use Rattle.std.specs.List.{range_with_len}

-- the text so far, with the texts of what is left, is the same before and behind a number
pub next_text : (f : ℕ → List ℕ) (out new : List ℕ) (i end : ℕ) → i < end → new ≡ out ++ f i
    → new ++ flat_map f (range_with_len (i + 1) (end - (i + 1))) ≡ out ++ flat_map f (range_with_len i (end - i))
next_text f out new i end below text =
    let left : List ℕ = flat_map f (range_with_len (i + 1) (end - (i + 1))) in
    let count : suc (end - (i + 1)) ≡ end - i = omega arith in
    ap (λ (t : List ℕ). t ++ left) text ∙ append_assoc out (f i) left ∙ ap (λ (n : ℕ). out ++ flat_map f (range_with_len i n)) count
