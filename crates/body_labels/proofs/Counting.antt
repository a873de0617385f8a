-- The JU at the front of instructions, one by one.
use Rattle.std.proofs.Common.{◌≡◌, ◌≤◌, ◌<◌, ℕ, suc, ◌+◌, Bool, true, false, cond, List, [], ◌∷◌, length, drop, sym, ap, ◌∙◌, arith}
use Rattle.std.specs.List.{prefix_len}
use Rattle.stl_tree.specs.declared.raw.RawInstr.{RawInstr}
use Rattle.body_labels.specs.inner.Listed.{begins_with_ju, is_ju}

-- one more is counted
pub one_counted : (count n : ℕ) (left : List RawInstr) → begins_with_ju left ≡ true → count + prefix_len is_ju left ≡ n
    → (count + 1) + prefix_len is_ju (drop 1 left) ≡ n
one_counted count n [] h e = absurd cc
one_counted count n (raw ∷ rest) h e =
    let one : prefix_len is_ju (raw ∷ rest) ≡ 1 + prefix_len is_ju rest = ap (λ (b : Bool). cond b (1 + prefix_len is_ju rest) 0) h in
    omega (arith, one, e)

pub one_taken : (count n : ℕ) (left : List RawInstr) → begins_with_ju left ≡ true → count + length left ≡ n → (count + 1) + length (drop 1 left) ≡ n
one_taken count n [] h e = absurd cc
one_taken count n (raw ∷ rest) h e = omega (arith, e)

pub one_less : (left : List RawInstr) → begins_with_ju left ≡ true → length (drop 1 left) < length left
one_less [] h = absurd cc
one_less (raw ∷ rest) h = omega arith

-- there is room to count
pub room : (count n : ℕ) (left : List RawInstr) → begins_with_ju left ≡ true → count + length left ≡ n → count < n
room count n [] h e = absurd cc
room count n (raw ∷ rest) h e = omega (arith, e)

-- none is left
pub none_left : (count n : ℕ) (left : List RawInstr) → begins_with_ju left ≡ false → count + prefix_len is_ju left ≡ n → count ≡ n
none_left count n [] h e = omega (arith, e)
none_left count n (raw ∷ rest) h e =
    let none : prefix_len is_ju (raw ∷ rest) ≡ 0 = ap (λ (b : Bool). cond b (1 + prefix_len is_ju rest) 0) h in
    omega (arith, none, e)

pub within : (count n : ℕ) (left : List RawInstr) → count + length left ≡ n → count ≤ n
within count n left e = omega (arith, e)

pub ruleset ju_laws = (one_counted, one_taken, one_less, room, none_left, within)
