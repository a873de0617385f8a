-- What holds at each label of a CASE, where the labels are a list or go from one number on.
use Rattle.std.proofs.Common.{◌≡◌, ℕ, zero, suc, ◌+◌, ◌<◌, ◌==◌, Bool, true, false, ◌||◌, List, [], ◌∷◌, refl, ap, arith}
use Rattle.std.specs.List.{AllByRecursion, list_any}
use Rattle.region_laws.specs.Regions.{labels_from}

same_number : (n : ℕ) → (n == n) ≡ true
same_number n = grind arith

or_second : (a b : Bool) → b ≡ true → (a || b) ≡ true
or_second true b h = refl
or_second false b h = h

pub each_label : (P : ℕ → Type 0) (labels : List ℕ) → ((n : ℕ) → list_any (λ label. label == n) labels ≡ true → P n) → AllByRecursion P labels
each_label P [] h = tt
each_label P (x ∷ labels) h = (
  h x (ap (λ (b : Bool). b || list_any (λ label. label == x) labels) (same_number x)),
  each_label P labels (λ n e. h n (or_second (x == n) (list_any (λ label. label == n) labels) e)),
)

pub each_from : (P : ℕ → Type 0) (label count : ℕ) → ((n : ℕ) → n < label + count → P n) → AllByRecursion P (labels_from label count)
each_from P label zero h = tt
each_from P label (suc count) h = (h label (omega arith), each_from P (suc label) count (λ n l. h n (omega arith)))
