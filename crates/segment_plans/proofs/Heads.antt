-- A segment has at most one loop exactly where at most one head is found.
use Rattle.std.proofs.Common.{◌≡◌, ◌⊎◌, ℕ, zero, suc, ◌+◌, ◌-◌, ◌<◌, ◌≤◌, Bool, true, false, not, ◌&&◌, ◌||◌, Option, Some, None, inl, inr, ⊎_elim, refl, sym, subst, arith}
use Rattle.std.specs.Bool.{Decides}
use Rattle.std.specs.Option.{is_some}
use Rattle.std.proofs.lemmas.Bool.{cases_lt}
use Rattle.nesting_laws.specs.Splitting.{HasOneLoop}
use Rattle.stl_tree.specs.Flows.{IsLoop, IsSegment, Segment}
use Rattle.segment_plans.specs.Counts.{last_of}
use Rattle.segment_plans.specs.declared.blocks.Blocks.{Blocks}
use Rattle.segment_plans.specs.inner.Spans.{few_heads}
use Rattle.segment_plans.proofs.Site.{EndsAt, IsSite}
use Rattle.segment_plans.proofs.Stack.{no_head_before}

-- a test, or another one where the first is not met
pub decides_else : {P Q : Type 0} (x y : Bool) → Decides x P → Decides y Q → Decides (x || y) (P ⊎ ((P → ⊥) × Q))
decides_else true y d e = (λ f. inl (d.0 refl), λ h. refl)
decides_else {P} {Q} false y d e = (λ f. inr (no, e.0 f), back)
  where
    no : P → ⊥
    no p = let bad : false ≡ true = d.1 p in absurd cc

    back : P ⊎ ((P → ⊥) × Q) → y ≡ true
    back (inl p) = absurd (no p)
    back (inr h) = e.1 h.1

not_both : (x y : Bool) → ((x ≡ true) × (y ≡ false)) ⊎ (x ≡ false) → (x && y) ≡ false
not_both true true (inl h) = let e = h.1 in absurd cc
not_both true true (inr e) = absurd cc
not_both true false h = refl
not_both false y h = refl

-- the next block
pub heads_step : (blocks : Blocks) (found head new : Bool) (at past : ℕ) (e : Bool) → at < past → head ≡ is_some (last_of blocks at)
    → ((head ≡ true) × (found ≡ false)) ⊎ (head ≡ false) → new ≡ (found || head) → few_heads blocks found at (past - at) ≡ e
    → few_heads blocks new (at + 1) (past - (at + 1)) ≡ e
heads_step blocks found head new at past e low is one same all =
    let n : past - at ≡ suc (past - (at + 1)) = omega (arith, low) in
    let m : suc at ≡ at + 1 = omega arith in
    subst (λ b. few_heads blocks b (at + 1) (past - (at + 1)) ≡ e) (sym same)
    (subst (λ k. few_heads blocks (found || head) k (past - (at + 1)) ≡ e) m
    (subst (λ b. (not b && few_heads blocks (found || head) (suc at) (past - (at + 1))) ≡ e) (not_both head found one)
    (subst (λ b. (not (b && found) && few_heads blocks (found || b) (suc at) (past - (at + 1))) ≡ e) (sym is)
    (subst (λ k. few_heads blocks found at k ≡ e) n all))))

module _ (g : Segment) (blocks : Blocks) (site : IsSite g blocks) where
  abbrev IsHead : ℕ → Type 0
  IsHead h = (l : ℕ) × IsLoop g h l

  head_is : (at : ℕ) → g.first ≤ at → at < g.past → Decides (is_some (last_of blocks at)) (IsHead at)
  head_is at low high = by (last_of blocks at) (site.lasts at low high)
    where
      by : (o : Option ℕ) → EndsAt g at o → Decides (is_some o) (IsHead at)
      by None fresh = (λ e. absurd cc, λ h. let x = fresh h.0 h.1.back in let y = h.1.ordered in absurd (omega arith))
      by (Some l) loop = (λ e. (l, loop), λ h. refl)

  abbrev NoHead : ℕ → ℕ → Type 0
  NoHead at count = (h : ℕ) → at ≤ h → h < at + count → IsHead h → ⊥

  none_is : (at count : ℕ) → g.first ≤ at → at + count ≤ g.past → Decides (few_heads blocks true at count) (NoHead at count)
  none_is at zero low high = (λ e h x y. absurd (omega arith), λ n. refl)
  none_is at (suc count) low high =
      by (none_is (suc at) count (omega arith) (omega arith)) (is_some (last_of blocks at)) (head_is at low (omega arith))
    where
      by : Decides (few_heads blocks true (suc at) count) (NoHead (suc at) count) → (b : Bool) → Decides b (IsHead at)
          → Decides (not (b && true) && few_heads blocks (true || b) (suc at) count) (NoHead at (suc count))
      by rest true d = (λ e. absurd cc, λ n. absurd (n at (omega arith) (omega arith) (d.0 refl)))
      by rest false d = (λ e h x y is. none e h is (omega arith) (cases_lt at h) x, λ n. rest.1 (λ h x y. n h (omega arith) (omega arith)))
        where
          none : few_heads blocks true (suc at) count ≡ true → (h : ℕ) → IsHead h → h < suc at + count → (at < h) ⊎ (h ≤ at) → at ≤ h → ⊥
          none e h is y (inl z) x = rest.0 e h z y is
          none e h is y (inr z) x = let bad : false ≡ true = d.1 (subst IsHead (let q : h ≡ at = omega arith in q) is) in absurd cc

  abbrev OneHead : ℕ → ℕ → Type 0
  OneHead at count = (h k : ℕ) → at ≤ h → h < at + count → at ≤ k → k < at + count → IsHead h → IsHead k → h ≡ k

  one_is : (at count : ℕ) → g.first ≤ at → at + count ≤ g.past → Decides (few_heads blocks false at count) (OneHead at count)
  one_is at zero low high = (λ e h k x y. absurd (omega arith), λ n. refl)
  one_is at (suc count) low high =
      by (one_is (suc at) count (omega arith) (omega arith)) (none_is (suc at) count (omega arith) (omega arith)) (is_some (last_of blocks at))
      (head_is at low (omega arith))
    where
      by : Decides (few_heads blocks false (suc at) count) (OneHead (suc at) count) → Decides (few_heads blocks true (suc at) count) (NoHead (suc at) count)
          → (b : Bool) → Decides b (IsHead at)
          → Decides (not (b && false) && few_heads blocks (false || b) (suc at) count) (OneHead at (suc count))
      by one none true d = (there, back)
        where
          there : few_heads blocks true (suc at) count ≡ true → OneHead at (suc count)
          there e h k x y z w is other = ⊎_elim (λ i. absurd (none.0 e h i (omega arith) is)) (λ i. ⊎_elim (λ j. absurd (none.0 e k j (omega arith) other))
              (λ j. omega arith) (cases_lt at k)) (cases_lt at h)

          back : OneHead at (suc count) → few_heads blocks true (suc at) count ≡ true
          back f = none.1 (λ h x y is. let q = f at h (omega arith) (omega arith) (omega arith) (omega arith) (d.0 refl) is in omega arith)
      by one none false d = (there, λ f. one.1 (λ h k x y z w. f h k (omega arith) (omega arith) (omega arith) (omega arith)))
        where
          past : (h : ℕ) → at ≤ h → IsHead h → at < h
          past h x is = ⊎_elim (λ i. i)
              (λ i. let bad : false ≡ true = d.1 (subst IsHead (let q : h ≡ at = omega arith in q) is) in absurd cc) (cases_lt at h)

          there : few_heads blocks false (suc at) count ≡ true → OneHead at (suc count)
          there e h k x y z w is other = one.0 e h k (past h x is) (omega arith) (past k z other) (omega arith) is other

  pub one_loop_is : IsSegment g → Decides (few_heads blocks false g.first (g.past - g.first)) (HasOneLoop g)
  one_loop_is seg = (there, back)
    where
      one : Decides (few_heads blocks false g.first (g.past - g.first)) (OneHead g.first (g.past - g.first))
      one = let some = seg.some in one_is g.first (g.past - g.first) (omega arith) (omega arith)

      low : (h l : ℕ) → IsLoop g h l → g.first ≤ h
      low h l is = ⊎_elim (λ x. absurd (no_head_before g seg h l is x)) (λ x. x) (cases_lt h g.first)

      high : (h l : ℕ) → IsLoop g h l → h < g.first + (g.past - g.first)
      high h l is = let x = is.ordered in let y = is.back.1.0.high in let z = seg.some in omega arith

      there : few_heads blocks false g.first (g.past - g.first) ≡ true → HasOneLoop g
      there e h l k m is other = one.0 e h k (low h l is) (high h l is) (low k m other) (high k m other) (l, is) (m, other)

      back : HasOneLoop g → few_heads blocks false g.first (g.past - g.first) ≡ true
      back f = one.1 (λ h k x y z w is other. f h is.0 k other.0 is.1 other.1)
