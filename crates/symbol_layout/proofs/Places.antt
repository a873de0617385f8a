-- Places are the least that an alignment allows.
use Rattle.std.specs.Prelude.{◌≡◌, ℕ, zero, suc, ◌+◌, ◌-◌, ◌*◌, ◌/◌, ◌%◌, ◌<◌, ◌≤◌}
use Rattle.std.proofs.Common.{refl, sym, ap, ◌∙◌, subst, arith}
use Rattle.std.proofs.Math.Nat.{lt_of_mul-lt-mul_right, mod-lt, mod-eq_of_lt, mod_self, mul-le-mul_right}
use Rattle.std.proofs.lemmas.Nat.{div-add-mod'}
use Rattle.stl_rules.specs.Extents.{IsLeast, StandsAtLeast}

-- the quotient is q and the rest r
module _ (y q end : ℕ) (positive : 1 ≤ y) where
  on : (r : ℕ) → r < y → q * y + r ≡ end → IsLeast y end (end + (y - r) % y)
  on zero below e =
      let all : y - 0 ≡ y = omega arith in
      let whole : (y - 0) % y ≡ 0 = ap (λ n. n % y) all ∙ mod_self y in
      let place : end + (y - 0) % y ≡ q * y = omega (arith, whole, e) in
      subst (λ p. IsLeast y end p) (sym place) (record {
        times = q;
        is_multiple = refl;
        is_behind = omega (arith, e);
        is_least = λ k h. omega (arith, e, h);
      })
  on (suc r) below e =
      let gap : (y - suc r) % y ≡ y - suc r = mod-eq_of_lt (omega (arith, below)) in
      let next : (q + 1) * y ≡ y + q * y = omega arith in
      let place : end + (y - suc r) % y ≡ (q + 1) * y = omega (arith, gap, next, below, e) in
      subst (λ p. IsLeast y end p) (sym place) (record {
        times = q + 1;
        is_multiple = refl;
        is_behind = omega (arith, next, below, e);
        is_least = λ k h.
            let more : q * y < k * y = omega (arith, e, h) in
            let above : q < k = lt_of_mul-lt-mul_right y more in
            let over : q + 1 ≤ k = omega (arith, above) in
            mul-le-mul_right y over;
      })

pub at_least : StandsAtLeast
at_least end extent positive =
    on extent.alignment (end / extent.alignment) end positive (end % extent.alignment) (mod-lt end positive)
    (div-add-mod' end extent.alignment)
