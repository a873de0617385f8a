-- The frames that are kept, one after another.
use Rattle.std.proofs.Common.{◌≡◌, ◌≢◌, ℕ, zero, suc, ◌+◌, List, [], ◌∷◌, map, drop, refl, sym, subst, arith}
use Rattle.block_calls.specs.declared.stack.Frame.{Frame}
use Rattle.block_calls.specs.inner.Views.{activation}
use Rattle.stl_tree.specs.Now.{Activation}

pub popped : (frames : List Frame) (free : ℕ) → map activation (drop free frames) ≢ []
    → (x : Activation) × (map activation (drop free frames) ≡ x ∷ map activation (drop (free + 1) frames))
popped [] zero some = absurd (some refl)
popped [] (suc n) some = absurd (some refl)
popped (f ∷ frames) zero some = (activation f, refl)
popped (f ∷ frames) (suc n) some =
    let e : suc n + 1 ≡ suc (n + 1) = omega arith in
    let r = popped frames n some in
    (r.0, subst (λ k. map activation (drop n frames) ≡ r.0 ∷ map activation (drop k (f ∷ frames))) (sym e) r.1)
