-- Jump lists of a well-nested segment: where their arms end, and what their jumps count as.
use Rattle.std.proofs.Common.{◌≡◌, ◌⊎◌, inl, inr, ⊎_elim, ℕ, zero, suc, ◌<◌, ◌≤◌, length, refl, sym, subst, arith}
use Rattle.std.proofs.lemmas.Bool.{cases_eq, cases_lt}
use Rattle.stl_tree.specs.Blocks.{Way, always, stops}
use Rattle.stl_tree.specs.Flows.{GoesOn, IsEndBlock, IsExitJump, IsJump, IsList, Segment}
use Rattle.stl_tree.specs.WellNested.{CountsAs, EndsArm, IsCase, IsCaseEnd, IsInArms, IsLaterArm, IsSameArm, IsTarget, IsWellNestedByPaths}
use Rattle.nesting_laws.proofs.Exits.{always_jumps}
use Rattle.nesting_laws.proofs.Facts.{Facts, known_exit}
use Rattle.nesting_laws.proofs.Reaching.{IsKnown, known_both, known_either, known_true}

pub same_case_end : {g : Segment} {x d e : ℕ} → IsCaseEnd g x d → IsCaseEnd g x e → d ≡ e
same_case_end {g} {x} {d} {e} p q = let i = p.least e q.fits in let j = q.least d p.fits in omega arith

known_three : {P Q R : Type 0} → IsKnown P → IsKnown Q → IsKnown R → IsKnown (P × Q × R)
known_three (inl p) (inl q) (inl r) = inl (p, q, r)
known_three (inr n) q r = inr (λ h. n h.0)
known_three (inl p) (inr n) r = inr (λ h. n h.1)
known_three (inl p) (inl q) (inr n) = inr (λ h. n h.2)

-- a property of a block below a number
abbrev pub IsSome : (ℕ → Type 0) → ℕ → Type 0
IsSome P n = (x : ℕ) × (x < n) × P x

pub known_some : (P : ℕ → Type 0) → ((x : ℕ) → IsKnown (P x)) → (n : ℕ) → IsKnown (IsSome P n)
known_some P f zero = inr (λ h. omega (arith, h.1))
known_some P f (suc n) = by (known_some P f n) (f n)
  where
    by : IsKnown (IsSome P n) → IsKnown (P n) → IsKnown (IsSome P (suc n))
    by (inl h) p = inl (h.0, omega (arith, h.1), h.2)
    by (inr m) (inl p) = inl (n, omega arith, p)
    by (inr m) (inr k) = inr (λ h. ⊎_elim (λ e. k (subst P e h.2)) (λ d. m (h.0, omega (arith, h.1), h.2)) (cases_eq h.0 n))

module _ {g : Segment} (facts : Facts g) where
  pub known_target : (x t : ℕ) → IsList g x → IsKnown (IsTarget g x t)
  known_target x t list = by (facts.known_jump x t)
    where
      by : IsKnown (IsJump g x t) → IsKnown (IsTarget g x t)
      by (inl j) = inl (record { list = list; jump = j })
      by (inr n) = inr (λ is. n is.jump)

  pub label_target : (x : ℕ) → IsList g x → IsTarget g x (suc x)
  label_target x list = record { list = list; jump = facts.label x list }

  pub in_arms : (x e b : ℕ) → IsList g x → x < b → b < e → IsInArms g x e b
  in_arms x e b list y z = record { begin = suc x; target = label_target x list; low = omega arith; high = z }

  module _ (x : ℕ) (list : IsList g x) where
    -- the last target of a list
    abbrev IsLast : ℕ → ℕ → Type 0
    IsLast n w = IsTarget g x w × ((t : ℕ) → IsTarget g x t → t < n → t ≤ w)

    next_last : (n w : ℕ) → IsLast n w → IsKnown (IsTarget g x n) → (v : ℕ) × IsLast (suc n) v
    next_last n w (is, f) (inl other) =
        ⊎_elim (λ y. (n, (other, λ t o z. omega arith))) (λ y. (w, (is, λ t o z. ⊎_elim (λ e. omega arith) (λ d. f t o (omega arith)) (cases_eq t n))))
        (cases_lt w n)
    next_last n w (is, f) (inr none) =
        (w, (is, λ t o z. ⊎_elim (λ e. absurd (none (subst (λ t. IsTarget g x t) e o))) (λ d. f t o (omega arith)) (cases_eq t n)))

    last_below : (n : ℕ) → (w : ℕ) × IsLast n w
    last_below zero = (suc x, (label_target x list, λ t o z. absurd (omega arith)))
    last_below (suc n) = let (w, is) = last_below n in next_last n w is (known_target x n list)

    pub last_under : (n : ℕ) → ((t : ℕ) → IsTarget g x t → t < n) → (w : ℕ) × IsTarget g x w × ((t : ℕ) → IsTarget g x t → t ≤ w)
    last_under n below = let (w, is) = last_below n in (w, is.0, λ t o. is.1 t o (below t o))

  module _ {x e : ℕ} (list : IsList g x) (fits : IsCase g x e) where
    arm_after : (b : ℕ) → IsInArms g x e b → x < b
    arm_after b is = omega (arith, (fits.after is.begin is.target).0, is.low)

    -- a jump to the end of all arms leads out of a loop, or to the end word
    abbrev Leaves : ℕ → Type 0
    Leaves s = IsExitJump g s e ⊎ IsEndBlock g.flow e

    -- an arm before the last one jumps to the end of all
    abbrev IsForced : Type 0
    IsForced = (s : ℕ) × (t : ℕ) × IsTarget g x t × (x < s) × (s < t) × IsJump g s e × (Leaves s → ⊥)

    abbrev Sends : ℕ → Type 0
    Sends s = (x < s) × IsJump g s e × (Leaves s → ⊥)

    -- where no arm before the last one jumps to the end, the last one may be empty
    module _ (w : ℕ) (last : IsTarget g x w) (greatest : (t : ℕ) → IsTarget g x t → t ≤ w) (none : (s : ℕ) → x < s → s < w → IsJump g s e → Leaves s) where
      w_within : w ≤ e
      w_within = (fits.after w last).1

      wider : (b : ℕ) → IsInArms g x w b → IsInArms g x e b
      wider b is = let y = w_within in record { begin = is.begin; target = is.target; low = is.low; high = omega (arith, is.high) }

      narrower : (s t : ℕ) → IsInArms g x e s → IsInArms g x w t → IsSameArm g x s t → IsInArms g x w s
      narrower s t is other same = record {
        begin = is.begin;
        target = is.target;
        low = is.low;
        high = ⊎_elim (λ y. y) (λ y. let z = (same w last).0 y in omega (arith, other.high)) (cases_lt s w);
      }

      closed : (b u t : ℕ) (way : Way) → IsTarget g x u → IsTarget g x t → u < t → suc b ≡ t → GoesOn g b way → EndsArm g w b way
      closed b u t stops is other y z goes = tt
      closed b u t (always v) is other y z goes = ⊎_elim
          (λ q. inr (inr (⊎_elim (λ i. inl (subst (λ v. IsExitJump g b v) (sym q) i)) (λ i. inr (subst (λ v. IsEndBlock g.flow v) (sym q) i))
          (none b (omega (arith, (fits.after u is).0)) (omega (arith, greatest t other)) (subst (λ v. IsJump g b v) q (always_jumps g b v goes))))))
          inr (fits.closed b u t (always v) is other y z goes)
      closed b u t way is other y z goes = fits.closed b u t way is other y z goes

      empty_case : IsCase g x w
      empty_case = record {
        after = λ t is. ((fits.after t is).0, greatest t is);
        closed = closed;
        entries = λ s t jump is. ⊎_elim inl
            (λ o. inr (narrower s t o.0 is o.1, o.1)) (fits.entries s t jump (wider t is));
        exits = λ s t jump is. ⊎_elim
            (λ o. inl (narrower t s o.0 is (λ u v. ((o.1 u v).1, (o.1 u v).0)), o.1))
            (λ o. ⊎_elim (λ q. inr (inr (inr (⊎_elim (λ i. inl (subst (λ t. IsExitJump g s t) (sym q) i)) (λ i. inr (subst (λ t. IsEndBlock g.flow t)
            (sym q) i))
            (none s (arm_after s (wider s is)) is.high (subst (λ t. IsJump g s t) q jump)))))) (λ k. inr (inr k)) o)
            (fits.exits s t jump (wider s is));
        loops = λ h l b is other. fits.loops h l b is (wider b other);
      }

    last_target : (w : ℕ) × IsTarget g x w × ((t : ℕ) → IsTarget g x t → t ≤ w)
    last_target = last_under x list (suc e) (λ t o. omega (arith, (fits.after t o).1))

    -- an arm before the last one jumps to the end, or the last one may be empty
    pub forced_or_empty : IsForced ⊎ ((w : ℕ) × IsTarget g x w × (w ≤ e) × ((t : ℕ) → IsTarget g x t → t ≤ w) × IsCase g x w)
    forced_or_empty = by last_target
      where
        by : (w : ℕ) × IsTarget g x w × ((t : ℕ) → IsTarget g x t → t ≤ w)
            → IsForced ⊎ ((w : ℕ) × IsTarget g x w × (w ≤ e) × ((t : ℕ) → IsTarget g x t → t ≤ w) × IsCase g x w)
        by (w, is, f) = at (known_some Sends known_sends w)
          where
            not_leaves : (s : ℕ) → IsKnown (Leaves s) → IsKnown (Leaves s → ⊥)
            not_leaves s (inl h) = inr (λ n. n h)
            not_leaves s (inr n) = inl n

            known_leaves : (s : ℕ) → IsKnown (Leaves s)
            known_leaves s = known_either (known_exit facts s e) (known_both (known_true g.flow.ends_alone) (cases_eq (suc e) (length g.flow.ways)))

            known_sends : (s : ℕ) → IsKnown (Sends s)
            known_sends s = known_three (⊎_elim inl (λ y. inr (λ z. omega arith)) (cases_lt x s)) (facts.known_jump s e) (not_leaves s (known_leaves s))

            none_sends : (IsSome Sends w → ⊥) → (s : ℕ) → x < s → s < w → IsJump g s e → Leaves s
            none_sends none s y z j = ⊎_elim (λ h. h) (λ n. absurd (none (s, z, (y, j, n)))) (known_leaves s)

            at : IsKnown (IsSome Sends w) → IsForced ⊎ ((w : ℕ) × IsTarget g x w × (w ≤ e) × ((t : ℕ) → IsTarget g x t → t ≤ w) × IsCase g x w)
            at (inl (s, y, z)) = inl (s, w, is, z.0, y, z.1, z.2)
            at (inr none) = inr (w, is, w_within w is f (none_sends none), f, empty_case w is f (none_sends none))

    -- arms that may end somewhere end at one block
    pub case_end_of : (d : ℕ) × IsCaseEnd g x d
    case_end_of = ⊎_elim
        (λ h. (e, record { list = list; fits = fits; least = by h }))
        (λ (w, is, y, f, empty). (w, record { list = list; fits = empty; least = λ d other. (other.after w is).1 })) forced_or_empty
      where
        by : IsForced → (d : ℕ) → IsCase g x d → e ≤ d
        by (s, t, is, y, z, jump, stays) d other = ⊎_elim (λ w. absurd (earlier w)) (λ w. w) (cases_lt d e)
          where
            earlier : d < e → ⊥
            earlier w = let high = (other.after t is).1 in ⊎_elim (λ i. omega (arith, i.0.high)) (λ o. ⊎_elim (λ q. omega arith)
                (λ o. ⊎_elim (λ turn. let low = (fits.after t is).1 in omega (arith, turn.1.around.low)) stays o) o)
                (other.exits s e jump (in_arms x d s list y (omega arith)))

  module _ {x e : ℕ} (case : IsCaseEnd g x e) where
    pub arms_behind : (b : ℕ) → IsInArms g x e b → x < b
    arms_behind b is = arm_after case.list case.fits b is

    -- what jumps between a list and the end of its arms
    pub case_entries : (s t : ℕ) → IsJump g s t → x < t → t < e → (s ≡ x) ⊎ ((x < s) × (s < e) × IsSameArm g x s t)
    case_entries s t jump y z = ⊎_elim inl (λ o. inr (arms_behind s o.0, o.0.high, o.1)) (case.fits.entries s t jump (in_arms x e t case.list y z))

    pub case_behind : x < e
    case_behind = let y = case.fits.after (suc x) (label_target x case.list) in omega (arith, y.0, y.1)

    -- the arms end at the last target, or where an arm before that jumps
    pub forced : IsTarget g x e ⊎ IsForced case.list case.fits
    forced = ⊎_elim inr (λ (w, is, y, f, empty). let z = case.least w empty in
        inl (subst (λ w. IsTarget g x w) (let q : w ≡ e = omega arith in q) is)) (forced_or_empty case.list case.fits)

    -- from a list or one of its arms a jump leads to the end
    pub forced_jump : (s : ℕ) × (x ≤ s) × (s < e) × IsJump g s e
    forced_jump = let y = case_behind in ⊎_elim (λ is. (x, omega arith, omega arith, is.jump))
        (λ (s, t, is, z, w, j, n). (s, omega arith, omega (arith, (case.fits.after t is).1), j)) forced

  -- a list in an arm has its arms in that one
  pub nests : {x e y d : ℕ} → IsCaseEnd g x e → IsCaseEnd g y d → x < y → y < e → d ≤ e
  nests {x} {e} {y} {d} case inner z w = ⊎_elim (λ k. k) (λ k. absurd (over k)) (below d e)
    where
      below : (d e : ℕ) → (d ≤ e) ⊎ (e < d)
      below d e = ⊎_elim inr inl (cases_lt e d)

      into : (t : ℕ) → IsTarget g x t → y < t → t < d → ⊥
      into t is i j = ⊎_elim (λ k. omega arith) (λ k. omega (arith, k.0)) (case_entries inner x t is.jump i j)

      over : e < d → ⊥
      over k = ⊎_elim (λ is. into e is w k)
          (λ (s, t, is, i, j, jump, n). let m = (case.fits.after t is).1 in
          ⊎_elim (λ o. into t is (omega arith) (omega arith)) (λ o. into t is (omega (arith, o.0)) (omega arith))
          (case_entries inner s e jump w k)) (forced case)

  -- What jumps count as

  module _ (well : IsWellNestedByPaths g) where
    known_end_at : (x t : ℕ) → IsList g x → IsKnown (IsCaseEnd g x t)
    known_end_at x t list = by (well.cases x list)
      where
        by : (e : ℕ) × IsCaseEnd g x e → IsKnown (IsCaseEnd g x t)
        by (e, is) = ⊎_elim (λ q. inl (subst (λ e. IsCaseEnd g x e) (sym q) is)) (λ n. inr (λ other. n (same_case_end other is))) (cases_eq t e)

    known_later : (s t d : ℕ) → IsKnown (IsLaterArm g s t d)
    known_later s t d = by (known_some (λ x. IsTarget g x d × IsCaseEnd g x t) each s) (cases_lt s d)
      where
        at : (x : ℕ) → IsKnown (IsJump g x d) → IsKnown (IsList g x) → IsKnown (IsTarget g x d × IsCaseEnd g x t)
        at x (inl j) (inl list) = known_both (inl (record { list = list; jump = j })) (known_end_at x t list)
        at x (inr n) list = inr (λ h. n h.0.jump)
        at x (inl j) (inr n) = inr (λ h. n h.0.list)

        each : (x : ℕ) → IsKnown (IsTarget g x d × IsCaseEnd g x t)
        each x = at x (facts.known_jump x d) (facts.known_list x)

        by : IsKnown (IsSome (λ x. IsTarget g x d × IsCaseEnd g x t) s) → (s < d) ⊎ (d ≤ s) → IsKnown (IsLaterArm g s t d)
        by (inl (x, y, is)) (inl z) = inl (x, is.1, is.0, y, z)
        by (inr n) z = inr (λ (x, case, is, y, w). n (x, y, (is, case)))
        by (inl h) (inr z) = inr (λ (x, case, is, y, w). omega arith)

    -- of the blocks below one, the first that begins a later arm
    abbrev IsFound : ℕ → ℕ → ℕ → Type 0
    IsFound s t n = ((c : ℕ) × IsLaterArm g s t c × ((d : ℕ) → IsLaterArm g s t d → c ≤ d)) ⊎ ((d : ℕ) → IsLaterArm g s t d → n ≤ d)

    find : (s t n : ℕ) → IsFound s t n
    find s t zero = inr (λ d is. omega arith)
    find s t (suc n) = by (find s t n) (known_later s t n)
      where
        by : IsFound s t n → IsKnown (IsLaterArm g s t n) → IsFound s t (suc n)
        by (inl h) k = inl h
        by (inr f) (inl is) = inl (n, is, f)
        by (inr f) (inr none) = inr (λ d is. ⊎_elim (λ e. absurd (none (subst (λ d. IsLaterArm g s t d) e is)))
            (λ k. let y = f d is in omega arith) (cases_eq d n))

    later_within : (s t d : ℕ) → IsLaterArm g s t d → d ≤ t
    later_within s t d (x, case, is, y, z) = (case.fits.after d is).1

    -- each jump counts as one
    pub counts : (s t : ℕ) → (c : ℕ) × CountsAs g s t c
    counts s t = by (find s t t)
      where
        by : IsFound s t t → (c : ℕ) × CountsAs g s t c
        by (inl (c, is, f)) = (c, record { one = inr is; most = later_within s t c is; nearest = f })
        by (inr f) = (t, record { one = inl refl; most = omega arith; nearest = f })
