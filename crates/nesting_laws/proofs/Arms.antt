-- The arms of an IF in a well-nested segment are parts.
use Rattle.std.proofs.Common.{◌≡◌, ◌⊎◌, inl, inr, ⊎_elim, ℕ, zero, suc, ◌<◌, ◌≤◌, true, refl, sym, subst, arith}
use Rattle.std.proofs.lemmas.Bool.{cases_eq, cases_lt}
use Rattle.stl_tree.specs.Blocks.{Way, always, if_made}
use Rattle.stl_tree.specs.Flows.{GoesOn, IsEndBlock, IsExitJump, IsIn, IsInnermost, IsJump, IsList, IsLoop, IsPlainJump, IsUnconditional, Segment}
use Rattle.stl_tree.specs.WellNested.{CountsAs, IsCaseEnd, IsElse, IsTarget, IsWellNestedByPaths}
use Rattle.nesting_laws.specs.Plans.{Around, EndsBefore, IsBranch, IsListArm, IsOther, IsWayOut, Kind, LeadsTo, blocks, inside, no_loop}
use Rattle.nesting_laws.proofs.Exits.{always_jumps, always_leads, always_no_list, always_or_not, jump_in, jump_leads, leads_cases, made_jumps, made_no_list, not_both, same_way}
use Rattle.nesting_laws.proofs.Facts.{Facts, known_in, same_last}
use Rattle.nesting_laws.proofs.Lists.{case_entries, counts, in_arms, label_target}
use Rattle.nesting_laws.proofs.Parts.{Follows, Holds, IsAround, IsClear, IsFree, IsMet, IsArmOf, IsPart, IsSettled, MayLeave, clear_end, clear_lead, clear_next, clear_over, free_end, free_lead, free_next, known_end, known_way_out, own_none, rest_part, sub_part}
use Rattle.nesting_laws.proofs.Reaching.{IsKnown}

module _ {g : Segment} (facts : Facts g) where
  known_always : (s : ℕ) → IsKnown (IsUnconditional g s)
  known_always s = by (known_in g s)
    where
      at : (way : Way) × GoesOn g s way → IsKnown (IsUnconditional g s)
      at (way, goes) = always_or_not g s way goes

      by : IsKnown (IsIn g s) → IsKnown (IsUnconditional g s)
      by (inl is) = at (facts.goes s is)
      by (inr n) = inr (λ u. n (jump_in g s u.0 (always_jumps g s u.0 u.1)))

  -- an exit jump from the loop around a part
  exit_way : (a : Around) (lo hi b u h l : ℕ) → IsAround g a lo hi → MayLeave g a → lo ≤ b → b < hi → IsJump g b u → IsInnermost g h l b → u ≡ suc l
      → Holds a h → IsWayOut a u
  exit_way no_loop lo hi b u h l o may x y jump is e held = absurd held
  exit_way (inside left k m) lo hi b u h l (loop, i, j) may x y jump is e held =
      let v = is.inner k m (record { loop = loop; low = omega arith; high = omega arith }) in
      let w = same_last facts h l k m is.around.loop loop (omega arith) in
      let z = same_last facts k m h l loop is.around.loop (omega arith) in
      let q : u ≡ suc m = omega arith in inr (leaves left may q, q)
    where
      leaves : (left : Rattle.std.specs.Prelude.Bool) → MayLeave g (inside left k m) → u ≡ suc m → left ≡ true
      leaves true may q = refl
      leaves other may q = absurd (may b (subst (λ u. LeadsTo g b u) q (jump_leads g b u jump)) (omega arith) (omega arith))

-- what the end of an arm is
ends_cases : (hi follow : ℕ) (k : Kind) (t c : ℕ) → EndsBefore hi follow k t c
    → ((c ≡ t) × (t < hi)) ⊎ ((c ≡ hi) × (t ≡ follow) × ((follow ≡ hi) ⊎ ((hi < follow) × IsListArm k)))
ends_cases hi follow k t c (inl e) = let x = e.1 in
    ⊎_elim (λ y. inl (e.0, y)) (λ y. let q : t ≡ hi = omega arith in let f = e.2 q in inr (omega (arith, e.0), omega arith, inl f)) (cases_lt t hi)
ends_cases hi follow k t c (inr e) = inr (e.1, e.0, inr (e.2, e.3))

module _ {g : Segment} (facts : Facts g) (well : IsWellNestedByPaths g) {lo hi follow : ℕ} {a : Around} {k : Kind} (part : IsPart g lo hi follow a k)
    (settled : IsSettled g a lo) where
  -- an exit jump that is no way out of the part leaves a loop that begins within it
  pub no_exit_jump : (b u : ℕ) → IsJump g b u → lo ≤ b → b < hi → (IsWayOut a u → ⊥)
      → ((h l : ℕ) → IsLoop g h l → lo < h → h ≤ b → b ≤ l → u ≡ suc l → ⊥) → IsExitJump g b u → ⊥
  no_exit_jump b u jump x y stays inner (h, l, is, e) = ⊎_elim
      (λ i. ⊎_elim (λ z. inner h l is.around.loop z is.around.low is.around.high e) (λ z. held (settled h l is.around.loop (omega arith))) (cases_lt lo h))
      held (part.loops h l is.around.loop (omega (arith, is.around.low)) (omega (arith, is.around.high)))
    where
      held : Holds a h → ⊥
      held z = stays (exit_way facts a lo hi b u h l part.around part.left x y jump is e z)

  plain_jump : (b u : ℕ) → IsJump g b u → lo ≤ b → b < hi → b < u → (IsWayOut a u → ⊥) → (IsEndBlock g.flow u → ⊥) → (IsList g b → ⊥)
      → ((h l : ℕ) → IsLoop g h l → lo < h → h ≤ b → b ≤ l → u ≡ suc l → ⊥) → IsPlainJump g b u
  plain_jump b u jump x y z stays free single inner =
      record { jump = jump; forward = z; no_end = free; no_exit = no_exit_jump b u jump x y stays inner; no_list = single }

  -- a list before a place that is free of lists does not jump over it
  list_over : (d : ℕ) → IsFree g lo d → (b u : ℕ) → IsJump g b u → lo < b → b < d → d < u → IsList g b → ⊥
  list_over d free b u jump x y z list = let (e, case) = well.cases b list in
      let i = free b e case x y in let j = case.fits.after u (record { list = list; jump = jump }) in omega (arith, j.1)

  -- a jump from before a clear place to behind it
  plain_over : (d : ℕ) → IsClear g lo d → IsFree g lo d → (b u : ℕ) → IsJump g b u → lo < b → b < d → d ≤ hi → d < u
      → (IsWayOut a u → ⊥) → (IsEndBlock g.flow u → ⊥) → IsPlainJump g b u
  plain_over d clear free b u jump x y z w stays open_end = plain_jump b u jump (omega arith) (omega arith) (omega arith) stays open_end
      (list_over d free b u jump x y w)
      (λ h l loop i j k e. ⊎_elim (λ m. omega arith) (λ m. clear h l loop i (omega arith) m) (cases_lt l d))

  -- where a jump leads that is neither a way out nor one to the end
  pub plain_lands : (b u : ℕ) → IsJump g b u → lo ≤ b → b < hi → (IsWayOut a u → ⊥) → (IsEndBlock g.flow u → ⊥)
      → ((lo ≤ u) × (u < hi)) ⊎ Follows g (suc b ≡ hi) hi follow k b u
  plain_lands b u jump x y stays free = ⊎_elim inl
      (λ o. ⊎_elim (λ w. absurd (stays w)) (λ o. ⊎_elim (λ w. absurd (free w)) inr o) o) (part.lands b u (jump_leads g b u jump) x y)

  -- an arm: all that is left is what leads to its end or over it
  arm_part : (c d to : ℕ) (m : Kind) → IsClear g lo c → IsClear g lo d → IsFree g lo c → (IsList g lo → ⊥) → lo < c → d ≤ hi → (d ≡ hi → follow ≡ hi)
      → IsMet g c d → (IsListArm m → d < to → IsArmOf g c d to)
      → ((b t : ℕ) → LeadsTo g b t → c ≤ b → b < d → (IsWayOut a t → ⊥) → (IsEndBlock g.flow t → ⊥) → d ≤ t
      → Follows g (suc b ≡ d) d to m b t) → IsPart g c d to a m
  arm_part c d to m clear clear' free single x y meets met arm f = sub_part facts well part settled c d to m clear clear' free
      (own_none g lo c d single) x y met arm
      (λ b t lead z w stays free_of o. inr (inr (inr (f b t lead z w stays free_of (behind b t w o)))))
    where
      behind : (b t : ℕ) → b < d → ((d ≤ t) × (t < hi)) ⊎ Follows g (suc b ≡ hi) hi follow k b t → d ≤ t
      behind b t w (inl i) = i.0
      behind b t w (inr (e, inl q)) = omega arith
      behind b t w (inr (e, inr (inl q))) = let r : suc b ≡ hi = q.0 in let m = meets (omega arith) in omega arith
      behind b t w (inr (e, inr (inr q))) = let r = q.0 in omega arith

  -- a later arm of a list from before the part begins behind it
  later_behind : (s t d x : ℕ) → IsCaseEnd g x t → IsTarget g x d → x < lo → lo ≤ s → s < d → hi ≤ d
  later_behind s t d x case is y z w = ⊎_elim (λ i. absurd (omega (arith, (case.fits.after d is).1)))
      (λ i. ⊎_elim (λ j. absurd (omega arith)) (λ j. j) (i.1 d is)) (part.cases x t case y)

  module _ (x : lo < hi) where
    -- where the arm of a conditional jump ends
    pub branch_of : (t : ℕ) → GoesOn g lo (if_made t) → lo < t → (IsWayOut a t → ⊥) → (IsEndBlock g.flow t → ⊥) → (c : ℕ) × IsBranch g lo hi follow a k t c
    branch_of t made ahead stays free = by (plain_lands lo t (made_jumps g lo t made) (omega arith) x stays free)
      where
        to : (c : ℕ) → lo < c → EndsBefore hi follow k t c → (suc lo ≡ hi → follow ≡ hi) → (c : ℕ) × IsBranch g lo hi follow a k t c
        to c y ends falls = (c, record { jump = made; stays = stays; free = free; ahead = y; ends = ends; falls = falls })

        -- no arm of a list ends in a conditional jump
        by_arm : IsArmOf g lo hi follow → suc lo ≡ hi → follow ≡ hi
        by_arm arm q = absurd (arm.case.fits.closed lo (suc arm.list) hi (if_made t) (label_target facts arm.list arm.case.list) arm.next
            (omega (arith, arm.before)) q made)

        by : ((lo ≤ t) × (t < hi)) ⊎ Follows g (suc lo ≡ hi) hi follow k lo t → (c : ℕ) × IsBranch g lo hi follow a k t c
        by (inl i) = let y = i.1 in to t ahead (inl (refl, omega arith, λ e. omega arith)) (λ e. omega arith)
        by (inr (e, inl f)) = to t ahead (inl (refl, omega arith, λ q. f)) (λ q. f)
        by (inr (e, inr (inl f))) = absurd (not_both g lo (t, made) f.1)
        by (inr (e, inr (inr f))) = to hi x (inr (e, refl, f.0, f.1)) (by_arm (part.arm f.1 f.0))

    module _ (t c : ℕ) (branch : IsBranch g lo hi follow a k t c) where
      branch_jump : IsJump g lo t
      branch_jump = made_jumps g lo t branch.jump

      no_list : IsList g lo → ⊥
      no_list = made_no_list g lo t branch.jump

      pub branch_within : c ≤ hi
      branch_within = ⊎_elim (λ o. omega (arith, o.0, o.1)) (λ o. omega (arith, o.0)) (ends_cases hi follow k t c branch.ends)

      pub branch_span : c ≤ t
      branch_span = ⊎_elim (λ o. omega (arith, o.0)) (λ o. ⊎_elim (λ f. omega (arith, o.0, o.1)) (λ f. omega (arith, o.0, o.1, f.0)) o.2)
          (ends_cases hi follow k t c branch.ends)

      branch_forward : lo < t
      branch_forward = let y = branch_span in omega (arith, branch.ahead)

      pub there_clear : IsClear g lo c
      there_clear = ⊎_elim (λ o. subst (λ c. IsClear g lo c) (sym o.0) (clear_lead facts well lo t (jump_leads g lo t branch_jump)))
          (λ o. subst (λ c. IsClear g lo c) (sym o.0) (clear_end part)) (ends_cases hi follow k t c branch.ends)

      pub there_free : IsFree g lo c
      there_free = ⊎_elim (λ o. subst (λ c. IsFree g lo c) (sym o.0) (free_lead facts well lo t (jump_leads g lo t branch_jump)))
          (λ o. subst (λ c. IsFree g lo c) (sym o.0) (free_end facts well part)) (ends_cases hi follow k t c branch.ends)

      pub branch_plain : IsPlainJump g lo t
      branch_plain = plain_jump lo t branch_jump (omega arith) x branch_forward branch.stays branch.free no_list (λ h l loop i j k e. omega arith)

      -- the rest of the part behind the arm
      pub branch_rest : IsPart g c hi follow a k
      branch_rest = rest_part facts well part settled c there_clear there_free (own_none g lo c hi no_list) branch.ahead

      -- an arm that ends where its jump leads, before the end of the part
      module _ (same : c ≡ t) (low : t < hi) where
        clear_t : IsClear g lo t
        clear_t = subst (λ c. IsClear g lo c) same there_clear

        free_t : IsFree g lo t
        free_t = subst (λ c. IsFree g lo c) same there_free

        -- the jump of the branch counts counted one to where it leads
        branch_counts : CountsAs g lo t t
        branch_counts = record {
          one = inl refl;
          most = omega arith;
          nearest = λ d (y, case, is, z, w). let i = later_behind lo t d y case is z (omega arith) w in omega arith;
        }

        -- a jump over the end of the arm counts counted one behind it
        counts_over : (b u d : ℕ) → lo < b → b < t → t < u → CountsAs g b u d → t < d
        counts_over b u d y z w counted = ⊎_elim (λ e. omega arith) (λ (v, case, is, i, j). later v case is i j) counted.one
          where
            later : (v : ℕ) → IsCaseEnd g v u → IsTarget g v d → v < b → b < d → t < d
            later v case is i j = ⊎_elim (λ k. let m = later_behind b u d v case is k (omega arith) j in omega arith)
                (λ k. ⊎_elim (λ e. absurd (no_list (subst (λ v. IsList g v) e case.list)))
                (λ n. absurd (let m = free_t v u case (omega arith) (omega arith) in omega arith)) (cases_eq v lo)) (cases_lt v lo)

        over_plain : (b u : ℕ) → IsJump g b u → lo < b → b < t → (IsWayOut a u → ⊥) → (IsEndBlock g.flow u → ⊥) → t < u → IsPlainJump g b u
        over_plain b u jump y z away open_end w = plain_over t clear_t free_t b u jump y z (omega arith) w away open_end

        over_else : (b u : ℕ) → IsJump g b u → lo < b → b < t → (IsWayOut a u → ⊥) → (IsEndBlock g.flow u → ⊥) → t < u → IsElse g lo t b
        over_else b u jump y z away open_end w = let (d, counted) = counts facts well b u in
            well.crossings lo t t b u d branch_plain branch_counts (over_plain b u jump y z away open_end w) counted y z (counts_over b u d y z w counted)

      -- the block before the end of the arm jumps over a second one
      other_of : (s u : ℕ) → GoesOn g s (always u) → suc s ≡ c → c < hi → c < u → (IsWayOut a u → ⊥) → (IsEndBlock g.flow u → ⊥)
          → (d : ℕ) × IsOther g hi follow a k c u d
      other_of s u goes next low ahead stays free = by (plain_lands s u (always_jumps g s u goes) (omega (arith, branch.ahead)) (omega arith) stays free)
        where
          to : (d : ℕ) → c < d → EndsBefore hi follow k u d → (d : ℕ) × IsOther g hi follow a k c u d
          to d y ends = (d, record { source = s; jump = goes; next = next; stays = stays; free = free; ahead = y; ends = ends })

          by : ((lo ≤ u) × (u < hi)) ⊎ Follows g (suc s ≡ hi) hi follow k s u → (d : ℕ) × IsOther g hi follow a k c u d
          by (inl i) = let y = i.1 in to u ahead (inl (refl, omega arith, λ e. omega arith))
          by (inr (e, inl f)) = to u ahead (inl (refl, omega arith, λ q. f))
          by (inr (e, inr (inl f))) = absurd (let y = f.0 in omega arith)
          by (inr (e, inr (inr f))) = to hi low (inr (e, refl, f.0, f.1))

      -- an arm before the end of the part ends where its jump leads
      low_end : c < hi → (c ≡ t) × (t < hi)
      low_end y = ⊎_elim (λ o. o) (λ o. absurd (omega (arith, o.0))) (ends_cases hi follow k t c branch.ends)

      other_within : (u d : ℕ) → IsOther g hi follow a k c u d → d ≤ hi
      other_within u d other = ⊎_elim (λ o. omega (arith, o.0, o.1)) (λ o. omega (arith, o.0)) (ends_cases hi follow k u d other.ends)

      abbrev HasOther : Type 0
      HasOther = ((u : ℕ) × (d : ℕ) × IsOther g hi follow a k c u d) ⊎ ((u d : ℕ) → IsOther g hi follow a k c u d → ⊥)

      pub known_other : HasOther
      known_other = ⊎_elim (λ y. at c refl y) (λ y. inr (λ u d other. let z = other_within u d other in omega (arith, other.ahead))) (cases_lt c hi)
        where
          moved : (s : ℕ) → suc s ≡ c → (u d : ℕ) → (other : IsOther g hi follow a k c u d) → GoesOn g s (always u)
          moved s e u d other = subst (λ r. GoesOn g r (always u)) (let n = other.next in let i : other.source ≡ s = omega arith in i) other.jump

          by : (s : ℕ) → suc s ≡ c → c < hi → (u : ℕ) → GoesOn g s (always u) → (c < u) ⊎ (u ≤ c) → IsKnown (IsWayOut a u) → IsKnown (IsEndBlock g.flow u)
              → HasOther
          by s e low u goes y w f = go y w f
            where
              same : (v d : ℕ) → IsOther g hi follow a k c v d → u ≡ v
              same v d other = let q = same_way g s (always u) (always v) goes (moved s e v d other) in cc

              go : (c < u) ⊎ (u ≤ c) → IsKnown (IsWayOut a u) → IsKnown (IsEndBlock g.flow u) → HasOther
              go (inl y) (inr w) (inr f) = let (d, other) = other_of s u goes e low y w f in inl (u, d, other)
              go (inr y) w f = inr (λ v d other. let q = same v d other in
                  ⊎_elim (λ o. omega (arith, o.0, other.ahead)) (λ o. ⊎_elim (λ i. omega (arith, o.0, o.1, other.ahead)) (λ i. omega (arith, o.1, i.0)) o.2)
                  (ends_cases hi follow k v d other.ends))
              go (inl y) (inl w) f = inr (λ v d other. other.stays (subst (λ u. IsWayOut a u) (same v d other) w))
              go (inl y) (inr w) (inl f) = inr (λ v d other. other.free (subst (λ u. IsEndBlock g.flow u) (same v d other) f))

          at : (n : ℕ) → n ≡ c → c < hi → HasOther
          at zero e low = absurd (omega (arith, branch.ahead))
          at (suc s) e low = ⊎_elim
              (λ (u, goes). by s e low u goes (cases_lt c u) (known_way_out a u) (known_end g u))
              (λ n. inr (λ u d other. n (u, moved s e u d other))) (known_always facts s)

      -- an IF without ELSE
      pub one_arm : ((u d : ℕ) → IsOther g hi follow a k c u d → ⊥) → IsPart g (suc lo) c t a k
      one_arm none = ⊎_elim
          (λ (same, low). subst (λ c. IsPart g (suc lo) c t a k) (sym same) (lower same low))
          (λ (e, f, o). subst (λ c. IsPart g (suc lo) c t a k) (sym e) (subst (λ t. IsPart g (suc lo) hi t a k) (sym f)
          (rest_part facts well part settled (suc lo) (clear_next g lo) (free_next g lo) (own_none g lo (suc lo) hi no_list) (omega arith))))
          (ends_cases hi follow k t c branch.ends)
        where
          over : (same : c ≡ t) → t < hi → (b u : ℕ) → LeadsTo g b u → lo < b → b < t → (IsWayOut a u → ⊥) → (IsEndBlock g.flow u → ⊥) → t < u → ⊥
          over same low b u lead y z away open_end v = ⊎_elim
              (λ j. let is_else = over_else same low b u j y z away open_end v in
              let goes : GoesOn g b (always u) = the_jump (over_plain same low b u j y z away open_end v) is_else.second in
              let (d, other) = other_of b u goes (omega (arith, is_else.next, same)) (omega arith) (omega arith) away open_end in none u d other)
              (λ e. omega arith) (leads_cases g b u lead)
            where
              the_jump : IsPlainJump g b u → IsUnconditional g b → GoesOn g b (always u)
              the_jump plain (w, goes) = subst (λ w. GoesOn g b (always w)) (sym (always_leads g b w u goes (jump_leads g b u plain.jump))) goes

          lower : (same : c ≡ t) → t < hi → IsPart g (suc lo) t t a k
          lower same low = arm_part (suc lo) t t k (clear_next g lo) (clear_t same low) (free_next g lo) no_list (omega arith) (omega arith)
              (λ e. absurd (omega arith)) (inr (inr (lo, branch_jump, omega arith))) (λ m y. absurd (omega arith))
              (λ b u lead y z away open_end w. ⊎_elim (λ v. absurd (over same low b u lead y z away open_end v))
              (λ v. (omega arith, inl refl)) (cases_lt t u))

      module _ (u d : ℕ) (other : IsOther g hi follow a k c u d) where
        pub low_c : c < hi
        low_c = let y = other_within u d other in omega (arith, other.ahead)

        pub same_c : c ≡ t
        same_c = (low_end low_c).0

        low_t : t < hi
        low_t = (low_end low_c).1

        next_t : suc other.source ≡ t
        next_t = let y = same_c in omega (arith, other.next)

        pub other_high : d ≤ hi
        other_high = other_within u d other

        pub other_span : d ≤ u
        other_span = ⊎_elim (λ o. omega (arith, o.0)) (λ o. ⊎_elim (λ f. omega (arith, o.0, o.1)) (λ f. omega (arith, o.0, o.1, f.0)) o.2)
            (ends_cases hi follow k u d other.ends)

        far_t : t < u
        far_t = let y = other_span in let z = same_c in omega (arith, other.ahead)

        other_jump : IsJump g other.source u
        other_jump = always_jumps g other.source u other.jump

        pub other_behind : lo < other.source
        other_behind = ⊎_elim (λ y. y)
            (λ y. absurd (not_both g other.source
            (t, subst (λ s. GoesOn g s (if_made t)) (let n = next_t in let z = branch_forward in let e : lo ≡ other.source = omega arith in e) branch.jump)
            (u, other.jump)))
            (cases_lt lo other.source)

        pub other_plain : IsPlainJump g other.source u
        other_plain = over_plain same_c low_t other.source u other_jump other_behind (omega (arith, next_t)) other.stays other.free far_t

        the_else : IsElse g lo t other.source
        the_else = over_else same_c low_t other.source u other_jump other_behind (omega (arith, next_t)) other.stays other.free far_t

        -- the arms of no list in the first arm end at the second one
        onto_counts : (b : ℕ) → lo < b → b < t → CountsAs g b t t
        onto_counts b y z = record { one = inl refl; most = omega arith; nearest = λ e (v, case, is, i, j). later v e case is i j }
          where
            leaves : (v : ℕ) → IsCaseEnd g v t → v < b → ⊥
            leaves v case i = let n = next_t in let f = far_t in ⊎_elim (λ o. omega (arith, o.0.high))
                (λ o. ⊎_elim (λ e. omega arith) (λ o. ⊎_elim (λ h. omega (arith, h.1.around.low))
                (λ o. ⊎_elim other_plain.no_exit other_plain.no_end o) o) o)
                (case.fits.exits other.source u other_jump (in_arms facts v t other.source case.list (omega arith) (omega arith)))

            later : (v e : ℕ) → IsCaseEnd g v t → IsTarget g v e → v < b → b < e → t ≤ e
            later v e case is i j = absurd (leaves v case i)

        pub first_arm : IsPart g (suc lo) c u a blocks
        first_arm = subst (λ c. IsPart g (suc lo) c u a blocks) (sym same_c)
            (arm_part (suc lo) t u blocks (clear_next g lo) (clear_t same_c low_t) (free_next g lo) no_list (omega arith) (let y = low_t in omega arith)
            (λ e. let y = low_t in absurd (omega arith)) (inr (inr (lo, branch_jump, omega arith))) (λ m y. absurd m)
            (λ b v lead y z away open_end w. ⊎_elim (λ e. by_last b v lead e)
            (λ n. absurd (⊎_elim (λ m. apart b v lead y z away open_end m n) (λ m. onto b v lead y z n (omega arith)) (cases_lt t v)))
            (cases_eq b other.source)))
          where
            by_last : (b v : ℕ) → LeadsTo g b v → b ≡ other.source → Follows g (suc b ≡ t) t u blocks b v
            by_last b v lead e =
                let goes : GoesOn g b (always u) = subst (λ s. GoesOn g s (always u)) (sym e) other.jump in
                (always_leads g b u v goes lead, inr (inl (omega (arith, next_t), (u, goes))))

            apart : (b v : ℕ) → LeadsTo g b v → lo < b → b < t → (IsWayOut a v → ⊥) → (IsEndBlock g.flow v → ⊥) → t < v
                → (b ≡ other.source → ⊥) → ⊥
            apart b v lead y z away open_end m n = ⊎_elim
                (λ j. let i = (over_else same_c low_t b v j y z away open_end m).next in n (omega (arith, next_t)))
                (λ e. omega arith) (leads_cases g b v lead)

            onto : (b v : ℕ) → LeadsTo g b v → lo < b → b < t → (b ≡ other.source → ⊥) → v ≡ t → ⊥
            onto b v lead y z n e = ⊎_elim
                (λ j. let i = the_else.alone b t (subst (λ v. IsJump g b v) e j) z (onto_counts b y z) in omega arith)
                (λ f. n (omega (arith, next_t))) (leads_cases g b v lead)

        pub other_clear : IsClear g lo d
        other_clear = ⊎_elim
            (λ o. subst (λ d. IsClear g lo d) (sym o.0) (clear_over facts well lo other.source u
            (subst (λ t. IsClear g lo t) (sym next_t) (clear_t same_c low_t)) other_jump (let f = far_t in omega (arith, next_t))))
            (λ o. subst (λ d. IsClear g lo d) (sym o.0) (clear_end part)) (ends_cases hi follow k u d other.ends)

        -- lists before a block to which the last block of the first arm jumps
        free_over : u < hi → IsFree g lo u
        free_over low v e case y z = ⊎_elim
            (λ i. absurd (⊎_elim (λ q. always_no_list g other.source u other.jump (subst (λ s. IsList g s) (sym q) case.list))
            (λ o. let n = next_t in let m = free_t same_c low_t v e case y (omega (arith, o.0)) in omega (arith, o.1))
            (case_entries facts case other.source u other_jump z i)))
            (λ i. i) (cases_lt u e)

        pub other_free : IsFree g lo d
        other_free = ⊎_elim (λ o. subst (λ d. IsFree g lo d) (sym o.0) (free_over o.1))
            (λ o. subst (λ d. IsFree g lo d) (sym o.0) (free_end facts well part)) (ends_cases hi follow k u d other.ends)

        pub other_rest : IsPart g d hi follow a k
        other_rest = rest_part facts well part settled d other_clear other_free (own_none g lo d hi no_list) (omega (arith, branch.ahead, other.ahead))

        -- the jump over the second arm counts counted one to where it leads
        other_counts : u < hi → CountsAs g other.source u u
        other_counts low = record { one = inl refl; most = omega arith; nearest = λ e (v, case, is, i, j). later v e case is i j }
          where
            later : (v e : ℕ) → IsCaseEnd g v u → IsTarget g v e → v < other.source → other.source < e → u ≤ e
            later v e case is i j = let n = next_t in let f = far_t in ⊎_elim
                (λ m. let w = later_behind other.source u e v case is m (let z = other_behind in omega arith) j in omega arith)
                (λ m. ⊎_elim (λ q. absurd (no_list (subst (λ v. IsList g v) q case.list)))
                (λ q. absurd (let w = free_t same_c low_t v u case (omega arith) (omega arith) in omega arith)) (cases_eq v lo)) (cases_lt v lo)

        pub second_arm : IsPart g c d u a k
        second_arm = subst (λ c. IsPart g c d u a k) (sym same_c) (⊎_elim
            (λ o. subst (λ d. IsPart g t d u a k) (sym o.0) (lower o.1))
            (λ o. subst (λ d. IsPart g t d u a k) (sym o.0) (subst (λ u. IsPart g t hi u a k) (sym o.1)
            (rest_part facts well part settled t (clear_t same_c low_t) (free_t same_c low_t) (own_none g lo t hi no_list) branch_forward)))
            (ends_cases hi follow k u d other.ends))
          where
            over : u < hi → (b v : ℕ) → LeadsTo g b v → t ≤ b → b < u → (IsWayOut a v → ⊥) → (IsEndBlock g.flow v → ⊥) → u < v → ⊥
            over low b v lead y z away open_end m = let f = branch_forward in ⊎_elim
                (λ j. let plain = plain_over u clear_u (free_over low) b v j (omega arith) z (omega arith) m away open_end in
                let (e, counted) = counts facts well b v in
                let is_else = well.crossings other.source u u b v e other_plain (other_counts low) plain counted (let n = next_t in omega arith) z
                (beyond e counted) in
                not_both g other.source is_else.first (u, other.jump))
                (λ e. omega arith) (leads_cases g b v lead)
              where
                clear_u : IsClear g lo u
                clear_u = clear_over facts well lo other.source u (subst (λ t. IsClear g lo t) (sym next_t) (clear_t same_c low_t)) other_jump
                    (let f = far_t in omega (arith, next_t))

                beyond : (e : ℕ) → CountsAs g b v e → u < e
                beyond e counted = let f = branch_forward in ⊎_elim (λ q. omega arith) (λ (w, case, is, i, j). later w case is i j) counted.one
                  where
                    later : (w : ℕ) → IsCaseEnd g w v → IsTarget g w e → w < b → b < e → u < e
                    later w case is i j = ⊎_elim (λ n. let r = later_behind b v e w case is n (omega arith) j in omega arith)
                        (λ n. ⊎_elim (λ q. absurd (no_list (subst (λ w. IsList g w) q case.list)))
                        (λ q. absurd (let r = free_over low w v case (omega arith) (omega arith) in omega arith)) (cases_eq w lo)) (cases_lt w lo)

            lower : u < hi → IsPart g t u u a k
            lower low = arm_part t u u k (clear_t same_c low_t) (clear_over facts well lo other.source u (subst (λ t. IsClear g lo t) (sym next_t)
                (clear_t same_c low_t))
                other_jump (let f = far_t in omega (arith, next_t))) (free_t same_c low_t) no_list branch_forward (omega arith) (λ e. absurd (omega arith))
                (inr (inr (other.source, other_jump, omega (arith, next_t)))) (λ m y. absurd (omega arith))
                (λ b v lead y z away open_end w. ⊎_elim (λ m. absurd (over low b v lead y z away open_end m)) (λ m. (omega arith, inl refl)) (cases_lt u v))
