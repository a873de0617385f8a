-- The arms of a jump list in a well-nested segment are parts.
use Rattle.std.proofs.Common.{◌≡◌, ◌⊎◌, inl, inr, ⊎_elim, ℕ, zero, suc, ◌+◌, ◌-◌, ◌<◌, ◌≤◌, refl, sym, subst, arith}
use Rattle.std.proofs.lemmas.Bool.{cases_eq, cases_lt}
use Rattle.stl_tree.specs.Blocks.{Way, always, stops}
use Rattle.stl_tree.specs.Flows.{GoesOn, IsEndBlock, IsExitJump, IsIn, IsInnermost, IsJump, IsLoop, IsUnconditional, Segment}
use Rattle.stl_tree.specs.WellNested.{EndsArm, IsCaseEnd, IsSameArm, IsTarget, IsWellNestedByPaths}
use Rattle.nesting_laws.specs.Plans.{Around, IsChoice, IsEndOfArms, IsNextArm, IsWayOut, Kind, LeadsTo, inside, list_arm, list_arms, no_loop}
use Rattle.nesting_laws.proofs.Contexts.{AllLand, IsContext, LandsBare, endless_leaves}
use Rattle.nesting_laws.proofs.Arms.{no_exit_jump}
use Rattle.nesting_laws.proofs.Exits.{always_jumps, always_leads, jump_leads, leads_cases, stops_lead}
use Rattle.nesting_laws.proofs.Facts.{Facts, innermost, same_last}
use Rattle.nesting_laws.proofs.Lists.{arms_behind, case_behind, case_entries, forced, forced_jump, in_arms, known_target, label_target, nests, same_case_end}
use Rattle.nesting_laws.proofs.Parts.{Follows, Holds, IsAround, IsClear, IsMet, IsOwn, IsPart, IsSettled, Lands, case_within, clear_lead, free_lead, known_end, known_way_out, narrow_around, rest_part, sub_cases, sub_loops}
use Rattle.nesting_laws.proofs.Reaching.{IsKnown}

-- the turn of the loop around
turn_way : (g : Segment) (a : Around) (lo hi b t last : ℕ) → IsAround g a lo hi → lo ≤ b → b < hi → IsInnermost g t last b → Holds a t → IsWayOut a t
turn_way g no_loop lo hi b t last o x y is held = absurd held
turn_way g (inside left k l) lo hi b t last (loop, i, j) x y is held =
    let z = is.inner k l (record { loop = loop; low = omega arith; high = omega arith }) in inl (omega arith)

pub ends_way : (g : Segment) (e b : ℕ) (way : Way) → EndsArm g e b way → GoesOn g b way → GoesOn g b stops ⊎ IsUnconditional g b
ends_way g e b stops is goes = inl goes
ends_way g e b (always t) is goes = inr (t, goes)
ends_way g e b other is goes = absurd is

module _ {g : Segment} (facts : Facts g) (well : IsWellNestedByPaths g) {lo hi follow : ℕ} {a : Around} {k : Kind} (part : IsPart g lo hi follow a k)
    (settled : IsSettled g a lo) (x : lo < hi) (e : ℕ) (case : IsCaseEnd g lo e) where
  pub case_high : e ≤ hi
  case_high = case_within facts well part lo e case (omega arith) x

  pub case_clear : IsClear g lo e
  case_clear h l loop y z w = ⊎_elim (λ q. omega (arith, loop.ordered)) (λ o. omega (arith, o.1)) (case_entries facts case l h loop.back y z)

  pub case_rest : IsPart g e hi follow a k
  case_rest = rest_part facts well part settled e case_clear (λ y d inner. nests facts case inner)
      (λ d other. inl (let q = same_case_end other case in omega arith)) (case_behind facts case)

  target_lead : (t : ℕ) → IsTarget g lo t → LeadsTo g lo t
  target_lead t is = jump_leads g lo t is.jump

  choice_ends : IsEndOfArms g lo e a
  choice_ends = ⊎_elim inl (λ (s, t, is, y, z, jump, stays). inr (s, t, is, y, z, jump, no_way s t is y z jump stays, λ end. stays (inr end)))
      (forced facts case)
    where
      no_way : (s t : ℕ) → IsTarget g lo t → lo < s → s < t → IsJump g s e → (IsExitJump g s e ⊎ IsEndBlock g.flow e → ⊥) → IsWayOut a e → ⊥
      no_way s t is y z jump stays w = by a part.around w
        where
          low : s < e
          low = omega (arith, (case.fits.after t is).1)

          by : (a : Around) → IsAround g a lo hi → IsWayOut a e → ⊥
          by no_loop o w = w
          by (inside left i l) (loop, v, u) (inl q) = let r = case_behind facts case in omega arith
          by (inside left i l) (loop, v, u) (inr q) = let r = low in
              let r' = case_high in at (innermost facts s i l (record { loop = loop; low = omega arith; high = omega arith }))
            where
              at : (h : ℕ) × (m : ℕ) × IsInnermost g h m s → ⊥
              at (h, m, is) = ⊎_elim (λ o. inside_it o.1)
                  (λ o. ⊎_elim (λ p. stays (inl (h, m, is, p))) (λ p. stays (inr p)) o) (well.exits s e h m jump is)
                where
                  inside_it : e ≤ m → ⊥
                  inside_it p = let r = low in let n = q.1 in let c = is.inner i l (record { loop = loop; low = omega arith; high = omega arith }) in
                      ⊎_elim (λ o. omega (arith, is.around.low)) (λ o. ⊎_elim (λ o. omega (arith, is.around.high)) (λ o. ⊎_elim (λ o. omega arith)
                      (λ o. let f = same_last facts i l h m loop is.around.loop (omega arith) in omega arith) o) o) (well.loops i l h m loop is.around.loop)

  pub choice : IsChoice g lo hi follow a e
  choice = record {
    list = case.list;
    after = case.fits.after;
    ends = choice_ends;
    closed = λ b t is y z here. closed b t is y z here (facts.goes b here);
    within = case_high;
    falls = λ q. falls q (forced_jump facts case);
  }
    where
      closed : (b t : ℕ) → IsTarget g lo t → suc lo < t → suc b ≡ t → IsIn g b → (way : Way) × GoesOn g b way → GoesOn g b stops ⊎ IsUnconditional g b
      closed b t is y z here (way, goes) = ends_way g e b way (case.fits.closed b (suc lo) t way (label_target facts lo case.list) is y z goes) goes

      falls : e ≡ hi → (s : ℕ) × (lo ≤ s) × (s < e) × IsJump g s e → (follow ≡ hi) ⊎ (IsWayOut a e ⊎ IsEndBlock g.flow e)
      falls q (s, y, z, jump) = ⊎_elim (λ i. absurd (omega (arith, i.1))) (λ o. ⊎_elim (λ w. inr (inl w)) (λ o. ⊎_elim (λ w. inr (inr w))
          (λ f. inl (omega (arith, f.0))) o) o) (part.lands s e (jump_leads g s e jump) y (omega arith))

  -- the arm that begins at a target
  search_next : (u n d : ℕ) → IsTarget g lo u → d + n ≡ e → u < d → ((t : ℕ) → IsTarget g lo t → (t ≤ u) ⊎ (d ≤ t)) → (c : ℕ) × IsNextArm g lo u e c
  search_next u zero d is q y f = (d, record { begins = is; some = y; within = omega arith; ends = inr (omega arith); alone = f })
  search_next u (suc n) d is q y f = by (known_target facts lo d case.list)
      (λ none. search_next u n (suc d) is (omega arith) (omega arith)
      (λ t other. ⊎_elim inl (λ z. ⊎_elim (λ i. absurd (none (subst (λ t. IsTarget g lo t) i other))) (λ i. inr (omega arith)) (cases_eq t d)) (f t other)))
    where
      by : IsKnown (IsTarget g lo d) → ((IsTarget g lo d → ⊥) → (c : ℕ) × IsNextArm g lo u e c) → (c : ℕ) × IsNextArm g lo u e c
      by (inl other) more = (d, record { begins = is; some = y; within = omega arith; ends = inl other; alone = f })
      by (inr none) more = more none

  pub next_arm : (u : ℕ) → IsTarget g lo u → u < e → (d : ℕ) × IsNextArm g lo u e d
  next_arm u is y = search_next u (e - suc u) (suc u) is (omega arith) (omega arith) (λ t other. ⊎_elim (λ z. inr z) (λ z. inl z) (cases_lt u t))

  -- a jump from an arm out of all arms is a way out, or one to the end word
  far_jump : (b t : ℕ) → IsJump g b t → lo < b → b < e → (t ≤ lo) ⊎ (e < t) → (IsWayOut a t → ⊥) → (IsEndBlock g.flow t → ⊥) → ⊥
  far_jump b t jump y z o stays free = let c = case_high in ⊎_elim
      (λ s. let q = arms_behind facts case t s.0 in ⊎_elim (λ w. omega arith) (λ w. omega (arith, s.0.high)) o)
      (λ s. ⊎_elim (λ q. ⊎_elim (λ w. omega arith) (λ w. omega arith) o) (λ s. ⊎_elim
      (λ (last, is). ⊎_elim (λ w. stays (turn last is w)) (λ w. omega (arith, is.around.low)) o)
      (λ s. ⊎_elim (λ exit. no_exit_jump facts well part settled b t jump (omega arith)
      (omega arith) stays (λ h l loop m n p q. left h l loop m n p q) exit) free s) s) s)
      (case.fits.exits b t jump (in_arms facts lo e b case.list y z))
    where
      turn : (last : ℕ) → IsInnermost g t last b → t ≤ lo → IsWayOut a t
      turn last is v = let c = case_high in turn_way g a lo hi b t last part.around (omega arith) (omega arith) is
          (⊎_elim (λ o. settled t last is.around.loop (omega (arith, o.0))) (λ h. h)
          (part.loops t last is.around.loop (omega arith) (omega (arith, is.around.high))))

      left : (h l : ℕ) → IsLoop g h l → lo < h → h ≤ b → b ≤ l → t ≡ suc l → ⊥
      left h l loop m n p q = ⊎_elim (λ w. omega arith) (λ w. case_clear h l loop m (omega arith) (omega arith)) o

  module _ (u d : ℕ) (next : IsNextArm g lo u e d) where
    pub arm_behind : lo < u
    arm_behind = (case.fits.after u next.begins).0

    clear_u : IsClear g lo u
    clear_u = clear_lead facts well lo u (target_lead u next.begins)

    clear_d : IsClear g lo d
    clear_d = ⊎_elim (λ is. clear_lead facts well lo d (target_lead d is)) (λ q. subst (λ d. IsClear g lo d) (sym q) case_clear) next.ends

    -- what jumps from the arm stays in it, or leads to the end of all
    abbrev Stays : ℕ → ℕ → Type 0
    Stays b t = ((u ≤ t) × (t < d)) ⊎ Follows g (suc b ≡ d) d e list_arm b t

    to_end : (b t : ℕ) → t ≡ e → Stays b t
    to_end b t q = inr (q, ⊎_elim (λ y. inr (inr (y, tt))) (λ y. inl (omega (arith, next.within))) (cases_lt d e))

    same_stays : (b t : ℕ) → u ≤ b → b < d → t < e → IsSameArm g lo b t → Stays b t
    same_stays b t y z w same = inl (
      (same u next.begins).0 y,
      ⊎_elim (λ v. v)
          (λ v. absurd (⊎_elim (λ is. let i = (same d is).1 v in omega arith) (λ q. omega arith) next.ends)) (cases_lt t d),
    )

    jump_stays : (b t : ℕ) → IsJump g b t → u ≤ b → b < d → (IsWayOut a t → ⊥) → (IsEndBlock g.flow t → ⊥) → Stays b t
    jump_stays b t jump y z stays free = let i = arm_behind in let j = next.within in
        ⊎_elim (λ v. out (inl v)) (λ v. ⊎_elim (λ w. into v w) (λ w. ⊎_elim (λ q. to_end b t q) (λ n. out (inr (omega arith))) (cases_eq t e)) (cases_lt t e))
        (below t)
      where
        below : (t : ℕ) → (t ≤ lo) ⊎ (lo < t)
        below t = ⊎_elim inr inl (cases_lt lo t)

        into : lo < t → t < e → Stays b t
        into v w = let i = arm_behind in ⊎_elim (λ q. absurd (omega arith)) (λ o. same_stays b t y z w o.2) (case_entries facts case b t jump v w)

        out : (t ≤ lo) ⊎ (e < t) → Stays b t
        out o = let i = arm_behind in let j = next.within in absurd (far_jump b t jump (omega arith) (omega arith) o stays free)

    arm_lands : (b t : ℕ) → LeadsTo g b t → u ≤ b → b < d → Lands g (suc b ≡ d) u d e a list_arm b t
    arm_lands b t lead y z = by (known_way_out a t) (known_end g t)
      where
        falls : (IsWayOut a t → ⊥) → (IsEndBlock g.flow t → ⊥) → t ≡ suc b → Stays b t
        falls stays free q = ⊎_elim (λ w. inl (omega arith, w))
            (λ w. ⊎_elim (λ is. last is (let r : suc b ≡ d = omega arith in r)) (λ r. to_end b t (omega arith)) next.ends) (cases_lt t d)
          where
            last : IsTarget g lo d → suc b ≡ d → Stays b t
            last is r = let i = arm_behind in ⊎_elim (λ goes. absurd (stops_lead g b t goes lead))
                (λ (v, goes). let s = always_leads g b v t goes lead in
                jump_stays b t (subst (λ v. IsJump g b v) (sym s) (always_jumps g b v goes)) y z stays free)
                (choice.closed b d is (omega arith) r lead.1.0)

        by : IsKnown (IsWayOut a t) → IsKnown (IsEndBlock g.flow t) → Lands g (suc b ≡ d) u d e a list_arm b t
        by (inl v) w = inr (inl v)
        by (inr v) (inl w) = inr (inr (inl w))
        by (inr v) (inr w) = ⊎_elim inl (λ f. inr (inr (inr f)))
            (⊎_elim (λ jump. jump_stays b t jump y z v w) (λ q. falls v w q) (leads_cases g b t lead))

    met : IsMet g u d
    met = ⊎_elim (λ is. inr (inr (lo, is.jump, arm_behind))) (λ q. subst (λ d. IsMet g u d) (sym q) (end_met q)) next.ends
      where
        end_met : d ≡ e → IsMet g u e
        end_met q = ⊎_elim (λ is. inr (inr (lo, is.jump, arm_behind)))
            (λ (s, t, is, y, z, jump, n). ⊎_elim (λ i. inr (inr (s, jump, omega arith)))
            (λ i. let j = (case.fits.after t is).1 in inr (inr (lo, subst (λ t. IsJump g lo t) (let r : t ≡ e = omega arith in r) is.jump, arm_behind)))
            (next.alone t is)) (forced facts case)

    pub list_arm_part : IsPart g u d e a list_arm
    list_arm_part = let i = arm_behind in let j = next.within in let c = case_high in record {
      low = omega (arith, part.low);
      high = omega (arith, part.high);
      around = narrow_around g a lo hi u d (omega arith) (omega arith) part.around;
      left = part.left;
      met = met;
      arm = λ y z. record { list = lo; case = case; before = arm_behind; next = ⊎_elim (λ is. is) (λ q. absurd (omega arith)) next.ends };
      lands = arm_lands;
      loops = sub_loops facts well part settled u d clear_u clear_d (omega arith) (omega arith);
      cases = sub_cases facts well part settled u d (free_lead facts well lo u (target_lead u next.begins)) own (omega arith) (omega arith);
    }
      where
        own : IsOwn g lo u d
        own r other = let q = same_case_end other case in let j = next.within in inr (omega arith, next.alone)

    -- what jumps into the arm from outside of it
    arm_back : (s v : ℕ) → IsJump g s v → d ≤ s → u ≤ v → v < d → ⊥
    arm_back s v jump y z w = let i = arm_behind in let j = next.within in ⊎_elim (λ q. omega arith)
        (λ o. ⊎_elim (λ is. let q = (o.2 d is).0 y in omega arith) (λ q. omega (arith, o.1)) next.ends)
        (case_entries facts case s v jump (omega arith) (omega arith))

    arm_entry : (s v : ℕ) → IsJump g s v → s < u → u < v → v < d → ⊥
    arm_entry s v jump y z w = let i = arm_behind in let j = next.within in ⊎_elim
        (λ q. ⊎_elim (λ m. omega arith) (λ m. omega arith)
        (next.alone v (record { list = case.list; jump = subst (λ s. IsJump g s v) q jump })))
        (λ o. let q = (o.2 u next.begins).1 (omega arith) in omega arith)
        (case_entries facts case s v jump (omega arith) (omega arith))

    pub list_arm_context : IsContext g u d e a list_arm
    list_arm_context = let i = arm_behind in let j = next.within in let c = case_high in record {
      around = narrow_around g a lo hi u d (omega arith) (omega arith) part.around;
      left = endless_leaves g a part.left;
      far = inl (omega arith);
      back = arm_back;
      entry = λ s t jump z w v open_end source q m n r. arm_entry s t jump z w v;
      early = λ v source. absurd source;
    }

  -- where all arms together lead
  pub chain_lands : AllLand g (suc lo) e e a (list_arms lo)
  chain_lands b t lead y z = by (known_way_out a t) (known_end g t)
    where
      near : (lo < t) → (t ≤ e) → LandsBare g (suc lo) e e a (list_arms lo) b t
      near v w = ⊎_elim (λ i. inl (omega arith, i)) (λ i. inr (inr (inr (omega arith, inl refl)))) (cases_lt t e)

      by : IsKnown (IsWayOut a t) → IsKnown (IsEndBlock g.flow t) → LandsBare g (suc lo) e e a (list_arms lo) b t
      by (inl v) w = inr (inl v)
      by (inr v) (inl w) = inr (inr (inl w))
      by (inr v) (inr w) = ⊎_elim
          (λ jump. ⊎_elim (λ i. ⊎_elim (λ j. absurd (far_jump b t jump (omega arith) z (inr j) v w)) (λ j. near i j) (cases_lt e t))
          (λ i. absurd (far_jump b t jump (omega arith) z (inl i) v w)) (cases_lt lo t))
          (λ q. near (omega arith) (omega arith)) (leads_cases g b t lead)
