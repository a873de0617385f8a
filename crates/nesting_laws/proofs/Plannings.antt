-- A segment that is well nested has a plan.
use Rattle.std.proofs.Common.{◌≡◌, ◌⊎◌, inl, inr, ⊎_elim, ℕ, zero, suc, ◌+◌, ◌<◌, ◌≤◌, Bool, true, false, refl, sym, subst, ◌∙◌, arith}
use Rattle.std.proofs.lemmas.Bool.{cases_lt}
use Rattle.stl_tree.specs.Blocks.{Way, always, if_made, stops}
use Rattle.stl_tree.specs.Segments.{IsReached}
use Rattle.stl_tree.specs.Flows.{GoesOn, IsConditional, IsEndBlock, IsIn, IsJump, IsList, IsLoop, Segment, blocks_of}
use Rattle.stl_tree.specs.WellNested.{IsCaseEnd, IsTarget, IsWellNestedByPaths}
use Rattle.nesting_laws.specs.PlanLaws.{NestedByPathsIsPlanned, WellNestedIsPlanned}
use Rattle.nesting_laws.specs.Plans.{Around, Goes, IsBare, IsBranch, IsFresh, IsLeft, IsListArm, IsNextArm, IsOne, IsOther, IsPlan, IsPlanOf, IsRow, IsWayOut, Kind, LeadsTo, Plan, arm, arms, blocks, cases, done, inside, levels, list_arm, list_arms, loop, next, no_loop, one, skip}
use Rattle.nesting_laws.proofs.Arms.{branch_of, branch_plain, branch_rest, branch_span, branch_within, first_arm, known_other, one_arm, other_behind, other_high, other_plain, other_rest, other_span, same_c, second_arm}
use Rattle.nesting_laws.proofs.Cases.{of_four}
use Rattle.nesting_laws.proofs.Contexts.{AllLand, IsContext, arm_context, arm_rest_context, arms_rest_context, body_context, choice_rest_context, first_context, loop_rest_context, one_context, row_source, second_context, skip_context, whole_context}
use Rattle.nesting_laws.proofs.Exits.{always_jump, always_jumps, always_leads, jump_cases, jump_in, jump_leads, leads_cases, list_or_not, made_jump, made_jumps, made_leads, made_no_list, made_or_not, not_both, same_way, stops_lead}
use Rattle.nesting_laws.proofs.Facts.{Facts, IsOutside, back_loop, facts_of}
use Rattle.nesting_laws.proofs.ListArms.{arm_behind, case_high, case_rest, chain_lands, choice, ends_way, list_arm_context, list_arm_part, next_arm}
use Rattle.nesting_laws.proofs.Lists.{case_behind, case_entries, label_target}
use Rattle.nesting_laws.proofs.Parts.{Holds, IsArmOf, IsAround, IsClear, IsEndless, IsPart, IsSettled, MayLeave, behind_part, body_part, clear_end, clear_lead, clear_next, free_next, holds_low, holds_way, known_end, known_way_out, own_none, rest_part}
use Rattle.nesting_laws.proofs.Reaching.{IsKnown, known_reached}
use Rattle.nesting_laws.proofs.Spans.{Spans, few_spans, inner_spans, jump_spans, loop_spans, no_spans}

-- no jump from the end of a part leads back in it, but where the part goes on behind its end, or is an arm of a list
abbrev IsTight : Segment → ℕ → ℕ → ℕ → Kind → Type 0
IsTight g lo hi follow k = (s t : ℕ) → IsJump g s t → suc s ≡ hi → lo ≤ t → t ≤ s → (follow ≡ hi) ⊎ ((hi < follow) × IsListArm k)

-- a plan of a part in so many spans
abbrev Planned : Segment → ℕ → Bool → ℕ → ℕ → ℕ → Around → Kind → Type 0
Planned g m paid lo hi follow a k = (plan : Plan) × IsPlan g plan paid lo hi follow a k × (levels plan + m ≤ 64)

-- all parts of so many blocks have plans
abbrev Smaller : Segment → ℕ → Type 0
Smaller g n = (lo hi follow : ℕ) (a : Around) (k : Kind) → IsPart g lo hi follow a k → IsContext g lo hi follow a k → IsTight g lo hi follow k → IsRow k
    → lo ≤ hi → hi ≤ n + lo → (Holds a lo → ⊥) → (m : ℕ) → Spans g m lo lo lo hi → m ≤ 64 → Planned g m false lo hi follow a k

land_of : {g : Segment} {lo hi follow : ℕ} {a : Around} {k : Kind} → IsPart g lo hi follow a k → AllLand g lo hi follow a k
land_of part b t lead x y = of_four inl (λ w. inr (inl w)) (λ e. inr (inr (inl e)))
    (λ f. inr (inr (inr (f.0, ⊎_elim inl (λ o. inr (⊎_elim (λ n. inl ((λ q z w r. let e = n.0 in omega arith), n.1)) inr o)) f.1)))) (part.lands b t lead x y)

holds_before : (g : Segment) (a : Around) (lo hi c : ℕ) → IsAround g a lo hi → lo < c → Holds a c → ⊥
holds_before g a lo hi c around x held = let y = holds_low g a lo hi c around held in omega arith

module _ {g : Segment} (facts : Facts g) (well : IsWellNestedByPaths g) where
  module _ {lo hi follow : ℕ} {a : Around} {k : Kind} (part : IsPart g lo hi follow a k) (ctx : IsContext g lo hi follow a k) (settled : IsSettled g a lo)
      (row : IsRow k) (here : IsIn g lo) (x : lo < hi) where
    -- what leads between the first block and one to which it leads
    between : (d : ℕ) → d ≤ hi → IsClear g lo d → ((v : ℕ) → LeadsTo g lo v → lo < v → v < d → ⊥) → ((e : ℕ) → IsEndBlock g.flow e → lo < e → e < d → ⊥)
        → (b t : ℕ) → LeadsTo g b t → IsOutside lo d b → lo < t → t < d → ⊥
    between d y clear alone ends_far b t lead (inr n) i j = let (l, is, m) = back_loop facts b t lead (omega arith) in clear t l is i j (omega arith)
    between d y clear alone ends_far b t lead (inl n) i j = ⊎_elim
        (λ m. ⊎_elim (λ jump. ctx.entry b t jump m i (omega arith) (λ e. ends_far t e i j) (row_source k b row) lo (omega arith) i here.reached)
        (λ e. omega arith) (leads_cases g b t lead))
        (λ m. alone t (subst (λ b. LeadsTo g b t) (let e : b ≡ lo = omega arith in e) lead) i j) (cases_lt b lo)

    bare_to : (d : ℕ) → d ≤ hi → IsClear g lo d → ((v : ℕ) → LeadsTo g lo v → lo < v → v < d → ⊥) → ((e : ℕ) → IsEndBlock g.flow e → lo < e → e < d → ⊥)
        → IsBare g lo d
    bare_to d y clear alone ends_far q z w r = ⊎_elim (λ i. omega arith) (λ i. omega arith)
        (facts.by_paths lo d part.low
        (λ b t lead o. ⊎_elim (λ i. ⊎_elim (λ j. absurd (between d y clear alone ends_far b t lead o i j)) inr (cases_lt t d)) inl (cases_lt lo t))
        q (record { reached = r; low = omega (arith, part.low); high = omega (arith, part.high) }))

    -- a block that goes one way: it falls, or jumps unconditionally
    only_way : (d v : ℕ) → (IsConditional g lo → ⊥) → (IsList g lo → ⊥) → LeadsTo g lo d → LeadsTo g lo v → lo < v → v < d → ⊥
    only_way d v plain single lead lead' y z = ⊎_elim
        (λ j. ⊎_elim (λ made. plain (d, made)) (λ o. ⊎_elim (λ goes. let e = always_leads g lo d v goes lead' in omega arith) single o) (jump_cases g lo d j))
        (λ e. omega arith) (leads_cases g lo d lead)

    bare_way : (d : ℕ) → d ≤ hi → LeadsTo g lo d → ((IsConditional g lo → ⊥) × (IsList g lo → ⊥)) ⊎ (d ≡ suc lo) → IsBare g lo d
    bare_way d y lead o = bare_to d y (clear_lead facts well lo d lead)
        (λ v lead' z w. ⊎_elim (λ plain. only_way d v plain.0 plain.1 lead lead' z w) (λ e. omega arith) o)
        (λ e end z w. omega (arith, facts.up_to_end lo d e lead end))

    back_way : (t : ℕ) → LeadsTo g lo t → lo ≤ t → t ≤ lo → IsWayOut a t
    back_way t lead y z = let (l, is, v) = back_loop facts lo t lead z in holds_way g a lo hi t part.around y (settled t l is (omega arith))

    goes_of : (t : ℕ) → LeadsTo g lo t → ((IsConditional g lo → ⊥) × (IsList g lo → ⊥)) ⊎ (t ≡ suc lo) → Goes g lo hi follow a t
    goes_of t lead how = of_four
        (λ i. ⊎_elim (λ w. inl (w, i.1, bare_way t (omega arith) lead how)) (λ w. inr (inl (back_way t lead i.0 w))) (cases_lt lo t))
        (λ w. inr (inl w)) (λ e. inr (inr (inl e)))
        (λ (e, n). inr (inr (inr (off e n)))) (part.lands lo t lead (omega arith) x)
      where
        -- the last block of an arm of a list jumps to the end of all arms
        bare_arm : hi < follow → t ≡ follow → IsBare g lo hi
        bare_arm low e = let far : hi ≤ t = omega arith in bare_to hi (omega arith) (clear_end part)
            (λ v lead' z w. ⊎_elim (λ plain. only_way t v plain.0 plain.1 lead lead' z (omega arith)) (λ q. omega arith) how)
            (λ v end z w. omega (arith, facts.up_to_end lo t v lead end))

        jumps : t ≡ follow → hi < follow → (u : ℕ) × GoesOn g lo (always u)
        jumps e low = ⊎_elim (λ j. ⊎_elim (λ made. ⊎_elim (λ plain. absurd (plain.0 (t, made))) (λ q. absurd (omega arith)) how)
            (λ o. ⊎_elim (λ goes. (t, goes)) (λ list. ⊎_elim (λ plain. absurd (plain.1 list)) (λ q. absurd (omega arith)) how) o) (jump_cases g lo t j))
            (λ q. absurd (omega arith)) (leads_cases g lo t lead)

        off : t ≡ follow → (follow ≡ hi) ⊎ (((suc lo ≡ hi) × ((u : ℕ) × GoesOn g lo (always u))) ⊎ ((hi < follow) × IsListArm k))
            → (t ≡ follow) × IsBare g lo hi × ((follow ≡ hi) ⊎ ((u : ℕ) × GoesOn g lo (always u)))
        off e (inl f) = let q : t ≡ hi = e ∙ f in (e, subst (λ d. IsBare g lo d) q (bare_way t (omega arith) lead how), inl f)
        off e (inr (inl (f, u))) = (e, (λ q z w r. omega arith), inr u)
        off e (inr (inr (low, is))) = (e, bare_arm low e, inr (jumps e low))

    module _ (n : ℕ) (more : Smaller g n) (size : hi ≤ suc n + lo) (tight : IsTight g (suc lo) hi follow k) (m : ℕ) (spans : Spans g m (suc lo) lo lo hi)
        (paid : Bool) (fresh : IsFresh g paid lo) where
      few : m ≤ 64
      few = few_spans g m (suc lo) lo lo hi well.shallow spans x

      after : (c : ℕ) → lo < c → Holds a c → ⊥
      after c y = holds_before g a lo hi c part.around y

      tight_from : (d : ℕ) → lo < d → IsTight g d hi follow k
      tight_from d y s v j e z w = tight s v j e (omega arith) w

      -- the rest from a block on
      rest_planned : (d : ℕ) → lo < d → d ≤ hi → IsPart g d hi follow a k → IsContext g d hi follow a k → Planned g m false d hi follow a k
      rest_planned d y z behind c = more d hi follow a k behind c (tight_from d y) row z (omega arith) (after d y) m
          (inner_spans g m (suc lo) lo lo hi spans d hi d d (omega arith) (omega arith) y (omega arith)) few

      by_one : (IsList g lo → ⊥) → ((t : ℕ) → LeadsTo g lo t → Goes g lo hi follow a t)
          → ((t : ℕ) → GoesOn g lo (if_made t) → IsWayOut a t ⊎ IsEndBlock g.flow t)
          → Planned g m paid lo hi follow a k
      by_one single leads jumps =
          let is : IsOne g paid lo hi follow a = record { here = here; fresh = fresh; leads = leads; jumps = jumps; no_list = single } in
          let (q, planned, few) = rest_planned (suc lo) (omega arith) x
          (rest_part facts well part settled (suc lo) (clear_next g lo) (free_next g lo) (own_none g lo (suc lo) hi single) (omega arith))
          (one_context facts ctx row paid x is) in
          (one q, (x, row, is, planned), few)

      module _ (t : ℕ) (made : GoesOn g lo (if_made t)) where
        lead_t : LeadsTo g lo t
        lead_t = jump_leads g lo t (made_jumps g lo t made)

        -- the jump of a branch is a way out, or one to the end
        by_leaf : IsWayOut a t ⊎ IsEndBlock g.flow t → Planned g m paid lo hi follow a k
        by_leaf w = by_one (made_no_list g lo t made)
            (λ v lead. ⊎_elim (λ e. ⊎_elim (λ o. inr (inl (subst (λ v. IsWayOut a v) (sym e) o)))
            (λ o. inr (inr (inl (subst (λ v. IsEndBlock g.flow v) (sym e) o)))) w) (λ e. goes_of v lead (inr e)) (made_leads g lo t v made lead))
            (λ v goes. subst (λ v. IsWayOut a v ⊎ IsEndBlock g.flow v) (let e = same_way g lo (if_made t) (if_made v) made goes in cc) w)

        module _ (c : ℕ) (branch : IsBranch g lo hi follow a k t c) where
          by_arm : ((u d : ℕ) → IsOther g hi follow a k c u d → ⊥) → Planned g m paid lo hi follow a k
          by_arm none =
              let ahead = branch.ahead in let top = branch_within facts well part settled x t c branch in
              let span = branch_span facts well part settled x t c branch in
              let inner = one_arm facts well part settled x t c branch none in
              let outer = branch_rest facts well part settled x t c branch in
              let plain = branch_plain facts well part settled x t c branch in
              let land = land_of inner in let land' = land_of outer in
              let around = jump_spans g m (suc lo) lo lo hi spans lo t (suc lo) c (inl plain) (omega arith) (omega arith) (omega arith) (omega arith) top in
              let most = few_spans g (suc m) (suc lo) (suc lo) lo (suc lo) well.shallow
              (jump_spans g m (suc lo) lo lo hi spans lo t lo (suc lo) (inl plain) (omega arith) (omega arith) (omega arith) (omega arith) x) (omega arith) in
              let (p, is, low) = more (suc lo) c t a k inner (arm_context facts ctx row t c branch land land') tight_arm row ahead (omega arith)
              (after (suc lo) (omega arith)) (suc m) around most in
              let (q, is', low') = rest_planned c ahead top outer (arm_rest_context facts ctx row t c branch land land') in
              (arm t c p q, (x, row, fresh, branch, none, is, is'), omega arith)
            where
              tight_arm : IsTight g (suc lo) c t k
              tight_arm s v j e z w = ⊎_elim (λ (q, i, f). inl (sym q)) (λ (q, r, low, is). inr (omega arith, is)) branch.ends

          by_arms : (u d : ℕ) → IsOther g hi follow a k c u d → Planned g m paid lo hi follow a k
          by_arms u d other =
              let same = same_c facts well part settled x t c branch u d other in
              let branch' = subst (λ c. IsBranch g lo hi follow a k t c) same branch in
              let other' = subst (λ c. IsOther g hi follow a k c u d) same other in by_same branch' other'
            where
              by_same : IsBranch g lo hi follow a k t t → IsOther g hi follow a k t u d → Planned g m paid lo hi follow a k
              by_same branch other =
                  let ahead = branch.ahead in let far = other.ahead in let next = other.next in
                  let high = other_high facts well part settled x t t branch u d other in
                  let span = other_span facts well part settled x t t branch u d other in
                  let within = other_behind facts well part settled x t t branch u d other in
                  let first = first_arm facts well part settled x t t branch u d other in
                  let second = second_arm facts well part settled x t t branch u d other in
                  let outer = other_rest facts well part settled x t t branch u d other in
                  let plain = branch_plain facts well part settled x t t branch in
                  let plain' = other_plain facts well part settled x t t branch u d other in
                  let land = land_of first in let land' = land_of second in let land'' = land_of outer in
                  let around = jump_spans g m (suc lo) lo lo hi spans lo t (suc lo) t (inl plain) (omega arith) (omega arith) (omega arith) (omega arith)
                  (omega arith) in
                  let around' = jump_spans g m (suc lo) lo lo hi spans other.source u t d (inl plain') (omega arith) (omega arith) (omega arith)
                  (omega arith) high in
                  let most = few_spans g (suc m) (suc lo) (suc lo) (suc lo) t well.shallow around (omega arith) in
                  let (p, is, low) = more (suc lo) t u a blocks first (first_context facts ctx row t branch u d other land land' land'')
                  (tight_first other) tt ahead (omega arith)
                  (after (suc lo) (omega arith)) (suc m) around most in
                  let (p', is', low') = more t d u a k second (second_context facts ctx row t branch u d other land land' land'')
                  (tight_second other) row (omega arith)
                  (omega arith) (after t ahead) (suc m)
                  (inner_spans g (suc m) (suc lo) (suc other.source) t d around' t d t t (omega arith) (omega arith) (omega arith) (omega arith)) most in
                  let (q, is'', low'') = rest_planned d (omega arith) high outer (arms_rest_context facts ctx row t branch u d other land land' land'') in
                  (arms t u d p p' q, (x, row, fresh, branch, other, is, is', is''), omega arith)
                where
                  tight_first : (other : IsOther g hi follow a k t u d) → IsTight g (suc lo) t u blocks
                  tight_first other r v j e z w =
                      let next : suc other.source ≡ t = other.next in
                      let q = always_jump g other.source u v other.jump (subst (λ r. IsJump g r v) (let i : r ≡ other.source = omega arith in i) j) in
                      let far = other_span facts well part settled x t t branch u d other in
                      absurd (omega (arith, other.ahead))

                  tight_second : (other : IsOther g hi follow a k t u d) → IsTight g t d u k
                  tight_second other s v j e z w = ⊎_elim (λ (q, i, f). inl (sym q)) (λ (q, r, low, is). inr (omega arith, is)) other.ends

        by_branch : Planned g m paid lo hi follow a k
        by_branch = by (known_way_out a t) (known_end g t) (cases_lt lo t)
          where
            back_leaf : (IsWayOut a t → ⊥) → (IsEndBlock g.flow t → ⊥) → t ≤ lo → IsWayOut a t
            back_leaf stays free back = of_four (λ i. back_way t lead_t i.0 back) (λ w. absurd (stays w)) (λ w. absurd (free w))
                (λ (e, o). ⊎_elim (λ q. absurd (omega arith)) (λ o. ⊎_elim (λ f. absurd (not_both g lo (t, made) f.1)) (λ f. absurd (omega (arith, f.0))) o) o)
                (part.lands lo t lead_t (omega arith) x)

            forward : (c : ℕ) → IsBranch g lo hi follow a k t c → Planned g m paid lo hi follow a k
            forward c branch = ⊎_elim (λ (u, d, other). by_arms c branch u d other) (by_arm c branch) (known_other facts well part settled x t c branch)

            by : IsKnown (IsWayOut a t) → IsKnown (IsEndBlock g.flow t) → (lo < t) ⊎ (t ≤ lo) → Planned g m paid lo hi follow a k
            by (inl w) e y = by_leaf (inl w)
            by (inr w) (inl e) y = by_leaf (inr e)
            by (inr w) (inr e) (inl y) = let (c, branch) = branch_of facts well part settled x t made y w e in forward c branch
            by (inr w) (inr e) (inr y) = by_leaf (inl (back_leaf w e y))

      -- the arms of a list, from a target on
      module _ (e : ℕ) (case : IsCaseEnd g lo e) where
        case_around : Spans g (suc m) (suc lo) (suc lo) (suc lo) e
        case_around = let high = case_high facts well part settled x e case in
            jump_spans g m (suc lo) lo lo hi spans lo e (suc lo) e (inr case) (omega arith) (omega arith) (omega arith) (omega arith) high

        case_most : suc m ≤ 64
        case_most = let low = case_behind facts case in few_spans g (suc m) (suc lo) (suc lo) lo (suc lo) well.shallow
            (jump_spans g m (suc lo) lo lo hi spans lo e lo (suc lo) (inr case) (omega arith) (omega arith) (omega arith) (omega arith) x) (omega arith)

        arm_planned : (u d : ℕ) → IsNextArm g lo u e d → Planned g (suc m) false u d e a list_arm
        arm_planned u d is =
            let behind = arm_behind facts well part settled x e case u d is in let high = case_high facts well part settled x e case in
            let some = is.some in let within = is.within in
            more u d e a list_arm (list_arm_part facts well part settled x e case u d is) (list_arm_context facts well part settled x e case u d is)
            tight_arm tt (omega arith) (omega arith) (after u behind) (suc m)
            (inner_spans g (suc m) (suc lo) (suc lo) (suc lo) e case_around u d u u (omega arith) (omega arith) (omega arith) (omega arith)) case_most
          where
            tight_arm : IsTight g u d e list_arm
            tight_arm s v j q z w = let within = is.within in ⊎_elim (λ y. inr (y, tt)) (λ y. inl (omega arith)) (cases_lt d e)

        chain_planned : (size : ℕ) (u : ℕ) → IsTarget g lo u → e ≤ size + u → u ≤ e → Planned g (suc m) false u e e a (list_arms lo)
        chain_planned zero u is y z = (done, omega arith, let low = case_most in omega arith)
        chain_planned (suc n) u is y z = ⊎_elim
            (λ w. let (d, here) = next_arm facts well part settled x e case u is w in
            let (p, planned, low) = arm_planned u d here in
            ⊎_elim (λ other. let some = here.some in let within = here.within in
            let (q, planned', low') = chain_planned n d other (omega arith) within in
            (next d p q, (refl, here, planned, planned'), omega arith))
            (λ last. (next d p done, (refl, here, planned, last), omega arith)) here.ends)
            (λ w. (done, omega arith, let low = case_most in omega arith)) (cases_lt u e)

        by_list : Planned g m paid lo hi follow a k
        by_list =
            let low = case_behind facts case in let high = case_high facts well part settled x e case in
            let is_choice = choice facts well part settled x e case in let outer = case_rest facts well part settled x e case in
            let (p, planned, less) = chain_planned e (suc lo) (label_target facts lo case.list) (omega arith) low in
            let (q, planned', less') = rest_planned e low high outer
            (choice_rest_context facts ctx row e is_choice (chain_lands facts well part settled x e case) (land_of outer)) in
            (cases e p q, (x, row, fresh, is_choice, planned, planned'), omega arith)

      -- a part that begins with a block at which no loop is to be opened
      block_planned : Planned g m paid lo hi follow a k
      block_planned = by (facts.goes lo here)
        where
          by : (way : Way) × GoesOn g lo way → Planned g m paid lo hi follow a k
          by (way, goes) = ⊎_elim (λ (t, made). by_branch t made)
              (λ plain. ⊎_elim (λ list. let (e, case) = well.cases lo list in by_list e case)
              (λ single. by_one single (λ t lead. goes_of t lead (inl (plain, single))) (λ t made. absurd (plain (t, made)))) (list_or_not g lo way goes))
              (made_or_not g lo way goes)

  module _ (n : ℕ) (more : Smaller g n) {lo hi follow : ℕ} {a : Around} {k : Kind} (part : IsPart g lo hi follow a k) (ctx : IsContext g lo hi follow a k)
      (tight : IsTight g lo hi follow k) (row : IsRow k) (x : lo < hi) (size : hi ≤ suc n + lo) (free : Holds a lo → ⊥) (m : ℕ)
      (spans : Spans g m lo lo lo hi) where
    tight_next : IsTight g (suc lo) hi follow k
    tight_next s t j e y z = tight s t j e (omega arith) z

    module _ (l : ℕ) (is : IsLoop g lo l) (low : l < hi) where
      -- nothing leads from the end of an arm of a list to the next one
      arm_endless : suc l ≡ hi → IsArmOf g lo hi follow → hi < follow → IsEndless g lo l
      arm_endless e here far b lead y z = ⊎_elim jumps falls (leads_cases g b (suc l) lead)
        where
          jumps : IsJump g b (suc l) → ⊥
          jumps jump = ⊎_elim (λ q. omega (arith, here.before))
              (λ o. let q = (o.2 hi here.next).1 (omega arith) in omega arith)
              (case_entries facts here.case b (suc l) jump (omega (arith, here.before)) (omega arith))

          falls : suc l ≡ suc b → ⊥
          falls q = by (facts.goes b lead.1.0)
            where
              by : (way : Way) × GoesOn g b way → ⊥
              by (way, goes) = ⊎_elim (λ made. not_stops made lead)
                  (λ (v, other). jumps (subst (λ v. IsJump g b v) (sym (always_leads g b v (suc l) other lead)) (always_jumps g b v other)))
                  (ends_way g follow b way (here.case.fits.closed b (suc here.list) hi way (label_target facts here.list here.case.list) here.next
                  (omega (arith, here.before)) (omega arith) goes) goes)
                where
                  not_stops : GoesOn g b stops → LeadsTo g b (suc l) → ⊥
                  not_stops made lead = stops_lead g b (suc l) made lead

      loop_by : (left : Bool) → MayLeave g (inside left lo l) → IsLeft hi follow l left → Planned g m false lo hi follow a k
      loop_by left may leaves =
          let long = is.ordered in
          let inner = body_part facts well left l part is low may in let outer = behind_part facts well l part is low in
          let land = land_of inner in let land' = land_of outer in
          let reached = facts.leads_reached l lo (jump_leads g l lo is.back) in
          let within : IsIn g lo = record { reached = reached; low = part.low; high = omega (arith, part.high) } in
          let (p, planned, few) = block_planned inner (body_context facts ctx row left l is low land land') (λ h i other e. omega arith) tt within (omega arith)
          n more (omega arith) tight_body (suc m) (loop_spans g m lo lo hi l spans is low) true tt in
          let (q, planned', few') = more (suc l) hi follow a k outer (loop_rest_context facts ctx row left l is low land land')
          (λ s t j e y z. tight s t j e (omega arith) z) row low (omega arith) (holds_before g a lo hi (suc l) part.around (omega arith)) m
          (inner_spans g m lo lo lo hi spans (suc l) hi (suc l) (suc l) (omega arith) (omega arith) (omega arith) (omega arith)) (omega arith) in
          (loop left l p q, (row, record { free = refl; loop = is; within = low }, leaves, planned, planned'), omega arith)
        where
          tight_body : IsTight g (suc lo) (suc l) lo blocks
          tight_body s t j e y z = absurd (back_once (subst (λ s. IsJump g s t) (let i : s ≡ l = omega arith in i) j) (omega arith))
            where
              -- the last block of a loop has one jump
              back_once : IsJump g l t → lo < t → ⊥
              back_once other y = ⊎_elim (λ made. let q = made_jump g l t lo made is.back in omega arith)
                  (λ o. ⊎_elim (λ goes. let q = always_jump g l t lo goes is.back in omega arith)
                  (λ list. let (c, case) = well.cases l list in omega (arith, (case.fits.after lo (record { list = list; jump = is.back })).0, is.ordered)) o)
                  (jump_cases g l t other)

      loop_planned : Planned g m false lo hi follow a k
      loop_planned = ⊎_elim
          (λ w. loop_by true tt (λ e. absurd (omega arith)))
          (λ w. let e : suc l ≡ hi = omega arith in
          ⊎_elim (λ f. loop_by true tt (λ q. f))
          (λ (far, is_arm). loop_by false (arm_endless e (part.arm is_arm far) far) (e, far)) (tight l lo is.back e (omega arith) is.ordered))
          (cases_lt (suc l) hi)

    block_or_skip : ((s : ℕ) → IsJump g s lo → s < lo) → Planned g m false lo hi follow a k
    block_or_skip fresh = by (known_reached (blocks_of g.flow) lo)
      where
        settled : IsSettled g a lo
        settled h l is e = absurd (omega (arith, fresh l (subst (λ h. IsJump g l h) e is.back), is.ordered))

        by : IsKnown (IsReached (blocks_of g.flow) lo) → Planned g m false lo hi follow a k
        by (inl r) = block_planned part ctx settled row (record { reached = r; low = part.low; high = omega (arith, part.high) }) x n more size tight_next m
            (inner_spans g m lo lo lo hi spans lo hi (suc lo) lo (omega arith) (omega arith) (omega arith) (omega arith)) false fresh
        by (inr none) =
            let (p, is, few) = more (suc lo) hi follow a k
            (rest_part facts well part settled (suc lo) (clear_next g lo) (free_next g lo) (own_none g lo (suc lo) hi (λ list. none list.2.0.reached))
            (omega arith))
            (skip_context facts ctx row x none) tight_next row x (omega arith) (holds_before g a lo hi (suc lo) part.around (omega arith)) m
            (inner_spans g m lo lo lo hi spans (suc lo) hi (suc lo) (suc lo) (omega arith) (omega arith) (omega arith) (omega arith))
            (few_spans g m lo lo lo hi well.shallow spans x) in
            (skip p, (x, row, none, is), few)

    next_planned : Planned g m false lo hi follow a k
    next_planned = ⊎_elim
        (λ (l, is). ⊎_elim (λ i. loop_planned l is i.1) (λ held. absurd (free held)) (part.loops lo l is x is.ordered))
        block_or_skip (facts.head_or_not lo)

  smaller : (n : ℕ) → Smaller g n
  smaller zero lo hi follow a k part ctx tight row x size free m spans low = (done, omega arith, omega arith)
  smaller (suc n) lo hi follow a k part ctx tight row x size free m spans low = ⊎_elim
      (λ y. next_planned n (smaller n) part ctx tight row y size free m spans) (λ y. (done, omega arith, omega arith)) (cases_lt lo hi)

  whole_part : IsPart g g.first g.past g.past no_loop blocks
  whole_part = record {
    low = omega arith;
    high = omega arith;
    around = tt;
    left = tt;
    met = inl refl;
    arm = λ y z. absurd y;
    lands = λ b t lead x y. ⊎_elim (λ z. inl (facts.leads_low b t lead, z))
        (λ z. inr (inr (inr (omega (arith, facts.leads_high b t lead), inl refl)))) (cases_lt t g.past);
    loops = λ h l is x y. inl (facts.leads_low l h (jump_leads g l h is.back), (jump_in g l h is.back).high);
    cases = λ x e case y. absurd (omega (arith, case.list.2.0.low));
  }

  whole_planned : g.first ≤ g.past → Planned g 0 false g.first g.past g.past no_loop blocks
  whole_planned x = smaller g.past g.first g.past g.past no_loop blocks whole_part (whole_context g) (λ s t j e y z. inl refl) tt x (omega arith) (λ h. h) 0
      (no_spans g g.first g.past) (omega arith)

pub nested_by_paths_is_planned : NestedByPathsIsPlanned
nested_by_paths_is_planned g flow segment well = by (whole_planned (facts_of g flow segment) well (omega (arith, segment.some)))
  where
    by : Planned g 0 false g.first g.past g.past no_loop blocks → (plan : Plan) × IsPlanOf g plan × (levels plan ≤ 64)
    by (plan, is, few) = (plan, is, omega arith)

pub well_nested_is_planned : WellNestedIsPlanned
well_nested_is_planned g flow segment well = nested_by_paths_is_planned g flow segment well.by_paths
