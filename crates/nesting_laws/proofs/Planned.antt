-- A segment with a plan is well nested.
use Rattle.std.proofs.Common.{◌≡◌, ◌⊎◌, inl, inr, ⊎_elim, ℕ, suc, ◌<◌, ◌≤◌, false, arith}
use Rattle.std.proofs.lemmas.Bool.{cases_lt}
use Rattle.stl_tree.specs.Flows.{AreNested, IsInLoop, IsInnermost, IsJump, IsList, IsLoop, IsPlainJump, Segment}
use Rattle.stl_tree.specs.WellNested.{IsCaseEnd, IsShallow, IsWellNestedByPaths}
use Rattle.nesting_laws.specs.PlanLaws.{IsNested, PlannedIsNested, PlannedIsNestedByPaths, PlannedIsWellNested}
use Rattle.nesting_laws.specs.Plans.{IsPlanOf, Plan, blocks, no_loop}
use Rattle.nesting_laws.proofs.Cases.{of_three}
use Rattle.nesting_laws.proofs.Contexts.{whole_context}
use Rattle.nesting_laws.proofs.Crossings.{IsPlaced, crossing}
use Rattle.nesting_laws.proofs.Exits.{jump_in}
use Rattle.nesting_laws.proofs.Facts.{Facts, facts_of, high_head, innermost, low_head, same_last}
use Rattle.nesting_laws.proofs.ListPlans.{HasLoops, list_case}
use Rattle.nesting_laws.proofs.Nests.{IsNest, plan_nest}
use Rattle.nesting_laws.proofs.Parts.{LoopLands}

module _ {g : Segment} (facts : Facts g) (plan : Plan) (is : IsPlanOf g plan) where
  nest : IsNest g g.first g.first g.past
  nest = plan_nest facts plan false g.first g.past g.past no_loop blocks is (whole_context g)

  apart : (h l k m : ℕ) → IsLoop g h l → IsLoop g k m → h < k → (l < k) ⊎ (m ≤ l)
  apart h l k m here there x = nest.apart h l k m here there (low_head facts h l here) x (high_head facts k m there)

  loops : (h l k m : ℕ) → IsLoop g h l → IsLoop g k m → AreNested h l k m
  loops h l k m here there = ⊎_elim
      (λ x. ⊎_elim inl (λ y. inr (inr (inl (omega arith, y)))) (apart h l k m here there x))
      (λ x. ⊎_elim
      (λ y. ⊎_elim (λ z. inr (inl z)) (λ z. inr (inr (inr (omega arith, z)))) (apart k m h l there here y))
      (λ y. inr (inr (inl (omega arith, same_last facts h l k m here there (omega arith))))) (cases_lt k h)) (cases_lt h k)

  entries : (s t h l : ℕ) → IsJump g s t → IsInLoop g h l t → IsInLoop g h l s ⊎ (t ≡ h)
  entries s t h l jump here = ⊎_elim
      (λ x. ⊎_elim
      (λ y. absurd (nest.enters s t h l jump here.loop (low_head facts h l here.loop) (high_head facts h l here.loop) y x here.high))
      (λ y. ⊎_elim (λ z. absurd (behind z x)) (λ z. inl (record { loop = here.loop; low = y; high = z })) (cases_lt l s)) (cases_lt s h))
      (λ x. inr (omega (arith, here.low))) (cases_lt h t)
    where
      behind : l < s → h < t → ⊥
      behind x y = ⊎_elim
          (λ (m, there). let z = there.greatest s jump in
          ⊎_elim (λ v. omega (arith, here.high)) (λ v. omega arith) (apart h l t m here.loop there y))
          (λ f. omega (arith, f s jump, here.high)) (facts.head_or_not t)

  exits : (s t h l : ℕ) → IsJump g s t → IsInnermost g h l s → LoopLands g h l t
  exits s t h l jump inner = let here = jump_in g s t jump in
      nest.exits s t h l jump inner here.low here.high (low_head facts h l inner.around.loop)

  looped : HasLoops g
  looped = record { loops = loops; entries = entries; exits = exits }

  placed : IsPlaced g g.first g.past g.past blocks
  placed = record { over = λ y e case x none. absurd (omega (arith, case.list.2.0.low)); arm = λ f x. absurd f; case = λ y source. absurd source }

  list_cases : (x : ℕ) → IsList g x → (e : ℕ) × IsCaseEnd g x e
  list_cases x list = let (e, case, low) = list_case facts looped plan false g.first g.past g.past no_loop blocks is
      (whole_context g) x list.2.0.low list.2.0.high list
      in (e, case)

  -- a plain jump does not leave a loop around it for the block behind it
  stays : (k l s t : ℕ) → IsInLoop g k l s → IsPlainJump g s t → t ≡ suc l → ⊥
  stays k l s t here plain e = by (innermost facts s k l here)
    where
      by : (h : ℕ) × (m : ℕ) × IsInnermost g h m s → ⊥
      by (h, m, inner) =
          let below : m ≤ l = high in
          of_three (λ i. omega arith) (λ i. plain.no_exit (h, m, inner, i)) plain.no_end (exits s t h m plain.jump inner)
        where
          high : m ≤ l
          high = let z = inner.inner k l here in ⊎_elim
              (λ i. ⊎_elim (λ j. absurd (omega (arith, inner.around.low, here.high))) (λ j. j) (apart k l h m here.loop inner.around.loop i))
              (λ i. same_last facts k l h m here.loop inner.around.loop (omega arith)) (cases_lt k h)

  nested : IsNested g
  nested = record { loops = loops; entries = entries; exits = exits; cases = list_cases }

  planned_well_nested : IsShallow g → IsWellNestedByPaths g
  planned_well_nested few = record {
    loops = loops;
    entries = entries;
    exits = exits;
    crossings = λ s1 t1 c1 s2 t2 c2 p m q n x y z. crossing facts looped stays plan false g.first g.past g.past no_loop blocks is (whole_context g) placed
        s1 t1 c1 s2 t2 c2 p m q n (jump_in g s1 t1 p.jump).low (jump_in g s2 t2 q.jump).high x y z;
    cases = list_cases;
    shallow = few;
  }

pub planned_is_nested : PlannedIsNested
planned_is_nested g plan flow segment is = nested (facts_of g flow segment) plan is

pub planned_is_nested_by_paths : PlannedIsNestedByPaths
planned_is_nested_by_paths g plan flow segment is few = planned_well_nested (facts_of g flow segment) plan is few

pub planned_is_well_nested : PlannedIsWellNested
planned_is_well_nested g plan flow segment is few closed =
    record { by_paths = planned_is_nested_by_paths g plan flow segment is few; closed = closed }
