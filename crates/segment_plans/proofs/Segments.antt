-- A segment may be written without the selector exactly where it splits, its blocks lie in few spans, and blocks right
-- before arms end them or it has at most one loop.
use Rattle.std.proofs.Common.{◌≡◌, ◌⊎◌, ℕ, ◌-◌, ◌≤◌, Bool, false, true, ◌||◌, List, Option, Result, Ok, Err, refl, subst, sym, arith}
use Rattle.std.specs.Bool.{Decides}
use Rattle.std.specs.Prelude.{IfOk}
use Rattle.std.proofs.lemmas.Bool.Decides.{Decides-like}
use Rattle.nesting_laws.specs.PlanLaws.{IsFlow}
use Rattle.nesting_laws.specs.Splitting.{HasOneLoop, MaySplit}
use Rattle.nesting_laws.proofs.Planned.{planned_is_nested, planned_is_nested_by_paths}
use Rattle.nesting_laws.proofs.Plannings.{nested_by_paths_is_planned}
use Rattle.stl_tree.specs.Flows.{IsSegment, Segment}
use Rattle.stl_tree.specs.WellNested.{HasClosedArms, IsShallow}
use Rattle.segment_plans.specs.Known.{AreKnown}
use Rattle.segment_plans.specs.Planned.{HasPlan, IsPartOf, whole}
use Rattle.segment_plans.specs.declared.blocks.Blocks.{Blocks}
use Rattle.segment_plans.specs.declared.planning.Part.{Part}
use Rattle.segment_plans.specs.inner.Spans.{all_closed, few_heads, inner_loops}
use Rattle.segment_plans.proofs.Closing.{closed_is}
use Rattle.segment_plans.proofs.Heads.{decides_else, one_loop_is}
use Rattle.segment_plans.proofs.PlanSteps.{ForEach}
use Rattle.segment_plans.proofs.Shallow.{ForNested}
use Rattle.segment_plans.proofs.Site.{site_of}

-- what is asked of a segment between two blocks
abbrev pub Asked : Blocks → ℕ → ℕ → Bool → Type 0
Asked blocks first past nested = (g : Segment) → g.first ≡ first → g.past ≡ past → IsSegment g → IsFlow g.flow → AreKnown g.flow blocks
    → Decides nested (MaySplit g)

-- whether the whole segment has a plan
split_whole : (blocks : Blocks) (first past : ℕ) (part : Part) (b : Bool) → first ≤ past → part ≡ whole past
    → ForEach blocks part first (λ g. Decides b (HasPlan g 64 part false first))
    → (g : Segment) → g.first ≡ first → g.past ≡ past → IsSegment g → AreKnown g.flow blocks → Decides b (HasPlan g 64 (whole g.past) false g.first)
split_whole blocks first past part b order same splits g a c seg known =
    let inside : IsPartOf g (whole past) first = record { low = omega (arith, a); ordered = order; high = omega (arith, c) } in
    let there : Decides b (HasPlan g 64 (whole past) false first) =
    subst (λ (p : Part). Decides b (HasPlan g 64 p false first)) same (splits g seg known (subst (λ (p : Part). IsPartOf g p first) (sym same) inside)) in
    subst (λ n. Decides b (HasPlan g 64 (whole g.past) false n)) (sym a)
    (subst (λ n. Decides b (HasPlan g 64 (whole n) false first)) (sym c) there)

-- what is known where the whole segment splits
module _ (blocks : Blocks) (first past : ℕ) (part : Part) (order : first ≤ past) (same : part ≡ whole past)
    (splits : ForEach blocks part first (λ g. Decides true (HasPlan g 64 part false first)))
    (inner : List (Option ℕ)) (is : inner ≡ inner_loops blocks first (past - first)) where
  plan_of : (g : Segment) → g.first ≡ first → g.past ≡ past → IsSegment g → AreKnown g.flow blocks → HasPlan g 64 (whole g.past) false g.first
  plan_of g a c seg known = (split_whole blocks first past part true order same splits g a c seg known).0 refl

  -- it is seen whether blocks right before arms end them
  closed_at : (g : Segment) → g.first ≡ first → g.past ≡ past → IsFlow g.flow → IsSegment g → AreKnown g.flow blocks
      → Decides (all_closed blocks inner first first (past - first)) (HasClosedArms g)
  closed_at g a c flow seg known =
      let plan = plan_of g a c seg known in
      let nested = planned_is_nested g plan.0 flow seg plan.1 in
      subst (λ (xs : List (Option ℕ)). Decides (all_closed blocks xs first first (past - first)) (HasClosedArms g)) (sym is)
      (subst (λ n. Decides (all_closed blocks (inner_loops blocks n (past - n)) n n (past - n)) (HasClosedArms g)) a
      (subst (λ n. Decides (all_closed blocks (inner_loops blocks g.first (n - g.first)) g.first g.first (n - g.first)) (HasClosedArms g)) c
      (closed_is g blocks flow seg known nested)))

  -- or that there is at most one loop
  abbrev Allowed : Bool
  Allowed = all_closed blocks inner first first (past - first) || few_heads blocks false first (past - first)

  one_at : (g : Segment) → g.first ≡ first → g.past ≡ past → IsSegment g → AreKnown g.flow blocks
      → Decides (few_heads blocks false first (past - first)) (HasOneLoop g)
  one_at g a c seg known =
      subst (λ n. Decides (few_heads blocks false n (past - n)) (HasOneLoop g)) a
      (subst (λ n. Decides (few_heads blocks false g.first (n - g.first)) (HasOneLoop g)) c
      (one_loop_is g blocks (site_of g blocks seg known) seg))

  allowed : (b : Bool) → b ≡ Allowed → (g : Segment) → g.first ≡ first → g.past ≡ past → IsFlow g.flow → IsSegment g → AreKnown g.flow blocks
      → Decides b (HasClosedArms g ⊎ ((HasClosedArms g → ⊥) × HasOneLoop g))
  allowed b e g a c flow seg known =
      subst (λ x. Decides x (HasClosedArms g ⊎ ((HasClosedArms g → ⊥) × HasOneLoop g))) (sym e)
      (decides_else (all_closed blocks inner first first (past - first)) (few_heads blocks false first (past - first))
      (closed_at g a c flow seg known) (one_at g a c seg known))

  -- a segment that splits may be written where one of both is so, and it is shallow
  pub by_both : {E : Type 0} (b : Bool) → b ≡ Allowed → b ≡ true → (r : Result Bool E)
      → IfOk r (λ shallow. ForNested blocks first past (λ g. Decides shallow (IsShallow g))) → IfOk r (Asked blocks first past)
  by_both b e f (Err x) shallow = tt
  by_both b e f (Ok x) shallow = λ g a c seg flow known.
      let plan = plan_of g a c seg known in
      let nested = planned_is_nested g plan.0 flow seg plan.1 in
      Decides-like x (λ few. (planned_is_nested_by_paths g plan.0 flow seg plan.1 few, (allowed b e g a c flow seg known).0 f)) (λ w. w.0.shallow)
      (shallow g a c flow seg known nested)

  pub not_closed : (b : Bool) → b ≡ Allowed → b ≡ false → Asked blocks first past false
  not_closed b e f g a c seg flow known = (
    λ q. absurd cc,
    λ w. let q : b ≡ true = (allowed b e g a c flow seg known).1 w.1 in absurd cc,
  )

-- one that does not split may not be written so
pub without_plan : (blocks : Blocks) (first past : ℕ) (part : Part) → first ≤ past → part ≡ whole past
    → ForEach blocks part first (λ g. Decides false (HasPlan g 64 part false first)) → Asked blocks first past false
without_plan blocks first past part order same splits g a c seg flow known = (
  λ e. absurd cc,
  λ w.
      let p = nested_by_paths_is_planned g flow seg w.0 in
      (split_whole blocks first past part false order same splits g a c seg known).1 (p.0, p.1, p.2),
)
