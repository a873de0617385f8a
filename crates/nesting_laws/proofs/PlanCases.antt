-- A loop with a jump list in it: a segment that meets all that the laws ask, and its plan.
use Rattle.std.proofs.Common.{◌≡◌, ◌⊎◌, inl, inr, ⊎_elim, ℕ, zero, suc, ◌+◌, ◌<◌, ◌≤◌, true, false, List, [], ◌∷◌, length, Some, slice_get, refl, sym, ap, subst, ◌∙◌, arith}
use Rattle.std.specs.Option.{option_map}
use Rattle.std.proofs.lemmas.Option.{none-some, same_Some, slice_get-map}
use Rattle.std.proofs.lemmas.List.Elements.{All-from_recursion}
use Rattle.std.specs.List.{AllByRecursion}
use Rattle.stl_tree.specs.Blocks.{Way, always, if_made, on, one_of}
use Rattle.stl_tree.specs.Segments.{AreAscending, AreAscendingAfter, FallsFrom, IsOneOf, IsReached, JumpsTo, Ways, first, jump}
use Rattle.stl_tree.specs.Flows.{AreHeadsAround, Flow, GoesOn, IsIn, IsJump, IsList, IsLoop, IsSegment, Segment, blocks_of, jumps_of, ways_by}
use Rattle.stl_tree.specs.WellNested.{AreSpansOver, HasClosedArms, IsShallow, IsTarget, IsWellNested}
use Rattle.nesting_laws.specs.PlanLaws.{IsFlow}
use Rattle.nesting_laws.specs.Plans.{Around, IsChoice, IsNextArm, IsOne, IsPlanOf, LeadsTo, Plan, cases, done, inside, loop, next, one}
use Rattle.nesting_laws.proofs.Exits.{jump_in}
use Rattle.nesting_laws.proofs.Planned.{planned_is_well_nested}
use Rattle.nesting_laws.proofs.Spans.{AreBelow}

abbrev flow : Flow
flow = record { ways = one_of (2 ∷ []) 1 ∷ always 3 ∷ on ∷ always 0 ∷ []; ends_alone = false }

abbrev g : Segment
g = record { flow = flow; first = 0; past = 4 }

abbrev plan : Plan
plan = loop true 3 (cases 3 (next 2 (one done) (next 3 (one done) done)) (one done)) done

-- Where its blocks lead

abbrev IsPair : ℕ → ℕ → Type 0
IsPair s t = ((s ≡ 0) × (t ≡ 1)) ⊎ (((s ≡ 0) × (t ≡ 2)) ⊎ (((s ≡ 1) × (t ≡ 3)) ⊎ ((s ≡ 3) × (t ≡ 0))))

pair_at : (s t : ℕ) → JumpsTo (blocks_of flow) s t → IsPair s t
pair_at zero t (ways, at, o) = ⊎_elim (λ e. inl (refl, e)) (λ o. ⊎_elim (λ e. inr (inl (refl, e))) (λ n. absurd n) o)
    (subst (λ (w : Ways). IsOneOf t w.jumps) (sym (same_Some (ways_by (one_of (2 ∷ []) 1)) ways at)) o)
pair_at (suc zero) t (ways, at, o) = ⊎_elim (λ e. inr (inr (inl (refl, e)))) (λ n. absurd n)
    (subst (λ (w : Ways). IsOneOf t w.jumps) (sym (same_Some (ways_by (always 3)) ways at)) o)
pair_at (suc (suc zero)) t (ways, at, o) = absurd (subst (λ (w : Ways). IsOneOf t w.jumps) (sym (same_Some (ways_by on) ways at)) o)
pair_at (suc (suc (suc zero))) t (ways, at, o) = ⊎_elim (λ e. inr (inr (inr (refl, e)))) (λ n. absurd n)
    (subst (λ (w : Ways). IsOneOf t w.jumps) (sym (same_Some (ways_by (always 0)) ways at)) o)
pair_at (suc (suc (suc (suc s)))) t (ways, at, o) = absurd (none-some ways at)

falls_at : (s : ℕ) → FallsFrom (blocks_of flow) s → s ≡ 2
falls_at zero (ways, at, e) = let f = ap (λ (w : Ways). w.falls) (same_Some (ways_by (one_of (2 ∷ []) 1)) ways at) in absurd cc
falls_at (suc zero) (ways, at, e) = let f = ap (λ (w : Ways). w.falls) (same_Some (ways_by (always 3)) ways at) in absurd cc
falls_at (suc (suc zero)) f = refl
falls_at (suc (suc (suc zero))) (ways, at, e) = let f = ap (λ (w : Ways). w.falls) (same_Some (ways_by (always 0)) ways at) in absurd cc
falls_at (suc (suc (suc (suc s)))) (ways, at, e) = absurd (none-some ways at)

at_blocks : (b : ℕ) (way : Way) → slice_get flow.ways b ≡ Some way → slice_get (blocks_of flow) b ≡ Some (ways_by way)
at_blocks b way e = slice_get-map ways_by flow.ways b ∙ ap (option_map ways_by) e

way_pair : (s t : ℕ) (way : Way) → slice_get flow.ways s ≡ Some way → IsOneOf t (jumps_of way) → IsPair s t
way_pair s t way e o = pair_at s t (ways_by way, at_blocks s way e, o)

jump_pair : (s t : ℕ) → IsJump g s t → IsPair s t
jump_pair s t (way, goes, o) = way_pair s t way goes.1 o

abbrev Leads : ℕ → ℕ → Type 0
Leads b t = IsPair b t ⊎ ((b ≡ 2) × (t ≡ 3))

leads_at : (b t : ℕ) → LeadsTo g b t → Leads b t
leads_at b t (way, goes, inl o) = inl (way_pair b t way goes.1 o)
leads_at b t (way, goes, inr f) = let e = falls_at b (ways_by way, at_blocks b way goes.1, f.0) in inr (e, omega (arith, f.1))

list_at : (b : ℕ) → IsList g b → b ≡ 0
list_at zero list = refl
list_at (suc zero) (targets, label, goes) = let e = same_Some (always 3) (one_of targets label) goes.1 in absurd cc
list_at (suc (suc zero)) (targets, label, goes) = let e = same_Some on (one_of targets label) goes.1 in absurd cc
list_at (suc (suc (suc zero))) (targets, label, goes) = let e = same_Some (always 0) (one_of targets label) goes.1 in absurd cc
list_at (suc (suc (suc (suc b)))) (targets, label, goes) = absurd (omega (arith, goes.0.high))

-- What the laws ask

all_by_one : (P : ℕ → Type 0) (ts : List ℕ) → ((t : ℕ) → IsOneOf t ts → P t) → AllByRecursion P ts
all_by_one P [] f = tt
all_by_one P (t ∷ ts) f = (f t (inl refl), all_by_one P ts (λ u o. f u (inr o)))

low_pair : (s t : ℕ) → IsPair s t → t < 4
low_pair s t o = ⊎_elim (λ x. omega arith) (λ o. ⊎_elim (λ x. omega arith) (λ o. ⊎_elim (λ x. omega arith) (λ x. omega arith) o) o) o

label_at : (b : ℕ) (targets : List ℕ) (label : ℕ) → slice_get flow.ways b ≡ Some (one_of targets label) → label ≡ suc b
label_at zero targets label e = let f = same_Some (one_of (2 ∷ []) 1) (one_of targets label) e in cc
label_at (suc zero) targets label e = let f = same_Some (always 3) (one_of targets label) e in absurd cc
label_at (suc (suc zero)) targets label e = let f = same_Some on (one_of targets label) e in absurd cc
label_at (suc (suc (suc zero))) targets label e = let f = same_Some (always 0) (one_of targets label) e in absurd cc
label_at (suc (suc (suc (suc b)))) targets label e = absurd (none-some (one_of targets label) e)

is_flow : IsFlow flow
is_flow = record {
  jumps = λ b way e. All-from_recursion (λ t. t < 4) (jumps_of way)
      (all_by_one (λ t. t < 4) (jumps_of way) (λ t o. low_pair b t (way_pair b t way e o)));
  falls = λ b way e f. let x = falls_at b (ways_by way, at_blocks b way e, f) in omega arith;
  labels = label_at;
  ends = λ e b f. absurd cc;
}

reached_1 : IsReached (blocks_of flow) 1
reached_1 = jump first (ways_by (one_of (2 ∷ []) 1), refl, inl refl)

reached_2 : IsReached (blocks_of flow) 2
reached_2 = jump first (ways_by (one_of (2 ∷ []) 1), refl, inr (inl refl))

reached_3 : IsReached (blocks_of flow) 3
reached_3 = jump reached_1 (ways_by (always 3), refl, inl refl)

in_0 : IsIn g 0
in_0 = record { reached = first; low = omega arith; high = omega arith }

in_1 : IsIn g 1
in_1 = record { reached = reached_1; low = omega arith; high = omega arith }

in_2 : IsIn g 2
in_2 = record { reached = reached_2; low = omega arith; high = omega arith }

in_3 : IsIn g 3
in_3 = record { reached = reached_3; low = omega arith; high = omega arith }

all_in : (b : ℕ) → b < 4 → IsIn g b
all_in zero x = in_0
all_in (suc zero) x = in_1
all_in (suc (suc zero)) x = in_2
all_in (suc (suc (suc zero))) x = in_3
all_in (suc (suc (suc (suc b)))) x = absurd (omega arith)

is_segment : IsSegment g
is_segment = record {
  begins = record { there = omega arith; free = λ s t r j x. ⊎_elim (λ y. omega arith) (λ y. omega arith) x };
  some = omega arith;
  inside = λ q x y c. c.free 3 0 reached_3 (ways_by (always 0), refl, inl refl) (inr (omega arith, omega arith));
  ends = inl refl;
}

ascending_few : (n k : ℕ) (xs : List ℕ) → n < k → AreAscendingAfter n xs → AreBelow k xs → suc n + length xs ≤ k
ascending_few n k [] x up all = omega arith
ascending_few n k (m ∷ rest) x up all = omega (arith, up.0, ascending_few m k rest all.0 up.1 all.1)

few : (k : ℕ) (xs : List ℕ) → AreAscending xs → AreBelow k xs → length xs ≤ k
few k [] up all = omega arith
few k (m ∷ rest) up all = omega (arith, ascending_few m k rest all.0 up all.1)

heads_below : (b : ℕ) (heads : List ℕ) → AreHeadsAround g b heads → AreBelow 4 heads
heads_below b [] all = tt
heads_below b (h ∷ rest) all = (omega (arith, all.0.1.loop.ordered, (jump_in g all.0.0 h all.0.1.loop.back).high), heads_below b rest all.1)

sources_below : (b : ℕ) (sources : List ℕ) → AreSpansOver g b sources → AreBelow 4 sources
sources_below b [] all = tt
sources_below b (s ∷ rest) ((t, o, x, y), all) =
    (⊎_elim (λ plain. (jump_in g s t plain.jump).high) (λ case. case.list.2.0.high) o, sources_below b rest all)

is_shallow : IsShallow g
is_shallow b heads sources up around up' over =
    omega (arith, few 4 heads up (heads_below b heads around), few 4 sources up' (sources_below b sources over))

-- The plan

goes_1 : GoesOn g 1 (always 3)
goes_1 = (in_1, refl)

is_loop : IsLoop g 0 3
is_loop = record { back = (always 0, (in_3, refl), inl refl); ordered = omega arith; greatest = λ s j. omega (arith, (jump_in g s 0 j).high) }

abbrev around : Around
around = inside true 0 3

is_list : IsList g 0
is_list = (2 ∷ [], 1, (in_0, refl))

is_target : (t : ℕ) → IsOneOf t (1 ∷ 2 ∷ []) → IsTarget g 0 t
is_target t o = record { list = is_list; jump = (one_of (2 ∷ []) 1, (in_0, refl), o) }

target_at : (t : ℕ) → IsTarget g 0 t → (t ≡ 1) ⊎ (t ≡ 2)
target_at t is = ⊎_elim (λ x. inl x.1) (λ o. ⊎_elim (λ x. inr x.1) (λ o. ⊎_elim (λ x. absurd (omega arith)) (λ x. absurd (omega arith)) o) o)
    (jump_pair 0 t is.jump)

is_choice : IsChoice g 0 4 0 around 3
is_choice = record {
  list = is_list;
  after = λ t is. ⊎_elim (λ x. (omega arith, omega arith)) (λ x. (omega arith, omega arith)) (target_at t is);
  ends = inr (
    1,
    2,
    is_target 2 (inr (inl refl)),
    omega arith,
    omega arith,
    (always 3, goes_1, inl refl),
    λ w. ⊎_elim (λ e. omega arith) (λ e. omega (arith, e.1)) w,
    λ e. let x = e.0 in cc,
  );
  closed = λ b t is x y here. inr (
    3,
    subst (λ b. GoesOn g b (always 3))
        (⊎_elim (λ z. absurd (omega arith)) (λ z. let e : 1 ≡ b = omega arith in e) (target_at t is)) goes_1,
  );
  within = omega arith;
  falls = λ e. absurd (omega arith);
}

next_1 : IsNextArm g 0 1 3 2
next_1 = record {
  begins = is_target 1 (inl refl);
  some = omega arith;
  within = omega arith;
  ends = inl (is_target 2 (inr (inl refl)));
  alone = λ u is. ⊎_elim (λ x. inl (omega arith)) (λ x. inr (omega arith)) (target_at u is);
}

next_2 : IsNextArm g 0 2 3 3
next_2 = record {
  begins = is_target 2 (inr (inl refl));
  some = omega arith;
  within = omega arith;
  ends = inr refl;
  alone = λ u is. ⊎_elim (λ x. inl (omega arith)) (λ x. inl (omega arith)) (target_at u is);
}

no_list : (b : ℕ) → 0 < b → IsList g b → ⊥
no_list b x list = let e = list_at b list in omega arith

no_made : (b t : ℕ) → GoesOn g b (if_made t) → ⊥
no_made zero t goes = let e = same_Some (one_of (2 ∷ []) 1) (if_made t) goes.1 in cc
no_made (suc zero) t goes = let e = same_Some (always 3) (if_made t) goes.1 in cc
no_made (suc (suc zero)) t goes = let e = same_Some on (if_made t) goes.1 in cc
no_made (suc (suc (suc zero))) t goes = let e = same_Some (always 0) (if_made t) goes.1 in cc
no_made (suc (suc (suc (suc b)))) t goes = none-some (if_made t) goes.1

fresh : (b : ℕ) → 0 < b → (s : ℕ) → IsJump g s b → s < b
fresh b x s j = ⊎_elim (λ y. omega arith) (λ o. ⊎_elim (λ y. omega arith) (λ o. ⊎_elim (λ y. omega arith) (λ y. absurd (omega arith)) o) o) (jump_pair s b j)

to_3 : (b t : ℕ) → 0 < b → b < 3 → Leads b t → t ≡ 3
to_3 b t x y (inl (inl e)) = absurd (omega arith)
to_3 b t x y (inl (inr (inl e))) = absurd (omega arith)
to_3 b t x y (inl (inr (inr (inl e)))) = e.1
to_3 b t x y (inl (inr (inr (inr e)))) = absurd (omega arith)
to_3 b t x y (inr e) = e.1

to_0 : (b t : ℕ) → b ≡ 3 → Leads b t → t ≡ 0
to_0 b t x (inl (inl e)) = absurd (omega arith)
to_0 b t x (inl (inr (inl e))) = absurd (omega arith)
to_0 b t x (inl (inr (inr (inl e)))) = absurd (omega arith)
to_0 b t x (inl (inr (inr (inr e)))) = e.1
to_0 b t x (inr e) = absurd (omega arith)

-- the block in the first arm, that in the second, and the one behind them
is_first : IsOne g false 1 2 3 around
is_first = record {
  here = in_1;
  fresh = fresh 1 (omega arith);
  leads = λ t lead. inr (inr (inr (to_3 1 t (omega arith) (omega arith) (leads_at 1 t lead), (λ q x y r. omega arith), inr (3, goes_1))));
  jumps = λ t goes. absurd (no_made 1 t goes);
  no_list = no_list 1 (omega arith);
}

is_second : IsOne g false 2 3 3 around
is_second = record {
  here = in_2;
  fresh = fresh 2 (omega arith);
  leads = λ t lead. inr (inr (inr (to_3 2 t (omega arith) (omega arith) (leads_at 2 t lead), (λ q x y r. omega arith), inl refl)));
  jumps = λ t goes. absurd (no_made 2 t goes);
  no_list = no_list 2 (omega arith);
}

is_behind : IsOne g false 3 4 0 around
is_behind = record {
  here = in_3;
  fresh = fresh 3 (omega arith);
  leads = λ t lead. inr (inl (inl (to_0 3 t refl (leads_at 3 t lead))));
  jumps = λ t goes. absurd (no_made 3 t goes);
  no_list = no_list 3 (omega arith);
}

is_plan : IsPlanOf g plan
is_plan = (
  tt,
  record { free = refl; loop = is_loop; within = omega arith },
  (λ e. refl),
  (
    omega arith,
    tt,
    tt,
    is_choice,
    (refl, next_1, (omega arith, tt, is_first, refl), (refl, next_2, (omega arith, tt, is_second, refl), refl)),
    (omega arith, tt, is_behind, refl),
  ),
  refl,
)

-- only reached blocks stand before its arms
is_closed : HasClosedArms g
is_closed x e b u t way case is other y z at = case.fits.closed b u t way is other y z (all_in b low, at)
  where
    low : b < 4
    low = omega (arith, low_pair x t (jump_pair x t other.jump))

is_well_nested : IsWellNested g
is_well_nested = planned_is_well_nested g plan is_flow is_segment is_plan is_shallow is_closed
