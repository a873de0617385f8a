-- What a segment's blocks are, as tests tell it.
use Rattle.std.proofs.Common.{◌≡◌, ◌⊎◌, ℕ, ◌<◌, ◌≤◌, Bool, true, false, not, ◌&&◌, ◌||◌, Option, Some, None, length, map, slice_get, inl, inr, refl, sym, ap, subst, ◌∙◌, arith}
use Rattle.std.specs.Bool.{Decides}
use Rattle.std.specs.Prelude.{nat_le, nat_lt}
use Rattle.std.specs.Option.{option_map}
use Rattle.std.proofs.lemmas.Bool.{leb-false, leb-true}
use Rattle.std.proofs.lemmas.Bool.Decides.{Decides-ltb}
use Rattle.std.proofs.lemmas.Option.{none-some, same_Some, slice_get-map, slice_get_within}
use Rattle.std.proofs.lemmas.List.{length-map}
use Rattle.nesting_laws.specs.Plans.{IsBare, IsFresh}
use Rattle.stl_tree.specs.Blocks.{Way}
use Rattle.stl_tree.specs.Segments.{IsCut, IsOneOf, IsReached, JumpsTo, Ways}
use Rattle.stl_tree.specs.Flows.{Flow, IsJump, IsLoop, IsSegment, Segment, blocks_of, jumps_of, ways_by}
use Rattle.flow_graph.specs.Graphs.{way_by}
use Rattle.segment_plans.specs.Known.{AreKnown, IsLastBack, IsReachedJump}
use Rattle.segment_plans.specs.declared.blocks.Blocks.{Blocks}
use Rattle.segment_plans.specs.Counts.{is_bare, is_reached, last_of}
use Rattle.segment_plans.proofs.Bare.{known_bare, known_reached}

-- Tests

-- either it holds, or it does not
pub told : {P : Type 0} (r : Bool) → Decides r P → P ⊎ (P → ⊥)
told true d = inl (d.0 refl)
told false d = inr (λ p. let e : false ≡ true = d.1 p in absurd cc)

pub is_set : (b : Bool) → Decides b (b ≡ true)
is_set b = (λ e. e, λ e. e)

-- a second test that decides where the first one is met
pub decides_then : {P Q : Type 0} (x y : Bool) → Decides x P → (P → Decides y Q) → Decides (x && y) (P × Q)
decides_then true true d e = (λ g. (d.0 refl, (e (d.0 refl)).0 refl), λ p. refl)
decides_then true false d e = (λ g. absurd cc, λ p. (e p.0).1 p.1)
decides_then false y d e = (λ g. absurd cc, λ p. d.1 p.0)

-- not the first, or else the second
pub decides_if : {P Q : Type 0} (x y : Bool) → Decides x P → Decides y Q → Decides (not x || y) (P → Q)
decides_if true true d e = (λ g. λ p. e.0 refl, λ f. refl)
decides_if true false d e = (λ g. absurd cc, λ f. e.1 (f (d.0 refl)))
decides_if false y d e = (λ g. λ p. let h : false ≡ true = d.1 p in absurd cc, λ f. refl)

pub decides_le : (m n : ℕ) → Decides (nat_le m n) (m ≤ n)
decides_le m n = by (nat_le m n) refl
  where
    by : (t : Bool) → nat_le m n ≡ t → Decides t (m ≤ n)
    by true e = (λ g. leb-true m n e, λ h. refl)
    by false e = (λ g. absurd cc, λ h. let f : n < m = leb-false m n e in absurd (omega (arith, f, h)))

-- What is known in a segment

-- a loop begins at a block and ends at another, or no block from there on jumps back to it
abbrev pub EndsAt : Segment → ℕ → Option ℕ → Type 0
EndsAt g h None = IsFresh g false h
EndsAt g h (Some l) = IsLoop g h l

pub record IsSite (g : Segment) (blocks : Blocks) : Type 0 where
  pub exits : map way_by blocks.exits.items ≡ g.flow.ways
  pub alone : blocks.ends_alone ≡ g.flow.ends_alone
  pub size : g.past ≤ length g.flow.ways
  pub reached : (b : ℕ) → b < length g.flow.ways → Decides (is_reached blocks b) (IsReached (blocks_of g.flow) b)
  pub bare : (lo t : ℕ) → lo < t → t ≤ length g.flow.ways → Decides (is_bare blocks lo t) (IsBare g lo t)
  pub lasts : (h : ℕ) → g.first ≤ h → h < g.past → EndsAt g h (last_of blocks h)

-- Jumps of blocks that are reached

-- a block with a way, as it is seen with others
pub ways_there : (flow : Flow) (b : ℕ) (way : Way) → slice_get flow.ways b ≡ Some way → slice_get (blocks_of flow) b ≡ Some (ways_by way)
ways_there flow b way e = slice_get-map ways_by flow.ways b ∙ ap (option_map ways_by) e

-- the way of a block that is seen with others
pub way_there : (flow : Flow) (b : ℕ) (ways : Ways) → slice_get (blocks_of flow) b ≡ Some ways
    → (way : Way) × (slice_get flow.ways b ≡ Some way) × (ways_by way ≡ ways)
way_there flow b ways e = by (slice_get flow.ways b) refl (sym (slice_get-map ways_by flow.ways b) ∙ e)
  where
    by : (o : Option Way) → slice_get flow.ways b ≡ o → option_map ways_by o ≡ Some ways
        → (way : Way) × (slice_get flow.ways b ≡ Some way) × (ways_by way ≡ ways)
    by None f g = absurd (none-some ways g)
    by (Some way) f g = (way, f, same_Some (ways_by way) ways g)

pub leads_back : (flow : Flow) (s t : ℕ) (way : Way) → slice_get flow.ways s ≡ Some way → IsOneOf t (jumps_of way) → JumpsTo (blocks_of flow) s t
leads_back flow s t way e o = (ways_by way, ways_there flow s way e, o)

-- a jump of a segment is one of a block that is reached
pub jump_reached : (g : Segment) (s t : ℕ) → IsJump g s t → IsReachedJump g.flow s t
jump_reached g s t j = (j.1.0.reached, leads_back g.flow s t j.0 j.1.1 j.2)

-- a jump to a block of a segment from there or behind comes from the segment
jump_inside : (g : Segment) → IsSegment g → (s t : ℕ) → g.first ≤ t → t < g.past → t ≤ s → IsReachedJump g.flow s t → IsJump g s t
jump_inside g seg s t low high back j =
    let w = way_there g.flow s j.1.0 j.1.1 in
    let there : s < length g.flow.ways = slice_get_within g.flow.ways s w.0 w.1 in
    let past : s < g.past = before (told (nat_lt s g.past) (Decides-ltb s g.past)) there in
    (w.0, (record { reached = j.0; low = omega (arith, low, back); high = past }, w.1), subst (λ (ws : Ways). IsOneOf t ws.jumps) (sym w.2) j.1.2)
  where
    over : g.past ≤ s → (g.past ≡ length g.flow.ways) ⊎ IsCut (blocks_of g.flow) g.past → s < length g.flow.ways → ⊥
    over h (inl e) k = omega (arith, h, e, k)
    over h (inr cut) k = cut.free s t j.0 j.1 (inr (high, h))

    before : (s < g.past) ⊎ (s < g.past → ⊥) → s < length g.flow.ways → s < g.past
    before (inl h) k = h
    before (inr n) k = let h : g.past ≤ s = omega (arith, n) in absurd (over h seg.ends k)

ends_at : (g : Segment) → IsSegment g → (h : ℕ) → g.first ≤ h → h < g.past → (o : Option ℕ) → IsLastBack g.flow h o → EndsAt g h o
ends_at g seg h low high None k = λ s j. k s (jump_reached g s h j)
ends_at g seg h low high (Some l) k = record {
  back = jump_inside g seg l h low high k.1 k.0;
  ordered = k.1;
  greatest = λ s j. k.2 s (jump_reached g s h j);
}

segment_size : (g : Segment) → IsSegment g → g.past ≤ length g.flow.ways
segment_size g seg = by seg.ends
  where
    by : (g.past ≡ length g.flow.ways) ⊎ IsCut (blocks_of g.flow) g.past → g.past ≤ length g.flow.ways
    by (inl e) = omega (arith, e)
    by (inr cut) = let all : length (blocks_of g.flow) ≡ length g.flow.ways = length-map g.flow.ways ways_by in omega (arith, cut.there, all)

pub site_of : (g : Segment) (blocks : Blocks) → IsSegment g → AreKnown g.flow blocks → IsSite g blocks
site_of g blocks seg known =
    let size : g.past ≤ length g.flow.ways = segment_size g seg in
    record {
      exits = known.exits;
      alone = known.alone;
      size = size;
      reached = known_reached g.flow blocks known;
      bare = known_bare g blocks known;
      lasts = λ h low high. ends_at g seg h low high (last_of blocks h) (known.lasts h (omega (arith, high, size)));
    }
