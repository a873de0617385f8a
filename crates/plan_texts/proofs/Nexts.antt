-- The next block that is reached, as it is counted and as a chart has it.
use Rattle.std.proofs.Common.{◌≡◌, ◌⊎◌, inl, inr, ℕ, suc, ◌+◌, ◌-◌, ◌<◌, ◌≤◌, Bool, true, false, ◌&&◌, ◌==◌, List, length, refl, sym, ap, subst, arith}
use Rattle.std.specs.Bool.{Decides}
use Rattle.std.specs.Prelude.{nat_le, nat_lt}
use Rattle.std.proofs.lemmas.Bool.{leb-false, leb-true}
use Rattle.std.proofs.lemmas.Bool.Decides.{Decides-and, Decides-eqb, Decides-like, Decides-ltb, same_from_decides}
use Rattle.std.proofs.lemmas.List.{length-map}
use Rattle.st_tree.specs.declared.graph.StNode.{StNode}
use Rattle.st_tree.specs.declared.program.Stmt.{Stmt}
use Rattle.stl_tree.specs.Segments.{IsCut, IsReached}
use Rattle.stl_tree.specs.Flows.{IsSegment, Segment, blocks_of, ways_by}
use Rattle.nesting_laws.specs.Plans.{IsBare}
use Rattle.graph_rules.specs.Flow.{flow_of, way_by}
use Rattle.region_plans.specs.PlanRegion.{is_at, is_last}
use Rattle.unit_regions.specs.MadeCharts.{first_from}
use Rattle.unit_regions.specs.UnitCharts.{blocks_between}
use Rattle.unit_regions.proofs.Charting.{next_is}
use Rattle.dispatch_loops.specs.Charted.{chart_in}
use Rattle.segment_plans.specs.Counts.{is_bare, is_reached}
use Rattle.segment_plans.specs.Known.{AreKnown}
use Rattle.segment_plans.specs.Planned.{IsPartOf}
use Rattle.segment_plans.specs.declared.blocks.Blocks.{Blocks}
use Rattle.segment_plans.specs.declared.planning.Part.{Part}
use Rattle.segment_plans.proofs.Bare.{known_bare, known_reached}
use Rattle.plan_texts.specs.inner.Leads.{IsWriting, falls_to, is_next, place_in}

-- Tests

-- a second test that decides where the first one is met
decides_then : {P Q : Type 0} (x y : Bool) → Decides x P → (P → Decides y Q) → Decides (x && y) (P × Q)
decides_then true true d e = (λ g. (d.0 refl, (e (d.0 refl)).0 refl), λ p. refl)
decides_then true false d e = (λ g. absurd cc, λ p. (e p.0).1 p.1)
decides_then false y d e = (λ g. absurd cc, λ p. d.1 p.0)

decides_le : (m n : ℕ) → Decides (nat_le m n) (m ≤ n)
decides_le m n = by (nat_le m n) refl
  where
    by : (t : Bool) → nat_le m n ≡ t → Decides t (m ≤ n)
    by true e = (λ g. leb-true m n e, λ h. refl)
    by false e = (λ g. absurd cc, λ h. let f : n < m = leb-false m n e in absurd (omega (arith, f, h)))

-- Blocks

-- as many blocks as ways
pub as_many : (all : List StNode) → length (flow_of all).ways ≡ length all
as_many all = length-map all (λ (n : StNode). way_by n.exit)

module _ (g : Segment) (blocks : Blocks) (known : AreKnown g.flow blocks) (count : ℕ) (size : count ≡ length g.flow.ways) (lo : ℕ) where
  abbrev next : ℕ
  next = first_from (is_reached blocks) (suc lo) (count - suc lo)

  seen : (q : ℕ) → q < count → IsReached (blocks_of g.flow) q → is_reached blocks q ≡ true
  seen q h r = (known_reached g.flow blocks known q (omega (arith, h, size))).1 r

  unseen : (q : ℕ) → q < count → is_reached blocks q ≡ false → IsReached (blocks_of g.flow) q → ⊥
  unseen q h e r = let f : is_reached blocks q ≡ true = seen q h r in absurd cc

  ahead : lo < next
  ahead = let h : suc lo ≤ next = (next_is (is_reached blocks) (count - suc lo) (suc lo)).0 in omega (arith, h)

  none : (hi q : ℕ) → hi ≤ count → hi ≤ next → lo < q → q < hi → IsReached (blocks_of g.flow) q → ⊥
  none hi q high order low up r =
      unseen q (omega (arith, high, up)) ((next_is (is_reached blocks) (count - suc lo) (suc lo)).1 q (omega (arith, low)) (omega (arith, up, order))) r

  found : (hi : ℕ) → hi ≤ count → next < hi → IsReached (blocks_of g.flow) next
  found hi high up = by (next_is (is_reached blocks) (count - suc lo) (suc lo)).2
    where
      by : (is_reached blocks next ≡ true) ⊎ (next ≡ suc lo + (count - suc lo)) → IsReached (blocks_of g.flow) next
      by (inl e) = (known_reached g.flow blocks known next (omega (arith, high, up, size))).0 e
      by (inr e) = let a : lo < next = ahead in absurd (omega (arith, e, high, up, a))

  decides_last : (hi : ℕ) → hi ≤ count → Decides (nat_le hi next) (IsBare g lo hi)
  decides_last hi high =
      Decides-like (nat_le hi next) (λ h q low up r. none hi q high h low up r) (λ b. by b (nat_lt next hi) (Decides-ltb next hi)) (decides_le hi next)
    where
      by : IsBare g lo hi → (t : Bool) → Decides t (next < hi) → hi ≤ next
      by b true d = let up : next < hi = d.0 refl in absurd (b next ahead up (found hi high up))
      by b false d =
          let out : next < hi → ⊥ = λ (h : next < hi). let e : false ≡ true = d.1 h in absurd cc in
          omega (arith, out)

  decides_bare : (hi : ℕ) → lo < hi → hi ≤ count → Decides (is_bare blocks lo hi) (IsBare g lo hi)
  decides_bare hi low high = known_bare g blocks known lo hi low (omega (arith, high, size))

  pub bare_last : (hi : ℕ) → lo < hi → hi ≤ count → is_bare blocks lo hi ≡ nat_le hi next
  bare_last hi low high = same_from_decides (is_bare blocks lo hi) (nat_le hi next) (decides_bare hi low high) (decides_last hi high)

  abbrev Comes : ℕ → ℕ → Type 0
  Comes hi t = (((lo < t) × (t < hi)) × IsReached (blocks_of g.flow) t) × IsBare g lo t

  tested : (hi t : ℕ) → hi ≤ count → Decides (nat_lt lo t && nat_lt t hi && is_reached blocks t && is_bare blocks lo t) (Comes hi t)
  tested hi t high =
      decides_then (nat_lt lo t && nat_lt t hi && is_reached blocks t) (is_bare blocks lo t)
      (decides_then (nat_lt lo t && nat_lt t hi) (is_reached blocks t)
      (Decides-and (nat_lt lo t) (nat_lt t hi) (Decides-ltb lo t) (Decides-ltb t hi))
      (λ h. let up : t < hi = h.1 in known_reached g.flow blocks known t (omega (arith, up, high, size))))
      (λ h. let low : lo < t = h.0.0 in let up : t < hi = h.0.1 in decides_bare t low (omega (arith, up, high)))

  charted : (hi t : ℕ) → hi ≤ count → Decides ((t == next) && nat_lt t hi) (Comes hi t)
  charted hi t high =
      Decides-like ((t == next) && nat_lt t hi) there back (Decides-and (t == next) (nat_lt t hi) (Decides-eqb t next) (Decides-ltb t hi))
    where
      there : (t ≡ next) × (t < hi) → Comes hi t
      there h =
          let e : t ≡ next = h.0 in
          let up : t < hi = h.1 in
          let low : lo < next = ahead in (
            ((omega (arith, e, low), up), subst (λ n. IsReached (blocks_of g.flow) n) (sym e) (found hi high (omega (arith, e, up)))),
            λ q a b. none t q (omega (arith, up, high)) (omega (arith, e)) a b,
          )

      back : Comes hi t → (t ≡ next) × (t < hi)
      back h =
          let low : lo < t = h.0.0.0 in
          let up : t < hi = h.0.0.1 in
          let before : t < next → ⊥ =
          λ (k : t < next). none (suc t) t (omega (arith, up, high)) (omega (arith, k)) low (omega arith) h.0.1 in
          let behind : next < t → ⊥ = λ (k : next < t). h.1 next ahead k (found hi high (omega (arith, k, up))) in
          (omega (arith, before, behind), up)

  pub next_same : (hi t : ℕ) → hi ≤ count → (nat_lt lo t && nat_lt t hi && is_reached blocks t && is_bare blocks lo t) ≡ ((t == next) && nat_lt t hi)
  next_same hi t high =
      same_from_decides (nat_lt lo t && nat_lt t hi && is_reached blocks t && is_bare blocks lo t) ((t == next) && nat_lt t hi) (tested hi t high)
      (charted hi t high)

-- Of a part

segment_size : (g : Segment) → IsSegment g → g.past ≤ length g.flow.ways
segment_size g segment = by segment.ends
  where
    by : (g.past ≡ length g.flow.ways) ⊎ IsCut (blocks_of g.flow) g.past → g.past ≤ length g.flow.ways
    by (inl e) = omega (arith, e)
    by (inr cut) = let all : length (blocks_of g.flow) ≡ length g.flow.ways = length-map g.flow.ways ways_by in omega (arith, cut.there, all)

pub within : (all : List StNode) (from past : ℕ) (blocks : Blocks) (steps : List Stmt) → IsWriting all from past blocks steps → (part : Part) (at : ℕ)
    → IsPartOf (blocks_between all from past) part at → part.past ≤ length all
within all from past blocks steps w part at p =
    let s : past ≤ length (flow_of all).ways = segment_size (blocks_between all from past) w.segment in omega (arith, s, as_many all, p.high)

pub is_next_same : (all : List StNode) (from past : ℕ) (blocks : Blocks) (steps : List Stmt) → IsWriting all from past blocks steps
    → (part : Part) (at to : ℕ)
    → IsPartOf (blocks_between all from past) part at
    → is_next blocks part at to ≡ ((to == (chart_in all blocks).next at) && nat_lt to part.past)
is_next_same all from past blocks steps w part at to p =
    next_same (blocks_between all from past) blocks w.known (length all) (sym (as_many all)) at part.past to
    (within all from past blocks steps w part at p)

pub is_last_same : (all : List StNode) (from past : ℕ) (blocks : Blocks) (steps : List Stmt) → IsWriting all from past blocks steps → (part : Part) (at : ℕ)
    → IsPartOf (blocks_between all from past) part at → at < part.past
    → is_bare blocks at part.past ≡ is_last (chart_in all blocks) at part.past
is_last_same all from past blocks steps w part at p low =
    bare_last (blocks_between all from past) blocks w.known (length all) (sym (as_many all)) at part.past low
    (within all from past blocks steps w part at p)

pub falls_to_same : (all : List StNode) (from past : ℕ) (blocks : Blocks) (steps : List Stmt) → IsWriting all from past blocks steps
    → (tail : Bool) (part : Part)
    (at to : ℕ) → IsPartOf (blocks_between all from past) part at → at < part.past
    → falls_to blocks tail part at to ≡ (is_at (place_in tail part) to && is_last (chart_in all blocks) at part.past)
falls_to_same all from past blocks steps w true part at to p low = refl
falls_to_same all from past blocks steps w false part at to p low =
    ap (λ b. (part.follow == to) && b) (is_last_same all from past blocks steps w part at p low)
