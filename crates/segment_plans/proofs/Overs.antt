-- Where the arms of a jump list end, as it is found: where the first jump over the last target leads.
use Rattle.std.proofs.Common.{◌≡◌, ◌⊎◌, ℕ, zero, suc, ◌+◌, ◌-◌, ◌<◌, ◌≤◌, Bool, true, false, not, ◌&&◌, ◌||◌, List, Option, Some, None, cond, slice_get, inl, inr, ⊎_elim, refl, sym, ap, subst, ◌∙◌, arith}
use Rattle.std.specs.Bool.{Decides}
use Rattle.std.specs.Prelude.{nat_lt}
use Rattle.std.proofs.lemmas.Bool.{cases_lt}
use Rattle.std.proofs.lemmas.Bool.Decides.{Decides-and, Decides-ltb, Decides-not, Decides-or}
use Rattle.std.proofs.lemmas.Option.{none-some, same_Some}
use Rattle.stl_tree.specs.Blocks.{Way, always, if_made, on, one_of, stops, unless_ended}
use Rattle.stl_tree.specs.Segments.{IsOneOf, IsReached}
use Rattle.stl_tree.specs.Flows.{IsEndBlock, IsJump, IsList, Segment, blocks_of, jumps_of}
use Rattle.nesting_laws.specs.Plans.{IsWayOut}
use Rattle.flow_graph.specs.declared.graph.Exit.{Exit}
use Rattle.flow_graph.specs.declared.graph.Exit.TheVariants as exit
use Rattle.segment_plans.specs.Arms.{first_over, found_or, is_way_out, jump_over, over_by}
use Rattle.segment_plans.specs.Counts.{is_end, is_reached}
use Rattle.segment_plans.specs.Planned.{around_of}
use Rattle.segment_plans.specs.declared.blocks.Blocks.{Blocks}
use Rattle.segment_plans.specs.declared.planning.Around.{Around}
use Rattle.segment_plans.proofs.Site.{IsSite}
use Rattle.segment_plans.proofs.Ways.{end_block, same_way, way_at, way_out}

-- The first one of some blocks

module _ (blocks : Blocks) (a : Around) (last : ℕ) where
  -- one of some blocks has such a jump
  abbrev pub IsSomeOver : ℕ → ℕ → ℕ → Type 0
  IsSomeOver source count e = (s : ℕ) × (source ≤ s) × (s < source + count) × (jump_over blocks a last s ≡ Some e)

  -- none is found, or one leads there
  pub over_either : (source count : ℕ) → (first_over blocks a last source count ≡ last) ⊎ IsSomeOver source count (first_over blocks a last source count)
  over_either source zero = inl refl
  over_either source (suc count) = by (jump_over blocks a last source) refl (over_either (suc source) count)
    where
      by : (o : Option ℕ) → jump_over blocks a last source ≡ o
          → (first_over blocks a last (suc source) count ≡ last) ⊎ IsSomeOver (suc source) count (first_over blocks a last (suc source) count)
          → (found_or o (first_over blocks a last (suc source) count) ≡ last)
          ⊎ IsSomeOver source (suc count) (found_or o (first_over blocks a last (suc source) count))
      by (Some t) e h = inr (source, omega arith, omega arith, e)
      by None e (inl h) = inl h
      by None e (inr h) = inr (h.0, omega (arith, h.1), omega (arith, h.2), h.3)

  -- where the first one has none, another has it
  less_over : (source count e : ℕ) → jump_over blocks a last source ≡ None → (e ≡ last) ⊎ IsSomeOver source (suc count) e
      → (e ≡ last) ⊎ IsSomeOver (suc source) count e
  less_over source count e none (inl h) = inl h
  less_over source count e none (inr h) = ⊎_elim (λ x. inr (h.0, x, omega (arith, h.2), h.3))
      (λ x. let q : h.0 ≡ source = omega (arith, x, h.1) in
      absurd (none-some e (sym none ∙ subst (λ n. jump_over blocks a last n ≡ Some e) q h.3))) (cases_lt source h.0)

  -- all lead to one block, and some does or it is the last target
  pub over_is : (source count e : ℕ) → ((s t : ℕ) → source ≤ s → s < source + count → jump_over blocks a last s ≡ Some t → t ≡ e)
      → (e ≡ last) ⊎ IsSomeOver source count e → first_over blocks a last source count ≡ e
  over_is source zero e all (inl h) = sym h
  over_is source zero e all (inr h) = absurd (omega (arith, h.1, h.2))
  over_is source (suc count) e all some =
      by (λ rest. over_is (suc source) count e (λ s t x y f. all s t (omega arith) (omega arith) f) rest) (jump_over blocks a last source) refl
    where
      by : ((e ≡ last) ⊎ IsSomeOver (suc source) count e → first_over blocks a last (suc source) count ≡ e) → (o : Option ℕ)
          → jump_over blocks a last source ≡ o → found_or o (first_over blocks a last (suc source) count) ≡ e
      by more (Some t) q = all source t (omega arith) (omega arith) q
      by more None q = more (less_over source count e q some)

  -- after a block that has none
  pub over_step : (source e : ℕ) → source < last → jump_over blocks a last source ≡ None → first_over blocks a last source (last - source) ≡ e
      → first_over blocks a last (source + 1) (last - (source + 1)) ≡ e
  over_step source e x none is =
      let n : last - source ≡ suc (last - (source + 1)) = omega (arith, x) in
      let m : suc source ≡ source + 1 = omega arith in
      subst (λ k. first_over blocks a last k (last - (source + 1)) ≡ e) m
      (subst (λ (o : Option ℕ). found_or o (first_over blocks a last (suc source) (last - (source + 1))) ≡ e) none
      (subst (λ k. first_over blocks a last source k ≡ e) n is))

-- One jump

-- a jump of no list leads over a block, and neither out of the loop around, nor to its next turn, nor to the end word
pub record IsOver (g : Segment) (a : Around) (last s t : ℕ) : Type 0 where
  pub jump : IsJump g s t
  pub over : last < t
  pub free : IsWayOut (around_of a) t ⊎ IsEndBlock g.flow t → ⊥
  pub single : IsList g s → ⊥

module _ (g : Segment) (blocks : Blocks) (site : IsSite g blocks) (a : Around) (last s : ℕ) (low : g.first ≤ s) (high : s < g.past) where
  abbrev Passes : ℕ → Type 0
  Passes u = (last < u) × (IsWayOut (around_of a) u ⊎ IsEndBlock g.flow u → ⊥)

  passes : (u : ℕ) → Decides (nat_lt last u && not (is_way_out a u || is_end blocks u)) (Passes u)
  passes u =
      Decides-and (nat_lt last u) (not (is_way_out a u || is_end blocks u)) (Decides-ltb last u)
      (Decides-not (is_way_out a u || is_end blocks u) (Decides-or (is_way_out a u) (is_end blocks u) (way_out a u) (end_block g blocks site u)))

  reached : Decides (is_reached blocks s) (IsReached (blocks_of g.flow) s)
  reached = site.reached s (omega (arith, high, site.size))

  -- what is found is such a jump
  pub over_sound : (t : ℕ) → jump_over blocks a last s ≡ Some t → IsOver g a last s t
  over_sound t e = by (is_reached blocks s) reached e
    where
      one : IsReached (blocks_of g.flow) s → (u : ℕ) (w : Way) → slice_get g.flow.ways s ≡ Some w → IsOneOf u (jumps_of w)
          → ((ts : List ℕ) (l : ℕ) → w ≡ one_of ts l → ⊥) → (b : Bool) → Decides b (Passes u) → cond b (Some u) None ≡ Some t → IsOver g a last s t
      one r u w at o none true d q = subst (IsOver g a last s) (same_Some u t q) (record {
        jump = (w, (record { reached = r; low = low; high = high }, at), o);
        over = (d.0 refl).0;
        free = (d.0 refl).1;
        single = λ l. none l.0 l.1 (same_way g s w (one_of l.0 l.1) at l.2.1);
      })
      one r u w at o none false d q = absurd (none-some t q)

      there : IsReached (blocks_of g.flow) s → (o : Option Exit) → slice_get blocks.exits.items s ≡ o → over_by blocks a last o ≡ Some t
          → IsOver g a last s t
      there r None f q = absurd (none-some t q)
      there r (Some (exit.Jump u)) f q = one r u (always u) (way_at g blocks site s (Some (exit.Jump u)) f) (inl refl) (λ ts l n. cc)
          (nat_lt last u && not (is_way_out a u || is_end blocks u)) (passes u) q
      there r (Some (exit.Branch u)) f q = one r u (if_made u) (way_at g blocks site s (Some (exit.Branch u)) f) (inl refl) (λ ts l n. cc)
          (nat_lt last u && not (is_way_out a u || is_end blocks u)) (passes u) q
      there r (Some exit.Fall) f q = absurd (none-some t q)
      there r (Some exit.EndIf) f q = absurd (none-some t q)
      there r (Some exit.End) f q = absurd (none-some t q)
      there r (Some (exit.Table js j)) f q = absurd (none-some t q)

      by : (b : Bool) → Decides b (IsReached (blocks_of g.flow) s) → cond b (over_by blocks a last (slice_get blocks.exits.items s)) None ≡ Some t
          → IsOver g a last s t
      by true d q = there (d.0 refl) (slice_get blocks.exits.items s) refl q
      by false d q = absurd (none-some t q)

  -- such a jump is found
  pub over_found : (t : ℕ) → IsOver g a last s t → jump_over blocks a last s ≡ Some t
  over_found t is = by (is_reached blocks s) reached
    where
      passed : (u : ℕ) → u ≡ t → (b : Bool) → Decides b (Passes u) → cond b (Some u) None ≡ Some t
      passed u e true d = ap (λ n. Some n) e
      passed u e false d = let bad : false ≡ true = d.1 (subst Passes (sym e) (is.over, is.free)) in absurd cc

      to : (w : Way) → slice_get g.flow.ways s ≡ Some w → IsOneOf t (jumps_of w)
      to w e = subst (λ (x : Way). IsOneOf t (jumps_of x)) (same_way g s is.jump.0 w is.jump.1.1 e) is.jump.2

      alone : (u : ℕ) → (t ≡ u) ⊎ ⊥ → u ≡ t
      alone u (inl e) = sym e
      alone u (inr n) = absurd n

      there : (o : Option Exit) → slice_get blocks.exits.items s ≡ o → over_by blocks a last o ≡ Some t
      there None f = absurd (none-some is.jump.0 (sym (way_at g blocks site s None f) ∙ is.jump.1.1))
      there (Some (exit.Jump u)) f = passed u (alone u (to (always u) (way_at g blocks site s (Some (exit.Jump u)) f)))
          (nat_lt last u && not (is_way_out a u || is_end blocks u)) (passes u)
      there (Some (exit.Branch u)) f = passed u (alone u (to (if_made u) (way_at g blocks site s (Some (exit.Branch u)) f)))
          (nat_lt last u && not (is_way_out a u || is_end blocks u)) (passes u)
      there (Some exit.Fall) f = absurd (to on (way_at g blocks site s (Some exit.Fall) f))
      there (Some exit.EndIf) f = absurd (to unless_ended (way_at g blocks site s (Some exit.EndIf) f))
      there (Some exit.End) f = absurd (to stops (way_at g blocks site s (Some exit.End) f))
      there (Some (exit.Table js j)) f = absurd (is.single (js, j, (is.jump.1.0, way_at g blocks site s (Some (exit.Table js j)) f)))

      by : (b : Bool) → Decides b (IsReached (blocks_of g.flow) s) → cond b (over_by blocks a last (slice_get blocks.exits.items s)) None ≡ Some t
      by true d = there (slice_get blocks.exits.items s) refl
      by false d = let bad : false ≡ true = d.1 is.jump.1.0.reached in absurd cc
