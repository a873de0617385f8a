-- Where the blocks of a segment lead.
use Rattle.std.proofs.Common.{◌≡◌, inl, inr, ⊎_elim, ℕ, zero, suc, ◌<◌, ◌≤◌, List, [], ◌∷◌, length, map, slice_get, Option, Some, None, refl, sym, ap, ◌∙◌, subst, arith}
use Rattle.std.specs.List.{AllByRecursion}
use Rattle.std.specs.Option.{option_map}
use Rattle.std.proofs.lemmas.Bool.{cases_lt}
use Rattle.std.proofs.lemmas.List.{length-map}
use Rattle.std.proofs.lemmas.List.Elements.{recursion_from_All}
use Rattle.std.proofs.lemmas.Option.{none-some, same_Some, slice_get-map}
use Rattle.st_tree.specs.declared.graph.StNode.{StNode}
use Rattle.stl_tree.specs.Blocks.{Way}
use Rattle.stl_tree.specs.Segments.{IsCut, IsOneOf, IsReached, JumpsTo, Ways, fall, first, jump}
use Rattle.stl_tree.specs.Flows.{Flow, GoesOn, IsSegment, Segment, blocks_of, jumps_of, ways_by}
use Rattle.graph_rules.specs.Flow.{flow_of, way_by}
use Rattle.nesting_laws.specs.PlanLaws.{IsFlow}
use Rattle.nesting_laws.specs.Plans.{LeadsTo}

pub entry_at : (nodes : List StNode) (b : ℕ) → b < length nodes → (n : StNode) × (slice_get nodes b ≡ Some n)
entry_at [] b x = absurd (omega arith)
entry_at (n ∷ nodes) zero x = (n, refl)
entry_at (n ∷ nodes) (suc b) x = entry_at nodes b (omega arith)

pub many_nodes : (flow : Flow) (nodes : List StNode) → flow ≡ flow_of nodes → length flow.ways ≡ length nodes
many_nodes flow nodes same = ap (λ (flow : Flow). length flow.ways) same ∙ length-map nodes (λ (n : StNode). way_by n.exit)

-- the way after a node
pub way_after : (flow : Flow) (nodes : List StNode) → flow ≡ flow_of nodes → (b : ℕ) (n : StNode) → slice_get nodes b ≡ Some n
    → slice_get flow.ways b ≡ Some (way_by n.exit)
way_after flow nodes same b n e =
    subst (λ (flow : Flow). slice_get flow.ways b ≡ Some (way_by n.exit)) (sym same)
    (slice_get-map (λ (n : StNode). way_by n.exit) nodes b ∙ ap (option_map (λ (n : StNode). way_by n.exit)) e)

ways_there : (g : Segment) (b : ℕ) (way : Way) → GoesOn g b way → slice_get (blocks_of g.flow) b ≡ Some (ways_by way)
ways_there g b way goes = slice_get-map ways_by g.flow.ways b ∙ ap (option_map ways_by) goes.1

-- a path reaches where a block leads
pub lead_reach : (g : Segment) (b t : ℕ) → LeadsTo g b t → IsReached (blocks_of g.flow) t
lead_reach g b t (way, goes, inl o) = jump goes.0.reached (ways_by way, ways_there g b way goes, o)
lead_reach g b t (way, goes, inr f) =
    subst (λ t. IsReached (blocks_of g.flow) t) (sym f.1) (fall goes.0.reached (ways_by way, ways_there g b way goes, f.0))

one_of_all : (P : ℕ → Type 0) (xs : List ℕ) (n : ℕ) → AllByRecursion P xs → IsOneOf n xs → P n
one_of_all P [] n all o = absurd o
one_of_all P (x ∷ xs) n all (inl e) = subst P (sym e) all.0
one_of_all P (x ∷ xs) n all (inr o) = one_of_all P xs n all.1 o

-- the way of a block whose ways are these
way_found : (ways : List Way) (b : ℕ) (found : Ways) → slice_get (map ways_by ways) b ≡ Some found
    → (way : Way) × (slice_get ways b ≡ Some way) × (ways_by way ≡ found)
way_found ways b found e = by (slice_get ways b) refl
  where
    by : (o : Option Way) → slice_get ways b ≡ o → (way : Way) × (slice_get ways b ≡ Some way) × (ways_by way ≡ found)
    by None f = absurd (none-some found (ap (option_map ways_by) (sym f) ∙ sym (slice_get-map ways_by ways b) ∙ e))
    by (Some way) f = (way, f, same_Some (ways_by way) found (ap (option_map ways_by) (sym f) ∙ sym (slice_get-map ways_by ways b) ∙ e))

module _ (g : Segment) (is_flow : IsFlow g.flow) (segment : IsSegment g) where
  pub within_flow : g.past ≤ length g.flow.ways
  within_flow = ⊎_elim (λ e. omega arith)
      (λ (cut : IsCut (blocks_of g.flow) g.past). let x : g.past < length (blocks_of g.flow) = cut.there in
      let e : length (blocks_of g.flow) ≡ length g.flow.ways = length-map g.flow.ways ways_by in omega arith) segment.ends

  -- what a path reaches is there
  jump_within : (s t : ℕ) → JumpsTo (blocks_of g.flow) s t → t < length g.flow.ways
  jump_within s t (ways, e, o) =
      let (way, f, same) = way_found g.flow.ways s ways e in
      one_of_all (λ t. t < length g.flow.ways) (jumps_of way) t (recursion_from_All _ (jumps_of way) (is_flow.jumps s way f))
      (subst (λ (ways : Ways). IsOneOf t ways.jumps) (sym same) o)

  pub reach_within : (b : ℕ) → IsReached (blocks_of g.flow) b → b < length g.flow.ways
  reach_within b first = let x : g.first < g.past = segment.some in let y = within_flow in omega arith
  reach_within b (jump {s} {t} r j) = jump_within s t j
  reach_within b (fall {s} r (ways, e, f)) =
      let (way, at, same) = way_found g.flow.ways s ways e in
      is_flow.falls s way at (ap (λ (ways : Ways). ways.falls) same ∙ f)

  -- no block leads over the end of the segment
  pub lead_high : (b t : ℕ) → LeadsTo g b t → t ≤ g.past
  lead_high b t (way, goes, inl o) =
      let j : JumpsTo (blocks_of g.flow) b t = (ways_by way, ways_there g b way goes, o) in
      let x : b < g.past = goes.0.high in
      ⊎_elim (λ e. let y = jump_within b t j in omega arith)
      (λ (cut : IsCut (blocks_of g.flow) g.past). ⊎_elim (λ y. absurd (cut.free b t goes.0.reached j (inl (x, y)))) (λ y. y) (cases_lt g.past t))
      segment.ends
  lead_high b t (way, goes, inr f) = let x : b < g.past = goes.0.high in let e : t ≡ suc b = f.1 in omega arith
