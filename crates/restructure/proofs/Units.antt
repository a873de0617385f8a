-- What is known of a unit of plain nodes.
use Rattle.std.proofs.Common.{◌≡◌, ◌⊎◌, inl, inr, ℕ, zero, suc, ◌-◌, ◌<◌, ◌≤◌, Bool, true, false, if◌then◌else◌, List, [], ◌∷◌, Some, None, length, slice_get, refl, sym, ap, ◌∙◌, subst, arith}
use Rattle.std.proofs.lemmas.List.{length-map}
use Rattle.std.proofs.lemmas.Option.{same_Some, slice_get_within}
use Rattle.st_tree.specs.declared.graph.StNode.{StNode}
use Rattle.stl_tree.specs.Segments.{IsCut}
use Rattle.stl_tree.specs.Flows.{IsSegment, blocks_of, ways_by}
use Rattle.graph_rules.specs.Flow.{flow_of, way_by}
use Rattle.graph_rules.specs.Plain.{AreSettings}
use Rattle.unit_regions.specs.MadeCharts.{ArePlain, ending_of}
use Rattle.unit_regions.specs.UnitCharts.{blocks_between}
use Rattle.unit_regions.proofs.Charting.{ending_is}
use Rattle.unit_regions.proofs.Dispatch.{node_there}

-- The end word

pub are_settings : (nodes : List StNode) → ArePlain nodes → AreSettings (ending_of nodes)
are_settings nodes plain = by (ending_is nodes)
  where
    by : (ending_of nodes ≡ []) ⊎ ((k : ℕ) × (n : StNode) × (slice_get nodes k ≡ Some n) × (n.only_end ≡ true) × (ending_of nodes ≡ n.steps))
        → AreSettings (ending_of nodes)
    by (inl e) = subst AreSettings (sym e) tt
    by (inr (k, n, there, only, e)) = subst AreSettings (sym e) ((plain k n there).only_end only).settings

ending_at : (nodes : List StNode) (k : ℕ) (n : StNode) → suc k ≡ length nodes → slice_get nodes k ≡ Some n
    → ending_of nodes ≡ (if n.only_end then n.steps else [])
ending_at [] k n l e = absurd (omega (arith, l))
ending_at (x ∷ []) zero n l e = ap (λ (n : StNode). if n.only_end then n.steps else []) (same_Some x n e)
ending_at (x ∷ []) (suc k) n l e = absurd (omega (arith, l))
ending_at (x ∷ y ∷ rest) zero n l e = absurd (omega (arith, l))
ending_at (x ∷ y ∷ rest) (suc k) n l e = ending_at (y ∷ rest) k n (omega (arith, l)) e

-- the steps of the last node, if it is that of the end word alone
ending_by : (nodes : List StNode) (n : StNode) → slice_get nodes (length nodes - 1) ≡ Some n → ending_of nodes ≡ (if n.only_end then n.steps else [])
ending_by nodes n e =
    let there : length nodes - 1 < length nodes = slice_get_within nodes (length nodes - 1) n e in
    ending_at nodes (length nodes - 1) n (omega (arith, there)) e

pub ending_steps : (nodes : List StNode) (n : StNode) → slice_get nodes (length nodes - 1) ≡ Some n → n.only_end ≡ true → ending_of nodes ≡ n.steps
ending_steps nodes n e only = ending_by nodes n e ∙ ap (λ (b : Bool). if b then n.steps else []) only

pub ending_none : (nodes : List StNode) (n : StNode) → slice_get nodes (length nodes - 1) ≡ Some n → n.only_end ≡ false → ending_of nodes ≡ []
ending_none nodes n e other = ending_by nodes n e ∙ ap (λ (b : Bool). if b then n.steps else []) other

pub ending_empty : (nodes : List StNode) → None ≡ slice_get nodes (length nodes - 1) → ending_of nodes ≡ []
ending_empty [] e = refl
ending_empty (x ∷ nodes) e = let (n, there) = node_there (x ∷ nodes) (length (x ∷ nodes) - 1) (omega arith) in absurd cc

-- Segments

pub size_of_ways : (nodes : List StNode) → length (flow_of nodes).ways ≡ length nodes
size_of_ways nodes = length-map nodes (λ (n : StNode). way_by n.exit)

pub past_within : (nodes : List StNode) (first past : ℕ) → IsSegment (blocks_between nodes first past) → past ≤ length nodes
past_within nodes first past is = by is.ends
  where
    count : length (flow_of nodes).ways ≡ length nodes
    count = size_of_ways nodes

    by : (past ≡ length (flow_of nodes).ways) ⊎ IsCut (blocks_of (flow_of nodes)) past → past ≤ length nodes
    by (inl e) = omega (arith, e, count)
    by (inr cut) =
        let there : past < length (blocks_of (flow_of nodes)) = cut.there in
        let all : length (blocks_of (flow_of nodes)) ≡ length (flow_of nodes).ways = length-map (flow_of nodes).ways ways_by in
        omega (arith, there, all, count)
