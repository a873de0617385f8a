-- The blocks of a plain unit lead to blocks, and one of the end word alone ends the unit.
use Rattle.std.proofs.Common.{◌≡◌, ◌≢◌, ℕ, zero, suc, ◌<◌, ◌≤◌, true, List, [], ◌∷◌, length, slice_get, Some, refl, sym, ap, ◌∙◌, subst, arith}
use Rattle.std.specs.Option.{option_map}
use Rattle.std.specs.Prelude.{All}
use Rattle.std.proofs.lemmas.List.{length-map}
use Rattle.std.proofs.lemmas.List.Elements.{All-cons, All-nil}
use Rattle.std.proofs.lemmas.Option.{same_Some, slice_get-map}
use Rattle.st_tree.specs.declared.graph.StExit.{StExit}
use Rattle.st_tree.specs.declared.graph.StExit.TheVariants as exit
use Rattle.st_tree.specs.declared.graph.StNode.{StNode}
use Rattle.stl_tree.specs.Blocks.{Way, one_of}
use Rattle.stl_tree.specs.Flows.{falls_by, jumps_of}
use Rattle.graph_rules.specs.Flow.{flow_of, way_by}
use Rattle.graph_rules.specs.Plain.{LeadsInside}
use Rattle.nesting_laws.specs.PlanLaws.{IsFlow}
use Rattle.region_plans.proofs.Fitting.{table_of}
use Rattle.unit_regions.specs.MadeCharts.{ArePlain}
use Rattle.unit_regions.proofs.Charting.{any_only}

way_from : (nodes : List StNode) (b : ℕ) (way : Way) → slice_get (flow_of nodes).ways b ≡ Some way
    → (n : StNode) × (slice_get nodes b ≡ Some n) × (way_by n.exit ≡ way)
way_from [] b way e = absurd cc
way_from (n ∷ nodes) zero way e = (n, refl, same_Some (way_by n.exit) way e)
way_from (n ∷ nodes) (suc b) way e = way_from nodes b way e

jumps_inside : (count b : ℕ) (x : StExit) → LeadsInside count b x → All (λ (t : ℕ). t < count) (jumps_of (way_by x))
jumps_inside count b exit.Fall is = All-nil (λ (t : ℕ). t < count)
jumps_inside count b (exit.Jump j) is = All-cons (λ (t : ℕ). t < count) j [] is (All-nil (λ (t : ℕ). t < count))
jumps_inside count b (exit.Branch e j) is = All-cons (λ (t : ℕ). t < count) j [] is.1 (All-nil (λ (t : ℕ). t < count))
jumps_inside count b (exit.EndIf e) is = All-nil (λ (t : ℕ). t < count)
jumps_inside count b (exit.Table e targets last) is = All-cons (λ (t : ℕ). t < count) last targets is.4 is.2
jumps_inside count b exit.End is = All-nil (λ (t : ℕ). t < count)

falls_inside : (count b : ℕ) (x : StExit) → LeadsInside count b x → falls_by (way_by x) ≡ true → suc b < count
falls_inside count b exit.Fall is e = is
falls_inside count b (exit.Jump j) is e = absurd cc
falls_inside count b (exit.Branch t j) is e = is.0
falls_inside count b (exit.EndIf t) is e = is
falls_inside count b (exit.Table t targets last) is e = absurd cc
falls_inside count b exit.End is e = absurd cc

-- a jump list has entries
pub has_entries : (nodes : List StNode) → ArePlain nodes → (b : ℕ) (targets : List ℕ) (label : ℕ)
    → slice_get (flow_of nodes).ways b ≡ Some (one_of targets label) → targets ≢ []
has_entries nodes plain b targets label e none =
    let (n, there, same) = way_from nodes b (one_of targets label) e in let (test, is) = table_of n.exit targets label same in
    let some : 1 ≤ length targets = (subst (LeadsInside (length nodes) b) is (plain b n there).exit).0 in
    let few : length targets ≡ 0 = ap length none in omega arith

pub is_flow : (nodes : List StNode) → ArePlain nodes → IsFlow (flow_of nodes)
is_flow nodes plain =
    record {
      jumps = λ b way e.
          let (n, there, same) = way_from nodes b way e in
          subst (λ (way : Way). All (λ (t : ℕ). t < length (flow_of nodes).ways) (jumps_of way)) same
          (subst (λ (count : ℕ). All (λ (t : ℕ). t < count) (jumps_of (way_by n.exit))) (sym count_is)
          (jumps_inside (length nodes) b n.exit (plain b n there).exit));
      falls = λ b way e f.
          let (n, there, same) = way_from nodes b way e in
          let x = falls_inside (length nodes) b n.exit (plain b n there).exit (ap falls_by same ∙ f) in let m = count_is in omega arith;
      labels = λ b targets label e.
          let (n, there, same) = way_from nodes b (one_of targets label) e in let (test, is) = table_of n.exit targets label same in
          (subst (LeadsInside (length nodes) b) is (plain b n there).exit).3;
      ends = λ alone b last.
          let (k, n, there, only) = any_only nodes alone in let is = (plain k n there).only_end only in
          let own : suc k ≡ length nodes = is.last in let m = count_is in let e : k ≡ b = omega arith in
          slice_get-map (λ (n : StNode). way_by n.exit) nodes b
          ∙ ap (option_map (λ (n : StNode). way_by n.exit)) (subst (λ (k : ℕ). slice_get nodes k ≡ Some n) e there)
          ∙ ap (λ (x : StExit). Some (way_by x)) is.exit;
    }
  where
    count_is : length (flow_of nodes).ways ≡ length nodes
    count_is = length-map nodes (λ (n : StNode). way_by n.exit)
