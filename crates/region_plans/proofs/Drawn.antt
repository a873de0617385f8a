-- What is known of a chart that is drawn from the blocks of a body.
use Rattle.std.proofs.Common.{◌≡◌, ⊎_elim, ℕ, suc, ◌<◌, ◌≤◌, length, slice_get, refl, sym, ap, ◌∙◌, subst, arith}
use Rattle.std.proofs.lemmas.Bool.{cases_lt}
use Rattle.std.proofs.lemmas.Option.{same_Some}
use Rattle.st_tree.specs.declared.graph.StExit.{StExit}
use Rattle.st_tree.specs.declared.graph.StExit.TheVariants as exit
use Rattle.stl_tree.specs.Blocks.{stops}
use Rattle.stl_tree.specs.Segments.{IsOneOf}
use Rattle.stl_tree.specs.Flows.{IsEndBlock, IsLoop, IsSegment, Segment, jumps_of}
use Rattle.graph_rules.specs.Flow.{way_by}
use Rattle.nesting_laws.specs.PlanLaws.{IsFlow}
use Rattle.nesting_laws.specs.Plans.{LeadsTo}
use Rattle.region_laws.specs.Regions.{unmarked}
use Rattle.region_plans.specs.Charts.{IsCharted, IsDrawn, IsEnd}
use Rattle.region_plans.specs.PlanRegion.{Chart}
use Rattle.region_plans.specs.RegionLaws.{DrawnIsCharted}
use Rattle.region_plans.proofs.Inside.{entry_at, lead_high, many_nodes, reach_within, way_after, within_flow}

-- an exit after which a body stops
stops_of : (x : StExit) → way_by x ≡ stops → x ≡ exit.End
stops_of exit.Fall e = absurd cc
stops_of (exit.Jump j) e = absurd cc
stops_of (exit.Branch test j) e = absurd cc
stops_of (exit.EndIf test) e = absurd cc
stops_of (exit.Table test targets last) e = absurd cc
stops_of exit.End e = refl

module _ (c : Chart) (g : Segment) (is_flow : IsFlow g.flow) (segment : IsSegment g) (drawn : IsDrawn c g) where
  many : length g.flow.ways ≡ length c.unit.nodes
  many = many_nodes g.flow c.unit.nodes drawn.flow

  end_there : (b t : ℕ) → LeadsTo g b t → IsEndBlock g.flow t → IsEnd c t
  end_there b t lead end =
      let last : suc t ≡ length g.flow.ways = end.1 in let e = many in let y = within_flow g is_flow segment in let z = lead_high g is_flow segment b t lead in
      let (n, there) = entry_at c.unit.nodes t (omega arith) in
      record {
        node = n;
        there = there;
        steps = drawn.end_is t n end there;
        exit = stops_of n.exit (same_Some (way_by n.exit) stops (sym (way_after g.flow c.unit.nodes drawn.flow t n there) ∙ is_flow.ends end.0 t end.1));
        free = ⊎_elim (λ x. inside x) (λ x. let same : g.past ≡ t = omega arith in
            subst (λ b. c.unit.marks b ≡ unmarked) same (drawn.end_free (subst (λ b. IsEndBlock g.flow b) (sym same) end))) (cases_lt t g.past);
      }
    where
      no_loop : (l : ℕ) → IsLoop g t l → ⊥
      no_loop l loop =
          let (way, goes, o) = loop.back in
          let x : t ≤ l = loop.ordered in let y : l < g.past = goes.0.high in let z = within_flow g is_flow segment in
          let last : suc t ≡ length g.flow.ways = end.1 in
          let same : l ≡ t = omega arith in
          subst (λ way. IsOneOf t (jumps_of way))
          (same_Some way stops (sym goes.1 ∙ ap (slice_get g.flow.ways) same ∙ is_flow.ends end.0 t end.1)) o

      inside : t < g.past → c.unit.marks t ≡ unmarked
      inside x =
          let some : g.first < g.past = segment.some in let z = within_flow g is_flow segment in let last : suc t ≡ length g.flow.ways = end.1 in
          ⊎_elim (λ (l, loop, e). absurd (no_loop l loop)) (λ (none, e). e) (drawn.heads t (omega arith) x)

  charted : IsCharted c g
  charted = record {
    flow = drawn.flow;
    within = (let x = within_flow g is_flow segment in let e = many in omega arith);
    reached = drawn.reached;
    there = λ b r. (let x = reach_within g is_flow segment b ((drawn.reached b).0 r) in let e = many in omega arith);
    lists = λ b targets label e. (drawn.entries b targets label e, is_flow.labels b targets label e);
    nexts = drawn.nexts;
    heads = drawn.heads;
    ends = end_there;
    settings = drawn.settings;
    few = drawn.few;
  }

pub drawn_is_charted : DrawnIsCharted
drawn_is_charted c g flow segment drawn = charted c g flow segment drawn
