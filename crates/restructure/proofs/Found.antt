-- What is found of the blocks of a unit is right.
use Rattle.std.proofs.Common.{◌≡◌, ◌≢◌, ◌⊎◌, inl, inr, ℕ, zero, suc, ◌<◌, ◌≤◌, Bool, true, false, List, [], ◌∷◌, ◌++◌, Option, Some, None, drop, get_or, length, map, slice_get, refl, sym, ap, ◌∙◌, subst, arith, append_assoc}
use Rattle.std.specs.List.{All}
use Rattle.std.specs.Option.{option_map}
use Rattle.std.proofs.lemmas.List.{length-map}
use Rattle.std.proofs.lemmas.List.Elements.{All-tail}
use Rattle.std.proofs.lemmas.Option.{same_Some, slice_get-map}
use Rattle.st_tree.specs.declared.graph.StNode.{StNode}
use Rattle.stl_tree.specs.Blocks.{Way}
use Rattle.stl_tree.specs.Segments.{AreAscending, AreCuts, IsOneOf, IsReached, Ways, fall, first, jump}
use Rattle.stl_tree.specs.Flows.{Flow, blocks_of, jumps_of, ways_by}
use Rattle.flow_graph.specs.Graphs.{ways_after, ways_of}
use Rattle.flow_graph.specs.Graphs.{way_by as exit_way}
use Rattle.flow_graph.specs.Reached.{AreReached}
use Rattle.flow_graph.specs.declared.graph.Exit.{Exit}
use Rattle.graph_rules.specs.Flow.{flow_of}
use Rattle.nesting_laws.specs.PlanLaws.{IsFlow}
use Rattle.segment_plans.specs.Counts.{is_reached, last_of}
use Rattle.segment_plans.specs.Known.{AreKnown, IsLastBack}
use Rattle.segment_plans.specs.declared.blocks.Blocks.{Blocks}
use Rattle.unit_regions.specs.MadeCharts.{IsFound, IsMade, chart_of}
use Rattle.unit_regions.specs.MadeCharts.{IsLastBack as IsLastJump}
use Rattle.unit_regions.proofs.Cutting.{all_after, cuts_make_segments}
use Rattle.unit_regions.proofs.Flowing.{is_flow}
use Rattle.restructure.specs.Structures.{AreUnitNodes}
use Rattle.restructure.specs.inner.Writing.{AreSegments, IsUnitText}
use Rattle.restructure.specs.declared.structured.Structured.{Structured}
use Rattle.restructure.proofs.Units.{size_of_ways}

-- Exits

pub same_blocks : (exits : List Exit) → ways_after exits ≡ map ways_by (map exit_way exits)
same_blocks [] = refl
same_blocks (exit ∷ exits) = ap (λ (ws : List Ways). ways_of exit ∷ ws) (same_blocks exits)

pub size_of_blocks : (flow : Flow) → length (blocks_of flow) ≡ length flow.ways
size_of_blocks flow = length-map flow.ways ways_by

module _ (nodes : List StNode) (blocks : Blocks) (known : AreKnown (flow_of nodes) blocks) where
  pub blocks_are : ways_after blocks.exits.items ≡ blocks_of (flow_of nodes)
  blocks_are = same_blocks blocks.exits.items ∙ ap (λ (ws : List Way). map ways_by ws) known.exits

  pub size_of_exits : length blocks.exits.items ≡ length nodes
  size_of_exits = sym (length-map blocks.exits.items exit_way) ∙ ap (λ (ws : List Way). length ws) known.exits ∙ size_of_ways nodes

  pub reached_known : AreReached (ways_after blocks.exits.items) blocks.reached.items
  reached_known = subst (λ (ws : List Ways). AreReached ws blocks.reached.items) (sym blocks_are) known.reached

  size_of_reached : length blocks.reached.items ≡ length nodes
  size_of_reached = known.reached.size ∙ size_of_blocks (flow_of nodes) ∙ size_of_ways nodes

-- Reached blocks

-- the way by which a block has its ways
way_of : (flow : Flow) (s : ℕ) (ways : Ways) → slice_get (blocks_of flow) s ≡ Some ways
    → (w : Way) × (slice_get flow.ways s ≡ Some w) × (ways ≡ ways_by w)
way_of flow s ways e = by (slice_get flow.ways s) refl (sym (slice_get-map ways_by flow.ways s) ∙ e)
  where
    by : (o : Option Way) → slice_get flow.ways s ≡ o → option_map ways_by o ≡ Some ways
        → (w : Way) × (slice_get flow.ways s ≡ Some w) × (ways ≡ ways_by w)
    by None at f = absurd cc
    by (Some w) at f = (w, at, same_Some ways (ways_by w) (sym f))

one_below : (count t : ℕ) (ts : List ℕ) → All (λ (t : ℕ). t < count) ts → IsOneOf t ts → t < count
one_below count t [] all o = absurd o
one_below count t (s ∷ ts) all (inl e) =
    let x : s < count = all 0 0 (omega arith) in omega (arith, x, e)
one_below count t (s ∷ ts) all (inr o) = one_below count t ts (All-tail (λ (t : ℕ). t < count) s ts all) o

-- a block that is reached is one
pub reached_within : (flow : Flow) → IsFlow flow → 0 < length flow.ways → (b : ℕ) → IsReached (blocks_of flow) b → b < length flow.ways
reached_within flow is some zero first = some
reached_within flow is some b (jump {s} {t} r (ways, at, o)) =
    let (w, there, same) = way_of flow s ways at in
    one_below (length flow.ways) b (jumps_of w) (is.jumps s w there) (subst (λ (ws : Ways). IsOneOf b ws.jumps) same o)
reached_within flow is some b (fall {s} r (ways, at, f)) =
    let (w, there, same) = way_of flow s ways at in
    is.falls s w there (sym (ap (λ (ws : Ways). ws.falls) same) ∙ f)

-- Truth values

inside_of : (xs : List Bool) (i : ℕ) → get_or xs i false ≡ true → i < length xs
inside_of [] i e = absurd cc
inside_of (x ∷ xs) zero e = omega arith
inside_of (x ∷ xs) (suc i) e = let h : i < length xs = inside_of xs i e in omega (arith, h)

same_inside : (xs : List Bool) (i : ℕ) (a b : Bool) → i < length xs → get_or xs i a ≡ get_or xs i b
same_inside [] i a b h = absurd (omega (arith, h))
same_inside (x ∷ xs) zero a b h = refl
same_inside (x ∷ xs) (suc i) a b h = same_inside xs i a b (omega (arith, h))

-- What is found

last_jump : (flow : Flow) (h : ℕ) (o : Option ℕ) → IsLastBack flow h o → IsLastJump (blocks_of flow) h o
last_jump flow h None k = λ s r j. k s (r, j)
last_jump flow h (Some l) k = (k.0.0, k.0.1, k.1, λ s r j. k.2 s (r, j))

some_node : (nodes : List StNode) → nodes ≢ [] → 0 < length nodes
some_node [] some = absurd (some refl)
some_node (n ∷ nodes) some = omega arith

module _ (nodes : List StNode) (blocks : Blocks) (plain : AreUnitNodes nodes) (known : AreKnown (flow_of nodes) blocks) where
  some_way : 0 < length (flow_of nodes).ways
  some_way =
      let h : 0 < length nodes = some_node nodes plain.some in let e : length (flow_of nodes).ways ≡ length nodes = size_of_ways nodes in
      omega (arith, h, e)

  size : length blocks.reached.items ≡ length nodes
  size = size_of_reached nodes blocks known

  is_found : (b : ℕ) → is_reached blocks b ≡ true → (b < length nodes) × IsReached (blocks_of (flow_of nodes)) b
  is_found b e =
      let inside : b < length blocks.reached.items = inside_of blocks.reached.items b e in
      (omega (arith, inside, size), known.reached.sound b inside (same_inside blocks.reached.items b true false inside ∙ e))

  finds : (b : ℕ) → IsReached (blocks_of (flow_of nodes)) b → is_reached blocks b ≡ true
  finds b r =
      let there : b < length (flow_of nodes).ways = reached_within (flow_of nodes) (is_flow nodes plain.plain) some_way b r in
      let e : length (flow_of nodes).ways ≡ length nodes = size_of_ways nodes in
      let inside : b < length blocks.reached.items = omega (arith, there, e, size) in
      same_inside blocks.reached.items b false true inside ∙ known.reached.complete b r

  pub are_found : (cuts : List ℕ) → AreCuts (blocks_of (flow_of nodes)) cuts → IsFound nodes (is_reached blocks) (last_of blocks) cuts
  are_found cuts points = record {
    whole = record { reaches = λ b. ((λ e. (is_found b e).1), λ r. finds b r); there = λ b e. (is_found b e).0; points = points };
    backs = λ h inside. last_jump (flow_of nodes) h (last_of blocks h)
        (known.lasts h (let e : length (flow_of nodes).ways ≡ length nodes = size_of_ways nodes in omega (arith, inside, e)));
  }

-- Cuts

segments_from : (nodes : List StNode) (done : List ℕ) (start : ℕ) (cuts : List ℕ) → AreCuts (blocks_of (flow_of nodes)) (done ++ start ∷ cuts)
    → AreSegments nodes start cuts
segments_from nodes done start [] k = cuts_make_segments (chart_of nodes (λ b. false) (λ b. None) []) done start [] k
segments_from nodes done start (cut ∷ cuts) k = (
  cuts_make_segments (chart_of nodes (λ b. false) (λ b. None) []) done start (cut ∷ cuts) k,
  segments_from nodes (done ++ start ∷ []) cut cuts
      (subst (λ (cs : List ℕ). AreCuts (blocks_of (flow_of nodes)) cs) (sym (append_assoc done (start ∷ []) (cut ∷ cuts))) k),
)

-- the first cut is before the first block
begins : (blocks : List Ways) (cuts : List ℕ) → 0 < length blocks → AreCuts blocks cuts → cuts ≡ 0 ∷ drop 1 cuts
begins blocks cuts some k = by cuts k.ascending (k.all 0 (record { there = some; free = λ s t r j over. no_over s t over }))
  where
    no_over : (s t : ℕ) → ((s < 0) × (0 < t)) ⊎ ((t < 0) × (0 ≤ s)) → ⊥
    no_over s t (inl o) = let x : s < 0 = o.0 in omega (arith, x)
    no_over s t (inr o) = let x : t < 0 = o.0 in omega (arith, x)

    by : (cuts : List ℕ) → AreAscending cuts → IsOneOf 0 cuts → cuts ≡ 0 ∷ drop 1 cuts
    by [] up o = absurd o
    by (c ∷ rest) up (inl e) = ap (λ n. n ∷ rest) (sym e)
    by (c ∷ rest) up (inr o) = let x : c < 0 = all_after c 0 rest up o in absurd (omega (arith, x))

module _ (nodes : List StNode) (blocks : Blocks) (plain : AreUnitNodes nodes) (known : AreKnown (flow_of nodes) blocks)
    (cuts : List ℕ) (points : AreCuts (ways_after blocks.exits.items) cuts) where
  points_here : AreCuts (blocks_of (flow_of nodes)) cuts
  points_here = subst (λ (ws : List Ways). AreCuts ws cuts) (blocks_are nodes blocks known) points

  first_is : cuts ≡ 0 ∷ drop 1 cuts
  first_is =
      let all : length (blocks_of (flow_of nodes)) ≡ length (flow_of nodes).ways = size_of_blocks (flow_of nodes) in
      let some : 0 < length (flow_of nodes).ways = some_way nodes blocks plain known in
      begins (blocks_of (flow_of nodes)) cuts (omega (arith, all, some)) points_here

  points_after : AreCuts (blocks_of (flow_of nodes)) (0 ∷ drop 1 cuts)
  points_after = subst (λ (cs : List ℕ). AreCuts (blocks_of (flow_of nodes)) cs) first_is points_here

  pub are_segments : AreSegments nodes 0 (drop 1 cuts)
  are_segments = segments_from nodes [] 0 (drop 1 cuts) points_after

  pub is_made : (selector : ℕ) (rest : List ℕ) (made : Structured) → rest ≡ drop 1 cuts → IsUnitText nodes blocks selector rest made
      → IsMade nodes selector made.body made.selectors
  is_made selector rest made same is =
      let (sections, row, body, count) = subst (λ (cs : List ℕ). IsUnitText nodes blocks selector cs made) same is in
      record {
        reached = is_reached blocks;
        lasts = last_of blocks;
        cuts = 0 ∷ drop 1 cuts;
        sections = sections;
        found = are_found nodes blocks plain known (0 ∷ drop 1 cuts) points_after;
        planned = row;
        body = body;
        loops = count;
      }
