-- What is found is the last block that jumps back to each.
use Rattle.std.proofs.Common.{◌≡◌, ◌⊎◌, ℕ, suc, ◌+◌, ◌<◌, ◌≤◌, Bool, true, false, ◌&&◌, ◌==◌, List, [], ◌∷◌, Option, Some, None, cond, fold, get_or, length, map, replicate, slice_get, slice_set, inl, inr, refl, sym, ap, subst, ◌∙◌, arith, add-zero, eqb-true, length-set}
use Rattle.std.specs.Bool.{Decides}
use Rattle.std.specs.List.{list_any}
use Rattle.std.specs.Option.{option_map}
use Rattle.std.specs.Prelude.{nat_le, nat_lt}
use Rattle.std.proofs.lemmas.Bool.{eqb-false}
use Rattle.std.proofs.lemmas.Bool.Decides.{Decides-and, Decides-ltb}
use Rattle.std.proofs.lemmas.Option.{same_Some, slice_get-map, slice_get_within}
use Rattle.std.proofs.lemmas.List.{get_or-replicate, get_or-set_other, get_or-set_same, length-map, length-replicate}
use Rattle.flow_graph.specs.Graphs.{way_by, ways_after, ways_of}
use Rattle.flow_graph.specs.Reached.{AreReached}
use Rattle.flow_graph.specs.declared.graph.Exit.{Exit}
use Rattle.graph_rules.specs.Flow.{flow_of}
use Rattle.graph_rules.specs.Flow.{way_by as st_way_by}
use Rattle.st_tree.specs.declared.graph.StExit.{StExit}
use Rattle.st_tree.specs.declared.graph.StExit.TheVariants as way
use Rattle.st_tree.specs.declared.graph.StNode.{StNode}
use Rattle.stl_tree.specs.Blocks.{Way}
use Rattle.stl_tree.specs.Segments.{IsOneOf, IsReached, JumpsTo, Ways}
use Rattle.stl_tree.specs.Flows.{Flow, blocks_of, ways_by}
use Rattle.segment_plans.specs.Known.{AreKnown, IsLastBack, IsReachedJump, counts_from}
use Rattle.segment_plans.specs.declared.blocks.Blocks.{Blocks}
use Rattle.segment_plans.specs.inner.Finding.{lasts_from, note, note_block, way_of}
use Rattle.segment_plans.proofs.Site.{decides_le, told}

-- One jump

length_note : (from : ℕ) (lasts : List (Option ℕ)) (to : ℕ) → length (note from lasts to) ≡ length lasts
length_note from lasts to = by (nat_le to from && nat_lt to (length lasts))
  where
    by : (b : Bool) → length (cond b (slice_set lasts to (Some from)) lasts) ≡ length lasts
    by true = length-set lasts to (Some from)
    by false = refl

-- a jump back sets its block, and others change nothing there
noted : (from : ℕ) (lasts : List (Option ℕ)) (to h : ℕ) → h < length lasts
    → ((h ≡ to) × (h ≤ from) × (get_or (note from lasts to) h None ≡ Some from))
    ⊎ (((h ≡ to) × (h ≤ from) → ⊥) × (get_or (note from lasts to) h None ≡ get_or lasts h None))
noted from lasts to h inside =
    by (nat_le to from && nat_lt to (length lasts))
    (Decides-and (nat_le to from) (nat_lt to (length lasts)) (decides_le to from) (Decides-ltb to (length lasts))) (h == to) refl
  where
    by : (b : Bool) → Decides b ((to ≤ from) × (to < length lasts)) → (t : Bool) → (h == to) ≡ t
        → ((h ≡ to) × (h ≤ from) × (get_or (cond b (slice_set lasts to (Some from)) lasts) h None ≡ Some from))
        ⊎ (((h ≡ to) × (h ≤ from) → ⊥) × (get_or (cond b (slice_set lasts to (Some from)) lasts) h None ≡ get_or lasts h None))
    by true d true e =
        let same : h ≡ to = eqb-true h to e in
        let k = d.0 refl in
        let low : to ≤ from = k.0 in
        let found : get_or (slice_set lasts h (Some from)) h None ≡ Some from = get_or-set_same lasts h (Some from) None inside in
        inl (same, omega (arith, same, low), subst (λ n. get_or (slice_set lasts n (Some from)) h None ≡ Some from) same found)
    by true d false e =
        let apart : h ≡ to → ⊥ = eqb-false h to e in
        inr ((λ p. apart p.0), get_or-set_other lasts to h (Some from) None apart)
    by false d t e =
        inr (
          (λ p. let same : h ≡ to = p.0 in let low : h ≤ from = p.1 in
              let bad : false ≡ true = d.1 (omega (arith, same, low), omega (arith, same, inside)) in absurd cc),
          refl,
        )

-- The jumps of a block

length_all : (from : ℕ) (tos : List ℕ) (lasts : List (Option ℕ)) → length (fold (note from) lasts tos) ≡ length lasts
length_all from [] lasts = refl
length_all from (to ∷ tos) lasts = length_all from tos (note from lasts to) ∙ length_note from lasts to

-- a block has the value of these jumps, or the one before
abbrev IsNoted : ℕ → List ℕ → ℕ → Option ℕ → Option ℕ → Type 0
IsNoted from tos h old new = (IsOneOf h tos × (h ≤ from) × (new ≡ Some from)) ⊎ ((IsOneOf h tos → h ≤ from → ⊥) × (new ≡ old))

all_noted : (from : ℕ) (tos : List ℕ) (lasts : List (Option ℕ)) (h : ℕ) → h < length lasts
    → IsNoted from tos h (get_or lasts h None) (get_or (fold (note from) lasts tos) h None)
all_noted from [] lasts h inside = inr ((λ o l. o), refl)
all_noted from (to ∷ tos) lasts h inside =
    by (noted from lasts to h inside) (all_noted from tos (note from lasts to) h (subst (λ n. h < n) (sym (length_note from lasts to)) inside))
  where
    new : Option ℕ
    new = get_or (fold (note from) (note from lasts to) tos) h None

    by : ((h ≡ to) × (h ≤ from) × (get_or (note from lasts to) h None ≡ Some from))
        ⊎ (((h ≡ to) × (h ≤ from) → ⊥) × (get_or (note from lasts to) h None ≡ get_or lasts h None))
        → IsNoted from tos h (get_or (note from lasts to) h None) (get_or (fold (note from) (note from lasts to) tos) h None)
        → IsNoted from (to ∷ tos) h (get_or lasts h None) (get_or (fold (note from) (note from lasts to) tos) h None)
    by a (inl b) = inl (inr b.0, b.1, b.2)
    by (inl a) (inr b) = inl (inl a.0, a.1, b.1 ∙ a.2)
    by (inr a) (inr b) = inr (neither, b.1 ∙ a.1)
      where
        neither : IsOneOf h (to ∷ tos) → h ≤ from → ⊥
        neither (inl e) l = a.0 (e, l)
        neither (inr o) l = b.0 o l

length_block : (r : Bool) (from : ℕ) (exit : Exit) (lasts : List (Option ℕ)) → length (note_block r from exit lasts) ≡ length lasts
length_block true from exit lasts = length_all from (ways_of exit).jumps lasts
length_block false from exit lasts = refl

-- All blocks

-- of the jumps from blocks before one, the last that leads back
abbrev LastBelow : (ℕ → Type 0) → ℕ → ℕ → Option ℕ → Type 0
LastBelow J n h None = (s : ℕ) → s < n → J s → s < h
LastBelow J n h (Some l) = J l × (h ≤ l) × ((s : ℕ) → s < n → J s → s ≤ l)

-- one more block, which jumps there or not
below_next : (J : ℕ → Type 0) (n h : ℕ) (old : Option ℕ) → LastBelow J n h old → (J n → n < h) → LastBelow J (suc n) h old
below_next J n h None k late = λ s l j. by s j (told (nat_lt s n) (Decides-ltb s n)) l
  where
    by : (s : ℕ) → J s → (s < n) ⊎ (s < n → ⊥) → s < suc n → s < h
    by s j (inl l) u = k s l j
    by s j (inr l) u = let e : s ≡ n = omega (arith, l, u) in let m : n < h = late (subst J e j) in omega (arith, m, e)
below_next J n h (Some l) k late = (k.0, k.1, λ s u j. by s j (told (nat_lt s n) (Decides-ltb s n)) u)
  where
    by : (s : ℕ) → J s → (s < n) ⊎ (s < n → ⊥) → s < suc n → s ≤ l
    by s j (inl m) u = k.2 s m j
    by s j (inr m) u = let e : s ≡ n = omega (arith, m, u) in let q : n < h = late (subst J e j) in let low : h ≤ l = k.1 in omega (arith, e, q, low)

below_here : (J : ℕ → Type 0) (n h : ℕ) → J n → h ≤ n → LastBelow J (suc n) h (Some n)
below_here J n h j low = (j, low, λ s u k. omega (arith, u))

-- what is known of the blocks from a number on
record AreRest (J : ℕ → ℕ → Type 0) (reached : List Bool) (from : ℕ) (exits : List Exit) : Type 0 where
  to : (i : ℕ) (exit : Exit) (t : ℕ) → slice_get exits i ≡ Some exit → get_or reached (from + i) true ≡ true → IsOneOf t (ways_of exit).jumps → J (from + i) t
  back : (i : ℕ) (exit : Exit) (t : ℕ) → slice_get exits i ≡ Some exit → J (from + i) t
      → (get_or reached (from + i) true ≡ true) × IsOneOf t (ways_of exit).jumps

rest_of : (J : ℕ → ℕ → Type 0) (reached : List Bool) (from : ℕ) (exit : Exit) (rest : List Exit) → AreRest J reached from (exit ∷ rest)
    → AreRest J reached (suc from) rest
rest_of J reached from exit rest r = record {
  to = λ i x t e m o.
      let same : from + suc i ≡ suc from + i = omega arith in
      subst (λ n. J n t) same (r.to (suc i) x t e (subst (λ n. get_or reached n true ≡ true) (sym same) m) o);
  back = λ i x t e j.
      let same : from + suc i ≡ suc from + i = omega arith in
      let k = r.back (suc i) x t e (subst (λ n. J n t) (sym same) j) in
      (subst (λ n. get_or reached n true ≡ true) same k.0, k.1);
}

found : (J : ℕ → ℕ → Type 0) (reached : List Bool) (from : ℕ) (exits : List Exit) (lasts : List (Option ℕ)) (h : ℕ) → AreRest J reached from exits
    → h < length lasts → LastBelow (λ s. J s h) from h (get_or lasts h None)
    → LastBelow (λ s. J s h) (from + length exits) h (get_or (lasts_from reached from exits lasts) h None)
found J reached from [] lasts h r inside k = subst (λ n. LastBelow (λ s. J s h) n h (get_or lasts h None)) (sym (add-zero from)) k
found J reached from (exit ∷ rest) lasts h r inside k =
    let same : suc from + length rest ≡ from + suc (length rest) = omega arith in
    let now : List (Option ℕ) = note_block (get_or reached from true) from exit lasts in
    subst (λ n. LastBelow (λ s. J s h) n h (get_or (lasts_from reached (suc from) rest (note_block (get_or reached from true) from exit lasts)) h None)) same
    (found J reached (suc from) rest (note_block (get_or reached from true) from exit lasts) h (rest_of J reached from exit rest r)
    (subst (λ n. h < n) (sym (length_block (get_or reached from true) from exit lasts)) inside) (by (get_or reached from true) refl))
  where
    zero_more : from + 0 ≡ from
    zero_more = add-zero from

    to_here : get_or reached from true ≡ true → IsOneOf h (ways_of exit).jumps → J from h
    to_here m o =
        subst (λ n. J n h) (add-zero from) (r.to 0 exit h refl (subst (λ n. get_or reached n true ≡ true) (sym (add-zero from)) m) o)

    from_here : J from h → (get_or reached from true ≡ true) × IsOneOf h (ways_of exit).jumps
    from_here j =
        let p = r.back 0 exit h refl (subst (λ n. J n h) (sym (add-zero from)) j) in
        (subst (λ n. get_or reached n true ≡ true) (add-zero from) p.0, p.1)

    pick : get_or reached from true ≡ true → (new : Option ℕ) → IsNoted from (ways_of exit).jumps h (get_or lasts h None) new
        → LastBelow (λ s. J s h) (suc from) h new
    pick m new (inl a) = subst (LastBelow (λ s. J s h) (suc from) h) (sym a.2) (below_here (λ s. J s h) from h (to_here m a.0) a.1)
    pick m new (inr a) =
        subst (LastBelow (λ s. J s h) (suc from) h) (sym a.1)
        (below_next (λ s. J s h) from h (get_or lasts h None) k (λ j. ahead (from_here j).1 (told (nat_lt from h) (Decides-ltb from h))))
      where
        ahead : IsOneOf h (ways_of exit).jumps → (from < h) ⊎ (from < h → ⊥) → from < h
        ahead o (inl l) = l
        ahead o (inr n) = absurd (a.0 o (omega (arith, n)))

    by : (b : Bool) → get_or reached from true ≡ b → LastBelow (λ s. J s h) (suc from) h (get_or (note_block b from exit lasts) h None)
    by true e = pick e (get_or (fold (note from) lasts (ways_of exit).jumps) h None) (all_noted from (ways_of exit).jumps lasts h inside)
    by false e =
        below_next (λ s. J s h) from h (get_or lasts h None) k (λ j. let m : get_or reached from true ≡ true = (from_here j).0 in absurd cc)

-- The blocks of a unit

same_way : (exit : StExit) → way_by (way_of exit) ≡ st_way_by exit
same_way way.Fall = refl
same_way (way.Jump j) = refl
same_way (way.Branch e j) = refl
same_way (way.EndIf e) = refl
same_way (way.Table e targets last) = refl
same_way way.End = refl

abbrev exits_by : List StNode → List Exit
exits_by nodes = map (λ (n : StNode). way_of n.exit) nodes

pub same_ways : (nodes : List StNode) → map way_by (exits_by nodes) ≡ (flow_of nodes).ways
same_ways [] = refl
same_ways (n ∷ nodes) = ap (λ (w : Way). w ∷ map way_by (exits_by nodes)) (same_way n.exit) ∙ ap (λ (ws : List Way). st_way_by n.exit ∷ ws) (same_ways nodes)

pub same_blocks : (exits : List Exit) → ways_after exits ≡ map ways_by (map way_by exits)
same_blocks [] = refl
same_blocks (exit ∷ exits) = ap (λ (ws : List Ways). ways_of exit ∷ ws) (same_blocks exits)

blocks_are : (nodes : List StNode) → ways_after (exits_by nodes) ≡ blocks_of (flow_of nodes)
blocks_are nodes = same_blocks (exits_by nodes) ∙ ap (map ways_by) (same_ways nodes)

-- there are as many truth values as exits
pub size_of_reached : (exits : List Exit) (reached : List Bool) → AreReached (ways_after exits) reached → length reached ≡ length exits
size_of_reached exits reached known = known.size ∙ length-map exits ways_of

jumps_are : (exits : List Exit) (reached : List Bool) → AreReached (ways_after exits) reached
    → AreRest (λ s t. IsReached (ways_after exits) s × JumpsTo (ways_after exits) s t) reached 0 exits
jumps_are exits reached known = record {
  to = λ i exit t e m o.
      let there : i < length exits = slice_get_within exits i exit e in
      let size : length reached ≡ length exits = size_of_reached exits reached known in
      (known.sound (0 + i) (omega (arith, there, size)) m, (ways_of exit, at i exit e, o));
  back = λ i exit t e j.
      (known.complete (0 + i) j.0, subst (λ (ws : Ways). IsOneOf t ws.jumps) (same_Some j.1.0 (ways_of exit) (sym j.1.1 ∙ at i exit e)) j.1.2);
}
  where
    at : (i : ℕ) (exit : Exit) → slice_get exits i ≡ Some exit → slice_get (ways_after exits) (0 + i) ≡ Some (ways_of exit)
    at i exit e = let same : i ≡ 0 + i = omega arith in
        subst (λ n. slice_get (ways_after exits) n ≡ Some (ways_of exit)) same (slice_get-map ways_of exits i ∙ ap (option_map ways_of) e)

last_of_all : (flow : Flow) (n h : ℕ) (o : Option ℕ) → ((s : ℕ) → IsReachedJump flow s h → s < n) → LastBelow (λ s. IsReachedJump flow s h) n h o
    → IsLastBack flow h o
last_of_all flow n h None all k = λ s j. k s (all s j) j
last_of_all flow n h (Some l) all k = (k.0, k.1, λ s j. k.2 s (all s j) j)

nothing_yet : (flow : Flow) (h count : ℕ) → h < count → LastBelow (λ s. IsReachedJump flow s h) 0 h (get_or (replicate count None) h None)
nothing_yet flow h count inside =
    subst (LastBelow (λ s. IsReachedJump flow s h) 0 h) (sym (get_or-replicate count h None None inside)) (λ s l j. absurd (omega (arith, l)))

-- what is found is right
pub are_lasts : (nodes : List StNode) (exits : List Exit) (reached : List Bool) (h : ℕ) → exits ≡ exits_by nodes → AreReached (ways_after exits) reached
    → h < length (flow_of nodes).ways → IsLastBack (flow_of nodes) h (get_or (lasts_from reached 0 exits (replicate (length exits) None)) h None)
are_lasts nodes exits reached h e known inside =
    let lasts : List (Option ℕ) = lasts_from reached 0 exits (replicate (length exits) None) in
    last_of_all (flow_of nodes) (0 + length exits) h (get_or (lasts_from reached 0 exits (replicate (length exits) None)) h None) below
    (found (λ s t. IsReachedJump (flow_of nodes) s t) reached 0 exits (replicate (length exits) None) h rest
    (subst (λ n. h < n) (sym (length-replicate {A = Option ℕ} (length exits) None)) h_inside) (nothing_yet (flow_of nodes) h (length exits) h_inside))
  where
    same : ways_after exits ≡ blocks_of (flow_of nodes)
    same = ap ways_after e ∙ blocks_are nodes

    count : length exits ≡ length (flow_of nodes).ways
    count = sym (length-map exits way_by) ∙ ap (λ (xs : List Exit). length (map way_by xs)) e ∙ ap length (same_ways nodes)

    h_inside : h < length exits
    h_inside = omega (arith, inside, count)

    rest : AreRest (λ s t. IsReachedJump (flow_of nodes) s t) reached 0 exits
    rest = subst (λ B. AreRest (λ s t. IsReached B s × JumpsTo B s t) reached 0 exits) same (jumps_are exits reached known)

    below : (s : ℕ) → IsReachedJump (flow_of nodes) s h → s < 0 + length exits
    below s j =
        let there : s < length (blocks_of (flow_of nodes)) = slice_get_within (blocks_of (flow_of nodes)) s j.1.0 j.1.1 in
        let all : length (blocks_of (flow_of nodes)) ≡ length (flow_of nodes).ways = length-map (flow_of nodes).ways ways_by in
        omega (arith, there, all, count)

pub are_known : (nodes : List StNode) (blocks : Blocks) → blocks.exits.items ≡ exits_by nodes → AreReached (ways_after blocks.exits.items) blocks.reached.items
    → blocks.lasts.items ≡ lasts_from blocks.reached.items 0 blocks.exits.items (replicate (length blocks.exits.items) None)
    → blocks.counts.items ≡ counts_from 0 blocks.reached.items → blocks.ends_alone ≡ list_any (λ (n : StNode). n.only_end) nodes
    → AreKnown (flow_of nodes) blocks
are_known nodes blocks e r l c a = record {
  exits = ap (map way_by) e ∙ same_ways nodes;
  alone = a;
  reached = subst (λ B. AreReached B blocks.reached.items) (ap ways_after e ∙ blocks_are nodes) r;
  lasts = λ h inside. subst (λ (ls : List (Option ℕ)). IsLastBack (flow_of nodes) h (get_or ls h None)) (sym l)
      (are_lasts nodes blocks.exits.items blocks.reached.items h e r inside);
  counts = c;
}

-- there are as many exits as nodes
pub size_of_exits : (nodes : List StNode) (exits : List Exit) → exits ≡ exits_by nodes → length exits ≡ length nodes
size_of_exits nodes exits e = ap length e ∙ length-map nodes (λ (n : StNode). way_of n.exit)
