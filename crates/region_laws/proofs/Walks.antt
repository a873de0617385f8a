-- What the nodes of a unit do, where an arrival at one takes a unit of work by its mark: with as many nodes as may follow one
-- another, an equation in which that number does not occur.
use Rattle.std.proofs.Common.{◌≡◌, ℕ, zero, suc, ◌+◌, ◌*◌, ◌≤◌, ◌<◌, Bool, true, false, if◌then◌else◌, ℤ, pos, negsuc, List, length, Option, Some, None, Result, Ok, Err, refl, sym, ap, subst, arith}
use Rattle.std.specs.Prelude.{slice_get}
use Rattle.std.proofs.Math.Nat.{mul-le-mul_right, suc-mul}
use Rattle.std.proofs.lemmas.Option.{slice_get_past, slice_get_within}
use Rattle.memory_areas.specs.Access.{and_then}
use Rattle.s7_base.specs.declared.outcome.Fault.{Fault}
use Rattle.st_tree.specs.GraphRun as run
use Rattle.st_tree.specs.GraphRun.{Way, chosen_node, entry_or, for_one_unit, way_of}
use Rattle.st_tree.specs.Meaning.{Calls, NoUnits, Normal, Out, Sem, body_meaning, state_or_fault, then_do}
use Rattle.st_tree.specs.State.{State, write}
use Rattle.st_tree.specs.Value.{value}
use Rattle.st_tree.specs.Values.{is_set}
use Rattle.st_tree.specs.declared.expr.Var.TheVariants as var
use Rattle.st_tree.specs.declared.graph.StExit.{StExit}
use Rattle.st_tree.specs.declared.graph.StExit.TheVariants as exit
use Rattle.st_tree.specs.declared.graph.StNode.{StNode}
use Rattle.st_tree.specs.declared.program.Located.{Located}
use Rattle.st_tree.specs.declared.state.Value.{Value}
use Rattle.region_laws.specs.Regions.{IsOnward, LeadsOnward, Mark, Marked, arm_of, loop_head, takes_unit, unmarked}
use Rattle.region_laws.proofs.Left.{CallsLeave, Left, statements_left, then_left, weaker}
use Rattle.region_laws.proofs.Means.{exit_by, node_step, on_way, reach, ways_by}
use Rattle.region_laws.proofs.Statements.{at_node, paid_same}

-- Ways

-- the way, where it leads to a node, leads to one of these
abbrev pub AllWays : (ℕ → Type 0) → Result Way Fault → Type 0
AllWays P (Ok (run.to j)) = P j
AllWays P (Ok run.out) = Unit {0}
AllWays P (Err f) = Unit {0}

one_of_two : (P : ℕ → Type 0) (r : Result Value Fault) (v w : Way) → AllWays P (Ok v) → AllWays P (Ok w)
    → AllWays P (and_then r (λ x. Ok (if is_set x then v else w)))
one_of_two P (Err f) v w h k = tt
one_of_two P (Ok x) v w h k = by (is_set x)
  where
    by : (b : Bool) → AllWays P (Ok (if b then v else w))
    by true = h
    by false = k

one_of_table : (P : ℕ → Type 0) (r : Result Value Fault) (targets : List ℕ) (last : ℕ) → ((n : ℕ) → P (entry_or (slice_get targets n) last))
    → AllWays P (and_then r (λ x. Ok (run.to (chosen_node x.n targets last))))
one_of_table P (Err f) targets last h = tt
one_of_table P (Ok x) targets last h = by x.n
  where
    past : P last
    past = subst P (ap (λ (o : Option ℕ). entry_or o last) (slice_get_past targets (length targets) (omega arith))) (h (length targets))

    by : (z : ℤ) → P (chosen_node z targets last)
    by (pos n) = h n
    by (negsuc n) = past

module _ (g : List Located) (unit : Marked) where
  pub ways_onward : (i : ℕ) (x : StExit) → LeadsOnward unit i x → (s : State) → AllWays (IsOnward unit i) (way_of g i x s)
  ways_onward i exit.Fall h s = h
  ways_onward i (exit.Jump j) h s = h
  ways_onward i (exit.Branch e j) h s = one_of_two (IsOnward unit i) (value g e s) (run.to j) (run.to (suc i)) h.0 h.1
  ways_onward i (exit.EndIf e) h s = one_of_two (IsOnward unit i) (value g e s) run.out (run.to (suc i)) tt h
  ways_onward i (exit.Table e targets last) h s = one_of_table (IsOnward unit i) (value g e s) targets last h
  ways_onward i exit.End h s = tt

on_way_same : (P : ℕ → Type 0) (f h : ℕ → Sem) (u : ℕ) (s : State) → ((j : ℕ) → P j → f j u s ≡ h j u s) → (w : Result Way Fault) → AllWays P w
    → on_way f w u s ≡ on_way h w u s
on_way_same P f h u s e (Ok (run.to j)) k = e j k
on_way_same P f h u s e (Ok run.out) k = refl
on_way_same P f h u s e (Err x) k = refl

-- Arrivals

set_same : (r : Result State Fault) (f h : Sem) (u : ℕ) (s : State) → ((t : State) → f u t ≡ h u t)
    → then_do (state_or_fault r u s) f ≡ then_do (state_or_fault r u s) h
set_same (Ok t) f h u s e = e t
set_same (Err x) f h u s e = refl

reach_same : (g : List Located) (next : ℕ) (m : Mark) (j : ℕ) (f h : Sem) (u : ℕ) (s : State) → (takes_unit m ≡ false → f u s ≡ h u s)
    → ((v : ℕ) → u ≡ suc v → (t : State) → f v t ≡ h v t) → reach g next m j f u s ≡ reach g next m j h u s
reach_same g next unmarked j f h u s free paid = free refl
reach_same g next loop_head j f h u s free paid = paid_same f h u s (λ v e. paid v e s)
reach_same g next (arm_of k) j f h u s free paid =
    set_same (write g (var.Local next) (at_node j) s) (for_one_unit f) (for_one_unit h) u s (λ t. paid_same f h u t (λ v e. paid v e t))

-- Walks

then_alike : (u : ℕ) (o : Out) → Left u o → (f h : Sem) → ((v : ℕ) → v ≤ u → (s : State) → f v s ≡ h v s) → then_do o f ≡ then_do o h
then_alike u (Normal v s) l f h e = e v l s
then_alike u o l f h e = refl

-- at most so many nodes
abbrev pub walks : List Located → Calls → ℕ → Marked → ℕ → ℕ → Sem
walks g calls next unit zero i u s = NoUnits s
walks g calls next unit (suc most) i u s = node_step g calls next unit.marks (walks g calls next unit most) i (slice_get unit.nodes i) u s

-- as many as may follow one another
abbrev pub walk : List Located → Calls → ℕ → Marked → ℕ → Sem
walk g calls next unit i u s = walks g calls next unit (suc (suc u * suc (length unit.nodes))) i u s

module _ (g : List Located) (calls : Calls) (fewer : CallsLeave calls) (next : ℕ) (unit : Marked)
    (onward : (i : ℕ) (n : StNode) → unit.reached i ≡ true → slice_get unit.nodes i ≡ Some n → LeadsOnward unit i n.exit)
  where
    abbrev wide : ℕ
    wide = suc (length unit.nodes)

    abbrev Enough : ℕ → ℕ → ℕ → Type 0
    Enough most u i = u * wide + wide ≤ most + i

    abbrev many : ℕ → ℕ → Sem
    many most = walks g calls next unit most

    no_node : (most i u : ℕ) (s : State) → wide ≤ i → NoUnits s ≡ many most i u s
    no_node zero i u s h = refl
    no_node (suc most) i u s h =
        ap (λ (o : Option StNode). node_step g calls next unit.marks (many most) i o u s) (sym (slice_get_past unit.nodes i (omega arith)))

    abbrev AreSame : ℕ → ℕ → Type 0
    AreSame most other = (i u : ℕ) → unit.reached i ≡ true → Enough most u i → Enough other u i → (s : State) → many most i u s ≡ many other i u s

    way_same : (most other i top : ℕ) → i < wide → Enough (suc most) top i → Enough (suc other) top i → AreSame most other → (u : ℕ) → u ≤ top → (s : State)
        → (j : ℕ) → IsOnward unit i j → ways_by g calls next unit.marks (many most) j u s ≡ ways_by g calls next unit.marks (many other) j u s
    way_same most other i top w h k smaller u l s j o =
        let m : u * wide ≤ top * wide = mul-le-mul_right wide l in
        reach_same g next (unit.marks j) j (many most j) (many other j) u s
        (λ free. let n : i < j = o.behind free in smaller j u o.reached (omega arith) (omega arith) s)
        (λ v e t.
        let one : suc v * wide ≡ v * wide + wide = suc-mul v wide in
        let same : u * wide ≡ suc v * wide = ap (λ (z : ℕ). z * wide) e in
        smaller j v o.reached (omega arith) (omega arith) t)

    step_same : (most other i u : ℕ) → unit.reached i ≡ true → Enough (suc most) u i → Enough (suc other) u i → AreSame most other → (s : State)
        → (o : Option StNode) → slice_get unit.nodes i ≡ o
        → node_step g calls next unit.marks (many most) i o u s ≡ node_step g calls next unit.marks (many other) i o u s
    step_same most other i u r h k smaller s None e = refl
    step_same most other i u r h k smaller s (Some n) e =
        let a : i < length unit.nodes = slice_get_within unit.nodes i n e in
        then_alike u (body_meaning g calls n.steps u s) (statements_left g calls fewer n.steps u s) _ _
        (λ v l t.
        on_way_same (IsOnward unit i) (ways_by g calls next unit.marks (many most)) (ways_by g calls next unit.marks (many other)) v t
        (way_same most other i u (omega arith) h k smaller v l t) (way_of g i n.exit t) (ways_onward g unit i n.exit (onward i n r e) t))

    walks_same : (most other : ℕ) → AreSame most other
    walks_same zero other i u r h k s = no_node other i u s (omega arith)
    walks_same (suc most) zero i u r h k s = sym (no_node (suc most) i u s (omega arith))
    walks_same (suc most) (suc other) i u r h k s = step_same most other i u r h k (walks_same most other) s (slice_get unit.nodes i) refl

    abbrev whole : ℕ → Sem
    whole = walk g calls next unit

    way_walks : (i top u : ℕ) → u ≤ top → (s : State) (j : ℕ) → IsOnward unit i j
        → ways_by g calls next unit.marks (many (suc top * wide)) j u s ≡ ways_by g calls next unit.marks whole j u s
    way_walks i top u l s j o =
        let m : u * wide ≤ top * wide = mul-le-mul_right wide l in
        let t : suc top * wide ≡ top * wide + wide = suc-mul top wide in
        let own : suc u * wide ≡ u * wide + wide = suc-mul u wide in
        reach_same g next (unit.marks j) j (many (suc top * wide) j) (whole j) u s
        (λ free. walks_same (suc top * wide) (suc (suc u * wide)) j u o.reached (omega arith) (omega arith) s)
        (λ v e t.
        let one : suc v * wide ≡ v * wide + wide = suc-mul v wide in
        let same : u * wide ≡ suc v * wide = ap (λ (z : ℕ). z * wide) e in
        walks_same (suc top * wide) (suc (suc v * wide)) j v o.reached (omega arith) (omega arith) t)

    walk_step : (i u : ℕ) (s : State) → unit.reached i ≡ true → (o : Option StNode) → slice_get unit.nodes i ≡ o
        → node_step g calls next unit.marks (many (suc u * wide)) i o u s ≡ node_step g calls next unit.marks whole i o u s
    walk_step i u s r None e = refl
    walk_step i u s r (Some n) e =
        then_alike u (body_meaning g calls n.steps u s) (statements_left g calls fewer n.steps u s) _ _
        (λ v l t.
        on_way_same (IsOnward unit i) (ways_by g calls next unit.marks (many (suc u * wide))) (ways_by g calls next unit.marks whole) v t
        (way_walks i u v l t) (way_of g i n.exit t) (ways_onward g unit i n.exit (onward i n r e) t))

    -- the equation that the meaning of a region asks for
    pub walk_begins : (i u : ℕ) (s : State) → unit.reached i ≡ true → whole i u s ≡ node_step g calls next unit.marks whole i (slice_get unit.nodes i) u s
    walk_begins i u s r = walk_step i u s r (slice_get unit.nodes i) refl

-- Units that walks leave

paid_left : (u : ℕ) (s : State) (f : Sem) → ((v : ℕ) (t : State) → Left v (f v t)) → Left u (for_one_unit f u s)
paid_left zero s f h = tt
paid_left (suc u) s f h = weaker u (suc u) (omega arith) (f u s) (h u s)

set_left : (r : Result State Fault) (u : ℕ) (s : State) (f : Sem) → ((v : ℕ) (t : State) → Left v (f v t))
    → Left u (then_do (state_or_fault r u s) (for_one_unit f))
set_left (Ok t) u s f h = paid_left u t f h
set_left (Err x) u s f h = tt

reach_left : (g : List Located) (next : ℕ) (m : Mark) (j u : ℕ) (s : State) (f : Sem) → ((v : ℕ) (t : State) → Left v (f v t)) → Left u (reach g next m j f u s)
reach_left g next unmarked j u s f h = h u s
reach_left g next loop_head j u s f h = paid_left u s f h
reach_left g next (arm_of k) j u s f h = set_left (write g (var.Local next) (at_node j) s) u s f h

on_way_left : (f : ℕ → Sem) (u : ℕ) (s : State) → ((j : ℕ) → Left u (f j u s)) → (w : Result Way Fault) → Left u (on_way f w u s)
on_way_left f u s h (Ok (run.to j)) = h j
on_way_left f u s h (Ok run.out) = omega arith
on_way_left f u s h (Err x) = tt

module _ (g : List Located) (calls : Calls) (fewer : CallsLeave calls) (next : ℕ) (unit : Marked) where
  step_left : (go : ℕ → Sem) → ((i u : ℕ) (s : State) → Left u (go i u s)) → (i : ℕ) (o : Option StNode) (u : ℕ) (s : State)
      → Left u (node_step g calls next unit.marks go i o u s)
  step_left go h i None u s = tt
  step_left go h i (Some n) u s =
      then_left u (body_meaning g calls n.steps u s) (exit_by g calls next unit.marks go i n.exit)
      (λ v t. on_way_left (ways_by g calls next unit.marks go) v t (λ j. reach_left g next (unit.marks j) j v t (go j) (h j)) (way_of g i n.exit t))
      (statements_left g calls fewer n.steps u s)

  walks_left : (most i u : ℕ) (s : State) → Left u (walks g calls next unit most i u s)
  walks_left zero i u s = tt
  walks_left (suc most) i u s = step_left (walks g calls next unit most) (walks_left most) i (slice_get unit.nodes i) u s

  pub arrival_left : (j u : ℕ) (s : State) → Left u (ways_by g calls next unit.marks (walk g calls next unit) j u s)
  arrival_left j u s =
      reach_left g next (unit.marks j) j u s (walk g calls next unit j) (λ v t. walks_left (suc (suc v * suc (length unit.nodes))) j v t)
