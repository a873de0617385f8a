-- The units of a text do what their nodes do, where an arrival at a node takes a unit of work by its mark. So calls in the text
-- do what calls by nodes do.
use Rattle.std.proofs.Common.{◌≡◌, ℕ, zero, suc, true, List, length, map, Option, Some, None, Result, Ok, Err, refl, sym, ap, ◌∙◌, arith}
use Rattle.std.specs.Prelude.{option_map, slice_get}
use Rattle.std.proofs.lemmas.Option.{slice_get-map}
use Rattle.s7_base.specs.declared.outcome.Fault.{Fault}
use Rattle.st_tree.specs.Calls.{after_unit, calls_to, enter_with, located_actuals, state_on_entry, unit_step}
use Rattle.st_tree.specs.Meaning.{Calls, Faults, NoUnits, Out, Sem, body_meaning}
use Rattle.st_tree.specs.StRun.{end_seen}
use Rattle.st_tree.specs.State.{State}
use Rattle.st_tree.specs.declared.expr.Var.{Var}
use Rattle.st_tree.specs.declared.graph.GraphPou.{GraphPou}
use Rattle.st_tree.specs.declared.program.Located.{Located}
use Rattle.st_tree.specs.declared.program.Pou.{Pou}
use Rattle.st_tree.specs.declared.program.StProgram.{StProgram}
use Rattle.st_tree.specs.declared.program.Stmt.{Stmt}
use Rattle.st_tree.specs.declared.state.Reference.{Reference}
use Rattle.region_laws.specs.RegionLaw.{IsUnitOf, marked_nodes}
use Rattle.region_laws.specs.Regions.{Marked}
use Rattle.region_laws.proofs.Left.{CallsLeave, Left}
use Rattle.region_laws.proofs.Means.{node_step, run_means, unit_means, ways_by}
use Rattle.region_laws.proofs.Steps.{HavePlainSteps}
use Rattle.region_laws.proofs.Straight.{IsStraight, after_straight}
use Rattle.region_laws.proofs.Walks.{arrival_left, walk, walk_begins}

-- a unit and its text
abbrev pub Translated : Type 0
Translated = (u : GraphPou) × (text : Pou) × IsUnitOf u text

abbrev pub graph_unit : Translated → GraphPou
graph_unit z = z.0

abbrev pub text_unit : Translated → Pou
text_unit z = z.1

abbrev pub marked_of : Translated → Marked
marked_of z = marked_nodes z.0 z.2.reached z.2.marks

abbrev pub next_of : Translated → ℕ
next_of z = length z.0.head.locals

-- Calls by nodes

module _ (g : List Located) where
  -- what a unit does from a node on, and from the arrival at one on
  abbrev pub walk_of : Calls → Translated → ℕ → Sem
  walk_of calls z = walk g calls (next_of z) (marked_of z)

  abbrev pub arrival_of : Calls → Translated → ℕ → Sem
  arrival_of calls z j = ways_by g calls (next_of z) z.2.marks (walk_of calls z) j

  abbrev pub unit_walk : Calls → Option Translated → List Reference → Sem
  unit_walk calls None formals u s = NoUnits s
  unit_walk calls (Some z) formals u s = after_unit (arrival_of calls z 0 u (state_on_entry z.1 formals s))

  -- calls that nest at most so deep; each takes a unit of work, then locates its actuals
  abbrev pub walk_calls : List Translated → ℕ → Calls
  walk_calls zs zero n actuals u s = NoUnits s
  walk_calls zs (suc deep) n actuals zero s = NoUnits s
  walk_calls zs (suc deep) n actuals (suc u) s =
      enter_with (unit_walk (walk_calls zs deep) (slice_get zs n)) (located_actuals g actuals s) u s

-- What calls by nodes leave

module _ (g : List Located) (zs : List Translated) where
  entered_straight : (calls : Calls) (o : Option Translated) (r : Result (List Reference) Fault) (u : ℕ) (s : State)
      → IsStraight (enter_with (unit_walk g calls o) r u s)
  entered_straight calls o (Err f) u s = tt
  entered_straight calls None (Ok formals) u s = tt
  entered_straight calls (Some z) (Ok formals) u s = after_straight (arrival_of g calls z 0 u (state_on_entry z.1 formals s))

  pub calls_straight : (deep n : ℕ) (vars : List Var) (u : ℕ) (s : State) → IsStraight (walk_calls g zs deep n vars u s)
  calls_straight zero n vars u s = tt
  calls_straight (suc deep) n vars zero s = tt
  calls_straight (suc deep) n vars (suc u) s = entered_straight (walk_calls g zs deep) (slice_get zs n) (located_actuals g vars s) u s

  after_left : (u : ℕ) (o : Out) → Left u o → Left (suc u) (after_unit o)
  after_left u (Faults f s) l = tt
  after_left u (NoUnits s) l = tt
  after_left u o l = omega (arith, l)

  entered_left : (calls : Calls) → CallsLeave calls → (o : Option Translated) (r : Result (List Reference) Fault) (u : ℕ) (s : State)
      → Left (suc u) (enter_with (unit_walk g calls o) r u s)
  entered_left calls fewer o (Err f) u s = tt
  entered_left calls fewer None (Ok formals) u s = tt
  entered_left calls fewer (Some z) (Ok formals) u s =
      after_left u (arrival_of g calls z 0 u (state_on_entry z.1 formals s))
      (arrival_left g calls fewer (next_of z) (marked_of z) 0 u (state_on_entry z.1 formals s))

  pub calls_leave : (deep : ℕ) → CallsLeave (walk_calls g zs deep)
  calls_leave zero n vars u s = tt
  calls_leave (suc deep) n vars zero s = tt
  calls_leave (suc deep) n vars (suc u) s =
      entered_left (walk_calls g zs deep) (calls_leave deep) (slice_get zs n) (located_actuals g vars s) u s

  -- a node that is reached, from itself on
  pub unit_begins : (deep : ℕ) (z : Translated) (i u : ℕ) (s : State) → z.2.reached i ≡ true
      → walk_of g (walk_calls g zs deep) z i u s
      ≡ node_step g (walk_calls g zs deep) (next_of z) z.2.marks (walk_of g (walk_calls g zs deep) z) i (slice_get z.0.graph.nodes i) u s
  unit_begins deep z i u s r = walk_begins g (walk_calls g zs deep) (calls_leave deep) (next_of z) (marked_of z) z.2.onward i u s r

-- The text

module _ (tree : StProgram) (zs : List Translated) (texts : map text_unit zs ≡ tree.pous)
    (plain : (n : ℕ) (z : Translated) → slice_get zs n ≡ Some z → HavePlainSteps z.0.graph.nodes)
  where
    abbrev g : List Located
    g = tree.globals

    abbrev calls : ℕ → Calls
    calls deep = walk_calls g zs deep

    text_at : (n : ℕ) → slice_get tree.pous n ≡ option_map text_unit (slice_get zs n)
    text_at n = ap (λ (ps : List Pou). slice_get ps n) (sym texts) ∙ slice_get-map text_unit zs n

    module _ (deep n : ℕ) (z : Translated) (e : slice_get zs n ≡ Some z) (u : ℕ) (s : State) where
      unit_same : after_unit (body_meaning g (calls deep) z.1.body u s) ≡ after_unit (arrival_of g (calls deep) z 0 u s)
      unit_same =
          ap (λ (xs : List Stmt). after_unit (body_meaning g (calls deep) xs u s)) z.2.body
          ∙ unit_means g (calls deep) (calls_leave g zs deep) (calls_straight g zs deep) (next_of z) (marked_of z) (plain n z e)
          (walk_of g (calls deep) z) (unit_begins g zs deep z) z.2.region z.2.fits u s

      run_same : end_seen (body_meaning g (calls deep) z.1.body u s) ≡ end_seen (arrival_of g (calls deep) z 0 u s)
      run_same =
          ap (λ (xs : List Stmt). end_seen (body_meaning g (calls deep) xs u s)) z.2.body
          ∙ run_means g (calls deep) (calls_leave g zs deep) (calls_straight g zs deep) (next_of z) (marked_of z) (plain n z e)
          (walk_of g (calls deep) z) (unit_begins g zs deep z) z.2.region z.2.fits u s

    -- a unit that is entered, where calls do the same
    entered_same : (deep n : ℕ) (o : Option Translated) → slice_get zs n ≡ o → (r : Result (List Reference) Fault) (u : ℕ) (s : State)
        → enter_with (unit_step tree (calls deep) (option_map text_unit o)) r u s ≡ enter_with (unit_walk g (calls deep) o) r u s
    entered_same deep n o e (Err f) u s = refl
    entered_same deep n None e (Ok formals) u s = refl
    entered_same deep n (Some z) e (Ok formals) u s = unit_same deep n z e u (state_on_entry z.1 formals s)

    -- and calls that nest one deeper
    one_deeper : (deep : ℕ) → calls_to deep tree ≡ calls deep → (n : ℕ) (vars : List Var) (u : ℕ) (s : State)
        → calls_to (suc deep) tree n vars u s ≡ calls (suc deep) n vars u s
    one_deeper deep same n vars zero s = refl
    one_deeper deep same n vars (suc u) s =
        ap (λ (c : Calls). enter_with (unit_step tree c (slice_get tree.pous n)) (located_actuals g vars s) u s) same
        ∙ ap (λ (o : Option Pou). enter_with (unit_step tree (calls deep) o) (located_actuals g vars s) u s) (text_at n)
        ∙ entered_same deep n (slice_get zs n) refl (located_actuals g vars s) u s

    -- calls in the text do what calls by nodes do
    calls_same : (deep : ℕ) → calls_to deep tree ≡ calls deep
    calls_same zero = λ i n vars u s. NoUnits s
    calls_same (suc deep) = λ i n vars u s. one_deeper deep (calls_same deep) n vars u s i

    -- the run of a unit
    pub text_run : (n : ℕ) (z : Translated) → slice_get zs n ≡ Some z → (deep u : ℕ) (s : State)
        → end_seen (body_meaning g (calls_to deep tree) z.1.body u s) ≡ end_seen (arrival_of g (calls deep) z 0 u s)
    text_run n z e deep u s =
        ap (λ (c : Calls). end_seen (body_meaning g c z.1.body u s)) (calls_same deep) ∙ run_same deep n z e u s
