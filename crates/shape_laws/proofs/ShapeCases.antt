-- A unit with a jump list that leads to its own block again: the law of shapes speaks of it.
use Rattle.std.proofs.Common.{◌≡◌, ◌≢◌, ◌⊎◌, inl, inr, ⊎_elim, ℕ, zero, suc, ◌<◌, pos, Bool, true, false, List, [], ◌∷◌, ◌++◌, Option, Some, None, refl, sym, ap, ◌∙◌, subst, arith}
use Rattle.std.specs.List.{flat_map}
use Rattle.std.proofs.lemmas.Bool.{cases_eq}
use Rattle.std.proofs.lemmas.List.Elements.{All-cons, All-nil}
use Rattle.std.proofs.lemmas.Option.{same_Some}
use Rattle.st_tree.specs.BodyParts.{reads_of}
use Rattle.st_tree.specs.declared.expr.Expr.{Expr}
use Rattle.st_tree.specs.declared.expr.Expr.TheVariants as expr
use Rattle.st_tree.specs.declared.expr.StType.TheVariants as type
use Rattle.st_tree.specs.declared.expr.Var.{Var}
use Rattle.st_tree.specs.declared.expr.Var.TheVariants as var
use Rattle.st_tree.specs.declared.program.CaseArm.{CaseArm}
use Rattle.st_tree.specs.declared.program.Stmt.{Stmt, out-Stmt}
use Rattle.st_tree.specs.declared.program.Stmt.TheOpen as S
use Rattle.st_tree.specs.declared.program.Stmt.TheVariants as stmt
use Rattle.st_tree.proofs.Equations.{fold_literal}
use Rattle.st_tree.proofs.PartEquations.{reads_of_literal}
use Rattle.stl_tree.specs.Segments.{AreCuts, FallsFrom, IsCut, IsOneOf, IsReached, JumpsTo, Ways, fall, first, jump}
use Rattle.stl_tree.specs.Blocks.{one_of}
use Rattle.stl_tree.specs.Flows.{GoesOn, IsList, blocks_of}
use Rattle.graph_rules.specs.Flow.{flow_of}
use Rattle.graph_rules.specs.Plain.{IsPlainNode, faultless_step, is_faultless, tests_of}
use Rattle.graph_rules.specs.Runs.{AreOfRun, AreWritten, IsWritten, locals_of}
use Rattle.nesting_laws.specs.Splitting.{MaySplit}
use Rattle.region_laws.specs.Regions.{text_of}
use Rattle.text_shapes.specs.NodeCounts.{KeepsOff, LeavesLocal}
use Rattle.text_shapes.specs.Shape.{AreOthers}
use Rattle.unit_regions.specs.MadeCharts.{ArePlain, ArePlanned, IsFound, IsLastBack, chart_of}
use Rattle.unit_regions.specs.UnitCharts.{blocks_between}
use Rattle.unit_regions.specs.UnitRegion.{Section, unit_region}
use Rattle.shape_laws.specs.MadeShape.{WorkedUnitIsMade, worked_exit, worked_nodes}
use Rattle.shape_laws.proofs.Texts.{each_first}

abbrev Blocks : List Ways
Blocks = blocks_of (flow_of worked_nodes)

abbrev chosen : Expr
chosen = expr.Literal type.Int (pos 0)

abbrev reached : ℕ → Bool
reached zero = true
reached (suc zero) = true
reached (suc (suc b)) = false

abbrev lasts : ℕ → Option ℕ
lasts zero = Some 1
lasts (suc h) = None

abbrev sections : List Section
sections = record { first = 0; past = 2; plan = None } ∷ []

-- Blocks

-- where the two blocks jump
is_jump : (s t : ℕ) → JumpsTo Blocks s t → ((s ≡ 0) × ((t ≡ 1) ⊎ (t ≡ 0))) ⊎ ((s ≡ 1) × (t ≡ 0))
is_jump zero t (w, e, o) = inl (refl, by (subst (λ (w : Ways). IsOneOf t w.jumps) (sym (same_Some _ w e)) o))
  where
    by : IsOneOf t (1 ∷ 0 ∷ []) → (t ≡ 1) ⊎ (t ≡ 0)
    by (inl f) = inl f
    by (inr (inl f)) = inr f
    by (inr (inr o)) = absurd o
is_jump (suc zero) t (w, e, o) = inr (refl, by (subst (λ (w : Ways). IsOneOf t w.jumps) (sym (same_Some _ w e)) o))
  where
    by : IsOneOf t (0 ∷ []) → t ≡ 0
    by (inl f) = f
    by (inr o) = absurd o
is_jump (suc (suc s)) t (w, e, o) = absurd cc

never_falls : (s : ℕ) → FallsFrom Blocks s → ⊥
never_falls zero (w, e, f) = let g : false ≡ true = ap (λ (w : Ways). w.falls) (same_Some _ w e) ∙ f in absurd cc
never_falls (suc zero) (w, e, f) = let g : false ≡ true = ap (λ (w : Ways). w.falls) (same_Some _ w e) ∙ f in absurd cc
never_falls (suc (suc s)) (w, e, f) = absurd cc

lands : (s t : ℕ) → JumpsTo Blocks s t → t < 2
lands s t j = ⊎_elim (λ x. ⊎_elim (λ y. omega (arith, y)) (λ y. omega (arith, y)) x.1) (λ x. omega (arith, x.1)) (is_jump s t j)

is_low : (b : ℕ) → IsReached Blocks b → b < 2
is_low b first = omega arith
is_low b (jump {s = s} {t = t} r j) = lands s t j
is_low b (fall {s = s} r f) = absurd (never_falls s f)

low_reached : (b : ℕ) → b < 2 → reached b ≡ true
low_reached zero x = refl
low_reached (suc zero) x = refl
low_reached (suc (suc b)) x = absurd (omega arith)

to_next : JumpsTo Blocks 0 1
to_next = (record { jumps = 1 ∷ 0 ∷ []; falls = false }, refl, inl refl)

back : JumpsTo Blocks 1 0
back = (record { jumps = 0 ∷ []; falls = false }, refl, inl refl)

second : IsReached Blocks 1
second = jump first to_next

is_reached : (b : ℕ) → reached b ≡ true → IsReached Blocks b
is_reached zero e = first
is_reached (suc zero) e = second
is_reached (suc (suc b)) e = absurd cc

are_cuts : AreCuts Blocks (0 ∷ [])
are_cuts = record {
  ascending = tt;
  each = λ q o. ⊎_elim
      (λ e. subst (IsCut Blocks) (sym e)
      (record { there = (omega arith); free = λ s t r j over. ⊎_elim (λ x. let y = x.0 in omega arith) (λ x. let y = x.0 in omega arith) over }))
      (λ p. absurd p) o;
  all = λ q cut. ⊎_elim (λ e. inl e)
      (λ n. let x : q < 2 = cut.there in absurd (cut.free 1 0 second back (inr (omega arith, omega arith)))) (cases_eq q 0);
}

last_back : (h : ℕ) → h < 2 → IsLastBack Blocks h (lasts h)
last_back zero x = (second, back, omega arith, λ s r j. let y = is_low s r in omega arith)
last_back (suc zero) x = λ s r j. ⊎_elim (λ y. omega (arith, y.0)) (λ y. let z = y.1 in absurd (omega arith)) (is_jump s 1 j)
last_back (suc (suc h)) x = absurd (omega arith)

is_found : IsFound worked_nodes reached lasts (0 ∷ [])
is_found = record {
  whole = record {
    reaches = λ b. ((λ e. is_reached b e), (λ r. low_reached b (is_low b r)));
    there = λ b e. is_low b (is_reached b e);
    points = are_cuts;
  };
  backs = last_back;
}

not_split : MaySplit (blocks_between worked_nodes 0 2) → ⊥
not_split is =
    let (e, ends) = is.0.cases 0 list in
    let (x, y) = ends.fits.after 0 (record { list = list; jump = (one_of (0 ∷ []) 1, goes, inr (inl refl)) }) in
    absurd (omega arith)
  where
    goes : GoesOn (blocks_between worked_nodes 0 2) 0 (one_of (0 ∷ []) 1)
    goes = (record { reached = first; low = (omega arith); high = (omega arith) }, refl)

    list : IsList (blocks_between worked_nodes 0 2) 0
    list = (0 ∷ [], 1, goes)

is_planned : ArePlanned worked_nodes reached lasts (0 ∷ []) sections
is_planned = (refl, refl, not_split, refl)

-- Nodes

faultless : is_faultless chosen ≡ true
faultless = fold_literal Bool faultless_step type.Int (pos 0)

nothing_read : locals_of (flat_map reads_of (tests_of worked_exit)) ≡ []
nothing_read = ap (λ vars. locals_of (vars ++ [])) (reads_of_literal type.Int (pos 0))

is_plain : ArePlain worked_nodes
is_plain zero node there =
    subst (IsPlainNode 2 0) (same_Some _ node there)
    (record {
      steps = tt;
      runs = record { own = tt; inner = All-nil (AreOfRun []) };
      ending = subst (AreWritten []) (sym nothing_read) (All-nil (IsWritten []));
      exit = ((omega arith), (omega arith), All-cons (λ (j : ℕ). j < 2) 0 [] (omega arith) (All-nil (λ (j : ℕ). j < 2)), refl, (omega arith));
      test = All-cons (λ (e : Expr). is_faultless e ≡ true) chosen [] faultless (All-nil (λ (e : Expr). is_faultless e ≡ true));
      only_end = λ only. absurd cc;
    })
is_plain (suc zero) node there =
    subst (IsPlainNode 2 1) (same_Some _ node there)
    (record {
      steps = tt;
      runs = record { own = tt; inner = All-nil (AreOfRun []) };
      ending = All-nil (IsWritten []);
      exit = (omega arith);
      test = All-nil (λ (e : Expr). is_faultless e ≡ true);
      only_end = λ only. absurd cc;
    })
is_plain (suc (suc i)) node there = absurd cc

keeps_off : (next : ℕ) → KeepsOff next worked_nodes
keeps_off next =
    let Leaves : Stmt → Type 0 = λ x. LeavesLocal next (out-Stmt x) in
    let arm : CaseArm = record { labels = pos 0 ∷ []; body = [] } in
    let reads : AreOthers next (reads_of chosen)
    = subst (AreOthers next) (sym (reads_of_literal type.Int (pos 0))) (All-nil (λ (v : Var). v ≢ var.Local next)) in
    each_first (LeavesLocal next) (S.Case chosen (arm ∷ []) []) (stmt.Case chosen (arm ∷ []) []) (stmt.rolls-Case chosen (arm ∷ []) []) []
    (All-cons (λ (e : Expr). AreOthers next (reads_of e)) chosen [] reads (All-nil (λ (e : Expr). AreOthers next (reads_of e))))
    (All-nil Leaves) (All-nil Leaves)

pub worked_unit_is_made : WorkedUnitIsMade
worked_unit_is_made next =
    record {
      some = λ e. absurd cc;
      plain = is_plain;
      off = keeps_off next;
      body = text_of next (unit_region (chart_of worked_nodes reached lasts []) sections);
      made = record {
        reached = reached;
        lasts = lasts;
        cuts = 0 ∷ [];
        sections = sections;
        found = is_found;
        planned = is_planned;
        body = refl;
        loops = refl;
      };
    }
