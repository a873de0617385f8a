-- The text of a dispatch loop: an arm for each entry of a table, and for each block that is reached.
use Rattle.std.proofs.Common.{◌≡◌, ℕ, zero, suc, ◌+◌, ◌-◌, ◌<◌, ◌≤◌, Bool, true, false, if◌then◌else◌, List, [], ◌∷◌, ◌++◌, length, get_or, drop, refl, sym, ap, ◌∙◌, append_assoc, length-drop, arith}
use Rattle.std.proofs.Math.Seq.{drop-cons}
use Rattle.std.proofs.lemmas.List.{drop-drop}
use Rattle.std.proofs.lemmas.Option.{slice_get-get_or}
use Rattle.std.specs.Prelude.{Option, Some, slice_get}
use Rattle.st_tree.specs.declared.expr.Expr.{Expr}
use Rattle.st_tree.specs.declared.expr.Expr.TheVariants as expr
use Rattle.st_tree.specs.declared.expr.Var.TheVariants as var
use Rattle.st_tree.specs.declared.graph.StExit.{StExit}
use Rattle.st_tree.specs.declared.graph.StExit.TheVariants as exit
use Rattle.st_tree.specs.declared.graph.StNode.{StNode}
use Rattle.st_tree.specs.declared.program.CaseArm.{CaseArm}
use Rattle.st_tree.specs.declared.program.Stmt.{Stmt}
use Rattle.st_tree.specs.declared.program.Stmt.TheVariants as stmt
use Rattle.region_laws.specs.NextLocal.{arm_with_label, set_next}
use Rattle.region_laws.specs.Regions.{arms_with_labels, forever, text_of}
use Rattle.unit_regions.proofs.Tables.{table_text}
use Rattle.unit_regions.specs.UnitRegion.{entry_arms, lead_to, node_region, place_if, reached_from}
use Rattle.segment_plans.specs.Counts.{is_reached}
use Rattle.segment_plans.specs.declared.blocks.Blocks.{Blocks}
use Rattle.dispatch_loops.specs.Dispatched.{IsWrittenInTurns}
use Rattle.dispatch_loops.specs.inner.Arms.{arm_text, arms_from, next_arm}
use Rattle.dispatch_loops.specs.declared.dispatch.Turns.{Turns}

-- Tables

-- the arm of the last entry of a table stands last
last_entry : (next past k t : ℕ) (targets : List ℕ)
    → entry_arms next past k (targets ++ t ∷ [])
    ≡ entry_arms next past k targets ++ arm_with_label (k + length targets) (text_of next (lead_to past t)) ∷ []
last_entry next past k t [] =
    let e : k ≡ k + 0 = omega arith in ap (λ (n : ℕ). arm_with_label n (text_of next (lead_to past t)) ∷ []) e
last_entry next past k t (u ∷ targets) =
    let e : suc k + length targets ≡ k + suc (length targets) = omega arith in
    ap (λ (arms : List CaseArm). arm_with_label k (text_of next (lead_to past u)) ∷ arms)
    (last_entry next past (suc k) t targets
    ∙ ap (λ (n : ℕ). entry_arms next past (suc k) targets ++ arm_with_label n (text_of next (lead_to past t)) ∷ []) e)

-- arms with that of the next entry
pub next_entry : (next past t n : ℕ) (targets : List ℕ) (arms more : List CaseArm) (arm : CaseArm)
    → arms ≡ entry_arms next past 0 targets → n ≡ length targets → arm ≡ arm_with_label n (text_of next (lead_to past t))
    → more ≡ arms ++ arm ∷ [] → more ≡ entry_arms next past 0 (targets ++ t ∷ [])
next_entry next past t n targets arms more arm before count is added =
    let e : n ≡ 0 + length targets = omega arith in
    added ∙ ap (λ (xs : List CaseArm). xs ++ arm ∷ []) before
    ∙ ap (λ (x : CaseArm). entry_arms next past 0 targets ++ x ∷ [])
    (is ∙ ap (λ (m : ℕ). arm_with_label m (text_of next (lead_to past t))) e)
    ∙ sym (last_entry next past 0 t targets)

-- the text of a block with a table
pub table_written : (turns : Turns) (goes_on : Bool) (i : ℕ) (steps after other : List Stmt) (x : StExit) (e : Expr) (targets : List ℕ) (last : ℕ)
    (arms : List CaseArm) → x ≡ exit.Table e targets last → arms ≡ entry_arms turns.selector turns.past 0 targets
    → other ≡ text_of turns.selector (lead_to turns.past last) → after ≡ steps ++ stmt.Case e arms other ∷ []
    → after ≡ arm_text turns goes_on i steps x
table_written turns goes_on i steps after other x e targets last arms is each otherwise added =
    added ∙ ap (λ (xs : List CaseArm). steps ++ stmt.Case e xs other ∷ []) each
    ∙ ap (λ (xs : List Stmt). steps ++ stmt.Case e (entry_arms turns.selector turns.past 0 targets) xs ∷ []) otherwise
    ∙ sym (table_text turns.selector turns.first turns.past (place_if goes_on turns.past) i steps e targets last)
    ∙ ap (λ (y : StExit). arm_text turns goes_on i steps y) (sym is)

-- Arms

module _ (reached : ℕ → Bool) (turns : Turns) (goes_on : Bool) where
  abbrev arms_by : ℕ → ℕ → List StNode → List CaseArm
  arms_by = arms_from reached turns goes_on

  -- by a block that is reached
  pub with_arm : (i n : ℕ) (nodes : List StNode) (arms : List CaseArm) → reached i ≡ true
      → (arms ++ next_arm turns goes_on i nodes) ++ arms_by (suc i) n (drop 1 nodes) ≡ arms ++ arms_by i (suc n) nodes
  with_arm i n nodes arms is =
      let arm = next_arm turns goes_on i nodes in
      let more = arms_by (suc i) n (drop 1 nodes) in
      append_assoc arms arm more ∙ ap (λ (b : Bool). arms ++ ((if b then arm else []) ++ more)) (sym is)

  -- by another
  pub without_arm : (i n : ℕ) (nodes : List StNode) (arms : List CaseArm) → reached i ≡ false
      → arms ++ arms_by (suc i) n (drop 1 nodes) ≡ arms ++ arms_by i (suc n) nodes
  without_arm i n nodes arms is =
      let arm = next_arm turns goes_on i nodes in
      let more = arms_by (suc i) n (drop 1 nodes) in
      ap (λ (b : Bool). arms ++ ((if b then arm else []) ++ more)) (sym is)

  -- what a loop has at a block, by all nodes of a unit
  abbrev pub body_at : List StNode → ℕ → List Stmt
  body_at all k = text_of turns.selector (node_region turns.first turns.past (place_if goes_on turns.past) k (slice_get all k))

  joined : (all : List StNode) (i n : ℕ) (node : StNode) (nodes : List StNode) (b : Bool)
      → arm_with_label i (arm_text turns goes_on i node.steps node.exit) ≡ arm_with_label i (body_at all i)
      → arms_by (suc i) n nodes ≡ arms_with_labels (body_at all) (reached_from reached (suc i) n)
      → (if b then next_arm turns goes_on i (node ∷ nodes) else []) ++ arms_by (suc i) n nodes
      ≡ arms_with_labels (body_at all) (if b then i ∷ reached_from reached (suc i) n else reached_from reached (suc i) n)
  joined all i n node nodes true arm rest =
      ap (λ (x : CaseArm). x ∷ arms_by (suc i) n nodes) arm ∙ ap (λ (xs : List CaseArm). arm_with_label i (body_at all i) ∷ xs) rest
  joined all i n node nodes false arm rest = rest

  -- the arms of blocks by all nodes of a unit
  pub all_arms : (all : List StNode) (i n : ℕ) (nodes : List StNode) → nodes ≡ drop i all → i + n ≤ length all
      → arms_by i n nodes ≡ arms_with_labels (body_at all) (reached_from reached i n)
  all_arms all i zero nodes same within = refl
  all_arms all i (suc n) [] same within =
      let none : 0 ≡ length (drop i all) = ap length same in absurd (omega (arith, length-drop i all))
  all_arms all i (suc n) (node ∷ nodes) same within =
      let inside : i < length all = omega arith in
      let cut : node ∷ nodes ≡ get_or all i node ∷ drop (suc i) all = same ∙ drop-cons all i node inside in
      let here : node ≡ get_or all i node = cc in
      let behind : nodes ≡ drop (suc i) all = cc in
      let there : slice_get all i ≡ Some node = slice_get-get_or all i node inside ∙ ap Some (sym here) in
      let text : Option StNode → List Stmt
      = λ (x : Option StNode). text_of turns.selector (node_region turns.first turns.past (place_if goes_on turns.past) i x) in
      joined all i n node nodes (reached i) (ap (λ (x : Option StNode). arm_with_label i (text x)) (sym there))
      (all_arms all (suc i) n nodes behind (omega arith))

-- the nodes that are left behind one more
pub one_less : (first i j : ℕ) (all nodes rest : List StNode) → first ≤ i → j ≡ suc i → nodes ≡ drop (i - first) all → rest ≡ drop 1 nodes
    → rest ≡ drop (j - first) all
one_less first i j all nodes rest low next left is =
    let e : (i - first) + 1 ≡ j - first = omega arith in
    is ∙ ap (drop 1) left ∙ drop-drop 1 (i - first) all ∙ ap (λ (n : ℕ). drop n all) e

-- the arms so far, and those of the blocks that are left
pub more_arms : (reached : ℕ → Bool) (turns : Turns) (goes_on : Bool) (i j m n : ℕ) (nodes rest : List StNode) (arms more : List CaseArm)
    → j ≡ suc i → m ≡ suc n → rest ≡ drop 1 nodes → reached i ≡ true → more ≡ arms ++ next_arm turns goes_on i nodes
    → more ++ arms_from reached turns goes_on j n rest ≡ arms ++ arms_from reached turns goes_on i m nodes
more_arms reached turns goes_on i j m n nodes rest arms more p q behind is added =
    rw (p, q, behind, added) (with_arm reached turns goes_on i n nodes arms is)

pub same_arms : (reached : ℕ → Bool) (turns : Turns) (goes_on : Bool) (i j m n : ℕ) (nodes rest : List StNode) (arms more : List CaseArm)
    → j ≡ suc i → m ≡ suc n → rest ≡ drop 1 nodes → reached i ≡ false → more ≡ arms
    → more ++ arms_from reached turns goes_on j n rest ≡ arms ++ arms_from reached turns goes_on i m nodes
same_arms reached turns goes_on i j m n nodes rest arms more p q behind is same =
    rw (p, q, behind, same) (without_arm reached turns goes_on i n nodes arms is)

-- Loops

-- what is written is the text of the segment
pub written_in_turns : (all : List StNode) (blocks : Blocks) (turns : Turns) (nodes left : List StNode) (arms : List CaseArm)
    (before between after body : List Stmt) (loop : Stmt) → turns.first < turns.past → turns.past ≤ length all → nodes ≡ drop turns.first all
    → left ≡ drop (turns.past - turns.first) nodes
    → arms ≡ arms_from (is_reached blocks) turns (is_reached blocks turns.past) turns.first (turns.past - turns.first) nodes
    → body ≡ stmt.Case (expr.Read (var.Local turns.selector)) arms [] ∷ []
    → between ≡ before ++ set_next turns.selector turns.first ∷ [] → loop ≡ forever body → after ≡ between ++ loop ∷ []
    → IsWrittenInTurns all blocks turns left before after
written_in_turns all blocks turns nodes left arms before between after body loop some within from behind each case selected endless added =
    let set : Stmt = set_next turns.selector turns.first in
    let turned : List CaseArm → Stmt = λ (xs : List CaseArm). forever (stmt.Case (expr.Read (var.Local turns.selector)) xs [] ∷ []) in
    let e : turns.first + (turns.past - turns.first) ≡ turns.past = omega arith in
    record {
      left_behind = behind ∙ ap (drop (turns.past - turns.first)) from ∙ drop-drop (turns.past - turns.first) turns.first all
          ∙ ap (λ (n : ℕ). drop n all) e;
      written = added ∙ ap (λ (x : Stmt). between ++ x ∷ []) endless ∙ ap (λ (xs : List Stmt). xs ++ forever body ∷ []) selected
          ∙ append_assoc before (set ∷ []) (forever body ∷ [])
          ∙ ap (λ (xs : List Stmt). before ++ set ∷ forever xs ∷ []) case
          ∙ ap (λ (xs : List CaseArm). before ++ set ∷ turned xs ∷ [])
          (each ∙ all_arms (is_reached blocks) turns (is_reached blocks turns.past) all turns.first (turns.past - turns.first) nodes from (omega arith));
    }
