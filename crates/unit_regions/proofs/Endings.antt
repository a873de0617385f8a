-- Whether a region falls off its end shows in the last statement of its text.
use Rattle.std.proofs.Common.{◌≡◌, ℕ, suc, Bool, false, not, List, [], ◌∷◌, ◌++◌, pos, slice_get, Some, refl, sym, ap, ◌∙◌, subst}
use Rattle.st_tree.specs.declared.expr.Expr.{Expr}
use Rattle.st_tree.specs.declared.expr.Expr.TheVariants as expr
use Rattle.st_tree.specs.declared.expr.StType.TheVariants as type
use Rattle.st_tree.specs.declared.expr.Var.TheVariants as var
use Rattle.st_tree.specs.declared.graph.StExit.{StExit}
use Rattle.st_tree.specs.declared.graph.StNode.{StNode}
use Rattle.st_tree.specs.declared.program.Arm.{Arm}
use Rattle.st_tree.specs.declared.program.CaseArm.{CaseArm}
use Rattle.st_tree.specs.declared.program.Stmt.{Stmt, out-Stmt, out-roll-Stmt, roll-Stmt}
use Rattle.st_tree.specs.declared.program.Stmt.TheOpen as S
use Rattle.st_tree.specs.declared.program.Stmt.TheVariants as stmt
use Rattle.graph_rules.specs.Plain.{AreSteps, IsStep}
use Rattle.region_laws.specs.NextLocal.{set_next}
use Rattle.region_laws.specs.Regions.{Fits, IsNode, Marked, Place, Region, again, arms_of_nodes, at, choice, choose, cycle, ended, forever, fork, arms_with_labels, labels_from, leaves, no_loop, node, off, quit, selected, selector, table, text_of, turn_to}
use Rattle.unit_regions.specs.UnitLaws.{EndsByReturn}
use Rattle.unit_regions.specs.UnitRegion.{ends_by_return, falls_off, is_return}

abbrev Layer : Type 0
Layer = S.Stmt-F Stmt Arm CaseArm

-- a statement that is not RETURN, before others
behind_one : (x : Stmt) → is_return (out-Stmt x) ≡ false → (rest : List Stmt) → ends_by_return (x ∷ rest) ≡ ends_by_return rest
behind_one x e [] = e
behind_one x e (y ∷ rest) = refl

by_layer : (y : Layer) (x : Stmt) → roll-Stmt y ≡ x → is_return (out-Stmt x) ≡ is_return y
by_layer y x e = ap (λ (x : Stmt). is_return (out-Stmt x)) (sym e) ∙ ap is_return (out-roll-Stmt y)

other_layer : (y : Layer) (x : Stmt) → roll-Stmt y ≡ x → is_return y ≡ false → is_return (out-Stmt x) ≡ false
other_layer y x e f = by_layer y x e ∙ f

step_is_other : (y : Layer) → IsStep y → is_return y ≡ false
step_is_other S.Return h = elim h [ ]
step_is_other y h = refl

behind_steps : (steps : List Stmt) → AreSteps steps → (rest : List Stmt) → ends_by_return (steps ++ rest) ≡ ends_by_return rest
behind_steps [] h rest = refl
behind_steps (x ∷ steps) h rest = behind_one x (step_is_other (out-Stmt x) h.0) (steps ++ rest) ∙ behind_steps steps h.1 rest

behind_choice : (e : Expr) (there behind rest : List Stmt) → ends_by_return (choice e there behind ∷ rest) ≡ ends_by_return rest
behind_choice e there behind rest =
    let arm : Arm = record { test = e; body = there } in
    behind_one (choice e there behind) (other_layer (S.If (arm ∷ []) behind) (choice e there behind) (stmt.rolls-If (arm ∷ []) behind) refl) rest

behind_forever : (body rest : List Stmt) → ends_by_return (forever body ∷ rest) ≡ ends_by_return rest
behind_forever body rest =
    let e = expr.Literal type.Bool (pos 1) in
    behind_one (forever body) (other_layer (S.While e body) (forever body) (stmt.rolls-While e body) refl) rest

behind_case : (e : Expr) (arms : List CaseArm) (other rest : List Stmt) → ends_by_return (stmt.Case e arms other ∷ rest) ≡ ends_by_return rest
behind_case e arms other rest =
    behind_one (stmt.Case e arms other) (other_layer (S.Case e arms other) (stmt.Case e arms other) (stmt.rolls-Case e arms other) refl) rest

behind_setting : (next j : ℕ) (rest : List Stmt) → ends_by_return (set_next next j ∷ rest) ≡ ends_by_return rest
behind_setting next j rest =
    let v = var.Local next in let e = expr.Literal type.Dint (pos j) in
    behind_one (set_next next j) (other_layer (S.Assign v e) (set_next next j) (stmt.rolls-Assign v e) refl) rest

module _ (unit : Marked) (next : ℕ) (plain : (i : ℕ) (n : StNode) → slice_get unit.nodes i ≡ Some n → AreSteps n.steps) where
  own : (turn : Bool) (i : ℕ) (steps : List Stmt) (x : StExit) → IsNode unit turn i steps x → AreSteps steps
  own turn i steps x is = subst AreSteps is.steps_are (plain i is.node is.there)

  ends : (r : Region) (turn : Bool) (p follow : Place) → Fits unit turn r p follow no_loop → ends_by_return (text_of next r) ≡ not (falls_off r)
  ends off turn p follow f = refl
  ends leaves turn p follow f = absurd f.1
  ends again turn p follow f = absurd f.1
  ends ended turn p follow f = by_layer S.Return stmt.Return stmt.rolls-Return
  ends (node steps rest) turn p follow (i, x, to, e, is, lead, f) =
      behind_steps steps (own turn i steps x is) (text_of next rest) ∙ ends rest false to follow f
  ends (fork steps t there behind join rest) turn p follow (i, j, e, is, first, second, f) =
      behind_steps steps (own turn i steps _ is) (choice t (text_of next there) (text_of next behind) ∷ text_of next rest)
      ∙ behind_choice t (text_of next there) (text_of next behind) (text_of next rest) ∙ ends rest false join follow f
  ends (quit steps t rest) turn p follow (i, e, is, f) =
      behind_steps steps (own turn i steps _ is) (choice t (stmt.Return ∷ []) [] ∷ text_of next rest)
      ∙ behind_choice t (stmt.Return ∷ []) [] (text_of next rest) ∙ ends rest false (at (suc i)) follow f
  ends (table steps t count arms join rest) turn p follow (i, targets, last, e, is, same, inner, f) =
      let cases = arms_with_labels (λ n. text_of next (arms n)) (labels_from 0 count) in
      behind_steps steps (own turn i steps _ is) (stmt.Case t cases (text_of next (arms count)) ∷ text_of next rest)
      ∙ behind_case t cases (text_of next (arms count)) (text_of next rest) ∙ ends rest false join follow f
  ends (choose steps t targets nodes arms other join rest) turn p follow (i, last, e, is, have, inner, own_arm, f) =
      let cases = arms_of_nodes targets (λ j. text_of next (arms j)) nodes in
      behind_steps steps (own turn i steps _ is) (stmt.Case t cases (text_of next other) ∷ text_of next rest)
      ∙ behind_case t cases (text_of next other) (text_of next rest) ∙ ends rest false join follow f
  ends (cycle body behind rest) turn p follow (h, d, e, head, inner, f) =
      behind_forever (text_of next body) (text_of next rest) ∙ ends rest false behind follow f
  ends (turn_to j rest) turn p follow (k, d, e, mark, f) = behind_setting next j (text_of next rest) ∙ ends rest false (selected k) follow f
  ends (selector labels arms behind rest) turn p follow (k, d, e, same, inner, f) =
      behind_forever (stmt.Case (expr.Read (var.Local next)) (arms_with_labels (λ n. text_of next (arms n)) labels) [] ∷ []) (text_of next rest)
      ∙ ends rest false behind follow f

pub text_ends : EndsByReturn
text_ends unit turn next r p follow plain f = ends unit next plain r turn p follow f
