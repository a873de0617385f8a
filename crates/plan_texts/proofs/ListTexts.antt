-- What is written of a block with a jump list is what its region asks for.
use Rattle.std.proofs.Common.{◌≡◌, ℕ, ◌+◌, ◌<◌, ◌≤◌, Bool, false, List, [], ◌∷◌, ◌++◌, length, append_assoc, sym, ap, subst, ◌∙◌, arith}
use Rattle.std.specs.Prelude.{Option, Some, None, slice_get}
use Rattle.std.proofs.lemmas.Option.{same_Some}
use Rattle.st_tree.specs.declared.expr.Expr.{Expr}
use Rattle.st_tree.specs.declared.graph.StExit.{StExit}
use Rattle.st_tree.specs.declared.graph.StExit.TheVariants as exit
use Rattle.st_tree.specs.declared.graph.StNode.{StNode}
use Rattle.st_tree.specs.declared.program.CaseArm.{CaseArm}
use Rattle.st_tree.specs.declared.program.Stmt.{Stmt}
use Rattle.st_tree.specs.declared.program.Stmt.TheVariants as stmt
use Rattle.stl_tree.specs.Blocks.{one_of}
use Rattle.stl_tree.specs.Flows.{Segment}
use Rattle.nesting_laws.specs.Plans.{Plan}
use Rattle.graph_rules.specs.Flow.{way_by}
use Rattle.region_laws.specs.Regions.{Place, Region, arms_of_nodes, at as place_at, choose, text_of}
use Rattle.region_plans.specs.PlanRegion.{arm_from, cases_region, list_region, nodes_of, rest_from}
use Rattle.unit_regions.specs.UnitCharts.{blocks_between}
use Rattle.dispatch_loops.specs.Charted.{chart_in}
use Rattle.segment_plans.specs.Arms.{next_arm}
use Rattle.segment_plans.specs.Planned.{IsPartOf, around_of, list_arm}
use Rattle.segment_plans.specs.declared.blocks.Blocks.{Blocks}
use Rattle.segment_plans.specs.declared.planning.Part.{Part}
use Rattle.segment_plans.specs.declared.planning.Piece.TheVariants as piece
use Rattle.plan_texts.specs.declared.leads.Lead.{Lead}
use Rattle.plan_texts.specs.inner.Leads.{Adds, AddsRest, place_in, rest_region}
use Rattle.plan_texts.specs.inner.Lists.{WritesArms, last_arm}
use Rattle.plan_texts.specs.inner.Steps.{HasSteps, WritesInner, WritesPiece, list_in}
use Rattle.plan_texts.proofs.Found.{arm_found}
use Rattle.plan_texts.proofs.ListArms.{AreLed, led}
use Rattle.plan_texts.proofs.Nexts.{within}
use Rattle.plan_texts.proofs.Texts.{IsTaken, rest_of, taken, way_there}

-- Exits

list_tests : (x : StExit) (targets : List ℕ) (label : ℕ) → way_by x ≡ one_of targets label → list_in x ≡ None → ⊥
list_tests exit.Fall targets label e f = absurd cc
list_tests (exit.Jump j) targets label e f = absurd cc
list_tests (exit.Branch test j) targets label e f = absurd cc
list_tests (exit.EndIf test) targets label e f = absurd cc
list_tests (exit.Table test entries last) targets label e f = absurd cc
list_tests exit.End targets label e f = absurd cc

-- a block with a jump list has one
pub no_list : (blocks : Blocks) (steps : List Stmt) (tail : Bool) (left : ℕ) (part : Part) (at e : ℕ) (nodes rest : List StNode)
    (old new : List Stmt) (found : Option StExit) (x : StExit) (asked : Option (Expr × List ℕ)) (to : Lead) → at < part.past
    → HasSteps nodes rest old new found → found ≡ Some x
    → asked ≡ list_in x → asked ≡ None → WritesPiece blocks steps tail left part at (piece.Cases e) nodes rest old new to
no_list blocks steps tail left part at e nodes rest old new found x asked to low s g h k = λ all from past unit inside paid inner fits f.
    let size : part.past ≤ length all = within all from past blocks steps unit part at inside in
    let t : IsTaken all at rest old new (Some x) =
    taken all at nodes rest old new (Some x) (omega (arith, low, size)) f (subst (HasSteps nodes rest old new) g s) in
    let same : x ≡ t.node.exit = same_Some x t.node.exit t.exit_is in
    let list = fits.1.list in
    absurd (list_tests t.node.exit list.0 list.1 (way_there all at t.node (one_of list.0 list.1) t.there list.2.1) (ap list_in (sym same) ∙ sym h ∙ k))

-- Regions

choose_here : (inner : Plan) (e : ℕ) (arms : ℕ → Region) (other rest : Region) (o : Option StNode) (n : StNode) (x : StExit) (v : Expr) (targets : List ℕ)
    → o ≡ Some n → x ≡ n.exit → Some (v, targets) ≡ list_in x
    → cases_region inner e arms other rest o ≡ choose n.steps v targets (nodes_of inner e targets) arms other (place_at e) rest
choose_here inner e arms other rest o n x v targets f g h =
    ap (cases_region inner e arms other rest) f ∙ by n.exit (h ∙ ap list_in g)
  where
    by : (y : StExit) → Some (v, targets) ≡ list_in y
        → list_region inner e arms other rest n.steps y ≡ choose n.steps v targets (nodes_of inner e targets) arms other (place_at e) rest
    by exit.Fall k = absurd cc
    by (exit.Jump j) k = absurd cc
    by (exit.Branch test j) k = absurd cc
    by (exit.EndIf test) k = absurd cc
    by (exit.Table test entries last) k =
        let same : (test, entries) ≡ (v, targets) = sym (same_Some (v, targets) (test, entries) k) in
        ap (λ (p : Expr × List ℕ). choose n.steps p.0 p.1 (nodes_of inner e p.1) arms other (place_at e) rest) same
    by exit.End k = absurd cc

choose_adds : (old steps new : List Stmt) (to : Lead) (v : Expr) (targets nodes : List ℕ) (by : ℕ → Region) (other : Region) (arms : List CaseArm)
    (others : List Stmt) (join : Place) (rest more : Region)
    → ((name : ℕ) → arms ≡ arms_of_nodes targets (λ j. text_of name (by j)) nodes) → ((name : ℕ) → others ≡ text_of name other)
    → Adds ((old ++ steps) ++ stmt.Case v arms others ∷ []) new to rest more → Adds old new to (choose steps v targets nodes by other join rest) more
choose_adds old steps new to v targets nodes by other arms others join rest more f s h = record {
  text = λ name.
      ap (λ (x : List CaseArm). old ++ (steps ++ stmt.Case v x (text_of name other) ∷ text_of name rest)) (sym (f name))
      ∙ ap (λ (x : List Stmt). old ++ (steps ++ stmt.Case v arms x ∷ text_of name rest)) (sym (s name))
      ∙ sym (append_assoc old steps (stmt.Case v arms others ∷ text_of name rest))
      ∙ sym (append_assoc (old ++ steps) (stmt.Case v arms others ∷ []) (text_of name rest)) ∙ h.text name;
  falls = h.falls;
}

-- Pieces

label_in : (g : Segment) (part : Part) (at past e : ℕ) → IsPartOf g part at → at < past → past ≤ e → e ≤ part.past
    → IsPartOf g (list_arm part past e) (at + 1)
label_in g part at past e inside low up within =
    record { low = omega (arith, inside.low); ordered = omega (arith, low); high = omega (arith, up, within, inside.high) }

later_in : (g : Segment) (part : Part) (at past e : ℕ) → IsPartOf g part at → at < past → past ≤ e → e ≤ part.past → IsPartOf g part past
later_in g part at past e inside low up within =
    record { low = omega (arith, inside.low, low); ordered = omega (arith, up, within); high = inside.high }

cases_written : (blocks : Blocks) (steps : List Stmt) (tail : Bool) (left : ℕ) (part : Part) (at e past : ℕ) (nodes rest between last : List StNode)
    (old mid new others : List Stmt) (arms : List CaseArm) (x : StExit) (v : Expr) (targets : List ℕ) (to : Lead) → at < e → e ≤ part.past
    → HasSteps nodes rest old mid (Some x) → Some (v, targets) ≡ list_in x → past ≡ next_arm blocks at (at + 1) e → at < past → past ≤ e
    → WritesInner blocks steps left (list_arm part past e) (at + 1) false rest between others
    → WritesArms blocks steps left part at e targets past between last arms
    → AddsRest blocks steps (rest_region tail part e) (mid ++ stmt.Case v (arms ++ last_arm targets e) others ∷ []) new to
    → WritesPiece blocks steps tail left part at (piece.Cases e) nodes last old new to
cases_written blocks steps tail left part at e past nodes rest between last old mid new others arms x v targets to low up s h ends some high w ws adds =
    λ all from end unit inside paid inner fits f.
    let g : Segment = blocks_between all from end in
    let c = chart_in all blocks in
    let before : at < part.past = omega (arith, low, up) in
    let size : part.past ≤ length all = within all from end blocks steps unit part at inside in
    let k : IsTaken all at rest old mid (Some x) = taken all at nodes rest old mid (Some x) (omega (arith, before, size)) f s in
    let same : x ≡ k.node.exit = same_Some x k.node.exit k.exit_is in
    let l : AreLed g at (at + 1) e past (around_of part.around) inner.1.0 =
    led g at (at + 1) e past (around_of part.around) inner.1.0
    (λ d is. arm_found g blocks unit.segment unit.known at (at + 1) e d is ∙ sym ends) (omega (arith, some)) high inner.1.1 in
    let label = w all from end unit (label_in g part at past e inside some high up)
    (l.first, l.is_first, omega (arith, l.first_few, inner.1.2)) inner.0
    (rest_of all from end blocks steps part at nodes rest old mid x unit inside before f s) in
    let listed = ws all from end unit (later_in g part at past e inside some high up)
    (l.others, l.are_others, omega (arith, l.others_few, inner.1.2)) inner.0 up label.0 in
    record {
      taken = listed.0;
      adds = λ more.
          subst (λ (r : Region). Adds old new to r more)
          (sym (choose_here inner.1.0 e (arm_from c inner.1.0 (at + 1) e (around_of part.around))
          (arm_from c inner.1.0 (at + 1) e (around_of part.around) (at + 1))
          (rest_from c e part.past (place_in tail part) (around_of part.around) more) (slice_get all at) k.node x v targets k.there same h))
          (choose_adds old k.node.steps new to v targets (nodes_of inner.1.0 e targets) (arm_from c inner.1.0 (at + 1) e (around_of part.around))
          (arm_from c inner.1.0 (at + 1) e (around_of part.around) (at + 1)) (arms ++ last_arm targets e) others (place_at e)
          (rest_from c e part.past (place_in tail part) (around_of part.around) more) more
          (λ name. ap (λ (a : List CaseArm). a ++ last_arm targets e) (listed.1 name) ∙ sym (l.arms c name targets))
          (λ name. label.1 name ∙ ap (text_of name) (sym (l.label c)))
          (subst (λ (m : List Stmt). Adds (m ++ stmt.Case v (arms ++ last_arm targets e) others ∷ []) new to
          (rest_from c e part.past (place_in tail part) (around_of part.around) more) more) k.steps (adds all from end more unit)));
    }

pub cases_piece : (blocks : Blocks) (steps : List Stmt) (tail : Bool) (left : ℕ) (part other_part : Part) (at e past : ℕ)
    (nodes rest between last : List StNode) (old mid wide new others : List Stmt) (arms all_arms : List CaseArm) (found : Option StExit) (x : StExit)
    (asked : Option (Expr × List ℕ)) (v : Expr) (targets slice again : List ℕ) (to : Lead) → at < e
    → HasSteps nodes rest old mid found → found ≡ Some x → asked ≡ list_in x → asked ≡ Some (v, targets)
    → past ≡ next_arm blocks at (at + 1) e → at < past → past ≤ e → other_part ≡ list_arm part past e
    → WritesInner blocks steps left other_part (at + 1) false rest between others
    → slice ≡ targets → WritesArms blocks steps left part at e slice past between last arms
    → again ≡ targets → all_arms ≡ arms ++ last_arm again e → wide ≡ mid ++ stmt.Case v all_arms others ∷ []
    → AddsRest blocks steps (rest_region tail part e) wide new to → e ≤ part.past
    → WritesPiece blocks steps tail left part at (piece.Cases e) nodes last old new to
cases_piece blocks steps tail left part other_part at e past nodes rest between last old mid wide new others arms all_arms found x asked v targets slice again
    to low s g h k ends some high same w sliced ws sliced_again n m adds up =
    cases_written blocks steps tail left part at e past nodes rest between last old mid new others arms x v targets to low up
    (subst (HasSteps nodes rest old mid) g s) (sym k ∙ h) ends some high
    (subst (λ q. WritesInner blocks steps left q (at + 1) false rest between others) same w)
    (subst (λ (l : List ℕ). WritesArms blocks steps left part at e l past between last arms) sliced ws)
    (subst (λ (l : List Stmt). AddsRest blocks steps (rest_region tail part e) l new to)
    (m ∙ ap (λ (a : List CaseArm). mid ++ stmt.Case v a others ∷ []) (n ∙ ap (λ (l : List ℕ). arms ++ last_arm l e) sliced_again)) adds)
