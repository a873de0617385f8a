-- What a region that fits is made of: parts of the nodes of its unit.
use Rattle.std.proofs.Common.{◌≡◌, ◌≢◌, ℕ, zero, suc, ◌<◌, ◌≤◌, ◌==◌, Bool, true, false, List, [], ◌∷◌, ◌++◌, length, Some, refl, sym, ap, ◌∙◌, subst, eqb-true}
use Rattle.std.specs.Prelude.{slice_get}
use Rattle.std.specs.List.{list_any}
use Rattle.std.proofs.lemmas.Option.{slice_get_within}
use Rattle.graph_rules.specs.Plain.{node_statements, test_of}
use Rattle.region_laws.specs.Regions.{Around, Fits, IsNode, Mark, Marked, Place, Region, again, arm_of, at, choose, cycle, ended, fork, inside, is_among, is_arm, leaves, loop_head, no_loop, node, off, quit, selected, selector, table, turn_to, unmarked}
use Rattle.region_types.specs.TextLaws.{is_inside}
use Rattle.st_tree.specs.GraphRun.{entry_or}
use Rattle.st_tree.specs.declared.expr.Expr.{Expr}
use Rattle.st_tree.specs.declared.graph.StExit.{StExit}
use Rattle.st_tree.specs.declared.graph.StExit.TheVariants as exit
use Rattle.st_tree.specs.declared.graph.StNode.{StNode}
use Rattle.st_tree.specs.declared.program.Stmt.{Stmt}

-- What holds of the statements of nodes, and is handed on to parts of them

module _ (Q : List Stmt → Type 0) (parts : (xs ys : List Stmt) → Q (xs ++ ys) → Q xs × Q ys) where
  pub each_node : (nodes : List StNode) → Q (node_statements nodes) → (i : ℕ) (x : StNode) → slice_get nodes i ≡ Some x → Q x.steps × Q (test_of x.exit)
  each_node [] h i x e = cc
  each_node (first ∷ rest) h zero x e =
      let same : first ≡ x = cc in
      subst (λ (y : StNode). Q y.steps × Q (test_of y.exit)) same
      (parts first.steps (test_of first.exit) (parts (first.steps ++ test_of first.exit) (node_statements rest) h).0)
  each_node (first ∷ rest) h (suc i) x e =
      each_node rest (parts (first.steps ++ test_of first.exit) (node_statements rest) h).1 i x e

-- Regions

-- steps and tests are of such statements, tables of so many entries, and labels below a number; EXIT and CONTINUE are
-- inside a loop
module _ (Q : List Stmt → Type 0) (R : ℕ → Type 0) (many : ℕ) where
  abbrev pub IsMade : Bool → Region → Type 0
  IsMade within off = Unit {0}
  IsMade within leaves = within ≡ true
  IsMade within again = within ≡ true
  IsMade within ended = Unit {0}
  IsMade within (node steps rest) = Q steps × IsMade within rest
  IsMade within (fork steps e there behind join rest) =
      Q steps × Q (test_of (exit.EndIf e)) × IsMade within there × IsMade within behind × IsMade within rest
  IsMade within (quit steps e rest) = Q steps × Q (test_of (exit.EndIf e)) × IsMade within rest
  IsMade within (table steps e count arms join rest) =
      Q steps × Q (test_of (exit.Table e [] 0)) × R count × ((n : ℕ) → n ≤ count → IsMade within (arms n)) × IsMade within rest
  IsMade within (choose steps e targets nodes arms other join rest) =
      Q steps × Q (test_of (exit.Table e [] 0)) × R (length targets) × (nodes ≢ [])
      × ((j : ℕ) → is_among j nodes ≡ true → (is_among j targets ≡ true) × IsMade within (arms j)) × IsMade within other × IsMade within rest
  IsMade within (cycle body behind rest) = IsMade true body × IsMade within rest
  IsMade within (turn_to j rest) = IsMade within rest
  IsMade within (selector labels arms behind rest) =
      ((n : ℕ) → list_any (λ label. label == n) labels ≡ true → (n < many) × IsMade true (arms n)) × IsMade within rest

-- such are the nodes of a unit
pub record HasParts (Q : List Stmt → Type 0) (R : ℕ → Type 0) (nodes : List StNode) : Type 0 where
  pub parts : (i : ℕ) (x : StNode) → slice_get nodes i ≡ Some x → Q x.steps × Q (test_of x.exit)
  pub tables : (i : ℕ) (x : StNode) (e : Expr) (targets : List ℕ) (last : ℕ) → slice_get nodes i ≡ Some x → x.exit ≡ exit.Table e targets last
      → R (length targets)

arm_marked : (k : ℕ) (mark : Mark) → is_arm k mark ≡ true → mark ≡ arm_of k
arm_marked k unmarked h = cc
arm_marked k loop_head h = cc
arm_marked k (arm_of j) h = ap arm_of (eqb-true j k h)

module _ (unit : Marked) where
  in_unit : (turn : Bool) (n i : ℕ) (steps : List Stmt) (x : StExit) → at n ≡ at i → IsNode unit turn i steps x → n < length unit.nodes
  in_unit turn n i steps x e h =
      let same : i ≡ n = cc in
      subst (λ (k : ℕ). k < length unit.nodes) same (slice_get_within unit.nodes i h.node h.there)

  -- the body of a loop begins with a node
  begins : (r : Region) (n : ℕ) (follow : Place) (a : Around) → Fits unit true r (at n) follow a → n < length unit.nodes
  begins off n follow a (e, h) = cc
  begins leaves n follow a (e, h) = cc
  begins again n follow a (e, h) = cc
  begins ended n follow a (e, h) = cc
  begins (node steps rest) n follow a (i, x, q, p, h, leads, more) = in_unit true n i steps x p h
  begins (fork steps e there behind join rest) n follow a (i, j, p, h, one, two, more) = in_unit true n i steps (exit.Branch e j) p h
  begins (quit steps e rest) n follow a (i, p, h, more) = in_unit true n i steps (exit.EndIf e) p h
  begins (table steps e count arms join rest) n follow a (i, targets, last, p, h, same, each, more) = in_unit true n i steps (exit.Table e targets last) p h
  begins (choose steps e targets nodes arms other join rest) n follow a (i, last, p, h, have, each, else, more) =
      in_unit true n i steps (exit.Table e targets last) p h
  begins (cycle body behind rest) n follow a (i, e, p, mark, one, more) = cc
  begins (turn_to j rest) n follow a (k, e, p, mark, more) = cc
  begins (selector labels arms behind rest) n follow a (k, e, p, marks, each, more) = cc

  module _ (Q : List Stmt → Type 0) (R : ℕ → Type 0) (has : HasParts Q R unit.nodes) where
    node_has : (turn : Bool) (i : ℕ) (steps : List Stmt) (x : StExit) → IsNode unit turn i steps x → Q steps × Q (test_of x)
    node_has turn i steps x h =
        let own = has.parts i h.node h.there in
        (subst Q h.steps_are own.0, subst (λ (y : StExit). Q (test_of y)) h.exit_is own.1)

    table_has : (turn : Bool) (i : ℕ) (steps : List Stmt) (e : Expr) (targets : List ℕ) (last count : ℕ)
        → IsNode unit turn i steps (exit.Table e targets last) → count ≡ length targets → R count
    table_has turn i steps e targets last count h same =
        subst R (sym same) (has.tables i h.node e targets last h.there h.exit_is)

    pub parts_of : (turn : Bool) (r : Region) (p follow : Place) (a : Around) → Fits unit turn r p follow a
        → IsMade Q R (length unit.nodes) (is_inside a) r
    parts_of turn off p follow a h = tt
    parts_of turn leaves p follow no_loop h = elim h.1 [ ]
    parts_of turn leaves p follow (inside head behind) h = refl
    parts_of turn again p follow no_loop h = elim h.1 [ ]
    parts_of turn again p follow (inside head behind) h = refl
    parts_of turn ended p follow a h = tt
    parts_of turn (node steps rest) p follow a (i, x, q, e, h, leads, more) = ((node_has turn i steps x h).0, parts_of false rest q follow a more)
    parts_of turn (fork steps e there behind join rest) p follow a (i, j, q, h, one, two, more) =
        let own = node_has turn i steps (exit.Branch e j) h in
        (own.0, own.1, parts_of false there (at j) join a one, parts_of false behind (at (suc i)) join a two, parts_of false rest join follow a more)
    parts_of turn (quit steps e rest) p follow a (i, q, h, more) =
        let own = node_has turn i steps (exit.EndIf e) h in (own.0, own.1, parts_of false rest (at (suc i)) follow a more)
    parts_of turn (table steps e count arms join rest) p follow a (i, targets, last, q, h, same, each, more) =
        let own = node_has turn i steps (exit.Table e targets last) h in (
          own.0,
          own.1,
          table_has turn i steps e targets last count h same,
          (λ n l. parts_of false (arms n) (at (entry_or (slice_get targets n) last)) join a (each n l)),
          parts_of false rest join follow a more,
        )
    parts_of turn (choose steps e targets nodes arms other join rest) p follow a (i, last, q, h, have, each, else, more) =
        let own = node_has turn i steps (exit.Table e targets last) h in (
          own.0,
          own.1,
          table_has turn i steps e targets last (length targets) h refl,
          have.any,
          (λ j l. (have.some j l, parts_of false (arms j) (at j) join a (each j l))),
          parts_of false other (at last) join a else,
          parts_of false rest join follow a more,
        )
    parts_of turn (cycle body behind rest) p follow a (i, e, q, head, one, more) =
        (parts_of true body (at i) (at i) (inside (at i) behind) one, parts_of false rest behind follow a more)
    parts_of turn (turn_to j rest) p follow a (k, e, q, mark, more) = parts_of false rest (selected k) follow a more
    parts_of turn (selector labels arms behind rest) p follow a (k, e, q, marks, each, more) = (
      (λ n l.
          let one = each n (arm_marked k (unit.marks n) (sym (marks n) ∙ l)) in
          (begins (arms n) n (selected k) (inside (selected k) behind) one, parts_of true (arms n) (at n) (selected k) (inside (selected k) behind) one)),
      parts_of false rest behind follow a more,
    )
