-- How statements take the place of the jumps of a unit. A region is what a list of statements stands for, from one
-- place of the unit on: the nodes whose steps it holds, and where it leads.
-- Held against: this project's own segments.
use Rattle.std.specs.Prelude.{◌≡◌, ◌≢◌, ◌⊎◌, ℕ, zero, suc, ◌≤◌, ◌<◌, ◌==◌, ℤ, pos, if◌then◌else◌, Bool, true, false, List, [], ◌∷◌, ◌++◌, length, slice_get, Some}
use Rattle.std.specs.List.{list_any}
use Rattle.st_tree.specs.GraphRun.{entry_or}
use Rattle.st_tree.specs.declared.expr.Expr.{Expr}
use Rattle.st_tree.specs.declared.expr.Expr.TheVariants as expr
use Rattle.st_tree.specs.declared.expr.StType.TheVariants as type
use Rattle.st_tree.specs.declared.expr.Var.TheVariants as var
use Rattle.st_tree.specs.declared.graph.StExit.{StExit}
use Rattle.st_tree.specs.declared.graph.StExit.TheVariants as exit
use Rattle.st_tree.specs.declared.graph.StNode.{StNode}
use Rattle.st_tree.specs.declared.program.CaseArm.{CaseArm}
use Rattle.st_tree.specs.declared.program.Stmt.{Stmt}
use Rattle.st_tree.specs.declared.program.Stmt.TheVariants as stmt
use Rattle.region_laws.specs.NextLocal.{arm_with_label, set_next}

-- Places

-- what a node is besides: nothing; the head of a loop; or a node of the dispatch loop of a number. At the last two a
-- unit of work is taken, and before it `NEXT` takes the position of a node of a dispatch loop
pub data Mark : Type 0 where
  unmarked : Mark
  loop_head : Mark
  arm_of : ℕ → Mark

-- an arrival at a node takes a unit of work
abbrev pub takes_unit : Mark → Bool
takes_unit unmarked = false
takes_unit loop_head = true
takes_unit (arm_of k) = true

-- a node is one of the dispatch loop of a number
abbrev pub is_arm : ℕ → Mark → Bool
is_arm k unmarked = false
is_arm k loop_head = false
is_arm k (arm_of j) = j == k

-- where statements lead: to the node at a position; to the end of the unit; or to the node of a dispatch loop whose
-- position `NEXT` has
pub data Place : Type 0 where
  at : ℕ → Place
  out : Place
  selected : ℕ → Place

-- the innermost loop around statements, if there is one: where its turns begin, and the place behind it
pub data Around : Type 0 where
  no_loop : Around
  inside : Place → Place → Around

-- Regions

-- a region: nothing; EXIT, CONTINUE or RETURN; a node that leads to one place; a node that branches, with a region each
-- way and the place where both fall off; a node that ends the unit or goes on; a node with a table of so many entries,
-- with a region for each and for all else; a node with a table of these entries, with a region for each of some nodes
-- to which they lead, and for all else; a loop, with its body and the place behind it; `NEXT` set to a node; or a
-- dispatch loop over the nodes at some positions. What is not an end has the region behind it last
pub data Region : Type 0 where
  off : Region
  leaves : Region
  again : Region
  ended : Region
  node : List Stmt → Region → Region
  fork : List Stmt → Expr → Region → Region → Place → Region → Region
  quit : List Stmt → Expr → Region → Region
  table : List Stmt → Expr → ℕ → (ℕ → Region) → Place → Region → Region
  choose : List Stmt → Expr → List ℕ → List ℕ → (ℕ → Region) → Region → Place → Region → Region
  cycle : Region → Place → Region → Region
  turn_to : ℕ → Region → Region
  selector : List ℕ → (ℕ → Region) → Place → Region → Region

-- Statements

-- some statements where a test is TRUE, and others where it is not
abbrev pub choice : Expr → List Stmt → List Stmt → Stmt
choice e there behind = stmt.If (record { test = e; body = there } ∷ []) behind

-- a loop that only EXIT and RETURN leave
abbrev pub forever : List Stmt → Stmt
forever body = stmt.While (expr.Literal type.Bool (pos 1)) body

-- so many labels, from one on
abbrev pub labels_from : ℕ → ℕ → List ℕ
labels_from label zero = []
labels_from label (suc n) = label ∷ labels_from (suc label) n

-- an arm of a CASE for each of some labels
abbrev pub arms_with_labels : (ℕ → List Stmt) → List ℕ → List CaseArm
arms_with_labels bodies [] = []
arms_with_labels bodies (label ∷ labels) = arm_with_label label (bodies label) ∷ arms_with_labels bodies labels

-- the positions of the entries of a table that lead to a node, where they are counted from a number on
abbrev pub positions_of : ℕ → ℕ → List ℕ → List ℤ
positions_of j label [] = []
positions_of j label (t ∷ targets) =
    if t == j then pos label ∷ positions_of j (suc label) targets else positions_of j (suc label) targets

-- an arm of a CASE for each of some nodes, with the positions of the entries that lead to it as labels
abbrev pub arms_of_nodes : List ℕ → (ℕ → List Stmt) → List ℕ → List CaseArm
arms_of_nodes targets bodies [] = []
arms_of_nodes targets bodies (j ∷ nodes) =
    record { labels = positions_of j 0 targets; body = bodies j } ∷ arms_of_nodes targets bodies nodes

-- the statements of a region, where `NEXT` is the local at a position
abbrev pub text_of : ℕ → Region → List Stmt
text_of next off = []
text_of next leaves = stmt.Exit ∷ []
text_of next again = stmt.Continue ∷ []
text_of next ended = stmt.Return ∷ []
text_of next (node steps rest) = steps ++ text_of next rest
text_of next (fork steps e there behind join rest) =
    steps ++ choice e (text_of next there) (text_of next behind) ∷ text_of next rest
text_of next (quit steps e rest) = steps ++ choice e (stmt.Return ∷ []) [] ∷ text_of next rest
text_of next (table steps e count arms join rest) =
    steps
    ++ stmt.Case e (arms_with_labels (λ n. text_of next (arms n)) (labels_from 0 count)) (text_of next (arms count))
    ∷ text_of next rest
text_of next (choose steps e targets nodes arms other join rest) =
    steps
    ++ stmt.Case e (arms_of_nodes targets (λ j. text_of next (arms j)) nodes) (text_of next other)
    ∷ text_of next rest
text_of next (cycle body behind rest) = forever (text_of next body) ∷ text_of next rest
text_of next (turn_to j rest) = set_next next j ∷ text_of next rest
text_of next (selector labels arms behind rest) =
    forever (stmt.Case (expr.Read (var.Local next)) (arms_with_labels (λ n. text_of next (arms n)) labels) [] ∷ [])
    ∷ text_of next rest

-- Which regions fit

-- the exit of the node at a position leads to one place
abbrev pub LeadsTo : ℕ → StExit → Place → Type 0
LeadsTo i exit.Fall p = p ≡ at (suc i)
LeadsTo i (exit.Jump j) p = p ≡ at j
LeadsTo i (exit.Branch e j) p = ⊥
LeadsTo i (exit.EndIf e) p = ⊥
LeadsTo i (exit.Table e targets last) p = ⊥
LeadsTo i exit.End p = p ≡ out

-- statements begin with a node; where they are the body of a loop, the unit of work of its turn is taken, and the node
-- may have any mark
abbrev pub MayBegin : Bool → Mark → Type 0
MayBegin true mark = Unit {0}
MayBegin false mark = mark ≡ unmarked

-- EXIT leads to a place
abbrev pub Leaves : Around → Place → Type 0
Leaves no_loop p = ⊥
Leaves (inside head behind) p = p ≡ behind

-- CONTINUE leads to a place
abbrev pub Repeats : Around → Place → Type 0
Repeats no_loop p = ⊥
Repeats (inside head behind) p = p ≡ head

-- the nodes of a unit, those that are reached, and what each is besides
pub record Marked : Type 0 where
  pub nodes : List StNode
  pub reached : ℕ → Bool
  pub marks : ℕ → Mark

-- a node that is reached has these steps and this exit
pub record IsNode (unit : Marked) (turn : Bool) (i : ℕ) (steps : List Stmt) (x : StExit) : Type 0 where
  pub reached : unit.reached i ≡ true
  pub node : StNode
  pub there : slice_get unit.nodes i ≡ Some node
  pub steps_are : node.steps ≡ steps
  pub exit_is : node.exit ≡ x
  pub free : MayBegin turn (unit.marks i)

-- a number is among some
abbrev pub is_among : ℕ → List ℕ → Bool
is_among j numbers = list_any (λ n. n == j) numbers

-- nodes have arms in place of a table: there are some, entries lead to each of them, and each entry leads to one of
-- them or to the last node
pub record HaveArms (targets : List ℕ) (last : ℕ) (nodes : List ℕ) : Type 0 where
  pub any : nodes ≢ []
  pub some : (j : ℕ) → is_among j nodes ≡ true → is_among j targets ≡ true
  pub all : (j : ℕ) → is_among j targets ≡ true → (is_among j nodes ≡ true) ⊎ (j ≡ last)

-- a region is right from a place on, leads to another place when it falls off its end, and stands inside a loop or in
-- none; it is the body of a loop that begins at its place, or not
abbrev pub Fits : Marked → Bool → Region → Place → Place → Around → Type 0
Fits unit turn off p follow a = (turn ≡ false) × (p ≡ follow)
Fits unit turn leaves p follow a = (turn ≡ false) × Leaves a p
Fits unit turn again p follow a = (turn ≡ false) × Repeats a p
Fits unit turn ended p follow a = (turn ≡ false) × (p ≡ out)
Fits unit turn (node steps rest) p follow a =
    (i : ℕ) × (x : StExit) × (q : Place) × (p ≡ at i) × IsNode unit turn i steps x × LeadsTo i x q
    × Fits unit false rest q follow a
Fits unit turn (fork steps e there behind join rest) p follow a =
    (i : ℕ) × (j : ℕ) × (p ≡ at i) × IsNode unit turn i steps (exit.Branch e j)
    × Fits unit false there (at j) join a × Fits unit false behind (at (suc i)) join a
    × Fits unit false rest join follow a
Fits unit turn (quit steps e rest) p follow a =
    (i : ℕ) × (p ≡ at i) × IsNode unit turn i steps (exit.EndIf e) × Fits unit false rest (at (suc i)) follow a
Fits unit turn (table steps e count arms join rest) p follow a =
    (i : ℕ) × (targets : List ℕ) × (last : ℕ) × (p ≡ at i) × IsNode unit turn i steps (exit.Table e targets last)
    × (count ≡ length targets)
    × ((n : ℕ) → n ≤ count → Fits unit false (arms n) (at (entry_or (slice_get targets n) last)) join a)
    × Fits unit false rest join follow a
Fits unit turn (choose steps e targets nodes arms other join rest) p follow a =
    (i : ℕ) × (last : ℕ) × (p ≡ at i) × IsNode unit turn i steps (exit.Table e targets last)
    × HaveArms targets last nodes
    × ((j : ℕ) → is_among j nodes ≡ true → Fits unit false (arms j) (at j) join a)
    × Fits unit false other (at last) join a × Fits unit false rest join follow a
Fits unit turn (cycle body behind rest) p follow a =
    (h : ℕ) × (turn ≡ false) × (p ≡ at h) × (unit.marks h ≡ loop_head)
    × Fits unit true body (at h) (at h) (inside (at h) behind) × Fits unit false rest behind follow a
Fits unit turn (turn_to j rest) p follow a =
    (k : ℕ) × (turn ≡ false) × (p ≡ at j) × (unit.marks j ≡ arm_of k) × Fits unit false rest (selected k) follow a
Fits unit turn (selector labels arms behind rest) p follow a =
    (k : ℕ) × (turn ≡ false) × (p ≡ selected k)
    × ((n : ℕ) → list_any (λ label. label == n) labels ≡ is_arm k (unit.marks n))
    × ((n : ℕ) → unit.marks n ≡ arm_of k → Fits unit true (arms n) (at n) (selected k) (inside (selected k) behind))
    × Fits unit false rest behind follow a

-- Where exits lead

-- a node that is reached, and that lies behind another unless an arrival at it takes a unit of work
pub record IsOnward (unit : Marked) (i j : ℕ) : Type 0 where
  pub reached : unit.reached j ≡ true
  pub behind : takes_unit (unit.marks j) ≡ false → i < j

-- the exit of the node at a position leads to such nodes alone
abbrev pub LeadsOnward : Marked → ℕ → StExit → Type 0
LeadsOnward unit i exit.Fall = IsOnward unit i (suc i)
LeadsOnward unit i (exit.Jump j) = IsOnward unit i j
LeadsOnward unit i (exit.Branch e j) = IsOnward unit i j × IsOnward unit i (suc i)
LeadsOnward unit i (exit.EndIf e) = IsOnward unit i (suc i)
LeadsOnward unit i (exit.Table e targets last) = (n : ℕ) → IsOnward unit i (entry_or (slice_get targets n) last)
LeadsOnward unit i exit.End = Unit {0}
