-- Regions of small units: how their texts read, and that they fit.
use Rattle.std.proofs.Common.{◌≡◌, ◌⊎◌, inl, inr, ⊎_elim, ℕ, zero, suc, ◌==◌, ◌||◌, Bool, true, false, List, [], ◌∷◌, pos, Some, refl, sym, ap, subst}
use Rattle.std.proofs.lemmas.Bool.{eqb-true}
use Rattle.std.specs.Prelude.{slice_get}
use Rattle.memory_areas.specs.declared.place.AreaName.TheVariants as area
use Rattle.s7_base.specs.declared.register.Reg.TheVariants.{Rlo}
use Rattle.s7_base.specs.declared.word.Width.TheVariants as width
use Rattle.st_tree.specs.declared.expr.Expr.{Expr}
use Rattle.st_tree.specs.declared.expr.Expr.TheVariants as expr
use Rattle.st_tree.specs.declared.expr.StType.TheVariants as type
use Rattle.st_tree.specs.declared.expr.Var.TheVariants as var
use Rattle.st_tree.specs.declared.graph.StExit.{StExit}
use Rattle.st_tree.specs.declared.graph.StExit.TheVariants as exit
use Rattle.st_tree.specs.declared.graph.StNode.{StNode}
use Rattle.st_tree.specs.declared.program.Stmt.{Stmt}
use Rattle.st_tree.specs.declared.program.Stmt.TheVariants as stmt
use Rattle.region_laws.specs.NextLocal.{set_next}
use Rattle.region_laws.specs.Regions.{Fits, HaveArms, IsNode, Mark, Marked, MayBegin, Region, at, choose, cycle, ended, fork, is_among, leaves, loop_head, no_loop, node, off, out, quit, selected, selector, table, text_of, turn_to, unmarked}

abbrev node_of : List Stmt → StExit → StNode
node_of steps exit = record { steps = steps; exit = exit; only_end = false }

abbrev unit_of : List StNode → (ℕ → Mark) → Marked
unit_of nodes marks = record { nodes = nodes; reached = λ i. true; marks = marks }

abbrev writes : ℕ → Stmt
writes n = stmt.Assign (var.Direct area.Q 0 0 width.Byte) (expr.Literal type.Byte (pos n))

abbrev test : Expr
test = expr.Read (var.Register Rlo)

is_node : (unit : Marked) (turn : Bool) (i : ℕ) (n : StNode) → unit.reached i ≡ true → slice_get unit.nodes i ≡ Some n → MayBegin turn (unit.marks i)
    → IsNode unit turn i n.steps n.exit
is_node unit turn i n r e free = record { reached = r; node = n; there = e; steps_are = refl; exit_is = refl; free = free }

-- A branch over a node

abbrev over : Marked
over =
    unit_of (node_of [] (exit.Branch test 2) ∷ node_of (writes 1 ∷ []) exit.Fall ∷ node_of (writes 2 ∷ []) exit.End ∷ []) (λ i. unmarked)

abbrev over_region : Region
over_region = fork [] test off (node (writes 1 ∷ []) off) (at 2) (node (writes 2 ∷ []) off)

over_reads : text_of 0 over_region ≡ stmt.If (record { test = test; body = [] } ∷ []) (writes 1 ∷ []) ∷ writes 2 ∷ []
over_reads = refl

over_fits : Fits over false over_region (at 0) out no_loop
over_fits = (
  0,
  2,
  refl,
  is_node over false 0 (node_of [] (exit.Branch test 2)) refl refl refl,
  (refl, refl),
  (1, exit.Fall, at 2, refl, is_node over false 1 (node_of (writes 1 ∷ []) exit.Fall) refl refl refl, refl, (refl, refl)),
  (2, exit.End, out, refl, is_node over false 2 (node_of (writes 2 ∷ []) exit.End) refl refl refl, refl, (refl, refl)),
)

-- A loop that ends its unit

abbrev head_first : ℕ → Mark
head_first zero = loop_head
head_first (suc i) = unmarked

abbrev round : Marked
round = unit_of (node_of (writes 1 ∷ []) (exit.EndIf test) ∷ node_of [] (exit.Jump 0) ∷ []) head_first

abbrev round_region : Region
round_region = cycle (quit (writes 1 ∷ []) test (node [] off)) out off

round_reads : text_of 0 round_region
    ≡ stmt.While (expr.Literal type.Bool (pos 1)) (writes 1 ∷ stmt.If (record { test = test; body = stmt.Return ∷ [] } ∷ []) [] ∷ []) ∷ []
round_reads = refl

round_fits : Fits round false round_region (at 0) out no_loop
round_fits = (
  0,
  refl,
  refl,
  refl,
  (
    0,
    refl,
    is_node round true 0 (node_of (writes 1 ∷ []) (exit.EndIf test)) refl refl tt,
    (1, exit.Jump 0, at 0, refl, is_node round false 1 (node_of [] (exit.Jump 0)) refl refl refl, refl, (refl, refl)),
  ),
  (refl, refl),
)

-- A table, and a dispatch loop

abbrev by_number : ℕ → Region
by_number zero = node (writes 1 ∷ []) off
by_number (suc n) = ended

table_reads : text_of 0 (table [] test 1 by_number (at 2) off)
    ≡ stmt.Case test (record { labels = pos 0 ∷ []; body = writes 1 ∷ [] } ∷ []) (stmt.Return ∷ []) ∷ []
table_reads = refl

abbrev by_next : ℕ → Region
by_next zero = fork [] test (turn_to 0 off) (turn_to 1 off) (selected 0) off
by_next (suc n) = leaves

dispatch_reads : text_of 0 (turn_to 0 (selector (0 ∷ 1 ∷ []) by_next out off))
    ≡ set_next 0 0
    ∷ stmt.While (expr.Literal type.Bool (pos 1))
    (stmt.Case (expr.Read (var.Local 0))
    (record { labels = pos 0 ∷ []; body = stmt.If (record { test = test; body = set_next 0 0 ∷ [] } ∷ []) (set_next 0 1 ∷ []) ∷ [] }
    ∷ record { labels = pos 1 ∷ []; body = stmt.Exit ∷ [] } ∷ []) []
    ∷ [])
    ∷ []
dispatch_reads = refl

-- A jump list with two entries for one node, one for its label and one for the end of all arms, which has an arm with nothing

abbrev entries : List ℕ
entries = 2 ∷ 1 ∷ 3 ∷ 2 ∷ []

abbrev listed : Marked
listed =
    unit_of
    (node_of [] (exit.Table test entries 1) ∷ node_of (writes 1 ∷ []) (exit.Jump 3) ∷ node_of (writes 2 ∷ []) exit.Fall ∷ node_of [] exit.End ∷ [])
    (λ i. unmarked)

abbrev by_list : ℕ → Region
by_list (suc (suc zero)) = node (writes 2 ∷ []) off
by_list other = off

abbrev list_region : Region
list_region = choose [] test entries (2 ∷ 3 ∷ []) by_list (node (writes 1 ∷ []) off) (at 3) (node [] off)

list_reads : text_of 0 list_region
    ≡ stmt.Case test (record { labels = pos 0 ∷ pos 3 ∷ []; body = writes 2 ∷ [] } ∷ record { labels = pos 2 ∷ []; body = [] } ∷ []) (writes 1 ∷ []) ∷ []
list_reads = refl

one_of_two : (b c : Bool) → (b || (c || false)) ≡ true → (b ≡ true) ⊎ (c ≡ true)
one_of_two true c e = inl refl
one_of_two false true e = inr refl
one_of_two false false e = absurd cc

-- one of the two nodes
one_of_nodes : (j : ℕ) → is_among j (2 ∷ 3 ∷ []) ≡ true → (2 ≡ j) ⊎ (3 ≡ j)
one_of_nodes j e = ⊎_elim (λ f. inl (eqb-true 2 j f)) (λ f. inr (eqb-true 3 j f)) (one_of_two (2 == j) (3 == j) e)

have_arms : HaveArms entries 1 (2 ∷ 3 ∷ [])
have_arms = record { any = λ e. cc; some = some; all = all }
  where
    some : (j : ℕ) → is_among j (2 ∷ 3 ∷ []) ≡ true → is_among j entries ≡ true
    some j e = ⊎_elim (λ f. ap (λ j. is_among j entries) (sym f)) (λ f. ap (λ j. is_among j entries) (sym f)) (one_of_nodes j e)

    all : (j : ℕ) → is_among j entries ≡ true → (is_among j (2 ∷ 3 ∷ []) ≡ true) ⊎ (j ≡ 1)
    all j e = by (2 == j) (1 == j) (3 == j) refl e
      where
        by : (b c d : Bool) → (1 == j) ≡ c → (b || (c || (d || (b || false)))) ≡ true → ((b || (d || false)) ≡ true) ⊎ (j ≡ 1)
        by true c d q e = inl refl
        by false c true q e = inl refl
        by false true false q e = inr (sym (eqb-true 1 j q))
        by false false false q e = absurd cc

list_fits : Fits listed false list_region (at 0) out no_loop
list_fits = (
  0,
  1,
  refl,
  is_node listed false 0 (node_of [] (exit.Table test entries 1)) refl refl refl,
  have_arms,
  arm,
  (1, exit.Jump 3, at 3, refl, is_node listed false 1 (node_of (writes 1 ∷ []) (exit.Jump 3)) refl refl refl, refl, (refl, refl)),
  (3, exit.End, out, refl, is_node listed false 3 (node_of [] exit.End) refl refl refl, refl, (refl, refl)),
)
  where
    arm : (j : ℕ) → is_among j (2 ∷ 3 ∷ []) ≡ true → Fits listed false (by_list j) (at j) (at 3) no_loop
    arm j e = ⊎_elim
        (λ f. subst (λ j. Fits listed false (by_list j) (at j) (at 3) no_loop) f
        (2, exit.Fall, at 3, refl, is_node listed false 2 (node_of (writes 2 ∷ []) exit.Fall) refl refl refl, refl, (refl, refl)))
        (λ f. subst (λ j. Fits listed false (by_list j) (at j) (at 3) no_loop) f (refl, refl)) (one_of_nodes j e)
