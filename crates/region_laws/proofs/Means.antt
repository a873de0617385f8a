-- The statements of a region that fits do what the nodes of its unit do, for each number of units of work: an equation.
use Rattle.std.proofs.Common.{◌≡◌, ◌⊎◌, ℕ, zero, suc, ◌+◌, ◌≤◌, ◌<◌, ◌==◌, inl, inr, ⊎_elim, ℤ, pos, negsuc, Bool, true, false, if◌then◌else◌, List, [], ◌∷◌, ◌++◌, length, map, Option, Some, None, Result, Ok, Err, refl, sym, ap, ◌∙◌, subst, arith}
use Rattle.std.specs.Prelude.{slice_get}
use Rattle.std.proofs.lemmas.Bool.{eqb-true}
use Rattle.std.proofs.lemmas.Option.{slice_get_past}
use Rattle.memory_areas.specs.Access.{and_then}
use Rattle.s7_base.specs.declared.outcome.Fault.{Fault}
use Rattle.st_tree.specs.Calls.{after_unit}
use Rattle.st_tree.specs.GraphRun as run
use Rattle.st_tree.specs.GraphRun.{Way, chosen_node, entry_or, for_one_unit, way_of}
use Rattle.st_tree.specs.Meaning.{Calls, Continues, Exits, Faults, Guarded, NoUnits, Normal, Out, Returns, Sem, after_body, body_meaning, case_meaning, first_true, first_with, meaning, state_or_fault, then_do, with_value}
use Rattle.st_tree.specs.StRun.{end_seen}
use Rattle.st_tree.specs.State.{State, write}
use Rattle.st_tree.specs.Value.{value}
use Rattle.st_tree.specs.Values.{is_set}
use Rattle.st_tree.specs.declared.expr.Expr.{Expr}
use Rattle.st_tree.specs.declared.expr.Expr.TheVariants as expr
use Rattle.st_tree.specs.declared.expr.Var.{Var}
use Rattle.st_tree.specs.declared.expr.Var.TheVariants as var
use Rattle.st_tree.specs.declared.graph.StExit.{StExit}
use Rattle.st_tree.specs.declared.graph.StExit.TheVariants as exit
use Rattle.st_tree.specs.declared.graph.StNode.{StNode}
use Rattle.st_tree.specs.declared.program.Located.{Located}
use Rattle.st_tree.specs.declared.program.Stmt.{Stmt}
use Rattle.st_tree.specs.declared.program.Stmt.TheVariants as stmt
use Rattle.st_tree.specs.declared.state.Value.{Value}
use Rattle.st_tree.proofs.Equations.{meaning_arm, meaning_case, meaning_continue, meaning_exit, meaning_if, meaning_return}
use Rattle.st_tree.proofs.TwoParts.{in_parts}
use Rattle.graph_rules.specs.Plain.{AreSteps}
use Rattle.region_laws.specs.NextLocal.{set_next}
use Rattle.region_laws.specs.Regions.{Around, Fits, IsNode, LeadsTo, Mark, Marked, MayBegin, Place, Region, HaveArms, again, arm_of, arms_of_nodes, at, choice, choose, cycle, ended, forever, fork, inside, is_among, is_arm, arms_with_labels, labels_from, leaves, loop_head, no_loop, node, off, out, quit, selected, selector, table, text_of, turn_to, unmarked}
use Rattle.region_laws.proofs.Left.{CallsLeave, Left, statements_left}
use Rattle.region_laws.proofs.NodeArms.{by_entry, entry_among, no_entry, no_number}
use Rattle.region_laws.proofs.Statements.{at_node, forever_does, forever_turn, forever_turns, is_label, labelled_does, no_label, one_statement, or_rest, or_true, paid_same, set_does, set_read, setting}
use Rattle.region_laws.proofs.Straight.{IsStraight, steps_straight}

-- What nodes do, where an arrival takes a unit of work by the mark of a node

module _ (g : List Located) (next : ℕ) where
  -- an arrival at a node, which does this
  abbrev pub reach : Mark → ℕ → Sem → Sem
  reach unmarked j more u s = more u s
  reach loop_head j more u s = for_one_unit more u s
  reach (arm_of k) j more u s = then_do (setting g next j u s) (for_one_unit more)

-- by where an exit leads
abbrev pub on_way : (ℕ → Sem) → Result Way Fault → Sem
on_way ways (Ok (run.to j)) u s = ways j u s
on_way ways (Ok run.out) u s = Normal u s
on_way ways (Err f) u s = Faults f s

module _ (g : List Located) (calls : Calls) (next : ℕ) (marks : ℕ → Mark) (go : ℕ → Sem) where
  -- the ways to nodes
  abbrev pub ways_by : ℕ → Sem
  ways_by j = reach g next (marks j) j (go j)

  abbrev pub exit_by : ℕ → StExit → Sem
  exit_by i x u s = on_way ways_by (way_of g i x s) u s

  abbrev pub node_step : ℕ → Option StNode → Sem
  node_step i None u s = NoUnits s
  node_step i (Some n) u s = then_do (body_meaning g calls n.steps u s) (exit_by i n.exit)

-- one of two by a value, or its fault
abbrev chosen : Result Value Fault → Sem → Sem → Sem
chosen (Ok v) f h u s = if is_set v then f u s else h u s
chosen (Err x) f h u s = Faults x s

abbrev if_arm : Bool → Sem → Sem
if_arm true more u s = more u s
if_arm false more u s = NoUnits s

spent : (u : ℕ) (s : State) → for_one_unit (λ u s. NoUnits s) u s ≡ NoUnits s
spent zero s = refl
spent (suc u) s = refl

pub arm_or_not : (k : ℕ) (m : Mark) → (m ≡ arm_of k) ⊎ (is_arm k m ≡ false)
arm_or_not k unmarked = inr refl
arm_or_not k loop_head = inr refl
arm_or_not k (arm_of j) = by (j == k) refl
  where
    by : (b : Bool) → (j == k) ≡ b → (arm_of j ≡ arm_of k) ⊎ ((j == k) ≡ false)
    by true e = inl (ap (λ (j : ℕ). arm_of j) (eqb-true j k e))
    by false e = inr e

pub same_arm : (k : ℕ) → is_arm k (arm_of k) ≡ true
same_arm k = grind arith

-- Labels of a table

label_low : (l n k : ℕ) → is_label k (labels_from l n) ≡ true → k < l + n
label_low l zero k e = cc
label_low l (suc n) k e = by (l == k) refl (label_low (suc l) n k)
  where
    by : (b : Bool) → (l == k) ≡ b → (is_label k (labels_from (suc l) n) ≡ true → k < suc l + n) → k < l + suc n
    by true q more = let same : l ≡ k = eqb-true l k q in omega arith
    by false q more =
        let less : k < suc l + n = more (sym (or_rest (l == k) (is_label k (labels_from (suc l) n)) q) ∙ e) in omega arith

label_high : (l n k : ℕ) → is_label k (labels_from l n) ≡ false → l ≤ k → l + n ≤ k
label_high l zero k e h = omega arith
label_high l (suc n) k e h = by (l == k) refl (label_high (suc l) n k)
  where
    by : (b : Bool) → (l == k) ≡ b → (is_label k (labels_from (suc l) n) ≡ false → suc l ≤ k → suc l + n ≤ k) → l + suc n ≤ k
    by true q more = let set = or_true (l == k) (is_label k (labels_from (suc l) n)) q in cc
    by false q more =
        let less : suc l ≤ k = grind (arith, h, q) in
        let high : suc l + n ≤ k = more (sym (or_rest (l == k) (is_label k (labels_from (suc l) n)) q) ∙ e) less in omega arith

-- The equation

module _ (g : List Located) (calls : Calls) (fewer : CallsLeave calls)
    (straight : (n : ℕ) (vars : List Var) (u : ℕ) (s : State) → IsStraight (calls n vars u s))
    (next : ℕ) (unit : Marked) (plain : (i : ℕ) (n : StNode) → slice_get unit.nodes i ≡ Some n → AreSteps n.steps) (go : ℕ → Sem)
    (begins : (i u : ℕ) (s : State) → unit.reached i ≡ true → go i u s ≡ node_step g calls next unit.marks go i (slice_get unit.nodes i) u s)
  where
    abbrev does : List Stmt → Sem
    does xs = body_meaning g calls xs

    abbrev ways : ℕ → Sem
    ways j = ways_by g calls next unit.marks go j

    abbrev exits : ℕ → StExit → Sem
    exits i x = exit_by g calls next unit.marks go i x

    -- the node whose position NEXT has, if it is one of those of the loop; text and nodes never end where it is not
    abbrev picked : ℕ → ℤ → Sem
    picked k (pos n) u s = if_arm (is_arm k (unit.marks n)) (go n) u s
    picked k (negsuc n) u s = NoUnits s

    abbrev picked_up : ℕ → Sem
    picked_up k u s = with_value (value g (expr.Read (var.Local next)) s) u s (λ v. picked k v.n u s)

    abbrev pub arrive : Place → Sem
    arrive (at j) u s = ways j u s
    arrive out u s = Normal u s
    arrive (selected k) u s = for_one_unit (picked_up k) u s

    abbrev pub begin : Bool → Place → Sem
    begin false p u s = arrive p u s
    begin true (at j) u s = go j u s
    begin true out u s = Normal u s
    begin true (selected k) u s = picked_up k u s

    abbrev behind_loop : Around → Sem
    behind_loop no_loop u s = Normal u s
    behind_loop (inside h p) u s = arrive p u s

    abbrev at_head : Around → Sem
    at_head no_loop u s = Normal u s
    at_head (inside h p) u s = arrive h u s

    -- what the nodes do behind an end of statements
    abbrev pub land : Sem → Around → Out → Out
    land k a (Normal u s) = k u s
    land k a (Exits u s) = behind_loop a u s
    land k a (Continues u s) = at_head a u s
    land k a (Returns u s) = Normal u s
    land k a (Faults f s) = Faults f s
    land k a (NoUnits s) = NoUnits s

    then_land : (k m : Sem) (a : Around) (more : Sem) → ((u : ℕ) (s : State) → land k a (more u s) ≡ m u s) → (o : Out)
        → land k a (then_do o more) ≡ land m a o
    then_land k m a more h (Normal u s) = h u s
    then_land k m a more h o = refl

    steps_land : (k m : Sem) (a : Around) (more : Sem) → ((u : ℕ) (s : State) → land k a (more u s) ≡ m u s) → (o : Out) → IsStraight o
        → land k a (then_do o more) ≡ then_do o m
    steps_land k m a more h (Normal u s) z = h u s
    steps_land k m a more h (Faults f s) z = refl
    steps_land k m a more h (NoUnits s) z = refl
    steps_land k m a more h o z = elim z [ ]

    -- Choices

    choice_does : (e : Expr) (xs ys : List Stmt) (u : ℕ) (s : State) → meaning g calls (choice e xs ys) u s ≡ chosen (value g e s) (does xs) (does ys) u s
    choice_does e xs ys u s =
        meaning_if g calls u s (record { test = e; body = xs } ∷ []) ys
        ∙ ap (λ (x : Guarded). first_true (x ∷ []) (does ys) u s) (meaning_arm g calls (record { test = e; body = xs }))
        ∙ by (value g e s)
      where
        by : (r : Result Value Fault) → with_value r u s (λ v. if is_set v then does xs u s else does ys u s) ≡ chosen r (does xs) (does ys) u s
        by (Ok v) = refl
        by (Err f) = refl

    chosen_land : (k : Sem) (a : Around) (f h : Sem) (v w : Way) (u : ℕ) (s : State) → land k a (f u s) ≡ on_way ways (Ok v) u s
        → land k a (h u s) ≡ on_way ways (Ok w) u s → (r : Result Value Fault)
        → land k a (chosen r f h u s) ≡ on_way ways (and_then r (λ x. Ok (if is_set x then v else w))) u s
    chosen_land k a f h v w u s e d (Err x) = refl
    chosen_land k a f h v w u s e d (Ok x) = by (is_set x)
      where
        by : (b : Bool) → land k a (if b then f u s else h u s) ≡ on_way ways (Ok (if b then v else w)) u s
        by true = e
        by false = d

    -- Places

    leads_same : (i : ℕ) (x : StExit) (q : Place) → LeadsTo i x q → (u : ℕ) (s : State) → arrive q u s ≡ exits i x u s
    leads_same i exit.Fall q e u s = ap (λ (q : Place). arrive q u s) e
    leads_same i (exit.Jump j) q e u s = ap (λ (q : Place). arrive q u s) e
    leads_same i (exit.Branch x j) q e u s = elim e [ ]
    leads_same i (exit.EndIf x) q e u s = elim e [ ]
    leads_same i (exit.Table x targets last) q e u s = elim e [ ]
    leads_same i exit.End q e u s = ap (λ (q : Place). arrive q u s) e

    begin_same : (turn : Bool) (i : ℕ) → MayBegin turn (unit.marks i) → (u : ℕ) (s : State) → go i u s ≡ begin turn (at i) u s
    begin_same true i e u s = refl
    begin_same false i e u s = ap (λ (m : Mark). reach g next m i (go i) u s) (sym e)

    -- a node that is there, from its place on
    node_same : (turn : Bool) (i : ℕ) (p : Place) (steps : List Stmt) (x : StExit) → p ≡ at i → IsNode unit turn i steps x → (u : ℕ) (s : State)
        → then_do (does steps u s) (exits i x) ≡ begin turn p u s
    node_same turn i p steps x e is u s =
        ap (λ (xs : List Stmt). then_do (does xs u s) (exits i x)) (sym is.steps_are)
        ∙ ap (λ (y : StExit). then_do (does is.node.steps u s) (exits i y)) (sym is.exit_is)
        ∙ sym (begins i u s is.reached ∙ ap (λ (o : Option StNode). node_step g calls next unit.marks go i o u s) is.there)
        ∙ begin_same turn i is.free u s
        ∙ ap (λ (p : Place). begin turn p u s) (sym e)

    not_begun : (turn : Bool) (p q : Place) → turn ≡ false → p ≡ q → (u : ℕ) (s : State) → arrive q u s ≡ begin turn p u s
    not_begun turn p q e f u s = ap (λ (q : Place). arrive q u s) (sym f) ∙ ap (λ (b : Bool). begin b p u s) (sym e)

    loop_head_takes : (h : ℕ) → unit.marks h ≡ loop_head → (u : ℕ) (s : State) → arrive (at h) u s ≡ for_one_unit (begin true (at h)) u s
    loop_head_takes h e u s = ap (λ (m : Mark). reach g next m h (go h) u s) e

    -- Loops

    module _ (body : List Stmt) (h : Place)
        (head : (u : ℕ) (s : State) → arrive h u s ≡ for_one_unit (begin true h) u s) (behind : Place)
        (same : (u : ℕ) (s : State) → land (arrive h) (inside h behind) (does body u s) ≡ begin true h u s) (a : Around)
      where
        turn_land : (most u : ℕ)
            → ((v : ℕ) → v ≤ u → (s : State) → land (arrive behind) a (forever_turns g calls body most v s) ≡ for_one_unit (begin true h) v s)
            → (o : Out) → Left u o → land (arrive behind) a (after_body o (forever_turns g calls body most)) ≡ land (arrive h) (inside h behind) o
        turn_land most u more (Normal v s) l = more v l s ∙ sym (head v s)
        turn_land most u more (Continues v s) l = more v l s ∙ sym (head v s)
        turn_land most u more o l = refl

        turns_land : (most u : ℕ) → u ≤ most → (s : State)
            → land (arrive behind) a (forever_turns g calls body most u s) ≡ for_one_unit (begin true h) u s
        turns_land zero zero l s = refl
        turns_land zero (suc u) l s = absurd (omega arith)
        turns_land (suc most) zero l s = refl
        turns_land (suc most) (suc u) l s =
            ap (land (arrive behind) a) (forever_turn g calls body most u s)
            ∙ turn_land most u (λ v z t. turns_land most v (omega arith) t) (does body u s) (statements_left g calls fewer body u s)
            ∙ same u s

        forever_land : (u : ℕ) (s : State) → land (arrive behind) a (meaning g calls (forever body) u s) ≡ for_one_unit (begin true h) u s
        forever_land u s = ap (land (arrive behind) a) (forever_does g calls body u s) ∙ turns_land u u (omega arith) s

    -- NEXT set to a node of a dispatch loop
    turned_to : (j k : ℕ) → unit.marks j ≡ arm_of k → (u : ℕ) (s : State) → then_do (setting g next j u s) (arrive (selected k)) ≡ arrive (at j) u s
    turned_to j k e u s =
        set_read g next j u s (arrive (selected k)) (for_one_unit (go j)) (λ t worth.
        paid_same (picked_up k) (go j) u t (λ v q.
        ap (λ (r : Result Value Fault). with_value r v t (λ w. picked k w.n v t)) worth
        ∙ ap (λ (b : Bool). if_arm b (go j) v t) (ap (is_arm k) e ∙ same_arm k)))
        ∙ sym (ap (λ (m : Mark). reach g next m j (go j) u s) e)

    setting_land : (k : Sem) (a : Around) (r : Result State Fault) (u : ℕ) (s : State) → land k a (state_or_fault r u s) ≡ then_do (state_or_fault r u s) k
    setting_land k a (Ok new) u s = refl
    setting_land k a (Err f) u s = refl

    -- Tables

    module _ (k : Sem) (a : Around) (bodies : ℕ → List Stmt) (count : ℕ) (targets : List ℕ) (last : ℕ) (many : count ≡ length targets) (u : ℕ) (s : State)
        (h : (n : ℕ) → n ≤ count → land k a (does (bodies n) u s) ≡ ways (entry_or (slice_get targets n) last) u s)
      where
        abbrev table_does : ℤ → Out
        table_does z = first_with z (map (case_meaning g calls) (arms_with_labels bodies (labels_from 0 count))) (does (bodies count)) u s

        none_at : (n : ℕ) → count ≤ n → entry_or (slice_get targets n) last ≡ last
        none_at n l = ap (λ (o : Option ℕ). entry_or o last) (slice_get_past targets n (omega arith))

        other_land : land k a (does (bodies count) u s) ≡ ways last u s
        other_land = h count (omega arith) ∙ ap (λ (j : ℕ). ways j u s) (none_at count (omega arith))

        by_number : (z : ℤ) → land k a (table_does z) ≡ ways (chosen_node z targets last) u s
        by_number (negsuc m) = ap (land k a) (no_label g calls m bodies (labels_from 0 count) (does (bodies count)) u s) ∙ other_land
        by_number (pos n) =
            ap (land k a) (labelled_does g calls n bodies (labels_from 0 count) (does (bodies count)) u s)
            ∙ by (is_label n (labels_from 0 count)) refl
          where
            by : (b : Bool) → is_label n (labels_from 0 count) ≡ b
                → land k a (if b then does (bodies n) u s else does (bodies count) u s) ≡ ways (entry_or (slice_get targets n) last) u s
            by true q = let low : n < 0 + count = label_low 0 count n q in h n (omega arith)
            by false q =
                let high : 0 + count ≤ n = label_high 0 count n q (omega arith) in
                other_land ∙ ap (λ (j : ℕ). ways j u s) (sym (none_at n (omega arith)))

        table_land : (r : Result Value Fault)
            → land k a (with_value r u s (λ w. table_does w.n)) ≡ on_way ways (and_then r (λ w. Ok (run.to (chosen_node w.n targets last)))) u s
        table_land (Ok w) = by_number w.n
        table_land (Err f) = refl

    module _ (k : Sem) (a : Around) (targets nodes : List ℕ) (last : ℕ) (have : HaveArms targets last nodes) (bodies : ℕ → List Stmt)
        (other : List Stmt) (u : ℕ) (s : State) (h : (j : ℕ) → is_among j nodes ≡ true → land k a (does (bodies j) u s) ≡ ways j u s)
        (l : land k a (does other u s) ≡ ways last u s)
      where
        abbrev list_does : ℤ → Out
        list_does z = first_with z (map (case_meaning g calls) (arms_of_nodes targets bodies nodes)) (does other) u s

        entry_land : (t : ℕ) → is_among t targets ≡ true → land k a (if is_among t nodes then does (bodies t) u s else does other u s) ≡ ways t u s
        entry_land t e = by (is_among t nodes) refl
          where
            by : (b : Bool) → is_among t nodes ≡ b → land k a (if b then does (bodies t) u s else does other u s) ≡ ways t u s
            by true q = h t q
            by false q = l ∙ ap (λ (j : ℕ). ways j u s) (sym (⊎_elim (λ f. absurd cc) (λ f. f) (have.all t e)))

        list_number : (z : ℤ) → land k a (list_does z) ≡ ways (chosen_node z targets last) u s
        list_number (negsuc m) = ap (land k a) (no_number g calls targets bodies (does other) u s m nodes) ∙ l
        list_number (pos n) = by (slice_get targets n) refl
          where
            by : (o : Option ℕ) → slice_get targets n ≡ o → land k a (list_does (pos n)) ≡ ways (entry_or (slice_get targets n) last) u s
            by None q =
                ap (land k a) (no_entry g calls targets bodies (does other) u s n q nodes) ∙ l
                ∙ ap (λ (o : Option ℕ). ways (entry_or o last) u s) (sym q)
            by (Some t) q =
                ap (land k a) (by_entry g calls targets bodies (does other) u s n t q nodes) ∙ entry_land t (entry_among targets n t q)
                ∙ ap (λ (o : Option ℕ). ways (entry_or o last) u s) (sym q)

        list_land : (r : Result Value Fault)
            → land k a (with_value r u s (λ w. list_does w.n)) ≡ on_way ways (and_then r (λ w. Ok (run.to (chosen_node w.n targets last)))) u s
        list_land (Ok w) = list_number w.n
        list_land (Err f) = refl

    -- Dispatch loops

    module _ (bodies : ℕ → List Stmt) (labels : List ℕ) (k : ℕ) (behind : Place)
        (listed : (n : ℕ) → is_label n labels ≡ is_arm k (unit.marks n))
        (there : (n : ℕ) → unit.marks n ≡ arm_of k → (u : ℕ) (s : State)
        → land (arrive (selected k)) (inside (selected k) behind) (does (bodies n) u s) ≡ go n u s)
      where
        abbrev turned : Out → Out
        turned o = land (arrive (selected k)) (inside (selected k) behind) o

        -- where NEXT has the position of no such node, neither ever ends
        never : (u : ℕ) (s : State) (v : Value) → value g (expr.Read (var.Local next)) s ≡ Ok v → ((w : ℕ) → picked k v.n w s ≡ NoUnits s)
            → arrive (selected k) u s ≡ NoUnits s
        never u s v q e =
            paid_same (picked_up k) (λ u s. NoUnits s) u s (λ w z. ap (λ (r : Result Value Fault). with_value r w s (λ x. picked k x.n w s)) q ∙ e w)
            ∙ spent u s

        label_land : (n u : ℕ) (s : State) (v : Value) → value g (expr.Read (var.Local next)) s ≡ Ok v → v.n ≡ pos n
            → (marked : (unit.marks n ≡ arm_of k) ⊎ (is_arm k (unit.marks n) ≡ false))
            → turned (if is_label n labels then does (bodies n) u s else Normal u s) ≡ picked k (pos n) u s
        label_land n u s v q z (inl e) =
            let set : is_arm k (unit.marks n) ≡ true = ap (is_arm k) e ∙ same_arm k in
            ap (λ (b : Bool). turned (if b then does (bodies n) u s else Normal u s)) (listed n ∙ set)
            ∙ there n e u s
            ∙ sym (ap (λ (b : Bool). if_arm b (go n) u s) set)
        label_land n u s v q z (inr e) =
            ap (λ (b : Bool). turned (if b then does (bodies n) u s else Normal u s)) (listed n ∙ e)
            ∙ never u s v q (λ w. ap (λ (m : ℤ). picked k m w s) z ∙ ap (λ (b : Bool). if_arm b (go n) w s) e)
            ∙ sym (ap (λ (b : Bool). if_arm b (go n) u s) e)

        number_land : (u : ℕ) (s : State) (v : Value) → value g (expr.Read (var.Local next)) s ≡ Ok v → (z : ℤ) → v.n ≡ z
            → turned (first_with z (map (case_meaning g calls) (arms_with_labels bodies labels)) (does []) u s) ≡ picked k z u s
        number_land u s v q (pos n) e =
            ap turned (labelled_does g calls n bodies labels (does []) u s)
            ∙ label_land n u s v q e (arm_or_not k (unit.marks n))
        number_land u s v q (negsuc m) e =
            ap turned (no_label g calls m bodies labels (does []) u s)
            ∙ never u s v q (λ w. ap (λ (n : ℤ). picked k n w s) e)

        dispatch_land : (u : ℕ) (s : State)
            → turned (does (stmt.Case (expr.Read (var.Local next)) (arms_with_labels bodies labels) [] ∷ []) u s) ≡ begin true (selected k) u s
        dispatch_land u s =
            ap turned
            (one_statement g calls (stmt.Case (expr.Read (var.Local next)) (arms_with_labels bodies labels) []) u s
            ∙ meaning_case g calls u s (expr.Read (var.Local next)) (arms_with_labels bodies labels) [])
            ∙ by (value g (expr.Read (var.Local next)) s) refl
          where
            by : (r : Result Value Fault) → value g (expr.Read (var.Local next)) s ≡ r
                → turned (with_value r u s (λ v. first_with v.n (map (case_meaning g calls) (arms_with_labels bodies labels)) (does []) u s))
                ≡ with_value r u s (λ v. picked k v.n u s)
            by (Ok v) q = number_land u s v q v.n refl
            by (Err x) q = refl

    -- Regions

    -- the steps of a node, then others
    node_land : (k : Sem) (a : Around) (turn : Bool) (i : ℕ) (p : Place) (steps more : List Stmt) (x : StExit) → p ≡ at i → IsNode unit turn i steps x
        → ((u : ℕ) (s : State) → land k a (does more u s) ≡ exits i x u s)
        → (u : ℕ) (s : State) → land k a (does (steps ++ more) u s) ≡ begin turn p u s
    node_land k a turn i p steps more x e is h u s =
        let own : AreSteps steps = subst AreSteps is.steps_are (plain i is.node is.there) in
        ap (land k a) (in_parts g calls steps more u s)
        ∙ steps_land k (exits i x) a (does more) h (does steps u s) (steps_straight g calls straight steps own u s)
        ∙ node_same turn i p steps x e is u s

    -- a statement, then others
    first_land : (k m : Sem) (a : Around) (x : Stmt) (more : List Stmt) → ((u : ℕ) (s : State) → land k a (does more u s) ≡ m u s)
        → (u : ℕ) (s : State) → land k a (does (x ∷ more) u s) ≡ land m a (meaning g calls x u s)
    first_land k m a x more h u s = then_land k m a (does more) h (meaning g calls x u s)

    pub means : (r : Region) (turn : Bool) (p follow : Place) (a : Around) → Fits unit turn r p follow a
        → (u : ℕ) (s : State) → land (arrive follow) a (does (text_of next r) u s) ≡ begin turn p u s
    means off turn p follow a f u s = not_begun turn p follow f.0 f.1 u s
    means leaves turn p follow no_loop f u s = elim f.1 [ ]
    means leaves turn p follow (inside h q) f u s =
        ap (land (arrive follow) (inside h q)) (one_statement g calls stmt.Exit u s ∙ meaning_exit g calls u s) ∙ not_begun turn p q f.0 f.1 u s
    means again turn p follow no_loop f u s = elim f.1 [ ]
    means again turn p follow (inside h q) f u s =
        ap (land (arrive follow) (inside h q)) (one_statement g calls stmt.Continue u s ∙ meaning_continue g calls u s) ∙ not_begun turn p h f.0 f.1 u s
    means ended turn p follow a f u s =
        ap (land (arrive follow) a) (one_statement g calls stmt.Return u s ∙ meaning_return g calls u s) ∙ not_begun turn p out f.0 f.1 u s
    means (node steps rest) turn p follow a (i, x, q, e, is, leads, fits) u s =
        node_land (arrive follow) a turn i p steps (text_of next rest) x e is
        (λ v t. means rest false q follow a fits v t ∙ leads_same i x q leads v t) u s
    means (fork steps x there behind join rest) turn p follow a (i, j, e, is, first, second, third) u s =
        node_land (arrive follow) a turn i p steps (choice x (text_of next there) (text_of next behind) ∷ text_of next rest) (exit.Branch x j) e is
        (λ v t.
        first_land (arrive follow) (arrive join) a (choice x (text_of next there) (text_of next behind)) (text_of next rest)
        (means rest false join follow a third) v t
        ∙ ap (land (arrive join) a) (choice_does x (text_of next there) (text_of next behind) v t)
        ∙ chosen_land (arrive join) a (does (text_of next there)) (does (text_of next behind)) (run.to j) (run.to (suc i)) v t
        (means there false (at j) join a first v t) (means behind false (at (suc i)) join a second v t) (value g x t)) u s
    means (quit steps x rest) turn p follow a (i, e, is, third) u s =
        node_land (arrive follow) a turn i p steps (choice x (stmt.Return ∷ []) [] ∷ text_of next rest) (exit.EndIf x) e is
        (λ v t.
        first_land (arrive follow) (arrive (at (suc i))) a (choice x (stmt.Return ∷ []) []) (text_of next rest)
        (means rest false (at (suc i)) follow a third) v t
        ∙ ap (land (arrive (at (suc i))) a) (choice_does x (stmt.Return ∷ []) [] v t)
        ∙ chosen_land (arrive (at (suc i))) a (does (stmt.Return ∷ [])) (does []) run.out (run.to (suc i)) v t
        (ap (land (arrive (at (suc i))) a) (one_statement g calls stmt.Return v t ∙ meaning_return g calls v t)) refl (value g x t)) u s
    means (table steps x count arms join rest) turn p follow a (i, targets, last, e, is, many, inner, third) u s =
        let bodies : ℕ → List Stmt = λ n. text_of next (arms n) in
        let whole : Stmt = stmt.Case x (arms_with_labels bodies (labels_from 0 count)) (bodies count) in
        node_land (arrive follow) a turn i p steps (whole ∷ text_of next rest) (exit.Table x targets last) e is
        (λ v t.
        first_land (arrive follow) (arrive join) a whole (text_of next rest) (means rest false join follow a third) v t
        ∙ ap (land (arrive join) a) (meaning_case g calls v t x (arms_with_labels bodies (labels_from 0 count)) (bodies count))
        ∙ table_land (arrive join) a bodies count targets last many v t
        (λ n l. means (arms n) false (at (entry_or (slice_get targets n) last)) join a (inner n l) v t) (value g x t)) u s
    means (choose steps x targets nodes arms other join rest) turn p follow a (i, last, e, is, have, each, own, third) u s =
        let bodies : ℕ → List Stmt = λ j. text_of next (arms j) in
        let whole : Stmt = stmt.Case x (arms_of_nodes targets bodies nodes) (text_of next other) in
        node_land (arrive follow) a turn i p steps (whole ∷ text_of next rest) (exit.Table x targets last) e is
        (λ v t.
        first_land (arrive follow) (arrive join) a whole (text_of next rest) (means rest false join follow a third) v t
        ∙ ap (land (arrive join) a) (meaning_case g calls v t x (arms_of_nodes targets bodies nodes) (text_of next other))
        ∙ list_land (arrive join) a targets nodes last have bodies (text_of next other) v t
        (λ j l. means (arms j) false (at j) join a (each j l) v t) (means other false (at last) join a own v t) (value g x t)) u s
    means (cycle body behind rest) turn p follow a (h, e, l, head, inner, third) u s =
        first_land (arrive follow) (arrive behind) a (forever (text_of next body)) (text_of next rest) (means rest false behind follow a third) u s
        ∙ forever_land (text_of next body) (at h) (loop_head_takes h head) behind (means body true (at h) (at h) (inside (at h) behind) inner) a u s
        ∙ sym (loop_head_takes h head u s) ∙ not_begun turn p (at h) e l u s
    means (turn_to j rest) turn p follow a (n, e, l, mark, inner) u s =
        first_land (arrive follow) (arrive (selected n)) a (set_next next j) (text_of next rest) (means rest false (selected n) follow a inner) u s
        ∙ ap (land (arrive (selected n)) a) (set_does g calls next j u s)
        ∙ setting_land (arrive (selected n)) a (write g (var.Local next) (at_node j) s) u s
        ∙ turned_to j n mark u s ∙ not_begun turn p (at j) e l u s
    means (selector labels arms behind rest) turn p follow a (n, e, l, listed, inner, third) u s =
        let bodies : ℕ → List Stmt = λ m. text_of next (arms m) in
        let whole : Stmt = stmt.Case (expr.Read (var.Local next)) (arms_with_labels bodies labels) [] in
        first_land (arrive follow) (arrive behind) a (forever (whole ∷ [])) (text_of next rest) (means rest false behind follow a third) u s
        ∙ forever_land (whole ∷ []) (selected n) (λ v t. refl) behind
        (dispatch_land bodies labels n behind listed
        (λ m mark v t. means (arms m) true (at m) (selected n) (inside (selected n) behind) (inner m mark) v t)) a u s
        ∙ not_begun turn p (selected n) e l u s

    -- Whole units, in no loop

    after_land : (o : Out) → after_unit (land (arrive out) no_loop o) ≡ after_unit o
    after_land (Normal u s) = refl
    after_land o = refl

    seen_land : (o : Out) → end_seen (land (arrive out) no_loop o) ≡ end_seen o
    seen_land (Normal u s) = refl
    seen_land o = refl

    module _ (r : Region) (f : Fits unit false r (at 0) out no_loop) (u : ℕ) (s : State) where
      pub unit_means : after_unit (does (text_of next r) u s) ≡ after_unit (ways 0 u s)
      unit_means = sym (after_land (does (text_of next r) u s)) ∙ ap after_unit (means r false (at 0) out no_loop f u s)

      pub run_means : end_seen (does (text_of next r) u s) ≡ end_seen (ways 0 u s)
      run_means = sym (seen_land (does (text_of next r) u s)) ∙ ap end_seen (means r false (at 0) out no_loop f u s)
