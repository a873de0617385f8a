-- Units: more of them never change what has ended, and calls that may nest deeper than there are units
-- change nothing; nor does how many nodes of a graph may follow one another. Two meanings are compared, of which
-- the second has j units more.
use Rattle.st_tree.proofs.Common.{◌≡◌, ℕ, zero, suc, ◌+◌, ◌≤◌, Bool, true, false, if◌then◌else◌, ℤ, List, [], ◌∷◌, map, Option, Some, None, Result, Ok, Err, refl, sym, ap, subst, arith, ◌-◌, ◌∙◌, ◌*◌, ◌<◌, length, ◌⊎◌, inl, inr, slice_get, list_any, int_eq, Areas, Ended, Call, end_seen, run_of_unit, state_at_start, unit_called, is_meant, Fault, after_unit, enter_with, calls_to, state_on_entry, unit_call, located_actuals, unit_step, Out, Normal, Exits, Continues, Returns, Faults, NoUnits, Sem, Calls, after_body, area_assignment, arm_meaning, assignment, body_meaning, case_meaning, state_or_fault, first_true, first_with, meaning, then_do, turns, with_value, State, Worth, value, Value, is_set, Var, Arm, CaseArm, Located, Pou, StProgram, Stmt, Reference, mul-le-mul_right, find_at, greatest, GraphPou, GraphProgram, StNode}
use Rattle.std.specs.Prelude.{find}
use Rattle.st_tree.specs.StRunLaws.{DepthIsFree, EndStays}
use Rattle.st_tree.proofs.Equations.{meaning_area_write, meaning_arm, meaning_assign, meaning_case, meaning_case_arm, meaning_continue, meaning_exit, meaning_if, meaning_invoke, meaning_return, meaning_while}
use Rattle.st_tree.proofs.Induction.{Each, InArm, InCase, StmtSteps, every_body}
use Rattle.std.proofs.Math.Nat.{suc-mul}
use Rattle.std.proofs.lemmas.Bool.{cases_lt}
use Rattle.std.proofs.lemmas.Option.{slice_get_past}
use Rattle.st_tree.specs.GraphRun.{Counting, Way, for_one_unit, counted_if, exit_meaning, follow, graph_calls, longest, most_nodes, node_meaning, nodes_do, out, run_of_graph, to, unit_begun, way_of}
use Rattle.st_tree.specs.GraphRunLaws.{FreeIsForward, GraphEndStays, LengthIsFree}

-- the second ends as the first with j units more left, and the first has gained none; without a unit left
-- the first says something of the second only where that has no more
abbrev pub Follows : ℕ → ℕ → Out → Out → Type 0
Follows j most (Normal u s) o = (o ≡ Normal (u + j) s) × (u ≤ most)
Follows j most (Exits u s) o = (o ≡ Exits (u + j) s) × (u ≤ most)
Follows j most (Continues u s) o = (o ≡ Continues (u + j) s) × (u ≤ most)
Follows j most (Returns u s) o = (o ≡ Returns (u + j) s) × (u ≤ most)
Follows j most (Faults f s) o = o ≡ Faults f s
Follows j most (NoUnits s) o = j ≡ 0 → o ≡ NoUnits s

-- so for all units up to k
abbrev pub Follow : ℕ → Sem → Sem → Type 0
Follow k f g = (u j : ℕ) (s : State) → u ≤ k → Follows j u (f u s) (g (u + j) s)

-- calls with up to k units
abbrev pub CallsFollow : ℕ → Calls → Calls → Type 0
CallsFollow k c d = (n : ℕ) (actuals : List Var) → Follow k (c n actuals) (d n actuals)

pub wider : (j least most : ℕ) (o p : Out) → least ≤ most → Follows j least o p → Follows j most o p
wider j least most (Faults x s) p h f = f
wider j least most (NoUnits s) p h f = f
wider j least most o p h f = (f.0, omega (arith, f.1))

-- with one unit more before both
pub one_more : (j u : ℕ) (o : Out) (p : ℕ → Out) → Follows j u o (p (suc (u + j))) → Follows j (suc u) o (p (suc u + j))
one_more j u o p f =
    subst (λ (z : ℕ). Follows j (suc u) o (p z)) (omega arith) (wider j u (suc u) o (p (suc (u + j))) (omega arith) f)

module _ (k : ℕ) where
  pub then_follows : (j u : ℕ) (o p : Out) (f g : Sem) → u ≤ k → Follow k f g → Follows j u o p → Follows j u (then_do o f) (then_do p g)
  then_follows j u (Normal v s) p f g h more e =
      let b : v ≤ u = e.1 in
      let within : v ≤ k = omega arith in
      subst (λ (q : Out). Follows j u (f v s) (then_do q g)) (sym e.0) (wider j v u (f v s) (g (v + j) s) b (more v j s within))
  then_follows j u (Faults x s) p f g h more e = ap (λ (q : Out). then_do q g) e
  then_follows j u (NoUnits s) p f g h more e = λ none. ap (λ (q : Out). then_do q g) (e none)
  then_follows j u o p f g h more e = (ap (λ (q : Out). then_do q g) e.0, e.1)

  pub body_follows : (j u : ℕ) (o p : Out) (f g : Sem) → ((v : ℕ) (s : State) → v ≤ u → Follows j v (f v s) (g (v + j) s))
      → Follows j u o p → Follows j u (after_body o f) (after_body p g)
  body_follows j u (Normal v s) p f g more e =
      subst (λ (q : Out). Follows j u (f v s) (after_body q g)) (sym e.0) (wider j v u (f v s) (g (v + j) s) e.1 (more v s e.1))
  body_follows j u (Continues v s) p f g more e =
      subst (λ (q : Out). Follows j u (f v s) (after_body q g)) (sym e.0) (wider j v u (f v s) (g (v + j) s) e.1 (more v s e.1))
  body_follows j u (Faults x s) p f g more e = ap (λ (q : Out). after_body q g) e
  body_follows j u (NoUnits s) p f g more e = λ none. ap (λ (q : Out). after_body q g) (e none)
  body_follows j u o p f g more e = (ap (λ (q : Out). after_body q g) e.0, e.1)

  pub unit_follows : (j u : ℕ) (o p : Out) → Follows j u o p → Follows j u (after_unit o) (after_unit p)
  unit_follows j u (Faults x s) p e = ap after_unit e
  unit_follows j u (NoUnits s) p e = λ none. ap after_unit (e none)
  unit_follows j u o p e = (ap after_unit e.0, e.1)

  changed_follows : (r : Result State Fault) (j u : ℕ) (s : State) → Follows j u (state_or_fault r u s) (state_or_fault r (u + j) s)
  changed_follows (Ok new) j u s = (refl, omega arith)
  changed_follows (Err f) j u s = refl

  -- a choice by a truth value
  picked : (b : Bool) (j u : ℕ) (o p q r : Out) → Follows j u o q → Follows j u p r → Follows j u (if b then o else p) (if b then q else r)
  picked true j u o p q r e f = e
  picked false j u o p q r e f = f

  valued : (w : Result Value Fault) (j u v : ℕ) (s : State) (f g : Value → Out)
      → ((x : Value) → Follows j u (f x) (g x)) → Follows j u (with_value w u s f) (with_value w v s g)
  valued (Ok x) j u v s f g e = e x
  valued (Err x) j u v s f g e = refl

  pub turns_follow : (m n : ℕ) (test : Worth) (f g : Sem) → Follow k f g → (u j : ℕ) (s : State)
      → u ≤ k → u ≤ m → u + j ≤ n → Follows j u (turns m test f u s) (turns n test g (u + j) s)
  turns_follow zero zero test f g more u j s h a b = λ none. refl
  turns_follow zero (suc n) test f g more zero zero s h a b = λ none. refl
  turns_follow zero (suc n) test f g more zero (suc j) s h a b = λ none. cc
  turns_follow zero (suc n) test f g more (suc u) j s h a b = absurd (omega arith)
  turns_follow (suc m) zero test f g more zero zero s h a b = λ none. refl
  turns_follow (suc m) zero test f g more zero (suc j) s h a b = λ none. cc
  turns_follow (suc m) zero test f g more (suc u) j s h a b = absurd (omega arith)
  turns_follow (suc m) (suc n) test f g more zero zero s h a b = λ none. refl
  turns_follow (suc m) (suc n) test f g more zero (suc j) s h a b = λ none. cc
  turns_follow (suc m) (suc n) test f g more (suc u) j s h a b =
      let within : u ≤ k = omega arith in
      let again : (v : ℕ) (t : State) → v ≤ u → Follows j v (turns m test f v t) (turns n test g (v + j) t) =
      λ v t c. turns_follow m n test f g more v j t (omega arith) (omega arith) (omega arith) in
      one_more j u _ (λ z. turns (suc n) test g z s)
      (valued (test s) j u (u + j) s _ _ (λ x.
      picked (is_set x) j u (after_body (f u s) (turns m test f)) (Normal u s) (after_body (g (u + j) s) (turns n test g)) (Normal (u + j) s)
      (body_follows j u (f u s) (g (u + j) s) (turns m test f) (turns n test g) again (more u j s within))
      (refl, omega arith)))

  -- the same of equal ends
  opened : (j u : ℕ) (o p q r : Out) → o ≡ q → p ≡ r → Follows j u q r → Follows j u o p
  opened j u o p q r e f h = subst (λ (x : Out). Follows j u x p) (sym e) (subst (λ (x : Out). Follows j u q x) (sym f) h)

  module _ (g : List Located) (c d : Calls) (calls : CallsFollow k c d) where
    abbrev P : Stmt → Type 0
    P x = Follow k (meaning g c x) (meaning g d x)

    list_follows : (xs : List Stmt) → Each P xs → Follow k (body_meaning g c xs) (body_meaning g d xs)
    list_follows [] each u j s h = (refl, omega arith)
    list_follows (x ∷ xs) each u j s h =
        then_follows j u (meaning g c x u s) (meaning g d x (u + j) s) (body_meaning g c xs) (body_meaning g d xs) h (list_follows xs each.1) (each.0 u j s h)

    arms_follow : (arms : List Arm) → Each (InArm P) arms → (f h : Sem) → Follow k f h
        → Follow k (first_true (map (arm_meaning g c) arms) f) (first_true (map (arm_meaning g d) arms) h)
    arms_follow [] each f h more u j s b = more u j s b
    arms_follow (x ∷ xs) each f h more u j s b =
        rw (meaning_arm g c x, meaning_arm g d x)
        (valued (value g x.test s) j u (u + j) s _ _
        (λ v. picked (is_set v) j u _ _ _ _ (list_follows x.body each.0 u j s b) (arms_follow xs each.1 f h more u j s b)))

    cases_follow : (n : ℤ) (arms : List CaseArm) → Each (InCase P) arms → (f h : Sem) → Follow k f h
        → Follow k (first_with n (map (case_meaning g c) arms) f) (first_with n (map (case_meaning g d) arms) h)
    cases_follow n [] each f h more u j s b = more u j s b
    cases_follow n (x ∷ xs) each f h more u j s b =
        rw (meaning_case_arm g c x, meaning_case_arm g d x)
        (picked (list_any (λ label. int_eq label n) x.labels) j u _ _ _ _ (list_follows x.body each.0 u j s b) (cases_follow n xs each.1 f h more u j s b))

    steps : StmtSteps P
    steps =
        record {
          assign =
              λ v e u j s h. opened j u _ _ _ _ (meaning_assign g c u s v e) (meaning_assign g d (u + j) s v e) (changed_follows (assignment g v e s) j u s);
          area_write =
              λ w p e u j s h. opened j u _ _ _ _ (meaning_area_write g c u s w p e)
              (meaning_area_write g d (u + j) s w p e) (changed_follows (area_assignment g w p e s) j u s);
          invoke =
              λ n actuals u j s h. opened j u _ _ _ _ (meaning_invoke g c u s n actuals) (meaning_invoke g d (u + j) s n actuals) (calls n actuals u j s h);
          choice = λ arms other each rest u j s h.
              opened j u _ _ _ _ (meaning_if g c u s arms other) (meaning_if g d (u + j) s arms other)
              (arms_follow arms each (body_meaning g c other) (body_meaning g d other) (list_follows other rest) u j s h);
          selection = λ e arms other each rest u j s h.
              opened j u _ _ _ _ (meaning_case g c u s e arms other) (meaning_case g d (u + j) s e arms other)
              (valued (value g e s) j u (u + j) s _ _
              (λ v. cases_follow v.n arms each (body_meaning g c other) (body_meaning g d other) (list_follows other rest) u j s h));
          loop = λ test body each u j s h.
              opened j u _ _ _ _ (meaning_while g c u s test body) (meaning_while g d (u + j) s test body)
              (turns_follow u (u + j) (value g test) (body_meaning g c body)
              (body_meaning g d body) (list_follows body each) u j s h (omega arith) (omega arith));
          exit = λ u j s h. opened j u _ _ _ _ (meaning_exit g c u s) (meaning_exit g d (u + j) s) (refl, omega arith);
          continue = λ u j s h. opened j u _ _ _ _ (meaning_continue g c u s) (meaning_continue g d (u + j) s) (refl, omega arith);
          return = λ u j s h. opened j u _ _ _ _ (meaning_return g c u s) (meaning_return g d (u + j) s) (refl, omega arith);
        }

    pub statements_follow : (body : List Stmt) → Follow k (body_meaning g c body) (body_meaning g d body)
    statements_follow body = list_follows body (every_body P steps body)

-- Calls

unit_given : (k : ℕ) (tree : StProgram) (c d : Calls) (calls : CallsFollow k c d) (o : Option Pou) (r : List Reference)
    → Follow k (unit_step tree c o r) (unit_step tree d o r)
unit_given k tree c d calls None r u j s h = λ none. refl
unit_given k tree c d calls (Some unit) r u j s h =
    unit_follows k j u (body_meaning tree.globals c unit.body u (state_on_entry unit r s))
    (body_meaning tree.globals d unit.body (u + j) (state_on_entry unit r s))
    (statements_follow k tree.globals c d calls unit.body u j (state_on_entry unit r s) h)

pub called_follows : (k : ℕ) (f h : List Reference → Sem) → ((r : List Reference) → Follow k (f r) (h r))
    → (r : Result (List Reference) Fault) → Follow k (enter_with f r) (enter_with h r)
called_follows k f h enter (Ok formals) u j s b = enter formals u j s b
called_follows k f h enter (Err x) u j s b = refl

invoked_follows : (k : ℕ) (tree : StProgram) (c d : Calls) → CallsFollow k c d → CallsFollow (suc k) (unit_call tree c) (unit_call tree d)
invoked_follows k tree c d calls n actuals zero zero s h = λ none. refl
invoked_follows k tree c d calls n actuals zero (suc j) s h = λ none. cc
invoked_follows k tree c d calls n actuals (suc u) j s h =
    let o : Option Pou = slice_get tree.pous n in
    one_more j u _ (λ z. unit_call tree d n actuals z s)
    (called_follows k (unit_step tree c o) (unit_step tree d o) (unit_given k tree c d calls o) (located_actuals tree.globals actuals s) u j s (omega arith))

-- without a unit no call is begun
pub no_call : (deep : ℕ) (tree : StProgram) (n : ℕ) (actuals : List Var) (s : State) → calls_to deep tree n actuals 0 s ≡ NoUnits s
no_call zero tree n actuals s = refl
no_call (suc deep) tree n actuals s = refl

none_given : (a b : ℕ) (tree : StProgram) (n : ℕ) (actuals : List Var) (j : ℕ) (s : State)
    → Follows j 0 (calls_to a tree n actuals 0 s) (calls_to b tree n actuals (0 + j) s)
none_given a b tree n actuals zero s = opened 0 0 0 _ _ _ _ (no_call a tree n actuals s) (no_call b tree n actuals s) (λ none. refl)
none_given a b tree n actuals (suc j) s = opened 0 (suc j) 0 _ _ (NoUnits s) _ (no_call a tree n actuals s) refl (λ none. cc)

-- calls that may nest as deep as there are units
pub calls_follow : (k a b : ℕ) (tree : StProgram) → k ≤ a → k ≤ b → CallsFollow k (calls_to a tree) (calls_to b tree)
calls_follow zero a b tree x y n actuals zero j s h = none_given a b tree n actuals j s
calls_follow zero a b tree x y n actuals (suc u) j s h = absurd (omega arith)
calls_follow (suc k) zero b tree x y n actuals u j s h = absurd (omega arith)
calls_follow (suc k) (suc a) zero tree x y n actuals u j s h = absurd (omega arith)
calls_follow (suc k) (suc a) (suc b) tree x y n actuals u j s h =
    invoked_follows k tree (calls_to a tree) (calls_to b tree) (calls_follow k a b tree (omega arith) (omega arith)) n actuals u j s h

-- Ends: an end stays, and how deep calls may nest is free

-- what follows an end is the same end
pub end_follows : (j most : ℕ) (o p : Out) (after : Areas) (f : Option Fault) → Follows j most o p → end_seen o ≡ Ended after f → end_seen p ≡ Ended after f
end_follows j most (Faults x s) p after f h e = ap end_seen h ∙ e
end_follows j most (NoUnits s) p after f h e = cc
end_follows j most o p after f h e = ap end_seen h.0 ∙ e

pub none_more : (u : ℕ) → u + 0 ≡ u
none_more u = omega arith

-- what follows with no more units is the same
pub follows_same : (most : ℕ) (o p : Out) → Follows 0 most o p → p ≡ o
follows_same most (Faults f s) p h = h
follows_same most (NoUnits s) p h = h refl
follows_same most o p h = rw none_more at h.0

-- what follows within some units ends alike within as many, and its end stays within more
same_end : (units : ℕ) (f g : Sem) (s : State) → Follow units f g → g units s ≡ f units s
same_end units f g s follow =
    ap (λ (u : ℕ). g u s) (sym (none_more units)) ∙ follows_same units (f units s) (g (units + 0) s) (follow units 0 s (omega arith))

stays : (units more : ℕ) (f g : Sem) (s : State) (after : Areas) (x : Option Fault) → units ≤ more
    → Follow units f g → end_seen (f units s) ≡ Ended after x → end_seen (g more s) ≡ Ended after x
stays units more f g s after x less follow e =
    let sum : units + (more - units) ≡ more = omega arith in
    subst (λ (u : ℕ). end_seen (g u s) ≡ Ended after x) sum
    (end_follows (more - units) units (f units s) (g (units + (more - units)) s) after x (follow units (more - units) s (omega arith)) e)

pub deeper_is_same : DepthIsFree
deeper_is_same tree body units deep s h =
    same_end units (body_meaning tree.globals (calls_to units tree) body) (body_meaning tree.globals (calls_to deep tree) body) s
    (statements_follow units tree.globals (calls_to units tree) (calls_to deep tree) (calls_follow units units deep tree (omega arith) h) body)

run_stays : (tree : StProgram) (o : Option Pou) (call : Call) (memory : Areas) (units more : ℕ) (after : Areas) (f : Option Fault) → units ≤ more →
    run_of_unit tree o call memory units ≡ Ended after f → run_of_unit tree o call memory more ≡ Ended after f
run_stays tree None call memory units more after f h e = e
run_stays tree (Some unit) call memory units more after f h e =
    stays units more (body_meaning tree.globals (calls_to units tree) unit.body)
    (body_meaning tree.globals (calls_to more tree) unit.body) (state_at_start unit call memory) after f h
    (statements_follow units tree.globals (calls_to units tree) (calls_to more tree) (calls_follow units units more tree (omega arith) h) unit.body) e

pub runs_end_stays : EndStays
runs_end_stays tree call memory units more after f h e = run_stays tree (unit_called call.block tree.pous) call memory units more after f h e

-- Graph runs

-- What is counted

counted_follows : (k : ℕ) (f g : Sem) → ((v : ℕ) → suc v ≤ k → Follow v f g) → Follow k (for_one_unit f) (for_one_unit g)
counted_follows k f g more zero zero s h = λ none. refl
counted_follows k f g more zero (suc j) s h = λ none. cc
counted_follows k f g more (suc u) j s h = one_more j u _ (λ z. for_one_unit g z s) (more u h u j s (omega arith))

counted_if_follows : (k : ℕ) (test : Bool) (f g : Sem) → (test ≡ true → (v : ℕ) → suc v ≤ k → Follow v f g)
    → (test ≡ false → Follow k f g) → Follow k (counted_if test f) (counted_if test g)
counted_if_follows k true f g paid free = counted_follows k f g (paid refl)
counted_if_follows k false f g paid free = free refl

-- How many nodes there are

within_longest : (units : List GraphPou) (n : ℕ) (unit : GraphPou) → slice_get units n ≡ Some unit
    → length unit.graph.nodes ≤ greatest (map (λ (u : GraphPou). length u.graph.nodes) units)
within_longest [] n unit e = cc
within_longest (x ∷ xs) zero unit e = let there : x ≡ unit = cc in omega (arith, ap (λ (u : GraphPou). length u.graph.nodes) there)
within_longest (x ∷ xs) (suc n) unit e = omega (arith, within_longest xs n unit e)

-- Nodes

module _ (counts : Counting) (forward : FreeIsForward counts) (graph : GraphProgram) where
  abbrev most : ℕ
  most = longest graph

  -- how many nodes can follow one another from a position on
  abbrev left_from : ℕ → List StNode → ℕ → ℕ
  left_from k nodes i = k * suc most + (length nodes - i)

  -- with a unit of work less there is room for a whole unit
  with_less : (v k a : ℕ) → suc v ≤ k → k * suc most ≤ suc a → v * suc most + most ≤ a
  with_less v k a less room = omega (arith, suc-mul v (suc most), mul-le-mul_right (suc most) less)

  -- nodes that may follow one another in two numbers, both large enough
  abbrev NodesFollow : ℕ → ℕ → Type 0
  NodesFollow a b =
      (k : ℕ) (nodes : List StNode) (i : ℕ) → length nodes ≤ most → left_from k nodes i ≤ a → left_from k nodes i ≤ b
      → Follow k (nodes_do counts graph a nodes i) (nodes_do counts graph b nodes i)

  none_there : (a : ℕ) (nodes : List StNode) (i u : ℕ) (s : State) → length nodes ≤ i → nodes_do counts graph a nodes i u s ≡ NoUnits s
  none_there zero nodes i u s h = refl
  none_there (suc a) nodes i u s h =
      ap (λ (o : Option StNode). node_meaning graph.globals counts
      (graph_calls (λ begun. nodes_do counts graph a begun 0) graph) (nodes_do counts graph a nodes) i o u s)
      (slice_get_past nodes i h)

  both_none : (a b k : ℕ) (nodes : List StNode) (i : ℕ) → length nodes ≤ i → Follow k (nodes_do counts graph a nodes i) (nodes_do counts graph b nodes i)
  both_none a b k nodes i h u j s within =
      let e = none_there a nodes i u s h in
      subst (λ (o : Out). Follows j u o (nodes_do counts graph b nodes i (u + j) s)) (sym e) (λ none. none_there b nodes i (u + j) s h)

  module _ (a b : ℕ) (hypothesis : NodesFollow a b) (k : ℕ) where
    -- a unit that is begun takes one unit of work, and its nodes are no more than the longest unit has
    unit_follows_begun : (n : ℕ) (o : Option GraphPou) → slice_get graph.pous n ≡ o → k * suc most ≤ suc a → k * suc most ≤ suc b → (r : List Reference)
        → Follow k (unit_begun (λ begun. nodes_do counts graph a begun 0) o r) (unit_begun (λ begun. nodes_do counts graph b begun 0) o r)
    unit_follows_begun n None e x y r u j s h = λ none. refl
    unit_follows_begun n (Some unit) e x y r u j s h =
        let nodes : List StNode = unit.graph.nodes in
        let size : length nodes ≤ most = within_longest graph.pous n unit e in
        let begun : (v : ℕ) → suc v ≤ k → Follow v (nodes_do counts graph a nodes 0) (nodes_do counts graph b nodes 0) =
        λ v less. hypothesis v nodes 0 size (omega (arith, with_less v k a less x)) (omega (arith, with_less v k b less y)) in
        unit_follows k j u _ _
        (counted_follows k (nodes_do counts graph a nodes 0) (nodes_do counts graph b nodes 0) begun u j (state_on_entry unit.head r s) h)

    graph_calls_follow : k * suc most ≤ suc a → k * suc most ≤ suc b
        → CallsFollow k (graph_calls (λ begun. nodes_do counts graph a begun 0) graph) (graph_calls (λ begun. nodes_do counts graph b begun 0) graph)
    graph_calls_follow x y n actuals u j s h =
        called_follows k _ _ (unit_follows_begun n (slice_get graph.pous n) refl x y) (located_actuals graph.globals actuals s) u j s h

    module _ (nodes : List StNode) (size : length nodes ≤ most) (i : ℕ) (there : i < length nodes)
        (x : left_from k nodes i ≤ suc a) (y : left_from k nodes i ≤ suc b) where
      way_follows : (w : Result Way Fault) → Follow k (follow counts (nodes_do counts graph a nodes) i w) (follow counts (nodes_do counts graph b nodes) i w)
      way_follows (Ok (to m)) =
          counted_if_follows k (counts i m) (nodes_do counts graph a nodes m) (nodes_do counts graph b nodes m)
          (λ paid v less. hypothesis v nodes m size (omega (arith, with_less v k a less (omega arith))) (omega (arith, with_less v k b less (omega arith))))
          (λ free. let later : i < m = forward i m free in hypothesis k nodes m size (omega arith) (omega arith))
      way_follows (Ok out) = λ u j s h. (refl, omega arith)
      way_follows (Err f) = λ u j s h. refl

      node_follows : (o : Option StNode)
          → Follow k (node_meaning graph.globals counts (graph_calls (λ begun. nodes_do counts graph a begun 0) graph) (nodes_do counts graph a nodes) i o)
          (node_meaning graph.globals counts (graph_calls (λ begun. nodes_do counts graph b begun 0) graph) (nodes_do counts graph b nodes) i o)
      node_follows None u j s h = λ none. refl
      node_follows (Some node) u j s h =
          let calls = graph_calls_follow (omega arith) (omega arith) in
          then_follows k j u _ _
          (exit_meaning graph.globals counts (nodes_do counts graph a nodes) i node.exit)
          (exit_meaning graph.globals counts (nodes_do counts graph b nodes) i node.exit) h
          (λ v l t within. way_follows (way_of graph.globals i node.exit t) v l t within)
          (statements_follow k graph.globals (graph_calls (λ begun. nodes_do counts graph a begun 0) graph)
          (graph_calls (λ begun. nodes_do counts graph b begun 0) graph) calls node.steps u j s h)

  by_size : (a b : ℕ) → NodesFollow a b → (k : ℕ) (nodes : List StNode) (i : ℕ)
      → length nodes ≤ most → left_from k nodes i ≤ suc a → left_from k nodes i ≤ suc b
      → (i < length nodes) ⊎ (length nodes ≤ i) → Follow k (nodes_do counts graph (suc a) nodes i) (nodes_do counts graph (suc b) nodes i)
  by_size a b hypothesis k nodes i size x y (inl there) = node_follows a b hypothesis k nodes size i there x y (slice_get nodes i)
  by_size a b hypothesis k nodes i size x y (inr past) = both_none (suc a) (suc b) k nodes i past

  pub nodes_follow : (a b : ℕ) → NodesFollow a b
  nodes_follow zero b k nodes i size x y = both_none zero b k nodes i (omega arith)
  nodes_follow (suc a) zero k nodes i size x y = both_none (suc a) zero k nodes i (omega arith)
  nodes_follow (suc a) (suc b) k nodes i size x y = by_size a b (nodes_follow a b) k nodes i size x y (cases_lt i (length nodes))

-- Laws

pub longer_is_same : LengthIsFree
longer_is_same counts forward graph n unit there units most s h =
    let size = within_longest graph.pous n unit there in
    let one = suc-mul units (suc (longest graph)) in
    same_end units (nodes_do counts graph (most_nodes graph units) unit.graph.nodes 0) (nodes_do counts graph most unit.graph.nodes 0) s
    (nodes_follow counts forward graph (most_nodes graph units) most units unit.graph.nodes 0 size (omega (arith, one)) (omega (arith, one)))

graph_run_stays : (counts : Counting) → FreeIsForward counts → (graph : GraphProgram) (o : Option GraphPou) (call : Call)
    → ((unit : GraphPou) → o ≡ Some unit → length unit.graph.nodes ≤ longest graph)
    → (memory : Areas) (units more : ℕ) (after : Areas) (f : Option Fault) → units ≤ more →
    run_of_graph counts graph o call memory units ≡ Ended after f → run_of_graph counts graph o call memory more ≡ Ended after f
graph_run_stays counts forward graph None call small memory units more after f h e = e
graph_run_stays counts forward graph (Some unit) call small memory units more after f h e =
    let s = state_at_start unit.head call memory in
    let nodes = unit.graph.nodes in
    let size : length nodes ≤ longest graph = small unit refl in
    let begun : (v : ℕ) → suc v ≤ units
    → Follow v (nodes_do counts graph (most_nodes graph units) nodes 0) (nodes_do counts graph (most_nodes graph more) nodes 0) =
    λ v less.
    let one : suc units * suc (longest graph) ≡ units * suc (longest graph) + suc (longest graph) = suc-mul units (suc (longest graph)) in
    let lower : v * suc (longest graph) ≤ units * suc (longest graph) = mul-le-mul_right (suc (longest graph)) (omega arith) in
    let upper : suc units * suc (longest graph) ≤ suc more * suc (longest graph) = mul-le-mul_right (suc (longest graph)) (omega arith) in
    nodes_follow counts forward graph (most_nodes graph units) (most_nodes graph more) v nodes 0 size (omega arith) (omega arith) in
    stays units more (for_one_unit (nodes_do counts graph (most_nodes graph units) nodes 0))
    (for_one_unit (nodes_do counts graph (most_nodes graph more) nodes 0)) s after f h
    (counted_follows units (nodes_do counts graph (most_nodes graph units) nodes 0) (nodes_do counts graph (most_nodes graph more) nodes 0) begun) e

pub graph_end_stays : GraphEndStays
graph_end_stays counts forward graph call memory units more after f h e =
    graph_run_stays counts forward graph (find (λ (u : GraphPou). is_meant call.block u.head) graph.pous) call
    (λ unit found. within_longest graph.pous _ unit (sym (find_at (λ (u : GraphPou). is_meant call.block u.head) graph.pous) ∙ found)) memory
    units more after f h e
