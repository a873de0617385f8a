-- The nodes of a body are its blocks, each with the exit by which the body goes on.
use Rattle.std.proofs.Common.{◌≡◌, ℕ, zero, suc, ◌+◌, ◌-◌, ◌<◌, ◌≤◌, Bool, true, false, ◌||◌, ◌==◌, List, [], ◌∷◌, ◌++◌, Option, Some, None, option_and_then, drop, get_or, length, map, slice_get, refl, sym, ap, subst, ◌∙◌, arith, add-zero, append_assoc, eqb-true}
use Rattle.std.specs.Prelude.{All}
use Rattle.std.specs.List.{flat_map, list_any}
use Rattle.std.proofs.lemmas.Bool.{eqb-false}
use Rattle.std.proofs.lemmas.Option.{none-some, same_Some}
use Rattle.std.proofs.lemmas.List.{append-nil}
use Rattle.std.proofs.lemmas.List.Elements.{All-append, All-drop, All-head, All-nil, All-tail, All-take}
use Rattle.std.proofs.lemmas.List.Folds.{list_any_at}
use Rattle.stl_tree.specs.Accepted.{AreTargets, open_at, targets_of}
use Rattle.stl_tree.specs.Brackets.{open_behind}
use Rattle.stl_tree.specs.Blocks.{AreBlocksFrom, AreBlocksOf, Way, always, begins_at, if_made, instructions_of, is_aimed_at, is_last_at, on, one_of, stops, unless_ended, way_after, way_by, way_of}
use Rattle.stl_tree.specs.declared.program.Instr.{Instr}
use Rattle.stl_tree.specs.declared.program.JumpTest.TheVariants as jump
use Rattle.stl_tree.specs.declared.program.Op.{Op}
use Rattle.stl_tree.specs.declared.program.Op.TheVariants as op
use Rattle.flow_graph.specs.Graphs.{BeginAt, BeginsAt, HaveExits, IsExitTo, extent_of, ways_after, ways_of}
use Rattle.flow_graph.specs.declared.graph.Exit.{Exit}
use Rattle.flow_graph.specs.declared.graph.Node.{Node}
use Rattle.flow_graph.specs.inner.Beginnings.{AreBeginnings, numbers_from}
use Rattle.flow_graph.specs.inner.Making.{AreBlocks, bounds_from, exit_between, exit_by, exits_from, joined_from, number_at}

-- Nodes

-- the node from a position to the one before another
abbrev node_of : List ℕ → List Instr → ℕ → ℕ → Node
node_of numbers body first past =
    record { first = first; past = past; exit = exit_between numbers body first past }

-- the nodes from the first position of one on, where it is known of the positions from a later one on whether blocks
-- begin there
abbrev nodes_from : List ℕ → List Instr → ℕ → ℕ → List Bool → List Node
nodes_from numbers body first at [] = node_of numbers body first at ∷ []
nodes_from numbers body first at (true ∷ rest) =
    node_of numbers body first at ∷ nodes_from numbers body at (suc at) rest
nodes_from numbers body first at (false ∷ rest) = nodes_from numbers body first (suc at) rest

-- nodes are those of a body: its blocks, each with an exit to the nodes that follow it; there are no more of them than
-- instructions
record AreNodes (body : List Instr) (nodes : List Node) : Type 0 where
  blocks : AreBlocksOf body (map extent_of nodes)
  exits : HaveExits body nodes
  few : length nodes ≤ length body

-- Blocks

-- it is known of the positions from one on whether blocks begin there
record Tells (body : List Instr) (at : ℕ) (rest : List Bool) : Type 0 where
  size : at + length rest ≡ length body
  each : (k : ℕ) → k < length rest → get_or rest k false ≡ begins_at body (at + k)

tells_on : (body : List Instr) (at : ℕ) (b : Bool) (rest : List Bool) → Tells body at (b ∷ rest) → Tells body (suc at) rest
tells_on body at b rest t =
    let size : at + suc (length rest) ≡ length body = t.size in
    record {
      size = omega (arith, size);
      each = λ k h. let e : at + suc k ≡ suc at + k = omega arith in
          subst (λ n. get_or rest k false ≡ begins_at body n) e (t.each (suc k) (omega (arith, h)));
    }

tells_first : (body : List Instr) (at : ℕ) (b : Bool) (rest : List Bool) → Tells body at (b ∷ rest) → begins_at body at ≡ b
tells_first body at b rest t = sym (subst (λ n. b ≡ begins_at body n) (add-zero at) (t.each 0 (omega arith)))

are_blocks : (numbers : List ℕ) (body : List Instr) (first at : ℕ) (rest : List Bool) → Tells body at rest → first < at
    → ((k : ℕ) → first < k → k < at → begins_at body k ≡ false) → AreBlocksFrom body first (map extent_of (nodes_from numbers body first at rest))
are_blocks numbers body first at [] t h inside =
    let size : at + 0 ≡ length body = t.size in
    let end : at ≡ length body = omega (arith, size) in (
      record {
        first = refl;
        some = h;
        inside = inside;
        next = λ l. absurd (omega (arith, l, end));
        within = omega (arith, end);
      },
      end,
    )
are_blocks numbers body first at (true ∷ rest) t h inside =
    let size : at + suc (length rest) ≡ length body = t.size in (
      record {
        first = refl;
        some = h;
        inside = inside;
        next = λ l. tells_first body at true rest t;
        within = omega (arith, size);
      },
      are_blocks numbers body at (suc at) rest (tells_on body at true rest t) (omega arith) (λ k a b. absurd (omega (arith, a, b))),
    )
are_blocks numbers body first at (false ∷ rest) t h inside =
    are_blocks numbers body first (suc at) rest (tells_on body at false rest t) (omega (arith, h)) (λ k a b. more k a b (k == at) refl)
  where
    more : (k : ℕ) → first < k → k < suc at → (t : Bool) → (k == at) ≡ t → begins_at body k ≡ false
    more k a b true e = subst (λ n. begins_at body n ≡ false) (sym (eqb-true k at e)) (tells_first body at false rest t)
    more k a b false e = let apart : k ≡ at → ⊥ = eqb-false k at e in inside k a (omega (arith, b, apart))

-- Numbers

begins_first : (numbers : List ℕ) (body : List Instr) (first at : ℕ) (rest : List Bool) → BeginsAt (nodes_from numbers body first at rest) 0 first
begins_first numbers body first at [] = (node_of numbers body first at, refl, refl)
begins_first numbers body first at (true ∷ rest) = (node_of numbers body first at, refl, refl)
begins_first numbers body first at (false ∷ rest) = begins_first numbers body first (suc at) rest

-- the number at a position where a block begins is that of the node there
numbered : (numbers : List ℕ) (body : List Instr) (first at n : ℕ) (rest : List Bool) (k : ℕ) → get_or rest k false ≡ true
    → (j : ℕ) × (get_or (numbers_from n rest) k 0 ≡ n + j) × BeginsAt (nodes_from numbers body first at rest) (suc j) (at + k)
numbered numbers body first at n [] k e = absurd cc
numbered numbers body first at n (true ∷ rest) zero e =
    let b = begins_first numbers body at (suc at) rest in
    (0, sym (add-zero n), (b.0, b.1, b.2 ∙ sym (add-zero at)))
numbered numbers body first at n (false ∷ rest) zero e = absurd cc
numbered numbers body first at n (true ∷ rest) (suc k) e =
    let r = numbered numbers body at (suc at) (suc n) rest k e in
    let number : get_or (numbers_from (suc n) rest) k 0 ≡ suc n + r.0 = r.1 in
    let f : suc at + k ≡ at + suc k = omega arith in
    (suc r.0, omega (arith, number), subst (λ m. BeginsAt (nodes_from numbers body at (suc at) rest) (suc r.0) m) f r.2)
numbered numbers body first at n (false ∷ rest) (suc k) e =
    let r = numbered numbers body first (suc at) n rest k e in
    let f : suc at + k ≡ at + suc k = omega arith in
    (r.0, r.1, subst (λ m. BeginsAt (nodes_from numbers body first (suc at) rest) (suc r.0) m) f r.2)

-- Exits

-- what is right for each position to which a way leads
abbrev AllTargets : (ℕ → Type 0) → Way → Type 0
AllTargets P on = Unit {0}
AllTargets P (always to) = P to
AllTargets P (if_made to) = P to
AllTargets P unless_ended = Unit {0}
AllTargets P (one_of targets label) = All P targets × P label
AllTargets P stops = Unit {0}

begin_all : (nodes : List Node) (numbers targets : List ℕ) → All (λ t. BeginsAt nodes (number_at numbers t) t) targets
    → BeginAt nodes (map (number_at numbers) targets) targets
begin_all nodes numbers [] h = tt
begin_all nodes numbers (t ∷ targets) h = (
  All-head (λ t. BeginsAt nodes (number_at numbers t) t) t targets h,
  begin_all nodes numbers targets (All-tail (λ t. BeginsAt nodes (number_at numbers t) t) t targets h),
)

is_exit : (nodes : List Node) (numbers : List ℕ) (way : Way) → AllTargets (λ t. BeginsAt nodes (number_at numbers t) t) way
    → IsExitTo nodes way (exit_by numbers way)
is_exit nodes numbers on h = tt
is_exit nodes numbers (always to) h = h
is_exit nodes numbers (if_made to) h = h
is_exit nodes numbers unless_ended h = tt
is_exit nodes numbers (one_of targets label) h = (begin_all nodes numbers targets h.0, h.1)
is_exit nodes numbers stops h = tt

-- what is right for each position to which instructions jump
abbrev AllAims : (ℕ → Type 0) → List Instr → Type 0
AllAims P body = All (λ (i : Instr). All P (targets_of i.op)) body

all_listed : (P : ℕ → Type 0) (rest : List Instr) → AllAims P rest → All P (flat_map (λ (i : Instr). targets_of i.op) rest)
all_listed P [] h = All-nil P
all_listed P (i ∷ rest) h =
    All-append P (targets_of i.op) (flat_map (λ (i : Instr). targets_of i.op) rest)
    (All-head (λ (i : Instr). All P (targets_of i.op)) i rest h)
    (all_listed P rest (All-tail (λ (i : Instr). All P (targets_of i.op)) i rest h))

aims_after : (P : ℕ → Type 0) (o : Op) → All P (targets_of o) → AllTargets P (way_after o)
aims_after P (op.Jump jump.Always to) h = All-head P to [] h
aims_after P (op.Jump t to) h = All-head P to [] h
aims_after P (op.Loop to) h = All-head P to [] h
aims_after P (op.JumpList count label) h = (All-nil P, All-head P label [] h)
aims_after P other h = tt

aims_by : (P : ℕ → Type 0) (o : Op) (rest : List Instr) (way : Way) → All P (targets_of o) → AllAims P rest → AllTargets P way
    → AllTargets P (way_by o rest way)
aims_by P (op.JumpList count label) rest way a b c = (all_listed P rest b, All-head P label [] a)
aims_by P other rest way a b c = c

aims_of : (P : ℕ → Type 0) (block : List Instr) → AllAims P block → AllTargets P (way_of block)
aims_of P [] h = tt
aims_of P (i ∷ []) h = aims_after P i.op (All-head (λ (i : Instr). All P (targets_of i.op)) i [] h)
aims_of P (i ∷ j ∷ rest) h =
    let more = All-tail (λ (i : Instr). All P (targets_of i.op)) i (j ∷ rest) h in
    aims_by P i.op (j ∷ rest) (way_of (j ∷ rest)) (All-head (λ (i : Instr). All P (targets_of i.op)) i (j ∷ rest) h) more
    (aims_of P (j ∷ rest) more)

-- each node has the exit of its way
made_so : (numbers : List ℕ) (body : List Instr) (first at : ℕ) (rest : List Bool) (i : ℕ) (node : Node)
    → slice_get (nodes_from numbers body first at rest) i ≡ Some node → node.exit ≡ exit_by numbers (way_of (instructions_of body (extent_of node)))
made_so numbers body first at [] zero node e =
    subst (λ (n : Node). n.exit ≡ exit_by numbers (way_of (instructions_of body (extent_of n)))) (same_Some (node_of numbers body first at) node e) refl
made_so numbers body first at [] (suc i) node e = absurd (none-some node e)
made_so numbers body first at (true ∷ rest) zero node e =
    subst (λ (n : Node). n.exit ≡ exit_by numbers (way_of (instructions_of body (extent_of n)))) (same_Some (node_of numbers body first at) node e) refl
made_so numbers body first at (true ∷ rest) (suc i) node e = made_so numbers body at (suc at) rest i node e
made_so numbers body first at (false ∷ rest) i node e = made_so numbers body first (suc at) rest i node e

-- Positions to which jumps lead

open_within : (n : ℕ) (body : List Instr) (to m : ℕ) → open_at n body to ≡ Some m → to < length body
open_within n [] to m e = absurd (none-some m e)
open_within n (i ∷ rest) zero m e = omega arith
open_within n (i ∷ rest) (suc to) m e =
    let h : to < length rest = by (λ l q. open_within l rest to m q) (open_behind i.op n) e in omega (arith, h)
  where
    by : ((l : ℕ) → open_at l rest to ≡ Some m → to < length rest) → (o : Option ℕ) → option_and_then (λ l. open_at l rest to) o ≡ Some m → to < length rest
    by more None q = absurd (none-some m q)
    by more (Some l) q = more l q

begins_where : (body : List Instr) (to : ℕ) → is_aimed_at body to ≡ true → begins_at body to ≡ true
begins_where body zero e = refl
begins_where body (suc to) e = ap (λ b. b || is_last_at 0 body to) e

same_number : (n : ℕ) → (n == n) ≡ true
same_number n = by (n == n) refl
  where
    by : (t : Bool) → (n == n) ≡ t → t ≡ true
    by true e = refl
    by false e = absurd (eqb-false n n e refl)

-- a position to which a jump leads is inside the body, and a block begins there
pub record IsAimed (body : List Instr) (to : ℕ) : Type 0 where
  pub inside : to < length body
  pub begins : begins_at body to ≡ true

all_aimed : (body : List Instr) → AreTargets body → AllAims (IsAimed body) body
all_aimed body h = λ k d l j e m.
    let ts = targets_of (get_or body k d).op in
    let to = get_or ts j e in
    record {
      inside = open_within 0 body to 0 (h k d l j e m);
      begins = begins_where body to
          (list_any_at (λ (i : Instr). list_any (λ to'. to' == to) (targets_of i.op)) body k d l
          (list_any_at (λ to'. to' == to) ts j e m (same_number to)));
    }

-- The nodes of a body

few_nodes : (numbers : List ℕ) (body : List Instr) (first at : ℕ) (rest : List Bool) → length (nodes_from numbers body first at rest) ≤ length rest + 1
few_nodes numbers body first at [] = omega arith
few_nodes numbers body first at (true ∷ rest) = let h = few_nodes numbers body at (suc at) rest in omega (arith, h)
few_nodes numbers body first at (false ∷ rest) = let h = few_nodes numbers body first (suc at) rest in omega (arith, h)

-- at each position where a block begins, the node with the number there begins
number_begins : (body : List Instr) (rest : List Bool) → Tells body 1 rest → (numbers : List ℕ) (k : ℕ) → k < length body → begins_at body k ≡ true
    → BeginsAt (nodes_from numbers body 0 1 rest) (number_at (0 ∷ numbers_from 1 rest) k) k
number_begins body rest t numbers zero h e = begins_first numbers body 0 1 rest
number_begins body rest t numbers (suc k) h e =
    let size : 1 + length rest ≡ length body = t.size in
    let there : k < length rest = omega (arith, size, h) in
    let f : 1 + k ≡ suc k = omega arith in
    let told : get_or rest k false ≡ begins_at body (suc k) = subst (λ n. get_or rest k false ≡ begins_at body n) f (t.each k there) in
    let r = numbered numbers body 0 1 1 rest k (told ∙ e) in
    let number : get_or (numbers_from 1 rest) k 0 ≡ 1 + r.0 = r.1 in
    let g : suc r.0 ≡ get_or (numbers_from 1 rest) k 0 = omega (arith, number) in
    subst (λ j. BeginsAt (nodes_from numbers body 0 1 rest) j (suc k)) g (subst (λ n. BeginsAt (nodes_from numbers body 0 1 rest) (suc r.0) n) f r.2)

exits_so : (body : List Instr) (nodes : List Node) (numbers : List ℕ)
    → ((k : ℕ) → k < length body → begins_at body k ≡ true → BeginsAt nodes (number_at numbers k) k)
    → AreTargets body → (node : Node) → node.exit ≡ exit_by numbers (way_of (instructions_of body (extent_of node)))
    → IsExitTo nodes (way_of (instructions_of body (extent_of node))) node.exit
exits_so body nodes numbers begin targets node e =
    let block = instructions_of body (extent_of node) in
    let P : ℕ → Type 0 = λ t. BeginsAt nodes (number_at numbers t) t in
    let Lead : Instr → Type 0 = λ i. All P (targets_of i.op) in
    let all : AllAims P body = λ k d l j f m. let a = all_aimed body targets k d l j f m in
    begin (get_or (targets_of (get_or body k d).op) j f) a.inside a.begins in
    let inside : AllAims P block = All-take Lead (node.past - node.first) (drop node.first body) (All-drop Lead node.first body all) in
    subst (λ x. IsExitTo nodes (way_of block) x) (sym e) (is_exit nodes numbers (way_of block) (aims_of P block inside))

made : (body : List Instr) (rest : List Bool) → Tells body 1 rest → AreTargets body
    → AreNodes body (nodes_from (0 ∷ numbers_from 1 rest) body 0 1 rest)
made body rest t targets =
    let size : 1 + length rest ≡ length body = t.size in
    let few = few_nodes numbers body 0 1 rest in
    record {
      blocks = are_blocks numbers body 0 1 rest t (omega arith) (λ k a b. absurd (omega (arith, a, b)));
      exits = λ i node e. exits_so body nodes numbers (number_begins body rest t numbers) targets node (made_so numbers body 0 1 rest i node e);
      few = omega (arith, few, size);
    }
  where
    numbers : List ℕ
    numbers = 0 ∷ numbers_from 1 rest

    nodes : List Node
    nodes = nodes_from numbers body 0 1 rest

made_of : (body : List Instr) (rest : List Bool) → Tells body 1 rest → (numbers : List ℕ) → numbers ≡ numbers_from 0 (true ∷ rest) → AreTargets body
    → AreNodes body (nodes_from numbers body 0 1 rest)
made_of body rest t numbers e targets = subst (λ ns. AreNodes body (nodes_from ns body 0 1 rest)) (sym e) (made body rest t targets)

-- Bounds and exits

-- one more node, behind the others
pub one_more_node : (i : ℕ) (bounds : List ℕ) (exits : List Exit) (exit : Exit)
    → joined_from i bounds (exits ++ exit ∷ [])
    ≡ joined_from i bounds exits
    ++ record { first = get_or bounds (i + length exits) 0; past = get_or bounds (suc (i + length exits)) 0; exit = exit } ∷ []
one_more_node i bounds [] exit =
    let e : i ≡ i + 0 = omega arith in
    ap (λ (k : ℕ). record { first = get_or bounds k 0; past = get_or bounds (suc k) 0; exit = exit } ∷ []) e
one_more_node i bounds (first ∷ exits) exit =
    let e : suc i + length exits ≡ i + suc (length exits) = omega arith in
    ap (λ (nodes : List Node). record { first = get_or bounds i 0; past = get_or bounds (suc i) 0; exit = first } ∷ nodes)
    (one_more_node (suc i) bounds exits exit ∙ ap (λ (k : ℕ). joined_from (suc i) bounds exits
    ++ record { first = get_or bounds k 0; past = get_or bounds (suc k) 0; exit = exit } ∷ []) e)

at_first : (before : List ℕ) (first : ℕ) (rest : List ℕ) → get_or (before ++ first ∷ rest) (length before) 0 ≡ first
at_first [] first rest = refl
at_first (b ∷ before) first rest = at_first before first rest

at_second : (before : List ℕ) (first second : ℕ) (rest : List ℕ) → get_or (before ++ first ∷ second ∷ rest) (suc (length before)) 0 ≡ second
at_second [] first second rest = refl
at_second (b ∷ before) first second rest = at_second before first second rest

length_more : (before : List ℕ) (x : ℕ) → length (before ++ x ∷ []) ≡ suc (length before)
length_more [] x = refl
length_more (b ∷ before) x = ap suc (length_more before x)

joins : (numbers : List ℕ) (body : List Instr) (first at : ℕ) (rest : List Bool) (before : List ℕ)
    → joined_from (length before) (before ++ first ∷ bounds_from at rest) (exits_from numbers body (first ∷ bounds_from at rest))
    ≡ nodes_from numbers body first at rest
joins numbers body first at [] before =
    let exit = exit_between numbers body first at in
    ap (λ (k : ℕ). record { first = k; past = get_or (before ++ first ∷ at ∷ []) (suc (length before)) 0; exit = exit } ∷ []) (at_first before first (at ∷ []))
    ∙ ap (λ (k : ℕ). record { first = first; past = k; exit = exit } ∷ []) (at_second before first at [])
joins numbers body first at (false ∷ rest) before = joins numbers body first (suc at) rest before
joins numbers body first at (true ∷ rest) before =
    let exit = exit_between numbers body first at in
    let more = bounds_from (suc at) rest in
    let others = exits_from numbers body (at ∷ more) in
    let bounds = before ++ first ∷ at ∷ more in
    let same : joined_from (suc (length before)) bounds others ≡ nodes_from numbers body at (suc at) rest =
    ap (λ (k : ℕ). joined_from k bounds others) (sym (length_more before first))
    ∙ ap (λ (bs : List ℕ). joined_from (length (before ++ first ∷ [])) bs others) (sym (append_assoc before (first ∷ []) (at ∷ more)))
    ∙ joins numbers body at (suc at) rest (before ++ first ∷ []) in
    ap (λ (k : ℕ). record { first = k; past = get_or bounds (suc (length before)) 0; exit = exit } ∷ joined_from (suc (length before)) bounds others)
    (at_first before first (at ∷ more))
    ∙ ap (λ (k : ℕ). record { first = first; past = k; exit = exit } ∷ joined_from (suc (length before)) bounds others) (at_second before first at more)
    ∙ ap (λ (nodes : List Node). record { first = first; past = at; exit = exit } ∷ nodes) same

length_joined : (i : ℕ) (bounds : List ℕ) (exits : List Exit) → length (joined_from i bounds exits) ≡ length exits
length_joined i bounds [] = refl
length_joined i bounds (exit ∷ exits) = ap suc (length_joined (suc i) bounds exits)

size_of_exits : (numbers : List ℕ) (body : List Instr) (first at : ℕ) (rest : List Bool)
    → length (exits_from numbers body (first ∷ bounds_from at rest)) ≡ length (bounds_from at rest)
size_of_exits numbers body first at [] = refl
size_of_exits numbers body first at (false ∷ rest) = size_of_exits numbers body first (suc at) rest
size_of_exits numbers body first at (true ∷ rest) = ap suc (size_of_exits numbers body at (suc at) rest)

-- where no two positions are left, all exits are made
pub all_made : (numbers : List ℕ) (body : List Instr) (rest bounds : List ℕ) (exits : List Exit) → length rest < 2
    → exits ++ exits_from numbers body rest ≡ exits_from numbers body bounds → exits ≡ exits_from numbers body bounds
all_made numbers body [] bounds exits h e = sym (append-nil exits) ∙ e
all_made numbers body (first ∷ []) bounds exits h e = sym (append-nil exits) ∙ e
all_made numbers body (first ∷ past ∷ rest) bounds exits h e = absurd (omega (arith, h))

-- what is made is the blocks of the body
pub blocks_made : (body : List Instr) (begins : List Bool) (numbers bounds : List ℕ) (exits : List Exit) → AreBeginnings body begins
    → numbers ≡ numbers_from 0 begins → bounds ≡ bounds_from 0 begins → exits ≡ exits_from numbers body bounds → 0 < length body → AreTargets body
    → AreBlocks body bounds exits
blocks_made body [] numbers bounds exits known e f g some targets = let none : 0 ≡ length body = known.size in absurd (omega (arith, none, some))
blocks_made body (false ∷ rest) numbers bounds exits known e f g some targets = let first : false ≡ true = known.each 0 some in absurd cc
blocks_made body (true ∷ rest) numbers bounds exits known e f g some targets =
    let told : Tells body 1 rest = record {
      size = let size : suc (length rest) ≡ length body = known.size in omega (arith, size);
      each = λ k h.
          let g : suc k ≡ 1 + k = omega arith in
          let size : suc (length rest) ≡ length body = known.size in
          subst (λ n. get_or rest k false ≡ begins_at body n) g (known.each (suc k) (omega (arith, h, size)));
    } in
    let all : List ℕ = 0 ∷ bounds_from 1 rest in
    let same : joined_from 0 all (exits_from numbers body all) ≡ nodes_from numbers body 0 1 rest = joins numbers body 0 1 rest [] in
    let nodes : AreNodes body (joined_from 0 all (exits_from numbers body all)) = subst (AreNodes body) (sym same) (made_of body rest told numbers e targets) in
    let size : length (exits_from numbers body all) ≡ length (bounds_from 1 rest) = size_of_exits numbers body 0 1 rest in
    let few : length (joined_from 0 all (exits_from numbers body all)) ≡ length (exits_from numbers body all) =
    length_joined 0 all (exits_from numbers body all) in
    let whole : AreBlocks body all (exits_from numbers body all) = record {
      blocks = nodes.blocks;
      lead = nodes.exits;
      size = ap suc size;
      few = let h = nodes.few in omega (arith, h, few);
    } in
    subst (AreBlocks body bounds) (sym g) (subst (λ bs. AreBlocks body bs (exits_from numbers body bs)) (sym f) whole)

-- the exits of joined nodes are those that were joined
pub exits_joined : (i : ℕ) (bounds : List ℕ) (exits : List Exit) → map (λ (node : Node). ways_of node.exit) (joined_from i bounds exits) ≡ ways_after exits
exits_joined i bounds [] = refl
exits_joined i bounds (exit ∷ exits) = ap (λ ways. ways_of exit ∷ ways) (exits_joined (suc i) bounds exits)
