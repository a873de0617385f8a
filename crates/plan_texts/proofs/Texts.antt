-- What is written of a piece is what its region asks for.
use Rattle.std.proofs.Common.{◌≡◌, ℕ, zero, suc, ◌+◌, ◌-◌, ◌<◌, ◌≤◌, Bool, true, false, not, ◌&&◌, List, [], ◌∷◌, ◌++◌, length, drop, append_assoc, refl, sym, ap, subst, ◌∙◌, arith}
use Rattle.std.specs.Option.{option_map}
use Rattle.std.specs.Prelude.{Option, Some, None, slice_get}
use Rattle.std.proofs.lemmas.List.{drop-drop, length-drop}
use Rattle.std.proofs.lemmas.Option.{same_Some, slice_get-map}
use Rattle.st_tree.specs.declared.expr.Expr.{Expr}
use Rattle.st_tree.specs.declared.graph.StExit.{StExit}
use Rattle.st_tree.specs.declared.graph.StExit.TheVariants as exit
use Rattle.st_tree.specs.declared.graph.StNode.{StNode}
use Rattle.st_tree.specs.declared.program.Stmt.{Stmt}
use Rattle.stl_tree.specs.Blocks.{Way, if_made}
use Rattle.stl_tree.specs.Flows.{GoesOn, IsSegment, Segment}
use Rattle.nesting_laws.specs.Plans.{IsPlanOf, Plan, levels, no_loop}
use Rattle.graph_rules.specs.Flow.{flow_of, way_by}
use Rattle.region_laws.specs.Regions.{Place, Region, at as place_at, choice, forever, fork, off, text_of}
use Rattle.region_plans.specs.PlanRegion.{exit_region, fork_region, loop_region, one_region, region_of, test_region}
use Rattle.unit_regions.specs.UnitCharts.{blocks_between}
use Rattle.unit_regions.specs.MadeCharts.{ending_of}
use Rattle.unit_regions.specs.UnitRegion.{place_if, region_by}
use Rattle.dispatch_loops.specs.Charted.{chart_in}
use Rattle.segment_plans.specs.Counts.{is_reached}
use Rattle.segment_plans.specs.Known.{AreKnown}
use Rattle.segment_plans.specs.Planned.{HasInner, IsPartOf, IsPiece, arm, around_of, body, first_arm, whole}
use Rattle.segment_plans.specs.declared.blocks.Blocks.{Blocks}
use Rattle.segment_plans.specs.declared.planning.Part.{Part}
use Rattle.segment_plans.specs.declared.planning.Piece.{Piece}
use Rattle.segment_plans.specs.declared.planning.Piece.TheVariants as piece
use Rattle.plan_texts.specs.declared.leads.Lead.{Lead}
use Rattle.plan_texts.specs.declared.leads.Lead.TheVariants as lead
use Rattle.plan_texts.specs.PlanTexts.{IsWritten}
use Rattle.plan_texts.specs.inner.Leads.{Adds, AddsTo, IsWriting, bare_region, place_in}
use Rattle.plan_texts.specs.inner.Steps.{HasSteps, Writes, WritesInner, WritesPart, WritesPiece, region_at, test_in}
use Rattle.plan_texts.proofs.Exiting.{after_steps}
use Rattle.plan_texts.proofs.Nexts.{within}

-- Nodes

node_at : (at : ℕ) (all : List StNode) (n : StNode) (more : List StNode) → drop at all ≡ n ∷ more → slice_get all at ≡ Some n
node_at zero [] n more e = absurd cc
node_at zero (x ∷ xs) n more e = let f : x ≡ n = cc in ap (λ (y : StNode). Some y) f
node_at (suc k) [] n more e = absurd cc
node_at (suc k) (x ∷ xs) n more e = node_at k xs n more e

rest_at : (at : ℕ) (all : List StNode) (n : StNode) (more : List StNode) → drop at all ≡ n ∷ more → drop (at + 1) all ≡ more
rest_at at all n more e = sym (drop-drop 1 at all) ∙ ap (drop 1) e

some_at : (at : ℕ) (all : List StNode) → drop at all ≡ [] → at < length all → ⊥
some_at at all e h = let f : length (drop at all) ≡ 0 = ap length e in omega (arith, f, length-drop at all, h)

-- the first node is taken
pub record IsTaken (all : List StNode) (at : ℕ) (rest : List StNode) (old new : List Stmt) (found : Option StExit) : Type 0 where
  pub node : StNode
  pub there : slice_get all at ≡ Some node
  pub left : rest ≡ drop (at + 1) all
  pub steps : new ≡ old ++ node.steps
  pub exit_is : found ≡ Some node.exit

pub taken : (all : List StNode) (at : ℕ) (nodes rest : List StNode) (old new : List Stmt) (found : Option StExit) → at < length all → nodes ≡ drop at all
    → HasSteps nodes rest old new found → IsTaken all at rest old new found
taken all at [] rest old new found h e s = absurd (some_at at all (sym e) h)
taken all at (n ∷ more) rest old new found h e s = record {
  node = n;
  there = node_at at all n more (sym e);
  left = s.0 ∙ sym (rest_at at all n more (sym e));
  steps = s.1;
  exit_is = s.2;
}

-- Exits

pub way_there : (all : List StNode) (at : ℕ) (n : StNode) (way : Way) → slice_get all at ≡ Some n → slice_get (flow_of all).ways at ≡ Some way
    → way_by n.exit ≡ way
way_there all at n way e f =
    same_Some (way_by n.exit) way
    (sym (slice_get-map (λ (m : StNode). way_by m.exit) all at ∙ ap (option_map (λ (m : StNode). way_by m.exit)) e) ∙ f)

branch_tests : (x : StExit) (t : ℕ) → way_by x ≡ if_made t → test_in x ≡ None → ⊥
branch_tests exit.Fall t e f = absurd cc
branch_tests (exit.Jump j) t e f = absurd cc
branch_tests (exit.Branch test j) t e f = absurd cc
branch_tests (exit.EndIf test) t e f = absurd cc
branch_tests (exit.Table test targets last) t e f = absurd cc
branch_tests exit.End t e f = absurd cc

-- a table stands in no plan
no_table : (all : List StNode) (from past : ℕ) (blocks : Blocks) (paid : Bool) (part : Part) (at : ℕ) (n : StNode) → slice_get all at ≡ Some n
    → IsPiece (blocks_between all from past) blocks part paid at piece.One → (e : Expr) (targets : List ℕ) (last : ℕ) → n.exit ≡ exit.Table e targets last → ⊥
no_table all from past blocks paid part at n there one e targets last x =
    one.no_list (
      targets,
      last,
      (
        one.here,
        slice_get-map (λ (m : StNode). way_by m.exit) all at
            ∙ ap (option_map (λ (m : StNode). way_by m.exit)) there ∙ ap (λ (y : StExit). Some (way_by y)) x,
      ),
    )

-- Blocks

-- a block is written
pub block_written : (all : List StNode) (from past : ℕ) (blocks : Blocks) (steps : List Stmt) (tail : Bool) (left : ℕ) (part : Part) (at : ℕ) (paid : Bool)
    (inner : HasInner (blocks_between all from past) left part at piece.One) (nodes rest : List StNode) (old mid new : List Stmt) (x : StExit) (to : Lead)
    → IsWriting all from past blocks steps → IsPartOf (blocks_between all from past) part at → at < part.past
    → IsPiece (blocks_between all from past) blocks part paid at piece.One → nodes ≡ drop at all → HasSteps nodes rest old mid (Some x)
    → ((more : Region) → Adds mid new to (exit_region (chart_in all blocks) at part.past (place_in tail part) (around_of part.around) more [] x) more)
    → Writes (chart_in all blocks) (place_in tail part) (blocks_between all from past) left part at piece.One inner rest old new to
block_written all from past blocks steps tail left part at paid inner nodes rest old mid new x to w p low one e s adds =
    let size : part.past ≤ length all = within all from past blocks steps w part at p in
    let t : IsTaken all at rest old mid (Some x) = taken all at nodes rest old mid (Some x) (omega (arith, low, size)) e s in
    let same : x ≡ t.node.exit = same_Some x t.node.exit t.exit_is in
    record {
      taken = t.left;
      adds = λ more.
          subst (λ (o : Option StNode). Adds old new to (one_region (chart_in all blocks) at part.past (place_in tail part) (around_of part.around) more o)
          more)
          (sym t.there)
          (after_steps (chart_in all blocks) at part.past (place_in tail part) (around_of part.around) more t.node.steps t.node.exit old new to
          (no_table all from past blocks paid part at t.node t.there one)
          (subst (λ (l : List Stmt). Adds l new to
          (exit_region (chart_in all blocks) at part.past (place_in tail part) (around_of part.around) more [] t.node.exit) more) t.steps
          (subst (λ (y : StExit). Adds mid new to
          (exit_region (chart_in all blocks) at part.past (place_in tail part) (around_of part.around) more [] y) more) same (adds more))));
    }

-- where no node is left, or its exit doesn't branch, nothing can be written
pub node_there : (all : List StNode) (from past : ℕ) (blocks : Blocks) (steps : List Stmt) (part : Part) (at : ℕ) (nodes rest : List StNode)
    (old new : List Stmt) → IsWriting all from past blocks steps → IsPartOf (blocks_between all from past) part at → at < part.past → nodes ≡ drop at all
    → HasSteps nodes rest old new None → ⊥
node_there all from past blocks steps part at nodes rest old new w p low e s =
    let size : part.past ≤ length all = within all from past blocks steps w part at p in
    let t : IsTaken all at rest old new None = taken all at nodes rest old new None (omega (arith, low, size)) e s in
    let f : None ≡ Some t.node.exit = t.exit_is in absurd cc

pub test_there : (all : List StNode) (from past : ℕ) (blocks : Blocks) (steps : List Stmt) (part : Part) (at t : ℕ) (nodes rest : List StNode)
    (old new : List Stmt) (x : StExit) → IsWriting all from past blocks steps → IsPartOf (blocks_between all from past) part at → at < part.past
    → nodes ≡ drop at all → HasSteps nodes rest old new (Some x) → GoesOn (blocks_between all from past) at (if_made t) → None ≡ test_in x → ⊥
test_there all from past blocks steps part at t nodes rest old new x w p low e s jump none =
    let size : part.past ≤ length all = within all from past blocks steps w part at p in
    let k : IsTaken all at rest old new (Some x) = taken all at nodes rest old new (Some x) (omega (arith, low, size)) e s in
    let same : x ≡ k.node.exit = same_Some x k.node.exit k.exit_is in
    branch_tests k.node.exit t (way_there all at k.node (if_made t) k.there jump.1) (ap test_in (sym same) ∙ sym none)

-- Arms

fork_adds : (old steps : List Stmt) (e : Expr) (there behind : Region) (bodies others : List Stmt) (join : Place) (more : Region)
    → ((next : ℕ) → bodies ≡ text_of next there) → ((next : ℕ) → others ≡ text_of next behind)
    → Adds old ((old ++ steps) ++ choice e bodies others ∷ []) lead.Onward (fork steps e there behind join more) more
fork_adds old steps e there behind bodies others join more f s = record {
  text = λ next.
      ap (λ (x : List Stmt). old ++ (steps ++ choice e x (text_of next behind) ∷ text_of next more)) (sym (f next))
      ∙ ap (λ (x : List Stmt). old ++ (steps ++ choice e bodies x ∷ text_of next more)) (sym (s next))
      ∙ sym (append_assoc old steps (choice e bodies others ∷ text_of next more))
      ∙ sym (append_assoc (old ++ steps) (choice e bodies others ∷ []) (text_of next more));
  falls = refl;
}

fork_here : (o : Option StNode) (n : StNode) (x : StExit) (e : Expr) (there behind : Region) (join : Place) (more : Region) → o ≡ Some n → x ≡ n.exit
    → Some e ≡ test_in x → fork_region there behind join more o ≡ fork n.steps e there behind join more
fork_here o n x e there behind join more f g h =
    ap (fork_region there behind join more) f ∙ by n.exit (h ∙ ap test_in g)
  where
    by : (y : StExit) → Some e ≡ test_in y → test_region there behind join more n.steps y ≡ fork n.steps e there behind join more
    by exit.Fall k = absurd cc
    by (exit.Jump j) k = absurd cc
    by (exit.Branch test j) k =
        let same : test ≡ e = sym (same_Some e test k) in ap (λ (z : Expr). fork n.steps z there behind join more) same
    by (exit.EndIf test) k = absurd cc
    by (exit.Table test targets last) k = absurd cc
    by exit.End k = absurd cc

pub forked : (all : List StNode) (from past : ℕ) (blocks : Blocks) (steps : List Stmt) (part : Part) (at : ℕ) (nodes rest : List StNode)
    (old mid : List Stmt) (x : StExit) (e : Expr) (there behind : Region) (bodies others : List Stmt) (join : Place) (more : Region)
    → IsWriting all from past blocks steps → IsPartOf (blocks_between all from past) part at → at < part.past
    → nodes ≡ drop at all → HasSteps nodes rest old mid (Some x) → Some e ≡ test_in x
    → ((next : ℕ) → bodies ≡ text_of next there) → ((next : ℕ) → others ≡ text_of next behind)
    → Adds old (mid ++ choice e bodies others ∷ []) lead.Onward (fork_region there behind join more (slice_get all at)) more
forked all from past blocks steps part at nodes rest old mid x e there behind bodies others join more w p low f s h b o =
    let size : part.past ≤ length all = within all from past blocks steps w part at p in
    let k : IsTaken all at rest old mid (Some x) = taken all at nodes rest old mid (Some x) (omega (arith, low, size)) f s in
    let same : x ≡ k.node.exit = same_Some x k.node.exit k.exit_is in
    subst (λ (r : Region). Adds old (mid ++ choice e bodies others ∷ []) lead.Onward r more)
    (sym (fork_here (slice_get all at) k.node x e there behind join more k.there same h))
    (subst (λ (l : List Stmt). Adds old (l ++ choice e bodies others ∷ []) lead.Onward (fork k.node.steps e there behind join more) more) (sym k.steps)
    (fork_adds old k.node.steps e there behind bodies others join more b o))

pub rest_of : (all : List StNode) (from past : ℕ) (blocks : Blocks) (steps : List Stmt) (part : Part) (at : ℕ) (nodes rest : List StNode)
    (old mid : List Stmt) (x : StExit) → IsWriting all from past blocks steps → IsPartOf (blocks_between all from past) part at → at < part.past
    → nodes ≡ drop at all → HasSteps nodes rest old mid (Some x) → rest ≡ drop (at + 1) all
rest_of all from past blocks steps part at nodes rest old mid x w p low f s =
    let size : part.past ≤ length all = within all from past blocks steps w part at p in
    let k : IsTaken all at rest old mid (Some x) = taken all at nodes rest old mid (Some x) (omega (arith, low, size)) f s in k.left

arm_in : (g : Segment) (part : Part) (at t follow : ℕ) → IsPartOf g part at → at < t → t ≤ part.past → IsPartOf g (arm part t follow) (at + 1)
arm_in g part at t follow inside low up = record { low = omega (arith, inside.low); ordered = omega (arith, low); high = omega (arith, up, inside.high) }

pub arm_written : (blocks : Blocks) (steps : List Stmt) (tail : Bool) (left : ℕ) (part : Part) (at t d : ℕ) (nodes rest last : List StNode)
    (old mid other : List Stmt) (x : StExit) (e : Expr) → at < d → d ≤ part.past → HasSteps nodes rest old mid (Some x) → Some e ≡ test_in x
    → WritesInner blocks steps left (arm part d t) (at + 1) false rest last other
    → WritesPiece blocks steps tail left part at (piece.Arm t d) nodes last old (mid ++ choice e [] other ∷ []) lead.Onward
arm_written blocks steps tail left part at t d nodes rest last old mid other x e low up s h w = λ all from past unit inside paid inner fits f.
    let g : Segment = blocks_between all from past in
    let before : at < part.past = omega (arith, low, up) in
    let k = w all from past unit (arm_in g part at d t inside low up) inner.1 inner.0
    (rest_of all from past blocks steps part at nodes rest old mid x unit inside before f s) in
    record {
      taken = k.0;
      adds = λ more.
          forked all from past blocks steps part at nodes rest old mid x e off
          (region_at (chart_in all blocks) (place_at t) (arm part d t) (at + 1) inner.1.0)
          [] other (place_at t) more unit inside before f s h (λ next. refl) k.1;
    }

pub arms_written : (blocks : Blocks) (steps : List Stmt) (tail : Bool) (left : ℕ) (part : Part) (at t u d : ℕ) (nodes rest between last : List StNode)
    (old mid other there : List Stmt) (x : StExit) (e : Expr) → at < t → t < d → d ≤ part.past → HasSteps nodes rest old mid (Some x) → Some e ≡ test_in x
    → WritesInner blocks steps left (first_arm part t u) (at + 1) false rest between other
    → WritesInner blocks steps left (arm part d u) t false between last there
    → WritesPiece blocks steps tail left part at (piece.Arms t u d) nodes last old (mid ++ choice e there other ∷ []) lead.Onward
arms_written blocks steps tail left part at t u d nodes rest between last old mid other there x e low order up s h w v = λ all from past unit inside paid
    inner fits f.
    let g : Segment = blocks_between all from past in
    let before : at < part.past = omega (arith, low, order, up) in
    let first : IsPartOf g (first_arm part t u) (at + 1) =
    record { low = omega (arith, inside.low); ordered = omega (arith, low); high = omega (arith, order, up, inside.high) } in
    let k = w all from past unit first inner.1 inner.0
    (rest_of all from past blocks steps part at nodes rest old mid x unit inside before f s) in
    let second : IsPartOf g (arm part d u) t =
    record { low = omega (arith, inside.low, low); ordered = omega (arith, order); high = omega (arith, up, inside.high) } in
    let m = v all from past unit second inner.2 inner.0 k.0 in
    record {
      taken = m.0;
      adds = λ more.
          forked all from past blocks steps part at nodes rest old mid x e (region_at (chart_in all blocks) (place_at u) (arm part d u) t inner.2.0)
          (region_at (chart_in all blocks) (place_at u) (first_arm part t u) (at + 1) inner.1.0) there other (place_at u) more unit inside before f s h m.1
          k.1;
    }

-- Loops

loop_onward : (b : Bool) (old turn : List Stmt) (inner : Region) (l : ℕ) (place : Place) (more : Region) → b ≡ true → ((next : ℕ) → turn ≡ text_of next inner)
    → Adds old (old ++ forever turn ∷ []) lead.Onward (loop_region b inner l place more) more
loop_onward true old turn inner l place more e t = record {
  text = λ next.
      ap (λ (x : List Stmt). old ++ forever x ∷ text_of next more) (sym (t next)) ∙ sym (append_assoc old (forever turn ∷ []) (text_of next more));
  falls = refl;
}
loop_onward false old turn inner l place more e t = absurd cc

loop_off : (b : Bool) (old turn : List Stmt) (inner : Region) (l : ℕ) (place : Place) (more : Region) → b ≡ false → ((next : ℕ) → turn ≡ text_of next inner)
    → Adds old (old ++ forever turn ∷ []) lead.Off (loop_region b inner l place more) more
loop_off true old turn inner l place more e t = absurd cc
loop_off false old turn inner l place more e t = record {
  text = λ next.
      ap (λ (x : List Stmt). old ++ forever x ∷ []) (sym (t next)) ∙ sym (append_assoc old (forever turn ∷ []) []);
  falls = refl;
}

next_reached : (blocks : Blocks) (l : ℕ) (leaves b : Bool) → (leaves && is_reached blocks (l + 1)) ≡ b → (leaves && is_reached blocks (suc l)) ≡ b
next_reached blocks l leaves b e = ap (λ n. leaves && is_reached blocks n) (let f : suc l ≡ l + 1 = omega arith in f) ∙ e

pub loop_written : (blocks : Blocks) (steps : List Stmt) (tail : Bool) (left : ℕ) (part : Part) (at l : ℕ) (leaves : Bool) (nodes last : List StNode)
    (old turn : List Stmt)
    → at ≤ l → l < part.past → (leaves && is_reached blocks (l + 1)) ≡ true → WritesInner blocks steps left (body at l leaves) at true nodes last turn
    → WritesPiece blocks steps tail left part at (piece.Loop l leaves) nodes last old (old ++ forever turn ∷ []) lead.Onward
loop_written blocks steps tail left part at l leaves nodes last old turn low up r w = λ all from past unit inside paid inner fits f.
    let k = w all from past unit (record { low = inside.low; ordered = omega (arith, low); high = omega (arith, up, inside.high) }) inner.1 inner.0 f in
    record {
      taken = k.0;
      adds = λ more.
          loop_onward (leaves && is_reached blocks (suc l)) old turn (region_at (chart_in all blocks) (place_at at) (body at l leaves) at inner.1.0) l
          (place_in tail part) more
          (next_reached blocks l leaves true r) k.1;
    }

pub last_loop_written : (blocks : Blocks) (steps : List Stmt) (tail : Bool) (left : ℕ) (part : Part) (at l : ℕ) (leaves : Bool) (nodes last : List StNode)
    (old turn : List Stmt) → at ≤ l → l < part.past → (leaves && is_reached blocks (l + 1)) ≡ false
    → WritesInner blocks steps left (body at l leaves) at true nodes last turn
    → WritesPiece blocks steps tail left part at (piece.Loop l leaves) nodes last old (old ++ forever turn ∷ []) lead.Off
last_loop_written blocks steps tail left part at l leaves nodes last old turn low up r w = λ all from past unit inside paid inner fits f.
    let k = w all from past unit (record { low = inside.low; ordered = omega (arith, low); high = omega (arith, up, inside.high) }) inner.1 inner.0 f in
    record {
      taken = k.0;
      adds = λ more.
          loop_off (leaves && is_reached blocks (suc l)) old turn (region_at (chart_in all blocks) (place_at at) (body at l leaves) at inner.1.0) l
          (place_in tail part) more
          (next_reached blocks l leaves false r) k.1;
    }

-- a block that no path reaches is passed over
pub skip_written : (blocks : Blocks) (steps : List Stmt) (tail : Bool) (left : ℕ) (part : Part) (at : ℕ) (nodes : List StNode) (out : List Stmt)
    → WritesPiece blocks steps tail left part at piece.Skip nodes (drop 1 nodes) out out lead.Onward
skip_written blocks steps tail left part at nodes out = λ all from past unit inside paid inner fits f. record {
  taken = ap (drop 1) f ∙ drop-drop 1 at all;
  adds = λ more. record { text = λ next. refl; falls = refl };
}

-- As code finds them

-- where no node is left, nothing is to be written
pub no_node : (blocks : Blocks) (steps : List Stmt) (tail : Bool) (left : ℕ) (part : Part) (at : ℕ) (p : Piece) (nodes rest : List StNode)
    (old new : List Stmt) (found : Option StExit) (to : Lead) → at < part.past → HasSteps nodes rest old new found → found ≡ None
    → WritesPiece blocks steps tail left part at p nodes rest old new to
no_node blocks steps tail left part at p nodes rest old new found to low s e = λ all from past unit within paid inner fits f.
    absurd (node_there all from past blocks steps part at nodes rest old new unit within low f (subst (HasSteps nodes rest old new) e s))

-- nor where its exit has no test
pub no_test : (blocks : Blocks) (steps : List Stmt) (tail : Bool) (left : ℕ) (part : Part) (at t d : ℕ) (nodes rest : List StNode)
    (old new : List Stmt) (found : Option StExit) (x : StExit) (asked : Option Expr) (to : Lead) → at < part.past → HasSteps nodes rest old new found → found
    ≡ Some x
    → asked ≡ test_in x → asked ≡ None → WritesPiece blocks steps tail left part at (piece.Arm t d) nodes rest old new to
no_test blocks steps tail left part at t d nodes rest old new found x asked to low s e g h = λ all from past unit within paid inner fits f.
    absurd (test_there all from past blocks steps part at t nodes rest old new x unit within low f (subst (HasSteps nodes rest old new) e s) fits.1.jump
    (sym h ∙ g))

pub no_tests : (blocks : Blocks) (steps : List Stmt) (tail : Bool) (left : ℕ) (part : Part) (at t u d : ℕ) (nodes rest : List StNode)
    (old new : List Stmt) (found : Option StExit) (x : StExit) (asked : Option Expr) (to : Lead) → at < part.past → HasSteps nodes rest old new found → found
    ≡ Some x
    → asked ≡ test_in x → asked ≡ None → WritesPiece blocks steps tail left part at (piece.Arms t u d) nodes rest old new to
no_tests blocks steps tail left part at t u d nodes rest old new found x asked to low s e g h = λ all from past unit within paid inner fits f.
    absurd (test_there all from past blocks steps part at t nodes rest old new x unit within low f (subst (HasSteps nodes rest old new) e s) fits.1.jump
    (sym h ∙ g))

pub block_piece : (blocks : Blocks) (steps : List Stmt) (tail : Bool) (left : ℕ) (part : Part) (at : ℕ) (nodes rest : List StNode)
    (old mid new : List Stmt) (found : Option StExit) (x : StExit) (to : Lead) → at < part.past → HasSteps nodes rest old mid found → found ≡ Some x
    → AddsTo blocks steps part at (bare_region tail part at x) mid new to → WritesPiece blocks steps tail left part at piece.One nodes rest old new to
block_piece blocks steps tail left part at nodes rest old mid new found x to low s e h = λ all from past unit within paid inner fits f.
    block_written all from past blocks steps tail left part at paid inner nodes rest old mid new x to unit within low fits f
    (subst (HasSteps nodes rest old mid) e s) (h all from past unit within)

pub arm_piece : (blocks : Blocks) (steps : List Stmt) (tail : Bool) (left : ℕ) (part other_part : Part) (at t d : ℕ) (nodes rest last : List StNode)
    (old mid other none new : List Stmt) (found : Option StExit) (x : StExit) (asked : Option Expr) (e : Expr) (y : Stmt) → at < d → none ≡ []
    → HasSteps nodes rest old mid found → found ≡ Some x → asked ≡ test_in x → asked ≡ Some e → other_part ≡ arm part d t
    → WritesInner blocks steps left other_part (at + 1) false rest last other → y ≡ choice e none other → new ≡ mid ++ y ∷ [] → d ≤ part.past
    → WritesPiece blocks steps tail left part at (piece.Arm t d) nodes last old new lead.Onward
arm_piece blocks steps tail left part other_part at t d nodes rest last old mid other none new found x asked e y low i s g h k a w c n up =
    subst (λ (l : List Stmt). WritesPiece blocks steps tail left part at (piece.Arm t d) nodes last old l lead.Onward)
    (sym (n ∙ ap (λ (z : Stmt). mid ++ z ∷ []) (c ∙ ap (λ (l : List Stmt). choice e l other) i)))
    (arm_written blocks steps tail left part at t d nodes rest last old mid other x e low up (subst (HasSteps nodes rest old mid) g s) (sym k ∙ h)
    (subst (λ q. WritesInner blocks steps left q (at + 1) false rest last other) a w))

pub arms_piece : (blocks : Blocks) (steps : List Stmt) (tail : Bool) (left : ℕ) (part first_part second_part : Part) (at t u d : ℕ)
    (nodes rest between last : List StNode) (old mid other there new : List Stmt) (found : Option StExit) (x : StExit) (asked : Option Expr) (e : Expr)
    (y : Stmt)
    → at < t → t < d → HasSteps nodes rest old mid found → found ≡ Some x → asked ≡ test_in x → asked ≡ Some e
    → first_part ≡ first_arm part t u → second_part ≡ arm part d u
    → WritesInner blocks steps left first_part (at + 1) false rest between other → WritesInner blocks steps left second_part t false between last there
    → y ≡ choice e there other → new ≡ mid ++ y ∷ [] → d ≤ part.past
    → WritesPiece blocks steps tail left part at (piece.Arms t u d) nodes last old new lead.Onward
arms_piece blocks steps tail left part first_part second_part at t u d nodes rest between last old mid other there new found x asked e y low order s g h k a
    b w v c n up =
    subst (λ (l : List Stmt). WritesPiece blocks steps tail left part at (piece.Arms t u d) nodes last old l lead.Onward)
    (sym (n ∙ ap (λ (z : Stmt). mid ++ z ∷ []) c))
    (arms_written blocks steps tail left part at t u d nodes rest between last old mid other there x e low order up
    (subst (HasSteps nodes rest old mid) g s) (sym k ∙ h)
    (subst (λ q. WritesInner blocks steps left q (at + 1) false rest between other) a w)
    (subst (λ q. WritesInner blocks steps left q t false between last there) b v))

pub loop_piece : (blocks : Blocks) (steps : List Stmt) (tail : Bool) (left : ℕ) (part turn_part : Part) (at l : ℕ) (leaves : Bool)
    (nodes last : List StNode)
    (old turn new : List Stmt) (y : Stmt) → at ≤ l → l < part.past → turn_part ≡ body at l leaves
    → WritesInner blocks steps left turn_part at true nodes last turn
    → y ≡ forever turn → new ≡ old ++ y ∷ [] → (leaves && is_reached blocks (l + 1)) ≡ true
    → WritesPiece blocks steps tail left part at (piece.Loop l leaves) nodes last old new lead.Onward
loop_piece blocks steps tail left part turn_part at l leaves nodes last old turn new y low up a w c n r =
    subst (λ (k : List Stmt). WritesPiece blocks steps tail left part at (piece.Loop l leaves) nodes last old k lead.Onward)
    (sym (n ∙ ap (λ (z : Stmt). old ++ z ∷ []) c))
    (loop_written blocks steps tail left part at l leaves nodes last old turn low up r
    (subst (λ q. WritesInner blocks steps left q at true nodes last turn) a w))

pub last_loop_piece : (blocks : Blocks) (steps : List Stmt) (tail : Bool) (left : ℕ) (part turn_part : Part) (at l : ℕ) (leaves : Bool)
    (nodes last : List StNode)
    (old turn new : List Stmt) (y : Stmt) → at ≤ l → l < part.past → turn_part ≡ body at l leaves
    → WritesInner blocks steps left turn_part at true nodes last turn
    → y ≡ forever turn → new ≡ old ++ y ∷ [] → (leaves && is_reached blocks (l + 1)) ≡ false
    → WritesPiece blocks steps tail left part at (piece.Loop l leaves) nodes last old new lead.Off
last_loop_piece blocks steps tail left part turn_part at l leaves nodes last old turn new y low up a w c n r =
    subst (λ (k : List Stmt). WritesPiece blocks steps tail left part at (piece.Loop l leaves) nodes last old k lead.Off)
    (sym (n ∙ ap (λ (z : Stmt). old ++ z ∷ []) c))
    (last_loop_written blocks steps tail left part at l leaves nodes last old turn low up r
    (subst (λ q. WritesInner blocks steps left q at true nodes last turn) a w))

pub skip_piece : (blocks : Blocks) (steps : List Stmt) (tail : Bool) (left : ℕ) (part : Part) (at : ℕ) (nodes rest : List StNode) (out : List Stmt)
    → rest ≡ drop 1 nodes → WritesPiece blocks steps tail left part at piece.Skip nodes rest out out lead.Onward
skip_piece blocks steps tail left part at nodes rest out e =
    subst (λ (r : List StNode). WritesPiece blocks steps tail left part at piece.Skip nodes r out out lead.Onward) (sym e)
    (skip_written blocks steps tail left part at nodes out)

pub piece_is : (blocks : Blocks) (steps : List Stmt) (tail : Bool) (left : ℕ) (part : Part) (at : ℕ) (p q : Piece) (nodes rest : List StNode)
    (old new : List Stmt) (to : Lead) → p ≡ q → WritesPiece blocks steps tail left part at q nodes rest old new to
    → WritesPiece blocks steps tail left part at p nodes rest old new to
piece_is blocks steps tail left part at p q nodes rest old new to e h =
    subst (λ x. WritesPiece blocks steps tail left part at x nodes rest old new to) (sym e) h

-- Parts one level deeper

pub no_level : (blocks : Blocks) (steps : List Stmt) (left : ℕ) (part : Part) (first : ℕ) (paid : Bool) (nodes : List StNode) (out : List Stmt) → left ≡ 0
    → WritesInner blocks steps left part first paid nodes nodes out
no_level blocks steps left part first paid nodes out e = λ all from past unit within plan some f. absurd (omega (arith, e, some))

pub inner_written : (blocks : Blocks) (steps : List Stmt) (left : ℕ) (part : Part) (first : ℕ) (paid : Bool) (nodes rest : List StNode)
    (begun new : List Stmt) (goes_on : Bool) → begun ≡ [] → WritesPart blocks steps false (left - 1) part first paid nodes rest begun new goes_on
    → WritesInner blocks steps left part first paid nodes rest new
inner_written blocks steps left part first paid nodes rest begun new goes_on e w = λ all from past unit within plan some f. (
  (w all from past unit within plan 0 f).nodes,
  λ next. (w all from past unit within plan next f).text
      ∙ ap (λ (l : List Stmt). l ++ text_of next (region_at (chart_in all blocks) (place_at part.follow) part first plan.0)) e,
)

-- Whole segments

twice_not : (b : Bool) → not (not b) ≡ b
twice_not true = refl
twice_not false = refl

pub segment_written : (blocks : Blocks) (steps : List Stmt) (tail : Bool) (first past : ℕ) (part : Part) (nodes rest : List StNode) (old new : List Stmt)
    (goes_on : Bool) → first ≤ past → part ≡ whole past → tail ≡ not (is_reached blocks past)
    → WritesPart blocks steps tail 64 part first false nodes rest old new goes_on
    → (all : List StNode) (plan : Plan) → AreKnown (flow_of all) blocks → steps ≡ ending_of all → nodes ≡ drop first all
    → IsSegment (blocks_between all first past) → IsPlanOf (blocks_between all first past) plan → levels plan ≤ 64
    → (next : ℕ) → IsWritten all past next (region_by (chart_in all blocks) first past (Some plan)) rest old new goes_on
segment_written blocks steps tail first past part nodes rest old new goes_on order p t w all plan known ending e segment is few next =
    subst (λ (x : Bool). IsWritten all past next (region_of (chart_in all blocks) plan first past (place_if x past) no_loop) rest old new goes_on)
    (ap not t ∙ twice_not (is_reached blocks past))
    ((subst (λ q. WritesPart blocks steps tail 64 q first false nodes rest old new goes_on) p w) all first past
    (record { segment = segment; known = known; ending = ending })
    (record { low = omega arith; ordered = order; high = omega arith }) (plan, is, few) next e)

-- The next node

pub first_taken : (nodes rest : List StNode) (n : StNode) (old new : List Stmt) → nodes ≡ n ∷ rest → new ≡ old ++ n.steps
    → HasSteps nodes rest old new (Some n.exit)
first_taken nodes rest n old new e s = subst (λ (l : List StNode). HasSteps l rest old new (Some n.exit)) (sym e) (refl, s, refl)

pub none_taken : (nodes rest : List StNode) (out : List Stmt) → nodes ≡ rest → rest ≡ drop 1 nodes → HasSteps nodes rest out out None
none_taken [] rest out e d = (sym e, refl, refl)
none_taken (n ∷ more) rest out e d =
    let f : length (n ∷ more) ≡ length (drop 1 (n ∷ more)) = ap length (e ∙ d) in
    absurd (omega (arith, f, length-drop 1 (n ∷ more)))
