-- What a plan has at a block, with its region, and what is left of the plan.
use Rattle.std.proofs.Common.{◌≡◌, ℕ, suc, ◌+◌, ◌-◌, ◌<◌, ◌≤◌, Bool, true, false, ◌&&◌, List, [], drop, max, refl, sym, ap, subst, ◌∙◌, arith}
use Rattle.std.proofs.lemmas.List.{drop-drop}
use Rattle.std.proofs.lemmas.Option.{same_Some}
use Rattle.st_tree.specs.declared.program.Stmt.{Stmt}
use Rattle.st_tree.specs.declared.graph.StNode.{StNode}
use Rattle.stl_tree.specs.Flows.{IsSegment, Segment}
use Rattle.nesting_laws.specs.Plans.{Around as PlanAround, IsPlan, Kind as PlanKind, Plan, arm as arm_plan, arms as arms_plan, blocks as in_blocks, cases as cases_plan, done, inside, levels, list_arm as in_list_arm, list_arms, loop as loop_plan, next as next_plan, one as one_plan, skip as skip_plan}
use Rattle.region_laws.specs.Regions.{Place, Region, at as place_at, off, text_of}
use Rattle.region_plans.specs.PlanRegion.{Chart, arm_from, cases_region, fork_region, loop_region, one_region, region_of, rest_from}
use Rattle.unit_regions.specs.UnitRegion.{falls_off}
use Rattle.unit_regions.specs.UnitCharts.{blocks_between}
use Rattle.dispatch_loops.specs.Charted.{chart_in}
use Rattle.segment_plans.specs.Known.{AreKnown}
use Rattle.segment_plans.specs.declared.blocks.Blocks.{Blocks}
use Rattle.segment_plans.specs.Planned.{AnswersPiece, HasInner, HasPlan, IsPartOf, IsPiece, IsPlanIn, IsWithin, after, around_of, kind_of}
use Rattle.segment_plans.specs.declared.planning.Kind.{Kind}
use Rattle.segment_plans.specs.declared.planning.Kind.TheVariants as kind
use Rattle.segment_plans.specs.declared.planning.Part.{Part}
use Rattle.segment_plans.specs.declared.planning.Piece.{Piece}
use Rattle.segment_plans.specs.declared.planning.Piece.TheVariants as piece
use Rattle.segment_plans.proofs.PlanPieces.{first_piece}
use Rattle.std.specs.Prelude.{Option, Some, None, slice_get}
use Rattle.plan_texts.specs.declared.leads.Lead.{Lead}
use Rattle.plan_texts.specs.declared.leads.Lead.TheVariants as lead
use Rattle.plan_texts.specs.inner.Leads.{Adds, ForPart, is_off, is_onward, led_off, led_text, place_in}
use Rattle.plan_texts.specs.inner.Steps.{Reaches, Writes, WritesPart, WritesPiece, piece_region, region_at}
use Rattle.plan_texts.specs.PlanTexts.{IsWritten}
use Rattle.plan_texts.proofs.Adding.{closed, then_adds}
use Rattle.plan_texts.proofs.Found.{piece_found}

-- Plans

at_next : (g : Segment) (plan : Plan) (paid : Bool) (at hi follow : ℕ) (a : PlanAround) (k : PlanKind) → IsPlan g plan paid (suc at) hi follow a k
    → IsPlan g plan paid (at + 1) hi follow a k
at_next g plan paid at hi follow a k p = let e : suc at ≡ at + 1 = omega arith in subst (λ n. IsPlan g plan paid n hi follow a k) e p

to_last : (g : Segment) (plan : Plan) (at l : ℕ) (a : PlanAround) (k : PlanKind) → IsPlan g plan true at (suc l) at a k → IsPlan g plan true at (l + 1) at a k
to_last g plan at l a k p = let e : suc l ≡ l + 1 = omega arith in subst (λ n. IsPlan g plan true at n at a k) e p

-- arms in a row are no part
no_arms : (g : Segment) (d : ℕ) (inner others : Plan) (paid : Bool) (at : ℕ) (part : Part) → IsPlanIn g (next_plan d inner others) paid at part → ⊥
no_arms g d inner others paid at part is = by part.kind is
  where
    by : (k : Kind) → IsPlan g (next_plan d inner others) paid at part.past part.follow (around_of part.around) (kind_of k) → ⊥
    by kind.Blocks is = is
    by kind.ListArm is = is

-- what a plan has at a block, where a piece stands there
record StepOf (g : Segment) (left : ℕ) (part : Part) (at : ℕ) (plan : Plan) (p : Piece) : Type 0 where
  inner : HasInner g left part at p
  rest : HasPlan g left part false (after at p)
  region : (c : Chart) (place : Place)
      → region_at c place part at plan ≡ piece_region c place g left part at p inner (region_at c place part (after at p) rest.0)

record HasStep (g : Segment) (left : ℕ) (part : Part) (at : ℕ) (plan : Plan) : Type 0 where
  piece : Piece
  first : first_piece plan ≡ Some piece
  step : StepOf g left part at plan piece

takes : (g : Segment) (left : ℕ) (part : Part) (paid : Bool) (at : ℕ) (plan : Plan) → at < part.past
    → IsPlanIn g plan paid at part → levels plan ≤ left → HasStep g left part at plan
takes g left part paid at done low p few = let e : at ≡ part.past = p in absurd (omega (arith, low, e))
takes g left part paid at (skip_plan rest) low p few = record {
  piece = piece.Skip;
  first = refl;
  step = record {
    inner = tt;
    rest = (rest, at_next g rest false at part.past part.follow (around_of part.around) (kind_of part.kind) p.3, few);
    region = λ c place. ap (λ n. region_of c rest n part.past place (around_of part.around)) (let e : suc at ≡ at + 1 = omega arith in e);
  };
}
takes g left part paid at (one_plan rest) low p few = record {
  piece = piece.One;
  first = refl;
  step = record {
    inner = tt;
    rest = (rest, at_next g rest false at part.past part.follow (around_of part.around) (kind_of part.kind) p.3, few);
    region = λ c place.
        ap (λ n. one_region c at part.past place (around_of part.around) (region_of c rest n part.past place (around_of part.around))
        (slice_get c.unit.nodes at))
        (let e : suc at ≡ at + 1 = omega arith in e);
  };
}
takes g left part paid at (arm_plan t d inner rest) low p few =
    let all : max (suc (levels inner)) (levels rest) ≤ left = few in
    record {
      piece = piece.Arm t d;
      first = refl;
      step = record {
        inner = (omega (arith, all), (inner, at_next g inner false at d t (around_of part.around) (kind_of part.kind) p.5, omega (arith, all)));
        rest = (rest, p.6, omega (arith, all));
        region = λ c place.
            ap (λ n. fork_region off (region_of c inner n d (place_at t) (around_of part.around)) (place_at t)
            (region_of c rest d part.past place (around_of part.around)) (slice_get c.unit.nodes at))
            (let e : suc at ≡ at + 1 = omega arith in e);
      };
    }
takes g left part paid at (arms_plan t u d first second rest) low p few =
    let all : max (suc (max (levels first) (levels second))) (levels rest) ≤ left = few in
    record {
      piece = piece.Arms t u d;
      first = refl;
      step = record {
        inner = (
          omega (arith, all),
          (first, at_next g first false at t u (around_of part.around) (kind_of kind.Blocks) p.5, omega (arith, all)),
          (second, p.6, omega (arith, all)),
        );
        rest = (rest, p.7, omega (arith, all));
        region = λ c place.
            ap (λ n. fork_region (region_of c second t d (place_at u) (around_of part.around))
            (region_of c first n t (place_at u) (around_of part.around)) (place_at u)
            (region_of c rest d part.past place (around_of part.around)) (slice_get c.unit.nodes at))
            (let e : suc at ≡ at + 1 = omega arith in e);
      };
    }
takes g left part paid at (loop_plan leaves l inner rest) low p few =
    let all : max (suc (levels inner)) (levels rest) ≤ left = few in
    let next : suc l ≡ l + 1 = omega arith in
    record {
      piece = piece.Loop l leaves;
      first = refl;
      step = record {
        inner = (omega (arith, all), (inner, to_last g inner at l (inside leaves at l) (kind_of kind.Blocks) p.3, omega (arith, all)));
        rest = (
          rest,
          subst (λ n. IsPlan g rest false n part.past part.follow (around_of part.around) (kind_of part.kind)) next p.4,
          omega (arith, all),
        );
        region = λ c place.
            ap (λ n. loop_region (leaves && c.unit.reached (suc l)) (region_of c inner at n (place_at at) (inside leaves at l)) l place
            (region_of c rest n part.past place (around_of part.around)))
            next;
      };
    }
takes g left part paid at (cases_plan e inner rest) low p few =
    let all : max (suc (levels inner)) (levels rest) ≤ left = few in
    record {
      piece = piece.Cases e;
      first = refl;
      step = record {
        inner = (omega (arith, all), (inner, at_next g inner false at e e (around_of part.around) (list_arms at) p.4, omega (arith, all)));
        rest = (rest, p.5, omega (arith, all));
        region = λ c place.
            ap (λ n. cases_region inner e (arm_from c inner n e (around_of part.around)) (arm_from c inner n e (around_of part.around) n)
            (rest_from c e part.past place (around_of part.around) (region_of c rest e part.past place (around_of part.around)))
            (slice_get c.unit.nodes at))
            (let e : suc at ≡ at + 1 = omega arith in e);
      };
    }
takes g left part paid at (next_plan d inner others) low p few = absurd (no_arms g d inner others paid at part p)

step_at : (g : Segment) (left : ℕ) (part : Part) (paid : Bool) (at : ℕ) (p : Piece) → at < part.past
    → (plan : HasPlan g left part paid at) → first_piece plan.0 ≡ Some p → StepOf g left part at plan.0 p
step_at g left part paid at p low plan is =
    let s = takes g left part paid at plan.0 low plan.1 plan.2 in
    subst (λ q. StepOf g left part at plan.0 q) (same_Some s.piece p (sym s.first ∙ is)) s.step

-- a part with a plan has a piece at each block
pub piece_there : (g : Segment) (left : ℕ) (part : Part) (paid : Bool) (at : ℕ) → at < part.past → (plan : HasPlan g left part paid at)
    → None ≡ first_piece plan.0 → ⊥
piece_there g left part paid at low plan none =
    let s = takes g left part paid at plan.0 low plan.1 plan.2 in
    let e : None ≡ Some s.piece = none ∙ s.first in absurd cc

-- The loop over a part

pub begun : (c : Chart) (place : Place) (g : Segment) (left : ℕ) (part : Part) (first : ℕ) (paid : Bool) (nodes : List StNode) (out : List Stmt)
    → (plan : HasPlan g left part paid first) → nodes ≡ drop first c.unit.nodes
    → Reaches c place g left part (region_at c place part first plan.0) out nodes out lead.Onward paid first
begun c place g left part first paid nodes out plan taken = record {
  taken = taken;
  rest = plan;
  adds = record { text = λ next. refl; falls = refl };
}

pub moves : (c : Chart) (place : Place) (g : Segment) (left : ℕ) (part : Part) (whole : Region) (old : List Stmt) (nodes : List StNode) (mid : List Stmt)
    (paid : Bool) (at : ℕ) (p : Piece) (more : List StNode) (new : List Stmt) (to : Lead) → at < part.past
    → (r : Reaches c place g left part whole old nodes mid lead.Onward paid at) → first_piece r.rest.0 ≡ Some p
    → ((inner : HasInner g left part at p) → Writes c place g left part at p inner more mid new to)
    → Reaches c place g left part whole old more new to false (after at p)
moves c place g left part whole old nodes mid paid at p more new to low r first writes =
    let s = step_at g left part paid at p low r.rest first in
    let w = writes s.inner in
    let left_over : Region = region_at c place part (after at p) s.rest.0 in
    record {
      taken = w.taken;
      rest = s.rest;
      adds = then_adds old mid new to whole (region_at c place part at r.rest.0) left_over r.adds
          (subst (λ (x : Region). Adds mid new to x left_over) (sym (s.region c place)) (w.adds left_over));
    }

-- a plan of no blocks
no_blocks : (g : Segment) (plan : Plan) (paid : Bool) (lo hi follow : ℕ) (a : PlanAround) (k : PlanKind) → IsPlan g plan paid lo hi follow a k → hi ≤ lo
    → plan ≡ done
no_blocks g done paid lo hi follow a k p h = refl
no_blocks g (skip_plan rest) paid lo hi follow a k p h = absurd (omega (arith, p.0, h))
no_blocks g (one_plan rest) paid lo hi follow a k p h = absurd (omega (arith, p.0, h))
no_blocks g (arm_plan t d inner rest) paid lo hi follow a k p h = absurd (omega (arith, p.0, h))
no_blocks g (arms_plan t u d first second rest) paid lo hi follow a k p h = absurd (omega (arith, p.0, h))
no_blocks g (loop_plan left l inner rest) paid lo hi follow a k p h = absurd (omega (arith, p.1.loop.ordered, p.1.within, h))
no_blocks g (cases_plan e inner rest) paid lo hi follow a k p h = absurd (omega (arith, p.0, h))
no_blocks g (next_plan d inner others) paid lo hi follow a in_blocks p h = absurd p
no_blocks g (next_plan d inner others) paid lo hi follow a in_list_arm p h = absurd p
no_blocks g (next_plan d inner others) paid lo hi follow a (list_arms x) p h = absurd (omega (arith, p.1.some, p.1.within, h))

pub ends_there : (all : List StNode) (next : ℕ) (c : Chart) (place : Place) (g : Segment) (left : ℕ) (part : Part) (whole : Region) (old : List Stmt)
    (nodes : List StNode) (new : List Stmt) (paid : Bool) (at : ℕ) → all ≡ c.unit.nodes → at ≤ part.past → part.past ≤ at
    → Reaches c place g left part whole old nodes new lead.Onward paid at → IsWritten all part.past next whole nodes old new true
ends_there all next c place g left part whole old nodes new paid at units low up r =
    let e : plan_of ≡ done = no_blocks g plan_of paid at part.past part.follow (around_of part.around) (kind_of part.kind) r.rest.1 up in
    let f : region_at c place part at plan_of ≡ off = ap (region_at c place part at) e in
    let same : at ≡ part.past = omega (arith, low, up) in
    record {
      nodes = r.taken ∙ ap (λ n. drop n c.unit.nodes) same ∙ ap (drop part.past) (sym units);
      text = closed old new lead.Onward whole (region_at c place part at plan_of) r.adds next (ap (text_of next) f);
      falls = sym (r.adds.falls ∙ ap falls_off f);
    }
  where
    plan_of : Plan
    plan_of = r.rest.0

led_none : (to : Lead) (x : List Stmt) → is_onward to ≡ false → led_text to x ≡ []
led_none lead.Onward x e = absurd cc
led_none lead.Off x e = refl
led_none lead.Out x e = refl

led_out : (to : Lead) (b : Bool) → is_onward to ≡ false → led_off to b ≡ is_off to
led_out lead.Onward b e = absurd cc
led_out lead.Off b e = refl
led_out lead.Out b e = refl

pub leaves_there : (all : List StNode) (next : ℕ) (c : Chart) (place : Place) (g : Segment) (left : ℕ) (part : Part) (whole : Region) (old : List Stmt)
    (nodes rest : List StNode) (new : List Stmt) (to : Lead) (paid : Bool) (at : ℕ) → all ≡ c.unit.nodes → at ≤ part.past → is_onward to ≡ false
    → rest ≡ drop (part.past - at) nodes
    → Reaches c place g left part whole old nodes new to paid at → IsWritten all part.past next whole rest old new (is_off to)
leaves_there all next c place g left part whole old nodes rest new to paid at units low e d r = record {
  nodes = d ∙ ap (drop (part.past - at)) r.taken ∙ drop-drop (part.past - at) at c.unit.nodes
      ∙ ap (λ n. drop n c.unit.nodes) (let f : at + (part.past - at) ≡ part.past = omega (arith, low) in f) ∙ ap (drop part.past) (sym units);
  text = closed old new to whole (region_at c place part at r.rest.0) r.adds next (led_none to (text_of next (region_at c place part at r.rest.0)) e);
  falls = sym (r.adds.falls ∙ led_out to (falls_off (region_at c place part at r.rest.0)) e);
}

-- For each unit

moved : (g : Segment) (part : Part) (first at : ℕ) → IsPartOf g part first → first ≤ at → at ≤ part.past → IsPartOf g part at
moved g part first at within low high = record { low = omega (arith, within.low, low); ordered = high; high = within.high }

-- what is written of a part from its first block on, as far as another
abbrev pub Wrote : Blocks → List Stmt → Bool → ℕ → Part → ℕ → Bool → List StNode → List Stmt → List StNode → List Stmt → Lead → Bool → ℕ → Type 0
Wrote blocks steps tail left part first paid nodes old rest new to now at =
    ForPart blocks steps part first (λ all g. (plan : HasPlan g left part paid first) → nodes ≡ drop first all
    → Reaches (chart_in all blocks) (place_in tail part) g left part (region_at (chart_in all blocks) (place_in tail part) part first plan.0) old rest new to
    now at)

pub wrote_nothing : (blocks : Blocks) (steps : List Stmt) (tail : Bool) (left : ℕ) (part : Part) (first : ℕ) (paid : Bool) (nodes : List StNode)
    (out : List Stmt) → Wrote blocks steps tail left part first paid nodes out nodes out lead.Onward paid first
wrote_nothing blocks steps tail left part first paid nodes out = λ all from past unit within plan e.
    begun (chart_in all blocks) (place_in tail part) (blocks_between all from past) left part first paid nodes out plan e

pub wrote_piece : (blocks : Blocks) (steps : List Stmt) (tail : Bool) (left : ℕ) (part : Part) (first : ℕ) (paid : Bool) (nodes : List StNode)
    (old : List Stmt) (rest : List StNode) (mid : List Stmt) (now : Bool) (at : ℕ) (p : Piece) (more : List StNode) (new : List Stmt) (to : Lead)
    → first ≤ at → at < part.past
    → ((g : Segment) → IsSegment g → AreKnown g.flow blocks → IsPartOf g part at → IsPiece g blocks part now at p)
    → Wrote blocks steps tail left part first paid nodes old rest mid lead.Onward now at
    → WritesPiece blocks steps tail left part at p rest more mid new to
    → Wrote blocks steps tail left part first paid nodes old more new to false (after at p)
wrote_piece blocks steps tail left part first paid nodes old rest mid now at p more new to low up fits before piece = λ all from past unit within plan e.
    let g : Segment = blocks_between all from past in
    let here : IsPartOf g part at = moved g part first at within low (omega (arith, up)) in
    let i : IsPiece g blocks part now at p = fits g unit.segment unit.known here in
    let r = before all from past unit within plan e in
    moves (chart_in all blocks) (place_in tail part) g left part (region_at (chart_in all blocks) (place_in tail part) part first plan.0) old rest mid now at
    p more new to up r (sym (piece_found g blocks unit.segment unit.known part now at here up r.rest.0 (Some p) r.rest.1 i))
    (λ inner. piece all from past unit here now inner i r.taken)

pub no_piece : (blocks : Blocks) (steps : List Stmt) (tail : Bool) (left : ℕ) (part : Part) (first : ℕ) (paid : Bool) (nodes : List StNode)
    (old : List Stmt) (rest : List StNode) (new : List Stmt) (now : Bool) (at : ℕ) (goes_on : Bool) → first ≤ at → at < part.past
    → ((g : Segment) → IsSegment g → AreKnown g.flow blocks → IsPartOf g part at → (p : Piece) → IsPiece g blocks part now at p → ⊥)
    → Wrote blocks steps tail left part first paid nodes old rest new lead.Onward now at
    → WritesPart blocks steps tail left part first paid nodes rest old new goes_on
no_piece blocks steps tail left part first paid nodes old rest new now at goes_on low up none before = λ all from past unit within plan next e.
    let g : Segment = blocks_between all from past in
    let here : IsPartOf g part at = moved g part first at within low (omega (arith, up)) in
    let r = before all from past unit within plan e in
    absurd (piece_there g left part now at up r.rest
    (piece_found g blocks unit.segment unit.known part now at here up r.rest.0 None r.rest.1 (none g unit.segment unit.known here)))

pub part_ends : (blocks : Blocks) (steps : List Stmt) (tail : Bool) (left : ℕ) (part : Part) (first : ℕ) (paid : Bool) (nodes : List StNode)
    (old : List Stmt) (rest : List StNode) (new : List Stmt) (now : Bool) (at : ℕ) → at ≤ part.past → part.past ≤ at
    → Wrote blocks steps tail left part first paid nodes old rest new lead.Onward now at
    → WritesPart blocks steps tail left part first paid nodes rest old new true
part_ends blocks steps tail left part first paid nodes old rest new now at low up before = λ all from past unit within plan next e.
    ends_there all next (chart_in all blocks) (place_in tail part) (blocks_between all from past) left part
    (region_at (chart_in all blocks) (place_in tail part) part first plan.0) old rest new now at refl low up (before all from past unit within plan e)

pub part_leaves : (blocks : Blocks) (steps : List Stmt) (tail : Bool) (left : ℕ) (part : Part) (first : ℕ) (paid : Bool) (nodes : List StNode)
    (old : List Stmt) (rest last : List StNode) (new : List Stmt) (to : Lead) (now : Bool) (at : ℕ) → at ≤ part.past → is_onward to ≡ false
    → last ≡ drop (part.past - at) rest
    → Wrote blocks steps tail left part first paid nodes old rest new to now at
    → WritesPart blocks steps tail left part first paid nodes last old new (is_off to)
part_leaves blocks steps tail left part first paid nodes old rest last new to now at low leads d before = λ all from past unit within plan next e.
    leaves_there all next (chart_in all blocks) (place_in tail part) (blocks_between all from past) left part
    (region_at (chart_in all blocks) (place_in tail part) part first plan.0) old rest last new to now at refl low leads d
    (before all from past unit within plan e)

-- As code finds them

onward_is : (to : Lead) → is_onward to ≡ true → to ≡ lead.Onward
onward_is lead.Onward e = refl
onward_is lead.Off e = absurd cc
onward_is lead.Out e = absurd cc

pub wrote_more : (blocks : Blocks) (steps : List Stmt) (tail : Bool) (left : ℕ) (part : Part) (first : ℕ) (paid : Bool) (nodes : List StNode)
    (old : List Stmt) (rest : List StNode) (mid : List Stmt) (now : Bool) (at next : ℕ) (found : Option Piece) (p : Piece) (more : List StNode)
    (new : List Stmt)
    (to : Lead) → first ≤ at → at < part.past
    → ((g : Segment) → IsSegment g → AreKnown g.flow blocks → IsPartOf g part at → AnswersPiece g blocks part now at found) → found ≡ Some p → next ≡ after at p
    → Wrote blocks steps tail left part first paid nodes old rest mid lead.Onward now at
    → WritesPiece blocks steps tail left part at p rest more mid new to
    → Wrote blocks steps tail left part first paid nodes old more new to false next
wrote_more blocks steps tail left part first paid nodes old rest mid now at next found p more new to low up fits is e before piece =
    subst (λ n. Wrote blocks steps tail left part first paid nodes old more new to false n) (sym e)
    (wrote_piece blocks steps tail left part first paid nodes old rest mid now at p more new to low up
    (λ g segment known within. subst (AnswersPiece g blocks part now at) is (fits g segment known within)) before piece)

pub wrote_onward : (blocks : Blocks) (steps : List Stmt) (tail : Bool) (left : ℕ) (part : Part) (first : ℕ) (paid : Bool) (nodes : List StNode)
    (old : List Stmt) (rest : List StNode) (new : List Stmt) (to : Lead) (now : Bool) (at : ℕ) → is_onward to ≡ true
    → Wrote blocks steps tail left part first paid nodes old rest new to now at
    → Wrote blocks steps tail left part first paid nodes old rest new lead.Onward now at
wrote_onward blocks steps tail left part first paid nodes old rest new to now at e w =
    subst (λ t. Wrote blocks steps tail left part first paid nodes old rest new t now at) (onward_is to e) w

pub nothing_fits : (blocks : Blocks) (steps : List Stmt) (tail : Bool) (left : ℕ) (part : Part) (first : ℕ) (paid : Bool) (nodes : List StNode)
    (old : List Stmt) (rest : List StNode) (new : List Stmt) (now : Bool) (at : ℕ) (found : Option Piece) (goes_on : Bool) → first ≤ at → at < part.past
    → ((g : Segment) → IsSegment g → AreKnown g.flow blocks → IsPartOf g part at → AnswersPiece g blocks part now at found) → found ≡ None
    → Wrote blocks steps tail left part first paid nodes old rest new lead.Onward now at
    → WritesPart blocks steps tail left part first paid nodes rest old new goes_on
nothing_fits blocks steps tail left part first paid nodes old rest new now at found goes_on low up fits is before =
    no_piece blocks steps tail left part first paid nodes old rest new now at goes_on low up
    (λ g segment known within. subst (AnswersPiece g blocks part now at) is (fits g segment known within)) before

-- the block after a piece lies behind it, in the part
pub behind : (part : Part) (at : ℕ) (p : Piece) → IsWithin part at p → (at < after at p) × (after at p ≤ part.past)
behind part at piece.Skip h = (omega arith, omega (arith, h))
behind part at piece.One h = (omega arith, omega (arith, h))
behind part at (piece.Arm t d) h = h
behind part at (piece.Arms t u d) h = let a : at < t = h.0 in let b : t < d = h.1 in (omega (arith, a, b), h.2)
behind part at (piece.Loop l left) h = let a : at ≤ l = h.0 in let b : l < part.past = h.1 in (omega (arith, a), omega (arith, b))
behind part at (piece.Cases e) h = h
