-- Regions do not depend on the marks of blocks.
use Rattle.std.proofs.Common.{◌≡◌, ℕ, suc, ◌==◌, ◌&&◌, if◌then◌else◌, Bool, List, [], ◌∷◌, slice_get, Option, Some, None, refl, ap, ◌∙◌}
use std.Path.{fun_ext}
use Rattle.st_tree.specs.declared.graph.StExit.{StExit}
use Rattle.st_tree.specs.declared.graph.StExit.TheVariants as exit
use Rattle.st_tree.specs.declared.graph.StNode.{StNode}
use Rattle.st_tree.specs.declared.program.Stmt.{Stmt}
use Rattle.nesting_laws.specs.Plans.{Around, Plan, arm, arms, cases, done, inside, loop, next, no_loop, one, skip}
use Rattle.region_laws.specs.Regions.{Mark, Place, Region, at, off}
use Rattle.region_plans.specs.PlanRegion.{Chart, arm_from, cases_region, exit_region, fork_region, loop_region, one_region, region_of, rest_from}
use Rattle.unit_regions.specs.MadeCharts.{chart_of, loop_around, mark_by}
use Rattle.unit_regions.specs.MadeLaws.{MarksAreLeftOut}
use Rattle.unit_regions.specs.UnitRegion.{Section, followed_by, place_of, region_by, section_region, unit_region}

-- a chart with other marks
abbrev with_marks : Chart → (ℕ → Mark) → Chart
with_marks c marks =
    record {
      unit = record { nodes = c.unit.nodes; reached = c.unit.reached; marks = marks };
      next = c.next;
      end_steps = c.end_steps;
    }

module _ (c : Chart) (marks : ℕ → Mark) where
  abbrev D : Chart
  D = with_marks c marks

  exit_same : (lo hi : ℕ) (follow : Place) (a : Around) (rest : Region) (steps : List Stmt) (x : StExit)
      → exit_region D lo hi follow a rest steps x ≡ exit_region c lo hi follow a rest steps x
  exit_same lo hi follow no_loop rest steps exit.Fall = refl
  exit_same lo hi follow no_loop rest steps (exit.Jump t) = refl
  exit_same lo hi follow no_loop rest steps (exit.Branch e t) = refl
  exit_same lo hi follow no_loop rest steps (exit.EndIf e) = refl
  exit_same lo hi follow no_loop rest steps (exit.Table e targets last) = refl
  exit_same lo hi follow no_loop rest steps exit.End = refl
  exit_same lo hi follow (inside left h l) rest steps exit.Fall = refl
  exit_same lo hi follow (inside left h l) rest steps (exit.Jump t) = refl
  exit_same lo hi follow (inside left h l) rest steps (exit.Branch e t) = refl
  exit_same lo hi follow (inside left h l) rest steps (exit.EndIf e) = refl
  exit_same lo hi follow (inside left h l) rest steps (exit.Table e targets last) = refl
  exit_same lo hi follow (inside left h l) rest steps exit.End = refl

  one_same : (lo hi : ℕ) (follow : Place) (a : Around) (rest : Region) (o : Option StNode)
      → one_region D lo hi follow a rest o ≡ one_region c lo hi follow a rest o
  one_same lo hi follow a rest None = refl
  one_same lo hi follow a rest (Some n) = exit_same lo hi follow a rest n.steps n.exit

  rest_same : (e hi : ℕ) (follow : Place) (a : Around) (rest : Region) → rest_from D e hi follow a rest ≡ rest_from c e hi follow a rest
  rest_same e hi follow no_loop rest = refl
  rest_same e hi follow (inside left h l) rest = refl

  mutual
    same : (plan : Plan) (lo hi : ℕ) (follow : Place) (a : Around) → region_of D plan lo hi follow a ≡ region_of c plan lo hi follow a
    same done lo hi follow a = refl
    same (skip rest) lo hi follow a = same rest (suc lo) hi follow a
    same (one rest) lo hi follow a =
        ap (λ r. one_region D lo hi follow a r (slice_get c.unit.nodes lo)) (same rest (suc lo) hi follow a)
        ∙ one_same lo hi follow a (region_of c rest (suc lo) hi follow a) (slice_get c.unit.nodes lo)
    same (arm t d inner rest) lo hi follow a =
        ap (λ r. fork_region off r (at t) (region_of D rest d hi follow a) (slice_get c.unit.nodes lo)) (same inner (suc lo) d (at t) a)
        ∙ ap (λ r. fork_region off (region_of c inner (suc lo) d (at t) a) (at t) r (slice_get c.unit.nodes lo)) (same rest d hi follow a)
    same (arms t u d inner other rest) lo hi follow a =
        ap (λ r. fork_region r (region_of D inner (suc lo) t (at u) a) (at u) (region_of D rest d hi follow a) (slice_get c.unit.nodes lo))
        (same other t d (at u) a)
        ∙ ap (λ r. fork_region (region_of c other t d (at u) a) r (at u) (region_of D rest d hi follow a) (slice_get c.unit.nodes lo))
        (same inner (suc lo) t (at u) a)
        ∙ ap (λ r. fork_region (region_of c other t d (at u) a) (region_of c inner (suc lo) t (at u) a) (at u) r (slice_get c.unit.nodes lo))
        (same rest d hi follow a)
    same (loop left l body rest) lo hi follow a =
        ap (λ r. loop_region (left && c.unit.reached (suc l)) r l follow (region_of D rest (suc l) hi follow a))
        (same body lo (suc l) (at lo) (inside left lo l))
        ∙ ap (λ r. loop_region (left && c.unit.reached (suc l)) (region_of c body lo (suc l) (at lo) (inside left lo l)) l follow r)
        (same rest (suc l) hi follow a)
    same (cases e inner rest) lo hi follow a =
        ap (λ r. cases_region inner e (arm_from D inner (suc lo) e a) (arm_from D inner (suc lo) e a (suc lo)) r (slice_get c.unit.nodes lo))
        (ap (λ r. rest_from D e hi follow a r) (same rest e hi follow a) ∙ rest_same e hi follow a (region_of c rest e hi follow a))
        ∙ ap (λ (f : ℕ → Region).
        cases_region inner e f (f (suc lo)) (rest_from c e hi follow a (region_of c rest e hi follow a)) (slice_get c.unit.nodes lo))
        (fun_ext (λ j. arm_same inner (suc lo) e a j))
    same (next d inner others) lo hi follow a = refl

    arm_same : (plan : Plan) (lo e : ℕ) (a : Around) (j : ℕ) → arm_from D plan lo e a j ≡ arm_from c plan lo e a j
    arm_same (next d inner others) lo e a j =
        ap (λ r. if j == lo then r else arm_from D others d e a j) (same inner lo d (at e) a)
        ∙ ap (λ r. if j == lo then region_of c inner lo d (at e) a else r) (arm_same others d e a j)
    arm_same done lo e a j = refl
    arm_same (skip rest) lo e a j = refl
    arm_same (one rest) lo e a j = refl
    arm_same (arm t d inner rest) lo e a j = refl
    arm_same (arms t u d inner other rest) lo e a j = refl
    arm_same (loop left l body rest) lo e a j = refl
    arm_same (cases d inner rest) lo e a j = refl

  by_same : (first past : ℕ) (plan : Option Plan) → region_by D first past plan ≡ region_by c first past plan
  by_same first past None = refl
  by_same first past (Some plan) = same plan first past (place_of c past) no_loop

  pub section_same : (s : Section) → section_region D s ≡ section_region c s
  section_same s = by_same s.first s.past s.plan

  unit_same : (sections : List Section) → unit_region D sections ≡ unit_region c sections
  unit_same [] = refl
  unit_same (s ∷ rest) =
      ap (λ r. followed_by r (unit_region D rest)) (section_same s) ∙ ap (λ r. followed_by (section_region c s) r) (unit_same rest)

pub made_section_same : (nodes : List StNode) (reached : ℕ → Bool) (lasts : ℕ → Option ℕ) (marked : List Section) (s : Section)
    → section_region (chart_of nodes reached lasts marked) s ≡ section_region (chart_of nodes reached lasts []) s
made_section_same nodes reached lasts marked s =
    section_same (chart_of nodes reached lasts []) (λ b. mark_by (loop_around marked b) (reached b) (lasts b)) s

pub marks_are_left_out : MarksAreLeftOut
marks_are_left_out nodes reached lasts marked sections =
    unit_same (chart_of nodes reached lasts []) (λ b. mark_by (loop_around marked b) (reached b) (lasts b)) sections
