-- A plan has a piece at its first block, and plans of what is inside and behind it.
use Rattle.std.proofs.Common.{◌≡◌, ℕ, suc, ◌+◌, ◌-◌, ◌<◌, ◌≤◌, Bool, true, false, Option, Some, None, max, refl, sym, ap, subst, ◌∙◌, arith}
use Rattle.nesting_laws.specs.Plans.{IsChoice, IsPlan, Plan, arm as arm_plan, arms as arms_plan, blocks as in_blocks, cases as cases_plan, done, levels, list_arms, loop as loop_plan, next as next_plan, one as one_plan, skip as skip_plan}
use Rattle.stl_tree.specs.Flows.{Segment}
use Rattle.stl_tree.specs.WellNested.{IsTarget}
use Rattle.segment_plans.specs.Planned.{AnswersPiece, HasInner, HasPlan, IsPiece, IsPlanIn, after, arm, around_of, body, first_arm, kind_of}
use Rattle.segment_plans.specs.declared.blocks.Blocks.{Blocks}
use Rattle.segment_plans.specs.declared.planning.Kind.{Kind}
use Rattle.segment_plans.specs.declared.planning.Kind.TheVariants as kind
use Rattle.segment_plans.specs.declared.planning.Part.{Part}
use Rattle.segment_plans.specs.declared.planning.Piece.{Piece}
use Rattle.segment_plans.specs.declared.planning.Piece.TheVariants as piece
use Rattle.segment_plans.proofs.Ends.{ends_found}
use Rattle.segment_plans.proofs.OnePiece.{unique}
use Rattle.segment_plans.proofs.Site.{IsSite}
use Rattle.segment_plans.proofs.Targets.{last_target_is}
use Rattle.segment_plans.proofs.Ways.{kind_row}

-- what a plan has at a block
pub record HasStep (g : Segment) (blocks : Blocks) (left : ℕ) (part : Part) (paid : Bool) (at : ℕ) : Type 0 where
  pub piece : Piece
  pub fits : IsPiece g blocks part paid at piece
  pub inner : HasInner g left part at piece
  pub rest : HasPlan g left part false (after at piece)

-- the same plan, from a block that is written otherwise
pub from_block : (g : Segment) (plan : Plan) (paid : Bool) (part : Part) (n m : ℕ) → n ≡ m → IsPlanIn g plan paid n part → IsPlanIn g plan paid m part
from_block g plan paid part n m e p = subst (λ n. IsPlanIn g plan paid n part) e p

next_is : (at : ℕ) → suc at ≡ at + 1
next_is at = omega arith

next_was : (at : ℕ) → at + 1 ≡ suc at
next_was at = omega arith

to_last : (g : Segment) (plan : Plan) (at l : ℕ) (left : Bool) → IsPlan g plan true at (suc l) at (around_of (body at l left).around) in_blocks
    → IsPlanIn g plan true at (body at l left)
to_last g plan at l left p = subst (λ n. IsPlan g plan true at n at (around_of (body at l left).around) in_blocks) (next_is l) p

from_last : (g : Segment) (plan : Plan) (at l : ℕ) (left : Bool) → IsPlanIn g plan true at (body at l left)
    → IsPlan g plan true at (suc l) at (around_of (body at l left).around) in_blocks
from_last g plan at l left p = subst (λ n. IsPlan g plan true at n at (around_of (body at l left).around) in_blocks) (next_was l) p

-- the first arm of a list begins behind it
first_target : (g : Segment) (blocks : Blocks) → IsSite g blocks → (part : Part) (at e : ℕ) (inner : Plan)
    → IsChoice g at part.past part.follow (around_of part.around) e → IsPlan g inner false (suc at) e e (around_of part.around) (list_arms at)
    → IsTarget g at (suc at)
first_target g blocks site part at e done choice is =
    let q : suc at ≡ e = is in
    let last = last_target_is g blocks site at choice.list in
    let x = choice.after _ last in
    subst (IsTarget g at) (omega (arith, q, x.0, x.1)) last
first_target g blocks site part at e (skip_plan rest) choice is = absurd is.1
first_target g blocks site part at e (one_plan rest) choice is = absurd is.1
first_target g blocks site part at e (arm_plan t c inner rest) choice is = absurd is.1
first_target g blocks site part at e (arms_plan t u c first second rest) choice is = absurd is.1
first_target g blocks site part at e (loop_plan left l inner rest) choice is = absurd is.0
first_target g blocks site part at e (cases_plan d inner rest) choice is = absurd is.1
first_target g blocks site part at e (next_plan d inner others) choice is = is.1.begins

-- a row of arms is no part
no_next : (g : Segment) (d : ℕ) (inner others : Plan) (paid : Bool) (at : ℕ) (part : Part) → IsPlanIn g (next_plan d inner others) paid at part → ⊥
no_next g d inner others paid at part is = by part.kind is
  where
    by : (k : Kind) → IsPlan g (next_plan d inner others) paid at part.past part.follow (around_of part.around) (kind_of k) → ⊥
    by kind.Blocks is = is
    by kind.ListArm is = is

-- what stands at the first block of a plan
abbrev pub first_piece : Plan → Option Piece
first_piece done = None
first_piece (skip_plan rest) = Some piece.Skip
first_piece (one_plan rest) = Some piece.One
first_piece (arm_plan t c inner rest) = Some (piece.Arm t c)
first_piece (arms_plan t u c first second rest) = Some (piece.Arms t u c)
first_piece (loop_plan left l inner rest) = Some (piece.Loop l left)
first_piece (cases_plan e inner rest) = Some (piece.Cases e)
first_piece (next_plan d inner others) = None

module _ (g : Segment) (blocks : Blocks) (site : IsSite g blocks) (part : Part) (high : part.past ≤ g.past) (paid : Bool) (at : ℕ) (low : at < part.past) where
  -- a plan has a piece at its first block
  pub takes : (left : ℕ) (plan : Plan) → IsPlanIn g plan paid at part → levels plan ≤ left → HasStep g blocks left part paid at
  takes left done p few = let e : at ≡ part.past = p in absurd (omega (arith, low, e))
  takes left (skip_plan rest) p few = record {
    piece = piece.Skip;
    fits = p.2;
    inner = tt;
    rest = (rest, from_block g rest false part (suc at) (at + 1) (next_is at) p.3, few);
  }
  takes left (one_plan rest) p few = record {
    piece = piece.One;
    fits = p.2;
    inner = tt;
    rest = (rest, from_block g rest false part (suc at) (at + 1) (next_is at) p.3, few);
  }
  takes left (arm_plan t c inner rest) p few =
      let all : max (suc (levels inner)) (levels rest) ≤ left = few in
      record {
        piece = piece.Arm t c;
        fits = (p.2, p.3, p.4);
        inner = (omega (arith, all), (inner, from_block g inner false (arm part c t) (suc at) (at + 1) (next_is at) p.5, omega (arith, all)));
        rest = (rest, p.6, omega (arith, all));
      }
  takes left (arms_plan t u c first second rest) p few =
      let all : max (suc (max (levels first) (levels second))) (levels rest) ≤ left = few in
      record {
        piece = piece.Arms t u c;
        fits = (p.2, p.3, p.4);
        inner = (
          omega (arith, all),
          (first, from_block g first false (first_arm part t u) (suc at) (at + 1) (next_is at) p.5, omega (arith, all)),
          (second, p.6, omega (arith, all)),
        );
        rest = (rest, p.7, omega (arith, all));
      }
  takes left (loop_plan leaves l inner rest) p few =
      let all : max (suc (levels inner)) (levels rest) ≤ left = few in
      record {
        piece = piece.Loop l leaves;
        fits = (p.1, p.2);
        inner = (omega (arith, all), (inner, to_last g inner at l leaves p.3, omega (arith, all)));
        rest = (rest, from_block g rest false part (suc l) (l + 1) (next_is l) p.4, omega (arith, all));
      }
  takes left (cases_plan e inner rest) p few =
      let all : max (suc (levels inner)) (levels rest) ≤ left = few in
      record {
        piece = piece.Cases e;
        fits = (
          p.2,
          p.3,
          first_target g blocks site part at e inner p.3 p.4,
          ends_found g blocks site part.around at part.past part.follow e inner high p.3 p.4,
        );
        inner = (
          omega (arith, all),
          (inner, subst (λ n. IsPlan g inner false n e e (around_of part.around) (list_arms at)) (next_is at) p.4, omega (arith, all)),
        );
        rest = (rest, p.5, omega (arith, all));
      }
  takes left (next_plan d inner others) p few = absurd (no_next g d inner others paid at part p)

  -- from a piece, and plans of what is inside and behind it, there is one from the block on
  pub makes : (left : ℕ) (p : Piece) → IsPiece g blocks part paid at p → HasInner g left part at p → HasPlan g left part false (after at p)
      → HasPlan g left part paid at
  makes left piece.Skip i inner rest =
      (skip_plan rest.0, (low, kind_row part.kind, i, from_block g rest.0 false part (at + 1) (suc at) (next_was at) rest.1), rest.2)
  makes left piece.One i inner rest =
      (one_plan rest.0, (low, kind_row part.kind, i, from_block g rest.0 false part (at + 1) (suc at) (next_was at) rest.1), rest.2)
  makes left (piece.Arm t c) i inner rest =
      let some : 0 < left = inner.0 in
      let deep : levels inner.1.0 ≤ left - 1 = inner.1.2 in
      let behind : levels rest.0 ≤ left = rest.2 in (
        arm_plan t c inner.1.0 rest.0,
        (
          low,
          kind_row part.kind,
          i.0,
          i.1,
          i.2,
          from_block g inner.1.0 false (arm part c t) (at + 1) (suc at) (next_was at) inner.1.1,
          rest.1,
        ),
        omega (arith, some, deep, behind),
      )
  makes left (piece.Arms t u c) i inner rest =
      let some : 0 < left = inner.0 in
      let deep : levels inner.1.0 ≤ left - 1 = inner.1.2 in
      let other : levels inner.2.0 ≤ left - 1 = inner.2.2 in
      let behind : levels rest.0 ≤ left = rest.2 in (
        arms_plan t u c inner.1.0 inner.2.0 rest.0,
        (
          low,
          kind_row part.kind,
          i.0,
          i.1,
          i.2,
          from_block g inner.1.0 false (first_arm part t u) (at + 1) (suc at) (next_was at) inner.1.1,
          inner.2.1,
          rest.1,
        ),
        omega (arith, some, deep, other, behind),
      )
  makes left (piece.Loop l leaves) i inner rest =
      let some : 0 < left = inner.0 in
      let deep : levels inner.1.0 ≤ left - 1 = inner.1.2 in
      let behind : levels rest.0 ≤ left = rest.2 in (
        loop_plan leaves l inner.1.0 rest.0,
        (
          kind_row part.kind,
          i.0,
          i.1,
          from_last g inner.1.0 at l leaves inner.1.1,
          from_block g rest.0 false part (l + 1) (suc l) (next_was l) rest.1,
        ),
        omega (arith, some, deep, behind),
      )
  makes left (piece.Cases e) i inner rest =
      let some : 0 < left = inner.0 in
      let deep : levels inner.1.0 ≤ left - 1 = inner.1.2 in
      let behind : levels rest.0 ≤ left = rest.2 in (
        cases_plan e inner.1.0 rest.0,
        (
          low,
          kind_row part.kind,
          i.0,
          i.1,
          subst (λ n. IsPlan g inner.1.0 false n e e (around_of part.around) (list_arms at)) (next_was at) inner.1.1,
          rest.1,
        ),
        omega (arith, some, deep, behind),
      )

  -- The piece that is found

  -- a plan's first piece may stand at its first block
  pub first_fits : (plan : Plan) → IsPlanIn g plan paid at part → (p : Piece) × (first_piece plan ≡ Some p) × IsPiece g blocks part paid at p
  first_fits done is = let e : at ≡ part.past = is in absurd (omega (arith, low, e))
  first_fits (skip_plan rest) is = (piece.Skip, refl, is.2)
  first_fits (one_plan rest) is = (piece.One, refl, is.2)
  first_fits (arm_plan t c inner rest) is = (piece.Arm t c, refl, (is.2, is.3, is.4))
  first_fits (arms_plan t u c first second rest) is = (piece.Arms t u c, refl, (is.2, is.3, is.4))
  first_fits (loop_plan left l inner rest) is = (piece.Loop l left, refl, (is.1, is.2))
  first_fits (cases_plan e inner rest) is = (
    piece.Cases e,
    refl,
    (is.2, is.3, first_target g blocks site part at e inner is.3 is.4, ends_found g blocks site part.around at part.past part.follow e inner high is.3 is.4),
  )
  first_fits (next_plan d inner others) is = absurd (no_next g d inner others paid at part is)

  -- so it is found
  pub planned_piece : (plan : Plan) (o : Option Piece) → IsPlanIn g plan paid at part → AnswersPiece g blocks part paid at o → o ≡ first_piece plan
  planned_piece plan o is answers = by o answers (first_fits plan is)
    where
      by : (o : Option Piece) → AnswersPiece g blocks part paid at o → (p : Piece) × (first_piece plan ≡ Some p) × IsPiece g blocks part paid at p
          → o ≡ first_piece plan
      by None none (p, e, i) = absurd (none p i)
      by (Some q) j (p, e, i) = ap (λ (r : Piece). Some r) (unique g blocks part paid at q p j i) ∙ sym e
