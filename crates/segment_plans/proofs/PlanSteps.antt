-- Whether a part has a plan, looked at from block to block.
use Rattle.std.proofs.Common.{◌≡◌, ℕ, ◌<◌, ◌≤◌, Bool, true, false, refl, subst, arith}
use Rattle.std.specs.Bool.{Decides}
use Rattle.nesting_laws.specs.Plans.{done}
use Rattle.stl_tree.specs.Flows.{IsSegment, Segment}
use Rattle.segment_plans.specs.Known.{AreKnown}
use Rattle.segment_plans.specs.Planned.{HasInner, HasPlan, IsPartOf, IsPiece, IsWithin, after}
use Rattle.segment_plans.specs.declared.blocks.Blocks.{Blocks}
use Rattle.segment_plans.specs.declared.planning.Part.{Part}
use Rattle.segment_plans.specs.declared.planning.Piece.{Piece}
use Rattle.segment_plans.specs.declared.planning.Piece.TheVariants as piece
use Rattle.segment_plans.proofs.OnePiece.{unique}
use Rattle.segment_plans.proofs.PlanPieces.{makes, takes}
use Rattle.segment_plans.proofs.Site.{site_of}

-- The loop over a part

-- a plan from one block on is there exactly where one from the first block on is
pub record Tracks (g : Segment) (left : ℕ) (part : Part) (paid : Bool) (first : ℕ) (now : Bool) (at : ℕ) : Type 0 where
  pub forth : HasPlan g left part now at → HasPlan g left part paid first
  pub back : HasPlan g left part paid first → HasPlan g left part now at

pub tracks_first : (g : Segment) (left : ℕ) (part : Part) (paid : Bool) (first : ℕ) → Tracks g left part paid first paid first
tracks_first g left part paid first = record { forth = λ h. h; back = λ h. h }

moved : (g : Segment) (part : Part) (first at : ℕ) → IsPartOf g part first → first ≤ at → at ≤ part.past → IsPartOf g part at
moved g part first at inside low high = record { low = omega (arith, inside.low, low); ordered = high; high = inside.high }

-- the block after a piece lies behind it, in the part
pub behind : (part : Part) (at : ℕ) (p : Piece) → IsWithin part at p → (at ≤ after at p) × (after at p ≤ part.past)
behind part at piece.Skip h = (omega arith, omega (arith, h))
behind part at piece.One h = (omega arith, omega (arith, h))
behind part at (piece.Arm t c) h = let a : at < c = h.0 in (omega (arith, a), h.1)
behind part at (piece.Arms t u c) h = let a : at < t = h.0 in let b : t < c = h.1 in (omega (arith, a, b), h.2)
behind part at (piece.Loop l left) h = let a : at ≤ l = h.0 in let b : l < part.past = h.1 in (omega (arith, a), omega (arith, b))
behind part at (piece.Cases e) h = let a : at < e = h.0 in (omega (arith, a), h.1)

-- what is proved of a part, for each segment
abbrev pub ForEach : Blocks → Part → ℕ → (Segment → Type 0) → Type 0
ForEach blocks part first P = (g : Segment) → IsSegment g → AreKnown g.flow blocks → IsPartOf g part first → P g

-- whether the blocks one level deeper have plans, of a piece that may stand at a block
abbrev pub InnerIs : Blocks → ℕ → Part → ℕ → Piece → Bool → Type 0
InnerIs blocks left part at p b =
    ForEach blocks part at (λ g. (paid : Bool) → IsPiece g blocks part paid at p → Decides b (HasInner g left part at p))

module _ (blocks : Blocks) (left : ℕ) (part : Part) (paid : Bool) (first : ℕ) (now : Bool) (at : ℕ)
    (tracks : ForEach blocks part first (λ g. Tracks g left part paid first now at)) (low : first ≤ at) (up : at < part.past) where
  pub goes_on_with : (p : Piece) → ForEach blocks part at (λ g. IsPiece g blocks part now at p) → InnerIs blocks left part at p true
      → ForEach blocks part first (λ g. Tracks g left part paid first false (after at p))
  goes_on_with p fits inner = λ g seg known inside.
      let here : IsPartOf g part at = moved g part first at inside low (omega (arith, up)) in
      let t = tracks g seg known inside in
      let i = fits g seg known here in
      let site = site_of g blocks seg known in
      record {
        forth = λ h. t.forth (makes g blocks site part here.high now at up left p i ((inner g seg known here now i).0 refl) h);
        back = λ h.
            let plan = t.back h in
            let s = takes g blocks site part here.high now at up left plan.0 plan.1 plan.2 in
            subst (λ q. HasPlan g left part false (after at q)) (unique g blocks part now at s.piece p s.fits i) s.rest;
      }

  pub stops_there : ForEach blocks part at (λ g. (p : Piece) → IsPiece g blocks part now at p → ⊥)
      → ForEach blocks part first (λ g. Decides false (HasPlan g left part paid first))
  stops_there none = λ g seg known inside.
      let here : IsPartOf g part at = moved g part first at inside low (omega (arith, up)) in (
        λ f. absurd cc,
        λ h.
            let plan = (tracks g seg known inside).back h in
            let s = takes g blocks (site_of g blocks seg known) part here.high now at up left plan.0 plan.1 plan.2 in
            absurd (none g seg known here s.piece s.fits),
      )

  pub stops_inside : (p : Piece) → ForEach blocks part at (λ g. IsPiece g blocks part now at p) → InnerIs blocks left part at p false
      → ForEach blocks part first (λ g. Decides false (HasPlan g left part paid first))
  stops_inside p fits inner = λ g seg known inside.
      let here : IsPartOf g part at = moved g part first at inside low (omega (arith, up)) in
      let i = fits g seg known here in (
        λ f. absurd cc,
        λ h.
            let plan = (tracks g seg known inside).back h in
            let s = takes g blocks (site_of g blocks seg known) part here.high now at up left plan.0 plan.1 plan.2 in
            (inner g seg known here now i).1 (subst (HasInner g left part at) (unique g blocks part now at s.piece p s.fits i) s.inner),
      )

pub ends_there : (blocks : Blocks) (left : ℕ) (part : Part) (paid : Bool) (first : ℕ) (now : Bool) (at : ℕ)
    → ForEach blocks part first (λ g. Tracks g left part paid first now at) → at ≤ part.past → part.past ≤ at
    → ForEach blocks part first (λ g. Decides true (HasPlan g left part paid first))
ends_there blocks left part paid first now at tracks low up = λ g seg known inside.
    let e : at ≡ part.past = omega (arith, low, up) in
    (λ f. (tracks g seg known inside).forth (done, e, omega arith), λ h. refl)
