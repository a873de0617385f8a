-- Where the arms of a jump list end, told from plain jumps.
use Rattle.std.proofs.Common.{◌≡◌, ◌⊎◌, inl, inr, ⊎_elim, ℕ, ◌<◌, ◌≤◌, arith}
use Rattle.std.proofs.lemmas.Bool.{cases_eq}
use Rattle.stl_tree.specs.Flows.{IsEndBlock, IsExitJump, IsJump, IsList, IsPlainJump, Segment}
use Rattle.stl_tree.specs.WellNested.{IsCaseEnd, IsWellNestedByPaths}
use Rattle.nesting_laws.specs.EndLaws.{EndByJumps, IsJumpOver, IsLastTarget}
use Rattle.nesting_laws.proofs.Facts.{Facts, facts_of}
use Rattle.nesting_laws.proofs.Lists.{forced, in_arms}
use Rattle.nesting_laws.proofs.Reaching.{IsKnown}

module _ {g : Segment} (facts : Facts g) (x w e : ℕ) (last : IsLastTarget g x w) (case : IsCaseEnd g x e) where
  high : w ≤ e
  high = (case.fits.after w last.target).1

  to_end : (s t : ℕ) → IsJumpOver g x w s t → t ≡ e
  to_end s t over = let y = high in ⊎_elim
      (λ o. absurd (let z = (o.1 w last.target).1 (omega (arith, over.behind)) in omega (arith, over.before)))
      (λ o. ⊎_elim (λ q. q) (λ o. ⊎_elim (λ turn. absurd (omega (arith, turn.1.around.low, over.jump.forward)))
      (λ o. ⊎_elim (λ exit. absurd (over.jump.no_exit exit)) (λ end. absurd (over.jump.no_end end)) o) o) o)
      (case.fits.exits s t over.jump.jump (in_arms facts x e s case.list over.from (omega (arith, over.before))))

  -- a list in an arm before the last one does not jump behind the last target
  pub no_list : (s : ℕ) → x < s → s < w → IsJump g s e → w < e → ((d : ℕ) × IsCaseEnd g s d) → ⊥
  no_list s y z jump v (d, inner) = let far = (inner.fits.after e (record { list = inner.list; jump = jump })).1 in
      ⊎_elim (λ q. omega arith) (λ o. omega (arith, (inner.fits.after o.0.begin o.0.target).0, o.0.low))
      (inner.fits.entries x w last.target.jump (in_arms facts s d w inner.list z (omega arith)))

  from_jump : IsWellNestedByPaths g → (e ≡ w) ⊎ ((s : ℕ) × IsJumpOver g x w s e)
  from_jump well = ⊎_elim (λ is. let y = high in let z = last.last e is in inl (omega arith))
      (λ (s, t, is, y, z, jump, stays). let v = high in let u = last.last t is in
      ⊎_elim (λ q. inl q) (λ n. inr (
        s,
        record {
          jump = plain s t y z jump stays (single s y (omega arith) jump (omega arith) (facts.known_list s)) (omega (arith, (case.fits.after t is).1));
          from = y;
          before = omega arith;
          behind = omega arith;
        },
      )) (cases_eq e w)) (forced facts case)
    where
      single : (s : ℕ) → x < s → s < w → IsJump g s e → w < e → IsKnown (IsList g s) → IsList g s → ⊥
      single s y z jump v (inl list) other = no_list s y z jump v (well.cases s list)
      single s y z jump v (inr none) other = none other

      plain : (s t : ℕ) → x < s → s < t → IsJump g s e → ((IsExitJump g s e ⊎ IsEndBlock g.flow e) → ⊥) → (IsList g s → ⊥) → t ≤ e → IsPlainJump g s e
      plain s t y z jump stays single v = record {
        jump = jump;
        forward = omega arith;
        no_end = λ end. stays (inr end);
        no_exit = λ exit. stays (inl exit);
        no_list = single;
      }

pub end_by_jumps : EndByJumps
end_by_jumps g flow segment well x w e last case =
    (to_end (facts_of g flow segment) x w e last case, from_jump (facts_of g flow segment) x w e last case well)
