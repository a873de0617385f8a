-- At most one piece may stand at a block.
use Rattle.std.proofs.Common.{◌≡◌, ◌⊎◌, ℕ, ◌-◌, ◌<◌, ◌≤◌, Bool, true, false, inl, inr, refl, sym, ap, subst, ◌∙◌, arith}
use Rattle.nesting_laws.specs.Plans.{IsLeft, IsOne, IsWayOut}
use Rattle.nesting_laws.proofs.Exits.{made_no_list}
use Rattle.stl_tree.specs.Blocks.{always, if_made}
use Rattle.stl_tree.specs.Segments.{IsReached}
use Rattle.stl_tree.specs.Flows.{IsEndBlock, Segment, blocks_of}
use Rattle.segment_plans.specs.Planned.{IsBranchIn, IsOtherIn, IsPiece, around_of, kind_of}
use Rattle.segment_plans.specs.declared.blocks.Blocks.{Blocks}
use Rattle.segment_plans.specs.declared.planning.Part.{Part}
use Rattle.segment_plans.specs.declared.planning.Piece.{Piece}
use Rattle.segment_plans.specs.declared.planning.Piece.TheVariants as piece
use Rattle.segment_plans.proofs.Pieces.{head_reached, not_opened, other_way}
use Rattle.segment_plans.proofs.Ways.{EndsIn, ends_same, same_way, target}

module _ (g : Segment) (blocks : Blocks) (part : Part) (paid : Bool) (at : ℕ) where
  same_branch : (t c u d : ℕ) → IsBranchIn g part at t c → IsBranchIn g part at u d → t ≡ u
  same_branch t c u d a b = ap target (same_way g at (if_made t) (if_made u) a.jump.1 b.jump.1)

  same_end : (t c u d : ℕ) → IsBranchIn g part at t c → IsBranchIn g part at u d → c ≡ d
  same_end t c u d a b = ends_same part.past part.follow t c d (kind_of part.kind) a.ends
      (subst (λ n. EndsIn part n d) (sym (same_branch t c u d a b)) b.ends)

  same_other : (t u c v d : ℕ) → IsOtherIn g part t u c → IsOtherIn g part t v d → u ≡ v
  same_other t u c v d a b = ap target (same_way g (t - 1) (always u) (always v) (other_way g part t u c a) (other_way g part t v d b))

  same_other_end : (t u c v d : ℕ) → IsOtherIn g part t u c → IsOtherIn g part t v d → c ≡ d
  same_other_end t u c v d a b = ends_same part.past part.follow u c d (kind_of part.kind) a.ends
      (subst (λ n. EndsIn part n d) (sym (same_other t u c v d a b)) b.ends)

  reached_at : (p : Piece) → IsPiece g blocks part paid at p → (IsReached (blocks_of g.flow) at → ⊥) → p ≡ piece.Skip
  reached_at piece.Skip i n = refl
  reached_at piece.One i n = absurd (n i.here.reached)
  reached_at (piece.Arm t c) i n = absurd (n i.1.jump.0.reached)
  reached_at (piece.Arms t u c) i n = absurd (n i.1.jump.0.reached)
  reached_at (piece.Loop l left) i n = absurd (n (head_reached g paid at part.past l i.0))
  reached_at (piece.Cases e) i n = absurd (n i.1.list.2.0.reached)

  not_alone : (t c : ℕ) → IsOne g paid at part.past part.follow (around_of part.around) → IsBranchIn g part at t c → ⊥
  not_alone t c o b = by (o.jumps t b.jump)
    where
      by : IsWayOut (around_of part.around) t ⊎ IsEndBlock g.flow t → ⊥
      by (inl w) = b.stays w
      by (inr e) = b.free e

  same_left : (l : ℕ) (left right : Bool) → IsLeft part.past part.follow l left → IsLeft part.past part.follow l right → left ≡ right
  same_left l true true x y = refl
  same_left l false false x y = refl
  same_left l true false x y = let e : part.follow ≡ part.past = x y.0 in let z : part.past < part.follow = y.1 in absurd (omega (arith, e, z))
  same_left l false true x y = let e : part.follow ≡ part.past = y x.0 in let z : part.past < part.follow = x.1 in absurd (omega (arith, e, z))

  -- at most one piece may stand at a block
  pub unique : (p q : Piece) → IsPiece g blocks part paid at p → IsPiece g blocks part paid at q → p ≡ q
  unique piece.Skip q i j = sym (reached_at q j i)
  unique p piece.Skip i j = reached_at p i j
  unique piece.One piece.One i j = refl
  unique piece.One (piece.Arm t c) i j = absurd (not_alone t c i j.1)
  unique piece.One (piece.Arms t u c) i j = absurd (not_alone t t i j.1)
  unique piece.One (piece.Loop l left) i j = absurd (not_opened g paid at part.past l i.fresh j.0)
  unique piece.One (piece.Cases e) i j = absurd (i.no_list j.1.list)
  unique (piece.Arm t c) piece.One i j = absurd (not_alone t c j i.1)
  unique (piece.Arm t c) (piece.Arm u d) i j =
      ap (λ n. piece.Arm n c) (same_branch t c u d i.1 j.1) ∙ ap (λ n. piece.Arm u n) (same_end t c u d i.1 j.1)
  unique (piece.Arm t c) (piece.Arms u v d) i j =
      absurd (i.2 v d (subst (λ n. IsOtherIn g part n v d) (sym (same_end t c u u i.1 j.1)) j.2))
  unique (piece.Arm t c) (piece.Loop l left) i j = absurd (not_opened g paid at part.past l i.0 j.0)
  unique (piece.Arm t c) (piece.Cases e) i j = absurd (made_no_list g at t i.1.jump j.1.list)
  unique (piece.Arms t u c) piece.One i j = absurd (not_alone t t j i.1)
  unique (piece.Arms t u c) (piece.Arm v d) i j =
      absurd (j.2 u c (subst (λ n. IsOtherIn g part n u c) (same_end t t v d i.1 j.1) i.2))
  unique (piece.Arms t u c) (piece.Arms v w d) i j =
      let e : t ≡ v = same_branch t t v v i.1 j.1 in
      let moved : IsOtherIn g part v u c = subst (λ n. IsOtherIn g part n u c) e i.2 in
      ap (λ n. piece.Arms n u c) e ∙ ap (λ n. piece.Arms v n c) (same_other v u c w d moved j.2)
      ∙ ap (λ n. piece.Arms v w n) (same_other_end v u c w d moved j.2)
  unique (piece.Arms t u c) (piece.Loop l left) i j = absurd (not_opened g paid at part.past l i.0 j.0)
  unique (piece.Arms t u c) (piece.Cases e) i j = absurd (made_no_list g at t i.1.jump j.1.list)
  unique (piece.Loop l left) piece.One i j = absurd (not_opened g paid at part.past l j.fresh i.0)
  unique (piece.Loop l left) (piece.Arm t c) i j = absurd (not_opened g paid at part.past l j.0 i.0)
  unique (piece.Loop l left) (piece.Arms t u c) i j = absurd (not_opened g paid at part.past l j.0 i.0)
  unique (piece.Loop l left) (piece.Cases e) i j = absurd (not_opened g paid at part.past l j.0 i.0)
  unique (piece.Loop l left) (piece.Loop m right) i j =
      let a : m ≤ l = i.0.loop.greatest m j.0.loop.back in
      let b : l ≤ m = j.0.loop.greatest l i.0.loop.back in
      let e : m ≡ l = omega (arith, a, b) in
      ap (λ n. piece.Loop n left) (sym e)
      ∙ ap (λ n. piece.Loop m n) (same_left m left right (subst (λ n. IsLeft part.past part.follow n left) (sym e) i.1) j.1)
  unique (piece.Cases e) piece.One i j = absurd (j.no_list i.1.list)
  unique (piece.Cases e) (piece.Arm t c) i j = absurd (made_no_list g at t j.1.jump i.1.list)
  unique (piece.Cases e) (piece.Arms t u c) i j = absurd (made_no_list g at t j.1.jump i.1.list)
  unique (piece.Cases e) (piece.Loop l left) i j = absurd (not_opened g paid at part.past l i.0 j.0)
  unique (piece.Cases d) (piece.Cases e) i j = ap (λ n. piece.Cases n) (i.3 ∙ sym j.3)
