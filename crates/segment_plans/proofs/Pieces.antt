-- What is found to be written at a block is what a plan has there.
use Rattle.std.proofs.Common.{◌≡◌, ◌⊎◌, ℕ, suc, ◌+◌, ◌-◌, ◌<◌, ◌≤◌, Bool, true, false, ◌&&◌, ◌==◌, List, [], ◌∷◌, Option, Some, None, cond, get_or, length, slice_get, inl, inr, refl, sym, ap, subst, ◌∙◌, arith}
use Rattle.std.specs.Bool.{Decides}
use Rattle.std.specs.Prelude.{nat_le, nat_lt}
use Rattle.std.proofs.lemmas.Bool.Decides.{Decides-and, Decides-eqb, Decides-like, Decides-ltb}
use Rattle.std.proofs.lemmas.Option.{none-some, slice_get-get_or}
use Rattle.nesting_laws.specs.Plans.{IsFresh, IsLeft, IsOne, IsOpened, IsWayOut, LeadsTo}
use Rattle.nesting_laws.proofs.Contexts.{ends_high}
use Rattle.stl_tree.specs.Blocks.{Way, always, if_made, on, one_of, stops, unless_ended}
use Rattle.stl_tree.specs.Segments.{IsOneOf, IsReached, jump}
use Rattle.stl_tree.specs.Flows.{IsEndBlock, IsIn, IsLoop, IsSegment, IsUnconditional, Segment, blocks_of, falls_by, jumps_of}
use Rattle.flow_graph.specs.declared.graph.Exit.{Exit}
use Rattle.flow_graph.specs.declared.graph.Exit.TheVariants as exit
use Rattle.segment_plans.specs.Known.{AreKnown}
use Rattle.segment_plans.specs.Planned.{AnswersPiece, IsBranchIn, IsOtherIn, IsPartOf, IsPiece, around_of, kind_of}
use Rattle.segment_plans.specs.declared.blocks.Blocks.{Blocks}
use Rattle.segment_plans.specs.declared.planning.Part.{Part}
use Rattle.segment_plans.specs.declared.planning.Piece.{Piece}
use Rattle.segment_plans.specs.declared.planning.Piece.TheVariants as piece
use Rattle.segment_plans.specs.Counts.{is_reached, last_of}
use Rattle.segment_plans.specs.inner.Pieces.{arms_by, branch, branch_to, choice, fresh_or_loop, inner_end, is_endless, is_inner_end, jumps_out, loop_end, loop_if, may_fall, may_lead, one_if, piece_at, piece_by, piece_within, second_by, second_end, second_if}
use Rattle.segment_plans.proofs.Choices.{AnswersChoice, IsCases, choices}
use Rattle.segment_plans.proofs.Site.{EndsAt, IsSite, decides_if, decides_le, jump_reached, site_of}
use Rattle.segment_plans.proofs.Ways.{AnswersEnd, Ends, EndsIn, IsOut, Leads, ends_same, inner_decides, inner_ends, leads, leads_by, out, same_way, target, way_at}

-- The second arm

-- it is found to where a jump leads over a second arm, and where that ends, if there is one
abbrev AnswersOther : Segment → Part → ℕ → Option (ℕ × ℕ) → Type 0
AnswersOther g part t None = (u d : ℕ) → IsOtherIn g part t u d → ⊥
AnswersOther g part t (Some (u, d)) = IsOtherIn g part t u d

pub other_way : (g : Segment) (part : Part) (t u d : ℕ) → (o : IsOtherIn g part t u d) → slice_get g.flow.ways (t - 1) ≡ Some (always u)
other_way g part t u d o =
    let e : suc o.source ≡ t = o.next in
    let f : o.source ≡ t - 1 = omega (arith, e) in
    subst (λ s. slice_get g.flow.ways s ≡ Some (always u)) f o.jump.1

no_other : (g : Segment) (part : Part) (t : ℕ) (w : Way) → slice_get g.flow.ways (t - 1) ≡ Some w → ((u : ℕ) → w ≡ always u → ⊥)
    → (u d : ℕ) → IsOtherIn g part t u d → ⊥
no_other g part t w e n u d o = n u (same_way g (t - 1) w (always u) e (other_way g part t u d o))

module _ (g : Segment) (part : Part) (at t : ℕ) (low : g.first ≤ at) (order : at < t) (up : t ≤ part.past) (high : part.past ≤ g.past) (u : ℕ)
    (r : IsReached (blocks_of g.flow) (t - 1)) (e : slice_get g.flow.ways (t - 1) ≡ Some (always u)) where
  same : (v d : ℕ) → IsOtherIn g part t v d → v ≡ u
  same v d o = ap target (same_way g (t - 1) (always v) (always u) (other_way g part t v d o) e)

  ends_in : (v d : ℕ) → IsOtherIn g part t v d → EndsIn part u d
  ends_in v d o = subst (λ v. EndsIn part v d) (same v d o) o.ends

  pick : (c : ℕ) → (IsOut g part u → ⊥) → EndsIn part u c → (b : Bool) → Decides b (t < c) → AnswersOther g part t (cond b (Some (u, c)) None)
  pick c free ends true d = record {
    source = t - 1;
    jump = (record { reached = r; low = omega (arith, low, order); high = omega (arith, order, up, high) }, e);
    next = omega (arith, order);
    stays = λ w. free (inl w);
    free = λ w. free (inr w);
    ahead = d.0 refl;
    ends = ends;
  }
  pick c free ends false d = λ v n o.
      let q : n ≡ c = ends_same part.past part.follow u n c (kind_of part.kind) (ends_in v n o) ends in
      let x : t < n = o.ahead in
      let bad : false ≡ true = d.1 (omega (arith, q, x)) in
      absurd cc

  over : (b : Bool) → Decides b (IsOut g part u) → (o : Option ℕ) → AnswersEnd part u o
      → AnswersOther g part t (cond b None (second_if part t u o))
  over true h o a = λ v n k. by (subst (λ u. IsOut g part u) (sym (same v n k)) (h.0 refl)) k
    where
      by : {v n : ℕ} → IsOut g part v → IsOtherIn g part t v n → ⊥
      by (inl w) k = k.stays w
      by (inr w) k = k.free w
  over false h None a = λ v n k. a n (ends_in v n k)
  over false h (Some c) a = pick c (λ w. let e : false ≡ true = h.1 w in absurd cc) a (nat_lt t c) (Decides-ltb t c)

second : (g : Segment) (blocks : Blocks) → IsSite g blocks → (part : Part) (at t : ℕ) → g.first ≤ at → at < t → t ≤ part.past → part.past ≤ g.past
    → AnswersOther g part t (second_end blocks part t)
second g blocks site part at t low order up high = by (is_reached blocks (t - 1)) (site.reached (t - 1) (omega (arith, order, up, high, site.size)))
  where
    there : IsReached (blocks_of g.flow) (t - 1) → (o : Option Exit) → slice_get blocks.exits.items (t - 1) ≡ o
        → AnswersOther g part t (second_by blocks part t o)
    there r None e = λ u d k.
        let f : slice_get g.flow.ways (t - 1) ≡ None = way_at g blocks site (t - 1) None e in
        absurd (none-some (always u) (sym f ∙ other_way g part t u d k))
    there r (Some (exit.Jump u)) e =
        over g part at t low order up high u r (way_at g blocks site (t - 1) (Some (exit.Jump u)) e) (jumps_out blocks part u)
        (out g blocks site part u) (inner_end part u) (inner_ends part u)
    there r (Some exit.Fall) e = no_other g part t on (way_at g blocks site (t - 1) (Some exit.Fall) e) (λ u q. cc)
    there r (Some exit.EndIf) e = no_other g part t unless_ended (way_at g blocks site (t - 1) (Some exit.EndIf) e) (λ u q. cc)
    there r (Some exit.End) e = no_other g part t stops (way_at g blocks site (t - 1) (Some exit.End) e) (λ u q. cc)
    there r (Some (exit.Branch j)) e = no_other g part t (if_made j) (way_at g blocks site (t - 1) (Some (exit.Branch j)) e) (λ u q. cc)
    there r (Some (exit.Table js j)) e = no_other g part t (one_of js j) (way_at g blocks site (t - 1) (Some (exit.Table js j)) e) (λ u q. cc)

    by : (b : Bool) → Decides b (IsReached (blocks_of g.flow) (t - 1))
        → AnswersOther g part t (cond b (second_by blocks part t (slice_get blocks.exits.items (t - 1))) None)
    by true d = there (d.0 refl) (slice_get blocks.exits.items (t - 1)) refl
    by false d = λ u n o.
        let e : suc o.source ≡ t = o.next in
        let f : o.source ≡ t - 1 = omega (arith, e) in
        let bad : false ≡ true = d.1 (subst (IsReached (blocks_of g.flow)) f o.jump.0.reached) in
        absurd cc

-- One block

pub not_opened : (g : Segment) (paid : Bool) (at hi l : ℕ) → IsFresh g paid at → IsOpened g paid at hi l → ⊥
not_opened g true at hi l f o = let e : true ≡ false = o.free in absurd cc
not_opened g false at hi l f o =
    let h : l < at = f l o.loop.back in
    let k : at ≤ l = o.loop.ordered in
    omega (arith, h, k)

pub head_reached : (g : Segment) (paid : Bool) (at hi l : ℕ) → IsOpened g paid at hi l → IsReached (blocks_of g.flow) at
head_reached g paid at hi l o = let j = jump_reached g l at o.loop.back in jump j.0 j.1

-- how a block is written alone, by its way
make_one : (g : Segment) (part : Part) (paid : Bool) (at : ℕ) (w : Way) → slice_get g.flow.ways at ≡ Some w → IsIn g at → IsFresh g paid at
    → ((t : ℕ) → IsOneOf t (jumps_of w) ⊎ ((falls_by w ≡ true) × (t ≡ suc at)) → Leads g part at t)
    → ((t : ℕ) → w ≡ if_made t → IsOut g part t) → ((ts : List ℕ) (l : ℕ) → w ≡ one_of ts l → ⊥)
    → IsOne g paid at part.past part.follow (around_of part.around)
make_one g part paid at w e here fresh lead jumps no_list = record {
  here = here;
  fresh = fresh;
  leads = λ t l. lead t (leads_by g at t w e l);
  jumps = λ t j. jumps t (same_way g at w (if_made t) e j.1);
  no_list = λ l. no_list l.0 l.1 (same_way g at w (one_of l.0 l.1) e l.2.1);
}

-- what is known of a block at which something is to be written
record IsHere (g : Segment) (part : Part) (paid : Bool) (at : ℕ) (w : Way) : Type 0 where
  way : slice_get g.flow.ways at ≡ Some w
  here : IsIn g at
  fresh : IsFresh g paid at
  low : at < part.past
  high : part.past ≤ g.past

module _ (g : Segment) (blocks : Blocks) (part : Part) (paid : Bool) (at : ℕ) where
  -- only the block alone may stand there
  abbrev OnlyOne : Type 0
  OnlyOne = (p : Piece) → IsPiece g blocks part paid at p → IsOne g paid at part.past part.follow (around_of part.around)

  one_answers : (b : Bool) → OnlyOne → Decides b (IsOne g paid at part.past part.follow (around_of part.around))
      → AnswersPiece g blocks part paid at (one_if b)
  one_answers true only d = d.0 refl
  one_answers false only d = λ p i. let e : false ≡ true = d.1 (only p i) in absurd cc

  only_one : (w : Way) → IsHere g part paid at w → ((t : ℕ) → w ≡ if_made t → (IsWayOut (around_of part.around) t → ⊥) → (IsEndBlock g.flow t → ⊥) → ⊥)
      → ((ts : List ℕ) (l : ℕ) → w ≡ one_of ts l → ⊥) → OnlyOne
  only_one w h n m piece.Skip i = absurd (i h.here.reached)
  only_one w h n m piece.One i = i
  only_one w h n m (piece.Arm t c) i = absurd (n t (same_way g at w (if_made t) h.way i.1.jump.1) i.1.stays i.1.free)
  only_one w h n m (piece.Arms t u c) i = absurd (n t (same_way g at w (if_made t) h.way i.1.jump.1) i.1.stays i.1.free)
  only_one w h n m (piece.Loop l left) i = absurd (not_opened g paid at part.past l h.fresh i.0)
  only_one w h n m (piece.Cases e) i = let list = i.1.list in absurd (m list.0 list.1 (same_way g at w (one_of list.0 list.1) h.way list.2.1))

  -- a block with one way on, where it leads or does not
  single : (t : ℕ) (w : Way) (b : Bool) → IsHere g part paid at w
      → LeadsTo g at t → ((u : ℕ) → IsOneOf u (jumps_of w) ⊎ ((falls_by w ≡ true) × (u ≡ suc at)) → u ≡ t)
      → ((u : ℕ) → w ≡ if_made u → ⊥) → ((ts : List ℕ) (l : ℕ) → w ≡ one_of ts l → ⊥)
      → Decides b (Leads g part at t) → AnswersPiece g blocks part paid at (one_if b)
  single t w b h there only no_branch no_list d =
      one_answers b (only_one w h (λ u e n m. no_branch u e) no_list)
      (Decides-like b
      (λ k. make_one g part paid at w h.way h.here h.fresh (λ u l. subst (Leads g part at) (sym (only u l)) k) (λ u e. absurd (no_branch u e)) no_list)
      (λ o. o.leads t there) d)

only_jump : (t u : ℕ) (falls : Bool) (n : ℕ) → falls ≡ false → IsOneOf u (t ∷ []) ⊎ ((falls ≡ true) × (u ≡ n)) → u ≡ t
only_jump t u falls n f (inl (inl e)) = e
only_jump t u falls n f (inl (inr o)) = absurd o
only_jump t u falls n f (inr h) = let e : falls ≡ true = h.0 in absurd cc

only_fall : (u n : ℕ) → IsOneOf u [] ⊎ ((true ≡ true) × (u ≡ n)) → u ≡ n
only_fall u n (inl o) = absurd o
only_fall u n (inr h) = h.1

never : (g : Segment) (at : ℕ) (w : Way) → slice_get g.flow.ways at ≡ Some w → ((t : ℕ) → w ≡ always t → ⊥) → Decides false (IsUnconditional g at)
never g at w e n = (λ k. absurd cc, λ u. absurd (n u.0 (same_way g at w (always u.0) e u.1.1)))

no_way : (u n : ℕ) → IsOneOf u [] ⊎ ((false ≡ true) × (u ≡ n)) → ⊥
no_way u n (inl o) = o
no_way u n (inr h) = let e : false ≡ true = h.0 in absurd cc

-- A block with a branch

module _ (g : Segment) (blocks : Blocks) (site : IsSite g blocks) (part : Part) (paid : Bool) (at t : ℕ) (h : IsHere g part paid at (if_made t)) where
  branch_out : IsOut g part t → AnswersPiece g blocks part paid at (one_if (may_lead blocks part at (at + 1) false))
  branch_out o =
      let next : at + 1 ≡ suc at = omega arith in
      let d : Decides (may_lead blocks part at (at + 1) false) (Leads g part at (at + 1)) =
      leads g blocks site part at (at + 1) false h.low h.high (never g at (if_made t) h.way (λ u e. cc)) in
      one_answers g blocks part paid at (may_lead blocks part at (at + 1) false)
      (only_one g blocks part paid at (if_made t) h (λ u e n m. both u e n m o) (λ ts l e. cc))
      (Decides-like (may_lead blocks part at (at + 1) false)
      (λ k. make_one g part paid at (if_made t) h.way h.here h.fresh (λ u l. lead (subst (Leads g part at) next k) u l)
      (λ u e. subst (IsOut g part) (ap target e) o) (λ ts l e. cc))
      (λ k. k.leads (at + 1) (if_made t, (h.here, h.way), inr (refl, next))) d)
    where
      both : (u : ℕ) → if_made t ≡ if_made u → (IsWayOut (around_of part.around) u → ⊥) → (IsEndBlock g.flow u → ⊥) → IsOut g part t → ⊥
      both u e n m (inl w) = n (subst (IsWayOut (around_of part.around)) (ap target e) w)
      both u e n m (inr w) = m (subst (IsEndBlock g.flow) (ap target e) w)

      goes : (v : ℕ) → IsOut g part v → Leads g part at v
      goes v (inl w) = inr (inl w)
      goes v (inr w) = inr (inr (inl w))

      lead : Leads g part at (suc at) → (u : ℕ) → IsOneOf u (t ∷ []) ⊎ ((true ≡ true) × (u ≡ suc at)) → Leads g part at u
      lead k u (inl (inl e)) = subst (Leads g part at) (sym e) (goes t o)
      lead k u (inl (inr n)) = absurd n
      lead k u (inr l) = subst (Leads g part at) (sym l.1) k

  -- where no arm begins there, nothing may stand there
  module _ (n : IsOut g part t → ⊥) where
    not_one : IsOne g paid at part.past part.follow (around_of part.around) → ⊥
    not_one o = n (o.jumps t (h.here, h.way))

    same_target : (u c : ℕ) → IsBranchIn g part at u c → u ≡ t
    same_target u c b = ap target (same_way g at (if_made u) (if_made t) b.jump.1 h.way)

    no_piece : ((u c : ℕ) → IsBranchIn g part at u c → ⊥) → (p : Piece) → IsPiece g blocks part paid at p → ⊥
    no_piece none piece.Skip i = i h.here.reached
    no_piece none piece.One i = not_one i
    no_piece none (piece.Arm u c) i = none u c i.1
    no_piece none (piece.Arms u v c) i = none u u i.1
    no_piece none (piece.Loop l left) i = not_opened g paid at part.past l h.fresh i.0
    no_piece none (piece.Cases e) i = let list = i.1.list in
        let q : if_made t ≡ one_of list.0 list.1 = same_way g at (if_made t) (one_of list.0 list.1) h.way list.2.1 in absurd cc

    starts_in : (u c : ℕ) → IsBranchIn g part at u c → EndsIn part t c
    starts_in u c b = subst (λ u. EndsIn part u c) (same_target u c b) b.ends

    -- the branch begins an arm up to a block
    module _ (first : g.first ≤ at) (c : ℕ) (ends : EndsIn part t c) where
      high : c ≤ part.past
      high = (ends_high part.past part.follow (kind_of part.kind) t c ends).0

      starts : at < c → (at + 1 ≡ part.past → part.follow ≡ part.past) → IsBranchIn g part at t c
      starts ahead falls = record {
        jump = (h.here, h.way);
        stays = λ w. n (inl w);
        free = λ e. n (inr e);
        ahead = ahead;
        ends = ends;
        falls = λ e. falls (omega (arith, e));
      }

      -- an arm before a second one ends where the jump leads
      ends_there : (u d : ℕ) → IsOtherIn g part c u d → c ≡ t
      ends_there u d o =
          let x : c < d = o.ahead in
          let y : d ≤ part.past = (ends_high part.past part.follow (kind_of part.kind) u d o.ends).0 in
          by ends (omega (arith, x, y))
        where
          by : EndsIn part t c → c < part.past → c ≡ t
          by (inl e) x = e.0
          by (inr e) x = let q : c ≡ part.past = e.1 in absurd (omega (arith, q, x))

      pieces : at < c → (at + 1 ≡ part.past → part.follow ≡ part.past) → (o : Option (ℕ × ℕ)) → AnswersOther g part c o
          → IsPiece g blocks part paid at (arms_by t c o)
      pieces ahead falls None a = (h.fresh, starts ahead falls, a)
      pieces ahead falls (Some (u, d)) a =
          let e : c ≡ t = ends_there u d a in
          (h.fresh, subst (λ n. IsBranchIn g part at n c) (sym e) (starts ahead falls), a)

      begins : (b : Bool) → Decides b ((at < c) × (at + 1 ≡ part.past → part.follow ≡ part.past))
          → AnswersPiece g blocks part paid at (cond b (Some (arms_by t c (second_end blocks part c))) None)
      begins true d = let k = d.0 refl in pieces k.0 k.1 (second_end blocks part c) (second g blocks site part at c first k.0 high h.high)
      begins false d = no_piece none
        where
          none : (u e : ℕ) → IsBranchIn g part at u e → ⊥
          none u e b =
              let q : e ≡ c = ends_same part.past part.follow t e c (kind_of part.kind) (starts_in u e b) ends in
              let ahead : at < e = b.ahead in
              let falls : at + 1 ≡ part.past → part.follow ≡ part.past = λ i. b.falls (let f : suc at ≡ part.past = omega (arith, i) in f) in
              let bad : false ≡ true = d.1 (omega (arith, q, ahead), falls) in
              absurd cc

    falls_decides : Decides (may_fall part at) (at + 1 ≡ part.past → part.follow ≡ part.past)
    falls_decides = decides_if (at + 1 == part.past) (part.follow == part.past) (Decides-eqb (at + 1) part.past) (Decides-eqb part.follow part.past)

    branch_in : g.first ≤ at → (o : Option ℕ) → AnswersEnd part t o → AnswersPiece g blocks part paid at (branch_to blocks part at t o)
    branch_in first None a = no_piece (λ u c b. a c (starts_in u c b))
    branch_in first (Some c) a = begins first c a (nat_lt at c && may_fall part at)
        (Decides-and (nat_lt at c) (may_fall part at) (Decides-ltb at c) falls_decides)

  branches : g.first ≤ at → AnswersPiece g blocks part paid at (branch blocks part at t)
  branches first = by (jumps_out blocks part t) (out g blocks site part t)
    where
      by : (b : Bool) → Decides b (IsOut g part t)
          → AnswersPiece g blocks part paid at (cond b (one_if (may_lead blocks part at (at + 1) false)) (branch_to blocks part at t (inner_end part t)))
      by true d = branch_out (d.0 refl)
      by false d = branch_in (λ o. let e : false ≡ true = d.1 o in absurd cc) first (inner_end part t) (inner_ends part t)

-- A block that begins no loop

within : (g : Segment) (blocks : Blocks) → IsSite g blocks → (part : Part) (paid : Bool) (at : ℕ) → IsIn g at → IsFresh g paid at → at < part.past
    → part.past ≤ g.past → AnswersPiece g blocks part paid at (piece_within blocks part at)
within g blocks site part paid at here fresh low high = by (slice_get blocks.exits.items at) refl
  where
    is_here : (w : Way) → slice_get g.flow.ways at ≡ Some w → IsHere g part paid at w
    is_here w e = record { way = e; here = here; fresh = fresh; low = low; high = high }

    next : at + 1 ≡ suc at
    next = omega arith

    by : (o : Option Exit) → slice_get blocks.exits.items at ≡ o → AnswersPiece g blocks part paid at (piece_by blocks part at o)
    by None e =
        let f : slice_get g.flow.ways at ≡ None = way_at g blocks site at None e in
        let there : at < length g.flow.ways = omega (arith, low, high, site.size) in
        λ p i. none-some (get_or g.flow.ways at on) (sym f ∙ slice_get-get_or g.flow.ways at on there)
    by (Some exit.Fall) e =
        let w : slice_get g.flow.ways at ≡ Some on = way_at g blocks site at (Some exit.Fall) e in
        single g blocks part paid at (at + 1) on (may_lead blocks part at (at + 1) false) (is_here on w)
        (on, (here, w), inr (refl, next)) (λ u l. only_fall u (suc at) l ∙ sym next) (λ u q. cc) (λ ts l q. cc)
        (leads g blocks site part at (at + 1) false low high (never g at on w (λ u q. cc)))
    by (Some exit.EndIf) e =
        let w : slice_get g.flow.ways at ≡ Some unless_ended = way_at g blocks site at (Some exit.EndIf) e in
        single g blocks part paid at (at + 1) unless_ended (may_lead blocks part at (at + 1) false) (is_here unless_ended w)
        (unless_ended, (here, w), inr (refl, next)) (λ u l. only_fall u (suc at) l ∙ sym next) (λ u q. cc) (λ ts l q. cc)
        (leads g blocks site part at (at + 1) false low high (never g at unless_ended w (λ u q. cc)))
    by (Some (exit.Jump t)) e =
        let w : slice_get g.flow.ways at ≡ Some (always t) = way_at g blocks site at (Some (exit.Jump t)) e in
        single g blocks part paid at t (always t) (may_lead blocks part at t true) (is_here (always t) w)
        (always t, (here, w), inl (inl refl)) (λ u l. only_jump t u false (suc at) refl l) (λ u q. cc) (λ ts l q. cc)
        (leads g blocks site part at t true low high (λ k. (t, (here, w)), λ k. refl))
    by (Some (exit.Branch t)) e =
        branches g blocks site part paid at t (is_here (if_made t) (way_at g blocks site at (Some (exit.Branch t)) e)) here.low
    by (Some exit.End) e =
        let w : slice_get g.flow.ways at ≡ Some stops = way_at g blocks site at (Some exit.End) e in
        make_one g part paid at stops w here fresh (λ u l. absurd (no_way u (suc at) l)) (λ u q. cc) (λ ts l q. cc)
    by (Some (exit.Table js j)) e = listed (choice blocks part at) (choices g blocks site part at (js, j, (here, w)) high)
      where
        w : slice_get g.flow.ways at ≡ Some (one_of js j)
        w = way_at g blocks site at (Some (exit.Table js j)) e

        no_piece : ((e : ℕ) → IsCases g blocks part at e → ⊥) → (p : Piece) → IsPiece g blocks part paid at p → ⊥
        no_piece a piece.Skip i = i here.reached
        no_piece a piece.One i = i.no_list (js, j, (here, w))
        no_piece a (piece.Arm t c) i = let q : one_of js j ≡ if_made t = same_way g at (one_of js j) (if_made t) w i.1.jump.1 in absurd cc
        no_piece a (piece.Arms t u c) i = let q : one_of js j ≡ if_made t = same_way g at (one_of js j) (if_made t) w i.1.jump.1 in absurd cc
        no_piece a (piece.Loop l left) i = not_opened g paid at part.past l fresh i.0
        no_piece a (piece.Cases e) i = a e (i.1, i.2, i.3)

        listed : (o : Option Piece) → AnswersChoice g blocks part at o → AnswersPiece g blocks part paid at o
        listed None a = no_piece a
        listed (Some (piece.Cases e)) a = (fresh, a.0, a.1, a.2)
        listed (Some p) a = absurd a

-- A block of a part

module _ (g : Segment) (blocks : Blocks) (part : Part) (at l : ℕ) (r : IsReached (blocks_of g.flow) at) (loop : IsLoop g at l) where
  not_fresh : IsFresh g false at → ⊥
  not_fresh f = let h : l < at = f l loop.back in let k : at ≤ l = loop.ordered in omega (arith, h, k)

  same_last : (m : ℕ) → IsLoop g at m → m ≡ l
  same_last m other =
      let a : m ≤ l = loop.greatest m other.back in
      let b : l ≤ m = other.greatest l loop.back in
      omega (arith, a, b)

  no_loop_piece : ((m : ℕ) (left : Bool) → IsOpened g false at part.past m → IsLeft part.past part.follow m left → ⊥) → (p : Piece)
      → IsPiece g blocks part false at p → ⊥
  no_loop_piece none piece.Skip i = i r
  no_loop_piece none piece.One i = not_fresh i.fresh
  no_loop_piece none (piece.Arm t c) i = not_fresh i.0
  no_loop_piece none (piece.Arms t u c) i = not_fresh i.0
  no_loop_piece none (piece.Cases e) i = not_fresh i.0
  no_loop_piece none (piece.Loop m left) i = none m left i.0 i.1

  -- behind the loop the part goes on, or another arm begins
  ending : l < part.past → (b : Bool) → Decides b (Ends part (l + 1)) → (d : Bool) → Decides d ((l + 1 ≡ part.past) × (part.past < part.follow))
      → AnswersPiece g blocks part false at (cond b (Some (piece.Loop l true)) (cond d (Some (piece.Loop l false)) None))
  ending up true h d k =
      let behind : l + 1 ≡ part.past → part.follow ≡ part.past = (h.0 refl).1 in
      (record { free = refl; loop = loop; within = up }, λ e. behind (let f : l + 1 ≡ part.past = omega (arith, e) in f))
  ending up false h true k =
      let e = k.0 refl in
      let same : l + 1 ≡ part.past = e.0 in
      (record { free = refl; loop = loop; within = up }, (let f : suc l ≡ part.past = omega (arith, same) in f, e.1))
  ending up false h false k = no_loop_piece refuse
    where
      refuse : (m : ℕ) (left : Bool) → IsOpened g false at part.past m → IsLeft part.past part.follow m left → ⊥
      refuse m true o behind =
          let e : m ≡ l = same_last m o.loop in
          let low : l + 1 ≤ part.past = omega (arith, up) in
          let holds : Ends part (l + 1) = (low, λ q. behind (let f : suc m ≡ part.past = omega (arith, q, e) in f)) in
          let bad : false ≡ true = h.1 holds in absurd cc
      refuse m false o behind =
          let e : m ≡ l = same_last m o.loop in
          let q : suc m ≡ part.past = behind.0 in
          let f : l + 1 ≡ part.past = omega (arith, e, q) in
          let bad : false ≡ true = k.1 (f, behind.1) in absurd cc

  opened : AnswersPiece g blocks part false at (loop_if part at l)
  opened = by (nat_le at l && nat_lt l part.past) (Decides-and (nat_le at l) (nat_lt l part.past) (decides_le at l) (Decides-ltb l part.past))
    where
      by : (b : Bool) → Decides b ((at ≤ l) × (l < part.past)) → AnswersPiece g blocks part false at (cond b (loop_end part l) None)
      by true d = ending (d.0 refl).1 (is_inner_end part (l + 1)) (inner_decides part (l + 1)) (is_endless part l)
          (Decides-and (l + 1 == part.past) (nat_lt part.past part.follow) (Decides-eqb (l + 1) part.past) (Decides-ltb part.past part.follow))
      by false d = no_loop_piece (λ m left o behind.
          let e : m ≡ l = same_last m o.loop in
          let inside : m < part.past = o.within in
          let bad : false ≡ true = d.1 (loop.ordered, omega (arith, e, inside)) in absurd cc)

-- what is found at a block of a part is what may stand there
answers : (g : Segment) (blocks : Blocks) → IsSite g blocks → (part : Part) (at : ℕ) (paid : Bool) → IsPartOf g part at → at < part.past
    → AnswersPiece g blocks part paid at (piece_at blocks part at paid)
answers g blocks site part at paid inside low = by (is_reached blocks at) (site.reached at (omega (arith, low, inside.high, site.size)))
  where
    is_in : IsReached (blocks_of g.flow) at → IsIn g at
    is_in r = record { reached = r; low = inside.low; high = omega (arith, low, inside.high) }

    begun : IsReached (blocks_of g.flow) at → (o : Option ℕ) → EndsAt g at o → AnswersPiece g blocks part false at (fresh_or_loop blocks part at o)
    begun r None f = within g blocks site part false at (is_in r) f low inside.high
    begun r (Some l) f = opened g blocks part at l r f

    there : (paid : Bool) → IsReached (blocks_of g.flow) at
        → AnswersPiece g blocks part paid at (cond paid (piece_within blocks part at) (fresh_or_loop blocks part at (last_of blocks at)))
    there true r = within g blocks site part true at (is_in r) tt low inside.high
    there false r = begun r (last_of blocks at) (site.lasts at inside.low (omega (arith, low, inside.high)))

    by : (b : Bool) → Decides b (IsReached (blocks_of g.flow) at)
        → AnswersPiece g blocks part paid at
        (cond b (cond paid (piece_within blocks part at) (fresh_or_loop blocks part at (last_of blocks at))) (Some piece.Skip))
    by true d = there paid (d.0 refl)
    by false d = λ r. let e : false ≡ true = d.1 r in absurd cc

-- the same of what the code finds, which is no other
pub fits_there : (blocks : Blocks) (part : Part) (at : ℕ) (paid : Bool) (o : Option Piece) → at < part.past → o ≡ piece_at blocks part at paid
    → (g : Segment) → IsSegment g → AreKnown g.flow blocks → IsPartOf g part at → AnswersPiece g blocks part paid at o
fits_there blocks part at paid o low e g seg known inside =
    subst (AnswersPiece g blocks part paid at) (sym e) (answers g blocks (site_of g blocks seg known) part at paid inside low)
