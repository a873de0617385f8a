-- Where a block of a part may lead, and where arms in it end, as tests tell it.
use Rattle.std.proofs.Common.{◌≡◌, ◌⊎◌, ℕ, suc, ◌+◌, ◌<◌, ◌≤◌, Bool, true, false, not, ◌&&◌, ◌||◌, ◌==◌, List, Option, Some, None, cond, length, slice_get, inl, inr, refl, sym, ap, subst, ◌∙◌, arith}
use Rattle.std.specs.Bool.{Decides}
use Rattle.std.specs.Prelude.{nat_le, nat_lt}
use Rattle.std.specs.Option.{option_map}
use Rattle.std.proofs.lemmas.Bool.Decides.{Decides-and, Decides-eqb, Decides-like, Decides-ltb, Decides-or}
use Rattle.std.proofs.lemmas.Option.{same_Some, slice_get-map}
use Rattle.std.proofs.lemmas.List.{length-map}
use Rattle.nesting_laws.specs.Plans.{EndsBefore, Goes, IsBare, IsListArm, IsRow, IsWayOut, Kind as PlanKind, LeadsTo}
use Rattle.stl_tree.specs.Blocks.{Way, always, if_made}
use Rattle.stl_tree.specs.Segments.{IsOneOf}
use Rattle.stl_tree.specs.Flows.{IsEndBlock, IsUnconditional, Segment, falls_by, jumps_of}
use Rattle.flow_graph.specs.Graphs.{way_by}
use Rattle.flow_graph.specs.declared.graph.Exit.{Exit}
use Rattle.segment_plans.specs.Arms.{is_way_out}
use Rattle.segment_plans.specs.Counts.{is_bare, is_end}
use Rattle.segment_plans.specs.Planned.{around_of, kind_of}
use Rattle.segment_plans.specs.declared.blocks.Blocks.{Blocks}
use Rattle.segment_plans.specs.declared.planning.Around.{Around}
use Rattle.segment_plans.specs.declared.planning.Around.TheVariants as around
use Rattle.segment_plans.specs.declared.planning.Kind.{Kind}
use Rattle.segment_plans.specs.declared.planning.Kind.TheVariants as kind
use Rattle.segment_plans.specs.declared.planning.Part.{Part}
use Rattle.segment_plans.specs.inner.Pieces.{falls_off, goes_on, inner_end, is_inner_end, is_list_arm, jumps_out, may_lead, takes_rest}
use Rattle.segment_plans.proofs.Site.{IsSite, decides_if, decides_le, decides_then, is_set}

-- Where a block leads

pub way_out : (a : Around) (t : ℕ) → Decides (is_way_out a t) (IsWayOut (around_of a) t)
way_out around.NoLoop t = (λ g. absurd cc, λ b. absurd b)
way_out (around.Inside head last left) t =
    Decides-or (t == head) (left && (t == last + 1)) (Decides-eqb t head)
    (Decides-and left (t == last + 1) (is_set left)
    (Decides-like (t == last + 1) (λ e. omega (arith, e)) (λ e. omega (arith, e)) (Decides-eqb t (last + 1))))

count_exits : (g : Segment) (blocks : Blocks) → IsSite g blocks → length blocks.exits.items ≡ length g.flow.ways
count_exits g blocks site = sym (length-map blocks.exits.items way_by) ∙ ap length site.exits

pub end_block : (g : Segment) (blocks : Blocks) → IsSite g blocks → (t : ℕ) → Decides (is_end blocks t) (IsEndBlock g.flow t)
end_block g blocks site t =
    let size : length blocks.exits.items ≡ length g.flow.ways = count_exits g blocks site in
    Decides-and blocks.ends_alone (t + 1 == length blocks.exits.items)
    (λ e. sym site.alone ∙ e, λ e. site.alone ∙ e)
    (Decides-like (t + 1 == length blocks.exits.items) (λ e. omega (arith, e, size)) (λ e. omega (arith, e, size))
    (Decides-eqb (t + 1) (length blocks.exits.items)))

-- out of the loop around, or to the end word
abbrev pub IsOut : Segment → Part → ℕ → Type 0
IsOut g part t = IsWayOut (around_of part.around) t ⊎ IsEndBlock g.flow t

pub out : (g : Segment) (blocks : Blocks) → IsSite g blocks → (part : Part) (t : ℕ) → Decides (jumps_out blocks part t) (IsOut g part t)
out g blocks site part t = Decides-or (is_way_out part.around t) (is_end blocks t) (way_out part.around t) (end_block g blocks site t)

-- an end inside a part
abbrev pub Ends : Part → ℕ → Type 0
Ends part t = (t ≤ part.past) × (t ≡ part.past → part.follow ≡ part.past)

pub inner_decides : (part : Part) (t : ℕ) → Decides (is_inner_end part t) (Ends part t)
inner_decides part t =
    Decides-and (nat_le t part.past) (not (t == part.past) || (part.follow == part.past)) (decides_le t part.past)
    (decides_if (t == part.past) (part.follow == part.past) (Decides-eqb t part.past) (Decides-eqb part.follow part.past))

pub list_arm_kind : (k : Kind) → Decides (is_list_arm k) (IsListArm (kind_of k))
list_arm_kind kind.Blocks = (λ e. absurd cc, λ h. absurd h)
list_arm_kind kind.ListArm = (λ e. tt, λ h. refl)

pub kind_row : (k : Kind) → IsRow (kind_of k)
kind_row kind.Blocks = tt
kind_row kind.ListArm = tt

abbrev TakesRest : Part → ℕ → Type 0
TakesRest part t = (IsListArm (kind_of part.kind) × (t ≡ part.follow)) × (part.past < t)

rest_decides : (part : Part) (t : ℕ) → Decides (takes_rest part t) (TakesRest part t)
rest_decides part t =
    Decides-and (is_list_arm part.kind && (t == part.follow)) (nat_lt part.past t)
    (Decides-and (is_list_arm part.kind) (t == part.follow) (list_arm_kind part.kind) (Decides-eqb t part.follow)) (Decides-ltb part.past t)

-- an arm over which a jump leads to a block ends before another
abbrev pub EndsIn : Part → ℕ → ℕ → Type 0
EndsIn part t c = EndsBefore part.past part.follow (kind_of part.kind) t c

-- it is found where that is, if the jump may pass over an arm
abbrev pub AnswersEnd : Part → ℕ → Option ℕ → Type 0
AnswersEnd part t None = (c : ℕ) → EndsIn part t c → ⊥
AnswersEnd part t (Some c) = EndsIn part t c

pub inner_ends : (part : Part) (t : ℕ) → AnswersEnd part t (inner_end part t)
inner_ends part t = by (is_inner_end part t) (inner_decides part t) (takes_rest part t) (rest_decides part t)
  where
    by : (b : Bool) → Decides b (Ends part t) → (d : Bool) → Decides d (TakesRest part t) → AnswersEnd part t (cond b (Some t) (cond d (Some part.past) None))
    by true h d k = let e = h.0 refl in inl (refl, e.0, e.1)
    by false h true k = let e = k.0 refl in inr (e.0.1, refl, (let q : t ≡ part.follow = e.0.1 in let x : part.past < t = e.1 in omega arith), e.0.0)
    by false h false k = none
      where
        none : (c : ℕ) → EndsIn part t c → ⊥
        none c (inl x) = let e : false ≡ true = h.1 (x.1, x.2) in absurd cc
        none c (inr x) = let q : t ≡ part.follow = x.0 in let y : part.past < part.follow = x.2 in
            let e : false ≡ true = k.1 ((x.3, x.0), omega arith) in absurd cc

-- such an arm ends before one block alone
pub ends_same : (hi follow t c d : ℕ) (k : PlanKind) → EndsBefore hi follow k t c → EndsBefore hi follow k t d → c ≡ d
ends_same hi follow t c d k (inl x) (inl y) = omega (arith, x.0, y.0)
ends_same hi follow t c d k (inr x) (inr y) = omega (arith, x.1, y.1)
ends_same hi follow t c d k (inl x) (inr y) = absurd (omega (arith, x.1, y.0, y.2))
ends_same hi follow t c d k (inr x) (inl y) = absurd (omega (arith, y.1, x.0, x.2))

abbrev pub Leads : Segment → Part → ℕ → ℕ → Type 0
Leads g part at t = Goes g at part.past part.follow (around_of part.around) t

pub leads : (g : Segment) (blocks : Blocks) → IsSite g blocks → (part : Part) (at t : ℕ) (alone : Bool) → at < part.past → part.past ≤ g.past
    → Decides alone (IsUnconditional g at) → Decides (may_lead blocks part at t alone) (Leads g part at t)
leads g blocks site part at t alone low high only =
    Decides-like (may_lead blocks part at t alone) there back
    (Decides-or (goes_on blocks part at t || jumps_out blocks part t) (falls_off blocks part at t alone)
    (Decides-or (goes_on blocks part at t) (jumps_out blocks part t) going (out g blocks site part t)) falling)
  where
    Going : Type 0
    Going = ((at < t) × (t < part.past)) × IsBare g at t

    Falling : Type 0
    Falling = ((t ≡ part.follow) × IsBare g at part.past) × ((part.follow ≡ part.past) ⊎ IsUnconditional g at)

    going : Decides (goes_on blocks part at t) (((at < t) × (t < part.past)) × IsBare g at t)
    going =
        decides_then (nat_lt at t && nat_lt t part.past) (is_bare blocks at t)
        (Decides-and (nat_lt at t) (nat_lt t part.past) (Decides-ltb at t) (Decides-ltb t part.past))
        (λ h. let a : at < t = h.0 in let b : t < part.past = h.1 in let size : g.past ≤ length g.flow.ways = site.size in
        site.bare at t a (omega (arith, b, high, size)))

    falling : Decides (falls_off blocks part at t alone) (((t ≡ part.follow) × IsBare g at part.past) × ((part.follow ≡ part.past) ⊎ IsUnconditional g at))
    falling =
        let size : g.past ≤ length g.flow.ways = site.size in
        Decides-and ((t == part.follow) && is_bare blocks at part.past) ((part.follow == part.past) || alone)
        (Decides-and (t == part.follow) (is_bare blocks at part.past) (Decides-eqb t part.follow) (site.bare at part.past low (omega (arith, high, size))))
        (Decides-or (part.follow == part.past) alone (Decides-eqb part.follow part.past) only)

    there : ((((at < t) × (t < part.past)) × IsBare g at t) ⊎ IsOut g part t)
        ⊎ (((t ≡ part.follow) × IsBare g at part.past) × ((part.follow ≡ part.past) ⊎ IsUnconditional g at))
        → Leads g part at t
    there (inl (inl h)) = inl (h.0.0, h.0.1, h.1)
    there (inl (inr (inl w))) = inr (inl w)
    there (inl (inr (inr e))) = inr (inr (inl e))
    there (inr h) = inr (inr (inr (h.0.0, h.0.1, h.1)))

    back : Leads g part at t
        → ((((at < t) × (t < part.past)) × IsBare g at t) ⊎ IsOut g part t)
        ⊎ (((t ≡ part.follow) × IsBare g at part.past) × ((part.follow ≡ part.past) ⊎ IsUnconditional g at))
    back (inl h) = inl (inl ((h.0, h.1), h.2))
    back (inr (inl w)) = inl (inr (inl w))
    back (inr (inr (inl e))) = inl (inr (inr e))
    back (inr (inr (inr h))) = inr ((h.0, h.1), h.2)

-- Ways

pub way_at : (g : Segment) (blocks : Blocks) → IsSite g blocks → (b : ℕ) (o : Option Exit) → slice_get blocks.exits.items b ≡ o
    → slice_get g.flow.ways b ≡ option_map way_by o
way_at g blocks site b o e =
    ap (λ (ways : List Way). slice_get ways b) (sym site.exits) ∙ slice_get-map way_by blocks.exits.items b ∙ ap (option_map way_by) e

pub same_way : (g : Segment) (b : ℕ) (w v : Way) → slice_get g.flow.ways b ≡ Some w → slice_get g.flow.ways b ≡ Some v → w ≡ v
same_way g b w v e f = same_Some w v (sym e ∙ f)

-- the block to which a way leads, if to one
abbrev pub target : Way → ℕ
target (always t) = t
target (if_made t) = t
target other = 0

-- a block leads where its way does
pub leads_by : (g : Segment) (b t : ℕ) (w : Way) → slice_get g.flow.ways b ≡ Some w → LeadsTo g b t
    → IsOneOf t (jumps_of w) ⊎ ((falls_by w ≡ true) × (t ≡ suc b))
leads_by g b t w e l =
    subst (λ (v : Way). IsOneOf t (jumps_of v) ⊎ ((falls_by v ≡ true) × (t ≡ suc b))) (same_way g b l.0 w l.1.1 e) l.2
