-- A piece that is found lies in its part.
use Rattle.std.proofs.Common.{◌≡◌, ◌⊎◌, ℕ, ◌+◌, ◌-◌, ◌<◌, ◌≤◌, Bool, true, false, not, ◌&&◌, ◌||◌, ◌==◌, List, Option, Some, None, cond, fold, max, slice_get, inl, inr, refl, sym, ap, subst, arith}
use Rattle.std.specs.Bool.{Decides}
use Rattle.std.specs.List.{list_all, list_any}
use Rattle.std.specs.Prelude.{IfSome, nat_le, nat_lt}
use Rattle.std.proofs.lemmas.Bool.Decides.{Decides-and, Decides-ltb}
use Rattle.std.proofs.lemmas.Option.{none-some, same_Some}
use Rattle.stl_tree.specs.Segments.{IsOneOf}
use Rattle.nesting_laws.proofs.Contexts.{ends_high}
use Rattle.flow_graph.specs.declared.graph.Exit.{Exit}
use Rattle.flow_graph.specs.declared.graph.Exit.TheVariants as exit
use Rattle.segment_plans.specs.Arms.{arms_end, is_way_out, jump_over, last_by, last_target, listed, over_by, targets_at}
use Rattle.segment_plans.specs.Counts.{is_end, is_reached}
use Rattle.segment_plans.specs.Planned.{IsWithin, kind_of}
use Rattle.segment_plans.specs.declared.blocks.Blocks.{Blocks}
use Rattle.segment_plans.specs.declared.planning.Around.{Around}
use Rattle.segment_plans.specs.declared.planning.Part.{Part}
use Rattle.segment_plans.specs.declared.planning.Piece.{Piece}
use Rattle.segment_plans.specs.declared.planning.Piece.TheVariants as piece
use Rattle.segment_plans.specs.inner.Pieces.{are_arms, arms_by, branch, branch_to, choice, inner_end, is_closed, jumps_out, may_end, may_fall, may_lead, one_if, piece_by, piece_within, second_by, second_end, second_if}
use Rattle.segment_plans.proofs.Overs.{IsSomeOver, over_either}
use Rattle.segment_plans.proofs.Site.{decides_le, is_set}
use Rattle.segment_plans.proofs.Targets.{any_is, greatest_most}
use Rattle.segment_plans.proofs.Ways.{AnswersEnd, EndsIn, inner_ends}

one_inside : (part : Part) (at : ℕ) (b : Bool) → at < part.past → IfSome (one_if b) (IsWithin part at)
one_inside part at true h = h
one_inside part at false h = tt

-- an arm that begins in a part ends in it
ends_inside : (part : Part) (t c : ℕ) → EndsIn part t c → c ≤ part.past
ends_inside part t c e = (ends_high part.past part.follow (kind_of part.kind) t c e).0

-- a second arm ends behind the first one, and in the part
abbrev EndsBehind : Part → ℕ → ℕ × ℕ → Type 0
EndsBehind part t p = (t < p.1) × (p.1 ≤ part.past)

second_inside : (blocks : Blocks) (part : Part) (t : ℕ) → IfSome (second_end blocks part t) (EndsBehind part t)
second_inside blocks part t = by (is_reached blocks (t - 1)) (slice_get blocks.exits.items (t - 1))
  where
    pick : (u c : ℕ) → c ≤ part.past → (b : Bool) → Decides b (t < c) → IfSome (cond b (Some (u, c)) None) (EndsBehind part t)
    pick u c x true d = (d.0 refl, x)
    pick u c x false d = tt

    over : (u : ℕ) (o : Option ℕ) → AnswersEnd part u o → IfSome (second_if part t u o) (EndsBehind part t)
    over u None a = tt
    over u (Some c) a = pick u c (ends_inside part u c a) (nat_lt t c) (Decides-ltb t c)

    jumps : (u : ℕ) (b : Bool) → IfSome (cond b None (second_if part t u (inner_end part u))) (EndsBehind part t)
    jumps u true = tt
    jumps u false = over u (inner_end part u) (inner_ends part u)

    there : (o : Option Exit) → IfSome (second_by blocks part t o) (EndsBehind part t)
    there (Some (exit.Jump u)) = jumps u (jumps_out blocks part u)
    there None = tt
    there (Some exit.Fall) = tt
    there (Some exit.EndIf) = tt
    there (Some exit.End) = tt
    there (Some (exit.Branch j)) = tt
    there (Some (exit.Table js j)) = tt

    by : (b : Bool) (o : Option Exit) → IfSome (cond b (second_by blocks part t o) None) (EndsBehind part t)
    by true o = there o
    by false o = tt

branch_inside : (blocks : Blocks) (part : Part) (at t : ℕ) → at < part.past → IfSome (branch blocks part at t) (IsWithin part at)
branch_inside blocks part at t low = by (jumps_out blocks part t)
  where
    arms : (c : ℕ) (o : Option (ℕ × ℕ)) → IfSome o (EndsBehind part c) → at < c → c ≤ part.past → IsWithin part at (arms_by t c o)
    arms c None h a b = (a, b)
    arms c (Some (u, d)) h a b = (a, h.0, h.1)

    begins : (c : ℕ) → c ≤ part.past → (b : Bool) → Decides b ((at < c) × (may_fall part at ≡ true))
        → IfSome (cond b (Some (arms_by t c (second_end blocks part c))) None) (IsWithin part at)
    begins c x true d = arms c (second_end blocks part c) (second_inside blocks part c) (d.0 refl).0 x
    begins c x false d = tt

    inner : (o : Option ℕ) → AnswersEnd part t o → IfSome (branch_to blocks part at t o) (IsWithin part at)
    inner None a = tt
    inner (Some c) a = begins c (ends_inside part t c a) (nat_lt at c && may_fall part at)
        (Decides-and (nat_lt at c) (may_fall part at) (Decides-ltb at c) (is_set (may_fall part at)))

    by : (out : Bool) → IfSome (cond out (one_if (may_lead blocks part at (at + 1) false)) (branch_to blocks part at t (inner_end part t)))
        (IsWithin part at)
    by true = one_inside part at (may_lead blocks part at (at + 1) false) low
    by false = inner (inner_end part t) (inner_ends part t)

-- The arms of a list

-- a jump over a block leads behind it
over_high : (blocks : Blocks) (a : Around) (last s t : ℕ) → jump_over blocks a last s ≡ Some t → last < t
over_high blocks a last s t = by (is_reached blocks s) (slice_get blocks.exits.items s)
  where
    pick : (u : ℕ) (b : Bool) → Decides b ((last < u) × (not (is_way_out a u || is_end blocks u) ≡ true)) → cond b (Some u) None ≡ Some t → last < t
    pick u true d e = let f : u ≡ t = same_Some u t e in let x : last < u = (d.0 refl).0 in omega (arith, f, x)
    pick u false d e = absurd (none-some t e)

    passes : (u : ℕ) → Decides (nat_lt last u && not (is_way_out a u || is_end blocks u)) ((last < u) × (not (is_way_out a u || is_end blocks u) ≡ true))
    passes u = Decides-and (nat_lt last u) (not (is_way_out a u || is_end blocks u)) (Decides-ltb last u) (is_set (not (is_way_out a u || is_end blocks u)))

    there : (o : Option Exit) → over_by blocks a last o ≡ Some t → last < t
    there (Some (exit.Jump u)) e = pick u (nat_lt last u && not (is_way_out a u || is_end blocks u)) (passes u) e
    there (Some (exit.Branch u)) e = pick u (nat_lt last u && not (is_way_out a u || is_end blocks u)) (passes u) e
    there None e = absurd (none-some t e)
    there (Some exit.Fall) e = absurd (none-some t e)
    there (Some exit.EndIf) e = absurd (none-some t e)
    there (Some exit.End) e = absurd (none-some t e)
    there (Some (exit.Table js j)) e = absurd (none-some t e)

    by : (b : Bool) (o : Option Exit) → cond b (over_by blocks a last o) None ≡ Some t → last < t
    by true o e = there o e
    by false o e = absurd (none-some t e)

end_high : (blocks : Blocks) (a : Around) (list : ℕ) → last_target blocks list ≤ arms_end blocks a list
end_high blocks a list = by (over_either blocks a (last_target blocks list) (list + 1) (last_target blocks list - (list + 1)))
  where
    by : (arms_end blocks a list ≡ last_target blocks list)
        ⊎ IsSomeOver blocks a (last_target blocks list) (list + 1) (last_target blocks list - (list + 1)) (arms_end blocks a list)
        → last_target blocks list ≤ arms_end blocks a list
    by (inl e) = omega (arith, e)
    by (inr (s, x, y, e)) =
        let h : last_target blocks list < arms_end blocks a list = over_high blocks a (last_target blocks list) s (arms_end blocks a list) e in omega (arith, h)

-- the rest of what is asked of the end
abbrev rest : Blocks → Part → ℕ → Bool
rest blocks part end = not (end == part.past) || ((part.follow == part.past) || jumps_out blocks part end)

abbrev all_arms : Blocks → ℕ → Bool
all_arms blocks list = list_all (λ to. nat_lt list to && is_closed blocks list to) (targets_at blocks list)

choice_inside : (blocks : Blocks) (part : Part) (at : ℕ) (js : List ℕ) (j : ℕ) → slice_get blocks.exits.items at ≡ Some (exit.Table js j)
    → IfSome (choice blocks part at) (IsWithin part at)
choice_inside blocks part at js j e =
    by (nat_le (last_target blocks at) part.past && are_arms blocks at && may_end blocks part (arms_end blocks part.around at))
    (Decides-and (nat_le (last_target blocks at) part.past && are_arms blocks at) (may_end blocks part (arms_end blocks part.around at))
    (Decides-and (nat_le (last_target blocks at) part.past) (are_arms blocks at) (decides_le (last_target blocks at) part.past) arms)
    (ends (arms_end blocks part.around at)))
  where
    ends : (end : ℕ) → Decides (may_end blocks part end) ((end ≤ part.past) × (rest blocks part end ≡ true))
    ends end = Decides-and (nat_le end part.past) (rest blocks part end) (decides_le end part.past) (is_set (rest blocks part end))

    arms : Decides (are_arms blocks at) (IsOneOf (at + 1) (targets_at blocks at) × (all_arms blocks at ≡ true))
    arms = Decides-and (list_any (λ to. to == at + 1) (targets_at blocks at)) (all_arms blocks at) (any_is (at + 1) (targets_at blocks at))
        (is_set (all_arms blocks at))

    by : (b : Bool) → Decides b (((last_target blocks at ≤ part.past) × (IsOneOf (at + 1) (targets_at blocks at) × (all_arms blocks at ≡ true)))
        × ((arms_end blocks part.around at ≤ part.past) × (rest blocks part (arms_end blocks part.around at) ≡ true)))
        → IfSome (cond b (Some (piece.Cases (arms_end blocks part.around at))) None) (IsWithin part at)
    by true d =
        let h = d.0 refl in
        let top : last_target blocks at ≤ arms_end blocks part.around at = end_high blocks part.around at in
        let most : at + 1 ≤ fold max j js = greatest_most j js (at + 1) (subst (IsOneOf (at + 1)) (ap listed e) h.0.1.0) in
        let same : last_target blocks at ≡ fold max j js = ap last_by e in
        (omega (arith, top, most, same), h.1.0)
    by false d = tt

pub inside : (blocks : Blocks) (part : Part) (at : ℕ) (o : Option Piece) → at < part.past → o ≡ piece_within blocks part at → IfSome o (IsWithin part at)
inside blocks part at o low e = subst (λ x. IfSome x (IsWithin part at)) (sym e) (by (slice_get blocks.exits.items at) refl)
  where
    by : (o : Option Exit) → slice_get blocks.exits.items at ≡ o → IfSome (piece_by blocks part at o) (IsWithin part at)
    by None f = tt
    by (Some exit.Fall) f = one_inside part at (may_lead blocks part at (at + 1) false) low
    by (Some exit.EndIf) f = one_inside part at (may_lead blocks part at (at + 1) false) low
    by (Some (exit.Jump t)) f = one_inside part at (may_lead blocks part at t true) low
    by (Some (exit.Branch t)) f = branch_inside blocks part at t low
    by (Some exit.End) f = low
    by (Some (exit.Table js j)) f = choice_inside blocks part at js j f
