-- The plain jump or the jump list of a block, as it is found.
use Rattle.std.proofs.Common.{◌≡◌, ℕ, suc, ◌+◌, ◌-◌, ◌<◌, ◌≤◌, Bool, true, false, not, ◌&&◌, ◌==◌, List, [], ◌∷◌, Option, Some, None, cond, slice_get, inl, inr, refl, sym, subst, ◌∙◌, arith}
use Rattle.std.specs.Bool.{Decides}
use Rattle.std.specs.Prelude.{nat_lt}
use Rattle.std.proofs.lemmas.Bool.Decides.{Decides-and, Decides-eqb, Decides-like, Decides-ltb, Decides-not}
use Rattle.std.proofs.lemmas.Option.{none-some}
use Rattle.stl_tree.specs.Blocks.{Way, always, if_made, on, one_of, stops, unless_ended}
use Rattle.stl_tree.specs.Segments.{IsOneOf, IsReached}
use Rattle.stl_tree.specs.Flows.{IsEndBlock, IsExitJump, IsIn, IsPlainJump, IsSegment, Segment, blocks_of, jumps_of}
use Rattle.stl_tree.specs.WellNested.{IsCaseEnd, IsSpan}
use Rattle.flow_graph.specs.declared.graph.Exit.{Exit}
use Rattle.flow_graph.specs.declared.graph.Exit.TheVariants as exit
use Rattle.nesting_laws.specs.PlanLaws.{IsFlow, IsNested}
use Rattle.nesting_laws.proofs.Lists.{same_case_end}
use Rattle.segment_plans.specs.declared.blocks.Blocks.{Blocks}
use Rattle.segment_plans.specs.Counts.{is_end, is_reached}
use Rattle.segment_plans.specs.inner.Spans.{innermost, is_plain, left_by, list_end, span_by, span_end, stack}
use Rattle.segment_plans.proofs.ListEnds.{IsAroundBy, case_end_is}
use Rattle.segment_plans.proofs.Site.{IsSite}
use Rattle.segment_plans.proofs.Stack.{HasNestedLoops, IsStack, none_around, only_top, stack_is, top_is}
use Rattle.segment_plans.proofs.Targets.{last_target_is}
use Rattle.segment_plans.proofs.Ways.{end_block, same_way, way_at}

-- the plain jump that is found leads there, or the arms end there; where none is, there is none
abbrev pub AnswersSpan : Segment → ℕ → Option ℕ → Type 0
AnswersSpan g s None = (t : ℕ) → IsSpan g s t → ⊥
AnswersSpan g s (Some t) = IsSpan g s t

-- the plain jump or the list of a block of a segment from its first one on
abbrev pub span : Blocks → ℕ → ℕ → Option ℕ
span blocks first at = span_end blocks (innermost (stack blocks first (suc (at - first)))) at

pub exits_by : (g : Segment) (n to : ℕ) (loops : List ℕ) → IsStack g n (suc n) loops → Decides (left_by (innermost loops) to) (IsExitJump g n to)
exits_by g n to [] s = (λ e. absurd cc, λ x. absurd (none_around g n x.0 x.1 s x.2))
exits_by g n to (l ∷ loops) s = Decides-like (to == l + 1) there back (Decides-eqb to (l + 1))
  where
    there : to ≡ l + 1 → IsExitJump g n to
    there e = let top = top_is g n l loops s in (top.0, l, top.1, omega (arith, e))

    back : IsExitJump g n to → to ≡ l + 1
    back x =
        let same : x.1 ≡ l = only_top g n l x.0 x.1 loops s x.2 in
        let e : to ≡ suc x.1 = x.3 in
        omega (arith, same, e)

-- what makes a jump plain
abbrev Plain : Segment → ℕ → ℕ → Type 0
Plain g s t = (((s < t) × IsReached (blocks_of g.flow) s) × (IsEndBlock g.flow t → ⊥)) × (IsExitJump g s t → ⊥)

is_plain_jump : (g : Segment) (blocks : Blocks) → IsSite g blocks → (s t : ℕ) (loops : List ℕ) → s < g.past → IsStack g s (suc s) loops
    → Decides (is_plain blocks (innermost loops) s t) (Plain g s t)
is_plain_jump g blocks site s t loops up stack =
    Decides-and (nat_lt s t && is_reached blocks s && not (is_end blocks t)) (not (left_by (innermost loops) t))
    (Decides-and (nat_lt s t && is_reached blocks s) (not (is_end blocks t))
    (Decides-and (nat_lt s t) (is_reached blocks s) (Decides-ltb s t) (site.reached s (omega (arith, up, site.size))))
    (Decides-not (is_end blocks t) (end_block g blocks site t)))
    (Decides-not (left_by (innermost loops) t) (exits_by g s t loops stack))

-- a block whose way has one jump
one_jump : (g : Segment) (s t : ℕ) (w : Way) (b : Bool) → g.first ≤ s → s < g.past → slice_get g.flow.ways s ≡ Some w → IsOneOf t (jumps_of w)
    → ((u : ℕ) → IsOneOf u (jumps_of w) → u ≡ t) → ((ts : List ℕ) (l : ℕ) → w ≡ one_of ts l → ⊥) → Decides b (Plain g s t)
    → AnswersSpan g s (cond b (Some t) None)
one_jump g s t w true low high e there only no_list d =
    let h = d.0 refl in
    inl (record {
      jump = (w, (record { reached = h.0.0.1; low = low; high = high }, e), there);
      forward = h.0.0.0;
      no_end = h.0.1;
      no_exit = h.1;
      no_list = λ l. no_list l.0 l.1 (same_way g s w (one_of l.0 l.1) e l.2.1);
    })
one_jump g s t w false low high e there only no_list d = λ u o. by u o
  where
    by : (u : ℕ) → IsSpan g s u → ⊥
    by u (inl p) =
        let v = p.jump in
        let same : u ≡ t = only u (subst (λ (x : Way). IsOneOf u (jumps_of x)) (same_way g s v.0 w v.1.1 e) v.2) in
        let holds : Plain g s u = (((p.forward, v.1.0.reached), p.no_end), p.no_exit) in
        let bad : false ≡ true = d.1 (subst (Plain g s) same holds) in
        absurd cc
    by u (inr case) = let l = case.list in no_list l.0 l.1 (same_way g s w (one_of l.0 l.1) e l.2.1)

-- a block whose way has no jump
no_jump : (g : Segment) (s : ℕ) (w : Way) → slice_get g.flow.ways s ≡ Some w → ((u : ℕ) → IsOneOf u (jumps_of w) → ⊥)
    → ((ts : List ℕ) (l : ℕ) → w ≡ one_of ts l → ⊥) → AnswersSpan g s None
no_jump g s w e none no_list = λ u o. by u o
  where
    by : (u : ℕ) → IsSpan g s u → ⊥
    by u (inl p) = let v = p.jump in none u (subst (λ (x : Way). IsOneOf u (jumps_of x)) (same_way g s v.0 w v.1.1 e) v.2)
    by u (inr case) = let l = case.list in no_list l.0 l.1 (same_way g s w (one_of l.0 l.1) e l.2.1)

alone : (t u : ℕ) → IsOneOf u (t ∷ []) → u ≡ t
alone t u (inl e) = e
alone t u (inr o) = absurd o

-- the stack of loops at a block
pub kept : (g : Segment) (blocks : Blocks) → IsSegment g → IsSite g blocks → HasNestedLoops g → (s : ℕ) → g.first ≤ s → s < g.past
    → IsStack g s (suc s) (stack blocks g.first (suc (s - g.first)))
kept g blocks seg site nested s low high =
    let e : g.first + (s - g.first) ≡ s = omega (arith, low) in
    subst (λ n. IsStack g n (suc n) (stack blocks g.first (suc (s - g.first)))) e
    (stack_is g blocks seg site nested (s - g.first) (omega (arith, e, high)))

-- the innermost loop that is known is the one around a block
pub around_is : (g : Segment) (s : ℕ) (loops : List ℕ) → IsStack g s (suc s) loops → IsAroundBy g s (innermost loops)
around_is g s [] stack = λ h m inner. none_around g s h m stack inner
around_is g s (l ∷ loops) stack = top_is g s l loops stack

pub answers_span : (g : Segment) (blocks : Blocks) → IsFlow g.flow → IsSegment g → IsSite g blocks → IsNested g → (s : ℕ) → g.first ≤ s → s < g.past
    → AnswersSpan g s (span blocks g.first s)
answers_span g blocks flow seg site nested s low high = by (slice_get blocks.exits.items s) refl
  where
    here : IsStack g s (suc s) (stack blocks g.first (suc (s - g.first)))
    here = kept g blocks seg site nested.loops s low high

    by : (o : Option Exit) → slice_get blocks.exits.items s ≡ o
        → AnswersSpan g s (span_by blocks (innermost (stack blocks g.first (suc (s - g.first)))) s o)
    by None e = no_way
      where
        no_way : (t : ℕ) → IsSpan g s t → ⊥
        no_way t (inl p) = none-some p.jump.0 (sym (way_at g blocks site s None e) ∙ p.jump.1.1)
        no_way t (inr case) = let l = case.list in none-some (one_of l.0 l.1) (sym (way_at g blocks site s None e) ∙ l.2.1)
    by (Some (exit.Jump t)) e =
        one_jump g s t (always t) (is_plain blocks (innermost (stack blocks g.first (suc (s - g.first)))) s t) low high
        (way_at g blocks site s (Some (exit.Jump t)) e) (inl refl) (alone t) (λ ts l q. cc)
        (is_plain_jump g blocks site s t (stack blocks g.first (suc (s - g.first))) high here)
    by (Some (exit.Branch t)) e =
        one_jump g s t (if_made t) (is_plain blocks (innermost (stack blocks g.first (suc (s - g.first)))) s t) low high
        (way_at g blocks site s (Some (exit.Branch t)) e) (inl refl) (alone t) (λ ts l q. cc)
        (is_plain_jump g blocks site s t (stack blocks g.first (suc (s - g.first))) high here)
    by (Some exit.Fall) e = no_jump g s on (way_at g blocks site s (Some exit.Fall) e) (λ u o. o) (λ ts l q. cc)
    by (Some exit.EndIf) e = no_jump g s unless_ended (way_at g blocks site s (Some exit.EndIf) e) (λ u o. o) (λ ts l q. cc)
    by (Some exit.End) e = no_jump g s stops (way_at g blocks site s (Some exit.End) e) (λ u o. o) (λ ts l q. cc)
    by (Some (exit.Table js j)) e = listed (is_reached blocks s) (site.reached s (omega (arith, high, site.size)))
      where
        way : slice_get g.flow.ways s ≡ Some (one_of js j)
        way = way_at g blocks site s (Some (exit.Table js j)) e

        case : IsReached (blocks_of g.flow) s → IsCaseEnd g s (list_end blocks (innermost (stack blocks g.first (suc (s - g.first)))) s)
        case r = case_end_is g blocks flow seg site nested s (js, j, (record { reached = r; low = low; high = high }, way))
            (innermost (stack blocks g.first (suc (s - g.first)))) (around_is g s (stack blocks g.first (suc (s - g.first))) here)

        unreached : (IsReached (blocks_of g.flow) s → ⊥) → (t : ℕ) → IsSpan g s t → ⊥
        unreached n t (inl p) = n p.jump.1.0.reached
        unreached n t (inr case) = n case.list.2.0.reached

        listed : (b : Bool) → Decides b (IsReached (blocks_of g.flow) s)
            → AnswersSpan g s (cond b (Some (list_end blocks (innermost (stack blocks g.first (suc (s - g.first)))) s)) None)
        listed true d = inr (case (d.0 refl))
        listed false d = unreached (λ r. let bad : false ≡ true = d.1 r in absurd cc)

-- a block has at most one plain jump
one_plain : (g : Segment) (s t u : ℕ) → IsPlainJump g s t → IsPlainJump g s u → t ≡ u
one_plain g s t u p q =
    by p.jump.0 p.jump.1.1 p.jump.2 (subst (λ (x : Way). IsOneOf u (jumps_of x)) (same_way g s q.jump.0 p.jump.0 q.jump.1.1 p.jump.1.1) q.jump.2)
  where
    by : (w : Way) → slice_get g.flow.ways s ≡ Some w → IsOneOf t (jumps_of w) → IsOneOf u (jumps_of w) → t ≡ u
    by on e a b = absurd a
    by (always j) e a b = alone j t a ∙ sym (alone j u b)
    by (if_made j) e a b = alone j t a ∙ sym (alone j u b)
    by unless_ended e a b = absurd a
    by (one_of js j) e a b = absurd (p.no_list (js, j, (p.jump.1.0, e)))
    by stops e a b = absurd a

-- a block has at most one span
pub one_span : (g : Segment) (s t u : ℕ) → IsSpan g s t → IsSpan g s u → t ≡ u
one_span g s t u (inl p) (inl q) = one_plain g s t u p q
one_span g s t u (inr p) (inr q) = same_case_end p q
one_span g s t u (inl p) (inr q) = absurd (p.no_list q.list)
one_span g s t u (inr p) (inl q) = absurd (q.no_list p.list)

-- a span begins in its segment, and leads forward
pub span_in : (g : Segment) (s t : ℕ) → IsSpan g s t → IsIn g s
span_in g s t (inl p) = p.jump.1.0
span_in g s t (inr case) = case.list.2.0

pub span_forward : (g : Segment) (blocks : Blocks) → IsSite g blocks → (s t : ℕ) → IsSpan g s t → s < t
span_forward g blocks site s t (inl p) = p.forward
span_forward g blocks site s t (inr case) =
    let a = case.fits.after _ (last_target_is g blocks site s case.list) in omega (arith, a.0, a.1)
