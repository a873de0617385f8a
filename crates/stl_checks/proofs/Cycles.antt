-- The rule of cycles that is named, by the first line on which a call lies on one.
use Rattle.std.proofs.Common.{◌≡◌, ◌≤◌, ◌<◌, ◌⊎◌, inl, inr, ℕ, zero, suc, Bool, true, false, ◌||◌, ◌&&◌, ◌==◌, cond, List, [], ◌∷◌, length, Option, Some, None, Result, Ok, Err, option_map, refl, sym, ap, subst, ◌∙◌, arith}
use Rattle.std.specs.Prelude.{Contains, IfOk, IfSome, nat_lt}
use Rattle.std.specs.List.{flat_map, fold}
use Rattle.std.proofs.lemmas.Bool.{le-ltb, ltb-false}
use Rattle.std.proofs.lemmas.List.Concat.{flat_map-cons}
use Rattle.call_chains.proofs.CycleLines.{lines_are_named}
use Rattle.call_chains.specs.Chain.{Graph, IsFirstCycle}
use Rattle.call_chains.specs.CycleLines.{cycle_lines}
use Rattle.s7_base.specs.Broken.{comes_before, first_of_all, rule_break, sooner}
use Rattle.s7_base.specs.declared.reason.Line.{Line}
use Rattle.s7_base.specs.declared.reason.Reason.TheVariants.{CallCycle, NoBlocks}
use Rattle.s7_base.specs.declared.rule_break.Break.{Break}
use Rattle.std.proofs.lemmas.List.{append-nil}
use Rattle.call_chains.specs.Chain.{chains}
use Rattle.memory_areas.specs.declared.sizes.TheConstants.{ACTIVATIONS}
use Rattle.stl_checks.specs.inner.Chains.{first_in_chain, graph_of, headings_of}
use Rattle.stl_rules.specs.Stages.{cycle_breaks, deep_breaks, or_deep}
use Rattle.stl_tree.specs.declared.program.Block.{Block}

-- the rule of cycles on a line
abbrev pub named : Line → Break
named line = record { line = line; rule = CallCycle }

abbrev breaks_of : List Line → List Break
breaks_of lines = flat_map (λ (line : Line). rule_break line CallCycle) lines

same_line : (a b : Line) → a.0 ≡ b.0 → a ≡ b
same_line a b e = let make : ℕ → Line = λ n. record { 0 = n } in ap make e

and_false : (b : Bool) → (b && false) ≡ false
and_false true = refl
and_false false = refl

or_false : (b : Bool) → (b || false) ≡ b
or_false true = refl
or_false false = refl

-- of two lines the lesser comes first
before_by : (a b : Line) → comes_before (named a) (named b) ≡ nat_lt a.0 b.0
before_by a b = ap (λ t. nat_lt a.0 b.0 || t) (and_false (a.0 == b.0)) ∙ or_false (nat_lt a.0 b.0)

-- the first of the lines so far and one more
abbrev pick : Bool → Line → Line → Line
pick b a n = cond b a n

abbrev next : Option Line → Line → Option Line
next None a = Some a
next (Some n) a = Some (pick (nat_lt a.0 n.0) a n)

picked : (b : Bool) (a n : Line) → cond b (Some (named a)) (Some (named n)) ≡ Some (named (pick b a n))
picked true a n = refl
picked false a n = refl

next_is : (now : Option Line) (a : Line) → sooner (option_map named now) (named a) ≡ option_map named (next now a)
next_is None a = refl
next_is (Some n) a = ap (λ b. cond b (Some (named a)) (Some (named n))) (before_by a n) ∙ picked (nat_lt a.0 n.0) a n

-- a line is not after one that may be there
abbrev NotAfter : Line → Option Line → Type 0
NotAfter best now = IfSome now (λ n. best.0 ≤ n.0)

stays_low : (best : Line) (now : Option Line) (a : Line) → NotAfter best now → best.0 ≤ a.0 → NotAfter best (next now a)
stays_low best None a low h = h
stays_low best (Some n) a low h = by (nat_lt a.0 n.0)
  where
    by : (b : Bool) → best.0 ≤ (pick b a n).0
    by true = h
    by false = low

stays_best : (best : Line) (now : Option Line) (a : Line) → now ≡ Some best → best.0 ≤ a.0 → next now a ≡ Some best
stays_best best now a e h = ap (λ o. next o a) e ∙ ap (λ b. Some (pick b a best)) (le-ltb a.0 best.0 h)

comes_best : (best : Line) (now : Option Line) (a : Line) → a ≡ best → NotAfter best now → next now a ≡ Some best
comes_best best None a e low = ap (λ l. Some l) e
comes_best best (Some n) a e low = by (nat_lt a.0 n.0) refl
  where
    by : (b : Bool) → nat_lt a.0 n.0 ≡ b → Some (pick b a n) ≡ Some best
    by true f = ap (λ l. Some l) e
    by false f =
        let up = ltb-false a.0 n.0 f in
        let same : a.0 ≡ best.0 = ap (λ (l : Line). l.0) e in
        ap (λ l. Some l) (same_line n best (omega (arith, up, same, low)))

settled : (lines : List Line) (now : Option Line) (best : Line) → NotAfter best now → ((a : Line) → Contains lines a → best.0 ≤ a.0)
    → (now ≡ Some best) ⊎ Contains lines best → fold sooner (option_map named now) (breaks_of lines) ≡ Some (named best)
settled [] now best low all (inl e) = ap (option_map named) e
settled [] now best low all (inr h) = absurd (omega (arith, h.1))
settled (a ∷ lines) now best low all there =
    ap (fold sooner (option_map named now)) (flat_map-cons (λ (line : Line). rule_break line CallCycle) a lines)
    ∙ ap (λ o. fold sooner o (breaks_of lines)) (next_is now a)
    ∙ settled lines (next now a) best (stays_low best now a low here) (λ x h. all x (suc h.0, omega (arith, h.1), h.2)) (further there)
  where
    here : best.0 ≤ a.0
    here = all a (zero, omega arith, refl)

    further : (now ≡ Some best) ⊎ Contains (a ∷ lines) best → (next now a ≡ Some best) ⊎ Contains lines best
    further (inl e) = inl (stays_best best now a e here)
    further (inr (zero, l, e)) = inl (comes_best best now a e low)
    further (inr (suc n, l, e)) = inr (n, omega (arith, l), e)

no_lines : (lines : List Line) → ((a : Line) → Contains lines a → ⊥) → breaks_of lines ≡ []
no_lines [] none = refl
no_lines (a ∷ lines) none = absurd (none a (zero, omega arith, refl))

-- where the first line is known, its rule is the first of those of cycles
pub of_none : (graph : Graph) → IsFirstCycle graph None → cycle_breaks graph ≡ []
of_none graph none =
    no_lines (cycle_lines graph) (λ a h. let c = lines_are_named.sound graph a h in none c.unit c.number c.call c.cycle)

pub of_some : (graph : Graph) (line : Line) → IsFirstCycle graph (Some line) → first_of_all (cycle_breaks graph) ≡ Some (named line)
of_some graph line first =
    settled (cycle_lines graph) None line tt
    (λ a h. let c = lines_are_named.sound graph a h in
    let low = first.first c.unit c.number c.call c.cycle in
    let on : c.call.line.0 ≡ a.0 = ap (λ (l : Line). l.0) c.on_line in omega (arith, low, on))
    (inr (subst (Contains (cycle_lines graph)) first.on_line
    (lines_are_named.complete graph first.unit first.number first.call first.cycle)))

-- The whole stage

-- one of cycles is named before long chains
pub cycle_first : (xs deep : List Break) (first : Break) → first_of_all xs ≡ Some first → first_of_all (or_deep xs deep) ≡ Some first
cycle_first [] deep first e = absurd cc
cycle_first (x ∷ xs) deep first e = e

pub by_cycle : (graph : Graph) (deep : List Break) (line : Line) → IsFirstCycle graph (Some line)
    → Some (named line) ≡ first_of_all (or_deep (cycle_breaks graph) deep)
by_cycle graph deep line first = sym (cycle_first (cycle_breaks graph) deep (named line) (of_some graph line first))

pub by_depth : (graph : Graph) (deep : List Break) (first : Option Break) → IsFirstCycle graph None → first ≡ first_of_all deep
    → first ≡ first_of_all (or_deep (cycle_breaks graph) deep)
by_depth graph deep first none e = e ∙ sym (ap (λ xs. first_of_all (or_deep xs deep)) (of_none graph none))

pub ruleset chain_laws = (by_cycle, by_depth)

-- a text with a block breaks the rules of its calls alone
pub some_blocks : (blocks : List Block) (first : Option Break) → 1 ≤ length blocks
    → first ≡ first_of_all (or_deep (cycle_breaks (graph_of blocks)) (deep_breaks (chains (graph_of blocks) ACTIVATIONS) (headings_of blocks)))
    → first ≡ first_in_chain blocks
some_blocks [] first some e = absurd (omega arith)
some_blocks (b ∷ blocks) first some e =
    e
    ∙ ap first_of_all
    (sym (append-nil (or_deep (cycle_breaks (graph_of (b ∷ blocks))) (deep_breaks (chains (graph_of (b ∷ blocks)) ACTIVATIONS) (headings_of (b ∷ blocks))))))

pub no_blocks : (blocks : List Block) → length blocks < 1 → Some (record { line = record { 0 = 1 }; rule = NoBlocks }) ≡ first_in_chain blocks
no_blocks [] none = refl
no_blocks (b ∷ blocks) none = absurd (omega arith)

pub ruleset stage_laws = (some_blocks, no_blocks)

-- by the blocks as a slice, and a graph that is theirs
pub stage_is : {E : Type 0} (slice blocks : List Block) (graph : Graph) (r : Result (Option Break) E) → slice ≡ blocks → 1 ≤ length slice
    → graph ≡ graph_of slice
    → IfOk r (λ first. first ≡ first_of_all (or_deep (cycle_breaks graph) (deep_breaks (chains graph ACTIVATIONS) (headings_of slice))))
    → IfOk r (λ first. first ≡ first_in_chain blocks)
stage_is slice blocks graph (Err e) same some is h = tt
stage_is slice blocks graph (Ok first) same some is h =
    some_blocks slice first some
    (h ∙ ap (λ (g : Graph). first_of_all (or_deep (cycle_breaks g) (deep_breaks (chains g ACTIVATIONS) (headings_of slice)))) is)
    ∙ ap first_in_chain same
