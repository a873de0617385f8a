-- What is written of the exit of a block is what the region of the block asks for.
use Rattle.std.proofs.Common.{◌≡◌, ℕ, suc, ◌+◌, ◌<◌, ◌≤◌, Bool, true, false, ◌&&◌, ◌==◌, cond, List, [], ◌∷◌, ◌++◌, length, append_assoc, refl, sym, ap, subst, ◌∙◌, arith}
use Rattle.std.specs.Bool.{Decides}
use Rattle.std.specs.Prelude.{nat_le, nat_lt}
use Rattle.std.proofs.lemmas.Bool.{leb-true}
use Rattle.std.proofs.lemmas.Bool.Decides.{Decides-and, Decides-eqb, Decides-ltb}
use Rattle.std.proofs.lemmas.List.{length-map}
use Rattle.st_tree.specs.declared.expr.Expr.{Expr}
use Rattle.st_tree.specs.declared.graph.StExit.{StExit}
use Rattle.st_tree.specs.declared.graph.StExit.TheVariants as exit
use Rattle.st_tree.specs.declared.graph.StNode.{StNode}
use Rattle.st_tree.specs.declared.program.Stmt.{Stmt}
use Rattle.st_tree.specs.declared.program.Stmt.TheVariants as stmt
use Rattle.nesting_laws.specs.Plans.{Around as PlanAround, inside}
use Rattle.graph_rules.specs.Flow.{flow_of}
use Rattle.region_laws.specs.Regions.{Place, Region, at as place_at, choice, ended, fork, leaves, node, again, off, text_of}
use Rattle.region_plans.specs.PlanRegion.{Chart, end_of, exit_region, is_at, is_last, is_out, rest_from, tail_out, tail_to, way_to}
use Rattle.unit_regions.specs.UnitRegion.{falls_off}
use Rattle.dispatch_loops.specs.Charted.{chart_in}
use Rattle.flow_graph.specs.Graphs.{way_by}
use Rattle.segment_plans.specs.Counts.{is_end}
use Rattle.segment_plans.specs.Planned.{IsPartOf, around_of}
use Rattle.segment_plans.specs.declared.blocks.Blocks.{Blocks}
use Rattle.segment_plans.specs.declared.planning.Around.{Around}
use Rattle.segment_plans.specs.declared.planning.Part.{Part}
use Rattle.unit_regions.specs.UnitCharts.{blocks_between}
use Rattle.plan_texts.specs.declared.leads.Lead.{Lead}
use Rattle.plan_texts.specs.declared.leads.Lead.TheVariants as lead
use Rattle.plan_texts.specs.inner.Leads.{Adds, AddsRest, AddsTo, AddsWay, IsWriting, bare_region, ends_last, falls_at, falls_to, is_next, place_in, rest_region, tail_region}
use Rattle.plan_texts.proofs.Adding.{alone, behind_fork, behind_quit, behind_steps, continues, exits, off_end, onward, returns, where_false, where_true}
use Rattle.plan_texts.proofs.Nexts.{as_many, falls_to_same, is_last_same, is_next_same}

-- Ways out

end_same : (all : List StNode) (from past : ℕ) (blocks : Blocks) (steps : List Stmt) → IsWriting all from past blocks steps → (t : ℕ)
    → ((flow_of all).ends_alone && (suc t == length all)) ≡ is_end blocks t
end_same all from past blocks steps w t =
    let size : length blocks.exits.items ≡ length all = sym (length-map blocks.exits.items way_by) ∙ ap length w.known.exits ∙ as_many all in
    let same : (suc t == length all) ≡ (t + 1 == length blocks.exits.items) =
    ap (λ n. n == length all) (let e : suc t ≡ t + 1 = omega arith in e) ∙ ap (λ n. t + 1 == n) (sym size) in
    ap (λ b. b && (suc t == length all)) (sym w.known.alone) ∙ ap (λ b. blocks.ends_alone && b) same

pub no_end : (all : List StNode) (from past : ℕ) (blocks : Blocks) (steps out : List Stmt) (t : ℕ) (rest : Region) → IsWriting all from past blocks steps
    → is_end blocks t ≡ false → Adds out out lead.Off (end_of (chart_in all blocks) t) rest
no_end all from past blocks steps out t rest w e =
    where_false out out lead.Off ((flow_of all).ends_alone && (suc t == length all)) (node (chart_in all blocks).end_steps ended) off rest
    (end_same all from past blocks steps w t ∙ e) (off_end out rest)

pub at_end : (all : List StNode) (from past : ℕ) (blocks : Blocks) (steps out : List Stmt) (t : ℕ) (rest : Region) → IsWriting all from past blocks steps
    → is_end blocks t ≡ true → Adds out ((out ++ steps) ++ stmt.Return ∷ []) lead.Out (end_of (chart_in all blocks) t) rest
at_end all from past blocks steps out t rest w e =
    where_true out ((out ++ steps) ++ stmt.Return ∷ []) lead.Out ((flow_of all).ends_alone && (suc t == length all))
    (node (chart_in all blocks).end_steps ended)
    off rest (end_same all from past blocks steps w t ∙ e)
    (subst (λ (x : List Stmt). Adds out ((out ++ steps) ++ stmt.Return ∷ []) lead.Out (node x ended) rest) w.ending
    (behind_steps out steps ((out ++ steps) ++ stmt.Return ∷ []) lead.Out ended rest (returns (out ++ steps) rest)))

pub to_head : (c : Chart) (left : Bool) (head last t : ℕ) (out : List Stmt) (rest : Region) → (t == head) ≡ true
    → Adds out (out ++ stmt.Continue ∷ []) lead.Out (way_to c (inside left head last) t) rest
to_head c left head last t out rest e =
    where_true out (out ++ stmt.Continue ∷ []) lead.Out (t == head) again (cond (left && (t == suc last)) leaves (end_of c t)) rest e (continues out rest)

behind_last : (t last : ℕ) (left b : Bool) → (left && (t == last + 1)) ≡ b → (left && (t == suc last)) ≡ b
behind_last t last left b e = ap (λ n. left && (t == n)) (let f : suc last ≡ last + 1 = omega arith in f) ∙ e

pub to_behind : (c : Chart) (left : Bool) (head last t : ℕ) (out : List Stmt) (rest : Region) → (t == head) ≡ false → (left && (t == last + 1)) ≡ true
    → Adds out (out ++ stmt.Exit ∷ []) lead.Out (way_to c (inside left head last) t) rest
to_behind c left head last t out rest e f =
    where_false out (out ++ stmt.Exit ∷ []) lead.Out (t == head) again (cond (left && (t == suc last)) leaves (end_of c t)) rest e
    (where_true out (out ++ stmt.Exit ∷ []) lead.Out (left && (t == suc last)) leaves (end_of c t) rest (behind_last t last left true f) (exits out rest))

pub to_end : (c : Chart) (left : Bool) (head last t : ℕ) (out new : List Stmt) (to : Lead) (rest : Region) → (t == head) ≡ false
    → (left && (t == last + 1)) ≡ false
    → Adds out new to (end_of c t) rest → Adds out new to (way_to c (inside left head last) t) rest
to_end c left head last t out new to rest e f h =
    where_false out new to (t == head) again (cond (left && (t == suc last)) leaves (end_of c t)) rest e
    (where_false out new to (left && (t == suc last)) leaves (end_of c t) rest (behind_last t last left false f) h)

-- The rest of a part

-- what is known where a part is written from a block on
pub record IsHere (all : List StNode) (from past : ℕ) (blocks : Blocks) (steps : List Stmt) (part : Part) (at : ℕ) : Type 0 where
  pub unit : IsWriting all from past blocks steps
  pub inside : IsPartOf (blocks_between all from past) part at
  pub low : at < part.past

abbrev Tail : List StNode → Blocks → Bool → Part → ℕ → ℕ → Region → Region
Tail all blocks tail part at t rest = tail_to (chart_in all blocks) at part.past (place_in tail part) (around_of part.around) rest t

abbrev last_way : List StNode → Blocks → Bool → Part → ℕ → ℕ → Region
last_way all blocks tail part at t =
    cond (is_at (place_in tail part) t && is_last (chart_in all blocks) at part.past) off (way_to (chart_in all blocks) (around_of part.around) t)

pub tail_onward : (all : List StNode) (from past : ℕ) (blocks : Blocks) (steps : List Stmt) (tail : Bool) (part : Part) (at t : ℕ) (out : List Stmt)
    (rest : Region)
    → IsHere all from past blocks steps part at → is_next blocks part at t ≡ true
    → Adds out out lead.Onward (tail_to (chart_in all blocks) at part.past (place_in tail part) (around_of part.around) rest t) rest
tail_onward all from past blocks steps tail part at t out rest h e =
    where_true out out lead.Onward ((t == (chart_in all blocks).next at) && nat_lt t part.past) rest (last_way all blocks tail part at t) rest
    (sym (is_next_same all from past blocks steps h.unit part at t h.inside) ∙ e) (onward out rest)

pub tail_off : (all : List StNode) (from past : ℕ) (blocks : Blocks) (steps : List Stmt) (tail : Bool) (part : Part) (at t : ℕ) (out : List Stmt)
    (rest : Region)
    → IsHere all from past blocks steps part at → is_next blocks part at t ≡ false → falls_to blocks tail part at t ≡ true
    → Adds out out lead.Off (tail_to (chart_in all blocks) at part.past (place_in tail part) (around_of part.around) rest t) rest
tail_off all from past blocks steps tail part at t out rest h e f =
    where_false out out lead.Off ((t == (chart_in all blocks).next at) && nat_lt t part.past) rest (last_way all blocks tail part at t) rest
    (sym (is_next_same all from past blocks steps h.unit part at t h.inside) ∙ e)
    (where_true out out lead.Off (is_at (place_in tail part) t && is_last (chart_in all blocks) at part.past) off
    (way_to (chart_in all blocks) (around_of part.around) t) rest
    (sym (falls_to_same all from past blocks steps h.unit tail part at t h.inside h.low) ∙ f) (off_end out rest))

pub tail_way : (all : List StNode) (from past : ℕ) (blocks : Blocks) (steps : List Stmt) (tail : Bool) (part : Part) (at t : ℕ) (out new : List Stmt)
    (to : Lead)
    (rest : Region) → IsHere all from past blocks steps part at → is_next blocks part at t ≡ false → falls_to blocks tail part at t ≡ false
    → Adds out new to (way_to (chart_in all blocks) (around_of part.around) t) rest
    → Adds out new to (tail_to (chart_in all blocks) at part.past (place_in tail part) (around_of part.around) rest t) rest
tail_way all from past blocks steps tail part at t out new to rest h e f w =
    where_false out new to ((t == (chart_in all blocks).next at) && nat_lt t part.past) rest (last_way all blocks tail part at t) rest
    (sym (is_next_same all from past blocks steps h.unit part at t h.inside) ∙ e)
    (where_false out new to (is_at (place_in tail part) t && is_last (chart_in all blocks) at part.past) off
    (way_to (chart_in all blocks) (around_of part.around) t) rest
    (sym (falls_to_same all from past blocks steps h.unit tail part at t h.inside h.low) ∙ f) w)

-- to the next block, whose number code has as a sum
pub tail_next : (c : Chart) (lo hi : ℕ) (f : Place) (a : PlanAround) (old new : List Stmt) (to : Lead) (rest : Region)
    → Adds old new to (tail_to c lo hi f a rest (lo + 1)) rest → Adds old new to (tail_to c lo hi f a rest (suc lo)) rest
tail_next c lo hi f a old new to rest h =
    let e : lo + 1 ≡ suc lo = omega arith in subst (λ n. Adds old new to (tail_to c lo hi f a rest n) rest) e h

-- where no block is reached behind one, the rest is not written
not_both : (t n hi : ℕ) → nat_le hi n ≡ true → ((t == n) && nat_lt t hi) ≡ false
not_both t n hi h = by ((t == n) && nat_lt t hi) (Decides-and (t == n) (nat_lt t hi) (Decides-eqb t n) (Decides-ltb t hi))
  where
    by : (b : Bool) → Decides b ((t ≡ n) × (t < hi)) → b ≡ false
    by false d = refl
    by true d =
        let p : (t ≡ n) × (t < hi) = d.0 refl in
        let e : t ≡ n = p.0 in
        let up : t < hi = p.1 in
        let o : hi ≤ n = leb-true hi n h in
        absurd (omega (arith, e, up, o))

same_unless : (b : Bool) (x y z : Region) → b ≡ false → cond b x z ≡ cond b y z
same_unless true x y z e = absurd cc
same_unless false x y z e = refl

tail_last : (c : Chart) (lo hi t : ℕ) (f : Place) (a : PlanAround) (rest more : Region) → is_last c lo hi ≡ true
    → tail_to c lo hi f a rest t ≡ tail_to c lo hi f a more t
tail_last c lo hi t f a rest more e =
    same_unless ((t == c.next lo) && nat_lt t hi) rest more (cond (is_at f t && is_last c lo hi) off (way_to c a t)) (not_both t (c.next lo) hi e)

both_second : (a b : Bool) → (a && b) ≡ true → b ≡ true
both_second true b e = e
both_second false b e = absurd cc

-- Exits

pub branch_off : (all : List StNode) (from past : ℕ) (blocks : Blocks) (steps : List Stmt) (tail : Bool) (part : Part) (at t : ℕ) (test : Expr)
    (out other : List Stmt)
    (to : Lead) (rest : Region) → IsHere all from past blocks steps part at → falls_to blocks tail part at t ≡ true
    → Adds [] other to (tail_to (chart_in all blocks) at part.past (place_in tail part) (around_of part.around) off (at + 1)) off
    → Adds out (out ++ choice test [] other ∷ []) lead.Off
    (exit_region (chart_in all blocks) at part.past (place_in tail part) (around_of part.around) rest [] (exit.Branch test t)) rest
branch_off all from past blocks steps tail part at t test out other to rest h e w =
    let c : Chart = chart_in all blocks in
    let f : Place = place_in tail part in
    let a : PlanAround = around_of part.around in
    let met : (is_at (place_in tail part) t && is_last (chart_in all blocks) at part.past) ≡ true =
    sym (falls_to_same all from past blocks steps h.unit tail part at t h.inside h.low) ∙ e in
    let last : is_last (chart_in all blocks) at part.past ≡ true =
    both_second (is_at (place_in tail part) t) (is_last (chart_in all blocks) at part.past) met in
    where_true out (out ++ choice test [] other ∷ []) lead.Off (is_at f t && is_last c at part.past)
    (fork [] test off (tail_to c at part.past f a rest (suc at)) f off)
    (fork [] test (way_to c a t) off (place_at (suc at)) (tail_to c at part.past f a rest (suc at))) rest met
    (behind_fork out (out ++ choice test [] other ∷ []) lead.Off test off (tail_to c at part.past f a rest (suc at)) [] other f off rest (λ next. refl)
    (λ next. alone other to (tail_to c at part.past f a off (suc at)) (tail_next c at part.past f a [] other to off w) next
    ∙ ap (text_of next) (tail_last c at part.past (suc at) f a off rest last))
    (off_end (out ++ choice test [] other ∷ []) rest))

pub branch_out : (all : List StNode) (from past : ℕ) (blocks : Blocks) (steps : List Stmt) (tail : Bool) (part : Part) (at t : ℕ) (test : Expr)
    (out body new : List Stmt) (by to : Lead) (rest : Region) → IsHere all from past blocks steps part at → falls_to blocks tail part at t ≡ false
    → Adds [] body by (way_to (chart_in all blocks) (around_of part.around) t) off
    → Adds (out ++ choice test body [] ∷ []) new to (tail_to (chart_in all blocks) at part.past (place_in tail part) (around_of part.around) rest (at + 1))
    rest
    → Adds out new to (exit_region (chart_in all blocks) at part.past (place_in tail part) (around_of part.around) rest [] (exit.Branch test t)) rest
branch_out all from past blocks steps tail part at t test out body new by to rest h e w more =
    let c : Chart = chart_in all blocks in
    let f : Place = place_in tail part in
    let a : PlanAround = around_of part.around in
    where_false out new to (is_at f t && is_last c at part.past)
    (fork [] test off (tail_to c at part.past f a rest (suc at)) f off)
    (fork [] test (way_to c a t) off (place_at (suc at)) (tail_to c at part.past f a rest (suc at))) rest
    (sym (falls_to_same all from past blocks steps h.unit tail part at t h.inside h.low) ∙ e)
    (behind_fork out new to test (way_to c a t) off body [] (place_at (suc at)) (tail_to c at part.past f a rest (suc at)) rest
    (alone body by (way_to c a t) w) (λ next. refl) (tail_next c at part.past f a (out ++ choice test body [] ∷ []) new to rest more))

pub ended_if : (c : Chart) (lo hi : ℕ) (f : Place) (a : PlanAround) (test : Expr) (out new : List Stmt) (to : Lead) (rest : Region)
    → Adds (out ++ choice test (stmt.Return ∷ []) [] ∷ []) new to (tail_to c lo hi f a rest (lo + 1)) rest
    → Adds out new to (exit_region c lo hi f a rest [] (exit.EndIf test)) rest
ended_if c lo hi f a test out new to rest h =
    behind_quit out new to test (tail_to c lo hi f a rest (suc lo)) rest
    (tail_next c lo hi f a (out ++ choice test (stmt.Return ∷ []) [] ∷ []) new to rest h)

-- a block without steps
bare : (out new : List Stmt) (to : Lead) (more rest : Region) → Adds out new to more rest → Adds out new to (node [] more) rest
bare out new to more rest h = record { text = λ next. h.text next; falls = h.falls }

pub falling : (c : Chart) (lo hi : ℕ) (f : Place) (a : PlanAround) (out new : List Stmt) (to : Lead) (rest : Region)
    → Adds out new to (tail_to c lo hi f a rest (lo + 1)) rest → Adds out new to (exit_region c lo hi f a rest [] exit.Fall) rest
falling c lo hi f a out new to rest h = bare out new to (tail_to c lo hi f a rest (suc lo)) rest (tail_next c lo hi f a out new to rest h)

pub jumping : (c : Chart) (lo hi t : ℕ) (f : Place) (a : PlanAround) (out new : List Stmt) (to : Lead) (rest : Region)
    → Adds out new to (tail_to c lo hi f a rest t) rest → Adds out new to (exit_region c lo hi f a rest [] (exit.Jump t)) rest
jumping c lo hi t f a out new to rest h = bare out new to (tail_to c lo hi f a rest t) rest h

ends_same : (all : List StNode) (from past : ℕ) (blocks : Blocks) (steps : List Stmt) (tail : Bool) (part : Part) (at : ℕ)
    → IsHere all from past blocks steps part at
    → ends_last blocks tail part at ≡ (is_out (place_in tail part) && is_last (chart_in all blocks) at part.past)
ends_same all from past blocks steps true part at h = is_last_same all from past blocks steps h.unit part at h.inside h.low
ends_same all from past blocks steps false part at h = refl

pub ends_off : (all : List StNode) (from past : ℕ) (blocks : Blocks) (steps : List Stmt) (tail : Bool) (part : Part) (at : ℕ) (out : List Stmt)
    (rest : Region)
    → IsHere all from past blocks steps part at → ends_last blocks tail part at ≡ true
    → Adds out out lead.Off (exit_region (chart_in all blocks) at part.past (place_in tail part) (around_of part.around) rest [] exit.End) rest
ends_off all from past blocks steps tail part at out rest h e =
    bare out out lead.Off (tail_out (chart_in all blocks) at part.past (place_in tail part)) rest
    (where_true out out lead.Off (is_out (place_in tail part) && is_last (chart_in all blocks) at part.past) off ended rest
    (sym (ends_same all from past blocks steps tail part at h) ∙ e) (off_end out rest))

pub ends_out : (all : List StNode) (from past : ℕ) (blocks : Blocks) (steps : List Stmt) (tail : Bool) (part : Part) (at : ℕ) (out : List Stmt)
    (rest : Region)
    → IsHere all from past blocks steps part at → ends_last blocks tail part at ≡ false
    → Adds out (out ++ stmt.Return ∷ []) lead.Out
    (exit_region (chart_in all blocks) at part.past (place_in tail part) (around_of part.around) rest [] exit.End) rest
ends_out all from past blocks steps tail part at out rest h e =
    bare out (out ++ stmt.Return ∷ []) lead.Out (tail_out (chart_in all blocks) at part.past (place_in tail part)) rest
    (where_false out (out ++ stmt.Return ∷ []) lead.Out (is_out (place_in tail part) && is_last (chart_in all blocks) at part.past) off ended rest
    (sym (ends_same all from past blocks steps tail part at h) ∙ e) (returns out rest))

pub listed : (c : Chart) (lo hi : ℕ) (f : Place) (a : PlanAround) (test : Expr) (targets : List ℕ) (last : ℕ) (out : List Stmt) (rest : Region)
    → Adds out out lead.Off (exit_region c lo hi f a rest [] (exit.Table test targets last)) rest
listed c lo hi f a test targets last out rest = off_end out rest

-- with its steps before it
pub record HasBefore (steps : List Stmt) (with_steps without : Region) : Type 0 where
  pub text : (next : ℕ) → text_of next with_steps ≡ steps ++ text_of next without
  pub falls : falls_off with_steps ≡ falls_off without

before_branch : (b : Bool) (steps : List Stmt) (e : Expr) (there behind there2 behind2 : Region) (join join2 : Place) (more more2 : Region)
    → HasBefore steps (cond b (fork steps e there behind join more) (fork steps e there2 behind2 join2 more2))
    (cond b (fork [] e there behind join more) (fork [] e there2 behind2 join2 more2))
before_branch true steps e there behind there2 behind2 join join2 more more2 = record { text = λ next. refl; falls = refl }
before_branch false steps e there behind there2 behind2 join join2 more more2 = record { text = λ next. refl; falls = refl }

steps_before : (c : Chart) (lo hi : ℕ) (f : Place) (a : PlanAround) (rest : Region) (steps : List Stmt) (x : StExit)
    → ((e : Expr) (targets : List ℕ) (last : ℕ) → x ≡ exit.Table e targets last → ⊥)
    → HasBefore steps (exit_region c lo hi f a rest steps x) (exit_region c lo hi f a rest [] x)
steps_before c lo hi f a rest steps exit.Fall n = record { text = λ next. refl; falls = refl }
steps_before c lo hi f a rest steps (exit.Jump t) n = record { text = λ next. refl; falls = refl }
steps_before c lo hi f a rest steps (exit.Branch e t) n =
    before_branch (is_at f t && is_last c lo hi) steps e off (tail_to c lo hi f a rest (suc lo)) (way_to c a t) off f (place_at (suc lo)) off
    (tail_to c lo hi f a rest (suc lo))
steps_before c lo hi f a rest steps (exit.EndIf e) n = record { text = λ next. refl; falls = refl }
steps_before c lo hi f a rest steps (exit.Table e targets last) n = absurd (n e targets last refl)
steps_before c lo hi f a rest steps exit.End n = record { text = λ next. refl; falls = refl }

pub after_steps : (c : Chart) (lo hi : ℕ) (f : Place) (a : PlanAround) (rest : Region) (steps : List Stmt) (x : StExit) (out new : List Stmt) (to : Lead)
    → ((e : Expr) (targets : List ℕ) (last : ℕ) → x ≡ exit.Table e targets last → ⊥)
    → Adds (out ++ steps) new to (exit_region c lo hi f a rest [] x) rest → Adds out new to (exit_region c lo hi f a rest steps x) rest
after_steps c lo hi f a rest steps x out new to n h =
    let b = steps_before c lo hi f a rest steps x n in
    record {
      text = λ next.
          ap (λ (xs : List Stmt). out ++ xs) (b.text next) ∙ sym (append_assoc out steps (text_of next (exit_region c lo hi f a rest [] x))) ∙ h.text next;
      falls = b.falls ∙ h.falls;
    }

-- For each unit

pub as_out : (P : List Stmt → Lead → Type 0) (mid new : List Stmt) (x : Stmt) (to : Lead) → (to ≡ lead.Out) × (new ≡ mid ++ x ∷ [])
    → P (mid ++ x ∷ []) lead.Out → P new to
as_out P mid new x to e p = subst (λ l. P new l) (sym e.0) (subst (λ (m : List Stmt). P m lead.Out) (sym e.1) p)

pub ending_off : (blocks : Blocks) (steps out : List Stmt) (t : ℕ) → is_end blocks t ≡ false → AddsWay blocks steps (λ c. end_of c t) out out lead.Off
ending_off blocks steps out t e = λ all from past rest w. no_end all from past blocks steps out t rest w e

pub ending_out : (blocks : Blocks) (steps copy out mid new : List Stmt) (t : ℕ) (to : Lead) → is_end blocks t ≡ true → copy ≡ steps → mid ≡ out ++ copy
    → (to ≡ lead.Out) × (new ≡ mid ++ stmt.Return ∷ []) → AddsWay blocks steps (λ c. end_of c t) out new to
ending_out blocks steps copy out mid new t to e same m x =
    as_out (λ l o. AddsWay blocks steps (λ c. end_of c t) out l o) mid new stmt.Return to x
    (subst (λ (l : List Stmt). AddsWay blocks steps (λ c. end_of c t) out (l ++ stmt.Return ∷ []) lead.Out)
    (sym (m ∙ ap (λ (l : List Stmt). out ++ l) same)) (λ all from past rest w. at_end all from past blocks steps out t rest w e))

pub same_test : (m n : ℕ) → m ≡ n → (m == n) ≡ true
same_test m n e = (Decides-eqb m n).1 e

pub other_test : (m n : ℕ) → (m ≡ n → ⊥) → (m == n) ≡ false
other_test m n e = by (m == n) (Decides-eqb m n)
  where
    by : (b : Bool) → Decides b (m ≡ n) → b ≡ false
    by true d = absurd (e (d.0 refl))
    by false d = refl

pub way_to_head : (blocks : Blocks) (steps out new : List Stmt) (left : Bool) (head last t : ℕ) (to : Lead) → t ≡ head
    → (to ≡ lead.Out) × (new ≡ out ++ stmt.Continue ∷ []) → AddsWay blocks steps (λ c. way_to c (inside left head last) t) out new to
way_to_head blocks steps out new left head last t to e x =
    as_out (λ l o. AddsWay blocks steps (λ c. way_to c (inside left head last) t) out l o) out new stmt.Continue to x
    (λ all from past rest w. to_head (chart_in all blocks) left head last t out rest (same_test t head e))

pub way_to_behind : (blocks : Blocks) (steps out new : List Stmt) (left : Bool) (head last t : ℕ) (to : Lead) → (t ≡ head → ⊥)
    → (left && (t == last + 1)) ≡ true
    → (to ≡ lead.Out) × (new ≡ out ++ stmt.Exit ∷ []) → AddsWay blocks steps (λ c. way_to c (inside left head last) t) out new to
way_to_behind blocks steps out new left head last t to e f x =
    as_out (λ l o. AddsWay blocks steps (λ c. way_to c (inside left head last) t) out l o) out new stmt.Exit to x
    (λ all from past rest w. to_behind (chart_in all blocks) left head last t out rest (other_test t head e) f)

pub way_to_end : (blocks : Blocks) (steps out new : List Stmt) (left : Bool) (head last t : ℕ) (to : Lead) → (t ≡ head → ⊥)
    → (left && (t == last + 1)) ≡ false
    → AddsWay blocks steps (λ c. end_of c t) out new to → AddsWay blocks steps (λ c. way_to c (inside left head last) t) out new to
way_to_end blocks steps out new left head last t to e f h = λ all from past rest w.
    to_end (chart_in all blocks) left head last t out new to rest (other_test t head e) f (h all from past rest w)

pub way_at : (blocks : Blocks) (steps out new : List Stmt) (t : ℕ) (a b : Around) (to : Lead) → a ≡ b
    → AddsWay blocks steps (λ c. way_to c (around_of b) t) out new to → AddsWay blocks steps (λ c. way_to c (around_of a) t) out new to
way_at blocks steps out new t a b to e h = subst (λ x. AddsWay blocks steps (λ c. way_to c (around_of x) t) out new to) (sym e) h

pub tail_goes_on : (blocks : Blocks) (steps out : List Stmt) (tail : Bool) (part : Part) (at t : ℕ) → at < part.past → is_next blocks part at t ≡ true
    → AddsTo blocks steps part at (tail_region tail part at t) out out lead.Onward
tail_goes_on blocks steps out tail part at t low e = λ all from past w p rest.
    tail_onward all from past blocks steps tail part at t out rest (record { unit = w; inside = p; low = low }) e

pub tail_falls_off : (blocks : Blocks) (steps out : List Stmt) (tail : Bool) (part : Part) (at t : ℕ) → at < part.past → is_next blocks part at t ≡ false
    → falls_to blocks tail part at t ≡ true → AddsTo blocks steps part at (tail_region tail part at t) out out lead.Off
tail_falls_off blocks steps out tail part at t low e f = λ all from past w p rest.
    tail_off all from past blocks steps tail part at t out rest (record { unit = w; inside = p; low = low }) e f

pub tail_leaves : (blocks : Blocks) (steps out new : List Stmt) (tail : Bool) (part : Part) (at t : ℕ) (to : Lead) → at < part.past
    → is_next blocks part at t ≡ false → falls_to blocks tail part at t ≡ false → AddsWay blocks steps (λ c. way_to c (around_of part.around) t) out new to
    → AddsTo blocks steps part at (tail_region tail part at t) out new to
tail_leaves blocks steps out new tail part at t to low e f h = λ all from past w p rest.
    tail_way all from past blocks steps tail part at t out new to rest (record { unit = w; inside = p; low = low }) e f (h all from past rest w)

pub last_branch : (blocks : Blocks) (steps out new begun other none : List Stmt) (tail : Bool) (part : Part) (at t : ℕ) (test : Expr) (x : Stmt) (to : Lead)
    → at < part.past → begun ≡ [] → none ≡ [] → falls_to blocks tail part at t ≡ true
    → AddsTo blocks steps part at (tail_region tail part at (at + 1)) begun other to
    → x ≡ choice test none other → new ≡ out ++ x ∷ []
    → AddsTo blocks steps part at (bare_region tail part at (exit.Branch test t)) out new lead.Off
last_branch blocks steps out new begun other none tail part at t test x to low b i e h same n = λ all from past w p rest.
    subst (λ (l : List Stmt). Adds out l lead.Off (bare_region tail part at (exit.Branch test t) (chart_in all blocks) rest) rest)
    (sym (n ∙ ap (λ (y : Stmt). out ++ y ∷ []) (same ∙ ap (λ (l : List Stmt). choice test l other) i)))
    (branch_off all from past blocks steps tail part at t test out other to rest (record { unit = w; inside = p; low = low }) e
    (subst (λ (l : List Stmt). Adds l other to (tail_region tail part at (at + 1) (chart_in all blocks) off) off) b (h all from past w p off)))

pub out_branch : (blocks : Blocks) (steps out begun body none mid new : List Stmt) (tail : Bool) (part : Part) (at t : ℕ) (test : Expr) (x : Stmt)
    (by to : Lead)
    → at < part.past → begun ≡ [] → none ≡ [] → AddsWay blocks steps (λ c. way_to c (around_of part.around) t) begun body by
    → x ≡ choice test body none → mid ≡ out ++ x ∷ []
    → AddsTo blocks steps part at (tail_region tail part at (at + 1)) mid new to → falls_to blocks tail part at t ≡ false
    → AddsTo blocks steps part at (bare_region tail part at (exit.Branch test t)) out new to
out_branch blocks steps out begun body none mid new tail part at t test x by to low b i h same m more e = λ all from past w p rest.
    branch_out all from past blocks steps tail part at t test out body new by to rest (record { unit = w; inside = p; low = low }) e
    (subst (λ (l : List Stmt). Adds l body by (way_to (chart_in all blocks) (around_of part.around) t) off) b (h all from past off w))
    (subst (λ (l : List Stmt). Adds l new to (tail_region tail part at (at + 1) (chart_in all blocks) rest) rest)
    (m ∙ ap (λ (y : Stmt). out ++ y ∷ []) (same ∙ ap (λ (l : List Stmt). choice test body l) i)) (more all from past w p rest))

pub end_if : (blocks : Blocks) (steps out body none mid new : List Stmt) (tail : Bool) (part : Part) (at : ℕ) (test : Expr) (x : Stmt) (to : Lead)
    → body ≡ stmt.Return ∷ [] → none ≡ [] → x ≡ choice test body none → mid ≡ out ++ x ∷ []
    → AddsTo blocks steps part at (tail_region tail part at (at + 1)) mid new to
    → AddsTo blocks steps part at (bare_region tail part at (exit.EndIf test)) out new to
end_if blocks steps out body none mid new tail part at test x to b i same m more = λ all from past w p rest.
    ended_if (chart_in all blocks) at part.past (place_in tail part) (around_of part.around) test out new to rest
    (subst (λ (l : List Stmt). Adds l new to (tail_region tail part at (at + 1) (chart_in all blocks) rest) rest)
    (m ∙ ap (λ (y : Stmt). out ++ y ∷ []) (same ∙ ap (λ (l : List Stmt). choice test body l) i ∙ ap (λ (l : List Stmt). choice test l []) b))
    (more all from past w p rest))

pub end_off : (blocks : Blocks) (steps out : List Stmt) (tail : Bool) (part : Part) (at : ℕ) → at < part.past → ends_last blocks tail part at ≡ true
    → AddsTo blocks steps part at (bare_region tail part at exit.End) out out lead.Off
end_off blocks steps out tail part at low e = λ all from past w p rest.
    ends_off all from past blocks steps tail part at out rest (record { unit = w; inside = p; low = low }) e

pub end_out : (blocks : Blocks) (steps out new : List Stmt) (tail : Bool) (part : Part) (at : ℕ) (to : Lead) → at < part.past
    → ends_last blocks tail part at ≡ false
    → (to ≡ lead.Out) × (new ≡ out ++ stmt.Return ∷ []) → AddsTo blocks steps part at (bare_region tail part at exit.End) out new to
end_out blocks steps out new tail part at to low e x =
    as_out (λ l o. AddsTo blocks steps part at (bare_region tail part at exit.End) out l o) out new stmt.Return to x
    (λ all from past w p rest. ends_out all from past blocks steps tail part at out rest (record { unit = w; inside = p; low = low }) e)

pub fall_exit : (blocks : Blocks) (steps out new : List Stmt) (tail : Bool) (part : Part) (at : ℕ) (to : Lead)
    → AddsTo blocks steps part at (tail_region tail part at (at + 1)) out new to → AddsTo blocks steps part at (bare_region tail part at exit.Fall) out new to
fall_exit blocks steps out new tail part at to h = λ all from past w p rest.
    falling (chart_in all blocks) at part.past (place_in tail part) (around_of part.around) out new to rest (h all from past w p rest)

pub jump_exit : (blocks : Blocks) (steps out new : List Stmt) (tail : Bool) (part : Part) (at t : ℕ) (to : Lead)
    → AddsTo blocks steps part at (tail_region tail part at t) out new to → AddsTo blocks steps part at (bare_region tail part at (exit.Jump t)) out new to
jump_exit blocks steps out new tail part at t to h = λ all from past w p rest.
    jumping (chart_in all blocks) at part.past t (place_in tail part) (around_of part.around) out new to rest (h all from past w p rest)

pub table_exit : (blocks : Blocks) (steps out : List Stmt) (tail : Bool) (part : Part) (at : ℕ) (test : Expr) (targets : List ℕ) (last : ℕ)
    → AddsTo blocks steps part at (bare_region tail part at (exit.Table test targets last)) out out lead.Off
table_exit blocks steps out tail part at test targets last = λ all from past w p rest.
    listed (chart_in all blocks) at part.past (place_in tail part) (around_of part.around) test targets last out rest

pub exit_at : (blocks : Blocks) (steps out new : List Stmt) (tail : Bool) (part : Part) (at : ℕ) (x y : StExit) (to : Lead) → x ≡ y
    → AddsTo blocks steps part at (bare_region tail part at y) out new to → AddsTo blocks steps part at (bare_region tail part at x) out new to
exit_at blocks steps out new tail part at x y to e h = subst (λ z. AddsTo blocks steps part at (bare_region tail part at z) out new to) (sym e) h

-- The block where all arms of a jump list end

rest_on : (c : Chart) (e hi : ℕ) (f : Place) (a : PlanAround) (out : List Stmt) (rest : Region) → nat_lt e hi ≡ true
    → Adds out out lead.Onward (rest_from c e hi f a rest) rest
rest_on c e hi f a out rest h = where_true out out lead.Onward (nat_lt e hi) rest (cond (is_at f e) off (way_to c a e)) rest h (onward out rest)

rest_off : (c : Chart) (e hi : ℕ) (f : Place) (a : PlanAround) (out : List Stmt) (rest : Region) → nat_lt e hi ≡ false → is_at f e ≡ true
    → Adds out out lead.Off (rest_from c e hi f a rest) rest
rest_off c e hi f a out rest h i =
    where_false out out lead.Off (nat_lt e hi) rest (cond (is_at f e) off (way_to c a e)) rest h
    (where_true out out lead.Off (is_at f e) off (way_to c a e) rest i (off_end out rest))

rest_out : (c : Chart) (e hi : ℕ) (f : Place) (a : PlanAround) (out new : List Stmt) (to : Lead) (rest : Region) → nat_lt e hi ≡ false → is_at f e ≡ false
    → Adds out new to (way_to c a e) rest → Adds out new to (rest_from c e hi f a rest) rest
rest_out c e hi f a out new to rest h i w =
    where_false out new to (nat_lt e hi) rest (cond (is_at f e) off (way_to c a e)) rest h
    (where_false out new to (is_at f e) off (way_to c a e) rest i w)

falls_there : (tail : Bool) (part : Part) (t : ℕ) → falls_at tail part t ≡ is_at (place_in tail part) t
falls_there true part t = refl
falls_there false part t = refl

less_test : (m n : ℕ) → m < n → nat_lt m n ≡ true
less_test m n e = (Decides-ltb m n).1 e

not_less_test : (m n : ℕ) → n ≤ m → nat_lt m n ≡ false
not_less_test m n e = by (nat_lt m n) (Decides-ltb m n)
  where
    by : (b : Bool) → Decides b (m < n) → b ≡ false
    by true d = let f : m < n = d.0 refl in absurd (omega (arith, e, f))
    by false d = refl

pub rest_goes_on : (blocks : Blocks) (steps out : List Stmt) (tail : Bool) (part : Part) (e : ℕ) → e < part.past
    → AddsRest blocks steps (rest_region tail part e) out out lead.Onward
rest_goes_on blocks steps out tail part e h = λ all from past rest w.
    rest_on (chart_in all blocks) e part.past (place_in tail part) (around_of part.around) out rest (less_test e part.past h)

pub rest_falls_off : (blocks : Blocks) (steps out : List Stmt) (tail : Bool) (part : Part) (e : ℕ) → part.past ≤ e → falls_at tail part e ≡ true
    → AddsRest blocks steps (rest_region tail part e) out out lead.Off
rest_falls_off blocks steps out tail part e h f = λ all from past rest w.
    rest_off (chart_in all blocks) e part.past (place_in tail part) (around_of part.around) out rest (not_less_test e part.past h)
    (sym (falls_there tail part e) ∙ f)

pub rest_leaves : (blocks : Blocks) (steps out new : List Stmt) (tail : Bool) (part : Part) (e : ℕ) (to : Lead) → part.past ≤ e
    → falls_at tail part e ≡ false → AddsWay blocks steps (λ c. way_to c (around_of part.around) e) out new to
    → AddsRest blocks steps (rest_region tail part e) out new to
rest_leaves blocks steps out new tail part e to h f way = λ all from past rest w.
    rest_out (chart_in all blocks) e part.past (place_in tail part) (around_of part.around) out new to rest (not_less_test e part.past h)
    (sym (falls_there tail part e) ∙ f) (way all from past rest w)
