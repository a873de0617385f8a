-- Some call of a text is the first that lies on a cycle, or none does. A search from a unit comes to an
-- end, since each step marks one more unit.
use Rattle.std.proofs.Common.{◌≡◌, ◌⊎◌, ◌<◌, ◌≤◌, ◌+◌, ℕ, zero, suc, Bool, true, false, not, ◌&&◌, ◌||◌, ◌==◌, cond, List, [], ◌∷◌, length, get_or, slice_get, slice_set, nat_le, Option, Some, None, inl, inr, refl, sym, ap, subst, ◌∙◌, arith, eqb-true}
use Rattle.std.specs.List.{list_all}
use Rattle.std.proofs.lemmas.Bool.{leb-true, leb-false}
use Rattle.std.proofs.lemmas.Option.{slice_get_cases, slice_get_within, slice_get-get_or}
use Rattle.s7_base.specs.declared.reason.Line.{Line}
use Rattle.call_chains.proofs.Cycles.{considered, next_unit, first_of_units, none_before}
use Rattle.call_chains.proofs.Reached.{onward, reach_sound, one_less, decided}
use Rattle.call_chains.specs.Chain.{Graph, Reaches, IsFirstCycle, call_in, call_at}
use Rattle.call_chains.specs.inner.Cycles.{Considers, IsFirstBefore}
use Rattle.call_chains.specs.Search.{has, marks_after, count_unmarked, IsClosed, IsSound, Decides}
use Rattle.call_chains.specs.declared.call.Call.{Call}

-- Marks

-- a unit that is not seen is marked
marks_less : (from i : ℕ) (seen : List Bool) → has from seen i ≡ false → count_unmarked (marks_after from i seen) < count_unmarked seen
marks_less from i seen e = by (i == from) (get_or seen i true) refl e
  where
    by : (t m : Bool) → get_or seen i true ≡ m → (t || m) ≡ false → count_unmarked (cond (t || m) seen (slice_set seen i true)) < count_unmarked seen
    by true m f h = absurd cc
    by false true f h = absurd cc
    by false false f h = one_less seen i f

-- no unit has a mark
abbrev no_marks : Graph → List Bool
no_marks [] = []
no_marks (calls ∷ graph) = false ∷ no_marks graph

no_marks_size : (graph : Graph) → length (no_marks graph) ≡ length graph
no_marks_size [] = refl
no_marks_size (calls ∷ graph) = ap suc (no_marks_size graph)

none_marked : (graph : Graph) (i : ℕ) → i < length (no_marks graph) → get_or (no_marks graph) i true ≡ true → ⊥
none_marked [] i h e = absurd (omega (arith, h))
none_marked (calls ∷ graph) zero h e = absurd cc
none_marked (calls ∷ graph) (suc i) h e = none_marked graph i (omega (arith, h)) e

-- Closed sets

-- some calls call units alone that are seen
abbrev lead_to_seen : ℕ → List Bool → List Call → Bool
lead_to_seen from seen calls = list_all (λ (c : Call). has from seen c.callee) calls

-- so do the calls of all seen units from unit i on
abbrev are_closed : ℕ → List Bool → ℕ → Graph → Bool
are_closed from seen i [] = true
are_closed from seen i (calls ∷ graph) =
    (not (has from seen i) || lead_to_seen from seen calls) && are_closed from seen (i + 1) graph

lead_at : (from : ℕ) (seen : List Bool) (calls : List Call) (k : ℕ) (c : Call)
    → lead_to_seen from seen calls ≡ true → slice_get calls k ≡ Some c → has from seen c.callee ≡ true
lead_at from seen [] k c h q = cc
lead_at from seen (d ∷ calls) zero c h q =
    let same : d ≡ c = cc in
    let here : has from seen d.callee ≡ true = first (has from seen d.callee) (lead_to_seen from seen calls) h in
    ap (λ (e : Call). has from seen e.callee) (sym same) ∙ here
  where
    first : (a b : Bool) → (a && b) ≡ true → a ≡ true
    first true b e = refl
    first false b e = e
lead_at from seen (d ∷ calls) (suc k) c h q = lead_at from seen calls k c (second (has from seen d.callee) (lead_to_seen from seen calls) h) q
  where
    second : (a b : Bool) → (a && b) ≡ true → b ≡ true
    second true b e = e
    second false b e = cc

closed_at : (from : ℕ) (seen : List Bool) (graph : Graph) (i j : ℕ) (calls : List Call) → are_closed from seen i graph ≡ true → has from seen (i + j) ≡ true
    → slice_get graph j ≡ Some calls → lead_to_seen from seen calls ≡ true
closed_at from seen [] i j calls h m q = cc
closed_at from seen (cs ∷ graph) i zero calls h m q =
    let same : cs ≡ calls = cc in
    let here : has from seen i ≡ true = ap (has from seen) (omega arith) ∙ m in
    ap (lead_to_seen from seen) (sym same) ∙ first (has from seen i) (lead_to_seen from seen cs) _ here h
  where
    first : (a b c : Bool) → a ≡ true → ((not a || b) && c) ≡ true → b ≡ true
    first true true c e g = refl
    first true false c e g = g
    first false b c e g = cc
closed_at from seen (cs ∷ graph) i (suc j) calls h m q =
    let there : has from seen (i + 1 + j) ≡ true = ap (has from seen) (omega arith) ∙ m in
    closed_at from seen graph (i + 1) j calls (second _ (are_closed from seen (i + 1) graph) h) there q
  where
    second : (a b : Bool) → (a && b) ≡ true → b ≡ true
    second true b e = e
    second false b e = cc

zero_first : (i : ℕ) → 0 + i ≡ i
zero_first i = omega arith

are_followed : (graph : Graph) (from : ℕ) (seen : List Bool) → are_closed from seen 0 graph ≡ true → IsClosed graph from seen
are_followed graph from seen h = λ i k c q m. by i k c m (slice_get graph i) refl q
  where
    by : (i k : ℕ) (c : Call) → has from seen i ≡ true → (u : Option (List Call)) → slice_get graph i ≡ u → call_in u k ≡ Some c → has from seen c.callee ≡ true
    by i k c m None e q = cc
    by i k c m (Some calls) e q = lead_at from seen calls k c (closed_at from seen graph 0 i calls h (ap (has from seen) (zero_first i) ∙ m) e) q

-- The search

-- a unit that is seen calls one that is not, if seen units call others
record Leads (graph : Graph) (from : ℕ) (seen : List Bool) (first : ℕ) : Type 0 where
  unit : ℕ
  number : ℕ
  call : Call
  is_call : call_at graph unit number ≡ Some call
  is_seen : has from seen (first + unit) ≡ true
  is_new : has from seen call.callee ≡ false

leads_of : (from : ℕ) (seen : List Bool) (calls : List Call) → lead_to_seen from seen calls ≡ false
    → (k : ℕ) × (c : Call) × (slice_get calls k ≡ Some c) × (has from seen c.callee ≡ false)
leads_of from seen [] e = absurd cc
leads_of from seen (c ∷ calls) e = by (has from seen c.callee) refl e (leads_of from seen calls)
  where
    by : (t : Bool) → has from seen c.callee ≡ t → (t && lead_to_seen from seen calls) ≡ false
        → (lead_to_seen from seen calls ≡ false → (k : ℕ) × (d : Call) × (slice_get calls k ≡ Some d) × (has from seen d.callee ≡ false))
        → (k : ℕ) × (d : Call) × (slice_get (c ∷ calls) k ≡ Some d) × (has from seen d.callee ≡ false)
    by false f h more = (0, c, refl, f)
    by true f h more = let m = more h in (suc m.0, m.1, m.2, m.3)

leads : (graph : Graph) (from : ℕ) (seen : List Bool) (first : ℕ) → are_closed from seen first graph ≡ false → Leads graph from seen first
leads [] from seen first e = absurd cc
leads (calls ∷ graph) from seen first e =
    by (has from seen first) (lead_to_seen from seen calls) refl refl e (leads graph from seen (first + 1))
  where
    further : Leads graph from seen (first + 1) → Leads (calls ∷ graph) from seen first
    further w = record {
      unit = suc w.unit;
      number = w.number;
      call = w.call;
      is_call = w.is_call;
      is_seen = ap (has from seen) (omega arith) ∙ w.is_seen;
      is_new = w.is_new;
    }

    by : (t m : Bool) → has from seen first ≡ t → lead_to_seen from seen calls ≡ m → ((not t || m) && are_closed from seen (first + 1) graph) ≡ false
        → (are_closed from seen (first + 1) graph ≡ false → Leads graph from seen (first + 1)) → Leads (calls ∷ graph) from seen first
    by true false f g h more =
        let l = leads_of from seen calls g in
        record { unit = 0; number = l.0; call = l.1; is_call = l.2; is_seen = ap (has from seen) (omega arith) ∙ f; is_new = l.3 }
    by true true f g h more = further (more h)
    by false m f g h more = further (more h)

-- marks of units that are reached, which call no others
record Closed (graph : Graph) (from : ℕ) : Type 0 where
  seen : List Bool
  sound : IsSound graph from seen []
  closed : are_closed from seen 0 graph ≡ true

seen_reached : (graph : Graph) (from i : ℕ) (seen : List Bool) → IsSound graph from seen [] → i < length graph → has from seen i ≡ true → Reaches graph from i
seen_reached graph from i seen s h e = by (i == from) (get_or seen i true) refl refl e
  where
    by : (t m : Bool) → (i == from) ≡ t → get_or seen i true ≡ m → (t || m) ≡ true → Reaches graph from i
    by true m f g q = ([], ap Some (sym (eqb-true i from f)))
    by false true f g q = s.marked i (omega (arith, s.size, h)) g
    by false false f g q = absurd cc

unit_within : (graph : Graph) (i k : ℕ) (c : Call) → call_at graph i k ≡ Some c → i < length graph
unit_within graph i k c e = by (slice_get graph i) refl e
  where
    by : (u : Option (List Call)) → slice_get graph i ≡ u → call_in u k ≡ Some c → i < length graph
    by None f q = absurd cc
    by (Some calls) f q = slice_get_within graph i calls f

one_more : (graph : Graph) (from : ℕ) (seen : List Bool) (w : Leads graph from seen 0)
    → IsSound graph from seen [] → IsSound graph from (marks_after from w.call.callee seen) []
one_more graph from seen w s =
    let is_seen : has from seen w.unit ≡ true = ap (has from seen) (omega arith) ∙ w.is_seen in
    let r = seen_reached graph from w.unit seen s (unit_within graph w.unit w.number w.call w.is_call) is_seen in
    let t = reach_sound graph from w.call.callee seen [] s (onward graph from w.unit w.number w.call r w.is_call) in
    record { size = t.size; marked = t.marked; waiting = tt }

close_step : (graph : Graph) (from : ℕ) (seen : List Bool) (t : Bool) → are_closed from seen 0 graph ≡ t → IsSound graph from seen []
    → ((marks : List Bool) → IsSound graph from marks [] → count_unmarked marks < count_unmarked seen → Closed graph from) → Closed graph from
close_step graph from seen true e s on = record { seen = seen; sound = s; closed = e }
close_step graph from seen false e s on =
    let w = leads graph from seen 0 e in on (marks_after from w.call.callee seen) (one_more graph from seen w s) (marks_less from w.call.callee seen w.is_new)

close : (most : ℕ) (graph : Graph) (from : ℕ) (seen : List Bool) → IsSound graph from seen [] → count_unmarked seen ≤ most → Closed graph from
close zero graph from seen s h = close_step graph from seen (are_closed from seen 0 graph) refl s (λ marks r l. absurd (omega (arith, l, h)))
close (suc most) graph from seen s h =
    close_step graph from seen (are_closed from seen 0 graph) refl s (λ marks r l. close most graph from marks r (omega (arith, l, h)))

closed_from : (graph : Graph) (from : ℕ) → Closed graph from
closed_from graph from =
    let s : IsSound graph from (no_marks graph) [] = record { size = no_marks_size graph; marked = λ i h e. absurd (none_marked graph i h e); waiting = tt } in
    close (count_unmarked (no_marks graph)) graph from (no_marks graph) s (omega arith)

reached_or_not : (graph : Graph) (from to : ℕ) → to < length graph → Reaches graph from to ⊎ (Reaches graph from to → ⊥)
reached_or_not graph from to h =
    let c = closed_from graph from in
    by (has from c.seen to) (decided graph from to c.seen [] c.sound (are_followed graph from c.seen c.closed) h)
  where
    by : (t : Bool) → Decides (Reaches graph from to) t → Reaches graph from to ⊎ (Reaches graph from to → ⊥)
    by true d = inl d
    by false d = inr d

-- The first call on a cycle

consider : (P : Type 0) (line : Line) (old : Option Line) → P ⊎ (P → ⊥) → (new : Option Line) × Considers P line old new
consider P line None (inl p) = (Some line, (p, refl))
consider P line None (inr n) = (None, n)
consider P line (Some old) (inl p) = by (nat_le old.0 line.0) refl
  where
    by : (t : Bool) → nat_le old.0 line.0 ≡ t → (new : Option Line) × Considers P line (Some old) new
    by true e = (Some old, inl (refl, λ q. leb-true old.0 line.0 e))
    by false e = (Some line, inr (refl, p, leb-false old.0 line.0 e))
consider P line (Some old) (inr n) = (Some old, inl (refl, λ p. absurd (n p)))

-- the first line before a call
abbrev FoundBefore : Graph → ℕ → ℕ → Type 0
FoundBefore graph i k = (first : Option Line) × IsFirstBefore graph i k first

found_call : (graph : Graph) (i : ℕ) (calls : List Call) (k : ℕ) → slice_get graph i ≡ Some calls
    → k < length calls → FoundBefore graph i k → FoundBefore graph i (k + 1)
found_call graph i calls k e h f = by (slice_get_cases calls k).1
  where
    with_call : (c : Call) → slice_get calls k ≡ Some c → FoundBefore graph i (k + 1)
    with_call c g =
        let n = consider (Reaches graph c.callee i) c.line f.0 (reached_or_not graph c.callee i (slice_get_within graph i calls e)) in
        let is_call : call_at graph i k ≡ Some c = ap (λ (u : Option (List Call)). call_in u k) e ∙ g in
        (n.0, considered graph i k c f.0 n.0 is_call f.1 n.1)

    by : ((x : Call) × (k < length calls) × (slice_get calls k ≡ Some x) × (get_or calls k x ≡ x)) ⊎ ((length calls ≤ k) × (slice_get calls k ≡ None))
        → FoundBefore graph i (k + 1)
    by (inl x) = with_call x.0 x.2
    by (inr x) = absurd (omega (arith, x.0, h))

next_number : (k : ℕ) → k + 1 ≡ suc k
next_number k = omega arith

found_calls : (graph : Graph) (i : ℕ) (calls : List Call) (k : ℕ) → slice_get graph i ≡ Some calls
    → k ≤ length calls → FoundBefore graph i 0 → FoundBefore graph i k
found_calls graph i calls zero e h f = f
found_calls graph i calls (suc k) e h f =
    subst (FoundBefore graph i) (next_number k) (found_call graph i calls k e (omega (arith, h)) (found_calls graph i calls k e (omega (arith, h)) f))

found_unit : (graph : Graph) (i : ℕ) → i < length graph → FoundBefore graph i 0 → FoundBefore graph (i + 1) 0
found_unit graph i h f =
    let calls = get_or graph i [] in
    let e : slice_get graph i ≡ Some calls = slice_get-get_or graph i [] h in
    let same : get_or graph i calls ≡ calls = let g : Some calls ≡ Some (get_or graph i calls) = sym e ∙ slice_get-get_or graph i calls h in cc in
    let n = found_calls graph i calls (length calls) e (omega arith) f in
    (n.0, next_unit graph i calls n.0 h same n.1)

found_units : (graph : Graph) (i : ℕ) → i ≤ length graph → FoundBefore graph i 0
found_units graph zero h = (None, none_before graph)
found_units graph (suc i) h =
    subst (λ (n : ℕ). FoundBefore graph n 0) (next_number i) (found_unit graph i (omega (arith, h)) (found_units graph i (omega (arith, h))))

pub found_cycle : (graph : Graph) → (first : Option Line) × IsFirstCycle graph first
found_cycle graph = let f = found_units graph (length graph) (omega arith) in (f.0, first_of_units graph f.0 f.1)
