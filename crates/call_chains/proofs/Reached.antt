-- What a search has seen is reached, and no unit comes to wait twice; and where what it has seen calls nothing else, no
-- more is reached.
use Rattle.std.proofs.Common.{◌≡◌, ◌≢◌, ◌⊎◌, ◌<◌, ◌≤◌, ◌+◌, ◌-◌, ℕ, zero, suc, Bool, true, false, ◌||◌, ◌==◌, cond, List, [], ◌∷◌, ◌++◌, length, replicate, take, get_or, slice_get, slice_set, Contains, Option, Some, None, inl, inr, refl, sym, ap, subst, ◌∙◌, arith, length-set, length-append, eqb-true}
use Rattle.std.proofs.lemmas.Bool.{eqb-false}
use Rattle.std.proofs.lemmas.Option.{slice_get-get_or, slice_get_within}
use Rattle.std.proofs.lemmas.List.{get_or-replicate, get_or-set_other}
use Rattle.std.proofs.lemmas.List.Elements.{Contains-append_cases, Contains-append_left, Contains-append_right}
use Rattle.call_chains.specs.Chain.{Graph, Reaches, call_in, call_at, follow, with_call}
use Rattle.call_chains.specs.Search.{AllReached, AreFollowed, Decides, Followed, IsClosed, IsClosedButFor, IsSound, has, marks_after, count_unmarked, work_after}
use Rattle.call_chains.specs.declared.call.Call.{Call}

-- Paths

follow_on : (graph : Graph) (ks : List ℕ) (i j k : ℕ) (c : Call) → follow graph i ks ≡ Some j
    → call_at graph j k ≡ Some c → follow graph i (ks ++ k ∷ []) ≡ Some c.callee
follow_on graph [] i j k c p q =
    let same : i ≡ j = cc in
    let e : call_at graph i k ≡ Some c = ap (λ n. call_at graph n k) same ∙ q in
    ap (λ o. with_call o (λ d. Some d.callee)) e
follow_on graph (l ∷ ks) i j k c p q = step (λ n r. follow_on graph ks n j k c r q) (call_at graph i l) p
  where
    step : ((n : ℕ) → follow graph n ks ≡ Some j → follow graph n (ks ++ k ∷ []) ≡ Some c.callee) → (o : Option Call)
        → with_call o (λ d. follow graph d.callee ks) ≡ Some j → with_call o (λ d. follow graph d.callee (ks ++ k ∷ [])) ≡ Some c.callee
    step more None r = cc
    step more (Some d) r = more d.callee r

-- a unit that is called by one that is reached is reached
pub onward : (graph : Graph) (from i k : ℕ) (c : Call) → Reaches graph from i → call_at graph i k ≡ Some c → Reaches graph from c.callee
onward graph from i k c r q = (r.0 ++ k ∷ [], follow_on graph r.0 from i k c r.1 q)

-- Units that wait

pub waits : (graph : Graph) (from i : ℕ) (js : List ℕ) → AllReached graph from js → Reaches graph from i → AllReached graph from (js ++ i ∷ [])
waits graph from i [] a r = (r, tt)
waits graph from i (j ∷ js) a r = (a.0, waits graph from i js a.1 r)

pub taken : (graph : Graph) (from i : ℕ) (js : List ℕ) → AllReached graph from (js ++ i ∷ []) → AllReached graph from js × Reaches graph from i
taken graph from i [] a = (tt, a.0)
taken graph from i (j ∷ js) a = let t = taken graph from i js a.1 in ((a.0, t.0), t.1)

-- Marks

mark_sound : (graph : Graph) (from i : ℕ) (seen : List Bool) (work : List ℕ) → IsSound graph from seen work → Reaches graph from i
    → IsSound graph from (slice_set seen i true) (work ++ i ∷ [])
mark_sound graph from i seen work s r = record {
  size = length-set seen i true ∙ s.size;
  marked = λ j h m. at j (j == i) refl h m;
  waiting = waits graph from i work s.waiting r;
}
  where
    at : (j : ℕ) (t : Bool) → (j == i) ≡ t → j < length (slice_set seen i true) → get_or (slice_set seen i true) j true ≡ true → Reaches graph from j
    at j true e h m = subst (λ n. Reaches graph from n) (sym (eqb-true j i e)) r
    at j false e h m =
        let apart : j ≢ i = λ q. eqb-false j i e q in
        s.marked j (omega (arith, length-set seen i true, h)) (sym (get_or-set_other seen i j true true apart) ∙ m)

-- one more unit that is reached
pub reach_sound : (graph : Graph) (from i : ℕ) (seen : List Bool) (work : List ℕ) → IsSound graph from seen work → Reaches graph from i
    → IsSound graph from (marks_after from i seen) (work_after from i seen work)
reach_sound graph from i seen work s r = by_test (has from seen i)
  where
    by_test : (t : Bool) → IsSound graph from (cond t seen (slice_set seen i true)) (cond t work (work ++ i ∷ []))
    by_test true = s
    by_test false = mark_sound graph from i seen work s r

-- call k of a unit, as a loop over its calls comes to it
call_there : (graph : Graph) (i k : ℕ) (calls items : List Call) (d : Call) → i < length graph → calls ≡ get_or graph i calls → items ≡ calls → k < length items
    → call_at graph i k ≡ Some (get_or items k d)
call_there graph i k calls items d h at same l =
    let unit : slice_get graph i ≡ Some items = slice_get-get_or graph i calls h ∙ ap (λ (c : List Call). Some c) (sym (same ∙ at)) in
    ap (λ u. call_in u k) unit ∙ slice_get-get_or items k d l

-- one more call of a unit that is reached
pub visited : (graph : Graph) (from i k : ℕ) (calls items : List Call) (d : Call) (seen : List Bool) (work : List ℕ)
    → i < length graph → calls ≡ get_or graph i calls → items ≡ calls
    → k < length items → IsSound graph from seen work → Reaches graph from i
    → IsSound graph from (marks_after from (get_or items k d).callee seen) (work_after from (get_or items k d).callee seen work)
visited graph from i k calls items d seen work h at same l s r =
    reach_sound graph from (get_or items k d).callee seen work s (onward graph from i k (get_or items k d) r (call_there graph i k calls items d h at same l))

-- What is left to do

pub one_less : (seen : List Bool) (i : ℕ) → get_or seen i true ≡ false → count_unmarked (slice_set seen i true) < count_unmarked seen
one_less [] i e = absurd cc
one_less (true ∷ seen) zero e = absurd cc
one_less (false ∷ seen) zero e = omega arith
one_less (true ∷ seen) (suc i) e = one_less seen i e
one_less (false ∷ seen) (suc i) e = let h = one_less seen i e in omega (arith, h)

no_more : (n : ℕ) → n ≤ n
no_more n = omega arith

one_waits : (a b c d : ℕ) → a < b → d ≡ c + 1 → a + d ≤ b + c
one_waits a b c d h e = omega (arith, h, e)

leaves : (from i : ℕ) (seen : List Bool) (work : List ℕ)
    → count_unmarked (marks_after from i seen) + length (work_after from i seen work) ≤ count_unmarked seen + length work
leaves from i seen work = by (i == from) (get_or seen i true) refl
  where
    by : (t m : Bool) → get_or seen i true ≡ m
        → count_unmarked (cond (t || m) seen (slice_set seen i true)) + length (cond (t || m) work (work ++ i ∷ [])) ≤ count_unmarked seen + length work
    by true m e = no_more (count_unmarked seen + length work)
    by false true e = no_more (count_unmarked seen + length work)
    by false false e =
        one_waits (count_unmarked (slice_set seen i true)) (count_unmarked seen) (length work)
        (length (work ++ i ∷ [])) (one_less seen i e) (length-append work (i ∷ []))

-- a unit that comes to wait gets a mark
pub reach_leaves : (from i : ℕ) (seen after : List Bool) (work behind : List ℕ) → after ≡ marks_after from i seen → behind ≡ work_after from i seen work
    → count_unmarked after + length behind ≤ count_unmarked seen + length work
reach_leaves from i seen after work behind e f = rw (e, f) (leaves from i seen work)

-- Calls that are followed

marked_now : (i : ℕ) (seen : List Bool) → get_or (slice_set seen i true) i true ≡ true
marked_now i [] = refl
marked_now zero (m ∷ seen) = refl
marked_now (suc i) (m ∷ seen) = marked_now i seen

-- a unit that is met is seen
met : (from i : ℕ) (seen : List Bool) → has from (marks_after from i seen) i ≡ true
met from i seen = by (has from seen i) refl
  where
    or_true : (t : Bool) → (t || true) ≡ true
    or_true true = refl
    or_true false = refl

    by : (t : Bool) → has from seen i ≡ t → has from (cond t seen (slice_set seen i true)) i ≡ true
    by true e = e
    by false e = ap (λ m. (i == from) || m) (marked_now i seen) ∙ or_true (i == from)

-- another unit is seen as before
as_before : (from i j : ℕ) (seen : List Bool) → j ≢ i → has from (slice_set seen i true) j ≡ has from seen j
as_before from i j seen apart = ap (λ m. (j == from) || m) (get_or-set_other seen i j true true apart)

-- marks and units that wait, after a unit is met
meets : (graph : Graph) (from unit n j : ℕ) (seen : List Bool) (work : List ℕ) → AreFollowed graph from seen work unit n
    → AreFollowed graph from (marks_after from j seen) (work_after from j seen work) unit n
meets graph from unit n j seen work f = by_test (has from seen j) refl
  where
    by_test : (t : Bool) → has from seen j ≡ t → AreFollowed graph from (cond t seen (slice_set seen j true)) (cond t work (work ++ j ∷ [])) unit n
    by_test true e = f
    by_test false e = λ i k c q h. at i k c q h (i == j) refl
      where
        seen_so : (i : ℕ) → has from seen i ≡ true → has from (slice_set seen j true) i ≡ true
        seen_so i h = by_unit (i == j) refl
          where
            by_unit : (t : Bool) → (i == j) ≡ t → has from (slice_set seen j true) i ≡ true
            by_unit true g = let same : i ≡ j = eqb-true i j g in absurd cc
            by_unit false g = as_before from j i seen (λ q. eqb-false i j g q) ∙ h

        wider : (i k : ℕ) (c : Call) → Followed from seen work unit n i k c
            → Followed from (slice_set seen j true) (work ++ j ∷ []) unit n i k c
        wider i k c (inl here) = inl here
        wider i k c (inr (inl waiting)) = inr (inl (Contains-append_left work (j ∷ []) i waiting))
        wider i k c (inr (inr seen_now)) = inr (inr (seen_so c.callee seen_now))

        at : (i k : ℕ) (c : Call) → call_at graph i k ≡ Some c → has from (slice_set seen j true) i ≡ true → (t : Bool) → (i == j) ≡ t
            → Followed from (slice_set seen j true) (work ++ j ∷ []) unit n i k c
        at i k c q h true g = inr (inl (Contains-append_right work (j ∷ []) i (0, omega arith, sym (eqb-true i j g))))
        at i k c q h false g = wider i k c (f i k c q (sym (as_before from j i seen (λ r. eqb-false i j g r)) ∙ h))

-- one more call of a unit is followed
follows : (graph : Graph) (from unit n : ℕ) (c : Call) (seen : List Bool) (work : List ℕ)
    → call_at graph unit n ≡ Some c → AreFollowed graph from seen work unit n
    → AreFollowed graph from (marks_after from c.callee seen) (work_after from c.callee seen work) unit (n + 1)
follows graph from unit n c seen work is_call f = λ i k d q h. next i k d q (meets graph from unit n c.callee seen work f i k d q h)
  where
    next : (i k : ℕ) (d : Call) → call_at graph i k ≡ Some d
        → Followed from (marks_after from c.callee seen) (work_after from c.callee seen work) unit n i k d
        → Followed from (marks_after from c.callee seen) (work_after from c.callee seen work) unit (n + 1) i k d
    next i k d q (inr other) = inr other
    next i k d q (inl here) = by (k == n) refl
      where
        by : (t : Bool) → (k == n) ≡ t → Followed from (marks_after from c.callee seen) (work_after from c.callee seen work) unit (n + 1) i k d
        by true g =
            let at : call_at graph i k ≡ call_at graph unit n = rw (here.0, eqb-true k n g) refl in
            let some : Some d ≡ Some c = sym q ∙ at ∙ is_call in
            let same : d ≡ c = cc in
            inr (inr (rw same (met from c.callee seen)))
        by false g = let apart : k ≢ n = λ e. eqb-false k n g e in inl (here.0, omega (arith, here.1, apart))

-- one more call of a unit is followed, as a loop over its calls comes to it
pub followed_at : (graph : Graph) (from i k : ℕ) (calls items : List Call) (d : Call) (seen : List Bool) (work : List ℕ)
    → i < length graph → calls ≡ get_or graph i calls
    → items ≡ calls → k < length items → AreFollowed graph from seen work i k
    → AreFollowed graph from (marks_after from (get_or items k d).callee seen) (work_after from (get_or items k d).callee seen work) i (k + 1)
followed_at graph from i k calls items d seen work h at same l f =
    follows graph from i k (get_or items k d) seen work (call_there graph i k calls items d h at same l) f

-- a unit has no call at or behind its end
pub all_followed : (graph : Graph) (from unit n : ℕ) (calls : List Call) (seen : List Bool) (work : List ℕ)
    → unit < length graph → calls ≡ get_or graph unit calls
    → length calls ≤ n → AreFollowed graph from seen work unit n → IsClosedButFor graph from seen work
all_followed graph from unit n calls seen work h at l f = λ i k c q m. by i k c q (f i k c q m)
  where
    there : slice_get graph unit ≡ Some calls
    there = slice_get-get_or graph unit calls h ∙ ap (λ (c : List Call). Some c) (sym at)

    by : (i k : ℕ) (c : Call) → call_at graph i k ≡ Some c → Followed from seen work unit n i k c → Contains work i ⊎ (has from seen c.callee ≡ true)
    by i k c q (inr other) = other
    by i k c q (inl here) =
        let call : call_in (slice_get graph unit) k ≡ Some c = subst (λ m. call_at graph m k ≡ Some c) here.0 q in
        let within : k < length calls = slice_get_within calls k c (ap (λ u. call_in u k) (sym there) ∙ call) in
        absurd (omega (arith, l, here.1, within))

-- the unit that is taken is the only one whose calls are still to be looked at and that does not wait
pub taken_follows : (graph : Graph) (from unit : ℕ) (seen : List Bool) (work : List ℕ)
    → IsClosedButFor graph from seen (work ++ unit ∷ []) → AreFollowed graph from seen work unit 0
taken_follows graph from unit seen work f = λ i k c q h. by i k c (f i k c q h)
  where
    is_unit : (i k : ℕ) (c : Call) → Contains (unit ∷ []) i → Followed from seen work unit 0 i k c
    is_unit i k c (zero, l, e) = inl (sym e, omega arith)
    is_unit i k c (suc m, l, e) = absurd (omega (arith, l))

    waits_or : (i k : ℕ) (c : Call) → Contains work i ⊎ Contains (unit ∷ []) i → Followed from seen work unit 0 i k c
    waits_or i k c (inl waiting) = inr (inl waiting)
    waits_or i k c (inr last) = is_unit i k c last

    by : (i k : ℕ) (c : Call) → Contains (work ++ unit ∷ []) i ⊎ (has from seen c.callee ≡ true) → Followed from seen work unit 0 i k c
    by i k c (inl waiting) = waits_or i k c (Contains-append_cases work (unit ∷ []) i waiting)
    by i k c (inr seen_now) = inr (inr seen_now)

-- where no unit is left to take, all calls of seen units are followed
pub none_waits : (graph : Graph) (from n : ℕ) (seen : List Bool) (work rest : List ℕ) → n ≡ 0
    → work ≡ rest ++ [] → rest ≡ take (n - 1) work → IsClosedButFor graph from seen work
    → IsClosed graph from seen
none_waits graph from n seen work rest none whole e f = λ i k c q h. by c i (f i k c q h)
  where
    no_rest : rest ≡ []
    no_rest = e ∙ ap (λ m. take (m - 1) work) none

    no_work : work ≡ []
    no_work = whole ∙ ap (λ (js : List ℕ). js ++ []) no_rest

    by : (c : Call) (i : ℕ) → Contains work i ⊎ (has from seen c.callee ≡ true) → has from seen c.callee ≡ true
    by c i (inl waiting) = absurd (omega (arith, waiting.1, ap length no_work))
    by c i (inr seen_now) = seen_now

-- at the start one unit alone is seen, and waits
pub begins : (graph : Graph) (from : ℕ) → IsClosedButFor graph from (replicate (length graph) false) (from ∷ [])
begins graph from = λ i k c q h. inl (by i (i == from) refl (within i k c (slice_get graph i) refl q) h)
  where
    within : (i k : ℕ) (c : Call) (u : Option (List Call)) → slice_get graph i ≡ u → call_in u k ≡ Some c → i < length graph
    within i k c None e q = absurd cc
    within i k c (Some calls) e q = slice_get_within graph i calls e

    by : (i : ℕ) (t : Bool) → (i == from) ≡ t → i < length graph → (t || get_or (replicate (length graph) false) i true) ≡ true → Contains (from ∷ []) i
    by i true g l h = (0, omega arith, sym (eqb-true i from g))
    by i false g l h = let e = get_or-replicate (length graph) i false true l in absurd cc

-- what is reached from a seen unit is seen, where seen units call no others
pub stays : (graph : Graph) (from : ℕ) (seen : List Bool) → IsClosed graph from seen
    → (ks : List ℕ) (i j : ℕ) → has from seen i ≡ true → follow graph i ks ≡ Some j
    → has from seen j ≡ true
stays graph from seen h [] i j m p = let same : i ≡ j = cc in ap (has from seen) (sym same) ∙ m
stays graph from seen h (k ∷ ks) i j m p = at_call (λ n. stays graph from seen h ks n j) (call_at graph i k) refl p
  where
    at_call : ((n : ℕ) → has from seen n ≡ true → follow graph n ks ≡ Some j → has from seen j ≡ true) → (o : Option Call) → call_at graph i k ≡ o
        → with_call o (λ c. follow graph c.callee ks) ≡ Some j → has from seen j ≡ true
    at_call more None e q = cc
    at_call more (Some c) e q = more c.callee (h i k c e m) q

starts : (from : ℕ) (seen : List Bool) → has from seen from ≡ true
starts from seen = by_test (from == from) refl
  where
    by_test : (t : Bool) → (from == from) ≡ t → (t || get_or seen from true) ≡ true
    by_test true e = refl
    by_test false e = absurd (eqb-false from from e refl)

-- a search that has seen all says whether a unit is reached
pub decided : (graph : Graph) (from to : ℕ) (seen : List Bool) (work : List ℕ) → IsSound graph from seen work → IsClosed graph from seen → to < length graph
    → Decides (Reaches graph from to) (has from seen to)
decided graph from to seen work s h l = by_test (to == from) (get_or seen to true) refl refl
  where
    unseen : has from seen to ≡ false → Reaches graph from to → ⊥
    unseen e r = let m : has from seen to ≡ true = stays graph from seen h r.0 from to (starts from seen) r.1 in absurd cc

    by_test : (t m : Bool) → (to == from) ≡ t → get_or seen to true ≡ m → Decides (Reaches graph from to) (t || m)
    by_test true m e f = ([], ap Some (sym (eqb-true to from e)))
    by_test false true e f = s.marked to (omega (arith, s.size, l)) f
    by_test false false e f = unseen (ap (λ t. t || get_or seen to true) e ∙ f)
