-- What a search has found is reached, and where it has gone on from all of it, all that is reached is found.
use Rattle.std.proofs.Common.{◌≡◌, ◌⊎◌, ℕ, zero, suc, ◌+◌, ◌-◌, ◌<◌, ◌≤◌, Bool, true, false, ◌==◌, cond, List, [], ◌∷◌, ◌++◌, Option, Some, None, fold, get_or, length, replicate, slice_get, slice_set, take, inl, inr, refl, sym, ap, subst, ◌∙◌, arith, eqb-true, length-append, length-set}
use Rattle.std.specs.Option.{option_map}
use Rattle.std.proofs.lemmas.Bool.{eqb-false}
use Rattle.std.proofs.lemmas.Option.{none-some, same_Some, slice_get-map, slice_get_within}
use Rattle.std.proofs.lemmas.List.{get_or-replicate, get_or-set_other, length-map, length-replicate}
use Rattle.stl_tree.specs.Segments.{IsOneOf, IsReached, Ways, fall, first, jump}
use Rattle.flow_graph.specs.Graphs.{ways_after, ways_of}
use Rattle.flow_graph.specs.Reached.{AreReached}
use Rattle.flow_graph.specs.declared.graph.Exit.{Exit}
use Rattle.flow_graph.specs.inner.Reaching.{AllReached, AllSeen, SearchState, IsClosedButFor, IsSound, count_unseen, state_of, go_on, meet, next_of}

-- Members

one_left : (i : ℕ) (xs ys : List ℕ) → IsOneOf i xs → IsOneOf i (xs ++ ys)
one_left i [] ys h = absurd h
one_left i (x ∷ xs) ys (inl e) = inl e
one_left i (x ∷ xs) ys (inr h) = inr (one_left i xs ys h)

one_last : (i : ℕ) (xs : List ℕ) → IsOneOf i (xs ++ i ∷ [])
one_last i [] = inl refl
one_last i (x ∷ xs) = inr (one_last i xs)

one_cases : (i u : ℕ) (xs : List ℕ) → IsOneOf i (xs ++ u ∷ []) → IsOneOf i xs ⊎ (i ≡ u)
one_cases i u [] (inl e) = inr e
one_cases i u [] (inr h) = absurd h
one_cases i u (x ∷ xs) (inl e) = inl (inl e)
one_cases i u (x ∷ xs) (inr h) = by (one_cases i u xs h)
  where
    by : IsOneOf i xs ⊎ (i ≡ u) → IsOneOf i (x ∷ xs) ⊎ (i ≡ u)
    by (inl g) = inl (inr g)
    by (inr e) = inr e

-- Marks

marked_now : (i : ℕ) (seen : List Bool) → get_or (slice_set seen i true) i true ≡ true
marked_now i [] = refl
marked_now zero (m ∷ seen) = refl
marked_now (suc i) (m ∷ seen) = marked_now i seen

marks_stay : (i j : ℕ) (seen : List Bool) → get_or seen j true ≡ true → get_or (slice_set seen i true) j true ≡ true
marks_stay i j [] e = refl
marks_stay zero zero (m ∷ seen) e = refl
marks_stay zero (suc j) (m ∷ seen) e = e
marks_stay (suc i) zero (m ∷ seen) e = e
marks_stay (suc i) (suc j) (m ∷ seen) e = marks_stay i j seen e

-- One more node, and some more

stays : (f : SearchState) (i j : ℕ) → get_or f.seen j true ≡ true → get_or (meet f i).seen j true ≡ true
stays f i j e = by (get_or f.seen i true)
  where
    by : (t : Bool) → get_or (cond t f (state_of (slice_set f.seen i true) (f.work ++ i ∷ []))).seen j true ≡ true
    by true = e
    by false = marks_stay i j f.seen e

all_stay : (js : List ℕ) (f : SearchState) (j : ℕ) → get_or f.seen j true ≡ true → get_or (fold meet f js).seen j true ≡ true
all_stay [] f j e = e
all_stay (i ∷ js) f j e = all_stay js (meet f i) j (stays f i j e)

met : (f : SearchState) (i : ℕ) → get_or (meet f i).seen i true ≡ true
met f i = by (get_or f.seen i true) refl
  where
    by : (t : Bool) → get_or f.seen i true ≡ t → get_or (cond t f (state_of (slice_set f.seen i true) (f.work ++ i ∷ []))).seen i true ≡ true
    by true e = e
    by false e = marked_now i f.seen

all_met : (js : List ℕ) (f : SearchState) → AllSeen (fold meet f js).seen js
all_met [] f = tt
all_met (j ∷ js) f = (all_stay js (meet f j) j (met f j), all_met js (meet f j))

still_seen : (js : List ℕ) (f : SearchState) (ks : List ℕ) → AllSeen f.seen ks → AllSeen (fold meet f js).seen ks
still_seen js f [] h = tt
still_seen js f (k ∷ ks) h = (all_stay js f k h.0, still_seen js f ks h.1)

waits_still : (f : SearchState) (j i : ℕ) → IsOneOf i f.work → IsOneOf i (meet f j).work
waits_still f j i h = by (get_or f.seen j true)
  where
    by : (t : Bool) → IsOneOf i (cond t f (state_of (slice_set f.seen j true) (f.work ++ j ∷ []))).work
    by true = h
    by false = one_left i f.work (j ∷ []) h

all_wait_still : (js : List ℕ) (f : SearchState) (i : ℕ) → IsOneOf i f.work → IsOneOf i (fold meet f js).work
all_wait_still [] f i h = h
all_wait_still (j ∷ js) f i h = all_wait_still js (meet f j) i (waits_still f j i h)

-- a node that is seen now was seen before, or waits
new_waits : (f : SearchState) (j i : ℕ) → get_or (meet f j).seen i true ≡ true → (get_or f.seen i true ≡ true) ⊎ IsOneOf i (meet f j).work
new_waits f j i m = by (get_or f.seen j true) m
  where
    at : (t : Bool) → (i == j) ≡ t → get_or (slice_set f.seen j true) i true ≡ true → (get_or f.seen i true ≡ true) ⊎ IsOneOf i (f.work ++ j ∷ [])
    at true e n = inr (subst (λ k. IsOneOf k (f.work ++ j ∷ [])) (sym (eqb-true i j e)) (one_last j f.work))
    at false e n = inl (sym (get_or-set_other f.seen j i true true (λ q. eqb-false i j e q)) ∙ n)

    by : (t : Bool) → get_or (cond t f (state_of (slice_set f.seen j true) (f.work ++ j ∷ []))).seen i true ≡ true
        → (get_or f.seen i true ≡ true) ⊎ IsOneOf i (cond t f (state_of (slice_set f.seen j true) (f.work ++ j ∷ []))).work
    by true n = inl n
    by false n = at (i == j) refl n

all_new_wait : (js : List ℕ) (f : SearchState) (i : ℕ) → get_or (fold meet f js).seen i true ≡ true
    → (get_or f.seen i true ≡ true) ⊎ IsOneOf i (fold meet f js).work
all_new_wait [] f i m = inl m
all_new_wait (j ∷ js) f i m = by (all_new_wait js (meet f j) i m)
  where
    before : (get_or f.seen i true ≡ true) ⊎ IsOneOf i (meet f j).work → (get_or f.seen i true ≡ true) ⊎ IsOneOf i (fold meet (meet f j) js).work
    before (inl e) = inl e
    before (inr h) = inr (all_wait_still js (meet f j) i h)

    by : (get_or (meet f j).seen i true ≡ true) ⊎ IsOneOf i (fold meet (meet f j) js).work
        → (get_or f.seen i true ≡ true) ⊎ IsOneOf i (fold meet (meet f j) js).work
    by (inl e) = before (new_waits f j i e)
    by (inr h) = inr h

-- What is found is reached

waits_reached : (blocks : List Ways) (i : ℕ) (js : List ℕ) → AllReached blocks js → IsReached blocks i → AllReached blocks (js ++ i ∷ [])
waits_reached blocks i [] a r = (r, tt)
waits_reached blocks i (j ∷ js) a r = (a.0, waits_reached blocks i js a.1 r)

taken : (blocks : List Ways) (i : ℕ) (js : List ℕ) → AllReached blocks (js ++ i ∷ []) → AllReached blocks js × IsReached blocks i
taken blocks i [] a = (tt, a.0)
taken blocks i (j ∷ js) a = let t = taken blocks i js a.1 in ((a.0, t.0), t.1)

meets_reached : (blocks : List Ways) (f : SearchState) (i : ℕ) → IsSound blocks f → IsReached blocks i → IsSound blocks (meet f i)
meets_reached blocks f i s r = by (get_or f.seen i true)
  where
    at : (j : ℕ) (t : Bool) → (j == i) ≡ t → j < length (slice_set f.seen i true) → get_or (slice_set f.seen i true) j true ≡ true → IsReached blocks j
    at j true e h m = subst (λ n. IsReached blocks n) (sym (eqb-true j i e)) r
    at j false e h m =
        s.seen j (subst (λ n. j < n) (length-set f.seen i true) h)
        (sym (get_or-set_other f.seen i j true true (λ q. eqb-false j i e q)) ∙ m)

    by : (t : Bool) → IsSound blocks (cond t f (state_of (slice_set f.seen i true) (f.work ++ i ∷ [])))
    by true = s
    by false = record {
      size = length-set f.seen i true ∙ s.size;
      seen = λ j h m. at j (j == i) refl h m;
      work = waits_reached blocks i f.work s.work r;
    }

all_meet_reached : (blocks : List Ways) (js : List ℕ) (f : SearchState) → IsSound blocks f → AllReached blocks js → IsSound blocks (fold meet f js)
all_meet_reached blocks [] f s r = s
all_meet_reached blocks (j ∷ js) f s r = all_meet_reached blocks js (meet f j) (meets_reached blocks f j s r.0) r.1

jumps_reached : (blocks : List Ways) (js : List ℕ) → ((t : ℕ) → IsOneOf t js → IsReached blocks t) → AllReached blocks js
jumps_reached blocks [] h = tt
jumps_reached blocks (j ∷ js) h = (h j (inl refl), jumps_reached blocks js (λ t o. h t (inr o)))

next_reached : (blocks : List Ways) (s : ℕ) (ways : Ways) → slice_get blocks s ≡ Some ways → IsReached blocks s → AllReached blocks (next_of s ways)
next_reached blocks s ways at r = by ways.falls refl
  where
    jumps : AllReached blocks ways.jumps
    jumps = jumps_reached blocks ways.jumps (λ t o. jump r (ways, at, o))

    by : (b : Bool) → ways.falls ≡ b → AllReached blocks (cond b (suc s ∷ ways.jumps) ways.jumps)
    by true e = (fall r (ways, at, e), jumps)
    by false e = jumps

pub ways_at : (exits : List Exit) (u : ℕ) (exit : Exit) → slice_get exits u ≡ Some exit → slice_get (ways_after exits) u ≡ Some (ways_of exit)
ways_at exits u exit e = slice_get-map ways_of exits u ∙ ap (option_map ways_of) e

-- the search goes on from a node that it takes
pub goes_on_reached : (exits : List Exit) (seen : List Bool) (work : List ℕ) (u : ℕ) → IsSound (ways_after exits) (state_of seen (work ++ u ∷ []))
    → IsSound (ways_after exits) (go_on (slice_get exits u) u (state_of seen work))
goes_on_reached exits seen work u s = by (slice_get exits u) refl
  where
    parts : AllReached (ways_after exits) work × IsReached (ways_after exits) u
    parts = taken (ways_after exits) u work s.work

    less : IsSound (ways_after exits) (state_of seen work)
    less = record { size = s.size; seen = s.seen; work = parts.0 }

    by : (o : Option Exit) → slice_get exits u ≡ o → IsSound (ways_after exits) (go_on o u (state_of seen work))
    by None e = less
    by (Some exit) e =
        all_meet_reached (ways_after exits) (next_of u (ways_of exit)) (state_of seen work) less
        (next_reached (ways_after exits) u (ways_of exit) (ways_at exits u exit e) parts.1)

-- All that follows is found

pub goes_on_closed : (exits : List Exit) (seen : List Bool) (work : List ℕ) (u : ℕ) → IsClosedButFor (ways_after exits) (state_of seen (work ++ u ∷ []))
    → IsClosedButFor (ways_after exits) (go_on (slice_get exits u) u (state_of seen work))
goes_on_closed exits seen work u h = by (slice_get exits u) refl
  where
    here : (o : Option Exit) → slice_get exits u ≡ o → (i : ℕ) (ways : Ways) → slice_get (ways_after exits) i ≡ Some ways → i ≡ u
        → option_map ways_of o ≡ Some ways
    here o e i ways at same =
        ap (option_map ways_of) (sym e) ∙ sym (slice_get-map ways_of exits u)
        ∙ subst (λ j. slice_get (ways_after exits) j ≡ Some ways) same at

    none : slice_get exits u ≡ None → (i : ℕ) (ways : Ways) → slice_get (ways_after exits) i ≡ Some ways
        → IsOneOf i (work ++ u ∷ []) ⊎ AllSeen seen (next_of i ways) → IsOneOf i work ⊎ AllSeen seen (next_of i ways)
    none e i ways at (inr all) = inr all
    none e i ways at (inl one) = at_one (one_cases i u work one)
      where
        at_one : IsOneOf i work ⊎ (i ≡ u) → IsOneOf i work ⊎ AllSeen seen (next_of i ways)
        at_one (inl w) = inl w
        at_one (inr same) = absurd (none-some ways (here None e i ways at same))

    some : (exit : Exit) → slice_get exits u ≡ Some exit → (i : ℕ) (ways : Ways) → slice_get (ways_after exits) i ≡ Some ways
        → IsOneOf i (work ++ u ∷ []) ⊎ AllSeen seen (next_of i ways)
        → IsOneOf i (fold meet (state_of seen work) (next_of u (ways_of exit))).work
        ⊎ AllSeen (fold meet (state_of seen work) (next_of u (ways_of exit))).seen (next_of i ways)
    some exit e i ways at (inr all) = inr (still_seen (next_of u (ways_of exit)) (state_of seen work) (next_of i ways) all)
    some exit e i ways at (inl one) = at_one (one_cases i u work one)
      where
        js : List ℕ
        js = next_of u (ways_of exit)

        at_one : IsOneOf i work ⊎ (i ≡ u)
            → IsOneOf i (fold meet (state_of seen work) js).work ⊎ AllSeen (fold meet (state_of seen work) js).seen (next_of i ways)
        at_one (inl w) = inl (all_wait_still js (state_of seen work) i w)
        at_one (inr same) =
            let w : ways_of exit ≡ ways = same_Some (ways_of exit) ways (here (Some exit) e i ways at same) in
            inr (subst (λ x. AllSeen (fold meet (state_of seen work) js).seen (next_of i x)) w
            (subst (λ j. AllSeen (fold meet (state_of seen work) js).seen (next_of j (ways_of exit))) (sym same) (all_met js (state_of seen work))))

    by : (o : Option Exit) → slice_get exits u ≡ o → IsClosedButFor (ways_after exits) (go_on o u (state_of seen work))
    by None e = λ i ways at m. none e i ways at (h i ways at m)
    by (Some exit) e = λ i ways at m. seen_now i ways at (all_new_wait (next_of u (ways_of exit)) (state_of seen work) i m)
      where
        seen_now : (i : ℕ) (ways : Ways) → slice_get (ways_after exits) i ≡ Some ways
            → (get_or seen i true ≡ true) ⊎ IsOneOf i (fold meet (state_of seen work) (next_of u (ways_of exit))).work
            → IsOneOf i (fold meet (state_of seen work) (next_of u (ways_of exit))).work
            ⊎ AllSeen (fold meet (state_of seen work) (next_of u (ways_of exit))).seen (next_of i ways)
        seen_now i ways at (inr w) = inl w
        seen_now i ways at (inl m) = some exit e i ways at (h i ways at m)

-- What is left to do

one_less : (seen : List Bool) (i : ℕ) → get_or seen i true ≡ false → count_unseen (slice_set seen i true) < count_unseen seen
one_less [] i e = absurd cc
one_less (true ∷ seen) zero e = absurd cc
one_less (false ∷ seen) zero e = omega arith
one_less (true ∷ seen) (suc i) e = one_less seen i e
one_less (false ∷ seen) (suc i) e = let h = one_less seen i e in omega (arith, h)

leaves : (f : SearchState) (i : ℕ) → count_unseen (meet f i).seen + length (meet f i).work ≤ count_unseen f.seen + length f.work
leaves f i = by (get_or f.seen i true) refl
  where
    by : (t : Bool) → get_or f.seen i true ≡ t
        → count_unseen (cond t f (state_of (slice_set f.seen i true) (f.work ++ i ∷ []))).seen
        + length (cond t f (state_of (slice_set f.seen i true) (f.work ++ i ∷ []))).work ≤ count_unseen f.seen + length f.work
    by true e = omega arith
    by false e =
        let less : count_unseen (slice_set f.seen i true) < count_unseen f.seen = one_less f.seen i e in
        let more : length (f.work ++ i ∷ []) ≡ length f.work + 1 = length-append f.work (i ∷ []) in
        omega (arith, less, more)

all_leave : (js : List ℕ) (f : SearchState) → count_unseen (fold meet f js).seen + length (fold meet f js).work ≤ count_unseen f.seen + length f.work
all_leave [] f = omega arith
all_leave (j ∷ js) f =
    let a : count_unseen (fold meet (meet f j) js).seen + length (fold meet (meet f j) js).work ≤ count_unseen (meet f j).seen + length (meet f j).work =
    all_leave js (meet f j) in
    let b : count_unseen (meet f j).seen + length (meet f j).work ≤ count_unseen f.seen + length f.work = leaves f j in
    omega (arith, a, b)

-- a node that is met gets a mark
pub goes_on_leaves : (exits : List Exit) (f : SearchState) (u : ℕ)
    → count_unseen (go_on (slice_get exits u) u f).seen + length (go_on (slice_get exits u) u f).work ≤ count_unseen f.seen + length f.work
goes_on_leaves exits f u = by (slice_get exits u)
  where
    by : (o : Option Exit) → count_unseen (go_on o u f).seen + length (go_on o u f).work ≤ count_unseen f.seen + length f.work
    by None = omega arith
    by (Some exit) = all_leave (next_of u (ways_of exit)) f

pub goes_on_stays : (exits : List Exit) (f : SearchState) (u j : ℕ) → get_or f.seen j true ≡ true → get_or (go_on (slice_get exits u) u f).seen j true ≡ true
goes_on_stays exits f u j e = by (slice_get exits u)
  where
    by : (o : Option Exit) → get_or (go_on o u f).seen j true ≡ true
    by None = e
    by (Some exit) = all_stay (next_of u (ways_of exit)) f j e

-- where no node is left to take
pub none_left : (n : ℕ) (work rest : List ℕ) → n ≡ 0 → work ≡ rest ++ [] → rest ≡ take (n - 1) work → work ≡ []
none_left n work rest none whole e =
    whole ∙ ap (λ (js : List ℕ). js ++ []) (e ∙ ap (λ m. take (m - 1) work) none)

-- The first node, and the end

unseen : (n i : ℕ) → i < n → get_or (replicate n false) i true ≡ true → ⊥
unseen n i h m = let e : get_or (replicate n false) i true ≡ false = get_or-replicate n i false true h in cc

starts_reached : (exits : List Exit) → IsSound (ways_after exits) (meet (state_of (replicate (length exits) false) []) 0)
starts_reached exits = meets_reached (ways_after exits) (state_of (replicate n false) []) 0 none first
  where
    n : ℕ
    n = length exits

    none : IsSound (ways_after exits) (state_of (replicate n false) [])
    none = record {
      size = length-replicate n false ∙ sym (length-map exits ways_of);
      seen = λ i h m. absurd (unseen n i (subst (λ m. i < m) (length-replicate n false) h) m);
      work = tt;
    }

starts_closed : (exits : List Exit) → IsClosedButFor (ways_after exits) (meet (state_of (replicate (length exits) false) []) 0)
starts_closed exits = λ i ways at m. by i ways at (new_waits (state_of (replicate n false) []) 0 i m)
  where
    n : ℕ
    n = length exits

    by : (i : ℕ) (ways : Ways) → slice_get (ways_after exits) i ≡ Some ways
        → (get_or (replicate n false) i true ≡ true) ⊎ IsOneOf i (meet (state_of (replicate n false) []) 0).work
        → IsOneOf i (meet (state_of (replicate n false) []) 0).work ⊎ AllSeen (meet (state_of (replicate n false) []) 0).seen (next_of i ways)
    by i ways at (inr w) = inl w
    by i ways at (inl m) =
        let h : i < length (ways_after exits) = slice_get_within (ways_after exits) i ways at in
        absurd (unseen n i (subst (λ k. i < k) (length-map exits ways_of) h) m)

starts_first : (n : ℕ) → get_or (meet (state_of (replicate n false) []) 0).seen 0 true ≡ true
starts_first n = met (state_of (replicate n false) []) 0

-- what is found once the first node is met
is_start : (P : SearchState → Type 0) (n : ℕ) (f : SearchState) (marks : List Bool) (none : List ℕ) → marks ≡ replicate n false → none ≡ []
    → f ≡ meet (state_of marks none) 0 → P (meet (state_of (replicate n false) []) 0) → P f
is_start P n f marks none e g h p =
    subst P (sym h) (subst (λ m. P (meet (state_of m none) 0)) (sym e) (subst (λ w. P (meet (state_of (replicate n false) w) 0)) (sym g) p))

pub started_reached : (exits : List Exit) (seen marks : List Bool) (work none : List ℕ) → marks ≡ replicate (length exits) false → none ≡ []
    → state_of seen work ≡ meet (state_of marks none) 0 → IsSound (ways_after exits) (state_of seen work)
started_reached exits seen marks work none e g h =
    is_start (IsSound (ways_after exits)) (length exits) (state_of seen work) marks none e g h (starts_reached exits)

pub started_closed : (exits : List Exit) (seen marks : List Bool) (work none : List ℕ) → marks ≡ replicate (length exits) false → none ≡ []
    → state_of seen work ≡ meet (state_of marks none) 0 → IsClosedButFor (ways_after exits) (state_of seen work)
started_closed exits seen marks work none e g h =
    is_start (IsClosedButFor (ways_after exits)) (length exits) (state_of seen work) marks none e g h (starts_closed exits)

pub started_first : (n : ℕ) (seen marks : List Bool) (work none : List ℕ) → marks ≡ replicate n false → none ≡ []
    → state_of seen work ≡ meet (state_of marks none) 0 → get_or seen 0 true ≡ true
started_first n seen marks work none e g h =
    is_start (λ (f : SearchState). get_or f.seen 0 true ≡ true) n (state_of seen work) marks none e g h (starts_first n)

seen_one : (seen : List Bool) (js : List ℕ) (t : ℕ) → AllSeen seen js → IsOneOf t js → get_or seen t true ≡ true
seen_one seen [] t h o = absurd o
seen_one seen (j ∷ js) t h (inl e) = subst (λ n. get_or seen n true ≡ true) (sym e) h.0
seen_one seen (j ∷ js) t h (inr o) = seen_one seen js t h.1 o

all_jumps : (seen : List Bool) (s : ℕ) (ways : Ways) → AllSeen seen (next_of s ways) → AllSeen seen ways.jumps
all_jumps seen s ways h = by ways.falls h
  where
    by : (b : Bool) → AllSeen seen (cond b (suc s ∷ ways.jumps) ways.jumps) → AllSeen seen ways.jumps
    by true g = g.1
    by false g = g

next_seen : (seen : List Bool) (s : ℕ) (ways : Ways) → AllSeen seen (next_of s ways) → ways.falls ≡ true → get_or seen (suc s) true ≡ true
next_seen seen s ways h e = by ways.falls e h
  where
    by : (b : Bool) → b ≡ true → AllSeen seen (cond b (suc s ∷ ways.jumps) ways.jumps) → get_or seen (suc s) true ≡ true
    by true f g = g.0
    by false f g = absurd cc

all_found : (blocks : List Ways) (seen : List Bool) → IsClosedButFor blocks (state_of seen []) → get_or seen 0 true ≡ true → (i : ℕ) → IsReached blocks i
    → get_or seen i true ≡ true
all_found blocks seen h z i first = z
all_found blocks seen h z i (jump {s = s} {t = t} r j) =
    seen_one seen j.0.jumps t (all_jumps seen s j.0 (closed s j.0 (h s j.0 j.1 (all_found blocks seen h z s r)))) j.2
  where
    closed : (s : ℕ) (ways : Ways) → IsOneOf s [] ⊎ AllSeen seen (next_of s ways) → AllSeen seen (next_of s ways)
    closed s ways (inl o) = absurd o
    closed s ways (inr a) = a
all_found blocks seen h z i (fall {s = s} r j) = next_seen seen s j.0 (closed s j.0 (h s j.0 j.1 (all_found blocks seen h z s r))) j.2
  where
    closed : (s : ℕ) (ways : Ways) → IsOneOf s [] ⊎ AllSeen seen (next_of s ways) → AllSeen seen (next_of s ways)
    closed s ways (inl o) = absurd o
    closed s ways (inr a) = a

-- where the search has gone on from all that it has found
pub are_reached : (blocks : List Ways) (seen : List Bool) (work : List ℕ) → work ≡ [] → IsSound blocks (state_of seen work)
    → IsClosedButFor blocks (state_of seen work) → get_or seen 0 true ≡ true → AreReached blocks seen
are_reached blocks seen work none s h z = record {
  size = s.size;
  sound = s.seen;
  complete = all_found blocks seen (subst (λ w. IsClosedButFor blocks (state_of seen w)) none h) z;
}
