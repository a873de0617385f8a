-- Spans tell over which points jumps pass, and cuts are the points over which none passes.
use Rattle.std.proofs.Common.{◌≡◌, ◌⊎◌, ℕ, zero, suc, ◌+◌, ◌<◌, ◌≤◌, min, max, Bool, true, false, leb, List, [], ◌∷◌, ◌++◌, Option, Some, None, fold, get_or, length, replicate, slice_get, slice_set, inl, inr, refl, sym, ap, subst, ◌∙◌, arith, add-zero, length-set}
use Rattle.std.specs.Prelude.{if◌then◌else◌, nat_le}
use Rattle.std.specs.Option.{option_map}
use Rattle.std.proofs.lemmas.Bool.{leb-true, leb-false}
use Rattle.std.proofs.lemmas.Option.{none-some, same_Some, slice_get-map, slice_get_within}
use Rattle.std.proofs.lemmas.List.{get_or-replicate, get_or-set_same, length-map, length-replicate}
use Rattle.stl_tree.specs.Segments.{AreAscending, AreAscendingAfter, AreCuts, IsCut, IsOneOf, IsReached, JumpsTo, PassesOver, Ways}
use Rattle.flow_graph.specs.Graphs.{ways_after, ways_of}
use Rattle.flow_graph.specs.Reached.{AreReached}
use Rattle.flow_graph.specs.declared.graph.Exit.{Exit}
use Rattle.flow_graph.proofs.Reaching.{ways_at}
use Rattle.flow_graph.specs.inner.Spans.{cuts_from, note, note_exit, spans_from}

-- One more value in a list

set_grows : (xs : List ℕ) (i k v : ℕ) → get_or xs i 0 ≤ v → get_or xs k 0 ≤ get_or (slice_set xs i v) k 0
set_grows [] i k v h = omega arith
set_grows (x ∷ xs) zero zero v h = h
set_grows (x ∷ xs) zero (suc k) v h = omega arith
set_grows (x ∷ xs) (suc i) zero v h = omega arith
set_grows (x ∷ xs) (suc i) (suc k) v h = set_grows xs i k v h

set_cases : (xs : List ℕ) (i k v : ℕ) → (get_or (slice_set xs i v) k 0 ≡ get_or xs k 0) ⊎ ((i ≡ k) × (get_or (slice_set xs i v) k 0 ≡ v))
set_cases [] i k v = inl refl
set_cases (x ∷ xs) zero zero v = inr (refl, refl)
set_cases (x ∷ xs) zero (suc k) v = inl refl
set_cases (x ∷ xs) (suc i) zero v = inl refl
set_cases (x ∷ xs) (suc i) (suc k) v = by (set_cases xs i k v)
  where
    by : (get_or (slice_set xs i v) k 0 ≡ get_or xs k 0) ⊎ ((i ≡ k) × (get_or (slice_set xs i v) k 0 ≡ v))
        → (get_or (slice_set xs i v) k 0 ≡ get_or xs k 0) ⊎ ((suc i ≡ suc k) × (get_or (slice_set xs i v) k 0 ≡ v))
    by (inl e) = inl e
    by (inr e) = inr (ap suc e.0, e.1)

greater : (a b : ℕ) → a ≤ max a b
greater a b = omega arith

greater_right : (a b : ℕ) → b ≤ max a b
greater_right a b = omega arith

one_of_both : (a b : ℕ) → (max a b ≡ a) ⊎ (max a b ≡ b)
one_of_both a b = by (leb b a) refl
  where
    by : (t : Bool) → leb b a ≡ t → (max a b ≡ a) ⊎ (max a b ≡ b)
    by true e = let h : b ≤ a = leb-true b a e in inl (omega (arith, h))
    by false e = let h : a < b = leb-false b a e in inr (omega (arith, h))

-- A jump

length_note : (from : ℕ) (spans : List ℕ) (to : ℕ) → length (note from spans to) ≡ length spans
length_note from spans to = length-set spans (min from to) (max (get_or spans (min from to) 0) (max to (suc from)))

grows : (from : ℕ) (spans : List ℕ) (to k : ℕ) → get_or spans k 0 ≤ get_or (note from spans to) k 0
grows from spans to k =
    set_grows spans (min from to) k (max (get_or spans (min from to) 0) (max to (suc from))) (greater (get_or spans (min from to) 0) (max to (suc from)))

noted : (from : ℕ) (spans : List ℕ) (to : ℕ) → from < length spans → max to (suc from) ≤ get_or (note from spans to) (min from to) 0
noted from spans to h =
    let v : ℕ = max (get_or spans (min from to) 0) (max to (suc from)) in
    let inside : min from to < length spans = omega (arith, h) in
    subst (λ n. max to (suc from) ≤ n) (sym (get_or-set_same spans (min from to) v 0 inside)) (greater_right (get_or spans (min from to) 0) (max to (suc from)))

-- a jump from a node has its lesser end at a node, and its greatest point
abbrev IsFrom : ℕ → ℕ → ℕ → ℕ → Type 0
IsFrom from to k end = (min from to ≡ k) × (max to (suc from) ≡ end)

noted_or : (from : ℕ) (spans : List ℕ) (to k : ℕ)
    → (get_or (note from spans to) k 0 ≡ get_or spans k 0) ⊎ IsFrom from to k (get_or (note from spans to) k 0)
noted_or from spans to k = by (set_cases spans (min from to) k v) (one_of_both old end)
  where
    old : ℕ
    old = get_or spans (min from to) 0

    end : ℕ
    end = max to (suc from)

    v : ℕ
    v = max old end

    by : (get_or (note from spans to) k 0 ≡ get_or spans k 0) ⊎ ((min from to ≡ k) × (get_or (note from spans to) k 0 ≡ v))
        → (v ≡ old) ⊎ (v ≡ end)
        → (get_or (note from spans to) k 0 ≡ get_or spans k 0) ⊎ IsFrom from to k (get_or (note from spans to) k 0)
    by (inl e) g = inl e
    by (inr e) (inl g) = inl (e.1 ∙ g ∙ ap (λ n. get_or spans n 0) e.0)
    by (inr e) (inr g) = inr (e.0, sym (e.1 ∙ g))

-- The jumps of a node

length_all : (from : ℕ) (tos : List ℕ) (spans : List ℕ) → length (fold (note from) spans tos) ≡ length spans
length_all from [] spans = refl
length_all from (to ∷ tos) spans = length_all from tos (note from spans to) ∙ length_note from spans to

all_grow : (from : ℕ) (tos : List ℕ) (spans : List ℕ) (k : ℕ) → get_or spans k 0 ≤ get_or (fold (note from) spans tos) k 0
all_grow from [] spans k = omega arith
all_grow from (to ∷ tos) spans k =
    let a : get_or spans k 0 ≤ get_or (note from spans to) k 0 = grows from spans to k in
    let b : get_or (note from spans to) k 0 ≤ get_or (fold (note from) (note from spans to) tos) k 0 = all_grow from tos (note from spans to) k in
    omega (arith, a, b)

all_noted : (from : ℕ) (tos : List ℕ) (spans : List ℕ) (t : ℕ) → IsOneOf t tos → from < length spans
    → max t (suc from) ≤ get_or (fold (note from) spans tos) (min from t) 0
all_noted from [] spans t o h = absurd o
all_noted from (to ∷ tos) spans t (inl e) h =
    let a : max to (suc from) ≤ get_or (note from spans to) (min from to) 0 = noted from spans to h in
    let b : get_or (note from spans to) (min from to) 0 ≤ get_or (fold (note from) (note from spans to) tos) (min from to) 0 =
    all_grow from tos (note from spans to) (min from to) in
    let both : max to (suc from) ≤ get_or (fold (note from) (note from spans to) tos) (min from to) 0 = omega (arith, a, b) in
    subst (λ n. max n (suc from) ≤ get_or (fold (note from) (note from spans to) tos) (min from n) 0) (sym e) both
all_noted from (to ∷ tos) spans t (inr o) h =
    all_noted from tos (note from spans to) t o (subst (λ n. from < n) (sym (length_note from spans to)) h)

abbrev OneIsFrom : ℕ → List ℕ → ℕ → ℕ → Type 0
OneIsFrom from tos k end = (t : ℕ) × IsOneOf t tos × IsFrom from t k end

all_noted_or : (from : ℕ) (tos : List ℕ) (spans : List ℕ) (k : ℕ)
    → (get_or (fold (note from) spans tos) k 0 ≡ get_or spans k 0) ⊎ OneIsFrom from tos k (get_or (fold (note from) spans tos) k 0)
all_noted_or from [] spans k = inl refl
all_noted_or from (to ∷ tos) spans k = by (all_noted_or from tos (note from spans to) k) (noted_or from spans to k)
  where
    last : ℕ
    last = get_or (fold (note from) (note from spans to) tos) k 0

    by : (last ≡ get_or (note from spans to) k 0) ⊎ OneIsFrom from tos k last
        → (get_or (note from spans to) k 0 ≡ get_or spans k 0) ⊎ IsFrom from to k (get_or (note from spans to) k 0)
        → (last ≡ get_or spans k 0) ⊎ OneIsFrom from (to ∷ tos) k last
    by (inr o) g = inr (o.0, inr o.1, o.2)
    by (inl e) (inl g) = inl (e ∙ g)
    by (inl e) (inr g) = inr (to, inl refl, (g.0, g.1 ∙ sym e))

-- All nodes that are reached

length_exit : (r : Bool) (from : ℕ) (exit : Exit) (spans : List ℕ) → length (note_exit r from exit spans) ≡ length spans
length_exit true from exit spans = length_all from (ways_of exit).jumps spans
length_exit false from exit spans = refl

length_spans : (reached : List Bool) (from : ℕ) (exits : List Exit) (spans : List ℕ) → length (spans_from reached from exits spans) ≡ length spans
length_spans reached from [] spans = refl
length_spans reached from (exit ∷ rest) spans =
    length_spans reached (suc from) rest (note_exit (get_or reached from true) from exit spans) ∙ length_exit (get_or reached from true) from exit spans

exit_grows : (r : Bool) (from : ℕ) (exit : Exit) (spans : List ℕ) (k : ℕ) → get_or spans k 0 ≤ get_or (note_exit r from exit spans) k 0
exit_grows true from exit spans k = all_grow from (ways_of exit).jumps spans k
exit_grows false from exit spans k = omega arith

exits_grow : (reached : List Bool) (from : ℕ) (exits : List Exit) (spans : List ℕ) (k : ℕ)
    → get_or spans k 0 ≤ get_or (spans_from reached from exits spans) k 0
exits_grow reached from [] spans k = omega arith
exits_grow reached from (exit ∷ rest) spans k =
    let now : List ℕ = note_exit (get_or reached from true) from exit spans in
    let a : get_or spans k 0 ≤ get_or (note_exit (get_or reached from true) from exit spans) k 0 =
    exit_grows (get_or reached from true) from exit spans k in
    let b : get_or (note_exit (get_or reached from true) from exit spans) k 0
    ≤ get_or (spans_from reached (suc from) rest (note_exit (get_or reached from true) from exit spans)) k 0 =
    exits_grow reached (suc from) rest (note_exit (get_or reached from true) from exit spans) k in
    omega (arith, a, b)

exit_noted : (r : Bool) (from : ℕ) (exit : Exit) (spans : List ℕ) (t : ℕ) → r ≡ true → IsOneOf t (ways_of exit).jumps → from < length spans
    → max t (suc from) ≤ get_or (note_exit r from exit spans) (min from t) 0
exit_noted true from exit spans t e o h = all_noted from (ways_of exit).jumps spans t o h
exit_noted false from exit spans t e o h = absurd cc

-- each jump of a node that is reached is noted
exits_noted : (reached : List Bool) (from : ℕ) (exits : List Exit) (spans : List ℕ) (i : ℕ) (exit : Exit) (t : ℕ) → slice_get exits i ≡ Some exit
    → get_or reached (from + i) true ≡ true → IsOneOf t (ways_of exit).jumps → from + i < length spans
    → max t (suc (from + i)) ≤ get_or (spans_from reached from exits spans) (min (from + i) t) 0
exits_noted reached from [] spans i exit t e r o h = absurd (none-some exit e)
exits_noted reached from (first ∷ rest) spans zero exit t e r o h =
    let same : from + 0 ≡ from = add-zero from in
    let is : first ≡ exit = same_Some first exit e in
    let now : List ℕ = note_exit (get_or reached from true) from first spans in
    let a : max t (suc from) ≤ get_or (note_exit (get_or reached from true) from first spans) (min from t) 0 =
    exit_noted (get_or reached from true) from first spans t (subst (λ n. get_or reached n true ≡ true) same r)
    (subst (λ (x : Exit). IsOneOf t (ways_of x).jumps) (sym is) o) (subst (λ n. n < length spans) same h) in
    let b : get_or (note_exit (get_or reached from true) from first spans) (min from t) 0
    ≤ get_or (spans_from reached (suc from) rest (note_exit (get_or reached from true) from first spans)) (min from t) 0 =
    exits_grow reached (suc from) rest (note_exit (get_or reached from true) from first spans) (min from t) in
    let both : max t (suc from) ≤ get_or (spans_from reached (suc from) rest (note_exit (get_or reached from true) from first spans)) (min from t) 0 =
    omega (arith, a, b) in
    subst (λ n. max t (suc n) ≤ get_or (spans_from reached (suc from) rest (note_exit (get_or reached from true) from first spans)) (min n t) 0)
    (sym same) both
exits_noted reached from (first ∷ rest) spans (suc i) exit t e r o h =
    let same : suc from + i ≡ from + suc i = omega arith in
    let now : List ℕ = note_exit (get_or reached from true) from first spans in
    let size : length (note_exit (get_or reached from true) from first spans) ≡ length spans =
    length_exit (get_or reached from true) from first spans in
    let inside : suc from + i < length (note_exit (get_or reached from true) from first spans) = omega (arith, size, h) in
    subst (λ n. max t (suc n) ≤ get_or (spans_from reached (suc from) rest (note_exit (get_or reached from true) from first spans)) (min n t) 0) same
    (exits_noted reached (suc from) rest (note_exit (get_or reached from true) from first spans) i exit t e
    (subst (λ n. get_or reached n true ≡ true) (sym same) r) o inside)

-- a jump of a node that is reached, with its lesser end and its greatest point
record IsNoted (reached : List Bool) (from : ℕ) (exits : List Exit) (k end : ℕ) : Type 0 where
  number : ℕ
  exit : Exit
  to : ℕ
  there : slice_get exits number ≡ Some exit
  seen : get_or reached (from + number) true ≡ true
  jumps : IsOneOf to (ways_of exit).jumps
  ends : IsFrom (from + number) to k end

exit_noted_or : (r : Bool) (from : ℕ) (exit : Exit) (spans : List ℕ) (k : ℕ) → (get_or (note_exit r from exit spans) k 0 ≡ get_or spans k 0)
    ⊎ ((r ≡ true) × OneIsFrom from (ways_of exit).jumps k (get_or (note_exit r from exit spans) k 0))
exit_noted_or true from exit spans k = by (all_noted_or from (ways_of exit).jumps spans k)
  where
    by : (get_or (fold (note from) spans (ways_of exit).jumps) k 0 ≡ get_or spans k 0)
        ⊎ OneIsFrom from (ways_of exit).jumps k (get_or (fold (note from) spans (ways_of exit).jumps) k 0)
        → (get_or (fold (note from) spans (ways_of exit).jumps) k 0 ≡ get_or spans k 0)
        ⊎ ((true ≡ true) × OneIsFrom from (ways_of exit).jumps k (get_or (fold (note from) spans (ways_of exit).jumps) k 0))
    by (inl e) = inl e
    by (inr o) = inr (refl, o)
exit_noted_or false from exit spans k = inl refl

-- what is noted is a jump of a node that is reached
exits_noted_or : (reached : List Bool) (from : ℕ) (exits : List Exit) (spans : List ℕ) (k : ℕ)
    → (get_or (spans_from reached from exits spans) k 0 ≡ get_or spans k 0)
    ⊎ IsNoted reached from exits k (get_or (spans_from reached from exits spans) k 0)
exits_noted_or reached from [] spans k = inl refl
exits_noted_or reached from (exit ∷ rest) spans k = by (exits_noted_or reached (suc from) rest now k) (exit_noted_or r from exit spans k)
  where
    r : Bool
    r = get_or reached from true

    now : List ℕ
    now = note_exit (get_or reached from true) from exit spans

    last : ℕ
    last = get_or (spans_from reached (suc from) rest (note_exit (get_or reached from true) from exit spans)) k 0

    by : (last ≡ get_or now k 0) ⊎ IsNoted reached (suc from) rest k last
        → (get_or now k 0 ≡ get_or spans k 0) ⊎ ((r ≡ true) × OneIsFrom from (ways_of exit).jumps k (get_or now k 0))
        → (last ≡ get_or spans k 0) ⊎ IsNoted reached from (exit ∷ rest) k last
    by (inr o) g =
        let same : suc from + o.number ≡ from + suc o.number = omega arith in
        inr (record {
          number = suc o.number;
          exit = o.exit;
          to = o.to;
          there = o.there;
          seen = subst (λ n. get_or reached n true ≡ true) same o.seen;
          jumps = o.jumps;
          ends = subst (λ n. IsFrom n o.to k last) same o.ends;
        })
    by (inl e) (inl g) = inl (e ∙ g)
    by (inl e) (inr g) =
        let same : from ≡ from + 0 = sym (add-zero from) in
        inr (record {
          number = 0;
          exit = exit;
          to = g.1.0;
          there = refl;
          seen = subst (λ n. get_or reached n true ≡ true) same g.0;
          jumps = g.1.1;
          ends = subst (λ n. IsFrom n g.1.0 k last) same (g.1.2.0, g.1.2.1 ∙ sym e);
        })

-- Points over which no span reaches

record IsFree (until at : ℕ) (spans : List ℕ) (i : ℕ) : Type 0 where
  there : i < length spans
  past : until ≤ at + i
  before : (k : ℕ) → k < i → get_or spans k 0 ≤ at + i

free_first : (until at span : ℕ) (rest : List ℕ) → until ≤ at → IsFree until at (span ∷ rest) 0
free_first until at span rest h = record {
  there = omega arith;
  past = omega (arith, h);
  before = λ k l. absurd (omega (arith, l));
}

free_next : (until at span : ℕ) (rest : List ℕ) (i : ℕ) → IsFree (max until span) (suc at) rest i → IsFree until at (span ∷ rest) (suc i)
free_next until at span rest i f =
    let past : max until span ≤ suc at + i = f.past in
    record {
      there = omega (arith, f.there);
      past = omega (arith, past);
      before = before past;
    }
  where
    before : max until span ≤ suc at + i → (k : ℕ) → k < suc i → get_or (span ∷ rest) k 0 ≤ at + suc i
    before past zero l = omega (arith, past)
    before past (suc k) l = let h : get_or rest k 0 ≤ suc at + i = f.before k (omega (arith, l)) in omega (arith, h)

free_rest : (until at span : ℕ) (rest : List ℕ) (i : ℕ) → IsFree until at (span ∷ rest) (suc i) → IsFree (max until span) (suc at) rest i
free_rest until at span rest i f =
    let first : span ≤ at + suc i = f.before 0 (omega arith) in
    let past : until ≤ at + suc i = f.past in
    record {
      there = omega (arith, f.there);
      past = omega (arith, first, past);
      before = λ k l. let h : get_or rest k 0 ≤ at + suc i = f.before (suc k) (omega (arith, l)) in omega (arith, h);
    }

cuts_sound : (until at : ℕ) (spans : List ℕ) (q : ℕ) → IsOneOf q (cuts_from until at spans) → (i : ℕ) × (q ≡ at + i) × IsFree until at spans i
cuts_sound until at [] q o = absurd o
cuts_sound until at (span ∷ rest) q o = by (λ p. later (cuts_sound (max until span) (suc at) rest q p)) (nat_le until at) refl o
  where
    later : (i : ℕ) × (q ≡ suc at + i) × IsFree (max until span) (suc at) rest i → (i : ℕ) × (q ≡ at + i) × IsFree until at (span ∷ rest) i
    later r = let e : q ≡ suc at + r.0 = r.1 in (suc r.0, omega (arith, e), free_next until at span rest r.0 r.2)

    by : (IsOneOf q (cuts_from (max until span) (suc at) rest) → (i : ℕ) × (q ≡ at + i) × IsFree until at (span ∷ rest) i)
        → (t : Bool) → nat_le until at ≡ t → IsOneOf q ((if t then at ∷ [] else []) ++ cuts_from (max until span) (suc at) rest)
        → (i : ℕ) × (q ≡ at + i) × IsFree until at (span ∷ rest) i
    by more true e (inl same) = (0, omega (arith, same), free_first until at span rest (leb-true until at e))
    by more true e (inr p) = more p
    by more false e p = more p

cuts_complete : (until at : ℕ) (spans : List ℕ) (i : ℕ) → IsFree until at spans i → IsOneOf (at + i) (cuts_from until at spans)
cuts_complete until at [] i f = absurd (omega (arith, f.there))
cuts_complete until at (span ∷ rest) zero f = by (nat_le until at) refl
  where
    by : (t : Bool) → nat_le until at ≡ t → IsOneOf (at + 0) ((if t then at ∷ [] else []) ++ cuts_from (max until span) (suc at) rest)
    by true e = inl (add-zero at)
    by false e = let h : at < until = leb-false until at e in let p : until ≤ at + 0 = f.past in absurd (omega (arith, h, p))
cuts_complete until at (span ∷ rest) (suc i) f =
    let e : suc at + i ≡ at + suc i = omega arith in
    by (subst (λ n. IsOneOf n (cuts_from (max until span) (suc at) rest)) e
    (cuts_complete (max until span) (suc at) rest i (free_rest until at span rest i f))) (nat_le until at)
  where
    by : IsOneOf (at + suc i) (cuts_from (max until span) (suc at) rest) → (t : Bool)
        → IsOneOf (at + suc i) ((if t then at ∷ [] else []) ++ cuts_from (max until span) (suc at) rest)
    by more true = inr more
    by more false = more

cuts_ascend : (n until at : ℕ) (spans : List ℕ) → n < at → AreAscendingAfter n (cuts_from until at spans)
cuts_ascend n until at [] h = tt
cuts_ascend n until at (span ∷ rest) h =
    by (cuts_ascend at (max until span) (suc at) rest (omega arith)) (cuts_ascend n (max until span) (suc at) rest (omega (arith, h))) (nat_le until at)
  where
    by : AreAscendingAfter at (cuts_from (max until span) (suc at) rest) → AreAscendingAfter n (cuts_from (max until span) (suc at) rest)
        → (t : Bool) → AreAscendingAfter n ((if t then at ∷ [] else []) ++ cuts_from (max until span) (suc at) rest)
    by here later true = (h, here)
    by here later false = later

ascend : (until at : ℕ) (spans : List ℕ) → AreAscending (cuts_from until at spans)
ascend until at [] = tt
ascend until at (span ∷ rest) = by (ascend (max until span) (suc at) rest) (nat_le until at)
  where
    by : AreAscending (cuts_from (max until span) (suc at) rest) → (t : Bool)
        → AreAscending ((if t then at ∷ [] else []) ++ cuts_from (max until span) (suc at) rest)
    by later true = cuts_ascend at (max until span) (suc at) rest (omega arith)
    by later false = later

-- Cuts

-- the points over which a jump passes are after its lesser end and before its greatest point
passes_between : (s t q : ℕ) → PassesOver s t q → (min s t < q) × (q < max t (suc s))
passes_between s t q (inl h) = (omega (arith, h.0, h.1), omega (arith, h.0, h.1))
passes_between s t q (inr h) = (omega (arith, h.0, h.1), omega (arith, h.0, h.1))

between_passes : (s t q : ℕ) → min s t < q → q < max t (suc s) → PassesOver s t q
between_passes s t q a b = by (leb t s) refl
  where
    by : (r : Bool) → leb t s ≡ r → PassesOver s t q
    by true e = let h : t ≤ s = leb-true t s e in inr (omega (arith, a, b, h), omega (arith, a, b, h))
    by false e = let h : s < t = leb-false t s e in inl (omega (arith, a, b, h), omega (arith, a, b, h))

exit_of_ways : (exits : List Exit) (s : ℕ) (ways : Ways) → slice_get (ways_after exits) s ≡ Some ways
    → (exit : Exit) × (slice_get exits s ≡ Some exit) × (ways_of exit ≡ ways)
exit_of_ways exits s ways e = by (slice_get exits s) refl (sym (slice_get-map ways_of exits s) ∙ e)
  where
    by : (o : Option Exit) → slice_get exits s ≡ o → option_map ways_of o ≡ Some ways
        → (exit : Exit) × (slice_get exits s ≡ Some exit) × (ways_of exit ≡ ways)
    by None f g = absurd (none-some ways g)
    by (Some exit) f g = (exit, f, same_Some (ways_of exit) ways g)

-- spans before any jump is noted
abbrev no_spans : List Exit → List ℕ
no_spans exits = replicate (length exits) 0

-- the spans of nodes of which it is known whether they are reached
abbrev spans_of : List Bool → List Exit → List ℕ
spans_of reached exits = spans_from reached 0 exits (replicate (length exits) 0)

size_of_spans : (reached : List Bool) (exits : List Exit) → length (spans_of reached exits) ≡ length exits
size_of_spans reached exits = length_spans reached 0 exits (replicate (length exits) 0) ∙ length-replicate (length exits) 0

size_of_ways : (exits : List Exit) → length (ways_after exits) ≡ length exits
size_of_ways exits = length-map exits ways_of

free_is_cut : (reached : List Bool) (exits : List Exit) → AreReached (ways_after exits) reached → (q : ℕ) → IsFree 0 0 (spans_of reached exits) q
    → IsCut (ways_after exits) q
free_is_cut reached exits known q f = record {
  there =
      let a : length (spans_of reached exits) ≡ length exits = size_of_spans reached exits in
      let b : length (ways_after exits) ≡ length exits = size_of_ways exits in
      omega (arith, f.there, a, b);
  free = λ s t r j p. not_passed s t r j (exit_of_ways exits s j.0 j.1) p;
}
  where
    not_passed : (s t : ℕ) → IsReached (ways_after exits) s → (j : JumpsTo (ways_after exits) s t)
        → (exit : Exit) × (slice_get exits s ≡ Some exit) × (ways_of exit ≡ j.0) → PassesOver s t q → ⊥
    not_passed s t r j n p =
        let same : 0 + s ≡ s = omega arith in
        let there : s < length exits = slice_get_within exits s n.0 n.1 in
        let size : length (no_spans exits) ≡ length exits = length-replicate (length exits) 0 in
        let seen : get_or reached (0 + s) true ≡ true = subst (λ m. get_or reached m true ≡ true) (sym same) (known.complete s r) in
        let inside : 0 + s < length (no_spans exits) = omega (arith, there, size) in
        let one : IsOneOf t (ways_of n.0).jumps = subst (λ (w : Ways). IsOneOf t w.jumps) (sym n.2) j.2 in
        let noted : max t (suc s) ≤ get_or (spans_of reached exits) (min s t) 0 =
        subst (λ m. max t (suc m) ≤ get_or (spans_of reached exits) (min m t) 0) same
        (exits_noted reached 0 exits (replicate (length exits) 0) s n.0 t n.1 seen one inside) in
        let b = passes_between s t q p in
        let low : get_or (spans_of reached exits) (min s t) 0 ≤ 0 + q = f.before (min s t) b.0 in
        let high : q < max t (suc s) = b.1 in
        omega (arith, noted, low, high)

cut_is_free : (reached : List Bool) (exits : List Exit) → AreReached (ways_after exits) reached → (q : ℕ) → IsCut (ways_after exits) q
    → IsFree 0 0 (spans_of reached exits) q
cut_is_free reached exits known q cut = record {
  there = omega (arith, size_of_spans reached exits, there);
  past = omega arith;
  before = λ k l. by k l (leb (get_or (spans_of reached exits) k 0) q) refl;
}
  where
    there : q < length exits
    there = let b : length (ways_after exits) ≡ length exits = size_of_ways exits in omega (arith, cut.there, b)

    passed : (k : ℕ) → k < q → q < get_or (spans_of reached exits) k 0
        → (get_or (spans_of reached exits) k 0 ≡ get_or (no_spans exits) k 0) ⊎ IsNoted reached 0 exits k (get_or (spans_of reached exits) k 0)
        → ⊥
    passed k l h (inl e) =
        let z : get_or (no_spans exits) k 0 ≡ 0 = get_or-replicate (length exits) k 0 0 (omega (arith, l, there)) in
        omega (arith, h, e, z)
    passed k l h (inr o) =
        let same : 0 + o.number ≡ o.number = omega arith in
        let low : min o.number o.to ≡ k = subst (λ m. min m o.to ≡ k) same o.ends.0 in
        let high : max o.to (suc o.number) ≡ get_or (spans_of reached exits) k 0 =
        subst (λ m. max o.to (suc m) ≡ get_or (spans_of reached exits) k 0) same o.ends.1 in
        let seen : get_or reached o.number true ≡ true = subst (λ m. get_or reached m true ≡ true) same o.seen in
        let inside : o.number < length exits = slice_get_within exits o.number o.exit o.there in
        let b : length (ways_after exits) ≡ length exits = size_of_ways exits in
        let r : IsReached (ways_after exits) o.number = known.sound o.number (omega (arith, inside, b, known.size)) seen in
        let a : min o.number o.to < q = omega (arith, low, l) in
        let c : q < max o.to (suc o.number) = omega (arith, high, h) in
        cut.free o.number o.to r (ways_of o.exit, ways_at exits o.number o.exit o.there, o.jumps) (between_passes o.number o.to q a c)

    by : (k : ℕ) → k < q → (t : Bool) → leb (get_or (spans_of reached exits) k 0) q ≡ t → get_or (spans_of reached exits) k 0 ≤ 0 + q
    by k l true e =
        let h : get_or (spans_of reached exits) k 0 ≤ q = leb-true (get_or (spans_of reached exits) k 0) q e in omega (arith, h)
    by k l false e =
        let h : q < get_or (spans_of reached exits) k 0 = leb-false (get_or (spans_of reached exits) k 0) q e in
        absurd (passed k l h (exits_noted_or reached 0 exits (replicate (length exits) 0) k))

-- the points over which no jump of a node that is reached passes
pub are_cuts : (reached : List Bool) (exits : List Exit) (spans cuts : List ℕ) → AreReached (ways_after exits) reached
    → spans ≡ spans_from reached 0 exits (replicate (length exits) 0) → cuts ≡ cuts_from 0 0 spans → AreCuts (ways_after exits) cuts
are_cuts reached exits spans cuts known e f =
    subst (AreCuts (ways_after exits)) (sym (f ∙ ap (cuts_from 0 0) e)) (record {
      ascending = ascend 0 0 (spans_of reached exits);
      each = λ q o.
          let r = cuts_sound 0 0 (spans_of reached exits) q o in
          let same : r.0 ≡ q = let g : q ≡ 0 + r.0 = r.1 in omega (arith, g) in
          free_is_cut reached exits known q (subst (IsFree 0 0 (spans_of reached exits)) same r.2);
      all = λ q cut.
          let same : 0 + q ≡ q = omega arith in
          subst (λ n. IsOneOf n (cuts_from 0 0 (spans_of reached exits))) same
          (cuts_complete 0 0 (spans_of reached exits) q (cut_is_free reached exits known q cut));
    })

-- there are no more spans than nodes
pub size_of_spans_after : (reached : List Bool) (exits : List Exit) (spans : List ℕ)
    → spans ≡ spans_from reached 0 exits (replicate (length exits) 0) → length spans ≡ length exits
size_of_spans_after reached exits spans e = ap length e ∙ size_of_spans reached exits

-- there are as many truth values as nodes
pub size_of_reached : (exits : List Exit) (reached : List Bool) → AreReached (ways_after exits) reached → length reached ≡ length exits
size_of_reached exits reached known = known.size ∙ size_of_ways exits
