-- The first call on a cycle: numbers that fall, one more call, one more unit.
use Rattle.std.proofs.Common.{◌≡◌, ◌⊎◌, ◌<◌, ◌≤◌, ◌+◌, ℕ, zero, suc, Bool, true, false, ◌&&◌, List, [], ◌∷◌, length, get_or, slice_get, nat_le, Option, Some, None, inl, inr, refl, sym, ap, subst, ◌∙◌, arith}
use Rattle.std.proofs.lemmas.Bool.{leb-true, leb-false}
use Rattle.std.proofs.lemmas.Option.{slice_get-get_or}
use Rattle.s7_base.specs.declared.reason.Line.{Line}
use Rattle.call_chains.specs.Chain.{Graph, Reaches, OnCycle, IsFirstCycle, call_in, call_at, follow, with_call}
use Rattle.call_chains.specs.inner.Cycles.{fall, all_fall, Considers, Before, IsFirstBefore}
use Rattle.call_chains.specs.declared.call.Call.{Call}

-- Numbers

first_of : (a b : Bool) → (a && b) ≡ true → a ≡ true
first_of true b e = refl
first_of false b e = e

second_of : (a b : Bool) → (a && b) ≡ true → b ≡ true
second_of true b e = e
second_of false b e = cc

falls_at : (numbers : List ℕ) (n : ℕ) (calls : List Call) (k : ℕ) (c : Call)
    → fall numbers n calls ≡ true → slice_get calls k ≡ Some c → get_or numbers c.callee 0 ≤ n
falls_at numbers n [] k c h q = absurd cc
falls_at numbers n (d ∷ calls) zero c h q =
    let same : d ≡ c = cc in
    let here = leb-true (get_or numbers d.callee 0) n (first_of (nat_le (get_or numbers d.callee 0) n) (fall numbers n calls) h) in
    subst (λ (e : Call). get_or numbers e.callee 0 ≤ n) same here
falls_at numbers n (d ∷ calls) (suc k) c h q = falls_at numbers n calls k c (second_of (nat_le (get_or numbers d.callee 0) n) (fall numbers n calls) h) q

falls_in : (numbers : List ℕ) (graph : Graph) (i j k : ℕ) (c : Call) → all_fall numbers i graph ≡ true
    → call_at graph j k ≡ Some c → get_or numbers c.callee 0 ≤ get_or numbers (i + j) 0
falls_in numbers [] i j k c h q = absurd cc
falls_in numbers (calls ∷ graph) i zero k c h q =
    let here = falls_at numbers (get_or numbers i 0) calls k c (first_of (fall numbers (get_or numbers i 0) calls) (all_fall numbers (i + 1) graph) h) q in
    let e : i ≡ i + 0 = omega arith in
    subst (λ n. get_or numbers c.callee 0 ≤ get_or numbers n 0) e here
falls_in numbers (calls ∷ graph) i (suc j) k c h q =
    let there = falls_in numbers graph (i + 1) j k c (second_of (fall numbers (get_or numbers i 0) calls) (all_fall numbers (i + 1) graph) h) q in
    let e : i + 1 + j ≡ i + suc j = omega arith in
    subst (λ n. get_or numbers c.callee 0 ≤ get_or numbers n 0) e there

falls_along : (numbers : List ℕ) (graph : Graph) → all_fall numbers 0 graph ≡ true
    → (ks : List ℕ) (i j : ℕ) → follow graph i ks ≡ Some j → get_or numbers j 0 ≤ get_or numbers i 0
falls_along numbers graph h [] i j p = let same : i ≡ j = cc in omega (arith, ap (λ n. get_or numbers n 0) same)
falls_along numbers graph h (k ∷ ks) i j p = step (λ n. falls_along numbers graph h ks n j) (call_at graph i k) refl p
  where
    step : ((n : ℕ) → follow graph n ks ≡ Some j → get_or numbers j 0 ≤ get_or numbers n 0) → (o : Option Call) → call_at graph i k ≡ o
        → with_call o (λ c. follow graph c.callee ks) ≡ Some j → get_or numbers j 0 ≤ get_or numbers i 0
    step more None e q = absurd cc
    step more (Some c) e q =
        let one = falls_in numbers graph 0 i k c h e in
        let same : 0 + i ≡ i = omega arith in
        let here = subst (λ n. get_or numbers c.callee 0 ≤ get_or numbers n 0) same one in
        omega (arith, more c.callee q, here)

-- a call to a unit with a lesser number lies on no cycle
pub returns_not : (numbers : List ℕ) (graph : Graph) (unit callee : ℕ) → all_fall numbers 0 graph ≡ true
    → get_or numbers callee 0 < get_or numbers unit 0 → Reaches graph callee unit → ⊥
returns_not numbers graph unit callee h l r = let b = falls_along numbers graph h r.0 callee unit r.1 in omega (arith, b, l)

-- One more call

-- the order of calls
earlier : (i k j m : ℕ) → Before i (k + 1) j m → Before i k j m ⊎ ((j ≡ i) × (m ≡ k))
earlier i k j m (inl h) = inl (inl h)
earlier i k j m (inr h) = at (nat_le k m) refl
  where
    at : (t : Bool) → nat_le k m ≡ t → Before i k j m ⊎ ((j ≡ i) × (m ≡ k))
    at true e = inr (h.0, omega (arith, leb-true k m e, h.1))
    at false e = inl (inr (h.0, leb-false k m e))

same_call : (graph : Graph) (i k j m : ℕ) (c d : Call) → call_at graph i k ≡ Some c → j ≡ i → m ≡ k → OnCycle graph j m d → (d ≡ c) × Reaches graph c.callee i
same_call graph i k j m c d q e f o =
    let p : call_at graph i k ≡ Some d = subst (λ n. call_at graph n k ≡ Some d) e (subst (λ n. call_at graph j n ≡ Some d) f o.is_call) in
    let same : d ≡ c = cc in
    (same, subst (λ n. Reaches graph c.callee n) e (subst (λ (x : Call). Reaches graph x.callee j) same o.back))

-- a fact about all calls before the next one
split : {X : Type 0} (graph : Graph) (i k j m : ℕ) (c d : Call) → call_at graph i k ≡ Some c → Before i (k + 1) j m → OnCycle graph j m d
    → (Before i k j m → X) → (d ≡ c → Reaches graph c.callee i → X) → X
split {X = X} graph i k j m c d q e o before here = pick (earlier i k j m e)
  where
    pick : Before i k j m ⊎ ((j ≡ i) × (m ≡ k)) → X
    pick (inl x) = before x
    pick (inr x) = let s = same_call graph i k j m c d q x.0 x.1 o in here s.0 s.1

line_of : (a b : Line) → a ≡ b → a.0 ≡ b.0
line_of a b e = ap (λ (l : Line). l.0) e

call_line : (a b : Call) → a ≡ b → a.line.0 ≡ b.line.0
call_line a b e = ap (λ (c : Call). c.line.0) e

pub considered : (graph : Graph) (i k : ℕ) (c : Call) (old new : Option Line) → call_at graph i k ≡ Some c → IsFirstBefore graph i k old
    → Considers (Reaches graph c.callee i) c.line old new → IsFirstBefore graph i (k + 1) new
considered graph i k c None None q b h = λ j m d e o. split graph i k j m c d q e o (λ x. b j m d x o) (λ s r. h r)
considered graph i k c None (Some new) q b h = record {
  unit = i;
  number = k;
  call = c;
  cycle = record { is_call = q; back = h.0 };
  on_line = sym h.1;
  first = λ j m d e o. split graph i k j m c d q e o (λ x. absurd (b j m d x o)) (λ s r. omega (arith, line_of new c.line h.1, call_line d c s));
}
considered graph i k c (Some old) None q b h = absurd h
considered graph i k c (Some old) (Some new) q b (inl h) = record {
  unit = b.unit;
  number = b.number;
  call = b.call;
  cycle = b.cycle;
  on_line = b.on_line ∙ sym h.0;
  first =
      λ j m d e o. split graph i k j m c d q e o (λ x. omega (arith, line_of new old h.0, b.first j m d x o))
      (λ s r. omega (arith, line_of new old h.0, h.1 r, call_line d c s));
}
considered graph i k c (Some old) (Some new) q b (inr h) = record {
  unit = i;
  number = k;
  call = c;
  cycle = record { is_call = q; back = h.1 };
  on_line = sym h.0;
  first =
      λ j m d e o. split graph i k j m c d q e o (λ x. omega (arith, line_of new c.line h.0, b.first j m d x o, h.2))
      (λ s r. omega (arith, line_of new c.line h.0, call_line d c s));
}

-- one more call of a unit, as a loop goes through them
pub next_call : (graph : Graph) (i k : ℕ) (calls : List Call) (d : Call) (old new : Option Line)
    → i < length graph → get_or graph i calls ≡ calls → k < length calls
    → IsFirstBefore graph i k old → Considers (Reaches graph (get_or calls k d).callee i) (get_or calls k d).line old new → IsFirstBefore graph i (k + 1) new
next_call graph i k calls d old new h at l b s =
    let unit : slice_get graph i ≡ Some calls = slice_get-get_or graph i calls h ∙ ap (λ (c : List Call). Some c) at in
    let call : call_at graph i k ≡ Some (get_or calls k d) = ap (λ u. call_in u k) unit ∙ slice_get-get_or calls k d l in
    considered graph i k (get_or calls k d) old new call b s

-- One more unit

in_range : {X : Type 0} (xs : List X) (i : ℕ) (x : X) → slice_get xs i ≡ Some x → i < length xs
in_range [] i x h = absurd cc
in_range (y ∷ xs) zero x h = omega arith
in_range (y ∷ xs) (suc i) x h = omega (arith, in_range xs i x h)

pub unit_in_range : (graph : Graph) (i k : ℕ) (c : Call) → call_at graph i k ≡ Some c → i < length graph
unit_in_range graph i k c h = at (slice_get graph i) refl h
  where
    at : (u : Option (List Call)) → slice_get graph i ≡ u → call_in u k ≡ Some c → i < length graph
    at None e q = absurd cc
    at (Some calls) e q = in_range graph i calls e

call_in_range : (graph : Graph) (i k : ℕ) (c : Call) (calls : List Call) → slice_get graph i ≡ Some calls → call_at graph i k ≡ Some c → k < length calls
call_in_range graph i k c calls e h = in_range calls k c (sym (ap (λ u. call_in u k) e) ∙ h)

widened : (graph : Graph) (i k a b : ℕ) (best : Option Line) → ((j m : ℕ) (c : Call) → OnCycle graph j m c → Before a b j m → Before i k j m)
    → IsFirstBefore graph i k best → IsFirstBefore graph a b best
widened graph i k a b None w f = λ j m c e o. f j m c (w j m c o e) o
widened graph i k a b (Some line) w f = record {
  unit = f.unit;
  number = f.number;
  call = f.call;
  cycle = f.cycle;
  on_line = f.on_line;
  first = λ j m c e o. f.first j m c (w j m c o e) o;
}

pub next_unit : (graph : Graph) (i : ℕ) (calls : List Call) (best : Option Line) → i < length graph → get_or graph i calls ≡ calls
    → IsFirstBefore graph i (length calls) best → IsFirstBefore graph (i + 1) 0 best
next_unit graph i calls best h at f = widened graph i (length calls) (i + 1) 0 best within f
  where
    unit : slice_get graph i ≡ Some calls
    unit = slice_get-get_or graph i calls h ∙ ap (λ (c : List Call). Some c) at

    place : (j m : ℕ) (c : Call) (t : Bool) → nat_le i j ≡ t → OnCycle graph j m c → j < i + 1 → Before i (length calls) j m
    place j m c true e o l =
        let same : j ≡ i = omega (arith, leb-true i j e, l) in
        inr (same, call_in_range graph i m c calls unit (subst (λ n. call_at graph n m ≡ Some c) same o.is_call))
    place j m c false e o l = inl (leb-false i j e)

    within : (j m : ℕ) (c : Call) → OnCycle graph j m c → Before (i + 1) 0 j m → Before i (length calls) j m
    within j m c o (inl l) = place j m c (nat_le i j) refl o l
    within j m c o (inr p) = absurd (omega (arith, p.1))

-- All units

pub first_of_units : (graph : Graph) (best : Option Line) → IsFirstBefore graph (length graph) 0 best → IsFirstCycle graph best
first_of_units graph None f = λ j m c o. f j m c (inl (unit_in_range graph j m c o.is_call)) o
first_of_units graph (Some line) f = record {
  unit = f.unit;
  number = f.number;
  call = f.call;
  cycle = f.cycle;
  on_line = f.on_line;
  first = λ j m c o. f.first j m c (inl (unit_in_range graph j m c o.is_call)) o;
}

-- before the first call there is none
pub none_before : (graph : Graph) → IsFirstBefore graph 0 0 None
none_before graph = λ j m c e o. at j m e
  where
    at : (j m : ℕ) → Before 0 0 j m → ⊥
    at j m (inl h) = absurd (omega (arith, h))
    at j m (inr h) = absurd (omega (arith, h.1))
