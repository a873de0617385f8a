-- The first of the calls that make no number less is the first on a cycle, if it lies on one.
use Rattle.std.proofs.Common.{◌≡◌, ◌<◌, ◌≤◌, ◌+◌, ℕ, zero, suc, Bool, true, false, if◌then◌else◌, List, [], ◌∷◌, length, get_or, slice_get, nat_le, Option, Some, None, refl, sym, ap, subst, ◌∙◌, arith}
use Rattle.std.specs.Prelude.{IfSome}
use Rattle.std.specs.List.{fold}
use Rattle.std.proofs.lemmas.Bool.{leb-true, leb-false}
use Rattle.call_chains.proofs.Cycles.{returns_not, unit_in_range}
use Rattle.call_chains.specs.Chain.{Graph, IsFirstCycle, NoCycle, OnCycle, Reaches, call_at}
use Rattle.call_chains.specs.declared.call.Call.{Call}
use Rattle.call_chains.specs.declared.candidate.Candidate.{Candidate}
use Rattle.call_chains.specs.inner.Cycles.{all_fall, candidate_from, candidate_with, may_return, or_sooner}

-- a candidate on a line or on one before it
abbrev IsBy : ℕ → Option Candidate → Type 0
IsBy n o = (f : Candidate) × (o ≡ Some f) × (f.call.line.0 ≤ n)

-- One more call

module _ (numbers : List ℕ) where
  sooner_stays : (n : ℕ) (first : Option Candidate) (new : Candidate) → IsBy n first → IsBy n (or_sooner first new)
  sooner_stays n None new h = let none = h.1 in absurd cc
  sooner_stays n (Some g) new h = by (nat_le g.call.line.0 new.call.line.0) refl
    where
      low : g.call.line.0 ≤ n
      low =
          let same : g ≡ h.0 = same_of h.1 in
          let line : g.call.line.0 ≡ h.0.call.line.0 = ap (λ (x : Candidate). x.call.line.0) same in
          let least = h.2 in omega (arith, line, least)
        where
          same_of : {a b : Candidate} → Some a ≡ Some b → a ≡ b
          same_of e = cc

      by : (b : Bool) → nat_le g.call.line.0 new.call.line.0 ≡ b → IsBy n (if b then Some g else Some new)
      by true e = (g, refl, low)
      by false e = (new, refl, omega (arith, low, leb-false g.call.line.0 new.call.line.0 e))

  sooner_comes : (first : Option Candidate) (new : Candidate) → IsBy new.call.line.0 (or_sooner first new)
  sooner_comes None new = (new, refl, omega arith)
  sooner_comes (Some g) new = by (nat_le g.call.line.0 new.call.line.0) refl
    where
      by : (b : Bool) → nat_le g.call.line.0 new.call.line.0 ≡ b → IsBy new.call.line.0 (if b then Some g else Some new)
      by true e = (g, refl, leb-true g.call.line.0 new.call.line.0 e)
      by false e = (new, refl, omega arith)

  one_stays : (n unit : ℕ) (first : Option Candidate) (c : Call) → IsBy n first → IsBy n (candidate_with numbers unit first c)
  one_stays n unit first c h = by (may_return numbers unit c)
    where
      by : (b : Bool) → IsBy n (if b then or_sooner first (record { unit = unit; call = c }) else first)
      by true = sooner_stays n first (record { unit = unit; call = c }) h
      by false = h

  one_comes : (unit : ℕ) (first : Option Candidate) (c : Call) → may_return numbers unit c ≡ true
      → IsBy c.line.0 (candidate_with numbers unit first c)
  one_comes unit first c e =
      subst (λ b. IsBy c.line.0 (if b then or_sooner first (record { unit = unit; call = c }) else first)) (sym e)
      (sooner_comes first (record { unit = unit; call = c }))

  one_is : (Q : Candidate → Type 0) (unit : ℕ) (first : Option Candidate) (c : Call) → IfSome first Q → Q (record { unit = unit; call = c })
      → IfSome (candidate_with numbers unit first c) Q
  one_is Q unit first c h q = by (may_return numbers unit c) first h
    where
      pick : (g : Candidate) (b : Bool) → Q g → IfSome (if b then Some g else Some (record { unit = unit; call = c })) Q
      pick g true k = k
      pick g false k = q

      by : (b : Bool) (o : Option Candidate) → IfSome o Q → IfSome (if b then or_sooner o (record { unit = unit; call = c }) else o) Q
      by true None k = q
      by true (Some g) k = pick g (nat_le g.call.line.0 c.line.0) k
      by false o k = k

  -- The calls of a unit

  all_stay : (n unit : ℕ) (calls : List Call) (first : Option Candidate) → IsBy n first → IsBy n (fold (candidate_with numbers unit) first calls)
  all_stay n unit [] first h = h
  all_stay n unit (c ∷ calls) first h = all_stay n unit calls (candidate_with numbers unit first c) (one_stays n unit first c h)

  all_come : (unit : ℕ) (calls : List Call) (first : Option Candidate) (k : ℕ) (c : Call) → slice_get calls k ≡ Some c → may_return numbers unit c ≡ true
      → IsBy c.line.0 (fold (candidate_with numbers unit) first calls)
  all_come unit [] first k c e m = absurd cc
  all_come unit (d ∷ calls) first zero c e m =
      let same : d ≡ c = cc in
      all_stay c.line.0 unit calls (candidate_with numbers unit first d)
      (subst (λ (x : Call). IsBy c.line.0 (candidate_with numbers unit first x)) (sym same) (one_comes unit first c m))
  all_come unit (d ∷ calls) first (suc k) c e m = all_come unit calls (candidate_with numbers unit first d) k c e m

  all_are : (Q : Candidate → Type 0) (unit : ℕ) (calls : List Call) (first : Option Candidate) → IfSome first Q
      → ((k : ℕ) (c : Call) → slice_get calls k ≡ Some c → Q (record { unit = unit; call = c }))
      → IfSome (fold (candidate_with numbers unit) first calls) Q
  all_are Q unit [] first h q = h
  all_are Q unit (c ∷ calls) first h q =
      all_are Q unit calls (candidate_with numbers unit first c) (one_is Q unit first c h (q zero c refl)) (λ k d e. q (suc k) d e)

  -- The calls of all units

  units_stay : (n i : ℕ) (units : Graph) (first : Option Candidate) → IsBy n first → IsBy n (candidate_from numbers i first units)
  units_stay n i [] first h = h
  units_stay n i (calls ∷ units) first h =
      units_stay n (i + 1) units (fold (candidate_with numbers i) first calls) (all_stay n i calls first h)

  units_come : (i : ℕ) (units : Graph) (first : Option Candidate) (j k : ℕ) (c : Call) → call_at units j k ≡ Some c → may_return numbers (i + j) c ≡ true
      → IsBy c.line.0 (candidate_from numbers i first units)
  units_come i [] first j k c e m = absurd cc
  units_come i (calls ∷ units) first zero k c e m =
      let at : i + 0 ≡ i = omega arith in
      units_stay c.line.0 (i + 1) units (fold (candidate_with numbers i) first calls)
      (all_come i calls first k c e (ap (λ n. may_return numbers n c) (sym at) ∙ m))
  units_come i (calls ∷ units) first (suc j) k c e m =
      let at : i + 1 + j ≡ i + suc j = omega arith in
      units_come (i + 1) units (fold (candidate_with numbers i) first calls) j k c e (ap (λ n. may_return numbers n c) at ∙ m)

  units_are : (Q : Candidate → Type 0) (i : ℕ) (units : Graph) (first : Option Candidate) → IfSome first Q
      → ((j k : ℕ) (c : Call) → call_at units j k ≡ Some c → Q (record { unit = i + j; call = c }))
      → IfSome (candidate_from numbers i first units) Q
  units_are Q i [] first h q = h
  units_are Q i (calls ∷ units) first h q =
      units_are Q (i + 1) units (fold (candidate_with numbers i) first calls)
      (all_are Q i calls first h (λ k c e. at_unit zero i k c (omega arith) (q zero k c e)))
      (λ j k c e. at_unit (suc j) (i + 1 + j) k c (omega arith) (q (suc j) k c e))
    where
      at_unit : (j n k : ℕ) (c : Call) → i + j ≡ n → Q (record { unit = i + j; call = c }) → Q (record { unit = n; call = c })
      at_unit j n k c same h = subst (λ m. Q (record { unit = m; call = c })) same h

-- The first on a cycle

-- a candidate is a call of its unit
abbrev IsCallOf : Graph → Candidate → Type 0
IsCallOf graph f = (k : ℕ) × (call_at graph f.unit k ≡ Some f.call)

module _ (numbers : List ℕ) (graph : Graph) where
  is_call : IfSome (candidate_from numbers 0 None graph) (IsCallOf graph)
  is_call =
      units_are numbers (IsCallOf graph) 0 graph None tt
      (λ j k c e. let at : 0 + j ≡ j = omega arith in (k, ap (λ n. call_at graph n k) at ∙ e))

  -- a call on a cycle makes no number less
  may_be : all_fall numbers 0 graph ≡ true → (i k : ℕ) (c : Call) → OnCycle graph i k c → may_return numbers i c ≡ true
  may_be falls i k c on = by (may_return numbers i c) refl
    where
      by : (b : Bool) → may_return numbers i c ≡ b → b ≡ true
      by true e = refl
      by false e =
          absurd (returns_not numbers graph i c.callee falls (leb-false (get_or numbers i 0) (get_or numbers c.callee 0) e) on.back)

  by_then : all_fall numbers 0 graph ≡ true → (i k : ℕ) (c : Call) → OnCycle graph i k c → IsBy c.line.0 (candidate_from numbers 0 None graph)
  by_then falls i k c on =
      let at : 0 + i ≡ i = omega arith in
      units_come numbers 0 graph None i k c on.is_call (ap (λ n. may_return numbers n c) at ∙ may_be falls i k c on)

pub no_candidate : (numbers : List ℕ) (graph : Graph) → all_fall numbers 0 graph ≡ true → candidate_from numbers 0 None graph ≡ None → NoCycle graph
no_candidate numbers graph falls none i k c on = let b = by_then numbers graph falls i k c on in let some : None ≡ Some b.0 = sym none ∙ b.1 in cc

pub candidate_there : (numbers : List ℕ) (graph : Graph) (f : Candidate) → candidate_from numbers 0 None graph ≡ Some f → f.unit < length graph
candidate_there numbers graph f e =
    let call : IsCallOf graph f = subst (λ (o : Option Candidate). IfSome o (IsCallOf graph)) e (is_call numbers graph) in
    unit_in_range graph f.unit call.0 f.call call.1

pub candidate_first : (numbers : List ℕ) (graph : Graph) (f : Candidate) → all_fall numbers 0 graph ≡ true → candidate_from numbers 0 None graph ≡ Some f
    → Reaches graph f.call.callee f.unit → IsFirstCycle graph (Some f.call.line)
candidate_first numbers graph f falls e back =
    let call : IsCallOf graph f = subst (λ (o : Option Candidate). IfSome o (IsCallOf graph)) e (is_call numbers graph) in
    record {
      unit = f.unit;
      number = call.0;
      call = f.call;
      cycle = record { is_call = call.1; back = back };
      on_line = refl;
      first = λ i k c on. low c (by_then numbers graph falls i k c on);
    }
  where
    low : (c : Call) → IsBy c.line.0 (candidate_from numbers 0 None graph) → f.call.line.0 ≤ c.line.0
    low c b =
        let both : Some f ≡ Some b.0 = sym e ∙ b.1 in
        let same : f ≡ b.0 = cc in
        let line : f.call.line.0 ≡ b.0.call.line.0 = ap (λ (x : Candidate). x.call.line.0) same in
        let least = b.2 in omega (arith, line, least)

pub ruleset candidate_laws = (no_candidate, candidate_there, candidate_first)
