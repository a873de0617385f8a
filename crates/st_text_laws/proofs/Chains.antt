-- The chains of calls of a proper tree: no call lies on a cycle, and no chain is too long.
use Rattle.st_tree.proofs.Common.{◌≡◌, ◌≢◌, ℕ, zero, suc, ◌+◌, ◌<◌, ◌≤◌, Bool, true, false, List, [], ◌∷◌, ◌++◌, length, get_or, slice_get, Option, Some, None, refl, ap, ◌∙◌, arith, slice_get_within, ACTIVATIONS, first_of_all, chain_of, chain_to, unit_chain}
use Rattle.std.proofs.lemmas.List.{length-append}
use Rattle.call_chains.proofs.Followed.{followed}
use Rattle.call_chains.specs.Chain.{Graph, NoCycle, call_at, call_in, chains, follow, with_call}
use Rattle.call_chains.specs.declared.call.Call.{Call}
use Rattle.st_reading_laws.proofs.Bounds.{bound}
use Rattle.st_reading_laws.proofs.Lists.{there_at}
use Rattle.st_rules.proofs.Common.{long_chains, IsChain}
use Rattle.st_tree.proofs.CalledMost.{called_most}
use Rattle.st_lexer.proofs.Common.{Pou, StProgram, RawPou}

-- a call costs no more than the dearest
call_within : (f : ℕ → ℕ) (calls : List Call) (k : ℕ) (c : Call) → slice_get calls k ≡ Some c
    → f c.callee ≤ bound f calls
call_within f [] k c h = absurd cc
call_within f (d ∷ calls) zero c h = let e : f d.callee ≡ f c.callee = cc in omega arith
call_within f (d ∷ calls) (suc k) c h = omega (arith, call_within f calls k c h)

-- calls that are followed one after another
follow_on : (graph : Graph) (xs ys : List ℕ) (i j : ℕ) → follow graph i xs ≡ Some j
    → follow graph i (xs ++ ys) ≡ follow graph j ys
follow_on graph [] ys i j h = let same : i ≡ j = cc in ap (λ n. follow graph n ys) same
follow_on graph (x ∷ xs) ys i j h = (elim (call_at graph i x) as (λ o. with_call o (λ c. follow graph c.callee xs) ≡ Some j
    → with_call o (λ c. follow graph c.callee (xs ++ ys)) ≡ follow graph j ys) [
      | None ↦ λ q. absurd cc
      | Some c ↦ λ q. follow_on graph xs ys c.callee j q
    ]) h

-- some calls so many times
abbrev times : ℕ → List ℕ → List ℕ
times zero xs = []
times (suc n) xs = xs ++ times n xs

round : (graph : Graph) (xs : List ℕ) (i n : ℕ) → follow graph i xs ≡ Some i → follow graph i (times n xs) ≡ Some i
round graph xs i zero h = refl
round graph xs i (suc n) h = follow_on graph xs (times n xs) i i h ∙ round graph xs i n h

times_size : (n x : ℕ) (xs : List ℕ) → n ≤ length (times n (x ∷ xs))
times_size zero x xs = omega arith
times_size (suc n) x xs = omega (arith, times_size n x xs, length-append (x ∷ xs) (times n (x ∷ xs)))

-- calls that cost no more than the statements of the unit in which they stand
abbrev pub AreBounded : StProgram → Graph → Type 0
AreBounded tree graph = (i : ℕ) (calls : List Call) (unit : Pou) → slice_get graph i ≡ Some calls
    → slice_get tree.pous i ≡ Some unit
    → (f : ℕ → ℕ) → bound f calls ≤ called_most f unit.body

none_long : (begins : List Bool) (i : ℕ) (us : List RawPou) → ((n : ℕ) → get_or begins n false ≡ false)
    → long_chains begins i us ≡ []
none_long begins i [] h = refl
none_long begins i (u ∷ us) h = rw (h i) (none_long begins (i + 1) us h)

module _ (tree : StProgram) (graph : Graph) (bounded : AreBounded tree graph) where
  -- a call begins a chain that has one unit more
  one_call : (m i k : ℕ) (c : Call) (o : Option (List Call)) (p : Option Pou) → slice_get graph i ≡ o
      → slice_get tree.pous i ≡ p → call_in o k ≡ Some c
      → suc m ≤ chain_to (suc m) tree c.callee → suc (suc m) ≤ unit_chain (chain_to (suc m) tree) (suc m) p
  one_call m i k c None p e g h less = absurd cc
  one_call m i k c (Some calls) None e g h less = omega arith
  one_call m i k c (Some calls) (Some unit) e g h less =
      let f = chain_to (suc m) tree in
      omega (arith, call_within f calls k c h, bounded i calls unit e g f)

  some_chain : (p : Option Pou) (f : ℕ → ℕ) → 1 ≤ unit_chain f 0 p
  some_chain None f = omega arith
  some_chain (Some unit) f = omega arith

  -- a path of so many calls begins a chain of more units
  long_path : (m i : ℕ) (ks : List ℕ) (j : ℕ) → m ≤ length ks → follow graph i ks ≡ Some j
      → suc m ≤ chain_to (suc m) tree i
  long_path zero i ks j size h = some_chain (slice_get tree.pous i) (chain_to 0 tree)
  long_path (suc m) i [] j size h = absurd (omega (arith, size))
  long_path (suc m) i (k ∷ ks) j size h = (elim (call_at graph i k) as (λ o. call_at graph i k ≡ o
      → with_call o (λ c. follow graph c.callee ks) ≡ Some j → suc (suc m) ≤ chain_to (suc (suc m)) tree i) [
        | None ↦ λ e q. absurd cc
        | Some c ↦ λ e q. one_call m i k c _ _ refl refl e (long_path m c.callee ks j (omega (arith, size)) q)
      ]) refl h

  module _ (short : (n : ℕ) (unit : Pou) → slice_get tree.pous n ≡ Some unit → chain_of tree n ≤ ACTIVATIONS)
      (size : length graph ≡ length tree.pous) where
    -- no unit begins a path of as many calls as there may be units
    no_path_at : (i : ℕ) (ks : List ℕ) (j : ℕ) → i < length graph → 8 ≤ length ks → follow graph i ks ≡ Some j → ⊥
    no_path_at i ks j there long h =
        let u = there_at tree.pous i (omega (arith, there, size)) in
        let more : 9 ≤ chain_to 9 tree i = long_path 8 i ks j long h in
        let less : chain_to 9 tree i ≤ 8 = short i u.0 u.1 in
        omega (arith, more, less)

    no_path : (i : ℕ) (ks : List ℕ) (j : ℕ) → 8 ≤ length ks → follow graph i ks ≡ Some j → ⊥
    no_path i [] j long h = omega (arith, long)
    no_path i (k ∷ ks) j long h = (elim (slice_get graph i) as (λ o. slice_get graph i ≡ o
        → with_call (call_in o k) (λ c. follow graph c.callee ks) ≡ Some j → ⊥) [
          | None ↦ λ e q. absurd cc
          | Some calls ↦ λ e q. no_path_at i (k ∷ ks) j (slice_get_within graph i calls e) long h
        ]) refl h

    no_cycle : NoCycle graph
    no_cycle i k c on =
        let ks = on.back.0 in
        let back : follow graph i (k ∷ ks) ≡ Some i = rw on.is_call on.back.1 in
        no_path i (times 8 (k ∷ ks)) i (times_size 8 k ks) (round graph (k ∷ ks) i 8 back)

    none_begins : (n : ℕ) → get_or (chains graph ACTIVATIONS) n false ≡ false
    none_begins n =
        let none : get_or (chains graph ACTIVATIONS) n false ≡ true → ⊥ = λ e.
        let f = followed.sound graph ACTIVATIONS n e in no_path n f.calls f.last (omega (arith, f.size)) f.followed in
        grind arith

    pub is_chain : (us : List RawPou) → us ≢ [] → IsChain graph us
    is_chain us some = record {
      no_cycle = no_cycle;
      short = ap first_of_all (none_long (chains graph ACTIVATIONS) 0 us none_begins);
      some = some;
    }
