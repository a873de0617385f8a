-- Chains of n calls begin where n calls are followed.
use Rattle.std.proofs.Common.{◌≡◌, ◌<◌, ℕ, zero, suc, Bool, true, false, ◌||◌, List, [], ◌∷◌, map, length, replicate, get_or, slice_get, nat_le, Option, Some, None, refl, ap, subst, ◌∙◌, arith}
use Rattle.std.specs.List.{list_any}
use Rattle.std.proofs.lemmas.Bool.{leb-true, leb-false}
use Rattle.std.proofs.lemmas.List.{get_or-replicate, get_or_past, length-replicate}
use Rattle.call_chains.specs.Chain.{Graph, call_in, call_at, calls_one, chains, follow, with_call}
use Rattle.call_chains.specs.ChainLaws.{ChainsAreFollowed, IsFollowed}
use Rattle.call_chains.specs.declared.call.Call.{Call}

-- Lists

map_at : {X Y : Type 0} (f : X → Y) (xs : List X) (i : ℕ) (x : X) (d : Y) → slice_get xs i ≡ Some x → get_or (map f xs) i d ≡ f x
map_at f [] i x d h = absurd cc
map_at f (y ∷ xs) zero x d h = let same : y ≡ x = cc in ap f same
map_at f (y ∷ xs) (suc i) x d h = map_at f xs i x d h

map_true : {X : Type 0} (f : X → Bool) (xs : List X) (i : ℕ) → get_or (map f xs) i false ≡ true → (x : X) × (slice_get xs i ≡ Some x) × (f x ≡ true)
map_true f [] i h = absurd cc
map_true f (y ∷ xs) zero h = (y, refl, h)
map_true f (y ∷ xs) (suc i) h = map_true f xs i h

any_at : {X : Type 0} (p : X → Bool) (xs : List X) (k : ℕ) (x : X) → slice_get xs k ≡ Some x → p x ≡ true → list_any p xs ≡ true
any_at p [] k x h e = absurd cc
any_at p (y ∷ xs) zero x h e = let same : y ≡ x = cc in ap (λ t. t || list_any p xs) (ap p same ∙ e)
any_at p (y ∷ xs) (suc k) x h e = either (p y) (list_any p xs) (any_at p xs k x h e)
  where
    either : (a b : Bool) → b ≡ true → (a || b) ≡ true
    either true b e = refl
    either false b e = e

any_true : {X : Type 0} (p : X → Bool) (xs : List X) → list_any p xs ≡ true → (k : ℕ) × (x : X) × (slice_get xs k ≡ Some x) × (p x ≡ true)
any_true p [] h = absurd cc
any_true {X = X} p (y ∷ xs) h = by_test (p y) refl (any_true p xs) h
  where
    by_test : (t : Bool) → p y ≡ t → (list_any p xs ≡ true → (k : ℕ) × (x : X) × (slice_get xs k ≡ Some x) × (p x ≡ true)) → (t || list_any p xs) ≡ true
        → (k : ℕ) × (x : X) × (slice_get (y ∷ xs) k ≡ Some x) × (p x ≡ true)
    by_test true e more q = (0, y, refl, e)
    by_test false e more q = let r = more q in (suc r.0, r.1, r.2, r.3)

-- Chains

sound : (graph : Graph) (n i : ℕ) → get_or (chains graph n) i false ≡ true → IsFollowed graph n i
sound graph zero i h = by_size (nat_le (length graph) i) refl
  where
    by_size : (t : Bool) → nat_le (length graph) i ≡ t → IsFollowed graph 0 i
    by_size true e =
        let past : get_or (replicate (length graph) true) i false ≡ false =
        get_or_past (replicate (length graph) true) i false (omega (arith, length-replicate (length graph) true, leb-true (length graph) i e)) in
        absurd cc
    by_size false e = record { calls = []; last = i; size = refl; followed = refl; there = leb-false (length graph) i e }
sound graph (suc n) i h = by_unit (λ j. sound graph n j) (map_true (calls_one (chains graph n)) graph i h)
  where
    by_unit : ((j : ℕ) → get_or (chains graph n) j false ≡ true → IsFollowed graph n j)
        → (calls : List Call) × (slice_get graph i ≡ Some calls) × (calls_one (chains graph n) calls ≡ true)
        → IsFollowed graph (suc n) i
    by_unit more u =
        let c = any_true (λ (c : Call). get_or (chains graph n) c.callee false) u.0 u.2 in
        let rest = more c.1.callee c.3 in
        let call : call_at graph i c.0 ≡ Some c.1 = ap (λ o. call_in o c.0) u.1 ∙ c.2 in
        record {
          calls = c.0 ∷ rest.calls;
          last = rest.last;
          size = ap (λ k. suc k) rest.size;
          followed = ap (λ o. with_call o (λ d. follow graph d.callee rest.calls)) call ∙ rest.followed;
          there = rest.there;
        }

along : (graph : Graph) (ks : List ℕ) (i j : ℕ) → follow graph i ks ≡ Some j → j < length graph → get_or (chains graph (length ks)) i false ≡ true
along graph [] i j p h = let same : i ≡ j = cc in get_or-replicate (length graph) i true false (omega (arith, same, h))
along graph (k ∷ ks) i j p h = by_unit (λ n. along graph ks n j) (slice_get graph i) refl p
  where
    Rest : Type 0
    Rest = (n : ℕ) → follow graph n ks ≡ Some j → j < length graph → get_or (chains graph (length ks)) n false ≡ true

    by_call : Rest → (calls : List Call) (o : Option Call) → slice_get graph i ≡ Some calls
        → slice_get calls k ≡ o → with_call o (λ c. follow graph c.callee ks) ≡ Some j
        → get_or (map (calls_one (chains graph (length ks))) graph) i false ≡ true
    by_call more calls None e f q = absurd cc
    by_call more calls (Some c) e f q =
        map_at (calls_one (chains graph (length ks))) graph i calls false e
        ∙ any_at (λ (d : Call). get_or (chains graph (length ks)) d.callee false) calls k c f (more c.callee q h)

    by_unit : Rest → (u : Option (List Call)) → slice_get graph i ≡ u → with_call (call_in u k) (λ c. follow graph c.callee ks) ≡ Some j
        → get_or (chains graph (length (k ∷ ks))) i false ≡ true
    by_unit more None e q = absurd cc
    by_unit more (Some calls) e q = by_call more calls (slice_get calls k) e refl q

complete : (graph : Graph) (n i : ℕ) → IsFollowed graph n i → get_or (chains graph n) i false ≡ true
complete graph n i f = subst (λ k. get_or (chains graph k) i false ≡ true) f.size (along graph f.calls i f.last f.followed f.there)

pub followed : ChainsAreFollowed
followed = record { sound = sound; complete = complete }
