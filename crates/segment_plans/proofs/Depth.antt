-- How many loops, plain jumps and jump lists a block lies in, as it is counted and as it is defined.
use Rattle.std.proofs.Common.{◌≡◌, ◌⊎◌, ℕ, zero, suc, ◌+◌, ◌-◌, ◌<◌, ◌≤◌, Bool, true, false, ◌==◌, List, [], ◌∷◌, ◌++◌, Option, Some, None, get_or, length, replicate, slice_set, inl, inr, refl, sym, ap, subst, ◌∙◌, arith, length-set}
use Rattle.std.specs.Bool.{Decides}
use Rattle.std.specs.Prelude.{nat_le, option_to_list}
use Rattle.std.proofs.lemmas.Bool.Decides.{Decides-eqb}
use Rattle.std.proofs.lemmas.List.{get_or-replicate, get_or-set_other, get_or-set_same, length-replicate}
use Rattle.segment_plans.specs.declared.blocks.Blocks.{Blocks}
use Rattle.segment_plans.specs.Counts.{last_of}
use Rattle.segment_plans.specs.inner.Spans.{inner_at, inner_loops, note_end, span_end}
use Rattle.segment_plans.proofs.Plain.{span}
use Rattle.segment_plans.proofs.Site.{decides_le, told}
use Rattle.segment_plans.proofs.Stack.{inner_is}

-- Counts of ends

abbrev pub bit : Bool → ℕ
bit true = 1
bit false = 0

-- how many of some ends are at a block or behind it, and how many at it
abbrev pub live : ℕ → List ℕ → ℕ
live at [] = 0
live at (e ∷ ends) = bit (nat_le at e) + live at ends

abbrev pub same : ℕ → List ℕ → ℕ
same at [] = 0
same at (e ∷ ends) = bit (at == e) + same at ends

pub live_append : (at : ℕ) (xs ys : List ℕ) → live at (xs ++ ys) ≡ live at xs + live at ys
live_append at [] ys = omega arith
live_append at (x ∷ xs) ys = let e : live at (xs ++ ys) ≡ live at xs + live at ys = live_append at xs ys in omega (arith, e)

same_append : (at : ℕ) (xs ys : List ℕ) → same at (xs ++ ys) ≡ same at xs + same at ys
same_append at [] ys = omega arith
same_append at (x ∷ xs) ys = let e : same at (xs ++ ys) ≡ same at xs + same at ys = same_append at xs ys in omega (arith, e)

one_step : (at e : ℕ) → bit (nat_le at e) ≡ bit (at == e) + bit (nat_le (suc at) e)
one_step at e = by (nat_le at e) (at == e) (nat_le (suc at) e) (decides_le at e) (Decides-eqb at e) (decides_le (suc at) e)
  where
    by : (x y z : Bool) → Decides x (at ≤ e) → Decides y (at ≡ e) → Decides z (suc at ≤ e) → bit x ≡ bit y + bit z
    by true true true a b c = let p : at ≡ e = b.0 refl in let q : suc at ≤ e = c.0 refl in absurd (omega (arith, p, q))
    by true true false a b c = refl
    by true false true a b c = refl
    by true false false a b c =
        let p : at ≤ e = a.0 refl in
        absurd (neither (told false b) (told false c) p)
      where
        neither : (at ≡ e) ⊎ (at ≡ e → ⊥) → (suc at ≤ e) ⊎ (suc at ≤ e → ⊥) → at ≤ e → ⊥
        neither (inl p) d h = let f : false ≡ true = b.1 p in absurd cc
        neither (inr p) (inl q) h = let f : false ≡ true = c.1 q in absurd cc
        neither (inr p) (inr q) h = omega (arith, p, q, h)
    by false true z a b c = let p : at ≡ e = b.0 refl in let f : false ≡ true = a.1 (omega (arith, p)) in absurd cc
    by false false true a b c = let p : suc at ≤ e = c.0 refl in let f : false ≡ true = a.1 (omega (arith, p)) in absurd cc
    by false false false a b c = refl

live_step : (at : ℕ) (ends : List ℕ) → live at ends ≡ same at ends + live (suc at) ends
live_step at [] = refl
live_step at (e ∷ ends) =
    let a : bit (nat_le at e) ≡ bit (at == e) + bit (nat_le (suc at) e) = one_step at e in
    let b : live at ends ≡ same at ends + live (suc at) ends = live_step at ends in
    omega (arith, a, b)

-- an end, if there is one, is at a block or behind it
abbrev pub EndsFrom : ℕ → Option ℕ → Type 0
EndsFrom at None = Unit {0}
EndsFrom at (Some e) = at ≤ e

all_live : (at : ℕ) (o : Option ℕ) → EndsFrom at o → live at (option_to_list o) ≡ length (option_to_list o)
all_live at None h = refl
all_live at (Some e) h = by (nat_le at e) (decides_le at e)
  where
    by : (b : Bool) → Decides b (at ≤ e) → bit b + 0 ≡ 1
    by true d = omega arith
    by false d = let f : false ≡ true = d.1 h in absurd cc

noted : (first : ℕ) (ends : List ℕ) (o : Option ℕ) (k : ℕ) → EndsFrom first o → k < length ends
    → get_or (note_end first ends o) k 0 ≡ get_or ends k 0 + same (first + k) (option_to_list o)
noted first ends None k h inside = omega arith
noted first ends (Some e) k h inside = by (k == e - first) (Decides-eqb k (e - first)) (first + k == e) (Decides-eqb (first + k) e)
  where
    new : ℕ
    new = get_or ends (e - first) 0 + 1

    low : first ≤ e
    low = h

    by : (x : Bool) → Decides x (k ≡ e - first) → (y : Bool) → Decides y (first + k ≡ e)
        → get_or (slice_set ends (e - first) (get_or ends (e - first) 0 + 1)) k 0 ≡ get_or ends k 0 + (bit y + 0)
    by true a true b =
        let p : k ≡ e - first = a.0 refl in
        let q : get_or (slice_set ends k (get_or ends k 0 + 1)) k 0 ≡ get_or ends k 0 + 1 = get_or-set_same ends k (get_or ends k 0 + 1) 0 inside in
        let r : get_or ends k 0 + 1 ≡ get_or ends k 0 + (1 + 0) = omega arith in
        subst (λ n. get_or (slice_set ends n (get_or ends n 0 + 1)) k 0 ≡ get_or ends k 0 + (1 + 0)) p (q ∙ r)
    by true a false b = let p : k ≡ e - first = a.0 refl in let f : false ≡ true = b.1 (omega (arith, p, low)) in absurd cc
    by false a true b = let p : first + k ≡ e = b.0 refl in let f : false ≡ true = a.1 (omega (arith, p)) in absurd cc
    by false a false b =
        let r : get_or ends k 0 ≡ get_or ends k 0 + (0 + 0) = omega arith in
        get_or-set_other ends (e - first) k (get_or ends (e - first) 0 + 1) 0 (λ p. let f : false ≡ true = a.1 p in absurd cc) ∙ r

length_noted : (first : ℕ) (ends : List ℕ) (o : Option ℕ) → length (note_end first ends o) ≡ length ends
length_noted first ends None = refl
length_noted first ends (Some e) = length-set ends (e - first) (get_or ends (e - first) 0 + 1)

-- Blocks one after another

-- the ends of the loop, and of the plain jump or the jump list, that begin at a block
abbrev pub spans : Blocks → ℕ → ℕ → List ℕ
spans blocks first at = option_to_list (last_of blocks at) ++ option_to_list (span blocks first at)

abbrev pub opened : Blocks → ℕ → ℕ → List ℕ
opened blocks first zero = []
opened blocks first (suc i) = opened blocks first i ++ spans blocks first (first + i)

-- each loop ends behind its head, and each plain jump and each list lead forward
abbrev pub AreForward : Blocks → ℕ → ℕ → Type 0
AreForward blocks first past = (at : ℕ) → first ≤ at → at < past → EndsFrom at (last_of blocks at) × EndsFrom at (span blocks first at)

-- what is counted before a block
pub record IsCounted (blocks : Blocks) (first at : ℕ) (ends : List ℕ) (depth : ℕ) : Type 0 where
  pub ends_are : (k : ℕ) → k < length ends → get_or ends k 0 ≡ same (first + k) (opened blocks first (at - first))
  pub depth_is : depth ≡ live at (opened blocks first (at - first))
  pub low : (i : ℕ) → i < at - first → live (first + i) (opened blocks first (suc i)) ≤ 64

weaken : (first at : ℕ) (o : Option ℕ) → first ≤ at → EndsFrom at o → EndsFrom first o
weaken first at None h e = tt
weaken first at (Some x) h e = let y : at ≤ x = e in omega (arith, h, y)

next_opened : (blocks : Blocks) (first at : ℕ) → first ≤ at → opened blocks first (suc at - first) ≡ opened blocks first (at - first) ++ spans blocks first at
next_opened blocks first at h =
    let e : suc at - first ≡ suc (at - first) = omega (arith, h) in
    let f : first + (at - first) ≡ at = omega (arith, h) in
    ap (opened blocks first) e ∙ ap (λ n. opened blocks first (at - first) ++ spans blocks first n) f

-- how many are around a block, when those that begin there are counted
pub depth_at : (blocks : Blocks) (first past at : ℕ) (ends : List ℕ) (depth : ℕ) → AreForward blocks first past → first ≤ at → at < past
    → IsCounted blocks first at ends depth
    → depth + length (option_to_list (last_of blocks at)) + length (option_to_list (span blocks first at))
    ≡ live at (opened blocks first (at - first) ++ spans blocks first at)
depth_at blocks first past at ends depth forward low high counted =
    let f = forward at low high in
    let a : live at (option_to_list (last_of blocks at)) ≡ length (option_to_list (last_of blocks at)) = all_live at (last_of blocks at) f.0 in
    let b : live at (option_to_list (span blocks first at)) ≡ length (option_to_list (span blocks first at)) = all_live at (span blocks first at) f.1 in
    let c : live at (spans blocks first at) ≡ live at (option_to_list (last_of blocks at)) + live at (option_to_list (span blocks first at)) =
    live_append at (option_to_list (last_of blocks at)) (option_to_list (span blocks first at)) in
    let d : live at (opened blocks first (at - first) ++ spans blocks first at) ≡ live at (opened blocks first (at - first)) + live at (spans blocks first at) =
    live_append at (opened blocks first (at - first)) (spans blocks first at) in
    let e : depth ≡ live at (opened blocks first (at - first)) = counted.depth_is in
    omega (arith, a, b, c, d, e)

-- what is counted before the next block
pub counts_on : (blocks : Blocks) (first past at : ℕ) (ends new : List ℕ) (depth all : ℕ) → AreForward blocks first past → first ≤ at → at < past
    → length ends ≡ past - first + 1 → IsCounted blocks first at ends depth
    → new ≡ note_end first (note_end first ends (last_of blocks at)) (span blocks first at)
    → all ≡ depth + length (option_to_list (last_of blocks at)) + length (option_to_list (span blocks first at)) → all ≤ 64
    → IsCounted blocks first (suc at) new (all - get_or new (at - first) 0)
counts_on blocks first past at ends new depth all forward low high size counted is sum few = record {
  ends_are = λ k inside. new_end k (subst (λ n. k < n) new_size inside) ∙ ap (same (first + k)) (sym (next_opened blocks first at low));
  depth_is = new_depth ∙ ap (live (suc at)) (sym (next_opened blocks first at low));
  low = λ i h. shallow i h (told (i == at - first) (Decides-eqb i (at - first)));
}
  where
    f : EndsFrom at (last_of blocks at) × EndsFrom at (span blocks first at)
    f = forward at low high

    one : List ℕ
    one = note_end first ends (last_of blocks at)

    new_size : length new ≡ length ends
    new_size =
        ap length is ∙ length_noted first (note_end first ends (last_of blocks at)) (span blocks first at) ∙ length_noted first ends (last_of blocks at)

    whole : List ℕ
    whole = opened blocks first (at - first) ++ spans blocks first at

    new_end : (k : ℕ) → k < length ends → get_or new k 0 ≡ same (first + k) (opened blocks first (at - first) ++ spans blocks first at)
    new_end k inside =
        let a : get_or (note_end first ends (last_of blocks at)) k 0 ≡ get_or ends k 0 + same (first + k) (option_to_list (last_of blocks at)) =
        noted first ends (last_of blocks at) k (weaken first at (last_of blocks at) low f.0) inside in
        let b : get_or (note_end first (note_end first ends (last_of blocks at)) (span blocks first at)) k 0
        ≡ get_or (note_end first ends (last_of blocks at)) k 0 + same (first + k) (option_to_list (span blocks first at)) =
        noted first (note_end first ends (last_of blocks at)) (span blocks first at) k (weaken first at (span blocks first at) low f.1)
        (subst (λ n. k < n) (sym (length_noted first ends (last_of blocks at))) inside) in
        let c : get_or ends k 0 ≡ same (first + k) (opened blocks first (at - first)) = counted.ends_are k inside in
        let d : same (first + k) (spans blocks first at)
        ≡ same (first + k) (option_to_list (last_of blocks at)) + same (first + k) (option_to_list (span blocks first at)) =
        same_append (first + k) (option_to_list (last_of blocks at)) (option_to_list (span blocks first at)) in
        let e : same (first + k) (opened blocks first (at - first) ++ spans blocks first at)
        ≡ same (first + k) (opened blocks first (at - first)) + same (first + k) (spans blocks first at) =
        same_append (first + k) (opened blocks first (at - first)) (spans blocks first at) in
        let g : get_or new k 0 ≡ get_or (note_end first (note_end first ends (last_of blocks at)) (span blocks first at)) k 0 =
        ap (λ (xs : List ℕ). get_or xs k 0) is in
        omega (arith, a, b, c, d, e, g)

    all_is : all ≡ live at (opened blocks first (at - first) ++ spans blocks first at)
    all_is = sum ∙ depth_at blocks first past at ends depth forward low high counted

    new_depth : all - get_or new (at - first) 0 ≡ live (suc at) (opened blocks first (at - first) ++ spans blocks first at)
    new_depth =
        let a : get_or new (at - first) 0 ≡ same (first + (at - first)) (opened blocks first (at - first) ++ spans blocks first at) =
        new_end (at - first) (omega (arith, size, low, high)) in
        let b : first + (at - first) ≡ at = omega (arith, low) in
        let c : same (first + (at - first)) (opened blocks first (at - first) ++ spans blocks first at)
        ≡ same at (opened blocks first (at - first) ++ spans blocks first at) =
        ap (λ n. same n (opened blocks first (at - first) ++ spans blocks first at)) b in
        let d : live at (opened blocks first (at - first) ++ spans blocks first at)
        ≡ same at (opened blocks first (at - first) ++ spans blocks first at) + live (suc at) (opened blocks first (at - first) ++ spans blocks first at) =
        live_step at (opened blocks first (at - first) ++ spans blocks first at) in
        omega (arith, a, c, d, all_is)

    shallow : (i : ℕ) → i < suc at - first → (i ≡ at - first) ⊎ (i ≡ at - first → ⊥) → live (first + i) (opened blocks first (suc i)) ≤ 64
    shallow i h (inr n) = counted.low i (omega (arith, h, n))
    shallow i h (inl e) =
        let b : first + i ≡ at = omega (arith, e, low) in
        let x : live at (opened blocks first (at - first) ++ spans blocks first at) ≤ 64 = omega (arith, all_is, few) in
        let y : opened blocks first (suc i) ≡ opened blocks first (at - first) ++ spans blocks first at =
        ap (λ n. opened blocks first (suc n)) e
        ∙ ap (λ n. opened blocks first (at - first) ++ spans blocks first n) (let z : first + (at - first) ≡ at = omega (arith, low) in z) in
        let w : live (first + i) (opened blocks first (suc i)) ≡ live at (opened blocks first (at - first) ++ spans blocks first at) =
        ap (λ n. live n (opened blocks first (suc i))) b ∙ ap (live at) y in
        omega (arith, x, w)

-- before the first block
pub none_counted : (blocks : Blocks) (first n : ℕ) (ends : List ℕ) → ends ≡ replicate n 0 → IsCounted blocks first first ends 0
none_counted blocks first n ends e =
    let z : first - first ≡ 0 = omega arith in
    record {
      ends_are = λ k h. ends_zero k h ∙ ap (λ i. same (first + k) (opened blocks first i)) (sym z);
      depth_is = ap (λ i. live first (opened blocks first i)) (sym z);
      low = λ i h. absurd (omega (arith, h, z));
    }
  where
    ends_zero : (k : ℕ) → k < length ends → get_or ends k 0 ≡ 0
    ends_zero k h =
        let zs : List ℕ = replicate n 0 in
        let size : length ends ≡ n = ap length e ∙ length-replicate {A = ℕ} n 0 in
        let z : get_or zs k 0 ≡ 0 = get_or-replicate n k 0 0 (omega (arith, h, size)) in
        ap (λ (xs : List ℕ). get_or xs k 0) e ∙ z

-- What the code finds

-- the span that is found is the one of the block
pub span_found : (blocks : Blocks) (first past at : ℕ) (inner : List (Option ℕ)) (to : Option ℕ) → first ≤ at → at < past
    → inner ≡ inner_loops blocks first (past - first) → to ≡ span_end blocks (inner_at inner (at - first)) at → to ≡ span blocks first at
span_found blocks first past at inner to low high e f =
    f ∙ ap (λ (o : Option ℕ). span_end blocks o at)
    (ap (λ (xs : List (Option ℕ)). inner_at xs (at - first)) e ∙ inner_is blocks first (past - first) (at - first) (omega (arith, low, high)))

-- what is found at a block
pub record IsFound (blocks : Blocks) (first past at : ℕ) (ends : List ℕ) (depth : ℕ) (last to : Option ℕ) (all : ℕ) : Type 0 where
  pub low : first ≤ at
  pub high : at < past
  pub counted : AreForward blocks first past → IsCounted blocks first at ends depth
  pub last_is : last ≡ last_of blocks at
  pub to_is : to ≡ span blocks first at
  pub all_is : all ≡ depth + length (option_to_list last) + length (option_to_list to)

all_of : (blocks : Blocks) (first past at : ℕ) (ends : List ℕ) (depth : ℕ) (last to : Option ℕ) (all : ℕ)
    → IsFound blocks first past at ends depth last to all
    → all ≡ depth + length (option_to_list (last_of blocks at)) + length (option_to_list (span blocks first at))
all_of blocks first past at ends depth last to all f =
    f.all_is ∙ ap (λ (o : Option ℕ). depth + length (option_to_list o) + length (option_to_list to)) f.last_is
    ∙ ap (λ (o : Option ℕ). depth + length (option_to_list (last_of blocks at)) + length (option_to_list o)) f.to_is

pub keeps : (blocks : Blocks) (first past at : ℕ) (ends new : List ℕ) (depth : ℕ) (last to : Option ℕ) (all : ℕ)
    → IsFound blocks first past at ends depth last to all → length ends ≡ past - first + 1
    → new ≡ note_end first (note_end first ends last) to → all ≤ 64 → (rest : ℕ) → rest ≡ all - get_or new (at - first) 0
    → AreForward blocks first past → IsCounted blocks first (at + 1) new rest
keeps blocks first past at ends new depth last to all f size is few rest e forward =
    let a : suc at ≡ at + 1 = omega arith in
    let is_new : new ≡ note_end first (note_end first ends (last_of blocks at)) (span blocks first at) =
    is ∙ ap (λ (o : Option ℕ). note_end first (note_end first ends o) to) f.last_is
    ∙ ap (note_end first (note_end first ends (last_of blocks at))) f.to_is in
    subst (IsCounted blocks first (at + 1) new) (sym e) (subst (λ n. IsCounted blocks first n new (all - get_or new (at - first) 0)) a
    (counts_on blocks first past at ends new depth all forward f.low f.high size (f.counted forward) is_new
    (all_of blocks first past at ends depth last to all f) few))

pub many : (blocks : Blocks) (first past at : ℕ) (ends : List ℕ) (depth : ℕ) (last to : Option ℕ) (all : ℕ)
    → IsFound blocks first past at ends depth last to all → 64 < all → AreForward blocks first past
    → 64 < live at (opened blocks first (at - first) ++ spans blocks first at)
many blocks first past at ends depth last to all f more forward =
    let a : all ≡ depth + length (option_to_list (last_of blocks at)) + length (option_to_list (span blocks first at)) =
    all_of blocks first past at ends depth last to all f in
    let b : depth + length (option_to_list (last_of blocks at)) + length (option_to_list (span blocks first at))
    ≡ live at (opened blocks first (at - first) ++ spans blocks first at) =
    depth_at blocks first past at ends depth forward f.low f.high (f.counted forward) in
    omega (arith, a, b, more)
