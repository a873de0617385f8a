-- Bytes of which some were replaced.
use Rattle.std.proofs.Common.{◌≡◌, ⊎_elim, ◌⊎◌, ℕ, suc, zero, ◌+◌, ◌-◌, ◌<◌, ◌≤◌, List, [], ◌∷◌, ◌++◌, length, get_or, take, drop, All, refl, ap, ◌∙◌, arith}
use Rattle.std.specs.Prelude.{slice_get, slice_set, Some}
use Rattle.std.proofs.lemmas.List.{length-take-le, length-drop, get_or-take, get_or-drop, get_or_append_left, get_or-append_right}
use Rattle.std.proofs.lemmas.List.Elements.{All-take, All-drop, All-append}
use Rattle.std.proofs.Common.{length-append}
use Rattle.memory_areas.specs.Areas.{overwrite}

length_front : (bytes : List ℕ) (i count : ℕ) → i + count ≤ length bytes → length (take i bytes) ≡ i
length_front bytes i count h = length-take-le i bytes (omega arith)

-- the bytes before, and the new ones
length_with : (bytes : List ℕ) (i : ℕ) (new : List ℕ) → i + length new ≤ length bytes → length (take i bytes ++ new) ≡ i + length new
length_with bytes i new h = let front = length_front bytes i (length new) h in let both = length-append (take i bytes) new in omega arith

pub length_replaced : (bytes : List ℕ) (i : ℕ) (new : List ℕ) → i + length new ≤ length bytes → length (overwrite bytes i new) ≡ length bytes
length_replaced bytes i new h =
    let front = length_with bytes i new h in
    let whole = length-append (take i bytes ++ new) (drop (i + length new) bytes) in
    let dropped = length-drop (i + length new) bytes in
    omega arith

-- the new bytes stand from byte i on
pub new_byte : (bytes : List ℕ) (i : ℕ) (new : List ℕ) (k j : ℕ) → i + length new ≤ length bytes
    → k < length new → j ≡ i + k → get_or (overwrite bytes i new) j 0 ≡ get_or new k 0
new_byte bytes i new k j h within e =
    let front = length_with bytes i new h in
    let inside : j < length (take i bytes ++ new) = omega arith in
    let behind : i ≤ j = omega arith in
    let same : j - i ≡ k = omega arith in
    get_or_append_left (take i bytes ++ new) (drop (i + length new) bytes) 0 j inside
    ∙ get_or-append_right (take i bytes) new i j 0 (length_front bytes i (length new) h) behind
    ∙ ap (λ n. get_or new n 0) same

byte_before : (bytes : List ℕ) (i : ℕ) (new : List ℕ) (j : ℕ) → i + length new ≤ length bytes → j < i → get_or (overwrite bytes i new) j 0 ≡ get_or bytes j 0
byte_before bytes i new j h before =
    let all = length_with bytes i new h in
    let inside : j < length (take i bytes ++ new) = omega arith in
    let front = length_front bytes i (length new) h in
    let within : j < length (take i bytes) = omega arith in
    get_or_append_left (take i bytes ++ new) (drop (i + length new) bytes) 0 j inside
    ∙ get_or_append_left (take i bytes) new 0 j within
    ∙ get_or-take i bytes j 0 before

byte_behind : (bytes : List ℕ) (i : ℕ) (new : List ℕ) (j : ℕ) → i + length new ≤ length bytes
    → i + length new ≤ j → get_or (overwrite bytes i new) j 0 ≡ get_or bytes j 0
byte_behind bytes i new j h behind =
    let same : i + length new + (j - (i + length new)) ≡ j = omega arith in
    get_or-append_right (take i bytes ++ new) (drop (i + length new) bytes) (i + length new) j 0 (length_with bytes i new h) behind
    ∙ get_or-drop (i + length new) bytes (j - (i + length new)) 0
    ∙ ap (λ n. get_or bytes n 0) same

-- the bytes before them and after them stay
pub other_byte : (bytes : List ℕ) (i : ℕ) (new : List ℕ) (j : ℕ) → i + length new ≤ length bytes
    → (j < i) ⊎ (i + length new ≤ j) → get_or (overwrite bytes i new) j 0 ≡ get_or bytes j 0
other_byte bytes i new j h = ⊎_elim (byte_before bytes i new j h) (byte_behind bytes i new j h)

pub all_replaced : (bytes : List ℕ) (i : ℕ) (new : List ℕ) → All (λ b. b < 256) bytes → All (λ b. b < 256) new → All (λ b. b < 256) (overwrite bytes i new)
all_replaced bytes i new all small =
    All-append (λ b. b < 256) (take i bytes ++ new) (drop (i + length new) bytes)
    (All-append (λ b. b < 256) (take i bytes) new (All-take (λ b. b < 256) i bytes all) small)
    (All-drop (λ b. b < 256) (i + length new) bytes all)

-- Items of a list

pub get_set_same : {X : Type 0} → (xs : List X) (i : ℕ) (v b : X) → slice_get xs i ≡ Some b → slice_get (slice_set xs i v) i ≡ Some v
get_set_same [] i v b h = cc
get_set_same (x ∷ xs) zero v b h = refl
get_set_same (x ∷ xs) (suc i) v b h = get_set_same xs i v b h

pub get_set_other : {X : Type 0} → (xs : List X) (i j : ℕ) (v : X) → (j ≡ i → ⊥) → slice_get (slice_set xs i v) j ≡ slice_get xs j
get_set_other [] i j v apart = refl
get_set_other (x ∷ xs) zero zero v apart = absurd (apart refl)
get_set_other (x ∷ xs) zero (suc j) v apart = refl
get_set_other (x ∷ xs) (suc i) zero v apart = refl
get_set_other (x ∷ xs) (suc i) (suc j) v apart = get_set_other xs i j v (λ e. apart (ap suc e))
