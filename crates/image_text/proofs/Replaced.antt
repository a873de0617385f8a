-- Bytes in the place of others.
use Rattle.std.proofs.Common.{◌≡◌, ℕ, zero, suc, ◌+◌, ◌≤◌, List, [], ◌∷◌, ◌++◌, length, take, drop, ap, ◌∙◌, append_assoc, length-append, length-drop, arith}
use Rattle.std.proofs.lemmas.List.{length-take-le, take-append-drop, drop-drop, append-nil}
use Rattle.memory_areas.specs.Areas.{overwrite}

take_past : (front : List ℕ) (v : ℕ) (back : List ℕ) (n : ℕ) → n ≡ suc (length front) → take n (front ++ v ∷ back) ≡ front ++ v ∷ []
take_past [] v back n e = ap (λ i. take i (v ∷ back)) e
take_past (b ∷ front) v back zero e = absurd (omega arith)
take_past (b ∷ front) v back (suc n) e = ap (λ xs. b ∷ xs) (take_past front v back n (omega arith))

drop_past : (front : List ℕ) (v : ℕ) (back : List ℕ) (n k : ℕ) → n ≡ suc (length front) + k → drop n (front ++ v ∷ back) ≡ drop k back
drop_past [] v back n k e = let more : n ≡ suc k = omega arith in ap (λ i. drop i (v ∷ back)) more
drop_past (b ∷ front) v back zero k e = absurd (omega arith)
drop_past (b ∷ front) v back (suc n) k e = drop_past front v back n k (omega arith)

-- as many bytes as before
pub length_replaced : (bytes : List ℕ) (at : ℕ) (new : List ℕ) → at + length new ≤ length bytes → length (overwrite bytes at new) ≡ length bytes
length_replaced bytes at new h = let within : at ≤ length bytes = omega arith in simp (length-append, length-take-le, length-drop) (omega arith)

-- one byte and then more are the bytes together
pub replaced_further : (bytes : List ℕ) (at v : ℕ) (more : List ℕ) → at + suc (length more) ≤ length bytes
    → overwrite (overwrite bytes at (v ∷ [])) (at + 1) more ≡ overwrite bytes at (v ∷ more)
replaced_further bytes at v more h =
    let within : at ≤ length bytes = omega arith in
    let size : length (take at bytes) ≡ at = length-take-le at bytes within in
    let whole : overwrite bytes at (v ∷ []) ≡ take at bytes ++ (v ∷ drop (at + 1) bytes) = append_assoc (take at bytes) (v ∷ []) (drop (at + 1) bytes) in
    let front : take (at + 1) (overwrite bytes at (v ∷ [])) ≡ take at bytes ++ v ∷ [] =
    ap (take (at + 1)) whole ∙ take_past (take at bytes) v (drop (at + 1) bytes) (at + 1) (omega (arith, size)) in
    let back : drop (at + 1 + length more) (overwrite bytes at (v ∷ [])) ≡ drop (length more) (drop (at + 1) bytes) =
    ap (drop (at + 1 + length more)) whole ∙ drop_past (take at bytes) v (drop (at + 1) bytes) (at + 1 + length more) (length more) (omega (arith, size)) in
    let count : at + 1 + length more ≡ at + suc (length more) = omega arith in
    let rest : drop (length more) (drop (at + 1) bytes) ≡ drop (at + suc (length more)) bytes =
    drop-drop (length more) (at + 1) bytes ∙ ap (λ i. drop i bytes) count in
    ap (λ xs. (xs ++ more) ++ drop (at + 1 + length more) (overwrite bytes at (v ∷ []))) front
    ∙ ap (λ xs. xs ++ drop (at + 1 + length more) (overwrite bytes at (v ∷ []))) (append_assoc (take at bytes) (v ∷ []) more)
    ∙ ap (λ xs. (take at bytes ++ (v ∷ more)) ++ xs) (back ∙ rest)

-- no bytes in the place of none
pub replaced_none : (bytes : List ℕ) (at : ℕ) → overwrite bytes at [] ≡ bytes
replaced_none bytes at =
    let same : at + 0 ≡ at = omega arith in
    ap (λ i. (take at bytes ++ []) ++ drop i bytes) same ∙ ap (λ xs. xs ++ drop at bytes) (append-nil (take at bytes)) ∙ take-append-drop at bytes
