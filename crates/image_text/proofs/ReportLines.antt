-- The lines of a report, one after another.
use Rattle.std.proofs.Common.{◌≡◌, ℕ, zero, suc, ◌+◌, ◌%◌, ◌<◌, Bool, true, false, ◌==◌, if◌then◌else◌, List, [], ◌∷◌, ◌++◌, take, drop, length, refl, sym, ap, ◌∙◌, append_assoc, length-drop, arith}
use Rattle.std.proofs.lemmas.List.{drop-drop}
use Rattle.std.proofs.lemmas.Bool.Decides.{nat_tests}
use Rattle.image_text.specs.Report.{area_text, row_shown}

begins : (t : Bool) (u : Bool) (x y : List ℕ) → u ≡ t → (if u then x else []) ++ y ≡ (if t then x else []) ++ y
begins t u x y e = ap (λ (v : Bool). (if v then x else []) ++ y) e

-- no line begins between two multiples of 16
between : (all : Bool) (name : List ℕ) (k : ℕ) → k < 16 → (at : ℕ) (rest : List ℕ)
    → (at + k) % 16 ≡ 0 → area_text all name at rest ≡ area_text all name (at + k) (drop k rest)
between all name zero h at rest e = let same : at ≡ at + 0 = omega arith in ap (λ i. area_text all name i rest) same
between all name (suc k) h at [] e = refl
between all name (suc k) h at (b ∷ rest) e =
    let none : (at % 16 == 0) ≡ false = grind (arith, nat_tests) in
    let next : at + 1 + k ≡ at + suc k = omega arith in
    let whole : (at + 1 + k) % 16 ≡ 0 = ap (λ i. i % 16) next ∙ e in
    begins false (at % 16 == 0) (row_shown all name at (take 16 (b ∷ rest))) (area_text all name (at + 1) rest) none
    ∙ between all name k (omega arith) (at + 1) rest whole
    ∙ ap (λ i. area_text all name i (drop k rest)) next

-- the line at a multiple of 16, and those after it
pub turn : (all : Bool) (name : List ℕ) (at : ℕ) (rest : List ℕ) → at % 16 ≡ 0 → 0 < length rest
    → area_text all name at rest ≡ row_shown all name at (take 16 rest) ++ area_text all name (at + 16) (drop 16 rest)
turn all name at [] e h = absurd (omega arith)
turn all name at (b ∷ rest) e h =
    let here : (at % 16 == 0) ≡ true = grind (arith, nat_tests) in
    let next : at + 1 + 15 ≡ at + 16 = omega arith in
    begins true (at % 16 == 0) (row_shown all name at (take 16 (b ∷ rest))) (area_text all name (at + 1) rest) here
    ∙ ap (λ more. row_shown all name at (take 16 (b ∷ rest)) ++ more) (between all name 15 (omega arith) (at + 1) rest (omega arith))
    ∙ ap (λ i. row_shown all name at (take 16 (b ∷ rest)) ++ area_text all name i (drop 15 rest)) next

-- what is written and the lines that are left, one line further
pub further : (all : Bool) (name : List ℕ) (at : ℕ) (bytes out more whole : List ℕ) → at % 16 ≡ 0 → at < length bytes
    → out ++ area_text all name at (drop at bytes) ≡ whole → more ≡ out ++ row_shown all name at (take 16 (drop at bytes))
    → more ++ area_text all name (at + 16) (drop (at + 16) bytes) ≡ whole
further all name at bytes out more whole e h w m =
    let some : 0 < length (drop at bytes) = simp length-drop (omega arith) in
    let rest : drop 16 (drop at bytes) ≡ drop (at + 16) bytes = drop-drop 16 at bytes in
    let shown = row_shown all name at (take 16 (drop at bytes)) in
    let behind : area_text all name (at + 16) (drop 16 (drop at bytes)) ≡ area_text all name (at + 16) (drop (at + 16) bytes) =
    ap (area_text all name (at + 16)) rest in
    let here = turn all name at (drop at bytes) e some in
    ap (λ front. front ++ area_text all name (at + 16) (drop (at + 16) bytes)) m
    ∙ append_assoc out shown (area_text all name (at + 16) (drop (at + 16) bytes))
    ∙ ap (λ back. out ++ (shown ++ back)) (sym behind)
    ∙ ap (λ back. out ++ back) (sym here)
    ∙ w
