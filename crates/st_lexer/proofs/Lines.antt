-- The line after some bytes.
use Rattle.st_tree.proofs.Common.{◌≡◌, ℕ, ◌+◌, ◌-◌, ◌^◌, ◌≤◌, Bool, true, false, cond, ◌==◌, List, [], ◌∷◌, ◌++◌, refl, sym, ap, ◌∙◌, arith, min, if◌then◌else◌, line_after, line_at_end}
use Rattle.std.proofs.lemmas.List.Sums.{sum_by-cons}
use Rattle.std.specs.Prelude.{count_by}
use Rattle.st_lexer.proofs.Common.{line_behind, line_past, Cuts, here, next, StToken}

by_test : (test : Bool) (line : ℕ) (past : ℕ → ℕ) (n : ℕ)
    → past (line_after line) ≡ min (line_after line + n) (2 ^ 32 - 1) → past line ≡ min (line + n) (2 ^ 32 - 1)
    → past (if test then line_after line else line) ≡ min (line + (cond test 1 0 + n)) (2 ^ 32 - 1)
by_test true line past n p q = omega (arith, p)
by_test false line past n p q = omega (arith, q)

-- the line after a text is one more than its ends of lines
pub lines_counted : (line : ℕ) (bytes : List ℕ) → line ≤ 2 ^ 32 - 1 → line_past line bytes ≡ min (line + count_by (λ b. b == 10) bytes) (2 ^ 32 - 1)
lines_counted line [] h = omega (arith, h)
lines_counted line (b ∷ rest) h =
    let more : line_after line ≤ 2 ^ 32 - 1 = omega arith in
    by_test (b == 10) line (λ l. line_past l rest) (count_by (λ b. b == 10) rest) (lines_counted (line_after line) rest more) (lines_counted line rest h)
    ∙ ap (λ (n : ℕ). min (line + n) (2 ^ 32 - 1)) (sym (sum_by-cons (λ (x : ℕ). cond (x == 10) 1 0) b rest))

-- the line after two texts
past_both : (line : ℕ) (front rest : List ℕ) → line_past line (front ++ rest) ≡ line_past (line_past line front) rest
past_both line [] rest = refl
past_both line (b ∷ front) rest = past_both (line_behind b line) front rest

cut_line : {line end : ℕ} {bytes rest : List ℕ} {tokens : List StToken} → Cuts line bytes tokens end rest → line_past line bytes ≡ line_past end rest
cut_line here = refl
cut_line (next piece front {line = line} {more = more} stands cuts) = past_both line front more ∙ cut_line cuts

-- a text that is cut to its end ends on its last line
pub ends_on : (bytes : List ℕ) (tokens : List StToken) (line : ℕ) → Cuts 1 bytes tokens line [] → line_at_end bytes ≡ record { 0 = line }
ends_on bytes tokens line cuts =
    let last : line_past 1 bytes ≡ line = cut_line cuts in
    let counted : line_past 1 bytes ≡ min (1 + count_by (λ b. b == 10) bytes) (2 ^ 32 - 1) = lines_counted 1 bytes (omega arith) in
    let same : min (count_by (λ b. b == 10) bytes + 1) (2 ^ 32 - 1) ≡ line = omega (arith, last, counted) in
    ap (λ (n : ℕ). record { 0 = n }) same
