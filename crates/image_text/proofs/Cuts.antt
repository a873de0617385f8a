-- The pieces of a text, one after another.
use Rattle.std.proofs.Common.{◌≡◌, ℕ, suc, ◌+◌, Bool, true, false, not, cond, List, [], ◌∷◌, take, drop, refl, sym, ap, ◌∙◌, subst, arith}
use Rattle.std.specs.List.{slice_split, onto_first, prefix_len}
use Rattle.image_text.specs.inner.Fields.{pieces_left}

-- one byte more before a separator
onto : (p : ℕ → Bool) (b : ℕ) (rest : List ℕ) (n m : ℕ) → m ≡ suc n
    → onto_first b (take n rest ∷ pieces_left p (drop n rest)) ≡ take m (b ∷ rest) ∷ pieces_left p (drop m (b ∷ rest))
onto p b rest n m e = ap (λ k. take k (b ∷ rest) ∷ pieces_left p (drop k (b ∷ rest))) (sym e)

step : (p : ℕ → Bool) (b : ℕ) (rest : List ℕ) (t : Bool) (n : ℕ) → slice_split p rest ≡ take n rest ∷ pieces_left p (drop n rest)
    → cond t ([] ∷ slice_split p rest) (onto_first b (slice_split p rest))
    ≡ take (cond (not t) (1 + n) 0) (b ∷ rest) ∷ pieces_left p (drop (cond (not t) (1 + n) 0) (b ∷ rest))
step p b rest true n e = refl
step p b rest false n e = ap (onto_first b) e ∙ onto p b rest n (1 + n) (omega arith)

-- the first piece ends before the first separator
pub cut : (p : ℕ → Bool) (text : List ℕ)
    → slice_split p text ≡ take (prefix_len (λ b. not (p b)) text) text ∷ pieces_left p (drop (prefix_len (λ b. not (p b)) text) text)
cut p [] = refl
cut p (b ∷ rest) = step p b rest (p b) (prefix_len (λ c. not (p c)) rest) (cut p rest)

-- a text has a first piece
pub has_first : (P : List (List ℕ) → Type 0) → ((x : List ℕ) (xs : List (List ℕ)) → P (x ∷ xs)) → (p : ℕ → Bool) (text : List ℕ) → P (slice_split p text)
has_first P f p text = subst P (sym (cut p text)) (f _ _)
