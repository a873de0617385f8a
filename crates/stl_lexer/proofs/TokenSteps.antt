-- A text has the tokens of its first piece, and then those of what stands after it.
use Rattle.std.proofs.Common.{◌≡◌, ℕ, zero, suc, ◌-◌, ◌<◌, ◌≤◌, List, [], ◌∷◌, ◌++◌, length, drop, get_or, Option, Some, Result, Ok, Err, refl, sym, ap, ◌∙◌, arith, append_assoc}
use Rattle.s7_base.specs.Tokens.{Piece, piece_at, piece_size, token_of, line_behind, prepend_tokens, with_piece, tokens_from}
use Rattle.s7_base.specs.declared.reason.Rejection.{Rejection}
use Rattle.s7_base.specs.declared.token.Token.{Token}

-- tokens before tokens before others
pub prepend-prepend : (xs ys : List Token) (r : Result (List Token) Rejection) → prepend_tokens xs (prepend_tokens ys r) ≡ prepend_tokens (xs ++ ys) r
prepend-prepend xs ys (Ok zs) = ap Ok (sym (append_assoc xs ys zs))
prepend-prepend xs ys (Err e) = refl

-- no tokens before others
pub prepend_none : (r : Result (List Token) Rejection) → prepend_tokens [] r ≡ r
prepend_none (Ok ts) = refl
prepend_none (Err e) = refl

-- bytes that belong to the piece before are passed over
pub skipped : (n line before : ℕ) (bytes : List ℕ) → n ≤ length bytes
    → tokens_from n line before bytes ≡ tokens_from 0 line (get_or (before ∷ bytes) n 0) (drop n bytes)
skipped zero line before bytes h = refl
skipped (suc n) line before [] h = absurd (omega arith)
skipped (suc n) line before (b ∷ rest) h = skipped n line b rest (omega arith)

-- the piece at the front, and the tokens after it
pub next_piece : (bytes : List ℕ) (piece : Piece) (size line before : ℕ)
    → piece_at bytes ≡ Some piece → piece_size piece ≡ size → 0 < size → size ≤ length bytes
    → tokens_from 0 line before bytes
    ≡ prepend_tokens (token_of piece bytes line before) (tokens_from 0 (line_behind piece line) (get_or bytes (size - 1) 0) (drop size bytes))
next_piece [] piece size line before found same one within = absurd (omega arith)
next_piece (b ∷ rest) piece zero line before found same one within = absurd (omega arith)
next_piece (b ∷ rest) piece (suc k) line before found same one within =
    let less : suc k - 1 ≡ k = omega arith in
    let size : piece_size piece - 1 ≡ k = omega arith in
    let here = λ (p : Piece). prepend_tokens (token_of p (b ∷ rest) line before) (tokens_from (piece_size p - 1) (line_behind p line) b rest) in
    let there = λ (n : ℕ). prepend_tokens (token_of piece (b ∷ rest) line before) (tokens_from n (line_behind piece line) b rest) in
    rw less (ap (λ (o : Option Piece). with_piece o line here) found ∙ ap there size
    ∙ ap (λ (r : Result (List Token) Rejection). prepend_tokens (token_of piece (b ∷ rest) line before) r)
    (skipped k (line_behind piece line) b rest (omega arith)))
