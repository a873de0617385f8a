-- How the lexer's loop follows the definition of the tokens, piece by piece.
use Rattle.std.proofs.Common.{◌≡◌, ℕ, ◌-◌, ◌<◌, ◌≤◌, List, [], ◌∷◌, ◌++◌, length, drop, get_or, Result, Ok, Err, Option, Some, None, refl, sym, ap, ◌∙◌, arith, append-nil}
use Rattle.stl_lexer.proofs.TokenSteps.{prepend-prepend, next_piece}
use Rattle.s7_base.specs.Tokens.{Piece, piece_at, piece_size, token_of, line_behind, prepend_tokens, with_piece, tokens_from}
use Rattle.s7_base.specs.declared.reason.Reason.TheVariants.{BadToken}
use Rattle.s7_base.specs.declared.reason.Rejection.{Rejection}
use Rattle.s7_base.specs.declared.reason.Rejection.TheVariants.{Refused}
use Rattle.s7_base.specs.declared.token.Token.{Token}

-- the end of the text: there are no more tokens
pub at_end : (tokens : List Token) (line before : ℕ) (rest : List ℕ) (whole : Result (List Token) Rejection) →
    length rest ≡ 0 → prepend_tokens tokens (tokens_from 0 line before rest) ≡ whole → whole ≡ Ok tokens
at_end tokens line before [] whole h e = sym e ∙ ap Ok (append-nil tokens)
at_end tokens line before (b ∷ rest) whole h e = absurd (omega arith)

-- no piece stands at the front of the rest
pub at_bad_token : (tokens : List Token) (line before : ℕ) (rest : List ℕ) (whole : Result (List Token) Rejection) →
    0 < length rest → piece_at rest ≡ None → prepend_tokens tokens (tokens_from 0 line before rest) ≡ whole
    → whole ≡ Err (Refused (record { 0 = line }) BadToken)
at_bad_token tokens line before [] whole some none e = absurd (omega arith)
at_bad_token tokens line before (b ∷ rest) whole some none e =
    sym e
    ∙ ap (λ (o : Option Piece). prepend_tokens tokens
    (with_piece o line (λ p. prepend_tokens (token_of p (b ∷ rest) line before) (tokens_from (piece_size p - 1) (line_behind p line) b rest)))) none

-- one turn of the loop
pub after_piece : (tokens more : List Token) (piece : Piece) (bytes : List ℕ) (line before : ℕ) (whole : Result (List Token) Rejection) →
    piece_at bytes ≡ Some piece → 0 < piece_size piece → piece_size piece ≤ length bytes
    → prepend_tokens tokens (tokens_from 0 line before bytes) ≡ whole → more ≡ tokens ++ token_of piece bytes line before
    → prepend_tokens more (tokens_from 0 (line_behind piece line) (get_or bytes (piece_size piece - 1) 0) (drop (piece_size piece) bytes)) ≡ whole
after_piece tokens more piece bytes line before whole found one within e put =
    ap (λ (xs : List Token). prepend_tokens xs (tokens_from 0 (line_behind piece line) (get_or bytes (piece_size piece - 1) 0) (drop (piece_size piece) bytes)))
    put
    ∙ sym (prepend-prepend tokens (token_of piece bytes line before)
    (tokens_from 0 (line_behind piece line) (get_or bytes (piece_size piece - 1) 0) (drop (piece_size piece) bytes)))
    ∙ ap (λ (r : Result (List Token) Rejection). prepend_tokens tokens r) (sym (next_piece bytes piece (piece_size piece) line before found refl one within))
    ∙ e
