-- How the lexer's loops follow the definition of the tokens.
use Rattle.st_tree.proofs.Common.{◌≡◌, ℕ, suc, ◌+◌, ◌<◌, false, ◌==◌, ◌&&◌, List, [], ◌∷◌, ◌++◌, length, take, drop, get_or, Option, Some, None, refl, sym, ap, ◌∙◌, arith, option_map, begins_with, Line}
use Rattle.st_lexer.proofs.TokenLaws.{prepend-prepend, next_piece, piece_some}
use Rattle.st_lexer.proofs.Common.{Piece, piece_at, piece_size, token_of, comment_size, Cut, prepend_tokens, cut_from, great_from, first_bad, answer, answer_to, tokens_of, line_past, StToken}

-- one turn of the loop
pub after_piece : (tokens more : List StToken) (piece : Piece) (bytes : List ℕ) (line : ℕ) (whole : Cut) → piece_at bytes ≡ Some piece →
    prepend_tokens tokens (cut_from 0 line bytes) ≡ whole → more ≡ tokens ++ token_of piece bytes line
    → prepend_tokens more (cut_from 0 (line_past line (take (piece_size piece) bytes)) (drop (piece_size piece) bytes)) ≡ whole
after_piece tokens more piece bytes line whole found e put =
    let behind = cut_from 0 (line_past line (take (piece_size piece) bytes)) (drop (piece_size piece) bytes) in
    ap (λ (xs : List StToken). prepend_tokens xs behind) put
    ∙ sym (prepend-prepend tokens (token_of piece bytes line) behind)
    ∙ ap (λ (c : Cut). prepend_tokens tokens c) (sym (next_piece bytes piece (piece_size piece) line found refl (piece_some bytes piece found).0))
    ∙ e

plus_one : (size : ℕ) (o : Option ℕ) → option_map (λ n. size + n) (option_map suc o) ≡ option_map (λ n. size + 1 + n) o
plus_one size None = refl
plus_one size (Some n) = ap Some (omega arith)

-- one turn of the search for the end of a comment
pub after_byte : (size : ℕ) (rest : List ℕ) (whole : Option ℕ) → 0 < length rest → (get_or rest 0 0 == 42 && begins_with 41 (drop 1 rest)) ≡ false →
    option_map (λ n. size + n) (comment_size rest) ≡ whole → option_map (λ n. size + 1 + n) (comment_size (drop 1 rest)) ≡ whole
after_byte size [] whole some h e = absurd (omega arith)
after_byte size (b ∷ rest) whole some h e =
    let one : comment_size (b ∷ rest) ≡ option_map suc (comment_size rest) = rw h refl in
    sym (plus_one size (comment_size rest)) ∙ ap (λ (o : Option ℕ). option_map (λ n. size + n) o) (sym one) ∙ e

-- the answer to a text by its cut
pub cut_answered : (bytes : List ℕ) (tokens : List StToken) (bad great : Option Line) → record { tokens = tokens; bad = bad } ≡ cut_from 0 1 bytes →
    great ≡ great_from false tokens → tokens_of bytes ≡ answer (first_bad great bad) tokens
unfolding tokens_of
cut_answered bytes tokens bad great e f = ap answer_to (sym e) ∙ ap (λ (o : Option Line). answer (first_bad o bad) tokens) (sym f)
