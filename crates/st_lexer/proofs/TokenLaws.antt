-- A text has the tokens of its first piece, and then those of what stands after it.
use Rattle.st_tree.proofs.Common.{◌≡◌, ℕ, zero, suc, ◌-◌, ◌<◌, ◌≤◌, false, List, [], ◌∷◌, ◌++◌, length, take, drop, Option, Some, None, Ok, Err, refl, sym, ap, subst, ◌∙◌, arith, append_assoc, append-nil, length-drop, length-take-le, take-append_seam, drop-append_seam, take-append-drop, Line}
use Rattle.s7_base.specs.declared.reason.Reason.TheVariants.{BadToken}
use Rattle.s7_base.specs.declared.reason.Rejection.TheVariants.{Refused}
use Rattle.st_lexer.proofs.Lines.{ends_on}
use Rattle.st_lexer.proofs.Sizes.{Within, piece_within}
use Rattle.st_lexer.proofs.Common.{Piece, piece_at, piece_size, token_of, line_behind, Cut, prepend_tokens, with_piece, cut_from, great_from, first_bad, answer, answer_to, tokens_of, line_past, Cuts, here, next, StToken}
use Rattle.st_lexer.specs.TokenGrammar.{Stands, NoPiece, TokensAreCut}

abbrev with_bad : Option Line → List StToken → Cut
with_bad bad tokens = record { tokens = tokens; bad = bad }

-- tokens before tokens before others
pub prepend-prepend : (xs ys : List StToken) (c : Cut) → prepend_tokens xs (prepend_tokens ys c) ≡ prepend_tokens (xs ++ ys) c
prepend-prepend xs ys c = ap (with_bad c.bad) (sym (append_assoc xs ys c.tokens))

-- bytes that belong to the piece before are passed over
pub skipped : (n line : ℕ) (bytes : List ℕ) → cut_from n line bytes ≡ cut_from 0 (line_past line (take n bytes)) (drop n bytes)
skipped zero line bytes = refl
skipped (suc n) line [] = refl
skipped (suc n) line (b ∷ rest) = skipped n (line_behind b line) rest

-- the piece at the front, and the tokens after it
pub next_piece : (bytes : List ℕ) (piece : Piece) (size line : ℕ) → piece_at bytes ≡ Some piece → piece_size piece ≡ size → 0 < size →
    cut_from 0 line bytes ≡ prepend_tokens (token_of piece bytes line) (cut_from 0 (line_past line (take size bytes)) (drop size bytes))
next_piece [] piece size line found same one = absurd cc
next_piece (b ∷ rest) piece zero line found same one = absurd (omega arith)
next_piece (b ∷ rest) piece (suc k) line found same one =
    let size : piece_size piece - 1 ≡ k = omega arith in
    let here = λ (p : Piece). prepend_tokens (token_of p (b ∷ rest) line) (cut_from (piece_size p - 1) (line_behind b line) rest) in
    ap (λ (o : Option Piece). with_piece o line here) found
    ∙ ap (λ (n : ℕ). prepend_tokens (token_of piece (b ∷ rest) line) (cut_from n (line_behind b line) rest)) size
    ∙ ap (λ (c : Cut). prepend_tokens (token_of piece (b ∷ rest) line) c) (skipped k (line_behind b line) rest)

-- no piece stands at the front
pub at_no_piece : (line : ℕ) (rest : List ℕ) → 0 < length rest → piece_at rest ≡ None → cut_from 0 line rest ≡ with_bad (Some (record { 0 = line })) []
at_no_piece line [] some none = absurd (omega (arith, some))
at_no_piece line (b ∷ rest) some none =
    ap (λ (o : Option Piece). with_piece o line (λ p. prepend_tokens (token_of p (b ∷ rest) line) (cut_from (piece_size p - 1) (line_behind b line) rest))) none

-- the piece at the front has a byte
pub piece_some : (bytes : List ℕ) (piece : Piece) → piece_at bytes ≡ Some piece → (0 < piece_size piece) × (piece_size piece ≤ length bytes)
piece_some bytes piece found =
    let P : Option Piece → Type 0 = Within piece_size (length bytes) in
    let w : Within piece_size (length bytes) (Some piece) = subst P found (piece_within bytes) in
    (w.some, w.enough)

-- The tokens and the cuts

-- the tokens of a text whose first piece is these bytes
front_piece : (piece : Piece) (front rest : List ℕ) (line : ℕ) → Stands piece front rest →
    cut_from 0 line (front ++ rest) ≡ prepend_tokens (token_of piece (front ++ rest) line) (cut_from 0 (line_past line front) rest)
front_piece piece front rest line stands =
    let whole = front ++ rest in
    let some = piece_some whole piece stands.found in
    let first : take (length front) whole ≡ front = take-append_seam front rest in
    let left : drop (length front) whole ≡ rest = drop-append_seam front rest in
    next_piece whole piece (length front) line stands.found stands.size (omega (arith, some.0, stands.size))
    ∙ ap (λ (bs : List ℕ). prepend_tokens (token_of piece whole line) (cut_from 0 (line_past line bs) (drop (length front) whole))) first
    ∙ ap (λ (bs : List ℕ). prepend_tokens (token_of piece whole line) (cut_from 0 (line_past line front) bs)) left

cut_tokens : {line end : ℕ} {bytes rest : List ℕ} {tokens : List StToken} → Cuts line bytes tokens end rest → (after : Cut) →
    cut_from 0 end rest ≡ after → cut_from 0 line bytes ≡ prepend_tokens tokens after
cut_tokens here after e = e
cut_tokens (next piece front {line = line} {more = more} {tokens = tokens} stands cuts) after e =
    front_piece piece front more line stands
    ∙ ap (λ (c : Cut). prepend_tokens (token_of piece (front ++ more) line) c) (cut_tokens cuts after e)
    ∙ prepend-prepend (token_of piece (front ++ more) line) tokens after

-- a text that is cut to its end
to_end : (bytes : List ℕ) (tokens : List StToken) (line : ℕ) → Cuts 1 bytes tokens line [] → cut_from 0 1 bytes ≡ with_bad None tokens
to_end bytes tokens line cuts = cut_tokens cuts (with_bad None []) refl ∙ ap (with_bad None) (append-nil tokens)

-- a text that is cut up to where no piece stands
to_bad : (bytes : List ℕ) (tokens : List StToken) (line : ℕ) (rest : List ℕ) → Cuts 1 bytes tokens line rest → NoPiece rest →
    cut_from 0 1 bytes ≡ with_bad (Some (record { 0 = line })) tokens
to_bad bytes tokens line rest cuts none =
    cut_tokens cuts (with_bad (Some (record { 0 = line })) []) (at_no_piece line rest none.some none.none)
    ∙ ap (with_bad (Some (record { 0 = line }))) (append-nil tokens)

-- the answer to a cut, by its first decimal that is too great
answered : (bytes : List ℕ) (tokens : List StToken) (bad great : Option Line) → cut_from 0 1 bytes ≡ with_bad bad tokens → great_from false tokens ≡ great →
    tokens_of bytes ≡ answer (first_bad great bad) tokens
unfolding tokens_of
answered bytes tokens bad great e f = ap answer_to e ∙ ap (λ (o : Option Line). answer (first_bad o bad) tokens) f

complete : (bytes : List ℕ) (tokens : List StToken) (line : ℕ) → Cuts 1 bytes tokens line [] → great_from false tokens ≡ None → tokens_of bytes ≡ Ok tokens
complete bytes tokens line cuts e = answered bytes tokens None None (to_end bytes tokens line cuts) e

great : (bytes : List ℕ) (tokens : List StToken) (end : ℕ) (line : Line) →
    Cuts 1 bytes tokens end [] → great_from false tokens ≡ Some line → tokens_of bytes ≡ Err (Refused line BadToken)
great bytes tokens end line cuts e = answered bytes tokens None (Some line) (to_end bytes tokens end cuts) e

great_before : (bytes : List ℕ) (tokens : List StToken) (end : ℕ) (line : Line) (rest : List ℕ) →
    Cuts 1 bytes tokens end rest → NoPiece rest → great_from false tokens ≡ Some line → tokens_of bytes ≡ Err (Refused line BadToken)
great_before bytes tokens end line rest cuts none e = answered bytes tokens (Some (record { 0 = end })) (Some line) (to_bad bytes tokens end rest cuts none) e

bad : (bytes : List ℕ) (tokens : List StToken) (line : ℕ) (rest : List ℕ) →
    Cuts 1 bytes tokens line rest → NoPiece rest → great_from false tokens ≡ None
    → tokens_of bytes ≡ Err (Refused (record { 0 = line }) BadToken)
bad bytes tokens line rest cuts none e = answered bytes tokens (Some (record { 0 = line })) None (to_bad bytes tokens line rest cuts none) e

-- A text that has tokens is cut

-- a cut that goes to the end, with these tokens
abbrev IsCut : ℕ → Type 0
IsCut n =
    (line : ℕ) (bytes : List ℕ) → length bytes ≤ n → (cut_from 0 line bytes).bad ≡ None → (end : ℕ) × Cuts line bytes (cut_from 0 line bytes).tokens end []

cut_piece : (n : ℕ) → IsCut n → (line : ℕ) (bytes : List ℕ) (piece : Piece) → length bytes ≤ suc n → piece_at bytes ≡ Some piece →
    (cut_from 0 line bytes).bad ≡ None → (end : ℕ) × Cuts line bytes (cut_from 0 line bytes).tokens end []
cut_piece n cut line bytes piece h found e =
    let w = piece_some bytes piece found in
    let front = take (piece_size piece) bytes in
    let more = drop (piece_size piece) bytes in
    let whole : front ++ more ≡ bytes = take-append-drop (piece_size piece) bytes in
    let size : piece_size piece ≡ length front = sym (length-take-le (piece_size piece) bytes w.1) in
    let stands : Stands piece front more = record { found = ap piece_at whole ∙ found; size = size } in
    let less : length more ≤ n = omega (arith, length-drop (piece_size piece) bytes, w.0, h) in
    let here : cut_from 0 line bytes ≡ prepend_tokens (token_of piece (front ++ more) line) (cut_from 0 (line_past line front) more) =
    ap (λ (bs : List ℕ). cut_from 0 line bs) (sym whole) ∙ front_piece piece front more line stands in
    let c = cut (line_past line front) more less (sym (ap (λ (c : Cut). c.bad) here) ∙ e) in
    let Q : List ℕ → Type 0 = λ bs. Cuts line bs (token_of piece (front ++ more) line ++ (cut_from 0 (line_past line front) more).tokens) c.0 [] in
    let R : List StToken → Type 0 = λ ts. Cuts line bytes ts c.0 [] in
    (c.0, subst R (sym (ap (λ (c : Cut). c.tokens) here)) (subst Q whole (next piece front stands c.1)))

cut_found : (n : ℕ) → IsCut n → (line b : ℕ) (rest : List ℕ) (o : Option Piece) → length rest ≤ n → piece_at (b ∷ rest) ≡ o →
    (cut_from 0 line (b ∷ rest)).bad ≡ None → (end : ℕ) × Cuts line (b ∷ rest) (cut_from 0 line (b ∷ rest)).tokens end []
cut_found n cut line b rest (Some piece) h found e = cut_piece n cut line (b ∷ rest) piece (omega arith) found e
cut_found n cut line b rest None h found e =
    let place : Line = record { 0 = line } in
    let clash : Some place ≡ None = sym (ap (λ (c : Cut). c.bad) (at_no_piece line (b ∷ rest) (omega arith) found)) ∙ e in
    absurd cc

is_cut : (n : ℕ) → IsCut n
is_cut n line [] h e = (line, here)
is_cut zero line (b ∷ rest) h e = absurd (omega arith)
is_cut (suc n) line (b ∷ rest) h e = cut_found n (is_cut n) line b rest (piece_at (b ∷ rest)) (omega arith) refl e

-- an answer that is tokens is those of the cut
answered_ok : (great bad : Option Line) (ts tokens : List StToken)
    → answer (first_bad great bad) ts ≡ Ok tokens → (great ≡ None) × ((bad ≡ None) × (ts ≡ tokens))
answered_ok (Some line) bad ts tokens e = absurd cc
answered_ok None (Some line) ts tokens e = absurd cc
answered_ok None None ts tokens e = (refl, (refl, cc))

sound : (bytes : List ℕ) (tokens : List StToken) → tokens_of bytes ≡ Ok tokens → ((line : ℕ) × Cuts 1 bytes tokens line []) × (great_from false tokens ≡ None)
unfolding tokens_of
sound bytes tokens e =
    let c = cut_from 0 1 bytes in
    let a = answered_ok (great_from false c.tokens) c.bad c.tokens tokens e in
    let P : List StToken → Type 0 = λ ts. ((line : ℕ) × Cuts 1 bytes ts line []) × (great_from false ts ≡ None) in
    subst P a.1.1 (is_cut (length bytes) 1 bytes (omega arith) a.1.0, a.0)

-- the tokens are those of the cuts
pub agree : TokensAreCut
agree = record { sound = sound; complete = complete; great = great; great_before = great_before; bad = bad; ends = ends_on }
