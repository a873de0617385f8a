-- The tokens of a text are those of its cut, and a bad token stands where the cut stops.
use Rattle.std.proofs.Common.{◌≡◌, ℕ, zero, suc, ◌-◌, ◌<◌, ◌≤◌, List, [], ◌∷◌, ◌++◌, length, drop, get_or, Option, Some, None, Result, Ok, Err, refl, sym, ap, subst, ◌∙◌, arith, append-nil, length-append}
use Rattle.std.proofs.Math.Seq.{drop-append_seam}
use Rattle.std.specs.Prelude.{IfSome}
use Rattle.s7_base.specs.Tokens.{Piece as Found, piece_at, piece_size, token_of, line_behind, prepend_tokens, with_piece, tokens_from, tokens_of}
use Rattle.s7_base.specs.declared.reason.Reason.TheVariants.{BadToken}
use Rattle.s7_base.specs.declared.reason.Rejection.{Rejection}
use Rattle.s7_base.specs.declared.reason.Rejection.TheVariants.{Refused}
use Rattle.s7_base.specs.declared.token.Token.{Token}
use Rattle.stl_lexer.proofs.Finding.{Reads, reads}
use Rattle.stl_lexer.proofs.Forms.{Agrees, agrees}
use Rattle.stl_lexer.proofs.TokenSteps.{prepend-prepend, prepend_none, next_piece}
use Rattle.stl_lexer.specs.Pieces.{Piece, NoPiece, line_past, last_of, tokens_in, Cuts, here, next, BadAt, TokensAreCut}

last_append : (before : ℕ) (front rest : List ℕ) (k : ℕ) → length front ≡ suc k → get_or (front ++ rest) k 0 ≡ last_of before front
last_append before [] rest k h = absurd (omega arith)
last_append before (b ∷ []) rest zero h = refl
last_append before (b ∷ []) rest (suc k) h = absurd (omega arith)
last_append before (b ∷ c ∷ front) rest zero h = absurd (omega arith)
last_append before (b ∷ c ∷ front) rest (suc k) h = last_append b (c ∷ front) rest k (omega arith)

-- the tokens of a text at whose front a form stands
front_piece : (piece : Piece) (front rest : List ℕ) (line before : ℕ) → Agrees piece front rest →
    tokens_from 0 line before (front ++ rest) ≡ prepend_tokens (tokens_in piece line before) (tokens_from 0 (line_past piece line) (last_of before front) rest)
front_piece piece front rest line before a =
    let whole = front ++ rest in
    let some : 0 < length front = a.some in
    let last : get_or whole (length front - 1) 0 ≡ last_of before front = last_append before front rest (length front - 1) (omega arith) in
    next_piece whole a.found (length front) line before a.at a.size some (omega (arith, length-append front rest))
    ∙ ap (λ (b : ℕ). prepend_tokens (token_of a.found whole line before) (tokens_from 0 (line_behind a.found line) b (drop (length front) whole))) last
    ∙ ap (λ (bs : List ℕ). prepend_tokens (token_of a.found whole line before) (tokens_from 0 (line_behind a.found line) (last_of before front) bs))
    (drop-append_seam front rest)
    ∙ ap (λ (ts : List Token). prepend_tokens ts (tokens_from 0 (line_behind a.found line) (last_of before front) rest)) (a.tokens line before)
    ∙ ap (λ (n : ℕ). prepend_tokens (tokens_in piece line before) (tokens_from 0 n (last_of before front) rest)) (a.line line)

-- where no form stands the definition finds no piece
none_found : (bytes : List ℕ) → NoPiece bytes → piece_at bytes ≡ None
none_found bytes none = at (piece_at bytes) (reads bytes)
  where
    at : (o : Option Found) → IfSome o (λ found. Reads bytes) → o ≡ None
    at None h = refl
    at (Some found) h = absurd (none.none h.piece h.front h.rest (sym h.whole) h.is)

-- where the definition finds no piece no form stands
none_stands : (b : ℕ) (rest : List ℕ) → piece_at (b ∷ rest) ≡ None → NoPiece (b ∷ rest)
none_stands b rest none = record {
  some = omega arith;
  none = λ piece front more whole is. let a = agrees is in let clash : Some a.found ≡ None = sym a.at ∙ ap piece_at (sym whole) ∙ none in absurd cc;
}

at_no_piece : (line before b : ℕ) (rest : List ℕ) → piece_at (b ∷ rest) ≡ None
    → tokens_from 0 line before (b ∷ rest) ≡ Err (Refused (record { 0 = line }) BadToken)
at_no_piece line before b rest none =
    ap (λ (o : Option Found). with_piece o line
    (λ p. prepend_tokens (token_of p (b ∷ rest) line before) (tokens_from (piece_size p - 1) (line_behind p line) b rest))) none

stops : (line before : ℕ) (rest : List ℕ) → NoPiece rest → tokens_from 0 line before rest ≡ Err (Refused (record { 0 = line }) BadToken)
stops line before [] none = absurd (omega (arith, none.some))
stops line before (b ∷ rest) none = at_no_piece line before b rest (none_found (b ∷ rest) none)

-- From the cut to the tokens

cut_tokens : {line before end : ℕ} {bytes rest : List ℕ} {tokens : List Token}
    → Cuts line before bytes tokens end rest → (after : ℕ → Result (List Token) Rejection)
    → ((b : ℕ) → tokens_from 0 end b rest ≡ after b) → (last : ℕ) × (tokens_from 0 line before bytes ≡ prepend_tokens tokens (after last))
cut_tokens (here {line = line} {before = before} {rest = rest}) after e = (before, e before ∙ sym (prepend_none (after before)))
cut_tokens (next piece front {line = line} {before = before} {more = more} {tokens = tokens} is cuts) after e =
    let behind = cut_tokens cuts after e in (
      behind.0,
      front_piece piece front more line before (agrees is)
          ∙ ap (λ (r : Result (List Token) Rejection). prepend_tokens (tokens_in piece line before) r) behind.1
          ∙ prepend-prepend (tokens_in piece line before) tokens (after behind.0),
    )

complete : (bytes : List ℕ) (tokens : List Token) (line : ℕ) → Cuts 1 10 bytes tokens line [] → tokens_of bytes ≡ Ok tokens
unfolding tokens_of
complete bytes tokens line cuts =
    let none : List Token = [] in
    let after : ℕ → Result (List Token) Rejection = λ (b : ℕ). Ok none in
    let c = cut_tokens cuts after (λ (b : ℕ). refl) in
    c.1 ∙ ap Ok (append-nil tokens)

bad : (bytes : List ℕ) (line : ℕ) → BadAt bytes line → tokens_of bytes ≡ Err (Refused (record { 0 = line }) BadToken)
unfolding tokens_of
bad bytes line b =
    let after : ℕ → Result (List Token) Rejection = λ (b : ℕ). Err (Refused (record { 0 = line }) BadToken) in
    (cut_tokens b.cut after (λ (x : ℕ). stops line x b.rest b.none)).1

-- From the tokens to the cut

-- the text ends, or no piece stands at its front
data Over : List ℕ → Type 0 where
  ended : Over []
  stopped : {rest : List ℕ} → NoPiece rest → Over rest

-- a cut up to a rest, where the text ends or no piece stands, and what the tokens are by it
record Cut (line before : ℕ) (bytes : List ℕ) : Type 0 where
  tokens : List Token
  end : ℕ
  rest : List ℕ
  cut : Cuts line before bytes tokens end rest
  over : Over rest

abbrev IsCut : ℕ → Type 0
IsCut n = (line before : ℕ) (bytes : List ℕ) → length bytes ≤ n → Cut line before bytes

cut_at : (n : ℕ) → IsCut n → (line before b : ℕ) (rest : List ℕ) (o : Option Found) → length rest ≤ n
    → piece_at (b ∷ rest) ≡ o → IfSome o (λ found. Reads (b ∷ rest)) → Cut line before (b ∷ rest)
cut_at n cut line before b rest None h found r =
    record { tokens = []; end = line; rest = b ∷ rest; cut = here; over = stopped (none_stands b rest found) }
cut_at n cut line before b rest (Some piece) h found r =
    let a = agrees r.is in
    let less : length r.rest ≤ n = omega (arith, ap length r.whole, length-append r.front r.rest, a.some) in
    let c = cut (line_past r.piece line) (last_of before r.front) r.rest less in
    let P : List ℕ → Type 0 = λ bs. Cut line before bs in
    let d : Cut line before (r.front ++ r.rest) = record {
      tokens = tokens_in r.piece line before ++ c.tokens;
      end = c.end;
      rest = c.rest;
      cut = next r.piece r.front r.is c.cut;
      over = c.over;
    } in
    subst P r.whole d

is_cut : (n : ℕ) → IsCut n
is_cut n line before [] h = record { tokens = []; end = line; rest = []; cut = here; over = ended }
is_cut zero line before (b ∷ rest) h = absurd (omega arith)
is_cut (suc n) line before (b ∷ rest) h = cut_at n (is_cut n) line before b rest (piece_at (b ∷ rest)) (omega arith) refl (reads (b ∷ rest))

-- what the tokens are where a text is cut
pub data Judged (bytes : List ℕ) : Type 0 where
  good : (tokens : List Token) (line : ℕ) → Cuts 1 10 bytes tokens line [] → tokens_of bytes ≡ Ok tokens → Judged bytes
  wrong : (line : ℕ) → BadAt bytes line → tokens_of bytes ≡ Err (Refused (record { 0 = line }) BadToken) → Judged bytes

judged_by : (bytes : List ℕ) (tokens : List Token) (end : ℕ) (rest : List ℕ) → Cuts 1 10 bytes tokens end rest → Over rest → Judged bytes
judged_by bytes tokens end [] cut ended = good tokens end cut (complete bytes tokens end cut)
judged_by bytes tokens end rest cut (stopped none) =
    let b : BadAt bytes end = record { tokens = tokens; rest = rest; cut = cut; none = none } in
    wrong end b (bad bytes end b)

judged : (bytes : List ℕ) → Judged bytes
judged bytes = let c = is_cut (length bytes) 1 10 bytes (omega arith) in judged_by bytes c.tokens c.end c.rest c.cut c.over

sound : (bytes : List ℕ) (tokens : List Token) → tokens_of bytes ≡ Ok tokens → (line : ℕ) × Cuts 1 10 bytes tokens line []
sound bytes tokens e = at (judged bytes)
  where
    at : Judged bytes → (line : ℕ) × Cuts 1 10 bytes tokens line []
    at (good found line cut is) = let same : found ≡ tokens = cc in let P : List Token → Type 0 = λ ts. Cuts 1 10 bytes ts line [] in (line, subst P same cut)
    at (wrong line b is) = absurd cc

refused : (bytes : List ℕ) (answer : Rejection) → tokens_of bytes ≡ Err answer
    → (line : ℕ) × (answer ≡ Refused (record { 0 = line }) BadToken) × BadAt bytes line
refused bytes answer e = at (judged bytes)
  where
    at : Judged bytes → (line : ℕ) × (answer ≡ Refused (record { 0 = line }) BadToken) × BadAt bytes line
    at (good found line cut is) = absurd cc
    at (wrong line b is) = (line, cc, b)

-- the tokens are those of the cuts
pub agree : TokensAreCut
agree = record { sound = sound; complete = complete; refused = refused; bad = bad }
