-- What is read of a text from a place on, one piece before what is read after it.
use Rattle.st_tree.proofs.Common.{◌≡◌, ℕ, suc, zero, ◌-◌, Bool, true, false, not, ◌==◌, List, [], ◌∷◌, ◌++◌, length, map, Option, Some, None, refl, sym, ap, subst, ◌∙◌, arith, append_assoc, codes, list_all, nat_tests, take-append_seam, begins_with, is_word_byte, line_after, Line, blanks}
use Rattle.st_lexer.proofs.Words.{and_both, if_false, not_true, word_stands}
use Rattle.st_lexer.proofs.Common.{literal_at, ends_word, is_letter, Piece, gap, token, piece_at, piece_size, token_of, line_behind, Cut, prepend_tokens, with_piece, cut_from, is_great, great_from, line_past, StKind, StToken}
use Rattle.st_lexer.specs.SpellingLaws.{IsToken}
use Rattle.st_lexer.specs.StTokens.{has_text}
use Rattle.st_tree.specs.declared.token.StKind.TheVariants as sort
use Rattle.st_text_laws.proofs.Common.{on, AreSpelled, is_spelled, GrammarKind}
use Rattle.st_grammar.specs.Kinds.{kind_of, sign_named, text_kind}
use Rattle.st_grammar.specs.declared.kind.Fixed.TheVariants as fixed
use Rattle.st_grammar.specs.declared.kind.GrammarKind.TheVariants as kind
use Rattle.st_tree.specs.Spelling.{line as line_text}
use Rattle.st_tree.specs.declared.expr.BinaryOp.TheVariants as binary

-- the first of some kinds is `*`
abbrev pub begins_with_times : List GrammarKind → Bool
begins_with_times (kind.Fixed (fixed.Between binary.Mul) ∷ more) = true
begins_with_times other = false

-- the bytes from a line on are cut to their end, none of their decimals is too great, and these are the
-- kinds of their tokens, with the end; no other token than `*` begins with it
pub record IsCut (line : ℕ) (bytes : List ℕ) (kinds : List GrammarKind) : Type 0 where
  pub tokens : List StToken
  pub cut : cut_from 0 line bytes ≡ record { tokens = tokens; bad = None }
  pub same : map kind_of tokens ++ kind.Fixed fixed.End ∷ [] ≡ kinds
  pub calm : (behind : Bool) → great_from behind tokens ≡ None
  pub star : begins_with 42 bytes ≡ true → begins_with_times kinds ≡ true

-- and they are, where tokens can have these kinds
pub record ReadsOn (line : ℕ) (bytes : List ℕ) (kinds : List GrammarKind) : Type 0 where
  pub read : AreSpelled kinds → IsCut line bytes kinds

-- a token may be read as one of its kind
pub where_spelled : {line : ℕ} {bytes : List ℕ} {k : GrammarKind} {ks : List GrammarKind}
    → (is_spelled k ≡ true → ReadsOn line bytes (k ∷ ks)) → ReadsOn line bytes (k ∷ ks)
where_spelled reads = record { read = λ s. (reads s.0).read s }

-- the end of a text
pub reads_end : (line : ℕ) → ReadsOn line [] (kind.Fixed fixed.End ∷ [])
reads_end line = record { read = λ s. record { tokens = []; cut = refl; same = refl; calm = λ behind. refl; star = λ h. absurd cc } }

-- the same bytes in another form
pub reads_as : {line : ℕ} {a b : List ℕ} {ks : List GrammarKind} → a ≡ b → ReadsOn line b ks → ReadsOn line a ks
reads_as {line} {a} {b} {ks} e r = subst (λ (x : List ℕ). ReadsOn line x ks) (sym e) r

-- no byte ends a line
abbrev pub has_no_line : List ℕ → Bool
has_no_line text = list_all (λ b. not (b == 10)) text

-- bytes that belong to the piece before are passed over
skipped : (w : List ℕ) (line : ℕ) (more : List ℕ) → cut_from (length w) line (w ++ more) ≡ cut_from 0 (line_past line w) more
skipped [] line more = refl
skipped (b ∷ w) line more = skipped w (line_behind b line) more

-- a text without an end of line leaves the line
past_none : (line : ℕ) (w : List ℕ) → has_no_line w ≡ true → line_past line w ≡ line
past_none line [] h = refl
past_none line (b ∷ w) h =
    let both = and_both (not (b == 10)) (has_no_line w) h in
    ap (λ (n : ℕ). line_past n w) (if_false (b == 10) (line_after line) line (not_true (b == 10) both.0)) ∙ past_none line w both.1

-- one piece
pieced : (b : ℕ) (w more : List ℕ) (piece : Piece) (line : ℕ) → piece_at (b ∷ (w ++ more)) ≡ Some piece → piece_size piece ≡ suc (length w)
    → cut_from 0 line (b ∷ (w ++ more)) ≡ prepend_tokens (token_of piece (b ∷ (w ++ more)) line) (cut_from 0 (line_past line (b ∷ w)) more)
pieced b w more piece line found size =
    let less : piece_size piece - 1 ≡ length w = omega arith in
    let here = λ (p : Piece). prepend_tokens (token_of p (b ∷ (w ++ more)) line) (cut_from (piece_size p - 1) (line_behind b line) (w ++ more)) in
    ap (λ (o : Option Piece). with_piece o line here) found
    ∙ ap (λ (n : ℕ). prepend_tokens (token_of piece (b ∷ (w ++ more)) line) (cut_from n (line_behind b line) (w ++ more))) less
    ∙ ap (λ (c : Cut). prepend_tokens (token_of piece (b ∷ (w ++ more)) line) c) (skipped w (line_behind b line) more)

-- a token that is no great decimal before others
calm_before : (first : StToken) (rest : List StToken) (behind : Bool)
    → is_great first.kind (literal_at first.text) ≡ false → ((b : Bool) → great_from b rest ≡ None)
    → great_from behind (first ∷ rest) ≡ None
calm_before first rest behind small calm = rw small (calm (has_text (codes "..") first))

star_at : (more : List ℕ) → piece_at (42 ∷ more) ≡ Some (token sort.Sign 1)
star_at [] = refl
star_at (b ∷ more) = refl

star_alone : (of : StKind) (w : List ℕ) (line : Line) (ks : List GrammarKind) → Some (token of (suc (length w))) ≡ Some (token sort.Sign 1)
    → begins_with_times (text_kind of (42 ∷ w) line ∷ ks) ≡ true
unfolding sign_named
star_alone sort.Sign [] line ks e = refl
star_alone sort.Sign (b ∷ w) line ks e = absurd (let size : suc (suc (length w)) ≡ 1 = cc in omega (arith, size))
star_alone other w line ks e = absurd cc

-- only `*` is a token that begins with it
star_is_times : (of : StKind) (b : ℕ) (w more : List ℕ) (line : Line) (ks : List GrammarKind)
    → piece_at (b ∷ (w ++ more)) ≡ Some (token of (suc (length w))) → (b == 42) ≡ true
    → begins_with_times (text_kind of (b ∷ w) line ∷ ks) ≡ true
star_is_times of b w more line ks found h =
    let is : b ≡ 42 = grind (arith, nat_tests) in
    subst (λ x. begins_with_times (text_kind of (x ∷ w) line ∷ ks) ≡ true) (sym is)
    (star_alone of w line ks (sym found ∙ ap (λ (x : ℕ). piece_at (x ∷ (w ++ more))) is ∙ star_at (w ++ more)))

-- one token
pub reads_token : {line : ℕ} {more : List ℕ} {k : GrammarKind} {ks : List GrammarKind} (sort : StKind) (b : ℕ) (w : List ℕ)
    → piece_at (b ∷ (w ++ more)) ≡ Some (token sort (suc (length w)))
    → has_no_line (b ∷ w) ≡ true → text_kind sort (b ∷ w) (on line) ≡ k → is_great sort (literal_at (b ∷ w)) ≡ false → ReadsOn line more ks
    → ReadsOn line (b ∷ (w ++ more)) (k ∷ ks)
reads_token {line} {more} {k} {ks} sort b w found plain same small r = record {
  read = λ s.
      let c = r.read s.1 in
      let here : StToken = record { kind = sort; text = b ∷ w; line = on line } in
      record {
        tokens = here ∷ c.tokens;
        cut = pieced b w more (token sort (suc (length w))) line found refl
            ∙ ap (λ (n : ℕ). prepend_tokens (token_of (token sort (suc (length w))) (b ∷ (w ++ more)) line) (cut_from 0 n more)) (past_none line (b ∷ w) plain)
            ∙ ap (λ (x : Cut). prepend_tokens (token_of (token sort (suc (length w))) (b ∷ (w ++ more)) line) x) c.cut
            ∙ ap (λ (text : List ℕ). record { tokens = record { kind = sort; text = text; line = on line } ∷ c.tokens; bad = None })
            (take-append_seam (b ∷ w) more);
        same = ap (λ (x : GrammarKind). x ∷ (map kind_of c.tokens ++ kind.Fixed fixed.End ∷ [])) same ∙ ap (λ (xs : List GrammarKind). k ∷ xs) c.same;
        calm = λ behind. calm_before here c.tokens behind small c.calm;
        star = λ h. subst (λ (x : GrammarKind). begins_with_times (x ∷ ks) ≡ true) same (star_is_times sort b w more (on line) ks found h);
      };
}

-- a text that is a token of a sort
pub reads_text : {line : ℕ} {more : List ℕ} {k : GrammarKind} {ks : List GrammarKind} (sort : StKind) (text : List ℕ)
    → IsToken sort text → ends_word more ≡ true
    → has_no_line text ≡ true
    → text_kind sort text (on line) ≡ k → is_great sort (literal_at text) ≡ false → ReadsOn line more ks → ReadsOn line (text ++ more) (k ∷ ks)
reads_text sort [] is ends plain same small r = absurd (let none = (is [] refl).found in cc)
reads_text {more = more} sort (b ∷ w) is ends plain same small r = reads_token sort b w (is more ends).found plain same small r

-- a blank or an end of a line
reads_gap : (b : ℕ) {line : ℕ} {more : List ℕ} {ks : List GrammarKind}
    → piece_at (b ∷ more) ≡ Some (gap 1) → (b == 42) ≡ false → ReadsOn (line_behind b line) more ks
    → ReadsOn line (b ∷ more) ks
reads_gap b {line} {more} {ks} found other r = record {
  read = λ s.
      let c = r.read s in
      record {
        tokens = c.tokens;
        cut = pieced b [] more (gap 1) line found refl ∙ ap (λ (x : Cut). prepend_tokens [] x) c.cut;
        same = c.same;
        calm = c.calm;
        star = λ h. absurd cc;
      };
}

-- one blank
pub reads_blank : {line : ℕ} {more : List ℕ} {ks : List GrammarKind} → ReadsOn line more ks → ReadsOn line (32 ∷ more) ks
reads_blank r = reads_gap 32 refl refl r

-- the end of a line
pub reads_line_end : {line : ℕ} {more : List ℕ} {ks : List GrammarKind} → ReadsOn (line_after line) more ks → ReadsOn line (10 ∷ more) ks
reads_line_end r = reads_gap 10 refl refl r

pub reads_blanks : (level : ℕ) {line : ℕ} {more : List ℕ} {ks : List GrammarKind} → ReadsOn line more ks → ReadsOn line (blanks level ++ more) ks
reads_blanks zero r = r
reads_blanks (suc level) r = reads_blank (reads_blank (reads_blank (reads_blank (reads_blanks level r))))

-- a line at a level
pub reads_line : {line : ℕ} {ks : List GrammarKind} (level : ℕ) (text more : List ℕ)
    → ReadsOn line (text ++ 10 ∷ more) ks → ReadsOn line (line_text level text ++ more) ks
unfolding line_text
reads_line level text more r =
    reads_as (append_assoc (blanks level ++ text) (codes "\n") more ∙ append_assoc (blanks level) text (10 ∷ more)) (reads_blanks level r)

word_no_line : (b : ℕ) → is_word_byte b ≡ true → not (b == 10) ≡ true
word_no_line b h = grind (arith, nat_tests)

pub words_no_line : (w : List ℕ) → list_all is_word_byte w ≡ true → has_no_line w ≡ true
words_no_line [] h = refl
words_no_line (b ∷ w) h =
    let both = and_both (is_word_byte b) (list_all is_word_byte w) h in
    rw (word_no_line b both.0, words_no_line w both.1) refl

letter_no_line : (b : ℕ) → is_letter b ≡ true → not (b == 10) ≡ true
letter_no_line b h = grind (arith, nat_tests)

-- a word, with what it stands for
pub reads_word : {line : ℕ} {more : List ℕ} {k : GrammarKind} {ks : List GrammarKind} (b : ℕ) (w : List ℕ) → is_letter b ≡ true → list_all is_word_byte w ≡ true
    → ends_word more ≡ true
    → text_kind sort.Word (b ∷ w) (on line) ≡ k → ReadsOn line more ks → ReadsOn line (b ∷ (w ++ more)) (k ∷ ks)
reads_word {more = more} b w letter all ends same r =
    reads_token sort.Word b w (word_stands b w letter all more ends).found (rw (letter_no_line b letter, words_no_line w all) refl) same refl r
