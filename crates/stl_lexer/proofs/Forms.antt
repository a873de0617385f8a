-- A form of piece stands at the front of a text exactly where the definition of tokens finds a piece.
use Rattle.std.proofs.Common.{◌≡◌, ℕ, suc, ◌+◌, ◌-◌, ◌<◌, Bool, true, false, not, cond, ◌&&◌, ◌||◌, ◌==◌, if◌then◌else◌, List, [], ◌∷◌, ◌++◌, length, take, drop, Option, Some, None, refl, sym, ap, ◌∙◌, arith, append_assoc, length-append}
use Rattle.std.proofs.Math.Seq.{drop-append_seam, take-append_seam}
use Rattle.std.proofs.lemmas.Bool.{and_parts, not-true, eqb-true}
use Rattle.std.proofs.lemmas.Bool.Decides.{nat_tests}
use Rattle.std.proofs.lemmas.List.{take-append-drop}
use Rattle.std.specs.List.{prefix_len, list_any, list_all}
use Rattle.std.specs.Prelude.{option_map, codes}
use Rattle.std.specs.Str.{str_eq_ignore_ascii_case}
use Rattle.s7_base.specs.Tokens.{Piece as Found, line_end as found_line_end, gap, token as found_token, piece_at, piece_size, is_blank, is_word_byte, is_sign, is_double_sign, begins_with, after_blanks, line_size, closed_size, word_piece, comment_or_sign, token_of, line_behind}
use Rattle.s7_base.specs.declared.token.TokenKind.TheVariants.{Word, Quoted, Text, Sign}
use Rattle.stl_lexer.specs.Pieces.{Each, Stops, is_in_line, is_inside, IsRun, IsLineRest, MakesTitle, goes_on, Piece, line_end, passed, token, IsPiece, end_of_line, blank, comment, attribute, title, plain_word, quoted_name, quoted_text, double_sign, single_sign, line_past, tokens_in}

-- Runs of bytes that pass a test

run_size : (test : ℕ → Bool) (bytes rest : List ℕ) → Each test bytes → Stops test rest → prefix_len test (bytes ++ rest) ≡ length bytes
run_size test [] [] h s = refl
run_size test [] (b ∷ rest) h s = ap (λ (c : Bool). cond c (1 + prefix_len test rest) 0) s
run_size test (b ∷ bytes) rest h s =
    let e : prefix_len test ((b ∷ bytes) ++ rest) ≡ 1 + prefix_len test (bytes ++ rest) =
    ap (λ (c : Bool). cond c (1 + prefix_len test (bytes ++ rest)) 0) h.0 in
    let more : prefix_len test (bytes ++ rest) ≡ length bytes = run_size test bytes rest h.1 s in
    omega arith

each_at : (test : ℕ → Bool) (b : ℕ) (rest : List ℕ) (t : Bool) → test b ≡ t → Each test (take (prefix_len test rest) rest)
    → Each test (take (cond t (1 + prefix_len test rest) 0) (b ∷ rest))
each_at test b rest true e h = let more : 1 + prefix_len test rest ≡ suc (prefix_len test rest) = omega arith in rw more (e, h)
each_at test b rest false e h = tt

pub run_each : (test : ℕ → Bool) (bytes : List ℕ) → Each test (take (prefix_len test bytes) bytes)
run_each test [] = tt
run_each test (b ∷ rest) = each_at test b rest (test b) refl (run_each test rest)

stops_at : (test : ℕ → Bool) (b : ℕ) (rest : List ℕ) (t : Bool) → test b ≡ t → Stops test (drop (prefix_len test rest) rest)
    → Stops test (drop (cond t (1 + prefix_len test rest) 0) (b ∷ rest))
stops_at test b rest true e h = let more : 1 + prefix_len test rest ≡ suc (prefix_len test rest) = omega arith in rw more h
stops_at test b rest false e h = e

pub run_stops : (test : ℕ → Bool) (bytes : List ℕ) → Stops test (drop (prefix_len test bytes) bytes)
run_stops test [] = tt
run_stops test (b ∷ rest) = stops_at test b rest (test b) refl (run_stops test rest)

-- Tests of the first byte

if_true : {A : Type 0} (b : Bool) (x y : A) → b ≡ true → (if b then x else y) ≡ x
if_true true x y h = refl
if_true false x y h = absurd cc

if_false : {A : Type 0} (b : Bool) (x y : A) → b ≡ false → (if b then x else y) ≡ y
if_false true x y h = absurd cc
if_false false x y h = refl

choose : (P : Option Found → Type 0) (b : Bool) (x y : Option Found) → (b ≡ true → P x) → (b ≡ false → P y) → P (if b then x else y)
choose P true x y p q = p refl
choose P false x y p q = q refl

-- the byte begins neither a line's end, a blank, a word, a quoted name, a text nor an attribute
abbrev is_mark : ℕ → Bool
is_mark a = not (a == 10) && (not (is_blank a) && (not (is_word_byte a) && (not (a == 34) && (not (a == 39) && not (a == 123)))))

all_found : (good : ℕ → Bool) (xs : List ℕ) (a : ℕ) → list_all good xs ≡ true → list_any (λ s. s == a) xs ≡ true → good a ≡ true
all_found good [] a h f = absurd cc
all_found good (x ∷ xs) a h f =
    at_found good x xs a (x == a) refl (and_parts (good x) (list_all good xs) h).0 (λ g. all_found good xs a (and_parts (good x) (list_all good xs) h).1 g) f
  where
    at_found : (good : ℕ → Bool) (x : ℕ) (xs : List ℕ) (a : ℕ) (t : Bool) → (x == a) ≡ t → good x ≡ true → (list_any (λ s. s == a) xs ≡ true → good a ≡ true)
        → (t || list_any (λ s. s == a) xs) ≡ true → good a ≡ true
    at_found good x xs a true e h next f = ap good (sym (eqb-true x a e)) ∙ h
    at_found good x xs a false e h next f = next f

sign_marks : (a : ℕ) → is_sign a ≡ true → is_mark a ≡ true
sign_marks a h = all_found is_mark (codes ":;,.()[]=+-*/<>#") a refl h

double_signs : (a b : ℕ) → is_double_sign a b ≡ true → list_any (λ s. s == a) (codes ":.=<>") ≡ true
double_signs a b h = grind (arith, nat_tests)

double_marks : (a b : ℕ) → is_double_sign a b ≡ true → is_mark a ≡ true
double_marks a b h = all_found is_mark (codes ":.=<>") a refl (double_signs a b h)

at_mark : (a : ℕ) (rest : List ℕ) → is_mark a ≡ true → piece_at (a ∷ rest) ≡ comment_or_sign a rest
at_mark a rest h =
    let p = and_parts _ _ h in
    let q = and_parts _ _ p.1 in
    let r = and_parts _ _ q.1 in
    let s = and_parts _ _ r.1 in
    let t = and_parts _ _ s.1 in
    if_false (a == 10) _ _ (not-true _ p.0) ∙ if_false (is_blank a) _ _ (not-true _ q.0) ∙ if_false (is_word_byte a) _ _ (not-true _ r.0)
    ∙ if_false (a == 34) _ _ (not-true _ s.0) ∙ if_false (a == 39) _ _ (not-true _ t.0) ∙ if_false (a == 123) _ _ (not-true _ t.1)

blank_at : (b : ℕ) (rest : List ℕ) → is_blank b ≡ true → piece_at (b ∷ rest) ≡ Some (gap 1)
blank_at b rest h =
    let no_line : (b == 10) ≡ false = grind (arith, nat_tests) in
    if_false (b == 10) _ _ no_line ∙ if_true (is_blank b) _ _ h

word_at : (b : ℕ) (rest : List ℕ) → is_word_byte b ≡ true → piece_at (b ∷ rest) ≡ Some (word_piece (b ∷ rest))
word_at b rest h =
    let no_line : (b == 10) ≡ false = grind (arith, nat_tests) in
    let no_blank : is_blank b ≡ false = grind (arith, nat_tests) in
    if_false (b == 10) _ _ no_line ∙ if_false (is_blank b) _ _ no_blank ∙ if_true (is_word_byte b) _ _ h

-- The definition's piece at the front of a text is of this form

pub record Agrees (piece : Piece) (front rest : List ℕ) : Type 0 where
  pub found : Found
  pub at : piece_at (front ++ rest) ≡ Some found
  pub size : piece_size found ≡ length front
  pub some : 0 < length front
  pub tokens : (line before : ℕ) → token_of found (front ++ rest) line before ≡ tokens_in piece line before
  pub line : (line : ℕ) → line_behind found line ≡ line_past piece line

-- words and titles

words_found : (word rest : List ℕ) → IsRun word rest → piece_at (word ++ rest) ≡ Some (word_piece (word ++ rest))
words_found [] rest h = absurd (omega (arith, h.some))
words_found (b ∷ word) rest h = word_at b (word ++ rest) h.each.0

abbrev pub is_title : List ℕ → List ℕ → Bool
is_title word rest = str_eq_ignore_ascii_case word (codes "TITLE") && begins_with 61 (after_blanks rest)

abbrev run_piece : List ℕ → List ℕ → Found
run_piece word rest = if is_title word rest then gap (length word + line_size rest) else found_token Word (length word)

run_found : (word rest : List ℕ) → IsRun word rest → piece_at (word ++ rest) ≡ Some (run_piece word rest)
run_found word rest h =
    let bytes = word ++ rest in
    let by_size = λ (n : ℕ).
    if str_eq_ignore_ascii_case (take n bytes) (codes "TITLE") && begins_with 61 (after_blanks (drop n bytes)) then gap (n + line_size (drop n bytes))
    else found_token Word n in
    let by_front = λ (front : List ℕ). if str_eq_ignore_ascii_case front (codes "TITLE") && begins_with 61 (after_blanks (drop (length word) bytes))
    then gap (length word + line_size (drop (length word) bytes))
    else found_token Word (length word) in
    words_found word rest h
    ∙ ap (λ (p : Found). Some p)
    (ap by_size (run_size is_word_byte word rest h.each h.longest)
    ∙ ap by_front (take-append_seam word rest) ∙ ap (run_piece word) (drop-append_seam word rest))

equals_found : (blanks more : List ℕ) → Each is_blank blanks → begins_with 61 (after_blanks (blanks ++ (61 ∷ more))) ≡ true
equals_found blanks more h =
    let bytes = blanks ++ (61 ∷ more) in
    ap (λ (n : ℕ). begins_with 61 (drop n bytes)) (run_size is_blank blanks (61 ∷ more) h refl) ∙ ap (begins_with 61) (drop-append_seam blanks (61 ∷ more))

pub title_is : (word rest : List ℕ) → MakesTitle word rest → is_title word rest ≡ true
title_is word rest h =
    let both : (x y : Bool) → x ≡ true → y ≡ true → (x && y) ≡ true = λ x y p q. cc in
    both _ _ h.title (ap (λ (r : List ℕ). begins_with 61 (after_blanks r)) h.equals ∙ equals_found h.blanks h.more h.blank)

pub begins : (b : ℕ) (bytes : List ℕ) → begins_with b bytes ≡ true → bytes ≡ b ∷ drop 1 bytes
begins b [] h = absurd cc
begins b (x ∷ rest) h = ap (λ (y : ℕ). y ∷ rest) (eqb-true x b h)

pub makes_title : (word rest : List ℕ) → is_title word rest ≡ true → MakesTitle word rest
makes_title word rest h =
    let p = and_parts _ _ h in
    let blanks = prefix_len is_blank rest in
    record {
      blanks = take blanks rest;
      more = drop 1 (drop blanks rest);
      title = p.0;
      blank = run_each is_blank rest;
      equals = sym (take-append-drop blanks rest) ∙ ap (λ (r : List ℕ). take blanks rest ++ r) (begins 61 (drop blanks rest) p.1);
    }

-- what closes on its line

closed_found : (close : ℕ) (inside rest : List ℕ) → is_inside close close ≡ false → (close == close) ≡ true → Each (is_inside close) inside
    → closed_size close ((inside ++ (close ∷ [])) ++ rest) ≡ Some (length inside + 2)
closed_found close inside rest stop same h =
    let bytes = inside ++ (close ∷ rest) in
    let by_size = λ (n : ℕ). if begins_with close (drop n bytes) then Some (n + 2) else None in
    let by_rest = λ (r : List ℕ). if begins_with close r then Some (length inside + 2) else None in
    ap (closed_size close) (append_assoc inside (close ∷ []) rest) ∙ ap by_size (run_size (is_inside close) inside (close ∷ rest) h stop)
    ∙ ap by_rest (drop-append_seam inside (close ∷ rest)) ∙ if_true (close == close) _ _ same

closed_length : (first close : ℕ) (inside : List ℕ) → length inside + 2 ≡ length (first ∷ (inside ++ (close ∷ [])))
closed_length first close inside = omega (arith, length-append inside (close ∷ []))

inside_text : (quote : ℕ) (inside rest : List ℕ) →
    (λ (bytes : List ℕ). take (length bytes - 2) (drop 1 bytes)) (take (length inside + 2) ((quote ∷ (inside ++ (quote ∷ []))) ++ rest)) ≡ inside
inside_text quote inside rest =
    let front = quote ∷ (inside ++ (quote ∷ [])) in
    let cut = λ (bytes : List ℕ). take (length bytes - 2) (drop 1 bytes) in
    let size : length inside + 2 ≡ length front = closed_length quote quote inside in
    let less : length front - 2 ≡ length inside = omega arith in
    ap (λ (n : ℕ). cut (take n (front ++ rest))) size ∙ ap cut (take-append_seam front rest) ∙ ap (λ (n : ℕ). take n (inside ++ (quote ∷ []))) less
    ∙ take-append_seam inside (quote ∷ [])

-- each form

line_agrees : (rest : List ℕ) → Agrees line_end (10 ∷ []) rest
line_agrees rest = record { found = found_line_end; at = refl; size = refl; some = omega arith; tokens = λ l b. refl; line = λ l. refl }

blank_agrees : (b : ℕ) (rest : List ℕ) → is_blank b ≡ true → Agrees passed (b ∷ []) rest
blank_agrees b rest h = record { found = gap 1; at = blank_at b rest h; size = refl; some = omega arith; tokens = λ l b. refl; line = λ l. refl }

comment_agrees : (inside rest : List ℕ) → IsLineRest inside rest → Agrees passed (47 ∷ 47 ∷ inside) rest
comment_agrees inside rest h =
    let size : prefix_len is_in_line (inside ++ rest) ≡ length inside = run_size is_in_line inside rest h.each h.whole in
    record {
      found = gap (1 + prefix_len is_in_line (inside ++ rest) + 1);
      at = refl;
      size = omega arith;
      some = omega arith;
      tokens = λ l b. refl;
      line = λ l. refl;
    }

attribute_agrees : (inside rest : List ℕ) → Each (is_inside 125) inside → Agrees passed (123 ∷ (inside ++ (125 ∷ []))) rest
attribute_agrees inside rest h = record {
  found = gap (length inside + 2);
  at = ap (option_map gap) (closed_found 125 inside rest refl refl h);
  size = closed_length 123 125 inside;
  some = omega arith;
  tokens = λ l b. refl;
  line = λ l. refl;
}

title_agrees : (word inside rest : List ℕ) → IsRun word (inside ++ rest)
    → MakesTitle word (inside ++ rest) → IsLineRest inside rest → Agrees passed (word ++ inside) rest
title_agrees word inside rest run makes h =
    let size : line_size (inside ++ rest) ≡ length inside = run_size is_in_line inside rest h.each h.whole in
    let both : length (word ++ inside) ≡ length word + length inside = length-append word inside in
    record {
      found = gap (length word + line_size (inside ++ rest));
      at = ap piece_at (append_assoc word inside rest) ∙ run_found word (inside ++ rest) run
          ∙ ap (λ (p : Found). Some p) (if_true (is_title word (inside ++ rest)) _ _ (title_is word (inside ++ rest) makes));
      size = omega arith;
      some = omega (arith, run.some);
      tokens = λ l b. refl;
      line = λ l. refl;
    }

word_agrees : (word rest : List ℕ) → IsRun word rest → (MakesTitle word rest → ⊥) → Agrees (token Word word) word rest
word_agrees word rest run none =
    let not_title : is_title word rest ≡ false = not_when (is_title word rest) (λ h. none (makes_title word rest h)) in
    record {
      found = found_token Word (length word);
      at = run_found word rest run ∙ ap (λ (p : Found). Some p) (if_false (is_title word rest) _ _ not_title);
      size = refl;
      some = run.some;
      tokens = λ l b. ap (λ (t : List ℕ). tokens_in (token Word t) l b) (take-append_seam word rest);
      line = λ l. refl;
    }
  where
    not_when : (b : Bool) → (b ≡ true → ⊥) → b ≡ false
    not_when true h = absurd (h refl)
    not_when false h = refl

quoted_agrees : (inside rest : List ℕ) → Each (is_inside 34) inside → Agrees (token Quoted inside) (34 ∷ (inside ++ (34 ∷ []))) rest
quoted_agrees inside rest h = record {
  found = found_token Quoted (length inside + 2);
  at = ap (option_map (found_token Quoted)) (closed_found 34 inside rest refl refl h);
  size = closed_length 34 34 inside;
  some = omega arith;
  tokens = λ l b. ap (λ (t : List ℕ). tokens_in (token Quoted t) l b) (inside_text 34 inside rest);
  line = λ l. refl;
}

text_agrees : (inside rest : List ℕ) → Each (is_inside 39) inside → Agrees (token Text inside) (39 ∷ (inside ++ (39 ∷ []))) rest
text_agrees inside rest h = record {
  found = found_token Text (length inside + 2);
  at = ap (option_map (found_token Text)) (closed_found 39 inside rest refl refl h);
  size = closed_length 39 39 inside;
  some = omega arith;
  tokens = λ l b. ap (λ (t : List ℕ). tokens_in (token Text t) l b) (inside_text 39 inside rest);
  line = λ l. refl;
}

double_agrees : (a b : ℕ) (rest : List ℕ) → is_double_sign a b ≡ true → Agrees (token Sign (a ∷ b ∷ [])) (a ∷ b ∷ []) rest
double_agrees a b rest h =
    let no_comment : (a == 47 && b == 47) ≡ false = grind (arith, nat_tests) in
    record {
      found = found_token Sign 2;
      at = at_mark a (b ∷ rest) (double_marks a b h) ∙ if_false (a == 47 && b == 47) _ _ no_comment ∙ if_true (is_double_sign a b) _ _ h;
      size = refl;
      some = omega arith;
      tokens = λ l b. refl;
      line = λ l. refl;
    }

or_parts : (x y : Bool) → (x || y) ≡ false → (x ≡ false) × (y ≡ false)
or_parts true y h = absurd cc
or_parts false y h = (refl, h)

single_found : (a : ℕ) (rest : List ℕ) → is_sign a ≡ true → goes_on a rest ≡ false → comment_or_sign a rest ≡ Some (found_token Sign 1)
single_found a [] h g = if_false (a == 47 && false) _ _ (no (a == 47)) ∙ if_true (is_sign a) _ _ h
  where
    no : (x : Bool) → (x && false) ≡ false
    no true = refl
    no false = refl
single_found a (b ∷ rest) h g =
    let p = or_parts (is_double_sign a b) (a == 47 && b == 47) g in
    if_false (a == 47 && b == 47) _ _ p.1 ∙ if_false (is_double_sign a b) _ _ p.0 ∙ if_true (is_sign a) _ _ h

sign_agrees : (a : ℕ) (rest : List ℕ) → is_sign a ≡ true → goes_on a rest ≡ false → Agrees (token Sign (a ∷ [])) (a ∷ []) rest
sign_agrees a rest h g = record {
  found = found_token Sign 1;
  at = at_mark a rest (sign_marks a h) ∙ single_found a rest h g;
  size = refl;
  some = omega arith;
  tokens = λ l b. refl;
  line = λ l. refl;
}

pub agrees : {piece : Piece} {front rest : List ℕ} → IsPiece piece front rest → Agrees piece front rest
agrees (end_of_line {rest = rest}) = line_agrees rest
agrees (blank b {rest = rest} h) = blank_agrees b rest h
agrees (comment inside {rest = rest} h) = comment_agrees inside rest h
agrees (attribute inside {rest = rest} h) = attribute_agrees inside rest h
agrees (title w inside {rest = rest} run makes h) = title_agrees w inside rest run makes h
agrees (plain_word w {rest = rest} run none) = word_agrees w rest run none
agrees (quoted_name inside {rest = rest} h) = quoted_agrees inside rest h
agrees (quoted_text inside {rest = rest} h) = text_agrees inside rest h
agrees (double_sign a b {rest = rest} h) = double_agrees a b rest h
agrees (single_sign a {rest = rest} h g) = sign_agrees a rest h g
