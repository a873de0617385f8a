-- Where the definition of tokens finds a piece, one of the forms stands.
use Rattle.std.proofs.Common.{◌≡◌, ℕ, zero, suc, ◌+◌, ◌<◌, Bool, true, false, ◌&&◌, ◌||◌, ◌==◌, cond, if◌then◌else◌, List, [], ◌∷◌, ◌++◌, length, take, drop, Option, Some, None, refl, sym, ap, subst, ◌∙◌, arith, append_assoc}
use Rattle.std.proofs.lemmas.Bool.{and_parts, eqb-true}
use Rattle.std.proofs.lemmas.List.{take-append-drop}
use Rattle.std.specs.List.{prefix_len}
use Rattle.std.specs.Prelude.{IfSome, option_map}
use Rattle.s7_base.specs.Tokens.{Piece as Found, line_end as found_line_end, gap, token as found_token, piece_at, is_blank, is_word_byte, is_sign, is_double_sign, begins_with, line_size, closed_size, word_piece, sign_piece, comment_or_sign, mark_piece}
use Rattle.s7_base.specs.declared.token.TokenKind.TheVariants.{Word, Quoted, Text, Sign}
use Rattle.stl_lexer.proofs.Forms.{run_each, run_stops, begins, is_title, title_is, makes_title}
use Rattle.stl_lexer.specs.Pieces.{Each, is_in_line, is_inside, IsRun, IsLineRest, MakesTitle, Piece, line_end, passed, token, IsPiece, end_of_line, blank, comment, attribute, title, plain_word, quoted_name, quoted_text, double_sign, single_sign}

-- a form stands at the front of a text
pub record Reads (bytes : List ℕ) : Type 0 where
  pub piece : Piece
  pub front : List ℕ
  pub rest : List ℕ
  pub whole : front ++ rest ≡ bytes
  pub is : IsPiece piece front rest

abbrev HasForm : List ℕ → Option Found → Type 0
HasForm bytes o = IfSome o (λ found. Reads bytes)

choose : (bytes : List ℕ) (b : Bool) (x y : Option Found) → (b ≡ true → HasForm bytes x) → (b ≡ false → HasForm bytes y) → HasForm bytes (if b then x else y)
choose bytes true x y p q = p refl
choose bytes false x y p q = q refl

-- the rest of a line
line_rest : (bytes : List ℕ) → IsLineRest (take (line_size bytes) bytes) (drop (line_size bytes) bytes)
line_rest bytes = record { each = run_each is_in_line bytes; whole = run_stops is_in_line bytes }

-- what closes on its line
record Closed (close : ℕ) (rest : List ℕ) : Type 0 where
  inside : List ℕ
  more : List ℕ
  each : Each (is_inside close) inside
  whole : inside ++ (close ∷ more) ≡ rest

closed : (close : ℕ) (rest : List ℕ) → IfSome (closed_size close rest) (λ size. Closed close rest)
closed close rest =
    let size = prefix_len (is_inside close) rest in
    either (begins_with close (drop size rest)) (Some (size + 2)) (λ (h : begins_with close (drop size rest) ≡ true).
    let c : Closed close rest = record {
      inside = take size rest;
      more = drop 1 (drop size rest);
      each = run_each (is_inside close) rest;
      whole = ap (λ (r : List ℕ). take size rest ++ r) (sym (begins close (drop size rest) h)) ∙ take-append-drop size rest;
    } in c)
  where
    either : (b : Bool) (x : Option ℕ) → (b ≡ true → Closed close rest) → IfSome (if b then x else None) (λ size. Closed close rest)
    either true (Some size) h = h refl
    either true None h = tt
    either false x h = tt

-- a form that closes on its line, whatever it becomes
closing : (first close : ℕ) (rest : List ℕ) (piece : List ℕ → Piece) (found : ℕ → Found) →
    ((inside more : List ℕ) → Each (is_inside close) inside → IsPiece (piece inside) (first ∷ (inside ++ (close ∷ []))) more)
    → (o : Option ℕ) → IfSome o (λ size. Closed close rest) → HasForm (first ∷ rest) (option_map found o)
closing first close rest piece found is None c = tt
closing first close rest piece found is (Some size) c = record {
  piece = piece c.inside;
  front = first ∷ (c.inside ++ (close ∷ []));
  rest = c.more;
  whole = ap (λ (r : List ℕ). first ∷ r) (append_assoc c.inside (close ∷ []) c.more ∙ c.whole);
  is = is c.inside c.more c.each;
}

sign_reads : (a : ℕ) (rest : List ℕ) → (a == 47 && begins_with 47 rest) ≡ false → HasForm (a ∷ rest) (sign_piece a rest)
sign_reads a [] plain = choose (a ∷ []) (is_sign a) (Some (found_token Sign 1)) None
    (λ h. record { piece = token Sign (a ∷ []); front = a ∷ []; rest = []; whole = refl; is = single_sign a h refl }) (λ h. tt)
sign_reads a (b ∷ rest) plain =
    choose (a ∷ b ∷ rest) (is_double_sign a b) (Some (found_token Sign 2)) _
    (λ h. record { piece = token Sign (a ∷ b ∷ []); front = a ∷ b ∷ []; rest = rest; whole = refl; is = double_sign a b h })
    (λ d. choose (a ∷ b ∷ rest) (is_sign a) (Some (found_token Sign 1)) None
    (λ h. record { piece = token Sign (a ∷ []); front = a ∷ []; rest = b ∷ rest; whole = refl; is = single_sign a h (neither _ _ d plain) }) (λ h. tt))
  where
    neither : (x y : Bool) → x ≡ false → y ≡ false → (x || y) ≡ false
    neither false false p q = refl
    neither true y p q = absurd cc
    neither false true p q = absurd cc

comment_reads : (a : ℕ) (rest : List ℕ) → (a == 47 && begins_with 47 rest) ≡ true → Reads (a ∷ rest)
comment_reads a rest h =
    let p = and_parts (a == 47) (begins_with 47 rest) h in
    let first : a ≡ 47 = eqb-true a 47 p.0 in
    let behind = drop 1 rest in
    record {
      piece = passed;
      front = 47 ∷ 47 ∷ take (line_size behind) behind;
      rest = drop (line_size behind) behind;
      whole = ap (λ (r : List ℕ). 47 ∷ 47 ∷ r) (take-append-drop (line_size behind) behind) ∙ ap (λ (r : List ℕ). 47 ∷ r) (sym (begins 47 rest p.1))
          ∙ ap (λ (x : ℕ). x ∷ rest) (sym first);
      is = comment (take (line_size behind) behind) (line_rest behind);
    }

comment_or_sign_reads : (a : ℕ) (rest : List ℕ) → HasForm (a ∷ rest) (comment_or_sign a rest)
comment_or_sign_reads a rest =
    choose (a ∷ rest) (a == 47 && begins_with 47 rest) (Some (gap (line_size rest + 1))) (sign_piece a rest)
    (λ h. comment_reads a rest h) (λ h. sign_reads a rest h)

-- a fact of the first byte is one of this byte
first_is : (a b : ℕ) (rest : List ℕ) (o : Option Found) → (a == b) ≡ true → HasForm (b ∷ rest) o → HasForm (a ∷ rest) o
first_is a b rest o same h = let P : ℕ → Type 0 = λ x. HasForm (x ∷ rest) o in subst P (sym (eqb-true a b same)) h

mark_reads : (a : ℕ) (rest : List ℕ) → HasForm (a ∷ rest) (mark_piece a rest)
mark_reads a rest =
    choose (a ∷ rest) (a == 34) _ _
    (λ h. first_is a 34 rest _ h (closing 34 34 rest (λ t. token Quoted t) (found_token Quoted) (λ t more e. quoted_name t e) _ (closed 34 rest)))
    (λ h. choose (a ∷ rest) (a == 39) _ _
    (λ h. first_is a 39 rest _ h (closing 39 39 rest (λ t. token Text t) (found_token Text) (λ t more e. quoted_text t e) _ (closed 39 rest)))
    (λ h. choose (a ∷ rest) (a == 123) _ _
    (λ h. first_is a 123 rest _ h (closing 123 125 rest (λ t. passed) gap (λ t more e. attribute t e) _ (closed 125 rest)))
    (λ h. comment_or_sign_reads a rest)))

-- a longest run is a word, or the word of a title
run_reads : (bytes front rest : List ℕ) (t : Bool) → front ++ rest ≡ bytes → IsRun front rest → is_title front rest ≡ t → Reads bytes
run_reads bytes front rest true whole run h =
    let size = line_size rest in
    let back : take size rest ++ drop size rest ≡ rest = take-append-drop size rest in
    let R : List ℕ → Type 0 = λ r. IsRun front r in
    let T : List ℕ → Type 0 = λ r. MakesTitle front r in
    record {
      piece = passed;
      front = front ++ take size rest;
      rest = drop size rest;
      whole = append_assoc front (take size rest) (drop size rest) ∙ ap (λ (r : List ℕ). front ++ r) back ∙ whole;
      is = title front (take size rest) (subst R (sym back) run) (subst T (sym back) (makes_title front rest h)) (line_rest rest);
    }
run_reads bytes front rest false whole run h =
    record { piece = token Word front; front = front; rest = rest; whole = whole; is = plain_word front run (λ makes. clash (title_is front rest makes) h) }
  where
    clash : {b : Bool} → b ≡ true → b ≡ false → ⊥
    clash p q = absurd cc

word_reads : (bytes : List ℕ) → 0 < prefix_len is_word_byte bytes → Reads bytes
word_reads bytes some =
    let size = prefix_len is_word_byte bytes in
    let run : IsRun (take size bytes) (drop size bytes) =
    record { some = some_of bytes some; each = run_each is_word_byte bytes; longest = run_stops is_word_byte bytes } in
    run_reads bytes (take size bytes) (drop size bytes) _ (take-append-drop size bytes) run refl
  where
    some_of : (bytes : List ℕ) → 0 < prefix_len is_word_byte bytes → 0 < length (take (prefix_len is_word_byte bytes) bytes)
    some_of [] h = absurd (omega arith)
    some_of (b ∷ rest) h = more (prefix_len is_word_byte (b ∷ rest)) h
      where
        more : (n : ℕ) → 0 < n → 0 < length (take n (b ∷ rest))
        more zero h = absurd (omega arith)
        more (suc n) h = omega arith

word_some : (first : ℕ) (rest : List ℕ) → is_word_byte first ≡ true → 0 < prefix_len is_word_byte (first ∷ rest)
word_some first rest h =
    let e : prefix_len is_word_byte (first ∷ rest) ≡ 1 + prefix_len is_word_byte rest = ap (λ (b : Bool). cond b (1 + prefix_len is_word_byte rest) 0) h in
    omega arith

-- where a piece is found, a form stands
pub reads : (bytes : List ℕ) → HasForm bytes (piece_at bytes)
reads [] = tt
reads (first ∷ rest) =
    choose (first ∷ rest) (first == 10) (Some found_line_end) _
    (λ h. first_is first 10 rest (Some found_line_end) h (record { piece = line_end; front = 10 ∷ []; rest = rest; whole = refl; is = end_of_line }))
    (λ h. choose (first ∷ rest) (is_blank first) (Some (gap 1)) _
    (λ h. record { piece = passed; front = first ∷ []; rest = rest; whole = refl; is = blank first h })
    (λ h. choose (first ∷ rest) (is_word_byte first) (Some (word_piece (first ∷ rest))) _ (λ h. word_reads (first ∷ rest) (word_some first rest h))
    (λ h. mark_reads first rest)))
