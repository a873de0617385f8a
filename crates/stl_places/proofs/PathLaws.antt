-- A path is read exactly where one of its forms stands.
use Rattle.std.proofs.Common.{◌≡◌, ℕ, zero, suc, ℤ, pos, ◌+◌, ◌≤◌, Bool, true, false, ◌&&◌, if◌then◌else◌, List, [], ◌∷◌, ◌++◌, length, Some, None, refl, sym, ap, subst, ◌∙◌, arith}
use Rattle.std.proofs.Math.Seq.{drop-append_seam}
use Rattle.std.proofs.lemmas.Bool.{and_from, and_left, and_parts}
use Rattle.std.proofs.lemmas.List.{append-nil, append_assoc, length-append}
use Rattle.std.specs.Prelude.{codes, neg_ℤ, option_map}
use Rattle.s7_base.specs.declared.token.Token.{Token}
use Rattle.stl_statement_grammar.specs.Constants.{begins_glued}
use Rattle.digit_texts.specs.Digits.{kept_number}
use Rattle.stl_statement_grammar.specs.PathForms.{AreMany, IsIndices, IsNextIndex, IsPath, IsStep, IsWhole}
use Rattle.stl_statement_grammar.specs.PathForms as form
use Rattle.stl_statement_grammar.specs.Paths.{after_indices, component_at, element_at, indices_at, indices_behind, minus_number, next_index_at, number_word, path_at, plain_number, step_at, whole_at}
use Rattle.stl_statement_grammar.specs.Readers.{fitting, further, read_as, all_items}
use Rattle.stl_statement_grammar.specs.Words.{is_joined, is_joined_word, is_sign, is_word_kind}
use Rattle.stl_statement_grammar.specs.declared.mnemonic.Read.{Read}
use Rattle.stl_statement_grammar.specs.declared.mnemonic.Read.TheVariants.{Fits, LeftOut, No}
use Rattle.stl_tree.specs.declared.raw.PathStep.{PathStep}
use Rattle.stl_tree.specs.declared.raw.PathStep.TheVariants.{Index, Name}
use Rattle.stl_places.proofs.Fronts.{Front, FrontOf, and_then_at, and_then_front, and_then_read, as_front, fitting_front, further_front, further_read, or_front, refined}
use Rattle.stl_constants.proofs.Reading.{if_false, if_true, mapped, no_sign, or_no, or_this, other_sign, taken}
use Rattle.stl_places.proofs.Repeated.{IsNone, item_there, no_item}

-- Items one behind the other

-- each item takes a token at least
abbrev TakesTokens : {A : Type 0} → (List Token → A → Type 0) → Type 0
TakesTokens {A = A} P = (front : List Token) (a : A) → P front a → 1 ≤ length front

many_bounded : {A : Type 0} (read : List Token → Read A) (P : List Token → A → Type 0)
    → ((tokens : List Token) → FrontOf tokens P (read tokens)) → TakesTokens P
    → (n : ℕ) (tokens : List Token) → length tokens ≤ n → FrontOf tokens (AreMany P) (all_items read 0 tokens)
many_bounded read P reads takes n [] h = record { front = []; rest = []; is = refl; size_is = refl; holds = form.none }
many_bounded read P reads takes zero (token ∷ rest) h = absurd (omega (arith, h))
many_bounded {A = A} read P reads takes (suc n) (token ∷ rest) h = by (read (token ∷ rest)) refl (λ more fewer. many_bounded read P reads takes n more fewer)
  where
    alone : IsNone (read (token ∷ rest)) → FrontOf (token ∷ rest) (AreMany P) (all_items read 0 (token ∷ rest))
    alone none =
        subst (λ (r : Read (List A)). FrontOf (token ∷ rest) (AreMany P) r) (sym (no_item read (token ∷ rest) none))
        (record { front = []; rest = token ∷ rest; is = refl; size_is = refl; holds = form.none })

    by : (r : Read A) → read (token ∷ rest) ≡ r → ((more : List Token) → length more ≤ n → FrontOf more (AreMany P) (all_items read 0 more)) →
        FrontOf (token ∷ rest) (AreMany P) (all_items read 0 (token ∷ rest))
    by No e next = alone (subst (λ (r : Read A). IsNone r) (sym e) tt)
    by (LeftOut kind) e next = alone (subst (λ (r : Read A). IsNone r) (sym e) tt)
    by (Fits a size) e next =
        let f : Front (token ∷ rest) size (λ front. P front a) = subst (λ (r : Read A). FrontOf (token ∷ rest) P r) e (reads (token ∷ rest)) in
        let sum : length f.front + length f.rest ≡ length (token ∷ rest) = sym (length-append f.front f.rest) ∙ ap (λ (ts : List Token). length ts) f.is in
        let some : 1 ≤ length f.front = takes f.front a f.holds in
        let one : 1 ≤ size = omega (arith, some, f.size_is) in
        let most : size ≤ length (token ∷ rest) = omega (arith, sum, f.size_is) in
        subst (λ (r : Read (List A)). FrontOf (token ∷ rest) (AreMany P) r) (sym (item_there read (token ∷ rest) a size e one most))
        (and_then_at (token ∷ rest) P (AreMany P) (Fits a size) (λ b more. read_as (λ items. b ∷ items) (all_items read 0 more)) f
        (λ front more b at is.
        as_front more (λ items. b ∷ items) (AreMany P) (λ others items. AreMany P (front ++ others) items)
        (λ others left items split are. form.more front others b items is are)
        (all_items read 0 more) (next more (shorter front more b at is))))
      where
        shorter : (front more : List Token) (b : A) → front ++ more ≡ token ∷ rest → P front b → length more ≤ n
        shorter front more b at is =
            let sum : length front + length more ≡ length (token ∷ rest) = sym (length-append front more) ∙ ap (λ (ts : List Token). length ts) at in
            let some : 1 ≤ length front = takes front b is in
            omega (arith, sum, some, h)

pub many_front : {A : Type 0} (read : List Token → Read A) (P : List Token → A → Type 0)
    → ((tokens : List Token) → FrontOf tokens P (read tokens)) → TakesTokens P
    → (tokens : List Token) → FrontOf tokens (AreMany P) (all_items read 0 tokens)
many_front read P reads takes tokens = let same : length tokens ≤ length tokens = omega arith in many_bounded read P reads takes (length tokens) tokens same

-- each form is read, whatever stands behind it
abbrev ReadsForms : {A : Type 0} → (List Token → Read A) → (List Token → A → Type 0) → Type 0
ReadsForms {A = A} read P = (front : List Token) (a : A) → P front a → (rest : List Token) → read (front ++ rest) ≡ Fits a (length front)

-- items are read up to where none stands
pub many_read : {A : Type 0} (read : List Token → Read A) (P : List Token → A → Type 0)
    → ReadsForms read P → TakesTokens P → (tokens : List Token) (items : List A) → AreMany P tokens items
    → (rest : List Token) → IsNone (read rest) → all_items read 0 (tokens ++ rest) ≡ Fits items (length tokens)
many_read read P reads takes tokens items form.none rest none = no_item read rest none
many_read {A = A} read P reads takes tokens items (form.more front others item more is are) rest none =
    let whole : (front ++ others) ++ rest ≡ front ++ (others ++ rest) = append_assoc front others rest in
    let some : 1 ≤ length front = takes front item is in
    let fits : length front ≤ length (front ++ (others ++ rest)) = omega (arith, length-append front (others ++ rest)) in
    ap (λ (ts : List Token). all_items read 0 ts) whole
    ∙ item_there read (front ++ (others ++ rest)) item (length front) (reads front item is (others ++ rest)) some fits
    ∙ ap (λ (ts : List Token). further (length front) (read_as (λ xs. item ∷ xs) (all_items read 0 ts))) (drop-append_seam front (others ++ rest))
    ∙ further_read front others (read_as (λ xs. item ∷ xs) (all_items read 0 (others ++ rest))) (item ∷ more)
    (ap (read_as (λ xs. item ∷ xs)) (many_read read P reads takes others more are rest none))

-- Whole numbers

whole_front : (tokens : List Token) → FrontOf tokens IsWhole (whole_at tokens)
whole_front tokens = by tokens
  where
    plain : (first : Token) (rest : List Token) → FrontOf (first ∷ rest) IsWhole (fitting 1 (plain_number first))
    plain first rest =
        fitting_front (first ∷ rest) 1 IsWhole (plain_number first)
        (λ i e.
        let m = mapped pos (number_word first) i e in
        record { front = first ∷ []; rest = rest; is = refl; size_is = refl; holds = subst (IsWhole (first ∷ [])) m.made (form.plain first m.a m.found) })

    minus : (first second : Token) (rest : List Token) → is_sign (codes "-") first ≡ true
        → FrontOf (first ∷ second ∷ rest) IsWhole (fitting 2 (minus_number second))
    minus first second rest sign =
        fitting_front (first ∷ second ∷ rest) 2 IsWhole (minus_number second)
        (λ i e.
        let t = taken second.glued (option_map (λ n. neg_ℤ (pos n)) (number_word second)) i e in
        let m = mapped (λ n. neg_ℤ (pos n)) (number_word second) i t.1 in
        record {
          front = first ∷ second ∷ [];
          rest = rest;
          is = refl;
          size_is = refl;
          holds = subst (IsWhole (first ∷ second ∷ [])) m.made (form.minus first second m.a sign t.0 m.found);
        })

    by : (tokens : List Token) → FrontOf tokens IsWhole (whole_at tokens)
    by [] = tt
    by (first ∷ []) = plain first []
    by (first ∷ second ∷ rest) = two (is_sign (codes "-") first) refl
      where
        two : (b : Bool) → is_sign (codes "-") first ≡ b →
            FrontOf (first ∷ second ∷ rest) IsWhole (if b then fitting 2 (minus_number second) else fitting 1 (plain_number first))
        two true sign = minus first second rest sign
        two false sign = plain first (second ∷ rest)

number_kind : (word : Token) (n : ℕ) → number_word word ≡ Some n → is_word_kind word.kind ≡ true
number_kind word n e = (taken (is_word_kind word.kind) (kept_number word.text) n e).0

whole_read : ReadsForms whole_at IsWhole
whole_read front i (form.plain word n number) [] = ap (fitting 1) (ap (option_map pos) number)
whole_read front i (form.plain word n number) (next ∷ rest) =
    if_false (is_sign (codes "-") word) _ _ (no_sign (codes "-") word (number_kind word n number)) ∙ ap (fitting 1) (ap (option_map pos) number)
whole_read front i (form.minus sign word n minus glued number) rest =
    if_true (is_sign (codes "-") sign) _ _ minus ∙ ap (fitting 2) (if_true word.glued _ None glued ∙ ap (option_map (λ k. neg_ℤ (pos k))) number)

-- Indices

next_front : (tokens : List Token) → FrontOf tokens IsNextIndex (next_index_at tokens)
next_front [] = tt
next_front (comma ∷ rest) = by (is_sign (codes ",") comma) refl
  where
    by : (b : Bool) → is_sign (codes ",") comma ≡ b → FrontOf (comma ∷ rest) IsNextIndex (if b then further 1 (whole_at rest) else No)
    by false sign = tt
    by true sign =
        further_front (comma ∷ []) rest IsNextIndex (whole_at rest)
        (refined rest IsWhole (λ more i. IsNextIndex (comma ∷ more) i)
        (λ more left i split is. form.next comma more i sign is) (whole_at rest) (whole_front rest))

next_takes : TakesTokens IsNextIndex
next_takes front i (form.next comma rest k sign is) = omega arith

next_read : ReadsForms next_index_at IsNextIndex
next_read front i (form.next comma rest k sign is) behind =
    if_true (is_sign (codes ",") comma) _ No sign ∙ ap (further 1) (whole_read rest k is behind) ∙ size
  where
    size : Fits k (1 + length rest) ≡ Fits k (length (comma ∷ rest))
    size = let same : 1 + length rest ≡ length (comma ∷ rest) = omega arith in ap (Fits k) same

closed_front : (front rest tokens : List Token) (index : ℤ) (others : List ℤ) → IsWhole front index → AreMany IsNextIndex rest others →
    FrontOf tokens (λ more all. IsIndices (front ++ (rest ++ more)) all) (after_indices (index ∷ others) tokens)
closed_front front rest [] index others whole are = tt
closed_front front rest (close ∷ left) index others whole are = by (is_sign (codes "]") close) refl
  where
    by : (b : Bool) → is_sign (codes "]") close ≡ b →
        FrontOf (close ∷ left) (λ more all. IsIndices (front ++ (rest ++ more)) all) (if b then Fits (index ∷ others) 1 else No)
    by true sign = record { front = close ∷ []; rest = left; is = refl; size_is = refl; holds = form.indices front rest close index others whole are sign }
    by false sign = tt

indices_front : (tokens : List Token) → FrontOf tokens IsIndices (indices_at tokens)
indices_front tokens =
    and_then_front tokens IsWhole IsIndices (whole_at tokens) (λ index rest. indices_behind index rest) (whole_front tokens)
    (λ front rest index whole.
    and_then_front rest (AreMany IsNextIndex) (λ more all. IsIndices (front ++ more) all)
    (all_items next_index_at 0 rest) (λ others left. after_indices (index ∷ others) left)
    (many_front next_index_at IsNextIndex next_front next_takes rest)
    (λ more left others are. closed_front front more left index others whole are))

no_next : (close : Token) (rest : List Token) → is_sign (codes "]") close ≡ true → IsNone (next_index_at (close ∷ rest))
no_next close rest sign =
    let none : next_index_at (close ∷ rest) ≡ No = if_false (is_sign (codes ",") close) _ No (other_sign (codes "]") (codes ",") close sign refl) in
    subst (λ (r : Read ℤ). IsNone r) (sym none) tt

indices_read : ReadsForms indices_at IsIndices
indices_read tokens all (form.indices front rest close index others whole are sign) left =
    let tail : (rest ++ (close ∷ [])) ++ left ≡ rest ++ (close ∷ left) = append_assoc rest (close ∷ []) left in
    let split : (front ++ (rest ++ (close ∷ []))) ++ left ≡ front ++ (rest ++ (close ∷ left)) =
    append_assoc front (rest ++ (close ∷ [])) left ∙ ap (λ (ts : List Token). front ++ ts) tail in
    ap indices_at split
    ∙ and_then_read front (rest ++ (close ∷ left)) (whole_at (front ++ (rest ++ (close ∷ left)))) index (λ i more. indices_behind i more)
    (whole_read front index whole (rest ++ (close ∷ left)))
    ∙ further_read front (rest ++ (close ∷ [])) (indices_behind index (rest ++ (close ∷ left))) (index ∷ others)
    (and_then_read rest (close ∷ left) (all_items next_index_at 0 (rest ++ (close ∷ left))) others (λ is more. after_indices (index ∷ is) more)
    (many_read next_index_at IsNextIndex next_read next_takes rest others are (close ∷ left) (no_next close left sign))
    ∙ further_read rest (close ∷ []) (after_indices (index ∷ others) (close ∷ left)) (index ∷ others) (if_true (is_sign (codes "]") close) _ No sign))

-- Steps

component_front : (tokens : List Token) → FrontOf tokens IsStep (component_at tokens)
component_front [] = tt
component_front (a ∷ []) = tt
component_front (point ∷ word ∷ rest) = by (is_joined (codes ".") point && is_joined_word word) refl
  where
    by : (b : Bool) → (is_joined (codes ".") point && is_joined_word word) ≡ b
        → FrontOf (point ∷ word ∷ rest) IsStep (if b then Fits (Name word.text) 2 else No)
    by true t =
        let p = and_parts (is_joined (codes ".") point) (is_joined_word word) t in
        record { front = point ∷ word ∷ []; rest = rest; is = refl; size_is = refl; holds = form.component point word p.0 p.1 }
    by false t = tt

element_front : (tokens : List Token) → FrontOf tokens IsStep (element_at tokens)
element_front [] = tt
element_front (first ∷ rest) = by (is_sign (codes "[") first) refl
  where
    by : (b : Bool) → is_sign (codes "[") first ≡ b → FrontOf (first ∷ rest) IsStep (if b then further 1 (read_as Index (indices_at rest)) else No)
    by false sign = tt
    by true sign =
        further_front (first ∷ []) rest IsStep (read_as Index (indices_at rest))
        (as_front rest Index IsIndices (λ more step. IsStep (first ∷ more) step)
        (λ more left all split is. form.element first more all sign is) (indices_at rest) (indices_front rest))

step_front : (tokens : List Token) → FrontOf tokens IsStep (step_at tokens)
step_front tokens = or_front tokens IsStep (component_at tokens) (element_at tokens) (component_front tokens) (element_front tokens)

step_takes : TakesTokens IsStep
step_takes front step (form.component point word at is) = omega arith
step_takes front step (form.element first rest all sign is) = omega arith

no_component : (first : Token) (rest : List Token) → is_sign (codes "[") first ≡ true → component_at (first ∷ rest) ≡ No
no_component first [] sign = refl
no_component first (word ∷ rest) sign =
    if_false (is_joined (codes ".") first && is_joined_word word) _ No (and_left _ _ (and_left _ _ (other_sign (codes "[") (codes ".") first sign refl)))

step_read : ReadsForms step_at IsStep
step_read front step (form.component point word at is) rest =
    or_this (component_at (point ∷ word ∷ rest)) _ (Name word.text) 2 (if_true (is_joined (codes ".") point && is_joined_word word) _ No (and_from _ _ at is))
step_read front step (form.element first more all sign is) rest =
    or_no (component_at (first ∷ (more ++ rest))) _ (no_component first (more ++ rest) sign)
    ∙ if_true (is_sign (codes "[") first) _ No sign
    ∙ further_read (first ∷ []) more (read_as Index (indices_at (more ++ rest))) (Index all) (ap (read_as Index) (indices_read more all is rest))

-- Paths

pub path_front : (tokens : List Token) → FrontOf tokens IsPath (path_at tokens)
path_front [] = tt
path_front (word ∷ rest) = by (is_word_kind word.kind) refl
  where
    by : (b : Bool) → is_word_kind word.kind ≡ b
        → FrontOf (word ∷ rest) IsPath (if b then further 1 (read_as (λ steps. Name word.text ∷ steps) (all_items step_at 0 rest)) else No)
    by false kind = tt
    by true kind =
        further_front (word ∷ []) rest IsPath (read_as (λ steps. Name word.text ∷ steps) (all_items step_at 0 rest))
        (as_front rest (λ steps. Name word.text ∷ steps) (AreMany IsStep) (λ more steps. IsPath (word ∷ more) steps)
        (λ more left steps split are. form.path word more steps kind are)
        (all_items step_at 0 rest) (many_front step_at IsStep step_front step_takes rest))

-- a path is read up to where no step stands
pub path_read_before : (tokens : List Token) (steps : List PathStep) → IsPath tokens steps
    → (rest : List Token) → IsNone (step_at rest) → path_at (tokens ++ rest) ≡ Fits steps (length tokens)
path_read_before tokens all (form.path word more steps kind are) rest none =
    if_true (is_word_kind word.kind) _ No kind
    ∙ further_read (word ∷ []) more (read_as (λ xs. Name word.text ∷ xs) (all_items step_at 0 (more ++ rest))) (Name word.text ∷ steps)
    (ap (read_as (λ xs. Name word.text ∷ xs)) (many_read step_at IsStep step_read step_takes more steps are rest none))

pub path_read : (tokens : List Token) (steps : List PathStep) → IsPath tokens steps → path_at tokens ≡ Fits steps (length tokens)
path_read tokens steps is = subst (λ (ts : List Token). path_at ts ≡ Fits steps (length tokens)) (append-nil tokens) (path_read_before tokens steps is [] tt)

-- a path in front of some tokens that begin without a blank begins so too
pub path_glued : (more behind tokens : List Token) (steps : List PathStep) → IsPath more steps
    → more ++ behind ≡ tokens → begins_glued tokens ≡ true → begins_glued more ≡ true
path_glued more behind tokens all (form.path word rest steps kind are) at glued = ap begins_glued at ∙ glued
