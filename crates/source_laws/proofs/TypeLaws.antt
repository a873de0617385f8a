-- Types are read exactly where one of their forms stands.
use Rattle.std.proofs.Common.{◌≡◌, ℕ, zero, suc, ◌+◌, ◌≤◌, inl, inr, ℤ, pos, Bool, true, false, ◌&&◌, ◌||◌, if◌then◌else◌, List, [], ◌∷◌, ◌++◌, length, drop, Option, Some, None, refl, sym, ap, subst, ◌∙◌, arith, append_assoc, length-append}
use Rattle.std.proofs.Math.Seq.{drop-append_seam}
use Rattle.std.proofs.lemmas.Bool.{and_parts}
use Rattle.std.specs.List.{list_any}
use Rattle.std.specs.Prelude.{codes, neg_ℤ, option_map}
use Rattle.std.specs.Option.{option_or}
use Rattle.std.specs.Str.{bytes_eq, str_to_ascii_lowercase}
use Rattle.digit_texts.specs.Digits.{kept_number}
use Rattle.s7_base.specs.Tokens.{is_same_word}
use Rattle.s7_base.specs.declared.reason.Kind.{Kind}
use Rattle.s7_base.specs.declared.reason.Kind.TheVariants as kind
use Rattle.s7_base.specs.declared.token.Token.{Token}
use Rattle.stl_constants.proofs.Reading.{if_false, if_true, mapped, no_sign, other_word, same_letters, taken}
use Rattle.stl_places.proofs.ConstantFronts.{Stops, stop_by}
use Rattle.stl_places.proofs.ListLaws.{Agrees, Closes, elements_front, elements_read}
use Rattle.stl_places.proofs.Outs.{OutOf, as_out, dropped, fitting_out, further_out, weaker_out}
use Rattle.stl_grammar.specs.DeclarationForms.{AreDims, IsBounds, IsLeftOut, IsType, LeavesOutType, elem_word}
use Rattle.stl_grammar.specs.DeclarationForms as form
use Rattle.stl_grammar.specs.Declarations.{alone, array_at, array_with, before_of, bounds_at, dims_at, elementary_or, elementary_type, instance_kind, is_user_type, left_out_type, one_word_at, pointer_types, small_type, time_types, type_at, type_kind, upper_at, upper_behind, variable_kind, wide_type, with_array}
use Rattle.stl_statement_grammar.specs.Lists.{begins_with_word}
use Rattle.stl_statement_grammar.specs.ListForms.{AreElements}
use Rattle.stl_grammar.specs.declared.declaration.Innermost.TheVariants as inner
use Rattle.stl_grammar.specs.declared.declaration.Written.{Written}
use Rattle.stl_places.proofs.BlockNameLaws.{Starts, number_starts, number_whole, other_start}
use Rattle.stl_places.proofs.Fronts.{Front, FrontOf, as_front, fitting_front, further_front}
use Rattle.stl_statement_grammar.specs.ConstantForms.{IsAmong}
use Rattle.stl_statement_grammar.specs.PathForms.{IsWhole}
use Rattle.stl_statement_grammar.specs.PathForms as path_form
use Rattle.stl_statement_grammar.specs.Paths.{minus_number, number_word, plain_number, whole_at}
use Rattle.stl_statement_grammar.specs.Readers.{fitting, further, read_as}
use Rattle.stl_statement_grammar.specs.BlockNames.{has_number}
use Rattle.stl_statement_grammar.specs.Words.{is_sign, is_word, is_word_among, is_word_kind}
use Rattle.stl_statement_grammar.specs.declared.mnemonic.Read.{Read}
use Rattle.stl_statement_grammar.specs.declared.mnemonic.Read.TheVariants.{Fits, LeftOut, No}
use Rattle.stl_tree.specs.declared.raw.ElemType.{ElemType}
use Rattle.stl_tree.specs.declared.raw.ElemType.TheVariants as elem

-- Whole numbers

whole_front : (tokens : List Token) → FrontOf tokens IsWhole (whole_at tokens)
whole_front tokens = by tokens
  where
    one : (first : Token) (rest : List Token) → FrontOf (first ∷ rest) IsWhole (fitting 1 (plain_number first))
    one first rest =
        fitting_front (first ∷ rest) 1 IsWhole (plain_number first)
        (λ i e.
        let m = mapped pos (number_word first) i e in
        record { front = first ∷ []; rest = rest; is = refl; size_is = refl; holds = subst (IsWhole (first ∷ [])) m.made (path_form.plain first m.a m.found) })

    below : (first second : Token) (rest : List Token) → is_sign (codes "-") first ≡ true
        → FrontOf (first ∷ second ∷ rest) IsWhole (fitting 2 (minus_number second))
    below first second rest sign =
        fitting_front (first ∷ second ∷ rest) 2 IsWhole (minus_number second)
        (λ i e.
        let t = taken second.glued (option_map (λ n. neg_ℤ (pos n)) (number_word second)) i e in
        let m = mapped (λ n. neg_ℤ (pos n)) (number_word second) i t.1 in
        record {
          front = first ∷ second ∷ [];
          rest = rest;
          is = refl;
          size_is = refl;
          holds = subst (IsWhole (first ∷ second ∷ [])) m.made (path_form.minus first second m.a sign t.0 m.found);
        })

    by : (tokens : List Token) → FrontOf tokens IsWhole (whole_at tokens)
    by [] = tt
    by (first ∷ []) = one first []
    by (first ∷ second ∷ rest) = two (is_sign (codes "-") first) refl
      where
        two : (b : Bool) → is_sign (codes "-") first ≡ b →
            FrontOf (first ∷ second ∷ rest) IsWhole (if b then fitting 2 (minus_number second) else fitting 1 (plain_number first))
        two true sign = below first second rest sign
        two false sign = one first (second ∷ rest)

whole_read : (tokens : List Token) (i : ℤ) → IsWhole tokens i → (rest : List Token) → whole_at (tokens ++ rest) ≡ Fits i (length tokens)
whole_read tokens i (path_form.plain word n number) [] = ap (fitting 1) (ap (option_map pos) number)
whole_read tokens i (path_form.plain word n number) (next ∷ rest) =
    if_false (is_sign (codes "-") word) _ _ (no_sign (codes "-") word (taken (is_word_kind word.kind) (kept_number word.text) n number).0)
    ∙ ap (fitting 1) (ap (option_map pos) number)
whole_read tokens i (path_form.minus sign word n minus glued number) rest =
    if_true (is_sign (codes "-") sign) _ _ minus ∙ ap (fitting 2) (if_true word.glued _ None glued ∙ ap (option_map (λ k. neg_ℤ (pos k))) number)

whole_out : (Q : Kind → Type 0) (tokens : List Token) → OutOf Q (whole_at tokens)
whole_out Q [] = tt
whole_out Q (first ∷ []) = fitting_out Q 1 (plain_number first)
whole_out Q (first ∷ second ∷ rest) = by (is_sign (codes "-") first)
  where
    by : (b : Bool) → OutOf Q (if b then fitting 2 (minus_number second) else fitting 1 (plain_number first))
    by true = fitting_out Q 2 (minus_number second)
    by false = fitting_out Q 1 (plain_number first)

-- Bounds

abbrev Never : List Token → Kind → Type 0
Never tokens k = ⊥

upper_front : (low : ℤ) (front : List Token) → IsWhole front low → (rest : List Token) →
    FrontOf (front ++ rest) IsBounds (upper_at low (length front) rest)
upper_front low front is [] = tt
upper_front low front is (dots ∷ rest) = by (is_sign (codes "..") dots) refl
  where
    by : (b : Bool) → is_sign (codes "..") dots ≡ b →
        FrontOf (front ++ (dots ∷ rest)) IsBounds (if b then further (length front + 1) (read_as (λ high. (low, high)) (whole_at rest)) else No)
    by false sign = tt
    by true sign =
        let base : FrontOf ((front ++ (dots ∷ [])) ++ rest) IsBounds (further (length (front ++ (dots ∷ []))) (read_as (λ high. (low, high)) (whole_at rest))) =
        further_front (front ++ (dots ∷ [])) rest IsBounds (read_as (λ high. (low, high)) (whole_at rest))
        (as_front rest (λ high. (low, high)) IsWhole (λ more both. IsBounds ((front ++ (dots ∷ [])) ++ more) both)
        (λ more end high at whole. subst (λ (ts : List Token). IsBounds ts (low, high))
        (sym (append_assoc front (dots ∷ []) more)) (form.bounds front dots more low high is sign whole))
        (whole_at rest) (whole_front rest)) in
        let size : length (front ++ (dots ∷ [])) ≡ length front + 1 = omega (arith, length-append front (dots ∷ [])) in
        subst (λ (ts : List Token). FrontOf ts IsBounds (further (length front + 1) (read_as (λ high. (low, high)) (whole_at rest))))
        (append_assoc front (dots ∷ []) rest)
        (subst (λ (n : ℕ). FrontOf ((front ++ (dots ∷ [])) ++ rest) IsBounds (further n (read_as (λ high. (low, high)) (whole_at rest)))) size base)

bounds_front : (tokens : List Token) → FrontOf tokens IsBounds (bounds_at tokens)
bounds_front tokens = by (whole_at tokens) (whole_front tokens)
  where
    by : (r : Read ℤ) → FrontOf tokens IsWhole r → FrontOf tokens IsBounds (upper_behind tokens r)
    by No f = tt
    by (LeftOut k) f = tt
    by (Fits low size) f =
        let base : FrontOf (f.front ++ f.rest) IsBounds (upper_at low (length f.front) f.rest) = upper_front low f.front f.holds f.rest in
        let one : FrontOf tokens IsBounds (upper_at low (length f.front) f.rest) =
        subst (λ (ts : List Token). FrontOf ts IsBounds (upper_at low (length f.front) f.rest)) f.is base in
        let two : FrontOf tokens IsBounds (upper_at low size f.rest) = subst (λ (n : ℕ). FrontOf tokens IsBounds (upper_at low n f.rest)) f.size_is one in
        subst (λ (ts : List Token). FrontOf tokens IsBounds (upper_at low size ts)) (sym (dropped tokens size (λ front. IsWhole front low) f)) two

bounds_out : (tokens : List Token) → OutOf (λ k. Never tokens k) (bounds_at tokens)
bounds_out tokens = by (whole_at tokens)
  where
    at : (low : ℤ) (size : ℕ) (rest : List Token) → OutOf {A = ℤ × ℤ} (λ k. Never tokens k) (upper_at low size rest)
    at low size [] = tt
    at low size (dots ∷ rest) = choose (is_sign (codes "..") dots)
      where
        choose : (b : Bool) → OutOf {A = ℤ × ℤ} (λ k. Never tokens k) (if b then further (size + 1) (read_as (λ high. (low, high)) (whole_at rest)) else No)
        choose true =
            further_out (λ k. Never tokens k) (size + 1) (read_as (λ high. (low, high)) (whole_at rest))
            (as_out (λ k. Never tokens k) (λ high. (low, high)) (whole_at rest) (whole_out (λ k. Never tokens k) rest))
        choose false = tt

    by : (r : Read ℤ) → OutOf (λ k. Never tokens k) (upper_behind tokens r)
    by No = tt
    by (LeftOut k) = tt
    by (Fits low size) = at low size (drop size tokens)

bounds_read : (tokens : List Token) (both : ℤ × ℤ) → IsBounds tokens both → (rest : List Token)
    → Stops rest → bounds_at (tokens ++ rest) ≡ Fits both (length tokens)
bounds_read tokens both (form.bounds front dots more low high is sign whole) rest stop =
    let all = front ++ (dots ∷ (more ++ rest)) in
    let size : length front + 1 + length more ≡ length (front ++ (dots ∷ more)) = omega (arith, length-append front (dots ∷ more)) in
    ap bounds_at (append_assoc front (dots ∷ more) rest)
    ∙ ap (upper_behind all) (whole_read front low is (dots ∷ (more ++ rest)))
    ∙ ap (upper_at low (length front)) (drop-append_seam front (dots ∷ (more ++ rest)))
    ∙ if_true (is_sign (codes "..") dots) _ No sign
    ∙ ap (λ (r : Read ℤ). further (length front + 1) (read_as (λ x. (low, x)) r)) (whole_read more high whole rest)
    ∙ ap (λ (n : ℕ). Fits (low, high) n) size

bounds_some : (tokens : List Token) (both : ℤ × ℤ) → IsBounds tokens both → 1 ≤ length tokens
bounds_some tokens both (form.bounds front dots more low high is sign whole) = omega (arith, length-append front (dots ∷ more))

bounds_agree : Agrees bounds_at IsBounds Never
bounds_agree = record { front = bounds_front; out = bounds_out; read = bounds_read; left = λ tokens k never. absurd never; some = bounds_some; none = refl }

-- Dimensions

closes_square : Closes (codes "]")
closes_square = record { apart = refl; stop = λ sign is. stop_by (codes "]") sign is refl refl refl refl }

of_front : (first : Token) (front : List Token) (size : ℕ) (dims : List (ℤ × ℤ)) (rest : List Token)
    → is_sign (codes "[") first ≡ true → AreElements IsBounds (codes "]") front dims → length front ≡ size
    → FrontOf (first ∷ (front ++ rest)) AreDims (further 1 (if begins_with_word (codes "OF") rest then Fits dims (size + 1) else No))
of_front first front size dims [] sign are size_is = tt
of_front first front size dims (of ∷ rest) sign are size_is = by (is_word (codes "OF") of) refl
  where
    by : (b : Bool) → is_word (codes "OF") of ≡ b → FrontOf (first ∷ (front ++ (of ∷ rest))) AreDims (further 1 (if b then Fits dims (size + 1) else No))
    by false word = tt
    by true word =
        record {
          front = first ∷ (front ++ (of ∷ []));
          rest = rest;
          is = ap (λ (ts : List Token). first ∷ ts) (append_assoc front (of ∷ []) rest);
          size_is = omega (arith, size_is, length-append front (of ∷ []));
          holds = form.dims first front of dims sign are word;
        }

dims_front : (tokens : List Token) → FrontOf tokens AreDims (array_at tokens)
dims_front [] = tt
dims_front (first ∷ rest) = by (is_sign (codes "[") first) refl
  where
    at : is_sign (codes "[") first ≡ true → (r : Read (List (ℤ × ℤ))) → FrontOf rest (AreElements IsBounds (codes "]")) r
        → FrontOf (first ∷ rest) AreDims (further 1 (before_of rest r))
    at sign No f = tt
    at sign (LeftOut k) f = tt
    at sign (Fits dims size) f =
        let base : FrontOf (first ∷ (f.front ++ f.rest)) AreDims (further 1 (if begins_with_word (codes "OF") f.rest then Fits dims (size + 1) else No)) =
        of_front first f.front size dims f.rest sign f.holds f.size_is in
        let one : FrontOf (first ∷ rest) AreDims (further 1 (if begins_with_word (codes "OF") f.rest then Fits dims (size + 1) else No)) =
        subst (λ (ts : List Token). FrontOf (first ∷ ts) AreDims (further 1 (if begins_with_word (codes "OF") f.rest then Fits dims (size + 1) else No)))
        f.is base in
        subst (λ (ts : List Token). FrontOf (first ∷ rest) AreDims (further 1 (if begins_with_word (codes "OF") ts then Fits dims (size + 1) else No)))
        (sym (dropped rest size (λ front. AreElements IsBounds (codes "]") front dims) f)) one

    by : (b : Bool) → is_sign (codes "[") first ≡ b → FrontOf (first ∷ rest) AreDims (if b then further 1 (before_of rest (dims_at rest)) else No)
    by false sign = tt
    by true sign = at sign (dims_at rest) (elements_front bounds_at IsBounds Never bounds_agree (codes "]") rest)

dims_read : (tokens : List Token) (dims : List (ℤ × ℤ)) → AreDims tokens dims → (rest : List Token) → array_at (tokens ++ rest) ≡ Fits dims (length tokens)
dims_read tokens its (form.dims before front of dims sign are word) rest =
    let all = front ++ (of ∷ rest) in
    let size : 1 + (length front + 1) ≡ length (before ∷ (front ++ (of ∷ []))) = omega (arith, length-append front (of ∷ [])) in
    ap (λ (ts : List Token). array_at (before ∷ ts)) (append_assoc front (of ∷ []) rest)
    ∙ if_true (is_sign (codes "[") before) _ No sign
    ∙ ap (λ (r : Read (List (ℤ × ℤ))). further 1 (before_of all r))
    (elements_read bounds_at IsBounds Never bounds_agree (codes "]") closes_square front dims are (of ∷ rest))
    ∙ ap (λ (ts : List Token). further 1 (if begins_with_word (codes "OF") ts then Fits dims (length front + 1) else No)) (drop-append_seam front (of ∷ rest))
    ∙ ap (further 1) (if_true (is_word (codes "OF") of) _ No word)
    ∙ ap (λ (n : ℕ). Fits dims n) size

-- Words of types, by their letters

abbrev pub is_spelt : Bool → List ℕ → List ℕ → Bool
is_spelt k low word = k && bytes_eq low (str_to_ascii_lowercase word)

abbrev is_spelt_among : Bool → List ℕ → List (List ℕ) → Bool
is_spelt_among k low table = k && list_any (λ entry. bytes_eq low (str_to_ascii_lowercase entry)) table

abbrev pub small_by : Bool → List ℕ → Option ElemType
small_by k low =
    if is_spelt k low (codes "BOOL") then Some elem.Bool
    else if is_spelt k low (codes "BYTE") then Some elem.Byte
    else if is_spelt k low (codes "CHAR") then Some elem.Char
    else None

abbrev pub wide_by : Bool → List ℕ → Option ElemType
wide_by k low =
    if is_spelt k low (codes "WORD") then Some elem.Word
    else if is_spelt k low (codes "INT") then Some elem.Int
    else if is_spelt k low (codes "DWORD") then Some elem.Dword
    else if is_spelt k low (codes "DINT") then Some elem.Dint
    else None

abbrev pub kind_by : Bool → List ℕ → Bool → Option Kind
kind_by k low user =
    if is_spelt k low (codes "REAL") then Some kind.Real
    else if is_spelt_among k low pointer_types then Some kind.PointerType
    else if is_spelt k low (codes "STRING") then Some kind.StringType
    else if is_spelt_among k low time_types then Some kind.DateTime
    else if user then Some kind.UserType
    else None

-- given also the kind of an instance that stands there
abbrev one_by : Bool → List ℕ → Bool → Option Kind → Read Written
one_by k low user its =
    if is_spelt k low (codes "DATE_AND_TIME") then Fits (alone inner.DateAndTime) 1
    else elementary_or (option_or (small_by k low) (wide_by k low)) (option_or (kind_by k low user) its)

abbrev opening_by : Bool → List ℕ → Bool → Option Kind → Read Written → Read Written
opening_by k low user its array =
    if is_spelt k low (codes "STRUCT") then Fits (alone inner.Struct) 1
    else if is_spelt k low (codes "ARRAY") then array
    else one_by k low user its

-- what is read at these letters, where a level may be opened and where none may
abbrev ReadsAs : Read Written → Bool → List ℕ → Bool → Option Kind → Type 0
ReadsAs r k low user its = (one_by k low user its ≡ r) × ((array : Read Written) → opening_by k low user its array ≡ r)

reads_at : (left : ℕ) (word : Token) (rest : List Token) (r : Read Written)
    → ReadsAs r (is_word_kind word.kind) (str_to_ascii_lowercase word.text) (is_user_type word rest) (instance_kind word rest)
    → type_at left (word ∷ rest) ≡ r
reads_at zero word rest r is = is.0
reads_at (suc left) word rest r is = is.1 (array_with rest (array_at rest) (λ behind. type_at left behind))

-- what holds of a word's letters holds of it
pub at_letters : (P : Bool → List ℕ → Bool → Type 0) (word : Token) (user : Bool) (text : List ℕ) → is_word text word ≡ true
    → P true (str_to_ascii_lowercase text) user → P (is_word_kind word.kind) (str_to_ascii_lowercase word.text) user
at_letters P word user text is made =
    let p = and_parts (is_word_kind word.kind) (is_same_word word.text text) is in
    subst (λ (k : Bool). P k (str_to_ascii_lowercase word.text) user) (sym p.0)
    (subst (λ (low : List ℕ). P true low user) (sym (same_letters word.text text p.1)) made)

-- a word is what its letters are
word_reads : (left : ℕ) (word : Token) (rest : List Token) (r : Read Written) (text : List ℕ) → is_word text word ≡ true →
    ((user : Bool) (its : Option Kind) → ReadsAs r true (str_to_ascii_lowercase text) user its) → type_at left (word ∷ rest) ≡ r
word_reads left word rest r text is reads =
    let p = and_parts (is_word_kind word.kind) (is_same_word word.text text) is in
    let user = is_user_type word rest in
    let its = instance_kind word rest in
    let low = str_to_ascii_lowercase word.text in
    reads_at left word rest r
    (subst (λ (k : Bool). ReadsAs r k low user its) (sym p.0)
    (subst (λ (ts : List ℕ). ReadsAs r true ts user its) (sym (same_letters word.text text p.1)) (reads user its)))

elementary_reads : (type : ElemType) (user : Bool) (its : Option Kind)
    → ReadsAs (Fits (alone (inner.Elementary type)) 1) true (str_to_ascii_lowercase (elem_word type)) user its
elementary_reads elem.Bool user its = (refl, λ array. refl)
elementary_reads elem.Byte user its = (refl, λ array. refl)
elementary_reads elem.Char user its = (refl, λ array. refl)
elementary_reads elem.Word user its = (refl, λ array. refl)
elementary_reads elem.Int user its = (refl, λ array. refl)
elementary_reads elem.Dword user its = (refl, λ array. refl)
elementary_reads elem.Dint user its = (refl, λ array. refl)

-- an entry of a table
record Entry (low : List ℕ) (table : List (List ℕ)) : Type 0 where
  entry : List ℕ
  among : IsAmong entry table
  same : low ≡ str_to_ascii_lowercase entry

entry_of : (text : List ℕ) (table : List (List ℕ)) → list_any (λ entry. is_same_word text entry) table ≡ true → Entry (str_to_ascii_lowercase text) table
entry_of text [] h = absurd cc
entry_of text (word ∷ table) h = by (is_same_word text word) refl h (λ more. entry_of text table more)
  where
    by : (b : Bool) → is_same_word text word ≡ b → (b || list_any (λ entry. is_same_word text entry) table) ≡ true
        → (list_any (λ entry. is_same_word text entry) table ≡ true → Entry (str_to_ascii_lowercase text) table)
        → Entry (str_to_ascii_lowercase text) (word ∷ table)
    by true is h next = record { entry = word; among = inl refl; same = same_letters text word is }
    by false is h next = let e = next h in record { entry = e.entry; among = inr e.among; same = e.same }

pub among_at : (P : Bool → List ℕ → Bool → Type 0) (word : Token) (user : Bool) (table : List (List ℕ)) → is_word_among table word ≡ true
    → ((entry : List ℕ) → IsAmong entry table → P true (str_to_ascii_lowercase entry) user)
    → P (is_word_kind word.kind) (str_to_ascii_lowercase word.text) user
among_at P word user table is made =
    let p = and_parts (is_word_kind word.kind) (list_any (λ entry. is_same_word word.text entry) table) is in
    let e = entry_of word.text table p.1 in
    subst (λ (k : Bool). P k (str_to_ascii_lowercase word.text) user) (sym p.0)
    (subst (λ (low : List ℕ). P true low user) (sym e.same) (made e.entry e.among))

among_reads : (left : ℕ) (word : Token) (rest : List Token) (r : Read Written) (table : List (List ℕ)) → is_word_among table word ≡ true →
    ((entry : List ℕ) → IsAmong entry table → (user : Bool) (its : Option Kind) → ReadsAs r true (str_to_ascii_lowercase entry) user its)
    → type_at left (word ∷ rest) ≡ r
among_reads left word rest r table is reads =
    let p = and_parts (is_word_kind word.kind) (list_any (λ entry. is_same_word word.text entry) table) is in
    let e = entry_of word.text table p.1 in
    let user = is_user_type word rest in
    let its = instance_kind word rest in
    let low = str_to_ascii_lowercase word.text in
    reads_at left word rest r
    (subst (λ (k : Bool). ReadsAs r k low user its) (sym p.0)
    (subst (λ (ts : List ℕ). ReadsAs r true ts user its) (sym e.same) (reads e.entry e.among user its)))

abbrev ReadsLeft : Kind → Bool → Option Kind → List ℕ → Type 0
ReadsLeft k user its entry = ReadsAs (LeftOut k) true (str_to_ascii_lowercase entry) user its

pointers_left : (entry : List ℕ) → IsAmong entry pointer_types → (user : Bool) (its : Option Kind) → ReadsLeft kind.PointerType user its entry
pointers_left entry (inl e) user its = subst (ReadsLeft kind.PointerType user its) (sym e) (refl, λ array. refl)
pointers_left entry (inr (inl e)) user its = subst (ReadsLeft kind.PointerType user its) (sym e) (refl, λ array. refl)
pointers_left entry (inr (inr (inl e))) user its = subst (ReadsLeft kind.PointerType user its) (sym e) (refl, λ array. refl)
pointers_left entry (inr (inr (inr (inl e)))) user its = subst (ReadsLeft kind.PointerType user its) (sym e) (refl, λ array. refl)
pointers_left entry (inr (inr (inr (inr (inl e))))) user its = subst (ReadsLeft kind.PointerType user its) (sym e) (refl, λ array. refl)
pointers_left entry (inr (inr (inr (inr (inr (inl e)))))) user its = subst (ReadsLeft kind.PointerType user its) (sym e) (refl, λ array. refl)
pointers_left entry (inr (inr (inr (inr (inr (inr (inl e))))))) user its = subst (ReadsLeft kind.PointerType user its) (sym e) (refl, λ array. refl)
pointers_left entry (inr (inr (inr (inr (inr (inr (inr (inl e)))))))) user its = subst (ReadsLeft kind.PointerType user its) (sym e) (refl, λ array. refl)
pointers_left entry (inr (inr (inr (inr (inr (inr (inr (inr none)))))))) user its = elim none [ ]

times_left : (entry : List ℕ) → IsAmong entry time_types → (user : Bool) (its : Option Kind) → ReadsLeft kind.DateTime user its entry
times_left entry (inl e) user its = subst (ReadsLeft kind.DateTime user its) (sym e) (refl, λ array. refl)
times_left entry (inr (inl e)) user its = subst (ReadsLeft kind.DateTime user its) (sym e) (refl, λ array. refl)
times_left entry (inr (inr (inl e))) user its = subst (ReadsLeft kind.DateTime user its) (sym e) (refl, λ array. refl)
times_left entry (inr (inr (inr (inl e)))) user its = subst (ReadsLeft kind.DateTime user its) (sym e) (refl, λ array. refl)
times_left entry (inr (inr (inr (inr none)))) user its = elim none [ ]

-- a type of the user's own begins with a `U`, as no other word of a type does
pub user_starts : (word : Token) (rest : List Token) → is_user_type word rest ≡ true → Starts 117 word
user_starts word rest h = number_starts (codes "UDT") 117 (100 ∷ 116 ∷ []) word rest refl h

user_reads : (tail : List ℕ) (its : Option Kind) → ReadsAs (LeftOut kind.UserType) true (117 ∷ tail) true its
user_reads tail its = (refl, λ array. refl)

user_left : (left : ℕ) (word : Token) (rest : List Token) → is_user_type word rest ≡ true → type_at left (word ∷ rest) ≡ LeftOut kind.UserType
user_left left word rest is =
    let s = user_starts word rest is in
    let r : Read Written = LeftOut kind.UserType in
    let its = instance_kind word rest in
    reads_at left word rest r
    (subst (λ (k : Bool). ReadsAs r k (str_to_ascii_lowercase word.text) (is_user_type word rest) its) (sym s.kind_is)
    (subst (λ (low : List ℕ). ReadsAs r true low (is_user_type word rest) its) (sym s.low_is)
    (subst (λ (user : Bool). ReadsAs r true (117 ∷ s.tail) user its) (sym is) (user_reads s.tail its))))

-- nor does another begin as an instance, of a function block or of a block of the system

-- what is read of a word with a number, which is no type of the user's own
instance_at : (left : ℕ) (word : Token) (rest : List Token) (k : Kind) (low : List ℕ) → is_word_kind word.kind ≡ true
    → str_to_ascii_lowercase word.text ≡ low → is_user_type word rest ≡ false → instance_kind word rest ≡ Some k
    → ReadsAs (LeftOut k) true low false (Some k) → type_at left (word ∷ rest) ≡ LeftOut k
instance_at left word rest k low kind_is low_is no_user its reads =
    let r : Read Written = LeftOut k in
    reads_at left word rest r
    (subst (λ (w : Bool). ReadsAs r w (str_to_ascii_lowercase word.text) (is_user_type word rest) (instance_kind word rest)) (sym kind_is)
    (subst (λ (text : List ℕ). ReadsAs r true text (is_user_type word rest) (instance_kind word rest)) (sym low_is)
    (subst (λ (user : Bool). ReadsAs r true low user (instance_kind word rest)) (sym no_user)
    (subst (λ (o : Option Kind). ReadsAs r true low false o) (sym its) reads))))

block_reads : (tail : List ℕ) → ReadsAs (LeftOut kind.MultiInstance) true (102 ∷ 98 ∷ tail) false (Some kind.MultiInstance)
block_reads tail = (refl, λ array. refl)

block_left : (left : ℕ) (word : Token) (rest : List Token) → has_number (codes "FB") word rest ≡ true
    → type_at left (word ∷ rest) ≡ LeftOut kind.MultiInstance
block_left left word rest is =
    let s = number_whole (codes "FB") word rest is in
    let starts = number_starts (codes "FB") 102 (98 ∷ []) word rest refl is in
    instance_at left word rest kind.MultiInstance (102 ∷ 98 ∷ s.tail) s.kind_is s.low_is
    (other_start (codes "UDT") 102 117 (100 ∷ 116 ∷ []) word rest refl (λ (same : 102 ≡ 117). omega (arith, same)) starts)
    (if_true (has_number (codes "FB") word rest) _ _ is) (block_reads s.tail)

system_reads : (tail : List ℕ) → ReadsAs (LeftOut kind.SystemCall) true (115 ∷ 102 ∷ 98 ∷ tail) false (Some kind.SystemCall)
system_reads tail = (refl, λ array. refl)

system_left : (left : ℕ) (word : Token) (rest : List Token) → has_number (codes "SFB") word rest ≡ true
    → type_at left (word ∷ rest) ≡ LeftOut kind.SystemCall
system_left left word rest is =
    let s = number_whole (codes "SFB") word rest is in
    let starts = number_starts (codes "SFB") 115 (102 ∷ 98 ∷ []) word rest refl is in
    instance_at left word rest kind.SystemCall (115 ∷ 102 ∷ 98 ∷ s.tail) s.kind_is s.low_is
    (other_start (codes "UDT") 115 117 (100 ∷ 116 ∷ []) word rest refl (λ (same : 115 ≡ 117). omega (arith, same)) starts)
    (if_false (has_number (codes "FB") word rest) _ _
    (other_start (codes "FB") 115 102 (98 ∷ []) word rest refl (λ (same : 115 ≡ 102). omega (arith, same)) starts)
    ∙ if_true (has_number (codes "SFB") word rest) _ None is) (system_reads s.tail)

-- Types

small_word : (word : Token) (type : ElemType) → small_type word ≡ Some type → is_word (elem_word type) word ≡ true
small_word word type e = by (is_word (codes "BOOL") word) refl (is_word (codes "BYTE") word) refl (is_word (codes "CHAR") word) refl e
  where
    so : (its : ElemType) → Some its ≡ Some type → is_word (elem_word its) word ≡ true → is_word (elem_word type) word ≡ true
    so its e is = let same : its ≡ type = cc in subst (λ (t : ElemType). is_word (elem_word t) word ≡ true) same is

    by : (a : Bool) → is_word (codes "BOOL") word ≡ a → (b : Bool) → is_word (codes "BYTE") word ≡ b → (c : Bool) → is_word (codes "CHAR") word ≡ c →
        (if a then Some elem.Bool else if b then Some elem.Byte else if c then Some elem.Char else None) ≡ Some type → is_word (elem_word type) word ≡ true
    by true is b no_b c no_c e = so elem.Bool e is
    by false no_a true is c no_c e = so elem.Byte e is
    by false no_a false no_b true is e = so elem.Char e is
    by false no_a false no_b false no_c e = absurd cc

wide_word : (word : Token) (type : ElemType) → wide_type word ≡ Some type → is_word (elem_word type) word ≡ true
wide_word word type e =
    by (is_word (codes "WORD") word) refl (is_word (codes "INT") word) refl (is_word (codes "DWORD") word) refl (is_word (codes "DINT") word) refl e
  where
    so : (its : ElemType) → Some its ≡ Some type → is_word (elem_word its) word ≡ true → is_word (elem_word type) word ≡ true
    so its e is = let same : its ≡ type = cc in subst (λ (t : ElemType). is_word (elem_word t) word ≡ true) same is

    by : (a : Bool) → is_word (codes "WORD") word ≡ a → (b : Bool) → is_word (codes "INT") word ≡ b → (c : Bool) → is_word (codes "DWORD") word ≡ c
        → (d : Bool) → is_word (codes "DINT") word ≡ d
        → (if a then Some elem.Word else if b then Some elem.Int else if c then Some elem.Dword else if d then Some elem.Dint else None) ≡ Some type
        → is_word (elem_word type) word ≡ true
    by true is b no_b c no_c d no_d e = so elem.Word e is
    by false no_a true is c no_c d no_d e = so elem.Int e is
    by false no_a false no_b true is d no_d e = so elem.Dword e is
    by false no_a false no_b false no_c true is e = so elem.Dint e is
    by false no_a false no_b false no_c false no_d e = absurd cc

pub elementary_word : (word : Token) (type : ElemType) → elementary_type word ≡ Some type → is_word (elem_word type) word ≡ true
elementary_word word type e = by (small_type word) refl e
  where
    by : (o : Option ElemType) → small_type word ≡ o → option_or o (wide_type word) ≡ Some type → is_word (elem_word type) word ≡ true
    by None small e = wide_word word type e
    by (Some its) small e = small_word word type (small ∙ e)

elementary_front : (left : ℕ) (word : Token) (rest : List Token) (type : ElemType) → is_word (elem_word type) word ≡ true →
    Front (word ∷ rest) 1 (λ front. IsType left front (alone (inner.Elementary type)))
elementary_front left word rest type is = record { front = word ∷ []; rest = rest; is = refl; size_is = refl; holds = form.elementary left word type is }

one_front : (left : ℕ) (tokens : List Token) → FrontOf tokens (IsType left) (one_word_at tokens)
one_front left [] = tt
one_front left (first ∷ rest) = by (is_word (codes "DATE_AND_TIME") first) refl (elementary_type first) refl (variable_kind first rest)
  where
    by : (b : Bool) → is_word (codes "DATE_AND_TIME") first ≡ b → (e : Option ElemType) → elementary_type first ≡ e → (k : Option Kind)
        → FrontOf (first ∷ rest) (IsType left) (if b then Fits (alone inner.DateAndTime) 1 else elementary_or e k)
    by true is e its k = record { front = first ∷ []; rest = rest; is = refl; size_is = refl; holds = form.date_and_time left first is }
    by false is (Some type) its k = elementary_front left first rest type (elementary_word first type its)
    by false is None its (Some k) = tt
    by false is None its None = tt

pub type_front : (left : ℕ) (tokens : List Token) → FrontOf tokens (IsType left) (type_at left tokens)
type_front zero tokens = one_front zero tokens
type_front (suc left) [] = tt
type_front (suc left) (first ∷ rest) = by (is_word (codes "STRUCT") first) refl (is_word (codes "ARRAY") first) refl (λ more. type_front left more)
  where
    at : is_word (codes "ARRAY") first ≡ true → ((more : List Token) → FrontOf more (IsType left) (type_at left more))
        → (r : Read (List (ℤ × ℤ))) → FrontOf rest AreDims r
        → FrontOf (first ∷ rest) (IsType (suc left)) (array_with rest r (λ behind. type_at left behind))
    at word next No f = tt
    at word next (LeftOut k) f = tt
    at word next (Fits dims size) f =
        let G : List Token → Written → Type 0 = IsType (suc left) in
        let read : List Token → Read Written = λ ts. read_as (with_array dims) (type_at left ts) in
        let base : FrontOf (first ∷ (f.front ++ f.rest)) G (further (length (first ∷ f.front)) (read f.rest)) =
        further_front (first ∷ f.front) f.rest G (read f.rest)
        (as_front f.rest (with_array dims) (IsType left) (λ more type. G (first ∷ (f.front ++ more)) type)
        (λ more end type split is. form.array left first f.front more dims type word f.holds is) (type_at left f.rest) (next f.rest)) in
        let whole : length (first ∷ f.front) ≡ size + 1 = omega (arith, f.size_is) in
        let one : FrontOf (first ∷ rest) G (further (length (first ∷ f.front)) (read f.rest)) =
        subst (λ (ts : List Token). FrontOf (first ∷ ts) G (further (length (first ∷ f.front)) (read f.rest))) f.is base in
        let two : FrontOf (first ∷ rest) G (further (size + 1) (read f.rest)) =
        subst (λ (n : ℕ). FrontOf (first ∷ rest) G (further n (read f.rest))) whole one in
        subst (λ (ts : List Token). FrontOf (first ∷ rest) G (further (size + 1) (read ts))) (sym (dropped rest size (λ front. AreDims front dims) f)) two

    by : (b : Bool) → is_word (codes "STRUCT") first ≡ b → (c : Bool) → is_word (codes "ARRAY") first ≡ c
        → ((more : List Token) → FrontOf more (IsType left) (type_at left more))
        → FrontOf (first ∷ rest) (IsType (suc left))
        (if b then Fits (alone inner.Struct) 1 else if c then array_with rest (array_at rest) (λ behind. type_at left behind) else one_word_at (first ∷ rest))
    by true is c word next = record { front = first ∷ []; rest = rest; is = refl; size_is = refl; holds = form.struct left first is }
    by false is false word next = one_front (suc left) (first ∷ rest)
    by false is true word next = at word next (array_at rest) (dims_front rest)

array_reads : (left : ℕ) (word : Token) (front rest : List Token) (dims : List (ℤ × ℤ)) → is_word (codes "ARRAY") word ≡ true → AreDims front dims →
    type_at (suc left) (word ∷ (front ++ rest)) ≡ further (length front + 1) (read_as (with_array dims) (type_at left rest))
array_reads left word front rest dims is are =
    let all = front ++ rest in
    if_false (is_word (codes "STRUCT") word) _ _ (other_word (codes "ARRAY") (codes "STRUCT") word is refl)
    ∙ if_true (is_word (codes "ARRAY") word) _ (one_word_at (word ∷ all)) is
    ∙ ap (λ (r : Read (List (ℤ × ℤ))). array_with all r (λ behind. type_at left behind)) (dims_read front dims are rest)
    ∙ ap (λ (ts : List Token). further (length front + 1) (read_as (with_array dims) (type_at left ts))) (drop-append_seam front rest)

pub type_read : (left : ℕ) (tokens : List Token) (type : Written) → IsType left tokens type
    → (rest : List Token) → type_at left (tokens ++ rest) ≡ Fits type (length tokens)
type_read left tokens type (form.elementary l word its is) rest =
    word_reads l word rest (Fits (alone (inner.Elementary its)) 1) (elem_word its) is (elementary_reads its)
type_read left tokens type (form.date_and_time l word is) rest =
    word_reads l word rest (Fits (alone inner.DateAndTime) 1) (codes "DATE_AND_TIME") is (λ user its. (refl, λ array. refl))
type_read left tokens type (form.struct l word is) rest = if_true (is_word (codes "STRUCT") word) _ _ is
type_read left tokens type (form.array l word front more dims its is are of) rest =
    let size : length front + 1 + length more ≡ length (word ∷ (front ++ more)) = omega (arith, length-append front more) in
    ap (λ (ts : List Token). type_at (suc l) (word ∷ ts)) (append_assoc front more rest)
    ∙ array_reads l word front (more ++ rest) dims is are
    ∙ ap (λ (r : Read Written). further (length front + 1) (read_as (with_array dims) r)) (type_read l more its of rest)
    ∙ ap (λ (n : ℕ). Fits (with_array dims its) n) size

-- types that are left out

-- the kind of a type, and of an instance
abbrev pub LeftKind : Token → List Token → Option Kind → Type 0
LeftKind word rest None = Unit {0}
LeftKind word rest (Some k) = IsLeftOut word rest k

pub kind_is : (word : Token) (rest : List Token) → LeftKind word rest (type_kind word rest)
kind_is word rest =
    by (is_word (codes "REAL") word) refl (is_word_among pointer_types word) refl
    (is_word (codes "STRING") word) refl (is_word_among time_types word) refl (is_user_type word rest) refl
  where
    by : (a : Bool) → is_word (codes "REAL") word ≡ a → (b : Bool) → is_word_among pointer_types word ≡ b → (c : Bool) → is_word (codes "STRING") word ≡ c
        → (d : Bool) → is_word_among time_types word ≡ d → (u : Bool) → is_user_type word rest ≡ u
        → LeftKind word rest
        (if a then Some kind.Real else if b then Some kind.PointerType else if c then Some kind.StringType
        else if d then Some kind.DateTime else if u then Some kind.UserType else None)
    by true is b is_b c is_c d is_d u is_u = form.real word rest is
    by false no_a true is c is_c d is_d u is_u = form.pointer word rest is
    by false no_a false no_b true is d is_d u is_u = form.string word rest is
    by false no_a false no_b false no_c true is u is_u = form.time word rest is
    by false no_a false no_b false no_c false no_d true is = form.user word rest is
    by false no_a false no_b false no_c false no_d false no_u = tt

instance_out : (left : ℕ) (word : Token) (rest : List Token)
    → OutOf {A = Written} (λ k. LeavesOutType left (word ∷ rest) k) (left_out_type (instance_kind word rest))
instance_out left word rest = by (has_number (codes "FB") word rest) refl (has_number (codes "SFB") word rest) refl
  where
    by : (b : Bool) → has_number (codes "FB") word rest ≡ b → (c : Bool) → has_number (codes "SFB") word rest ≡ c →
        OutOf {A = Written} (λ k. LeavesOutType left (word ∷ rest) k)
        (left_out_type (if b then Some kind.MultiInstance else if c then Some kind.SystemCall else None))
    by true is c is_c = form.instance left word rest is
    by false no_b true is = form.of_system left word rest is
    by false no_b false no_c = tt

kind_out : (left : ℕ) (word : Token) (rest : List Token)
    → OutOf {A = Written} (λ k. LeavesOutType left (word ∷ rest) k) (left_out_type (variable_kind word rest))
kind_out left word rest = by (type_kind word rest) (kind_is word rest)
  where
    by : (o : Option Kind) → LeftKind word rest o
        → OutOf {A = Written} (λ k. LeavesOutType left (word ∷ rest) k) (left_out_type (option_or o (instance_kind word rest)))
    by (Some k) is = form.left_out left word rest k is
    by None is = instance_out left word rest

one_out : (left : ℕ) (tokens : List Token) → OutOf (λ k. LeavesOutType left tokens k) (one_word_at tokens)
one_out left [] = tt
one_out left (first ∷ rest) = by (is_word (codes "DATE_AND_TIME") first) (elementary_type first)
  where
    by : (b : Bool) (e : Option ElemType)
        → OutOf (λ k. LeavesOutType left (first ∷ rest) k)
        (if b then Fits (alone inner.DateAndTime) 1 else elementary_or e (variable_kind first rest))
    by true e = tt
    by false (Some type) = tt
    by false None = kind_out left first rest

pub type_out : (left : ℕ) (tokens : List Token) → OutOf (λ k. LeavesOutType left tokens k) (type_at left tokens)
type_out zero tokens = one_out zero tokens
type_out (suc left) [] = tt
type_out (suc left) (first ∷ rest) = by (is_word (codes "STRUCT") first) (is_word (codes "ARRAY") first) refl (λ more. type_out left more)
  where
    at : is_word (codes "ARRAY") first ≡ true → ((more : List Token) → OutOf (λ k. LeavesOutType left more k) (type_at left more))
        → (r : Read (List (ℤ × ℤ))) → FrontOf rest AreDims r
        → OutOf (λ k. LeavesOutType (suc left) (first ∷ rest) k) (array_with rest r (λ behind. type_at left behind))
    at word next No f = tt
    at word next (LeftOut k) f = tt
    at word next (Fits dims size) f =
        let Q : Kind → Type 0 = λ k. LeavesOutType (suc left) (first ∷ rest) k in
        let behind : List Token = drop size rest in
        let there : OutOf (λ k. LeavesOutType left f.rest k) (type_at left behind) =
        subst (λ (ts : List Token). OutOf (λ k. LeavesOutType left f.rest k) (type_at left ts))
        (sym (dropped rest size (λ front. AreDims front dims) f)) (next f.rest) in
        further_out Q (size + 1) (read_as (with_array dims) (type_at left behind))
        (as_out Q (with_array dims) (type_at left behind)
        (weaker_out (λ k. LeavesOutType left f.rest k) Q
        (λ k out. subst (λ (ts : List Token). LeavesOutType (suc left) (first ∷ ts) k) f.is (form.array_of left first f.front f.rest dims k word f.holds out))
        (type_at left behind) there))

    by : (b c : Bool) → is_word (codes "ARRAY") first ≡ c → ((more : List Token) → OutOf (λ k. LeavesOutType left more k) (type_at left more)) →
        OutOf (λ k. LeavesOutType (suc left) (first ∷ rest) k)
        (if b then Fits (alone inner.Struct) 1 else if c then array_with rest (array_at rest) (λ behind. type_at left behind) else one_word_at (first ∷ rest))
    by true c word next = tt
    by false false word next = one_out (suc left) (first ∷ rest)
    by false true word next = at word next (array_at rest) (dims_front rest)

word_left : (left : ℕ) (word : Token) (rest : List Token) (k : Kind) → IsLeftOut word rest k → type_at left (word ∷ rest) ≡ LeftOut k
word_left left word rest k (form.real w ts is) = word_reads left w ts (LeftOut kind.Real) (codes "REAL") is (λ user its. (refl, λ array. refl))
word_left left word rest k (form.pointer w ts is) = among_reads left w ts (LeftOut kind.PointerType) pointer_types is pointers_left
word_left left word rest k (form.string w ts is) = word_reads left w ts (LeftOut kind.StringType) (codes "STRING") is (λ user its. (refl, λ array. refl))
word_left left word rest k (form.time w ts is) = among_reads left w ts (LeftOut kind.DateTime) time_types is times_left
word_left left word rest k (form.user w ts is) = user_left left w ts is

pub type_left : (left : ℕ) (tokens : List Token) (k : Kind) → LeavesOutType left tokens k → type_at left tokens ≡ LeftOut k
type_left left tokens k (form.left_out l word rest its is) = word_left l word rest its is
type_left left tokens k (form.instance l word rest is) = block_left l word rest is
type_left left tokens k (form.of_system l word rest is) = system_left l word rest is
type_left left tokens k (form.array_of l word front rest dims its is are out) =
    array_reads l word front rest dims is are ∙ ap (λ (r : Read Written). further (length front + 1) (read_as (with_array dims) r)) (type_left l rest its out)
