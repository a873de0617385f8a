-- The address that a field gives is what its forms say.
use Rattle.std.proofs.Common.{◌≡◌, ℕ, suc, ◌+◌, ◌≤◌, ◌<◌, Bool, true, false, not, cond, ◌&&◌, ◌||◌, ◌==◌, if◌then◌else◌, List, [], ◌∷◌, ◌++◌, length, take, drop, Option, Some, None, option_map, refl, sym, ap, subst, ◌∙◌, arith}
use Rattle.std.proofs.Math.Seq.{drop-append_seam, take-append_seam}
use Rattle.std.proofs.lemmas.Bool.{and_from, and_parts, eqb-true, le-leb, leb-false, leb-true, or_from}
use Rattle.std.proofs.lemmas.List.{append-nil, take-append-drop}
use Rattle.std.proofs.lemmas.Str.Ascii.{lowercase-uppercase, lowercase_is, uppercase_is}
use Rattle.std.specs.Char.{to_ascii_lowercase, to_ascii_uppercase}
use Rattle.std.specs.List.{list_all, prefix_len}
use Rattle.std.specs.Prelude.{codes, nat_le}
use Rattle.std.specs.Str.{bytes_eq, str_to_ascii_lowercase}
use Rattle.digit_texts.specs.Digits.{are_digits, digits_size, is_digit, capped_number, kept_number, written_from}
use Rattle.memory_areas.specs.declared.place.AreaName.{AreaName}
use Rattle.memory_areas.specs.declared.place.AreaName.TheVariants as area
use Rattle.s7_base.specs.Tokens.{after_blanks, is_between, is_blank, is_same_word}
use Rattle.s7_base.specs.declared.word.Width.{Width}
use Rattle.s7_base.specs.declared.word.Width.TheVariants as width
use Rattle.stl_constants.proofs.Reading.{same_letters, taken}
use Rattle.stl_grammar.specs.AddressForms.{IsAddress, IsWrittenAddress}
use Rattle.stl_grammar.specs.AddressForms as form
use Rattle.stl_statement_grammar.specs.BlockNames.{kind_word}
use Rattle.stl_grammar.specs.Symbols.{address_by, address_of, area_by, bit_address, bit_with, is_letter, kind_of, named_address, or_other, place_address, place_of, width_by}
use Rattle.stl_tree.specs.declared.raw.BlockKind.{BlockKind}
use Rattle.stl_tree.specs.declared.raw.BlockKind.TheVariants as block
use Rattle.stl_tree.specs.declared.raw.SymbolAddress.{SymbolAddress}
use Rattle.stl_tree.specs.declared.raw.SymbolAddress.TheVariants as address

-- Characters

within : (low high c : ℕ) → low ≤ c → c ≤ high → is_between low high c ≡ true
within low high c a b = and_from (nat_le low c) (nat_le c high) (le-leb low c a) (le-leb c high b)

below : (low high c : ℕ) → c < low → is_between low high c ≡ false
below low high c less = by (nat_le low c) refl
  where
    by : (b : Bool) → nat_le low c ≡ b → (b && nat_le c high) ≡ false
    by true is = let more : low ≤ c = leb-true low c is in absurd (omega (arith, less, more))
    by false is = refl

bounds : (low high c : ℕ) → is_between low high c ≡ true → (low ≤ c) × (c ≤ high)
bounds low high c h = let p = and_parts (nat_le low c) (nat_le c high) h in (leb-true low c p.0, leb-true c high p.1)

blank_small : (b : ℕ) → is_blank b ≡ true → b ≤ 32
blank_small b h = by (b == 32) refl (b == 9) refl (b == 13) refl h
  where
    by : (x : Bool) → (b == 32) ≡ x → (y : Bool) → (b == 9) ≡ y → (z : Bool) → (b == 13) ≡ z → (x || y || z) ≡ true → b ≤ 32
    by true is y is_y z is_z h = let same : b ≡ 32 = eqb-true b 32 is in omega (arith, same)
    by false no_a true is z is_z h = let same : b ≡ 9 = eqb-true b 9 is in omega (arith, same)
    by false no_a false no_y true is h = let same : b ≡ 13 = eqb-true b 13 is in omega (arith, same)
    by false no_a false no_y false no_z h = absurd cc

blank_no_letter : (b : ℕ) → is_blank b ≡ true → is_letter b ≡ false
blank_no_letter b h = let small = blank_small b h in or_from _ _ (below 65 90 b (omega (arith, small))) (below 97 122 b (omega (arith, small)))

digit_no_letter : (b : ℕ) → is_digit b ≡ true → is_letter b ≡ false
digit_no_letter b h =
    let p = bounds 48 57 b h in
    let high : b ≤ 57 = p.1 in
    or_from _ _ (below 65 90 b (omega (arith, high))) (below 97 122 b (omega (arith, high)))

digit_no_blank : (b : ℕ) → is_digit b ≡ true → is_blank b ≡ false
digit_no_blank b h = by (is_blank b) refl
  where
    by : (x : Bool) → is_blank b ≡ x → x ≡ false
    by true is = let small = blank_small b is in let p = bounds 48 57 b h in let low : 48 ≤ b = p.0 in absurd (omega (arith, small, low))
    by false is = refl

-- a letter, by what it is in small letters
small_letter : (c : ℕ) → is_between 97 122 (to_ascii_lowercase c) ≡ true → is_letter c ≡ true
small_letter c h = by (nat_le 65 c) refl (nat_le c 90) refl
  where
    p : (97 ≤ to_ascii_lowercase c) × (to_ascii_lowercase c ≤ 122)
    p = bounds 97 122 (to_ascii_lowercase c) h

    by : (x : Bool) → nat_le 65 c ≡ x → (y : Bool) → nat_le c 90 ≡ y → (x && y || is_between 97 122 c) ≡ true
    by true a true b = refl
    by true a false b =
        let more : 90 < c = leb-false c 90 b in
        let same : to_ascii_lowercase c ≡ c = (lowercase_is c).2 more in
        ap (λ (d : ℕ). is_between 97 122 d) (sym same) ∙ h
    by false a y b =
        let less : c < 65 = leb-false 65 c a in
        let same : to_ascii_lowercase c ≡ c = (lowercase_is c).1 less in
        absurd (omega (arith, less, same, p.0))

all_letters : (xs : List ℕ) → list_all (λ b. is_between 97 122 b) (str_to_ascii_lowercase xs) ≡ true → list_all is_letter xs ≡ true
all_letters [] h = refl
all_letters (x ∷ xs) h =
    let p = and_parts (is_between 97 122 (to_ascii_lowercase x)) (list_all (λ b. is_between 97 122 b) (str_to_ascii_lowercase xs)) h in
    and_from (is_letter x) (list_all is_letter xs) (small_letter x p.0) (all_letters xs p.1)

same_are_letters : (xs word : List ℕ) → is_same_word xs word ≡ true
    → list_all (λ b. is_between 97 122 b) (str_to_ascii_lowercase word) ≡ true → list_all is_letter xs ≡ true
same_are_letters xs word same letters = all_letters xs (ap (λ (low : List ℕ). list_all (λ b. is_between 97 122 b) low) (same_letters xs word same) ∙ letters)

kind_are_letters : (kind : BlockKind) → list_all (λ b. is_between 97 122 b) (str_to_ascii_lowercase (kind_word kind)) ≡ true
kind_are_letters block.Ob = refl
kind_are_letters block.Fc = refl
kind_are_letters block.Fb = refl
kind_are_letters block.Db = refl

-- the letter of an area is I, Q or M
data IsAreaLetter (c : ℕ) : Type 0 where
  as_i : to_ascii_uppercase c ≡ 73 → IsAreaLetter c
  as_q : to_ascii_uppercase c ≡ 81 → IsAreaLetter c
  as_m : to_ascii_uppercase c ≡ 77 → IsAreaLetter c

area_letter : (c : ℕ) (name : AreaName) → area_by (to_ascii_uppercase c) ≡ Some name → IsAreaLetter c
area_letter c name e = by (to_ascii_uppercase c == 73) refl (to_ascii_uppercase c == 81) refl (to_ascii_uppercase c == 77) refl e
  where
    by : (x : Bool) → (to_ascii_uppercase c == 73) ≡ x → (y : Bool) → (to_ascii_uppercase c == 81) ≡ y → (z : Bool) → (to_ascii_uppercase c == 77) ≡ z →
        (if x then Some area.I else if y then Some area.Q else if z then Some area.M else None) ≡ Some name → IsAreaLetter c
    by true is y is_y z is_z e = as_i (eqb-true _ 73 is)
    by false no_a true is z is_z e = as_q (eqb-true _ 81 is)
    by false no_a false no_y true is e = as_m (eqb-true _ 77 is)
    by false no_a false no_y false no_z e = absurd cc

capital_letter : (c u : ℕ) → to_ascii_uppercase c ≡ u → 65 ≤ u → u ≤ 90 → is_letter c ≡ true
capital_letter c u e low high = by (nat_le 97 c) refl (nat_le c 122) refl
  where
    by : (x : Bool) → nat_le 97 c ≡ x → (y : Bool) → nat_le c 122 ≡ y → (is_between 65 90 c || x && y) ≡ true
    by true a true b = last (is_between 65 90 c)
      where
        last : (x : Bool) → (x || true) ≡ true
        last true = refl
        last false = refl
    by true a false b =
        let more : 122 < c = leb-false c 122 b in
        let same : to_ascii_uppercase c ≡ c = (uppercase_is c).2 more in
        absurd (omega (arith, more, same, e, high))
    by false a y b =
        let less : c < 97 = leb-false 97 c a in
        let same : to_ascii_uppercase c ≡ c = (uppercase_is c).1 less in
        ap (λ (x : Bool). x || false && y) (within 65 90 c (omega (arith, same, e, low)) (omega (arith, same, e, high)))

area_is_letter : (c : ℕ) → IsAreaLetter c → is_letter c ≡ true
area_is_letter c (as_i e) = capital_letter c 73 e (omega arith) (omega arith)
area_is_letter c (as_q e) = capital_letter c 81 e (omega arith) (omega arith)
area_is_letter c (as_m e) = capital_letter c 77 e (omega arith) (omega arith)

-- Fronts

abbrev no_head : (ℕ → Bool) → List ℕ → Bool
no_head p [] = true
no_head p (x ∷ xs) = not (p x)

prefix_all : (p : ℕ → Bool) (xs ys : List ℕ) → list_all p xs ≡ true → no_head p ys ≡ true → prefix_len p (xs ++ ys) ≡ length xs
prefix_all p [] [] all none = refl
prefix_all p [] (y ∷ ys) all none = by (p y) none
  where
    by : (b : Bool) → not b ≡ true → cond b (1 + prefix_len p ys) 0 ≡ 0
    by true h = absurd cc
    by false h = refl
prefix_all p (x ∷ xs) ys all none =
    let q = and_parts (p x) (list_all p xs) all in
    let more : prefix_len p (xs ++ ys) ≡ length xs = prefix_all p xs ys q.1 none in
    ap (λ (b : Bool). cond b (1 + prefix_len p (xs ++ ys)) 0) q.0 ∙ omega (arith, more)

prefix_passes : (p : ℕ → Bool) (xs : List ℕ) → list_all p (take (prefix_len p xs) xs) ≡ true
prefix_passes p [] = refl
prefix_passes p (x ∷ xs) = by (p x) refl (prefix_passes p xs)
  where
    by : (b : Bool) → p x ≡ b → list_all p (take (prefix_len p xs) xs) ≡ true → list_all p (take (cond b (1 + prefix_len p xs) 0) (x ∷ xs)) ≡ true
    by true is more =
        let size : 1 + prefix_len p xs ≡ suc (prefix_len p xs) = omega arith in
        ap (λ (n : ℕ). list_all p (take n (x ∷ xs))) size ∙ and_from (p x) (list_all p (take (prefix_len p xs) xs)) is more
    by false is more = refl

not_false : (b : Bool) → b ≡ false → not b ≡ true
not_false true h = absurd cc
not_false false h = refl

abbrev starts_digit : List ℕ → Bool
starts_digit [] = false
starts_digit (d ∷ ds) = is_digit d

digits_start : (digits : List ℕ) (n : ℕ) → kept_number digits ≡ Some n → are_digits digits ≡ true
digits_start digits n e = (taken (are_digits digits) (Some (capped_number (written_from 0 digits))) n e).0

number_starts : (digits more : List ℕ) (n : ℕ) → kept_number digits ≡ Some n → starts_digit (digits ++ more) ≡ true
number_starts digits more n e = by digits (digits_start digits n e)
  where
    by : (digits : List ℕ) → are_digits digits ≡ true → starts_digit (digits ++ more) ≡ true
    by [] h = absurd cc
    by (d ∷ ds) h = (and_parts (is_digit d) (list_all is_digit ds) h).0

digit_heads : (p : ℕ → Bool) → ((b : ℕ) → is_digit b ≡ true → p b ≡ false) → (digits : List ℕ) → starts_digit digits ≡ true → no_head p digits ≡ true
digit_heads p none [] h = refl
digit_heads p none (d ∷ ds) h = not_false (p d) (none d h)

blanks_head : (blanks digits : List ℕ) → list_all is_blank blanks ≡ true → starts_digit digits ≡ true → no_head is_letter (blanks ++ digits) ≡ true
blanks_head [] digits blank h = digit_heads is_letter digit_no_letter digits h
blanks_head (b ∷ bs) digits blank h = not_false (is_letter b) (blank_no_letter b (and_parts (is_blank b) (list_all is_blank bs) blank).0)

-- what a field gives by its letters and what stands behind them and their blanks
abbrev given : List ℕ → Option SymbolAddress
given field =
    let size = prefix_len is_letter field in
    named_address (kind_of (take size field)) (take size field) (after_blanks (drop size field))

split_given : (letters blanks digits : List ℕ) → list_all is_letter letters ≡ true → list_all is_blank blanks ≡ true → starts_digit digits ≡ true →
    given (letters ++ (blanks ++ digits)) ≡ named_address (kind_of letters) letters digits
split_given letters blanks digits all blank starts =
    let field = letters ++ (blanks ++ digits) in
    let size : prefix_len is_letter field ≡ length letters = prefix_all is_letter letters (blanks ++ digits) all (blanks_head blanks digits blank starts) in
    let front : take (length letters) field ≡ letters = take-append_seam letters (blanks ++ digits) in
    let behind : drop (length letters) field ≡ blanks ++ digits = drop-append_seam letters (blanks ++ digits) in
    let blanks_size : prefix_len is_blank (blanks ++ digits) ≡ length blanks =
    prefix_all is_blank blanks digits blank (digit_heads is_blank digit_no_blank digits starts) in
    let text : after_blanks (blanks ++ digits) ≡ digits = ap (λ (n : ℕ). drop n (blanks ++ digits)) blanks_size ∙ drop-append_seam blanks digits in
    ap (λ (n : ℕ). named_address (kind_of (take n field)) (take n field) (after_blanks (drop n field))) size
    ∙ ap (λ (xs : List ℕ). named_address (kind_of xs) xs (after_blanks (drop (length letters) field))) front
    ∙ ap (λ (xs : List ℕ). named_address (kind_of letters) letters (after_blanks xs)) behind
    ∙ ap (λ (xs : List ℕ). named_address (kind_of letters) letters xs) text

-- Kinds of blocks, by their letters

abbrev kind_by : List ℕ → Option BlockKind
kind_by low =
    if bytes_eq low (str_to_ascii_lowercase (kind_word block.Ob)) then Some block.Ob
    else if bytes_eq low (str_to_ascii_lowercase (kind_word block.Fc)) then Some block.Fc
    else if bytes_eq low (str_to_ascii_lowercase (kind_word block.Fb)) then Some block.Fb
    else if bytes_eq low (str_to_ascii_lowercase (kind_word block.Db)) then Some block.Db
    else None

kind_found : (kind : BlockKind) → kind_by (str_to_ascii_lowercase (kind_word kind)) ≡ Some kind
kind_found block.Ob = refl
kind_found block.Fc = refl
kind_found block.Fb = refl
kind_found block.Db = refl

kind_read : (letters : List ℕ) (kind : BlockKind) → is_same_word letters (kind_word kind) ≡ true → kind_of letters ≡ Some kind
kind_read letters kind same = ap kind_by (same_letters letters (kind_word kind) same) ∙ kind_found kind

kind_word_is : (letters : List ℕ) (kind : BlockKind) → kind_of letters ≡ Some kind → is_same_word letters (kind_word kind) ≡ true
kind_word_is letters kind e =
    by (is_same_word letters (kind_word block.Ob)) refl (is_same_word letters (kind_word block.Fc)) refl (is_same_word letters (kind_word block.Fb)) refl
    (is_same_word letters (kind_word block.Db)) refl e
  where
    so : (its : BlockKind) → Some its ≡ Some kind → is_same_word letters (kind_word its) ≡ true → is_same_word letters (kind_word kind) ≡ true
    so its e is = let same : its ≡ kind = cc in subst (λ (k : BlockKind). is_same_word letters (kind_word k) ≡ true) same is

    by : (a : Bool) → is_same_word letters (kind_word block.Ob) ≡ a → (b : Bool) → is_same_word letters (kind_word block.Fc) ≡ b →
        (c : Bool) → is_same_word letters (kind_word block.Fb) ≡ c → (d : Bool) → is_same_word letters (kind_word block.Db) ≡ d →
        (if a then Some block.Ob else if b then Some block.Fc else if c then Some block.Fb else if d then Some block.Db else None) ≡ Some kind →
        is_same_word letters (kind_word kind) ≡ true
    by true is b is_b c is_c d is_d e = so block.Ob e is
    by false no_a true is c is_c d is_d e = so block.Fc e is
    by false no_a false no_b true is d is_d e = so block.Fb e is
    by false no_a false no_b false no_c true is e = so block.Db e is
    by false no_a false no_b false no_c false no_d e = absurd cc

no_kind : (c : ℕ) (more : List ℕ) → IsAreaLetter c → kind_of (c ∷ more) ≡ None
no_kind c more is = by is
  where
    small : (u low : ℕ) → to_ascii_uppercase c ≡ u → to_ascii_lowercase u ≡ low → to_ascii_lowercase c ≡ low
    small u low e lower = sym (lowercase-uppercase c) ∙ ap to_ascii_lowercase e ∙ lower

    by : IsAreaLetter c → kind_of (c ∷ more) ≡ None
    by (as_i e) = ap (λ (b : ℕ). kind_by (b ∷ str_to_ascii_lowercase more)) (small 73 105 e refl)
    by (as_q e) = ap (λ (b : ℕ). kind_by (b ∷ str_to_ascii_lowercase more)) (small 81 113 e refl)
    by (as_m e) = ap (λ (b : ℕ). kind_by (b ∷ str_to_ascii_lowercase more)) (small 77 109 e refl)

-- Widths

-- the letters of a width are one, and that of no bit
record IsWide (next : ℕ) (more : List ℕ) (w : Width) : Type 0 where
  letters : list_all is_letter (next ∷ more) ≡ true
  reads : (name : AreaName) (text : List ℕ) → place_address (Some name) (Some w) text ≡ option_map (λ byte. place_of name w byte 0) (kept_number text)

wide_is : (next : ℕ) (more : List ℕ) (w : Width) → width_by (next ∷ more) ≡ Some w → IsWide next more w
wide_is next more w e =
    by (is_same_word (next ∷ more) (codes "B")) refl (is_same_word (next ∷ more) (codes "W")) refl (is_same_word (next ∷ more) (codes "D")) refl e
  where
    byte : is_same_word (next ∷ more) (codes "B") ≡ true → IsWide next more width.Byte
    byte is = record { letters = same_are_letters (next ∷ more) (codes "B") is refl; reads = λ name text. refl }

    word : is_same_word (next ∷ more) (codes "W") ≡ true → IsWide next more width.Word
    word is = record { letters = same_are_letters (next ∷ more) (codes "W") is refl; reads = λ name text. refl }

    dword : is_same_word (next ∷ more) (codes "D") ≡ true → IsWide next more width.Dword
    dword is = record { letters = same_are_letters (next ∷ more) (codes "D") is refl; reads = λ name text. refl }

    so : (its : Width) → Some its ≡ Some w → IsWide next more its → IsWide next more w
    so its e is = let same : its ≡ w = cc in subst (λ (x : Width). IsWide next more x) same is

    by : (a : Bool) → is_same_word (next ∷ more) (codes "B") ≡ a → (b : Bool)
        → is_same_word (next ∷ more) (codes "W") ≡ b → (c : Bool) → is_same_word (next ∷ more) (codes "D") ≡ c
        → (if a then Some width.Byte else if b then Some width.Word else if c then Some width.Dword else None) ≡ Some w → IsWide next more w
    by true is b is_b c is_c e = so width.Byte e (byte is)
    by false no_a true is c is_c e = so width.Word e (word is)
    by false no_a false no_b true is e = so width.Dword e (dword is)
    by false no_a false no_b false no_c e = absurd cc

-- From a form to what is given

area_reads : (letter : ℕ) (more text : List ℕ) (name : AreaName) → area_by (to_ascii_uppercase letter) ≡ Some name →
    named_address (kind_of (letter ∷ more)) (letter ∷ more) text ≡ place_address (Some name) (width_by more) text
area_reads letter more text name is =
    ap (λ (o : Option BlockKind). named_address o (letter ∷ more) text) (no_kind letter more (area_letter letter name is))
    ∙ ap (λ (o : Option AreaName). place_address o (width_by more) text) is

given_read : (field : List ℕ) (its : SymbolAddress) → IsWrittenAddress field its → given field ≡ Some its
given_read field its (form.block letters blanks digits kind n same blank number) =
    split_given letters blanks digits (same_are_letters letters (kind_word kind) same (kind_are_letters kind)) blank
    (subst (λ (ds : List ℕ). starts_digit ds ≡ true) (append-nil digits) (number_starts digits [] n number))
    ∙ ap (λ (o : Option BlockKind). named_address o letters digits) (kind_read letters kind same)
    ∙ ap (option_map (address.Block kind)) number
given_read field its (form.wide letter next more blanks digits name w byte is wide blank number) =
    let of = wide_is next more w wide in
    split_given (letter ∷ next ∷ more) blanks digits (and_from (is_letter letter) _ (area_is_letter letter (area_letter letter name is)) of.letters) blank
    (subst (λ (ds : List ℕ). starts_digit ds ≡ true) (append-nil digits) (number_starts digits [] byte number))
    ∙ area_reads letter (next ∷ more) digits name is
    ∙ ap (λ (o : Option Width). place_address (Some name) o digits) wide
    ∙ of.reads name digits
    ∙ ap (option_map (λ b. place_of name w b 0)) number
given_read field its (form.bit letter blanks front back name byte x is blank number behind) =
    let text = front ++ (46 ∷ back) in
    let size : digits_size text ≡ length front = prefix_all is_digit front (46 ∷ back) (all_digits front (digits_start front byte number)) refl in
    split_given (letter ∷ []) blanks text (and_from (is_letter letter) true (area_is_letter letter (area_letter letter name is)) refl) blank
    (number_starts front (46 ∷ back) byte number)
    ∙ area_reads letter [] text name is
    ∙ ap (λ (n : ℕ). bit_with name (drop n text) (kept_number (take n text))) size
    ∙ ap (λ (xs : List ℕ). bit_with name xs (kept_number (take (length front) text))) (drop-append_seam front (46 ∷ back))
    ∙ ap (λ (xs : List ℕ). bit_with name (46 ∷ back) (kept_number xs)) (take-append_seam front (46 ∷ back))
    ∙ ap (λ (o : Option ℕ). bit_with name (46 ∷ back) o) number
    ∙ ap (option_map (λ b. place_of name width.Bit byte b)) behind
  where
    all_digits : (digits : List ℕ) → are_digits digits ≡ true → list_all is_digit digits ≡ true
    all_digits [] h = absurd cc
    all_digits (d ∷ ds) h = h

-- From what is given to its form

abbrev IsGiven : List ℕ → Option SymbolAddress → Type 0
IsGiven field None = Unit {0}
IsGiven field (Some its) = IsWrittenAddress field its

digits_are : (letters blanks digits : List ℕ) (kind : BlockKind) → kind_of letters ≡ Some kind → list_all is_blank blanks ≡ true →
    IsGiven (letters ++ (blanks ++ digits)) (option_map (address.Block kind) (kept_number digits))
digits_are letters blanks digits kind is blank = by (kept_number digits) refl
  where
    by : (o : Option ℕ) → kept_number digits ≡ o → IsGiven (letters ++ (blanks ++ digits)) (option_map (address.Block kind) o)
    by None number = tt
    by (Some n) number = form.block letters blanks digits kind n (kind_word_is letters kind is) blank number

bytes_are : (letter next : ℕ) (more blanks digits : List ℕ) (name : AreaName) (w : Width)
    → area_by (to_ascii_uppercase letter) ≡ Some name → width_by (next ∷ more) ≡ Some w
    → list_all is_blank blanks ≡ true → IsGiven (letter ∷ (next ∷ (more ++ (blanks ++ digits)))) (place_address (Some name) (Some w) digits)
bytes_are letter next more blanks digits name w is wide blank =
    subst (λ (o : Option SymbolAddress). IsGiven (letter ∷ (next ∷ (more ++ (blanks ++ digits)))) o)
    (sym ((wide_is next more w wide).reads name digits)) (by (kept_number digits) refl)
  where
    by : (o : Option ℕ) → kept_number digits ≡ o → IsGiven (letter ∷ (next ∷ (more ++ (blanks ++ digits)))) (option_map (λ byte. place_of name w byte 0) o)
    by None number = tt
    by (Some n) number = form.wide letter next more blanks digits name w n is wide blank number

bits_are : (letter : ℕ) (blanks text : List ℕ) (name : AreaName) → area_by (to_ascii_uppercase letter) ≡ Some name → list_all is_blank blanks ≡ true →
    IsGiven (letter ∷ (blanks ++ text)) (bit_address name text)
bits_are letter blanks text name is blank =
    subst (λ (xs : List ℕ). IsGiven (letter ∷ (blanks ++ xs)) (bit_address name text)) (take-append-drop (digits_size text) text)
    (by (kept_number (take (digits_size text) text)) refl (drop (digits_size text) text))
  where
    at : (byte : ℕ) → kept_number (take (digits_size text) text) ≡ Some byte
        → (point : ℕ) (back : List ℕ) (b : Bool) → (point == 46) ≡ b → (o : Option ℕ) → kept_number back ≡ o
        → IsGiven (letter ∷ (blanks ++ (take (digits_size text) text ++ (point ∷ back))))
        (option_map (λ x. place_of name width.Bit byte x) (if b then o else None))
    at byte number point back false other o behind = tt
    at byte number point back true same None behind = tt
    at byte number point back true same (Some x) behind =
        let here : point ≡ 46 = eqb-true point 46 same in
        subst (λ (p : ℕ). IsWrittenAddress (letter ∷ (blanks ++ (take (digits_size text) text ++ (p ∷ back)))) (place_of name width.Bit byte x)) (sym here)
        (form.bit letter blanks (take (digits_size text) text) back name byte x is blank number behind)

    by : (o : Option ℕ) → kept_number (take (digits_size text) text) ≡ o → (rest : List ℕ) →
        IsGiven (letter ∷ (blanks ++ (take (digits_size text) text ++ rest))) (bit_with name rest o)
    by None number rest = tt
    by (Some byte) number [] = tt
    by (Some byte) number (point ∷ back) = at byte number point back (point == 46) refl (kept_number back) refl

places_are : (letter : ℕ) (more blanks text : List ℕ) → list_all is_blank blanks ≡ true →
    IsGiven (letter ∷ (more ++ (blanks ++ text))) (place_address (area_by (to_ascii_uppercase letter)) (width_by more) text)
places_are letter more blanks text blank = by (area_by (to_ascii_uppercase letter)) refl
  where
    wide : (name : AreaName) → area_by (to_ascii_uppercase letter) ≡ Some name → (more : List ℕ) (o : Option Width) → width_by more ≡ o →
        IsGiven (letter ∷ (more ++ (blanks ++ text))) (place_address (Some name) o text)
    wide name is more None e = tt
    wide name is [] (Some w) e =
        let same : width.Bit ≡ w = cc in
        subst (λ (x : Width). IsGiven (letter ∷ (blanks ++ text)) (place_address (Some name) (Some x) text)) same (bits_are letter blanks text name is blank)
    wide name is (next ∷ more) (Some w) e = bytes_are letter next more blanks text name w is e blank

    by : (o : Option AreaName) → area_by (to_ascii_uppercase letter) ≡ o → IsGiven (letter ∷ (more ++ (blanks ++ text))) (place_address o (width_by more) text)
    by None is = tt
    by (Some name) is = wide name is more (width_by more) refl

named_are : (letters blanks text : List ℕ) → list_all is_blank blanks ≡ true
    → IsGiven (letters ++ (blanks ++ text)) (named_address (kind_of letters) letters text)
named_are letters blanks text blank = by (kind_of letters) refl letters refl
  where
    other : (its : List ℕ) → IsGiven (its ++ (blanks ++ text)) (address_by its text)
    other [] = tt
    other (letter ∷ more) = places_are letter more blanks text blank

    by : (o : Option BlockKind) → kind_of letters ≡ o → (its : List ℕ) → its ≡ letters → IsGiven (letters ++ (blanks ++ text)) (named_address o letters text)
    by (Some kind) is its same = digits_are letters blanks text kind is blank
    by None is its same = other letters

given_is : (field : List ℕ) → IsGiven field (given field)
given_is field =
    let size = prefix_len is_letter field in
    let rest = drop size field in
    let blanks = take (prefix_len is_blank rest) rest in
    let base : IsGiven (take size field ++ (blanks ++ after_blanks rest)) (given field) =
    named_are (take size field) blanks (after_blanks rest) (prefix_passes is_blank rest) in
    let one : IsGiven (take size field ++ rest) (given field) =
    subst (λ (xs : List ℕ). IsGiven (take size field ++ xs) (given field)) (take-append-drop (prefix_len is_blank rest) rest) base in
    subst (λ (xs : List ℕ). IsGiven xs (given field)) (take-append-drop size field) one

-- Addresses

pub address_is : (field : List ℕ) → IsAddress field (address_of field)
address_is field = by (given field) refl (given_is field)
  where
    by : (o : Option SymbolAddress) → given field ≡ o → IsGiven field o → IsAddress field (or_other o)
    by None e is = form.other field (λ its written. let found : Some its ≡ None = sym (given_read field its written) ∙ e in absurd cc)
    by (Some its) e is = form.as_form field its is

pub address_read : (field : List ℕ) (its : SymbolAddress) → IsAddress field its → address_of field ≡ its
address_read field its (form.as_form its_field its_address is) = ap or_other (given_read its_field its_address is)
address_read field its (form.other its_field none) = by (given its_field) (given_is its_field)
  where
    by : (o : Option SymbolAddress) → IsGiven its_field o → or_other o ≡ address.Other
    by None is = refl
    by (Some its) is = absurd (none its is)
