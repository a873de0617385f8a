-- The names of formals: a text may have them, no two are the same, and none is that of a unit.
use Rattle.std.proofs.Common.{◌≡◌, ℕ, zero, suc, ◌+◌, ◌-◌, ◌^◌, ◌<◌, ◌≤◌, Bool, true, false, not, ◌&&◌, ◌||◌, if◌then◌else◌, List, [], ◌∷◌, ◌++◌, map, take, drop, length, refl, sym, ap, ◌∙◌, subst, arith}
use Rattle.std.specs.Prelude.{All, Some, codes, decimal, slice_get}
use Rattle.std.specs.Char.{to_ascii_lowercase, to_ascii_uppercase}
use Rattle.std.specs.List.{list_all}
use Rattle.std.specs.Str.{bytes_eq, str_to_ascii_lowercase}
use Rattle.std.proofs.lemmas.Bool.Decides.{nat_tests}
use Rattle.std.proofs.lemmas.List.{append_assoc, drop-map, length-append, length-map, map-append, take-map}
use Rattle.std.proofs.lemmas.List.Elements.{All-cons, All-head, All-nil, All-tail}
use Rattle.std.proofs.lemmas.List.Folds.{list_all-append}
use Rattle.std.proofs.lemmas.Str.Ascii.{lowercase-uppercase}
use Rattle.digit_texts.specs.Digits.{are_digits, is_digit}
use Rattle.memory_areas.specs.declared.call.BlockName.{BlockName}
use Rattle.memory_areas.specs.declared.call.BlockName.TheVariants as name
use Rattle.s7_base.specs.Tokens.{is_between, is_word_byte}
use Rattle.s7_base.specs.declared.word.Width.{Width}
use Rattle.s7_base.specs.declared.word.Width.TheVariants as width
use Rattle.st_tree.proofs.Common.{and_parts}
use Rattle.st_tree.specs.Naming.{are_apart, is_free, is_name, is_new, is_next, is_numbered, is_register, is_same, is_unit_number, is_unreserved, key_of, names_block, without_zeros}
use Rattle.st_tree.specs.Proper.{IsFormal}
use Rattle.st_tree.specs.StRun.{called_name, is_program}
use Rattle.st_tree.specs.Values.{type_of_width}
use Rattle.st_tree.specs.WellTyped.{keys_of, type_inside}
use Rattle.st_tree.specs.declared.expr.StType.TheVariants as type
use Rattle.st_tree.specs.declared.program.Local.{Local}
use Rattle.stl_tree.specs.Accepted.{Widths, widths_named}
use Rattle.stl_tree.specs.declared.program.Formal.{Formal}
use Rattle.instruction_lowering.proofs.Names.{IsNumbered, decimal_stays}
use Rattle.instruction_lowering.proofs.NewNames.{apart_more, not_same, none_over, one_fewer, over, over_few, same_as_itself}
use Rattle.instruction_lowering.proofs.ProperNames.{Digits, decimal_digits, upper_digit}
use Rattle.instruction_lowering.proofs.TemporaryNames.{IsNoTemporary, digit_at, of_ten}
use Rattle.instruction_lowering.specs.UnitNames.{formals_from, may_keep, name_of_formal, unit_formals, until_new}

-- P and a number

-- P, a digit, and letters, digits and `_` behind it
record IsOwn (text : List ℕ) : Type 0 where
  digit : ℕ
  more : List ℕ
  is : text ≡ 80 ∷ (48 + digit) ∷ more
  small : digit < 10
  bytes : list_all is_word_byte more ≡ true

unreserved_digit : (more : List ℕ) (k : ℕ) → k < 10 → is_unreserved (80 ∷ (48 + k) ∷ more) ≡ true
unreserved_digit more = of_ten (λ d. is_unreserved (80 ∷ d ∷ more) ≡ true) refl refl refl refl refl refl refl refl refl refl

digit_byte : (k : ℕ) → k < 10 → is_word_byte (48 + k) ≡ true
digit_byte = of_ten (λ d. is_word_byte d ≡ true) refl refl refl refl refl refl refl refl refl refl

own_name : (text : List ℕ) → IsOwn text → is_name text ≡ true
own_name text h =
    ap is_name h.is ∙ (rw (digit_byte h.digit h.small, h.bytes, unreserved_digit h.more h.digit h.small) refl)

own_free : (text : List ℕ) → IsOwn text → is_free text ≡ true
own_free text h = ap is_free h.is

-- its key is as long
own_long : (text : List ℕ) → IsOwn text → length (key_of text) ≡ length text
unfolding key_of
own_long text h = ap (λ (t : List ℕ). length (key_of t)) h.is ∙ by ∙ ap length (sym h.is)
  where
    by : length (key_of (80 ∷ (48 + h.digit) ∷ h.more)) ≡ length (80 ∷ (48 + h.digit) ∷ h.more)
    by = ap (λ (n : ℕ). suc (suc n)) (length-map h.more to_ascii_uppercase)

own_longer : (text : List ℕ) → IsOwn text → IsOwn (text ++ codes "_")
own_longer text h =
    record {
      digit = h.digit;
      more = h.more ++ codes "_";
      is = ap (λ (t : List ℕ). t ++ codes "_") h.is;
      small = h.small;
      bytes = list_all-append is_word_byte h.more (codes "_") ∙ (rw h.bytes refl);
    }

numbered_own : (ds : List ℕ) → Digits ds → IsOwn (codes "P" ++ ds)
numbered_own [] h = let some : 0 < 0 = h.some in absurd (omega arith)
numbered_own (d ∷ more) h =
    let digits = and_parts (is_between 48 57 d) (list_all (λ b. is_between 48 57 b) more) h.digits in
    let bytes = and_parts (is_word_byte d) (list_all is_word_byte more) h.bytes in
    let at = digit_at d digits.0 in
    let low : 48 ≤ d = at.0 in
    let high : d ≤ 57 = at.1 in
    let e : d ≡ 48 + (d - 48) = omega arith in
    record { digit = d - 48; more = more; is = ap (λ (c : ℕ). 80 ∷ c ∷ more) e; small = omega arith; bytes = bytes.1 }

-- A name of a formal

-- a formal may have a name after others with these keys
record IsGood (earlier : List (List ℕ)) (text : List ℕ) : Type 0 where
  name : is_name text ≡ true
  free : is_free text ≡ true
  new : is_new (key_of text) earlier ≡ true

-- no more names are tried than there are keys as long
tried_good : (most : ℕ) (earlier : List (List ℕ)) (text : List ℕ) → IsOwn text → over length (length text) earlier ≤ most
    → IsGood earlier (until_new most earlier text)
tried_good zero earlier text own few =
    let long : length (key_of text) ≡ length text = own_long text own in
    let none : over length (length (key_of text)) earlier ≡ 0 =
    ap (λ (n : ℕ). over length n earlier) long ∙ omega arith in
    record { name = own_name text own; free = own_free text own; new = none_over length (key_of text) earlier none }
tried_good (suc most) earlier text own few = by (is_new (key_of text) earlier) refl
    (λ fits. tried_good most earlier (text ++ codes "_") (own_longer text own) fits)
  where
    by : (b : Bool) → is_new (key_of text) earlier ≡ b
        → (over length (length (text ++ codes "_")) earlier ≤ most → IsGood earlier (until_new most earlier (text ++ codes "_")))
        → IsGood earlier (if b then text else until_new most earlier (text ++ codes "_"))
    by true e others = record { name = own_name text own; free = own_free text own; new = e }
    by false e others =
        let long : length (key_of text) ≡ length text = own_long text own in
        let less : over length (suc (length (key_of text))) earlier < over length (length (key_of text)) earlier = one_fewer length (key_of text) earlier e in
        let fewer : over length (suc (length text)) earlier < over length (length text) earlier =
        subst (λ (n : ℕ). over length (suc n) earlier < over length n earlier) long less in
        let longer : suc (length text) ≡ length (text ++ codes "_") = omega (arith, length-append text (codes "_")) in
        others (subst (λ (n : ℕ). over length n earlier ≤ most) longer (omega arith))

named_good : (earlier : List (List ℕ)) (k : ℕ) (text : List ℕ) → k + 1 < 2 ^ 64 → IsGood earlier (name_of_formal earlier k text)
named_good earlier k text small = by (may_keep earlier text) refl
  where
    by : (b : Bool) → may_keep earlier text ≡ b
        → IsGood earlier (if b then text else until_new (length earlier) earlier (codes "P" ++ decimal (k + 1)))
    by true e =
        let first = and_parts (is_name text && is_free text) (is_new (key_of text) earlier) e in
        let second = and_parts (is_name text) (is_free text) first.0 in
        record { name = second.0; free = second.1; new = first.1 }
    by false e =
        tried_good (length earlier) earlier (codes "P" ++ decimal (k + 1)) (numbered_own (decimal (k + 1)) (decimal_digits (k + 1) small))
        (over_few length (length (codes "P" ++ decimal (k + 1))) earlier)

-- All of them

no_lint : (w : Width) → type_of_width w ≡ type.Lint → ⊥
no_lint width.Bit e = cc
no_lint width.Byte e = cc
no_lint width.Word e = cc
no_lint width.Dword e = cc

pub good_formals : (earlier : List (List ℕ)) (k : ℕ) (formals : List Formal) → k + length formals < 2 ^ 32 → All IsFormal (formals_from earlier k formals)
good_formals earlier k [] small = All-nil IsFormal
good_formals earlier k (f ∷ formals) small =
    let text : List ℕ = name_of_formal earlier k f.name in
    let good = named_good earlier k f.name (omega arith) in
    let one : IsFormal (record { name = text; ty = type_of_width f.width }) =
    record { name = good.name; free = good.free; type = λ e. no_lint f.width e } in
    All-cons IsFormal (record { name = text; ty = type_of_width f.width }) (formals_from (earlier ++ key_of text ∷ []) (k + 1) formals) one
    (good_formals (earlier ++ key_of text ∷ []) (k + 1) formals (omega arith))

pub formals_apart : (earlier : List (List ℕ)) (k : ℕ) (formals : List Formal) → k + length formals < 2 ^ 32 → are_apart earlier ≡ true
    → are_apart (earlier ++ keys_of (formals_from earlier k formals)) ≡ true
formals_apart earlier k [] small apart = ap are_apart (append_none earlier) ∙ apart
  where
    append_none : (keys : List (List ℕ)) → keys ++ [] ≡ keys
    append_none [] = refl
    append_none (key ∷ keys) = ap (λ (others : List (List ℕ)). key ∷ others) (append_none keys)
formals_apart earlier k (f ∷ formals) small apart =
    let text : List ℕ = name_of_formal earlier k f.name in
    let good = named_good earlier k f.name (omega arith) in
    ap are_apart (sym (append_assoc earlier (key_of text ∷ []) (keys_of (formals_from (earlier ++ key_of text ∷ []) (k + 1) formals))))
    ∙ formals_apart (earlier ++ key_of text ∷ []) (k + 1) formals (omega arith) (apart_more earlier (key_of text) apart good.new)

pub as_many_formals : (earlier : List (List ℕ)) (k : ℕ) (formals : List Formal) → length (formals_from earlier k formals) ≡ length formals
as_many_formals earlier k [] = refl
as_many_formals earlier k (f ∷ formals) =
    ap suc (as_many_formals (earlier ++ key_of (name_of_formal earlier k f.name) ∷ []) (k + 1) formals)

-- each has the type of its width
pub types_of_formals : (earlier : List (List ℕ)) (k : ℕ) (formals : List Formal)
    → map (λ (formal : Local). formal.ty) (formals_from earlier k formals) ≡ map type_of_width (map (λ (f : Formal). f.width) formals)
types_of_formals earlier k [] = refl
types_of_formals earlier k (f ∷ formals) =
    ap (λ ts. type_of_width f.width ∷ ts) (types_of_formals (earlier ++ key_of (name_of_formal earlier k f.name) ∷ []) (k + 1) formals)

-- Units

lower_upper : (text : List ℕ) → str_to_ascii_lowercase (map to_ascii_uppercase text) ≡ str_to_ascii_lowercase text
lower_upper [] = refl
lower_upper (c ∷ text) = rw (lowercase-uppercase c, lower_upper text) refl

not_unit_number : (text : List ℕ) → is_free text ≡ true → is_unit_number text ≡ false
not_unit_number text h = by (is_register text) (is_next text) (names_block text) (is_unit_number text) h
  where
    by : (a b c d : Bool) → (not a && not b && not c && not d) ≡ true → d ≡ false
    by a b c false q = refl
    by true b c true q = cc
    by false true c true q = cc
    by false false true true q = cc
    by false false false true q = cc

digit_under : (c : ℕ) → is_digit (to_ascii_uppercase c) ≡ true → is_digit c ≡ true
digit_under c h = grind (arith, nat_tests)

digits_under : (text : List ℕ) → list_all is_digit (map to_ascii_uppercase text) ≡ true → list_all is_digit text ≡ true
digits_under [] h = refl
digits_under (c ∷ text) h =
    let parts = and_parts (is_digit (to_ascii_uppercase c)) (list_all is_digit (map to_ascii_uppercase text)) h in
    rw (digit_under c parts.0, digits_under text parts.1) refl

some_under : (text : List ℕ) → 0 < length text → list_all is_digit text ≡ true → are_digits text ≡ true
some_under [] some h = absurd (omega arith)
some_under (c ∷ text) some h = h

-- a name whose capitals are two letters and digits is these letters with a number
numbered_under : (x y : ℕ) (text ds : List ℕ) → Digits ds → map to_ascii_uppercase text ≡ x ∷ y ∷ ds → is_numbered (x ∷ y ∷ []) text ≡ true
numbered_under x y text ds h e = rw (letters, digits) refl
  where
    lower : str_to_ascii_lowercase (take 2 text) ≡ str_to_ascii_lowercase (x ∷ y ∷ [])
    lower =
        sym (take-map to_ascii_lowercase 2 text) ∙ ap (take 2) (sym (lower_upper text))
        ∙ ap (λ (t : List ℕ). take 2 (str_to_ascii_lowercase t)) e

    letters : bytes_eq (str_to_ascii_lowercase (take 2 text)) (str_to_ascii_lowercase (x ∷ y ∷ [])) ≡ true
    letters =
        ap (λ (t : List ℕ). bytes_eq t (str_to_ascii_lowercase (x ∷ y ∷ []))) lower
        ∙ same_as_itself (str_to_ascii_lowercase (x ∷ y ∷ []))

    behind : map to_ascii_uppercase (drop 2 text) ≡ ds
    behind = sym (drop-map to_ascii_uppercase 2 text) ∙ ap (drop 2) e

    some : 0 < length (drop 2 text)
    some =
        let long : length (map to_ascii_uppercase (drop 2 text)) ≡ length ds = ap length behind in
        omega (arith, length-map (drop 2 text) to_ascii_uppercase, h.some)

    digits : are_digits (drop 2 text) ≡ true
    digits = some_under (drop 2 text) some (digits_under (drop 2 text) (ap (list_all is_digit) behind ∙ h.digits))

-- numbers are their own capitals
capitals_of_number : (n : ℕ) → n < 2 ^ 64 → map to_ascii_uppercase (decimal n) ≡ decimal n
capitals_of_number = decimal_stays to_ascii_uppercase upper_digit

third_of : (a b c : Bool) → c ≡ true → (a || b || c) ≡ true
third_of true b c e = refl
third_of false true c e = refl
third_of false false c e = e

second_of : (a b c : Bool) → b ≡ true → (a || b || c) ≡ true
second_of true b c e = refl
second_of false b c e = rw e refl

-- no formal has the name of a function or of a function block
apart_from_unit : (b : BlockName) → IsNumbered b → is_program b ≡ false → (text : List ℕ) → is_free text ≡ true
    → is_same (key_of (called_name b)) (key_of text) ≡ false
unfolding key_of
apart_from_unit (name.Ob n) h f text free = cc
apart_from_unit (name.Fc n) h f text free = by (names_block (map to_ascii_uppercase text))
  where
    apart : is_same (70 ∷ 67 ∷ map to_ascii_uppercase (decimal n)) (map to_ascii_uppercase text) ≡ false
    apart =
        not_same (70 ∷ 67 ∷ map to_ascii_uppercase (decimal n)) (map to_ascii_uppercase text)
        (λ e. absurd (clash (sym (second_of (is_numbered (codes "OB") text) (is_numbered (codes "FC") text) (is_numbered (codes "FB") text)
        (numbered_under 70 67 text (decimal n) (decimal_digits n (omega arith))
        (sym e ∙ ap (λ (ds : List ℕ). 70 ∷ 67 ∷ ds) (capitals_of_number n (omega arith))))) ∙ not_unit_number text free)))
      where
        clash : true ≡ false → ⊥
        clash e = cc

    by : (b : Bool) → is_same (70 ∷ 67 ∷ map to_ascii_uppercase (decimal n))
        (if b then 68 ∷ 66 ∷ without_zeros (drop 2 (map to_ascii_uppercase text)) else map to_ascii_uppercase text) ≡ false
    by true = refl
    by false = apart
apart_from_unit (name.Fb n) h f text free = by (names_block (map to_ascii_uppercase text))
  where
    apart : is_same (70 ∷ 66 ∷ map to_ascii_uppercase (decimal n)) (map to_ascii_uppercase text) ≡ false
    apart =
        not_same (70 ∷ 66 ∷ map to_ascii_uppercase (decimal n)) (map to_ascii_uppercase text)
        (λ e. absurd (clash (sym (third_of (is_numbered (codes "OB") text) (is_numbered (codes "FC") text) (is_numbered (codes "FB") text)
        (numbered_under 70 66 text (decimal n) (decimal_digits n (omega arith))
        (sym e ∙ ap (λ (ds : List ℕ). 70 ∷ 66 ∷ ds) (capitals_of_number n (omega arith))))) ∙ not_unit_number text free)))
      where
        clash : true ≡ false → ⊥
        clash e = cc

    by : (b : Bool) → is_same (70 ∷ 66 ∷ map to_ascii_uppercase (decimal n))
        (if b then 68 ∷ 66 ∷ without_zeros (drop 2 (map to_ascii_uppercase text)) else map to_ascii_uppercase text) ≡ false
    by true = refl
    by false = apart

pub new_unit : (b : BlockName) → IsNumbered b → is_program b ≡ false → (formals : List Local) → All IsFormal formals
    → is_new (key_of (called_name b)) (keys_of formals) ≡ true
new_unit b h f [] all = refl
new_unit b h f (x ∷ formals) all =
    rw (apart_from_unit b h f x.name (All-head IsFormal x formals all).free, new_unit b h f formals (All-tail IsFormal x formals all)) refl

-- and no temporary
pub no_temporary : (b : BlockName) → is_program b ≡ false → IsNoTemporary (key_of (called_name b))
unfolding key_of
no_temporary (name.Ob n) f m = cc
no_temporary (name.Fc n) f m = refl
no_temporary (name.Fb n) f m = refl

-- The formals of a unit

module _ (fs : List Formal) (few : length fs ≤ 64) where
  pub unit_formals_good : (b : BlockName) → All IsFormal (unit_formals b fs)
  unit_formals_good (name.Ob n) = All-nil IsFormal
  unit_formals_good (name.Fc n) = good_formals [] 0 fs (omega arith)
  unit_formals_good (name.Fb n) = All-nil IsFormal

  pub unit_formals_apart : (b : BlockName) → are_apart (keys_of (unit_formals b fs)) ≡ true
  unit_formals_apart (name.Ob n) = refl
  unit_formals_apart (name.Fc n) = formals_apart [] 0 fs (omega arith) refl
  unit_formals_apart (name.Fb n) = refl

  pub unit_formals_few : (b : BlockName) → length (keys_of (unit_formals b fs)) ≤ 64
  unit_formals_few (name.Ob n) = omega arith
  unit_formals_few (name.Fc n) = omega (arith, length-map (formals_from [] 0 fs) (λ (l : Local). key_of l.name), as_many_formals [] 0 fs, few)
  unit_formals_few (name.Fb n) = omega arith

pub no_program_formals : (b : BlockName) (fs : List Formal) → is_program b ≡ true → unit_formals b fs ≡ []
no_program_formals (name.Ob n) fs e = refl
no_program_formals (name.Fc n) fs e = cc
no_program_formals (name.Fb n) fs e = refl

-- they have the types of the widths that the block names
pub unit_formal_types : (b : BlockName) (fs : List Formal)
    → map (λ (formal : Local). formal.ty) (unit_formals b fs) ≡ map type_of_width (widths_named b fs)
unit_formal_types (name.Ob n) fs = refl
unit_formal_types (name.Fc n) fs = types_of_formals [] 0 fs
unit_formal_types (name.Fb n) fs = refl

-- the type of one of them
typed_at : (formals : List Local) (widths : Widths) (k : ℕ) (w : Width) → map (λ (formal : Local). formal.ty) formals ≡ map type_of_width widths
    → slice_get widths k ≡ Some w → type_inside (slice_get formals k) ≡ Some (type_of_width w)
typed_at [] [] k w same e = cc
typed_at [] (v ∷ widths) k w same e = cc
typed_at (f ∷ formals) [] k w same e = cc
typed_at (f ∷ formals) (v ∷ widths) zero w same e = cc
typed_at (f ∷ formals) (v ∷ widths) (suc k) w same e = typed_at formals widths k w (behind same) e
  where
    behind : f.ty ∷ map (λ (formal : Local). formal.ty) formals ≡ type_of_width v ∷ map type_of_width widths
        → map (λ (formal : Local). formal.ty) formals ≡ map type_of_width widths
    behind e = cc

pub unit_formal_typed : (b : BlockName) (fs : List Formal) (k : ℕ) (w : Width) → slice_get (widths_named b fs) k ≡ Some w
    → type_inside (slice_get (unit_formals b fs) k) ≡ Some (type_of_width w)
unit_formal_typed b fs k w e = typed_at (unit_formals b fs) (widths_named b fs) k w (unit_formal_types b fs) e

-- one more formal is named
pub one_more_formal : (named : List Local) (f : Formal) (rest : List Formal) (x : Local)
    → x ≡ record { name = name_of_formal (keys_of named) (length named) f.name; ty = type_of_width f.width }
    → (named ++ x ∷ []) ++ formals_from (keys_of (named ++ x ∷ [])) (length (named ++ x ∷ [])) rest
    ≡ named ++ formals_from (keys_of named) (length named) (f ∷ rest)
one_more_formal named f rest x e =
    append_assoc named (x ∷ []) (formals_from (keys_of (named ++ x ∷ [])) (length (named ++ x ∷ [])) rest)
    ∙ ap (λ (keys : List (List ℕ)). named ++ x ∷ formals_from keys (length (named ++ x ∷ [])) rest)
    (map-append (λ (l : Local). key_of l.name) named (x ∷ []))
    ∙ ap (λ (n : ℕ). named ++ x ∷ formals_from (keys_of named ++ key_of x.name ∷ []) n rest) (length-append named (x ∷ []))
    ∙ ap (λ (l : Local). named ++ l ∷ formals_from (keys_of named ++ key_of l.name ∷ []) (length named + 1) rest) e
