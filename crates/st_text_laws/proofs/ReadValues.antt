-- A literal that tokens can have has a value of its type.
use Rattle.st_tree.proofs.Common.{◌≡◌, ℕ, suc, ◌<◌, ◌≤◌, ◌+◌, ◌-◌, ◌%◌, ◌^◌, ℤ, pos, negsuc, Bool, true, false, ◌&&◌, cond, refl, ap, ◌∙◌, arith, List, [], ◌∷◌, ◌++◌, Some, sym, subst, mod-eq_of_lt, nat_le, nat_lt, int_eq, leb-true, and_parts, list_all-append, nat_tests, fit, is_value, list_all, Line, rule_break, is_type}
use Rattle.std.proofs.lemmas.Cmp.{int_eq_equiv}
use Rattle.st_text_laws.proofs.Common.{is_literal, Literal}
use Rattle.st_grammar.proofs.Common.{label_tree, literal_tree, tree_labels, LabelsFit, spell_labels, Labels, label, more_labels}
use Rattle.st_grammar.specs.declared.kind.Literal.TheVariants as lit
use Rattle.st_lexer.proofs.Common.{greatest, is_signed, has_value, is_byte, StType}
use Rattle.st_tree.specs.declared.expr.StType.TheVariants as type
use Rattle.st_tree.specs.declared.raw.RawExpr.TheVariants as raw
use Rattle.st_text_laws.proofs.Worded.{Worded, labels_behind, literal_is}
use Rattle.s7_base.specs.declared.reason.Reason.TheVariants.{TypeMismatch}
use Rattle.st_reading_laws.proofs.Lists.{map_last}
use Rattle.st_reading_laws.proofs.Labels.{of_type, same_type}
use Rattle.st_rules.specs.Statements.{have_type, label_breaks}

-- a number from 0 on is not below it
never : (n : ℕ) → nat_lt n 0 ≡ false
never n = grind (arith, nat_tests)

-- What a type keeps

-- a number that a type without a sign has, and one from 0 on that a type with a sign has
unsigned_fits : (n most whole : ℕ) → nat_le n most ≡ true → most < whole → pos (n % whole) ≡ pos n
unsigned_fits n most whole h less =
    let b = leb-true n most h in let low : n < whole = omega (arith, b, less) in ap pos (mod-eq_of_lt low)

signed_fits : (n most half whole : ℕ) → nat_le n most ≡ true → most < half → half ≤ whole
    → cond (nat_lt (n % whole) half) (pos (n % whole)) (negsuc (whole - 1 - n % whole)) ≡ pos n
signed_fits n most half whole h less low =
    let b = leb-true n most h in
    let small : n < whole = omega (arith, b, less, low) in
    let in_half : n < half = omega (arith, b, less) in
    let below : nat_lt n half ≡ true = grind (arith, nat_tests) in
    rw (mod-eq_of_lt small, below) refl

plain_fits : (ty : StType) (n : ℕ) → nat_le n (greatest ty false) ≡ true → fit ty (pos n) ≡ pos n
plain_fits type.Bool n h = unsigned_fits n 1 (2 ^ 1) h (omega arith)
plain_fits type.Byte n h = unsigned_fits n 255 (2 ^ 8) h (omega arith)
plain_fits type.Word n h = unsigned_fits n 65535 (2 ^ 16) h (omega arith)
plain_fits type.Dword n h = unsigned_fits n 4294967295 (2 ^ 32) h (omega arith)
plain_fits type.Int n h = signed_fits n 32767 (2 ^ (16 - 1)) (2 ^ 16) h (omega arith) (omega arith)
plain_fits type.Dint n h = signed_fits n 2147483647 (2 ^ (32 - 1)) (2 ^ 32) h (omega arith) (omega arith)
plain_fits type.Lint n h = signed_fits n 9223372036854775807 (2 ^ (64 - 1)) (2 ^ 64) h (omega arith) (omega arith)

negative_fits : (n most half whole : ℕ) → nat_le (suc n) most ≡ true → most ≤ half → whole ≡ half + half
    → cond (nat_lt (whole - 1 - n % whole) half) (pos (whole - 1 - n % whole)) (negsuc (whole - 1 - (whole - 1 - n % whole)))
    ≡ negsuc n
negative_fits n most half whole h less twice =
    let b = leb-true (suc n) most h in
    let small : n < whole = omega (arith, b, less, twice) in
    let above : nat_lt (whole - 1 - n) half ≡ false = by (whole - 1 - n) (omega (arith, b, less, twice)) in
    let back : whole - 1 - (whole - 1 - n) ≡ n = omega (arith, b, less, twice) in
    rw (mod-eq_of_lt small, above, back) refl
  where
    by : (m : ℕ) → half ≤ m → nat_lt m half ≡ false
    by m h = grind (arith, nat_tests)

below_fits : (ty : StType) (n : ℕ) → (is_signed ty && nat_le (suc n) (greatest ty true)) ≡ true
    → fit ty (negsuc n) ≡ negsuc n
below_fits type.Int n h = negative_fits n 32768 (2 ^ (16 - 1)) (2 ^ 16) h (omega arith) (omega arith)
below_fits type.Dint n h = negative_fits n 2147483648 (2 ^ (32 - 1)) (2 ^ 32) h (omega arith) (omega arith)
below_fits type.Lint n h = negative_fits n 9223372036854775808 (2 ^ (64 - 1)) (2 ^ 64) h (omega arith) (omega arith)
below_fits ty n h = absurd cc

fits : (ty : StType) (n : ℤ) → has_value ty n ≡ true → fit ty n ≡ n
fits ty (pos n) h = plain_fits ty n (rw (never n) at h)
fits ty (negsuc n) h = below_fits ty n h

-- a value that tokens can have is one of its type
pub value_is : (ty : StType) (n : ℤ) → has_value ty n ≡ true → is_value ty n ≡ true
value_is ty n h = ap (λ m. int_eq m n) (fits ty n h) ∙ int_eq_equiv.refl n

-- Literals that were read

byte_value : (b : ℕ) → is_byte b ≡ true → nat_le b (greatest type.Dword false) ≡ true
byte_value b h = let small : b ≤ 255 = grind (arith, nat_tests) in by (greatest type.Dword false) (omega arith)
  where
    by : (n : ℕ) → b ≤ n → nat_le b n ≡ true
    by n h = grind (arith, nat_tests)

has_label_value : (c : Literal) → is_literal c ≡ true → has_value (label_tree c).0 (label_tree c).1 ≡ true
has_label_value (lit.Decimal n) h = rw (never n) h
has_label_value (lit.Byte b) h = rw (never b) (byte_value b h)
has_label_value (lit.Typed ty n) h = h

-- a literal that was read has a value of its type
pub label_value : (c : Literal) → is_literal c ≡ true → is_value (label_tree c).0 (label_tree c).1 ≡ true
label_value c h = value_is (label_tree c).0 (label_tree c).1 (has_label_value c h)

pub tree_of_label : (c : Literal) → literal_tree c ≡ raw.Literal (label_tree c).0 (label_tree c).1
tree_of_label (lit.Decimal n) = refl
tree_of_label other = refl

-- The labels of an arm of a CASE: where they have the type of the selector, it has their values

pub labels_typed : (l : Line) (ty : StType) (labels : List (StType × ℤ)) → label_breaks l (Some ty) labels ≡ []
    → have_type ty labels ≡ true
labels_typed l ty labels h = by (have_type ty labels) h
  where
    by : (b : Bool) → cond b [] (rule_break l TypeMismatch) ≡ [] → b ≡ true
    by true q = refl
    by false q = absurd cc

last_typed : (ty : StType) (xs : List (StType × ℤ)) (x : StType × ℤ) → have_type ty (xs ++ x ∷ []) ≡ true
    → (have_type ty xs ≡ true) × (is_type x.0 ty ≡ true)
last_typed ty xs x h =
    let both = and_parts (have_type ty xs) (have_type ty (x ∷ [])) (sym (list_all-append (λ l. is_type l.0 ty) xs (x ∷ [])) ∙ h) in
    (both.0, (and_parts (is_type x.0 ty) true both.1).0)

last_value : (ty : StType) (ns : List ℤ) (n : ℤ) → list_all (is_value ty) ns ≡ true → is_value ty n ≡ true
    → list_all (is_value ty) (ns ++ n ∷ []) ≡ true
last_value ty ns n h g = list_all-append (is_value ty) ns (n ∷ []) ∙ rw (h, g) refl

-- what the labels of an arm are
pub record FoundLabels (ty : StType) (labels : Labels) : Type 0 where
  pub first : ℤ
  pub others : List ℤ
  pub found : tree_labels labels ≡ of_type ty (first ∷ others)
  pub typed : list_all (is_value ty) (first ∷ others) ≡ true

one_label : (c : Literal) (ty : StType) → is_literal c ≡ true → is_type (label_tree c).0 ty ≡ true
    → (label_tree c ≡ (ty, (label_tree c).1)) × (is_value ty (label_tree c).1 ≡ true)
one_label c ty h t =
    let n = (label_tree c).1 in
    let e : (label_tree c).0 ≡ ty = same_type (label_tree c).0 ty t in
    (ap (λ z. (z, n)) e, subst (λ z. is_value z n ≡ true) e (label_value c h))

pub found_labels : (ty : StType) (labels : Labels) → Worded (spell_labels labels) → LabelsFit labels → have_type ty (tree_labels labels) ≡ true
    → FoundLabels ty labels
found_labels ty (label c) s b h =
    let g = one_label c ty (literal_is c b s.1.0) (and_parts (is_type (label_tree c).0 ty) true h).0 in
    record {
      first = (label_tree c).1;
      others = [];
      found = ap (λ z. z ∷ []) g.0;
      typed = ap (λ b. b && true) g.1;
    }
found_labels ty (more_labels others c) s b h =
    let t = last_typed ty (tree_labels others) (label_tree c) h in
    let f = found_labels ty others (_, s.1) b.0 t.0 in
    let g = one_label c ty (literal_is c b.1 (labels_behind others _ s.1).1.0) t.1 in
    let n : ℤ = (label_tree c).1 in
    record {
      first = f.first;
      others = f.others ++ n ∷ [];
      found = ap (λ z. tree_labels others ++ z ∷ []) g.0 ∙ ap (λ z. z ++ (ty, n) ∷ []) f.found
          ∙ sym (map_last (λ (n : ℤ). (ty, n)) (f.first ∷ f.others) n);
      typed = last_value ty (f.first ∷ f.others) n f.typed g.1;
    }
