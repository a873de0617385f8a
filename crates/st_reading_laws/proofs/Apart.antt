-- Tables in which no key stands twice, and what stands under their keys.
use Rattle.st_tree.proofs.Common.{◌≡◌, ℕ, Bool, true, false, cond, List, [], ◌∷◌, ◌++◌, Option, Some, None, refl, sym, ap, subst, ◌∙◌, eqb-true, arith, nat_eq, is_some, nat_list_eq_equiv, Line, is_same, and_parts}
use Rattle.std.specs.Cmp.Lexicographic.{pointwise}
use Rattle.std.proofs.lemmas.List.{append-nil, append_assoc}
use Rattle.st_rules.proofs.Common.{twice, Table, look_up, with_entry, or_else}
use Rattle.st_names.specs.declared.scope.Meaning.{Meaning}

-- Keys

pub same_keys : (a b : List ℕ) → is_same a b ≡ true → a ≡ b
same_keys [] [] h = refl
same_keys (x ∷ xs) (y ∷ ys) h =
    let t = and_parts (nat_eq x y) (pointwise nat_eq xs ys) h in
    ap (λ k. k ∷ xs) (eqb-true x y t.0) ∙ ap (λ l. y ∷ l) (same_keys xs ys t.1)
same_keys a b h = absurd cc

-- What stands under a key

-- what stands under a key in one table after another
pub looked_behind : (k : List ℕ) (xs ys : Table Meaning) → look_up k (xs ++ ys) ≡ or_else (look_up k xs) (look_up k ys)
looked_behind k [] ys = refl
looked_behind k (x ∷ xs) ys = grind (arith, looked_behind k xs ys)

pub none_second : (a b : Option Meaning) → or_else a b ≡ None → b ≡ None
none_second None b h = h
none_second (Some m) b h = absurd cc

-- No key stands twice

abbrev pub AreApart : Table Meaning → Type 0
AreApart [] = Unit {0}
AreApart (e ∷ es) = (look_up e.0 es ≡ None) × AreApart es

missing_between : (j k : List ℕ) (m : Meaning) (xs ys : Table Meaning) → is_same j k ≡ false
    → look_up j (xs ++ ys) ≡ None → look_up j (xs ++ (k, m) ∷ ys) ≡ None
missing_between j k m xs ys e h =
    looked_behind j xs ((k, m) ∷ ys) ∙ ap (λ t. or_else (look_up j xs) (cond t (Some m) (look_up j ys))) e ∙ sym (looked_behind j xs ys) ∙ h

apart_between : (k : List ℕ) (m : Meaning) (xs ys : Table Meaning) → AreApart (xs ++ ys) → look_up k (xs ++ ys) ≡ None → AreApart (xs ++ (k, m) ∷ ys)
apart_between k m [] ys a h = (h, a)
apart_between k m (x ∷ xs) ys a h =
    let differ : is_same k x.0 ≡ false = grind arith in
    (missing_between x.0 k m xs ys (nat_list_eq_equiv.symm x.0 k ∙ differ) a.0, apart_between k m xs ys a.1 (grind arith))

-- a key that stands after some others is none of them
pub is_new : (k : List ℕ) (m : Meaning) (xs ys : Table Meaning) → AreApart (xs ++ (k, m) ∷ ys) → look_up k xs ≡ None
is_new k m [] ys a = refl
is_new k m (x ∷ xs) ys a =
    let here : look_up x.0 ((k, m) ∷ ys) ≡ None =
    none_second (look_up x.0 xs) (look_up x.0 ((k, m) ∷ ys)) (sym (looked_behind x.0 xs ((k, m) ∷ ys)) ∙ a.0) in
    grind (arith, nat_list_eq_equiv.symm x.0 k, is_new k m xs ys a.1)

-- Tables with the same under each key

-- a table has under each key what a list of entries has, in which no key stands twice
pub record Lists (names entries : Table Meaning) : Type 0 where
  pub same : (k : List ℕ) → look_up k names ≡ look_up k entries
  pub apart : AreApart entries

joins : (t : Bool) (m : Meaning) (n x y : Option Meaning) → n ≡ or_else x y
    → (t ≡ true → n ≡ None) → or_else n (cond t (Some m) None) ≡ or_else x (cond t (Some m) y)
joins t m n x y e h = grind arith

-- one name more goes anywhere among the entries
pub one_between : (k : List ℕ) (m : Meaning) (names xs ys : Table Meaning) → Lists names (xs ++ ys)
    → look_up k names ≡ None → Lists (names ++ (k, m) ∷ []) (xs ++ (k, m) ∷ ys)
one_between k m names xs ys l h = record { same = same; apart = apart_between k m xs ys l.apart (sym (l.same k) ∙ h) }
  where
    same : (j : List ℕ) → look_up j (names ++ (k, m) ∷ []) ≡ look_up j (xs ++ (k, m) ∷ ys)
    same j =
        looked_behind j names ((k, m) ∷ [])
        ∙ joins (is_same j k) m (look_up j names) (look_up j xs) (look_up j ys)
        (l.same j ∙ looked_behind j xs ys) (λ e. ap (λ i. look_up i names) (same_keys j k e) ∙ h)
        ∙ sym (looked_behind j xs ((k, m) ∷ ys))

-- Declarations

pub not_twice : (line : Line) (first : Option Meaning) → twice line first ≡ [] → first ≡ None
not_twice line None h = refl
not_twice line (Some m) h = absurd cc

-- a new name goes after the others
goes_last : (k : List ℕ) (m : Meaning) (names : Table Meaning) → look_up k names ≡ None → with_entry k m names ≡ names ++ (k, m) ∷ []
goes_last k m names h = ap (λ (o : Option Meaning). cond (is_some o) names (names ++ (k, m) ∷ [])) h

-- a name that is declared once goes anywhere among the entries
pub declared_between : (line : Line) (k : List ℕ) (m : Meaning) (names xs ys : Table Meaning) → Lists names (xs ++ ys) → twice line (look_up k names) ≡ []
    → Lists (with_entry k m names) (xs ++ (k, m) ∷ ys)
declared_between line k m names xs ys l h =
    let none : look_up k names ≡ None = not_twice line (look_up k names) h in
    subst (λ (table : Table Meaning). Lists table (xs ++ (k, m) ∷ ys)) (sym (goes_last k m names none)) (one_between k m names xs ys l none)

-- and goes last
pub declared_last : (line : Line) (k : List ℕ) (m : Meaning) (names es : Table Meaning) → Lists names es → twice line (look_up k names) ≡ []
    → Lists (with_entry k m names) (es ++ (k, m) ∷ [])
declared_last line k m names es l h = declared_between line k m names es [] (subst (λ (table : Table Meaning). Lists names table) (sym (append-nil es)) l) h

-- where no key stands twice, the first of more declarations breaks no rule and goes after the others
pub record IsNew (line : Line) (k : List ℕ) (m : Meaning) (names more : Table Meaning) : Type 0 where
  pub once : twice line (look_up k names) ≡ []
  pub apart : AreApart (with_entry k m names ++ more)
  pub order : with_entry k m names ++ more ≡ names ++ (k, m) ∷ more

pub declares_new : (line : Line) (k : List ℕ) (m : Meaning) (names more : Table Meaning) → AreApart (names ++ (k, m) ∷ more) → IsNew line k m names more
declares_new line k m names more a =
    let none : look_up k names ≡ None = is_new k m names more a in
    let last : with_entry k m names ≡ names ++ (k, m) ∷ [] = goes_last k m names none in
    let order : with_entry k m names ++ more ≡ names ++ (k, m) ∷ more =
    ap (λ (table : Table Meaning). table ++ more) last ∙ append_assoc names ((k, m) ∷ []) more in
    record { once = ap (twice line) none; apart = subst AreApart (sym order) a; order = order }
