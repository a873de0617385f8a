-- Tables by keys: what stands under a key after other entries, and formals with keys of their own.
use Rattle.st_tree.proofs.Common.{◌≡◌, ℕ, ◌+◌, false, cond, List, [], ◌∷◌, ◌++◌, Some, None, refl, ap, ◌∙◌, arith, nat_list_eq_equiv, is_same, key_of}
use Rattle.st_rules.proofs.Common.{Local, Table, look_up}
use Rattle.st_names.specs.declared.scope.Meaning.{Meaning}
use Rattle.st_reading_laws.proofs.Apart.{AreApart}
use Rattle.st_reading_laws.proofs.DeclaredNames.{formal_entries}

-- what stands under a key after entries that do not have it
pub found_behind : {T : Type 0} (table : Table T) (k : List ℕ) (x : T) (rest : Table T) → look_up k table ≡ None → look_up k (table ++ (k, x) ∷ rest) ≡ Some x
found_behind {T} [] k x rest h = ap (λ t. cond t (Some x) (look_up k rest)) (nat_list_eq_equiv.refl k)
found_behind {T} (e ∷ table) k x rest h = grind (arith, found_behind table k x rest)

-- a key that is not there is not there after one more entry with another key
pub absent_last : {T : Type 0} (table : Table T) (k j : List ℕ) (x : T) → look_up k table ≡ None → is_same k j ≡ false → look_up k (table ++ (j, x) ∷ []) ≡ None
absent_last {T} [] k j x h e = ap (λ t. cond t (Some x) None) e
absent_last {T} (first ∷ table) k j x h e = grind (arith, absent_last table k j x)

-- Formals

-- none of them has this key
abbrev pub IsOther : List ℕ → List Local → Type 0
IsOther key [] = Unit {0}
IsOther key (l ∷ ls) = (is_same key (key_of l.name) ≡ false) × IsOther key ls

-- each has a key of its own
abbrev pub AreDistinct : List Local → Type 0
AreDistinct [] = Unit {0}
AreDistinct (l ∷ ls) = IsOther (key_of l.name) ls × AreDistinct ls

-- none of their keys stands in a table
abbrev pub AreAbsent : {T : Type 0} → Table T → List Local → Type 0
AreAbsent table [] = Unit {0}
AreAbsent table (l ∷ ls) = (look_up (key_of l.name) table ≡ None) × AreAbsent table ls

pub absent_also : {T : Type 0} (table : Table T) (k : List ℕ) (x : T) (ls : List Local)
    → AreAbsent table ls → IsOther k ls → AreAbsent (table ++ (k, x) ∷ []) ls
absent_also table k x [] h o = tt
absent_also table k x (l ∷ ls) h o =
    (absent_last table (key_of l.name) k x h.0 (nat_list_eq_equiv.symm (key_of l.name) k ∙ o.0), absent_also table k x ls h.1 o.1)

pub none_absent : (T : Type 0) (ls : List Local) → AreAbsent {T = T} [] ls
none_absent T [] = tt
none_absent T (l ∷ ls) = (refl, none_absent T ls)

-- a key that does not stand in a table is that of no formal in it
others_of : (k : List ℕ) (i : ℕ) (ls : List Local) (more : Table Meaning) → look_up k (formal_entries i ls ++ more) ≡ None → IsOther k ls
others_of k i [] more h = tt
others_of k i (l ∷ ls) more h = (grind arith, others_of k (i + 1) ls more (grind arith))

pub distinct_of : (i : ℕ) (ls : List Local) (more : Table Meaning) → AreApart (formal_entries i ls ++ more) → AreDistinct ls
distinct_of i [] more a = tt
distinct_of i (l ∷ ls) more a = (others_of (key_of l.name) (i + 1) ls more a.0, distinct_of (i + 1) ls more a.1)
