-- What a CASE does that has an arm for each of some nodes, with the positions of the entries of a table as labels.
use Rattle.std.proofs.Common.{◌≡◌, ◌⊎◌, inl, inr, ⊎_elim, ℕ, zero, suc, ◌+◌, ◌<◌, ◌==◌, Bool, true, false, ◌||◌, if◌then◌else◌, ℤ, pos, negsuc, List, [], ◌∷◌, map, Option, Some, None, slice_get, refl, ap, ◌∙◌, arith}
use Rattle.std.specs.List.{list_any}
use Rattle.std.specs.Ordering.{int_eq}
use Rattle.std.proofs.lemmas.Bool.{eq-eqb, eqb-true}
use Rattle.st_tree.specs.Meaning.{Calls, Labelled, Out, Sem, body_meaning, case_meaning, first_with}
use Rattle.st_tree.specs.State.{State}
use Rattle.st_tree.specs.declared.program.Located.{Located}
use Rattle.st_tree.specs.declared.program.Stmt.{Stmt}
use Rattle.st_tree.proofs.Equations.{meaning_case_arm}
use Rattle.region_laws.specs.Regions.{arms_of_nodes, is_among, positions_of}
use Rattle.region_laws.proofs.Statements.{or_rest, or_true, same_number}

-- Labels

-- a value is one of some labels
abbrev has : ℤ → List ℤ → Bool
has z labels = list_any (λ label. int_eq label z) labels

-- the entry of a table leads to a node
abbrev is_entry : Option ℕ → ℕ → Bool
is_entry None j = false
is_entry (Some t) j = t == j

apart : (m n : ℕ) → (m < n) ⊎ (n < m) → (m == n) ≡ false
apart m n o = by (m == n) refl
  where
    by : (b : Bool) → (m == n) ≡ b → (m == n) ≡ false
    by true e = absurd (let q = eqb-true m n e in ⊎_elim (λ x. omega arith) (λ x. omega arith) o)
    by false e = e

-- no label is below the first position
none_below : (ts : List ℕ) (b j n : ℕ) → n < b → has (pos n) (positions_of j b ts) ≡ false
none_below [] b j n x = refl
none_below (t ∷ ts) b j n x = by (t == j) (none_below ts (suc b) j n (omega arith))
  where
    by : (c : Bool) → has (pos n) (positions_of j (suc b) ts) ≡ false
        → has (pos n) (if c then pos b ∷ positions_of j (suc b) ts else positions_of j (suc b) ts) ≡ false
    by true more = or_rest (int_eq (pos b) (pos n)) (has (pos n) (positions_of j (suc b) ts)) (same_number b n ∙ apart b n (inr x)) ∙ more
    by false more = more

-- a negative number is no label
negative : (ts : List ℕ) (b j m : ℕ) → has (negsuc m) (positions_of j b ts) ≡ false
negative [] b j m = refl
negative (t ∷ ts) b j m = by (t == j) (negative ts (suc b) j m)
  where
    by : (c : Bool) → has (negsuc m) (positions_of j (suc b) ts) ≡ false
        → has (negsuc m) (if c then pos b ∷ positions_of j (suc b) ts else positions_of j (suc b) ts) ≡ false
    by true more = or_rest (int_eq (pos b) (negsuc m)) (has (negsuc m) (positions_of j (suc b) ts)) refl ∙ more
    by false more = more

-- the labels of a node are the positions of its entries
labels_are : (ts : List ℕ) (b j k : ℕ) → has (pos (b + k)) (positions_of j b ts) ≡ is_entry (slice_get ts k) j
labels_are [] b j k = refl
labels_are (t ∷ ts) b j zero = by (t == j)
  where
    by : (c : Bool) → has (pos (b + 0)) (if c then pos b ∷ positions_of j (suc b) ts else positions_of j (suc b) ts) ≡ c
    by true = or_true (int_eq (pos b) (pos (b + 0))) (has (pos (b + 0)) (positions_of j (suc b) ts))
        (same_number b (b + 0) ∙ eq-eqb b (b + 0) (omega arith))
    by false = none_below ts (suc b) j (b + 0) (omega arith)
labels_are (t ∷ ts) b j (suc k) = by (t == j) (labels_are ts (suc b) j k)
  where
    further : b + suc k ≡ suc b + k
    further = omega arith

    by : (c : Bool) → has (pos (suc b + k)) (positions_of j (suc b) ts) ≡ is_entry (slice_get ts k) j
        → has (pos (b + suc k)) (if c then pos b ∷ positions_of j (suc b) ts else positions_of j (suc b) ts) ≡ is_entry (slice_get ts k) j
    by true e = or_rest (int_eq (pos b) (pos (b + suc k))) (has (pos (b + suc k)) (positions_of j (suc b) ts))
        (same_number b (b + suc k) ∙ apart b (b + suc k) (inl (omega arith)))
        ∙ ap (λ n. has (pos n) (positions_of j (suc b) ts)) further ∙ e
    by false e = ap (λ n. has (pos n) (positions_of j (suc b) ts)) further ∙ e

table_labels : (ts : List ℕ) (j k : ℕ) → has (pos k) (positions_of j 0 ts) ≡ is_entry (slice_get ts k) j
table_labels ts j k = ap (λ n. has (pos n) (positions_of j 0 ts)) (let q : k ≡ 0 + k = omega arith in q) ∙ labels_are ts 0 j k

turned : (m n : ℕ) → (m == n) ≡ (n == m)
turned m n = grind arith

-- an entry of a table is among its entries
pub entry_among : (ts : List ℕ) (k t : ℕ) → slice_get ts k ≡ Some t → is_among t ts ≡ true
entry_among [] k t e = absurd cc
entry_among (x ∷ ts) zero t e = let same : x ≡ t = cc in or_true (x == t) (is_among t ts) (eq-eqb x t same)
entry_among (x ∷ ts) (suc k) t e = by (x == t) (is_among t ts) (entry_among ts k t e)
  where
    by : (b c : Bool) → c ≡ true → (b || c) ≡ true
    by true c e = refl
    by false c e = e

-- Arms

module _ (g : List Located) (c : Calls) (targets : List ℕ) (bodies : ℕ → List Stmt) (other : Sem) (units : ℕ) (s : State) where
  abbrev pub nodes_do : ℤ → List ℕ → Out
  nodes_do z nodes = first_with z (map (case_meaning g c) (arms_of_nodes targets bodies nodes)) other units s

  abbrev pub node_does : List ℕ → ℕ → Out
  node_does nodes j = if is_among j nodes then body_meaning g c (bodies j) units s else other units s

  -- the first arm
  first_arm : (z : ℤ) (i : ℕ) (nodes : List ℕ)
      → nodes_do z (i ∷ nodes) ≡ (if has z (positions_of i 0 targets) then body_meaning g c (bodies i) units s else nodes_do z nodes)
  first_arm z i nodes =
      ap (λ (arm : Labelled). first_with z (arm ∷ map (case_meaning g c) (arms_of_nodes targets bodies nodes)) other units s)
      (meaning_case_arm g c (record { labels = positions_of i 0 targets; body = bodies i }))

  -- one arm more, that has the number or not
  one_arm : (z : ℤ) (i j : ℕ) (nodes : List ℕ) (b : Bool) → (i == j) ≡ b → has z (positions_of i 0 targets) ≡ b
      → nodes_do z nodes ≡ node_does nodes j → nodes_do z (i ∷ nodes) ≡ node_does (i ∷ nodes) j
  one_arm z i j nodes true e h more =
      let same : i ≡ j = eqb-true i j e in
      first_arm z i nodes ∙ rw (h, or_true (i == j) (is_among j nodes) e) (ap (λ j. body_meaning g c (bodies j) units s) same)
  one_arm z i j nodes false e h more = first_arm z i nodes ∙ rw (h, or_rest (i == j) (is_among j nodes) e) more

  -- where an entry leads to a node, its arm is taken, or the others if it has none
  pub by_entry : (k t : ℕ) → slice_get targets k ≡ Some t → (nodes : List ℕ) → nodes_do (pos k) nodes ≡ node_does nodes t
  by_entry k t e [] = refl
  by_entry k t e (i ∷ nodes) = one_arm (pos k) i t nodes (i == t) refl
      (table_labels targets i k ∙ ap (λ o. is_entry o i) e ∙ turned t i) (by_entry k t e nodes)

  no_arm : (z : ℤ) → ((i : ℕ) → has z (positions_of i 0 targets) ≡ false) → (nodes : List ℕ) → nodes_do z nodes ≡ other units s
  no_arm z f [] = refl
  no_arm z f (i ∷ nodes) = first_arm z i nodes ∙ rw (f i) (no_arm z f nodes)

  -- where there is no entry, no arm is taken
  pub no_entry : (k : ℕ) → slice_get targets k ≡ None → (nodes : List ℕ) → nodes_do (pos k) nodes ≡ other units s
  no_entry k e nodes = no_arm (pos k) (λ i. table_labels targets i k ∙ ap (λ o. is_entry o i) e) nodes

  pub no_number : (m : ℕ) (nodes : List ℕ) → nodes_do (negsuc m) nodes ≡ other units s
  no_number m nodes = no_arm (negsuc m) (λ i. negative targets 0 i m) nodes
