-- A stable sort by numbers puts data blocks in order.
use Rattle.std.proofs.Common.{◌≡◌, ⊎_elim, ℕ, suc, ◌<◌, ◌≤◌, List, [], ◌∷◌, length, get_or, Bool, true, false, cond, not, if◌then◌else◌, refl, sym, ap, subst, ◌∙◌, arith, eqb-true}
use Rattle.std.specs.Prelude.{◌==◌, nat_lt, ◌&&◌}
use Rattle.std.specs.List.{filter}
use Rattle.std.specs.List.Sorted.{IsNonDecreasingBy, ties}
use Rattle.std.specs.Ordering.{is_lt, nat_cmp}
use Rattle.std.specs.declared.cmp.Ordering.TheVariants.{Less, Equal, Greater}
use Rattle.std.proofs.lemmas.Bool.{cases_order, ltb-false, ltb-true}
use Rattle.memory_areas.specs.declared.data_block.DataBlock.{DataBlock}
use Rattle.memory_areas.specs.Areas.{insert_data_block}
use Rattle.stl_rules.specs.DataBlocks.{in_order}
use Rattle.data_contents.specs.Order.{AreInOrder, Rises, of_number}

-- Numbers

-- two blocks have one number, as a sort by numbers tests it
abbrev ranked : DataBlock → DataBlock → Bool
ranked a b = is_lt (nat_cmp a.number b.number)

abbrev tied : DataBlock → DataBlock → Bool
tied a b = ties ranked a b

is_less : (t u : Bool) → is_lt (cond t Less (cond u Equal Greater)) ≡ t
is_less true u = refl
is_less false true = refl
is_less false false = refl

tests : (m n : ℕ) → is_lt (nat_cmp m n) ≡ nat_lt m n
tests m n = is_less (nat_lt m n) (m == n)

not_less : (n : ℕ) → nat_lt n n ≡ false
not_less n = by (nat_lt n n) refl
  where
    by : (t : Bool) → nat_lt n n ≡ t → t ≡ false
    by true e = absurd (omega (arith, ltb-true n n e))
    by false e = refl

tied_self : (b : DataBlock) → tied b b ≡ true
tied_self b = ap (λ t. not t && not t) (tests b.number b.number ∙ not_less b.number)

same_number : (a b : DataBlock) → tied a b ≡ true → a.number ≡ b.number
same_number a b e = by (ranked a b) (ranked b a) refl refl e
  where
    by : (t u : Bool) → ranked a b ≡ t → ranked b a ≡ u → not t && not u ≡ true → a.number ≡ b.number
    by true u f g h = absurd cc
    by false true f g h = absurd cc
    by false false f g h =
        let p = ltb-false a.number b.number (sym (tests a.number b.number) ∙ f) in
        let q = ltb-false b.number a.number (sym (tests b.number a.number) ∙ g) in
        omega (arith, p, q)

-- Order

-- the blocks that are tied with one
abbrev like : DataBlock → List DataBlock → List DataBlock
like b blocks = filter (tied b) blocks

rises : (least : ℕ) (ys : List DataBlock) → ((d : DataBlock) → 0 < length ys → least ≤ (get_or ys 0 d).number)
    → IsNonDecreasingBy (λ (b : DataBlock). b.number) ys → Rises least ys
rises least [] h up = tt
rises least (y ∷ ys) h up = (
  h y (omega arith),
  rises y.number ys (λ d some. up 0 1 d (omega arith) (omega (arith, some)))
      (λ i j d l m. up (suc i) (suc j) d (omega (arith, l)) (omega (arith, m))),
)

all_rise : (ys : List DataBlock) → IsNonDecreasingBy (λ (b : DataBlock). b.number) ys → Rises 0 ys
all_rise ys up = rises 0 ys (λ d some. omega arith) up

inserted_rise : (b : DataBlock) (rest : List DataBlock) (least : ℕ) → least ≤ b.number → Rises least rest → Rises least (insert_data_block b rest)
inserted_rise b [] least h r = (h, tt)
inserted_rise b (c ∷ rest) least h r = by (nat_lt c.number b.number) refl (λ l. inserted_rise b rest c.number l r.1)
  where
    by : (t : Bool) → nat_lt c.number b.number ≡ t → (c.number ≤ b.number → Rises c.number (insert_data_block b rest))
        → Rises least (if t then c ∷ insert_data_block b rest else b ∷ c ∷ rest)
    by true e more = let l = ltb-true c.number b.number e in (r.0, more (omega (arith, l)))
    by false e more = (h, (ltb-false c.number b.number e, r.1))

in_order_rises : (blocks : List DataBlock) → Rises 0 (in_order blocks)
in_order_rises [] = tt
in_order_rises (b ∷ rest) = inserted_rise b (in_order rest) 0 (omega arith) (in_order_rises rest)

-- Blocks of one number

-- a block is put past those alone that are not tied with it
inserted_like : (a b : DataBlock) (rest : List DataBlock) → like a (insert_data_block b rest) ≡ like a (b ∷ rest)
inserted_like a b [] = refl
inserted_like a b (c ∷ rest) = by (nat_lt c.number b.number) refl (inserted_like a b rest)
  where
    both : (t u : Bool) → tied a b ≡ t → tied a c ≡ u → c.number < b.number
        → cond u (c ∷ cond t (b ∷ like a rest) (like a rest)) (cond t (b ∷ like a rest) (like a rest))
        ≡ cond t (b ∷ cond u (c ∷ like a rest) (like a rest)) (cond u (c ∷ like a rest) (like a rest))
    both true true f g l = absurd (omega (arith, same_number a b f, same_number a c g, l))
    both true false f g l = refl
    both false true f g l = refl
    both false false f g l = refl

    by : (t : Bool) → nat_lt c.number b.number ≡ t → like a (insert_data_block b rest) ≡ like a (b ∷ rest)
        → like a (if t then c ∷ insert_data_block b rest else b ∷ c ∷ rest) ≡ like a (b ∷ c ∷ rest)
    by true e more =
        ap (λ l. cond (tied a c) (c ∷ l) l) more
        ∙ both (tied a b) (tied a c) refl refl (ltb-true c.number b.number e)
    by false e more = refl

in_order_like : (a : DataBlock) (blocks : List DataBlock) → like a (in_order blocks) ≡ like a blocks
in_order_like a [] = refl
in_order_like a (b ∷ rest) =
    inserted_like a b (in_order rest) ∙ ap (λ l. cond (tied a b) (b ∷ l) l) (in_order_like a rest)

inserted_kept : (n : ℕ) (b : DataBlock) (rest : List DataBlock) → of_number n (insert_data_block b rest) ≡ of_number n (b ∷ rest)
inserted_kept n b [] = refl
inserted_kept n b (c ∷ rest) = by (nat_lt c.number b.number) refl (inserted_kept n b rest)
  where
    both : (t u : Bool) → (b.number == n) ≡ t → (c.number == n) ≡ u → c.number < b.number
        → cond u (c ∷ cond t (b ∷ of_number n rest) (of_number n rest)) (cond t (b ∷ of_number n rest) (of_number n rest))
        ≡ cond t (b ∷ cond u (c ∷ of_number n rest) (of_number n rest)) (cond u (c ∷ of_number n rest) (of_number n rest))
    both true true f g l = absurd (omega (arith, eqb-true b.number n f, eqb-true c.number n g, l))
    both true false f g l = refl
    both false true f g l = refl
    both false false f g l = refl

    by : (t : Bool) → nat_lt c.number b.number ≡ t → of_number n (insert_data_block b rest) ≡ of_number n (b ∷ rest)
        → of_number n (if t then c ∷ insert_data_block b rest else b ∷ c ∷ rest) ≡ of_number n (b ∷ c ∷ rest)
    by true e more =
        ap (λ l. cond (c.number == n) (c ∷ l) l) more
        ∙ both (b.number == n) (c.number == n) refl refl (ltb-true c.number b.number e)
    by false e more = refl

in_order_kept : (n : ℕ) (blocks : List DataBlock) → of_number n (in_order blocks) ≡ of_number n blocks
in_order_kept n [] = refl
in_order_kept n (b ∷ rest) =
    inserted_kept n b (in_order rest) ∙ ap (λ l. cond (b.number == n) (b ∷ l) l) (in_order_kept n rest)

-- the order is what it is to be
pub in_order_is : (blocks : List DataBlock) → AreInOrder blocks (in_order blocks)
in_order_is blocks = record { rises = in_order_rises blocks; kept = λ n. in_order_kept n blocks }

-- A list in order is the only one with these blocks of each number

none_like : (a : DataBlock) (least : ℕ) (ys : List DataBlock) → a.number < least → Rises least ys → like a ys ≡ []
none_like a least [] l r = refl
none_like a least (y ∷ ys) l r = by (tied a y) refl (none_like a y.number ys (omega (arith, l, r.0)) r.1)
  where
    by : (t : Bool) → tied a y ≡ t → like a ys ≡ [] → cond t (y ∷ like a ys) (like a ys) ≡ []
    by true e h = absurd (omega (arith, same_number a y e, l, r.0))
    by false e h = h

itself_first : (x : DataBlock) (xs : List DataBlock) → like x (x ∷ xs) ≡ x ∷ like x xs
itself_first x xs = ap (λ t. cond t (x ∷ like x xs) (like x xs)) (tied_self x)

lacks : (x : DataBlock) (xs ys : List DataBlock) → like x ys ≡ [] → like x (x ∷ xs) ≡ like x ys → ⊥
lacks x xs ys none h = let e : x ∷ like x xs ≡ [] = sym (itself_first x xs) ∙ h ∙ none in cc

pub only_one : (least : ℕ) (xs ys : List DataBlock) → Rises least xs → Rises least ys → ((a : DataBlock) → like a xs ≡ like a ys) → xs ≡ ys
only_one least [] [] r s h = refl
only_one least [] (y ∷ ys) r s h = absurd (lacks y ys [] refl (sym (h y)))
only_one least (x ∷ xs) [] r s h = absurd (lacks x xs [] refl (h x))
only_one least (x ∷ xs) (y ∷ ys) r s h =
    ⊎_elim (same (only_one y.number xs ys))
    (⊎_elim (λ l. absurd (lacks x xs (y ∷ ys) (none_like x y.number (y ∷ ys) l (omega arith, s.1)) (h x)))
    (λ l. absurd (lacks y ys (x ∷ xs) (none_like y x.number (x ∷ xs) l (omega arith, r.1)) (sym (h y)))))
    (cases_order x.number y.number)
  where
    tail : (z : DataBlock) → y ≡ z → (a : DataBlock) (t : Bool)
        → cond t (z ∷ like a xs) (like a xs) ≡ cond t (z ∷ like a ys) (like a ys) → like a xs ≡ like a ys
    tail z e a true g = cc
    tail z e a false g = g

    heads : (Rises y.number xs → Rises y.number ys → ((a : DataBlock) → like a xs ≡ like a ys) → xs ≡ ys) → x ≡ y → x ∷ xs ≡ y ∷ ys
    heads more e =
        ap (λ z. z ∷ xs) e
        ∙ ap (λ l. y ∷ l)
        (more (subst (λ (z : DataBlock). Rises z.number xs) e r.1) s.1
        (λ a. tail y refl a (tied a y) (subst (λ z. cond (tied a z) (z ∷ like a xs) (like a xs) ≡ like a (y ∷ ys)) e (h a))))

    same : (Rises y.number xs → Rises y.number ys → ((a : DataBlock) → like a xs ≡ like a ys) → xs ≡ ys) → x.number ≡ y.number → x ∷ xs ≡ y ∷ ys
    same more n = by (tied x y) refl
      where
        by : (t : Bool) → tied x y ≡ t → x ∷ xs ≡ y ∷ ys
        by true e =
            let g : x ∷ like x xs ≡ y ∷ like x ys = sym (itself_first x xs) ∙ h x ∙ ap (λ t. cond t (y ∷ like x ys) (like x ys)) e in
            heads more cc
        by false e = absurd (other n e)
          where
            other : x.number ≡ y.number → tied x y ≡ false → ⊥
            other m f =
                let p : is_lt (nat_cmp x.number y.number) ≡ false = tests x.number y.number ∙ ap (λ k. nat_lt x.number k) (sym m) ∙ not_less x.number in
                let q : is_lt (nat_cmp y.number x.number) ≡ false = tests y.number x.number ∙ ap (λ k. nat_lt k x.number) (sym m) ∙ not_less x.number in
                let yes : not (ranked x y) && not (ranked y x) ≡ true = ap (λ t. not t && not (ranked y x)) p ∙ ap (λ t. not t) q in
                cc

-- what a stable sort by numbers gives is the order
pub sorted_in_order : (blocks sorted : List DataBlock) → IsNonDecreasingBy (λ (b : DataBlock). b.number) sorted
    → ((a : DataBlock) → like a sorted ≡ like a blocks) → sorted ≡ in_order blocks
sorted_in_order blocks sorted up stable =
    only_one 0 sorted (in_order blocks) (all_rise sorted up) (in_order_rises blocks) (λ a. stable a ∙ sym (in_order_like a blocks))
