-- Each node that a path reaches stands in the region of a unit: the nodes of a region are listed, and where exits of
-- these lead is in the list too, if the places are to which the region leads.
use Rattle.std.proofs.Common.{◌≡◌, inl, inr, ⊎_elim, ℕ, zero, suc, ◌+◌, ◌<◌, ◌≤◌, ◌==◌, nat_lt, Bool, true, false, ◌||◌, if◌then◌else◌, List, [], ◌∷◌, ◌++◌, length, slice_get, Option, Some, None, refl, sym, ap, ◌∙◌, subst, arith}
use Rattle.std.specs.List.{list_any}
use Rattle.std.proofs.lemmas.Bool.{cond_both, eq-eqb, eqb-true, ltb-false, ltb-true, or_left, or_right}
use Rattle.std.proofs.lemmas.Option.{same_Some}
use Rattle.st_tree.specs.GraphRun.{entry_or}
use Rattle.st_tree.specs.declared.graph.StExit.{StExit}
use Rattle.st_tree.specs.declared.graph.StExit.TheVariants as exit
use Rattle.st_tree.specs.declared.graph.StNode.{StNode}
use Rattle.st_tree.specs.declared.program.Stmt.{Stmt}
use Rattle.stl_tree.specs.Segments.{IsOneOf, IsReached, Ways, fall, first, jump}
use Rattle.stl_tree.specs.Flows.{blocks_of, falls_by, jumps_of, ways_by}
use Rattle.graph_rules.specs.Flow.{flow_of, way_by}
use Rattle.region_laws.specs.Regions.{Around, Fits, IsNode, Leaves, LeadsTo, Mark, Marked, Place, Region, Repeats, again, arm_of, at, choose, cycle, ended, fork, inside, is_arm, labels_from, leaves, no_loop, node, off, out, quit, selected, selector, table, turn_to}
use Rattle.region_plans.proofs.Counting.{sum_append}
use Rattle.region_plans.specs.RegionCounts.{Weights, before, sum_of, weight}
use Rattle.shape_laws.proofs.Texts.{arm_mark}

-- Numbers

left_one : (b : ℕ) (xs ys : List ℕ) → IsOneOf b xs → IsOneOf b (xs ++ ys)
left_one b [] ys o = absurd o
left_one b (x ∷ xs) ys (inl e) = inl e
left_one b (x ∷ xs) ys (inr o) = inr (left_one b xs ys o)

right_one : (b : ℕ) (xs ys : List ℕ) → IsOneOf b ys → IsOneOf b (xs ++ ys)
right_one b [] ys o = o
right_one b (x ∷ xs) ys o = inr (right_one b xs ys o)

found_one : (b : ℕ) (xs : List ℕ) → list_any (λ x. x == b) xs ≡ true → IsOneOf b xs
found_one b [] e = absurd cc
found_one b (x ∷ xs) e = by (x == b) refl e (λ f. found_one b xs f)
  where
    by : (t : Bool) → x == b ≡ t → t || list_any (λ x. x == b) xs ≡ true → (list_any (λ x. x == b) xs ≡ true → IsOneOf b xs)
        → IsOneOf b (x ∷ xs)
    by true f e more = inl (sym (eqb-true x b f))
    by false f e more = inr (more e)

one_found : (b : ℕ) (xs : List ℕ) → IsOneOf b xs → list_any (λ x. x == b) xs ≡ true
one_found b [] o = absurd o
one_found b (x ∷ xs) (inl e) = or_left (x == b) (list_any (λ x. x == b) xs) (eq-eqb x b (sym e))
one_found b (x ∷ xs) (inr o) = or_right (x == b) (list_any (λ x. x == b) xs) (one_found b xs o)

-- labels from one on
label_low : (label n b : ℕ) → IsOneOf b (labels_from label n) → b < label + n
label_low label zero b o = absurd o
label_low label (suc n) b (inl e) = omega (arith, e)
label_low label (suc n) b (inr o) = let h : b < suc label + n = label_low (suc label) n b o in omega (arith, h)

label_there : (label n b : ℕ) → b < n → IsOneOf (label + b) (labels_from label n)
label_there label zero b l = absurd (omega (arith, l))
label_there label (suc n) zero l = inl (let e : label + zero ≡ label = omega arith in e)
label_there label (suc n) (suc b) l =
    let e : suc label + b ≡ label + suc b = omega arith in
    inr (subst (λ m. IsOneOf m (labels_from (suc label) n)) e (label_there (suc label) n b (omega (arith, l))))

-- Sums

-- what is counted of the numbers of a list below one
abbrev part : (ℕ → ℕ) → ℕ → ℕ → ℕ
part f n x = if nat_lt x n then f x else 0

part_low : (f : ℕ → ℕ) (n x : ℕ) → part f n x ≤ f x
part_low f n x = cond_both (nat_lt x n) (f x) 0 (λ k. k ≤ f x) (λ e. omega arith) (λ e. omega arith)

part_up : (f : ℕ → ℕ) (n x : ℕ) → part f n x ≤ part f (suc n) x
part_up f n x =
    cond_both (nat_lt x (suc n)) (f x) 0 (λ k. part f n x ≤ k) (λ e. part_low f n x)
    (λ e. cond_both (nat_lt x n) (f x) 0 (λ k. k ≤ 0)
    (λ g. let l : x < n = ltb-true x n g in let m = ltb-false x (suc n) e in absurd (omega (arith, l, m))) (λ g. omega arith))

parts_up : (f : ℕ → ℕ) (n : ℕ) (xs : List ℕ) → sum_of (part f n) xs ≤ sum_of (part f (suc n)) xs
parts_up f n [] = omega arith
parts_up f n (x ∷ xs) = let l = part_up f n x in let h = parts_up f n xs in omega (arith, l, h)

-- a number that is in the list counts where the bound passes it
part_at : (f : ℕ → ℕ) (n : ℕ) → part f n n + f n ≤ part f (suc n) n
part_at f n =
    cond_both (nat_lt n n) (f n) 0 (λ k. k + f n ≤ part f (suc n) n) (λ e. let l : n < n = ltb-true n n e in absurd (omega (arith, l)))
    (λ e. cond_both (nat_lt n (suc n)) (f n) 0 (λ k. 0 + f n ≤ k) (λ g. omega arith) (λ g. let m = ltb-false n (suc n) g in absurd (omega (arith, m))))

parts_more : (f : ℕ → ℕ) (n : ℕ) (xs : List ℕ) → IsOneOf n xs → sum_of (part f n) xs + f n ≤ sum_of (part f (suc n)) xs
parts_more f n [] o = absurd o
parts_more f n (x ∷ xs) (inl e) =
    let l : part f n x + f n ≤ part f (suc n) x = subst (λ y. part f n y + f n ≤ part f (suc n) y) e (part_at f n) in
    let h = parts_up f n xs in omega (arith, l, h)
parts_more f n (x ∷ xs) (inr o) = let l = part_up f n x in let h = parts_more f n xs o in omega (arith, l, h)

module _ (f : ℕ → ℕ) (reached : ℕ → Bool) (xs : List ℕ) (there : (b : ℕ) → reached b ≡ true → IsOneOf b xs) where
  sum_parts : (n : ℕ) → before (λ b. if reached b then f b else 0) n ≤ sum_of (part f n) xs
  sum_parts zero = omega arith
  sum_parts (suc n) =
      let h = sum_parts n in let up = parts_up f n xs in
      cond_both (reached n) (f n) 0 (λ k. before (λ b. if reached b then f b else 0) n + k ≤ sum_of (part f (suc n)) xs)
      (λ e. let m = parts_more f n xs (there n e) in omega (arith, h, m)) (λ e. omega (arith, h, up))

  parts_low : (n : ℕ) (ys : List ℕ) → sum_of (part f n) ys ≤ sum_of f ys
  parts_low n [] = omega arith
  parts_low n (y ∷ ys) = let l = part_low f n y in let h = parts_low n ys in omega (arith, l, h)

  -- the sum over all that is reached is no greater than that over a list in which all of it is
  sum_covered : (n : ℕ) → before (λ b. if reached b then f b else 0) n ≤ sum_of f xs
  sum_covered n = let a = sum_parts n in let b = parts_low n xs in omega (arith, a, b)

-- Marks

mark_arm : (k : ℕ) (mark : Mark) → mark ≡ arm_of k → is_arm k mark ≡ true
mark_arm k mark e = ap (is_arm k) e ∙ eq-eqb k k refl

-- Exits

each_target : (P : ℕ → Type 0) (last : ℕ) (targets : List ℕ) → ((n : ℕ) → n < length targets → P (entry_or (slice_get targets n) last))
    → (t : ℕ) → IsOneOf t targets → P t
each_target P last [] h t o = absurd o
each_target P last (x ∷ xs) h t (inl e) = subst P (sym e) (h 0 (omega arith))
each_target P last (x ∷ xs) h t (inr o) = each_target P last xs (λ n l. h (suc n) (omega (arith, l))) t o

past_end : (xs : List ℕ) → slice_get xs (length xs) ≡ None
past_end [] = refl
past_end (x ∷ xs) = past_end xs

-- where the exit of the node at a position leads is among some numbers
record LeadsInto (whole : List ℕ) (i : ℕ) (x : StExit) : Type 0 where
  jumps : (t : ℕ) → IsOneOf t (jumps_of (way_by x)) → IsOneOf t whole
  falls : falls_by (way_by x) ≡ true → IsOneOf (suc i) whole

-- the steps of a node, if it is there
abbrev pub steps_at : Weights → Option StNode → ℕ
steps_at w None = 0
steps_at w (Some n) = w.steps n.steps

module _ (unit : Marked) where
  -- so is a place
  abbrev Served : List ℕ → Place → Type 0
  Served whole (at b) = IsOneOf b whole
  Served whole out = Unit {0}
  Served whole (selected k) = (n : ℕ) → unit.marks n ≡ arm_of k → IsOneOf n whole

  abbrev AroundServed : List ℕ → Around → Type 0
  AroundServed whole no_loop = Unit {0}
  AroundServed whole (inside head behind) = Served whole head × Served whole behind

  -- all of a list is among some numbers
  abbrev Among : List ℕ → List ℕ → Type 0
  Among whole list = (b : ℕ) → IsOneOf b list → IsOneOf b whole

  -- where the nodes of a list lead is
  abbrev Closed : List ℕ → List ℕ → Type 0
  Closed whole list = (i : ℕ) → IsOneOf i list → (n : StNode) → slice_get unit.nodes i ≡ Some n → LeadsInto whole i n.exit

  one_place : (whole : List ℕ) (i : ℕ) (x : StExit) (q : Place) → LeadsTo i x q → Served whole q → LeadsInto whole i x
  one_place whole i exit.Fall q e s = record { jumps = λ t o. absurd o; falls = λ f. subst (Served whole) e s }
  one_place whole i (exit.Jump j) q e s =
      record {
        jumps = λ t o. ⊎_elim (λ same. subst (λ t. IsOneOf t whole) (sym same) (subst (Served whole) e s)) (λ o. absurd o) o;
        falls = λ f. absurd cc;
      }
  one_place whole i (exit.Branch e j) q l s = absurd l
  one_place whole i (exit.EndIf e) q l s = absurd l
  one_place whole i (exit.Table e targets last) q l s = absurd l
  one_place whole i exit.End q e s = record { jumps = λ t o. absurd o; falls = λ f. absurd cc }

  -- the first node of a list, and the others
  closed_first : (whole : List ℕ) (turn : Bool) (i : ℕ) (steps : List Stmt) (x : StExit) (list : List ℕ) → IsNode unit turn i steps x
      → LeadsInto whole i x → Closed whole list → Closed whole (i ∷ list)
  closed_first whole turn i steps x list is leads more b (inl e) n there =
      let at_i : slice_get unit.nodes i ≡ Some n = subst (λ b. slice_get unit.nodes b ≡ Some n) e there in
      let same : is.node ≡ n = same_Some is.node n (sym is.there ∙ at_i) in
      subst (λ b. LeadsInto whole b n.exit) (sym e)
      (subst (LeadsInto whole i) (sym is.exit_is ∙ ap (λ (n : StNode). n.exit) same) leads)
  closed_first whole turn i steps x list is leads more b (inr o) n there = more b o n there

  closed_append : (whole xs ys : List ℕ) → Closed whole xs → Closed whole ys → Closed whole (xs ++ ys)
  closed_append whole [] ys h k i o n there = k i o n there
  closed_append whole (x ∷ xs) ys h k i (inl e) n there = h i (inl e) n there
  closed_append whole (x ∷ xs) ys h k i (inr o) n there = closed_append whole xs ys (λ i o. h i (inr o)) k i o n there

  among_left : (whole xs ys : List ℕ) → Among whole (xs ++ ys) → Among whole xs
  among_left whole xs ys h b o = h b (left_one b xs ys o)

  among_right : (whole xs ys : List ℕ) → Among whole (xs ++ ys) → Among whole ys
  among_right whole xs ys h b o = h b (right_one b xs ys o)

  module _ (w : Weights) where
    abbrev own : ℕ → ℕ
    own i = steps_at w (slice_get unit.nodes i)

    own_is : (turn : Bool) (i : ℕ) (steps : List Stmt) (x : StExit) → IsNode unit turn i steps x → own i ≡ w.steps steps
    own_is turn i steps x is = ap (steps_at w) is.there ∙ ap w.steps is.steps_are

    -- the nodes of a region. Where these, and the places to which it may lead, are among some numbers, so is its place,
    -- and so is where its nodes lead
    record Stands (r : Region) (turn : Bool) (p follow : Place) (a : Around) : Type 0 where
      list : List ℕ
      begins : turn ≡ true → (b : ℕ) → p ≡ at b → IsOneOf b list
      closed : (whole : List ℕ) → Among whole list → Served whole follow → AroundServed whole a → Served whole p × Closed whole list
      weighs : sum_of own list ≤ weight w r

    record ArmStand (arms : ℕ → Region) (starts : ℕ → Place) (turn : Bool) (follow : Place) (a : Around) (labels : List ℕ) : Type 0 where
      list : List ℕ
      begins : turn ≡ true → (n : ℕ) → IsOneOf n labels → (b : ℕ) → starts n ≡ at b → IsOneOf b list
      closed : (whole : List ℕ) → Among whole list → Served whole follow → AroundServed whole a
          → ((n : ℕ) → IsOneOf n labels → Served whole (starts n)) × Closed whole list
      weighs : sum_of own list ≤ sum_of (λ n. weight w (arms n)) labels

    arm_stand : (arms : ℕ → Region) (starts : ℕ → Place) (turn : Bool) (follow : Place) (a : Around) (labels : List ℕ)
        → ((n : ℕ) → IsOneOf n labels → Stands (arms n) turn (starts n) follow a) → ArmStand arms starts turn follow a labels
    arm_stand arms starts turn follow a [] each = record {
      list = [];
      begins = λ t n o. absurd o;
      closed = λ whole in_whole s around. ((λ n o. absurd o), (λ i o. absurd o));
      weighs = omega arith;
    }
    arm_stand arms starts turn follow a (n ∷ labels) each =
        let one = each n (inl refl) in let more = arm_stand arms starts turn follow a labels (λ m o. each m (inr o)) in
        record {
          list = one.list ++ more.list;
          begins = λ t m o b e. ⊎_elim (λ same. left_one b one.list more.list (one.begins t b (sym (ap starts same) ∙ e)))
              (λ o. right_one b one.list more.list (more.begins t m o b e)) o;
          closed = λ whole in_whole s around.
              let first = one.closed whole (among_left whole one.list more.list in_whole) s around in
              let rest = more.closed whole (among_right whole one.list more.list in_whole) s around in (
                (λ m o. ⊎_elim (λ same. subst (λ m. Served whole (starts m)) (sym same) first.0) (λ o. rest.0 m o) o),
                closed_append whole one.list more.list first.1 rest.1,
              );
          weighs = (let e = sum_append own one.list more.list in let l = one.weighs in let m = more.weighs in omega (arith, e, l, m));
        }

    nothing : (r : Region) (turn : Bool) (p follow : Place) (a : Around) → turn ≡ false
        → ((whole : List ℕ) → Served whole follow → AroundServed whole a → Served whole p) → Stands r turn p follow a
    nothing r turn p follow a t leads = record {
      list = [];
      begins = λ e. absurd (let f : true ≡ false = sym e ∙ t in cc);
      closed = λ whole in_whole s around. (leads whole s around, λ i o. absurd o);
      weighs = omega arith;
    }

    leaves_served : (whole : List ℕ) (a : Around) (p : Place) → Leaves a p → AroundServed whole a → Served whole p
    leaves_served whole no_loop p l s = absurd l
    leaves_served whole (inside head behind) p l s = subst (Served whole) (sym l) s.1

    repeats_served : (whole : List ℕ) (a : Around) (p : Place) → Repeats a p → AroundServed whole a → Served whole p
    repeats_served whole no_loop p l s = absurd l
    repeats_served whole (inside head behind) p l s = subst (Served whole) (sym l) s.0

    -- a region that begins with a node
    begins_so : (turn : Bool) (p : Place) (i : ℕ) (list : List ℕ) → p ≡ at i → turn ≡ true → (b : ℕ) → p ≡ at b → IsOneOf b (i ∷ list)
    begins_so turn p i list e t b f = inl (same b i (sym f ∙ e))
      where
        same : (b i : ℕ) → at b ≡ at i → b ≡ i
        same b i e = cc

    stands : (r : Region) (turn : Bool) (p follow : Place) (a : Around) → Fits unit turn r p follow a → Stands r turn p follow a
    stands off turn p follow a (t, e) = nothing off turn p follow a t (λ whole s around. subst (Served whole) (sym e) s)
    stands leaves turn p follow a (t, l) = nothing leaves turn p follow a t (λ whole s around. leaves_served whole a p l around)
    stands again turn p follow a (t, l) = nothing again turn p follow a t (λ whole s around. repeats_served whole a p l around)
    stands ended turn p follow a (t, e) = nothing ended turn p follow a t (λ whole s around. subst (Served whole) (sym e) tt)
    stands (node steps rest) turn p follow a (i, x, q, e, is, leads, fits) =
        let more = stands rest false q follow a fits in
        record {
          list = i ∷ more.list;
          begins = begins_so turn p i more.list e;
          closed = λ whole in_whole s around.
              let after = more.closed whole (λ b o. in_whole b (inr o)) s around in (
                subst (Served whole) (sym e) (in_whole i (inl refl)),
                closed_first whole turn i steps x more.list is (one_place whole i x q leads after.0) after.1,
              );
          weighs = (let o = own_is turn i steps x is in let m = more.weighs in omega (arith, o, m));
        }
    stands (fork steps e there behind join rest) turn p follow a (i, j, same, is, fit, fit', fits) =
        let one = stands there false (at j) join a fit in let two = stands behind false (at (suc i)) join a fit' in
        let more = stands rest false join follow a fits in
        record {
          list = i ∷ (one.list ++ (two.list ++ more.list));
          begins = begins_so turn p i (one.list ++ (two.list ++ more.list)) same;
          closed = λ whole in_whole s around.
              let behind_i : Among whole (one.list ++ (two.list ++ more.list)) = λ b o. in_whole b (inr o) in
              let behind_one = among_right whole one.list (two.list ++ more.list) behind_i in
              let after = more.closed whole (among_right whole two.list more.list behind_one) s around in
              let first = one.closed whole (among_left whole one.list (two.list ++ more.list) behind_i) after.0 around in
              let second = two.closed whole (among_left whole two.list more.list behind_one) after.0 around in (
                subst (Served whole) (sym same) (in_whole i (inl refl)),
                closed_first whole turn i steps (exit.Branch e j) (one.list ++ (two.list ++ more.list)) is
                    (record {
                      jumps = λ t o. ⊎_elim (λ f. subst (λ t. IsOneOf t whole) (sym f) first.0) (λ o. absurd o) o;
                      falls = λ f. second.0;
                    })
                    (closed_append whole one.list (two.list ++ more.list) first.1 (closed_append whole two.list more.list second.1 after.1)),
              );
          weighs = (
              let o = own_is turn i steps (exit.Branch e j) is in let l = one.weighs in let m = two.weighs in let n = more.weighs in
              let f = sum_append own one.list (two.list ++ more.list) in let g = sum_append own two.list more.list in
              omega (arith, o, l, m, n, f, g));
        }
    stands (quit steps e rest) turn p follow a (i, same, is, fits) =
        let more = stands rest false (at (suc i)) follow a fits in
        record {
          list = i ∷ more.list;
          begins = begins_so turn p i more.list same;
          closed = λ whole in_whole s around.
              let after = more.closed whole (λ b o. in_whole b (inr o)) s around in (
                subst (Served whole) (sym same) (in_whole i (inl refl)),
                closed_first whole turn i steps (exit.EndIf e) more.list is (record { jumps = λ t o. absurd o; falls = λ f. after.0 }) after.1,
              );
          weighs = (let o = own_is turn i steps (exit.EndIf e) is in let m = more.weighs in omega (arith, o, m));
        }
    stands (table steps e count arms join rest) turn p follow a (i, targets, last, same, is, many, each, fits) =
        let starts : ℕ → Place = λ n. at (entry_or (slice_get targets n) last) in
        let some = arm_stand arms starts false join a (labels_from 0 count)
        (λ n o. let l : n < 0 + count = label_low 0 count n o in stands (arms n) false (starts n) join a (each n (omega (arith, l)))) in
        let other = stands (arms count) false (starts count) join a (each count (omega arith)) in
        let more = stands rest false join follow a fits in
        record {
          list = i ∷ (some.list ++ (other.list ++ more.list));
          begins = begins_so turn p i (some.list ++ (other.list ++ more.list)) same;
          closed = λ whole in_whole s around.
              let behind_i : Among whole (some.list ++ (other.list ++ more.list)) = λ b o. in_whole b (inr o) in
              let behind_some = among_right whole some.list (other.list ++ more.list) behind_i in
              let after = more.closed whole (among_right whole other.list more.list behind_some) s around in
              let first = some.closed whole (among_left whole some.list (other.list ++ more.list) behind_i) after.0 around in
              let second = other.closed whole (among_left whole other.list more.list behind_some) after.0 around in (
                subst (Served whole) (sym same) (in_whole i (inl refl)),
                closed_first whole turn i steps (exit.Table e targets last) (some.list ++ (other.list ++ more.list)) is
                    (record {
                      jumps = λ t o. ⊎_elim (λ f. subst (λ t. IsOneOf t whole) (sym f) (to_last whole targets last count many second.0))
                          (λ o. each_target (λ t. IsOneOf t whole) last targets
                          (λ n l. let here : 0 + n ≡ n = omega arith in
                          first.0 n (subst (λ m. IsOneOf m (labels_from 0 count)) here (label_there 0 count n (omega (arith, l, many))))) t o) o;
                      falls = λ f. absurd cc;
                    })
                    (closed_append whole some.list (other.list ++ more.list) first.1 (closed_append whole other.list more.list second.1 after.1)),
              );
          weighs = (
              let o = own_is turn i steps (exit.Table e targets last) is in let l = some.weighs in let m = other.weighs in let n = more.weighs in
              let f = sum_append own some.list (other.list ++ more.list) in let g = sum_append own other.list more.list in
              omega (arith, o, l, m, n, f, g));
        }
      where
        to_last : (whole targets : List ℕ) (last count : ℕ) → count ≡ length targets → IsOneOf (entry_or (slice_get targets count) last) whole
            → IsOneOf last whole
        to_last whole targets last count many o =
            subst (λ (t : Option ℕ). IsOneOf (entry_or t last) whole) (ap (λ (n : ℕ). slice_get targets n) many ∙ past_end targets) o
    stands (choose steps e targets listed arms other join rest) turn p follow a (i, last, same, is, have, each, fit, fits) =
        let some = arm_stand arms (λ j. at j) false join a listed
        (λ j o. stands (arms j) false (at j) join a (each j (one_found j listed o))) in
        let default = stands other false (at last) join a fit in
        let more = stands rest false join follow a fits in
        record {
          list = i ∷ (some.list ++ (default.list ++ more.list));
          begins = begins_so turn p i (some.list ++ (default.list ++ more.list)) same;
          closed = λ whole in_whole s around.
              let behind_i : Among whole (some.list ++ (default.list ++ more.list)) = λ b o. in_whole b (inr o) in
              let behind_some = among_right whole some.list (default.list ++ more.list) behind_i in
              let after = more.closed whole (among_right whole default.list more.list behind_some) s around in
              let first = some.closed whole (among_left whole some.list (default.list ++ more.list) behind_i) after.0 around in
              let second = default.closed whole (among_left whole default.list more.list behind_some) after.0 around in
              let to_last : (t : ℕ) → t ≡ last → IsOneOf t whole = λ t f. subst (λ t. IsOneOf t whole) (sym f) second.0 in (
                subst (Served whole) (sym same) (in_whole i (inl refl)),
                closed_first whole turn i steps (exit.Table e targets last) (some.list ++ (default.list ++ more.list)) is
                    (record {
                      jumps = λ t o. ⊎_elim (λ f. to_last t f)
                          (λ o. ⊎_elim (λ g. first.0 t (found_one t listed g)) (λ f. to_last t f) (have.all t (one_found t targets o))) o;
                      falls = λ f. absurd cc;
                    })
                    (closed_append whole some.list (default.list ++ more.list) first.1 (closed_append whole default.list more.list second.1 after.1)),
              );
          weighs = (
              let o = own_is turn i steps (exit.Table e targets last) is in let l = some.weighs in let m = default.weighs in let n = more.weighs in
              let f = sum_append own some.list (default.list ++ more.list) in let g = sum_append own default.list more.list in
              omega (arith, o, l, m, n, f, g));
        }
    stands (cycle body behind rest) turn p follow a (h, t, e, m, fit, fits) =
        let one = stands body true (at h) (at h) (inside (at h) behind) fit in let more = stands rest false behind follow a fits in
        record {
          list = one.list ++ more.list;
          begins = λ f. absurd (let g : true ≡ false = sym f ∙ t in cc);
          closed = λ whole in_whole s around.
              let after = more.closed whole (among_right whole one.list more.list in_whole) s around in
              let head : IsOneOf h whole = in_whole h (left_one h one.list more.list (one.begins refl h refl)) in
              let first = one.closed whole (among_left whole one.list more.list in_whole) head (head, after.0) in
              (subst (Served whole) (sym e) head, closed_append whole one.list more.list first.1 after.1);
          weighs = (let f = sum_append own one.list more.list in let l = one.weighs in let n = more.weighs in omega (arith, f, l, n));
        }
    stands (turn_to j rest) turn p follow a (k, t, e, m, fits) =
        let more = stands rest false (selected k) follow a fits in
        record {
          list = more.list;
          begins = λ f. absurd (let g : true ≡ false = sym f ∙ t in cc);
          closed = λ whole in_whole s around.
              let after = more.closed whole in_whole s around in
              (subst (Served whole) (sym e) (after.0 j m), after.1);
          weighs = (let n = more.weighs in omega (arith, n));
        }
    stands (selector labels arms behind rest) turn p follow a (k, t, e, named, each, fits) =
        let some = arm_stand arms (λ n. at n) true (selected k) (inside (selected k) behind) labels
        (λ n o. stands (arms n) true (at n) (selected k) (inside (selected k) behind)
        (each n (arm_mark k (unit.marks n) (sym (named n) ∙ one_found n labels o)))) in
        let more = stands rest false behind follow a fits in
        record {
          list = some.list ++ more.list;
          begins = λ f. absurd (let g : true ≡ false = sym f ∙ t in cc);
          closed = λ whole in_whole s around.
              let after = more.closed whole (among_right whole some.list more.list in_whole) s around in
              let chosen : Served whole (selected k)
              = λ n mark. in_whole n (left_one n some.list more.list
              (some.begins refl n (found_one n labels (named n ∙ mark_arm k (unit.marks n) mark)) n refl)) in
              let first = some.closed whole (among_left whole some.list more.list in_whole) chosen (chosen, after.0) in
              (subst (Served whole) (sym e) chosen, closed_append whole some.list more.list first.1 after.1);
          weighs = (let f = sum_append own some.list more.list in let l = some.weighs in let n = more.weighs in omega (arith, f, l, n));
        }

-- Units

node_of : (nodes : List StNode) (b : ℕ) (ways : Ways) → slice_get (blocks_of (flow_of nodes)) b ≡ Some ways
    → (n : StNode) × (slice_get nodes b ≡ Some n) × (ways_by (way_by n.exit) ≡ ways)
node_of [] b ways e = absurd cc
node_of (n ∷ nodes) zero ways e = (n, refl, same_Some (ways_by (way_by n.exit)) ways e)
node_of (n ∷ nodes) (suc b) ways e = node_of nodes b ways e

module _ (unit : Marked) (list : List ℕ) (starts : IsOneOf 0 list) (closed : Closed unit list list) where
  reached_stands : (b : ℕ) → IsReached (blocks_of (flow_of unit.nodes)) b → IsOneOf b list
  reached_stands b first = starts
  reached_stands b (jump {s} {t} r (ways, e, o)) =
      let (n, there, same) = node_of unit.nodes s ways e in
      (closed s (reached_stands s r) n there).jumps t (subst (λ (ways : Ways). IsOneOf t ways.jumps) (sym same) o)
  reached_stands b (fall {s} r (ways, e, f)) =
      let (n, there, same) = node_of unit.nodes s ways e in
      (closed s (reached_stands s r) n there).falls (ap (λ (ways : Ways). ways.falls) same ∙ f)

-- the region of a unit weighs no less than the steps of all nodes that are reached
pub each_stands : (w : Weights) (unit : Marked) (r : Region) (reached : ℕ → Bool) → Fits unit false r (at 0) out no_loop
    → ((b : ℕ) → reached b ≡ true → IsReached (blocks_of (flow_of unit.nodes)) b)
    → before (λ b. if reached b then steps_at w (slice_get unit.nodes b) else 0) (length unit.nodes) ≤ weight w r
each_stands w unit r reached fits right =
    let all = stands unit w r false (at 0) out no_loop fits in
    let closed = all.closed all.list (λ b o. o) tt tt in
    let l = sum_covered (λ b. steps_at w (slice_get unit.nodes b)) reached all.list
    (λ b e. reached_stands unit all.list closed.0 closed.1 b (right b e)) (length unit.nodes) in
    let m = all.weighs in omega (arith, l, m)
