-- The nodes of a jump list that have arms of their own: where arms begin after the first one, and where all arms end.
use Rattle.std.proofs.Common.{◌≡◌, ◌≢◌, ◌⊎◌, inl, inr, ⊎_elim, ℕ, suc, ◌<◌, ◌≤◌, ◌==◌, Bool, true, false, ◌||◌, if◌then◌else◌, List, [], ◌∷◌, ◌++◌, refl, sym, ap, ◌∙◌, subst, arith}
use Rattle.std.proofs.lemmas.Bool.{cases_eq, eq-eqb, eqb-true, or_cases, or_left, or_right}
use Rattle.std.proofs.lemmas.Option.{same_Some}
use Rattle.stl_tree.specs.Blocks.{one_of}
use Rattle.stl_tree.specs.Segments.{IsOneOf}
use Rattle.stl_tree.specs.Flows.{GoesOn, Segment, jumps_of}
use Rattle.stl_tree.specs.WellNested.{IsTarget}
use Rattle.nesting_laws.specs.Plans.{Around, IsEndOfArms, IsPlan, Plan, arm, arms, cases, done, list_arms, loop, next, one, skip}
use Rattle.region_laws.specs.Regions.{HaveArms, is_among}
use Rattle.region_plans.specs.PlanRegion.{later_starts, nodes_of, starts_from}

-- Numbers among others

pub among_first : (j : ℕ) (xs : List ℕ) → is_among j (j ∷ xs) ≡ true
among_first j xs = or_left (j == j) (is_among j xs) (eq-eqb j j refl)

pub among_more : (j x : ℕ) (xs : List ℕ) → is_among j xs ≡ true → is_among j (x ∷ xs) ≡ true
among_more j x xs e = or_right (x == j) (is_among j xs) e

pub first_among : (j x : ℕ) (xs : List ℕ) → is_among j (x ∷ xs) ≡ true → (x ≡ j) ⊎ (is_among j xs ≡ true)
first_among j x xs e = ⊎_elim (λ f. inl (eqb-true x j f)) (λ f. inr f) (or_cases (x == j) (is_among j xs) e)

one_among : (j : ℕ) (xs : List ℕ) → IsOneOf j xs → is_among j xs ≡ true
one_among j [] o = absurd o
one_among j (x ∷ xs) (inl e) = or_left (x == j) (is_among j xs) (eq-eqb x j (sym e))
one_among j (x ∷ xs) (inr o) = among_more j x xs (one_among j xs o)

among_one : (j : ℕ) (xs : List ℕ) → is_among j xs ≡ true → IsOneOf j xs
among_one j [] e = absurd cc
among_one j (x ∷ xs) e = ⊎_elim (λ f. inl (sym f)) (λ f. inr (among_one j xs f)) (first_among j x xs e)

append_among : (j : ℕ) (xs ys : List ℕ) → is_among j (xs ++ ys) ≡ true → (is_among j xs ≡ true) ⊎ (is_among j ys ≡ true)
append_among j [] ys e = inr e
append_among j (x ∷ xs) ys e = ⊎_elim
    (λ f. inl (or_left (x == j) (is_among j xs) (eq-eqb x j f)))
    (λ f. ⊎_elim (λ h. inl (among_more j x xs h)) (λ h. inr h) (append_among j xs ys f)) (first_among j x (xs ++ ys) e)

among_left : (j : ℕ) (xs ys : List ℕ) → is_among j xs ≡ true → is_among j (xs ++ ys) ≡ true
among_left j [] ys e = absurd cc
among_left j (x ∷ xs) ys e = ⊎_elim
    (λ f. or_left (x == j) (is_among j (xs ++ ys)) (eq-eqb x j f))
    (λ f. among_more j x (xs ++ ys) (among_left j xs ys f)) (first_among j x xs e)

among_right : (j : ℕ) (xs ys : List ℕ) → is_among j ys ≡ true → is_among j (xs ++ ys) ≡ true
among_right j [] ys e = e
among_right j (x ∷ xs) ys e = among_more j x (xs ++ ys) (among_right j xs ys e)

-- where all arms end, if entries lead there
end_among : (j e : ℕ) (b : Bool) → is_among j (if b then e ∷ [] else []) ≡ true → (j ≡ e) × (b ≡ true)
end_among j e true h = (⊎_elim (λ f. sym f) (λ f. absurd cc) (first_among j e [] h), refl)
end_among j e false h = absurd cc

among_end : (e : ℕ) (b : Bool) → b ≡ true → is_among e (if b then e ∷ [] else []) ≡ true
among_end e true h = among_first e []
among_end e false h = absurd cc

-- a node is one of an arm that is not the first, or the end of all arms, to which entries lead
pub node_cases : (inner : Plan) (e : ℕ) (targets : List ℕ) (j : ℕ) → is_among j (nodes_of inner e targets) ≡ true
    → (is_among j (later_starts inner) ≡ true) ⊎ ((j ≡ e) × (is_among e targets ≡ true))
node_cases inner e targets j h = ⊎_elim (λ f. inl f) (λ f. inr (end_among j e (is_among e targets) f))
    (append_among j (later_starts inner) (if is_among e targets then e ∷ [] else []) h)

-- Arms

-- where an arm of a jump list begins, between a block and the end of all arms
pub record IsStart (g : Segment) (x lo e j : ℕ) : Type 0 where
  pub target : IsTarget g x j
  pub low : lo ≤ j
  pub high : j < e

module _ (g : Segment) (x e : ℕ) (a : Around) where
  pub start_is : (plan : Plan) (turn : Bool) (lo : ℕ) → IsPlan g plan turn lo e e a (list_arms x) → (j : ℕ)
      → is_among j (starts_from plan lo) ≡ true → IsStart g x lo e j
  start_is done turn lo is j h = absurd cc
  start_is (skip rest) turn lo is j h = absurd is.1
  start_is (one rest) turn lo is j h = absurd is.1
  start_is (arm t d inner rest) turn lo is j h = absurd is.1
  start_is (arms t u d inner other rest) turn lo is j h = absurd is.1
  start_is (loop left l body rest) turn lo is j h = absurd is.0
  start_is (cases d inner rest) turn lo is j h = absurd is.1
  start_is (next d inner others) turn lo (same, one_is, is, more) j h =
      let some : lo < d = one_is.some in let within : d ≤ e = one_is.within in
      ⊎_elim
      (λ f. subst (IsStart g x lo e) f (record { target = one_is.begins; low = (omega arith); high = (omega arith) }))
      (λ f. let s = start_is others false d more j f in let low : d ≤ j = s.low in
      record { target = s.target; low = (omega arith); high = s.high })
      (first_among j lo (starts_from others d) h)

  pub all_start : (plan : Plan) (turn : Bool) (lo : ℕ) → IsPlan g plan turn lo e e a (list_arms x) → (j : ℕ)
      → IsTarget g x j → lo ≤ j → j < e → is_among j (starts_from plan lo) ≡ true
  all_start done turn lo is j target low high = absurd (let same : lo ≡ e = is in omega arith)
  all_start (skip rest) turn lo is j target low high = absurd is.1
  all_start (one rest) turn lo is j target low high = absurd is.1
  all_start (arm t d inner rest) turn lo is j target low high = absurd is.1
  all_start (arms t u d inner other rest) turn lo is j target low high = absurd is.1
  all_start (loop left l body rest) turn lo is j target low high = absurd is.0
  all_start (cases d inner rest) turn lo is j target low high = absurd is.1
  all_start (next d inner others) turn lo (same, one_is, is, more) j target low high =
      ⊎_elim
      (λ f. let equal : lo ≡ j = omega arith in or_left (lo == j) (is_among j (starts_from others d)) (eq-eqb lo j equal))
      (λ f. among_more j lo (starts_from others d) (all_start others false d more j target f high))
      (one_is.alone j target)

  -- arms that are not the first begin behind where that begins
  pub later_is : (inner : Plan) (turn : Bool) (lo : ℕ) → IsPlan g inner turn lo e e a (list_arms x) → (j : ℕ)
      → is_among j (later_starts inner) ≡ true → IsStart g x (suc lo) e j
  later_is done turn lo is j h = absurd cc
  later_is (skip rest) turn lo is j h = absurd is.1
  later_is (one rest) turn lo is j h = absurd is.1
  later_is (arm t d inner rest) turn lo is j h = absurd is.1
  later_is (arms t u d inner other rest) turn lo is j h = absurd is.1
  later_is (loop left l body rest) turn lo is j h = absurd is.0
  later_is (cases d inner rest) turn lo is j h = absurd is.1
  later_is (next d inner others) turn lo (same, one_is, is, more) j h =
      let some : lo < d = one_is.some in let s = start_is others false d more j h in let low : d ≤ j = s.low in
      record { target = s.target; low = (omega arith); high = s.high }

  all_later : (inner : Plan) (turn : Bool) (lo : ℕ) → IsPlan g inner turn lo e e a (list_arms x) → (j : ℕ)
      → IsTarget g x j → lo < j → j < e → is_among j (later_starts inner) ≡ true
  all_later done turn lo is j target low high = absurd (let same : lo ≡ e = is in omega arith)
  all_later (skip rest) turn lo is j target low high = absurd is.1
  all_later (one rest) turn lo is j target low high = absurd is.1
  all_later (arm t d inner rest) turn lo is j target low high = absurd is.1
  all_later (arms t u d inner other rest) turn lo is j target low high = absurd is.1
  all_later (loop left l body rest) turn lo is j target low high = absurd is.0
  all_later (cases d inner rest) turn lo is j target low high = absurd is.1
  all_later (next d inner others) turn lo (same, one_is, is, more) j target low high =
      ⊎_elim (λ f. absurd (omega arith)) (λ f. all_start others false d more j target f high) (one_is.alone j target)

  -- the nodes have arms in place of the table
  pub nodes_have_arms : (inner : Plan) → IsPlan g inner false (suc x) e e a (list_arms x)
      → ((t : ℕ) → IsTarget g x t → (x < t) × (t ≤ e)) → IsEndOfArms g x e a → (targets : List ℕ) → targets ≢ []
      → GoesOn g x (one_of targets (suc x)) → HaveArms targets (suc x) (nodes_of inner e targets)
  nodes_have_arms inner is after ends targets entries goes = record { any = any; some = some; all = all }
    where
      entry : (j : ℕ) → IsTarget g x j → suc x < j → is_among j targets ≡ true
      entry j target y =
          let (way, same, o) = target.jump in
          let ways : way ≡ one_of targets (suc x) = same_Some way (one_of targets (suc x)) (sym same.1 ∙ goes.1) in
          ⊎_elim (λ f. absurd (omega arith)) (λ f. one_among j targets f) (subst (λ way. IsOneOf j (jumps_of way)) ways o)

      some : (j : ℕ) → is_among j (nodes_of inner e targets) ≡ true → is_among j targets ≡ true
      some j h = ⊎_elim
          (λ f. let s = later_is inner false (suc x) is j f in let low : suc (suc x) ≤ j = s.low in entry j s.target (omega arith))
          (λ (f, b). ap (λ j. is_among j targets) f ∙ b) (node_cases inner e targets j h)

      all : (j : ℕ) → is_among j targets ≡ true → (is_among j (nodes_of inner e targets) ≡ true) ⊎ (j ≡ suc x)
      all j h =
          let target : IsTarget g x j = record { list = (targets, suc x, goes); jump = (one_of targets (suc x), goes, inr (among_one j targets h)) } in
          let (y, z) = after j target in
          ⊎_elim (λ f. inr f)
          (λ n. inl (⊎_elim
          (λ f. among_right j (later_starts inner) (if is_among e targets then e ∷ [] else [])
          (ap (λ j. is_among j (if is_among e targets then e ∷ [] else [])) f
          ∙ among_end e (is_among e targets) (ap (λ j. is_among j targets) (sym f) ∙ h)))
          (λ m. among_left j (later_starts inner) (if is_among e targets then e ∷ [] else [])
          (all_later inner false (suc x) is j target (omega arith) (omega arith))) (cases_eq j e)))
          (cases_eq j (suc x))

      -- a target but the label is among the nodes; where there is none, all arms end at the label
      none_among : (j : ℕ) → nodes_of inner e targets ≡ [] → is_among j (nodes_of inner e targets) ≡ true → ⊥
      none_among j none h = absurd (let wrong : is_among j [] ≡ true = ap (is_among j) (sym none) ∙ h in cc)

      target_among : (t : ℕ) → IsTarget g x t → suc x < t → is_among t (nodes_of inner e targets) ≡ true
      target_among t target y = ⊎_elim (λ f. f) (λ f. absurd (omega arith)) (all t (entry t target y))

      label_only : nodes_of inner e targets ≡ [] → e ≡ suc x
      label_only none = by ends
        where
          by : IsEndOfArms g x e a → e ≡ suc x
          by (inl target) = let (y, z) = after e target in
              ⊎_elim (λ f. f) (λ n. absurd (none_among e none (target_among e target (omega arith)))) (cases_eq e (suc x))
          by (inr (s, t, target, y, z, jump, stays, free)) = absurd (none_among t none (target_among t target (omega arith)))

      any : nodes_of inner e targets ≢ []
      any none = by targets refl
        where
          by : (ts : List ℕ) → ts ≡ targets → ⊥
          by [] same = entries (sym same)
          by (t ∷ ts) same =
              let first : is_among t targets ≡ true = ap (is_among t) (sym same) ∙ among_first t ts in
              ⊎_elim (λ f. none_among t none f)
              (λ f. none_among e none (among_right e (later_starts inner) (if is_among e targets then e ∷ [] else [])
              (among_end e (is_among e targets) (ap (λ j. is_among j targets) (label_only none ∙ sym f) ∙ first)))) (all t first)
