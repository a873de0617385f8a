-- What is counted of what is made of statements is no more than what is counted of them.
use Rattle.std.proofs.Common.{◌≡◌, ℕ, suc, ◌+◌, ◌-◌, ◌≤◌, if◌then◌else◌, List, [], ◌∷◌, ◌++◌, length, length-append, Option, refl, ap, ◌∙◌, arith}
use Rattle.std.specs.Prelude.{flat_map}
use Rattle.std.proofs.lemmas.List.Sums.{sum_by-append}
use Rattle.condition_laws.specs.inner.Negation.{negation}
use Rattle.condition_laws.specs.inner.Rewriting.{otherwise}
use Rattle.condition_laws.proofs.Rewrites.{Rules, arms_with, bodies, cases_with, handed_on}
use Rattle.st_tree.proofs.Induction.{Each}
use Rattle.st_tree.specs.BodyParts.{statements_in}
use Rattle.st_tree.specs.declared.expr.Expr.{Expr}
use Rattle.st_tree.specs.declared.program.Arm.{Arm}
use Rattle.st_tree.specs.declared.program.CaseArm.{CaseArm}
use Rattle.st_tree.specs.declared.program.Stmt.{Stmt, out-Stmt}
use Rattle.st_tree.specs.declared.program.Stmt.TheOpen as S
use Rattle.st_tree.specs.declared.program.Stmt.TheVariants as stmt
use Rattle.text_shapes.proofs.Counting.{Layer, count_append, count_first, own_sum}
use Rattle.text_shapes.specs.Shape.{count_in, is_selector, loops, one_if_any, other_cases, selector_arms, selector_cases, tests}

-- what is asked of a count
record CountRules (count : Layer → ℕ) : Type 0 where
  choice : (g : List Stmt → List Stmt) (arms : List Arm) (other new : List Stmt) → count (S.If (arms_with g arms) new) ≡ count (S.If arms other)
  selection : (g : List Stmt → List Stmt) (e : Expr) (arms : List CaseArm) (other new : List Stmt) → length new ≡ length other
      → count (S.Case e (cases_with g arms) new) ≡ count (S.Case e arms other)
  loop : (s t : Expr) (body new : List Stmt) → count (S.While t new) ≡ count (S.While s body)
  join : (arms more : List Arm) (other last : List Stmt) → count (S.If (arms ++ more) last) ≤ count (S.If arms other) + count (S.If more last)
  rest : (arm : Arm) (more : List Arm) (other : List Stmt) → count (S.If more other) ≤ count (S.If (arm ∷ more) other)

module _ (count : Layer → ℕ) (rules : CountRules count) where
  -- what is counted in the arms of an IF
  abbrev in_arms : List Arm → ℕ
  in_arms arms = own_sum count (flat_map (λ (arm : Arm). statements_in arm.body) arms)

  abbrev in_cases : List CaseArm → ℕ
  in_cases arms = own_sum count (flat_map (λ (arm : CaseArm). statements_in arm.body) arms)

  sums : (xs ys : List Stmt) → own_sum count (xs ++ ys) ≡ own_sum count xs + own_sum count ys
  sums xs ys = sum_by-append (λ (x : Stmt). count (out-Stmt x)) xs ys

  arms_first : (x : Arm) (xs : List Arm) → in_arms (x ∷ xs) ≡ count_in count x.body + in_arms xs
  arms_first x xs = sums (statements_in x.body) (flat_map (λ (arm : Arm). statements_in arm.body) xs)

  cases_first : (x : CaseArm) (xs : List CaseArm) → in_cases (x ∷ xs) ≡ count_in count x.body + in_cases xs
  cases_first x xs = sums (statements_in x.body) (flat_map (λ (arm : CaseArm). statements_in arm.body) xs)

  arms_append : (xs ys : List Arm) → in_arms (xs ++ ys) ≡ in_arms xs + in_arms ys
  arms_append [] ys = omega arith
  arms_append (x ∷ xs) ys =
      let whole : in_arms (x ∷ xs ++ ys) ≡ count_in count x.body + in_arms (xs ++ ys) = arms_first x (xs ++ ys) in
      let first : in_arms (x ∷ xs) ≡ count_in count x.body + in_arms xs = arms_first x xs in
      let more : in_arms (xs ++ ys) ≡ in_arms xs + in_arms ys = arms_append xs ys in
      omega arith

  if_count : (arms : List Arm) (other rest : List Stmt)
      → count_in count (stmt.If arms other ∷ rest) ≡ count (S.If arms other) + (in_arms arms + count_in count other) + count_in count rest
  if_count arms other rest =
      let first = count_first count (S.If arms other) (stmt.If arms other) (stmt.rolls-If arms other) rest in
      let inner : own_sum count (flat_map (λ (arm : Arm). statements_in arm.body) arms ++ statements_in other) ≡ in_arms arms + count_in count other
      = sums (flat_map (λ (arm : Arm). statements_in arm.body) arms) (statements_in other) in
      first ∙ ap (λ (n : ℕ). count (S.If arms other) + n + count_in count rest) inner

  case_count : (e : Expr) (arms : List CaseArm) (other rest : List Stmt)
      → count_in count (stmt.Case e arms other ∷ rest)
      ≡ count (S.Case e arms other) + (in_cases arms + count_in count other) + count_in count rest
  case_count e arms other rest =
      let first = count_first count (S.Case e arms other) (stmt.Case e arms other) (stmt.rolls-Case e arms other) rest in
      let inner : own_sum count (flat_map (λ (arm : CaseArm). statements_in arm.body) arms ++ statements_in other) ≡ in_cases arms + count_in count other
      = sums (flat_map (λ (arm : CaseArm). statements_in arm.body) arms) (statements_in other) in
      first ∙ ap (λ (n : ℕ). count (S.Case e arms other) + n + count_in count rest) inner

  while_count : (test : Expr) (body rest : List Stmt)
      → count_in count (stmt.While test body ∷ rest) ≡ count (S.While test body) + count_in count body + count_in count rest
  while_count test body rest = count_first count (S.While test body) (stmt.While test body) (stmt.rolls-While test body) rest

  none_counted : count_in count [] ≡ 0
  none_counted = refl

  -- there are as many statements, and no more is counted
  abbrev NoMore : ℕ → List Stmt → List Stmt → Type 0
  NoMore room xs ys = (length ys ≡ length xs) × (count_in count ys ≤ count_in count xs)

  arms_no_more : (room : ℕ) (g : List Stmt → List Stmt) (arms : List Arm) → Each (λ (arm : Arm). NoMore room arm.body (g arm.body)) arms
      → in_arms (arms_with g arms) ≤ in_arms arms
  arms_no_more room g [] all = omega arith
  arms_no_more room g (x ∷ xs) all =
      let old : in_arms (x ∷ xs) ≡ count_in count x.body + in_arms xs = arms_first x xs in
      let new : in_arms (arms_with g (x ∷ xs)) ≡ count_in count (g x.body) + in_arms (arms_with g xs)
      = arms_first (record { test = x.test; body = g x.body }) (arms_with g xs) in
      let own : count_in count (g x.body) ≤ count_in count x.body = all.0.1 in
      let rest : in_arms (arms_with g xs) ≤ in_arms xs = arms_no_more room g xs all.1 in
      omega arith

  cases_no_more : (room : ℕ) (g : List Stmt → List Stmt) (arms : List CaseArm)
      → Each (λ (arm : CaseArm). NoMore room arm.body (g arm.body)) arms → in_cases (cases_with g arms) ≤ in_cases arms
  cases_no_more room g [] all = omega arith
  cases_no_more room g (x ∷ xs) all =
      let old : in_cases (x ∷ xs) ≡ count_in count x.body + in_cases xs = cases_first x xs in
      let new : in_cases (cases_with g (x ∷ xs)) ≡ count_in count (g x.body) + in_cases (cases_with g xs)
      = cases_first (record { labels = x.labels; body = g x.body }) (cases_with g xs) in
      let own : count_in count (g x.body) ≤ count_in count x.body = all.0.1 in
      let rest : in_cases (cases_with g xs) ≤ in_cases xs = cases_no_more room g xs all.1 in
      omega arith

  same : (room : ℕ) (xs : List Stmt) → NoMore room xs xs
  same room xs = (refl, omega arith)

  more_no_more : (room : ℕ) (x y : Stmt) (xs ys : List Stmt) → NoMore room (x ∷ []) (y ∷ []) → NoMore room xs ys → NoMore room (x ∷ xs) (y ∷ ys)
  more_no_more room x y xs ys h k =
      let old : count_in count (x ∷ xs) ≡ count_in count (x ∷ []) + count_in count xs = count_append count (x ∷ []) xs in
      let new : count_in count (y ∷ ys) ≡ count_in count (y ∷ []) + count_in count ys = count_append count (y ∷ []) ys in
      let one : count_in count (y ∷ []) ≤ count_in count (x ∷ []) = h.1 in
      let rest : count_in count ys ≤ count_in count xs = k.1 in
      let long : length ys ≡ length xs = k.0 in
      (omega arith, omega arith)

  choice_no_more : (room : ℕ) (g : List Stmt → List Stmt) (arms : List Arm) (other : List Stmt)
      → Each (λ (arm : Arm). NoMore (room - 1) arm.body (g arm.body)) arms → NoMore (room - 1) other (g other)
      → NoMore room (stmt.If arms other ∷ []) (stmt.If (arms_with g arms) (g other) ∷ [])
  choice_no_more room g arms other all rest =
      let old = if_count arms other [] in
      let new = if_count (arms_with g arms) (g other) [] in
      let own : count (S.If (arms_with g arms) (g other)) ≡ count (S.If arms other) = rules.choice g arms other (g other) in
      let inner : in_arms (arms_with g arms) ≤ in_arms arms = arms_no_more (room - 1) g arms all in
      let last : count_in count (g other) ≤ count_in count other = rest.1 in
      (refl, omega (arith, old, new))

  selection_no_more : (room : ℕ) (g : List Stmt → List Stmt) (e : Expr) (arms : List CaseArm) (other : List Stmt)
      → Each (λ (arm : CaseArm). NoMore (room - 1) arm.body (g arm.body)) arms → NoMore (room - 1) other (g other)
      → NoMore room (stmt.Case e arms other ∷ []) (stmt.Case e (cases_with g arms) (g other) ∷ [])
  selection_no_more room g e arms other all rest =
      let old = case_count e arms other [] in
      let new = case_count e (cases_with g arms) (g other) [] in
      let own : count (S.Case e (cases_with g arms) (g other)) ≡ count (S.Case e arms other) = rules.selection g e arms other (g other) rest.0 in
      let inner : in_cases (cases_with g arms) ≤ in_cases arms = cases_no_more (room - 1) g arms all in
      let last : count_in count (g other) ≤ count_in count other = rest.1 in
      (refl, omega (arith, old, new))

  loop_no_more : (room : ℕ) (g : List Stmt → List Stmt) (test : Expr) (body : List Stmt) → NoMore (room - 1) body (g body)
      → NoMore room (stmt.While test body ∷ []) (stmt.While test (g body) ∷ [])
  loop_no_more room g test body h =
      let old = while_count test body [] in
      let new = while_count test (g body) [] in
      let own : count (S.While test (g body)) ≡ count (S.While test body) = rules.loop test test body (g body) in
      let inner : count_in count (g body) ≤ count_in count body = h.1 in
      (refl, omega (arith, old, new))

  join_no_more : (room : ℕ) (xs : List Stmt) (arms more : List Arm) (last : List Stmt)
      → NoMore room xs (stmt.If arms (stmt.If more last ∷ []) ∷ []) → NoMore room xs (stmt.If (arms ++ more) last ∷ [])
  join_no_more room xs arms more last h =
      let old = if_count arms (stmt.If more last ∷ []) [] in
      let between = if_count more last [] in
      let new = if_count (arms ++ more) last [] in
      let own : count (S.If (arms ++ more) last) ≤ count (S.If arms (stmt.If more last ∷ [])) + count (S.If more last)
      = rules.join arms more (stmt.If more last ∷ []) last in
      let inner : in_arms (arms ++ more) ≡ in_arms arms + in_arms more = arms_append arms more in
      let whole : count_in count (stmt.If arms (stmt.If more last ∷ []) ∷ []) ≤ count_in count xs = h.1 in
      (h.0, omega (arith, old, between, new))

  otherwise_count : (arm : Arm) (more : List Arm) (other : List Stmt)
      → count_in count (otherwise more other) ≤ count (S.If (arm ∷ more) other) + (in_arms more + count_in count other)
  otherwise_count arm [] other = omega arith
  otherwise_count arm (x ∷ xs) other =
      let is = if_count (x ∷ xs) other [] in
      let own : count (S.If (x ∷ xs) other) ≤ count (S.If (arm ∷ x ∷ xs) other) = rules.rest arm (x ∷ xs) other in
      let none : count_in count [] ≡ 0 = none_counted in
      omega (arith, is)

  lead_no_more : (room : ℕ) (xs : List Stmt) (always : Expr) (arm : Arm) (rest : List Stmt)
      → NoMore room xs (stmt.While always (stmt.If (arm ∷ []) (stmt.Exit ∷ []) ∷ rest) ∷ [])
      → NoMore room xs (stmt.While arm.test (arm.body ++ rest) ∷ [])
  lead_no_more room xs always arm rest h =
      let old = while_count always (stmt.If (arm ∷ []) (stmt.Exit ∷ []) ∷ rest) [] in
      let choice = if_count (arm ∷ []) (stmt.Exit ∷ []) rest in
      let arms : in_arms (arm ∷ []) ≡ count_in count arm.body + in_arms [] = arms_first arm [] in
      let new = while_count arm.test (arm.body ++ rest) [] in
      let both : count_in count (arm.body ++ rest) ≡ count_in count arm.body + count_in count rest = count_append count arm.body rest in
      let own : count (S.While arm.test (arm.body ++ rest)) ≡ count (S.While always (stmt.If (arm ∷ []) (stmt.Exit ∷ []) ∷ rest))
      = rules.loop always arm.test (stmt.If (arm ∷ []) (stmt.Exit ∷ []) ∷ rest) (arm.body ++ rest) in
      let whole : count_in count (stmt.While always (stmt.If (arm ∷ []) (stmt.Exit ∷ []) ∷ rest) ∷ []) ≤ count_in count xs = h.1 in
      (h.0, omega (arith, old, choice, new))

  opposite_no_more : (room : ℕ) (xs : List Stmt) (always : Expr) (arm : Arm) (more : List Arm) (other rest : List Stmt)
      → NoMore room xs (stmt.While always (stmt.If (arm ∷ more) other ∷ rest) ∷ [])
      → NoMore room xs (stmt.While (negation arm.test) (otherwise more other ++ rest) ∷ [])
  opposite_no_more room xs always arm more other rest h =
      let old = while_count always (stmt.If (arm ∷ more) other ∷ rest) [] in
      let choice = if_count (arm ∷ more) other rest in
      let arms : in_arms (arm ∷ more) ≡ count_in count arm.body + in_arms more = arms_first arm more in
      let new = while_count (negation arm.test) (otherwise more other ++ rest) [] in
      let both : count_in count (otherwise more other ++ rest) ≡ count_in count (otherwise more other) + count_in count rest
      = count_append count (otherwise more other) rest in
      let tail : count_in count (otherwise more other) ≤ count (S.If (arm ∷ more) other) + (in_arms more + count_in count other)
      = otherwise_count arm more other in
      let own : count (S.While (negation arm.test) (otherwise more other ++ rest)) ≡ count (S.While always (stmt.If (arm ∷ more) other ∷ rest))
      = rules.loop always (negation arm.test) (stmt.If (arm ∷ more) other ∷ rest) (otherwise more other ++ rest) in
      let whole : count_in count (stmt.While always (stmt.If (arm ∷ more) other ∷ rest) ∷ []) ≤ count_in count xs = h.1 in
      (h.0, omega (arith, old, choice, new))

  no_more_rules : Rules NoMore
  no_more_rules =
      record {
        assign = λ room v e. same room (stmt.Assign v e ∷ []);
        area_write = λ room w p e. same room (stmt.AreaWrite w p e ∷ []);
        invoke = λ room n vars. same room (stmt.Invoke n vars ∷ []);
        exit = λ room. same room (stmt.Exit ∷ []);
        continue = λ room. same room (stmt.Continue ∷ []);
        return = λ room. same room (stmt.Return ∷ []);
        none = λ room. same room [];
        more = more_no_more;
        choice = choice_no_more;
        selection = selection_no_more;
        loop = loop_no_more;
        join = join_no_more;
        lead = λ room xs always arm rest a some high h. lead_no_more room xs always arm rest h;
        opposite = λ room xs always arm more other rest a some high is h. opposite_no_more room xs always arm more other rest h;
      }

  no_more : (room : ℕ) (body : List Stmt) → count_in count (bodies room body) ≤ count_in count body
  no_more room body = (handed_on NoMore no_more_rules room body).1

-- Each count

arms_long : (g : List Stmt → List Stmt) (arms : List Arm) → length (arms_with g arms) ≡ length arms
arms_long g [] = refl
arms_long g (x ∷ xs) = ap suc (arms_long g xs)

cases_long : (g : List Stmt → List Stmt) (arms : List CaseArm) → length (cases_with g arms) ≡ length arms
cases_long g [] = refl
cases_long g (x ∷ xs) = ap suc (cases_long g xs)

any_alike : (xs ys : List Stmt) → length ys ≡ length xs → one_if_any ys ≡ one_if_any xs
any_alike [] [] h = refl
any_alike (x ∷ xs) (y ∷ ys) h = refl
any_alike xs ys h = cc

loops_count : CountRules loops
loops_count =
    record {
      choice = λ g arms other new. refl;
      selection = λ g e arms other new h. refl;
      loop = λ s t body new. refl;
      join = λ arms more other last. omega arith;
      rest = λ arm more other. omega arith;
    }

tests_count : CountRules tests
tests_count =
    record {
      choice = λ g arms other new. arms_long g arms;
      selection = λ g e arms other new h. refl;
      loop = λ s t body new. refl;
      join = λ arms more other last. let long : length (arms ++ more) ≡ length arms + length more = length-append arms more in omega arith;
      rest = λ arm more other. omega arith;
    }

selectors_count : (next : Option ℕ) → CountRules (selector_cases next)
selectors_count next =
    record {
      choice = λ g arms other new. refl;
      selection = λ g e arms other new h. refl;
      loop = λ s t body new. refl;
      join = λ arms more other last. omega arith;
      rest = λ arm more other. omega arith;
    }

others_count : (next : Option ℕ) → CountRules (other_cases next)
others_count next =
    record {
      choice = λ g arms other new. refl;
      selection = λ g e arms other new h. refl;
      loop = λ s t body new. refl;
      join = λ arms more other last. omega arith;
      rest = λ arm more other. omega arith;
    }

arms_count : (next : Option ℕ) → CountRules (selector_arms next)
arms_count next =
    record {
      choice = λ g arms other new. refl;
      selection = λ g e arms other new h.
          ap (λ (n : ℕ). if is_selector next e then n + one_if_any new else 0) (cases_long g arms)
          ∙ ap (λ (n : ℕ). if is_selector next e then length arms + n else 0) (any_alike other new h);
      loop = λ s t body new. refl;
      join = λ arms more other last. omega arith;
      rest = λ arm more other. omega arith;
    }

pub loops_stay : (room : ℕ) (body : List Stmt) → count_in loops (bodies room body) ≤ count_in loops body
loops_stay = no_more loops loops_count

pub tests_stay : (room : ℕ) (body : List Stmt) → count_in tests (bodies room body) ≤ count_in tests body
tests_stay = no_more tests tests_count

pub selectors_stay : (next : Option ℕ) (room : ℕ) (body : List Stmt)
    → count_in (selector_cases next) (bodies room body) ≤ count_in (selector_cases next) body
selectors_stay next = no_more (selector_cases next) (selectors_count next)

pub arms_stay : (next : Option ℕ) (room : ℕ) (body : List Stmt)
    → count_in (selector_arms next) (bodies room body) ≤ count_in (selector_arms next) body
arms_stay next = no_more (selector_arms next) (arms_count next)

pub others_stay : (next : Option ℕ) (room : ℕ) (body : List Stmt)
    → count_in (other_cases next) (bodies room body) ≤ count_in (other_cases next) body
others_stay next = no_more (other_cases next) (others_count next)
