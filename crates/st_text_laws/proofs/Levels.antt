-- How deep forms nest: the greatest of the levels of their tokens.
use Rattle.std.proofs.Common.{◌≡◌, ℕ, suc, ◌+◌, ◌≤◌, max, List, [], ◌∷◌, arith}
use Rattle.st_grammar.proofs.Common.{Form, literal, variable, group, prefix, infix_of, apply, shift, select, Actuals, no_actual, actual, Labels, label, more_labels, Statement, assign, write, invoke, choice, choice_else, cases, cases_else, loop, jump, Statements, none, empty, further, Arms, no_arm, arm, CaseArms, no_case, case_arm, height, levels, levels_actuals, levels_all, levels_arms, levels_cases, levels_labels, levels_one, AllWithin}

-- the greatest of some levels
abbrev pub greatest : List ℕ → ℕ
greatest [] = 0
greatest (level ∷ others) = max level (greatest others)

pub greatest_within : (most : ℕ) (xs : List ℕ) → AllWithin most xs → greatest xs ≤ most
greatest_within most [] h = omega arith
greatest_within most (x ∷ xs) h = let more : greatest xs ≤ most = greatest_within most xs h.1 in let first : x ≤ most = h.0 in omega arith

pub all_within : (most : ℕ) (xs : List ℕ) → greatest xs ≤ most → AllWithin most xs
all_within most [] h = tt
all_within most (x ∷ xs) h = (omega arith, all_within most xs (omega arith))

-- Expressions

-- how many levels an expression opens
abbrev pub nest : Form → ℕ
nest (literal c) = 0
nest (variable v line) = 0
nest (group f) = 1 + nest f
nest (prefix op f) = 1 + nest f
nest (infix_of op f g) = max (max (nest f) (height f)) (nest g)
nest (apply op f) = 1 + nest f
nest (shift op f g) = 1 + max (nest f) (nest g)
nest (select f g h) = 1 + max (max (nest f) (nest g)) (nest h)

pub top_of : (d : ℕ) (f : Form) (before : List ℕ) → greatest (levels d f before) ≡ max (d + nest f) (greatest before)
top_of d (literal c) before = omega arith
top_of d (variable v line) before = omega arith
top_of d (group f) before = omega (arith, top_of (suc d) f (suc d ∷ before))
top_of d (prefix op f) before = omega (arith, top_of (suc d) f (suc d ∷ before))
top_of d (infix_of op f g) before = omega (arith, top_of d g ((d + height f) ∷ levels d f before), top_of d f before)
top_of d (apply op f) before = omega (arith, top_of (suc d) f (suc d ∷ d ∷ before))
top_of d (shift op f g) before = omega (arith, top_of (suc d) g (suc d ∷ levels (suc d) f (suc d ∷ d ∷ before)), top_of (suc d) f (suc d ∷ d ∷ before))
top_of d (select f g h) before =
    let second : List ℕ = suc d ∷ levels (suc d) f (suc d ∷ d ∷ before) in
    omega (arith, top_of (suc d) h (suc d ∷ levels (suc d) g second), top_of (suc d) g second, top_of (suc d) f (suc d ∷ d ∷ before))

-- Statements

-- the greatest level of the tokens in the brackets of a call, and of labels
abbrev pub top_actuals : ℕ → Actuals → ℕ
top_actuals d no_actual = 0
top_actuals d (actual others name line v place) = d

pub top_of_actuals : (d : ℕ) (a : Actuals) (before : List ℕ) → greatest (levels_actuals d a before) ≡ max (top_actuals d a) (greatest before)
top_of_actuals d no_actual before = omega arith
top_of_actuals d (actual no_actual name line v place) before = omega arith
top_of_actuals d (actual (actual others n l w p) name line v place) before = omega (arith, top_of_actuals d (actual others n l w p) before)

pub top_of_labels : (d : ℕ) (a : Labels) (before : List ℕ) → greatest (levels_labels d a before) ≡ max d (greatest before)
top_of_labels d (label c) before = omega arith
top_of_labels d (more_labels others c) before = omega (arith, top_of_labels d others before)

-- the greatest level of the tokens of statements at a depth
abbrev mutual
  pub top_one : ℕ → Statement → ℕ
  top_one d (assign line v e) = d + nest e
  top_one d (write line w p e) = suc d + max (nest p) (nest e)
  top_one d (invoke line name actuals) = suc d
  top_one d (choice line arms) = max d (top_arms (suc d) arms)
  top_one d (choice_else line arms body) = max (suc d) (max (top_arms (suc d) arms) (top_all (suc d) body))
  top_one d (cases line e arms) = max (suc d + nest e) (top_cases (suc d) arms)
  top_one d (cases_else line e arms body) = max (max (suc d + nest e) (top_cases (suc d) arms)) (top_all (suc d) body)
  top_one d (loop line e body) = max (suc d + nest e) (top_all (suc d) body)
  top_one d (jump line word) = d

  pub top_all : ℕ → Statements → ℕ
  top_all d none = 0
  top_all d (empty others) = max d (top_all d others)
  top_all d (further others s) = max (max d (top_one d s)) (top_all d others)

  pub top_arms : ℕ → Arms → ℕ
  top_arms d no_arm = 0
  top_arms d (arm others e body) = max (max (d + nest e) (top_all d body)) (top_arms d others)

  pub top_cases : ℕ → CaseArms → ℕ
  top_cases d no_case = 0
  top_cases d (case_arm others labels body) = max (max d (top_all d body)) (top_cases d others)

mutual
  pub top_of_one : (d : ℕ) (s : Statement) (before : List ℕ) → greatest (levels_one d s before) ≡ max (top_one d s) (greatest before)
  top_of_one d (assign line v e) before = omega (arith, top_of d e (d ∷ d ∷ before))
  top_of_one d (write line w p e) before =
      omega (arith, top_of (suc d) e (suc d ∷ levels (suc d) p (suc d ∷ d ∷ before)), top_of (suc d) p (suc d ∷ d ∷ before))
  top_of_one d (invoke line name no_actual) before = omega arith
  top_of_one d (invoke line name (actual others n l v p)) before = omega (arith, top_of_actuals (suc d) (actual others n l v p) (suc d ∷ d ∷ before))
  top_of_one d (choice line arms) before = omega (arith, top_of_arms (suc d) arms before)
  top_of_one d (choice_else line arms body) before =
      omega (arith, top_of_all (suc d) body (suc d ∷ levels_arms (suc d) arms before), top_of_arms (suc d) arms before)
  top_of_one d (cases line e arms) before =
      omega (arith, top_of_cases (suc d) arms (suc d ∷ levels (suc d) e (suc d ∷ before)), top_of (suc d) e (suc d ∷ before))
  top_of_one d (cases_else line e arms body) before =
      let inner : List ℕ = suc d ∷ levels (suc d) e (suc d ∷ before) in
      omega (arith, top_of_all (suc d) body (suc d ∷ levels_cases (suc d) arms inner), top_of_cases (suc d) arms inner, top_of (suc d) e (suc d ∷ before))
  top_of_one d (loop line e body) before = omega (arith, top_of_all (suc d) body (suc d ∷ levels (suc d) e (suc d ∷ before)), top_of (suc d) e (suc d ∷ before))
  top_of_one d (jump line word) before = omega arith

  pub top_of_all : (d : ℕ) (b : Statements) (before : List ℕ) → greatest (levels_all d b before) ≡ max (top_all d b) (greatest before)
  top_of_all d none before = omega arith
  top_of_all d (empty others) before = omega (arith, top_of_all d others before)
  top_of_all d (further others s) before = omega (arith, top_of_one d s (levels_all d others before), top_of_all d others before)

  pub top_of_arms : (d : ℕ) (a : Arms) (before : List ℕ) → greatest (levels_arms d a before) ≡ max (top_arms d a) (greatest before)
  top_of_arms d no_arm before = omega arith
  top_of_arms d (arm others e body) before =
      omega
      (arith, top_of_all d body (d ∷ levels d e (d ∷ levels_arms d others before)), top_of d e (d ∷ levels_arms d others before), top_of_arms d others before)

  pub top_of_cases : (d : ℕ) (a : CaseArms) (before : List ℕ) → greatest (levels_cases d a before) ≡ max (top_cases d a) (greatest before)
  top_of_cases d no_case before = omega arith
  top_of_cases d (case_arm others labels body) before =
      let past : List ℕ = levels_cases d others before in
      omega (arith, top_of_all d body (d ∷ levels_labels d labels past), top_of_labels d labels past, top_of_cases d others before)
