-- What holds of the canonical forms of well typed statements, and of a list of them with one more; and the form of a
-- statement, which is made of those of its parts.
use Rattle.st_tree.proofs.Common.{◌≡◌, ℕ, ◌+◌, ◌≤◌, Bool, true, List, [], ◌∷◌, map, Some, sym, ap, subst, ◌∙◌, Line, greatest, arm_nesting, body_nesting, case_nesting, nesting, is_some_of, Names}
use Rattle.st_grammar.proofs.Common.{Statement, Statements, Arms, CaseArms, AllFit, ArmsFit, CasesFit, Fits, HasArm, HasCase, spell_all, spell_arms, spell_cases, spell_one, tree_all, tree_arms, tree_cases, tree_one}
use Rattle.st_reading_laws.proofs.Bounds.{bound, bound_all, bound_arms, bound_cases}
use Rattle.st_text_laws.proofs.Levels.{top_all, top_arms, top_cases, top_one}
use Rattle.st_reading_laws.proofs.Parts.{AreSound}
use Rattle.st_text_laws.proofs.Spells.{Spells}
use Rattle.st_rules.proofs.Common.{sound, calls_of, arms_on, case_arms_on, statement, statements}
use Rattle.st_rules.specs.Statements.{arm as arm_in, case_arm as case_arm_in}
use Rattle.st_names.specs.declared.scope.NameScope.{NameScope}
use Rattle.st_tree.proofs.CalledMost.{called_in_arm, called_in_case, called_most}
use Rattle.st_lexer.proofs.Common.{StType, Arm, fold_out-Arm, CaseArm, fold_out-CaseArm, Stmt, fold-roll-Stmt, map-Stmt, roll-Stmt}
use Rattle.st_text_laws.specs.Canonical.{ArmFromLine, CaseFromLine, FromLine, arm_from, case_from, statement_from}
use Rattle.st_text_laws.specs.Canonical as canonical
use Rattle.st_tree.specs.declared.program.Stmt.TheOpen as S

-- a form that means this statement, is of the language, nests no deeper, and calls no dearer units
module _ (s : NameScope) (inside : Bool) where
  pub record GoodOne (x : Stmt) (c : Statement) : Type 0 where
    pub means : statement s (tree_one c) ≡ sound x
    pub fits : Fits inside c
    pub spelled : Spells (spell_one c)
    pub low : (d : ℕ) → top_one d c ≤ d + nesting x
    pub calls : (f : ℕ → ℕ) → bound f (calls_of s (tree_one c)) ≤ called_most f (x ∷ [])

  pub record GoodAll (xs : List Stmt) (c : Statements) : Type 0 where
    pub means : AreSound (statements s (tree_all c)) xs
    pub fits : AllFit inside c
    pub spelled : Spells (spell_all c)
    pub low : (d : ℕ) → top_all d c ≤ d + body_nesting xs
    pub calls : (f : ℕ → ℕ) → bound_all f s (tree_all c) ≤ called_most f xs

  pub record GoodArms (m : Line) (xs : List Arm) (c : Arms) : Type 0 where
    pub means : AreSound (arms_on m (map (arm_in s) (tree_arms c))) xs
    pub fits : ArmsFit inside c
    pub some : is_some_of xs ≡ true → HasArm c
    pub spelled : (line : Line) → Spells (spell_arms line c)
    pub low : (d : ℕ) → top_arms d c ≤ d + greatest (map arm_nesting xs)
    pub calls : (f : ℕ → ℕ) → bound_arms f s (tree_arms c) ≤ greatest (map (called_in_arm f) xs)

  pub record GoodCases (m : Line) (ty : StType) (xs : List CaseArm) (c : CaseArms) : Type 0 where
    pub means : AreSound (case_arms_on m (Some ty) (map (case_arm_in s) (tree_cases c))) xs
    pub fits : CasesFit inside c
    pub some : is_some_of xs ≡ true → HasCase c
    pub spelled : Spells (spell_cases c)
    pub low : (d : ℕ) → top_cases d c ≤ d + greatest (map case_nesting xs)
    pub calls : (f : ℕ → ℕ) → bound_cases f s (tree_cases c) ≤ greatest (map (called_in_case f) xs)

-- The form of a statement and of an arm is made of those of their parts

module _ (names : Names) where
  abbrev step_at : S.Stmt-F Stmt Arm CaseArm → FromLine
  step_at y = canonical.statement_step names
      (map-Stmt Stmt Arm CaseArm FromLine ArmFromLine CaseFromLine (statement_from names) (arm_from names)
      (case_from names) y)

  pub good_at : {s : NameScope} {inside : Bool} {x : Stmt} (y : S.Stmt-F Stmt Arm CaseArm) → roll-Stmt y ≡ x → (k : ℕ)
      → GoodOne s inside x (step_at y k).0 → GoodOne s inside x (statement_from names x k).0
  good_at {s} {inside} {x} y e k g = subst (λ (f : FromLine). GoodOne s inside x (f k).0)
      (sym (ap (statement_from names) (sym e) ∙ fold-roll-Stmt _ _ _ _ _ _ y)) g

  pub from_arm : (a : Arm) → arm_from names a
      ≡ canonical.arm_step names (record { test = a.test; body = map (statement_from names) a.body })
  from_arm a = fold_out-Arm _ _ _ _ _ _ a

  pub from_case_arm : (a : CaseArm)
      → case_from names a ≡ canonical.case_step (record { labels = a.labels; body = map (statement_from names) a.body })
  from_case_arm a = fold_out-CaseArm _ _ _ _ _ _ a
