-- What each statement of a body keeps to, each statement of what is made of it keeps to: the use of the selector, and
-- expressions that are low.
use Rattle.std.proofs.Common.{◌≡◌, ℕ, ◌-◌, ◌≤◌, List, [], ◌∷◌, ◌++◌, append-nil, map, Option, Some, None, refl, sym, ap, ◌∙◌, subst}
use Rattle.std.specs.Prelude.{All, flat_map}
use Rattle.std.proofs.lemmas.List.{map-append}
use Rattle.std.proofs.lemmas.List.Elements.{All-append, All-cons, All-head, All-nil, All-tail}
use Rattle.condition_laws.specs.NoLarger.{AreLow}
use Rattle.condition_laws.specs.inner.Negation.{negation, negation_between, negation_step, opposite}
use Rattle.condition_laws.specs.inner.Rewriting.{otherwise}
use Rattle.condition_laws.proofs.Heights.{rolled}
use Rattle.condition_laws.proofs.Rewrites.{Rules, arms_with, bodies, cases_with, handed_on}
use Rattle.st_tree.proofs.Induction.{Each}
use Rattle.st_tree.proofs.PartEquations.{inner_bodies, inner_rolled, reads_of_binary, reads_of_unary}
use Rattle.st_tree.specs.BodyParts.{expressions_step, height, inner_statements, reads_of, statements_in}
use Rattle.st_tree.specs.declared.expr.BinaryOp.{BinaryOp}
use Rattle.st_tree.specs.declared.expr.Expr.{Expr, out-Expr}
use Rattle.st_tree.specs.declared.expr.Expr.TheOpen as E
use Rattle.st_tree.specs.declared.expr.Expr.TheVariants as expr
use Rattle.st_tree.specs.declared.expr.UnaryOp.TheVariants as unary
use Rattle.st_tree.specs.declared.program.Arm.{Arm}
use Rattle.st_tree.specs.declared.program.CaseArm.{CaseArm}
use Rattle.st_tree.specs.declared.program.Stmt.{Stmt, out-Stmt, out-roll-Stmt, roll-Stmt}
use Rattle.st_tree.specs.declared.program.Stmt.TheOpen as S
use Rattle.st_tree.specs.declared.program.Stmt.TheVariants as stmt
use Rattle.text_shapes.specs.Shape.{AreOthers, KeepSelector, KeepsLocal, KeepsSelector}

abbrev pub Layer : Type 0
Layer = S.Stmt-F Stmt Arm CaseArm

-- the tests of the arms of an IF
abbrev tests_of : List Arm → List Expr
tests_of arms = map (λ (arm : Arm). arm.test) arms

tests_with : (g : List Stmt → List Stmt) (arms : List Arm) → tests_of (arms_with g arms) ≡ tests_of arms
tests_with g [] = refl
tests_with g (x ∷ xs) = ap (λ (es : List Expr). x.test ∷ es) (tests_with g xs)

pub split : {A : Type 0} (P : A → Type 0) (xs ys : List A) → All P (xs ++ ys) → All P xs × All P ys
split P [] ys h = (All-nil P, h)
split P (x ∷ xs) ys h =
    let more = split P xs ys (All-tail P x (xs ++ ys) h) in (All-cons P x xs (All-head P x (xs ++ ys) h) more.0, more.1)

-- what is asked of what a statement keeps to
record KeepRules (P : Layer → Type 0) : Type 0 where
  choice : (g : List Stmt → List Stmt) (arms : List Arm) (other new : List Stmt) → P (S.If arms other) → P (S.If (arms_with g arms) new)
  selection : (e : Expr) (arms made : List CaseArm) (other new : List Stmt) → P (S.Case e arms other) → P (S.Case e made new)
  loop : (test : Expr) (body new : List Stmt) → P (S.While test body) → P (S.While test new)
  join : (arms more : List Arm) (other last : List Stmt) → P (S.If arms other) → P (S.If more last) → P (S.If (arms ++ more) last)
  rest : (arm : Arm) (more : List Arm) (other : List Stmt) → P (S.If (arm ∷ more) other) → P (S.If more other)
  lead : (arm : Arm) (other body : List Stmt) → P (S.If (arm ∷ []) other) → P (S.While arm.test body)
  opposite : (arm : Arm) (more : List Arm) (other body : List Stmt) → height (negation arm.test) ≤ 32 → P (S.If (arm ∷ more) other)
      → P (S.While (negation arm.test) body)

module _ (P : Layer → Type 0) where
  abbrev pub Own : Stmt → Type 0
  Own x = P (out-Stmt x)

  -- each statement of a body, at every depth
  abbrev pub Keep : List Stmt → Type 0
  Keep body = All Own (statements_in body)

  own_is : (y : Layer) (x : Stmt) → roll-Stmt y ≡ x → out-Stmt x ≡ y
  own_is y x e = ap out-Stmt (sym e) ∙ out-roll-Stmt y

  inner_is : (y : Layer) (x : Stmt) → roll-Stmt y ≡ x → inner_statements x ≡ inner_bodies y
  inner_is y x e = ap inner_statements (sym e) ∙ inner_rolled y

  pub parts : (y : Layer) (x : Stmt) → roll-Stmt y ≡ x → (rest : List Stmt) → Keep (x ∷ rest)
      → P y × All Own (inner_bodies y) × Keep rest
  parts y x e rest h =
      let both = split Own (x ∷ inner_statements x) (statements_in rest) h in (
        subst P (own_is y x e) (All-head Own x (inner_statements x) both.0),
        subst (All Own) (inner_is y x e) (All-tail Own x (inner_statements x) both.0),
        both.1,
      )

  pub made : (y : Layer) (x : Stmt) → roll-Stmt y ≡ x → P y → All Own (inner_bodies y) → Keep (x ∷ [])
  made y x e h k =
      subst (All Own) (sym (append-nil (x ∷ inner_statements x)))
      (All-cons Own x (inner_statements x) (subst P (sym (own_is y x e)) h) (subst (All Own) (sym (inner_is y x e)) k))

  pub first_and : (x : Stmt) (rest : List Stmt) → Keep (x ∷ rest) → Keep (x ∷ []) × Keep rest
  first_and x rest h =
      let both = split Own (x ∷ inner_statements x) (statements_in rest) h in
      (subst (All Own) (sym (append-nil (x ∷ inner_statements x))) both.0, both.1)

  pub more_of : (x : Stmt) (rest : List Stmt) → Keep (x ∷ []) → Keep rest → Keep (x ∷ rest)
  more_of x rest h k =
      All-append Own (x ∷ inner_statements x) (statements_in rest) (subst (All Own) (append-nil (x ∷ inner_statements x)) h) k

  pub both_keep : (xs ys : List Stmt) → Keep xs → Keep ys → Keep (xs ++ ys)
  both_keep [] ys h k = k
  both_keep (x ∷ xs) ys h k = let both = first_and x xs h in more_of x (xs ++ ys) both.0 (both_keep xs ys both.1 k)

  abbrev pub InArms : List Arm → Type 0
  InArms arms = All Own (flat_map (λ (arm : Arm). statements_in arm.body) arms)

  abbrev pub InCases : List CaseArm → Type 0
  InCases arms = All Own (flat_map (λ (arm : CaseArm). statements_in arm.body) arms)

  pub append_arms : (xs ys : List Arm) → InArms xs → InArms ys → InArms (xs ++ ys)
  append_arms [] ys h k = k
  append_arms (x ∷ xs) ys h k =
      let both = split Own (statements_in x.body) (flat_map (λ (arm : Arm). statements_in arm.body) xs) h in
      All-append Own (statements_in x.body) (flat_map (λ (arm : Arm). statements_in arm.body) (xs ++ ys)) both.0 (append_arms xs ys both.1 k)

  -- an IF
  pub record IfParts (arms : List Arm) (other : List Stmt) : Type 0 where
    pub own : P (S.If arms other)
    pub inside : InArms arms
    pub last : Keep other

  pub if_parts : (arms : List Arm) (other rest : List Stmt) → Keep (stmt.If arms other ∷ rest) → IfParts arms other × Keep rest
  if_parts arms other rest h =
      let all = parts (S.If arms other) (stmt.If arms other) (stmt.rolls-If arms other) rest h in
      let both = split Own (flat_map (λ (arm : Arm). statements_in arm.body) arms) (statements_in other) all.1 in
      (record { own = all.0; inside = both.0; last = both.1 }, all.2)

  pub if_made : (arms : List Arm) (other : List Stmt) → IfParts arms other → Keep (stmt.If arms other ∷ [])
  if_made arms other h =
      made (S.If arms other) (stmt.If arms other) (stmt.rolls-If arms other) h.own
      (All-append Own (flat_map (λ (arm : Arm). statements_in arm.body) arms) (statements_in other) h.inside h.last)

  pub while_parts : (test : Expr) (body : List Stmt) → Keep (stmt.While test body ∷ []) → P (S.While test body) × Keep body
  while_parts test body h = let all = parts (S.While test body) (stmt.While test body) (stmt.rolls-While test body) [] h in (all.0, all.1)

  pub while_made : (test : Expr) (body : List Stmt) → P (S.While test body) → Keep body → Keep (stmt.While test body ∷ [])
  while_made test body h k = made (S.While test body) (stmt.While test body) (stmt.rolls-While test body) h k

  module _ (rules : KeepRules P) where
    -- what is handed on
    abbrev Keeps : ℕ → List Stmt → List Stmt → Type 0
    Keeps room xs ys = Keep xs → Keep ys

    arms_keep : (room : ℕ) (g : List Stmt → List Stmt) (arms : List Arm) → Each (λ (arm : Arm). Keeps room arm.body (g arm.body)) arms
        → InArms arms → InArms (arms_with g arms)
    arms_keep room g [] all h = h
    arms_keep room g (x ∷ xs) all h =
        let both = split Own (statements_in x.body) (flat_map (λ (arm : Arm). statements_in arm.body) xs) h in
        All-append Own (statements_in (g x.body)) (flat_map (λ (arm : Arm). statements_in arm.body) (arms_with g xs))
        (all.0 both.0) (arms_keep room g xs all.1 both.1)

    cases_keep : (room : ℕ) (g : List Stmt → List Stmt) (arms : List CaseArm)
        → Each (λ (arm : CaseArm). Keeps room arm.body (g arm.body)) arms → InCases arms → InCases (cases_with g arms)
    cases_keep room g [] all h = h
    cases_keep room g (x ∷ xs) all h =
        let both = split Own (statements_in x.body) (flat_map (λ (arm : CaseArm). statements_in arm.body) xs) h in
        All-append Own (statements_in (g x.body)) (flat_map (λ (arm : CaseArm). statements_in arm.body) (cases_with g xs))
        (all.0 both.0) (cases_keep room g xs all.1 both.1)

    otherwise_keeps : (arm : Arm) (more : List Arm) (other : List Stmt) → IfParts (arm ∷ more) other → Keep (otherwise more other)
    otherwise_keeps arm [] other h = h.last
    otherwise_keeps arm (x ∷ xs) other h =
        let both = split Own (statements_in arm.body) (flat_map (λ (arm : Arm). statements_in arm.body) (x ∷ xs)) h.inside in
        if_made (x ∷ xs) other (record { own = rules.rest arm (x ∷ xs) other h.own; inside = both.1; last = h.last })

    keep_rules : Rules Keeps
    keep_rules =
        record {
          assign = λ room v e h. h;
          area_write = λ room w p e h. h;
          invoke = λ room n vars h. h;
          exit = λ room h. h;
          continue = λ room h. h;
          return = λ room h. h;
          none = λ room h. h;
          more = λ room x y xs ys h k keep. let both = first_and x xs keep in more_of y ys (h both.0) (k both.1);
          choice = λ room g arms other all rest keep.
              let old = (if_parts arms other [] keep).0 in
              if_made (arms_with g arms) (g other)
              (record {
                own = rules.choice g arms other (g other) old.own;
                inside = arms_keep (room - 1) g arms all old.inside;
                last = rest old.last;
              });
          selection = λ room g e arms other all rest keep.
              let old = parts (S.Case e arms other) (stmt.Case e arms other) (stmt.rolls-Case e arms other) [] keep in
              let both = split Own (flat_map (λ (arm : CaseArm). statements_in arm.body) arms) (statements_in other) old.1 in
              made (S.Case e (cases_with g arms) (g other)) (stmt.Case e (cases_with g arms) (g other)) (stmt.rolls-Case e (cases_with g arms) (g other))
              (rules.selection e arms (cases_with g arms) other (g other) old.0)
              (All-append Own (flat_map (λ (arm : CaseArm). statements_in arm.body) (cases_with g arms)) (statements_in (g other))
              (cases_keep (room - 1) g arms all both.0) (rest both.1));
          loop = λ room g test body h keep.
              let old = while_parts test body keep in
              while_made test (g body) (rules.loop test body (g body) old.0) (h old.1);
          join = λ room xs arms more last h keep.
              let old = (if_parts arms (stmt.If more last ∷ []) [] (h keep)).0 in
              let between = (if_parts more last [] old.last).0 in
              if_made (arms ++ more) last
              (record {
                own = rules.join arms more (stmt.If more last ∷ []) last old.own between.own;
                inside = append_arms arms more old.inside between.inside;
                last = between.last;
              });
          lead = λ room xs always arm rest a some high h keep.
              let old = while_parts always (stmt.If (arm ∷ []) (stmt.Exit ∷ []) ∷ rest) (h keep) in
              let choice = if_parts (arm ∷ []) (stmt.Exit ∷ []) rest old.1 in
              let body = split Own (statements_in arm.body) [] choice.0.inside in
              while_made arm.test (arm.body ++ rest) (rules.lead arm (stmt.Exit ∷ []) (arm.body ++ rest) choice.0.own)
              (both_keep arm.body rest body.0 choice.1);
          opposite = λ room xs always arm more other rest a some high is h keep.
              let old = while_parts always (stmt.If (arm ∷ more) other ∷ rest) (h keep) in
              let choice = if_parts (arm ∷ more) other rest old.1 in
              while_made (negation arm.test) (otherwise more other ++ rest)
              (rules.opposite arm more other (otherwise more other ++ rest) high choice.0.own)
              (both_keep (otherwise more other) rest (otherwise_keeps arm more other choice.0) choice.1);
        }

    stays : (room : ℕ) (body : List Stmt) → Keep body → Keep (bodies room body)
    stays room body = handed_on Keeps keep_rules room body

-- The selector

between_reads : (o : Option BinaryOp) (op : BinaryOp) (e a b : Expr) → e ≡ expr.Binary op a b → reads_of (negation_between o e a b) ≡ reads_of e
between_reads None op e a b h = reads_of_unary unary.Not e
between_reads (Some other) op e a b h = reads_of_binary other a b ∙ sym (ap reads_of h ∙ reads_of_binary op a b)

negation_reads : (e : Expr) → reads_of (negation e) ≡ reads_of e
negation_reads e = by (out-Expr e) refl
  where
    by : (y : E.Expr-F Expr) → out-Expr e ≡ y → reads_of (negation_step e y) ≡ reads_of e
    by (E.Unary unary.Not a) is =
        sym (ap reads_of (rolled e (E.Unary unary.Not a) is ∙ expr.rolls-Unary unary.Not a) ∙ reads_of_unary unary.Not a)
    by (E.Binary op a b) is = between_reads (opposite op) op e a b (rolled e (E.Binary op a b) is ∙ expr.rolls-Binary op a b)
    by y is = reads_of_unary unary.Not e

module _ (next : ℕ) where
  abbrev Off : Expr → Type 0
  Off e = AreOthers next (reads_of e)

  selected : (e : Expr) (arms made : List CaseArm) (other new : List Stmt) → KeepsLocal next (S.Case e arms other)
      → KeepsLocal next (S.Case e made new)
  selected (expr.Read v) arms made other new h = tt
  selected e arms made other new h = h

  local_rules : KeepRules (KeepsLocal next)
  local_rules =
      record {
        choice = λ g arms other new h. subst (All Off) (sym (tests_with g arms)) h;
        selection = selected;
        loop = λ test body new h. h;
        join = λ arms more other last h k.
            subst (All Off) (sym (map-append (λ (arm : Arm). arm.test) arms more)) (All-append Off (tests_of arms) (tests_of more) h k);
        rest = λ arm more other h. All-tail Off arm.test (tests_of more) h;
        lead = λ arm other body h. h;
        opposite = λ arm more other body high h.
            All-cons Off (negation arm.test) []
            (subst (AreOthers next) (sym (negation_reads arm.test)) (All-head Off arm.test (tests_of more) h)) (All-nil Off);
      }

none_rules : KeepRules (KeepsSelector None)
none_rules =
    record {
      choice = λ g arms other new h. tt;
      selection = λ e arms made other new h. tt;
      loop = λ test body new h. tt;
      join = λ arms more other last h k. tt;
      rest = λ arm more other h. tt;
      lead = λ arm other body h. tt;
      opposite = λ arm more other body high h. tt;
    }

pub selector_stays : (next : Option ℕ) (room : ℕ) (body : List Stmt) → KeepSelector next body → KeepSelector next (bodies room body)
selector_stays None = stays (KeepsSelector None) none_rules
selector_stays (Some next) = stays (KeepsLocal next) (local_rules next)

-- Heights

abbrev Low : Expr → Type 0
Low e = height e ≤ 32

abbrev HasLow : Layer → Type 0
HasLow y = All Low (expressions_step y)

low_rules : KeepRules HasLow
low_rules =
    record {
      choice = λ g arms other new h. subst (All Low) (sym (tests_with g arms)) h;
      selection = λ e arms made other new h. h;
      loop = λ test body new h. h;
      join = λ arms more other last h k.
          subst (All Low) (sym (map-append (λ (arm : Arm). arm.test) arms more)) (All-append Low (tests_of arms) (tests_of more) h k);
      rest = λ arm more other h. All-tail Low arm.test (tests_of more) h;
      lead = λ arm other body h. h;
      opposite = λ arm more other body high h. All-cons Low (negation arm.test) [] high (All-nil Low);
    }

-- the expressions of statements, one statement after another
each_low : (xs : List Stmt) → All Low (flat_map (λ (x : Stmt). expressions_step (out-Stmt x)) xs)
    → All (λ (x : Stmt). HasLow (out-Stmt x)) xs
each_low [] h = All-nil (λ (x : Stmt). HasLow (out-Stmt x))
each_low (x ∷ xs) h =
    let both = split Low (expressions_step (out-Stmt x)) (flat_map (λ (x : Stmt). expressions_step (out-Stmt x)) xs) h in
    All-cons (λ (x : Stmt). HasLow (out-Stmt x)) x xs both.0 (each_low xs both.1)

all_low : (xs : List Stmt) → All (λ (x : Stmt). HasLow (out-Stmt x)) xs
    → All Low (flat_map (λ (x : Stmt). expressions_step (out-Stmt x)) xs)
all_low [] h = All-nil Low
all_low (x ∷ xs) h =
    All-append Low (expressions_step (out-Stmt x)) (flat_map (λ (x : Stmt). expressions_step (out-Stmt x)) xs)
    (All-head (λ (x : Stmt). HasLow (out-Stmt x)) x xs h) (all_low xs (All-tail (λ (x : Stmt). HasLow (out-Stmt x)) x xs h))

pub low_stays : (room : ℕ) (body : List Stmt) → AreLow body → AreLow (bodies room body)
low_stays room body h =
    all_low (statements_in (bodies room body)) (stays HasLow low_rules room body (each_low (statements_in body) h))
