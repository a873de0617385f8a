-- What is made of statements that nest no deeper than they may nests no deeper than it may.
use Rattle.std.proofs.Common.{◌≡◌, ℕ, suc, ◌+◌, ◌*◌, ◌-◌, ◌≤◌, max, List, [], ◌∷◌, ◌++◌, map, refl, arith}
use Rattle.condition_laws.specs.inner.Negation.{negation}
use Rattle.condition_laws.specs.inner.Rewriting.{otherwise}
use Rattle.condition_laws.proofs.Rewrites.{Rules, arms_with, bodies, cases_with, handed_on}
use Rattle.graph_rules.proofs.Nesting.{nests_at_most_twice}
use Rattle.s7_base.specs.Numbers.{greatest}
use Rattle.st_tree.proofs.Induction.{Each}
use Rattle.st_tree.proofs.TypingEquations.{nesting_arm, nesting_case, nesting_case_arm, nesting_if, nesting_while}
use Rattle.st_tree.specs.BodyParts.{height}
use Rattle.st_tree.specs.Depth.{deepest}
use Rattle.st_tree.specs.Nesting.{arm_nesting, body_nesting, case_nesting, expression_nesting, nesting}
use Rattle.st_tree.specs.declared.expr.Expr.{Expr}
use Rattle.st_tree.specs.declared.program.Arm.{Arm}
use Rattle.st_tree.specs.declared.program.CaseArm.{CaseArm}
use Rattle.st_tree.specs.declared.program.Stmt.{Stmt}
use Rattle.st_tree.specs.declared.program.Stmt.TheVariants as stmt

append_nests : (xs ys : List Stmt) → body_nesting (xs ++ ys) ≡ max (body_nesting xs) (body_nesting ys)
append_nests [] ys = omega arith
append_nests (x ∷ xs) ys = let rest : body_nesting (xs ++ ys) ≡ max (body_nesting xs) (body_nesting ys) = append_nests xs ys in omega arith

arms_append : (xs ys : List Arm) → greatest (map arm_nesting (xs ++ ys)) ≡ max (greatest (map arm_nesting xs)) (greatest (map arm_nesting ys))
arms_append [] ys = omega arith
arms_append (x ∷ xs) ys =
    let rest : greatest (map arm_nesting (xs ++ ys)) ≡ max (greatest (map arm_nesting xs)) (greatest (map arm_nesting ys)) = arms_append xs ys in
    omega arith

-- so deep a body may be changed
abbrev pub MayChange : ℕ → ℕ → Type 0
MayChange room level = 1 ≤ room → level + room ≤ 131

inner : (room level : ℕ) → MayChange room level → MayChange (room - 1) (suc level)
inner room level may some = let within : level + room ≤ 131 = may (omega arith) in omega arith

-- where statements stand under so many levels and are not too deep, what is made of them is not either
abbrev pub Nests : ℕ → List Stmt → List Stmt → Type 0
Nests room xs ys = (level : ℕ) → MayChange room level → level + body_nesting xs ≤ 200 → level + body_nesting ys ≤ 200

arms_nest : (room level : ℕ) (g : List Stmt → List Stmt) (arms : List Arm)
    → Each (λ (arm : Arm). Nests room arm.body (g arm.body)) arms → MayChange room level
    → level + greatest (map arm_nesting arms) ≤ 200 → level + greatest (map arm_nesting (arms_with g arms)) ≤ 200
arms_nest room level g [] all may h = h
arms_nest room level g (x ∷ xs) all may h =
    let old : arm_nesting x ≡ max (expression_nesting x.test) (body_nesting x.body) = nesting_arm x in
    let new : arm_nesting (record { test = x.test; body = g x.body }) ≡ max (expression_nesting x.test) (body_nesting (g x.body))
    = nesting_arm (record { test = x.test; body = g x.body }) in
    let whole : level + max (arm_nesting x) (greatest (map arm_nesting xs)) ≤ 200 = h in
    let own : level + body_nesting (g x.body) ≤ 200 = all.0 level may (omega arith) in
    let rest : level + greatest (map arm_nesting (arms_with g xs)) ≤ 200 = arms_nest room level g xs all.1 may (omega arith) in
    omega arith

cases_nest : (room level : ℕ) (g : List Stmt → List Stmt) (arms : List CaseArm)
    → Each (λ (arm : CaseArm). Nests room arm.body (g arm.body)) arms → MayChange room level
    → level + greatest (map case_nesting arms) ≤ 200 → level + greatest (map case_nesting (cases_with g arms)) ≤ 200
cases_nest room level g [] all may h = h
cases_nest room level g (x ∷ xs) all may h =
    let old : case_nesting x ≡ body_nesting x.body = nesting_case_arm x in
    let new : case_nesting (record { labels = x.labels; body = g x.body }) ≡ body_nesting (g x.body)
    = nesting_case_arm (record { labels = x.labels; body = g x.body }) in
    let whole : level + max (case_nesting x) (greatest (map case_nesting xs)) ≤ 200 = h in
    let own : level + body_nesting (g x.body) ≤ 200 = all.0 level may (omega arith) in
    let rest : level + greatest (map case_nesting (cases_with g xs)) ≤ 200 = cases_nest room level g xs all.1 may (omega arith) in
    omega arith

-- what an IF does where its first arm is not met is no deeper than the IF
otherwise_nests : (arm : Arm) (more : List Arm) (other : List Stmt)
    → body_nesting (otherwise more other) ≤ nesting (stmt.If (arm ∷ more) other)
otherwise_nests arm [] other =
    let old : nesting (stmt.If (arm ∷ []) other) ≡ suc (max (greatest (map arm_nesting (arm ∷ []))) (body_nesting other))
    = nesting_if (arm ∷ []) other in
    let same : body_nesting (otherwise [] other) ≡ body_nesting other = refl in
    omega arith
otherwise_nests arm (x ∷ xs) other =
    let rest : ℕ = greatest (map arm_nesting (x ∷ xs)) in
    let old : nesting (stmt.If (arm ∷ x ∷ xs) other) ≡ suc (max (max (arm_nesting arm) rest) (body_nesting other))
    = nesting_if (arm ∷ x ∷ xs) other in
    let new : nesting (stmt.If (x ∷ xs) other) ≡ suc (max rest (body_nesting other)) = nesting_if (x ∷ xs) other in
    let one : body_nesting (otherwise (x ∷ xs) other) ≡ max (nesting (stmt.If (x ∷ xs) other)) 0 = refl in
    omega arith

same_nests : (room : ℕ) (xs : List Stmt) → Nests room xs xs
same_nests room xs level may h = h

more_nests : (room : ℕ) (x y : Stmt) (xs ys : List Stmt) → Nests room (x ∷ []) (y ∷ []) → Nests room xs ys
    → Nests room (x ∷ xs) (y ∷ ys)
more_nests room x y xs ys h k level may low =
    let whole : level + max (nesting x) (body_nesting xs) ≤ 200 = low in
    let one : level + max (nesting y) 0 ≤ 200 = h level may (omega arith) in
    let rest : level + body_nesting ys ≤ 200 = k level may (omega arith) in
    omega arith

choice_nests : (room : ℕ) (g : List Stmt → List Stmt) (arms : List Arm) (other : List Stmt)
    → Each (λ (arm : Arm). Nests (room - 1) arm.body (g arm.body)) arms → Nests (room - 1) other (g other)
    → Nests room (stmt.If arms other ∷ []) (stmt.If (arms_with g arms) (g other) ∷ [])
choice_nests room g arms other all rest level may low =
    let whole : level + max (nesting (stmt.If arms other)) 0 ≤ 200 = low in
    let old : nesting (stmt.If arms other) ≡ suc (max (greatest (map arm_nesting arms)) (body_nesting other)) = nesting_if arms other in
    let new : nesting (stmt.If (arms_with g arms) (g other))
    ≡ suc (max (greatest (map arm_nesting (arms_with g arms))) (body_nesting (g other))) = nesting_if (arms_with g arms) (g other) in
    let one : suc level + greatest (map arm_nesting (arms_with g arms)) ≤ 200
    = arms_nest (room - 1) (suc level) g arms all (inner room level may) (omega arith) in
    let two : suc level + body_nesting (g other) ≤ 200 = rest (suc level) (inner room level may) (omega arith) in
    omega arith

selection_nests : (room : ℕ) (g : List Stmt → List Stmt) (e : Expr) (arms : List CaseArm) (other : List Stmt)
    → Each (λ (arm : CaseArm). Nests (room - 1) arm.body (g arm.body)) arms → Nests (room - 1) other (g other)
    → Nests room (stmt.Case e arms other ∷ []) (stmt.Case e (cases_with g arms) (g other) ∷ [])
selection_nests room g e arms other all rest level may low =
    let whole : level + max (nesting (stmt.Case e arms other)) 0 ≤ 200 = low in
    let old : nesting (stmt.Case e arms other)
    ≡ suc (max (expression_nesting e) (max (greatest (map case_nesting arms)) (body_nesting other))) = nesting_case e arms other in
    let new : nesting (stmt.Case e (cases_with g arms) (g other))
    ≡ suc (max (expression_nesting e) (max (greatest (map case_nesting (cases_with g arms))) (body_nesting (g other))))
    = nesting_case e (cases_with g arms) (g other) in
    let one : suc level + greatest (map case_nesting (cases_with g arms)) ≤ 200
    = cases_nest (room - 1) (suc level) g arms all (inner room level may) (omega arith) in
    let two : suc level + body_nesting (g other) ≤ 200 = rest (suc level) (inner room level may) (omega arith) in
    omega arith

loop_nests : (room : ℕ) (g : List Stmt → List Stmt) (test : Expr) (body : List Stmt) → Nests (room - 1) body (g body)
    → Nests room (stmt.While test body ∷ []) (stmt.While test (g body) ∷ [])
loop_nests room g test body h level may low =
    let whole : level + max (nesting (stmt.While test body)) 0 ≤ 200 = low in
    let old : nesting (stmt.While test body) ≡ suc (max (expression_nesting test) (body_nesting body)) = nesting_while test body in
    let new : nesting (stmt.While test (g body)) ≡ suc (max (expression_nesting test) (body_nesting (g body))) = nesting_while test (g body) in
    let one : suc level + body_nesting (g body) ≤ 200 = h (suc level) (inner room level may) (omega arith) in
    omega arith

join_nests : (room : ℕ) (xs : List Stmt) (arms more : List Arm) (last : List Stmt)
    → Nests room xs (stmt.If arms (stmt.If more last ∷ []) ∷ []) → Nests room xs (stmt.If (arms ++ more) last ∷ [])
join_nests room xs arms more last h level may low =
    let whole : level + max (nesting (stmt.If arms (stmt.If more last ∷ []))) 0 ≤ 200 = h level may low in
    let old : nesting (stmt.If arms (stmt.If more last ∷ []))
    ≡ suc (max (greatest (map arm_nesting arms)) (max (nesting (stmt.If more last)) 0)) = nesting_if arms (stmt.If more last ∷ []) in
    let between : nesting (stmt.If more last) ≡ suc (max (greatest (map arm_nesting more)) (body_nesting last)) = nesting_if more last in
    let new : nesting (stmt.If (arms ++ more) last)
    ≡ suc (max (greatest (map arm_nesting (arms ++ more))) (body_nesting last)) = nesting_if (arms ++ more) last in
    let all : greatest (map arm_nesting (arms ++ more)) ≡ max (greatest (map arm_nesting arms)) (greatest (map arm_nesting more))
    = arms_append arms more in
    omega arith

lead_nests : (room : ℕ) (xs : List Stmt) (always : Expr) (arm : Arm) (rest : List Stmt)
    → Nests room xs (stmt.While always (stmt.If (arm ∷ []) (stmt.Exit ∷ []) ∷ rest) ∷ [])
    → Nests room xs (stmt.While arm.test (arm.body ++ rest) ∷ [])
lead_nests room xs always arm rest h level may low =
    let first : Stmt = stmt.If (arm ∷ []) (stmt.Exit ∷ []) in
    let whole : level + max (nesting (stmt.While always (first ∷ rest))) 0 ≤ 200 = h level may low in
    let old : nesting (stmt.While always (first ∷ rest)) ≡ suc (max (expression_nesting always) (max (nesting first) (body_nesting rest)))
    = nesting_while always (first ∷ rest) in
    let choice : nesting first ≡ suc (max (max (arm_nesting arm) 0) (max (nesting stmt.Exit) 0)) = nesting_if (arm ∷ []) (stmt.Exit ∷ []) in
    let own : arm_nesting arm ≡ max (expression_nesting arm.test) (body_nesting arm.body) = nesting_arm arm in
    let new : nesting (stmt.While arm.test (arm.body ++ rest))
    ≡ suc (max (expression_nesting arm.test) (body_nesting (arm.body ++ rest))) = nesting_while arm.test (arm.body ++ rest) in
    let both : body_nesting (arm.body ++ rest) ≡ max (body_nesting arm.body) (body_nesting rest) = append_nests arm.body rest in
    omega arith

opposite_nests : (room : ℕ) (xs : List Stmt) (always : Expr) (arm : Arm) (more : List Arm) (other rest : List Stmt) → 1 ≤ room
    → height (negation arm.test) ≤ 32
    → Nests room xs (stmt.While always (stmt.If (arm ∷ more) other ∷ rest) ∷ [])
    → Nests room xs (stmt.While (negation arm.test) (otherwise more other ++ rest) ∷ [])
opposite_nests room xs always arm more other rest some high h level may low =
    let first : Stmt = stmt.If (arm ∷ more) other in
    let whole : level + max (nesting (stmt.While always (first ∷ rest))) 0 ≤ 200 = h level may low in
    let old : nesting (stmt.While always (first ∷ rest)) ≡ suc (max (expression_nesting always) (max (nesting first) (body_nesting rest)))
    = nesting_while always (first ∷ rest) in
    let test : expression_nesting (negation arm.test) + 2 ≤ 2 * height (negation arm.test) = nests_at_most_twice (negation arm.test) in
    let new : nesting (stmt.While (negation arm.test) (otherwise more other ++ rest))
    ≡ suc (max (expression_nesting (negation arm.test)) (body_nesting (otherwise more other ++ rest)))
    = nesting_while (negation arm.test) (otherwise more other ++ rest) in
    let both : body_nesting (otherwise more other ++ rest) ≡ max (body_nesting (otherwise more other)) (body_nesting rest)
    = append_nests (otherwise more other) rest in
    let tail : body_nesting (otherwise more other) ≤ nesting first = otherwise_nests arm more other in
    let within : level + room ≤ 131 = may some in
    omega arith

nests_rules : Rules Nests
nests_rules =
    record {
      assign = λ room v e. same_nests room (stmt.Assign v e ∷ []);
      area_write = λ room w p e. same_nests room (stmt.AreaWrite w p e ∷ []);
      invoke = λ room n vars. same_nests room (stmt.Invoke n vars ∷ []);
      exit = λ room. same_nests room (stmt.Exit ∷ []);
      continue = λ room. same_nests room (stmt.Continue ∷ []);
      return = λ room. same_nests room (stmt.Return ∷ []);
      none = λ room. same_nests room [];
      more = more_nests;
      choice = choice_nests;
      selection = selection_nests;
      loop = loop_nests;
      join = join_nests;
      lead = λ room xs always arm rest a some high h. lead_nests room xs always arm rest h;
      opposite = λ room xs always arm more other rest a some high is h.
          opposite_nests room xs always arm more other rest some high h;
    }

-- the statements of a unit
pub stays_low : (body : List Stmt) → body_nesting body ≤ deepest → body_nesting (bodies 131 body) ≤ deepest
stays_low body h =
    let low : 0 + body_nesting (bodies 131 body) ≤ 200 = handed_on Nests nests_rules 131 body 0 (λ some. omega arith) (omega (arith, h)) in
    omega arith
