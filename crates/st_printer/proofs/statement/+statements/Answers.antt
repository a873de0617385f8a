use Rattle.st_tree.proofs.Common.{◌≡◌, ◌+◌, ◌++◌, List, ℕ, sym, ap, ◌∙◌, codes, map, flat_map, line, expr_text, texts_at, else_text, names_in, statement_text, case_text, body_text, Names, type_of}
use Rattle.st_tree.specs.declared.expr.StType.{StType}
use Rattle.st_tree.specs.declared.program.CaseArm.{CaseArm}
use Rattle.st_tree.specs.declared.program.Stmt.{Stmt}
use Rattle.st_printer.proofs.Pieces.{on_ok}
use Rattle.st_printer.proofs.Statements.{while_text, case_whole, three, four}
use Rattle.st_printer.proofs.statement.+statements.Goals as goal

pub put_statement-returns-in_ok-put_inner-in-While : goal.put_statement-returns-in_ok-put_inner-in-While
put_statement-returns-in_ok-put_inner-in-While t c =
    let names : Names = names_in c.args.at.tree.now c.args.at.unit.now in
    let old : List ℕ = c.args.out.now.items in
    let level : ℕ = c.args.at.level in
    let a : List ℕ = line level (codes "WHILE " ++ expr_text names c.in-While.test ++ codes " DO") in
    let b : List ℕ = texts_at (level + 1) (map (statement_text names) c.in-While.body) in
    let d : List ℕ = line level (codes "END_WHILE;") in
    let inner : c.put_inner.new.out.items ≡ c.put_head-in-While.new.out.items ++ b =
    c.in_ok-put_inner-in-While.ensures
    ∙ ap (λ (body : List Stmt). c.put_head-in-While.new.out.items ++ body_text names (level + 1) body) c.as_slice-in-While.ensures in
    on_ok c.put_line-in-While.result
    (λ e. three old a b d _ _ _ c.in_ok-put_head-in-While.ensures inner e ∙ ap (λ (xs : List ℕ). old ++ xs)
    (sym (while_text names c.in-While.test c.in-While.body level) ∙ ap (λ (s : Stmt). statement_text names s level) (sym c.in-While.is)))
    c.put_line-in-While.ensures

pub put_statement-returns-in_ok-put_else-in-Case : goal.put_statement-returns-in_ok-put_else-in-Case
put_statement-returns-in_ok-put_else-in-Case t c =
    let names : Names = names_in c.args.at.tree.now c.args.at.unit.now in
    let old : List ℕ = c.args.out.now.items in
    let level : ℕ = c.args.at.level in
    let ty : StType = type_of names c.in-Case.selector in
    let a : List ℕ = line level (codes "CASE " ++ expr_text names c.in-Case.selector ++ codes " OF") in
    let b : List ℕ = flat_map (λ arm. arm ty level) (map (case_text names) c.in-Case.arms) in
    let d : List ℕ = else_text level (map (statement_text names) c.in-Case.other) in
    let f : List ℕ = line level (codes "END_CASE;") in
    let arms : c.put_cases.new.out.items ≡ c.put_head.new.out.items ++ b =
    c.in_ok-put_cases-in-Case.ensures
    ∙ ap (λ (ty : StType). c.put_head.new.out.items ++ flat_map (λ arm. arm ty level) (map (case_text names) c.as_slice-in-Case.result.now))
    c.type_of-ty.ensures
    ∙ ap (λ (arms : List CaseArm). c.put_head.new.out.items ++ flat_map (λ arm. arm ty level) (map (case_text names) arms)) c.as_slice-in-Case.ensures in
    let other : c.put_else-in-Case.new.out.items ≡ c.put_cases.new.out.items ++ d =
    c.in_ok-put_else-in-Case.ensures
    ∙ ap (λ (other : List Stmt). c.put_cases.new.out.items ++ else_text level (map (statement_text names) other)) c.as_slice-in-Case-2.ensures in
    on_ok c.put_line-in-Case.result
    (λ e. four old a b d f _ _ _ _ c.in_ok-put_head-in-Case.ensures arms other e ∙ ap (λ (xs : List ℕ). old ++ xs)
    (sym (case_whole names c.in-Case.selector c.in-Case.arms c.in-Case.other level) ∙ ap (λ (s : Stmt). statement_text names s level) (sym c.in-Case.is)))
    c.put_line-in-Case.ensures
