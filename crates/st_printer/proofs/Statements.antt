-- The text of a statement at its variants that have a body, and texts of three and four pieces.
use Rattle.st_tree.proofs.Common.{◌≡◌, ℕ, ◌+◌, List, ◌++◌, sym, ap, ◌∙◌, append_assoc, codes, map, flat_map, Text, ArmText, CaseText, line, expr_text, texts_at, else_text, statement_step, statement_text, case_text, Names, type_of}
use Rattle.st_tree.specs.Spelling.{arm_step, case_step}
use Rattle.st_tree.specs.declared.expr.Expr.{Expr}
use Rattle.st_tree.specs.declared.program.CaseArm.{CaseArm}
use Rattle.st_tree.specs.declared.program.Stmt.{Stmt, fold-roll-Stmt}
use Rattle.st_tree.specs.declared.program.Stmt.TheVariants as stmt
use Rattle.st_tree.specs.declared.program.Stmt.TheOpen as S

pub while_text : (names : Names) (test : Expr) (body : List Stmt) (level : ℕ) → statement_text names (stmt.While test body) level
    ≡ line level (codes "WHILE " ++ expr_text names test ++ codes " DO")
    ++ texts_at (level + 1) (map (statement_text names) body) ++ line level (codes "END_WHILE;")
while_text names test body level =
    ap (λ (f : Text). f level)
    (ap (statement_text names) (sym (stmt.rolls-While test body))
    ∙ fold-roll-Stmt Text ArmText CaseText (statement_step names) (arm_step names) case_step (S.While test body))

pub case_whole : (names : Names) (e : Expr) (arms : List CaseArm) (other : List Stmt) (level : ℕ) → statement_text names (stmt.Case e arms other) level
    ≡ line level (codes "CASE " ++ expr_text names e ++ codes " OF") ++ flat_map (λ arm. arm (type_of names e) level) (map (case_text names) arms)
    ++ else_text level (map (statement_text names) other) ++ line level (codes "END_CASE;")
case_whole names e arms other level =
    ap (λ (f : Text). f level)
    (ap (statement_text names) (sym (stmt.rolls-Case e arms other))
    ∙ fold-roll-Stmt Text ArmText CaseText (statement_step names) (arm_step names) case_step (S.Case e arms other))

pub three : (old a b c r s t : List ℕ) → r ≡ old ++ a → s ≡ r ++ b → t ≡ s ++ c → t ≡ old ++ (a ++ b ++ c)
three old a b c r s t p q e =
    let flat : ((old ++ a) ++ b) ++ c ≡ old ++ (a ++ b ++ c) = simp append_assoc in
    e ∙ ap (λ (xs : List ℕ). xs ++ c) q ∙ ap (λ (xs : List ℕ). (xs ++ b) ++ c) p ∙ flat

pub four : (old a b c d r s t u : List ℕ) → r ≡ old ++ a → s ≡ r ++ b → t ≡ s ++ c → u ≡ t ++ d → u ≡ old ++ (a ++ b ++ c ++ d)
four old a b c d r s t u p q h e =
    let flat : (((old ++ a) ++ b) ++ c) ++ d ≡ old ++ (a ++ b ++ c ++ d) = simp append_assoc in
    e ∙ ap (λ (xs : List ℕ). xs ++ d) h ∙ ap (λ (xs : List ℕ). (xs ++ c) ++ d) q ∙ ap (λ (xs : List ℕ). ((xs ++ b) ++ c) ++ d) p ∙ flat
