-- Canonical forms of some trees, with their lines.
use Rattle.st_tree.proofs.Common.{◌≡◌, ℕ, false, List, [], ◌∷◌, map, Some, None, refl, sym, ap, ◌∙◌, digits, pos, codes, canon, names_in, Names, type_of}
use Rattle.memory_areas.specs.declared.place.Area.TheVariants as place
use Rattle.memory_areas.specs.declared.place.AreaName.TheVariants as area
use Rattle.s7_base.specs.declared.register.Reg.TheVariants as reg
use Rattle.s7_base.specs.declared.word.Width.TheVariants as width
use Rattle.st_text_laws.specs.Canonical.{ArmFromLine, CaseFromLine, FromLine, arm_from, arm_step, case_from, case_step, on, source_of, statement_from, statement_step}
use Rattle.st_grammar.proofs.Common.{variable, no_actual, actual, label, more_labels, invoke, choice_else, cases_else, loop, jump, none, further, no_arm, arm, no_case, case_arm, no_item, single, times, plain, bytes, no_global, global, no_local, local, absent, present, no_unit, unit, Source, SourceFits, word_named, word_text}
use Rattle.st_text_laws.specs.Spelled.{SourceSpelled, is_function}
use Rattle.st_grammar.specs.declared.kind.Jump.TheVariants as jump_word
use Rattle.st_grammar.specs.declared.kind.Literal.TheVariants as lit
use Rattle.st_grammar.specs.declared.kind.OneOperand.TheVariants as one
use Rattle.st_tree.proofs.Equations.{canon_read}
use Rattle.st_tree.specs.Form as tree
use Rattle.st_lexer.proofs.Common.{Expr, Var, Arm, fold_out-Arm, CaseArm, fold_out-CaseArm, Pou, StProgram, Stmt, fold-roll-Stmt, map-Stmt, roll-Stmt}
use Rattle.st_tree.specs.declared.expr.Expr.TheVariants as expr
use Rattle.st_tree.specs.declared.expr.StType.TheVariants as type
use Rattle.st_tree.specs.declared.expr.Var.TheVariants as tree_var
use Rattle.st_tree.specs.declared.program.Stmt.TheOpen as S
use Rattle.st_tree.specs.declared.program.Stmt.TheVariants as stmt
use Rattle.st_tree.specs.declared.raw.RawVar.TheVariants as var

-- The form of a statement at each of its variants

at : (names : Names) (x : Stmt) (y : S.Stmt-F Stmt Arm CaseArm) → x ≡ roll-Stmt y
    → statement_from names x
    ≡ statement_step names (map-Stmt Stmt Arm CaseArm FromLine ArmFromLine CaseFromLine (statement_from names) (arm_from names) (case_from names) y)
at names x y e = ap (statement_from names) e ∙ fold-roll-Stmt FromLine ArmFromLine CaseFromLine (statement_step names) (arm_step names) case_step y

from_assign : (names : Names) (v : Var) (e : Expr) (line : ℕ) → statement_from names (stmt.Assign v e) line ≡ statement_step names (S.Assign v e) line
from_assign names v e line = ap (λ (f : FromLine). f line) (at names (stmt.Assign v e) (S.Assign v e) (sym (stmt.rolls-Assign v e)))

from_invoke : (names : Names) (n : ℕ) (vars : List Var) (line : ℕ)
    → statement_from names (stmt.Invoke n vars) line ≡ statement_step names (S.Invoke n vars) line
from_invoke names n vars line = ap (λ (f : FromLine). f line) (at names (stmt.Invoke n vars) (S.Invoke n vars) (sym (stmt.rolls-Invoke n vars)))

from_if : (names : Names) (arms : List Arm) (other : List Stmt) (line : ℕ)
    → statement_from names (stmt.If arms other) line ≡ statement_step names (S.If (map (arm_from names) arms) (map (statement_from names) other)) line
from_if names arms other line = ap (λ (f : FromLine). f line) (at names (stmt.If arms other) (S.If arms other) (sym (stmt.rolls-If arms other)))

from_case : (names : Names) (e : Expr) (arms : List CaseArm) (other : List Stmt) (line : ℕ)
    → statement_from names (stmt.Case e arms other) line ≡ statement_step names (S.Case e (map (case_from names) arms) (map (statement_from names) other)) line
from_case names e arms other line = ap (λ (f : FromLine). f line) (at names (stmt.Case e arms other) (S.Case e arms other) (sym (stmt.rolls-Case e arms other)))

from_while : (names : Names) (e : Expr) (body : List Stmt) (line : ℕ)
    → statement_from names (stmt.While e body) line ≡ statement_step names (S.While e (map (statement_from names) body)) line
from_while names e body line = ap (λ (f : FromLine). f line) (at names (stmt.While e body) (S.While e body) (sym (stmt.rolls-While e body)))

from_exit : (names : Names) (line : ℕ) → statement_from names stmt.Exit line ≡ statement_step names S.Exit line
from_exit names line = ap (λ (f : FromLine). f line) (at names stmt.Exit S.Exit (sym stmt.rolls-Exit))

from_return : (names : Names) (line : ℕ) → statement_from names stmt.Return line ≡ statement_step names S.Return line
from_return names line = ap (λ (f : FromLine). f line) (at names stmt.Return S.Return (sym stmt.rolls-Return))

from_arm : (names : Names) (a : Arm) → arm_from names a ≡ arm_step names (record { test = a.test; body = map (statement_from names) a.body })
from_arm names a = fold_out-Arm FromLine ArmFromLine CaseFromLine (statement_step names) (arm_step names) case_step a

from_case_arm : (names : Names) (a : CaseArm) → case_from names a ≡ case_step (record { labels = a.labels; body = map (statement_from names) a.body })
from_case_arm names a = fold_out-CaseArm FromLine ArmFromLine CaseFromLine (statement_step names) (arm_step names) case_step a

-- Rows

abbrev nothing : Names
nothing = record { globals = []; units = []; formals = []; locals = [] }

abbrev rlo : Expr
rlo = expr.Read (tree_var.Register reg.Rlo)

abbrev nfc : Expr
nfc = expr.Read (tree_var.Register reg.Nfc)

abbrev exit_arm : Arm
exit_arm = record { test = rlo; body = stmt.Exit ∷ [] }

abbrev empty_arm : Arm
empty_arm = record { test = nfc; body = [] }

-- ELSIF, ELSE and END_IF have lines of their own
if_lines : statement_from nothing (stmt.If (exit_arm ∷ empty_arm ∷ []) (stmt.Return ∷ [])) 3
    ≡ (
      choice_else (on 3)
          (arm (arm no_arm (variable (var.Name (codes "RLO")) (on 3)) (further none (jump (on 4) jump_word.Exit)))
          (variable (var.Name (codes "NFC")) (on 5)) none)
          (further none (jump (on 7) jump_word.Return)),
      9,
    )
if_lines = from_if nothing (exit_arm ∷ empty_arm ∷ []) (stmt.Return ∷ []) 3
    ∙ rw (from_arm nothing exit_arm, from_arm nothing empty_arm)
    (rw (from_exit nothing 4, from_return nothing 7, canon_read (tree_var.Register reg.Rlo), canon_read (tree_var.Register reg.Nfc)) refl)

-- a label list and END_WHILE have lines of their own
abbrev first_arm : CaseArm
first_arm = record { labels = pos 1 ∷ pos 2 ∷ []; body = stmt.Exit ∷ [] }

case_lines : (e : Expr) → canon e ≡ tree.variable (tree_var.Register reg.Rlo) → type_of nothing e ≡ type.Int
    → statement_from nothing (stmt.Case e (first_arm ∷ []) (stmt.Return ∷ [])) 3
    ≡ (
      cases_else (on 3) (variable (var.Name (codes "RLO")) (on 3))
          (case_arm no_case (more_labels (label (lit.Typed type.Int (pos 1))) (lit.Typed type.Int (pos 2))) (further none (jump (on 5) jump_word.Exit)))
          (further none (jump (on 7) jump_word.Return)),
      9,
    )
case_lines e h t =
    from_case nothing e (first_arm ∷ []) (stmt.Return ∷ []) 3
    ∙ rw (h, t, from_case_arm nothing first_arm) (rw (from_exit nothing 5, from_return nothing 7) refl)

while_lines : statement_from nothing (stmt.While rlo (stmt.Exit ∷ [])) 2
    ≡ (loop (on 2) (variable (var.Name (codes "RLO")) (on 2)) (further none (jump (on 3) jump_word.Exit)), 5)
while_lines = from_while nothing rlo (stmt.Exit ∷ []) 2 ∙ rw (canon_read (tree_var.Register reg.Rlo), from_exit nothing 3) refl

-- a whole text
abbrev unit_of : Pou
unit_of = record { program = false; name = codes "FC1"; formals = record { name = codes "A"; ty = type.Int } ∷ []; locals = []; body = stmt.Return ∷ [] }

abbrev text_of : StProgram
text_of = record {
  dbs = record { number = 5; bytes = 7 ∷ 7 ∷ 0 ∷ [] } ∷ [];
  globals = record { name = codes "G"; place = record { area = place.Q; byte = 4; bit = 1 }; ty = type.Bool } ∷ [];
  pous = unit_of ∷ [];
}

abbrev written : Source
written = record {
  globals = present
      (global (global no_global (codes "DB5") (on 2) (var.Direct area.Db (Some 5) width.Byte 0 0) (on 2) (bytes 2 (single (times no_item 2 7) 0)))
      (codes "G") (on 3) (var.Direct area.Q None width.Bit 4 1) (on 3) (plain type.Bool));
  units = unit no_unit (record { program = false; name = codes "FC1"; line = on 5; place = on 5 }) (present (local no_local (codes "A") (on 7) type.Int)) absent
      (further none (jump (on 9) jump_word.Return));
}

text_lines : source_of text_of ≡ written
unfolding digits
text_lines = rw (from_return (names_in text_of unit_of) 9) refl

call_form : let names : Names = record { globals = []; units = unit_of ∷ []; formals = []; locals = [] } in
    statement_from names (stmt.Invoke 0 (tree_var.Register reg.Rlo ∷ [])) 2
    ≡ (invoke (on 2) (codes "FC1") (actual no_actual (codes "A") (on 2) (var.Name (codes "RLO")) (on 2)), 3)
call_form = from_invoke (record { globals = []; units = unit_of ∷ []; formals = []; locals = [] }) 0 (tree_var.Register reg.Rlo ∷ []) 2

-- it is of the language, and tokens can have its names, literals and places
text_fits : SourceFits written
text_fits = (((tt, refl, refl), refl, refl), (tt, refl, (refl, (tt, refl, refl)), tt, (tt, refl)))

text_spelled : SourceSpelled written
unfolding word_named word_text
text_spelled = search

-- a conversion that there is not is of no text
no_conversion : is_function (one.Convert type.Int type.Bool) ≡ false
no_conversion = refl
