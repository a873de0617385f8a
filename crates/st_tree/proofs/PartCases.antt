-- The parts of a small body, by computing them.
use Rattle.st_tree.proofs.Common.{◌≡◌, pos, List, [], ◌∷◌, ap, ◌∙◌, calls_in, expressions_in, height, reads_in, reads_of, statements_in, Expr, Var, Stmt}
use Rattle.std.specs.List.{flat_map}
use Rattle.s7_base.specs.declared.register.Reg.TheVariants as reg
use Rattle.s7_base.specs.declared.word.Width.TheVariants as width
use Rattle.st_tree.proofs.PartEquations.{part_equations}
use Rattle.st_tree.specs.declared.expr.BinaryOp.TheVariants as binary
use Rattle.st_tree.specs.declared.expr.Expr.TheVariants as expr
use Rattle.st_tree.specs.declared.expr.StType.TheVariants as type
use Rattle.st_tree.specs.declared.expr.Var.TheVariants as var
use Rattle.st_tree.specs.declared.program.Stmt.TheVariants as stmt

abbrev rlo : Var
rlo = var.Register reg.Rlo

abbrev sum : Expr
sum = expr.Binary binary.Add (expr.Read (var.Local 0)) (expr.Literal type.Int (pos 1))

abbrev count : Stmt
count = stmt.Assign (var.Local 0) sum

abbrev call : Stmt
call = stmt.Invoke 2 (var.Local 0 ∷ [])

abbrev turns : Stmt
turns = stmt.While (expr.Read rlo) (count ∷ stmt.Exit ∷ [])

-- IF RLO THEN a call; ELSE a loop; END_IF; and an area write
abbrev choice : Stmt
choice = stmt.If (record { test = expr.Read rlo; body = call ∷ [] } ∷ []) (turns ∷ [])

abbrev write : Stmt
write = stmt.AreaWrite width.Byte (expr.Read (var.Register reg.Ar1)) sum

abbrev body : List Stmt
body = choice ∷ write ∷ []

each_statement : statements_in body ≡ choice ∷ call ∷ turns ∷ count ∷ stmt.Exit ∷ write ∷ []
each_statement = simp part_equations

each_call : calls_in body ≡ (2, var.Local 0 ∷ []) ∷ []
each_call = simp part_equations

each_expression : expressions_in body ≡ expr.Read rlo ∷ expr.Read rlo ∷ sum ∷ expr.Read (var.Register reg.Ar1) ∷ sum ∷ []
each_expression = simp part_equations

each_read : reads_in body ≡ rlo ∷ rlo ∷ var.Local 0 ∷ var.Register reg.Ar1 ∷ var.Local 0 ∷ []
each_read = ap (flat_map reads_of) each_expression ∙ simp part_equations

two_high : height sum ≡ 2
two_high = simp part_equations
