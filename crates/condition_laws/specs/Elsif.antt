-- Where an IF may stand: not alone after an ELSE, since ELSIF says the same.
-- Held against: IEC 61131-3, 'Statements'.
use Rattle.std.specs.Prelude.{[], ◌∷◌, All}
use Rattle.st_tree.specs.BodyParts.{statements_in}
use Rattle.st_tree.specs.declared.program.Arm.{Arm}
use Rattle.st_tree.specs.declared.program.CaseArm.{CaseArm}
use Rattle.st_tree.specs.declared.program.Pou.{Pou}
use Rattle.st_tree.specs.declared.program.StProgram.{StProgram}
use Rattle.st_tree.specs.declared.program.Stmt.{Stmt, out-Stmt}
use Rattle.st_tree.specs.declared.program.Stmt.TheOpen as S

-- a statement is no IF
abbrev pub IsNoIf : S.Stmt-F Stmt Arm CaseArm → Type 0
IsNoIf (S.If arms other) = ⊥
IsNoIf other = Unit {0}

-- a statement is no IF with an IF alone after its ELSE
abbrev pub HasElsif : S.Stmt-F Stmt Arm CaseArm → Type 0
HasElsif (S.If arms (x ∷ [])) = IsNoIf (out-Stmt x)
HasElsif other = Unit {0}

-- so each statement of each unit, at every depth
abbrev pub AllHaveElsif : StProgram → Type 0
AllHaveElsif tree =
    All (λ (unit : Pou). All (λ (x : Stmt). HasElsif (out-Stmt x)) (statements_in unit.body)) tree.pous
