-- The code's operands as expressions that are judged.
use Rattle.std.specs.Prelude.{◌≡◌, List, ◌++◌, Option, option_map, Result, Ok, Err}
use Rattle.s7_base.specs.declared.rule_break.Break.{Break}
use Rattle.st_rules.specs.Judged.{Judged}
use Rattle.st_rules.specs.declared.expression.Typed.{Typed}
use Rattle.st_statement_types.specs.declared.expression.Operand.{Operand}

-- an operand in its box
abbrev pub typed_of : Operand → Typed
typed_of operand = record { ty = operand.ty; tree = operand.tree }

-- a call found an expression as an operand and noted its broken rules after those before, or it failed
abbrev pub IsJudgedOperand : {E : Type 0} → Result (Option Operand) E → List Break → List Break → Judged Typed → Type 0
IsJudgedOperand (Ok found) before after part =
    (option_map typed_of found ≡ part.found) × (after ≡ before ++ part.breaks)
IsJudgedOperand (Err failed) before after part = Unit {0}
