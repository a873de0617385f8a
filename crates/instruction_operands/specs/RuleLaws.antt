-- The rule that is named where what stands behind a mnemonic breaks several.
use Rattle.std.specs.Prelude.{◌≡◌, ◌≤◌, List, [], ◌∷◌, All, Option, Some, None, Ok, Err}
use Rattle.s7_base.specs.Broken.{rule_number}
use Rattle.s7_base.specs.declared.reason.Reason.{Reason}
use Rattle.s7_base.specs.declared.reason.Reason.TheVariants.{BadAddress, BadOperand, UnknownName}
use Rattle.stl_rules.specs.Programs.{op_by, op_or_rule, some_place, some_pointer}
use Rattle.stl_rules.specs.declared.resolved_operand.ResolvedOperand.{ResolvedOperand}
use Rattle.stl_rules.specs.declared.resolved_operand.ResolvedOperand.TheVariants as behind
use Rattle.stl_statement_grammar.specs.ConstantForms.{IsAmong}
use Rattle.stl_statement_grammar.specs.declared.mnemonic.Mnemonic.{Mnemonic}
use Rattle.stl_tree.specs.declared.program.Op.{Op}

-- the rule that is broken where a mnemonic makes no instruction of an operand: it does not take it
abbrev pub unless_taken : Option Op → List Reason
unless_taken None = BadOperand ∷ []
unless_taken (Some what) = []

-- all rules that the operand of a mnemonic breaks; one outside its range may also be one that the mnemonic does not
-- take
abbrev pub broken_rules : Option Mnemonic → ResolvedOperand → List Reason
broken_rules what behind.Unknown = UnknownName ∷ []
broken_rules what behind.Unfit = BadOperand ∷ []
broken_rules what behind.NoNumber = BadAddress ∷ []
broken_rules what behind.Unjudged = []
broken_rules what (behind.Outside name w) = BadAddress ∷ unless_taken (op_by what (behind.At (some_place name) w))
broken_rules what behind.NoPointer = BadAddress ∷ unless_taken (op_by what (behind.Constant some_pointer))
broken_rules what g = unless_taken (op_by what g)

-- one of some rules, of which none has a lesser number
abbrev pub IsLeast : Reason → List Reason → Type 0
IsLeast rule rules = IsAmong rule rules × All (λ other. rule_number rule ≤ rule_number other) rules

-- an instruction is made where no rule is broken, else the rule with the least number is named
pub record LeastRuleIsNamed : Type 0 where
  pub made : (what : Option Mnemonic) (g : ResolvedOperand) (o : Op)
      → op_or_rule what g ≡ Ok o → broken_rules what g ≡ []
  pub named : (what : Option Mnemonic) (g : ResolvedOperand) (rule : Reason)
      → op_or_rule what g ≡ Err rule → IsLeast rule (broken_rules what g)
