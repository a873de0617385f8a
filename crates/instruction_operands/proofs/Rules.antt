-- Of the rules that what stands behind a mnemonic breaks, the least is named.
use Rattle.std.proofs.Common.{◌≡◌, inl, inr, [], ◌∷◌, Option, Some, None, Result, Ok, Err, refl, subst, arith}
use Rattle.std.specs.Prelude.{All, ◌≤◌}
use Rattle.std.proofs.lemmas.List.Elements.{All-cons, All-nil}
use Rattle.s7_base.specs.Broken.{rule_number}
use Rattle.s7_base.specs.declared.reason.Reason.{Reason}
use Rattle.s7_base.specs.declared.reason.Reason.TheVariants.{BadAddress, BadOperand, UnknownName}
use Rattle.stl_rules.specs.Programs.{op_by, op_or_rule, or_bad_operand, outside_rule, some_place, some_pointer}
use Rattle.stl_rules.specs.declared.resolved_operand.ResolvedOperand.{ResolvedOperand}
use Rattle.stl_rules.specs.declared.resolved_operand.ResolvedOperand.TheVariants as behind
use Rattle.stl_statement_grammar.specs.declared.mnemonic.Mnemonic.{Mnemonic}
use Rattle.stl_tree.specs.declared.program.Op.{Op}
use Rattle.instruction_operands.specs.RuleLaws.{IsLeast, LeastRuleIsNamed, broken_rules, unless_taken}

same_rule : (a b : Reason) (r : Result Op Reason) → r ≡ Err a → r ≡ Err b → a ≡ b
same_rule a b r e f = cc

abbrev NotBelow : Reason → Reason → Type 0
NotBelow rule other = rule_number rule ≤ rule_number other

itself : (rule : Reason) → NotBelow rule rule
itself rule = omega arith

alone : (rule : Reason) → IsLeast rule (rule ∷ [])
alone rule = (inl refl, All-cons (NotBelow rule) rule [] (itself rule) (All-nil (NotBelow rule)))

alone_so : (rule named : Reason) (r : Result Op Reason) → r ≡ Err rule → r ≡ Err named → IsLeast named (rule ∷ [])
alone_so rule named r e f = subst (λ x. IsLeast x (rule ∷ [])) (same_rule rule named r e f) (alone rule)

of_two : IsLeast BadOperand (BadAddress ∷ BadOperand ∷ [])
of_two = (
  inr (inl refl),
  All-cons (NotBelow BadOperand) BadAddress (BadOperand ∷ []) (omega arith)
      (All-cons (NotBelow BadOperand) BadOperand [] (omega arith) (All-nil (NotBelow BadOperand))),
)

-- outside a range
outside : (o : Option Op) (rule : Reason) (r : Result Op Reason) → r ≡ Err (outside_rule o) → r ≡ Err rule → IsLeast rule (BadAddress ∷ unless_taken o)
outside None rule r e f = subst (λ x. IsLeast x (BadAddress ∷ BadOperand ∷ [])) (same_rule BadOperand rule r e f) of_two
outside (Some o) rule r e f = alone_so BadAddress rule r e f

-- one that the mnemonic does not take
taken : (o : Option Op) (rule : Reason) → or_bad_operand o ≡ Err rule → IsLeast rule (unless_taken o)
taken None rule f = alone_so BadOperand rule (Err BadOperand) refl f
taken (Some o) rule f = absurd cc

made_of : (o : Option Op) (what : Op) → or_bad_operand o ≡ Ok what → unless_taken o ≡ []
made_of None what e = absurd cc
made_of (Some o) what e = refl

made : (what : Option Mnemonic) (g : ResolvedOperand) (o : Op) → op_or_rule what g ≡ Ok o → broken_rules what g ≡ []
made what behind.Unknown o e = absurd cc
made what behind.Unfit o e = absurd cc
made what behind.NoNumber o e = absurd cc
made what behind.Unjudged o e = refl
made what (behind.Outside name w) o e = absurd cc
made what behind.NoPointer o e = absurd cc
made what g o e = made_of (op_by what g) o e

named : (what : Option Mnemonic) (g : ResolvedOperand) (rule : Reason) → op_or_rule what g ≡ Err rule → IsLeast rule (broken_rules what g)
named what behind.Unknown rule e = alone_so UnknownName rule (Err UnknownName) refl e
named what behind.Unfit rule e = alone_so BadOperand rule (Err BadOperand) refl e
named what behind.NoNumber rule e = alone_so BadAddress rule (Err BadAddress) refl e
named what behind.Unjudged rule e = absurd cc
named what (behind.Outside name w) rule e = outside (op_by what (behind.At (some_place name) w)) rule (op_or_rule what (behind.Outside name w)) refl e
named what behind.NoPointer rule e = outside (op_by what (behind.Constant some_pointer)) rule (op_or_rule what behind.NoPointer) refl e
named what g rule e = taken (op_by what g) rule e

pub least_named : LeastRuleIsNamed
least_named = record { made = made; named = named }
