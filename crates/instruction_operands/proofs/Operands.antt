-- Operands that no instruction takes.
use Rattle.std.proofs.Common.{◌≡◌, None, refl}
use Rattle.memory_areas.specs.declared.place.AreaName.{AreaName}
use Rattle.s7_base.specs.declared.word.Width.{Width}
use Rattle.stl_rules.specs.Programs.{op_with}
use Rattle.stl_rules.specs.declared.resolved_operand.ResolvedOperand.TheVariants as behind
use Rattle.stl_statement_grammar.specs.declared.mnemonic.Mnemonic.{Mnemonic}
use Rattle.stl_statement_grammar.specs.declared.mnemonic.Mnemonic.TheVariants as is

pub outside : (what : Mnemonic) (name : AreaName) (w : Width) → op_with what (behind.Outside name w) ≡ None
outside (is.Check c) name w = refl
outside what name w = refl

pub no_pointer : (what : Mnemonic) → op_with what behind.NoPointer ≡ None
no_pointer (is.Check c) = refl
no_pointer what = refl

pub no_number : (what : Mnemonic) → op_with what behind.NoNumber ≡ None
no_number (is.Check c) = refl
no_number what = refl

pub unknown : (what : Mnemonic) → op_with what behind.Unknown ≡ None
unknown (is.Check c) = refl
unknown what = refl

pub unfit : (what : Mnemonic) → op_with what behind.Unfit ≡ None
unfit (is.Check c) = refl
unfit what = refl

pub unjudged : (what : Mnemonic) → op_with what behind.Unjudged ≡ None
unjudged (is.Check c) = refl
unjudged what = refl

pub ruleset none_fit = (outside, no_pointer, no_number, unknown, unfit, unjudged)
