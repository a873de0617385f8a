-- What a path in a data block by its name is, and what OPN opens.
use denote.Hole.Carrier
use Rattle.std.proofs.Common.{◌≡◌, ℕ, Bool, true, false, if◌then◌else◌, List, Result, Ok, Err, refl, sym, ap, ◌∙◌}
use Rattle.operand_scopes.specs.inner.Opened.{db_opened}
use Rattle.s7_base.specs.declared.reason.Reason.{Reason}
use Rattle.s7_base.specs.declared.reason.Reason.TheVariants.{UnknownName}
use Rattle.stl_rules.specs.Names.{db_numbered, may_have, number_at, symbol_named}
use Rattle.stl_rules.specs.Raw.{OperandScope, resolved_operand, given_in_data, given_number, given_open}
use Rattle.stl_rules.specs.declared.resolved_operand.ResolvedOperand.{ResolvedOperand}
use Rattle.stl_rules.specs.declared.resolved_operand.ResolvedOperand.TheVariants as behind
use Rattle.stl_tree.specs.declared.raw.BlockKind.TheVariants as block
use Rattle.stl_tree.specs.declared.raw.PathStep.{PathStep}
use Rattle.stl_tree.specs.declared.raw.RawOperand.{RawOperand, out-RawOperand}
use Rattle.stl_tree.specs.declared.raw.RawOperand.TheVariants as operand

-- a path in a data block by its name
pub in_block : (scope : OperandScope) (raw : RawOperand) (name : List ℕ) (path : List PathStep) → raw ≡ operand.InBlock name path
    → given_number (λ n. given_in_data scope.text n path (db_numbered scope.text.symbols scope.text.dbs n))
    (number_at block.Db (symbol_named scope.text.symbols name))
    ≡ resolved_operand scope raw
unfolding resolved_operand out-RawOperand Carrier.out
in_block scope raw name path is = sym (ap (resolved_operand scope) is)

-- what OPN opens, as a data block or as an instance
abbrev made_of : (ℕ → ResolvedOperand) → Result ℕ ResolvedOperand → ResolvedOperand
made_of make (Ok n) = make n
made_of make (Err operand) = operand

opened_as : (make : ℕ → ResolvedOperand) (number : Result ℕ Reason) → made_of make (db_opened number) ≡ given_number (given_open make) number
opened_as make (Ok n) = by (may_have block.Db n)
  where
    by : (b : Bool) → made_of make (if b then Ok n else Err behind.NoNumber) ≡ (if b then make n else behind.NoNumber)
    by true = refl
    by false = refl
opened_as make (Err UnknownName) = refl
opened_as make (Err reason) = refl

pub opened : (make : ℕ → ResolvedOperand) (number : Result ℕ Reason) (n : ℕ) → Ok n ≡ db_opened number
    → make n ≡ given_number (given_open make) number
opened make number n e = ap (made_of make) e ∙ opened_as make number

pub not_opened : (make : ℕ → ResolvedOperand) (number : Result ℕ Reason) (operand : ResolvedOperand) → Err operand ≡ db_opened number
    → operand ≡ given_number (given_open make) number
not_opened make number operand e = ap (made_of make) e ∙ opened_as make number
