-- Calls that break no rule, and what they break by their mnemonics.
use Rattle.std.proofs.Common.{◌≡◌, ◌≤◌, ℕ, Bool, true, false, not, ◌==◌, ◌&&◌, nat_le, if◌then◌else◌, List, [], ◌∷◌, ◌++◌, length, Option, Some, None, Result, Ok, Err, refl, sym, ap, ◌∙◌, arith}
use Rattle.std.specs.List.{fold}
use Rattle.std.specs.Option.{is_none, is_some}
use Rattle.std.specs.Result.{result_err}
use Rattle.std.proofs.lemmas.Bool.{and_parts}
use Rattle.std.proofs.lemmas.Bool.Decides.{nat_tests}
use Rattle.std.proofs.lemmas.List.{length-map}
use Rattle.call_operands.specs.inner.Rules.{rule_of_mnemonic, unless_bare}
use Rattle.memory_areas.specs.Access.{and_then}
use Rattle.s7_base.specs.declared.reason.Reason.{Reason}
use Rattle.s7_base.specs.declared.reason.Reason.TheVariants.{BadAddress, BadOperand, DuplicateName}
use Rattle.stl_rules.specs.Calls.{WrittenCall, actual_named, are_repeated, block_call, block_rules, call_of, call_rules, call_unless, formals_called, given_by, instance_found, instance_numbered, instance_of_call, instance_rules, least_rule, lesser, number_or_zero, rule_if, with_rule}
use Rattle.stl_rules.specs.Names.{block_number, block_numbered, db_numbered, may_have}
use Rattle.stl_rules.specs.Programs.{calling, gives_nothing}
use Rattle.stl_rules.specs.Raw.{OperandScope}
use Rattle.stl_statement_grammar.specs.declared.mnemonic.Mnemonic.{Mnemonic}
use Rattle.stl_statement_grammar.specs.declared.mnemonic.Mnemonic.TheVariants as is
use Rattle.stl_tree.specs.declared.program.Actual.{Actual}
use Rattle.stl_tree.specs.declared.program.BlockCall.{BlockCall}
use Rattle.stl_tree.specs.declared.program.Formal.{Formal}
use Rattle.stl_tree.specs.declared.program.Op.{Op}
use Rattle.stl_tree.specs.declared.program.Op.TheVariants as op
use Rattle.stl_tree.specs.declared.raw.BlockKind.{BlockKind}
use Rattle.stl_tree.specs.declared.raw.BlockKind.TheVariants as block
use Rattle.stl_tree.specs.declared.raw.RawCall.{RawCall, out-RawCall}
use Rattle.stl_tree.specs.declared.raw.RawName.{RawName}
use Rattle.stl_tree.specs.declared.raw.RawProgram.{RawProgram}

-- No rule

some_least : (rules : List Reason) (least : Reason) → None ≡ fold with_rule (Some least) rules → ⊥
some_least [] least e = cc
some_least (x ∷ rules) least e = some_least rules (lesser least x) e

none_least : (rules : List Reason) → None ≡ least_rule rules → rules ≡ []
none_least [] e = refl
none_least (x ∷ rules) e = absurd (some_least rules x e)

nil_parts : {X : Type 0} (xs ys : List X) → xs ++ ys ≡ [] → (xs ≡ []) × (ys ≡ [])
nil_parts [] ys e = (refl, e)
nil_parts (x ∷ xs) ys e = absurd cc

-- neither the block of a call nor its instance breaks a rule
no_rule : (scope : OperandScope) (call : WrittenCall) → None ≡ least_rule (call_rules scope call)
    → (block_rules scope call.kind call.actuals (block_number scope.text.symbols call.kind call.block) ≡ [])
    × (instance_rules scope.text call.kind (block_number scope.text.symbols call.kind call.block) call.db ≡ [])
no_rule scope call e =
    let n : Result ℕ Reason = block_number scope.text.symbols call.kind call.block in
    let of_block : List Reason = block_rules scope call.kind call.actuals n in
    let of_instance : List Reason = instance_rules scope.text call.kind n call.db in
    let all = nil_parts (of_block ++ of_instance) (rule_if (are_repeated call.actuals) DuplicateName) (none_least (call_rules scope call) e) in
    nil_parts of_block of_instance all.0

-- so the number of the block is known
pub is_known : (scope : OperandScope) (call : WrittenCall) (reason : Reason) → Err reason ≡ block_number scope.text.symbols call.kind call.block
    → None ≡ least_rule (call_rules scope call) → ⊥
is_known scope call reason e none =
    let broken : block_rules scope call.kind call.actuals (Err reason) ≡ []
    = ap (block_rules scope call.kind call.actuals) e ∙ (no_rule scope call none).0 in
    cc

-- and the number of the instance is one that a data block may have, where there is an instance
right_if : (b : Bool) → rule_if (not b) BadAddress ≡ [] → b ≡ true
right_if true e = refl
right_if false e = absurd cc

numbered_right : (text : RawProgram) (fb number : Result ℕ Reason) → instance_numbered text fb number ≡ [] → may_have block.Db (number_or_zero number) ≡ true
numbered_right text fb (Err reason) e = absurd cc
numbered_right text fb (Ok n) e =
    right_if (may_have block.Db n)
    (nil_parts (rule_if (not (may_have block.Db n)) BadAddress) (instance_found text.symbols fb (db_numbered text.symbols text.dbs n)) e).0

in_range : (n : ℕ) → may_have block.Db n ≡ true → (false ≡ (n == 0)) × (n ≤ 65535)
in_range n h =
    let parts = and_parts (nat_le 1 n) (nat_le n 65535) h in
    (grind (arith, nat_tests), grind (arith, nat_tests))

instance_right : (text : RawProgram) (kind : BlockKind) (fb : Result ℕ Reason) (db : Option RawName) → instance_rules text kind fb db ≡ []
    → (is_none db ≡ (instance_of_call text.symbols db == 0)) × (instance_of_call text.symbols db ≤ 65535)
instance_right text kind fb None e = (refl, omega arith)
instance_right text block.Fb fb (Some name) e =
    in_range (number_or_zero (block_number text.symbols block.Db name)) (numbered_right text fb (block_number text.symbols block.Db name) e)
instance_right text block.Ob fb (Some name) e = absurd cc
instance_right text block.Fc fb (Some name) e = absurd cc
instance_right text block.Db fb (Some name) e = absurd cc

abbrev its : OperandScope → WrittenCall → Result ℕ Reason
its scope call = block_number scope.text.symbols call.kind call.block

pub instance_fits : (scope : OperandScope) (call : WrittenCall) → None ≡ least_rule (call_rules scope call)
    → instance_of_call scope.text.symbols call.db ≤ 65535
instance_fits scope call none = (instance_right scope.text call.kind (its scope call) call.db (no_rule scope call none).1).1

-- The call

-- whether there is an instance
pub none_from : {X : Type 0} (o : Option X) (none : Bool) → is_some o ≡ not none → none ≡ is_none o
none_from None true e = refl
none_from None false e = absurd cc
none_from (Some x) true e = absurd cc
none_from (Some x) false e = refl

-- a call gives nothing where it has no instance, and its block no formals
pub is_bare : (scope : OperandScope) (call : WrittenCall) (number : ℕ) → Ok number ≡ block_number scope.text.symbols call.kind call.block
    → None ≡ least_rule (call_rules scope call)
    → (is_none call.db && (length (formals_called (block_numbered scope.text call.kind number)) == 0)) ≡ gives_nothing (block_call scope call)
is_bare scope call number n none =
    let zero = (instance_right scope.text call.kind (its scope call) call.db (no_rule scope call none).1).0 in
    let given : ℕ → ℕ = λ m. length (formals_called (block_numbered scope.text call.kind m)) in
    let one : Formal → Actual = λ (f : Formal). given_by scope f (actual_named call.actuals f.name) in
    ap (λ b. b && (given number == 0)) zero
    ∙ ap (λ (r : Result ℕ Reason). (instance_of_call scope.text.symbols call.db == 0) && (given (number_or_zero r) == 0)) n
    ∙ ap (λ m. (instance_of_call scope.text.symbols call.db == 0) && (m == 0))
    (sym (length-map (formals_called (block_numbered scope.text call.kind (number_or_zero (its scope call)))) one))

-- Mnemonics

unless : (o : BlockCall → Op) (call : BlockCall) (bare : Bool) → unless_bare bare ≡ result_err (if bare then Ok (o call) else Err BadOperand)
unless o call true = refl
unless o call false = refl

by_mnemonic : (what : Option Mnemonic) (call : BlockCall) → rule_of_mnemonic what (gives_nothing call) ≡ result_err (calling what call)
by_mnemonic (Some is.Call) call = refl
by_mnemonic (Some is.CallAlone) call = unless op.Call call (gives_nothing call)
by_mnemonic (Some is.CallIf) call = unless op.CallIf call (gives_nothing call)
by_mnemonic other call = refl

pub rule_made : (scope : OperandScope) (call : RawCall) (what : Option Mnemonic) (bare : Bool) → None ≡ least_rule (call_rules scope (out-RawCall call))
    → bare ≡ gives_nothing (block_call scope (out-RawCall call))
    → rule_of_mnemonic what bare ≡ result_err (and_then (call_of scope call) (calling what))
rule_made scope call what bare none e =
    let made : BlockCall = block_call scope (out-RawCall call) in
    ap (rule_of_mnemonic what) e ∙ by_mnemonic what made
    ∙ ap (λ (o : Option Reason). result_err (and_then (call_unless o made) (calling what))) none
