-- The calls of a source. Which block is called, which data block is its instance, and what each formal is given; or the
-- rules that a call breaks.
-- Held against: this project's own rules.
use Rattle.std.specs.Prelude.{ℕ, Bool, true, false, not, ◌==◌, ◌&&◌, ◌||◌, nat_lt, if◌then◌else◌, List, [], ◌∷◌, ◌++◌, map, Option, Some, None, Result, Ok, Err}
use Rattle.std.specs.List.{find, flat_map, fold, list_any}
use Rattle.std.specs.Option.{is_none}
use Rattle.s7_base.specs.Broken.{rule_number}
use Rattle.s7_base.specs.Tokens.{is_same_word}
use Rattle.s7_base.specs.declared.reason.Reason.{Reason}
use Rattle.s7_base.specs.declared.reason.Reason.TheVariants.{BadAddress, BadOperand, DuplicateName, UnknownBlock, UnknownName}
use Rattle.s7_base.specs.declared.word.Width.{Width}
use Rattle.s7_base.specs.declared.word.Width.TheVariants as width
use Rattle.stl_rules.specs.DeclarationRules.{fits_width, is_named, key_of, with_name}
use Rattle.stl_rules.specs.Interfaces.{formal_named, formals_of}
use Rattle.stl_rules.specs.Names.{block_number, block_numbered, block_position, db_numbered, is_number, may_have}
use Rattle.stl_rules.specs.Raw.{OperandScope, resolved_operand}
use Rattle.stl_rules.specs.declared.resolved_operand.ResolvedOperand.{ResolvedOperand}
use Rattle.stl_rules.specs.declared.resolved_operand.ResolvedOperand.TheVariants as behind
use Rattle.stl_statement_grammar.specs.Constants.{value_in}
use Rattle.stl_tree.specs.Accepted.{is_written, takes_constants}
use Rattle.stl_tree.specs.Accumulators.{part}
use Rattle.stl_tree.specs.declared.program.Actual.{Actual}
use Rattle.stl_tree.specs.declared.program.Actual.TheVariants as actual
use Rattle.stl_tree.specs.declared.program.BlockCall.{BlockCall}
use Rattle.stl_tree.specs.declared.program.Formal.{Formal}
use Rattle.stl_tree.specs.declared.raw.BlockKind.{BlockKind}
use Rattle.stl_tree.specs.declared.raw.BlockKind.TheVariants as block
use Rattle.stl_tree.specs.declared.raw.RawActual.{RawActual}
use Rattle.stl_tree.specs.declared.raw.RawBlock.{RawBlock}
use Rattle.stl_tree.specs.declared.raw.RawCall.{RawCall, RawCall-F, out-RawCall}
use Rattle.stl_tree.specs.declared.raw.RawData.{RawData}
use Rattle.stl_tree.specs.declared.raw.RawDataKind.{RawDataKind}
use Rattle.stl_tree.specs.declared.raw.RawDataKind.TheVariants as data_kind
use Rattle.stl_tree.specs.declared.raw.RawName.{RawName}
use Rattle.stl_tree.specs.declared.raw.RawOperand.{RawOperand}
use Rattle.stl_tree.specs.declared.raw.RawProgram.{RawProgram}
use Rattle.stl_tree.specs.declared.raw.SymbolLine.{SymbolLine}

-- Instances

-- a data block is an instance of the function block of a number
abbrev pub is_instance : List SymbolLine → ℕ → RawDataKind → Bool
is_instance symbols n (data_kind.Own decls) = false
is_instance symbols n (data_kind.Instance name) = is_number n (block_number symbols block.Fb name)

-- What is given

-- two widths are equal
abbrev pub is_same_width : Width → Width → Bool
is_same_width width.Bit width.Bit = true
is_same_width width.Byte width.Byte = true
is_same_width width.Word width.Word = true
is_same_width width.Dword width.Dword = true
is_same_width a b = false

-- what a resolved operand gives to a formal, or the rule that is broken: a constant to an input alone, of its width, or
-- a written place of its width
abbrev pub given_to : Formal → ResolvedOperand → Result Actual Reason
given_to f (behind.Constant c) =
    if takes_constants f.mode && fits_width f.width c
    then Ok (actual.Constant (part f.width (value_in f.width c)))
    else Err BadOperand
given_to f (behind.At o w) = if is_written o && is_same_width w f.width then Ok (actual.At o) else Err BadOperand
given_to f (behind.Outside name w) = Err (if is_same_width w f.width then BadAddress else BadOperand)
given_to f behind.NoPointer =
    Err (if takes_constants f.mode && is_same_width width.Dword f.width then BadAddress else BadOperand)
given_to f behind.Unknown = Err UnknownName
given_to f behind.Unjudged = Ok actual.Missing
given_to f other = Err BadOperand

-- the first of the actuals that names a formal
abbrev pub is_given : List ℕ → RawActual → Bool
is_given name a = is_same_word a.formal name

abbrev pub actual_named : List RawActual → List ℕ → Option RawActual
actual_named actuals name = find (is_given name) actuals

-- what a call gives to a formal, or nothing
abbrev pub or_missing : Result Actual Reason → Actual
or_missing (Ok a) = a
or_missing (Err reason) = actual.Missing

abbrev pub given_by : OperandScope → Formal → Option RawActual → Actual
given_by scope f None = actual.Missing
given_by scope f (Some a) = or_missing (given_to f (resolved_operand scope a.value))

abbrev pub actuals_for : OperandScope → List RawActual → List Formal → List Actual
actuals_for scope actuals formals = map (λ (f : Formal). given_by scope f (actual_named actuals f.name)) formals

-- Rules

-- a call as it is written
abbrev pub WrittenCall : Type 0
WrittenCall = RawCall-F RawOperand RawActual RawCall

-- the rule of a result, if one is broken
abbrev pub broken_rule : {X : Type 0} → Result X Reason → List Reason
broken_rule (Ok x) = []
broken_rule (Err reason) = reason ∷ []

-- a rule is broken where a condition is true
abbrev pub rule_if : Bool → Reason → List Reason
rule_if true reason = reason ∷ []
rule_if false reason = []

-- the rules that an actual breaks whatever its formal is: its name is declared, and its address lies in its area
abbrev pub own_rules : ResolvedOperand → List Reason
own_rules behind.Unknown = UnknownName ∷ []
own_rules (behind.Outside name w) = BadAddress ∷ []
own_rules behind.NoPointer = BadAddress ∷ []
own_rules other = []

-- those of all actuals
abbrev pub all_own_rules : OperandScope → List RawActual → List Reason
all_own_rules scope actuals = flat_map (λ (a : RawActual). own_rules (resolved_operand scope a.value)) actuals

-- the rules that what is given breaks with the formal of its name
abbrev pub rules_with : Option (ℕ × Formal) → ResolvedOperand → List Reason
rules_with None given = UnknownName ∷ own_rules given
rules_with (Some f) given = broken_rule (given_to f.1 given)

-- the rules that actuals break with formals
abbrev pub rules_of_actuals : OperandScope → List Formal → List RawActual → List Reason
rules_of_actuals scope formals actuals =
    flat_map (λ (a : RawActual). rules_with (formal_named 0 formals a.formal) (resolved_operand scope a.value)) actuals

-- some actuals give one formal twice, after ones that give formals of these names
abbrev pub repeats_behind : List (List ℕ) → List RawActual → Bool
repeats_behind names [] = false
repeats_behind names (a ∷ actuals) =
    is_named (key_of a.formal) names || repeats_behind (with_name (key_of a.formal) names) actuals

abbrev pub are_repeated : List RawActual → Bool
are_repeated actuals = repeats_behind [] actuals

-- a formal has no actual
abbrev pub misses_one : List RawActual → List Formal → Bool
misses_one actuals formals = list_any (λ (f : Formal). is_none (actual_named actuals f.name)) formals

-- each formal of a function is given; one of a function block may be left out
abbrev pub missing_rules : BlockKind → List RawActual → List Formal → List Reason
missing_rules block.Fc actuals formals = rule_if (misses_one actuals formals) BadOperand
missing_rules other actuals formals = []

-- the rules that the actuals of a call break, if its block is found
abbrev pub actual_rules : OperandScope → BlockKind → List RawActual → Option RawBlock → List Reason
actual_rules scope kind actuals None = UnknownBlock ∷ all_own_rules scope actuals
actual_rules scope kind actuals (Some raw) =
    rules_of_actuals scope (formals_of raw) actuals ++ missing_rules kind actuals (formals_of raw)

-- the rules that a call breaks by the number of its block
abbrev pub block_rules : OperandScope → BlockKind → List RawActual → Result ℕ Reason → List Reason
block_rules scope kind actuals (Err reason) = reason ∷ all_own_rules scope actuals
block_rules scope kind actuals (Ok n) =
    rule_if (not (may_have kind n)) BadAddress ++ actual_rules scope kind actuals (block_numbered scope.text kind n)

-- a data block that is there is no instance of the function block of a number, where that is known
abbrev pub is_other : List SymbolLine → Result ℕ Reason → RawDataKind → Bool
is_other symbols (Err reason) kind = false
is_other symbols (Ok n) kind = not (is_instance symbols n kind)

-- the rules that a data block breaks as the instance of a function block
abbrev pub instance_found : List SymbolLine → Result ℕ Reason → Option RawData → List Reason
instance_found symbols fb None = UnknownBlock ∷ []
instance_found symbols fb (Some d) = rule_if (is_other symbols fb d.kind) BadOperand

abbrev pub instance_numbered : RawProgram → Result ℕ Reason → Result ℕ Reason → List Reason
instance_numbered text fb (Err reason) = reason ∷ []
instance_numbered text fb (Ok n) =
    rule_if (not (may_have block.Db n)) BadAddress
    ++ instance_found text.symbols fb (db_numbered text.symbols text.dbs n)

-- a function block is called with an instance, a function with none
abbrev pub instance_rules : RawProgram → BlockKind → Result ℕ Reason → Option RawName → List Reason
instance_rules text block.Fc fb None = []
instance_rules text block.Fb fb (Some name) = instance_numbered text fb (block_number text.symbols block.Db name)
instance_rules text kind fb db = BadOperand ∷ []

-- all rules that a call breaks
abbrev pub call_rules : OperandScope → WrittenCall → List Reason
call_rules scope call =
    let n = block_number scope.text.symbols call.kind call.block in
    block_rules scope call.kind call.actuals n ++ instance_rules scope.text call.kind n call.db
    ++ rule_if (are_repeated call.actuals) DuplicateName

-- the rule with the lesser number
abbrev pub lesser : Reason → Reason → Reason
lesser a b = if nat_lt (rule_number b) (rule_number a) then b else a

-- the rule of the least number so far, and one more
abbrev pub with_rule : Option Reason → Reason → Option Reason
with_rule None reason = Some reason
with_rule (Some least) reason = Some (lesser least reason)

-- the rule of the least number, if there is one
abbrev pub least_rule : List Reason → Option Reason
least_rule reasons = fold with_rule None reasons

-- The call

-- the position of a block, or any where there is none
abbrev pub or_zero : Option ℕ → ℕ
or_zero None = 0
or_zero (Some n) = n

abbrev pub number_or_zero : Result ℕ Reason → ℕ
number_or_zero (Ok n) = n
number_or_zero (Err reason) = 0

-- the instance of a call, 0 for a function
abbrev pub instance_of_call : List SymbolLine → Option RawName → ℕ
instance_of_call symbols None = 0
instance_of_call symbols (Some name) = number_or_zero (block_number symbols block.Db name)

abbrev pub formals_called : Option RawBlock → List Formal
formals_called None = []
formals_called (Some raw) = formals_of raw

-- a call that breaks no rule
abbrev pub block_call : OperandScope → WrittenCall → BlockCall
block_call scope call =
    let n = number_or_zero (block_number scope.text.symbols call.kind call.block) in
    record {
      block = or_zero (block_position scope.text call.kind n);
      instance = instance_of_call scope.text.symbols call.db;
      actuals = actuals_for scope call.actuals (formals_called (block_numbered scope.text call.kind n));
    }

-- a call, or the rule that it breaks, of several the one with the least number
abbrev pub call_unless : Option Reason → BlockCall → Result BlockCall Reason
call_unless None call = Ok call
call_unless (Some reason) call = Err reason

abbrev pub call_of : OperandScope → RawCall → Result BlockCall Reason
call_of scope call =
    call_unless (least_rule (call_rules scope (out-RawCall call))) (block_call scope (out-RawCall call))
