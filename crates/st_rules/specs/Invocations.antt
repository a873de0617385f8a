-- How calls are judged. Which function is called, what each of its formals is given, and the rules that are broken
-- there.
-- Held against: IEC 61131-3, 'Functions'.
use Rattle.std.specs.Prelude.{ℕ, Bool, ◌++◌, is_none, if◌then◌else◌, List, [], slice_get, Option, Some, None, Result, Ok, Err}
use Rattle.std.specs.List.{fold, flat_map, list_any}
use Rattle.s7_base.specs.declared.reason.Line.{Line}
use Rattle.s7_base.specs.declared.reason.Reason.{Reason}
use Rattle.s7_base.specs.declared.reason.Reason.TheVariants.{UnknownName, DuplicateName, TypeMismatch}
use Rattle.st_tree.specs.declared.expr.StType.{StType}
use Rattle.st_tree.specs.declared.expr.Var.{Var}
use Rattle.st_tree.specs.declared.program.Stmt.{Stmt}
use Rattle.st_tree.specs.declared.program.Stmt.TheVariants as stmt
use Rattle.st_tree.specs.declared.raw.RawVar.{RawVar}
use Rattle.s7_base.specs.Broken.{rule_break}
use Rattle.st_rules.specs.Judged.{Judged, sound, breaks_rule, after_breaks, twice}
use Rattle.st_names.specs.Lists.{as_list}
use Rattle.st_rules.specs.Expressions.{variable_on}
use Rattle.st_names.specs.Names.{Table, look_up, with_entry}
use Rattle.st_tree.specs.Naming.{key_of}
use Rattle.st_names.specs.Scopes.{meaning_in}
use Rattle.st_tree.specs.TypeRules.{is_type}
use Rattle.s7_base.specs.declared.rule_break.Break.{Break}
use Rattle.st_names.specs.declared.scope.Formals.{Formals}
use Rattle.st_names.specs.declared.scope.Meaning.{Meaning}
use Rattle.st_names.specs.declared.scope.Meaning.TheVariants as meaning
use Rattle.st_names.specs.declared.scope.NameScope.{NameScope}
use Rattle.st_names.specs.declared.variable.TypedVar.{TypedVar}

-- an actual as it is written: the formal's name, and the variable that it is given
abbrev pub Actual : Type 0
Actual = List ℕ × RawVar

-- what the formals are given by some actuals, under their keys, and the rules that are broken in these; a formal with
-- a broken variable counts as given, without a variable
pub record GivenActuals : Type 0 where
  pub vars : Table (Option Var)
  pub breaks : List Break

-- the function that a name means, or the rule that its call breaks
abbrev pub callee : Option Meaning → Result ℕ Reason
callee None = Err UnknownName
callee (Some (meaning.Function i)) = Ok i
callee (Some other) = Err TypeMismatch

-- the rules that an actual breaks, by its formal's type, what that formal is given before, and its variable: the
-- formal must exist, be given once, and take a variable of its type
abbrev pub formal_breaks : Line → Option StType → Option (Option Var) → Option TypedVar → List Break
formal_breaks line None before v = rule_break line UnknownName
formal_breaks line (Some ty) (Some other) v = rule_break line DuplicateName
formal_breaks line (Some ty) None None = []
formal_breaks line (Some ty) None (Some v) = if is_type v.ty ty then [] else rule_break line TypeMismatch

-- a variable without its type
abbrev pub plain : Option TypedVar → Option Var
plain None = None
plain (Some v) = Some v.var

-- one actual more
abbrev pub with_actual : NameScope → Line → Table StType → GivenActuals → Actual → GivenActuals
with_actual scope line types given actual =
    let key = key_of actual.0 in
    let v = variable_on scope line actual.1 in
    record {
      vars = with_entry key (plain v.found) given.vars;
      breaks = given.breaks ++ (v.breaks ++ formal_breaks line (look_up key types) (look_up key given.vars) v.found);
    }

-- no actuals
abbrev pub none_given : GivenActuals
none_given = record { vars = []; breaks = [] }

-- what the formals are given by all actuals
abbrev pub given_by : NameScope → Line → Table StType → List Actual → GivenActuals
given_by scope line types actuals = fold (with_actual scope line types) none_given actuals

-- the variable that a formal is given
abbrev pub var_given : Option (Option Var) → Option Var
var_given None = None
var_given (Some v) = v

-- a formal is given nothing
abbrev pub lacks : Table (Option Var) → List (List ℕ) → Bool
lacks vars keys = list_any (λ key. is_none (look_up key vars)) keys

-- the variables in the order of the formals
abbrev pub in_order : Table (Option Var) → List (List ℕ) → List Var
in_order vars keys = flat_map (λ key. as_list (var_given (look_up key vars))) keys

-- a call with what its formals are given: each must be given something
abbrev pub call_with : Line → ℕ → Table (Option Var) → List (List ℕ) → Judged Stmt
call_with line i vars keys =
    if lacks vars keys then breaks_rule line TypeMismatch else sound (stmt.Invoke i (in_order vars keys))

-- one actual more of a call of what is no function: no formal is looked up, but its name may be given once
abbrev pub with_name : NameScope → Line → GivenActuals → Actual → GivenActuals
with_name scope line given actual =
    let key = key_of actual.0 in
    let v = variable_on scope line actual.1 in
    record {
      vars = with_entry key (plain v.found) given.vars;
      breaks = given.breaks ++ (v.breaks ++ twice line (look_up key given.vars));
    }

-- what all actuals give in a call of what is no function
abbrev pub given_to_none : NameScope → Line → List Actual → GivenActuals
given_to_none scope line actuals = fold (with_name scope line) none_given actuals

-- a call that breaks a rule by what it calls; whether its actuals name formals is not asked
abbrev pub no_call : NameScope → Line → Reason → List Actual → Judged Stmt
no_call scope line rule actuals =
    record { found = None; breaks = rule_break line rule ++ (given_to_none scope line actuals).breaks }

-- a call of a function with these formals
abbrev pub function_call : NameScope → Line → ℕ → Option Formals → List Actual → Judged Stmt
function_call scope line i None actuals = no_call scope line TypeMismatch actuals
function_call scope line i (Some formals) actuals =
    let given = given_by scope line formals.types actuals in
    after_breaks given.breaks (call_with line i given.vars formals.keys)

-- a call by what its name means
abbrev pub call_of : NameScope → Line → Result ℕ Reason → List Actual → Judged Stmt
call_of scope line (Err rule) actuals = no_call scope line rule actuals
call_of scope line (Ok i) actuals = function_call scope line i (slice_get scope.formals i) actuals

-- a call as it is written
abbrev pub invocation : NameScope → Line → List ℕ → List Actual → Judged Stmt
invocation scope line name actuals = call_of scope line (callee (meaning_in scope (key_of name))) actuals
