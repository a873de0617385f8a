-- How units are judged. What they are in the tree, what they call, and the rules that are broken in them.
-- Held against: IEC 61131-3, 'Program organization units'.
use Rattle.std.specs.Prelude.{◌++◌, List, map}
use Rattle.std.specs.List.{flat_map}
use Rattle.st_tree.specs.declared.program.Pou.{Pou}
use Rattle.st_tree.specs.declared.raw.RawPou.{RawPou}
use Rattle.st_rules.specs.Judged.{found_in, breaks_in}
use Rattle.st_rules.specs.Calls.{all_calls}
use Rattle.st_rules.specs.Declarations.{all_inside, locals_of}
use Rattle.st_names.specs.Names.{Table}
use Rattle.st_rules.specs.Statements.{statements}
use Rattle.s7_base.specs.declared.rule_break.Break.{Break}
use Rattle.call_chains.specs.declared.call.Call.{Call}
use Rattle.st_names.specs.declared.scope.Formals.{Formals}
use Rattle.st_names.specs.declared.scope.Meaning.{Meaning}
use Rattle.st_names.specs.declared.scope.NameScope.{NameScope}

-- what names mean in a unit
abbrev pub scope_in : Table Meaning → List Formals → RawPou → NameScope
scope_in outer formals u = record { outer = outer; formals = formals; inner = (all_inside u.formals u.locals).names }

-- a unit in the tree
abbrev pub unit_in : NameScope → RawPou → Pou
unit_in scope u = record {
  program = u.program;
  name = u.name;
  formals = locals_of u.formals;
  locals = locals_of u.locals;
  body = found_in (statements scope u.body);
}

-- the rules that are broken in a unit
abbrev pub unit_breaks : NameScope → RawPou → List Break
unit_breaks scope u = (all_inside u.formals u.locals).breaks ++ breaks_in (statements scope u.body)

-- a unit in the tree, by what is declared outside it
abbrev pub unit_of : Table Meaning → List Formals → RawPou → Pou
unit_of outer formals u = unit_in (scope_in outer formals u) u

-- the rules that are broken in a unit, by what is declared outside it
abbrev pub breaks_of_unit : Table Meaning → List Formals → RawPou → List Break
breaks_of_unit outer formals u = unit_breaks (scope_in outer formals u) u

-- the calls of a unit, by what is declared outside it
abbrev pub calls_of_unit : Table Meaning → List Formals → RawPou → List Call
calls_of_unit outer formals u = all_calls (scope_in outer formals u) u.body

-- all units in the tree, in the order of the text
abbrev pub all_units : Table Meaning → List Formals → List RawPou → List Pou
all_units outer formals units = map (unit_of outer formals) units

-- the calls of each unit, in the order of the text
abbrev pub calls_of_units : Table Meaning → List Formals → List RawPou → List (List Call)
calls_of_units outer formals units = map (calls_of_unit outer formals) units

-- the rules that are broken in all units
abbrev pub all_unit_breaks : Table Meaning → List Formals → List RawPou → List Break
all_unit_breaks outer formals units = flat_map (breaks_of_unit outer formals) units
