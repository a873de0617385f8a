-- What declarations give to names. What is declared outside the units of a text and in one of them, and the rules
-- that are broken there.
-- Held against: IEC 61131-3, 'Variables'.
use Rattle.std.specs.Prelude.{ℕ, ◌+◌, Bool, true, false, not, ◌&&◌, nat_lt, if◌then◌else◌, List, [], ◌++◌, map, is_some}
use Rattle.std.specs.List.{fold}
use Rattle.memory_areas.specs.declared.sizes.TheConstants.{MOST_BLOCKS}
use Rattle.s7_base.specs.declared.reason.Line.{Line}
use Rattle.s7_base.specs.declared.reason.Reason.TheVariants.{TooLarge}
use Rattle.st_tree.specs.declared.expr.StType.{StType}
use Rattle.st_tree.specs.declared.program.Local.{Local}
use Rattle.st_tree.specs.declared.raw.RawGlobal.{RawGlobal}
use Rattle.st_tree.specs.declared.raw.RawGlobalType.{RawGlobalType}
use Rattle.st_tree.specs.declared.raw.RawGlobalType.TheVariants as raw
use Rattle.st_tree.specs.declared.raw.RawLocal.{RawLocal}
use Rattle.st_tree.specs.declared.raw.RawPou.{RawPou}
use Rattle.s7_base.specs.Broken.{rule_break}
use Rattle.st_rules.specs.Judged.{twice}
use Rattle.st_names.specs.Names.{Table, look_up, with_entry}
use Rattle.st_tree.specs.Naming.{key_of}
use Rattle.s7_base.specs.declared.rule_break.Break.{Break}
use Rattle.st_rules.specs.declared.declaration.Inside.{Inside}
use Rattle.st_rules.specs.declared.declaration.Outside.{Outside}
use Rattle.st_names.specs.declared.scope.Formals.{Formals}
use Rattle.st_names.specs.declared.scope.Meaning.{Meaning}
use Rattle.st_names.specs.declared.scope.Meaning.TheVariants as meaning

-- Outside the units: globals, data blocks and units, in the order of the text

-- a global is a data block
abbrev pub is_block : RawGlobalType → Bool
is_block (raw.Plain ty) = false
is_block (raw.Bytes k list) = true

-- the meaning of a global's name, where this many globals that are no data blocks come before it
abbrev pub meaning_of_global : ℕ → RawGlobalType → Meaning
meaning_of_global i (raw.Plain ty) = meaning.Global i ty
meaning_of_global i (raw.Bytes k list) = meaning.Block

-- the meaning of a unit's name, where this many units come before it
abbrev pub meaning_of_unit : ℕ → Bool → Meaning
meaning_of_unit i program = if program then meaning.Program else meaning.Function i

-- one where a test is true, else none
abbrev pub one_if : Bool → ℕ
one_if test = if test then 1 else 0

-- the rule that is broken where a data block has a new number and there are as many data blocks as there may be
abbrev pub one_too_many : Line → Bool → ℕ → List Break
one_too_many line new blocks = if new && not (nat_lt blocks MOST_BLOCKS) then rule_break line TooLarge else []

-- one global more
abbrev pub with_global : Outside → RawGlobal → Outside
with_global d g =
    let first = look_up (key_of g.name) d.names in
    let new = not (is_some first) && is_block g.ty in
    record {
      names = with_entry (key_of g.name) (meaning_of_global d.globals g.ty) d.names;
      globals = d.globals + one_if (not (is_block g.ty));
      blocks = d.blocks + one_if new;
      units = d.units;
      breaks = d.breaks ++ (twice g.line first ++ one_too_many g.line new d.blocks);
    }

-- one unit more
abbrev pub with_unit : Outside → RawPou → Outside
with_unit d u = record {
  names = with_entry (key_of u.name) (meaning_of_unit d.units u.program) d.names;
  globals = d.globals;
  blocks = d.blocks;
  units = d.units + 1;
  breaks = d.breaks ++ twice u.line (look_up (key_of u.name) d.names);
}

-- nothing is declared
abbrev pub no_outside : Outside
no_outside = record { names = []; globals = 0; blocks = 0; units = 0; breaks = [] }

-- what is declared outside the units
abbrev pub all_outside : List RawGlobal → List RawPou → Outside
all_outside globals units = fold with_unit (fold with_global no_outside globals) units

-- In a unit: its formals, then its locals

-- one formal more
abbrev pub with_formal : Inside → RawLocal → Inside
with_formal d l = record {
  names = with_entry (key_of l.name) (meaning.Formal d.formals l.ty) d.names;
  formals = d.formals + 1;
  locals = d.locals;
  breaks = d.breaks ++ twice l.line (look_up (key_of l.name) d.names);
}

-- one local more
abbrev pub with_local : Inside → RawLocal → Inside
with_local d l = record {
  names = with_entry (key_of l.name) (meaning.Local d.locals l.ty) d.names;
  formals = d.formals;
  locals = d.locals + 1;
  breaks = d.breaks ++ twice l.line (look_up (key_of l.name) d.names);
}

-- nothing is declared
abbrev pub no_inside : Inside
no_inside = record { names = []; formals = 0; locals = 0; breaks = [] }

-- what is declared in a unit
abbrev pub all_inside : List RawLocal → List RawLocal → Inside
all_inside formals locals = fold with_local (fold with_formal no_inside formals) locals

-- Formals as calls see them

-- the keys of some formals
abbrev pub keys_of : List RawLocal → List (List ℕ)
keys_of formals = map (λ (l : RawLocal). key_of l.name) formals

-- one formal more, under its key
abbrev pub with_type : Table StType → RawLocal → Table StType
with_type types l = with_entry (key_of l.name) l.ty types

-- the types of some formals, under their keys
abbrev pub types_of : List RawLocal → Table StType
types_of formals = fold with_type [] formals

-- the formals of a unit
abbrev pub formals_of : RawPou → Formals
formals_of u = record { keys = keys_of u.formals; types = types_of u.formals }

-- a formal or a local in the tree
abbrev pub local_of : RawLocal → Local
local_of l = record { name = l.name; ty = l.ty }

-- the formals or the locals of a unit in the tree, in the order of the text
abbrev pub locals_of : List RawLocal → List Local
locals_of locals = map local_of locals
