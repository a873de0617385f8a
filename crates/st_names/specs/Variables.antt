-- How variables are judged. What a written variable is in the tree with its type, or the rule that it breaks.
-- Held against: IEC 61131-3, 'Variables'.
use Rattle.std.specs.Prelude.{ℕ, Bool, ◌&&◌, nat_le, if◌then◌else◌, Option, Some, None, Result, Ok, Err}
use Rattle.memory_areas.specs.Access.{is_byte_in}
use Rattle.memory_areas.specs.declared.place.AreaName.{AreaName}
use Rattle.memory_areas.specs.declared.place.AreaName.TheVariants as area
use Rattle.s7_base.specs.declared.reason.Reason.{Reason}
use Rattle.s7_base.specs.declared.reason.Reason.TheVariants.{UnknownName, BadAddress, TypeMismatch}
use Rattle.s7_base.specs.declared.word.Width.{Width}
use Rattle.st_tree.specs.State.{type_of_register}
use Rattle.st_tree.specs.Values.{type_of_width}
use Rattle.st_tree.specs.declared.expr.StType.{StType}
use Rattle.st_tree.specs.declared.expr.Var.{Var}
use Rattle.st_tree.specs.declared.expr.Var.TheVariants as var
use Rattle.st_tree.specs.declared.raw.RawVar.{RawVar}
use Rattle.st_tree.specs.declared.raw.RawVar.TheVariants as raw
use Rattle.st_tree.specs.Naming.{key_of}
use Rattle.st_tree.specs.PlaceRules.{is_block_number}
use Rattle.st_names.specs.Scopes.{meaning_in}
use Rattle.st_names.specs.declared.scope.Meaning.{Meaning}
use Rattle.st_names.specs.declared.scope.Meaning.TheVariants as meaning
use Rattle.st_names.specs.declared.scope.NameScope.{NameScope}
use Rattle.st_names.specs.declared.variable.TypedVar.{TypedVar}

-- the byte and the bit of a written address are ones that its area may have
abbrev pub is_place : AreaName → Width → ℕ → ℕ → Bool
is_place a w byte bit = is_byte_in a w byte && nat_le bit 7

-- a written address is one that may be written, with the number of a data block where there is one
abbrev pub is_address : AreaName → Option ℕ → Width → ℕ → ℕ → Bool
is_address a None w byte bit = is_place a w byte bit
is_address a (Some n) w byte bit = is_block_number n && is_place area.Db w byte bit

-- a variable of a type
abbrev pub variable_of : StType → Var → Result TypedVar Reason
variable_of ty v = Ok (record { ty = ty; var = v })

-- a place by its written address, with the number of a data block where there is one
abbrev pub place_at : AreaName → Option ℕ → Width → ℕ → ℕ → Result TypedVar Reason
place_at a None w byte bit =
    if is_place a w byte bit then variable_of (type_of_width w) (var.Direct a byte bit w) else Err BadAddress
place_at a (Some n) w byte bit =
    if is_block_number n && is_place area.Db w byte bit then variable_of (type_of_width w) (var.InBlock n byte bit w)
    else Err BadAddress

-- the variable that a name means: a unit or a data block is none
abbrev pub variable_named : Option Meaning → Result TypedVar Reason
variable_named None = Err UnknownName
variable_named (Some (meaning.Register r)) = variable_of (type_of_register r) (var.Register r)
variable_named (Some (meaning.Formal i ty)) = variable_of ty (var.Formal i)
variable_named (Some (meaning.Local i ty)) = variable_of ty (var.Local i)
variable_named (Some (meaning.Global i ty)) = variable_of ty (var.Global i)
variable_named (Some meaning.Block) = Err TypeMismatch
variable_named (Some meaning.Program) = Err TypeMismatch
variable_named (Some (meaning.Function i)) = Err TypeMismatch

-- a variable as it is written
abbrev pub variable : NameScope → RawVar → Result TypedVar Reason
variable scope (raw.Name name) = variable_named (meaning_in scope (key_of name))
variable scope (raw.Direct a block w byte bit) = place_at a block w byte bit
