-- What a written operand means. It is a place, a pointer, a constant or a data block, given what names mean.
-- Held against: this project's own rules.
use Rattle.std.specs.Prelude.{ℕ, Bool, true, false, ◌&&◌, ◌||◌, if◌then◌else◌, List, [], ◌∷◌, Option, Some, None, Result, Ok, Err}
use Rattle.memory_areas.specs.declared.place.AreaName.{AreaName}
use Rattle.memory_areas.specs.declared.place.AreaName.TheVariants as area
use Rattle.s7_base.specs.declared.reason.Reason.{Reason}
use Rattle.s7_base.specs.declared.reason.Reason.TheVariants.{UnknownName}
use Rattle.stl_rules.specs.Labels.{target_in}
use Rattle.stl_rules.specs.Interfaces.{are_refused, are_temporaries_refused, begins_in, formal_named, formals_of, interface_of, is_interface_refused, most_in_block, most_local, temporaries_of}
use Rattle.stl_rules.specs.Names.{block_found, block_number, db_numbered, may_have, symbol_named}
use Rattle.stl_rules.specs.declared.resolved_operand.ResolvedOperand.{ResolvedOperand}
use Rattle.stl_rules.specs.declared.resolved_operand.ResolvedOperand.TheVariants as behind
use Rattle.stl_statement_grammar.specs.Constants.{constant}
use Rattle.stl_statement_grammar.specs.Pointers.{is_in_reach, offset_of, value_of}
use Rattle.stl_statement_grammar.specs.Statements.{is_in_area}
use Rattle.s7_base.specs.declared.word.Width.{Width}
use Rattle.s7_base.specs.declared.word.Width.TheVariants as width
use Rattle.memory_areas.specs.Access.{is_byte_in}
use Rattle.stl_tree.specs.Accepted.{may_hold_pointers}
use Rattle.stl_tree.specs.declared.program.Operand.{Operand}
use Rattle.stl_tree.specs.declared.raw.RawPointer.{RawPointer}
use Rattle.stl_tree.specs.declared.program.Formal.{Formal as BlockFormal}
use Rattle.stl_tree.specs.declared.program.Operand.TheVariants.{ByMemory, ByRegister, Crossing, Direct, Formal, Opened}
use Rattle.stl_tree.specs.declared.raw.BlockKind.{BlockKind}
use Rattle.stl_tree.specs.declared.raw.BlockKind.TheVariants as block
use Rattle.stl_tree.specs.declared.raw.Declaration.{Declaration}
use Rattle.stl_tree.specs.declared.raw.ElemType.{ElemType}
use Rattle.stl_tree.specs.declared.raw.PathStep.{PathStep}
use Rattle.stl_tree.specs.declared.raw.PathStep.TheVariants as step
use Rattle.stl_tree.specs.declared.raw.RawActual.{RawActual}
use Rattle.stl_tree.specs.declared.raw.RawBlock.{RawBlock}
use Rattle.stl_tree.specs.declared.raw.RawCall.{RawCall}
use Rattle.stl_tree.specs.declared.raw.RawData.{RawData}
use Rattle.stl_tree.specs.declared.raw.RawDataKind.{RawDataKind}
use Rattle.stl_tree.specs.declared.raw.RawDataKind.TheVariants as data_kind
use Rattle.stl_tree.specs.declared.raw.RawName.TheVariants as raw_name
use Rattle.stl_tree.specs.declared.raw.RawOperand.{RawOperand, RawOperand-F, out-RawOperand}
use Rattle.stl_tree.specs.declared.raw.RawOperand.TheOpen as layer
use Rattle.stl_tree.specs.declared.raw.RawPlace.{RawPlace}
use Rattle.stl_tree.specs.declared.raw.RawProgram.{RawProgram}
use Rattle.stl_tree.specs.declared.raw.SymbolAddress.{SymbolAddress}
use Rattle.stl_tree.specs.declared.raw.SymbolAddress.TheVariants as address
use Rattle.stl_rules.specs.Extents.{width_of}
use Rattle.stl_rules.specs.Paths.{component_in}
use Rattle.stl_rules.specs.declared.layout.Component.{Component}

-- what names mean in a block of a text
pub record OperandScope : Type 0 where
  pub text : RawProgram
  pub block : RawBlock

-- Written places

-- a place has this number of a data block before it, or none
abbrev pub is_placed : RawPlace → Option ℕ → Bool
is_placed place None = is_in_area place
is_placed place (Some n) = is_in_area place && may_have block.Db n

abbrev pub operand_at : RawPlace → Option ℕ → ResolvedOperand
operand_at place None = behind.At (Direct place.area place.byte place.bit) place.width
operand_at place (Some n) = behind.At (Opened n place.byte place.bit) place.width

-- a written place as an operand, inside its area or outside it
abbrev pub given_place : RawPlace → ResolvedOperand
given_place place =
    if is_placed place place.block then operand_at place place.block else behind.Outside place.area place.width

-- Pointers

-- a place of a width that is named by a pointer, where the numbers of the pointer are in their ranges
abbrev pub given_if : Bool → AreaName → Width → Operand → ResolvedOperand
given_if true name w o = behind.At o w
given_if false name w o = behind.Outside name w

-- a pointer as a constant of a double word, where its numbers are ones that pointers have
abbrev pub given_pointer : RawPointer → ResolvedOperand
given_pointer p = if is_in_reach p then behind.Constant (constant width.Dword (value_of p)) else behind.NoPointer

-- a pointer, or the number of a data block, of this width may be stored at a written place, which lies in its area
abbrev pub may_stand : Width → RawPlace → Bool
may_stand w place = may_hold_pointers place.area && is_byte_in place.area w place.byte

-- the operand of OPN for the number in a word
abbrev pub given_held : (Operand → ResolvedOperand) → RawPlace → ResolvedOperand
given_held make place = if may_stand width.Word place then make (Direct place.area place.byte 0) else behind.NoNumber

-- Names

-- a symbol as an operand
abbrev pub given_symbol : Option SymbolAddress → ResolvedOperand
given_symbol None = behind.Unknown
given_symbol (Some (address.At place)) = given_place place
given_symbol (Some elsewhere) = behind.Unfit

-- the place of a component as an operand, in an area or in the data block of a number; a whole ARRAY or STRUCT is no
-- operand
abbrev pub place_of_kind : Option ℕ → AreaName → Component → Option ElemType → ResolvedOperand
place_of_kind number name at None = behind.Unfit
place_of_kind number name at (Some e) =
    given_place (record { block = number; area = name; width = width_of e; byte = at.byte; bit = at.bit })

abbrev pub given_component : Option ℕ → AreaName → Option Component → ResolvedOperand
given_component number name None = behind.Unknown
given_component number name (Some at) = place_of_kind number name at at.kind

-- the operand that a path names in sections
abbrev pub given_path : ℕ → Option ℕ → AreaName → List (List Declaration) → List PathStep → ResolvedOperand
given_path limit number name sections path =
    if are_refused limit sections then behind.Unjudged else given_component number name (component_in sections path)

-- the operand that a path names in an instance of a function block, which may not be in the text
abbrev pub given_in_instance : ℕ → List PathStep → Option RawBlock → ResolvedOperand
given_in_instance n path None = behind.Unknown
given_in_instance n path (Some raw) =
    if is_interface_refused raw then behind.Unjudged
    else given_component (Some n) area.Db (component_in (interface_of raw) path)

abbrev pub given_in_kind : RawProgram → ℕ → List PathStep → RawDataKind → ResolvedOperand
given_in_kind text n path (data_kind.Own decls) = given_path most_in_block (Some n) area.Db (decls ∷ []) path
given_in_kind text n path (data_kind.Instance name) =
    given_in_instance n path (block_found text block.Fb (block_number text.symbols block.Fb name))

abbrev pub given_in_data : RawProgram → ℕ → List PathStep → Option RawData → ResolvedOperand
given_in_data text n path None = behind.Unknown
given_in_data text n path (Some d) = given_in_kind text n path d.kind

-- Variables

-- the operand that a formal of a function is, by its position; nothing is inside a formal
abbrev pub formal_operand : Option (ℕ × BlockFormal) → ResolvedOperand
formal_operand None = behind.Unknown
formal_operand (Some f) = behind.At (Formal f.0) f.1.width

abbrev pub given_formal : List BlockFormal → List PathStep → ResolvedOperand
given_formal formals (step.Name name ∷ []) = formal_operand (formal_named 0 formals name)
given_formal formals other = behind.Unknown

-- the operand that a path into the interface of a block is: a place in the instance of a function block, or a formal
abbrev pub given_in_interface : RawBlock → BlockKind → List PathStep → ResolvedOperand
given_in_interface raw block.Fb path = given_component None area.Di (component_in (interface_of raw) path)
given_in_interface raw other path = given_formal (formals_of raw) path

-- the operand that a path from a variable of a block is. A path into an interface or into temporaries that break a
-- rule is not judged, nor is one that may lead there
abbrev pub given_variable : RawBlock → List PathStep → ResolvedOperand
given_variable raw path =
    if begins_in (interface_of raw) path
    then (if is_interface_refused raw then behind.Unjudged else given_in_interface raw raw.kind path)
    else if begins_in (temporaries_of raw) path
    then given_path most_local None area.L (temporaries_of raw) path
    else if is_interface_refused raw || are_temporaries_refused raw then behind.Unjudged
    else behind.Unknown

-- the operand by the number of a block; where there is none, a name that is not declared, or one of another kind
abbrev pub given_number : (ℕ → ResolvedOperand) → Result ℕ Reason → ResolvedOperand
given_number make (Ok n) = make n
given_number make (Err UnknownName) = behind.Unknown
given_number make (Err reason) = behind.Unfit

-- the operand of OPN by a number that a data block may have
abbrev pub given_open : (ℕ → ResolvedOperand) → ℕ → ResolvedOperand
given_open make n = if may_have block.Db n then make n else behind.NoNumber

-- Operands

abbrev pub given_in : OperandScope → RawOperand-F RawOperand RawActual RawCall → ResolvedOperand
given_in scope layer.Missing = behind.Nothing
given_in scope (layer.At place) = given_place place
given_in scope (layer.Named name) = given_symbol (symbol_named scope.text.symbols name)
given_in scope (layer.InBlock name path) =
    given_number (λ n. given_in_data scope.text n path (db_numbered scope.text.symbols scope.text.dbs n))
    (block_number scope.text.symbols block.Db (raw_name.Name name))
given_in scope (layer.Local path) = given_variable scope.block path
given_in scope (layer.Flag test) = behind.Flag test
given_in scope layer.Stw = behind.Stw
given_in scope layer.DbNo = behind.DbNo
given_in scope layer.DiNo = behind.DiNo
given_in scope (layer.Constant constant) = behind.Constant constant
given_in scope (layer.Pointer p) = given_pointer p
given_in scope (layer.ByMemory name w place) =
    given_if (may_stand width.Dword place) name w (ByMemory name place.area place.byte)
given_in scope (layer.ByRegister name w r p) = given_if (is_in_reach p) name w (ByRegister name r (offset_of p))
given_in scope (layer.Crossing w r p) = given_if (is_in_reach p) area.M w (Crossing r (offset_of p))
given_in scope layer.OtherAr = behind.OtherAr
given_in scope (layer.OpenDb name) =
    given_number (given_open (λ n. behind.Db n)) (block_number scope.text.symbols block.Db name)
given_in scope (layer.OpenDi name) =
    given_number (given_open (λ n. behind.Di n)) (block_number scope.text.symbols block.Db name)
given_in scope (layer.OpenDbBy place) = given_held (λ o. behind.DbBy o) place
given_in scope (layer.OpenDiBy place) = given_held (λ o. behind.DiBy o) place
given_in scope (layer.Label label) = behind.Target (target_in scope.block.body label)
given_in scope (layer.Call call) = behind.Unfit

-- the operand of a mnemonic, from a raw operand
unfoldable pub resolved_operand : OperandScope → RawOperand → ResolvedOperand
resolved_operand scope operand = given_in scope (out-RawOperand operand)
