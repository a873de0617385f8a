-- The parts of a program as far as they can be made: those that break no rule of names, blocks and layouts.
use Rattle.std.specs.Prelude.{ℕ, Bool, true, false, not, ◌&&◌, nat_le, if◌then◌else◌, List, ◌++◌, ◌∷◌, [], Option, Some, None, Result, Ok, Err}
use Rattle.std.specs.List.{flat_map}
use Rattle.memory_areas.specs.declared.call.BlockName.{BlockName}
use Rattle.memory_areas.specs.declared.call.BlockName.TheVariants.{Ob}
use Rattle.memory_areas.specs.declared.data_block.DataBlock.{DataBlock}
use Rattle.s7_base.specs.Broken.{first_of_all, rule_break}
use Rattle.s7_base.specs.declared.reason.Line.{Line}
use Rattle.s7_base.specs.declared.rule_break.Break.{Break}
use Rattle.s7_base.specs.declared.reason.Reason.{Reason}
use Rattle.s7_base.specs.declared.reason.Reason.TheVariants.{BadAddress, DuplicateName, UnknownBlock}
use Rattle.stl_rules.specs.DataBlocks.{bytes_with}
use Rattle.stl_rules.specs.Interfaces.{interface_of, variable_breaks}
use Rattle.stl_rules.specs.Names.{block_found, block_number, may_have}
use Rattle.stl_rules.specs.Programs.{block_name, block_with, symbol_of}
use Rattle.stl_rules.specs.Raw.{OperandScope}
use Rattle.stl_rules.specs.DeclarationRules.{is_named, key_of}
use Rattle.stl_rules.specs.BodyRules.{broken_if}
use Rattle.stl_rules.specs.Stages.{heading_breaks, instr_breaks, is_address, valued_breaks, content_breaks}
use Rattle.stl_tree.specs.declared.program.Block.{Block}
use Rattle.stl_tree.specs.declared.program.Instance.{Instance}
use Rattle.stl_tree.specs.declared.program.Symbol.{Symbol}
use Rattle.stl_tree.specs.declared.raw.BlockKind.{BlockKind}
use Rattle.stl_tree.specs.declared.raw.BlockKind.TheVariants as block
use Rattle.stl_tree.specs.declared.raw.Declaration.{Declaration}
use Rattle.stl_tree.specs.declared.raw.RawBlock.{RawBlock}
use Rattle.stl_tree.specs.declared.raw.RawData.{RawData}
use Rattle.stl_tree.specs.declared.raw.RawDataKind.{RawDataKind}
use Rattle.stl_tree.specs.declared.raw.RawDataKind.TheVariants as data_kind
use Rattle.stl_tree.specs.declared.raw.RawInitial.{RawInitial}
use Rattle.stl_tree.specs.declared.raw.RawProgram.{RawProgram}
use Rattle.stl_tree.specs.declared.raw.SymbolLine.{SymbolLine}

-- Data blocks

-- the rules that a heading and the contents of a data block break
abbrev pub db_breaks : RawProgram → List (BlockKind × ℕ) → RawData → Result ℕ Reason → List Break
db_breaks text before d number =
    heading_breaks block.Db d.line before number ++ content_breaks text d.line d.initial d.kind

-- the bytes of declarations where nothing is broken
abbrev pub bytes_unless : Option Break → List ℕ → Option (List ℕ)
bytes_unless None bytes = Some bytes
bytes_unless (Some first) bytes = None

abbrev pub bytes_of_sections : List RawInitial → List (List Declaration) → Option (List ℕ)
bytes_of_sections values sections =
    bytes_unless (first_of_all (valued_breaks sections values)) (bytes_with sections values)

-- the bytes of an instance, where its function block is found and nothing is broken
abbrev pub bytes_in : List RawInitial → Option RawBlock → Option (List ℕ)
bytes_in values None = None
bytes_in values (Some raw) = bytes_of_sections values (interface_of raw)

abbrev pub bytes_kept : RawProgram → List RawInitial → RawDataKind → Option (List ℕ)
bytes_kept text values (data_kind.Own decls) = bytes_of_sections values (decls ∷ [])
bytes_kept text values (data_kind.Instance name) =
    bytes_in values (block_found text block.Fb (block_number text.symbols block.Fb name))

-- a data block by its number and its bytes
abbrev pub data_by : Result ℕ Reason → Option (List ℕ) → Option DataBlock
data_by (Ok n) (Some bytes) = if may_have block.Db n then Some (record { number = n; bytes = bytes }) else None
data_by number bytes = None

-- a data block, which is not kept where there are too many
abbrev pub kept_if : Bool → Option DataBlock → Option DataBlock
kept_if true made = made
kept_if false made = None

abbrev pub data_kept : Bool → RawProgram → RawData → Option DataBlock
data_kept keep text d =
    kept_if keep (data_by (block_number text.symbols block.Db d.name) (bytes_kept text d.initial d.kind))

-- an instance by two numbers, where both have 16 bits
abbrev pub instance_if : Bool → ℕ → ℕ → Option Instance
instance_if true db fb = Some (record { db = db; fb = fb })
instance_if false db fb = None

abbrev pub instance_by : Result ℕ Reason → Result ℕ Reason → Option Instance
instance_by (Ok db) (Ok fb) = instance_if (nat_le db 65535 && nat_le fb 65535) db fb
instance_by db fb = None

abbrev pub instance_in_kind : RawProgram → Result ℕ Reason → RawDataKind → Option Instance
instance_in_kind text db (data_kind.Own decls) = None
instance_in_kind text db (data_kind.Instance name) = instance_by db (block_number text.symbols block.Fb name)

abbrev pub instance_kept : RawProgram → RawData → Option Instance
instance_kept text d = instance_in_kind text (block_number text.symbols block.Db d.name) d.kind

-- the rules that the name of an instance's function block breaks, which is found or not
abbrev pub function_block_breaks : Line → Result ℕ Reason → Bool → List Break
function_block_breaks line (Err reason) is_found = rule_break line reason
function_block_breaks line (Ok n) is_found =
    broken_if (not is_found) line UnknownBlock ++ broken_if (not (may_have block.Fb n)) line BadAddress

-- Blocks

-- the rules that the variables and the instructions of a block break
abbrev pub content_breaks_of : OperandScope → List Break
content_breaks_of scope = variable_breaks scope.block ++ flat_map (instr_breaks scope) scope.block.body

-- the rules that the heading, the variables and the instructions of a block break
abbrev pub block_breaks : RawProgram → List (BlockKind × ℕ) → RawBlock → List Break
block_breaks text before raw =
    heading_breaks raw.kind raw.line before (block_number text.symbols raw.kind raw.name)
    ++ variable_breaks raw
    ++ flat_map (instr_breaks (record { text = text; block = raw })) raw.body

-- the name of a block; any name where its number is none of its kind
abbrev pub name_within : BlockKind → Result ℕ Reason → BlockName
name_within kind (Ok n) = if may_have kind n then block_name kind (Ok n) else Ob 0
name_within kind (Err reason) = Ob 0

abbrev pub block_within : RawProgram → RawBlock → Block
block_within text raw =
    block_with (record { text = text; block = raw })
    (name_within raw.kind (block_number text.symbols raw.kind raw.name))

-- Symbols

abbrev pub symbol_kept : SymbolLine → Option Symbol
symbol_kept line = if is_address line.address then symbol_of line else None

-- the rules that a line of the symbol table breaks after lines of these names
abbrev pub line_breaks : List (List ℕ) → SymbolLine → List Break
line_breaks names line =
    broken_if (is_named (key_of line.name) names) line.line DuplicateName
    ++ broken_if (not (is_address line.address)) line.line BadAddress
