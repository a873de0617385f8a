-- The data blocks of a source. Their bytes with the initial values in them, and their order.
-- Held against: this project's own layout.
use Rattle.std.specs.Prelude.{ℕ, ◌==◌, List, [], ◌∷◌, Option, Some, None, Result, Ok, Err}
use Rattle.std.specs.List.{fold}
use Rattle.memory_areas.specs.Areas.{bytes_of_dword, bytes_of_word, byte_at, byte_with, insert_data_block, overwrite}
use Rattle.memory_areas.specs.declared.data_block.DataBlock.{DataBlock}
use Rattle.s7_base.specs.declared.reason.Reason.{Reason}
use Rattle.s7_base.specs.declared.word.Width.{Width}
use Rattle.s7_base.specs.declared.word.Width.TheVariants as width
use Rattle.stl_rules.specs.Interfaces.{interface_of}
use Rattle.stl_rules.specs.Names.{block_found, block_number}
use Rattle.stl_statement_grammar.specs.Constants.{value_in}
use Rattle.stl_tree.specs.Accumulators.{part}
use Rattle.stl_tree.specs.declared.raw.BlockKind.TheVariants as block
use Rattle.stl_tree.specs.declared.raw.Constant.{Constant}
use Rattle.stl_tree.specs.declared.raw.Declaration.{Declaration}
use Rattle.stl_tree.specs.declared.raw.ElemType.{ElemType}
use Rattle.stl_tree.specs.declared.raw.RawData.{RawData}
use Rattle.stl_tree.specs.declared.raw.RawDataKind.{RawDataKind}
use Rattle.stl_tree.specs.declared.raw.RawDataKind.TheVariants as data_kind
use Rattle.stl_tree.specs.declared.raw.RawInitial.{RawInitial}
use Rattle.stl_tree.specs.declared.program.Instance.{Instance}
use Rattle.stl_tree.specs.declared.raw.RawBlock.{RawBlock}
use Rattle.stl_tree.specs.declared.raw.RawProgram.{RawProgram}
use Rattle.stl_rules.specs.Extents.{width_of}
use Rattle.stl_rules.specs.Layouts.{initial_of}
use Rattle.stl_rules.specs.Paths.{component_in}
use Rattle.stl_rules.specs.declared.layout.Component.{Component}

-- Bytes

-- the bytes with a number of a width at a place
abbrev pub with_number : List ℕ → Component → Width → ℕ → List ℕ
with_number bytes at width.Bit n = overwrite bytes at.byte (byte_with (byte_at bytes at.byte) at.bit (n == 1) ∷ [])
with_number bytes at width.Byte n = overwrite bytes at.byte (n ∷ [])
with_number bytes at width.Word n = overwrite bytes at.byte (bytes_of_word n)
with_number bytes at width.Dword n = overwrite bytes at.byte (bytes_of_dword n)

abbrev pub with_constant : List ℕ → Component → Constant → Option ElemType → List ℕ
with_constant bytes at c None = bytes
with_constant bytes at c (Some e) = with_number bytes at (width_of e) (part (width_of e) (value_in (width_of e) c))

abbrev pub with_value_at : List ℕ → Constant → Option Component → List ℕ
with_value_at bytes c None = bytes
with_value_at bytes c (Some at) = with_constant bytes at c at.kind

-- the bytes of sections with one initial value
abbrev pub with_value : List (List Declaration) → List ℕ → RawInitial → List ℕ
with_value sections bytes v = with_value_at bytes v.value (component_in sections v.path)

-- the bytes, or two zeros where there are fewer than two: a data block has two bytes at least
abbrev pub or_two : List ℕ → List ℕ
or_two [] = 0 ∷ 0 ∷ []
or_two bytes = bytes

-- the bytes of a data block: those of its sections, and its initial values one after another
abbrev pub bytes_with : List (List Declaration) → List RawInitial → List ℕ
bytes_with sections values = or_two (fold (with_value sections) (initial_of sections) values)

-- Blocks

-- the sections of a block; none where there is no block
abbrev pub sections_of : Option RawBlock → List (List Declaration)
sections_of None = []
sections_of (Some raw) = interface_of raw

-- the sections of a data block: declarations of its own, or the interface of its function block
abbrev pub sections_in : RawProgram → RawDataKind → List (List Declaration)
sections_in text (data_kind.Own decls) = decls ∷ []
sections_in text (data_kind.Instance name) =
    sections_of (block_found text block.Fb (block_number text.symbols block.Fb name))

abbrev pub data_numbered : RawProgram → RawData → Result ℕ Reason → Option DataBlock
data_numbered text d (Ok n) = Some (record { number = n; bytes = bytes_with (sections_in text d.kind) d.initial })
data_numbered text d (Err reason) = None

-- the data block of a raw one, if it has a number
abbrev pub data_of : RawProgram → RawData → Option DataBlock
data_of text d = data_numbered text d (block_number text.symbols block.Db d.name)

-- Instances

abbrev pub instance_with : ℕ → Result ℕ Reason → Option Instance
instance_with db (Ok fb) = Some (record { db = db; fb = fb })
instance_with db (Err reason) = None

abbrev pub instance_in : RawProgram → RawDataKind → Result ℕ Reason → Option Instance
instance_in text (data_kind.Own decls) db = None
instance_in text (data_kind.Instance name) (Ok db) = instance_with db (block_number text.symbols block.Fb name)
instance_in text (data_kind.Instance name) (Err reason) = None

-- the instance that a data block is, if it is one
abbrev pub instance_of : RawProgram → RawData → Option Instance
instance_of text d = instance_in text d.kind (block_number text.symbols block.Db d.name)

-- Order

-- data blocks in the order of their numbers
abbrev pub in_order : List DataBlock → List DataBlock
in_order [] = []
in_order (b ∷ rest) = insert_data_block b (in_order rest)
