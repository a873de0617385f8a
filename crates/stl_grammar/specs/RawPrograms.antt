-- The raw program of a source. It is what the items of the text make: blocks, data blocks and symbols, before names
-- are looked up.
-- Held against: this project's own source form.
use Rattle.std.specs.Prelude.{List, [], ◌∷◌, ◌++◌, Option, Some, None, option_map, ℕ, ℤ, Result, Ok, Err}
use Rattle.std.specs.Option.{option_to_list}
use Rattle.s7_base.specs.Tokens.{tokens_of, line_at_end}
use Rattle.s7_base.specs.declared.reason.Line.{Line}
use Rattle.s7_base.specs.declared.reason.Rejection.{Rejection}
use Rattle.s7_base.specs.declared.token.Token.{Token}
use Rattle.stl_grammar.specs.Items.{items_of}
use Rattle.stl_grammar.specs.declared.declaration.Innermost.{Innermost}
use Rattle.stl_grammar.specs.declared.declaration.Innermost.TheVariants as inner
use Rattle.stl_grammar.specs.declared.declaration.OpenStruct.{OpenStruct}
use Rattle.stl_grammar.specs.declared.declaration.Section.{Section}
use Rattle.stl_grammar.specs.declared.declaration.Section.TheVariants as part
use Rattle.stl_grammar.specs.declared.declaration.Written.{Written}
use Rattle.stl_grammar.specs.declared.item.Item.{Item}
use Rattle.stl_grammar.specs.declared.item.Item.TheVariants.{Opens, Mark, Starts, Symbol, Declares, InstanceOf, Closes, Instr, Initial, Ends}
use Rattle.stl_grammar.specs.declared.item.Reading.{Reading}
use Rattle.stl_tree.specs.declared.raw.BlockKind.{BlockKind}
use Rattle.stl_tree.specs.declared.raw.BlockKind.TheVariants as block
use Rattle.stl_tree.specs.declared.raw.Declaration.{Declaration}
use Rattle.stl_tree.specs.declared.raw.DeclType.{DeclType}
use Rattle.stl_tree.specs.declared.raw.DeclType.TheVariants as of
use Rattle.stl_tree.specs.declared.raw.ElemType.{ElemType}
use Rattle.stl_tree.specs.declared.raw.InitialItem.{InitialItem}
use Rattle.stl_tree.specs.declared.raw.RawBlock.{RawBlock}
use Rattle.stl_tree.specs.declared.raw.RawData.{RawData}
use Rattle.stl_tree.specs.declared.raw.RawDataKind.{RawDataKind}
use Rattle.stl_tree.specs.declared.raw.RawDataKind.TheVariants.{Own, Instance}
use Rattle.stl_tree.specs.declared.raw.RawInitial.{RawInitial}
use Rattle.stl_tree.specs.declared.raw.RawInstr.{RawInstr}
use Rattle.stl_tree.specs.declared.raw.RawName.{RawName}
use Rattle.stl_tree.specs.declared.raw.RawProgram.{RawProgram}

-- a block of which only the heading is known
abbrev pub block_from_heading : Line → BlockKind → RawName → Option ElemType → RawBlock
block_from_heading line kind name result =
    record {
      kind = kind;
      name = name;
      line = line;
      result = result;
      inputs = [];
      outputs = [];
      in_outs = [];
      statics = [];
      temps = [];
      body = [];
      end_line = line;
    }

-- a data block of which only the heading is known
abbrev pub data_headed : Line → RawName → RawData
data_headed line name = record { name = name; line = line; kind = Own []; initial = [] }

-- the blocks of a text as far as it is read
abbrev pub blocks_in : Reading → List RawBlock
blocks_in reading = reading.done ++ option_to_list reading.last

-- the data blocks of a text as far as it is read
abbrev pub dbs_in : Reading → List RawData
dbs_in reading = reading.dbs ++ option_to_list reading.last_db

-- a block with one more instruction
abbrev pub with_instr : RawInstr → RawBlock → RawBlock
with_instr instr block = record block { body = block.body ++ (instr ∷ []) }

-- a block with its end word on a line
abbrev pub with_end : Line → RawBlock → RawBlock
with_end line block = record block { end_line = line }

-- a data block with one more initial value
abbrev pub with_value : RawInitial → RawData → RawData
with_value value db = record db { initial = db.initial ++ (value ∷ []) }

-- the state before the first item
abbrev pub nothing_read : Reading
nothing_read =
    record { symbols = []; dbs = []; last_db = None; done = []; last = None; section = part.Temp; structs = [] }

-- a type with arrays around it, the outermost first
abbrev pub array_of : List (List (ℤ × ℤ)) → DeclType → DeclType
array_of [] type = type
array_of (bounds ∷ arrays) type = of.Array bounds (array_of arrays type)

-- a declaration by its arrays, the type inside them, and its initial values
abbrev pub declaration : List ℕ → Line → List (List (ℤ × ℤ)) → DeclType → List InitialItem → Declaration
declaration name line arrays type items =
    record { name = name; line = line; ty = array_of arrays type; initial = items }

-- a block with one more declaration in a section
abbrev pub with_part : Section → Declaration → RawBlock → RawBlock
with_part part.Input one block = record block { inputs = block.inputs ++ (one ∷ []) }
with_part part.Output one block = record block { outputs = block.outputs ++ (one ∷ []) }
with_part part.InOut one block = record block { in_outs = block.in_outs ++ (one ∷ []) }
with_part part.Static one block = record block { statics = block.statics ++ (one ∷ []) }
with_part part.Temp one block = record block { temps = block.temps ++ (one ∷ []) }
with_part part.Own one block = block

-- a data block with one more declaration
abbrev pub kind_with : Declaration → RawDataKind → RawDataKind
kind_with one (Own decls) = Own (decls ++ (one ∷ []))
kind_with one (Instance name) = Instance name

abbrev pub with_own : Declaration → RawData → RawData
with_own one db = record db { kind = kind_with one db.kind }

-- a data block that is an instance
abbrev pub as_instance : RawName → RawData → RawData
as_instance name db = record db { kind = Instance name }

-- the text so far, where no STRUCT is open, with one more declaration in a section of the last block
abbrev pub with_last : Declaration → Section → Reading → Reading
with_last one part.Own reading = record reading { last_db = option_map (with_own one) reading.last_db; structs = [] }
with_last one section reading = record reading { last = option_map (with_part section one) reading.last; structs = [] }

-- the text so far, with one more declaration of the innermost STRUCT that is open, or of the last block
abbrev pub with_declared : Declaration → List OpenStruct → Reading → Reading
with_declared one [] reading = with_last one reading.section reading
with_declared one (struct ∷ outer) reading =
    record reading { structs = record struct { members = struct.members ++ (one ∷ []) } ∷ outer }

-- the text so far, with one more declaration, or one more STRUCT that is open
abbrev pub with_type : List ℕ → Line → Written → Innermost → Reading → Reading
with_type name line type (inner.Elementary its) reading =
    with_declared (declaration name line type.arrays (of.Elementary its) type.initial) reading.structs reading
with_type name line type inner.DateAndTime reading =
    with_declared (declaration name line type.arrays of.DateAndTime type.initial) reading.structs reading
with_type name line type inner.Struct reading =
    record reading {
      structs = record { name = name; line = line; arrays = type.arrays; members = [] } ∷ reading.structs;
    }

-- the text so far, whose innermost STRUCT has ended
abbrev pub after_struct_end : List InitialItem → List OpenStruct → Reading → Reading
after_struct_end items [] reading = reading
after_struct_end items (struct ∷ outer) reading =
    with_declared (declaration struct.name struct.line struct.arrays (of.Struct struct.members) items) outer reading

-- the text so far, with the heading of one more block: it is the last one of its kind, and no block of the other is
-- open
abbrev pub with_heading : Line → BlockKind → RawName → Option ElemType → Reading → Reading
with_heading line block.Db name result reading =
    record reading {
      dbs = dbs_in reading;
      last_db = Some (data_headed line name);
      done = blocks_in reading;
      last = None;
    }
with_heading line kind name result reading =
    record reading {
      dbs = dbs_in reading;
      last_db = None;
      done = blocks_in reading;
      last = Some (block_from_heading line kind name result);
    }

-- the text so far, with one more item
abbrev pub with_item : Reading → Item → Reading
with_item reading (Opens line kind name result) = with_heading line kind name result reading
with_item reading (Starts section) = record reading { section = section }
with_item reading (Symbol line) = record reading { symbols = reading.symbols ++ (line ∷ []) }
with_item reading Mark = reading
with_item reading (Declares name line type) = with_type name line type type.innermost reading
with_item reading (InstanceOf name) = record reading { last_db = option_map (as_instance name) reading.last_db }
with_item reading (Closes items) = after_struct_end items reading.structs reading
with_item reading (Instr instr) = record reading { last = option_map (with_instr instr) reading.last }
with_item reading (Initial value) = record reading { last_db = option_map (with_value value) reading.last_db }
with_item reading (Ends line) = record reading { last = option_map (with_end line) reading.last }

-- the text so far, with some more items
abbrev pub with_items : Reading → List Item → Reading
with_items reading [] = reading
with_items reading (item ∷ items) = with_items (with_item reading item) items

-- the raw program of a text that is read
abbrev pub raw_read : Reading → RawProgram
raw_read reading = record { symbols = reading.symbols; dbs = dbs_in reading; blocks = blocks_in reading }

-- the raw program of the text so far, and of the items after it
abbrev pub raw_behind : Reading → List Item → RawProgram
raw_behind reading items = raw_read (with_items reading items)

-- the raw program that items make
abbrev pub raw_of : List Item → RawProgram
raw_of items = raw_behind nothing_read items

-- the raw program of a text, by its items
abbrev pub raw_by : Result (List Item) Rejection → Result RawProgram Rejection
raw_by (Ok items) = Ok (raw_of items)
raw_by (Err refused) = Err refused

-- the raw program of the tokens of a text that ends on a line; the first item that does not fit is named
unfoldable pub raw_program : Line → List Token → Result RawProgram Rejection
raw_program end tokens = raw_by (items_of end tokens)

-- the raw program of a text whose tokens are cut; a bad token is the first broken rule, wherever it is
abbrev pub raw_by_tokens : Line → Result (List Token) Rejection → Result RawProgram Rejection
raw_by_tokens end (Ok tokens) = raw_program end tokens
raw_by_tokens end (Err refused) = Err refused

-- the raw program of a text, or the first token or item that does not fit
unfoldable pub raw_text : List ℕ → Result RawProgram Rejection
raw_text bytes = raw_by_tokens (line_at_end bytes) (tokens_of bytes)
