-- A text puts data blocks to its data blocks, and blocks of no other kind.
use Rattle.std.proofs.Common.{◌≡◌, ℕ, List, [], ◌∷◌, false, Option, Some, None, Result, Ok, Err, refl}
use Rattle.std.specs.Prelude.{All, IfOk, IfSome, option_map}
use Rattle.std.specs.Option.{option_to_list}
use Rattle.std.proofs.lemmas.List.Elements.{All-append, All-cons, All-nil}
use Rattle.s7_base.specs.Tokens.{line_at_end, tokens_of}
use Rattle.s7_base.specs.declared.reason.Line.{Line}
use Rattle.s7_base.specs.declared.reason.Rejection.{Rejection}
use Rattle.s7_base.specs.declared.token.Token.{Token}
use Rattle.stl_grammar.specs.Items.{is_data, items_of}
use Rattle.stl_grammar.specs.RawPrograms.{blocks_in, after_struct_end, declaration, nothing_read, with_heading, raw_by, raw_by_tokens, raw_of, raw_program, raw_text, with_declared, with_end, with_instr, with_item, with_items, with_last, with_part, with_type}
use Rattle.stl_grammar.specs.declared.declaration.Innermost.{Innermost}
use Rattle.stl_grammar.specs.declared.declaration.Innermost.TheVariants as inner
use Rattle.stl_grammar.specs.declared.declaration.OpenStruct.{OpenStruct}
use Rattle.stl_grammar.specs.declared.declaration.Section.{Section}
use Rattle.stl_grammar.specs.declared.declaration.Section.TheVariants as part
use Rattle.stl_grammar.specs.declared.declaration.Written.{Written}
use Rattle.stl_grammar.specs.declared.item.Item.{Item}
use Rattle.stl_grammar.specs.declared.item.Item.TheVariants.{Opens, Mark, Starts, Symbol, Declares, InstanceOf, Closes, Instr, Initial, Ends}
use Rattle.stl_grammar.specs.declared.item.Reading.{Reading}
use Rattle.stl_tree.specs.declared.raw.BlockKind.{BlockKind}
use Rattle.stl_tree.specs.declared.raw.BlockKind.TheVariants as block
use Rattle.stl_tree.specs.declared.raw.Declaration.{Declaration}
use Rattle.stl_tree.specs.declared.raw.DeclType.TheVariants as of
use Rattle.stl_tree.specs.declared.raw.ElemType.{ElemType}
use Rattle.stl_tree.specs.declared.raw.InitialItem.{InitialItem}
use Rattle.stl_tree.specs.declared.raw.RawBlock.{RawBlock}
use Rattle.stl_tree.specs.declared.raw.RawName.{RawName}
use Rattle.stl_tree.specs.declared.raw.RawProgram.{RawProgram}

-- a block is no data block
abbrev pub IsCode : RawBlock → Type 0
IsCode raw = is_data raw.kind ≡ false

-- the blocks of a text as far as it is read are none
record ReadsCode (reading : Reading) : Type 0 where
  done : All IsCode reading.done
  last : IfSome reading.last IsCode

of_last : (last : Option RawBlock) → IfSome last IsCode → All IsCode (option_to_list last)
of_last None h = All-nil IsCode
of_last (Some raw) h = All-cons IsCode raw [] h (All-nil IsCode)

all_code : (reading : Reading) → ReadsCode reading → All IsCode (blocks_in reading)
all_code reading h = All-append IsCode reading.done (option_to_list reading.last) h.done (of_last reading.last h.last)

opened_code : (line : Line) (kind : BlockKind) (name : RawName) (result : Option ElemType) (reading : Reading) → ReadsCode reading
    → ReadsCode (with_heading line kind name result reading)
opened_code line block.Db name result reading h = record { done = all_code reading h; last = tt }
opened_code line block.Ob name result reading h = record { done = all_code reading h; last = refl }
opened_code line block.Fc name result reading h = record { done = all_code reading h; last = refl }
opened_code line block.Fb name result reading h = record { done = all_code reading h; last = refl }

-- what changes no kind leaves the last block as it is
changed : (f : RawBlock → RawBlock) → ((raw : RawBlock) → IsCode raw → IsCode (f raw))
    → (last : Option RawBlock) → IfSome last IsCode → IfSome (option_map f last) IsCode
changed f k None h = tt
changed f k (Some raw) h = k raw h

part_code : (section : Section) (one : Declaration) (raw : RawBlock) → IsCode raw → IsCode (with_part section one raw)
part_code part.Input one raw h = h
part_code part.Output one raw h = h
part_code part.InOut one raw h = h
part_code part.Static one raw h = h
part_code part.Temp one raw h = h
part_code part.Own one raw h = h

last_code : (one : Declaration) (section : Section) (reading : Reading) → ReadsCode reading → ReadsCode (with_last one section reading)
last_code one part.Own reading h = record { done = h.done; last = h.last }
last_code one part.Input reading h = record { done = h.done; last = changed (with_part part.Input one) (part_code part.Input one) reading.last h.last }
last_code one part.Output reading h = record { done = h.done; last = changed (with_part part.Output one) (part_code part.Output one) reading.last h.last }
last_code one part.InOut reading h = record { done = h.done; last = changed (with_part part.InOut one) (part_code part.InOut one) reading.last h.last }
last_code one part.Static reading h = record { done = h.done; last = changed (with_part part.Static one) (part_code part.Static one) reading.last h.last }
last_code one part.Temp reading h = record { done = h.done; last = changed (with_part part.Temp one) (part_code part.Temp one) reading.last h.last }

declared_code : (one : Declaration) (structs : List OpenStruct) (reading : Reading) → ReadsCode reading → ReadsCode (with_declared one structs reading)
declared_code one [] reading h = last_code one reading.section reading h
declared_code one (struct ∷ outer) reading h = record { done = h.done; last = h.last }

type_code : (name : List ℕ) (line : Line) (type : Written) (innermost : Innermost) (reading : Reading) → ReadsCode reading
    → ReadsCode (with_type name line type innermost reading)
type_code name line type (inner.Elementary its) reading h =
    declared_code (declaration name line type.arrays (of.Elementary its) type.initial) reading.structs reading h
type_code name line type inner.DateAndTime reading h =
    declared_code (declaration name line type.arrays of.DateAndTime type.initial) reading.structs reading h
type_code name line type inner.Struct reading h = record { done = h.done; last = h.last }

closed_code : (items : List InitialItem) (structs : List OpenStruct) (reading : Reading)
    → ReadsCode reading → ReadsCode (after_struct_end items structs reading)
closed_code items [] reading h = h
closed_code items (struct ∷ outer) reading h =
    declared_code (declaration struct.name struct.line struct.arrays (of.Struct struct.members) items) outer reading h

item_code : (reading : Reading) (item : Item) → ReadsCode reading → ReadsCode (with_item reading item)
item_code reading (Opens line kind name result) h = opened_code line kind name result reading h
item_code reading (Starts section) h = record { done = h.done; last = h.last }
item_code reading (Symbol line) h = record { done = h.done; last = h.last }
item_code reading Mark h = h
item_code reading (InstanceOf name) h = record { done = h.done; last = h.last }
item_code reading (Declares name line type) h = type_code name line type type.innermost reading h
item_code reading (Closes items) h = closed_code items reading.structs reading h
item_code reading (Instr instr) h = record { done = h.done; last = changed (with_instr instr) (λ raw k. k) reading.last h.last }
item_code reading (Initial value) h = record { done = h.done; last = h.last }
item_code reading (Ends line) h = record { done = h.done; last = changed (with_end line) (λ raw k. k) reading.last h.last }

items_code : (reading : Reading) (items : List Item) → ReadsCode reading → ReadsCode (with_items reading items)
items_code reading [] h = h
items_code reading (item ∷ items) h = items_code (with_item reading item) items (item_code reading item h)

-- Texts

-- the blocks of a raw program are no data blocks
abbrev pub HoldsCode : RawProgram → Type 0
HoldsCode raw = All IsCode raw.blocks

of_items : (items : List Item) → HoldsCode (raw_of items)
of_items items =
    all_code (with_items nothing_read items) (items_code nothing_read items (record { done = All-nil IsCode; last = tt }))

by_items : (r : Result (List Item) Rejection) → IfOk (raw_by r) HoldsCode
by_items (Ok items) = of_items items
by_items (Err refused) = tt

of_tokens : (end : Line) (tokens : List Token) → IfOk (raw_program end tokens) HoldsCode
unfolding raw_program
of_tokens end tokens = by_items (items_of end tokens)

by_tokens : (end : Line) (r : Result (List Token) Rejection) → IfOk (raw_by_tokens end r) HoldsCode
by_tokens end (Ok tokens) = of_tokens end tokens
by_tokens end (Err refused) = tt

-- those of the raw program of a text are none
pub of_text : (bytes : List ℕ) → IfOk (raw_text bytes) HoldsCode
unfolding raw_text
of_text bytes = by_tokens (line_at_end bytes) (tokens_of bytes)
