-- How globals are judged. What they are in the tree, and the rules that are broken in their locations, sizes and
-- initial values.
-- Held against: IEC 61131-3, 'Variables'.
use Rattle.std.specs.Prelude.{ℕ, ◌+◌, ◌*◌, ◌-◌, ◌^◌, min, Bool, true, false, ◌&&◌, ◌==◌, nat_le, nat_lt, if◌then◌else◌, List, [], ◌∷◌, ◌++◌, drop, length, replicate, Option, Some, None, is_some}
use Rattle.std.specs.List.{fold, flat_map}
use Rattle.memory_areas.specs.Areas.{insert_data_block}
use Rattle.memory_areas.specs.declared.data_block.DataBlock.{DataBlock}
use Rattle.memory_areas.specs.declared.place.Area.{Area}
use Rattle.memory_areas.specs.declared.place.Area.TheVariants as place
use Rattle.memory_areas.specs.declared.place.AreaName.{AreaName}
use Rattle.memory_areas.specs.declared.place.AreaName.TheVariants as area
use Rattle.memory_areas.specs.declared.sizes.TheConstants.{MOST_BLOCKS, MOST_BLOCK_BYTES}
use Rattle.s7_base.specs.declared.reason.Line.{Line}
use Rattle.s7_base.specs.declared.reason.Reason.TheVariants.{BadAddress, TooLarge, TypeMismatch}
use Rattle.s7_base.specs.declared.word.Width.TheVariants as width
use Rattle.st_tree.specs.declared.expr.StType.{StType}
use Rattle.st_tree.specs.declared.program.Located.{Located}
use Rattle.st_tree.specs.declared.raw.RawGlobal.{RawGlobal}
use Rattle.st_tree.specs.declared.raw.RawGlobalType.{RawGlobalType}
use Rattle.st_tree.specs.declared.raw.RawGlobalType.TheVariants as type
use Rattle.st_tree.specs.declared.raw.RawVar.{RawVar}
use Rattle.st_tree.specs.declared.raw.RawVar.TheVariants as raw
use Rattle.s7_base.specs.Broken.{rule_break}
use Rattle.st_names.specs.Lists.{as_list}
use Rattle.st_tree.specs.Naming.{key_of, names_block}
use Rattle.st_tree.specs.TypeRules.{has_width}
use Rattle.st_names.specs.Variables.{is_address}
use Rattle.st_tree.specs.PlaceRules.{is_block_number}
use Rattle.s7_base.specs.declared.rule_break.Break.{Break}

-- a location is an address that may be written
abbrev pub has_address : RawVar → Bool
has_address (raw.Name name) = true
has_address (raw.Direct a block w byte bit) = is_address a block w byte bit

-- no rule where a test is true, else these
abbrev pub unless : Bool → List Break → List Break
unless test breaks = if test then [] else breaks

-- Globals on I, Q or M

-- the area of a global
abbrev pub area_of : AreaName → Option Area
area_of area.I = Some place.I
area_of area.Q = Some place.Q
area_of area.M = Some place.M
area_of area.L = None
area_of area.Db = None
area_of area.Di = None

-- a global of a type has its location on I, Q or M, in its type's width
abbrev pub fits_type : StType → RawVar → Bool
fits_type ty (raw.Name name) = false
fits_type ty (raw.Direct a None w byte bit) = is_some (area_of a) && has_width ty w
fits_type ty (raw.Direct a (Some n) w byte bit) = false

-- a global in the tree, in an area
abbrev pub located_in : List ℕ → StType → Option Area → ℕ → ℕ → Option Located
located_in name ty None byte bit = None
located_in name ty (Some a) byte bit =
    Some (record { name = name; place = record { area = a; byte = byte; bit = bit }; ty = ty })

-- a global in the tree, by its location; none where that is no address or does not fit its type
abbrev pub located_at : List ℕ → StType → RawVar → Option Located
located_at name ty (raw.Name other) = None
located_at name ty (raw.Direct a None w byte bit) =
    if is_address a None w byte bit && has_width ty w then located_in name ty (area_of a) byte bit else None
located_at name ty (raw.Direct a (Some n) w byte bit) = None

-- Data blocks

-- a number from its digits, after a number; one above 4,294,967,295 is kept as that number
abbrev pub number_from : ℕ → List ℕ → ℕ
number_from value [] = value
number_from value (digit ∷ digits) = number_from (min (value * 10 + (digit - 48)) (2 ^ 32 - 1)) digits

-- the number of a data block by its key, which is its name with a number without leading zeros; 0 for another name
abbrev pub number_in : List ℕ → ℕ
number_in key = if names_block key then number_from 0 (drop 2 key) else 0

-- the number of a data block by its name as written, in any case and with leading zeros; 0 for another name
abbrev pub block_number : List ℕ → ℕ
block_number name = number_in (key_of name)

-- the location of a data block is its own byte 0
abbrev pub is_start_of : ℕ → RawVar → Bool
is_start_of number (raw.Name name) = false
is_start_of number (raw.Direct area.Db (Some n) width.Byte byte bit) = n == number && byte == 0 && bit == 0
is_start_of number (raw.Direct a block w byte bit) = false

-- how many bytes the runs of a list have, each a count and a byte
abbrev pub total : List (ℕ × ℕ) → ℕ
total [] = 0
total (run ∷ runs) = run.0 + total runs

-- a written list has a byte for each index up to the last one; a list that is missing fills any
abbrev pub fills : ℕ → List (ℕ × ℕ) → Bool
fills last [] = true
fills last (run ∷ runs) = total (run ∷ runs) == last + 1

-- the bytes of a list; zeros where it is missing
abbrev pub contents : ℕ → List (ℕ × ℕ) → List ℕ
contents last [] = replicate (last + 1) 0
contents last (run ∷ runs) = flat_map (λ (r : ℕ × ℕ). replicate r.0 r.1) (run ∷ runs)

-- a data block has no more bytes than it may
abbrev pub is_small_enough : ℕ → Bool
is_small_enough last = nat_le (last + 1) MOST_BLOCK_BYTES

-- a data block of a number has an address that may be written
abbrev pub has_block_address : ℕ → RawVar → Bool
has_block_address number at = is_block_number number && has_address at

-- a data block of a number has its own location, two bytes or more, and a list that fills it
abbrev pub has_block_form : ℕ → RawVar → ℕ → List (ℕ × ℕ) → Bool
has_block_form number at last list = is_start_of number at && nat_le 1 last && fills last list

-- the rules that are broken in a data block of a number
abbrev pub block_breaks : Line → ℕ → RawVar → ℕ → List (ℕ × ℕ) → List Break
block_breaks line number at last list =
    unless (has_block_address number at) (rule_break line BadAddress)
    ++ (unless (is_small_enough last) (rule_break line TooLarge)
    ++ unless (has_block_form number at last list) (rule_break line TypeMismatch))

-- a data block of a number in the tree; none where a rule is broken
abbrev pub block_at : ℕ → RawVar → ℕ → List (ℕ × ℕ) → Option DataBlock
block_at number at last list =
    if has_block_address number at && is_small_enough last && has_block_form number at last list
    then Some (record { number = number; bytes = contents last list })
    else None

-- data blocks and one more, if it exists; a text with more than there may be is refused
abbrev pub with_block : Option DataBlock → List DataBlock → List DataBlock
with_block None blocks = blocks
with_block (Some b) blocks = if nat_lt (length blocks) MOST_BLOCKS then insert_data_block b blocks else blocks

-- Globals of both kinds

-- the global on I, Q or M that a declaration gives, if it gives one
abbrev pub located_of : RawGlobalType → List ℕ → RawVar → Option Located
located_of (type.Plain ty) name at = located_at name ty at
located_of (type.Bytes last list) name at = None

-- the data block that a declaration gives, if it gives one and breaks no rule
abbrev pub block_of : RawGlobalType → List ℕ → RawVar → Option DataBlock
block_of (type.Plain ty) name at = None
block_of (type.Bytes last list) name at = block_at (block_number name) at last list

-- the rules that a declaration breaks by its location, its size or its initial value
abbrev pub global_breaks : RawGlobalType → Line → List ℕ → RawVar → List Break
global_breaks (type.Plain ty) line name at =
    unless (has_address at) (rule_break line BadAddress) ++ unless (fits_type ty at) (rule_break line TypeMismatch)
global_breaks (type.Bytes last list) line name at = block_breaks line (block_number name) at last list

-- all globals on I, Q and M, in the order of the text
abbrev pub all_located : List RawGlobal → List Located
all_located globals = flat_map (λ (g : RawGlobal). as_list (located_of g.ty g.name g.at)) globals

-- all data blocks, in ascending order of their numbers
abbrev pub all_blocks : List RawGlobal → List DataBlock
all_blocks globals = fold (λ blocks (g : RawGlobal). with_block (block_of g.ty g.name g.at) blocks) [] globals

-- the rules that all declarations of globals break by their locations, sizes and initial values
abbrev pub all_global_breaks : List RawGlobal → List Break
all_global_breaks globals = flat_map (λ (g : RawGlobal). global_breaks g.ty g.line g.name g.at) globals
