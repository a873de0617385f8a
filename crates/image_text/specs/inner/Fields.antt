-- What stands inside the calls that read an image: what is left of a line, numbers as they are kept, what lines may
-- name.
use Rattle.std.specs.Prelude.{◌≡◌, ℕ, ◌^◌, ◌<◌, ◌≤◌, nat_lt, if◌then◌else◌, List, [], ◌∷◌, length, All, Bool, Some, Result, Ok, Err}
use Rattle.std.specs.List.{slice_split}
use Rattle.digit_texts.specs.Digits.{capped_number}
use Rattle.memory_areas.specs.Access.{bytes_there, or_none}
use Rattle.memory_areas.specs.Areas.{Contents, IsMemoryOf}
use Rattle.memory_areas.specs.declared.data_block.DataBlock.{DataBlock}
use Rattle.memory_areas.specs.declared.place.Area.{Area}
use Rattle.memory_areas.specs.declared.place.Area.TheVariants as area
use Rattle.memory_areas.specs.declared.sizes.TheConstants.{MOST_BLOCK_BYTES}
use Rattle.image_text.specs.Image.{AreaLine, is_blank, values_of}
use Rattle.image_text.specs.Report.{block_text}
use Rattle.image_text.specs.declared.refusal.ImageRefusal.{ImageRefusal}
use Rattle.image_text.specs.declared.area_line.AreaLine.{AreaLine as Found}

-- a line gave the memory that it should, or it was refused
abbrev pub LineDoes : Result Contents ImageRefusal → Result (Unit {0}) ImageRefusal → Contents → Type 0
LineDoes defined (Ok done) after = defined ≡ Ok after
LineDoes defined (Err refused) after = defined ≡ Err refused

-- the pieces after the first one of a text: none, or after a separator further pieces
abbrev pub pieces_left : (ℕ → Bool) → List ℕ → List (List ℕ)
pieces_left p [] = []
pieces_left p (b ∷ behind) = slice_split p behind

-- the bytes of the fields that are left of a line, where each of them writes one
abbrev pub values_left : List ℕ → List ℕ
values_left left = or_none (values_of (pieces_left is_blank left))

-- a number of a data block that is kept in 16 bits; one past the greatest is kept as 0, which no block has
abbrev pub block_kept : ℕ → ℕ
block_kept n = if nat_lt n (2 ^ 16) then n else 0

-- an area with the number of its data block kept in 16 bits
abbrev pub area_kept : Area → Area
area_kept (area.Db n) = area.Db (block_kept n)
area_kept other = other

-- the form of a line with its numbers kept in 16 and in 32 bits
abbrev pub area_line_kept : AreaLine → AreaLine
area_line_kept s = record { area = area_kept s.area; byte = capped_number s.byte; fields = s.fields }

-- the form of a line that the code found
abbrev pub view : Found → AreaLine
view s = record { area = s.area; byte = s.byte; fields = pieces_left is_blank s.fields.now }

-- the data block of a number, as a report shows it
abbrev pub numbered_text : Contents → ℕ → List ℕ
numbered_text m n = block_text (record { number = n; bytes = bytes_there (Some (area.Db n)) m })

-- an area that a line can name
abbrev pub IsNamed : Area → Type 0
IsNamed (area.Local d) = ⊥
IsNamed (area.Cell d) = ⊥
IsNamed other = Unit {0}

-- a data block has a number and a size that a data block may have
pub record IsBlock (block : DataBlock) : Type 0 where
  pub least : 0 < block.number
  pub most : block.number < 2 ^ 16
  pub small : length block.bytes ≤ MOST_BLOCK_BYTES

-- the areas that a line can name are no larger than the largest data block
pub record IsUsable (m : Contents) : Type 0 where
  pub inputs : length m.areas.inputs ≤ MOST_BLOCK_BYTES
  pub outputs : length m.areas.outputs ≤ MOST_BLOCK_BYTES
  pub markers : length m.areas.markers ≤ MOST_BLOCK_BYTES
  pub blocks : All IsBlock m.areas.blocks

-- after a line, a memory of some data blocks is still one of these
abbrev pub MemoryStays : Contents → Contents → Type 0
MemoryStays before after = (blocks : List DataBlock) → IsMemoryOf blocks before.areas → IsMemoryOf blocks after.areas
