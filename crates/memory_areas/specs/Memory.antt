-- How the calls of a memory answer.
use Rattle.std.specs.Prelude.{◌≡◌, ◌<◌, Bool, true, false, List, length, All, None, Result, Ok, Err}
use Rattle.s7_base.specs.declared.outcome.Fault.{Fault}
use Rattle.s7_base.specs.declared.word.Width.{Width}
use Rattle.memory_areas.specs.Access.{Aim, fault_of}
use Rattle.memory_areas.specs.Areas.{Contents, block_of, fresh}
use Rattle.memory_areas.specs.declared.data_block.DataBlock.{DataBlock}
use Rattle.memory_areas.specs.declared.place.Area.{Area}
use Rattle.memory_areas.specs.declared.place.Area.TheVariants as area
use Rattle.memory_areas.specs.declared.sizes.TheConstants.{ACTIVATIONS}

-- an area whose activation is one of the eight
abbrev pub IsActivation : Area → Type 0
IsActivation (area.Local d) = d < ACTIVATIONS
IsActivation (area.Cell d) = d < ACTIVATIONS
IsActivation other = Unit {0}

-- a memory has local data and constant actuals of eight activations
abbrev pub HasActivations : Contents → Type 0
HasActivations m = (length m.locals ≡ ACTIVATIONS) × (length m.cells ≡ ACTIVATIONS)

-- an area is a data block that does not exist
abbrev pub IsMissing : Area → Contents → Type 0
IsMissing (area.Db n) m = block_of n m.areas.blocks ≡ None
IsMissing other m = ⊥

-- a write gave the memory that it should; one that is refused leaves the memory as it was
abbrev pub Writes : Result Contents Fault → Result (Unit {0}) Fault → Contents → Contents → Type 0
Writes defined (Ok done) before after = defined ≡ Ok after
Writes defined (Err f) before after = (defined ≡ Err f) × (after ≡ before)

-- the bytes of a data block are bytes
abbrev pub HasBytes : DataBlock → Type 0
HasBytes block = All (λ b. b < 256) block.bytes

-- a test answers whether a fact is true
abbrev pub Decides : Bool → Type 0 → Type 0
Decides true P = P
Decides false P = P → ⊥

-- a memory has these data blocks with their lengths: each access has the fault that it has in a new one
abbrev pub HasBlocks : List DataBlock → Contents → Type 0
HasBlocks blocks m = (aim : Aim) (w : Width) → fault_of aim w m ≡ fault_of aim w (fresh blocks)
