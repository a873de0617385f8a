-- What a state of a program and one of its graph have to do with each other, while statements do instructions: what
-- register variables and memory hold, which units wait, and what formals stand for.
use Rattle.std.specs.Prelude.{◌≡◌, ◌≢◌, ℕ, suc, ◌<◌, ◌==◌, ℤ, pos, if◌then◌else◌, List, [], ◌∷◌, ◌++◌, length, slice_get, Option, Some, None, option_and_then, Ok}
use Rattle.memory_areas.specs.Access.{HoldsBytes, aim_of_place, fault_of}
use Rattle.memory_areas.specs.Areas.{Contents, fresh, no_locals}
use Rattle.memory_areas.specs.Memory.{HasActivations, HasBlocks}
use Rattle.memory_areas.specs.declared.data_block.DataBlock.{DataBlock}
use Rattle.memory_areas.specs.declared.place.Area.{Area}
use Rattle.memory_areas.specs.declared.place.Area.TheVariants as area
use Rattle.memory_areas.specs.declared.place.Place.{Place}
use Rattle.s7_base.specs.declared.register.Reg.{Reg}
use Rattle.s7_base.specs.declared.register.Reg.TheVariants as reg
use Rattle.s7_base.specs.declared.word.Width.{Width}
use Rattle.stl_tree.specs.Accepted.{Widths}
use Rattle.stl_tree.specs.Calls.{cell_of}
use Rattle.stl_tree.specs.Now.{Activation, Now}
use Rattle.stl_tree.specs.Registers.{RegisterValues}
use Rattle.instruction_laws.specs.Ranges.{AreInRange}
use Rattle.st_tree.specs.State.{Activation as Running, State, read_place}
use Rattle.st_tree.specs.declared.state.Reference.{Reference}
use Rattle.st_tree.specs.Values.{number_of, type_of_width}
use Rattle.st_tree.specs.declared.state.Value.{Value}
use Rattle.st_tree.specs.declared.state.Reference.TheVariants as reference

-- Registers

-- the number of a register variable
abbrev pub number_in : RegisterValues → Reg → ℤ
number_in r reg.Accu1 = pos r.accu1
number_in r reg.Accu2 = pos r.accu2
number_in r reg.Ar1 = pos r.ar1
number_in r reg.Ar2 = pos r.ar2
number_in r reg.DbNo = pos r.db
number_in r reg.DiNo = pos r.di
number_in r reg.Nfc = number_of r.status.nfc
number_in r reg.Rlo = number_of r.status.rlo
number_in r reg.Sta = number_of r.status.sta
number_in r reg.Orb = number_of r.status.orb
number_in r reg.Os = number_of r.status.os
number_in r reg.Ov = number_of r.status.ov
number_in r reg.Cc0 = number_of r.status.cc0
number_in r reg.Cc1 = number_of r.status.cc1
number_in r reg.Br = number_of r.status.br

-- every register variable has its number but STA, which no instruction reads
abbrev pub IsKept : Reg → Type 0
IsKept reg.Sta = ⊥
IsKept r = Unit {0}

-- register variables have the numbers of the registers
abbrev pub AreAlike : RegisterValues → (Reg → ℤ) → Type 0
AreAlike r registers = (q : Reg) → IsKept q → registers q ≡ number_in r q

-- Memory

-- a memory without the constant actuals, which a text has in locals
abbrev pub without_cells : Contents → Contents
without_cells m = record m { cells = no_locals }

-- an area is part of the memory, and no cell of constant actuals
abbrev pub IsInMemory : Area → Type 0
IsInMemory (area.Cell d) = ⊥
IsInMemory a = Unit {0}

-- an area is a cell of constant actuals
abbrev pub IsCell : Area → Type 0
IsCell (area.Cell d) = Unit {0}
IsCell a = ⊥

-- Waiting units

-- a constant that a unit gives to a call: the local of the unit that has it, and its width
pub record Constant : Type 0 where
  pub local : ℕ
  pub width : Width

-- a local has none of some constants
abbrev pub HasNoConstant : List (Option Constant) → ℕ → Type 0
HasNoConstant [] i = Unit {0}
HasNoConstant (None ∷ constants) i = HasNoConstant constants i
HasNoConstant (Some c ∷ constants) i = (c.local ≢ i) × HasNoConstant constants i

-- each constant has a local of its own
abbrev pub AreApart : List (Option Constant) → Type 0
AreApart [] = Unit {0}
AreApart (None ∷ constants) = AreApart constants
AreApart (Some c ∷ constants) = HasNoConstant constants c.local × AreApart constants

-- a unit that waits for one that it called: the unit as it was at the call, and the constants that it gave to the
-- formals, by their positions; none to one that was given a variable
pub record Waiting : Type 0 where
  pub unit : Running
  pub constants : List (Option Constant)

-- a waiting unit is as it was, but that the called one may write to the constants
pub record StaysAsWas (was : Waiting) (unit : Running) : Type 0 where
  pub apart : AreApart was.constants
  pub formals : unit.formals ≡ was.unit.formals
  pub as_many : length unit.locals ≡ length was.unit.locals
  pub locals : (i : ℕ) → HasNoConstant was.constants i → slice_get unit.locals i ≡ slice_get was.unit.locals i

-- the number of a cell is the value of a local
abbrev pub IsHeld : Contents → Place → Width → Option Value → Type 0
IsHeld memory p w None = ⊥
IsHeld memory p w (Some v) = read_place (type_of_width w) p memory ≡ Ok v

-- the constants from a position on, which the program has in the cells of an activation, are in locals of a unit
abbrev pub AreHeld : Contents → ℕ → ℕ → List (Option Constant) → Running → Type 0
AreHeld memory depth k [] unit = Unit {0}
AreHeld memory depth k (None ∷ constants) unit = AreHeld memory depth (suc k) constants unit
AreHeld memory depth k (Some c ∷ constants) unit =
    IsHeld memory (cell_of depth k) c.width (slice_get unit.locals c.local)
    × AreHeld memory depth (suc k) constants unit

-- some units wait, from the one of a number on: each is as it was, and its constants are those of the activation that
-- it called
abbrev pub Wait : Contents → ℕ → List Waiting → List Running → Type 0
Wait memory d [] [] = Unit {0}
Wait memory d (was ∷ waiting) (unit ∷ units) =
    StaysAsWas was unit × AreHeld memory (suc d) 0 was.constants unit × Wait memory (suc d) waiting units
Wait memory d waiting units = ⊥

-- Frames

-- the blocks of a program that run and wait, the running one first; the units of its graph that wait for the running
-- one, that of the first call first; the widths of the formals that the running block names; and the data blocks of the
-- program. All this stays as it is until the running block has ended
pub record Frames : Type 0 where
  pub blocks : List Activation
  pub waiting : List Waiting
  pub formals : Widths
  pub dbs : List DataBlock

-- Formals

-- the constants of a waiting unit; none where it does not exist
abbrev pub constants_of : Option Waiting → List (Option Constant)
constants_of None = []
constants_of (Some was) = was.constants

-- the constant that the waiting unit of a number gave to the formal at a position
abbrev pub constant_at : List Waiting → ℕ → ℕ → Option Constant
constant_at waiting d k = option_and_then (λ c. c) (slice_get (constants_of (slice_get waiting d)) k)

-- an area is part of the memory, and no local data of an activation from the one of a number on
abbrev pub IsReached : ℕ → Area → Type 0
IsReached depth (area.Cell d) = ⊥
IsReached depth (area.Local d) = d < depth
IsReached depth a = Unit {0}

-- a place that is given to a formal of a width: an access to it has no fault
pub record IsGiven (depth : ℕ) (dbs : List DataBlock) (w : Width) (p : Place) : Type 0 where
  pub reached : IsReached depth p.area
  pub lies : fault_of (aim_of_place p) w (fresh dbs) ≡ None

-- the constant that is given to a formal of a width: the block has it in a cell, and its unit in a local of a waiting
-- unit
pub record IsConstantOf (waiting : List Waiting) (w : Width) (p : Place) (d i : ℕ) : Type 0 where
  pub position : ℕ
  pub cell : p ≡ cell_of (suc d) position
  pub local : constant_at waiting d position ≡ Some (record { local = i; width = w })

-- a formal of a block, of a width, and that of its unit mean the same: a place, or a constant
abbrev pub StandForSame : List Waiting → List DataBlock → Width → Place → Reference → Type 0
StandForSame waiting dbs w p (reference.Place q ty) =
    (q ≡ p) × (ty ≡ type_of_width w) × IsGiven (length waiting) dbs w p
StandForSame waiting dbs w p (reference.Local d i) = IsConstantOf waiting w p d i
StandForSame waiting dbs w p (reference.Register r) = ⊥

-- each formal of a block and that of its unit mean the same
abbrev pub AreFormals : List Waiting → List DataBlock → Widths → List (Option Place) → List Reference → Type 0
AreFormals waiting dbs [] [] [] = Unit {0}
AreFormals waiting dbs (w ∷ widths) (Some p ∷ places) (r ∷ references) =
    StandForSame waiting dbs w p r × AreFormals waiting dbs widths places references
AreFormals waiting dbs widths places references = ⊥

-- the formals of a running block, as its unit has them: one with an instance has them in its data block
abbrev pub formals_of_block : List Activation → List (Option Place)
formals_of_block [] = []
formals_of_block (a ∷ waiting) = if a.instance == 0 then a.formals else []

-- States

-- a state of a program and one of its graph are related: register variables have the numbers of the registers, which
-- are in their ranges; the memory is the same but for cells, has only bytes, and is one with the program's data blocks;
-- these blocks run and wait, and as many units, the running one after those that wait, and its formals mean the same
pub record Related (frames : Frames) (now : Now) (s : State) : Type 0 where
  pub registers : AreAlike now.registers s.registers
  pub range : AreInRange now.registers
  pub memory : s.memory ≡ without_cells now.memory
  pub bytes : HoldsBytes now.memory
  pub sizes : HasActivations now.memory
  pub faults : HasBlocks frames.dbs now.memory
  pub blocks : now.activations ≡ frames.blocks
  pub depth : suc (length frames.waiting) ≡ length frames.blocks
  pub units : List Running
  pub wait : Wait now.memory 0 frames.waiting units
  pub running : Running
  pub activations : s.activations ≡ units ++ running ∷ []
  pub formals : AreFormals frames.waiting frames.dbs frames.formals (formals_of_block frames.blocks) running.formals
