-- Activations that a run of an accepted program can have. They lie in the areas of its memory, and no chain of them is
-- longer than a chain of calls may be.
use Rattle.std.specs.Prelude.{◌≡◌, ◌⊎◌, ℕ, ◌+◌, List, [], ◌∷◌, length, slice_get, All, Contains, Option, Some, None}
use Rattle.memory_areas.specs.Access.{aim_of_place, fault_of}
use Rattle.memory_areas.specs.Areas.{fresh}
use Rattle.memory_areas.specs.declared.data_block.DataBlock.{DataBlock}
use Rattle.memory_areas.specs.declared.place.Place.{Place}
use Rattle.memory_areas.specs.declared.sizes.TheConstants.{ACTIVATIONS}
use Rattle.s7_base.specs.declared.word.Width.{Width}
use Rattle.stl_tree.specs.Accepted.{EndsWithin, LiesInInstance, Widths, widths_named}
use Rattle.stl_tree.specs.Now.{Activation}
use Rattle.stl_tree.specs.declared.program.Block.{Block}
use Rattle.stl_tree.specs.declared.program.BlockCall.{BlockCall}
use Rattle.stl_tree.specs.declared.program.Formal.{Formal}
use Rattle.stl_tree.specs.declared.program.Instr.{Instr}
use Rattle.stl_tree.specs.declared.program.Op.{Op}
use Rattle.stl_tree.specs.declared.program.Op.TheVariants as op
use Rattle.stl_tree.specs.declared.program.Program.{Program}

-- an access of a width reaches a place, in a memory of some data blocks
abbrev pub IsReached : List DataBlock → Width → Place → Type 0
IsReached dbs w p = fault_of (aim_of_place p) w (fresh dbs) ≡ None

abbrev pub IsReachedIfGiven : List DataBlock → Width → Option Place → Type 0
IsReachedIfGiven dbs w None = Unit {0}
IsReachedIfGiven dbs w (Some p) = IsReached dbs w p

-- the places of some formals are reached, as far as there are any
abbrev pub AreReached : List DataBlock → List Formal → List (Option Place) → Type 0
AreReached dbs [] places = Unit {0}
AreReached dbs (f ∷ formals) [] = Unit {0}
AreReached dbs (f ∷ formals) (p ∷ places) = IsReachedIfGiven dbs f.width p × AreReached dbs formals places

-- each formal that a body may name has a place, which is reached
abbrev pub AreNamed : List DataBlock → Widths → List (Option Place) → Type 0
AreNamed dbs widths places =
    (k : ℕ) (w : Width) → slice_get widths k ≡ Some w
    → (p : Place) × (slice_get places k ≡ Some (Some p)) × IsReached dbs w p

-- what is copied into an instance and back reaches its places and lies in the instance
pub record AreCopied (dbs : List DataBlock) (instance : ℕ)
    (formals : List Formal) (places : List (Option Place)) : Type 0 where
  pub lie : All (LiesInInstance dbs instance) formals
  pub reached : AreReached dbs formals places

-- an activation, for which so many wait, is one of a block of the program, at which no longer chain of calls begins
-- than there is room for
pub record IsActivationOf (program : Program) (waiting : ℕ) (a : Activation) : Type 0 where
  pub block : Block
  pub there : slice_get program.blocks a.block ≡ Some block
  pub most : ℕ
  pub room : most + waiting ≡ ACTIVATIONS
  pub chain : EndsWithin most program.blocks a.block
  pub named : AreNamed program.dbs (widths_named block.name block.formals) a.formals
  pub copied : (a.instance ≡ 0) ⊎ AreCopied program.dbs a.instance block.formals a.formals

-- each activation is one of the program
abbrev pub AreActivationsOf : Program → List Activation → Type 0
AreActivationsOf program [] = Unit {0}
AreActivationsOf program (a ∷ waiting) =
    IsActivationOf program (length waiting) a × AreActivationsOf program waiting

-- an instruction is a call
abbrev pub IsCallBy : BlockCall → Op → Type 0
IsCallBy call (op.Call c) = c ≡ call
IsCallBy call (op.CallIf c) = c ≡ call
IsCallBy call other = ⊥

-- a call stands in a body
abbrev pub StandsInBody : BlockCall → Option Block → Type 0
StandsInBody call None = ⊥
StandsInBody call (Some b) = (i : Instr) × Contains b.body i × IsCallBy call i.op

-- a call stands in the body of the running block
abbrev pub StandsIn : Program → List Activation → BlockCall → Type 0
StandsIn program [] call = ⊥
StandsIn program (a ∷ waiting) call = StandsInBody call (slice_get program.blocks a.block)
