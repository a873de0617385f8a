-- The state of a text's run. It has memory, register variables and activations; also how variables are located, read
-- and written.
-- Held against: IEC 61131-3, 'Variables', and this project's own register variables.
use Rattle.std.specs.Prelude.{ℕ, zero, suc, ◌-◌, ◌==◌, ℤ, pos, Bool, if◌then◌else◌, List, [], ◌∷◌, length, slice_get, slice_set, Option, Some, None, Result, Ok, Err}
use Rattle.memory_areas.specs.Access.{and_then, area_named, place_aimed, aim_of_pointer, read_bit, read_byte, read_dword, read_word, write_bit, write_byte, write_dword, write_word}
use Rattle.memory_areas.specs.Areas.{Contents}
use Rattle.memory_areas.specs.declared.place.Area.TheVariants as area
use Rattle.memory_areas.specs.declared.place.AreaName.{AreaName}
use Rattle.memory_areas.specs.declared.place.Place.{Place}
use Rattle.s7_base.specs.RegSet.{place}
use Rattle.s7_base.specs.declared.outcome.Fault.{Fault}
use Rattle.s7_base.specs.declared.outcome.Fault.TheVariants.{AreaLength}
use Rattle.s7_base.specs.declared.register.Reg.{Reg}
use Rattle.s7_base.specs.declared.register.Reg.TheVariants as reg
use Rattle.s7_base.specs.declared.word.Width.{Width}
use Rattle.st_tree.specs.Values.{Value, pattern, typed, flag, is_set, type_of_width}
use Rattle.st_tree.specs.declared.expr.StType.{StType}
use Rattle.st_tree.specs.declared.expr.StType.TheVariants as type
use Rattle.st_tree.specs.declared.expr.Var.{Var}
use Rattle.st_tree.specs.declared.expr.Var.TheVariants as var
use Rattle.st_tree.specs.declared.program.Located.{Located}
pub use Rattle.st_tree.specs.declared.state.Reference.{Reference}
use Rattle.st_tree.specs.declared.state.Reference.TheVariants as reference

-- The state

-- a unit that runs: the values of its locals, and the references of its formals
pub record Activation : Type 0 where
  pub locals : List Value
  pub formals : List Reference

-- the memory, the number of each register variable, and the activations, the running one last
pub record State : Type 0 where
  pub memory : Contents
  pub registers : Reg → ℤ
  pub activations : List Activation

-- the number of the running activation; that of the first is 0
abbrev pub depth : State → ℕ
depth s = length s.activations - 1

-- the values of the locals of an activation; none where it does not exist
abbrev pub locals_of : Option Activation → List Value
locals_of None = []
locals_of (Some a) = a.locals

-- the locals of the running unit, which is the last one
abbrev pub own_of : List Activation → List Value
own_of running = locals_of (slice_get running (length running - 1))

-- the references of the formals of an activation; none where it does not exist
abbrev pub formals_of : Option Activation → List Reference
formals_of None = []
formals_of (Some a) = a.formals

-- two register variables are equal
abbrev pub is_same_register : Reg → Reg → Bool
is_same_register q r = place q == place r

-- the registers after one of them took a number
abbrev pub with_register : Reg → ℤ → (Reg → ℤ) → Reg → ℤ
with_register r n registers q = if is_same_register q r then n else registers q

-- the type of a register variable
abbrev pub type_of_register : Reg → StType
type_of_register reg.Accu1 = type.Dword
type_of_register reg.Accu2 = type.Dword
type_of_register reg.Ar1 = type.Dword
type_of_register reg.Ar2 = type.Dword
type_of_register reg.DbNo = type.Word
type_of_register reg.DiNo = type.Word
type_of_register reg.Nfc = type.Bool
type_of_register reg.Rlo = type.Bool
type_of_register reg.Sta = type.Bool
type_of_register reg.Orb = type.Bool
type_of_register reg.Os = type.Bool
type_of_register reg.Ov = type.Bool
type_of_register reg.Cc0 = type.Bool
type_of_register reg.Cc1 = type.Bool
type_of_register reg.Br = type.Bool

-- the activations after a local of one of them took a value
abbrev pub with_local : ℕ → ℕ → Value → List Activation → List Activation
with_local d i v [] = []
with_local zero i v (a ∷ rest) = record a { locals = slice_set a.locals i v } ∷ rest
with_local (suc d) i v (a ∷ rest) = a ∷ with_local d i v rest

-- Places

-- the number of the data block that DBNO names at an access, a WORD; 0 where none is open
abbrev pub db_number : State → ℕ
db_number s = pattern 16 (s.registers reg.DbNo)

-- the number of the data block that DINO names at an access, a WORD; 0 where none is open
abbrev pub di_number : State → ℕ
di_number s = pattern 16 (s.registers reg.DiNo)

-- the place that a direct variable names
abbrev pub place_of : AreaName → ℕ → ℕ → State → Place
place_of a byte x s = record { area = area_named a (db_number s) (di_number s) (depth s); byte = byte; bit = x }

-- the place that a pointer names, a DWORD, whose area code must be that of an area
abbrev pub pointed_at : Value → State → Result Place Fault
pointed_at p s = place_aimed (aim_of_pointer (pattern 32 p.n) (db_number s) (di_number s) (depth s))

-- the value of a place in memory, read in its type; a LINT has no place, and is read from 4 bytes
abbrev pub read_place : StType → Place → Contents → Result Value Fault
read_place type.Bool p memory = and_then (read_bit p memory) (λ b. Ok (flag b))
read_place type.Byte p memory = and_then (read_byte p memory) (λ n. Ok (typed type.Byte (pos n)))
read_place type.Word p memory = and_then (read_word p memory) (λ n. Ok (typed type.Word (pos n)))
read_place type.Dword p memory = and_then (read_dword p memory) (λ n. Ok (typed type.Dword (pos n)))
read_place type.Int p memory = and_then (read_word p memory) (λ n. Ok (typed type.Int (pos n)))
read_place type.Dint p memory = and_then (read_dword p memory) (λ n. Ok (typed type.Dint (pos n)))
read_place type.Lint p memory = and_then (read_dword p memory) (λ n. Ok (typed type.Lint (pos n)))

-- the memory after a place of a type took a value
abbrev pub write_place : StType → Place → Value → Contents → Result Contents Fault
write_place type.Bool p v memory = write_bit p (is_set v) memory
write_place type.Byte p v memory = write_byte p (pattern 8 v.n) memory
write_place type.Word p v memory = write_word p (pattern 16 v.n) memory
write_place type.Dword p v memory = write_dword p (pattern 32 v.n) memory
write_place type.Int p v memory = write_word p (pattern 16 v.n) memory
write_place type.Dint p v memory = write_dword p (pattern 32 v.n) memory
write_place type.Lint p v memory = write_dword p (pattern 32 v.n) memory

-- Variables

-- a variable, if it exists, else the fault `AreaLength`; no proper tree names one that no declaration has
abbrev pub there : {A : Type 0} → Option A → Result A Fault
there None = Err AreaLength
there (Some x) = Ok x

-- the reference of a variable of the running unit; whether a place exists is not tested
abbrev pub reference_of : List Located → Var → State → Result Reference Fault
reference_of globals (var.Register r) s = Ok (reference.Register r)
reference_of globals (var.Local i) s = Ok (reference.Local (depth s) i)
reference_of globals (var.Formal i) s = there (slice_get (formals_of (slice_get s.activations (depth s))) i)
reference_of globals (var.Global i) s =
    and_then (there (slice_get globals i)) (λ (g : Located). Ok (reference.Place g.place g.ty))
reference_of globals (var.Direct a byte x w) s = Ok (reference.Place (place_of a byte x s) (type_of_width w))
reference_of globals (var.InBlock n byte x w) s =
    Ok (reference.Place (record { area = area.Db n; byte = byte; bit = x }) (type_of_width w))

-- the value at a reference
abbrev pub read_at : Reference → State → Result Value Fault
read_at (reference.Register r) s = Ok (record { ty = type_of_register r; n = s.registers r })
read_at (reference.Local d i) s = there (slice_get (locals_of (slice_get s.activations d)) i)
read_at (reference.Place p ty) s = read_place ty p s.memory

-- the state after a value was written at a reference
abbrev pub write_at : Reference → Value → State → Result State Fault
write_at (reference.Register r) v s = Ok (record s { registers = with_register r v.n s.registers })
write_at (reference.Local d i) v s =
    and_then (there (slice_get (locals_of (slice_get s.activations d)) i))
    (λ (old : Value). Ok (record s { activations = with_local d i v s.activations }))
write_at (reference.Place p ty) v s =
    and_then (write_place ty p v s.memory) (λ memory. Ok (record s { memory = memory }))

-- the value of a variable
abbrev pub read : List Located → Var → State → Result Value Fault
read globals v s = and_then (reference_of globals v s) (λ r. read_at r s)

-- the state after a variable took a value
abbrev pub write : List Located → Var → Value → State → Result State Fault
write globals v w s = and_then (reference_of globals v s) (λ r. write_at r w s)

-- the value, of a width, at the place that a pointer names
abbrev pub area_read : Width → Value → State → Result Value Fault
area_read w p s = and_then (pointed_at p s) (λ place. read_place (type_of_width w) place s.memory)

-- the state after the place that a pointer names took a value of a width
abbrev pub area_write : Width → Value → Value → State → Result State Fault
area_write w p v s = and_then (pointed_at p s) (λ place. write_at (reference.Place place (type_of_width w)) v s)
