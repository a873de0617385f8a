-- Laws of the instruction table.
use Rattle.std.specs.Prelude.{◌≡◌, ◌^◌, ◌<◌, Bool, List, Ok}
use Rattle.memory_areas.specs.Access.{aim_of_place, and_then, located, bytes_for_access}
use Rattle.memory_areas.specs.Areas.{Contents}
use Rattle.memory_areas.specs.declared.place.Place.{Place}
use Rattle.s7_base.specs.declared.word.Width.{Width}
use Rattle.stl_tree.specs.Accepted.{AreActuals, HasOperand, Widths}
use Rattle.stl_tree.specs.Calls.{after_call, after_end_of}
use Rattle.stl_tree.specs.Instructions.{effect_of}
use Rattle.stl_tree.specs.Now.{Activation, Now}
use Rattle.stl_tree.specs.Reads.{reads_of}
use Rattle.stl_tree.specs.declared.program.BlockCall.{BlockCall}
use Rattle.stl_tree.specs.declared.program.Formal.{Formal}
use Rattle.stl_tree.specs.declared.program.Op.{Op}
use Rattle.stl_tree.specs.declared.program.Operand.{Operand}
use Rattle.instruction_laws.specs.Agreement.{Agree, AreLike}
use Rattle.instruction_laws.specs.Located.{aimed_and_located, found_and_reached}
use Rattle.instruction_laws.specs.Ranges.{IsInRange, LeavesInRange}

-- what an instruction does depends on no register but those that it reads: where two states agree on these, it does
-- the same to both. ACCU1 has 32 bits: AD with no bit and OD with all bits read nothing, and would keep any above
-- these
abbrev pub EffectsDependOnReads : Type 0
EffectsDependOnReads =
    (op : Op) (one other : Now)
    → one.registers.accu1 < 2 ^ 32 → other.registers.accu1 < 2 ^ 32 → Agree (reads_of op) one other
    → AreLike one.registers other.registers (effect_of op one) (effect_of op other)

-- an instruction whose operand and constants are ones that it may have keeps registers and memory in their ranges
abbrev pub RangesAreKept : Type 0
RangesAreKept =
    (formals : Widths) (op : Op) (now : Now) → HasOperand formals op → IsInRange now → LeavesInRange (effect_of op now)

-- calls keep registers and memory in their ranges: the begin of a block whose actuals are ones for its formals, with an
-- instance of a number of 16 bits; and its end, with numbers of 16 bits that are put back
pub record CallsKeepRanges : Type 0 where
  pub begins : (wide : Widths) (optional : Bool) (formals : List Formal) (call : BlockCall) (now after : Now)
      → AreActuals wide optional formals call.actuals → call.instance < 2 ^ 16 → IsInRange now
      → after_call formals call now ≡ Ok after → IsInRange after
  pub ends : (formals : List Formal) (done : Activation) (waiting : List Activation) (now after : Now)
      → done.db < 2 ^ 16 → done.di < 2 ^ 16 → IsInRange now → after_end_of formals done waiting now ≡ Ok after
      → IsInRange after

-- an access follows the tests of `located`: to reach a place, as each read and write of it does, gives the answer of
-- `located` to it, the place or the first fault; and to find the place of an operand and then reach it gives the
-- answer of `located` to its aim, in the same state
pub record AccessesAreLocated : Type 0 where
  pub of_place : (p : Place) (w : Width) (m : Contents)
      → and_then (bytes_for_access p w m) (λ bytes. Ok p) ≡ located (aim_of_place p) w m
  pub of_operand : (o : Operand) (w : Width) (now : Now) → found_and_reached o w now ≡ aimed_and_located o w now
