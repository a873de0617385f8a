-- Calls and ends of blocks keep registers and memory in their ranges.
use Rattle.std.proofs.Common.{◌≡◌, ℕ, ◌+◌, ◌<◌, ◌^◌, ◌==◌, Bool, true, false, if◌then◌else◌, List, [], ◌∷◌, length, Option, Some, None, Result, Ok, Err, refl, subst}
use Rattle.std.specs.Prelude.{cond}
use Rattle.memory_areas.specs.Access.{HoldsBytes, and_then, bits_wide, read_bit, read_byte, read_dword, read_word}
use Rattle.memory_areas.specs.Areas.{Contents, with_zero_activation}
use Rattle.memory_areas.specs.declared.place.Place.{Place}
use Rattle.s7_base.specs.declared.outcome.Fault.{Fault}
use Rattle.s7_base.specs.declared.word.Width.{Width}
use Rattle.stl_tree.specs.Accepted.{AreActuals, IsActual, Widths}
use Rattle.stl_tree.specs.Accumulators.{read_number, write_number}
use Rattle.stl_tree.specs.Calls.{actual_places, after_call, after_end_of, after_giving_back, after_taking, all_copied, cell_of, copied_back, copied_in, instance_or, is_given_back, is_taken, place_in_instance, with_block, with_constant, with_constants, with_copy}
use Rattle.stl_tree.specs.Now.{Activation, Now, Effect, next, with_memory, with_value}
use Rattle.stl_tree.specs.Registers.{RegisterValues}
use Rattle.stl_tree.specs.declared.program.Actual.{Actual}
use Rattle.stl_tree.specs.declared.program.Actual.TheVariants as actual
use Rattle.stl_tree.specs.declared.program.BlockCall.{BlockCall}
use Rattle.stl_tree.specs.declared.program.Formal.{Formal}
use Rattle.st_tree.proofs.FittingMemory.{AfterHolds, cleared_holds}
use Rattle.instruction_laws.specs.InstructionLaws.{CallsKeepRanges}
use Rattle.instruction_laws.specs.Ranges.{AreInRange, IsInRange}
use Rattle.instruction_laws.proofs.RangeEffects.{number_read, number_written, registers_with_blocks}

-- Memory

after_next : (r : Result Contents Fault) (f : Contents → Result Contents Fault) → AfterHolds r
    → ((m : Contents) → HoldsBytes m → AfterHolds (f m)) → AfterHolds (and_then r f)
after_next (Ok m) f holds h = h m holds
after_next (Err x) f holds h = tt

copy_holds : (w : Width) (from to : Place) (m : Contents) → HoldsBytes m → AfterHolds (with_copy w from to m)
copy_holds w from to m holds = by (read_number w from m) (number_read w from m holds)
  where
    by : (r : Result ℕ Fault) → ((n : ℕ) → r ≡ Ok n → n < 2 ^ bits_wide w) → AfterHolds (and_then r (λ n. write_number w to n m))
    by (Ok n) small = number_written w to n m holds (small n refl)
    by (Err f) small = tt

where_wanted : (b : Bool) (r : Result Contents Fault) (m : Contents) → HoldsBytes m → AfterHolds r → AfterHolds (if b then r else Ok m)
where_wanted true r m holds h = h
where_wanted false r m holds h = holds

copied_in_holds : (instance : ℕ) (f : Formal) (p : Option Place) (m : Contents) → HoldsBytes m → AfterHolds (copied_in instance f p m)
copied_in_holds instance f None m holds = holds
copied_in_holds instance f (Some p) m holds =
    where_wanted (is_taken f.mode) (with_copy f.width p (place_in_instance instance f) m) m holds (copy_holds f.width p (place_in_instance instance f) m holds)

copied_back_holds : (instance : ℕ) (f : Formal) (p : Option Place) (m : Contents) → HoldsBytes m → AfterHolds (copied_back instance f p m)
copied_back_holds instance f None m holds = holds
copied_back_holds instance f (Some p) m holds =
    where_wanted (is_given_back f.mode) (with_copy f.width (place_in_instance instance f) p m) m holds
    (copy_holds f.width (place_in_instance instance f) p m holds)

all_hold : (copy : Formal → Option Place → Contents → Result Contents Fault)
    → ((f : Formal) (p : Option Place) (m : Contents) → HoldsBytes m → AfterHolds (copy f p m))
    → (formals : List Formal) (places : List (Option Place)) (m : Contents) → HoldsBytes m → AfterHolds (all_copied copy formals places m)
all_hold copy each [] places m holds = holds
all_hold copy each (f ∷ formals) [] m holds = holds
all_hold copy each (f ∷ formals) (p ∷ places) m holds =
    after_next (copy f p m) (all_copied copy formals places) (each f p m holds) (λ n. all_hold copy each formals places n)

if_instance : (t : Bool) (r : Result Contents Fault) (m : Contents) → HoldsBytes m → AfterHolds r → AfterHolds (if t then Ok m else r)
if_instance true r m holds h = holds
if_instance false r m holds h = h

taking_holds : (instance : ℕ) (formals : List Formal) (places : List (Option Place)) (m : Contents)
    → HoldsBytes m → AfterHolds (after_taking instance formals places m)
taking_holds instance formals places m holds =
    if_instance (instance == 0) (all_copied (copied_in instance) formals places m) m holds
    (all_hold (copied_in instance) (copied_in_holds instance) formals places m holds)

giving_holds : (instance : ℕ) (formals : List Formal) (places : List (Option Place)) (m : Contents) → HoldsBytes m
    → AfterHolds (after_giving_back instance formals places m)
giving_holds instance formals places m holds =
    if_instance (instance == 0) (all_copied (copied_back instance) formals places m) m holds
    (all_hold (copied_back instance) (copied_back_holds instance) formals places m holds)

constant_holds : (wide : Widths) (optional : Bool) (d k : ℕ) (f : Formal) (a : Actual) (m : Contents) → IsActual wide optional f a → HoldsBytes m
    → AfterHolds (with_constant d k f.width a m)
constant_holds wide optional d k f actual.Missing m is holds = holds
constant_holds wide optional d k f (actual.Constant c) m is holds = number_written f.width (cell_of d k) c m holds is.1
constant_holds wide optional d k f (actual.At o) m is holds = holds

constants_hold : (wide : Widths) (optional : Bool) (d k : ℕ) (formals : List Formal) (actuals : List Actual) (m : Contents)
    → AreActuals wide optional formals actuals
    → HoldsBytes m → AfterHolds (with_constants d k formals actuals m)
constants_hold wide optional d k [] actuals m is holds = holds
constants_hold wide optional d k (f ∷ formals) [] m is holds = holds
constants_hold wide optional d k (f ∷ formals) (a ∷ actuals) m is holds =
    after_next (with_constant d k f.width a m) (with_constants d (k + 1) formals actuals) (constant_holds wide optional d k f a m is.0 holds)
    (λ n. constants_hold wide optional d (k + 1) formals actuals n is.1)

-- States

-- a state, or a fault
abbrev StateInRange : Result Now Fault → Type 0
StateInRange (Ok now) = IsInRange now
StateInRange (Err f) = Unit {0}

with_contents : (r : Result Contents Fault) (f : Contents → Result Now Fault) → AfterHolds r → ((m : Contents) → HoldsBytes m → StateInRange (f m))
    → StateInRange (and_then r f)
with_contents (Ok m) f holds h = h m holds
with_contents (Err x) f holds h = tt

instance_small : (instance di : ℕ) (t : Bool) → instance < 2 ^ 16 → di < 2 ^ 16 → (if t then di else instance) < 2 ^ 16
instance_small instance di true a b = b
instance_small instance di false a b = a

module _ (wide : Widths) (optional : Bool) (formals : List Formal) (call : BlockCall) (now : Now) (is : AreActuals wide optional formals call.actuals)
    (small : call.instance < 2 ^ 16) (h : IsInRange now) where
  block_in_range : (places : List (Option Place)) (m : Contents) → HoldsBytes m → IsInRange (with_block call places m now)
  block_in_range places m holds = record {
    registers =
        registers_with_blocks now.registers.db (instance_or call.instance now.registers.di) now.registers h.registers h.registers.db
        (instance_small call.instance now.registers.di (call.instance == 0) small h.registers.di);
    memory = holds;
  }

  call_in_range : StateInRange (after_call formals call now)
  call_in_range = by (actual_places (length now.activations) 0 formals call.actuals now)
    where
      by : (r : Result (List (Option Place)) Fault)
          → StateInRange (and_then r
          (λ places. and_then (with_constants (length now.activations) 0 formals call.actuals (with_zero_activation (length now.activations) now.memory))
          (λ m. and_then (after_taking call.instance formals places m) (λ taken. Ok (with_block call places taken now)))))
      by (Err f) = tt
      by (Ok places) =
          with_contents (with_constants (length now.activations) 0 formals call.actuals (with_zero_activation (length now.activations) now.memory))
          (λ m. and_then (after_taking call.instance formals places m) (λ taken. Ok (with_block call places taken now)))
          (constants_hold wide optional (length now.activations) 0 formals call.actuals (with_zero_activation (length now.activations) now.memory) is
          (cleared_holds (length now.activations) now.memory h.memory))
          (λ m holds. with_contents (after_taking call.instance formals places m) (λ taken. Ok (with_block call places taken now))
          (taking_holds call.instance formals places m holds) (λ n k. block_in_range places n k))

ends_in_range : (formals : List Formal) (done : Activation) (waiting : List Activation) (now : Now) → done.db < 2 ^ 16 → done.di < 2 ^ 16 → IsInRange now
    → StateInRange (after_end_of formals done waiting now)
ends_in_range formals done waiting now db di h =
    with_contents (after_giving_back done.instance formals done.formals now.memory)
    (λ m. Ok (record now { registers = record now.registers { db = done.db; di = done.di }; memory = m; activations = waiting }))
    (giving_holds done.instance formals done.formals now.memory h.memory)
    (λ m holds. record { registers = registers_with_blocks done.db done.di now.registers h.registers db di; memory = holds })

pub calls_keep : CallsKeepRanges
calls_keep = record {
  begins = λ wide optional formals call now after is small h e. subst StateInRange e (call_in_range wide optional formals call now is small h);
  ends = λ formals done waiting now after db di h e. subst StateInRange e (ends_in_range formals done waiting now db di h);
}
