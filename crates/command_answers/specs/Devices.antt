-- Inputs and output of a call. What they tell and count before the call and after it.
-- Held against: this project's own streams.
use Rattle.std.specs.Prelude.{◌≡◌, ℕ, ◌≤◌, List, Option, None, Some}
use Rattle.s7_io.specs.Faults.{Rose}
use Rattle.s7_io.specs.declared.sink.Sink as sink
use Rattle.s7_io.specs.declared.source.Source as source

-- an input: the bytes that are still to come, where it tells them, and how often a read of it has failed
pub record Input : Type 0 where
  pub left : Option (List ℕ)
  pub left_after : Option (List ℕ)
  pub faults : ℕ
  pub faults_after : ℕ

-- an output: the bytes that it took, where it tells them, and how often a write to it has failed
pub record Output : Type 0 where
  pub taken : Option (List ℕ)
  pub taken_after : Option (List ℕ)
  pub faults : ℕ
  pub faults_after : ℕ

-- the three devices of a call: where the source comes from, the image, and where the text goes
pub record Devices : Type 0 where
  pub program : Input
  pub image : Input
  pub out : Output

-- an input as its object is before and after the call
abbrev pub input : {S : Type 0} → source.Ghosts S → S → S → Input
input s before after =
    record {
      left = s.left before;
      left_after = s.left after;
      faults = s.faults before;
      faults_after = s.faults after;
    }

-- an output as its object is before and after the call
abbrev pub output : {S : Type 0} → sink.Ghosts S → S → S → Output
output s before after =
    record {
      taken = s.taken before;
      taken_after = s.taken after;
      faults = s.faults before;
      faults_after = s.faults after;
    }

-- the devices as their objects are, first before the call, then after it
abbrev pub devices : {P M K : Type 0} → source.Ghosts P → source.Ghosts M → sink.Ghosts K
    → P → M → K → P → M → K → Devices
devices p m k program image out program_after image_after out_after =
    record {
      program = input p program program_after;
      image = input m image image_after;
      out = output k out out_after;
    }

-- a read of an input failed in the call
abbrev pub ReadFailed : Input → Type 0
ReadFailed input = Rose input.faults input.faults_after

-- a write to an output failed in the call
abbrev pub WriteFailed : Output → Type 0
WriteFailed out = Rose out.faults out.faults_after

-- the bytes are those of an input, where it tells them
abbrev pub AreOf : Option (List ℕ) → List ℕ → Type 0
AreOf None bytes = Unit {0}
AreOf (Some told) bytes = told ≡ bytes

-- no count of faults fell
pub record NoCountFell (devices : Devices) : Type 0 where
  pub program : devices.program.faults ≤ devices.program.faults_after
  pub image : devices.image.faults ≤ devices.image.faults_after
  pub out : devices.out.faults ≤ devices.out.faults_after
