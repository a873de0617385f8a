-- Two states side by side: in which registers they agree, and that an instruction does alike to both.
use Rattle.std.specs.Prelude.{◌≡◌, List, [], ◌∷◌}
use Rattle.s7_base.specs.declared.register.Reg.{Reg}
use Rattle.s7_base.specs.declared.register.Reg.TheVariants as reg
use Rattle.stl_tree.specs.Now.{Now, Effect, next, go, enter, leave, fault}
use Rattle.stl_tree.specs.Registers.{RegisterValues}

-- Before an instruction

-- a register has the same value on both sides
abbrev pub IsSame : Reg → RegisterValues → RegisterValues → Type 0
IsSame reg.Accu1 r s = r.accu1 ≡ s.accu1
IsSame reg.Accu2 r s = r.accu2 ≡ s.accu2
IsSame reg.Ar1 r s = r.ar1 ≡ s.ar1
IsSame reg.Ar2 r s = r.ar2 ≡ s.ar2
IsSame reg.DbNo r s = r.db ≡ s.db
IsSame reg.DiNo r s = r.di ≡ s.di
IsSame reg.Nfc r s = r.status.nfc ≡ s.status.nfc
IsSame reg.Rlo r s = r.status.rlo ≡ s.status.rlo
IsSame reg.Sta r s = r.status.sta ≡ s.status.sta
IsSame reg.Orb r s = r.status.orb ≡ s.status.orb
IsSame reg.Os r s = r.status.os ≡ s.status.os
IsSame reg.Ov r s = r.status.ov ≡ s.status.ov
IsSame reg.Cc0 r s = r.status.cc0 ≡ s.status.cc0
IsSame reg.Cc1 r s = r.status.cc1 ≡ s.status.cc1
IsSame reg.Br r s = r.status.br ≡ s.status.br

-- each of some registers has the same value on both sides
abbrev pub AreSame : List Reg → RegisterValues → RegisterValues → Type 0
AreSame [] r s = Unit {0}
AreSame (q ∷ rest) r s = IsSame q r s × AreSame rest r s

-- two states agree on some registers: they have the same memory, open brackets and activations; the same numbers in
-- the DB and the DI register, by which an access finds its data block; and the same values in these registers
pub record Agree (asked : List Reg) (one other : Now) : Type 0 where
  pub memory : one.memory ≡ other.memory
  pub brackets : one.brackets ≡ other.brackets
  pub activations : one.activations ≡ other.activations
  pub db : one.registers.db ≡ other.registers.db
  pub di : one.registers.di ≡ other.registers.di
  pub registers : AreSame asked one.registers other.registers

-- After it

-- a register is alike on both sides after an instruction, r and s being the registers before it: it has the same value
-- on both, or was kept on both
pub data IsLike (q : Reg) (r s after_r after_s : RegisterValues) : Type 0 where
  is_same : IsSame q after_r after_s → IsLike q r s after_r after_s
  is_kept : IsSame q r after_r → IsSame q s after_s → IsLike q r s after_r after_s

-- two states after an instruction: they have the same memory, open brackets and activations, and each register is
-- alike on both sides
pub record AreLikeStates (r s : RegisterValues) (one other : Now) : Type 0 where
  pub memory : one.memory ≡ other.memory
  pub brackets : one.brackets ≡ other.brackets
  pub activations : one.activations ≡ other.activations
  pub registers : (q : Reg) → IsLike q r s one.registers other.registers

-- an instruction does the same on both sides: it continues, jumps, calls or ends in the same way, or has the same
-- fault
abbrev pub AreLike : RegisterValues → RegisterValues → Effect → Effect → Type 0
AreLike r s (next one) (next other) = AreLikeStates r s one other
AreLike r s (go to one) (go there other) = (to ≡ there) × AreLikeStates r s one other
AreLike r s (enter call one) (enter other_call other) = (call ≡ other_call) × AreLikeStates r s one other
AreLike r s (leave one) (leave other) = AreLikeStates r s one other
AreLike r s (fault f) (fault g) = f ≡ g
AreLike r s one other = ⊥
