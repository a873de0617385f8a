-- Worked rows: what is not alike, so that the law on what an instruction reads says something.
use Rattle.std.proofs.Common.{◌≡◌, ℕ, ◌+◌, ◌^◌, [], ◌∷◌, Some, refl, arith}
use Rattle.memory_areas.specs.Areas.{fresh}
use Rattle.s7_base.specs.declared.register.Reg.TheVariants as reg
use Rattle.stl_tree.specs.Instructions.{effect_of}
use Rattle.stl_tree.specs.Now.{Now}
use Rattle.stl_tree.specs.Reads.{reads_of}
use Rattle.stl_tree.specs.Registers.{start}
use Rattle.stl_tree.specs.declared.accumulator.LogicRow.TheVariants as logic
use Rattle.stl_tree.specs.declared.program.Op.{Op}
use Rattle.stl_tree.specs.declared.program.Op.TheVariants as op
use Rattle.instruction_laws.specs.Agreement.{Agree, AreLike, IsLike, is_kept, is_same}

-- a state with these numbers in the accumulators
abbrev holding : ℕ → ℕ → Now
holding a b = record { registers = record start { accu1 = a; accu2 = b }; brackets = []; memory = fresh []; activations = [] }

abbrev AlikeFor : Op → Now → Now → Type 0
AlikeFor o one other = AreLike one.registers other.registers (effect_of o one) (effect_of o other)

-- states that differ in ACCU2 agree on ACCU1, and TAK, which reads ACCU2 too, does not do alike to both
agreeing : Agree (reg.Accu1 ∷ []) (holding 1 2) (holding 1 3)
agreeing = record { memory = refl; brackets = refl; activations = refl; db = refl; di = refl; registers = (refl, tt) }

unlike : AlikeFor op.Tak (holding 1 2) (holding 1 3) → ⊥
unlike h = by (h.registers reg.Accu1)
  where
    by : IsLike reg.Accu1 (holding 1 2).registers (holding 1 3).registers (holding 2 1).registers (holding 3 1).registers → ⊥
    by (is_same e) = absurd (omega (arith, e))
    by (is_kept e f) = absurd (omega (arith, e))

-- AD with no bit reads nothing, but a number with more than 32 bits would keep those above
nothing_read : reads_of (op.Logic logic.Ad (Some 0)) ≡ []
nothing_read = refl

too_wide : AlikeFor (op.Logic logic.Ad (Some 0)) (holding 1 0) (holding (2 ^ 32 + 1) 0) → ⊥
too_wide h = by (h.registers reg.Accu1)
  where
    by : IsLike reg.Accu1 (holding 1 0).registers (holding (2 ^ 32 + 1) 0).registers (holding 0 0).registers (holding (2 ^ 32) 0).registers → ⊥
    by (is_same e) = absurd (omega (arith, e))
    by (is_kept e f) = absurd (omega (arith, e))

-- a state at a position of its body
abbrev placed_at : ℕ → Now
placed_at at = record (holding 0 0) { activations = record { block = 0; at = at; instance = 0; db = 0; di = 0; formals = [] } ∷ [] }

-- where JL goes on depends on its position too, so states are alike after it only where their activations are the same
elsewhere : AlikeFor (op.JumpList 1 9) (placed_at 0) (placed_at 4) → ⊥
elsewhere h = absurd (omega (arith, h.0))
