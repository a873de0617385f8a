-- Each row: from related states that have room for its locals, its statements do what it does.
use Rattle.std.proofs.Common.{◌≡◌, ℕ, ◌+◌, ◌≤◌, List, length, refl, arith}
use Rattle.s7_base.specs.declared.register.Reg.TheVariants as reg
use Rattle.s7_base.specs.declared.word.Width.{Width}
use Rattle.s7_base.specs.declared.word.Width.TheVariants as width
use Rattle.status_word.specs.declared.test.Test.{Test}
use Rattle.stl_tree.specs.Accepted.{IsComparison}
use Rattle.stl_tree.specs.Arithmetic.{after_arithmetic, after_comparison, after_negation}
use Rattle.stl_tree.specs.Instructions.{effect_of}
use Rattle.stl_tree.specs.Now.{Now, next}
use Rattle.stl_tree.specs.Registers.{RegisterValues}
use Rattle.stl_tree.specs.declared.accumulator.Arith.{Arith}
use Rattle.stl_tree.specs.declared.accumulator.Arith.TheVariants as row
use Rattle.stl_tree.specs.declared.program.Op.TheVariants as op
use Rattle.st_tree.specs.Meaning.{Calls, body_meaning}
use Rattle.st_tree.specs.State.{State, own_of}
use Rattle.st_tree.specs.declared.program.Located.{Located}
use Rattle.st_tree.specs.declared.program.Stmt.{Stmt}
use Rattle.template_parts.specs.Related.{Frames, Related}
use Rattle.instruction_laws.specs.Ranges.{AreInRange}
use Rattle.template_parts.specs.DoesInstruction.{DoesInstruction}
use Rattle.template_parts.proofs.RegisterEffects.{HasRegisterEffect, locals_set, does_effect}
use Rattle.arithmetic_templates.specs.Calculations.{calculated_of, divisor_kept_of, negated_of, quotient_in_dword_of, quotient_in_words_of, remainder_in_dword_of, types_of_calculated, types_of_negated}
use Rattle.arithmetic_templates.specs.Comparisons.{compared_of, types_of_compared}
use Rattle.arithmetic_templates.proofs.ComparisonEffects.{compared_effect}
use Rattle.arithmetic_templates.proofs.DivisionEffects.{quotient_in_dword_effect, quotient_in_words_effect, remainder_effect}
use Rattle.arithmetic_templates.proofs.ProductEffects.{product_effect}
use Rattle.arithmetic_templates.proofs.ResultEffects.{IsCalculated, difference_effect, negative_effect, sum_effect}

pub calculated_locals : (a : Arith) (used : ℕ) → locals_set (calculated_of used a) ≡ length (types_of_calculated a)
unfolding divisor_kept_of quotient_in_words_of quotient_in_dword_of remainder_in_dword_of
calculated_locals row.AddI used = refl
calculated_locals other used = refl

-- a comparison is one of numbers of 16 or 32 bits
is_compared : (t : Test) (w : Width) → IsComparison t w → IsCalculated w
is_compared t width.Word h = tt
is_compared t width.Dword h = tt
is_compared t other h = elim h [ ]

module _ (g : List Located) (calls : Calls) (units : ℕ) (frames : Frames) (now : Now) (s : State) (related : Related frames now s) (used : ℕ) where
  abbrev range : AreInRange now.registers
  range = related.range

  calculated_effect : (a : Arith) → HasRegisterEffect g s used (calculated_of used a) now.registers (after_arithmetic a now.registers) (s.registers reg.Sta)
  calculated_effect row.AddI = sum_effect g s used now.registers (s.registers reg.Sta) range width.Word tt
  calculated_effect row.SubI = difference_effect g s used now.registers (s.registers reg.Sta) range width.Word tt
  calculated_effect row.MulI = product_effect g s used now.registers (s.registers reg.Sta) range width.Word tt
  calculated_effect row.DivI = quotient_in_words_effect g s used now.registers (s.registers reg.Sta) range
  calculated_effect row.AddD = sum_effect g s used now.registers (s.registers reg.Sta) range width.Dword tt
  calculated_effect row.SubD = difference_effect g s used now.registers (s.registers reg.Sta) range width.Dword tt
  calculated_effect row.MulD = product_effect g s used now.registers (s.registers reg.Sta) range width.Dword tt
  calculated_effect row.DivD = quotient_in_dword_effect g s used now.registers (s.registers reg.Sta) range
  calculated_effect row.Mod = remainder_effect g s used now.registers (s.registers reg.Sta) range

  does : (body : List Stmt) (after : RegisterValues) → HasRegisterEffect g s used body now.registers after (s.registers reg.Sta)
      → used + locals_set body ≤ length (own_of s.activations)
      → DoesInstruction (body_meaning g calls body units s) units used frames s now.memory (next (record now { registers = after }))
  does body after is_effect room = does_effect g s used calls units body frames now after related is_effect room

  pub calculated_does : (a : Arith) → used + length (types_of_calculated a) ≤ length (own_of s.activations)
      → DoesInstruction (body_meaning g calls (calculated_of used a) units s) units used frames s now.memory (effect_of (op.Arith a) now)
  calculated_does a room =
      let same : locals_set (calculated_of used a) ≡ length (types_of_calculated a) = calculated_locals a used in
      does (calculated_of used a) (after_arithmetic a now.registers) (calculated_effect a) (omega arith)

  -- NEGI and NEGD
  pub negated_does : (w : Width) → IsCalculated w → used + length (types_of_negated w) ≤ length (own_of s.activations)
      → DoesInstruction (body_meaning g calls (negated_of used w) units s) units used frames s now.memory
      (next (record now { registers = after_negation w now.registers }))
  negated_does w h room =
      does (negated_of used w) (after_negation w now.registers) (negative_effect g s used now.registers (s.registers reg.Sta) range w h) room

  pub compared_does : (t : Test) (w : Width) → IsComparison t w → used + length (types_of_compared w) ≤ length (own_of s.activations)
      → DoesInstruction (body_meaning g calls (compared_of used t w) units s) units used frames s now.memory (effect_of (op.Compare t w) now)
  compared_does t w h room =
      does (compared_of used t w) (after_comparison t w now.registers)
      (compared_effect g s used now.registers (s.registers reg.Sta) range t w (is_compared t w h)) room
