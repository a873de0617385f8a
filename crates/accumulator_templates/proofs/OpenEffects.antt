-- OPN of the data block whose number stands in a word does its row.
use Rattle.std.proofs.Common.{◌≡◌, ℕ, ◌+◌, ◌%◌, ◌^◌, ◌<◌, ◌≤◌, pos, List, [], ◌∷◌, length, Result, Ok, Err, sym, ap, ◌∙◌, arith}
use Rattle.std.specs.Prelude.{ℤ}
use Rattle.memory_areas.specs.Access.{and_then, read_word}
use Rattle.memory_areas.specs.declared.place.Place.{Place}
use Rattle.s7_base.specs.declared.outcome.Fault.{Fault}
use Rattle.s7_base.specs.declared.register.Reg.{Reg}
use Rattle.s7_base.specs.declared.register.Reg.TheVariants as reg
use Rattle.s7_base.specs.declared.word.Width.TheVariants as width
use Rattle.stl_tree.specs.Accepted.{IsOperand}
use Rattle.stl_tree.specs.Accumulators.{read_number}
use Rattle.stl_tree.specs.Instructions.{block_opened, on_registers}
use Rattle.stl_tree.specs.Now.{Now, with_value}
use Rattle.stl_tree.specs.Registers.{RegisterValues}
use Rattle.stl_tree.specs.declared.program.OpenArg.TheVariants as arg
use Rattle.stl_tree.specs.declared.program.Operand.{Operand}
use Rattle.st_tree.specs.Meaning.{Calls, body_meaning}
use Rattle.st_tree.specs.State.{State, own_of, read_place}
use Rattle.st_tree.specs.Value.{value}
use Rattle.st_tree.specs.Values.{typed}
use Rattle.st_tree.specs.declared.expr.Expr.{Expr}
use Rattle.st_tree.specs.declared.expr.StType.TheVariants as type
use Rattle.st_tree.specs.declared.expr.Var.TheVariants as var
use Rattle.st_tree.specs.declared.program.Located.{Located}
use Rattle.st_tree.proofs.Equations.{assign_stops_at_value}
use Rattle.accumulator_templates.specs.DataBlocks.{block_open_of}
use Rattle.accumulator_templates.proofs.ReadNumbers.{number_fits}
use Rattle.accumulator_templates.proofs.Worths.{word}
use Rattle.template_parts.specs.Builders.{set_of}
use Rattle.template_parts.specs.Fetching.{fetched_value_of, types_fetched}
use Rattle.template_parts.specs.Related.{Frames, Related}
use Rattle.template_parts.proofs.Alike.{same_areas}
use Rattle.instruction_laws.specs.Ranges.{AreInRange}
use Rattle.template_parts.specs.DoesInstruction.{DoesInstruction, Stops}
use Rattle.template_parts.proofs.Fetching.{fetch_effect, number_shown, number_value}
use Rattle.template_parts.proofs.MemoryEffects.{by_value}
use Rattle.template_parts.proofs.RegisterEffects.{HasRegisterEffect, does_effect}
use Rattle.template_parts.proofs.Stages.{known, stage, stage_begins}

-- a word that was read, as a value
word_read : (r : Result ℕ Fault) (v : ℕ) → v < 2 ^ 16 → r ≡ Ok v → and_then r (λ n. Ok (typed type.Word (pos n))) ≡ Ok (word v)
word_read r v h e =
    let same : v % 2 ^ 16 ≡ v = omega arith in
    ap (λ (q : Result ℕ Fault). and_then q (λ n. Ok (typed type.Word (pos n)))) e ∙ ap (λ (n : ℕ). Ok (word n)) same

-- a register takes a number that an expression is worth
abbrev Opens : Reg → (ℕ → RegisterValues → RegisterValues) → Type 0
Opens q row =
    (g : List Located) (s : State) (used : ℕ) (r : RegisterValues) (sta : ℤ) → AreInRange r → (e : Expr) (n : ℕ) → n < 2 ^ 16
    → value g e (stage s used [] (known r sta)) ≡ Ok (word n) → HasRegisterEffect g s used (set_of q e ∷ []) r (row n r) sta

module _ (g : List Located) (frames : Frames) (calls : Calls) (units : ℕ) (q : Reg) (row : ℕ → RegisterValues → RegisterValues) (opens : Opens q row) where
  -- from an expression that is worth what is read at a place
  word_opens : (now : Now) (s : State) → Related frames now s → (used : ℕ) (p : Place) (e : Expr) → used ≤ length (own_of s.activations)
      → value g e s ≡ read_place type.Word p now.memory
      → DoesInstruction (body_meaning g calls (set_of q e ∷ []) units s) units used frames s now.memory
      (with_value (read_word p now.memory) (λ (v : ℕ). on_registers (row v) now))
  word_opens now s related used p e room worth =
      by_value (body_meaning g calls (set_of q e ∷ []) units s) units used frames s now.memory
      (λ (v : ℕ). on_registers (row v) now) (read_word p now.memory) goes stops
    where
      goes : (v : ℕ) → read_word p now.memory ≡ Ok v
          → DoesInstruction (body_meaning g calls (set_of q e ∷ []) units s) units used frames s now.memory (on_registers (row v) now)
      goes v found =
          let small : v < 2 ^ 16 = number_fits width.Word p now.memory v related.bytes found in
          let begins : s ≡ stage s used [] (known now.registers (s.registers reg.Sta)) = stage_begins s used now.registers related.registers room in
          does_effect g s used calls units (set_of q e ∷ []) frames now (row v now.registers) related
          (opens g s used now.registers (s.registers reg.Sta) related.range e v small
          (ap (value g e) (sym begins) ∙ worth ∙ word_read (read_word p now.memory) v small found)) (omega arith)

      stops : (f : Fault) → read_word p now.memory ≡ Err f → Stops (body_meaning g calls (set_of q e ∷ []) units s) now.memory f
      stops f found =
          record {
            at = s;
            stops = assign_stops_at_value g calls (var.Register q) e [] units s f
                (worth ∙ ap (λ (r : Result ℕ Fault). and_then r (λ n. Ok (typed type.Word (pos n)))) found);
            areas = same_areas frames now s related;
          }

  pub word_does : (now : Now) (s : State) → Related frames now s → (used : ℕ) (o : Operand)
      → IsOperand frames.formals width.Word o → used + length (types_fetched o width.Word) ≤ length (own_of s.activations)
      → DoesInstruction (body_meaning g calls (block_open_of used q (arg.At o)) units s) units used frames s now.memory (block_opened row (arg.At o) now)
  word_does now s related used o lies room =
      fetch_effect g calls units frames now s related used o width.Word lies (read_number width.Word) (number_value width.Word) (number_shown width.Word)
      (λ (p : Place) (after : Now) (v : ℕ). on_registers (row v) after) (set_of q (fetched_value_of used o width.Word) ∷ []) room
      (λ f is t done.
      let many : length (own_of t.activations) ≡ length (own_of s.activations) = done.as_many in
      word_opens f.after t done.related (used + length (types_fetched o width.Word)) f.place (fetched_value_of used o width.Word) (omega arith) done.here)
