-- L of an operand does its row.
use Rattle.std.proofs.Common.{◌≡◌, ℕ, ◌+◌, ◌%◌, ◌^◌, ◌<◌, ◌≤◌, pos, Bool, true, false, List, [], ◌∷◌, length, Result, Ok, Err, refl, ap, ◌∙◌, arith}
use Rattle.std.specs.Prelude.{ℤ}
use Rattle.std.specs.Int.{from_bool}
use Rattle.memory_areas.specs.Access.{and_then, bits_wide, read_bit, read_byte, read_dword, read_word}
use Rattle.memory_areas.specs.Areas.{Contents}
use Rattle.memory_areas.specs.declared.place.Place.{Place}
use Rattle.s7_base.specs.declared.outcome.Fault.{Fault}
use Rattle.s7_base.specs.declared.register.Reg.TheVariants as reg
use Rattle.s7_base.specs.declared.word.Width.{Width}
use Rattle.s7_base.specs.declared.word.Width.TheVariants as width
use Rattle.stl_tree.specs.Accepted.{IsOperand}
use Rattle.stl_tree.specs.Accumulators.{accu_pushed, after_load, read_number}
use Rattle.stl_tree.specs.Instructions.{loaded_from, on_registers}
use Rattle.stl_tree.specs.Now.{Now, with_value}
use Rattle.stl_tree.specs.declared.program.LoadArg.TheVariants as arg
use Rattle.stl_tree.specs.declared.program.Operand.{Operand}
use Rattle.st_tree.specs.Meaning.{Calls, body_meaning}
use Rattle.st_tree.specs.Operators.{converted_value}
use Rattle.st_tree.specs.State.{State, own_of, read_place, with_register}
use Rattle.st_tree.specs.Value.{value}
use Rattle.st_tree.specs.Values.{flag, type_of_width, typed}
use Rattle.st_tree.specs.declared.expr.Expr.{Expr}
use Rattle.st_tree.specs.declared.expr.StType.{StType}
use Rattle.st_tree.specs.declared.expr.StType.TheVariants as type
use Rattle.st_tree.specs.declared.expr.Var.TheVariants as var
use Rattle.st_tree.specs.declared.state.Value.{Value}
use Rattle.st_tree.specs.declared.program.Located.{Located}
use Rattle.st_tree.proofs.Equations.{assign_goes_on, assign_stops_at_value, value_convert, value_equations, value_read}
use Rattle.accumulator_templates.specs.Moves.{load_of, taken_of}
use Rattle.accumulator_templates.specs.AccumulatorParts.{bits_where_of, zero_extension_of}
use Rattle.accumulator_templates.proofs.ReadNumbers.{number_fits}
use Rattle.accumulator_templates.proofs.Worths.{dword}
use Rattle.template_parts.specs.Builders.{convert_of, read_of, set_of}
use Rattle.template_parts.specs.Fetching.{fetched_value_of, types_fetched}
use Rattle.template_parts.specs.Related.{AreAlike, Frames, Related}
use Rattle.instruction_laws.specs.Ranges.{AreInRange}
use Rattle.template_parts.proofs.Alike.{keep_registers, same_areas}
use Rattle.template_parts.specs.DoesInstruction.{DoesInstruction, Leads, Stops}
use Rattle.template_parts.proofs.Fetching.{fetch_effect, number_shown, number_value}
use Rattle.template_parts.proofs.MemoryEffects.{by_value}

-- What is read, extended to a DWORD

-- a number that is below a bound, where one is read
abbrev IsBelow : ℕ → Result ℕ Fault → Type 0
IsBelow most r = (v : ℕ) → r ≡ Ok v → v < most

byte_extended : (r : Result ℕ Fault) → IsBelow (2 ^ 8) r
    → and_then (and_then r (λ n. Ok (typed type.Byte (pos n)))) (λ v. Ok (converted_value type.Dword v)) ≡ and_then r (λ n. Ok (dword n))
byte_extended (Ok v) h = let small = h v refl in let same : v % 2 ^ 8 % 2 ^ 32 ≡ v = omega arith in ap (λ (n : ℕ). Ok (dword n)) same
byte_extended (Err f) h = refl

word_extended : (r : Result ℕ Fault) → IsBelow (2 ^ 16) r
    → and_then (and_then r (λ n. Ok (typed type.Word (pos n)))) (λ v. Ok (converted_value type.Dword v)) ≡ and_then r (λ n. Ok (dword n))
word_extended (Ok v) h = let small = h v refl in let same : v % 2 ^ 16 % 2 ^ 32 ≡ v = omega arith in ap (λ (n : ℕ). Ok (dword n)) same
word_extended (Err f) h = refl

dword_read : (r : Result ℕ Fault) → IsBelow (2 ^ 32) r → and_then r (λ n. Ok (typed type.Dword (pos n))) ≡ and_then r (λ n. Ok (dword n))
dword_read (Ok v) h = let small = h v refl in let same : v % 2 ^ 32 ≡ v = omega arith in ap (λ (n : ℕ). Ok (dword n)) same
dword_read (Err f) h = refl

module _ (g : List Located) (t : State) (e : Expr) where
  bit_extended : (bit : Result Bool Fault) → value g e t ≡ and_then bit (λ b. Ok (flag b))
      → value g (bits_where_of e 1) t ≡ and_then (and_then bit (λ b. Ok (from_bool b))) (λ n. Ok (dword n))
  bit_extended (Ok true) h = simp (value_equations, h)
  bit_extended (Ok false) h = simp (value_equations, h)
  bit_extended (Err f) h = simp (value_equations, h)

  converted_worth : (from : StType) (r : Result Value Fault) → value g e t ≡ r
      → value g (convert_of from type.Dword e) t ≡ and_then r (λ v. Ok (converted_value type.Dword v))
  converted_worth from r h = value_convert g from type.Dword e t ∙ ap (λ (q : Result Value Fault). and_then q (λ v. Ok (converted_value type.Dword v))) h

  -- an expression is worth what is read at a place
  read_worth : (w : Width) (p : Place) (m : Contents) → IsBelow (2 ^ bits_wide w) (read_number w p m) → value g e t ≡ read_place (type_of_width w) p m
      → value g (zero_extension_of w e) t ≡ and_then (read_number w p m) (λ n. Ok (dword n))
  read_worth width.Bit p m small h = bit_extended (read_bit p m) h
  read_worth width.Byte p m small h =
      converted_worth type.Byte (and_then (read_byte p m) (λ n. Ok (typed type.Byte (pos n)))) h ∙ byte_extended (read_byte p m) small
  read_worth width.Word p m small h =
      converted_worth type.Word (and_then (read_word p m) (λ n. Ok (typed type.Word (pos n)))) h ∙ word_extended (read_word p m) small
  read_worth width.Dword p m small h = h ∙ dword_read (read_dword p m) small

-- The row

module _ (g : List Located) (frames : Frames) (now : Now) (s : State) (related : Related frames now s) where
  -- the states once ACCU2 has what ACCU1 holds
  abbrev pushed : State
  pushed = record s { registers = with_register reg.Accu2 (pos now.registers.accu1) s.registers }

  abbrev pushed_now : Now
  pushed_now = record now { registers = accu_pushed now.registers }

  pushed_alike : AreAlike (accu_pushed now.registers) pushed.registers
  pushed_alike reg.Accu2 asked = refl
  pushed_alike q asked = related.registers q asked

  pushed_range : AreInRange (accu_pushed now.registers)
  pushed_range =
      let range : AreInRange now.registers = related.range in
      record { accu1 = range.accu1; accu2 = range.accu1; ar1 = range.ar1; ar2 = range.ar2; db = range.db; di = range.di }

  pushed_related : Related frames pushed_now pushed
  pushed_related = keep_registers frames now s related (accu_pushed now.registers) pushed.registers pushed_alike pushed_range

  -- and once a number has been loaded
  module _ (v : ℕ) where
    abbrev holding : State
    holding = record pushed { registers = with_register reg.Accu1 (pos v) pushed.registers }

    holding_alike : AreAlike (after_load v now.registers) holding.registers
    holding_alike reg.Accu1 asked = refl
    holding_alike q asked = pushed_alike q asked

    holding_related : v < 2 ^ 32 → Related frames (record now { registers = after_load v now.registers }) holding
    holding_related small =
        let range : AreInRange now.registers = related.range in
        keep_registers frames pushed_now pushed pushed_related (after_load v now.registers) holding.registers holding_alike
        (record { accu1 = small; accu2 = range.accu1; ar1 = range.ar1; ar2 = range.ar2; db = range.db; di = range.di })

  module _ (calls : Calls) (units used : ℕ) (e : Expr) where
    accu1_worth : value g (read_of reg.Accu1) s ≡ Ok (dword now.registers.accu1)
    accu1_worth = value_read g (var.Register reg.Accu1) s ∙ ap (λ (n : ℤ). Ok (record { ty = type.Dword; n = n })) (related.registers reg.Accu1 tt)

    pushes : body_meaning g calls (taken_of e) units s ≡ body_meaning g calls (set_of reg.Accu1 e ∷ []) units pushed
    pushes =
        assign_goes_on g calls (var.Register reg.Accu2) (read_of reg.Accu1)
        (set_of reg.Accu1 e ∷ []) units s pushed (dword now.registers.accu1) accu1_worth refl

    loads : (v : ℕ) → v < 2 ^ 32 → value g e pushed ≡ Ok (dword v)
        → Leads (body_meaning g calls (taken_of e) units s) units used frames s (record now { registers = after_load v now.registers })
    loads v small worth =
        record {
          to = holding v;
          goes = pushes ∙ assign_goes_on g calls (var.Register reg.Accu1) e [] units pushed (holding v) (dword v) worth refl;
          related = holding_related v small;
          as_many = refl;
          below = λ i h. refl;
        }

    load_stops : (f : Fault) → value g e pushed ≡ Err f → Stops (body_meaning g calls (taken_of e) units s) now.memory f
    load_stops f worth =
        record {
          at = pushed;
          stops = pushes ∙ assign_stops_at_value g calls (var.Register reg.Accu1) e [] units pushed f worth;
          areas = same_areas frames now s related;
        }

  -- an expression that is worth what is read at a place; each area holds bytes, so that what is read has its width
  taken_does : (calls : Calls) (units used : ℕ) (w : Width) (p : Place) (e : Expr) → value g e pushed ≡ read_place (type_of_width w) p now.memory
      → DoesInstruction (body_meaning g calls (taken_of (zero_extension_of w e)) units s) units used frames s now.memory
      (with_value (read_number w p now.memory) (λ (v : ℕ). on_registers (after_load v) now))
  taken_does calls units used w p e read =
      by_value (body_meaning g calls (taken_of (zero_extension_of w e)) units s) units used frames s now.memory
      (λ (v : ℕ). on_registers (after_load v) now) (read_number w p now.memory)
      (λ v found. loads calls units used (zero_extension_of w e) v (wide w v (fits v found))
      (worth ∙ ap (λ (r : Result ℕ Fault). and_then r (λ n. Ok (dword n))) found))
      (λ f found. load_stops calls units used (zero_extension_of w e) f (worth ∙ ap (λ (r : Result ℕ Fault). and_then r (λ n. Ok (dword n))) found))
    where
      fits : IsBelow (2 ^ bits_wide w) (read_number w p now.memory)
      fits v found = number_fits w p now.memory v related.bytes found

      worth : value g (zero_extension_of w e) pushed ≡ and_then (read_number w p now.memory) (λ n. Ok (dword n))
      worth = read_worth g pushed e w p now.memory fits read

      wide : (u : Width) (v : ℕ) → v < 2 ^ bits_wide u → v < 2 ^ 32
      wide width.Bit v h = omega arith
      wide width.Byte v h = omega arith
      wide width.Word v h = omega arith
      wide width.Dword v h = omega arith

-- L of an operand, which is fetched before ACCU1 moves to ACCU2
pub load_does : (g : List Located) (frames : Frames) (now : Now) (s : State) → Related frames now s
    → (calls : Calls) (units used : ℕ) (o : Operand) (w : Width) → IsOperand frames.formals w o
    → used + length (types_fetched o w) ≤ length (own_of s.activations)
    → DoesInstruction (body_meaning g calls (load_of used (arg.At o w)) units s) units used frames s now.memory (loaded_from (arg.At o w) now)
load_does g frames now s related calls units used o w lies room =
    fetch_effect g calls units frames now s related used o w lies (read_number w) (number_value w) (number_shown w)
    (λ (p : Place) (after : Now) (v : ℕ). on_registers (after_load v) after) (taken_of (zero_extension_of w (fetched_value_of used o w))) room
    (λ f is t done.
    taken_does g frames f.after t done.related calls units (used + length (types_fetched o w)) w f.place (fetched_value_of used o w)
    (done.worth (pushed g frames f.after t done.related) refl refl refl refl))
