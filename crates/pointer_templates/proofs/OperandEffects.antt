-- The rows on operands: an address register takes a double word, or is written to one.
use Rattle.std.proofs.Common.{◌≡◌, ℕ, ◌+◌, ◌%◌, ◌^◌, ◌<◌, ◌≤◌, pos, List, [], length, Option, Some, None, Result, Ok, Err, refl, sym, ap, subst, ◌∙◌, arith}
use Rattle.memory_areas.specs.Access.{and_then, place_if_named, read_dword}
use Rattle.memory_areas.specs.Pointers.{with_offset}
use Rattle.memory_areas.specs.declared.place.Area.{Area}
use Rattle.memory_areas.specs.declared.place.AreaName.{AreaName}
use Rattle.memory_areas.specs.declared.place.Place.{Place}
use Rattle.pointer_templates.proofs.PointerEffects.{pointed_effect}
use Rattle.pointer_templates.proofs.ReadDwords.{pointer_fits, pointer_read}
use Rattle.pointer_templates.specs.Pointers.{pointed_of, pointer_load_of, pointer_store_of}
use Rattle.template_parts.specs.Builders.{read_of}
use Rattle.template_parts.specs.Fetching.{fetched_value_of, types_fetched, types_reached}
use Rattle.template_parts.specs.Related.{Frames, Related}
use Rattle.template_parts.specs.DoesInstruction.{DoesInstruction, Stops}
use Rattle.template_parts.proofs.Alike.{same_areas}
use Rattle.template_parts.proofs.Fetching.{fetch_effect, number_shown, number_value, reach_effect}
use Rattle.template_parts.proofs.MemoryEffects.{by_value}
use Rattle.template_parts.proofs.Pointers.{dword, pointer_small, pointer_worth}
use Rattle.template_parts.proofs.RegisterEffects.{does_effect}
use Rattle.template_parts.proofs.Stages.{known, stage, stage_begins}
use Rattle.s7_base.specs.declared.outcome.Fault.{Fault}
use Rattle.s7_base.specs.declared.register.Reg.TheVariants as reg
use Rattle.s7_base.specs.declared.word.Width.TheVariants as width
use Rattle.st_tree.proofs.Equations.{assign_stops_at_value}
use Rattle.st_tree.specs.Fitting.{IsOf}
use Rattle.st_tree.specs.Meaning.{Calls, body_meaning}
use Rattle.st_tree.specs.State.{State, own_of, read_place}
use Rattle.st_tree.specs.Value.{value}
use Rattle.st_tree.specs.Values.{pattern, typed}
use Rattle.st_tree.specs.declared.expr.Expr.{Expr}
use Rattle.st_tree.specs.declared.expr.StType.TheVariants as type
use Rattle.st_tree.specs.declared.expr.Var.TheVariants as var
use Rattle.st_tree.specs.declared.program.Located.{Located}
use Rattle.stl_tree.specs.Accepted.{IsOperand}
use Rattle.stl_tree.specs.Accumulators.{read_number, write_number}
use Rattle.stl_tree.specs.AddressRegisters.{pointer_in, with_pointer}
use Rattle.stl_tree.specs.DataBlocks.{db_opened}
use Rattle.stl_tree.specs.Instructions.{on_registers, pointed_from, pointer_stored}
use Rattle.stl_tree.specs.Now.{Effect, Now, next, with_memory, with_value}
use Rattle.stl_tree.specs.Operands.{OperandPlace, aimed_by, aimed_in, formal_place, found_at, found_formal, place_in, place_of_operand}
use Rattle.stl_tree.specs.Reads.{register_of}
use Rattle.stl_tree.specs.declared.program.Ar.{Ar}
use Rattle.stl_tree.specs.declared.program.Ar.TheVariants as ar
use Rattle.stl_tree.specs.declared.program.ArLoad.TheVariants as load
use Rattle.stl_tree.specs.declared.program.ArStore.TheVariants as store
use Rattle.stl_tree.specs.declared.program.Operand.{Operand}
use Rattle.stl_tree.specs.declared.program.Operand.TheVariants as operand

-- Address registers stay as an operand is found

-- what holds of an operand that was found
abbrev Where : (OperandPlace → Type 0) → Result OperandPlace Fault → Type 0
Where P (Ok f) = P f
Where P (Err x) = Unit {0}

module _ (a : Ar) (now : Now) where
  -- an address register holds what it held
  abbrev Stays : OperandPlace → Type 0
  Stays f = pointer_in a f.after.registers ≡ pointer_in a now.registers

  aimed_stays : (o : Option Area) (byte x : ℕ) → Where Stays (and_then (place_if_named o byte x) (λ p. Ok (record { place = p; after = now })))
  aimed_stays None byte x = tt
  aimed_stays (Some there) byte x = refl

  opened_stays : (r : Ar) (n : ℕ) → pointer_in r (db_opened n now.registers) ≡ pointer_in r now.registers
  opened_stays ar.One n = refl
  opened_stays ar.Two n = refl

  formal_stays : (o : Option Place) → Where Stays (found_formal o now)
  formal_stays None = tt
  formal_stays (Some p) = refl

  by_pointer : (there : AreaName) (r : Result ℕ Fault) → Where Stays (and_then r (λ p. found_at (aimed_in there p now) now))
  by_pointer there (Ok p) = refl
  by_pointer there (Err x) = tt

  stays : (o : Operand) → Where Stays (place_of_operand o now)
  stays (operand.Direct there byte x) = refl
  stays (operand.Opened n byte x) = opened_stays a n
  stays (operand.Formal k) = formal_stays (formal_place k now.activations)
  stays (operand.ByMemory there pointer_area byte) = by_pointer there (read_dword (place_in pointer_area byte 0 now) now.memory)
  stays (operand.ByRegister there r offset) = refl
  stays (operand.Crossing r offset) =
      let p : ℕ = with_offset (pointer_in r now.registers) offset in
      aimed_stays (aimed_by p now).area (aimed_by p now).byte (aimed_by p now).bit

  -- the effect that writes a number there, by an address register
  abbrev writes : (ℕ → ℕ) → OperandPlace → Effect
  writes value f = with_memory (write_number width.Dword f.place (value (pointer_in a f.after.registers)) f.after.memory) f.after next

  -- all its bits are written
  whole : pointer_in a now.registers < 2 ^ 32 → (r : Result OperandPlace Fault) → Where Stays r
      → with_value r (writes (λ n. n % 2 ^ 32)) ≡ with_value r (writes (λ n. n))
  whole small (Err x) h = refl
  whole small (Ok f) h =
      let same : pointer_in a f.after.registers % 2 ^ 32 ≡ pointer_in a f.after.registers = omega (arith, h) in
      ap (λ (n : ℕ). with_memory (write_number width.Dword f.place n f.after.memory) f.after next) same

-- a pointer is a DWORD
pointer_is : (n : ℕ) → n < 2 ^ 32 → IsOf type.Dword (dword n)
pointer_is n h = let same : pattern 32 (pos n) ≡ n = omega arith in record { type = refl; number = ap (λ (k : ℕ). pos k) same }

-- The rows

module _ (g : List Located) (frames : Frames) (calls : Calls) (units : ℕ) (a : Ar) where
  -- an address register takes an expression that is worth what is read at a place
  read_points : (now : Now) (s : State) → Related frames now s → (used : ℕ) (p : Place) (e : Expr) → used ≤ length (own_of s.activations)
      → value g e s ≡ read_place type.Dword p now.memory
      → DoesInstruction (body_meaning g calls (pointed_of a e) units s) units used frames s now.memory
      (with_value (read_dword p now.memory) (λ (v : ℕ). on_registers (with_pointer a v) now))
  read_points now s related used p e room worth =
      by_value (body_meaning g calls (pointed_of a e) units s) units used frames s now.memory
      (λ (v : ℕ). on_registers (with_pointer a v) now) (read_dword p now.memory) goes stops
    where
      goes : (v : ℕ) → read_dword p now.memory ≡ Ok v
          → DoesInstruction (body_meaning g calls (pointed_of a e) units s) units used frames s now.memory (on_registers (with_pointer a v) now)
      goes v place_of_operand =
          let small : v < 2 ^ 32 = pointer_fits p now.memory v related.bytes place_of_operand in
          let begins : s ≡ stage s used [] (known now.registers (s.registers reg.Sta)) = stage_begins s used now.registers related.registers room in
          does_effect g s used calls units (pointed_of a e) frames now (with_pointer a v now.registers) related
          (pointed_effect g s used now.registers (s.registers reg.Sta) related.range a e v small
          (ap (value g e) (sym begins) ∙ worth ∙ pointer_read (read_dword p now.memory) v small place_of_operand)) (omega arith)

      stops : (f : Fault) → read_dword p now.memory ≡ Err f → Stops (body_meaning g calls (pointed_of a e) units s) now.memory f
      stops f place_of_operand =
          record {
            at = s;
            stops = assign_stops_at_value g calls (var.Register (register_of a)) e [] units s f
                (worth ∙ ap (λ (r : Result ℕ Fault). and_then r (λ n. Ok (typed type.Dword (pos n)))) place_of_operand);
            areas = same_areas frames now s related;
          }

  module _ (now : Now) (s : State) (related : Related frames now s) (used : ℕ) (o : Operand) (lies : IsOperand frames.formals width.Dword o) where
    -- LAR1 and LAR2 of an operand
    pub operand_loaded : used + length (types_fetched o width.Dword) ≤ length (own_of s.activations)
        → DoesInstruction (body_meaning g calls (pointer_load_of used a (load.At o)) units s) units used frames s now.memory (pointed_from a (load.At o) now)
    operand_loaded room =
        fetch_effect g calls units frames now s related used o width.Dword lies (read_number width.Dword) (number_value width.Dword) (number_shown width.Dword)
        (λ (p : Place) (after : Now) (v : ℕ). on_registers (with_pointer a v) after) (pointed_of a (fetched_value_of used o width.Dword)) room
        (λ f is t done.
        let many : length (own_of t.activations) ≡ length (own_of s.activations) = done.as_many in
        read_points f.after t done.related (used + length (types_fetched o width.Dword)) f.place (fetched_value_of used o width.Dword) (omega arith) done.here)

    -- TAR1 and TAR2 into an operand
    pub operand_stored : used + length (types_reached o) ≤ length (own_of s.activations)
        → DoesInstruction (body_meaning g calls (pointer_store_of used a (store.At o)) units s) units used frames s now.memory
        (pointer_stored a (store.At o) now)
    operand_stored room =
        subst (DoesInstruction (body_meaning g calls (pointer_store_of used a (store.At o)) units s) units used frames s now.memory)
        (whole a now (pointer_small g s frames now related a) (place_of_operand o now) (stays a now o))
        (reach_effect g calls units frames now s related used o width.Dword lies
        (read_of (register_of a)) (λ (after : Now). dword (pointer_in a after.registers))
        (λ after t relates. pointer_worth g t frames after relates a)
        (λ after t relates. pointer_is (pointer_in a after.registers) (pointer_small g t frames after relates a))
        (λ (p : Place) (after : Now). write_number width.Dword p (pointer_in a after.registers % 2 ^ 32) after.memory)
        (λ p after. refl)
        (λ (done : Now). done) [] room
        (λ after t relates. record { to = t; goes = refl; related = relates; as_many = refl; below = λ i h. refl }))
