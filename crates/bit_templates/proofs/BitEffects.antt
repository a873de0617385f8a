-- Checks, and what is stored in a bit: their statements do what their rows do. What they do once an operand was found
-- is said of any bit at a place, in the state in which it was found.
use Rattle.std.proofs.Common.{◌≡◌, ℕ, ◌+◌, ◌≤◌, pos, Bool, true, false, not, if◌then◌else◌, List, [], ◌∷◌, length, Result, Ok, Err, refl, sym, ap, subst, ◌∙◌}
use Rattle.std.specs.Prelude.{ℤ, slice_get}
use Rattle.memory_areas.specs.Access.{and_then, read_bit, write_bit}
use Rattle.memory_areas.specs.Areas.{Contents}
use Rattle.memory_areas.specs.declared.place.Place.{Place}
use Rattle.status_word.specs.StatusBits.{StatusBits, after_check, after_store, orb_after, rlo_after}
use Rattle.s7_base.specs.declared.check.Check.{Check}
use Rattle.s7_base.specs.declared.check.Check.TheVariants as check
use Rattle.s7_base.specs.declared.outcome.Fault.{Fault}
use Rattle.s7_base.specs.declared.register.Reg.{Reg}
use Rattle.s7_base.specs.declared.register.Reg.TheVariants as reg
use Rattle.s7_base.specs.declared.word.Width.TheVariants as width
use Rattle.stl_tree.proofs.RowForms.{reset_by_and, set_by_or}
use Rattle.stl_tree.specs.Accepted.{IsOperand}
use Rattle.stl_tree.specs.Instructions.{effect_of}
use Rattle.stl_tree.specs.Now.{Now, fault, next, with_memory, with_status, with_value}
use Rattle.stl_tree.specs.declared.program.BitArg.TheVariants as arg
use Rattle.stl_tree.specs.declared.program.Op.TheVariants as op
use Rattle.stl_tree.specs.declared.program.Operand.{Operand}
use Rattle.st_tree.specs.Meaning.{Calls, Normal, body_meaning}
use Rattle.st_tree.specs.State.{State, own_of, with_register, write_place}
use Rattle.st_tree.specs.Value.{value}
use Rattle.st_tree.specs.Values.{flag, is_set, number_of}
use Rattle.st_tree.specs.declared.expr.BinaryOp.TheVariants as binary
use Rattle.st_tree.specs.declared.expr.Expr.{Expr}
use Rattle.st_tree.specs.declared.expr.StType.TheVariants as type
use Rattle.st_tree.specs.declared.expr.Var.TheVariants as var
use Rattle.st_tree.specs.declared.program.Located.{Located}
use Rattle.st_tree.specs.declared.program.Stmt.{Stmt}
use Rattle.st_tree.specs.declared.state.Value.{Value}
use Rattle.st_tree.proofs.Equations.{assign_stops_at_value}
use Rattle.bit_templates.specs.Bits.{assigned_of, behind_check, check_of, checked_bit_of, next_rlo, reset_value, running_chain, set_value, store_of, stored_of}
use Rattle.template_parts.specs.Builders.{clear_or, literal_of, not_of, read_of}
use Rattle.template_parts.specs.Fetching.{fetched_value_of, types_fetched, types_reached, writing_of}
use Rattle.template_parts.specs.Related.{AreAlike, Frames, Related}
use Rattle.template_parts.proofs.Alike.{keep_bits, same_areas}
use Rattle.template_parts.specs.DoesInstruction.{DoesInstruction, Leads}
use Rattle.template_parts.proofs.Fetching.{bit_shown, fetch_effect, reach_effect}
use Rattle.template_parts.proofs.MemoryEffects.{keeps_itself}
use Rattle.template_parts.proofs.Putting.{Puts, PutsAt, flag_fits}
use Rattle.template_parts.proofs.Operands.{cleared_registers, clears, rlo_worth, sets}
use Rattle.template_parts.proofs.Truths.{and_worth, left_stops, literal_worth, not_worth, or_worth}
use Rattle.bit_templates.proofs.Chains.{chain_runs, checked_stops, checked_worth}

set_flag : (b : Bool) → is_set (flag b) ≡ b
set_flag true = refl
set_flag false = refl

-- a bit is written at a place as a row writes it
pub bit_written : (p : Place) (b : Bool) (m : Contents) → write_place type.Bool p (flag b) m ≡ write_bit p b m
bit_written p b m = ap (λ (x : Bool). write_bit p x m) (set_flag b)

-- Where the operand was found

module _ (g : List Located) (calls : Calls) (units : ℕ) (frames : Frames) (now : Now) (s : State) (related : Related frames now s) (used : ℕ) where
  abbrev bits : StatusBits
  bits = now.registers.status

  -- Checks

  -- the registers behind the RLO of a check
  abbrev behind_registers : Check → (Reg → ℤ) → Reg → ℤ
  behind_registers check.A registers = with_register reg.Nfc (pos 1) registers
  behind_registers check.An registers = with_register reg.Nfc (pos 1) registers
  behind_registers check.O registers = cleared_registers g calls units true registers
  behind_registers check.On registers = cleared_registers g calls units true registers
  behind_registers check.X registers = cleared_registers g calls units true registers
  behind_registers check.Xn registers = cleared_registers g calls units true registers

  behind : (c : Check) (t : State) → body_meaning g calls (behind_check c) units t ≡ Normal units (record t { registers = behind_registers c t.registers })
  behind check.A t = sets g calls units reg.Nfc (literal_of true) true [] t (literal_worth g t true)
  behind check.An t = sets g calls units reg.Nfc (literal_of true) true [] t (literal_worth g t true)
  behind check.O t = clears g calls units true t
  behind check.On t = clears g calls units true t
  behind check.X t = clears g calls units true t
  behind check.Xn t = clears g calls units true t

  orb_kept : (c : Check) (b : Bool) → orb_after c bits ≡ bits.orb
      → AreAlike (record now.registers { status = after_check c b bits })
      (with_register reg.Nfc (pos 1) (with_register reg.Rlo (number_of (rlo_after c b bits)) s.registers))
  orb_kept c b e reg.Rlo asked = refl
  orb_kept c b e reg.Nfc asked = refl
  orb_kept c b e reg.Orb asked = related.registers reg.Orb tt ∙ ap number_of (sym e)
  orb_kept c b e reg.Sta asked = elim asked [ ]
  orb_kept c b e q asked = related.registers q asked

  orb_clear : (c : Check) (b : Bool) → orb_after c bits ≡ false
      → AreAlike (record now.registers { status = after_check c b bits })
      (cleared_registers g calls units true (with_register reg.Rlo (number_of (rlo_after c b bits)) s.registers))
  orb_clear c b e reg.Rlo asked = refl
  orb_clear c b e reg.Nfc asked = refl
  orb_clear c b e reg.Orb asked = ap number_of (sym e)
  orb_clear c b e reg.Sta asked = elim asked [ ]
  orb_clear c b e q asked = related.registers q asked

  check_alike : (c : Check) (b : Bool)
      → AreAlike (record now.registers { status = after_check c b bits })
      (behind_registers c (with_register reg.Rlo (number_of (rlo_after c b bits)) s.registers))
  check_alike check.A b = orb_kept check.A b refl
  check_alike check.An b = orb_kept check.An b refl
  check_alike check.O b = orb_clear check.O b refl
  check_alike check.On b = orb_clear check.On b refl
  check_alike check.X b = orb_clear check.X b refl
  check_alike check.Xn b = orb_clear check.Xn b refl

  -- a check of what has a truth value
  pub check_goes : (c : Check) (e : Expr) (b : Bool) → value g e s ≡ Ok (flag b)
      → DoesInstruction (body_meaning g calls (check_of c e) units s) units used frames s now.memory (next (with_status (after_check c b) now))
  check_goes c e b h =
      let t : State = record s { registers = with_register reg.Rlo (number_of (rlo_after c b bits)) s.registers } in
      let u : State = record t { registers = behind_registers c t.registers } in
      record {
        to = u;
        goes = sets g calls units reg.Rlo (next_rlo running_chain c e) (rlo_after c b bits) (behind_check c) s
            (checked_worth g s running_chain bits (chain_runs g frames now s related) c e b h)
            ∙ behind c t;
        related = keep_bits frames now s related (after_check c b bits) u.registers (check_alike c b);
        as_many = refl;
        below = λ i small. refl;
      }

  -- a check of a bit, by what is read
  check_does : (c : Check) (e : Expr) (bit : Result Bool Fault) → value g e s ≡ and_then bit (λ b. Ok (flag b))
      → DoesInstruction (body_meaning g calls (check_of c e) units s) units used frames s now.memory
      (with_value bit (λ b. next (with_status (after_check c b) now)))
  check_does c e (Ok b) h = check_goes c e b h
  check_does c e (Err f) h =
      record {
        at = s;
        stops = assign_stops_at_value g calls (var.Register reg.Rlo) (next_rlo running_chain c e) (behind_check c) units s f
            (checked_stops g s running_chain bits (chain_runs g frames now s related) c e f h);
        areas = same_areas frames now s related;
      }

  -- Bits

  store_alike : (b : Bool) → AreAlike (record now.registers { status = after_store b bits }) (cleared_registers g calls units false s.registers)
  store_alike b reg.Nfc asked = refl
  store_alike b reg.Orb asked = refl
  store_alike b reg.Sta asked = elim asked [ ]
  store_alike b q asked = related.registers q asked

  -- once a bit took a value, the chain ends
  ends_chain : (b : Bool) → Leads (body_meaning g calls (clear_or false) units s) units used frames s (with_status (after_store b) now)
  ends_chain b =
      let u : State = record s { registers = cleared_registers g calls units false s.registers } in
      record {
        to = u;
        goes = clears g calls units false s;
        related = keep_bits frames now s related (after_store b bits) u.registers (store_alike b);
        as_many = refl;
        below = λ i small. refl;
      }

-- A bit at a place takes a value, by statements that write it there

module _ (g : List Located) (calls : Calls) (units : ℕ) (frames : Frames) (now : Now) (s : State) (related : Related frames now s) (used : ℕ)
    (with_expression : Expr → Stmt) (p : Place) (writes : PutsAt g frames width.Bit (Ok p) now s with_expression) where
  abbrev rlo : Bool
  rlo = now.registers.status.rlo

  abbrev storing : Expr → List Stmt
  storing e = with_expression e ∷ clear_or false

  -- by what was written
  by_written : (e : Expr) (b : Bool) (memory : Result Contents Fault)
      → Puts (body_meaning g calls (storing e) units s) (body_meaning g calls (clear_or false)) units frames now s memory
      → DoesInstruction (body_meaning g calls (storing e) units s) units used frames s now.memory
      (with_memory memory now (λ done. next (with_status (after_store b) done)))
  by_written e b (Ok m) done =
      let ended : Leads (body_meaning g calls (clear_or false) units done.to) units used frames done.to
      (with_status (after_store b) (record now { memory = m })) =
      ends_chain g calls units frames (record now { memory = m }) done.to done.related used b in
      record {
        to = ended.to;
        goes = done.goes ∙ ended.goes;
        related = ended.related;
        as_many = ended.as_many ∙ ap length done.own;
        below = λ i small. ended.below i small ∙ ap (λ (xs : List Value). slice_get xs i) done.own;
      }
  by_written e b (Err f) done = record { at = s; stops = done; areas = same_areas frames now s related }

  store_goes : (e : Expr) (b : Bool) → value g e s ≡ Ok (flag b) → (memory : Result Contents Fault) → write_bit p b now.memory ≡ memory
      → DoesInstruction (body_meaning g calls (storing e) units s) units used frames s now.memory
      (with_memory memory now (λ done. next (with_status (after_store b) done)))
  store_goes e b h memory w =
      by_written e b memory
      (subst (Puts (body_meaning g calls (storing e) units s) (body_meaning g calls (clear_or false)) units frames now s)
      (bit_written p b now.memory ∙ w) (writes.puts calls units e (flag b) (clear_or false) (flag_fits b) h))

  -- the value faults
  store_stops : (e : Expr) (f : Fault) → value g e s ≡ Err f
      → DoesInstruction (body_meaning g calls (storing e) units s) units used frames s now.memory (fault f)
  store_stops e f h =
      record { at = s; stops = writes.stops calls units e f (clear_or false) h; areas = same_areas frames now s related }

  set_does : (e : Expr) (bit : Result Bool Fault) → value g e s ≡ and_then bit (λ b. Ok (flag b))
      → DoesInstruction (body_meaning g calls (storing (set_value e)) units s) units used frames s now.memory
      (with_value bit
      (λ b. with_memory (write_bit p (if rlo then true else b) now.memory) now (λ done. next (with_status (after_store (if rlo then true else b)) done))))
  set_does e (Ok b) h =
      store_goes (set_value e) (if rlo then true else b)
      (or_worth g s e (read_of reg.Rlo) b rlo h (rlo_worth g frames now s related) ∙ ap (λ v. Ok (flag v)) (sym (set_by_or rlo b)))
      (write_bit p (if rlo then true else b) now.memory) refl
  set_does e (Err f) h = store_stops (set_value e) f (left_stops g s binary.Or e (read_of reg.Rlo) f h)

  reset_does : (e : Expr) (bit : Result Bool Fault) → value g e s ≡ and_then bit (λ b. Ok (flag b))
      → DoesInstruction (body_meaning g calls (storing (reset_value e)) units s) units used frames s now.memory
      (with_value bit
      (λ b. with_memory (write_bit p (if rlo then false else b) now.memory) now (λ done. next (with_status (after_store (if rlo then false else b)) done))))
  reset_does e (Ok b) h =
      store_goes (reset_value e) (if rlo then false else b)
      (and_worth g s e (not_of (read_of reg.Rlo)) b (not rlo) h (not_worth g s (read_of reg.Rlo) rlo (rlo_worth g frames now s related))
      ∙ ap (λ v. Ok (flag v)) (sym (reset_by_and rlo b)))
      (write_bit p (if rlo then false else b) now.memory) refl
  reset_does e (Err f) h = store_stops (reset_value e) f (left_stops g s binary.And e (not_of (read_of reg.Rlo)) f h)

-- Rows

module _ (g : List Located) (calls : Calls) (units : ℕ) (frames : Frames) (now : Now) (s : State)
    (related : Related frames now s) (first : ℕ) (o : Operand) (lies : IsOperand frames.formals width.Bit o) where
  -- there is room for what is fetched
  abbrev HasRoom : Type 0
  HasRoom = first + length (types_fetched o width.Bit) ≤ length (own_of s.activations)

  -- the first local behind it
  abbrev later : ℕ
  later = first + length (types_fetched o width.Bit)

  abbrev bit : Expr
  bit = fetched_value_of first o width.Bit

  pub check_effect : (c : Check) → HasRoom
      → DoesInstruction (body_meaning g calls (checked_bit_of first c (arg.At o)) units s) units first frames s now.memory
      (effect_of (op.Check c (arg.At o)) now)
  check_effect c room =
      fetch_effect g calls units frames now s related first o width.Bit lies {A = Bool} read_bit flag bit_shown
      (λ p after b. next (with_status (after_check c b) after)) (check_of c bit) room
      (λ f is t done. check_does g calls units frames f.after t done.related later c bit (read_bit f.place f.after.memory) done.here)

  pub assign_effect : first + length (types_reached o) ≤ length (own_of s.activations)
      → DoesInstruction (body_meaning g calls (assigned_of first o) units s) units first frames s now.memory (effect_of (op.Assign o) now)
  assign_effect room =
      reach_effect g calls units frames now s related first o width.Bit lies (read_of reg.Rlo)
      (λ after. flag after.registers.status.rlo) (λ after t relates. rlo_worth g frames after t relates)
      (λ after t relates. flag_fits after.registers.status.rlo)
      (λ p after. write_bit p after.registers.status.rlo after.memory) (λ p after. bit_written p after.registers.status.rlo after.memory)
      (λ done. with_status (after_store done.registers.status.rlo) done) (clear_or false) room
      (λ after t relates. ends_chain g calls units frames after t relates (first + length (types_reached o)) after.registers.status.rlo)

  pub set_effect : HasRoom
      → DoesInstruction (body_meaning g calls (stored_of first o set_value) units s) units first frames s now.memory (effect_of (op.Set o) now)
  set_effect room =
      fetch_effect g calls units frames now s related first o width.Bit lies {A = Bool} read_bit flag bit_shown
      (λ p after b. with_memory (write_bit p (if after.registers.status.rlo then true else b) after.memory) after
      (λ done. next (with_status (after_store (if after.registers.status.rlo then true else b)) done)))
      (store_of first o (set_value bit)) room
      (λ f is t done.
      set_does g calls units frames f.after t done.related later (writing_of first o width.Bit) f.place
      (done.writes f.after t done.related (keeps_itself later t)) bit (read_bit f.place f.after.memory) done.here)

  pub reset_effect : HasRoom
      → DoesInstruction (body_meaning g calls (stored_of first o reset_value) units s) units first frames s now.memory (effect_of (op.Reset o) now)
  reset_effect room =
      fetch_effect g calls units frames now s related first o width.Bit lies {A = Bool} read_bit flag bit_shown
      (λ p after b. with_memory (write_bit p (if after.registers.status.rlo then false else b) after.memory) after
      (λ done. next (with_status (after_store (if after.registers.status.rlo then false else b)) done)))
      (store_of first o (reset_value bit)) room
      (λ f is t done.
      reset_does g calls units frames f.after t done.related later (writing_of first o width.Bit) f.place
      (done.writes f.after t done.related (keeps_itself later t)) bit (read_bit f.place f.after.memory) done.here)
