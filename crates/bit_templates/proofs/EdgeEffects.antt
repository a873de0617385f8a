-- FP and FN: their statements do what their rows do. What they do once the edge bit was found is said of any bit at a
-- place, in the state in which it was found.
use Rattle.std.proofs.Common.{◌≡◌, ℕ, ◌+◌, ◌<◌, ◌≤◌, Bool, true, false, not, List, ◌∷◌, length, Result, Ok, Err, refl, ap, subst, ◌∙◌, arith}
use Rattle.std.specs.Prelude.{ℤ, slice_get}
use Rattle.st_tree.specs.declared.state.Value.{Value}
use Rattle.memory_areas.specs.Access.{and_then, read_bit, write_bit}
use Rattle.memory_areas.specs.Areas.{Contents}
use Rattle.memory_areas.specs.declared.place.Place.{Place}
use Rattle.status_word.specs.StatusBits.{StatusBits, after_edge, rlo_at_edge}
use Rattle.s7_base.specs.declared.outcome.Fault.{Fault}
use Rattle.s7_base.specs.declared.register.Reg.{Reg}
use Rattle.s7_base.specs.declared.register.Reg.TheVariants as reg
use Rattle.s7_base.specs.declared.word.Width.TheVariants as width
use Rattle.stl_tree.specs.Accepted.{IsOperand}
use Rattle.stl_tree.specs.Instructions.{effect_of}
use Rattle.stl_tree.specs.Now.{Now, next, with_memory, with_status, with_value}
use Rattle.stl_tree.specs.declared.program.Op.TheVariants as op
use Rattle.stl_tree.specs.declared.program.Operand.{Operand}
use Rattle.st_tree.specs.Meaning.{Calls, body_meaning}
use Rattle.st_tree.specs.State.{State, own_of, with_register, write_place}
use Rattle.st_tree.specs.Value.{value}
use Rattle.st_tree.specs.Values.{flag, number_of}
use Rattle.st_tree.specs.declared.expr.BinaryOp.TheVariants as binary
use Rattle.st_tree.specs.declared.expr.Expr.{Expr}
use Rattle.st_tree.specs.declared.expr.Expr.TheVariants as expr
use Rattle.st_tree.specs.declared.expr.StType.TheVariants as type
use Rattle.st_tree.specs.declared.expr.Var.TheVariants as var
use Rattle.st_tree.specs.declared.program.Located.{Located}
use Rattle.st_tree.specs.declared.program.Stmt.{Stmt}
use Rattle.st_tree.specs.declared.program.Stmt.TheVariants as stmt
use Rattle.st_tree.proofs.Equations.{assign_goes_on, assign_stops_at_value}
use Rattle.bit_templates.specs.Bits.{edge_at, edge_of, falling, rising}
use Rattle.template_parts.specs.Builders.{clear_or, not_of, read_of, set_of}
use Rattle.template_parts.specs.Fetching.{fetched_value_of, types_fetched, writing_of}
use Rattle.template_parts.specs.Related.{AreAlike, Frames, Related}
use Rattle.template_parts.proofs.Alike.{keep_bits, keep_local, same_areas}
use Rattle.template_parts.specs.DoesInstruction.{DoesInstruction, Stops}
use Rattle.template_parts.proofs.Fetching.{bit_shown, fetch_effect}
use Rattle.st_tree.proofs.Locals.{local_read, local_wrote, own_length, own_other, own_same, with_own}
use Rattle.template_parts.proofs.MemoryEffects.{KeepsWay, local_kept}
use Rattle.template_parts.proofs.Putting.{Puts, PutsAt, flag_fits}
use Rattle.template_parts.proofs.Operands.{cleared_registers, clears, rlo_worth, sets}
use Rattle.template_parts.proofs.Truths.{and_worth, not_stops, not_worth, right_stops}
use Rattle.bit_templates.proofs.BitEffects.{bit_written}

module _ (g : List Located) (calls : Calls) (units : ℕ) (frames : Frames) (now : Now) (s : State)
    (related : Related frames now s) (used : ℕ) (room : used + 1 ≤ length (own_of s.activations))
    (with_expression : Expr → Stmt) (p : Place)
    (writes : (then : Now) (u : State) → Related frames then u → KeepsWay used s u → PutsAt g frames width.Bit (Ok p) then u with_expression) where
  abbrev bits : StatusBits
  bits = now.registers.status

  abbrev own : List Value
  own = own_of s.activations

  edge_alike : (rising old : Bool) (registers : Reg → ℤ) → AreAlike now.registers registers
      → AreAlike (record now.registers { status = after_edge rising old bits })
      (cleared_registers g calls units true (with_register reg.Rlo (number_of (rlo_at_edge rising old bits)) registers))
  edge_alike rising old registers alike reg.Rlo asked = refl
  edge_alike rising old registers alike reg.Nfc asked = refl
  edge_alike rising old registers alike reg.Orb asked = refl
  edge_alike rising old registers alike reg.Sta asked = elim asked [ ]
  edge_alike rising old registers alike q asked = alike q asked

  -- what stands behind the first statement
  abbrev taken : List Stmt
  taken = with_expression (read_of reg.Rlo) ∷ set_of reg.Rlo (expr.Read (var.Local used)) ∷ clear_or true

  -- the statements of an edge
  abbrev keeping : Expr → List Stmt
  keeping e = stmt.Assign (var.Local used) e ∷ taken

  -- the state once the local keeps a value
  abbrev kept : Bool → State
  kept edge = with_own used (flag edge) s

  kept_related : (edge : Bool) → Related frames now (kept edge)
  kept_related edge = keep_local frames now s related used (flag edge)

  less : used < length own
  less = omega arith

  kept_below : (edge : Bool) (i : ℕ) → i < used → slice_get (own_of (kept edge).activations) i ≡ slice_get own i
  kept_below edge i small = own_other used (flag edge) s i (λ e. absurd (omega arith))

  -- the edge bit takes the RLO, by what was written
  by_written : (rising old : Bool) (e : Expr) → value g e s ≡ Ok (flag (rlo_at_edge rising old bits)) → (memory : Result Contents Fault)
      → Puts (body_meaning g calls taken units (kept (rlo_at_edge rising old bits)))
      (body_meaning g calls (set_of reg.Rlo (expr.Read (var.Local used)) ∷ clear_or true)) units frames now (kept (rlo_at_edge rising old bits)) memory
      → DoesInstruction (body_meaning g calls (keeping e) units s) units used frames s now.memory
      (with_memory memory now (λ done. next (with_status (after_edge rising old) done)))
  by_written rising old e h (Ok m) done =
      let edge : Bool = rlo_at_edge rising old bits in
      let t : State = kept edge in
      let u : State = done.to in
      let k : State = record u { registers = with_register reg.Rlo (number_of edge) u.registers } in
      let z : State = record k { registers = cleared_registers g calls units true k.registers } in
      record {
        to = z;
        goes = assign_goes_on g calls (var.Local used) e taken units s t (flag edge) h (local_wrote g used (flag edge) s less)
            ∙ done.goes
            ∙ sets g calls units reg.Rlo (expr.Read (var.Local used)) edge (clear_or true) u
            (local_read g used (flag edge) u (ap (λ (xs : List Value). slice_get xs used) done.own ∙ own_same used (flag edge) s less))
            ∙ clears g calls units true k;
        related =
            keep_bits frames (record now { memory = m }) u done.related
            (after_edge rising old bits) z.registers (edge_alike rising old u.registers done.related.registers);
        as_many = ap length done.own ∙ own_length used (flag edge) s;
        below = λ i small. ap (λ (xs : List Value). slice_get xs i) done.own ∙ kept_below edge i small;
      }
  by_written rising old e h (Err f) done =
      let edge : Bool = rlo_at_edge rising old bits in
      record {
        at = kept edge;
        stops = assign_goes_on g calls (var.Local used) e taken units s (kept edge) (flag edge) h (local_wrote g used (flag edge) s less) ∙ done;
        areas = same_areas frames now s related;
      }

  edge_goes : (rising old : Bool) (e : Expr) → value g e s ≡ Ok (flag (rlo_at_edge rising old bits))
      → (memory : Result Contents Fault) → write_bit p bits.rlo now.memory ≡ memory
      → DoesInstruction (body_meaning g calls (keeping e) units s) units used frames s now.memory
      (with_memory memory now (λ done. next (with_status (after_edge rising old) done)))
  edge_goes rising old e h memory w =
      let edge : Bool = rlo_at_edge rising old bits in
      by_written rising old e h memory
      (subst
      (Puts (body_meaning g calls taken units (kept edge)) (body_meaning g calls (set_of reg.Rlo (expr.Read (var.Local used)) ∷ clear_or true)) units
      frames now (kept edge))
      (bit_written p bits.rlo now.memory ∙ w)
      ((writes now (kept edge) (kept_related edge) (local_kept used used (flag edge) s (omega arith))).puts calls units (read_of reg.Rlo) (flag bits.rlo)
      (set_of reg.Rlo (expr.Read (var.Local used)) ∷ clear_or true) (flag_fits bits.rlo) (rlo_worth g frames now (kept edge) (kept_related edge))))

  edge_stops : (e : Expr) (f : Fault) → value g e s ≡ Err f → Stops (body_meaning g calls (keeping e) units s) now.memory f
  edge_stops e f h = record { at = s; stops = assign_stops_at_value g calls (var.Local used) e taken units s f h; areas = same_areas frames now s related }

  up_does : (e : Expr) (bit : Result Bool Fault) → value g e s ≡ and_then bit (λ b. Ok (flag b))
      → DoesInstruction (body_meaning g calls (keeping (rising e)) units s) units used frames s now.memory
      (with_value bit (λ b. with_memory (write_bit p bits.rlo now.memory) now (λ done. next (with_status (after_edge true b) done))))
  up_does e (Ok b) h =
      edge_goes true b (rising e)
      (and_worth g s (read_of reg.Rlo) (not_of e) bits.rlo (not b) (rlo_worth g frames now s related) (not_worth g s e b h))
      (write_bit p bits.rlo now.memory) refl
  up_does e (Err f) h =
      edge_stops (rising e) f (right_stops g s binary.And (read_of reg.Rlo) (not_of e) bits.rlo f (rlo_worth g frames now s related) (not_stops g s e f h))

  down_does : (e : Expr) (bit : Result Bool Fault) → value g e s ≡ and_then bit (λ b. Ok (flag b))
      → DoesInstruction (body_meaning g calls (keeping (falling e)) units s) units used frames s now.memory
      (with_value bit (λ b. with_memory (write_bit p bits.rlo now.memory) now (λ done. next (with_status (after_edge false b) done))))
  down_does e (Ok b) h =
      edge_goes false b (falling e)
      (and_worth g s (not_of (read_of reg.Rlo)) e (not bits.rlo) b (not_worth g s (read_of reg.Rlo) bits.rlo (rlo_worth g frames now s related)) h)
      (write_bit p bits.rlo now.memory) refl
  down_does e (Err f) h =
      edge_stops (falling e) f
      (right_stops g s binary.And (not_of (read_of reg.Rlo)) e (not bits.rlo) f (not_worth g s (read_of reg.Rlo) bits.rlo (rlo_worth g frames now s related)) h)

-- Rows

module _ (g : List Located) (calls : Calls) (units : ℕ) (frames : Frames) (now : Now) (s : State)
    (related : Related frames now s) (first : ℕ) (o : Operand) (lies : IsOperand frames.formals width.Bit o) where
  -- the local behind what is fetched, for which there is room too
  abbrev later : ℕ
  later = first + length (types_fetched o width.Bit)

  abbrev bit : Expr
  bit = fetched_value_of first o width.Bit

  pub up_effect : later + 1 ≤ length (own_of s.activations)
      → DoesInstruction (body_meaning g calls (edge_at first o rising) units s) units first frames s now.memory (effect_of (op.EdgeUp o) now)
  up_effect room =
      fetch_effect g calls units frames now s related first o width.Bit lies {A = Bool} read_bit flag bit_shown
      (λ p after b. with_memory (write_bit p after.registers.status.rlo after.memory) after (λ done. next (with_status (after_edge true b) done)))
      (edge_of first o later (rising bit)) (omega arith)
      (λ f is t done.
      let many : length (own_of t.activations) ≡ length (own_of s.activations) = done.as_many in
      up_does g calls units frames f.after t done.related later (omega arith)
      (writing_of first o width.Bit) f.place done.writes bit (read_bit f.place f.after.memory) done.here)

  pub down_effect : later + 1 ≤ length (own_of s.activations)
      → DoesInstruction (body_meaning g calls (edge_at first o falling) units s) units first frames s now.memory (effect_of (op.EdgeDown o) now)
  down_effect room =
      fetch_effect g calls units frames now s related first o width.Bit lies {A = Bool} read_bit flag bit_shown
      (λ p after b. with_memory (write_bit p after.registers.status.rlo after.memory) after (λ done. next (with_status (after_edge false b) done)))
      (edge_of first o later (falling bit)) (omega arith)
      (λ f is t done.
      let many : length (own_of t.activations) ≡ length (own_of s.activations) = done.as_many in
      down_does g calls units frames f.after t done.related later (omega arith)
      (writing_of first o width.Bit) f.place done.writes bit (read_bit f.place f.after.memory) done.here)
