-- What is promised of the statements of bit logic.
use Rattle.std.specs.Prelude.{◌≡◌, ℕ, ◌+◌, ◌≤◌, List, [], ◌∷◌, length, true, false}
use Rattle.bit_templates.specs.Bits.{assigned_of, checked_bit_of, edge_at, falling, inverted_of, or_alone_of, reset_value, rising, rlo_set, saved_of, set_value, stored_of, types_checked, types_of_edge}
use Rattle.bit_templates.specs.Brackets.{KeepsBracket, bracket_at, close_of, open_of, types_of_bracket}
use Rattle.s7_base.specs.declared.check.Check.{Check}
use Rattle.s7_base.specs.declared.check.Entry.{Entry}
use Rattle.s7_base.specs.declared.register.Reg.{Reg}
use Rattle.s7_base.specs.declared.word.Width.TheVariants as width
use Rattle.status_word.specs.StatusBits.{entry_of}
use Rattle.stl_tree.specs.Accepted.{HasOperand}
use Rattle.stl_tree.specs.Brackets.{in_bracket_of}
use Rattle.stl_tree.specs.Instructions.{effect_of}
use Rattle.stl_tree.specs.Now.{Now}
use Rattle.stl_tree.specs.Reads.{reads_of}
use Rattle.stl_tree.specs.declared.program.BitArg.{BitArg}
use Rattle.stl_tree.specs.declared.program.Op.TheVariants as op
use Rattle.stl_tree.specs.declared.program.Operand.{Operand}
use Rattle.st_tree.specs.Meaning.{Calls, Out, body_meaning}
use Rattle.st_tree.specs.BodyParts.{reads_in}
use Rattle.st_tree.specs.State.{State, own_of}
use Rattle.st_tree.specs.WellTyped.{UnitScope}
use Rattle.st_tree.specs.declared.program.Located.{Located}
use Rattle.template_parts.specs.DoesInstruction.{DoesInstruction, Leads}
use Rattle.template_parts.specs.Fetching.{types_fetched, types_reached}
use Rattle.template_parts.specs.Nodes.{nodes_in}
use Rattle.template_parts.specs.Reading.{EachRegister, IsAmong}
use Rattle.template_parts.specs.Related.{Frames, Related}
use Rattle.template_parts.specs.Templates.{AreInOrder, AreTyped, IsPlainBody, IsTemplate, Serves}
use Rattle.graph_rules.specs.Writes.{AreWrites}

-- Brackets

-- the statements that open a bracket end in the state after the instruction, and three locals keep the bracket there
pub record Opens (ended : Out) (units first : ℕ) (frames : Frames) (s : State) (c : Check) (now : Now) : Type 0 where
  pub leads : Leads ended units first frames s (in_bracket_of c now)
  pub keeps : KeepsBracket (first + 3) (bracket_at first c)
      (entry_of c now.registers.status) (own_of leads.to.activations)

-- what the statements that open a bracket owe
pub record ServesOpening (c : Check) (first : ℕ) : Type 0 where
  pub does : (globals : List Located) (calls : Calls) (units : ℕ) (frames : Frames) (now : Now) (s : State)
      → Related frames now s
      → first + 3 ≤ length (own_of s.activations)
      → Opens (body_meaning globals calls (open_of first) units s) units first frames s c now
  pub template : IsTemplate (op.Bracket c) first types_of_bracket (open_of first)

-- what the statements owe that close a bracket which is kept in the locals from `kept` on, where `used` locals are
-- used
pub record ServesClosing (kept : ℕ) (c : Check) (used : ℕ) : Type 0 where
  pub does : (globals : List Located) (calls : Calls) (units : ℕ) (frames : Frames) (now : Now) (s : State)
      → Related frames now s
      → (e : Entry) (entries : List Entry) → now.brackets ≡ e ∷ entries
      → KeepsBracket used (bracket_at kept c) e (own_of s.activations)
      → DoesInstruction (body_meaning globals calls (close_of (bracket_at kept c)) units s)
      units used frames s now.memory (effect_of op.Close now)
  pub writes : AreWrites (close_of (bracket_at kept c))
  pub few : length (close_of (bracket_at kept c)) ≤ 11
  pub small : nodes_in (close_of (bracket_at kept c)) ≤ 91
  pub reads : EachRegister (λ (r : Reg). IsAmong r (reads_of op.Close)) (reads_in (close_of (bracket_at kept c)))
  pub locals : AreInOrder kept used 0 (close_of (bracket_at kept c))
  pub plain : (sight : UnitScope) → AreTyped sight kept types_of_bracket
      → IsPlainBody sight (close_of (bracket_at kept c))

-- The law

-- the statements of each instruction of bit logic serve it
pub record BitLogicServes : Type 0 where
  pub check : (c : Check) (b : BitArg) (first : ℕ)
      → Serves (op.Check c b) first (types_checked b) (checked_bit_of first c b)
  pub or_alone : (first : ℕ) → Serves op.OrAlone first [] or_alone_of
  pub assign : (o : Operand) (first : ℕ)
      → Serves (op.Assign o) first (types_reached o) (assigned_of first o)
  pub set : (o : Operand) (first : ℕ)
      → Serves (op.Set o) first (types_fetched o width.Bit) (stored_of first o set_value)
  pub reset : (o : Operand) (first : ℕ)
      → Serves (op.Reset o) first (types_fetched o width.Bit) (stored_of first o reset_value)
  pub set_rlo : (first : ℕ) → Serves op.SetRlo first [] (rlo_set true)
  pub clear_rlo : (first : ℕ) → Serves op.ClearRlo first [] (rlo_set false)
  pub invert : (first : ℕ) → Serves op.NotRlo first [] inverted_of
  pub save : (first : ℕ) → Serves op.Save first [] saved_of
  pub edge_up : (o : Operand) (first : ℕ)
      → Serves (op.EdgeUp o) first (types_of_edge o) (edge_at first o rising)
  pub edge_down : (o : Operand) (first : ℕ)
      → Serves (op.EdgeDown o) first (types_of_edge o) (edge_at first o falling)
  pub nothing : (first : ℕ) → Serves op.Nop first [] []
  pub opening : (c : Check) (first : ℕ) → ServesOpening c first
  pub closing : (kept : ℕ) (c : Check) (used : ℕ) → kept + 3 ≤ used → ServesClosing kept c used
