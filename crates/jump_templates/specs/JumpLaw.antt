-- What is promised of the statements of jumps.
use Rattle.std.specs.Prelude.{◌≡◌, ℕ, ◌+◌, ◌≤◌, ◌==◌, negsuc, not, pos, if◌then◌else◌, List, length, Ok}
use Rattle.jump_templates.specs.Jumps.{end_if_of, jump_of, list_of, loop_of, types_of_jump, types_of_list, types_of_test}
use Rattle.s7_base.specs.declared.word.Width.TheVariants as width
use Rattle.status_word.specs.StatusBits.{after_end, after_jump}
use Rattle.stl_tree.specs.Accepted.{HasOperand}
use Rattle.stl_tree.specs.Accumulators.{after_addition, part}
use Rattle.stl_tree.specs.Jumps.{after_test, is_made}
use Rattle.stl_tree.specs.Now.{Now, with_registers, with_status}
use Rattle.stl_tree.specs.declared.program.JumpTest.{JumpTest}
use Rattle.stl_tree.specs.declared.program.JumpTest.TheVariants as jump
use Rattle.stl_tree.specs.declared.program.Op.{Op}
use Rattle.stl_tree.specs.declared.program.Op.TheVariants as op
use Rattle.st_tree.specs.Meaning.{Calls, Out, body_meaning}
use Rattle.st_tree.specs.State.{State, own_of}
use Rattle.st_tree.specs.Value.{value}
use Rattle.st_tree.specs.Values.{flag}
use Rattle.st_tree.specs.declared.expr.StType.{StType}
use Rattle.st_tree.specs.declared.expr.StType.TheVariants as type
use Rattle.st_tree.specs.declared.program.Located.{Located}
use Rattle.st_tree.specs.declared.program.Stmt.{Stmt}
use Rattle.st_tree.specs.declared.state.Value.{Value}
use Rattle.template_parts.specs.Builders.{local_of}
use Rattle.template_parts.specs.DoesInstruction.{Leads}
use Rattle.template_parts.specs.Nodes.{nodes_in}
use Rattle.template_parts.specs.Related.{Frames, Related}
use Rattle.template_parts.specs.Templates.{IsTemplate}

-- statements ended in a state that is related to the one after a jump, and there the local has the value that the exit
-- tests
pub record LeadsToTest (globals : List Located) (ended : Out) (units first : ℕ) (frames : Frames) (s : State)
    (after : Now) (tested : Value) : Type 0 where
  pub leads : Leads ended units first frames s after
  pub test : value globals (local_of first) leads.to ≡ Ok tested

-- what the statements of a jump owe, with locals of these types: to lead to the state after it, whatever way it takes,
-- and to keep what its exit tests in the first local; with the test they are no more than a template may have
pub record ServesJump (o : Op) (first : ℕ) (types : List StType) (body : List Stmt) (after : Now → Now)
    (tested : Now → Value) : Type 0 where
  pub does : (globals : List Located) (calls : Calls) (units : ℕ) (frames : Frames) (now : Now) (s : State)
      → HasOperand frames.formals o → Related frames now s
      → first + length types ≤ length (own_of s.activations)
      → LeadsToTest globals (body_meaning globals calls body units s) units first frames s (after now) (tested now)
  pub template : IsTemplate o first types body
  pub few : length body ≤ 10
  pub small : nodes_in body ≤ 90

-- the state after a test of a jump, after a loop has counted, and after BEC
abbrev pub after_jump_by : JumpTest → Now → Now
after_jump_by t now = with_status (after_test t) now

abbrev pub after_count : Now → Now
after_count now = with_registers (after_addition width.Word (negsuc 0)) now

abbrev pub after_end_if : Now → Now
after_end_if now = if now.registers.status.rlo then with_status after_end now else with_status after_jump now

-- what their exits test
abbrev pub tested_by_jump : JumpTest → Now → Value
tested_by_jump t now = flag (is_made t now.registers.status)

abbrev pub tested_by_count : Now → Value
tested_by_count now = flag (not (part width.Word (after_count now).registers.accu1 == 0))

abbrev pub tested_by_list : Now → Value
tested_by_list now = record { ty = type.Dint; n = pos (part width.Byte now.registers.accu1) }

abbrev pub tested_by_end_if : Now → Value
tested_by_end_if now = flag now.registers.status.rlo

-- a jump has a test: it is not JU
abbrev pub HasTest : JumpTest → Type 0
HasTest jump.Always = ⊥
HasTest other = Unit {0}

-- the law: the statements of each jump serve it, but JU, which has none
pub record JumpsServe : Type 0 where
  pub always : (to first : ℕ) → IsTemplate (op.Jump jump.Always to) first (types_of_jump jump.Always)
      (jump_of first jump.Always)
  pub jump : (t : JumpTest) (to first : ℕ) → HasTest t
      → ServesJump (op.Jump t to) first (types_of_jump t) (jump_of first t) (after_jump_by t) (tested_by_jump t)
  pub loop : (to first : ℕ) → ServesJump (op.Loop to) first types_of_test (loop_of first) after_count tested_by_count
  pub list : (count label first : ℕ)
      → ServesJump (op.JumpList count label) first types_of_list (list_of first) (λ now. now) tested_by_list
  pub end_if : (first : ℕ)
      → ServesJump op.BlockEndIf first types_of_test (end_if_of first) after_end_if tested_by_end_if
