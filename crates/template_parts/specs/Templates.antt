-- What is asked of the statements of an instruction: that they do what it does, read what it reads, are few and small,
-- and are those of a plain graph.
use Rattle.std.specs.Prelude.{◌≡◌, ℕ, ◌+◌, ◌≤◌, ◌<◌, true, false, List, [], length, All, slice_get, Some}
use Rattle.s7_base.specs.declared.register.Reg.{Reg}
use Rattle.s7_base.specs.declared.word.Width.{Width}
use Rattle.stl_tree.specs.Accepted.{HasOperand, Widths}
use Rattle.stl_tree.specs.Instructions.{effect_of}
use Rattle.stl_tree.specs.Now.{Now}
use Rattle.stl_tree.specs.Reads.{reads_of}
use Rattle.stl_tree.specs.declared.program.Op.{Op}
use Rattle.st_tree.specs.Depth.{deepest}
use Rattle.st_tree.specs.Meaning.{Calls, body_meaning}
use Rattle.st_tree.specs.Nesting.{body_nesting}
use Rattle.st_tree.specs.BodyParts.{calls_in, expressions_in, height, reads_in}
use Rattle.st_tree.specs.State.{State, own_of}
use Rattle.st_tree.specs.Values.{type_of_width}
use Rattle.st_tree.specs.WellTyped.{UnitScope, are_well_typed, variable_type}
use Rattle.st_tree.specs.declared.expr.Expr.{Expr}
use Rattle.st_tree.specs.declared.expr.StType.{StType}
use Rattle.st_tree.specs.declared.expr.Var.TheVariants as var
use Rattle.st_tree.specs.declared.program.Located.{Located}
use Rattle.st_tree.specs.declared.program.Stmt.{Stmt}
use Rattle.graph_rules.specs.Divisors.{IsSureDivisor, divisors_in}
use Rattle.graph_rules.specs.Runs.{AreOfRun, IsWritten, written_by_more}
use Rattle.template_parts.specs.DoesInstruction.{DoesInstruction}
use Rattle.template_parts.specs.Nodes.{nodes_in}
use Rattle.template_parts.specs.Reading.{EachRegister, IsAmong}
use Rattle.template_parts.specs.Related.{Frames, Related}
use Rattle.graph_rules.specs.Writes.{AreWrites}

-- Types

-- an expression is at most 32 high
abbrev pub IsLow : Expr → Type 0
IsLow e = height e ≤ 32

-- a body, in a unit that sees these variables, is plain: it is well typed, nests no deeper than it may, its
-- expressions are low, no division of them has a fault, and it calls nothing
pub record IsPlainBody (sight : UnitScope) (body : List Stmt) : Type 0 where
  pub typed : are_well_typed sight false body ≡ true
  pub low : body_nesting body ≤ deepest
  pub high : All IsLow (expressions_in body)
  pub divisors : All IsSureDivisor (divisors_in body)
  pub calls : calls_in body ≡ []

-- the formals have the types of these widths
abbrev pub HasFormals : UnitScope → Widths → Type 0
HasFormals sight formals =
    (k : ℕ) (w : Width) → slice_get formals k ≡ Some w → variable_type sight (var.Formal k) ≡ Some (type_of_width w)

-- the locals from one on have these types
abbrev pub AreTyped : UnitScope → ℕ → List StType → Type 0
AreTyped sight first types =
    (k : ℕ) (ty : StType) → slice_get types k ≡ Some ty → variable_type sight (var.Local (first + k)) ≡ Some ty

-- Locals

-- the locals from one on, with numbers below `count`, are written
abbrev pub AreThere : List ℕ → ℕ → ℕ → Type 0
AreThere written from count = (i : ℕ) → from ≤ i → i < count → IsWritten written i

-- statements after others that have written the locals from the lowest one on, or from one before it, to the first:
-- each local that they read is written by then, and at the end `count` more are written
pub record AreInOrder (low first count : ℕ) (body : List Stmt) : Type 0 where
  pub run : (from : ℕ) (written : List ℕ) → from ≤ low → AreThere written from first → AreOfRun written body
  pub more : (from : ℕ) (written : List ℕ) → from ≤ low → AreThere written from first
      → AreThere (written_by_more written body) from (first + count)

-- Templates

-- statements that may be the template of an instruction: they read its registers alone, and locals of these types from
-- the first one on, and no others; they are at most eleven, which write one thing each, with at most 91 nodes of
-- expressions; and they are plain where a unit has these locals, and formals that the operand of the instruction may be
pub record IsTemplate (o : Op) (first : ℕ) (types : List StType) (body : List Stmt) : Type 0 where
  pub writes : AreWrites body
  pub few : length body ≤ 11
  pub small : nodes_in body ≤ 91
  pub reads : EachRegister (λ (r : Reg). IsAmong r (reads_of o)) (reads_in body)
  pub locals : AreInOrder first first (length types) body
  pub plain : (sight : UnitScope) (formals : Widths) → HasFormals sight formals → HasOperand formals o
      → AreTyped sight first types → IsPlainBody sight body

-- statements do what the instruction does, in each pair of related states of a block in which it may stand, where the
-- unit has their locals
abbrev pub Do : Op → ℕ → List StType → List Stmt → Type 0
Do o first types body =
    (globals : List Located) (calls : Calls) (units : ℕ) (frames : Frames) (now : Now) (s : State)
    → HasOperand frames.formals o → Related frames now s
    → first + length types ≤ length (own_of s.activations)
    → DoesInstruction (body_meaning globals calls body units s) units first frames s now.memory (effect_of o now)

-- what the statements of an instruction owe that opens and closes no bracket
pub record Serves (o : Op) (first : ℕ) (types : List StType) (body : List Stmt) : Type 0 where
  pub does : Do o first types body
  pub template : IsTemplate o first types body
