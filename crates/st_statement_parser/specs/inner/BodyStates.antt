-- The code's places in statements as those of the pass.
use Rattle.std.specs.Prelude.{ℕ, Bool, true, false, nat_le, List, [], ◌∷◌, map, reverse, Option, Some, None}
use Rattle.st_grammar.specs.Grammar.{prefix_level}
use Rattle.st_grammar.specs.inner.Machine as machine
use Rattle.st_grammar.specs.inner.Machine.{code}
use Rattle.st_grammar.specs.inner.Steps.{body_state}
use Rattle.st_grammar.specs.declared.measured.Measured.{Measured}
use Rattle.st_tree.specs.Form.{infix_level}
use Rattle.st_tree.specs.declared.raw.RawStmt.{RawStmt}
use Rattle.st_statement_parser.specs.declared.expression.BoxedExpression.{BoxedExpression}
use Rattle.st_statement_parser.specs.declared.body_state.BegunStatement.{BegunStatement}
use Rattle.st_statement_parser.specs.declared.body_state.Argument.{Argument}
use Rattle.st_statement_parser.specs.declared.body_state.Argument.TheVariants as argument
use Rattle.st_statement_parser.specs.declared.body_state.Need.{Need}
use Rattle.st_statement_parser.specs.declared.body_state.Need.TheVariants as need
use Rattle.st_statement_parser.specs.declared.body_state.OuterStatement.{OuterStatement}
use Rattle.st_statement_parser.specs.declared.body_state.OuterStatement.TheVariants as outer
use Rattle.st_statement_parser.specs.declared.body_state.Frame.{Frame}
use Rattle.st_statement_parser.specs.declared.body_state.Frame.TheVariants as frame
use Rattle.st_statement_parser.specs.declared.body_state.Part.{Part}
use Rattle.st_statement_parser.specs.declared.body_state.Part.TheVariants as part
use Rattle.st_statement_parser.specs.declared.body_state.Place.{Place}
use Rattle.st_statement_parser.specs.declared.body_state.Place.TheVariants as place
use Rattle.st_statement_parser.specs.declared.body_state.BodyState.{BodyState}

-- a statement that has begun
abbrev pub begun_statement_of : BegunStatement → machine.BegunStatement code
begun_statement_of b = record { before = b.before; line = b.line }

-- an expression in its box
abbrev pub measured_of : BoxedExpression → Measured
measured_of e = record { tree = e.tree; height = e.height }

-- an operand of a function, with those before it
abbrev pub argument_of : Argument → machine.Argument code
argument_of (argument.Only op) = machine.only op
argument_of (argument.Shifted op) = machine.shifted op
argument_of (argument.ShiftedBy op e) = machine.shifted_by op (measured_of e)
argument_of argument.Gate = machine.gate
argument_of (argument.First e) = machine.first (measured_of e)
argument_of (argument.Second e f) = machine.second (measured_of e) (measured_of f)

-- what a statement needs an expression for
abbrev pub need_of : Need → machine.Need code
need_of (need.ToVar v) = machine.to_var v
need_of (need.ToArea w) = machine.to_area w
need_of (need.AreaValue w) = machine.area_value w.width (measured_of w.pointer)
need_of (need.Test arms) = machine.test arms
need_of need.Selector = machine.selector
need_of need.LoopTest = machine.loop_test

-- a statement whose own statements are read
abbrev pub outer_statement_of : OuterStatement → machine.OuterStatement code
outer_statement_of (outer.Choosing arm) = machine.choosing arm.arms (measured_of arm.test)
outer_statement_of (outer.Otherwise arms) = machine.otherwise arms
outer_statement_of (outer.Looping e) = machine.looping (measured_of e)
outer_statement_of (outer.Selecting arm) = machine.selecting (measured_of arm.cases.selector) arm.cases.arms arm.labels
outer_statement_of (outer.OtherwiseCase c) = machine.otherwise_case (measured_of c.selector) c.arms

-- what is open
abbrev pub frame_of : Frame → machine.Frame code
frame_of (frame.Unary op) = machine.unary op
frame_of (frame.Left op e) = machine.left op (measured_of e)
frame_of frame.Bracket = machine.bracket
frame_of (frame.Argument a) = machine.argument (argument_of a)
frame_of (frame.Waiting b n) = machine.waiting (begun_statement_of b) (need_of n)
frame_of (frame.Within b y) = machine.within (begun_statement_of b) (outer_statement_of y)

-- what is open; the frame that was opened last comes first
abbrev pub stack_of : List Frame → List (machine.Frame code)
stack_of frames = reverse (map frame_of frames)

-- the frame that was opened last is an operator that binds as tightly as a level, or more
abbrev pub binds : ℕ → List (machine.Frame code) → Bool
binds k [] = false
binds k (machine.unary op ∷ s) = nat_le (prefix_level op) k
binds k (machine.left op e ∷ s) = nat_le (infix_level op) k
binds k (machine.bracket ∷ s) = false
binds k (machine.argument a ∷ s) = false
binds k (machine.waiting b n ∷ s) = false
binds k (machine.within b y ∷ s) = false

-- a part of a statement that is no expression
abbrev pub part_of : Part → machine.Part code
part_of (part.Target v) = machine.target v
part_of (part.WriteOpen w) = machine.write_open w
part_of (part.FirstFormal name) = machine.first_formal name
part_of (part.NextFormal c) = machine.next_formal c.name c.actuals
part_of (part.Becoming actual) = machine.becoming actual.call.name actual.call.actuals actual.formal
part_of (part.Giving actual) = machine.giving actual.call.name actual.call.actuals actual.formal
part_of (part.Given c) = machine.given c.name c.actuals
part_of (part.FirstLabel c) = machine.first_label (measured_of c.selector) c.arms
part_of (part.NextLabel arm) = machine.next_label (measured_of arm.cases.selector) arm.cases.arms arm.labels
part_of (part.Labelled arm) = machine.labelled (measured_of arm.cases.selector) arm.cases.arms arm.labels

-- what may come next in statements
abbrev pub place_of : Place → machine.Place code
place_of (place.Statement before) = machine.statement before
place_of (place.Part b x) = machine.part (begun_statement_of b) (part_of x)
place_of (place.Closing before x) = machine.closing before x
place_of place.Operand = machine.operand
place_of (place.Operator e) = machine.operator e
place_of (place.Opening f) = machine.opening f

-- the state of the pass in statements
abbrev pub body_state_of : BodyState → machine.BodyState code
body_state_of at = body_state code at.depth (stack_of at.frames) (place_of at.place)

-- the statements that are read where a unit can end: nothing is open, and a statement may begin
abbrev pub body_at : List (machine.Frame code) → machine.Place code → Option (List RawStmt)
body_at [] (machine.statement body) = Some body
body_at s p = None

-- the state after a token, if the token can follow
abbrev pub leads_to : Bool → BodyState → Option (machine.BodyState code)
leads_to true at = Some (body_state_of at)
leads_to false at = None
