-- The forms of a Structured Text. Expressions that keep their brackets, statements, declarations and units, each with
-- the lines that a tree has.
-- Held against: IEC 61131-3, 'Structured Text' and 'Program organization units'.
use Rattle.std.specs.Prelude.{ℕ, List, Bool}
use Rattle.s7_base.specs.declared.reason.Line.{Line}
use Rattle.s7_base.specs.declared.word.Width.{Width}
use Rattle.st_tree.specs.declared.expr.BinaryOp.{BinaryOp}
use Rattle.st_tree.specs.declared.expr.ShiftOp.{ShiftOp}
use Rattle.st_tree.specs.declared.expr.StType.{StType}
use Rattle.st_tree.specs.declared.raw.RawVar.{RawVar}
use Rattle.st_grammar.specs.declared.kind.Jump.{Jump}
use Rattle.st_grammar.specs.declared.kind.Literal.{Literal}
use Rattle.st_grammar.specs.declared.kind.OneOperand.{OneOperand}
use Rattle.st_grammar.specs.declared.kind.Prefix.{Prefix}

-- an expression that keeps its brackets
pub data Form : Type 0 where
  literal : Literal → Form
  variable : RawVar → Line → Form
  group : Form → Form
  prefix : Prefix → Form → Form
  infix_of : BinaryOp → Form → Form → Form
  apply : OneOperand → Form → Form
  shift : ShiftOp → Form → Form → Form
  select : Form → Form → Form → Form

-- the actuals of a call: each a formal's name and a variable, with their lines
pub data Actuals : Type 0 where
  no_actual : Actuals
  actual : Actuals → List ℕ → Line → RawVar → Line → Actuals

-- the labels of an arm
pub data Labels : Type 0 where
  label : Literal → Labels
  more_labels : Labels → Literal → Labels

-- a statement without its `;`; of lists here the last item is the outermost
mutual
  pub data Statement : Type 0 where
    assign : Line → RawVar → Form → Statement
    write : Line → Width → Form → Form → Statement
    invoke : Line → List ℕ → Actuals → Statement
    choice : Line → Arms → Statement
    choice_else : Line → Arms → Statements → Statement
    cases : Line → Form → CaseArms → Statement
    cases_else : Line → Form → CaseArms → Statements → Statement
    loop : Line → Form → Statements → Statement
    jump : Line → Jump → Statement

  -- statements, each with its `;`; an empty one is its `;` alone
  pub data Statements : Type 0 where
    none : Statements
    empty : Statements → Statements
    further : Statements → Statement → Statements

  -- the arms of an IF: each a test and its statements
  pub data Arms : Type 0 where
    no_arm : Arms
    arm : Arms → Form → Statements → Arms

  -- the arms of a CASE: each its labels and its statements
  pub data CaseArms : Type 0 where
    no_case : CaseArms
    case_arm : CaseArms → Labels → Statements → CaseArms

-- the bytes of a data block as they are written: `16#XX`, and `m(16#XX)`
pub data Items : Type 0 where
  no_item : Items
  single : Items → ℕ → Items
  times : Items → ℕ → ℕ → Items

-- the type of a global, with the bytes that are written where some are
pub data GlobalType : Type 0 where
  plain : StType → GlobalType
  bytes : ℕ → Items → GlobalType

-- a global: its name and line, its variable and line, its type
pub data Globals : Type 0 where
  no_global : Globals
  global : Globals → List ℕ → Line → RawVar → Line → GlobalType → Globals

-- locals or formals
pub data Locals : Type 0 where
  no_local : Locals
  local : Locals → List ℕ → Line → StType → Locals

-- a section that may be missing
pub data Section (X : Type 0) : Type 0 where
  absent : Section X
  present : X → Section X

-- the head of a unit: whether it is a program, its name, the line of its word and that of its name
pub record Head : Type 0 where
  pub program : Bool
  pub name : List ℕ
  pub line : Line
  pub place : Line

-- units: each its head, its formals, its locals and its statements
pub data Units : Type 0 where
  no_unit : Units
  unit : Units → Head → Section Locals → Section Locals → Statements → Units

-- a whole text
pub record Source : Type 0 where
  pub globals : Section Globals
  pub units : Units
