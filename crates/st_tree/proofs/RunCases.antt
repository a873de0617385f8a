-- Runs of small texts, held against worked rows by computing them.
use Rattle.st_tree.proofs.Common.{◌≡◌, refl, ℕ, true, false, List, [], ◌∷◌, pos, Option, Some, None, codes, digits, Areas, End, Ended, Going, Fault, BlockName, Call, st_run, StType, Var, Expr, Local, Pou, StProgram, Stmt}
use Rattle.memory_areas.specs.declared.place.AreaName.TheVariants as area
use Rattle.s7_base.specs.declared.outcome.Fault.TheVariants.{AreaCode, AreaLength, DbMissing, DbNotOpen, DivideByZero}
use Rattle.s7_base.specs.declared.register.Reg.TheVariants as reg
use Rattle.s7_base.specs.declared.word.Width.TheVariants as width
use Rattle.memory_areas.specs.declared.call.BlockName.TheVariants.{Ob, Fc}
use Rattle.st_tree.specs.declared.expr.StType.TheVariants as type
use Rattle.st_tree.specs.declared.expr.BinaryOp.TheVariants as binary
use Rattle.st_tree.specs.declared.expr.Var.TheVariants as var
use Rattle.st_tree.specs.declared.expr.Expr.TheVariants as expr
use Rattle.st_tree.specs.declared.program.Stmt.TheVariants as stmt
use Rattle.st_tree.proofs.Equations.{meaning_equations}

abbrev local_of : StType → Local
local_of ty = record { name = codes "x"; ty = ty }

-- a function `F` with these formals, locals and statements
abbrev function : List Local → List Local → List Stmt → Pou
function formals locals body = record { program = false; name = codes "F"; formals = formals; locals = locals; body = body }

-- a text of a program `ob1` with two INT locals, and of some functions; its one data block is DB 7
abbrev text_of : List Pou → List Stmt → StProgram
text_of functions body =
    record {
      dbs = record { number = 7; bytes = 1 ∷ 2 ∷ [] } ∷ [];
      globals = [];
      pous = record { program = true; name = codes "ob1"; formals = []; locals = local_of type.Int ∷ local_of type.Int ∷ []; body = body } ∷ functions;
    }

abbrev call_of : BlockName → Call
call_of name = record { block = name; instance = 0; actuals = [] }

-- these bytes of outputs, no inputs and no bit memory
abbrev memory_of : List ℕ → Areas
memory_of outputs = record { inputs = []; outputs = outputs; markers = []; blocks = record { number = 7; bytes = 1 ∷ 2 ∷ [] } ∷ [] }

-- the run of the program within some units, from outputs of 2 bytes of zeros
abbrev run_of : List Pou → List Stmt → ℕ → End
run_of functions body units = st_run (text_of functions body) (call_of (Ob 1)) (memory_of (0 ∷ 0 ∷ [])) units

-- it ended with these outputs, and with a fault or without
abbrev ended : List ℕ → Option Fault → End
ended outputs f = Ended (memory_of outputs) f

-- statements and expressions
abbrev out : ℕ → Var
out i = var.Direct area.Q i 0 width.Byte

abbrev byte : ℕ → Expr
byte n = expr.Literal type.Byte (pos n)

abbrev int : ℕ → Expr
int n = expr.Literal type.Int (pos n)

abbrev truth : ℕ → Expr
truth n = expr.Literal type.Bool (pos n)

abbrev get : Var → Expr
get v = expr.Read v

abbrev first : Var
first = var.Local 0

abbrev second : Var
second = var.Local 1

-- a byte of outputs takes the low byte of an INT
abbrev show : ℕ → Var → Stmt
show i v = stmt.Assign (out i) (expr.Convert type.Int type.Byte (get v))

-- locals are zero at the start and keep what they are given; no unit is needed
locals : run_of [] (stmt.Assign first (expr.Binary binary.Add (get second) (int 5)) ∷ show 0 first ∷ show 1 second ∷ []) 0 ≡ ended (5 ∷ 0 ∷ []) None
unfolding digits
locals = simp meaning_equations

-- the first fault ends the run, with what was written before it
faults : run_of [] (stmt.Assign (out 0) (byte 9) ∷ stmt.Assign first (expr.Binary binary.Div (int 1) (get second)) ∷ stmt.Assign (out 1) (byte 9) ∷ []) 0
    ≡ ended (9 ∷ 0 ∷ []) (Some DivideByZero)
unfolding digits
faults = simp meaning_equations

-- SEL evaluates both sides, and AND both operands
both_sides : run_of [] (stmt.Assign first (expr.Select (truth 0) (int 1) (expr.Binary binary.Div (int 1) (int 0))) ∷ []) 0
    ≡ ended (0 ∷ 0 ∷ []) (Some DivideByZero)
unfolding digits
both_sides = simp meaning_equations

both_operands :
    run_of []
    (stmt.Assign (var.Register reg.Rlo) (expr.Binary binary.And (truth 0) (expr.Binary binary.Eq (int 1) (expr.Binary binary.Div (int 1) (int 0)))) ∷ []) 0
    ≡ ended (0 ∷ 0 ∷ []) (Some DivideByZero)
unfolding digits
both_operands = simp meaning_equations

-- the expression is evaluated before the variable is located; the left operand before the right
expression_first : run_of [] (stmt.Assign (out 5) (expr.Convert type.Int type.Byte (expr.Binary binary.Div (int 1) (int 0))) ∷ []) 0
    ≡ ended (0 ∷ 0 ∷ []) (Some DivideByZero)
unfolding digits
expression_first = simp meaning_equations

left_first : run_of [] (stmt.Assign (out 0) (expr.Binary binary.Or (get (out 5)) (get (var.Direct area.Db 0 0 width.Byte))) ∷ []) 0
    ≡ ended (0 ∷ 0 ∷ []) (Some AreaLength)
unfolding digits
left_first = simp meaning_equations

-- a data block is the one that DBNO names at the access
blocks :
    run_of [] (
    stmt.Assign (var.Register reg.DbNo) (expr.Literal type.Word (pos 7)) ∷ stmt.Assign (out 0) (get (var.Direct area.Db 1 0 width.Byte))
    ∷ stmt.Assign (var.Register reg.DbNo) (get (var.Direct area.Db 0 0 width.Word)) ∷ stmt.Assign (out 1) (get (var.InBlock 7 0 0 width.Byte))
    ∷ stmt.Assign (out 0) (get (var.Direct area.Db 1 0 width.Byte)) ∷ []) 0
    ≡ ended (2 ∷ 1 ∷ []) (Some DbMissing)
unfolding digits
blocks = simp meaning_equations

no_block : run_of [] (stmt.Assign (out 0) (get (var.Direct area.Di 1 0 width.Byte)) ∷ []) 0 ≡ ended (0 ∷ 0 ∷ []) (Some DbNotOpen)
unfolding digits
no_block = simp meaning_equations

-- through a pointer: QB 1 is 16#82000008, and 16#87000000 has no area
pointers :
    run_of [] (
    stmt.AreaWrite width.Byte (expr.Literal type.Dword (pos 2181038088)) (byte 3)
    ∷ stmt.Assign (out 0) (expr.AreaRead width.Byte (expr.Literal type.Dword (pos 2181038088)))
    ∷ stmt.AreaWrite width.Byte (expr.Literal type.Dword (pos 2264924160)) (byte 4) ∷ []) 0
    ≡ ended (3 ∷ 3 ∷ []) (Some AreaCode)
unfolding digits
pointers = simp meaning_equations

-- IF: the first arm whose test is TRUE, or else ELSE
arms :
    run_of [] (
    stmt.If
    (record { test = truth 0; body = stmt.Assign (out 0) (byte 1) ∷ [] } ∷ record { test = truth 1; body = stmt.Assign (out 0) (byte 2) ∷ [] }
    ∷ record { test = truth 1; body = stmt.Assign (out 0) (byte 3) ∷ [] } ∷ []) []
    ∷ stmt.If (record { test = truth 0; body = [] } ∷ []) (stmt.Assign (out 1) (byte 4) ∷ []) ∷ []) 0
    ≡ ended (2 ∷ 4 ∷ []) None
unfolding digits
arms = simp meaning_equations

-- CASE: the first arm that has the value, or else ELSE
cases :
    run_of [] (
    stmt.Case (int 5)
    (record { labels = pos 4 ∷ []; body = [] } ∷ record { labels = pos 6 ∷ pos 5 ∷ []; body = stmt.Assign (out 0) (byte 2) ∷ [] }
    ∷ record { labels = pos 5 ∷ []; body = stmt.Assign (out 0) (byte 3) ∷ [] } ∷ []) []
    ∷ stmt.Case (int 7) (record { labels = pos 4 ∷ []; body = [] } ∷ []) (stmt.Assign (out 1) (byte 4) ∷ []) ∷ []) 0
    ≡ ended (2 ∷ 4 ∷ []) None
unfolding digits
cases = simp meaning_equations

-- WHILE: each test takes a unit first, also one that would fault; the last test is one too
unit_first : run_of [] (stmt.While (expr.Binary binary.Eq (expr.Binary binary.Div (int 1) (int 0)) (int 1)) [] ∷ []) 0 ≡ Going
unfolding digits
unit_first = simp meaning_equations

then_test : run_of [] (stmt.While (expr.Binary binary.Eq (expr.Binary binary.Div (int 1) (int 0)) (int 1)) [] ∷ []) 1 ≡ ended (0 ∷ 0 ∷ []) (Some DivideByZero)
unfolding digits
then_test = simp meaning_equations

abbrev counting : List Stmt
counting = stmt.While (expr.Binary binary.Lt (get first) (int 2)) (stmt.Assign first (expr.Binary binary.Add (get first) (int 1)) ∷ []) ∷ show 0 first ∷ []

turns_short : run_of [] counting 2 ≡ Going
unfolding digits
turns_short = simp meaning_equations

turns_enough : run_of [] counting 3 ≡ ended (2 ∷ 0 ∷ []) None
unfolding digits
turns_enough = simp meaning_equations

-- EXIT ends the loop, CONTINUE leads to the test, RETURN ends the unit
leaving :
    run_of [] (
    stmt.While (truth 1) (
    stmt.Assign first (expr.Binary binary.Add (get first) (int 1))
    ∷ stmt.If (record { test = expr.Binary binary.Lt (get first) (int 2); body = stmt.Continue ∷ [] } ∷ []) []
    ∷ stmt.Assign second (get first) ∷ stmt.Exit ∷ stmt.Assign second (int 9) ∷ [])
    ∷ show 0 first ∷ show 1 second ∷ stmt.Return ∷ stmt.Assign (out 0) (byte 9) ∷ []) 2
    ≡ ended (2 ∷ 2 ∷ []) None
unfolding digits
leaving = simp meaning_equations

-- a call takes a unit before it locates its actuals
abbrev calling : List Stmt
calling = stmt.Invoke 1 (out 5 ∷ []) ∷ []

call_waits : run_of (function (local_of type.Byte ∷ []) [] [] ∷ []) calling 0 ≡ Going
unfolding digits
call_waits = simp meaning_equations

actual_faults : run_of (function (local_of type.Byte ∷ []) [] [] ∷ []) calling 1 ≡ ended (0 ∷ 0 ∷ []) (Some AreaLength)
unfolding digits
actual_faults = simp meaning_equations

-- formals are references: both stand for one local, and a place given on is written
abbrev double : Pou
double =
    function (local_of type.Int ∷ local_of type.Int ∷ []) [] (
    stmt.Assign (var.Formal 0) (int 3) ∷ stmt.Assign (var.Formal 1) (expr.Binary binary.Add (get (var.Formal 0)) (get (var.Formal 1))) ∷ [])

aliases : run_of (double ∷ []) (stmt.Invoke 1 (first ∷ first ∷ []) ∷ show 0 first ∷ []) 1 ≡ ended (6 ∷ 0 ∷ []) None
unfolding digits
aliases = simp meaning_equations

abbrev setter : Pou
setter = function (local_of type.Byte ∷ []) [] (stmt.Assign (var.Formal 0) (byte 8) ∷ [])

given_on : run_of (function (local_of type.Byte ∷ []) [] (stmt.Invoke 2 (var.Formal 0 ∷ []) ∷ []) ∷ setter ∷ []) (stmt.Invoke 1 (out 1 ∷ []) ∷ []) 2
    ≡ ended (0 ∷ 8 ∷ []) None
unfolding digits
given_on = simp meaning_equations

-- locals of a unit are zero at each call of it
abbrev stepper : Pou
stepper =
    function (local_of type.Int ∷ []) (local_of type.Int ∷ [])
    (stmt.Assign first (expr.Binary binary.Add (get first) (int 1)) ∷ stmt.Assign (var.Formal 0) (get first) ∷ [])

locals_anew : run_of (stepper ∷ []) (stmt.Invoke 1 (first ∷ []) ∷ stmt.Invoke 1 (second ∷ []) ∷ show 0 first ∷ show 1 second ∷ []) 2 ≡ ended (1 ∷ 1 ∷ []) None
unfolding digits
locals_anew = simp meaning_equations

-- a unit that is not there has no run
no_unit : st_run (text_of [] []) (call_of (Fc 1)) (memory_of []) 9 ≡ Going
unfolding digits
no_unit = refl
