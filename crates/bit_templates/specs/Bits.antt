-- The statements of checks, of what sets a bit or the RLO, and of edges: an assignment for each bit of the status word
-- that they change but STA, which no instruction reads.
use Rattle.std.specs.Prelude.{ℕ, ◌+◌, Bool, true, false, List, [], ◌∷◌, ◌++◌, length}
use Rattle.bit_templates.specs.declared.chain.Chain.{Chain}
use Rattle.s7_base.specs.declared.check.Check.{Check}
use Rattle.s7_base.specs.declared.check.Check.TheVariants as check
use Rattle.s7_base.specs.declared.register.Reg.{Reg}
use Rattle.s7_base.specs.declared.register.Reg.TheVariants as reg
use Rattle.s7_base.specs.declared.word.Width.TheVariants as width
use Rattle.status_word.specs.declared.test.Test.{Test}
use Rattle.status_word.specs.declared.test.Test.TheVariants as test
use Rattle.stl_tree.specs.declared.program.BitArg.{BitArg}
use Rattle.stl_tree.specs.declared.program.BitArg.TheVariants as arg
use Rattle.stl_tree.specs.declared.program.Operand.{Operand}
use Rattle.st_tree.specs.declared.expr.Expr.{Expr}
use Rattle.st_tree.specs.declared.expr.Expr.TheVariants as expr
use Rattle.st_tree.specs.declared.expr.StType.{StType}
use Rattle.st_tree.specs.declared.expr.StType.TheVariants as type
use Rattle.st_tree.specs.declared.expr.Var.TheVariants as var
use Rattle.st_tree.specs.declared.program.Stmt.{Stmt}
use Rattle.st_tree.specs.declared.program.Stmt.TheVariants as stmt
use Rattle.template_parts.specs.Builders.{and_of, clear_or, literal_of, not_of, or_of, read_of, set_of, xor_of}
use Rattle.template_parts.specs.Fetching.{fetch_of, fetched_value_of, reach_of, types_fetched, writing_of}

-- Expressions

-- the answer of the status word to a test
abbrev pub answer_of : Test → Expr
answer_of test.Eq = and_of (not_of (read_of reg.Cc1)) (not_of (read_of reg.Cc0))
answer_of test.Ne = xor_of (read_of reg.Cc1) (read_of reg.Cc0)
answer_of test.Gt = and_of (read_of reg.Cc1) (not_of (read_of reg.Cc0))
answer_of test.Lt = and_of (not_of (read_of reg.Cc1)) (read_of reg.Cc0)
answer_of test.Ge = not_of (read_of reg.Cc0)
answer_of test.Le = not_of (read_of reg.Cc1)
answer_of test.Uo = and_of (read_of reg.Cc1) (read_of reg.Cc0)
answer_of test.Ov = read_of reg.Ov
answer_of test.Os = read_of reg.Os
answer_of test.Br = read_of reg.Br

-- the bit that a check tests
abbrev pub check_value_of : ℕ → BitArg → Expr
check_value_of first (arg.At o) = fetched_value_of first o width.Bit
check_value_of first (arg.Flag t) = answer_of t

-- the statements before a check
abbrev pub before_check : ℕ → BitArg → List Stmt
before_check first (arg.At o) = fetch_of first o width.Bit
before_check first (arg.Flag t) = []

-- Checks

-- the chain that continues in the registers
abbrev pub running_chain : Chain
running_chain = record { rlo = var.Register reg.Rlo; nfc = var.Register reg.Nfc; orb = var.Register reg.Orb }

-- the RLO before an AND: a first check, where NFC is FALSE, takes it as TRUE
abbrev pub rlo_before_and : Chain → Expr
rlo_before_and chain = or_of (expr.Read chain.rlo) (not_of (expr.Read chain.nfc))

-- the RLO before an OR or an XOR: a first check, where NFC is FALSE, takes it as FALSE
abbrev pub rlo_before_or : Chain → Expr
rlo_before_or chain = and_of (expr.Read chain.rlo) (expr.Read chain.nfc)

-- the RLO after an AND with the bit b, which is joined to what OR keeps
abbrev pub and_joined : Chain → Expr → Expr
and_joined chain b = or_of (and_of (rlo_before_and chain) b) (expr.Read chain.orb)

-- the RLO after a check of the bit b in a chain
abbrev pub next_rlo : Chain → Check → Expr → Expr
next_rlo chain check.A b = and_joined chain b
next_rlo chain check.An b = and_joined chain (not_of b)
next_rlo chain check.O b = or_of (rlo_before_or chain) b
next_rlo chain check.On b = or_of (rlo_before_or chain) (not_of b)
next_rlo chain check.X b = xor_of (rlo_before_or chain) b
next_rlo chain check.Xn b = xor_of (rlo_before_or chain) (not_of b)

-- Bits

-- the value of a bit after S and R
abbrev pub set_value : Expr → Expr
set_value b = or_of b (read_of reg.Rlo)

abbrev pub reset_value : Expr → Expr
reset_value b = and_of b (not_of (read_of reg.Rlo))

-- the rising and the falling edge, by an edge bit
abbrev pub rising : Expr → Expr
rising b = and_of (read_of reg.Rlo) (not_of b)

abbrev pub falling : Expr → Expr
falling b = and_of (not_of (read_of reg.Rlo)) b

-- Statements

-- OR after a check: an AND keeps it, the others clear it; the next check is not a first one
abbrev pub behind_check : Check → List Stmt
behind_check check.A = set_of reg.Nfc (literal_of true) ∷ []
behind_check check.An = set_of reg.Nfc (literal_of true) ∷ []
behind_check check.O = clear_or true
behind_check check.On = clear_or true
behind_check check.X = clear_or true
behind_check check.Xn = clear_or true

-- a check of a bit
abbrev pub check_of : Check → Expr → List Stmt
check_of c b = set_of reg.Rlo (next_rlo running_chain c b) ∷ behind_check c

-- a bit that was reached takes a value, and the chain ends
abbrev pub store_of : ℕ → Operand → Expr → List Stmt
store_of first o e = writing_of first o width.Bit e ∷ clear_or false

-- the statements of = of a bit
abbrev pub assigned_of : ℕ → Operand → List Stmt
assigned_of first o = reach_of first o ++ store_of first o (read_of reg.Rlo)

-- the statements of S or R of a bit, which is read before it takes its new value
abbrev pub stored_of : ℕ → Operand → (Expr → Expr) → List Stmt
stored_of first o value =
    fetch_of first o width.Bit ++ store_of first o (value (fetched_value_of first o width.Bit))

-- the statements of FP or FN with an edge bit: a local keeps the new RLO until the bit has the old one
abbrev pub edge_of : ℕ → Operand → ℕ → Expr → List Stmt
edge_of first o i e =
    stmt.Assign (var.Local i) e ∷ writing_of first o width.Bit (read_of reg.Rlo)
    ∷ set_of reg.Rlo (expr.Read (var.Local i)) ∷ clear_or true

-- the statements of FP or FN with an edge bit, which is read first
abbrev pub edge_at : ℕ → Operand → (Expr → Expr) → List Stmt
edge_at first o value =
    fetch_of first o width.Bit
    ++ edge_of first o (first + length (types_fetched o width.Bit)) (value (fetched_value_of first o width.Bit))

-- the RLO is set or cleared, and the chain ends
abbrev pub rlo_set : Bool → List Stmt
rlo_set rlo = set_of reg.Rlo (literal_of rlo) ∷ clear_or false

-- a local takes the value of a register
abbrev pub keep_of : ℕ → Reg → Stmt
keep_of i r = stmt.Assign (var.Local i) (read_of r)

-- Instructions

-- a check of a bit at a place, or of a test of the status word
abbrev pub checked_bit_of : ℕ → Check → BitArg → List Stmt
checked_bit_of first c b = before_check first b ++ check_of c (check_value_of first b)

-- O without an operand: OR keeps the RLO of the chain, and the next check is a first one
abbrev pub or_alone_of : List Stmt
or_alone_of = set_of reg.Orb (and_of (read_of reg.Rlo) (read_of reg.Nfc)) ∷ set_of reg.Nfc (literal_of false) ∷ []

-- the RLO is inverted
abbrev pub inverted_of : List Stmt
inverted_of = set_of reg.Rlo (not_of (read_of reg.Rlo)) ∷ []

-- BR keeps the RLO
abbrev pub saved_of : List Stmt
saved_of = set_of reg.Br (read_of reg.Rlo) ∷ []

-- Locals

-- the types of the locals of a check: what it tests, where that may fault
abbrev pub types_checked : BitArg → List StType
types_checked (arg.At o) = types_fetched o width.Bit
types_checked (arg.Flag t) = []

-- the types of the locals of an edge: its bit, where that may fault, and the RLO
abbrev pub types_of_edge : Operand → List StType
types_of_edge o = types_fetched o width.Bit ++ type.Bool ∷ []
