-- Loading, storing and moving: from memory and constants, to memory, between the accumulators, from and to the status
-- word.
use Rattle.std.specs.Prelude.{ℕ, List, [], ◌∷◌, ◌++◌}
use Rattle.accumulator_templates.specs.AccumulatorParts.{any_bit_of, bits_where_of, lowest_bits_of, dword_of, zero_extension_of}
use Rattle.template_parts.specs.Builders.{local_of, or_of, read_of, set_local_of, set_of}
use Rattle.template_parts.specs.Fetching.{fetch_of, fetched_value_of, reach_of, types_fetched, writing_of}
use Rattle.s7_base.specs.declared.register.Reg.{Reg}
use Rattle.s7_base.specs.declared.register.Reg.TheVariants as reg
use Rattle.s7_base.specs.declared.word.Width.{Width}
use Rattle.st_tree.specs.declared.expr.Expr.{Expr}
use Rattle.st_tree.specs.declared.expr.StType.{StType}
use Rattle.st_tree.specs.declared.expr.StType.TheVariants as type
use Rattle.st_tree.specs.declared.program.Stmt.{Stmt}
use Rattle.stl_tree.specs.declared.program.LoadArg.{LoadArg}
use Rattle.stl_tree.specs.declared.program.LoadArg.TheVariants as arg
use Rattle.stl_tree.specs.declared.program.Operand.{Operand}

-- ACCU2 takes ACCU1, and ACCU1 takes a value
abbrev pub taken_of : Expr → List Stmt
taken_of e = set_of reg.Accu2 (read_of reg.Accu1) ∷ set_of reg.Accu1 e ∷ []

-- the value that L loads
abbrev pub loaded_value : ℕ → LoadArg → Expr
loaded_value first (arg.At o w) = zero_extension_of w (fetched_value_of first o w)
loaded_value first (arg.Constant c) = dword_of c

-- the statements before L loads its value
abbrev pub before_load : ℕ → LoadArg → List Stmt
before_load first (arg.At o w) = fetch_of first o w
before_load first (arg.Constant c) = []

-- the statements of L, whose locals are those from this one on
abbrev pub load_of : ℕ → LoadArg → List Stmt
load_of first a = before_load first a ++ taken_of (loaded_value first a)

-- the types of the locals of L
abbrev pub types_of_load : LoadArg → List StType
types_of_load (arg.At o w) = types_fetched o w
types_of_load (arg.Constant c) = []

-- the statements of T, whose locals, from this one on, lead to its operand
abbrev pub transfer_of : ℕ → Operand → Width → List Stmt
transfer_of first o w = reach_of first o ++ (writing_of first o w (lowest_bits_of w (read_of reg.Accu1)) ∷ [])

-- a DWORD that has the bits of a mask set where a flag is set
abbrev pub with_flag_of : Expr → Reg → ℕ → Expr
with_flag_of e r mask = or_of e (bits_where_of (read_of r) mask)

-- the status word as L STW loads it
abbrev pub status_value : Expr
status_value =
    with_flag_of
    (with_flag_of
    (with_flag_of (with_flag_of (with_flag_of (bits_where_of (read_of reg.Rlo) 0x2) reg.Os 0x10) reg.Ov 0x20)
    reg.Cc0 0x40)
    reg.Cc1
    0x80)
    reg.Br
    0x100

-- the statements of L STW
abbrev pub status_load_of : List Stmt
status_load_of = taken_of status_value

-- a flag takes the bit of ACCU1 that a mask selects
abbrev pub flag_from_of : Reg → ℕ → Stmt
flag_from_of r mask = set_of r (any_bit_of (read_of reg.Accu1) mask)

-- the statements of T STW
abbrev pub status_store_of : List Stmt
status_store_of =
    flag_from_of reg.Rlo 0x2 ∷ flag_from_of reg.Os 0x10 ∷ flag_from_of reg.Ov 0x20
    ∷ flag_from_of reg.Cc0 0x40 ∷ flag_from_of reg.Cc1 0x80
    ∷ flag_from_of reg.Br 0x100 ∷ []

-- the statements of TAK
abbrev pub exchange_of : ℕ → List Stmt
exchange_of first =
    set_local_of first (read_of reg.Accu1) ∷ set_of reg.Accu1 (read_of reg.Accu2)
    ∷ set_of reg.Accu2 (local_of first) ∷ []

-- the types of the locals of TAK
abbrev pub types_of_exchange : List StType
types_of_exchange = type.Dword ∷ []

-- the statements of PUSH
abbrev pub push_of : List Stmt
push_of = set_of reg.Accu2 (read_of reg.Accu1) ∷ []

-- the statements of POP
abbrev pub pop_of : List Stmt
pop_of = set_of reg.Accu1 (read_of reg.Accu2) ∷ []
