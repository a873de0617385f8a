-- The statements of bit logic write one thing each, and are few, and so are the nodes of their expressions.
use Rattle.std.proofs.Common.{◌≡◌, ℕ, ◌+◌, ◌≤◌, Bool, true, false, List, [], ◌∷◌, length, arith}
use Rattle.std.proofs.lemmas.List.{length-append}
use Rattle.s7_base.specs.declared.check.Check.{Check}
use Rattle.s7_base.specs.declared.check.Check.TheVariants as check
use Rattle.s7_base.specs.declared.register.Reg.TheVariants as reg
use Rattle.status_word.specs.declared.test.Test.{Test}
use Rattle.status_word.specs.declared.test.Test.TheVariants as test
use Rattle.st_tree.specs.declared.expr.BinaryOp.TheVariants as binary
use Rattle.st_tree.specs.declared.expr.Expr.{Expr}
use Rattle.st_tree.specs.declared.expr.Expr.TheVariants as expr
use Rattle.st_tree.specs.declared.expr.Var.{Var}
use Rattle.st_tree.specs.declared.expr.Var.TheVariants as var
use Rattle.st_tree.specs.declared.program.Stmt.{Stmt}
use Rattle.stl_tree.specs.declared.program.BitArg.{BitArg}
use Rattle.stl_tree.specs.declared.program.BitArg.TheVariants as arg
use Rattle.stl_tree.specs.declared.program.Operand.{Operand}
use Rattle.template_parts.proofs.Sizes.{counts, of_append, of_assign, of_cleared, of_joined, of_literal, of_nfc, of_not, of_not_register, of_nothing, of_read, of_register}
use Rattle.template_parts.specs.Nodes.{nodes, nodes_in}
use Rattle.template_parts.specs.Fetching.{fetch_of, fetched_value_of, reach_of, types_fetched, writing_of}
use Rattle.template_parts.proofs.FetchBounds.{fetch_length, fetch_nodes, fetch_writes, fetched_nodes, reach_length, reach_nodes, reach_writes, writes_in_parts, writing_nodes, writing_writes}
use Rattle.bit_templates.specs.declared.chain.Chain.{Chain}
use Rattle.bit_templates.specs.declared.chain.OpenBracket.{OpenBracket}
use Rattle.s7_base.specs.declared.word.Width.TheVariants as width
use Rattle.template_parts.specs.Builders.{and_of, clear_or, literal_of, local_of, not_of, read_of, set_of}
use Rattle.graph_rules.specs.Writes.{AreWrites}
use Rattle.bit_templates.specs.Bits.{and_joined, answer_of, assigned_of, before_check, behind_check, check_of, checked_bit_of, check_value_of, edge_at, edge_of, falling, inverted_of, keep_of, next_rlo, or_alone_of, reset_value, rising, rlo_before_and, rlo_before_or, rlo_set, running_chain, saved_of, set_value, store_of, stored_of}
use Rattle.bit_templates.specs.Brackets.{behind_close, close_of, open_of}

-- Expressions

pub of_answer : (t : Test) → nodes (answer_of t) ≤ 5
of_answer test.Eq = omega (arith, of_joined binary.And (not_of (read_of reg.Cc1)) (not_of (read_of reg.Cc0)), of_not_register reg.Cc1, of_not_register reg.Cc0)
of_answer test.Ne = omega (arith, of_joined binary.Xor (read_of reg.Cc1) (read_of reg.Cc0), of_register reg.Cc1, of_register reg.Cc0)
of_answer test.Gt = omega (arith, of_joined binary.And (read_of reg.Cc1) (not_of (read_of reg.Cc0)), of_register reg.Cc1, of_not_register reg.Cc0)
of_answer test.Lt = omega (arith, of_joined binary.And (not_of (read_of reg.Cc1)) (read_of reg.Cc0), of_not_register reg.Cc1, of_register reg.Cc0)
of_answer test.Ge = omega (arith, of_not_register reg.Cc0)
of_answer test.Le = omega (arith, of_not_register reg.Cc1)
of_answer test.Uo = omega (arith, of_joined binary.And (read_of reg.Cc1) (read_of reg.Cc0), of_register reg.Cc1, of_register reg.Cc0)
of_answer test.Ov = omega (arith, of_register reg.Ov)
of_answer test.Os = omega (arith, of_register reg.Os)
of_answer test.Br = omega (arith, of_register reg.Br)

of_checked : (used : ℕ) (b : BitArg) → nodes (check_value_of used b) ≤ 5
of_checked used (arg.At o) = omega (arith, fetched_nodes used o width.Bit)
of_checked used (arg.Flag t) = of_answer t

before_and : (chain : Chain) → nodes (rlo_before_and chain) ≡ 4
before_and chain =
    omega (arith, of_joined binary.Or (expr.Read chain.rlo) (not_of (expr.Read chain.nfc)), of_not (expr.Read chain.nfc), of_read chain.rlo, of_read chain.nfc)

before_or : (chain : Chain) → nodes (rlo_before_or chain) ≡ 3
before_or chain = omega (arith, of_joined binary.And (expr.Read chain.rlo) (expr.Read chain.nfc), of_read chain.rlo, of_read chain.nfc)

of_and : (chain : Chain) (e : Expr) → nodes (and_joined chain e) ≡ nodes e + 7
of_and chain e =
    omega (
      arith,
      of_joined binary.Or (and_of (rlo_before_and chain) e) (expr.Read chain.orb),
      of_joined binary.And (rlo_before_and chain) e,
      before_and chain,
      of_read chain.orb,
    )

-- Statements

of_put_back : (v : Var) → nodes_in (set_of reg.Orb (expr.Read v) ∷ set_of reg.Nfc (literal_of true) ∷ []) ≡ 2
of_put_back v = omega (arith, of_assign (var.Register reg.Orb) (expr.Read v) (set_of reg.Nfc (literal_of true) ∷ []), of_read v, of_nfc true)

-- a check, with what stands behind it
of_check : (c : Check) (e : Expr) → nodes (next_rlo running_chain c e) + nodes_in (behind_check c) ≤ nodes e + 9
of_check check.A e = omega (arith, of_and running_chain e, of_nfc true)
of_check check.An e = omega (arith, of_and running_chain (not_of e), of_not e, of_nfc true)
of_check check.O e = omega (arith, of_joined binary.Or (rlo_before_or running_chain) e, before_or running_chain, of_cleared true)
of_check check.On e = omega (arith, of_joined binary.Or (rlo_before_or running_chain) (not_of e), of_not e, before_or running_chain, of_cleared true)
of_check check.X e = omega (arith, of_joined binary.Xor (rlo_before_or running_chain) e, before_or running_chain, of_cleared true)
of_check check.Xn e = omega (arith, of_joined binary.Xor (rlo_before_or running_chain) (not_of e), of_not e, before_or running_chain, of_cleared true)

of_closed : (c : Check) (chain : Chain) (e : Expr) → nodes (next_rlo chain c e) + nodes_in (behind_close c chain.orb) ≤ nodes e + 10
of_closed check.A chain e = omega (arith, of_and chain e, of_put_back chain.orb)
of_closed check.An chain e = omega (arith, of_and chain (not_of e), of_not e, of_put_back chain.orb)
of_closed check.O chain e = omega (arith, of_joined binary.Or (rlo_before_or chain) e, before_or chain, of_cleared true)
of_closed check.On chain e = omega (arith, of_joined binary.Or (rlo_before_or chain) (not_of e), of_not e, before_or chain, of_cleared true)
of_closed check.X chain e = omega (arith, of_joined binary.Xor (rlo_before_or chain) e, before_or chain, of_cleared true)
of_closed check.Xn chain e = omega (arith, of_joined binary.Xor (rlo_before_or chain) (not_of e), of_not e, before_or chain, of_cleared true)

pub close_nodes : (o : OpenBracket) → nodes_in (close_of o) ≤ 91
close_nodes o =
    let e : Expr = next_rlo o.kept o.check (read_of reg.Rlo) in
    omega (arith, of_assign (var.Register reg.Rlo) e (behind_close o.check o.kept.orb), of_closed o.check o.kept (read_of reg.Rlo), of_register reg.Rlo)

pub of_opened : (first : ℕ) → nodes_in (open_of first) ≡ 5
of_opened first =
    let nfc : List Stmt = keep_of (first + 2) reg.Nfc ∷ clear_or false in
    let orb : List Stmt = keep_of (first + 1) reg.Orb ∷ nfc in
    omega (
      arith,
      of_assign (var.Local first) (read_of reg.Rlo) orb,
      of_assign (var.Local (first + 1)) (read_of reg.Orb) nfc,
      of_assign (var.Local (first + 2)) (read_of reg.Nfc) (clear_or false),
      of_register reg.Rlo,
      of_register reg.Orb,
      of_register reg.Nfc,
      of_cleared false,
    )

of_store : (used : ℕ) (o : Operand) (e : Expr) → nodes_in (store_of used o e) ≤ nodes e + 3
of_store used o e = omega (arith, writing_nodes used o width.Bit e (clear_or false), of_cleared false)

of_edge : (used : ℕ) (o : Operand) (i : ℕ) (e : Expr) → nodes_in (edge_of used o i e) ≤ nodes e + 5
of_edge used o i e =
    let last : List Stmt = set_of reg.Rlo (expr.Read (var.Local i)) ∷ clear_or true in
    omega (
      arith,
      of_assign (var.Local i) e (writing_of used o width.Bit (read_of reg.Rlo) ∷ last),
      writing_nodes used o width.Bit (read_of reg.Rlo) last,
      of_assign (var.Register reg.Rlo) (expr.Read (var.Local i)) (clear_or true),
      of_register reg.Rlo,
      of_read (var.Local i),
      of_cleared true,
    )

of_before : (used : ℕ) (b : BitArg) → nodes_in (before_check used b) ≤ 13
of_before used (arg.At o) = fetch_nodes used o width.Bit
of_before used (arg.Flag t) = omega (arith, of_nothing)

of_stored : (used : ℕ) (o : Operand) (value : Expr → Expr) → nodes (value (fetched_value_of used o width.Bit)) ≤ 5 → nodes_in (stored_of used o value) ≤ 91
of_stored used o value few =
    let e : Expr = value (fetched_value_of used o width.Bit) in
    let before = fetch_nodes used o width.Bit in
    omega (arith, of_append (fetch_of used o width.Bit) (store_of used o e), of_store used o e)

of_edge_at : (used : ℕ) (o : Operand) (value : Expr → Expr) → nodes (value (fetched_value_of used o width.Bit)) ≤ 5 → nodes_in (edge_at used o value) ≤ 91
of_edge_at used o value few =
    let e : Expr = value (fetched_value_of used o width.Bit) in
    let later : ℕ = used + length (types_fetched o width.Bit) in
    let before = fetch_nodes used o width.Bit in
    omega (arith, of_append (fetch_of used o width.Bit) (edge_of used o later e), of_edge used o later e)

-- Instructions

pub check_nodes : (first : ℕ) (c : Check) (b : BitArg) → nodes_in (checked_bit_of first c b) ≤ 91
check_nodes first c b =
    let bit : Expr = check_value_of first b in
    let e : Expr = next_rlo running_chain c bit in
    let before = of_before first b in
    omega (
      arith,
      of_append (before_check first b) (check_of c bit),
      of_assign (var.Register reg.Rlo) e (behind_check c),
      of_check c bit,
      of_checked first b,
    )

pub or_alone_nodes : nodes_in or_alone_of ≤ 91
or_alone_nodes = simp counts (omega arith)

pub assign_nodes : (first : ℕ) (o : Operand) → nodes_in (assigned_of first o) ≤ 91
assign_nodes first o =
    let before = reach_nodes first o in
    omega (arith, of_append (reach_of first o) (store_of first o (read_of reg.Rlo)), of_store first o (read_of reg.Rlo), of_register reg.Rlo)

pub set_nodes : (first : ℕ) (o : Operand) → nodes_in (stored_of first o set_value) ≤ 91
set_nodes first o =
    let bit : Expr = fetched_value_of first o width.Bit in
    of_stored first o set_value (omega (arith, of_joined binary.Or bit (read_of reg.Rlo), fetched_nodes first o width.Bit, of_register reg.Rlo))

pub reset_nodes : (first : ℕ) (o : Operand) → nodes_in (stored_of first o reset_value) ≤ 91
reset_nodes first o =
    let bit : Expr = fetched_value_of first o width.Bit in
    of_stored first o reset_value (omega (arith, of_joined binary.And bit (not_of (read_of reg.Rlo)), fetched_nodes first o width.Bit, of_not_register reg.Rlo))

pub rlo_set_nodes : (b : Bool) → nodes_in (rlo_set b) ≤ 91
rlo_set_nodes b = omega (arith, of_assign (var.Register reg.Rlo) (literal_of b) (clear_or false), of_literal b, of_cleared false)

pub inverted_nodes : nodes_in inverted_of ≤ 91
inverted_nodes = simp counts (omega arith)

pub saved_nodes : nodes_in saved_of ≤ 91
saved_nodes = simp counts (omega arith)

pub up_nodes : (first : ℕ) (o : Operand) → nodes_in (edge_at first o rising) ≤ 91
up_nodes first o =
    let bit : Expr = fetched_value_of first o width.Bit in
    of_edge_at first o rising
    (omega (arith, of_joined binary.And (read_of reg.Rlo) (not_of bit), of_not bit, fetched_nodes first o width.Bit, of_register reg.Rlo))

pub down_nodes : (first : ℕ) (o : Operand) → nodes_in (edge_at first o falling) ≤ 91
down_nodes first o =
    let bit : Expr = fetched_value_of first o width.Bit in
    of_edge_at first o falling (omega (arith, of_joined binary.And (not_of (read_of reg.Rlo)) bit, fetched_nodes first o width.Bit, of_not_register reg.Rlo))

-- How many statements

length_of_check : (c : Check) → length (behind_check c) ≤ 2
length_of_check check.A = omega arith
length_of_check check.An = omega arith
length_of_check check.O = omega arith
length_of_check check.On = omega arith
length_of_check check.X = omega arith
length_of_check check.Xn = omega arith

length_of_close : (c : Check) (v : Var) → length (behind_close c v) ≤ 2
length_of_close check.A v = omega arith
length_of_close check.An v = omega arith
length_of_close check.O v = omega arith
length_of_close check.On v = omega arith
length_of_close check.X v = omega arith
length_of_close check.Xn v = omega arith

length_of_before : (used : ℕ) (b : BitArg) → length (before_check used b) ≤ 3
length_of_before used (arg.At o) = fetch_length used o width.Bit
length_of_before used (arg.Flag t) = omega arith

pub length_of_stored : (used : ℕ) (o : Operand) (value : Expr → Expr) → length (stored_of used o value) ≤ 11
length_of_stored used o value =
    let few = fetch_length used o width.Bit in
    omega (arith, length-append (fetch_of used o width.Bit) (store_of used o (value (fetched_value_of used o width.Bit))))

pub length_of_edge : (used : ℕ) (o : Operand) (value : Expr → Expr) → length (edge_at used o value) ≤ 11
length_of_edge used o value =
    let few = fetch_length used o width.Bit in
    let later : ℕ = used + length (types_fetched o width.Bit) in
    omega (arith, length-append (fetch_of used o width.Bit) (edge_of used o later (value (fetched_value_of used o width.Bit))))

pub check_length : (first : ℕ) (c : Check) (b : BitArg) → length (checked_bit_of first c b) ≤ 11
check_length first c b =
    let few = length_of_check c in
    let before = length_of_before first b in
    omega (arith, length-append (before_check first b) (check_of c (check_value_of first b)))

pub close_length : (o : OpenBracket) → length (close_of o) ≤ 11
close_length o = let few = length_of_close o.check o.kept.orb in omega arith

pub assign_length : (first : ℕ) (o : Operand) → length (assigned_of first o) ≤ 11
assign_length first o =
    let few = reach_length first o in
    omega (arith, length-append (reach_of first o) (store_of first o (read_of reg.Rlo)))

-- Writes

writes_of_check : (c : Check) → AreWrites (behind_check c)
writes_of_check check.A = tt
writes_of_check check.An = tt
writes_of_check check.O = tt
writes_of_check check.On = tt
writes_of_check check.X = tt
writes_of_check check.Xn = tt

writes_of_close : (c : Check) (v : Var) → AreWrites (behind_close c v)
writes_of_close check.A v = tt
writes_of_close check.An v = tt
writes_of_close check.O v = tt
writes_of_close check.On v = tt
writes_of_close check.X v = tt
writes_of_close check.Xn v = tt

writes_of_before : (used : ℕ) (b : BitArg) → AreWrites (before_check used b)
writes_of_before used (arg.At o) = fetch_writes used o width.Bit
writes_of_before used (arg.Flag t) = tt

pub writes_of_stored : (used : ℕ) (o : Operand) (value : Expr → Expr) → AreWrites (stored_of used o value)
writes_of_stored used o value =
    let e : Expr = value (fetched_value_of used o width.Bit) in
    writes_in_parts (fetch_of used o width.Bit) (store_of used o e) (fetch_writes used o width.Bit) (writing_writes used o width.Bit e (clear_or false) tt)

pub writes_of_edge : (used : ℕ) (o : Operand) (value : Expr → Expr) → AreWrites (edge_at used o value)
writes_of_edge used o value =
    let later : ℕ = used + length (types_fetched o width.Bit) in
    let rlo : Expr = read_of reg.Rlo in
    writes_in_parts (fetch_of used o width.Bit) (edge_of used o later (value (fetched_value_of used o width.Bit))) (fetch_writes used o width.Bit)
    (writing_writes used o width.Bit rlo (set_of reg.Rlo (local_of later) ∷ clear_or true) tt)

pub check_writes : (first : ℕ) (c : Check) (b : BitArg) → AreWrites (checked_bit_of first c b)
check_writes first c b = writes_in_parts (before_check first b) (check_of c (check_value_of first b)) (writes_of_before first b) (writes_of_check c)

pub close_writes : (o : OpenBracket) → AreWrites (close_of o)
close_writes o = writes_of_close o.check o.kept.orb

pub assign_writes : (first : ℕ) (o : Operand) → AreWrites (assigned_of first o)
assign_writes first o =
    writes_in_parts (reach_of first o) (store_of first o (read_of reg.Rlo)) (reach_writes first o)
    (writing_writes first o width.Bit (read_of reg.Rlo) (clear_or false) tt)
