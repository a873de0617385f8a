-- The statements of bit logic write their locals in their order, and read those alone that are written by then.
use Rattle.std.proofs.Common.{◌≡◌, ℕ, suc, ◌+◌, ◌≤◌, Bool, true, false, List, [], ◌∷◌, length, refl, ap, ◌∙◌, arith}
use Rattle.std.proofs.lemmas.List.{length-append}
use Rattle.s7_base.specs.declared.check.Check.{Check}
use Rattle.s7_base.specs.declared.check.Check.TheVariants as check
use Rattle.s7_base.specs.declared.register.Reg.{Reg}
use Rattle.s7_base.specs.declared.register.Reg.TheVariants as reg
use Rattle.s7_base.specs.declared.word.Width.TheVariants as width
use Rattle.status_word.specs.declared.test.Test.{Test}
use Rattle.status_word.specs.declared.test.Test.TheVariants as test
use Rattle.stl_tree.specs.declared.program.BitArg.{BitArg}
use Rattle.stl_tree.specs.declared.program.BitArg.TheVariants as arg
use Rattle.stl_tree.specs.declared.program.Operand.{Operand}
use Rattle.st_tree.proofs.PartEquations.{reads_of_binary, reads_of_read, reads_of_unary}
use Rattle.st_tree.specs.BodyParts.{reads_of}
use Rattle.st_tree.specs.declared.expr.BinaryOp.{BinaryOp}
use Rattle.st_tree.specs.declared.expr.BinaryOp.TheVariants as binary
use Rattle.st_tree.specs.declared.expr.UnaryOp.TheVariants as unary
use Rattle.st_tree.specs.declared.expr.Expr.{Expr}
use Rattle.st_tree.specs.declared.expr.Expr.TheVariants as expr
use Rattle.st_tree.specs.declared.expr.StType.TheVariants as type
use Rattle.st_tree.specs.declared.expr.Var.TheVariants as var
use Rattle.st_tree.specs.declared.program.Stmt.{Stmt}
use Rattle.graph_rules.proofs.Runs.{disorder, disorder_in_parts, locals_set, missed, missed_in_parts, order_equations, sets_in_parts}
use Rattle.template_parts.specs.Builders.{and_of, clear_or, not_of, read_of, set_of}
use Rattle.template_parts.specs.Fetching.{fetch_of, fetched_value_of, reach_of, types_fetched, types_reached, writing_of}
use Rattle.template_parts.proofs.FetchBounds.{reached_fewer}
use Rattle.template_parts.proofs.FetchOrder.{fetch_disorder, fetch_sets, fetched_misses, misses, reach_disorder, reach_sets, writing_disorder, writing_sets}
use Rattle.bit_templates.specs.Bits.{and_joined, answer_of, assigned_of, behind_check, check_of, checked_bit_of, edge_at, edge_of, falling, next_rlo, reset_value, rising, rlo_before_and, rlo_before_or, rlo_set, running_chain, set_value, store_of, stored_of, types_checked, types_of_edge}
use Rattle.bit_templates.specs.Brackets.{behind_close, bracket_at, close_of, open_of}

-- Checks

pub answer_misses : (low n : ℕ) (t : Test) → misses low n (answer_of t) ≡ 0
answer_misses low n test.Eq = simp order_equations
answer_misses low n test.Ne = simp order_equations
answer_misses low n test.Gt = simp order_equations
answer_misses low n test.Lt = simp order_equations
answer_misses low n test.Ge = simp order_equations
answer_misses low n test.Le = simp order_equations
answer_misses low n test.Uo = simp order_equations
answer_misses low n test.Ov = simp order_equations
answer_misses low n test.Os = simp order_equations
answer_misses low n test.Br = simp order_equations

-- what operators miss
both_misses : (low n : ℕ) (op : BinaryOp) (e f : Expr) → misses low n (expr.Binary op e f) ≡ misses low n e + misses low n f
both_misses low n op e f = ap (missed low n) (reads_of_binary op e f) ∙ missed_in_parts low n (reads_of e) (reads_of f)

not_misses : (low n : ℕ) (e : Expr) → misses low n (not_of e) ≡ misses low n e
not_misses low n e = ap (missed low n) (reads_of_unary unary.Not e)

register_misses : (low n : ℕ) (r : Reg) → misses low n (read_of r) ≡ 0
register_misses low n r = ap (missed low n) (reads_of_read (var.Register r))

before_and_misses : (low n : ℕ) → misses low n (rlo_before_and running_chain) ≡ 0
before_and_misses low n =
    omega (
      arith,
      both_misses low n binary.Or (read_of reg.Rlo) (not_of (read_of reg.Nfc)),
      not_misses low n (read_of reg.Nfc),
      register_misses low n reg.Rlo,
      register_misses low n reg.Nfc,
    )

before_or_misses : (low n : ℕ) → misses low n (rlo_before_or running_chain) ≡ 0
before_or_misses low n =
    omega (arith, both_misses low n binary.And (read_of reg.Rlo) (read_of reg.Nfc), register_misses low n reg.Rlo, register_misses low n reg.Nfc)

joined_misses : (low n : ℕ) (e : Expr) → misses low n e ≡ 0 → misses low n (and_joined running_chain e) ≡ 0
joined_misses low n e h =
    omega (
      arith,
      both_misses low n binary.Or (and_of (rlo_before_and running_chain) e) (read_of reg.Orb),
      both_misses low n binary.And (rlo_before_and running_chain) e,
      before_and_misses low n,
      register_misses low n reg.Orb,
      h,
    )

check_misses : (low n : ℕ) (c : Check) (e : Expr) → misses low n e ≡ 0 → misses low n (next_rlo running_chain c e) ≡ 0
check_misses low n check.A e h = joined_misses low n e h
check_misses low n check.An e h = joined_misses low n (not_of e) (not_misses low n e ∙ h)
check_misses low n check.O e h = omega (arith, both_misses low n binary.Or (rlo_before_or running_chain) e, before_or_misses low n, h)
check_misses low n check.On e h =
    omega (arith, both_misses low n binary.Or (rlo_before_or running_chain) (not_of e), before_or_misses low n, not_misses low n e, h)
check_misses low n check.X e h = omega (arith, both_misses low n binary.Xor (rlo_before_or running_chain) e, before_or_misses low n, h)
check_misses low n check.Xn e h =
    omega (arith, both_misses low n binary.Xor (rlo_before_or running_chain) (not_of e), before_or_misses low n, not_misses low n e, h)

cleared_disorder : (low n : ℕ) (b : Bool) → disorder low n (clear_or b) ≡ 0
cleared_disorder low n b = simp order_equations

behind_disorder : (low n : ℕ) (c : Check) → disorder low n (behind_check c) ≡ 0
behind_disorder low n check.A = simp order_equations
behind_disorder low n check.An = simp order_equations
behind_disorder low n check.O = cleared_disorder low n true
behind_disorder low n check.On = cleared_disorder low n true
behind_disorder low n check.X = cleared_disorder low n true
behind_disorder low n check.Xn = cleared_disorder low n true

behind_sets : (c : Check) → locals_set (behind_check c) ≡ 0
behind_sets check.A = refl
behind_sets check.An = refl
behind_sets check.O = refl
behind_sets check.On = refl
behind_sets check.X = refl
behind_sets check.Xn = refl

checked_disorder : (low n : ℕ) (c : Check) (e : Expr) → misses low n e ≡ 0 → disorder low n (check_of c e) ≡ 0
checked_disorder low n c e h = omega (arith, check_misses low n c e h, behind_disorder low n c)

pub check_disorder : (first : ℕ) (c : Check) (b : BitArg) → disorder first first (checked_bit_of first c b) ≡ 0
check_disorder first c (arg.At o) =
    disorder_in_parts first first (fetch_of first o width.Bit) (check_of c (fetched_value_of first o width.Bit)) (fetch_disorder first o width.Bit)
    (checked_disorder first (first + locals_set (fetch_of first o width.Bit)) c (fetched_value_of first o width.Bit)
    (fetched_misses first o width.Bit (first + locals_set (fetch_of first o width.Bit)) (omega (arith, fetch_sets first o width.Bit))))
check_disorder first c (arg.Flag t) = checked_disorder first first c (answer_of t) (answer_misses first first t)

pub check_sets : (first : ℕ) (c : Check) (b : BitArg) → locals_set (checked_bit_of first c b) ≡ length (types_checked b)
check_sets first c (arg.At o) =
    omega (arith, sets_in_parts (fetch_of first o width.Bit) (check_of c (fetched_value_of first o width.Bit)), fetch_sets first o width.Bit, behind_sets c)
check_sets first c (arg.Flag t) = behind_sets c

-- Bits

store_disorder : (n first : ℕ) (o : Operand) (e : Expr) → first + length (types_reached o) ≤ n
    → misses first n e ≡ 0 → disorder first n (store_of first o e) ≡ 0
store_disorder n first o e h k = writing_disorder n first o width.Bit e (clear_or false) h k (cleared_disorder first n false)

store_sets : (first : ℕ) (o : Operand) (e : Expr) → locals_set (store_of first o e) ≡ 0
store_sets first o e = writing_sets first o width.Bit e (clear_or false)

rlo_misses : (low n : ℕ) → misses low n (read_of reg.Rlo) ≡ 0
rlo_misses low n = simp order_equations

pub assign_disorder : (first : ℕ) (o : Operand) → disorder first first (assigned_of first o) ≡ 0
assign_disorder first o =
    let n : ℕ = first + locals_set (reach_of first o) in
    disorder_in_parts first first (reach_of first o) (store_of first o (read_of reg.Rlo)) (reach_disorder first o)
    (store_disorder n first o (read_of reg.Rlo) (omega (arith, reach_sets first o)) (rlo_misses first n))

pub assign_sets : (first : ℕ) (o : Operand) → locals_set (assigned_of first o) ≡ length (types_reached o)
assign_sets first o =
    omega (arith, sets_in_parts (reach_of first o) (store_of first o (read_of reg.Rlo)), reach_sets first o, store_sets first o (read_of reg.Rlo))

-- a value of a bit reads no local but that of the bit
abbrev AddsNone : (Expr → Expr) → Type 0
AddsNone value = (low n : ℕ) (e : Expr) → misses low n e ≡ 0 → misses low n (value e) ≡ 0

pub set_adds : AddsNone set_value
set_adds low n e h = both_misses low n binary.Or e (read_of reg.Rlo) ∙ omega (arith, register_misses low n reg.Rlo, h)

pub reset_adds : AddsNone reset_value
reset_adds low n e h =
    both_misses low n binary.And e (not_of (read_of reg.Rlo)) ∙ omega (arith, not_misses low n (read_of reg.Rlo), register_misses low n reg.Rlo, h)

pub rising_adds : AddsNone rising
rising_adds low n e h = both_misses low n binary.And (read_of reg.Rlo) (not_of e) ∙ omega (arith, not_misses low n e, register_misses low n reg.Rlo, h)

pub falling_adds : AddsNone falling
falling_adds low n e h =
    both_misses low n binary.And (not_of (read_of reg.Rlo)) e ∙ omega (arith, not_misses low n (read_of reg.Rlo), register_misses low n reg.Rlo, h)

pub stored_disorder : (first : ℕ) (o : Operand) (value : Expr → Expr) → AddsNone value → disorder first first (stored_of first o value) ≡ 0
stored_disorder first o value adds =
    let n : ℕ = first + locals_set (fetch_of first o width.Bit) in
    let bit : Expr = fetched_value_of first o width.Bit in
    let more = reached_fewer o width.Bit in
    disorder_in_parts first first (fetch_of first o width.Bit) (store_of first o (value bit)) (fetch_disorder first o width.Bit)
    (store_disorder n first o (value bit) (omega (arith, fetch_sets first o width.Bit, more))
    (adds first n bit (fetched_misses first o width.Bit n (omega (arith, fetch_sets first o width.Bit)))))

pub stored_sets : (first : ℕ) (o : Operand) (value : Expr → Expr) → locals_set (stored_of first o value) ≡ length (types_fetched o width.Bit)
stored_sets first o value =
    let e : Expr = value (fetched_value_of first o width.Bit) in
    omega (arith, sets_in_parts (fetch_of first o width.Bit) (store_of first o e), fetch_sets first o width.Bit, store_sets first o e)

pub rlo_set_disorder : (first : ℕ) (b : Bool) → disorder first first (rlo_set b) ≡ 0
rlo_set_disorder first b = simp order_equations

-- Edges

edge_disorder : (n first : ℕ) (o : Operand) (e : Expr) → first + length (types_reached o) ≤ n
    → misses first n e ≡ 0 → disorder first n (edge_of first o n e) ≡ 0
edge_disorder n first o e h k =
    let last : List Stmt = set_of reg.Rlo (expr.Read (var.Local n)) ∷ clear_or true in
    let end : disorder first (suc n) last ≡ 0 = simp order_equations (omega (arith, h)) in
    let rest : disorder first (suc n) (writing_of first o width.Bit (read_of reg.Rlo) ∷ last) ≡ 0 =
    writing_disorder (suc n) first o width.Bit (read_of reg.Rlo) last (omega (arith, h)) (rlo_misses first (suc n)) end in
    omega (arith, k, rest)

edge_sets : (first : ℕ) (o : Operand) (i : ℕ) (e : Expr) → locals_set (edge_of first o i e) ≡ 1
edge_sets first o i e = ap suc (writing_sets first o width.Bit (read_of reg.Rlo) (set_of reg.Rlo (expr.Read (var.Local i)) ∷ clear_or true))

pub edge_at_disorder : (first : ℕ) (o : Operand) (value : Expr → Expr) → AddsNone value → disorder first first (edge_at first o value) ≡ 0
edge_at_disorder first o value adds =
    let n : ℕ = first + length (types_fetched o width.Bit) in
    let bit : Expr = fetched_value_of first o width.Bit in
    let more = reached_fewer o width.Bit in
    disorder_in_parts first first (fetch_of first o width.Bit) (edge_of first o n (value bit)) (fetch_disorder first o width.Bit)
    (ap (λ (k : ℕ). disorder first (first + k) (edge_of first o n (value bit))) (fetch_sets first o width.Bit)
    ∙ edge_disorder n first o (value bit) (omega (arith, more)) (adds first n bit (fetched_misses first o width.Bit n (omega arith))))

pub edge_at_sets : (first : ℕ) (o : Operand) (value : Expr → Expr) → locals_set (edge_at first o value) ≡ length (types_of_edge o)
edge_at_sets first o value =
    let n : ℕ = first + length (types_fetched o width.Bit) in
    let e : Expr = value (fetched_value_of first o width.Bit) in
    omega (
      arith,
      sets_in_parts (fetch_of first o width.Bit) (edge_of first o n e),
      fetch_sets first o width.Bit,
      edge_sets first o n e,
      length-append (types_fetched o width.Bit) (type.Bool ∷ []),
    )

-- Brackets

pub open_disorder : (first : ℕ) → disorder first first (open_of first) ≡ 0
open_disorder first = simp order_equations (omega arith)

close_behind : (n kept : ℕ) (c : Check) → kept + 3 ≤ n → disorder kept n (behind_close c (var.Local (kept + 1))) ≡ 0
close_behind n kept check.A h = simp order_equations (omega arith)
close_behind n kept check.An h = simp order_equations (omega arith)
close_behind n kept check.O h = cleared_disorder kept n true
close_behind n kept check.On h = cleared_disorder kept n true
close_behind n kept check.X h = cleared_disorder kept n true
close_behind n kept check.Xn h = cleared_disorder kept n true

close_misses : (n kept : ℕ) (c : Check) → kept + 3 ≤ n → misses kept n (next_rlo (bracket_at kept c).kept c (read_of reg.Rlo)) ≡ 0
close_misses n kept check.A h = simp order_equations (omega arith)
close_misses n kept check.An h = simp order_equations (omega arith)
close_misses n kept check.O h = simp order_equations (omega arith)
close_misses n kept check.On h = simp order_equations (omega arith)
close_misses n kept check.X h = simp order_equations (omega arith)
close_misses n kept check.Xn h = simp order_equations (omega arith)

pub close_disorder : (n kept : ℕ) (c : Check) → kept + 3 ≤ n → disorder kept n (close_of (bracket_at kept c)) ≡ 0
close_disorder n kept c h = omega (arith, close_misses n kept c h, close_behind n kept c h)

pub close_sets : (kept : ℕ) (c : Check) → locals_set (close_of (bracket_at kept c)) ≡ 0
close_sets kept check.A = refl
close_sets kept check.An = refl
close_sets kept check.O = refl
close_sets kept check.On = refl
close_sets kept check.X = refl
close_sets kept check.Xn = refl
