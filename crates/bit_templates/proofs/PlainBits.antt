-- The statements of bit logic are well typed and nest little, their expressions are low, and they call nothing.
use Rattle.std.proofs.Common.{◌≡◌, ℕ, ◌+◌, Bool, true, false, List, [], ◌∷◌, ◌++◌, length, Some, refl, ap, arith}
use Rattle.s7_base.specs.declared.check.Check.{Check}
use Rattle.s7_base.specs.declared.check.Check.TheVariants as check
use Rattle.s7_base.specs.declared.register.Reg.{Reg}
use Rattle.s7_base.specs.declared.register.Reg.TheVariants as reg
use Rattle.s7_base.specs.declared.word.Width.TheVariants as width
use Rattle.status_word.specs.declared.test.Test.{Test}
use Rattle.status_word.specs.declared.test.Test.TheVariants as test
use Rattle.st_tree.specs.State.{type_of_register}
use Rattle.st_tree.specs.WellTyped.{UnitScope, variable_type}
use Rattle.st_tree.specs.declared.expr.Expr.{Expr}
use Rattle.st_tree.specs.declared.expr.Expr.TheVariants as expr
use Rattle.st_tree.specs.declared.expr.StType.{StType}
use Rattle.st_tree.specs.declared.expr.StType.TheVariants as type
use Rattle.st_tree.specs.declared.expr.Var.{Var}
use Rattle.st_tree.specs.declared.expr.Var.TheVariants as var
use Rattle.st_tree.specs.declared.program.Stmt.{Stmt}
use Rattle.stl_tree.specs.Accepted.{HasOperand, IsOperand, Widths}
use Rattle.stl_tree.specs.declared.program.BitArg.TheVariants as arg
use Rattle.stl_tree.specs.declared.program.Operand.{Operand}
use Rattle.template_parts.specs.Builders.{and_of, clear_or, literal_of, not_of, read_of, set_of}
use Rattle.bit_templates.specs.Bits.{and_joined, answer_of, assigned_of, behind_check, check_of, checked_bit_of, edge_at, edge_of, falling, inverted_of, keep_of, next_rlo, or_alone_of, reset_value, rising, rlo_before_and, rlo_before_or, rlo_set, running_chain, saved_of, set_value, store_of, stored_of, types_checked, types_of_edge}
use Rattle.bit_templates.specs.Brackets.{behind_close, chain_at, close_of, open_of, types_of_bracket}
use Rattle.stl_tree.specs.declared.program.BitArg.{BitArg}
use Rattle.stl_tree.specs.declared.program.Op.TheVariants as op
use Rattle.template_parts.specs.Fetching.{fetched_value_of, types_fetched, types_reached, writing_of}
use Rattle.template_parts.proofs.FetchBounds.{fetch_plain, fetched_is, reach_plain, way_typed, writing_plain}
use Rattle.template_parts.proofs.Typing.{IsBool, and_is, assigned, cleared_plain, first_typed, left_typed, literal_is, local_is, more, nfc_plain, not_is, or_is, read_is, register_is, right_typed, set_plain, xor_is}
use Rattle.template_parts.specs.Templates.{AreTyped, HasFormals, IsPlainBody}
use Rattle.bit_templates.specs.declared.chain.Chain.{Chain}
use Rattle.bit_templates.specs.declared.chain.OpenBracket.{OpenBracket}

module _ (sight : UnitScope) where
  -- What is checked

  register_bool : (r : Reg) → type_of_register r ≡ type.Bool → IsBool sight 1 (read_of r)
  register_bool r h = read_is sight (var.Register r) (ap Some h)

  cc1 : IsBool sight 1 (read_of reg.Cc1)
  cc1 = register_is sight reg.Cc1

  cc0 : IsBool sight 1 (read_of reg.Cc0)
  cc0 = register_is sight reg.Cc0

  pub answer_bool : (t : Test) → IsBool sight 4 (answer_of t)
  answer_bool test.Eq = more sight (omega arith) (and_is sight (not_is sight cc1) (not_is sight cc0))
  answer_bool test.Ne = more sight (omega arith) (xor_is sight cc1 cc0)
  answer_bool test.Gt = more sight (omega arith) (and_is sight cc1 (not_is sight cc0))
  answer_bool test.Lt = more sight (omega arith) (and_is sight (not_is sight cc1) cc0)
  answer_bool test.Ge = more sight (omega arith) (not_is sight cc0)
  answer_bool test.Le = more sight (omega arith) (not_is sight cc1)
  answer_bool test.Uo = more sight (omega arith) (and_is sight cc1 cc0)
  answer_bool test.Ov = more sight (omega arith) (register_is sight reg.Ov)
  answer_bool test.Os = more sight (omega arith) (register_is sight reg.Os)
  answer_bool test.Br = more sight (omega arith) (register_is sight reg.Br)

  -- the locals of the way to a bit have their types, and those of one that is checked or stored
  abbrev HasWay : ℕ → Operand → Type 0
  HasWay used o = AreTyped sight used (types_reached o)

  abbrev HasLocal : ℕ → Operand → Type 0
  HasLocal used o = AreTyped sight used (types_fetched o width.Bit)

  bit_is : (formals : Widths) → HasFormals sight formals → (used : ℕ) (o : Operand)
      → IsOperand formals width.Bit o → HasLocal used o → IsBool sight 1 (fetched_value_of used o width.Bit)
  bit_is formals named used o h own = fetched_is sight formals named used o width.Bit h own

  -- Chains

  -- the variables of a chain are BOOLs
  pub record IsBoolChain (chain : Chain) : Type 0 where
    pub rlo : IsBool sight 1 (expr.Read chain.rlo)
    pub nfc : IsBool sight 1 (expr.Read chain.nfc)
    pub orb : IsBool sight 1 (expr.Read chain.orb)

  chain_bool : IsBoolChain running_chain
  chain_bool = record { rlo = register_is sight reg.Rlo; nfc = register_is sight reg.Nfc; orb = register_is sight reg.Orb }

  module _ (chain : Chain) (bool : IsBoolChain chain) where
    before_and : IsBool sight 3 (rlo_before_and chain)
    before_and = or_is sight bool.rlo (not_is sight bool.nfc)

    before_or : IsBool sight 2 (rlo_before_or chain)
    before_or = and_is sight bool.rlo bool.nfc

    joined_bool : (e : Expr) → IsBool sight 6 e → IsBool sight 8 (and_joined chain e)
    joined_bool e h = or_is sight (and_is sight before_and h) bool.orb

    next_bool : (c : Check) (e : Expr) → IsBool sight 4 e → IsBool sight 8 (next_rlo chain c e)
    next_bool check.A e h = joined_bool e (more sight (omega arith) h)
    next_bool check.An e h = joined_bool (not_of e) (more sight (omega arith) (not_is sight h))
    next_bool check.O e h = more sight (omega arith) (or_is sight before_or h)
    next_bool check.On e h = more sight (omega arith) (or_is sight before_or (not_is sight h))
    next_bool check.X e h = more sight (omega arith) (xor_is sight before_or h)
    next_bool check.Xn e h = more sight (omega arith) (xor_is sight before_or (not_is sight h))

  -- Statements

  check_plain : (c : Check) (rest : List Stmt) → IsPlainBody sight rest → IsPlainBody sight (behind_check c ++ rest)
  check_plain check.A rest plain = nfc_plain sight true rest plain
  check_plain check.An rest plain = nfc_plain sight true rest plain
  check_plain check.O rest plain = cleared_plain sight true rest plain
  check_plain check.On rest plain = cleared_plain sight true rest plain
  check_plain check.X rest plain = cleared_plain sight true rest plain
  check_plain check.Xn rest plain = cleared_plain sight true rest plain

  checked_plain : (c : Check) (e : Expr) (rest : List Stmt) → IsBool sight 4 e → IsPlainBody sight rest → IsPlainBody sight (check_of c e ++ rest)
  checked_plain c e rest h plain =
      set_plain sight reg.Rlo (next_rlo running_chain c e) (behind_check c ++ rest)
      (omega arith) (next_bool running_chain chain_bool c e h) (check_plain c rest plain)

  put_back : (v : Var) (rest : List Stmt) → IsBool sight 1 (expr.Read v) → IsPlainBody sight rest
      → IsPlainBody sight (set_of reg.Orb (expr.Read v) ∷ set_of reg.Nfc (literal_of true) ∷ rest)
  put_back v rest h plain = set_plain sight reg.Orb (expr.Read v) (set_of reg.Nfc (literal_of true) ∷ rest) (omega arith) h (nfc_plain sight true rest plain)

  close_plain : (c : Check) (v : Var) (rest : List Stmt) → IsBool sight 1 (expr.Read v) → IsPlainBody sight rest → IsPlainBody sight (behind_close c v ++ rest)
  close_plain check.A v rest h plain = put_back v rest h plain
  close_plain check.An v rest h plain = put_back v rest h plain
  close_plain check.O v rest h plain = cleared_plain sight true rest plain
  close_plain check.On v rest h plain = cleared_plain sight true rest plain
  close_plain check.X v rest h plain = cleared_plain sight true rest plain
  close_plain check.Xn v rest h plain = cleared_plain sight true rest plain

  -- a bit takes a value
  store_plain : (formals : Widths) → HasFormals sight formals → (used : ℕ) (o : Operand) (e : Expr) (rest : List Stmt)
      → IsOperand formals width.Bit o → HasWay used o → IsBool sight 4 e → IsPlainBody sight rest
      → IsPlainBody sight (store_of used o e ++ rest)
  store_plain formals named used o e rest h way k plain =
      writing_plain sight formals named used o width.Bit e (clear_or false ++ rest) (omega arith) h way k (cleared_plain sight false rest plain)

  rlo_bool : IsBool sight 1 (read_of reg.Rlo)
  rlo_bool = register_is sight reg.Rlo

  -- Brackets

  -- a bracket that is closed
  pub bracket_plain : (o : OpenBracket) (rest : List Stmt) → IsBoolChain o.kept → IsPlainBody sight rest → IsPlainBody sight (close_of o ++ rest)
  bracket_plain o rest h plain =
      set_plain sight reg.Rlo (next_rlo o.kept o.check (read_of reg.Rlo)) (behind_close o.check o.kept.orb ++ rest) (omega arith)
      (next_bool o.kept h o.check (read_of reg.Rlo) (more sight (omega arith) rlo_bool))
      (close_plain o.check o.kept.orb rest h.orb plain)

  edge_plain : (formals : Widths) → HasFormals sight formals → (used : ℕ) (o : Operand) (i : ℕ) (e : Expr) (rest : List Stmt)
      → variable_type sight (var.Local i) ≡ Some type.Bool → IsOperand formals width.Bit o → HasWay used o → IsBool sight 4 e
      → IsPlainBody sight rest → IsPlainBody sight (edge_of used o i e ++ rest)
  edge_plain formals named used o i e rest own h way k plain =
      assigned sight (var.Local i) e
      (writing_of used o width.Bit (read_of reg.Rlo) ∷ set_of reg.Rlo (expr.Read (var.Local i)) ∷ clear_or true ++ rest) (omega arith) own k
      (writing_plain sight formals named used o width.Bit (read_of reg.Rlo)
      (set_of reg.Rlo (expr.Read (var.Local i)) ∷ clear_or true ++ rest) (omega arith) h way rlo_bool
      (set_plain sight reg.Rlo (expr.Read (var.Local i)) (clear_or true ++ rest) (omega arith) (local_is sight own) (cleared_plain sight true rest plain)))

  -- FP and FN, by the value that they make of the edge bit
  edge_at_plain : (formals : Widths) → HasFormals sight formals → (used : ℕ) (o : Operand) (value : Expr → Expr) (rest : List Stmt)
      → IsOperand formals width.Bit o → AreTyped sight used (types_of_edge o)
      → (IsBool sight 1 (fetched_value_of used o width.Bit) → IsBool sight 4 (value (fetched_value_of used o width.Bit))) → IsPlainBody sight rest
      → IsPlainBody sight (edge_at used o value ++ rest)
  edge_at_plain formals named used o value rest h own worth plain =
      let types : List StType = types_fetched o width.Bit in
      let later : ℕ = used + length types in
      let e : Expr = value (fetched_value_of used o width.Bit) in
      let fetched : HasLocal used o = left_typed sight used types (type.Bool ∷ []) own in
      let kept : AreTyped sight later (type.Bool ∷ []) = right_typed sight used later types (type.Bool ∷ []) refl own in
      fetch_plain sight formals named used o width.Bit (edge_of used o later e) rest h fetched
      (edge_plain formals named used o later e rest (first_typed sight later type.Bool [] kept) h
      (way_typed sight formals named used o width.Bit fetched) (worth (bit_is formals named used o h fetched)) plain)

  keep_plain : (i : ℕ) (r : Reg) (rest : List Stmt) → variable_type sight (var.Local i) ≡ Some type.Bool
      → type_of_register r ≡ type.Bool → IsPlainBody sight rest
      → IsPlainBody sight (keep_of i r ∷ rest)
  keep_plain i r rest own h plain = assigned sight (var.Local i) (read_of r) rest (omega arith) own (register_bool r h) plain

  pub open_plain : (first : ℕ) (rest : List Stmt) → AreTyped sight first types_of_bracket → IsPlainBody sight rest → IsPlainBody sight (open_of first ++ rest)
  open_plain first rest own plain =
      keep_plain first reg.Rlo (keep_of (first + 1) reg.Orb ∷ keep_of (first + 2) reg.Nfc ∷ clear_or false ++ rest)
      (first_typed sight first type.Bool (type.Bool ∷ type.Bool ∷ []) own) refl
      (keep_plain (first + 1) reg.Orb (keep_of (first + 2) reg.Nfc ∷ clear_or false ++ rest) (own 1 type.Bool refl) refl
      (keep_plain (first + 2) reg.Nfc (clear_or false ++ rest) (own 2 type.Bool refl) refl (cleared_plain sight false rest plain)))

  -- what is checked, and kept
  pub check_plain_at : (formals : Widths) → HasFormals sight formals → (c : Check) (b : BitArg) (first : ℕ) (rest : List Stmt)
      → HasOperand formals (op.Check c b) → AreTyped sight first (types_checked b) → IsPlainBody sight rest
      → IsPlainBody sight (checked_bit_of first c b ++ rest)
  check_plain_at formals named c (arg.At o) first rest h own plain =
      let bit : Expr = fetched_value_of first o width.Bit in
      fetch_plain sight formals named first o width.Bit (check_of c bit) rest h own
      (checked_plain c bit rest (more sight (omega arith) (bit_is formals named first o h own)) plain)
  check_plain_at formals named c (arg.Flag t) first rest h own plain = checked_plain c (answer_of t) rest (answer_bool t) plain

  pub or_alone_plain : (rest : List Stmt) → IsPlainBody sight rest → IsPlainBody sight (or_alone_of ++ rest)
  or_alone_plain rest plain =
      set_plain sight reg.Orb (and_of (read_of reg.Rlo) (read_of reg.Nfc)) (set_of reg.Nfc (literal_of false) ∷ rest) (omega arith)
      (and_is sight rlo_bool (register_is sight reg.Nfc)) (nfc_plain sight false rest plain)

  pub assign_plain : (formals : Widths) → HasFormals sight formals → (first : ℕ) (o : Operand) (rest : List Stmt) → IsOperand formals width.Bit o
      → HasWay first o → IsPlainBody sight rest → IsPlainBody sight (assigned_of first o ++ rest)
  assign_plain formals named first o rest h own plain =
      let row : List Stmt = store_of first o (read_of reg.Rlo) in
      reach_plain sight formals named first o width.Bit row rest h own
      (store_plain formals named first o (read_of reg.Rlo) rest h own (more sight (omega arith) rlo_bool) plain)

  -- S and R, by the value that they make of the bit
  stored_plain : (formals : Widths) → HasFormals sight formals
      → (first : ℕ) (o : Operand) (value : Expr → Expr) (rest : List Stmt) → IsOperand formals width.Bit o → HasLocal first o
      → IsBool sight 4 (value (fetched_value_of first o width.Bit)) → IsPlainBody sight rest → IsPlainBody sight (stored_of first o value ++ rest)
  stored_plain formals named first o value rest h own worth plain =
      let e : Expr = value (fetched_value_of first o width.Bit) in
      fetch_plain sight formals named first o width.Bit (store_of first o e) rest h own
      (store_plain formals named first o e rest h (way_typed sight formals named first o width.Bit own) worth plain)

  pub set_plain_at : (formals : Widths) → HasFormals sight formals → (first : ℕ) (o : Operand) (rest : List Stmt) → IsOperand formals width.Bit o
      → HasLocal first o → IsPlainBody sight rest → IsPlainBody sight (stored_of first o set_value ++ rest)
  set_plain_at formals named first o rest h own plain =
      stored_plain formals named first o set_value rest h own (more sight (omega arith) (or_is sight (bit_is formals named first o h own) rlo_bool)) plain

  pub reset_plain : (formals : Widths) → HasFormals sight formals
      → (first : ℕ) (o : Operand) (rest : List Stmt) → IsOperand formals width.Bit o → HasLocal first o
      → IsPlainBody sight rest → IsPlainBody sight (stored_of first o reset_value ++ rest)
  reset_plain formals named first o rest h own plain =
      stored_plain formals named first o reset_value rest h own
      (more sight (omega arith) (and_is sight (bit_is formals named first o h own) (not_is sight rlo_bool))) plain

  pub rlo_set_plain : (b : Bool) (rest : List Stmt) → IsPlainBody sight rest → IsPlainBody sight (rlo_set b ++ rest)
  rlo_set_plain b rest plain =
      set_plain sight reg.Rlo (literal_of b) (clear_or false ++ rest) (omega arith) (literal_is sight b) (cleared_plain sight false rest plain)

  pub inverted_plain : (rest : List Stmt) → IsPlainBody sight rest → IsPlainBody sight (inverted_of ++ rest)
  inverted_plain rest plain = set_plain sight reg.Rlo (not_of (read_of reg.Rlo)) rest (omega arith) (not_is sight rlo_bool) plain

  pub saved_plain : (rest : List Stmt) → IsPlainBody sight rest → IsPlainBody sight (saved_of ++ rest)
  saved_plain rest plain = set_plain sight reg.Br (read_of reg.Rlo) rest (omega arith) rlo_bool plain

  pub up_plain : (formals : Widths) → HasFormals sight formals → (first : ℕ) (o : Operand) (rest : List Stmt) → IsOperand formals width.Bit o
      → AreTyped sight first (types_of_edge o) → IsPlainBody sight rest → IsPlainBody sight (edge_at first o rising ++ rest)
  up_plain formals named first o rest h own plain =
      edge_at_plain formals named first o rising rest h own (λ bit. more sight (omega arith) (and_is sight rlo_bool (not_is sight bit))) plain

  pub down_plain : (formals : Widths) → HasFormals sight formals → (first : ℕ) (o : Operand) (rest : List Stmt) → IsOperand formals width.Bit o
      → AreTyped sight first (types_of_edge o) → IsPlainBody sight rest → IsPlainBody sight (edge_at first o falling ++ rest)
  down_plain formals named first o rest h own plain =
      edge_at_plain formals named first o falling rest h own (λ bit. more sight (omega arith) (and_is sight (not_is sight rlo_bool) bit)) plain

  -- the three locals of a bracket are BOOLs
  pub bracket_bool : (first : ℕ) → AreTyped sight first types_of_bracket → IsBoolChain (chain_at first)
  bracket_bool first own =
      record {
        rlo = local_is sight (first_typed sight first type.Bool (type.Bool ∷ type.Bool ∷ []) own);
        nfc = local_is sight (own 2 type.Bool refl);
        orb = local_is sight (own 1 type.Bool refl);
      }
