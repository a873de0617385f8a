-- The statements of bit logic read no register variable that their instruction doesn't read.
use Rattle.std.proofs.Common.{ℕ, ◌+◌, Bool, true, false, List, [], ◌∷◌, ◌++◌, length, inl, inr, refl}
use Rattle.s7_base.specs.declared.check.Check.{Check}
use Rattle.s7_base.specs.declared.check.Check.TheVariants as check
use Rattle.s7_base.specs.declared.register.Reg.{Reg}
use Rattle.s7_base.specs.declared.register.Reg.TheVariants as reg
use Rattle.status_word.specs.declared.test.Test.{Test}
use Rattle.status_word.specs.declared.test.Test.TheVariants as test
use Rattle.st_tree.specs.declared.expr.BinaryOp.TheVariants as binary
use Rattle.st_tree.specs.declared.expr.Expr.{Expr}
use Rattle.st_tree.specs.declared.expr.Expr.TheVariants as expr
use Rattle.st_tree.specs.declared.expr.Var.{Var}
use Rattle.st_tree.specs.declared.expr.Var.TheVariants as var
use Rattle.st_tree.specs.declared.program.Stmt.{Stmt}
use Rattle.stl_tree.specs.Reads.{asked_by, chain_read, found_by, reads_of}
use Rattle.stl_tree.specs.declared.program.BitArg.TheVariants as arg
use Rattle.stl_tree.specs.declared.program.Operand.{Operand}
use Rattle.s7_base.specs.declared.word.Width.TheVariants as width
use Rattle.template_parts.specs.Fetching.{fetched_value_of, types_fetched, writing_of}
use Rattle.template_parts.proofs.FetchBounds.{fetch_reads, fetched_reads, reach_reads, writing_reads}
use Rattle.template_parts.proofs.ReadRegisters.{AllRead, Has, Reads, assigned_reads, cleared_reads, has_left, has_right, joined_reads, literal_reads, local_reads, nfc_reads, not_reads, register_reads, variables_read}
use Rattle.bit_templates.specs.declared.chain.Chain.{Chain}
use Rattle.bit_templates.specs.declared.chain.OpenBracket.{OpenBracket}
use Rattle.template_parts.specs.Builders.{and_of, clear_or, literal_of, not_of, or_of, read_of, set_of, xor_of}
use Rattle.bit_templates.specs.Bits.{and_joined, answer_of, assigned_of, behind_check, check_of, checked_bit_of, edge_at, edge_of, falling, inverted_of, next_rlo, or_alone_of, reset_value, rising, rlo_before_and, rlo_before_or, rlo_set, running_chain, saved_of, set_value, store_of, stored_of}
use Rattle.bit_templates.specs.Brackets.{behind_close, chain_at, close_of, open_of}
use Rattle.stl_tree.specs.declared.program.BitArg.{BitArg}
use Rattle.stl_tree.specs.declared.program.Op.TheVariants as op

module _ (P : Reg → Type 0) where
  pub answer_reads : (t : Test) → Has P (asked_by t) → Reads P (answer_of t)
  answer_reads test.Eq h =
      joined_reads P binary.And (not_of (read_of reg.Cc1)) (not_of (read_of reg.Cc0))
      (not_reads P (read_of reg.Cc1) (register_reads P reg.Cc1 (h reg.Cc1 (inl refl))))
      (not_reads P (read_of reg.Cc0) (register_reads P reg.Cc0 (h reg.Cc0 (inr (inl refl)))))
  answer_reads test.Ne h =
      joined_reads P binary.Xor (read_of reg.Cc1) (read_of reg.Cc0)
      (register_reads P reg.Cc1 (h reg.Cc1 (inl refl))) (register_reads P reg.Cc0 (h reg.Cc0 (inr (inl refl))))
  answer_reads test.Gt h =
      joined_reads P binary.And (read_of reg.Cc1) (not_of (read_of reg.Cc0)) (register_reads P reg.Cc1 (h reg.Cc1 (inl refl)))
      (not_reads P (read_of reg.Cc0) (register_reads P reg.Cc0 (h reg.Cc0 (inr (inl refl)))))
  answer_reads test.Lt h =
      joined_reads P binary.And (not_of (read_of reg.Cc1)) (read_of reg.Cc0)
      (not_reads P (read_of reg.Cc1) (register_reads P reg.Cc1 (h reg.Cc1 (inl refl)))) (register_reads P reg.Cc0 (h reg.Cc0 (inr (inl refl))))
  answer_reads test.Ge h = not_reads P (read_of reg.Cc0) (register_reads P reg.Cc0 (h reg.Cc0 (inl refl)))
  answer_reads test.Le h = not_reads P (read_of reg.Cc1) (register_reads P reg.Cc1 (h reg.Cc1 (inl refl)))
  answer_reads test.Uo h =
      joined_reads P binary.And (read_of reg.Cc1) (read_of reg.Cc0)
      (register_reads P reg.Cc1 (h reg.Cc1 (inl refl))) (register_reads P reg.Cc0 (h reg.Cc0 (inr (inl refl))))
  answer_reads test.Ov h = register_reads P reg.Ov (h reg.Ov (inl refl))
  answer_reads test.Os h = register_reads P reg.Os (h reg.Os (inl refl))
  answer_reads test.Br h = register_reads P reg.Br (h reg.Br (inl refl))

  -- Chains

  module _ (chain : Chain) (rlo : Reads P (expr.Read chain.rlo)) (nfc : Reads P (expr.Read chain.nfc)) where
    before_and : Reads P (rlo_before_and chain)
    before_and = joined_reads P binary.Or (expr.Read chain.rlo) (not_of (expr.Read chain.nfc)) rlo (not_reads P (expr.Read chain.nfc) nfc)

    before_or : Reads P (rlo_before_or chain)
    before_or = joined_reads P binary.And (expr.Read chain.rlo) (expr.Read chain.nfc) rlo nfc

    and_reads : (e : Expr) → Reads P (expr.Read chain.orb) → Reads P e → Reads P (and_joined chain e)
    and_reads e orb h =
        joined_reads P binary.Or (and_of (rlo_before_and chain) e) (expr.Read chain.orb) (joined_reads P binary.And (rlo_before_and chain) e before_and h) orb

    or_reads : (e : Expr) → Reads P e → Reads P (or_of (rlo_before_or chain) e)
    or_reads e h = joined_reads P binary.Or (rlo_before_or chain) e before_or h

    xor_reads : (e : Expr) → Reads P e → Reads P (xor_of (rlo_before_or chain) e)
    xor_reads e h = joined_reads P binary.Xor (rlo_before_or chain) e before_or h

  check_reads : (c : Check) (e : Expr) → Has P (chain_read c) → Reads P e → Reads P (next_rlo running_chain c e)
  check_reads check.A e h k =
      and_reads running_chain (register_reads P reg.Rlo (h reg.Rlo (inl refl)))
      (register_reads P reg.Nfc (h reg.Nfc (inr (inl refl)))) e (register_reads P reg.Orb (h reg.Orb (inr (inr (inl refl))))) k
  check_reads check.An e h k =
      and_reads running_chain (register_reads P reg.Rlo (h reg.Rlo (inl refl))) (register_reads P reg.Nfc (h reg.Nfc (inr (inl refl))))
      (not_of e) (register_reads P reg.Orb (h reg.Orb (inr (inr (inl refl))))) (not_reads P e k)
  check_reads check.O e h k =
      or_reads running_chain (register_reads P reg.Rlo (h reg.Rlo (inl refl))) (register_reads P reg.Nfc (h reg.Nfc (inr (inl refl)))) e k
  check_reads check.On e h k =
      or_reads running_chain (register_reads P reg.Rlo (h reg.Rlo (inl refl)))
      (register_reads P reg.Nfc (h reg.Nfc (inr (inl refl)))) (not_of e) (not_reads P e k)
  check_reads check.X e h k =
      xor_reads running_chain (register_reads P reg.Rlo (h reg.Rlo (inl refl))) (register_reads P reg.Nfc (h reg.Nfc (inr (inl refl)))) e k
  check_reads check.Xn e h k =
      xor_reads running_chain (register_reads P reg.Rlo (h reg.Rlo (inl refl)))
      (register_reads P reg.Nfc (h reg.Nfc (inr (inl refl)))) (not_of e) (not_reads P e k)

  -- the variables of a chain are no other registers
  pub record ReadsChain (chain : Chain) : Type 0 where
    pub rlo : Reads P (expr.Read chain.rlo)
    pub nfc : Reads P (expr.Read chain.nfc)
    pub orb : Reads P (expr.Read chain.orb)

  kept_reads : (chain : Chain) (c : Check) (e : Expr) → ReadsChain chain → Reads P e → Reads P (next_rlo chain c e)
  kept_reads chain check.A e h k = and_reads chain h.rlo h.nfc e h.orb k
  kept_reads chain check.An e h k = and_reads chain h.rlo h.nfc (not_of e) h.orb (not_reads P e k)
  kept_reads chain check.O e h k = or_reads chain h.rlo h.nfc e k
  kept_reads chain check.On e h k = or_reads chain h.rlo h.nfc (not_of e) (not_reads P e k)
  kept_reads chain check.X e h k = xor_reads chain h.rlo h.nfc e k
  kept_reads chain check.Xn e h k = xor_reads chain h.rlo h.nfc (not_of e) (not_reads P e k)

  behind_reads : (c : Check) (rest : List Stmt) → AllRead P rest → AllRead P (behind_check c ++ rest)
  behind_reads check.A rest k = nfc_reads P true rest k
  behind_reads check.An rest k = nfc_reads P true rest k
  behind_reads check.O rest k = cleared_reads P true rest k
  behind_reads check.On rest k = cleared_reads P true rest k
  behind_reads check.X rest k = cleared_reads P true rest k
  behind_reads check.Xn rest k = cleared_reads P true rest k

  checked_reads : (c : Check) (e : Expr) (rest : List Stmt) → Has P (chain_read c) → Reads P e → AllRead P rest → AllRead P (check_of c e ++ rest)
  checked_reads c e rest h read k =
      assigned_reads P (var.Register reg.Rlo) (next_rlo running_chain c e) (behind_check c ++ rest) (check_reads c e h read) (behind_reads c rest k)

  closed_reads : (c : Check) (v : Var) (rest : List Stmt) → Reads P (expr.Read v) → AllRead P rest → AllRead P (behind_close c v ++ rest)
  closed_reads check.A v rest h k = assigned_reads P (var.Register reg.Orb) (expr.Read v) (set_of reg.Nfc (literal_of true) ∷ rest) h (nfc_reads P true rest k)
  closed_reads check.An v rest h k = assigned_reads P (var.Register reg.Orb) (expr.Read v) (set_of reg.Nfc (literal_of true) ∷ rest) h (nfc_reads P true rest k)
  closed_reads check.O v rest h k = cleared_reads P true rest k
  closed_reads check.On v rest h k = cleared_reads P true rest k
  closed_reads check.X v rest h k = cleared_reads P true rest k
  closed_reads check.Xn v rest h k = cleared_reads P true rest k

  edge_reads : (used : ℕ) (o : Operand) (i : ℕ) (e : Expr) (rest : List Stmt) → P reg.Rlo → Reads P e → AllRead P rest → AllRead P (edge_of used o i e ++ rest)
  edge_reads used o i e rest rlo h k =
      assigned_reads P (var.Local i) e (writing_of used o width.Bit (read_of reg.Rlo) ∷ set_of reg.Rlo (expr.Read (var.Local i)) ∷ clear_or true ++ rest) h
      (writing_reads P used o width.Bit (read_of reg.Rlo) (set_of reg.Rlo (expr.Read (var.Local i)) ∷ clear_or true ++ rest) (register_reads P reg.Rlo rlo)
      (assigned_reads P (var.Register reg.Rlo) (expr.Read (var.Local i)) (clear_or true ++ rest) (local_reads P i) (cleared_reads P true rest k)))

  store_reads : (used : ℕ) (o : Operand) (e : Expr) (rest : List Stmt) → Reads P e → AllRead P rest → AllRead P (store_of used o e ++ rest)
  store_reads used o e rest h k = writing_reads P used o width.Bit e (clear_or false ++ rest) h (cleared_reads P false rest k)

  -- what a row on a bit reads: what the bit is found by, and the RLO
  finds : (o : Operand) → Has P (found_by o ++ reg.Rlo ∷ []) → Has P (found_by o)
  finds o h = has_left P (found_by o) (reg.Rlo ∷ []) h

  reads_rlo : (o : Operand) → Has P (found_by o ++ reg.Rlo ∷ []) → P reg.Rlo
  reads_rlo o h = has_right P (found_by o) (reg.Rlo ∷ []) h reg.Rlo (inl refl)

  -- Instructions

  module _ (first : ℕ) (rest : List Stmt) (k : AllRead P rest) where
    pub check_reads_at : (c : Check) (b : BitArg) → Has P (reads_of (op.Check c b)) → AllRead P (checked_bit_of first c b ++ rest)
    check_reads_at c (arg.At o) h =
        let bit : Expr = fetched_value_of first o width.Bit in
        fetch_reads P first o width.Bit (check_of c bit) rest (has_left P (found_by o) (chain_read c) h)
        (checked_reads c bit rest (has_right P (found_by o) (chain_read c) h) (fetched_reads P first o width.Bit) k)
    check_reads_at c (arg.Flag t) h =
        checked_reads c (answer_of t) rest (has_right P (asked_by t) (chain_read c) h) (answer_reads t (has_left P (asked_by t) (chain_read c) h)) k

    pub or_alone_reads : Has P (reads_of op.OrAlone) → AllRead P (or_alone_of ++ rest)
    or_alone_reads h = simp variables_read (h reg.Rlo (inl refl), (h reg.Nfc (inr (inl refl)), k))

    pub open_reads : (c : Check) → Has P (reads_of (op.Bracket c)) → AllRead P (open_of first ++ rest)
    open_reads c h = simp variables_read (h reg.Rlo (inl refl), (h reg.Orb (inr (inr (inl refl))), (h reg.Nfc (inr (inl refl)), k)))

    pub close_reads : (o : OpenBracket) → Has P (reads_of op.Close) → ReadsChain o.kept → AllRead P (close_of o ++ rest)
    close_reads o h kept =
        assigned_reads P (var.Register reg.Rlo) (next_rlo o.kept o.check (read_of reg.Rlo)) (behind_close o.check o.kept.orb ++ rest)
        (kept_reads o.kept o.check (read_of reg.Rlo) kept (register_reads P reg.Rlo (h reg.Rlo (inl refl)))) (closed_reads o.check o.kept.orb rest kept.orb k)

    pub bracket_reads : (at : ℕ) → ReadsChain (chain_at at)
    bracket_reads at = record { rlo = local_reads P at; nfc = local_reads P (at + 2); orb = local_reads P (at + 1) }

    pub assign_reads : (o : Operand) → Has P (reads_of (op.Assign o)) → AllRead P (assigned_of first o ++ rest)
    assign_reads o h =
        let row : List Stmt = store_of first o (read_of reg.Rlo) in
        reach_reads P first o row rest (finds o h) (store_reads first o (read_of reg.Rlo) rest (register_reads P reg.Rlo (reads_rlo o h)) k)

    pub set_reads : (o : Operand) → Has P (reads_of (op.Set o)) → AllRead P (stored_of first o set_value ++ rest)
    set_reads o h =
        let bit : Expr = fetched_value_of first o width.Bit in
        fetch_reads P first o width.Bit (store_of first o (set_value bit)) rest (finds o h)
        (store_reads first o (set_value bit) rest
        (joined_reads P binary.Or bit (read_of reg.Rlo) (fetched_reads P first o width.Bit) (register_reads P reg.Rlo (reads_rlo o h))) k)

    pub reset_reads : (o : Operand) → Has P (reads_of (op.Reset o)) → AllRead P (stored_of first o reset_value ++ rest)
    reset_reads o h =
        let bit : Expr = fetched_value_of first o width.Bit in
        fetch_reads P first o width.Bit (store_of first o (reset_value bit)) rest (finds o h)
        (store_reads first o (reset_value bit) rest
        (joined_reads P binary.And bit (not_of (read_of reg.Rlo)) (fetched_reads P first o width.Bit)
        (not_reads P (read_of reg.Rlo) (register_reads P reg.Rlo (reads_rlo o h)))) k)

    pub rlo_set_reads : (b : Bool) → AllRead P (rlo_set b ++ rest)
    rlo_set_reads b = assigned_reads P (var.Register reg.Rlo) (literal_of b) (clear_or false ++ rest) (literal_reads P b) (cleared_reads P false rest k)

    pub inverted_reads : Has P (reads_of op.NotRlo) → AllRead P (inverted_of ++ rest)
    inverted_reads h = simp variables_read (h reg.Rlo (inl refl), k)

    pub saved_reads : Has P (reads_of op.Save) → AllRead P (saved_of ++ rest)
    saved_reads h = simp variables_read (h reg.Rlo (inl refl), k)

    pub up_reads : (o : Operand) → Has P (reads_of (op.EdgeUp o)) → AllRead P (edge_at first o rising ++ rest)
    up_reads o h =
        let bit : Expr = fetched_value_of first o width.Bit in
        let rlo : P reg.Rlo = reads_rlo o h in
        fetch_reads P first o width.Bit (edge_of first o (first + length (types_fetched o width.Bit)) (rising bit)) rest (finds o h)
        (edge_reads first o (first + length (types_fetched o width.Bit)) (rising bit) rest rlo
        (joined_reads P binary.And (read_of reg.Rlo) (not_of bit) (register_reads P reg.Rlo rlo) (not_reads P bit (fetched_reads P first o width.Bit))) k)

    pub down_reads : (o : Operand) → Has P (reads_of (op.EdgeDown o)) → AllRead P (edge_at first o falling ++ rest)
    down_reads o h =
        let bit : Expr = fetched_value_of first o width.Bit in
        let rlo : P reg.Rlo = reads_rlo o h in
        fetch_reads P first o width.Bit (edge_of first o (first + length (types_fetched o width.Bit)) (falling bit)) rest (finds o h)
        (edge_reads first o (first + length (types_fetched o width.Bit)) (falling bit) rest rlo
        (joined_reads P binary.And (not_of (read_of reg.Rlo)) bit
        (not_reads P (read_of reg.Rlo) (register_reads P reg.Rlo rlo)) (fetched_reads P first o width.Bit)) k)
