-- The statements of each instruction read the registers alone that its row reads.
use Rattle.std.proofs.Common.{ℕ, pos, Bool, true, false, if◌then◌else◌, List, [], ◌∷◌, ◌++◌, Option, Some, None, inl, inr, refl}
use Rattle.std.specs.Prelude.{ℤ}
use Rattle.std.specs.Ordering.{int_eq}
use Rattle.s7_base.specs.declared.register.Reg.{Reg}
use Rattle.s7_base.specs.declared.register.Reg.TheVariants as reg
use Rattle.s7_base.specs.declared.word.Width.{Width}
use Rattle.s7_base.specs.declared.word.Width.TheVariants as width
use Rattle.stl_tree.specs.Reads.{found_by, increased_by, is_fixed, opened_by, reads_of}
use Rattle.stl_tree.specs.declared.accumulator.LogicRow.{LogicRow}
use Rattle.stl_tree.specs.declared.accumulator.LogicRow.TheVariants as row
use Rattle.stl_tree.specs.declared.accumulator.UnaryRow.TheVariants as unary
use Rattle.stl_tree.specs.declared.program.LoadArg.{LoadArg}
use Rattle.stl_tree.specs.declared.program.LoadArg.TheVariants as arg
use Rattle.stl_tree.specs.declared.program.Op.TheVariants as op
use Rattle.stl_tree.specs.declared.program.OpenArg.{OpenArg}
use Rattle.stl_tree.specs.declared.program.OpenArg.TheVariants as open_arg
use Rattle.stl_tree.specs.declared.program.Operand.{Operand}
use Rattle.st_tree.specs.declared.expr.Expr.{Expr}
use Rattle.st_tree.specs.declared.expr.StType.TheVariants as type
use Rattle.st_tree.specs.declared.expr.Var.TheVariants as var
use Rattle.st_tree.specs.declared.program.Stmt.{Stmt}
use Rattle.accumulator_templates.specs.Conversions.{cad_of, caw_of, invd_of, invi_of, itd_of}
use Rattle.accumulator_templates.specs.DataBlocks.{block_exchange_of, block_open_of, number_load_of}
use Rattle.accumulator_templates.specs.Logic.{computed_of, fixed_of, logic_of}
use Rattle.accumulator_templates.specs.Moves.{exchange_of, load_of, pop_of, push_of, status_load_of, status_store_of, taken_of, transfer_of}
use Rattle.accumulator_templates.specs.AccumulatorParts.{lowest_bits_of, dword_of, zero_extension_of}
use Rattle.accumulator_templates.specs.Sums.{add_dword_of, add_word_of, dec_of, inc_of, unless_zero}
use Rattle.template_parts.specs.Builders.{constant_of, convert_of, read_of, set_of}
use Rattle.template_parts.specs.Fetching.{fetched_value_of, writing_of}
use Rattle.template_parts.proofs.FetchBounds.{fetch_reads, fetched_reads, reach_reads, writing_reads}
use Rattle.template_parts.proofs.ReadRegisters.{AllRead, Has, Reads, among_left, among_right, assigned_reads, constant_reads, convert_reads, register_reads, select_reads, variables_read}

-- what holds of each register that an instruction reads holds of each that its statements read, before others
module _ (P : Reg → Type 0) (rest : List Stmt) (k : AllRead P rest) where
  -- Loading, storing and moving

  extended_reads : (w : Width) (e : Expr) → Reads P e → Reads P (zero_extension_of w e)
  extended_reads width.Bit e h = select_reads P e (dword_of 0) (dword_of 1) h (constant_reads P _ _) (constant_reads P _ _)
  extended_reads width.Byte e h = convert_reads P type.Byte type.Dword e h
  extended_reads width.Word e h = convert_reads P type.Word type.Dword e h
  extended_reads width.Dword e h = h

  taken_reads : (e : Expr) → P reg.Accu1 → Reads P e → AllRead P (taken_of e ++ rest)
  taken_reads e one h =
      assigned_reads P (var.Register reg.Accu2) (read_of reg.Accu1) (set_of reg.Accu1 e ∷ rest) (register_reads P reg.Accu1 one)
      (assigned_reads P (var.Register reg.Accu1) e rest h k)

  pub load_reads : (first : ℕ) (a : LoadArg) → Has P (reads_of (op.Load a)) → AllRead P (load_of first a ++ rest)
  load_reads first (arg.At o w) h =
      let e : Expr = fetched_value_of first o w in
      fetch_reads P first o w (taken_of (zero_extension_of w e)) rest (λ r found. h r (among_left r (found_by o) (reg.Accu1 ∷ []) found))
      (taken_reads (zero_extension_of w e) (h reg.Accu1 (among_right reg.Accu1 (found_by o) (reg.Accu1 ∷ []) (inl refl)))
      (extended_reads w e (fetched_reads P first o w)))
  load_reads first (arg.Constant c) h = taken_reads (dword_of c) (h reg.Accu1 (inl refl)) (constant_reads P _ _)

  cut_reads : (w : Width) → P reg.Accu1 → Reads P (lowest_bits_of w (read_of reg.Accu1))
  cut_reads width.Bit one = simp variables_read (one, tt)
  cut_reads width.Byte one = simp variables_read (one, tt)
  cut_reads width.Word one = simp variables_read (one, tt)
  cut_reads width.Dword one = simp variables_read (one, tt)

  pub transfer_reads : (first : ℕ) (o : Operand) (w : Width) → Has P (reads_of (op.Transfer o w)) → AllRead P (transfer_of first o w ++ rest)
  transfer_reads first o w h =
      let e : Expr = lowest_bits_of w (read_of reg.Accu1) in
      reach_reads P first o (writing_of first o w e ∷ []) rest (λ r found. h r (among_left r (found_by o) (reg.Accu1 ∷ []) found))
      (writing_reads P first o w e rest (cut_reads w (h reg.Accu1 (among_right reg.Accu1 (found_by o) (reg.Accu1 ∷ []) (inl refl)))) k)

  pub status_load_reads : Has P (reads_of op.LoadStw) → AllRead P (status_load_of ++ rest)
  status_load_reads h =
      let one : P reg.Accu1 = h reg.Accu1 (inl refl) in
      let rlo : P reg.Rlo = h reg.Rlo (inr (inl refl)) in
      let os : P reg.Os = h reg.Os (inr (inr (inl refl))) in
      let ov : P reg.Ov = h reg.Ov (inr (inr (inr (inl refl)))) in
      let cc0 : P reg.Cc0 = h reg.Cc0 (inr (inr (inr (inr (inl refl))))) in
      let cc1 : P reg.Cc1 = h reg.Cc1 (inr (inr (inr (inr (inr (inl refl)))))) in
      let br : P reg.Br = h reg.Br (inr (inr (inr (inr (inr (inr (inl refl))))))) in
      simp variables_read (one, (rlo, (os, (ov, (cc0, (cc1, (br, k)))))))

  pub status_store_reads : Has P (reads_of op.TransferStw) → AllRead P (status_store_of ++ rest)
  status_store_reads h =
      let one : P reg.Accu1 = h reg.Accu1 (inl refl) in
      simp variables_read (one, (one, (one, (one, (one, (one, k))))))

  pub exchange_reads : (first : ℕ) → Has P (reads_of op.Tak) → AllRead P (exchange_of first ++ rest)
  exchange_reads first h = simp variables_read (h reg.Accu1 (inl refl), (h reg.Accu2 (inr (inl refl)), k))

  pub push_reads : Has P (reads_of op.Push) → AllRead P (push_of ++ rest)
  push_reads h = simp variables_read (h reg.Accu1 (inl refl), k)

  pub pop_reads : Has P (reads_of op.Pop) → AllRead P (pop_of ++ rest)
  pop_reads h = simp variables_read (h reg.Accu2 (inl refl), k)

  -- Numbers of data blocks

  pub block_open_reads : (first : ℕ) (r : Reg) (d : OpenArg) → Has P (opened_by d) → AllRead P (block_open_of first r d ++ rest)
  block_open_reads first r (open_arg.Number n) h = assigned_reads P (var.Register r) (constant_of type.Word (pos n)) rest (constant_reads P type.Word (pos n)) k
  block_open_reads first r (open_arg.At o) h =
      let e : Expr = fetched_value_of first o width.Word in
      fetch_reads P first o width.Word (set_of r e ∷ []) rest h (assigned_reads P (var.Register r) e rest (fetched_reads P first o width.Word) k)

  pub block_exchange_reads : (first : ℕ) → Has P (reads_of op.ExchangeDb) → AllRead P (block_exchange_of first ++ rest)
  block_exchange_reads first h = simp variables_read (h reg.DbNo (inl refl), (h reg.DiNo (inr (inl refl)), k))

  -- L DBNO and L DINO, by the register that holds the number
  pub number_load_reads : (r : Reg) → Has P (reg.Accu1 ∷ r ∷ []) → AllRead P (number_load_of r ++ rest)
  number_load_reads r h =
      taken_reads (convert_of type.Word type.Dword (read_of r)) (h reg.Accu1 (inl refl))
      (convert_reads P type.Word type.Dword (read_of r) (register_reads P r (h r (inr (inl refl)))))

  -- Constants

  unless_zero_reads : (n : ℤ) (e : Expr) → Has P (increased_by n) → (P reg.Accu1 → AllRead P (set_of reg.Accu1 e ∷ rest)) → AllRead P (unless_zero n e ++ rest)
  unless_zero_reads n e h others = by (int_eq n (pos 0)) h
    where
      by : (b : Bool) → Has P (if b then [] else reg.Accu1 ∷ []) → AllRead P ((if b then [] else set_of reg.Accu1 e ∷ []) ++ rest)
      by true has = k
      by false has = others (has reg.Accu1 (inl refl))

  pub add_word_reads : (n : ℤ) → Has P (reads_of (op.AddWord n)) → AllRead P (add_word_of n ++ rest)
  add_word_reads n h = unless_zero_reads n _ h (λ one. simp variables_read (one, (one, k)))

  pub add_dword_reads : (n : ℤ) → Has P (reads_of (op.AddDword n)) → AllRead P (add_dword_of n ++ rest)
  add_dword_reads n h = unless_zero_reads n _ h (λ one. simp variables_read (one, k))

  pub inc_reads : (n : ℕ) → Has P (reads_of (op.Inc n)) → AllRead P (inc_of n ++ rest)
  inc_reads n h = unless_zero_reads (pos n) _ h (λ one. simp variables_read (one, (one, k)))

  pub dec_reads : (n : ℕ) → Has P (reads_of (op.Dec n)) → AllRead P (dec_of n ++ rest)
  dec_reads n h = unless_zero_reads (pos n) _ h (λ one. simp variables_read (one, (one, k)))

  -- Word logic

  fixed_reads : (c : ℕ) → AllRead P (fixed_of c ++ rest)
  fixed_reads c = simp variables_read k

  -- with ACCU2, and with a constant
  both_read : (first : ℕ) (l : LogicRow) → P reg.Accu1 → P reg.Accu2 → AllRead P (computed_of first l None ++ rest)
  both_read first row.Aw one two = simp variables_read (one, (two, (one, k)))
  both_read first row.Ow one two = simp variables_read (one, (two, (one, k)))
  both_read first row.Xow one two = simp variables_read (one, (two, (one, k)))
  both_read first row.Ad one two = simp variables_read (one, (two, k))
  both_read first row.Od one two = simp variables_read (one, (two, k))
  both_read first row.Xod one two = simp variables_read (one, (two, k))

  one_read : (first : ℕ) (l : LogicRow) (c : ℕ) → P reg.Accu1 → AllRead P (computed_of first l (Some c) ++ rest)
  one_read first row.Aw c one = simp variables_read (one, (one, k))
  one_read first row.Ow c one = simp variables_read (one, (one, k))
  one_read first row.Xow c one = simp variables_read (one, (one, k))
  one_read first row.Ad c one = simp variables_read (one, k)
  one_read first row.Od c one = simp variables_read (one, k)
  one_read first row.Xod c one = simp variables_read (one, k)

  pub logic_reads : (first : ℕ) (l : LogicRow) (c : Option ℕ) → Has P (reads_of (op.Logic l c)) → AllRead P (logic_of first l c ++ rest)
  logic_reads first l None h = both_read first l (h reg.Accu1 (inl refl)) (h reg.Accu2 (inr (inl refl)))
  logic_reads first l (Some c) h = by (is_fixed l c) h
    where
      by : (b : Bool) → Has P (if b then [] else reg.Accu1 ∷ []) → AllRead P ((if b then fixed_of c else computed_of first l (Some c)) ++ rest)
      by true has = fixed_reads c
      by false has = one_read first l c (has reg.Accu1 (inl refl))

  -- Conversions

  pub itd_reads : Has P (reads_of (op.Unary unary.Itd)) → AllRead P (itd_of ++ rest)
  itd_reads h = simp variables_read (h reg.Accu1 (inl refl), k)

  pub invi_reads : Has P (reads_of (op.Unary unary.Invi)) → AllRead P (invi_of ++ rest)
  invi_reads h = let one : P reg.Accu1 = h reg.Accu1 (inl refl) in simp variables_read (one, (one, k))

  pub invd_reads : Has P (reads_of (op.Unary unary.Invd)) → AllRead P (invd_of ++ rest)
  invd_reads h = simp variables_read (h reg.Accu1 (inl refl), k)

  pub caw_reads : Has P (reads_of (op.Unary unary.Caw)) → AllRead P (caw_of ++ rest)
  caw_reads h = let one : P reg.Accu1 = h reg.Accu1 (inl refl) in simp variables_read (one, (one, k))

  pub cad_reads : Has P (reads_of (op.Unary unary.Cad)) → AllRead P (cad_of ++ rest)
  cad_reads h = let one : P reg.Accu1 = h reg.Accu1 (inl refl) in simp variables_read (one, (one, (one, (one, k))))
