-- The statements of each instruction read the registers alone that its row reads.
use Rattle.std.proofs.Common.{ℕ, ◌==◌, pos, Bool, true, false, if◌then◌else◌, List, [], ◌∷◌, ◌++◌, Option, Some, None, inl, inr, refl}
use Rattle.pointer_templates.specs.Pointers.{low_number, pointer_sum_of, pointed_of, pointer_exchange_of, pointer_load_of, pointer_move_of, pointer_store_of}
use Rattle.template_parts.specs.Builders.{constant_of, read_of, set_of}
use Rattle.template_parts.specs.Fetching.{fetched_value_of, writing_of}
use Rattle.template_parts.proofs.FetchBounds.{fetch_reads, fetched_reads, reach_reads, writing_reads}
use Rattle.template_parts.proofs.ReadRegisters.{AllRead, Has, Reads, assigned_reads, constant_reads, convert_reads, joined_reads, register_reads, variables_read}
use Rattle.s7_base.specs.declared.register.Reg.{Reg}
use Rattle.s7_base.specs.declared.register.Reg.TheVariants as reg
use Rattle.s7_base.specs.declared.word.Width.TheVariants as width
use Rattle.st_tree.specs.declared.expr.BinaryOp.TheVariants as binary
use Rattle.st_tree.specs.declared.expr.Expr.{Expr}
use Rattle.st_tree.specs.declared.expr.StType.TheVariants as type
use Rattle.st_tree.specs.declared.expr.Var.TheVariants as var
use Rattle.st_tree.specs.declared.program.Stmt.{Stmt}
use Rattle.stl_tree.specs.AddressRegisters.{other_of}
use Rattle.stl_tree.specs.Reads.{reads_of, register_of}
use Rattle.stl_tree.specs.declared.program.Ar.{Ar}
use Rattle.stl_tree.specs.declared.program.ArLoad.{ArLoad}
use Rattle.stl_tree.specs.declared.program.ArLoad.TheVariants as load
use Rattle.stl_tree.specs.declared.program.ArStore.{ArStore}
use Rattle.stl_tree.specs.declared.program.ArStore.TheVariants as store
use Rattle.stl_tree.specs.declared.program.Op.TheVariants as op

-- what holds of each register that an instruction reads holds of each that its statements read, before others
module _ (P : Reg → Type 0) (rest : List Stmt) (k : AllRead P rest) where
  -- an address register takes a pointer
  pointed_reads : (a : Ar) (e : Expr) → Reads P e → AllRead P (pointed_of a e ++ rest)
  pointed_reads a e h = assigned_reads P (var.Register (register_of a)) e rest h k

  held_reads : (a : Ar) → P (register_of a) → Reads P (read_of (register_of a))
  held_reads a h = register_reads P (register_of a) h

  pub pointer_load_reads : (first : ℕ) (a : Ar) (from : ArLoad) → Has P (reads_of (op.LoadAr a from)) → AllRead P (pointer_load_of first a from ++ rest)
  pointer_load_reads first a load.Accu1 h = pointed_reads a (read_of reg.Accu1) (register_reads P reg.Accu1 (h reg.Accu1 (inl refl)))
  pointer_load_reads first a (load.Constant p) h = pointed_reads a (constant_of type.Dword (pos p)) (constant_reads P type.Dword (pos p))
  pointer_load_reads first a (load.At o) h =
      let e : Expr = fetched_value_of first o width.Dword in
      fetch_reads P first o width.Dword (pointed_of a e) rest h (pointed_reads a e (fetched_reads P first o width.Dword))
  pointer_load_reads first a load.OtherAr h =
      pointed_reads a (read_of (register_of (other_of a))) (held_reads (other_of a) (h (register_of (other_of a)) (inl refl)))

  pub pointer_store_reads : (first : ℕ) (a : Ar) (to : ArStore) → Has P (reads_of (op.StoreAr a to)) → AllRead P (pointer_store_of first a to ++ rest)
  pointer_store_reads first a store.Accu1 h =
      let e : Expr = read_of (register_of a) in
      assigned_reads P (var.Register reg.Accu2) (read_of reg.Accu1) (set_of reg.Accu1 e ∷ rest) (register_reads P reg.Accu1 (h reg.Accu1 (inr (inl refl))))
      (assigned_reads P (var.Register reg.Accu1) e rest (held_reads a (h (register_of a) (inl refl))) k)
  pointer_store_reads first a (store.At o) h =
      let e : Expr = read_of (register_of a) in
      reach_reads P first o (writing_of first o width.Dword e ∷ []) rest (λ r found. h r (inr found))
      (writing_reads P first o width.Dword e rest (held_reads a (h (register_of a) (inl refl))) k)
  pointer_store_reads first a store.OtherAr h = pointed_reads (other_of a) (read_of (register_of a)) (held_reads a (h (register_of a) (inl refl)))

  pub pointer_exchange_reads : (first : ℕ) → Has P (reads_of op.ExchangeAr) → AllRead P (pointer_exchange_of first ++ rest)
  pointer_exchange_reads first h = simp variables_read (h reg.Ar1 (inl refl), (h reg.Ar2 (inr (inl refl)), k))

  moved_reads : (a : Ar) (e : Expr) → P (register_of a) → Reads P e → AllRead P (pointed_of a (pointer_sum_of a e) ++ rest)
  moved_reads a e h reads =
      let held : Reads P (read_of (register_of a)) = register_reads P (register_of a) h in
      pointed_reads a (pointer_sum_of a e)
      (joined_reads P binary.Or _ _ (joined_reads P binary.And _ _ held (constant_reads P _ _))
      (joined_reads P binary.And _ _
      (convert_reads P type.Dint type.Dword _ (joined_reads P binary.Add _ _ (convert_reads P type.Dword type.Dint _ held) reads))
      (constant_reads P _ _)))

  low_reads : P reg.Accu1 → Reads P low_number
  low_reads h = convert_reads P type.Int type.Dint _ (convert_reads P type.Dword type.Int _ (register_reads P reg.Accu1 h))

  pub pointer_move_reads : (a : Ar) (amount : Option ℕ) → Has P (reads_of (op.AddAr a amount)) → AllRead P (pointer_move_of a amount ++ rest)
  pointer_move_reads a None h = moved_reads a low_number (h (register_of a) (inl refl)) (low_reads (h reg.Accu1 (inr (inl refl))))
  pointer_move_reads a (Some offset) h = by (offset == 0) h
    where
      amount : Expr
      amount = constant_of type.Dint (pos offset)

      by : (b : Bool) → Has P (if b then [] else register_of a ∷ []) → AllRead P ((if b then [] else pointed_of a (pointer_sum_of a amount)) ++ rest)
      by true has = k
      by false has = moved_reads a amount (has (register_of a) (inl refl)) (constant_reads P _ _)
