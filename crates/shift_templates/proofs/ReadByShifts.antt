-- The statements of shifts and rotations read the registers that their rows read.
use Rattle.std.proofs.Common.{ℕ, ◌==◌, Bool, true, false, if◌then◌else◌, List, [], ◌∷◌, ◌++◌, Option, Some, None, inl, inr, refl}
use Rattle.template_parts.proofs.ReadRegisters.{AllRead, Has, variables_read}
use Rattle.s7_base.specs.declared.register.Reg.{Reg}
use Rattle.s7_base.specs.declared.register.Reg.TheVariants as reg
use Rattle.shift_templates.specs.ShiftTemplates.{by_accu2, by_constant, rlda_template, rrda_template, shift_template}
use Rattle.st_tree.specs.declared.program.Stmt.{Stmt}
use Rattle.stl_tree.specs.Reads.{reads_of}
use Rattle.stl_tree.specs.declared.accumulator.ShiftRow.{ShiftRow}
use Rattle.stl_tree.specs.declared.accumulator.ShiftRow.TheVariants as row
use Rattle.stl_tree.specs.declared.program.Op.TheVariants as op

module _ (P : Reg → Type 0) (used : ℕ) (rest : List Stmt) where
  constant_reads : (i : ShiftRow) (n : ℕ) → P reg.Accu1 → AllRead P rest → AllRead P (by_constant i n used ++ rest)
  constant_reads row.Slw n one k = simp variables_read (one, (one, k))
  constant_reads row.Srw n one k = simp variables_read (one, (one, k))
  constant_reads row.Ssi n one k = simp variables_read (one, (one, k))
  constant_reads row.Sld n one k = simp variables_read (one, k)
  constant_reads row.Srd n one k = simp variables_read (one, k)
  constant_reads row.Ssd n one k = simp variables_read (one, k)
  constant_reads row.Rld n one k = simp variables_read (one, k)
  constant_reads row.Rrd n one k = simp variables_read (one, k)

  module _ (one : P reg.Accu1) (two : P reg.Accu2) (cc1 : P reg.Cc1) (cc0 : P reg.Cc0) (ov : P reg.Ov) (k : AllRead P rest) where
    accu2_reads : (i : ShiftRow) → AllRead P (by_accu2 i used ++ rest)
    accu2_reads row.Slw = simp variables_read (two, (one, (cc1, (cc0, (ov, (one, k))))))
    accu2_reads row.Srw = simp variables_read (two, (one, (cc1, (cc0, (ov, (one, k))))))
    accu2_reads row.Ssi = simp variables_read (two, (one, (cc1, (cc0, (ov, (one, k))))))
    accu2_reads row.Sld = simp variables_read (two, (one, (cc1, (cc0, (ov, k)))))
    accu2_reads row.Srd = simp variables_read (two, (one, (cc1, (cc0, (ov, k)))))
    accu2_reads row.Ssd = simp variables_read (two, (one, (cc1, (cc0, (ov, k)))))
    accu2_reads row.Rld = simp variables_read (two, (one, (cc1, (cc0, (ov, k)))))
    accu2_reads row.Rrd = simp variables_read (two, (one, (cc1, (cc0, (ov, k)))))

  pub shift_reads : (i : ShiftRow) (by : Option ℕ) → Has P (reads_of (op.Shift i by)) → AllRead P rest → AllRead P (shift_template used i by ++ rest)
  shift_reads i None h k =
      accu2_reads (h reg.Accu1 (inl refl)) (h reg.Accu2 (inr (inl refl))) (h reg.Cc1 (inr (inr (inl refl)))) (h reg.Cc0 (inr (inr (inr (inl refl)))))
      (h reg.Ov (inr (inr (inr (inr (inl refl)))))) k i
  shift_reads i (Some n) h k = at (n == 0) h
    where
      at : (none : Bool) → Has P (if none then [] else reg.Accu1 ∷ []) → AllRead P ((if none then [] else by_constant i n used) ++ rest)
      at true read = k
      at false read = constant_reads i n (read reg.Accu1 (inl refl)) k

  pub rlda_reads : Has P (reads_of op.Rlda) → AllRead P rest → AllRead P (rlda_template used ++ rest)
  rlda_reads h k =
      let one : P reg.Accu1 = h reg.Accu1 (inl refl) in
      simp variables_read (h reg.Cc1 (inr (inl refl)), (one, (one, k)))

  pub rrda_reads : Has P (reads_of op.Rrda) → AllRead P rest → AllRead P (rrda_template used ++ rest)
  rrda_reads h k =
      let one : P reg.Accu1 = h reg.Accu1 (inl refl) in
      simp variables_read (h reg.Cc1 (inr (inl refl)), (one, (one, k)))
