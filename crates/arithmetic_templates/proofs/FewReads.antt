-- What the statements of each row read.
use Rattle.std.proofs.Common.{ℕ, List, ◌++◌, inl, inr, refl}
use Rattle.s7_base.specs.declared.register.Reg.{Reg}
use Rattle.s7_base.specs.declared.register.Reg.TheVariants as reg
use Rattle.s7_base.specs.declared.word.Width.{Width}
use Rattle.s7_base.specs.declared.word.Width.TheVariants as width
use Rattle.status_word.specs.declared.test.Test.{Test}
use Rattle.status_word.specs.declared.test.Test.TheVariants as test
use Rattle.stl_tree.specs.Reads.{calculated_with, reads_of}
use Rattle.stl_tree.specs.declared.accumulator.Arith.{Arith}
use Rattle.stl_tree.specs.declared.accumulator.Arith.TheVariants as row
use Rattle.stl_tree.specs.declared.accumulator.UnaryRow.TheVariants as unary
use Rattle.stl_tree.specs.declared.program.Op.TheVariants as op
use Rattle.st_tree.specs.declared.program.Stmt.{Stmt}
use Rattle.template_parts.proofs.ReadRegisters.{AllRead, Has, variables_read}
use Rattle.arithmetic_templates.specs.Calculations.{calculated_of, divisor_kept_of, divisor_of, negated_of, quotient_in_dword_of, quotient_in_words_of, remainder_in_dword_of}
use Rattle.arithmetic_templates.specs.Comparisons.{compared_of}

-- P is what holds of the registers that the instruction reads by its row
module _ (P : Reg → Type 0) (used : ℕ) (rest : List Stmt) (more : AllRead P rest) where
  module _ (h : Has P calculated_with) where
    one : P reg.Accu1
    one = h reg.Accu1 (inl refl)

    two : P reg.Accu2
    two = h reg.Accu2 (inr (inl refl))

    os : P reg.Os
    os = h reg.Os (inr (inr (inl refl)))

    calculation_reads : (a : Arith) → AllRead P (calculated_of used a ++ rest)
    unfolding divisor_of divisor_kept_of quotient_in_words_of quotient_in_dword_of remainder_in_dword_of
    calculation_reads row.AddI = simp variables_read (two, (one, (os, (one, more))))
    calculation_reads row.SubI = simp variables_read (two, (one, (os, (one, more))))
    calculation_reads row.MulI = simp variables_read (two, (one, (os, more)))
    calculation_reads row.DivI = simp variables_read (one, (two, (two, (os, (one, more)))))
    calculation_reads row.AddD = simp variables_read (two, (one, (os, more)))
    calculation_reads row.SubD = simp variables_read (two, (one, (os, more)))
    calculation_reads row.MulD = simp variables_read (two, (one, (os, more)))
    calculation_reads row.DivD = simp variables_read (one, (two, (os, (one, more))))
    calculation_reads row.Mod = simp variables_read (one, (two, (os, (one, more))))

  pub calculated_reads : (a : Arith) → Has P (reads_of (op.Arith a)) → AllRead P (calculated_of used a ++ rest)
  calculated_reads a h = calculation_reads h a

  -- NEGI, and NEGD, which reads the same registers
  pub negated_reads : (w : Width) → Has P (reads_of (op.Unary unary.Negi)) → AllRead P (negated_of used w ++ rest)
  negated_reads width.Dword h = simp variables_read (h reg.Accu1 (inl refl), (h reg.Os (inr (inl refl)), more))
  negated_reads other h = simp variables_read (h reg.Accu1 (inl refl), (h reg.Os (inr (inl refl)), (h reg.Accu1 (inl refl), more)))

  pub compared_reads : (t : Test) (w : Width) → Has P (reads_of (op.Compare t w)) → AllRead P (compared_of used t w ++ rest)
  compared_reads test.Eq w h = simp variables_read (h reg.Accu2 (inr (inl refl)), (h reg.Accu1 (inl refl), more))
  compared_reads other w h = simp variables_read (h reg.Accu2 (inr (inl refl)), (h reg.Accu1 (inl refl), more))
