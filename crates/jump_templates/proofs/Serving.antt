-- The statements of each jump serve it.
use Rattle.std.proofs.Common.{ℕ, ◌+◌, ◌≤◌, negsuc, true, false, [], ◌∷◌, ◌++◌, length, inl, inr, refl, arith}
use Rattle.accumulator_templates.proofs.PlainStatements.{add_word_plain}
use Rattle.bit_templates.proofs.CountBits.{of_answer}
use Rattle.bit_templates.proofs.OrderBits.{answer_misses}
use Rattle.bit_templates.proofs.PlainBits.{answer_bool, rlo_set_plain, saved_plain}
use Rattle.bit_templates.proofs.ReadBits.{answer_reads}
use Rattle.bit_templates.specs.Bits.{answer_of, rlo_set}
use Rattle.graph_rules.proofs.Runs.{order_equations}
use Rattle.jump_templates.proofs.JumpEffects.{end_if_does, jump_does, list_does, loop_does}
use Rattle.jump_templates.specs.JumpLaw.{HasTest, JumpsServe}
use Rattle.jump_templates.specs.Jumps.{question_of, behind_jump, end_if_of, is_counting_of, jump_of, list_of, loop_of, low_byte_of, types_of_jump, types_of_list, types_of_test}
use Rattle.s7_base.specs.declared.register.Reg.{Reg}
use Rattle.s7_base.specs.declared.register.Reg.TheVariants as reg
use Rattle.st_tree.specs.WellTyped.{UnitScope}
use Rattle.st_tree.specs.declared.expr.BinaryOp.TheVariants as binary
use Rattle.st_tree.specs.declared.expr.StType.TheVariants as type
use Rattle.st_tree.specs.declared.expr.Var.TheVariants as var
use Rattle.stl_tree.specs.Reads.{reads_of}
use Rattle.stl_tree.specs.declared.program.JumpTest.{JumpTest}
use Rattle.stl_tree.specs.declared.program.JumpTest.TheVariants as jump
use Rattle.stl_tree.specs.declared.program.Op.TheVariants as op
use Rattle.template_parts.proofs.Obligations.{HasSizes, is_template, with_sizes}
use Rattle.template_parts.proofs.ReadRegisters.{AllRead, Has, assigned_reads, variables_read}
use Rattle.template_parts.proofs.Sizes.{counts, of_assign, of_nothing}
use Rattle.template_parts.proofs.Typing.{IsBool, and_is, binary_is, cleared_plain, constant_is, convert_is, first_typed, literal_is, local_is, local_plain, more, no_statement, not_is, register_is, set_plain}
use Rattle.template_parts.specs.Builders.{and_of, literal_of, local_of, not_of, read_of, set_of}
use Rattle.template_parts.specs.Nodes.{nodes_in}
use Rattle.template_parts.specs.Templates.{AreTyped, IsPlainBody}

module _ (first : ℕ) where
  -- What is counted

  jump_sizes : (t : JumpTest) → HasTest t → HasSizes first (types_of_jump t) (jump_of first t)
  jump_sizes jump.Always h = elim h [ ]
  jump_sizes (jump.Rlo true) h =
      with_sizes (jump_of first (jump.Rlo true)) 4 4 tt refl (simp counts) (omega arith) (omega arith) (simp order_equations (omega arith)) refl
  jump_sizes (jump.Rlo false) h =
      with_sizes (jump_of first (jump.Rlo false)) 4 5 tt refl (simp counts) (omega arith) (omega arith) (simp order_equations (omega arith)) refl
  jump_sizes (jump.RloSaved true) h =
      with_sizes (jump_of first (jump.RloSaved true)) 5 5 tt refl (simp counts) (omega arith) (omega arith) (simp order_equations (omega arith)) refl
  jump_sizes (jump.RloSaved false) h =
      with_sizes (jump_of first (jump.RloSaved false)) 5 6 tt refl (simp counts) (omega arith) (omega arith) (simp order_equations (omega arith)) refl
  jump_sizes (jump.Br true) h =
      with_sizes (jump_of first (jump.Br true)) 3 3 tt refl (simp counts) (omega arith) (omega arith) (simp order_equations (omega arith)) refl
  jump_sizes (jump.Br false) h =
      with_sizes (jump_of first (jump.Br false)) 3 4 tt refl (simp counts) (omega arith) (omega arith) (simp order_equations (omega arith)) refl
  jump_sizes jump.Overflow h =
      with_sizes (jump_of first jump.Overflow) 1 1 tt refl (simp counts) (omega arith) (omega arith) (simp order_equations (omega arith)) refl
  jump_sizes jump.StoredOverflow h =
      with_sizes (jump_of first jump.StoredOverflow) 2 2 tt refl (simp counts) (omega arith) (omega arith) (simp order_equations (omega arith)) refl
  jump_sizes (jump.Result t) h =
      record {
        writes = tt;
        few = omega arith;
        small = omega (arith, of_assign (var.Local first) (answer_of t) [], of_answer t, of_nothing);
        order = omega (arith, answer_misses first first t);
        sets = refl;
      }

  few_statements : (t : JumpTest) → length (jump_of first t) ≤ 10
  few_statements jump.Always = omega arith
  few_statements (jump.Rlo wanted) = omega arith
  few_statements (jump.RloSaved wanted) = omega arith
  few_statements t = omega arith

  few_nodes : (t : JumpTest) → nodes_in (jump_of first t) ≤ 90
  few_nodes jump.Always = omega (arith, of_nothing)
  few_nodes (jump.Rlo true) = simp counts (omega arith)
  few_nodes (jump.Rlo false) = simp counts (omega arith)
  few_nodes (jump.RloSaved true) = simp counts (omega arith)
  few_nodes (jump.RloSaved false) = simp counts (omega arith)
  few_nodes (jump.Br true) = simp counts (omega arith)
  few_nodes (jump.Br false) = simp counts (omega arith)
  few_nodes jump.Overflow = simp counts (omega arith)
  few_nodes jump.StoredOverflow = simp counts (omega arith)
  few_nodes (jump.Result t) = omega (arith, of_assign (var.Local first) (answer_of t) [], of_answer t, of_nothing)

  -- What is read

  module _ (P : Reg → Type 0) where
    jump_reads : (t : JumpTest) (to : ℕ) → HasTest t → Has P (reads_of (op.Jump t to)) → AllRead P (jump_of first t ++ [])
    jump_reads jump.Always to h has = elim h [ ]
    jump_reads (jump.Rlo true) to h has = simp variables_read (has reg.Rlo (inl refl), tt)
    jump_reads (jump.Rlo false) to h has = simp variables_read (has reg.Rlo (inl refl), tt)
    jump_reads (jump.RloSaved true) to h has = simp variables_read (has reg.Rlo (inl refl), (has reg.Rlo (inl refl), tt))
    jump_reads (jump.RloSaved false) to h has = simp variables_read (has reg.Rlo (inl refl), (has reg.Rlo (inl refl), tt))
    jump_reads (jump.Br true) to h has = simp variables_read (has reg.Br (inl refl), tt)
    jump_reads (jump.Br false) to h has = simp variables_read (has reg.Br (inl refl), tt)
    jump_reads jump.Overflow to h has = simp variables_read (has reg.Ov (inl refl), tt)
    jump_reads jump.StoredOverflow to h has = simp variables_read (has reg.Os (inl refl), tt)
    jump_reads (jump.Result t) to h has = assigned_reads P (var.Local first) (answer_of t) [] (answer_reads P t has) tt

    loop_reads : (to : ℕ) → Has P (reads_of (op.Loop to)) → AllRead P (loop_of first ++ [])
    loop_reads to has = simp variables_read (has reg.Accu1 (inl refl), (has reg.Accu1 (inl refl), (has reg.Accu1 (inl refl), tt)))

    list_reads : (count label : ℕ) → Has P (reads_of (op.JumpList count label)) → AllRead P (list_of first ++ [])
    list_reads count label has = simp variables_read (has reg.Accu1 (inl refl), tt)

    end_if_reads : Has P (reads_of op.BlockEndIf) → AllRead P (end_if_of first ++ [])
    end_if_reads has = simp variables_read (has reg.Rlo (inl refl), (has reg.Os (inr (inl refl)), tt))

  -- How they are typed

  module _ (sight : UnitScope) where
    bit_is : (t : JumpTest) → IsBool sight 4 (question_of t)
    bit_is jump.Always = more sight (omega arith) (literal_is sight true)
    bit_is (jump.Rlo true) = more sight (omega arith) (register_is sight reg.Rlo)
    bit_is (jump.Rlo false) = more sight (omega arith) (not_is sight (register_is sight reg.Rlo))
    bit_is (jump.RloSaved true) = more sight (omega arith) (register_is sight reg.Rlo)
    bit_is (jump.RloSaved false) = more sight (omega arith) (not_is sight (register_is sight reg.Rlo))
    bit_is (jump.Br true) = more sight (omega arith) (register_is sight reg.Br)
    bit_is (jump.Br false) = more sight (omega arith) (not_is sight (register_is sight reg.Br))
    bit_is jump.Overflow = more sight (omega arith) (register_is sight reg.Ov)
    bit_is jump.StoredOverflow = more sight (omega arith) (register_is sight reg.Os)
    bit_is (jump.Result t) = answer_bool sight t

    behind_plain : (t : JumpTest) → IsPlainBody sight (behind_jump t ++ [])
    behind_plain jump.Always = no_statement sight
    behind_plain (jump.Rlo wanted) = rlo_set_plain sight true [] (no_statement sight)
    behind_plain (jump.RloSaved wanted) = saved_plain sight (rlo_set true ++ []) (rlo_set_plain sight true [] (no_statement sight))
    behind_plain (jump.Br wanted) = cleared_plain sight false [] (no_statement sight)
    behind_plain jump.Overflow = no_statement sight
    behind_plain jump.StoredOverflow = set_plain sight reg.Os (literal_of false) [] (omega arith) (literal_is sight false) (no_statement sight)
    behind_plain (jump.Result t) = no_statement sight

    jump_plain : (t : JumpTest) → HasTest t → AreTyped sight first (types_of_jump t) → IsPlainBody sight (jump_of first t ++ [])
    jump_plain jump.Always h own = elim h [ ]
    jump_plain t h own =
        local_plain sight first (question_of t) (behind_jump t ++ []) (omega arith) (first_typed sight first type.Bool [] own) (bit_is t) (behind_plain t)

    loop_plain : AreTyped sight first types_of_test → IsPlainBody sight (loop_of first ++ [])
    loop_plain own =
        add_word_plain sight _
        (local_plain sight first is_counting_of [] (omega arith) (first_typed sight first type.Bool [] own)
        (binary_is sight binary.Ne tt refl (convert_is sight refl (register_is sight reg.Accu1)) (constant_is sight refl)) (no_statement sight))
        (negsuc 0) refl

    list_plain : AreTyped sight first types_of_list → IsPlainBody sight (list_of first ++ [])
    list_plain own =
        local_plain sight first low_byte_of [] (omega arith) (first_typed sight first type.Dint [] own)
        (convert_is sight refl (convert_is sight refl (register_is sight reg.Accu1))) (no_statement sight)

    end_if_plain : AreTyped sight first types_of_test → IsPlainBody sight (end_if_of first ++ [])
    end_if_plain own =
        let typed = first_typed sight first type.Bool [] own in
        local_plain sight first (read_of reg.Rlo) (set_of reg.Os (and_of (read_of reg.Os) (not_of (local_of first))) ∷ rlo_set true ++ []) (omega arith) typed
        (register_is sight reg.Rlo)
        (set_plain sight reg.Os (and_of (read_of reg.Os) (not_of (local_of first))) (rlo_set true ++ []) (omega arith)
        (and_is sight (register_is sight reg.Os) (not_is sight (local_is sight typed))) (rlo_set_plain sight true [] (no_statement sight)))

-- a jump with a test has one local
room_of : (t : JumpTest) → HasTest t → (first n : ℕ) → first + length (types_of_jump t) ≤ n → first + 1 ≤ n
room_of jump.Always h first n room = elim h [ ]
room_of t h first n room = room

-- The law

pub jumps : JumpsServe
jumps =
    record {
      always = λ to first.
          is_template (op.Jump jump.Always to) first [] [] tt (omega arith) (omega (arith, of_nothing)) (λ P has. tt) refl refl
          (λ sight formals named operand own. no_statement sight);
      jump = λ t to first made. record {
        does = λ g calls units frames now s operand related room. jump_does g calls units frames now s related first (room_of t made first _ room) t made;
        template =
            let sizes = jump_sizes first t made in
            is_template (op.Jump t to) first (types_of_jump t) (jump_of first t) sizes.writes sizes.few sizes.small
            (λ P has. jump_reads first P t to made has) sizes.order sizes.sets (λ sight formals named operand own. jump_plain first sight t made own);
        few = few_statements first t;
        small = few_nodes first t;
      };
      loop = λ to first. record {
        does = λ g calls units frames now s operand related room. loop_does g calls units frames now s related first room;
        template =
            is_template (op.Loop to) first types_of_test (loop_of first) tt (omega arith) (simp counts (omega arith))
            (λ P has. loop_reads first P to has) (simp order_equations (omega arith)) refl (λ sight formals named operand own. loop_plain first sight own);
        few = omega arith;
        small = simp counts (omega arith);
      };
      list = λ count label first. record {
        does = λ g calls units frames now s operand related room. list_does g calls units frames now s related first room;
        template =
            is_template (op.JumpList count label) first types_of_list (list_of first) tt (omega arith) (simp counts (omega arith))
            (λ P has. list_reads first P count label has) (simp order_equations (omega arith)) refl
            (λ sight formals named operand own. list_plain first sight own);
        few = omega arith;
        small = simp counts (omega arith);
      };
      end_if = λ first. record {
        does = λ g calls units frames now s operand related room. end_if_does g calls units frames now s related first room;
        template =
            is_template op.BlockEndIf first types_of_test (end_if_of first) tt (omega arith) (simp counts (omega arith))
            (λ P has. end_if_reads first P has) (simp order_equations (omega arith)) refl (λ sight formals named operand own. end_if_plain first sight own);
        few = omega arith;
        small = simp counts (omega arith);
      };
    }
