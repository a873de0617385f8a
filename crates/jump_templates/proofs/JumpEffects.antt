-- What the statements of jumps do: the first local has what the exit tests, and then the status bits are those after the
-- jump.
use Rattle.std.proofs.Common.{◌≡◌, ◌≢◌, ℕ, ◌+◌, ◌%◌, ◌^◌, ◌<◌, ◌≤◌, ◌==◌, pos, negsuc, Bool, true, false, not, ◌&&◌, List, [], ◌∷◌, length, Ok, refl, sym, ap, subst, ◌∙◌, arith}
use Rattle.std.specs.Prelude.{ℤ, if◌then◌else◌}
use Rattle.std.specs.Ordering.{int_eq}
use Rattle.std.proofs.lemmas.Int.{ints}
use Rattle.accumulator_templates.proofs.Serving.{accumulator_serves}
use Rattle.accumulator_templates.specs.Sums.{add_word_of}
use Rattle.bit_templates.proofs.StatusEffects.{answer_worth}
use Rattle.jump_templates.specs.JumpLaw.{HasTest, LeadsToTest, after_count, after_end_if, after_jump_by, tested_by_count, tested_by_end_if, tested_by_jump, tested_by_list}
use Rattle.jump_templates.specs.Jumps.{question_of, behind_jump, bit_as, end_if_of, is_counting_of, jump_of, list_of, loop_of, low_byte_of}
use Rattle.s7_base.specs.declared.register.Reg.{Reg}
use Rattle.s7_base.specs.declared.register.Reg.TheVariants as reg
use Rattle.s7_base.specs.declared.word.Width.TheVariants as width
use Rattle.status_word.specs.StatusBits.{StatusBits, after_end, after_jump}
use Rattle.stl_tree.specs.Accumulators.{part}
use Rattle.stl_tree.specs.Jumps.{after_test, is_as, is_made}
use Rattle.stl_tree.specs.Now.{Now, with_status}
use Rattle.stl_tree.specs.declared.program.JumpTest.{JumpTest}
use Rattle.stl_tree.specs.declared.program.JumpTest.TheVariants as jump
use Rattle.st_tree.proofs.Equations.{assign_goes_on, value_binary, value_convert, value_literal, value_read}
use Rattle.st_tree.specs.Meaning.{Calls, Normal, body_meaning}
use Rattle.st_tree.specs.State.{State, own_of, type_of_register, with_register}
use Rattle.st_tree.specs.Value.{value}
use Rattle.st_tree.specs.Values.{fit, flag, number_of}
use Rattle.st_tree.specs.declared.expr.Expr.{Expr}
use Rattle.st_tree.specs.declared.expr.StType.TheVariants as type
use Rattle.st_tree.specs.declared.expr.Var.TheVariants as var
use Rattle.st_tree.specs.declared.program.Located.{Located}
use Rattle.st_tree.specs.declared.program.Stmt.{Stmt}
use Rattle.st_tree.specs.declared.state.Value.{Value}
use Rattle.template_parts.proofs.Alike.{keep_bits, keep_local}
use Rattle.st_tree.proofs.Locals.{local_read, local_wrote, own_length, own_other, own_same, with_own}
use Rattle.template_parts.proofs.Operands.{cleared_registers, clears, rlo_worth, sets}
use Rattle.template_parts.proofs.Truths.{and_worth, literal_worth, not_worth, register_worth}
use Rattle.st_tree.proofs.TwoParts.{goes_on_behind}
use Rattle.template_parts.specs.Builders.{and_of, clear_or, literal_of, local_of, not_of, read_of, set_local_of, set_of}
use Rattle.template_parts.specs.Related.{AreAlike, Frames, Related}

module _ (g : List Located) (calls : Calls) (units : ℕ) (frames : Frames) (now : Now) (s : State)
    (related : Related frames now s) (first : ℕ) (room : first + 1 ≤ length (own_of s.activations)) where
  abbrev bits : StatusBits
  bits = now.registers.status

  -- A local that takes a value

  apart : (i : ℕ) → i < first → i ≢ first
  apart i less e = absurd (omega (arith, less, e))

  module _ (v : Value) where
    abbrev kept : State
    kept = with_own first v s

    kept_related : Related frames now kept
    kept_related = keep_local frames now s related first v

    -- and then the status bits, and the registers that have them
    tested : (e : Expr) (rest : List Stmt) (after : StatusBits) (registers : Reg → ℤ) → value g e s ≡ Ok v
        → body_meaning g calls rest units kept ≡ Normal units (record kept { registers = registers })
        → AreAlike (record now.registers { status = after }) registers
        → LeadsToTest g (body_meaning g calls (set_local_of first e ∷ rest) units s) units first frames s
        (record now { registers = record now.registers { status = after } }) v
    tested e rest after registers worth goes alike =
        let t : State = record kept { registers = registers } in
        record {
          leads = record {
            to = t;
            goes = assign_goes_on g calls (var.Local first) e rest units s kept v worth (local_wrote g first v s (omega (arith, room))) ∙ goes;
            related = keep_bits frames now kept kept_related after registers alike;
            as_many = own_length first v s;
            below = λ i less. own_other first v s i (apart i less);
          };
          test = local_read g first v t (own_same first v s (omega (arith, room)));
        }

  -- What is tested

  bit_worth : (wanted : Bool) (r : Reg) (b : Bool) → type_of_register r ≡ type.Bool → s.registers r ≡ number_of b
      → value g (bit_as wanted r) s ≡ Ok (flag (is_as wanted b))
  bit_worth true r b h e = register_worth g s r b h e
  bit_worth false r b h e = not_worth g s (read_of r) b (register_worth g s r b h e)

  question_worth : (t : JumpTest) → value g (question_of t) s ≡ Ok (flag (is_made t bits))
  question_worth jump.Always = literal_worth g s true
  question_worth (jump.Rlo wanted) = bit_worth wanted reg.Rlo bits.rlo refl (related.registers reg.Rlo tt)
  question_worth (jump.RloSaved wanted) = bit_worth wanted reg.Rlo bits.rlo refl (related.registers reg.Rlo tt)
  question_worth (jump.Br wanted) = bit_worth wanted reg.Br bits.br refl (related.registers reg.Br tt)
  question_worth jump.Overflow = register_worth g s reg.Ov bits.ov refl (related.registers reg.Ov tt)
  question_worth jump.StoredOverflow = register_worth g s reg.Os bits.os refl (related.registers reg.Os tt)
  question_worth (jump.Result t) = answer_worth g calls units frames now s related first t

  -- What follows

  -- the RLO is set, and the chain ends
  abbrev set_registers : (Reg → ℤ) → Reg → ℤ
  set_registers registers = cleared_registers g calls units false (with_register reg.Rlo (pos 1) registers)

  sets_rlo : (t : State) → body_meaning g calls (set_of reg.Rlo (literal_of true) ∷ clear_or false) units t
      ≡ Normal units (record t { registers = set_registers t.registers })
  sets_rlo t =
      sets g calls units reg.Rlo (literal_of true) true (clear_or false) t (literal_worth g t true)
      ∙ clears g calls units false (record t { registers = with_register reg.Rlo (pos 1) t.registers })

  set_alike : AreAlike (record now.registers { status = after_jump bits }) (set_registers s.registers)
  set_alike reg.Rlo asked = refl
  set_alike reg.Nfc asked = refl
  set_alike reg.Orb asked = refl
  set_alike reg.Sta asked = elim asked [ ]
  set_alike q asked = related.registers q asked

  abbrev saved_registers : Reg → ℤ
  saved_registers = with_register reg.Br (number_of bits.rlo) s.registers

  saved_alike : AreAlike (record now.registers { status = after_test (jump.RloSaved true) bits }) (set_registers saved_registers)
  saved_alike reg.Br asked = refl
  saved_alike reg.Rlo asked = refl
  saved_alike reg.Nfc asked = refl
  saved_alike reg.Orb asked = refl
  saved_alike reg.Sta asked = elim asked [ ]
  saved_alike q asked = related.registers q asked

  br_alike : AreAlike (record now.registers { status = after_test (jump.Br true) bits }) (cleared_registers g calls units false s.registers)
  br_alike reg.Nfc asked = refl
  br_alike reg.Orb asked = refl
  br_alike reg.Sta asked = elim asked [ ]
  br_alike q asked = related.registers q asked

  abbrev os_registers : Reg → ℤ
  os_registers = with_register reg.Os (pos 0) s.registers

  os_alike : AreAlike (record now.registers { status = after_test jump.StoredOverflow bits }) os_registers
  os_alike reg.Os asked = refl
  os_alike reg.Sta asked = elim asked [ ]
  os_alike q asked = related.registers q asked

  -- Jumps

  pub jump_does : (t : JumpTest) → HasTest t
      → LeadsToTest g (body_meaning g calls (jump_of first t) units s) units first frames s (after_jump_by t now) (tested_by_jump t now)
  jump_does jump.Always h = elim h [ ]
  jump_does (jump.Rlo wanted) h =
      let v : Value = flag (is_made (jump.Rlo wanted) bits) in
      tested v (question_of (jump.Rlo wanted)) (behind_jump (jump.Rlo wanted)) (after_jump bits) (set_registers s.registers)
      (question_worth (jump.Rlo wanted)) (sets_rlo (kept v)) set_alike
  jump_does (jump.RloSaved wanted) h =
      let v : Value = flag (is_made (jump.RloSaved wanted) bits) in
      tested v (question_of (jump.RloSaved wanted)) (behind_jump (jump.RloSaved wanted)) (after_test (jump.RloSaved wanted) bits)
      (set_registers saved_registers) (question_worth (jump.RloSaved wanted))
      (sets g calls units reg.Br (read_of reg.Rlo) bits.rlo (set_of reg.Rlo (literal_of true) ∷ clear_or false) (kept v)
      (rlo_worth g frames now (kept v) (kept_related v)) ∙ sets_rlo (record (kept v) { registers = saved_registers })) saved_alike
  jump_does (jump.Br wanted) h =
      let v : Value = flag (is_made (jump.Br wanted) bits) in
      tested v (question_of (jump.Br wanted)) (clear_or false) (after_test (jump.Br wanted) bits) (cleared_registers g calls units false s.registers)
      (question_worth (jump.Br wanted)) (clears g calls units false (kept v)) br_alike
  jump_does jump.Overflow h =
      tested (flag bits.ov) (question_of jump.Overflow) [] bits s.registers (question_worth jump.Overflow) refl related.registers
  jump_does jump.StoredOverflow h =
      let v : Value = flag bits.os in
      tested v (question_of jump.StoredOverflow) (behind_jump jump.StoredOverflow) (after_test jump.StoredOverflow bits)
      os_registers (question_worth jump.StoredOverflow)
      (sets g calls units reg.Os (literal_of false) false [] (kept v) (literal_worth g (kept v) false)) os_alike
  jump_does (jump.Result t) h =
      tested (flag (is_made (jump.Result t) bits)) (question_of (jump.Result t)) [] bits s.registers (question_worth (jump.Result t)) refl
      related.registers

  -- JL

  small_kept : (n : ℕ) → n < 256 → fit type.Dint (pos n) ≡ pos n
  small_kept n small = grind (arith, ints)

  byte_worth : value g low_byte_of s ≡ Ok (tested_by_list now)
  byte_worth =
      let n : ℕ = now.registers.accu1 % 2 ^ 8 in
      let small : n < 256 = omega arith in
      simp (value_convert, value_read, related.registers reg.Accu1 tt, small_kept n small)

  pub list_does : LeadsToTest g (body_meaning g calls (list_of first) units s) units first frames s now (tested_by_list now)
  list_does = tested (tested_by_list now) low_byte_of [] bits s.registers byte_worth refl related.registers

  -- BEC

  abbrev kept_os : Bool
  kept_os = bits.os && not bits.rlo

  abbrev end_registers : Reg → ℤ
  end_registers = set_registers (with_register reg.Os (number_of kept_os) s.registers)

  abbrev after_bits : Bool → StatusBits
  after_bits b = if b then after_end bits else after_jump bits

  end_alike : (rlo os : Bool) → bits.rlo ≡ rlo → bits.os ≡ os → AreAlike (record now.registers { status = after_bits rlo })
      (set_registers (with_register reg.Os (number_of (os && not rlo)) s.registers))
  end_alike true true e f reg.Rlo asked = sym (ap number_of e)
  end_alike true false e f reg.Rlo asked = sym (ap number_of e)
  end_alike true true e f reg.Os asked = refl
  end_alike true false e f reg.Os asked = refl
  end_alike true os e f reg.Nfc asked = refl
  end_alike true os e f reg.Orb asked = refl
  end_alike false true e f reg.Os asked = sym (ap number_of f)
  end_alike false false e f reg.Os asked = sym (ap number_of f)
  end_alike false os e f reg.Rlo asked = refl
  end_alike false os e f reg.Nfc asked = refl
  end_alike false os e f reg.Orb asked = refl
  end_alike rlo os e f reg.Sta asked = elim asked [ ]
  end_alike true os e f q asked = related.registers q asked
  end_alike false os e f q asked = related.registers q asked

  os_worth : value g (and_of (read_of reg.Os) (not_of (local_of first))) (kept (flag bits.rlo)) ≡ Ok (flag kept_os)
  os_worth =
      let t : State = kept (flag bits.rlo) in
      and_worth g t (read_of reg.Os) (not_of (local_of first)) bits.os (not bits.rlo)
      (register_worth g t reg.Os bits.os refl (related.registers reg.Os tt))
      (not_worth g t (local_of first) bits.rlo (local_read g first (flag bits.rlo) t (own_same first (flag bits.rlo) s (omega (arith, room)))))

  end_goes : LeadsToTest g (body_meaning g calls (end_if_of first) units s) units first frames s
      (record now { registers = record now.registers { status = after_bits bits.rlo } }) (tested_by_end_if now)
  end_goes =
      let v : Value = flag bits.rlo in
      tested v (read_of reg.Rlo)
      (set_of reg.Os (and_of (read_of reg.Os) (not_of (local_of first))) ∷ set_of reg.Rlo (literal_of true) ∷ clear_or false) (after_bits bits.rlo)
      end_registers (rlo_worth g frames now s related)
      (sets g calls units reg.Os (and_of (read_of reg.Os) (not_of (local_of first))) kept_os (set_of reg.Rlo (literal_of true) ∷ clear_or false)
      (kept v) os_worth ∙ sets_rlo (record (kept v) { registers = with_register reg.Os (number_of kept_os) s.registers }))
      (end_alike bits.rlo bits.os refl refl)

  by_rlo : (b : Bool) → record now { registers = record now.registers { status = after_bits b } }
      ≡ (if b then with_status after_end now else with_status after_jump now)
  by_rlo true = refl
  by_rlo false = refl

  pub end_if_does : LeadsToTest g (body_meaning g calls (end_if_of first) units s) units first frames s (after_end_if now) (tested_by_end_if now)
  end_if_does =
      subst (λ (after : Now). LeadsToTest g (body_meaning g calls (end_if_of first) units s) units first frames s after (tested_by_end_if now))
      (by_rlo bits.rlo) end_goes

-- LOOP

same_test : (n : ℕ) → int_eq (pos n) (pos 0) ≡ (n == 0)
same_test n = grind (arith, ints)

count_worth : (g : List Located) (frames : Frames) (now : Now) (s : State) → Related frames now s
    → value g is_counting_of s ≡ Ok (flag (not (part width.Word now.registers.accu1 == 0)))
count_worth g frames now s related =
    simp (value_binary, value_convert, value_read, value_literal, related.registers reg.Accu1 tt, same_test)

pub loop_does : (g : List Located) (calls : Calls) (units : ℕ) (frames : Frames) (now : Now) (s : State) → Related frames now s → (first : ℕ)
    → first + 1 ≤ length (own_of s.activations)
    → LeadsToTest g (body_meaning g calls (loop_of first) units s) units first frames s (after_count now) (tested_by_count now)
loop_does g calls units frames now s related first room =
    let counted = (accumulator_serves.add_word (negsuc 0) first).does g calls units frames now s refl related (omega (arith, room)) in
    let long : length (own_of counted.to.activations) ≡ length (own_of s.activations) = counted.as_many in
    let after : Now = after_count now in
    let test =
    tested g calls units frames after counted.to counted.related first (omega (arith, room, long))
    (tested_by_count now) is_counting_of [] after.registers.status counted.to.registers
    (count_worth g frames after counted.to counted.related) refl counted.related.registers in
    record {
      leads = record {
        to = test.leads.to;
        goes = goes_on_behind g calls (add_word_of (negsuc 0)) units s (set_local_of first is_counting_of ∷ []) units counted.to counted.goes
            ∙ test.leads.goes;
        related = test.leads.related;
        as_many = test.leads.as_many ∙ counted.as_many;
        below = λ i less. test.leads.below i less ∙ counted.below i less;
      };
      test = test.test;
    }
