-- What works on the status word alone: its statements do what its row does.
use Rattle.std.proofs.Common.{◌≡◌, ℕ, pos, Bool, true, false, not, ◌&&◌, ◌||◌, if◌then◌else◌, List, [], ◌∷◌, Ok, refl, ap, ◌∙◌}
use Rattle.status_word.specs.StatusBits.{StatusBits, after_clear, after_not, after_or, after_save, after_set, answer_to}
use Rattle.status_word.specs.declared.test.Test.{Test}
use Rattle.status_word.specs.declared.test.Test.TheVariants as test
use Rattle.s7_base.specs.declared.register.Reg.TheVariants as reg
use Rattle.stl_tree.specs.Now.{Now, next, with_status}
use Rattle.st_tree.specs.Meaning.{Calls, body_meaning}
use Rattle.st_tree.specs.State.{State, with_register}
use Rattle.st_tree.specs.Value.{value}
use Rattle.st_tree.specs.Values.{flag, number_of}
use Rattle.st_tree.specs.declared.program.Located.{Located}
use Rattle.bit_templates.specs.Bits.{answer_of, inverted_of, or_alone_of, rlo_set, saved_of}
use Rattle.template_parts.specs.Builders.{and_of, clear_or, literal_of, not_of, read_of, set_of}
use Rattle.template_parts.specs.Related.{AreAlike, Frames, Related}
use Rattle.template_parts.proofs.Alike.{keep_bits}
use Rattle.template_parts.specs.DoesInstruction.{DoesInstruction}
use Rattle.template_parts.proofs.Operands.{cleared_registers, clears, nfc_worth, rlo_worth, sets}
use Rattle.template_parts.proofs.Truths.{and_worth, literal_worth, not_worth, register_worth, xor_worth}

module _ (g : List Located) (calls : Calls) (units : ℕ) (frames : Frames) (now : Now) (s : State) (related : Related frames now s) (used : ℕ) where
  abbrev bits : StatusBits
  bits = now.registers.status

  -- Questions

  cc1 : value g (read_of reg.Cc1) s ≡ Ok (flag bits.cc1)
  cc1 = register_worth g s reg.Cc1 bits.cc1 refl (related.registers reg.Cc1 tt)

  cc0 : value g (read_of reg.Cc0) s ≡ Ok (flag bits.cc0)
  cc0 = register_worth g s reg.Cc0 bits.cc0 refl (related.registers reg.Cc0 tt)

  no_cc1 : value g (not_of (read_of reg.Cc1)) s ≡ Ok (flag (not bits.cc1))
  no_cc1 = not_worth g s (read_of reg.Cc1) bits.cc1 cc1

  no_cc0 : value g (not_of (read_of reg.Cc0)) s ≡ Ok (flag (not bits.cc0))
  no_cc0 = not_worth g s (read_of reg.Cc0) bits.cc0 cc0

  differ : (a b : Bool) → (if a then not b else b) ≡ ((not a && b) || (a && not b))
  differ true true = refl
  differ true false = refl
  differ false true = refl
  differ false false = refl

  -- the answer to a question to the status word
  pub answer_worth : (t : Test) → value g (answer_of t) s ≡ Ok (flag (answer_to t bits))
  answer_worth test.Eq = and_worth g s (not_of (read_of reg.Cc1)) (not_of (read_of reg.Cc0)) (not bits.cc1) (not bits.cc0) no_cc1 no_cc0
  answer_worth test.Ne =
      xor_worth g s (read_of reg.Cc1) (read_of reg.Cc0) bits.cc1 bits.cc0 cc1 cc0 ∙ ap (λ b. Ok (flag b)) (differ bits.cc1 bits.cc0)
  answer_worth test.Gt = and_worth g s (read_of reg.Cc1) (not_of (read_of reg.Cc0)) bits.cc1 (not bits.cc0) cc1 no_cc0
  answer_worth test.Lt = and_worth g s (not_of (read_of reg.Cc1)) (read_of reg.Cc0) (not bits.cc1) bits.cc0 no_cc1 cc0
  answer_worth test.Ge = no_cc0
  answer_worth test.Le = no_cc1
  answer_worth test.Uo = and_worth g s (read_of reg.Cc1) (read_of reg.Cc0) bits.cc1 bits.cc0 cc1 cc0
  answer_worth test.Ov = register_worth g s reg.Ov bits.ov refl (related.registers reg.Ov tt)
  answer_worth test.Os = register_worth g s reg.Os bits.os refl (related.registers reg.Os tt)
  answer_worth test.Br = register_worth g s reg.Br bits.br refl (related.registers reg.Br tt)

  -- The RLO

  set_alike : AreAlike (record now.registers { status = after_set bits }) (cleared_registers g calls units false (with_register reg.Rlo (pos 1) s.registers))
  set_alike reg.Rlo asked = refl
  set_alike reg.Nfc asked = refl
  set_alike reg.Orb asked = refl
  set_alike reg.Sta asked = elim asked [ ]
  set_alike q asked = related.registers q asked

  clear_alike : AreAlike (record now.registers { status = after_clear bits })
      (cleared_registers g calls units false (with_register reg.Rlo (pos 0) s.registers))
  clear_alike reg.Rlo asked = refl
  clear_alike reg.Nfc asked = refl
  clear_alike reg.Orb asked = refl
  clear_alike reg.Sta asked = elim asked [ ]
  clear_alike q asked = related.registers q asked

  pub set_rlo_does : DoesInstruction (body_meaning g calls (rlo_set true) units s) units used frames s now.memory (next (with_status after_set now))
  set_rlo_does =
      let t : State = record s { registers = with_register reg.Rlo (pos 1) s.registers } in
      let u : State = record t { registers = cleared_registers g calls units false t.registers } in record {
        to = u;
        goes = sets g calls units reg.Rlo (literal_of true) true (clear_or false) s (literal_worth g s true) ∙ clears g calls units false t;
        related = keep_bits frames now s related (after_set bits) u.registers set_alike;
        as_many = refl;
        below = λ i small. refl;
      }

  pub clear_rlo_does : DoesInstruction (body_meaning g calls (rlo_set false) units s) units used frames s now.memory (next (with_status after_clear now))
  clear_rlo_does =
      let t : State = record s { registers = with_register reg.Rlo (pos 0) s.registers } in
      let u : State = record t { registers = cleared_registers g calls units false t.registers } in record {
        to = u;
        goes = sets g calls units reg.Rlo (literal_of false) false (clear_or false) s (literal_worth g s false) ∙ clears g calls units false t;
        related = keep_bits frames now s related (after_clear bits) u.registers clear_alike;
        as_many = refl;
        below = λ i small. refl;
      }

  not_alike : AreAlike (record now.registers { status = after_not bits }) (with_register reg.Rlo (number_of (not bits.rlo)) s.registers)
  not_alike reg.Rlo asked = refl
  not_alike reg.Sta asked = elim asked [ ]
  not_alike q asked = related.registers q asked

  pub not_does : DoesInstruction (body_meaning g calls inverted_of units s) units used frames s now.memory (next (with_status after_not now))
  not_does =
      let t : State = record s { registers = with_register reg.Rlo (number_of (not bits.rlo)) s.registers } in record {
        to = t;
        goes =
            sets g calls units reg.Rlo (not_of (read_of reg.Rlo)) (not bits.rlo) [] s
            (not_worth g s (read_of reg.Rlo) bits.rlo (rlo_worth g frames now s related));
        related = keep_bits frames now s related (after_not bits) t.registers not_alike;
        as_many = refl;
        below = λ i small. refl;
      }

  save_alike : AreAlike (record now.registers { status = after_save bits }) (with_register reg.Br (number_of bits.rlo) s.registers)
  save_alike reg.Br asked = refl
  save_alike reg.Sta asked = elim asked [ ]
  save_alike q asked = related.registers q asked

  pub save_does : DoesInstruction (body_meaning g calls saved_of units s) units used frames s now.memory (next (with_status after_save now))
  save_does =
      let t : State = record s { registers = with_register reg.Br (number_of bits.rlo) s.registers } in record {
        to = t;
        goes = sets g calls units reg.Br (read_of reg.Rlo) bits.rlo [] s (rlo_worth g frames now s related);
        related = keep_bits frames now s related (after_save bits) t.registers save_alike;
        as_many = refl;
        below = λ i small. refl;
      }

  -- OR

  or_alike : AreAlike (record now.registers { status = after_or bits })
      (with_register reg.Nfc (pos 0) (with_register reg.Orb (number_of (bits.rlo && bits.nfc)) s.registers))
  or_alike reg.Nfc asked = refl
  or_alike reg.Orb asked = refl
  or_alike reg.Sta asked = elim asked [ ]
  or_alike q asked = related.registers q asked

  pub or_does : DoesInstruction (body_meaning g calls or_alone_of units s) units used frames s now.memory (next (with_status after_or now))
  or_does =
      let t : State = record s { registers = with_register reg.Orb (number_of (bits.rlo && bits.nfc)) s.registers } in
      let u : State = record t { registers = with_register reg.Nfc (pos 0) t.registers } in record {
        to = u;
        goes = sets g calls units reg.Orb (and_of (read_of reg.Rlo) (read_of reg.Nfc)) (bits.rlo && bits.nfc) (set_of reg.Nfc (literal_of false) ∷ []) s
            (and_worth g s (read_of reg.Rlo) (read_of reg.Nfc) bits.rlo bits.nfc (rlo_worth g frames now s related) (nfc_worth g frames now s related))
            ∙ sets g calls units reg.Nfc (literal_of false) false [] t (literal_worth g t false);
        related = keep_bits frames now s related (after_or bits) u.registers or_alike;
        as_many = refl;
        below = λ i small. refl;
      }

  pub nop_does : DoesInstruction (body_meaning g calls [] units s) units used frames s now.memory (next now)
  nop_does = record { to = s; goes = refl; related = related; as_many = refl; below = λ i small. refl }
