-- The end word: its statements lead to the state of the ended block.
use Rattle.std.proofs.Common.{◌≡◌, ℕ, pos, false, List, [], ◌∷◌, refl, ◌∙◌}
use Rattle.status_word.specs.StatusBits.{after_end}
use Rattle.s7_base.specs.declared.register.Reg.TheVariants as reg
use Rattle.stl_tree.specs.Now.{Now, with_status}
use Rattle.st_tree.specs.Meaning.{Calls, Normal, body_meaning}
use Rattle.st_tree.specs.State.{State, with_register}
use Rattle.st_tree.specs.declared.program.Located.{Located}
use Rattle.call_templates.specs.Calls.{end_word_of}
use Rattle.st_tree.proofs.TwoParts.{goes_on_behind}
use Rattle.template_parts.proofs.Operands.{cleared_registers, clears, sets}
use Rattle.template_parts.proofs.Truths.{literal_worth}
use Rattle.template_parts.specs.Builders.{clear_or, literal_of, set_of}
use Rattle.template_parts.specs.Related.{AreAlike, Frames, Related}
use Rattle.template_parts.proofs.Alike.{keep_bits}

module _ (g : List Located) (calls : Calls) (units : ℕ) (frames : Frames) (now : Now) (s : State) (related : Related frames now s) where
  -- the state once OR, /FC and OS are cleared
  abbrev pub ended_state : State
  ended_state =
      record s { registers = with_register reg.Os (pos 0) (cleared_registers g calls units false s.registers) }

  end_alike : AreAlike (record now.registers { status = after_end now.registers.status }) ended_state.registers
  end_alike reg.Nfc asked = refl
  end_alike reg.Orb asked = refl
  end_alike reg.Os asked = refl
  end_alike reg.Sta asked = elim asked [ ]
  end_alike q asked = related.registers q asked

  -- its statements lead there, and the state is that of the ended block
  pub end_goes : body_meaning g calls end_word_of units s ≡ Normal units ended_state
  end_goes =
      goes_on_behind g calls (clear_or false) units s (set_of reg.Os (literal_of false) ∷ []) units
      (record s { registers = cleared_registers g calls units false s.registers }) (clears g calls units false s)
      ∙ sets g calls units reg.Os (literal_of false) false [] (record s { registers = cleared_registers g calls units false s.registers })
      (literal_worth g (record s { registers = cleared_registers g calls units false s.registers }) false)

  pub end_related : Related frames (with_status after_end now) ended_state
  end_related = keep_bits frames now s related (after_end now.registers.status) ended_state.registers end_alike
