-- What is read and written: bits and registers.
use Rattle.std.proofs.Common.{◌≡◌, ℕ, pos, Bool, true, false, List, [], ◌∷◌, Result, Ok, refl, ap, subst, ◌∙◌}
use Rattle.std.specs.Prelude.{ℤ}
use Rattle.memory_areas.specs.Access.{HoldsBytes, write_bit}
use Rattle.memory_areas.specs.Areas.{Contents}
use Rattle.memory_areas.specs.declared.place.Place.{Place}
use Rattle.s7_base.specs.declared.outcome.Fault.{Fault}
use Rattle.s7_base.specs.declared.register.Reg.{Reg}
use Rattle.s7_base.specs.declared.register.Reg.TheVariants as reg
use Rattle.stl_tree.specs.Now.{Now}
use Rattle.st_tree.specs.Meaning.{Calls, Normal, body_meaning}
use Rattle.st_tree.specs.State.{State, with_register}
use Rattle.st_tree.specs.Value.{value}
use Rattle.st_tree.specs.Values.{flag, is_set, number_of}
use Rattle.st_tree.specs.declared.expr.Expr.{Expr}
use Rattle.st_tree.specs.declared.expr.StType.TheVariants as type
use Rattle.st_tree.specs.declared.expr.Var.TheVariants as var
use Rattle.st_tree.specs.declared.program.Located.{Located}
use Rattle.st_tree.specs.declared.program.Stmt.{Stmt}
use Rattle.st_tree.proofs.FittingMemory.{AfterHolds, place_holds}
use Rattle.st_tree.proofs.Equations.{assign_goes_on}
use Rattle.template_parts.specs.Builders.{clear_or, literal_of, read_of, set_of}
use Rattle.template_parts.specs.Related.{Frames, Related}
use Rattle.template_parts.proofs.Truths.{literal_worth, register_worth}

set_flag : (b : Bool) → is_set (flag b) ≡ b
set_flag true = refl
set_flag false = refl

-- the memory after a bit was written holds bytes
pub bit_holds : (p : Place) (b : Bool) (before : Contents) (after : Result Contents Fault) → HoldsBytes before → write_bit p b before ≡ after → AfterHolds after
bit_holds p b before after holds e =
    subst AfterHolds (ap (λ v. write_bit p v before) (set_flag b) ∙ e) (place_holds type.Bool p (flag b) before holds)

module _ (g : List Located) (frames : Frames) (now : Now) (s : State) (related : Related frames now s) where
  -- the RLO and NFC, read
  pub rlo_worth : value g (read_of reg.Rlo) s ≡ Ok (flag now.registers.status.rlo)
  rlo_worth = register_worth g s reg.Rlo now.registers.status.rlo refl (related.registers reg.Rlo tt)

  pub nfc_worth : value g (read_of reg.Nfc) s ≡ Ok (flag now.registers.status.nfc)
  nfc_worth = register_worth g s reg.Nfc now.registers.status.nfc refl (related.registers reg.Nfc tt)

-- Registers, set

module _ (g : List Located) (calls : Calls) (units : ℕ) where
  pub sets : (r : Reg) (e : Expr) (b : Bool) (rest : List Stmt) (s : State) → value g e s ≡ Ok (flag b)
      → body_meaning g calls (set_of r e ∷ rest) units s ≡ body_meaning g calls rest units (record s { registers = with_register r (number_of b) s.registers })
  sets r e b rest s h =
      assign_goes_on g calls (var.Register r) e rest units s (record s { registers = with_register r (number_of b) s.registers }) (flag b) h refl

  -- OR and NFC after they were cleared, or NFC set
  abbrev pub cleared_registers : Bool → (Reg → ℤ) → Reg → ℤ
  cleared_registers nfc registers = with_register reg.Nfc (number_of nfc) (with_register reg.Orb (pos 0) registers)

  pub clears : (nfc : Bool) (s : State)
      → body_meaning g calls (clear_or nfc) units s ≡ Normal units (record s { registers = cleared_registers nfc s.registers })
  clears nfc s =
      let t : State = record s { registers = with_register reg.Orb (pos 0) s.registers } in
      sets reg.Orb (literal_of false) false (set_of reg.Nfc (literal_of nfc) ∷ []) s (literal_worth g s false)
      ∙ sets reg.Nfc (literal_of nfc) nfc [] t (literal_worth g t nfc)
