-- What stands around a call: DBNO and DINO are saved, the chain and OS end, and behind the call both numbers are put
-- back.
use Rattle.std.proofs.Common.{◌≡◌, ◌≢◌, ℕ, ◌+◌, ◌<◌, ◌≤◌, pos, false, List, [], ◌∷◌, length, Ok, refl, ap, ◌∙◌, arith}
use Rattle.std.specs.Prelude.{ℤ, Some, slice_get}
use Rattle.call_templates.specs.Calls.{end_word_of, put_back_of, saved_of}
use Rattle.s7_base.specs.declared.register.Reg.{Reg}
use Rattle.s7_base.specs.declared.register.Reg.TheVariants as reg
use Rattle.status_word.specs.StatusBits.{after_end}
use Rattle.stl_tree.specs.Now.{Now}
use Rattle.stl_tree.specs.Registers.{RegisterValues}
use Rattle.st_tree.proofs.Equations.{assign_goes_on, value_read}
use Rattle.st_tree.proofs.Locals.{local_read, local_wrote, own_length, own_other, own_same, with_own}
use Rattle.st_tree.proofs.TwoParts.{goes_on_behind}
use Rattle.st_tree.specs.Meaning.{Calls, Normal, body_meaning}
use Rattle.st_tree.specs.State.{State, own_of, with_register}
use Rattle.st_tree.specs.Value.{value}
use Rattle.st_tree.specs.declared.expr.Expr.{Expr}
use Rattle.st_tree.specs.declared.expr.StType.TheVariants as type
use Rattle.st_tree.specs.declared.expr.Var.TheVariants as var
use Rattle.st_tree.specs.declared.program.Located.{Located}
use Rattle.st_tree.specs.declared.program.Stmt.{Stmt}
use Rattle.st_tree.specs.declared.state.Value.{Value}
use Rattle.template_parts.proofs.Alike.{keep_local}
use Rattle.template_parts.proofs.Operands.{cleared_registers, clears, sets}
use Rattle.template_parts.proofs.Truths.{literal_worth}
use Rattle.template_parts.specs.Builders.{clear_or, literal_of, local_of, read_of, set_local_of, set_of}
use Rattle.template_parts.specs.Related.{AreAlike, Frames, Related}

-- Locals

-- from one state to another that is related to the same one, only locals of the running unit from one on have changed
pub record OnlyLocals (frames : Frames) (now : Now) (first : ℕ) (s t : State) : Type 0 where
  pub related : Related frames now t
  pub memory : t.memory ≡ s.memory
  pub registers : t.registers ≡ s.registers
  pub as_many : length (own_of t.activations) ≡ length (own_of s.activations)
  pub below : (i : ℕ) → i < first → slice_get (own_of t.activations) i ≡ slice_get (own_of s.activations) i

pub nothing_changed : (frames : Frames) (now : Now) (first : ℕ) (s : State) → Related frames now s → OnlyLocals frames now first s s
nothing_changed frames now first s related =
    record { related = related; memory = refl; registers = refl; as_many = refl; below = λ i small. refl }

pub changed_on : (frames : Frames) (now : Now) (first second : ℕ) (s t u : State) → first ≤ second → OnlyLocals frames now first s t
    → OnlyLocals frames now second t u → OnlyLocals frames now first s u
changed_on frames now first second s t u less h k =
    record {
      related = k.related;
      memory = k.memory ∙ h.memory;
      registers = k.registers ∙ h.registers;
      as_many = k.as_many ∙ h.as_many;
      below = λ i small. k.below i (omega arith) ∙ h.below i small;
    }

-- a local takes a value
pub local_changed : (frames : Frames) (now : Now) (s : State) → Related frames now s → (first : ℕ) (v : Value)
    → OnlyLocals frames now first s (with_own first v s)
local_changed frames now s related first v =
    record {
      related = keep_local frames now s related first v;
      memory = refl;
      registers = refl;
      as_many = own_length first v s;
      below = λ i small. own_other first v s i (apart i small);
    }
  where
    apart : (i : ℕ) → i < first → i ≢ first
    apart i small same = absurd (omega arith)

pub takes : (g : List Located) (calls : Calls) (units i : ℕ) (e : Expr) (v : Value) (rest : List Stmt) (s : State) → i < length (own_of s.activations)
    → value g e s ≡ Ok v → body_meaning g calls (set_local_of i e ∷ rest) units s ≡ body_meaning g calls rest units (with_own i v s)
takes g calls units i e v rest s room h =
    assign_goes_on g calls (var.Local i) e rest units s (with_own i v s) v h (local_wrote g i v s room)

-- The numbers of the data blocks

-- a number as a WORD
abbrev pub word : ℕ → Value
word n = record { ty = type.Word; n = pos n }

-- two locals have the numbers of both data blocks
pub record HasNumbers (db di first : ℕ) (t : State) : Type 0 where
  pub has_db : slice_get (own_of t.activations) first ≡ Some (word db)
  pub has_di : slice_get (own_of t.activations) (first + 1) ≡ Some (word di)

-- as long as none of them changes
pub numbers_stay : (db di first second : ℕ) (t u : State) → first + 2 ≤ second
    → ((i : ℕ) → i < second → slice_get (own_of u.activations) i ≡ slice_get (own_of t.activations) i) → HasNumbers db di first t → HasNumbers db di first u
numbers_stay db di first second t u less below h =
    record { has_db = below first (omega arith) ∙ h.has_db; has_di = below (first + 1) (omega arith) ∙ h.has_di }

module _ (g : List Located) (calls : Calls) (units : ℕ) where
  module _ (frames : Frames) (now : Now) (s : State) (related : Related frames now s) (first : ℕ) (room : first + 2 ≤ length (own_of s.activations)) where
    abbrev db_saved : State
    db_saved = with_own first (word now.registers.db) s

    -- the state once they were saved
    abbrev pub numbers_saved : State
    numbers_saved = with_own (first + 1) (word now.registers.di) db_saved

    db_worth : value g (read_of reg.DbNo) s ≡ Ok (word now.registers.db)
    db_worth = value_read g (var.Register reg.DbNo) s ∙ ap (λ (n : ℤ). Ok (record { ty = type.Word; n = n })) (related.registers reg.DbNo tt)

    di_worth : value g (read_of reg.DiNo) db_saved ≡ Ok (word now.registers.di)
    di_worth = value_read g (var.Register reg.DiNo) db_saved ∙ ap (λ (n : ℤ). Ok (record { ty = type.Word; n = n })) (related.registers reg.DiNo tt)

    as_many_saved : length (own_of db_saved.activations) ≡ length (own_of s.activations)
    as_many_saved = own_length first (word now.registers.db) s

    pub saved_goes : body_meaning g calls (saved_of first) units s ≡ Normal units numbers_saved
    saved_goes =
        takes g calls units first (read_of reg.DbNo) (word now.registers.db) (set_local_of (first + 1) (read_of reg.DiNo) ∷ []) s (omega arith) db_worth
        ∙ takes g calls units (first + 1) (read_of reg.DiNo) (word now.registers.di) [] db_saved (omega (arith, as_many_saved)) di_worth

    pub saved_keeps : OnlyLocals frames now first s numbers_saved
    saved_keeps =
        let one = local_changed frames now s related first (word now.registers.db) in
        changed_on frames now first (first + 1) s db_saved numbers_saved (omega arith) one
        (local_changed frames now db_saved one.related (first + 1) (word now.registers.di))

    pub saved_numbers : HasNumbers now.registers.db now.registers.di first numbers_saved
    saved_numbers =
        record {
          has_db = own_other (first + 1) (word now.registers.di) db_saved first (λ same. absurd (omega arith))
              ∙ own_same first (word now.registers.db) s (omega arith);
          has_di = own_same (first + 1) (word now.registers.di) db_saved (omega (arith, as_many_saved));
        }

  -- The end word

  abbrev pub ended_registers : (Reg → ℤ) → Reg → ℤ
  ended_registers registers = with_register reg.Os (pos 0) (cleared_registers g calls units false registers)

  pub end_goes : (s : State) → body_meaning g calls end_word_of units s ≡ Normal units (record s { registers = ended_registers s.registers })
  end_goes s =
      let t : State = record s { registers = cleared_registers g calls units false s.registers } in
      goes_on_behind g calls (clear_or false) units s (set_of reg.Os (literal_of false) ∷ []) units t (clears g calls units false s)
      ∙ sets g calls units reg.Os (literal_of false) false [] t (literal_worth g t false)

  pub chain_ended : (r : RegisterValues) (registers : Reg → ℤ) → AreAlike r registers
      → AreAlike (record r { status = after_end r.status }) (ended_registers registers)
  chain_ended r registers alike reg.Nfc asked = refl
  chain_ended r registers alike reg.Orb asked = refl
  chain_ended r registers alike reg.Os asked = refl
  chain_ended r registers alike reg.Sta asked = elim asked [ ]
  chain_ended r registers alike q asked = alike q asked

  -- Behind a call

  -- the registers once both numbers were put back
  abbrev pub back_registers : ℕ → ℕ → (Reg → ℤ) → Reg → ℤ
  back_registers db di registers = with_register reg.DiNo (pos di) (with_register reg.DbNo (pos db) registers)

  pub put_back_goes : (first db di : ℕ) (s : State) → slice_get (own_of s.activations) first ≡ Some (word db)
      → slice_get (own_of s.activations) (first + 1) ≡ Some (word di)
      → body_meaning g calls (put_back_of first) units s ≡ Normal units (record s { registers = back_registers db di s.registers })
  put_back_goes first db di s one two =
      let t : State = record s { registers = with_register reg.DbNo (pos db) s.registers } in
      assign_goes_on g calls (var.Register reg.DbNo) (local_of first) (set_of reg.DiNo (local_of (first + 1)) ∷ []) units s t (word db)
      (local_read g first (word db) s one) refl
      ∙ assign_goes_on g calls (var.Register reg.DiNo) (local_of (first + 1)) [] units t (record s { registers = back_registers db di s.registers }) (word di)
      (local_read g (first + 1) (word di) t two) refl

  pub put_back_alike : (db di : ℕ) (r : RegisterValues) (registers : Reg → ℤ) → AreAlike r registers
      → AreAlike (record r { db = db; di = di }) (back_registers db di registers)
  put_back_alike db di r registers alike reg.DbNo asked = refl
  put_back_alike db di r registers alike reg.DiNo asked = refl
  put_back_alike db di r registers alike q asked = alike q asked
