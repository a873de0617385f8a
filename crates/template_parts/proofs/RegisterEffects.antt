-- Rows that work on registers alone: their statements set fresh locals, one after another, and then registers.
use Rattle.std.proofs.Common.{◌≡◌, ℕ, suc, ◌+◌, ◌≤◌, List, [], ◌∷◌, ◌++◌, length, Ok, refl, ap, ◌∙◌, arith}
use Rattle.std.specs.Prelude.{ℤ}
use Rattle.s7_base.specs.declared.register.Reg.{Reg}
use Rattle.s7_base.specs.declared.register.Reg.TheVariants as reg
use Rattle.stl_tree.specs.Now.{Now, next}
use Rattle.stl_tree.specs.Registers.{RegisterValues}
use Rattle.st_tree.specs.Meaning.{Calls, Normal, body_meaning}
use Rattle.st_tree.specs.State.{State, own_of, with_register}
use Rattle.st_tree.specs.Value.{value}
use Rattle.st_tree.specs.declared.state.Value.{Value}
use Rattle.st_tree.specs.declared.expr.Var.TheVariants as var
use Rattle.st_tree.specs.declared.program.Located.{Located}
use Rattle.st_tree.specs.declared.program.Stmt.{Stmt}
use Rattle.st_tree.specs.declared.program.Stmt.TheVariants as stmt
use Rattle.st_tree.proofs.Equations.{assign_goes_on}
pub use Rattle.graph_rules.proofs.Runs.{locals_set}
use Rattle.template_parts.specs.Related.{AreAlike, Frames, Related}
use Rattle.instruction_laws.specs.Ranges.{AreInRange}
use Rattle.template_parts.specs.DoesInstruction.{DoesInstruction}
use Rattle.template_parts.proofs.Alike.{keep_locals, keep_registers}
use Rattle.template_parts.proofs.Stages.{known, laid, stage, stage_begins, stage_below, stage_keeps, stage_own_length, stage_sets}
use Rattle.template_parts.proofs.Units.{with_locals}

-- the position of the next local
abbrev pub next_local : ℕ → List Value → ℕ
next_local used [] = used
next_local used (v ∷ kept) = used + suc (length kept)

-- the registers after some statements, of whose right sides these are the values
abbrev pub registers_after : List Stmt → List Value → (Reg → ℤ) → Reg → ℤ
registers_after [] values registers = registers
registers_after (x ∷ rest) [] registers = registers
registers_after (stmt.Assign (var.Register r) e ∷ rest) (v ∷ values) registers = registers_after rest values (with_register r v.n registers)
registers_after (x ∷ rest) (v ∷ values) registers = registers_after rest values registers

-- other registers, in their ranges, and other locals
staged : (frames : Frames) (now : Now) (s : State) → Related frames now s → (used : ℕ) (kept : List Value) (after : RegisterValues) (registers : Reg → ℤ)
    → AreAlike after registers → AreInRange after → Related frames (record now { registers = after }) (stage s used kept registers)
unfolding stage
staged frames now s related used kept after registers alike range =
    let xs : List Value = laid used kept (own_of s.activations) in
    keep_registers frames now (record s { activations = with_locals xs s.activations }) (keep_locals frames now s related xs) after registers alike range

module _ (g : List Located) (s : State) (used : ℕ) where
  -- each right side has its value, where the statements before it have been done: a local is the next one
  abbrev pub HaveValues : List Stmt → List Value → List Value → (Reg → ℤ) → Type 0
  HaveValues [] [] kept registers = Unit {0}
  HaveValues [] (v ∷ values) kept registers = ⊥
  HaveValues (x ∷ rest) [] kept registers = ⊥
  HaveValues (stmt.Assign (var.Local i) e ∷ rest) (v ∷ values) kept registers =
      (i ≡ next_local used kept) × (value g e (stage s used kept registers) ≡ Ok v) × HaveValues rest values (kept ++ v ∷ []) registers
  HaveValues (stmt.Assign (var.Register r) e ∷ rest) (v ∷ values) kept registers =
      (value g e (stage s used kept registers) ≡ Ok v) × HaveValues rest values kept (with_register r v.n registers)
  HaveValues (x ∷ rest) (v ∷ values) kept registers = ⊥

  -- what a row on registers owes: values of its right sides, which make of the registers r those after it, each in
  -- its range, whatever number STA holds
  pub record HasRegisterEffect (body : List Stmt) (r after : RegisterValues) (sta : ℤ) : Type 0 where
    pub values : List Value
    pub have : HaveValues body values [] (known r sta)
    pub alike : AreAlike after (registers_after body values (known r sta))
    pub range : AreInRange after

  position : (kept : List Value) → next_local used kept ≡ used + length kept
  position [] = omega arith
  position (v ∷ kept) = refl

  module _ (calls : Calls) (units : ℕ) where
    abbrev own : List Value
    own = own_of s.activations

    -- where they end
    record Ended (body : List Stmt) (kept : List Value) (registers after : Reg → ℤ) : Type 0 where
      all : List Value
      goes : body_meaning g calls body units (stage s used kept registers) ≡ Normal units (stage s used all after)
      few : used + length all ≤ length own

    one_more : (kept : List Value) (v : Value) → length (kept ++ v ∷ []) ≡ suc (length kept)
    one_more [] v = refl
    one_more (k ∷ kept) v = ap suc (one_more kept v)

    ends : (body : List Stmt) (values kept : List Value) (registers : Reg → ℤ) → HaveValues body values kept registers
        → used + length kept + locals_set body ≤ length own → Ended body kept registers (registers_after body values registers)
    ends [] [] kept registers h room = record { all = kept; goes = refl; few = omega arith }
    ends [] (v ∷ values) kept registers h room = elim h [ ]
    ends (x ∷ rest) [] kept registers h room = elim h [ ]
    ends (stmt.Assign (var.Local i) e ∷ rest) (v ∷ values) kept registers h room =
        let at : i ≡ used + length kept = h.0 ∙ position kept in
        let more : length (kept ++ v ∷ []) ≡ suc (length kept) = one_more kept v in
        let others = ends rest values (kept ++ v ∷ []) registers h.2 (omega arith) in
        record {
          all = others.all;
          goes = assign_goes_on g calls (var.Local i) e rest units (stage s used kept registers) (stage s used (kept ++ v ∷ []) registers) v h.1
              (stage_keeps s used kept registers g i v at (omega arith)) ∙ others.goes;
          few = others.few;
        }
    ends (stmt.Assign (var.Register r) e ∷ rest) (v ∷ values) kept registers h room =
        let others = ends rest values kept (with_register r v.n registers) h.1 room in
        record {
          all = others.all;
          goes = assign_goes_on g calls (var.Register r) e rest units (stage s used kept registers) (stage s used kept (with_register r v.n registers)) v h.0
              (stage_sets s used kept registers g r v) ∙ others.goes;
          few = others.few;
        }
    ends (x ∷ rest) (v ∷ values) kept registers h room = elim h [ ]

    -- they do the row
    pub does_effect : (body : List Stmt) (frames : Frames) (now : Now) (after : RegisterValues) → Related frames now s
        → HasRegisterEffect body now.registers after (s.registers reg.Sta) → used + locals_set body ≤ length own
        → DoesInstruction (body_meaning g calls body units s) units used frames s now.memory (next (record now { registers = after }))
    does_effect body frames now after related row room =
        let begins : s ≡ stage s used [] (known now.registers (s.registers reg.Sta)) = stage_begins s used now.registers related.registers (omega arith) in
        let e = ends body row.values [] (known now.registers (s.registers reg.Sta)) row.have (omega arith) in
        let f : Reg → ℤ = registers_after body row.values (known now.registers (s.registers reg.Sta)) in
        record {
          to = stage s used e.all f;
          goes = ap (body_meaning g calls body units) begins ∙ e.goes;
          related = staged frames now s related used e.all after f row.alike row.range;
          as_many = stage_own_length s used e.all f e.few;
          below = λ i h. stage_below s used e.all f i h (omega arith);
        }
