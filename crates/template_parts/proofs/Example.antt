-- Two rows as they are to be proved: TAK, and +I.
use Rattle.std.proofs.Common.{ℕ, ◌+◌, ◌*◌, ◌/◌, ◌%◌, ◌^◌, ◌<◌, pos, ◌||◌, ◌≤◌, List, [], ◌∷◌, ◌++◌, ◌≡◌, length, Some, inl, inr, refl, subst, arith}
use Rattle.std.specs.Prelude.{ℤ, ◌+ℤ◌, int_lt}
use Rattle.s7_base.specs.SignedNumbers.{is_over, number, pattern, wrapped}
use Rattle.s7_base.specs.declared.register.Reg.{Reg}
use Rattle.s7_base.specs.declared.register.Reg.TheVariants as reg
use Rattle.stl_tree.specs.Now.{Now, next}
use Rattle.stl_tree.specs.Registers.{RegisterValues}
use Rattle.st_tree.specs.Meaning.{Calls, body_meaning}
use Rattle.st_tree.specs.State.{State, own_of, type_of_register}
use Rattle.st_tree.specs.WellTyped.{UnitScope, variable_type}
use Rattle.st_tree.specs.Values.{flag}
use Rattle.st_tree.specs.declared.state.Value.{Value}
use Rattle.st_tree.specs.declared.expr.BinaryOp.TheVariants as binary
use Rattle.st_tree.specs.declared.expr.Expr.{Expr}
use Rattle.st_tree.specs.declared.expr.StType.TheVariants as type
use Rattle.st_tree.specs.declared.expr.Var.TheVariants as var
use Rattle.st_tree.specs.declared.program.Located.{Located}
use Rattle.st_tree.specs.declared.program.Stmt.{Stmt}
use Rattle.template_parts.specs.Builders.{and_of, binary_of, constant_of, convert_of, local_of, or_of, read_of, set_local_of, set_of}
use Rattle.template_parts.specs.Nodes.{nodes_in}
use Rattle.template_parts.specs.Related.{AreAlike, Frames, Related}
use Rattle.instruction_laws.specs.Ranges.{AreInRange}
use Rattle.template_parts.specs.DoesInstruction.{DoesInstruction}
use Rattle.template_parts.proofs.Numbers.{or_numbers, over_word, pattern_below, put_low, same_pattern, wide_low, wide_sum}
use Rattle.template_parts.proofs.ReadRegisters.{AllRead, Has, variables_read}
use Rattle.template_parts.proofs.RegisterEffects.{HasRegisterEffect, registers_after, does_effect}
use Rattle.template_parts.proofs.Sizes.{counts}
use Rattle.template_parts.proofs.Stages.{known, parts}
use Rattle.template_parts.specs.Templates.{IsPlainBody}
use Rattle.template_parts.proofs.Typing.{IsOf, binary_is, constant_is, convert_is, local_is, local_plain, or_is, register_is, set_plain}

-- The rows, which stand in stl_tree

-- TAK
abbrev swapped : RegisterValues → RegisterValues
swapped r = record r { accu1 = r.accu2; accu2 = r.accu1 }

-- the sum of the low words
abbrev sum : RegisterValues → ℤ
sum r = number 16 (r.accu2 % 2 ^ 16) +ℤ number 16 (r.accu1 % 2 ^ 16)

-- +I
abbrev added : RegisterValues → RegisterValues
added r =
    record r {
      accu1 = r.accu1 / 2 ^ 16 * 2 ^ 16 + pattern 16 (sum r);
      status = record r.status {
        cc1 = int_lt (pos 0) (wrapped 16 (sum r));
        cc0 = int_lt (wrapped 16 (sum r)) (pos 0);
        ov = is_over 16 (sum r);
        os = r.status.os || is_over 16 (sum r);
      };
    }

-- Their statements, which stand in the specs of the crate that makes them; they read no register that the row does
-- not read, as OV

abbrev tak_of : ℕ → List Stmt
tak_of used = set_local_of used (read_of reg.Accu1) ∷ set_of reg.Accu1 (read_of reg.Accu2) ∷ set_of reg.Accu2 (local_of used) ∷ []

-- the low word of an accumulator as a number of 32 bits
abbrev wide_of : Reg → Expr
wide_of r = convert_of type.Int type.Dint (convert_of type.Dword type.Int (read_of r))

abbrev add_of : ℕ → List Stmt
add_of used =
    set_local_of used (binary_of binary.Add (wide_of reg.Accu2) (wide_of reg.Accu1))
    ∷ set_local_of (used + 1) (convert_of type.Dint type.Int (local_of used))
    ∷ set_local_of (used + 2) (binary_of binary.Ne (convert_of type.Int type.Dint (local_of (used + 1))) (local_of used))
    ∷ set_of reg.Cc1 (binary_of binary.Gt (local_of (used + 1)) (constant_of type.Int (pos 0)))
    ∷ set_of reg.Cc0 (binary_of binary.Lt (local_of (used + 1)) (constant_of type.Int (pos 0)))
    ∷ set_of reg.Ov (local_of (used + 2))
    ∷ set_of reg.Os (or_of (read_of reg.Os) (local_of (used + 2)))
    ∷ set_of reg.Accu1
    (or_of (and_of (read_of reg.Accu1) (constant_of type.Dword (pos 4294901760)))
    (convert_of type.Word type.Dword (convert_of type.Int type.Word (local_of (used + 1)))))
    ∷ []

-- What they do: the values of the right sides, in order, and that the registers are those of the row

abbrev tak_values : RegisterValues → List Value
tak_values r =
    record { ty = type.Dword; n = pos r.accu1 } ∷ record { ty = type.Dword; n = pos r.accu2 } ∷ record { ty = type.Dword; n = pos r.accu1 } ∷ []

abbrev add_values : RegisterValues → List Value
add_values r =
    record { ty = type.Dint; n = sum r }
    ∷ record { ty = type.Int; n = wrapped 16 (sum r) }
    ∷ flag (is_over 16 (sum r))
    ∷ flag (added r).status.cc1
    ∷ flag (added r).status.cc0
    ∷ flag (added r).status.ov
    ∷ flag (added r).status.os
    ∷ record { ty = type.Dword; n = pos (added r).accu1 }
    ∷ []

module _ (g : List Located) (s : State) (used : ℕ) (r : RegisterValues) (sta : ℤ) (range : AreInRange r) where
  tak_alike : AreAlike (swapped r) (registers_after (tak_of used) (tak_values r) (known r sta))
  tak_alike reg.Sta asked = elim asked [ ]
  tak_alike q asked = refl

  pub tak_effect : HasRegisterEffect g s used (tak_of used) r (swapped r) sta
  tak_effect =
      record {
        values = tak_values r;
        have = (refl, simp parts, (simp parts, (simp parts, tt)));
        alike = tak_alike;
        range = record { accu1 = range.accu2; accu2 = range.accu1; ar1 = range.ar1; ar2 = range.ar2; db = range.db; di = range.di };
      }

  add_alike : AreAlike (added r) (registers_after (add_of used) (add_values r) (known r sta))
  add_alike reg.Sta asked = elim asked [ ]
  add_alike q asked = refl

  pub add_effect : HasRegisterEffect g s used (add_of used) r (added r) sta
  add_effect =
      let a : r.accu1 < 2 ^ 32 = range.accu1 in
      let w : pattern 16 (sum r) < 2 ^ 16 = pattern_below (sum r) in
      record {
        values = add_values r;
        have = (
          refl,
          simp (parts, wide_low, wide_sum),
          (
            refl,
            simp parts,
            (refl, simp (parts, over_word), (simp parts, (simp parts, (simp parts, (simp (parts, or_numbers), (simp (parts, same_pattern, put_low), tt)))))),
          ),
        );
        alike = add_alike;
        range = record { accu1 = omega arith; accu2 = range.accu2; ar1 = range.ar1; ar2 = range.ar2; db = range.db; di = range.di };
      }

-- so they do the rows, in related states that have room for their locals

module _ (g : List Located) (calls : Calls) (units : ℕ) (frames : Frames) (now : Now) (s : State) (related : Related frames now s) (used : ℕ) where
  pub tak_does : used + 1 ≤ length (own_of s.activations)
      → DoesInstruction (body_meaning g calls (tak_of used) units s) units used frames s now.memory (next (record now { registers = swapped now.registers }))
  tak_does room =
      does_effect g s used calls units (tak_of used) frames now (swapped now.registers) related
      (tak_effect g s used now.registers (s.registers reg.Sta) related.range) room

  pub add_does : used + 3 ≤ length (own_of s.activations)
      → DoesInstruction (body_meaning g calls (add_of used) units s) units used frames s now.memory (next (record now { registers = added now.registers }))
  add_does room =
      does_effect g s used calls units (add_of used) frames now (added now.registers) related
      (add_effect g s used now.registers (s.registers reg.Sta) related.range) room

-- They are well typed, for locals of these types, and few: statements, nodes and registers that they read

module _ (sight : UnitScope) (used : ℕ) (rest : List Stmt) (plain : IsPlainBody sight rest) where
  pub tak_plain : variable_type sight (var.Local used) ≡ Some type.Dword → IsPlainBody sight (tak_of used ++ rest)
  tak_plain first =
      local_plain sight _ _ _ (omega arith) first (register_is sight reg.Accu1)
      (set_plain sight _ _ _ (omega arith) (register_is sight reg.Accu2)
      (set_plain sight _ _ _ (omega arith) (local_is sight first) plain))

  wide_is : (r : Reg) → type_of_register r ≡ type.Dword → IsOf sight type.Dint 3 (wide_of r)
  wide_is r e =
      convert_is sight refl (convert_is sight refl (subst (λ ty. IsOf sight ty 1 (read_of r)) e (register_is sight r)))

  pub add_plain : variable_type sight (var.Local used) ≡ Some type.Dint → variable_type sight (var.Local (used + 1)) ≡ Some type.Int
      → variable_type sight (var.Local (used + 2)) ≡ Some type.Bool → IsPlainBody sight (add_of used ++ rest)
  add_plain first second third =
      local_plain sight _ _ _ (omega arith) first (binary_is sight binary.Add tt refl (wide_is reg.Accu2 refl) (wide_is reg.Accu1 refl))
      (local_plain sight _ _ _ (omega arith) second (convert_is sight refl (local_is sight first))
      (local_plain sight _ _ _ (omega arith) third (binary_is sight binary.Ne tt refl (convert_is sight refl (local_is sight second)) (local_is sight first))
      (set_plain sight _ _ _ (omega arith) (binary_is sight binary.Gt tt refl (local_is sight second) (constant_is sight refl))
      (set_plain sight _ _ _ (omega arith) (binary_is sight binary.Lt tt refl (local_is sight second) (constant_is sight refl))
      (set_plain sight _ _ _ (omega arith) (local_is sight third)
      (set_plain sight _ _ _ (omega arith) (or_is sight (register_is sight reg.Os) (local_is sight third))
      (set_plain sight _ _ _ (omega arith)
      (binary_is sight binary.Or tt refl (binary_is sight binary.And tt refl (register_is sight reg.Accu1) (constant_is sight refl))
      (convert_is sight refl (convert_is sight refl (local_is sight second))))
      plain)))))))

pub tak_nodes : (used : ℕ) → nodes_in (tak_of used) ≡ 3
tak_nodes used = simp counts

pub add_nodes : (used : ℕ) → nodes_in (add_of used) ≡ 30
add_nodes used = simp counts

-- P is what holds of the registers that the instruction reads by its row
pub tak_reads : (P : Reg → Type 0) (used : ℕ) (rest : List Stmt) → Has P (reg.Accu1 ∷ reg.Accu2 ∷ []) → AllRead P rest → AllRead P (tak_of used ++ rest)
tak_reads P used rest h k = simp variables_read (h reg.Accu1 (inl refl), (h reg.Accu2 (inr (inl refl)), k))

pub add_reads : (P : Reg → Type 0) (used : ℕ) (rest : List Stmt) → Has P (reg.Accu1 ∷ reg.Accu2 ∷ reg.Os ∷ []) → AllRead P rest
    → AllRead P (add_of used ++ rest)
add_reads P used rest h k =
    let one : P reg.Accu1 = h reg.Accu1 (inl refl) in
    let two : P reg.Accu2 = h reg.Accu2 (inr (inl refl)) in
    simp variables_read (two, (one, (h reg.Os (inr (inr (inl refl))), (one, k))))
