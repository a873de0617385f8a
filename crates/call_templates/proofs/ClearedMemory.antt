-- The memory after the local data and the cells of one activation were made zero, and its constants written.
use Rattle.std.proofs.Common.{◌≡◌, ℕ, zero, suc, ◌<◌, ◌≤◌, List, [], ◌∷◌, length, Ok, refl, sym, ap, ◌∙◌, arith}
use Rattle.std.specs.Prelude.{slice_get, slice_set}
use Rattle.call_templates.proofs.ConstantActuals.{AreRead, constants_written, get_other}
use Rattle.call_templates.proofs.Entering.{Begins, ReadsAlike}
use Rattle.call_templates.specs.CallLaw.{MayCall}
use Rattle.memory_areas.proofs.SameFaults.{blocks_after_clear}
use Rattle.memory_areas.specs.Areas.{Contents, with_zero_activation, zero_locals}
use Rattle.memory_areas.specs.Memory.{HasActivations}
use Rattle.memory_areas.specs.declared.sizes.TheConstants.{ACTIVATIONS}
use Rattle.s7_base.specs.declared.word.Width.{Width}
use Rattle.s7_base.specs.declared.word.Width.TheVariants as width
use Rattle.stl_tree.specs.Calls.{cell_of, with_constants}
use Rattle.stl_tree.specs.Now.{Now}
use Rattle.stl_tree.specs.declared.program.BlockCall.{BlockCall}
use Rattle.stl_tree.specs.declared.program.Formal.{Formal}
use Rattle.st_tree.proofs.FittingMemory.{cleared_holds}
use Rattle.st_tree.specs.State.{State, read_place}
use Rattle.st_tree.specs.Values.{type_of_width}
use Rattle.template_parts.specs.Related.{Frames, Related}

as_long : {X : Type 0} → (xs : List X) (i : ℕ) (x : X) → length (slice_set xs i x) ≡ length xs
as_long [] i x = refl
as_long (y ∷ xs) zero x = refl
as_long (y ∷ xs) (suc i) x = ap suc (as_long xs i x)

cleared_sizes : (d : ℕ) (m : Contents) → HasActivations m → HasActivations (with_zero_activation d m)
cleared_sizes d m h = (as_long m.locals d zero_locals ∙ h.0, as_long m.cells d zero_locals ∙ h.1)

-- cells of other activations read as before
cleared_reads : (d at : ℕ) (m : Contents) → (at ≡ d → ⊥) → ReadsAlike m (with_zero_activation d m) at
cleared_reads d at m apart j u = by u
  where
    same : slice_get (slice_set m.cells d zero_locals) at ≡ slice_get m.cells at
    same = get_other m.cells d at zero_locals apart

    by : (u : Width) → read_place (type_of_width u) (cell_of at j) (with_zero_activation d m) ≡ read_place (type_of_width u) (cell_of at j) m
    by width.Bit = rw same refl
    by width.Byte = rw same refl
    by width.Word = rw same refl
    by width.Dword = rw same refl

-- a call that may be made begins in such a memory, if it has no instance
pub record StartsWith (frames : Frames) (now : Now) (formals : List Formal) (c : BlockCall) : Type 0 where
  pub memory : Contents
  pub is : with_constants (length now.activations) 0 formals c.actuals (with_zero_activation (length now.activations) now.memory) ≡ Ok memory
  pub begins : Begins frames now memory
  pub reads : AreRead memory (length now.activations) 0 formals c.actuals
  pub local_data : (d : ℕ) → d < length now.activations → slice_get memory.locals d ≡ slice_get now.memory.locals d
  pub cells : (d : ℕ) → d < length now.activations → slice_get memory.cells d ≡ slice_get now.memory.cells d

module _ (frames : Frames) (now : Now) (s : State) (related : Related frames now s)
    (formals : List Formal) (c : BlockCall) (may : MayCall frames formals c) where
  deep : length now.activations ≡ suc (length frames.waiting)
  deep = ap length related.blocks ∙ sym related.depth

  small : length now.activations < ACTIVATIONS
  small = let all : length frames.blocks < ACTIVATIONS = may.deep in omega (arith, ap length related.blocks)

  pub starts_with : StartsWith frames now formals c
  starts_with =
      let d : ℕ = length now.activations in
      let cleared : Contents = with_zero_activation d now.memory in
      let few : length formals ≤ 64 = may.right.few in
      let done =
      constants_written frames.dbs frames.formals _ d small formals c.actuals 0 cleared may.right.actuals (omega arith)
      (cleared_holds d now.memory related.bytes) (cleared_sizes d now.memory related.sizes)
      (blocks_after_clear frames.dbs now.memory d related.sizes small related.faults) in
      record {
        memory = done.0;
        is = done.1;
        begins = record {
          areas = done.2.areas;
          locals = done.2.locals;
          bytes = done.2.bytes;
          sizes = done.2.sizes;
          faults = done.2.faults;
          others = λ at less j u.
              done.2.others at j u (λ same first. absurd (omega (arith, deep)))
              ∙ cleared_reads d at now.memory (λ same. absurd (omega (arith, deep))) j u;
        };
        reads = done.3;
        local_data = λ e less.
            ap (λ (xs : List (List ℕ)). slice_get xs e) done.2.locals
            ∙ get_other now.memory.locals d e zero_locals (λ same. absurd (omega arith));
        cells = λ e less.
            done.2.cells e (λ same. absurd (omega arith)) ∙ get_other now.memory.cells d e zero_locals (λ same. absurd (omega arith));
      }
