-- Related states, as one thing after another changes.
use Rattle.std.proofs.Common.{◌≡◌, ℕ, suc, ◌+◌, ◌^◌, ◌<◌, pos, List, [], ◌∷◌, ◌++◌, length, Option, Some, None, refl, sym, ap, subst, ◌∙◌, arith}
use Rattle.std.specs.Prelude.{ℤ, slice_get, slice_set}
use Rattle.memory_areas.specs.Areas.{Contents}
use Rattle.memory_areas.specs.Access.{HoldsBytes, area_named}
use Rattle.memory_areas.specs.Memory.{HasActivations, HasBlocks}
use Rattle.memory_areas.specs.declared.place.AreaName.{AreaName}
use Rattle.memory_areas.specs.declared.place.Place.{Place}
use Rattle.status_word.specs.StatusBits.{StatusBits}
use Rattle.s7_base.specs.declared.check.Entry.{Entry}
use Rattle.s7_base.specs.declared.register.Reg.{Reg}
use Rattle.s7_base.specs.declared.register.Reg.TheVariants as reg
use Rattle.s7_base.specs.declared.word.Width.{Width}
use Rattle.stl_tree.specs.Calls.{cell_of, going_on, going_on_at}
use Rattle.stl_tree.specs.Now.{Activation, Now, depth}
use Rattle.stl_tree.specs.Registers.{RegisterValues}
pub use Rattle.instruction_laws.proofs.RangeEffects.{any_status}
use Rattle.instruction_laws.specs.Ranges.{AreInRange}
use Rattle.st_tree.specs.State.{Activation as Running, State, db_number, di_number, depth as depth_of_state, place_of, with_local}
use Rattle.st_tree.specs.Values.{pattern, type_of_width}
use Rattle.st_tree.specs.declared.state.Value.{Value}
use Rattle.template_parts.specs.Related.{AreAlike, AreFormals, AreHeld, Constant, Frames, IsHeld, Related, Wait, Waiting, formals_of_block, without_cells}
use Rattle.template_parts.proofs.Cells.{cell_read_alike}
use Rattle.template_parts.proofs.Units.{last_with, with_locals}

-- Waiting units

-- a constant is held where the cells are as they were
pub held_kept : (before after : Contents) (depth k : ℕ) (w : Width) (v : Option Value) → after.cells ≡ before.cells
    → IsHeld before (cell_of depth k) w v → IsHeld after (cell_of depth k) w v
held_kept before after depth k w None e h = h
held_kept before after depth k w (Some v) e h = cell_read_alike (cell_of depth k) tt (type_of_width w) after before e ∙ h

all_held : (before after : Contents) (depth k : ℕ) (constants : List (Option Constant)) (unit : Running) → after.cells ≡ before.cells
    → AreHeld before depth k constants unit → AreHeld after depth k constants unit
all_held before after depth k [] unit e h = tt
all_held before after depth k (None ∷ constants) unit e h = all_held before after depth (suc k) constants unit e h
all_held before after depth k (Some c ∷ constants) unit e h = (
  held_kept before after depth k c.width (slice_get unit.locals c.local) e h.0,
  all_held before after depth (suc k) constants unit e h.1,
)

wait_kept : (before after : Contents) (d : ℕ) (waiting : List Waiting) (units : List Running) → after.cells ≡ before.cells
    → Wait before d waiting units → Wait after d waiting units
wait_kept before after d [] [] e h = tt
wait_kept before after d (was ∷ waiting) (unit ∷ units) e h =
    (h.0, all_held before after (suc d) 0 was.constants unit e h.1, wait_kept before after (suc d) waiting units e h.2)
wait_kept before after d waiting units e h = absurd h

-- as many wait
pub wait_length : (memory : Contents) (d : ℕ) (waiting : List Waiting) (units : List Running) → Wait memory d waiting units
    → length units ≡ length waiting
wait_length memory d [] [] h = refl
wait_length memory d (was ∷ waiting) (unit ∷ units) h = ap suc (wait_length memory (suc d) waiting units h.2)
wait_length memory d waiting units h = absurd h

-- The running unit

-- a local of the last unit takes a value
last_set : (waiting : List Running) (running : Running) (i : ℕ) (v : Value)
    → with_local (length waiting) i v (waiting ++ running ∷ []) ≡ waiting ++ record running { locals = slice_set running.locals i v } ∷ []
last_set [] running i v = refl
last_set (a ∷ waiting) running i v = ap (λ (rest : List Running). a ∷ rest) (last_set waiting running i v)

pub one_longer : (waiting : List Running) (running : Running) → length (waiting ++ running ∷ []) ≡ suc (length waiting)
one_longer [] running = refl
one_longer (a ∷ waiting) running = ap suc (one_longer waiting running)

-- What changes, one thing at a time

module _ (frames : Frames) (now : Now) (s : State) (related : Related frames now s) where
  -- the number of the running unit is that of those that wait
  pub as_many_wait : depth_of_state s ≡ length frames.waiting
  as_many_wait =
      let all : length s.activations ≡ suc (length related.units) = ap length related.activations ∙ one_longer related.units related.running in
      let many : length related.units ≡ length frames.waiting = wait_length now.memory 0 frames.waiting related.units related.wait in
      omega arith

  -- other status bits, and register variables that have their numbers
  pub keep_bits : (bits : StatusBits) (registers : Reg → ℤ) → AreAlike (record now.registers { status = bits }) registers
      → Related frames (record now { registers = record now.registers { status = bits } }) (record s { registers = registers })
  keep_bits bits registers alike =
      record {
        registers = alike;
        range = any_status now.registers bits related.range;
        memory = related.memory;
        bytes = related.bytes;
        sizes = related.sizes;
        faults = related.faults;
        blocks = related.blocks;
        depth = related.depth;
        units = related.units;
        wait = related.wait;
        running = related.running;
        activations = related.activations;
        formals = related.formals;
      }

  -- other registers, in their ranges
  pub keep_registers : (after : RegisterValues) (registers : Reg → ℤ) → AreAlike after registers → AreInRange after
      → Related frames (record now { registers = after }) (record s { registers = registers })
  keep_registers after registers alike range =
      record {
        registers = alike;
        range = range;
        memory = related.memory;
        bytes = related.bytes;
        sizes = related.sizes;
        faults = related.faults;
        blocks = related.blocks;
        depth = related.depth;
        units = related.units;
        wait = related.wait;
        running = related.running;
        activations = related.activations;
        formals = related.formals;
      }

  -- another memory, which holds bytes, and in its cells what was there
  pub keep_memory : (m : Contents) → HoldsBytes m → HasActivations m → HasBlocks frames.dbs m → m.cells ≡ now.memory.cells
      → Related frames (record now { memory = m }) (record s { memory = without_cells m })
  keep_memory m holds sizes faults cells =
      record {
        registers = related.registers;
        range = related.range;
        memory = refl;
        bytes = holds;
        sizes = sizes;
        faults = faults;
        blocks = related.blocks;
        depth = related.depth;
        units = related.units;
        wait = wait_kept now.memory m 0 frames.waiting related.units cells related.wait;
        running = related.running;
        activations = related.activations;
        formals = related.formals;
      }

  -- other open brackets, of which the related state says nothing
  pub keep_brackets : (entries : List Entry) → Related frames (record now { brackets = entries }) s
  keep_brackets entries =
      record {
        registers = related.registers;
        range = related.range;
        memory = related.memory;
        bytes = related.bytes;
        sizes = related.sizes;
        faults = related.faults;
        blocks = related.blocks;
        depth = related.depth;
        units = related.units;
        wait = related.wait;
        running = related.running;
        activations = related.activations;
        formals = related.formals;
      }

  -- another value in a local of the running unit
  pub keep_local : (i : ℕ) (v : Value) → Related frames now (record s { activations = with_local (depth_of_state s) i v s.activations })
  keep_local i v =
      let many : length related.units ≡ length frames.waiting = wait_length now.memory 0 frames.waiting related.units related.wait in
      record {
        registers = related.registers;
        range = related.range;
        memory = related.memory;
        bytes = related.bytes;
        sizes = related.sizes;
        faults = related.faults;
        blocks = related.blocks;
        depth = related.depth;
        units = related.units;
        wait = related.wait;
        running = record related.running { locals = slice_set related.running.locals i v };
        activations = ap (λ (d : ℕ). with_local d i v s.activations) (as_many_wait ∙ sym many)
            ∙ ap (with_local (length related.units) i v) related.activations ∙ last_set related.units related.running i v;
        formals = related.formals;
      }

  -- other values in all of them
  pub keep_locals : (xs : List Value) → Related frames now (record s { activations = with_locals xs s.activations })
  keep_locals xs =
      record {
        registers = related.registers;
        range = related.range;
        memory = related.memory;
        bytes = related.bytes;
        sizes = related.sizes;
        faults = related.faults;
        blocks = related.blocks;
        depth = related.depth;
        units = related.units;
        wait = related.wait;
        running = record related.running { locals = xs };
        activations = ap (with_locals xs) related.activations ∙ last_with xs related.units related.running;
        formals = related.formals;
      }

-- the frames, whose running block goes on behind its instruction
abbrev pub frames_on : Frames → Frames
frames_on frames = record frames { blocks = going_on frames.blocks }

-- the same formals, and as many blocks
pub on_formals : (blocks : List Activation) → formals_of_block (going_on blocks) ≡ formals_of_block blocks
on_formals [] = refl
on_formals (a ∷ waiting) = refl

pub on_length : (blocks : List Activation) → length (going_on blocks) ≡ length blocks
on_length [] = refl
on_length (a ∷ waiting) = refl

at_formals : (to : ℕ) (blocks : List Activation) → formals_of_block (going_on_at to blocks) ≡ formals_of_block blocks
at_formals to [] = refl
at_formals to (a ∷ waiting) = refl

at_length : (to : ℕ) (blocks : List Activation) → length (going_on_at to blocks) ≡ length blocks
at_length to [] = refl
at_length to (a ∷ waiting) = refl

-- the running activation goes on behind its instruction
pub keep_position : (frames : Frames) (now : Now) (s : State) → Related frames now s
    → Related (frames_on frames) (record now { activations = going_on now.activations }) s
keep_position frames now s related =
    record {
      registers = related.registers;
      range = related.range;
      memory = related.memory;
      bytes = related.bytes;
      blocks = ap going_on related.blocks;
      running = related.running;
      sizes = related.sizes;
      faults = related.faults;
      depth = related.depth ∙ sym (on_length frames.blocks);
      units = related.units;
      wait = related.wait;
      activations = related.activations;
      formals =
          subst (λ (places : List (Option Place)). AreFormals frames.waiting frames.dbs frames.formals places related.running.formals)
          (sym (on_formals frames.blocks)) related.formals;
    }

-- or at another position
pub keep_position_at : (to : ℕ) (frames : Frames) (now : Now) (s : State) → Related frames now s
    → Related (record frames { blocks = going_on_at to frames.blocks }) (record now { activations = going_on_at to now.activations }) s
keep_position_at to frames now s related =
    record {
      registers = related.registers;
      range = related.range;
      memory = related.memory;
      bytes = related.bytes;
      blocks = ap (going_on_at to) related.blocks;
      running = related.running;
      sizes = related.sizes;
      faults = related.faults;
      depth = related.depth ∙ sym (at_length to frames.blocks);
      units = related.units;
      wait = related.wait;
      activations = related.activations;
      formals =
          subst (λ (places : List (Option Place)). AreFormals frames.waiting frames.dbs frames.formals places related.running.formals)
          (sym (at_formals to frames.blocks)) related.formals;
    }

-- Places

number_kept : (n : ℕ) → n < 2 ^ 16 → pattern 16 (pos n) ≡ n
number_kept n h = omega arith

same_depth : (blocks : List Activation) (n : ℕ) → suc n ≡ length blocks → n ≡ depth blocks
same_depth [] n e = absurd (omega arith)
same_depth (a ∷ waiting) n e = omega arith

-- the place of a written operand
abbrev pub place_now : AreaName → ℕ → ℕ → Now → Place
place_now a byte x now = record { area = area_named a now.registers.db now.registers.di (depth now.activations); byte = byte; bit = x }

module _ (frames : Frames) (now : Now) (s : State) (related : Related frames now s) where
  -- the numbers by which places are found
  pub same_db : db_number s ≡ now.registers.db
  same_db = ap (pattern 16) (related.registers reg.DbNo tt) ∙ number_kept now.registers.db related.range.db

  pub same_di : di_number s ≡ now.registers.di
  same_di = ap (pattern 16) (related.registers reg.DiNo tt) ∙ number_kept now.registers.di related.range.di

  pub as_deep_as : depth_of_state s ≡ depth now.activations
  as_deep_as =
      as_many_wait frames now s related ∙ same_depth frames.blocks (length frames.waiting) related.depth
      ∙ sym (ap depth related.blocks)

  -- an operand and its variable name the same place
  pub same_place : (a : AreaName) (byte x : ℕ) → place_of a byte x s ≡ place_now a byte x now
  same_place a byte x = rw (same_db, same_di, as_deep_as) refl

  -- the areas of both memories are the same
  pub same_areas : s.memory.areas ≡ now.memory.areas
  same_areas = ap (λ (m : Contents). m.areas) related.memory
