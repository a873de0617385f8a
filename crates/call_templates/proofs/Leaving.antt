-- A called block ends: the unit that called it has its locals as they were, but for the constants that it gave.
use Rattle.std.proofs.Common.{◌≡◌, ℕ, suc, ◌-◌, List, [], ◌∷◌, ◌++◌, length, take, Option, refl, sym, ap, subst, ◌∙◌, arith}
use Rattle.std.specs.Prelude.{ℤ, slice_get}
use Rattle.call_templates.specs.CallLaw.{frames_inside, frames_on}
use Rattle.instruction_laws.specs.Ranges.{AreInRange}
use Rattle.memory_areas.specs.Areas.{Contents}
use Rattle.memory_areas.specs.declared.place.Place.{Place}
use Rattle.s7_base.specs.declared.register.Reg.{Reg}
use Rattle.stl_tree.specs.Accepted.{Widths}
use Rattle.stl_tree.specs.Calls.{going_on}
use Rattle.stl_tree.specs.Now.{Activation, Now}
use Rattle.stl_tree.specs.Registers.{RegisterValues}
use Rattle.st_tree.specs.Calls.{left}
use Rattle.st_tree.specs.State.{Activation as Running, State, own_of}
use Rattle.st_tree.specs.declared.state.Value.{Value}
use Rattle.template_parts.proofs.Alike.{on_formals, on_length, one_longer}
use Rattle.template_parts.proofs.Putting.{own_last}
use Rattle.template_parts.specs.Related.{AreAlike, AreFormals, Frames, HasNoConstant, Related, StaysAsWas, Wait, Waiting, formals_of_block}

-- Units

-- the last one that waits
pub record IsSplit (m : Contents) (d : ℕ) (waiting : List Waiting) (was : Waiting) (units : List Running) : Type 0 where
  pub front : List Running
  pub last : Running
  pub is : units ≡ front ++ last ∷ []
  pub wait : Wait m d waiting front
  pub stays : StaysAsWas was last

split : (m : Contents) (d : ℕ) (waiting : List Waiting) (was : Waiting) (units : List Running) → Wait m d (waiting ++ was ∷ []) units
    → IsSplit m d waiting was units
split m d [] was [] h = absurd h
split m d [] was (unit ∷ []) h = record { front = []; last = unit; is = refl; wait = tt; stays = h.0 }
split m d [] was (unit ∷ other ∷ units) h = absurd h.2
split m d (x ∷ waiting) was [] h = absurd h
split m d (x ∷ waiting) was (unit ∷ units) h =
    let rest = split m (suc d) waiting was units h.2 in
    record {
      front = unit ∷ rest.front;
      last = rest.last;
      is = ap (λ (more : List Running). unit ∷ more) rest.is;
      wait = (h.0, h.1, rest.wait);
      stays = rest.stays;
    }

-- without the last of some
front_taken : (xs : List Running) (x : Running) → take (length xs) (xs ++ x ∷ []) ≡ xs
front_taken [] x = refl
front_taken (y ∷ xs) x = ap (λ (more : List Running). y ∷ more) (front_taken xs x)

one_less : (xs : List Running) (x : Running) → length (xs ++ x ∷ []) - 1 ≡ length xs
one_less xs x = omega (arith, one_longer xs x)

-- States

module _ (frames : Frames) (waits : Waiting) (widths : Widths) (called : Activation) (done : Now) (t : State)
    (inside : Related (frames_inside frames waits widths called) done t) where
  abbrev parts : IsSplit done.memory 0 frames.waiting waits inside.units
  parts = split done.memory 0 frames.waiting waits inside.units inside.wait

  left_is : (left t).activations ≡ parts.front ++ parts.last ∷ []
  left_is =
      ap (λ (acts : List Running). take (length acts - 1) acts) inside.activations
      ∙ ap (λ (n : ℕ). take n (inside.units ++ inside.running ∷ [])) (one_less inside.units inside.running)
      ∙ front_taken inside.units inside.running ∙ parts.is

  own_is : own_of (left t).activations ≡ parts.last.locals
  own_is = ap own_of left_is ∙ own_last parts.front parts.last

  pub left_as_many : length (own_of (left t).activations) ≡ length waits.unit.locals
  left_as_many = ap length own_is ∙ parts.stays.as_many

  pub left_own : (i : ℕ) → HasNoConstant waits.constants i → slice_get (own_of (left t).activations) i ≡ slice_get waits.unit.locals i
  left_own i none = ap (λ (xs : List Value). slice_get xs i) own_is ∙ parts.stays.locals i none

  -- the block that called goes on, with these registers
  pub left_related : suc (length frames.waiting) ≡ length frames.blocks
      → AreFormals frames.waiting frames.dbs frames.formals (formals_of_block frames.blocks) waits.unit.formals
      → (r : RegisterValues) (registers : Reg → ℤ) → AreAlike r registers → AreInRange r
      → Related (frames_on frames) (record done { registers = r; activations = going_on frames.blocks }) (record (left t) { registers = registers })
  left_related deep formals r registers alike range =
      record {
        registers = alike;
        range = range;
        memory = inside.memory;
        bytes = inside.bytes;
        sizes = inside.sizes;
        faults = inside.faults;
        blocks = refl;
        depth = deep ∙ sym (on_length frames.blocks);
        units = parts.front;
        wait = parts.wait;
        running = parts.last;
        activations = left_is;
        formals =
            subst (λ (places : List (Option Place)). AreFormals frames.waiting frames.dbs frames.formals places parts.last.formals)
            (sym (on_formals frames.blocks))
            (subst (AreFormals frames.waiting frames.dbs frames.formals (formals_of_block frames.blocks)) (sym parts.stays.formals) formals);
      }
