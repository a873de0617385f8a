-- The call itself: a unit is entered, and behind it DBNO and DINO are put back.
use Rattle.std.proofs.Common.{◌≡◌, ℕ, suc, ◌+◌, ◌==◌, ◌^◌, ◌<◌, ◌≤◌, Bool, true, false, not, if◌then◌else◌, List, [], ◌∷◌, ◌++◌, length, Option, Some, None, Result, Ok, Err, refl, sym, ap, subst, ◌∙◌, arith}
use Rattle.std.specs.Prelude.{map, option_and_then, slice_get}
use Rattle.call_templates.proofs.Surroundings.{HasNumbers, back_registers, put_back_alike, put_back_goes}
use Rattle.call_templates.proofs.ClearedMemory.{starts_with}
use Rattle.call_templates.proofs.ConstantActuals.{AreKeptIn, constants_given, given_apart, given_held, none_before}
use Rattle.call_templates.proofs.Entering.{begins, waits_with}
use Rattle.call_templates.proofs.Given.{AreSameGiven, operand_located}
use Rattle.call_templates.proofs.Leaving.{left_as_many, left_own, left_related}
use Rattle.call_templates.specs.CallLaw.{DoesCall, Entering, LeadsBehind, MayCall, calls_by, frames_inside, frames_on}
use Rattle.call_templates.specs.Calls.{put_back_of, variables_given}
use Rattle.instruction_laws.specs.Ranges.{AreInRange}
use Rattle.memory_areas.specs.Access.{and_then}
use Rattle.memory_areas.specs.Areas.{Contents, with_zero_activation}
use Rattle.memory_areas.specs.declared.data_block.DataBlock.{DataBlock}
use Rattle.memory_areas.specs.declared.place.Place.{Place}
use Rattle.s7_base.specs.declared.outcome.Fault.{Fault}
use Rattle.s7_base.specs.declared.word.Width.{Width}
use Rattle.stl_tree.specs.Accepted.{AreActuals, Widths}
use Rattle.stl_tree.specs.Calls.{actual_places, all_copied, cell_of, copied_back, copied_in, going_on, with_constants}
use Rattle.stl_tree.specs.Now.{Activation, Now}
use Rattle.stl_tree.specs.Registers.{RegisterValues}
use Rattle.stl_tree.specs.declared.program.Actual.{Actual}
use Rattle.stl_tree.specs.declared.program.Actual.TheVariants as actual
use Rattle.stl_tree.specs.declared.program.BlockCall.{BlockCall}
use Rattle.stl_tree.specs.declared.program.Formal.{Formal}
use Rattle.st_tree.proofs.Equations.{meaning_invoke}
use Rattle.st_tree.specs.Calls.{enter_with, left, located_actuals}
use Rattle.st_tree.specs.Meaning.{Calls, Faults, Normal, Out, Sem, body_meaning, then_do}
use Rattle.st_tree.specs.State.{State, depth as depth_of_state, own_of}
use Rattle.st_tree.specs.declared.program.Located.{Located}
use Rattle.st_tree.specs.declared.program.Stmt.TheVariants as stmt
use Rattle.st_tree.specs.declared.state.Reference.{Reference}
use Rattle.st_tree.specs.declared.state.Reference.TheVariants as reference
use Rattle.st_tree.specs.declared.state.Value.{Value}
use Rattle.template_parts.proofs.Alike.{as_many_wait, same_areas}
use Rattle.template_parts.proofs.Putting.{own_last}
use Rattle.template_parts.specs.Related.{AreFormals, AreHeld, Constant, Frames, HasNoConstant, Related, StandForSame, Waiting, constant_at, constants_of}

-- What a call comes to

-- the state in which a called block begins, and the state after a call, by whether it has no instance
abbrev pub begun_by : Bool → BlockCall → List (Option Place) → Contents → Now → Now
begun_by alone call places m now =
    record now {
      registers = record now.registers { di = if alone then now.registers.di else call.instance };
      memory = m;
      activations =
          record {
            block = call.block;
            at = 0;
            instance = call.instance;
            db = now.registers.db;
            di = now.registers.di;
            formals = places;
          }
          ∷ going_on now.activations;
    }

abbrev pub after_by : Bool → List Formal → BlockCall → Now → Result Now Fault
after_by alone formals call now =
    and_then (actual_places (length now.activations) 0 formals call.actuals now)
    (λ places. and_then (with_constants (length now.activations) 0 formals call.actuals (with_zero_activation (length now.activations) now.memory))
    (λ m. and_then (if alone then Ok m else all_copied (copied_in call.instance) formals places m)
    (λ taken. Ok (begun_by alone call places taken now))))

-- Before a call

-- a state before a call: both numbers that will be put back are in two locals, and those below the ones that are used
-- are as they were in s
pub record IsReady (frames : Frames) (now : Now) (db di used slot : ℕ) (s t : State) : Type 0 where
  pub related : Related frames now t
  pub db_small : db < 2 ^ 16
  pub di_small : di < 2 ^ 16
  pub as_many : length (own_of t.activations) ≡ length (own_of s.activations)
  pub below : (i : ℕ) → i < used → slice_get (own_of t.activations) i ≡ slice_get (own_of s.activations) i
  pub numbers : HasNumbers db di slot t
  pub above : used ≤ slot

own_running : (frames : Frames) (now : Now) (t : State) (related : Related frames now t) → own_of t.activations ≡ related.running.locals
own_running frames now t related = ap own_of related.activations ∙ own_last related.units related.running

-- Behind a call

-- the statements that put the numbers back lead to a state in which the calling block goes on
pub record PutsBack (g : List Located) (calls : Calls) (units used slot : ℕ) (frames : Frames) (s : State)
    (db di : ℕ) (done : Now) (u : State) : Type 0 where
  pub to : State
  pub goes : body_meaning g calls (put_back_of slot) units (left u) ≡ Normal units to
  pub related : Related (frames_on frames) (record done { registers = record done.registers { db = db; di = di }; activations = going_on frames.blocks }) to
  pub as_many : length (own_of to.activations) ≡ length (own_of s.activations)
  pub below : (i : ℕ) → i < used → slice_get (own_of to.activations) i ≡ slice_get (own_of s.activations) i

with_numbers : (r : RegisterValues) (db di : ℕ) → AreInRange r → db < 2 ^ 16 → di < 2 ^ 16 → AreInRange (record r { db = db; di = di })
with_numbers r db di h k l = record { accu1 = h.accu1; accu2 = h.accu2; ar1 = h.ar1; ar2 = h.ar2; db = k; di = l }

module _ (g : List Located) (calls : Calls) (units db di used slot : ℕ) (frames : Frames) (now : Now) (s t : State)
    (ready : IsReady frames now db di used slot s t)
    (constants : List (Option Constant)) (later : (i : ℕ) → i < slot + 2 → HasNoConstant constants i) where
  abbrev waits : Waiting
  waits = waits_with frames now t ready.related constants

  abbrev same_own : own_of t.activations ≡ ready.related.running.locals
  same_own = own_running frames now t ready.related

  pub puts_back : (widths : Widths) (called : Activation) (done : Now) (u : State)
      → Related (frames_inside frames waits widths called) done u
      → PutsBack g calls units used slot frames s db di done u
  puts_back widths called done u inside =
      let kept : (i : ℕ) → i < slot + 2 → slice_get (own_of (left u).activations) i ≡ slice_get (own_of t.activations) i =
      λ i less. left_own frames waits widths called done u inside i (later i less) ∙ sym (ap (λ (xs : List Value). slice_get xs i) same_own) in
      let many : length (own_of (left u).activations) ≡ length (own_of t.activations) =
      left_as_many frames waits widths called done u inside ∙ sym (ap length same_own) in
      let above : used ≤ slot = ready.above in
      record {
        to = record (left u) { registers = back_registers g calls units db di (left u).registers };
        goes =
            put_back_goes g calls units slot db di (left u) (kept slot (omega arith) ∙ ready.numbers.has_db)
            (kept (slot + 1) (omega arith) ∙ ready.numbers.has_di);
        related =
            left_related frames waits widths called done u inside ready.related.depth ready.related.formals
            (record done.registers { db = db; di = di }) (back_registers g calls units db di (left u).registers)
            (put_back_alike g calls units db di done.registers (left u).registers inside.registers)
            (with_numbers done.registers db di inside.range ready.db_small ready.di_small);
        as_many = many ∙ ready.as_many;
        below = λ i less. kept i (omega arith) ∙ ready.below i less;
      }

-- The actuals of a function

-- the actuals are located by the program and by its graph: both meet the same fault, or the formals mean the same
abbrev pub AreSameAll : List Waiting → List DataBlock → Widths → Result (List (Option Place)) Fault → Result (List Reference) Fault → Type 0
AreSameAll waiting dbs widths (Ok places) (Ok references) = AreFormals waiting dbs widths places references
AreSameAll waiting dbs widths (Err f) (Err e) = f ≡ e
AreSameAll waiting dbs widths places references = ⊥

and_more : (waiting : List Waiting) (dbs : List DataBlock) (w : Width) (widths : Widths) (p : Result (Option Place) Fault) (r : Result Reference Fault)
    (ps : Result (List (Option Place)) Fault) (rs : Result (List Reference) Fault) → AreSameGiven waiting dbs w p r → AreSameAll waiting dbs widths ps rs
    → AreSameAll waiting dbs (w ∷ widths) (and_then p (λ x. and_then ps (λ xs. Ok (x ∷ xs)))) (and_then r (λ y. and_then rs (λ ys. Ok (y ∷ ys))))
and_more waiting dbs w widths (Ok (Some p)) (Ok r) (Ok ps) (Ok rs) h k = (h, k)
and_more waiting dbs w widths (Ok (Some p)) (Ok r) (Err f) (Err e) h k = k
and_more waiting dbs w widths (Ok (Some p)) (Ok r) (Ok ps) (Err e) h k = absurd k
and_more waiting dbs w widths (Ok (Some p)) (Ok r) (Err f) (Ok rs) h k = absurd k
and_more waiting dbs w widths (Err f) (Err e) ps rs h k = h
and_more waiting dbs w widths p r ps rs h k = absurd h

last_waits : (waiting : List Waiting) (more : Waiting) → slice_get (waiting ++ more ∷ []) (length waiting) ≡ Some more
last_waits [] more = refl
last_waits (x ∷ waiting) more = last_waits waiting more

module _ (g : List Located) (frames : Frames) (now : Now) (s : State) (related : Related frames now s) (more : Waiting) where
  deep : length now.activations ≡ suc (length frames.waiting)
  deep = ap length related.blocks ∙ sym related.depth

  abbrev Knows : ℕ → List (Option Constant) → Type 0
  Knows k constants =
      (j : ℕ) (c : Constant) → slice_get constants j ≡ Some (Some c)
      → constant_at (frames.waiting ++ more ∷ []) (length frames.waiting) (k + j) ≡ Some c

  knows_rest : (k : ℕ) (first : Option Constant) (constants : List (Option Constant)) → Knows k (first ∷ constants) → Knows (k + 1) constants
  knows_rest k first constants h j c e =
      let same : k + suc j ≡ k + 1 + j = omega arith in
      subst (λ (n : ℕ). constant_at (frames.waiting ++ more ∷ []) (length frames.waiting) n ≡ Some c) same (h (suc j) c e)

  constant_stands : (k next : ℕ) (w : Width) (constants : List (Option Constant)) → Knows k (Some (record { local = next; width = w }) ∷ constants)
      → StandForSame (frames.waiting ++ more ∷ []) frames.dbs w (cell_of (length now.activations) k) (reference.Local (depth_of_state s) next)
  constant_stands k next w constants h =
      let first : k + 0 ≡ k = omega arith in
      let at : depth_of_state s ≡ length frames.waiting = as_many_wait frames now s related in
      record {
        position = k;
        cell = ap (λ (n : ℕ). cell_of n k) (deep ∙ ap suc (sym at));
        local =
            ap (λ (n : ℕ). constant_at (frames.waiting ++ more ∷ []) n k) at
            ∙ ap (constant_at (frames.waiting ++ more ∷ []) (length frames.waiting)) (sym first)
            ∙ h 0 (record { local = next; width = w }) refl;
      }

  all_located : (formals : List Formal) (actuals : List Actual) (next k : ℕ) → AreActuals frames.formals false formals actuals
      → Knows k (constants_given next formals actuals)
      → AreSameAll (frames.waiting ++ more ∷ []) frames.dbs (map (λ (f : Formal). f.width) formals)
      (actual_places (length now.activations) k formals actuals now) (located_actuals g (variables_given next formals actuals) s)
  all_located [] [] next k are knows = tt
  all_located [] (a ∷ actuals) next k are knows = absurd are
  all_located (f ∷ formals) [] next k are knows = absurd are
  all_located (f ∷ formals) (actual.Missing ∷ actuals) next k are knows = absurd cc
  all_located (f ∷ formals) (actual.Constant c ∷ actuals) next k are knows =
      and_more (frames.waiting ++ more ∷ []) frames.dbs f.width (map (λ (f : Formal). f.width) formals)
      (Ok (Some (cell_of (length now.activations) k))) (Ok (reference.Local (depth_of_state s) next))
      (actual_places (length now.activations) (k + 1) formals actuals now) (located_actuals g (variables_given (next + 1) formals actuals) s)
      (constant_stands k next f.width (constants_given (next + 1) formals actuals) knows)
      (all_located formals actuals (next + 1) (k + 1) are.1
      (knows_rest k (Some (record { local = next; width = f.width })) (constants_given (next + 1) formals actuals) knows))
  all_located (f ∷ formals) (actual.At o ∷ actuals) next k are knows =
      and_more (frames.waiting ++ more ∷ []) frames.dbs f.width (map (λ (f : Formal). f.width) formals) _ _
      (actual_places (length now.activations) (k + 1) formals actuals now) (located_actuals g (variables_given next formals actuals) s)
      (operand_located g frames now s related more o f.width are.0.0 are.0.1)
      (all_located formals actuals next (k + 1) are.1 (knows_rest k None (constants_given next formals actuals) knows))

-- A call of a function

module _ (g : List Located) (enter : Entering) (units used slot unit : ℕ) (frames : Frames) (now : Now) (s t : State)
    (ready : IsReady frames now now.registers.db now.registers.di used slot s t) (formals : List Formal) (c : BlockCall) (may : MayCall frames formals c)
    (alone : (c.instance == 0) ≡ true) (kept : AreKeptIn (own_of t.activations) (slot + 2) formals c.actuals) where
  abbrev calls : Calls
  calls = calls_by g enter

  abbrev constants : List (Option Constant)
  constants = constants_given (slot + 2) formals c.actuals

  abbrev waiting : Waiting
  waiting = waits_with frames now t ready.related constants

  abbrev widths : Widths
  widths = map (λ (f : Formal). f.width) formals

  abbrev more : Sem
  more = body_meaning g calls (put_back_of slot)

  knows : Knows g frames now t ready.related waiting 0 constants
  knows j x e =
      let same : 0 + j ≡ j = omega arith in
      ap (constant_at (frames.waiting ++ waiting ∷ []) (length frames.waiting)) same
      ∙ ap (λ (o : Option Waiting). option_and_then (λ x. x) (slice_get (constants_of o) j)) (last_waits frames.waiting waiting)
      ∙ ap (option_and_then (λ x. x)) e

  abbrev called : List (Option Place) → Activation
  called places =
      record { block = c.block; at = 0; instance = c.instance; db = now.registers.db; di = now.registers.di; formals = places }

  actuals_right : AreActuals frames.formals false formals c.actuals
  actuals_right = subst (λ (b : Bool). AreActuals frames.formals (not b) formals c.actuals) alone may.right.actuals

  behind : (places : List (Option Place)) (to : ℕ)
      → LeadsBehind more used (frames_inside frames waiting widths (record (called places) { at = to })) frames s formals (record (called places) { at = to })
  behind places to others done u inside =
      let back =
      puts_back g calls others now.registers.db now.registers.di used slot frames now s t ready constants
      (λ i less. none_before (slot + 2) formals c.actuals i less)
      widths (record (called places) { at = to }) done u inside in
      let after : Now = record done {
        registers = record done.registers { db = now.registers.db; di = now.registers.di };
        activations = going_on frames.blocks;
      } in (
        after,
        ap
            (λ (b : Bool). and_then (if b then Ok done.memory else all_copied (copied_back c.instance) formals places done.memory)
            (λ (m : Contents). Ok (record after { memory = m }))) alone,
        record { to = back.to; goes = back.goes; related = back.related; as_many = back.as_many; below = back.below },
      )

  abbrev Made : Out → Result Now Fault → Type 0
  Made ended = DoesCall ended enter units used unit frames s now.memory formals widths

  -- the state in which the block begins, by the memory with its constants
  abbrev begun_from : List (Option Place) → Result Contents Fault → Result Now Fault
  begun_from places r = and_then r (λ m. and_then (Ok m) (λ taken. Ok (begun_by true c places taken now)))

  entered : (places : List (Option Place)) (references : List Reference)
      → AreFormals (frames.waiting ++ waiting ∷ []) frames.dbs widths places references
      → Made (then_do (enter unit references units t) more)
      (begun_from places
      (with_constants (length now.activations) 0 formals c.actuals (with_zero_activation (length now.activations) now.memory)))
  entered places references same =
      let start = starts_with frames now t ready.related formals c may in
      let held : AreHeld start.memory (suc (length frames.waiting)) 0 constants ready.related.running =
      subst (λ (n : ℕ). AreHeld start.memory n 0 constants ready.related.running) (deep g frames now t ready.related waiting)
      (given_held start.memory (length now.activations) 0 (slot + 2) formals c.actuals ready.related.running start.reads
      (subst (λ (xs : List Value). AreKeptIn xs (slot + 2) formals c.actuals) (own_running frames now t ready.related) kept)) in
      subst (λ (r : Result Contents Fault). Made (then_do (enter unit references units t) more) (begun_from places r)) (sym start.is) (
        called places,
        ap (λ (acts : List Activation). called places ∷ going_on acts) ready.related.blocks,
        record {
          at = t;
          references = references;
          more = more;
          goes = refl;
          waits = waiting;
          begins = λ head. begins frames now t ready.related start.memory start.begins constants (given_apart (slot + 2) formals c.actuals) held
              (called places) widths references head
              (subst
              (λ (b : Bool). AreFormals (frames.waiting ++ waiting ∷ []) frames.dbs widths (if b then places else []) references)
              (sym alone) same);
          behind = behind places;
        },
      )

  by_located : (r : Result (List (Option Place)) Fault) (q : Result (List Reference) Fault)
      → AreSameAll (frames.waiting ++ waiting ∷ []) frames.dbs widths r q
      → Made (then_do (enter_with (enter unit) q units t) more)
      (and_then r
      (λ places. begun_from places
      (with_constants (length now.activations) 0 formals c.actuals (with_zero_activation (length now.activations) now.memory))))
  by_located (Ok places) (Ok references) same = entered places references same
  by_located (Err f) (Err e) same =
      record { at = t; stops = ap (λ (x : Fault). Faults x t) (sym same); areas = same_areas frames now t ready.related }
  by_located (Ok places) (Err e) same = absurd same
  by_located (Err f) (Ok references) same = absurd same

  pub function_called : DoesCall
      (body_meaning g calls (stmt.Invoke unit (variables_given (slot + 2) formals c.actuals) ∷ put_back_of slot) units t) enter units used unit frames s
      now.memory formals widths (after_by true formals c now)
  function_called =
      subst (λ (ended : Out). Made ended (after_by true formals c now))
      (sym
      (ap (λ (out : Out). then_do out more) (meaning_invoke g calls units t unit (variables_given (slot + 2) formals c.actuals))))
      (by_located (actual_places (length now.activations) 0 formals c.actuals now) (located_actuals g (variables_given (slot + 2) formals c.actuals) t)
      (all_located g frames now t ready.related waiting formals c.actuals (slot + 2) 0 actuals_right knows))
