-- What `Frames` does at a call and at an end, put together.
use Rattle.std.proofs.Common.{◌≡◌, ◌≢◌, ℕ, ◌+◌, ◌<◌, ◌==◌, Bool, true, false, List, [], ◌∷◌, length, Option, Some, None, Result, Ok, Err, refl, sym, ap, ◌∙◌, eqb-true, if◌then◌else◌, length-set}
use Rattle.block_calls.proofs.Fitting.{begins, givable, room, small, takes}
use Rattle.block_calls.specs.Fitting.{AreActivationsOf, AreReached, StandsIn}
use Rattle.block_calls.specs.Scenes.{HasEntered, Scene, now_at, returning_to}
use Rattle.block_calls.specs.inner.Views.{AreSmall, IsGivableActual, now_of}
use Rattle.memory_areas.specs.Memory.{HasActivations, HasBlocks}
use Rattle.memory_areas.specs.declared.sizes.TheConstants.{ACTIVATIONS}
use Rattle.stl_tree.specs.Accepted.{IsAccepted, LiesInInstance}
use Rattle.memory_areas.specs.Access.{and_then}
use Rattle.memory_areas.specs.Areas.{Contents, with_zero_activation, zero_locals}
use Rattle.memory_areas.specs.declared.place.Place.{Place}
use Rattle.s7_base.specs.declared.check.Entry.{Entry}
use Rattle.s7_base.specs.declared.outcome.Fault.{Fault}
use Rattle.s7_base.specs.declared.word.Width.{Width}
use Rattle.stl_tree.specs.Calls.{actual_place, actual_places, after_call, after_taking, all_copied, copied_in, given_place, going_on_at, instance_or, with_block, with_constants}
use Rattle.stl_tree.specs.Now.{Activation, Now}
use Rattle.stl_tree.specs.Operands.{formal_place, found_formal}
use Rattle.stl_tree.specs.Registers.{RegisterValues}
use Rattle.stl_tree.specs.StlRun.{formals_at}
use Rattle.stl_tree.specs.declared.program.Actual.{Actual}
use Rattle.stl_tree.specs.declared.program.Actual.TheVariants as actual
use Rattle.stl_tree.specs.declared.program.BlockCall.{BlockCall}
use Rattle.stl_tree.specs.declared.program.Formal.{Formal}
use Rattle.stl_tree.specs.declared.program.Operand.{Operand}
use Rattle.stl_tree.specs.declared.program.Operand.TheVariants as operand
use Rattle.stl_tree.specs.declared.program.Program.{Program}
use Rattle.std.proofs.lemmas.List.Elements.{All-head, All-tail}
use Rattle.std.specs.Prelude.{All}

-- where the running block goes on does not matter
module _ (r : RegisterValues) (m : Contents) (a : Activation) (waiting : List Activation) (brackets : List Entry) (at : ℕ) where
  abbrev scene : Scene
  scene = record { registers = r; memory = m; activations = a ∷ waiting }

  abbrev plain : Now
  plain = now_of r m (a ∷ waiting)

  abbrev whole : Now
  whole = now_at brackets at scene

  given_same : (w : Width) (o : Operand) → IsGivableActual (actual.At o) (a ∷ waiting) → given_place w o whole ≡ given_place w o plain
  given_same w (operand.Direct b byte x) h = refl
  given_same w (operand.Opened n byte x) h = refl
  given_same w (operand.Formal k) h = by (formal_place k (a ∷ waiting))
    where
      by : (o : Option Place) → and_then (found_formal o whole) (λ f. Ok (Some f.place)) ≡ and_then (found_formal o plain) (λ f. Ok (Some f.place))
      by None = refl
      by (Some p) = refl
  given_same w (operand.ByMemory b c byte) h = absurd h
  given_same w (operand.ByRegister b c byte) h = absurd h
  given_same w (operand.Crossing b byte) h = absurd h

  actual_same : (d k : ℕ) (w : Width) (x : Actual) → IsGivableActual x (a ∷ waiting) → actual_place d k w x whole ≡ actual_place d k w x plain
  actual_same d k w actual.Missing h = refl
  actual_same d k w (actual.Constant c) h = refl
  actual_same d k w (actual.At o) h = given_same w o h

  places_same : (d k : ℕ) (formals : List Formal) (actuals : List Actual) → All (λ (x : Actual). IsGivableActual x (a ∷ waiting)) actuals
      → actual_places d k formals actuals whole ≡ actual_places d k formals actuals plain
  places_same d k [] actuals h = refl
  places_same d k (f ∷ formals) [] h = refl
  places_same d k (f ∷ formals) (x ∷ actuals) h =
      ap (λ (y : Result (Option Place) Fault). and_then y (λ p. and_then (actual_places d (k + 1) formals actuals whole) (λ more. Ok (p ∷ more))))
      (actual_same d k f.width x (All-head (λ (y : Actual). IsGivableActual y (a ∷ waiting)) x actuals h))
      ∙ ap (λ (y : Result (List (Option Place)) Fault). and_then (actual_place d k f.width x plain) (λ p. and_then y (λ more. Ok (p ∷ more))))
      (places_same d (k + 1) formals actuals (All-tail (λ (y : Actual). IsGivableActual y (a ∷ waiting)) x actuals h))

  -- a call whose actuals are found
  pub entered : (formals : List Formal) (call : BlockCall) (to : ℕ) (places : List (Option Place)) (written after : Contents)
      → All (λ (x : Actual). IsGivableActual x (a ∷ waiting)) call.actuals
      → actual_places (length (a ∷ waiting)) 0 formals call.actuals plain ≡ Ok places
      → with_constants (length (a ∷ waiting)) 0 formals call.actuals (with_zero_activation (length (a ∷ waiting)) m) ≡ Ok written
      → after_taking call.instance formals places written ≡ Ok after
      → returning_to to (after_call formals call whole)
      ≡ Ok (now_at brackets 0 (record {
        registers = record r { di = instance_or call.instance r.di };
        memory = after;
        activations = record { block = call.block; at = 0; instance = call.instance; db = r.db; di = r.di; formals = places } ∷ going_on_at to (a ∷ waiting);
      }))
  entered formals call to places written after given found constants taken =
      ap (λ (y : Result (List (Option Place)) Fault). returning_to to (and_then y
      (λ ps. and_then (with_constants (length (a ∷ waiting)) 0 formals call.actuals (with_zero_activation (length (a ∷ waiting)) m))
      (λ n. and_then (after_taking call.instance formals ps n) (λ t. Ok (with_block call ps t whole))))))
      (places_same (length (a ∷ waiting)) 0 formals call.actuals given ∙ found)
      ∙ ap (λ (y : Result Contents Fault). returning_to to (and_then y
      (λ n. and_then (after_taking call.instance formals places n) (λ t. Ok (with_block call places t whole)))))
      constants
      ∙ ap (λ (y : Result Contents Fault). returning_to to (and_then y (λ t. Ok (with_block call places t whole)))) taken

  pub refused : (formals : List Formal) (call : BlockCall) (f : Fault) → All (λ (x : Actual). IsGivableActual x (a ∷ waiting)) call.actuals
      → actual_places (length (a ∷ waiting)) 0 formals call.actuals plain ≡ Err f → after_call formals call whole ≡ Err f
  refused formals call f given found =
      ap (λ (y : Result (List (Option Place)) Fault). and_then y
      (λ ps. and_then (with_constants (length (a ∷ waiting)) 0 formals call.actuals (with_zero_activation (length (a ∷ waiting)) m))
      (λ n. and_then (after_taking call.instance formals ps n) (λ t. Ok (with_block call ps t whole)))))
      (places_same (length (a ∷ waiting)) 0 formals call.actuals given ∙ found)

-- Positions do not matter to activations

pub moved : (p : Program) (to : ℕ) (activations : List Activation) → AreActivationsOf p activations → AreActivationsOf p (going_on_at to activations)
moved p to [] h = tt
moved p to (a ∷ waiting) h = (
  record {
    block = h.0.block;
    there = h.0.there;
    most = h.0.most;
    room = h.0.room;
    chain = h.0.chain;
    named = h.0.named;
    copied = h.0.copied;
  },
  h.1,
)

-- A call, for activations of a program

module _ (p : Program) (accepted : IsAccepted p) where
  -- what a caller has
  module _ (r : RegisterValues) (m : Contents) (activations : List Activation) (call : BlockCall) (has : HasBlocks p.dbs m)
      (fits : AreActivationsOf p activations) (stands : StandsIn p activations call) where
    pub all_given : All (λ (x : Actual). IsGivableActual x activations) call.actuals
    all_given = by activations fits stands
      where
        by : (xs : List Activation) → AreActivationsOf p xs → StandsIn p xs call → All (λ (x : Actual). IsGivableActual x xs) call.actuals
        by [] f s = absurd s
        by (a ∷ waiting) f s = givable p accepted r m a waiting has f.0 call s

    pub all_small_enough : AreSmall (formals_at p call.block) call.actuals
    all_small_enough = by activations fits stands
      where
        by : (xs : List Activation) → AreActivationsOf p xs → StandsIn p xs call → AreSmall (formals_at p call.block) call.actuals
        by [] f s = absurd s
        by (a ∷ waiting) f s = small p accepted r m a waiting has f.0 call s

    pub room_for_one : length activations < ACTIVATIONS
    room_for_one = by activations fits stands
      where
        by : (xs : List Activation) → AreActivationsOf p xs → StandsIn p xs call → length xs < ACTIVATIONS
        by [] f s = absurd s
        by (a ∷ waiting) f s = room p accepted r m a waiting has f.0 call s

    pub enter_fails : (to : ℕ) (f : Fault) → actual_places (length activations) 0 (formals_at p call.block) call.actuals (now_of r m activations) ≡ Err f
        → HasEntered p call to (Err f) (record { registers = r; memory = m; activations = activations })
        (record { registers = r; memory = m; activations = activations })
    enter_fails to f e = (by activations stands all_given e, refl)
      where
        by : (xs : List Activation) → StandsIn p xs call → All (λ (x : Actual). IsGivableActual x xs) call.actuals
            → actual_places (length xs) 0 (formals_at p call.block) call.actuals (now_of r m xs) ≡ Err f
            → (brackets : List Entry) (at : ℕ)
            → after_call (formals_at p call.block) call (now_at brackets at (record { registers = r; memory = m; activations = xs })) ≡ Err f
        by [] s g h brackets at = absurd s
        by (a ∷ waiting) s g h brackets at = refused r m a waiting brackets at (formals_at p call.block) call f g h

    module _ (places : List (Option Place))
        (found : actual_places (length activations) 0 (formals_at p call.block) call.actuals (now_of r m activations) ≡ Ok places) where
      pub enter_done : (to : ℕ) (written after : Contents)
          → with_constants (length activations) 0 (formals_at p call.block) call.actuals (with_zero_activation (length activations) m) ≡ Ok written
          → after_taking call.instance (formals_at p call.block) places written ≡ Ok after
          → HasEntered p call to (Ok tt) (record { registers = r; memory = m; activations = activations })
          (record {
            registers = record r { di = instance_or call.instance r.di };
            memory = after;
            activations = record { block = call.block; at = 0; instance = call.instance; db = r.db; di = r.di; formals = places } ∷ going_on_at to activations;
          })
      enter_done to written after constants taken = by activations stands all_given found constants
        where
          by : (xs : List Activation) → StandsIn p xs call → All (λ (x : Actual). IsGivableActual x xs) call.actuals
              → actual_places (length xs) 0 (formals_at p call.block) call.actuals (now_of r m xs) ≡ Ok places
              → with_constants (length xs) 0 (formals_at p call.block) call.actuals (with_zero_activation (length xs) m) ≡ Ok written
              → (brackets : List Entry) (at : ℕ)
              → returning_to to (after_call (formals_at p call.block) call (now_at brackets at (record { registers = r; memory = m; activations = xs })))
              ≡ Ok (now_at brackets 0 (record {
                registers = record r { di = instance_or call.instance r.di };
                memory = after;
                activations = record { block = call.block; at = 0; instance = call.instance; db = r.db; di = r.di; formals = places } ∷ going_on_at to xs;
              }))
          by [] s g h c brackets at = absurd s
          by (a ∷ waiting) s g h c brackets at =
              entered r m a waiting brackets at (formals_at p call.block) call to places written after g h c taken

      pub enter_fits : (to : ℕ) → AreActivationsOf p
          (record { block = call.block; at = 0; instance = call.instance; db = r.db; di = r.di; formals = places } ∷ going_on_at to activations)
      enter_fits to = by activations fits stands found
        where
          by : (xs : List Activation) → AreActivationsOf p xs → StandsIn p xs call
              → actual_places (length xs) 0 (formals_at p call.block) call.actuals (now_of r m xs) ≡ Ok places
              → AreActivationsOf p
              (record { block = call.block; at = 0; instance = call.instance; db = r.db; di = r.di; formals = places } ∷ going_on_at to xs)
          by [] f s h = absurd s
          by (a ∷ waiting) f s h = (begins p accepted r m a waiting has f.0 call s places h r.db r.di, moved p to (a ∷ waiting) f)

      pub enter_takes : call.instance ≢ 0
          → All (LiesInInstance p.dbs call.instance) (formals_at p call.block) × AreReached p.dbs (formals_at p call.block) places
      enter_takes some = by activations fits stands found
        where
          by : (xs : List Activation) → AreActivationsOf p xs → StandsIn p xs call
              → actual_places (length xs) 0 (formals_at p call.block) call.actuals (now_of r m xs) ≡ Ok places
              → All (LiesInInstance p.dbs call.instance) (formals_at p call.block) × AreReached p.dbs (formals_at p call.block) places
          by [] f s h = absurd s
          by (a ∷ waiting) f s h = takes p accepted r m a waiting has f.0 call s places h some

-- an instance is taken into account where there is one
pub taken_by : (instance : ℕ) (formals : List Formal) (places : List (Option Place)) (m after : Contents) → instance ≢ 0
    → all_copied (copied_in instance) formals places m ≡ Ok after → after_taking instance formals places m ≡ Ok after
taken_by instance formals places m after some e = by (instance == 0) refl
  where
    by : (t : Bool) → (instance == 0) ≡ t → (if t then Ok m else all_copied (copied_in instance) formals places m) ≡ Ok after
    by true f = absurd (some (eqb-true instance 0 f))
    by false f = e

pub none_takes : (instance : ℕ) (formals : List Formal) (places : List (Option Place)) (m : Contents)
    → instance ≡ 0 → after_taking instance formals places m ≡ Ok m
none_takes instance formals places m e = ap (λ n. after_taking n formals places m) e

pub instance_opened : (instance di : ℕ) → instance ≢ 0 → instance_or instance di ≡ instance
instance_opened instance di some = by (instance == 0) refl
  where
    by : (t : Bool) → (instance == 0) ≡ t → (if t then di else instance) ≡ instance
    by true f = absurd (some (eqb-true instance 0 f))
    by false f = refl

pub none_opened : (instance di : ℕ) → instance ≡ 0 → instance_or instance di ≡ di
none_opened instance di e = ap (λ n. instance_or n di) e

-- a memory has as many activations as after one of them was made zero
pub before_clear : (d : ℕ) (m : Contents) → HasActivations (with_zero_activation d m) → HasActivations m
before_clear d m h = (sym (length-set m.locals d zero_locals) ∙ h.0, sym (length-set m.cells d zero_locals) ∙ h.1)
