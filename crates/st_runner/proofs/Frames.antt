-- Activations by their number, and those that begin and end.
use Rattle.st_tree.proofs.Common.{◌≡◌, ℕ, zero, suc, ◌+◌, ◌<◌, ◌≤◌, List, [], ◌∷◌, length, map, slice_index_or, slice_set, Result, Ok, refl, sym, ap, subst, ◌∙◌, arith, ◌++◌, IfOk, slice_get, vec_capacity, and_then, Fault, ACTIVATIONS, Activation, depth, there, with_local}
use Rattle.std.specs.Vec.{with_item}
use Rattle.st_runner.proofs.Common.{AreFrames, AreReachable, IsReachable, IsRunning, IsSound, activation_view, state_of, AreGlobals, Located, Reference, Value}
use Rattle.st_runner.specs.inner.View.{AreHeld, IsLocal, IsFrame}
use Rattle.st_runner.specs.declared.state.Activation.{Activation as Kept}
use Rattle.st_runner.specs.declared.state.State.{State as RunnerState}
use Rattle.st_tree.specs.State.{formals_of}
use Rattle.st_tree.specs.declared.state.Reference.TheVariants as reference
use Rattle.std.proofs.lemmas.List.{length-append}

-- an activation after a local took a value
abbrev pub changed : Kept → ℕ → Value → Kept
changed a i v = record { locals = with_item a.locals i v; formals = a.formals }

pub set_seen : (xs : List Kept) (d i : ℕ) (v : Value) (x : Kept) → d < length xs
    → map activation_view (slice_set xs d (changed (slice_index_or xs d x) i v)) ≡ with_local d i v (map activation_view xs)
set_seen [] d i v x h = absurd (omega arith)
set_seen (a ∷ xs) zero i v x h = refl
set_seen (a ∷ xs) (suc d) i v x h = ap (λ (rest : List Activation). activation_view a ∷ rest) (set_seen xs d i v x (omega arith))

pub set_frames : (l f : ℕ) (xs : List Kept) (d i : ℕ) (v : Value) (x : Kept) → d < length xs
    → AreFrames l f xs → AreFrames l f (slice_set xs d (changed (slice_index_or xs d x) i v))
set_frames l f [] d i v x h k = absurd (omega arith)
set_frames l f (a ∷ xs) zero i v x h k = (record { locals_room = k.0.locals_room; formals_room = k.0.formals_room; reachable = k.0.reachable }, k.1)
set_frames l f (a ∷ xs) (suc d) i v x h k = (k.0, set_frames l f xs d i v x (omega arith) k.1)

pub is_local : (vs : List Value) (i : ℕ) (v : Value) → there (slice_get vs i) ≡ Ok v → i < length vs
is_local [] i v e = cc
is_local (x ∷ vs) zero v e = omega arith
is_local (x ∷ vs) (suc i) v e = let h : i < length vs = is_local vs i v e in omega arith

pub frame_there : (xs : List Kept) (d i : ℕ) → IsLocal xs d i → d < length xs
frame_there [] d i h = absurd (omega arith)
frame_there (a ∷ xs) zero i h = omega arith
frame_there (a ∷ xs) (suc d) i h = let k : d < length xs = frame_there xs d i h in omega arith

-- the two changes that are made to activations keep what is kept
pub sound_by : (l f : ℕ) (s t : RunnerState) → AreFrames l f t.activations.items → t.spare ≡ s.spare
    → length t.activations.items ≡ length s.activations.items → vec_capacity t.activations ≡ vec_capacity s.activations → IsSound l f s → IsSound l f t
sound_by l f s t frames same len capacity k =
    let spare : t.spare.items ≡ s.spare.items = ap (λ v. v.items) same in
    record {
      running = frames;
      spare = subst (λ (ys : List Kept). AreFrames l f ys) (sym spare) k.spare;
      some = omega (arith, len, k.some);
      all = omega (arith, len, k.all, ap length spare);
      room = subst (λ n. ACTIVATIONS ≤ n) (sym capacity) k.room;
      spare_room = subst (λ n. ACTIVATIONS ≤ n) (ap (λ v. vec_capacity v) (sym same)) k.spare_room;
    }

held_frames : (l f : ℕ) (xs : List Kept) → AreFrames l f xs → AreHeld xs
held_frames l f [] h = tt
held_frames l f (a ∷ xs) h = (h.0.reachable, held_frames l f xs h.1)

pub sound_running : (l f : ℕ) (s : RunnerState) → IsSound l f s → IsRunning s
sound_running l f s h = record { some = h.some; few = omega (arith, h.all); held = held_frames l f s.activations.items h.running }

pub reachable_at : (rs : List Reference) (i : ℕ) → AreReachable rs → IfOk (there (slice_get rs i)) IsReachable
reachable_at [] i h = tt
reachable_at (r ∷ rs) zero h = h.0
reachable_at (r ∷ rs) (suc i) h = reachable_at rs i h.1

pub held_at : (xs : List Kept) (d : ℕ) → AreHeld xs → AreReachable (formals_of (slice_get (map activation_view xs) d))
held_at [] d h = tt
held_at (a ∷ xs) zero h = h.0
held_at (a ∷ xs) (suc d) h = held_at xs d h.1

pub formal_reach : (s : RunnerState) (i : ℕ) (r : Result Reference Fault) → IsRunning s
    → r ≡ there (slice_get (formals_of (slice_get (state_of s).activations (depth (state_of s)))) i) → IfOk r IsReachable
formal_reach s i r h e =
    subst (λ (q : Result Reference Fault). IfOk q IsReachable) (sym e)
    (reachable_at (formals_of (slice_get (map activation_view s.activations.items) (depth (state_of s)))) i
    (held_at s.activations.items (depth (state_of s)) h.held))

global_of : (gs : List Located) (i : ℕ) → AreGlobals gs
    → IfOk (and_then (there (slice_get gs i)) (λ (g : Located). Ok (reference.Place g.place g.ty))) IsReachable
global_of [] i h = tt
global_of (g ∷ gs) zero h = h.0
global_of (g ∷ gs) (suc i) h = global_of gs i h.1

pub global_reach : (gs : List Located) (i : ℕ) (r : Result Reference Fault) → AreGlobals gs
    → r ≡ and_then (there (slice_get gs i)) (λ (g : Located). Ok (reference.Place g.place g.ty)) → IfOk r IsReachable
global_reach gs i r h e = subst (λ (q : Result Reference Fault). IfOk q IsReachable) (sym e) (global_of gs i h)

split : (l f : ℕ) (xs : List Kept) (a : Kept) → AreFrames l f (xs ++ a ∷ []) → AreFrames l f xs × IsFrame l f a
split l f [] a h = (tt, h.0)
split l f (x ∷ xs) a h = let rest = split l f xs a h.1 in ((h.0, rest.0), rest.1)

pub join : (l f : ℕ) (xs : List Kept) (a : Kept) → AreFrames l f xs → IsFrame l f a → AreFrames l f (xs ++ a ∷ [])
join l f [] a h k = (k, tt)
join l f (x ∷ xs) a h k = (h.0, join l f xs a h.1 k)

pub taken : (l f : ℕ) (xs ys : List Kept) (a : Kept) → xs ≡ ys ++ a ∷ [] → AreFrames l f xs → AreFrames l f ys × IsFrame l f a
taken l f xs ys a e h = split l f ys a (subst (λ (zs : List Kept). AreFrames l f zs) e h)

pub given : (l f : ℕ) (xs ys : List Kept) (a : Kept) → xs ≡ ys ++ a ∷ [] → AreFrames l f ys → IsFrame l f a → AreFrames l f xs
given l f xs ys a e h k = subst (λ (zs : List Kept). AreFrames l f zs) (sym e) (join l f ys a h k)

pub longer : (xs ys : List Kept) (a : Kept) → xs ≡ ys ++ a ∷ [] → length xs ≡ length ys + 1
longer xs ys a e = ap length e ∙ length-append ys (a ∷ [])

-- an activation whose vectors kept their room
pub same_room : (l f : ℕ) (a b : Kept) → vec_capacity b.locals ≡ vec_capacity a.locals
    → vec_capacity b.formals ≡ vec_capacity a.formals → AreReachable b.formals.items → IsFrame l f a → IsFrame l f b
same_room l f a b e g r h =
    record { locals_room = subst (λ n. l ≤ n) (sym e) h.locals_room; formals_room = subst (λ n. f ≤ n) (sym g) h.formals_room; reachable = r }

pub sound_leave : (l f : ℕ) (s t : RunnerState) (a : Kept) → s.activations.items ≡ t.activations.items ++ a ∷ [] → t.spare.items ≡ s.spare.items ++ a ∷ []
    → vec_capacity t.activations ≡ vec_capacity s.activations → vec_capacity t.spare ≡ vec_capacity s.spare
    → 1 < length s.activations.items → IsSound l f s → IsSound l f t
sound_leave l f s t a e g c d more h =
    let parts = taken l f s.activations.items t.activations.items a e h.running in
    record {
      running = parts.0;
      spare = given l f t.spare.items s.spare.items a g h.spare parts.1;
      some = omega (arith, longer s.activations.items t.activations.items a e);
      all = omega (arith, h.all, longer s.activations.items t.activations.items a e, longer t.spare.items s.spare.items a g);
      room = subst (λ k. ACTIVATIONS ≤ k) (sym c) h.room;
      spare_room = subst (λ k. ACTIVATIONS ≤ k) (sym d) h.spare_room;
    }

pub sound_enter : (l f : ℕ) (s t : RunnerState) (a b : Kept) → s.spare.items ≡ t.spare.items ++ a ∷ [] → t.activations.items ≡ s.activations.items ++ b ∷ []
    → vec_capacity t.activations ≡ vec_capacity s.activations → vec_capacity t.spare ≡ vec_capacity s.spare
    → vec_capacity b.locals ≡ vec_capacity a.locals → vec_capacity b.formals ≡ vec_capacity a.formals
    → AreReachable b.formals.items → IsSound l f s → IsSound l f t
sound_enter l f s t a b e g c d x y r h =
    let parts = taken l f s.spare.items t.spare.items a e h.spare in
    record {
      running = given l f t.activations.items s.activations.items b g h.running (same_room l f a b x y r parts.1);
      spare = parts.0;
      some = omega (arith, longer t.activations.items s.activations.items b g);
      all = omega (arith, h.all, longer s.spare.items t.spare.items a e, longer t.activations.items s.activations.items b g);
      room = subst (λ k. ACTIVATIONS ≤ k) (sym c) h.room;
      spare_room = subst (λ k. ACTIVATIONS ≤ k) (sym d) h.spare_room;
    }

-- an activation that was taken and put back
pub sound_back : (l f : ℕ) (s t : RunnerState) (ys : List Kept) (a b : Kept)
    → s.spare.items ≡ ys ++ a ∷ [] → t.spare.items ≡ ys ++ b ∷ [] → t.activations ≡ s.activations
    → vec_capacity t.spare ≡ vec_capacity s.spare → vec_capacity b.locals ≡ vec_capacity a.locals
    → vec_capacity b.formals ≡ vec_capacity a.formals → AreReachable b.formals.items → IsSound l f s → IsSound l f t
sound_back l f s t ys a b e g v d x y r h =
    let parts = taken l f s.spare.items ys a e h.spare in
    let k : length t.activations.items ≡ length s.activations.items = ap (λ w. length w.items) v in
    record {
      running = subst (λ w. AreFrames l f w.items) (sym v) h.running;
      spare = given l f t.spare.items ys b g parts.0 (same_room l f a b x y r parts.1);
      some = omega (arith, h.some);
      all = omega (arith, h.all, longer s.spare.items ys a e, longer t.spare.items ys b g);
      room = subst (λ w. ACTIVATIONS ≤ vec_capacity w) (sym v) h.room;
      spare_room = subst (λ w. ACTIVATIONS ≤ w) (sym d) h.spare_room;
    }
