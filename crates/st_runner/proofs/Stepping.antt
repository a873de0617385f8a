-- What needs no unit, frame by frame.
use Rattle.st_tree.proofs.Common.{◌≡◌, ℕ, ◌+◌, ◌<◌, ◌≤◌, max, Bor, List, [], ◌∷◌, ◌++◌, length, refl, sym, ap, ◌∙◌, arith, left, Calls, Out, Normal, body_meaning, meaning, then_do, State}
use Rattle.st_runner.proofs.Common.{body_weight, frame_tall, frame_weight, sizes, tall, unit_costs, units, weight, work_weight, depth_costs, stack_costs, Costs, body_most, most, Done, IsReady, most_formals, most_locals, misfit_costs, ending, IsRunning, IsSound, state_of, At, Frame, Expr, StProgram, Stmt}
use Rattle.st_runner.specs.inner.Ready.{IfWork, Stepped}
use Rattle.st_runner.specs.inner.Waiting.{or_none, with_rest}
use Rattle.st_runner.specs.inner.View.{MayLeave, SameShape}
use Rattle.st_runner.specs.declared.frame.At.TheVariants as at
use Rattle.st_runner.specs.declared.frame.Frame.TheVariants as frame
use Rattle.st_runner.specs.declared.state.State.{State as RunnerState}
use Rattle.st_runner.proofs.Frames.{sound_running}
use Rattle.st_runner.proofs.Stack.{sizes_tall, on_top, top_sizes, top_tall, top_weight}

-- behind a statement nothing is to be done
alone : (o : Out) → o ≡ then_do o (λ u s. Normal u s)
alone (Normal u s) = refl
alone o = refl

-- the rest of a list waits, or there is none
by_rest : (P : List Frame → Type 0) (xs : List Stmt) (below above : List Frame) → (xs ≡ [] → P below) → P above → P (or_none xs below above)
by_rest P [] below above none some = none refl
by_rest P (x ∷ xs) below above none some = some

-- what waits behind the first statement of a list: some frames, and above them the rest of the list, where there is one
record Behind (tree : StProgram) (fs gs : List Frame) (rest : List Stmt) : Type 0 where
  meaning : (c : Calls) (o : Out) → ending tree.globals c gs o ≡ ending tree.globals c fs (then_do o (body_meaning tree.globals c rest))
  tall : (k : Costs) → tall k gs ≤ max (tall k fs) (sizes k fs + (k.rest + body_most k rest))
  sizes : (k : Costs) → sizes k gs ≤ sizes k fs + k.rest
  units : units gs ≡ units fs
  weight : work_weight gs ≤ work_weight fs + (1 + body_weight rest)

behind : (n : ℕ) (tree : StProgram) (fs gs : List Frame) (r : Bor (List Stmt)) → gs ≡ with_rest fs r n → Behind tree fs gs r.now
behind n tree fs gs r g = by_rest (λ (hs : List Frame). gs ≡ hs → Behind tree fs gs r.now) r.now fs (fs ++ frame.Rest r n ∷ []) last more g
  where
    last : r.now ≡ [] → gs ≡ fs → Behind tree fs gs r.now
    last none h =
        record {
          meaning =
              λ c o. ap (λ (x : List Frame). ending tree.globals c x o) h
              ∙ ap (ending tree.globals c fs) (alone o ∙ ap (λ (xs : List Stmt). then_do o (body_meaning tree.globals c xs)) (sym none));
          tall = λ k. omega (arith, ap (tall k) h);
          sizes = λ k. omega (arith, ap (sizes k) h);
          units = ap units h;
          weight = omega (arith, ap work_weight h);
        }

    more : gs ≡ fs ++ frame.Rest r n ∷ [] → Behind tree fs gs r.now
    more h =
        record {
          meaning = λ c o. on_top tree.globals c fs gs (frame.Rest r n) o h;
          tall = λ k. omega (arith, top_tall k fs gs (frame.Rest r n) h);
          sizes = λ k. omega (arith, top_sizes k fs gs (frame.Rest r n) h);
          units = omega (arith, top_sizes unit_costs fs gs (frame.Rest r n) h);
          weight = omega (arith, top_weight fs gs (frame.Rest r n) h);
        }

module _ (tree : StProgram) (ws : List Frame) (s : RunnerState) where
  pub body_ended : (n : ℕ) (fs : List Frame) (b : Bor (List Stmt)) → ws ≡ fs ++ frame.Rest b n ∷ [] → b.now ≡ [] → Stepped tree ws fs at.Work s s
  body_ended n fs b e none =
      record {
        meaning =
            λ c u. sym (on_top tree.globals c fs ws (frame.Rest b n) (Normal u (state_of s)) e
            ∙ ap (λ (xs : List Stmt). ending tree.globals c fs (body_meaning tree.globals c xs u (state_of s))) none);
        reach = λ k. omega (arith, top_tall k fs ws (frame.Rest b n) e, sizes_tall k fs);
        weight = let w : work_weight ws ≡ work_weight fs + frame_weight (frame.Rest b n) = top_weight fs ws (frame.Rest b n) e in omega arith;
        sound = λ l f h. h;
        count = λ h. let w : units ws ≡ units fs + 0 = top_sizes unit_costs fs ws (frame.Rest b n) e in omega arith;
      }

  pub loop_again : (n : ℕ) (fs : List Frame) (t : Bor Expr) (b : Bor (List Stmt)) → ws ≡ fs ++ frame.Again t b n ∷ [] → Stepped tree ws fs (at.Test t b n) s s
  loop_again n fs t b e =
      record {
        meaning = λ c u. sym (on_top tree.globals c fs ws (frame.Again t b n) (Normal u (state_of s)) e);
        reach =
            λ k. let t : tall k ws ≡ max (tall k fs) (sizes k fs + frame_tall k (frame.Again t b n)) = top_tall k fs ws (frame.Again t b n) e in
            omega arith;
        weight = tt;
        sound = λ l f h. h;
        count = λ h. let w : units ws ≡ units fs + 0 = top_sizes unit_costs fs ws (frame.Again t b n) e in omega arith;
      }

  pub unit_ended : (fs : List Frame) (t : RunnerState) → ws ≡ fs ++ frame.Unit ∷ [] → state_of t ≡ left (state_of s)
      → ((l f : ℕ) → IsSound l f s → IsSound l f t) → length t.activations.items + 1 ≡ length s.activations.items
      → Stepped tree ws fs at.Work s t
  unit_ended fs t e d sound less =
      record {
        meaning = λ c u. ap (λ (x : State). ending tree.globals c fs (Normal u x)) d ∙ sym (on_top tree.globals c fs ws frame.Unit (Normal u (state_of s)) e);
        reach =
            λ k. let t : tall k ws ≡ max (tall k fs) (sizes k fs + frame_tall k frame.Unit) = top_tall k fs ws frame.Unit e in
            let h : sizes k fs ≤ tall k fs = sizes_tall k fs in
            omega arith;
        weight = let w : work_weight ws ≡ work_weight fs + 1 = top_weight fs ws frame.Unit e in omega arith;
        sound = sound;
        count = λ h. let w : units ws ≡ units fs + 1 = top_sizes unit_costs fs ws frame.Unit e in omega arith;
      }

  -- the first statement of a list, with the rest behind it where there is one
  pub first_statement : (n m : ℕ) (fs gs vs : List Frame) (b r : Bor (List Stmt)) (x : Stmt) (next : At) (t : RunnerState)
      → ws ≡ fs ++ frame.Rest b n ∷ [] → b.now ≡ x ∷ r.now → gs ≡ with_rest fs r m
      → Done tree x gs vs next (state_of s) (state_of t) → ((l f : ℕ) → IsSound l f s → IsSound l f t) → SameShape s t → Stepped tree ws vs next s t
  first_statement n m fs gs vs b r x next t e split g done sound same =
      let rest : Behind tree fs gs r.now = behind m tree fs gs r g in
      record {
        meaning = λ c u.
            done.meaning c u
            ∙ rest.meaning c (meaning tree.globals c x u (state_of s))
            ∙ sym (on_top tree.globals c fs ws (frame.Rest b n) (Normal u (state_of s)) e
            ∙ ap (λ (xs : List Stmt). ending tree.globals c fs (body_meaning tree.globals c xs u (state_of s))) split);
        reach = λ k. omega (arith, top_tall k fs ws (frame.Rest b n) e, ap (body_most k) split, rest.tall k, rest.sizes k, done.reach k);
        weight = weighs next done.weight;
        sound = sound;
        count =
            λ h. let same_length : length t.activations.items ≡ length s.activations.items = same in
            omega (arith, top_sizes unit_costs fs ws (frame.Rest b n) e, rest.units, done.units);
      }
    where
      weighs : (a : At) → IfWork a (work_weight vs + 1 ≤ work_weight gs + weight x) → IfWork a (work_weight vs + 1 ≤ work_weight ws)
      weighs at.Work h = omega (arith, top_weight fs ws (frame.Rest b n) e, ap body_weight split, (behind m tree fs gs r g).weight)
      weighs a h = tt

-- each frame of a stack is one
pub stack_length : (tree : StProgram) (fs : List Frame) → sizes (stack_costs tree) fs ≡ length fs
stack_length tree [] = refl
stack_length tree (frame.Rest b n ∷ fs) = let h : sizes (stack_costs tree) fs ≡ length fs = stack_length tree fs in omega arith
stack_length tree (frame.Again t b n ∷ fs) = let h : sizes (stack_costs tree) fs ≡ length fs = stack_length tree fs in omega arith
stack_length tree (frame.Unit ∷ fs) = let h : sizes (stack_costs tree) fs ≡ length fs = stack_length tree fs in omega arith

-- a statement finds room for what it pushes
pub first_room : (n m : ℕ) (tree : StProgram) (capacity : ℕ) (ws fs gs : List Frame) (b r : Bor (List Stmt)) (x : Stmt) (s : RunnerState)
    → IsReady tree capacity ws at.Work s → ws ≡ fs ++ frame.Rest b n ∷ [] → b.now ≡ x ∷ r.now → gs ≡ with_rest fs r m
    → length gs + most (stack_costs tree) x ≤ capacity
first_room n m tree capacity ws fs gs b r x s ready e split g =
    let k : Costs = stack_costs tree in
    let rest : Behind tree fs gs r.now = behind m tree fs gs r g in
    omega (arith, top_tall k fs ws (frame.Rest b n) e, ap (body_most k) split, rest.sizes k, stack_length tree gs, ready.frames)

-- there is room for the rest of a list that was on top
pub rest_room : (n : ℕ) (tree : StProgram) (capacity : ℕ) (ws fs : List Frame) (b : Bor (List Stmt)) (s : RunnerState)
    → IsReady tree capacity ws at.Work s → ws ≡ fs ++ frame.Rest b n ∷ [] → length fs < capacity
rest_room n tree capacity ws fs b s ready e = omega (arith, top_sizes (stack_costs tree) fs ws (frame.Rest b n) e, stack_length tree fs, ready.frames)

pub may_leave : (tree : StProgram) (capacity : ℕ) (ws fs : List Frame) (s : RunnerState)
    → IsReady tree capacity ws at.Work s → ws ≡ fs ++ frame.Unit ∷ [] → MayLeave s
may_leave tree capacity ws fs s ready e =
    (most_locals tree.pous, most_formals tree.pous, ready.sound, omega (arith, top_sizes unit_costs fs ws frame.Unit e, ready.count))

pub ready_running : (tree : StProgram) (capacity : ℕ) (ws : List Frame) (next : At) (s : RunnerState) → IsReady tree capacity ws next s → IsRunning s
ready_running tree capacity ws next s ready = sound_running (most_locals tree.pous) (most_formals tree.pous) s ready.sound

-- what was ready is so after a step
pub stepped_ready : (tree : StProgram) (capacity : ℕ) (ws vs : List Frame) (next : At) (s t : RunnerState)
    → Stepped tree ws vs next s t → IsReady tree capacity ws at.Work s → IsReady tree capacity vs next t
stepped_ready tree capacity ws vs next s t h ready =
    record {
      sound = h.sound (most_locals tree.pous) (most_formals tree.pous) ready.sound;
      count = h.count ready.count;
      frames = omega (arith, h.reach (stack_costs tree), ready.frames);
      depth = omega (arith, h.reach (depth_costs tree), ready.depth);
      actuals = omega (arith, h.reach (misfit_costs tree), ready.actuals);
    }

pub no_items : (xs : List Stmt) → length xs ≡ 0 → xs ≡ []
no_items [] e = refl
no_items (x ∷ xs) e = absurd (omega arith)
