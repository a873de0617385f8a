-- What takes a unit: the test of a loop and a call.
use Rattle.st_tree.proofs.Common.{◌≡◌, ℕ, suc, ◌+◌, ◌≤◌, Bool, true, false, if◌then◌else◌, List, [], ◌∷◌, Option, Some, Result, Ok, Err, sym, ap, subst, ◌∙◌, arith, zero, ◌<◌, max, Bor, ◌++◌, length, refl, slice_get, ◌==◌, slice_index_or, and_then, Fault, after_unit, enter_with, calls_to, state_on_entry, located_actuals, unit_step, Out, Normal, Calls, after_body, body_meaning, loop, turns, with_value, end_seen, State, value, is_set, nat_tests, slice_get_within, ACTIVATIONS, chain_of}
use Rattle.st_runner.proofs.Common.{end_at, ending, resume_frame, unwound, Frame, Expr, Var, Located, Pou, StProgram, Stmt, Reference, Value, frame_tall, reach, size, sizes, tall, unit_costs, units, depth_costs, stack_costs, Costs, body_most, IsReady, most_formals, most_locals, IsRunnable, formals_of_unit, misfit_costs, Changes, IsSound, state_of, At}
use Rattle.st_runner.specs.declared.frame.At.TheVariants as at
use Rattle.st_runner.specs.declared.frame.Frame.TheVariants as frame
use Rattle.st_runner.proofs.Stack.{unwound_faults, sizes_tall, on_top, top_sizes, top_tall}
use Rattle.st_tree.proofs.Units.{CallsFollow, Follows, body_follows, calls_follow, follows_same, none_more, statements_follow, then_follows, turns_follow, unit_follows}
use Rattle.std.proofs.lemmas.Option.{slice_get-get_or}
use Rattle.st_runner.specs.inner.Ready.{Spent}
use Rattle.st_runner.specs.inner.View.{MayEnter}
use Rattle.st_runner.specs.declared.state.State.{State as RunnerState}
use Rattle.st_runner.proofs.Chains.{chain_covers, chain_some, stack_covers, unit_there}
use Rattle.st_runner.proofs.Stepping.{stack_length}

-- What waits means the same with calls that may nest one deeper, where the units are fewer

module _ (g : List Located) (c d : Calls) (k : ℕ) (calls : CallsFollow k c d) where
  framed_follows : (f : Frame) (j u : ℕ) (o p : Out) → u ≤ k → Follows j u o p → Follows j u (resume_frame g c f o) (resume_frame g d f p)
  framed_follows (frame.Rest b place) j u o p h e =
      then_follows k j u o p (body_meaning g c b.now) (body_meaning g d b.now) h (statements_follow k g c d calls b.now) e
  framed_follows (frame.Again t b place) j u o p h e =
      body_follows k j u o p (loop (value g t.now) (body_meaning g c b.now)) (loop (value g t.now) (body_meaning g d b.now))
      (λ v s w. turns_follow k v (v + j) (value g t.now) (body_meaning g c b.now) (body_meaning g d b.now)
      (statements_follow k g c d calls b.now) v j s (omega arith) (omega arith) (omega arith)) e
  framed_follows frame.Unit j u o p h e = unit_follows k j u o p e

  pub unwound_follows : (fs : List Frame) (j u : ℕ) (o p : Out) → u ≤ k → Follows j u o p → Follows j u (unwound g c fs o) (unwound g d fs p)
  unwound_follows [] j u o p h e = e
  unwound_follows (f ∷ fs) j u o p h e = framed_follows f j u (unwound g c fs o) (unwound g d fs p) h (unwound_follows fs j u o p h e)

module _ (tree : StProgram) (u : ℕ) where
  abbrev g : List Located
  g = tree.globals

  abbrev c : Calls
  c = calls_to u tree

  abbrev d : Calls
  d = calls_to (suc u) tree

  calls : CallsFollow u c d
  calls = calls_follow u u (suc u) tree (omega arith) (omega arith)

  same_calls : CallsFollow u c c
  same_calls = calls_follow u u u tree (omega arith) (omega arith)

  same_ending : (fs : List Frame) (o p : Out) → Follows 0 u o p → ending g c fs o ≡ ending g d fs p
  same_ending fs o p e = ap end_seen (sym (follows_same u (unwound g c fs o) (unwound g d fs p) (unwound_follows g c d u calls fs 0 u o p (omega arith) e)))

  normal_follows : (s : State) → Follows 0 u (Normal u s) (Normal u s)
  normal_follows s = (ap (λ v. Normal v s) (sym (none_more u)), omega arith)

  body_same : (b : List Stmt) (s : State) → Follows 0 u (body_meaning g c b u s) (body_meaning g d b u s)
  body_same b s =
      subst (λ v. Follows 0 u (body_meaning g c b u s) (body_meaning g d b v s)) (none_more u) (statements_follow u g c d calls b u 0 s (omega arith))

  body_bound : (b : List Stmt) (s : State) → Follows 0 u (body_meaning g c b u s) (body_meaning g c b u s)
  body_bound b s =
      subst (λ v. Follows 0 u (body_meaning g c b u s) (body_meaning g c b v s)) (none_more u) (statements_follow u g c c same_calls b u 0 s (omega arith))

  module _ (ws : List Frame) (s : State) where
    -- a test
    abbrev turned : Expr → List Stmt → Result Value Fault → Out
    turned test b r = with_value r u s (λ v. if is_set v then after_body (body_meaning g d b u s) (turns u (value g test) (body_meaning g d b)) else Normal u s)

    pub test_faults : (test : Expr) (b : List Stmt) (f : Fault) → value g test s ≡ Err f
        → end_at g c ws (at.Over (Some f)) u s ≡ ending g d ws (loop (value g test) (body_meaning g d b) (suc u) s)
    test_faults test b f e = sym (ap end_seen (unwound_faults g d ws f s)) ∙ ap (λ r. ending g d ws (turned test b r)) (sym e)

    abbrev picked_turn : Expr → List Stmt → Bool → Out
    picked_turn test b x = if x then after_body (body_meaning g d b u s) (turns u (value g test) (body_meaning g d b)) else Normal u s

    by_truth : (test : Expr) (b : List Stmt) (r : Result Value Fault) (x : Bool)
        → and_then r (λ v. Ok (is_set v)) ≡ Ok x → turned test b r ≡ picked_turn test b x
    by_truth test b (Ok v) x e = ap (picked_turn test b) (truth (is_set v) x e)
      where
        truth : (p q : Bool) → ◌≡◌ {A = Result Bool Fault} (Ok p) (Ok q) → p ≡ q
        truth p q h = cc
    by_truth test b (Err f) x e = cc

    pub test_ends : (test : Expr) (b : List Stmt) → and_then (value g test s) (λ v. Ok (is_set v)) ≡ Ok false
        → end_at g c ws at.Work u s ≡ ending g d ws (loop (value g test) (body_meaning g d b) (suc u) s)
    test_ends test b e = same_ending ws (Normal u s) (Normal u s) (normal_follows s) ∙ ap (ending g d ws) (sym (by_truth test b (value g test s) false e))

    pub test_goes_on : (test : Expr) (b : List Stmt) → and_then (value g test s) (λ v. Ok (is_set v)) ≡ Ok true
        → ending g c ws (after_body (body_meaning g c b u s) (loop (value g test) (body_meaning g c b)))
        ≡ ending g d ws (loop (value g test) (body_meaning g d b) (suc u) s)
    test_goes_on test b e =
        same_ending ws (after_body (body_meaning g c b u s) (loop (value g test) (body_meaning g c b)))
        (after_body (body_meaning g d b u s) (turns u (value g test) (body_meaning g d b)))
        (body_follows u 0 u (body_meaning g c b u s) (body_meaning g d b u s)
        (loop (value g test) (body_meaning g c b)) (turns u (value g test) (body_meaning g d b))
        (λ v t w. turns_follow u v u (value g test) (body_meaning g c b) (body_meaning g d b)
        (statements_follow u g c d calls b) v 0 t w (omega arith) (omega arith)) (body_same b s))
        ∙ ap (ending g d ws) (sym (by_truth test b (value g test s) true e))

    -- a call
    pub call_faults : (n : ℕ) (actuals : List Var) (f : Fault) → located_actuals g actuals s ≡ Err f
        → end_at g c ws (at.Over (Some f)) u s ≡ ending g d ws (d n actuals (suc u) s)
    call_faults n actuals f e =
        sym (ap end_seen (unwound_faults g d ws f s)) ∙ ap (λ r. ending g d ws (enter_with (unit_step tree c (slice_get tree.pous n)) r u s)) (sym e)

    pub call_enters : (n : ℕ) (actuals : List Var) (unit : Pou) (formals : List Reference)
        → slice_get tree.pous n ≡ Some unit → located_actuals g actuals s ≡ Ok formals
        → ending g c ws (after_unit (body_meaning g c unit.body u (state_on_entry unit formals s))) ≡ ending g d ws (d n actuals (suc u) s)
    call_enters n actuals unit formals there e =
        same_ending ws (after_unit (body_meaning g c unit.body u (state_on_entry unit formals s)))
        (after_unit (body_meaning g c unit.body u (state_on_entry unit formals s)))
        (unit_follows u 0 u (body_meaning g c unit.body u (state_on_entry unit formals s))
        (body_meaning g c unit.body u (state_on_entry unit formals s)) (body_bound unit.body (state_on_entry unit formals s)))
        ∙ ap (λ (o : Option Pou). ending g d ws (unit_step tree c o formals u s)) (sym there)
        ∙ ap (λ r. ending g d ws (enter_with (unit_step tree c (slice_get tree.pous n)) r u s)) (sym e)

-- What is spent

-- two frames more
two_tall : (k : Costs) (ws vs us : List Frame) (f h : Frame) → vs ≡ ws ++ f ∷ [] → us ≡ vs ++ h ∷ []
    → tall k us ≡ max (max (tall k ws) (sizes k ws + frame_tall k f)) (sizes k ws + size k f + frame_tall k h)
two_tall k ws vs us f h e d = omega (arith, top_tall k vs us h d, top_tall k ws vs f e, top_sizes k ws vs f e)

two_sizes : (k : Costs) (ws vs us : List Frame) (f h : Frame) → vs ≡ ws ++ f ∷ [] → us ≡ vs ++ h ∷ [] → sizes k us ≡ sizes k ws + size k f + size k h
two_sizes k ws vs us f h e d = omega (arith, top_sizes k vs us h d, top_sizes k ws vs f e)

module _ (tree : StProgram) (capacity : ℕ) (ws : List Frame) (s : RunnerState) where
  -- what waits costs no more than it did with what came next
  fewer : (next : At) → IsReady tree capacity ws next s → IsReady tree capacity ws at.Work s
  fewer next r =
      let h : (k : Costs) → reach k ws at.Work ≤ reach k ws next = λ k. omega (arith, sizes_tall k ws) in
      record {
        sound = r.sound;
        count = r.count;
        frames = omega (arith, h (stack_costs tree));
        depth = omega (arith, h (depth_costs tree));
        actuals = omega (arith, h (misfit_costs tree));
      }

  fewer_over : (next : At) (f : Option Fault) → IsReady tree capacity ws next s → IsReady tree capacity ws (at.Over f) s
  fewer_over next f r = let w = fewer next r in record { sound = w.sound; count = w.count; frames = w.frames; depth = w.depth; actuals = w.actuals }

  module _ (t : Bor Expr) (b : Bor (List Stmt)) (place : ℕ) (r : IsReady tree capacity ws (at.Test t b place) s) where
    pub test_room : length ws + 2 ≤ capacity
    test_room = omega (arith, r.frames, stack_length tree ws)

    pub test_fault : (f : Fault) → value tree.globals t.now (state_of s) ≡ Err f → Spent tree capacity ws ws (at.Test t b place) (at.Over (Some f)) s s
    test_fault f e = record { meaning = λ u. test_faults tree u ws (state_of s) t.now b.now f e; ready = fewer_over (at.Test t b place) (Some f) r }

    pub test_false : and_then (value tree.globals t.now (state_of s)) (λ v. Ok (is_set v)) ≡ Ok false
        → Spent tree capacity ws ws (at.Test t b place) at.Work s s
    test_false e = record { meaning = λ u. test_ends tree u ws (state_of s) t.now b.now e; ready = fewer (at.Test t b place) r }

    pub test_true : (vs us : List Frame) → vs ≡ ws ++ frame.Again t b place ∷ [] → us ≡ vs ++ frame.Rest b place ∷ []
        → and_then (value tree.globals t.now (state_of s)) (λ v. Ok (is_set v)) ≡ Ok true → Spent tree capacity ws us (at.Test t b place) at.Work s s
    test_true vs us e d x =
        let h : (k : Costs) → reach k us at.Work ≤ reach k ws (at.Test t b place) =
        λ k. omega (arith, sizes_tall k us, two_tall k ws vs us (frame.Again t b place) (frame.Rest b place) e d) in
        let n = two_sizes unit_costs ws vs us (frame.Again t b place) (frame.Rest b place) e d in
        record {
          meaning = λ u.
              on_top tree.globals (calls_to u tree) vs us (frame.Rest b place) (Normal u (state_of s)) d
              ∙ on_top tree.globals (calls_to u tree) ws vs (frame.Again t b place) (body_meaning tree.globals (calls_to u tree) b.now u (state_of s)) e
              ∙ test_goes_on tree u ws (state_of s) t.now b.now x;
          ready =
              record {
                sound = r.sound;
                count = omega (arith, n, r.count);
                frames = omega (arith, h (stack_costs tree), r.frames);
                depth = omega (arith, h (depth_costs tree), r.depth);
                actuals = omega (arith, h (misfit_costs tree), r.actuals);
              };
        }

-- Calls

depth_units : (tree : StProgram) (ws : List Frame) → sizes (depth_costs tree) ws ≡ units ws
depth_units tree [] = refl
depth_units tree (frame.Rest b place ∷ ws) = let h : sizes (depth_costs tree) ws ≡ units ws = depth_units tree ws in omega arith
depth_units tree (frame.Again t b place ∷ ws) = let h : sizes (depth_costs tree) ws ≡ units ws = depth_units tree ws in omega arith
depth_units tree (frame.Unit ∷ ws) = let h : sizes (depth_costs tree) ws ≡ units ws = depth_units tree ws in omega arith

pub locals_at : (xs : List Pou) (n : ℕ) (x : Pou) → slice_get xs n ≡ Some x → length x.locals ≤ most_locals xs
locals_at [] n x e = cc
locals_at (y ∷ xs) zero x e = let same : y ≡ x = cc in omega (arith, ap (λ (p : Pou). length p.locals) same)
locals_at (y ∷ xs) (suc n) x e = let h : length x.locals ≤ most_locals xs = locals_at xs n x e in omega arith

pub formals_at : (xs : List Pou) (n : ℕ) (x : Pou) → slice_get xs n ≡ Some x → formals_of_unit (slice_get xs n) ≤ most_formals xs
formals_at [] n x e = cc
formals_at (y ∷ xs) zero x e = omega arith
formals_at (y ∷ xs) (suc n) x e = let h : formals_of_unit (slice_get xs n) ≤ most_formals xs = formals_at xs n x e in omega arith

fits : (a b : ℕ) → ◌≡◌ {A = ℕ} (if a == b then 0 else 1) 0 → a ≡ b
fits a b e = grind (arith, nat_tests)

-- a call that was done found its actuals
done_at : (r : Result (List Reference) Fault) (f : List Reference → State) (t : State)
    → and_then r (λ formals. Ok (f formals)) ≡ Ok t → (formals : List Reference) × (r ≡ Ok formals) × (f formals ≡ t)
done_at (Ok formals) f t e = (formals, refl, by (f formals) t e)
  where
    by : (x y : State) → ◌≡◌ {A = Result State Fault} (Ok x) (Ok y) → x ≡ y
    by x y h = cc
done_at (Err g) f t e = cc

-- what had a fault before it was used
pub fault_is : {A B : Type 0} (r : Result A Fault) (f : A → B) (x : Fault) → and_then r (λ a. Ok (f a)) ≡ Err x → r ≡ Err x
fault_is (Ok a) f x e = cc
fault_is {A} {B} (Err g) f x e = by g x e
  where
    by : (p q : Fault) → ◌≡◌ {A = Result B Fault} (Err p) (Err q) → ◌≡◌ {A = Result A Fault} (Err p) (Err q)
    by p q h = cc

module _ (tree : StProgram) (runnable : IsRunnable tree) (capacity : ℕ) (ws : List Frame)
    (s : RunnerState) (n : ℕ) (b : Bor (List Var)) (r : IsReady tree capacity ws (at.Call n b) s) where
  chain_small : units ws + chain_of tree n < ACTIVATIONS
  chain_small = omega (arith, r.depth, depth_units tree ws)

  pub call_there : n < length tree.pous
  call_there =
      let found = unit_there tree n (omega (arith, chain_small)) in
      slice_get_within tree.pous n found.0 found.1

  -- the unit that is found at the number
  pub call_unit : (xs : List Pou) (unit : Pou) → xs ≡ tree.pous → unit ≡ slice_index_or xs n unit → slice_get tree.pous n ≡ Some unit
  call_unit xs unit e is =
      subst (λ (ys : List Pou). slice_get ys n ≡ Some unit) e
      (slice_get-get_or xs n unit (subst (λ (ys : List Pou). n < length ys) (sym e) call_there) ∙ ap (λ (p : Pou). Some p) (sym is))

  pub call_room : length ws + 2 ≤ capacity
  call_room = omega (arith, r.frames, stack_length tree ws, chain_some tree n)

  pub call_may : (unit : Pou) → slice_get tree.pous n ≡ Some unit → MayEnter s unit b.now
  call_may unit e =
      let same = fits (length b.now) (formals_of_unit (slice_get tree.pous n)) (omega (arith, r.actuals)) in
      let few = chain_small in
      let given = formals_at tree.pous n unit e in (
        most_locals tree.pous,
        most_formals tree.pous,
        record {
          sound = r.sound;
          few = omega (arith, few, chain_some tree n, r.count);
          locals_fit = locals_at tree.pous n unit e;
          actuals_fit = omega (arith, same, given);
        },
      )

  pub call_fault : (unit : Pou) (t : RunnerState) (f : Fault) → slice_get tree.pous n ≡ Some unit
      → Changes (and_then (located_actuals tree.globals b.now (state_of s)) (λ formals. Ok (state_on_entry unit formals (state_of s))))
      (Err f) (state_of s) (state_of t)
      → ((l g : ℕ) → IsSound l g s → IsSound l g t) → length t.activations.items ≡ length s.activations.items
      → Spent tree capacity ws ws (at.Call n b) (at.Over (Some f)) s t
  call_fault unit t f e change sound same =
      let w = fewer_over tree capacity ws s (at.Call n b) (Some f) r in
      record {
        meaning = λ u.
            ap (λ (x : State). end_at tree.globals (calls_to u tree) ws (at.Over (Some f)) u x) change.1
            ∙ call_faults tree u ws (state_of s) n b.now f
            (fault_is (located_actuals tree.globals b.now (state_of s)) (λ formals. state_on_entry unit formals (state_of s)) f change.0);
        ready = record {
          sound = sound (most_locals tree.pous) (most_formals tree.pous) w.sound;
          count = same ∙ w.count;
          frames = w.frames;
          depth = w.depth;
          actuals = w.actuals;
        };
      }

  pub call_done : (place : ℕ) (unit : Pou) (t : RunnerState) (body : Bor (List Stmt)) (vs us : List Frame)
      → slice_get tree.pous n ≡ Some unit → body.now ≡ unit.body → vs ≡ ws ++ frame.Unit ∷ [] → us ≡ vs ++ frame.Rest body place ∷ []
      → and_then (located_actuals tree.globals b.now (state_of s)) (λ formals. Ok (state_on_entry unit formals (state_of s))) ≡ Ok (state_of t)
      → ((l g : ℕ) → IsSound l g s → IsSound l g t) → length t.activations.items ≡ length s.activations.items + 1
      → Spent tree capacity ws us (at.Call n b) at.Work s t
  call_done place unit t body vs us there is e d change sound deeper =
      let done = done_at (located_actuals tree.globals b.now (state_of s)) (λ formals. state_on_entry unit formals (state_of s)) (state_of t) change in
      let unit_runs = runnable.units n unit there in
      let tall_is : (k : Costs) → reach k us at.Work ≤ max (tall k ws) (sizes k ws + (k.unit + (k.rest + body_most k unit.body))) = λ k.
      omega (arith, sizes_tall k us, ap (body_most k) is, two_tall k ws vs us frame.Unit (frame.Rest body place) e d) in
      let two = two_sizes unit_costs ws vs us frame.Unit (frame.Rest body place) e d in
      record {
        meaning = λ u.
            ap (λ (x : State). ending tree.globals (calls_to u tree) us (Normal u x)) (sym done.2)
            ∙ on_top tree.globals (calls_to u tree) vs us (frame.Rest body place) (Normal u (state_on_entry unit done.0 (state_of s))) d
            ∙ on_top tree.globals (calls_to u tree) ws vs frame.Unit
            (body_meaning tree.globals (calls_to u tree) body.now u (state_on_entry unit done.0 (state_of s))) e
            ∙ ap (λ (xs : List Stmt). ending tree.globals (calls_to u tree) ws
            (after_unit (body_meaning tree.globals (calls_to u tree) xs u (state_on_entry unit done.0 (state_of s))))) is
            ∙ call_enters tree u ws (state_of s) n b.now unit done.0 there done.1;
        ready =
            record {
              sound = sound (most_locals tree.pous) (most_formals tree.pous) r.sound;
              count = omega (arith, two, r.count);
              frames = omega (arith, tall_is (stack_costs tree), stack_covers tree n unit there unit_runs, r.frames);
              depth = omega (arith, tall_is (depth_costs tree), chain_covers tree n unit there unit_runs.chain, r.depth);
              actuals = omega (arith, tall_is (misfit_costs tree), unit_runs.actuals, r.actuals);
            };
      }
