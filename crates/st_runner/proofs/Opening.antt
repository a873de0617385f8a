-- What callers see of a runner is what it is made of; and where a run begins.
use Rattle.st_tree.proofs.Common.{◌≡◌, ℕ, zero, suc, ◌<◌, Bool, true, false, cond, drop, slice_index_or, List, [], ◌∷◌, map, refl, ap, ◌∙◌, ◌+◌, ◌*◌, ◌≤◌, Bor, length, Option, Some, sym, subst, arith, calls_to, Out, Normal, Calls, body_meaning, loop, end_seen, FitFormals, FitsIfThere, FitsSt, FitsUnit, IsOutsidePlace, formals_given, is_meant, references, run_of_unit, st_run, state_at_start, unit_called, State, value, slice_get, position_or_len, find_at, Areas, IsActivation, DataBlock, Area, Place, ACTIVATIONS, Width, BlockName, Call}
use Rattle.st_runner.proofs.Common.{IsSettled, IsReady, most_formals, most_locals, Shows, end_at, resume_frame, outcome_of, unwound, At, Frame, Located, StProgram, reach, units, depth_costs, stack_costs, Costs, body_most, IsRunnable, formals_of_unit, misfit_costs, AreReachable, IsSound, UNIT_FRAMES, Local, Pou, Stmt}
use Rattle.st_runner.specs.inner.Plain.{coming, pending}
use Rattle.st_runner.specs.Standing.{all_followed, end_by, resume}
use Rattle.st_runner.specs.declared.frame.At.TheVariants as at
use Rattle.st_runner.specs.declared.frame.Frame.TheVariants as frame
use Rattle.st_runner.proofs.Stack.{unwound_none}
use Rattle.std.proofs.lemmas.List.{drop-drop}
use Rattle.std.proofs.lemmas.Option.{slice_get-get_or}
use Rattle.memory_areas.specs.declared.place.Area.TheVariants as area
use Rattle.st_runner.specs.declared.state.State.{State as RunnerState}
use Rattle.st_runner.proofs.Chains.{chain_covers, stack_covers}
use Rattle.st_runner.proofs.Spending.{formals_at, locals_at}
use Rattle.memory_areas.specs.declared.call.BlockName.TheVariants as name

module _ (g : List Located) (c : Calls) where
  framed_same : (f : Frame) (o : Out) → resume_frame g c f o ≡ resume g c (pending f) o
  framed_same frame.Unit o = refl
  framed_same f o = refl

  unwound_same : (fs : List Frame) (o : Out) → unwound g c fs o ≡ all_followed g c (map pending fs) o
  unwound_same [] o = refl
  unwound_same (f ∷ fs) o = framed_same f (unwound g c fs o) ∙ ap (resume g c (pending f)) (unwound_same fs o)

  pub end_same : (fs : List Frame) (next : At) (u : ℕ) (s : State) → end_at g c fs next u s ≡ end_by g c (map pending fs) (coming next) u s
  end_same fs at.Work u s = ap end_seen (unwound_same fs (Normal u s))
  end_same fs (at.Test t b n) u s = ap end_seen (unwound_same fs (loop (value g t.now) (body_meaning g c b.now) u s))
  end_same fs (at.Call n b) u s = ap end_seen (unwound_same fs (c n b.now u s))
  end_same fs (at.Over f) u s = refl

-- without a unit, what is settled shows its outcome
pub settled_shows : (tree : StProgram) (fs : List Frame) (next : At) (s : State) → IsSettled next
    → Shows (outcome_of next) (end_at tree.globals (calls_to 0 tree) fs next 0 s) s.memory.areas
settled_shows tree fs at.Work s h = absurd h
settled_shows tree fs (at.Test t b n) s h = ap end_seen (unwound_none tree.globals (calls_to 0 tree) fs s)
settled_shows tree fs (at.Call n b) s h = ap end_seen (unwound_none tree.globals (calls_to 0 tree) fs s)
settled_shows tree fs (at.Over f) s h = refl

-- units one after another

pub called_here : (block : BlockName) (x : Pou) (xs : List Pou) → is_meant block x ≡ true → unit_called block (x ∷ xs) ≡ Some x
called_here block x xs e = ap (λ (b : Bool). cond b (Some x) (unit_called block xs)) e

pub called_later : (block : BlockName) (x : Pou) (xs : List Pou) → is_meant block x ≡ false → unit_called block (x ∷ xs) ≡ unit_called block xs
called_later block x xs e = ap (λ (b : Bool). cond b (Some x) (unit_called block xs)) e

pub get_here : (xs : List Pou) (n : ℕ) (x : Pou) (ys : List Pou) → drop n xs ≡ x ∷ ys → slice_get xs n ≡ Some x
get_here [] zero x ys e = cc
get_here [] (suc n) x ys e = cc
get_here (y ∷ xs) zero x ys e = cc
get_here (y ∷ xs) (suc n) x ys e = get_here xs n x ys e

pub drop_later : (xs : List Pou) (n : ℕ) (x : Pou) (ys : List Pou) → drop n xs ≡ x ∷ ys → drop (n + 1) xs ≡ ys
drop_later xs n x ys e = sym (drop-drop 1 n xs) ∙ ap (λ (zs : List Pou). drop 1 zs) e

pub found_there : (xs : List Pou) (n : ℕ) (x : Pou) → n < length xs → x ≡ slice_index_or xs n x → slice_get xs n ≡ Some x
found_there xs n x h e = slice_get-get_or xs n x h ∙ ap (λ (p : Pou). Some p) (sym e)

-- a unit that is found stands somewhere
pub called_at : (block : BlockName) (xs : List Pou) (x : Pou) → unit_called block xs ≡ Some x → (n : ℕ) × (slice_get xs n ≡ Some x)
called_at block xs x e = (position_or_len (is_meant block) xs, sym (find_at (is_meant block) xs) ∙ e)

pub called_locals : (block : BlockName) (xs : List Pou) (x : Pou) → unit_called block xs ≡ Some x → length x.locals ≤ most_locals xs
called_locals block xs x e = let k = called_at block xs x e in locals_at xs k.0 x k.1

pub called_formals : (block : BlockName) (xs : List Pou) (x : Pou) → unit_called block xs ≡ Some x → length x.formals ≤ most_formals xs
called_formals block xs x e =
    let k = called_at block xs x e in
    subst (λ (o : Option Pou). formals_of_unit o ≤ most_formals xs) k.1 (formals_at xs k.0 x k.1)

-- the places of actuals can be reached
outside_reached : (a : Area) → IsOutsidePlace a → IsActivation a
outside_reached (area.Local d) h = absurd h
outside_reached (area.Cell d) h = absurd h
outside_reached a h = tt

references_reached : (blocks : List DataBlock) (formals : List Local) (actuals : List (Place × Width))
    → FitFormals blocks formals actuals → AreReachable (references formals actuals)
references_reached blocks [] actuals h = tt
references_reached blocks (f ∷ fs) [] h = tt
references_reached blocks (f ∷ fs) (a ∷ xs) h = (outside_reached a.0.area h.0.outside, references_reached blocks fs xs h.1)

pub given_reached : (blocks : List DataBlock) (unit : Pou) (block : BlockName) (instance : ℕ) (actuals : List (Place × Width))
    → FitsUnit blocks unit block instance actuals → AreReachable (formals_given block unit.formals actuals)
given_reached blocks unit (name.Ob n) instance actuals h = tt
given_reached blocks unit (name.Fc n) instance actuals h = references_reached blocks unit.formals actuals h
given_reached blocks unit (name.Fb n) instance actuals h = tt

-- all is reserved that the first unit needs
pub ready_at_start : (n : ℕ) (tree : StProgram) (runnable : IsRunnable tree) (call : Call)
    (unit : Pou) (b : Bor (List Stmt)) (s : RunnerState) (work : List Frame)
    → unit_called call.block tree.pous ≡ Some unit → b.now ≡ unit.body
    → work ≡ frame.Rest b n ∷ [] → IsSound (most_locals tree.pous) (most_formals tree.pous) s
    → length s.activations.items ≡ 1 → IsReady tree (ACTIVATIONS * UNIT_FRAMES) work at.Work s
ready_at_start n tree runnable call unit b s work called is e sound one =
    let k = called_at call.block tree.pous unit called in
    let unit_runs = runnable.units k.0 unit k.1 in
    let reached : (c : Costs) → reach c work at.Work ≡ c.rest + body_most c unit.body = λ c.
    let a : reach c work at.Work ≡ reach c (frame.Rest b n ∷ []) at.Work = ap (λ (x : List Frame). reach c x at.Work) e in
    omega (arith, a, ap (body_most c) is) in
    record {
      sound = sound;
      count = omega (arith, one, ap units e);
      frames = omega (arith, reached (stack_costs tree), stack_covers tree k.0 unit k.1 unit_runs, unit_runs.chain);
      depth = omega (arith, reached (depth_costs tree), chain_covers tree k.0 unit k.1 unit_runs.chain, unit_runs.chain);
      actuals = omega (arith, reached (misfit_costs tree), unit_runs.actuals);
    }

-- it ends as the run of its call does
pub ends_as_run : (n : ℕ) (tree : StProgram) (call : Call) (areas : Areas) (unit : Pou) (b : Bor (List Stmt)) (s : State) (work : List Frame)
    → unit_called call.block tree.pous ≡ Some unit → b.now ≡ unit.body → work ≡ frame.Rest b n ∷ []
    → s ≡ state_at_start unit call areas → (k : ℕ) → end_by tree.globals (calls_to k tree) (map pending work) (coming at.Work) k s ≡ st_run tree call areas k
ends_as_run n tree call areas unit b s work called is e start k =
    sym (end_same tree.globals (calls_to k tree) work at.Work k s)
    ∙ ap (λ (x : List Frame). end_at tree.globals (calls_to k tree) x at.Work k s) e
    ∙ ap (λ (xs : List Stmt). end_seen (body_meaning tree.globals (calls_to k tree) xs k s)) is
    ∙ ap (λ (x : State). end_seen (body_meaning tree.globals (calls_to k tree) unit.body k x)) start
    ∙ sym (ap (λ (o : Option Pou). run_of_unit tree o call areas k) called)

pub fits_there : (tree : StProgram) (call : Call) (unit : Pou) → unit_called call.block tree.pous ≡ Some unit
    → FitsUnit tree.dbs unit call.block call.instance call.actuals → FitsSt tree call
fits_there tree call unit e h = subst (λ (o : Option Pou). FitsIfThere tree call o) (sym e) h
