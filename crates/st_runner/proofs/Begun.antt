-- Assignments that some statements begin with, done one after another.
use Rattle.st_tree.proofs.Common.{◌≡◌, ℕ, ◌+◌, ◌≤◌, Bor, List, [], ◌∷◌, ◌++◌, length, Some, Result, Ok, Err, refl, sym, ap, ◌∙◌, arith, Fault, Out, Calls, Faults, Normal, assignment, body_meaning, end_seen, state_or_fault, then_do, State}
use Rattle.st_runner.proofs.Common.{body_weight, reach, tall, unit_costs, units, work_weight, depth_costs, stack_costs, Costs, body_most, most, IsReady, most_formals, most_locals, misfit_costs, ending, IsSound, state_of, At, Expr, Frame, Located, StProgram, Stmt, Var}
use Rattle.st_runner.specs.inner.Begun.{HasBegun}
use Rattle.st_runner.specs.inner.Plan.{parts_of}
use Rattle.st_runner.specs.inner.Ready.{IfWork, Stepped}
use Rattle.st_runner.specs.inner.View.{SameShape}
use Rattle.st_runner.specs.declared.frame.At.TheVariants as at
use Rattle.st_runner.specs.declared.frame.Frame.TheVariants as frame
use Rattle.st_runner.specs.declared.state.State.{State as RunnerState}
use Rattle.st_runner.proofs.Plans.{assign_is, rest_planned}
use Rattle.st_runner.proofs.Stack.{on_top, sizes_tall, top_sizes, top_tall, top_weight, unwound_faults}
use Rattle.st_tree.proofs.Equations.{meaning_assign}
use Rattle.st_tree.specs.declared.program.Stmt.TheVariants as stmt

-- nothing is done yet
pub none_begun : (g : List Located) (b : List Stmt) (s : State) → HasBegun g b b s s
none_begun g b s = record { meaning = λ c u. refl; most = λ k. omega arith; weight = omega arith; planned = λ plan n h. h }

-- One assignment more

module _ (g : List Located) (b r behind : List Stmt) (x : Stmt) (v : Var) (e : Expr) (s t : State) where
  -- an assignment before others does its change, and then they follow
  first : (c : Calls) (u : ℕ) (change : Result State Fault) → r ≡ x ∷ behind → x ≡ stmt.Assign v e → assignment g v e t ≡ change
      → body_meaning g c r u t ≡ then_do (state_or_fault change u t) (body_meaning g c behind)
  first c u change split is done =
      ap (λ (xs : List Stmt). body_meaning g c xs u t) (split ∙ ap (λ (y : Stmt). y ∷ behind) is)
      ∙ ap (λ (o : Out). then_do o (body_meaning g c behind)) (meaning_assign g c u t v e)
      ∙ ap (λ (q : Result State Fault). then_do (state_or_fault q u t) (body_meaning g c behind)) done

  pub one_more : (w : State) → HasBegun g b r s t → r ≡ x ∷ behind → x ≡ stmt.Assign v e → assignment g v e t ≡ Ok w → HasBegun g b behind s w
  one_more w h split is done =
      record {
        meaning = λ c u. h.meaning c u ∙ first c u (Ok w) split is done;
        most = λ k. omega (arith, h.most k, ap (body_most k) split);
        weight = omega (arith, h.weight, ap body_weight split);
        planned =
            λ plan n p. rest_planned plan n n r x behind split
            (let none : length (parts_of x) ≡ 0 = ap (λ (y : Stmt). length (parts_of y)) is ∙ ap length (assign_is v e) in omega arith) (h.planned plan n p);
      }

  pub one_faults : (f : Fault) → HasBegun g b r s t → r ≡ x ∷ behind → x ≡ stmt.Assign v e → assignment g v e t ≡ Err f
      → (c : Calls) (u : ℕ) → body_meaning g c b u s ≡ Faults f t
  one_faults f h split is done c u = h.meaning c u ∙ first c u (Err f) split is done

-- The frame of a list whose first statements were done

module _ (tree : StProgram) (ws fs : List Frame) (n : ℕ) (b r : Bor (List Stmt)) (s t : RunnerState) (e : ws ≡ fs ++ frame.Rest b n ∷ []) where
  abbrev after : List Frame
  after = fs ++ frame.Rest r n ∷ []

  no_taller : (k : Costs) → body_most k r.now ≤ body_most k b.now → tall k after ≤ tall k ws
  no_taller k most = omega (arith, most, top_tall k fs ws (frame.Rest b n) e, top_tall k fs after (frame.Rest r n) refl)

  no_further : (k : Costs) → body_most k r.now ≤ body_most k b.now → reach k after at.Work ≤ reach k ws at.Work
  no_further k most = omega (arith, no_taller k most, top_sizes k fs ws (frame.Rest b n) e, top_sizes k fs after (frame.Rest r n) refl)

  counted : SameShape s t → length s.activations.items ≡ 1 + units ws → length t.activations.items ≡ 1 + units after
  counted same count =
      let same_length : length t.activations.items ≡ length s.activations.items = same in
      omega (arith, count, top_sizes unit_costs fs ws (frame.Rest b n) e, top_sizes unit_costs fs after (frame.Rest r n) refl)

  pub ready_on : (capacity : ℕ) → HasBegun tree.globals b.now r.now (state_of s) (state_of t)
      → ((l f : ℕ) → IsSound l f s → IsSound l f t) → SameShape s t
      → IsReady tree capacity ws at.Work s → IsReady tree capacity (fs ++ frame.Rest r n ∷ []) at.Work t
  ready_on capacity h sound same ready =
      record {
        sound = sound (most_locals tree.pous) (most_formals tree.pous) ready.sound;
        count = counted same ready.count;
        frames = omega (arith, no_further (stack_costs tree) (h.most (stack_costs tree)), ready.frames);
        depth = omega (arith, no_further (depth_costs tree) (h.most (depth_costs tree)), ready.depth);
        actuals = omega (arith, no_further (misfit_costs tree) (h.most (misfit_costs tree)), ready.actuals);
      }

  pub stepped_on : (vs : List Frame) (next : At) (w : RunnerState) → HasBegun tree.globals b.now r.now (state_of s) (state_of t)
      → ((l f : ℕ) → IsSound l f s → IsSound l f t) → SameShape s t → Stepped tree (fs ++ frame.Rest r n ∷ []) vs next t w
      → Stepped tree ws vs next s w
  stepped_on vs next w h sound same step =
      record {
        meaning =
            λ c u. step.meaning c u ∙ on_top tree.globals c fs after (frame.Rest r n) (Normal u (state_of t)) refl
            ∙ sym (ap (ending tree.globals c fs) (h.meaning c u))
            ∙ sym (on_top tree.globals c fs ws (frame.Rest b n) (Normal u (state_of s)) e);
        reach = λ k. omega (arith, step.reach k, no_taller k (h.most k));
        weight = weighs next step.weight;
        sound = λ l f k. step.sound l f (sound l f k);
        count = λ k. step.count (counted same k);
      }
    where
      weighs : (a : At) → IfWork a (work_weight vs + 1 ≤ work_weight after) → IfWork a (work_weight vs + 1 ≤ work_weight ws)
      weighs at.Work k = omega (arith, k, h.weight, top_weight fs ws (frame.Rest b n) e, top_weight fs after (frame.Rest r n) refl)
      weighs a k = tt

  pub fault_on : (f : Fault) → ((c : Calls) (u : ℕ) → body_meaning tree.globals c b.now u (state_of s) ≡ Faults f (state_of t))
      → ((l f : ℕ) → IsSound l f s → IsSound l f t) → SameShape s t → Stepped tree ws fs (at.Over (Some f)) s t
  fault_on f faults sound same =
      record {
        meaning =
            λ c u. sym (on_top tree.globals c fs ws (frame.Rest b n) (Normal u (state_of s)) e
            ∙ ap (ending tree.globals c fs) (faults c u) ∙ ap end_seen (unwound_faults tree.globals c fs f (state_of t)));
        reach = λ k. omega (arith, top_tall k fs ws (frame.Rest b n) e, sizes_tall k fs);
        weight = tt;
        sound = sound;
        count =
            λ h. let same_length : length t.activations.items ≡ length s.activations.items = same in
            omega (arith, h, top_sizes unit_costs fs ws (frame.Rest b n) e);
      }
