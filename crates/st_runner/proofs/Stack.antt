-- Frames that wait: what is pushed is done first, how much they cost, and those that EXIT, CONTINUE and RETURN
-- take away.
use Rattle.st_tree.proofs.Common.{◌≡◌, ◌+◌, ◌≤◌, max, List, [], ◌∷◌, ◌++◌, refl, ap, ◌∙◌, arith, ℕ, sym, subst, Fault, Out, Faults, NoUnits, Calls, Normal, State, end_seen}
use Rattle.st_runner.proofs.Common.{frame_tall, frame_weight, size, sizes, tall, work_weight, unit_costs, units, Costs, resume_frame, unwound, ending, Frame, Located, Leaves}
use Rattle.st_runner.specs.declared.frame.Frame.TheVariants as frame
use Rattle.st_runner.specs.inner.Plan.{ArePlanned}
use Rattle.st_runner.proofs.Plans.{planned_below}

module _ (g : List Located) (c : Calls) where
  pub unwound_push : (fs : List Frame) (f : Frame) (o : Out) → unwound g c (fs ++ f ∷ []) o ≡ unwound g c fs (resume_frame g c f o)
  unwound_push [] f o = refl
  unwound_push (x ∷ fs) f o = ap (resume_frame g c x) (unwound_push fs f o)

  framed_faults : (f : Frame) (x : Fault) (s : State) → resume_frame g c f (Faults x s) ≡ Faults x s
  framed_faults frame.Unit x s = refl
  framed_faults f x s = refl

  pub unwound_faults : (fs : List Frame) (x : Fault) (s : State) → unwound g c fs (Faults x s) ≡ Faults x s
  unwound_faults [] x s = refl
  unwound_faults (f ∷ fs) x s = ap (resume_frame g c f) (unwound_faults fs x s) ∙ framed_faults f x s

  framed_none : (f : Frame) (s : State) → resume_frame g c f (NoUnits s) ≡ NoUnits s
  framed_none frame.Unit s = refl
  framed_none f s = refl

  pub unwound_none : (fs : List Frame) (s : State) → unwound g c fs (NoUnits s) ≡ NoUnits s
  unwound_none [] s = refl
  unwound_none (f ∷ fs) s = ap (resume_frame g c f) (unwound_none fs s) ∙ framed_none f s

module _ (k : Costs) where
  pub sizes_push : (fs : List Frame) (f : Frame) → sizes k (fs ++ f ∷ []) ≡ sizes k fs + size k f
  sizes_push [] f = omega arith
  sizes_push (x ∷ fs) f = let h : sizes k (fs ++ f ∷ []) ≡ sizes k fs + size k f = sizes_push fs f in omega arith

  size_frame : (f : Frame) → size k f ≤ frame_tall k f
  size_frame (frame.Rest body place) = omega arith
  size_frame (frame.Again test body place) = omega arith
  size_frame frame.Unit = omega arith

  pub sizes_tall : (fs : List Frame) → sizes k fs ≤ tall k fs
  sizes_tall [] = omega arith
  sizes_tall (f ∷ fs) = let h : sizes k fs ≤ tall k fs = sizes_tall fs in omega arith

  pub tall_push : (fs : List Frame) (f : Frame) → tall k (fs ++ f ∷ []) ≡ max (tall k fs) (sizes k fs + frame_tall k f)
  tall_push [] f = let h : size k f ≤ frame_tall k f = size_frame f in omega arith
  tall_push (x ∷ fs) f = omega (arith, tall_push fs f)

pub weight_push : (fs : List Frame) (f : Frame) → work_weight (fs ++ f ∷ []) ≡ work_weight fs + frame_weight f
weight_push [] f = omega arith
weight_push (x ∷ fs) f = let h : work_weight (fs ++ f ∷ []) ≡ work_weight fs + frame_weight f = weight_push fs f in omega arith

-- a frame on top
pub on_top : (g : List Located) (c : Calls) (fs ws : List Frame) (f : Frame) (o : Out)
    → ws ≡ fs ++ f ∷ [] → ending g c ws o ≡ ending g c fs (resume_frame g c f o)
on_top g c fs ws f o e = ap (λ (xs : List Frame). ending g c xs o) e ∙ ap end_seen (unwound_push g c fs f o)

pub top_tall : (k : Costs) (fs ws : List Frame) (f : Frame) → ws ≡ fs ++ f ∷ [] → tall k ws ≡ max (tall k fs) (sizes k fs + frame_tall k f)
top_tall k fs ws f e = ap (tall k) e ∙ tall_push k fs f

pub top_sizes : (k : Costs) (fs ws : List Frame) (f : Frame) → ws ≡ fs ++ f ∷ [] → sizes k ws ≡ sizes k fs + size k f
top_sizes k fs ws f e = ap (sizes k) e ∙ sizes_push k fs f

pub top_weight : (fs ws : List Frame) (f : Frame) → ws ≡ fs ++ f ∷ [] → work_weight ws ≡ work_weight fs + frame_weight f
top_weight fs ws f e = ap work_weight e ∙ weight_push fs f

-- a frame that an end takes away, and that is no unit
pub passed : (o p : ℕ → State → Out) (ws fs gs : List Frame) (f : Frame) → size unit_costs f ≡ 0
    → ((g : List Located) (c : Calls) (u : ℕ) (s : State) → resume_frame g c f (o u s) ≡ p u s)
    → fs ≡ gs ++ f ∷ [] → Leaves o o ws fs → Leaves o p ws gs
passed o p ws fs gs f none ends e h =
    record {
      meaning = λ g c u s. ap (ending g c gs) (sym (ends g c u s)) ∙ sym (on_top g c gs fs f (o u s) e) ∙ h.meaning g c u s;
      tall = λ k. omega (arith, top_tall k gs fs f e, h.tall k);
      units = omega (arith, none, top_sizes unit_costs gs fs f e, h.units);
      weight = omega (arith, top_weight gs fs f e, h.weight);
      planned = λ plan w. planned_below plan gs f (subst (λ (x : List Frame). ArePlanned plan x) e (h.planned plan w));
    }

-- a frame that an end stops at
pub stopped : (o : ℕ → State → Out) (ws fs gs hs : List Frame) (f : Frame)
    → ((g : List Located) (c : Calls) (u : ℕ) (s : State) → resume_frame g c f (o u s) ≡ resume_frame g c f (Normal u s))
    → fs ≡ gs ++ f ∷ [] → hs ≡ gs ++ f ∷ [] → Leaves o o ws fs → Leaves o Normal ws hs
stopped o ws fs gs hs f same e d h =
    let back : hs ≡ fs = d ∙ sym e in
    record {
      meaning = λ g c u s.
          on_top g c gs hs f (Normal u s) d ∙ ap (ending g c gs) (sym (same g c u s)) ∙ sym (on_top g c gs fs f (o u s) e) ∙ h.meaning g c u s;
      tall = λ k. subst (λ (x : List Frame). tall k x ≤ tall k ws) (sym back) (h.tall k);
      units = ap units back ∙ h.units;
      weight = subst (λ (x : List Frame). work_weight x ≤ work_weight ws) (sym back) h.weight;
      planned = λ plan w. subst (λ (x : List Frame). ArePlanned plan x) (sym back) (h.planned plan w);
    }
