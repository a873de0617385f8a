-- A called block begins, in a state that is related to the one in which its unit begins.
use Rattle.std.proofs.Common.{◌≡◌, ℕ, zero, suc, ◌+◌, ◌≤◌, List, [], ◌∷◌, ◌++◌, length, Option, Some, None, refl, sym, ap, subst, ◌∙◌, arith}
use Rattle.std.specs.Prelude.{replicate, slice_get, slice_set}
use Rattle.std.proofs.lemmas.List.{length-append}
use Rattle.call_templates.specs.CallLaw.{frames_inside}
use Rattle.memory_areas.specs.Access.{HoldsBytes}
use Rattle.memory_areas.specs.Areas.{Areas, Contents, no_locals, with_zero_activation, zero_locals}
use Rattle.memory_areas.specs.Memory.{HasActivations, HasBlocks}
use Rattle.memory_areas.specs.declared.sizes.TheConstants.{ACTIVATIONS}
use Rattle.s7_base.specs.declared.word.Width.{Width}
use Rattle.stl_tree.specs.Accepted.{Widths}
use Rattle.stl_tree.specs.Calls.{cell_of, going_on}
use Rattle.stl_tree.specs.Now.{Activation, Now}
use Rattle.st_tree.specs.Calls.{activation_of, state_on_entry}
use Rattle.st_tree.specs.State.{Activation as Running, State, read_place}
use Rattle.st_tree.specs.Values.{type_of_width}
use Rattle.st_tree.specs.declared.program.Pou.{Pou}
use Rattle.st_tree.specs.declared.state.Reference.{Reference}
use Rattle.st_tree.specs.declared.state.Value.{Value}
use Rattle.template_parts.proofs.Alike.{on_length, one_longer, wait_length}
use Rattle.template_parts.specs.Related.{AreApart, AreFormals, AreHeld, Constant, Frames, IsHeld, Related, StaysAsWas, Wait, Waiting, formals_of_block, without_cells}

-- Waiting units

-- a cell of an activation reads alike in both memories
abbrev pub ReadsAlike : Contents → Contents → ℕ → Type 0
ReadsAlike before after at =
    (j : ℕ) (u : Width) → read_place (type_of_width u) (cell_of at j) after ≡ read_place (type_of_width u) (cell_of at j) before

held_alike : (before after : Contents) (at j : ℕ) (u : Width) (v : Option Value) → ReadsAlike before after at → IsHeld before (cell_of at j) u v
    → IsHeld after (cell_of at j) u v
held_alike before after at j u None same h = h
held_alike before after at j u (Some v) same h = same j u ∙ h

all_alike : (before after : Contents) (at j : ℕ) (constants : List (Option Constant)) (unit : Running) → ReadsAlike before after at
    → AreHeld before at j constants unit → AreHeld after at j constants unit
all_alike before after at j [] unit same h = tt
all_alike before after at j (None ∷ constants) unit same h = all_alike before after at (suc j) constants unit same h
all_alike before after at j (Some c ∷ constants) unit same h =
    (held_alike before after at j c.width (slice_get unit.locals c.local) same h.0, all_alike before after at (suc j) constants unit same h.1)

wait_alike : (before after : Contents) (d : ℕ) (waiting : List Waiting) (units : List Running)
    → ((at : ℕ) → at ≤ d + length waiting → ReadsAlike before after at) → Wait before d waiting units → Wait after d waiting units
wait_alike before after d [] [] same h = tt
wait_alike before after d (was ∷ waiting) (unit ∷ units) same h = (
  h.0,
  all_alike before after (suc d) 0 was.constants unit (same (suc d) (omega arith)) h.1,
  wait_alike before after (suc d) waiting units (λ at less. same at (omega arith)) h.2,
)
wait_alike before after d waiting units same h = absurd h

-- one more waits
wait_more : (m : Contents) (d : ℕ) (waiting : List Waiting) (units : List Running) (was : Waiting) (unit : Running) → Wait m d waiting units
    → StaysAsWas was unit → AreHeld m (suc (d + length waiting)) 0 was.constants unit → Wait m d (waiting ++ was ∷ []) (units ++ unit ∷ [])
wait_more m d [] [] was unit h stays held =
    let e : suc (d + 0) ≡ suc d = omega arith in
    (stays, subst (λ (n : ℕ). AreHeld m n 0 was.constants unit) e held, tt)
wait_more m d (x ∷ waiting) (y ∷ units) was unit h stays held =
    let e : suc (d + suc (length waiting)) ≡ suc (suc d + length waiting) = omega arith in
    (h.0, h.1, wait_more m (suc d) waiting units was unit h.2 stays (subst (λ (n : ℕ). AreHeld m n 0 was.constants unit) e held))
wait_more m d waiting units was unit h stays held = absurd h

-- Memory

set_again : {X : Type 0} → (n d : ℕ) (x : X) → slice_set (replicate n x) d x ≡ replicate n x
set_again zero d x = refl
set_again (suc n) zero x = refl
set_again {X} (suc n) (suc d) x = ap (λ (xs : List X). x ∷ xs) (set_again n d x)

same_contents : (a b : Areas) (l k c e : List (List ℕ)) → a ≡ b → l ≡ k → c ≡ e
    → ◌≡◌ {A = Contents} (record { areas = a; locals = l; cells = c }) (record { areas = b; locals = k; cells = e })
same_contents a b l k c e p q r = rw (p, q, r) refl

-- what is known of the memory in which a called block begins
pub record Begins (frames : Frames) (now : Now) (m : Contents) : Type 0 where
  pub areas : m.areas ≡ now.memory.areas
  pub locals : m.locals ≡ slice_set now.memory.locals (length now.activations) zero_locals
  pub bytes : HoldsBytes m
  pub sizes : HasActivations m
  pub faults : HasBlocks frames.dbs m
  pub others : (at : ℕ) → at ≤ length frames.waiting → ReadsAlike now.memory m at

module _ (frames : Frames) (now : Now) (s : State) (related : Related frames now s) where
  pub as_deep : length s.activations ≡ length now.activations
  as_deep =
      let all : length s.activations ≡ suc (length related.units) = ap length related.activations ∙ one_longer related.units related.running in
      let many : length related.units ≡ length frames.waiting = wait_length now.memory 0 frames.waiting related.units related.wait in
      let deep : suc (length frames.waiting) ≡ length frames.blocks = related.depth in
      let blocks : length now.activations ≡ length frames.blocks = ap length related.blocks in
      omega arith

  -- the unit that waits, with the constants that it gives
  abbrev pub waits_with : List (Option Constant) → Waiting
  waits_with constants = record { unit = related.running; constants = constants }

  module _ (m : Contents) (h : Begins frames now m) (constants : List (Option Constant)) (apart : AreApart constants)
      (held : AreHeld m (suc (length frames.waiting)) 0 constants related.running) where
    memory_is : with_zero_activation (length s.activations) s.memory ≡ without_cells m
    memory_is =
        ap (λ (n : ℕ). with_zero_activation n s.memory) as_deep
        ∙ ap (with_zero_activation (length now.activations)) related.memory
        ∙ same_contents now.memory.areas m.areas (slice_set now.memory.locals (length now.activations) zero_locals) m.locals
        (slice_set no_locals (length now.activations) zero_locals) no_locals (sym h.areas) (sym h.locals)
        (set_again ACTIVATIONS (length now.activations) zero_locals)

    waits_now : Wait m 0 (frames.waiting ++ waits_with constants ∷ []) (related.units ++ related.running ∷ [])
    waits_now =
        let e : suc (length frames.waiting) ≡ suc (0 + length frames.waiting) = omega arith in
        wait_more m 0 frames.waiting related.units (waits_with constants) related.running
        (wait_alike now.memory m 0 frames.waiting related.units (λ at less. h.others at (omega arith)) related.wait)
        (record { apart = apart; formals = refl; as_many = refl; locals = λ i none. refl })
        (subst (λ (n : ℕ). AreHeld m n 0 constants related.running) e held)

    deeper : (called : Activation) → suc (length (frames.waiting ++ waits_with constants ∷ [])) ≡ length (called ∷ going_on frames.blocks)
    deeper called = omega (arith, length-append frames.waiting (waits_with constants ∷ []), on_length frames.blocks, related.depth)

    pub begins : (called : Activation) (widths : Widths) (references : List Reference) (head : Pou)
        → AreFormals (frames.waiting ++ waits_with constants ∷ []) frames.dbs widths (formals_of_block (called ∷ going_on frames.blocks)) references
        → Related (frames_inside frames (waits_with constants) widths called)
        (record now { memory = m; activations = called ∷ going_on now.activations }) (state_on_entry head references s)
    begins called widths references head formals =
        record {
          registers = related.registers;
          range = related.range;
          memory = memory_is;
          bytes = h.bytes;
          sizes = h.sizes;
          faults = h.faults;
          blocks = ap (λ (acts : List Activation). called ∷ going_on acts) related.blocks;
          depth = deeper called;
          units = related.units ++ related.running ∷ [];
          wait = waits_now;
          running = activation_of head references;
          activations = ap (λ (acts : List Running). acts ++ activation_of head references ∷ []) related.activations;
          formals = formals;
        }
