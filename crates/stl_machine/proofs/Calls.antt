-- A call by the running block: its caller continues after it.
use Rattle.std.proofs.Common.{◌≡◌, ℕ, ◌+◌, List, [], ◌∷◌, length, Option, Result, Ok, Err, refl, sym, ap, ◌∙◌}
use Rattle.block_calls.specs.Scenes.{HasEntered, Scene, now_at, returning_to}
use Rattle.memory_areas.specs.Access.{and_then}
use Rattle.memory_areas.specs.Areas.{Contents, with_zero_activation}
use Rattle.memory_areas.specs.declared.place.Place.{Place}
use Rattle.s7_base.specs.declared.check.Entry.{Entry}
use Rattle.s7_base.specs.declared.outcome.Fault.{Fault}
use Rattle.stl_tree.specs.Calls.{actual_places, after_call, after_taking, with_block, with_constants}
use Rattle.stl_tree.specs.Now.{Activation, Now}
use Rattle.stl_tree.specs.Registers.{RegisterValues}
use Rattle.stl_tree.specs.StlRun.{formals_at}
use Rattle.stl_tree.specs.declared.program.BlockCall.{BlockCall}
use Rattle.stl_tree.specs.declared.program.Formal.{Formal}
use Rattle.stl_tree.specs.declared.program.Program.{Program}

-- where all that follows a result returns to a position already, so do both together
before_next : {X : Type 0} (to : ℕ) (r : Result X Fault) (next : X → Result Now Fault)
    → ((x : X) → returning_to to (next x) ≡ next x) → returning_to to (and_then r next) ≡ and_then r next
before_next to (Ok x) next h = h x
before_next to (Err f) next h = refl

-- the caller of a block that begins by a call at a position continues right after it
block_returns : (call : BlockCall) (places : List (Option Place)) (m : Contents) (r : RegisterValues) (memory : Contents)
    (activations : List Activation) (brackets : List Entry) (at : ℕ)
    → returning_to (at + 1) (Ok (with_block call places m
    (now_at brackets at (record { registers = r; memory = memory; activations = activations }))))
    ≡ Ok (with_block call places m (now_at brackets at (record { registers = r; memory = memory; activations = activations })))
block_returns call places m r memory [] brackets at = refl
block_returns call places m r memory (a ∷ waiting) brackets at = refl

-- whatever a call at a position leads to, its caller continues right after it there
call_returns : (formals : List Formal) (call : BlockCall) (s : Scene) (brackets : List Entry) (at : ℕ)
    → returning_to (at + 1) (after_call formals call (now_at brackets at s)) ≡ after_call formals call (now_at brackets at s)
call_returns formals call s brackets at =
    let now : Now = now_at brackets at s in
    let depth : ℕ = length now.activations in
    before_next (at + 1) (actual_places depth 0 formals call.actuals now) _
    (λ places. before_next (at + 1) (with_constants depth 0 formals call.actuals (with_zero_activation depth now.memory)) _
    (λ m. before_next (at + 1) (after_taking call.instance formals places m) _
    (λ taken. block_returns call places taken s.registers s.memory s.activations brackets at)))

-- a call that was answered for the position right after it leads where its definition says
pub entered_at : (p : Program) (call : BlockCall) (to : ℕ) (before after : Scene) (brackets : List Entry) (at : ℕ)
    → HasEntered p call to (Ok tt) before after → at + 1 ≡ to
    → after_call (formals_at p call.block) call (now_at brackets at before) ≡ Ok (now_at brackets 0 after)
entered_at p call to before after brackets at entered e =
    sym (call_returns (formals_at p call.block) call before brackets at)
    ∙ ap (λ n. returning_to n (after_call (formals_at p call.block) call (now_at brackets at before))) e
    ∙ entered brackets at
