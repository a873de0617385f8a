use Rattle.std.proofs.Common.{rules, ◌≡◌, ◌∙◌, ℕ, ◌<◌, List, ◌∷◌, length, All, Option, Result, Ok, Err, ap, sym, subst, arith}
use Rattle.block_calls.proofs.Entering.{all_given, all_small_enough, before_clear, enter_done, enter_fails, enter_fits, enter_takes, instance_opened, none_opened, none_takes, room_for_one, taken_by}
use Rattle.block_calls.proofs.Fitting.{few_formals}
use Rattle.block_calls.specs.Fitting.{AreActivationsOf, AreReached}
use Rattle.block_calls.specs.Scenes.{HasEntered}
use Rattle.block_calls.specs.inner.Views.{AreSmall, IsGivableActual, now_of}
use Rattle.memory_areas.proofs.SameFaults.{blocks_after_clear}
use Rattle.memory_areas.specs.Areas.{Contents, with_zero_activation}
use Rattle.memory_areas.specs.Memory.{HasActivations, HasBlocks}
use Rattle.memory_areas.specs.declared.place.Place.{Place}
use Rattle.memory_areas.specs.declared.sizes.TheConstants.{ACTIVATIONS}
use Rattle.s7_base.specs.declared.outcome.Fault.{Fault}
use Rattle.stl_registers.specs.Values.{values}
use Rattle.stl_tree.specs.Calls.{actual_places, after_taking, all_copied, copied_in, going_on_at, instance_or, with_constants}
use Rattle.stl_tree.specs.Registers.{RegisterValues}
use Rattle.stl_tree.specs.Now.{Activation}
use Rattle.stl_tree.specs.StlRun.{formals_at}
use Rattle.stl_tree.specs.declared.program.Actual.{Actual}
use Rattle.stl_tree.specs.declared.program.Formal.{Formal}
use Rattle.block_calls.proofs.frames.Frames.enter.Goals.{else-call-ne0, else-call-ne0-2, then-call-ne0, then-call-ne0-2}
use Rattle.block_calls.proofs.frames.Frames.enter.Goals as goal

pub locate-requires-clause-givable : goal.locate-requires-clause-givable
locate-requires-clause-givable c =
    subst (All (λ (x : Actual). IsGivableActual x c.self.inside.stack)) (sym c.as_slice-actuals.ensures)
    (subst (λ (xs : List Activation). All (λ (x : Actual). IsGivableActual x xs) c.args.call.now.actuals) (sym c.self.view_is)
    (all_given c.args.program.now c.requires.accepted (values c.args.registers.now) c.args.memory.now c.args.self.now c.args.call.now c.requires.memory
    c.requires.fitting c.requires.call))

pub returns-in_err-locate-clause-answer : goal.returns-in_err-locate-clause-answer
returns-in_err-locate-clause-answer c =
    let found : actual_places (length c.self.inside.stack) 0 c.formals_at-formals.result.now c.as_slice-actuals.result.now
    (now_of (values c.args.registers.now) c.args.memory.now c.self.inside.stack) ≡ Err c.in_err-locate.field-0.0 = c.in_err-locate.ensures in
    let by_formals = subst (λ (fs : List Formal). actual_places (length c.self.inside.stack) 0 fs c.as_slice-actuals.result.now
    (now_of (values c.args.registers.now) c.args.memory.now c.self.inside.stack) ≡ Err c.in_err-locate.field-0.0) c.formals_at-formals.ensures found in
    let by_actuals = subst (λ (xs : List Actual). actual_places (length c.self.inside.stack) 0 (formals_at c.args.program.now c.args.call.now.block) xs
    (now_of (values c.args.registers.now) c.args.memory.now c.self.inside.stack) ≡ Err c.in_err-locate.field-0.0) c.as_slice-actuals.ensures by_formals in
    let located = subst (λ (st : List Activation). actual_places (length st) 0 (formals_at c.args.program.now c.args.call.now.block) c.args.call.now.actuals
    (now_of (values c.args.registers.now) c.args.memory.now st) ≡ Err c.in_err-locate.field-0.0) c.self.view_is by_actuals in
    let failed : c.from_residual.result ≡ Err c.in_err-locate.field-0.0 = search rules in
    subst (λ (res : Result Unit Fault). HasEntered c.args.program.now c.args.call.now c.args.next res
    (record { registers = values c.args.registers.now; memory = c.args.memory.now; activations = c.args.self.now })
    (record { registers = values c.args.registers.now; memory = c.args.memory.now; activations = c.self.inside.stack })) (sym failed)
    (subst (λ (st : List Activation). HasEntered c.args.program.now c.args.call.now c.args.next (Err c.in_err-locate.field-0.0)
    (record { registers = values c.args.registers.now; memory = c.args.memory.now; activations = c.args.self.now })
    (record { registers = values c.args.registers.now; memory = c.args.memory.now; activations = st })) (sym c.self.view_is)
    (enter_fails c.args.program.now c.requires.accepted
    (values c.args.registers.now) c.args.memory.now c.args.self.now c.args.call.now c.requires.memory c.requires.fitting c.requires.call c.args.next
    c.in_err-locate.field-0.0 located))

pub clear-requires : goal.clear-requires
clear-requires c =
    let room = room_for_one c.args.program.now c.requires.accepted (values c.args.registers.now) c.args.memory.now c.args.self.now c.args.call.now
    c.requires.memory c.requires.fitting c.requires.call in
    let same : length c.self.inside.stack ≡ length c.args.self.now = ap (λ (xs : List Activation). length xs) c.self.view_is in
    let depth : c.depth-depth.result ≡ length c.self.inside.stack = search rules in
    omega (arith, room, same, depth)

pub write_constants-requires-clause-depth : goal.write_constants-requires-clause-depth
write_constants-requires-clause-depth c =
    let room = room_for_one c.args.program.now c.requires.accepted (values c.args.registers.now) c.args.memory.now c.args.self.now c.args.call.now
    c.requires.memory c.requires.fitting c.requires.call in
    let same : length c.self.inside.stack ≡ length c.args.self.now = ap (λ (xs : List Activation). length xs) c.self.view_is in
    let depth : c.depth-depth.result ≡ length c.self.inside.stack = search rules in
    omega (arith, room, same, depth)

pub write_constants-requires-clause-few : goal.write_constants-requires-clause-few
write_constants-requires-clause-few c = few_formals c.args.program.now c.requires.accepted c.args.call.now.block

pub write_constants-requires-clause-small : goal.write_constants-requires-clause-small
write_constants-requires-clause-small c =
    subst (AreSmall (formals_at c.args.program.now c.args.call.now.block)) (sym c.as_slice-actuals.ensures)
    (all_small_enough c.args.program.now c.requires.accepted (values c.args.registers.now) c.args.memory.now c.args.self.now c.args.call.now
    c.requires.memory c.requires.fitting c.requires.call)

pub write_constants-requires-clause-memory : goal.write_constants-requires-clause-memory
write_constants-requires-clause-memory c =
    let room = room_for_one c.args.program.now c.requires.accepted (values c.args.registers.now) c.args.memory.now c.args.self.now c.args.call.now
    c.requires.memory c.requires.fitting c.requires.call in
    let same : length c.self.inside.stack ≡ length c.args.self.now = ap (λ (xs : List Activation). length xs) c.self.view_is in
    let depth : c.depth-depth.result ≡ length c.self.inside.stack = search rules in
    let few : c.depth-depth.result < ACTIVATIONS = omega (arith, room, same, depth) in
    subst (HasBlocks c.args.program.now.dbs) (sym c.clear.ensures.after)
    (blocks_after_clear c.args.program.now.dbs c.args.memory.now c.depth-depth.result
    (before_clear c.depth-depth.result c.args.memory.now (subst HasActivations c.clear.ensures.after c.clear.ensures.activations)) few c.requires.memory)

pub copy_all-requires-clause-lie : goal.copy_all-requires-clause-lie
copy_all-requires-clause-lie c =
    let found : actual_places (length c.self.inside.stack) 0 c.formals_at-formals.result.now c.as_slice-actuals.result.now
    (now_of (values c.args.registers.now) c.args.memory.now c.self.inside.stack) ≡ Ok c.locate.new.places = c.in_ok-locate.ensures in
    let by_formals = subst (λ (fs : List Formal). actual_places (length c.self.inside.stack) 0 fs c.as_slice-actuals.result.now
    (now_of (values c.args.registers.now) c.args.memory.now c.self.inside.stack) ≡ Ok c.locate.new.places) c.formals_at-formals.ensures found in
    let by_actuals = subst (λ (xs : List Actual). actual_places (length c.self.inside.stack) 0 (formals_at c.args.program.now c.args.call.now.block) xs
    (now_of (values c.args.registers.now) c.args.memory.now c.self.inside.stack) ≡ Ok c.locate.new.places) c.as_slice-actuals.ensures by_formals in
    let located = subst (λ (st : List Activation). actual_places (length st) 0 (formals_at c.args.program.now c.args.call.now.block) c.args.call.now.actuals
    (now_of (values c.args.registers.now) c.args.memory.now st) ≡ Ok c.locate.new.places) c.self.view_is by_actuals in
    (enter_takes c.args.program.now c.requires.accepted
    (values c.args.registers.now) c.args.memory.now c.args.self.now c.args.call.now c.requires.memory c.requires.fitting c.requires.call
    c.locate.new.places located c.if-call-ne0.true).0

pub copy_all-requires-clause-reached : goal.copy_all-requires-clause-reached
copy_all-requires-clause-reached c =
    let found : actual_places (length c.self.inside.stack) 0 c.formals_at-formals.result.now c.as_slice-actuals.result.now
    (now_of (values c.args.registers.now) c.args.memory.now c.self.inside.stack) ≡ Ok c.locate.new.places = c.in_ok-locate.ensures in
    let by_formals = subst (λ (fs : List Formal). actual_places (length c.self.inside.stack) 0 fs c.as_slice-actuals.result.now
    (now_of (values c.args.registers.now) c.args.memory.now c.self.inside.stack) ≡ Ok c.locate.new.places) c.formals_at-formals.ensures found in
    let by_actuals = subst (λ (xs : List Actual). actual_places (length c.self.inside.stack) 0 (formals_at c.args.program.now c.args.call.now.block) xs
    (now_of (values c.args.registers.now) c.args.memory.now c.self.inside.stack) ≡ Ok c.locate.new.places) c.as_slice-actuals.ensures by_formals in
    let located = subst (λ (st : List Activation). actual_places (length st) 0 (formals_at c.args.program.now c.args.call.now.block) c.args.call.now.actuals
    (now_of (values c.args.registers.now) c.args.memory.now st) ≡ Ok c.locate.new.places) c.self.view_is by_actuals in
    subst (AreReached c.args.program.now.dbs (formals_at c.args.program.now c.args.call.now.block)) (sym c.as_slice.ensures)
    (enter_takes c.args.program.now c.requires.accepted
    (values c.args.registers.now) c.args.memory.now c.args.self.now c.args.call.now c.requires.memory c.requires.fitting c.requires.call
    c.locate.new.places located c.if-call-ne0.true).1

pub push-requires : goal.push-requires
push-requires c =
    let room = room_for_one c.args.program.now c.requires.accepted (values c.args.registers.now) c.args.memory.now c.args.self.now c.args.call.now
    c.requires.memory c.requires.fitting c.requires.call in
    let same : length c.self.inside.stack ≡ length c.args.self.now = ap (λ (xs : List Activation). length xs) c.self.view_is in
    omega (arith, room, same)

pub returns-clause-answer : goal.returns-clause-answer
returns-clause-answer c =
    let found : actual_places (length c.self.inside.stack) 0 c.formals_at-formals.result.now c.as_slice-actuals.result.now
    (now_of (values c.args.registers.now) c.args.memory.now c.self.inside.stack) ≡ Ok c.locate.new.places = c.in_ok-locate.ensures in
    let by_formals = subst (λ (fs : List Formal). actual_places (length c.self.inside.stack) 0 fs c.as_slice-actuals.result.now
    (now_of (values c.args.registers.now) c.args.memory.now c.self.inside.stack) ≡ Ok c.locate.new.places) c.formals_at-formals.ensures found in
    let by_actuals = subst (λ (xs : List Actual). actual_places (length c.self.inside.stack) 0 (formals_at c.args.program.now c.args.call.now.block) xs
    (now_of (values c.args.registers.now) c.args.memory.now c.self.inside.stack) ≡ Ok c.locate.new.places) c.as_slice-actuals.ensures by_formals in
    let located = subst (λ (st : List Activation). actual_places (length st) 0 (formals_at c.args.program.now c.args.call.now.block) c.args.call.now.actuals
    (now_of (values c.args.registers.now) c.args.memory.now st) ≡ Ok c.locate.new.places) c.self.view_is by_actuals in
    let same : length c.self.inside.stack ≡ length c.args.self.now = ap (λ (xs : List Activation). length xs) c.self.view_is in
    let depth : c.depth-depth.result ≡ length c.args.self.now = c.depth-depth.ensures.depth ∙ same in
    let fs = formals_at c.args.program.now c.args.call.now.block in
    let n = c.args.call.now.instance in
    let constants : with_constants (length c.args.self.now) 0 (formals_at c.args.program.now c.args.call.now.block) c.args.call.now.actuals
    (with_zero_activation (length c.args.self.now) c.args.memory.now) ≡ Ok c.write_constants.new.memory =
    subst (λ (d : ℕ). with_constants d 0 (formals_at c.args.program.now c.args.call.now.block) c.args.call.now.actuals
    (with_zero_activation d c.args.memory.now) ≡ Ok c.write_constants.new.memory) depth
    (subst (λ (x : Contents). with_constants c.depth-depth.result 0 (formals_at c.args.program.now c.args.call.now.block) c.args.call.now.actuals x
    ≡ Ok c.write_constants.new.memory) c.clear.ensures.after
    (subst (λ (xs : List Actual). with_constants c.depth-depth.result 0 (formals_at c.args.program.now c.args.call.now.block) xs c.clear.new.self
    ≡ Ok c.write_constants.new.memory) c.as_slice-actuals.ensures c.write_constants.ensures.constants)) in
    let taken : after_taking c.args.call.now.instance (formals_at c.args.program.now c.args.call.now.block) c.locate.new.places c.write_constants.new.memory
    ≡ Ok c.if-call-ne0.memory = elim c.if-call-ne0.branch [
      | then-call-ne0 w ↦ taken_by n fs c.locate.new.places c.write_constants.new.memory c.if-call-ne0.memory w.if-call-ne0.true
          (subst (λ (x : Contents). all_copied (copied_in n) fs c.locate.new.places c.write_constants.new.memory ≡ Ok x) (sym w.memory-is)
          (subst (λ (ps : List (Option Place)). all_copied (copied_in n) fs ps c.write_constants.new.memory ≡ Ok w.copy_all.new.memory)
          w.as_slice.ensures w.copy_all.ensures.copied))
      | else-call-ne0 w ↦ subst (λ (x : Contents). after_taking n fs c.locate.new.places c.write_constants.new.memory ≡ Ok x) (sym w.memory-is)
          (none_takes n fs c.locate.new.places c.write_constants.new.memory w.if-call-ne0.false)
    ] in
    let opened : values c.if-call-ne0-2.registers
    ≡ record (values c.args.registers.now) { di = instance_or c.args.call.now.instance c.args.registers.now.di } = elim c.if-call-ne0-2.branch [
      | then-call-ne0-2 w ↦ ap values w.registers-is ∙ w.di_opened.ensures
          ∙ ap (λ (d : ℕ). record (values c.args.registers.now) { di = d }) (sym (instance_opened n c.args.registers.now.di w.if-call-ne0-2.true))
      | else-call-ne0-2 w ↦ ap values w.registers-is
          ∙ ap (λ (d : ℕ). record (values c.args.registers.now) { di = d }) (sym (none_opened n c.args.registers.now.di w.if-call-ne0-2.false))
    ] in
    let pushed = c.push.ensures ∙ ap (λ (st : List Activation). record {
      block = c.args.call.now.block;
      at = 0;
      instance = c.args.call.now.instance;
      db = c.args.registers.now.db;
      di = c.args.registers.now.di;
      formals = c.locate.new.places;
    } ∷ going_on_at c.args.next st) c.self.view_is in
    let done =
    enter_done c.args.program.now c.requires.accepted (values c.args.registers.now) c.args.memory.now c.args.self.now c.args.call.now c.requires.memory
    c.requires.fitting c.requires.call c.locate.new.places located c.args.next c.write_constants.new.memory c.if-call-ne0.memory constants taken in
    subst (λ (acts : List Activation). HasEntered c.args.program.now c.args.call.now c.args.next (Ok tt)
    (record { registers = values c.args.registers.now; memory = c.args.memory.now; activations = c.args.self.now })
    (record { registers = values c.if-call-ne0-2.registers; memory = c.if-call-ne0.memory; activations = acts })) (sym pushed)
    (subst (λ (x : RegisterValues). HasEntered c.args.program.now c.args.call.now c.args.next (Ok tt)
    (record { registers = values c.args.registers.now; memory = c.args.memory.now; activations = c.args.self.now })
    (record {
      registers = x;
      memory = c.if-call-ne0.memory;
      activations = record {
        block = c.args.call.now.block;
        at = 0;
        instance = c.args.call.now.instance;
        db = c.args.registers.now.db;
        di = c.args.registers.now.di;
        formals = c.locate.new.places;
      } ∷ going_on_at c.args.next c.args.self.now;
    })) (sym opened) done)

pub returns-clause-fitting : goal.returns-clause-fitting
returns-clause-fitting c =
    let found : actual_places (length c.self.inside.stack) 0 c.formals_at-formals.result.now c.as_slice-actuals.result.now
    (now_of (values c.args.registers.now) c.args.memory.now c.self.inside.stack) ≡ Ok c.locate.new.places = c.in_ok-locate.ensures in
    let by_formals = subst (λ (fs : List Formal). actual_places (length c.self.inside.stack) 0 fs c.as_slice-actuals.result.now
    (now_of (values c.args.registers.now) c.args.memory.now c.self.inside.stack) ≡ Ok c.locate.new.places) c.formals_at-formals.ensures found in
    let by_actuals = subst (λ (xs : List Actual). actual_places (length c.self.inside.stack) 0 (formals_at c.args.program.now c.args.call.now.block) xs
    (now_of (values c.args.registers.now) c.args.memory.now c.self.inside.stack) ≡ Ok c.locate.new.places) c.as_slice-actuals.ensures by_formals in
    let located = subst (λ (st : List Activation). actual_places (length st) 0 (formals_at c.args.program.now c.args.call.now.block) c.args.call.now.actuals
    (now_of (values c.args.registers.now) c.args.memory.now st) ≡ Ok c.locate.new.places) c.self.view_is by_actuals in
    subst (AreActivationsOf c.args.program.now) (sym (c.push.ensures ∙ ap (λ (st : List Activation). record {
      block = c.args.call.now.block;
      at = 0;
      instance = c.args.call.now.instance;
      db = c.args.registers.now.db;
      di = c.args.registers.now.di;
      formals = c.locate.new.places;
    } ∷ going_on_at c.args.next st) c.self.view_is))
    (enter_fits c.args.program.now c.requires.accepted
    (values c.args.registers.now) c.args.memory.now c.args.self.now c.args.call.now c.requires.memory c.requires.fitting c.requires.call
    c.locate.new.places located c.args.next)
