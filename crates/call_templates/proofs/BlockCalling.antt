-- A call of a function block.
use Rattle.std.proofs.Common.{◌≡◌, ℕ, ◌+◌, ◌==◌, ◌≤◌, pos, Bool, true, false, not, if◌then◌else◌, List, [], ◌∷◌, ◌++◌, length, Option, Some, None, Result, Ok, Err, refl, sym, ap, subst, ◌∙◌, arith}
use Rattle.std.specs.Prelude.{All, slice_get, slice_set}
use Rattle.call_templates.proofs.Calling.{IsReady, after_by, begun_by, puts_back}
use Rattle.call_templates.proofs.ClearedMemory.{StartsWith, starts_with}
use Rattle.call_templates.proofs.Entering.{Begins, begins, waits_with}
use Rattle.call_templates.proofs.InstanceGiving.{back_on, instance_gives}
use Rattle.call_templates.proofs.InstancePlaces.{ArePlaced, all_placed}
use Rattle.call_templates.proofs.InstanceTaking.{Copies, instance_takes}
use Rattle.call_templates.proofs.OperandsRead.{ReadsAll, operands_are_read}
use Rattle.call_templates.proofs.Surroundings.{OnlyLocals, chain_ended, end_goes, ended_registers, numbers_saved, numbers_stay, saved_goes, saved_keeps, saved_numbers}
use Rattle.call_templates.specs.CallLaw.{DoesCall, Entering, LeadsBehind, MayCall, calls_by, frames_inside}
use Rattle.call_templates.specs.Calls.{copies, copy_back, copy_in, end_word_of, function_block_call_of, opened_call_of, operands_read, put_back_of, saved_of, types_of_operands}
use Rattle.instruction_laws.specs.Ranges.{AreInRange}
use Rattle.memory_areas.specs.Access.{and_then}
use Rattle.memory_areas.specs.Areas.{Contents, with_zero_activation, zero_locals}
use Rattle.memory_areas.specs.declared.place.Place.{Place}
use Rattle.s7_base.specs.declared.outcome.Fault.{Fault}
use Rattle.s7_base.specs.declared.register.Reg.TheVariants as reg
use Rattle.s7_base.specs.declared.word.Width.{Width}
use Rattle.status_word.specs.StatusBits.{StatusBits, after_end}
use Rattle.stl_tree.specs.Accepted.{AreActuals, IsActual, IsBlockOpened, LiesInInstance, Widths, is_written}
use Rattle.stl_tree.specs.Calls.{actual_place, actual_places, all_copied, cell_of, copied_back, copied_in, given_place, going_on, with_constants}
use Rattle.stl_tree.specs.Now.{Activation, Now, with_status}
use Rattle.stl_tree.specs.Operands.{formal_place, found_formal}
use Rattle.stl_tree.specs.declared.program.Actual.{Actual}
use Rattle.stl_tree.specs.declared.program.Actual.TheVariants as actual
use Rattle.stl_tree.specs.declared.program.BlockCall.{BlockCall}
use Rattle.stl_tree.specs.declared.program.Formal.{Formal}
use Rattle.stl_tree.specs.declared.program.Operand.{Operand}
use Rattle.stl_tree.specs.declared.program.Operand.TheVariants as operand
use Rattle.st_tree.proofs.Equations.{assign_goes_on, meaning_invoke, value_literal}
use Rattle.st_tree.proofs.TwoParts.{goes_on_behind, in_parts, stops_before, then_in_parts}
use Rattle.st_tree.specs.Meaning.{Calls, Faults, Normal, Out, Sem, body_meaning, then_do}
use Rattle.st_tree.specs.State.{State, own_of, with_register}
use Rattle.st_tree.specs.Values.{type_of_width}
use Rattle.st_tree.specs.declared.expr.StType.TheVariants as type
use Rattle.st_tree.specs.declared.expr.Var.TheVariants as var
use Rattle.st_tree.specs.declared.program.Located.{Located}
use Rattle.st_tree.specs.declared.program.Stmt.{Stmt}
use Rattle.st_tree.specs.declared.program.Stmt.TheVariants as stmt
use Rattle.st_tree.specs.declared.state.Value.{Value}
use Rattle.template_parts.proofs.Alike.{keep_bits, keep_registers, same_areas}
use Rattle.template_parts.proofs.Cells.{cell_read_alike}
use Rattle.template_parts.specs.Builders.{constant_of}
use Rattle.template_parts.specs.DoesInstruction.{Stops}
use Rattle.template_parts.specs.Related.{AreAlike, AreFormals, Frames, Related, Waiting}

-- Places don't depend on the status bits

given_still : (bits : StatusBits → StatusBits) (w : Width) (o : Operand) (now : Now) → is_written o ≡ true
    → given_place w o (with_status bits now) ≡ given_place w o now
given_still bits w (operand.Direct a byte x) now h = refl
given_still bits w (operand.Opened n byte x) now h = refl
given_still bits w (operand.Formal k) now h = by (formal_place k now.activations)
  where
    by : (o : Option Place) → and_then (found_formal o (with_status bits now)) (λ f. Ok (Some f.place))
        ≡ and_then (found_formal o now) (λ f. Ok (Some f.place))
    by None = refl
    by (Some p) = refl
given_still bits w o now h = cc

actual_still : (bits : StatusBits → StatusBits) (formals : Widths) (optional : Bool) (depth k : ℕ) (f : Formal) (a : Actual) (now : Now)
    → IsActual formals optional f a → actual_place depth k f.width a (with_status bits now) ≡ actual_place depth k f.width a now
actual_still bits formals optional depth k f actual.Missing now is = refl
actual_still bits formals optional depth k f (actual.Constant c) now is = refl
actual_still bits formals optional depth k f (actual.At o) now is = given_still bits f.width o now is.0

places_still : (bits : StatusBits → StatusBits) (wide : Widths) (optional : Bool) (depth k : ℕ) (formals : List Formal) (actuals : List Actual) (now : Now)
    → AreActuals wide optional formals actuals
    → actual_places depth k formals actuals (with_status bits now) ≡ actual_places depth k formals actuals now
places_still bits wide optional depth k [] actuals now are = refl
places_still bits wide optional depth k (f ∷ formals) [] now are = refl
places_still bits wide optional depth k (f ∷ formals) (a ∷ actuals) now are =
    ap
    (λ (r : Result (Option Place) Fault). and_then r
    (λ p. and_then (actual_places depth (k + 1) formals actuals (with_status bits now)) (λ ps. Ok (p ∷ ps))))
    (actual_still bits wide optional depth k f a now are.0)
    ∙ ap
    (λ (rs : Result (List (Option Place)) Fault). and_then (actual_place depth k f.width a now) (λ p. and_then rs (λ ps. Ok (p ∷ ps))))
    (places_still bits wide optional depth (k + 1) formals actuals now are.1)

-- The call

module _ (g : List Located) (enter : Entering) (units first unit : ℕ) (frames : Frames) (now : Now) (s : State) (related : Related frames now s)
    (formals : List Formal) (c : BlockCall) (may : MayCall frames formals c) (alone : (c.instance == 0) ≡ false)
    (room : first + 2 + length (types_of_operands formals c.actuals) ≤ length (own_of s.activations)) where
  abbrev calls : Calls
  calls = calls_by g enter

  abbrev before : Now
  before = with_status after_end now

  -- the statements before the call, and those of the call itself and behind it
  abbrev fetches : List Stmt
  fetches = saved_of first ++ operands_read (first + 2) formals c.actuals

  abbrev takings : List Stmt
  takings = copies (copy_in c.instance) formals c.actuals

  abbrev givings : List Stmt
  givings = copies (copy_back c.instance) formals c.actuals

  abbrev Made : Out → Result Now Fault → Type 0
  Made ended = DoesCall ended enter units first unit frames s now.memory formals []

  -- all of them but what is given back
  abbrev to_call : List Stmt
  to_call = ((fetches ++ takings) ++ end_word_of) ++ opened_call_of first unit c.instance

  saved_room : first + 2 ≤ length (own_of s.activations)
  saved_room = omega arith

  abbrev saved : State
  saved = numbers_saved g calls units frames now s related first saved_room

  saved_well : OnlyLocals frames now first s saved
  saved_well = saved_keeps g calls units frames now s related first saved_room

  actuals_right : AreActuals frames.formals true formals c.actuals
  actuals_right = subst (λ (b : Bool). AreActuals frames.formals (not b) formals c.actuals) alone may.right.actuals

  -- where an operand is not found
  stops : (f : Fault) (t : State) → body_meaning g calls (operands_read (first + 2) formals c.actuals) units saved ≡ Faults f t → t.memory ≡ saved.memory
      → Stops (body_meaning g calls (function_block_call_of first unit c.instance formals c.actuals) units s) now.memory f
  stops f t faults memory =
      let fetched : body_meaning g calls fetches units s ≡ Faults f t =
      goes_on_behind g calls (saved_of first) units s (operands_read (first + 2) formals c.actuals) units saved
      (saved_goes g calls units frames now s related first saved_room)
      ∙ faults in
      record {
        at = t;
        stops =
            stops_before g calls to_call units s givings f t
            (stops_before g calls ((fetches ++ takings) ++ end_word_of) units s (opened_call_of first unit c.instance) f t
            (stops_before g calls (fetches ++ takings) units s end_word_of f t (stops_before g calls fetches units s takings f t fetched)));
        areas = ap (λ (m : Contents). m.areas) (memory ∙ saved_well.memory) ∙ same_areas frames now s related;
      }

  -- where all of them are
  module _ (places : List (Option Place)) (found : actual_places (length now.activations) 0 formals c.actuals now ≡ Ok places) (fetched : State)
      (fetches_go : body_meaning g calls (operands_read (first + 2) formals c.actuals) units saved ≡ Normal units fetched)
      (fetched_well : OnlyLocals frames now (first + 2) saved fetched) where
    placed : ArePlaced (length now.activations) frames.dbs now 0 formals c.actuals places
    placed = all_placed g frames now s related true formals c.actuals 0 places actuals_right found

    start : StartsWith frames now formals c
    start = starts_with frames now s related formals c may

    lie : All (LiesInInstance frames.dbs c.instance) formals
    lie = may.right.lies alone

    took : Copies g calls units frames now start.memory (all_copied (copied_in c.instance) formals places) start.memory takings fetched
    took =
        instance_takes g calls units frames now start.memory c.instance start.local_data start.cells formals c.actuals places 0 now.memory start.memory
        fetched fetched_well.related
        (record {
          areas = start.begins.areas;
          locals = refl;
          cells = refl;
          old_locals = refl;
          old_cells = refl;
          bytes = start.begins.bytes;
          faults = start.begins.faults;
        }) lie actuals_right placed start.reads

    -- the chain ends, and the instance is opened
    abbrev chain_over : State
    chain_over = record took.to { registers = ended_registers g calls units took.to.registers }

    abbrev over : Now
    over = record before { memory = took.old }

    over_related : Related frames over chain_over
    over_related =
        keep_bits frames (record now { memory = took.old }) took.to took.related (after_end now.registers.status)
        (ended_registers g calls units took.to.registers)
        (chain_ended g calls units now.registers took.to.registers took.related.registers)

    abbrev opened : State
    opened = record chain_over { registers = with_register reg.DiNo (pos c.instance) chain_over.registers }

    abbrev open_now : Now
    open_now = record over { registers = record over.registers { di = c.instance } }

    open_alike : AreAlike open_now.registers opened.registers
    open_alike reg.DiNo asked = refl
    open_alike q asked = over_related.registers q asked

    open_range : AreInRange open_now.registers
    open_range =
        let number : IsBlockOpened c.instance = may.right.number alone in
        let most : c.instance ≤ 65535 = number.1 in
        let range = over_related.range in
        record { accu1 = range.accu1; accu2 = range.accu2; ar1 = range.ar1; ar2 = range.ar2; db = range.db; di = omega arith }

    open_related : Related frames open_now opened
    open_related = keep_registers frames over chain_over over_related open_now.registers opened.registers open_alike open_range

    same_own : own_of opened.activations ≡ own_of fetched.activations
    same_own = took.own

    ready : IsReady frames open_now now.registers.db now.registers.di first first s opened
    ready =
        record {
          related = open_related;
          db_small = related.range.db;
          di_small = related.range.di;
          as_many = ap length same_own ∙ fetched_well.as_many ∙ saved_well.as_many;
          below = λ i less.
              ap (λ (xs : List Value). slice_get xs i) same_own ∙ fetched_well.below i (omega arith) ∙ saved_well.below i less;
          numbers =
              numbers_stay now.registers.db now.registers.di first (first + 2) saved opened (omega arith)
              (λ i less. ap (λ (xs : List Value). slice_get xs i) same_own ∙ fetched_well.below i less)
              (saved_numbers g calls units frames now s related first saved_room);
          above = omega arith;
        }

    -- behind the call
    abbrev more : Sem
    more others u = then_do (body_meaning g calls (put_back_of first) others u) (body_meaning g calls givings)

    abbrev waits : Waiting
    waits = waits_with frames open_now opened ready.related []

    abbrev called : Activation
    called =
        record { block = c.block; at = 0; instance = c.instance; db = now.registers.db; di = now.registers.di; formals = places }

    behind : (to : ℕ) → LeadsBehind more first (frames_inside frames waits [] (record called { at = to })) frames s formals (record called { at = to })
    behind to others done u inside =
        let back =
        puts_back g calls others now.registers.db now.registers.di first first frames open_now s opened ready [] (λ i less. tt) []
        (record called { at = to }) done u inside in
        let gives =
        instance_gives g calls others frames now done c.instance related.blocks formals c.actuals places 0 done.memory back.to back.related lie
        actuals_right placed in
        let after : Now = record (back_on now frames.blocks done) { memory = gives.new } in (
          after,
          ap
              (λ (b : Bool). and_then (if b then Ok done.memory else all_copied (copied_back c.instance) formals places done.memory)
              (λ (m : Contents). Ok (record after { memory = m }))) alone
              ∙ ap (λ (r : Result Contents Fault). and_then r (λ (m : Contents). Ok (record after { memory = m }))) gives.is,
          record {
            to = gives.to;
            goes = ap (λ (o : Out). then_do o (body_meaning g calls givings)) back.goes ∙ gives.goes;
            related = gives.related;
            as_many = ap length gives.own ∙ back.as_many;
            below = λ i less. ap (λ (xs : List Value). slice_get xs i) gives.own ∙ back.below i less;
          },
        )

    -- the memory in which the block begins
    begin : Begins frames open_now took.new
    begin =
        record {
          areas = took.twins.areas;
          locals = took.twins.locals ∙ start.begins.locals
              ∙ ap (λ (xs : List (List ℕ)). slice_set xs (length now.activations) zero_locals) (sym took.twins.old_locals);
          bytes = took.twins.bytes;
          sizes = (ap length took.twins.locals ∙ start.begins.sizes.0, ap length took.twins.cells ∙ start.begins.sizes.1);
          faults = took.twins.faults;
          others = λ at less j u.
              cell_read_alike (cell_of at j) tt (type_of_width u) took.new start.memory took.twins.cells
              ∙ start.begins.others at less j u
              ∙ cell_read_alike (cell_of at j) tt (type_of_width u) now.memory took.old (sym took.twins.old_cells);
        }

    goes : body_meaning g calls (function_block_call_of first unit c.instance formals c.actuals) units s ≡ then_do (enter unit [] units opened) more
    goes =
        in_parts g calls to_call givings units s ∙ ap (λ (o : Out). then_do o (body_meaning g calls givings)) (opens ∙ invokes)
        ∙ then_in_parts (enter unit [] units opened) (body_meaning g calls (put_back_of first)) (body_meaning g calls givings)
      where
        all_fetched : body_meaning g calls fetches units s ≡ Normal units fetched
        all_fetched =
            goes_on_behind g calls (saved_of first) units s (operands_read (first + 2) formals c.actuals) units saved
            (saved_goes g calls units frames now s related first saved_room)
            ∙ fetches_go

        all_taken : body_meaning g calls (fetches ++ takings) units s ≡ Normal units took.to
        all_taken = goes_on_behind g calls fetches units s takings units fetched all_fetched ∙ took.goes

        opens : body_meaning g calls to_call units s ≡ body_meaning g calls (stmt.Invoke unit [] ∷ put_back_of first) units opened
        opens =
            goes_on_behind g calls ((fetches ++ takings) ++ end_word_of) units s (opened_call_of first unit c.instance) units chain_over
            (goes_on_behind g calls (fetches ++ takings) units s end_word_of units took.to all_taken ∙ end_goes g calls units took.to)
            ∙ assign_goes_on g calls (var.Register reg.DiNo) (constant_of type.Word (pos c.instance)) (stmt.Invoke unit [] ∷ put_back_of first) units
            chain_over opened (record { ty = type.Word; n = pos c.instance }) (value_literal g type.Word (pos c.instance) chain_over) refl

        invokes : body_meaning g calls (stmt.Invoke unit [] ∷ put_back_of first) units opened
            ≡ then_do (enter unit [] units opened) (body_meaning g calls (put_back_of first))
        invokes = ap (λ (o : Out). then_do o (body_meaning g calls (put_back_of first))) (meaning_invoke g calls units opened unit [])

    entered : Made (body_meaning g calls (function_block_call_of first unit c.instance formals c.actuals) units s)
        (Ok (begun_by false c places took.new before))
    entered = (
      called,
      ap (λ (acts : List Activation). called ∷ going_on acts) related.blocks,
      record {
        at = opened;
        references = [];
        more = more;
        goes = goes;
        waits = waits;
        begins = λ head.
            begins frames open_now opened ready.related took.new begin [] tt tt called [] [] head
            (subst (λ (b : Bool). AreFormals (frames.waiting ++ waits ∷ []) frames.dbs [] (if b then places else []) []) (sym alone) tt);
        behind = behind;
      },
    )

    -- and so the call comes to it
    arrives : Made (body_meaning g calls (function_block_call_of first unit c.instance formals c.actuals) units s)
        (and_then
        (with_constants (length now.activations) 0 formals c.actuals (with_zero_activation (length now.activations) now.memory))
        (λ m. and_then (all_copied (copied_in c.instance) formals places m) (λ taken. Ok (begun_by false c places taken before))))
    arrives =
        subst
        (λ (r : Result Contents Fault). Made (body_meaning g calls (function_block_call_of first unit c.instance formals c.actuals) units s)
        (and_then r (λ m. and_then (all_copied (copied_in c.instance) formals places m) (λ taken. Ok (begun_by false c places taken before)))))
        (sym start.is)
        (subst
        (λ (r : Result Contents Fault). Made (body_meaning g calls (function_block_call_of first unit c.instance formals c.actuals) units s)
        (and_then r (λ taken. Ok (begun_by false c places taken before)))) (sym took.is) entered)

  by_found : (r : Result (List (Option Place)) Fault) → actual_places (length now.activations) 0 formals c.actuals now ≡ r
      → ReadsAll g calls units frames now (first + 2) formals c.actuals saved r
      → Made (body_meaning g calls (function_block_call_of first unit c.instance formals c.actuals) units s)
      (and_then r
      (λ places. and_then
      (with_constants (length now.activations) 0 formals c.actuals (with_zero_activation (length now.activations) now.memory))
      (λ m. and_then (all_copied (copied_in c.instance) formals places m) (λ taken. Ok (begun_by false c places taken before)))))
  by_found (Ok places) found read = arrives places found read.0 read.1 read.2
  by_found (Err f) found read = stops f read.0 read.1 read.2

  pub block_called : DoesCall (body_meaning g (calls_by g enter) (function_block_call_of first unit c.instance formals c.actuals) units s)
      enter units first unit frames s now.memory formals [] (after_by false formals c (with_status after_end now))
  block_called =
      subst
      (λ (r : Result (List (Option Place)) Fault). Made (body_meaning g calls (function_block_call_of first unit c.instance formals c.actuals) units s)
      (and_then r
      (λ places. and_then
      (with_constants (length now.activations) 0 formals c.actuals (with_zero_activation (length now.activations) now.memory))
      (λ m. and_then (all_copied (copied_in c.instance) formals places m) (λ taken. Ok (begun_by false c places taken before))))))
      (sym (places_still after_end frames.formals true (length now.activations) 0 formals c.actuals now actuals_right))
      (by_found (actual_places (length now.activations) 0 formals c.actuals now) refl
      (operands_are_read g calls units frames now true formals c.actuals (first + 2) 0 saved saved_well.related actuals_right
      (omega (arith, saved_well.as_many))))
