-- Calls of functions: by CALL and UC, and by CC where the RLO is 1.
use Rattle.std.proofs.Common.{◌≡◌, ℕ, ◌+◌, ◌==◌, ◌≤◌, pos, Bool, true, false, if◌then◌else◌, List, [], ◌∷◌, ◌++◌, length, Result, Ok, refl, sym, ap, subst, ◌∙◌, arith}
use Rattle.std.specs.Prelude.{map}
use Rattle.call_templates.proofs.Calling.{IsReady, after_by, function_called}
use Rattle.call_templates.proofs.ConstantActuals.{AreKeptIn, KeepsConstants, constants_keep}
use Rattle.call_templates.proofs.Surroundings.{OnlyLocals, chain_ended, end_goes, ended_registers, local_changed, numbers_saved, numbers_stay, saved_goes, saved_keeps, saved_numbers, takes}
use Rattle.call_templates.specs.CallLaw.{DoesCall, Entering, MayCall, calls_by}
use Rattle.call_templates.specs.Calls.{call_if_of, constants_set, end_word_of, function_call_of, guarded_of, put_back_of, saved_of, types_of_constants, variables_given}
use Rattle.s7_base.specs.declared.outcome.Fault.{Fault}
use Rattle.s7_base.specs.declared.register.Reg.TheVariants as reg
use Rattle.status_word.specs.StatusBits.{after_end}
use Rattle.stl_tree.specs.Jumps.{after_asking}
use Rattle.stl_tree.specs.Now.{Now, with_status}
use Rattle.stl_tree.specs.declared.program.BlockCall.{BlockCall}
use Rattle.stl_tree.specs.declared.program.Formal.{Formal}
use Rattle.st_tree.proofs.Equations.{meaning_arm, meaning_if}
use Rattle.st_tree.proofs.Locals.{local_read, own_same, with_own}
use Rattle.st_tree.proofs.TwoParts.{goes_on_behind}
use Rattle.st_tree.specs.Meaning.{Calls, Continues, Exits, Faults, Guarded, NoUnits, Normal, Out, Returns, body_meaning, first_true, in_order, then_do, with_value}
use Rattle.st_tree.specs.State.{State, own_of, with_register}
use Rattle.st_tree.specs.Value.{value}
use Rattle.st_tree.specs.Values.{flag, is_set}
use Rattle.st_tree.specs.declared.expr.Var.{Var}
use Rattle.st_tree.specs.declared.program.Arm.{Arm}
use Rattle.st_tree.specs.declared.program.Located.{Located}
use Rattle.st_tree.specs.declared.program.Stmt.{Stmt}
use Rattle.st_tree.specs.declared.program.Stmt.TheVariants as stmt
use Rattle.st_tree.specs.declared.state.Value.{Value}
use Rattle.template_parts.proofs.Alike.{keep_bits}
use Rattle.template_parts.proofs.Operands.{rlo_worth, sets}
use Rattle.template_parts.proofs.Truths.{literal_worth}
use Rattle.template_parts.specs.Builders.{literal_of, local_of, read_of, set_of}
use Rattle.template_parts.specs.DoesInstruction.{Leads}
use Rattle.template_parts.specs.Related.{AreAlike, Frames, Related}

-- By CALL and UC

module _ (g : List Located) (enter : Entering) (units first unit : ℕ) (frames : Frames) (now : Now) (s : State) (related : Related frames now s)
    (formals : List Formal) (c : BlockCall) (may : MayCall frames formals c) (alone : (c.instance == 0) ≡ true)
    (room : first + 2 + length (types_of_constants formals c.actuals) ≤ length (own_of s.activations)) where
  abbrev calls : Calls
  calls = calls_by g enter

  abbrev before : Now
  before = with_status after_end now

  saved_room : first + 2 ≤ length (own_of s.activations)
  saved_room = omega arith

  abbrev saved : State
  saved = numbers_saved g calls units frames now s related first saved_room

  saved_well : OnlyLocals frames now first s saved
  saved_well = saved_keeps g calls units frames now s related first saved_room

  set : KeepsConstants g calls units frames now (first + 2) formals c.actuals saved
  set =
      constants_keep g calls units frames now (first + 2) formals c.actuals saved saved_well.related (omega (arith, saved_well.as_many))

  abbrev over : State
  over = record set.to { registers = ended_registers g calls units set.to.registers }

  over_related : Related frames before over
  over_related =
      keep_bits frames now set.to set.only.related (after_end now.registers.status) (ended_registers g calls units set.to.registers)
      (chain_ended g calls units now.registers set.to.registers set.only.related.registers)

  ready : IsReady frames before now.registers.db now.registers.di first first s over
  ready =
      record {
        related = over_related;
        db_small = related.range.db;
        di_small = related.range.di;
        as_many = set.only.as_many ∙ saved_well.as_many;
        below = λ i less. set.only.below i (omega arith) ∙ saved_well.below i less;
        numbers =
            numbers_stay now.registers.db now.registers.di first (first + 2) saved over (omega arith) set.only.below
            (saved_numbers g calls units frames now s related first saved_room);
        above = omega arith;
      }

  abbrev last : List Stmt
  last = stmt.Invoke unit (variables_given (first + 2) formals c.actuals) ∷ put_back_of first

  goes : body_meaning g calls (function_call_of first unit formals c.actuals) units s ≡ body_meaning g calls last units over
  goes =
      goes_on_behind g calls ((saved_of first ++ constants_set (first + 2) formals c.actuals) ++ end_word_of) units s last units over
      (goes_on_behind g calls (saved_of first ++ constants_set (first + 2) formals c.actuals) units s end_word_of units set.to
      (goes_on_behind g calls (saved_of first) units s (constants_set (first + 2) formals c.actuals) units saved
      (saved_goes g calls units frames now s related first saved_room)
      ∙ set.goes)
      ∙ end_goes g calls units set.to)

  pub function_does : DoesCall (body_meaning g (calls_by g enter) (function_call_of first unit formals c.actuals) units s) enter units first unit frames s
      now.memory formals (map (λ (f : Formal). f.width) formals) (after_by true formals c (with_status after_end now))
  function_does =
      subst
      (λ (o : Out). DoesCall o enter units first unit frames s now.memory formals (map (λ (f : Formal). f.width) formals) (after_by true formals c before))
      (sym goes) (function_called g enter units first first unit frames before s over ready formals c may alone set.kept)

-- By CC

then_nothing : (g : List Located) (callees : Calls) (o : Out) → then_do o (body_meaning g callees []) ≡ o
then_nothing g callees (Normal units s) = refl
then_nothing g callees (Exits units s) = refl
then_nothing g callees (Continues units s) = refl
then_nothing g callees (Returns units s) = refl
then_nothing g callees (Faults f s) = refl
then_nothing g callees (NoUnits s) = refl

-- statements under a test
guards : (g : List Located) (calls : Calls) (units : ℕ) (arm : Arm) (s : State) (b : Bool) → value g arm.test s ≡ Ok (flag b)
    → body_meaning g calls (stmt.If (arm ∷ []) [] ∷ []) units s ≡ (if b then body_meaning g calls arm.body units s else Normal units s)
guards g calls units arm s b worth =
    then_nothing g calls _
    ∙ meaning_if g calls units s (arm ∷ []) []
    ∙ ap (λ (x : Guarded). first_true (x ∷ []) (in_order []) units s) (meaning_arm g calls arm)
    ∙ ap
    (λ (r : Result Value Fault). with_value r units s
    (λ v. if is_set v then body_meaning g calls arm.body units s else Normal units s)) worth
    ∙ by b
  where
    by : (b : Bool) → (if is_set (flag b) then body_meaning g calls arm.body units s else Normal units s)
        ≡ (if b then body_meaning g calls arm.body units s else Normal units s)
    by true = refl
    by false = refl

module _ (g : List Located) (enter : Entering) (units first unit : ℕ) (frames : Frames) (now : Now) (s : State) (related : Related frames now s)
    (room : first + 3 ≤ length (own_of s.activations)) where
  abbrev calls_here : Calls
  calls_here = calls_by g enter

  abbrev asked : Now
  asked = with_status after_asking now

  -- the RLO is kept, and then set
  abbrev kept_rlo : Value
  kept_rlo = flag now.registers.status.rlo

  abbrev asking : State
  asking = with_own first kept_rlo s

  asking_well : OnlyLocals frames now first s asking
  asking_well = local_changed frames now s related first kept_rlo

  abbrev rlo_set : State
  rlo_set = record asking { registers = with_register reg.Rlo (pos 1) asking.registers }

  abbrev flags_set : State
  flags_set = record rlo_set { registers = ended_registers g calls_here units rlo_set.registers }

  rlo_alike : AreAlike (record now.registers { status = record now.registers.status { rlo = true } }) rlo_set.registers
  rlo_alike reg.Rlo kept = refl
  rlo_alike q kept = related.registers q kept

  flags_related : Related frames asked flags_set
  flags_related =
      keep_bits frames now asking asking_well.related (after_asking now.registers.status) flags_set.registers
      (chain_ended g calls_here units (record now.registers { status = record now.registers.status { rlo = true } }) rlo_set.registers rlo_alike)

  abbrev called_body : List Stmt
  called_body = saved_of (first + 1) ++ stmt.Invoke unit [] ∷ put_back_of (first + 1)

  comes : (b : Bool) → now.registers.status.rlo ≡ b → body_meaning g calls_here (call_if_of first unit) units s
      ≡ (if b then body_meaning g calls_here called_body units flags_set else Normal units flags_set)
  comes b e =
      takes g calls_here units first (read_of reg.Rlo) kept_rlo (set_of reg.Rlo (literal_of true) ∷ end_word_of ++ guarded_of (first + 1) first unit ∷ []) s
      (omega arith) (rlo_worth g frames now s related)
      ∙ sets g calls_here units reg.Rlo (literal_of true) true (end_word_of ++ guarded_of (first + 1) first unit ∷ []) asking (literal_worth g asking true)
      ∙ goes_on_behind g calls_here end_word_of units rlo_set (guarded_of (first + 1) first unit ∷ []) units flags_set (end_goes g calls_here units rlo_set)
      ∙ guards g calls_here units (record { test = local_of first; body = called_body }) flags_set b
      (local_read g first kept_rlo flags_set (own_same first kept_rlo s (omega arith)) ∙ ap (λ (x : Bool). Ok (flag x)) e)

  -- where it is 0, nothing is called
  pub call_left_out : now.registers.status.rlo ≡ false
      → Leads (body_meaning g (calls_by g enter) (call_if_of first unit) units s) units first frames s (with_status after_asking now)
  call_left_out e =
      record {
        to = flags_set;
        goes = comes false e;
        related = flags_related;
        as_many = asking_well.as_many;
        below = asking_well.below;
      }

  saving_room : first + 1 + 2 ≤ length (own_of flags_set.activations)
  saving_room = omega (arith, asking_well.as_many)

  abbrev numbers_kept : State
  numbers_kept = numbers_saved g calls_here units frames asked flags_set flags_related (first + 1) saving_room

  kept_well : OnlyLocals frames asked (first + 1) flags_set numbers_kept
  kept_well = saved_keeps g calls_here units frames asked flags_set flags_related (first + 1) saving_room

  guarded_ready : IsReady frames asked now.registers.db now.registers.di first (first + 1) s numbers_kept
  guarded_ready =
      record {
        related = kept_well.related;
        db_small = related.range.db;
        di_small = related.range.di;
        as_many = kept_well.as_many ∙ asking_well.as_many;
        below = λ i less. kept_well.below i (omega arith) ∙ asking_well.below i less;
        numbers = saved_numbers g calls_here units frames asked flags_set flags_related (first + 1) saving_room;
        above = omega arith;
      }

  none_given : (next : ℕ) (formals : List Formal) → variables_given next formals [] ≡ []
  none_given next [] = refl
  none_given next (f ∷ formals) = refl

  none_kept : (own : List Value) (next : ℕ) (formals : List Formal) → AreKeptIn own next formals []
  none_kept own next [] = tt
  none_kept own next (f ∷ formals) = tt

  pub call_made : (formals : List Formal) (c : BlockCall) → MayCall frames formals c → (c.instance == 0) ≡ true → c.actuals ≡ []
      → now.registers.status.rlo ≡ true
      → DoesCall (body_meaning g (calls_by g enter) (call_if_of first unit) units s) enter units first unit frames s now.memory formals
      (map (λ (f : Formal). f.width) formals) (after_by true formals c (with_status after_asking now))
  call_made formals c may alone none e =
      let variables : variables_given (first + 1 + 2) formals c.actuals ≡ [] =
      ap (variables_given (first + 1 + 2) formals) none ∙ none_given (first + 1 + 2) formals in
      subst
      (λ (o : Out). DoesCall o enter units first unit frames s now.memory formals (map (λ (f : Formal). f.width) formals) (after_by true formals c asked))
      (ap (λ (vars : List Var). body_meaning g calls_here (stmt.Invoke unit vars ∷ put_back_of (first + 1)) units numbers_kept) variables
      ∙ sym
      (comes true e
      ∙ goes_on_behind g calls_here (saved_of (first + 1)) units flags_set (stmt.Invoke unit [] ∷ put_back_of (first + 1)) units numbers_kept
      (saved_goes g calls_here units frames asked flags_set flags_related (first + 1) saving_room)))
      (function_called g enter units first (first + 1) unit frames asked s numbers_kept guarded_ready formals c may alone
      (subst (AreKeptIn (own_of numbers_kept.activations) (first + 1 + 2) formals) (sym none)
      (none_kept (own_of numbers_kept.activations) (first + 1 + 2) formals)))
