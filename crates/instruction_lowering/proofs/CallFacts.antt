-- What is known of calls of an accepted program, and of what they leave.
use Rattle.std.proofs.Common.{◌≡◌, ℕ, zero, suc, ◌+◌, ◌<◌, ◌≤◌, ◌==◌, false, not, List, [], ◌∷◌, ◌++◌, length, Option, Some, None, Result, Ok, Err, refl, sym, ap, subst, ◌∙◌, arith}
use Rattle.std.specs.Prelude.{All, map, option_map, slice_get}
use Rattle.std.proofs.lemmas.Option.{get_or_from_slice_get, slice_get-map}
use Rattle.std.specs.List.{flat_map}
use Rattle.std.proofs.lemmas.List.{length-map}
use Rattle.std.proofs.lemmas.List.Elements.{All-cons, All-head, All-nil, All-tail}
use Rattle.memory_areas.specs.Access.{and_then}
use Rattle.memory_areas.specs.Areas.{Contents, with_zero_activation}
use Rattle.memory_areas.specs.declared.place.Place.{Place}
use Rattle.s7_base.specs.declared.check.Entry.{Entry}
use Rattle.s7_base.specs.declared.outcome.Fault.{Fault}
use Rattle.stl_tree.specs.Accepted.{AreActuals, LiesInInstance, Widths, widths_named}
use Rattle.stl_tree.specs.Calls.{actual_places, after_call, after_end_of, after_giving_back, after_taking, with_block, with_constants}
use Rattle.stl_tree.specs.Now.{Activation, Now}
use Rattle.stl_tree.specs.declared.program.Block.{Block}
use Rattle.stl_tree.specs.declared.program.BlockCall.{BlockCall}
use Rattle.stl_tree.specs.declared.program.Formal.{Formal}
use Rattle.stl_tree.specs.declared.program.Program.{Program}
use Rattle.bit_templates.specs.Brackets.{KeepBrackets}
use Rattle.bit_templates.specs.declared.chain.OpenBracket.{OpenBracket}
use Rattle.st_tree.specs.Calls.{activation_of, state_on_entry, zero_of}
use Rattle.st_tree.specs.StRun.{is_program}
use Rattle.st_tree.specs.State.{Activation as Running, State, own_of}
use Rattle.st_tree.specs.declared.program.Pou.{Pou}
use Rattle.st_tree.specs.declared.state.Reference.{Reference}
use Rattle.call_templates.specs.CallLaw.{IsCallOf, widths_inside}
use Rattle.instruction_lowering.proofs.Temporaries.{Keeps}
use Rattle.instruction_lowering.specs.UnitNames.{unit_position}
use Rattle.instruction_lowering.specs.inner.Templates.{unit_called}
use Rattle.instruction_lowering.specs.inner.UnitOrder.{unit_positions}
use Rattle.instruction_lowering.specs.declared.statements.LoweringContext.{LoweringContext}
use Rattle.template_parts.proofs.Putting.{own_last}

-- what is known of a call of an accepted program: the block that it calls, to which it gives the actuals that that asks for
pub record IsCallable (p : Program) (formals : Widths) (c : BlockCall) : Type 0 where
  pub block : Block
  pub there : slice_get p.blocks c.block ≡ Some block
  pub right : IsCallOf p.dbs formals block.formals c
  pub function : is_program block.name ≡ false
  pub inside : widths_inside c block.formals ≡ widths_named block.name block.formals

-- the end of a block opens and closes no bracket
pub end_keeps_brackets : (formals : List Formal) (done : Activation) (waiting : List Activation) (now after : Now)
    → after_end_of formals done waiting now ≡ Ok after
    → after.brackets ≡ now.brackets
end_keeps_brackets formals done waiting now after e = by (after_giving_back done.instance formals done.formals now.memory) e
  where
    by : (r : Result Contents Fault) → and_then r (λ m. Ok (record now {
      registers = record now.registers { db = done.db; di = done.di };
      memory = m;
      activations = waiting;
    })) ≡ Ok after → after.brackets ≡ now.brackets
    by (Ok m) e =
        let same : after ≡ record now { registers = record now.registers { db = done.db; di = done.di }; memory = m; activations = waiting } = cc in
        ap (λ (x : Now). x.brackets) same
    by (Err f) e = cc

-- a unit that is entered has the locals that it declares
pub entry_locals : (head : Pou) (references : List Reference) (s : State) → length (own_of (state_on_entry head references s).activations) ≡ length head.locals
entry_locals head references s = ap length (own_last s.activations (activation_of head references)) ∙ length-map head.locals zero_of

-- where no bracket is open nothing is kept
pub keeps_nothing : (total : ℕ) (q : LoweringContext) (entries : List Entry) (acts : List Running) → length q.brackets ≡ 0 → entries ≡ []
    → length (own_of acts) ≡ total → Keeps total q entries acts
keeps_nothing total q entries acts none e long = (long, by q.brackets entries none e)
  where
    by : (brackets : List OpenBracket) (entries : List Entry) → length brackets ≡ 0 → entries ≡ [] → KeepBrackets q.used brackets entries (own_of acts)
    by [] [] none e = tt
    by [] (x ∷ entries) none e = cc
    by (o ∷ brackets) entries none e = absurd (omega (arith, none))

-- what holds for two lists holds for each
pub all_left : {Y : Type 0} (P : Y → Type 0) (xs ys : List Y) → All P (xs ++ ys) → All P xs
all_left P [] ys h = All-nil P
all_left P (x ∷ xs) ys h = All-cons P x xs (All-head P x (xs ++ ys) h) (all_left P xs ys (All-tail P x (xs ++ ys) h))

pub all_right : {Y : Type 0} (P : Y → Type 0) (xs ys : List Y) → All P (xs ++ ys) → All P ys
all_right P [] ys h = h
all_right P (x ∷ xs) ys h = all_right P xs ys (All-tail P x (xs ++ ys) h)

-- what holds for each part of each element holds for those of one
pub all_at : {X Y : Type 0} (P : Y → Type 0) (f : X → List Y) (xs : List X) (i : ℕ) (x : X) → All P (flat_map f xs) → slice_get xs i ≡ Some x → All P (f x)
all_at P f [] i x h e = cc
all_at P f (y ∷ xs) zero x h e = let same : y ≡ x = cc in subst (λ z. All P (f z)) same (all_left P (f y) (flat_map f xs) h)
all_at P f (y ∷ xs) (suc i) x h e = all_at P f xs i x (all_right P (f y) (flat_map f xs) h) e

-- the state in which a called block begins, if no actual has a fault
pub record Begins (call : BlockCall) (before begun : Now) : Type 0 where
  pub places : List (Option Place)
  pub memory : Contents
  pub is : begun ≡ with_block call places memory before

pub call_begins : (formals : List Formal) (call : BlockCall) (before begun : Now) → after_call formals call before ≡ Ok begun → Begins call before begun
call_begins formals call before begun e = found (actual_places (length before.activations) 0 formals call.actuals before) e
  where
    taken : (places : List (Option Place)) (r : Result Contents Fault) → and_then r (λ m. Ok (with_block call places m before)) ≡ Ok begun
        → Begins call before begun
    taken places (Ok m) e = record { places = places; memory = m; is = cc }
    taken places (Err f) e = cc

    written : (places : List (Option Place)) (r : Result Contents Fault)
        → and_then r (λ m. and_then (after_taking call.instance formals places m) (λ taken. Ok (with_block call places taken before))) ≡ Ok begun
        → Begins call before begun
    written places (Ok m) e = taken places (after_taking call.instance formals places m) e
    written places (Err f) e = cc

    found : (r : Result (List (Option Place)) Fault)
        → and_then r
        (λ places. and_then (with_constants (length before.activations) 0 formals call.actuals (with_zero_activation (length before.activations) before.memory))
        (λ m. and_then (after_taking call.instance formals places m) (λ taken. Ok (with_block call places taken before)))) ≡ Ok begun
        → Begins call before begun
    found (Ok places) e =
        written places (with_constants (length before.activations) 0 formals call.actuals (with_zero_activation (length before.activations) before.memory)) e
    found (Err f) e = cc

pub same_head : (x y : Activation) (xs ys : List Activation) → x ∷ xs ≡ y ∷ ys → x ≡ y
same_head x y xs ys e = cc

pub same_block : (x y : Block) → Some x ≡ Some y → x ≡ y
same_block x y e = cc

-- a block to which nothing is given has no formals, so it may be called from any other
pub unguarded : (p : Program) (formals : Widths) (c : BlockCall) → IsCallable p [] c → c.actuals ≡ [] → IsCallable p formals c
unguarded p formals c may none =
    let given = may.right in
    record {
      block = may.block;
      there = may.there;
      right = record {
        actuals = subst (AreActuals formals (not (c.instance == 0)) may.block.formals) (sym none)
            (by may.block.formals (subst (AreActuals [] (not (c.instance == 0)) may.block.formals) none given.actuals));
        number = given.number;
        lies = given.lies;
        few = given.few;
      };
      function = may.function;
      inside = may.inside;
    }
  where
    by : (fs : List Formal) → AreActuals [] (not (c.instance == 0)) fs [] → AreActuals formals (not (c.instance == 0)) fs []
    by [] h = tt
    by (f ∷ fs) h = elim h [ ]

-- the unit that a call calls stands where that of its block does
pub called_position : (p : Program) (formals : Widths) (c : BlockCall) (may : IsCallable p formals c)
    → unit_called p.blocks c ≡ unit_position p.blocks may.block.name
called_position p formals c may =
    get_or_from_slice_get (unit_positions p.blocks) c.block (unit_position p.blocks may.block.name) 0
    (slice_get-map (λ (b : Block). unit_position p.blocks b.name) p.blocks c.block
    ∙ ap (option_map (λ (b : Block). unit_position p.blocks b.name)) may.there)
