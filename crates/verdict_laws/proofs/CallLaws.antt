-- The calls of a text that breaks no rule are right: the called block is there, each formal is given what it may be
-- given, and a function block its instance.
use Rattle.std.proofs.Common.{◌≡◌, ℕ, suc, ◌+◌, ◌^◌, ◌<◌, List, [], ◌∷◌, ◌++◌, length, Bool, true, false, not, ◌&&◌, ◌||◌, ◌==◌, if◌then◌else◌, Option, Some, None, Result, Ok, Err, refl, sym, ap, subst, ◌∙◌, arith, eqb-true}
use Rattle.std.specs.Prelude.{All, Contains, IfOk, IfSome, option_map, position, slice_get}
use Rattle.std.specs.List.{cons_option, filter_map, find, fold, position_or_len}
use Rattle.std.specs.Option.{is_none}
use Rattle.std.proofs.lemmas.Bool.{and_parts, lt-ltb, not-false}
use Rattle.std.proofs.lemmas.List.Elements.{All-cons, All-head, All-nil, All-tail}
use Rattle.std.proofs.lemmas.Option.{slice_get-map}
use Rattle.memory_areas.specs.Access.{and_then, bits_wide}
use Rattle.memory_areas.specs.declared.call.BlockName.{BlockName}
use Rattle.memory_areas.specs.declared.call.BlockName.TheVariants as name
use Rattle.s7_base.specs.Tokens.{is_same_word}
use Rattle.s7_base.specs.declared.reason.Reason.{Reason}
use Rattle.s7_base.specs.declared.reason.Reason.TheVariants.{BadAddress, BadOperand, DuplicateName}
use Rattle.s7_base.specs.declared.word.Width.{Width}
use Rattle.s7_base.specs.declared.word.Width.TheVariants as width
use Rattle.stl_rules.specs.Calls.{WrittenCall, actual_named, actual_rules, actuals_for, are_repeated, block_call, block_rules, broken_rule, call_of, call_rules, call_unless, formals_called, given_by, given_to, instance_found, instance_numbered, instance_of_call, instance_rules, is_given, is_instance, is_same_width, least_rule, lesser, misses_one, missing_rules, number_or_zero, or_missing, or_zero, rule_if, rules_of_actuals, rules_with, with_rule}
use Rattle.stl_rules.specs.DataBlocks.{instance_in, instance_of, instance_with}
use Rattle.stl_rules.specs.DeclarationRules.{fits_width}
use Rattle.stl_rules.specs.Interfaces.{formal_named, formals_of}
use Rattle.stl_rules.specs.Labels.{label_of}
use Rattle.stl_rules.specs.Names.{block_number, block_numbered, block_position, db_numbered, is_block, is_number, is_same_kind, may_have}
use Rattle.stl_rules.specs.Programs.{block_name, block_of, calling, calling_bare, gives_nothing, instr_of, op_in, op_of, op_or_rule, or_any, program_of, with_list}
use Rattle.stl_rules.specs.Raw.{OperandScope, resolved_operand}
use Rattle.stl_rules.specs.Stages.{instr_breaks}
use Rattle.stl_rules.specs.declared.resolved_operand.ResolvedOperand.{ResolvedOperand}
use Rattle.stl_rules.specs.declared.resolved_operand.ResolvedOperand.TheVariants as behind
use Rattle.stl_rules.proofs.Lists.{no_parts, none_of_all}
use Rattle.stl_statement_grammar.specs.Constants.{value_in}
use Rattle.stl_statement_grammar.specs.Mnemonics.{mnemonic_named}
use Rattle.stl_statement_grammar.specs.declared.mnemonic.Mnemonic.{Mnemonic}
use Rattle.stl_statement_grammar.specs.declared.mnemonic.Mnemonic.TheVariants as is
use Rattle.stl_tree.specs.Accepted.{AreActuals, AsksFor, CallsRight, IsActual, IsCall, IsOperand, Widths, is_written, takes_constants}
use Rattle.stl_tree.specs.Accumulators.{part}
use Rattle.stl_tree.specs.StlRun.{IsInstance}
use Rattle.stl_tree.specs.declared.program.Actual.{Actual}
use Rattle.stl_tree.specs.declared.program.Actual.TheVariants as actual
use Rattle.stl_tree.specs.declared.program.BlockCall.{BlockCall}
use Rattle.stl_tree.specs.declared.program.Formal.{Formal}
use Rattle.stl_tree.specs.declared.program.JumpTest.{JumpTest}
use Rattle.stl_tree.specs.declared.program.JumpTest.TheVariants as jump
use Rattle.stl_tree.specs.declared.program.Op.{Op}
use Rattle.stl_tree.specs.declared.program.Op.TheVariants as op
use Rattle.stl_tree.specs.declared.program.Operand.{Operand}
use Rattle.stl_tree.specs.declared.raw.BlockKind.{BlockKind}
use Rattle.stl_tree.specs.declared.raw.BlockKind.TheVariants as block
use Rattle.stl_tree.specs.declared.raw.Constant.{Constant}
use Rattle.stl_tree.specs.declared.raw.RawActual.{RawActual}
use Rattle.stl_tree.specs.declared.raw.RawBlock.{RawBlock}
use Rattle.stl_tree.specs.declared.raw.RawCall.{RawCall, out-RawCall}
use Rattle.stl_tree.specs.declared.raw.RawData.{RawData}
use Rattle.stl_tree.specs.declared.raw.RawDataKind.{RawDataKind}
use Rattle.stl_tree.specs.declared.raw.RawDataKind.TheVariants as data_kind
use Rattle.stl_tree.specs.declared.raw.RawInstr.{RawInstr}
use Rattle.stl_tree.specs.declared.raw.RawName.{RawName}
use Rattle.stl_tree.specs.declared.raw.RawOp.{RawOp}
use Rattle.stl_tree.specs.declared.raw.RawOperand.{RawOperand, RawOperand-F, out-RawOperand}
use Rattle.stl_tree.specs.declared.raw.RawOperand.TheOpen as layer
use Rattle.stl_tree.specs.declared.raw.RawProgram.{RawProgram}
use Rattle.verdict_laws.proofs.DataBlockLaws.{HasInterface}
use Rattle.verdict_laws.proofs.FormalLaws.{formals_apart, key_same, named_first, same_key}
use Rattle.verdict_laws.proofs.ProgramLaws.{AimsAt, HasPart, IsClear, IsGiven, IsOfResults, any_is, calls, found_is, given_is, named_results, or_rule_is, turn_by, turn_of, widths_of_block}

-- What is found

pub found_passes : {X : Type 0} (test : X → Bool) (xs : List X) (x : X) → find test xs ≡ Some x → test x ≡ true
found_passes test [] x e = absurd cc
found_passes {X = X} test (y ∷ ys) x e = by (test y) refl (found_passes test ys x) e
  where
    same : (a b : X) → Some a ≡ Some b → a ≡ b
    same a b h = cc

    by : (b : Bool) → test y ≡ b → (find test ys ≡ Some x → test x ≡ true) → (if b then Some y else find test ys) ≡ Some x → test x ≡ true
    by true t more h = ap test (sym (same y x h)) ∙ t
    by false t more h = more h

pub place_found : {X : Type 0} (test : X → Bool) (xs : List X) (x : X) → find test xs ≡ Some x
    → (position_or_len test xs < length xs) × (slice_get xs (position_or_len test xs) ≡ Some x)
place_found test [] x e = absurd cc
place_found test (y ∷ ys) x e = by (test y) e (place_found test ys x)
  where
    by : (b : Bool) → (if b then Some y else find test ys) ≡ Some x
        → (find test ys ≡ Some x → (position_or_len test ys < length ys) × (slice_get ys (position_or_len test ys) ≡ Some x))
        → ((if not b then 1 + position_or_len test ys else 0) < length (y ∷ ys))
        × (slice_get (y ∷ ys) (if not b then 1 + position_or_len test ys else 0) ≡ Some x)
    by true h more = (omega arith, h)
    by false h more =
        let m = more h in
        let one : 1 + position_or_len test ys ≡ suc (position_or_len test ys) = omega arith in
        (omega (arith, m.0), ap (slice_get (y ∷ ys)) one ∙ m.1)

pub position_found : {X : Type 0} (test : X → Bool) (xs : List X) (x : X) → find test xs ≡ Some x
    → position test xs ≡ Some (position_or_len test xs)
position_found test xs x e =
    ap (λ b. if b then Some (position_or_len test xs) else None) (lt-ltb (position_or_len test xs) (length xs) (place_found test xs x e).0)

pub made_contains : {X Y : Type 0} (make : X → Option Y) (test : X → Bool) (xs : List X) (x : X) (y : Y) → find test xs ≡ Some x
    → make x ≡ Some y → Contains (filter_map make xs) y
made_contains make test [] x y e m = absurd cc
made_contains {X = X} {Y = Y} make test (z ∷ zs) x y e m = by (test z) e (made_contains make test zs x y)
  where
    same : (a b : X) → Some a ≡ Some b → a ≡ b
    same a b h = cc

    more : (o : Option Y) (rest : List Y) → Contains rest y → Contains (cons_option o rest) y
    more None rest c = c
    more (Some w) rest c = (suc c.0, omega (arith, c.1), c.2)

    by : (b : Bool) → (if b then Some z else find test zs) ≡ Some x → (find test zs ≡ Some x → make x ≡ Some y → Contains (filter_map make zs) y)
        → Contains (cons_option (make z) (filter_map make zs)) y
    by true h rest =
        let made : make z ≡ Some y = ap make (same z x h) ∙ m in
        subst (λ (o : Option Y). Contains (cons_option o (filter_map make zs)) y) (sym made) (0, omega arith, refl)
    by false h rest = more (make z) (filter_map make zs) (rest h m)

pub number_found : (n : ℕ) (r : Result ℕ Reason) → is_number n r ≡ true → r ≡ Ok n
number_found n (Ok m) e = ap (λ k. Ok k) (eqb-true m n e)
number_found n (Err reason) e = absurd cc

kind_found : (a b : BlockKind) → is_same_kind a b ≡ true → b ≡ a
kind_found block.Ob block.Ob e = refl
kind_found block.Fc block.Fc e = refl
kind_found block.Fb block.Fb e = refl
kind_found block.Db block.Db e = refl
kind_found a b e = absurd cc

-- a block that is found has its kind and its number
pub record IsNumbered (text : RawProgram) (kind : BlockKind) (n : ℕ) (raw : RawBlock) : Type 0 where
  pub kind_is : raw.kind ≡ kind
  pub number_is : block_number text.symbols raw.kind raw.name ≡ Ok n

pub numbered_found : (text : RawProgram) (kind : BlockKind) (n : ℕ) (raw : RawBlock) → block_numbered text kind n ≡ Some raw
    → IsNumbered text kind n raw
numbered_found text kind n raw e =
    let p = and_parts (is_same_kind kind raw.kind) (is_number n (block_number text.symbols raw.kind raw.name))
    (found_passes (is_block text.symbols kind n) text.blocks raw e) in
    record { kind_is = kind_found kind raw.kind p.0; number_is = number_found n (block_number text.symbols raw.kind raw.name) p.1 }

-- Rules

no_rule : (b : Bool) (reason : Reason) → rule_if b reason ≡ [] → b ≡ false
no_rule true reason e = absurd cc
no_rule false reason e = refl

some_stays : (least : Reason) (rules : List Reason) → fold with_rule (Some least) rules ≡ None → ⊥
some_stays least [] e = cc
some_stays least (rule ∷ rules) e = some_stays (lesser least rule) rules e

none_least : (rules : List Reason) → least_rule rules ≡ None → rules ≡ []
none_least [] e = refl
none_least (rule ∷ rules) e = absurd (some_stays rule rules e)

-- a call that breaks no rule
record Kept (scope : OperandScope) (call : RawCall) (made : BlockCall) : Type 0 where
  rules : call_rules scope (out-RawCall call) ≡ []
  is : made ≡ block_call scope (out-RawCall call)

call_kept : (scope : OperandScope) (call : RawCall) (made : BlockCall) → call_of scope call ≡ Ok made → Kept scope call made
call_kept scope call made e = by (least_rule (call_rules scope (out-RawCall call))) refl e
  where
    by : (o : Option Reason) → least_rule (call_rules scope (out-RawCall call)) ≡ o
        → call_unless o (block_call scope (out-RawCall call)) ≡ Ok made → Kept scope call made
    by None l h = record { rules = none_least (call_rules scope (out-RawCall call)) l; is = cc }
    by (Some reason) l h = absurd cc

-- Actuals

same_widths : (a b : Width) → is_same_width a b ≡ true → a ≡ b
same_widths width.Bit width.Bit e = refl
same_widths width.Byte width.Byte e = refl
same_widths width.Word width.Word e = refl
same_widths width.Dword width.Dword e = refl
same_widths a b e = absurd cc

part_fits : (w : Width) (n : ℕ) → part w n < 2 ^ bits_wide w
part_fits width.Bit n = omega arith
part_fits width.Byte n = omega arith
part_fits width.Word n = omega arith
part_fits width.Dword n = omega arith

module _ (scope : OperandScope) (clear : IsClear scope) (has_instance : Bool) where
  abbrev widths : Widths
  widths = widths_of_block scope.block

  constant_is : (f : Formal) (c : Constant) (b : Bool) → (takes_constants f.mode && fits_width f.width c) ≡ b
      → broken_rule (if b then Ok (actual.Constant (part f.width (value_in f.width c))) else Err BadOperand) ≡ []
      → IsActual widths has_instance f (or_missing (if b then Ok (actual.Constant (part f.width (value_in f.width c))) else Err BadOperand))
  constant_is f c true t e =
      ((and_parts (takes_constants f.mode) (fits_width f.width c) t).0, part_fits f.width (value_in f.width c))
  constant_is f c false t e = absurd cc

  operand_is : (f : Formal) (o : Operand) (w : Width) → IsOperand widths w o → (b : Bool) → (is_written o && is_same_width w f.width) ≡ b
      → broken_rule (if b then Ok (actual.At o) else Err BadOperand) ≡ []
      → IsActual widths has_instance f (or_missing (if b then Ok (actual.At o) else Err BadOperand))
  operand_is f o w h true t e =
      let p = and_parts (is_written o) (is_same_width w f.width) t in
      (p.0, subst (λ v. IsOperand widths v o) (same_widths w f.width p.1) h)
  operand_is f o w h false t e = absurd cc

  given_is_actual : (aim : ℕ → Type 0) (f : Formal) (g : ResolvedOperand) → IsGiven widths aim g → broken_rule (given_to f g) ≡ []
      → IsActual widths has_instance f (or_missing (given_to f g))
  given_is_actual aim f (behind.Constant c) h e = constant_is f c (takes_constants f.mode && fits_width f.width c) refl e
  given_is_actual aim f (behind.At o w) h e = operand_is f o w h (is_written o && is_same_width w f.width) refl e
  given_is_actual aim f behind.Unjudged h e = absurd h
  given_is_actual aim f (behind.Outside area w) h e = absurd cc
  given_is_actual aim f behind.NoPointer h e = absurd cc
  given_is_actual aim f behind.Unknown h e = absurd cc
  given_is_actual aim f other h e = absurd cc

  -- an actual that breaks no rule with the formal of its name
  abbrev Fits : List Formal → RawActual → Type 0
  Fits formals a = rules_with (formal_named 0 formals a.formal) (resolved_operand scope a.value) ≡ []

  -- a formal may have no actual
  abbrev MayMiss : List RawActual → Formal → Type 0
  MayMiss actuals f = is_none (actual_named actuals f.name) ≡ true → has_instance ≡ true

  -- a formal is the one of its name
  abbrev IsNamed : List Formal → Formal → Type 0
  IsNamed formals f = (called : List ℕ) → is_same_word f.name called ≡ true → (n : ℕ) × (formal_named 0 formals called ≡ Some (n, f))

  actual_is : (formals : List Formal) (actuals : List RawActual) → All (Fits formals) actuals → (f : Formal) → IsNamed formals f → MayMiss actuals f
      → IsActual widths has_instance f (given_by scope f (actual_named actuals f.name))
  actual_is formals actuals fit f named miss =
      by (actual_named actuals f.name) refl (found_is (Fits formals) (is_given f.name) actuals fit) miss
    where
      turned : (a b : List ℕ) → is_same_word a b ≡ true → is_same_word b a ≡ true
      turned a b h = key_same b a (sym (same_key a b h))

      by : (o : Option RawActual) → actual_named actuals f.name ≡ o → IfSome o (Fits formals) → (is_none o ≡ true → has_instance ≡ true)
          → IsActual widths has_instance f (given_by scope f o)
      by None e fits free = free refl
      by (Some a) e fits free =
          let own = named a.formal (turned a.formal f.name (found_passes (is_given f.name) actuals a e)) in
          given_is_actual (AimsAt scope (label_of a.value)) f (resolved_operand scope a.value) (given_is scope a.value clear)
          (sym (ap (λ (o : Option (ℕ × Formal)). rules_with o (resolved_operand scope a.value)) own.1) ∙ fits)

  all_actuals : (formals : List Formal) (actuals : List RawActual) → All (Fits formals) actuals → (fs : List Formal)
      → All (IsNamed formals) fs → All (MayMiss actuals) fs → AreActuals widths has_instance fs (actuals_for scope actuals fs)
  all_actuals formals actuals fit [] named miss = tt
  all_actuals formals actuals fit (f ∷ fs) named miss = (
    actual_is formals actuals fit f (All-head (IsNamed formals) f fs named) (All-head (MayMiss actuals) f fs miss),
    all_actuals formals actuals fit fs (All-tail (IsNamed formals) f fs named) (All-tail (MayMiss actuals) f fs miss),
  )

  -- the actuals of a call for the formals of a block whose interface breaks no rule
  pub actuals_are : (raw : RawBlock) → HasInterface raw → (actuals : List RawActual) → rules_of_actuals scope (formals_of raw) actuals ≡ []
      → All (MayMiss actuals) (formals_of raw) → AreActuals widths has_instance (formals_of raw) (actuals_for scope actuals (formals_of raw))
  actuals_are raw e actuals kept miss =
      all_actuals (formals_of raw) actuals
      (none_of_all (λ (a : RawActual). rules_with (formal_named 0 (formals_of raw) a.formal) (resolved_operand scope a.value)) actuals kept)
      (formals_of raw) (named_first 0 (formals_of raw) (formals_apart raw e)) miss

none_missing : (actuals : List RawActual) (fs : List Formal) → misses_one actuals fs ≡ false
    → All (λ (f : Formal). is_none (actual_named actuals f.name) ≡ true → false ≡ true) fs
none_missing actuals [] e = All-nil (λ (f : Formal). is_none (actual_named actuals f.name) ≡ true → false ≡ true)
none_missing actuals (f ∷ fs) e =
    let p = neither (is_none (actual_named actuals f.name)) (misses_one actuals fs) e in
    All-cons (λ (x : Formal). is_none (actual_named actuals x.name) ≡ true → false ≡ true) f fs (λ t. sym p.0 ∙ t) (none_missing actuals fs p.1)
  where
    neither : (a b : Bool) → (a || b) ≡ false → (a ≡ false) × (b ≡ false)
    neither true b h = absurd cc
    neither false b h = (refl, h)

any_missing : (actuals : List RawActual) (fs : List Formal) → All (λ (f : Formal). is_none (actual_named actuals f.name) ≡ true → true ≡ true) fs
any_missing actuals fs k d l t = refl

-- Instances

-- a data block that is an instance of a function block
instance_there : (text : RawProgram) (fb m : ℕ) (o : Option RawData) → db_numbered text.symbols text.dbs m ≡ o
    → instance_found text.symbols (Ok fb) o ≡ [] → IsInstance (program_of text).instances m fb
instance_there text fb m None e h = absurd cc
instance_there text fb m (Some d) e h =
    made_contains (instance_of text) (λ (x : RawData). is_number m (block_number text.symbols block.Db x.name)) text.dbs d (record { db = m; fb = fb }) e
    (of_kind d.kind (not-false (is_instance text.symbols fb d.kind) (no_rule (not (is_instance text.symbols fb d.kind)) BadOperand h)))
  where
    number : block_number text.symbols block.Db d.name ≡ Ok m
    number =
        number_found m (block_number text.symbols block.Db d.name)
        (found_passes (λ (x : RawData). is_number m (block_number text.symbols block.Db x.name)) text.dbs d e)

    of_kind : (kind : RawDataKind) → is_instance text.symbols fb kind ≡ true
        → instance_in text kind (block_number text.symbols block.Db d.name) ≡ Some (record { db = m; fb = fb })
    of_kind (data_kind.Own decls) t = absurd cc
    of_kind (data_kind.Instance its) t =
        ap (instance_in text (data_kind.Instance its)) number
        ∙ ap (instance_with m) (number_found fb (block_number text.symbols block.Fb its) t)

-- Calls

none_of_length : (actuals : List Actual) → (length actuals == 0) ≡ true → actuals ≡ []
none_of_length [] h = refl
none_of_length (a ∷ actuals) h = absurd (omega (arith, eqb-true (length (a ∷ actuals)) 0 h))

-- what a call asks of the block that is found for it
module _ (scope : OperandScope) (clear : IsClear scope) (all : All HasInterface scope.text.blocks) where
  abbrev text : RawProgram
  text = scope.text

  abbrev own_widths : Widths
  own_widths = widths_of_block scope.block

  -- a call to the block of a position
  abbrev call_at : ℕ → ℕ → RawBlock → List RawActual → BlockCall
  call_at place instance raw actuals =
      record { block = place; instance = instance; actuals = actuals_for scope actuals (formals_of raw) }

  asks : (kind : BlockKind) (n place : ℕ) (raw : RawBlock) (actuals : List RawActual) (db : Option RawName) → HasInterface raw
      → rules_of_actuals scope (formals_of raw) actuals ≡ [] → missing_rules kind actuals (formals_of raw) ≡ []
      → instance_rules text kind (Ok n) db ≡ []
      → AsksFor (program_of text).instances own_widths (block_of text raw) (block_name kind (Ok n))
      (call_at place (instance_of_call text.symbols db) raw actuals)
  asks block.Fc n place raw actuals None e kept missing rules = (
    refl,
    actuals_are scope clear false raw e actuals kept
        (none_missing actuals (formals_of raw) (no_rule (misses_one actuals (formals_of raw)) BadOperand missing)),
  )
  asks block.Fc n place raw actuals (Some its) e kept missing rules = absurd cc
  asks block.Fb n place raw actuals None e kept missing rules = absurd cc
  asks block.Fb n place raw actuals (Some its) e kept missing rules =
      (by (block_number text.symbols block.Db its) rules, actuals_are scope clear true raw e actuals kept (any_missing actuals (formals_of raw)))
    where
      by : (r : Result ℕ Reason) → instance_numbered text (Ok n) r ≡ [] → IsInstance (program_of text).instances (number_or_zero r) n
      by (Err reason) h = absurd cc
      by (Ok m) h =
          instance_there text n m (db_numbered text.symbols text.dbs m) refl
          (no_parts (rule_if (not (may_have block.Db m)) BadAddress) (instance_found text.symbols (Ok n) (db_numbered text.symbols text.dbs m)) h).1
  asks block.Ob n place raw actuals db e kept missing rules = absurd cc
  asks block.Db n place raw actuals db e kept missing rules = absurd cc

  found_call : (call : WrittenCall) (n : ℕ) (raw : RawBlock) → block_number text.symbols call.kind call.block ≡ Ok n
      → block_numbered text call.kind n ≡ Some raw
      → block_call scope call
      ≡ call_at (position_or_len (is_block text.symbols call.kind n) text.blocks) (instance_of_call text.symbols call.db) raw call.actuals
  found_call call n raw number found =
      ap (λ r. at (number_or_zero r)) number
      ∙ ap (λ o. made (or_zero o) (block_numbered text call.kind n)) (position_found (is_block text.symbols call.kind n) text.blocks raw found)
      ∙ ap (λ o. made (position_or_len (is_block text.symbols call.kind n) text.blocks) o) found
    where
      made : ℕ → Option RawBlock → BlockCall
      made place o =
          record {
            block = place;
            instance = instance_of_call text.symbols call.db;
            actuals = actuals_for scope call.actuals (formals_called o);
          }

      at : ℕ → BlockCall
      at k = made (or_zero (block_position text call.kind k)) (block_numbered text call.kind k)

  -- a call that breaks no rule is right
  written_right : (call : WrittenCall) → call_rules scope call ≡ [] → IsCall (program_of text) own_widths (block_call scope call)
  written_right call e = by (block_number text.symbols call.kind call.block) refl rules.0 rules.1
    where
      rules : (block_rules scope call.kind call.actuals (block_number text.symbols call.kind call.block) ≡ [])
          × (instance_rules text call.kind (block_number text.symbols call.kind call.block) call.db ≡ [])
      rules =
          let n = block_number text.symbols call.kind call.block in
          no_parts (block_rules scope call.kind call.actuals n) (instance_rules text call.kind n call.db)
          (no_parts (block_rules scope call.kind call.actuals n ++ instance_rules text call.kind n call.db)
          (rule_if (are_repeated call.actuals) DuplicateName) e).0

      of_block : (n : ℕ) (o : Option RawBlock) → block_number text.symbols call.kind call.block ≡ Ok n → block_numbered text call.kind n ≡ o
          → IfSome o HasInterface → actual_rules scope call.kind call.actuals o ≡ [] → instance_rules text call.kind (Ok n) call.db ≡ []
          → IsCall (program_of text) own_widths (block_call scope call)
      of_block n None number found interface kept instance = absurd cc
      of_block n (Some raw) number found interface kept instance =
          let p = no_parts (rules_of_actuals scope (formals_of raw) call.actuals) (missing_rules call.kind call.actuals (formals_of raw)) kept in
          let its = numbered_found text call.kind n raw found in
          let place = position_or_len (is_block text.symbols call.kind n) text.blocks in
          let named : (block_of text raw).name ≡ block_name call.kind (Ok n)
          = ap (block_name raw.kind) its.number_is ∙ ap (λ k. block_name k (Ok n)) its.kind_is in
          subst (IsCall (program_of text) own_widths) (sym (found_call call n raw number found)) (
            block_of text raw,
            slice_get-map (block_of text) text.blocks place
                ∙ ap (option_map (block_of text)) (place_found (is_block text.symbols call.kind n) text.blocks raw found).1,
            subst (λ b. AsksFor (program_of text).instances own_widths (block_of text raw) b
                (call_at place (instance_of_call text.symbols call.db) raw call.actuals))
                (sym named) (asks call.kind n place raw call.actuals call.db interface p.0 p.1 instance),
          )

      by : (r : Result ℕ Reason) → block_number text.symbols call.kind call.block ≡ r → block_rules scope call.kind call.actuals r ≡ []
          → instance_rules text call.kind r call.db ≡ [] → IsCall (program_of text) own_widths (block_call scope call)
      by (Err reason) number kept instance = absurd cc
      by (Ok n) number kept instance =
          of_block n (block_numbered text call.kind n) number refl (found_is HasInterface (is_block text.symbols call.kind n) text.blocks all)
          (no_parts (rule_if (not (may_have call.kind n)) BadAddress) (actual_rules scope call.kind call.actuals (block_numbered text call.kind n)) kept).1
          instance

  -- a call that gives nothing is right in any block
  bare_actuals : (hi : Bool) (fs : List Formal) (actuals : List Actual) → actuals ≡ [] → AreActuals own_widths hi fs actuals
      → AreActuals [] hi fs actuals
  bare_actuals hi [] [] e h = tt
  bare_actuals hi (f ∷ fs) [] e h = h
  bare_actuals hi fs (a ∷ actuals) e h = absurd cc

  bare_call : (call : BlockCall) → call.actuals ≡ [] → IsCall (program_of text) own_widths call → IsCall (program_of text) [] call
  bare_call call e c = (c.0, c.1, by c.0.name c.2)
    where
      by : (b : BlockName) → AsksFor (program_of text).instances own_widths c.0 b call → AsksFor (program_of text).instances [] c.0 b call
      by (name.Ob n) h = h
      by (name.Fc n) h = (h.0, bare_actuals false c.0.formals call.actuals e h.1)
      by (name.Fb n) h = (h.0, bare_actuals true c.0.formals call.actuals e h.1)

  -- Instructions

  abbrev Right : Op → Type 0
  Right o = CallsRight (program_of text) own_widths o

  nothing_given : (call : BlockCall) → gives_nothing call ≡ true → (call.instance ≡ 0) × (call.actuals ≡ [])
  nothing_given call e =
      let p = and_parts (call.instance == 0) (length call.actuals == 0) e in (eqb-true call.instance 0 p.0, none_of_length call.actuals p.1)

  bare_right : (make : BlockCall → Op) (call : BlockCall) → ((call.instance ≡ 0) × (call.actuals ≡ []) → Right (make call))
      → IfOk (calling_bare make call) Right
  bare_right make call h = by (gives_nothing call) refl
    where
      by : (b : Bool) → gives_nothing call ≡ b → IfOk (if b then Ok (make call) else Err BadOperand) Right
      by true e = h (nothing_given call e)
      by false e = tt

  calling_right : (what : Option Mnemonic) (call : BlockCall) → IsCall (program_of text) own_widths call → IfOk (calling what call) Right
  calling_right (Some is.Call) call c = c
  calling_right (Some is.CallAlone) call c = bare_right op.Call call (λ e. c)
  calling_right (Some is.CallIf) call c = bare_right op.CallIf call (λ e. (bare_call call e.1 c, e.0, e.1))
  calling_right other call c = tt

  called_right : (what : Option Mnemonic) (call : RawCall) → IfOk (and_then (call_of scope call) (calling what)) Right
  called_right what call = by (call_of scope call) refl
    where
      by : (r : Result BlockCall Reason) → call_of scope call ≡ r → IfOk (and_then r (calling what)) Right
      by (Ok made) e =
          let k = call_kept scope call made e in
          calling_right what made (subst (IsCall (program_of text) own_widths) (sym k.is) (written_right (out-RawCall call) k.rules))
      by (Err reason) e = tt

  -- no other operand makes a call
  quiet : (o : Op) → (turn_of o ≡ calls → ⊥) → Right o
  quiet (op.Call call) h = absurd (h refl)
  quiet (op.CallIf call) h = absurd (h refl)
  quiet other h = tt

  unless_calls : (what : Option Mnemonic) (r : Result Op Reason) (P : Op → Type 0) → (turn_by what ≡ calls → ⊥)
      → IfOk r (λ o. P o × (turn_of o ≡ turn_by what)) → IfOk r Right
  unless_calls what (Ok o) P other h = quiet o (λ e. other (sym h.1 ∙ e))
  unless_calls what (Err reason) P other h = tt

  other_right : (what : Option Mnemonic) (operand : RawOperand) → IfSome what IsOfResults → IfOk (op_or_rule what (resolved_operand scope operand)) Right
  other_right (Some is.Call) operand good = by (resolved_operand scope operand)
    where
      by : (g : ResolvedOperand) → IfOk (op_or_rule (Some is.Call) g) Right
      by behind.Unjudged = tt
      by other = tt
  other_right (Some is.CallAlone) operand good = by (resolved_operand scope operand)
    where
      by : (g : ResolvedOperand) → IfOk (op_or_rule (Some is.CallAlone) g) Right
      by behind.Unjudged = tt
      by other = tt
  other_right (Some is.CallIf) operand good = by (resolved_operand scope operand)
    where
      by : (g : ResolvedOperand) → IfOk (op_or_rule (Some is.CallIf) g) Right
      by behind.Unjudged = tt
      by other = tt
  other_right (Some (is.Jump test)) operand good =
      unless_calls (Some (is.Jump test)) (op_or_rule (Some (is.Jump test)) (resolved_operand scope operand))
      (HasPart own_widths (AimsAt scope (label_of operand))) (no_jump test)
      (or_rule_is own_widths (AimsAt scope (label_of operand)) (Some (is.Jump test)) (resolved_operand scope operand) (given_is scope operand clear) good)
    where
      no_jump : (t : JumpTest) → turn_by (Some (is.Jump t)) ≡ calls → ⊥
      no_jump jump.Always h = cc
      no_jump other h = cc
  other_right what operand good =
      unless_calls what (op_or_rule what (resolved_operand scope operand)) (HasPart own_widths (AimsAt scope (label_of operand))) (λ e. cc)
      (or_rule_is own_widths (AimsAt scope (label_of operand)) what (resolved_operand scope operand) (given_is scope operand clear) good)

  in_right : (what : Option Mnemonic) (operand : RawOperand) (l : RawOperand-F RawOperand RawActual RawCall) → IfSome what IsOfResults
      → IfOk (op_in scope what operand l) Right
  in_right what operand (layer.Call call) good = called_right what call
  in_right what operand other good = other_right what operand good

  op_right : (raw : RawOp) → IfOk (op_of scope raw) Right
  unfolding op_of
  op_right raw = in_right (mnemonic_named raw.mnemonic) raw.operand (out-RawOperand raw.operand) (named_results raw.mnemonic)

  listed_right : (rest : List RawInstr) (o : Op) → Right o → Right (with_list rest o)
  listed_right rest (op.JumpList count to) h = tt
  listed_right rest other h = h

  -- the call of an instruction that breaks no rule is right
  pub call_right : (raw : RawInstr) (rest : List RawInstr) → instr_breaks scope raw ≡ [] → Right (instr_of scope raw rest).op
  call_right raw rest e = listed_right rest (or_any (op_of scope raw.op)) (any_is Right raw.line (op_of scope raw.op) (op_right raw.op) e)
