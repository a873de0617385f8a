-- The verdict gives only programs that keep the rules.
use Rattle.std.proofs.Common.{◌≡◌, ◌≢◌, ◌⊎◌, inl, inr, ◌<◌, ◌≤◌, get_or, ℕ, zero, suc, ◌+◌, List, [], ◌∷◌, ◌++◌, length, Bool, true, false, not, if◌then◌else◌, Option, Some, None, Result, Ok, Err, refl, sym, ap, subst, ◌∙◌, arith}
use Rattle.std.specs.Prelude.{All, IfOk, IfSome, ◌==◌, map, nat_le, nat_lt, slice_get}
use Rattle.std.specs.Option.{is_some}
use Rattle.std.specs.List.{flat_map, position_or_len}
use Rattle.std.proofs.lemmas.Bool.{and_parts, both_ways, le-ltb, leb-true, ne_eqb, not-false}
use Rattle.std.proofs.lemmas.List.Concat.{flat_map-cons}
use Rattle.std.proofs.lemmas.List.Elements.{All-append, All-cons, All-nil, All-head, All-tail, All-weaker}
use Rattle.std.proofs.lemmas.List.{length-map}
use Rattle.std.proofs.lemmas.Option.{slice_get_cases}
use Rattle.call_chains.specs.Chain.{chains}
use Rattle.memory_areas.specs.Access.{is_byte_in, is_unaligned}
use Rattle.memory_areas.specs.declared.call.BlockName.{BlockName}
use Rattle.memory_areas.specs.declared.place.AreaName.{AreaName}
use Rattle.memory_areas.specs.declared.place.AreaName.TheVariants as area_name
use Rattle.memory_areas.specs.declared.sizes.TheConstants.{ACTIVATIONS, MOST_BLOCKS}
use Rattle.s7_base.specs.Broken.{first_of_all}
use Rattle.s7_base.specs.declared.rule_break.Break.{Break}
use Rattle.s7_base.specs.declared.reason.Line.{Line}
use Rattle.s7_base.specs.declared.reason.Reason.{Reason}
use Rattle.s7_base.specs.declared.reason.Reason.TheVariants.{BadAddress, DuplicateName}
use Rattle.s7_base.specs.declared.reason.Rejection.{Rejection}
use Rattle.stl_tree.specs.Accepted.{AreDistinct, BlockCallsRight, CallsRight, HasOperand, HaveOperands, IsAccepted, IsAcceptedBlock, IsBlockNumber, IsEnded, IsSymbol, MayHaveFormals, widths_named}
use Rattle.stl_tree.specs.Brackets.{AreNested, WithNumber, open_behind}
use Rattle.stl_tree.specs.StlRun.{block_named, is_same_name}
use Rattle.stl_grammar.specs.Items.{is_data}
use Rattle.stl_grammar.specs.RawPrograms.{raw_text}
use Rattle.stl_rules.specs.Accepting.{IsKept}
use Rattle.stl_rules.specs.DeclarationRules.{is_named, key_of, with_name}
use Rattle.stl_rules.specs.Layouts.{breaks_in}
use Rattle.stl_rules.specs.Names.{block_number, may_have}
use Rattle.stl_rules.specs.BodyRules.{body_breaks, brackets_at, brackets_from, broken_if, formal_too_many, instruction_too_many, label_closed, labels_from, most_formals, most_instructions, none_open, open_then}
use Rattle.stl_rules.specs.Programs.{block_name, block_of, block_with, body_of, instr_of, instrs_of, program_of, symbol_area, symbol_at, symbol_in, symbol_of}
use Rattle.stl_rules.specs.Interfaces.{are_refused, are_temporaries_refused, formal_at, formals_declared, formals_of, instance_of, most_in_block, most_local, temporaries_of, variable_breaks}
use Rattle.stl_rules.specs.Paths.{component_in}
use Rattle.stl_rules.specs.Raw.{OperandScope}
use Rattle.stl_rules.specs.Stages.{blocks_behind, bodies, call_graph, chain, content_breaks, cycle_breaks, dbs_behind, deep_breaks, first_broken, heading_breaks, initial_breaks, instr_breaks, is_address, is_among, names, none_among, one_too_many, or_deep, stages, symbols_behind, with_block_number}
use Rattle.stl_rules.proofs.Scopes.{variables_kept}
use Rattle.stl_rules.specs.Verdict.{checked_program, judged_by, verdict}
use Rattle.verdict_laws.specs.VerdictLaws.{VerdictIsAccepted}
use Rattle.stl_tree.specs.declared.program.Block.{Block}
use Rattle.stl_tree.specs.declared.program.Instr.{Instr}
use Rattle.stl_tree.specs.declared.program.Mode.{Mode}
use Rattle.stl_tree.specs.declared.program.Op.{Op}
use Rattle.stl_tree.specs.declared.program.Op.TheVariants as op
use Rattle.stl_tree.specs.declared.program.Program.{Program}
use Rattle.stl_tree.specs.declared.raw.BlockKind.{BlockKind}
use Rattle.stl_tree.specs.declared.raw.BlockKind.TheVariants as block
use Rattle.stl_tree.specs.declared.raw.Declaration.{Declaration}
use Rattle.stl_tree.specs.declared.raw.PathStep.TheVariants as step
use Rattle.stl_tree.specs.declared.raw.RawBlock.{RawBlock}
use Rattle.stl_tree.specs.declared.raw.RawData.{RawData}
use Rattle.stl_tree.specs.declared.raw.RawDataKind.{RawDataKind}
use Rattle.stl_tree.specs.declared.raw.RawDataKind.TheVariants as data_kind
use Rattle.stl_tree.specs.declared.raw.RawInitial.{RawInitial}
use Rattle.stl_tree.specs.declared.raw.RawInstr.{RawInstr}
use Rattle.stl_tree.specs.declared.raw.RawProgram.{RawProgram}
use Rattle.stl_tree.specs.declared.raw.SymbolAddress.{SymbolAddress}
use Rattle.stl_tree.specs.declared.raw.SymbolAddress.TheVariants as address
use Rattle.stl_tree.specs.declared.raw.SymbolLine.{SymbolLine}
use Rattle.stl_statement_grammar.specs.Mnemonics.{mnemonic_named}
use Rattle.verdict_laws.proofs.StageLaws.{accepts, kept as stages_kept}
use Rattle.verdict_laws.proofs.CodeBlocks.{HoldsCode, IsCode, of_text}
use Rattle.verdict_laws.proofs.CallLaws.{call_right}
use Rattle.verdict_laws.proofs.ChainsEnd.{chains_end}
use Rattle.verdict_laws.proofs.DataBlockLaws.{HasInterface, are_blocks, comes_among, not_broken, numbers, parts_of, stays_among}
use Rattle.verdict_laws.proofs.FormalTypes.{HoldsSimpleFormals, formals_of_text}
use Rattle.verdict_laws.proofs.InstanceLaws.{HasSimpleFormals, formals_aligned, instances_are}
use Rattle.stl_rules.proofs.Lists.{all_made, no_parts, none_of_all}
use Rattle.verdict_laws.proofs.JumpLaws.{are_jumps, few, list_some}
use Rattle.verdict_laws.proofs.ProgramLaws.{IsClear, IsInterface, IsLaidOut, behind_instr, has_operand, lies_in, no_formals, opened, widths_in, widths_of_block}

-- Brackets

end_nested : (line : Line) (n : ℕ) → none_open line n ≡ [] → AreNested (record { line = line; op = op.BlockEnd } ∷ []) n
end_nested line zero e = tt
end_nested line (suc n) e = absurd cc

nested_from : (P : ℕ → Type 0) (o : Option ℕ) (n : ℕ) → o ≡ Some n → P n → WithNumber o P
nested_from P o n e h = subst (λ x. WithNumber x P) (sym e) h

-- instructions that break no rule of names and of brackets are nested
nested : (scope : OperandScope) (n : ℕ) (raws : List RawInstr) → IsClear scope → All (λ raw. instr_breaks scope raw ≡ []) raws
    → brackets_from scope.block.end_line n raws ≡ []
    → AreNested (instrs_of scope raws ++ (record { line = scope.block.end_line; op = op.BlockEnd } ∷ [])) n
nested scope n [] clear all e = end_nested scope.block.end_line n e
nested scope n (raw ∷ rest) clear all e =
    let what = mnemonic_named raw.op.mnemonic in
    let parts =
    no_parts (label_closed raw.line raw.label n ++ brackets_at raw.line what n) (brackets_from scope.block.end_line (open_then what n) rest) e in
    let own = no_parts (label_closed raw.line raw.label n) (brackets_at raw.line what n) parts.0 in
    nested_from (AreNested (instrs_of scope rest ++ (record { line = scope.block.end_line; op = op.BlockEnd } ∷ [])))
    (open_behind (instr_of scope raw rest).op n) (open_then what n)
    (behind_instr scope raw rest n clear (All-head (λ x. instr_breaks scope x ≡ []) raw rest all) own.1)
    (nested scope (open_then what n) rest clear (All-tail (λ x. instr_breaks scope x ≡ []) raw rest all) parts.1)

-- Bodies

ends_behind : (i : Instr) (rest : List Instr) → IsEnded rest → IsEnded (i ∷ rest)
ends_behind i [] h = absurd h
ends_behind i (j ∷ rest) h = h

ended : (body : List Instr) (line : Line) → IsEnded (body ++ (record { line = line; op = op.BlockEnd } ∷ []))
ended [] line = refl
ended (i ∷ rest) line = ends_behind i (rest ++ (record { line = line; op = op.BlockEnd } ∷ [])) (ended rest line)

operands : (scope : OperandScope) (at : ℕ) (raws : List RawInstr) → IsClear scope → All (λ raw. instr_breaks scope raw ≡ []) raws
    → labels_from scope.block.body at raws ≡ [] → All (λ (i : Instr). HasOperand (widths_of_block scope.block) i.op) (instrs_of scope raws)
operands scope at [] clear all e = All-nil (λ (i : Instr). HasOperand (widths_of_block scope.block) i.op)
operands scope at (raw ∷ rest) clear all e =
    let own = All-head (λ x. instr_breaks scope x ≡ []) raw rest all in
    let l = list_some scope clear at raw rest own e in
    All-cons (λ (i : Instr). HasOperand (widths_of_block scope.block) i.op) (instr_of scope raw rest) (instrs_of scope rest)
    (has_operand scope raw rest clear own l.0)
    (operands scope (at + 1) rest clear (All-tail (λ x. instr_breaks scope x ≡ []) raw rest all) l.1)

-- what holds of each instruction holds of a body, if it holds of its end
with_last : (P : Op → Type 0) (scope : OperandScope) → P op.BlockEnd → All (λ (i : Instr). P i.op) (instrs_of scope scope.block.body)
    → All (λ (i : Instr). P i.op) (body_of scope)
with_last P scope end all =
    All-append (λ (i : Instr). P i.op) (instrs_of scope scope.block.body) (record { line = scope.block.end_line; op = op.BlockEnd } ∷ []) all
    (All-cons (λ (i : Instr). P i.op) (record { line = scope.block.end_line; op = op.BlockEnd }) [] end (All-nil (λ (i : Instr). P i.op)))

operands_of : (scope : OperandScope) → IsClear scope → All (λ raw. instr_breaks scope raw ≡ []) scope.block.body
    → labels_from scope.block.body 0 scope.block.body ≡ [] → HaveOperands (widths_of_block scope.block) (body_of scope)
operands_of scope clear all e =
    with_last (HasOperand (widths_of_block scope.block)) scope tt (operands scope 0 scope.block.body clear all e)

-- the calls of a body are right
calls_from : (scope : OperandScope) (raws : List RawInstr) → IsClear scope → All HasInterface scope.text.blocks
    → All (λ raw. instr_breaks scope raw ≡ []) raws
    → All (λ (i : Instr). CallsRight (program_of scope.text) (widths_of_block scope.block) i.op) (instrs_of scope raws)
calls_from scope [] clear interfaces all = All-nil (λ (i : Instr). CallsRight (program_of scope.text) (widths_of_block scope.block) i.op)
calls_from scope (raw ∷ rest) clear interfaces all =
    All-cons (λ (i : Instr). CallsRight (program_of scope.text) (widths_of_block scope.block) i.op) (instr_of scope raw rest) (instrs_of scope rest)
    (call_right scope clear interfaces raw rest (All-head (λ x. instr_breaks scope x ≡ []) raw rest all))
    (calls_from scope rest clear interfaces (All-tail (λ x. instr_breaks scope x ≡ []) raw rest all))

calls_of : (scope : OperandScope) → IsClear scope → All HasInterface scope.text.blocks → All (λ raw. instr_breaks scope raw ≡ []) scope.block.body
    → All (λ (i : Instr). CallsRight (program_of scope.text) (widths_of_block scope.block) i.op) (body_of scope)
calls_of scope clear interfaces all =
    with_last (CallsRight (program_of scope.text) (widths_of_block scope.block)) scope tt (calls_from scope scope.block.body clear interfaces all)

-- Blocks

-- no block of some has a name
abbrev NoneNamed : BlockName → List Block → Type 0
NoneNamed called blocks = All (λ (b : Block). is_same_name b.name called ≡ false) blocks

first_fails : (blocks : List Block) (called : BlockName) → NoneNamed called blocks
    → position_or_len (λ (b : Block). is_same_name b.name called) blocks ≡ length blocks
first_fails [] called h = refl
first_fails (b ∷ rest) called h =
    by (is_same_name b.name called) (All-head (λ (x : Block). is_same_name x.name called ≡ false) b rest h)
    (first_fails rest called (All-tail (λ (x : Block). is_same_name x.name called ≡ false) b rest h))
  where
    by : (t : Bool) → t ≡ false → position_or_len (λ (x : Block). is_same_name x.name called) rest ≡ length rest
        → (if not t then 1 + position_or_len (λ (x : Block). is_same_name x.name called) rest else 0) ≡ suc (length rest)
    by true e m = absurd cc
    by false e m = omega (arith, m)

none_named : (blocks : List Block) (called : BlockName) → NoneNamed called blocks → block_named called blocks ≡ None
none_named blocks called h =
    ap (λ n. if nat_lt n (length blocks) then Some n else None) (first_fails blocks called h) ∙ past (length blocks)
  where
    past : (n : ℕ) → (if nat_lt n n then Some n else None) ≡ None
    past n = ap (λ t. if t then Some n else None) (le-ltb n n (omega arith))

-- blocks of one name are of one kind and number, where none is a data block
other_name : (before : List (BlockKind × ℕ)) (kind : BlockKind) (n : ℕ) (other : BlockKind) (m : ℕ) → is_data kind ≡ false → is_data other ≡ false
    → is_among kind n before ≡ false → is_among other m before ≡ true → is_same_name (block_name kind (Ok n)) (block_name other (Ok m)) ≡ false
other_name before kind n other m code its_code new old = by kind other code its_code new old
  where
    differ : (k : BlockKind) → is_among k n before ≡ false → is_among k m before ≡ true → (n == m) ≡ false
    differ k f t = ne_eqb n m (λ e. both_ways (is_among k n before) f (subst (λ i. is_among k i before ≡ true) (sym e) t))

    by : (a b : BlockKind) → is_data a ≡ false → is_data b ≡ false → is_among a n before ≡ false → is_among b m before ≡ true
        → is_same_name (block_name a (Ok n)) (block_name b (Ok m)) ≡ false
    by block.Db b c d f t = absurd cc
    by a block.Db c d f t = absurd cc
    by block.Ob block.Ob c d f t = differ block.Ob f t
    by block.Fc block.Fc c d f t = differ block.Fc f t
    by block.Fb block.Fb c d f t = differ block.Fb f t
    by block.Ob block.Fc c d f t = refl
    by block.Ob block.Fb c d f t = refl
    by block.Fc block.Ob c d f t = refl
    by block.Fc block.Fb c d f t = refl
    by block.Fb block.Ob c d f t = refl
    by block.Fb block.Fc c d f t = refl

-- a block with a number of its kind keeps the rules, and its calls are right
abbrev IsRight : Program → Block → Type 0
IsRight program b = IsAcceptedBlock b × BlockCallsRight program b

abbrev IsMade : Program → BlockKind → ℕ → Block → Type 0
IsMade program kind n b = (b.name ≡ block_name kind (Ok n)) × IsRight program b

-- what blocks become that stand behind these
record AreKept (program : Program) (before : List (BlockKind × ℕ)) (blocks : List Block) : Type 0 where
  kept : All (IsRight program) blocks
  apart : AreDistinct blocks
  others : (kind : BlockKind) (n : ℕ) → is_data kind ≡ false → is_among kind n before ≡ true → NoneNamed (block_name kind (Ok n)) blocks

number_is : (kind : BlockKind) (n : ℕ) → may_have kind n ≡ true → IsBlockNumber (block_name kind (Ok n))
number_is block.Ob n e = opened n e
number_is block.Db n e = opened n e
number_is block.Fc n e = leb-true n 65535 (and_parts (nat_le 0 n) (nat_le n 65535) e).1
number_is block.Fb n e = leb-true n 65535 (and_parts (nat_le 0 n) (nat_le n 65535) e).1

-- the formals that a block may name are those of its kind
widths_kept : (raw : RawBlock) (kind : BlockKind) (n : ℕ) → widths_named (block_name kind (Ok n)) (formals_of raw) ≡ widths_in raw kind
widths_kept raw block.Fc n = refl
widths_kept raw block.Fb n = refl
widths_kept raw block.Ob n = refl
widths_kept raw block.Db n = refl

may_have_formals : (raw : RawBlock) (kind : BlockKind) (n : ℕ) → raw.kind ≡ kind → MayHaveFormals (block_name kind (Ok n)) (formals_of raw)
may_have_formals raw block.Fc n is = tt
may_have_formals raw block.Fb n is = tt
may_have_formals raw block.Ob n is = no_formals raw block.Ob is refl
may_have_formals raw block.Db n is = no_formals raw block.Db is refl

few_formals : (raw : RawBlock) → formal_too_many (slice_get (formals_declared raw) most_formals) ≡ [] → length (formals_of raw) ≤ 64
few_formals raw e =
    let all = length-map (formals_declared raw)
    (λ (f : Mode × Declaration). formal_at f (component_in (instance_of raw raw.kind) (step.Name f.1.name ∷ []))) in
    by (slice_get_cases (formals_declared raw) most_formals).1 all
  where
    told : (f : Mode × Declaration) → slice_get (formals_declared raw) most_formals ≡ Some f → ⊥
    told f is = let some : formal_too_many (Some f) ≡ [] = sym (ap formal_too_many is) ∙ e in cc

    by : ((f : Mode × Declaration) × (most_formals < length (formals_declared raw)) × (slice_get (formals_declared raw) most_formals ≡ Some f)
        × (get_or (formals_declared raw) most_formals f ≡ f))
        ⊎ ((length (formals_declared raw) ≤ most_formals) × (slice_get (formals_declared raw) most_formals ≡ None))
        → length (formals_of raw) ≡ length (formals_declared raw) → length (formals_of raw) ≤ 64
    by (inl some) all = absurd (told some.0 some.2)
    by (inr none) all = omega (arith, none.0, all)

-- a text whose names, blocks and layout break no rule
record IsKnown (text : RawProgram) : Type 0 where
  dbs : All (λ (d : RawData). IsLaidOut d.kind) text.dbs
  interfaces : All HasInterface text.blocks
  types : All HasSimpleFormals text.blocks

-- a block of it
record IsOwn (raw : RawBlock) : Type 0 where
  interface : HasInterface raw
  temps : are_temporaries_refused raw ≡ false
  types : HasSimpleFormals raw

is_interface : (raw : RawBlock) → HasInterface raw → IsInterface raw
is_interface raw e = ap (λ (breaks : List Break). is_some (first_of_all breaks)) e

clear_in : (scope : OperandScope) → IsKnown scope.text → IsOwn scope.block → IsClear scope
clear_in scope known own =
    record {
      interface = is_interface scope.block own.interface;
      temps = own.temps;
      dbs = known.dbs;
      blocks = All-weaker HasInterface IsInterface is_interface scope.text.blocks known.interfaces;
    }

-- a block whose names and body break no rule
made : (scope : OperandScope) (n : ℕ) → IsKnown scope.text → IsOwn scope.block → may_have scope.block.kind n ≡ true
    → All (λ raw. instr_breaks scope raw ≡ []) scope.block.body → body_breaks scope.block ≡ []
    → IsMade (program_of scope.text) scope.block.kind n (block_with scope (block_name scope.block.kind (Ok n)))
made scope n known own e all kept =
    let raws = scope.block.body in
    let clear = clear_in scope known own in
    let both = brackets_from scope.block.end_line 0 raws ++ labels_from raws 0 raws in
    let few_raws = instruction_too_many (slice_get raws most_instructions) in
    let last = no_parts (both ++ few_raws) (formal_too_many (slice_get (formals_declared scope.block) most_formals)) kept in
    let parts = no_parts both few_raws last.0 in
    let rules = no_parts (brackets_from scope.block.end_line 0 raws) (labels_from raws 0 raws) parts.0 in
    let same : widths_of_block scope.block ≡ widths_named (block_name scope.block.kind (Ok n)) (formals_of scope.block)
    = sym (widths_kept scope.block scope.block.kind n) in (
      refl,
      (
        record {
          operands = subst (λ w. HaveOperands w (body_of scope)) same (operands_of scope clear all rules.1);
          brackets = nested scope 0 raws clear all rules.0;
          jumps = are_jumps scope clear all rules.1 rules.0;
          few = few scope parts.1;
          ends = ended (instrs_of scope raws) scope.block.end_line;
          number = number_is scope.block.kind n e;
          formals = formals_aligned scope.block own.interface own.types;
          few_formals = few_formals scope.block last.1;
          may_have = may_have_formals scope.block scope.block.kind n refl;
        },
        subst (λ w. All (λ (i : Instr). CallsRight (program_of scope.text) w i.op) (body_of scope)) same (calls_of scope clear known.interfaces all),
      ),
    )

with_one : (program : Program) (kind : BlockKind) (n : ℕ) (before : List (BlockKind × ℕ)) (b : Block) (rest : List Block) → is_data kind ≡ false
    → is_among kind n before ≡ false → IsMade program kind n b → AreKept program (with_block_number kind before (Ok n)) rest
    → AreKept program before (b ∷ rest)
with_one program kind n before b rest code new is k =
    record {
      kept = All-cons (IsRight program) b rest is.1 k.kept;
      apart = (none_named rest b.name (subst (λ i. NoneNamed i rest) (sym is.0) (k.others kind n code (comes_among kind n before))), k.apart);
      others = λ other m its_code h.
          All-cons (λ (x : Block). is_same_name x.name (block_name other (Ok m)) ≡ false) b rest
          (ap (λ i. is_same_name i (block_name other (Ok m))) is.0 ∙ other_name before kind n other m code its_code new h)
          (k.others other m its_code (stays_among other m kind before (Ok n) h));
    }

headed : (scope : OperandScope) (before : List (BlockKind × ℕ)) (r : Result ℕ Reason) (rest : List Block) → IsKnown scope.text → IsOwn scope.block
    → is_data scope.block.kind ≡ false → heading_breaks scope.block.kind scope.block.line before r ≡ []
    → All (λ raw. instr_breaks scope raw ≡ []) scope.block.body → body_breaks scope.block ≡ []
    → AreKept (program_of scope.text) (with_block_number scope.block.kind before r) rest
    → AreKept (program_of scope.text) before (block_with scope (block_name scope.block.kind r) ∷ rest)
headed scope before (Err reason) rest known own code e all closed k = absurd cc
headed scope before (Ok n) rest known own code e all closed k =
    let kind = scope.block.kind in
    let h = numbers kind scope.block.line before n e in
    with_one (program_of scope.text) kind n before (block_with scope (block_name kind (Ok n))) rest code h.1 (made scope n known own h.0 all closed) k

-- declarations that break no rule
not_refused : (limit : ℕ) (sections : List (List Declaration)) → breaks_in limit sections ≡ [] → are_refused limit sections ≡ false
not_refused limit sections e = ap (λ breaks. is_some (first_of_all breaks)) e

own_laid_out : (text : RawProgram) (line : Line) (values : List RawInitial) (kind : RawDataKind) → content_breaks text line values kind ≡ [] → IsLaidOut kind
own_laid_out text line values (data_kind.Own decls) e =
    not_refused most_in_block (decls ∷ []) (no_parts (breaks_in most_in_block (decls ∷ []))
    (if are_refused most_in_block (decls ∷ []) then [] else flat_map (initial_breaks (decls ∷ [])) values) e).0
own_laid_out text line values (data_kind.Instance name) e = tt

laid_out : (text : RawProgram) (before : List (BlockKind × ℕ)) (dbs : List RawData)
    → dbs_behind text before dbs ≡ [] → All (λ (d : RawData). IsLaidOut d.kind) dbs
laid_out text before [] e = All-nil (λ (d : RawData). IsLaidOut d.kind)
laid_out text before (d ∷ dbs) e =
    let p = parts_of text before d dbs e in
    All-cons (λ (x : RawData). IsLaidOut x.kind) d dbs (own_laid_out text d.line d.initial d.kind p.content)
    (laid_out text (with_block_number block.Db before (block_number text.symbols block.Db d.name)) dbs p.more)

-- the rules that blocks keep, one by one
record BlockParts (text : RawProgram) (before : List (BlockKind × ℕ)) (raw : RawBlock) (raws : List RawBlock) : Type 0 where
  heading : heading_breaks raw.kind raw.line before (block_number text.symbols raw.kind raw.name) ≡ []
  variables : variable_breaks raw ≡ []
  body : All (λ i. instr_breaks (record { text = text; block = raw }) i ≡ []) raw.body
  more : blocks_behind text (with_block_number raw.kind before (block_number text.symbols raw.kind raw.name)) raws ≡ []

block_parts : (text : RawProgram) (before : List (BlockKind × ℕ)) (raw : RawBlock) (raws : List RawBlock) → blocks_behind text before (raw ∷ raws) ≡ []
    → BlockParts text before raw raws
block_parts text before raw raws e =
    let scope : OperandScope = record { text = text; block = raw } in
    let number = block_number text.symbols raw.kind raw.name in
    let heading = heading_breaks raw.kind raw.line before number in
    let body = flat_map (instr_breaks scope) raw.body in
    let all = no_parts (heading ++ variable_breaks raw ++ body) (blocks_behind text (with_block_number raw.kind before number) raws) e in
    let own = no_parts (heading ++ variable_breaks raw) body all.0 in
    let head = no_parts heading (variable_breaks raw) own.0 in
    record { heading = head.0; variables = head.1; body = none_of_all (instr_breaks scope) raw.body own.1; more = all.1 }

interfaces_kept : (text : RawProgram) (before : List (BlockKind × ℕ)) (raws : List RawBlock) → blocks_behind text before raws ≡ [] → All HasInterface raws
interfaces_kept text before [] e = All-nil HasInterface
interfaces_kept text before (raw ∷ raws) e =
    let p = block_parts text before raw raws e in
    All-cons HasInterface raw raws (variables_kept raw p.variables).0
    (interfaces_kept text (with_block_number raw.kind before (block_number text.symbols raw.kind raw.name)) raws p.more)

kept : (text : RawProgram) (before : List (BlockKind × ℕ)) (raws : List RawBlock) → IsKnown text → All IsCode raws → All HasSimpleFormals raws
    → blocks_behind text before raws ≡ [] → flat_map body_breaks raws ≡ [] → AreKept (program_of text) before (map (block_of text) raws)
kept text before [] known code types e closed =
    record {
      kept = All-nil (IsRight (program_of text));
      apart = tt;
      others = λ kind n its_code h. All-nil (λ (b : Block). is_same_name b.name (block_name kind (Ok n)) ≡ false);
    }
kept text before (raw ∷ raws) known code types e closed =
    let scope : OperandScope = record { text = text; block = raw } in
    let number = block_number text.symbols raw.kind raw.name in
    let p = block_parts text before raw raws e in
    let bodies = no_parts (body_breaks raw) (flat_map body_breaks raws) (sym (flat_map-cons body_breaks raw raws) ∙ closed) in
    let variables = variables_kept raw p.variables in
    let own : IsOwn raw =
    record {
      interface = variables.0;
      temps = not_refused most_local (temporaries_of raw) variables.1;
      types = All-head HasSimpleFormals raw raws types;
    } in
    headed scope before number (map (block_of text) raws) known own
    (All-head IsCode raw raws code) p.heading p.body bodies.0
    (kept text (with_block_number raw.kind before number) raws known (All-tail IsCode raw raws code) (All-tail HasSimpleFormals raw raws types) p.more bodies.1)

-- There is a block

some_block : (text : RawProgram) (raws : List RawBlock) → none_among (map (λ (b : RawBlock). b.line) raws) ≡ [] → map (block_of text) raws ≢ []
some_block text [] none = absurd cc
some_block text (raw ∷ rest) none = λ g. cc

-- Symbols

-- the address of a symbol that breaks no rule
abbrev IsAddressed : SymbolLine → Type 0
IsAddressed line = is_address line.address ≡ true

addressed : (before : List (List ℕ)) (lines : List SymbolLine) → symbols_behind before lines ≡ [] → All IsAddressed lines
addressed before [] e = All-nil IsAddressed
addressed before (line ∷ lines) e =
    let twice : List Break = broken_if (is_named (key_of line.name) before) line.line DuplicateName in
    let outside : List Break = broken_if (not (is_address line.address)) line.line BadAddress in
    let all = no_parts (twice ++ outside) (symbols_behind (with_name (key_of line.name) before) lines) e in
    let own = no_parts twice outside all.0 in
    All-cons IsAddressed line lines (not-false (is_address line.address) (not_broken (not (is_address line.address)) line.line BadAddress own.1))
    (addressed (with_name (key_of line.name) before) lines all.1)

symbol_is : (name : List ℕ) (a : SymbolAddress) → is_address a ≡ true → IfSome (symbol_at name a) IsSymbol
symbol_is name (address.At place) e = let there = lies_in [] place e in of_area place.area there.0 there.1
  where
    of_area : (area : AreaName) → is_byte_in area place.width place.byte ≡ true → is_unaligned place.width place.bit ≡ false
        → IfSome (symbol_in name place (symbol_area area)) IsSymbol
    of_area area_name.I inside aligned = (inside, aligned)
    of_area area_name.Q inside aligned = (inside, aligned)
    of_area area_name.M inside aligned = (inside, aligned)
    of_area other inside aligned = tt
symbol_is name elsewhere e = tt

-- Programs

-- a raw program that breaks no rule has an accepted program, where its blocks are no data blocks, and their formals are
-- of elementary types
pub raw_accepted : (raw : RawProgram) → All IsCode raw.blocks → All HasSimpleFormals raw.blocks → names raw ≡ [] → bodies raw ≡ [] → chain raw ≡ []
    → IsAccepted (program_of raw)
raw_accepted raw code types named closed chained =
    let all =
    no_parts (symbols_behind [] raw.symbols ++ dbs_behind raw [] raw.dbs ++ one_too_many (slice_get raw.dbs MOST_BLOCKS))
    (blocks_behind raw [] raw.blocks) named in
    let few_dbs = no_parts (symbols_behind [] raw.symbols ++ dbs_behind raw [] raw.dbs) (one_too_many (slice_get raw.dbs MOST_BLOCKS)) all.0 in
    let dbs = no_parts (symbols_behind [] raw.symbols) (dbs_behind raw [] raw.dbs) few_dbs.0 in
    let interfaces = interfaces_kept raw [] raw.blocks all.1 in
    let known : IsKnown raw = record { dbs = laid_out raw [] raw.dbs dbs.1; interfaces = interfaces; types = types } in
    let k = kept raw [] raw.blocks known code types all.1 closed in
    let right = All-weaker (IsRight (program_of raw)) (BlockCallsRight (program_of raw)) (λ b h. h.1) (map (block_of raw) raw.blocks) k.kept in
    let graph = call_graph raw in
    let headings = map (λ (b : RawBlock). b.line) raw.blocks in
    record {
      some = some_block raw raw.blocks
          (no_parts (or_deep (cycle_breaks graph) (deep_breaks (chains graph ACTIVATIONS) headings)) (none_among headings) chained).1;
      blocks = All-weaker (IsRight (program_of raw)) IsAcceptedBlock (λ b h. h.0) (map (block_of raw) raw.blocks) k.kept;
      names = k.apart;
      dbs = are_blocks raw interfaces dbs.1 few_dbs.1;
      symbols = all_made IsAddressed IsSymbol symbol_of (λ line h. symbol_is line.name line.address h) raw.symbols (addressed [] raw.symbols dbs.0);
      instances = instances_are raw interfaces types dbs.1;
      calls = right;
      chains = chains_end raw right chained;
    }

-- a raw program that is read
record IsRead (raw : RawProgram) : Type 0 where
  code : All IsCode raw.blocks
  types : All HasSimpleFormals raw.blocks

-- the program of a raw program that is judged so keeps the rules
judged_accepted : (raw : RawProgram) (program : Program) → IsRead raw → checked_program raw ≡ Ok program → IsAccepted program
unfolding checked_program
judged_accepted raw program read e =
    let a = accepts raw (first_broken (stages raw)) program refl e in
    let on_bodies : List (List Break) = bodies raw ∷ chain raw ∷ [] in
    let on_all : List (List Break) = chain raw ∷ [] in
    let all : All IsKept (stages raw) = stages_kept (stages raw) a.none_named in
    let later : All IsKept on_bodies = All-tail IsKept (names raw) on_bodies all in
    let last : All IsKept on_all = All-tail IsKept (bodies raw) on_all later in
    let named : names raw ≡ [] = All-head IsKept (names raw) on_bodies all in
    let closed : bodies raw ≡ [] = All-head IsKept (bodies raw) on_all later in
    let chained : chain raw ≡ [] = All-head IsKept (chain raw) [] last in
    subst IsAccepted a.same (raw_accepted raw read.code read.types named closed chained)

by_raw : (r : Result RawProgram Rejection) (program : Program) → IfOk r HoldsCode → IfOk r HoldsSimpleFormals → judged_by r ≡ Ok program
    → IsAccepted program
by_raw (Ok raw) program code types e = judged_accepted raw program (record { code = code; types = types }) e
by_raw (Err refused) program code types e = absurd cc

-- and so does that of a text
pub verdict_accepted : VerdictIsAccepted
unfolding verdict
verdict_accepted bytes program e = by_raw (raw_text bytes) program (of_text bytes) (formals_of_text bytes) e
