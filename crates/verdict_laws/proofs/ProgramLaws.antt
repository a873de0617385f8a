-- The instructions of a program have their operands, and its blocks their numbers.
use Rattle.std.proofs.Common.{◌≡◌, ℕ, zero, suc, ◌<◌, ◌+◌, ◌^◌, List, [], ◌∷◌, Bool, true, false, not, if◌then◌else◌, Option, Some, None, Result, Ok, Err, slice_get, refl, sym, ap, subst, ◌∙◌, arith, ◌||◌, map}
use Rattle.std.specs.List.{find, list_all}
use Rattle.std.proofs.lemmas.List.Elements.{All-head, All-tail}
use Rattle.std.proofs.lemmas.Option.{slice_get-map}
use Rattle.s7_base.specs.Tokens.{is_same_word}
use Rattle.std.specs.Prelude.{All, IfOk, IfSome, ◌≤◌, min, nat_le, nat_lt, option_map}
use Rattle.std.proofs.Math.Nat.{le-min, min-le_right}
use Rattle.std.proofs.lemmas.Int.{ints}
use Rattle.std.proofs.lemmas.Bool.{and_parts, le-leb, leb-true, ltb-true, not-true}
use Rattle.memory_areas.specs.Access.{and_then, bits_wide, bytes_wide, is_byte_in, is_unaligned}
use Rattle.memory_areas.specs.declared.place.AreaName.{AreaName}
use Rattle.memory_areas.specs.declared.place.AreaName.TheVariants as area
use Rattle.memory_areas.specs.declared.sizes.TheConstants.{INPUT_BYTES, LOCAL_BYTES, MARKER_BYTES, OUTPUT_BYTES}
use Rattle.s7_base.specs.declared.reason.Reason.{Reason}
use Rattle.nesting_stack.specs.Entries.{most_open}
use Rattle.s7_base.specs.Broken.{rule_break}
use Rattle.s7_base.specs.declared.reason.Line.{Line}
use Rattle.s7_base.specs.declared.reason.Reason.TheVariants.{BadOperand, TooManyBrackets, UnknownName}
use Rattle.s7_base.specs.SignedNumbers.{is_over}
use Rattle.s7_base.specs.declared.check.Check.{Check}
use Rattle.s7_base.specs.declared.check.Check.TheVariants as check
use Rattle.s7_base.specs.declared.word.Width.{Width}
use Rattle.s7_base.specs.declared.word.Width.TheVariants as width
use Rattle.status_word.specs.declared.test.Test.{Test}
use Rattle.stl_tree.specs.Accepted.{HasOperand, IsBlockOpened, IsComparison, IsJumpTest, IsNumberHolder, IsNumberWidth, IsOffset, IsOperand, MayHoldPointer, Widths, is_of_pointers, is_of_result, may_hold_pointers}
use Rattle.stl_tree.specs.Accumulators.{signed_part}
use Rattle.stl_statement_grammar.specs.Constants.{constant, fits, value_in}
use Rattle.stl_statement_grammar.specs.Pointers.{is_in_reach, offset_of, value_of}
use Rattle.stl_statement_grammar.specs.Mnemonics.{Row, has_name, mnemonic_named, rows}
use Rattle.stl_rules.specs.Programs.{adding, alone, calling, calling_bare, check_op, combining, comparing, instr_of, is_compared, jumping, loading, loading_pointer, moving_pointer, on_bit, on_number, op_by, op_of, op_or_rule, op_with, or_any, or_bad_operand, opening, other_by, pointer_op, shifting, storing, storing_pointer, check_alone, gives_nothing, op_in, with_list, with_number, within}
use Rattle.stl_rules.specs.Extents.{width_of}
use Rattle.stl_rules.specs.Names.{block_found, block_number, db_numbered, is_block, is_number, may_have, symbol_named}
use Rattle.stl_rules.specs.Paths.{component_in}
use Rattle.stl_rules.specs.Calls.{call_of}
use Rattle.stl_rules.specs.Interfaces.{are_refused, are_temporaries_refused, begins_in, formal_at, formal_named, formals_in, formals_of, instance_of, interface_of, is_interface_refused, most_in_block, most_local, temporaries_of}
use Rattle.stl_rules.specs.Raw.{OperandScope, formal_operand, resolved_operand, given_component, given_formal, given_held, given_if, given_in, given_in_data, given_in_instance, given_in_interface, given_in_kind, given_number, given_open, given_path, given_place, given_pointer, given_symbol, given_variable, is_placed, may_stand, operand_at, place_of_kind}
use Rattle.stl_rules.specs.declared.resolved_operand.ResolvedOperand.{ResolvedOperand}
use Rattle.stl_rules.specs.declared.resolved_operand.ResolvedOperand.TheVariants as behind
use Rattle.stl_rules.specs.BodyRules.{brackets_at, none_open, open_then}
use Rattle.stl_rules.specs.Labels.{label_in, label_of, listed_in, most_listed, target_in}
use Rattle.stl_rules.specs.Stages.{broken_by, instr_breaks}
use Rattle.stl_tree.specs.Brackets.{none_open as none_behind, open_behind}
use Rattle.stl_tree.specs.Shifts.{most_steps}
use Rattle.stl_statement_grammar.specs.Statements.{is_in_area}
use Rattle.stl_tree.specs.WordLogic.{width_of as logic_width}
use Rattle.stl_tree.specs.declared.accumulator.LogicRow.{LogicRow}
use Rattle.stl_tree.specs.declared.accumulator.ShiftRow.{ShiftRow}
use Rattle.stl_statement_grammar.specs.declared.mnemonic.Mnemonic.{Mnemonic}
use Rattle.stl_statement_grammar.specs.declared.mnemonic.Mnemonic.TheVariants as is
use Rattle.stl_tree.specs.declared.program.Ar.{Ar}
use Rattle.stl_tree.specs.declared.program.Ar.TheVariants as ar
use Rattle.stl_tree.specs.declared.program.ArLoad.TheVariants as ar_load
use Rattle.stl_tree.specs.declared.program.ArStore.TheVariants as ar_store
use Rattle.stl_tree.specs.declared.raw.RawPointer.{RawPointer}
use Rattle.stl_tree.specs.declared.program.JumpTest.{JumpTest}
use Rattle.stl_tree.specs.declared.program.JumpTest.TheVariants as jump
use Rattle.stl_tree.specs.declared.program.LoadArg.TheVariants as load
use Rattle.stl_tree.specs.declared.program.Op.{Op}
use Rattle.stl_tree.specs.declared.program.Op.TheVariants as op
use Rattle.stl_tree.specs.declared.program.Operand.{Operand}
use Rattle.stl_tree.specs.declared.program.Operand.TheVariants.{ByMemory, ByRegister, Crossing, Direct}
use Rattle.stl_tree.specs.declared.program.BlockCall.{BlockCall}
use Rattle.stl_tree.specs.declared.program.Formal.{Formal}
use Rattle.stl_tree.specs.declared.program.Mode.{Mode}
use Rattle.stl_rules.specs.declared.layout.Component.{Component}
use Rattle.stl_tree.specs.declared.raw.BlockKind.{BlockKind}
use Rattle.stl_tree.specs.declared.raw.BlockKind.TheVariants as block
use Rattle.stl_tree.specs.declared.raw.Declaration.{Declaration}
use Rattle.stl_tree.specs.declared.raw.ElemType.{ElemType}
use Rattle.stl_tree.specs.declared.raw.PathStep.{PathStep}
use Rattle.stl_tree.specs.declared.raw.PathStep.TheVariants as step
use Rattle.stl_tree.specs.declared.raw.RawActual.{RawActual}
use Rattle.stl_tree.specs.declared.raw.RawBlock.{RawBlock}
use Rattle.stl_tree.specs.declared.raw.RawCall.{RawCall}
use Rattle.stl_tree.specs.declared.raw.RawData.{RawData}
use Rattle.stl_tree.specs.declared.raw.RawDataKind.{RawDataKind}
use Rattle.stl_tree.specs.declared.raw.RawDataKind.TheVariants as data_kind
use Rattle.stl_tree.specs.declared.raw.RawInstr.{RawInstr}
use Rattle.stl_tree.specs.declared.raw.RawName.TheVariants as raw_name
use Rattle.stl_tree.specs.declared.raw.RawOp.{RawOp}
use Rattle.stl_tree.specs.declared.raw.RawOperand.{RawOperand, RawOperand-F, out-RawOperand}
use Rattle.stl_tree.specs.declared.raw.RawOperand.TheOpen as layer
use Rattle.stl_tree.specs.declared.raw.RawPlace.{RawPlace}
use Rattle.stl_tree.specs.declared.raw.RawProgram.{RawProgram}
use Rattle.stl_tree.specs.declared.raw.SymbolAddress.{SymbolAddress}
use Rattle.stl_tree.specs.declared.raw.SymbolAddress.TheVariants as address

-- Numbers and places

-- a number that a data block may have
pub opened : (n : ℕ) → may_have block.Db n ≡ true → IsBlockOpened n
opened n e = let p = and_parts (nat_le 1 n) (nat_le n 65535) e in (leb-true 1 n p.0, leb-true n 65535 p.1)

-- a byte of any area is one that a data block may have
in_block : (a : AreaName) (w : Width) (byte : ℕ) → is_byte_in a w byte ≡ true → is_byte_in area.Db w byte ≡ true
in_block area.I w byte e = le-leb byte 65535 (omega (arith, leb-true (byte + bytes_wide w) INPUT_BYTES e))
in_block area.Q w byte e = le-leb byte 65535 (omega (arith, leb-true (byte + bytes_wide w) OUTPUT_BYTES e))
in_block area.M w byte e = le-leb byte 65535 (omega (arith, leb-true (byte + bytes_wide w) MARKER_BYTES e))
in_block area.L w byte e = le-leb byte 65535 (omega (arith, leb-true (byte + bytes_wide w) LOCAL_BYTES e))
in_block area.Db w byte e = e
in_block area.Di w byte e = e

pub lies_in : (formals : Widths) (place : RawPlace) → is_in_area place ≡ true → IsOperand formals place.width (Direct place.area place.byte place.bit)
lies_in formals place e =
    let p = and_parts (is_byte_in place.area place.width place.byte) (not (is_unaligned place.width place.bit)) e in
    (p.0, not-true (is_unaligned place.width place.bit) p.1)

in_reach : (p : RawPointer) → is_in_reach p ≡ true → IsOffset (offset_of p)
in_reach p e =
    let parts = and_parts (nat_le p.byte 65535) (nat_le p.bit 7) e in
    omega (arith, leb-true p.byte 65535 parts.0, leb-true p.bit 7 parts.1)

stands : (w : Width) (place : RawPlace) → may_stand w place ≡ true → (may_hold_pointers place.area ≡ true) × (is_byte_in place.area w place.byte ≡ true)
stands w place e = and_parts (may_hold_pointers place.area) (is_byte_in place.area w place.byte) e

-- declarations of a data block that break no rule, and the interface of a block
abbrev pub IsLaidOut : RawDataKind → Type 0
IsLaidOut (data_kind.Own decls) = are_refused most_in_block (decls ∷ []) ≡ false
IsLaidOut (data_kind.Instance name) = Unit {0}

abbrev pub IsInterface : RawBlock → Type 0
IsInterface raw = is_interface_refused raw ≡ false

-- where a block stands whose variables, and the data blocks and interfaces of whose text, break no rule
pub record IsClear (scope : OperandScope) : Type 0 where
  pub interface : IsInterface scope.block
  pub temps : are_temporaries_refused scope.block ≡ false
  pub dbs : All (λ (d : RawData). IsLaidOut d.kind) scope.text.dbs
  pub blocks : All IsInterface scope.text.blocks

-- the widths of the formals that a block names by position
abbrev pub widths_in : RawBlock → BlockKind → Widths
widths_in raw block.Fc = map (λ (f : Formal). f.width) (formals_of raw)
widths_in raw other = []

abbrev pub widths_of_block : RawBlock → Widths
widths_of_block raw = widths_in raw raw.kind

-- what is found has what all have
pub found_is : {X : Type 0} (P : X → Type 0) (test : X → Bool) (xs : List X) → All P xs → IfSome (find test xs) P
found_is P test [] all = tt
found_is P test (x ∷ xs) all = by (test x) (All-head P x xs all) (found_is P test xs (All-tail P x xs all))
  where
    by : (b : Bool) → P x → IfSome (find test xs) P → IfSome (if b then Some x else find test xs) P
    by true h more = h
    by false h more = more

-- Kinds of instructions

-- what an instruction asks of the open brackets; JU, jump lists and calls are apart
pub data Turn : Type 0 where
  opens : Turn
  closes : Turn
  keeps : Turn
  ends : Turn
  always : Turn
  lists : Turn
  calls : Turn

abbrev pub turn_of : Op → Turn
turn_of (op.Bracket c) = opens
turn_of op.Close = closes
turn_of (op.Jump jump.Always to) = always
turn_of (op.Jump t to) = ends
turn_of (op.Loop to) = ends
turn_of (op.JumpList count to) = lists
turn_of op.BlockEnd = ends
turn_of op.BlockEndIf = ends
turn_of (op.Call c) = calls
turn_of (op.CallIf c) = calls
turn_of other = keeps

abbrev pub turn_by : Option Mnemonic → Turn
turn_by (Some (is.Bracket c)) = opens
turn_by (Some is.Close) = closes
turn_by (Some (is.Jump jump.Always)) = always
turn_by (Some (is.Jump t)) = ends
turn_by (Some is.Loop) = ends
turn_by (Some is.JumpList) = lists
turn_by (Some is.BlockEnd) = ends
turn_by (Some is.BlockEndIf) = ends
turn_by (Some is.Call) = calls
turn_by (Some is.CallAlone) = calls
turn_by (Some is.CallIf) = calls
turn_by other = keeps

-- a jump of the table that tests CC1 and CC0 does so for a result
abbrev pub is_of_results : Mnemonic → Bool
is_of_results (is.Jump (jump.Result t)) = is_of_result t
is_of_results other = true

abbrev pub IsOfResults : Mnemonic → Type 0
IsOfResults what = is_of_results what ≡ true

results_found : (test : Row → Bool) (table : List Row) → list_all (λ (row : Row). is_of_results row.what) table ≡ true
    → IfSome (option_map (λ (row : Row). row.what) (find test table)) IsOfResults
results_found test [] e = tt
results_found test (row ∷ table) e =
    let parts = and_parts (is_of_results row.what) (list_all (λ (other : Row). is_of_results other.what) table) e in
    by (test row) parts.0 (results_found test table parts.1)
  where
    by : (b : Bool) → is_of_results row.what ≡ true → IfSome (option_map (λ (other : Row). other.what) (find test table)) IsOfResults
        → IfSome (option_map (λ (other : Row). other.what) (if b then Some row else find test table)) IsOfResults
    by true h more = h
    by false h more = more

pub named_results : (name : List ℕ) → IfSome (mnemonic_named name) IsOfResults
unfolding mnemonic_named
named_results name = results_found (has_name name) rows refl

-- a part is in its range
word_fits : (n : ℕ) → is_over 16 (signed_part width.Word n) ≡ false
word_fits n = grind (arith, ints)

dword_fits : (n : ℕ) → is_over 32 (signed_part width.Dword n) ≡ false
dword_fits n = grind (arith, ints)

compared_is : (t : Test) (w : Width) → is_compared t w ≡ true → IsComparison t w
compared_is t width.Word e = e
compared_is t width.Dword e = e
compared_is t width.Bit e = absurd cc
compared_is t width.Byte e = absurd cc

-- Operands and instructions, where jumps aim at such positions

module _ (formals : Widths) (aim : ℕ → Type 0) where
  abbrev pub IsGiven : ResolvedOperand → Type 0
  IsGiven behind.Unjudged = ⊥
  IsGiven (behind.At o w) = IsOperand formals w o
  IsGiven (behind.Db n) = IsBlockOpened n
  IsGiven (behind.Di n) = IsBlockOpened n
  IsGiven (behind.DbBy o) = IsNumberHolder formals o
  IsGiven (behind.DiBy o) = IsNumberHolder formals o
  IsGiven (behind.Target to) = aim to
  IsGiven more = Unit {0}

  placed_is : (place : RawPlace) (number : Option ℕ) → is_placed place number ≡ true → IsGiven (operand_at place number)
  placed_is place None e = lies_in formals place e
  placed_is place (Some n) e =
      let p = and_parts (is_in_area place) (may_have block.Db n) e in
      let there = lies_in formals place p.0 in
      (opened n p.1, in_block place.area place.width place.byte there.0, there.1)

  place_is : (place : RawPlace) → IsGiven (given_place place)
  place_is place = by (is_placed place place.block) refl
    where
      by : (b : Bool) → is_placed place place.block ≡ b → IsGiven (if b then operand_at place place.block else behind.Outside place.area place.width)
      by true e = placed_is place place.block e
      by false e = tt

  if_is : (b : Bool) (name : AreaName) (w : Width) (o : Operand) → (b ≡ true → IsOperand formals w o) → IsGiven (given_if b name w o)
  if_is true name w o h = h refl
  if_is false name w o h = tt

  pointer_is : (p : RawPointer) → IsGiven (given_pointer p)
  pointer_is p = by (is_in_reach p)
    where
      by : (b : Bool) → IsGiven (if b then behind.Constant (constant width.Dword (value_of p)) else behind.NoPointer)
      by true = tt
      by false = tt

  held_is : (make : Operand → ResolvedOperand) → ((o : Operand) → IsNumberHolder formals o → IsGiven (make o))
      → (place : RawPlace) → IsGiven (given_held make place)
  held_is make h place = by (may_stand width.Word place) refl
    where
      by : (b : Bool) → may_stand width.Word place ≡ b → IsGiven (if b then make (Direct place.area place.byte 0) else behind.NoNumber)
      by true e = let there = stands width.Word place e in h (Direct place.area place.byte 0) (there.0, (there.1, refl))
      by false e = tt

  symbol_is : (o : Option SymbolAddress) → IsGiven (given_symbol o)
  symbol_is (Some (address.At place)) = place_is place
  symbol_is other = tt

  kind_is : (number : Option ℕ) (name : AreaName) (at : Component) (o : Option ElemType) → IsGiven (place_of_kind number name at o)
  kind_is number name at None = tt
  kind_is number name at (Some e) =
      place_is (record { block = number; area = name; width = width_of e; byte = at.byte; bit = at.bit })

  component_is : (number : Option ℕ) (name : AreaName) (o : Option Component) → IsGiven (given_component number name o)
  component_is number name None = tt
  component_is number name (Some at) = kind_is number name at at.kind

  unless_refused : (b : Bool) (g : ResolvedOperand) → b ≡ false → IsGiven g → IsGiven (if b then behind.Unjudged else g)
  unless_refused true g e h = absurd cc
  unless_refused false g e h = h

  path_is : (limit : ℕ) (number : Option ℕ) (name : AreaName) (decls : List Declaration) (path : List PathStep)
      → are_refused limit (decls ∷ []) ≡ false → IsGiven (given_path limit number name (decls ∷ []) path)
  path_is limit number name decls path kept =
      unless_refused (are_refused limit (decls ∷ [])) (given_component number name (component_in (decls ∷ []) path)) kept
      (component_is number name (component_in (decls ∷ []) path))

  in_instance_is : (n : ℕ) (path : List PathStep) (o : Option RawBlock) → IfSome o IsInterface → IsGiven (given_in_instance n path o)
  in_instance_is n path None h = tt
  in_instance_is n path (Some raw) h =
      unless_refused (is_interface_refused raw) (given_component (Some n) area.Db (component_in (interface_of raw) path)) h
      (component_is (Some n) area.Db (component_in (interface_of raw) path))

  block_is : (text : RawProgram) (r : Result ℕ Reason) → All IsInterface text.blocks → IfSome (block_found text block.Fb r) IsInterface
  block_is text (Ok n) all = found_is IsInterface (is_block text.symbols block.Fb n) text.blocks all
  block_is text (Err reason) all = tt

  in_kind_is : (text : RawProgram) (n : ℕ) (path : List PathStep) (kind : RawDataKind) → IsLaidOut kind → All IsInterface text.blocks
      → IsGiven (given_in_kind text n path kind)
  in_kind_is text n path (data_kind.Own decls) h all = path_is most_in_block (Some n) area.Db decls path h
  in_kind_is text n path (data_kind.Instance name) h all =
      let found = block_number text.symbols block.Fb name in
      in_instance_is n path (block_found text block.Fb found) (block_is text found all)

  in_data_is : (text : RawProgram) (n : ℕ) (path : List PathStep) (o : Option RawData) → IfSome o (λ (d : RawData). IsLaidOut d.kind)
      → All IsInterface text.blocks → IsGiven (given_in_data text n path o)
  in_data_is text n path None h all = tt
  in_data_is text n path (Some d) h all = in_kind_is text n path d.kind h all

  number_is : (make : ℕ → ResolvedOperand) → ((n : ℕ) → IsGiven (make n)) → (r : Result ℕ Reason) → IsGiven (given_number make r)
  number_is make h (Ok n) = h n
  number_is make h (Err UnknownName) = tt
  number_is make h (Err reason) = tt

  open_is : (make : ℕ → ResolvedOperand) → ((n : ℕ) → IsBlockOpened n → IsGiven (make n)) → (n : ℕ) → IsGiven (given_open make n)
  open_is make h n = by (may_have block.Db n) refl
    where
      by : (b : Bool) → may_have block.Db n ≡ b → IsGiven (if b then make n else behind.NoNumber)
      by true e = h n (opened n e)
      by false e = tt

  -- an instruction has its operand, and a jump aims so; how many JU a jump list has is not part of it
  abbrev pub HasPart : Op → Type 0
  HasPart (op.Jump t to) = IsJumpTest t × aim to
  HasPart (op.Loop to) = aim to
  HasPart (op.JumpList count to) = aim to
  HasPart other = HasOperand formals other

  -- an instruction has its operand, and is of this kind
  abbrev pub Is : Turn → Op → Type 0
  Is turn o = HasPart o × (turn_of o ≡ turn)

  -- one that keeps them
  abbrev Fits : Op → Type 0
  Fits o = Is keeps o

  abbrev MayBe : Option Op → Type 0
  MayBe o = IfSome o Fits

  alone_by : (turn : Turn) (o : Op) → Is turn o → (g : ResolvedOperand) → IfSome (alone o g) (Is turn)
  alone_by turn o h behind.Nothing = h
  alone_by turn o h more = tt

  alone_is : (o : Op) → Fits o → (g : ResolvedOperand) → MayBe (alone o g)
  alone_is o h g = alone_by keeps o h g

  on_bit_is : (o : Operand → Op) → ((x : Operand) → IsOperand formals width.Bit x → Fits (o x)) → (g : ResolvedOperand) → IsGiven g → MayBe (on_bit o g)
  on_bit_is o h (behind.At x width.Bit) k = h x k
  on_bit_is o h more k = tt

  unchecked_is : (c : Check) → MayBe (check_alone c)
  unchecked_is check.O = (tt, refl)
  unchecked_is more = tt

  checked_is : (c : Check) (g : ResolvedOperand) → IsGiven g → MayBe (check_op c g)
  checked_is c behind.Nothing h = unchecked_is c
  checked_is c (behind.At x width.Bit) h = (h, refl)
  checked_is c (behind.Flag t) h = (tt, refl)
  checked_is c more h = tt

  -- a width that is one of a number, or is not
  on_number_is : (o : Operand → Width → Op) → ((x : Operand) (w : Width) → IsNumberWidth w → IsOperand formals w x → Fits (o x w))
      → (x : Operand) (w : Width) → IsOperand formals w x → MayBe (on_number o x w)
  on_number_is o h x width.Bit k = tt
  on_number_is o h x width.Byte k = h x width.Byte tt k
  on_number_is o h x width.Word k = h x width.Word tt k
  on_number_is o h x width.Dword k = h x width.Dword tt k

  within_is : (bits value : ℕ) (o : ℕ → Op) → (value < 2 ^ bits → Fits (o value)) → MayBe (option_map o (within bits value))
  within_is bits value o h = by (nat_lt value (2 ^ bits)) refl
    where
      by : (b : Bool) → nat_lt value (2 ^ bits) ≡ b → MayBe (option_map o (if b then Some value else None))
      by true e = h (ltb-true value (2 ^ bits) e)
      by false e = tt

  loading_is : (g : ResolvedOperand) → IsGiven g → MayBe (loading g)
  loading_is (behind.At x w) k = on_number_is (λ y u. op.Load (load.At y u)) (λ y u n i. ((n, i), refl)) x w k
  loading_is behind.Stw k = (tt, refl)
  loading_is behind.DbNo k = (tt, refl)
  loading_is behind.DiNo k = (tt, refl)
  loading_is (behind.Constant c) k = within_is 32 c.value (λ value. op.Load (load.Constant value)) (λ h. (h, refl))
  loading_is more k = tt

  storing_is : (g : ResolvedOperand) → IsGiven g → MayBe (storing g)
  storing_is (behind.At x w) k = on_number_is op.Transfer (λ y u n i. ((n, i), refl)) x w k
  storing_is behind.Stw k = (tt, refl)
  storing_is more k = tt

  adding_is : (g : ResolvedOperand) → MayBe (adding g)
  adding_is (behind.Constant c) = by c.signed
    where
      by : (b : Bool) → Fits (if b then op.AddWord (signed_part width.Word c.value) else op.AddDword (signed_part width.Dword c.value))
      by true = (word_fits c.value, refl)
      by false = (dword_fits c.value, refl)
  adding_is more = tt

  comparing_is : (t : Test) (w : Width) (g : ResolvedOperand) → MayBe (comparing t w g)
  comparing_is t w behind.Nothing = by (is_compared t w) refl
    where
      by : (b : Bool) → is_compared t w ≡ b → MayBe (if b then Some (op.Compare t w) else None)
      by true e = (compared_is t w e, refl)
      by false e = tt
  comparing_is t w more = tt

  with_number_is : (o : ℕ → Op) → ((n : ℕ) → n < 2 ^ 8 → Fits (o n)) → (g : ResolvedOperand) → MayBe (with_number o g)
  with_number_is o h (behind.Constant c) = within_is 8 c.value o (λ k. h c.value k)
  with_number_is o h more = tt

  shifting_is : (row : ShiftRow) (g : ResolvedOperand) → MayBe (shifting row g)
  shifting_is row behind.Nothing = (tt, refl)
  shifting_is row (behind.Constant c) = by (nat_le c.value (most_steps row)) refl
    where
      by : (b : Bool) → nat_le c.value (most_steps row) ≡ b → MayBe (if b then Some (op.Shift row (Some c.value)) else None)
      by true e = (leb-true c.value (most_steps row) e, refl)
      by false e = tt
  shifting_is row more = tt

  pointed_is : (o : Operand → Op) → ((x : Operand) → MayHoldPointer formals width.Dword x → Fits (o x))
      → (x : Operand) (w : Width) → IsOperand formals w x → MayBe (pointer_op o x w)
  pointed_is o h x width.Dword k = by (is_of_pointers x) refl
    where
      by : (b : Bool) → is_of_pointers x ≡ b → MayBe (if b then Some (o x) else None)
      by true e = h x (e, k)
      by false e = tt
  pointed_is o h x width.Bit k = tt
  pointed_is o h x width.Byte k = tt
  pointed_is o h x width.Word k = tt

  other_is : (o : Ar → Op) → Fits (o ar.One) → (r : Ar) → MayBe (other_by o r)
  other_is o h ar.One = h
  other_is o h ar.Two = tt

  loading_pointer_is : (r : Ar) (g : ResolvedOperand) → IsGiven g → MayBe (loading_pointer r g)
  loading_pointer_is r behind.Nothing k = (tt, refl)
  loading_pointer_is r (behind.Constant c) k = within_is 32 c.value (λ p. op.LoadAr r (ar_load.Constant p)) (λ h. (h, refl))
  loading_pointer_is r (behind.At x w) k = pointed_is (λ y. op.LoadAr r (ar_load.At y)) (λ y h. (h, refl)) x w k
  loading_pointer_is r behind.OtherAr k = other_is (λ a. op.LoadAr a ar_load.OtherAr) (refl, refl) r
  loading_pointer_is r more k = tt

  storing_pointer_is : (r : Ar) (g : ResolvedOperand) → IsGiven g → MayBe (storing_pointer r g)
  storing_pointer_is r behind.Nothing k = (tt, refl)
  storing_pointer_is r (behind.At x w) k = pointed_is (λ y. op.StoreAr r (ar_store.At y)) (λ y h. (h, refl)) x w k
  storing_pointer_is r behind.OtherAr k = other_is (λ a. op.StoreAr a ar_store.OtherAr) (refl, refl) r
  storing_pointer_is r more k = tt

  moving_pointer_is : (r : Ar) (g : ResolvedOperand) → MayBe (moving_pointer r g)
  moving_pointer_is r behind.Nothing = (tt, refl)
  moving_pointer_is r (behind.Constant c) = within_is 19 c.value (λ offset. op.AddAr r (Some offset)) (λ h. (h, refl))
  moving_pointer_is r more = tt

  opening_is : (g : ResolvedOperand) → IsGiven g → MayBe (opening g)
  opening_is (behind.Db n) h = (h, refl)
  opening_is (behind.Di n) h = (h, refl)
  opening_is (behind.DbBy o) h = (h, refl)
  opening_is (behind.DiBy o) h = (h, refl)
  opening_is more h = tt

  combining_is : (row : LogicRow) (g : ResolvedOperand) → MayBe (combining row g)
  combining_is row behind.Nothing = (tt, refl)
  combining_is row (behind.Constant c) = by (fits (logic_width row) c)
    where
      value : ℕ
      value = value_in (logic_width row) c

      by : (b : Bool) → MayBe (if b then option_map (λ v. op.Logic row (Some v)) (within (bits_wide (logic_width row)) value) else None)
      by true = within_is (bits_wide (logic_width row)) value (λ v. op.Logic row (Some v)) (λ h. (h, refl))
      by false = tt
  combining_is row more = tt

  jumping_is : (turn : Turn) (o : ℕ → Op) → ((to : ℕ) → aim to → Is turn (o to)) → (g : ResolvedOperand) → IsGiven g → IfSome (jumping o g) (Is turn)
  jumping_is turn o k (behind.Target to) h = k to h
  jumping_is turn o k more h = tt

  with_is : (what : Mnemonic) (g : ResolvedOperand) → IsGiven g → is_of_results what ≡ true → IfSome (op_with what g) (Is (turn_by (Some what)))
  with_is (is.Check c) g h good = checked_is c g h
  with_is (is.Bracket c) g h good = alone_by opens (op.Bracket c) (tt, refl) g
  with_is is.Close g h good = alone_by closes op.Close (tt, refl) g
  with_is is.Assign g h good = on_bit_is op.Assign (λ x k. (k, refl)) g h
  with_is is.Set g h good = on_bit_is op.Set (λ x k. (k, refl)) g h
  with_is is.Reset g h good = on_bit_is op.Reset (λ x k. (k, refl)) g h
  with_is is.SetRlo g h good = alone_is op.SetRlo (tt, refl) g
  with_is is.ClearRlo g h good = alone_is op.ClearRlo (tt, refl) g
  with_is is.NotRlo g h good = alone_is op.NotRlo (tt, refl) g
  with_is is.Save g h good = alone_is op.Save (tt, refl) g
  with_is is.EdgeUp g h good = on_bit_is op.EdgeUp (λ x k. (k, refl)) g h
  with_is is.EdgeDown g h good = on_bit_is op.EdgeDown (λ x k. (k, refl)) g h
  with_is is.Load g h good = loading_is g h
  with_is is.Transfer g h good = storing_is g h
  with_is (is.Arith row) g h good = alone_is (op.Arith row) (tt, refl) g
  with_is (is.Compare t w) g h good = comparing_is t w g
  with_is is.Plus g h good = adding_is g
  with_is is.Inc g h good = with_number_is op.Inc (λ n k. (k, refl)) g
  with_is is.Dec g h good = with_number_is op.Dec (λ n k. (k, refl)) g
  with_is (is.Shift row) g h good = shifting_is row g
  with_is is.Rlda g h good = alone_is op.Rlda (tt, refl) g
  with_is is.Rrda g h good = alone_is op.Rrda (tt, refl) g
  with_is (is.Logic row) g h good = combining_is row g
  with_is (is.Unary row) g h good = alone_is (op.Unary row) (tt, refl) g
  with_is is.Tak g h good = alone_is op.Tak (tt, refl) g
  with_is is.Push g h good = alone_is op.Push (tt, refl) g
  with_is is.Pop g h good = alone_is op.Pop (tt, refl) g
  with_is (is.LoadAr r) g h good = loading_pointer_is r g h
  with_is (is.StoreAr r) g h good = storing_pointer_is r g h
  with_is is.ExchangeAr g h good = alone_is op.ExchangeAr (tt, refl) g
  with_is (is.AddAr r) g h good = moving_pointer_is r g
  with_is is.Open g h good = opening_is g h
  with_is is.ExchangeDb g h good = alone_is op.ExchangeDb (tt, refl) g
  with_is is.Nop g h good = with_number_is (λ n. op.Nop) (λ n k. (tt, refl)) g
  with_is (is.Jump jump.Always) g h good = jumping_is always (op.Jump jump.Always) (λ to k. ((tt, k), refl)) g h
  with_is (is.Jump (jump.Rlo b)) g h good = jumping_is ends (op.Jump (jump.Rlo b)) (λ to k. ((tt, k), refl)) g h
  with_is (is.Jump (jump.RloSaved b)) g h good = jumping_is ends (op.Jump (jump.RloSaved b)) (λ to k. ((tt, k), refl)) g h
  with_is (is.Jump (jump.Br b)) g h good = jumping_is ends (op.Jump (jump.Br b)) (λ to k. ((tt, k), refl)) g h
  with_is (is.Jump jump.Overflow) g h good = jumping_is ends (op.Jump jump.Overflow) (λ to k. ((tt, k), refl)) g h
  with_is (is.Jump jump.StoredOverflow) g h good = jumping_is ends (op.Jump jump.StoredOverflow) (λ to k. ((tt, k), refl)) g h
  with_is (is.Jump (jump.Result t)) g h good = jumping_is ends (op.Jump (jump.Result t)) (λ to k. ((good, k), refl)) g h
  with_is is.Loop g h good = jumping_is ends op.Loop (λ to k. (k, refl)) g h
  with_is is.JumpList g h good = jumping_is lists (op.JumpList 0) (λ to k. (k, refl)) g h
  with_is is.BlockEnd g h good = alone_by ends op.BlockEnd (tt, refl) g
  with_is is.BlockEndIf g h good = alone_by ends op.BlockEndIf (tt, refl) g
  with_is is.TimerOrCounter g h good = tt
  with_is is.Call g h good = tt
  with_is is.CallAlone g h good = tt
  with_is is.CallIf g h good = tt
  with_is (is.LeftOut kind) g h good = tt

  by_is : (what : Option Mnemonic) (g : ResolvedOperand) → IsGiven g → IfSome what IsOfResults → IfSome (op_by what g) (Is (turn_by what))
  by_is None g h good = tt
  by_is (Some what) g h good = with_is what g h good

  or_bad_is : (turn : Turn) (o : Option Op) → IfSome o (Is turn) → IfOk (or_bad_operand o) (Is turn)
  or_bad_is turn None h = tt
  or_bad_is turn (Some o) h = h

  pub or_rule_is : (what : Option Mnemonic) (g : ResolvedOperand) → IsGiven g → IfSome what IsOfResults → IfOk (op_or_rule what g) (Is (turn_by what))
  or_rule_is what behind.Unknown h good = tt
  or_rule_is what behind.Unfit h good = tt
  or_rule_is what behind.NoNumber h good = tt
  or_rule_is what behind.Unjudged h good = absurd h
  or_rule_is what (behind.Outside name w) h good = tt
  or_rule_is what behind.NoPointer h good = tt
  or_rule_is what g h good = or_bad_is (turn_by what) (op_by what g) (by_is what g h good)

-- Variables

-- a formal that is found stands at its place
formal_at_place : (k : ℕ) (all : List Formal) (name : List ℕ)
    → IfSome (formal_named k all name) (λ (p : ℕ × Formal). (n : ℕ) × (p.0 ≡ k + n) × (slice_get all n ≡ Some p.1))
formal_at_place k [] name = tt
formal_at_place k (f ∷ all) name = by (is_same_word f.name name) (formal_at_place (k + 1) all name)
  where
    later : (o : Option (ℕ × Formal)) → IfSome o (λ (p : ℕ × Formal). (n : ℕ) × (p.0 ≡ k + 1 + n) × (slice_get all n ≡ Some p.1))
        → IfSome o (λ (p : ℕ × Formal). (n : ℕ) × (p.0 ≡ k + n) × (slice_get (f ∷ all) n ≡ Some p.1))
    later None h = tt
    later (Some p) h = (suc h.0, omega (arith, h.1), h.2)

    by : (b : Bool) → IfSome (formal_named (k + 1) all name) (λ (p : ℕ × Formal). (n : ℕ) × (p.0 ≡ k + 1 + n) × (slice_get all n ≡ Some p.1))
        → IfSome (if b then Some (k, f) else formal_named (k + 1) all name) (λ (p : ℕ × Formal). (n : ℕ) × (p.0 ≡ k + n) × (slice_get (f ∷ all) n ≡ Some p.1))
    by true h = (0, omega arith, refl)
    by false h = later (formal_named (k + 1) all name) h

formal_is : (aim : ℕ → Type 0) (all : List Formal) (name : List ℕ)
    → IsGiven (map (λ (f : Formal). f.width) all) aim (formal_operand (formal_named 0 all name))
formal_is aim all name = by (formal_named 0 all name) (formal_at_place 0 all name)
  where
    by : (o : Option (ℕ × Formal)) → IfSome o (λ (p : ℕ × Formal). (n : ℕ) × (p.0 ≡ 0 + n) × (slice_get all n ≡ Some p.1))
        → IsGiven (map (λ (f : Formal). f.width) all) aim (formal_operand o)
    by None h = tt
    by (Some p) h =
        let place : p.0 ≡ h.0 = omega (arith, h.1) in
        ap (slice_get (map (λ (f : Formal). f.width) all)) place ∙ slice_get-map (λ (f : Formal). f.width) all h.0
        ∙ ap (option_map (λ (f : Formal). f.width)) h.2

given_formal_is : (aim : ℕ → Type 0) (all : List Formal) (path : List PathStep)
    → IsGiven (map (λ (f : Formal). f.width) all) aim (given_formal all path)
given_formal_is aim all (step.Name name ∷ []) = formal_is aim all name
given_formal_is aim all other = tt

no_formal_is : (aim : ℕ → Type 0) (path : List PathStep) → IsGiven [] aim (given_formal [] path)
no_formal_is aim (step.Name name ∷ []) = tt
no_formal_is aim other = tt

-- a block that is no function and no function block has no formals
abbrev pub is_formless : BlockKind → Bool
is_formless block.Fc = false
is_formless block.Fb = false
is_formless other = true

formless : (raw : RawBlock) (kind : BlockKind) → is_formless kind ≡ true → formals_in raw kind ≡ []
formless raw block.Ob e = refl
formless raw block.Db e = refl
formless raw block.Fc e = absurd cc
formless raw block.Fb e = absurd cc

pub no_formals : (raw : RawBlock) (kind : BlockKind) → raw.kind ≡ kind → is_formless kind ≡ true → formals_of raw ≡ []
no_formals raw kind is e =
    ap (map (λ (f : Mode × Declaration). formal_at f (component_in (instance_of raw raw.kind) (step.Name f.1.name ∷ []))))
    (ap (formals_in raw) is ∙ formless raw kind e)

-- a path into the interface of a block, by its kind
interface_is : (aim : ℕ → Type 0) (raw : RawBlock) (kind : BlockKind) (path : List PathStep) → raw.kind ≡ kind
    → IsGiven (widths_in raw kind) aim (given_in_interface raw kind path)
interface_is aim raw block.Fb path e = component_is [] aim None area.Di (component_in (interface_of raw) path)
interface_is aim raw block.Fc path e = given_formal_is aim (formals_of raw) path
interface_is aim raw block.Ob path e = subst (λ all. IsGiven [] aim (given_formal all path)) (sym (no_formals raw block.Ob e refl)) (no_formal_is aim path)
interface_is aim raw block.Db path e = subst (λ all. IsGiven [] aim (given_formal all path)) (sym (no_formals raw block.Db e refl)) (no_formal_is aim path)

variable_is : (aim : ℕ → Type 0) (raw : RawBlock) (path : List PathStep) → IsInterface raw → are_temporaries_refused raw ≡ false
    → IsGiven (widths_of_block raw) aim (given_variable raw path)
variable_is aim raw path whole temps =
    by (begins_in (interface_of raw) path) (begins_in (temporaries_of raw) path) (is_interface_refused raw) (are_temporaries_refused raw) whole temps
  where
    by : (p q r s : Bool) → r ≡ false → s ≡ false
        → IsGiven (widths_of_block raw) aim
        (if p then (if r then behind.Unjudged else given_in_interface raw raw.kind path)
        else if q then given_path most_local None area.L (temporaries_of raw) path
        else if r || s then behind.Unjudged
        else behind.Unknown)
    by true q false false e f = interface_is aim raw raw.kind path refl
    by false true false false e f = path_is (widths_of_block raw) aim most_local None area.L raw.temps path temps
    by false false false false e f = tt
    by p q true s e f = absurd cc
    by p q r true e f = absurd cc

-- Instructions of a text

-- the position of a label, at which jumps to it aim
abbrev pub AimsAt : OperandScope → Option (List ℕ) → ℕ → Type 0
AimsAt scope None to = ⊥
AimsAt scope (Some label) to = to ≡ target_in scope.block.body label

layer_is : (scope : OperandScope) (o : RawOperand-F RawOperand RawActual RawCall) → IsClear scope
    → IsGiven (widths_of_block scope.block) (AimsAt scope (label_in o)) (given_in scope o)
layer_is scope (layer.At place) clear = place_is (widths_of_block scope.block) (AimsAt scope None) place
layer_is scope (layer.Named name) clear = symbol_is (widths_of_block scope.block) (AimsAt scope None) (symbol_named scope.text.symbols name)
layer_is scope (layer.InBlock name path) clear =
    number_is (widths_of_block scope.block) (AimsAt scope None) (λ n. given_in_data scope.text n path (db_numbered scope.text.symbols scope.text.dbs n))
    (λ n. in_data_is (widths_of_block scope.block) (AimsAt scope None) scope.text n path (db_numbered scope.text.symbols scope.text.dbs n)
    (found_is (λ (d : RawData). IsLaidOut d.kind)
    (λ (d : RawData). is_number n (block_number scope.text.symbols block.Db d.name)) scope.text.dbs clear.dbs) clear.blocks)
    (block_number scope.text.symbols block.Db (raw_name.Name name))
layer_is scope (layer.Local path) clear = variable_is (AimsAt scope None) scope.block path clear.interface clear.temps
layer_is scope (layer.OpenDb name) clear =
    number_is (widths_of_block scope.block) (AimsAt scope None) (given_open (λ n. behind.Db n))
    (open_is (widths_of_block scope.block) (AimsAt scope None) (λ n. behind.Db n) (λ n h. h)) (block_number scope.text.symbols block.Db name)
layer_is scope (layer.OpenDi name) clear =
    number_is (widths_of_block scope.block) (AimsAt scope None) (given_open (λ n. behind.Di n))
    (open_is (widths_of_block scope.block) (AimsAt scope None) (λ n. behind.Di n) (λ n h. h)) (block_number scope.text.symbols block.Db name)
layer_is scope (layer.Pointer p) clear = pointer_is (widths_of_block scope.block) (AimsAt scope None) p
layer_is scope (layer.ByMemory name w place) clear =
    if_is (widths_of_block scope.block) (AimsAt scope None) (may_stand width.Dword place) name w
    (ByMemory name place.area place.byte) (λ e. stands width.Dword place e)
layer_is scope (layer.ByRegister name w r p) clear =
    if_is (widths_of_block scope.block) (AimsAt scope None) (is_in_reach p) name w (ByRegister name r (offset_of p)) (λ e. in_reach p e)
layer_is scope (layer.Crossing w r p) clear =
    if_is (widths_of_block scope.block) (AimsAt scope None) (is_in_reach p) area.M w (Crossing r (offset_of p)) (λ e. in_reach p e)
layer_is scope (layer.OpenDbBy place) clear = held_is (widths_of_block scope.block) (AimsAt scope None) (λ o. behind.DbBy o) (λ o h. h) place
layer_is scope (layer.OpenDiBy place) clear = held_is (widths_of_block scope.block) (AimsAt scope None) (λ o. behind.DiBy o) (λ o h. h) place
layer_is scope (layer.Label label) clear = refl
layer_is scope more clear = tt

pub given_is : (scope : OperandScope) (o : RawOperand) → IsClear scope
    → IsGiven (widths_of_block scope.block) (AimsAt scope (label_of o)) (resolved_operand scope o)
unfolding resolved_operand label_of
given_is scope o clear = layer_is scope (out-RawOperand o) clear

-- a call gives no operand, and asks for closed brackets
bare_is : (scope : OperandScope) (label : Option (List ℕ)) (make : BlockCall → Op) (call : BlockCall)
    → Is (widths_of_block scope.block) (AimsAt scope label) calls (make call)
    → IfOk (calling_bare make call) (Is (widths_of_block scope.block) (AimsAt scope label) calls)
bare_is scope label make call h = by (gives_nothing call)
  where
    by : (b : Bool) → IfOk (if b then Ok (make call) else Err BadOperand) (Is (widths_of_block scope.block) (AimsAt scope label) calls)
    by true = h
    by false = tt

calling_is : (scope : OperandScope) (label : Option (List ℕ)) (what : Option Mnemonic) (call : BlockCall)
    → IfOk (calling what call) (Is (widths_of_block scope.block) (AimsAt scope label) (turn_by what))
calling_is scope label (Some is.Call) call = (tt, refl)
calling_is scope label (Some is.CallAlone) call = bare_is scope label op.Call call (tt, refl)
calling_is scope label (Some is.CallIf) call = bare_is scope label op.CallIf call (tt, refl)
calling_is scope label other call = tt

called_is : (scope : OperandScope) (label : Option (List ℕ)) (what : Option Mnemonic) (r : Result BlockCall Reason)
    → IfOk (and_then r (calling what)) (Is (widths_of_block scope.block) (AimsAt scope label) (turn_by what))
called_is scope label what (Ok call) = calling_is scope label what call
called_is scope label what (Err rule) = tt

op_in_is : (scope : OperandScope) (what : Option Mnemonic) (o : RawOperand) (l : RawOperand-F RawOperand RawActual RawCall) → IsClear scope
    → IfSome what IsOfResults → IsGiven (widths_of_block scope.block) (AimsAt scope (label_of o)) (resolved_operand scope o)
    → IfOk (op_in scope what o l) (Is (widths_of_block scope.block) (AimsAt scope (label_of o)) (turn_by what))
op_in_is scope what o (layer.Call call) clear good h = called_is scope (label_of o) what (call_of scope call)
op_in_is scope what o other clear good h = or_rule_is (widths_of_block scope.block) (AimsAt scope (label_of o)) what (resolved_operand scope o) h good

op_is : (scope : OperandScope) (raw : RawOp) → IsClear scope
    → IfOk (op_of scope raw) (Is (widths_of_block scope.block) (AimsAt scope (label_of raw.operand)) (turn_by (mnemonic_named raw.mnemonic)))
unfolding op_of
op_is scope raw clear =
    op_in_is scope (mnemonic_named raw.mnemonic) raw.operand (out-RawOperand raw.operand) clear (named_results raw.mnemonic)
    (given_is scope raw.operand clear)

-- an instruction that breaks no rule is one of a program
pub any_is : (P : Op → Type 0) (line : Line) (r : Result Op Reason) → IfOk r P → broken_by line r ≡ [] → P (or_any r)
any_is P line (Ok o) h e = h
any_is P line (Err rule) h e = absurd cc

pub instr_is : (scope : OperandScope) (raw : RawInstr) → IsClear scope → instr_breaks scope raw ≡ []
    → Is (widths_of_block scope.block) (AimsAt scope (label_of raw.op.operand)) (turn_by (mnemonic_named raw.op.mnemonic)) (or_any (op_of scope raw.op))
instr_is scope raw clear e =
    any_is (Is (widths_of_block scope.block) (AimsAt scope (label_of raw.op.operand)) (turn_by (mnemonic_named raw.op.mnemonic))) raw.line
    (op_of scope raw.op) (op_is scope raw.op clear) e

-- it has its operand, and a jump list the number of its JU
operand_listed : (formals : Widths) (aim : ℕ → Type 0) (rest : List RawInstr) (o : Op) → HasPart formals aim o → (turn_of o ≡ lists → 1 ≤ listed_in rest)
    → HasOperand formals (with_list rest o)
operand_listed formals aim rest (op.Jump t to) h k = h.0
operand_listed formals aim rest (op.Loop to) h k = tt
operand_listed formals aim rest (op.JumpList count to) h k =
    let some : 1 ≤ listed_in rest = k refl in
    (min_some (listed_in rest) some, min-le_right (listed_in rest) most_listed)
  where
    min_some : (n : ℕ) → 1 ≤ n → 1 ≤ min n most_listed
    min_some n h = le-min h (omega arith)
operand_listed formals aim rest other h k = h

pub has_operand : (scope : OperandScope) (raw : RawInstr) (rest : List RawInstr) → IsClear scope → instr_breaks scope raw ≡ []
    → (turn_by (mnemonic_named raw.op.mnemonic) ≡ lists → 1 ≤ listed_in rest) → HasOperand (widths_of_block scope.block) (instr_of scope raw rest).op
has_operand scope raw rest clear e k =
    let is = instr_is scope raw clear e in
    operand_listed (widths_of_block scope.block) (AimsAt scope (label_of raw.op.operand)) rest (or_any (op_of scope raw.op)) is.0 (λ t. k (sym is.1 ∙ t))

-- Brackets

-- how many are open behind an instruction of a kind, if it may be there
abbrev open_by : Turn → ℕ → Option ℕ
open_by opens n = if nat_lt n most_open then Some (suc n) else None
open_by closes zero = None
open_by closes (suc n) = Some n
open_by keeps n = Some n
open_by ends n = none_behind n
open_by always n = none_behind n
open_by lists n = none_behind n
open_by calls n = none_behind n

behind_op : (o : Op) (n : ℕ) → open_behind o n ≡ open_by (turn_of o) n
behind_op (op.Bracket c) n = refl
behind_op op.Close zero = refl
behind_op op.Close (suc n) = refl
behind_op (op.Jump jump.Always to) n = refl
behind_op other n = refl

turn_listed : (rest : List RawInstr) (o : Op) → turn_of (with_list rest o) ≡ turn_of o
turn_listed rest (op.JumpList count to) = refl
turn_listed rest other = refl

room : (b : Bool) (line : Line) (n : ℕ) → (if b then [] else rule_break line TooManyBrackets) ≡ [] → (if b then Some (suc n) else None) ≡ Some (suc n)
room true line n e = refl
room false line n e = absurd cc

no_open : (line : Line) (n : ℕ) → none_open line n ≡ [] → none_behind n ≡ Some n
no_open line zero e = refl
no_open line (suc n) e = absurd cc

behind_jump : (t : JumpTest) (n : ℕ) → open_by (turn_by (Some (is.Jump t))) n ≡ none_behind n
behind_jump jump.Always n = refl
behind_jump other n = refl

behind_turn : (line : Line) (what : Option Mnemonic) (n : ℕ) → brackets_at line what n ≡ [] → open_by (turn_by what) n ≡ Some (open_then what n)
behind_turn line (Some (is.Bracket c)) n e = room (nat_lt n most_open) line n e
behind_turn line (Some is.Close) zero e = absurd cc
behind_turn line (Some is.Close) (suc n) e = refl
behind_turn line (Some (is.Jump t)) n e = behind_jump t n ∙ no_open line n e
behind_turn line (Some is.Loop) n e = no_open line n e
behind_turn line (Some is.JumpList) n e = no_open line n e
behind_turn line (Some is.BlockEnd) n e = no_open line n e
behind_turn line (Some is.BlockEndIf) n e = no_open line n e
behind_turn line (Some is.Call) n e = no_open line n e
behind_turn line (Some is.CallAlone) n e = no_open line n e
behind_turn line (Some is.CallIf) n e = no_open line n e
behind_turn line other n e = refl

-- and does to brackets what its mnemonic says
pub behind_instr : (scope : OperandScope) (raw : RawInstr) (rest : List RawInstr) (n : ℕ) → IsClear scope → instr_breaks scope raw ≡ []
    → brackets_at raw.line (mnemonic_named raw.op.mnemonic) n ≡ []
    → open_behind (instr_of scope raw rest).op n ≡ Some (open_then (mnemonic_named raw.op.mnemonic) n)
behind_instr scope raw rest n clear e f =
    behind_op (instr_of scope raw rest).op n
    ∙ ap (λ t. open_by t n) (turn_listed rest (or_any (op_of scope raw.op)) ∙ (instr_is scope raw clear e).1)
    ∙ behind_turn raw.line (mnemonic_named raw.op.mnemonic) n f
