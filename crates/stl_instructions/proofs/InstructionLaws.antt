-- An instruction is read exactly where one of its forms stands.
use Rattle.std.proofs.Common.{◌≡◌, ℕ, ◌⊎◌, inl, inr, Bool, true, false, cond, ◌&&◌, ◌==◌, if◌then◌else◌, List, [], ◌∷◌, length, drop, Option, Some, None, Result, Ok, Err, refl, sym, ap, subst, ◌∙◌, arith}
use Rattle.std.proofs.lemmas.Bool.{and_from, and_left, and_parts, and_right, eqb-true, or_left}
use Rattle.std.proofs.lemmas.Bool.Decides.{nat_tests}
use Rattle.std.specs.List.{find}
use Rattle.std.specs.Prelude.{codes, ◌||◌}
use Rattle.std.specs.Str.{bytes_eq, str_to_ascii_lowercase}
use Rattle.s7_base.specs.Tokens.{is_same_word}
use Rattle.s7_base.specs.declared.reason.Kind.TheVariants as kind
use Rattle.s7_base.specs.declared.reason.Line.{Line}
use Rattle.s7_base.specs.declared.reason.Reason.{Reason}
use Rattle.s7_base.specs.declared.reason.Reason.TheVariants.{BadStatement}
use Rattle.s7_base.specs.declared.token.Token.{Token}
use Rattle.status_word.specs.declared.test.Test.{Test}
use Rattle.status_word.specs.declared.test.Test.TheVariants as test
use Rattle.stl_statement_grammar.specs.ConstantForms.{IsAddend, IsConstant, IsUpTo}
use Rattle.stl_statement_grammar.specs.Constants.{Prefixed, addend_at, begins_glued, constant_at, left_out_prefixes, marked_at, number_at, plain}
use Rattle.stl_statement_grammar.specs.InstructionForms.{IsLocated, IsOpened, IsPlaced, IsStatusOperand, flag, compared, IsOperand, IsStatement, IsInstruction, plain_instruction, labelled_instruction, InstructionsHaveForms}
use Rattle.stl_statement_grammar.specs.InstructionForms as form
use Rattle.stl_statement_grammar.specs.Mnemonics.{Row, goes_on, mnemonic_at}
use Rattle.stl_statement_grammar.specs.PathForms.{IsNamed}
use Rattle.stl_statement_grammar.specs.PlaceForms.{IsPlace}
use Rattle.stl_statement_grammar.specs.PointerForms.{IsOffsetConstant, IsPointerConstant}
use Rattle.stl_statement_grammar.specs.Pointers.{behind_hash, offset_at, pointer_at, pointer_behind}
use Rattle.stl_statement_grammar.specs.Readers.{read_as}
use Rattle.stl_statement_grammar.specs.LocatedOperands.{any_constant_at, left_out_at, located_at, placed_at, timers_and_counters}
use Rattle.stl_statement_grammar.specs.Statements.{asked_by, begins_with_label, block_number_at, checked_at, first_of, instr_with, instruction_from, instruction_of, is_asked, is_label_word, label_at, length_at, loaded_at, name_of, nothing_at, on_line, opened_at, operand_by, operand_of, or_nothing, other_at, pointer_alone_at, pointer_loaded_at, pointer_stored_at, second_of, operand_form_of, size_with, statement, status_at, stored_at, stw_at, tests, with_mnemonic, with_operand}
use Rattle.stl_statement_grammar.specs.Words.{is_joined, is_sign, is_sign_kind, is_spelled, is_word, is_word_kind}
use Rattle.stl_statement_grammar.specs.declared.mnemonic.Read.{Read}
use Rattle.stl_statement_grammar.specs.declared.mnemonic.Read.TheVariants.{Fits, LeftOut, No}
use Rattle.stl_statement_grammar.specs.declared.mnemonic.OperandForm.{OperandForm}
use Rattle.stl_statement_grammar.specs.declared.mnemonic.OperandForm.TheVariants as shape
use Rattle.stl_tree.specs.declared.program.Ar.{Ar}
use Rattle.stl_tree.specs.declared.program.Ar.TheVariants as ar
use Rattle.stl_tree.specs.declared.raw.Constant.{Constant as Literal}
use Rattle.stl_tree.specs.declared.raw.RawInstr.{RawInstr}
use Rattle.stl_tree.specs.declared.raw.RawOp.{RawOp}
use Rattle.stl_tree.specs.declared.raw.RawOperand.{RawOperand}
use Rattle.stl_tree.specs.declared.raw.RawOperand.TheVariants.{At, Constant, DbNo, DiNo, Flag, Label, Missing, OtherAr, Pointer, Stw}
use Rattle.stl_tree.specs.declared.raw.RawPlace.{RawPlace}
use Rattle.stl_tree.specs.declared.raw.RawPointer.{RawPointer}
use Rattle.stl_instructions.proofs.BracketTokens.{IsBracketed, bracketed_no_constant, bracketed_no_text, bracketed_no_word, bracketed_there, bracketed_unmarked, crossing_bracketed, indirect_bracketed, is_opening}
use Rattle.stl_constants.proofs.ConstantLaws.{addend_all, addend_read, constant_all, constant_no_word, constant_read, constant_there, left_out_marked_all, no_mark, number_all, number_at_read, pointer_no_constant, pointer_no_left_out, up_to_there, word_is}
use Rattle.stl_instructions.proofs.NameLaws.{located_all, located_read, named_no_constant, named_no_mark, named_no_word, named_not_asked, named_there, opened_all, opened_read, placed_as, placed_read}
use Rattle.stl_instructions.proofs.CallLaws.{called_all, called_alone_all, called_alone_read, called_read}
use Rattle.stl_instructions.proofs.LeftOutLaws.{left_out_all}
use Rattle.stl_statement_grammar.specs.CallForms.{IsCalled, IsCalledAlone}
use Rattle.stl_statement_grammar.specs.CallOperands.{called_alone_at, called_at}
use Rattle.stl_places.proofs.PlaceTokens.{IsNoPlace, place_no_constant, place_no_register, place_no_text, place_no_word, place_there, place_unmarked, text_is}
use Rattle.stl_places.proofs.PointerLaws.{Hashed, offset_all, offset_at_read, offset_hashed, pointer_all, pointer_at_read, pointer_hashed}
use Rattle.stl_constants.proofs.Reading.{AllOf, as_all, if_false, if_true, or_all, or_no, or_this, other_word, same_letters, weaker}
use Rattle.stl_constants.proofs.Tables.{none_found}

-- From what is read to its form

nothing_all : (tokens : List Token) (P : List Token → RawOperand → Type 0) → P [] Missing → AllOf (length tokens) (P tokens) (nothing_at tokens)
nothing_all [] P made = λ e. made
nothing_all (first ∷ rest) P made = tt

-- nothing at all, or what was read
or_nothing_all : (tokens : List Token) (P : List Token → RawOperand → Type 0) (r : Read RawOperand) → P [] Missing → AllOf (length tokens) (P tokens) r →
    AllOf (length tokens) (P tokens) (or_nothing tokens r)
or_nothing_all tokens P r made h = or_all (length tokens) (P tokens) (nothing_at tokens) r (nothing_all tokens P made) h

-- a question is one word, or a sign with 0 behind it
seconds : (test : Test) → (second_of test ≡ []) ⊎ (second_of test ≡ codes "0")
seconds test.Eq = inr refl
seconds test.Ne = inr refl
seconds test.Gt = inr refl
seconds test.Lt = inr refl
seconds test.Ge = inr refl
seconds test.Le = inr refl
seconds test.Uo = inl refl
seconds test.Ov = inl refl
seconds test.Os = inl refl
seconds test.Br = inl refl

-- a token that is spelled so is a word or a sign, with these letters in any case
spelled : (text : List ℕ) (token : Token) → is_spelled text token ≡ true →
    ((is_word_kind token.kind || is_sign_kind token.kind) ≡ true) × (str_to_ascii_lowercase token.text ≡ str_to_ascii_lowercase text)
spelled text token h =
    let p = and_parts (is_word_kind token.kind || is_sign_kind token.kind) (is_same_word token.text text) h in (p.0, same_letters token.text text p.1)

no_bracket : (zero : Token) → is_spelled (codes "0") zero ≡ true → is_sign (codes "(") zero ≡ false
no_bracket zero h =
    let P : List ℕ → Type 0 = λ low. (is_sign_kind zero.kind && bytes_eq low (codes "(")) ≡ false in
    subst P (sym (spelled (codes "0") zero h).1) (never (is_sign_kind zero.kind))
  where
    never : (b : Bool) → (b && false) ≡ false
    never true = refl
    never false = refl

is_glued : (a b : Bool) → (a || b) ≡ true → b ≡ false → a ≡ true
is_glued true b h n = refl
is_glued false b h n = absurd cc

asked_is : (tokens : List Token) (test : Test) → is_asked tokens test ≡ true → size_with (second_of test) ≡ length tokens → IsStatusOperand tokens test
asked_is [] test h size = absurd cc
asked_is (first ∷ rest) test h size =
    let p = and_parts (is_spelled (first_of test) first) (goes_on (second_of test) rest) h in
    by rest p.0 p.1 size (seconds test)
  where
    by : (rest : List Token) → is_spelled (first_of test) first ≡ true
        → goes_on (second_of test) rest ≡ true → size_with (second_of test) ≡ length (first ∷ rest)
        → (second_of test ≡ []) ⊎ (second_of test ≡ codes "0") → IsStatusOperand (first ∷ rest) test
    by [] s g size (inl none) = flag first test none s
    by (zero ∷ rest) s g size (inl none) = let one : 1 ≡ length (first ∷ zero ∷ rest) = sym (ap size_with none) ∙ size in absurd (omega arith)
    by [] s g size (inr zeros) = let two : 2 ≡ length (first ∷ []) = sym (ap size_with zeros) ∙ size in absurd (omega arith)
    by (zero ∷ []) s g size (inr zeros) =
        let behind : goes_on (codes "0") (zero ∷ []) ≡ true = sym (ap (λ (second : List ℕ). goes_on second (zero ∷ [])) zeros) ∙ g in
        let p = and_parts (is_spelled (codes "0") zero) (zero.glued || is_sign (codes "(") zero) behind in
        compared first zero test zeros s p.0 (is_glued zero.glued _ p.1 (no_bracket zero p.0))
    by (zero ∷ next ∷ rest) s g size (inr zeros) = let two : 2 ≡ length (first ∷ zero ∷ next ∷ rest) = sym (ap size_with zeros) ∙ size in absurd (omega arith)

found_asked : (tokens : List Token) (xs : List Test) (test : Test) → find (is_asked tokens) xs ≡ Some test → is_asked tokens test ≡ true
found_asked tokens [] test e = absurd cc
found_asked tokens (x ∷ xs) test e = by (is_asked tokens x) refl e (λ h. found_asked tokens xs test h)
  where
    some_is : (a b : Test) → Some a ≡ Some b → a ≡ b
    some_is a b e = cc

    by : (b : Bool) → is_asked tokens x ≡ b → cond b (Some x) (find (is_asked tokens) xs) ≡ Some test
        → (find (is_asked tokens) xs ≡ Some test → is_asked tokens test ≡ true)
        → is_asked tokens test ≡ true
    by true t e next = ap (is_asked tokens) (sym (some_is x test e)) ∙ t
    by false t e next = next e

status_all : (tokens : List Token) (P : RawOperand → Type 0)
    → ((test : Test) → IsStatusOperand tokens test → P (Flag test)) → AllOf (length tokens) P (status_at tokens)
status_all tokens P make = by (find (is_asked tokens) tests) refl
  where
    by : (o : Option Test) → find (is_asked tokens) tests ≡ o → AllOf (length tokens) P (asked_by o)
    by None e = tt
    by (Some test) e = λ size. make test (asked_is tokens test (found_asked tokens tests test e) size)

stw_all : (tokens : List Token) (P : List Token → RawOperand → Type 0)
    → ((word : Token) → is_word (codes "STW") word ≡ true → P (word ∷ []) Stw) → AllOf (length tokens) (P tokens) (stw_at tokens)
stw_all [] P make = tt
stw_all (first ∷ rest) P make = by (is_word (codes "STW") first) refl
  where
    alone : (rest : List Token) → is_word (codes "STW") first ≡ true → 1 ≡ length (first ∷ rest) → P (first ∷ rest) Stw
    alone [] word size = make first word
    alone (next ∷ more) word size = absurd (omega (arith, size))

    by : (b : Bool) → is_word (codes "STW") first ≡ b → AllOf (length (first ∷ rest)) (P (first ∷ rest)) (if b then Fits Stw 1 else No)
    by true word = alone rest word
    by false word = tt

length_all : (n : ℕ) (P : RawOperand → Type 0) (tokens : List Token) → AllOf n P (length_at tokens)
length_all n P [] = tt
length_all n P (first ∷ rest) = by (is_word (codes "DBLG") first || is_word (codes "DILG") first)
  where
    by : (b : Bool) → AllOf n P (if b then LeftOut kind.DbLength else No)
    by true = tt
    by false = tt

located_as : (tokens : List Token) (P : RawOperand → Type 0)
    → ((operand : RawOperand) → IsLocated tokens operand → P operand) → AllOf (length tokens) P (located_at tokens)
located_as tokens P make = weaker (length tokens) (IsLocated tokens) P make (located_at tokens) (located_all tokens)

checked_all : (tokens : List Token) → AllOf (length tokens) (IsOperand shape.Checked tokens) (checked_at tokens)
checked_all tokens =
    or_all (length tokens) (IsOperand shape.Checked tokens) (status_at tokens) _
    (status_all tokens (IsOperand shape.Checked tokens) (λ test is. form.status tokens test is))
    (located_as tokens (IsOperand shape.Checked tokens) (λ operand is. form.checked_located tokens operand is))

block_number_all : (tokens : List Token) → AllOf (length tokens) (IsOperand shape.Loaded tokens) (block_number_at tokens)
block_number_all [] = tt
block_number_all (first ∷ rest) = by rest (is_word (codes "DBNO") first) (is_word (codes "DINO") first) refl refl
  where
    by : (rest : List Token) (db di : Bool) → is_word (codes "DBNO") first ≡ db → is_word (codes "DINO") first ≡ di →
        AllOf (length (first ∷ rest)) (IsOperand shape.Loaded (first ∷ rest)) (if db then Fits DbNo 1 else if di then Fits DiNo 1 else No)
    by [] true di db_is di_is = λ size. form.loaded_db first db_is
    by (next ∷ rest) true di db_is di_is = λ size. absurd (omega (arith, size))
    by [] false true db_is di_is = λ size. form.loaded_di first di_is
    by (next ∷ rest) false true db_is di_is = λ size. absurd (omega (arith, size))
    by rest false false db_is di_is = tt

constant_as : (tokens : List Token) (P : RawOperand → Type 0) (Q : Literal → Type 0)
    → ((c : Literal) → Q c → P (Constant c)) → (r : Read Literal) → AllOf (length tokens) Q r
    → AllOf (length tokens) P (read_as Constant r)
constant_as tokens P Q make r h = as_all (length tokens) Constant Q P make r h

-- a constant, or a pointer
any_constant_all : (tokens : List Token) (P : RawOperand → Type 0) → ((c : Literal) → IsConstant tokens c → P (Constant c)) →
    ((p : RawPointer) → IsPointerConstant tokens p → P (Pointer p)) → AllOf (length tokens) P (any_constant_at tokens)
any_constant_all tokens P made pointed =
    or_all (length tokens) P (read_as Constant (constant_at tokens)) (read_as Pointer (pointer_at tokens))
    (constant_as tokens P (IsConstant tokens) made (constant_at tokens) (constant_all tokens))
    (as_all (length tokens) Pointer (IsPointerConstant tokens) P pointed (pointer_at tokens) (pointer_all tokens))

-- a pointer where no other constant may stand
pointer_alone_all : (tokens : List Token) (P : RawOperand → Type 0) (Is : RawPointer → Type 0) (read : List Token → Read RawPointer)
    → ((p : RawPointer) → Is p → P (Pointer p))
    → AllOf (length tokens) Is (read tokens) → AllOf (length tokens) P (pointer_alone_at read tokens)
pointer_alone_all tokens P Is read made h =
    or_all (length tokens) P (read_as Constant (marked_at left_out_prefixes tokens)) (read_as Pointer (read tokens))
    (constant_as tokens P (λ c. P (Constant c)) (λ c is. is) (marked_at left_out_prefixes tokens) (left_out_marked_all tokens (λ c. P (Constant c))))
    (as_all (length tokens) Pointer Is P made (read tokens) h)

other_all : (r : Ar) (tokens : List Token) (P : Ar → List Token → RawOperand → Type 0) →
    ((word : Token) → is_word (codes "AR2") word ≡ true → P ar.One (word ∷ []) OtherAr) → AllOf (length tokens) (P r tokens) (other_at r tokens)
other_all ar.One [] P made = tt
other_all ar.One (first ∷ rest) P made = by (is_word (codes "AR2") first) refl rest
  where
    by : (b : Bool) → is_word (codes "AR2") first ≡ b → (rest : List Token)
        → AllOf (length (first ∷ rest)) (P ar.One (first ∷ rest)) (if b then Fits OtherAr 1 else No)
    by true word [] = λ size. made first word
    by true word (next ∷ more) = λ size. absurd (omega (arith, size))
    by false word rest = tt
other_all ar.Two [] P made = tt
other_all ar.Two (first ∷ rest) P made = tt

pointer_loaded_all : (r : Ar) (tokens : List Token) → AllOf (length tokens) (IsOperand (shape.PointerLoaded r) tokens) (pointer_loaded_at r tokens)
pointer_loaded_all r tokens =
    let P : RawOperand → Type 0 = IsOperand (shape.PointerLoaded r) tokens in
    or_all (length tokens) P (other_at r tokens) _ (other_all r tokens (λ a. IsOperand (shape.PointerLoaded a)) (λ word is. form.other_pointer_loaded word is))
    (or_all (length tokens) P (pointer_alone_at pointer_at tokens) (placed_at tokens)
    (pointer_alone_all tokens P (IsPointerConstant tokens) pointer_at (λ p is. form.pointer_loaded r tokens p is) (pointer_all tokens))
    (placed_as tokens P (λ operand is. form.pointer_loaded_from r tokens operand is)))

pointer_stored_all : (r : Ar) (tokens : List Token) → AllOf (length tokens) (IsOperand (shape.PointerStored r) tokens) (pointer_stored_at r tokens)
pointer_stored_all r tokens =
    or_all (length tokens) (IsOperand (shape.PointerStored r) tokens) (other_at r tokens) (placed_at tokens)
    (other_all r tokens (λ a. IsOperand (shape.PointerStored a)) (λ word is. form.other_pointer_stored word is))
    (placed_as tokens (IsOperand (shape.PointerStored r) tokens) (λ operand is. form.pointer_stored_in r tokens operand is))

loaded_all : (tokens : List Token) → AllOf (length tokens) (IsOperand shape.Loaded tokens) (loaded_at tokens)
loaded_all tokens =
    or_all (length tokens) (IsOperand shape.Loaded tokens) (stw_at tokens) _ (stw_all tokens (IsOperand shape.Loaded) (λ word is. form.loaded_status word is))
    (or_all (length tokens) (IsOperand shape.Loaded tokens) (block_number_at tokens) _ (block_number_all tokens)
    (or_all (length tokens) (IsOperand shape.Loaded tokens) (any_constant_at tokens) _
    (any_constant_all tokens (IsOperand shape.Loaded tokens) (λ c is. form.loaded_constant tokens c is) (λ p is. form.loaded_pointer tokens p is))
    (or_all (length tokens) (IsOperand shape.Loaded tokens) (located_at tokens) (length_at tokens)
    (located_as tokens (IsOperand shape.Loaded tokens) (λ operand is. form.loaded_located tokens operand is))
    (length_all (length tokens) (IsOperand shape.Loaded tokens) tokens))))

stored_all : (tokens : List Token) → AllOf (length tokens) (IsOperand shape.Stored tokens) (stored_at tokens)
stored_all tokens =
    or_all (length tokens) (IsOperand shape.Stored tokens) (stw_at tokens) _ (stw_all tokens (IsOperand shape.Stored) (λ word is. form.stored_status word is))
    (located_as tokens (IsOperand shape.Stored tokens) (λ operand is. form.stored_located tokens operand is))

number_as : (most : ℕ) (tokens : List Token) (P : RawOperand → Type 0) → ((n : ℕ) → IsUpTo most tokens n → P (Constant (plain n)))
    → AllOf (length tokens) P (read_as Constant (number_at most tokens))
number_as most tokens P make =
    constant_as tokens P (λ c. P (Constant c)) (λ c is. is) (number_at most tokens) (number_all most tokens (λ c. P (Constant c)) make)

label_all : (tokens : List Token) → AllOf (length tokens) (IsOperand shape.Label tokens) (label_at tokens)
label_all [] = tt
label_all (first ∷ rest) = by (is_label_word first) refl rest
  where
    by : (b : Bool) → is_label_word first ≡ b → (rest : List Token)
        → AllOf (length (first ∷ rest)) (IsOperand shape.Label (first ∷ rest)) (if b then Fits (Label first.text) 1 else No)
    by true word [] = λ size. form.label first word
    by true word (next ∷ more) = λ size. absurd (omega (arith, size))
    by false word rest = tt

-- what was read of all tokens is an operand of the shape
operand_is : (shape : OperandForm) (tokens : List Token) → AllOf (length tokens) (IsOperand shape tokens) (operand_by shape tokens)
operand_is shape.Nothing tokens = nothing_all tokens (IsOperand shape.Nothing) form.nothing
operand_is shape.Bit tokens = located_as tokens (IsOperand shape.Bit tokens) (λ operand is. form.bit tokens operand is)
operand_is shape.Checked tokens = checked_all tokens
operand_is shape.CheckedOrNothing tokens =
    or_nothing_all tokens (IsOperand shape.CheckedOrNothing) (checked_at tokens) form.alone
    (weaker (length tokens) (IsOperand shape.Checked tokens) (IsOperand shape.CheckedOrNothing tokens)
    (λ operand is. form.checked tokens operand is) (checked_at tokens) (checked_all tokens))
operand_is (shape.Number most) tokens = number_as most tokens (IsOperand (shape.Number most) tokens) (λ n is. form.number most tokens n is)
operand_is (shape.NumberOrNothing most) tokens =
    or_nothing_all tokens (IsOperand (shape.NumberOrNothing most)) _ (form.no_count most)
    (number_as most tokens (IsOperand (shape.NumberOrNothing most) tokens) (λ n is. form.count most tokens n is))
operand_is shape.Addend tokens =
    constant_as tokens (IsOperand shape.Addend tokens) (IsAddend tokens) (λ c is. form.addend tokens c is) (addend_at tokens) (addend_all tokens)
operand_is shape.Loaded tokens = loaded_all tokens
operand_is shape.Stored tokens = stored_all tokens
operand_is shape.ConstantOrNothing tokens =
    or_nothing_all tokens (IsOperand shape.ConstantOrNothing) (any_constant_at tokens) form.no_constant
    (any_constant_all tokens (IsOperand shape.ConstantOrNothing tokens) (λ c is. form.combined tokens c is) (λ p is. form.combined_pointer tokens p is))
operand_is (shape.PointerLoaded r) tokens =
    or_nothing_all tokens (IsOperand (shape.PointerLoaded r)) (pointer_loaded_at r tokens) (form.pointer_loaded_alone r) (pointer_loaded_all r tokens)
operand_is (shape.PointerStored r) tokens =
    or_nothing_all tokens (IsOperand (shape.PointerStored r)) (pointer_stored_at r tokens) (form.pointer_stored_alone r) (pointer_stored_all r tokens)
operand_is shape.OffsetOrNothing tokens =
    or_nothing_all tokens (IsOperand shape.OffsetOrNothing) (pointer_alone_at offset_at tokens) form.no_offset
    (pointer_alone_all tokens (IsOperand shape.OffsetOrNothing tokens)
    (IsOffsetConstant tokens) offset_at (λ p is. form.offset tokens p is) (offset_all tokens))
operand_is shape.Opened tokens =
    weaker (length tokens) (IsOpened tokens) (IsOperand shape.Opened tokens)
    (λ operand is. form.opened tokens operand is) (opened_at tokens) (opened_all tokens)
operand_is shape.Label tokens = label_all tokens
operand_is shape.TimerOrCounter tokens =
    as_all (length tokens) At (λ place. ⊥) (IsOperand shape.TimerOrCounter tokens) (λ place is. absurd is) (left_out_at timers_and_counters tokens)
    (left_out_all (length tokens) (λ place. ⊥) timers_and_counters tokens)
operand_is shape.Called tokens =
    weaker (length tokens) (IsCalled tokens) (IsOperand shape.Called tokens)
    (λ operand is. form.called tokens operand is) (called_at tokens) (called_all tokens)
operand_is shape.CalledAlone tokens =
    weaker (length tokens) (IsCalledAlone tokens) (IsOperand shape.CalledAlone tokens)
    (λ operand is. form.called_alone tokens operand is) (called_alone_at tokens) (called_alone_all tokens)
operand_is (shape.LeftOut kind) tokens = tt

-- what is said with a mnemonic
record Said (row : Row) (tokens : List Token) (op : RawOp) : Type 0 where
  operand : IsOperand (operand_form_of row.what) tokens op.operand
  named : name_of row ≡ op.mnemonic

said_is : (row : Row) (tokens : List Token) (r : Read RawOperand) (op : RawOp) → AllOf (length tokens) (IsOperand (operand_form_of row.what) tokens) r →
    with_operand (name_of row) (length tokens) r ≡ Ok op → Said row tokens op
said_is row tokens No op h e = absurd cc
said_is row tokens (LeftOut kind) op h e = absurd cc
said_is row tokens (Fits operand size) op h e = by (size == length tokens) refl e
  where
    by : (b : Bool) → (size == length tokens) ≡ b
        → (if b then Ok (record { mnemonic = name_of row; operand = operand }) else Err BadStatement) ≡ Ok op → Said row tokens op
    by true t e =
        let same : record { mnemonic = name_of row; operand = operand } ≡ op = cc in
        let P : RawOp → Type 0 = λ o. Said row tokens o in
        subst P same (record { operand = h (eqb-true size (length tokens) t); named = refl })
    by false t e = absurd cc

-- what is on a line
record Lined (label : Option (List ℕ)) (line : Line) (said : Result RawOp Reason) (instr : RawInstr) : Type 0 where
  op : RawOp
  said_op : said ≡ Ok op
  instr_is : instr_with label line op.mnemonic op.operand ≡ instr

lined : (label : Option (List ℕ)) (line : Line) (said : Result RawOp Reason) (instr : RawInstr) → on_line label line said ≡ Ok instr
    → Lined label line said instr
lined label line (Ok op) instr e = record { op = op; said_op = refl; instr_is = cc }
lined label line (Err reason) instr e = absurd cc

without_label : (b : Bool) (said : Result RawOp Reason) (op : RawOp) → (if b then Err BadStatement else said) ≡ Ok op → (b ≡ false) × (said ≡ Ok op)
without_label true said op e = absurd cc
without_label false said op e = (refl, e)

-- the row that was found, and what is said with it
record Found (tokens : List Token) (op : RawOp) : Type 0 where
  row : Row
  at : mnemonic_at tokens ≡ Some row
  said : Said row (drop (size_with row.second) tokens) op

found_by : (tokens : List Token) (o : Option Row) (op : RawOp) → mnemonic_at tokens ≡ o → with_mnemonic tokens o ≡ Ok op → Found tokens op
found_by tokens None op at e = absurd cc
found_by tokens (Some row) op at e =
    let behind = drop (size_with row.second) tokens in
    record { row = row; at = at; said = said_is row behind (operand_of row.what behind) op (operand_is (operand_form_of row.what) behind) e }

-- a statement on a line
record Stated (label : Option (List ℕ)) (line : Line) (tokens : List Token) (instr : RawInstr) : Type 0 where
  row : Row
  operand : RawOperand
  is : IsStatement tokens row operand
  instr_is : instr_with label line (name_of row) operand ≡ instr

stated : (label : Option (List ℕ)) (line : Line) (tokens : List Token) (instr : RawInstr)
    → on_line label line (statement tokens) ≡ Ok instr → Stated label line tokens instr
stated label line tokens instr e =
    let l = lined label line (statement tokens) instr e in
    let u = without_label (begins_with_label tokens) (with_mnemonic tokens (mnemonic_at tokens)) l.op l.said_op in
    let f = found_by tokens (mnemonic_at tokens) l.op refl u.1 in
    record {
      row = f.row;
      operand = l.op.operand;
      is = record { unlabelled = u.0; mnemonic = f.at; behind = f.said.operand };
      instr_is = ap (λ (name : List ℕ). instr_with label line name l.op.operand) f.said.named ∙ l.instr_is;
    }

plain_one : (first : Token) (rest : List Token) (instr : RawInstr) → on_line None first.line (statement (first ∷ rest)) ≡ Ok instr
    → IsInstruction (first ∷ rest) instr
plain_one first rest instr e =
    let s = stated None first.line (first ∷ rest) instr e in
    let P : RawInstr → Type 0 = λ i. IsInstruction (first ∷ rest) i in
    subst P s.instr_is (plain_instruction first rest s.row s.operand s.is)

labelled_one : (first : Token) (rest : List Token) (instr : RawInstr) → begins_with_label (first ∷ rest) ≡ true
    → on_line (Some first.text) first.line (statement (drop 1 rest)) ≡ Ok instr → IsInstruction (first ∷ rest) instr
labelled_one first [] instr label e = absurd cc
labelled_one first (second ∷ rest) instr label e =
    let p = and_parts (is_label_word first) (is_sign (codes ":") second) label in
    let s = stated (Some first.text) first.line rest instr e in
    let P : RawInstr → Type 0 = λ i. IsInstruction (first ∷ second ∷ rest) i in
    subst P s.instr_is (labelled_instruction first second rest s.row s.operand p.0 p.1 s.is)

sound : (tokens : List Token) (instr : RawInstr) → instruction_of tokens ≡ Ok instr → IsInstruction tokens instr
unfolding instruction_of
sound [] instr e = absurd cc
sound (first ∷ rest) instr e = by (begins_with_label (first ∷ rest)) refl e
  where
    by : (b : Bool) → begins_with_label (first ∷ rest) ≡ b → instruction_from b first rest ≡ Ok instr → IsInstruction (first ∷ rest) instr
    by true label is = labelled_one first rest instr label is
    by false label is = plain_one first rest instr is

-- From a form to what is read of it

same_size : (n : ℕ) → (n == n) ≡ true
same_size n = grind (arith, nat_tests)

-- what stands behind the first token of a question does: 0, or nothing at all is asked for
abbrev behind : Bool → List ℕ → Bool
behind zero [] = true
behind zero (b ∷ second) = zero

-- the question that is found, by the letters of the first token and by whether 0 stands behind it
abbrev found_in : Bool → List ℕ → Bool → Option Test
found_in kind low zero = find (λ t. (kind && bytes_eq low (str_to_ascii_lowercase (first_of t))) && behind zero (second_of t)) tests

found_is : (test : Test) (zero : Bool) → behind zero (second_of test) ≡ true → found_in true (str_to_ascii_lowercase (first_of test)) zero ≡ Some test
found_is test.Eq zero h = ap (λ (b : Bool). found_in true (codes "==") b) h
found_is test.Ne zero h = ap (λ (b : Bool). found_in true (codes "<>") b) h
found_is test.Gt zero h = ap (λ (b : Bool). found_in true (codes ">") b) h
found_is test.Lt zero h = ap (λ (b : Bool). found_in true (codes "<") b) h
found_is test.Ge zero h = ap (λ (b : Bool). found_in true (codes ">=") b) h
found_is test.Le zero h = ap (λ (b : Bool). found_in true (codes "<=") b) h
found_is test.Uo zero h = refl
found_is test.Ov zero h = refl
found_is test.Os zero h = refl
found_is test.Br zero h = refl

as_found : (first : Token) (rest : List Token)
    → find (is_asked (first ∷ rest)) tests
    ≡ found_in (is_word_kind first.kind || is_sign_kind first.kind) (str_to_ascii_lowercase first.text) (goes_on (codes "0") rest)
as_found first rest = refl

asked_found : (first : Token) (rest : List Token) (test : Test) → is_spelled (first_of test) first ≡ true
    → behind (goes_on (codes "0") rest) (second_of test) ≡ true
    → find (is_asked (first ∷ rest)) tests ≡ Some test
asked_found first rest test s h =
    let p = spelled (first_of test) first s in
    let zero = goes_on (codes "0") rest in
    as_found first rest
    ∙ ap (λ (b : Bool). found_in b (str_to_ascii_lowercase first.text) zero) p.0
    ∙ ap (λ (low : List ℕ). found_in true low zero) p.1
    ∙ found_is test zero h

status_is : (tokens : List Token) (test : Test) → IsStatusOperand tokens test → status_at tokens ≡ Fits (Flag test) (length tokens)
status_is tokens test (flag word t none s) =
    ap asked_by (asked_found word [] t s (ap (behind (goes_on (codes "0") [])) none)) ∙ ap (λ (second : List ℕ). Fits (Flag t) (size_with second)) none
status_is tokens test (compared sign zero t zeros s z g) =
    let follows : goes_on (codes "0") (zero ∷ []) ≡ true = and_from _ _ z (or_left zero.glued _ g) in
    ap asked_by (asked_found sign (zero ∷ []) t s (ap (behind (goes_on (codes "0") (zero ∷ []))) zeros ∙ follows))
    ∙ ap (λ (second : List ℕ). Fits (Flag t) (size_with second)) zeros

-- a place is no question to the status word

asked_apart : (test : Test) → IsNoPlace (first_of test)
asked_apart test.Eq = record { other = refl; digits = refl }
asked_apart test.Ne = record { other = refl; digits = refl }
asked_apart test.Gt = record { other = refl; digits = refl }
asked_apart test.Lt = record { other = refl; digits = refl }
asked_apart test.Ge = record { other = refl; digits = refl }
asked_apart test.Le = record { other = refl; digits = refl }
asked_apart test.Uo = record { other = refl; digits = refl }
asked_apart test.Ov = record { other = refl; digits = refl }
asked_apart test.Os = record { other = refl; digits = refl }
asked_apart test.Br = record { other = refl; digits = refl }

not_asked : (tokens : List Token) (test : Test) → text_is (first_of test) tokens ≡ false → is_asked tokens test ≡ false
not_asked [] test h = refl
not_asked (first ∷ rest) test h = and_left _ _ (and_right _ _ h)

place_not_asked : (tokens : List Token) (place : RawPlace) → IsPlace tokens place → status_at tokens ≡ No
place_not_asked tokens place is =
    ap asked_by (none_found (is_asked tokens) tests (λ test. not_asked tokens test (place_no_text tokens place (first_of test) is (asked_apart test))))

-- nor is an operand in a bracket

asked_unopened : (test : Test) → is_opening (str_to_ascii_lowercase (first_of test)) ≡ false
asked_unopened test.Eq = refl
asked_unopened test.Ne = refl
asked_unopened test.Gt = refl
asked_unopened test.Lt = refl
asked_unopened test.Ge = refl
asked_unopened test.Le = refl
asked_unopened test.Uo = refl
asked_unopened test.Ov = refl
asked_unopened test.Os = refl
asked_unopened test.Br = refl

bracketed_not_asked : (tokens : List Token) → IsBracketed tokens → status_at tokens ≡ No
bracketed_not_asked tokens is =
    ap asked_by (none_found (is_asked tokens) tests (λ test. not_asked tokens test (bracketed_no_text tokens (first_of test) is (asked_unopened test))))

-- a place, a name or an operand in a bracket
data IsSomewhere (tokens : List Token) : Type 0 where
  by_place : (place : RawPlace) → IsPlace tokens place → IsSomewhere tokens
  by_name : (operand : RawOperand) → IsNamed tokens operand → IsSomewhere tokens
  in_bracket : IsBracketed tokens → IsSomewhere tokens

placed_somewhere : (tokens : List Token) (operand : RawOperand) → IsPlaced tokens operand → IsSomewhere tokens
placed_somewhere tokens operand (form.at ts place is) = by_place place is
placed_somewhere tokens operand (form.named ts o is) = by_name o is
placed_somewhere tokens operand (form.indirect ts o is) = in_bracket (indirect_bracketed ts o is)

somewhere : (tokens : List Token) (operand : RawOperand) → IsLocated tokens operand → IsSomewhere tokens
somewhere tokens operand (form.placed ts o is) = placed_somewhere ts o is
somewhere tokens operand (form.crossing ts o is) = in_bracket (crossing_bracketed ts o is)

located_not_asked : (tokens : List Token) → IsSomewhere tokens → status_at tokens ≡ No
located_not_asked tokens (by_place place is) = place_not_asked tokens place is
located_not_asked tokens (by_name o is) = named_not_asked tokens o is
located_not_asked tokens (in_bracket is) = bracketed_not_asked tokens is

located_there : (tokens : List Token) → IsSomewhere tokens → tokens ≡ [] → ⊥
located_there tokens (by_place place is) e = place_there tokens place is e
located_there tokens (by_name o is) e = named_there tokens o is e
located_there tokens (in_bracket is) e = bracketed_there tokens is e

checked_read : (tokens : List Token) (operand : RawOperand) → IsOperand shape.Checked tokens operand → checked_at tokens ≡ Fits operand (length tokens)
checked_read tokens operand (form.checked_located ts o is) =
    or_no (status_at ts) (located_at ts) (located_not_asked ts (somewhere ts o is)) ∙ located_read ts o is
checked_read tokens operand (form.status ts test is) = or_this (status_at ts) _ (Flag test) (length ts) (status_is ts test is)

-- where something is read, something stands
nothing_no : (tokens : List Token) → (tokens ≡ [] → ⊥) → nothing_at tokens ≡ No
nothing_no [] there = absurd (there refl)
nothing_no (first ∷ rest) there = refl

checked_there : (tokens : List Token) (operand : RawOperand) → IsOperand shape.Checked tokens operand → tokens ≡ [] → ⊥
checked_there tokens operand (form.checked_located ts o is) e = located_there ts (somewhere ts o is) e
checked_there tokens operand (form.status ts test is) e = by ts test is e
  where
    by : (ts : List Token) (test : Test) → IsStatusOperand ts test → ts ≡ [] → ⊥
    by ts test (flag word t none s) e = absurd cc
    by ts test (compared sign zero t zeros s z g) e = absurd cc

or_nothing_read : (tokens : List Token) (r : Read RawOperand) (operand : RawOperand) → (tokens ≡ [] → ⊥) → r ≡ Fits operand (length tokens) →
    or_nothing tokens r ≡ Fits operand (length tokens)
or_nothing_read tokens r operand there e = or_no (nothing_at tokens) r (nothing_no tokens there) ∙ e

stw_read : (word : Token) → is_word (codes "STW") word ≡ true → stw_at (word ∷ []) ≡ Fits Stw 1
stw_read word is = if_true (is_word (codes "STW") word) _ No is

-- tokens that begin with none of these words are neither the status word nor the number of a data block

no_stw : (tokens : List Token) → word_is (codes "STW") tokens ≡ false → stw_at tokens ≡ No
no_stw [] h = refl
no_stw (first ∷ rest) h = if_false (is_word (codes "STW") first) _ No h

no_block_number : (tokens : List Token) → word_is (codes "DBNO") tokens ≡ false → word_is (codes "DINO") tokens ≡ false → block_number_at tokens ≡ No
no_block_number [] db di = refl
no_block_number (first ∷ rest) db di = if_false (is_word (codes "DBNO") first) _ _ db ∙ if_false (is_word (codes "DINO") first) _ No di

constant_no_stw : (tokens : List Token) (c : Literal) → IsConstant tokens c → stw_at tokens ≡ No
constant_no_stw tokens c is = no_stw tokens (constant_no_word tokens c (codes "STW") is (record { letter = refl; other = refl }))

constant_no_number : (tokens : List Token) (c : Literal) → IsConstant tokens c → block_number_at tokens ≡ No
constant_no_number tokens c is =
    no_block_number tokens (constant_no_word tokens c (codes "DBNO") is (record { letter = refl; other = refl }))
    (constant_no_word tokens c (codes "DINO") is (record { letter = refl; other = refl }))

-- a word with which no place and no operand in a bracket begins
record IsElsewhere (word : List ℕ) : Type 0 where
  no_place : IsNoPlace word
  unopened : is_opening (str_to_ascii_lowercase word) ≡ false

located_no_word : (tokens : List Token) (word : List ℕ) → IsSomewhere tokens → IsElsewhere word → word_is word tokens ≡ false
located_no_word tokens word (by_place place is) none = place_no_word tokens place word is none.no_place
located_no_word tokens word (by_name o is) none = named_no_word tokens o word is
located_no_word tokens word (in_bracket is) none = bracketed_no_word tokens word is none.unopened

located_no_stw : (tokens : List Token) → IsSomewhere tokens → stw_at tokens ≡ No
located_no_stw tokens is =
    no_stw tokens (located_no_word tokens (codes "STW") is (record { no_place = record { other = refl; digits = refl }; unopened = refl }))

located_no_number : (tokens : List Token) → IsSomewhere tokens → block_number_at tokens ≡ No
located_no_number tokens is =
    no_block_number tokens (located_no_word tokens (codes "DBNO") is (record { no_place = record { other = refl; digits = refl }; unopened = refl }))
    (located_no_word tokens (codes "DINO") is (record { no_place = record { other = refl; digits = refl }; unopened = refl }))

located_no_constant : (tokens : List Token) → IsSomewhere tokens → constant_at tokens ≡ No
located_no_constant tokens (by_place place is) = place_no_constant tokens place is
located_no_constant tokens (by_name o is) = named_no_constant tokens o is
located_no_constant tokens (in_bracket is) = bracketed_no_constant tokens is

located_no_mark : (table : List Prefixed) (tokens : List Token) → IsSomewhere tokens → marked_at table tokens ≡ No
located_no_mark table tokens (by_place place is) = no_mark table tokens (place_unmarked tokens place is)
located_no_mark table tokens (by_name o is) = named_no_mark table tokens o is
located_no_mark table tokens (in_bracket is) = no_mark table tokens (bracketed_unmarked tokens is)

-- a pointer begins with P
no_hash : (read : List Token → Read RawPointer) (tokens : List Token) → word_is (codes "P") tokens ≡ false → behind_hash read tokens ≡ No
no_hash read [] h = refl
no_hash read (word ∷ []) h = refl
no_hash read (word ∷ hash ∷ rest) h =
    if_false (is_word (codes "P") word && is_joined (codes "#") hash && begins_glued rest) _ No (and_left _ _ (and_left _ _ h))

located_no_pointer : (tokens : List Token) → IsSomewhere tokens → pointer_at tokens ≡ No
located_no_pointer tokens is =
    no_hash pointer_behind tokens (located_no_word tokens (codes "P") is (record { no_place = record { other = refl; digits = refl }; unopened = refl }))

located_no_any_constant : (tokens : List Token) → IsSomewhere tokens → any_constant_at tokens ≡ No
located_no_any_constant tokens is =
    or_no (read_as Constant (constant_at tokens)) _ (ap (read_as Constant) (located_no_constant tokens is))
    ∙ ap (read_as Pointer) (located_no_pointer tokens is)

-- Pointers

hashed_no_word : (tokens : List Token) (word : List ℕ) → Hashed tokens → is_same_word word (codes "P") ≡ false → word_is word tokens ≡ false
hashed_no_word tokens word h differ = subst (λ (ts : List Token). word_is word ts ≡ false) h.all (other_word (codes "P") word h.word h.word_is differ)

hashed_no_constant : (tokens : List Token) → Hashed tokens → constant_at tokens ≡ No
hashed_no_constant tokens h = subst (λ (ts : List Token). constant_at ts ≡ No) h.all (pointer_no_constant h.word h.hash h.rest h.word_is h.hash_is h.no_name)

hashed_no_left_out : (tokens : List Token) → Hashed tokens → marked_at left_out_prefixes tokens ≡ No
hashed_no_left_out tokens h =
    subst (λ (ts : List Token). marked_at left_out_prefixes ts ≡ No) h.all (pointer_no_left_out h.word h.hash h.rest h.word_is h.hash_is h.no_name)

hashed_there : (tokens : List Token) → Hashed tokens → tokens ≡ [] → ⊥
hashed_there tokens h e = let clash : h.word ∷ h.hash ∷ h.rest ≡ [] = h.all ∙ e in absurd cc

pointer_any_constant : (tokens : List Token) (p : RawPointer) → IsPointerConstant tokens p → any_constant_at tokens ≡ Fits (Pointer p) (length tokens)
pointer_any_constant tokens p is =
    or_no (read_as Constant (constant_at tokens)) _ (ap (read_as Constant) (hashed_no_constant tokens (pointer_hashed tokens p is)))
    ∙ ap (read_as Pointer) (pointer_at_read tokens p is)

constant_any_constant : (tokens : List Token) (c : Literal) → IsConstant tokens c → any_constant_at tokens ≡ Fits (Constant c) (length tokens)
constant_any_constant tokens c is =
    or_this (read_as Constant (constant_at tokens)) _ (Constant c) (length tokens) (ap (read_as Constant) (constant_read tokens c is))

pointer_alone_read : (read : List Token → Read RawPointer) (tokens : List Token) (p : RawPointer) → Hashed tokens → read tokens ≡ Fits p (length tokens) →
    pointer_alone_at read tokens ≡ Fits (Pointer p) (length tokens)
pointer_alone_read read tokens p h e =
    or_no (read_as Constant (marked_at left_out_prefixes tokens)) _ (ap (read_as Constant) (hashed_no_left_out tokens h)) ∙ ap (read_as Pointer) e

no_other : (r : Ar) (tokens : List Token) → word_is (codes "AR2") tokens ≡ false → other_at r tokens ≡ No
no_other ar.One [] h = refl
no_other ar.One (first ∷ rest) h = if_false (is_word (codes "AR2") first) _ No h
no_other ar.Two [] h = refl
no_other ar.Two (first ∷ rest) h = refl

located_no_other : (r : Ar) (tokens : List Token) → IsSomewhere tokens → other_at r tokens ≡ No
located_no_other r tokens is = no_other r tokens (by is)
  where
    by : IsSomewhere tokens → word_is (codes "AR2") tokens ≡ false
    by (by_place place is) = place_no_register tokens place (codes "AR2") is refl
    by (by_name o is) = named_no_word tokens o (codes "AR2") is
    by (in_bracket is) = bracketed_no_word tokens (codes "AR2") is refl

other_read : (word : Token) → is_word (codes "AR2") word ≡ true → other_at ar.One (word ∷ []) ≡ Fits OtherAr 1
other_read word is = if_true (is_word (codes "AR2") word) _ No is

pointer_loaded_read : (r : Ar) (tokens : List Token) (p : RawPointer)
    → IsPointerConstant tokens p → pointer_loaded_at r tokens ≡ Fits (Pointer p) (length tokens)
pointer_loaded_read r tokens p is =
    let h = pointer_hashed tokens p is in
    or_no (other_at r tokens) _ (no_other r tokens (hashed_no_word tokens (codes "AR2") h refl))
    ∙ or_this (pointer_alone_at pointer_at tokens) _ (Pointer p) (length tokens) (pointer_alone_read pointer_at tokens p h (pointer_at_read tokens p is))

pointer_loaded_placed : (r : Ar) (tokens : List Token) (operand : RawOperand)
    → IsPlaced tokens operand → pointer_loaded_at r tokens ≡ Fits operand (length tokens)
pointer_loaded_placed r tokens operand is =
    let s = placed_somewhere tokens operand is in
    or_no (other_at r tokens) _ (located_no_other r tokens s)
    ∙ or_no (pointer_alone_at pointer_at tokens) (placed_at tokens)
    (or_no (read_as Constant (marked_at left_out_prefixes tokens)) _ (ap (read_as Constant) (located_no_mark left_out_prefixes tokens s))
    ∙ ap (read_as Pointer) (located_no_pointer tokens s))
    ∙ placed_read tokens operand is

pointer_stored_placed : (r : Ar) (tokens : List Token) (operand : RawOperand)
    → IsPlaced tokens operand → pointer_stored_at r tokens ≡ Fits operand (length tokens)
pointer_stored_placed r tokens operand is =
    or_no (other_at r tokens) (placed_at tokens) (located_no_other r tokens (placed_somewhere tokens operand is)) ∙ placed_read tokens operand is

-- What is loaded and stored

db_read : (word : Token) → is_word (codes "DBNO") word ≡ true → loaded_at (word ∷ []) ≡ Fits DbNo 1
db_read word is =
    or_no (stw_at (word ∷ [])) _ (no_stw (word ∷ []) (other_word (codes "DBNO") (codes "STW") word is refl))
    ∙ or_this (block_number_at (word ∷ [])) _ DbNo 1 (if_true (is_word (codes "DBNO") word) _ _ is)

di_read : (word : Token) → is_word (codes "DINO") word ≡ true → loaded_at (word ∷ []) ≡ Fits DiNo 1
di_read word is =
    or_no (stw_at (word ∷ [])) _ (no_stw (word ∷ []) (other_word (codes "DINO") (codes "STW") word is refl))
    ∙ or_this (block_number_at (word ∷ [])) _ DiNo 1
    (if_false (is_word (codes "DBNO") word) _ _ (other_word (codes "DINO") (codes "DBNO") word is refl) ∙ if_true (is_word (codes "DINO") word) _ No is)

loaded_constant : (tokens : List Token) (c : Literal) → IsConstant tokens c → loaded_at tokens ≡ Fits (Constant c) (length tokens)
loaded_constant tokens c is =
    or_no (stw_at tokens) _ (constant_no_stw tokens c is) ∙ or_no (block_number_at tokens) _ (constant_no_number tokens c is)
    ∙ or_this (any_constant_at tokens) _ (Constant c) (length tokens) (constant_any_constant tokens c is)

loaded_pointer : (tokens : List Token) (p : RawPointer) → IsPointerConstant tokens p → loaded_at tokens ≡ Fits (Pointer p) (length tokens)
loaded_pointer tokens p is =
    let h = pointer_hashed tokens p is in
    or_no (stw_at tokens) _ (no_stw tokens (hashed_no_word tokens (codes "STW") h refl))
    ∙ or_no (block_number_at tokens) _ (no_block_number tokens (hashed_no_word tokens (codes "DBNO") h refl) (hashed_no_word tokens (codes "DINO") h refl))
    ∙ or_this (any_constant_at tokens) _ (Pointer p) (length tokens) (pointer_any_constant tokens p is)

loaded_located : (tokens : List Token) (operand : RawOperand) → IsLocated tokens operand → loaded_at tokens ≡ Fits operand (length tokens)
loaded_located tokens operand is =
    let s = somewhere tokens operand is in
    or_no (stw_at tokens) _ (located_no_stw tokens s) ∙ or_no (block_number_at tokens) _ (located_no_number tokens s)
    ∙ or_no (any_constant_at tokens) _ (located_no_any_constant tokens s)
    ∙ or_this (located_at tokens) (length_at tokens) operand (length tokens) (located_read tokens operand is)

stored_located : (tokens : List Token) (operand : RawOperand) → IsLocated tokens operand → stored_at tokens ≡ Fits operand (length tokens)
stored_located tokens operand is =
    or_no (stw_at tokens) (located_at tokens) (located_no_stw tokens (somewhere tokens operand is)) ∙ located_read tokens operand is

operand_read : (shape : OperandForm) (tokens : List Token) (operand : RawOperand)
    → IsOperand shape tokens operand → operand_by shape tokens ≡ Fits operand (length tokens)
operand_read shape tokens operand form.nothing = refl
operand_read shape tokens operand (form.bit ts o is) = located_read ts o is
operand_read shape tokens operand (form.checked_located ts o is) = checked_read ts o (form.checked_located ts o is)
operand_read shape tokens operand (form.status ts test is) = checked_read ts (Flag test) (form.status ts test is)
operand_read shape tokens operand (form.checked ts o is) = or_nothing_read ts (checked_at ts) o (checked_there ts o is) (checked_read ts o is)
operand_read shape tokens operand form.alone = refl
operand_read shape tokens operand (form.number most ts n is) = ap (read_as Constant) (number_at_read most ts n is)
operand_read shape tokens operand (form.count most ts n is) =
    or_nothing_read ts _ (Constant (plain n)) (up_to_there most ts n is) (ap (read_as Constant) (number_at_read most ts n is))
operand_read shape tokens operand (form.no_count most) = refl
operand_read shape tokens operand (form.addend ts c is) = ap (read_as Constant) (addend_read ts c is)
operand_read shape tokens operand (form.loaded_status word is) = or_this (stw_at (word ∷ [])) _ Stw 1 (stw_read word is)
operand_read shape tokens operand (form.loaded_db word is) = db_read word is
operand_read shape tokens operand (form.loaded_di word is) = di_read word is
operand_read shape tokens operand (form.loaded_constant ts c is) = loaded_constant ts c is
operand_read shape tokens operand (form.loaded_pointer ts p is) = loaded_pointer ts p is
operand_read shape tokens operand (form.loaded_located ts o is) = loaded_located ts o is
operand_read shape tokens operand (form.stored_status word is) = or_this (stw_at (word ∷ [])) _ Stw 1 (stw_read word is)
operand_read shape tokens operand (form.stored_located ts o is) = stored_located ts o is
operand_read shape tokens operand (form.combined ts c is) =
    or_nothing_read ts (any_constant_at ts) (Constant c) (constant_there ts c is) (constant_any_constant ts c is)
operand_read shape tokens operand (form.combined_pointer ts p is) =
    or_nothing_read ts (any_constant_at ts) (Pointer p) (hashed_there ts (pointer_hashed ts p is)) (pointer_any_constant ts p is)
operand_read shape tokens operand form.no_constant = refl
operand_read shape tokens operand (form.other_pointer_loaded word is) = or_this (other_at ar.One (word ∷ [])) _ OtherAr 1 (other_read word is)
operand_read shape tokens operand (form.pointer_loaded r ts p is) =
    or_nothing_read ts (pointer_loaded_at r ts) (Pointer p) (hashed_there ts (pointer_hashed ts p is)) (pointer_loaded_read r ts p is)
operand_read shape tokens operand (form.pointer_loaded_from r ts o is) =
    or_nothing_read ts (pointer_loaded_at r ts) o (located_there ts (placed_somewhere ts o is)) (pointer_loaded_placed r ts o is)
operand_read shape tokens operand (form.pointer_loaded_alone r) = refl
operand_read shape tokens operand (form.other_pointer_stored word is) = or_this (other_at ar.One (word ∷ [])) _ OtherAr 1 (other_read word is)
operand_read shape tokens operand (form.pointer_stored_in r ts o is) =
    or_nothing_read ts (pointer_stored_at r ts) o (located_there ts (placed_somewhere ts o is)) (pointer_stored_placed r ts o is)
operand_read shape tokens operand (form.pointer_stored_alone r) = refl
operand_read shape tokens operand (form.offset ts p is) =
    let h = offset_hashed ts p is in
    or_nothing_read ts (pointer_alone_at offset_at ts) (Pointer p) (hashed_there ts h) (pointer_alone_read offset_at ts p h (offset_at_read ts p is))
operand_read shape tokens operand form.no_offset = refl
operand_read shape tokens operand (form.opened ts o is) = opened_read ts o is
operand_read shape tokens operand (form.label word is) = if_true (is_label_word word) _ No is
operand_read shape tokens operand (form.called ts o is) = called_read ts o is
operand_read shape tokens operand (form.called_alone ts o is) = called_alone_read ts o is

statement_read : (tokens : List Token) (row : Row) (operand : RawOperand) → IsStatement tokens row operand
    → statement tokens ≡ Ok (record { mnemonic = name_of row; operand = operand })
statement_read tokens row operand is =
    let behind = drop (size_with row.second) tokens in
    if_false (begins_with_label tokens) _ _ is.unlabelled
    ∙ ap (λ (o : Option Row). with_mnemonic tokens o) is.mnemonic
    ∙ ap (λ (r : Read RawOperand). with_operand (name_of row) (length behind) r) (operand_read (operand_form_of row.what) behind operand is.behind)
    ∙ if_true (length behind == length behind) _ _ (same_size (length behind))

complete : (tokens : List Token) (instr : RawInstr) → IsInstruction tokens instr → instruction_of tokens ≡ Ok instr
unfolding instruction_of
complete tokens instr (plain_instruction first rest row operand is) =
    ap (λ (b : Bool). instruction_from b first rest) is.unlabelled
    ∙ ap (λ (s : Result RawOp Reason). on_line None first.line s) (statement_read (first ∷ rest) row operand is)
complete tokens instr (labelled_instruction label colon rest row operand word sign is) =
    ap (λ (b : Bool). instruction_from b label (colon ∷ rest)) (and_from _ _ word sign)
    ∙ ap (λ (s : Result RawOp Reason). on_line (Some label.text) label.line s) (statement_read rest row operand is)

pub have_forms : InstructionsHaveForms
have_forms = record { sound = sound; complete = complete }
