-- Worked rows of the syntax.
use Rattle.st_tree.proofs.Common.{◌≡◌, ℕ, ◌≤◌, ◌<◌, true, false, List, [], ◌∷◌, Some, refl, arith, pos, codes, Line, is_free, may_name_global, may_name_local, may_name_unit}
use Rattle.memory_areas.specs.declared.place.AreaName.TheVariants.{Db}
use Rattle.s7_base.specs.declared.word.Width.TheVariants as width
use Rattle.st_lexer.proofs.Common.{StKind, StToken}
use Rattle.st_tree.specs.declared.token.StKind.TheVariants as sort
use Rattle.st_grammar.proofs.Common.{Form, literal, variable, group, prefix, infix_of, label, more_labels, assign, choice_else, cases_else, jump, Statements, none, empty, further, no_arm, arm, no_case, case_arm, no_item, single, times, plain, bytes, Globals, no_global, global, absent, no_unit, unit, Source, Binds, Fits, is_global, spell, spell_one, spell_globals, spell_source, tree, tree_globals, raw_tree, on_line, kind_of, word_named, word_text, sign_named, levels, levels_source}
use Rattle.st_grammar.specs.Grammar.{arm_of}
use Rattle.st_grammar.specs.declared.kind.Fixed.TheVariants as fixed
use Rattle.st_grammar.specs.declared.kind.Function.TheVariants as function
use Rattle.st_grammar.specs.declared.kind.Jump.TheVariants as jump_word
use Rattle.st_grammar.specs.declared.kind.GrammarKind.TheVariants as kind
use Rattle.st_grammar.specs.declared.kind.Lead.TheVariants as lead
use Rattle.st_grammar.specs.declared.kind.Literal.TheVariants as lit
use Rattle.st_grammar.specs.declared.kind.OneOperand.TheVariants as one
use Rattle.st_grammar.specs.declared.kind.Prefix.TheVariants as before
use Rattle.st_tree.specs.declared.expr.BinaryOp.TheVariants as binary
use Rattle.st_tree.specs.declared.expr.StType.TheVariants as type
use Rattle.st_tree.specs.declared.raw.RawExpr.TheVariants as expr
use Rattle.st_tree.specs.declared.raw.RawGlobalType.TheVariants as global_type
use Rattle.st_tree.specs.declared.raw.RawStmtKind.TheVariants as stmt
use Rattle.st_tree.specs.declared.raw.RawVar.TheVariants as var

abbrev on : ℕ → Line
on n = record { 0 = n }

-- Kinds of tokens

abbrev token : StKind → List ℕ → ℕ → StToken
token sort text n = record { kind = sort; text = text; line = on n }

words_ignore_case : kind_of (token sort.Word (codes "If") 3) ≡ kind.Lead lead.If (on 3)
unfolding word_named word_text
words_ignore_case = refl

conversions : kind_of (token sort.Word (codes "DWORD_to_INT") 1) ≡ kind.Fixed (fixed.Function (function.One (one.Convert type.Dword type.Int)))
unfolding word_named word_text
conversions = refl

no_conversion : kind_of (token sort.Word (codes "INT_TO_INT") 4) ≡ kind.Variable (var.Name (codes "INT_TO_INT")) (on 4)
unfolding word_named word_text
no_conversion = refl

nothing_to_bool : kind_of (token sort.Word (codes "INT_TO_BOOL") 4) ≡ kind.Variable (var.Name (codes "INT_TO_BOOL")) (on 4)
unfolding word_named word_text
nothing_to_bool = refl

truths : kind_of (token sort.Word (codes "true") 1) ≡ kind.Literal (lit.Typed type.Bool (pos 1))
unfolding word_named word_text
truths = refl

and_sign : kind_of (token sort.Sign (codes "&") 1) ≡ kind.Fixed (fixed.Between binary.And)
unfolding sign_named
and_sign = refl

places : kind_of (token sort.Direct (codes "%DB5.DBW4") 2) ≡ kind.Variable (var.Direct Db (Some 5) width.Word 4 0) (on 2)
places = refl

byte_literal : kind_of (token sort.Literal (codes "16#0_5") 1) ≡ kind.Literal (lit.Byte 5)
byte_literal = refl

based_literal : kind_of (token sort.Literal (codes "16#5") 1) ≡ kind.Literal (lit.Typed type.Dword (pos 5))
based_literal = refl

great_decimal : kind_of (token sort.Literal (codes "5000000000") 1) ≡ kind.Literal (lit.Decimal 4294967295)
great_decimal = refl

-- Names

registers_are_reserved : is_free (codes "Accu1") ≡ false
registers_are_reserved = refl

locals_may_be_next : may_name_local (codes "next") ≡ true
locals_may_be_next = refl

units_may_be_numbered : may_name_unit (codes "fc010") ≡ true
units_may_be_numbered = refl

units_are_no_blocks : may_name_unit (codes "DB5") ≡ false
units_are_no_blocks = refl

globals_may_be_blocks : may_name_global (codes "DB05") ≡ true
globals_may_be_blocks = refl

numbers_are_digits : is_free (codes "FC1_0") ≡ true
numbers_are_digits = refl

-- Grouping

abbrev named : List ℕ → Form
named name = variable (var.Name name) (on 1)

abbrev a : Form
a = named (codes "a")

abbrev b : Form
b = named (codes "b")

abbrev c : Form
c = named (codes "c")

and_before_or : Binds (infix_of binary.Or a (infix_of binary.And b c))
and_before_or = (omega arith, omega arith, tt, (omega arith, omega arith, tt, tt))

or_is_weaker : Binds (infix_of binary.And (infix_of binary.Or a b) c) → ⊥
or_is_weaker h = let weak : 9 ≤ 7 = h.0 in omega arith

to_the_left : Binds (infix_of binary.Sub (infix_of binary.Sub a b) c)
to_the_left = (omega arith, omega arith, (omega arith, omega arith, tt, tt), tt)

not_to_the_right : Binds (infix_of binary.Sub a (infix_of binary.Sub b c)) → ⊥
not_to_the_right h = let strict : 4 < 4 = h.1 in omega arith

in_brackets : Binds (infix_of binary.Sub a (group (infix_of binary.Sub b c)))
in_brackets = (omega arith, omega arith, tt, (omega arith, omega arith, tt, tt))

minus_takes_no_not : Binds (prefix before.Minus (prefix before.Not a)) → ⊥
minus_takes_no_not h = let weak : 2 ≤ 1 = h.0 in omega arith

not_takes_minus : Binds (prefix before.Not (prefix before.Minus a))
not_takes_minus = (omega arith, (omega arith, tt))

same_tokens : spell (infix_of binary.Sub a (prefix before.Minus b)) [] ≡
    kind.Variable (var.Name (codes "a")) (on 1) ∷ kind.Fixed (fixed.Between binary.Sub)
    ∷ kind.Fixed (fixed.Between binary.Sub) ∷ kind.Variable (var.Name (codes "b")) (on 1) ∷ []
same_tokens = refl

brackets_leave_no_trace : tree (group a) ≡ expr.Read (var.Name (codes "a"))
brackets_leave_no_trace = refl

dint_literal : Binds (literal (lit.Decimal 2147483647))
dint_literal = refl

great_literal : Binds (literal (lit.Decimal 2147483648)) → ⊥
great_literal h = absurd (let e : false ≡ true = h in cc)

-- Levels, the last first: `(a) OR b`, whose operator has the height of `a` to its left

levels_of_tokens : levels 0 (infix_of binary.Or (group a) b) [] ≡ 0 ∷ 1 ∷ 0 ∷ 1 ∷ 1 ∷ []
levels_of_tokens = refl

-- Statements

exit_outside : Fits false (jump (on 1) jump_word.Exit) → ⊥
exit_outside h = absurd (let e : false ≡ true = h in cc)

exit_inside : Fits true (jump (on 1) jump_word.Exit)
exit_inside = refl

return_anywhere : Fits false (jump (on 1) jump_word.Return)
return_anywhere = refl

abbrev body : Statements
body = further none (assign (on 3) (var.Name (codes "b")) c)

-- PROGRAM p, and on the next lines `IF a THEN` and `b := c; ELSE END_IF; END_PROGRAM`
abbrev program : Source
program = record {
  globals = absent;
  units = unit no_unit (record { program = true; name = codes "p"; line = on 1; place = on 1 }) absent absent
      (empty (further none (choice_else (on 2) (arm no_arm a body) (empty none))));
}

program_tokens : spell_source program ≡
    kind.Lead lead.Program (on 1) ∷ kind.Variable (var.Name (codes "p")) (on 1)
    ∷ kind.Lead lead.If (on 2) ∷ kind.Variable (var.Name (codes "a")) (on 1) ∷ kind.Fixed fixed.Then
    ∷ kind.Variable (var.Name (codes "b")) (on 3) ∷ kind.Fixed fixed.Becomes ∷ kind.Variable (var.Name (codes "c")) (on 1) ∷ kind.Fixed fixed.Semicolon
    ∷ kind.Fixed fixed.Else ∷ kind.Fixed fixed.Semicolon ∷ kind.Fixed fixed.EndIf ∷ kind.Fixed fixed.Semicolon ∷ kind.Fixed fixed.Semicolon
    ∷ kind.Fixed fixed.EndProgram ∷ kind.Fixed fixed.End ∷ []
program_tokens = refl

program_tree : raw_tree program ≡ record {
  globals = [];
  pous = record {
    program = true;
    name = codes "p";
    line = on 1;
    formals = [];
    locals = [];
    body =
        on_line (on 2)
        (stmt.If (arm_of (expr.Read (var.Name (codes "a"))) (on_line (on 3) (stmt.Assign (var.Name (codes "b")) (expr.Read (var.Name (codes "c")))) ∷ []) ∷ [])
        []) ∷ [];
  } ∷ [];
}
program_tree = refl

-- the tokens in the IF are one level deep, and the operands in it too
program_levels : levels_source program ≡ 0 ∷ 0 ∷ 0 ∷ 0 ∷ 0 ∷ 1 ∷ 1 ∷ 1 ∷ 1 ∷ 1 ∷ 1 ∷ 1 ∷ 1 ∷ 1 ∷ 0 ∷ 0 ∷ []
program_levels = refl

-- `CASE a OF 1, 2: RETURN; ELSE END_CASE`
selection : spell_one
    (cases_else (on 1) a (case_arm no_case (more_labels (label (lit.Decimal 1)) (lit.Decimal 2)) (further none (jump (on 1) jump_word.Return))) none) [] ≡
    kind.Lead lead.Case (on 1) ∷ kind.Variable (var.Name (codes "a")) (on 1) ∷ kind.Fixed fixed.Of
    ∷ kind.Literal (lit.Decimal 1) ∷ kind.Fixed fixed.Comma ∷ kind.Literal (lit.Decimal 2)
    ∷ kind.Fixed fixed.Colon ∷ kind.Lead (lead.Jump jump_word.Return) (on 1)
    ∷ kind.Fixed fixed.Semicolon ∷ kind.Fixed fixed.Else ∷ kind.Fixed fixed.EndCase ∷ []
selection = refl

-- Globals

-- `DB5 AT %DB5.DBB0 : ARRAY[0..2] OF BYTE := [16#01, 2(16#0A)];`
abbrev block : Globals
block = global no_global (codes "DB5") (on 2) (var.Direct Db (Some 5) width.Byte 0 0) (on 2) (bytes 2 (times (single no_item 1) 2 10))

block_tokens : spell_globals block [] ≡
    kind.Variable (var.Name (codes "DB5")) (on 2) ∷ kind.Fixed fixed.At ∷ kind.Variable (var.Direct Db (Some 5) width.Byte 0 0) (on 2) ∷ kind.Fixed fixed.Colon
    ∷ kind.Fixed fixed.Array ∷ kind.Fixed fixed.OpenSquare ∷ kind.Literal (lit.Decimal 0)
    ∷ kind.Fixed fixed.Dots ∷ kind.Literal (lit.Decimal 2) ∷ kind.Fixed fixed.CloseSquare
    ∷ kind.Fixed fixed.Of ∷ kind.Fixed (fixed.Type type.Byte) ∷ kind.Fixed fixed.Becomes ∷ kind.Fixed fixed.OpenSquare
    ∷ kind.Literal (lit.Byte 1) ∷ kind.Fixed fixed.Comma ∷ kind.Literal (lit.Decimal 2)
    ∷ kind.Fixed fixed.Open ∷ kind.Literal (lit.Byte 10) ∷ kind.Fixed fixed.Close
    ∷ kind.Fixed fixed.CloseSquare ∷ kind.Fixed fixed.Semicolon ∷ []
block_tokens = refl

block_tree : tree_globals block
    ≡ record { name = codes "DB5"; line = on 2; at = var.Direct Db (Some 5) width.Byte 0 0; ty = global_type.Bytes 2 ((1, 1) ∷ (2, 10) ∷ []) } ∷ []
block_tree = refl

blocks_have_bytes : is_global (codes "DB5") (plain type.Word) ≡ false
blocks_have_bytes = refl

others_have_types : is_global (codes "x") (bytes 2 no_item) ≡ false
others_have_types = refl
