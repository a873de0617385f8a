-- The table of mnemonics. How each is written, and what it is. Of two that begin a statement the longer one comes
-- first in the table, so that the first row that fits is the one meant.
-- Held against: each chapter of the manual.
use Rattle.std.specs.Prelude.{ℕ, Bool, true, false, ◌&&◌, ◌||◌, List, [], ◌∷◌, ◌++◌, map, length, take, drop, codes, Option, option_map}
use Rattle.std.specs.List.{find}
use Rattle.s7_base.specs.Tokens.{is_same_word}
use Rattle.s7_base.specs.declared.check.Check.{Check}
use Rattle.s7_base.specs.declared.check.Check.TheVariants as check
use Rattle.s7_base.specs.declared.reason.Kind.TheVariants as kind
use Rattle.s7_base.specs.declared.token.Token.{Token}
use Rattle.s7_base.specs.declared.word.Width.TheVariants as width
use Rattle.status_word.specs.declared.test.Test.{Test}
use Rattle.status_word.specs.declared.test.Test.TheVariants as test
use Rattle.stl_statement_grammar.specs.Words.{is_sign, is_spelled}
use Rattle.stl_tree.specs.declared.accumulator.Arith.{Arith}
use Rattle.stl_tree.specs.declared.accumulator.Arith.TheVariants as arith
use Rattle.stl_tree.specs.declared.accumulator.LogicRow.TheVariants as logic
use Rattle.stl_tree.specs.declared.accumulator.ShiftRow.TheVariants as shift
use Rattle.stl_tree.specs.declared.accumulator.UnaryRow.TheVariants as unary
use Rattle.stl_tree.specs.declared.program.Ar.TheVariants as ar
use Rattle.stl_tree.specs.declared.program.JumpTest.TheVariants as jump
use Rattle.stl_statement_grammar.specs.declared.mnemonic.Mnemonic.{Mnemonic}
use Rattle.stl_statement_grammar.specs.declared.mnemonic.Mnemonic.TheVariants as is

-- a line of the table: a word or a sign, the word or sign after it, if there is one, and what the mnemonic is
pub record Row : Type 0 where
  pub first : List ℕ
  pub second : List ℕ
  pub what : Mnemonic

-- a mnemonic of one word or sign
abbrev pub one : Mnemonic → List ℕ → Row
one what first = record { first = first; second = []; what = what }

-- a mnemonic of two words or signs
abbrev pub two : Mnemonic → List ℕ → List ℕ → Row
two what first second = record { first = first; second = second; what = what }

-- mnemonics of one word or sign with the same meaning
abbrev pub ones : Mnemonic → List (List ℕ) → List Row
ones what words = map (one what) words

-- a check, which also opens a bracket
abbrev pub check_rows : Check → List ℕ → List Row
check_rows check word = two (is.Bracket check) word (codes "(") ∷ one (is.Check check) word ∷ []

-- a sign before I and D, for whole numbers of 16 and 32 bits, and R, for reals
abbrev pub typed : Mnemonic → Mnemonic → List ℕ → List Row
typed word dword sign =
    two word sign (codes "I") ∷ two dword sign (codes "D") ∷ two (is.LeftOut kind.Real) sign (codes "R") ∷ []

-- an arithmetic instruction, with I and with D
abbrev pub arithmetic_rows : Arith → Arith → List ℕ → List Row
arithmetic_rows word dword sign = typed (is.Arith word) (is.Arith dword) sign

-- a comparison, with I and with D
abbrev pub comparison_rows : Test → List ℕ → List Row
comparison_rows test sign = typed (is.Compare test width.Word) (is.Compare test width.Dword) sign

-- bit logic, setting, resetting and edges
abbrev pub bit_rows : List Row
bit_rows =
    check_rows check.A (codes "A") ++ check_rows check.An (codes "AN") ++ check_rows check.O (codes "O")
    ++ check_rows check.On (codes "ON") ++ check_rows check.X (codes "X") ++ check_rows check.Xn (codes "XN")
    ++ (two (is.LeftOut kind.MasterControl) (codes ")") (codes "MCR")
    ∷ one is.Close (codes ")") ∷ one is.Assign (codes "=") ∷ one is.Set (codes "S") ∷ one is.Reset (codes "R")
    ∷ one is.SetRlo (codes "SET") ∷ one is.ClearRlo (codes "CLR")
    ∷ one is.NotRlo (codes "NOT") ∷ one is.Save (codes "SAVE")
    ∷ one is.EdgeUp (codes "FP") ∷ one is.EdgeDown (codes "FN") ∷ [])

-- loading and transferring, arithmetic and comparisons
abbrev pub number_rows : List Row
number_rows =
    (one is.Load (codes "L") ∷ one is.Transfer (codes "T") ∷ [])
    ++ arithmetic_rows arith.AddI arith.AddD (codes "+") ++ arithmetic_rows arith.SubI arith.SubD (codes "-")
    ++ arithmetic_rows arith.MulI arith.MulD (codes "*") ++ arithmetic_rows arith.DivI arith.DivD (codes "/")
    ++ (two (is.AddAr ar.One) (codes "+") (codes "AR1")
    ∷ two (is.AddAr ar.Two) (codes "+") (codes "AR2") ∷ one is.Plus (codes "+") ∷ [])
    ++ comparison_rows test.Eq (codes "==")
    ++ comparison_rows test.Ne (codes "<>") ++ comparison_rows test.Gt (codes ">")
    ++ comparison_rows test.Lt (codes "<") ++ comparison_rows test.Ge (codes ">=")
    ++ comparison_rows test.Le (codes "<=")
    ++ (one (is.Arith arith.Mod) (codes "MOD") ∷ one is.Inc (codes "INC") ∷ one is.Dec (codes "DEC") ∷ [])

-- shifts, word logic, conversions and moves in the accumulators
abbrev pub accumulator_rows : List Row
accumulator_rows =
    one (is.Shift shift.Slw) (codes "SLW") ∷ one (is.Shift shift.Srw) (codes "SRW")
    ∷ one (is.Shift shift.Ssi) (codes "SSI")
    ∷ one (is.Shift shift.Sld) (codes "SLD") ∷ one (is.Shift shift.Srd) (codes "SRD")
    ∷ one (is.Shift shift.Ssd) (codes "SSD")
    ∷ one (is.Shift shift.Rld) (codes "RLD") ∷ one (is.Shift shift.Rrd) (codes "RRD")
    ∷ one is.Rlda (codes "RLDA") ∷ one is.Rrda (codes "RRDA")
    ∷ one (is.Logic logic.Aw) (codes "AW") ∷ one (is.Logic logic.Ow) (codes "OW")
    ∷ one (is.Logic logic.Xow) (codes "XOW")
    ∷ one (is.Logic logic.Ad) (codes "AD") ∷ one (is.Logic logic.Od) (codes "OD")
    ∷ one (is.Logic logic.Xod) (codes "XOD")
    ∷ one (is.Unary unary.Bti) (codes "BTI") ∷ one (is.Unary unary.Btd) (codes "BTD")
    ∷ one (is.Unary unary.Itb) (codes "ITB") ∷ one (is.Unary unary.Dtb) (codes "DTB")
    ∷ one (is.Unary unary.Itd) (codes "ITD")
    ∷ one (is.Unary unary.Invi) (codes "INVI") ∷ one (is.Unary unary.Invd) (codes "INVD")
    ∷ one (is.Unary unary.Caw) (codes "CAW") ∷ one (is.Unary unary.Cad) (codes "CAD")
    ∷ one (is.Unary unary.Negi) (codes "NEGI") ∷ one (is.Unary unary.Negd) (codes "NEGD")
    ∷ one is.Tak (codes "TAK") ∷ one is.Push (codes "PUSH") ∷ one is.Pop (codes "POP") ∷ []

-- a jump to a label where one of the results of CC1 and CC0 is there
abbrev pub result_jump : Test → List ℕ → Row
result_jump test word = one (is.Jump (jump.Result test)) word

-- jumps, loops, jump lists and block ends
abbrev pub jump_rows : List Row
jump_rows =
    one (is.Jump jump.Always) (codes "JU")
    ∷ one (is.Jump (jump.Rlo true)) (codes "JC") ∷ one (is.Jump (jump.Rlo false)) (codes "JCN")
    ∷ one (is.Jump (jump.RloSaved true)) (codes "JCB") ∷ one (is.Jump (jump.RloSaved false)) (codes "JNB")
    ∷ one (is.Jump (jump.Br true)) (codes "JBI") ∷ one (is.Jump (jump.Br false)) (codes "JNBI")
    ∷ one (is.Jump jump.Overflow) (codes "JO") ∷ one (is.Jump jump.StoredOverflow) (codes "JOS")
    ∷ result_jump test.Eq (codes "JZ") ∷ result_jump test.Ne (codes "JN")
    ∷ result_jump test.Gt (codes "JP") ∷ result_jump test.Lt (codes "JM")
    ∷ result_jump test.Ge (codes "JPZ") ∷ result_jump test.Le (codes "JMZ") ∷ result_jump test.Uo (codes "JUO")
    ∷ one is.Loop (codes "LOOP") ∷ one is.JumpList (codes "JL")
    ∷ one is.BlockEnd (codes "BE") ∷ one is.BlockEnd (codes "BEU") ∷ one is.BlockEndIf (codes "BEC") ∷ []

-- address registers, opening data blocks, what does nothing, jumps, block ends and calls; FR and LC are of the kind of
-- their operand
abbrev pub control_rows : List Row
control_rows =
    (one (is.LoadAr ar.One) (codes "LAR1") ∷ one (is.LoadAr ar.Two) (codes "LAR2")
    ∷ one (is.StoreAr ar.One) (codes "TAR1")
    ∷ one (is.StoreAr ar.Two) (codes "TAR2") ∷ one is.ExchangeAr (codes "CAR") ∷ [])
    ++ (one is.Open (codes "OPN") ∷ one is.ExchangeDb (codes "CDB") ∷ [])
    ++ ones is.Nop (codes "NOP" ∷ codes "BLD" ∷ [])
    ++ jump_rows
    ++ (one is.Call (codes "CALL") ∷ one is.CallAlone (codes "UC") ∷ one is.CallIf (codes "CC") ∷ [])
    ++ ones is.TimerOrCounter (codes "FR" ∷ codes "LC" ∷ [])

-- the forms that the translator does not support
abbrev pub left_out_rows : List Row
left_out_rows =
    ones (is.LeftOut kind.Timer) (codes "SP" ∷ codes "SE" ∷ codes "SD" ∷ codes "SS" ∷ codes "SF" ∷ [])
    ++ ones (is.LeftOut kind.Counter) (codes "CU" ∷ codes "CD" ∷ [])
    ++ (two (is.LeftOut kind.Real) (codes "RND") (codes "+")
    ∷ two (is.LeftOut kind.Real) (codes "RND") (codes "-") ∷ [])
    ++ ones (is.LeftOut kind.Real)
    (codes "RND" ∷ codes "ABS" ∷ codes "NEGR" ∷ codes "TRUNC"
    ∷ codes "DTR" ∷ codes "SQR" ∷ codes "SQRT" ∷ codes "EXP" ∷ codes "LN"
    ∷ codes "SIN" ∷ codes "COS" ∷ codes "TAN" ∷ codes "ASIN" ∷ codes "ACOS" ∷ codes "ATAN" ∷ [])
    ++ (two (is.LeftOut kind.MasterControl) (codes "MCR") (codes "(") ∷ [])
    ++ ones (is.LeftOut kind.MasterControl) (codes "MCRA" ∷ codes "MCRD" ∷ [])
    ++ ones (is.LeftOut kind.Accumulators) (codes "ENT" ∷ codes "LEAVE" ∷ [])

-- the table of mnemonics
abbrev pub rows : List Row
rows = bit_rows ++ number_rows ++ accumulator_rows ++ control_rows ++ left_out_rows

-- the second part of a mnemonic follows, or it has none; no blank comes before it but before a bracket
abbrev pub goes_on : List ℕ → List Token → Bool
goes_on [] tokens = true
goes_on (b ∷ second) [] = false
goes_on (b ∷ second) (token ∷ rest) = is_spelled (b ∷ second) token && (token.glued || is_sign (codes "(") token)

-- the tokens begin with the mnemonic of a line of the table
abbrev pub stands_at : List Token → Row → Bool
stands_at [] row = false
stands_at (first ∷ rest) row = is_spelled row.first first && goes_on row.second rest

-- the mnemonic with which the tokens begin
unfoldable pub mnemonic_at : List Token → Option Row
mnemonic_at tokens = find (stands_at tokens) rows

-- the mnemonic of a line of the table has this name
abbrev pub has_name : List ℕ → Row → Bool
has_name name row =
    is_same_word (take (length row.first) name) row.first && is_same_word (drop (length row.first) name) row.second

-- what the mnemonic of a name is
unfoldable pub mnemonic_named : List ℕ → Option Mnemonic
mnemonic_named name = option_map (λ row. row.what) (find (has_name name) rows)
