-- Operands of one statement, held against worked rows by computing the definitions.
use Rattle.std.proofs.Common.{◌≡◌, refl, false, List, [], ◌∷◌, ℕ, Option, Some, None, Ok, Err, Result, pos, negsuc}
use Rattle.std.specs.Prelude.{codes}
use Rattle.memory_areas.specs.declared.place.AreaName.{AreaName}
use Rattle.memory_areas.specs.declared.place.AreaName.TheVariants as area
use Rattle.s7_base.specs.Tokens.{tokens_of}
use Rattle.s7_base.specs.declared.reason.Kind.TheVariants as kind
use Rattle.s7_base.specs.declared.reason.Reason.{Reason}
use Rattle.s7_base.specs.declared.reason.Reason.TheVariants.{BadStatement, Unsupported}
use Rattle.s7_base.specs.declared.reason.Rejection.{Rejection}
use Rattle.s7_base.specs.declared.token.Token.{Token}
use Rattle.s7_base.specs.declared.word.Width.{Width}
use Rattle.s7_base.specs.declared.word.Width.TheVariants as width
use Rattle.stl_statement_grammar.specs.Mnemonics.{mnemonic_at}
use Rattle.stl_statement_grammar.specs.Statements.{statement}
use Rattle.stl_tree.specs.declared.raw.PathStep.TheVariants as step
use Rattle.stl_tree.specs.declared.raw.RawName.TheVariants.{Name, Number}
use Rattle.stl_tree.specs.declared.raw.RawOp.{RawOp}
use Rattle.stl_tree.specs.declared.raw.RawOperand.{RawOperand}
use Rattle.stl_tree.specs.declared.raw.RawOperand.TheVariants.{At, Constant, DbNo, DiNo, InBlock, Local, Missing, Named, OpenDb, OpenDi}

-- what a text says that is one statement without its `;`
abbrev pub said_of : Result (List Token) Rejection → Result RawOp Reason
said_of (Ok tokens) = statement tokens
said_of (Err rejection) = Err BadStatement

abbrev pub said : List ℕ → Result RawOp Reason
said text = said_of (tokens_of text)

-- what each of some texts says
abbrev pub all_said : List (List ℕ) → List (Result RawOp Reason)
all_said [] = []
all_said (text ∷ rest) = said text ∷ all_said rest

abbrev pub is : List ℕ → RawOperand → Result RawOp Reason
is mnemonic operand = Ok (record { mnemonic = mnemonic; operand = operand })

abbrev at : Option ℕ → AreaName → Width → ℕ → ℕ → RawOperand
at block name w byte bit = At (record { block = block; area = name; width = w; byte = byte; bit = bit })

abbrev pub bad : Result RawOp Reason
bad = Err BadStatement

bits :
    all_said
    (codes "A I0.0" ∷ codes "A i 00.07" ∷ codes "= Q 4 .0" ∷ codes "S M 70000.9" ∷ codes "AN L 1.1" ∷ codes "O DBX0.0" ∷ codes "R DIX 99999999999.8" ∷ [])
    ≡ is (codes "A") (at None area.I width.Bit 0 0) ∷ is (codes "A") (at None area.I width.Bit 0 7) ∷ bad
    ∷ is (codes "S") (at None area.M width.Bit 70000 9) ∷ is (codes "AN") (at None area.L width.Bit 1 1)
    ∷ is (codes "O") (at None area.Db width.Bit 0 0) ∷ is (codes "R") (at None area.Di width.Bit 4294967295 8) ∷ []
unfolding tokens_of mnemonic_at
bits = refl

bytes :
    all_said
    (codes "L MB5" ∷ codes "L dbw 4" ∷ codes "T DIB 65536" ∷ codes "T DID0" ∷ codes "L LD 2"
    ∷ codes "L LB{x}7" ∷ codes "L PW 0" ∷ codes "L MB5X" ∷ codes "L MB" ∷ [])
    ≡ is (codes "L") (at None area.M width.Byte 5 0) ∷ is (codes "L") (at None area.Db width.Word 4 0)
    ∷ is (codes "T") (at None area.Di width.Byte 65536 0) ∷ is (codes "T") (at None area.Di width.Dword 0 0)
    ∷ is (codes "L") (at None area.L width.Dword 2 0) ∷ is (codes "L") (at None area.L width.Byte 7 0) ∷ bad ∷ bad ∷ bad ∷ []
unfolding tokens_of mnemonic_at
bytes = refl

-- the width of a place is judged later
other_widths :
    all_said (codes "A MW 0" ∷ codes "L M 0.0" ∷ codes "T I 0.0" ∷ codes "= DB1.DBB 2" ∷ codes "L MW 0.0" ∷ codes "A M 0" ∷ [])
    ≡ is (codes "A") (at None area.M width.Word 0 0) ∷ is (codes "L") (at None area.M width.Bit 0 0)
    ∷ is (codes "T") (at None area.I width.Bit 0 0) ∷ is (codes "=") (at (Some 1) area.Db width.Byte 2 0) ∷ bad ∷ bad ∷ []
unfolding tokens_of mnemonic_at
other_widths = refl

numbered_blocks :
    all_said (codes "L DB5.DBW 4" ∷ codes "A DB 5.DBX0.0" ∷ codes "T DB 99999999999.DBD0" ∷ codes "L DB 0.DBB 1" ∷ [])
    ≡ is (codes "L") (at (Some 5) area.Db width.Word 4 0) ∷ is (codes "A") (at (Some 5) area.Db width.Bit 0 0)
    ∷ is (codes "T") (at (Some 4294967295) area.Db width.Dword 0 0) ∷ is (codes "L") (at (Some 0) area.Db width.Byte 1 0) ∷ []
unfolding tokens_of mnemonic_at
numbered_blocks = refl

unnumbered_blocks :
    all_said
    (codes "L DB5 .DBW 4" ∷ codes "L DB5. DBW 4" ∷ codes "L DI5.DIW 4" ∷ codes "L DB5.DIW 4"
    ∷ codes "L DB5.MW 4" ∷ codes "L DB.DBW 4" ∷ codes "L DB5" ∷ codes "L DB 5.DBX" ∷ [])
    ≡ bad ∷ bad ∷ bad ∷ bad ∷ bad ∷ bad ∷ bad ∷ bad ∷ []
unfolding tokens_of mnemonic_at
unnumbered_blocks = refl

open_blocks :
    all_said (codes "OPN DB 5" ∷ codes "opn db5" ∷ codes "OPN DI 0" ∷ codes "CDB" ∷ codes "L DBNO" ∷ codes "L dino" ∷ [])
    ≡ is (codes "OPN") (OpenDb (Number 5)) ∷ is (codes "OPN") (OpenDb (Number 5)) ∷ is (codes "OPN") (OpenDi (Number 0))
    ∷ is (codes "CDB") Missing ∷ is (codes "L") DbNo ∷ is (codes "L") DiNo ∷ []
unfolding tokens_of mnemonic_at
open_blocks = refl

-- what has no form, or is left out
other_blocks :
    all_said
    (codes "OPN DB [MD 0]" ∷ codes "OPN [MW 0]" ∷ codes "OPN" ∷ codes "OPN FB 5" ∷ codes "OPN DB 5 6" ∷ codes "CDB 5"
    ∷ codes "T DBNO" ∷ codes "L DBNO 1" ∷ codes "L DBLG" ∷ codes "A T 1" ∷ codes "L PIW [MD 0]" ∷ [])
    ≡ bad ∷ bad ∷ bad ∷ bad ∷ bad ∷ bad ∷ bad ∷ bad
    ∷ Err (Unsupported kind.DbLength) ∷ Err (Unsupported kind.Timer) ∷ Err (Unsupported kind.Peripheral) ∷ []
unfolding tokens_of mnemonic_at
other_blocks = refl

-- whether a constant fits its word logic is judged later
combined :
    all_said (codes "AW DW#16#1" ∷ codes "OD L#5" ∷ codes "XOW" ∷ codes "AW MW 0" ∷ [])
    ≡ is (codes "AW") (Constant (record { width = width.Dword; signed = false; binary = false; value = 1 }))
    ∷ is (codes "OD") (Constant (record { width = width.Dword; signed = false; binary = false; value = 5 }))
    ∷ is (codes "XOW") Missing ∷ bad ∷ []
unfolding tokens_of mnemonic_at
combined = refl

names :
    all_said (codes "A \"a b\"" ∷ codes "L \"\"" ∷ codes "= \"d\".x" ∷ codes "T \"d\".a.1b[1]" ∷ codes "A #x" ∷ codes "L #a[1,2].b[0]" ∷ [])
    ≡ is (codes "A") (Named (codes "a b")) ∷ is (codes "L") (Named []) ∷ is (codes "=") (InBlock (codes "d") (step.Name (codes "x") ∷ []))
    ∷ is (codes "T") (InBlock (codes "d") (step.Name (codes "a") ∷ step.Name (codes "1b") ∷ step.Index (pos 1 ∷ []) ∷ []))
    ∷ is (codes "A") (Local (step.Name (codes "x") ∷ []))
    ∷ is (codes "L") (Local (step.Name (codes "a") ∷ step.Index (pos 1 ∷ pos 2 ∷ []) ∷ step.Name (codes "b") ∷ step.Index (pos 0 ∷ []) ∷ [])) ∷ []
unfolding tokens_of mnemonic_at
names = refl

-- blanks are free inside the brackets of an index and before them; numbers are of any size
indices :
    all_said (codes "L #INT [ -1 , 2 ,-3 ] [007]" ∷ codes "T \"d\".a [ 99999999999, -99999999999 ] .b" ∷ codes "T \"d\".a [ 99999999999, -99999999999 ].b" ∷ [])
    ≡ is (codes "L") (Local (step.Name (codes "INT") ∷ step.Index (negsuc 0 ∷ pos 2 ∷ negsuc 2 ∷ []) ∷ step.Index (pos 7 ∷ []) ∷ []))
    ∷ bad
    ∷ is (codes "T") (InBlock (codes "d") (step.Name (codes "a") ∷ step.Index (pos 4294967295 ∷ negsuc 4294967294 ∷ []) ∷ step.Name (codes "b") ∷ [])) ∷ []
unfolding tokens_of mnemonic_at
indices = refl

-- what is no name, nor a path
no_names :
    all_said
    (codes "L # x" ∷ codes "L #a . b" ∷ codes "L #a. b" ∷ codes "L \"d\" .x" ∷ codes "L \"d\". x" ∷ codes "L #a[- 1]" ∷ codes "L #a[1,]"
    ∷ codes "L #a[]" ∷ codes "L #a[1" ∷ codes "L #" ∷ codes "L #\"a\"" ∷ codes "L \"d\".\"x\"" ∷ codes "AW \"a\"" ∷ codes "L #a[+1]" ∷ [])
    ≡ bad ∷ bad ∷ bad ∷ bad ∷ bad ∷ bad ∷ bad ∷ bad ∷ bad ∷ bad ∷ bad ∷ bad ∷ bad ∷ bad ∷ []
unfolding tokens_of mnemonic_at
no_names = refl

open_names :
    all_said
    (codes "OPN \"d\"" ∷ codes "OPN DB \"d\"" ∷ codes "OPN di\"d\"" ∷ codes "OPN DB5 \"d\"" ∷ codes "OPN FB \"d\"" ∷ codes "OPN \"d\".x" ∷ codes "OPN #d" ∷ [])
    ≡ is (codes "OPN") (OpenDb (Name (codes "d"))) ∷ is (codes "OPN") (OpenDb (Name (codes "d"))) ∷ is (codes "OPN") (OpenDi (Name (codes "d")))
    ∷ bad ∷ bad ∷ bad ∷ bad ∷ []
unfolding tokens_of mnemonic_at
open_names = refl
