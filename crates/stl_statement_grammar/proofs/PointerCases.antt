-- Pointer constants and operands that are found by a pointer, held against worked rows by computing the definitions.
use Rattle.std.proofs.Common.{◌≡◌, refl, [], ◌∷◌, ℕ, None, Err, Result}
use Rattle.std.specs.Prelude.{codes}
use Rattle.memory_areas.specs.declared.place.AreaName.{AreaName}
use Rattle.memory_areas.specs.declared.place.AreaName.TheVariants as area
use Rattle.s7_base.specs.Tokens.{tokens_of}
use Rattle.s7_base.specs.declared.reason.Kind.{Kind}
use Rattle.s7_base.specs.declared.reason.Kind.TheVariants as kind
use Rattle.s7_base.specs.declared.reason.Reason.{Reason}
use Rattle.s7_base.specs.declared.reason.Reason.TheVariants.{Unsupported}
use Rattle.s7_base.specs.declared.word.Width.{Width}
use Rattle.s7_base.specs.declared.word.Width.TheVariants as width
use Rattle.stl_statement_grammar.specs.Mnemonics.{mnemonic_at}
use Rattle.stl_statement_grammar.specs.Pointers.{pointer, value_of}
use Rattle.stl_statement_grammar.proofs.OperandCases.{all_said, is, bad}
use Rattle.stl_tree.specs.declared.program.Ar.TheVariants.{One, Two}
use Rattle.stl_tree.specs.declared.raw.RawOp.{RawOp}
use Rattle.stl_tree.specs.declared.raw.RawOperand.TheVariants.{At, ByMemory, ByRegister, Crossing, Local, Missing, Named, OpenDbBy, OpenDiBy, OtherAr, Pointer}
use Rattle.stl_tree.specs.declared.raw.PathStep.TheVariants as step
use Rattle.stl_tree.specs.declared.raw.RawPlace.{RawPlace}

abbrev place : AreaName → Width → ℕ → RawPlace
place name w byte = record { block = None; area = name; width = w; byte = byte; bit = 0 }

abbrev left_out : Kind → Result RawOp Reason
left_out k = Err (Unsupported k)

constants :
    all_said
    (codes "L P#10.0" ∷ codes "L p#M 10.3" ∷ codes "L P#M10.3" ∷ codes "L P#I 0.0" ∷ codes "L P#Q 0.0" ∷ codes "L P#L 0.0"
    ∷ codes "L P#DBX 0.0" ∷ codes "L P#DIX0.0" ∷ codes "AD P#0.0" ∷ codes "AW P#0.0" ∷ codes "L P#70000.9" ∷ [])
    ≡ is (codes "L") (Pointer (pointer 0 10 0)) ∷ is (codes "L") (Pointer (pointer 131 10 3)) ∷ is (codes "L") (Pointer (pointer 131 10 3))
    ∷ is (codes "L") (Pointer (pointer 129 0 0)) ∷ is (codes "L") (Pointer (pointer 130 0 0)) ∷ is (codes "L") (Pointer (pointer 134 0 0))
    ∷ is (codes "L") (Pointer (pointer 132 0 0)) ∷ is (codes "L") (Pointer (pointer 133 0 0)) ∷ is (codes "AD") (Pointer (pointer 0 0 0))
    ∷ is (codes "AW") (Pointer (pointer 0 0 0)) ∷ is (codes "L") (Pointer (pointer 0 70000 9)) ∷ []
unfolding tokens_of mnemonic_at
constants = refl

no_constants :
    all_said
    (codes "L P #10.0" ∷ codes "L P# 10.0" ∷ codes "L P#10 .0" ∷ codes "L P#MW 10"
    ∷ codes "L P#DB5.DBX 0.0" ∷ codes "L P#10" ∷ codes "+ P#1.0" ∷ codes "SLW P#1.0" ∷ codes "L P##x" ∷ [])
    ≡ bad ∷ bad ∷ bad ∷ bad ∷ bad ∷ bad ∷ bad ∷ bad ∷ left_out kind.NamePointer ∷ []
unfolding tokens_of mnemonic_at
no_constants = refl

value : value_of (pointer 131 10 3) ≡ 0x83000053
value = refl

by_memory :
    all_said (codes "L MW [MD 0]" ∷ codes "A M[ LD4 ]" ∷ codes "= DBX [DBD 70000]" ∷ codes "S i[DID 2]" ∷ codes "T DIB [MD 4]" ∷ codes "L L [MD 0]" ∷ [])
    ≡ is (codes "L") (ByMemory area.M width.Word (place area.M width.Dword 0)) ∷ is (codes "A") (ByMemory area.M width.Bit (place area.L width.Dword 4))
    ∷ is (codes "=") (ByMemory area.Db width.Bit (place area.Db width.Dword 70000)) ∷ is (codes "S") (ByMemory area.I width.Bit (place area.Di width.Dword 2))
    ∷ is (codes "T") (ByMemory area.Di width.Byte (place area.M width.Dword 4)) ∷ is (codes "L") (ByMemory area.L width.Bit (place area.M width.Dword 0)) ∷ []
unfolding tokens_of mnemonic_at
by_memory = refl

not_by_memory :
    all_said
    (codes "L MW [ID 0]" ∷ codes "L MW [MW 0]" ∷ codes "L MW [DB1.DBD 0]" ∷ codes "L MW [\"p\"]" ∷ codes "L MW [#p]" ∷ codes "L MW [MD 0"
    ∷ codes "L MW MD 0]" ∷ codes "L W [MD 0]" ∷ codes "L DB5.DBW [MD 0]" ∷ codes "L MW [MD [MD 0]]" ∷ codes "L MW 0 [MD 0]" ∷ [])
    ≡ bad ∷ bad ∷ bad ∷ bad ∷ bad ∷ bad ∷ bad ∷ bad ∷ bad ∷ bad ∷ bad ∷ []
unfolding tokens_of mnemonic_at
not_by_memory = refl

by_register :
    all_said
    (codes "L MW [ AR1 , P#0.0 ]" ∷ codes "A M [AR2,P#1.7]" ∷ codes "= [AR1,P#0.0]" ∷ codes "L B [AR2,P#2.0]"
    ∷ codes "T w[ar1,p#2.0]" ∷ codes "T D [AR1,P#70000.9]" ∷ codes "A W [AR1,P#0.0]" ∷ [])
    ≡ is (codes "L") (ByRegister area.M width.Word One (pointer 0 0 0)) ∷ is (codes "A") (ByRegister area.M width.Bit Two (pointer 0 1 7))
    ∷ is (codes "=") (Crossing width.Bit One (pointer 0 0 0)) ∷ is (codes "L") (Crossing width.Byte Two (pointer 0 2 0))
    ∷ is (codes "T") (Crossing width.Word One (pointer 0 2 0)) ∷ is (codes "T") (Crossing width.Dword One (pointer 0 70000 9))
    ∷ is (codes "A") (Crossing width.Word One (pointer 0 0 0)) ∷ []
unfolding tokens_of mnemonic_at
by_register = refl

not_by_register :
    all_said
    (codes "L MW [AR1,P#M 0.0]" ∷ codes "L MW [AR3,P#0.0]" ∷ codes "L MW [AR1]" ∷ codes "L MW [AR1 P#0.0]"
    ∷ codes "L MW [AR1,0.0]" ∷ codes "L X [AR1,P#0.0]" ∷ codes "L MW [AR1,P#0.0] 1" ∷ codes "SET [AR1,P#0.0]" ∷ [])
    ≡ bad ∷ bad ∷ bad ∷ bad ∷ bad ∷ bad ∷ bad ∷ bad ∷ []
unfolding tokens_of mnemonic_at
not_by_register = refl

registers :
    all_said
    (codes "LAR1" ∷ codes "LAR1 AR2" ∷ codes "LAR2 P#M 10.3" ∷ codes "LAR1 MD 0" ∷ codes "LAR1 ID 0" ∷ codes "LAR2 \"p\"" ∷ codes "TAR1"
    ∷ codes "TAR1 AR2" ∷ codes "TAR2 #p" ∷ codes "CAR" ∷ codes "+AR1" ∷ codes "+AR2 P#0.6" ∷ codes "LAR1 MD [MD 0]" ∷ codes "TAR1 MW 0" ∷ [])
    ≡ is (codes "LAR1") Missing ∷ is (codes "LAR1") OtherAr
    ∷ is (codes "LAR2") (Pointer (pointer 131 10 3)) ∷ is (codes "LAR1") (At (place area.M width.Dword 0))
    ∷ is (codes "LAR1") (At (place area.I width.Dword 0)) ∷ is (codes "LAR2") (Named (codes "p")) ∷ is (codes "TAR1") Missing ∷ is (codes "TAR1") OtherAr
    ∷ is (codes "TAR2") (Local (step.Name (codes "p") ∷ [])) ∷ is (codes "CAR") Missing
    ∷ is (codes "+AR1") Missing ∷ is (codes "+AR2") (Pointer (pointer 0 0 6))
    ∷ is (codes "LAR1") (ByMemory area.M width.Dword (place area.M width.Dword 0)) ∷ is (codes "TAR1") (At (place area.M width.Word 0)) ∷ []
unfolding tokens_of mnemonic_at
registers = refl

no_registers :
    all_said
    (codes "LAR2 AR1" ∷ codes "TAR2 AR1" ∷ codes "LAR1 AR1" ∷ codes "LAR1 5" ∷ codes "LAR1 DW#16#83000000" ∷ codes "LAR1 D [AR1,P#0.0]"
    ∷ codes "TAR1 P#0.0" ∷ codes "CAR AR1" ∷ codes "+AR1 P#M 0.0" ∷ codes "+AR1 5" ∷ codes "+ AR1" ∷ codes "LAR3" ∷ [])
    ≡ bad ∷ bad ∷ bad ∷ bad ∷ bad ∷ bad ∷ bad ∷ bad ∷ bad ∷ bad ∷ bad ∷ bad ∷ []
unfolding tokens_of mnemonic_at
no_registers = refl

-- what is left out is named where it may stand
left_out_there :
    all_said (codes "LAR1 T 1" ∷ codes "TAR1 PQD 0" ∷ codes "LAR1 T#5s" ∷ codes "+AR1 1.5" ∷ codes "LAR2 P##x" ∷ codes "+AR1 P##x" ∷ codes "TAR1 C#5" ∷ [])
    ≡ left_out kind.Timer ∷ left_out kind.Peripheral ∷ left_out kind.DateTime
    ∷ left_out kind.Real ∷ left_out kind.NamePointer ∷ left_out kind.NamePointer ∷ bad ∷ []
unfolding tokens_of mnemonic_at
left_out_there = refl

opened :
    all_said (codes "OPN DB [MW 0]" ∷ codes "OPN DI[ DBW 70000 ]" ∷ codes "OPN DB [IW 0]" ∷ codes "OPN DB [MD 0]" ∷ codes "OPN \"d\" [MW 0]" ∷ [])
    ≡ is (codes "OPN") (OpenDbBy (place area.M width.Word 0)) ∷ is (codes "OPN") (OpenDiBy (place area.Db width.Word 70000)) ∷ bad ∷ bad ∷ bad ∷ []
unfolding tokens_of mnemonic_at
opened = refl
