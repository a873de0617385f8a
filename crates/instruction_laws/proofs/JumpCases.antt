-- Worked cases: what jumps, LOOP, JL and BEC do to a state.
use Rattle.std.proofs.Common.{◌≡◌, refl, ℕ, ◌+◌, ◌*◌, ◌^◌, true, false, [], ◌∷◌}
use Rattle.memory_areas.specs.Areas.{fresh}
use Rattle.status_word.specs.StatusBits.{StatusBits, all_clear}
use Rattle.status_word.specs.declared.test.Test.TheVariants as test
use Rattle.stl_tree.specs.Instructions.{effect_of}
use Rattle.stl_tree.specs.Now.{Now, next, go, leave}
use Rattle.stl_tree.specs.Registers.{start}
use Rattle.stl_tree.specs.declared.program.JumpTest.TheVariants as jump
use Rattle.stl_tree.specs.declared.program.Op.TheVariants as op

-- a state before the instruction at position 4, with this number in ACCU1 and these status bits
abbrev holding : ℕ → StatusBits → Now
holding a bits =
    record {
      registers = record start { accu1 = a; status = bits };
      brackets = [];
      memory = fresh [];
      activations = record { block = 0; at = 4; instance = 0; db = 0; di = 0; formals = [] } ∷ [];
    }

abbrev with_bits : StatusBits → Now
with_bits bits = holding 0 bits

-- JC sets OR, STA, RLO and /FC, whether it jumps or not
jc_made : effect_of (op.Jump (jump.Rlo true) 9) (with_bits (record all_clear { nfc = true; rlo = true; orb = true }))
    ≡ go 9 (with_bits (record all_clear { sta = true; rlo = true }))
jc_made = refl

jc_not_made : effect_of (op.Jump (jump.Rlo true) 9) (with_bits (record all_clear { nfc = true; orb = true }))
    ≡ next (with_bits (record all_clear { sta = true; rlo = true }))
jc_not_made = refl

jcn_made : effect_of (op.Jump (jump.Rlo false) 9) (with_bits (record all_clear { nfc = true }))
    ≡ go 9 (with_bits (record all_clear { sta = true; rlo = true }))
jcn_made = refl

-- JNB keeps the RLO in BR before it sets it
jnb_made : effect_of (op.Jump (jump.RloSaved false) 9) (with_bits (record all_clear { br = true }))
    ≡ go 9 (with_bits (record all_clear { sta = true; rlo = true }))
jnb_made = refl

jnb_not_made : effect_of (op.Jump (jump.RloSaved false) 9) (with_bits (record all_clear { rlo = true }))
    ≡ next (with_bits (record all_clear { sta = true; rlo = true; br = true }))
jnb_not_made = refl

-- JBI looks at BR, and leaves the RLO
jbi_made : effect_of (op.Jump (jump.Br true) 9) (with_bits (record all_clear { nfc = true; orb = true; br = true }))
    ≡ go 9 (with_bits (record all_clear { sta = true; br = true }))
jbi_made = refl

-- JO leaves OV, and JOS clears OS
jo_made : effect_of (op.Jump jump.Overflow 9) (with_bits (record all_clear { ov = true; os = true }))
    ≡ go 9 (with_bits (record all_clear { ov = true; os = true }))
jo_made = refl

jos_made : effect_of (op.Jump jump.StoredOverflow 9) (with_bits (record all_clear { ov = true; os = true }))
    ≡ go 9 (with_bits (record all_clear { ov = true }))
jos_made = refl

jos_not_made : effect_of (op.Jump jump.StoredOverflow 9) (with_bits (record all_clear { ov = true }))
    ≡ next (with_bits (record all_clear { ov = true }))
jos_not_made = refl

-- JMZ is made where a result is less than zero or zero, and JUO where CC1 and CC0 are both 1
jmz_made : effect_of (op.Jump (jump.Result test.Le) 9) (with_bits (record all_clear { cc0 = true }))
    ≡ go 9 (with_bits (record all_clear { cc0 = true }))
jmz_made = refl

jmz_not_made : effect_of (op.Jump (jump.Result test.Le) 9) (with_bits (record all_clear { cc1 = true; cc0 = true }))
    ≡ next (with_bits (record all_clear { cc1 = true; cc0 = true }))
jmz_not_made = refl

juo_made : effect_of (op.Jump (jump.Result test.Uo) 9) (with_bits (record all_clear { cc1 = true; cc0 = true }))
    ≡ go 9 (with_bits (record all_clear { cc1 = true; cc0 = true }))
juo_made = refl

-- LOOP ends at 0, goes on from 0 with 65,535, and leaves the high word
loop_over : effect_of (op.Loop 2) (holding 1 all_clear) ≡ next (holding 0 all_clear)
loop_over = refl

loop_on : effect_of (op.Loop 2) (holding 32768 all_clear) ≡ go 2 (holding 32767 all_clear)
loop_on = refl

loop_from_zero : effect_of (op.Loop 2) (holding (7 * 2 ^ 16) all_clear) ≡ go 2 (holding (7 * 2 ^ 16 + 65535) all_clear)
loop_from_zero = refl

-- JL with three JU, which are at 5, 6 and 7, and its label at 8: the lowest byte of ACCU1 is below their number, or not
first_listed : effect_of (op.JumpList 3 8) (holding 0 all_clear) ≡ go 5 (holding 0 all_clear)
first_listed = refl

last_listed : effect_of (op.JumpList 3 8) (holding (256 + 2) all_clear) ≡ go 7 (holding (256 + 2) all_clear)
last_listed = refl

not_listed : effect_of (op.JumpList 3 8) (holding 3 all_clear) ≡ go 8 (holding 3 all_clear)
not_listed = refl

-- BEC clears OS where it ends its block, and keeps it where it doesn't
bec_ends : effect_of op.BlockEndIf (with_bits (record all_clear { nfc = true; rlo = true; orb = true; os = true }))
    ≡ leave (with_bits (record all_clear { sta = true; rlo = true }))
bec_ends = refl

bec_goes_on : effect_of op.BlockEndIf (with_bits (record all_clear { nfc = true; orb = true; os = true }))
    ≡ next (with_bits (record all_clear { sta = true; rlo = true; os = true }))
bec_goes_on = refl
