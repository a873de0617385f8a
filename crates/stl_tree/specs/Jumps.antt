-- Jumps. Where a body goes on after a jump, a loop, a jump list, BEC or CC, and what these make of the registers.
-- Held against: the manual's chapters 'Logic Control' and 'Program Control'.
use Rattle.std.specs.Prelude.{ℕ, ◌+◌, ◌==◌, nat_lt, negsuc, Bool, true, false, not, if◌then◌else◌, List, [], ◌∷◌}
use Rattle.s7_base.specs.declared.word.Width.TheVariants as width
use Rattle.status_word.specs.StatusBits.{StatusBits, after_end, after_jump, after_save, answer_to}
use Rattle.stl_tree.specs.Accumulators.{after_addition, part}
use Rattle.stl_tree.specs.Now.{Activation, Now, Effect, enter, go, leave, next, with_registers, with_status}
use Rattle.stl_tree.specs.declared.program.BlockCall.{BlockCall}
use Rattle.stl_tree.specs.declared.program.JumpTest.{JumpTest}
use Rattle.stl_tree.specs.declared.program.JumpTest.TheVariants as jump

-- a bit is the one that is wanted
abbrev pub is_as : Bool → Bool → Bool
is_as wanted b = if wanted then b else not b

-- a jump is made, by the status bits before it
abbrev pub is_made : JumpTest → StatusBits → Bool
is_made jump.Always s = true
is_made (jump.Rlo wanted) s = is_as wanted s.rlo
is_made (jump.RloSaved wanted) s = is_as wanted s.rlo
is_made (jump.Br wanted) s = is_as wanted s.br
is_made jump.Overflow s = s.ov
is_made jump.StoredOverflow s = s.os
is_made (jump.Result t) s = answer_to t s

-- the status bits after a jump, whether it is made or not
abbrev pub after_test : JumpTest → StatusBits → StatusBits
after_test jump.Always s = s
after_test (jump.Rlo wanted) s = after_jump s
after_test (jump.RloSaved wanted) s = after_jump (after_save s)
after_test (jump.Br wanted) s = record s { orb = false; sta = true; nfc = false }
after_test jump.Overflow s = s
after_test jump.StoredOverflow s = record s { os = false }
after_test (jump.Result t) s = s

-- the effect of going on at a position, or at the next instruction
abbrev pub going_where : Bool → ℕ → Now → Effect
going_where true to now = go to now
going_where false to now = next now

-- the effect of a jump
abbrev pub effect_of_jump : JumpTest → ℕ → Now → Effect
effect_of_jump t to now = going_where (is_made t now.registers.status) to (with_status (after_test t) now)

-- the effect of LOOP: the low word of ACCU1 is counted down, wrapped, and where it is not 0 then, the jump is made
abbrev pub effect_of_loop : ℕ → Now → Effect
effect_of_loop to now =
    let counted = with_registers (after_addition width.Word (negsuc 0)) now in
    going_where (not (part width.Word counted.registers.accu1 == 0)) to counted

-- the position of the running activation in its body
abbrev pub position_of : List Activation → ℕ
position_of [] = 0
position_of (a ∷ waiting) = a.at

-- the effect of JL, with the number of the JU after it, which are numbered from 0: the body goes on at the one whose
-- number is in the lowest byte of ACCU1, or at the label where there is none
abbrev pub effect_of_list : ℕ → ℕ → Now → Effect
effect_of_list count label now =
    let n = part width.Byte now.registers.accu1 in
    go (if nat_lt n count then position_of now.activations + 1 + n else label) now

-- the effect of BEC: its block ends, or the next instruction follows
abbrev pub ended_where : Bool → Now → Effect
ended_where true now = leave (with_status after_end now)
ended_where false now = next (with_status after_jump now)

abbrev pub ended_if : Now → Effect
ended_if now = ended_where now.registers.status.rlo now

-- the status bits at a call by CC, whether it is made or not
abbrev pub after_asking : StatusBits → StatusBits
after_asking s = record (after_end s) { rlo = true }

-- the effect of CC: the block is called, or the next instruction follows
abbrev pub called_where : Bool → BlockCall → Now → Effect
called_where true call now = enter call (with_status after_asking now)
called_where false call now = next (with_status after_asking now)

abbrev pub called_if : BlockCall → Now → Effect
called_if call now = called_where now.registers.status.rlo call now
