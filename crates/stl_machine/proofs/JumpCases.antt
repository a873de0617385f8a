-- Worked cases: runs through jumps, a loop and a jump list. Each instruction is a step, as the JU of a jump list is.
use Rattle.std.proofs.Common.{◌≡◌, refl, ℕ, zero, suc, List, [], ◌∷◌, None}
use Rattle.memory_areas.specs.Areas.{Areas}
use Rattle.memory_areas.specs.End.{End, Ended, Going}
use Rattle.stl_tree.proofs.RunCases.{call_of, program_of}
use Rattle.stl_tree.specs.StlRun.{at_run_start, end_of, steps_on, stl_run}
use Rattle.stl_tree.specs.declared.program.JumpTest.TheVariants as jump
use Rattle.stl_tree.specs.declared.program.LoadArg.TheVariants as load
use Rattle.stl_tree.specs.declared.program.Op.{Op}
use Rattle.stl_tree.specs.declared.program.Op.TheVariants as op

abbrev memory : Areas
memory = record { inputs = []; outputs = []; markers = []; blocks = [] }

-- the run of some instructions and their end word
abbrev run_of : List Op → ℕ → End
run_of ops n = stl_run (program_of ops) (call_of 1) memory n

-- L 3; n: LOOP n;
abbrev three_turns : List Op
three_turns = op.Load (load.Constant 3) ∷ op.Loop 1 ∷ []

turns_are_steps : (run_of three_turns 4 ∷ run_of three_turns 5 ∷ []) ≡ Going ∷ Ended memory None ∷ []
turns_are_steps = refl

-- a: JU a; never ends
jump_to_itself : (n : ℕ) → end_of (steps_on n (at_run_start (program_of (op.Jump jump.Always 0 ∷ [])) (call_of 1) memory)) ≡ Going
jump_to_itself zero = refl
jump_to_itself (suc n) = jump_to_itself n

-- L number; JL d; JU e; JU f; d: NOP 0; NOP 0; e: NOP 0; f: NOP 0;
abbrev with_list : ℕ → List Op
with_list number =
    op.Load (load.Constant number) ∷ op.JumpList 2 4
    ∷ op.Jump jump.Always 6 ∷ op.Jump jump.Always 7
    ∷ op.Nop ∷ op.Nop ∷ op.Nop ∷ op.Nop ∷ []

first_listed : (run_of (with_list 0) 5 ∷ run_of (with_list 0) 6 ∷ []) ≡ Going ∷ Ended memory None ∷ []
first_listed = refl

last_listed : (run_of (with_list 1) 4 ∷ run_of (with_list 1) 5 ∷ []) ≡ Going ∷ Ended memory None ∷ []
last_listed = refl

not_listed : (run_of (with_list 2) 6 ∷ run_of (with_list 2) 7 ∷ []) ≡ Going ∷ Ended memory None ∷ []
not_listed = refl

-- SET; BEC; NOP 0; and CLR; BEC; NOP 0;
abbrev with_end : Op → List Op
with_end set = set ∷ op.BlockEndIf ∷ op.Nop ∷ []

bec_ends : (run_of (with_end op.SetRlo) 1 ∷ run_of (with_end op.SetRlo) 2 ∷ []) ≡ Going ∷ Ended memory None ∷ []
bec_ends = refl

bec_goes_on : (run_of (with_end op.ClearRlo) 3 ∷ run_of (with_end op.ClearRlo) 4 ∷ []) ≡ Going ∷ Ended memory None ∷ []
bec_goes_on = refl
