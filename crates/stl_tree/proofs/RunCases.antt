-- Runs of small programs, held against worked rows by computing them.
use Rattle.std.proofs.Common.{◌≡◌, refl, ℕ, List, [], ◌∷◌, ◌++◌, map, Some, None}
use Rattle.memory_areas.specs.Areas.{Areas, Contents, with_zero_activation}
use Rattle.memory_areas.specs.End.{End, Ended, Going}
use Rattle.s7_base.specs.declared.check.Check.TheVariants as check
use Rattle.s7_base.specs.declared.outcome.Fault.{Fault}
use Rattle.s7_base.specs.declared.outcome.Fault.TheVariants.{AreaLength}
use Rattle.memory_areas.specs.declared.place.AreaName.TheVariants as area
use Rattle.stl_tree.specs.Now.{Activation, Now, go, enter, leave, fault}
use Rattle.stl_tree.specs.Registers.{RegisterValues}
use Rattle.stl_tree.specs.StlRun.{after_effect, over, running, stl_run, size_of}
use Rattle.stl_tree.specs.declared.program.BitArg.TheVariants.{At}
use Rattle.memory_areas.specs.declared.call.BlockName.TheVariants.{Ob}
use Rattle.memory_areas.specs.declared.call.Call.{Call}
use Rattle.stl_tree.specs.declared.program.Op.{Op}
use Rattle.stl_tree.specs.declared.program.Op.TheVariants as op
use Rattle.stl_tree.specs.declared.program.Operand.{Operand}
use Rattle.stl_tree.specs.declared.program.Operand.TheVariants.{Direct}
use Rattle.stl_tree.specs.declared.program.Program.{Program}

-- OB 1 with these instructions and its end word
abbrev pub program_of : List Op → Program
program_of ops =
    record {
      dbs = [];
      instances = [];
      blocks =
          record {
            name = Ob 1;
            line = record { 0 = 1 };
            formals = [];
            body = map (λ (o : Op). record { line = record { 0 = 3 }; op = o }) (ops ++ op.BlockEnd ∷ []);
          } ∷ [];
      symbols = [];
    }

-- the call of an organization block
abbrev pub call_of : ℕ → Call
call_of number = record { block = Ob number; instance = 0; actuals = [] }

-- one byte of inputs, one of outputs and no bit memory
abbrev memory_of : ℕ → ℕ → Areas
memory_of input output = record { inputs = input ∷ []; outputs = output ∷ []; markers = []; blocks = [] }

abbrev input : ℕ → Operand
input bit = Direct area.I 0 bit

abbrev output : ℕ → Operand
output bit = Direct area.Q 0 bit

abbrev series : List Op
series = op.Check check.A (At (input 0)) ∷ op.Check check.A (At (input 1)) ∷ op.Assign (output 4) ∷ []

both_set : stl_run (program_of series) (call_of 1) (memory_of 3 0) 4 ≡ Ended (memory_of 3 16) None
both_set = refl

one_clear : stl_run (program_of series) (call_of 1) (memory_of 2 255) 4 ≡ Ended (memory_of 2 239) None
one_clear = refl

-- the end word is a step
too_few_steps : stl_run (program_of series) (call_of 1) (memory_of 3 0) 3 ≡ Going
too_few_steps = refl

end_word_counts : size_of (program_of series) ≡ 4
end_word_counts = refl

-- the check after an assignment is a first check
first_check : stl_run (program_of (op.Check check.A (At (input 0)) ∷ op.Assign (output 0) ∷ op.Check check.O (At (input 1)) ∷ op.Assign (output 1) ∷ []))
    (call_of 1) (memory_of 1 2) 5 ≡ Ended (memory_of 1 1) None
first_check = refl

exclusive : stl_run (program_of (op.Check check.X (At (input 0)) ∷ op.Check check.X (At (input 1)) ∷ op.Assign (output 0) ∷ [])) (call_of 1) (memory_of 3 1) 4
    ≡ Ended (memory_of 3 0) None
exclusive = refl

equal_bits : stl_run (program_of (op.Check check.X (At (input 0)) ∷ op.Check check.Xn (At (input 1)) ∷ op.Assign (output 0) ∷ [])) (call_of 1) (memory_of 3 0) 4
    ≡ Ended (memory_of 3 1) None
equal_bits = refl

-- the instruction that faults is a step, and leaves the memory as it was
past_the_end : stl_run (program_of (op.Check check.An (At (input 0)) ∷ op.Assign (output 0) ∷ op.Assign (Direct area.Q 1 0) ∷ [])) (call_of 1) (memory_of 0 0) 3
    ≡ Ended (memory_of 0 1) (Some AreaLength)
past_the_end = refl

before_the_fault : stl_run (program_of (op.Check check.An (At (input 0)) ∷ op.Assign (output 0) ∷ op.Assign (Direct area.Q 1 0) ∷ []))
    (call_of 1) (memory_of 0 0) 2 ≡ Going
before_the_fault = refl

-- each check, first in its chain and after another: the outputs 0 and 1 take the two results
abbrev twice : Op → List Op
twice o = o ∷ op.Assign (output 0) ∷ op.Check check.A (At (input 7)) ∷ o ∷ op.Assign (output 1) ∷ []

abbrev outputs_after : Op → ℕ → End
outputs_after o bits = stl_run (program_of (twice o)) (call_of 1) (memory_of bits 0) 6

and_case : outputs_after (op.Check check.A (At (input 0))) 1 ≡ Ended (memory_of 1 1) None
and_case = refl

and_not_case : outputs_after (op.Check check.An (At (input 0))) 128 ≡ Ended (memory_of 128 3) None
and_not_case = refl

or_case : outputs_after (op.Check check.O (At (input 0))) 128 ≡ Ended (memory_of 128 2) None
or_case = refl

or_not_case : outputs_after (op.Check check.On (At (input 0))) 129 ≡ Ended (memory_of 129 2) None
or_not_case = refl

exclusive_case : outputs_after (op.Check check.X (At (input 0))) 129 ≡ Ended (memory_of 129 1) None
exclusive_case = refl

exclusive_not_case : outputs_after (op.Check check.Xn (At (input 0))) 129 ≡ Ended (memory_of 129 2) None
exclusive_not_case = refl

-- after an assignment the RLO of the chain before counts no more
first_or_not : stl_run (program_of (op.Check check.A (At (input 0)) ∷ op.Assign (output 0) ∷ op.Check check.On (At (input 0)) ∷ op.Assign (output 1) ∷ []))
    (call_of 1) (memory_of 1 0) 5 ≡ Ended (memory_of 1 1) None
first_or_not = refl

first_exclusive : stl_run (program_of (op.Check check.A (At (input 0)) ∷ op.Assign (output 0) ∷ op.Check check.Xn (At (input 0)) ∷ op.Assign (output 1) ∷ []))
    (call_of 1) (memory_of 1 0) 5 ≡ Ended (memory_of 1 1) None
first_exclusive = refl

-- What follows an effect, in a program and from a state of any kind

abbrev caller : Activation
caller = record { block = 0; at = 3; instance = 0; db = 0; di = 0; formals = [] }

abbrev state : RegisterValues → Contents → List Activation → Now
state r m activations = record { registers = r; brackets = []; memory = m; activations = activations }

jump_goes_to_its_target : (p : Program) (now : Now) (r : RegisterValues) (m : Contents) →
    after_effect p now (go 9 (state r m (caller ∷ []))) ≡ running p (state r m (record caller { at = 9 } ∷ []))
jump_goes_to_its_target p now r m = refl

-- a called block has local data of its own, and its caller goes on behind the call
call_enters_its_block : (now : Now) (r : RegisterValues) (m : Contents) →
    after_effect (program_of []) now (enter (record { block = 2; instance = 7; actuals = [] }) (state r m (caller ∷ [])))
    ≡ running (program_of []) (state (record r { di = 7 }) (with_zero_activation 1 m)
    (record { block = 2; at = 0; instance = 7; db = r.db; di = r.di; formals = [] } ∷ record caller { at = 4 } ∷ []))
call_enters_its_block now r m = refl

-- its end puts the DB and the DI register back
end_returns_to_the_caller : (now : Now) (r : RegisterValues) (m : Contents) →
    after_effect (program_of []) now (leave (state r m (record { block = 2; at = 5; instance = 7; db = 10; di = 11; formals = [] } ∷ caller ∷ [])))
    ≡ running (program_of []) (state (record r { db = 10; di = 11 }) m (caller ∷ []))
end_returns_to_the_caller now r m = refl

end_of_the_first_ends_the_run : (p : Program) (now : Now) (r : RegisterValues) (m : Contents)
    → after_effect p now (leave (state r m (caller ∷ []))) ≡ over m None
end_of_the_first_ends_the_run p now r m = refl

fault_changes_nothing : (p : Program) (now : Now) (f : Fault) → after_effect p now (fault f) ≡ over now.memory (Some f)
fault_changes_nothing p now f = refl
