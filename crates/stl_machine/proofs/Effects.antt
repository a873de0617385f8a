-- A state that an instruction leaves is one of the program, as the one before it was.
use Rattle.std.proofs.Common.{Ok, sym, subst}
use Rattle.block_calls.specs.Fitting.{AreActivationsOf}
use Rattle.stl_machine.specs.declared.effect.Effect.{Effect as Found}
use Rattle.stl_machine.specs.declared.effect.Effect.TheVariants.{Go, Leave, Next}
use Rattle.stl_machine.specs.declared.state.State.{State}
use Rattle.stl_machine.specs.inner.Effects.{Does, HasEffect}
use Rattle.stl_machine.specs.inner.Runs.{IsStateOf}
use Rattle.stl_machine.specs.inner.Views.{now_of}
use Rattle.stl_tree.proofs.KeptFaults.{KeepsFaults, LeavesFaults, blocks_kept, effect_leaves_faults}
use Rattle.stl_tree.specs.Instructions.{effect_of}
use Rattle.stl_tree.specs.declared.program.Op.{Op}
use Rattle.stl_tree.specs.declared.program.Program.{Program}

keeps : (o : Op) (found : Found) (before after : State) → HasEffect (effect_of o (now_of before)) (Ok found) before after
    → KeepsFaults before.memory after.memory
keeps o Next before after e = subst (LeavesFaults before.memory) e (effect_leaves_faults o (now_of before))
keeps o (Go to) before after e = subst (LeavesFaults before.memory) e (effect_leaves_faults o (now_of before))
keeps o Leave before after e = subst (LeavesFaults before.memory) e (effect_leaves_faults o (now_of before))

pub state_after : (p : Program) (o : Op) (found : Found) (before after : State) → IsStateOf p before
    → Does (effect_of o (now_of before)) (Ok found) before after → IsStateOf p after
state_after p o found before after sound does = record {
  fitting = subst (AreActivationsOf p) (sym does.frames) sound.fitting;
  memory = blocks_kept p.dbs before.memory after.memory (keeps o found before after does.effect) sound.memory;
}
