-- The names that proofs on this crate and above it cite most, passed on from one place. Declares nothing.
pub use Rattle.memory_areas.specs.Memory.{Decides}
pub use Rattle.st_runner.specs.Standing.{Shows}
pub use Rattle.st_runner.specs.declared.frame.At.{At}
pub use Rattle.st_runner.specs.declared.frame.Frame.{Frame}
pub use Rattle.st_runner.specs.declared.steps.TheConstants.{UNIT_FRAMES}
pub use Rattle.st_runner.specs.inner.Choice.{case_body, if_body}
unfoldable pub use Rattle.st_runner.specs.inner.Choice.{has_label}
pub use Rattle.st_runner.specs.inner.Costs.{Costs, arm_most, body_most, case_most, most, most_step}
pub use Rattle.st_runner.specs.inner.Leaving.{Leaves}
pub use Rattle.st_runner.specs.inner.Measures.{body_weight, depth_costs, frame_tall, frame_weight, reach, size, sizes, stack_costs, tall, unit_costs, units, weight, work_weight}
pub use Rattle.st_runner.specs.inner.Ready.{Done, IsReady, IsSettled, most_formals, most_locals}
pub use Rattle.st_runner.specs.inner.Runnable.{AreGlobals, IsRunnable, formals_of_unit, misfit_costs, nesting_costs}
pub use Rattle.st_runner.specs.inner.View.{AreFrames, AreReachable, Changes, IsReachable, IsRunning, IsSound, state_of}
unfoldable pub use Rattle.st_runner.specs.inner.View.{activation_view}
pub use Rattle.st_runner.specs.inner.Waiting.{end_at, ending, resume_frame, outcome_of, unwound}
pub use Rattle.st_tree.specs.declared.expr.Expr.{Expr}
pub use Rattle.st_tree.specs.declared.expr.StType.{StType}
pub use Rattle.st_tree.specs.declared.expr.Var.{Var}
pub use Rattle.st_tree.specs.declared.program.Arm.{Arm}
pub use Rattle.st_tree.specs.declared.program.CaseArm.{CaseArm}
pub use Rattle.st_tree.specs.declared.program.Local.{Local}
pub use Rattle.st_tree.specs.declared.program.Located.{Located}
pub use Rattle.st_tree.specs.declared.program.Pou.{Pou}
pub use Rattle.st_tree.specs.declared.program.StProgram.{StProgram}
pub use Rattle.st_tree.specs.declared.program.Stmt.{Stmt, map-Stmt, roll-Stmt}
pub use Rattle.st_tree.specs.declared.state.Reference.{Reference}
pub use Rattle.st_tree.specs.declared.state.Value.{Value}
