-- The names that proofs on this crate and above it cite most, passed on from one place. Declares nothing.
pub use Rattle.st_rules.specs.Calls.{all_calls, call_on, calls_of, calls_of_arm, calls_of_case_arm, join_calls}
pub use Rattle.st_rules.specs.Declarations.{all_inside, all_outside, formals_of, keys_of, local_of, locals_of, meaning_of_unit, no_inside, no_outside, one_if, one_too_many, with_formal, with_global, with_local, with_unit}
pub use Rattle.st_rules.specs.Expressions.{judgement_on, expression, variable_on}
pub use Rattle.memory_areas.specs.Areas.{insert_data_block}
pub use Rattle.st_rules.specs.Globals.{all_blocks, all_global_breaks, all_located, area_of, block_at, block_breaks, block_number, block_of, contents, fills, fits_type, global_breaks, has_block_address, has_block_form, is_small_enough, located_at, located_of, number_in, total, with_block}
pub use Rattle.st_rules.specs.Invocations.{Actual, GivenActuals, callee, formal_breaks, given_by, in_order, lacks, with_actual}
pub use Rattle.st_rules.specs.Judged.{Judged, breaks_in, breaks_rule, found_in, sound, twice}
pub use Rattle.st_names.specs.Lists.{as_list}
pub use Rattle.st_rules.specs.LongChains.{first_long_chain, long_chains}
pub use Rattle.st_names.specs.Names.{Table, look_up, with_entry}
pub use Rattle.st_names.specs.Scopes.{as_register, meaning_in, or_else}
unfoldable pub use Rattle.st_names.specs.Scopes.{register_named}
pub use Rattle.st_rules.specs.Statements.{Armed, Labelled, arm, arms_on, case_arm, case_arms_on, have_type, label_breaks, selector, statement, statements, type_of_selector}
pub use Rattle.st_rules.specs.Typed.{Breaks, BreaksChain, HasTree, IsChain, IsChainRefused, IsRefused, breaks_of, calls_in, chained, cycle, first_break, long, named, names_of, no_unit}
pub use Rattle.st_rules.specs.Units.{all_unit_breaks, all_units, breaks_of_unit, calls_of_unit, scope_in, unit_of}
pub use Rattle.st_names.specs.Variables.{is_address, variable, variable_named}
pub use Rattle.st_tree.specs.declared.expr.Expr.{Expr}
pub use Rattle.st_tree.specs.declared.expr.StType.{StType}
pub use Rattle.st_tree.specs.declared.program.Local.{Local}
pub use Rattle.st_tree.specs.declared.program.Located.{Located}
pub use Rattle.st_tree.specs.declared.program.Pou.{Pou}
pub use Rattle.st_tree.specs.declared.program.StProgram.{StProgram}
pub use Rattle.st_tree.specs.declared.program.Stmt.{Stmt}
pub use Rattle.st_tree.specs.declared.raw.RawArm.{RawArm}
pub use Rattle.st_tree.specs.declared.raw.RawCaseArm.{RawCaseArm}
pub use Rattle.st_tree.specs.declared.raw.RawExpr.{RawExpr}
pub use Rattle.st_tree.specs.declared.raw.RawGlobal.{RawGlobal}
pub use Rattle.st_tree.specs.declared.raw.RawGlobalType.{RawGlobalType}
pub use Rattle.st_tree.specs.declared.raw.RawLocal.{RawLocal}
pub use Rattle.st_tree.specs.declared.raw.RawPou.{RawPou}
pub use Rattle.st_tree.specs.declared.raw.RawSt.{RawSt}
pub use Rattle.st_tree.specs.declared.raw.RawStmt.{RawStmt}
pub use Rattle.st_tree.specs.declared.raw.RawVar.{RawVar}
