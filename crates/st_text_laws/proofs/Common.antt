-- The names that proofs on this crate and above it cite most, passed on from one place. Declares nothing.
pub use Rattle.st_text_laws.specs.Canonical.{ArmFromLine, CaseFromLine, FromLine, Placed, actuals_from, all_from, area_form, arm_from, arms_from, block_name, blocks_from, body_from, case_from, cases_from, choice_from, expr_form, form_of, globals_from, items_behind, items_form, arm_with_labels, labels_behind, labels_form, literal_form, locals_from, located_from, on, raw_var, run_behind, section_from, source_of, statement_from, unit_from, units_from}
pub use Rattle.st_text_laws.specs.Spelled.{AreSpelled, is_function, is_literal, is_name, is_spelled, is_unreserved, is_variable}
pub use Rattle.st_grammar.specs.declared.kind.Fixed.{Fixed}
pub use Rattle.st_grammar.specs.declared.kind.Jump.{Jump}
pub use Rattle.st_grammar.specs.declared.kind.GrammarKind.{GrammarKind}
pub use Rattle.st_grammar.specs.declared.kind.Literal.{Literal}
pub use Rattle.st_grammar.specs.declared.kind.OneOperand.{OneOperand}
pub use Rattle.st_grammar.specs.declared.kind.Word.{Word}
