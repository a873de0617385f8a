-- The names that proofs on this crate and above it cite most, passed on from one place. Declares nothing.
pub use Rattle.st_grammar.specs.Forms.{Actuals, Arms, CaseArms, Form, GlobalType, Globals, Head, Items, Labels, Locals, Section, Source, Statement, Statements, Units, absent, actual, apply, arm, assign, bytes, case_arm, cases, cases_else, choice, choice_else, empty, further, global, group, infix_of, invoke, jump, label, literal, local, loop, more_labels, no_actual, no_arm, no_case, no_global, no_item, no_local, no_unit, none, plain, prefix, present, select, shift, single, times, unit, variable, write}
pub use Rattle.st_grammar.specs.Grammar.{AllFit, ArmsFit, Binds, CasesFit, Fits, FormalsFit, GlobalsFit, HasArm, HasCase, HeadFits, IfPresent, LabelsFit, LocalsFit, SourceFits, UnitsFit, arm_word, comma_behind, comma_past, end_word, section_items, is_direct, is_formal_type, is_global, is_value, label_tree, level, literal_tree, may_jump, on_line, prefix_kind, prefix_level, raw_tree, spell, spell_actuals, spell_all, spell_arms, spell_cases, spell_formals, spell_globals, spell_head, spell_initial, spell_items, spell_labels, spell_locals, spell_one, spell_section, spell_source, spell_temps, spell_type, spell_units, tree, tree_actuals, tree_all, tree_arms, tree_cases, tree_globals, tree_items, tree_labels, tree_locals, tree_one, tree_type, tree_units, unit_word}
pub use Rattle.st_grammar.specs.Kinds.{are_two_digits, conversion_between, conversion_named, conversion_of_types, direct_kind, fixed_text, kind_of, lead_text, literal_kind, name_kind, number_kind, size_before_line, text_kind, typed_kind, word_kind}
unfoldable pub use Rattle.st_grammar.specs.Kinds.{sign_named, word_named, word_text}
pub use Rattle.st_tree.specs.Depth.{deepest}
pub use Rattle.st_grammar.specs.Levels.{height, levels, levels_actuals, levels_all, levels_arms, levels_cases, levels_globals, levels_items, levels_labels, levels_locals, levels_one, levels_section, levels_source, levels_type, levels_units}
pub use Rattle.st_grammar.specs.Syntax.{AllWithin, Begins, FirstDeep, FirstWrong, HasRawTree, IsSyntaxRefused, Lined, Reads, all_lined, kinds}
pub use Rattle.st_grammar.specs.inner.Judge.{judge_tokens, state_or_refusal, on_good, raw_of, text_in, tree_at, verdict, verdict_on}
unfoldable pub use Rattle.st_grammar.specs.inner.Judge.{after_token, level_reached}
pub use Rattle.st_grammar.specs.inner.Machine.{Argument, BegunStatement, BegunUnit, BodyState, Frame, Need, OuterStatement, Part, Place, GlobalTail, SectionKind, State, TextSoFar, Typing, area_value, argument, at_becomes, at_byte, at_close, at_colon, at_comma, at_count, at_dots, at_end, at_item, at_last, at_of, at_open, at_place, at_square, at_type, at_value, at_value_end, at_word, at_zero, becoming, between, bracket, choosing, closing, code, first, first_formal, first_label, formals, formals_done, gate, given, giving, globals, heading, inside, labelled, left, local_colon, local_end, local_type, loop_test, looping, next_formal, next_label, only, opened, opening, operand, operator, otherwise, otherwise_case, over, part, global_tail, second, section, selecting, selector, shifted, shifted_by, start, statement, target, temps, test, to_area, to_var, typing, unary, waiting, within, write_open, written}
pub use Rattle.st_grammar.specs.inner.Steps.{Passed, Reduced, at_between, at_formals_done, at_inside, before_units, begun_unit, body_state, expression_end, ends, in_body, in_loop, last_level, leave, level_at, limit, may_name, may_type, next, passes, reduce, reduced_to, tail_step, shallower, step_at, waits, with_prefix}
pub use Rattle.st_lexer.specs.declared.number.Base.{Base}
