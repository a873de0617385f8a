-- The names that proofs on this crate and above it cite most, passed on from one place. Declares nothing.
pub use Rattle.std.proofs.Common.{Bool, Bor, Err, FitsSigned, List, None, Ok, Option, Result, Some, [], ap, append-nil, append_assoc, arith, cond, drop, eqb-true, false, get_or, if◌then◌else◌, inl, inr, is_none, is_some, length, length-append, length-drop, length-take-le, map, max, min, nat_le, nat_lt, negsuc, not, pos, refl, replicate, rules, slice_get, slice_index_or, slice_set, subst, suc, sym, take, true, w64, zero, ℕ, ℤ, ◌%◌, ◌&&◌, ◌*◌, ◌++◌, ◌+◌, ◌-◌, ◌/◌, ◌<◌, ◌==◌, ◌^◌, ◌||◌, ◌∙◌, ◌∷◌, ◌≡◌, ◌≢◌, ◌≤◌, ◌⊎◌}
pub use Rattle.std.proofs.Math.Nat.{mod-eq_of_lt, mul-le-mul_right}
pub use Rattle.std.proofs.Math.Seq.{drop-append_seam, take-append_seam}
pub use Rattle.std.proofs.lemmas.Bool.{and_parts, leb-true, ltb-false, ltb-true}
pub use Rattle.std.proofs.lemmas.Bool.Decides.{Decides-int_eq, nat_tests}
pub use Rattle.std.proofs.lemmas.Cmp.{nat_list_eq_equiv}
pub use Rattle.std.proofs.lemmas.Fmt.{decimal_by_steps}
pub use Rattle.std.proofs.lemmas.Grind.{flat_map-append}
pub use Rattle.std.proofs.lemmas.Int.{ints}
pub use Rattle.std.proofs.lemmas.List.{drop-map, length-replicate, map-append, take-append-drop, take-map}
pub use Rattle.std.proofs.lemmas.List.Concat.{flat_map-cons}
pub use Rattle.std.proofs.lemmas.List.Elements.{All-cons, All-head, All-nil, All-replicate, All-tail}
pub use Rattle.std.proofs.lemmas.List.Folds.{find_at, list_all-append}
pub use Rattle.std.proofs.lemmas.List.Sums.{fold-append}
pub use Rattle.std.proofs.lemmas.Option.{get_or_from_slice_get, slice_get-map, slice_get_within}
pub use Rattle.std.specs.Char.{to_ascii_lowercase, to_ascii_uppercase}
unfoldable pub use Rattle.std.specs.Fmt.{digits}
pub use Rattle.std.specs.Int.{int_wrapping_div}
pub use Rattle.std.specs.List.{find, fold, list_all, list_any, position_or_len, prefix_len, starts_with}
pub use Rattle.std.specs.Ordering.{int_eq}
pub use Rattle.std.specs.Prelude.{All, Contains, IfOk, IfSome, IsSome, codes, decimal, flat_map, insert, int_lt, nat_eq, neg_ℤ, option_and_then, option_map, unsigned_abs, vec_capacity}
pub use Rattle.std.specs.Str.{str_to_ascii_lowercase}
pub use Rattle.digit_texts.specs.Digits.{are_digits, hex_digit, is_digit}
pub use Rattle.memory_areas.specs.Access.{HoldsBytes, aim_of_place, and_then, bytes_there, bytes_wide, fault_of, first_fault, is_closed, is_missing, or_none, unless}
pub use Rattle.memory_areas.specs.Areas.{Areas, Ascend, Contents, IsMemoryOf, IsSized, Match, block_of, bytes_in, fresh, numbers_of, zero_locals}
pub use Rattle.memory_areas.specs.End.{End, Ended, Going}
pub use Rattle.memory_areas.specs.Memory.{IsActivation}
pub use Rattle.memory_areas.specs.declared.call.BlockName.{BlockName}
pub use Rattle.memory_areas.specs.declared.call.Call.{Call}
pub use Rattle.memory_areas.specs.declared.data_block.DataBlock.{DataBlock}
pub use Rattle.memory_areas.specs.declared.place.Area.{Area}
pub use Rattle.memory_areas.specs.declared.place.AreaName.{AreaName}
pub use Rattle.memory_areas.specs.declared.place.Place.{Place}
pub use Rattle.memory_areas.specs.declared.sizes.TheConstants.{ACTIVATIONS, INPUT_BYTES, MARKER_BYTES, MOST_BLOCKS, OUTPUT_BYTES}
pub use Rattle.s7_base.specs.Answers.{IfRefused}
pub use Rattle.s7_base.specs.Broken.{rule_break, first_of_all}
pub use Rattle.s7_base.specs.Tokens.{begins_with, is_same_word, is_word_byte, line_after, line_at_end}
pub use Rattle.s7_base.specs.declared.rule_break.Break.{Break}
pub use Rattle.s7_base.specs.declared.outcome.Fault.{Fault}
pub use Rattle.s7_base.specs.declared.reason.Line.{Line}
pub use Rattle.s7_base.specs.declared.reason.Reason.{Reason}
pub use Rattle.s7_base.specs.declared.reason.Rejection.{Rejection}
pub use Rattle.s7_base.specs.declared.register.Reg.{Reg}
pub use Rattle.s7_base.specs.declared.word.Width.{Width}
pub use Rattle.st_tree.specs.Calls.{activation_of, after_unit, enter_with, calls_to, state_on_entry, unit_call, left, located_actual, located_actuals, unit_step, zero_of}
pub use Rattle.st_tree.specs.Chains.{called_in, chain_of, chain_to, unit_chain}
pub use Rattle.s7_base.specs.Numbers.{greatest}
pub use Rattle.st_tree.specs.Fitting.{ActivationFits, EndsFit, Fits, IsOf, Paired, RegistersFit, StandsFor}
pub use Rattle.st_tree.specs.Form.{Form, area_read, canon, canon_step, convert, infix_level, infix_of, level, literal, select, shift, unary_form, variable, weakest, wrap}
pub use Rattle.st_tree.specs.Meaning.{Calls, Continues, Exits, Faults, Guarded, Labelled, NoUnits, Normal, Out, Returns, Sem, after_body, area_assignment, arm_meaning, assignment, body_meaning, case_meaning, state_or_fault, first_true, first_with, loop, meaning, then_do, turns, with_value}
pub use Rattle.st_tree.specs.Naming.{are_apart, conversion_word, is_conversion, is_free, is_name, is_same, may_name_global, may_name_local, may_name_unit, names_block}
unfoldable pub use Rattle.st_tree.specs.Naming.{key_of}
pub use Rattle.st_tree.specs.Nesting.{arm_nesting, body_nesting, case_nesting, expression_nesting, form_height, form_nesting, nesting}
pub use Rattle.st_tree.specs.Operators.{binary_value, selected_value, converted_value, shift_value, unary_value}
pub use Rattle.st_tree.specs.BodyParts.{call_step, calls_in, expressions_in, height, reads_in, reads_of, statements_in}
pub use Rattle.st_tree.specs.PlaceRules.{is_block_number, is_place}
pub use Rattle.st_tree.specs.Proper.{IsDataBlock, IsFormal, IsGlobal, IsLocal, IsProperUnit, Proper, outer_keys}
pub use Rattle.st_tree.specs.Spelling.{ArmText, CaseText, Text, arm_text, bit_text, blanks, body_text, byte_text, case_text, else_text, expr_text, formals_of, integer_text, line, list_behind, names_in, place_text, statement_step, statement_text, texts_at, unit_name, var_text, form_text}
unfoldable pub use Rattle.st_tree.specs.Spelling.{block_text, global_text, hexadecimal, label_text, literal_text, local_text, unit_text}
pub use Rattle.memory_areas.specs.OutsideActuals.{IsOutsidePlace}
pub use Rattle.st_tree.specs.StRun.{FitFormals, FitsIfThere, FitsSt, FitsUnit, all_zero, end_seen, formals_given, is_meant, references, run_of_unit, st_run, state_at_start, unit_called}
pub use Rattle.st_tree.specs.State.{Activation, State, depth, pointed_at, there, type_of_register, with_local, write, write_place}
pub use Rattle.st_tree.specs.TypeRules.{has_bits, has_width, is_selector, is_type, type_of_binary, type_of_choice, type_of_conversion, type_of_read, type_of_shift, type_of_unary, type_on_equals, where_true}
pub use Rattle.st_tree.specs.Typing.{Names, type_of}
pub use Rattle.st_tree.specs.Value.{Worth, value, value_step}
pub use Rattle.st_tree.specs.Values.{Value, fit, flag, is_set, pattern, type_of_width, typed, width_at}
pub use Rattle.st_tree.specs.WellTyped.{CaseCheck, Head, UnitScope, are_given, are_well_typed, each, each_case, expression_step, expression_type, has_type, head_of, is_arm, is_assigned, is_call, is_case_arm, is_seen, is_some_of, is_value, is_well_typed, keys_of, on_type, unit_scope_in, type_inside, type_outside, variable_type}
pub use Rattle.st_tree.specs.Words.{area_word, infix_word, register_word, type_word, width_word}
pub use Rattle.st_tree.specs.declared.expr.BinaryOp.{BinaryOp}
pub use Rattle.st_tree.specs.declared.expr.Expr.{Expr, fold-Expr, fold-roll-Expr}
pub use Rattle.st_tree.specs.declared.expr.ShiftOp.{ShiftOp}
pub use Rattle.st_tree.specs.declared.expr.StType.{StType}
pub use Rattle.st_tree.specs.declared.expr.UnaryOp.{UnaryOp}
pub use Rattle.st_tree.specs.declared.expr.Var.{Var}
pub use Rattle.st_tree.specs.declared.graph.GraphPou.{GraphPou}
pub use Rattle.st_tree.specs.declared.graph.GraphProgram.{GraphProgram}
pub use Rattle.st_tree.specs.declared.graph.StNode.{StNode}
pub use Rattle.st_tree.specs.declared.program.Arm.{Arm, fold_out-Arm}
pub use Rattle.st_tree.specs.declared.program.CaseArm.{CaseArm, fold_out-CaseArm}
pub use Rattle.st_tree.specs.declared.program.Local.{Local}
pub use Rattle.st_tree.specs.declared.program.Located.{Located}
pub use Rattle.st_tree.specs.declared.program.Pou.{Pou}
pub use Rattle.st_tree.specs.declared.program.StProgram.{StProgram}
pub use Rattle.st_tree.specs.declared.program.Stmt.{Stmt, map-Stmt, out-Stmt, roll-Stmt}
pub use Rattle.st_tree.specs.declared.state.Reference.{Reference}
