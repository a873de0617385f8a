-- The names that proofs on this crate and above it cite most, passed on from one place. Declares nothing.
pub use Rattle.st_lexer.specs.Direct.{area_at, area_named, begins_with_block, bit_at, bit_behind, bit_variable, block_at, data_at, direct_at, direct_of, clamped_value, lettered_at, place_at, unlettered_at, whole_variable}
pub use Rattle.st_lexer.specs.Literals.{base_at, begins_with_digit, digits_behind, digits_size, greatest, is_digit_to, is_in_range, is_signed, literal_at, literal_behind, literal_of_number, number_at, number_behind, number_to, or_else, stands_to, truth_behind, truth_named, type_at, type_named, type_of_base, value_behind, value_from, word_size}
pub use Rattle.st_lexer.specs.Pieces.{token_seen}
pub use Rattle.st_lexer.specs.Spelled.{ends_word, has_value, is_bit_of, is_block_of, is_byte, is_decimal, is_kept}
pub use Rattle.st_lexer.specs.SpellingLaws.{IsLiteral, place_in}
pub use Rattle.st_tree.specs.Naming.{is_letter}
pub use Rattle.st_lexer.specs.StTokens.{Cut, Piece, answer, answer_to, comment_size, cut_from, direct_piece, first_bad, gap, great_from, is_blank, is_double_sign, is_great, is_sign, line_behind, mark_piece, number_piece, other_piece, piece_at, piece_size, prepend_tokens, ranged_piece, sign_piece, token, token_of, with_piece, word_piece}
unfoldable pub use Rattle.st_lexer.specs.StTokens.{tokens_of}
pub use Rattle.st_lexer.specs.TokenFacts.{HasPlace, HasValue, IsOfItsSort, IsOfSort, is_word}
pub use Rattle.st_lexer.specs.TokenGrammar.{Cuts, here, line_past, next}
pub use Rattle.st_lexer.specs.declared.direct.Direct.{Direct}
pub use Rattle.st_lexer.specs.declared.literal.Literal.{Literal}
pub use Rattle.st_lexer.specs.declared.number.Base.{Base}
pub use Rattle.st_lexer.specs.declared.number.Number.{Number}
pub use Rattle.st_tree.specs.declared.expr.BinaryOp.{BinaryOp}
pub use Rattle.st_tree.specs.declared.expr.Expr.{Expr}
pub use Rattle.st_tree.specs.declared.expr.ShiftOp.{ShiftOp}
pub use Rattle.st_tree.specs.declared.expr.StType.{StType}
pub use Rattle.st_tree.specs.declared.expr.UnaryOp.{UnaryOp}
pub use Rattle.st_tree.specs.declared.expr.Var.{Var}
pub use Rattle.st_tree.specs.declared.program.Arm.{Arm, fold_out-Arm}
pub use Rattle.st_tree.specs.declared.program.CaseArm.{CaseArm, fold_out-CaseArm}
pub use Rattle.st_tree.specs.declared.program.Local.{Local}
pub use Rattle.st_tree.specs.declared.program.Located.{Located}
pub use Rattle.st_tree.specs.declared.program.Pou.{Pou}
pub use Rattle.st_tree.specs.declared.program.StProgram.{StProgram}
pub use Rattle.st_tree.specs.declared.program.Stmt.{Stmt, fold-roll-Stmt, map-Stmt, roll-Stmt}
pub use Rattle.st_tree.specs.declared.raw.RawGlobal.{RawGlobal}
pub use Rattle.st_tree.specs.declared.raw.RawPou.{RawPou}
pub use Rattle.st_tree.specs.declared.raw.RawSt.{RawSt}
pub use Rattle.st_tree.specs.declared.raw.RawVar.{RawVar}
pub use Rattle.st_tree.specs.declared.token.StKind.{StKind}
pub use Rattle.st_tree.specs.declared.token.StToken.{StToken}
