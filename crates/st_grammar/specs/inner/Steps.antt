-- The parser's pass over the tokens, one step for each. It mirrors the code.
use Rattle.std.specs.Prelude.{ℕ, zero, suc, ◌+◌, ◌-◌, Bool, true, false, ◌||◌, nat_le, if◌then◌else◌, List, [], ◌∷◌, Option, Some, None, option_and_then, option_map}
use Rattle.s7_base.specs.declared.reason.Line.{Line}
use Rattle.st_grammar.specs.Grammar.{prefix_level, is_value, may_jump, is_direct, is_formal_type}
use Rattle.st_tree.specs.Form.{infix_level, weakest}
use Rattle.st_tree.specs.Naming.{is_free, may_name_global, may_name_local, may_name_unit, names_block}
use Rattle.st_grammar.specs.inner.Machine.{Mode, ExprIn, StatementsIn, StatementIn, CasesIn, LabelsIn, VarIn, HeadIn, GlobalSectionIn, GlobalsIn, LocalsIn, LocalSectionIn, of_literal, of_variable, of_group, of_prefix, of_infix, of_apply, of_shift, of_select, height_in, no_statements, add_empty, add_statement, no_arms, add_arm, no_cases, add_case, of_label, add_label, name_on_line, at_var, no_actuals, add_actual, of_assign, of_write, of_invoke, of_choice, of_choice_else, of_cases, of_cases_else, of_loop, of_jump, no_items, add_single, add_times, of_plain, of_bytes, no_globals, add_global, no_locals, add_local, no_global_section, global_section, no_section, section_of, head_of, is_program, no_units, add_unit, BegunStatement, Argument, only, shifted, shifted_by, gate, first, second, Need, to_var, to_area, area_value, test, selector, loop_test, OuterStatement, choosing, otherwise, looping, selecting, otherwise_case, Frame, unary, left, bracket, argument, waiting, within, Part, target, write_open, first_formal, next_formal, becoming, giving, given, first_label, next_label, labelled, Place, statement, part, closing, operand, operator, opening, BodyState, GlobalTail, at_word, at_place, at_colon, at_type, at_square, at_zero, at_dots, at_last, at_close, at_of, at_byte, at_becomes, at_open, at_item, at_count, at_value, at_value_end, at_comma, at_end, Typing, local_colon, local_type, local_end, TextSoFar, BegunUnit, SectionKind, formals, temps, State, start, globals, global_tail, between, heading, opened, formals_done, section, typing, inside, over}
use Rattle.st_grammar.specs.declared.kind.Fixed.TheVariants as fixed
use Rattle.st_grammar.specs.declared.kind.Function.{Function}
use Rattle.st_grammar.specs.declared.kind.Function.TheVariants as function
use Rattle.st_grammar.specs.declared.kind.GrammarKind.{GrammarKind}
use Rattle.st_grammar.specs.declared.kind.GrammarKind.TheVariants as kind
use Rattle.st_grammar.specs.declared.kind.Lead.{Lead}
use Rattle.st_grammar.specs.declared.kind.Lead.TheVariants as lead
use Rattle.st_grammar.specs.declared.kind.Literal.{Literal}
use Rattle.st_grammar.specs.declared.kind.Literal.TheVariants as lit
use Rattle.st_grammar.specs.declared.kind.Prefix.{Prefix}
use Rattle.st_grammar.specs.declared.kind.Prefix.TheVariants as before
use Rattle.st_tree.specs.declared.expr.BinaryOp.{BinaryOp}
use Rattle.st_tree.specs.declared.expr.BinaryOp.TheVariants as binary
use Rattle.st_tree.specs.declared.expr.StType.{StType}
use Rattle.st_tree.specs.declared.expr.StType.TheVariants as type
use Rattle.st_tree.specs.declared.raw.RawVar.{RawVar}
use Rattle.st_tree.specs.declared.raw.RawVar.TheVariants as var

-- where the pass is in statements, from its parts
abbrev pub body_state : (m : Mode) → ℕ → List (Frame m) → Place m → BodyState m
body_state m d s p = record { depth = d; stack = s; place = p }

-- one level less
abbrev pub shallower : ℕ → ℕ
shallower zero = zero
shallower (suc d) = d

-- Expressions

-- the lowest precedence that an operator of the operand here may have
abbrev pub limit : (m : Mode) → List (Frame m) → ℕ
limit m [] = weakest
limit m (unary op ∷ s) = prefix_level op
limit m (left op a ∷ s) = infix_level op - 1
limit m (bracket ∷ s) = weakest
limit m (argument a ∷ s) = weakest
limit m (waiting b n ∷ s) = weakest
limit m (within b y ∷ s) = weakest

-- an operand that has taken operators before it
pub record Reduced (m : Mode) : Type 0 where
  pub depth : ℕ
  pub stack : List (Frame m)
  pub operand : ExprIn m

-- an operand that has taken operators before it, from its parts
abbrev pub reduced_to : (m : Mode) → ℕ → List (Frame m) → ExprIn m → Reduced m
reduced_to m d s e = record { depth = d; stack = s; operand = e }

-- an operand takes the operators before it that bind as tightly as a level, or more
abbrev pub reduce : (m : Mode) → ℕ → ℕ → List (Frame m) → ExprIn m → Reduced m
reduce m k d [] e = reduced_to m d [] e
reduce m k d (unary op ∷ s) e =
    if nat_le (prefix_level op) k then reduce m k (shallower d) s (of_prefix m op e)
    else reduced_to m d (unary op ∷ s) e
reduce m k d (left op a ∷ s) e =
    if nat_le (infix_level op) k then reduce m k d s (of_infix m op a e) else reduced_to m d (left op a ∷ s) e
reduce m k d (bracket ∷ s) e = reduced_to m d (bracket ∷ s) e
reduce m k d (argument a ∷ s) e = reduced_to m d (argument a ∷ s) e
reduce m k d (waiting b n ∷ s) e = reduced_to m d (waiting b n ∷ s) e
reduce m k d (within b y ∷ s) e = reduced_to m d (within b y ∷ s) e

-- the first operand of a function
abbrev pub function_argument : (m : Mode) → Function → Argument m
function_argument m (function.One op) = only op
function_argument m (function.Shift op) = shifted op
function_argument m function.Select = gate

-- `-` or NOT before an operand, where the operator before it leaves room for its precedence
abbrev pub with_prefix : (m : Mode) → ℕ → List (Frame m) → Prefix → Option (BodyState m)
with_prefix m d s op =
    if nat_le (prefix_level op) (limit m s) then Some (body_state m (suc d) (unary op ∷ s) operand) else None

-- a token where an operand must begin
abbrev pub at_operand : (m : Mode) → ℕ → List (Frame m) → GrammarKind → Option (BodyState m)
at_operand m d s (kind.Literal c) = if is_value c then Some (body_state m d s (operator (of_literal m c))) else None
at_operand m d s (kind.Variable v line) = Some (body_state m d s (operator (of_variable m v line)))
at_operand m d s (kind.Fixed fixed.Not) = with_prefix m d s before.Not
at_operand m d s (kind.Fixed (fixed.Between binary.Sub)) = with_prefix m d s before.Minus
at_operand m d s (kind.Fixed fixed.Open) = Some (body_state m (suc d) (bracket ∷ s) operand)
at_operand m d s (kind.Fixed (fixed.Function f)) = Some (body_state m d s (opening f))
at_operand m d s other = None

-- the bracket after the word of a function, the one token that may follow it
abbrev pub at_opening : (m : Mode) → ℕ → List (Frame m) → Function → GrammarKind → Option (BodyState m)
at_opening m d s f (kind.Fixed fixed.Open) = Some (body_state m (suc d) (argument (function_argument m f) ∷ s) operand)
at_opening m d s f other = None

-- the last operand of a function ends
abbrev pub close_argument : (m : Mode) → ℕ → List (Frame m) → Argument m → ExprIn m → Option (BodyState m)
close_argument m d s (only op) e = Some (body_state m (shallower d) s (operator (of_apply m op e)))
close_argument m d s (shifted_by op a) e = Some (body_state m (shallower d) s (operator (of_shift m op a e)))
close_argument m d s (second a b) e = Some (body_state m (shallower d) s (operator (of_select m a b e)))
close_argument m d s a e = None

-- an operand of a function ends before another
abbrev pub next_argument : (m : Mode) → ℕ → List (Frame m) → Argument m → ExprIn m → Option (BodyState m)
next_argument m d s (shifted op) e = Some (body_state m d (argument (shifted_by op e) ∷ s) operand)
next_argument m d s gate e = Some (body_state m d (argument (first e) ∷ s) operand)
next_argument m d s (first a) e = Some (body_state m d (argument (second a e) ∷ s) operand)
next_argument m d s a e = None

-- an operand of a function ends
abbrev pub argument_closed : (m : Mode) → ℕ → List (Frame m)
    → Argument m → ExprIn m → GrammarKind → Option (BodyState m)
argument_closed m d s a e (kind.Fixed fixed.Close) = close_argument m d s a e
argument_closed m d s a e (kind.Fixed fixed.Comma) = next_argument m d s a e
argument_closed m d s a e other = None

-- the expression that a statement needs ends
abbrev pub need_closed : (m : Mode) → ℕ → List (Frame m) → BegunStatement m → Need m → ExprIn m → GrammarKind
    → Option (BodyState m)
need_closed m d s b (to_var v) e (kind.Fixed fixed.Semicolon) =
    Some (body_state m d s (statement (add_statement m b.before (of_assign m b.line v e))))
need_closed m d s b (to_area w) e (kind.Fixed fixed.Comma) =
    Some (body_state m d (waiting b (area_value w e) ∷ s) operand)
need_closed m d s b (area_value w p) e (kind.Fixed fixed.Close) =
    Some (body_state m (shallower d) s (closing b.before (of_write m b.line w p e)))
need_closed m d s b (test arms) e (kind.Fixed fixed.Then) =
    Some (body_state m d (within b (choosing arms e) ∷ s) (statement (no_statements m)))
need_closed m d s b selector e (kind.Fixed fixed.Of) = Some (body_state m d s (part b (first_label e (no_cases m))))
need_closed m d s b loop_test e (kind.Fixed fixed.Do) =
    Some (body_state m d (within b (looping e) ∷ s) (statement (no_statements m)))
need_closed m d s b n e other = None

-- an expression ends at a token that is no operator
abbrev pub expression_end : (m : Mode) → ℕ → List (Frame m) → ExprIn m → GrammarKind → Option (BodyState m)
expression_end m d [] e k = None
expression_end m d (unary op ∷ s) e k = None
expression_end m d (left op a ∷ s) e k = None
expression_end m d (bracket ∷ s) e (kind.Fixed fixed.Close) =
    Some (body_state m (shallower d) s (operator (of_group m e)))
expression_end m d (bracket ∷ s) e k = None
expression_end m d (argument a ∷ s) e k = argument_closed m d s a e k
expression_end m d (waiting b n ∷ s) e k = need_closed m d s b n e k
expression_end m d (within b y ∷ s) e k = None

-- an expression whose operators have their operands ends at a token that is no operator
abbrev pub closed_to : (m : Mode) → Reduced m → GrammarKind → Option (BodyState m)
closed_to m r k = expression_end m r.depth r.stack r.operand k

-- an operator between operands waits for the one after it
abbrev pub waits : (m : Mode) → BinaryOp → Reduced m → BodyState m
waits m op r = body_state m r.depth (left op r.operand ∷ r.stack) operand

-- a token after an operand: an operator between operands, or one that ends the expression
abbrev pub at_operator : (m : Mode) → ℕ → List (Frame m) → ExprIn m → GrammarKind → Option (BodyState m)
at_operator m d s e (kind.Fixed (fixed.Between op)) = Some (waits m op (reduce m (infix_level op) d s e))
at_operator m d s e other = closed_to m (reduce m weakest d s e) other

-- Statements

-- a WHILE whose statements are read
abbrev pub is_loop : (m : Mode) → Frame m → Bool
is_loop m (within b (looping e)) = true
is_loop m frame = false

-- a WHILE is open
abbrev pub in_loop : (m : Mode) → List (Frame m) → Bool
in_loop m [] = false
in_loop m (frame ∷ s) = is_loop m frame || in_loop m s

-- statements end, or a further arm begins
abbrev pub body_closed : (m : Mode) → ℕ → List (Frame m)
    → BegunStatement m → OuterStatement m → StatementsIn m → GrammarKind
    → Option (BodyState m)
body_closed m d s b (choosing arms e) body (kind.Fixed fixed.Elsif) =
    Some (body_state m d (waiting b (test (add_arm m arms e body)) ∷ s) operand)
body_closed m d s b (choosing arms e) body (kind.Fixed fixed.Else) =
    Some (body_state m d (within b (otherwise (add_arm m arms e body)) ∷ s) (statement (no_statements m)))
body_closed m d s b (choosing arms e) body (kind.Fixed fixed.EndIf) =
    Some (body_state m (shallower d) s (closing b.before (of_choice m b.line (add_arm m arms e body))))
body_closed m d s b (otherwise arms) body (kind.Fixed fixed.EndIf) =
    Some (body_state m (shallower d) s (closing b.before (of_choice_else m b.line arms body)))
body_closed m d s b (looping e) body (kind.Fixed fixed.EndWhile) =
    Some (body_state m (shallower d) s (closing b.before (of_loop m b.line e body)))
body_closed m d s b (selecting e arms labels) body (kind.Literal c) =
    if is_value c then Some (body_state m d s (part b (labelled e (add_case m arms labels body) (of_label m c))))
    else None
body_closed m d s b (selecting e arms labels) body (kind.Fixed fixed.Else) =
    Some (body_state m d (within b (otherwise_case e (add_case m arms labels body)) ∷ s) (statement (no_statements m)))
body_closed m d s b (selecting e arms labels) body (kind.Fixed fixed.EndCase) =
    Some (body_state m (shallower d) s (closing b.before (of_cases m b.line e (add_case m arms labels body))))
body_closed m d s b (otherwise_case e arms) body (kind.Fixed fixed.EndCase) =
    Some (body_state m (shallower d) s (closing b.before (of_cases_else m b.line e arms body)))
body_closed m d s b y body other = None

-- a token that ends statements, or begins a further arm, of the innermost statement that is open
abbrev pub in_body : (m : Mode) → ℕ → List (Frame m) → StatementsIn m → GrammarKind → Option (BodyState m)
in_body m d (within b y ∷ s) body k = body_closed m d s b y body k
in_body m d other body k = None

-- a statement that begins on a line after others
abbrev pub begun_statement : (m : Mode) → StatementsIn m → Line → BegunStatement m
begun_statement m before line = record { before = before; line = line }

-- the word that a statement begins with; EXIT and CONTINUE only in a WHILE
abbrev pub at_lead : (m : Mode) → ℕ → List (Frame m) → StatementsIn m → Lead → Line → Option (BodyState m)
at_lead m d s body lead.If line =
    Some (body_state m (suc d) (waiting (begun_statement m body line) (test (no_arms m)) ∷ s) operand)
at_lead m d s body lead.Case line =
    Some (body_state m (suc d) (waiting (begun_statement m body line) selector ∷ s) operand)
at_lead m d s body lead.While line =
    Some (body_state m (suc d) (waiting (begun_statement m body line) loop_test ∷ s) operand)
at_lead m d s body (lead.Jump word) line =
    if may_jump (in_loop m s) word then Some (body_state m d s (closing body (of_jump m line word))) else None
at_lead m d s body (lead.AreaWrite w) line = Some (body_state m d s (part (begun_statement m body line) (write_open w)))
at_lead m d s body other line = None

-- a token where a statement may begin or statements end
abbrev pub at_statement : (m : Mode) → ℕ → List (Frame m) → StatementsIn m → GrammarKind → Option (BodyState m)
at_statement m d s body (kind.Variable v line) = Some (body_state m d s (part (begun_statement m body line) (target v)))
at_statement m d s body (kind.Lead word line) = at_lead m d s body word line
at_statement m d s body (kind.Fixed fixed.Semicolon) = Some (body_state m d s (statement (add_empty m body)))
at_statement m d s body other = in_body m d s body other

-- a token after a variable at the beginning of a statement: `:=`, or the bracket of a call
abbrev pub at_target : (m : Mode) → ℕ → List (Frame m) → BegunStatement m → RawVar → GrammarKind → Option (BodyState m)
at_target m d s b v (kind.Fixed fixed.Becomes) = Some (body_state m d (waiting b (to_var v) ∷ s) operand)
at_target m d s b (var.Name name) (kind.Fixed fixed.Open) = Some (body_state m (suc d) s (part b (first_formal name)))
at_target m d s b v other = None

-- a label of an arm where one must come
abbrev pub at_label : (m : Mode) → ℕ → List (Frame m) → BegunStatement m → ExprIn m → CasesIn m → (Literal → LabelsIn m)
    → GrammarKind → Option (BodyState m)
at_label m d s b e arms labels (kind.Literal c) =
    if is_value c then Some (body_state m d s (part b (labelled e arms (labels c)))) else None
at_label m d s b e arms labels other = None

-- a call: formals with their variables
abbrev pub at_call : (m : Mode) → ℕ → List (Frame m) → BegunStatement m → Part m → GrammarKind → Option (BodyState m)
at_call m d s b (first_formal name) (kind.Variable (var.Name formal) line) =
    Some (body_state m d s (part b (becoming name (no_actuals m) (name_on_line m formal line))))
at_call m d s b (first_formal name) (kind.Fixed fixed.Close) =
    Some (body_state m (shallower d) s (closing b.before (of_invoke m b.line name (no_actuals m))))
at_call m d s b (next_formal name actuals) (kind.Variable (var.Name formal) line) =
    Some (body_state m d s (part b (becoming name actuals (name_on_line m formal line))))
at_call m d s b (becoming name actuals formal) (kind.Fixed fixed.Becomes) =
    Some (body_state m d s (part b (giving name actuals formal)))
at_call m d s b (giving name actuals formal) (kind.Variable v line) =
    Some (body_state m d s (part b (given name (add_actual m actuals formal v line))))
at_call m d s b (given name actuals) (kind.Fixed fixed.Comma) =
    Some (body_state m d s (part b (next_formal name actuals)))
at_call m d s b (given name actuals) (kind.Fixed fixed.Close) =
    Some (body_state m (shallower d) s (closing b.before (of_invoke m b.line name actuals)))
at_call m d s b x other = None

-- a token in a part of a statement that is no expression
abbrev pub at_part : (m : Mode) → ℕ → List (Frame m) → BegunStatement m → Part m → GrammarKind → Option (BodyState m)
at_part m d s b (target v) k = at_target m d s b v k
at_part m d s b (write_open w) (kind.Fixed fixed.Open) = Some (body_state m (suc d) (waiting b (to_area w) ∷ s) operand)
at_part m d s b (write_open w) k = None
at_part m d s b (first_label e arms) k = at_label m d s b e arms (of_label m) k
at_part m d s b (next_label e arms labels) k = at_label m d s b e arms (add_label m labels) k
at_part m d s b (labelled e arms labels) (kind.Fixed fixed.Comma) =
    Some (body_state m d s (part b (next_label e arms labels)))
at_part m d s b (labelled e arms labels) (kind.Fixed fixed.Colon) =
    Some (body_state m d (within b (selecting e arms labels) ∷ s) (statement (no_statements m)))
at_part m d s b (labelled e arms labels) k = None
at_part m d s b x k = at_call m d s b x k

-- the `;` after a statement, the one token that may follow it
abbrev pub at_closing : (m : Mode) → ℕ → List (Frame m) → StatementsIn m
    → StatementIn m → GrammarKind → Option (BodyState m)
at_closing m d s before x (kind.Fixed fixed.Semicolon) = Some (body_state m d s (statement (add_statement m before x)))
at_closing m d s before x other = None

-- one token in statements, by the place
abbrev pub step_at : (m : Mode) → ℕ → List (Frame m) → Place m → GrammarKind → Option (BodyState m)
step_at m d s (statement body) k = at_statement m d s body k
step_at m d s (part b x) k = at_part m d s b x k
step_at m d s (closing before x) k = at_closing m d s before x k
step_at m d s operand k = at_operand m d s k
step_at m d s (operator e) k = at_operator m d s e k
step_at m d s (opening f) k = at_opening m d s f k

-- one token in statements
abbrev pub step : (m : Mode) → BodyState m → GrammarKind → Option (BodyState m)
step m at k = step_at m at.depth at.stack at.place k

-- Globals

-- the name of a data block is followed by its bytes, another name by its type
abbrev pub tail_type : (m : Mode) → List ℕ → VarIn m → GrammarKind → Option (GlobalTail m)
tail_type m name v (kind.Fixed (fixed.Type ty)) = if is_free name then Some (at_end v (of_plain m ty)) else None
tail_type m name v (kind.Fixed fixed.Array) = if names_block name then Some (at_square v) else None
tail_type m name v other = None

-- the place of a global after AT, a direct variable
abbrev pub tail_place : (m : Mode) → GrammarKind → Option (GlobalTail m)
tail_place m (kind.Variable v line) = if is_direct v then Some (at_colon (at_var m v line)) else None
tail_place m other = None

-- the first index of an array
abbrev pub is_zero : ℕ → Bool
is_zero zero = true
is_zero (suc n) = false

-- a place in `[0..k] OF BYTE`
abbrev pub is_array : (m : Mode) → GlobalTail m → Bool
is_array m (at_square v) = true
is_array m (at_zero v) = true
is_array m (at_dots v) = true
is_array m (at_last v) = true
is_array m (at_close v last) = true
is_array m (at_of v last) = true
is_array m (at_byte v last) = true
is_array m x = false

-- a token of `[0..k] OF BYTE`
abbrev pub tail_array : (m : Mode) → GlobalTail m → GrammarKind → Option (GlobalTail m)
tail_array m (at_square v) (kind.Fixed fixed.OpenSquare) = Some (at_zero v)
tail_array m (at_zero v) (kind.Literal (lit.Decimal n)) = if is_zero n then Some (at_dots v) else None
tail_array m (at_dots v) (kind.Fixed fixed.Dots) = Some (at_last v)
tail_array m (at_last v) (kind.Literal (lit.Decimal last)) = Some (at_close v last)
tail_array m (at_close v last) (kind.Fixed fixed.CloseSquare) = Some (at_of v last)
tail_array m (at_of v last) (kind.Fixed fixed.Of) = Some (at_byte v last)
tail_array m (at_byte v last) (kind.Fixed (fixed.Type type.Byte)) = Some (at_becomes v last)
tail_array m x other = None

-- a token of the bytes in square brackets
abbrev pub tail_items : (m : Mode) → GlobalTail m → GrammarKind → Option (GlobalTail m)
tail_items m (at_becomes v last) (kind.Fixed fixed.Becomes) = Some (at_open v last)
tail_items m (at_open v last) (kind.Fixed fixed.OpenSquare) = Some (at_item v last (no_items m))
tail_items m (at_item v last items) (kind.Literal (lit.Byte b)) = Some (at_comma v last (add_single m items b))
tail_items m (at_item v last items) (kind.Literal (lit.Decimal count)) = Some (at_count v last items count)
tail_items m (at_count v last items count) (kind.Fixed fixed.Open) = Some (at_value v last items count)
tail_items m (at_value v last items count) (kind.Literal (lit.Byte b)) = Some (at_value_end v last items count b)
tail_items m (at_value_end v last items count b) (kind.Fixed fixed.Close) =
    Some (at_comma v last (add_times m items count b))
tail_items m (at_comma v last items) (kind.Fixed fixed.Comma) = Some (at_item v last items)
tail_items m (at_comma v last items) (kind.Fixed fixed.CloseSquare) = Some (at_end v (of_bytes m last items))
tail_items m x other = None

-- a token of a global after its name, but its `;`
abbrev pub tail_step : (m : Mode) → List ℕ → GlobalTail m → GrammarKind → Option (GlobalTail m)
tail_step m name at_word (kind.Fixed fixed.At) = Some at_place
tail_step m name at_word k = None
tail_step m name at_place k = tail_place m k
tail_step m name (at_colon v) (kind.Fixed fixed.Colon) = Some (at_type v)
tail_step m name (at_colon v) k = None
tail_step m name (at_type v) k = tail_type m name v k
tail_step m name x k = if is_array m x then tail_array m x k else tail_items m x k

-- a global ends
abbrev pub tail_end : (m : Mode) → GlobalsIn m → List ℕ → Line → GlobalTail m → Option (State m)
tail_end m done name line (at_end v ty) = Some (globals (add_global m done name line v ty))
tail_end m done name line (at_becomes v last) =
    Some (globals (add_global m done name line v (of_bytes m last (no_items m))))
tail_end m done name line x = None

-- a token of a global after its name
abbrev pub at_tail : (m : Mode) → GlobalsIn m → List ℕ → Line → GlobalTail m → GrammarKind → Option (State m)
at_tail m done name line x (kind.Fixed fixed.Semicolon) = tail_end m done name line x
at_tail m done name line x k = option_map (λ (y : GlobalTail m). global_tail done name line y) (tail_step m name x k)

-- a text after its section of globals
abbrev pub before_units : (m : Mode) → GlobalSectionIn m → TextSoFar m
before_units m before = record { globals = before; units = no_units m }

-- a token in the section of globals where a global may begin
abbrev pub at_globals : (m : Mode) → GlobalsIn m → GrammarKind → Option (State m)
at_globals m done (kind.Variable (var.Name name) line) =
    if may_name_global name then Some (global_tail done name line at_word) else None
at_globals m done (kind.Fixed fixed.EndVar) = Some (between (before_units m (global_section m done)))
at_globals m done other = None

-- Units

-- a token where a unit may begin or the text end
abbrev pub at_between : (m : Mode) → TextSoFar m → GrammarKind → Option (State m)
at_between m text (kind.Lead lead.Program line) = Some (heading text true line)
at_between m text (kind.Lead lead.Function line) = Some (heading text false line)
at_between m text (kind.Fixed fixed.End) = Some (over text)
at_between m text other = None

-- the first token of a text
abbrev pub at_start : (m : Mode) → GrammarKind → Option (State m)
at_start m (kind.Fixed fixed.VarGlobal) = Some (globals (no_globals m))
at_start m other = at_between m (before_units m (no_global_section m)) other

-- a unit after its heading
abbrev pub begun_unit : (m : Mode) → TextSoFar m → HeadIn m → BegunUnit m
begun_unit m text head = record { text = text; head = head }

-- the name of a unit after its first word
abbrev pub at_heading : (m : Mode) → TextSoFar m → Bool → Line → GrammarKind → Option (State m)
at_heading m text program line (kind.Variable (var.Name name) place) =
    if may_name_unit name then Some (opened (begun_unit m text (head_of m program line name place))) else None
at_heading m text program line other = None

-- a name that may be declared in a section
abbrev pub may_name : (m : Mode) → SectionKind m → List ℕ → Bool
may_name m formals name = is_free name
may_name m (temps before) name = may_name_local name

-- a type that a declaration in a section may have
abbrev pub may_type : (m : Mode) → SectionKind m → StType → Bool
may_type m formals ty = is_formal_type ty
may_type m (temps before) ty = true

-- the beginning of a unit's statements
abbrev pub body_start : (m : Mode) → BodyState m
body_start m = body_state m 0 [] (statement (no_statements m))

-- a section of a unit ends; after the locals come its statements
abbrev pub section_end : (m : Mode) → BegunUnit m → SectionKind m → LocalsIn m → State m
section_end m begun formals done = formals_done begun (section_of m done)
section_end m begun (temps before) done = inside begun before (section_of m done) (body_start m)

-- a token in a section of a unit where a declaration may begin
abbrev pub at_section : (m : Mode) → BegunUnit m → SectionKind m → LocalsIn m → GrammarKind → Option (State m)
at_section m begun which done (kind.Variable (var.Name name) line) =
    if may_name m which name then Some (typing begun which done name line local_colon) else None
at_section m begun which done (kind.Fixed fixed.EndVar) = Some (section_end m begun which done)
at_section m begun which done other = None

-- a token of a formal or a local after its name
abbrev pub at_typing : (m : Mode) → BegunUnit m → SectionKind m → LocalsIn m → List ℕ → Line → Typing → GrammarKind
    → Option (State m)
at_typing m begun which done name line local_colon (kind.Fixed fixed.Colon) =
    Some (typing begun which done name line local_type)
at_typing m begun which done name line local_type (kind.Fixed (fixed.Type ty)) =
    if may_type m which ty then Some (typing begun which done name line (local_end ty)) else None
at_typing m begun which done name line (local_end ty) (kind.Fixed fixed.Semicolon) =
    Some (section begun which (add_local m done name line ty))
at_typing m begun which done name line x other = None

-- whether an end word is that of the unit: END_PROGRAM for a program, END_FUNCTION for a function
abbrev pub ends : Bool → Bool → Bool
ends true true = true
ends false false = true
ends a b = false

-- a unit ends where nothing is open
abbrev pub leave : (m : Mode) → Bool → BegunUnit m → LocalSectionIn m → LocalSectionIn m → List (Frame m) → Place m
    → Option (State m)
leave m program begun before locals [] (statement body) =
    if ends program (is_program m begun.head)
    then Some (between (record {
      globals = begun.text.globals;
      units = add_unit m begun.text.units begun.head before locals body;
    }))
    else None
leave m program begun before locals s p = None

-- a token in a unit's statements, or its end word
abbrev pub at_inside : (m : Mode) → BegunUnit m → LocalSectionIn m → LocalSectionIn m → BodyState m → GrammarKind
    → Option (State m)
at_inside m begun before locals at (kind.Fixed fixed.EndProgram) = leave m true begun before locals at.stack at.place
at_inside m begun before locals at (kind.Fixed fixed.EndFunction) = leave m false begun before locals at.stack at.place
at_inside m begun before locals at k = option_map (λ (to : BodyState m). inside begun before locals to) (step m at k)

-- a token where the section of locals may begin, or the first statement
abbrev pub at_formals_done : (m : Mode) → BegunUnit m → LocalSectionIn m → GrammarKind → Option (State m)
at_formals_done m begun before (kind.Fixed fixed.VarTemp) = Some (section begun (temps before) (no_locals m))
at_formals_done m begun before k = at_inside m begun before (no_section m) (body_start m) k

-- a token after the name of a unit; a program has no formals
abbrev pub at_opened : (m : Mode) → BegunUnit m → GrammarKind → Option (State m)
at_opened m begun (kind.Fixed fixed.VarInOut) =
    if is_program m begun.head then None else Some (section begun formals (no_locals m))
at_opened m begun k = at_formals_done m begun (no_section m) k

-- one token of a text
abbrev pub next : (m : Mode) → State m → GrammarKind → Option (State m)
next m start k = at_start m k
next m (globals done) k = at_globals m done k
next m (global_tail done name line x) k = at_tail m done name line x k
next m (between text) k = at_between m text k
next m (heading text program line) k = at_heading m text program line k
next m (opened begun) k = at_opened m begun k
next m (formals_done begun before) k = at_formals_done m begun before k
next m (section begun which done) k = at_section m begun which done k
next m (typing begun which done name line x) k = at_typing m begun which done name line x k
next m (inside begun before locals at) k = at_inside m begun before locals at k
next m (over text) k = None

-- Levels

-- the depth of a place, or the level of the operator that was passed last: its depth and the height of
-- the tree to its left
abbrev pub level_at : (m : Mode) → ℕ → Place m → List (Frame m) → ℕ
level_at m d operand (left op e ∷ s) = d + height_in m e
level_at m d p s = d

-- the level that the last token made
abbrev pub last_level : (m : Mode) → State m → ℕ
last_level m (inside begun before locals at) = level_at m at.depth at.place at.stack
last_level m (global_tail done name line (at_value v last items count)) = 1
last_level m (global_tail done name line (at_value_end v last items count b)) = 1
last_level m other = 0

-- the state after tokens, and their levels, the last one first
pub record Passed (m : Mode) : Type 0 where
  pub state : State m
  pub levels : List ℕ

-- all tokens of a text
abbrev pub passes : (m : Mode) → State m → List ℕ → List GrammarKind → Option (Passed m)
passes m q before [] = Some (record { state = q; levels = before })
passes m q before (k ∷ ks) = option_and_then (λ r. passes m r (last_level m r ∷ before) ks) (next m q k)
