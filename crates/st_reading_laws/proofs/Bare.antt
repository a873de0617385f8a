-- The pass of the code does what the pass that keeps what is written does.
use Rattle.st_tree.proofs.Common.{◌≡◌, ℕ, suc, Bool, true, false, List, [], ◌∷◌, Option, Some, None, refl, ap, ◌∙◌, nat_le, if◌then◌else◌, option_map, infix_level, weakest, is_free, may_name_global, may_name_unit, names_block}
use Rattle.st_grammar.proofs.Common.{Form, none, no_local, prefix, infix_of, Statements, plain, Locals, Section, absent, Head, prefix_level, is_value, may_jump, is_direct, tree, tree_one, tree_all, tree_arms, tree_cases, tree_actuals, tree_labels, tree_items, tree_type, tree_globals, tree_locals, tree_units, section_items, height, written, code, BegunStatement, Argument, only, shifted, shifted_by, gate, first, second, Need, to_var, to_area, area_value, test, selector, loop_test, OuterStatement, choosing, otherwise, looping, selecting, otherwise_case, Frame, unary, left, bracket, argument, waiting, within, Part, target, write_open, first_formal, next_formal, becoming, giving, given, first_label, next_label, labelled, Place, statement, part, closing, operand, operator, opening, BodyState, GlobalTail, at_word, at_place, at_colon, at_type, at_square, at_zero, at_dots, at_last, at_close, at_of, at_byte, at_becomes, at_open, at_item, at_count, at_value, at_value_end, at_comma, at_end, local_colon, local_type, local_end, TextSoFar, BegunUnit, SectionKind, formals, temps, State, start, globals, global_tail, between, heading, opened, formals_done, section, typing, inside, over, body_state, limit, Reduced, reduced_to, reduce, shallower, with_prefix, expression_end, waits, in_loop, in_body, step_at, tail_step, before_units, begun_unit, at_between, may_name, may_type, ends, leave, at_inside, at_formals_done, next, level_at, last_level}
use Rattle.st_grammar.specs.inner.Machine.{of_label, add_label, add_case, of_literal, of_jump, head_of}
use Rattle.st_grammar.specs.inner.Steps.{closed_to, is_zero, at_opened}
use Rattle.st_grammar.specs.declared.heading.Heading.{Heading}
use Rattle.st_grammar.specs.declared.measured.Measured.{Measured}
use Rattle.st_grammar.specs.declared.kind.Fixed.TheVariants as fixed
use Rattle.st_grammar.specs.declared.kind.Function.TheVariants as function
use Rattle.st_grammar.specs.declared.kind.GrammarKind.{GrammarKind}
use Rattle.st_grammar.specs.declared.kind.GrammarKind.TheVariants as kind
use Rattle.st_grammar.specs.declared.kind.Lead.TheVariants as lead
use Rattle.st_grammar.specs.declared.kind.Literal.TheVariants as lit
use Rattle.st_grammar.specs.declared.kind.Prefix.{Prefix}
use Rattle.st_grammar.specs.declared.kind.Prefix.TheVariants as before
use Rattle.st_tree.specs.declared.expr.BinaryOp.TheVariants as binary
use Rattle.st_tree.specs.declared.expr.StType.TheVariants as type
use Rattle.st_tree.specs.declared.raw.RawVar.TheVariants as var

-- What the code has of a state

abbrev pub bare_expr : Form → Measured
bare_expr f = record { tree = tree f; height = height f }

abbrev pub bare_begun_statement : BegunStatement written → BegunStatement code
bare_begun_statement b = record { before = tree_all b.before; line = b.line }

abbrev pub bare_argument : Argument written → Argument code
bare_argument (only op) = only op
bare_argument (shifted op) = shifted op
bare_argument (shifted_by op f) = shifted_by op (bare_expr f)
bare_argument gate = gate
bare_argument (first f) = first (bare_expr f)
bare_argument (second f g) = second (bare_expr f) (bare_expr g)

abbrev pub bare_need : Need written → Need code
bare_need (to_var v) = to_var v
bare_need (to_area w) = to_area w
bare_need (area_value w f) = area_value w (bare_expr f)
bare_need (test arms) = test (tree_arms arms)
bare_need selector = selector
bare_need loop_test = loop_test

abbrev pub bare_outer_statement : OuterStatement written → OuterStatement code
bare_outer_statement (choosing arms f) = choosing (tree_arms arms) (bare_expr f)
bare_outer_statement (otherwise arms) = otherwise (tree_arms arms)
bare_outer_statement (looping f) = looping (bare_expr f)
bare_outer_statement (selecting f arms labels) = selecting (bare_expr f) (tree_cases arms) (tree_labels labels)
bare_outer_statement (otherwise_case f arms) = otherwise_case (bare_expr f) (tree_cases arms)

abbrev pub bare_frame : Frame written → Frame code
bare_frame (unary op) = unary op
bare_frame (left op f) = left op (bare_expr f)
bare_frame bracket = bracket
bare_frame (argument a) = argument (bare_argument a)
bare_frame (waiting b n) = waiting (bare_begun_statement b) (bare_need n)
bare_frame (within b y) = within (bare_begun_statement b) (bare_outer_statement y)

abbrev pub bare_stack : List (Frame written) → List (Frame code)
bare_stack [] = []
bare_stack (f ∷ s) = bare_frame f ∷ bare_stack s

abbrev pub bare_part : Part written → Part code
bare_part (target v) = target v
bare_part (write_open w) = write_open w
bare_part (first_formal name) = first_formal name
bare_part (next_formal name actuals) = next_formal name (tree_actuals actuals)
bare_part (becoming name actuals formal) = becoming name (tree_actuals actuals) formal.0
bare_part (giving name actuals formal) = giving name (tree_actuals actuals) formal.0
bare_part (given name actuals) = given name (tree_actuals actuals)
bare_part (first_label f arms) = first_label (bare_expr f) (tree_cases arms)
bare_part (next_label f arms labels) = next_label (bare_expr f) (tree_cases arms) (tree_labels labels)
bare_part (labelled f arms labels) = labelled (bare_expr f) (tree_cases arms) (tree_labels labels)

abbrev pub bare_place : Place written → Place code
bare_place (statement body) = statement (tree_all body)
bare_place (part b x) = part (bare_begun_statement b) (bare_part x)
bare_place (closing before x) = closing (tree_all before) (tree_one x)
bare_place operand = operand
bare_place (operator f) = operator (bare_expr f)
bare_place (opening f) = opening f

abbrev pub bare_body_state : BodyState written → BodyState code
bare_body_state at = body_state code at.depth (bare_stack at.stack) (bare_place at.place)

abbrev pub bare_tail : GlobalTail written → GlobalTail code
bare_tail at_word = at_word
bare_tail at_place = at_place
bare_tail (at_colon v) = at_colon v.0
bare_tail (at_type v) = at_type v.0
bare_tail (at_square v) = at_square v.0
bare_tail (at_zero v) = at_zero v.0
bare_tail (at_dots v) = at_dots v.0
bare_tail (at_last v) = at_last v.0
bare_tail (at_close v last) = at_close v.0 last
bare_tail (at_of v last) = at_of v.0 last
bare_tail (at_byte v last) = at_byte v.0 last
bare_tail (at_becomes v last) = at_becomes v.0 last
bare_tail (at_open v last) = at_open v.0 last
bare_tail (at_item v last items) = at_item v.0 last (tree_items items)
bare_tail (at_count v last items count) = at_count v.0 last (tree_items items) count
bare_tail (at_value v last items count) = at_value v.0 last (tree_items items) count
bare_tail (at_value_end v last items count b) = at_value_end v.0 last (tree_items items) count b
bare_tail (at_comma v last items) = at_comma v.0 last (tree_items items)
bare_tail (at_end v ty) = at_end v.0 (tree_type ty)

abbrev pub bare_head : Head → Heading
bare_head head = record { program = head.program; name = head.name; line = head.line }

abbrev pub bare_text : TextSoFar written → TextSoFar code
bare_text text = record { globals = section_items tree_globals text.globals; units = tree_units text.units }

abbrev pub bare_begun_unit : BegunUnit written → BegunUnit code
bare_begun_unit begun = record { text = bare_text begun.text; head = bare_head begun.head }

abbrev pub bare_section_kind : SectionKind written → SectionKind code
bare_section_kind formals = formals
bare_section_kind (temps before) = temps (section_items tree_locals before)

abbrev pub bare : State written → State code
bare start = start
bare (globals done) = globals (tree_globals done)
bare (global_tail done name line x) = global_tail (tree_globals done) name line (bare_tail x)
bare (between text) = between (bare_text text)
bare (heading text program line) = heading (bare_text text) program line
bare (opened begun) = opened (bare_begun_unit begun)
bare (formals_done begun before) = formals_done (bare_begun_unit begun) (section_items tree_locals before)
bare (section begun which done) = section (bare_begun_unit begun) (bare_section_kind which) (tree_locals done)
bare (typing begun which done name line x) =
    typing (bare_begun_unit begun) (bare_section_kind which) (tree_locals done) name line x
bare (inside begun before locals at) = inside (bare_begun_unit begun) (section_items tree_locals before) (section_items tree_locals locals) (bare_body_state at)
bare (over text) = over (bare_text text)

map_if : {X Y : Type 0} (f : X → Y) (c : Bool) (x : X) → (if c then Some (f x) else None) ≡ option_map f (if c then Some x else None)
map_if f true x = refl
map_if f false x = refl

-- what a step gives in one form is what it gives in the other, and so is what is made of it
made_of : {X Y V W : Type 0} (f : X → Y) (g : Y → W) (make : X → V) (h : V → W)
    → ((x : X) → g (f x) ≡ h (make x)) → (p : Option Y) (o : Option X) → p ≡ option_map f o
    → option_map g p ≡ option_map h (option_map make o)
made_of f g make h same p None e = ap (option_map g) e
made_of f g make h same p (Some x) e = ap (option_map g) e ∙ ap Some (same x)

-- Expressions

bare_limit : (s : List (Frame written)) → limit code (bare_stack s) ≡ limit written s
bare_limit [] = refl
bare_limit (unary op ∷ s) = refl
bare_limit s = refl

abbrev bare_reduced : Reduced written → Reduced code
bare_reduced r = reduced_to code r.depth (bare_stack r.stack) (bare_expr r.operand)

choose : (c : Bool) (x y : Reduced code) (p q : Reduced written) → x ≡ bare_reduced p
    → y ≡ bare_reduced q → (if c then x else y) ≡ bare_reduced (if c then p else q)
choose true x y p q e f = e
choose false x y p q e f = f

bare_reduce : (k d : ℕ) (s : List (Frame written)) (f : Form) → reduce code k d (bare_stack s) (bare_expr f) ≡ bare_reduced (reduce written k d s f)
bare_reduce k d (unary op ∷ s) f = choose (nat_le (prefix_level op) k) _ _ _ _ (bare_reduce k (shallower d) s (prefix op f)) refl
bare_reduce k d (left op g ∷ s) f = choose (nat_le (infix_level op) k) _ _ _ _ (bare_reduce k d s (infix_of op g f)) refl
bare_reduce k d s f = refl

bare_closed : (k : GrammarKind) (d : ℕ) (s : List (Frame written)) (f : Form)
    → expression_end code d (bare_stack s) (bare_expr f) k ≡ option_map bare_body_state (expression_end written d s f k)
bare_closed (kind.Fixed fixed.Close) d (argument (only op) ∷ s) f = refl
bare_closed (kind.Fixed fixed.Comma) d (argument (only op) ∷ s) f = refl
bare_closed k d (waiting b (to_var v) ∷ s) f = refl
bare_closed k d s f = refl

bare_prefix : (d : ℕ) (s : List (Frame written)) (op : Prefix) → with_prefix code d (bare_stack s) op ≡ option_map bare_body_state (with_prefix written d s op)
bare_prefix d s op = rw (bare_limit s) (map_if bare_body_state (nat_le (prefix_level op) (limit written s)) (body_state written (suc d) (unary op ∷ s) operand))

-- Statements

bare_in_loop : (s : List (Frame written)) → in_loop code (bare_stack s) ≡ in_loop written s
bare_in_loop [] = refl
bare_in_loop (within b (looping e) ∷ s) = refl
bare_in_loop (frame ∷ s) = bare_in_loop s

bare_in_body : (k : GrammarKind) (d : ℕ) (s : List (Frame written)) (body : Statements)
    → in_body code d (bare_stack s) (tree_all body) k ≡ option_map bare_body_state (in_body written d s body k)
bare_in_body (kind.Literal c) d (within b (selecting e arms labels) ∷ s) body =
    map_if bare_body_state (is_value c) (body_state written d s (part b (labelled e (add_case written arms labels body) (of_label written c))))
bare_in_body (kind.Fixed fixed.Elsif) d (within b (choosing arms e) ∷ s) body = refl
bare_in_body k d (within b (choosing arms e) ∷ s) body = refl
bare_in_body k d s body = refl

-- by the token first, so that each place is looked at for each of them
step_bare : (k : GrammarKind) (p : Place written) (d : ℕ) (s : List (Frame written))
    → step_at code d (bare_stack s) (bare_place p) k ≡ option_map bare_body_state (step_at written d s p k)
step_bare (kind.Variable (var.Name name) line) (statement body) d s = refl
step_bare (kind.Variable v line) (statement body) d s = refl
step_bare (kind.Lead (lead.Jump word) line) (statement body) d s =
    rw (bare_in_loop s) (map_if bare_body_state (may_jump (in_loop written s) word) (body_state written d s (closing body (of_jump written line word))))
step_bare (kind.Lead word line) (statement body) d s = refl
step_bare (kind.Fixed fixed.Semicolon) (statement body) d s = refl
step_bare k (statement body) d s = bare_in_body k d s body
step_bare (kind.Literal c) (part b (first_label e arms)) d s =
    map_if bare_body_state (is_value c) (body_state written d s (part b (labelled e arms (of_label written c))))
step_bare (kind.Literal c) (part b (next_label e arms labels)) d s =
    map_if bare_body_state (is_value c) (body_state written d s (part b (labelled e arms (add_label written labels c))))
step_bare (kind.Literal c) operand d s = map_if bare_body_state (is_value c) (body_state written d s (operator (of_literal written c)))
step_bare (kind.Fixed (fixed.Between op)) (operator f) d s = ap (λ (r : Reduced code). Some (waits code op r)) (bare_reduce (infix_level op) d s f)
step_bare k (operator f) d s =
    let r = reduce written weakest d s f in ap (λ (c : Reduced code). closed_to code c k) (bare_reduce weakest d s f) ∙ bare_closed k r.depth r.stack r.operand
step_bare (kind.Fixed fixed.Not) operand d s = bare_prefix d s before.Not
step_bare (kind.Fixed (fixed.Between binary.Sub)) operand d s = bare_prefix d s before.Minus
step_bare k (part b (target (var.Name name))) d s = refl
step_bare k (opening (function.One op)) d s = refl
step_bare k p d s = refl

-- Globals

tail_bare : (k : GrammarKind) (name : List ℕ) (x : GlobalTail written) → tail_step code name (bare_tail x) k ≡ option_map bare_tail (tail_step written name x k)
tail_bare (kind.Variable v line) name at_place = map_if bare_tail (is_direct v) (at_colon (v, line))
tail_bare (kind.Literal (lit.Decimal n)) name (at_zero v) = map_if bare_tail (is_zero n) (at_dots v)
tail_bare (kind.Fixed (fixed.Type ty)) name (at_type v) = map_if bare_tail (is_free name) (at_end v (plain ty))
tail_bare (kind.Fixed fixed.Array) name (at_type v) = map_if bare_tail (names_block name) (at_square v)
tail_bare (kind.Fixed (fixed.Type type.Byte)) name (at_byte v last) = refl
tail_bare k name at_word = refl
tail_bare k name x = refl

-- Units

at_between_bare : (text : TextSoFar written) (k : GrammarKind) → at_between code (bare_text text) k ≡ option_map bare (at_between written text k)
at_between_bare text (kind.Lead lead.Program line) = refl
at_between_bare text (kind.Fixed fixed.End) = refl
at_between_bare text other = refl

leave_bare : (program : Bool) (begun : BegunUnit written) (f l : Section Locals) (s : List (Frame written)) (p : Place written)
    → leave code program (bare_begun_unit begun) (section_items tree_locals f) (section_items tree_locals l) (bare_stack s) (bare_place p)
    ≡ option_map bare (leave written program begun f l s p)
leave_bare program begun f l [] (statement body) = map_if bare (ends program begun.head.program) _
leave_bare program begun f l s p = refl

at_inside_bare : (begun : BegunUnit written) (f l : Section Locals) (at : BodyState written) (k : GrammarKind)
    → at_inside code (bare_begun_unit begun) (section_items tree_locals f) (section_items tree_locals l) (bare_body_state at) k
    ≡ option_map bare (at_inside written begun f l at k)
at_inside_bare begun f l at (kind.Fixed fixed.EndProgram) = leave_bare true begun f l at.stack at.place
at_inside_bare begun f l at (kind.Fixed fixed.EndFunction) = leave_bare false begun f l at.stack at.place
at_inside_bare begun f l at k =
    made_of bare_body_state (λ (to : BodyState code). inside (bare_begun_unit begun) (section_items tree_locals f) (section_items tree_locals l) to)
    (λ (to : BodyState written). inside begun f l to) bare (λ to. refl) _
    (step_at written at.depth at.stack at.place k) (step_bare k at.place at.depth at.stack)

at_formals_done_bare : (begun : BegunUnit written) (f : Section Locals) (k : GrammarKind)
    → at_formals_done code (bare_begun_unit begun) (section_items tree_locals f) k ≡ option_map bare (at_formals_done written begun f k)
at_formals_done_bare begun f (kind.Fixed fixed.VarTemp) = refl
at_formals_done_bare begun f other = at_inside_bare begun f absent (body_state written 0 [] (statement none)) other

at_opened_bare : (begun : BegunUnit written) (k : GrammarKind) → at_opened code (bare_begun_unit begun) k ≡ option_map bare (at_opened written begun k)
at_opened_bare begun (kind.Fixed fixed.VarInOut) = by begun.head.program
  where
    by : (c : Bool) → (let x : Option (State code) =
        if c then None else Some (section (bare_begun_unit begun) formals []) in x)
        ≡ option_map bare (if c then None else Some (section begun formals no_local))
    by true = refl
    by false = refl
at_opened_bare begun other = at_formals_done_bare begun absent other

pub next_bare : (q : State written) (k : GrammarKind) → next code (bare q) k ≡ option_map bare (next written q k)
next_bare start (kind.Fixed fixed.VarGlobal) = refl
next_bare start other = at_between_bare (before_units written absent) other
next_bare (globals done) (kind.Variable (var.Name name) line) = map_if bare (may_name_global name) (global_tail done name line at_word)
next_bare (globals done) (kind.Fixed fixed.EndVar) = refl
next_bare (global_tail done name line (at_end v ty)) (kind.Fixed fixed.Semicolon) = refl
next_bare (global_tail done name line x) (kind.Fixed fixed.Semicolon) = refl
next_bare (global_tail done name line x) k =
    made_of bare_tail (λ (y : GlobalTail code). global_tail (tree_globals done) name line y)
    (λ (y : GlobalTail written). global_tail done name line y) bare (λ y. refl) _ (tail_step written name x k) (tail_bare k name x)
next_bare (between text) k = at_between_bare text k
next_bare (heading text program line) (kind.Variable (var.Name name) place) =
    map_if bare (may_name_unit name) (opened (begun_unit written text (head_of written program line name place)))
next_bare (opened begun) k = at_opened_bare begun k
next_bare (formals_done begun before) k = at_formals_done_bare begun before k
next_bare (section begun formals done) (kind.Variable (var.Name name) line) =
    map_if bare (may_name written formals name) (typing begun formals done name line local_colon)
next_bare (section begun (temps f) done) (kind.Variable (var.Name name) line) =
    map_if bare (may_name written (temps f) name) (typing begun (temps f) done name line local_colon)
next_bare (section begun formals done) (kind.Fixed fixed.EndVar) = refl
next_bare (section begun (temps before) done) (kind.Fixed fixed.EndVar) = refl
next_bare (typing begun which done name line local_colon) (kind.Fixed fixed.Colon) = refl
next_bare (typing begun formals done name line local_type) (kind.Fixed (fixed.Type ty)) =
    map_if bare (may_type written formals ty) (typing begun formals done name line (local_end ty))
next_bare (typing begun (temps f) done name line local_type) (kind.Fixed (fixed.Type ty)) = refl
next_bare (typing begun which done name line (local_end ty)) (kind.Fixed fixed.Semicolon) = refl
next_bare (inside begun before locals at) k = at_inside_bare begun before locals at k
next_bare q other = refl

-- The level of a state

level_bare : (d : ℕ) (p : Place written) (s : List (Frame written)) → level_at code d (bare_place p) (bare_stack s) ≡ level_at written d p s
level_bare d operand [] = refl
level_bare d operand (unary op ∷ s) = refl
level_bare d other s = refl

pub last_level_bare : (q : State written) → last_level code (bare q) ≡ last_level written q
last_level_bare (inside begun before locals at) = level_bare at.depth at.place at.stack
last_level_bare (global_tail done name line (at_value v last items count)) = refl
last_level_bare other = refl
