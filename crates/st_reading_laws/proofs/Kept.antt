-- The pass keeps in its state what it has passed, and what is open stands in order.
use Rattle.st_tree.proofs.Common.{◌≡◌, ℕ, suc, ◌<◌, ◌≤◌, Bool, true, false, List, [], ◌∷◌, Option, Some, None, refl, sym, ap, ◌∙◌, arith, zero, IfSome, nat_le, if◌then◌else◌, option_map, nat_tests, Line, infix_level, weakest, may_name_global, may_name_unit, names_block, is_free}
use Rattle.st_reading_laws.proofs.Precedence.{below_one, infix_most, infix_some, less_one}
use Rattle.st_reading_laws.proofs.Drive.{Declared, HasItem}
use Rattle.st_grammar.proofs.Common.{Form, prefix, infix_of, Actuals, no_actual, actual, Labels, label, more_labels, Statements, CaseArms, Items, no_item, none, Globals, Locals, no_local, Section, absent, unit, prefix_level, level, is_value, Binds, may_jump, LabelsFit, HasArm, HasCase, Fits, AllFit, ArmsFit, CasesFit, is_direct, is_global, GlobalsFit, LocalsFit, IfPresent, HeadFits, UnitsFit, prefix_kind, spell, comma_behind, spell_actuals, spell_labels, arm_word, spell_one, spell_all, spell_arms, spell_cases, comma_past, spell_items, spell_type, spell_globals, spell_locals, unit_word, spell_section, spell_formals, spell_temps, spell_head, spell_units, spell_initial, end_word, written, BegunStatement, Argument, only, shifted, shifted_by, gate, first, second, Need, to_var, to_area, area_value, test, selector, loop_test, OuterStatement, choosing, otherwise, looping, selecting, otherwise_case, Frame, unary, left, bracket, argument, waiting, within, Part, target, write_open, first_formal, next_formal, becoming, giving, given, first_label, next_label, labelled, Place, statement, part, closing, operand, operator, opening, BodyState, GlobalTail, at_word, at_place, at_colon, at_type, at_square, at_zero, at_dots, at_last, at_close, at_of, at_byte, at_becomes, at_open, at_item, at_count, at_value, at_value_end, at_comma, at_end, Typing, local_colon, local_type, local_end, TextSoFar, BegunUnit, SectionKind, formals, temps, State, start, globals, global_tail, between, heading, opened, formals_done, section, typing, inside, over, body_state, shallower, limit, Reduced, reduce, reduced_to, with_prefix, expression_end, in_loop, in_body, step_at, may_name, may_type, tail_step, before_units, at_between, ends, leave, at_inside, at_formals_done, next}
use Rattle.st_grammar.specs.inner.Steps.{at_label}
use Rattle.st_grammar.specs.declared.kind.Fixed.TheVariants as fixed
use Rattle.st_grammar.specs.declared.kind.Function.{Function}
use Rattle.st_grammar.specs.declared.kind.Function.TheVariants as function
use Rattle.st_grammar.specs.declared.kind.GrammarKind.{GrammarKind}
use Rattle.st_grammar.specs.declared.kind.GrammarKind.TheVariants as kind
use Rattle.st_grammar.specs.declared.kind.Lead.TheVariants as lead
use Rattle.st_grammar.specs.declared.kind.Literal.{Literal}
use Rattle.st_grammar.specs.declared.kind.Literal.TheVariants as lit
use Rattle.st_grammar.specs.declared.kind.Prefix.{Prefix}
use Rattle.st_grammar.specs.declared.kind.Prefix.TheVariants as before
use Rattle.st_tree.specs.declared.expr.BinaryOp.TheVariants as binary
use Rattle.st_tree.specs.declared.expr.StType.TheVariants as type
use Rattle.st_tree.specs.declared.raw.RawVar.{RawVar}
use Rattle.st_tree.specs.declared.raw.RawVar.TheVariants as var

-- What a state has passed, before the tokens after it

abbrev open_kind : GrammarKind
open_kind = kind.Fixed fixed.Open

abbrev comma_kind : GrammarKind
comma_kind = kind.Fixed fixed.Comma

abbrev past_argument : Argument written → List GrammarKind → List GrammarKind
past_argument (only op) more = kind.Fixed (fixed.Function (function.One op)) ∷ open_kind ∷ more
past_argument (shifted op) more = kind.Fixed (fixed.Function (function.Shift op)) ∷ open_kind ∷ more
past_argument (shifted_by op f) more = kind.Fixed (fixed.Function (function.Shift op)) ∷ open_kind ∷ spell f (comma_kind ∷ more)
past_argument gate more = kind.Fixed (fixed.Function function.Select) ∷ open_kind ∷ more
past_argument (first f) more = kind.Fixed (fixed.Function function.Select) ∷ open_kind ∷ spell f (comma_kind ∷ more)
past_argument (second f g) more = kind.Fixed (fixed.Function function.Select) ∷ open_kind ∷ spell f (comma_kind ∷ spell g (comma_kind ∷ more))

abbrev past_need : Line → Need written → List GrammarKind → List GrammarKind
past_need line (to_var v) more = kind.Variable v line ∷ kind.Fixed fixed.Becomes ∷ more
past_need line (to_area w) more = kind.Lead (lead.AreaWrite w) line ∷ open_kind ∷ more
past_need line (area_value w p) more = kind.Lead (lead.AreaWrite w) line ∷ open_kind ∷ spell p (comma_kind ∷ more)
past_need line (test arms) more = spell_arms line arms (arm_word line arms ∷ more)
past_need line selector more = kind.Lead lead.Case line ∷ more
past_need line loop_test more = kind.Lead lead.While line ∷ more

abbrev past_outer_statement : Line → OuterStatement written → List GrammarKind → List GrammarKind
past_outer_statement line (choosing arms e) more = spell_arms line arms (arm_word line arms ∷ spell e (kind.Fixed fixed.Then ∷ more))
past_outer_statement line (otherwise arms) more = spell_arms line arms (kind.Fixed fixed.Else ∷ more)
past_outer_statement line (looping e) more = kind.Lead lead.While line ∷ spell e (kind.Fixed fixed.Do ∷ more)
past_outer_statement line (selecting e arms labels) more =
    kind.Lead lead.Case line ∷ spell e (kind.Fixed fixed.Of ∷ spell_cases arms (spell_labels labels (kind.Fixed fixed.Colon ∷ more)))
past_outer_statement line (otherwise_case e arms) more =
    kind.Lead lead.Case line ∷ spell e (kind.Fixed fixed.Of ∷ spell_cases arms (kind.Fixed fixed.Else ∷ more))

abbrev pub past_stack : List (Frame written) → List GrammarKind → List GrammarKind
past_stack [] more = more
past_stack (unary op ∷ s) more = past_stack s (prefix_kind op ∷ more)
past_stack (left op f ∷ s) more = past_stack s (spell f (kind.Fixed (fixed.Between op) ∷ more))
past_stack (bracket ∷ s) more = past_stack s (open_kind ∷ more)
past_stack (argument a ∷ s) more = past_stack s (past_argument a more)
past_stack (waiting b n ∷ s) more = past_stack s (spell_all b.before (past_need b.line n more))
past_stack (within b y ∷ s) more = past_stack s (spell_all b.before (past_outer_statement b.line y more))

abbrev past_call : Line → List ℕ → List GrammarKind → List GrammarKind
past_call line name more = kind.Variable (var.Name name) line ∷ open_kind ∷ more

abbrev past_case : Line → Form → CaseArms → List GrammarKind → List GrammarKind
past_case line e arms more = kind.Lead lead.Case line ∷ spell e (kind.Fixed fixed.Of ∷ spell_cases arms more)

abbrev past_part : Line → Part written → List GrammarKind → List GrammarKind
past_part line (target v) more = kind.Variable v line ∷ more
past_part line (write_open w) more = kind.Lead (lead.AreaWrite w) line ∷ more
past_part line (first_formal name) more = past_call line name more
past_part line (next_formal name actuals) more = past_call line name (spell_actuals actuals (comma_kind ∷ more))
past_part line (becoming name actuals formal) more =
    past_call line name (spell_actuals actuals (comma_behind actuals (kind.Variable (var.Name formal.0) formal.1 ∷ more)))
past_part line (giving name actuals formal) more =
    past_call line name (spell_actuals actuals (comma_behind actuals (kind.Variable (var.Name formal.0) formal.1 ∷ kind.Fixed fixed.Becomes ∷ more)))
past_part line (given name actuals) more = past_call line name (spell_actuals actuals more)
past_part line (first_label e arms) more = past_case line e arms more
past_part line (next_label e arms labels) more = past_case line e arms (spell_labels labels (comma_kind ∷ more))
past_part line (labelled e arms labels) more = past_case line e arms (spell_labels labels more)

abbrev function_kind : Function → GrammarKind
function_kind f = kind.Fixed (fixed.Function f)

abbrev pub past_place : Place written → List GrammarKind → List GrammarKind
past_place (statement body) more = spell_all body more
past_place (part b x) more = spell_all b.before (past_part b.line x more)
past_place (closing before x) more = spell_all before (spell_one x more)
past_place operand more = more
past_place (operator f) more = spell f more
past_place (opening f) more = function_kind f ∷ more

abbrev past_at : RawVar × Line → List GrammarKind → List GrammarKind
past_at v more = kind.Fixed fixed.At ∷ kind.Variable v.0 v.1 ∷ more

abbrev pub past_colon : RawVar × Line → List GrammarKind → List GrammarKind
past_colon v more = past_at v (kind.Fixed fixed.Colon ∷ more)

abbrev past_zero : RawVar × Line → List GrammarKind → List GrammarKind
past_zero v more = past_colon v (kind.Fixed fixed.Array ∷ kind.Fixed fixed.OpenSquare ∷ kind.Literal (lit.Decimal 0) ∷ more)

abbrev past_last : RawVar × Line → ℕ → List GrammarKind → List GrammarKind
past_last v last more = past_zero v (kind.Fixed fixed.Dots ∷ kind.Literal (lit.Decimal last) ∷ more)

abbrev pub past_array : RawVar × Line → ℕ → List GrammarKind → List GrammarKind
past_array v last more = past_last v last (kind.Fixed fixed.CloseSquare ∷ kind.Fixed fixed.Of ∷ kind.Fixed (fixed.Type type.Byte) ∷ more)

abbrev past_items : RawVar × Line → ℕ → Items → List GrammarKind → List GrammarKind
past_items v last items more = past_array v last (kind.Fixed fixed.Becomes ∷ kind.Fixed fixed.OpenSquare ∷ spell_items items more)

abbrev pub past_tail : GlobalTail written → List GrammarKind → List GrammarKind
past_tail at_word more = more
past_tail at_place more = kind.Fixed fixed.At ∷ more
past_tail (at_colon v) more = past_at v more
past_tail (at_type v) more = past_colon v more
past_tail (at_square v) more = past_colon v (kind.Fixed fixed.Array ∷ more)
past_tail (at_zero v) more = past_colon v (kind.Fixed fixed.Array ∷ kind.Fixed fixed.OpenSquare ∷ more)
past_tail (at_dots v) more = past_zero v more
past_tail (at_last v) more = past_zero v (kind.Fixed fixed.Dots ∷ more)
past_tail (at_close v last) more = past_last v last more
past_tail (at_of v last) more = past_last v last (kind.Fixed fixed.CloseSquare ∷ more)
past_tail (at_byte v last) more = past_last v last (kind.Fixed fixed.CloseSquare ∷ kind.Fixed fixed.Of ∷ more)
past_tail (at_becomes v last) more = past_array v last more
past_tail (at_open v last) more = past_array v last (kind.Fixed fixed.Becomes ∷ more)
past_tail (at_item v last items) more = past_items v last items (comma_past items more)
past_tail (at_count v last items count) more = past_items v last items (comma_past items (kind.Literal (lit.Decimal count) ∷ more))
past_tail (at_value v last items count) more = past_items v last items (comma_past items (kind.Literal (lit.Decimal count) ∷ open_kind ∷ more))
past_tail (at_value_end v last items count b) more =
    past_items v last items (comma_past items (kind.Literal (lit.Decimal count) ∷ open_kind ∷ kind.Literal (lit.Byte b) ∷ more))
past_tail (at_comma v last items) more = past_items v last items more
past_tail (at_end v ty) more = past_colon v (spell_type ty more)

abbrev pub past_text : TextSoFar written → List GrammarKind → List GrammarKind
past_text text more = spell_section (kind.Fixed fixed.VarGlobal) spell_globals text.globals (spell_units text.units more)

abbrev pub past_begun_unit : BegunUnit written → List GrammarKind → List GrammarKind
past_begun_unit begun more = past_text begun.text (spell_head begun.head more)

abbrev pub past_section_kind : SectionKind written → List GrammarKind → List GrammarKind
past_section_kind formals more = kind.Fixed fixed.VarInOut ∷ more
past_section_kind (temps f) more = spell_formals f (kind.Fixed fixed.VarTemp ∷ more)

abbrev past_typing : Typing → List GrammarKind → List GrammarKind
past_typing local_colon more = more
past_typing local_type more = kind.Fixed fixed.Colon ∷ more
past_typing (local_end ty) more = kind.Fixed fixed.Colon ∷ kind.Fixed (fixed.Type ty) ∷ more

abbrev pub past : State written → List GrammarKind → List GrammarKind
past start more = more
past (globals done) more = kind.Fixed fixed.VarGlobal ∷ spell_globals done more
past (global_tail done name line x) more = kind.Fixed fixed.VarGlobal ∷ spell_globals done (kind.Variable (var.Name name) line ∷ past_tail x more)
past (between text) more = past_text text more
past (heading text program line) more = past_text text (unit_word program line ∷ more)
past (opened begun) more = past_begun_unit begun more
past (formals_done begun f) more = past_begun_unit begun (spell_formals f more)
past (section begun which done) more = past_begun_unit begun (past_section_kind which (spell_locals done more))
past (typing begun which done name line x) more =
    past_begun_unit begun (past_section_kind which (spell_locals done (kind.Variable (var.Name name) line ∷ past_typing x more)))
past (inside begun f l at) more = past_begun_unit begun (spell_formals f (spell_temps l (past_stack at.stack (past_place at.place more))))
past (over text) more = past_text text (kind.Fixed fixed.End ∷ more)

-- What is open stands in order

abbrev pub ArgumentFits : Argument written → Type 0
ArgumentFits (shifted_by op f) = Binds f
ArgumentFits (first f) = Binds f
ArgumentFits (second f g) = Binds f × Binds g
ArgumentFits other = Unit {0}

abbrev pub NeedFits : Bool → Need written → Type 0
NeedFits i (area_value w p) = Binds p
NeedFits i (test arms) = ArmsFit i arms
NeedFits i other = Unit {0}

abbrev pub OuterStatementFits : Bool → OuterStatement written → Type 0
OuterStatementFits i (choosing arms e) = ArmsFit i arms × Binds e
OuterStatementFits i (otherwise arms) = HasArm arms × ArmsFit i arms
OuterStatementFits i (looping e) = Binds e
OuterStatementFits i (selecting e arms labels) = Binds e × CasesFit i arms × LabelsFit labels
OuterStatementFits i (otherwise_case e arms) = Binds e × HasCase arms × CasesFit i arms

abbrev pub HasActual : Actuals → Type 0
HasActual no_actual = ⊥
HasActual (actual others name line v place) = Unit {0}

abbrev pub PartFits : Bool → Part written → Type 0
PartFits i (next_formal name actuals) = HasActual actuals
PartFits i (given name actuals) = HasActual actuals
PartFits i (first_label e arms) = Binds e × CasesFit i arms
PartFits i (next_label e arms labels) = Binds e × CasesFit i arms × LabelsFit labels
PartFits i (labelled e arms labels) = Binds e × CasesFit i arms × LabelsFit labels
PartFits i other = Unit {0}

-- statements alone are open
abbrev pub InStatements : List (Frame written) → Type 0
InStatements [] = Unit {0}
InStatements (within b y ∷ s) =
    AllFit (in_loop written s) b.before × OuterStatementFits (in_loop written s) y × InStatements s
InStatements (frame ∷ s) = ⊥

-- an expression is open, and the statement that it belongs to
abbrev pub InExpr : List (Frame written) → Type 0
InExpr (unary op ∷ s) = (prefix_level op ≤ limit written s) × InExpr s
InExpr (left op f ∷ s) = (level f ≤ infix_level op) × Binds f × (infix_level op ≤ limit written s) × InExpr s
InExpr (bracket ∷ s) = InExpr s
InExpr (argument a ∷ s) = ArgumentFits a × InExpr s
InExpr (waiting b n ∷ s) = AllFit (in_loop written s) b.before × NeedFits (in_loop written s) n × InStatements s
InExpr other = ⊥

abbrev pub PlaceFits : List (Frame written) → Place written → Type 0
PlaceFits s (statement body) = InStatements s × AllFit (in_loop written s) body
PlaceFits s (part b x) = InStatements s × AllFit (in_loop written s) b.before × PartFits (in_loop written s) x
PlaceFits s (closing before x) = InStatements s × AllFit (in_loop written s) before × Fits (in_loop written s) x
PlaceFits s (operator f) = InExpr s × Binds f × (level f ≡ 0)
PlaceFits s other = InExpr s

-- the place of a global whose tokens were passed from AT on
abbrev pub place_passed : List GrammarKind → RawVar
place_passed (kind.Fixed fixed.At ∷ kind.Variable v line ∷ more) = v
place_passed other = var.Name []

abbrev pub TailFits : List ℕ → GlobalTail written → Type 0
TailFits name at_word = Unit {0}
TailFits name at_place = Unit {0}
TailFits name (at_colon v) = is_direct v.0 ≡ true
TailFits name (at_type v) = is_direct v.0 ≡ true
TailFits name (at_comma v last items) = (is_direct v.0 ≡ true) × (names_block name ≡ true) × HasItem items
TailFits name (at_end v ty) = (is_direct v.0 ≡ true) × (is_global name ty ≡ true)
TailFits name x = (is_direct (place_passed (past_tail x [])) ≡ true) × (names_block name ≡ true)

abbrev pub TextFits : TextSoFar written → Type 0
TextFits text = IfPresent GlobalsFit text.globals × UnitsFit text.units

abbrev pub BegunUnitFits : BegunUnit written → Type 0
BegunUnitFits begun = TextFits begun.text × (may_name_unit begun.head.name ≡ true)

abbrev pub SectionKindFits : BegunUnit written → SectionKind written → Type 0
SectionKindFits begun formals = begun.head.program ≡ false
SectionKindFits begun (temps f) = HeadFits begun.head.program f

abbrev pub TypingFits : SectionKind written → Typing → Type 0
TypingFits which (local_end ty) = may_type written which ty ≡ true
TypingFits which other = Unit {0}

abbrev pub Shaped : State written → Type 0
Shaped start = Unit {0}
Shaped (globals done) = GlobalsFit done
Shaped (global_tail done name line x) = GlobalsFit done × (may_name_global name ≡ true) × TailFits name x
Shaped (between text) = TextFits text
Shaped (heading text program line) = TextFits text
Shaped (opened begun) = BegunUnitFits begun
Shaped (formals_done begun f) = BegunUnitFits begun × HeadFits begun.head.program f
Shaped (section begun which done) = BegunUnitFits begun × SectionKindFits begun which × Declared which done
Shaped (typing begun which done name line x) =
    BegunUnitFits begun × SectionKindFits begun which × Declared which done × (may_name written which name ≡ true) × TypingFits which x
Shaped (inside begun f l at) = BegunUnitFits begun × HeadFits begun.head.program f × IfPresent LocalsFit l × PlaceFits at.stack at.place
Shaped (over text) = TextFits text

-- A step keeps both

abbrev pub past_body_state : BodyState written → List GrammarKind → List GrammarKind
past_body_state z more = past_stack z.stack (past_place z.place more)

pub record KeptIn (before : List GrammarKind → List GrammarKind) (z : BodyState written) : Type 0 where
  pub fits : PlaceFits z.stack z.place
  pub grown : (more : List GrammarKind) → past_body_state z more ≡ before more

pub record Kept (before : List GrammarKind → List GrammarKind) (r : State written) : Type 0 where
  pub shaped : Shaped r
  pub grown : (more : List GrammarKind) → past r more ≡ before more

abbrev pub KeepsIn : (List GrammarKind → List GrammarKind) → Option (BodyState written) → Type 0
KeepsIn before o = IfSome o (KeptIn before)

same_in : (p q : List GrammarKind → List GrammarKind) → ((more : List GrammarKind) → p more ≡ q more)
    → (o : Option (BodyState written)) → KeepsIn p o → KeepsIn q o
same_in p q e None h = tt
same_in p q e (Some z) h = record { fits = h.fits; grown = λ more. h.grown more ∙ e more }

-- a state that a test allows
if_in : {before : List GrammarKind → List GrammarKind} {z : BodyState written} (c : Bool)
    → (c ≡ true → KeptIn before z) → KeepsIn before (if c then Some z else None)
if_in true h = h refl
if_in false h = tt

pub if_to : {before : List GrammarKind → List GrammarKind} {r : State written} (c : Bool)
    → (c ≡ true → Kept before r) → IfSome (if c then Some r else None) (Kept before)
if_to true h = h refl
if_to false h = tt

-- Expressions

pub record Fitting (k : ℕ) (s : List (Frame written)) (f : Form) (r : Reduced written) : Type 0 where
  pub inner : InExpr r.stack
  pub binds : Binds r.operand
  pub strong : level r.operand ≤ k
  pub room : k ≤ limit written r.stack
  pub same : (more : List GrammarKind) → past_stack r.stack (spell r.operand more) ≡ past_stack s (spell f more)

le_cases : (a b : ℕ) (P : Bool → Type 0) → (a ≤ b → P true) → (b < a → P false) → P (nat_le a b)
le_cases a b P low high = by (nat_le a b) (λ h. grind (arith, nat_tests)) (λ h. grind (arith, nat_tests))
  where
    by : (c : Bool) → (c ≡ true → a ≤ b) → (c ≡ false → b < a) → P c
    by true p q = low (p refl)
    by false p q = high (q refl)

fitting : (k d : ℕ) (s : List (Frame written)) (f : Form) → k ≤ weakest → InExpr s → Binds f
    → level f ≤ k → level f ≤ limit written s → Fitting k s f (reduce written k d s f)
fitting k d [] f most h b strong fits = absurd h
fitting k d (unary op ∷ s) f most h b strong fits =
    le_cases (prefix_level op) k
    (λ c. Fitting k (unary op ∷ s) f (if c then reduce written k (shallower d) s (prefix op f) else reduced_to written d (unary op ∷ s) f))
    (λ low. let r = fitting k (shallower d) s (prefix op f) most h.1 (fits, b) low h.0 in
    record { inner = r.inner; binds = r.binds; strong = r.strong; room = r.room; same = r.same })
    (λ high. record { inner = h; binds = b; strong = strong; room = omega arith; same = λ more. refl })
fitting k d (left op g ∷ s) f most h b strong fits =
    le_cases (infix_level op) k
    (λ c. Fitting k (left op g ∷ s) f (if c then reduce written k d s (infix_of op g f) else reduced_to written d (left op g ∷ s) f))
    (λ low. let r = fitting k d s (infix_of op g f) most h.3 (h.0, below_one (level f) (infix_level op) (infix_some op) fits, h.1, b) low h.2 in
    record { inner = r.inner; binds = r.binds; strong = r.strong; room = r.room; same = r.same })
    (λ high. record { inner = h; binds = b; strong = strong; room = less_one k (infix_level op) high; same = λ more. refl })
fitting k d (within x y ∷ s) f most h b strong fits = absurd h
fitting k d s f most h b strong fits = record { inner = h; binds = b; strong = strong; room = most; same = λ more. refl }

-- by the token first, so that each frame is looked at for each of them
closed_kept : (k : GrammarKind) (d : ℕ) (s : List (Frame written)) (f : Form) → InExpr s → Binds f
    → KeepsIn (λ more. past_stack s (spell f (k ∷ more))) (expression_end written d s f k)
closed_kept (kind.Fixed fixed.Close) d (argument (only op) ∷ s) f h b = assumption
closed_kept (kind.Fixed fixed.Comma) d (argument (only op) ∷ s) f h b = assumption
closed_kept k d (waiting x (to_var v) ∷ s) f h b = assumption
closed_kept k d s f h b = assumption

reduced_kept : (d : ℕ) (s : List (Frame written)) (f : Form) (r : Reduced written) (k : GrammarKind) → Fitting weakest s f r
    → KeepsIn (λ more. past_stack s (spell f (k ∷ more))) (expression_end written r.depth r.stack r.operand k)
reduced_kept d s f r k t =
    same_in _ _ (λ more. t.same (k ∷ more)) (expression_end written r.depth r.stack r.operand k) (closed_kept k r.depth r.stack r.operand t.inner t.binds)

prefix_kept : (d : ℕ) (s : List (Frame written)) (op : Prefix) → InExpr s → KeepsIn (λ more. past_stack s (prefix_kind op ∷ more)) (with_prefix written d s op)
prefix_kept d s op h =
    le_cases (prefix_level op) (limit written s)
    (λ c. KeepsIn (λ more. past_stack s (prefix_kind op ∷ more)) (if c then Some (body_state written (suc d) (unary op ∷ s) operand) else None))
    (λ low. record { fits = (low, h); grown = λ more. refl }) (λ high. tt)

-- Statements

in_body_kept : (k : GrammarKind) (d : ℕ) (s : List (Frame written)) (body : Statements) → InStatements s
    → AllFit (in_loop written s) body → KeepsIn (λ more. past_stack s (spell_all body (k ∷ more))) (in_body written d s body k)
in_body_kept (kind.Literal c) d (within b (selecting e arms labels) ∷ s) body h p = if_in (is_value c) (λ v. assumption)
in_body_kept (kind.Fixed fixed.Elsif) d (within b (choosing arms e) ∷ s) body h p = assumption
in_body_kept k d (within b (choosing arms e) ∷ s) body h p = assumption
in_body_kept k d s body h p = assumption

label_kept : (d : ℕ) (s : List (Frame written)) (b : BegunStatement written) (e : Form) (arms : CaseArms)
    (labels : Literal → Labels) (past_labels : List GrammarKind → List GrammarKind) (k : GrammarKind)
    → ((c : Literal) (more : List GrammarKind) → spell_labels (labels c) more ≡ past_labels (kind.Literal c ∷ more))
    → ((c : Literal) → is_value c ≡ true → LabelsFit (labels c))
    → InStatements s → AllFit (in_loop written s) b.before → Binds e → CasesFit (in_loop written s) arms
    → KeepsIn (λ more. past_stack s (spell_all b.before (past_case b.line e arms (past_labels (k ∷ more))))) (at_label written d s b e arms labels k)
label_kept d s b e arms labels past_labels (kind.Literal c) same good h p f g = if_in (is_value c) (λ v. record {
  fits = (h, p, (f, g, good c v));
  grown = λ more. ap (λ (ks : List GrammarKind). past_stack s (spell_all b.before (past_case b.line e arms ks))) (same c more);
})
label_kept d s b e arms labels past_labels other same good h p f g = tt

comma_is : (a : Actuals) (ks : List GrammarKind) → HasActual a → comma_kind ∷ ks ≡ comma_behind a ks
comma_is no_actual ks h = absurd h
comma_is (actual others name line v place) ks h = refl

pub step_kept : (k : GrammarKind) (p : Place written) (d : ℕ) (s : List (Frame written))
    → PlaceFits s p → KeepsIn (λ more. past_stack s (past_place p (k ∷ more))) (step_at written d s p k)
step_kept (kind.Variable (var.Name name) line) (statement body) d s h = assumption
step_kept (kind.Variable v line) (statement body) d s h = assumption
step_kept (kind.Lead (lead.Jump word) line) (statement body) d s h = if_in (may_jump (in_loop written s) word) (λ v. assumption)
step_kept (kind.Lead word line) (statement body) d s h = assumption
step_kept (kind.Fixed fixed.Semicolon) (statement body) d s h = assumption
step_kept k (statement body) d s h = in_body_kept k d s body h.0 h.1
step_kept (kind.Variable (var.Name formal) line) (part b (next_formal name actuals)) d s h = record {
  fits = (h.0, h.1, tt);
  grown =
      λ more. ap (λ (ks : List GrammarKind). past_stack s (spell_all b.before (past_call b.line name (spell_actuals actuals ks))))
      (sym (comma_is actuals (kind.Variable (var.Name formal) line ∷ more) h.2));
}
step_kept k (part b (first_label e arms)) d s h = label_kept d s b e arms (λ c. label c) (λ ks. ks) k (λ c more. refl) (λ c v. v) h.0 h.1 h.2.0 h.2.1
step_kept k (part b (next_label e arms labels)) d s h =
    label_kept d s b e arms (λ c. more_labels labels c) (λ ks. spell_labels labels (comma_kind ∷ ks)) k (λ c more. refl) (λ c v. (h.2.2, v)) h.0 h.1 h.2.0 h.2.1
step_kept (kind.Literal c) operand d s h = if_in (is_value c) (λ v. assumption)
step_kept (kind.Fixed (fixed.Between op)) (operator f) d s h =
    let t = fitting (infix_level op) d s f (infix_most op) h.0 h.1 (omega arith) (omega arith) in
    record { fits = (t.strong, t.binds, t.room, t.inner); grown = λ more. t.same (kind.Fixed (fixed.Between op) ∷ more) }
step_kept k (operator f) d s h = reduced_kept d s f (reduce written weakest d s f) k (fitting weakest d s f (omega arith) h.0 h.1 (omega arith) (omega arith))
step_kept (kind.Fixed fixed.Not) operand d s h = prefix_kept d s before.Not h
step_kept (kind.Fixed (fixed.Between binary.Sub)) operand d s h = prefix_kept d s before.Minus h
step_kept k (part b (target (var.Name name))) d s h = assumption
step_kept k (opening (function.One op)) d s h = assumption
step_kept k p d s h = assumption

-- Whole texts

-- Globals

record KeptTail (name : List ℕ) (before : List GrammarKind → List GrammarKind) (x : GlobalTail written) : Type 0 where
  fits : TailFits name x
  grown : (more : List GrammarKind) → past_tail x more ≡ before more

if_tail : {name : List ℕ} {before : List GrammarKind → List GrammarKind} {x : GlobalTail written} (c : Bool)
    → (c ≡ true → KeptTail name before x) → IfSome (if c then Some x else None) (KeptTail name before)
if_tail true h = h refl
if_tail false h = tt

abbrev KeepsTail : List ℕ → GlobalTail written → GrammarKind → Option (GlobalTail written) → Type 0
KeepsTail name x k o = IfSome o (KeptTail name (λ more. past_tail x (k ∷ more)))

item_comma : (items : Items) (ks : List GrammarKind) → HasItem items → comma_past items ks ≡ kind.Fixed fixed.Comma ∷ ks
item_comma no_item ks h = absurd h
item_comma items ks h = refl

initial_is : (items : Items) (ks : List GrammarKind) → HasItem items
    → spell_initial items ks ≡ kind.Fixed fixed.Becomes ∷ kind.Fixed fixed.OpenSquare ∷ spell_items items (kind.Fixed fixed.CloseSquare ∷ ks)
initial_is no_item ks h = absurd h
initial_is items ks h = refl

-- by the token first, so that each place is looked at for each of them
tail_kept : (k : GrammarKind) (name : List ℕ) (x : GlobalTail written) → TailFits name x → KeepsTail name x k (tail_step written name x k)
tail_kept (kind.Variable v line) name at_place h = if_tail (is_direct v) (λ c. assumption)
tail_kept (kind.Fixed (fixed.Type ty)) name (at_type v) h = if_tail (is_free name) (λ c. assumption)
tail_kept (kind.Fixed fixed.Array) name (at_type v) h = if_tail (names_block name) (λ c. assumption)
tail_kept (kind.Literal (lit.Decimal zero)) name (at_zero v) h = assumption
tail_kept (kind.Fixed (fixed.Type type.Byte)) name (at_byte v last) h = assumption
tail_kept (kind.Fixed fixed.Comma) name (at_comma v last items) h = record {
  fits = (h.0, h.1);
  grown =
      λ more. ap (λ (ks : List GrammarKind). past_array v last (kind.Fixed fixed.Becomes ∷ kind.Fixed fixed.OpenSquare ∷ spell_items items ks))
      (item_comma items more h.2);
}
tail_kept (kind.Fixed fixed.CloseSquare) name (at_comma v last items) h = record {
  fits = (h.0, h.1);
  grown = λ more. ap (λ (ks : List GrammarKind). past_array v last ks) (initial_is items more h.2);
}
tail_kept k name at_word h = assumption
tail_kept k name x h = assumption

abbrev Keeps : State written → GrammarKind → Option (State written) → Type 0
Keeps q k o = IfSome o (Kept (λ more. past q (k ∷ more)))

tailed : (done : Globals) (name : List ℕ) (line : Line) (x : GlobalTail written) (k : GrammarKind) (o : Option (GlobalTail written))
    → GlobalsFit done → may_name_global name ≡ true → KeepsTail name x k o
    → Keeps (global_tail done name line x) k (option_map (λ (y : GlobalTail written). global_tail done name line y) o)
tailed done name line x k None g n h = tt
tailed done name line x k (Some y) g n h = record {
  shaped = (g, n, h.fits);
  grown = λ more. ap (λ (ks : List GrammarKind). kind.Fixed fixed.VarGlobal ∷ spell_globals done (kind.Variable (var.Name name) line ∷ ks)) (h.grown more);
}

-- Units

at_between_kept : (text : TextSoFar written) (k : GrammarKind) → TextFits text → Keeps (between text) k (at_between written text k)
at_between_kept text (kind.Lead lead.Program line) h = assumption
at_between_kept text (kind.Fixed fixed.End) h = assumption
at_between_kept text other h = assumption

-- the end of a unit, where its head says what it is
left_kept : (program : Bool) (begun : BegunUnit written) (f l : Section Locals) (body : Statements) (c : Bool)
    → begun.head.program ≡ c → BegunUnitFits begun → HeadFits begun.head.program f → IfPresent LocalsFit l → AllFit false body
    → IfSome (if ends program c then Some (between (record { globals = begun.text.globals; units = unit begun.text.units begun.head f l body })) else None)
    (Kept (λ more. past_begun_unit begun (spell_formals f (spell_temps l (spell_all body (end_word program ∷ more))))))
left_kept true begun f l body false e t hf hl hb = tt
left_kept false begun f l body true e t hf hl hb = tt
left_kept program begun f l body c e t hf hl hb = record {
  shaped = (t.0.0, (t.0.1, t.1, hf, hl, hb));
  grown = λ more. ap (λ (c : Bool). past_begun_unit begun (spell_formals f (spell_temps l (spell_all body (end_word c ∷ more))))) e;
}

leave_kept : (program : Bool) (begun : BegunUnit written) (f l : Section Locals) (d : ℕ) (s : List (Frame written)) (p : Place written)
    → Shaped (inside begun f l (body_state written d s p))
    → Keeps (inside begun f l (body_state written d s p)) (end_word program) (leave written program begun f l s p)
leave_kept program begun f l d [] (statement body) h = left_kept program begun f l body begun.head.program refl h.0 h.1 h.2 h.3.1
leave_kept program begun f l d s p h = tt

entered : (begun : BegunUnit written) (f l : Section Locals) (at : BodyState written) (k : GrammarKind) (o : Option (BodyState written))
    → Shaped (inside begun f l at) → IfSome o (KeptIn (λ more. past_stack at.stack (past_place at.place (k ∷ more))))
    → Keeps (inside begun f l at) k (option_map (λ (to : BodyState written). inside begun f l to) o)
entered begun f l at k None h z = tt
entered begun f l at k (Some to) h z = record {
  shaped = (h.0, h.1, h.2, z.fits);
  grown = λ more. ap (λ (ks : List GrammarKind). past_begun_unit begun (spell_formals f (spell_temps l ks))) (z.grown more);
}

at_inside_kept : (begun : BegunUnit written) (f l : Section Locals) (at : BodyState written) (k : GrammarKind)
    → Shaped (inside begun f l at) → Keeps (inside begun f l at) k (at_inside written begun f l at k)
at_inside_kept begun f l at (kind.Fixed fixed.EndProgram) h = leave_kept true begun f l at.depth at.stack at.place h
at_inside_kept begun f l at (kind.Fixed fixed.EndFunction) h = leave_kept false begun f l at.depth at.stack at.place h
at_inside_kept begun f l at k h = entered begun f l at k (step_at written at.depth at.stack at.place k) h (step_kept k at.place at.depth at.stack h.3)

at_formals_done_kept : (begun : BegunUnit written) (f : Section Locals) (k : GrammarKind) → BegunUnitFits begun
    → HeadFits begun.head.program f → Keeps (formals_done begun f) k (at_formals_done written begun f k)
at_formals_done_kept begun f (kind.Fixed fixed.VarTemp) t h = record { shaped = (t, h, tt); grown = λ more. refl }
at_formals_done_kept begun f other t h = at_inside_kept begun f absent (body_state written 0 [] (statement none)) other (t, h, tt, (tt, tt))

in_out_kept : (begun : BegunUnit written) (c : Bool) → begun.head.program ≡ c → BegunUnitFits begun
    → Keeps (opened begun) (kind.Fixed fixed.VarInOut) (if c then None else Some (section begun formals no_local))
in_out_kept begun true e t = tt
in_out_kept begun false e t = record { shaped = (t, e, tt); grown = λ more. refl }

pub kept : (k : GrammarKind) (q : State written) → Shaped q → Keeps q k (next written q k)
kept (kind.Fixed fixed.VarGlobal) start h = assumption
kept k start h = at_between_kept (before_units written absent) k (tt, tt)
kept (kind.Variable (var.Name name) line) (globals done) g = if_to (may_name_global name) (λ c. assumption)
kept (kind.Fixed fixed.Semicolon) (global_tail done name line (at_end v ty)) h = assumption
kept (kind.Fixed fixed.Semicolon) (global_tail done name line x) h = assumption
kept k (global_tail done name line x) h = tailed done name line x k (tail_step written name x k) h.0 h.1 (tail_kept k name x h.2)
kept k (between text) h = at_between_kept text k h
kept (kind.Variable (var.Name name) place) (heading text program line) h = if_to (may_name_unit name) (λ c. assumption)
kept (kind.Fixed fixed.VarInOut) (opened begun) t = in_out_kept begun begun.head.program refl t
kept k (opened begun) t = at_formals_done_kept begun absent k t tt
kept k (formals_done begun f) h = at_formals_done_kept begun f k h.0 h.1
kept (kind.Variable (var.Name name) line) (section begun which done) h = if_to (may_name written which name) (λ c. assumption)
kept (kind.Fixed fixed.EndVar) (section begun formals done) h = assumption
kept (kind.Fixed (fixed.Type ty)) (typing begun which done name line local_type) h = if_to (may_type written which ty) (λ c. assumption)
kept k (typing begun which done name line local_colon) h = assumption
kept (kind.Fixed fixed.Semicolon) (typing begun formals done name line (local_end ty)) h = assumption
kept k (inside begun f l at) h = at_inside_kept begun f l at k h
kept k q h = assumption
