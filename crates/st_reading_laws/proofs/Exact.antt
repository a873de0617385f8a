-- What the pass says of a text's tokens: where it stops is the first that cannot follow, where a level
-- is too great the first that makes one, and at the end it has read the text. Each of its states can be
-- finished: tokens lead from it to the end of a text.
use Rattle.st_tree.proofs.Common.{◌≡◌, ℕ, zero, suc, ◌<◌, ◌≤◌, List, [], ◌∷◌, ◌++◌, length, drop, Option, Some, None, refl, sym, ap, subst, ◌∙◌, append_assoc, append-nil, Bool, true, false, arith, IfSome, option_and_then, option_map, pos, codes, ◌||◌, if◌then◌else◌, map-append, Line, infix_level, is_free, may_name_global, names_block}
use Rattle.st_reading_laws.proofs.Bare.{bare, bare_text, next_bare, last_level_bare}
use Rattle.st_reading_laws.proofs.Drive.{finished, drive_source, DeclaredUnit, within_unit, run, go, Lets, close, comma, past_unary, past_left, unit_left}
use Rattle.st_reading_laws.proofs.Kept.{past, Shaped, Kept, kept, InStatements, InExpr, PlaceFits}
use Rattle.st_grammar.proofs.Common.{Source, Form, literal, group, prefix, infix_of, apply, shift, select, none, Statement, Statements, Globals, plain, Locals, Section, absent, present, spell_source, raw_tree, level, Binds, end_word, deepest, levels_source, raw_of, text_in, written, code, TextSoFar, State, start, over, BegunStatement, only, shifted, shifted_by, gate, first, second, to_var, to_area, area_value, test, selector, loop_test, looping, selecting, otherwise_case, Frame, unary, left, bracket, argument, waiting, within, Part, target, write_open, first_formal, next_formal, becoming, giving, given, labelled, Place, statement, part, closing, operand, operator, opening, GlobalTail, at_word, at_place, at_colon, at_type, at_square, at_zero, at_dots, at_last, at_close, at_of, at_byte, at_open, at_item, at_count, at_value, at_value_end, at_comma, at_end, Typing, local_colon, local_type, local_end, BegunUnit, SectionKind, formals, temps, globals, global_tail, between, heading, opened, formals_done, section, typing, inside, next, last_level, Passed, passes, shallower, limit, Lined, kinds, Reads, AllWithin, Begins, FirstWrong, FirstDeep}
use Rattle.st_grammar.specs.Syntax.{levels_in, BeginsWithin}
use Rattle.st_grammar.specs.declared.kind.GrammarKind.{GrammarKind}
use Rattle.st_lexer.proofs.Common.{RawSt, RawVar}
use Rattle.memory_areas.specs.declared.place.AreaName.TheVariants.{Db}
use Rattle.s7_base.specs.declared.word.Width.TheVariants as width
use Rattle.st_reading_laws.proofs.Precedence.{below_one, infix_some}
use Rattle.st_grammar.specs.declared.kind.Fixed.TheVariants as fixed
use Rattle.st_grammar.specs.declared.kind.Function.{Function}
use Rattle.st_grammar.specs.declared.kind.Function.TheVariants as function
use Rattle.st_grammar.specs.declared.kind.GrammarKind.TheVariants as kind
use Rattle.st_grammar.specs.declared.kind.Literal.TheVariants as lit
use Rattle.st_tree.specs.declared.expr.StType.TheVariants as type
use Rattle.st_tree.specs.declared.raw.RawVar.TheVariants as var

-- tokens lead to the end of a text
pub record Ends (q : State written) (w : List ℕ) : Type 0 where
  pub more : List GrammarKind
  pub text : TextSoFar written
  pub levels : List ℕ
  pub reaches : passes written q w more ≡ Some (record { state = over text; levels = levels })

-- what stands where something is missing
abbrev zero_kind : GrammarKind
zero_kind = kind.Literal (lit.Typed type.Bool (pos 0))

abbrev filler : Form
filler = literal (lit.Typed type.Bool (pos 0))

abbrev semicolon : GrammarKind
semicolon = kind.Fixed fixed.Semicolon

-- Statements

abbrev EndsIn : DeclaredUnit → ℕ → List (Frame written) → Place written → List ℕ → Type 0
EndsIn u d s p w = Ends (within_unit u d s p) w

-- the state after some tokens is finished
by_tokens : {q r : State written} {w v : List ℕ} (front : List GrammarKind)
    → ((ks : List GrammarKind) → passes written q w (front ++ ks) ≡ passes written r v ks) → Ends r v → Ends q w
by_tokens front step e = record { more = front ++ e.more; text = e.text; levels = e.levels; reaches = step e.more ∙ e.reaches }

-- tokens that lead there at once
ends_by : {q : State written} {w levels : List ℕ} {text : TextSoFar written} (more : List GrammarKind)
    → passes written q w more ≡ Some (record { state = over text; levels = levels }) → Ends q w
ends_by {levels = levels} {text = text} more e = record { more = more; text = text; levels = levels; reaches = e }

-- the end word of a unit in whose statements nothing is open, and the end of the text
abbrev unit_end : Bool → List GrammarKind
unit_end program = end_word program ∷ kind.Fixed fixed.End ∷ []

statement_ends : (u : DeclaredUnit) (d : ℕ) (s : List (Frame written)) (body : Statements) (w : List ℕ) → InStatements s → EndsIn u d s (statement body) w
statement_ends u d [] body w h =
    ends_by (unit_end u.begun.head.program)
    (unit_left u.begun.text u.begun.head u.formals u.locals d body u.begun.head.program (kind.Fixed fixed.End ∷ []) w refl)
statement_ends u d (within b (looping e) ∷ s) body w h =
    by_tokens (kind.Fixed fixed.EndWhile ∷ semicolon ∷ []) (λ ks. refl) (statement_ends u (shallower d) s _ _ h.2)
statement_ends u d (within b (selecting e arms labels) ∷ s) body w h =
    by_tokens (kind.Fixed fixed.EndCase ∷ semicolon ∷ []) (λ ks. refl) (statement_ends u (shallower d) s _ _ h.2)
statement_ends u d (within b (otherwise_case e arms) ∷ s) body w h =
    by_tokens (kind.Fixed fixed.EndCase ∷ semicolon ∷ []) (λ ks. refl) (statement_ends u (shallower d) s _ _ h.2)
statement_ends u d (within b y ∷ s) body w h = by_tokens (kind.Fixed fixed.EndIf ∷ semicolon ∷ []) (λ ks. refl) (statement_ends u (shallower d) s _ _ h.2)
statement_ends u d s body w h = absurd h

closing_ends : {u : DeclaredUnit} {d : ℕ} {s : List (Frame written)} {before : Statements} {x : Statement} {w : List ℕ}
    → InStatements s → EndsIn u d s (closing before x) w
closing_ends h = by_tokens (semicolon ∷ []) (λ ks. refl) (statement_ends _ _ _ _ _ h)

-- Expressions

-- a token at which an expression may end
abbrev Closes : GrammarKind → Type 0
Closes (kind.Fixed (fixed.Between op)) = ⊥
Closes other = Unit {0}

lets : (k : ℕ) (t : GrammarKind) → Closes t → Lets k t
lets k (kind.Fixed (fixed.Between op)) h = absurd h
lets k other h = tt

record OperatorEnds (u : DeclaredUnit) (d : ℕ) (s : List (Frame written)) (f : Form) (w : List ℕ) : Type 0 where
  token : GrammarKind
  rest : List GrammarKind
  text : TextSoFar written
  levels : List ℕ
  closes : Closes token
  reaches : run u d s (operator f) w (token ∷ rest) ≡ Some (record { state = over text; levels = levels })

operator_by : {u : DeclaredUnit} {d : ℕ} {s : List (Frame written)} {f : Form} {r : State written}
    {w v : List ℕ} (token : GrammarKind) (front : List GrammarKind) → Closes token
    → ((ks : List GrammarKind) → run u d s (operator f) w (token ∷ (front ++ ks)) ≡ passes written r v ks) → Ends r v → OperatorEnds u d s f w
operator_by token front c step e =
    record { token = token; rest = front ++ e.more; text = e.text; levels = e.levels; closes = c; reaches = step e.more ∙ e.reaches }

-- an operator with its operand ends as the expression that it makes
operator_as : {u : DeclaredUnit} {d e : ℕ} {s r : List (Frame written)} {f g : Form} {w : List ℕ}
    → ((t : GrammarKind) → Closes t → next written (within_unit u d s (operator f)) t ≡ next written (within_unit u e r (operator g)) t)
    → OperatorEnds u e r g w → OperatorEnds u d s f w
operator_as {w = w} same e = record {
  token = e.token;
  rest = e.rest;
  text = e.text;
  levels = e.levels;
  closes = e.closes;
  reaches = ap (λ (o : Option (State written)). go w e.rest o) (same e.token e.closes) ∙ e.reaches;
}

as_ends : {u : DeclaredUnit} {d : ℕ} {s : List (Frame written)} {f : Form} {w : List ℕ} → OperatorEnds u d s f w → EndsIn u d s (operator f) w
as_ends e = record { more = e.token ∷ e.rest; text = e.text; levels = e.levels; reaches = e.reaches }

operator_ends : (u : DeclaredUnit) (d : ℕ) (s : List (Frame written)) (f : Form) (w : List ℕ)
    → InExpr s → Binds f → level f ≤ limit written s → OperatorEnds u d s f w
operator_ends u d (unary op ∷ s) f w h b fits =
    operator_as (λ t c. past_unary u d op s f t) (operator_ends u (shallower d) s (prefix op f) w h.1 (fits, b) h.0)
operator_ends u d (left op g ∷ s) f w h b fits =
    operator_as (λ t c. past_left u d op g s f t (lets (infix_level op) t c))
    (operator_ends u d s (infix_of op g f) w h.3 (h.0, below_one (level f) (infix_level op) (infix_some op) fits, h.1, b) h.2)
operator_ends u d (bracket ∷ s) f w h b fits = operator_by close [] tt (λ ks. refl) (as_ends (operator_ends u (shallower d) s (group f) _ h b (omega arith)))
operator_ends u d (argument (only op) ∷ s) f w h b fits =
    operator_by close [] tt (λ ks. refl) (as_ends (operator_ends u (shallower d) s (apply op f) _ h.1 b (omega arith)))
operator_ends u d (argument (shifted op) ∷ s) f w h b fits =
    operator_by comma (zero_kind ∷ close ∷ []) tt (λ ks. refl) (as_ends (operator_ends u (shallower d) s (shift op f filler) _ h.1 (b, refl) (omega arith)))
operator_ends u d (argument (shifted_by op g) ∷ s) f w h b fits =
    operator_by close [] tt (λ ks. refl) (as_ends (operator_ends u (shallower d) s (shift op g f) _ h.1 (h.0, b) (omega arith)))
operator_ends u d (argument gate ∷ s) f w h b fits =
    operator_by comma (zero_kind ∷ comma ∷ zero_kind ∷ close ∷ []) tt (λ ks. refl)
    (as_ends (operator_ends u (shallower d) s (select f filler filler) _ h.1 (b, refl, refl) (omega arith)))
operator_ends u d (argument (first g) ∷ s) f w h b fits =
    operator_by comma (zero_kind ∷ close ∷ []) tt (λ ks. refl)
    (as_ends (operator_ends u (shallower d) s (select g f filler) _ h.1 (h.0, b, refl) (omega arith)))
operator_ends u d (argument (second g e) ∷ s) f w h b fits =
    operator_by close [] tt (λ ks. refl) (as_ends (operator_ends u (shallower d) s (select g e f) _ h.1 (h.0.0, h.0.1, b) (omega arith)))
operator_ends u d (waiting x (to_var v) ∷ s) f w h b fits = operator_by semicolon [] tt (λ ks. refl) (statement_ends u d s _ _ h.2)
operator_ends u d (waiting x (to_area a) ∷ s) f w h b fits = operator_by comma (zero_kind ∷ close ∷ []) tt (λ ks. refl) (closing_ends h.2)
operator_ends u d (waiting x (area_value a p) ∷ s) f w h b fits = operator_by close [] tt (λ ks. refl) (closing_ends h.2)
operator_ends u d (waiting x (test arms) ∷ s) f w h b fits =
    operator_by (kind.Fixed fixed.Then) (kind.Fixed fixed.EndIf ∷ []) tt (λ ks. refl) (closing_ends h.2)
operator_ends u d (waiting x selector ∷ s) f w h b fits =
    operator_by (kind.Fixed fixed.Of) (zero_kind ∷ kind.Fixed fixed.Colon ∷ kind.Fixed fixed.EndCase ∷ []) tt (λ ks. refl) (closing_ends h.2)
operator_ends u d (waiting x loop_test ∷ s) f w h b fits = operator_by (kind.Fixed fixed.Do) (kind.Fixed fixed.EndWhile ∷ []) tt (λ ks. refl) (closing_ends h.2)
operator_ends u d s f w h b fits = absurd h

operand_ends : {u : DeclaredUnit} {d : ℕ} {s : List (Frame written)} {w : List ℕ} → InExpr s → EndsIn u d s operand w
operand_ends h = by_tokens (zero_kind ∷ []) (λ ks. refl) (as_ends (operator_ends _ _ _ filler _ h refl (omega arith)))

opening_ends : (u : DeclaredUnit) (d : ℕ) (s : List (Frame written)) (f : Function) (w : List ℕ) → InExpr s → EndsIn u d s (opening f) w
opening_ends u d s (function.One op) w h = by_tokens (kind.Fixed fixed.Open ∷ []) (λ ks. refl) (operand_ends (tt, h))
opening_ends u d s f w h = by_tokens (kind.Fixed fixed.Open ∷ []) (λ ks. refl) (operand_ends (tt, h))

-- Parts of statements

abbrev some_name : BegunStatement written → GrammarKind
some_name b = kind.Variable (var.Name []) b.line

abbrev labels_end : List GrammarKind
labels_end = kind.Fixed fixed.Colon ∷ kind.Fixed fixed.EndCase ∷ []

part_ends : (u : DeclaredUnit) (d : ℕ) (s : List (Frame written)) (b : BegunStatement written) (x : Part written) (w : List ℕ)
    → PlaceFits s (part b x) → EndsIn u d s (part b x) w
part_ends u d s b (target v) w h = by_tokens (kind.Fixed fixed.Becomes ∷ []) (λ ks. refl) (operand_ends (h.1, tt, h.0))
part_ends u d s b (write_open a) w h = by_tokens (kind.Fixed fixed.Open ∷ []) (λ ks. refl) (operand_ends (h.1, tt, h.0))
part_ends u d s b (first_formal name) w h = by_tokens (close ∷ []) (λ ks. refl) (closing_ends h.0)
part_ends u d s b (next_formal name actuals) w h =
    by_tokens (some_name b ∷ kind.Fixed fixed.Becomes ∷ some_name b ∷ close ∷ []) (λ ks. refl) (closing_ends h.0)
part_ends u d s b (becoming name actuals formal) w h = by_tokens (kind.Fixed fixed.Becomes ∷ some_name b ∷ close ∷ []) (λ ks. refl) (closing_ends h.0)
part_ends u d s b (giving name actuals formal) w h = by_tokens (some_name b ∷ close ∷ []) (λ ks. refl) (closing_ends h.0)
part_ends u d s b (given name actuals) w h = by_tokens (close ∷ []) (λ ks. refl) (closing_ends h.0)
part_ends u d s b (labelled e arms labels) w h = by_tokens labels_end (λ ks. refl) (closing_ends h.0)
part_ends u d s b x w h = by_tokens (zero_kind ∷ labels_end) (λ ks. refl) (closing_ends h.0)

place_ends : (u : DeclaredUnit) (d : ℕ) (s : List (Frame written)) (p : Place written) (w : List ℕ) → PlaceFits s p → EndsIn u d s p w
place_ends u d s (statement body) w h = statement_ends u d s body w h.0
place_ends u d s (part b x) w h = part_ends u d s b x w h
place_ends u d s (closing before x) w h = closing_ends h.0
place_ends u d s operand w h = operand_ends h
place_ends u d s (operator f) w h = let z : level f ≡ 0 = h.2 in as_ends (operator_ends u d s f w h.0 h.1 (omega arith))
place_ends u d s (opening f) w h = opening_ends u d s f w h

-- Texts

-- the end of the globals, that of one with bytes, and those of an array
abbrev globals_end : List GrammarKind
globals_end = kind.Fixed fixed.EndVar ∷ kind.Fixed fixed.End ∷ []

abbrev tail_end : List GrammarKind
tail_end = semicolon ∷ globals_end

abbrev items_end : List GrammarKind
items_end = kind.Fixed fixed.CloseSquare ∷ tail_end

abbrev bytes_end : List GrammarKind
bytes_end = kind.Fixed fixed.Of ∷ kind.Fixed (fixed.Type type.Byte) ∷ tail_end

abbrev array_end : List GrammarKind
array_end = kind.Literal (lit.Decimal 0) ∷ kind.Fixed fixed.CloseSquare ∷ bytes_end

abbrev square_end : List GrammarKind
square_end = kind.Fixed fixed.OpenSquare ∷ kind.Literal (lit.Decimal 0) ∷ kind.Fixed fixed.Dots ∷ array_end

-- the name is that of a data block, or free
type_ends : (done : Globals) (name : List ℕ) (line : Line) (v : RawVar × Line) (w : List ℕ) (b f : Bool)
    → names_block name ≡ b → is_free name ≡ f → (b || f) ≡ true → Ends (global_tail done name line (at_type v)) w
type_ends done name line v w true f e g h =
    ends_by (kind.Fixed fixed.Array ∷ square_end)
    (ap (λ (c : Bool). go w square_end (option_map (λ (y : GlobalTail written). global_tail done name line y) (if c then Some (at_square v) else None))) e)
type_ends done name line v w false true e g h =
    ends_by (kind.Fixed (fixed.Type type.Bool) ∷ tail_end) (ap (λ (c : Bool). go w tail_end
    (option_map (λ (y : GlobalTail written). global_tail done name line y) (if c then Some (at_end v (plain type.Bool)) else None))) g)
type_ends done name line v w false false e g h = absurd cc

abbrev some_place : RawVar
some_place = var.Direct Db None width.Byte 0 0

tail_ends : (done : Globals) (name : List ℕ) (line : Line) (x : GlobalTail written) (w : List ℕ)
    → may_name_global name ≡ true → Ends (global_tail done name line x) w
tail_ends done name line at_word w h =
    by_tokens (kind.Fixed fixed.At ∷ kind.Variable some_place line ∷ kind.Fixed fixed.Colon ∷ [])
    (λ ks. refl) (type_ends done name line _ _ (names_block name) (is_free name) refl refl h)
tail_ends done name line at_place w h =
    by_tokens (kind.Variable some_place line ∷ kind.Fixed fixed.Colon ∷ []) (λ ks. refl)
    (type_ends done name line _ _ (names_block name) (is_free name) refl refl h)
tail_ends done name line (at_colon v) w h =
    by_tokens (kind.Fixed fixed.Colon ∷ []) (λ ks. refl) (type_ends done name line v _ (names_block name) (is_free name) refl refl h)
tail_ends done name line (at_type v) w h = type_ends done name line v w (names_block name) (is_free name) refl refl h
tail_ends done name line (at_square v) w h = ends_by square_end refl
tail_ends done name line (at_zero v) w h = ends_by (kind.Literal (lit.Decimal 0) ∷ kind.Fixed fixed.Dots ∷ array_end) refl
tail_ends done name line (at_dots v) w h = ends_by (kind.Fixed fixed.Dots ∷ array_end) refl
tail_ends done name line (at_last v) w h = ends_by array_end refl
tail_ends done name line (at_close v last) w h = ends_by (kind.Fixed fixed.CloseSquare ∷ bytes_end) refl
tail_ends done name line (at_of v last) w h = ends_by bytes_end refl
tail_ends done name line (at_byte v last) w h = ends_by (kind.Fixed (fixed.Type type.Byte) ∷ tail_end) refl
tail_ends done name line (at_open v last) w h = ends_by (kind.Fixed fixed.OpenSquare ∷ kind.Literal (lit.Byte 0) ∷ items_end) refl
tail_ends done name line (at_item v last items) w h = ends_by (kind.Literal (lit.Byte 0) ∷ items_end) refl
tail_ends done name line (at_count v last items count) w h = ends_by (kind.Fixed fixed.Open ∷ kind.Literal (lit.Byte 0) ∷ close ∷ items_end) refl
tail_ends done name line (at_value v last items count) w h = ends_by (kind.Literal (lit.Byte 0) ∷ close ∷ items_end) refl
tail_ends done name line (at_value_end v last items count b) w h = ends_by (close ∷ items_end) refl
tail_ends done name line (at_comma v last items) w h = ends_by items_end refl
tail_ends done name line x w h = ends_by tail_end refl

abbrev declared_unit : BegunUnit written → Section Locals → Section Locals → DeclaredUnit
declared_unit begun f l = record { begun = begun; formals = f; locals = l }

-- the end word of a unit, directly after its head or its formals
bare_end : (begun : BegunUnit written) (f : Section Locals) (p : Bool) (w : List ℕ) → begun.head.program ≡ p → Ends (formals_done begun f) w
bare_end begun f true w e = ends_by (unit_end true) (unit_left begun.text begun.head f absent 0 none true (kind.Fixed fixed.End ∷ []) w e)
bare_end begun f false w e = ends_by (unit_end false) (unit_left begun.text begun.head f absent 0 none false (kind.Fixed fixed.End ∷ []) w e)

opened_end : (begun : BegunUnit written) (p : Bool) (w : List ℕ) → begun.head.program ≡ p → Ends (opened begun) w
opened_end begun true w e = ends_by (unit_end true) (unit_left begun.text begun.head absent absent 0 none true (kind.Fixed fixed.End ∷ []) w e)
opened_end begun false w e = ends_by (unit_end false) (unit_left begun.text begun.head absent absent 0 none false (kind.Fixed fixed.End ∷ []) w e)

section_ends : (begun : BegunUnit written) (which : SectionKind written) (done : Locals) (w : List ℕ) → Ends (section begun which done) w
section_ends begun formals done w = by_tokens (kind.Fixed fixed.EndVar ∷ []) (λ ks. refl) (bare_end begun _ begun.head.program _ refl)
section_ends begun (temps f) done w =
    by_tokens (kind.Fixed fixed.EndVar ∷ []) (λ ks. refl) (statement_ends (declared_unit begun f (present done)) 0 [] none _ tt)

typing_ends : (begun : BegunUnit written) (which : SectionKind written) (done : Locals) (name : List ℕ) (line : Line) (x : Typing) (w : List ℕ)
    → Ends (typing begun which done name line x) w
typing_ends begun formals done name line local_colon w =
    by_tokens (kind.Fixed fixed.Colon ∷ kind.Fixed (fixed.Type type.Bool) ∷ semicolon ∷ []) (λ ks. refl) (section_ends begun formals _ _)
typing_ends begun (temps f) done name line local_colon w =
    by_tokens (kind.Fixed fixed.Colon ∷ kind.Fixed (fixed.Type type.Bool) ∷ semicolon ∷ []) (λ ks. refl) (section_ends begun (temps f) _ _)
typing_ends begun formals done name line local_type w =
    by_tokens (kind.Fixed (fixed.Type type.Bool) ∷ semicolon ∷ []) (λ ks. refl) (section_ends begun formals _ _)
typing_ends begun (temps f) done name line local_type w =
    by_tokens (kind.Fixed (fixed.Type type.Bool) ∷ semicolon ∷ []) (λ ks. refl) (section_ends begun (temps f) _ _)
typing_ends begun which done name line (local_end ty) w = by_tokens (semicolon ∷ []) (λ ks. refl) (section_ends begun which _ _)

pub finishes : (q : State written) (w : List ℕ) → Shaped q → Ends q w
finishes start w h = ends_by (kind.Fixed fixed.End ∷ []) refl
finishes (globals done) w h = ends_by globals_end refl
finishes (global_tail done name line x) w h = tail_ends done name line x w h.1
finishes (between text) w h = ends_by (kind.Fixed fixed.End ∷ []) refl
finishes (heading text program line) w h = by_tokens (kind.Variable (var.Name (codes "OB1")) line ∷ []) (λ ks. refl) (opened_end _ program _ refl)
finishes (opened begun) w h = opened_end begun begun.head.program w refl
finishes (formals_done begun f) w h = bare_end begun f begun.head.program w refl
finishes (section begun which done) w h = section_ends begun which done w
finishes (typing begun which done name line x) w h = typing_ends begun which done name line x w
finishes (inside begun f l at) w h = place_ends (declared_unit begun f l) at.depth at.stack at.place w h.3
finishes (over text) w h = ends_by [] refl

-- What the pass says

abbrev pub at_state : State written → List ℕ → Passed written
at_state q w = record { state = q; levels = w }

-- The pass over tokens

abbrev then_pass : List GrammarKind → Option (Passed written) → Option (Passed written)
then_pass ks o = option_and_then (λ (r : Passed written). passes written r.state r.levels ks) o

passes-append : (q : State written) (w : List ℕ) (xs ys : List GrammarKind) → passes written q w (xs ++ ys) ≡ then_pass ys (passes written q w xs)
passes-append q w [] ys = refl
passes-append q w (k ∷ xs) ys = by (next written q k) (λ r. passes-append r (last_level written r ∷ w) xs ys)
  where
    by : (o : Option (State written))
        → ((r : State written) → passes written r (last_level written r ∷ w) (xs ++ ys) ≡ then_pass ys (passes written r (last_level written r ∷ w) xs))
        → option_and_then (λ r. passes written r (last_level written r ∷ w) (xs ++ ys)) o
        ≡ then_pass ys (option_and_then (λ r. passes written r (last_level written r ∷ w) xs) o)
    by None e = refl
    by (Some r) e = e r

-- the levels of the last tokens stand before the others
drop_tail : (n : ℕ) (xs ys : List ℕ) (y : ℕ) → drop n xs ≡ y ∷ ys → drop (suc n) xs ≡ ys
drop_tail zero (x ∷ xs) ys y h = cc
drop_tail (suc n) (x ∷ xs) ys y h = drop_tail n xs ys y h
drop_tail n xs ys y h = absurd (let e : [] ≡ y ∷ ys = h in cc)

dropped : (q : State written) (w : List ℕ) (ks : List GrammarKind) → IfSome (passes written q w ks) (λ r. drop (length ks) r.levels ≡ w)
dropped q w [] = refl
dropped q w (k ∷ ks) = by (next written q k) (λ r. dropped r (last_level written r ∷ w) ks)
  where
    last : (x : ℕ) (o : Option (Passed written)) → IfSome o (λ r. drop (length ks) r.levels ≡ x ∷ w) → IfSome o (λ r. drop (length (k ∷ ks)) r.levels ≡ w)
    last x None h = tt
    last x (Some r) h = drop_tail (length ks) r.levels w x h

    by : (o : Option (State written))
        → ((r : State written) → IfSome (passes written r (last_level written r ∷ w) ks) (λ z. drop (length ks) z.levels ≡ last_level written r ∷ w))
        → IfSome (option_and_then (λ r. passes written r (last_level written r ∷ w) ks) o) (λ z. drop (length (k ∷ ks)) z.levels ≡ w)
    by None h = tt
    by (Some r) h = last (last_level written r) (passes written r (last_level written r ∷ w) ks) (h r)

-- what was passed is the text of the state
record PassedAll (front : List GrammarKind) (r : State written) : Type 0 where
  shaped : Shaped r
  text : (more : List GrammarKind) → past r more ≡ front ++ more

kept_then : (front : List GrammarKind) (q : State written) (w : List ℕ) (k : GrammarKind) (ks : List GrammarKind) (o : Option (State written))
    → ((more : List GrammarKind) → past q more ≡ front ++ more) → IfSome o (Kept (λ more. past q (k ∷ more)))
    → ((r : State written) → Shaped r → ((more : List GrammarKind) → past r more ≡ (front ++ k ∷ []) ++ more)
    → IfSome (passes written r (last_level written r ∷ w) ks) (λ z. PassedAll ((front ++ k ∷ []) ++ ks) z.state))
    → IfSome (option_and_then (λ r. passes written r (last_level written r ∷ w) ks) o) (λ z. PassedAll (front ++ k ∷ ks) z.state)
kept_then front q w k ks None e h more = tt
kept_then front q w k ks (Some r) e h on =
    subst (λ (xs : List GrammarKind). IfSome (passes written r (last_level written r ∷ w) ks) (λ z. PassedAll xs z.state)) (append_assoc front (k ∷ []) ks)
    (on r h.shaped (λ more. h.grown more ∙ e (k ∷ more) ∙ sym (append_assoc front (k ∷ []) more)))

kept_all : (front : List GrammarKind) (q : State written) (w : List ℕ) (ks : List GrammarKind) → Shaped q
    → ((more : List GrammarKind) → past q more ≡ front ++ more) → IfSome (passes written q w ks) (λ z. PassedAll (front ++ ks) z.state)
kept_all front q w [] h e = record { shaped = h; text = λ more. e more ∙ ap (λ (xs : List GrammarKind). xs ++ more) (sym (append-nil front)) }
kept_all front q w (k ∷ ks) h e =
    kept_then front q w k ks (next written q k) e (kept k q h) (λ r s t. kept_all (front ++ k ∷ []) r (last_level written r ∷ w) ks s t)

passed_all : (ks : List GrammarKind) (q : State written) (w : List ℕ) → passes written start [] ks ≡ Some (at_state q w) → PassedAll ks q
passed_all ks q w e = subst (λ (o : Option (Passed written)). IfSome o (λ z. PassedAll ks z.state)) e (kept_all [] start [] ks tt (λ more. refl))

-- The text of a finished pass

abbrev pub source_of : TextSoFar written → Source
source_of text = record { globals = text.globals; units = text.units }

abbrev levels_of : Option (Passed written) → List ℕ
levels_of None = []
levels_of (Some r) = r.levels

pub record WasRead (all : List GrammarKind) (text : TextSoFar written) (w : List ℕ) : Type 0 where
  pub reads : Reads all (source_of text)
  pub levels : levels_source (source_of text) ≡ w

pub was_read : (all : List GrammarKind) (text : TextSoFar written) (w : List ℕ)
    → passes written start [] all ≡ Some (at_state (over text) w) → WasRead all text w
was_read all text w e =
    let p = passed_all all (over text) w e in
    let spelled : spell_source (source_of text) ≡ all = p.text [] ∙ append-nil all in
    record {
      reads = record { fits = p.shaped; spelled = spelled };
      levels = ap levels_of (sym (drive_source (source_of text) p.shaped) ∙ ap (λ (ks : List GrammarKind). passes written start [] ks) spelled ∙ e);
    }

-- a text begins with what was passed, and its levels are those of the pass
pub record BeginsAt (front : List GrammarKind) (w : List ℕ) : Type 0 where
  pub begins : Begins front
  pub levels : levels_in begins ≡ w

pub begins_at : (front : List GrammarKind) (q : State written) (w : List ℕ) → passes written start [] front ≡ Some (at_state q w) → BeginsAt front w
begins_at front q w e =
    let p = passed_all front q w e in
    let f : Ends q w = finishes q w p.shaped in
    let whole : passes written start [] (front ++ f.more) ≡ Some (at_state (over f.text) f.levels) =
    passes-append start [] front f.more ∙ ap (λ (o : Option (Passed written)). then_pass f.more o) e ∙ f.reaches in
    let r = was_read (front ++ f.more) f.text f.levels whole in
    let tail : drop (length f.more) f.levels ≡ w =
    subst (λ (o : Option (Passed written)). IfSome o (λ z. drop (length f.more) z.levels ≡ w)) f.reaches (dropped q w f.more) in
    record {
      begins = record { source = source_of f.text; more = f.more; reads = r.reads };
      levels = ap (λ (ls : List ℕ). drop (length f.more) ls) r.levels ∙ tail;
    }

-- the pass goes on over a text that begins with what it has passed
on_from : (front : List GrammarKind) (q : State written) (w : List ℕ) (b : Begins front) → passes written start [] front ≡ Some (at_state q w)
    → passes written q w b.more ≡ Some (at_state (finished b.source) (levels_source b.source))
on_from front q w b e =
    ap (λ (o : Option (Passed written)). then_pass b.more o) (sym e) ∙ sym (passes-append start [] front b.more)
    ∙ ap (λ (ks : List GrammarKind). passes written start [] ks) (sym b.reads.spelled) ∙ drive_source b.source b.reads.fits

-- each text that begins with what was passed has these levels
pub same_levels : (front : List GrammarKind) (q : State written) (w : List ℕ) (b : Begins front)
    → passes written start [] front ≡ Some (at_state q w) → levels_in b ≡ w
same_levels front q w b e =
    subst (λ (o : Option (Passed written)). IfSome o (λ z. drop (length b.more) z.levels ≡ w)) (on_from front q w b e) (dropped q w b.more)

-- where the pass stops, no text goes on
pub cannot_follow : (front : List GrammarKind) (k : GrammarKind) (q : State written) (w : List ℕ)
    → passes written start [] front ≡ Some (at_state q w) → next written q k ≡ None → Begins (front ++ k ∷ []) → ⊥
cannot_follow front k q w e stops b =
    let whole : spell_source b.source ≡ front ++ k ∷ b.more = b.reads.spelled ∙ append_assoc front (k ∷ []) b.more in
    let shorter : Begins front = record { source = b.source; more = k ∷ b.more; reads = record { fits = b.reads.fits; spelled = whole } } in
    let on : passes written q w (k ∷ b.more) ≡ Some (at_state (finished b.source) (levels_source b.source)) = on_from front q w shorter e in
    let stopped : passes written q w (k ∷ b.more) ≡ None =
    ap (λ (o : Option (State written)). option_and_then (λ r. passes written r (last_level written r ∷ w) b.more) o) stops in
    absurd (let c : Some (at_state (finished b.source) (levels_source b.source)) ≡ None = sym on ∙ stopped in cc)

-- What the code has read

-- the code's state is that of the pass over the first tokens, none of which makes a level too many
pub record Read (front : List Lined) (state : State code) : Type 0 where
  pub inner : State written
  pub levels : List ℕ
  pub same : bare inner ≡ state
  pub passed : passes written start [] (kinds front) ≡ Some (at_state inner levels)
  pub within : AllWithin deepest levels

pub none_read : Read [] start
none_read = record { inner = start; levels = []; same = refl; passed = refl; within = tt }

-- a step of the code is a step of the pass
record Stepped (q : State written) (k : GrammarKind) (state : State code) : Type 0 where
  inner : State written
  step : next written q k ≡ Some inner
  same : bare inner ≡ state

stepped : (q : State written) (k : GrammarKind) (state : State code) → next code (bare q) k ≡ Some state → Stepped q k state
stepped q k state e = by (next written q k) refl (sym (next_bare q k) ∙ e)
  where
    by : (o : Option (State written)) → next written q k ≡ o → option_map bare o ≡ Some state → Stepped q k state
    by None f h = absurd cc
    by (Some r) f h = record { inner = r; step = f; same = cc }

stopped : (q : State written) (k : GrammarKind) → next code (bare q) k ≡ None → next written q k ≡ None
stopped q k e = by (next written q k) (sym (next_bare q k) ∙ e)
  where
    by : (o : Option (State written)) → option_map bare o ≡ None → o ≡ None
    by None h = refl
    by (Some r) h = absurd cc

passes_more : (front : List Lined) (item : Lined) (q r : State written) (w : List ℕ)
    → passes written start [] (kinds front) ≡ Some (at_state q w) → next written q item.kind ≡ Some r
    → passes written start [] (kinds front ++ item.kind ∷ []) ≡ Some (at_state r (last_level written r ∷ w))
passes_more front item q r w e n =
    passes-append start [] (kinds front) (item.kind ∷ []) ∙ ap (λ (o : Option (Passed written)). then_pass (item.kind ∷ []) o) e
    ∙ ap (λ (o : Option (State written)). option_and_then (λ z. passes written z (last_level written z ∷ w) []) o) n

pub read_more : (front : List Lined) (item : Lined) (state to : State code) → Read front state
    → next code state item.kind ≡ Some to → last_level code to ≤ deepest → Read (front ++ item ∷ []) to
read_more front item state to r n low =
    let s = stepped r.inner item.kind to (ap (λ (q : State code). next code q item.kind) r.same ∙ n) in
    let level : last_level written s.inner ≡ last_level code to = sym (last_level_bare s.inner) ∙ ap (λ (q : State code). last_level code q) s.same in
    record {
      inner = s.inner;
      levels = last_level written s.inner ∷ r.levels;
      same = s.same;
      passed =
          ap (λ (ks : List GrammarKind). passes written start [] ks) (map-append (λ (i : Lined). i.kind) front (item ∷ []))
          ∙ passes_more front item r.inner s.inner r.levels r.passed s.step;
      within = (subst (λ (n : ℕ). n ≤ deepest) (sym level) low, r.within);
    }

may_begin : (front : List Lined) (state : State code) → Read front state → BeginsWithin (kinds front)
may_begin front state r =
    let b = begins_at (kinds front) r.inner r.levels r.passed in
    record { begins = b.begins; within = subst (λ (w : List ℕ). AllWithin deepest w) (sym b.levels) r.within }

pub wrong_at : (front back : List Lined) (item : Lined) (state : State code) → Read front state
    → next code state item.kind ≡ None → FirstWrong (front ++ item ∷ back) item.line
wrong_at front back item state r n = record {
  front = front;
  item = item;
  back = back;
  split = refl;
  on_line = refl;
  may_begin = may_begin front state r;
  cannot_follow =
      cannot_follow (kinds front) item.kind r.inner r.levels r.passed (stopped r.inner item.kind (ap (λ (q : State code). next code q item.kind) r.same ∙ n));
}

pub deep_at : (front back : List Lined) (item : Lined) (state to : State code) → Read front state
    → next code state item.kind ≡ Some to → deepest < last_level code to → FirstDeep (front ++ item ∷ back) item.line
deep_at front back item state to r n high =
    let s = stepped r.inner item.kind to (ap (λ (q : State code). next code q item.kind) r.same ∙ n) in
    let level : last_level written s.inner ≡ last_level code to = sym (last_level_bare s.inner) ∙ ap (λ (q : State code). last_level code q) s.same in
    let b =
    begins_at (kinds front ++ item.kind ∷ []) s.inner (last_level written s.inner ∷ r.levels)
    (passes_more front item r.inner s.inner r.levels r.passed s.step) in
    record {
      front = front;
      item = item;
      back = back;
      split = refl;
      on_line = refl;
      can_follow = b.begins;
      level = last_level written s.inner;
      others = r.levels;
      levels = b.levels;
      too_deep = subst (λ (n : ℕ). deepest < n) (sym level) high;
      within = r.within;
    }

-- The end of the text

pub record ReadAll (all : List Lined) (raw : RawSt) : Type 0 where
  pub source : Source
  pub reads : Reads (kinds all) source
  pub within : AllWithin deepest (levels_source source)
  pub same : raw_tree source ≡ raw

pub read_all : (all : List Lined) (text : TextSoFar code) → Read all (over text) → ReadAll all (raw_of text)
read_all all text r = by r.inner (ap text_in r.same) r.passed
  where
    by : (q : State written) → text_in (bare q) ≡ Some text → passes written start [] (kinds all) ≡ Some (at_state q r.levels) → ReadAll all (raw_of text)
    by (over t) e p =
        let w = was_read (kinds all) t r.levels p in
        let same : bare_text t ≡ text = cc in
        record { source = source_of t; reads = w.reads; within = subst (λ (ls : List ℕ). AllWithin deepest ls) (sym w.levels) r.within; same = ap raw_of same }
    by other e p = absurd cc
