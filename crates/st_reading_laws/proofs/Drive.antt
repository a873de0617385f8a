-- The pass goes over the tokens that a text spells, and has read it then: its expressions, its statements, and the whole.
use Rattle.st_tree.proofs.Common.{◌≡◌, ℕ, suc, ◌+◌, ◌<◌, ◌≤◌, Bool, true, false, List, [], ◌∷◌, Option, Some, None, refl, ap, ◌∙◌, arith, nat_le, if◌then◌else◌, option_and_then, option_map, ◌||◌, nat_tests, infix_level, weakest, Line, is_free, may_name_global, names_block}
use Rattle.st_grammar.proofs.Common.{Form, literal, variable, group, prefix, infix_of, apply, shift, select, Locals, Section, Actuals, no_actual, actual, Labels, label, more_labels, Statement, assign, write, invoke, choice, choice_else, cases, cases_else, loop, jump, Statements, none, empty, further, Arms, no_arm, arm, CaseArms, no_case, case_arm, Items, no_item, single, times, GlobalType, plain, bytes, Globals, no_global, global, no_local, local, absent, present, Head, Units, no_unit, unit, Source, prefix_level, level, Binds, prefix_kind, spell, is_value, LabelsFit, Fits, AllFit, ArmsFit, CasesFit, arm_word, spell_actuals, spell_labels, spell_one, spell_all, spell_arms, spell_cases, is_global, GlobalsFit, FormalsFit, LocalsFit, IfPresent, HeadFits, UnitsFit, SourceFits, spell_items, spell_type, spell_globals, spell_locals, unit_word, end_word, spell_formals, spell_temps, spell_head, spell_units, spell_source, height, levels, levels_actuals, levels_labels, levels_one, levels_all, levels_arms, levels_cases, levels_items, levels_type, levels_globals, levels_locals, levels_section, levels_units, levels_source, written, Frame, unary, left, bracket, argument, only, shifted, shifted_by, gate, first, second, Place, operand, operator, BodyState, BegunUnit, State, inside, BegunStatement, waiting, within, to_var, to_area, area_value, test, selector, loop_test, choosing, otherwise, looping, selecting, otherwise_case, first_formal, given, first_label, labelled, statement, part, at_type, at_item, at_comma, TextSoFar, SectionKind, formals, temps, start, globals, global_tail, between, heading, opened, formals_done, section, over, body_state, limit, Reduced, reduced_to, reduce, with_prefix, waits, leave, next, level_at, last_level, Passed, shallower, passes, in_loop, begun_unit, ends}
use Rattle.st_grammar.specs.inner.Steps.{begun_statement, body_start}
use Rattle.st_grammar.specs.declared.kind.Fixed.TheVariants as fixed
use Rattle.st_grammar.specs.declared.kind.GrammarKind.{GrammarKind}
use Rattle.st_grammar.specs.declared.kind.GrammarKind.TheVariants as kind
use Rattle.st_grammar.specs.declared.kind.Prefix.{Prefix}
use Rattle.st_grammar.specs.declared.kind.Prefix.TheVariants as before
use Rattle.st_reading_laws.proofs.Precedence.{infix_most, infix_some, level_most, prefix_above, prefix_most, less_one, below_one}
use Rattle.st_lexer.proofs.Common.{BinaryOp, RawVar}
use Rattle.st_grammar.specs.declared.kind.Lead.TheVariants as lead
use Rattle.st_grammar.specs.declared.kind.Literal.{Literal}
use Rattle.st_tree.specs.declared.raw.RawVar.TheVariants as var
use Rattle.st_grammar.specs.declared.kind.Literal.TheVariants as lit

-- a unit with its declarations: what stands before its statements
pub record DeclaredUnit : Type 0 where
  pub begun : BegunUnit written
  pub formals : Section Locals
  pub locals : Section Locals

-- the pass from a place in a unit
abbrev pub within_unit : DeclaredUnit → ℕ → List (Frame written) → Place written → State written
within_unit u d s p = inside u.begun u.formals u.locals (body_state written d s p)

abbrev pub run : DeclaredUnit → ℕ → List (Frame written) → Place written → List ℕ → List GrammarKind → Option (Passed written)
run u d s p w ks = passes written (within_unit u d s p) w ks

-- the pass after a token
abbrev pub go : List ℕ → List GrammarKind → Option (State written) → Option (Passed written)
go w ks o = option_and_then (λ r. passes written r (last_level written r ∷ w) ks) o

-- Tests of levels

pub le_true : (a b : ℕ) → a ≤ b → nat_le a b ≡ true
le_true a b h = grind (arith, nat_tests)

pub le_false : (a b : ℕ) → b < a → nat_le a b ≡ false
le_false a b h = grind (arith, nat_tests)

-- the next token is no operator that binds more tightly than a level
abbrev pub Lets : ℕ → GrammarKind → Type 0
Lets k (kind.Fixed (fixed.Between op)) = k ≤ infix_level op
Lets k other = Unit {0}

lets_less : (j k : ℕ) (t : GrammarKind) → j ≤ k → Lets k t → Lets j t
lets_less j k (kind.Fixed (fixed.Between op)) h l = omega arith
lets_less j k other h l = tt

-- no unit ends in an expression
no_end : (u : DeclaredUnit) (program : Bool) (s : List (Frame written)) (f : Form) → None ≡ leave written program u.begun u.formals u.locals s (operator f)
no_end u program [] f = refl
no_end u program (x ∷ s) f = refl

-- an operator with its operand behaves as the expression that it makes
pub past_unary : (u : DeclaredUnit) (d : ℕ) (op : Prefix) (s : List (Frame written)) (f : Form) (t : GrammarKind) →
    next written (within_unit u d (unary op ∷ s) (operator f)) t ≡ next written (within_unit u (shallower d) s (operator (prefix op f))) t
past_unary u d op s f (kind.Fixed (fixed.Between o)) = rw (le_true (prefix_level op) (infix_level o) (let h = prefix_above op o in omega arith)) refl
past_unary u d op s f (kind.Fixed fixed.EndProgram) = no_end u true s (prefix op f)
past_unary u d op s f (kind.Fixed fixed.EndFunction) = no_end u false s (prefix op f)
past_unary u d op s f other = rw (le_true (prefix_level op) weakest (prefix_most op)) refl

pub past_left : (u : DeclaredUnit) (d : ℕ) (op : BinaryOp) (a : Form) (s : List (Frame written)) (f : Form) (t : GrammarKind) → Lets (infix_level op) t →
    next written (within_unit u d (left op a ∷ s) (operator f)) t ≡ next written (within_unit u d s (operator (infix_of op a f))) t
past_left u d op a s f (kind.Fixed (fixed.Between o)) h = rw (le_true (infix_level op) (infix_level o) h) refl
past_left u d op a s f (kind.Fixed fixed.EndProgram) h = no_end u true s (infix_of op a f)
past_left u d op a s f (kind.Fixed fixed.EndFunction) h = no_end u false s (infix_of op a f)
past_left u d op a s f other h = rw (le_true (infix_level op) weakest (infix_most op)) refl

-- where the place takes operands of a level, no operator before it binds as tightly
unmoved : (op : BinaryOp) (d : ℕ) (s : List (Frame written)) (f : Form)
    → infix_level op ≤ limit written s → reduce written (infix_level op) d s f ≡ reduced_to written d s f
unmoved op d (unary u ∷ s) f h = absurd (let k = prefix_above u op in omega arith)
unmoved op d (left o a ∷ s) f h = rw (le_false (infix_level o) (infix_level op) (below_one (infix_level op) (infix_level o) (infix_some o) h)) refl
unmoved op d s f h = refl

-- an operator before its operand
prefix_next : (u : DeclaredUnit) (d : ℕ) (s : List (Frame written)) (op : Prefix)
    → next written (within_unit u d s operand) (prefix_kind op)
    ≡ option_map (λ (to : BodyState written). inside u.begun u.formals u.locals to) (with_prefix written d s op)
prefix_next u d s before.Minus = refl
prefix_next u d s before.Not = refl

abbrev pub close : GrammarKind
close = kind.Fixed fixed.Close

abbrev pub comma : GrammarKind
comma = kind.Fixed fixed.Comma

pub drive : (u : DeclaredUnit) (d : ℕ) (s : List (Frame written)) (f : Form) (t : GrammarKind) (ts : List GrammarKind) (w : List ℕ)
    → Binds f → level f ≤ limit written s → Lets (level f) t
    → run u d s operand w (spell f (t ∷ ts)) ≡ run u d s (operator f) (levels d f w) (t ∷ ts)
drive u d s (literal c) t ts w b h l = rw b refl
drive u d s (variable v line) t ts w b h l = refl
drive u d s (group f) t ts w b h l = drive u (suc d) (bracket ∷ s) f close (t ∷ ts) (suc d ∷ w) b (level_most f) tt
drive u d s (prefix op f) t ts w b h l =
    ap (λ (o : Option (State written)). go w (spell f (t ∷ ts)) o) (prefix_next u d s op
    ∙ ap (λ (c : Bool). option_map (λ (to : BodyState written). inside u.begun u.formals u.locals to)
    (if c then Some (body_state written (suc d) (unary op ∷ s) operand) else None)) (le_true (prefix_level op) (limit written s) h))
    ∙ drive u (suc d) (unary op ∷ s) f t ts (suc d ∷ w) b.1 b.0 (lets_less (level f) (prefix_level op) t b.0 l)
    ∙ ap (λ (o : Option (State written)). go (levels (suc d) f (suc d ∷ w)) ts o) (past_unary u (suc d) op s f t)
drive u d s (infix_of op f g) t ts w b fits l =
    drive u d s f (kind.Fixed (fixed.Between op)) (spell g (t ∷ ts)) w b.2 (le_through (level f) (infix_level op) (limit written s) b.0 fits) b.0
    ∙ ap (λ (r : Reduced written). passes written (inside u.begun u.formals u.locals (waits written op r))
    (level_at written r.depth operand (left op r.operand ∷ r.stack) ∷ levels d f w) (spell g (t ∷ ts))) (unmoved op d s f fits)
    ∙ drive u d (left op f ∷ s) g t ts ((d + height f) ∷ levels d f w) b.3 (less_one (level g) (infix_level op) b.1)
    (lets_less (level g) (infix_level op) t (less (level g) (infix_level op) b.1) l)
    ∙ ap (λ (o : Option (State written)). go (levels d g ((d + height f) ∷ levels d f w)) ts o) (past_left u d op f s g t l)
  where
    less : (j k : ℕ) → j < k → j ≤ k
    less j k h = omega arith

    le_through : (i j k : ℕ) → i ≤ j → j ≤ k → i ≤ k
    le_through i j k p q = omega arith
drive u d s (apply op f) t ts w b h l = drive u (suc d) (argument (only op) ∷ s) f close (t ∷ ts) (suc d ∷ d ∷ w) b (level_most f) tt
drive u d s (shift op f g) t ts w b h l =
    drive u (suc d) (argument (shifted op) ∷ s) f comma (spell g (close ∷ t ∷ ts)) (suc d ∷ d ∷ w) b.0 (level_most f) tt
    ∙ drive u (suc d) (argument (shifted_by op f) ∷ s) g close (t ∷ ts) (suc d ∷ levels (suc d) f (suc d ∷ d ∷ w)) b.1 (level_most g) tt
drive u d s (select f g h) t ts w b fits l =
    drive u (suc d) (argument gate ∷ s) f comma (spell g (comma ∷ spell h (close ∷ t ∷ ts))) (suc d ∷ d ∷ w) b.0 (level_most f) tt
    ∙ drive u (suc d) (argument (first f) ∷ s) g comma (spell h (close ∷ t ∷ ts)) (suc d ∷ levels (suc d) f (suc d ∷ d ∷ w)) b.1 (level_most g) tt
    ∙ drive u (suc d) (argument (second f g) ∷ s) h close (t ∷ ts) (suc d ∷ levels (suc d) g (suc d ∷ levels (suc d) f (suc d ∷ d ∷ w))) b.2 (level_most h) tt

-- Statements

-- the expression of a CASE
selected : (u : DeclaredUnit) (d : ℕ) (s : List (Frame written)) (before : Statements) (line : Line) (e : Form) (ks : List GrammarKind) (w : List ℕ) → Binds e
    → run u d s (statement before) w (kind.Lead lead.Case line ∷ spell e (kind.Fixed fixed.Of ∷ ks))
    ≡ run u (suc d) s (part (begun_statement written before line) (first_label e no_case)) (suc d ∷ levels (suc d) e (suc d ∷ w)) ks
selected u d s before line e ks w h =
    drive u (suc d) (waiting (begun_statement written before line) selector ∷ s) e (kind.Fixed fixed.Of) ks (suc d ∷ w) h (level_most e) tt

-- Calls

given_all : (u : DeclaredUnit) (d : ℕ) (s : List (Frame written)) (b : BegunStatement written) (name : List ℕ)
    (a : Actuals) (f : List ℕ) (l : Line) (v : RawVar) (vl : Line) (more : List GrammarKind) (w : List ℕ)
    → run u d s (part b (first_formal name)) w (spell_actuals (actual a f l v vl) more)
    ≡ run u d s (part b (given name (actual a f l v vl))) (levels_actuals d (actual a f l v vl) w) more
given_all u d s b name no_actual f l v vl more w = refl
given_all u d s b name (actual a g k x xk) f l v vl more w =
    given_all u d s b name a g k x xk (comma ∷ kind.Variable (var.Name f) l ∷ kind.Fixed fixed.Becomes ∷ kind.Variable v vl ∷ more) w

-- Labels

labels_all : (u : DeclaredUnit) (d : ℕ) (s : List (Frame written)) (b : BegunStatement written)
    (e : Form) (others : CaseArms) (from : List GrammarKind → Option (Passed written)) (w : List ℕ)
    → ((c : Literal) (ks : List GrammarKind) → is_value c ≡ true → from (kind.Literal c ∷ ks) ≡ run u d s (part b (labelled e others (label c))) (d ∷ w) ks)
    → (labels : Labels) (more : List GrammarKind) → LabelsFit labels
    → from (spell_labels labels more) ≡ run u d s (part b (labelled e others labels)) (levels_labels d labels w) more
labels_all u d s b e others from w one (label c) more h = one c more h
labels_all u d s b e others from w one (more_labels labels c) more h =
    labels_all u d s b e others from w one labels (comma ∷ kind.Literal c ∷ more) h.0 ∙ rw h.1 refl

-- the pass after arms, in the statements of the last one
abbrev after_arms : DeclaredUnit → ℕ → List (Frame written) → Statements → Line → Arms → List GrammarKind → List ℕ → Option (Passed written)
after_arms u d s before line no_arm more w = run u d s (statement before) w more
after_arms u d s before line (arm others e body) more w =
    run u (suc d) (within (begun_statement written before line) (choosing others e) ∷ s) (statement body) (levels_arms (suc d) (arm others e body) w) more

abbrev after_cases : DeclaredUnit → ℕ → List (Frame written) → BegunStatement written → Form → CaseArms → List GrammarKind → List ℕ → Option (Passed written)
after_cases u d s b e no_case more w = run u d s (part b (first_label e no_case)) w more
after_cases u d s b e (case_arm others labels body) more w =
    run u d (within b (selecting e others labels) ∷ s) (statement body) (levels_cases d (case_arm others labels body) w) more

-- Statements

mutual
  pub drive_one : (u : DeclaredUnit) (d : ℕ) (s : List (Frame written)) (before : Statements) (x : Statement) (more : List GrammarKind) (w : List ℕ)
      → Fits (in_loop written s) x
      → run u d s (statement before) w (spell_one x (kind.Fixed fixed.Semicolon ∷ more)) ≡ run u d s (statement (further before x)) (d ∷ levels_one d x w) more
  drive_one u d s before (assign line v e) more w h =
      drive u d (waiting (begun_statement written before line) (to_var v) ∷ s) e (kind.Fixed fixed.Semicolon) more (d ∷ d ∷ w) h (level_most e) tt
  drive_one u d s before (write line a p e) more w h =
      drive u (suc d) (waiting (begun_statement written before line) (to_area a) ∷ s) p comma
      (spell e (close ∷ kind.Fixed fixed.Semicolon ∷ more)) (suc d ∷ d ∷ w) h.0 (level_most p) tt
      ∙ drive u (suc d) (waiting (begun_statement written before line) (area_value a p) ∷ s) e close
      (kind.Fixed fixed.Semicolon ∷ more) (suc d ∷ levels (suc d) p (suc d ∷ d ∷ w)) h.1 (level_most e) tt
  drive_one u d s before (invoke line name no_actual) more w h = refl
  drive_one u d s before (invoke line name (actual a f l v vl)) more w h =
      given_all u (suc d) s (begun_statement written before line) name a f l v vl (close ∷ kind.Fixed fixed.Semicolon ∷ more) (suc d ∷ d ∷ w)
  drive_one u d s before (choice line no_arm) more w h = absurd h.0
  drive_one u d s before (choice line (arm others e body)) more w h =
      drive_arms u d s before line (arm others e body) (kind.Fixed fixed.EndIf ∷ kind.Fixed fixed.Semicolon ∷ more) w h.1
  drive_one u d s before (choice_else line no_arm other) more w h = absurd h.0
  drive_one u d s before (choice_else line (arm others e body) other) more w h =
      drive_arms u d s before line (arm others e body)
      (kind.Fixed fixed.Else ∷ spell_all other (kind.Fixed fixed.EndIf ∷ kind.Fixed fixed.Semicolon ∷ more)) w h.1
      ∙ drive_all u (suc d) (within (begun_statement written before line) (otherwise (arm others e body)) ∷ s) other
      (kind.Fixed fixed.EndIf ∷ kind.Fixed fixed.Semicolon ∷ more)
      (suc d ∷ levels_arms (suc d) (arm others e body) w) h.2
  drive_one u d s before (cases line e no_case) more w h = absurd h.1
  drive_one u d s before (cases line e (case_arm others labels body)) more w h =
      selected u d s before line e (spell_cases (case_arm others labels body) (kind.Fixed fixed.EndCase ∷ kind.Fixed fixed.Semicolon ∷ more)) w h.0
      ∙ drive_cases u (suc d) s (begun_statement written before line) e
      (case_arm others labels body) (kind.Fixed fixed.EndCase ∷ kind.Fixed fixed.Semicolon ∷ more)
      (suc d ∷ levels (suc d) e (suc d ∷ w)) h.2
  drive_one u d s before (cases_else line e no_case other) more w h = absurd h.1
  drive_one u d s before (cases_else line e (case_arm others labels body) other) more w h =
      selected u d s before line e
      (spell_cases (case_arm others labels body) (kind.Fixed fixed.Else ∷ spell_all other (kind.Fixed fixed.EndCase ∷ kind.Fixed fixed.Semicolon ∷ more))) w h.0
      ∙ drive_cases u (suc d) s (begun_statement written before line) e (case_arm others labels body)
      (kind.Fixed fixed.Else ∷ spell_all other (kind.Fixed fixed.EndCase ∷ kind.Fixed fixed.Semicolon ∷ more)) (suc d ∷ levels (suc d) e (suc d ∷ w)) h.2
      ∙ drive_all u (suc d) (within (begun_statement written before line) (otherwise_case e (case_arm others labels body)) ∷ s) other
      (kind.Fixed fixed.EndCase ∷ kind.Fixed fixed.Semicolon ∷ more)
      (suc d ∷ levels_cases (suc d) (case_arm others labels body) (suc d ∷ levels (suc d) e (suc d ∷ w))) h.3
  drive_one u d s before (loop line e body) more w h =
      drive u (suc d) (waiting (begun_statement written before line) loop_test ∷ s) e (kind.Fixed fixed.Do)
      (spell_all body (kind.Fixed fixed.EndWhile ∷ kind.Fixed fixed.Semicolon ∷ more)) (suc d ∷ w) h.0 (level_most e) tt
      ∙ drive_all u (suc d) (within (begun_statement written before line) (looping e) ∷ s) body
      (kind.Fixed fixed.EndWhile ∷ kind.Fixed fixed.Semicolon ∷ more) (suc d ∷ levels (suc d) e (suc d ∷ w)) h.1
  drive_one u d s before (jump line word) more w h = rw h refl

  pub drive_all : (u : DeclaredUnit) (d : ℕ) (s : List (Frame written)) (p : Statements) (more : List GrammarKind) (w : List ℕ) → AllFit (in_loop written s) p →
      run u d s (statement none) w (spell_all p more) ≡ run u d s (statement p) (levels_all d p w) more
  drive_all u d s none more w h = refl
  drive_all u d s (empty before) more w h = drive_all u d s before (kind.Fixed fixed.Semicolon ∷ more) w h
  drive_all u d s (further before x) more w h =
      drive_all u d s before (spell_one x (kind.Fixed fixed.Semicolon ∷ more)) w h.0
      ∙ drive_one u d s before x more (levels_all d before w) h.1

  drive_arms : (u : DeclaredUnit) (d : ℕ) (s : List (Frame written)) (before : Statements) (line : Line) (arms : Arms) (more : List GrammarKind) (w : List ℕ)
      → ArmsFit (in_loop written s) arms
      → run u d s (statement before) w (spell_arms line arms more) ≡ after_arms u d s before line arms more w
  drive_arms u d s before line no_arm more w h = refl
  drive_arms u d s before line (arm no_arm e body) more w h =
      drive u (suc d) (waiting (begun_statement written before line) (test no_arm) ∷ s) e
      (kind.Fixed fixed.Then) (spell_all body more) (suc d ∷ w) h.1 (level_most e) tt
      ∙ drive_all u (suc d) (within (begun_statement written before line) (choosing no_arm e) ∷ s) body more (suc d ∷ levels (suc d) e (suc d ∷ w)) h.2
  drive_arms u d s before line (arm others e body) more w h =
      drive_arms u d s before line others (arm_word line others ∷ spell e (kind.Fixed fixed.Then ∷ spell_all body more)) w h.0
      ∙ drive u (suc d) (waiting (begun_statement written before line) (test others) ∷ s) e
      (kind.Fixed fixed.Then) (spell_all body more) (suc d ∷ levels_arms (suc d) others w) h.1 (level_most e) tt
      ∙ drive_all u (suc d) (within (begun_statement written before line) (choosing others e) ∷ s) body more
      (suc d ∷ levels (suc d) e (suc d ∷ levels_arms (suc d) others w)) h.2

  drive_cases : (u : DeclaredUnit) (d : ℕ) (s : List (Frame written)) (b : BegunStatement written) (e : Form)
      (arms : CaseArms) (more : List GrammarKind) (w : List ℕ) → CasesFit (in_loop written s) arms
      → run u d s (part b (first_label e no_case)) w (spell_cases arms more) ≡ after_cases u d s b e arms more w
  drive_cases u d s b e no_case more w h = refl
  drive_cases u d s b e (case_arm no_case labels body) more w h =
      labels_all u d s b e no_case (λ (ks : List GrammarKind). run u d s (part b (first_label e no_case)) w ks) w
      (λ c ks v. rw v refl) labels (kind.Fixed fixed.Colon ∷ spell_all body more) h.1
      ∙ drive_all u d (within b (selecting e no_case labels) ∷ s) body more (d ∷ levels_labels d labels w) h.2
  drive_cases u d s b e (case_arm others labels body) more w h =
      labels_all u d s b e others (λ (ks : List GrammarKind). run u d s (part b (first_label e no_case)) w (spell_cases others ks)) (levels_cases d others w)
      (λ c ks v. drive_cases u d s b e others (kind.Literal c ∷ ks) w h.0 ∙ rw v refl) labels (kind.Fixed fixed.Colon ∷ spell_all body more) h.1
      ∙ drive_all u d (within b (selecting e others labels) ∷ s) body more (d ∷ levels_labels d labels (levels_cases d others w)) h.2

-- The whole text

-- Globals

abbrev pub HasItem : Items → Type 0
HasItem no_item = ⊥
HasItem other = Unit {0}

items_all : (done : Globals) (name : List ℕ) (line : Line) (v : RawVar × Line) (last : ℕ) (items : Items) (more : List GrammarKind) (w : List ℕ) → HasItem items
    → passes written (global_tail done name line (at_item v last no_item)) w (spell_items items more)
    ≡ passes written (global_tail done name line (at_comma v last items)) (levels_items items w) more
items_all done name line v last no_item more w h = absurd h
items_all done name line v last (single no_item b) more w h = refl
items_all done name line v last (times no_item count b) more w h = refl
items_all done name line v last (single others b) more w h =
    items_all done name line v last others (kind.Fixed fixed.Comma ∷ kind.Literal (lit.Byte b) ∷ more) w tt
items_all done name line v last (times others count b) more w h =
    items_all done name line v last others
    (kind.Fixed fixed.Comma ∷ kind.Literal (lit.Decimal count) ∷ kind.Fixed fixed.Open ∷ kind.Literal (lit.Byte b) ∷ kind.Fixed fixed.Close ∷ more) w tt

type_read : (done : Globals) (name : List ℕ) (line : Line) (v : RawVar) (place : Line) (ty : GlobalType) (more : List GrammarKind) (w : List ℕ)
    → is_global name ty ≡ true
    → passes written (global_tail done name line (at_type (v, place))) w (spell_type ty (kind.Fixed fixed.Semicolon ∷ more))
    ≡ passes written (globals (global done name line v place ty)) (0 ∷ levels_type ty w) more
type_read done name line v place (plain ty) more w h = rw h refl
type_read done name line v place (bytes last no_item) more w h = rw h refl
type_read done name line v place (bytes last items) more w h =
    rw h
    (items_all done name line (v, place) last items (kind.Fixed fixed.CloseSquare ∷ kind.Fixed fixed.Semicolon ∷ more)
    (0 ∷ 0 ∷ 0 ∷ 0 ∷ 0 ∷ 0 ∷ 0 ∷ 0 ∷ 0 ∷ 0 ∷ w) tt)

may_name_it : (name : List ℕ) (ty : GlobalType) → is_global name ty ≡ true → may_name_global name ≡ true
may_name_it name (plain ty) h = by (names_block name) (is_free name) h
  where
    by : (a b : Bool) → b ≡ true → (a || b) ≡ true
    by true b h = refl
    by false b h = h
may_name_it name (bytes last items) h = ap (λ (c : Bool). c || is_free name) h

globals_all : (g : Globals) (more : List GrammarKind) (w : List ℕ) → GlobalsFit g
    → passes written (globals no_global) w (spell_globals g more) ≡ passes written (globals g) (levels_globals g w) more
globals_all no_global more w h = refl
globals_all (global others name line v place ty) more w h =
    globals_all others
    (kind.Variable (var.Name name) line ∷ kind.Fixed fixed.At ∷ kind.Variable v place
    ∷ kind.Fixed fixed.Colon ∷ spell_type ty (kind.Fixed fixed.Semicolon ∷ more)) w h.0
    ∙ rw (may_name_it name ty h.2, h.1) (type_read others name line v place ty more (0 ∷ 0 ∷ 0 ∷ 0 ∷ levels_globals others w) h.2)

-- Formals and locals

abbrev pub Declared : SectionKind written → Locals → Type 0
Declared formals l = FormalsFit l
Declared (temps before) l = LocalsFit l

locals_all : (begun : BegunUnit written) (which : SectionKind written) (l : Locals) (more : List GrammarKind) (w : List ℕ) → Declared which l →
    passes written (section begun which no_local) w (spell_locals l more) ≡ passes written (section begun which l) (levels_locals l w) more
locals_all begun which no_local more w h = refl
locals_all begun formals (local others name line ty) more w h =
    locals_all begun formals others
    (kind.Variable (var.Name name) line ∷ kind.Fixed fixed.Colon ∷ kind.Fixed (fixed.Type ty) ∷ kind.Fixed fixed.Semicolon ∷ more) w h.0
    ∙ rw (h.1, h.2) refl
locals_all begun (temps f) (local others name line ty) more w h =
    locals_all begun (temps f) others
    (kind.Variable (var.Name name) line ∷ kind.Fixed fixed.Colon ∷ kind.Fixed (fixed.Type ty) ∷ kind.Fixed fixed.Semicolon ∷ more) w h.0
    ∙ rw h.1 refl

-- Units

-- the pass comes to the end of a text
abbrev Reaches : State written → List ℕ → List GrammarKind → TextSoFar written → List ℕ → Type 0
Reaches q w ks text n = passes written q w ks ≡ Some (record { state = over text; levels = n })

abbrev state_of : Option (Passed written) → Option (State written)
state_of o = option_map (λ (r : Passed written). r.state) o

as_opened : (begun : BegunUnit written) (ks : List GrammarKind) (w : List ℕ) (text : TextSoFar written) (n : List ℕ)
    → Reaches (inside begun absent absent (body_start written)) w ks text n → Reaches (opened begun) w ks text n
as_opened begun [] w text n h = absurd (let e = ap state_of h in cc)
as_opened begun (kind.Fixed fixed.VarInOut ∷ ks) w text n h = absurd cc
as_opened begun (kind.Fixed fixed.VarTemp ∷ ks) w text n h = absurd cc
as_opened begun (other ∷ ks) w text n h = h

as_formals_done : (begun : BegunUnit written) (f : Section Locals) (ks : List GrammarKind) (w : List ℕ) (text : TextSoFar written) (n : List ℕ)
    → Reaches (inside begun f absent (body_start written)) w ks text n → Reaches (formals_done begun f) w ks text n
as_formals_done begun f [] w text n h = absurd (let e = ap state_of h in cc)
as_formals_done begun f (kind.Fixed fixed.VarTemp ∷ ks) w text n h = absurd cc
as_formals_done begun f (other ∷ ks) w text n h = h

as_start : (ks : List GrammarKind) (w : List ℕ) (text : TextSoFar written) (n : List ℕ)
    → Reaches (between (record { globals = absent; units = no_unit })) w ks text n → Reaches start w ks text n
as_start [] w text n h = absurd (let e = ap state_of h in cc)
as_start (kind.Fixed fixed.VarGlobal ∷ ks) w text n h = absurd cc
as_start (other ∷ ks) w text n h = h

-- the text with one more unit
abbrev pub with_unit : TextSoFar written → Head → Section Locals → Section Locals → Statements → TextSoFar written
with_unit text head f l body = record { globals = text.globals; units = unit text.units head f l body }

pub unit_left : (text : TextSoFar written) (head : Head) (f l : Section Locals) (d : ℕ) (body : Statements) (p : Bool) (more : List GrammarKind) (w : List ℕ)
    → head.program ≡ p
    → passes written (inside (begun_unit written text head) f l (body_state written d [] (statement body))) w (end_word p ∷ more)
    ≡ passes written (between (with_unit text head f l body)) (0 ∷ w) more
unit_left text head f l d body true more w e = ap (λ (c : Bool). go w more (if ends true c then Some (between (with_unit text head f l body)) else None)) e
unit_left text head f l d body false more w e = ap (λ (c : Bool). go w more (if ends false c then Some (between (with_unit text head f l body)) else None)) e

body_read : (text : TextSoFar written) (head : Head) (f l : Section Locals) (body : Statements) (more : List GrammarKind) (w : List ℕ) → AllFit false body
    → passes written (inside (begun_unit written text head) f l (body_start written)) w (spell_all body (end_word head.program ∷ more))
    ≡ passes written (between (with_unit text head f l body)) (0 ∷ levels_all 0 body w) more
body_read text head f l body more w h =
    drive_all (record { begun = begun_unit written text head; formals = f; locals = l }) 0 [] body (end_word head.program ∷ more) w h
    ∙ unit_left text head f l 0 body head.program more (levels_all 0 body w) refl

locals_read : (text : TextSoFar written) (head : Head) (f : Section Locals) (l : Locals) (ks : List GrammarKind) (w : List ℕ) → LocalsFit l
    → passes written (section (begun_unit written text head) (temps f) no_local) w (spell_locals l (kind.Fixed fixed.EndVar ∷ ks))
    ≡ passes written (inside (begun_unit written text head) f (present l) (body_start written)) (0 ∷ levels_locals l w) ks
locals_read text head f l ks w h = locals_all (begun_unit written text head) (temps f) l (kind.Fixed fixed.EndVar ∷ ks) w h

formals_read : (text : TextSoFar written) (head : Head) (f : Locals) (ks : List GrammarKind) (w : List ℕ) → HeadFits head.program (present f)
    → passes written (opened (begun_unit written text head)) w (kind.Fixed fixed.VarInOut ∷ spell_locals f (kind.Fixed fixed.EndVar ∷ ks))
    ≡ passes written (formals_done (begun_unit written text head) (present f)) (0 ∷ levels_locals f (0 ∷ w)) ks
formals_read text head f ks w h =
    ap (λ (c : Bool). go w (spell_locals f (kind.Fixed fixed.EndVar ∷ ks)) (if c then None else Some (section (begun_unit written text head) formals no_local)))
    h.0
    ∙ locals_all (begun_unit written text head) formals f (kind.Fixed fixed.EndVar ∷ ks) (0 ∷ w) h.1

abbrev levels_sections : Section Locals → Section Locals → List ℕ → List ℕ
levels_sections f l w = levels_section levels_locals l (levels_section levels_locals f w)

sections_read : (text : TextSoFar written) (head : Head) (f l : Section Locals) (body : Statements)
    (more : List GrammarKind) (w : List ℕ) (end : TextSoFar written) (n : List ℕ)
    → HeadFits head.program f → IfPresent LocalsFit l → AllFit false body
    → Reaches (between (with_unit text head f l body)) (0 ∷ levels_all 0 body (levels_sections f l w)) more end n
    → Reaches (opened (begun_unit written text head)) w (spell_formals f (spell_temps l (spell_all body (end_word head.program ∷ more)))) end n
sections_read text head absent absent body more w end n hf hl hb r =
    as_opened (begun_unit written text head) (spell_all body (end_word head.program ∷ more)) w end n (body_read text head absent absent body more w hb ∙ r)
sections_read text head absent (present l) body more w end n hf hl hb r =
    locals_read text head absent l (spell_all body (end_word head.program ∷ more)) (0 ∷ w) hl
    ∙ body_read text head absent (present l) body more (0 ∷ levels_locals l (0 ∷ w)) hb
    ∙ r
sections_read text head (present f) absent body more w end n hf hl hb r =
    formals_read text head f (spell_all body (end_word head.program ∷ more)) w hf
    ∙ as_formals_done (begun_unit written text head) (present f) (spell_all body (end_word head.program ∷ more))
    (0 ∷ levels_locals f (0 ∷ w)) end n (body_read text head (present f) absent body more (0 ∷ levels_locals f (0 ∷ w)) hb ∙ r)
sections_read text head (present f) (present l) body more w end n hf hl hb r =
    formals_read text head f (kind.Fixed fixed.VarTemp ∷ spell_locals l (kind.Fixed fixed.EndVar ∷ spell_all body (end_word head.program ∷ more))) w hf
    ∙ locals_read text head (present f) l (spell_all body (end_word head.program ∷ more)) (0 ∷ 0 ∷ levels_locals f (0 ∷ w)) hl
    ∙ body_read text head (present f) (present l) body more (0 ∷ levels_locals l (0 ∷ 0 ∷ levels_locals f (0 ∷ w))) hb ∙ r

word_read : (text : TextSoFar written) (p : Bool) (line : Line) (ks : List GrammarKind) (w : List ℕ)
    → passes written (between text) w (unit_word p line ∷ ks) ≡ passes written (heading text p line) (0 ∷ w) ks
word_read text true line ks w = refl
word_read text false line ks w = refl

abbrev text_of : Section Globals → Units → TextSoFar written
text_of g us = record { globals = g; units = us }

units_all : (g : Section Globals) (us : Units) (more : List GrammarKind) (w : List ℕ) (end : TextSoFar written) (n : List ℕ)
    → UnitsFit us → Reaches (between (text_of g us)) (levels_units us w) more end n
    → Reaches (between (text_of g no_unit)) w (spell_units us more) end n
units_all g no_unit more w end n h r = r
units_all g (unit others head f l body) more w end n h r =
    units_all g others (spell_head head (spell_formals f (spell_temps l (spell_all body (end_word head.program ∷ more))))) w end n h.0
    (word_read (text_of g others) head.program head.line
    (kind.Variable (var.Name head.name) head.place ∷ spell_formals f (spell_temps l (spell_all body (end_word head.program ∷ more)))) (levels_units others w)
    ∙ ap (λ (c : Bool). go (0 ∷ levels_units others w) (spell_formals f (spell_temps l (spell_all body (end_word head.program ∷ more))))
    (if c then Some (opened (begun_unit written (text_of g others) head)) else None)) h.1
    ∙ sections_read (text_of g others) head f l body more (0 ∷ 0 ∷ levels_units others w) end n h.2 h.3 h.4 r)

-- the end of a text
abbrev pub finished : Source → State written
finished source = over (text_of source.globals source.units)

parts_read : (g : Section Globals) (us : Units) → IfPresent GlobalsFit g → UnitsFit us →
    Reaches start [] (spell_source (record { globals = g; units = us })) (text_of g us) (0 ∷ levels_units us (levels_section levels_globals g []))
parts_read absent us hg hu =
    as_start (spell_units us (kind.Fixed fixed.End ∷ [])) [] (text_of absent us) (0 ∷ levels_units us [])
    (units_all absent us (kind.Fixed fixed.End ∷ []) [] (text_of absent us) (0 ∷ levels_units us []) hu refl)
parts_read (present g) us hg hu =
    globals_all g (kind.Fixed fixed.EndVar ∷ spell_units us (kind.Fixed fixed.End ∷ [])) (0 ∷ []) hg
    ∙ units_all (present g) us (kind.Fixed fixed.End ∷ []) (0 ∷ levels_globals g (0 ∷ []))
    (text_of (present g) us) (0 ∷ levels_units us (0 ∷ levels_globals g (0 ∷ []))) hu refl

-- the pass accepts each text of the language
pub drive_source : (source : Source) → SourceFits source
    → passes written start [] (spell_source source) ≡ Some (record { state = finished source; levels = levels_source source })
drive_source source h = parts_read source.globals source.units h.0 h.1
