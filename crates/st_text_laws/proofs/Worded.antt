-- What a text that was read spells, before its types are judged: kinds that tokens can have, but that a decimal
-- may have any number here; where it is an operand or a label, the grammar bounds it. And what stands behind
-- a part of such a text.
use Rattle.st_tree.proofs.Common.{◌≡◌, true, List, ℕ, Bool, false, cond, ◌&&◌, [], ◌∷◌, take, drop, Option, Some, None, refl, sym, ap, subst, ◌∙◌, arith, find, list_all, Line, All, IfSome, is_none, min, codes, if◌then◌else◌, nat_tests, All-head, All-tail, is_same_word, line_at_end}
use Rattle.std.specs.List.{AllByRecursion}
use Rattle.st_text_laws.proofs.Common.{is_literal, is_spelled, is_unreserved, is_function, is_name, GrammarKind, Literal, Fixed, OneOperand, Word}
use Rattle.st_grammar.proofs.Common.{Form, literal, variable, group, prefix, infix_of, apply, shift, select, Actuals, no_actual, actual, Labels, label, more_labels, Statement, assign, write, invoke, choice, choice_else, cases, cases_else, loop, jump, Statements, none, empty, further, Arms, no_arm, arm, CaseArms, no_case, case_arm, Items, no_item, single, times, GlobalType, plain, bytes, Globals, no_global, global, Locals, no_local, local, Section, absent, present, Units, no_unit, unit, comma_behind, comma_past, is_value, spell, spell_actuals, spell_all, spell_arms, spell_cases, spell_globals, spell_initial, spell_items, spell_labels, spell_locals, spell_one, spell_section, spell_type, spell_units, spell_source, Base, word_text, fixed_text, size_before_line, conversion_between, conversion_of_types, word_named, conversion_named, name_kind, word_kind, sign_named, direct_kind, are_two_digits, typed_kind, literal_kind, number_kind, text_kind, HasRawTree, all_lined, kinds}
use Rattle.st_grammar.specs.declared.kind.GrammarKind.TheVariants as kind
use Rattle.st_grammar.specs.declared.kind.Literal.TheVariants as lit
use Rattle.st_lexer.proofs.Words.{and_both}
use Rattle.st_lexer.proofs.TokenFacts.{tokens_are_of_their_sorts}
use Rattle.st_lexer.proofs.Common.{direct_of, base_at, begins_with_digit, literal_at, is_in_range, type_named, is_byte, is_word, HasPlace, HasValue, IsOfSort, IsOfItsSort, StKind, StToken, StType, RawSt}
use Rattle.st_lexer.specs.declared.direct.Direct.{Direct}
use Rattle.st_lexer.specs.declared.literal.Literal.{Literal as LexedLiteral}
use Rattle.st_lexer.specs.declared.number.Base.TheVariants as base
use Rattle.st_tree.specs.declared.token.StKind.TheVariants as sort
use Rattle.st_grammar.specs.Kinds.{kind_of_word, sign_kind}
use Rattle.st_grammar.specs.declared.kind.Word.TheVariants as word
use Rattle.st_tree.specs.declared.expr.StType.TheVariants as type

abbrev pub IsWorded : GrammarKind → Type 0
IsWorded (kind.Literal (lit.Decimal n)) = Unit {0}
IsWorded other = is_spelled other ≡ true

abbrev pub AreWorded : List GrammarKind → Type 0
AreWorded ks = AllByRecursion IsWorded ks

-- what a part spells stands in such a text, before some kinds
abbrev pub Worded : (List GrammarKind → List GrammarKind) → Type 0
Worded spelled = (ks : List GrammarKind) × AreWorded (spelled ks)

pub literal_is : (c : Literal) → is_value c ≡ true → IsWorded (kind.Literal c) → is_literal c ≡ true
literal_is (lit.Decimal n) v h = v
literal_is (lit.Byte b) v h = h
literal_is (lit.Typed ty n) v h = h

-- Expressions

pub form_behind : (f : Form) (ks : List GrammarKind) → AreWorded (spell f ks) → AreWorded ks
form_behind (literal c) ks h = h.1
form_behind (variable v line) ks h = h.1
form_behind (group f) ks h = (form_behind f _ h.1).1
form_behind (prefix op f) ks h = form_behind f ks h.1
form_behind (infix_of op f g) ks h = form_behind g ks (form_behind f _ h).1
form_behind (apply op f) ks h = (form_behind f _ h.1.1).1
form_behind (shift op f g) ks h = (form_behind g _ (form_behind f _ h.1.1).1).1
form_behind (select f g i) ks h = (form_behind i _ (form_behind g _ (form_behind f _ h.1.1).1).1).1

-- Statements

pub comma_past_actuals : (a : Actuals) (ks : List GrammarKind) → AreWorded (comma_behind a ks) → AreWorded ks
comma_past_actuals no_actual ks h = h
comma_past_actuals (actual others name line v place) ks h = h.1

pub actuals_behind : (a : Actuals) (ks : List GrammarKind) → AreWorded (spell_actuals a ks) → AreWorded ks
actuals_behind no_actual ks h = h
actuals_behind (actual others name line v place) ks h = (comma_past_actuals others _ (actuals_behind others _ h)).1.1.1

pub labels_behind : (ls : Labels) (ks : List GrammarKind) → AreWorded (spell_labels ls ks) → AreWorded ks
labels_behind (label c) ks h = h.1
labels_behind (more_labels others c) ks h = (labels_behind others _ h).1.1

mutual
  pub one_behind : (s : Statement) (ks : List GrammarKind) → AreWorded (spell_one s ks) → AreWorded ks
  one_behind (assign line v e) ks h = form_behind e ks h.1.1
  one_behind (write line w p e) ks h = (form_behind e _ (form_behind p _ h.1.1).1).1
  one_behind (invoke line name actuals) ks h = (actuals_behind actuals _ h.1.1).1
  one_behind (choice line arms) ks h = (arms_behind line arms _ h).1
  one_behind (choice_else line arms body) ks h = (all_behind body _ (arms_behind line arms _ h).1).1
  one_behind (cases line e arms) ks h = (cases_behind arms _ (form_behind e _ h.1).1).1
  one_behind (cases_else line e arms body) ks h = (all_behind body _ (cases_behind arms _ (form_behind e _ h.1).1).1).1
  one_behind (loop line e body) ks h = (all_behind body _ (form_behind e _ h.1).1).1
  one_behind (jump line word) ks h = h.1

  pub all_behind : (b : Statements) (ks : List GrammarKind) → AreWorded (spell_all b ks) → AreWorded ks
  all_behind none ks h = h
  all_behind (empty before) ks h = (all_behind before _ h).1
  all_behind (further before s) ks h = (one_behind s _ (all_behind before _ h)).1

  pub arms_behind : (line : Line) (a : Arms) (ks : List GrammarKind) → AreWorded (spell_arms line a ks) → AreWorded ks
  arms_behind line no_arm ks h = h
  arms_behind line (arm others e body) ks h = all_behind body ks (form_behind e _ (arms_behind line others _ h).1).1

  pub cases_behind : (a : CaseArms) (ks : List GrammarKind) → AreWorded (spell_cases a ks) → AreWorded ks
  cases_behind no_case ks h = h
  cases_behind (case_arm others labels body) ks h = all_behind body ks (labels_behind labels _ (cases_behind others _ h)).1

-- Declarations

pub comma_past_items : (items : Items) (ks : List GrammarKind) → AreWorded (comma_past items ks) → AreWorded ks
comma_past_items no_item ks h = h
comma_past_items (single others b) ks h = h.1
comma_past_items (times others count b) ks h = h.1

pub items_behind : (items : Items) (ks : List GrammarKind) → AreWorded (spell_items items ks) → AreWorded ks
items_behind no_item ks h = h
items_behind (single others b) ks h = (comma_past_items others _ (items_behind others _ h)).1
items_behind (times others count b) ks h = (comma_past_items others _ (items_behind others _ h)).1.1.1.1

-- the bytes after `:=` in square brackets
pub initial_worded : (items : Items) → Worded (spell_initial items) → Worded (spell_items items)
initial_worded no_item h = h
initial_worded (single others b) h = (_, h.1.1.1)
initial_worded (times others count b) h = (_, h.1.1.1)

initial_behind : (items : Items) (ks : List GrammarKind) → AreWorded (spell_initial items ks) → AreWorded ks
initial_behind no_item ks h = h
initial_behind (single others b) ks h = (items_behind (single others b) _ h.1.1).1
initial_behind (times others count b) ks h = (items_behind (times others count b) _ h.1.1).1

type_behind : (ty : GlobalType) (ks : List GrammarKind) → AreWorded (spell_type ty ks) → AreWorded ks
type_behind (plain ty) ks h = h.1
type_behind (bytes last items) ks h = initial_behind items ks h.1.1.1.1.1.1.1.1

pub globals_behind : (gs : Globals) (ks : List GrammarKind) → AreWorded (spell_globals gs ks) → AreWorded ks
globals_behind no_global ks h = h
globals_behind (global others name line v place ty) ks h = (type_behind ty _ (globals_behind others _ h).1.1.1.1).1

pub locals_behind : (ls : Locals) (ks : List GrammarKind) → AreWorded (spell_locals ls ks) → AreWorded ks
locals_behind no_local ks h = h
locals_behind (local others name line ty) ks h = (locals_behind others _ h).1.1.1.1

pub section_behind : {X : Type 0} (word : GrammarKind) (spelled : X → List GrammarKind → List GrammarKind)
    → ((x : X) (ks : List GrammarKind) → AreWorded (spelled x ks) → AreWorded ks)
    → (s : Section X) (ks : List GrammarKind) → AreWorded (spell_section word spelled s ks) → AreWorded ks
section_behind word spelled behind absent ks h = h
section_behind word spelled behind (present x) ks h = (behind x _ h.1).1

pub locals_section_behind : (word : GrammarKind) (s : Section Locals) (ks : List GrammarKind) → AreWorded (spell_section word spell_locals s ks) → AreWorded ks
locals_section_behind word s ks h = section_behind word spell_locals locals_behind s ks h

pub units_behind : (us : Units) (ks : List GrammarKind) → AreWorded (spell_units us ks) → AreWorded ks
units_behind no_unit ks h = h
units_behind (unit others head formals own body) ks h =
    (all_behind body _ (locals_section_behind _ own _ (locals_section_behind _ formals _ (units_behind others _ h).1.1))).1

-- The tokens of a text that is read can have the names, places and values that they stand for

-- What a token can stand for

abbrev stands : Fixed → Bool
stands f = is_spelled (kind.Fixed f)

chosen : (b : Bool) (x y : GrammarKind) → (b ≡ true → IsWorded x) → (b ≡ false → IsWorded y) → IsWorded (if b then x else y)
chosen true x y p q = p refl
chosen false x y p q = q refl

-- Tokens

if_some : {X : Type 0} (P : X → Type 0) (b : Bool) (x : Option X) → IfSome x P → IfSome (if b then x else None) P
if_some P true x h = h
if_some P false x h = tt

-- what holds of all entries of a table holds of the one that is found
found_entry : {X : Type 0} (good test : X → Bool) (b : Bool) (x : X) (o : Option X) → good x ≡ true → IfSome o (λ y. good y ≡ true)
    → IfSome (cond b (Some x) o) (λ y. good y ≡ true)
found_entry good test true x o g h = g
found_entry good test false x o g h = h

found_in : {X : Type 0} (good test : X → Bool) (xs : List X) → list_all good xs ≡ true → IfSome (find test xs) (λ x. good x ≡ true)
found_in good test [] g = tt
found_in good test (x ∷ xs) g =
    let both = and_both (good x) (list_all good xs) g in
    found_entry good test (test x) x (find test xs) both.0 (found_in good test xs both.1)

abbrev is_entry : Word → Bool
is_entry (word.Fixed f) = stands f
is_entry other = true

-- no word or sign of the tables is a conversion
word_found : (text : List ℕ) → IfSome (word_named text) (λ entry. is_entry entry ≡ true)
unfolding word_named
word_found text = search (found_in is_entry (λ entry. is_same_word text (word_text entry)))

sign_found : (text : List ℕ) → IfSome (sign_named text) (λ f. stands f ≡ true)
unfolding sign_named
sign_found text = search (found_in stands (λ entry. is_same_word text (fixed_text entry)))

abbrev IsFunction : OneOperand → Type 0
IsFunction op = is_function op ≡ true

between_types : (from to : StType) → IfSome (conversion_between from to) IsFunction
between_types type.Bool type.Bool = assumption
between_types from type.Bool = assumption
between_types from to = assumption

of_types : (o p : Option StType) → IfSome (conversion_of_types o p) IsFunction
of_types (Some from) (Some to) = between_types from to
of_types (Some from) None = tt
of_types None p = tt

-- a conversion that is named is one that there is
conversion_found : (text : List ℕ) → IfSome (conversion_named text) IsFunction
conversion_found text =
    let size = size_before_line text in
    if_some IsFunction (is_same_word (take 4 (drop size text)) (codes "_TO_"))
    (conversion_of_types (type_named (take size text)) (type_named (drop 4 (drop size text))))
    (of_types (type_named (take size text)) (type_named (drop 4 (drop size text))))

-- a word that is no keyword, type or function is a name
name_of : (text : List ℕ) → is_word text ≡ true → word_named text ≡ None → conversion_named text ≡ None → is_name text ≡ true
name_of [] h e f = absurd cc
name_of (b ∷ w) h e f =
    let free : is_unreserved (b ∷ w) ≡ true =
    ap (λ (o : Option Word). is_none o && is_none (conversion_named (b ∷ w))) e ∙ ap (λ (o : Option OneOperand). is_none o) f in
    ap (λ (t : Bool). t && is_unreserved (b ∷ w)) h ∙ free

name_spelled : (o : Option OneOperand) (text : List ℕ) (line : Line) → is_word text ≡ true → word_named text ≡ None → conversion_named text ≡ o
    → IfSome o IsFunction → IsWorded (name_kind o text line)
name_spelled (Some op) text line h e f g = g
name_spelled None text line h e f g = name_of text h e f

entry_spelled : (entry : Word) (line : Line) → is_entry entry ≡ true → IsWorded (kind_of_word entry line)
entry_spelled (word.Fixed f) line g = g
entry_spelled (word.Lead l) line g = refl
entry_spelled (word.Truth true) line g = refl
entry_spelled (word.Truth false) line g = refl

word_spelled : (o : Option Word) (text : List ℕ) (line : Line) → is_word text ≡ true → word_named text ≡ o → IfSome o (λ entry. is_entry entry ≡ true)
    → IsWorded (word_kind o text line)
word_spelled (Some entry) text line h e g = entry_spelled entry line g
word_spelled None text line h e g = name_spelled (conversion_named text) text line h e refl (conversion_found text)

direct_spelled : (o : Option Direct) (line : Line) → IfSome o HasPlace → IsWorded (direct_kind o line)
direct_spelled None line h = refl
direct_spelled (Some d) line h = h

typed_spelled : (found : LexedLiteral) → HasValue found → IsWorded (typed_kind found)
typed_spelled found h = chosen (is_in_range found) _ kind.Misfit (λ e. h e) (λ e. refl)

least_byte : (n : ℕ) → is_byte (min n 255) ≡ true
least_byte n = grind (arith, nat_tests)

literal_spelled : (to : Base) (text : List ℕ) (found : LexedLiteral) → HasValue found → IsWorded (literal_kind to text found)
literal_spelled base.Ten text found h = chosen (begins_with_digit base.Ten text) _ (typed_kind found) (λ e. tt) (λ e. typed_spelled found h)
literal_spelled base.Sixteen text found h =
    chosen (are_two_digits (drop 3 text)) _ (typed_kind found) (λ e. least_byte found.number) (λ e. typed_spelled found h)
literal_spelled base.Two text found h = typed_spelled found h
literal_spelled base.Eight text found h = typed_spelled found h

number_spelled : (o : Option LexedLiteral) (text : List ℕ) → IfSome o HasValue → IsWorded (number_kind o text)
number_spelled None text h = refl
number_spelled (Some found) text h = literal_spelled (base_at text) text found h

sign_spelled : (o : Option Fixed) (text : List ℕ) → IfSome o (λ f. stands f ≡ true) → IsWorded (sign_kind o text)
sign_spelled (Some f) text g = g
sign_spelled None text g = chosen (is_same_word text (codes "&")) _ kind.Misfit (λ e. refl) (λ e. refl)

text_spelled : (of : StKind) (text : List ℕ) (line : Line) → IsOfSort of text → IsWorded (text_kind of text line)
text_spelled sort.Word text line h = word_spelled (word_named text) text line h refl (word_found text)
text_spelled sort.Direct text line h = direct_spelled (direct_of text) line h
text_spelled sort.Literal text line h = number_spelled (literal_at text) text h
text_spelled sort.Sign text line h = sign_spelled (sign_named text) text (sign_found text)

-- the kinds of a text's tokens
tokens_spelled : (tokens : List StToken) (line : Line) → All IsOfItsSort tokens → AreWorded (kinds (all_lined tokens line))
tokens_spelled [] line a = (refl, tt)
tokens_spelled (t ∷ ts) line a = (text_spelled t.kind t.text t.line (All-head IsOfItsSort t ts a), tokens_spelled ts line (All-tail IsOfItsSort t ts a))

-- the names, places and values of a text that is read are ones that tokens can have
pub read_worded : (text : List ℕ) (raw : RawSt) (reads : HasRawTree text raw) → AreWorded (spell_source reads.source)
read_worded text raw reads =
    let found = reads.found in
    subst AreWorded (ap kinds found.2 ∙ sym reads.reads.spelled)
    (tokens_spelled found.0 (line_at_end text) (tokens_are_of_their_sorts text found.0 found.1))
