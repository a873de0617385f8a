-- The depth at each token. It is the depth of the place after a token, or the level of an operator between operands.
-- The last token comes first in the list.
-- Held against: this project's own bounds.
use Rattle.std.specs.Prelude.{ℕ, suc, ◌+◌, max, List, [], ◌∷◌}
use Rattle.st_grammar.specs.Forms.{Form, literal, variable, group, prefix, infix_of, apply, shift, select, Actuals, no_actual, actual, Labels, label, more_labels, Statement, assign, write, invoke, choice, choice_else, cases, cases_else, loop, jump, Statements, none, empty, further, Arms, no_arm, arm, CaseArms, no_case, case_arm, Items, no_item, single, times, GlobalType, plain, bytes, Globals, no_global, global, Locals, no_local, local, Section, absent, present, Units, no_unit, unit, Source}

-- how high a tree is; brackets add nothing
abbrev pub height : Form → ℕ
height (literal c) = 1
height (variable v line) = 1
height (group f) = height f
height (prefix op f) = 1 + height f
height (infix_of op f g) = 1 + max (height f) (height g)
height (apply op f) = 1 + height f
height (shift op f g) = 1 + max (height f) (height g)
height (select f g h) = 1 + max (max (height f) (height g)) (height h)

-- the levels of an expression at a place of a depth: what is in brackets or after `-` or NOT is one deeper, and an
-- operator's level is its depth and the height of the tree to its left
abbrev pub levels : ℕ → Form → List ℕ → List ℕ
levels d (literal c) before = d ∷ before
levels d (variable v line) before = d ∷ before
levels d (group f) before = d ∷ levels (suc d) f (suc d ∷ before)
levels d (prefix op f) before = levels (suc d) f (suc d ∷ before)
levels d (infix_of op f g) before = levels d g ((d + height f) ∷ levels d f before)
levels d (apply op f) before = d ∷ levels (suc d) f (suc d ∷ d ∷ before)
levels d (shift op f g) before = d ∷ levels (suc d) g (suc d ∷ levels (suc d) f (suc d ∷ d ∷ before))
levels d (select f g h) before =
    d ∷ levels (suc d) h (suc d ∷ levels (suc d) g (suc d ∷ levels (suc d) f (suc d ∷ d ∷ before)))

-- the level of a comma after the actuals, at the depth inside the call's bracket
abbrev pub levels_comma : ℕ → Actuals → List ℕ → List ℕ
levels_comma d no_actual before = before
levels_comma d (actual others name line v place) before = d ∷ before

-- the levels of the actuals of a call, each of three tokens, at the depth inside its bracket
abbrev pub levels_actuals : ℕ → Actuals → List ℕ → List ℕ
levels_actuals d no_actual before = before
levels_actuals d (actual others name line v place) before =
    d ∷ d ∷ d ∷ levels_comma d others (levels_actuals d others before)

-- the levels of the labels of an arm, at the depth inside its CASE
abbrev pub levels_labels : ℕ → Labels → List ℕ → List ℕ
levels_labels d (label c) before = d ∷ before
levels_labels d (more_labels others c) before = d ∷ d ∷ levels_labels d others before

-- the levels of statements at a place of a depth: what is in an IF, a CASE or a WHILE, or in the brackets of a call,
-- is one deeper
abbrev mutual
  pub levels_one : ℕ → Statement → List ℕ → List ℕ
  levels_one d (assign line v e) before = levels d e (d ∷ d ∷ before)
  levels_one d (write line w p e) before = d ∷ levels (suc d) e (suc d ∷ levels (suc d) p (suc d ∷ d ∷ before))
  levels_one d (invoke line name actuals) before = d ∷ levels_actuals (suc d) actuals (suc d ∷ d ∷ before)
  levels_one d (choice line arms) before = d ∷ levels_arms (suc d) arms before
  levels_one d (choice_else line arms body) before =
      d ∷ levels_all (suc d) body (suc d ∷ levels_arms (suc d) arms before)
  levels_one d (cases line e arms) before = d ∷ levels_cases (suc d) arms (suc d ∷ levels (suc d) e (suc d ∷ before))
  levels_one d (cases_else line e arms body) before =
      d ∷ levels_all (suc d) body (suc d ∷ levels_cases (suc d) arms (suc d ∷ levels (suc d) e (suc d ∷ before)))
  levels_one d (loop line e body) before = d ∷ levels_all (suc d) body (suc d ∷ levels (suc d) e (suc d ∷ before))
  levels_one d (jump line word) before = d ∷ before

  -- the levels of statements, each with its `;`, at a place of a depth
  pub levels_all : ℕ → Statements → List ℕ → List ℕ
  levels_all d none before = before
  levels_all d (empty others) before = d ∷ levels_all d others before
  levels_all d (further others s) before = d ∷ levels_one d s (levels_all d others before)

  -- the levels of the arms of an IF, at the depth inside it
  pub levels_arms : ℕ → Arms → List ℕ → List ℕ
  levels_arms d no_arm before = before
  levels_arms d (arm others e body) before = levels_all d body (d ∷ levels d e (d ∷ levels_arms d others before))

  -- the levels of the arms of a CASE, at the depth inside it
  pub levels_cases : ℕ → CaseArms → List ℕ → List ℕ
  levels_cases d no_case before = before
  levels_cases d (case_arm others labels body) before =
      levels_all d body (d ∷ levels_labels d labels (levels_cases d others before))

-- the level of a comma after the bytes of a data block, at depth 0 as all tokens of declarations, but those in a
-- bracket
abbrev pub levels_past : Items → List ℕ → List ℕ
levels_past no_item before = before
levels_past (single others b) before = 0 ∷ before
levels_past (times others count b) before = 0 ∷ before

-- the levels of the bytes of a data block; the bracket of a count and the byte in it are at depth 1
abbrev pub levels_items : Items → List ℕ → List ℕ
levels_items no_item before = before
levels_items (single others b) before = 0 ∷ levels_past others (levels_items others before)
levels_items (times others count b) before = 0 ∷ 1 ∷ 1 ∷ 0 ∷ levels_past others (levels_items others before)

-- the levels of `:=` and the bytes of a data block in square brackets, which add no depth
abbrev pub levels_initial : Items → List ℕ → List ℕ
levels_initial no_item before = before
levels_initial items before = 0 ∷ levels_items items (0 ∷ 0 ∷ before)

-- the levels of the type of a global, for a data block eight tokens and its bytes
abbrev pub levels_type : GlobalType → List ℕ → List ℕ
levels_type (plain ty) before = 0 ∷ before
levels_type (bytes last items) before = levels_initial items (0 ∷ 0 ∷ 0 ∷ 0 ∷ 0 ∷ 0 ∷ 0 ∷ 0 ∷ before)

-- the levels of the globals, each a name, AT, a place, `:`, a type and `;`
abbrev pub levels_globals : Globals → List ℕ → List ℕ
levels_globals no_global before = before
levels_globals (global others name line v place ty) before =
    0 ∷ levels_type ty (0 ∷ 0 ∷ 0 ∷ 0 ∷ levels_globals others before)

-- the levels of formals or locals, each a name, `:`, a type and `;`
abbrev pub levels_locals : Locals → List ℕ → List ℕ
levels_locals no_local before = before
levels_locals (local others name line ty) before = 0 ∷ 0 ∷ 0 ∷ 0 ∷ levels_locals others before

-- the levels of a section between its word and END_VAR, if it exists
abbrev pub levels_section : {X : Type 0} → (X → List ℕ → List ℕ) → Section X → List ℕ → List ℕ
levels_section inner absent before = before
levels_section inner (present x) before = 0 ∷ inner x (0 ∷ before)

-- the levels of the units, whose statements begin at depth 0
abbrev pub levels_units : Units → List ℕ → List ℕ
levels_units no_unit before = before
levels_units (unit others head formals locals body) before =
    0
    ∷ levels_all 0 body
    (levels_section levels_locals locals (levels_section levels_locals formals (0 ∷ 0 ∷ levels_units others before)))

-- the levels of a whole text's tokens, with its end
abbrev pub levels_source : Source → List ℕ
levels_source source = 0 ∷ levels_units source.units (levels_section levels_globals source.globals [])
