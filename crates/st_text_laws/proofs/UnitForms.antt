-- The units of a proper tree, in their canonical form: they are of the language, tokens can have
-- their names, they nest no deeper than they may, and they declare what the tree has.
use Rattle.st_text_laws.proofs.Spells.{Spells, end_word_spelled, unit_word_spelled}
use Rattle.st_text_laws.proofs.Common.{GrammarKind, Placed, body_from, locals_from, on, section_from, statement_from, unit_from, units_from, is_name, is_spelled}
use Rattle.st_tree.proofs.Common.{◌≡◌, ◌≢◌, ℕ, Bool, true, false, List, [], ◌∷◌, map, refl, All, Line, line_after, IsFormal, IsLocal, IsProperUnit, head_of, names_in}
use Rattle.st_text_laws.proofs.SameNames.{spelled_name}
use Rattle.st_grammar.proofs.Common.{Statements, Locals, no_local, local, Section, absent, present, Units, no_unit, AllFit, FormalsFit, HeadFits, IfPresent, LocalsFit, UnitsFit, section_items, is_formal_type, spell_all, spell_locals, spell_section, spell_units, tree_all, tree_locals, tree_units, levels_all, levels_locals, levels_section, levels_units}
use Rattle.st_text_laws.proofs.BlockForms.{AreWithin, low}
use Rattle.st_reading_laws.proofs.Lists.{Behind, Each, EachPair, each_of, none_behind, one_behind, pairs_behind}
use Rattle.st_lexer.proofs.Common.{StType, Local, Pou, StProgram, RawPou}
use Rattle.st_tree.specs.declared.expr.StType.TheVariants as type
use Rattle.st_reading_laws.proofs.Redeclared.{AreLocalsAt, AreUnitsAt, IsLocalOf, IsUnitAt}

-- a unit of a proper tree
abbrev pub IsUnit : StProgram → Pou → Type 0
IsUnit text u = IsProperUnit text.globals (map head_of text.pous) u

-- Their sections

-- locals of the language that tokens can have
record AreSound (P : Locals → Type 0) (all : Locals) : Type 0 where
  fit : P all
  spelled : Spells (spell_locals all)

module _ (P : Locals → Type 0) (Q : Local → Type 0) (named : (l : Local) → Q l → is_name l.name ≡ true)
    (fits : (others : Locals) (l : Local) (line : Line) → P others → Q l → P (local others l.name line l.ty)) where
  all_sound : (ls : List Local) (others : Locals) (line : ℕ) → Each Q ls → AreSound P others
      → AreSound P (locals_from others line ls).0
  all_sound [] others line h s = s
  all_sound (l ∷ ls) others line h s = all_sound ls (local others l.name (on line) l.ty) (line_after line) h.1 (record {
    fit = fits others l (on line) s.fit h.0;
    spelled = λ ks q. s.spelled _ (named l h.0, (refl, (refl, (refl, q))));
  })

locals_behind : (ls : List Local) (others : Locals) (line : ℕ)
    → Behind tree_locals IsLocalOf others (locals_from others line ls).0 ls
locals_behind [] others line = none_behind tree_locals IsLocalOf others
locals_behind (l ∷ ls) others line =
    one_behind others (local others l.name (on line) l.ty) (record { name = l.name; line = on line; ty = l.ty }) refl
    (record { named = refl; typed = refl }) (locals_behind ls (local others l.name (on line) l.ty) (line_after line))

-- a section declares the formals or the locals
section_at : (ls : List Local) (line : ℕ) → AreLocalsAt ls (section_items tree_locals (section_from line ls).0)
section_at [] line = tt
section_at (l ∷ ls) line =
    pairs_behind tree_locals IsLocalOf no_local _ (l ∷ ls) refl (locals_behind (l ∷ ls) no_local (line_after line))

formal_type : (ty : StType) → ty ≢ type.Lint → is_formal_type ty ≡ true
formal_type type.Lint h = absurd (h refl)
formal_type ty h = refl

locals_within : (ls : Locals) (before : List ℕ) → AreWithin before → AreWithin (levels_locals ls before)
locals_within no_local before h = h
locals_within (local others name line ty) before h = (low, (low, (low, (low, locals_within others before h))))

section_within : (s : Section Locals) (before : List ℕ) → AreWithin before
    → AreWithin (levels_section levels_locals s before)
section_within absent before h = h
section_within (present ls) before h = (low, locals_within ls (0 ∷ before) (low, h))

-- what a section of formals and one of locals are
record IsSection (P : Section Locals → Type 0) (s : Section Locals) : Type 0 where
  fit : P s
  spelled : (word : GrammarKind) → is_spelled word ≡ true → Spells (spell_section word spell_locals s)

no_program : (program : Bool) (l : Local) (ls : List Local) → (program ≡ true → l ∷ ls ≡ []) → program ≡ false
no_program false l ls h = refl
no_program true l ls h = let none = h refl in absurd cc

formals_section : (program : Bool) (ls : List Local) (line : ℕ) → (program ≡ true → ls ≡ []) → All IsFormal ls
    → IsSection (HeadFits program) (section_from line ls).0
formals_section program [] line m h = record { fit = tt; spelled = λ word w ks q. q }
formals_section program (l ∷ ls) line m h =
    let r = all_sound FormalsFit IsFormal (λ x q. spelled_name x.name q.name)
    (λ others x at f q. (f, q.free, formal_type x.ty q.type)) (l ∷ ls) no_local (line_after line)
    (each_of IsFormal (l ∷ ls) h) (record { fit = tt; spelled = λ ks q. q }) in
    record { fit = (no_program program l ls m, r.fit); spelled = λ word w ks q. (w, r.spelled _ (refl, q)) }

locals_section : (ls : List Local) (line : ℕ) → All IsLocal ls → IsSection (IfPresent LocalsFit) (section_from line ls).0
locals_section [] line h = record { fit = tt; spelled = λ word w ks q. q }
locals_section (l ∷ ls) line h =
    let r = all_sound LocalsFit IsLocal (λ x q. spelled_name x.name q.name) (λ others x at f q. (f, q.free)) (l ∷ ls)
    no_local (line_after line) (each_of IsLocal (l ∷ ls) h) (record { fit = tt; spelled = λ ks q. q }) in
    record { fit = r.fit; spelled = λ word w ks q. (w, r.spelled _ (refl, q)) }

-- Units

-- the statements of a unit from a line on
abbrev pub body_at : StProgram → Pou → ℕ → Statements
body_at text u line = (body_from line (map (statement_from (names_in text u)) u.body)).0

-- they are of the language, tokens can have their parts, and they nest no deeper than they may
pub record HasBody (text : StProgram) (u : Pou) : Type 0 where
  pub fit : (line : ℕ) → AllFit false (body_at text u line)
  pub spelled : (line : ℕ) → Spells (spell_all (body_at text u line))
  pub within : (line : ℕ) (before : List ℕ) → AreWithin before → AreWithin (levels_all 0 (body_at text u line) before)

-- units of the language that tokens can have, after others
pub record AreUnits (all : Units) : Type 0 where
  pub fit : UnitsFit all
  pub spelled : Spells (spell_units all)
  pub within : (before : List ℕ) → AreWithin before → AreWithin (levels_units all before)

-- a unit has the canonical form of the other's statements
pub record HasForm (text : StProgram) (u : Pou) (v : RawPou) : Type 0 where
  pub line : ℕ
  pub same : v.body ≡ tree_all (body_at text u line)

abbrev pub HaveForms : StProgram → List Pou → List RawPou → Type 0
HaveForms text = EachPair (HasForm text)

-- the lines after the sections of a unit
abbrev formals_of_unit : ℕ → Pou → Placed (Section Locals)
formals_of_unit line u = section_from (line_after line) u.formals

abbrev locals_of_unit : ℕ → Pou → Placed (Section Locals)
locals_of_unit line u = section_from (formals_of_unit line u).1 u.locals

abbrev unit_raw : StProgram → ℕ → Pou → RawPou
unit_raw text line u = record {
  program = u.program;
  name = u.name;
  line = on line;
  formals = section_items tree_locals (formals_of_unit line u).0;
  locals = section_items tree_locals (locals_of_unit line u).0;
  body = tree_all (body_at text u (locals_of_unit line u).1);
}

-- a unit after others
one_unit : (text : StProgram) (u : Pou) (others : Units) (line : ℕ) → IsUnit text u → HasBody text u → AreUnits others
    → AreUnits (unit_from text others line u).0
one_unit text u others line h b a =
    let formals = formals_section u.program u.formals (line_after line) h.program h.formals in
    let locals = locals_section u.locals (formals_of_unit line u).1 h.locals in
    let at = (locals_of_unit line u).1 in
    let named = spelled_name u.name h.name in
    let front = unit_word_spelled u.program (on line) in
    let back = end_word_spelled u.program in
    let first = section_within (formals_of_unit line u).0 in
    let second = section_within (locals_of_unit line u).0 in
    record {
      fit = (a.fit, h.free, formals.fit, locals.fit, b.fit at);
      spelled = λ ks q. a.spelled _
          (front, (named, formals.spelled _ refl _ (locals.spelled _ refl _ (b.spelled at _ (back, q)))));
      within = λ before k. (low, b.within at _ (second _ (first _ (low, (low, a.within before k)))));
    }

units_behind : (text : StProgram) (us : List Pou) (others : Units) (line : ℕ) → Each (IsUnit text) us
    → Each (HasBody text) us → AreUnits others
    → AreUnits (units_from text others line us).0
units_behind text [] others line h b a = a
units_behind text (u ∷ us) others line h b a =
    let next = unit_from text others line u in
    units_behind text us next.0 next.1 h.1 b.1 (one_unit text u others line h.0 b.0 a)

-- the units of a text are of the language
pub units_are : (text : StProgram) (us : List Pou) (line : ℕ) → Each (IsUnit text) us → Each (HasBody text) us
    → AreUnits (units_from text no_unit line us).0
units_are text us line h b = units_behind text us no_unit line h b
    (record { fit = tt; spelled = λ ks q. q; within = λ before w. w })

-- they declare what holds of each unit beside its own declaration
units_declare : (text : StProgram) (P : Pou → RawPou → Type 0) → ((u : Pou) (line : ℕ) → P u (unit_raw text line u))
    → (us : List Pou) (others : Units) (line : ℕ) → Behind tree_units P others (units_from text others line us).0 us
units_declare text P own [] others line = none_behind tree_units P others
units_declare text P own (u ∷ us) others line =
    let next = unit_from text others line u in
    one_behind others next.0 (unit_raw text line u) refl (own u line) (units_declare text P own us next.0 next.1)

-- the units of a text declare what it has, and have the canonical form of its statements
pub record DeclareAll (text : StProgram) (us : List Pou) (units : List RawPou) : Type 0 where
  pub are : AreUnitsAt us units
  pub forms : HaveForms text us units

pub all_declare : (text : StProgram) (us : List Pou) (line : ℕ)
    → DeclareAll text us (tree_units (units_from text no_unit line us).0)
all_declare text us line = record {
  are = pairs_behind tree_units IsUnitAt no_unit _ us refl (units_declare text IsUnitAt (λ u at. record {
    program = refl;
    named = refl;
    formals = section_at u.formals (line_after at);
    locals = section_at u.locals (formals_of_unit at u).1;
  }) us no_unit line);
  forms = pairs_behind tree_units (HasForm text) no_unit _ us refl
      (units_declare text (HasForm text) (λ u at. record { line = (locals_of_unit at u).1; same = refl }) us no_unit line);
}
