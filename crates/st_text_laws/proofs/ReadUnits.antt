-- The units of a tree that was read: their names, formals and locals are ones that they may have, and their
-- statements are well typed.
use Rattle.st_tree.proofs.Common.{◌≡◌, ◌≢◌, ℕ, ◌≤◌, max, Bool, true, false, List, [], ◌∷◌, ◌++◌, map, refl, sym, subst, ◌∙◌, arith, map-append, is_name, may_name_unit, IsFormal, IsLocal}
use Rattle.st_text_laws.proofs.Worded.{Worded, locals_behind, locals_section_behind, units_behind}
use Rattle.st_grammar.proofs.Common.{Locals, Section, Statements, Units, absent, local, no_local, no_unit, present, unit, Head, AllFit, FormalsFit, HeadFits, IfPresent, LocalsFit, UnitsFit, section_items, is_formal_type, tree_all, tree_locals, tree_units, spell_all, spell_formals, spell_locals, spell_temps, spell_units, deepest, levels_all, levels_locals, levels_section, levels_units, AllWithin}
use Rattle.st_reading_laws.proofs.Lists.{Each, each_append}
use Rattle.st_text_laws.proofs.Levels.{all_within, greatest, greatest_within, top_all, top_of_all}
use Rattle.st_text_laws.proofs.SameNames.{name_is}
use Rattle.st_rules.proofs.Common.{local_of, locals_of, Table, all_units, unit_of}
use Rattle.st_names.specs.declared.scope.Formals.{Formals}
use Rattle.st_names.specs.declared.scope.Meaning.{Meaning}
use Rattle.st_lexer.proofs.Common.{StType, Pou, RawPou}
use Rattle.st_tree.specs.declared.expr.StType.TheVariants as type

-- Formals and locals

no_lint : (ty : StType) → is_formal_type ty ≡ true → ty ≢ type.Lint
no_lint ty h e = let none : is_formal_type type.Lint ≡ true = subst (λ t. is_formal_type t ≡ true) e h in absurd cc

each_last : {X Y : Type 0} (P : Y → Type 0) (f : X → Y) (xs : List X) (x : X) → Each P (map f xs) → P (f x)
    → Each P (map f (xs ++ x ∷ []))
each_last P f xs x h g = subst (Each P) (sym (map-append f xs (x ∷ []))) (each_append P (map f xs) (f x ∷ []) h (g, tt))

are_formals : (ls : Locals) → FormalsFit ls → Worded (spell_locals ls) → Each IsFormal (locals_of (tree_locals ls))
are_formals no_local f s = tt
are_formals (local others name line ty) f s =
    each_last IsFormal local_of (tree_locals others) _ (are_formals others f.0 (_, s.1))
    (record { name = name_is name (locals_behind others _ s.1).0; free = f.1; type = no_lint ty f.2 })

are_locals : (ls : Locals) → LocalsFit ls → Worded (spell_locals ls) → Each IsLocal (locals_of (tree_locals ls))
are_locals no_local f s = tt
are_locals (local others name line ty) f s =
    each_last IsLocal local_of (tree_locals others) _ (are_locals others f.0 (_, s.1))
    (record { name = name_is name (locals_behind others _ s.1).0; free = f.1 })

formals_held : (program : Bool) (s : Section Locals) → HeadFits program s → Worded (spell_formals s)
    → Each IsFormal (locals_of (section_items tree_locals s))
formals_held program absent f s = tt
formals_held program (present ls) f s = are_formals ls f.1 (_, s.1.1)

locals_held : (s : Section Locals) → IfPresent LocalsFit s → Worded (spell_temps s)
    → Each IsLocal (locals_of (section_items tree_locals s))
locals_held absent f s = tt
locals_held (present ls) f s = are_locals ls f (_, s.1.1)

-- only functions have formals
none_held : (program : Bool) (s : Section Locals) → HeadFits program s → program ≡ true → locals_of (section_items tree_locals s) ≡ []
none_held program absent f h = refl
none_held program (present ls) f h = let never : true ≡ false = sym h ∙ f.0 in absurd cc

-- Heads

-- what is asked of a unit's head and declarations alone
pub record IsHeaded (u : Pou) : Type 0 where
  pub name : is_name u.name ≡ true
  pub free : may_name_unit u.name ≡ true
  pub program : u.program ≡ true → u.formals ≡ []
  pub formals : Each IsFormal u.formals
  pub locals : Each IsLocal u.locals

-- a unit by its head, its formals, its locals and its statements
abbrev raw_unit : Head → Section Locals → Section Locals → Statements → RawPou
raw_unit head formals locals body = record {
  program = head.program;
  name = head.name;
  line = head.line;
  formals = section_items tree_locals formals;
  locals = section_items tree_locals locals;
  body = tree_all body;
}

pub are_headed : (outer : Table Meaning) (formals : List Formals) (us : Units) → UnitsFit us → Worded (spell_units us)
    → Each IsHeaded (all_units outer formals (tree_units us))
are_headed outer formals no_unit f s = tt
are_headed outer formals (unit others head formal own body) f s =
    let here = units_behind others _ s.1 in
    each_last IsHeaded (unit_of outer formals) (tree_units others) (raw_unit head formal own body) (are_headed outer formals others f.0 (_, s.1))
    (record {
      name = name_is head.name here.1.0;
      free = f.1;
      program = none_held head.program formal f.2;
      formals = formals_held head.program formal f.2 (_, here.1.1);
      locals = locals_held own f.3 (_, locals_section_behind _ formal _ here.1.1);
    })

-- Statements

abbrev pub AreWithin : List ℕ → Type 0
AreWithin levels = AllWithin deepest levels

-- the statements of a unit
pub record WasRead (u : RawPou) : Type 0 where
  pub body : Statements
  pub same : u.body ≡ tree_all body
  pub fit : AllFit false body
  pub spelled : Worded (spell_all body)
  pub within : top_all 0 body ≤ deepest

locals_before : (ls : Locals) (before : List ℕ) → AreWithin (levels_locals ls before) → AreWithin before
locals_before no_local before h = h
locals_before (local others name line ty) before h = locals_before others before h.1.1.1.1

section_before : (s : Section Locals) (before : List ℕ) → AreWithin (levels_section levels_locals s before) → AreWithin before
section_before absent before h = h
section_before (present ls) before h = (locals_before ls (0 ∷ before) h.1).1

pub were_read : (us : Units) (before : List ℕ) → UnitsFit us → Worded (spell_units us) → AreWithin (levels_units us before) → Each WasRead (tree_units us)
were_read no_unit before f s w = tt
were_read (unit others head formals own body) before f s w =
    let two = 0 ∷ 0 ∷ levels_units others before in
    let one = levels_section levels_locals formals two in
    let both = levels_section levels_locals own one in
    let top : greatest (levels_all 0 body both) ≤ deepest = greatest_within deepest (levels_all 0 body both) w.1 in
    let sum : greatest (levels_all 0 body both) ≡ max (top_all 0 body) (greatest both) = top_of_all 0 body both in
    let behind : AreWithin both = all_within deepest both (omega (arith, top, sum)) in
    let last = raw_unit head formals own body in
    each_append WasRead (tree_units others) (last ∷ [])
    (were_read others before f.0 (_, s.1) (section_before formals two (section_before own one behind)).1.1) (
      record {
        body = body;
        same = refl;
        fit = f.4;
        spelled = (_, locals_section_behind _ own _ (locals_section_behind _ formals _ (units_behind others _ s.1).1.1));
        within = omega (arith, top, sum);
      },
      tt,
    )
