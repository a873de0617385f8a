-- A proper tree has a canonical form: its declarations and its units together.
use Rattle.st_tree.proofs.Common.{◌≡◌, ◌≢◌, ℕ, suc, ◌+◌, ◌<◌, ◌≤◌, true, false, List, [], ◌∷◌, ◌++◌, map, length, slice_get, Some, refl, sym, ap, subst, ◌∙◌, arith, All, list_all, nat_tests, slice_get_within, All-head, All-tail, Ascend, IsSized, numbers_of, DataBlock, Area, first_of_all, has_width, IsDataBlock, IsGlobal, IsProperUnit, Proper, names_in, width_at, head_of}
use Rattle.std.specs.List.{flat_map}
use Rattle.std.proofs.lemmas.List.{length-map}
use Rattle.memory_areas.specs.declared.place.Area.TheVariants as place
use Rattle.st_text_laws.specs.Canonical.{area_form, globals_from, source_of, units_from}
use Rattle.st_grammar.proofs.Common.{no_unit, raw_tree, deepest, levels_globals, levels_section}
use Rattle.st_lexer.proofs.Common.{is_byte, StType, Located, Pou, StProgram, RawPou, RawSt}
use Rattle.st_text_laws.proofs.BlockForms.{IsFull, low}
use Rattle.st_reading_laws.proofs.Bounds.{bound}
use Rattle.st_text_laws.proofs.Chains.{AreBounded, is_chain}
use Rattle.st_text_laws.proofs.DeclaredGlobals.{IsPlain, IsSection, is_section}
use Rattle.st_text_laws.proofs.Good.{GoodAll}
use Rattle.st_text_laws.proofs.Levels.{all_within, greatest_within, top_of_all}
use Rattle.st_reading_laws.proofs.Parts.{clean_of, found_of}
use Rattle.st_reading_laws.proofs.Lists.{each_at, each_from, each_map, each_of, mapped_from, pair_at, there_at}
use Rattle.st_reading_laws.proofs.DeclaredTree.{formals_in, formals_same, same_length, unit_there}
use Rattle.st_text_laws.proofs.NameScope.{inner_apart, outer_apart, sees, units_proper}
use Rattle.st_text_laws.proofs.StatementForms.{statements_good}
use Rattle.st_text_laws.proofs.UnitForms.{AreUnits, DeclareAll, HasBody, HasForm, all_declare, body_at, units_are}
use Rattle.st_text_laws.proofs.ValueForms.{placed, plain_place}
use Rattle.st_text_laws.proofs.SameNames.{spelled_name}
use Rattle.st_text_laws.specs.CanonicalForms.{HasCanonicalForm, ProperHasForm}
use Rattle.st_rules.proofs.Common.{breaks_in, found_in, all_calls, all_inside, all_outside, formals_of, all_blocks, all_global_breaks, all_located, statements, IsChain, breaks_of, calls_in, names_of, all_unit_breaks, all_units, breaks_of_unit, calls_of_unit, scope_in, unit_of}
use Rattle.st_rules.specs.Typed.{tree_of}
use Rattle.st_names.specs.declared.scope.NameScope.{NameScope}
use Rattle.st_tree.proofs.CalledMost.{called_most}
use Rattle.st_tree.proofs.Induction.{Each}
use Rattle.st_tree.proofs.TypesAgree.{types_agree}
use Rattle.st_tree.specs.declared.expr.StType.TheVariants as type
use Rattle.st_reading_laws.proofs.DeclaredNames.{IsPlaced, inner_entries, locals_again, outer_entries}
use Rattle.st_reading_laws.proofs.BlockSizes.{IsBlock}
use Rattle.st_reading_laws.proofs.PlainTexts.{IsPlainText, inside_again, plain_text}
use Rattle.st_reading_laws.proofs.Redeclared.{IsUnitAt}

-- Data blocks

all_bytes : (bs : List ℕ) → All (λ b. b < 256) bs → list_all is_byte bs ≡ true
all_bytes [] h = refl
all_bytes (b ∷ bs) h =
    let less : b < 256 = All-head (λ b. b < 256) b bs h in
    grind (arith, nat_tests, all_bytes bs (All-tail (λ b. b < 256) b bs h))

are_full : (least : ℕ) (bs : List DataBlock) → 1 ≤ least → Ascend least (numbers_of bs) → Each IsDataBlock bs
    → Each IsSized bs → Each IsFull bs
are_full least [] some a d s = tt
are_full least (b ∷ bs) some a d s = (
  record {
    block = record { number = refl; some = omega (arith, a.0); small = d.0.number; sized = s.0 };
    bytes = all_bytes b.bytes d.0.bytes;
  },
  are_full (b.number + 1) bs (omega arith) a.1 d.1 s.1,
)

-- Globals

wide : (ty : StType) → ty ≢ type.Lint → has_width ty (width_at ty) ≡ true
wide type.Lint h = absurd (h refl)
wide ty h = refl

abbrev global_at : List ℕ → StType → Area → ℕ → ℕ → Located
global_at name ty a byte bit = record { name = name; place = record { area = a; byte = byte; bit = bit }; ty = ty }

-- a global's place is one that it may have, and tokens can have it
global_good : (name : List ℕ) (ty : StType) (byte bit : ℕ) (a : Area) → IsGlobal (global_at name ty a byte bit)
    → IsPlaced (global_at name ty a byte bit) × IsPlain (global_at name ty a byte bit)
global_good name ty byte bit (place.Db n) g = absurd (cc g.place)
global_good name ty byte bit (place.Local d) g = absurd (cc g.place)
global_good name ty byte bit (place.Cell d) g = absurd (cc g.place)
global_good name ty byte bit a g =
    let p = placed (area_form a) (width_at ty) byte bit g.place in
    let w = wide ty g.type in (
      record { address = p.rules; fits = w; found = rw (p.rules, w) refl },
      record {
        name = spelled_name name g.name;
        free = g.free;
        placed = plain_place (area_form a) (width_at ty) byte bit p;
        known = refl;
      },
    )

-- Lists

each_is : {X Y : Type 0} (f : X → Y) (xs : List X) (ys : List Y) → length xs ≡ length ys
    → ((n : ℕ) (x : X) (y : Y) → slice_get xs n ≡ Some x → slice_get ys n ≡ Some y → f x ≡ y)
    → map f xs ≡ ys
each_is f [] [] size h = refl
each_is f [] (y ∷ ys) size h = absurd (omega (arith, size))
each_is f (x ∷ xs) [] size h = absurd (omega (arith, size))
each_is f (x ∷ xs) (y ∷ ys) size h =
    rw (h 0 x y refl refl, each_is f xs ys (omega arith) (λ n a b p q. h (suc n) a b p q)) refl

all_nil : {X Y : Type 0} (f : X → List Y) (xs : List X) → ((n : ℕ) (x : X) → slice_get xs n ≡ Some x → f x ≡ [])
    → flat_map f xs ≡ []
all_nil f [] h = refl
all_nil f (x ∷ xs) h = rw (h 0 x refl) (all_nil f xs (λ n a p. h (suc n) a p))

unit_again : (raw : RawSt) (p : Pou) (v : RawPou) → IsUnitAt p v
    → found_in (statements (scope_in (names_of raw) (map formals_of raw.pous) v) v.body) ≡ p.body
    → unit_of (names_of raw) (map formals_of raw.pous) v ≡ p
unit_again raw p v at body =
    rw (body, at.program, at.named, locals_again p.formals v.formals at.formals, locals_again p.locals v.locals at.locals) refl

some_units : (vs : List RawPou) (ps : List Pou) → length vs ≡ length ps → ps ≢ [] → vs ≢ []
some_units vs [] size some e = some refl
some_units vs (p ∷ ps) size some e = let none : length vs ≡ 0 = ap length e in omega arith

-- A tree

module _ (t : StProgram) (p : Proper t) where
  abbrev raw : RawSt
  raw = raw_tree (source_of t)

  abbrev scope_of : RawPou → NameScope
  scope_of v = scope_in (names_of raw) (map formals_of raw.pous) v

  globals : Each IsGlobal t.globals
  globals = each_of IsGlobal t.globals p.globals

  full : Each IsFull t.dbs
  full = are_full 1 t.dbs (omega arith) p.blocks.ascend (each_of IsDataBlock t.dbs p.bytes)
      (each_of IsSized t.dbs p.blocks.sized)

  good : (g : Located) → IsGlobal g → IsPlaced g × IsPlain g
  good g = global_good g.name g.ty g.place.byte g.place.bit g.place.area

  section : IsSection t.dbs t.globals (globals_from 1 t.dbs t.globals).0
  section = is_section t.dbs t.globals 1 full (each_map IsGlobal IsPlain t.globals (λ g h. (good g h).1) globals)

  declare : DeclareAll t t.pous raw.pous
  declare = all_declare t t.pous (globals_from 1 t.dbs t.globals).1

  plain : IsPlainText t.dbs t.globals t.pous (section.blocks ++ section.others) raw.pous
  plain =
      plain_text t.dbs t.globals t.pous section.blocks section.others raw.pous section.are_blocks section.are_located declare.are
      (each_map IsFull (λ (b : DataBlock). IsBlock b.number b) t.dbs (λ b f. f.block) full)
      (each_map IsGlobal IsPlaced t.globals (λ g h. (good g h).0) globals) p.blocks.ascend p.blocks.few (outer_apart t p)

  outer : names_of raw ≡ outer_entries t
  outer = ap (λ gs. (all_outside gs raw.pous).names) section.globals ∙ plain.names

  formals : map formals_of raw.pous ≡ map formals_in t.pous
  formals = formals_same t.pous raw.pous declare.are

  size : length raw.pous ≡ length t.pous
  size = same_length t.pous raw.pous declare.are

  -- a unit of the tree with that of the text
  proper_at : (n : ℕ) (u : Pou) → slice_get t.pous n ≡ Some u → IsProperUnit t.globals (map head_of t.pous) u
  proper_at n u q = each_at (IsProperUnit t.globals (map head_of t.pous)) t.pous n u (units_proper t p) q

  unit_at : (n : ℕ) (u : Pou) (v : RawPou) → slice_get t.pous n ≡ Some u → slice_get raw.pous n ≡ Some v → IsUnitAt u v
  unit_at = unit_there t.pous raw.pous declare.are

  inside_at : (n : ℕ) (u : Pou) (v : RawPou) → slice_get t.pous n ≡ Some u → slice_get raw.pous n ≡ Some v
      → ((all_inside v.formals v.locals).breaks ≡ []) × ((all_inside v.formals v.locals).names ≡ inner_entries u)
  inside_at n u v q d =
      let at = unit_at n u v q d in inside_again u v at.formals at.locals (inner_apart u (proper_at n u q).apart)

  -- the statements of a unit
  body : (n : ℕ) (u : Pou) (v : RawPou) → slice_get t.pous n ≡ Some u → slice_get raw.pous n ≡ Some v → (line : ℕ)
      → GoodAll (scope_of v) false u.body (body_at t u line)
  body n u v q d line =
      let h = proper_at n u q in
      statements_good (scope_of v) (names_in t u)
      (sees t u (scope_of v) p h (inside_at n u v q d).1 outer formals) (types_agree t u) false u.body h.typed line

  has_body : (n : ℕ) (u : Pou) → slice_get t.pous n ≡ Some u → HasBody t u
  has_body n u q =
      let v = there_at raw.pous n (omega (arith, slice_get_within t.pous n u q, size)) in
      let good = body n u v.0 q v.1 in
      record {
        fit = λ line. (good line).fits;
        spelled = λ line. (good line).spelled;
        within = λ line before w. all_within deepest _ (omega (
          arith,
          (good line).low 0,
          (proper_at n u q).nesting,
          greatest_within deepest before w,
          top_of_all 0 (body_at t u line) before,
        ));
      }

  units : AreUnits (units_from t no_unit (globals_from 1 t.dbs t.globals).1 t.pous).0
  units = units_are t t.pous (globals_from 1 t.dbs t.globals).1 (units_proper t p) (each_from (HasBody t) t.pous has_body)

  -- what a unit of the text is
  said : (n : ℕ) (u : Pou) (v : RawPou) → slice_get t.pous n ≡ Some u → slice_get raw.pous n ≡ Some v
      → (breaks_in (statements (scope_of v) v.body) ≡ []) × (found_in (statements (scope_of v) v.body) ≡ u.body)
      × ((f : ℕ → ℕ) → bound f (all_calls (scope_of v) v.body) ≤ called_most f u.body)
  said n u v q d =
      let form = pair_at (HasForm t) t.pous raw.pous declare.forms n u v q d in
      let g = body n u v q d form.line in
      subst (λ b. (breaks_in (statements (scope_of v) b) ≡ []) × (found_in (statements (scope_of v) b) ≡ u.body)
      × ((f : ℕ → ℕ) → bound f (all_calls (scope_of v) b) ≤ called_most f u.body)) (sym form.same)
      (clean_of _ _ g.means, found_of _ _ g.means, g.calls)

  sound_unit : (n : ℕ) (v : RawPou) → slice_get raw.pous n ≡ Some v
      → breaks_of_unit (names_of raw) (map formals_of raw.pous) v ≡ []
  sound_unit n v d =
      let u = there_at t.pous n (omega (arith, slice_get_within raw.pous n v d, size)) in
      ap (λ l. l ++ breaks_in (statements (scope_of v) v.body)) (inside_at n u.0 v u.1 d).0 ∙ (said n u.0 v u.1 d).0

  no_breaks : breaks_of raw ≡ []
  no_breaks =
      let outside = ap (λ gs. (all_outside gs raw.pous).breaks) section.globals ∙ plain.outside in
      let sound = ap all_global_breaks section.globals ∙ plain.sound in
      ap (λ l. l ++ (all_global_breaks raw.globals ++ all_unit_breaks (names_of raw) (map formals_of raw.pous) raw.pous)) outside
      ∙ ap (λ l. l ++ all_unit_breaks (names_of raw) (map formals_of raw.pous) raw.pous) sound
      ∙ all_nil (breaks_of_unit (names_of raw) (map formals_of raw.pous)) raw.pous sound_unit

  all_again : all_units (names_of raw) (map formals_of raw.pous) raw.pous ≡ t.pous
  all_again =
      each_is (unit_of (names_of raw) (map formals_of raw.pous)) raw.pous t.pous size
      (λ n v u d q. unit_again raw u v (unit_at n u v q d) (said n u v q d).1)

  same : t ≡ tree_of raw
  same = sym (rw (ap all_blocks section.globals ∙ plain.blocks, ap all_located section.globals ∙ plain.located, all_again) refl)

  bounded : AreBounded t (calls_in raw)
  bounded i calls unit e q f =
      let v = mapped_from (calls_of_unit (names_of raw) (map formals_of raw.pous)) raw.pous i calls e in
      subst (λ cs. bound f cs ≤ called_most f unit.body) (sym v.2) ((said i unit v.0 q v.1).2 f)

  chain : IsChain (calls_in raw) raw.pous
  chain =
      is_chain t (calls_in raw) bounded p.chains
      (length-map raw.pous (calls_of_unit (names_of raw) (map formals_of raw.pous)) ∙ size) raw.pous
      (some_units raw.pous t.pous size p.some)

  pub proper_form : HasCanonicalForm t
  proper_form = record {
    fits = (section.fit, units.fit);
    spelled = section.spelled _ (units.spelled _ (refl, tt));
    within =
        (low, units.within (levels_section levels_globals (source_of t).globals []) (section.within [] tt));
    typed = record { sound = ap first_of_all no_breaks; chain = chain; same = same };
  }

pub proper_has_form : ProperHasForm
proper_has_form t p = proper_form t p
