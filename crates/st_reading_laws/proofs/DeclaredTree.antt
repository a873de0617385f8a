-- What a text declares that has a tree, and that names in a scope say what stands in the tree.
use Rattle.st_tree.proofs.Common.{◌≡◌, ◌⊎◌, ℕ, suc, ◌+◌, true, false, cond, List, [], ◌∷◌, ◌++◌, map, length, Option, Some, None, inl, inr, refl, sym, ap, subst, ◌∙◌, arith, ◌≤◌, slice_get, fold, Reg, DataBlock, names_in, Names, Ascend, IsSized, numbers_of, MOST_BLOCKS, is_same, key_of}
use Rattle.std.proofs.lemmas.List.{append_assoc}
use Rattle.st_rules.proofs.Common.{StType, Local, Located, Pou, StProgram, RawLocal, RawPou, RawSt, meaning_of_unit, all_inside, all_outside, formals_of, keys_of, locals_of, no_outside, with_global, all_blocks, all_global_breaks, all_located, Table, look_up, with_entry, as_register, meaning_in, or_else, register_named, HasTree, breaks_of, first_break, names_of, all_unit_breaks, all_units, breaks_of_unit}
use Rattle.memory_areas.specs.Areas.{AreBlocks}
use Rattle.st_rules.specs.Declarations.{with_type}
use Rattle.st_names.specs.declared.scope.Formals.{Formals}
use Rattle.st_names.specs.declared.scope.Meaning.{Meaning}
use Rattle.st_names.specs.declared.scope.Meaning.TheVariants as meaning
use Rattle.st_names.specs.declared.scope.NameScope.{NameScope}
use Rattle.st_reading_laws.proofs.Apart.{Lists, same_keys}
use Rattle.st_reading_laws.proofs.Lists.{Each, each_all, each_append, each_map, mapped_at, nil_at, nil_first, nil_second, pair_at, pair_length, pair_map}
use Rattle.st_reading_laws.proofs.Declared.{Declares, IsFunctionAt, IsGlobalAt, IsLocalAt, keys_of_locals, types_of_locals}
use Rattle.st_reading_laws.proofs.DeclaredNames.{AreNumbered, before_units, ArePlaced, Gathered, block_entries, entries, formal_entries, gather, gather_units, inner_entries, local_entries, located_entries, outer_entries, unit_entries}
use Rattle.s7_base.proofs.FirstBreak.{first_of_all_is_first}
use Rattle.st_reading_laws.proofs.Redeclared.{AreLocalsAt, AreUnitsAt, IsLocalOf, IsUnitAt}

pub sound_units : (raw : RawSt) → first_break raw ≡ None → all_unit_breaks (names_of raw) (map formals_of raw.pous) raw.pous ≡ []
sound_units raw h =
    let outside = (all_outside raw.globals raw.pous).breaks in
    let globals = all_global_breaks raw.globals in
    let inside = all_unit_breaks (names_of raw) (map formals_of raw.pous) raw.pous in
    nil_second globals inside (nil_second outside (globals ++ inside) (first_of_all_is_first.none (breaks_of raw) h))

-- A text declares what its own tree has

pub locals_there : (rs : List RawLocal) → AreLocalsAt (locals_of rs) rs
locals_there [] = tt
locals_there (r ∷ rs) = (record { named = refl; typed = refl }, locals_there rs)

units_there : (outer : Table Meaning) (formals : List Formals) (us : List RawPou) → AreUnitsAt (all_units outer formals us) us
units_there outer formals [] = tt
units_there outer formals (u ∷ us) =
    (record { program = refl; named = refl; formals = locals_there u.formals; locals = locals_there u.locals }, units_there outer formals us)

pub unit_there : (ps : List Pou) (us : List RawPou) → AreUnitsAt ps us → (n : ℕ) (p : Pou) (u : RawPou)
    → slice_get ps n ≡ Some p → slice_get us n ≡ Some u → IsUnitAt p u
unit_there = pair_at IsUnitAt

-- what a text that has a tree declares
pub record IsDeclared (raw : RawSt) (t : StProgram) : Type 0 where
  pub blocks : all_blocks raw.globals ≡ t.dbs
  pub located : all_located raw.globals ≡ t.globals
  pub units : AreUnitsAt t.pous raw.pous
  pub names : Lists (names_of raw) (outer_entries t)
  pub numbered : AreNumbered t.dbs
  pub ascend : Ascend 1 (numbers_of t.dbs)
  pub few : length t.dbs ≤ MOST_BLOCKS
  pub placed : ArePlaced t.globals
  pub inside : (n : ℕ) (u : RawPou) → slice_get raw.pous n ≡ Some u → (all_inside u.formals u.locals).breaks ≡ []

pub is_declared : (raw : RawSt) (t : StProgram) → HasTree raw t → IsDeclared raw t
is_declared raw t h =
    let outer = names_of raw in
    let formals = map formals_of raw.pous in
    let none : breaks_of raw ≡ [] = first_of_all_is_first.none (breaks_of raw) h.sound in
    let outside = nil_first (all_outside raw.globals raw.pous).breaks _ none in
    let globals =
    nil_first (all_global_breaks raw.globals) (all_unit_breaks outer formals raw.pous) (nil_second (all_outside raw.globals raw.pous).breaks _ none) in
    let empty : Lists [] [] = record { same = λ k. refl; apart = tt } in
    let d = fold with_global no_outside raw.globals in
    let begun : Gathered no_outside [] [] =
    record { names = empty; globals = refl; blocks = refl; units = refl; numbered = tt; ascend = tt; few = omega arith; placed = tt } in
    let g = gather raw.globals no_outside [] [] begun (before_units raw.pous d outside) globals in
    let blocks : all_blocks raw.globals ≡ t.dbs = ap (λ (s : StProgram). s.dbs) (sym h.same) in
    let located : all_located raw.globals ≡ t.globals = ap (λ (s : StProgram). s.globals) (sym h.same) in
    let units : AreUnitsAt t.pous raw.pous = subst (λ (s : StProgram). AreUnitsAt s.pous raw.pous) (sym h.same) (units_there outer formals raw.pous) in
    let before = block_entries (all_blocks raw.globals) ++ located_entries 0 (all_located raw.globals) in
    let names = gather_units t.pous raw.pous units d before g.names outside in
    let order : before ++ unit_entries d.units t.pous ≡ outer_entries t =
    rw (blocks, located, g.units) (append_assoc (block_entries t.dbs) (located_entries 0 t.globals) (unit_entries 0 t.pous)) in
    record {
      blocks = blocks;
      located = located;
      units = units;
      names = subst (Lists (names_of raw)) order names;
      numbered = subst AreNumbered blocks g.numbered;
      ascend = subst (λ bs. Ascend 1 (numbers_of bs)) blocks g.ascend;
      few = subst (λ (bs : List DataBlock). length bs ≤ MOST_BLOCKS) blocks g.few;
      placed = subst ArePlaced located g.placed;
      inside = λ n u q. nil_first (all_inside u.formals u.locals).breaks _ (nil_at (breaks_of_unit outer formals) raw.pous n u (sound_units raw h.sound) q);
    }

-- the data blocks of a tree are ones that a memory may have
pub are_blocks : (raw : RawSt) (t : StProgram) → IsDeclared raw t → AreBlocks t.dbs
are_blocks raw t d = record { ascend = d.ascend; few = d.few; sized = each_all IsSized t.dbs (each_map _ IsSized t.dbs (λ b i. i.sized) d.numbered) }

-- Formals as calls see them

keys_same : (ls : List Local) (rs : List RawLocal) → AreLocalsAt ls rs → keys_of rs ≡ keys_of_locals ls
keys_same = pair_map IsLocalOf (λ l. key_of l.name) (λ r. key_of r.name) (λ l r a. ap key_of a.named)

types_same : (ls : List Local) (rs : List RawLocal) → AreLocalsAt ls rs → (types : Table StType)
    → fold with_type types rs ≡ fold (λ types (l : Local). with_entry (key_of l.name) l.ty types) types ls
types_same [] [] a types = refl
types_same (l ∷ ls) (r ∷ rs) a types = rw (a.0.named, a.0.typed) (types_same ls rs a.1 (with_entry (key_of l.name) l.ty types))
types_same ls rs a types = absurd a

-- the formals of a unit of the tree
abbrev pub formals_in : Pou → Formals
formals_in p = record { keys = keys_of_locals p.formals; types = types_of_locals p.formals }

pub formals_same : (ps : List Pou) (us : List RawPou) → AreUnitsAt ps us → map formals_of us ≡ map formals_in ps
formals_same = pair_map IsUnitAt formals_in formals_of (λ p u a. rw (keys_same p.formals u.formals a.formals, types_same p.formals u.formals a.formals []) refl)

-- Names stand in the tree where their meanings say

-- what a meaning says of what stands in the tree
abbrev Stands : Names → List Formals → List ℕ → Meaning → Type 0
Stands names formals key (meaning.Formal i ty) = IsLocalAt key ty (slice_get names.formals i)
Stands names formals key (meaning.Local i ty) = IsLocalAt key ty (slice_get names.locals i)
Stands names formals key (meaning.Global i ty) = IsGlobalAt key ty (slice_get names.globals i)
Stands names formals key (meaning.Function i) = IsFunctionAt key (slice_get names.units i) (slice_get formals i)
Stands names formals key other = Unit {0}

module _ (names : Names) (formals : List Formals) where
  -- each entry of a table is right
  abbrev AllStand : Table Meaning → Type 0
  AllStand = Each (λ (e : List ℕ × Meaning). Stands names formals e.0 e.1)

  found_stands : (k : List ℕ) (m : Meaning) (es : Table Meaning) → look_up k es ≡ Some m → AllStand es → Stands names formals k m
  found_stands k m [] q h = absurd cc
  found_stands k m (e ∷ es) q h = (elim (is_same k e.0) as (λ t. is_same k e.0 ≡ t → cond t (Some e.1) (look_up k es) ≡ Some m → Stands names formals k m) [
    | true ↦ λ f r.
        let meant : e.1 ≡ m = cc in
        subst (Stands names formals k) meant (subst (λ j. Stands names formals j e.1) (sym (same_keys k e.0 f)) h.0)
    | false ↦ λ f r. found_stands k m es r h.1
  ]) refl q

  blocks_stand : (bs : List DataBlock) → AllStand (block_entries bs)
  blocks_stand [] = tt
  blocks_stand (b ∷ bs) = (tt, blocks_stand bs)

  entries_stand : {X : Type 0} (name : X → List ℕ) (mean : ℕ → X → Meaning) (i : ℕ) (xs : List X)
      → ((n j : ℕ) (x : X) → i + n ≡ j → slice_get xs n ≡ Some x → Stands names formals (key_of (name x)) (mean j x))
      → AllStand (entries (λ x. key_of (name x)) mean i xs)
  entries_stand name mean i [] h = tt
  entries_stand name mean i (x ∷ xs) h =
      (h 0 i x (omega arith) refl, entries_stand name mean (i + 1) xs (λ n j y e q. h (suc n) j y (omega arith) q))

-- the meaning of another name than a register's stands in a table
abbrev IsNoRegister : Meaning → Type 0
IsNoRegister (meaning.Register r) = ⊥
IsNoRegister other = Unit {0}

in_tables : (r : Option Reg) (x y : Option Meaning) (m : Meaning) → IsNoRegister m
    → or_else (as_register r) (or_else x y) ≡ Some m → (x ≡ Some m) ⊎ (y ≡ Some m)
in_tables (Some r) x y m other h = let same : meaning.Register r ≡ m = cc in absurd (subst IsNoRegister (sym same) other)
in_tables None (Some n) y m other h = inl h
in_tables None None y m other h = inr h

-- A scope

pub same_length : (ps : List Pou) (us : List RawPou) → AreUnitsAt ps us → length us ≡ length ps
same_length = pair_length IsUnitAt

from_start : {X : Type 0} (xs : List X) (n j : ℕ) (x : X) → 0 + n ≡ j → slice_get xs n ≡ Some x → slice_get xs j ≡ Some x
from_start xs n j x e h = let same : n ≡ j = omega arith in subst (λ i. slice_get xs i ≡ Some x) same h

-- a scope says of each name what stands in the tree
pub scope_declares : (t : StProgram) (p : Pou) (scope : NameScope) → Lists scope.inner (inner_entries p)
    → Lists scope.outer (outer_entries t) → scope.formals ≡ map formals_in t.pous
    → Declares scope (names_in t p)
scope_declares t p scope inner outer formals = record {
  formal = λ key i ty h. stands key (meaning.Formal i ty) tt h;
  local = λ key i ty h. stands key (meaning.Local i ty) tt h;
  global = λ key i ty h. stands key (meaning.Global i ty) tt h;
  function = λ key i h. stands key (meaning.Function i) tt h;
}
  where
    names : Names
    names = names_in t p

    unit_stands : (n j : ℕ) (u : Pou) → 0 + n ≡ j → slice_get t.pous n ≡ Some u
        → Stands names scope.formals (key_of u.name) (meaning_of_unit j u.program)
    unit_stands n j u e q =
        elim u.program as (λ b. Stands names scope.formals (key_of u.name) (meaning_of_unit j b)) [ true ↦ tt | false ↦ function ]
      where
        there : slice_get t.pous j ≡ Some u
        there = from_start t.pous n j u e q

        function : IsFunctionAt (key_of u.name) (slice_get t.pous j) (slice_get scope.formals j)
        function = rw (there, ap (λ fs. slice_get fs j) formals ∙ mapped_at formals_in t.pous j u there)
            (record { named = refl; keys = refl; types = refl })

    inner_stands : AllStand names scope.formals (inner_entries p)
    inner_stands =
        each_append _ (formal_entries 0 p.formals) (local_entries 0 p.locals)
        (entries_stand names scope.formals (λ (l : Local). l.name) _ 0 p.formals (λ n j l e q.
        subst (IsLocalAt (key_of l.name) l.ty) (sym (from_start p.formals n j l e q)) (refl, refl)))
        (entries_stand names scope.formals (λ (l : Local). l.name) _ 0 p.locals (λ n j l e q.
        subst (IsLocalAt (key_of l.name) l.ty) (sym (from_start p.locals n j l e q)) (refl, refl)))

    outer_stands : AllStand names scope.formals (outer_entries t)
    outer_stands =
        each_append _ (block_entries t.dbs) (located_entries 0 t.globals ++ unit_entries 0 t.pous) (blocks_stand names scope.formals t.dbs)
        (each_append _ (located_entries 0 t.globals) (unit_entries 0 t.pous)
        (entries_stand names scope.formals (λ (g : Located). g.name) _ 0 t.globals (λ n j g e q.
        subst (IsGlobalAt (key_of g.name) g.ty) (sym (from_start t.globals n j g e q)) (refl, refl)))
        (entries_stand names scope.formals (λ (u : Pou). u.name) _ 0 t.pous unit_stands))

    stands : (key : List ℕ) (m : Meaning) → IsNoRegister m → meaning_in scope key ≡ Some m → Stands names scope.formals key m
    stands key m other h = elim (in_tables (register_named key) (look_up key scope.inner) (look_up key scope.outer) m other h) [
      | inl q ↦ found_stands names scope.formals key m (inner_entries p) (sym (inner.same key) ∙ q) inner_stands
      | inr q ↦ found_stands names scope.formals key m (outer_entries t) (sym (outer.same key) ∙ q) outer_stands
    ]
