-- What names mean in the text of a proper tree: each position is found under its key.
use Rattle.st_tree.proofs.Common.{◌≡◌, ℕ, zero, suc, ◌+◌, ◌<◌, ◌≤◌, Bool, true, false, cond, List, [], ◌∷◌, ◌++◌, map, Some, None, refl, sym, ap, subst, ◌∙◌, arith, codes, decimal, slice_get, Ascend, numbers_of, DataBlock, is_same, key_of, names_block, IsDataBlock, IsFormal, IsGlobal, IsLocal, IsProperUnit, Proper, names_in, Names, UnitScope, head_of, is_seen, keys_of}
use Rattle.std.proofs.lemmas.List.{append_assoc}
use Rattle.st_text_laws.specs.Spelled.{is_name}
use Rattle.st_lexer.proofs.Words.{and_both}
use Rattle.st_reading_laws.proofs.Keyed.{AreDistinct, distinct_of, found_behind}
use Rattle.st_text_laws.proofs.Keys.{IsOther, block_key, free_name, local_name, other_key, other_number, unit_name}
use Rattle.st_text_laws.proofs.SameNames.{spelled_name}
use Rattle.st_rules.proofs.Common.{meaning_of_unit, Table, look_up, meaning_in}
use Rattle.st_names.specs.declared.scope.Meaning.{Meaning}
use Rattle.st_names.specs.declared.scope.Meaning.TheVariants as meaning
use Rattle.st_names.specs.declared.scope.NameScope.{NameScope}
use Rattle.st_tree.specs.Naming as tree
use Rattle.st_lexer.proofs.Common.{Local, Located, Pou, StProgram}
use Rattle.st_reading_laws.proofs.Apart.{AreApart, is_new}
use Rattle.st_reading_laws.proofs.DeclaredTree.{formals_in}
use Rattle.st_reading_laws.proofs.EntryKeys.{inner_keys, keys_in, named_keys}
use Rattle.st_reading_laws.proofs.DeclaredNames.{block_entries, entries, formal_entries, inner_entries, local_entries, located_entries, outer_entries, unit_entries}
use Rattle.st_reading_laws.proofs.Lists.{Each, each_append, each_at, each_map, each_of, mapped_at}

-- Entries of a table

missing : (k : List ℕ) (es : Table Meaning) → tree.is_new k (keys_in es) ≡ true → look_up k es ≡ None
missing k [] h = refl
missing k (e ∷ es) h = grind (arith, missing k es)

apart_of : (es : Table Meaning) → tree.are_apart (keys_in es) ≡ true → AreApart es
apart_of [] h = tt
apart_of (e ∷ es) h =
    let both = and_both (tree.is_new e.0 (keys_in es)) (tree.are_apart (keys_in es)) h in
    (missing e.0 es both.0, apart_of es both.1)

-- What stands in a table

record Holds (k : List ℕ) (m : Meaning) (es : Table Meaning) : Type 0 where
  before : Table Meaning
  after : Table Meaning
  whole : es ≡ before ++ (k, m) ∷ after

in_first : (k : List ℕ) (m : Meaning) (xs ys : Table Meaning) → Holds k m xs → Holds k m (xs ++ ys)
in_first k m xs ys h =
    record { before = h.before; after = h.after ++ ys; whole = rw h.whole (append_assoc h.before _ ys) }

in_second : (k : List ℕ) (m : Meaning) (xs ys : Table Meaning) → Holds k m ys → Holds k m (xs ++ ys)
in_second k m xs ys h =
    record { before = xs ++ h.before; after = h.after; whole = rw h.whole (sym (append_assoc xs h.before _)) }

found : (k : List ℕ) (m : Meaning) (es : Table Meaning) → Holds k m es → AreApart es → look_up k es ≡ Some m
found k m es h a =
    let apart : AreApart (h.before ++ (k, m) ∷ h.after) = subst AreApart h.whole a in
    ap (look_up k) h.whole ∙ found_behind h.before k m h.after (is_new k m h.before h.after apart)

module _ {X : Type 0} (key : X → List ℕ) (mean : ℕ → X → Meaning) where
  held : (i n j : ℕ) (xs : List X) (x : X) → i + n ≡ j → slice_get xs n ≡ Some x
      → Holds (key x) (mean j x) (entries key mean i xs)
  held i n j [] x e h = absurd cc
  held i zero j (y ∷ xs) x e h =
      let same : y ≡ x = cc in
      let here : i ≡ j = omega arith in
      record { before = []; after = entries key mean (i + 1) xs; whole = rw (same, here) refl }
  held i (suc n) j (y ∷ xs) x e h =
      let r = held (i + 1) n j xs x (omega arith) h in
      record { before = (key y, mean i y) ∷ r.before; after = r.after; whole = rw r.whole refl }

-- Data blocks

abbrev key_of_block : ℕ → List ℕ
key_of_block n = key_of (codes "DB" ++ decimal n)

-- no data block has one of these keys
abbrev AreOther : Table Meaning → Type 0
AreOther = Each (λ (e : List ℕ × Meaning). (key : List ℕ) → names_block key ≡ true → is_same key e.0 ≡ false)

no_other : (k : List ℕ) (es : Table Meaning) → names_block k ≡ true → AreOther es → look_up k es ≡ None
no_other k [] h o = refl
no_other k (e ∷ es) h o = ap (λ t. cond t (Some e.1) (look_up k es)) (o.0 k h) ∙ no_other k es h o.1

others_of : {X : Type 0} (name : X → List ℕ) (mean : ℕ → X → Meaning) (i : ℕ) (xs : List X)
    → Each (λ x. IsOther (name x)) xs
    → AreOther (entries (λ x. key_of (name x)) mean i xs)
others_of name mean i [] h = tt
others_of name mean i (x ∷ xs) h = (λ key b. other_key key (name x) b h.0, others_of name mean (i + 1) xs h.1)

no_block : (n least : ℕ) (bs : List DataBlock) (rest : Table Meaning) → 1 ≤ n → n ≤ 65535 → n < least
    → Ascend least (numbers_of bs)
    → Each (λ (b : DataBlock). b.number ≤ 65535) bs → AreOther rest
    → look_up (key_of_block n) (block_entries bs ++ rest) ≡ None
no_block n least [] rest some small less a s o = no_other (key_of_block n) rest (block_key n some small) o
no_block n least (b ∷ bs) rest some small less a s o =
    let more : n < b.number = omega (arith, less, a.0) in
    ap (λ t. cond t (Some meaning.Block) (look_up (key_of_block n) (block_entries bs ++ rest)))
    (other_number n b.number some more s.0)
    ∙ no_block n (b.number + 1) bs rest some small (omega (arith, more)) a.1 s.1 o

blocks_apart : (least : ℕ) (bs : List DataBlock) (rest : Table Meaning) → 1 ≤ least → Ascend least (numbers_of bs)
    → Each (λ (b : DataBlock). b.number ≤ 65535) bs → AreOther rest → AreApart rest
    → AreApart (block_entries bs ++ rest)
blocks_apart least [] rest some a s o p = p
blocks_apart least (b ∷ bs) rest some a s o p =
    let one : 1 ≤ b.number = omega (arith, some, a.0) in (
      no_block b.number (b.number + 1) bs rest one s.0 (omega arith) a.1 s.1 o,
      blocks_apart (b.number + 1) bs rest (omega arith) a.1 s.1 o p,
    )

-- The names of a tree

module _ (t : StProgram) (p : Proper t) where
  abbrev IsUnit : Pou → Type 0
  IsUnit = IsProperUnit t.globals (map head_of t.pous)

  pub units_proper : Each IsUnit t.pous
  units_proper = each_of IsUnit t.pous p.units

  globals_proper : Each IsGlobal t.globals
  globals_proper = each_of IsGlobal t.globals p.globals

  abbrev named_entries : Table Meaning
  named_entries = located_entries 0 t.globals ++ unit_entries 0 t.pous

  are_other : AreOther named_entries
  are_other =
      each_append _ (located_entries 0 t.globals) (unit_entries 0 t.pous)
      (others_of (λ (l : Located). l.name) _ 0 t.globals
      (each_map IsGlobal (λ (l : Located). IsOther l.name) t.globals (λ l g. free_name l.name g.free) globals_proper))
      (others_of (λ (u : Pou). u.name) _ 0 t.pous
      (each_map IsUnit (λ (u : Pou). IsOther u.name) t.pous (λ u g. unit_name u.name g.free) units_proper))

  -- nothing is declared twice outside the units
  pub outer_apart : AreApart (outer_entries t)
  outer_apart =
      blocks_apart 1 t.dbs named_entries (omega arith) p.blocks.ascend
      (each_map IsDataBlock (λ (b : DataBlock). b.number ≤ 65535) t.dbs (λ b d. d.number)
      (each_of IsDataBlock t.dbs p.bytes))
      are_other (apart_of named_entries (ap tree.are_apart (named_keys t) ∙ p.apart))

-- The names in a unit

pub inner_apart : (u : Pou) → tree.are_apart (keys_of u.formals ++ keys_of u.locals) ≡ true → AreApart (inner_entries u)
inner_apart u h = apart_of (inner_entries u) (ap tree.are_apart (inner_keys u) ∙ h)

-- What a unit sees

-- what the statements of a unit may name, by what they name
abbrev pub unit_scope_by : Names → UnitScope
unit_scope_by names = record {
  globals = names.globals;
  heads = map head_of names.units;
  formals = names.formals;
  locals = names.locals;
}

-- a name that tokens can have, and what it means
abbrev pub Means : NameScope → List ℕ → Meaning → Type 0
Means s name m = (meaning_in s (key_of name) ≡ Some m) × (is_name name ≡ true)

-- a function that may be called
pub record Callable (s : NameScope) (i : ℕ) (u : Pou) : Type 0 where
  pub means : Means s u.name (meaning.Function i)
  pub formals : slice_get s.formals i ≡ Some (formals_in u)
  pub distinct : AreDistinct u.formals
  pub named : (j : ℕ) (l : Local) → slice_get u.formals j ≡ Some l → is_name l.name ≡ true

-- each position is found under its name
pub record Sees (s : NameScope) (names : Names) : Type 0 where
  pub formal : (i : ℕ) (l : Local) → slice_get names.formals i ≡ Some l → Means s l.name (meaning.Formal i l.ty)
  pub local : (i : ℕ) (l : Local) → slice_get names.locals i ≡ Some l → Means s l.name (meaning.Local i l.ty)
  pub global : (i : ℕ) (g : Located) → slice_get names.globals i ≡ Some g → is_seen (unit_scope_by names) g.name ≡ true
      → Means s g.name (meaning.Global i g.ty)
  pub function : (i : ℕ) (u : Pou) → slice_get names.units i ≡ Some u → u.program ≡ false
      → is_seen (unit_scope_by names) u.name ≡ true
      → Callable s i u

pub sees : (t : StProgram) (u : Pou) (s : NameScope) → Proper t → IsProperUnit t.globals (map head_of t.pous) u
    → s.inner ≡ inner_entries u → s.outer ≡ outer_entries t → s.formals ≡ map formals_in t.pous → Sees s (names_in t u)
sees t u s p h inner outer formals = record {
  formal = λ i l q.
      let f = each_at IsFormal u.formals i l (each_of IsFormal u.formals h.formals) q in (
        inside l.name (meaning.Formal i l.ty) (free_name l.name f.free)
            (in_first _ _ (formal_entries 0 u.formals) (local_entries 0 u.locals)
            (held {X = Local} (λ l. key_of l.name) (λ i l. meaning.Formal i l.ty) 0 i i u.formals l (omega arith) q)),
        spelled_name l.name f.name,
      );
  local = λ i l q.
      let f = each_at IsLocal u.locals i l (each_of IsLocal u.locals h.locals) q in (
        inside l.name (meaning.Local i l.ty) (local_name l.name f.free)
            (in_second _ _ (formal_entries 0 u.formals) (local_entries 0 u.locals)
            (held {X = Local} (λ l. key_of l.name) (λ i l. meaning.Local i l.ty) 0 i i u.locals l (omega arith) q)),
        spelled_name l.name f.name,
      );
  global = λ i g q seen.
      let f = each_at IsGlobal t.globals i g (globals_proper t p) q in (
        outside g.name (meaning.Global i g.ty) (free_name g.name f.free) seen
            (in_first _ _ (located_entries 0 t.globals) (unit_entries 0 t.pous)
            (held {X = Located} (λ l. key_of l.name) (λ i l. meaning.Global i l.ty) 0 i i t.globals g (omega arith) q)),
        spelled_name g.name f.name,
      );
  function = λ i v q no seen.
      let f = each_at (IsUnit t p) t.pous i v (units_proper t p) q in
      record {
        means = (
          outside v.name (meaning.Function i) (unit_name v.name f.free) seen
              (in_second _ _ (located_entries 0 t.globals) (unit_entries 0 t.pous)
              (subst (λ (b : Bool). Holds (key_of v.name) (meaning_of_unit i b) (unit_entries 0 t.pous)) no
              (held {X = Pou} (λ u. key_of u.name) (λ i u. meaning_of_unit i u.program) 0 i i t.pous v
              (omega arith) q))),
          spelled_name v.name f.name,
        );
        formals = ap (λ fs. slice_get fs i) formals ∙ mapped_at formals_in t.pous i v q;
        distinct = distinct_of 0 v.formals (local_entries 0 v.locals) (inner_apart v f.apart);
        named = λ j l e. spelled_name l.name
            (each_at IsFormal v.formals j l (each_of IsFormal v.formals f.formals) e).name;
      };
}
  where
    inside : (name : List ℕ) (m : Meaning) → IsOther name → Holds (key_of name) m (inner_entries u)
        → meaning_in s (key_of name) ≡ Some m
    inside name m o there =
        let here = ap (look_up (key_of name)) inner ∙ found _ m (inner_entries u) there (inner_apart u h.apart) in
        rw (o.register, here) refl

    outside : (name : List ℕ) (m : Meaning) → IsOther name → is_seen (unit_scope_by (names_in t u)) name ≡ true
        → Holds (key_of name) m (located_entries 0 t.globals ++ unit_entries 0 t.pous)
        → meaning_in s (key_of name) ≡ Some m
    outside name m o seen there =
        let hidden = ap (look_up (key_of name)) inner ∙ missing (key_of name) (inner_entries u)
        (ap (tree.is_new (key_of name)) (inner_keys u) ∙ seen) in
        let here = ap (look_up (key_of name)) outer ∙ found (key_of name) m (outer_entries t)
        (in_second _ _ (block_entries t.dbs) _ there) (outer_apart t p) in
        rw (o.register, hidden, here) refl
