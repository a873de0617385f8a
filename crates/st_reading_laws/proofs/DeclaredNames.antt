-- What names mean by the declarations of a tree, and that they mean the same in a text that has the tree.
use Rattle.st_tree.proofs.Common.{map, ◌≡◌, ◌+◌, ℕ, Bool, true, false, not, cond, ◌&&◌, nat_lt, List, [], ◌∷◌, ◌++◌, length, Option, Some, None, is_some, refl, sym, ap, subst, ◌∙◌, arith, length-append, ◌≤◌, ◌<◌, codes, decimal, fold, DataBlock, Area, AreaName, MOST_BLOCKS, Line, Reason, Width, width_at, rule_break, Break, Ascend, numbers_of, ltb-false, ltb-true, nat_list_eq_equiv, is_same, key_of, has_width, and_parts}
use Rattle.std.proofs.lemmas.List.{append-nil, append_assoc}
use Rattle.memory_areas.specs.declared.place.Area.TheVariants as place
use Rattle.memory_areas.specs.declared.place.AreaName.TheVariants as area
use Rattle.s7_base.specs.declared.word.Width.TheVariants as width
use Rattle.st_rules.proofs.Common.{StType, Local, Located, Pou, StProgram, RawGlobal, RawGlobalType, RawLocal, RawPou, RawVar, as_list, twice, all_inside, local_of, locals_of, meaning_of_unit, no_inside, one_if, one_too_many, with_formal, with_global, with_local, with_unit, all_global_breaks, all_located, area_of, block_at, block_breaks, block_number, block_of, contents, fits_type, global_breaks, has_block_address, has_block_form, insert_data_block, is_small_enough, located_at, located_of, with_block, Table, look_up, with_entry, is_address}
use Rattle.st_tree.specs.declared.expr.StType.TheVariants as st
use Rattle.st_tree.specs.declared.raw.RawGlobalType.TheVariants as type
use Rattle.st_tree.specs.declared.raw.RawVar.TheVariants as var
use Rattle.st_rules.specs.Globals.{has_address, unless}
use Rattle.st_rules.specs.declared.declaration.Inside.{Inside}
use Rattle.st_rules.specs.declared.declaration.Outside.{Outside}
use Rattle.st_names.specs.declared.scope.Meaning.{Meaning}
use Rattle.st_names.specs.declared.scope.Meaning.TheVariants as meaning
use Rattle.st_reading_laws.proofs.Apart.{AreApart, Lists, declared_between, declared_last, declares_new, not_twice}
use Rattle.st_reading_laws.proofs.BlockSizes.{IsBlock, is_block}
use Rattle.st_reading_laws.proofs.Lists.{Each, each_append, nil_first, nil_second}
use Rattle.st_reading_laws.proofs.PlainNumbers.{key_by_number}
use Rattle.st_reading_laws.proofs.Redeclared.{AreLocalsAt, AreUnitsAt, location_of, name_of_area}

-- What names mean

-- the names of data blocks
abbrev pub block_entries : List DataBlock → Table Meaning
block_entries [] = []
block_entries (b ∷ bs) = (key_of (codes "DB" ++ decimal b.number), meaning.Block) ∷ block_entries bs

-- each of some things under its key, by its position
abbrev pub entries : {X : Type 0} → (X → List ℕ) → (ℕ → X → Meaning) → ℕ → List X → Table Meaning
entries key mean i [] = []
entries key mean i (x ∷ xs) = (key x, mean i x) ∷ entries key mean (i + 1) xs

-- the names of other globals, of which so many stand before them
abbrev pub located_entries : ℕ → List Located → Table Meaning
located_entries i ls = entries (λ (l : Located). key_of l.name) (λ i (l : Located). meaning.Global i l.ty) i ls

-- the names of units
abbrev pub unit_entries : ℕ → List Pou → Table Meaning
unit_entries i ps = entries (λ (p : Pou). key_of p.name) (λ i (p : Pou). meaning_of_unit i p.program) i ps

-- all names outside the units of a tree
abbrev pub outer_entries : StProgram → Table Meaning
outer_entries t = block_entries t.dbs ++ (located_entries 0 t.globals ++ unit_entries 0 t.pous)

-- the names of formals and of locals
abbrev pub formal_entries : ℕ → List Local → Table Meaning
formal_entries i ls = entries (λ (l : Local). key_of l.name) (λ i (l : Local). meaning.Formal i l.ty) i ls

abbrev pub local_entries : ℕ → List Local → Table Meaning
local_entries i ls = entries (λ (l : Local). key_of l.name) (λ i (l : Local). meaning.Local i l.ty) i ls

-- all names in a unit
abbrev pub inner_entries : Pou → Table Meaning
inner_entries p = formal_entries 0 p.formals ++ local_entries 0 p.locals

blocks_joined : (xs ys : List DataBlock) → block_entries (xs ++ ys) ≡ block_entries xs ++ block_entries ys
blocks_joined [] ys = refl
blocks_joined (x ∷ xs) ys = ap (λ es. (key_of (codes "DB" ++ decimal x.number), meaning.Block) ∷ es) (blocks_joined xs ys)

-- one global more goes last
located_last : (i : ℕ) (ls : List Located) (l : Located)
    → located_entries i (ls ++ l ∷ []) ≡ located_entries i ls ++ (key_of l.name, meaning.Global (i + length ls) l.ty) ∷ []
located_last i [] l = let e : i ≡ i + 0 = omega arith in ap (λ n. (key_of l.name, meaning.Global n l.ty) ∷ []) e
located_last i (x ∷ ls) l =
    let e : i + 1 + length ls ≡ i + length (x ∷ ls) = omega arith in
    ap (λ es. (key_of x.name, meaning.Global i x.ty) ∷ es) (located_last (i + 1) ls l)
    ∙ ap (λ n. (key_of x.name, meaning.Global i x.ty) ∷ (located_entries (i + 1) ls ++ (key_of l.name, meaning.Global n l.ty) ∷ [])) e

-- Parts of a tree

-- each data block has a number and a size that one may have
abbrev pub AreNumbered : List DataBlock → Type 0
AreNumbered = Each (λ (b : DataBlock). IsBlock b.number b)

-- a global's own location is one that it may have
pub record IsPlaced (l : Located) : Type 0 where
  pub address : has_address (location_of l) ≡ true
  pub fits : fits_type l.ty (location_of l) ≡ true
  pub found : located_at l.name l.ty (location_of l) ≡ Some l

abbrev pub ArePlaced : List Located → Type 0
ArePlaced = Each IsPlaced

numbered_also : (b : DataBlock) (bs : List DataBlock) → IsBlock b.number b → AreNumbered bs → AreNumbered (insert_data_block b bs)
numbered_also b [] i h = (i, tt)
numbered_also b (c ∷ cs) i h =
    elim (nat_lt c.number b.number) as (λ t. AreNumbered (cond t (c ∷ insert_data_block b cs) (b ∷ c ∷ cs)))
    [ true ↦ (h.0, numbered_also b cs i h.1) | false ↦ (i, h) ]

-- one data block more
one_more : (b : DataBlock) (bs : List DataBlock) → length (insert_data_block b bs) ≡ length bs + 1
one_more b [] = refl
one_more b (c ∷ cs) = grind (arith, one_more b cs)

-- no data block has a number
abbrev AreOthers : ℕ → List DataBlock → Type 0
AreOthers n [] = Unit {0}
AreOthers n (b ∷ bs) = (b.number ≡ n → ⊥) × AreOthers n bs

-- a name that stands for nothing is that of no data block
no_block_of : (n : ℕ) (bs : List DataBlock) (rest : Table Meaning)
    → look_up (key_of (codes "DB" ++ decimal n)) (block_entries bs ++ rest) ≡ None → AreOthers n bs
no_block_of n [] rest h = tt
no_block_of n (b ∷ bs) rest h =
    let key : ℕ → List ℕ = λ m. key_of (codes "DB" ++ decimal m) in
    let differ : is_same (key n) (key b.number) ≡ false = grind arith in
    let own : is_same (key n) (key n) ≡ true = nat_list_eq_equiv.refl (key n) in
    (λ same. let equal = ap (λ m. is_same (key n) (key m)) same in absurd cc, no_block_of n bs rest (grind arith))

ascends : (least : ℕ) (b : DataBlock) (bs : List DataBlock) → least ≤ b.number → AreOthers b.number bs
    → Ascend least (numbers_of bs) → Ascend least (numbers_of (insert_data_block b bs))
ascends least b [] first o h = (first, tt)
ascends least b (c ∷ cs) first o h =
    (elim (nat_lt c.number b.number) as (λ t. nat_lt c.number b.number ≡ t → Ascend least (numbers_of (cond t (c ∷ insert_data_block b cs) (b ∷ c ∷ cs)))) [
      | true ↦ λ e. (h.0, ascends (c.number + 1) b cs (omega (arith, ltb-true c.number b.number e)) o.1 h.1)
      | false ↦ λ e. (first, (omega (arith, ltb-false c.number b.number e, o.0), h.1))
    ]) refl

-- where one data block more goes
record IsPut (b : DataBlock) (old new : List DataBlock) : Type 0 where
  before : List DataBlock
  after : List DataBlock
  whole : old ≡ before ++ after
  put : new ≡ before ++ b ∷ after

is_put : (b : DataBlock) (bs : List DataBlock) → IsPut b bs (insert_data_block b bs)
is_put b [] = record { before = []; after = []; whole = refl; put = refl }
is_put b (c ∷ cs) =
    let more = is_put b cs in
    elim (nat_lt c.number b.number) as (λ t. IsPut b (c ∷ cs) (cond t (c ∷ insert_data_block b cs) (b ∷ c ∷ cs))) [
      | true ↦ record { before = c ∷ more.before; after = more.after; whole = ap (λ l. c ∷ l) more.whole; put = ap (λ l. c ∷ l) more.put }
      | false ↦ record { before = []; after = c ∷ cs; whole = refl; put = refl }
    ]

-- Tests

holds : (t : Bool) (line : Line) (rule : Reason) → unless t (rule_break line rule) ≡ [] → t ≡ true
holds true line rule h = refl
holds false line rule h = absurd cc

-- Globals that are no data blocks

pub same_width : (ty : StType) (w : Width) → has_width ty w ≡ true → width_at ty ≡ w
same_width st.Bool width.Bit h = refl
same_width st.Byte width.Byte h = refl
same_width st.Word width.Word h = refl
same_width st.Dword width.Dword h = refl
same_width st.Int width.Word h = refl
same_width st.Dint width.Dword h = refl
same_width st.Lint width.Bit h = absurd cc
same_width ty w h = absurd cc

-- a global of a name and a type that has a place in the tree
record HasPlace (name : List ℕ) (ty : StType) (at : RawVar) : Type 0 where
  located : Located
  found : located_at name ty at ≡ Some located
  named : located.name ≡ name
  typed : located.ty ≡ ty
  placed : IsPlaced located

on_area : (name : List ℕ) (ty : StType) (a : AreaName) (r : Area) (w : Width) (byte bit : ℕ)
    → area_of a ≡ Some r → name_of_area r ≡ a → is_address a None w byte bit ≡ true
    → (is_some (area_of a) && has_width ty w) ≡ true → HasPlace name ty (var.Direct a None w byte bit)
on_area name ty a r w byte bit there back address fits =
    record {
      located = made;
      found = found;
      named = refl;
      typed = refl;
      placed = record { address = ap has_address own ∙ address; fits = ap (fits_type ty) own ∙ fits; found = ap (located_at name ty) own ∙ found };
    }
  where
    made : Located
    made = record { name = name; place = record { area = r; byte = byte; bit = bit }; ty = ty }

    wide : has_width ty w ≡ true
    wide = (and_parts (is_some (area_of a)) (has_width ty w) fits).1

    own : location_of made ≡ var.Direct a None w byte bit
    own = ap (λ b. var.Direct b None (width_at ty) byte bit) back ∙ ap (λ v. var.Direct a None v byte bit) (same_width ty w wide)

    found : located_at name ty (var.Direct a None w byte bit) ≡ Some made
    found = rw (address, wide, there) refl

has_place : (name : List ℕ) (ty : StType) (at : RawVar) → has_address at ≡ true → fits_type ty at ≡ true → HasPlace name ty at
has_place name ty (var.Name other) h g = absurd cc
has_place name ty (var.Direct a (Some n) w byte bit) h g = absurd cc
has_place name ty (var.Direct area.I None w byte bit) h g = on_area name ty area.I place.I w byte bit refl refl h g
has_place name ty (var.Direct area.Q None w byte bit) h g = on_area name ty area.Q place.Q w byte bit refl refl h g
has_place name ty (var.Direct area.M None w byte bit) h g = on_area name ty area.M place.M w byte bit refl refl h g
has_place name ty (var.Direct area.L None w byte bit) h g = absurd cc
has_place name ty other h g = absurd cc

-- Data blocks

-- where three tests break no rule, all hold
three_tests : {T : Type 0} (a b c : Bool) (line : Line) (p q r : Reason) (x : T)
    → unless a (rule_break line p) ++ (unless b (rule_break line q) ++ unless c (rule_break line r)) ≡ [] → cond (a && b && c) (Some x) None ≡ Some x
three_tests true true true line p q r x h = refl
three_tests a b c line p q r x h = absurd cc

has_block : (line : Line) (n : ℕ) (at : RawVar) (last : ℕ) (list : List (ℕ × ℕ)) → block_breaks line n at last list ≡ []
    → block_at n at last list ≡ Some (record { number = n; bytes = contents last list })
has_block line n at last list h =
    three_tests (has_block_address n at) (is_small_enough last) (has_block_form n at last list) line _ _ _ _ h

-- there is room for a new data block
has_room : (line : Line) (first : Option Meaning) (blocks : ℕ)
    → (twice line first ++ one_too_many line (not (is_some first) && true) blocks) ≡ [] → nat_lt blocks MOST_BLOCKS ≡ true
has_room line (Some m) blocks h = absurd cc
has_room line None blocks h = grind arith

-- Globals

-- where nothing is broken at the end, nothing was before
before_globals : (gs : List RawGlobal) (d : Outside) → (fold with_global d gs).breaks ≡ [] → d.breaks ≡ []
before_globals [] d e = e
before_globals (g ∷ gs) d e = nil_first d.breaks _ (before_globals gs (with_global d g) e)

-- what is known of the globals so far, and of the data blocks and other globals that they are in the tree
pub record Gathered (d : Outside) (bs : List DataBlock) (ls : List Located) : Type 0 where
  pub names : Lists d.names (block_entries bs ++ located_entries 0 ls)
  pub globals : d.globals ≡ length ls
  pub blocks : d.blocks ≡ length bs
  pub units : d.units ≡ 0
  pub numbered : AreNumbered bs
  pub ascend : Ascend 1 (numbers_of bs)
  pub few : length bs ≤ MOST_BLOCKS
  pub placed : ArePlaced ls

module _ (d : Outside) (bs : List DataBlock) (ls : List Located) (name : List ℕ) (line : Line) (at : RawVar) (so : Gathered d bs ls) where
  abbrev declaration : RawGlobalType → RawGlobal
  declaration ty = record { name = name; line = line; at = at; ty = ty }

  abbrev first : Option Meaning
  first = look_up (key_of name) d.names

  one_located : (ty : StType) → (with_global d (declaration (type.Plain ty))).breaks ≡ [] → HasPlace name ty at
      → Gathered (with_global d (declaration (type.Plain ty))) bs (ls ++ as_list (located_at name ty at))
  one_located ty e p =
      let blocks : d.blocks + one_if (not (is_some first) && false) ≡ length bs = grind (arith, so.blocks) in
      let count : d.globals + 1 ≡ length (ls ++ p.located ∷ []) = omega (arith, so.globals, length-append ls (p.located ∷ [])) in
      let once : twice line first ≡ [] = nil_first (twice line first) _ (nil_second d.breaks _ e) in
      let last : Lists (with_entry (key_of name) (meaning.Global d.globals ty) d.names)
      ((block_entries bs ++ located_entries 0 ls) ++ (key_of name, meaning.Global d.globals ty) ∷ []) =
      declared_last line (key_of name) (meaning.Global d.globals ty) d.names (block_entries bs ++ located_entries 0 ls) so.names once in
      let size : d.globals ≡ 0 + length ls = omega (arith, so.globals) in
      let entry : (key_of name, meaning.Global d.globals ty) ≡ (key_of p.located.name, meaning.Global (0 + length ls) p.located.ty) =
      rw (p.named, p.typed, size) refl in
      let order : (block_entries bs ++ located_entries 0 ls) ++ (key_of name, meaning.Global d.globals ty) ∷ []
      ≡ block_entries bs ++ located_entries 0 (ls ++ p.located ∷ []) =
      append_assoc (block_entries bs) (located_entries 0 ls) ((key_of name, meaning.Global d.globals ty) ∷ [])
      ∙ ap (λ x. block_entries bs ++ (located_entries 0 ls ++ x ∷ [])) entry ∙ ap (λ es. block_entries bs ++ es) (sym (located_last 0 ls p.located)) in
      rw p.found (record {
        names = subst (Lists (with_entry (key_of name) (meaning.Global d.globals ty) d.names)) order last;
        globals = count;
        blocks = blocks;
        units = so.units;
        numbered = so.numbered;
        ascend = so.ascend;
        few = so.few;
        placed = each_append IsPlaced ls (p.located ∷ []) so.placed (p.placed, tt);
      })

  one_block : (last : ℕ) (list : List (ℕ × ℕ)) → (with_global d (declaration (type.Bytes last list))).breaks ≡ []
      → block_at (block_number name) at last list ≡ Some (record { number = block_number name; bytes = contents last list })
      → Gathered (with_global d (declaration (type.Bytes last list))) (with_block (block_at (block_number name) at last list) bs) (ls ++ [])
  one_block last list e found =
      let n = block_number name in
      let b : DataBlock = record { number = n; bytes = contents last list } in
      let i : IsBlock n b = is_block (type.Bytes last list) name at b found in
      let both_nil = nil_second d.breaks _ e in
      let once : twice line first ≡ [] = nil_first (twice line first) _ both_nil in
      let room : nat_lt (length bs) MOST_BLOCKS ≡ true = ap (λ m. nat_lt m MOST_BLOCKS) (sym so.blocks) ∙ has_room line first d.blocks both_nil in
      let p = is_put b bs in
      let rest = located_entries 0 ls in
      let key : key_of name ≡ key_of (codes "DB" ++ decimal n) = key_by_number n name refl i.some i.small in
      let none : look_up (key_of (codes "DB" ++ decimal n)) (block_entries bs ++ rest) ≡ None =
      ap (λ k. look_up k (block_entries bs ++ rest)) (sym key) ∙ sym (so.names.same (key_of name)) ∙ not_twice line first once in
      let less : length bs < MOST_BLOCKS = ltb-true (length bs) MOST_BLOCKS room in
      let before : block_entries bs ++ rest ≡ block_entries p.before ++ (block_entries p.after ++ rest) =
      ap (λ xs. block_entries xs ++ rest) p.whole
      ∙ ap (λ es. es ++ rest) (blocks_joined p.before p.after)
      ∙ append_assoc (block_entries p.before) (block_entries p.after) rest in
      let after : block_entries p.before ++ (key_of name, meaning.Block) ∷ (block_entries p.after ++ rest) ≡ block_entries (insert_data_block b bs) ++ rest =
      ap (λ k. block_entries p.before ++ (k, meaning.Block) ∷ (block_entries p.after ++ rest)) key
      ∙ sym (append_assoc (block_entries p.before) (block_entries (b ∷ p.after)) rest)
      ∙ ap (λ es. es ++ rest) (sym (blocks_joined p.before (b ∷ p.after)))
      ∙ ap (λ xs. block_entries xs ++ rest) (sym p.put) in
      let put : Lists (with_entry (key_of name) meaning.Block d.names)
      (block_entries p.before ++ (key_of name, meaning.Block) ∷ (block_entries p.after ++ rest)) =
      declared_between line (key_of name) meaning.Block d.names (block_entries p.before)
      (block_entries p.after ++ rest) (subst (Lists d.names) before so.names) once in
      let count : d.blocks + one_if (not (is_some first) && true) ≡ length (insert_data_block b bs) = grind (arith, so.blocks, one_more b bs, once) in
      rw (found, room, append-nil ls) (record {
        names = subst (Lists (with_entry (key_of name) meaning.Block d.names)) after put;
        globals = omega (arith, so.globals);
        blocks = count;
        units = so.units;
        numbered = numbered_also b bs i so.numbered;
        ascend = ascends 1 b bs i.some (no_block_of n bs rest none) so.ascend;
        few = omega (arith, less, one_more b bs);
        placed = so.placed;
      })

  one_global : (ty : RawGlobalType) → (with_global d (declaration ty)).breaks ≡ [] → global_breaks ty line name at ≡ []
      → Gathered (with_global d (declaration ty)) (with_block (block_of ty name at) bs) (ls ++ as_list (located_of ty name at))
  one_global (type.Plain ty) e none =
      let address = holds (has_address at) line _ (nil_first _ _ none) in
      let fits = holds (fits_type ty at) line _ (nil_second (unless (has_address at) (rule_break line _)) _ none) in
      one_located ty e (has_place name ty at address fits)
  one_global (type.Bytes last list) e none = one_block last list e (has_block line (block_number name) at last list none)

pub gather : (gs : List RawGlobal) (d : Outside) (bs : List DataBlock) (ls : List Located)
    → Gathered d bs ls → (fold with_global d gs).breaks ≡ [] → all_global_breaks gs ≡ []
    → Gathered (fold with_global d gs) (fold (λ blocks (g : RawGlobal). with_block (block_of g.ty g.name g.at) blocks) bs gs) (ls ++ all_located gs)
gather [] d bs ls so e none = subst (Gathered d bs) (sym (append-nil ls)) so
gather (g ∷ gs) d bs ls so e none =
    let here = as_list (located_of g.ty g.name g.at) in
    let blocks = with_block (block_of g.ty g.name g.at) bs in
    let own = global_breaks g.ty g.line g.name g.at in
    let one = one_global d bs ls g.name g.line g.at so g.ty (before_globals gs (with_global d g) e) (nil_first own (all_global_breaks gs) none) in
    let more = gather gs (with_global d g) blocks (ls ++ here) one e (nil_second own (all_global_breaks gs) none) in
    subst (Gathered (fold with_global (with_global d g) gs) (fold (λ blocks (h : RawGlobal). with_block (block_of h.ty h.name h.at) blocks) blocks gs))
    (append_assoc ls here (all_located gs)) more

-- What is declared one after another, each under its key

module _ {D R X : Type 0} (with_one : D → R → D) (breaks : D → List Break) (names : D → Table Meaning) (count : D → ℕ)
    (line : R → Line) (made : R → X) (key : X → List ℕ) (mean : ℕ → X → Meaning)
    (noted : (d : D) (r : R) → breaks (with_one d r) ≡ breaks d ++ twice (line r) (look_up (key (made r)) (names d)))
    (named : (d : D) (r : R) → names (with_one d r) ≡ with_entry (key (made r)) (mean (count d) (made r)) (names d))
    (counted : (d : D) (r : R) → count (with_one d r) ≡ count d + 1) where
  abbrev entries_of : D → List R → Table Meaning
  entries_of d rs = entries key mean (count d) (map made rs)

  -- where nothing is broken at the end, nothing was before
  pub unbroken : (rs : List R) (d : D) → breaks (fold with_one d rs) ≡ [] → breaks d ≡ []
  unbroken [] d e = e
  unbroken (r ∷ rs) d e = nil_first (breaks d) _ (sym (noted d r) ∙ unbroken rs (with_one d r) e)

  -- where nothing is broken, each has its entry
  pub all_listed : (rs : List R) (d : D) (es : Table Meaning) → Lists (names d) es → breaks (fold with_one d rs) ≡ []
      → Lists (names (fold with_one d rs)) (es ++ entries_of d rs)
  all_listed [] d es l e = rw (append-nil es) l
  all_listed (r ∷ rs) d es l e =
      let entry : List ℕ × Meaning = (key (made r), mean (count d) (made r)) in
      let once = nil_second (breaks d) _ (sym (noted d r) ∙ unbroken rs (with_one d r) e) in
      let one = declared_last (line r) entry.0 entry.1 (names d) es l once in
      subst (Lists (names (fold with_one (with_one d r) rs)))
      (append_assoc es (entry ∷ []) (entries_of (with_one d r) rs)
      ∙ ap (λ n. es ++ entry ∷ entries key mean n (map made rs)) (counted d r))
      (all_listed rs (with_one d r) (es ++ entry ∷ []) (rw (named d r) one) e)

  -- where no key stands twice, nothing is broken, and the entries go after those before them
  pub all_new : (rs : List R) (d : D) (more : Table Meaning) → breaks d ≡ [] → AreApart (names d ++ (entries_of d rs ++ more))
      → (breaks (fold with_one d rs) ≡ []) × (names (fold with_one d rs) ++ more ≡ names d ++ (entries_of d rs ++ more))
  all_new [] d more sound apart = (sound, refl)
  all_new (r ∷ rs) d more sound apart =
      let behind = entries key mean (count d + 1) (map made rs) ++ more in
      let new = declares_new (line r) (key (made r)) (mean (count d) (made r)) (names d) behind apart in
      let rest = all_new rs (with_one d r) more (rw (noted d r, sound, new.once) refl) (rw (named d r, counted d r) new.apart) in
      (rest.0, rest.1 ∙ rw (named d r, counted d r) new.order)

-- Units

-- a unit with what a text declares of it
abbrev pub unit_made : RawPou → Pou
unit_made u = record { program = u.program; name = u.name; formals = locals_of u.formals; locals = locals_of u.locals; body = [] }

pub units_named : (i : ℕ) (ps : List Pou) (us : List RawPou) → AreUnitsAt ps us → unit_entries i (map unit_made us) ≡ unit_entries i ps
units_named i [] [] a = refl
units_named i (p ∷ ps) (u ∷ us) a = rw (a.0.named, a.0.program, units_named (i + 1) ps us a.1) refl
units_named i ps us a = absurd a

pub before_units : (us : List RawPou) (d : Outside) → (fold with_unit d us).breaks ≡ [] → d.breaks ≡ []
before_units = unbroken with_unit (λ d. d.breaks) (λ d. d.names) (λ d. d.units) (λ u. u.line) unit_made (λ p. key_of p.name)
    (λ i p. meaning_of_unit i p.program) (λ d u. refl) (λ d u. refl) (λ d u. refl)

pub gather_units : (ps : List Pou) (us : List RawPou) → AreUnitsAt ps us
    → (d : Outside) (es : Table Meaning) → Lists d.names es → (fold with_unit d us).breaks ≡ []
    → Lists (fold with_unit d us).names (es ++ unit_entries d.units ps)
gather_units ps us a d es l e = subst (λ own. Lists (fold with_unit d us).names (es ++ own)) (units_named d.units ps us a)
    (all_listed with_unit (λ d. d.breaks) (λ d. d.names) (λ d. d.units) (λ u. u.line) unit_made (λ p. key_of p.name)
    (λ i p. meaning_of_unit i p.program) (λ d u. refl) (λ d u. refl) (λ d u. refl) us d es l e)

-- Formals and locals

pub locals_again : (ls : List Local) (rs : List RawLocal) → AreLocalsAt ls rs → locals_of rs ≡ ls
locals_again [] [] a = refl
locals_again (l ∷ ls) (r ∷ rs) a = rw (a.0.named, a.0.typed, locals_again ls rs a.1) refl
locals_again ls rs a = absurd a

pub no_locals_before : (rs : List RawLocal) (d : Inside) → (fold with_formal d rs).locals ≡ d.locals
no_locals_before [] d = refl
no_locals_before (r ∷ rs) d = no_locals_before rs (with_formal d r)

pub gather_inside : (p : Pou) (u : RawPou) → AreLocalsAt p.formals u.formals → AreLocalsAt p.locals u.locals → (all_inside u.formals u.locals).breaks ≡ []
    → Lists (all_inside u.formals u.locals).names (inner_entries p)
gather_inside p u a b e =
    let d = fold with_formal no_inside u.formals in
    let before = unbroken with_local (λ d. d.breaks) (λ d. d.names) (λ d. d.locals) (λ r. r.line) local_of (λ l. key_of l.name)
    (λ i l. meaning.Local i l.ty) (λ d r. refl) (λ d r. refl) (λ d r. refl) u.locals d e in
    let formals = all_listed with_formal (λ d. d.breaks) (λ d. d.names) (λ d. d.formals) (λ r. r.line) local_of (λ l. key_of l.name)
    (λ i l. meaning.Formal i l.ty) (λ d r. refl) (λ d r. refl) (λ d r. refl) u.formals no_inside []
    (record { same = λ k. refl; apart = tt }) before in
    let locals = all_listed with_local (λ d. d.breaks) (λ d. d.names) (λ d. d.locals) (λ r. r.line) local_of (λ l. key_of l.name)
    (λ i l. meaning.Local i l.ty) (λ d r. refl) (λ d r. refl) (λ d r. refl) u.locals d (formal_entries 0 (locals_of u.formals)) formals e in
    subst (λ i. Lists (all_inside u.formals u.locals).names (formal_entries 0 p.formals ++ local_entries i p.locals)) (no_locals_before u.formals no_inside)
    (rw (locals_again p.formals u.formals a, locals_again p.locals u.locals b) at locals)
