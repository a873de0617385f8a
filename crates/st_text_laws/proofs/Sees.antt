-- What a scope says of a name stands where the unit of the tree sees it; and the variables of such a scope have
-- their types.
use Rattle.st_tree.proofs.Common.{◌≡◌, ℕ, Bool, true, false, ◌&&◌, cond, List, Option, Some, None, Ok, Err, refl, ap, subst, ◌∙◌, suc, ◌+◌, not, ◌||◌, [], ◌∷◌, ◌++◌, map, sym, arith, nat_le, slice_get, codes, decimal, AreaName, Width, and_parts, key_of, is_same, are_apart, is_block_number, type_of_register, where_true, type_of_width, Head, UnitScope, is_seen, type_inside, type_outside, variable_type, head_of, keys_of, unit_scope_in, list_any, Reg, DataBlock, outer_keys, names_in}
use Rattle.memory_areas.specs.declared.place.AreaName.TheVariants as area
use Rattle.s7_base.specs.declared.reason.Reason.TheVariants.{BadAddress}
use Rattle.st_text_laws.specs.Spelled.{is_variable}
use Rattle.st_lexer.specs.Spelled as written
use Rattle.st_reading_laws.proofs.Keyed.{AreDistinct}
use Rattle.st_tree.specs.Naming.{is_new}
use Rattle.st_rules.proofs.Common.{meaning_in, as_register, or_else, register_named, variable, variable_named, Table, look_up}
use Rattle.st_names.specs.Variables.{is_place, variable_of}
use Rattle.st_names.specs.declared.scope.Formals.{Formals}
use Rattle.st_names.specs.declared.scope.Meaning.{Meaning}
use Rattle.st_names.specs.declared.scope.Meaning.TheVariants as meaning
use Rattle.st_names.specs.declared.scope.NameScope.{NameScope}
use Rattle.st_names.specs.declared.variable.TypedVar.{TypedVar}
use Rattle.st_tree.specs.PlaceRules as places
use Rattle.st_lexer.proofs.Common.{StType, RawVar, Local, Located, Pou, StProgram}
use Rattle.st_tree.specs.declared.expr.Var.TheVariants as var
use Rattle.st_tree.specs.declared.raw.RawVar.TheVariants as raw
use Rattle.st_reading_laws.proofs.Declared.{keys_of_locals, types_of_locals, Declares, IsGlobalAt, IsLocalAt}
use Rattle.st_reading_laws.proofs.Lists.{Each, each_at, mapped_at, both_true}
use Rattle.st_reading_laws.proofs.Apart.{same_keys, AreApart, Lists}
use Rattle.st_reading_laws.proofs.EntryKeys.{inner_keys, keys_in, named_keys}
use Rattle.st_reading_laws.proofs.DeclaredNames.{block_entries, formal_entries, inner_entries, local_entries, located_entries, outer_entries, unit_entries}
use Rattle.st_reading_laws.proofs.DeclaredTree.{formals_in}
use Rattle.memory_areas.specs.Access as access
use Rattle.s7_base.specs.declared.word.Width.TheVariants as width
use Rattle.st_names.specs.Variables as rules_of_variables

-- a bit that tokens can have and that an address may have
bit_agrees : (w : Width) (bit : ℕ) → written.is_bit_of w bit ≡ true → nat_le bit 7 ≡ true → places.is_bit_of w bit ≡ true
bit_agrees width.Bit bit h g = g
bit_agrees width.Byte bit h g = h
bit_agrees other bit h g = h

-- a place that tokens can have, and that is an address, is one that a text may name
pub place_is : (a : AreaName) (w : Width) (byte bit : ℕ) → written.is_bit_of w bit ≡ true
    → rules_of_variables.is_place a w byte bit ≡ true → places.is_place a w byte bit ≡ true
place_is a w byte bit h g =
    let p = and_parts (access.is_byte_in a w byte) (nat_le bit 7) g in
    both_true (access.is_byte_in a w byte) (places.is_bit_of w bit)
    p.0 (bit_agrees w bit h p.1)

-- Scopes

-- a function that a unit may call, with its formals as the rules of texts see them
pub record IsCallable (scope : NameScope) (sight : UnitScope) (i : ℕ) : Type 0 where
  pub head : Head
  pub there : slice_get sight.heads i ≡ Some head
  pub function : head.program ≡ false
  pub seen : is_seen sight head.name ≡ true
  pub formals : Formals
  pub as_list : slice_get scope.formals i ≡ Some formals
  pub keys : formals.keys ≡ keys_of_locals head.formals
  pub types : formals.types ≡ types_of_locals head.formals
  pub distinct : AreDistinct head.formals

-- what names mean in a scope, a unit sees at the position and of the type that the meaning has
pub record Sees (scope : NameScope) (sight : UnitScope) : Type 0 where
  pub formal : (key : List ℕ) (i : ℕ) (ty : StType) → meaning_in scope key ≡ Some (meaning.Formal i ty)
      → type_inside (slice_get sight.formals i) ≡ Some ty
  pub local : (key : List ℕ) (i : ℕ) (ty : StType) → meaning_in scope key ≡ Some (meaning.Local i ty)
      → type_inside (slice_get sight.locals i) ≡ Some ty
  pub global : (key : List ℕ) (i : ℕ) (ty : StType) → meaning_in scope key ≡ Some (meaning.Global i ty)
      → type_outside sight (slice_get sight.globals i) ≡ Some ty
  pub function : (key : List ℕ) (i : ℕ) → meaning_in scope key ≡ Some (meaning.Function i) → IsCallable scope sight i

-- Variables

module _ (scope : NameScope) (sight : UnitScope) (sees : Sees scope sight) where
  -- a variable has its type
  abbrev pub Has : TypedVar → Type 0
  Has v = variable_type sight v.var ≡ Some v.ty

  of_meaning : (key : List ℕ) (m : Option Meaning) (v : TypedVar) → meaning_in scope key ≡ m → variable_named m ≡ Ok v
      → Has v
  of_meaning key (Some (meaning.Register r)) v e h =
      let is : record { ty = type_of_register r; var = var.Register r } ≡ v = cc in subst Has is refl
  of_meaning key (Some (meaning.Formal i ty)) v e h =
      let is : record { ty = ty; var = var.Formal i } ≡ v = cc in subst Has is (sees.formal key i ty e)
  of_meaning key (Some (meaning.Local i ty)) v e h =
      let is : record { ty = ty; var = var.Local i } ≡ v = cc in subst Has is (sees.local key i ty e)
  of_meaning key (Some (meaning.Global i ty)) v e h =
      let is : record { ty = ty; var = var.Global i } ≡ v = cc in subst Has is (sees.global key i ty e)
  of_meaning key other v e h = absurd cc

  plain_place : (a : AreaName) (w : Width) (byte bit : ℕ) (v : TypedVar) (t : Bool) → is_place a w byte bit ≡ t
      → written.is_place a None w byte bit ≡ true
      → cond t (variable_of (type_of_width w) (var.Direct a byte bit w)) (Err BadAddress) ≡ Ok v → Has v
  plain_place a w byte bit v false e s h = absurd cc
  plain_place a w byte bit v true e s h =
      let bits : written.is_bit_of w bit ≡ true = (and_parts (written.is_kept byte) (written.is_bit_of w bit) s).1 in
      let is : record { ty = type_of_width w; var = var.Direct a byte bit w } ≡ v = cc in
      subst Has is (ap (λ t. where_true t (type_of_width w)) (place_is a w byte bit bits e))

  block_place : (a : AreaName) (n : ℕ) (w : Width) (byte bit : ℕ) (v : TypedVar) (t : Bool)
      → (is_block_number n && is_place area.Db w byte bit) ≡ t → written.is_place a (Some n) w byte bit ≡ true
      → cond t (variable_of (type_of_width w) (var.InBlock n byte bit w)) (Err BadAddress) ≡ Ok v → Has v
  block_place a n w byte bit v false e s h = absurd cc
  block_place a n w byte bit v true e s h =
      let bits : written.is_bit_of w bit ≡ true =
      (and_parts (written.is_block_of a (Some n) && written.is_kept byte) (written.is_bit_of w bit) s).1 in
      let parts = and_parts (is_block_number n) (is_place area.Db w byte bit) e in
      let place : places.is_place area.Db w byte bit ≡ true = place_is area.Db w byte bit bits parts.1 in
      let is : record { ty = type_of_width w; var = var.InBlock n byte bit w } ≡ v = cc in
      subst Has is (rw (parts.0, place) refl)

  -- a variable that was read has its type
  pub variable_has : (r : RawVar) (v : TypedVar) → is_variable r ≡ true → variable scope r ≡ Ok v → Has v
  variable_has (raw.Name name) v s h = of_meaning (key_of name) (meaning_in scope (key_of name)) v refl h
  variable_has (raw.Direct a None w byte bit) v s h = plain_place a w byte bit v (is_place a w byte bit) refl s h
  variable_has (raw.Direct a (Some n) w byte bit) v s h =
      block_place a n w byte bit v (is_block_number n && is_place area.Db w byte bit) refl s h

-- Where no name is declared twice: keys are apart, and what names mean in a unit, the unit sees

-- The keys of tables

new_of : (k : List ℕ) (es : Table Meaning) → look_up k es ≡ None → is_new k (keys_in es) ≡ true
new_of k [] h = refl
new_of k (e ∷ es) h = by (is_same k e.0) (new_of k es) h
  where
    by : (t : Bool) → (look_up k es ≡ None → is_new k (keys_in es) ≡ true) → cond t (Some e.1) (look_up k es) ≡ None
        → not (t || list_any (λ other. is_same k other) (keys_in es)) ≡ true
    by true more q = absurd cc
    by false more q = more q

apart_of : (es : Table Meaning) → AreApart es → are_apart (keys_in es) ≡ true
apart_of [] a = refl
apart_of (e ∷ es) a = both_true (is_new e.0 (keys_in es)) (are_apart (keys_in es)) (new_of e.0 es a.0) (apart_of es a.1)

apart_behind : (xs ys : Table Meaning) → AreApart (xs ++ ys) → AreApart ys
apart_behind [] ys a = a
apart_behind (x ∷ xs) ys a = apart_behind xs ys a.1

-- the keys of a unit's formals and locals are apart
pub inner_apart : (p : Pou) → AreApart (inner_entries p) → are_apart (keys_of p.formals ++ keys_of p.locals) ≡ true
inner_apart p a = subst (λ ks. are_apart ks ≡ true) (inner_keys p) (apart_of (inner_entries p) a)

-- and so are those of globals and units
pub outer_apart : (t : StProgram) → AreApart (outer_entries t) → are_apart (outer_keys t) ≡ true
outer_apart t a =
    let es = located_entries 0 t.globals ++ unit_entries 0 t.pous in
    subst (λ ks. are_apart ks ≡ true) (named_keys t) (apart_of es (apart_behind (block_entries t.dbs) es a))

-- What a name means

-- a formal or a local
abbrev IsInner : Meaning → Type 0
IsInner (meaning.Formal i ty) = Unit {0}
IsInner (meaning.Local i ty) = Unit {0}
IsInner other = ⊥

-- what stands under a key is in the first entry, or in the others
pub by_entry : {V C : Type 0} (k key : List ℕ) (first v : V) (others : Option V) → (is_same k key ≡ true → first ≡ v → C) → (others ≡ Some v → C)
    → cond (is_same k key) (Some first) others ≡ Some v → C
by_entry {V} {C} k key first v others here more = by (is_same k key) refl
  where
    by : (t : Bool) → is_same k key ≡ t → cond t (Some first) others ≡ Some v → C
    by true s q = here s cc
    by false s q = more q

local_means : (i : ℕ) (ls : List Local) (k : List ℕ) (m : Meaning) → look_up k (local_entries i ls) ≡ Some m → IsInner m
local_means i [] k m h = absurd cc
local_means i (l ∷ ls) k m h =
    by_entry k (key_of l.name) (meaning.Local i l.ty) m _ (λ s e. subst IsInner e tt) (local_means (i + 1) ls k m) h

inner_means : (i : ℕ) (ls : List Local) (rest : Table Meaning) (k : List ℕ) (m : Meaning)
    → (look_up k rest ≡ Some m → IsInner m) → look_up k (formal_entries i ls ++ rest) ≡ Some m → IsInner m
inner_means i [] rest k m f h = f h
inner_means i (l ∷ ls) rest k m f h =
    by_entry k (key_of l.name) (meaning.Formal i l.ty) m _ (λ s e. subst IsInner e tt) (inner_means (i + 1) ls rest k m f) h

-- a global or a unit
abbrev IsOuter : Meaning → Type 0
IsOuter (meaning.Global i ty) = Unit {0}
IsOuter (meaning.Function i) = Unit {0}
IsOuter other = ⊥

not_both : (m : Meaning) → IsOuter m → IsInner m → ⊥
not_both (meaning.Global i ty) h g = g
not_both (meaning.Function i) h g = g
not_both m h g = h

no_register : (r : Reg) (m : Meaning) → IsOuter m → Some (meaning.Register r) ≡ Some m → ⊥
no_register r m h e = let same : meaning.Register r ≡ m = cc in subst IsOuter (sym same) h

-- a name that means something outside is no name inside
record IsOutside (p : Pou) (outer : Table Meaning) (key : List ℕ) (m : Meaning) : Type 0 where
  hidden : look_up key (inner_entries p) ≡ None
  there : look_up key outer ≡ Some m

outside : (p : Pou) (outer : Table Meaning) (key : List ℕ) (m : Meaning) (r : Option Reg) (i o : Option Meaning) → IsOuter m
    → look_up key (inner_entries p) ≡ i → look_up key outer ≡ o → or_else (as_register r) (or_else i o) ≡ Some m → IsOutside p outer key m
outside p outer key m (Some r) i o h a b e = absurd (no_register r m h e)
outside p outer key m None (Some n) o h a b e =
    absurd (not_both m h (inner_means 0 p.formals (local_entries 0 p.locals) key m
    (λ q. local_means 0 p.locals key m q) (a ∙ e)))
outside p outer key m None None o h a b e = record { hidden = a; there = b ∙ e }

-- a name that stands for nothing inside is seen
seen_of : (sight : UnitScope) (p : Pou) (key name : List ℕ) → sight.formals ≡ p.formals → sight.locals ≡ p.locals
    → look_up key (inner_entries p) ≡ None → key_of name ≡ key → is_seen sight name ≡ true
seen_of sight p key name f l h e =
    let keys : keys_in (inner_entries p) ≡ keys_of sight.formals ++ keys_of sight.locals =
    inner_keys p ∙ ap (λ ls. keys_of ls ++ keys_of p.locals) (sym f) ∙ ap (λ ls. keys_of sight.formals ++ keys_of ls) (sym l) in
    ap (λ k. is_new k (keys_of sight.formals ++ keys_of sight.locals)) e
    ∙ subst (λ ks. is_new key ks ≡ true) keys (new_of key (inner_entries p) h)

-- Units

-- the function that a key means
record IsUnit (ps : List Pou) (j i : ℕ) (key : List ℕ) : Type 0 where
  n : ℕ
  place : i ≡ j + n
  p : Pou
  there : slice_get ps n ≡ Some p
  function : p.program ≡ false
  named : key_of p.name ≡ key

past_blocks : (bs : List DataBlock) (rest : Table Meaning) (k : List ℕ) (i : ℕ)
    → look_up k (block_entries bs ++ rest) ≡ Some (meaning.Function i) → look_up k rest ≡ Some (meaning.Function i)
past_blocks [] rest k i h = h
past_blocks (b ∷ bs) rest k i h =
    by_entry k (key_of (codes "DB" ++ decimal b.number)) meaning.Block (meaning.Function i) _ (λ s e. absurd cc) (past_blocks bs rest k i) h

past_globals : (j : ℕ) (gs : List Located) (rest : Table Meaning) (k : List ℕ) (i : ℕ)
    → look_up k (located_entries j gs ++ rest) ≡ Some (meaning.Function i) → look_up k rest ≡ Some (meaning.Function i)
past_globals j [] rest k i h = h
past_globals j (g ∷ gs) rest k i h =
    by_entry k (key_of g.name) (meaning.Global j g.ty) (meaning.Function i) _ (λ s e. absurd cc) (past_globals (j + 1) gs rest k i) h

unit_found : (j : ℕ) (ps : List Pou) (k : List ℕ) (i : ℕ) → look_up k (unit_entries j ps) ≡ Some (meaning.Function i) → IsUnit ps j i k
unit_found j [] k i h = absurd cc
unit_found j (p ∷ ps) k i h = by (is_same k (key_of p.name)) p.program refl refl (unit_found (j + 1) ps k i) h
  where
    by : (t u : Bool) → is_same k (key_of p.name) ≡ t → p.program ≡ u
        → (look_up k (unit_entries (j + 1) ps) ≡ Some (meaning.Function i) → IsUnit ps (j + 1) i k)
        → cond t (Some (cond u meaning.Program (meaning.Function j))) (look_up k (unit_entries (j + 1) ps)) ≡ Some (meaning.Function i) → IsUnit (p ∷ ps) j i k
    by true true e f more q = absurd cc
    by true false e f more q =
        let same : j ≡ i = cc in
        record { n = 0; place = omega (arith, same); p = p; there = refl; function = f; named = sym (same_keys k (key_of p.name) e) }
    by false u e f more q =
        let r = more q in
        record { n = suc r.n; place = omega (arith, r.place); p = r.p; there = r.there; function = r.function; named = r.named }

-- What a unit sees

inside_of : (key : List ℕ) (ty : StType) (o : Option Local) → IsLocalAt key ty o → type_inside o ≡ Some ty
inside_of key ty None h = absurd h
inside_of key ty (Some l) h = ap (λ t. Some t) h.1

global_of : (sight : UnitScope) (p : Pou) (key : List ℕ) (ty : StType) (o : Option Located) → sight.formals ≡ p.formals → sight.locals ≡ p.locals
    → look_up key (inner_entries p) ≡ None → IsGlobalAt key ty o → type_outside sight o ≡ Some ty
global_of sight p key ty None f l n h = absurd h
global_of sight p key ty (Some g) f l n h =
    ap (λ b. where_true b g.ty) (seen_of sight p key g.name f l n h.0) ∙ ap (λ t. Some t) h.1

module _ (t : StProgram) (p : Pou) (scope : NameScope) (inner : Lists scope.inner (inner_entries p)) (outer : Lists scope.outer (outer_entries t))
    (formals : scope.formals ≡ map formals_in t.pous) (keys : Each (λ (u : Pou). AreDistinct u.formals) t.pous) (declares : Declares scope (names_in t p)) where
  is_outside : (key : List ℕ) (m : Meaning) → IsOuter m → meaning_in scope key ≡ Some m → IsOutside p (outer_entries t) key m
  is_outside key m o h =
      outside p (outer_entries t) key m (register_named key) (look_up key scope.inner)
      (look_up key scope.outer) o (sym (inner.same key)) (sym (outer.same key)) h

  function_of : (key : List ℕ) (i : ℕ) → meaning_in scope key ≡ Some (meaning.Function i) → IsCallable scope (unit_scope_in t p) i
  function_of key i h =
      let out = is_outside key (meaning.Function i) tt h in
      let u = unit_found 0 t.pous key i (past_globals 0 t.globals (unit_entries 0 t.pous) key i
      (past_blocks t.dbs (located_entries 0 t.globals ++ unit_entries 0 t.pous) key i out.there)) in
      let place : u.n ≡ i = omega (arith, u.place) in
      let there : slice_get t.pous i ≡ Some u.p = ap (slice_get t.pous) (sym place) ∙ u.there in
      record {
        head = head_of u.p;
        there = mapped_at head_of t.pous i u.p there;
        function = u.function;
        seen = seen_of (unit_scope_in t p) p key u.p.name refl refl out.hidden u.named;
        formals = formals_in u.p;
        as_list = ap (λ (fs : List Formals). slice_get fs i) formals ∙ mapped_at formals_in t.pous i u.p there;
        keys = refl;
        types = refl;
        distinct = each_at (λ (u : Pou). AreDistinct u.formals) t.pous i u.p keys there;
      }

  -- what names mean in a unit, it sees
  pub unit_sees : Sees scope (unit_scope_in t p)
  unit_sees = record {
    formal = λ key i ty h. inside_of key ty (slice_get p.formals i) (declares.formal key i ty h);
    local = λ key i ty h. inside_of key ty (slice_get p.locals i) (declares.local key i ty h);
    global =
        λ key i ty h. global_of (unit_scope_in t p) p key ty (slice_get t.globals i) refl refl
        (is_outside key (meaning.Global i ty) tt h).hidden (declares.global key i ty h);
    function = λ key i h. function_of key i h;
  }
