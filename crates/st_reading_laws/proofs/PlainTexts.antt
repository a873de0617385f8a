-- A text that declares what a tree has breaks no rule in its declarations, and has the tree's data blocks and
-- globals again.
use Rattle.st_tree.proofs.Common.{map, ◌≡◌, ◌≤◌, ◌+◌, ◌-◌, ℕ, suc, Bool, true, false, not, ◌&&◌, ◌==◌, nat_le, nat_lt, List, [], ◌∷◌, ◌++◌, length, Option, Some, is_some, refl, sym, ap, subst, ◌∙◌, arith, length-append, codes, decimal, fold, nat_tests, flat_map-append, fold-append, Ascend, numbers_of, DataBlock, MOST_BLOCKS, Line, key_of, is_block_number}
use Rattle.std.proofs.lemmas.List.{append-nil, append_assoc}
use Rattle.memory_areas.specs.declared.place.AreaName.TheVariants as area
use Rattle.s7_base.specs.declared.word.Width.TheVariants as width
use Rattle.st_rules.proofs.Common.{Located, Pou, RawGlobal, RawPou, RawVar, as_list, all_inside, all_outside, local_of, locals_of, meaning_of_unit, no_inside, no_outside, one_if, one_too_many, with_formal, with_global, with_local, with_unit, all_blocks, all_global_breaks, all_located, block_at, block_breaks, block_number, block_of, contents, fills, global_breaks, has_block_address, has_block_form, insert_data_block, is_small_enough, located_of, total, with_block, Table, look_up}
use Rattle.st_tree.specs.declared.raw.RawGlobalType.TheVariants as type
use Rattle.st_tree.specs.declared.raw.RawVar.TheVariants as var
use Rattle.st_rules.specs.Declarations.{is_block, meaning_of_global}
use Rattle.st_rules.specs.declared.declaration.Outside.{Outside}
use Rattle.st_names.specs.declared.scope.Meaning.{Meaning}
use Rattle.st_names.specs.declared.scope.Meaning.TheVariants as meaning
use Rattle.st_reading_laws.proofs.Apart.{AreApart, declares_new}
use Rattle.st_reading_laws.proofs.BlockSizes.{IsBlock}
use Rattle.st_reading_laws.proofs.DeclaredNames.{AreNumbered, ArePlaced, all_new, block_entries, inner_entries, local_entries, located_entries, locals_again, no_locals_before, unit_entries, unit_made, units_named}
use Rattle.st_reading_laws.proofs.PlainNumbers.{plain_number}
use Rattle.st_reading_laws.proofs.Redeclared.{AreBlocksAt, AreLocalsAt, AreLocatedAt, AreUnitsAt, IsBlockAt}

-- One data block

-- where its own byte 0 is
abbrev start_of : ℕ → RawVar
start_of n = var.Direct area.Db (Some n) width.Byte 0 0

is_filled : (last : ℕ) (list : List (ℕ × ℕ)) → total list ≡ last + 1 → fills last list ≡ true
is_filled last [] h = refl
is_filled last (run ∷ runs) h = grind (arith, nat_tests)

-- a data block of its own number breaks no rule and is itself in the tree
record IsAgain (b : DataBlock) (g : RawGlobal) : Type 0 where
  again : block_of g.ty g.name g.at ≡ Some b
  sound : global_breaks g.ty g.line g.name g.at ≡ []
  key : key_of g.name ≡ key_of (codes "DB" ++ decimal b.number)
  last : ℕ
  list : List (ℕ × ℕ)
  typed : g.ty ≡ type.Bytes last list

plain_block : (b : DataBlock) (last : ℕ) (list : List (ℕ × ℕ)) → IsBlock b.number b
    → last ≡ length b.bytes - 1 → contents last list ≡ b.bytes → total list ≡ length b.bytes
    → (block_at b.number (start_of b.number) last list ≡ Some b) × ((line : Line) → block_breaks line b.number (start_of b.number) last list ≡ [])
plain_block b last list i greatest bytes size =
    let number : is_block_number b.number ≡ true = grind (arith, nat_tests) in
    let address : has_block_address b.number (start_of b.number) ≡ true = rw number refl in
    let least = i.sized.0 in
    let most = i.sized.1 in
    let small : is_small_enough last ≡ true = grind (arith, nat_tests) in
    let own : (b.number == b.number) ≡ true = grind (arith, nat_tests) in
    let some : nat_le 1 last ≡ true = grind (arith, nat_tests) in
    let filled : fills last list ≡ true = is_filled last list (omega (arith, size, greatest, least)) in
    let form : has_block_form b.number (start_of b.number) last list ≡ true = rw (own, some, filled) refl in
    let same : Some (record { number = b.number; bytes = contents last list }) ≡ Some b =
    ap (λ (l : List ℕ). Some (record { number = b.number; bytes = l })) bytes in
    (rw (address, small, form) same, λ line. rw (address, small, form) refl)

block_again : (b : DataBlock) (g : RawGlobal) → IsBlock b.number b → IsBlockAt b g → IsAgain b g
block_again b g i p =
    let number : block_number g.name ≡ b.number = ap block_number p.named ∙ plain_number b.number i.some i.small in
    let parts = plain_block b p.last p.list i p.greatest p.bytes p.size in
    record {
      again = rw (p.typed, number, p.placed) parts.0;
      sound = rw (p.typed, number, p.placed) (parts.1 g.line);
      key = ap key_of p.named;
      last = p.last;
      list = p.list;
      typed = p.typed;
    }

-- All data blocks

-- where the numbers of data blocks ascend, each goes last
number_behind : (least : ℕ) (xs : List DataBlock) (b : DataBlock) (ys : List DataBlock) → Ascend least (numbers_of (xs ++ b ∷ ys)) → least ≤ b.number
number_behind least [] b ys h = h.0
number_behind least (x ∷ xs) b ys h = let more : x.number + 1 ≤ b.number = number_behind (x.number + 1) xs b ys h.1 in omega (arith, h.0, more)

goes_last : (least : ℕ) (xs : List DataBlock) (b : DataBlock) (ys : List DataBlock)
    → Ascend least (numbers_of (xs ++ b ∷ ys)) → insert_data_block b xs ≡ xs ++ b ∷ []
goes_last least [] b ys h = refl
goes_last least (x ∷ xs) b ys h =
    grind (arith, nat_tests, number_behind (x.number + 1) xs b ys h.1, goes_last (x.number + 1) xs b ys h.1)

blocks_again : (bs : List DataBlock) (gs : List RawGlobal) → AreBlocksAt bs gs → AreNumbered bs → (old : List DataBlock) → Ascend 1 (numbers_of (old ++ bs))
    → length old + length bs ≤ MOST_BLOCKS → fold (λ blocks (g : RawGlobal). with_block (block_of g.ty g.name g.at) blocks) old gs ≡ old ++ bs
blocks_again [] [] a n old h few = sym (append-nil old)
blocks_again (b ∷ bs) (g ∷ gs) a n old h few =
    let i = block_again b g n.0 a.0 in
    let room : nat_lt (length old) MOST_BLOCKS ≡ true = grind (arith, nat_tests) in
    let one : with_block (block_of g.ty g.name g.at) old ≡ old ++ b ∷ [] = rw (i.again, room) (goes_last 1 old b bs h) in
    let order : (old ++ b ∷ []) ++ bs ≡ old ++ b ∷ bs = append_assoc old (b ∷ []) bs in
    let ascend : Ascend 1 (numbers_of ((old ++ b ∷ []) ++ bs)) = subst (λ l. Ascend 1 (numbers_of l)) (sym order) h in
    ap (λ blocks. fold (λ more (f : RawGlobal). with_block (block_of f.ty f.name f.at) more) blocks gs) one
    ∙ blocks_again bs gs a.1 n.1 (old ++ b ∷ []) ascend (omega (arith, few, length-append old (b ∷ []))) ∙ order
blocks_again bs gs a n old h few = absurd a

no_located : (bs : List DataBlock) (gs : List RawGlobal) → AreBlocksAt bs gs → all_located gs ≡ []
no_located [] [] a = refl
no_located (b ∷ bs) (g ∷ gs) a = ap (λ t. as_list (located_of t g.name g.at) ++ all_located gs) a.0.typed ∙ no_located bs gs a.1
no_located bs gs a = absurd a

sound_blocks : (bs : List DataBlock) (gs : List RawGlobal) → AreBlocksAt bs gs → AreNumbered bs → all_global_breaks gs ≡ []
sound_blocks [] [] a n = refl
sound_blocks (b ∷ bs) (g ∷ gs) a n = ap (λ l. l ++ all_global_breaks gs) (block_again b g n.0 a.0).sound ∙ sound_blocks bs gs a.1 n.1
sound_blocks bs gs a n = absurd a

-- Other globals

located_again : (ls : List Located) (gs : List RawGlobal) → AreLocatedAt ls gs → ArePlaced ls → all_located gs ≡ ls
located_again [] [] a p = refl
located_again (l ∷ ls) (g ∷ gs) a p =
    rw (a.0.typed, a.0.named, a.0.placed, p.0.found) (ap (λ xs. l ∷ xs) (located_again ls gs a.1 p.1))
located_again ls gs a p = absurd a

no_blocks : (ls : List Located) (gs : List RawGlobal) → AreLocatedAt ls gs → (bs : List DataBlock)
    → fold (λ blocks (g : RawGlobal). with_block (block_of g.ty g.name g.at) blocks) bs gs ≡ bs
no_blocks [] [] a bs = refl
no_blocks (l ∷ ls) (g ∷ gs) a bs = rw a.0.typed (no_blocks ls gs a.1 bs)
no_blocks ls gs a bs = absurd a

sound_located : (ls : List Located) (gs : List RawGlobal) → AreLocatedAt ls gs → ArePlaced ls → all_global_breaks gs ≡ []
sound_located [] [] a p = refl
sound_located (l ∷ ls) (g ∷ gs) a p =
    rw (a.0.typed, a.0.placed, p.0.address, p.0.fits) (sound_located ls gs a.1 p.1)
sound_located ls gs a p = absurd a

-- What is declared outside the units

-- some declarations more break no rule, and their names go after those before them
record Goes (d e : Outside) (entries more : Table Meaning) : Type 0 where
  sound : e.breaks ≡ []
  order : e.names ++ more ≡ d.names ++ (entries ++ more)
  units : e.units ≡ d.units

-- one global more
one_goes : (d : Outside) (g : RawGlobal) (k : List ℕ) (m : Meaning) (more : Table Meaning)
    → d.breaks ≡ [] → key_of g.name ≡ k → meaning_of_global d.globals g.ty ≡ m
    → ((x : Option Meaning) → one_too_many g.line (not (is_some x) && is_block g.ty) d.blocks ≡ [])
    → AreApart (d.names ++ (k, m) ∷ more) → Goes d (with_global d g) ((k, m) ∷ []) more
one_goes d g k m more sound key meant room apart =
    let first = look_up (key_of g.name) d.names in
    let own = meaning_of_global d.globals g.ty in
    let entry : (key_of g.name, own) ≡ (k, m) = ap (λ l. (l, own)) key ∙ ap (λ n. (k, n)) meant in
    let new = declares_new g.line (key_of g.name) own d.names more (subst (λ e. AreApart (d.names ++ e ∷ more)) (sym entry) apart) in
    record { sound = rw (sound, new.once, room first) refl; order = new.order ∙ ap (λ e. d.names ++ e ∷ more) entry; units = refl }

roomy : (x : Option Meaning) (t : Bool) (line : Line) (blocks : ℕ) → nat_lt blocks MOST_BLOCKS ≡ true → one_too_many line (not (is_some x) && t) blocks ≡ []
roomy x t line blocks h = grind arith

no_block : (x : Option Meaning) (line : Line) (blocks : ℕ) → one_too_many line (not (is_some x) && false) blocks ≡ []
no_block x line blocks = grind arith

-- one data block more is one at most
grown : (x : Option Meaning) (t : Bool) (blocks rest most : ℕ) → blocks + suc rest ≤ most → blocks + one_if (not (is_some x) && t) + rest ≤ most
grown x t blocks rest most h = grind arith

go_blocks : (bs : List DataBlock) (gs : List RawGlobal) → AreBlocksAt bs gs → AreNumbered bs → (d : Outside) (more : Table Meaning) → d.breaks ≡ []
    → AreApart (d.names ++ (block_entries bs ++ more)) → d.blocks + length bs ≤ MOST_BLOCKS
    → Goes d (fold with_global d gs) (block_entries bs) more × ((fold with_global d gs).globals ≡ d.globals)
go_blocks [] [] a n d more sound apart few = (record { sound = sound; order = refl; units = refl }, refl)
go_blocks (b ∷ bs) (g ∷ gs) a n d more sound apart few =
    let i = block_again b g n.0 a.0 in
    let room : nat_lt d.blocks MOST_BLOCKS ≡ true = grind (arith, nat_tests) in
    let count : (with_global d g).globals ≡ d.globals = ap (λ t. d.globals + one_if (not (is_block t))) i.typed ∙ omega arith in
    let one =
    one_goes d g (key_of (codes "DB" ++ decimal b.number)) meaning.Block (block_entries bs ++ more) sound i.key (ap (meaning_of_global d.globals) i.typed)
    (λ x. roomy x (is_block g.ty) g.line d.blocks room) apart in
    let rest = go_blocks bs gs a.1 n.1 (with_global d g) more one.sound (subst AreApart (sym one.order) apart)
    (grown (look_up (key_of g.name) d.names) (is_block g.ty) d.blocks (length bs) MOST_BLOCKS few) in
    (record { sound = rest.0.sound; order = rest.0.order ∙ one.order; units = rest.0.units ∙ one.units }, rest.1 ∙ count)
go_blocks bs gs a n d more sound apart few = absurd a

go_located : (ls : List Located) (gs : List RawGlobal) → AreLocatedAt ls gs → (d : Outside) (more : Table Meaning) → d.breaks ≡ []
    → AreApart (d.names ++ (located_entries d.globals ls ++ more)) → Goes d (fold with_global d gs) (located_entries d.globals ls) more
go_located [] [] a d more sound apart = record { sound = sound; order = refl; units = refl }
go_located (l ∷ ls) (g ∷ gs) a d more sound apart =
    let count : (with_global d g).globals ≡ d.globals + 1 = ap (λ t. d.globals + one_if (not (is_block t))) a.0.typed in
    let meant : meaning_of_global d.globals g.ty ≡ meaning.Global d.globals l.ty = ap (meaning_of_global d.globals) a.0.typed in
    let one = one_goes d g (key_of l.name) (meaning.Global d.globals l.ty) (located_entries (d.globals + 1) ls ++ more) sound (ap key_of a.0.named) meant
    (λ x. ap (λ t. one_too_many g.line (not (is_some x) && is_block t) d.blocks) a.0.typed ∙ no_block x g.line d.blocks) apart in
    let order : (with_global d g).names ++ (located_entries (with_global d g).globals ls ++ more) ≡ d.names ++ (located_entries d.globals (l ∷ ls) ++ more) =
    ap (λ n. (with_global d g).names ++ (located_entries n ls ++ more)) count ∙ one.order in
    let rest = go_located ls gs a.1 (with_global d g) more one.sound (subst AreApart (sym order) apart) in
    record { sound = rest.sound; order = rest.order ∙ order; units = rest.units ∙ one.units }
go_located ls gs a d more sound apart = absurd a

-- What is declared in a unit

pub inside_again : (p : Pou) (u : RawPou) → AreLocalsAt p.formals u.formals → AreLocalsAt p.locals u.locals → AreApart (inner_entries p)
    → ((all_inside u.formals u.locals).breaks ≡ []) × ((all_inside u.formals u.locals).names ≡ inner_entries p)
inside_again p u a b apart =
    let d = fold with_formal no_inside u.formals in
    let formals = sym (locals_again p.formals u.formals a) in
    let locals = sym (locals_again p.locals u.locals b) in
    let first = all_new with_formal (λ d. d.breaks) (λ d. d.names) (λ d. d.formals) (λ r. r.line) local_of (λ l. key_of l.name)
    (λ i l. meaning.Formal i l.ty) (λ d r. refl) (λ d r. refl) (λ d r. refl) u.formals no_inside (local_entries 0 (locals_of u.locals)) refl
    (rw (formals, locals) at apart) in
    let order : d.names ++ (local_entries d.locals (locals_of u.locals) ++ []) ≡ inner_entries p =
    rw (no_locals_before u.formals no_inside, append-nil (local_entries 0 (locals_of u.locals)), formals, locals) first.1 in
    let second = all_new with_local (λ d. d.breaks) (λ d. d.names) (λ d. d.locals) (λ r. r.line) local_of (λ l. key_of l.name)
    (λ i l. meaning.Local i l.ty) (λ d r. refl) (λ d r. refl) (λ d r. refl) u.locals d [] first.0 (subst AreApart (sym order) apart) in
    (second.0, sym (append-nil (all_inside u.formals u.locals).names) ∙ second.1 ∙ order)

-- A text

-- what a text has that declares some data blocks, other globals and units
pub record IsPlainText (bs : List DataBlock) (ls : List Located) (ps : List Pou) (globals : List RawGlobal) (units : List RawPou) : Type 0 where
  pub outside : (all_outside globals units).breaks ≡ []
  pub names : (all_outside globals units).names ≡ block_entries bs ++ (located_entries 0 ls ++ unit_entries 0 ps)
  pub sound : all_global_breaks globals ≡ []
  pub blocks : all_blocks globals ≡ bs
  pub located : all_located globals ≡ ls

pub plain_text : (bs : List DataBlock) (ls : List Located) (ps : List Pou) (first second : List RawGlobal) (us : List RawPou)
    → AreBlocksAt bs first → AreLocatedAt ls second → AreUnitsAt ps us → AreNumbered bs → ArePlaced ls → Ascend 1 (numbers_of bs) → length bs ≤ MOST_BLOCKS
    → AreApart (block_entries bs ++ (located_entries 0 ls ++ unit_entries 0 ps)) → IsPlainText bs ls ps (first ++ second) us
plain_text bs ls ps first second us a b c sizes placed ascend few apart =
    let d = fold with_global no_outside first in
    let e = fold with_global d second in
    let one = go_blocks bs first a sizes no_outside (located_entries 0 ls ++ unit_entries 0 ps) refl apart (omega (arith, few)) in
    let order_of_located : d.names ++ (located_entries d.globals ls ++ unit_entries 0 ps) ≡ block_entries bs ++ (located_entries 0 ls ++ unit_entries 0 ps) =
    ap (λ n. d.names ++ (located_entries n ls ++ unit_entries 0 ps)) one.1 ∙ one.0.order in
    let two = go_located ls second b d (unit_entries 0 ps) one.0.sound (subst AreApart (sym order_of_located) apart) in
    let order_of_units : e.names ++ (unit_entries e.units (map unit_made us) ++ []) ≡ block_entries bs ++ (located_entries 0 ls ++ unit_entries 0 ps) =
    ap (λ es. e.names ++ es) (append-nil (unit_entries e.units (map unit_made us)) ∙ units_named e.units ps us c)
    ∙ ap (λ n. e.names ++ unit_entries n ps) (two.units ∙ one.0.units) ∙ two.order ∙ order_of_located in
    let three = all_new with_unit (λ d. d.breaks) (λ d. d.names) (λ d. d.units) (λ u. u.line) unit_made (λ p. key_of p.name)
    (λ i p. meaning_of_unit i p.program) (λ d u. refl) (λ d u. refl) (λ d u. refl) us e [] two.sound (subst AreApart (sym order_of_units) apart) in
    let whole : fold with_global no_outside (first ++ second) ≡ e = fold-append with_global no_outside first second in
    record {
      outside = ap (λ (o : Outside). (fold with_unit o us).breaks) whole ∙ three.0;
      names = ap (λ (o : Outside). (fold with_unit o us).names) whole ∙ sym (append-nil (fold with_unit e us).names) ∙ three.1 ∙ order_of_units;
      sound = flat_map-append (λ (g : RawGlobal). global_breaks g.ty g.line g.name g.at) first second
          ∙ ap (λ l. l ++ all_global_breaks second) (sound_blocks bs first a sizes) ∙ sound_located ls second b placed;
      blocks = fold-append (λ blocks (g : RawGlobal). with_block (block_of g.ty g.name g.at) blocks) [] first second
          ∙ no_blocks ls second b (all_blocks first) ∙ blocks_again bs first a sizes [] ascend (omega (arith, few));
      located = flat_map-append (λ (g : RawGlobal). as_list (located_of g.ty g.name g.at)) first second
          ∙ ap (λ l. l ++ all_located second) (no_located bs first a) ∙ located_again ls second b placed;
    }
