-- The globals of a tree that was read have names that a global may have, and lie on I, Q or M at places of
use Rattle.st_tree.proofs.Common.{and_parts, ◌≡◌, ◌≢◌, ℕ, Bool, true, false, ◌&&◌, List, [], ◌∷◌, ◌++◌, Some, None, refl, sym, subst, zero, suc, ◌+◌, ◌<◌, cond, length, replicate, Option, ap, ◌∙◌, arith, append-nil, if◌then◌else◌, All, nat_lt, flat_map-append, AreaName, Width, is_free, is_name, IsGlobal, IsDataBlock, width_at, has_width, list_all, nat_tests, All-cons, All-nil, list_all-append, fold-append, DataBlock, MOST_BLOCKS}
use Rattle.memory_areas.specs.declared.place.AreaName.TheVariants as area
use Rattle.s7_base.specs.declared.word.Width.TheVariants as width
use Rattle.st_lexer.specs.Spelled as written
use Rattle.st_grammar.proofs.Common.{GlobalType, plain, bytes, Globals, no_global, global, Items, no_item, single, times, GlobalsFit, is_global, tree_globals, tree_type, spell_globals, tree_items, spell_items, spell_type}
use Rattle.st_text_laws.specs.Spelled.{is_name as spelled_name, is_variable}
use Rattle.st_reading_laws.proofs.DeclaredNames.{same_width}
use Rattle.st_reading_laws.proofs.Lists.{Each, each_append}
use Rattle.st_text_laws.proofs.SameNames.{name_is}
use Rattle.st_text_laws.proofs.Sees.{place_is}
use Rattle.st_text_laws.proofs.Worded.{Worded, globals_behind, comma_past_items, initial_worded, items_behind}
use Rattle.st_tree.specs.PlaceRules as places
use Rattle.st_lexer.proofs.Common.{StType, RawGlobal, RawVar, is_byte}
use Rattle.st_tree.specs.declared.expr.StType.TheVariants as type
use Rattle.st_tree.specs.declared.raw.RawVar.TheVariants as raw
use Rattle.st_rules.proofs.Common.{as_list, all_located, area_of, located_at, located_of, all_blocks, block_at, block_number, block_of, contents, has_block_address, has_block_form, insert_data_block, is_small_enough, with_block, is_address}
use Rattle.st_rules.specs.Globals.{located_in}
use Rattle.std.specs.List.{flat_map}
use Rattle.st_reading_laws.proofs.BlockSizes.{is_block}

-- Globals on I, Q or M

-- a global in an area
global_in : (name : List ℕ) (ty : StType) (a : AreaName) (byte bit : ℕ) → is_name name ≡ true → is_free name ≡ true
    → ty ≢ type.Lint → places.is_place a (width_at ty) byte bit ≡ true → Each IsGlobal (as_list (located_in name ty (area_of a) byte bit))
global_in name ty area.I byte bit n f t p = assumption
global_in name ty a byte bit n f t p = assumption

-- no place has the width of a LINT
no_lint : (ty : StType) (w : Width) → has_width ty w ≡ true → ty ≢ type.Lint
no_lint type.Lint width.Bit h e = absurd cc
no_lint other one h e = absurd cc

global_if : (t : Bool) (name : List ℕ) (ty : StType) (a : AreaName) (w : Width) (byte bit : ℕ)
    → (is_address a None w byte bit && has_width ty w) ≡ t → is_name name ≡ true → is_free name ≡ true
    → written.is_place a None w byte bit ≡ true
    → Each IsGlobal (as_list (if t then located_in name ty (area_of a) byte bit else None))
global_if true name ty a w byte bit h n f p =
    let parts = and_parts (is_address a None w byte bit) (has_width ty w) h in
    let bits : written.is_bit_of w bit ≡ true = (and_parts (written.is_kept byte) (written.is_bit_of w bit) p).1 in
    global_in name ty a byte bit n f (no_lint ty w parts.1)
    (subst (λ (v : Width). places.is_place a v byte bit ≡ true) (sym (same_width ty w parts.1)) (place_is a w byte bit bits parts.0))
global_if false name ty a w byte bit h n f p = tt

global_at : (name : List ℕ) (ty : StType) (v : RawVar) → is_name name ≡ true → is_free name ≡ true → is_variable v ≡ true
    → Each IsGlobal (as_list (located_at name ty v))
global_at name ty (raw.Name other) n f p = tt
global_at name ty (raw.Direct a None w byte bit) n f p =
    global_if (is_address a None w byte bit && has_width ty w) name ty a w byte bit refl n f p
global_at name ty (raw.Direct a (Some k) w byte bit) n f p = tt

global_of : (name : List ℕ) (ty : GlobalType) (v : RawVar) → spelled_name name ≡ true → is_global name ty ≡ true
    → is_variable v ≡ true → Each IsGlobal (as_list (located_of (tree_type ty) name v))
global_of name (plain ty) v n f p = global_at name ty v (name_is name n) (f) p
global_of name (bytes last items) v n f p = tt

-- the globals of a tree that are no data blocks
pub are_globals : (gs : Globals) → GlobalsFit gs → Worded (spell_globals gs) → Each IsGlobal (all_located (tree_globals gs))
are_globals no_global h w = tt
are_globals (global others name line v at ty) h w =
    let own = globals_behind others _ w.1 in
    let one = global_of name ty v own.0 h.2 own.1.1.0 in
    let last : RawGlobal = record { name = name; line = line; at = v; ty = tree_type ty } in
    let f = λ (g : RawGlobal). as_list (located_of g.ty g.name g.at) in
    subst (Each IsGlobal) (sym (flat_map-append f (tree_globals others) (last ∷ [])))
    (each_append IsGlobal (all_located (tree_globals others)) (f last ++ []) (are_globals others h.0 (_, w.1)) (each_append IsGlobal (f last) [] one tt))

-- Data blocks, which have numbers of 16 bits and bytes

abbrev spread : List (ℕ × ℕ) → List ℕ
spread runs = flat_map (λ (r : ℕ × ℕ). replicate r.0 r.1) runs

spread_one : (runs : List (ℕ × ℕ)) (count b : ℕ) → spread (runs ++ (count, b) ∷ []) ≡ spread runs ++ replicate count b
spread_one runs count b =
    flat_map-append (λ (r : ℕ × ℕ). replicate r.0 r.1) runs ((count, b) ∷ []) ∙ ap (λ xs. spread runs ++ xs) (append-nil (replicate count b))

small : (b : ℕ) → is_byte b ≡ true → b < 256
small b h = grind (arith, nat_tests)

all_bytes : (bs : List ℕ) → list_all is_byte bs ≡ true → All (λ b. b < 256) bs
all_bytes [] h = All-nil (λ b. b < 256)
all_bytes (b ∷ bs) h =
    let parts = and_parts (is_byte b) (list_all is_byte bs) h in
    All-cons (λ b. b < 256) b bs (small b parts.0) (all_bytes bs parts.1)

repeated : (n b : ℕ) → is_byte b ≡ true → list_all is_byte (replicate n b) ≡ true
repeated zero b h = refl
repeated (suc n) b h = rw (h, repeated n b h) refl

one_more : (others : Items) (count b : ℕ) → list_all is_byte (spread (tree_items others)) ≡ true → is_byte b ≡ true
    → list_all is_byte (spread (tree_items others ++ (count, b) ∷ [])) ≡ true
one_more others count b h d =
    ap (list_all is_byte) (spread_one (tree_items others) count b)
    ∙ list_all-append is_byte (spread (tree_items others)) (replicate count b)
    ∙ rw (h, repeated count b d) refl

all_spread : (items : Items) → Worded (spell_items items) → list_all is_byte (spread (tree_items items)) ≡ true
all_spread no_item h = refl
all_spread (single others b) h = one_more others 1 b (all_spread others (_, h.1)) (comma_past_items others _ (items_behind others _ h.1)).0
all_spread (times others count b) h = one_more others count b (all_spread others (_, h.1)) (comma_past_items others _ (items_behind others _ h.1)).1.1.0

all_contents : (last : ℕ) (runs : List (ℕ × ℕ)) → list_all is_byte (spread runs) ≡ true → list_all is_byte (contents last runs) ≡ true
all_contents last [] h = repeated (last + 1) 0 refl
all_contents last (r ∷ runs) h = h

bytes_at : (n : ℕ) (at : RawVar) (last : ℕ) (list : List (ℕ × ℕ)) (b : DataBlock) → block_at n at last list ≡ Some b → b.bytes ≡ contents last list
bytes_at n at last list b h = by_test (has_block_address n at && is_small_enough last && has_block_form n at last list) h
  where
    made : DataBlock
    made = record { number = n; bytes = contents last list }

    by_test : (t : Bool) → cond t (Some made) None ≡ Some b → b.bytes ≡ contents last list
    by_test false f = absurd cc
    by_test true f = let same : made ≡ b = cc in ap (λ (c : DataBlock). c.bytes) (sym same)

bytes_of : (ty : GlobalType) (name : List ℕ) (at : RawVar) (b : DataBlock) → Worded (spell_type ty)
    → block_of (tree_type ty) name at ≡ Some b → list_all is_byte b.bytes ≡ true
bytes_of (plain ty) name at b w h = absurd cc
bytes_of (bytes last items) name at b w h =
    ap (list_all is_byte) (bytes_at (block_number name) at last (tree_items items) b h)
    ∙ all_contents last (tree_items items) (all_spread items (initial_worded items (_, w.1.1.1.1.1.1.1.1.1)))

is_block_of : (ty : GlobalType) (name : List ℕ) (at : RawVar) (b : DataBlock)
    → Worded (spell_type ty) → block_of (tree_type ty) name at ≡ Some b → IsDataBlock b
is_block_of ty name at b w h =
    let i = is_block (tree_type ty) name at b h in
    record { number = omega (arith, i.number, i.small); bytes = all_bytes b.bytes (bytes_of ty name at b w h) }

block_inserted : (b : DataBlock) (bs : List DataBlock) → IsDataBlock b → Each IsDataBlock bs → Each IsDataBlock (insert_data_block b bs)
block_inserted b [] f h = (f, tt)
block_inserted b (c ∷ cs) f h = by_test (nat_lt c.number b.number) (block_inserted b cs f h.1)
  where
    by_test : (t : Bool) → Each IsDataBlock (insert_data_block b cs) → Each IsDataBlock (cond t (c ∷ insert_data_block b cs) (b ∷ c ∷ cs))
    by_test true more = (h.0, more)
    by_test false more = (f, h)

block_with : (o : Option DataBlock) (bs : List DataBlock) → ((b : DataBlock) → o ≡ Some b → IsDataBlock b)
    → Each IsDataBlock bs → Each IsDataBlock (with_block o bs)
block_with None bs f h = h
block_with (Some b) bs f h = by_test (nat_lt (length bs) MOST_BLOCKS)
  where
    by_test : (t : Bool) → Each IsDataBlock (cond t (insert_data_block b bs) bs)
    by_test true = block_inserted b bs (f b refl) h
    by_test false = h

-- the data blocks of a tree
pub are_data_blocks : (gs : Globals) → Worded (spell_globals gs) → Each IsDataBlock (all_blocks (tree_globals gs))
are_data_blocks no_global w = tt
are_data_blocks (global others name line v at ty) w =
    let step = λ (blocks : List DataBlock) (g : RawGlobal). with_block (block_of g.ty g.name g.at) blocks in
    let last : RawGlobal = record { name = name; line = line; at = v; ty = tree_type ty } in
    subst (Each IsDataBlock) (sym (fold-append step [] (tree_globals others) (last ∷ [])))
    (block_with (block_of (tree_type ty) name v) (all_blocks (tree_globals others))
    (λ b e. is_block_of ty name v b (_, (globals_behind others _ w.1).1.1.1.1) e) (are_data_blocks others (_, w.1)))
