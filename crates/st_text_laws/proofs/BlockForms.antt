-- The data blocks of a tree, in their canonical form: their names are names of data blocks,
-- their bytes are ones that tokens have, and their lists stand for the same bytes.
use Rattle.st_text_laws.proofs.Spells.{Spells, past_spells}
use Rattle.st_tree.proofs.Common.{◌≡◌, ℕ, ◌+◌, ◌-◌, ◌≤◌, ◌==◌, true, false, not, List, [], ◌∷◌, ◌++◌, length, replicate, refl, sym, ap, subst, ◌∙◌, arith, append_assoc, append-nil, decimal, is_none, if◌then◌else◌, list_all, nat_tests, flat_map-append, is_digit, DataBlock, is_word_byte, names_block}
use Rattle.std.specs.List.{flat_map}
use Rattle.std.proofs.Math.Seq.{drop-length}
use Rattle.std.proofs.lemmas.Bool.{eqb-true}
use Rattle.std.proofs.lemmas.List.{replicate-append-replicate}
use Rattle.digit_texts.proofs.SomeDigits.{some_digits}
use Rattle.st_reading_laws.proofs.BlockSizes.{IsBlock, runs_size}
use Rattle.st_reading_laws.proofs.PlainNumbers.{written}
use Rattle.st_lexer.proofs.Words.{and_both}
use Rattle.st_lexer.specs.Spelled.{is_byte, is_decimal}
use Rattle.st_text_laws.proofs.Common.{block_name, items_behind, items_form, run_behind, is_name}
use Rattle.st_grammar.proofs.Common.{Items, no_item, single, times, GlobalType, plain, bytes, Globals, no_global, global, tree_items, spell_items, conversion_named, size_before_line, word_named, word_text, deepest, levels_globals, levels_items, levels_type, AllWithin}
use Rattle.st_grammar.specs.Levels.{levels_initial, levels_past}
use Rattle.st_rules.specs.Globals.{contents, total}

-- Names

-- digits are bytes of words, and none is `_`
digit_word : (b : ℕ) → is_digit b ≡ true → is_word_byte b ≡ true
digit_word b h = rw h refl

all_words : (ds : List ℕ) → list_all is_digit ds ≡ true → list_all is_word_byte ds ≡ true
all_words [] h = refl
all_words (d ∷ ds) h = grind (arith, digit_word d, all_words ds)

size_of : (ds : List ℕ) → list_all is_digit ds ≡ true → size_before_line ds ≡ length ds
size_of [] h = refl
size_of (d ∷ ds) h =
    let p = and_both (is_digit d) (list_all is_digit ds) h in
    let other : not (d == 95) ≡ true = grind (arith, nat_tests) in
    rw (other, size_of ds p.1) (omega arith)

-- the letters tell it from every keyword
no_word : (ds : List ℕ) → is_none (word_named (68 ∷ 66 ∷ ds)) ≡ true
unfolding word_named word_text
no_word ds = refl

-- and nothing stands before a `_`
no_conversion : (text : List ℕ) → size_before_line text ≡ length text → is_none (conversion_named text) ≡ true
no_conversion text h = rw (h, drop-length text) refl

pub block_is_name : (n : ℕ) → n ≤ 65535 → is_name (block_name n) ≡ true
block_is_name n h =
    let d = written n (omega arith) in
    let text = 68 ∷ 66 ∷ decimal n in
    let size : size_before_line text ≡ length text = rw (size_of (decimal n) d.digits) (omega arith) in
    rw (all_words (decimal n) d.digits, no_word (decimal n), no_conversion text size) refl

pub block_is_named : (n : ℕ) → n ≤ 65535 → names_block (block_name n) ≡ true
block_is_named n h = let d = written n (omega arith) in some_digits (decimal n) d.some d.digits

-- Bytes as they are written

-- as many bytes and one more of them
one_after : (count b : ℕ) (rest : List ℕ) → replicate (count + 1) b ++ rest ≡ replicate count b ++ b ∷ rest
one_after count b rest = ap (λ xs. xs ++ rest) (sym (replicate-append-replicate count 1 b))
    ∙ append_assoc (replicate count b) (b ∷ []) rest

-- the bytes that runs stand for
abbrev spread : List (ℕ × ℕ) → List ℕ
spread runs = flat_map (λ (r : ℕ × ℕ). replicate r.0 r.1) runs

spread_one : (runs : List (ℕ × ℕ)) (count b : ℕ) → spread (runs ++ (count, b) ∷ []) ≡ spread runs ++ replicate count b
spread_one runs count b = simp (flat_map-append, append-nil)

-- items that tokens have, which stand for some bytes
record Stand (items : Items) (found : List ℕ) : Type 0 where
  spelled : Spells (spell_items items)
  same : spread (tree_items items) ≡ found

run_tree : (others : Items) (count b : ℕ)
    → tree_items (run_behind others count b) ≡ tree_items others ++ (count, b) ∷ []
run_tree others count b = grind (arith, nat_tests)

run_stands : (others : Items) (found : List ℕ) (count b : ℕ) → is_decimal count ≡ true → is_byte b ≡ true
    → Stand others found
    → Stand (run_behind others count b) (found ++ replicate count b)
run_stands others found count b c d s = record {
  spelled = elim (count == 1) as (λ t. Spells (spell_items (if t then single others b else times others count b))) [
    | true ↦ λ ks q. s.spelled _ (past_spells others _ (d, q))
    | false ↦ λ ks q. s.spelled _ (past_spells others _ (c, (refl, (d, (refl, q)))))
  ];
  same = rw (run_tree others count b, ← s.same) (spread_one (tree_items others) count b);
}

few : (count : ℕ) → count ≤ 16384 → is_decimal count ≡ true
few count h = grind (arith, nat_tests)

items_stand : (rest : List ℕ) (others : Items) (found : List ℕ) (count b : ℕ) → count + length rest ≤ 16384
    → is_byte b ≡ true → list_all is_byte rest ≡ true → Stand others found
    → Stand (items_behind others count b rest) (found ++ (replicate count b ++ rest))
items_stand [] others found count b small d h s =
    subst (λ xs. Stand (run_behind others count b) (found ++ xs)) (sym (append-nil (replicate count b)))
    (run_stands others found count b (few count (omega (arith, small))) d s)
items_stand (next ∷ rest) others found count b small d h s = (elim (b == next) as (λ t. (b == next) ≡ t
    → Stand (if t then items_behind others (count + 1) b rest else items_behind (run_behind others count b) 1 next rest)
    (found ++ (replicate count b ++ next ∷ rest))) [
      | true ↦ λ e. subst (λ (xs : List ℕ). Stand (items_behind others (count + 1) b rest) (found ++ xs))
          (one_after count b rest ∙ ap (λ n. replicate count b ++ n ∷ rest) (eqb-true b next e))
          (items_stand rest others found (count + 1) b (omega (arith, small)) d bytes.1 s)
      | false ↦ λ e. subst (Stand (items_behind (run_behind others count b) 1 next rest))
          (append_assoc found (replicate count b) (next ∷ rest))
          (items_stand rest (run_behind others count b) (found ++ replicate count b) 1 next (omega arith) bytes.0 bytes.1
          (run_stands others found count b (few count (omega (arith, small))) d s))
    ]) refl
  where
    bytes : (is_byte next ≡ true) × (list_all is_byte rest ≡ true)
    bytes = and_both (is_byte next) (list_all is_byte rest) h

form_stands : (bs : List ℕ) → 1 ≤ length bs → length bs ≤ 16384 → list_all is_byte bs ≡ true → Stand (items_form bs) bs
form_stands [] some small h = absurd (omega (arith, some))
form_stands (b ∷ rest) some small h =
    let p = and_both (is_byte b) (list_all is_byte rest) h in
    items_stand rest no_item [] 1 b (omega (arith, small)) p.0 p.1 (record { spelled = λ ks q. q; same = refl })

-- the bytes of a list that is there
contents_of : (last : ℕ) (runs : List (ℕ × ℕ)) → 1 ≤ total runs → contents last runs ≡ spread runs
contents_of last [] h = absurd (omega (arith, h))
contents_of last (r ∷ runs) h = refl

-- a data block of a tree
pub record IsFull (b : DataBlock) : Type 0 where
  pub block : IsBlock b.number b
  pub bytes : list_all is_byte b.bytes ≡ true

-- the list of a data block's bytes
pub record IsWritten (bs : List ℕ) : Type 0 where
  pub last : is_decimal (length bs - 1) ≡ true
  pub spelled : Spells (spell_items (items_form bs))
  pub same : contents (length bs - 1) (tree_items (items_form bs)) ≡ bs
  pub size : total (tree_items (items_form bs)) ≡ length bs

pub is_written : (b : DataBlock) → IsFull b → IsWritten b.bytes
is_written b f =
    let s = form_stands b.bytes (omega (arith, f.block.sized.0)) f.block.sized.1 f.bytes in
    let list = tree_items (items_form b.bytes) in
    let size : total list ≡ length b.bytes = sym (runs_size list) ∙ ap length s.same in
    record {
      last = few (length b.bytes - 1) (omega (arith, f.block.sized.1));
      spelled = s.spelled;
      same = contents_of (length b.bytes - 1) list (omega (arith, f.block.sized.0)) ∙ s.same;
      size = size;
    }

-- How deep they nest

-- within the greatest depth
abbrev pub AreWithin : List ℕ → Type 0
AreWithin levels = AllWithin deepest levels

-- the levels of declarations, 0 and 1
pub low : 0 ≤ deepest
low = omega arith

one_low : 1 ≤ deepest
one_low = omega arith

past_within : (items : Items) (before : List ℕ) → AreWithin before → AreWithin (levels_past items before)
past_within no_item before h = h
past_within items before h = (low, h)

items_within : (items : Items) (before : List ℕ) → AreWithin before → AreWithin (levels_items items before)
items_within no_item before h = h
items_within (single others b) before h = (low, past_within others _ (items_within others before h))
items_within (times others count b) before h =
    (low, (one_low, (one_low, (low, past_within others _ (items_within others before h)))))

initial_within : (items : Items) (before : List ℕ) → AreWithin before → AreWithin (levels_initial items before)
initial_within no_item before h = h
initial_within items before h = (low, items_within items _ (low, (low, h)))

type_within : (ty : GlobalType) (before : List ℕ) → AreWithin before → AreWithin (levels_type ty before)
type_within (plain ty) before h = (low, h)
type_within (bytes last items) before h =
    initial_within items _ (low, (low, (low, (low, (low, (low, (low, (low, h))))))))

-- globals nest no deeper than they may
pub globals_within : (gs : Globals) (before : List ℕ) → AreWithin before → AreWithin (levels_globals gs before)
globals_within no_global before h = h
globals_within (global others name line v place ty) before h =
    (low, type_within ty _ (low, (low, (low, (low, globals_within others before h)))))
