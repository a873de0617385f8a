-- Where names and blocks stand first.
use Rattle.std.proofs.Common.{◌≡◌, ◌<◌, ℕ, zero, suc, ◌+◌, Bool, true, false, cond, ◌&&◌, ◌||◌, ◌==◌, nat_eq, List, [], ◌∷◌, ◌++◌, length, take, get_or, map, slice_get, Option, Some, None, option_map, option_and_then, Result, Ok, Err, refl, sym, ap, subst, ◌∙◌, arith, eqb-true}
use Rattle.std.specs.Cmp.Lexicographic.{pointwise}
use Rattle.std.specs.List.{find, fold, list_any}
use Rattle.std.specs.Prelude.{IfSome}
use Rattle.std.proofs.lemmas.Bool.{and_parts}
use Rattle.std.proofs.lemmas.List.{length-take-le, take_more}
use Rattle.std.proofs.lemmas.Option.{slice_get_read}
use Rattle.name_tables.specs.Places.{first_place}
use Rattle.name_tables.proofs.Firsts.{name_sound, no_key, same_words, with_key}
use Rattle.s7_base.specs.Tokens.{is_same_word}
use Rattle.s7_base.specs.declared.reason.Reason.{Reason}
use Rattle.stl_rules.specs.DeclarationRules.{is_named, key_of, with_name}
use Rattle.stl_rules.specs.Names.{block_found, block_number, block_numbered, db_numbered, is_block as is_block_of, is_number, is_same_kind, symbol_named}
use Rattle.stl_rules.specs.Stages.{is_among}
use Rattle.stl_tree.specs.declared.raw.BlockKind.{BlockKind}
use Rattle.stl_tree.specs.declared.raw.BlockKind.TheVariants as block
use Rattle.stl_tree.specs.declared.raw.RawBlock.{RawBlock}
use Rattle.stl_tree.specs.declared.raw.RawData.{RawData}
use Rattle.stl_tree.specs.declared.raw.RawProgram.{RawProgram}
use Rattle.stl_tree.specs.declared.raw.SymbolLine.{SymbolLine}
use Rattle.name_tables.specs.Before.{block_numbers, db_numbers, is_block, names_before, number_of_block, number_of_db, numbers_before, with_block}
use Rattle.name_tables.specs.inner.Places.{AreNumberPlaces, has_key, is_before, is_same_block, with_number_place}

-- First places

pub find_first : {X : Type 0} (test : X → Bool) (xs : List X) → find test xs ≡ option_and_then (λ n. slice_get xs n) (first_place test xs)
find_first test [] = refl
find_first test (x ∷ xs) = by_test (test x) (first_place test xs) (find_first test xs)
  where
    by_test : (b : Bool) (o : Option ℕ) → find test xs ≡ option_and_then (λ n. slice_get xs n) o
        → cond b (Some x) (find test xs) ≡ option_and_then (λ n. slice_get (x ∷ xs) n) (cond b (Some 0) (option_map (λ n. suc n) o))
    by_test true o e = refl
    by_test false None e = e
    by_test false (Some n) e = e

pub first_same : {X : Type 0} (f g : X → Bool) → ((x : X) → f x ≡ g x) → (xs : List X) → first_place f xs ≡ first_place g xs
first_same f g h [] = refl
first_same f g h (x ∷ xs) =
    ap (λ b. cond b (Some 0) (option_map (λ n. suc n) (first_place f xs))) (h x)
    ∙ ap (λ o. cond (g x) (Some 0) (option_map (λ n. suc n) o)) (first_same f g h xs)

none_below : (o : Option ℕ) → false ≡ is_before 0 o
none_below None = refl
none_below (Some n) = grind arith

one_up : (i : ℕ) (o : Option ℕ) → is_before i o ≡ is_before (suc i) (option_map (λ n. suc n) o)
one_up i None = refl
one_up i (Some n) = grind arith

-- one of the first some passes a test exactly where the first that does stands before
pub any_taken : {X : Type 0} (test : X → Bool) (i : ℕ) (xs : List X) → list_any test (take i xs) ≡ is_before i (first_place test xs)
any_taken test zero xs = none_below (first_place test xs)
any_taken test (suc i) [] = refl
any_taken test (suc i) (x ∷ xs) = by_test (test x) (any_taken test i xs)
  where
    by_test : (b : Bool) → list_any test (take i xs) ≡ is_before i (first_place test xs)
        → (b || list_any test (take i xs)) ≡ is_before (suc i) (cond b (Some 0) (option_map (λ n. suc n) (first_place test xs)))
    by_test true e = grind arith
    by_test false e = e ∙ one_up i (first_place test xs)

or_false : (b : Bool) → b ≡ (b || false)
or_false true = refl
or_false false = refl

or_assoc : (a b c : Bool) → ((a || b) || c) ≡ (a || (b || c))
or_assoc true b c = refl
or_assoc false b c = refl

-- Names

-- the symbol of a name is that of the first line with its key
pub named_at : (lines : List SymbolLine) (name : List ℕ)
    → symbol_named lines name
    ≡ option_map (λ (line : SymbolLine). line.address) (option_and_then (λ n. slice_get lines n) (first_place (has_key (key_of name)) lines))
named_at lines name =
    ap (option_map (λ (line : SymbolLine). line.address))
    (find_first (λ (line : SymbolLine). is_same_word line.name name) lines
    ∙ ap (option_and_then (λ n. slice_get lines n))
    (first_same (λ (line : SymbolLine). is_same_word line.name name) (has_key (key_of name)) (λ line. same_words line.name name) lines))

-- Blocks

pub kind_sound : (a b : BlockKind) → is_same_kind a b ≡ true → a ≡ b
kind_sound block.Ob block.Ob h = refl
kind_sound block.Fc block.Fc h = refl
kind_sound block.Fb block.Fb h = refl
kind_sound block.Db block.Db h = refl
kind_sound a b h = absurd cc

block_sound : (k q : BlockKind × ℕ) → is_same_block k q ≡ true → k ≡ q
block_sound k q h =
    let parts = and_parts (is_same_kind k.0 q.0) (nat_eq k.1 q.1) h in
    ap (λ kind. (kind, k.1)) (kind_sound k.0 q.0 parts.0) ∙ ap (λ n. (q.0, n)) (eqb-true k.1 q.1 parts.1)

same_either : (n m : ℕ) → (m == n) ≡ nat_eq n m
same_either n m = grind arith

and_false : (b : Bool) → (b && false) ≡ false
and_false true = refl
and_false false = refl

abbrev is_at : BlockKind × ℕ → BlockKind × Result ℕ Reason → Bool
is_at key b = is_block key.0 key.1 b

block_step : (table : List ((BlockKind × ℕ) × ℕ)) (xs : List (BlockKind × Result ℕ Reason)) (kind : BlockKind) (number : Result ℕ Reason)
    → AreNumberPlaces xs table
    → AreNumberPlaces (xs ++ (kind, number) ∷ []) (with_number_place kind number (length xs) table)
block_step table xs kind (Ok m) h =
    with_key is_same_block block_sound is_at table xs (kind, Ok m) (kind, m) (λ k. ap (λ b. is_same_kind k.0 kind && b) (same_either k.1 m)) h
block_step table xs kind (Err reason) h =
    no_key is_same_block block_sound is_at table xs (kind, Err reason) (λ k. and_false (is_same_kind k.0 kind)) h

-- one block more of a loop
pub block_turn : (blocks : List (BlockKind × Result ℕ Reason)) (i : ℕ) (d : BlockKind × Result ℕ Reason) (table : List ((BlockKind × ℕ) × ℕ))
    → i < length blocks → AreNumberPlaces (take i blocks) table
    → AreNumberPlaces (take (i + 1) blocks) (with_number_place (get_or blocks i d).0 (get_or blocks i d).1 i table)
block_turn blocks i d table before h =
    let b = get_or blocks i d in
    let step = block_step table (take i blocks) b.0 b.1 h in
    let taken : length (take i blocks) ≡ i = length-take-le i blocks (omega (arith, before)) in
    subst (λ l. AreNumberPlaces l (with_number_place b.0 b.1 i table)) (sym (take_more blocks i d before))
    (subst (λ n. AreNumberPlaces (take i blocks ++ b ∷ []) (with_number_place b.0 b.1 n table)) taken step)

-- what is read at a place
pub read_number : (blocks : List (BlockKind × Result ℕ Reason)) (i : ℕ) (b : BlockKind × Result ℕ Reason) → i < length blocks → b ≡ get_or blocks i b
    → IfSome (slice_get blocks i) (λ x. b.1 ≡ x.1)
read_number blocks i b before is =
    subst (λ o. IfSome o (λ x. b.1 ≡ x.1)) (sym (slice_get_read blocks (length blocks) i b refl before is)) refl

-- a block among some and one more
among_more : (kind : BlockKind) (n : ℕ) (b : BlockKind × ℕ) (before : List (BlockKind × ℕ))
    → is_among kind n (before ++ b ∷ []) ≡ (is_among kind n before || (is_same_kind kind b.0 && b.1 == n))
among_more kind n b [] = sym (or_false (is_same_kind kind b.0 && b.1 == n))
among_more kind n b (x ∷ before) =
    ap (λ t. (is_same_kind kind x.0 && x.1 == n) || t) (among_more kind n b before)
    ∙ sym (or_assoc (is_same_kind kind x.0 && x.1 == n) (is_among kind n before) (is_same_kind kind b.0 && b.1 == n))

among_all : (kind : BlockKind) (n : ℕ) (before : List (BlockKind × ℕ)) (xs : List (BlockKind × Result ℕ Reason))
    → is_among kind n (fold with_block before xs) ≡ (is_among kind n before || list_any (is_block kind n) xs)
among_all kind n before [] = or_false (is_among kind n before)
among_all kind n before ((its, Err reason) ∷ xs) =
    among_all kind n before xs
    ∙ ap (λ b. is_among kind n before || (b || list_any (is_block kind n) xs)) (sym (and_false (is_same_kind kind its)))
among_all kind n before ((its, Ok m) ∷ xs) =
    among_all kind n (before ++ (its, m) ∷ []) xs ∙ ap (λ b. b || list_any (is_block kind n) xs) (among_more kind n (its, m) before)
    ∙ or_assoc (is_among kind n before) (is_same_kind kind its && m == n) (list_any (is_block kind n) xs)

pub number_repeated : (kind : BlockKind) (n i : ℕ) (blocks : List (BlockKind × Result ℕ Reason))
    → is_among kind n (numbers_before (take i blocks)) ≡ is_before i (first_place (is_block kind n) blocks)
number_repeated kind n i blocks = among_all kind n [] (take i blocks) ∙ any_taken (is_block kind n) i blocks

-- a name among some and one more
named_with : (key more : List ℕ) (names : List (List ℕ)) → is_named key (with_name more names) ≡ (is_named key names || pointwise nat_eq key more)
named_with key more names = by_tests (is_named more names) refl (pointwise nat_eq key more) refl
  where
    put : (names : List (List ℕ)) → is_named key (names ++ more ∷ []) ≡ (is_named key names || pointwise nat_eq key more)
    put [] = sym (or_false (pointwise nat_eq key more))
    put (x ∷ names) =
        ap (λ b. pointwise nat_eq key x || b) (put names) ∙ sym (or_assoc (pointwise nat_eq key x) (is_named key names) (pointwise nat_eq key more))

    or_true : (b : Bool) → b ≡ true → b ≡ (b || true)
    or_true true h = refl
    or_true false h = absurd cc

    by_tests : (b : Bool) → is_named more names ≡ b → (c : Bool) → pointwise nat_eq key more ≡ c
        → is_named key (cond b names (names ++ more ∷ [])) ≡ (is_named key names || c)
    by_tests true e true f = or_true (is_named key names) (ap (λ k. is_named k names) (name_sound key more f) ∙ e)
    by_tests true e false f = or_false (is_named key names)
    by_tests false e c f = put names ∙ ap (λ b. is_named key names || b) f

named_all : (key : List ℕ) (names : List (List ℕ)) (xs : List SymbolLine)
    → is_named key (fold (λ names (line : SymbolLine). with_name (key_of line.name) names) names xs) ≡ (is_named key names || list_any (has_key key) xs)
named_all key names [] = or_false (is_named key names)
named_all key names (x ∷ xs) =
    named_all key (with_name (key_of x.name) names) xs
    ∙ ap (λ b. b || list_any (has_key key) xs) (named_with key (key_of x.name) names)
    ∙ or_assoc (is_named key names) (has_key key x) (list_any (has_key key) xs)

pub name_repeated : (key : List ℕ) (i : ℕ) (lines : List SymbolLine)
    → is_named key (names_before (take i lines)) ≡ is_before i (first_place (has_key key) lines)
name_repeated key i lines = named_all key [] (take i lines) ∙ any_taken (has_key key) i lines

-- Data blocks

first_map : {X Y : Type 0} (test : Y → Bool) (f : X → Y) (xs : List X) → first_place test (map f xs) ≡ first_place (λ x. test (f x)) xs
first_map test f [] = refl
first_map test f (x ∷ xs) = ap (λ o. cond (test (f x)) (Some 0) (option_map (λ n. suc n) o)) (first_map test f xs)

pub db_at : (symbols : List SymbolLine) (dbs : List RawData) (n : ℕ)
    → option_and_then (λ place. slice_get dbs place) (first_place (is_block block.Db n) (db_numbers symbols dbs))
    ≡ db_numbered symbols dbs n
db_at symbols dbs n =
    ap (option_and_then (λ place. slice_get dbs place)) (first_map (is_block block.Db n) (number_of_db symbols) dbs)
    ∙ sym (find_first (λ (d : RawData). is_number n (block_number symbols block.Db d.name)) dbs)

-- Blocks of code

pub block_at : (text : RawProgram) (kind : BlockKind) (n : ℕ)
    → option_and_then (λ place. slice_get text.blocks place) (first_place (is_block kind n) (block_numbers text.symbols text.blocks))
    ≡ block_numbered text kind n
block_at text kind n =
    ap (option_and_then (λ place. slice_get text.blocks place)) (first_map (is_block kind n) (number_of_block text.symbols) text.blocks)
    ∙ sym (find_first (is_block_of text.symbols kind n) text.blocks)

-- a block that is found has the kind that is asked for
kind_among : (symbols : List SymbolLine) (kind : BlockKind) (n : ℕ) (raws : List RawBlock)
    → IfSome (find (is_block_of symbols kind n) raws) (λ (raw : RawBlock). raw.kind ≡ kind)
kind_among symbols kind n [] = tt
kind_among symbols kind n (raw ∷ raws) = by_test (is_block_of symbols kind n raw) refl (kind_among symbols kind n raws)
  where
    by_test : (b : Bool) → is_block_of symbols kind n raw ≡ b → IfSome (find (is_block_of symbols kind n) raws) (λ (r : RawBlock). r.kind ≡ kind)
        → IfSome (cond b (Some raw) (find (is_block_of symbols kind n) raws)) (λ (r : RawBlock). r.kind ≡ kind)
    by_test true e more =
        sym (kind_sound kind raw.kind (and_parts (is_same_kind kind raw.kind) (is_number n (block_number symbols raw.kind raw.name)) e).0)
    by_test false e more = more

pub kind_found : (text : RawProgram) (kind : BlockKind) (number : Result ℕ Reason)
    → IfSome (block_found text kind number) (λ (raw : RawBlock). raw.kind ≡ kind)
kind_found text kind (Ok n) = kind_among text.symbols kind n text.blocks
kind_found text kind (Err reason) = tt
