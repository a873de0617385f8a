-- Where the data block of a number stands.
use Rattle.std.proofs.Common.{◌≡◌, ◌≢◌, ℕ, suc, zero, ◌+◌, ◌<◌, ◌≤◌, Bool, true, false, ◌==◌, if◌then◌else◌, List, [], ◌∷◌, length, get_or, map, Option, Some, None, Result, Ok, Err, refl, sym, ap, ◌∙◌, subst, arith}
use Rattle.std.specs.Prelude.{replicate, slice_set, cond, is_some, MatchResult}
use Rattle.std.proofs.Common.{Vec, Global}
use Rattle.std.specs.Result.{result_ok}
use Rattle.std.proofs.lemmas.List.{length-map}
use Rattle.std.specs.Ordering.{nat_cmp}
use Rattle.std.specs.List.Sorted.{IsBinarySearchResult}
use Rattle.std.proofs.lemmas.List.Sorted.{searched}
use Rattle.std.proofs.lemmas.Bool.Decides.{nat_tests}
use Rattle.memory_areas.specs.Access.{or_none}
use Rattle.memory_areas.specs.Areas.{Ascend, Contents, block_of, bytes_in, fresh, no_locals, numbers_of, overwrite, with_block}
use Rattle.memory_areas.specs.declared.sizes.TheConstants.{INPUT_BYTES, OUTPUT_BYTES, MARKER_BYTES}
use Rattle.memory_areas.specs.inner.Stored.{HasRoom, data_blocks_of, one_further, position_of}
use Rattle.memory_areas.specs.declared.data_block.DataBlock.{DataBlock}

-- Ascending numbers

none_less : (least : ℕ) (ns : List ℕ) → Ascend least ns → (i : ℕ) → i < length ns → least ≤ get_or ns i 0
none_less least [] a i h = absurd (omega arith)
none_less least (n ∷ ns) a zero h = a.0
none_less least (n ∷ ns) a (suc i) h = let rest = none_less (n + 1) ns a.1 i (omega arith) in let first = a.0 in omega arith

rise : (least : ℕ) (ns : List ℕ) → Ascend least ns → (i j : ℕ) → i < j → j < length ns → get_or ns i 0 < get_or ns j 0
rise least [] a i j h k = absurd (omega arith)
rise least (n ∷ ns) a i zero h k = absurd (omega arith)
rise least (n ∷ ns) a zero (suc j) h k = let rest = none_less (n + 1) ns a.1 j (omega arith) in omega arith
rise least (n ∷ ns) a (suc i) (suc j) h k = rise (n + 1) ns a.1 i j (omega arith) (omega arith)

never_fall : (least : ℕ) (ns : List ℕ) → Ascend least ns → (i j : ℕ) → i ≤ j → j < length ns → get_or ns i 0 ≤ get_or ns j 0
never_fall least ns a i j h k = grind (arith, rise least ns a i j, λ (same : i ≡ j). ap (λ p. get_or ns p 0) same)

-- Positions

test : (m n : ℕ) (x y : Option ℕ) (b : Bool) → (m == n) ≡ b → (if m == n then x else y) ≡ (if b then x else y)
test m n x y b e = ap (λ (c : Bool). if c then x else y) e

position_here : (n : ℕ) (ns : List ℕ) (i : ℕ) → i < length ns → get_or ns i 0 ≡ n → ((k : ℕ) → k < i → get_or ns k 0 ≢ n) → position_of n ns ≡ Some i
position_here n [] i h e f = absurd (omega arith)
position_here n (m ∷ ms) zero h e f = let same : (m == n) ≡ true = grind (arith, nat_tests) in test m n (Some 0) (one_further (position_of n ms)) true same
position_here n (m ∷ ms) (suc i) h e f =
    let apart : m ≢ n = f 0 (omega arith) in
    let other : (m == n) ≡ false = grind (arith, nat_tests) in
    let next : i + 1 ≡ suc i = omega arith in
    test m n (Some 0) (one_further (position_of n ms)) false other
    ∙ ap one_further (position_here n ms i (omega arith) e (λ k l. f (suc k) (omega arith)))
    ∙ ap (λ p. Some p) next

position_nowhere : (n : ℕ) (ns : List ℕ) → ((k : ℕ) → k < length ns → get_or ns k 0 ≢ n) → position_of n ns ≡ None
position_nowhere n [] f = refl
position_nowhere n (m ∷ ms) f =
    let apart : m ≢ n = f 0 (omega arith) in
    let other : (m == n) ≡ false = grind (arith, nat_tests) in
    test m n (Some 0) (one_further (position_of n ms)) false other
    ∙ ap one_further (position_nowhere n ms (λ k l. f (suc k) (omega arith)))

-- what a search found is the position
found : (n : ℕ) (ns : List ℕ) → Ascend 1 ns → (r : Result ℕ ℕ)
    → MatchResult r (λ i. (i < length ns) × (get_or ns i 0 ≡ n))
    (λ i. (i ≤ length ns) × ((k : ℕ) → k < i → get_or ns k 0 < n) × ((k : ℕ) → i ≤ k → k < length ns → n < get_or ns k 0))
    → result_ok r ≡ position_of n ns
found n ns a (Ok i) h = sym (position_here n ns i h.0 h.1 (λ k l e. let less = rise 1 ns a k i l h.0 in let same = h.1 in omega arith))
found n ns a (Err i) h = sym (position_nowhere n ns (λ k l e. grind (arith, h.1 k, h.2 k)))

pub position_found : (n : ℕ) (ns : List ℕ) (r : Result ℕ ℕ) → Ascend 1 ns → IsBinarySearchResult (λ y. nat_cmp y n) ns r → result_ok r ≡ position_of n ns
position_found n ns r a b = found n ns a r (searched ns n r b (never_fall 1 ns a))

-- Blocks

-- what stands at a position
pub record IsAt (n : ℕ) (ns : List ℕ) (bs : List (List ℕ)) (new : List ℕ) (i : ℕ) : Type 0 where
  pub within : i < length bs
  pub bytes : bytes_in (block_of n (data_blocks_of ns bs)) ≡ Some (get_or bs i [])
  pub written : with_block n new (data_blocks_of ns bs) ≡ data_blocks_of ns (slice_set bs i new)

behind : (o : Option ℕ) (i : ℕ) → one_further o ≡ Some i → (j : ℕ) × (o ≡ Some j) × (suc j ≡ i)
behind None i e = cc
behind (Some j) i e = let next : j + 1 ≡ i = cc in (j, refl, omega arith)

first : (t : Bool) (n m : ℕ) (ms : List ℕ) (b new : List ℕ) (bs : List (List ℕ)) (i : ℕ)
    → (m == n) ≡ t → (if t then Some 0 else one_further (position_of n ms)) ≡ Some i
    → ((j : ℕ) → position_of n ms ≡ Some j → IsAt n ms bs new j) → IsAt n (m ∷ ms) (b ∷ bs) new i
first true n m ms b new bs i test e more =
    let block : DataBlock = record { number = m; bytes = b } in
    let changed : DataBlock = record { number = m; bytes = new } in
    let here : 0 ≡ i = cc in
    subst (λ k. IsAt n (m ∷ ms) (b ∷ bs) new k) here (record {
      within = omega arith;
      bytes = ap (λ c. bytes_in (cond c (Some block) (block_of n (data_blocks_of ms bs)))) test;
      written = ap (λ (c : Bool). if c then changed ∷ data_blocks_of ms bs else block ∷ with_block n new (data_blocks_of ms bs)) test;
    })
first false n m ms b new bs i test e more =
    let block : DataBlock = record { number = m; bytes = b } in
    let changed : DataBlock = record { number = m; bytes = new } in
    let further = behind (position_of n ms) i e in
    let rest = more further.0 further.1 in
    subst (λ k. IsAt n (m ∷ ms) (b ∷ bs) new k) further.2 (record {
      within = let w = rest.within in omega arith;
      bytes = ap (λ c. bytes_in (cond c (Some block) (block_of n (data_blocks_of ms bs)))) test ∙ rest.bytes;
      written =
          ap (λ (c : Bool). if c then changed ∷ data_blocks_of ms bs else block ∷ with_block n new (data_blocks_of ms bs)) test
          ∙ ap (λ blocks. block ∷ blocks) rest.written;
    })

pub at_position : (n : ℕ) (ns : List ℕ) (bs : List (List ℕ)) (new : List ℕ) (i : ℕ) → length bs ≡ length ns → position_of n ns ≡ Some i → IsAt n ns bs new i
at_position n [] bs new i l e = cc
at_position n (m ∷ ms) [] new i l e = absurd (omega arith)
at_position n (m ∷ ms) (b ∷ bs) new i l e = first (m == n) n m ms b new bs i refl e (λ j f. at_position n ms bs new j (omega arith) f)

nowhere : (t : Bool) (n m : ℕ) (ms : List ℕ) (b : List ℕ) (bs : List (List ℕ)) → (m == n) ≡ t → (if t then Some 0 else one_further (position_of n ms)) ≡ None
    → (position_of n ms ≡ None → block_of n (data_blocks_of ms bs) ≡ None) → block_of n (data_blocks_of (m ∷ ms) (b ∷ bs)) ≡ None
nowhere true n m ms b bs test e more = cc
nowhere false n m ms b bs test e more =
    let block : DataBlock = record { number = m; bytes = b } in
    ap (λ c. cond c (Some block) (block_of n (data_blocks_of ms bs))) test ∙ more (none_further (position_of n ms) e)
  where
    none_further : (o : Option ℕ) → one_further o ≡ None → o ≡ None
    none_further None f = refl
    none_further (Some j) f = cc

pub not_there : (n : ℕ) (ns : List ℕ) (bs : List (List ℕ)) → length bs ≡ length ns → position_of n ns ≡ None → block_of n (data_blocks_of ns bs) ≡ None
not_there n [] bs l e = refl
not_there n (m ∷ ms) [] l e = refl
not_there n (m ∷ ms) (b ∷ bs) l e = nowhere (m == n) n m ms b bs refl e (λ f. not_there n ms bs (omega arith) f)

pub numbers_joined : (ns : List ℕ) (bs : List (List ℕ)) → length bs ≡ length ns → numbers_of (data_blocks_of ns bs) ≡ ns
numbers_joined [] bs l = refl
numbers_joined (n ∷ ns) [] l = absurd (omega arith)
numbers_joined (n ∷ ns) (b ∷ bs) l = ap (λ rest. n ∷ rest) (numbers_joined ns bs (omega arith))

-- a block is there where it has a position
is_there : (n : ℕ) (o : Option DataBlock) (b : List ℕ) → bytes_in o ≡ Some b → is_some o ≡ true
is_there n None b e = cc
is_there n (Some x) b e = refl

pub has_position : (n : ℕ) (ns : List ℕ) (bs : List (List ℕ)) → length bs ≡ length ns → is_some (position_of n ns) ≡ is_some (block_of n (data_blocks_of ns bs))
has_position n ns bs l = by (position_of n ns) refl
  where
    by : (o : Option ℕ) → position_of n ns ≡ o → is_some o ≡ is_some (block_of n (data_blocks_of ns bs))
    by None e = sym (ap is_some (not_there n ns bs l e))
    by (Some i) e = sym (is_there n (block_of n (data_blocks_of ns bs)) (get_or bs i []) (at_position n ns bs [] i l e).bytes)

-- the blocks that a list was taken apart into
pub joined_parts : (blocks : List DataBlock) → data_blocks_of (numbers_of blocks) (map (λ (b : DataBlock). b.bytes) blocks) ≡ blocks
joined_parts [] = refl
joined_parts (b ∷ bs) = ap (λ rest. b ∷ rest) (joined_parts bs)

-- The blocks as they are stored

abbrev pub items_of : List (Vec ℕ Global) → List (List ℕ)
items_of blocks = map (λ (b : Vec ℕ Global). b.items) blocks

pub within_stored : (n : ℕ) (ns : List ℕ) (blocks : List (Vec ℕ Global)) (i : ℕ) → length blocks ≡ length ns → position_of n ns ≡ Some i → i < length blocks
within_stored n ns blocks i l e =
    let same = length-map blocks (λ (b : Vec ℕ Global). b.items) in
    let within = (at_position n ns (items_of blocks) [] i (same ∙ l) e).within in
    omega arith

pub stored_at : (n : ℕ) (ns : List ℕ) (blocks : List (Vec ℕ Global)) (new : List ℕ) (i : ℕ)
    → length blocks ≡ length ns → position_of n ns ≡ Some i → IsAt n ns (items_of blocks) new i
stored_at n ns blocks new i l e = at_position n ns (items_of blocks) new i (length-map blocks (λ (b : Vec ℕ Global). b.items) ∙ l) e

pub not_stored : (n : ℕ) (ns : List ℕ) (blocks : List (Vec ℕ Global)) → length blocks ≡ length ns
    → position_of n ns ≡ None → block_of n (data_blocks_of ns (items_of blocks)) ≡ None
not_stored n ns blocks l e = not_there n ns (items_of blocks) (length-map blocks (λ (b : Vec ℕ Global). b.items) ∙ l) e

pub numbers_stored : (ns : List ℕ) (blocks : List (Vec ℕ Global)) → length blocks ≡ length ns → numbers_of (data_blocks_of ns (items_of blocks)) ≡ ns
numbers_stored ns blocks l = numbers_joined ns (items_of blocks) (length-map blocks (λ (b : Vec ℕ Global). b.items) ∙ l)

pub has_stored : (n : ℕ) (ns : List ℕ) (blocks : List (Vec ℕ Global)) → length blocks ≡ length ns
    → is_some (position_of n ns) ≡ is_some (block_of n (data_blocks_of ns (items_of blocks)))
has_stored n ns blocks l = has_position n ns (items_of blocks) (length-map blocks (λ (b : Vec ℕ Global). b.items) ∙ l)

pub room_stored : (n : ℕ) (ns : List ℕ) (blocks : List (Vec ℕ Global)) (i at count : ℕ) → length blocks ≡ length ns → position_of n ns ≡ Some i
    → HasRoom (bytes_in (block_of n (data_blocks_of ns (items_of blocks)))) at count → at + count ≤ length (get_or (items_of blocks) i [])
room_stored n ns blocks i at count l e room = subst (λ o. HasRoom o at count) (stored_at n ns blocks [] i l e).bytes room

pub no_room : (n : ℕ) (ns : List ℕ) (blocks : List (Vec ℕ Global)) (at count : ℕ) → length blocks ≡ length ns → position_of n ns ≡ None
    → HasRoom (bytes_in (block_of n (data_blocks_of ns (items_of blocks)))) at count → ⊥
no_room n ns blocks at count l e room = subst (λ o. HasRoom (bytes_in o) at count) (not_stored n ns blocks l e) room

pub put_stored : (n : ℕ) (ns : List ℕ) (blocks : List (Vec ℕ Global)) (i at : ℕ) (new : List ℕ) → length blocks ≡ length ns → position_of n ns ≡ Some i
    → data_blocks_of ns (slice_set (items_of blocks) i (overwrite (get_or (items_of blocks) i []) at new))
    ≡ with_block n (overwrite (or_none (bytes_in (block_of n (data_blocks_of ns (items_of blocks))))) at new) (data_blocks_of ns (items_of blocks))
put_stored n ns blocks i at new l e =
    let changed = stored_at n ns blocks (overwrite (get_or (items_of blocks) i []) at new) i l e in
    sym changed.written
    ∙ ap (λ bytes. with_block n (overwrite bytes at new) (data_blocks_of ns (items_of blocks))) (sym (ap or_none changed.bytes))

-- a new memory from its parts
pub assembled : (inputs outputs markers numbers : List ℕ) (bytes locals cells : List (List ℕ)) (blocks : List DataBlock)
    → inputs ≡ replicate INPUT_BYTES 0 → outputs ≡ replicate OUTPUT_BYTES 0 → markers ≡ replicate MARKER_BYTES 0
    → numbers ≡ numbers_of blocks → bytes ≡ map (λ (b : DataBlock). b.bytes) blocks → locals ≡ no_locals → cells ≡ no_locals
    → ◌≡◌ {A = Contents}
    (record { areas = record { inputs = inputs; outputs = outputs; markers = markers; blocks = data_blocks_of numbers bytes }; locals = locals; cells = cells })
    (fresh blocks)
assembled inputs outputs markers numbers bytes locals cells blocks i q m n b l k =
    let parts : data_blocks_of numbers bytes ≡ blocks = rw (n, b) (joined_parts blocks) in
    rw (i, q, m, parts, l, k) refl
