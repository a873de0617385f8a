-- What a write that is not refused leaves as it was, and what it changes.
use Rattle.std.proofs.Common.{◌≡◌, ◌≢◌, ◌⊎◌, inl, inr, ⊎_elim, ℕ, ◌+◌, ◌/◌, ◌%◌, ◌^◌, ◌<◌, ◌≤◌, Bool, true, false, ◌==◌, if◌then◌else◌, List, [], ◌∷◌, length, get_or, All, Option, Some, None, Ok, refl, sym, ap, ◌∙◌, subst, arith}
use Rattle.std.specs.Prelude.{nat_lt, is_none, cond}
use Rattle.std.proofs.lemmas.Bool.{cases_eq, cases_order}
use Rattle.std.proofs.lemmas.Bool.Decides.{nat_tests}
use Rattle.std.proofs.lemmas.List.Elements.{All-cons, All-nil}
use Rattle.s7_base.specs.declared.outcome.Fault.{Fault}
use Rattle.s7_base.specs.declared.outcome.Fault.TheVariants.{DbNotOpen, DbMissing, Alignment, AreaLength}
use Rattle.s7_base.specs.declared.word.Width.{Width}
use Rattle.s7_base.specs.declared.word.Width.TheVariants as width
use Rattle.memory_areas.specs.Access.{Aim, aim_of_place, and_then, bytes_there, bytes_wide, fault_of, is_closed, is_missing, is_unaligned, or_none, write_bytes, bytes_for_access, unless, read_bit, read_byte, read_word, read_dword, write_bit, write_byte, write_word, write_dword}
use Rattle.memory_areas.specs.AreaLaws.{AnyBit, IsByte, IsDword, IsOutside, IsWord, MemoriesStay, OtherBitsStay, OtherBytesStay, ReadsBack, SizesStay}
use Rattle.memory_areas.specs.Areas.{Contents, IsArea, IsMemoryOf, Match, bit_of_byte, block_of, byte_at, byte_with, bytes_in, bytes_of, bytes_of_dword, bytes_of_word, dword_at, overwrite, with_block, with_bytes, word_at}
use Rattle.memory_areas.specs.declared.data_block.DataBlock.{DataBlock}
use Rattle.memory_areas.specs.declared.place.Area.{Area}
use Rattle.memory_areas.specs.declared.place.Area.TheVariants as area
use Rattle.memory_areas.specs.declared.place.Place.{Place}
use Rattle.memory_areas.specs.declared.sizes.TheConstants.{INPUT_BYTES, OUTPUT_BYTES, MARKER_BYTES}
use Rattle.memory_areas.proofs.Bits.{bit_kept, bit_written, byte_below}
use Rattle.memory_areas.proofs.ReplacedBytes.{all_replaced, get_set_other, get_set_same, length_replaced, new_byte, other_byte}

-- Data blocks

block_with : (t : Bool) (n : ℕ) (new bytes : List ℕ) (b : DataBlock) (bs : List DataBlock) → (b.number == n) ≡ t
    → bytes_in (cond t (Some b) (block_of n bs)) ≡ Some bytes
    → (bytes_in (block_of n bs) ≡ Some bytes → bytes_in (block_of n (with_block n new bs)) ≡ Some new)
    → bytes_in (block_of n (if t then record b { bytes = new } ∷ bs else b ∷ with_block n new bs)) ≡ Some new
block_with true n new bytes b bs e h rest = rw e refl
block_with false n new bytes b bs e h rest = rw e (rest h)

-- the block of a number has the bytes that it was given
block_written : (n : ℕ) (new bytes : List ℕ) (bs : List DataBlock)
    → bytes_in (block_of n bs) ≡ Some bytes → bytes_in (block_of n (with_block n new bs)) ≡ Some new
block_written n new bytes [] h = cc
block_written n new bytes (b ∷ bs) h = block_with (b.number == n) n new bytes b bs refl h (block_written n new bytes bs)

other_with : (t : Bool) (n k : ℕ) (new : List ℕ) (b : DataBlock) (bs : List DataBlock) → (b.number == n) ≡ t → k ≢ n
    → bytes_in (block_of k (with_block n new bs)) ≡ bytes_in (block_of k bs)
    → bytes_in (block_of k (if t then record b { bytes = new } ∷ bs else b ∷ with_block n new bs)) ≡ bytes_in (block_of k (b ∷ bs))
other_with true n k new b bs e apart rest = let other : (b.number == k) ≡ false = grind (arith, nat_tests) in rw other refl
other_with false n k new b bs e apart rest = by (b.number == k)
  where
    by : (t : Bool) → bytes_in (cond t (Some b) (block_of k (with_block n new bs))) ≡ bytes_in (cond t (Some b) (block_of k bs))
    by true = refl
    by false = rest

-- every other block keeps its bytes
block_kept : (n k : ℕ) (new : List ℕ) (bs : List DataBlock) → k ≢ n → bytes_in (block_of k (with_block n new bs)) ≡ bytes_in (block_of k bs)
block_kept n k new [] apart = refl
block_kept n k new (b ∷ bs) apart = other_with (b.number == n) n k new b bs refl apart (block_kept n k new bs apart)

match_first : (t : Bool) (n : ℕ) (new bytes : List ℕ) (b g : DataBlock) (bs gs : List DataBlock) → (b.number == n) ≡ t
    → bytes_in (cond t (Some b) (block_of n bs)) ≡ Some bytes → ((size : ℕ) → IsArea size bytes → IsArea size new) → Match (b ∷ bs) (g ∷ gs)
    → (bytes_in (block_of n bs) ≡ Some bytes → Match (with_block n new bs) gs)
    → Match (if t then record b { bytes = new } ∷ bs else b ∷ with_block n new bs) (g ∷ gs)
match_first true n new bytes b g bs gs e h f m rest =
    let same : b.bytes ≡ bytes = cc in
    (m.0, f (length g.bytes) (subst (IsArea (length g.bytes)) same m.1), m.2)
match_first false n new bytes b g bs gs e h f m rest = (m.0, m.1, rest h)

-- blocks match given ones where one has other bytes, as many
match_with : (n : ℕ) (new bytes : List ℕ) (bs gs : List DataBlock) → bytes_in (block_of n bs) ≡ Some bytes → ((size : ℕ) → IsArea size bytes → IsArea size new)
    → Match bs gs → Match (with_block n new bs) gs
match_with n new bytes [] gs h f m = cc
match_with n new bytes (b ∷ bs) [] h f m = absurd m
match_with n new bytes (b ∷ bs) (g ∷ gs) h f m = match_first (b.number == n) n new bytes b g bs gs refl h f m (λ k. match_with n new bytes bs gs k f m.2)

-- Areas

-- an area has the bytes that it was given
bytes_written : (a : Area) (new bytes : List ℕ) (m : Contents) → bytes_of a m ≡ Some bytes → bytes_of a (with_bytes a new m) ≡ Some new
bytes_written area.I new bytes m h = refl
bytes_written area.Q new bytes m h = refl
bytes_written area.M new bytes m h = refl
bytes_written (area.Local d) new bytes m h = get_set_same m.locals d new bytes h
bytes_written (area.Cell d) new bytes m h = get_set_same m.cells d new bytes h
bytes_written (area.Db n) new bytes m h = block_written n new bytes m.areas.blocks h

-- every other area keeps its bytes
bytes_kept : (a other : Area) (new : List ℕ) (m : Contents) → other ≢ a → bytes_of other (with_bytes a new m) ≡ bytes_of other m
bytes_kept area.I area.I new m apart = absurd (apart refl)
bytes_kept area.I area.Q new m apart = refl
bytes_kept area.I area.M new m apart = refl
bytes_kept area.I (area.Local e) new m apart = refl
bytes_kept area.I (area.Cell e) new m apart = refl
bytes_kept area.I (area.Db e) new m apart = refl
bytes_kept area.Q area.Q new m apart = absurd (apart refl)
bytes_kept area.Q area.I new m apart = refl
bytes_kept area.Q area.M new m apart = refl
bytes_kept area.Q (area.Local e) new m apart = refl
bytes_kept area.Q (area.Cell e) new m apart = refl
bytes_kept area.Q (area.Db e) new m apart = refl
bytes_kept area.M area.M new m apart = absurd (apart refl)
bytes_kept area.M area.I new m apart = refl
bytes_kept area.M area.Q new m apart = refl
bytes_kept area.M (area.Local e) new m apart = refl
bytes_kept area.M (area.Cell e) new m apart = refl
bytes_kept area.M (area.Db e) new m apart = refl
bytes_kept (area.Local d) (area.Local e) new m apart = get_set_other m.locals d e new (λ same. apart (ap area.Local same))
bytes_kept (area.Local d) area.I new m apart = refl
bytes_kept (area.Local d) area.Q new m apart = refl
bytes_kept (area.Local d) area.M new m apart = refl
bytes_kept (area.Local d) (area.Cell e) new m apart = refl
bytes_kept (area.Local d) (area.Db e) new m apart = refl
bytes_kept (area.Cell d) (area.Cell e) new m apart = get_set_other m.cells d e new (λ same. apart (ap area.Cell same))
bytes_kept (area.Cell d) area.I new m apart = refl
bytes_kept (area.Cell d) area.Q new m apart = refl
bytes_kept (area.Cell d) area.M new m apart = refl
bytes_kept (area.Cell d) (area.Local e) new m apart = refl
bytes_kept (area.Cell d) (area.Db e) new m apart = refl
bytes_kept (area.Db n) (area.Db k) new m apart = block_kept n k new m.areas.blocks (λ same. apart (ap area.Db same))
bytes_kept (area.Db n) area.I new m apart = refl
bytes_kept (area.Db n) area.Q new m apart = refl
bytes_kept (area.Db n) area.M new m apart = refl
bytes_kept (area.Db n) (area.Local e) new m apart = refl
bytes_kept (area.Db n) (area.Cell e) new m apart = refl

-- two areas are the same or not
same_area : (a b : Area) → (a ≡ b) ⊎ (a ≡ b → ⊥)
same_area area.I area.I = inl refl
same_area area.Q area.Q = inl refl
same_area area.M area.M = inl refl
same_area (area.Local d) (area.Local e) =
    ⊎_elim (λ (s : d ≡ e). inl (ap area.Local s)) (λ (f : d ≡ e → ⊥). inr (λ (s : area.Local d ≡ area.Local e). f cc)) (cases_eq d e)
same_area (area.Cell d) (area.Cell e) =
    ⊎_elim (λ (s : d ≡ e). inl (ap area.Cell s)) (λ (f : d ≡ e → ⊥). inr (λ (s : area.Cell d ≡ area.Cell e). f cc)) (cases_eq d e)
same_area (area.Db d) (area.Db e) = ⊎_elim (λ (s : d ≡ e). inl (ap area.Db s)) (λ (f : d ≡ e → ⊥). inr (λ (s : area.Db d ≡ area.Db e). f cc)) (cases_eq d e)
same_area area.I area.Q = inr (λ s. cc)
same_area area.I area.M = inr (λ s. cc)
same_area area.I (area.Local e) = inr (λ s. cc)
same_area area.I (area.Cell e) = inr (λ s. cc)
same_area area.I (area.Db e) = inr (λ s. cc)
same_area area.Q area.I = inr (λ s. cc)
same_area area.Q area.M = inr (λ s. cc)
same_area area.Q (area.Local e) = inr (λ s. cc)
same_area area.Q (area.Cell e) = inr (λ s. cc)
same_area area.Q (area.Db e) = inr (λ s. cc)
same_area area.M area.I = inr (λ s. cc)
same_area area.M area.Q = inr (λ s. cc)
same_area area.M (area.Local e) = inr (λ s. cc)
same_area area.M (area.Cell e) = inr (λ s. cc)
same_area area.M (area.Db e) = inr (λ s. cc)
same_area (area.Local d) area.I = inr (λ s. cc)
same_area (area.Local d) area.Q = inr (λ s. cc)
same_area (area.Local d) area.M = inr (λ s. cc)
same_area (area.Local d) (area.Cell e) = inr (λ s. cc)
same_area (area.Local d) (area.Db e) = inr (λ s. cc)
same_area (area.Cell d) area.I = inr (λ s. cc)
same_area (area.Cell d) area.Q = inr (λ s. cc)
same_area (area.Cell d) area.M = inr (λ s. cc)
same_area (area.Cell d) (area.Local e) = inr (λ s. cc)
same_area (area.Cell d) (area.Db e) = inr (λ s. cc)
same_area (area.Db d) area.I = inr (λ s. cc)
same_area (area.Db d) area.Q = inr (λ s. cc)
same_area (area.Db d) area.M = inr (λ s. cc)
same_area (area.Db d) (area.Local e) = inr (λ s. cc)
same_area (area.Db d) (area.Cell e) = inr (λ s. cc)

-- a memory of some blocks stays one where an area has other bytes, as many
memory_with : (a : Area) (new bytes : List ℕ) (m : Contents) (blocks : List DataBlock)
    → bytes_of a m ≡ Some bytes → ((size : ℕ) → IsArea size bytes → IsArea size new)
    → IsMemoryOf blocks m.areas → IsMemoryOf blocks (with_bytes a new m).areas
memory_with area.I new bytes m blocks h f v =
    let same : m.areas.inputs ≡ bytes = cc in
    record { inputs = f INPUT_BYTES (subst (IsArea INPUT_BYTES) same v.inputs); outputs = v.outputs; markers = v.markers; matching = v.matching }
memory_with area.Q new bytes m blocks h f v =
    let same : m.areas.outputs ≡ bytes = cc in
    record { inputs = v.inputs; outputs = f OUTPUT_BYTES (subst (IsArea OUTPUT_BYTES) same v.outputs); markers = v.markers; matching = v.matching }
memory_with area.M new bytes m blocks h f v =
    let same : m.areas.markers ≡ bytes = cc in
    record { inputs = v.inputs; outputs = v.outputs; markers = f MARKER_BYTES (subst (IsArea MARKER_BYTES) same v.markers); matching = v.matching }
memory_with (area.Local d) new bytes m blocks h f v = v
memory_with (area.Cell d) new bytes m blocks h f v = v
memory_with (area.Db n) new bytes m blocks h f v =
    record { inputs = v.inputs; outputs = v.outputs; markers = v.markers; matching = match_with n new bytes m.areas.blocks blocks h f v.matching }

-- The tests of an access

passed : (t : Bool) (f : Fault) (o : Option Fault) → (if t then Some f else o) ≡ None → (t ≡ false) × (o ≡ None)
passed true f o e = cc
passed false f o e = (refl, e)

-- an access that meets no fault has a bit number that its width has, and its bytes are there
record Passed (p : Place) (w : Width) (m : Contents) : Type 0 where
  aligned : is_unaligned w p.bit ≡ false
  bytes : List ℕ
  there : bytes_of p.area m ≡ Some bytes
  room : p.byte + bytes_wide w ≤ length bytes

some_byte : (w : Width) → 1 ≤ bytes_wide w
some_byte width.Bit = omega arith
some_byte width.Byte = omega arith
some_byte width.Word = omega arith
some_byte width.Dword = omega arith

bytes_found : (w : Width) (byte : ℕ) (o : Option (List ℕ)) → nat_lt (length (or_none o)) (byte + bytes_wide w) ≡ false
    → (bytes : List ℕ) × (o ≡ Some bytes) × (byte + bytes_wide w ≤ length bytes)
bytes_found w byte None e = let some = some_byte w in let none : byte + bytes_wide w ≤ 0 = grind (arith, nat_tests) in absurd (omega arith)
bytes_found w byte (Some bytes) e = (bytes, refl, grind (arith, nat_tests))

passes : (p : Place) (w : Width) (m : Contents) → fault_of (aim_of_place p) w m ≡ None → Passed p w m
passes p w m e =
    let closed = passed (is_closed (Some p.area)) DbNotOpen _ e in
    let missing = passed (is_missing (Some p.area) m) DbMissing _ closed.1 in
    let aligned = passed (is_unaligned w p.bit) Alignment _ missing.1 in
    let within = passed (nat_lt (length (or_none (bytes_of p.area m))) (p.byte + bytes_wide w)) AreaLength None aligned.1 in
    let found = bytes_found w p.byte (bytes_of p.area m) within.0 in
    record { aligned = aligned.0; bytes = found.0; there = found.1; room = found.2 }

-- Writes

-- what a write that is not refused gives
record Wrote (p : Place) (w : Width) (new : List ℕ → List ℕ) (before after : Contents) : Type 0 where
  passed : Passed p w before
  gives : write_bytes p passed.bytes (new passed.bytes) before ≡ after

not_refused : (f : Option Fault) (bytes : List ℕ) (g : List ℕ → Contents) (after : Contents)
    → and_then (unless f bytes) (λ b. Ok (g b)) ≡ Ok after → (f ≡ None) × (g bytes ≡ after)
not_refused None bytes g after e = (refl, cc)
not_refused (Some f) bytes g after e = cc

wrote : (p : Place) (w : Width) (new : List ℕ → List ℕ) (before after : Contents)
    → and_then (bytes_for_access p w before) (λ bytes. Ok (write_bytes p bytes (new bytes) before)) ≡ Ok after → Wrote p w new before after
wrote p w new before after e =
    let done = not_refused (fault_of (aim_of_place p) w before) (bytes_there (Some p.area) before) (λ bytes. write_bytes p bytes (new bytes) before) after e in
    let free = passes p w before done.0 in
    let same : bytes_there (Some p.area) before ≡ free.bytes = ap or_none free.there in
    record { passed = free; gives = subst (λ bytes. write_bytes p bytes (new bytes) before ≡ after) same done.1 }

-- as many bytes are written as the width reaches
abbrev IsWide : Width → (List ℕ → List ℕ) → Type 0
IsWide w new = (bytes : List ℕ) → length (new bytes) ≡ bytes_wide w

-- the bytes of the area after a write
abbrev bytes_after : (p : Place) (w : Width) (new : List ℕ → List ℕ) (before after : Contents) → Wrote p w new before after → List ℕ
bytes_after p w new before after done = overwrite done.passed.bytes p.byte (new done.passed.bytes)

area_after : (p : Place) (w : Width) (new : List ℕ → List ℕ) (before after : Contents)
    → (done : Wrote p w new before after) → bytes_of p.area after ≡ Some (bytes_after p w new before after done)
area_after p w new before after done =
    ap (bytes_of p.area) (sym done.gives)
    ∙ bytes_written p.area (bytes_after p w new before after done) done.passed.bytes before done.passed.there

others_after : (p : Place) (w : Width) (new : List ℕ → List ℕ) (before after : Contents)
    → Wrote p w new before after → (a : Area) → a ≢ p.area → bytes_of a after ≡ bytes_of a before
others_after p w new before after done a apart =
    ap (bytes_of a) (sym done.gives) ∙ bytes_kept p.area a (bytes_after p w new before after done) before apart

room_for : (p : Place) (w : Width) (new : List ℕ → List ℕ) (before after : Contents) → IsWide w new
    → (done : Wrote p w new before after) → p.byte + length (new done.passed.bytes) ≤ length done.passed.bytes
room_for p w new before after wide done = let same = wide done.passed.bytes in let room = done.passed.room in omega arith

-- as many bytes, or none
record Alike (one other : Option (List ℕ)) : Type 0 where
  missing : is_none one ≡ is_none other
  sized : length (or_none one) ≡ length (or_none other)

alike_after : (p : Place) (w : Width) (new : List ℕ → List ℕ) (before after : Contents) → IsWide w new
    → Wrote p w new before after → (a : Area) → Alike (bytes_of a after) (bytes_of a before)
alike_after p w new before after wide done a = ⊎_elim here there (same_area a p.area)
  where
    here : a ≡ p.area → Alike (bytes_of a after) (bytes_of a before)
    here e =
        subst (λ (b : Area). Alike (bytes_of b after) (bytes_of b before)) (sym e)
        (rw (area_after p w new before after done, done.passed.there)
        (record { missing = refl; sized = length_replaced done.passed.bytes p.byte (new done.passed.bytes) (room_for p w new before after wide done) }))

    there : (a ≡ p.area → ⊥) → Alike (bytes_of a after) (bytes_of a before)
    there apart = rw (others_after p w new before after done a apart) (record { missing = refl; sized = refl })

missing_bytes : (o : Option DataBlock) → is_none o ≡ is_none (bytes_in o)
missing_bytes None = refl
missing_bytes (Some b) = refl

same_missing : (a : Area) (before after : Contents) → is_none (bytes_of a after) ≡ is_none (bytes_of a before)
    → is_missing (Some a) after ≡ is_missing (Some a) before
same_missing area.I before after e = refl
same_missing area.Q before after e = refl
same_missing area.M before after e = refl
same_missing (area.Local d) before after e = refl
same_missing (area.Cell d) before after e = refl
same_missing (area.Db n) before after e = missing_bytes (block_of n after.areas.blocks) ∙ e ∙ sym (missing_bytes (block_of n before.areas.blocks))

fault_as : (area : Option Area) (byte x : ℕ) (w : Width) (before after : Contents) → ((a : Area) → Alike (bytes_of a after) (bytes_of a before))
    → fault_of (record { area = area; byte = byte; bit = x }) w after ≡ fault_of (record { area = area; byte = byte; bit = x }) w before
fault_as None byte x w before after alike = refl
fault_as (Some a) byte x w before after alike = rw (same_missing a before after (alike a).missing, (alike a).sized) refl

faults_after : (p : Place) (w : Width) (new : List ℕ → List ℕ) (before after : Contents) → IsWide w new
    → Wrote p w new before after → (aim : Aim) (v : Width) → fault_of aim v after ≡ fault_of aim v before
faults_after p w new before after wide done aim v = fault_as aim.area aim.byte aim.bit v before after (alike_after p w new before after wide done)

-- what a read gives hangs on its fault and on what it takes from the bytes of its area
read_as : {V : Type 0} → (f g : Option Fault) (bytes others : List ℕ) (take : List ℕ → V) → f ≡ g → take bytes ≡ take others
    → and_then (unless f bytes) (λ b. Ok (take b)) ≡ and_then (unless g others) (λ b. Ok (take b))
read_as {V = V} f g bytes others take e same =
    subst (λ (h : Option Fault). and_then {B = V} (unless f bytes) (λ b. Ok (take b)) ≡ and_then {B = V} (unless h others) (λ b. Ok (take b))) e (by f)
  where
    by : (h : Option Fault) → and_then {B = V} (unless h bytes) (λ b. Ok (take b)) ≡ and_then {B = V} (unless h others) (λ b. Ok (take b))
    by None = ap Ok same
    by (Some h) = refl

-- the place itself was read at, so it meets no fault
free : (p : Place) (w : Width) (new : List ℕ → List ℕ) (before after : Contents)
    → and_then (bytes_for_access p w before) (λ bytes. Ok (write_bytes p bytes (new bytes) before)) ≡ Ok after → fault_of (aim_of_place p) w before ≡ None
free p w new before after e =
    (not_refused (fault_of (aim_of_place p) w before) (bytes_there (Some p.area) before) (λ bytes. write_bytes p bytes (new bytes) before) after e).0

-- what was written is read back, where the new bytes give it
read_back : {V : Type 0} → (p : Place) (w : Width) (new : List ℕ → List ℕ) (take : List ℕ → V) (v : V) (before after : Contents) → IsWide w new
    → ((bytes : List ℕ) → p.byte + length (new bytes) ≤ length bytes → take (overwrite bytes p.byte (new bytes)) ≡ v)
    → and_then (bytes_for_access p w before) (λ bytes. Ok (write_bytes p bytes (new bytes) before)) ≡ Ok after
    → and_then (bytes_for_access p w after) (λ bytes. Ok (take bytes)) ≡ Ok v
read_back p w new take v before after wide gives e =
    let done = wrote p w new before after e in
    let none : fault_of (aim_of_place p) w after ≡ None = faults_after p w new before after wide done (aim_of_place p) w ∙ free p w new before after e in
    let there : bytes_there (Some p.area) after ≡ bytes_after p w new before after done = ap or_none (area_after p w new before after done) in
    read_as (fault_of (aim_of_place p) w after) None (bytes_there (Some p.area) after) (bytes_after p w new before after done) take none (ap take there)
    ∙ ap Ok (gives done.passed.bytes (room_for p w new before after wide done))

-- a byte outside those that are written is as it was
byte_stays : (p q : Place) (w : Width) (new : List ℕ → List ℕ) (before after : Contents) → IsWide w new → Wrote p w new before after → IsOutside p w q
    → byte_at (bytes_there (Some q.area) after) q.byte ≡ byte_at (bytes_there (Some q.area) before) q.byte
byte_stays p q w new before after wide done outside = ⊎_elim here there (same_area q.area p.area)
  where
    here : q.area ≡ p.area → byte_at (bytes_there (Some q.area) after) q.byte ≡ byte_at (bytes_there (Some q.area) before) q.byte
    here e =
        let apart : (q.byte < p.byte) ⊎ (p.byte + length (new done.passed.bytes) ≤ q.byte) =
        subst (λ count. (q.byte < p.byte) ⊎ (p.byte + count ≤ q.byte)) (sym (wide done.passed.bytes)) (outside e) in
        subst (λ (a : Area). byte_at (bytes_there (Some a) after) q.byte ≡ byte_at (bytes_there (Some a) before) q.byte) (sym e)
        (rw (area_after p w new before after done, done.passed.there)
        (other_byte done.passed.bytes p.byte (new done.passed.bytes) q.byte (room_for p w new before after wide done) apart))

    there : (q.area ≡ p.area → ⊥) → byte_at (bytes_there (Some q.area) after) q.byte ≡ byte_at (bytes_there (Some q.area) before) q.byte
    there apart = ap (λ o. byte_at (or_none o) q.byte) (others_after p w new before after done q.area apart)

byte_reads_as_before : (p q : Place) (w : Width) (new : List ℕ → List ℕ) (before after : Contents) → IsWide w new → IsOutside p w q
    → and_then (bytes_for_access p w before) (λ bytes. Ok (write_bytes p bytes (new bytes) before)) ≡ Ok after → read_byte q after ≡ read_byte q before
byte_reads_as_before p q w new before after wide outside e =
    let done = wrote p w new before after e in
    read_as (fault_of (aim_of_place q) width.Byte after) (fault_of (aim_of_place q) width.Byte before)
    (bytes_there (Some q.area) after) (bytes_there (Some q.area) before) (λ bytes. byte_at bytes q.byte)
    (faults_after p w new before after wide done (aim_of_place q) width.Byte) (byte_stays p q w new before after wide done outside)

sizes_after : (p : Place) (w : Width) (new : List ℕ → List ℕ) (before after : Contents) → IsWide w new
    → and_then (bytes_for_access p w before) (λ bytes. Ok (write_bytes p bytes (new bytes) before)) ≡ Ok after
    → ((a : Area) → length (bytes_there (Some a) after) ≡ length (bytes_there (Some a) before))
    × ((aim : Aim) (v : Width) → fault_of aim v after ≡ fault_of aim v before)
sizes_after p w new before after wide e =
    let done = wrote p w new before after e in
    (λ a. (alike_after p w new before after wide done a).sized, faults_after p w new before after wide done)

memory_after : (p : Place) (w : Width) (new : List ℕ → List ℕ) (before after : Contents) (blocks : List DataBlock) → IsWide w new
    → (is_unaligned w p.bit ≡ false → (bytes : List ℕ) → p.byte < length bytes → All (λ b. b < 256) bytes → All (λ b. b < 256) (new bytes))
    → IsMemoryOf blocks before.areas
    → and_then (bytes_for_access p w before) (λ bytes. Ok (write_bytes p bytes (new bytes) before)) ≡ Ok after → IsMemoryOf blocks after.areas
memory_after p w new before after blocks wide small v e =
    let done = wrote p w new before after e in
    let within : p.byte < length done.passed.bytes = let some = some_byte w in let room = done.passed.room in omega arith in
    let kept : (size : ℕ) → IsArea size done.passed.bytes → IsArea size (bytes_after p w new before after done) =
    λ size a. record {
      sized = length_replaced done.passed.bytes p.byte (new done.passed.bytes) (room_for p w new before after wide done) ∙ a.sized;
      bytes = all_replaced done.passed.bytes p.byte (new done.passed.bytes) a.bytes (small done.passed.aligned done.passed.bytes within a.bytes);
    } in
    subst (λ (m : Contents). IsMemoryOf blocks m.areas) done.gives
    (memory_with p.area (bytes_after p w new before after done) done.passed.bytes before blocks done.passed.there kept v)

-- The four widths

bit_wide : (p : Place) (v : Bool) → IsWide width.Bit (λ bytes. byte_with (byte_at bytes p.byte) p.bit v ∷ [])
bit_wide p v bytes = refl

byte_wide : (v : ℕ) → IsWide width.Byte (λ bytes. v ∷ [])
byte_wide v bytes = refl

word_wide : (v : ℕ) → IsWide width.Word (λ bytes. bytes_of_word v)
word_wide v bytes = refl

dword_wide : (v : ℕ) → IsWide width.Dword (λ bytes. bytes_of_dword v)
dword_wide v bytes = refl

pub bits_read_back : ReadsBack read_bit write_bit
bits_read_back p v before after e =
    read_back p width.Bit (λ bytes. byte_with (byte_at bytes p.byte) p.bit v ∷ [])
    (λ bytes. bit_of_byte (byte_at bytes p.byte) p.bit) v before after (bit_wide p v)
    (λ bytes room.
    ap (λ b. bit_of_byte b p.bit) (new_byte bytes p.byte (byte_with (byte_at bytes p.byte) p.bit v ∷ []) 0 p.byte room (omega arith) (omega arith))
    ∙ bit_written (byte_at bytes p.byte) p.bit v) e

pub bytes_read_back : ReadsBack read_byte write_byte
bytes_read_back p v before after e =
    read_back p width.Byte (λ bytes. v ∷ []) (λ bytes. byte_at bytes p.byte) v before after (byte_wide v)
    (λ bytes room. new_byte bytes p.byte (v ∷ []) 0 p.byte room (omega arith) (omega arith)) e

word_given : (v i : ℕ) (bytes : List ℕ) → i + 2 ≤ length bytes → word_at (overwrite bytes i (bytes_of_word v)) i ≡ v
word_given v i bytes room =
    let high : get_or (overwrite bytes i (bytes_of_word v)) i 0 ≡ v / 256 = new_byte bytes i (bytes_of_word v) 0 i room (omega arith) (omega arith) in
    let low : get_or (overwrite bytes i (bytes_of_word v)) (i + 1) 0 ≡ v % 256 =
    new_byte bytes i (bytes_of_word v) 1 (i + 1) room (omega arith) (omega arith) in
    omega arith

pub words_read_back : ReadsBack read_word write_word
words_read_back p v before after e =
    read_back p width.Word (λ bytes. bytes_of_word v) (λ bytes. word_at bytes p.byte) v before after (word_wide v) (word_given v p.byte) e

dword_given : (v i : ℕ) (bytes : List ℕ) → i + 4 ≤ length bytes → dword_at (overwrite bytes i (bytes_of_dword v)) i ≡ v
dword_given v i bytes room =
    let highest : get_or (overwrite bytes i (bytes_of_dword v)) i 0 ≡ v / 2 ^ 24 = new_byte bytes i (bytes_of_dword v) 0 i room (omega arith) (omega arith) in
    let high : get_or (overwrite bytes i (bytes_of_dword v)) (i + 1) 0 ≡ v / 2 ^ 16 % 256 =
    new_byte bytes i (bytes_of_dword v) 1 (i + 1) room (omega arith) (omega arith) in
    let low : get_or (overwrite bytes i (bytes_of_dword v)) (i + 2) 0 ≡ v / 2 ^ 8 % 256 =
    new_byte bytes i (bytes_of_dword v) 2 (i + 2) room (omega arith) (omega arith) in
    let lowest : get_or (overwrite bytes i (bytes_of_dword v)) (i + 3) 0 ≡ v % 256 =
    new_byte bytes i (bytes_of_dword v) 3 (i + 3) room (omega arith) (omega arith) in
    omega arith

pub dwords_read_back : ReadsBack read_dword write_dword
dwords_read_back p v before after e =
    read_back p width.Dword (λ bytes. bytes_of_dword v) (λ bytes. dword_at bytes p.byte) v before after (dword_wide v) (dword_given v p.byte) e

pub bits_leave_bytes : OtherBytesStay width.Bit write_bit
bits_leave_bytes p q v before after outside e =
    byte_reads_as_before p q width.Bit (λ bytes. byte_with (byte_at bytes p.byte) p.bit v ∷ []) before after (bit_wide p v) outside e

pub bytes_leave_bytes : OtherBytesStay width.Byte write_byte
bytes_leave_bytes p q v before after outside e = byte_reads_as_before p q width.Byte (λ bytes. v ∷ []) before after (byte_wide v) outside e

pub words_leave_bytes : OtherBytesStay width.Word write_word
words_leave_bytes p q v before after outside e = byte_reads_as_before p q width.Word (λ bytes. bytes_of_word v) before after (word_wide v) outside e

pub dwords_leave_bytes : OtherBytesStay width.Dword write_dword
dwords_leave_bytes p q v before after outside e = byte_reads_as_before p q width.Dword (λ bytes. bytes_of_dword v) before after (dword_wide v) outside e

pub bits_leave_sizes : SizesStay write_bit
bits_leave_sizes p v before after e = sizes_after p width.Bit (λ bytes. byte_with (byte_at bytes p.byte) p.bit v ∷ []) before after (bit_wide p v) e

pub bytes_leave_sizes : SizesStay write_byte
bytes_leave_sizes p v before after e = sizes_after p width.Byte (λ bytes. v ∷ []) before after (byte_wide v) e

pub words_leave_sizes : SizesStay write_word
words_leave_sizes p v before after e = sizes_after p width.Word (λ bytes. bytes_of_word v) before after (word_wide v) e

pub dwords_leave_sizes : SizesStay write_dword
dwords_leave_sizes p v before after e = sizes_after p width.Dword (λ bytes. bytes_of_dword v) before after (dword_wide v) e

one_small : (b : ℕ) (bs : List ℕ) → b < 256 → All (λ n. n < 256) bs → All (λ n. n < 256) (b ∷ bs)
one_small b bs h rest = All-cons (λ n. n < 256) b bs h rest

none_small : All (λ n. n < 256) []
none_small = All-nil (λ n. n < 256)

pub bits_leave_memories : MemoriesStay AnyBit write_bit
bits_leave_memories p v before after blocks fits memory e =
    memory_after p width.Bit (λ bytes. byte_with (byte_at bytes p.byte) p.bit v ∷ []) before after blocks (bit_wide p v)
    (λ aligned bytes within all.
    let bit : p.bit < 8 = grind (arith, nat_tests) in
    one_small (byte_with (byte_at bytes p.byte) p.bit v) [] (byte_below (byte_at bytes p.byte) p.bit v (all p.byte 0 within) bit) none_small) memory e

pub bytes_leave_memories : MemoriesStay IsByte write_byte
bytes_leave_memories p v before after blocks fits memory e =
    memory_after p width.Byte (λ bytes. v ∷ []) before after blocks (byte_wide v) (λ aligned bytes within all. one_small v [] (omega arith) none_small) memory e

pub words_leave_memories : MemoriesStay IsWord write_word
words_leave_memories p v before after blocks fits memory e =
    memory_after p width.Word (λ bytes. bytes_of_word v) before after blocks (word_wide v)
    (λ aligned bytes within all. one_small (v / 256) (v % 256 ∷ []) (omega arith) (one_small (v % 256) [] (omega arith) none_small)) memory e

pub dwords_leave_memories : MemoriesStay IsDword write_dword
dwords_leave_memories p v before after blocks fits memory e =
    memory_after p width.Dword (λ bytes. bytes_of_dword v) before after blocks (dword_wide v)
    (λ aligned bytes within all.
    one_small (v / 2 ^ 24) (v / 2 ^ 16 % 256 ∷ v / 2 ^ 8 % 256 ∷ v % 256 ∷ []) (omega arith)
    (one_small (v / 2 ^ 16 % 256) (v / 2 ^ 8 % 256 ∷ v % 256 ∷ []) (omega arith)
    (one_small (v / 2 ^ 8 % 256) (v % 256 ∷ []) (omega arith) (one_small (v % 256) [] (omega arith) none_small)))) memory e

-- Every other bit

-- the bit of another place in the byte that is written
bit_in_byte : (p : Place) (y : ℕ) (v : Bool) (before after : Contents) → y ≢ p.bit
    → (done : Wrote p width.Bit (λ bytes. byte_with (byte_at bytes p.byte) p.bit v ∷ []) before after)
    → bit_of_byte (byte_at (bytes_there (Some p.area) after) p.byte) y ≡ bit_of_byte (byte_at (bytes_there (Some p.area) before) p.byte) y
bit_in_byte p y v before after apart done =
    let new : List ℕ → List ℕ = λ bytes. byte_with (byte_at bytes p.byte) p.bit v ∷ [] in
    let written : byte_at (bytes_there (Some p.area) after) p.byte ≡ byte_with (byte_at done.passed.bytes p.byte) p.bit v =
    ap (λ o. byte_at (or_none o) p.byte) (area_after p width.Bit new before after done)
    ∙ new_byte done.passed.bytes p.byte (new done.passed.bytes) 0 p.byte
    (room_for p width.Bit new before after (bit_wide p v) done) (omega arith) (omega arith) in
    ap (λ b. bit_of_byte b y) written
    ∙ bit_kept (byte_at done.passed.bytes p.byte) p.bit y v apart
    ∙ ap (λ o. bit_of_byte (byte_at (or_none o) p.byte) y) (sym done.passed.there)

-- another place is in another byte, or at another bit of the same
elsewhere : (p q : Place) → q ≢ p → IsOutside p width.Bit q ⊎ ((q.area ≡ p.area) × (q.byte ≡ p.byte) × (q.bit ≢ p.bit))
elsewhere p q apart =
    ⊎_elim
    (λ (a : q.area ≡ p.area).
    ⊎_elim
    (λ (b : q.byte ≡ p.byte). inr (a, b, λ (x : q.bit ≡ p.bit). apart (same q.area p.area q.byte p.byte q.bit p.bit a b x)))
    (λ (b : q.byte ≡ p.byte → ⊥). inl (λ c. sides b))
    (cases_eq q.byte p.byte))
    (λ (a : q.area ≡ p.area → ⊥). inl (λ c. absurd (a c)))
    (same_area q.area p.area)
  where
    same : (a b : Area) (i j x y : ℕ) → a ≡ b → i ≡ j → x ≡ y
        → ◌≡◌ {A = Place} (record { area = a; byte = i; bit = x }) (record { area = b; byte = j; bit = y })
    same a b i j x y e f g = rw (e, f, g) refl

    sides : (q.byte ≡ p.byte → ⊥) → (q.byte < p.byte) ⊎ (p.byte + 1 ≤ q.byte)
    sides b =
        ⊎_elim (λ (e : q.byte ≡ p.byte). absurd (b e))
        (⊎_elim (λ (l : q.byte < p.byte). inl l) (λ (l : p.byte < q.byte). inr (omega arith))) (cases_order q.byte p.byte)

pub bits_leave_bits : OtherBitsStay
bits_leave_bits p q v before after apart e =
    read_as (fault_of (aim_of_place q) width.Bit after) (fault_of (aim_of_place q) width.Bit before)
    (bytes_there (Some q.area) after) (bytes_there (Some q.area) before) (λ bytes. bit_of_byte (byte_at bytes q.byte) q.bit)
    (faults_after p width.Bit new before after (bit_wide p v) done (aim_of_place q) width.Bit)
    (⊎_elim
    (λ (outside : IsOutside p width.Bit q). ap (λ b. bit_of_byte b q.bit) (byte_stays p q width.Bit new before after (bit_wide p v) done outside))
    (λ (inside : (q.area ≡ p.area) × (q.byte ≡ p.byte) × (q.bit ≢ p.bit)).
    subst (λ (a : Area). bit_of_byte (byte_at (bytes_there (Some a) after) q.byte) q.bit ≡ bit_of_byte (byte_at (bytes_there (Some a) before) q.byte) q.bit)
    (sym inside.0)
    (subst (λ i. bit_of_byte (byte_at (bytes_there (Some p.area) after) i) q.bit ≡ bit_of_byte (byte_at (bytes_there (Some p.area) before) i) q.bit)
    (sym inside.1)
    (bit_in_byte p q.bit v before after inside.2 done)))
    (elsewhere p q apart))
  where
    new : List ℕ → List ℕ
    new bytes = byte_with (byte_at bytes p.byte) p.bit v ∷ []

    done : Wrote p width.Bit new before after
    done = wrote p width.Bit new before after e

-- Each byte outside those that are written stays, whether its area ends before it or not

pub bits_leave_byte : (p q : Place) (v : Bool) (before after : Contents) → IsOutside p width.Bit q → write_bit p v before ≡ Ok after
    → byte_at (bytes_there (Some q.area) after) q.byte ≡ byte_at (bytes_there (Some q.area) before) q.byte
bits_leave_byte p q v before after outside e =
    let new : List ℕ → List ℕ = λ bytes. byte_with (byte_at bytes p.byte) p.bit v ∷ [] in
    byte_stays p q width.Bit new before after (bit_wide p v) (wrote p width.Bit new before after e) outside

pub bytes_leave_byte : (p q : Place) (v : ℕ) (before after : Contents) → IsOutside p width.Byte q → write_byte p v before ≡ Ok after
    → byte_at (bytes_there (Some q.area) after) q.byte ≡ byte_at (bytes_there (Some q.area) before) q.byte
bytes_leave_byte p q v before after outside e =
    byte_stays p q width.Byte (λ bytes. v ∷ []) before after (byte_wide v) (wrote p width.Byte (λ bytes. v ∷ []) before after e) outside

pub words_leave_byte : (p q : Place) (v : ℕ) (before after : Contents) → IsOutside p width.Word q → write_word p v before ≡ Ok after
    → byte_at (bytes_there (Some q.area) after) q.byte ≡ byte_at (bytes_there (Some q.area) before) q.byte
words_leave_byte p q v before after outside e =
    byte_stays p q width.Word (λ bytes. bytes_of_word v) before after (word_wide v) (wrote p width.Word (λ bytes. bytes_of_word v) before after e) outside

pub dwords_leave_byte : (p q : Place) (v : ℕ) (before after : Contents) → IsOutside p width.Dword q → write_dword p v before ≡ Ok after
    → byte_at (bytes_there (Some q.area) after) q.byte ≡ byte_at (bytes_there (Some q.area) before) q.byte
dwords_leave_byte p q v before after outside e =
    byte_stays p q width.Dword (λ bytes. bytes_of_dword v) before after (dword_wide v)
    (wrote p width.Dword (λ bytes. bytes_of_dword v) before after e) outside
