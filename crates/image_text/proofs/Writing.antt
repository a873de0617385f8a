-- Bytes written one after another into an area.
use Rattle.std.proofs.Common.{◌≡◌, ℕ, zero, suc, ◌+◌, ◌^◌, ◌<◌, ◌≤◌, true, false, List, [], ◌∷◌, length, option_map, Option, Some, None, refl, sym, ap, ◌∙◌, subst, arith}
use Rattle.std.specs.Prelude.{All, nat_le}
use Rattle.std.proofs.lemmas.List.{length-replicate}
use Rattle.std.proofs.lemmas.Bool.Decides.{nat_tests}
use Rattle.memory_areas.specs.Access.{bytes_there, is_closed, or_none}
use Rattle.memory_areas.specs.Areas.{AreBlocks, Contents, block_of, bytes_in, bytes_of, fresh, numbers_of, overwrite, with_bytes}
use Rattle.memory_areas.specs.declared.data_block.DataBlock.{DataBlock}
use Rattle.memory_areas.specs.declared.place.Area.{Area}
use Rattle.memory_areas.specs.declared.place.Area.TheVariants as area
use Rattle.memory_areas.specs.declared.sizes.TheConstants.{MOST_BLOCK_BYTES}
use Rattle.image_text.specs.Image.{has_room, is_blank, values_of, with_bytes_from}
use Rattle.image_text.specs.inner.Fields.{IsNamed, IsUsable, pieces_left}
use Rattle.image_text.proofs.Blocks.{are_blocks, blocks_written, found_written, missing_zero, small_block, written_same, written_twice}
use Rattle.image_text.proofs.Replaced.{length_replaced, replaced_further, replaced_none}

-- an area has some bytes, and room for a count of them from one on
pub record Room (o : Option (List ℕ)) (at count : ℕ) : Type 0 where
  pub bytes : List ℕ
  pub there : o ≡ Some bytes
  pub fits : at + count ≤ length bytes

pub room : (o : Option (List ℕ)) (at count : ℕ) → has_room o at count ≡ true → Room o at count
room None at count h = cc
room (Some bytes) at count h = record { bytes = bytes; there = refl; fits = grind (arith, nat_tests) }

pub has : (o : Option (List ℕ)) (at count : ℕ) → Room o at count → has_room o at count ≡ true
has o at count r =
    let fits = r.fits in
    let test : nat_le (at + count) (length r.bytes) ≡ true = grind (arith, nat_tests) in
    ap (λ p. has_room p at count) r.there ∙ test

there_after : (a : Area) (x old : List ℕ) (m : Contents) → IsNamed a → bytes_of a m ≡ Some old → bytes_of a (with_bytes a x m) ≡ Some x
there_after area.I x old m n e = refl
there_after area.Q x old m n e = refl
there_after area.M x old m n e = refl
there_after (area.Db k) x old m n e = found_written k x old m.areas.blocks e
there_after (area.Local d) x old m n e = absurd n
there_after (area.Cell d) x old m n e = absurd n

twice : (a : Area) (x y : List ℕ) (m : Contents) → IsNamed a → with_bytes a y (with_bytes a x m) ≡ with_bytes a y m
twice area.I x y m n = refl
twice area.Q x y m n = refl
twice area.M x y m n = refl
twice (area.Db k) x y m n = ap (λ (bs : List DataBlock). record m { areas = record m.areas { blocks = bs } }) (written_twice k x y m.areas.blocks)
twice (area.Local d) x y m n = absurd n
twice (area.Cell d) x y m n = absurd n

same : (a : Area) (x : List ℕ) (m : Contents) → IsNamed a → bytes_of a m ≡ Some x → with_bytes a x m ≡ m
same area.I x m n e = let i : m.areas.inputs ≡ x = cc in ap (λ (xs : List ℕ). record m { areas = record m.areas { inputs = xs } }) (sym i)
same area.Q x m n e = let i : m.areas.outputs ≡ x = cc in ap (λ (xs : List ℕ). record m { areas = record m.areas { outputs = xs } }) (sym i)
same area.M x m n e = let i : m.areas.markers ≡ x = cc in ap (λ (xs : List ℕ). record m { areas = record m.areas { markers = xs } }) (sym i)
same (area.Db k) x m n e = ap (λ (bs : List DataBlock). record m { areas = record m.areas { blocks = bs } }) (written_same k x m.areas.blocks e)
same (area.Local d) x m n e = absurd n
same (area.Cell d) x m n e = absurd n

-- what is written, where the area is there
here : (a : Area) (at : ℕ) (values bytes : List ℕ) (m : Contents) → bytes_of a m ≡ Some bytes
    → with_bytes_from a at values m ≡ with_bytes a (overwrite bytes at values) m
here a at values bytes m e = ap (λ o. with_bytes a (overwrite (or_none o) at values) m) e

-- nothing more to write
pub written_none : (a : Area) (at : ℕ) (m : Contents) → IsNamed a → Room (bytes_of a m) at 0 → with_bytes_from a at [] m ≡ m
written_none a at m n r = here a at [] r.bytes m r.there ∙ ap (λ xs. with_bytes a xs m) (replaced_none r.bytes at) ∙ same a r.bytes m n r.there

-- the first byte is written, then the others
pub record Further (a : Area) (at v : ℕ) (more : List ℕ) (m after : Contents) : Type 0 where
  pub same : with_bytes_from a (at + 1) more after ≡ with_bytes_from a at (v ∷ more) m
  pub room : has_room (bytes_of a after) (at + 1) (length more) ≡ true

further_to : (a : Area) (at v : ℕ) (more : List ℕ) (m : Contents) → IsNamed a → Room (bytes_of a m) at (suc (length more))
    → Further a at v more m (with_bytes a (overwrite (bytes_there (Some a) m) at (v ∷ [])) m)
further_to a at v more m n r =
    let fits = r.fits in
    let there : bytes_there (Some a) m ≡ r.bytes = ap or_none r.there in
    let x = overwrite (bytes_there (Some a) m) at (v ∷ []) in
    let after = there_after a x r.bytes m n r.there in
    let one : x ≡ overwrite r.bytes at (v ∷ []) = ap (λ xs. overwrite xs at (v ∷ [])) there in
    let size : length x ≡ length r.bytes = ap length one ∙ length_replaced r.bytes at (v ∷ []) (omega arith) in
    record {
      same = here a (at + 1) more x (with_bytes a x m) after
          ∙ twice a x (overwrite x (at + 1) more) m n
          ∙ ap (λ xs. with_bytes a (overwrite xs (at + 1) more) m) one
          ∙ ap (λ xs. with_bytes a xs m) (replaced_further r.bytes at v more fits)
          ∙ sym (here a at (v ∷ more) r.bytes m r.there);
      room = has _ _ _ (record { bytes = x; there = after; fits = omega arith });
    }

pub further : (a : Area) (at v : ℕ) (more : List ℕ) (m after : Contents) → IsNamed a
    → has_room (bytes_of a m) at (suc (length more)) ≡ true → after ≡ with_bytes_from a at (v ∷ []) m → Further a at v more m after
further a at v more m after n h e = subst (Further a at v more m) (sym e) (further_to a at v more m n (room _ _ _ h))

-- one field further
pub field_done : (a : Area) (at v : ℕ) (more values : List ℕ) (m after whole : Contents) → IsNamed a
    → values ≡ v ∷ more → has_room (bytes_of a m) at (length values) ≡ true → after ≡ with_bytes_from a at (v ∷ []) m
    → with_bytes_from a at values m ≡ whole → Further a at v more m after × (with_bytes_from a (at + 1) more after ≡ whole)
field_done a at v more values m after whole n e h f w =
    let next = further a at v more m after n (subst (λ vs. has_room (bytes_of a m) at (length vs) ≡ true) e h) f in
    (next, next.same ∙ ap (λ vs. with_bytes_from a at vs m) (sym e) ∙ w)

-- no field is left
pub fields_done : (a : Area) (at : ℕ) (left : List ℕ) (m whole : Contents) → IsNamed a → length left ≡ 0
    → has_room (bytes_of a m) at (length (or_none (values_of (pieces_left is_blank left)))) ≡ true
    → with_bytes_from a at (or_none (values_of (pieces_left is_blank left))) m ≡ whole → m ≡ whole
fields_done a at [] m whole n e h w = sym (written_none a at m n (room _ _ _ h)) ∙ w
fields_done a at (b ∷ rest) m whole n e h w = absurd (omega arith)

-- Usable memory

usable_with : (a : Area) (x bytes : List ℕ) (m : Contents) → IsNamed a → IsUsable m
    → bytes_of a m ≡ Some bytes → length x ≡ length bytes → IsUsable (with_bytes a x m)
usable_with area.I x bytes m n u e s =
    let i : m.areas.inputs ≡ bytes = cc in
    record { inputs = subst (λ (k : ℕ). k ≤ MOST_BLOCK_BYTES) (ap length i ∙ sym s) u.inputs; outputs = u.outputs; markers = u.markers; blocks = u.blocks }
usable_with area.Q x bytes m n u e s =
    let i : m.areas.outputs ≡ bytes = cc in
    record { inputs = u.inputs; outputs = subst (λ (k : ℕ). k ≤ MOST_BLOCK_BYTES) (ap length i ∙ sym s) u.outputs; markers = u.markers; blocks = u.blocks }
usable_with area.M x bytes m n u e s =
    let i : m.areas.markers ≡ bytes = cc in
    record { inputs = u.inputs; outputs = u.outputs; markers = subst (λ (k : ℕ). k ≤ MOST_BLOCK_BYTES) (ap length i ∙ sym s) u.markers; blocks = u.blocks }
usable_with (area.Db k) x bytes m n u e s =
    let small = subst (λ (j : ℕ). j ≤ MOST_BLOCK_BYTES) (sym s) (small_block k bytes m.areas.blocks u.blocks e) in
    record { inputs = u.inputs; outputs = u.outputs; markers = u.markers; blocks = blocks_written k x m.areas.blocks small u.blocks }
usable_with (area.Local d) x bytes m n u e s = absurd n
usable_with (area.Cell d) x bytes m n u e s = absurd n

-- a write leaves a memory usable
pub usable_written : (a : Area) (at : ℕ) (values : List ℕ) (m : Contents) → IsNamed a → IsUsable m
    → has_room (bytes_of a m) at (length values) ≡ true → IsUsable (with_bytes_from a at values m)
usable_written a at values m n u h =
    let r = room _ _ _ h in
    let there : bytes_there (Some a) m ≡ r.bytes = ap or_none r.there in
    usable_with a (overwrite (bytes_there (Some a) m) at values) r.bytes m n u r.there
    (ap (λ xs. length (overwrite xs at values)) there ∙ length_replaced r.bytes at values r.fits)

-- an area that is there is no larger than the largest data block, and is no block 0
pub small_there : (a : Area) (bytes : List ℕ) (m : Contents) → IsNamed a → IsUsable m → bytes_of a m ≡ Some bytes → length bytes ≤ MOST_BLOCK_BYTES
small_there area.I bytes m n u e = let i : m.areas.inputs ≡ bytes = cc in subst (λ xs. length xs ≤ MOST_BLOCK_BYTES) i u.inputs
small_there area.Q bytes m n u e = let i : m.areas.outputs ≡ bytes = cc in subst (λ xs. length xs ≤ MOST_BLOCK_BYTES) i u.outputs
small_there area.M bytes m n u e = let i : m.areas.markers ≡ bytes = cc in subst (λ xs. length xs ≤ MOST_BLOCK_BYTES) i u.markers
small_there (area.Db k) bytes m n u e = small_block k bytes m.areas.blocks u.blocks e
small_there (area.Local d) bytes m n u e = absurd n
small_there (area.Cell d) bytes m n u e = absurd n

open_block : (k : ℕ) (bytes : List ℕ) (m : Contents) → IsUsable m → bytes_of (area.Db k) m ≡ Some bytes → is_closed (Some (area.Db k)) ≡ false
open_block zero bytes m u e = let none : bytes_in (block_of 0 m.areas.blocks) ≡ None = ap bytes_in (missing_zero m.areas.blocks u.blocks) in cc
open_block (suc k) bytes m u e = grind (arith, nat_tests)

pub open_there : (a : Area) (bytes : List ℕ) (m : Contents) → IsUsable m → bytes_of a m ≡ Some bytes → is_closed (Some a) ≡ false
open_there area.I bytes m u e = refl
open_there area.Q bytes m u e = refl
open_there area.M bytes m u e = refl
open_there (area.Db k) bytes m u e = open_block k bytes m u e
open_there (area.Local d) bytes m u e = refl
open_there (area.Cell d) bytes m u e = refl

-- there is room for a count of bytes: the area is no block 0, and the bytes have numbers of 32 bits
pub ready : (a : Area) (at count : ℕ) (m : Contents) → IsNamed a → IsUsable m
    → has_room (bytes_of a m) at count ≡ true → (is_closed (Some a) ≡ false) × (at + count < 2 ^ 32)
ready a at count m n u h =
    let r = room _ _ _ h in
    let fits = r.fits in
    let small = small_there a r.bytes m n u r.there in
    (open_there a r.bytes m u r.there, omega arith)

pub count_is : (count : ℕ) (o : Option (List ℕ)) → Some count ≡ option_map length o → count ≡ length (or_none o)
count_is count None e = cc
count_is count (Some values) e = cc

-- a new memory is usable
pub usable_fresh : (blocks : List DataBlock) (m : Contents) → AreBlocks blocks → m ≡ fresh blocks → All (λ (n : ℕ). n < 2 ^ 16) (numbers_of blocks) → IsUsable m
usable_fresh blocks m a e h =
    let sound : IsUsable (fresh blocks) = record {
      inputs = simp length-replicate (omega arith);
      outputs = simp length-replicate (omega arith);
      markers = simp length-replicate (omega arith);
      blocks = are_blocks 1 blocks (omega arith) a.ascend a.sized h;
    } in
    subst IsUsable (sym e) sound
