-- Lines whose numbers are kept in so many bits.
use Rattle.std.proofs.Common.{◌≡◌, ℕ, ◌+◌, ◌-◌, ◌^◌, ◌<◌, ◌≤◌, ◌==◌, Bool, true, false, if◌then◌else◌, List, [], ◌∷◌, length, drop, option_map, Option, Some, None, Result, Ok, Err, refl, sym, ap, ◌∙◌, subst, arith}
use Rattle.std.specs.Prelude.{nat_le, nat_lt}
use Rattle.std.proofs.lemmas.Bool.Decides.{nat_tests}
use Rattle.std.specs.List.{slice_split}
use Rattle.std.specs.Str.Lines.{strip_carriage_return}
use Rattle.s7_base.specs.Tokens.{line_after}
use Rattle.s7_base.specs.declared.reason.Line.{Line}
use Rattle.digit_texts.specs.Digits.{capped_number}
use Rattle.memory_areas.specs.Areas.{Contents, bytes_in, bytes_of}
use Rattle.memory_areas.specs.declared.place.Area.{Area}
use Rattle.memory_areas.specs.declared.place.Area.TheVariants as area
use Rattle.memory_areas.specs.declared.sizes.TheConstants.{MOST_BLOCK_BYTES}
use Rattle.memory_areas.specs.Access.{and_then}
use Rattle.image_text.specs.Image.{AreaLine, bytes_at, has_room, is_blank, line_on, line_said, lines_on, nothing, says_nothing, area_line_of, area_line_said, values_of, values_said, with_bytes_from}
use Rattle.image_text.specs.inner.Fields.{IsNamed, IsUsable, LineDoes, area_kept, pieces_left, area_line_kept}
use Rattle.image_text.specs.declared.refusal.ImageRefusal.{ImageRefusal}
use Rattle.image_text.specs.declared.refusal.ImageRefusal.TheVariants.{OutsideArea}
use Rattle.image_text.proofs.Blocks.{missing_zero, missing_past}
use Rattle.image_text.proofs.Writing.{small_there}

-- a byte past 32 bits is outside every area
number_kept : (line : Line) (a : Area) (n : ℕ) (values bytes : List ℕ) (m : Contents) → length bytes ≤ MOST_BLOCK_BYTES
    → (if has_room (Some bytes) (capped_number n) (length values) then Ok (with_bytes_from a (capped_number n) values m) else Err (OutsideArea line))
    ≡ (if has_room (Some bytes) n (length values) then Ok (with_bytes_from a n values m) else Err (OutsideArea line))
number_kept line a n values bytes m h = by_test (nat_le n (2 ^ 32 - 1)) refl where
  by_test : (t : Bool) → nat_le n (2 ^ 32 - 1) ≡ t
      → (if has_room (Some bytes) (capped_number n) (length values) then Ok (with_bytes_from a (capped_number n) values m) else Err (OutsideArea line))
      ≡ (if has_room (Some bytes) n (length values) then Ok (with_bytes_from a n values m) else Err (OutsideArea line))
  by_test true e =
      let same : capped_number n ≡ n = grind (arith, nat_tests) in
      ap (λ i. if has_room (Some bytes) i (length values) then Ok (with_bytes_from a i values m) else Err (OutsideArea line)) same
  by_test false e =
      let past : nat_le (capped_number n + length values) (length bytes) ≡ false = grind (arith, nat_tests) in
      let too : nat_le (n + length values) (length bytes) ≡ false = grind (arith, nat_tests) in
      ap (λ (t : Bool). if t then Ok (with_bytes_from a (capped_number n) values m) else Err (OutsideArea line)) past
      ∙ sym (ap (λ (t : Bool). if t then Ok (with_bytes_from a n values m) else Err (OutsideArea line)) too)

-- the same where the area may not be there
there_kept : (line : Line) (a : Area) (n : ℕ) (values : List ℕ) (m : Contents) (o : Option (List ℕ))
    → bytes_of a m ≡ o → ((bytes : List ℕ) → o ≡ Some bytes → length bytes ≤ MOST_BLOCK_BYTES)
    → line_on line (bytes_at a (capped_number n) values) m ≡ line_on line (bytes_at a n values) m
there_kept line a n values m o e h =
    ap (λ p. if has_room p (capped_number n) (length values) then Ok (with_bytes_from a (capped_number n) values m) else Err (OutsideArea line)) e
    ∙ known o h
    ∙ sym (ap (λ p. if has_room p n (length values) then Ok (with_bytes_from a n values m) else Err (OutsideArea line)) e) where
      known : (p : Option (List ℕ)) → ((bytes : List ℕ) → p ≡ Some bytes → length bytes ≤ MOST_BLOCK_BYTES)
          → (if has_room p (capped_number n) (length values) then Ok (with_bytes_from a (capped_number n) values m) else Err (OutsideArea line))
          ≡ (if has_room p n (length values) then Ok (with_bytes_from a n values m) else Err (OutsideArea line))
      known None f = refl
      known (Some bytes) f = number_kept line a n values bytes m (f bytes refl)

-- a block past 16 bits is missing, as block 0 is
gone : (line : Line) (a b : Area) (n : ℕ) (values : List ℕ) (m : Contents) → bytes_of a m ≡ None
    → bytes_of b m ≡ None → line_on line (bytes_at a n values) m ≡ line_on line (bytes_at b n values) m
gone line a b n values m e f =
    ap (λ p. if has_room p n (length values) then Ok (with_bytes_from a n values m) else Err (OutsideArea line)) e
    ∙ sym (ap (λ p. if has_room p n (length values) then Ok (with_bytes_from b n values m) else Err (OutsideArea line)) f)

block_line : (line : Line) (k n : ℕ) (values : List ℕ) (m : Contents) → IsUsable m → (t : Bool) → nat_lt k (2 ^ 16) ≡ t
    → line_on line (bytes_at (area.Db (if t then k else 0)) n values) m ≡ line_on line (bytes_at (area.Db k) n values) m
block_line line k n values m u true e = refl
block_line line k n values m u false e =
    let past : 2 ^ 16 ≤ k = grind (arith, nat_tests) in
    gone line (area.Db 0) (area.Db k) n values m (ap bytes_in (missing_zero m.areas.blocks u.blocks))
    (ap bytes_in (missing_past k m.areas.blocks past u.blocks))

area_line : (line : Line) (a : Area) (n : ℕ) (values : List ℕ) (m : Contents) → IsUsable m
    → line_on line (bytes_at (area_kept a) n values) m ≡ line_on line (bytes_at a n values) m
area_line line area.I n values m u = refl
area_line line area.Q n values m u = refl
area_line line area.M n values m u = refl
area_line line (area.Db k) n values m u = block_line line k n values m u (nat_lt k (2 ^ 16)) refl
area_line line (area.Local d) n values m u = refl
area_line line (area.Cell d) n values m u = refl

said_kept : (line : Line) (a : Area) (n : ℕ) (o : Option (List ℕ)) (m : Contents) → IsNamed a → IsUsable m
    → line_on line (values_said (area_kept a) (capped_number n) o) m ≡ line_on line (values_said a n o) m
said_kept line a n None m i u = refl
said_kept line a n (Some values) m i u =
    area_line line a (capped_number n) values m u ∙ there_kept line a n values m (bytes_of a m) refl (λ bytes e. small_there a bytes m i u e)

-- what a line does is the same with its numbers kept
pub line_kept : (line : Line) (s : AreaLine) (m : Contents) → IsNamed s.area → IsUsable m
    → line_on line (area_line_said (Some (area_line_kept s))) m ≡ line_on line (area_line_said (Some s)) m
line_kept line s m i u = said_kept line s.area s.byte (values_of s.fields) m i u

kept_named : (a : Area) → IsNamed (area_kept a) → IsNamed a
kept_named area.I n = tt
kept_named area.Q n = tt
kept_named area.M n = tt
kept_named (area.Db k) n = tt
kept_named (area.Local d) n = n
kept_named (area.Cell d) n = n

-- what a line does is what the shape that was found does
pub line_found : (line : Line) (o : Option AreaLine) (v : AreaLine) (m : Contents) → Some v ≡ option_map area_line_kept o
    → IsNamed v.area → IsUsable m → line_on line (area_line_said (Some v)) m ≡ line_on line (area_line_said o) m
line_found line None v m e i u = cc
line_found line (Some s) v m e i u =
    let same : v ≡ area_line_kept s = cc in
    ap (λ x. line_on line (area_line_said (Some x)) m) same ∙ line_kept line s m (kept_named s.area (subst (λ (x : AreaLine). IsNamed x.area) same i)) u

-- a line that says something does what its shape says
pub line_spoken : (line : Line) (text : List ℕ) (m : Contents) → says_nothing text ≡ false
    → line_on line (line_said text) m ≡ line_on line (area_line_said (area_line_of (slice_split is_blank text))) m
line_spoken line text m e = ap (λ (t : Bool). line_on line (if t then nothing else area_line_said (area_line_of (slice_split is_blank text))) m) e

-- the first line of a text and the others
pub first_line : (line : ℕ) (rest text behind : List ℕ) (m : Contents) → slice_split (λ b. b == 10) rest ≡ text ∷ pieces_left (λ b. b == 10) behind
    → lines_on line (slice_split (λ b. b == 10) rest) m
    ≡ and_then (line_on (record { 0 = line }) (line_said (strip_carriage_return text)) m)
    (λ n. lines_on (line_after line) (pieces_left (λ b. b == 10) behind) n)
first_line line rest text behind m e = ap (λ ps. lines_on line ps m) e

pub left_behind : (p : ℕ → Bool) (behind : List ℕ) → 0 < length behind → pieces_left p behind ≡ slice_split p (drop 1 behind)
left_behind p [] h = absurd (omega arith)
left_behind p (b ∷ rest) h = refl

-- the lines after one that was not refused
pub line_done : (line next : ℕ) (rest text behind : List ℕ) (m after : Contents) (whole : Result Contents ImageRefusal)
    → slice_split (λ b. b == 10) rest ≡ text ∷ pieces_left (λ b. b == 10) behind → lines_on line (slice_split (λ b. b == 10) rest) m ≡ whole
    → LineDoes (line_on (record { 0 = line }) (line_said (strip_carriage_return text)) m) (Ok tt) after → next ≡ line_after line
    → lines_on next (pieces_left (λ b. b == 10) behind) after ≡ whole
line_done line next rest text behind m after whole e w d n =
    ap (λ i. lines_on i (pieces_left (λ b. b == 10) behind) after) n
    ∙ sym (ap (λ r. and_then r (λ k. lines_on (line_after line) (pieces_left (λ b. b == 10) behind) k)) d)
    ∙ sym (first_line line rest text behind m e) ∙ w
