-- A call finds the unit of the block that it finds: the names of units are as different as those of blocks.
use Rattle.std.proofs.Common.{◌≡◌, ℕ, zero, suc, ◌+◌, ◌%◌, ◌^◌, ◌<◌, ◌≤◌, Bool, true, false, ◌&&◌, cond, ◌==◌, List, [], ◌∷◌, length, map, Option, Some, None, refl, sym, ◌⊎◌, inl, inr, ⊎_elim, ap, ◌∙◌, subst, arith}
use Rattle.std.specs.Prelude.{All, IsSome, decimal, find, nat_lt, option_map, slice_get}
use Rattle.std.specs.List.{position_or_len}
use Rattle.std.specs.Char.{to_ascii_lowercase}
use Rattle.std.specs.Str.{bytes_eq, str_eq_ignore_ascii_case}
use Rattle.std.proofs.lemmas.Bool.{eqb-true, ltb-true, ltb-false}
use Rattle.std.proofs.lemmas.List.Folds.{find_at}
use Rattle.std.proofs.lemmas.Option.{slice_get_past}
use Rattle.std.proofs.lemmas.Bool.Decides.{nat_tests, same_from_decides, Decides-eqb, Decides-like}
use Rattle.std.proofs.lemmas.Fmt.{decimal_by_steps, decimal_injective}
use Rattle.std.proofs.lemmas.List.{map-append}
use Rattle.std.proofs.lemmas.Slice.Eq.{bytes_eq-Decides}
use Rattle.stl_tree.specs.Accepted.{IsAcceptedBlock, IsBlockNumber}
use Rattle.s7_base.specs.Numbers.{greatest}
use Rattle.stl_tree.specs.StlRun.{block_named, is_same_name}
use Rattle.stl_tree.specs.declared.program.Block.{Block}
use Rattle.memory_areas.specs.declared.call.BlockName.{BlockName}
use Rattle.memory_areas.specs.declared.call.BlockName.TheVariants as name
use Rattle.st_tree.specs.StRun.{called_name, is_meant, is_program, is_same_kind}
use Rattle.instruction_lowering.specs.inner.Lowering.{head_for}

-- Numbers in names

-- the number of a block has 16 bits
abbrev pub IsNumbered : BlockName → Type 0
IsNumbered (name.Ob n) = n < 2 ^ 16
IsNumbered (name.Fc n) = n < 2 ^ 16
IsNumbered (name.Fb n) = n < 2 ^ 16

-- a change of letters alone keeps numbers
module _ (change : ℕ → ℕ) (digit_stays : (n : ℕ) → n < 10 → change (48 + n) ≡ 48 + n) where
  pub decimal_stays : (n : ℕ) → n < 2 ^ 64 → map change (decimal n) ≡ decimal n
  decimal_stays =
      decimal_by_steps (λ n ds. map change ds ≡ ds)
      (λ n h. ap (λ d. d ∷ []) (digit_stays n h))
      (λ n ds h e. let last : n % 10 < 10 = omega arith in
      map-append change ds ((48 + n % 10) ∷ []) ∙ (rw (e, digit_stays (n % 10) last) refl))

  -- two numbers are spelled alike exactly where they are the same
  pub same_number : (m n : ℕ) → m < 2 ^ 64 → n < 2 ^ 64 → bytes_eq (map change (decimal m)) (map change (decimal n)) ≡ m == n
  same_number m n h k =
      ap (λ ds. bytes_eq ds (map change (decimal n))) (decimal_stays m h)
      ∙ ap (λ ds. bytes_eq (decimal m) ds) (decimal_stays n k)
      ∙ same_from_decides {P = m ≡ n} (bytes_eq (decimal m) (decimal n)) (m == n)
      (Decides-like (bytes_eq (decimal m) (decimal n)) (decimal_injective m n h k) (λ (e : m ≡ n). ap decimal e) (bytes_eq-Decides (decimal m) (decimal n)))
      (Decides-eqb m n)

lower_digit : (n : ℕ) → n < 10 → to_ascii_lowercase (48 + n) ≡ 48 + n
lower_digit n h = grind (arith, nat_tests)

-- a unit has the name of a call exactly where its block has it
same_name : (b called : BlockName) → IsNumbered b → IsNumbered called → str_eq_ignore_ascii_case (called_name b) (called_name called) ≡ is_same_name b called
same_name (name.Ob m) (name.Ob n) h k = same_number to_ascii_lowercase lower_digit m n (omega arith) (omega arith)
same_name (name.Fc m) (name.Fc n) h k = same_number to_ascii_lowercase lower_digit m n (omega arith) (omega arith)
same_name (name.Fb m) (name.Fb n) h k = same_number to_ascii_lowercase lower_digit m n (omega arith) (omega arith)
same_name (name.Ob m) (name.Fc n) h k = refl
same_name (name.Ob m) (name.Fb n) h k = refl
same_name (name.Fc m) (name.Ob n) h k = refl
same_name (name.Fc m) (name.Fb n) h k = refl
same_name (name.Fb m) (name.Ob n) h k = refl
same_name (name.Fb m) (name.Fc n) h k = refl

-- that of an accepted block has
pub numbered : (name : BlockName) → IsBlockNumber name → IsNumbered name
numbered (name.Ob n) h = omega (arith, h.1)
numbered (name.Fc n) h = omega arith
numbered (name.Fb n) h = omega arith

-- Blocks and units

-- the block of a name, the first where there are several
abbrev pub block_of : BlockName → List Block → Option Block
block_of called blocks = find (λ (b : Block). is_same_name b.name called) blocks

-- the block that stands at the position of a name
pub record IsAt (called : BlockName) (blocks : List Block) (i : ℕ) : Type 0 where
  pub block : Block
  pub found : block_of called blocks ≡ Some block
  pub there : slice_get blocks i ≡ Some block

at_position : (test : Bool) (k i : ℕ) → cond test (Some k) None ≡ Some i → k ≡ i
at_position true k i e = cc
at_position false k i e = absurd cc

within : (test : Bool) (k i : ℕ) → cond test (Some k) None ≡ Some i → test ≡ true
within true k i e = refl
within false k i e = absurd cc

some_there : (xs : List Block) (k : ℕ) → k < length xs → (b : Block) × (slice_get xs k ≡ Some b)
some_there [] k h = absurd (omega arith)
some_there (x ∷ xs) zero h = (x, refl)
some_there (x ∷ xs) (suc k) h = some_there xs k (omega arith)

-- the position of a name is that of a block
pub block_at : (called : BlockName) (blocks : List Block) (i : ℕ) → block_named called blocks ≡ Some i → IsAt called blocks i
block_at called blocks i e =
    let k : ℕ = position_or_len (λ (b : Block). is_same_name b.name called) blocks in
    let same : k ≡ i = at_position (nat_lt k (length blocks)) k i e in
    let small : k < length blocks = ltb-true k (length blocks) (within (nat_lt k (length blocks)) k i e) in
    let some = some_there blocks k small in
    record {
      block = some.0;
      found = find_at (λ (b : Block). is_same_name b.name called) blocks ∙ some.1;
      there = ap (λ (n : ℕ). slice_get blocks n) (sym same) ∙ some.1;
    }

no_block : (o : Option Block) → o ≡ None → IsSome o → ⊥
no_block None e h = cc
no_block (Some b) e h = cc

by_test : (called : BlockName) (blocks : List Block) (test : Bool)
    → nat_lt (position_or_len (λ (b : Block). is_same_name b.name called) blocks) (length blocks) ≡ test
    → IsSome (block_of called blocks) → IsSome (cond test (Some (position_or_len (λ (b : Block). is_same_name b.name called) blocks)) None)
by_test called blocks true e h = refl
by_test called blocks false e h =
    let k : ℕ = position_or_len (λ (b : Block). is_same_name b.name called) blocks in
    absurd
    (no_block (block_of called blocks) (find_at (λ (b : Block). is_same_name b.name called) blocks ∙ slice_get_past blocks k (ltb-false k (length blocks) e)) h)

-- a block that is there has a position
pub position_of : (called : BlockName) (blocks : List Block) → IsSome (block_of called blocks) → IsSome (block_named called blocks)
position_of called blocks h = by_test called blocks (nat_lt (position_or_len (λ (b : Block). is_same_name b.name called) blocks) (length blocks)) refl h

first_of : (P : Block → Type 0) (b : Block) (bs : List Block) → All P (b ∷ bs) → P b
first_of P b bs all = all 0 b (omega arith)

rest_of : (P : Block → Type 0) (b : Block) (bs : List Block) → All P (b ∷ bs) → All P bs
rest_of P b bs all k d h = all (suc k) d (omega arith)

and_true : (a : Bool) → (a && true) ≡ a
and_true true = refl
and_true false = refl

-- a call means the head of a block's unit exactly where it has the block's name
by_name : (b called : BlockName) → IsNumbered b → IsNumbered called
    → (str_eq_ignore_ascii_case (called_name b) (called_name called) && is_same_kind (is_program called) (is_program b)) ≡ is_same_name b called
by_name (name.Ob m) (name.Ob n) h k =
    and_true (str_eq_ignore_ascii_case (called_name (name.Ob m)) (called_name (name.Ob n))) ∙ same_name (name.Ob m) (name.Ob n) h k
by_name (name.Fc m) (name.Fc n) h k =
    and_true (str_eq_ignore_ascii_case (called_name (name.Fc m)) (called_name (name.Fc n))) ∙ same_name (name.Fc m) (name.Fc n) h k
by_name (name.Fb m) (name.Fb n) h k =
    and_true (str_eq_ignore_ascii_case (called_name (name.Fb m)) (called_name (name.Fb n))) ∙ same_name (name.Fb m) (name.Fb n) h k
by_name (name.Ob m) (name.Fc n) h k = refl
by_name (name.Ob m) (name.Fb n) h k = refl
by_name (name.Fc m) (name.Ob n) h k = refl
by_name (name.Fc m) (name.Fb n) h k = refl
by_name (name.Fb m) (name.Ob n) h k = refl
by_name (name.Fb m) (name.Fc n) h k = refl

pub meant : (program : List Block) (called : BlockName) → IsNumbered called → (b : Block) → IsAcceptedBlock b
    → is_meant called (head_for program b) ≡ is_same_name b.name called
meant program called h b accepted = by_name b.name called (numbered b.name accepted.number) h

-- Whatever is made of each block, and found by its name
module _ (A : Type 0) (of : Block → A) (test : A → Bool) where
  chosen : (found : Bool) (b : Block) (o : Option Block) (o' : Option A) → o' ≡ option_map of o
      → cond found (Some (of b)) o' ≡ option_map of (cond found (Some b) o)
  chosen true b o o' e = refl
  chosen false b o o' e = e

  pub found_of : (called : BlockName) → ((b : Block) → IsAcceptedBlock b → test (of b) ≡ is_same_name b.name called)
      → (blocks : List Block) → All IsAcceptedBlock blocks
      → find test (map of blocks) ≡ option_map of (block_of called blocks)
  found_of called same [] all = refl
  found_of called same (b ∷ bs) all =
      ap (λ found. cond found (Some (of b)) (find test (map of bs))) (same b (first_of IsAcceptedBlock b bs all))
      ∙ chosen (is_same_name b.name called) b (block_of called bs) (find test (map of bs)) (found_of called same bs (rest_of IsAcceptedBlock b bs all))

-- a block that is found is the first one, or one of the others
at_find : (test : Bool) (x b : Block) (o : Option Block) → cond test (Some x) o ≡ Some b → ((test ≡ true) × (x ≡ b)) ⊎ (o ≡ Some b)
at_find true x b o e = inl (refl, cc)
at_find false x b o e = inr e

-- what holds of each block holds of the one that is found
pub found_each : (P : Block → Type 0) (called : BlockName) (blocks : List Block) (b : Block) → block_of called blocks ≡ Some b → All P blocks → P b
found_each P called [] b e all = cc
found_each P called (x ∷ xs) b e all =
    ⊎_elim (λ (h : (is_same_name x.name called ≡ true) × (x ≡ b)). subst P h.1 (first_of P x xs all))
    (λ (h : block_of called xs ≡ Some b). found_each P called xs b h (rest_of P x xs all))
    (at_find (is_same_name x.name called) x b (block_of called xs) e)

-- it has the name that was called
pub found_named : (called : BlockName) (blocks : List Block) (b : Block) → block_of called blocks ≡ Some b → is_same_name b.name called ≡ true
found_named called [] b e = cc
found_named called (x ∷ xs) b e =
    ⊎_elim (λ (h : (is_same_name x.name called ≡ true) × (x ≡ b)). subst (λ (y : Block). is_same_name y.name called ≡ true) h.1 h.0)
    (λ (h : block_of called xs ≡ Some b). found_named called xs b h)
    (at_find (is_same_name x.name called) x b (block_of called xs) e)

-- it is not larger than the largest
pub found_size : (called : BlockName) (blocks : List Block) (b : Block) → block_of called blocks ≡ Some b
    → length b.body ≤ greatest (map (λ (y : Block). length y.body) blocks)
found_size called [] b e = cc
found_size called (x ∷ xs) b e =
    ⊎_elim (λ (h : (is_same_name x.name called ≡ true) × (x ≡ b)). let same : length x.body ≡ length b.body =
    ap (λ (y : Block). length y.body) h.1 in omega arith)
    (λ (h : block_of called xs ≡ Some b). let within = found_size called xs b h in omega arith)
    (at_find (is_same_name x.name called) x b (block_of called xs) e)

numbered_alike : (b called : BlockName) → is_same_name b called ≡ true → IsNumbered b → IsNumbered called
numbered_alike (name.Ob m) (name.Ob n) e h = let same = eqb-true m n e in omega arith
numbered_alike (name.Fc m) (name.Fc n) e h = let same = eqb-true m n e in omega arith
numbered_alike (name.Fb m) (name.Fb n) e h = let same = eqb-true m n e in omega arith
numbered_alike (name.Ob m) (name.Fc n) e h = cc
numbered_alike (name.Ob m) (name.Fb n) e h = cc
numbered_alike (name.Fc m) (name.Ob n) e h = cc
numbered_alike (name.Fc m) (name.Fb n) e h = cc
numbered_alike (name.Fb m) (name.Ob n) e h = cc
numbered_alike (name.Fb m) (name.Fc n) e h = cc

-- a call that finds a block has a number of 16 bits too
pub found_numbered : (called : BlockName) (blocks : List Block) (b : Block) → block_of called blocks ≡ Some b → All IsAcceptedBlock blocks → IsNumbered called
found_numbered called blocks b e all =
    let formed = found_each IsAcceptedBlock called blocks b e all in
    numbered_alike b.name called (found_named called blocks b e) (numbered b.name formed.number)
