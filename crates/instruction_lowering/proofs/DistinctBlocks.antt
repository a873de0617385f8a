-- Blocks of which no two have one name: each is found by its name, in their own order and in that of their units.
use Rattle.std.proofs.Common.{◌≡◌, ℕ, zero, suc, ◌+◌, ◌*◌, ◌^◌, ◌<◌, ◌≤◌, ◌==◌, Bool, true, false, cond, if◌then◌else◌, List, [], ◌∷◌, length, map, Option, Some, None, refl, sym, ap, ◌∙◌, subst, arith}
use Rattle.std.specs.Prelude.{All, nat_lt, slice_get}
use Rattle.std.proofs.lemmas.Bool.{eqb-true}
use Rattle.std.proofs.lemmas.Bool.Decides.{nat_tests}
use Rattle.std.proofs.lemmas.List.Elements.{All-cons, All-head, All-nil, All-tail}
use Rattle.memory_areas.specs.declared.call.BlockName.{BlockName}
use Rattle.memory_areas.specs.declared.call.BlockName.TheVariants as name
use Rattle.st_tree.specs.Naming.{are_apart, is_new, key_of}
use Rattle.st_tree.specs.StRun.{called_name}
use Rattle.stl_tree.specs.Accepted.{AreDistinct, IsAcceptedBlock}
use Rattle.stl_tree.specs.StlRun.{block_named, is_same_name}
use Rattle.stl_tree.specs.declared.program.Block.{Block}
use Rattle.instruction_lowering.proofs.Names.{IsNumbered, block_of, numbered}
use Rattle.instruction_lowering.proofs.ProperNames.{first_not, nothing_named, same_keys}
use Rattle.instruction_lowering.proofs.UnitOrder.{AllDiffer, Ascend, Differ, Follow, differ_all}
use Rattle.instruction_lowering.specs.UnitNames.{in_order, insert_block, order_of}

-- Names

same_number : (m n : ℕ) → m ≡ n → (m == n) ≡ true
same_number m n e = grind (arith, nat_tests)

pub same_as_itself : (b : BlockName) → is_same_name b b ≡ true
same_as_itself (name.Ob n) = same_number n n refl
same_as_itself (name.Fc n) = same_number n n refl
same_as_itself (name.Fb n) = same_number n n refl

pub same_name_is : (b c : BlockName) → is_same_name b c ≡ true → b ≡ c
same_name_is (name.Ob m) (name.Ob n) h = ap name.Ob (eqb-true m n h)
same_name_is (name.Fc m) (name.Fc n) h = ap name.Fc (eqb-true m n h)
same_name_is (name.Fb m) (name.Fb n) h = ap name.Fb (eqb-true m n h)
same_name_is (name.Ob m) (name.Fc n) h = cc
same_name_is (name.Ob m) (name.Fb n) h = cc
same_name_is (name.Fc m) (name.Ob n) h = cc
same_name_is (name.Fc m) (name.Fb n) h = cc
same_name_is (name.Fb m) (name.Ob n) h = cc
same_name_is (name.Fb m) (name.Fc n) h = cc

-- blocks at one place in the order have one name
same_place : (b c : BlockName) → IsNumbered b → IsNumbered c → order_of b ≡ order_of c → is_same_name b c ≡ true
same_place (name.Ob m) (name.Ob n) h k e = same_number m n (omega (arith, e))
same_place (name.Fc m) (name.Fc n) h k e = same_number m n e
same_place (name.Fb m) (name.Fb n) h k e = same_number m n (omega (arith, e))
same_place (name.Ob m) (name.Fc n) h k e = absurd (omega (arith, e, h, k))
same_place (name.Ob m) (name.Fb n) h k e = absurd (omega (arith, e, h, k))
same_place (name.Fc m) (name.Ob n) h k e = absurd (omega (arith, e, h, k))
same_place (name.Fc m) (name.Fb n) h k e = absurd (omega (arith, e, h, k))
same_place (name.Fb m) (name.Ob n) h k e = absurd (omega (arith, e, h, k))
same_place (name.Fb m) (name.Fc n) h k e = absurd (omega (arith, e, h, k))

-- Where they are found

clash : {x : Block} → Some x ≡ None → ⊥
clash e = cc

-- a block is the one that its name finds
pub found_at : (blocks : List Block) → AreDistinct blocks → (i : ℕ) (b : Block) → slice_get blocks i ≡ Some b → block_of b.name blocks ≡ Some b
found_at [] distinct i b e = cc
found_at (x ∷ rest) distinct zero b e =
    let same : x ≡ b = cc in
    ap (λ (y : Block). cond (is_same_name x.name y.name) (Some x) (block_of y.name rest)) (sym same)
    ∙ ap (λ (t : Bool). cond t (Some x) (block_of x.name rest)) (same_as_itself x.name) ∙ ap Some same
found_at (x ∷ rest) distinct (suc i) b e = by (is_same_name x.name b.name) refl (found_at rest distinct.1 i b e)
  where
    by : (t : Bool) → is_same_name x.name b.name ≡ t → block_of b.name rest ≡ Some b → cond t (Some x) (block_of b.name rest) ≡ Some b
    by false f found = found
    by true f found =
        let none : block_of x.name rest ≡ None = nothing_named x.name rest distinct.0 in
        absurd (clash (sym found ∙ ap (λ (n : BlockName). block_of n rest) (sym (same_name_is x.name b.name f)) ∙ none))

-- The order

differ_from : (b : Block) (rest : List Block) → IsNumbered b.name → All IsAcceptedBlock rest → block_of b.name rest ≡ None
    → Differ (order_of b.name) rest
differ_from b [] h all none = tt
differ_from b (c ∷ rest) h all none =
    let not_first = first_not (is_same_name c.name b.name) c (block_of b.name rest) none in
    let accepted = All-head IsAcceptedBlock c rest all in (
      λ e. differs (sym (same_place c.name b.name (numbered c.name accepted.number) h e) ∙ not_first.0),
      differ_from b rest h (All-tail IsAcceptedBlock c rest all) not_first.1,
    )
  where
    differs : true ≡ false → ⊥
    differs e = cc

-- so each has a place of its own in the order
pub all_differ : (blocks : List Block) → All IsAcceptedBlock blocks → AreDistinct blocks → AllDiffer blocks
all_differ [] all distinct = tt
all_differ (b ∷ rest) all distinct =
    let accepted = All-head IsAcceptedBlock b rest all in (
      differ_from b rest (numbered b.name accepted.number) (All-tail IsAcceptedBlock b rest all) (nothing_named b.name rest distinct.0),
      all_differ rest (All-tail IsAcceptedBlock b rest all) distinct.1,
    )

-- one more block is found wherever it stands
found_inserted : (called : BlockName) (b : Block) (blocks : List Block) → Differ (order_of b.name) blocks
    → block_of called (insert_block b blocks) ≡ block_of called (b ∷ blocks)
found_inserted called b [] differ = refl
found_inserted called b (c ∷ rest) differ = by (nat_lt (order_of c.name) (order_of b.name)) (found_inserted called b rest differ.1)
  where
    swapped : (s t : Bool) → is_same_name c.name called ≡ s → is_same_name b.name called ≡ t
        → cond s (Some c) (cond t (Some b) (block_of called rest)) ≡ cond t (Some b) (cond s (Some c) (block_of called rest))
    swapped false t e f = refl
    swapped true false e f = refl
    swapped true true e f =
        absurd (differ.0 (ap order_of (same_name_is c.name called e) ∙ sym (ap order_of (same_name_is b.name called f))))

    by : (less : Bool) → block_of called (insert_block b rest) ≡ block_of called (b ∷ rest)
        → block_of called (if less then c ∷ insert_block b rest else b ∷ c ∷ rest) ≡ block_of called (b ∷ c ∷ rest)
    by false others = refl
    by true others =
        ap (cond (is_same_name c.name called) (Some c)) others
        ∙ swapped (is_same_name c.name called) (is_same_name b.name called) refl refl

-- blocks are found in the order of their units as in their own
pub found_in_order : (called : BlockName) (blocks : List Block) → AllDiffer blocks → block_of called (in_order blocks) ≡ block_of called blocks
found_in_order called [] differ = refl
found_in_order called (b ∷ rest) differ =
    found_inserted called b (in_order rest) (differ_all (order_of b.name) rest differ.0)
    ∙ ap (cond (is_same_name b.name called) (Some b)) (found_in_order called rest differ.1)

-- Keys

differ_after : (n : ℕ) (b c : BlockName) → order_of b ≡ n → n < order_of c → is_same_name c b ≡ false
differ_after n b c e less = by (is_same_name c b) refl
  where
    by : (t : Bool) → is_same_name c b ≡ t → t ≡ false
    by false f = refl
    by true f = let same : order_of c ≡ order_of b = ap order_of (same_name_is c b f) in absurd (omega arith)

-- no block that follows has the key of a unit
new_before : (b : Block) (blocks : List Block) → IsNumbered b.name → All IsAcceptedBlock blocks → Follow (order_of b.name) blocks
    → is_new (key_of (called_name b.name)) (map (λ (b : Block). key_of (called_name b.name)) blocks) ≡ true
new_before b [] h all follow = refl
new_before b (c ∷ blocks) h all follow =
    let own = All-head IsAcceptedBlock c blocks all in
    rw (same_keys b.name c.name h (numbered c.name own.number), differ_after (order_of b.name) b.name c.name refl follow.0)
    (new_before b blocks h (All-tail IsAcceptedBlock c blocks all) follow.1)

-- so no two units have one name
pub units_apart : (blocks : List Block) → All IsAcceptedBlock blocks → Ascend blocks
    → are_apart (map (λ (b : Block). key_of (called_name b.name)) blocks) ≡ true
units_apart [] all ascend = refl
units_apart (b ∷ blocks) all ascend =
    let own = All-head IsAcceptedBlock b blocks all in
    let rest = All-tail IsAcceptedBlock b blocks all in
    rw (new_before b blocks (numbered b.name own.number) rest ascend.0) (units_apart blocks rest ascend.1)

-- what holds of each block holds of each in the order
module _ (P : Block → Type 0) where
  all_inserted : (b : Block) (blocks : List Block) → P b → All P blocks → All P (insert_block b blocks)
  all_inserted b [] h all = All-cons P b [] h all
  all_inserted b (c ∷ rest) h all = by (nat_lt (order_of c.name) (order_of b.name)) (all_inserted b rest h (All-tail P c rest all))
    where
      by : (less : Bool) → All P (insert_block b rest) → All P (if less then c ∷ insert_block b rest else b ∷ c ∷ rest)
      by true others = All-cons P c (insert_block b rest) (All-head P c rest all) others
      by false others = All-cons P b (c ∷ rest) h all

  pub all_in_order : (blocks : List Block) → All P blocks → All P (in_order blocks)
  all_in_order [] all = all
  all_in_order (b ∷ rest) all = all_inserted b (in_order rest) (All-head P b rest all) (all_in_order rest (All-tail P b rest all))
