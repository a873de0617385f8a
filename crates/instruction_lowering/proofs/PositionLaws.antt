-- The position of each unit, written where its block stands.
use Rattle.std.proofs.Common.{◌≡◌, ◌≢◌, ℕ, zero, suc, ◌+◌, ◌<◌, ◌≤◌, Bool, true, false, if◌then◌else◌, List, [], ◌∷◌, length, map, drop, replicate, set, Option, Some, None, refl, sym, ap, subst, ◌∙◌, arith}
use Rattle.std.specs.Prelude.{All, nat_lt, slice_get}
use Rattle.std.proofs.lemmas.Bool.Decides.{nat_tests}
use Rattle.std.proofs.lemmas.Option.{slice_get_within}
use Rattle.memory_areas.specs.declared.call.BlockName.{BlockName}
use Rattle.stl_tree.specs.Accepted.{AreDistinct, IsAcceptedBlock}
use Rattle.stl_tree.specs.StlRun.{block_named}
use Rattle.stl_tree.specs.declared.program.Block.{Block}
use Rattle.instruction_lowering.proofs.DistinctBlocks.{all_differ, found_at}
use Rattle.instruction_lowering.proofs.Names.{block_of}
use Rattle.instruction_lowering.proofs.ProperNames.{nothing_named}
use Rattle.instruction_lowering.proofs.UnitOrder.{AllDiffer, Ascend, ascends, follow_at, none_before, same_position, unit_stands}
use Rattle.instruction_lowering.specs.UnitNames.{in_order, order_of, unit_position}
use Rattle.instruction_lowering.specs.inner.UnitOrder.{AreBlocksAt, unit_positions}

-- a position that is written once so many units are
abbrev pub written : ℕ → ℕ → ℕ
written units position = if nat_lt position units then position else 0

-- the positions of the units of all blocks, once so many are written
abbrev pub written_positions : List Block → ℕ → List ℕ
written_positions blocks units = map (λ (b : Block). written units (unit_position blocks b.name)) blocks

zero_written : (p : ℕ) → written 0 p ≡ 0
zero_written p = ap (λ (t : Bool). if t then p else 0) (not_below p)
  where
    not_below : (p : ℕ) → nat_lt p 0 ≡ false
    not_below p = grind (arith, nat_tests)

pub none_written : (blocks all : List Block) → replicate (length blocks) 0 ≡ map (λ (b : Block). written 0 (unit_position all b.name)) blocks
none_written [] all = refl
none_written (b ∷ blocks) all =
    ap (λ (n : ℕ). n ∷ replicate (length blocks) 0) (sym (zero_written (unit_position all b.name)))
    ∙ ap (λ (ns : List ℕ). written 0 (unit_position all b.name) ∷ ns) (none_written blocks all)

-- what is written at one position and is elsewhere as it was
set_map : (f g : Block → ℕ) (blocks : List Block) (m v : ℕ) (b : Block) → slice_get blocks m ≡ Some b → g b ≡ v
    → ((k : ℕ) (x : Block) → slice_get blocks k ≡ Some x → (k ≡ m → ⊥) → g x ≡ f x) → set (map f blocks) m v ≡ map g blocks
set_map f g [] m v b there here others = cc
set_map f g (x ∷ blocks) zero v b there here others =
    let same : x ≡ b = cc in
    ap (λ (n : ℕ). n ∷ map f blocks) (sym here ∙ ap g (sym same))
    ∙ ap (λ (ns : List ℕ). g x ∷ ns) (rest blocks (λ k y e. others (suc k) y e (λ f. cc)))
  where
    rest : (blocks : List Block) → ((k : ℕ) (y : Block) → slice_get blocks k ≡ Some y → g y ≡ f y) → map f blocks ≡ map g blocks
    rest [] all = refl
    rest (y ∷ blocks) all =
        ap (λ (n : ℕ). n ∷ map f blocks) (sym (all 0 y refl)) ∙ ap (λ (ns : List ℕ). g y ∷ ns) (rest blocks (λ k z e. all (suc k) z e))
set_map f g (x ∷ blocks) (suc m) v b there here others =
    ap (λ (n : ℕ). n ∷ set (map f blocks) m v) (sym (others 0 x refl (λ e. cc)))
    ∙ ap (λ (ns : List ℕ). g x ∷ ns) (set_map f g blocks m v b there here (λ k y e differ. others (suc k) y e (λ same. differ (less k m same))))
  where
    less : (k m : ℕ) → suc k ≡ suc m → k ≡ m
    less k m e = omega arith

-- a block stands in the order where its unit does
position_of_ascending : (blocks : List Block) (j : ℕ) (b : Block) → Ascend blocks → slice_get blocks j ≡ Some b → unit_position blocks b.name ≡ j
position_of_ascending [] j b ascend e = cc
position_of_ascending (x ∷ rest) zero b ascend e =
    let same : x ≡ b = cc in
    let here : nat_lt (order_of x.name) (order_of b.name) ≡ false =
    ap (λ (y : Block). nat_lt (order_of x.name) (order_of y.name)) (sym same) ∙ itself (order_of x.name) in
    let first : unit_position rest b.name ≡ 0 =
    none_before (order_of x.name) rest b.name (subst (λ (y : Block). order_of y.name ≤ order_of x.name) same (omega arith)) ascend.0 in
    ap (λ (t : Bool). if t then suc (unit_position rest b.name) else unit_position rest b.name) here ∙ first
  where
    itself : (n : ℕ) → nat_lt n n ≡ false
    itself n = grind (arith, nat_tests)
position_of_ascending (x ∷ rest) (suc j) b ascend e =
    let less : order_of x.name < order_of b.name = follow_at (order_of x.name) rest j b ascend.0 e in
    let here : nat_lt (order_of x.name) (order_of b.name) ≡ true = grind (arith, nat_tests) in
    ap (λ (t : Bool). if t then suc (unit_position rest b.name) else unit_position rest b.name) here
    ∙ ap suc (position_of_ascending rest j b ascend.1 e)

-- no two blocks have one name
twice : (x : Block) (rest : List Block) (m : ℕ) (c : Block) → block_named x.name rest ≡ None → AreDistinct rest → slice_get rest m ≡ Some c
    → x.name ≡ c.name → ⊥
twice x rest m c none distinct there same =
    clash
    (sym (found_at rest distinct m c there) ∙ ap (λ (n : BlockName). block_of n rest) (sym same) ∙ nothing_named x.name rest none)
  where
    clash : Some c ≡ None → ⊥
    clash e = cc

one_position : (blocks : List Block) → AreDistinct blocks → (k m : ℕ) (b c : Block) → slice_get blocks k ≡ Some b → slice_get blocks m ≡ Some c
    → b.name ≡ c.name → k ≡ m
one_position [] distinct k m b c e f same = cc
one_position (x ∷ rest) distinct zero zero b c e f same = refl
one_position (x ∷ rest) distinct zero (suc m) b c e f same =
    let first : x ≡ b = cc in absurd (twice x rest m c distinct.0 distinct.1 f (ap (λ (y : Block). y.name) first ∙ same))
one_position (x ∷ rest) distinct (suc k) zero b c e f same =
    let first : x ≡ c = cc in absurd (twice x rest k b distinct.0 distinct.1 e (ap (λ (y : Block). y.name) first ∙ sym same))
one_position (x ∷ rest) distinct (suc k) (suc m) b c e f same = ap suc (one_position rest distinct.1 k m b c e f same)

-- Units

-- what is left of the order from a position on
pub first_left : (blocks : List Block) (position : ℕ) (behind : List ℕ) (order : List Block) (unit : ℕ)
    → AreBlocksAt blocks (position ∷ behind) (drop unit order)
    → (c : Block) × (slice_get blocks position ≡ Some c) × (slice_get order unit ≡ Some c) × AreBlocksAt blocks behind (drop (suc unit) order)
first_left blocks position behind [] zero are = elim are [ ]
first_left blocks position behind (c ∷ order) zero are = (c, are.0, refl, are.1)
first_left blocks position behind [] (suc unit) are = elim are [ ]
first_left blocks position behind (c ∷ order) (suc unit) are = first_left blocks position behind order unit are

pub none_left : (blocks order : List Block) (unit : ℕ) → AreBlocksAt blocks [] (drop unit order) → length order ≤ unit
none_left blocks [] unit are = omega arith
none_left blocks (c ∷ order) zero are = elim are [ ]
none_left blocks (c ∷ order) (suc unit) are = let l : length order ≤ unit = none_left blocks order unit are in omega arith

next_written : (unit p : ℕ) → (p ≡ unit → ⊥) → written (suc unit) p ≡ written unit p
next_written unit p other = by (nat_lt p unit) refl (nat_lt p (suc unit)) refl
  where
    by : (a : Bool) → nat_lt p unit ≡ a → (b : Bool) → nat_lt p (suc unit) ≡ b → (if b then p else 0) ≡ (if a then p else 0)
    by true e true f = refl
    by false e false f = refl
    by true e false f =
        let less : p < unit = grind (arith, nat_tests) in
        let not_less : suc unit ≤ p = grind (arith, nat_tests) in
        absurd (omega arith)
    by false e true f =
        let less : p < suc unit = grind (arith, nat_tests) in
        let not_less : unit ≤ p = grind (arith, nat_tests) in
        let same : p ≡ unit = omega arith in
        absurd (other same)

own_written : (unit p : ℕ) → p ≡ unit → written (suc unit) p ≡ unit
own_written unit p e =
    let less : nat_lt p (suc unit) ≡ true = grind (arith, nat_tests) in
    ap (λ (t : Bool). if t then p else 0) less ∙ e

module _ (blocks : List Block) (accepted : All IsAcceptedBlock blocks) (distinct : AreDistinct blocks) where
  -- the next position is one of a block, where the number of its unit is written
  pub record IsNextUnit (position : ℕ) (behind : List ℕ) (unit : ℕ) : Type 0 where
    pub within : position < length blocks
    pub written_there : set (written_positions blocks unit) position unit ≡ written_positions blocks (suc unit)
    pub left : AreBlocksAt blocks behind (drop (suc unit) (in_order blocks))

  pub next_unit : (position : ℕ) (behind : List ℕ) (unit : ℕ) → AreBlocksAt blocks (position ∷ behind) (drop unit (in_order blocks))
      → IsNextUnit position behind unit
  next_unit position behind unit are =
      let differ : AllDiffer blocks = all_differ blocks accepted distinct in
      let at = first_left blocks position behind (in_order blocks) unit are in
      let c : Block = at.0 in
      let own : unit_position blocks c.name ≡ unit =
      sym (same_position blocks c.name) ∙ position_of_ascending (in_order blocks) unit c (ascends blocks differ) at.2 in
      record {
        within = slice_get_within blocks position c at.1;
        written_there =
            set_map (λ (b : Block). written unit (unit_position blocks b.name)) (λ (b : Block). written (suc unit) (unit_position blocks b.name))
            blocks position unit c at.1 (own_written unit (unit_position blocks c.name) own)
            (λ k x e other.
            next_written unit (unit_position blocks x.name)
            (λ same. other (one_position blocks distinct k position x c e at.1 (ap (λ (y : Block). y.name) (same_one x c (sym (stands k x e same) ∙ at.2))))));
        left = at.3;
      }
    where
      stands : (k : ℕ) (x : Block) → slice_get blocks k ≡ Some x → unit_position blocks x.name ≡ unit → slice_get (in_order blocks) unit ≡ Some x
      stands k x e same =
          ap (slice_get (in_order blocks)) (sym same) ∙ unit_stands blocks k x (all_differ blocks accepted distinct) e

      same_one : (x c : Block) → Some x ≡ Some c → x ≡ c
      same_one x c e = cc

  -- where none is left all are written
  each_written : (unit : ℕ) → AreBlocksAt blocks [] (drop unit (in_order blocks)) → (bs : List Block)
      → ((k : ℕ) (b : Block) → slice_get bs k ≡ Some b → (m : ℕ) × (slice_get blocks m ≡ Some b))
      → map (λ (b : Block). written unit (unit_position blocks b.name)) bs ≡ map (λ (b : Block). unit_position blocks b.name) bs
  each_written unit are [] lie = refl
  each_written unit are (b ∷ bs) lie =
      let there = lie 0 b refl in
      let within : unit_position blocks b.name < length (in_order blocks) =
      slice_get_within (in_order blocks) (unit_position blocks b.name) b (unit_stands blocks there.0 b (all_differ blocks accepted distinct) there.1) in
      let long : length (in_order blocks) ≤ unit = none_left blocks (in_order blocks) unit are in
      let less : nat_lt (unit_position blocks b.name) unit ≡ true = below (unit_position blocks b.name) unit (omega arith) in
      ap (λ (t : Bool). (if t then unit_position blocks b.name else 0) ∷ map (λ (b : Block). written unit (unit_position blocks b.name)) bs) less
      ∙ ap (λ (ns : List ℕ). unit_position blocks b.name ∷ ns) (each_written unit are bs (λ k c e. lie (suc k) c e))
    where
      below : (m n : ℕ) → m < n → nat_lt m n ≡ true
      below m n h = grind (arith, nat_tests)

  pub all_written : (unit : ℕ) → AreBlocksAt blocks [] (drop unit (in_order blocks)) → written_positions blocks unit ≡ unit_positions blocks
  all_written unit are = each_written unit are blocks (λ k b e. (k, e))
