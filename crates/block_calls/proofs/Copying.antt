-- Copies into an instance and back meet no fault, and keep that of each access.
use Rattle.std.proofs.Common.{◌≡◌, ◌⊎◌, inl, inr, drop, ℕ, ◌<◌, ◌≤◌, ◌^◌, ◌+◌, Bool, true, false, List, [], ◌∷◌, length, slice_get, All, Option, Some, None, Result, Ok, Err, refl, sym, ap, ◌∙◌, subst, arith, if◌then◌else◌}
use Rattle.std.proofs.lemmas.List.{drop_all, drop_more}
use Rattle.std.proofs.lemmas.List.Elements.{All-drop, All-head}
use Rattle.std.proofs.lemmas.Option.{get_or_from_slice_get, slice_get_within}
use Rattle.block_calls.proofs.Fitting.{cell_reached}
use Rattle.block_calls.specs.Fitting.{AreReached, IsReached, IsReachedIfGiven}
use Rattle.block_calls.specs.declared.copies.Way.{Way}
use Rattle.block_calls.specs.declared.copies.Way.TheVariants as way
use Rattle.block_calls.specs.inner.Copies.{copied_by}
use Rattle.block_calls.specs.inner.Views.{AreSmall}
use Rattle.memory_areas.specs.Access.{aim_of_place, and_then, bits_wide, fault_of}
use Rattle.memory_areas.specs.Areas.{Contents}
use Rattle.memory_areas.specs.Memory.{HasBlocks, Writes}
use Rattle.memory_areas.specs.declared.data_block.DataBlock.{DataBlock}
use Rattle.memory_areas.specs.declared.place.Place.{Place}
use Rattle.memory_areas.specs.declared.sizes.TheConstants.{ACTIVATIONS}
use Rattle.s7_base.specs.declared.outcome.Fault.{Fault}
use Rattle.s7_base.specs.declared.word.Width.{Width}
use Rattle.s7_base.specs.declared.word.Width.TheVariants as width
use Rattle.stl_tree.proofs.KeptFaults.{blocks_kept, copy_is_made, copy_leaves_faults, number_is_written, number_leaves_faults}
use Rattle.stl_tree.specs.Accepted.{LiesInInstance}
use Rattle.stl_tree.specs.Accumulators.{part, write_number}
use Rattle.stl_tree.specs.Calls.{all_copied, cell_of, copied_back, copied_in, is_given_back, is_taken, place_in_instance, with_constant, with_constants, with_copy}
use Rattle.stl_tree.specs.declared.program.Actual.{Actual}
use Rattle.stl_tree.specs.declared.program.Actual.TheVariants as actual
use Rattle.stl_tree.specs.declared.program.Formal.{Formal}

pub part_of_small : (w : Width) (v : ℕ) → v < 2 ^ bits_wide w → part w v ≡ v
part_of_small width.Bit v h = omega arith
part_of_small width.Byte v h = omega arith
part_of_small width.Word v h = omega arith
part_of_small width.Dword v h = omega arith

-- what a write did that can have no fault
abbrev pub Wrote : List DataBlock → Result Contents Fault → Contents → Type 0
Wrote dbs defined after = (defined ≡ Ok after) × HasBlocks dbs after

-- a change that has no fault and keeps that of each access is done, whatever was answered
done : (dbs : List DataBlock) (defined : Result Contents Fault) (r : Result Unit Fault) (before after : Contents)
    → (n : Contents) × (defined ≡ Ok n) × HasBlocks dbs n → Writes defined r before after → Wrote dbs defined after
done dbs defined (Ok u) before after made h =
    let same : made.0 ≡ after = ok_same made.0 after (sym made.1 ∙ h) in (h, subst (HasBlocks dbs) same made.2)
  where
    ok_same : (m n : Contents) → ◌≡◌ {A = Result Contents Fault} (Ok m) (Ok n) → m ≡ n
    ok_same m n e = cc
done dbs defined (Err f) before after made h = let e : ◌≡◌ {A = Result Contents Fault} (Ok made.0) (Err f) = sym made.1 ∙ h.0 in absurd cc

module _ (dbs : List DataBlock) (m : Contents) (has : HasBlocks dbs m) where
  free : (w : Width) (p : Place) → IsReached dbs w p → fault_of (aim_of_place p) w m ≡ None
  free w p e = has (aim_of_place p) w ∙ e

  made : (w : Width) (from to : Place) → IsReached dbs w from → IsReached dbs w to → (n : Contents) × (with_copy w from to m ≡ Ok n) × HasBlocks dbs n
  made w from to e f =
      let copy = copy_is_made w from to m (free w from e) (free w to f) in
      (copy.0, copy.1, blocks_kept dbs m copy.0 (copy_leaves_faults w from to m copy.0 copy.1) has)

  where_wanted : (b : Bool) (copy : Result Contents Fault) → ((n : Contents) × (copy ≡ Ok n) × HasBlocks dbs n)
      → (n : Contents) × ((if b then copy else Ok m) ≡ Ok n) × HasBlocks dbs n
  where_wanted true copy h = h
  where_wanted false copy h = (m, refl, has)

  pub taken : (instance : ℕ) (f : Formal) (p : Option Place) (r : Result Unit Fault) (after : Contents) → LiesInInstance dbs instance f
      → IsReachedIfGiven dbs f.width p → Writes (copied_in instance f p m) r m after → Wrote dbs (copied_in instance f p m) after
  taken instance f None r after lies h w = done dbs (Ok m) r m after (m, refl, has) w
  taken instance f (Some p) r after lies h w =
      done dbs (copied_in instance f (Some p) m) r m after
      (where_wanted (is_taken f.mode) (with_copy f.width p (place_in_instance instance f) m) (made f.width p (place_in_instance instance f) h lies)) w

  pub given_back : (instance : ℕ) (f : Formal) (p : Option Place) (r : Result Unit Fault) (after : Contents) → LiesInInstance dbs instance f
      → IsReachedIfGiven dbs f.width p → Writes (copied_back instance f p m) r m after → Wrote dbs (copied_back instance f p m) after
  given_back instance f None r after lies h w = done dbs (Ok m) r m after (m, refl, has) w
  given_back instance f (Some p) r after lies h w =
      done dbs (copied_back instance f (Some p) m) r m after
      (where_wanted (is_given_back f.mode) (with_copy f.width (place_in_instance instance f) p m) (made f.width (place_in_instance instance f) p lies h)) w

-- one more formal
pub all_copied_next : (copy : Formal → Option Place → Contents → Result Contents Fault) (f : Formal) (formals : List Formal) (p : Option Place)
    (places : List (Option Place)) (m n : Contents) → copy f p m ≡ Ok n
    → all_copied copy (f ∷ formals) (p ∷ places) m ≡ all_copied copy formals places n
all_copied_next copy f formals p places m n e = ap (λ (r : Result Contents Fault). and_then r (all_copied copy formals places)) e

-- Constants

pub constant_written : (dbs : List DataBlock) (d k : ℕ) (w : Width) (x : Actual) (r : Result Unit Fault) (m after : Contents) → d < ACTIVATIONS → k < 64
    → HasBlocks dbs m → Writes (with_constant d k w x m) r m after → Wrote dbs (with_constant d k w x m) after
constant_written dbs d k w actual.Missing r m after room few has h = done dbs (Ok m) r m after (m, refl, has) h
constant_written dbs d k w (actual.At o) r m after room few has h = done dbs (Ok m) r m after (m, refl, has) h
constant_written dbs d k w (actual.Constant c) r m after room few has h =
    let wrote = number_is_written w (cell_of d k) c m (has (aim_of_place (cell_of d k)) w ∙ cell_reached dbs d k w room few) in
    done dbs (write_number w (cell_of d k) c m) r m after
    (wrote.0, wrote.1, blocks_kept dbs m wrote.0 (number_leaves_faults w (cell_of d k) c m wrote.0 wrote.1) has) h

pub with_constants_next : (d k : ℕ) (f : Formal) (formals : List Formal) (x : Actual) (actuals : List Actual) (m n : Contents)
    → with_constant d k f.width x m ≡ Ok n
    → with_constants d k (f ∷ formals) (x ∷ actuals) m ≡ with_constants d (k + 1) formals actuals n
with_constants_next d k f formals x actuals m n e = ap (λ (r : Result Contents Fault). and_then r (with_constants d (k + 1) formals actuals)) e

-- Loops: what is known before one more formal is known after it

from_place : {X : Type 0} (xs : List X) (k : ℕ) (x : X) → slice_get xs k ≡ Some x → drop k xs ≡ x ∷ drop (k + 1) xs
from_place {X = X} xs k x e =
    drop_more xs k x (slice_get_within xs k x e) ∙ ap (λ (y : X). y ∷ drop (k + 1) xs) (get_or_from_slice_get xs k x x e)

module _ (dbs : List DataBlock) (direction : Way) (instance : ℕ) where
  one_copied : (f : Formal) (p : Option Place) (r : Result Unit Fault) (m after : Contents)
      → HasBlocks dbs m → LiesInInstance dbs instance f → IsReachedIfGiven dbs f.width p
      → Writes (copied_by direction instance f p m) r m after → Wrote dbs (copied_by direction instance f p m) after
  one_copied f p r m after has lies reached h = by direction h
    where
      by : (w : Way) → Writes (copied_by w instance f p m) r m after → Wrote dbs (copied_by w instance f p m) after
      by way.In g = taken dbs m has instance f p r after lies reached g
      by way.Back g = given_back dbs m has instance f p r after lies reached g

  pub copied_next : (formals : List Formal) (places : List (Option Place)) (k : ℕ) (f : Formal) (p : Option Place) (r : Result Unit Fault)
      (m after : Contents) (all : Result Contents Fault) → slice_get formals k ≡ Some f → slice_get places k ≡ Some p
      → all ≡ all_copied (copied_by direction instance) (drop k formals) (drop k places) m → HasBlocks dbs m → All (LiesInInstance dbs instance) formals
      → AreReached dbs (drop k formals) (drop k places) → Writes (copied_by direction instance f p m) r m after
      → (all ≡ all_copied (copied_by direction instance) (drop (k + 1) formals) (drop (k + 1) places) after) × HasBlocks dbs after
      × AreReached dbs (drop (k + 1) formals) (drop (k + 1) places)
  copied_next formals places k f p r m after all at_formal at_place e has lie reached h =
      let fs = from_place formals k f at_formal in
      let ps = from_place places k p at_place in
      let lies : All (LiesInInstance dbs instance) (f ∷ drop (k + 1) formals) =
      subst (All (LiesInInstance dbs instance)) fs (All-drop (LiesInInstance dbs instance) k formals lie) in
      let are : AreReached dbs (f ∷ drop (k + 1) formals) (p ∷ drop (k + 1) places) =
      subst (λ (qs : List (Option Place)). AreReached dbs (f ∷ drop (k + 1) formals) qs) ps
      (subst (λ (xs : List Formal). AreReached dbs xs (drop k places)) fs reached) in
      let one = one_copied f p r m after has
      (All-head (LiesInInstance dbs instance) f (drop (k + 1) formals) lies) are.0 h in (
        e ∙ ap (λ (xs : List Formal). all_copied (copied_by direction instance) xs (drop k places) m) fs
            ∙ ap (λ (qs : List (Option Place)). all_copied (copied_by direction instance) (f ∷ drop (k + 1) formals) qs m) ps
            ∙ all_copied_next (copied_by direction instance) f (drop (k + 1) formals) p (drop (k + 1) places) m after one.0,
        one.1,
        are.1,
      )

-- no formal or no place is left
pub none_left : (copy : Formal → Option Place → Contents → Result Contents Fault) (formals : List Formal) (places : List (Option Place)) (k : ℕ) (m : Contents)
    → (length formals ≤ k) ⊎ (length places ≤ k) → all_copied copy (drop k formals) (drop k places) m ≡ Ok m
none_left copy formals places k m (inl h) = ap (λ (fs : List Formal). all_copied copy fs (drop k places) m) (drop_all k formals h)
none_left copy formals places k m (inr h) =
    ap (λ (ps : List (Option Place)). all_copied copy (drop k formals) ps m) (drop_all k places h) ∙ by (drop k formals)
  where
    by : (fs : List Formal) → all_copied copy fs [] m ≡ Ok m
    by [] = refl
    by (f ∷ fs) = refl

pub constant_next : (dbs : List DataBlock) (d k size : ℕ) (f : Formal) (formals : List Formal) (x : Actual) (actuals : List Actual) (r : Result Unit Fault)
    (m after : Contents) (all : Result Contents Fault) → all ≡ with_constants d k (f ∷ formals) (x ∷ actuals) m → k + length (f ∷ formals) ≡ size → size ≤ 64
    → d < ACTIVATIONS → AreSmall (f ∷ formals) (x ∷ actuals) → HasBlocks dbs m → Writes (with_constant d k f.width x m) r m after
    → (all ≡ with_constants d (k + 1) formals actuals after) × (k + 1 + length formals ≡ size) × AreSmall formals actuals × HasBlocks dbs after
constant_next dbs d k size f formals x actuals r m after all e many few room small has h =
    let one = constant_written dbs d k f.width x r m after room (omega (arith, many, few)) has h in
    (e ∙ with_constants_next d k f formals x actuals m after one.0, omega (arith, many), small.1, one.1)
