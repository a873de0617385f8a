-- Which data blocks are instances of a function block, and which calls fit.
use Rattle.std.proofs.Common.{◌≡◌, ℕ, zero, suc, ◌<◌, ◌≤◌, Bool, true, false, nat_lt, refl, map, List, [], ◌∷◌, length, slice_get, Option, Some, None, sym, ap, ◌∙◌, subst, arith}
use Rattle.std.specs.Prelude.{cond, not}
use Rattle.std.specs.List.{position, prefix_len}
use Rattle.std.proofs.lemmas.Bool.Decides.{nat_tests}
use Rattle.std.proofs.lemmas.List.{length-map}
use Rattle.std.proofs.lemmas.Option.{slice_get_within}
use Rattle.block_calls.proofs.Fitting.{few_formals, formals_there}
use Rattle.memory_areas.specs.OutsideActuals.{FitWidths}
use Rattle.memory_areas.specs.declared.call.BlockName.{BlockName}
use Rattle.memory_areas.specs.declared.call.BlockName.TheVariants as name
use Rattle.memory_areas.specs.declared.data_block.DataBlock.{DataBlock}
use Rattle.memory_areas.specs.declared.place.Place.{Place}
use Rattle.s7_base.specs.declared.word.Width.{Width}
use Rattle.stl_tree.specs.Accepted.{IsAccepted}
use Rattle.memory_areas.specs.declared.call.Call.{Call}
use Rattle.stl_tree.specs.StlRun.{Fits, FitsBlock, FitsIfThere, IsInstance, block_at, block_named, places_given}
use Rattle.stl_tree.specs.declared.program.Block.{Block}
use Rattle.stl_tree.specs.declared.program.Formal.{Formal}
use Rattle.stl_tree.specs.declared.program.Program.{Program}
use Rattle.stl_tree.specs.declared.program.Instance.{Instance}

-- an instance is one of some where it is one of the others
pub instance_behind : (i : Instance) (instances : List Instance) (db fb : ℕ) → IsInstance instances db fb → IsInstance (i ∷ instances) db fb
instance_behind i instances db fb h = (suc h.0, omega (arith, h.1), h.2)

-- it is one of the others where the first is another
pub instance_not_first : (i : Instance) (instances : List Instance) (db fb : ℕ) → (i ≡ record { db = db; fb = fb } → ⊥) → IsInstance (i ∷ instances) db fb
    → IsInstance instances db fb
instance_not_first i instances db fb apart (zero, l, e) = absurd (apart e)
instance_not_first i instances db fb apart (suc k, l, e) = (k, omega (arith, l), e)

-- Where a call fits

pub not_named : (p : Program) (call : Call) → block_named call.block p.blocks ≡ None → Fits p call → ⊥
not_named p call e h = subst (λ (o : Option ℕ). FitsIfThere p call (block_at p.blocks o)) e h

found_at : (p : Program) (call : Call) (i : ℕ) (b : Block) → block_named call.block p.blocks ≡ Some i → slice_get p.blocks i ≡ Some b
    → block_at p.blocks (block_named call.block p.blocks) ≡ Some b
found_at p call i b e f = ap (block_at p.blocks) e ∙ f

pub fits_there : (p : Program) (call : Call) (i : ℕ) (b : Block) → block_named call.block p.blocks ≡ Some i → slice_get p.blocks i ≡ Some b
    → FitsBlock p b call.block call.instance call.actuals → Fits p call × (block_named call.block p.blocks ≡ Some i) × (i < length p.blocks)
fits_there p call i b e f h = (subst (FitsIfThere p call) (sym (found_at p call i b e f)) h, e, slice_get_within p.blocks i b f)

pub unfit_there : (p : Program) (call : Call) (i : ℕ) (b : Block) → block_named call.block p.blocks ≡ Some i → slice_get p.blocks i ≡ Some b
    → (FitsBlock p b call.block call.instance call.actuals → ⊥) → Fits p call → ⊥
unfit_there p call i b e f h fits = h (subst (FitsIfThere p call) (found_at p call i b e f) fits)

-- the place of a block that was found
pub named_within : (q : Block → Bool) (blocks : List Block) (i : ℕ) → position q blocks ≡ Some i → i < length blocks
named_within q blocks i e = by (nat_lt (prefix_len (λ x. not (q x)) blocks) (length blocks)) refl e
  where
    same : (a b : ℕ) → Some a ≡ Some b → a ≡ b
    same a b e = cc

    by : (t : Bool) → nat_lt (prefix_len (λ x. not (q x)) blocks) (length blocks) ≡ t → cond t (Some (prefix_len (λ x. not (q x)) blocks)) None ≡ Some i
        → i < length blocks
    by true f g =
        let less : prefix_len (λ x. not (q x)) blocks < length blocks = grind (arith, nat_tests, f) in
        subst (λ n. n < length blocks) (same (prefix_len (λ x. not (q x)) blocks) i g) less
    by false f g = absurd cc

-- a call from outside gives no more places than its block has formals
few_widths : (dbs : List DataBlock) (formals : List Formal) (actuals : List (Place × Width)) → FitWidths dbs (map (λ (f : Formal). f.width) formals) actuals
    → length actuals ≡ length formals
few_widths dbs [] [] h = refl
few_widths dbs [] (x ∷ actuals) h = absurd h
few_widths dbs (f ∷ formals) [] h = absurd h
few_widths dbs (f ∷ formals) (x ∷ actuals) h = ap suc (few_widths dbs formals actuals h.1)

few_of_block : (p : Program) (b : Block) (n : BlockName) (instance : ℕ) (actuals : List (Place × Width))
    → length b.formals ≤ 64 → FitsBlock p b n instance actuals
    → length (places_given n actuals) ≤ 64
few_of_block p b (name.Ob n) instance actuals few h = omega arith
few_of_block p b (name.Fc n) instance actuals few h =
    omega (arith, few, few_widths p.dbs b.formals actuals h, length-map actuals (λ (x : Place × Width). Some x.0))
few_of_block p b (name.Fb n) instance actuals few h = omega arith

pub few_given : (p : Program) (accepted : IsAccepted p) (call : Call) → Fits p call → length (places_given call.block call.actuals) ≤ 64
few_given p accepted call fits = by (block_named call.block p.blocks) fits
  where
    by_block : (i : ℕ) (o : Option Block) → slice_get p.blocks i ≡ o → FitsIfThere p call o → length (places_given call.block call.actuals) ≤ 64
    by_block i None e h = absurd h
    by_block i (Some b) e h =
        few_of_block p b call.block call.instance call.actuals
        (subst (λ (fs : List Formal). length fs ≤ 64) (formals_there p accepted i b e) (few_formals p accepted i)) h

    by : (o : Option ℕ) → FitsIfThere p call (block_at p.blocks o) → length (places_given call.block call.actuals) ≤ 64
    by None h = absurd h
    by (Some i) h = by_block i (slice_get p.blocks i) refl h
