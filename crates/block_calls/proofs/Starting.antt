-- The activation with which a run begins is one of the program.
use Rattle.std.proofs.Common.{◌≡◌, ◌⊎◌, inl, inr, ℕ, zero, suc, ◌+◌, Bool, true, false, nat_lt, List, [], ◌∷◌, length, map, slice_get, Option, Some, None, refl, sym, ap, ◌∙◌, subst, arith}
use Rattle.std.specs.Prelude.{cond, not}
use Rattle.std.specs.List.{prefix_len}
use Rattle.block_calls.proofs.Fitting.{lies, same_name}
use Rattle.block_calls.specs.Fitting.{AreActivationsOf, AreCopied, AreNamed, AreReached, IsReached}
use Rattle.memory_areas.specs.OutsideActuals.{FitWidths}
use Rattle.memory_areas.specs.declared.call.BlockName.{BlockName}
use Rattle.memory_areas.specs.declared.call.BlockName.TheVariants as name
use Rattle.memory_areas.specs.declared.call.Call.{Call}
use Rattle.memory_areas.specs.declared.data_block.DataBlock.{DataBlock}
use Rattle.memory_areas.specs.declared.place.Place.{Place}
use Rattle.memory_areas.specs.declared.sizes.TheConstants.{ACTIVATIONS}
use Rattle.s7_base.specs.declared.word.Width.{Width}
use Rattle.stl_tree.specs.Accepted.{IsAccepted, widths_named}
use Rattle.stl_tree.specs.StlRun.{Fits, FitsBlock, FitsIfThere, block_at, block_named, first_activation, instance_called, is_same_name, places_given}
use Rattle.stl_tree.specs.declared.program.Block.{Block}
use Rattle.stl_tree.specs.declared.program.Formal.{Formal}
use Rattle.stl_tree.specs.declared.program.Program.{Program}

passes : (q : Block → Bool) (xs : List Block) (i : ℕ) (b : Block)
    → cond (nat_lt (prefix_len (λ x. not (q x)) xs) (length xs)) (Some (prefix_len (λ x. not (q x)) xs)) None ≡ Some i
    → slice_get xs i ≡ Some b → (prefix_len (λ x. not (q x)) xs ≡ i) × (slice_get xs i ≡ Some b)
passes q xs i b e f = by (nat_lt (prefix_len (λ x. not (q x)) xs) (length xs)) e
  where
    same : (m n : ℕ) → Some m ≡ Some n → m ≡ n
    same m n e = cc

    by : (t : Bool) → cond t (Some (prefix_len (λ x. not (q x)) xs)) None ≡ Some i → (prefix_len (λ x. not (q x)) xs ≡ i) × (slice_get xs i ≡ Some b)
    by true g = (same (prefix_len (λ x. not (q x)) xs) i g, f)
    by false g = absurd cc

at_prefix : (q : Block → Bool) (xs : List Block) (b : Block) → slice_get xs (prefix_len (λ x. not (q x)) xs) ≡ Some b → q b ≡ true
at_prefix q [] b e = absurd cc
at_prefix q (c ∷ xs) b e = by (at_prefix q xs b) (q c) refl e
  where
    same : (x y : Block) → Some x ≡ Some y → x ≡ y
    same x y e = cc

    by : (slice_get xs (prefix_len (λ x. not (q x)) xs) ≡ Some b → q b ≡ true) → (t : Bool) → q c ≡ t
        → slice_get (c ∷ xs) (cond (not (q c)) (1 + prefix_len (λ x. not (q x)) xs) 0) ≡ Some b → q b ≡ true
    by more true t f =
        let here : Some c ≡ Some b = sym (ap (λ u. slice_get (c ∷ xs) (cond (not u) (1 + prefix_len (λ x. not (q x)) xs) 0)) t) ∙ f in
        ap q (sym (same c b here)) ∙ t
    by more false t f =
        let next : 1 + prefix_len (λ x. not (q x)) xs ≡ suc (prefix_len (λ x. not (q x)) xs) = omega arith in
        more (sym (ap (slice_get (c ∷ xs)) next) ∙ sym (ap (λ u. slice_get (c ∷ xs) (cond (not u) (1 + prefix_len (λ x. not (q x)) xs) 0)) t) ∙ f)

given_named : (dbs : List DataBlock) (formals : List Formal) (actuals : List (Place × Width)) → FitWidths dbs (map (λ (f : Formal). f.width) formals) actuals
    → AreNamed dbs (map (λ (f : Formal). f.width) formals) (map (λ (x : Place × Width). Some x.0) actuals)
given_named dbs [] actuals h k w e = absurd cc
given_named dbs (f ∷ formals) [] h k w e = absurd h
given_named dbs (f ∷ formals) (x ∷ actuals) h zero w e =
    (x.0, refl, subst (λ v. IsReached dbs v x.0) (h.0.width ∙ width_is f.width w e) h.0.lies)
  where
    width_is : (v u : Width) → Some v ≡ Some u → v ≡ u
    width_is v u e = cc
given_named dbs (f ∷ formals) (x ∷ actuals) h (suc k) w e = given_named dbs formals actuals h.1 k w e

none_reached : (dbs : List DataBlock) (formals : List Formal) → AreReached dbs formals []
none_reached dbs [] = tt
none_reached dbs (f ∷ formals) = tt

module _ (p : Program) (accepted : IsAccepted p) where
  by_name : (i : ℕ) (b : Block) (n : BlockName) (instance : ℕ) (actuals : List (Place × Width)) → slice_get p.blocks i ≡ Some b → b.name ≡ n
      → FitsBlock p b n instance actuals
      → AreNamed p.dbs (widths_named n b.formals) (places_given n actuals)
      × ((instance_called n instance ≡ 0) ⊎ AreCopied p.dbs (instance_called n instance) b.formals (places_given n actuals))
  by_name i b (name.Ob k) instance actuals e f h = (λ j w g. absurd cc, inl refl)
  by_name i b (name.Fc k) instance actuals e f h = (given_named p.dbs b.formals actuals h, inl refl)
  by_name i b (name.Fb k) instance actuals e f h =
      (λ j w g. absurd cc, inr (record { lie = lies p accepted k i b instance e f h; reached = none_reached p.dbs b.formals }))

  at_block : (call : Call) (i : ℕ) (o : Option Block) → slice_get p.blocks i ≡ o → block_named call.block p.blocks ≡ Some i → FitsIfThere p call o
      → AreActivationsOf p (first_activation (Some i) call)
  at_block call i None e named h = absurd h
  at_block call i (Some b) e named h =
      let at = passes (λ (x : Block). is_same_name x.name call.block) p.blocks i b named e in
      let passed = at_prefix (λ (x : Block). is_same_name x.name call.block) p.blocks b (ap (slice_get p.blocks) at.0 ∙ e) in
      let same : b.name ≡ call.block = same_name b.name call.block passed in
      let known = by_name i b call.block call.instance call.actuals e same h in (
        record {
          block = b;
          there = e;
          most = ACTIVATIONS;
          room = refl;
          chain = accepted.chains i;
          named = subst (λ (n : BlockName). AreNamed p.dbs (widths_named n b.formals) (places_given call.block call.actuals)) (sym same) known.0;
          copied = known.1;
        },
        tt,
      )

  pub first_fits : (call : Call) (i : ℕ) → Fits p call → block_named call.block p.blocks ≡ Some i → AreActivationsOf p (first_activation (Some i) call)
  first_fits call i fits named =
      at_block call i (slice_get p.blocks i) refl named (subst (λ (o : Option ℕ). FitsIfThere p call (block_at p.blocks o)) named fits)
