-- The text of a block with a table in a dispatch loop.
use Rattle.std.proofs.Common.{◌≡◌, ℕ, suc, ◌+◌, List, [], ◌∷◌, ◌++◌, length, slice_get, refl, ap, ◌∙◌, subst, arith}
use Rattle.st_tree.specs.GraphRun.{entry_or}
use Rattle.st_tree.specs.declared.program.CaseArm.{CaseArm}
use Rattle.st_tree.specs.declared.program.Stmt.TheVariants as stmt
use Rattle.region_laws.specs.NextLocal.{arm_with_label}
use Rattle.region_laws.specs.Regions.{arms_with_labels, labels_from, text_of}
use Rattle.unit_regions.specs.UnitLaws.{TableText}
use Rattle.unit_regions.specs.UnitRegion.{entry_arms, lead_to}

module _ (next past last : ℕ) where
  abbrev arms_by : (ℕ → ℕ) → List ℕ → List CaseArm
  arms_by f labels = arms_with_labels (λ n. text_of next (lead_to past (f n))) labels

  -- labels from a number on choose the entries in their order
  entries : (f : ℕ → ℕ) (targets : List ℕ) (k : ℕ) → ((i : ℕ) → f (k + i) ≡ entry_or (slice_get targets i) last)
      → arms_by f (labels_from k (length targets)) ≡ entry_arms next past k targets
  entries f [] k same = refl
  entries f (t ∷ targets) k same =
      let here : f k ≡ t = subst (λ n. f n ≡ t) (let e : k + 0 ≡ k = omega arith in e) (same 0) in
      ap (λ (j : ℕ). arm_with_label k (text_of next (lead_to past j)) ∷ arms_by f (labels_from (suc k) (length targets))) here
      ∙ ap (λ (arms : List CaseArm). arm_with_label k (text_of next (lead_to past t)) ∷ arms)
      (entries f targets (suc k) (λ i. subst (λ n. f n ≡ entry_or (slice_get targets i) last)
      (let e : k + suc i ≡ suc k + i = omega arith in e) (same (suc i))))

  past_entries : (targets : List ℕ) → entry_or (slice_get targets (length targets)) last ≡ last
  past_entries [] = refl
  past_entries (t ∷ targets) = past_entries targets

pub table_text : TableText
table_text next first past follow i steps e targets last =
    let f : ℕ → ℕ = λ n. entry_or (slice_get targets n) last in
    ap (λ (arms : List CaseArm). steps ++ stmt.Case e arms (text_of next (lead_to past (f (length targets)))) ∷ [])
    (entries next past last f targets 0 (λ i. ap f (let g : 0 + i ≡ i = omega arith in g)))
    ∙ ap (λ (j : ℕ). steps ++ stmt.Case e (entry_arms next past 0 targets) (text_of next (lead_to past j)) ∷ []) (past_entries next past last targets)
