-- Counts of texts: one after another, and by their first statement.
use Rattle.std.proofs.Common.{◌≡◌, ℕ, ◌+◌, List, ◌∷◌, ◌++◌, sym, ap, ◌∙◌, arith}
use Rattle.std.specs.List.{sum_by}
use Rattle.std.proofs.lemmas.Grind.{flat_map-append}
use Rattle.std.proofs.lemmas.List.Sums.{sum_by-append, sum_by-cons}
use Rattle.st_tree.specs.BodyParts.{inner_statements, statements_in}
use Rattle.st_tree.specs.declared.program.Arm.{Arm}
use Rattle.st_tree.specs.declared.program.CaseArm.{CaseArm}
use Rattle.st_tree.specs.declared.program.Stmt.{Stmt, out-Stmt, out-roll-Stmt, roll-Stmt}
use Rattle.st_tree.specs.declared.program.Stmt.TheOpen as S
use Rattle.st_tree.proofs.PartEquations.{inner_bodies, inner_rolled}
use Rattle.text_shapes.specs.Shape.{count_in}
use Rattle.text_shapes.specs.ShapeLaws.{CountsAdd}

abbrev pub Layer : Type 0
Layer = S.Stmt-F Stmt Arm CaseArm

module _ (count : Layer → ℕ) where
  -- what is counted of some statements without those inside them
  abbrev pub own_sum : List Stmt → ℕ
  own_sum xs = sum_by (λ (x : Stmt). count (out-Stmt x)) xs

  pub count_append : (xs ys : List Stmt) → count_in count (xs ++ ys) ≡ count_in count xs + count_in count ys
  count_append xs ys =
      ap own_sum (flat_map-append (λ (x : Stmt). x ∷ inner_statements x) xs ys)
      ∙ sum_by-append (λ (x : Stmt). count (out-Stmt x)) (statements_in xs) (statements_in ys)

  pub count_first : (y : Layer) (x : Stmt) → roll-Stmt y ≡ x → (rest : List Stmt)
      → count_in count (x ∷ rest) ≡ count y + own_sum (inner_bodies y) + count_in count rest
  count_first y x e rest =
      let f = sum_by-append (λ (x : Stmt). count (out-Stmt x)) (x ∷ inner_statements x) (statements_in rest) in
      let g = sum_by-cons (λ (x : Stmt). count (out-Stmt x)) x (inner_statements x) in
      let h : count (out-Stmt x) ≡ count y = ap (λ (x : Stmt). count (out-Stmt x)) (sym e) ∙ ap count (out-roll-Stmt y) in
      let i : own_sum (inner_statements x) ≡ own_sum (inner_bodies y)
      = ap (λ (x : Stmt). own_sum (inner_statements x)) (sym e) ∙ ap own_sum (inner_rolled y) in
      omega arith

pub counts_add : CountsAdd
counts_add count xs ys = count_append count xs ys
