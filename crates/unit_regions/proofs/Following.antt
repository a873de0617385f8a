-- One region after another.
use Rattle.std.proofs.Common.{◌≡◌, ℕ, suc, Bool, false, if◌then◌else◌, List, [], ◌∷◌, ◌++◌, append_assoc, refl, sym, ap, ◌∙◌, subst}
use Rattle.st_tree.specs.declared.program.Stmt.{Stmt}
use Rattle.st_tree.specs.declared.program.Stmt.TheVariants as stmt
use Rattle.st_tree.specs.declared.expr.Expr.TheVariants as expr
use Rattle.st_tree.specs.declared.expr.Var.TheVariants as var
use Rattle.region_laws.specs.NextLocal.{set_next}
use Rattle.region_laws.specs.Regions.{Around, Fits, Marked, Place, Region, again, arms_of_nodes, at, choice, choose, cycle, ended, forever, fork, arms_with_labels, labels_from, leaves, node, off, quit, selected, selector, table, text_of, turn_to}
use Rattle.unit_regions.specs.UnitLaws.{FollowedByAnyFits, FollowedByFits, FollowedByText}
use Rattle.unit_regions.specs.UnitRegion.{falls_off, followed_by}

-- Fitting

module _ (unit : Marked) (more : Region) (follow : Place) where
  fits : (r : Region) (turn : Bool) (p q : Place) (a : Around) → Fits unit turn r p q a → Fits unit false more q follow a
      → Fits unit turn (followed_by r more) p follow a
  fits off turn p q a f k =
      subst (λ turn. Fits unit turn more p follow a) (sym f.0) (subst (λ p. Fits unit false more p follow a) (sym f.1) k)
  fits leaves turn p q a f k = f
  fits again turn p q a f k = f
  fits ended turn p q a f k = f
  fits (node steps rest) turn p q a (i, x, to, e, is, leads, f) k = (i, x, to, e, is, leads, fits rest false to q a f k)
  fits (fork steps t there behind join rest) turn p q a (i, j, e, is, first, second, f) k =
      (i, j, e, is, first, second, fits rest false join q a f k)
  fits (quit steps t rest) turn p q a (i, e, is, f) k = (i, e, is, fits rest false (at (suc i)) q a f k)
  fits (table steps t count arms join rest) turn p q a (i, targets, last, e, is, same, inner, f) k =
      (i, targets, last, e, is, same, inner, fits rest false join q a f k)
  fits (choose steps t targets nodes arms other join rest) turn p q a (i, last, e, is, have, inner, own, f) k =
      (i, last, e, is, have, inner, own, fits rest false join q a f k)
  fits (cycle body behind rest) turn p q a (h, d, e, head, inner, f) k = (h, d, e, head, inner, fits rest false behind q a f k)
  fits (turn_to j rest) turn p q a (n, d, e, mark, f) k = (n, d, e, mark, fits rest false (selected n) q a f k)
  fits (selector labels arms behind rest) turn p q a (n, d, e, same, inner, f) k =
      (n, d, e, same, inner, fits rest false behind q a f k)

  any_fits : (r : Region) (turn : Bool) (p q : Place) (a : Around) → falls_off r ≡ false → Fits unit turn r p q a
      → Fits unit turn (followed_by r more) p follow a
  any_fits off turn p q a n f = absurd cc
  any_fits leaves turn p q a n f = f
  any_fits again turn p q a n f = f
  any_fits ended turn p q a n f = f
  any_fits (node steps rest) turn p q a n (i, x, to, e, is, leads, f) = (i, x, to, e, is, leads, any_fits rest false to q a n f)
  any_fits (fork steps t there behind join rest) turn p q a n (i, j, e, is, first, second, f) =
      (i, j, e, is, first, second, any_fits rest false join q a n f)
  any_fits (quit steps t rest) turn p q a n (i, e, is, f) = (i, e, is, any_fits rest false (at (suc i)) q a n f)
  any_fits (table steps t count arms join rest) turn p q a n (i, targets, last, e, is, same, inner, f) =
      (i, targets, last, e, is, same, inner, any_fits rest false join q a n f)
  any_fits (choose steps t targets nodes arms other join rest) turn p q a n (i, last, e, is, have, inner, own, f) =
      (i, last, e, is, have, inner, own, any_fits rest false join q a n f)
  any_fits (cycle body behind rest) turn p q a n (h, d, e, head, inner, f) = (h, d, e, head, inner, any_fits rest false behind q a n f)
  any_fits (turn_to j rest) turn p q a n (k, d, e, mark, f) = (k, d, e, mark, any_fits rest false (selected k) q a n f)
  any_fits (selector labels arms behind rest) turn p q a n (k, d, e, same, inner, f) =
      (k, d, e, same, inner, any_fits rest false behind q a n f)

pub followed_by_fits : FollowedByFits
followed_by_fits unit turn r more p q follow a f k = fits unit more follow r turn p q a f k

pub followed_by_any_fits : FollowedByAnyFits
followed_by_any_fits unit turn r more p q follow a n f = any_fits unit more follow r turn p q a n f

-- Texts

module _ (next : ℕ) (more : Region) where
  abbrev Rest : Region → List Stmt
  Rest r = if falls_off r then text_of next more else []

  behind_steps : (steps xs ys zs : List Stmt) → ys ≡ xs ++ zs → steps ++ ys ≡ (steps ++ xs) ++ zs
  behind_steps steps xs ys zs e = ap (λ ys. steps ++ ys) e ∙ sym (append_assoc steps xs zs)

  text : (r : Region) → text_of next (followed_by r more) ≡ text_of next r ++ Rest r
  text off = refl
  text leaves = refl
  text again = refl
  text ended = refl
  text (node steps rest) = behind_steps steps (text_of next rest) (text_of next (followed_by rest more)) (Rest rest) (text rest)
  text (fork steps e there inner join rest) =
      let x = choice e (text_of next there) (text_of next inner) in
      behind_steps steps (x ∷ text_of next rest) (x ∷ text_of next (followed_by rest more)) (Rest rest) (ap (λ ys. x ∷ ys) (text rest))
  text (quit steps e rest) =
      let x = choice e (stmt.Return ∷ []) [] in
      behind_steps steps (x ∷ text_of next rest) (x ∷ text_of next (followed_by rest more)) (Rest rest) (ap (λ ys. x ∷ ys) (text rest))
  text (table steps e count arms join rest) =
      let x = stmt.Case e (arms_with_labels (λ n. text_of next (arms n)) (labels_from 0 count)) (text_of next (arms count)) in
      behind_steps steps (x ∷ text_of next rest) (x ∷ text_of next (followed_by rest more)) (Rest rest) (ap (λ ys. x ∷ ys) (text rest))
  text (choose steps e targets nodes arms other join rest) =
      let x = stmt.Case e (arms_of_nodes targets (λ j. text_of next (arms j)) nodes) (text_of next other) in
      behind_steps steps (x ∷ text_of next rest) (x ∷ text_of next (followed_by rest more)) (Rest rest) (ap (λ ys. x ∷ ys) (text rest))
  text (cycle body behind rest) = ap (λ ys. forever (text_of next body) ∷ ys) (text rest)
  text (turn_to j rest) = ap (λ ys. set_next next j ∷ ys) (text rest)
  text (selector labels arms behind rest) =
      ap (λ ys. forever (stmt.Case (expr.Read (var.Local next)) (arms_with_labels (λ n. text_of next (arms n)) labels) [] ∷ []) ∷ ys) (text rest)

pub followed_by_text : FollowedByText
followed_by_text next r more = text next more r
