-- What more jumps allow, a worked text, and what keeps the selector.
use Rattle.std.proofs.Common.{◌≢◌, inl, [], ◌∷◌, refl, subst, arith}
use Rattle.std.proofs.lemmas.List.Elements.{All-head}
use Rattle.st_tree.specs.BodyParts.{reads_of}
use Rattle.st_tree.specs.declared.expr.Expr.{Expr}
use Rattle.st_tree.specs.declared.expr.Expr.TheVariants as expr
use Rattle.st_tree.specs.declared.expr.Var.{Var}
use Rattle.st_tree.specs.declared.expr.Var.TheVariants as var
use Rattle.st_tree.proofs.PartEquations.{part_equations, reads_of_read}
use Rattle.text_shapes.specs.Shape.{AreOthers}
use Rattle.text_shapes.specs.ShapeLaws.{AllAreAmong, MoreJumpsAllowMore, SelectorIsKept, WorkedTextIsCounted}

pub more_jumps_allow_more : MoreJumpsAllowMore
more_jumps_allow_more flow conditionals lists more_conditionals more_lists next body x y is =
    record {
      segments = is.segments;
      written = is.written;
      judgements = is.judgements;
      all = is.all;
      some = is.some;
      judged = is.judged;
      declared = is.declared;
      selector = is.selector;
      selectors = is.selectors;
      arms = is.arms;
      cases = (let z = is.cases in omega arith);
      loops = is.loops;
      tests = (let z = is.tests in omega arith);
    }

pub all_are_among : AllAreAmong
all_are_among [] = tt
all_are_among (g ∷ gs) = inl (refl, all_are_among gs)

pub worked_text_is_counted : WorkedTextIsCounted
worked_text_is_counted e =
    record {
      loops = simp part_equations refl;
      tests = simp part_equations refl;
      selectors = simp part_equations refl;
      arms = simp part_equations refl;
      others = simp part_equations refl;
      no_selector = simp part_equations refl;
      another = simp part_equations refl;
    }

pub selector_is_kept : SelectorIsKept
selector_is_kept next e arms other = (
  (λ h. h.0 refl),
  (λ h. All-head (λ (v : Var). v ≢ var.Local next) (var.Local next) [] h refl),
  (λ h.
      let reads : AreOthers next (reads_of (expr.Read (var.Local next)))
      = All-head (λ (e : Expr). AreOthers next (reads_of e)) (expr.Read (var.Local next)) [] h in
      All-head (λ (v : Var). v ≢ var.Local next) (var.Local next) []
      (subst (AreOthers next) (reads_of_read (var.Local next)) reads) refl),
  tt,
  tt,
)
