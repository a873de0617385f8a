-- What an expression is by the rules of texts, at each variant.
use Rattle.st_tree.proofs.Common.{◌≡◌, ℤ, sym, ap, ◌∙◌, Line}
use Rattle.st_rules.proofs.Common.{StType, RawExpr, RawVar, Judged, expression}
use Rattle.st_tree.specs.declared.raw.RawExpr.{fold-roll-RawExpr, map-RawExpr, roll-RawExpr}
use Rattle.st_tree.specs.declared.raw.RawExpr.TheOpen as R
use Rattle.st_tree.specs.declared.raw.RawExpr.TheVariants as raw
use Rattle.st_rules.specs.Expressions.{expression_step}
use Rattle.st_rules.specs.declared.expression.Typed.{Typed}
use Rattle.st_names.specs.declared.scope.NameScope.{NameScope}

module _ (s : NameScope) (l : Line) where
  -- an expression is what its operands are
  pub read_at : {x : RawExpr} (y : R.RawExpr-F RawExpr) → roll-RawExpr y ≡ x
      → expression s l x ≡ expression_step s l (map-RawExpr RawExpr (Judged Typed) (expression s l) y)
  read_at y e = ap (expression s l) (sym e) ∙ fold-roll-RawExpr (Judged Typed) (expression_step s l) y

  pub read_literal : (ty : StType) (n : ℤ) → expression s l (raw.Literal ty n) ≡ expression_step s l (R.Literal ty n)
  read_literal ty n = read_at (R.Literal ty n) (raw.rolls-Literal ty n)

  pub read_variable : (v : RawVar) → expression s l (raw.Read v) ≡ expression_step s l (R.Read v)
  read_variable v = read_at (R.Read v) (raw.rolls-Read v)
