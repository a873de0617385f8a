-- An expression with operands by what its operands are: where it breaks no rule, and what it is.
use Rattle.st_tree.proofs.Common.{◌≡◌, [], Option, Some, None, refl, sym, ap, ◌∙◌, Line, Width, type_of_binary, type_of_choice, type_of_conversion, type_of_read, type_of_shift, type_of_unary}
use Rattle.st_reading_laws.proofs.ReadEquations.{read_at}
use Rattle.st_rules.proofs.Common.{Expr, StType, RawExpr, Judged, sound, expression}
use Rattle.st_tree.specs.declared.expr.BinaryOp.{BinaryOp}
use Rattle.st_tree.specs.declared.expr.Expr.TheVariants as expr
use Rattle.st_tree.specs.declared.expr.ShiftOp.{ShiftOp}
use Rattle.st_tree.specs.declared.expr.UnaryOp.{UnaryOp}
use Rattle.st_tree.specs.declared.raw.RawExpr.TheOpen as R
use Rattle.st_tree.specs.declared.raw.RawExpr.TheVariants as raw
use Rattle.st_reading_laws.proofs.Lists.{both_nil, nil_first}
use Rattle.st_rules.specs.Judged.{after_breaks}
use Rattle.st_rules.specs.Expressions.{typed_as}
use Rattle.st_rules.specs.declared.expression.Typed.{Typed}
use Rattle.st_names.specs.declared.scope.NameScope.{NameScope}

-- Types

-- an expression is judged by the type that a rule gives it
pub record IsBy (l : Line) (j : Judged Typed) (o : Option StType) (e : Expr) : Type 0 where
  pub is : j ≡ after_breaks [] (typed_as l o e)

-- a rule gives a type
abbrev pub HasType : Option StType → Type 0
HasType o = (ty : StType) × (o ≡ Some ty)

-- it has a type where it breaks no rule
pub has_type : {l : Line} {j : Judged Typed} {o : Option StType} {e : Expr} → IsBy l j o e → j.breaks ≡ [] → HasType o
has_type {l} {j} {o} {e} h c =
    (elim o as (λ p. (typed_as l p e).breaks ≡ [] → HasType p) [ None ↦ λ q. absurd cc | Some ty ↦ λ q. (ty, refl) ])
    (sym (ap (λ (k : Judged Typed). k.breaks) h.is) ∙ c)

-- and is an expression of the type that it has
pub is_typed : {l : Line} {j : Judged Typed} {o : Option StType} {e : Expr} {ty : StType} → IsBy l j o e → o ≡ Some ty
    → j ≡ sound (record { ty = ty; tree = e })
is_typed {l} {j} {o} {e} h q = h.is ∙ ap (λ o. after_breaks [] (typed_as l o e)) q

-- What is read

module _ (s : NameScope) (l : Line) where
  -- an expression that breaks no rule is this
  abbrev pub Is : RawExpr → Typed → Type 0
  Is a t = expression s l a ≡ sound t

  abbrev pub IsClean : RawExpr → Type 0
  IsClean a = (expression s l a).breaks ≡ []

  -- the operands of what breaks no rule break none
  pub unary_operand : (op : UnaryOp) (a : RawExpr) → IsClean (raw.Unary op a) → IsClean a
  unary_operand op a h = nil_first _ _ (rw (read_at s l (R.Unary op a) (raw.rolls-Unary op a)) at h)

  pub binary_operands : (op : BinaryOp) (a b : RawExpr) → IsClean (raw.Binary op a b) → IsClean a × IsClean b
  binary_operands op a b h = both_nil _ _ (nil_first _ _ (rw (read_at s l (R.Binary op a b) (raw.rolls-Binary op a b)) at h))

  pub convert_operand : (from to : StType) (a : RawExpr) → IsClean (raw.Convert from to a) → IsClean a
  convert_operand from to a h = nil_first _ _ (rw (read_at s l (R.Convert from to a) (raw.rolls-Convert from to a)) at h)

  pub select_operands : (a b c : RawExpr) → IsClean (raw.Select a b c) → IsClean a × IsClean b × IsClean c
  select_operands a b c h =
      let all = both_nil _ _ (nil_first _ _ (rw (read_at s l (R.Select a b c) (raw.rolls-Select a b c)) at h)) in
      let first = both_nil _ _ all.0 in
      (first.0, first.1, all.1)

  pub shift_operands : (op : ShiftOp) (a b : RawExpr) → IsClean (raw.Shift op a b) → IsClean a × IsClean b
  shift_operands op a b h = both_nil _ _ (nil_first _ _ (rw (read_at s l (R.Shift op a b) (raw.rolls-Shift op a b)) at h))

  pub area_operand : (w : Width) (a : RawExpr) → IsClean (raw.AreaRead w a) → IsClean a
  area_operand w a h = nil_first _ _ (rw (read_at s l (R.AreaRead w a) (raw.rolls-AreaRead w a)) at h)

  -- what they are with the operands that they have
  pub unary_by : (op : UnaryOp) (a : RawExpr) (t : Typed) → Is a t → IsBy l (expression s l (raw.Unary op a)) (type_of_unary op t.ty) (expr.Unary op t.tree)
  unary_by op a t h = record { is = rw (read_at s l (R.Unary op a) (raw.rolls-Unary op a), h) refl }

  pub binary_by : (op : BinaryOp) (a b : RawExpr) (t u : Typed) → Is a t → Is b u
      → IsBy l (expression s l (raw.Binary op a b)) (type_of_binary op t.ty u.ty) (expr.Binary op t.tree u.tree)
  binary_by op a b t u h g = record { is = rw (read_at s l (R.Binary op a b) (raw.rolls-Binary op a b), h, g) refl }

  pub convert_by : (from to : StType) (a : RawExpr) (t : Typed) → Is a t
      → IsBy l (expression s l (raw.Convert from to a)) (type_of_conversion from to t.ty) (expr.Convert from to t.tree)
  convert_by from to a t h = record { is = rw (read_at s l (R.Convert from to a) (raw.rolls-Convert from to a), h) refl }

  pub select_by : (a b c : RawExpr) (t u v : Typed) → Is a t → Is b u → Is c v
      → IsBy l (expression s l (raw.Select a b c)) (type_of_choice t.ty u.ty v.ty) (expr.Select t.tree u.tree v.tree)
  select_by a b c t u v h g f = record { is = rw (read_at s l (R.Select a b c) (raw.rolls-Select a b c), h, g, f) refl }

  pub shift_by : (op : ShiftOp) (a b : RawExpr) (t u : Typed) → Is a t → Is b u
      → IsBy l (expression s l (raw.Shift op a b)) (type_of_shift t.ty u.ty) (expr.Shift op t.tree u.tree)
  shift_by op a b t u h g = record { is = rw (read_at s l (R.Shift op a b) (raw.rolls-Shift op a b), h, g) refl }

  pub area_by : (w : Width) (a : RawExpr) (t : Typed) → Is a t → IsBy l (expression s l (raw.AreaRead w a)) (type_of_read w t.ty) (expr.AreaRead w t.tree)
  area_by w a t h = record { is = rw (read_at s l (R.AreaRead w a) (raw.rolls-AreaRead w a), h) refl }
