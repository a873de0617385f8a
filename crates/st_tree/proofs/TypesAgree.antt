-- The type of a well typed expression is the one in which the labels of a CASE are written.
use Rattle.st_tree.proofs.Common.{◌≡◌, Bool, true, false, ◌&&◌, if◌then◌else◌, slice_get, Option, Some, None, refl, is_conversion, is_block_number, is_place, names_in, has_bits, is_type, type_of_binary, type_of_choice, type_of_conversion, type_of_read, type_of_shift, type_of_unary, type_on_equals, where_true, Names, type_of, type_of_width, UnitScope, expression_step, expression_type, is_seen, is_value, on_type, unit_scope_in, type_inside, type_outside, variable_type, BinaryOp, Expr, StType, UnaryOp, Var, Local, Located, Pou, StProgram}
use Rattle.memory_areas.specs.declared.place.AreaName.TheVariants as area
use Rattle.st_tree.specs.TypeRules.{has_numbers}
use Rattle.st_tree.specs.Typing.{binary_type, global_type, local_type, type_step, unary_type, var_type}
use Rattle.st_tree.specs.declared.expr.BinaryOp.TheVariants as binary
use Rattle.st_tree.specs.declared.expr.Expr.TheOpen as E
use Rattle.st_tree.specs.declared.expr.StType.TheVariants as type
use Rattle.st_tree.specs.declared.expr.UnaryOp.TheVariants as unary
use Rattle.st_tree.specs.declared.expr.Var.TheVariants as var
use Rattle.st_tree.proofs.Induction.{Both, Layers, folds_related}

-- the type that the rules give, where they give one, is this one
abbrev Agrees : Option StType → StType → Type 0
Agrees None t = Unit {0}
Agrees (Some ty) t = t ≡ ty

where_agrees : (b : Bool) (ty t : StType) → t ≡ ty → Agrees (where_true b ty) t
where_agrees true ty t h = h
where_agrees false ty t h = tt

if_agrees : (b : Bool) (o : Option StType) (t : StType) → Agrees o t → Agrees (if b then o else None) t
if_agrees true o t h = h
if_agrees false o t h = tt

-- by the operand's type, where it has one
on_agrees : (rule : StType → Option StType) (t : StType) (a : Both Agrees)
    → ((ty : StType) → a.1 ≡ ty → Agrees (rule ty) t) → Agrees (on_type a.0 rule) t
on_agrees rule t (None, u, h) given = tt
on_agrees rule t (Some ty, u, h) given = given ty h

-- Operators

one_agrees : (op : UnaryOp) (ty t : StType) → t ≡ ty → Agrees (type_of_unary op ty) (unary_type op t)
one_agrees unary.Minus ty t h = where_agrees (has_numbers ty) ty t h
one_agrees unary.Not ty t h = where_agrees (has_bits ty) ty t h
one_agrees unary.BcdToInt ty t h = where_agrees (is_type ty type.Word) type.Int type.Int refl
one_agrees unary.BcdToDint ty t h = where_agrees (is_type ty type.Dword) type.Dint type.Dint refl

equals_agree : (op : BinaryOp) (ty t : StType) → t ≡ ty → Agrees (type_on_equals op ty) (binary_type op t)
equals_agree binary.Lt ty t h = refl
equals_agree binary.Gt ty t h = refl
equals_agree binary.Le ty t h = refl
equals_agree binary.Ge ty t h = refl
equals_agree binary.Eq ty t h = refl
equals_agree binary.Ne ty t h = refl
equals_agree op ty t h = where_agrees _ ty t h

-- Variables

inside_agrees : (o : Option Local) → Agrees (type_inside o) (local_type o)
inside_agrees None = tt
inside_agrees (Some local) = refl

outside_agrees : (sight : UnitScope) (o : Option Located) → Agrees (type_outside sight o) (global_type o)
outside_agrees sight None = tt
outside_agrees sight (Some global) = where_agrees (is_seen sight global.name) global.ty global.ty refl

module _ (tree : StProgram) (unit : Pou) where
  abbrev sight : UnitScope
  sight = unit_scope_in tree unit

  abbrev names : Names
  names = names_in tree unit

  variable_agrees : (v : Var) → Agrees (variable_type sight v) (var_type names v)
  variable_agrees (var.Register r) = refl
  variable_agrees (var.Local i) = inside_agrees (slice_get unit.locals i)
  variable_agrees (var.Formal i) = inside_agrees (slice_get unit.formals i)
  variable_agrees (var.Global i) = outside_agrees sight (slice_get tree.globals i)
  variable_agrees (var.Direct a byte bit w) =
      where_agrees (is_place a w byte bit) (type_of_width w) (type_of_width w) refl
  variable_agrees (var.InBlock n byte bit w) =
      where_agrees (is_block_number n && is_place area.Db w byte bit) (type_of_width w) (type_of_width w) refl

  -- Expressions

  layers : Layers Agrees (expression_step sight) (type_step names)
  layers (E.Literal ty n) = where_agrees (is_value ty n) ty ty refl
  layers (E.Read v) = variable_agrees v
  layers (E.Unary op a) = on_agrees (type_of_unary op) (unary_type op a.1) a (λ ty e. one_agrees op ty a.1 e)
  layers (E.Binary op a b) =
      on_agrees (λ ty. on_type b.0 (type_of_binary op ty)) (binary_type op a.1) a (λ ty e.
      on_agrees (type_of_binary op ty) (binary_type op a.1) b (λ u f.
      if_agrees (is_type ty u) (type_on_equals op ty) (binary_type op a.1) (equals_agree op ty a.1 e)))
  layers (E.Convert from to a) =
      on_agrees (λ ty. on_type (type_of_conversion from to ty) (where_true (is_conversion from to))) to a (λ ty e.
      on_agrees (where_true (is_conversion from to)) to
      (type_of_conversion from to ty, to, where_agrees (is_type ty from) to to refl)
      (λ u f. where_agrees (is_conversion from to) u to f))
  layers (E.Select gate a b) =
      on_agrees (λ g. on_type a.0 (λ ty. on_type b.0 (type_of_choice g ty))) a.1 gate (λ g d.
      on_agrees (λ ty. on_type b.0 (type_of_choice g ty)) a.1 a (λ ty e.
      on_agrees (type_of_choice g ty) a.1 b (λ u f. where_agrees (is_type g type.Bool && is_type ty u) ty a.1 e)))
  layers (E.Shift op a b) =
      on_agrees (λ ty. on_type b.0 (type_of_shift ty)) a.1 a (λ ty e.
      on_agrees (type_of_shift ty) a.1 b (λ u f. where_agrees (has_bits ty && is_type u type.Int) ty a.1 e))
  layers (E.AreaRead w a) =
      on_agrees (type_of_read w) (type_of_width w) a (λ ty e.
      where_agrees (is_type ty type.Dword) (type_of_width w) (type_of_width w) refl)

  pub types_agree : (e : Expr) (ty : StType) → expression_type sight e ≡ Some ty → type_of names e ≡ ty
  types_agree e ty h =
      rw (h, Agrees) at (folds_related Agrees (expression_step sight) (type_step names) layers e)
