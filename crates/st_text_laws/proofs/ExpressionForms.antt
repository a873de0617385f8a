-- A well typed expression in its canonical form: it means the expression on each line, is of the language, and
-- tokens can have its parts.
use Rattle.st_tree.proofs.Common.{◌≡◌, ℕ, suc, ◌-◌, ℤ, true, false, Option, Some, refl, sym, ap, subst, ◌∙◌, arith, ◌<◌, ◌≤◌, nat_lt, if◌then◌else◌, Line, Width, infix_level, canon, canon_step, type_of_unary, where_true, is_conversion, form_height, form_nesting, Names, expression_type, is_value, on_type, nat_tests}
use Rattle.st_text_laws.proofs.Spells.{Spells}
use Rattle.st_text_laws.specs.Canonical.{expr_form, form_of, unary_form, raw_var}
use Rattle.st_text_laws.specs.Spelled.{is_function}
use Rattle.st_grammar.proofs.Common.{Form, group, prefix, infix_of, apply, Binds, level, tree, spell, height}
use Rattle.st_grammar.specs.declared.kind.OneOperand.TheVariants as one
use Rattle.st_reading_laws.proofs.ReadEquations.{read_literal, read_variable}
use Rattle.st_text_laws.proofs.Levels.{nest}
use Rattle.st_reading_laws.proofs.Operands.{area_by, binary_by, convert_by, is_typed, select_by, shift_by, unary_by}
use Rattle.st_text_laws.proofs.NameScope.{Sees, unit_scope_by}
use Rattle.st_text_laws.proofs.ValueForms.{kept_literal}
use Rattle.st_text_laws.proofs.Variables.{given, where_given, written}
use Rattle.st_text_laws.proofs.SameNames.{between}
use Rattle.st_rules.proofs.Common.{sound, expression}
use Rattle.st_rules.specs.declared.expression.Typed.{Typed}
use Rattle.st_names.specs.declared.scope.NameScope.{NameScope}
use Rattle.st_tree.proofs.Induction.{ExprSteps, every_expr}
use Rattle.st_tree.proofs.TypingEquations.{typed_area_read, typed_binary, typed_convert, typed_literal, typed_read, typed_select, typed_shift, typed_unary}
use Rattle.st_tree.specs.Form as bare
use Rattle.st_tree.specs.TypeRules as types
use Rattle.st_lexer.proofs.Common.{BinaryOp, Expr, ShiftOp, StType, UnaryOp, Var}
use Rattle.st_tree.specs.declared.expr.Expr.{fold-roll-Expr, ind-Expr, map-Expr}
use Rattle.st_tree.specs.declared.expr.Expr.TheVariants as expr
use Rattle.st_tree.specs.declared.expr.UnaryOp.TheVariants as unary
use Rattle.st_grammar.specs.declared.kind.Prefix.TheVariants as before
use Rattle.st_tree.proofs.Equations.{canon_literal, canon_read, canon_unary, canon_binary, canon_convert, canon_select, canon_shift, canon_area_read}
use Rattle.st_tree.specs.declared.expr.BinaryOp.TheVariants as binary
use Rattle.st_tree.specs.declared.expr.Expr.TheOpen as E

-- Canonical forms

-- the form at a place that takes levels up to j, in brackets where its precedence is lower
abbrev wrapped : ℕ → Form → Form
wrapped j f = if nat_lt j (level f) then group f else f

-- an operator before its operand, in the form that the operand has
abbrev before_operand : UnaryOp → Form → Form
before_operand unary.Minus f = prefix before.Minus (wrapped 1 f)
before_operand unary.Not f = prefix before.Not (wrapped 2 f)
before_operand unary.BcdToInt f = apply one.BcdToInt f
before_operand unary.BcdToDint f = apply one.BcdToDint f

module _ (names : Names) (k : ℕ) where
  core : (y : E.Expr-F bare.Form) → level (form_of names k (canon_step y)) ≡ bare.level (canon_step y)
  core (E.Unary unary.Minus f) = refl
  core other = refl

  abbrev HasLevel : Expr → Type 0
  HasLevel e = level (expr_form names k e) ≡ bare.level (canon e)

  -- a canonical form has the precedence of what it is of
  form_level : (e : Expr) → HasLevel e
  form_level = ind-Expr HasLevel (λ (x : E.Expr-F Expr) (y : E.Expr-F ((e : Expr) × HasLevel e)) e.
      subst (λ (f : bare.Form). level (form_of names k f) ≡ bare.level f) (sym (fold-roll-Expr bare.Form canon_step x))
      (core (map-Expr Expr bare.Form canon x)))

  form_wrap : (j : ℕ) (e : Expr) → form_of names k (bare.wrap j (canon e)) ≡ wrapped j (expr_form names k e)
  form_wrap j e = grind (arith, form_level e)

  form_unary : (op : UnaryOp) (e : Expr)
      → expr_form names k (expr.Unary op e) ≡ before_operand op (expr_form names k e)
  form_unary unary.Minus e = ap (form_of names k) (canon_unary unary.Minus e) ∙ ap (prefix before.Minus) (form_wrap 1 e)
  form_unary unary.Not e = ap (form_of names k) (canon_unary unary.Not e) ∙ ap (prefix before.Not) (form_wrap 2 e)
  form_unary op e = ap (form_of names k) (canon_unary op e)

  form_binary : (op : BinaryOp) (e g : Expr) →
      expr_form names k (expr.Binary op e g)
      ≡ infix_of op (wrapped (infix_level op) (expr_form names k e))
      (wrapped (infix_level op - 1) (expr_form names k g))
  form_binary op e g =
      rw (canon_binary op e g) (cc (form_wrap (infix_level op) e, form_wrap (infix_level op - 1) g))

wrapped_level : (j : ℕ) (f : Form) → level (wrapped j f) ≤ j
wrapped_level j f = grind (arith, nat_tests)

some : (op : BinaryOp) → 0 < infix_level op
some binary.Mul = omega arith
some other = omega arith

right_level : (op : BinaryOp) (c : Form) → level (wrapped (infix_level op - 1) c) < infix_level op
right_level op c = omega (arith, wrapped_level (infix_level op - 1) c, some op)

-- What holds of them

-- a form is one of this expression, and of the language
pub record Sound (s : NameScope) (m : Line) (t : Typed) (c : Form) : Type 0 where
  pub means : expression s m (tree c) ≡ sound t
  pub binds : Binds c
  pub spelled : Spells (spell c)

-- an expression of a type
abbrev pub typed_tree : StType → Expr → Typed
typed_tree ty e = record { ty = ty; tree = e }

wrap_sound : (s : NameScope) (m : Line) (t : Typed) (c : Form) (j : ℕ) → Sound s m t c → Sound s m t (wrapped j c)
wrap_sound s m t c j h = elim (nat_lt j (level c)) as (λ b. Sound s m t (if b then group c else c)) [
  | true ↦ record { means = h.means; binds = h.binds; spelled = λ ks q. (refl, h.spelled _ (refl, q)) }
  | false ↦ h
]

before_sound : (s : NameScope) (m : Line) (op : UnaryOp) (t : Typed) (ty : StType) (c : Form) → Sound s m t c
    → type_of_unary op t.ty ≡ Some ty
    → Sound s m (typed_tree ty (expr.Unary op t.tree)) (before_operand op c)
before_sound s m unary.Minus t ty c h e =
    let w = wrap_sound s m t c 1 h in
    record {
      means = is_typed (unary_by s m unary.Minus (tree (wrapped 1 c)) t w.means) e;
      binds = (wrapped_level 1 c, w.binds);
      spelled = λ ks q. (refl, w.spelled ks q);
    }
before_sound s m unary.Not t ty c h e =
    let w = wrap_sound s m t c 2 h in
    record {
      means = is_typed (unary_by s m unary.Not (tree (wrapped 2 c)) t w.means) e;
      binds = (wrapped_level 2 c, w.binds);
      spelled = λ ks q. (refl, w.spelled ks q);
    }
before_sound s m op t ty c h e = record {
  means = is_typed (unary_by s m op (tree c) t h.means) e;
  binds = h.binds;
  spelled = λ ks q. (refl, (refl, h.spelled _ (refl, q)));
}

-- Expressions

module _ (s : NameScope) (names : Names) (sees : Sees s names) where
  abbrev type_in : Expr → Option StType
  type_in e = expression_type (unit_scope_by names) e

  abbrev Good : Expr → Type 0
  Good e = (ty : StType) → type_in e ≡ Some ty → (k : ℕ) (m : Line) → Sound s m (typed_tree ty e) (expr_form names k e)

  literal_good : (ty : StType) (n : ℤ) → Good (expr.Literal ty n)
  literal_good ty n u h k m =
      let w = where_given (is_value ty n) ty u (sym (typed_literal (unit_scope_by names) ty n) ∙ h) in
      let g = kept_literal ty n w.0 in
      subst (λ v. Sound s m (typed_tree v (expr.Literal ty n)) (expr_form names k (expr.Literal ty n))) w.1
      (rw (canon_literal ty n) (record {
        means = ap (expression s m) g.tree ∙ read_literal s m ty n;
        binds = g.value;
        spelled = λ ks q. (g.spelled, q);
      }))

  read_good : (v : Var) → Good (expr.Read v)
  read_good v u h k m =
      let w = written s names sees v u (sym (typed_read (unit_scope_by names) v) ∙ h) in
      rw (canon_read v) (record {
        means = rw (read_variable s m (raw_var names v), w.means) refl;
        binds = tt;
        spelled = λ ks q. (w.spelled, q);
      })

  unary_good : (op : UnaryOp) (a : Expr) → Good a → Good (expr.Unary op a)
  unary_good op a p u h k m =
      let g = given (type_in a) (types.type_of_unary op) u (sym (typed_unary (unit_scope_by names) op a) ∙ h) in
      rw (form_unary names k op a)
      (before_sound s m op (typed_tree g.first a) u (expr_form names k a) (p g.first g.is k m) g.rest)

  binary_good : (op : BinaryOp) (a b : Expr) → Good a → Good b → Good (expr.Binary op a b)
  binary_good op a b p q u h k m =
      let g = given (type_in a) (λ ty. on_type (type_in b) (types.type_of_binary op ty)) u
      (sym (typed_binary (unit_scope_by names) op a b) ∙ h) in
      let f = given (type_in b) (types.type_of_binary op g.first) u g.rest in
      let c = expr_form names k a in
      let d = expr_form names k b in
      let x = wrap_sound s m (typed_tree g.first a) c (infix_level op) (p g.first g.is k m) in
      let y = wrap_sound s m (typed_tree f.first b) d (infix_level op - 1) (q f.first f.is k m) in
      rw (form_binary names k op a b) (record {
        means = is_typed (binary_by s m op _ _ _ _ x.means y.means) f.rest;
        binds = (wrapped_level (infix_level op) c, right_level op d, x.binds, y.binds);
        spelled = λ ks q. x.spelled _ (refl, y.spelled ks q);
      })

  convert_good : (from to : StType) (a : Expr) → Good a → Good (expr.Convert from to a)
  convert_good from to a p u h k m =
      let g = given (type_in a) (λ ty. on_type (types.type_of_conversion from to ty)
      (where_true (is_conversion from to))) u
      (sym (typed_convert (unit_scope_by names) from to a) ∙ h) in
      let f = given (types.type_of_conversion from to g.first) (where_true (is_conversion from to)) u g.rest in
      let w = where_given (is_conversion from to) f.first u f.rest in
      let x = p g.first g.is k m in
      let there : is_function (one.Convert from to) ≡ true = between from to ∙ w.0 in
      rw (canon_convert from to a) (record {
        means = is_typed (convert_by s m from to _ _ x.means) (f.is ∙ ap (λ t. Some t) w.1);
        binds = x.binds;
        spelled = λ ks q. (there, (refl, x.spelled _ (refl, q)));
      })

  select_good : (a b e : Expr) → Good a → Good b → Good e → Good (expr.Select a b e)
  select_good a b e p q r u h k m =
      let g = given (type_in a) (λ x. on_type (type_in b) (λ y. on_type (type_in e) (types.type_of_choice x y))) u
      (sym (typed_select (unit_scope_by names) a b e) ∙ h) in
      let f = given (type_in b) (λ y. on_type (type_in e) (types.type_of_choice g.first y)) u g.rest in
      let i = given (type_in e) (types.type_of_choice g.first f.first) u f.rest in
      let x = p g.first g.is k m in
      let y = q f.first f.is k m in
      let z = r i.first i.is k m in
      rw (canon_select a b e) (record {
        means = is_typed (select_by s m _ _ _ _ _ _ x.means y.means z.means) i.rest;
        binds = (x.binds, y.binds, z.binds);
        spelled = λ ks q. (refl, (refl, x.spelled _ (refl, y.spelled _ (refl, z.spelled _ (refl, q)))));
      })

  shift_good : (op : ShiftOp) (a b : Expr) → Good a → Good b → Good (expr.Shift op a b)
  shift_good op a b p q u h k m =
      let g = given (type_in a) (λ ty. on_type (type_in b) (types.type_of_shift ty)) u
      (sym (typed_shift (unit_scope_by names) op a b) ∙ h) in
      let f = given (type_in b) (types.type_of_shift g.first) u g.rest in
      let x = p g.first g.is k m in
      let y = q f.first f.is k m in
      rw (canon_shift op a b) (record {
        means = is_typed (shift_by s m op _ _ _ _ x.means y.means) f.rest;
        binds = (x.binds, y.binds);
        spelled = λ ks q. (refl, (refl, x.spelled _ (refl, y.spelled _ (refl, q))));
      })

  area_good : (w : Width) (a : Expr) → Good a → Good (expr.AreaRead w a)
  area_good w a p u h k m =
      let g = given (type_in a) (types.type_of_read w) u (sym (typed_area_read (unit_scope_by names) w a) ∙ h) in
      let x = p g.first g.is k m in
      rw (canon_area_read w a) (record {
        means = is_typed (area_by s m w _ _ x.means) g.rest;
        binds = x.binds;
        spelled = λ ks q. (refl, (refl, x.spelled _ (refl, q)));
      })

  steps : ExprSteps Good
  steps = record {
    literal = literal_good;
    read = read_good;
    unary = unary_good;
    binary = binary_good;
    convert = convert_good;
    select = select_good;
    shift = shift_good;
    area_read = area_good;
  }

  -- a well typed expression
  pub expression_sound : (e : Expr) (ty : StType) → type_in e ≡ Some ty → (k : ℕ) (m : Line)
      → Sound s m (typed_tree ty e) (expr_form names k e)
  expression_sound = every_expr Good steps

-- How deep it nests

-- an operator before its operand is one higher, and one deeper
unary_grows : (op : UnaryOp) (f : Form)
    → (height (unary_form op f) ≡ suc (height f)) × (nest (unary_form op f) ≡ suc (nest f))
unary_grows unary.Minus f = (omega arith, omega arith)
unary_grows other f = (omega arith, omega arith)

module _ (names : Names) (k : ℕ) where
  -- a form is as high as the tree says, and nests as deep
  high : (f : bare.Form) → height (form_of names k f) ≡ form_height f
  high (bare.group f) = high f
  high (bare.prefix op f) = omega (arith, (unary_grows op (form_of names k f)).0, high f)
  high (bare.infix_of op f g) = omega (arith, high f, high g)
  high (bare.digits_to op f) = omega (arith, (unary_grows op (form_of names k f)).0, high f)
  high (bare.convert from to f) = omega (arith, high f)
  high (bare.select f g h) = omega (arith, high f, high g, high h)
  high (bare.shift op f g) = omega (arith, high f, high g)
  high (bare.area_read w f) = omega (arith, high f)
  high other = refl

  deep : (f : bare.Form) → nest (form_of names k f) ≡ form_nesting f
  deep (bare.group f) = omega (arith, deep f)
  deep (bare.prefix op f) = omega (arith, (unary_grows op (form_of names k f)).1, deep f)
  deep (bare.infix_of op f g) = omega (arith, deep f, high f, deep g)
  deep (bare.digits_to op f) = omega (arith, (unary_grows op (form_of names k f)).1, deep f)
  deep (bare.convert from to f) = omega (arith, deep f)
  deep (bare.select f g h) = omega (arith, deep f, deep g, deep h)
  deep (bare.shift op f g) = omega (arith, deep f, deep g)
  deep (bare.area_read w f) = omega (arith, deep f)
  deep other = refl

-- an expression nests as deep as the tree says
pub nest_is : (names : Names) (k : ℕ) (e : Expr) → nest (expr_form names k e) ≡ form_nesting (bare.canon e)
nest_is names k e = deep names k (bare.canon e)
