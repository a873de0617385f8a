-- An expression that breaks no rule is well typed, and nests no deeper than it is written.
use Rattle.st_text_laws.proofs.Worded.{Worded, form_behind, literal_is}
use Rattle.st_tree.proofs.Common.{◌≡◌, true, [], Some, Result, Ok, Err, refl, sym, ap, subst, ◌∙◌, arith, ℕ, suc, ◌+◌, ◌-◌, ◌<◌, ◌≤◌, Bool, false, max, nat_lt, if◌then◌else◌, nat_tests, form_height, form_nesting, Line, Reason, Width, canon, infix_level, level, unary_form, wrap, is_conversion, where_true, UnitScope, expression_type, on_type}
use Rattle.st_grammar.specs.Grammar as grammar
use Rattle.st_grammar.proofs.Common.{height, Form, literal, variable, group, prefix, infix_of, apply, shift, select, Binds, label_tree, tree, spell}
use Rattle.st_text_laws.proofs.Levels.{nest}
use Rattle.st_text_laws.proofs.SameNames.{between}
use Rattle.st_text_laws.proofs.Common.{is_function, is_literal, is_variable, Literal}
use Rattle.st_grammar.specs.declared.kind.OneOperand.TheVariants as one
use Rattle.st_grammar.specs.declared.kind.Prefix.TheVariants as before
use Rattle.st_reading_laws.proofs.Operands.{IsClean, area_by, area_operand, binary_by, binary_operands, convert_by, convert_operand, has_type, is_typed, select_by, select_operands, shift_by, shift_operands, unary_by, unary_operand}
use Rattle.st_reading_laws.proofs.ReadEquations.{read_literal, read_variable}
use Rattle.st_text_laws.proofs.Sees.{Sees, variable_has}
use Rattle.st_text_laws.proofs.ReadValues.{label_value, tree_of_label}
use Rattle.st_rules.proofs.Common.{Judged, sound, judgement_on, expression}
use Rattle.st_names.specs.Variables.{variable as variable_in}
use Rattle.st_rules.specs.declared.expression.Typed.{Typed}
use Rattle.st_names.specs.declared.scope.NameScope.{NameScope}
use Rattle.st_names.specs.declared.variable.TypedVar.{TypedVar}
use Rattle.st_tree.proofs.Equations.{canon_area_read, canon_binary, canon_convert, canon_literal, canon_read, canon_select, canon_shift, canon_unary}
use Rattle.st_tree.proofs.TypingEquations.{typed_area_read, typed_binary, typed_convert, typed_literal, typed_read, typed_select, typed_shift, typed_unary}
use Rattle.st_tree.specs.Form as canonical
use Rattle.st_lexer.proofs.Common.{BinaryOp, ShiftOp, StType, UnaryOp, RawVar}
use Rattle.st_tree.specs.declared.expr.Expr.TheVariants as expr
use Rattle.st_tree.specs.declared.expr.UnaryOp.TheVariants as unary
use Rattle.st_tree.specs.declared.raw.RawExpr.TheVariants as raw

-- The brackets that the tree of an expression needs stand in each form that has the tree: it nests no deeper

-- what holds of a form that was read and the form with the brackets that its tree needs
pub record Close (f : Form) (c : canonical.Form) : Type 0 where
  pub inner : form_nesting c ≤ nest f
  pub outer : (j : ℕ) → grammar.level f ≤ j → form_nesting (wrap j c) ≤ nest f
  pub high : form_height c ≡ height f

wrap_nesting : (j : ℕ) (c : canonical.Form) → form_nesting (wrap j c) ≤ suc (form_nesting c)
wrap_nesting j c = by (nat_lt j (level c))
  where
    by : (b : Bool) → form_nesting (if b then canonical.group c else c) ≤ suc (form_nesting c)
    by true = omega arith
    by false = omega arith

wrap_height : (j : ℕ) (c : canonical.Form) → form_height (wrap j c) ≡ form_height c
wrap_height j c = by (nat_lt j (level c))
  where
    by : (b : Bool) → form_height (if b then canonical.group c else c) ≡ form_height c
    by true = refl
    by false = refl

unwrapped : (j : ℕ) (c : canonical.Form) → level c ≤ j → wrap j c ≡ c
unwrapped j c h = by (nat_lt j (level c)) (no j (level c) h)
  where
    by : (b : Bool) → b ≡ false → (if b then canonical.group c else c) ≡ c
    by true e = absurd cc
    by false e = refl

    no : (i n : ℕ) → n ≤ i → nat_lt i n ≡ false
    no i n h = grind (arith, nat_tests)

-- a form that is no group keeps its outermost operator
alike : (f : Form) (c : canonical.Form) → level c ≤ grammar.level f → form_nesting c ≤ nest f
    → form_height c ≡ height f → Close f c
alike f c same inner high = record {
  inner = inner;
  outer = λ j h. subst (λ (d : canonical.Form). form_nesting d ≤ nest f) (sym (unwrapped j c (omega (arith, same, h)))) inner;
  high = high;
}

close_group : (f : Form) (c : canonical.Form) → Close f c → Close (group f) c
close_group f c g = record { inner = omega arith; outer = λ j h. omega (arith, wrap_nesting j c); high = g.high }

-- an operator on one operand, as it is written
abbrev written : UnaryOp → Form → Form
written unary.Minus f = prefix before.Minus f
written unary.Not f = prefix before.Not f
written unary.BcdToInt f = apply one.BcdToInt f
written unary.BcdToDint f = apply one.BcdToDint f

-- how it binds
abbrev Under : UnaryOp → Form → Type 0
Under unary.Minus f = grammar.level f ≤ 1
Under unary.Not f = grammar.level f ≤ 2
Under op f = Unit {0}

close_unary : (op : UnaryOp) (f : Form) (c : canonical.Form) → Under op f → Close f c → Close (written op f) (unary_form op c)
close_unary unary.Minus f c h g = alike _ _ (omega arith) (omega (arith, g.outer 1 h)) (omega (arith, wrap_height 1 c))
close_unary unary.Not f c h g = alike _ _ (omega arith) (omega (arith, g.outer 2 h)) (omega (arith, wrap_height 2 c))
close_unary op f c h g = alike _ _ (omega arith) (omega arith) (omega arith)

close_infix : (op : BinaryOp) (f g : Form) (c d : canonical.Form) → grammar.level f ≤ infix_level op
    → grammar.level g < infix_level op → Close f c → Close g d
    → Close (infix_of op f g) (canonical.infix_of op (wrap (infix_level op) c) (wrap (infix_level op - 1) d))
close_infix op f g c d h less p q =
    alike _ _ (omega arith)
    (most _ _ _ _ _ _ (p.outer (infix_level op) h)
    (q.outer (infix_level op - 1) (below (grammar.level g) (infix_level op) less)) high_c)
    (tall _ _ _ _ high_c high_d)
  where
    high_c : form_height (wrap (infix_level op) c) ≡ height f
    high_c = wrap_height (infix_level op) c ∙ p.high

    high_d : form_height (wrap (infix_level op - 1) d) ≡ height g
    high_d = wrap_height (infix_level op - 1) d ∙ q.high

    below : (i k : ℕ) → i < k → i ≤ k - 1
    below i k h = omega arith

    most : (nc ne nd nf hc he : ℕ) → nc ≤ ne → nd ≤ nf → hc ≡ he → max (max nc hc) nd ≤ max (max ne he) nf
    most nc ne nd nf hc he p q r = omega arith

    tall : (hc he hd hf : ℕ) → hc ≡ he → hd ≡ hf → suc (max hc hd) ≡ 1 + max he hf
    tall hc he hd hf p q = omega arith

-- Expressions

-- what an expression that was read is in the tree
pub record ReadExpression (scope : NameScope) (sight : UnitScope) (l : Line) (f : Form) : Type 0 where
  pub t : Typed
  pub found : expression scope l (tree f) ≡ sound t
  pub typed : expression_type sight t.tree ≡ Some t.ty
  pub close : Close f (canon t.tree)

module _ (scope : NameScope) (sight : UnitScope) (sees : Sees scope sight) (l : Line) where
  abbrev Fine : Form → Type 0
  Fine f = ReadExpression scope sight l f

  abbrev Clean : Form → Type 0
  Clean f = (expression scope l (tree f)).breaks ≡ []

  of_literal : (c : Literal) → is_literal c ≡ true → Fine (literal c)
  of_literal c h =
      let ty = (label_tree c).0 in
      let n = (label_tree c).1 in
      record {
        t = record { ty = ty; tree = expr.Literal ty n };
        found = ap (expression scope l) (tree_of_label c) ∙ read_literal scope l ty n;
        typed = typed_literal sight ty n ∙ ap (λ t. where_true t ty) (label_value c h);
        close = rw (canon_literal ty n) (alike _ _ (omega arith) (omega arith) refl);
      }

  of_read : (v : RawVar) (line : Line) → is_variable v ≡ true → Clean (variable v line) → Fine (variable v line)
  of_read v line h clean =
      by (variable_in scope v) refl (sym (ap (λ (j : Judged Typed). j.breaks) (read_variable scope l v)) ∙ clean)
    where
      by : (r : Result TypedVar Reason) → variable_in scope v ≡ r → (judgement_on l r).breaks ≡ [] → Fine (variable v line)
      by (Err rule) e q = absurd cc
      by (Ok x) e q = record {
        t = record { ty = x.ty; tree = expr.Read x.var };
        found = rw (read_variable scope l v, e) refl;
        typed = typed_read sight x.var ∙ variable_has scope sight sees v x h e;
        close = rw (canon_read x.var) (alike _ _ (omega arith) (omega arith) refl);
      }

  of_group : (f : Form) → Fine f → Fine (group f)
  of_group f g =
      record { t = g.t; found = g.found; typed = g.typed; close = close_group f (canon g.t.tree) g.close }

  of_unary : (op : UnaryOp) (f : Form) → tree (written op f) ≡ raw.Unary op (tree f) → Under op f → Fine f
      → IsClean scope l (raw.Unary op (tree f)) → Fine (written op f)
  of_unary op f same_tree under g clean =
      let by = unary_by scope l op (tree f) g.t g.found in
      let ty = has_type by clean in
      record {
        t = record { ty = ty.0; tree = expr.Unary op g.t.tree };
        found = ap (expression scope l) same_tree ∙ is_typed by ty.1;
        typed = rw (typed_unary sight op g.t.tree, g.typed) ty.1;
        close = rw (canon_unary op g.t.tree) (close_unary op f (canon g.t.tree) under g.close);
      }

  of_infix : (op : BinaryOp) (f g : Form) → Binds (infix_of op f g) → Fine f → Fine g → Clean (infix_of op f g)
      → Fine (infix_of op f g)
  of_infix op f g b p q clean =
      let by = binary_by scope l op (tree f) (tree g) p.t q.t p.found q.found in
      let ty = has_type by clean in
      record {
        t = record { ty = ty.0; tree = expr.Binary op p.t.tree q.t.tree };
        found = is_typed by ty.1;
        typed = rw (typed_binary sight op p.t.tree q.t.tree, p.typed, q.typed) ty.1;
        close = rw (canon_binary op p.t.tree q.t.tree) (close_infix op f g _ _ b.0 b.1 p.close q.close);
      }

  of_convert : (from to : StType) (f : Form) → is_function (one.Convert from to) ≡ true → Fine f
      → Clean (apply (one.Convert from to) f) → Fine (apply (one.Convert from to) f)
  of_convert from to f there g clean =
      let by = convert_by scope l from to (tree f) g.t g.found in
      let ty = has_type by clean in
      let known : is_conversion from to ≡ true = sym (between from to) ∙ there in
      record {
        t = record { ty = ty.0; tree = expr.Convert from to g.t.tree };
        found = is_typed by ty.1;
        typed = rw (typed_convert sight from to g.t.tree, g.typed)
            (ap (λ o. on_type o (where_true (is_conversion from to))) ty.1 ∙ ap (λ t. where_true t ty.0) known);
        close = rw (canon_convert from to g.t.tree) (alike _ _ (omega arith) (omega arith) (omega arith));
      }

  of_area : (w : Width) (f : Form) → Fine f → Clean (apply (one.AreaRead w) f) → Fine (apply (one.AreaRead w) f)
  of_area w f g clean =
      let by = area_by scope l w (tree f) g.t g.found in
      let ty = has_type by clean in
      record {
        t = record { ty = ty.0; tree = expr.AreaRead w g.t.tree };
        found = is_typed by ty.1;
        typed = rw (typed_area_read sight w g.t.tree, g.typed) ty.1;
        close = rw (canon_area_read w g.t.tree) (alike _ _ (omega arith) (omega arith) (omega arith));
      }

  of_shift : (op : ShiftOp) (f g : Form) → Fine f → Fine g → Clean (shift op f g) → Fine (shift op f g)
  of_shift op f g p q clean =
      let by = shift_by scope l op (tree f) (tree g) p.t q.t p.found q.found in
      let ty = has_type by clean in
      record {
        t = record { ty = ty.0; tree = expr.Shift op p.t.tree q.t.tree };
        found = is_typed by ty.1;
        typed = rw (typed_shift sight op p.t.tree q.t.tree, p.typed, q.typed) ty.1;
        close = rw (canon_shift op p.t.tree q.t.tree) (alike _ _ (omega arith) (omega arith) (omega arith));
      }

  of_select : (f g h : Form) → Fine f → Fine g → Fine h → Clean (select f g h) → Fine (select f g h)
  of_select f g h p q r clean =
      let by = select_by scope l (tree f) (tree g) (tree h) p.t q.t r.t p.found q.found r.found in
      let ty = has_type by clean in
      record {
        t = record { ty = ty.0; tree = expr.Select p.t.tree q.t.tree r.t.tree };
        found = is_typed by ty.1;
        typed = rw (typed_select sight p.t.tree q.t.tree r.t.tree, p.typed, q.typed, r.typed) ty.1;
        close = rw (canon_select p.t.tree q.t.tree r.t.tree) (alike _ _ (omega arith) (omega arith) (omega arith));
      }

  -- an expression that was read
  pub found : (f : Form) → Worded (spell f) → Binds f → Clean f → ReadExpression scope sight l f
  found (literal c) s b clean = of_literal c (literal_is c b s.1.0)
  found (variable v line) s b clean = of_read v line s.1.0 clean
  found (group f) s b clean = of_group f (found f (_, s.1.1) b clean)
  found (prefix before.Minus f) s b clean =
      of_unary unary.Minus f refl b.0 (found f (_, s.1.1) b.1 (unary_operand scope l unary.Minus (tree f) clean)) clean
  found (prefix before.Not f) s b clean =
      of_unary unary.Not f refl b.0 (found f (_, s.1.1) b.1 (unary_operand scope l unary.Not (tree f) clean)) clean
  found (infix_of op f g) s b clean =
      let both = binary_operands scope l op (tree f) (tree g) clean in
      of_infix op f g b (found f (_, s.1) b.2 both.0) (found g (_, (form_behind f _ s.1).1) b.3 both.1) clean
  found (apply (one.Convert from to) f) s b clean =
      of_convert from to f s.1.0 (found f (_, s.1.1.1) b (convert_operand scope l from to (tree f) clean)) clean
  found (apply one.BcdToInt f) s b clean =
      of_unary unary.BcdToInt f refl tt (found f (_, s.1.1.1) b (unary_operand scope l unary.BcdToInt (tree f) clean)) clean
  found (apply one.BcdToDint f) s b clean =
      of_unary unary.BcdToDint f refl tt (found f (_, s.1.1.1) b (unary_operand scope l unary.BcdToDint (tree f) clean)) clean
  found (apply (one.AreaRead w) f) s b clean = of_area w f (found f (_, s.1.1.1) b (area_operand scope l w (tree f) clean)) clean
  found (shift op f g) s b clean =
      let both = shift_operands scope l op (tree f) (tree g) clean in
      of_shift op f g (found f (_, s.1.1.1) b.0 both.0) (found g (_, (form_behind f _ s.1.1.1).1) b.1 both.1) clean
  found (select f g h) s b clean =
      let all = select_operands scope l (tree f) (tree g) (tree h) clean in
      let second = (form_behind f _ s.1.1.1).1 in
      of_select f g h (found f (_, s.1.1.1) b.0 all.0) (found g (_, second) b.1 all.1) (found h (_, (form_behind g _ second).1) b.2 all.2) clean
