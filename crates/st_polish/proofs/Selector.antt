-- The selector of a unit, where globals stand in the place of places: it is a local, so it is chosen by, assigned and
-- read as before.
use Rattle.std.proofs.Common.{◌≡◌, ◌≢◌, ℕ, List, [], ◌∷◌, map, Option, Some, None, refl, sym, subst, ap}
use Rattle.std.specs.Prelude.{All}
use Rattle.std.proofs.lemmas.List.Elements.{All-cons, All-head, All-nil, All-tail}
use Rattle.memory_areas.specs.declared.place.AreaName.{AreaName}
use Rattle.s7_base.specs.declared.word.Width.{Width}
use Rattle.st_globals.proofs.Kept.{reads_are_kept}
use Rattle.st_globals.proofs.With.{with_area_read, with_binary, with_convert, with_literal, with_read, with_select, with_shift, with_unary}
use Rattle.st_globals.specs.Globals.{global_or, named_var, number_from}
use Rattle.st_globals.specs.KeptLaws.{layer_with}
use Rattle.st_globals.specs.WithVariables.{body_with, case_with, expr_with}
use Rattle.st_polish.proofs.Keeping.{Layer, all_with, layer_expressions}
use Rattle.st_tree.proofs.Induction.{ExprSteps, every_expr}
use Rattle.st_tree.specs.BodyParts.{expressions_step, reads_of}
use Rattle.st_tree.specs.declared.expr.Expr.{Expr}
use Rattle.st_tree.specs.declared.expr.Expr.TheVariants as expr
use Rattle.st_tree.specs.declared.expr.Var.{Var}
use Rattle.st_tree.specs.declared.expr.Var.TheVariants as var
use Rattle.st_tree.specs.declared.program.CaseArm.{CaseArm}
use Rattle.st_tree.specs.declared.program.Located.{Located}
use Rattle.st_tree.specs.declared.program.Stmt.{Stmt}
use Rattle.st_tree.specs.declared.program.Stmt.TheOpen as S
use Rattle.text_shapes.specs.Shape.{AreOthers, KeepsLocal, KeepsSelector, is_local, is_selector}

module _ (globals : List Located) where
  abbrev f : Var → Var
  f = named_var globals

  -- Variables

  no_local : (o : Option ℕ) (a : AreaName) (byte bit : ℕ) (w : Width) (i : ℕ) → global_or o (var.Direct a byte bit w) ≡ var.Local i → ⊥
  no_local None a byte bit w i h = cc
  no_local (Some n) a byte bit w i h = cc

  stays_other : (v : Var) (i : ℕ) → f v ≡ var.Local i → v ≡ var.Local i
  stays_other (var.Direct a byte bit w) i h =
      absurd (no_local (number_from 0 globals (var.Direct a byte bit w)) a byte bit w i h)
  stays_other v i h = h

  same_global : (i : ℕ) (o : Option ℕ) (a : AreaName) (byte bit : ℕ) (w : Width)
      → is_local i (expr.Read (global_or o (var.Direct a byte bit w))) ≡ is_local i (expr.Read (var.Direct a byte bit w))
  same_global i None a byte bit w = refl
  same_global i (Some n) a byte bit w = refl

  same_read : (i : ℕ) (v : Var) → is_local i (expr.Read (f v)) ≡ is_local i (expr.Read v)
  same_read i (var.Direct a byte bit w) = same_global i (number_from 0 globals (var.Direct a byte bit w)) a byte bit w
  same_read i v = refl

  -- Expressions

  abbrev SameLocal : ℕ → Expr → Type 0
  SameLocal i e = is_local i (expr_with f e) ≡ is_local i e

  same_locals : (i : ℕ) → ExprSteps (SameLocal i)
  same_locals i =
      record {
        literal = λ ty n. ap (is_local i) (with_literal f ty n);
        read = λ v. subst (λ (e : Expr). is_local i e ≡ is_local i (expr.Read v)) (sym (with_read f v)) (same_read i v);
        unary = λ op a h. ap (is_local i) (with_unary f op a);
        binary = λ op a b h k. ap (is_local i) (with_binary f op a b);
        convert = λ from to a h. ap (is_local i) (with_convert f from to a);
        select = λ a b c h k l. ap (is_local i) (with_select f a b c);
        shift = λ op a b h k. ap (is_local i) (with_shift f op a b);
        area_read = λ w a h. ap (is_local i) (with_area_read f w a);
      }

  pub selector_same : (next : Option ℕ) (e : Expr) → is_selector next (expr_with f e) ≡ is_selector next e
  selector_same None e = refl
  selector_same (Some i) e = every_expr (SameLocal i) (same_locals i) e

  module _ (next : ℕ) where
    others_stay : (vars : List Var) → AreOthers next vars → AreOthers next (map f vars)
    others_stay [] h = All-nil (λ (v : Var). v ≢ var.Local next)
    others_stay (v ∷ vars) h =
        All-cons (λ (v : Var). v ≢ var.Local next) (f v) (map f vars)
        (λ s. All-head (λ (v : Var). v ≢ var.Local next) v vars h (stays_other v next s))
        (others_stay vars (All-tail (λ (v : Var). v ≢ var.Local next) v vars h))

    abbrev ReadsOthers : Expr → Type 0
    ReadsOthers e = AreOthers next (reads_of e)

    reads_others : (e : Expr) → ReadsOthers e → ReadsOthers (expr_with f e)
    reads_others e h = subst (AreOthers next) (sym (reads_are_kept f e)) (others_stay (reads_of e) h)

    all_others : (y : Layer) → All ReadsOthers (expressions_step y) → All ReadsOthers (expressions_step (layer_with f y))
    all_others y h =
        subst (All ReadsOthers) (sym (layer_expressions f y)) (all_with f ReadsOthers reads_others (expressions_step y) h)

    -- an assignment
    abbrev Assigned : Expr → Type 0
    Assigned e = (v : Var) → KeepsLocal next (S.Assign v e) → KeepsLocal next (S.Assign (f v) (expr_with f e))

    value_kept : (v : Var) (e new : Expr) → expr_with f e ≡ new → (v ≢ var.Local next) × AreOthers next (reads_of e)
        → (f v ≢ var.Local next) × AreOthers next (reads_of new)
    value_kept v e new is h = ((λ s. h.0 (stays_other v next s)), subst ReadsOthers is (reads_others e h.1))

    assigns : (v : Var) (new e : Expr) → expr_with f e ≡ new → KeepsLocal next (S.Assign (f v) new)
        → KeepsLocal next (S.Assign (f v) (expr_with f e))
    assigns v new e is h = subst (λ (x : Expr). KeepsLocal next (S.Assign (f v) x)) (sym is) h

    assigned : ExprSteps Assigned
    assigned =
        record {
          literal = λ ty n v h. assigns v (expr.Literal ty n) (expr.Literal ty n) (with_literal f ty n) tt;
          read = λ u v h. assigns v (expr.Read (f u)) (expr.Read u) (with_read f u) (value_kept v (expr.Read u) (expr.Read (f u)) (with_read f u) h);
          unary = λ op a k v h.
              assigns v (expr.Unary op (expr_with f a)) (expr.Unary op a) (with_unary f op a)
              (value_kept v (expr.Unary op a) (expr.Unary op (expr_with f a)) (with_unary f op a) h);
          binary = λ op a b k l v h.
              assigns v (expr.Binary op (expr_with f a) (expr_with f b)) (expr.Binary op a b) (with_binary f op a b)
              (value_kept v (expr.Binary op a b) (expr.Binary op (expr_with f a) (expr_with f b)) (with_binary f op a b) h);
          convert = λ from to a k v h.
              assigns v (expr.Convert from to (expr_with f a)) (expr.Convert from to a) (with_convert f from to a)
              (value_kept v (expr.Convert from to a) (expr.Convert from to (expr_with f a)) (with_convert f from to a) h);
          select = λ a b c k l m v h.
              assigns v (expr.Select (expr_with f a) (expr_with f b) (expr_with f c)) (expr.Select a b c) (with_select f a b c)
              (value_kept v (expr.Select a b c) (expr.Select (expr_with f a) (expr_with f b) (expr_with f c)) (with_select f a b c) h);
          shift = λ op a b k l v h.
              assigns v (expr.Shift op (expr_with f a) (expr_with f b)) (expr.Shift op a b) (with_shift f op a b)
              (value_kept v (expr.Shift op a b) (expr.Shift op (expr_with f a) (expr_with f b)) (with_shift f op a b) h);
          area_read = λ w a k v h.
              assigns v (expr.AreaRead w (expr_with f a)) (expr.AreaRead w a) (with_area_read f w a)
              (value_kept v (expr.AreaRead w a) (expr.AreaRead w (expr_with f a)) (with_area_read f w a) h);
        }

    -- a choice by an expression
    abbrev Selected : Expr → Type 0
    Selected e =
        (arms made : List CaseArm) (other new : List Stmt) → KeepsLocal next (S.Case e arms other)
        → KeepsLocal next (S.Case (expr_with f e) made new)

    selects : (made : List CaseArm) (new : List Stmt) (now e : Expr) → expr_with f e ≡ now → KeepsLocal next (S.Case now made new)
        → KeepsLocal next (S.Case (expr_with f e) made new)
    selects made new now e is h = subst (λ (x : Expr). KeepsLocal next (S.Case x made new)) (sym is) h

    one_kept : (e now : Expr) → expr_with f e ≡ now → All ReadsOthers (e ∷ []) → All ReadsOthers (now ∷ [])
    one_kept e now is h =
        All-cons ReadsOthers now [] (subst ReadsOthers is (reads_others e (All-head ReadsOthers e [] h))) (All-nil ReadsOthers)

    selected : ExprSteps Selected
    selected =
        record {
          literal = λ ty n arms made other new h.
              selects made new (expr.Literal ty n) (expr.Literal ty n) (with_literal f ty n)
              (one_kept (expr.Literal ty n) (expr.Literal ty n) (with_literal f ty n) h);
          read = λ u arms made other new h. selects made new (expr.Read (f u)) (expr.Read u) (with_read f u) tt;
          unary = λ op a k arms made other new h.
              selects made new (expr.Unary op (expr_with f a)) (expr.Unary op a) (with_unary f op a)
              (one_kept (expr.Unary op a) (expr.Unary op (expr_with f a)) (with_unary f op a) h);
          binary = λ op a b k l arms made other new h.
              selects made new (expr.Binary op (expr_with f a) (expr_with f b)) (expr.Binary op a b) (with_binary f op a b)
              (one_kept (expr.Binary op a b) (expr.Binary op (expr_with f a) (expr_with f b)) (with_binary f op a b) h);
          convert = λ from to a k arms made other new h.
              selects made new (expr.Convert from to (expr_with f a)) (expr.Convert from to a) (with_convert f from to a)
              (one_kept (expr.Convert from to a) (expr.Convert from to (expr_with f a)) (with_convert f from to a) h);
          select = λ a b c k l m arms made other new h.
              selects made new (expr.Select (expr_with f a) (expr_with f b) (expr_with f c)) (expr.Select a b c) (with_select f a b c)
              (one_kept (expr.Select a b c) (expr.Select (expr_with f a) (expr_with f b) (expr_with f c)) (with_select f a b c) h);
          shift = λ op a b k l arms made other new h.
              selects made new (expr.Shift op (expr_with f a) (expr_with f b)) (expr.Shift op a b) (with_shift f op a b)
              (one_kept (expr.Shift op a b) (expr.Shift op (expr_with f a) (expr_with f b)) (with_shift f op a b) h);
          area_read = λ w a k arms made other new h.
              selects made new (expr.AreaRead w (expr_with f a)) (expr.AreaRead w a) (with_area_read f w a)
              (one_kept (expr.AreaRead w a) (expr.AreaRead w (expr_with f a)) (with_area_read f w a) h);
        }

    local_kept : (y : Layer) → KeepsLocal next y → KeepsLocal next (layer_with f y)
    local_kept (S.Assign v e) h = every_expr Assigned assigned e v h
    local_kept (S.Invoke n vars) h = others_stay vars h
    local_kept (S.Case e arms other) h =
        every_expr Selected selected e arms (map (case_with f) arms) other (body_with f other) h
    local_kept (S.AreaWrite w p e) h = all_others (S.AreaWrite w p e) h
    local_kept (S.If arms other) h = all_others (S.If arms other) h
    local_kept (S.While test body) h = all_others (S.While test body) h
    local_kept S.Exit h = h
    local_kept S.Continue h = h
    local_kept S.Return h = h

  pub selector_kept : (next : Option ℕ) (y : Layer) → KeepsSelector next y → KeepsSelector next (layer_with f y)
  selector_kept None y h = tt
  selector_kept (Some next) y h = local_kept next y h
