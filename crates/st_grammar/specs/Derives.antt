-- The grammar of expressions with one case for each precedence level.
use Rattle.std.specs.Prelude.{◌≡◌, ℕ, ◌-◌, ◌≤◌, true, List, [], ◌∷◌, ◌++◌}
use Rattle.s7_base.specs.declared.reason.Line.{Line}
use Rattle.st_grammar.specs.Forms.{Form}
use Rattle.st_grammar.specs.Grammar.{Binds, apply_tree, is_value, level, literal_tree, prefix_kind, prefix_level, prefix_tree, spell, tree}
use Rattle.st_grammar.specs.declared.kind.Fixed.TheVariants as fixed
use Rattle.st_grammar.specs.declared.kind.Function.TheVariants as function
use Rattle.st_grammar.specs.declared.kind.GrammarKind.{GrammarKind}
use Rattle.st_grammar.specs.declared.kind.GrammarKind.TheVariants as kind
use Rattle.st_grammar.specs.declared.kind.Literal.{Literal}
use Rattle.st_grammar.specs.declared.kind.OneOperand.{OneOperand}
use Rattle.st_grammar.specs.declared.kind.Prefix.{Prefix}
use Rattle.st_tree.specs.Form.{infix_level, weakest}
use Rattle.st_tree.specs.declared.expr.BinaryOp.{BinaryOp}
use Rattle.st_tree.specs.declared.expr.ShiftOp.{ShiftOp}
use Rattle.st_tree.specs.declared.raw.RawExpr.{RawExpr}
use Rattle.st_tree.specs.declared.raw.RawExpr.TheVariants as expr
use Rattle.st_tree.specs.declared.raw.RawVar.{RawVar}

-- tokens in brackets
abbrev pub between_brackets : List GrammarKind → List GrammarKind
between_brackets ts = kind.Fixed fixed.Open ∷ (ts ++ kind.Fixed fixed.Close ∷ [])

-- a comma between tokens
abbrev pub with_comma : List GrammarKind → List GrammarKind → List GrammarKind
with_comma ts us = ts ++ kind.Fixed fixed.Comma ∷ us

-- tokens are an expression that binds as tightly as a level asks, or more, and this is its tree
pub data Derives : ℕ → List GrammarKind → RawExpr → Type 0 where
  value : {k : ℕ} {c : Literal} → is_value c ≡ true → Derives k (kind.Literal c ∷ []) (literal_tree c)
  read : {k : ℕ} {v : RawVar} {line : Line} → Derives k (kind.Variable v line ∷ []) (expr.Read v)
  brackets : {k : ℕ} {ts : List GrammarKind} {e : RawExpr} → Derives weakest ts e → Derives k (between_brackets ts) e
  unary : {k : ℕ} {ts : List GrammarKind} {e : RawExpr} (op : Prefix)
      → prefix_level op ≤ k → Derives (prefix_level op) ts e
      → Derives k (prefix_kind op ∷ ts) (prefix_tree op e)
  binary : {k : ℕ} {ts us : List GrammarKind} {e f : RawExpr} (op : BinaryOp) → infix_level op ≤ k
      → Derives (infix_level op) ts e → Derives (infix_level op - 1) us f →
      Derives k (ts ++ kind.Fixed (fixed.Between op) ∷ us) (expr.Binary op e f)
  applied : {k : ℕ} {ts : List GrammarKind} {e : RawExpr} (op : OneOperand) → Derives weakest ts e →
      Derives k (kind.Fixed (fixed.Function (function.One op)) ∷ between_brackets ts) (apply_tree op e)
  shifted : {k : ℕ} {ts us : List GrammarKind} {e f : RawExpr} (op : ShiftOp)
      → Derives weakest ts e → Derives weakest us f
      → Derives k (kind.Fixed (fixed.Function (function.Shift op)) ∷ between_brackets (with_comma ts us))
      (expr.Shift op e f)
  selected : {k : ℕ} {ts us vs : List GrammarKind} {e f g : RawExpr} → Derives weakest ts e → Derives weakest us f
      → Derives weakest vs g →
      Derives k (kind.Fixed (fixed.Function function.Select) ∷ between_brackets (with_comma ts (with_comma us vs)))
      (expr.Select e f g)

-- tokens are those of a form that binds as tightly as a level asks, or more, and this is its tree
pub record IsSpelled (k : ℕ) (ts : List GrammarKind) (e : RawExpr) : Type 0 where
  pub form : Form
  pub binds : Binds form
  pub strong : level form ≤ k
  pub spelled : spell form [] ≡ ts
  pub same : tree form ≡ e
