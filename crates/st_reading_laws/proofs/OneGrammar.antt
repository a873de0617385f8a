-- The grammar by precedence levels has the expressions of the forms that keep their brackets.
use Rattle.st_tree.proofs.Common.{◌≡◌, ℕ, ◌-◌, ◌≤◌, List, [], ◌∷◌, ◌++◌, refl, sym, ap, subst, ◌∙◌, arith, append_assoc, infix_level, weakest}
use Rattle.st_grammar.specs.Derives.{Derives, value, read, brackets, unary, binary, applied, shifted, selected, IsSpelled, between_brackets, with_comma}
use Rattle.st_grammar.specs.Forms.{Form, literal, variable, group, prefix, infix_of, apply, shift, select}
use Rattle.st_grammar.specs.Grammar.{Binds, apply_tree, level, prefix_kind, prefix_level, prefix_tree, spell, tree}
use Rattle.st_reading_laws.proofs.Precedence.{below_one, infix_some, less_one, level_most}
use Rattle.st_reading_laws.specs.SyntaxLaws.{OneGrammar}
use Rattle.st_grammar.specs.declared.kind.Fixed.TheVariants as fixed
use Rattle.st_grammar.specs.declared.kind.Function.TheVariants as function
use Rattle.st_grammar.specs.declared.kind.GrammarKind.{GrammarKind}
use Rattle.st_grammar.specs.declared.kind.GrammarKind.TheVariants as kind
use Rattle.st_tree.specs.declared.raw.RawExpr.{RawExpr}

-- Tokens

abbrev begin_with : GrammarKind → List GrammarKind → List GrammarKind
begin_with word ts = word ∷ kind.Fixed fixed.Open ∷ ts

abbrev comma : List GrammarKind → List GrammarKind
comma ks = kind.Fixed fixed.Comma ∷ ks

abbrev close : List GrammarKind → List GrammarKind
close ks = kind.Fixed fixed.Close ∷ ks

-- what stands after a form stands after its tokens
pub passes : (f : Form) (more : List GrammarKind) → spell f more ≡ spell f [] ++ more
passes (group f) more = rw (passes f (close more), passes f (close [])) (simp append_assoc)
passes (prefix o f) more = rw (passes f more) refl
passes (infix_of o f g) more =
    let op = kind.Fixed (fixed.Between o) in rw (passes f (op ∷ spell g more), passes f (op ∷ spell g []), passes g more) (simp append_assoc)
passes (apply o f) more = rw (passes f (close more), passes f (close [])) (simp append_assoc)
passes (shift o f g) more =
    rw (
      passes f (comma (spell g (close more))),
      passes f (comma (spell g (close []))),
      passes g (close more),
      passes g (close []),
      append_assoc (spell f []) (comma (spell g [] ++ close [])) more,
      append_assoc (spell g []) (close []) more,
    ) refl
passes (select f g h) more =
    rw (
      passes f (comma (spell g (comma (spell h (close more))))),
      passes f (comma (spell g (comma (spell h (close []))))),
      passes g (comma (spell h (close more))),
      passes g (comma (spell h (close []))),
      passes h (close more),
      passes h (close []),
      append_assoc (spell f []) (comma (spell g [] ++ comma (spell h [] ++ close []))) more,
      append_assoc (spell g []) (comma (spell h [] ++ close [])) more,
      append_assoc (spell h []) (close []) more,
    ) refl
passes f more = refl

-- the tokens of parts with a bracket, an operator or commas after them
with_close : (f : Form) → spell f (kind.Fixed fixed.Close ∷ []) ≡ spell f [] ++ kind.Fixed fixed.Close ∷ []
with_close f = passes f (kind.Fixed fixed.Close ∷ [])

with_two : (f g : Form)
    → spell f (kind.Fixed fixed.Comma ∷ spell g (kind.Fixed fixed.Close ∷ [])) ≡ with_comma (spell f []) (spell g []) ++ kind.Fixed fixed.Close ∷ []
with_two f g =
    passes f (kind.Fixed fixed.Comma ∷ spell g (kind.Fixed fixed.Close ∷ []))
    ∙ rw (with_close g) (sym (append_assoc (spell f []) (kind.Fixed fixed.Comma ∷ spell g []) (kind.Fixed fixed.Close ∷ [])))

with_three : (f g h : Form) → spell f (kind.Fixed fixed.Comma ∷ spell g (kind.Fixed fixed.Comma ∷ spell h (kind.Fixed fixed.Close ∷ [])))
    ≡ with_comma (spell f []) (with_comma (spell g []) (spell h [])) ++ kind.Fixed fixed.Close ∷ []
with_three f g h =
    passes f (kind.Fixed fixed.Comma ∷ spell g (kind.Fixed fixed.Comma ∷ spell h (kind.Fixed fixed.Close ∷ [])))
    ∙ rw (with_two g h) (sym (append_assoc (spell f []) (kind.Fixed fixed.Comma ∷ with_comma (spell g []) (spell h [])) (kind.Fixed fixed.Close ∷ [])))

-- From forms to the grammar

to_kinds : {k : ℕ} {e : RawExpr} (ts us : List GrammarKind) → us ≡ ts → Derives k ts e → Derives k us e
to_kinds {k} {e} ts us same d = subst (λ (ks : List GrammarKind). Derives k ks e) (sym same) d

derived : (f : Form) (k : ℕ) → Binds f → level f ≤ k → Derives k (spell f []) (tree f)
derived (literal c) k b h = value b
derived (variable v line) k b h = read
derived (group f) k b h =
    to_kinds _ _ (ap (λ (ks : List GrammarKind). kind.Fixed fixed.Open ∷ ks) (with_close f)) (brackets (derived f weakest b (level_most f)))
derived (prefix o f) k b h = unary o h (derived f (prefix_level o) b.1 b.0)
derived (infix_of o f g) k b h =
    to_kinds _ _ (passes f (kind.Fixed (fixed.Between o) ∷ spell g []))
    (binary o h (derived f (infix_level o) b.2 b.0) (derived g (infix_level o - 1) b.3 (less_one (level g) (infix_level o) b.1)))
derived (apply o f) k b h =
    to_kinds _ _ (ap (begin_with (kind.Fixed (fixed.Function (function.One o)))) (with_close f)) (applied o (derived f weakest b (level_most f)))
derived (shift o f g) k b h =
    to_kinds _ _ (ap (begin_with (kind.Fixed (fixed.Function (function.Shift o)))) (with_two f g))
    (shifted o (derived f weakest b.0 (level_most f)) (derived g weakest b.1 (level_most g)))
derived (select f g i) k b h =
    to_kinds _ _ (ap (begin_with (kind.Fixed (fixed.Function function.Select))) (with_three f g i))
    (selected (derived f weakest b.0 (level_most f)) (derived g weakest b.1 (level_most g)) (derived i weakest b.2 (level_most i)))

-- From the grammar to forms

spelled : (k : ℕ) (ts : List GrammarKind) (e : RawExpr) → Derives k ts e → IsSpelled k ts e
spelled k ts e (value {c = c} v) = record { form = literal c; binds = v; strong = omega arith; spelled = refl; same = refl }
spelled k ts e (read {v = v} {line = line}) = record { form = variable v line; binds = tt; strong = omega arith; spelled = refl; same = refl }
spelled k ts e (brackets {ts = us} {e = x} d) =
    let f = spelled weakest us x d in
    record {
      form = group f.form;
      binds = f.binds;
      strong = omega arith;
      spelled = ap (λ (ks : List GrammarKind). kind.Fixed fixed.Open ∷ ks) (with_close f.form) ∙ ap between_brackets f.spelled;
      same = f.same;
    }
spelled k ts e (unary {ts = us} {e = x} o h d) =
    let f = spelled (prefix_level o) us x d in
    record {
      form = prefix o f.form;
      binds = (f.strong, f.binds);
      strong = h;
      spelled = ap (λ (ks : List GrammarKind). prefix_kind o ∷ ks) f.spelled;
      same = ap (prefix_tree o) f.same;
    }
spelled k ts e (binary {ts = us} {us = vs} {e = x} {f = y} o h d c) =
    let f = spelled (infix_level o) us x d in
    let g = spelled (infix_level o - 1) vs y c in
    let between = kind.Fixed (fixed.Between o) in
    record {
      form = infix_of o f.form g.form;
      binds = (f.strong, below_one (level g.form) (infix_level o) (infix_some o) g.strong, f.binds, g.binds);
      strong = h;
      spelled = passes f.form (between ∷ spell g.form []) ∙ rw (f.spelled, g.spelled) refl;
      same = rw (f.same, g.same) refl;
    }
spelled k ts e (applied {ts = us} {e = x} o d) =
    let f = spelled weakest us x d in
    record {
      form = apply o f.form;
      binds = f.binds;
      strong = omega arith;
      spelled =
          ap (begin_with (kind.Fixed (fixed.Function (function.One o))))
          (with_close f.form ∙ ap (λ (ks : List GrammarKind). ks ++ kind.Fixed fixed.Close ∷ []) f.spelled);
      same = ap (apply_tree o) f.same;
    }
spelled k ts e (shifted {ts = us} {us = vs} {e = x} {f = y} o d c) =
    let f = spelled weakest us x d in
    let g = spelled weakest vs y c in
    record {
      form = shift o f.form g.form;
      binds = (f.binds, g.binds);
      strong = omega arith;
      spelled = ap (begin_with (kind.Fixed (fixed.Function (function.Shift o)))) (with_two f.form g.form ∙ rw (f.spelled, g.spelled) refl);
      same = rw (f.same, g.same) refl;
    }
spelled k ts e (selected {ts = us} {us = vs} {vs = ws} {e = x} {f = y} {g = z} d c b) =
    let f = spelled weakest us x d in
    let g = spelled weakest vs y c in
    let i = spelled weakest ws z b in
    record {
      form = select f.form g.form i.form;
      binds = (f.binds, g.binds, i.binds);
      strong = omega arith;
      spelled = ap (begin_with (kind.Fixed (fixed.Function function.Select))) (with_three f.form g.form i.form ∙ rw (f.spelled, g.spelled, i.spelled) refl);
      same = rw (f.same, g.same, i.same) refl;
    }

back : (k : ℕ) (ts : List GrammarKind) (e : RawExpr) → IsSpelled k ts e → Derives k ts e
back k ts e s =
    subst (λ (x : RawExpr). Derives k ts x) s.same (subst (λ (us : List GrammarKind). Derives k us (tree s.form)) s.spelled (derived s.form k s.binds s.strong))

pub one_grammar : OneGrammar
one_grammar k ts e = (spelled k ts e, back k ts e)
