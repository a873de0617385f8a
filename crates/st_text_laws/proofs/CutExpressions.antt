-- The expressions of a canonical text, each before what is read after it.
use Rattle.st_tree.proofs.Common.{◌≡◌, ℕ, ◌-◌, Bool, true, false, List, ◌∷◌, ◌++◌, refl, ◌∙◌, append_assoc, if◌then◌else◌, codes, nat_lt, Width, Form, literal, variable, infix_of, convert, select, shift, area_read, level, wrap, unary_form, infix_level, canon, expr_text, form_text, Names, infix_word, type_word, width_word}
use Rattle.s7_base.specs.declared.word.Width.TheVariants as width
use Rattle.st_lexer.proofs.Common.{ends_word, Expr, UnaryOp}
use Rattle.st_text_laws.proofs.CutLiterals.{reads_literal, reads_var}
use Rattle.st_text_laws.proofs.CutWords.{infix_ends, reads_close, reads_comma, reads_convert, reads_fixed, reads_infix, reads_minus, reads_open, reads_shift}
use Rattle.st_text_laws.proofs.Cuts.{ReadsOn, begins_with_times, reads_as, reads_blank}
use Rattle.st_text_laws.proofs.Common.{expr_form, form_of, GrammarKind}
use Rattle.st_grammar.specs.Grammar.{prefix_kind, spell}
use Rattle.st_grammar.specs.Forms as grammar
use Rattle.st_grammar.specs.declared.kind.Fixed.TheVariants as fixed
use Rattle.st_grammar.specs.declared.kind.Function.TheVariants as function
use Rattle.st_grammar.specs.declared.kind.GrammarKind.TheVariants as kind
use Rattle.st_grammar.specs.declared.kind.OneOperand.TheVariants as one
use Rattle.st_grammar.specs.declared.kind.Prefix.{Prefix}
use Rattle.st_grammar.specs.declared.kind.Prefix.TheVariants as before
use Rattle.st_tree.specs.Form.{group, prefix, digits_to, prefix_level}
use Rattle.st_tree.proofs.Equations.{canon_area_read, canon_binary, canon_convert, canon_literal, canon_read, canon_select, canon_shift, canon_unary}
use Rattle.st_tree.proofs.Induction.{every_expr}
use Rattle.st_tree.specs.declared.expr.UnaryOp.TheVariants as unary

-- Operators of one operand

-- an operator stands before its operand
abbrev stands_before : UnaryOp → Bool
stands_before unary.Minus = true
stands_before unary.Not = true
stands_before function = false

-- each operator of one operand stands as it is written: before it, or as a function
abbrev IsMade : Form → Type 0
IsMade (group f) = IsMade f
IsMade (prefix op f) = (stands_before op ≡ true) × IsMade f
IsMade (infix_of op f g) = IsMade f × IsMade g
IsMade (digits_to op f) = (stands_before op ≡ false) × IsMade f
IsMade (convert from to f) = IsMade f
IsMade (select f g h) = IsMade f × IsMade g × IsMade h
IsMade (shift op f g) = IsMade f × IsMade g
IsMade (area_read w f) = IsMade f
IsMade other = Unit {0}

made_wrap : (k : ℕ) (f : Form) → IsMade f → IsMade (wrap k f)
made_wrap k f m = by (nat_lt k (level f))
  where
    by : (b : Bool) → IsMade (if b then group f else f)
    by true = m
    by false = m

made_unary : (op : UnaryOp) (f : Form) → IsMade f → IsMade (unary_form op f)
made_unary unary.Minus f m = (refl, made_wrap (prefix_level unary.Minus) f m)
made_unary unary.Not f m = (refl, made_wrap (prefix_level unary.Not) f m)
made_unary op f m = (refl, m)

made : (e : Expr) → IsMade (canon e)
made = every_expr (λ e. IsMade (canon e)) (record {
  literal = λ ty n. rw (canon_literal ty n) tt;
  read = λ v. rw (canon_read v) tt;
  unary = λ op a m. rw (canon_unary op a) (made_unary op (canon a) m);
  binary = λ op a b m n. rw (canon_binary op a b) (made_wrap (infix_level op) (canon a) m, made_wrap (infix_level op - 1) (canon b) n);
  convert = λ from to a m. rw (canon_convert from to a) m;
  select = λ a b c m n o. rw (canon_select a b c) (m, n, o);
  shift = λ op a b m n. rw (canon_shift op a b) (m, n);
  area_read = λ w a m. rw (canon_area_read w a) m;
})

-- Texts of some pieces

pub two : (a b c more : List ℕ) → ((a ++ b) ++ c) ++ more ≡ a ++ (b ++ (c ++ more))
two a b c more = append_assoc (a ++ b) c more ∙ append_assoc a b (c ++ more)

pub three : (a b c d more : List ℕ) → (((a ++ b) ++ c) ++ d) ++ more ≡ a ++ (b ++ (c ++ (d ++ more)))
three a b c d more = append_assoc ((a ++ b) ++ c) d more ∙ two a b c (d ++ more)

-- No expression begins with `*`

prefix_begins : (op : Prefix) (ks : List GrammarKind) → begins_with_times (prefix_kind op ∷ ks) ≡ false
prefix_begins before.Minus ks = refl
prefix_begins before.Not ks = refl

form_begins : (f : grammar.Form) (ks : List GrammarKind) → begins_with_times (spell f ks) ≡ false
form_begins (grammar.prefix op f) ks = prefix_begins op (spell f ks)
form_begins (grammar.infix_of op f g) ks = form_begins f (kind.Fixed (fixed.Between op) ∷ spell g ks)
form_begins (grammar.literal c) ks = refl
form_begins f ks = refl

-- an expression in a bracket
pub opens : {line : ℕ} {more : List ℕ} (f : grammar.Form) (ks : List GrammarKind)
    → ReadsOn line more (spell f ks) → ReadsOn line (40 ∷ more) (kind.Fixed fixed.Open ∷ spell f ks)
opens f ks r = reads_open (form_begins f ks) r

-- Expressions

reads_area : {line : ℕ} {more : List ℕ} {ks : List GrammarKind} (w : Width) → ends_word more ≡ true → ReadsOn line more ks
    → ReadsOn line ((codes "AREA_READ_" ++ width_word w) ++ more) (kind.Fixed (fixed.Function (function.One (one.AreaRead w))) ∷ ks)
reads_area width.Bit ends r = reads_fixed (fixed.Function (function.One (one.AreaRead width.Bit))) refl ends r
reads_area w ends r = reads_fixed (fixed.Function (function.One (one.AreaRead w))) refl ends r

reads_form : (names : Names) (line : ℕ) (f : Form) {more : List ℕ} {ks : List GrammarKind} → IsMade f → ends_word more ≡ true → ReadsOn line more ks
    → ReadsOn line (form_text names f ++ more) (spell (form_of names line f) ks)
reads_form names line (literal ty n) m ends r = reads_literal ty n ends r
reads_form names line (variable v) m ends r = reads_var names v ends r
reads_form names line (group f) m ends r = simp append_assoc (opens (form_of names line f) _ (reads_form names line f m refl (reads_close r)))
reads_form names line (prefix unary.Minus f) m ends r = reads_minus (reads_form names line f m.1 ends r)
reads_form names line (prefix unary.Not f) m ends r = reads_fixed fixed.Not refl refl (reads_blank (reads_form names line f m.1 ends r))
reads_form names line (prefix op f) m ends r = absurd (let none = m.0 in cc)
reads_form names line (infix_of op f g) {more} m ends r =
    reads_as (two (form_text names f) (infix_word op) (form_text names g) _)
    (reads_form names line f m.0 (infix_ends op (form_text names g ++ more)) (reads_infix op (reads_form names line g m.1 ends r)))
reads_form names line (digits_to unary.BcdToInt f) m ends r =
    simp append_assoc
    (reads_fixed (fixed.Function (function.One one.BcdToInt)) refl refl (opens (form_of names line f) _ (reads_form names line f m.1 refl (reads_close r))))
reads_form names line (digits_to unary.BcdToDint f) m ends r =
    simp append_assoc
    (reads_fixed (fixed.Function (function.One one.BcdToDint)) refl refl (opens (form_of names line f) _ (reads_form names line f m.1 refl (reads_close r))))
reads_form names line (digits_to op f) m ends r = absurd (let none = m.0 in cc)
reads_form names line (convert from to f) m ends r =
    reads_as (three (type_word from ++ codes "_TO_" ++ type_word to) (codes "(") (form_text names f) (codes ")") _)
    (reads_convert from to refl (opens (form_of names line f) _ (reads_form names line f m refl (reads_close r))))
reads_form names line (select f g h) m ends r =
    simp append_assoc (reads_fixed (fixed.Function function.Select) refl refl (opens (form_of names line f) _ (reads_form names line f m.0 refl
    (reads_comma (reads_blank (reads_form names line g m.1 refl (reads_comma (reads_blank (reads_form names line h m.2 refl (reads_close r))))))))))
reads_form names line (shift op f g) m ends r =
    simp append_assoc (reads_shift op refl (opens (form_of names line f) _ (reads_form names line f m.0 refl
    (reads_comma (reads_blank (reads_form names line g m.1 refl (reads_close r)))))))
reads_form names line (area_read w f) m ends r =
    reads_as (three (codes "AREA_READ_" ++ width_word w) (codes "(") (form_text names f) (codes ")") _)
    (reads_area w refl (opens (form_of names line f) _ (reads_form names line f m refl (reads_close r))))

pub reads_expr : {more : List ℕ} {ks : List GrammarKind} (names : Names) (line : ℕ) (e : Expr) → ends_word more ≡ true → ReadsOn line more ks
    → ReadsOn line (expr_text names e ++ more) (spell (expr_form names line e) ks)
reads_expr names line e ends r = reads_form names line (canon e) (made e) ends r
