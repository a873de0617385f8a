-- A text has one reading.
use Rattle.std.proofs.Common.{◌≡◌, subst}
use Rattle.st_parser.specs.TextLaws.{NotBoth, OneRefusal, OneTree}
use Rattle.st_parser.specs.Texts.{by_rules, by_syntax}
use Rattle.st_reading_laws.proofs.OneSyntax.{not_both_syntaxes, one_raw_tree, one_syntax_refusal}
use Rattle.st_tree.specs.declared.raw.RawSt.{RawSt}
use Rattle.st_reading_laws.proofs.OneAnswer as of_raw
use Rattle.st_rules.specs.Typed.{Breaks, HasTree}

pub one_tree : OneTree
one_tree bytes s t a b =
    let same : b.raw ≡ a.raw = one_raw_tree bytes b.raw a.raw b.reads a.reads in
    of_raw.one_tree a.raw s t a.typed (subst (λ (raw : RawSt). HasTree raw t) same b.typed)

pub one_refusal : OneRefusal
one_refusal bytes l m q r (by_syntax a) (by_syntax b) = one_syntax_refusal bytes l m q r a b
one_refusal bytes l m q r (by_syntax a) (by_rules {raw = raw} h b) = absurd (not_both_syntaxes bytes raw l q h a)
one_refusal bytes l m q r (by_rules {raw = raw} h a) (by_syntax b) = absurd (not_both_syntaxes bytes raw m r h b)
one_refusal bytes l m q r (by_rules {raw = x} h a) (by_rules {raw = y} k b) =
    of_raw.one_refusal x l m q r a (subst (λ (raw : RawSt). Breaks raw m r) (one_raw_tree bytes y x k h) b)

pub not_both : NotBoth
not_both bytes t l r a (by_syntax b) = not_both_syntaxes bytes a.raw l r a.reads b
not_both bytes t l r a (by_rules {raw = raw} h b) =
    of_raw.not_both a.raw t l r a.typed (subst (λ (x : RawSt). Breaks x l r) (one_raw_tree bytes raw a.raw h a.reads) b)
