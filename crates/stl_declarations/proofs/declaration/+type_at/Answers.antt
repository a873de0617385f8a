use Rattle.std.proofs.Common.{◌≡◌, ◌+◌, ◌-◌, List, drop, IfOk, sym, ap, subst, ◌∙◌, arith}
use Rattle.s7_base.specs.declared.token.Token.{Token}
use Rattle.stl_grammar.specs.Declarations.{array_at, array_with, type_at, with_array}
use Rattle.stl_grammar.specs.declared.declaration.Written.{Written}
use Rattle.stl_declarations.proofs.Types.{as_word, as_array}
use Rattle.stl_declarations.proofs.declaration.+type_at.Goals as goal
use Rattle.stl_statement_grammar.specs.Readers.{further, read_as}
use Rattle.stl_statement_grammar.specs.declared.mnemonic.Read.{Read}

pub returns-then-not-begins_with_word : goal.returns-then-not-begins_with_word
returns-then-not-begins_with_word t c =
    c.one_word_at-then-not-begins_with_word.ensures
    ∙ as_word c.args.left c.args.tokens.now (omega (arith, c.if-left-eq0.false)) c.if-begins_with_word.ensures c.if-not-begins_with_word.ensures

pub returns-in_ok-element-in-Fits : goal.returns-in_ok-element-in-Fits
returns-in_ok-element-in-Fits t c =
    let left = c.args.left in
    let tokens = c.args.tokens.now in
    let dims = c.in-Fits.dims in
    let size = c.in-Fits.size in
    let P : Read Written → Type 0 = λ whole. IfOk c.array_with.result (λ found. found ≡ whole) in
    subst P
    (ap (λ (element : Read Written). further (size + 1) (read_as (with_array dims) element))
    (c.in_ok-element-in-Fits.ensures
    ∙ ap (λ (ts : List Token). type_at (left - 1) ts) (c.rest_after.ensures ∙ ap (λ (ts : List Token). drop size ts) c.rest_after-rest.ensures))
    ∙ ap (λ (r : Read (List _)). array_with (drop 1 tokens) r (λ behind. type_at (left - 1) behind))
    (sym c.in-Fits.is ∙ c.in_ok-dims.ensures ∙ ap array_at c.rest_after-rest.ensures)
    ∙ as_array left tokens (omega (arith, c.if-left-eq0.false)) c.if-begins_with_word.ensures c.if-not-begins_with_word.ensures)
    c.array_with.ensures
