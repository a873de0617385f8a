use Rattle.std.proofs.Common.{◌≡◌, Global, List, Vec, map, Ok, sym, ap, ◌∙◌}
use Rattle.st_lexer.proofs.Common.{token_seen, tokens_of}
use Rattle.st_lexer.specs.declared.lexer.Lexeme.{Lexeme}
use Rattle.st_syntax.proofs.Whole.{bad_tokens, read_as, refused_as}
use Rattle.st_syntax.proofs.parser.syntax.Goals as goal
use Rattle.st_syntax.specs.inner.StateView.{state_view}
use Rattle.st_syntax.specs.inner.Views.{text_so_far_of}

pub returns-in-Err-clause-refused : goal.returns-in-Err-clause-refused
returns-in-Err-clause-refused c = bad_tokens (Vec Lexeme Global) c.args.bytes.now c.in-Err.refused c.in-Err.ensures.refused

pub returns-in-Ok-whole-clause-tree : goal.returns-in-Ok-whole-clause-tree
unfolding state_view
returns-in-Ok-whole-clause-tree c =
    let tokens = map token_seen c.as_slice.result.now in
    let found : tokens_of c.args.bytes.now ≡ Ok tokens =
    c.in-Ok.ensures.tokens ∙ ap (λ (xs : List Lexeme). Ok (map token_seen xs)) (sym c.as_slice.ensures.value) in
    read_as c.args.bytes.now tokens c.end_line.result (text_so_far_of c.in-Ok-whole.field-0) found c.end_line.ensures c.in-Ok-whole.ensures.text

pub returns-clause-refused : goal.returns-clause-refused
unfolding state_view
returns-clause-refused c =
    let tokens = map token_seen c.as_slice.result.now in
    let found : tokens_of c.args.bytes.now ≡ Ok tokens =
    c.in-Ok.ensures.tokens ∙ ap (λ (xs : List Lexeme). Ok (map token_seen xs)) (sym c.as_slice.ensures.value) in
    refused_as c.args.bytes.now tokens c.end_line.result c.in-Err-whole.refused found c.end_line.ensures c.in-Err-whole.ensures.refused
