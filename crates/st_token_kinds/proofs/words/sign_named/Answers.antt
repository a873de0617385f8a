use Rattle.st_tree.proofs.Common.{◌∙◌, Option, ap, option_map}
use Rattle.st_grammar.specs.Kinds.{fixed_text, sign_named}
use Rattle.st_grammar.specs.declared.words.TheConstants.{SIGNS}
use Rattle.st_token_kinds.proofs.Tables.{found_by}
use Rattle.st_token_kinds.proofs.words.sign_named.Goals as goal
use Rattle.st_token_kinds.specs.declared.words.SignRow.{SignRow}
use Rattle.st_token_kinds.specs.inner.Rows.{sign_shown}

pub returns : goal.returns
unfolding sign_named
returns c =
    c.sign_of.ensures
    ∙ ap (λ (o : Option SignRow). option_map (λ row. (sign_shown row).1) o) c.row_of_sign.ensures
    ∙ found_by c.args.text.now sign_shown fixed_text c.sign_rows.result.now SIGNS c.sign_rows.ensures
