use Rattle.st_tree.proofs.Common.{◌∙◌, Option, ap, option_map}
use Rattle.st_grammar.specs.Kinds.{word_text, word_named}
use Rattle.st_grammar.specs.declared.words.TheConstants.{WORDS}
use Rattle.st_token_kinds.proofs.Tables.{found_by}
use Rattle.st_token_kinds.proofs.words.word_named.Goals as goal
use Rattle.st_token_kinds.specs.declared.words.WordRow.{WordRow}
use Rattle.st_token_kinds.specs.inner.Rows.{word_shown}

pub returns : goal.returns
unfolding word_named
returns c =
    c.word_of.ensures
    ∙ ap (λ (o : Option WordRow). option_map (λ row. (word_shown row).1) o) c.row_of_word.ensures
    ∙ found_by c.args.text.now word_shown word_text c.word_rows.result.now WORDS c.word_rows.ensures
