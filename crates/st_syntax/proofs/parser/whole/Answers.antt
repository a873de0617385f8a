use Rattle.st_tree.proofs.Common.{◌≡◌, Option, Ok, map, sym, ap, subst, ◌∙◌, option_map, Rejection}
use Rattle.st_grammar.proofs.Ends.{not_over}
use Rattle.st_syntax.proofs.parser.whole.Goals as goal
use Rattle.st_grammar.proofs.Common.{judge_tokens, all_lined}
use Rattle.st_syntax.specs.inner.StateView.{JudgedIs, state_view}
use Rattle.st_syntax.specs.inner.Views.{text_so_far_of}
use Rattle.st_lexer.specs.Pieces.{token_seen}
use Rattle.st_syntax.specs.declared.state.State.TheVariants as state

pub unreachable-requires : goal.unreachable-requires
unfolding state_view
unreachable-requires c =
    let tokens = map token_seen c.args.tokens.now in
    let given = judge_tokens (state_view state.Start) (all_lined tokens c.args.end) in
    let at = state_view c.judge_tokens-refusal.new.state in
    let good : given ≡ Ok at = subst (λ (r : Option Rejection). JudgedIs at r given) c.in_default.is c.judge_tokens-refusal.ensures in
    not_over tokens c.args.end at good
    (sym c.finish-text.ensures ∙ ap (option_map text_so_far_of) c.in-None.is)
