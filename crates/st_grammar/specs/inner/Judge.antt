-- The judgement of the parser's pass over a text's tokens. It mirrors the code.
use Rattle.std.specs.Prelude.{ℕ, nat_lt, if◌then◌else◌, List, [], ◌∷◌, Option, Some, None, Result, Ok, Err, option_map}
use Rattle.s7_base.specs.Tokens.{line_at_end}
use Rattle.s7_base.specs.declared.reason.Line.{Line}
use Rattle.s7_base.specs.declared.reason.Reason.TheVariants.{BadSyntax, TooDeep}
use Rattle.s7_base.specs.declared.reason.Rejection.{Rejection}
use Rattle.s7_base.specs.declared.reason.Rejection.TheVariants.{Refused}
use Rattle.st_lexer.specs.StTokens.{tokens_of}
use Rattle.st_tree.specs.Depth.{deepest}
use Rattle.st_grammar.specs.Syntax.{Lined, all_lined}
use Rattle.st_grammar.specs.inner.Machine.{code, TextSoFar, State, start, over}
use Rattle.st_grammar.specs.inner.Steps.{next, last_level}
use Rattle.st_grammar.specs.declared.kind.GrammarKind.{GrammarKind}
use Rattle.st_tree.specs.declared.raw.RawSt.{RawSt}
use Rattle.st_tree.specs.declared.token.StToken.{StToken}

-- one step and its level are opaque, so that proofs of the whole don't open them

-- the state after one more token, if the token can follow
unfoldable pub after_token : State code → GrammarKind → Option (State code)
after_token q k = next code q k

-- the level that the last token made
unfoldable pub level_reached : State code → ℕ
level_reached q = last_level code q

-- the state after a token on a line, if the token can follow and makes no level too many
abbrev pub state_or_refusal : Option (State code) → Line → Result (State code) Rejection
state_or_refusal None line = Err (Refused line BadSyntax)
state_or_refusal (Some to) line = if nat_lt deepest (level_reached to) then Err (Refused line TooDeep) else Ok to

-- the result of continuing after a judgement that is good
abbrev pub on_good : Result (State code) Rejection → (State code → Result (State code) Rejection)
    → Result (State code) Rejection
on_good (Ok to) on = on to
on_good (Err refused) on = Err refused

-- the state after tokens, or the first refusal
abbrev pub judge_tokens : State code → List Lined → Result (State code) Rejection
judge_tokens q [] = Ok q
judge_tokens q (item ∷ items) =
    on_good (state_or_refusal (after_token q item.kind) item.line) (λ to. judge_tokens to items)

-- the whole text, if a state is after its end
abbrev pub text_in : State code → Option (TextSoFar code)
text_in (over text) = Some text
text_in other = None

-- the raw tree of a whole text
abbrev pub raw_of : TextSoFar code → RawSt
raw_of text = record { globals = text.globals; pous = text.units }

-- the tree of a text that is judged good to its end
abbrev pub tree_at : Result (State code) Rejection → Option RawSt
tree_at (Ok q) = option_map raw_of (text_in q)
tree_at (Err refused) = None

-- the judgement of a text: that of its tokens, if none of them is bad
abbrev pub verdict_on : List ℕ → Result (List StToken) Rejection → Result (State code) Rejection
verdict_on bytes (Ok tokens) = judge_tokens start (all_lined tokens (line_at_end bytes))
verdict_on bytes (Err refused) = Err refused

-- the judgement of a text from its bytes
abbrev pub verdict : List ℕ → Result (State code) Rejection
verdict bytes = verdict_on bytes (tokens_of bytes)
