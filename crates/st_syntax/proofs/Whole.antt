-- What the judgement of a text's tokens says of the judgement of the text.
use Rattle.st_tree.proofs.Common.{◌≡◌, ℕ, List, Some, Result, Ok, Err, ap, subst, ◌∙◌, option_map, IfRefused, line_at_end, Line, Reason, Rejection}
use Rattle.s7_base.specs.declared.reason.Rejection.TheVariants.{Refused, NoMemory}
use Rattle.st_grammar.proofs.Common.{all_lined, judge_tokens, raw_of, tree_at, verdict, verdict_on, code, TextSoFar, State, start}
use Rattle.st_lexer.proofs.Common.{tokens_of, RawSt, StToken}
use Rattle.st_syntax.specs.declared.state.TextSoFar.{TextSoFar as TextRead}
use Rattle.st_syntax.specs.inner.StateView.{HasText}

-- what a judgement of a text is
abbrev IsJudged : List ℕ → Line → Reason → Type 0
IsJudged bytes line why = verdict bytes ≡ Err (Refused line why)

has_tree : (given : Result (State code) Rejection) (text : TextSoFar code) → HasText given text → tree_at given ≡ Some (raw_of text)
has_tree (Ok q) text h = ap (option_map raw_of) h
has_tree (Err refused) text h = absurd h

-- a text whose tokens are judged good has the tree of its end
pub read_as : (bytes : List ℕ) (tokens : List StToken) (end : Line) (text : TextSoFar code)
    → tokens_of bytes ≡ Ok tokens → end ≡ line_at_end bytes → HasText (judge_tokens start (all_lined tokens end)) text
    → tree_at (verdict bytes) ≡ Some (raw_of text)
read_as bytes tokens end text found at h =
    ap (λ (o : Result (List StToken) Rejection). tree_at (verdict_on bytes o)) found
    ∙ has_tree (judge_tokens start (all_lined tokens (line_at_end bytes))) text
    (subst (λ (line : Line). HasText (judge_tokens start (all_lined tokens line)) text) at h)

-- what refuses a text's tokens refuses the text
pub bad_tokens : (X : Type 0) (bytes : List ℕ) (refused : Rejection)
    → IfRefused {X = X} (Err refused) (λ line why. tokens_of bytes ≡ Err (Refused line why)) → IfRefused {X = RawSt} (Err refused) (IsJudged bytes)
bad_tokens X bytes (Refused line why) h = ap (verdict_on bytes) h
bad_tokens X bytes NoMemory h = tt

-- and so does what their judgement refuses
pub refused_as : (bytes : List ℕ) (tokens : List StToken) (end : Line) (refused : Rejection) → tokens_of bytes ≡ Ok tokens → end ≡ line_at_end bytes
    → IfRefused {X = TextRead} (Err refused) (λ line why. judge_tokens start (all_lined tokens end) ≡ Err (Refused line why))
    → IfRefused {X = RawSt} (Err refused) (IsJudged bytes)
refused_as bytes tokens end (Refused line why) found at bad =
    ap (verdict_on bytes) found ∙ subst (λ (last : Line). judge_tokens start (all_lined tokens last) ≡ Err (Refused line why)) at bad
refused_as bytes tokens end NoMemory found at bad = tt
