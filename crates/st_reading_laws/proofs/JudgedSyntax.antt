-- The pass over a text's tokens judges exactly what the text is.
use Rattle.st_tree.proofs.Common.{◌≡◌, ℕ, List, Option, Some, None, Result, Ok, Err, refl, sym, ap, subst, ◌∙◌, option_map, line_at_end, Line, Reason, Rejection}
use Rattle.s7_base.specs.declared.reason.Rejection.TheVariants.{Refused}
use Rattle.st_grammar.proofs.Common.{HasRawTree, IsSyntaxRefused, all_lined, judge_tokens, raw_of, text_in, tree_at, verdict, verdict_on, code, TextSoFar, State, start}
use Rattle.st_lexer.proofs.Common.{tokens_of, RawSt, StToken}
use Rattle.st_reading_laws.proofs.OneSyntax.{of_refusal, tree_is}
use Rattle.st_reading_laws.proofs.Whole.{bad_token, refused_of, tree_of}
use Rattle.st_reading_laws.specs.inner.JudgeLaws.{JudgedRefusals, JudgedTrees}

-- the judgement of a text by its tokens
of_verdict : (bytes : List ℕ) (o : Result (List StToken) Rejection) (v : Result (State code) Rejection)
    → tokens_of bytes ≡ o → verdict bytes ≡ v → verdict_on bytes o ≡ v
of_verdict bytes o v found e = sym (ap (verdict_on bytes) found) ∙ e

-- the state to which a text is judged good has a tree, and it is the text's
from_state : (bytes : List ℕ) (tokens : List StToken) (q : State code) (raw : RawSt) (o : Option (TextSoFar code))
    → tokens_of bytes ≡ Ok tokens → judge_tokens start (all_lined tokens (line_at_end bytes)) ≡ Ok q → text_in q ≡ o
    → option_map raw_of o ≡ Some raw → HasRawTree bytes raw
from_state bytes tokens q raw None found good at e = absurd cc
from_state bytes tokens q raw (Some text) found good at e =
    let same : raw_of text ≡ raw = cc in
    subst (HasRawTree bytes) same (tree_of bytes tokens q text found good at)

from_judgement : (bytes : List ℕ) (tokens : List StToken) (raw : RawSt) (v : Result (State code) Rejection) → tokens_of bytes ≡ Ok tokens
    → judge_tokens start (all_lined tokens (line_at_end bytes)) ≡ v → tree_at v ≡ Some raw → HasRawTree bytes raw
from_judgement bytes tokens raw (Ok q) found good e = from_state bytes tokens q raw (text_in q) found good refl e
from_judgement bytes tokens raw (Err refused) found good e = absurd cc

judged_tree : (bytes : List ℕ) (raw : RawSt) → tree_at (verdict bytes) ≡ Some raw → HasRawTree bytes raw
judged_tree bytes raw = by (tokens_of bytes) refl
  where
    by : (o : Result (List StToken) Rejection) → tokens_of bytes ≡ o → tree_at (verdict bytes) ≡ Some raw → HasRawTree bytes raw
    by (Ok tokens) found e =
        from_judgement bytes tokens raw (judge_tokens start (all_lined tokens (line_at_end bytes))) found refl
        (sym (ap (λ (o : Result (List StToken) Rejection). tree_at (verdict_on bytes o)) found) ∙ e)
    by (Err refused) found e =
        absurd (let none : tree_at (Err refused) ≡ Some raw = sym (ap (λ (o : Result (List StToken) Rejection). tree_at (verdict_on bytes o)) found) ∙ e in cc)

pub judged_trees : JudgedTrees
judged_trees bytes raw = (judged_tree bytes raw, tree_is bytes raw)

judged_refusal : (bytes : List ℕ) (line : Line) (why : Reason) → verdict bytes ≡ Err (Refused line why) → IsSyntaxRefused bytes line why
judged_refusal bytes line why e = by (tokens_of bytes) refl
  where
    by : (o : Result (List StToken) Rejection) → tokens_of bytes ≡ o → IsSyntaxRefused bytes line why
    by (Ok tokens) found = refused_of bytes tokens line why found (of_verdict bytes (Ok tokens) (Err (Refused line why)) found e)
    by (Err refused) found =
        let given : verdict_on bytes (Err refused) ≡ Err (Refused line why) = of_verdict bytes (Err refused) (Err (Refused line why)) found e in
        let same : refused ≡ Refused line why = let is : Err refused ≡ verdict_on bytes (Err refused) = refl in cc in
        bad_token bytes line why (found ∙ ap Err same)

pub judged_refusals : JudgedRefusals
judged_refusals bytes line why = (judged_refusal bytes line why, of_refusal bytes line why)
