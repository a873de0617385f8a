-- Each text has a raw tree, or a refusal of its tokens or its syntax.
use Rattle.st_tree.proofs.Common.{◌≡◌, ◌⊎◌, ℕ, false, List, Option, Some, None, Result, Ok, Err, inl, inr, refl, line_at_end, Line, Reason, Rejection}
use Rattle.s7_base.specs.declared.reason.Rejection.TheVariants.{Refused, NoMemory}
use Rattle.st_lexer.proofs.Common.{answer, cut_from, first_bad, great_from, tokens_of, StToken, RawSt}
use Rattle.st_grammar.proofs.Ends.{not_over}
use Rattle.st_reading_laws.proofs.Whole.{bad_token, refused_of, tree_of, Says, says}
use Rattle.st_grammar.proofs.Common.{judge_tokens, raw_of, text_in, code, TextSoFar, State, start, HasRawTree, IsSyntaxRefused, all_lined}
use Rattle.st_reading_laws.specs.SyntaxLaws.{EachHasOneSyntax}

-- a line and a reason of which something holds
abbrev ForSome : (Line → Reason → Type 0) → Type 0
ForSome P = (line : Line) × (why : Reason) × P line why

abbrev HasRaw : List ℕ → Type 0
HasRaw bytes = (raw : RawSt) × HasRawTree bytes raw

from_state : (bytes : List ℕ) (tokens : List StToken) (q : State code) (o : Option (TextSoFar code))
    → tokens_of bytes ≡ Ok tokens → judge_tokens start (all_lined tokens (line_at_end bytes)) ≡ Ok q
    → text_in q ≡ o → HasRaw bytes
from_state bytes tokens q None found good e = absurd (not_over tokens (line_at_end bytes) q good e)
from_state bytes tokens q (Some text) found good e = (raw_of text, tree_of bytes tokens q text found good e)

from_tokens : (bytes : List ℕ) (tokens : List StToken) (given : Result (State code) Rejection)
    → tokens_of bytes ≡ Ok tokens → judge_tokens start (all_lined tokens (line_at_end bytes)) ≡ given
    → Says (all_lined tokens (line_at_end bytes)) given → HasRaw bytes ⊎ ForSome (IsSyntaxRefused bytes)
from_tokens bytes tokens (Ok q) found e s = inl (from_state bytes tokens q (text_in q) found e refl)
from_tokens bytes tokens (Err (Refused line why)) found e s = inr (line, why, refused_of bytes tokens line why found e)
from_tokens bytes tokens (Err NoMemory) found e s = absurd s

answers : (place : Option Line) (tokens : List StToken) → answer place tokens ≡ Err NoMemory → ⊥
answers (Some first) tokens e = absurd cc
answers None tokens e = absurd cc

no_memory : (bytes : List ℕ) → tokens_of bytes ≡ Err NoMemory → ⊥
unfolding tokens_of
no_memory bytes e = let cut = cut_from 0 1 bytes in answers (first_bad (great_from false cut.tokens) cut.bad) cut.tokens e

pub each_has_one_syntax : EachHasOneSyntax
each_has_one_syntax bytes = by (tokens_of bytes) refl
  where
    by : (o : Result (List StToken) Rejection) → tokens_of bytes ≡ o → HasRaw bytes ⊎ ForSome (IsSyntaxRefused bytes)
    by (Ok tokens) e = let all = all_lined tokens (line_at_end bytes) in from_tokens bytes tokens (judge_tokens start all) e refl (says all)
    by (Err (Refused line why)) e = inr (line, why, bad_token bytes line why e)
    by (Err NoMemory) e = absurd (no_memory bytes e)
