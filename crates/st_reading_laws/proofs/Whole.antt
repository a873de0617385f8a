-- The judgement of a text's tokens says exactly what the text is.
use Rattle.st_tree.proofs.Common.{◌≡◌, ℕ, false, List, Option, Some, None, Ok, Err, refl, sym, subst, ◌<◌, ◌≤◌, Bool, true, [], ◌∷◌, ◌++◌, Result, arith, append_assoc, append-nil, line_at_end, Line, Reason, nat_lt, if◌then◌else◌, nat_tests, Rejection}
use Rattle.s7_base.specs.declared.reason.Reason.TheVariants as reason
use Rattle.s7_base.specs.declared.reason.Rejection.TheVariants.{Refused, NoMemory}
use Rattle.st_lexer.proofs.Common.{answer, cut_from, first_bad, great_from, tokens_of, StToken}
use Rattle.st_reading_laws.proofs.Exact.{Read, read_all, none_read, read_more, wrong_at, deep_at}
use Rattle.st_grammar.proofs.Common.{judge_tokens, raw_of, text_in, after_token, level_reached, state_or_refusal, on_good, code, TextSoFar, State, start, over, all_lined, HasRawTree, IsSyntaxRefused, Lined, FirstWrong, FirstDeep, deepest, next, last_level}
use Rattle.st_grammar.specs.declared.kind.GrammarKind.{GrammarKind}

-- what a refusal says
abbrev pub Refuses : List Lined → Line → Reason → Type 0
Refuses all line reason.BadSyntax = FirstWrong all line
Refuses all line reason.TooDeep = FirstDeep all line
Refuses all line other = ⊥

-- what a judgement says
abbrev pub Says : List Lined → Result (State code) Rejection → Type 0
Says all (Ok state) = Read all state
Says all (Err (Refused line reason)) = Refuses all line reason
Says all (Err NoMemory) = ⊥

choose : (m n : ℕ) (P : Bool → Type 0) → (n ≤ m → P false) → (m < n → P true) → P (nat_lt m n)
choose m n P low high = by (nat_lt m n) (λ h. grind (arith, nat_tests)) (λ h. grind (arith, nat_tests))
  where
    by : (c : Bool) → (c ≡ false → n ≤ m) → (c ≡ true → m < n) → P c
    by true p q = high (q refl)
    by false p q = low (p refl)

after_token_is : (q : State code) (k : GrammarKind) (o : Option (State code)) → after_token q k ≡ o → next code q k ≡ o
unfolding after_token
after_token_is q k o e = e

low_reach : (q : State code) → level_reached q ≤ deepest → last_level code q ≤ deepest
unfolding level_reached
low_reach q h = h

high_reach : (q : State code) → deepest < level_reached q → deepest < last_level code q
unfolding level_reached
high_reach q h = h

on_token : (front back : List Lined) (item : Lined) (q : State code) (o : Option (State code)) → Read front q → after_token q item.kind ≡ o
    → ((to : State code) → Read (front ++ item ∷ []) to → Says ((front ++ item ∷ []) ++ back) (judge_tokens to back))
    → Says (front ++ item ∷ back) (on_good (state_or_refusal o item.line) (λ to. judge_tokens to back))
on_token front back item q None r e on = wrong_at front back item q r (after_token_is q item.kind None e)
on_token front back item q (Some to) r e on =
    choose deepest (level_reached to)
    (λ c. Says (front ++ item ∷ back) (on_good (if c then Err (Refused item.line reason.TooDeep) else Ok to) (λ to. judge_tokens to back)))
    (λ low. subst (λ (all : List Lined). Says all (judge_tokens to back)) (append_assoc front (item ∷ []) back)
    (on to (read_more front item q to r (after_token_is q item.kind (Some to) e) (low_reach to low))))
    (λ high. deep_at front back item q to r (after_token_is q item.kind (Some to) e) (high_reach to high))

says_from : (front back : List Lined) (q : State code) → Read front q → Says (front ++ back) (judge_tokens q back)
says_from front [] q r = subst (λ (all : List Lined). Read all q) (sym (append-nil front)) r
says_from front (item ∷ back) q r = on_token front back item q (after_token q item.kind) r refl (λ to h. says_from (front ++ item ∷ []) back to h)

pub says : (all : List Lined) → Says all (judge_tokens start all)
says all = says_from [] all start none_read

-- The whole text

-- a text whose tokens are judged good has the tree of its end
pub tree_of : (bytes : List ℕ) (tokens : List StToken) (q : State code) (text : TextSoFar code)
    → tokens_of bytes ≡ Ok tokens → judge_tokens start (all_lined tokens (line_at_end bytes)) ≡ Ok q → text_in q ≡ Some text
    → HasRawTree bytes (raw_of text)
tree_of bytes tokens (over t) text found good e =
    let all = all_lined tokens (line_at_end bytes) in
    let read : Read all (over t) = subst (Says all) good (says all) in
    let same : t ≡ text = cc in
    let r = read_all all text (subst (λ (x : TextSoFar code). Read all (over x)) same read) in
    record { all = all; found = (tokens, found, refl); source = r.source; reads = r.reads; within = r.within; same = r.same }
tree_of bytes tokens other text found good e = absurd cc

-- a refusal of its tokens is that of the text
pub refused_of : (bytes : List ℕ) (tokens : List StToken) (line : Line) (why : Reason) → tokens_of bytes ≡ Ok tokens
    → judge_tokens start (all_lined tokens (line_at_end bytes)) ≡ Err (Refused line why) → IsSyntaxRefused bytes line why
refused_of bytes tokens line why found bad = by why (subst (Says (all_lined tokens (line_at_end bytes))) bad (says (all_lined tokens (line_at_end bytes))))
  where
    by : (r : Reason) → Refuses (all_lined tokens (line_at_end bytes)) line r → IsSyntaxRefused bytes line r
    by reason.BadSyntax w = (all_lined tokens (line_at_end bytes), (tokens, found, refl), w)
    by reason.TooDeep w = (all_lined tokens (line_at_end bytes), (tokens, found, refl), w)
    by other w = absurd w

-- tokens are refused for a bad one alone
why_bad : (place : Option Line) (tokens : List StToken) (line : Line) (why : Reason) → answer place tokens ≡ Err (Refused line why) → why ≡ reason.BadToken
why_bad (Some first) tokens line why e = cc
why_bad None tokens line why e = absurd cc

-- a text whose tokens are refused is
pub bad_token : (bytes : List ℕ) (line : Line) (why : Reason) → tokens_of bytes ≡ Err (Refused line why) → IsSyntaxRefused bytes line why
unfolding tokens_of
bad_token bytes line why e =
    let cut = cut_from 0 1 bytes in
    let is : why ≡ reason.BadToken = why_bad (first_bad (great_from false cut.tokens) cut.bad) cut.tokens line why e in
    subst (IsSyntaxRefused bytes line) (sym is) (subst (λ (w : Reason). tokens_of bytes ≡ Err (Refused line w)) is e)
