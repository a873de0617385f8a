-- A text has one raw tree or one refusal: what a text is says what the judgement of its tokens is.
use Rattle.st_tree.proofs.Common.{◌≡◌, ℕ, List, Some, Result, Ok, Err, sym, ap, ◌∙◌, ◌<◌, ◌≤◌, Bool, true, false, [], ◌∷◌, ◌++◌, Option, None, refl, subst, arith, append_assoc, append-nil, Line, Reason, Rejection, nat_lt, if◌then◌else◌, option_and_then, option_map, nat_tests}
use Rattle.s7_base.specs.declared.reason.Reason.TheVariants as reason
use Rattle.s7_base.specs.declared.reason.Rejection.TheVariants.{Refused}
use Rattle.st_reading_laws.proofs.Bare.{bare, next_bare, last_level_bare}
use Rattle.st_reading_laws.proofs.Drive.{finished, drive_source}
use Rattle.st_grammar.proofs.Common.{judge_tokens, tree_at, verdict, verdict_on, after_token, level_reached, state_or_refusal, on_good, code, State, start, written, Lined, HasRawTree, IsSyntaxRefused, kinds, Reads, AllWithin, Begins, FirstWrong, FirstDeep, Source, deepest, levels_source, next, last_level, Passed, passes}
use Rattle.st_grammar.specs.Syntax.{HasLined}
use Rattle.st_reading_laws.specs.SyntaxLaws.{NotBothSyntaxes, OneRawTree, OneSyntaxRefusal}
use Rattle.st_tree.specs.declared.raw.RawSt.{RawSt}
use Rattle.s7_base.specs.declared.reason.Reason.TheVariants.{BadSyntax, TooDeep}
use Rattle.st_reading_laws.proofs.Exact.{at_state, begins_at, same_levels}
use Rattle.st_grammar.specs.declared.kind.GrammarKind.{GrammarKind}

abbrev behind : State written → List ℕ → Option (Passed written)
behind q w = Some (at_state q w)

-- One token

after_token_bare : (q : State written) (k : GrammarKind) (o : Option (State written)) → next written q k ≡ o → after_token (bare q) k ≡ option_map bare o
unfolding after_token
after_token_bare q k o n = next_bare q k ∙ ap (λ (x : Option (State written)). option_map bare x) n

level_reached_is : (q : State written) → level_reached (bare q) ≡ last_level written q
unfolding level_reached
level_reached_is q = last_level_bare q

lt_false : (m n : ℕ) → n ≤ m → nat_lt m n ≡ false
lt_false m n h = grind (arith, nat_tests)

lt_true : (m n : ℕ) → m < n → nat_lt m n ≡ true
lt_true m n h = grind (arith, nat_tests)

-- what comes of a token after which a state is, by whether its level is too great
abbrev by_level : Lined → List Lined → State code → Bool → Result (State code) Rejection
by_level item back to deep = on_good (if deep then Err (Refused item.line TooDeep) else Ok to) (λ next_to. judge_tokens next_to back)

-- what comes of a token by what is after it
abbrev by_token : Lined → List Lined → Option (State code) → Result (State code) Rejection
by_token item back o = on_good (state_or_refusal o item.line) (λ to. judge_tokens to back)

level_of : (item : Lined) (back : List Lined) (q r : State written) (deep : Bool)
    → next written q item.kind ≡ Some r → nat_lt deepest (last_level written r) ≡ deep
    → judge_tokens (bare q) (item ∷ back) ≡ by_level item back (bare r) deep
level_of item back q r deep n e =
    ap (by_token item back) (after_token_bare q item.kind (Some r) n)
    ∙ ap (λ (level : ℕ). by_level item back (bare r) (nat_lt deepest level)) (level_reached_is r)
    ∙ ap (by_level item back (bare r)) e

-- a token that is good
goes_on : (item : Lined) (back : List Lined) (q r : State written) → next written q item.kind ≡ Some r
    → last_level written r ≤ deepest → judge_tokens (bare q) (item ∷ back) ≡ judge_tokens (bare r) back
goes_on item back q r n low = level_of item back q r false n (lt_false deepest (last_level written r) low)

-- one that makes a level too many
too_deep : (item : Lined) (back : List Lined) (q r : State written) → next written q item.kind ≡ Some r
    → deepest < last_level written r → judge_tokens (bare q) (item ∷ back) ≡ Err (Refused item.line TooDeep)
too_deep item back q r n high = level_of item back q r true n (lt_true deepest (last_level written r) high)

-- one that cannot follow
stopped : (item : Lined) (back : List Lined) (q : State written) → next written q item.kind ≡ None
    → judge_tokens (bare q) (item ∷ back) ≡ Err (Refused item.line BadSyntax)
stopped item back q n = ap (by_token item back) (after_token_bare q item.kind None n)

-- The first tokens

-- the pass has gone over some tokens, and whatever follows goes on from there; so does the judgement, if
-- none of them makes a level too many
record Gone (q : State written) (w : List ℕ) (front : List Lined) : Type 0 where
  inner : State written
  levels : List ℕ
  passed : (ks : List GrammarKind) → passes written q w (kinds front ++ ks) ≡ passes written inner levels ks
  before : AllWithin deepest levels → AllWithin deepest w
  judges : AllWithin deepest levels → (back : List Lined)
      → judge_tokens (bare q) (front ++ back) ≡ judge_tokens (bare inner) back

gone_more : (item : Lined) (front : List Lined) (more : List GrammarKind) (q : State written) (w : List ℕ) (end : Passed written) (o : Option (State written))
    → next written q item.kind ≡ o
    → ((r : State written) → passes written r (last_level written r ∷ w) (kinds front ++ more) ≡ Some end → Gone r (last_level written r ∷ w) front)
    → option_and_then (λ r. passes written r (last_level written r ∷ w) (kinds front ++ more)) o ≡ Some end → Gone q w (item ∷ front)
gone_more item front more q w end None n on e = absurd cc
gone_more item front more q w end (Some r) n on e =
    let g = on r e in
    record {
      inner = g.inner;
      levels = g.levels;
      passed =
          λ ks. ap (λ (o : Option (State written)). option_and_then (λ z. passes written z (last_level written z ∷ w) (kinds front ++ ks)) o) n ∙ g.passed ks;
      before = λ h. (g.before h).1;
      judges = λ h back. goes_on item (front ++ back) q r n (g.before h).0 ∙ g.judges h back;
    }

gone : (front : List Lined) (more : List GrammarKind) (q : State written) (w : List ℕ) (end : Passed written)
    → passes written q w (kinds front ++ more) ≡ Some end → Gone q w front
gone [] more q w end e = record { inner = q; levels = w; passed = λ ks. refl; before = λ h. h; judges = λ h back. refl }
gone (item ∷ front) more q w end e =
    gone_more item front more q w end (next written q item.kind) refl (λ r h. gone front more r (last_level written r ∷ w) end h) e

-- the end of the pass over a text
abbrev end_of : Source → Passed written
end_of source = at_state (finished source) (levels_source source)

passes_source : (all : List GrammarKind) (source : Source) → Reads all source → passes written start [] all ≡ Some (end_of source)
passes_source all source r = ap (λ (ks : List GrammarKind). passes written start [] ks) (sym r.spelled) ∙ drive_source source r.fits

-- What a text is

-- a text's tokens are judged good, and the state after them is its end
pub good_judged : (all : List Lined) (source : Source) → Reads (kinds all) source
    → AllWithin deepest (levels_source source) → judge_tokens start all ≡ Ok (bare (finished source))
good_judged all source r h =
    let whole = passes_source (kinds all) source r in
    let every : passes written start [] (kinds all ++ []) ≡ Some (end_of source) =
    ap (λ (ks : List GrammarKind). passes written start [] ks) (append-nil (kinds all)) ∙ whole in
    let g = gone all [] start [] (end_of source) every in
    let same : at_state g.inner g.levels ≡ end_of source = let e : behind g.inner g.levels ≡ Some (end_of source) = sym (g.passed []) ∙ every in cc in
    let within : AllWithin deepest g.levels = subst (AllWithin deepest) (sym (ap (λ (p : Passed written). p.levels) same)) h in
    ap (judge_tokens start) (sym (append-nil all)) ∙ g.judges within []
    ∙ ap (λ (p : Passed written). Ok (bare p.state)) same

-- where no text goes on, the pass stops
stops : (front : List Lined) (item : Lined) (g : Gone start [] front) → (Begins (kinds front ++ item.kind ∷ []) → ⊥) → next written g.inner item.kind ≡ None
stops front item g none = by (next written g.inner item.kind) refl
  where
    by : (o : Option (State written)) → next written g.inner item.kind ≡ o → o ≡ None
    by None n = refl
    by (Some r) n =
        let on : passes written g.inner g.levels (item.kind ∷ []) ≡ behind r (last_level written r ∷ g.levels) =
        ap (λ (o : Option (State written)). option_and_then (λ z. passes written z (last_level written z ∷ g.levels) []) o) n in
        absurd (none (begins_at (kinds front ++ item.kind ∷ []) r (last_level written r ∷ g.levels) (g.passed (item.kind ∷ []) ∙ on)).begins)

-- the first token that cannot follow is refused
pub wrong_judged : (all : List Lined) (line : Line) → FirstWrong all line →
    judge_tokens start all ≡ Err (Refused line BadSyntax)
wrong_judged all line f =
    let b = f.may_begin.begins in
    let g = gone f.front b.more start [] (end_of b.source) (passes_source (kinds f.front ++ b.more) b.source b.reads) in
    let passed : passes written start [] (kinds f.front) ≡ behind g.inner g.levels =
    ap (λ (ks : List GrammarKind). passes written start [] ks) (sym (append-nil (kinds f.front))) ∙ g.passed [] in
    let within : AllWithin deepest g.levels = subst (AllWithin deepest) (same_levels (kinds f.front) g.inner g.levels b passed) f.may_begin.within in
    ap (judge_tokens start) f.split
    ∙ g.judges within (f.item ∷ f.back)
    ∙ stopped f.item f.back g.inner (stops f.front f.item g f.cannot_follow)
    ∙ ap (λ (l : Line). Err (Refused l BadSyntax)) f.on_line

-- a token follows a state
record Follows (q : State written) (k : GrammarKind) : Type 0 where
  inner : State written
  step : next written q k ≡ Some inner

follows : (q : State written) (w : List ℕ) (k : GrammarKind) (more : List GrammarKind) (end : Passed written)
    → passes written q w (k ∷ more) ≡ Some end → Follows q k
follows q w k more end e = by (next written q k) refl e
  where
    by : (o : Option (State written)) → next written q k ≡ o
        → option_and_then (λ r. passes written r (last_level written r ∷ w) more) o ≡ Some end → Follows q k
    by None n h = absurd cc
    by (Some r) n h = record { inner = r; step = n }

-- and so is the first that makes a level too many
pub deep_judged : (all : List Lined) (line : Line) → FirstDeep all line →
    judge_tokens start all ≡ Err (Refused line TooDeep)
deep_judged all line f =
    let b = f.can_follow in
    let k = f.item.kind in
    let whole : passes written start [] (kinds f.front ++ k ∷ b.more) ≡ Some (end_of b.source) =
    ap (λ (ks : List GrammarKind). passes written start [] ks) (sym (append_assoc (kinds f.front) (k ∷ []) b.more))
    ∙ passes_source ((kinds f.front ++ k ∷ []) ++ b.more) b.source b.reads in
    let g = gone f.front (k ∷ b.more) start [] (end_of b.source) whole in
    let n = follows g.inner g.levels k b.more (end_of b.source) (sym (g.passed (k ∷ b.more)) ∙ whole) in
    let passed : passes written start [] (kinds f.front ++ k ∷ []) ≡ behind n.inner (last_level written n.inner ∷ g.levels) =
    g.passed (k ∷ []) ∙ ap (λ (o : Option (State written)). option_and_then (λ z. passes written z (last_level written z ∷ g.levels) []) o) n.step in
    let same : last_level written n.inner ∷ g.levels ≡ f.level ∷ f.others =
    sym (same_levels (kinds f.front ++ k ∷ []) n.inner (last_level written n.inner ∷ g.levels) b passed) ∙ f.levels in
    let level : last_level written n.inner ≡ f.level = cc in
    let others : g.levels ≡ f.others = cc in
    let high : deepest < last_level written n.inner = subst (λ (m : ℕ). deepest < m) (sym level) f.too_deep in
    let within : AllWithin deepest g.levels = subst (AllWithin deepest) (sym others) f.within in
    ap (judge_tokens start) f.split
    ∙ g.judges within (f.item ∷ f.back)
    ∙ too_deep f.item f.back g.inner n.inner n.step high
    ∙ ap (λ (l : Line). Err (Refused l TooDeep)) f.on_line

-- One tree or one refusal

of_tokens : (bytes : List ℕ) (all : List Lined) → HasLined bytes all → verdict bytes ≡ judge_tokens start all
of_tokens bytes all h = ap (verdict_on bytes) h.1 ∙ ap (judge_tokens start) h.2

-- a text with a tree is judged good
of_tree : (bytes : List ℕ) (raw : RawSt) (h : HasRawTree bytes raw) → verdict bytes ≡ Ok (bare (finished h.source))
of_tree bytes raw h = of_tokens bytes h.all h.found ∙ good_judged h.all h.source h.reads h.within

-- a text that is refused is judged so
pub of_refusal : (bytes : List ℕ) (line : Line) (why : Reason) → IsSyntaxRefused bytes line why → verdict bytes ≡ Err (Refused line why)
of_refusal bytes line reason.BadToken h = ap (verdict_on bytes) h
of_refusal bytes line reason.BadSyntax h = of_tokens bytes h.0 h.1 ∙ wrong_judged h.0 line h.2
of_refusal bytes line reason.TooDeep h = of_tokens bytes h.0 h.1 ∙ deep_judged h.0 line h.2
of_refusal bytes line other h = absurd h

-- and its tree is that of its end
pub tree_is : (bytes : List ℕ) (raw : RawSt) → HasRawTree bytes raw → tree_at (verdict bytes) ≡ Some raw
tree_is bytes raw h = ap tree_at (of_tree bytes raw h) ∙ ap (λ (r : RawSt). Some r) h.same

pub one_raw_tree : OneRawTree
one_raw_tree bytes r s a b = let e : Some r ≡ Some s = sym (tree_is bytes r a) ∙ tree_is bytes s b in cc

same_refusal : (v : Result (State code) Rejection) (l m : Line) (q r : Reason) → v ≡ Err (Refused l q) → v ≡ Err (Refused m r) → (l ≡ m) × (q ≡ r)
same_refusal v l m q r a b = (cc, cc)

good_or_not : (v : Result (State code) Rejection) (q : State code) (refused : Rejection) → v ≡ Ok q → v ≡ Err refused → ⊥
good_or_not v q refused a b = absurd cc

pub one_syntax_refusal : OneSyntaxRefusal
one_syntax_refusal bytes l m q r a b = same_refusal (verdict bytes) l m q r (of_refusal bytes l q a) (of_refusal bytes m r b)

-- no text has a tree and a refusal of its syntax
pub not_both_syntaxes : NotBothSyntaxes
not_both_syntaxes bytes raw line why a b =
    good_or_not (verdict bytes) (bare (finished a.source)) (Refused line why) (of_tree bytes raw a) (of_refusal bytes line why b)
