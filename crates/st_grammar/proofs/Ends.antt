-- At the end of a text the pass is over.
use Rattle.st_tree.proofs.Common.{◌≡◌, ℕ, Bool, true, false, List, [], ◌∷◌, ◌++◌, Option, Some, None, Result, Ok, Err, map, refl, sym, subst, IfSome, nat_lt, if◌then◌else◌, option_map, Line, Rejection, weakest}
use Rattle.s7_base.specs.declared.reason.Reason.TheVariants.{TooDeep}
use Rattle.s7_base.specs.declared.reason.Rejection.TheVariants.{Refused}
use Rattle.st_grammar.proofs.Common.{after_token, level_reached, state_or_refusal, on_good, judge_tokens, text_in, deepest, code, Frame, unary, left, bracket, argument, waiting, within, Argument, Need, OuterStatement, Part, target, write_open, first_formal, next_formal, becoming, giving, given, first_label, next_label, labelled, Place, statement, part, closing, operand, operator, opening, BodyState, GlobalTail, State, start, globals, global_tail, between, heading, opened, formals_done, section, typing, inside, over, SectionKind, formals, temps, reduce, expression_end, in_body, step_at, tail_step, next, Lined, all_lined}
use Rattle.st_grammar.specs.inner.Machine as machine
use Rattle.st_grammar.specs.inner.Steps.{at_part, at_typing}
use Rattle.st_grammar.specs.Syntax.{end_on, with_line}
use Rattle.st_grammar.specs.declared.kind.Fixed.TheVariants as fixed
use Rattle.st_grammar.specs.declared.kind.GrammarKind.{GrammarKind}
use Rattle.st_grammar.specs.declared.kind.GrammarKind.TheVariants as kind
use Rattle.st_tree.specs.declared.raw.RawVar.TheVariants as var
use Rattle.st_tree.specs.declared.token.StToken.{StToken}

abbrev end : GrammarKind
end = kind.Fixed fixed.End

closed_end : (d : ℕ) (s : List (Frame code)) (e : machine.ExprIn code) → expression_end code d s e end ≡ None
closed_end d [] e = refl
closed_end d (unary op ∷ s) e = refl
closed_end d (left op a ∷ s) e = refl
closed_end d (bracket ∷ s) e = refl
closed_end d (argument a ∷ s) e = refl
closed_end d (waiting b (machine.to_var v) ∷ s) e = refl
closed_end d (waiting b (machine.to_area w) ∷ s) e = refl
closed_end d (waiting b (machine.area_value w p) ∷ s) e = refl
closed_end d (waiting b (machine.test arms) ∷ s) e = refl
closed_end d (waiting b machine.selector ∷ s) e = refl
closed_end d (waiting b machine.loop_test ∷ s) e = refl
closed_end d (within b y ∷ s) e = refl

body_end : (d : ℕ) (s : List (Frame code)) (body : machine.StatementsIn code) → in_body code d s body end ≡ None
body_end d [] body = refl
body_end d (unary op ∷ s) body = refl
body_end d (left op a ∷ s) body = refl
body_end d (bracket ∷ s) body = refl
body_end d (argument a ∷ s) body = refl
body_end d (waiting b n ∷ s) body = refl
body_end d (within b (machine.choosing arms e) ∷ s) body = refl
body_end d (within b (machine.otherwise arms) ∷ s) body = refl
body_end d (within b (machine.looping e) ∷ s) body = refl
body_end d (within b (machine.selecting e arms labels) ∷ s) body = refl
body_end d (within b (machine.otherwise_case e arms) ∷ s) body = refl

part_end : (d : ℕ) (s : List (Frame code)) (b : machine.BegunStatement code) (x : Part code) →
    at_part code d s b x end ≡ None
part_end d s b (target (var.Name name)) = refl
part_end d s b (target (var.Direct area block w byte bit)) = refl
part_end d s b (write_open w) = refl
part_end d s b (first_formal name) = refl
part_end d s b (next_formal name actuals) = refl
part_end d s b (becoming name actuals formal) = refl
part_end d s b (giving name actuals formal) = refl
part_end d s b (given name actuals) = refl
part_end d s b (first_label e arms) = refl
part_end d s b (next_label e arms labels) = refl
part_end d s b (labelled e arms labels) = refl

step_end : (d : ℕ) (s : List (Frame code)) (p : Place code) → step_at code d s p end ≡ None
step_end d s (statement body) = body_end d s body
step_end d s (part b x) = part_end d s b x
step_end d s (closing before x) = refl
step_end d s operand = refl
step_end d s (operator e) = closed_end (reduce code weakest d s e).depth (reduce code weakest d s e).stack (reduce code weakest d s e).operand
step_end d s (opening f) = refl

tail_end : (name : List ℕ) (x : GlobalTail code) → tail_step code name x end ≡ None
tail_end name machine.at_word = refl
tail_end name machine.at_place = refl
tail_end name (machine.at_colon v) = refl
tail_end name (machine.at_type v) = refl
tail_end name (machine.at_square v) = refl
tail_end name (machine.at_zero v) = refl
tail_end name (machine.at_dots v) = refl
tail_end name (machine.at_last v) = refl
tail_end name (machine.at_close v last) = refl
tail_end name (machine.at_of v last) = refl
tail_end name (machine.at_byte v last) = refl
tail_end name (machine.at_becomes v last) = refl
tail_end name (machine.at_open v last) = refl
tail_end name (machine.at_item v last items) = refl
tail_end name (machine.at_count v last items count) = refl
tail_end name (machine.at_value v last items count) = refl
tail_end name (machine.at_value_end v last items count b) = refl
tail_end name (machine.at_comma v last items) = refl
tail_end name (machine.at_end v ty) = refl

abbrev pub IsOver : State code → Type 0
IsOver (over text) = Unit {0}
IsOver other = ⊥

typing_end : (begun : machine.BegunUnit code) (which : SectionKind code) (done : machine.LocalsIn code) (name : List ℕ) (line : Line) (x : machine.Typing)
    → at_typing code begun which done name line x end ≡ None
typing_end begun which done name line machine.local_colon = refl
typing_end begun which done name line machine.local_type = refl
typing_end begun which done name line (machine.local_end ty) = refl

over_at_end : (q : State code) → IfSome (next code q end) IsOver
over_at_end start = tt
over_at_end (globals done) = tt
over_at_end (global_tail done name line x) =
    subst (λ (o : Option (GlobalTail code)). IfSome (option_map (λ (y : GlobalTail code). global_tail done name line y) o) IsOver) (sym (tail_end name x)) tt
over_at_end (between text) = tt
over_at_end (heading text program line) = tt
over_at_end (opened begun) = tt
over_at_end (formals_done begun f) = tt
over_at_end (section begun which done) = tt
over_at_end (typing begun which done name line x) = subst (λ (o : Option (State code)). IfSome o IsOver) (sym (typing_end begun which done name line x)) tt
over_at_end (inside begun f l at) =
    subst (λ (o : Option (BodyState code)). IfSome (option_map (λ (to : BodyState code). inside begun f l to) o) IsOver)
    (sym (step_end at.depth at.stack at.place)) tt
over_at_end (over text) = tt

after_token_end : (q : State code) → IfSome (after_token q end) IsOver
unfolding after_token
after_token_end q = over_at_end q

-- what is judged good at the end is over
abbrev GoodOver : Result (State code) Rejection → Type 0
GoodOver (Ok q) = IsOver q
GoodOver (Err refused) = Unit {0}

good_end : (o : Option (State code)) (line : Line) → IfSome o IsOver → GoodOver (on_good (state_or_refusal o line) (λ to. Ok to))
good_end None line h = tt
good_end (Some to) line h = by (nat_lt deepest (level_reached to))
  where
    by : (c : Bool) → GoodOver (on_good (if c then Err (Refused line TooDeep) else Ok to) (λ to. Ok to))
    by true = tt
    by false = h

last_judged : (items : List Lined) (line : Line) (q : State code) →
    GoodOver (judge_tokens q (items ++ end_on line ∷ []))
last_judged [] line q = good_end (after_token q end) line (after_token_end q)
last_judged (item ∷ items) line q = by (state_or_refusal (after_token q item.kind) item.line) (λ to. last_judged items line to)
  where
    by : (r : Result (State code) Rejection) → ((to : State code) → GoodOver (judge_tokens to (items ++ end_on line ∷ [])))
        → GoodOver (on_good r (λ to. judge_tokens to (items ++ end_on line ∷ [])))
    by (Ok to) h = h to
    by (Err refused) h = tt

-- the state that is judged good after the end of a text
ends_over : (items : List Lined) (line : Line) (q : State code) → judge_tokens start (items ++ end_on line ∷ []) ≡ Ok q → IsOver q
ends_over items line q e = subst GoodOver e (last_judged items line start)

-- tokens that are judged good come to the end
pub not_over : (tokens : List StToken) (line : Line) (q : State code) → judge_tokens start (all_lined tokens line) ≡ Ok q → text_in q ≡ None → ⊥
not_over tokens line (over t) good e = absurd cc
not_over tokens line other good e = ends_over (map with_line tokens) line other good
