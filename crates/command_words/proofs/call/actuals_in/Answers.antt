use Rattle.std.proofs.Common.{rules, arith, ℕ, ◌≡◌, ◌<◌, Some, None, List, length, take, drop, sym}
use Rattle.std.proofs.lemmas.Grind.{common_steps}
use Rattle.command_words.specs.CallWord.{pieces, actual_of, actuals_in}
use Rattle.command_words.proofs.CallPieces.{first_size, pieces_behind, before, at_no_actual, at_actual, at_last, at_comma}
use Rattle.command_words.proofs.call.actuals_in.Goals as goal

pub returns-in-None : goal.returns-in-None
returns-in-None c =
    let rest : List ℕ = c.loop-actual.rest.now in
    let none : actual_of (take (first_size rest) rest) ≡ None = first_of (cc, search rules, grind (arith, common_steps)) in
    sym (at_no_actual c.loop-actual.actuals rest (actuals_in (pieces c.args.text.now)) none c.loop-actual.invariant)

pub returns-then-is_empty : goal.returns-then-is_empty
returns-then-is_empty c =
    let rest : List ℕ = c.loop-actual.rest.now in
    let found : actual_of (take (first_size rest) rest) ≡ Some c.in-Some.actual = first_of (cc, search rules, grind (arith, common_steps)) in
    let put : before c.push.new.self (actuals_in (pieces_behind (drop (first_size rest) rest))) ≡ actuals_in (pieces c.args.text.now) =
    rw (c.in_ok-push-in-Some.ensures.ok)
    (at_actual c.loop-actual.actuals c.in-Some.actual rest (actuals_in (pieces c.args.text.now)) found c.loop-actual.invariant) in
    let empty : length (drop (first_size rest) rest) ≡ 0 = first_of (cc, search rules, grind (arith, common_steps)) in
    sym (at_last c.push.new.self (drop (first_size rest) rest) (actuals_in (pieces c.args.text.now)) empty put)

pub loop-actual-preserved : goal.loop-actual-preserved
loop-actual-preserved c =
    let rest : List ℕ = c.loop-actual.rest.now in
    let found : actual_of (take (first_size rest) rest) ≡ Some c.in-Some.actual = first_of (cc, search rules, grind (arith, common_steps)) in
    let put : before c.push.new.self (actuals_in (pieces_behind (drop (first_size rest) rest))) ≡ actuals_in (pieces c.args.text.now) =
    rw (c.in_ok-push-in-Some.ensures.ok)
    (at_actual c.loop-actual.actuals c.in-Some.actual rest (actuals_in (pieces c.args.text.now)) found c.loop-actual.invariant) in
    let some : 0 < length (drop (first_size rest) rest) = first_of (cc, search rules, grind (arith, common_steps)) in
    let behind : c.rest_after-rest.result.now ≡ drop 1 (drop (first_size rest) rest) = first_of (cc, search rules, grind (arith, common_steps)) in
    rw behind (at_comma c.push.new.self (drop (first_size rest) rest) (actuals_in (pieces c.args.text.now)) some put)
