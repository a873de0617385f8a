use Rattle.std.proofs.Common.{rules, ◌≡◌, ℕ, ◌++◌, List, [], length, map, refl, sym, ap, subst, ◌∙◌, arith}
use Rattle.std.proofs.lemmas.Grind.{common_steps}
use Rattle.std.proofs.lemmas.List.{append-nil}
use Rattle.instruction_lowering.specs.UnitNames.{in_order}
use Rattle.instruction_lowering.specs.inner.UnitOrder.{AreBlocksAt, Pair}
use Rattle.instruction_lowering.proofs.MadeUnits.{weaker_ok}
use Rattle.instruction_lowering.proofs.PairLaws.{sorted_positions}
use Rattle.instruction_lowering.proofs.SortedPairs.{places_from}
use Rattle.instruction_lowering.proofs.unit_order.in_order.Goals as goal

pub returns : goal.returns
returns c =
    let none : c.loop-block.rest.now ≡ [] = first_of (search rules, grind (arith, common_steps)) in
    let all : c.loop-block.places.items ≡ places_from 0 c.args.blocks.now =
    sym (append-nil c.loop-block.places.items)
    ∙ sym (ap (λ rest. c.loop-block.places.items ++ places_from c.loop-block.position rest) none)
    ∙ c.loop-block.invariant in
    weaker_ok c.positions_of.result _ _
    (λ order e.
    subst (λ (ps : List ℕ). AreBlocksAt c.args.blocks.now ps (in_order c.args.blocks.now))
    (sym (e ∙ ap (map (λ (x : Pair). x.1)) c.as_slice.ensures.value))
    (sorted_positions c.args.blocks.now c.loop-block.places.items c.sort.new.self.items all c.in_ok-sort.ensures.permutation c.in_ok-sort.ensures.sorted))
    c.positions_of.ensures
