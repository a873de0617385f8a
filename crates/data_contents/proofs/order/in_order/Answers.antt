use Rattle.std.proofs.Common.{rules, ◌≡◌, sym, ap, subst, ◌∙◌, List}
use Rattle.std.proofs.lemmas.List.Sorted.{IsNonDecreasingBy-from_sort_by_key, answers_always}
use Rattle.memory_areas.specs.declared.data_block.DataBlock.{DataBlock}
use Rattle.stl_rules.specs.DataBlocks.{in_order}
use Rattle.data_contents.specs.Order.{AreInOrder}
use Rattle.data_contents.proofs.Ordering.{in_order_is, sorted_in_order}
use Rattle.data_contents.proofs.order.in_order.Goals as goal

pub returns : goal.returns
returns c = record { value = same; order = subst (λ (l : List DataBlock). AreInOrder c.args.blocks l) (sym same) (in_order_is c.args.blocks) }
  where
    same : c.from_vec.result ≡ in_order c.args.blocks
    same =
        c.from_vec.ensures
        ∙ sorted_in_order _ _
        (IsNonDecreasingBy-from_sort_by_key (λ (b : DataBlock). b.number) _ c.in_ok-sort_by_key.ensures.sorted (λ a r q k. search rules))
        (c.in_ok-sort_by_key.ensures.stable (λ (b : DataBlock). b.number) (answers_always _ _ _ (λ f a r g h. search rules)))
        ∙ ap in_order c.into_vec-items.ensures
