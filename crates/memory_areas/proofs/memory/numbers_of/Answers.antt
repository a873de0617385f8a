use Rattle.std.proofs.Common.{ℕ, ◌^◌, ◌<◌, sym, subst}
use Rattle.std.specs.Prelude.{All}
use Rattle.memory_areas.proofs.Fresh.{numbers_more, one_number_more}
use Rattle.memory_areas.proofs.memory.numbers_of.Goals as goal

pub loop-block-preserved : goal.loop-block-preserved
loop-block-preserved c =
    let small : c.block-item.result.number < 2 ^ 16 = search in
    record {
      numbers =
          numbers_more c.args.blocks.now c.loop-block.block-index c.block-item.result c.loop-block.numbers.items
          c.push.new.self.items c.loop-block-test.true c.block-item.is c.in_ok-push.ensures.items c.loop-block.invariant.numbers;
      small =
          subst (All (λ (n : ℕ). n < 2 ^ 16)) (sym c.in_ok-push.ensures.items)
          (one_number_more c.loop-block.numbers.items c.block-item.result.number c.loop-block.invariant.small small);
    }
