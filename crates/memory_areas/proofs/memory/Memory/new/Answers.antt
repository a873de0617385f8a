use Rattle.std.proofs.Common.{◌∙◌, ◌^◌, ◌<◌, length, sym, ap, subst, Vec, Global, ℕ}
use Rattle.std.specs.Prelude.{All}
use Rattle.std.proofs.lemmas.List.{length-map}
use Rattle.memory_areas.specs.Areas.{Ascend}
use Rattle.memory_areas.specs.declared.data_block.DataBlock.{DataBlock}
use Rattle.memory_areas.proofs.Blocks.{assembled}
use Rattle.memory_areas.proofs.Fresh.{memory_fresh}
use Rattle.memory_areas.proofs.memory.Memory.new.Goals as goal

pub invariant_of-result : goal.invariant_of-result
invariant_of-result c = (
  sym (length-map c.in_ok-bytes_of.field-0.items (λ (b : Vec ℕ Global). b.items))
      ∙ ap length c.in_ok-bytes_of.ensures.stored
      ∙ length-map c.args.blocks.now (λ (b : DataBlock). b.bytes)
      ∙ sym (length-map c.args.blocks.now (λ (b : DataBlock). b.number))
      ∙ ap length (sym c.in_ok-numbers_of.ensures.numbers),
  subst (Ascend 1) (sym c.in_ok-numbers_of.ensures.numbers) c.requires.ascend,
)

pub returns-clause-fresh : goal.returns-clause-fresh
returns-clause-fresh c =
    assembled _ _ _ _ _ _ _ c.args.blocks.now c.in_ok-zeros.ensures c.in_ok-zeros-2.ensures c.in_ok-zeros-3.ensures
    c.in_ok-numbers_of.ensures.numbers c.in_ok-bytes_of.ensures.stored c.no_locals.ensures c.no_locals-2.ensures

pub returns-clause-memory : goal.returns-clause-memory
returns-clause-memory c =
    memory_fresh c.args.blocks.now _
    (assembled _ _ _ _ _ _ _ c.args.blocks.now c.in_ok-zeros.ensures c.in_ok-zeros-2.ensures c.in_ok-zeros-3.ensures
    c.in_ok-numbers_of.ensures.numbers c.in_ok-bytes_of.ensures.stored c.no_locals.ensures c.no_locals-2.ensures)
    c.in_ok-bytes_of.ensures.small

pub returns-clause-numbers : goal.returns-clause-numbers
returns-clause-numbers c = subst (All (λ (n : ℕ). n < 2 ^ 16)) c.in_ok-numbers_of.ensures.numbers c.in_ok-numbers_of.ensures.small
